-- A call of relating under way, by terms of the store: one pair is taken.
use Rattle.std.proofs.Common.{◌≡◌, inl, inr, ⊎_elim, ℕ, ◌+◌, ◌<◌, ◌≤◌, List, [], ◌∷◌, ◌++◌, refl, sym, ap, ◌∙◌, subst, arith}
use Rattle.std.proofs.lemmas.List.{append-nil, map-append}
use Rattle.nts_model.specs.declared.labels.Variance.{Variance}
use Rattle.nts_model.specs.declared.labels.AliasHead.TheVariants as alias_of
use Rattle.nts_model.specs.Tables.Contents.{Content}
use Rattle.nts_model.specs.Terms.Trees.{Tree, empty, more, node, size, kind_of, IsFormed}
use Rattle.nts_model.specs.Tables.Resolving.{IsSound, Knows, deeply_resolved}
use Rattle.nts_model.specs.Lists.{Among}
use Rattle.nts_model.specs.Derivations.Related.{rest_variances}
use Rattle.nts_variance_model.specs.Variances.Relations.{ArePairsKnown}
use Rattle.nts_variance_model.specs.Variances.Leaving.{Refuses}
use Rattle.nts_variance_model.specs.Variances.Relations.{Relating as Pair}
use Rattle.nts_variance_model.specs.Variances.Forms.{Form, a_constructor, a_function, a_value, an_alias, over, variances_over, FitsForm, pairs_over}
use Rattle.nts_variance_model.proofs.Variances.Forms.{deeply_resolved-over, variances_over_length}
use Rattle.nts_variance_model.proofs.Variances.Meeting.{AreSmaller}
use Rattle.nts_store.specs.declared.nodes.NodeId.{NodeId}
use Rattle.nts_store.specs.Growth.{tree_at, Extends}
use Rattle.nts_store.proofs.Growing.{IsIn-extended, Extends-refl}
use Rattle.nts_unify.specs.Entries.{Entries}
use Rattle.nts_unify.specs.Reading.{content_of, IsLawful}
use Rattle.nts_variance.specs.declared.along.Relating.{Relating}
use Rattle.nts_variance.specs.Steps.{stacked}
use Rattle.nts_variance.specs.Walking.{IsTableGrown}
use Rattle.nts_variance.specs.Parts.{form_of_tree, parts_of}
use Rattle.nts_variance.specs.Terms.{pair_at, pairs_at, AreGoals, ArePairs}
use Rattle.nts_variance.specs.Due.{LeavesDue}
use Rattle.nts_variance.specs.Taking.{IsExact, Waits, AllWait, Takes, IsLeft, IsPairSide, IsPair, ArePairsLeft, AreOfOneForm, ArePartsPaired, left_sizes, Sense, HoldsIn, size_in, IsUnderway, IsCall}
use Rattle.nts_variance.proofs.Debts.{goals_to, AreGoals-append}
use Rattle.nts_variance.proofs.Growing.{Knows-grown}
use Rattle.nts_variance.proofs.Nodes.{parts_known, parts_formed}
use Rattle.nts_variance.proofs.Runs.{stacked-push}
use Rattle.nts_variance.proofs.Takes.{pair_of, takes_over}
use Rattle.nts_variance.proofs.Underway.{underway_start, underway_end, underway_taken, underway_fewer, underway_passed, underway_refuses, underway_back, underway_again}
use Rattle.nts_variance.proofs.VaryTurns.{known_pairs, goals_later, pairs_kept}
use Rattle.nts_model.proofs.Tables.TableInstances.{deeply_resolved-more}

-- lists of pairs
pub pairs_front : (ts : List Tree) (c : Content) (xs : List Relating) (y : Relating) → ArePairsLeft ts c (xs ++ y ∷ []) → ArePairsLeft ts c xs × IsPair ts c y
pairs_front ts c [] y h = (tt, h.0)
pairs_front ts c (x ∷ xs) y h = (let r = pairs_front ts c xs y h.1 in ((h.0, r.0), r.1))

side_later : {ts us : List Tree} {c d : Content} (t : NodeId) → Extends ts us → IsTableGrown c d → IsPairSide ts c t → IsPairSide us d t
side_later {ts} t e l h =
    let at = e.kept t h.within in
    record { within = IsIn-extended e t h.within; knows = rw at (Knows-grown (tree_at ts t) l h.knows); sort = h.sort; kind = ap kind_of at ∙ h.kind }

pub pairs_later : {ts us : List Tree} {c d : Content} (xs : List Relating) → Extends ts us → IsTableGrown c d → ArePairsLeft ts c xs → ArePairsLeft us d xs
pairs_later [] e l h = tt
pairs_later (x ∷ xs) e l h = (record { left = side_later x.left e l h.0.left; right = side_later x.right e l h.0.right }, pairs_later xs e l h.1)

pub stacked_kept : {ts us : List Tree} (c : Content) (xs : List Relating) → Extends ts us → ArePairsLeft ts c xs → stacked (pair_at us) xs ≡ stacked (pair_at ts) xs
stacked_kept c [] e h = refl
stacked_kept c (x ∷ xs) e h =
    let left = e.kept x.left h.0.left.within in
    let right = e.kept x.right h.0.right.within in
    let rest = stacked_kept c xs e h.1 in
    λ i. rest i ++ record { variance = x.variance; left = left i; right = right i } ∷ []

known_push : (c : Content) (xs : List Pair) (y : Pair) → ArePairsKnown c xs → Knows c y.left → Knows c y.right → ArePairsKnown c (xs ++ y ∷ [])
known_push c [] y h a b = (a, b, tt)
known_push c (x ∷ xs) y h a b = (h.0, h.1, known_push c xs y h.2 a b)

pub known_stack : (ts : List Tree) (c : Content) (xs : List Relating) → ArePairsLeft ts c xs → ArePairsKnown c (stacked (pair_at ts) xs)
known_stack ts c [] h = tt
known_stack ts c (x ∷ xs) h = known_push c (stacked (pair_at ts) xs) (pair_at ts x) (known_stack ts c xs h.1) h.0.left.knows h.0.right.knows

pub pair_known : (ts : List Tree) (c : Content) (q : Relating) → IsPair ts c q → ArePairs ts c (q ∷ [])
pair_known ts c q h = ((h.left.within, h.right.within, h.left.knows, h.right.knows), tt)

pub pairs_joined : (ts : List Tree) (c : Content) (xs ys : List Relating) → ArePairs ts c xs → ArePairs ts c ys → ArePairs ts c (xs ++ ys)
pairs_joined ts c [] ys a b = b
pairs_joined ts c (x ∷ xs) ys a b = (a.0, pairs_joined ts c xs ys a.1 b)

-- pairs with sorted sides are pairs of the table
pub bare_pairs : (ts : List Tree) (c : Content) (xs : List Relating) → ArePairsLeft ts c xs → ArePairs ts c xs
bare_pairs ts c [] h = tt
bare_pairs ts c (x ∷ xs) h = ((h.0.left.within, h.0.right.within, h.0.left.knows, h.0.right.knows), bare_pairs ts c xs h.1)

left_joined : (ts : List Tree) (c : Content) (xs ys : List Relating) → ArePairsLeft ts c xs → ArePairsLeft ts c ys → ArePairsLeft ts c (xs ++ ys)
left_joined ts c [] ys a b = b
left_joined ts c (x ∷ xs) ys a b = (a.0, left_joined ts c xs ys a.1 b)

waits_later : {ts us : List Tree} (c : Content) (xs : List Relating) → Extends ts us → ArePairs ts c xs → AllWait ts xs → AllWait us xs
waits_later c [] e h k = tt
waits_later c (x ∷ xs) e h k = (
  ⊎_elim (λ p. inl p) (λ p. inr (⊎_elim (λ i. inl (subst IsExact (sym (e.kept x.left h.0.0)) i)) (λ i. inr (subst IsExact (sym (e.kept x.right h.0.1)) i)) p)) k.0,
  waits_later c xs e h.1 k.1,
)

pub waits_front : (ts : List Tree) (xs : List Relating) (y : Relating) → AllWait ts (xs ++ y ∷ []) → AllWait ts xs × Waits ts y
waits_front ts [] y h = (tt, h.0)
waits_front ts (x ∷ xs) y h = (let r = waits_front ts xs y h.1 in ((h.0, r.0), r.1))

waits_joined : (ts : List Tree) (xs ys : List Relating) → AllWait ts xs → AllWait ts ys → AllWait ts (xs ++ ys)
waits_joined ts [] ys a b = b
waits_joined ts (x ∷ xs) ys a b = (a.0, waits_joined ts xs ys a.1 b)

pub joined_at : {ts us : List Tree} (c : Content) (xs ys zs : List Relating) → Extends ts us → ArePairs ts c xs → zs ≡ xs ++ ys → pairs_at us zs ≡ pairs_at ts xs ++ pairs_at us ys
joined_at {ts} {us} c xs ys zs e h q = ap (pairs_at us) q ∙ map-append (pair_at us) xs ys ∙ ap (λ x. x ++ pairs_at us ys) (pairs_kept c xs e h)

-- the parts of a node are smaller than it
over_larger : (F : Form) (x : Tree) → size x < size (over F x)
over_larger (a_constructor i) x = omega arith
over_larger (a_function ss) x = omega arith
over_larger (a_value b) x = omega arith
over_larger (an_alias (alias_of.Ty i)) x = omega arith
over_larger (an_alias (alias_of.Const i)) x = omega arith

sizes_joined : (xs ys : List Pair) → left_sizes (xs ++ ys) ≡ left_sizes xs + left_sizes ys
sizes_joined [] ys = omega arith
sizes_joined (x ∷ xs) ys = (let rest = sizes_joined xs ys in omega (arith, rest))

sizes_over : (v : Variance) (ws : List Variance) (ts us : Tree) → left_sizes (pairs_over v ws ts us) ≤ size ts
sizes_over v ws empty us = omega arith
sizes_over v ws (node l c) us = omega arith
sizes_over v ws (more a ts) empty = omega arith
sizes_over v ws (more a ts) (node l c) = omega arith
sizes_over v ws (more a ts) (more b us) = (let rest = sizes_over v (rest_variances ws) ts us in omega (arith, rest))

module _ (declared : ℕ → List Variance) where
  row_smaller : (w : Sense) (v : Variance) (ws : List Variance) (n : ℕ) (ts us : Tree) → size (deeply_resolved w.table ts) < n → AreSmaller (size_in declared) (HoldsIn declared) w n (pairs_over v ws ts us)
  row_smaller w v ws n empty us l = tt
  row_smaller w v ws n (node x c) us l = tt
  row_smaller w v ws n (more a ts) empty l = tt
  row_smaller w v ws n (more a ts) (node x c) l = tt
  row_smaller w v ws n (more a ts) (more b us) l =
      let f = w.table in
      let long : size (deeply_resolved f a) + size (deeply_resolved f ts) + 1 < n = subst (λ x. size x < n) (deeply_resolved-more f a ts) l in
      (omega (arith, long), row_smaller w v (rest_variances ws) n ts us (omega (arith, long)))

  parts_smaller : (w : Sense) (v : Variance) (ws : List Variance) (a : Tree) (ts us : Tree) (F : Form) → a ≡ over F ts → FitsForm F ts → AreSmaller (size_in declared) (HoldsIn declared) w (size (deeply_resolved w.table a)) (pairs_over v ws ts us)
  parts_smaller w v ws a ts us F is fits =
      let f = w.table in
      let same : deeply_resolved f a ≡ over F (deeply_resolved f ts) = ap (deeply_resolved f) is ∙ deeply_resolved-over f F ts fits in
      let larger = over_larger F (deeply_resolved f ts) in
      row_smaller w v ws (size (deeply_resolved f a)) ts us (subst (λ x. size (deeply_resolved f ts) < size x) (sym same) larger)

  parts_taken : (c : Content) (v : Variance) (a b : Tree) → IsSound c → Knows c a → Knows c b → AreOfOneForm a b → Takes declared c c (pair_of v a b ∷ []) (pairs_over v (variances_over declared (form_of_tree a) (parts_of a)) (parts_of a) (parts_of b)) []
  parts_taken c v a b sound ka kb one =
      let F = form_of_tree a in
      let ts = parts_of a in
      let us = parts_of b in
      let left = one.left in
      let right = one.right in
      let x : a ≡ over F ts = left.with_parts.is in
      let y : b ≡ over F us = right.with_parts.is ∙ ap (λ z. over z us) (sym one.form) in
      let row = left.with_parts.row in
      let row' = right.with_parts.row in
      let fits : FitsForm F us = subst (λ z. FitsForm z us) (sym one.form) right.fits in
      let at = takes_over declared c v F ts us sound row row' one.long left.fits fits (parts_known c F ts (subst (Knows c) x ka)) (parts_known c F us (subst (Knows c) y kb)) (parts_formed F ts (subst IsFormed x left.formed)) (parts_formed F us (subst IsFormed y right.formed)) in
      let same = variances_over_length declared F ts us row row' one.long in
      let on = subst (λ ws. Takes declared c c (pair_of v (over F ts) (over F us) ∷ []) (pairs_over v ws ts us) []) (sym same) at in
      let ps = pairs_over v (variances_over declared F ts) ts us in
      subst (λ z. Takes declared c c (pair_of v a z ∷ []) ps []) (sym y) (subst (λ z. Takes declared c c (pair_of v z (over F us) ∷ []) ps []) (sym x) on)

  -- what was met, with one pair more
  met_last : (us : List Tree) (ms : List Relating) (q : Relating) (x : Pair) → Among (pairs_at us (ms ++ q ∷ [])) x → Among (pair_at us q ∷ pairs_at us ms) x
  met_last us [] q x i = i
  met_last us (m ∷ ms) q x i = ⊎_elim (λ h. inr (inl h)) (λ h. ⊎_elim (λ k. inl k) (λ k. inr (inr k)) (met_last us ms q x h)) i

  met_push : (us : List Tree) (c : Content) (ms : List Relating) (q : Relating) → ArePairs us c ms → IsPair us c q → ArePairs us c (ms ++ q ∷ [])
  met_push us c ms q h k = pairs_joined us c ms (q ∷ []) h (pair_known us c q k)

  -- a pair was taken, which leaves no pairs to take
  pub call_taken : (ts us ws : List Tree) (e f g : Entries) (p q : Relating) (ps ms es gs os hs es' gs' : List Relating) → IsCall declared ts us e f p (ps ++ q ∷ []) ms es gs → Extends us ws → IsLawful ws g → ArePairsLeft ws (content_of ws g) os → AllWait ws os → ArePairs ws (content_of ws g) hs → AreGoals (pairs_at ws hs)
      → Takes declared (content_of us f) (content_of ws g) (pair_at us q ∷ []) (pairs_at ws os) (pairs_at ws hs) → es' ≡ es ++ os → gs' ≡ gs ++ hs → IsCall declared ts ws e g p ps ms es' gs'
  call_taken ts us ws e f g p q ps ms es gs os hs es' gs' u ext lawful ko wait kh ah t qe qg =
      let c = content_of ts e in
      let d = content_of us f in
      let k = content_of ws g in
      let front = pairs_front us d ps q u.pairs in
      let here = stacked-push (pair_at us) ps q in
      let before : IsUnderway declared c d (pair_at ts p) (pair_at us q ∷ stacked (pair_at us) ps) (pairs_at us es) (pairs_at us gs) (pairs_at us ms) = rw here at u.going in
      let taken = underway_taken declared c d k (pair_at ts p) (pair_at us q) (stacked (pair_at us) ps) (pairs_at us es) (pairs_at us gs) (pairs_at us ms) [] (pairs_at ws os) (pairs_at ws hs) u.start u.lawful.sound (known_stack us d ps front.0) (known_pairs us d es (bare_pairs us d es u.equal)) (known_pairs us d gs u.goals) t (λ w s on. tt) before in
      let fewer = underway_fewer declared c k (pair_at ts p) (stacked (pair_at us) ps) (pairs_at us es ++ pairs_at ws os) (pairs_at us gs ++ pairs_at ws hs) (pair_at us q ∷ pairs_at us ms) (pairs_at us ms) (λ x i. inr i) taken in
      record {
        start = u.start;
        lawful = lawful;
        pairs = pairs_later ps ext t.later front.0;
        met = goals_later ms ext t.later u.met;
        waits = rw qe (waits_joined ws es os (waits_later d es ext (bare_pairs us d es u.equal) u.waits) wait);
        equal = rw qe (left_joined ws k es os (pairs_later es ext t.later u.equal) ko);
        goals = rw qg (pairs_joined ws k gs hs (goals_later gs ext t.later u.goals) kh);
        are_goals = goals_to (joined_at d gs hs gs' ext u.goals qg) (AreGoals-append (pairs_at us gs) (pairs_at ws hs) u.are_goals ah);
        going = rw (stacked_kept d ps ext front.0, joined_at d es os es' ext (bare_pairs us d es u.equal) qe, joined_at d gs hs gs' ext u.goals qg, pairs_kept d ms ext u.met) fewer;
      }

  -- .. and it is one that was met
  pub call_left : (ts us : List Tree) (e f : Entries) (p q : Relating) (ps ms ns es gs os hs es' gs' : List Relating) → IsCall declared ts us e f p (ps ++ q ∷ []) ms es gs → ArePairsLeft us (content_of us f) os → AllWait us os → ArePairs us (content_of us f) hs → AreGoals (pairs_at us hs)
      → Takes declared (content_of us f) (content_of us f) (pair_at us q ∷ []) (pairs_at us os) (pairs_at us hs) → es' ≡ es ++ os → gs' ≡ gs ++ hs → ns ≡ ms ++ q ∷ [] → IsCall declared ts us e f p ps ns es' gs'
  call_left ts us e f p q ps ms ns es gs os hs es' gs' u ko wait kh ah t qe qg new =
      let c = content_of ts e in
      let d = content_of us f in
      let front = pairs_front us d ps q u.pairs in
      let here = stacked-push (pair_at us) ps q in
      let before : IsUnderway declared c d (pair_at ts p) (pair_at us q ∷ stacked (pair_at us) ps) (pairs_at us es) (pairs_at us gs) (pairs_at us ms) = rw here at u.going in
      let taken = underway_taken declared c d d (pair_at ts p) (pair_at us q) (stacked (pair_at us) ps) (pairs_at us es) (pairs_at us gs) (pairs_at us ms) [] (pairs_at us os) (pairs_at us hs) u.start u.lawful.sound (known_stack us d ps front.0) (known_pairs us d es (bare_pairs us d es u.equal)) (known_pairs us d gs u.goals) t (λ w s on. tt) before in
      let fewer = underway_fewer declared c d (pair_at ts p) (stacked (pair_at us) ps) (pairs_at us es ++ pairs_at us os) (pairs_at us gs ++ pairs_at us hs) (pair_at us q ∷ pairs_at us ms) (pairs_at us (ms ++ q ∷ [])) (met_last us ms q) taken in
      let ext = Extends-refl us in
      record {
        start = u.start;
        lawful = u.lawful;
        pairs = front.0;
        met = rw new (met_push us d ms q u.met front.1);
        waits = rw qe (waits_joined us es os u.waits wait);
        equal = rw qe (left_joined us d es os u.equal ko);
        goals = rw qg (pairs_joined us d gs hs u.goals kh);
        are_goals = goals_to (joined_at d gs hs gs' ext u.goals qg) (AreGoals-append (pairs_at us gs) (pairs_at us hs) u.are_goals ah);
        going = rw (joined_at d es os es' ext (bare_pairs us d es u.equal) qe, joined_at d gs hs gs' ext u.goals qg, new) fewer;
      }

  -- two nodes whose parts are left
  pub call_parts : (ts us : List Tree) (e f : Entries) (p q : Relating) (ps rs ms ns es gs : List Relating) → IsCall declared ts us e f p (ps ++ q ∷ []) ms es gs → AreOfOneForm (tree_at us q.left) (tree_at us q.right) → ArePartsPaired declared us q ps rs → ns ≡ ms ++ q ∷ [] → IsCall declared ts us e f p rs ns es gs
  call_parts ts us e f p q ps rs ms ns es gs u one pushed new =
      let c = content_of ts e in
      let d = content_of us f in
      let a = tree_at us q.left in
      let b = tree_at us q.right in
      let front = pairs_front us d ps q u.pairs in
      let pair = front.1 in
      let here = stacked-push (pair_at us) ps q in
      let before : IsUnderway declared c d (pair_at ts p) (pair_at us q ∷ stacked (pair_at us) ps) (pairs_at us es) (pairs_at us gs) (pairs_at us ms) = rw here at u.going in
      let parts = pairs_over q.variance (variances_over declared (form_of_tree a) (parts_of a)) (parts_of a) (parts_of b) in
      let t = parts_taken d q.variance a b u.lawful.sound pair.left.knows pair.right.knows one in
      let t' : Takes declared d d (pair_at us q ∷ []) (parts ++ []) [] = rw (append-nil parts) t in
      let left = one.left in
      let taken = underway_taken declared c d d (pair_at ts p) (pair_at us q) (stacked (pair_at us) ps) (pairs_at us es) (pairs_at us gs) (pairs_at us ms) parts [] [] u.start u.lawful.sound (known_stack us d ps front.0) (known_pairs us d es (bare_pairs us d es u.equal)) (known_pairs us d gs u.goals) t'
      (λ w s on. parts_smaller w q.variance (variances_over declared (form_of_tree a) (parts_of a)) a (parts_of a) (parts_of b) (form_of_tree a) left.with_parts.is left.fits) before in
      let plain : IsUnderway declared c d (pair_at ts p) (parts ++ stacked (pair_at us) ps) (pairs_at us es) (pairs_at us gs) (pair_at us q ∷ pairs_at us ms) = rw (append-nil (pairs_at us es), append-nil (pairs_at us gs)) at taken in
      let fewer = underway_fewer declared c d (pair_at ts p) (parts ++ stacked (pair_at us) ps) (pairs_at us es) (pairs_at us gs) (pair_at us q ∷ pairs_at us ms) (pairs_at us (ms ++ q ∷ [])) (met_last us ms q) plain in
      record {
        start = u.start;
        lawful = u.lawful;
        pairs = pushed.known d pair.left.knows pair.right.knows front.0;
        met = rw new (met_push us d ms q u.met pair);
        equal = u.equal;
        waits = u.waits;
        goals = u.goals;
        are_goals = u.are_goals;
        going = rw (pushed.pairs, new) fewer;
      }

  -- a pair that was met before
  pub call_passed : (ts us : List Tree) (e f : Entries) (p q : Relating) (ps ms ns es gs : List Relating) → IsCall declared ts us e f p (ps ++ q ∷ []) ms es gs → Among (pairs_at us ms) (pair_at us q) → ns ≡ ms → IsCall declared ts us e f p ps ns es gs
  call_passed ts us e f p q ps ms ns es gs u found same =
      let c = content_of ts e in
      let d = content_of us f in
      let here = stacked-push (pair_at us) ps q in
      let before : IsUnderway declared c d (pair_at ts p) (pair_at us q ∷ stacked (pair_at us) ps) (pairs_at us es) (pairs_at us gs) (pairs_at us ms) = rw here at u.going in
      rw same (record {
        start = u.start;
        lawful = u.lawful;
        pairs = (pairs_front us d ps q u.pairs).0;
        met = u.met;
        equal = u.equal;
        waits = u.waits;
        goals = u.goals;
        are_goals = u.are_goals;
        going = underway_passed declared c d (pair_at ts p) (pair_at us q) (stacked (pair_at us) ps) (pairs_at us es) (pairs_at us gs) (pairs_at us ms) found before;
      })

  -- no solution relates one that is left
  pub call_refuses : (ts us : List Tree) (e f : Entries) (p q : Relating) (ps ms es gs : List Relating) → IsCall declared ts us e f p (ps ++ q ∷ []) ms es gs → Refuses declared (content_of us f) (pair_at us q ∷ []) → Refuses declared (content_of ts e) (pair_at ts p ∷ [])
  call_refuses ts us e f p q ps ms es gs u r =
      let c = content_of ts e in
      let d = content_of us f in
      let here = stacked-push (pair_at us) ps q in
      let before : IsUnderway declared c d (pair_at ts p) (pair_at us q ∷ stacked (pair_at us) ps) (pairs_at us es) (pairs_at us gs) (pairs_at us ms) = rw here at u.going in
      underway_refuses declared c d (pair_at ts p) (pair_at us q) (stacked (pair_at us) ps) (pairs_at us es) (pairs_at us gs) (pairs_at us ms) before r

  -- at first and in the end
  pub call_start : (ts : List Tree) (e : Entries) (p : Relating) (ps : List Relating) → IsLawful ts e → IsPair ts (content_of ts e) p → ps ≡ p ∷ [] → IsCall declared ts ts e e p ps [] [] []
  call_start ts e p ps lawful pair is =
      rw is (record { start = lawful.sound; lawful = lawful; pairs = (pair, tt); met = tt; equal = tt; waits = tt; goals = tt; are_goals = tt; going = underway_start declared (content_of ts e) (pair_at ts p) lawful.sound })

  pub call_end : (ts us : List Tree) (e f : Entries) (p : Relating) (ps ms es gs : List Relating) → IsCall declared ts us e f p ps ms es gs → ps ≡ [] → LeavesDue (content_of ts e) (content_of us f) (pair_at ts p) (pairs_at us gs) → IsLeft declared ts us e f p es gs
  call_end ts us e f p ps ms es gs u none due =
      let last : IsUnderway declared (content_of ts e) (content_of us f) (pair_at ts p) [] (pairs_at us es) (pairs_at us gs) (pairs_at us ms) = rw none at u.going in
      record { pairs = u.equal; waits = u.waits; goals = u.goals; are_goals = u.are_goals; takes = underway_end declared (content_of ts e) (content_of us f) (pair_at ts p) (pairs_at us es) (pairs_at us gs) (pairs_at us ms) last; due = due }

  -- what a call left is for later, and is taken after all
  pub call_again : (ts us : List Tree) (e f : Entries) (p : Relating) (es gs : List Relating) → IsSound (content_of ts e) → IsLawful us f → IsLeft declared ts us e f p es gs → IsCall declared ts us e f p [] [] es gs
  call_again ts us e f p es gs start lawful l =
      record {
        start = start;
        lawful = lawful;
        pairs = tt;
        met = tt;
        equal = l.pairs;
        waits = l.waits;
        goals = l.goals;
        are_goals = l.are_goals;
        going = underway_again declared (content_of ts e) (content_of us f) (pair_at ts p) (pairs_at us es) (pairs_at us gs) l.takes;
      }

  pub call_back : (ts us : List Tree) (e f : Entries) (p q : Relating) (ps es gs : List Relating) → IsCall declared ts us e f p ps [] (es ++ q ∷ []) gs → IsCall declared ts us e f p (ps ++ q ∷ []) [] es gs
  call_back ts us e f p q ps es gs u =
      let c = content_of ts e in
      let d = content_of us f in
      let front = pairs_front us d es q u.equal in
      let before : IsUnderway declared c d (pair_at ts p) (stacked (pair_at us) ps) (pairs_at us es ++ pair_at us q ∷ []) (pairs_at us gs) [] = rw (map-append (pair_at us) es (q ∷ [])) at u.going in
      record {
        start = u.start;
        lawful = u.lawful;
        pairs = left_joined us d ps (q ∷ []) u.pairs (front.1, tt);
        met = tt;
        equal = front.0;
        waits = (waits_front us es q u.waits).0;
        goals = u.goals;
        are_goals = u.are_goals;
        going = rw (stacked-push (pair_at us) ps q) (underway_back declared c d (pair_at ts p) (pair_at us q) (stacked (pair_at us) ps) (pairs_at us es) (pairs_at us gs) before);
      }

  -- what was met may be forgotten
  pub call_forgets : (ts us : List Tree) (e f : Entries) (p : Relating) (ps ms es gs : List Relating) → IsCall declared ts us e f p ps ms es gs → IsCall declared ts us e f p ps [] es gs
  call_forgets ts us e f p ps ms es gs u =
      record {
        start = u.start;
        lawful = u.lawful;
        pairs = u.pairs;
        met = tt;
        equal = u.equal;
        waits = u.waits;
        goals = u.goals;
        are_goals = u.are_goals;
        going = underway_fewer declared (content_of ts e) (content_of us f) (pair_at ts p) (stacked (pair_at us) ps) (pairs_at us es) (pairs_at us gs) (pairs_at us ms) [] (λ x i. absurd i) u.going;
      }

  -- for the measure
  pub taken_less : (us ws : List Tree) (c : Content) (ps : List Relating) (q : Relating) → Extends us ws → ArePairsLeft us c (ps ++ q ∷ []) → left_sizes (stacked (pair_at ws) ps) < left_sizes (stacked (pair_at us) (ps ++ q ∷ []))
  taken_less us ws c ps q ext h =
      let front = pairs_front us c ps q h in
      rw (stacked_kept c ps ext front.0, stacked-push (pair_at us) ps q) (omega arith)

  pub parts_less : (us : List Tree) (ps rs : List Relating) (q : Relating) → AreOfOneForm (tree_at us q.left) (tree_at us q.right) → ArePartsPaired declared us q ps rs → left_sizes (stacked (pair_at us) rs) < left_sizes (stacked (pair_at us) (ps ++ q ∷ []))
  parts_less us ps rs q one pushed =
      let a = tree_at us q.left in
      let b = tree_at us q.right in
      let left = one.left in
      let ws = variances_over declared (form_of_tree a) (parts_of a) in
      let small = sizes_over q.variance ws (parts_of a) (parts_of b) in
      let larger = over_larger (form_of_tree a) (parts_of a) in
      let whole : size a ≡ size (over (form_of_tree a) (parts_of a)) = ap size left.with_parts.is in
      let joined = sizes_joined (pairs_over q.variance ws (parts_of a) (parts_of b)) (stacked (pair_at us) ps) in
      rw (pushed.pairs, stacked-push (pair_at us) ps q) (omega (arith, small, larger, whole, joined))
