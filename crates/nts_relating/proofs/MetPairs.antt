-- Pairs that a call of relating met before may be passed over.
use Rattle.std.proofs.Common.{◌≡◌, ◌⊎◌, inl, inr, ℕ, ◌+◌, ◌<◌, ◌≤◌, Bool, true, false, List, [], ◌∷◌, ◌++◌, None, refl, sym, ap, ◌∙◌, subst, arith}
use Rattle.std.specs.Prelude.{IsTrue, ◌&&◌, not}
use Rattle.std.specs.List.{list_any}
use Rattle.nts_model.specs.declared.labels.Label.{Label}
use Rattle.nts_model.specs.Terms.Trees.{Tree, node, size, children, variable_of}
use Rattle.nts_model.specs.Tables.Contents.{Content}
use Rattle.nts_model.specs.Tables.Resolving.{Knows, IsSound, rooted}
use Rattle.nts_model.specs.Tables.Worlds.{World, inst, renamed}
use Rattle.nts_model.specs.Tables.Holding.{AreOne}
use Rattle.nts_model.specs.Tables.Equations.{Equates, AllAlike, AreRelated}
use Rattle.nts_model.proofs.Terms.Variables.{infer_of_none}
use Rattle.nts_model.proofs.Tables.Instances.{inst-node}
use Rattle.nts_model.proofs.Tables.Held.{AreOne-continues, Continues-refl, Continues-trans}
use Rattle.nts_model.proofs.Tables.Tying.{TiesNew-same}
use Rattle.nts_model.proofs.Tables.Alike.{AreAlike-for, AreAlike-node, AreAlike-continues}
use Rattle.nts_model.proofs.Tables.Resolved.{resolved-node}
use Rattle.indexmap.specs.IndexSet.{insert_key}
use Rattle.nts_store.specs.declared.nodes.NodeId.{NodeId}
use Rattle.nts_store.specs.contracts.nodes.NodeIdPartialEq.TheImpl as id_eq
use Rattle.nts_store.specs.Growth.{tree_at, IsIn, Extends}
use Rattle.nts_store.proofs.Growing.{Extends-refl}
use Rattle.nts_relating.specs.declared.relate.Pair.{Pair}
use Rattle.nts_relating.specs.contracts.relate.PairPartialEq.TheImpl as pair_eq
use Rattle.nts_unify.specs.Entries.{Entries}
use Rattle.nts_unify.specs.Reading.{content_of, IsLawful}
use Rattle.nts_unify.specs.Changing.{IsLater, is_free_region}
use Rattle.nts_relating.specs.Met.{OnenessJudge, of_world, of_table, IsJudgeOf, judged_size, JudgesOne, OneBelow, IsOneAfter, AreOneAfter}
use Rattle.nts_relating.specs.Relating.{IsOpen, IsClosedHead, VariablesRelate, sides_at, all_sides_at, Pushed, IsValid, IsMemo, IsNoted}
use Rattle.nts_unify.proofs.Keeping.{Knows-later, IsLater-refl}
use Rattle.nts_relating.proofs.GenLemmas.{IsFair, unchanged}
use Rattle.nts_relating.proofs.Naming.{lawful_sides, alone_label}
use Rattle.nts_model.proofs.Tables.Bringing.{brings-of, brings-refl}
use Rattle.nts_relating.proofs.Plain.{plain_refl}
use Rattle.nts_relating.proofs.PairLemmas.{Stepped, PairsBring-last, last_pair, all_sides_at-push, all_sides_at-extended, ArePairsIn-push, ArePairsIn-front, ArePairsIn-extended, Equates-push, Equates-front, AllAlike-push, total-last, not_infer, variables_related, variable_same}
use Rattle.nts_store.specs.Equal.{same_id}
use Rattle.nts_unify.proofs.Tests.{is_true, is_false}

-- nodes that are no variables
judged-node : (j : OnenessJudge) (l : Label) (x : Tree) → variable_of l ≡ None → judged_size j (node l x) ≡ judged_size j x + 1
judged-node (of_world w) l x e = ap size (inst-node w l x e)
judged-node (of_table f) l x e = ap (λ t. size (rooted f t)) (resolved-node f l x (infer_of_none l e))

one-node : (j : OnenessJudge) (l : Label) (x y : Tree) → variable_of l ≡ None → JudgesOne j x y → JudgesOne j (node l x) (node l y)
one-node (of_world w) l x y e h = inst-node w l x e ∙ ap (node (renamed w l)) h ∙ sym (inst-node w l y e)
one-node (of_table f) l x y e h = AreAlike-node f l x y (infer_of_none l e) h

-- a side of a pair and what it is under the table
AreEven : OnenessJudge → Tree → Tree → Type 0
AreEven (of_world w) t v = inst w t ≡ inst w v
AreEven (of_table f) t v = AreOne f t v

even_closed : (c : Content) (t v : Tree) (j : OnenessJudge) → IsJudgeOf c j → Knows c t → IsClosedHead c t v → AreEven j t v
unfolding AreEven
even_closed c t v (of_world w) z k h = h.worlds w z
even_closed c t v (of_table f) z k h = AreOne-continues c f t v z.1 k h.knows (ap (rooted c) h.same)

even_size : (j : OnenessJudge) (t v : Tree) → AreEven j t v → judged_size j t ≡ judged_size j v
unfolding AreEven
even_size (of_world w) t v e = ap size e
even_size (of_table f) t v e = ap size e

one_even : (j : OnenessJudge) (a b x y : Tree) → AreEven j x a → AreEven j y b → JudgesOne j a b → JudgesOne j x y
unfolding AreEven
one_even (of_world w) a b x y p q h = p ∙ h ∙ sym q
one_even (of_table f) a b x y p q h = AreAlike-for f a b x y p q h

-- what judges a table judges the one before, and finds the pair one that was related
judge_back : (c d : Content) (a b : Tree) (j : OnenessJudge) → IsSound c → IsFair d → Knows d a → Knows d b → AreRelated c d a b → IsJudgeOf d j → IsJudgeOf c j × JudgesOne j a b
judge_back c d a b (of_world w) s fair ka kb r z = r.sound w z
judge_back c d a b (of_table f) s fair ka kb r z = (
  (z.0, Continues-trans c d f s r.continues z.1),
  AreAlike-continues d f a b fair.sound z.0 z.1 fair.sides ka kb r.alike,
)

-- lists of pairs
below_less : (j : OnenessJudge) (n m : ℕ) (ps : List (Tree × Tree)) → m ≤ n → OneBelow j n ps → OneBelow j m ps
below_less j n m [] l h = tt
below_less j n m (p ∷ ps) l h = ((λ k. h.0 (omega (arith, l, k))), below_less j n m ps l h.1)

below_push : (j : OnenessJudge) (n : ℕ) (ps : List (Tree × Tree)) (p : Tree × Tree) → OneBelow j n ps → (judged_size j p.0 < n → JudgesOne j p.0 p.1) → OneBelow j n (ps ++ p ∷ [])
below_push j n [] p h k = (k, tt)
below_push j n (q ∷ ps) p h k = (h.0, below_push j n ps p h.1 k)

below_world : (w : World) (n : ℕ) (ps : List (Tree × Tree)) → Equates w ps → OneBelow (of_world w) n ps
below_world w n [] h = tt
below_world w n (p ∷ ps) h = ((λ l. h.0), below_world w n ps h.1)

below_table : (f : Content) (n : ℕ) (ps : List (Tree × Tree)) → AllAlike f ps → OneBelow (of_table f) n ps
below_table f n [] h = tt
below_table f n (p ∷ ps) h = ((λ l. h.0), below_table f n ps h.1)

-- a pair that was met is one where the others are
met_one : (c : Content) (ps : List (Tree × Tree)) (p : Tree × Tree) (a b : Tree) (j : OnenessJudge) → IsJudgeOf c j → AreEven j p.0 a → AreEven j p.1 b → IsOneAfter c (ps ++ p ∷ []) (a, b) → OneBelow j (judged_size j a) ps → JudgesOne j p.0 p.1
met_one c ps p a b j z left right m below =
    let even = even_size j p.0 a left in
    one_even j a b p.0 p.1 left right (m.one j z (below_push j (judged_size j a) ps p below (λ l. absurd (omega (arith, even, l)))))

-- .. so it may be passed over
met_passed : (c : Content) (ps : List (Tree × Tree)) (p : Tree × Tree) (a b : Tree) → Knows c p.0 → Knows c p.1 → IsClosedHead c p.0 a → IsClosedHead c p.1 b → IsOneAfter c (ps ++ p ∷ []) (a, b) → (ms : List (Tree × Tree)) → AreOneAfter c (ps ++ p ∷ []) ms → AreOneAfter c ps ms
met_passed c ps p a b kl kr hl hr m [] h = tt
met_passed c ps p a b kl kr hl hr m (q ∷ ms) h = (
  record {
    one = λ j z below.
        (let left = even_closed c p.0 a j z kl hl in
        let right = even_closed c p.1 b j z kr hr in
        let even = even_size j p.0 a left in
        h.0.one j z (below_push j (judged_size j q.0) ps p below
        (λ l. met_one c ps p a b j z left right m (below_less j (judged_size j q.0) (judged_size j a) ps (omega (arith, l, even)) below))));
  },
  met_passed c ps p a b kl kr hl hr m ms h.1,
)

-- a pair whose children are left is one where those are
taken_one : (ts : List Tree) (ps qs : List Pair) (a b : Tree) (l m : Label) (j : OnenessJudge) (n : ℕ) → a ≡ node l (children a) → b ≡ node m (children b) → l ≡ m → variable_of l ≡ None → Pushed ts ps qs (children a) (children b) 0 → judged_size j a ≤ n → OneBelow j n (all_sides_at ts qs) → JudgesOne j a b
taken_one ts ps qs a b l m j n ia ib same alone k le below =
    let large : judged_size j a ≡ judged_size j (children a) + 1 = ap (judged_size j) ia ∙ judged-node j l (children a) alone in
    let inner : JudgesOne j (children a) (children b) = (k.below j n below).1 (omega (arith, large, le)) in
    let other : b ≡ node l (children b) = ib ∙ ap (λ x. node x (children b)) (sym same) in
    subst (λ x. JudgesOne j x b) (sym ia) (subst (λ y. JudgesOne j (node l (children a)) y) (sym other) (one-node j l (children a) (children b) alone inner))

met_taken : (ts : List Tree) (c : Content) (ps qs : List Pair) (p : Tree × Tree) (a b : Tree) (l m : Label) → a ≡ node l (children a) → b ≡ node m (children b) → l ≡ m → variable_of l ≡ None → Knows c p.0 → Knows c p.1 → IsClosedHead c p.0 a → IsClosedHead c p.1 b → Pushed ts ps qs (children a) (children b) 0
    → (ms : List (Tree × Tree)) → AreOneAfter c (all_sides_at ts ps ++ p ∷ []) ms → AreOneAfter c (all_sides_at ts qs) (ms ++ (a, b) ∷ [])
met_taken ts c ps qs p a b l m ia ib same alone kl kr hl hr k [] h =
    (record { one = λ j z below. taken_one ts ps qs a b l m j (judged_size j a) ia ib same alone k (omega arith) below }, tt)
met_taken ts c ps qs p a b l m ia ib same alone kl kr hl hr k (q ∷ ms) h = (
  record {
    one = λ j z below.
        (let left = even_closed c p.0 a j z kl hl in
        let right = even_closed c p.1 b j z kr hr in
        let even = even_size j p.0 a left in
        h.0.one j z (below_push j (judged_size j q.0) (all_sides_at ts ps) p (k.below j (judged_size j q.0) below).0
        (λ less. one_even j a b p.0 p.1 left right (taken_one ts ps qs a b l m j (judged_size j q.0) ia ib same alone k (omega (arith, less, even)) below))));
  },
  met_taken ts c ps qs p a b l m ia ib same alone kl kr hl hr k ms h.1,
)

-- after the pair was made one
met_done : (c d : Content) (ps : List (Tree × Tree)) (p : Tree × Tree) → IsSound c → IsFair d → Knows d p.0 → Knows d p.1 → AreRelated c d p.0 p.1 → (ms : List (Tree × Tree)) → AreOneAfter c (ps ++ p ∷ []) ms → AreOneAfter d ps ms
met_done c d ps p s fair kl kr r [] h = tt
met_done c d ps p s fair kl kr r (q ∷ ms) h = (
  record {
    one = λ j z below.
        (let back = judge_back c d p.0 p.1 j s fair kl kr r z in
        h.0.one j back.0 (below_push j (judged_size j q.0) ps p below (λ l. back.1)));
  },
  met_done c d ps p s fair kl kr r ms h.1,
)

pub memo_done : (ts us : List Tree) (e f : Entries) (ps ms : List Pair) (p : Pair) → IsValid ts e (ps ++ p ∷ []) → Extends ts us → IsLawful us f → IsLater (content_of ts e) (content_of us f) → AreRelated (content_of ts e) (content_of us f) (tree_at ts p.left) (tree_at ts p.right) → IsMemo ts e (ps ++ p ∷ []) ms → IsMemo us f ps ms
memo_done ts us e f ps ms p v x h later r o =
    let c = content_of ts e in
    let d = content_of us f in
    let last = last_pair ts e ps p v in
    let before : AreOneAfter c (all_sides_at ts ps ++ sides_at ts p ∷ []) (all_sides_at ts ms) = rw (all_sides_at-push ts ps p) at o.met in
    record {
      within = ArePairsIn-extended ms x o.within;
      met = rw (all_sides_at-extended ms x o.within, all_sides_at-extended ps x last.front.within)
          (met_done c d (all_sides_at ts ps) (sides_at ts p) v.lawful.sound (record { sound = h.sound; sides = lawful_sides us f h }) (Knows-later (tree_at ts p.left) later last.left_known) (Knows-later (tree_at ts p.right) later last.right_known) r (all_sides_at ts ms) before);
    }

-- two variables made one, or one variable twice
pub memo_variables : (ts us : List Tree) (e f : Entries) (ps ms : List Pair) (p : Pair) (x y : ℕ) (bound : Bool) → IsValid ts e (ps ++ p ∷ []) → Extends ts us → IsOpen ts e (tree_at ts p.left) x → IsOpen ts e (tree_at ts p.right) y → VariablesRelate ts us e f x y bound → IsMemo ts e (ps ++ p ∷ []) ms → IsMemo us f ps ms
memo_variables ts us e f ps ms p x y true v ext o q r h =
    let m = r.made refl in
    let last = last_pair ts e ps p v in
    memo_done ts us e f ps ms p v ext m.0 m.1.later (variables_related ts us e f (tree_at ts p.left) (tree_at ts p.right) x y last.left_known last.right_known o q m.1) h
memo_variables ts us e f ps ms p x y false v ext o q r h =
    let same = r.same refl in
    let store : us ≡ ts = same.0 in
    let is : f ≡ e = same.1 in
    rw (store, is) (memo_done ts ts e e ps ms p v (Extends-refl ts) v.lawful (IsLater-refl (content_of ts e)) (variable_same ts e (tree_at ts p.left) (tree_at ts p.right) x y v.lawful o q same.2) h)

-- two nodes whose children are left
pub memo_pushed : (ts : List Tree) (e : Entries) (ps qs ms ns : List Pair) (p : Pair) (a b : NodeId) (l m : Label) → IsValid ts e (ps ++ p ∷ []) → IsIn ts a → IsIn ts b → IsClosedHead (content_of ts e) (tree_at ts p.left) (tree_at ts a) → IsClosedHead (content_of ts e) (tree_at ts p.right) (tree_at ts b)
    → tree_at ts a ≡ node l (children (tree_at ts a)) → tree_at ts b ≡ node m (children (tree_at ts b)) → l ≡ m → is_free_region l ≡ false → Pushed ts ps qs (children (tree_at ts a)) (children (tree_at ts b)) 0 → ns ≡ ms ++ record { left = a; right = b } ∷ []
    → IsMemo ts e (ps ++ p ∷ []) ms → IsMemo ts e qs ns
memo_pushed ts e ps qs ms ns p a b l m v na nb ha hb ia ib same not_free k new o =
    let c = content_of ts e in
    let last = last_pair ts e ps p v in
    let here : Pair = record { left = a; right = b } in
    let alone : variable_of l ≡ None = alone_label l (not_infer (tree_at ts a) l ia ha.no_variable) not_free in
    let before : AreOneAfter c (all_sides_at ts ps ++ sides_at ts p ∷ []) (all_sides_at ts ms) = rw (all_sides_at-push ts ps p) at o.met in
    rw new (record {
      within = ArePairsIn-push ts ms here o.within na nb;
      met = rw (all_sides_at-push ts ms here)
          (met_taken ts c ps qs (sides_at ts p) (tree_at ts a) (tree_at ts b) l m ia ib same alone last.left_known last.right_known ha hb k (all_sides_at ts ms) before);
    })

same_pair : (p q : Pair) → pair_eq.ghosts.eq p q ≡ true → p ≡ q
same_pair p q h = both (id_eq.ghosts.eq p.left q.left) (id_eq.ghosts.eq p.right q.right) (same_id p.left q.left).0 (same_id p.right q.right).0 h
  where
    both : (x y : Bool) → (IsTrue x → p.left ≡ q.left) → (IsTrue y → p.right ≡ q.right) → (x && y) ≡ true → p ≡ q
    both true true f g h = let l = f refl in let r = g refl in λ i. record { left = l i; right = r i }
    both true false f g h = cc
    both false y f g h = cc

met_at : (ts : List Tree) (c : Content) (left : List (Tree × Tree)) (ms : List Pair) (p : Pair) → list_any (pair_eq.ghosts.eq p) ms ≡ true → AreOneAfter c left (all_sides_at ts ms) → IsOneAfter c left (sides_at ts p)
met_at ts c left [] p h k = cc
met_at ts c left (q ∷ ms) p h k = by_case (pair_eq.ghosts.eq p q) refl (λ e. met_at ts c left ms p (rw e at h) k.1)
  where
    by_case : (x : Bool) → pair_eq.ghosts.eq p q ≡ x → (pair_eq.ghosts.eq p q ≡ false → IsOneAfter c left (sides_at ts p)) → IsOneAfter c left (sides_at ts p)
    by_case true e rest = subst (λ o. IsOneAfter c left (sides_at ts o)) (sym (same_pair p q e)) k.0
    by_case false e rest = rest e

pub met_keys : (ms : List Pair) (p : Pair) → list_any (pair_eq.ghosts.eq p) ms ≡ true → insert_key pair_eq.ghosts.eq ms p ≡ ms
met_keys ms p h = rw h refl

pub new_keys : (ms : List Pair) (p : Pair) → list_any (pair_eq.ghosts.eq p) ms ≡ false → insert_key pair_eq.ghosts.eq ms p ≡ ms ++ p ∷ []
new_keys ms p h = rw h refl

-- what the table of pairs says of one that is noted in it
pub noted : (ms ns : List Pair) (p : Pair) (is_new : Bool) → is_new ≡ not (list_any (pair_eq.ghosts.eq p) ms) → ns ≡ insert_key pair_eq.ghosts.eq ms p → IsNoted ms ns p is_new
noted ms ns p is_new added keys = record {
  known = λ f. (let found = is_true _ _ added f in (found, keys ∙ met_keys ms p found));
  new = λ t. inr (keys ∙ new_keys ms p (is_false _ _ added t));
}

-- a pair that is left out
front_met : (c : Content) (left ps : List (Tree × Tree)) (p : Tree × Tree) → AreOneAfter c left (ps ++ p ∷ []) → AreOneAfter c left ps
front_met c left [] p h = tt
front_met c left (q ∷ ps) p h = (h.0, front_met c left ps p h.1)

pub memo_noted : (ts : List Tree) (e : Entries) (qs ms ns : List Pair) (p : Pair) → (ns ≡ ms) ⊎ (ns ≡ ms ++ p ∷ []) → IsMemo ts e qs (ms ++ p ∷ []) → IsMemo ts e qs ns
memo_noted ts e qs ms ns p (inl same) o =
    let c = content_of ts e in
    let met : AreOneAfter c (all_sides_at ts qs) (all_sides_at ts ms ++ sides_at ts p ∷ []) = rw (all_sides_at-push ts ms p) at o.met in
    rw same (record {
      within = (ArePairsIn-front ts ms p o.within).0;
      met = front_met c (all_sides_at ts qs) (all_sides_at ts ms) (sides_at ts p) met;
    })
memo_noted ts e qs ms ns p (inr longer) o = rw longer o

-- a pair that was met is passed over
pub record Passed (ts : List Tree) (e : Entries) (ps ms : List Pair) (p : Pair) : Type 0 where
  pub stepped : Stepped ts ts e e ps ps p false
  pub memo : IsMemo ts e ps ms

pub passed_met : (ts : List Tree) (e : Entries) (ps ms : List Pair) (p : Pair) (a b : NodeId) → IsValid ts e (ps ++ p ∷ []) → IsClosedHead (content_of ts e) (tree_at ts p.left) (tree_at ts a) → IsClosedHead (content_of ts e) (tree_at ts p.right) (tree_at ts b) → list_any (pair_eq.ghosts.eq (record { left = a; right = b })) ms ≡ true → IsMemo ts e (ps ++ p ∷ []) ms → Passed ts e ps ms p
passed_met ts e ps ms p a b v ha hb found o =
    let c = content_of ts e in
    let last = last_pair ts e ps p v in
    let before : AreOneAfter c (all_sides_at ts ps ++ sides_at ts p ∷ []) (all_sides_at ts ms) = rw (all_sides_at-push ts ps p) at o.met in
    let m = met_at ts c (all_sides_at ts ps ++ sides_at ts p ∷ []) ms (record { left = a; right = b }) found before in
    let one = λ (j : OnenessJudge) (z : IsJudgeOf c j) (below : OneBelow j (judged_size j (tree_at ts a)) (all_sides_at ts ps)).
    met_one c (all_sides_at ts ps) (sides_at ts p) (tree_at ts a) (tree_at ts b) j z (even_closed c (tree_at ts p.left) (tree_at ts a) j z last.left_known ha) (even_closed c (tree_at ts p.right) (tree_at ts b) j z last.right_known hb) m below in
    record {
      stepped = record {
        valid = last.front;
        step = record {
          later = IsLater-refl c;
          reduces = rw (all_sides_at-push ts ps p) (record {
            continues = Continues-refl c v.lawful.sound;
            sound = λ w z q. (z, Equates-push w (all_sides_at ts ps) (sides_at ts p) q (one (of_world w) z (below_world w (judged_size (of_world w) (tree_at ts a)) (all_sides_at ts ps) q)));
            complete = λ w z q. (unchanged c w z, (Equates-front w (all_sides_at ts ps) (sides_at ts p) q).0);
            alike = λ f h next q. AllAlike-push f (all_sides_at ts ps) (sides_at ts p) q (one (of_table f) (h, next) (below_table f (judged_size (of_table f) (tree_at ts a)) (all_sides_at ts ps) q));
          });
          brings = rw (all_sides_at-push ts ps p) (PairsBring-last c c (all_sides_at ts ps) (sides_at ts p) (brings-of (tree_at ts p.left) (tree_at ts p.right) (brings-refl c)) last.front.known (λ i j. plain_refl c));
          ties = TiesNew-same c c refl;
          fewer = λ (q : false ≡ true). cc;
          smaller = λ q. (omega (arith, total-last ts c ps p), refl);
        };
      };
      memo = record {
        within = o.within;
        met = met_passed c (all_sides_at ts ps) (sides_at ts p) (tree_at ts a) (tree_at ts b) last.left_known last.right_known ha hb m (all_sides_at ts ms) before;
      };
    }
