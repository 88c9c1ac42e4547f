-- What relating by a variance leaves of a table, with the goals in an environment.
use Rattle.std.proofs.Common.{◌≡◌, inl, inr, ⊎_elim, Option, None, ℕ, zero, suc, ◌+◌, ◌<◌, ◌≤◌, Bool, true, false, List, [], ◌∷◌, ◌++◌, Some, length, get_or, take, refl, sym, ap, ◌∙◌, subst, arith}
use Rattle.std.specs.Prelude.{Result, Ok, Err, IfOk, OnOk}
use Rattle.std.proofs.lemmas.List.{take_more}
use Rattle.nts_model.specs.declared.labels.Sort.{Sort}
use Rattle.nts_model.specs.declared.labels.Sort.TheVariants as sort
use Rattle.nts_model.specs.declared.labels.Variance.{Variance}
use Rattle.nts_model.specs.declared.labels.Variance.TheVariants as variance
use Rattle.nts_model.specs.declared.labels.ListHead.TheVariants as list
use Rattle.nts_model.specs.declared.labels.Label.TheVariants as label
use Rattle.nts_model.specs.declared.labels.PredicateHead.{PredicateHead}
use Rattle.nts_model.specs.Terms.Trees.{Tree, empty, more, node, children, kind_of, kind_of_label, of_sort, arguments, bound_predicate, any_label, is_alias, IsClosed, IsFormed}
use Rattle.nts_model.specs.Tables.Passing.{BringsLabelsOf}
use Rattle.nts_model.specs.Tables.Contents.{Content}
use Rattle.nts_model.specs.Tables.Resolving.{Knows, IsSound, AllUnset, resolved, deeply_resolved}
use Rattle.nts_model.specs.Tables.Worlds.{World, Solves}
use Rattle.nts_model.specs.Tables.Holding.{Continues}
use Rattle.nts_model.specs.Tables.Equations.{AreRelated, AreUnrelated}
use Rattle.nts_model.specs.Tables.Tying.{TiesNew}
use Rattle.nts_variance_model.specs.Variances.Leaving.{Judge, judging_of, Refuses}
use Rattle.nts_model.specs.Derivations.Related.{pair, unbound, directed}
use Rattle.nts_variance_model.specs.Variances.Relations.{Relating as Pair, AllSettleIn}
use Rattle.nts_model.proofs.Terms.Scoping.{closed_listed}
use Rattle.nts_model.proofs.Tables.Held.{AreOne-continues, Continues-trans}
use Rattle.nts_model.proofs.Tables.Kept.{kind_of-resolved}
use Rattle.nts_model.proofs.Tables.Open.{Knows-resolved, AllUnset-lacks}
use Rattle.nts_model.proofs.Tables.Resolved.{deeply_resolved-resolved, Lacks-resolved}
use Rattle.nts_model.proofs.Tables.Worlds.{inst-resolved}
use Rattle.nts_store.specs.declared.nodes.NodeId.{NodeId}
use Rattle.nts_store.specs.Growth.{tree_at, IsIn, Extends}
use Rattle.nts_store.specs.Sorts.{sort_of_kind}
use Rattle.nts_terms.specs.declared.handles.Goal.{Goal}
use Rattle.nts_terms.specs.declared.handles.ParamEnv.{ParamEnv}
use Rattle.nts_store.proofs.Growing.{IsIn-extended}
use Rattle.nts_terms.proofs.Standing.{args_tree}
use Rattle.nts_unify.specs.Entries.{Entries}
use Rattle.nts_unify.specs.Reading.{content_of, IsLawful}
use Rattle.nts_unify.specs.Lawful.{content_of-extended}
use Rattle.nts_variance.specs.declared.along.Relating.{Relating}
use Rattle.nts_variance.specs.Terms.{pair_at, pairs_at, IsGoal, AreGoals, ArePairs}
use Rattle.nts_variance.specs.Due.{IsNoType, AreUnvaluedPairs}
use Rattle.nts_variance.specs.Goals.{goal_head, goal_of}
use Rattle.nts_variance.proofs.Dues.{aliases_due, list_fresh}
use Rattle.nts_variance.specs.Taking.{Takes, IsPairSide}
use Rattle.nts_variance.specs.Equating.{GoalsRelate}
use Rattle.nts_variance.specs.Rows.{IsListOf, RowsRelate, RefusesRows}
use Rattle.nts_variance.proofs.Growing.{grown_refl}
use Rattle.nts_variance.proofs.Passes.{resolved_passes}
use Rattle.nts_relating.proofs.Plain.{plain_rooted}
use Rattle.nts_unify.specs.Changing.{IsLater}
use Rattle.nts_relating.specs.Relating.{IsPlainIn, KeepsPlain}
use Rattle.nts_variance.proofs.Plainly.{takes_plain, takes_plain_lists, refuses_plain, refuses_plain_lists}
use Rattle.nts_variance.proofs.Takes.{Leaves-from, Refuses-from}
use Rattle.nts_variance.proofs.VaryTurns.{goals_later, pairs_kept}
use Rattle.nts_solver_relating.specs.Sides.{is_list, variance_by, variance_at, CanRelate, SidesRelate, RefusesSides, related_pairs, AreOfOneLength, AreWithin, IsMadeGoal, AreMadeFor, AreGoalsOfPairs, LeavesPairs, LeavesGoals, IsRelatedBy}

-- what a call that succeeded gave
pub if_ok : {A E : Type 0} (r : Result A E) (P Q : A → Type 0) → ((x : A) → P x → Q x) → IfOk r P → IfOk r Q
if_ok (Ok x) P Q h k = h x k
if_ok (Err e) P Q h k = tt

pub on_ok : {A E P : Type 0} (r : Result A E) → P → OnOk r P
on_ok (Ok x) p = p
on_ok (Err e) p = tt

-- a list of arguments is told by its label
list_kind : (t : Tree) → is_list t ≡ true → kind_of t ≡ Some arguments
list_kind empty e = cc
list_kind (more a b) e = cc
list_kind (node (label.List list.Args) c) e = refl
list_kind (node l c) e = cc

kind_list : (t : Tree) → kind_of t ≡ Some arguments → is_list t ≡ true
kind_list t e = ap is_list (args_tree t e)

-- a type is no list, and varies
pub no_list : (t : Tree) → kind_of t ≡ Some (of_sort sort.Ty) → is_list t ≡ false
no_list t e = by (is_list t) refl
  where
    by : (o : Bool) → is_list t ≡ o → is_list t ≡ false
    by false h = h
    by true h = (let one = sym e ∙ list_kind t h in cc one)

type_varies : (t : Tree) (v : Variance) → kind_of t ≡ Some (of_sort sort.Ty) → variance_at t v ≡ v
type_varies empty v e = refl
type_varies (more a b) v e = refl
type_varies (node l c) v e =
    let k : kind_of_label l ≡ of_sort sort.Ty = cc e in
    ap (λ z. variance_by (sort_of_kind z) v) k

pub type_pairs : (v : Variance) (a b : Tree) → kind_of a ≡ Some (of_sort sort.Ty) → related_pairs v a b ≡ record { variance = v; left = a; right = b } ∷ []
type_pairs v a b e = rw (no_list a e, type_varies a v e) refl

-- what is related invariantly does not vary
no_term_list : (t : Tree) (s : Sort) → kind_of t ≡ Some (of_sort s) → is_list t ≡ false
no_term_list t s e = by (is_list t) refl
  where
    by : (o : Bool) → is_list t ≡ o → is_list t ≡ false
    by false h = h
    by true h = (let one = sym e ∙ list_kind t h in cc one)

invariant_by : (o : Option Sort) → variance_by o variance.Invariant ≡ variance.Invariant
invariant_by None = refl
invariant_by (Some sort.Const) = refl
invariant_by (Some sort.Ty) = refl
invariant_by (Some sort.Region) = refl

invariant_at : (t : Tree) → variance_at t variance.Invariant ≡ variance.Invariant
invariant_at empty = refl
invariant_at (more a b) = refl
invariant_at (node l c) = invariant_by (sort_of_kind (kind_of_label l))

term_pairs : (a b : Tree) (s : Sort) → kind_of a ≡ Some (of_sort s) → related_pairs variance.Invariant a b ≡ record { variance = variance.Invariant; left = a; right = b } ∷ []
term_pairs a b s e = rw (no_term_list a s e, invariant_at a) refl

-- what was resolved can be related
pub resolved_side : (ts us : List Tree) (e : Entries) (a r : NodeId) → IsLawful ts e → Extends ts us → IsPairSide ts (content_of ts e) a → IsIn us r → tree_at us r ≡ resolved (content_of ts e) (tree_at ts a) → IsPairSide us (content_of us e) r
resolved_side ts us e a r lawful ext h within is =
    let c = content_of ts e in
    let t = tree_at ts a in
    let same : content_of us e ≡ c = content_of-extended ext lawful in
    let knows : Knows c (resolved c t) = Knows-resolved c t lawful.sound h.knows in
    record { within = within; knows = rw (same, is) knows; sort = h.sort; kind = ap kind_of is ∙ kind_of-resolved c t lawful.sound h.knows ∙ h.kind }

pub side_later : (ts us : List Tree) (e : Entries) (a : NodeId) → IsLawful ts e → Extends ts us → IsPairSide ts (content_of ts e) a → IsPairSide us (content_of us e) a
side_later ts us e a lawful ext h =
    let same : content_of us e ≡ content_of ts e = content_of-extended ext lawful in
    let at : tree_at us a ≡ tree_at ts a = ext.kept a h.within in
    record { within = IsIn-extended ext a h.within; knows = rw (same, at) h.knows; sort = h.sort; kind = rw at h.kind }

pub resolved_later : (ts us vs : List Tree) (e : Entries) (b r : NodeId) → IsLawful ts e → Extends ts us → IsIn ts b → tree_at vs r ≡ resolved (content_of us e) (tree_at us b) → tree_at vs r ≡ resolved (content_of ts e) (tree_at ts b)
resolved_later ts us vs e b r lawful ext within is =
    let same : content_of us e ≡ content_of ts e = content_of-extended ext lawful in
    let at : tree_at us b ≡ tree_at ts b = ext.kept b within in
    is ∙ (λ i. resolved (same i) (at i))

-- what holds of two sides holds in a store that grew
pub left_of : (ts : List Tree) (c : Content) (a b : NodeId) → CanRelate ts c a b → IsIn ts a × Knows c (tree_at ts a)
left_of ts c a b (inl h) = (let x = h.0 in (x.within, x.knows))
left_of ts c a b (inr h) = (let x = h.0 in (x.within, x.knows))

pub right_of : (ts : List Tree) (c : Content) (a b : NodeId) → CanRelate ts c a b → IsIn ts b × Knows c (tree_at ts b)
right_of ts c a b (inl h) = (let x = h.1 in (x.within, x.knows))
right_of ts c a b (inr h) = (let x = h.1 in (x.within, x.knows))

list_later : (ts us : List Tree) (e : Entries) (a : NodeId) → IsLawful ts e → Extends ts us → IsListOf ts (content_of ts e) a → IsListOf us (content_of us e) a
list_later ts us e a lawful ext h =
    let same : content_of us e ≡ content_of ts e = content_of-extended ext lawful in
    let at : tree_at us a ≡ tree_at ts a = ext.kept a h.within in
    record { within = IsIn-extended ext a h.within; knows = rw (same, at) h.knows; kind = rw at h.kind }

pub can_relate_later : (ts us : List Tree) (e : Entries) (a b : NodeId) → IsLawful ts e → Extends ts us → CanRelate ts (content_of ts e) a b → CanRelate us (content_of us e) a b
can_relate_later ts us e a b lawful ext (inl h) = inl (side_later ts us e a lawful ext h.0, side_later ts us e b lawful ext h.1)
can_relate_later ts us e a b lawful ext (inr h) = inr (list_later ts us e a lawful ext h.0, list_later ts us e b lawful ext h.1)

-- .. which keeps contents and trees
pub record AreKept (ts us : List Tree) (e : Entries) (a b : NodeId) : Type 0 where
  pub content : content_of us e ≡ content_of ts e
  pub left : tree_at us a ≡ tree_at ts a
  pub right : tree_at us b ≡ tree_at ts b

pub sides_kept : (ts us : List Tree) (e : Entries) (a b : NodeId) → IsLawful ts e → Extends ts us → CanRelate ts (content_of ts e) a b → AreKept ts us e a b
sides_kept ts us e a b lawful ext h =
    record { content = content_of-extended ext lawful; left = ext.kept a (left_of ts (content_of ts e) a b h).0; right = ext.kept b (right_of ts (content_of ts e) a b h).0 }

pub lists_of : (ts : List Tree) (c : Content) (a b : NodeId) → CanRelate ts c a b → is_list (tree_at ts a) ≡ true → IsListOf ts c a × IsListOf ts c b
lists_of ts c a b (inl h) e =
    let one : Some (of_sort h.0.sort) ≡ Some arguments = sym h.0.kind ∙ list_kind (tree_at ts a) e in cc
lists_of ts c a b (inr h) e = h

pub terms_of : (ts : List Tree) (c : Content) (a b : NodeId) → CanRelate ts c a b → is_list (tree_at ts a) ≡ false → IsPairSide ts c a × IsPairSide ts c b
terms_of ts c a b (inl h) e = h
terms_of ts c a b (inr h) e = (let one = kind_list (tree_at ts a) h.0.kind in cc)

-- the predicate of a goal is of the table
predicate_known : (c : Content) (h : PredicateHead) (a b : Tree) → IsClosed a → IsClosed b → Knows c a → Knows c b → Knows c (unbound (node (label.Predicate h) (pair a b)))
predicate_known c h a b left right ka kb =
    ((tt, tt, refl), (((tt, tt, refl), tt, tt), (((tt, tt, refl), (ka, (kb, tt)), tt), tt)), ((tt, tt), ((tt, (closed_listed empty 0 a left, (closed_listed empty 0 b right, tt))), tt)))

directed_known : (c : Content) (h : PredicateHead) (v : Variance) (a b : Tree) → IsClosed a → IsClosed b → Knows c a → Knows c b → Knows c (directed h v a b)
directed_known c h variance.Invariant a b = predicate_known c h a b
directed_known c h variance.Covariant a b = predicate_known c h a b
directed_known c h variance.Contravariant a b = λ left right ka kb. predicate_known c h b a right left kb ka

goal_known : (c : Content) (p : Pair) → IsGoal p → Knows c p.left → Knows c p.right → Knows c (goal_of p)
goal_known c p g = directed_known c (goal_head p) p.variance p.left p.right g.left g.right

-- a goal's predicate is one
directed_kind : (h : PredicateHead) (v : Variance) (a b : Tree) → kind_of (directed h v a b) ≡ Some bound_predicate
directed_kind h variance.Invariant a b = refl
directed_kind h variance.Covariant a b = refl
directed_kind h variance.Contravariant a b = refl

goal_kind : (p : Pair) → kind_of (goal_of p) ≡ Some bound_predicate
goal_kind p = directed_kind (goal_head p) p.variance p.left p.right

pub are_goals_of : (us ws : List Tree) (c : Content) (env : ParamEnv) (ps : List Relating) (gs : List Goal) → Extends us ws → ArePairs us c ps → AreGoals (pairs_at us ps) → AreMadeFor us ws env ps gs → AreGoalsOfPairs ws c env ps gs
are_goals_of us ws c env [] [] ext known goals made = tt
are_goals_of us ws c env [] (g ∷ gs) ext known goals made = absurd made
are_goals_of us ws c env (p ∷ ps) [] ext known goals made = absurd made
are_goals_of us ws c env (p ∷ ps) (g ∷ gs) ext known goals made =
    let m = made.0 in
    let left = ext.kept p.left known.0.0 in
    let right = ext.kept p.right known.0.1 in
    let same : pair_at ws p ≡ pair_at us p = λ i. record { variance = p.variance; left = left i; right = right i } in
    let is : tree_at ws g.predicate.node ≡ goal_of (pair_at us p) = m.tree in
    let knows : Knows c (goal_of (pair_at us p)) = goal_known c (pair_at us p) goals.0 known.0.2 known.0.3 in (
      record {
        param_env = m.param_env;
        holds = record { within = m.within; fits = ap kind_of is ∙ goal_kind (pair_at us p) };
        knows = subst (Knows c) (sym is) knows;
        tree = is ∙ ap goal_of (sym same);
      },
      are_goals_of us ws c env ps gs ext known.1 goals.1 made.1,
    )

-- one goal after another
pub pairs_within : (ts : List Tree) (c : Content) (gs : List Relating) → ArePairs ts c gs → AreWithin ts gs
pairs_within ts c [] h = tt
pairs_within ts c (g ∷ gs) h = ((h.0.0, h.0.1), pairs_within ts c gs h.1)

pub within_at : (ts : List Tree) (gs : List Relating) (i : ℕ) (d : Relating) → AreWithin ts gs → i < length gs → IsIn ts (get_or gs i d).left × IsIn ts (get_or gs i d).right
within_at ts [] i d h l = absurd (omega (arith, l))
within_at ts (g ∷ gs) zero d h l = h.0
within_at ts (g ∷ gs) (suc i) d h l = within_at ts gs i d h.1 (omega (arith, l))

pub goal_at : (ts us : List Tree) (gs : List Relating) (i : ℕ) (d : Relating) → Extends ts us → AreWithin ts gs → AreGoals (pairs_at ts gs) → i < length gs → IsGoal (pair_at us (get_or gs i d))
goal_at ts us [] i d ext h g l = absurd (omega (arith, l))
goal_at ts us (x ∷ gs) zero d ext h g l = rw (ext.kept x.left h.0.0, ext.kept x.right h.0.1) g.0
goal_at ts us (x ∷ gs) (suc i) d ext h g l = goal_at ts us gs i d ext h.1 g.1 (omega (arith, l))

made_push : (ts us ws : List Tree) (env : ParamEnv) (ps : List Relating) (gs : List Goal) (p : Relating) (g : Goal) → AreMadeFor ts us env ps gs → Extends us ws → IsMadeGoal ts ws env p g → AreMadeFor ts ws env (ps ++ p ∷ []) (gs ++ g ∷ [])
made_push ts us ws env [] [] p g h ext m = (m, tt)
made_push ts us ws env [] (x ∷ gs) p g h ext m = absurd h
made_push ts us ws env (q ∷ ps) [] p g h ext m = absurd h
made_push ts us ws env (q ∷ ps) (x ∷ gs) p g h ext m =
    let o = h.0 in (
      record { param_env = o.param_env; within = IsIn-extended ext x.predicate.node o.within; tree = ext.kept x.predicate.node o.within ∙ o.tree },
      made_push ts us ws env ps gs p g h.1 ext m,
    )

pub one_made : (ts us ws : List Tree) (env : ParamEnv) (ps : List Relating) (gs : List Goal) (g : Goal) (i : ℕ) (d : Relating) → AreMadeFor ts us env (take i ps) gs → Extends ts us → Extends us ws → AreWithin ts ps → g.param_env ≡ env → IsIn ws g.predicate.node
    → tree_at ws g.predicate.node ≡ goal_of (pair_at us (get_or ps i d)) → i < length ps → AreMadeFor ts ws env (take (i + 1) ps) (gs ++ g ∷ [])
one_made ts us ws env ps gs g i d h first ext all at within is l =
    let p = get_or ps i d in
    let sides = within_at ts ps i d all l in
    let left = first.kept p.left sides.0 in
    let right = first.kept p.right sides.1 in
    let same : pair_at us p ≡ pair_at ts p = λ j. record { variance = p.variance; left = left j; right = right j } in
    let next = made_push ts us ws env (take i ps) gs p g h ext (record { param_env = at; within = within; tree = is ∙ ap goal_of same }) in
    subst (λ xs. AreMadeFor ts ws env xs (gs ++ g ∷ [])) (sym (take_more ps i d l)) next

module _ (declared : ℕ → List Variance) where
  -- of two lists, and of two terms
  pub rows_sides : (ts us : List Tree) (e f : Entries) (v : Variance) (a b : Tree) (gs : List Relating) → is_list a ≡ true → RowsRelate declared ts us e f a b gs → LeavesPairs declared ts us e f v a b gs
  rows_sides ts us e f v a b gs is r = record { related = record { long = λ q. r.long; known = r.known; are_goals = r.are_goals; takes = rw is r.takes }; due = λ c le h. aliases_due c (content_of us f) (pairs_at us gs) r.due }

  pub terms_sides : (ts us : List Tree) (e f : Entries) (v w : Variance) (p q : NodeId) (gs : List Relating) → is_list (tree_at ts p) ≡ false → w ≡ variance_at (tree_at ts p) v → GoalsRelate declared ts us e f (record { variance = w; left = p; right = q }) gs → LeavesPairs declared ts us e f v (tree_at ts p) (tree_at ts q) gs
  terms_sides ts us e f v w p q gs is same r =
      record {
        related = record {
          long = λ (h : is_list (tree_at ts p) ≡ true). cc;
          known = r.known;
          are_goals = r.are_goals;
          takes = rw (is, ← same) r.takes;
        };
        due = λ c le. rw (is, ← same) (λ f. r.due c le f.0);
      }

  pub rows_refused : (c : Content) (v : Variance) (a b : Tree) → is_list a ≡ true → RefusesRows declared c a b → RefusesSides declared c v a b
  rows_refused c v a b is (inl apart) = inl (λ h. apart (h is))
  rows_refused c v a b is (inr r) = inr (rw is r)

  pub terms_refused : (c : Content) (v w : Variance) (a b : Tree) → is_list a ≡ false → w ≡ variance_at a v → Refuses declared c (record { variance = w; left = a; right = b } ∷ []) → RefusesSides declared c v a b
  terms_refused c v w a b is same r = inr (rw (is, ← same) r)

  -- the goals that are left
  at_content : (ts ws : List Tree) (e f : Entries) (v : Variance) (a b : Tree) (ps : List Relating) (d : Content) → content_of ws f ≡ d → AreOfOneLength a b → ArePairs ws d ps → AreGoals (pairs_at ws ps) → Takes declared (content_of ts e) d (related_pairs v a b) [] (pairs_at ws ps) → SidesRelate declared ts ws e f v a b ps
  at_content ts ws e f v a b ps d same long known goals takes = record { long = long; known = rw same known; are_goals = goals; takes = rw same takes }

  pub related_by : (ts us ws : List Tree) (e f : Entries) (env : ParamEnv) (v : Variance) (a b : Tree) (ps : List Relating) (gs : List Goal) → LeavesPairs declared ts us e f v a b ps → Extends us ws → IsLawful us f → AreMadeFor us ws env ps gs → LeavesGoals declared ts ws e f env v a b gs
  related_by ts us ws e f env v a b ps gs l ext lawful made =
      let r = l.related in
      let d = content_of us f in
      let same : content_of ws f ≡ d = content_of-extended ext lawful in
      let kept = pairs_kept d ps ext r.known in
      let known = goals_later ps ext (grown_refl d) r.known in
      record {
        pairs = ps;
        left = record { related = at_content ts ws e f v a b ps d same r.long known (rw kept r.are_goals) (rw kept r.takes); due = λ c le h. rw (same, kept) (l.due c le h) };
        goals = rw same (are_goals_of us ws d env ps gs ext r.known r.are_goals made);
      }

  -- two terms are related where they are as resolved
  settle_resolved : (c : Content) (v : Variance) (a b : Tree) → IsSound c → (j : Judge declared) (w : World) → Solves c w → AllSettleIn (judging_of declared j) w (record { variance = v; left = a; right = b } ∷ []) → AllSettleIn (judging_of declared j) w (record { variance = v; left = resolved c a; right = resolved c b } ∷ [])
  settle_resolved c v a b sound j w s h =
      (rw (inst-resolved c w a sound s, inst-resolved c w b sound s) h.0, tt)

  under_resolved : (c f : Content) (a : Tree) → IsSound c → Knows c a → Continues c f → deeply_resolved f (resolved c a) ≡ deeply_resolved f a
  under_resolved c f a sound k on = AreOne-continues c f (resolved c a) a on (Knows-resolved c a sound k) k (deeply_resolved-resolved c a sound)

  plain_resolved : (c : Content) (a : Tree) → IsSound c → IsPlainIn c a → IsPlainIn c (resolved c a)
  plain_resolved c a sound h =
      sym (plain_rooted c (resolved c (resolved c a))) ∙ ap (any_label is_alias) (deeply_resolved-resolved c a sound) ∙ plain_rooted c (resolved c a) ∙ h

  takes_resolved : (c d : Content) (v : Variance) (a b : Tree) (gs : List Pair) → IsSound c → Knows c a → Knows c b → Takes declared c d (record { variance = v; left = resolved c a; right = resolved c b } ∷ []) [] gs → Takes declared c d (record { variance = v; left = a; right = b } ∷ []) [] gs
  takes_resolved c d v a b gs sound ka kb t =
      record {
        later = t.later;
        continues = t.continues;
        leaves = Leaves-from declared c d (record { variance = v; left = resolved c a; right = resolved c b } ∷ []) (record { variance = v; left = a; right = b } ∷ []) [] gs (settle_resolved c v a b sound) t.leaves;
        relates = record {
          related = λ f s on ks g h.
              (let first = Continues-trans c d f sound t.continues on in
              let r = t.relates.related f s on ks g h in
              (rw (← under_resolved c f a sound ka first, ← under_resolved c f b sound kb first) r.0, tt));
        };
        passes = λ P p h i. t.passes P p h (resolved_passes P p c a h i.0, resolved_passes P p c b h i.1, tt);
        plain = λ h. (let pair = h.0 in let x = t.plain ((plain_resolved c a sound pair.0, plain_resolved c b sound pair.1), tt) in (x.0, tt));
      }

  -- in a tree as resolved no variable has a value
  unset_resolved : (c : Content) (t : Tree) → IsSound c → Knows c t → AllUnset c (resolved c t)
  unset_resolved c t sound k = AllUnset-lacks c (resolved c t) sound (Knows-resolved c t sound k) (λ n q. Lacks-resolved c t n sound q)

  -- .. of the types that were resolved in a store that grew
  pub resolved_sides : (ts us ws : List Tree) (e f : Entries) (env : ParamEnv) (v : Variance) (a b : Tree) (gs : List Goal) → IsLawful ts e → Extends ts us → Knows (content_of ts e) a → Knows (content_of ts e) b → kind_of a ≡ Some (of_sort sort.Ty)
      → LeavesGoals declared us ws e f env v (resolved (content_of ts e) a) (resolved (content_of ts e) b) gs → IsRelatedBy declared ts ws e f env v a b gs
  resolved_sides ts us ws e f env v a b gs lawful ext ka kb kind r =
      let c = content_of ts e in
      let same : content_of us e ≡ c = content_of-extended ext lawful in
      let all : length c.slots ≤ length (content_of us e).slots = omega (arith, ap (λ (y : Content). length y.slots) same) in
      let l = r.left in
      let s = l.related in
      let before : kind_of (resolved c a) ≡ Some (of_sort sort.Ty) = kind_of-resolved c a lawful.sound ka ∙ kind in
      let t : Takes declared c (content_of ws f) (record { variance = v; left = resolved c a; right = resolved c b } ∷ []) [] (pairs_at ws r.pairs) = rw (same, type_pairs v (resolved c a) (resolved c b) before) at s.takes in
      record {
        pairs = r.pairs;
        related = record {
          long = λ (q : is_list a ≡ true). (let n = no_list a kind in cc);
          known = s.known;
          are_goals = s.are_goals;
          takes = rw (type_pairs v a b kind) (takes_resolved c (content_of ws f) v a b (pairs_at ws r.pairs) lawful.sound ka kb t);
        };
        goals = r.goals;
        due = l.due c all (rw (type_pairs v (resolved c a) (resolved c b) before) (inr (inr (unset_resolved c a lawful.sound ka, unset_resolved c b lawful.sound kb)), tt));
      }

  -- .. and where the sides are no types, none of which varies
  no_type_fresh : (c : Content) (v : Variance) (a b : Tree) → IsNoType a → AreUnvaluedPairs c (related_pairs v a b)
  no_type_fresh c v a b h = by_list (is_list a) refl
    where
      by_list : (q : Bool) → is_list a ≡ q → AreUnvaluedPairs c (related_pairs v a b)
      by_list true e = rw e (list_fresh c variance.Invariant [] (children a) (children b) refl)
      by_list false e = rw e (inr (inl h), tt)

  pub other_sides : (ts us : List Tree) (e f : Entries) (env : ParamEnv) (v : Variance) (a b : Tree) (gs : List Goal) → IsNoType a → LeavesGoals declared ts us e f env v a b gs → IsRelatedBy declared ts us e f env v a b gs
  other_sides ts us e f env v a b gs h r =
      let l = r.left in
      record { pairs = r.pairs; related = l.related; goals = r.goals; due = l.due (content_of ts e) (omega arith) (no_type_fresh (content_of ts e) v a b h) }

  pub resolved_refused : (ts us : List Tree) (e : Entries) (v : Variance) (a b : Tree) → IsLawful ts e → Extends ts us → Knows (content_of ts e) a → kind_of a ≡ Some (of_sort sort.Ty)
      → RefusesSides declared (content_of us e) v (resolved (content_of ts e) a) (resolved (content_of ts e) b) → RefusesSides declared (content_of ts e) v a b
  resolved_refused ts us e v a b lawful ext ka kind (inl apart) =
      let c = content_of ts e in
      let n = no_list (resolved c a) (kind_of-resolved c a lawful.sound ka ∙ kind) in
      absurd (apart (λ (q : is_list (resolved c a) ≡ true). cc))
  resolved_refused ts us e v a b lawful ext ka kind (inr r) =
      let c = content_of ts e in
      let same : content_of us e ≡ c = content_of-extended ext lawful in
      let before : kind_of (resolved c a) ≡ Some (of_sort sort.Ty) = kind_of-resolved c a lawful.sound ka ∙ kind in
      let one : Refuses declared c (record { variance = v; left = resolved c a; right = resolved c b } ∷ []) = rw (same, type_pairs v (resolved c a) (resolved c b) before) at r in
      inr (rw (type_pairs v a b kind) (Refuses-from declared c (record { variance = v; left = resolved c a; right = resolved c b } ∷ []) (record { variance = v; left = a; right = b } ∷ []) (settle_resolved c v a b lawful.sound) one))

  -- two sides in which no alias stands, made equal
  plain_terms : (ts us : List Tree) (e f : Entries) (p q : NodeId) → IsLawful ts e → IsLawful us f → IsLater (content_of ts e) (content_of us f) → ((n : NodeId) → IsIn ts n → IsFormed (tree_at ts n)) → IsPairSide ts (content_of ts e) p → IsPairSide ts (content_of ts e) q → IsPlainIn (content_of ts e) (tree_at ts p) → IsPlainIn (content_of ts e) (tree_at ts q)
      → KeepsPlain (content_of ts e) (content_of us f) → AreRelated (content_of ts e) (content_of us f) (tree_at ts p) (tree_at ts q) → TiesNew (content_of ts e) (content_of us f) → BringsLabelsOf (content_of ts e) (content_of us f) (tree_at ts p) (tree_at ts q) → SidesRelate declared ts us e f variance.Invariant (tree_at ts p) (tree_at ts q) []
  plain_terms ts us e f p q first lawful later formed left right pa pb kept made ties brings =
      let a = tree_at ts p in
      let b = tree_at ts q in
      let t = takes_plain declared (content_of ts e) (content_of us f) a b right.sort first.sound lawful.sound lawful.proper.solvable later left.knows right.knows (formed q right.within) right.kind pa pb kept made ties brings in
      record {
        long = λ (h : is_list a ≡ true). (let n = no_term_list a left.sort left.kind in cc);
        known = tt;
        are_goals = tt;
        takes = rw (term_pairs a b left.sort left.kind) t;
      }

  plain_lists : (ts us : List Tree) (e f : Entries) (p q : NodeId) → IsLawful ts e → IsLawful us f → IsLater (content_of ts e) (content_of us f) → ((n : NodeId) → IsIn ts n → IsFormed (tree_at ts n)) → IsListOf ts (content_of ts e) p → IsListOf ts (content_of ts e) q → IsPlainIn (content_of ts e) (tree_at ts p) → IsPlainIn (content_of ts e) (tree_at ts q)
      → KeepsPlain (content_of ts e) (content_of us f) → AreRelated (content_of ts e) (content_of us f) (tree_at ts p) (tree_at ts q) → TiesNew (content_of ts e) (content_of us f) → BringsLabelsOf (content_of ts e) (content_of us f) (tree_at ts p) (tree_at ts q) → SidesRelate declared ts us e f variance.Invariant (tree_at ts p) (tree_at ts q) []
  plain_lists ts us e f p q first lawful later formed left right pa pb kept made ties brings =
      let a = tree_at ts p in
      let b = tree_at ts q in
      let t = takes_plain_lists declared (content_of ts e) (content_of us f) a b first.sound lawful.sound lawful.proper.solvable later left.knows right.knows (formed p left.within) (formed q right.within) left.kind right.kind pa pb kept made ties brings in
      record { long = λ h. t.long; known = tt; are_goals = tt; takes = rw (kind_list a left.kind) t.takes }

  pub plain_sides : (ts us : List Tree) (e f : Entries) (p q : NodeId) → CanRelate ts (content_of ts e) p q → IsLawful ts e → IsLawful us f → IsLater (content_of ts e) (content_of us f) → ((n : NodeId) → IsIn ts n → IsFormed (tree_at ts n)) → IsPlainIn (content_of ts e) (tree_at ts p) → IsPlainIn (content_of ts e) (tree_at ts q)
      → KeepsPlain (content_of ts e) (content_of us f) → AreRelated (content_of ts e) (content_of us f) (tree_at ts p) (tree_at ts q) → TiesNew (content_of ts e) (content_of us f) → BringsLabelsOf (content_of ts e) (content_of us f) (tree_at ts p) (tree_at ts q) → SidesRelate declared ts us e f variance.Invariant (tree_at ts p) (tree_at ts q) []
  plain_sides ts us e f p q (inl h) first lawful later formed pa pb kept made ties brings = plain_terms ts us e f p q first lawful later formed h.0 h.1 pa pb kept made ties brings
  plain_sides ts us e f p q (inr h) first lawful later formed pa pb kept made ties brings = plain_lists ts us e f p q first lawful later formed h.0 h.1 pa pb kept made ties brings

  pub plain_related : (ts us : List Tree) (e f : Entries) (env : ParamEnv) (a b : Tree) (gs : List Goal) → gs ≡ [] → SidesRelate declared ts us e f variance.Invariant a b [] → IsRelatedBy declared ts us e f env variance.Invariant a b gs
  plain_related ts us e f env a b gs none h = record { pairs = []; related = h; goals = rw none tt; due = tt }

  pub plain_refused : (ts : List Tree) (c : Content) (p q : NodeId) → CanRelate ts c p q → IsSound c → ((n : NodeId) → IsIn ts n → IsFormed (tree_at ts n)) → IsPlainIn c (tree_at ts p) → IsPlainIn c (tree_at ts q) → AreUnrelated c (tree_at ts p) (tree_at ts q)
      → RefusesSides declared c variance.Invariant (tree_at ts p) (tree_at ts q)
  plain_refused ts c p q (inl h) sound formed pa pb apart =
      let left = h.0 in
      let right = h.1 in
      inr (rw (term_pairs (tree_at ts p) (tree_at ts q) left.sort left.kind) (refuses_plain declared c (tree_at ts p) (tree_at ts q) sound left.knows right.knows pa pb apart))
  plain_refused ts c p q (inr h) sound formed pa pb apart =
      let left = h.0 in
      let right = h.1 in
      let is = kind_list (tree_at ts p) left.kind in
      ⊎_elim (λ other. inl (λ long. other (long is))) (λ r. inr (rw is r))
      (refuses_plain_lists declared c (tree_at ts p) (tree_at ts q) sound left.knows right.knows (formed p left.within) (formed q right.within) left.kind right.kind pa pb apart)

  -- what is said in a store that grew is said in the one before
  pub related_earlier : (ts us ws : List Tree) (e f : Entries) (env : ParamEnv) (v : Variance) (a b : NodeId) (gs : List Goal) → AreKept ts us e a b → IsRelatedBy declared us ws e f env v (tree_at us a) (tree_at us b) gs → IsRelatedBy declared ts ws e f env v (tree_at ts a) (tree_at ts b) gs
  related_earlier ts us ws e f env v a b gs k r =
      let s = rw (k.left, k.right) at r.related in
      record {
        pairs = r.pairs;
        related = record { long = s.long; known = s.known; are_goals = s.are_goals; takes = rw k.content at s.takes };
        goals = r.goals;
        due = rw k.content at r.due;
      }

  pub refused_earlier : (ts us : List Tree) (e : Entries) (v : Variance) (a b : NodeId) → AreKept ts us e a b → RefusesSides declared (content_of us e) v (tree_at us a) (tree_at us b) → RefusesSides declared (content_of ts e) v (tree_at ts a) (tree_at ts b)
  refused_earlier ts us e v a b k r = rw (k.content, k.left, k.right) at r
