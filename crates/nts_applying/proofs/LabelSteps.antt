-- Which labels a response brings to a table, step by step.
use Rattle.std.proofs.Common.{◌≡◌, ◌⊎◌, inl, inr, ⊎_elim, ℕ, suc, ◌<◌, Bool, List, [], ◌∷◌, ◌++◌, map, length, get_or, sym, ap, subst, arith}
use Rattle.std.specs.Prelude.{All}
use Rattle.std.proofs.lemmas.List.Elements.{Contains-get_or}
use Rattle.nts_model.specs.declared.labels.Sort.{Sort}
use Rattle.nts_model.specs.declared.labels.Label.{Label}
use Rattle.nts_model.specs.Terms.Trees.{Tree}
use Rattle.nts_model.specs.Tables.Contents.{Content, Recorded}
use Rattle.nts_model.specs.Lists.{Among}
use Rattle.nts_model.specs.Terms.Substitutions.{filled}
use Rattle.nts_model.specs.Tables.Passing.{TreePasses, PassesQueries, BringsLabelsOf, BringsOnly}
use Rattle.nts_model.proofs.Tables.Bringing.{only-of, only-trans}
use Rattle.nts_theory.proofs.Responses.ChosenLabels.{filled_passes}
use Rattle.nts_theory.proofs.Responses.PositionSorts.{contained_map, contained_among}
use Rattle.nts_store.specs.declared.nodes.NodeId.{NodeId}
use Rattle.nts_store.specs.Growth.{tree_at, AllIn}
use Rattle.nts_terms.specs.declared.cx.Cx.{Cx}
use Rattle.nts_terms.specs.declared.handles.GenericArg.{GenericArg}
use Rattle.nts_terms.specs.declared.modes.VisibleForLeakCheck.{VisibleForLeakCheck}
use Rattle.nts_candidates.specs.declared.data.RegionConstraint.{RegionConstraint}
use Rattle.nts_unify.specs.Reading.{content_of}
use Rattle.nts_table.specs.Tables.{Table}
use Rattle.nts_canonical.specs.Forms.{trees_of}
use Rattle.nts_canonical.specs.Building.{IsArgOf}
use Rattle.nts_response.specs.Forms.{recorded_at}
use Rattle.nts_response.specs.Replacing.{argument_value}
use Rattle.nts_response.specs.Applied.{StepKeeps, IsFillable}
use Rattle.nts_response.specs.Applicable.{IsOverSorts, IsConstraintOver}
use Rattle.nts_response.specs.Recorded.{sides_of, IsRecordable}
use Rattle.nts_response.proofs.EqualLemmas.{filled_same}

-- elements of lists
among_first : {X : Type 0} (xs ys : List X) (x : X) → Among xs x → Among (xs ++ ys) x
among_first [] ys x i = absurd i
among_first (y ∷ xs) ys x i = ⊎_elim (λ e. inl e) (λ j. inr (among_first xs ys x j)) i

among_second : {X : Type 0} (xs ys : List X) (x : X) → Among ys x → Among (xs ++ ys) x
among_second [] ys x i = i
among_second (y ∷ xs) ys x i = inr (among_second xs ys x i)

pub among_either : {X : Type 0} (xs ys : List X) (x : X) → Among (xs ++ ys) x → Among xs x ⊎ Among ys x
among_either [] ys x i = inr i
among_either (y ∷ xs) ys x i = ⊎_elim (λ e. inl (inl e)) (λ j. ⊎_elim (λ k. inl (inr k)) (λ k. inr k) (among_either xs ys x j)) i

among_mapped : {X Y : Type 0} (f : X → Y) (xs : List X) (x : X) → Among xs x → Among (map f xs) (f x)
among_mapped f [] x i = absurd i
among_mapped f (y ∷ xs) x i = ⊎_elim (λ e. inl (ap f e)) (λ j. inr (among_mapped f xs x j)) i

among_viewed : {X V : Type 0} (view : X → V) (xs : List X) (i : ℕ) (d : X) → i < length xs → Among (map view xs) (view (get_or xs i d))
among_viewed view xs i d l = contained_among (map view xs) (view (get_or xs i d)) (contained_map view xs (get_or xs i d) (Contains-get_or xs i d l))

sides_among : (rs : List Recorded) (x : Recorded) → Among rs x → Among (sides_of rs) x.left × Among (sides_of rs) x.right
sides_among [] x i = absurd i
sides_among (r ∷ rs) x i = ⊎_elim
    (λ e. (inl (ap (λ (z : Recorded). z.left) e), inr (inl (ap (λ (z : Recorded). z.right) e))))
    (λ j. let k = sides_among rs x j in (inr (inr k.0), inr (inr k.1))) i

-- the same for trees of other labels
pub only_by : {ts us : List Tree} {c d : Content} → BringsOnly ts c d → ((P : Label → Bool) → PassesQueries P → ((t : Tree) → Among us t → TreePasses P t) → (t : Tree) → Among ts t → TreePasses P t) → BringsOnly us c d
only_by h k = record { labels = λ P q g i. h.labels P q (k P q g) i }

-- two trees of these are related or recorded
only_two : (ts : List Tree) (a b : Tree) (c d e : Content) → Among ts a → Among ts b → BringsOnly ts c d → BringsLabelsOf d e a b → BringsOnly ts c e
only_two ts a b c d e i j h k = only-trans h (only-of ts a b k (λ P q g l. (g a i, g b j)))

module _ (a b : Cx) (t u : Table) (chosen : List NodeId) (s : StepKeeps a b t u) (w : AllIn a.nodes chosen) where
  -- one more original is made equal to its value
  pub equal_brings : (values originals : List GenericArg) (i : ℕ) (d f : GenericArg) (e : Content) → i < length values → length originals ≡ length values
      → All (λ v. IsFillable a.nodes (content_of a.nodes t.entries) (map (tree_at a.nodes) chosen) v.node) values → All (IsArgOf a.nodes t.entries) originals
      → BringsOnly (map (filled (map (tree_at a.nodes) chosen)) (trees_of a.nodes values) ++ trees_of a.nodes originals) (content_of a.nodes t.entries) (content_of b.nodes u.entries)
      → BringsLabelsOf (content_of b.nodes u.entries) e (filled (map (tree_at b.nodes) chosen) (tree_at b.nodes (get_or values i d).node)) (tree_at b.nodes (get_or originals i f).node)
      → BringsOnly (map (filled (map (tree_at a.nodes) chosen)) (trees_of a.nodes values) ++ trees_of a.nodes originals) (content_of a.nodes t.entries) e
  equal_brings values originals i d f e l q fillable args h k =
      let g = s.grows in
      let x = g.extends in
      let m : i < length originals = omega (arith, l, q) in
      let arg = args i f m in
      let held = arg.holds in
      let xs = map (tree_at a.nodes) chosen in
      let vs = map (filled xs) (trees_of a.nodes values) in
      let first = filled_same a b t u chosen (get_or values i d).node s w (fillable i d l) in
      let second = x.kept (get_or originals i f).node held.within in
      only_two (vs ++ trees_of a.nodes originals) (filled xs (tree_at a.nodes (get_or values i d).node)) (tree_at a.nodes (get_or originals i f).node) (content_of a.nodes t.entries) (content_of b.nodes u.entries) e
      (among_first vs (trees_of a.nodes originals) _ (among_mapped (filled xs) (trees_of a.nodes values) _ (among_viewed (argument_value a.nodes) values i d l)))
      (among_second vs (trees_of a.nodes originals) _ (among_viewed (argument_value a.nodes) originals i f m)) h
      (subst (BringsLabelsOf (content_of b.nodes u.entries) e (filled xs (tree_at a.nodes (get_or values i d).node))) second
      (subst (λ y. BringsLabelsOf (content_of b.nodes u.entries) e y (tree_at b.nodes (get_or originals i f).node)) first k))

  -- one more constraint is recorded
  pub recorded_brings : (cs : List (RegionConstraint × VisibleForLeakCheck)) (i : ℕ) (d : RegionConstraint × VisibleForLeakCheck) (e : Content) → i < length cs → All (IsRecordable a.nodes (content_of a.nodes t.entries) (map (tree_at a.nodes) chosen)) cs
      → BringsOnly (map (filled (map (tree_at a.nodes) chosen)) (sides_of (map (recorded_at a.nodes) cs))) (content_of a.nodes t.entries) (content_of b.nodes u.entries)
      → BringsLabelsOf (content_of b.nodes u.entries) e (filled (map (tree_at b.nodes) chosen) (tree_at b.nodes (get_or cs i d).0.left.node)) (filled (map (tree_at b.nodes) chosen) (tree_at b.nodes (get_or cs i d).0.right.node))
      → BringsOnly (map (filled (map (tree_at a.nodes) chosen)) (sides_of (map (recorded_at a.nodes) cs))) (content_of a.nodes t.entries) e
  recorded_brings cs i d e l all h k =
      let x = get_or cs i d in
      let fits = all i d l in
      let xs = map (tree_at a.nodes) chosen in
      let rs = map (recorded_at a.nodes) cs in
      let two = sides_among rs (recorded_at a.nodes x) (among_viewed (recorded_at a.nodes) cs i d l) in
      let first = filled_same a b t u chosen x.0.left.node s w fits.left in
      let second = filled_same a b t u chosen x.0.right.node s w fits.right in
      only_two (map (filled xs) (sides_of rs)) (filled xs (tree_at a.nodes x.0.left.node)) (filled xs (tree_at a.nodes x.0.right.node)) (content_of a.nodes t.entries) (content_of b.nodes u.entries) e
      (among_mapped (filled xs) (sides_of rs) _ two.0) (among_mapped (filled xs) (sides_of rs) _ two.1) h
      (subst (BringsLabelsOf (content_of b.nodes u.entries) e (filled xs (tree_at a.nodes x.0.left.node))) second
      (subst (λ y. BringsLabelsOf (content_of b.nodes u.entries) e y (filled (map (tree_at b.nodes) chosen) (tree_at b.nodes x.0.right.node))) first k))

-- a test that what was chosen passes, and what any query's table may hold, the terms of a response pass once they are filled
module _ (P : Label → Bool) (queries : PassesQueries P) (ts : List Tree) (ss : List Sort) (xs : List Tree) (all : (t : Tree) → Among xs t → TreePasses P t) where
  pub values_pass : (vs : List GenericArg) → All (λ v. IsOverSorts ts ss v.node) vs → (t : Tree) → Among (map (filled xs) (trees_of ts vs)) t → TreePasses P t
  values_pass [] h t i = absurd i
  values_pass (v ∷ vs) h t i = ⊎_elim
      (λ e. subst (λ (z : Tree). TreePasses P z) (sym e) (let o = h 0 v (omega arith) in filled_passes P queries xs (tree_at ts v.node) all o.leaves))
      (λ j. values_pass vs (λ k d l. h (suc k) d (omega (arith, l))) t j) i

  pub sides_pass : (cs : List (RegionConstraint × VisibleForLeakCheck)) → All (IsConstraintOver ts ss) cs → (t : Tree) → Among (map (filled xs) (sides_of (map (recorded_at ts) cs))) t → TreePasses P t
  sides_pass [] h t i = absurd i
  sides_pass (x ∷ cs) h t i = (let k = h 0 x (omega arith) in ⊎_elim
      (λ e. subst (λ (z : Tree). TreePasses P z) (sym e) (let o = k.left in filled_passes P queries xs (tree_at ts x.0.left.node) all o.leaves))
      (λ j. ⊎_elim
      (λ e. subst (λ (z : Tree). TreePasses P z) (sym e) (let o = k.right in filled_passes P queries xs (tree_at ts x.0.right.node) all o.leaves))
      (λ p. sides_pass cs (λ n d l. h (suc n) d (omega (arith, l))) t p) j) i)
