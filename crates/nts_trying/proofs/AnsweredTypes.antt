-- Goals that relating left, as a later table knows them: where they are among those at hand, the pairs are answered.
use Rattle.std.proofs.Common.{◌≡◌, ◌≢◌, ◌⊎◌, inl, inr, ⊎_elim, Bool, true, false, List, [], ◌∷◌, map, Some, refl, ap, ◌∙◌, subst}
use Rattle.std.specs.Prelude.{◌||◌, cond}
use Rattle.nts_model.specs.declared.labels.Sort.TheVariants as sort
use Rattle.nts_model.specs.declared.labels.Variance.{Variance}
use Rattle.nts_model.specs.declared.labels.Variance.TheVariants as variance
use Rattle.nts_model.specs.declared.labels.PredicateHead.{PredicateHead}
use Rattle.nts_model.specs.declared.labels.PredicateHead.TheVariants as predicate
use Rattle.nts_model.specs.Terms.Trees.{Tree, empty, more, node, is_alias, kind_of, of_sort, IsClosed, IsFormed}
use Rattle.nts_model.specs.Tables.Contents.{Content}
use Rattle.nts_model.specs.Tables.Resolving.{Knows, IsSound, deeply_resolved}
use Rattle.nts_model.specs.Tables.Holding.{Continues}
use Rattle.nts_model.specs.Lists.{Among}
use Rattle.nts_model.specs.Derivations.Related.{IsAlias, directed, direction_of}
use Rattle.nts_model.specs.Derivations.Proving.{HoldsTerms}
use Rattle.nts_model.proofs.Tables.AlikeNodes.{alias_label_is, closed_alias}
use Rattle.nts_model.proofs.Tables.Kept.{kind_of-deeply_resolved}
use Rattle.nts_model.proofs.Tables.ResolvedTerms.{IsClosed-deeply_resolved}
use Rattle.nts_model.proofs.Tables.Slots.{Knows-kept}
use Rattle.nts_model.proofs.Terms.Unpositioned.{formed_term, known_no_positions, known_well_bound}
use Rattle.nts_variance_model.specs.Variances.AnsweredGoals.{IsAnswered, AllAnswered}
use Rattle.nts_variance_model.specs.Variances.Relations.{Relating as Pair}
use Rattle.nts_variance_model.proofs.Variances.SettleRows.{alias_or_none}
use Rattle.nts_theory.proofs.Aliases.ByRelating.{resolved_about}
use Rattle.nts_theory.proofs.Aliases.ChosenValues.{alias_resolved}
use Rattle.nts_store.specs.Formed.{AreFormed}
use Rattle.nts_store.specs.Growth.{tree_at}
use Rattle.nts_terms.specs.declared.handles.Goal.{Goal}
use Rattle.nts_terms.specs.declared.handles.ParamEnv.{ParamEnv}
use Rattle.nts_variance.specs.declared.along.Relating.{Relating}
use Rattle.nts_variance.specs.Goals.{is_alias_node, expects_first, goal_head, goal_of}
use Rattle.nts_variance.specs.Terms.{pair_at, pairs_at, IsGoal, AreGoals, ArePairs}
use Rattle.nts_solver_relating.specs.Sides.{AreGoalsOfPairs}

resolved_goal : (f : Content) (h : PredicateHead) (v : Variance) (a b : Tree) → deeply_resolved f (directed h v a b) ≡ directed h v (deeply_resolved f a) (deeply_resolved f b)
resolved_goal f h variance.Invariant a b = resolved_about f h a b
resolved_goal f h variance.Covariant a b = resolved_about f h a b
resolved_goal f h variance.Contravariant a b = resolved_about f h b a

-- which predicate a pair has
alias_node : (t : Tree) → IsAlias t → is_alias_node t ≡ true
alias_node t x = ap is_alias_node x.is ∙ alias_label_is x.head

plain_node : (c : Content) (t : Tree) → Knows c t → IsFormed t → IsClosed t → (IsAlias t → ⊥) → is_alias_node t ≡ false
plain_node c empty k f h none = refl
plain_node c (more a b) k f h none = refl
plain_node c (node l x) k f h none = by_label (is_alias l) refl
  where
    by_label : (z : Bool) → is_alias l ≡ z → is_alias l ≡ false
    by_label true e = absurd (none (closed_alias l x (formed_term (node l x) f (known_no_positions c (node l x) k) (known_well_bound c (node l x) k)) e h))
    by_label false e = e

some_alias : (a b : Bool) → (a ≡ true) ⊎ (b ≡ true) → (a || b) ≡ true
some_alias true b e = refl
some_alias false b (inl e) = cc
some_alias false b (inr e) = e

alias_head : (p : Pair) → IsAlias p.left ⊎ IsAlias p.right → goal_head p ≡ predicate.AliasRelate (direction_of p.variance)
alias_head p x =
    let some = some_alias (is_alias_node p.left) (is_alias_node p.right) (⊎_elim (λ y. inl (alias_node p.left y)) (λ y. inr (alias_node p.right y)) x) in
    ap (λ z. cond z (predicate.AliasRelate (direction_of p.variance)) (predicate.Subtype (expects_first p.variance))) some

type_head : (p : Pair) → is_alias_node p.left ≡ false → is_alias_node p.right ≡ false → goal_head p ≡ predicate.Subtype (expects_first p.variance)
type_head p e h = rw (e, h) refl

module _ (f : Content) (s : IsSound f) (t : HoldsTerms f) (ks : List Tree) where
  goal_answered : (p : Pair) → IsGoal p → IsFormed p.left → IsFormed p.right → Knows f p.left → Knows f p.right → Among ks (deeply_resolved f (goal_of p)) → IsAnswered f ks p
  goal_answered p g fl fr kl kr i = by_left (alias_or_none p.left)
    where
      left : IsClosed (deeply_resolved f p.left)
      left = IsClosed-deeply_resolved f p.left t g.left

      right : IsClosed (deeply_resolved f p.right)
      right = IsClosed-deeply_resolved f p.right t g.right

      with_head : (h : PredicateHead) → goal_head p ≡ h → Among ks (directed h p.variance (deeply_resolved f p.left) (deeply_resolved f p.right))
      with_head h e = subst (Among ks) (resolved_goal f (goal_head p) p.variance p.left p.right ∙ ap (λ x. directed x p.variance (deeply_resolved f p.left) (deeply_resolved f p.right)) e) i

      by_alias : IsAlias p.left ⊎ IsAlias p.right → IsAlias (deeply_resolved f p.left) ⊎ IsAlias (deeply_resolved f p.right) → IsAnswered f ks p
      by_alias x y = inl (y, left, right, with_head (predicate.AliasRelate (direction_of p.variance)) (alias_head p x))

      by_types : (IsAlias p.left → ⊥) → (IsAlias p.right → ⊥) → (IsAlias p.left ⊎ IsAlias p.right) ⊎ ((p.variance ≢ variance.Invariant) × (kind_of p.left ≡ Some (of_sort sort.Ty)) × (kind_of p.right ≡ Some (of_sort sort.Ty))) → IsAnswered f ks p
      by_types n m (inl (inl x)) = absurd (n x)
      by_types n m (inl (inr x)) = absurd (m x)
      by_types n m (inr x) =
          let head = type_head p (plain_node f p.left kl fl g.left n) (plain_node f p.right kr fr g.right m) in
          inr (expects_first p.variance, x.0, kind_of-deeply_resolved f p.left s kl ∙ x.1, kind_of-deeply_resolved f p.right s kr ∙ x.2, left, right, with_head (predicate.Subtype (expects_first p.variance)) head)

      by_right : (IsAlias p.left → ⊥) → IsAlias p.right ⊎ (IsAlias p.right → ⊥) → IsAnswered f ks p
      by_right n (inl x) = by_alias (inr x) (inr (alias_resolved f p.right t x))
      by_right n (inr m) = by_types n m g.rests

      by_left : IsAlias p.left ⊎ (IsAlias p.left → ⊥) → IsAnswered f ks p
      by_left (inl x) = by_alias (inl x) (inl (alias_resolved f p.left t x))
      by_left (inr n) = by_right n (alias_or_none p.right)

  -- each of the pairs, whose goals a store has
  pub pairs_answered : (us : List Tree) (d : Content) (env : ParamEnv) → AreFormed us → Continues d f → (ps : List Relating) (gs : List Goal) → ArePairs us d ps → AreGoals (pairs_at us ps) → AreGoalsOfPairs us d env ps gs
      → ((k : Tree) → Among (map (deeply_resolved f) (map (λ g. tree_at us g.predicate.node) gs)) k → Among ks k) → AllAnswered f ks (pairs_at us ps)
  pairs_answered us d env formed on [] gs known goals are has = tt
  pairs_answered us d env formed on (p ∷ ps) [] known goals are has = absurd are
  pairs_answered us d env formed on (p ∷ ps) (g ∷ gs) known goals are has =
      let later : (x : Tree) → Knows d x → Knows f x = λ x k. Knows-kept d f x (record { grows = on.grows; kinds = on.kinds }) k in
      let one = are.0 in (
        goal_answered (pair_at us p) goals.0 (formed p.left known.0.0) (formed p.right known.0.1) (later _ known.0.2) (later _ known.0.3)
            (subst (λ z. Among ks (deeply_resolved f z)) one.tree (has (deeply_resolved f (tree_at us g.predicate.node)) (inl refl))),
        pairs_answered us d env formed on ps gs known.1 goals.1 are.1 (λ k i. has k (inr i)),
      )
