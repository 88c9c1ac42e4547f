-- What follows from some constraints and premises follows from more.
use Rattle.std.specs.Prelude.{ℕ, List}
use Rattle.std.proofs.Common.{inl, inr}
use Rattle.nts_model.specs.declared.labels.Variance.{Variance}
use Rattle.nts_model.specs.Terms.Trees.{Tree}
use Rattle.nts_model.specs.Derivations.Related.{Constraint, unbound, Related, AreRelatedByArgument, one_tree, regions, constructors, functions, values, open_aliases, aliases, subtypes, no_more, and_more}
use Rattle.nts_model.specs.Derivations.Sequents.{Premise, Hidden}
use Rattle.nts_model.specs.Derivations.Rules.{GoalKind, Meaning, Mode, Equation, related, alike, HoldsEquation, goal_kind, Replaced, chosen, kept_empty, kept_more, kept_node, Stands, IsResult, IsConstResult, RelatedIn, AreResultsRelated, IsBuiltIn, region_lives, type_lives, subtyped, coerced, const_typed, error_typed, allowed, dyn_compatible, formed, constant_evaluated, value_evaluated, error_evaluated, alias_evaluated, aliases_relate, IsApplied, IsPlainRule, IsRule}

module _ {V : ℕ → List Variance} {S : Tree → Type 0} {H : Constraint → Type 0} {P P' : Tree → Type 0} (p : (t : Tree) → P t → P' t) where
  mutual
    pub related_more : {v : Variance} {a b : Tree} → Related V S H P v a b → Related V S H P' v a b
    related_more (one_tree same) = one_tree same
    related_more (regions i j holds) = regions i j holds
    related_more (constructors rs) = constructors (are_related_more rs)
    related_more (functions rs) = functions (are_related_more rs)
    related_more (values r) = values (related_more r)
    related_more (open_aliases h i j rs) = open_aliases h i j (are_related_more rs)
    related_more (aliases is i j proved) = aliases is i j (p _ proved)
    related_more (subtypes e n x y i j proved) = subtypes e n x y i j (p _ proved)

    pub are_related_more : {v : Variance} {ws : List Variance} {ts us : Tree} → AreRelatedByArgument V S H P v ws ts us → AreRelatedByArgument V S H P' v ws ts us
    are_related_more no_more = no_more
    are_related_more (and_more r rs) = and_more (related_more r) (are_related_more rs)

pub replaced_more : {C C' : Tree → Tree → Type 0} {t u : Tree} → ((a v : Tree) → C a v → C' a v) → Replaced C t u → Replaced C' t u
replaced_more c (chosen is closed v) = chosen is closed (c _ _ v)
replaced_more c kept_empty = kept_empty
replaced_more c (kept_more r s) = kept_more (replaced_more c r) (replaced_more c s)
replaced_more c (kept_node no_alias r) = kept_node no_alias (replaced_more c r)

pub stands_more : {G : Tree → Type 0} {P P' : Premise → Type 0} → ((q : Premise) → P q → P' q) → (k : GoalKind) (q : Premise) → Stands G P k q → Stands G P' k q
stands_more p k q (inl (keeps, holds)) = inl (keeps, p _ holds)
stands_more p k q (inr (loose, (u, replaced, holds))) = inr (loose, (u, replaced_more (λ a v h. (h.0, p _ h.1, h.2)) replaced, p _ holds))

module _ (m : Meaning) (G : Tree → Type 0) (H : Constraint → Type 0) {P P' : Premise → Type 0} (p : (q : Premise) → P q → P' q) (e : Tree) where
  pub related_in_more : {v : Variance} {a b : Tree} → RelatedIn m G H P e v a b → RelatedIn m G H P' e v a b
  related_in_more r = related_more (λ g x. p _ x) r

  pub result_more : (a r : Tree) → IsResult G P e a r → IsResult G P' e a r
  result_more a r (inl x) = inl x
  result_more a r (inr (is, closed, good, holds, kinds)) = inr (is, closed, good, p _ holds, kinds)

  const_result_more : (c r : Tree) → IsConstResult G P e c r → IsConstResult G P' e c r
  const_result_more c r (inl x) = inl x
  const_result_more c r (inr (is, closed, good, holds)) = inr (is, closed, good, p _ holds)

  pub results_more : (v : Variance) (a b : Tree) → AreResultsRelated m G H P e v a b → AreResultsRelated m G H P' e v a b
  results_more v a b (inl r) = inl (related_in_more r)
  results_more v a b (inr (h, ts, us, i, j, inl rs)) = inr (h, ts, us, i, j, inl (are_related_more (λ g x. p _ x) rs))
  results_more v a b (inr (h, ts, us, i, j, inr rs)) = inr (h, ts, us, i, j, inr (are_related_more (λ g x. p _ x) rs))

  pub built_in_more : (s : Tree) → IsBuiltIn m G H P e s → IsBuiltIn m G H P' e s
  built_in_more _ (region_lives i j h) = region_lives i j h
  built_in_more _ (type_lives i h) = type_lives i h
  built_in_more _ (subtyped x r) = subtyped x (related_in_more r)
  built_in_more _ (coerced r) = coerced (related_in_more r)
  built_in_more _ (const_typed r u x t y) = const_typed r u (const_result_more _ _ x) t (related_in_more y)
  built_in_more _ (error_typed x) = error_typed (const_result_more _ _ x)
  built_in_more _ (allowed x) = allowed x
  built_in_more _ (dyn_compatible x) = dyn_compatible x
  built_in_more _ (formed gs x h) = formed gs x (λ g i. p _ (h g i))
  built_in_more _ constant_evaluated = constant_evaluated
  built_in_more _ value_evaluated = value_evaluated
  built_in_more _ error_evaluated = error_evaluated
  built_in_more _ (alias_evaluated x) = alias_evaluated x
  built_in_more _ (aliases_relate r s x y z) = aliases_relate r s (result_more _ _ x) (result_more _ _ y) (results_more _ _ _ z)

  pub equation_more : (q : Equation) → HoldsEquation m G H P e q → HoldsEquation m G H P' e q
  equation_more (related a b) r = related_in_more r
  equation_more (alike a b) r = r

  pub applied_more : {mode : Mode} {D : Hidden → Type 0} (c : Tree) → IsApplied m mode G H D P e c → IsApplied m mode G H D P' e c
  applied_more c a =
      record {
        use_of = a.use_of;
        applies = a.applies;
        environment = a.environment;
        conclusion = a.conclusion;
        values = a.values;
        equations = λ q i. equation_more q (a.equations q i);
        goals = λ g i. p _ (a.goals g i);
        constraints = a.constraints;
        hidden = a.hidden;
        item_bounds = λ h g i j. p _ (a.item_bounds h g i j);
      }

module _ {m : Meaning} {mode : Mode} {G : Tree → Type 0} {H : Constraint → Type 0} {D : Hidden → Type 0} {P P' : Premise → Type 0} (p : (q : Premise) → P q → P' q) where
  pub plain_rule_more : (e s : Tree) → IsPlainRule m mode G H D P e s → IsPlainRule m mode G H D P' e s
  plain_rule_more e s (inl (is, a)) = inl (is, applied_more m G H (stands_more p (goal_kind m (unbound s))) e _ a)
  plain_rule_more e s (inr b) = inr (built_in_more m G H (stands_more p (goal_kind m (unbound s))) e s b)

  -- a rule that rests on some premises rests on more
  pub rule_more : (e c : Tree) → IsRule m mode G H D P e c → IsRule m mode G H D P' e c
  rule_more e c (inl (s, is, r)) = inl (s, is, plain_rule_more e s r)
  rule_more e c (inr (sorts, s, f, is, fresh, r)) = inr (sorts, s, f, is, fresh, plain_rule_more e _ r)
