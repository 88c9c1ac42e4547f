-- What follows where few values may be chosen and few hypotheses are at hand follows where more are.
use Rattle.std.specs.Prelude.{ℕ, List}
use Rattle.std.proofs.Common.{inl, inr}
use Rattle.nts_model.specs.declared.labels.Variance.{Variance}
use Rattle.nts_model.specs.declared.labels.Relation.TheVariants as relation
use Rattle.nts_model.specs.Terms.Trees.{Tree}
use Rattle.nts_model.specs.Tables.Alike.{Alike, one_tree, two_regions, one_label, two_rows}
use Rattle.nts_model.specs.Derivations.Related.{Constraint, unbound, Related, AreRelatedByArgument, regions, constructors, functions, values, open_aliases, aliases, subtypes, no_more, and_more}
use Rattle.nts_model.specs.Derivations.Related.{one_tree as same_tree}
use Rattle.nts_model.specs.Derivations.Sequents.{Premise, Hidden}
use Rattle.nts_model.specs.Derivations.Rules.{GoalKind, Meaning, Mode, Equation, related, alike, HoldsEquation, goal_kind, Stands, IsResult, IsConstResult, AreResultsRelated, IsBuiltIn, region_lives, type_lives, subtyped, coerced, const_typed, error_typed, allowed, dyn_compatible, formed, constant_evaluated, value_evaluated, error_evaluated, alias_evaluated, aliases_relate, IsApplied, IsPlainRule, IsRule}
use Rattle.nts_theory.proofs.Derivations.Monotone.{replaced_more, built_in_more, applied_more}

module _ {V : ℕ → List Variance} {S S' : Tree → Type 0} {H H' : Constraint → Type 0} {P : Tree → Type 0} (s : (t : Tree) → S t → S' t) (h : (x : Constraint) → H x → H' x) where
  mutual
    pub related_weaker : {v : Variance} {a b : Tree} → Related V S H P v a b → Related V S' H' P v a b
    related_weaker (same_tree same) = same_tree (s _ same)
    related_weaker (regions i j holds) = regions i j (h _ holds)
    related_weaker (constructors rs) = constructors (are_related_weaker rs)
    related_weaker (functions rs) = functions (are_related_weaker rs)
    related_weaker (values r) = values (related_weaker r)
    related_weaker (open_aliases x i j rs) = open_aliases x i j (are_related_weaker rs)
    related_weaker (aliases found i j proved) = aliases found i j proved
    related_weaker (subtypes e n x y i j proved) = subtypes e n x y i j proved

    pub are_related_weaker : {v : Variance} {ws : List Variance} {ts us : Tree} → AreRelatedByArgument V S H P v ws ts us → AreRelatedByArgument V S' H' P v ws ts us
    are_related_weaker no_more = no_more
    are_related_weaker (and_more r rs) = and_more (related_weaker r) (are_related_weaker rs)

alike_weaker : (R T : Tree → Tree → Type 0) → ((x y : Tree) → R x y → T x y) → (a b : Tree) → Alike R a b → Alike T a b
alike_weaker R T f a b one_tree = one_tree
alike_weaker R T f a b (two_regions i j r) = two_regions i j (f a b r)
alike_weaker R T f _ _ (one_label {c = c} {d = d} n al) = one_label n (alike_weaker R T f c d al)
alike_weaker R T f _ _ (two_rows {a = a} {b = b} {c = c} {d = d} al bl) = two_rows (alike_weaker R T f a c al) (alike_weaker R T f b d bl)

module _ (m : Meaning) {G G' : Tree → Type 0} {H H' : Constraint → Type 0} (P : Premise → Type 0) (g : (t : Tree) → G t → G' t) (h : (x : Constraint) → H x → H' x) (e : Tree) where
  pub stands_weaker : (k : GoalKind) (q : Premise) → Stands G P k q → Stands G' P k q
  stands_weaker k q (inl x) = inl x
  stands_weaker k q (inr (loose, (u, replaced, holds))) = inr (loose, (u, replaced_more (λ a v x. (g v x.0, x.1, x.2)) replaced, holds))

  result_weaker : (a r : Tree) → IsResult G P e a r → IsResult G' P e a r
  result_weaker a r (inl x) = inl (x.0, λ y. g a (x.1 y))
  result_weaker a r (inr (found, closed, good, holds, kinds)) = inr (found, closed, g r good, holds, kinds)

  const_result_weaker : (c r : Tree) → IsConstResult G P e c r → IsConstResult G' P e c r
  const_result_weaker c r (inl x) = inl (x.0, λ y. g c (x.1 y))
  const_result_weaker c r (inr (found, closed, good, holds)) = inr (found, closed, g r good, holds)

  results_weaker : (v : Variance) (a b : Tree) → AreResultsRelated m G H P e v a b → AreResultsRelated m G' H' P e v a b
  results_weaker v a b (inl r) = inl (related_weaker g h r)
  results_weaker v a b (inr (x, ts, us, i, j, inl rs)) = inr (x, ts, us, i, j, inl (are_related_weaker g h rs))
  results_weaker v a b (inr (x, ts, us, i, j, inr rs)) = inr (x, ts, us, i, j, inr (are_related_weaker g h rs))

  pub built_in_weaker : (s : Tree) → IsBuiltIn m G H P e s → IsBuiltIn m G' H' P e s
  built_in_weaker _ (region_lives i j x) = region_lives i j (h _ x)
  built_in_weaker _ (type_lives i x) = type_lives i (h _ x)
  built_in_weaker _ (subtyped x r) = subtyped x (related_weaker g h r)
  built_in_weaker _ (coerced r) = coerced (related_weaker g h r)
  built_in_weaker _ (const_typed r u x t y) = const_typed r u (const_result_weaker _ _ x) t (related_weaker g h y)
  built_in_weaker _ (error_typed x) = error_typed (const_result_weaker _ _ x)
  built_in_weaker _ (allowed x) = allowed x
  built_in_weaker _ (dyn_compatible x) = dyn_compatible x
  built_in_weaker _ (formed gs x y) = formed gs x y
  built_in_weaker _ constant_evaluated = constant_evaluated
  built_in_weaker _ value_evaluated = value_evaluated
  built_in_weaker _ error_evaluated = error_evaluated
  built_in_weaker _ (alias_evaluated x) = alias_evaluated x
  built_in_weaker _ (aliases_relate r s x y z) = aliases_relate r s (result_weaker _ _ x) (result_weaker _ _ y) (results_weaker _ _ _ z)

  equation_weaker : (q : Equation) → HoldsEquation m G H P e q → HoldsEquation m G' H' P e q
  equation_weaker (related a b) r = related_weaker g h r
  equation_weaker (alike a b) r =
      alike_weaker (λ x y. H (record { relation = relation.Equal; left = x; right = y })) (λ x y. H' (record { relation = relation.Equal; left = x; right = y })) (λ x y. h (record { relation = relation.Equal; left = x; right = y })) a b r

  pub applied_weaker : {mode : Mode} {D D' : Hidden → Type 0} → ((o : Hidden) → D o → D' o) → (c : Tree) → IsApplied m mode G H D P e c → IsApplied m mode G' H' D' P e c
  applied_weaker f c a =
      record {
        use_of = a.use_of;
        applies = a.applies;
        environment = a.environment;
        conclusion = a.conclusion;
        values = λ v i. (g v (a.values v i).0, (a.values v i).1);
        equations = λ q i. equation_weaker q (a.equations q i);
        goals = a.goals;
        constraints = λ x i. h x (a.constraints x i);
        hidden = λ o i. f o (a.hidden o i);
        item_bounds = a.item_bounds;
      }

module _ {m : Meaning} {mode : Mode} {G G' : Tree → Type 0} {H H' : Constraint → Type 0} {D D' : Hidden → Type 0} {P : Premise → Type 0}
    (g : (t : Tree) → G t → G' t) (h : (x : Constraint) → H x → H' x) (d : (o : Hidden) → D o → D' o) where
  plain_rule_weaker : (e s : Tree) → IsPlainRule m mode G H D P e s → IsPlainRule m mode G' H' D' P e s
  plain_rule_weaker e s (inl (found, a)) =
      let k : GoalKind = goal_kind m (unbound s) in
      inl (found, applied_more m G' H' (stands_weaker m P g h e k) e (unbound s) (applied_weaker m (Stands G P k) g h e d (unbound s) a))
  plain_rule_weaker e s (inr b) =
      let k : GoalKind = goal_kind m (unbound s) in
      inr (built_in_more m G' H' (stands_weaker m P g h e k) e s (built_in_weaker m (Stands G P k) g h e s b))

  -- a rule whose values, constraints and hidden types may be more
  pub rule_weaker : (e c : Tree) → IsRule m mode G H D P e c → IsRule m mode G' H' D' P e c
  rule_weaker e c (inl (s, same, r)) = inl (s, same, plain_rule_weaker e s r)
  rule_weaker e c (inr (sorts, s, f, same, fresh, r)) = inr (sorts, s, f, same, fresh, plain_rule_weaker e _ r)
