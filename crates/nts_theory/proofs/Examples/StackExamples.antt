-- A head may not be closed by another answer than the one that was assumed.
use Rattle.std.proofs.Common.{◌≡◌, ◌⊎◌, inl, inr, ℕ, [], ◌∷◌, true, false, refl, sym, ap, ◌∙◌, subst}
use Rattle.nts_model.specs.declared.labels.Sort.{Sort}
use Rattle.nts_model.specs.declared.labels.ClauseHead.TheVariants as clause
use Rattle.nts_model.specs.declared.labels.Leaf.{Leaf}
use Rattle.nts_model.specs.declared.labels.Label.TheVariants as label
use Rattle.nts_model.specs.Terms.Trees.{Tree, empty, more, node, kind_of}
use Rattle.nts_model.specs.Terms.Substitutions.{Instance, instance_of}
use Rattle.nts_model.specs.Derivations.Related.{Constraint, constructor, arguments, unbound}
use Rattle.nts_model.specs.Lists.{Among}
use Rattle.nts_model.specs.Derivations.Sequents.{impl_where_bound, Premise, Hidden, Sequent}
use Rattle.nts_model.specs.Derivations.Rules.{Mode, post_analysis, GoalKind, coinductive_trait, Application, Meaning, Stands, opened, IsBuiltIn, region_lives, type_lives, subtyped, coerced, const_typed, error_typed, allowed, dyn_compatible, formed, constant_evaluated, value_evaluated, error_evaluated, alias_evaluated, aliases_relate, IsPlainRule, IsRule, bound}
use Rattle.nts_model.specs.Derivations.Proofs.{RestsOn, IsNormalization, IsSoundStep, HasProof, by_rule, all_derived, by_assumption}
use Rattle.nts_model.proofs.Terms.Composing.{itself, instance_of-itself, instance_kinds}
use Rattle.nts_model.proofs.Terms.Identified.{one_itself, one_leafless}
use Rattle.nts_model.specs.Terms.Trees.{IsFormed}
use Rattle.nts_model.specs.Searching.Stacks.{IsDerivedFrom}
use Rattle.nts_theory.proofs.Examples.ProofExamples.{auto_list, by_clause, auto_sequent, auto_terms, auto_instance, replaced_plain, replaced_only, UsesClause, rule_uses}
use Rattle.nts_theory.proofs.Examples.InputExamples.{no_clauses as nowhere}

-- Far(List)
abbrev far_list : Tree
far_list = unbound (node (label.Clause (clause.Trait 1)) (arguments (more (constructor 1 empty) empty)))

abbrev far_goal : Premise
far_goal = record { source = impl_where_bound; environment = nowhere; predicate = far_list }

-- impl Auto(List) <- Far(List)
abbrev step_clause : Application
step_clause = record { environment = nowhere; conclusion = auto_list; values = []; equations = []; goals = far_goal ∷ []; constraints = []; hidden = [] }

abbrev far_sequent : Sequent
far_sequent = record { environment = nowhere; predicate = far_list; constraints = []; hidden = []; open_goals = [] }

abbrev stepping : Meaning
stepping = by_clause step_clause (λ i. true)

far_formed : IsFormed far_list
far_formed = ((refl, (refl, tt)), ((tt, tt), (((refl, tt), (((tt, tt), (((refl, tt), ((tt, tt), tt)), tt)), tt)), tt)))

abbrev FarRests : Premise → Type 0
FarRests q = Among (far_goal ∷ []) q ⊎ (IsNormalization stepping auto_list × Among [] q)

far_stands : (k : GoalKind) (g : Premise) → Among (far_goal ∷ []) g → Stands (λ t. Unit {0}) FarRests k g
far_stands k g (inl e) =
    subst (Stands (λ t. Unit {0}) FarRests k) (sym e) (inr ((λ x. x), (far_list, replaced_plain _ far_list refl, inl (inl refl))))
far_stands k g (inr h) = absurd h

-- from the assumption that Far(List) holds, a round finds Auto(List)
pub found_from_another : IsDerivedFrom stepping post_analysis (record { sequent = far_sequent; is_behind = false } ∷ []) auto_sequent
found_from_another =
    record {
      sequent = auto_sequent;
      reached = inl (by_rule (far_goal ∷ []) auto_terms
          (inl (
            _,
            refl,
            inl (
              tt,
              record {
                use_of = step_clause;
                applies = refl;
                environment = refl;
                conclusion = refl;
                values = λ v i. absurd i;
                equations = λ q i. absurd i;
                goals = far_stands coinductive_trait;
                constraints = λ x i. absurd i;
                hidden = λ o i. absurd i;
                item_bounds = λ o g i j. absurd i;
              },
            ),
          ))
          (by_assumption itself 0 (record { sequent = far_sequent; is_behind = true }) refl refl
          (record { environment = auto_instance.environment; predicate = one_itself [] _ _ (instance_of-itself far_list far_formed); constraints = λ x i. absurd i; hidden = λ o i. absurd i; open_goals = λ g i. absurd i })
          all_derived));
      instance = itself;
      is_instance = auto_instance;
    }

-- no rule is about Far
far_leaf : (ι : Instance) (l : Leaf) (ts : Tree) → ι.value l ≡ node (label.Clause (clause.Trait 1)) ts → ⊥
far_leaf ι l ts e = let k = sym (instance_kinds ι l) ∙ ap kind_of e in cc k

far_back : (ι : Instance) (s ts : Tree) → instance_of ι s ≡ node (label.Clause (clause.Trait 1)) ts → (c : Tree) × (s ≡ node (label.Clause (clause.Trait 1)) c)
far_back ι (node (label.Clause h) c) ts e = let same : h ≡ clause.Trait 1 = cc e in (c, rw same refl)
far_back ι (node (label.Leaf l) c) ts e = absurd (far_leaf ι l ts e)
far_back ι s ts e = absurd (cc e)

far_said : (ι : Instance) (sorts s : Tree) → instance_of ι (bound sorts s) ≡ far_list → (c : Tree) × (s ≡ node (label.Clause (clause.Trait 1)) c)
far_said ι sorts s e = far_back ι s (arguments (more (constructor 1 empty) empty)) (cc e)

far_built_in : (m : Meaning) (G : Tree → Type 0) (H : Constraint → Type 0) (P : Premise → Type 0) (e s c : Tree) → IsBuiltIn m G H P e s → s ≡ node (label.Clause (clause.Trait 1)) c → ⊥
far_built_in m G H P e _ c (region_lives i j h) x = cc x
far_built_in m G H P e _ c (type_lives i h) x = cc x
far_built_in m G H P e _ c (subtyped y r) x = cc x
far_built_in m G H P e _ c (coerced r) x = cc x
far_built_in m G H P e _ c (const_typed r u y t z) x = cc x
far_built_in m G H P e _ c (error_typed y) x = cc x
far_built_in m G H P e _ c (allowed y) x = cc x
far_built_in m G H P e _ c (dyn_compatible y) x = cc x
far_built_in m G H P e _ c (formed gs y z) x = cc x
far_built_in m G H P e _ c constant_evaluated x = cc x
far_built_in m G H P e _ c (value_evaluated) x = cc x
far_built_in m G H P e _ c error_evaluated x = cc x
far_built_in m G H P e _ c (alias_evaluated y) x = cc x
far_built_in m G H P e _ c (aliases_relate r s y z w) x = cc x

far_plain : (mode : Mode) (H : Constraint → Type 0) (D : Hidden → Type 0) (P : Premise → Type 0) (e s c : Tree) → s ≡ node (label.Clause (clause.Trait 1)) c → IsPlainRule stepping mode (λ t. Unit {0}) H D P e s → ⊥
far_plain mode H D P e s c same (inl (found, a)) =
    let uses : auto_list ≡ unbound s = sym (ap (λ u. u.conclusion) a.applies) ∙ a.conclusion in
    let other : auto_list ≡ unbound (node (label.Clause (clause.Trait 1)) c) = uses ∙ ap unbound same in
    cc other
far_plain mode H D P e s c same (inr b) = far_built_in stepping _ _ _ e s c b same

far_opened : (f : Sort → ℕ → Leaf) (s c : Tree) → s ≡ node (label.Clause (clause.Trait 1)) c → opened f 0 s ≡ node (label.Clause (clause.Trait 1)) (opened f 0 c)
far_opened f s c e = rw e refl

far_rule : (mode : Mode) (H : Constraint → Type 0) (D : Hidden → Type 0) (P : Premise → Type 0) (ι : Instance) (e g : Tree) → IsRule stepping mode (λ t. Unit {0}) H D P e g → instance_of ι g ≡ far_list → ⊥
far_rule mode H D P ι e g (inl (s, same, r)) x =
    let (c, about) = far_said ι empty s (ap (instance_of ι) (sym same) ∙ x) in
    far_plain mode H D P e s c about r
far_rule mode H D P ι e g (inr (sorts, s, f, same, fresh, r)) x =
    let (c, about) = far_said ι sorts s (ap (instance_of ι) (sym same) ∙ x) in
    far_plain mode H D P e (opened f 0 s) (opened f 0 c) (far_opened f s c about) r

-- but Auto(List) has no proof
pub no_proof_of_it : HasProof stepping post_analysis auto_sequent → ⊥
no_proof_of_it p =
    let n = p.first in
    let j = p.ranked.justified n p.found in
    let u : UsesClause stepping post_analysis (RestsOn stepping n) n.sequent.predicate =
    rule_uses stepping post_analysis _ _ _ p.instance _ _ j.rule (one_leafless [] _ _ refl p.is_instance.predicate) in
    let goal : Among u.use_of.goals far_goal = subst (λ y. Among y.goals far_goal) (sym u.applies) (inl refl) in
    led (stood u.kind (u.goals far_goal goal)) u.no_normalization
  where
    stood : (k : GoalKind) → Stands (λ t. Unit {0}) (RestsOn stepping p.first) k far_goal → RestsOn stepping p.first far_goal
    stood k (inl (keeps, holds)) = absurd keeps
    stood k (inr (loose, (u, replaced, holds))) =
        subst (λ y. RestsOn stepping p.first (record { source = impl_where_bound; environment = nowhere; predicate = y })) (replaced_only _ far_list u refl replaced) holds

    led : RestsOn stepping p.first far_goal → (IsNormalization stepping p.first.sequent.predicate → ⊥) → ⊥
    led (inr (norm, i)) other = other norm
    led (inl (st, i, same)) other =
        let sound : IsSoundStep stepping p.nodes p.first st = p.ranked.steps p.first st p.found i in
        let serves = sound.serves in
        let k = p.ranked.justified sound.node sound.found in
        far_rule post_analysis _ _ _ st.instance _ _ k.rule
        (one_leafless p.first.sequent.constraints _ _ (rw (ap (λ q. q.predicate) same) refl) serves.predicate ∙ ap (λ q. q.predicate) same)
