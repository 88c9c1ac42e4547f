-- Goals that handlers are not asked, and goals that can't be opened, by what the tests of them see.
use Rattle.std.proofs.Common.{◌≡◌, ℕ, zero, suc, ◌<◌, ◌||◌, inl, inr, arith, Bool, true, false, not, List, is_some, refl, sym, ap, ◌∙◌, subst}
use Rattle.nts_model.specs.Terms.Trees.{Tree, empty, more, node, children, row_length, row_at, IsRow, IsInRow, any_label, is_canonical, is_alias, IsClosed}
use Rattle.nts_model.specs.Terms.Scoping.{IsWellBound}
use Rattle.nts_model.specs.Derivations.Rules.{statement_of}
use Rattle.nts_model.specs.Derivations.Sequents.{HasClosedStatements}
use Rattle.nts_theory.specs.Telling.{IsTraitStatement}
use Rattle.nts_store.specs.declared.type_flags.TypeFlags.{TypeFlags}
use Rattle.nts_store.specs.TypeFlags.{flags_of}
use Rattle.nts_store.specs.Growth.{tree_at}
use Rattle.nts_store.proofs.Escaping.{open_by_facts}
use Rattle.nts_terms.specs.declared.handles.Binder.{Binder}
use Rattle.nts_terms.specs.declared.handles.Goal.{Goal}
use Rattle.nts_terms.specs.declared.handles.TraitRef.{TraitRef}
use Rattle.nts_terms.specs.declared.kinds.ClauseKind.{ClauseKind}
use Rattle.nts_terms.specs.declared.kinds.ClauseKind.TheVariants as clause
use Rattle.nts_terms.specs.declared.kinds.PredicateKind.{PredicateKind}
use Rattle.nts_terms.specs.declared.kinds.PredicateKind.TheVariants as predicate
use Rattle.nts_terms.specs.Kinds.{tree_of_clause, tree_of_statement, tree_of_predicate}
use Rattle.nts_delegate.specs.OwnTerms.{both_false}
use Rattle.nts_meaning.specs.Evaluation.{SaysOfTrait, IsAskedGoal}
use Rattle.nts_meaning.proofs.TraitsAsked.{of_trait}

pub not_false : (b : Bool) → not b ≡ false → b ≡ true
not_false true e = refl
not_false false e = cc

-- each tree of a row stands in it
pub in_row_at : (r : Tree) (i : ℕ) → i < row_length r → IsInRow (row_at r i) r
in_row_at empty i l = absurd (omega (arith, l))
in_row_at (more a b) zero l = inl refl
in_row_at (more a b) (suc i) l = inr (in_row_at b i (omega (arith, l)))
in_row_at (node l c) i k = absurd (omega (arith, k))

-- no variable escapes from a closed term
pub closed_none : (t : Tree) (f : TypeFlags) → f ≡ flags_of t → IsClosed t → is_some f.escaping ≡ false
closed_none t f e h = by_case (is_some f.escaping) refl
  where
    by_case : (b : Bool) → is_some f.escaping ≡ b → is_some f.escaping ≡ false
    by_case true q = absurd (open_by_facts t f e q h)
    by_case false q = q

-- what is known of the terms of a goal that handlers are asked
pub record AreAskedFlags (env goal : TypeFlags) : Type 0 where
  pub env_names : env.has_canonical ≡ false
  pub goal_names : goal.has_canonical ≡ false
  pub env_plain : env.has_alias ≡ false
  pub goal_plain : goal.has_alias ≡ false
  pub env_closed : is_some env.escaping ≡ false

pub asked_flags : (ts : List Tree) (g : Goal) (env goal : TypeFlags) → env ≡ flags_of (tree_at ts g.param_env.node) → goal ≡ flags_of (tree_at ts g.predicate.node) → IsAskedGoal ts g → AreAskedFlags env goal
asked_flags ts g env goal e p h =
    let t = tree_at ts g.param_env.node in
    let u = tree_at ts g.predicate.node in
    let names = both_false (any_label is_canonical t) (any_label is_canonical u || false) h.asked.asked.no_positions in
    let plain = both_false (any_label is_alias t) (any_label is_alias u || false) h.trait_goal.no_alias in
    record {
      env_names = ap (λ f. f.has_canonical) e ∙ names.0;
      goal_names = ap (λ f. f.has_canonical) p ∙ (both_false (any_label is_canonical u) false names.1).0;
      env_plain = ap (λ f. f.has_alias) e ∙ plain.0;
      goal_plain = ap (λ f. f.has_alias) p ∙ (both_false (any_label is_alias u) false plain.1).0;
      env_closed = closed_none t env e h.asked.asked.closed.0;
    }

-- its bound variables are of the lists of their binders
pub asked_env_bound : (ts : List Tree) (g : Goal) → IsAskedGoal ts g → IsWellBound (tree_at ts g.param_env.node)
asked_env_bound ts g h = h.asked.asked.well_bound.0

pub asked_goal_bound : (ts : List Tree) (g : Goal) → IsAskedGoal ts g → IsWellBound (tree_at ts g.predicate.node)
asked_goal_bound ts g h = h.asked.asked.well_bound.1.0

pub asked_statements : (ts : List Tree) (g : Goal) → IsAskedGoal ts g → HasClosedStatements (tree_at ts g.param_env.node)
asked_statements ts g h = h.asked.asked.statements

-- what a binder lists
abbrev pub listed_of : Tree → Tree
listed_of (node l (more v r)) = v
listed_of t = empty

-- a row without items
pub row_of_none : (t : Tree) → IsRow t → row_length t ≡ 0 → t ≡ empty
row_of_none empty r e = refl
row_of_none (more a b) r e = absurd (omega (arith, e))
row_of_none (node l c) r e = absurd r

-- it binds nothing
pub asked_binds_none : (ts : List Tree) (g : Goal) (b : Binder PredicateKind) → tree_at ts g.predicate.node ≡ tree_of_predicate ts b → IsAskedGoal ts g → row_length (children (tree_at ts b.vars.node)) ≡ 0
asked_binds_none ts g b says h = ap (λ t. row_length (children (listed_of t))) (sym says ∙ h.asked.asked.binds_nothing)

-- it is a trait's
pub asked_of_trait : (ts : List Tree) (g : Goal) (b : Binder PredicateKind) → tree_at ts g.predicate.node ≡ tree_of_predicate ts b → IsAskedGoal ts g → IsTraitStatement (tree_of_statement ts b.value)
asked_of_trait ts g b says h = subst (λ t. IsTraitStatement (statement_of t)) says h.trait_goal.statement

pub other_predicate : (ts : List Tree) (k : PredicateKind) → ((c : ClauseKind) → k ≡ predicate.Clause c → ⊥) → IsTraitStatement (tree_of_statement ts k) → ⊥
other_predicate ts (predicate.Clause c) n h = n c refl
other_predicate ts (predicate.Subtype e a b) n h = h
other_predicate ts (predicate.Coerce a b) n h = h
other_predicate ts (predicate.DynCompatible i) n h = h
other_predicate ts (predicate.ConstEquate a b) n h = h
other_predicate ts (predicate.NormalizesTo a t) n h = h
other_predicate ts (predicate.AliasRelate a b d) n h = h
other_predicate ts predicate.Ambiguous n h = h

pub other_clause : (ts : List Tree) (k : ClauseKind) → ((r : TraitRef) → k ≡ clause.Trait r → ⊥) → ((r : TraitRef) → k ≡ clause.HostEffect r → ⊥) → IsTraitStatement (tree_of_clause ts k) → ⊥
other_clause ts (clause.Trait r) n m h = n r refl
other_clause ts (clause.HostEffect r) n m h = m r refl
other_clause ts (clause.Projection a t) n m h = h
other_clause ts (clause.TypeOutlives t r) n m h = h
other_clause ts (clause.RegionOutlives a b) n m h = h
other_clause ts (clause.ConstArgHasType c t) n m h = h
other_clause ts (clause.WellFormed t) n m h = h
other_clause ts (clause.ConstEvaluatable c) n m h = h
other_clause ts (clause.UnstableFeature f) n m h = h

-- the arguments of its trait are closed
pub asked_args_closed : (ts : List Tree) (g : Goal) (b : Binder PredicateKind) (r : TraitRef) → tree_at ts g.predicate.node ≡ tree_of_predicate ts b → SaysOfTrait ts r (tree_of_statement ts b.value) → IsAskedGoal ts g → IsClosed (tree_at ts r.args.node)
asked_args_closed ts g b r says is h =
    let x = h.asked.asked in
    let said : x.statement ≡ tree_of_statement ts b.value = sym (ap statement_of x.binds_nothing) ∙ ap statement_of says in
    let closed : IsClosed (tree_of_statement ts b.value) = subst IsClosed said x.closed.1.0 in
    of_trait ts r (λ s. IsClosed s → IsClosed (tree_at ts r.args.node)) (λ i c. c.1.0) (λ i c. c.1.0) (tree_of_statement ts b.value) is closed
