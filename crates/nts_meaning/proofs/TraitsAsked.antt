-- Goals of traits that are asked of a handler.
use Rattle.std.proofs.Common.{◌≡◌, inl, inr, ℕ, suc, ◌<◌, ◌≤◌, ◌||◌, false, List, is_some, refl, sym, ap, ◌∙◌, subst, arith}
use Rattle.nts_model.specs.Derivations.Rules.{statement_of, IsHandlers}
use Rattle.nts_model.specs.declared.labels.ClauseHead.TheVariants as clause_head
use Rattle.nts_model.specs.declared.labels.ListHead.TheVariants as list
use Rattle.nts_model.specs.declared.labels.Label.TheVariants as label
use Rattle.nts_model.specs.Terms.Trees.{Tree, empty, more, node, children, row_length, row_at, IsInRow, IsRow, any_label, is_canonical, is_alias, IsClosed}
use Rattle.nts_model.specs.Terms.Scoping.{IsWellBound}
use Rattle.nts_model.specs.Derivations.Related.{no_sorts, unbound}
use Rattle.nts_model.specs.Derivations.Sequents.{HasClosedStatement, HasClosedStatements}
use Rattle.nts_store.specs.declared.type_flags.TypeFlags.{TypeFlags}
use Rattle.nts_terms.specs.declared.handles.Binder.{Binder}
use Rattle.nts_terms.specs.declared.handles.Goal.{Goal}
use Rattle.nts_terms.specs.declared.handles.TraitRef.{TraitRef}
use Rattle.nts_terms.specs.declared.kinds.PredicateKind.{PredicateKind}
use Rattle.nts_store.specs.TypeFlags.{flags_of}
use Rattle.nts_store.specs.Formed.{AreFormed}
use Rattle.nts_store.specs.Growth.{tree_at, Extends}
use Rattle.nts_terms.specs.Kinds.{tree_of_statement, tree_of_predicate, PredicateFits}
use Rattle.nts_terms.proofs.Standing.{vars_tree}
use Rattle.nts_theory.specs.Telling.{IsTraitStatement, IsTraitGoal}
use Rattle.nts_meaning.specs.Evaluation.{SaysOfTrait, IsAskedGoal}
use Rattle.nts_delegate.specs.Candidates.{IsAskedIn}
use Rattle.nts_terms.specs.Handles.{HoldsGoal}
use Rattle.nts_meaning.proofs.Evaluating.{HoldsGoal-extended}
use Rattle.nts_store.proofs.Escaping.{closed_by_facts}
use Rattle.nts_delegate.proofs.Testing.{or_false}

-- a binder without variables
row_of_none : (t : Tree) → IsRow t → row_length t ≡ 0 → t ≡ empty
row_of_none empty r e = refl
row_of_none (more a b) r e = absurd (omega (arith, e))
row_of_none (node l c) r e = absurd r

-- the statements of the first predicates of an environment are closed
abbrev pub AreClosedBelow : ℕ → Tree → Type 0
AreClosedBelow i r = (j : ℕ) → j < i → HasClosedStatement (row_at r j)

row_closed : (r p : Tree) → AreClosedBelow (row_length r) r → IsInRow p r → HasClosedStatement p
row_closed empty p h i = absurd i
row_closed (node l c) p h i = absurd i
row_closed (more a b) p h (inl e) = rw e (h 0 (omega arith))
row_closed (more a b) p h (inr i) = row_closed b p (λ j l. h (suc j) (omega (arith, l))) i

-- .. so those of the environment are, where these are all
pub closed_all : (e : Tree) (i : ℕ) → row_length (children e) ≤ i → AreClosedBelow i (children e) → HasClosedStatements e
closed_all e i n h ps p is found =
    let same : children e ≡ ps = ap children is in
    row_closed ps p (subst (λ r. AreClosedBelow (row_length r) r) same (λ j l. h j (omega (arith, l, n)))) found

-- what is so of both statements of a trait
pub of_trait : (ts : List Tree) (r : TraitRef) (Q : Tree → Type 0) → ((i : ℕ) → Q (node (label.Clause (clause_head.Trait r.def_id.number)) (more (tree_at ts r.args.node) empty))) → ((i : ℕ) → Q (node (label.Clause (clause_head.HostEffect r.def_id.number)) (more (tree_at ts r.args.node) empty)))
    → (s : Tree) → SaysOfTrait ts r s → Q s
of_trait ts r Q f g s (inl e) = subst Q (sym e) (f 0)
of_trait ts r Q f g s (inr e) = subst Q (sym e) (g 0)

-- what the tests of a goal see
pub record AreTests (ts : List Tree) (g : Goal) (b : Binder PredicateKind) (r : TraitRef) (env goal args : TypeFlags) : Type 0 where
  pub formed : AreFormed ts
  pub holds : HoldsGoal ts g
  pub says : tree_at ts g.predicate.node ≡ tree_of_predicate ts b
  pub fits : PredicateFits ts b
  pub row : IsRow (children (tree_at ts b.vars.node))
  pub none : row_length (children (tree_at ts b.vars.node)) ≡ 0
  pub is_trait : SaysOfTrait ts r (tree_of_statement ts b.value)
  pub env_facts : env ≡ flags_of (tree_at ts g.param_env.node)
  pub goal_facts : goal ≡ flags_of (tree_at ts g.predicate.node)
  pub args_facts : args ≡ flags_of (tree_at ts r.args.node)
  pub env_closed : is_some env.escaping ≡ false
  pub args_closed : is_some args.escaping ≡ false
  pub env_plain : env.has_alias ≡ false
  pub goal_plain : goal.has_alias ≡ false
  pub env_names : env.has_canonical ≡ false
  pub goal_names : goal.has_canonical ≡ false
  pub env_well_bound : IsWellBound (tree_at ts g.param_env.node)
  pub goal_well_bound : IsWellBound (tree_at ts g.predicate.node)
  pub statements : HasClosedStatements (tree_at ts g.param_env.node)

trait_is_asked : (ts : List Tree) (g : Goal) (b : Binder PredicateKind) (r : TraitRef) (env goal args : TypeFlags) → AreTests ts g b r env goal args → IsAskedIn ts g
trait_is_asked ts g b r env goal args t =
    let statement = tree_of_statement ts b.value in
    let binder : tree_at ts b.vars.node ≡ no_sorts = vars_tree (tree_at ts b.vars.node) t.fits.0.fits ∙ ap (node (label.List list.Sorts)) (row_of_none (children (tree_at ts b.vars.node)) t.row t.none) in
    let is : tree_at ts g.predicate.node ≡ unbound (tree_of_statement ts b.value) = t.says ∙ (λ i. node (label.List list.Binder) (more (binder i) (more (tree_of_statement ts b.value) empty))) in
    let env_tree_closed : IsClosed (tree_at ts g.param_env.node) = closed_by_facts (tree_at ts g.param_env.node) env t.env_facts t.env_closed in
    let args_tree_closed : IsClosed (tree_at ts r.args.node) = closed_by_facts (tree_at ts r.args.node) args t.args_facts t.args_closed in
    let env_none : any_label is_canonical (tree_at ts g.param_env.node) ≡ false = sym (ap (λ f. f.has_canonical) t.env_facts) ∙ t.env_names in
    let goal_none : any_label is_canonical (tree_at ts g.predicate.node) ≡ false = sym (ap (λ f. f.has_canonical) t.goal_facts) ∙ t.goal_names in
    let h = t.holds in
    record {
      holds = t.holds;
      asked = record {
        statement = statement;
        binds_nothing = is;
        handlers = of_trait ts r IsHandlers (λ i. tt) (λ i. tt) (tree_of_statement ts b.value) t.is_trait;
        formed = (t.formed g.param_env.node h.env.within, (t.formed g.predicate.node h.predicate.within, tt));
        closed = (env_tree_closed, (of_trait ts r IsClosed (λ i. (tt, (args_tree_closed, tt))) (λ i. (tt, (args_tree_closed, tt))) (tree_of_statement ts b.value) t.is_trait, tt));
        no_positions = or_false (any_label is_canonical (tree_at ts g.param_env.node)) (any_label is_canonical (tree_at ts g.predicate.node) || false) env_none (or_false (any_label is_canonical (tree_at ts g.predicate.node)) false goal_none refl);
        well_bound = (t.env_well_bound, (t.goal_well_bound, tt));
        statements = t.statements;
      };
    }

-- no alias stands in it
trait_plain : (ts : List Tree) (g : Goal) (b : Binder PredicateKind) (r : TraitRef) (env goal args : TypeFlags) → AreTests ts g b r env goal args → IsTraitGoal (tree_at ts g.param_env.node) (tree_at ts g.predicate.node)
trait_plain ts g b r env goal args t =
    let env_none : any_label is_alias (tree_at ts g.param_env.node) ≡ false = sym (ap (λ f. f.has_alias) t.env_facts) ∙ t.env_plain in
    let goal_none : any_label is_alias (tree_at ts g.predicate.node) ≡ false = sym (ap (λ f. f.has_alias) t.goal_facts) ∙ t.goal_plain in
    record {
      statement = subst (λ v. IsTraitStatement (statement_of v)) (sym t.says) (of_trait ts r IsTraitStatement (λ i. tt) (λ i. tt) (tree_of_statement ts b.value) t.is_trait);
      no_alias = or_false (any_label is_alias (tree_at ts g.param_env.node)) (any_label is_alias (tree_at ts g.predicate.node) || false) env_none (or_false (any_label is_alias (tree_at ts g.predicate.node)) false goal_none refl);
    }

pub trait_asked : (ts : List Tree) (g : Goal) (b : Binder PredicateKind) (r : TraitRef) (env goal args : TypeFlags) → AreTests ts g b r env goal args → IsAskedGoal ts g
trait_asked ts g b r env goal args t =
    record {
      asked = trait_is_asked ts g b r env goal args t;
      trait_goal = trait_plain ts g b r env goal args t;
    }

-- a goal that is asked, in a store that has grown
pub IsAskedIn-extended : {a b : List Tree} {g : Goal} → Extends a b → IsAskedIn a g → IsAskedIn b g
IsAskedIn-extended {a} {b} {g} e h =
    let k = h.holds in
    record {
      holds = HoldsGoal-extended e h.holds;
      asked = rw (e.kept g.param_env.node k.env.within, e.kept g.predicate.node k.predicate.within) h.asked;
    }

pub IsAskedGoal-extended : {a b : List Tree} {g : Goal} → Extends a b → IsAskedGoal a g → IsAskedGoal b g
IsAskedGoal-extended {a} {b} {g} e h =
    let k = h.asked.holds in
    record {
      asked = IsAskedIn-extended e h.asked;
      trait_goal = rw (e.kept g.param_env.node k.env.within, e.kept g.predicate.node k.predicate.within) h.trait_goal;
    }
