-- Goals about an alias: which statements are such, and that the handler may be asked for them.
use Rattle.std.specs.Prelude.{◌||◌}
use Rattle.std.specs.Prelude.{◌||◌}
use Rattle.std.proofs.Common.{◌≡◌, inl, inr, Bool, true, false, true, false, List, refl, sym, ap, ◌∙◌, subst}
use Rattle.nts_model.specs.declared.labels.ListHead.TheVariants as list
use Rattle.nts_model.specs.declared.labels.Label.TheVariants as label
use Rattle.nts_model.specs.declared.labels.ClauseHead.TheVariants as clause_head
use Rattle.nts_model.specs.declared.labels.PredicateHead.TheVariants as predicate_head
use Rattle.nts_model.specs.Terms.Trees.{Tree, empty, more, node, children, row_length, IsRow, any_label, is_alias}
use Rattle.nts_model.specs.Derivations.Related.{pair, unbound, no_sorts}
use Rattle.nts_model.specs.Derivations.Rules.{statement_of, IsHandlers}
use Rattle.nts_model.specs.Derivations.Sequents.{HasClosedStatement}
use Rattle.nts_model.proofs.Terms.Unpositioned.{known_no_positions, known_well_bound, pair_no_positions}
use Rattle.nts_theory.specs.Telling.{IsAliasStatement, IsTraitStatement, IsAliasGoal}
use Rattle.nts_theory.proofs.Derivations.ClosedStatements.{closed_unbound}
use Rattle.nts_store.specs.Formed.{AreFormed}
use Rattle.nts_store.specs.Growth.{tree_at}
use Rattle.nts_terms.specs.declared.handles.Binder.{Binder}
use Rattle.nts_terms.specs.declared.handles.Goal.{Goal}
use Rattle.nts_terms.specs.declared.kinds.PredicateKind.{PredicateKind}
use Rattle.nts_terms.specs.Kinds.{tree_of_statement, tree_of_predicate, PredicateFits}
use Rattle.nts_terms.proofs.Standing.{vars_tree}
use Rattle.nts_table.specs.Tables.{Table}
use Rattle.nts_unify.specs.Reading.{content_of}
use Rattle.nts_delegate.specs.Candidates.{IsAskedIn}
use Rattle.nts_meaning.specs.Evaluation.{IsPosed}
use Rattle.nts_trying.specs.Aliasing.{ConcernsAlias, AliasGoalIn}
use Rattle.nts_trying.specs.Outliving.{IsClosedEnv}
use Rattle.nts_store.specs.declared.type_flags.TypeFlags.{TypeFlags}
use Rattle.nts_store.specs.TypeFlags.{flags_of}
use Rattle.nts_store.specs.declared.type_flags.TypeFlags.{TypeFlags}
use Rattle.nts_store.specs.TypeFlags.{flags_of}
use Rattle.nts_trying.proofs.Unasked.{listed_of, row_of_none}

says_alias : (s : Tree) → IsAliasStatement s → IsHandlers s
says_alias (node (label.Clause (clause_head.Projection i)) ts) h = tt
says_alias (node (label.Predicate (predicate_head.NormalizesTo i)) ts) h = tt
says_alias s h = absurd h

says_trait : (s : Tree) → IsTraitStatement s → IsHandlers s
says_trait (node (label.Clause (clause_head.Trait i)) ts) h = tt
says_trait (node (label.Clause (clause_head.HostEffect i)) ts) h = tt
says_trait s h = absurd h

alias_handlers : (s : Tree) (b : Bool) → ConcernsAlias s b → IsHandlers s
alias_handlers s b (inl h) = says_alias s h
alias_handlers s b (inr h) = says_trait s h.0

-- a goal of the store by what the tests of it see
module _ (ts : List Tree) (g : Goal) (b : Binder PredicateKind) (is : tree_at ts g.predicate.node ≡ tree_of_predicate ts b) where
  pub alias_here : PredicateFits ts b → IsRow (children (tree_at ts b.vars.node)) → row_length (children (tree_at ts b.vars.node)) ≡ 0 → ConcernsAlias (tree_of_statement ts b.value) (any_label is_alias (pair (tree_at ts g.param_env.node) (tree_at ts g.predicate.node))) → HasClosedStatement (tree_at ts g.predicate.node) → IsClosedEnv (tree_at ts g.param_env.node)
      → AliasGoalIn ts g
  alias_here fits row none says closed env =
      let binder : tree_at ts b.vars.node ≡ no_sorts = vars_tree (tree_at ts b.vars.node) fits.0.fits ∙ ap (node (label.List list.Sorts)) (row_of_none (children (tree_at ts b.vars.node)) row none) in
      let whole : tree_at ts g.predicate.node ≡ unbound (tree_of_statement ts b.value) = is ∙ ap (λ z. node (label.List list.Binder) (more z (more (tree_of_statement ts b.value) empty))) binder in
      record { statement = tree_of_statement ts b.value; binds_nothing = whole; says = says; closed = closed (tree_of_statement ts b.value) whole; environment = env }

  module _ (h : AliasGoalIn ts g) where
    pub alias_binds_none : row_length (children (tree_at ts b.vars.node)) ≡ 0
    alias_binds_none = ap (λ t. row_length (children (listed_of t))) (sym is ∙ h.binds_nothing)

    pub alias_states : ConcernsAlias (tree_of_statement ts b.value) (any_label is_alias (pair (tree_at ts g.param_env.node) (tree_at ts g.predicate.node)))
    alias_states = subst (λ z. ConcernsAlias z (any_label is_alias (pair (tree_at ts g.param_env.node) (tree_at ts g.predicate.node)))) (ap statement_of (sym h.binds_nothing ∙ is)) h.says

    pub alias_closed : HasClosedStatement (tree_at ts g.predicate.node)
    alias_closed = subst HasClosedStatement (sym h.binds_nothing) (closed_unbound h.statement h.closed)

-- it is one that handlers are asked, in the table that has it
module _ {ts : List Tree} {t : Table} {g : Goal} (formed : AreFormed ts) (posed : IsPosed ts t g) (h : AliasGoalIn ts g) where
  pub alias_goal_here : IsAliasGoal (tree_at ts g.param_env.node) (tree_at ts g.predicate.node)
  alias_goal_here = subst (λ z. ConcernsAlias (statement_of z) (any_label is_alias (pair (tree_at ts g.param_env.node) (tree_at ts g.predicate.node)))) (sym h.binds_nothing) h.says

  pub alias_asked : IsAskedIn ts g
  alias_asked =
      let e = tree_at ts g.param_env.node in
      let p = tree_at ts g.predicate.node in
      let c = content_of ts t.entries in
      let k = posed.knows in
      let held = posed.holds in
      let env = h.environment in
      record {
        holds = posed.holds;
        asked = record {
          statement = h.statement;
          binds_nothing = h.binds_nothing;
          handlers = alias_handlers h.statement _ h.says;
          formed = (formed g.param_env.node held.env.within, (formed g.predicate.node held.predicate.within, tt));
          closed = (env.closed, (h.closed, tt));
          no_positions = pair_no_positions e p (known_no_positions c e k.env) (known_no_positions c p k.predicate);
          well_bound = (known_well_bound c e k.env, (known_well_bound c p k.predicate, tt));
          statements = env.statements;
        };
      }

-- an alias stands in a goal where its flags say so
or_none : (b : Bool) → b || false ≡ b
or_none true = refl
or_none false = refl

pub alias_there : (ts : List Tree) (g : Goal) (env goal : TypeFlags) → env ≡ flags_of (tree_at ts g.param_env.node) → goal ≡ flags_of (tree_at ts g.predicate.node) → (env.has_alias || goal.has_alias) ≡ any_label is_alias (pair (tree_at ts g.param_env.node) (tree_at ts g.predicate.node))
alias_there ts g env goal e p =
    let t = any_label is_alias (tree_at ts g.param_env.node) in
    let u = any_label is_alias (tree_at ts g.predicate.node) in
    let first : env.has_alias ≡ t = ap (λ (f : TypeFlags). f.has_alias) e in
    let second : goal.has_alias ≡ u = ap (λ (f : TypeFlags). f.has_alias) p in
    (λ i. first i || second i) ∙ ap (λ z. t || z) (sym (or_none u))
