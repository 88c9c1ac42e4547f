-- Of which goals reasons are told, by what answers them.
use Rattle.std.proofs.Common.{◌≡◌, inr, ⊎_elim, ◌||◌, Bool, true, false, List, Some, refl, ap, subst, sym}
use Rattle.nts_model.specs.declared.labels.AliasRelationDirection.{AliasRelationDirection}
use Rattle.nts_model.specs.Terms.Trees.{Tree, any_label, is_alias}
use Rattle.nts_model.specs.Derivations.Rules.{statement_of}
use Rattle.nts_theory.specs.Aliasing.{alias_relation}
use Rattle.nts_theory.specs.Telling.{IsTraitStatement}
use Rattle.nts_decisions.proofs.OpenedStatements.{trait_outlives_nothing, trait_says_no_subtype}
use Rattle.nts_store.specs.Formed.{AreFormed}
use Rattle.nts_store.specs.Growth.{tree_at}
use Rattle.nts_terms.specs.declared.handles.Goal.{Goal}
use Rattle.nts_table.specs.Tables.{Table}
use Rattle.nts_evaluation.specs.nts_meaning.specs.Evaluation.{IsPosed, IsAskedGoal}
use Rattle.nts_evaluation.specs.nts_trying.specs.Aliasing.{AliasGoalIn, IsEquatedGoal}
use Rattle.nts_evaluation.specs.nts_trying.specs.Outliving.{IsOutlivesGoal}
use Rattle.nts_evaluation.specs.nts_trying.specs.Owning.{IsOwnGoal}
use Rattle.nts_evaluation.specs.nts_trying.specs.Subtyping.{IsSubtypeGoal}
use Rattle.nts_evaluation.specs.nts_trying.specs.declared.normal.EquatedAlias.{EquatedAlias}
use Rattle.nts_evaluation.specs.nts_trying.specs.declared.outlives.Outlives.{Outlives}
use Rattle.nts_evaluation.specs.nts_trying.specs.declared.own.OwnGoal.{OwnGoal}
use Rattle.nts_evaluation.specs.nts_trying.specs.declared.subtypes.TypePair.{TypePair}
use Rattle.nts_evaluation.specs.nts_trying.proofs.AliasGoals.{alias_asked}
use Rattle.nts_evaluation.specs.nts_trying.proofs.Owning.{own_is_no_trait}
use Rattle.nts_explaining.specs.Explaining.{IsExplained}

one_goal : {g h : Goal} → Some g ≡ Some h → h ≡ g
one_goal e = cc e

-- those that the handler's candidates answer
pub asked_explained : (ts : List Tree) (g h : Goal) → Some g ≡ Some h → IsAskedGoal ts h → IsExplained ts g
asked_explained ts g h same x = (let t = x.trait_goal in subst (IsExplained ts) (one_goal same) (record { asked = x.asked; statement = t.statement }))

-- .. and those in which, or in whose environment, an alias stands
pub alias_explained : (ts : List Tree) (t : Table) (g h : Goal) → AreFormed ts → IsPosed ts t g → Some g ≡ Some h → AliasGoalIn ts h → IsTraitStatement (statement_of (tree_at ts g.predicate.node)) → IsExplained ts g
alias_explained ts t g h formed posed same x is = record { asked = alias_asked formed posed (subst (AliasGoalIn ts) (one_goal same) x); statement = is }

-- no others
pub outlives_unexplained : (ts : List Tree) (g h : Goal) (o : Outlives) → Some g ≡ Some h → IsOutlivesGoal ts h o → IsExplained ts g → ⊥
outlives_unexplained ts g h o same x k =
    let there = subst (IsExplained ts) (sym (one_goal same)) k in
    let i = x.is in
    trait_outlives_nothing (tree_at ts h.predicate.node) _ there.statement i.says

pub own_unexplained : (ts : List Tree) (g h : Goal) (o : OwnGoal) → Some g ≡ Some h → IsOwnGoal ts h o → IsExplained ts g → ⊥
own_unexplained ts g h o same x k =
    let there = subst (IsExplained ts) (sym (one_goal same)) k in own_is_no_trait ts h o x there.statement

pub subtype_unexplained : (ts : List Tree) (g h : Goal) (p : TypePair) → Some g ≡ Some h → IsSubtypeGoal ts h p → IsExplained ts g → ⊥
subtype_unexplained ts g h p same x k =
    let there = subst (IsExplained ts) (sym (one_goal same)) k in
    let i = x.is in
    trait_says_no_subtype (tree_at ts h.predicate.node) _ _ there.statement i.says

pub relates_no_trait : (d : AliasRelationDirection) (p a b : Tree) → p ≡ alias_relation d a b → IsTraitStatement (statement_of p) → ⊥
relates_no_trait d p a b e t = subst (λ z. IsTraitStatement (statement_of z)) e t

pub equated_unexplained : (ts : List Tree) (g h : Goal) (r : EquatedAlias) → Some g ≡ Some h → IsEquatedGoal ts h r → IsExplained ts g → ⊥
equated_unexplained ts g h r same x k =
    let there = subst (IsExplained ts) (sym (one_goal same)) k in
    let p = tree_at ts h.predicate.node in
    let i = x.is in
    ⊎_elim (λ w. ⊎_elim (λ e. relates_no_trait w.by p _ _ e there.statement) (λ e. relates_no_trait w.by p _ _ e there.statement) w.says) (λ w. relates_no_trait w.by p _ _ w.says there.statement) i.says

pub unanswered_unexplained : (ts : List Tree) (g h : Goal) → Some g ≡ Some h → (IsAskedGoal ts h → ⊥) → (AliasGoalIn ts h → ⊥) → IsExplained ts g → ⊥
unanswered_unexplained ts g h same not_asked not_alias k = by_case (any_label is_alias (tree_at ts h.param_env.node) || (any_label is_alias (tree_at ts h.predicate.node) || false)) refl
  where
    there : IsExplained ts h
    there = subst (IsExplained ts) (sym (one_goal same)) k

    by_case : (b : Bool) → (any_label is_alias (tree_at ts h.param_env.node) || (any_label is_alias (tree_at ts h.predicate.node) || false)) ≡ b → ⊥
    by_case false q = not_asked (record { asked = there.asked; trait_goal = record { statement = there.statement; no_alias = q } })
    by_case true q =
        let asked = there.asked in
        let x = asked.asked in
        not_alias (record {
          statement = x.statement;
          binds_nothing = x.binds_nothing;
          says = inr (subst IsTraitStatement (ap statement_of x.binds_nothing) there.statement, q);
          closed = x.closed.1.0;
          environment = record { closed = x.closed.0; statements = x.statements };
        })
