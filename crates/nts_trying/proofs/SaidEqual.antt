-- A goal of the store that an alias is equal to a term, in which no alias stands, or to another alias.
use Rattle.std.proofs.Common.{◌≡◌, ◌⊎◌, inl, inr, true, false, refl, subst}
use Rattle.nts_model.specs.declared.labels.AliasRelationDirection.{AliasRelationDirection}
use Rattle.nts_model.specs.declared.labels.AliasRelationDirection.TheVariants as direction
use Rattle.nts_model.specs.Terms.Trees.{Tree, any_label, is_alias}
use Rattle.nts_model.specs.Derivations.Related.{IsAlias}
use Rattle.nts_model.specs.Derivations.Rules.{statement_of}
use Rattle.std.specs.Prelude.{List}
use Rattle.nts_theory.specs.Aliasing.{alias_relation, EquatesAlias, EquatesAliases, SaysEqual}
use Rattle.nts_store.specs.Growth.{tree_at}
use Rattle.nts_store.specs.Formed.{AreFormed}
use Rattle.nts_variance.specs.Goals.{is_alias_node}
use Rattle.nts_trying.proofs.NormalGoals.{formed_alias}
use Rattle.nts_terms.specs.declared.handles.Goal.{Goal}
use Rattle.nts_trying.specs.Aliasing.{IsEquality, IsEquatedGoal}
use Rattle.nts_trying.specs.declared.normal.EquatedAlias.{EquatedAlias}

equal_direction : (d : AliasRelationDirection) (a b : Tree) → IsEquality (statement_of (alias_relation d a b)) → d ≡ direction.Equate
equal_direction direction.Equate a b h = refl
equal_direction direction.Subtype a b h = absurd h

equality_by : (g a t : Tree) (x : EquatesAlias g a t) → IsEquality (statement_of g) → x.by ≡ direction.Equate
equality_by g a t x h = elim x.says [
  | inl e ↦ equal_direction x.by a t (subst (λ z. IsEquality (statement_of z)) e h)
  | inr e ↦ equal_direction x.by t a (subst (λ z. IsEquality (statement_of z)) e h)
]

both_by : (g a t : Tree) (x : EquatesAliases g a t) → IsEquality (statement_of g) → x.by ≡ direction.Equate
both_by g a t x h = equal_direction x.by a t (subst (λ z. IsEquality (statement_of z)) x.says h)

pub says_equal : (ts : List Tree) (g : Goal) (r : EquatedAlias) → AreFormed ts → IsEquatedGoal ts g r → (is_alias_node (tree_at ts r.term.node) ≡ true) ⊎ (any_label is_alias (tree_at ts r.term.node) ≡ false) → IsEquality (statement_of (tree_at ts g.predicate.node)) → SaysEqual (tree_at ts g.predicate.node)
says_equal ts g r formed q some equal =
    let q_is = q.is in
    let holds = q.term in
    let none : (IsAlias (tree_at ts r.term.node) → ⊥) → any_label is_alias (tree_at ts r.term.node) ≡ false = λ plain. elim some [ inl is ↦ absurd (plain (formed_alias (tree_at ts r.term.node) (formed r.term.node holds.within) q_is.ends is)) | inr n ↦ n ] in
    elim q_is.says [
      | inl x ↦ inl (record { left = tree_at ts r.alias.node; right = tree_at ts r.term.node; is = x; equal = equality_by _ _ _ x equal; ends = q_is.ends; no_alias = none x.plain })
      | inr y ↦ inr (record { left = tree_at ts r.alias.node; right = tree_at ts r.term.node; is = y; equal = both_by _ _ _ y equal })
    ]
