-- A goal of the store that does not say that an alias is equal to a term, in which no alias stands, or to another alias.
use Rattle.std.proofs.Common.{◌≡◌, inl, inr, true, false, sym, ap, ◌∙◌, subst}
use Rattle.std.specs.Prelude.{List}
use Rattle.nts_model.specs.declared.labels.AliasRelationDirection.{AliasRelationDirection}
use Rattle.nts_model.specs.declared.labels.AliasRelationDirection.TheVariants as direction
use Rattle.nts_model.specs.Terms.Trees.{Tree, any_label, is_alias}
use Rattle.nts_model.specs.Derivations.Related.{IsAlias}
use Rattle.nts_model.specs.Derivations.Rules.{statement_of}
use Rattle.nts_theory.specs.Aliasing.{alias_relation, EquatesAlias, EquatesAliases, SaysEqual}
use Rattle.nts_store.specs.Growth.{tree_at}
use Rattle.nts_terms.specs.declared.handles.Goal.{Goal}
use Rattle.nts_variance.specs.Goals.{is_alias_node}
use Rattle.nts_trying.specs.Aliasing.{EquatedIn, IsEquality, IsEquatedGoal}
use Rattle.nts_trying.specs.Outliving.{IsClosedEnv}
use Rattle.nts_trying.specs.declared.normal.EquatedAlias.{EquatedAlias}
use Rattle.nts_trying.proofs.NormalGoals.{no_alias_node}

one_left : (d o : AliasRelationDirection) (x y a b : Tree) → alias_relation d x y ≡ alias_relation o a b → x ≡ a
one_left d o x y a b e = cc e

one_right : (d o : AliasRelationDirection) (x y a b : Tree) → alias_relation d x y ≡ alias_relation o a b → y ≡ b
one_right d o x y a b e = cc e

is_not : {t u : Tree} → (IsAlias t → ⊥) → IsAlias u → t ≡ u → ⊥
is_not plain is same = plain (subst IsAlias (sym same) is)

-- a goal has one term that is no alias
one_term : (g a t b s : Tree) → EquatesAlias g a t → EquatesAlias g b s → t ≡ s
one_term g a t b s x y = elim x.says [
  | inl e ↦ elim y.says [
    | inl f ↦ one_right x.by y.by a t b s (sym e ∙ f)
    | inr f ↦ absurd (is_not x.plain y.alias (one_right x.by y.by a t s b (sym e ∙ f)))
  ]
  | inr e ↦ elim y.says [
    | inl f ↦ absurd (is_not x.plain y.alias (one_left x.by y.by t a b s (sym e ∙ f)))
    | inr f ↦ one_left x.by y.by t a s b (sym e ∙ f)
  ]
]

-- .. and then it is not of two aliases
not_of_aliases : (g a t b s : Tree) → EquatesAlias g a t → EquatesAliases g b s → ⊥
not_of_aliases g a t b s x y = elim x.says [
  | inl e ↦ is_not x.plain y.right (one_right x.by y.by a t b s (sym e ∙ y.says))
  | inr e ↦ is_not x.plain y.left (one_left x.by y.by t a b s (sym e ∙ y.says))
]

-- an alias stands in the term, which is none itself
pub aliased_no : (ts : List Tree) (g : Goal) (r : EquatedAlias) → IsEquatedGoal ts g r → is_alias_node (tree_at ts r.term.node) ≡ false → any_label is_alias (tree_at ts r.term.node) ≡ true → SaysEqual (tree_at ts g.predicate.node) → ⊥
aliased_no ts g r q none some says =
    let q_is = q.is in
    elim q_is.says [
      | inl x ↦ elim says [
        | inl p ↦ (let e : true ≡ false = sym some ∙ ap (any_label is_alias) (one_term _ _ _ _ _ x p.is) ∙ p.no_alias in cc e)
        | inr z ↦ not_of_aliases _ _ _ _ _ x z.is
      ]
      | inr y ↦ no_alias_node (tree_at ts r.term.node) none y.right
    ]

-- .. or the goal says that the one is a subtype of the other
equality_of : (d : AliasRelationDirection) (a b : Tree) → d ≡ direction.Equate → IsEquality (statement_of (alias_relation d a b))
equality_of d a b e = subst (λ z. IsEquality (statement_of (alias_relation z a b))) (sym e) tt

pub unequal_no : (g : Tree) → (IsEquality (statement_of g) → ⊥) → SaysEqual g → ⊥
unequal_no g never (inr z) = (let x = z.is in never (subst (λ k. IsEquality (statement_of k)) (sym x.says) (equality_of x.by z.left z.right z.equal)))
unequal_no g never (inl p) =
    let x = p.is in
    elim x.says [
      | inl e ↦ never (subst (λ k. IsEquality (statement_of k)) (sym e) (equality_of x.by p.left p.right p.equal))
      | inr e ↦ never (subst (λ k. IsEquality (statement_of k)) (sym e) (equality_of x.by p.right p.left p.equal))
    ]

-- .. or no alias is one of its two terms
pub unequated_no : (ts : List Tree) (g : Goal) → ((a t : Tree) → EquatedIn ts g a t → ⊥) → IsClosedEnv (tree_at ts g.param_env.node) → SaysEqual (tree_at ts g.predicate.node) → ⊥
unequated_no ts g never env (inl p) = never p.left p.right (record { says = inl p.is; ends = p.ends; environment = env })
unequated_no ts g never env (inr z) = (let x = z.is in let y = x.right in never z.left z.right (record { says = inr x; ends = y.closed; environment = env }))
