-- Goals that don't say how an alias and a term are related.
use Rattle.std.proofs.Common.{◌≡◌, ◌⊎◌, inl, inr, ⊎_elim, ℕ, List, false, refl, sym, ap, ◌∙◌}
use Rattle.nts_model.specs.declared.labels.AliasRelationDirection.{AliasRelationDirection}
use Rattle.nts_model.specs.declared.labels.PredicateHead.TheVariants as predicate_head
use Rattle.nts_model.specs.declared.labels.Label.TheVariants as label
use Rattle.nts_model.specs.Terms.Trees.{Tree, node, kind_of, children, row_length, IsClosed}
use Rattle.nts_model.specs.Derivations.Related.{pair, no_sorts, IsAlias}
use Rattle.nts_model.specs.Derivations.Sequents.{HasClosedStatement}
use Rattle.nts_theory.specs.Aliasing.{alias_relation, EquatesAlias, EquatesAliases}
use Rattle.nts_store.specs.Growth.{tree_at}
use Rattle.nts_terms.specs.declared.handles.Binder.{Binder}
use Rattle.nts_terms.specs.declared.handles.Goal.{Goal}
use Rattle.nts_terms.specs.declared.handles.Term.{Term}
use Rattle.nts_terms.specs.declared.kinds.PredicateKind.{PredicateKind}
use Rattle.nts_terms.specs.declared.kinds.ClauseKind.{ClauseKind}
use Rattle.nts_terms.specs.declared.kinds.ClauseKind.TheVariants as clauses
use Rattle.nts_terms.specs.declared.kinds.PredicateKind.TheVariants as statements
use Rattle.nts_terms.specs.Kinds.{tree_of_statement, tree_of_clause, tree_of_predicate}
use Rattle.nts_variance.specs.Goals.{is_alias_node}
use Rattle.nts_trying.specs.Outliving.{IsClosedEnv}
use Rattle.nts_trying.specs.Aliasing.{EquatedIn}
use Rattle.nts_trying.proofs.NormalGoals.{no_alias_node}

-- two closed terms of one kind, of which one is an alias, are related
record Relation (g : Tree) : Type 0 where
  by : AliasRelationDirection
  left : Tree
  right : Tree
  is : g ≡ alias_relation by left right
  one : IsAlias left ⊎ IsAlias right
  kind : kind_of left ≡ kind_of right
  left_closed : IsClosed left
  right_closed : IsClosed right

relation_of : {ts : List Tree} {g : Goal} {a t : Tree} → EquatedIn ts g a t → Relation (tree_at ts g.predicate.node)
relation_of {ts} {g} {a} {t} h = by_says h.says
  where
    by_says : EquatesAlias (tree_at ts g.predicate.node) a t ⊎ EquatesAliases (tree_at ts g.predicate.node) a t → Relation (tree_at ts g.predicate.node)
    by_says (inr w) = record { by = w.by; left = a; right = t; is = w.says; one = inl w.left; kind = sym w.kind; left_closed = (let x = w.left in x.closed); right_closed = h.ends }
    by_says (inl w) = ⊎_elim
        (λ e. record { by = w.by; left = a; right = t; is = e; one = inl w.alias; kind = sym w.kind; left_closed = (let x = w.alias in x.closed); right_closed = h.ends })
        (λ e. record { by = w.by; left = t; right = a; is = e; one = inr w.alias; kind = w.kind; left_closed = h.ends; right_closed = (let x = w.alias in x.closed) }) w.says

-- a statement that relates two terms says so
clause_relates_no : (ts : List Tree) (k : ClauseKind) (d : AliasRelationDirection) (c : Tree) → tree_of_clause ts k ≡ node (label.Predicate (predicate_head.AliasRelate d)) c → ⊥
clause_relates_no ts (clauses.Trait r) d c e = cc e
clause_relates_no ts k d c e = cc e

relates : (ts : List Tree) (s : PredicateKind) (d : AliasRelationDirection) (c : Tree) → tree_of_statement ts s ≡ node (label.Predicate (predicate_head.AliasRelate d)) c → (l r : Term) × (o : AliasRelationDirection) × (s ≡ statements.AliasRelate l r o)
relates ts (statements.AliasRelate l r o) d c e = (l, r, o, refl)
relates ts (statements.Clause k) d c e = absurd (clause_relates_no ts k d c e)
relates ts s d c e = absurd (cc e)

module _ {ts : List Tree} {g : Goal} {a t : Tree} (h : EquatedIn ts g a t) where
  relation : Relation (tree_at ts g.predicate.node)
  relation = relation_of h

  module _ (b : Binder PredicateKind) (is : tree_at ts g.predicate.node ≡ tree_of_predicate ts b) where
    parts : (tree_at ts b.vars.node ≡ no_sorts) × (tree_of_statement ts b.value ≡ node (label.Predicate (predicate_head.AliasRelate relation.by)) (pair relation.left relation.right))
    parts = (let e : tree_of_predicate ts b ≡ alias_relation relation.by relation.left relation.right = sym is ∙ relation.is in (cc e, cc e))

    pub unrelated_no : ((l r : Term) (d : AliasRelationDirection) → b.value ≡ statements.AliasRelate l r d → ⊥) → ⊥
    unrelated_no never = (let (l, r, d, e) = relates ts b.value relation.by (pair relation.left relation.right) parts.1 in never l r d e)

    pub binds_no : (n : ℕ) → row_length (children (tree_at ts b.vars.node)) ≡ n → (n ≡ 0 → ⊥) → ⊥
    binds_no n e some = some (sym e ∙ ap (λ z. row_length (children z)) parts.0)

    pub apart_no : (l r : Term) (d : AliasRelationDirection) → b.value ≡ statements.AliasRelate l r d → (kind_of (tree_at ts l.node) ≡ kind_of (tree_at ts r.node) → ⊥) → ⊥
    apart_no l r d e two = (let s = sides l r d e in two (ap kind_of s.0 ∙ relation.kind ∙ sym (ap kind_of s.1)))
      where
        sides : (l r : Term) (d : AliasRelationDirection) → b.value ≡ statements.AliasRelate l r d → (tree_at ts l.node ≡ relation.left) × (tree_at ts r.node ≡ relation.right)
        sides l r d e = (let k : tree_of_statement ts (statements.AliasRelate l r d) ≡ node (label.Predicate (predicate_head.AliasRelate relation.by)) (pair relation.left relation.right) = ap (tree_of_statement ts) (sym e) ∙ parts.1 in (cc k, cc k))

    pub plain_no : (l r : Term) (d : AliasRelationDirection) → b.value ≡ statements.AliasRelate l r d → is_alias_node (tree_at ts l.node) ≡ false → is_alias_node (tree_at ts r.node) ≡ false → ⊥
    plain_no l r d e x y =
        let k : tree_of_statement ts (statements.AliasRelate l r d) ≡ node (label.Predicate (predicate_head.AliasRelate relation.by)) (pair relation.left relation.right) = ap (tree_of_statement ts) (sym e) ∙ parts.1 in
        let left : tree_at ts l.node ≡ relation.left = cc k in
        let right : tree_at ts r.node ≡ relation.right = cc k in
        ⊎_elim (λ i. no_alias_node relation.left (sym (ap is_alias_node left) ∙ x) i) (λ i. no_alias_node relation.right (sym (ap is_alias_node right) ∙ y) i) relation.one

  pub statement_closed : HasClosedStatement (tree_at ts g.predicate.node)
  statement_closed = λ s e.
      let said : s ≡ node (label.Predicate (predicate_head.AliasRelate relation.by)) (pair relation.left relation.right) = cc (e, relation.is) in
      rw said (tt, (relation.left_closed, (relation.right_closed, tt)))

  pub env_closed : IsClosedEnv (tree_at ts g.param_env.node)
  env_closed = h.environment
