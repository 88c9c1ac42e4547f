-- What takes values in the places of its aliases does so under a table too.
use Rattle.std.proofs.Common.{◌≡◌, refl, subst}
use Rattle.nts_model.specs.declared.labels.ClauseHead.{ClauseHead}
use Rattle.nts_model.specs.declared.labels.ClauseHead.TheVariants as clause
use Rattle.nts_model.specs.declared.labels.ListHead.TheVariants as list
use Rattle.nts_model.specs.declared.labels.Label.TheVariants as label
use Rattle.nts_model.specs.Terms.Trees.{Tree, empty, more, node}
use Rattle.nts_model.specs.Tables.Contents.{Content}
use Rattle.nts_model.specs.Tables.Resolving.{deeply_resolved}
use Rattle.nts_model.specs.Derivations.Rules.{statement_of, KeepsAliases}
use Rattle.nts_model.proofs.Tables.Resolved.{deeply_resolved-node, deeply_resolved-empty}
use Rattle.nts_model.proofs.Tables.TableInstances.{deeply_resolved-more}
use Rattle.nts_theory.specs.Posing.{TakesValues}

clause_loose : (c : Content) (x : ClauseHead) (ts : Tree) → (KeepsAliases (node (label.Clause x) (deeply_resolved c ts)) → ⊥) → KeepsAliases (deeply_resolved c (node (label.Clause x) ts)) → ⊥
clause_loose c x ts n k = n (subst KeepsAliases (deeply_resolved-node c (label.Clause x) ts refl) k)

loose_statement : (c : Content) (s : Tree) → TakesValues s → KeepsAliases (deeply_resolved c s) → ⊥
loose_statement c (node (label.Clause (clause.Trait i)) ts) t k = clause_loose c (clause.Trait i) ts (λ z. z) k
loose_statement c (node (label.Clause (clause.HostEffect i)) ts) t k = clause_loose c (clause.HostEffect i) ts (λ z. z) k
loose_statement c (node (label.Clause (clause.Projection i)) ts) t k = clause_loose c (clause.Projection i) ts (λ z. z) k
loose_statement c s t k = absurd t

binder_resolved : (c : Content) (v s : Tree) → deeply_resolved c (node (label.List list.Binder) (more v (more s empty))) ≡ node (label.List list.Binder) (more (deeply_resolved c v) (more (deeply_resolved c s) empty))
binder_resolved c v s =
    let a = deeply_resolved-node c (label.List list.Binder) (more v (more s empty)) refl in
    let b = deeply_resolved-more c v (more s empty) in
    let d = deeply_resolved-more c s empty in
    let e = deeply_resolved-empty c in
    cc (a, b, d, e)

pub loose_resolved : (c : Content) (g : Tree) → TakesValues (statement_of g) → KeepsAliases (statement_of (deeply_resolved c g)) → ⊥
loose_resolved c (node (label.List list.Binder) (more v (more s empty))) t k = loose_statement c s t (subst (λ z. KeepsAliases (statement_of z)) (binder_resolved c v s) k)
loose_resolved c g t k = absurd t
