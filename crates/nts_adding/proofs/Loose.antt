-- Aliases from which no bound variable escapes.
use Rattle.std.proofs.Common.{◌≡◌, Bool, true, false, not, [], ◌∷◌, Some, refl, sym, ap, ◌∙◌}
use Rattle.nts_model.specs.declared.labels.TyHead.TheVariants as ty
use Rattle.nts_model.specs.declared.labels.ConstHead.TheVariants as konst
use Rattle.nts_model.specs.declared.labels.AliasHead.{AliasHead}
use Rattle.nts_model.specs.declared.labels.AliasHead.TheVariants as alias_of
use Rattle.nts_model.specs.declared.labels.ListHead.TheVariants as list
use Rattle.nts_model.specs.declared.labels.Label.{Label}
use Rattle.nts_model.specs.declared.labels.Label.TheVariants as label
use Rattle.nts_model.specs.Terms.Trees.{Tree, empty, more, node, children, is, arguments, HavePlaces, Meets, shape, is_alias, IsClosed, kind_of, kind_of_label, bound_predicate}
use Rattle.nts_model.specs.Derivations.Related.{IsAlias, alias_label}
use Rattle.nts_terms.proofs.Standing.{args_tree}

record HasArguments (c : Tree) : Type 0 where
  parts : Tree
  is : c ≡ more (node (label.List list.Args) parts) empty

one_list : (c : Tree) → HavePlaces (is arguments ∷ []) c → HasArguments c
one_list empty h = absurd h
one_list (node l t) h = absurd h
one_list (more a empty) h = record { parts = children a; is = ap (λ x. more x empty) (args_tree a h.0) }
one_list (more a (more b r)) h = absurd h.1
one_list (more a (node l t)) h = absurd h.1

-- a closed node with such a label is one
pub alias_tree : (l : Label) (c : Tree) → Meets (shape l) c → is_alias l ≡ true → IsClosed (node l c) → IsAlias (node l c)
alias_tree (label.Ty (ty.Alias i)) c m e k = (let p = one_list c m in record { head = alias_of.Ty i; parts = p.parts; is = ap (node (label.Ty (ty.Alias i))) p.is; closed = k })
alias_tree (label.Const (konst.Unevaluated i)) c m e k = (let p = one_list c m in record { head = alias_of.Const i; parts = p.parts; is = ap (node (label.Const (konst.Unevaluated i))) p.is; closed = k })
alias_tree l c m e k = absurd (cc e)

-- a predicate is none
pub no_predicate : (t : Tree) → kind_of t ≡ Some bound_predicate → IsAlias t → ⊥
no_predicate t e x = by_head x.head (sym (ap kind_of x.is) ∙ e)
  where
    by_head : (h : AliasHead) → Some (kind_of_label (alias_label h)) ≡ Some bound_predicate → ⊥
    by_head (alias_of.Ty i) q = cc q
    by_head (alias_of.Const i) q = cc q

pub not_so : (b : Bool) → not b ≡ true → b ≡ false
not_so true e = sym e
not_so false e = refl
