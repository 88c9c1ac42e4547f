-- Nodes over their parts, and how these vary.
use Rattle.std.proofs.Common.{◌≡◌, true, [], ◌∷◌, Some, refl, sym, ap, subst}
use Rattle.nts_model.specs.declared.labels.TyHead.TheVariants as ty
use Rattle.nts_model.specs.declared.labels.ConstHead.TheVariants as konst
use Rattle.nts_model.specs.declared.labels.ListHead.TheVariants as list
use Rattle.nts_model.specs.declared.labels.Label.{Label}
use Rattle.nts_model.specs.declared.labels.Label.TheVariants as label
use Rattle.nts_model.specs.Terms.Trees.{Tree, empty, more, node, kind_of, kind_of_label, arguments as argument_list, sort_list, is, Place, any_argument, a_type, HavePlaces, AllFit, row_length, IsRow, IsFormed}
use Rattle.nts_variance_model.specs.Variances.Forms.{Form, a_constructor, a_function, a_value, an_alias}
use Rattle.nts_variance.specs.Parts.{has_parts, form_of_tree, parts_of, IsNodeWithParts}

-- a list of arguments, and of sorts
record ListOf (l : Label) (a : Tree) : Type 0 where
  parts : Tree
  is : a ≡ node l parts

args_label : (l : Label) → kind_of_label l ≡ argument_list → l ≡ label.List list.Args
args_label (label.List list.Args) e = refl
args_label l e = cc

sorts_label : (l : Label) → kind_of_label l ≡ sort_list → l ≡ label.List list.Sorts
sorts_label (label.List list.Sorts) e = refl
sorts_label l e = cc

args_node : (a : Tree) → kind_of a ≡ Some argument_list → ListOf (label.List list.Args) a
args_node empty e = cc
args_node (more x y) e = cc
args_node (node l c) e = record { parts = c; is = ap (λ m. node m c) (args_label l cc) }

sorts_node : (a : Tree) → kind_of a ≡ Some sort_list → ListOf (label.List list.Sorts) a
sorts_node empty e = cc
sorts_node (more x y) e = cc
sorts_node (node l c) e = record { parts = c; is = ap (λ m. node m c) (sorts_label l cc) }

row_of_fits : (p : Place) (t : Tree) → AllFit p t → IsRow t
row_of_fits p empty h = tt
row_of_fits p (more a b) h = row_of_fits p b h.1
row_of_fits p (node l c) h = absurd h

pub record OneChild (c : Tree) : Type 0 where
  pub parts : Tree
  pub is : c ≡ more (node (label.List list.Args) parts) empty
  pub row : IsRow parts
  pub formed : IsFormed parts

one_child : (c : Tree) → HavePlaces (is argument_list ∷ []) c → IsFormed c → OneChild c
one_child empty h f = absurd h
one_child (more a empty) h f =
    let n = args_node a h.0 in
    let e = n.is in
    let g : IsFormed (node (label.List list.Args) n.parts) = subst IsFormed e f.0 in
    record { parts = n.parts; is = ap (λ x. more x empty) e; row = row_of_fits any_argument n.parts g.0; formed = g.1 }
one_child (more a (more b c)) h f = absurd h.1
one_child (more a (node l c)) h f = absurd h.1
one_child (node l c) h f = absurd h

record TwoChildren (c : Tree) : Type 0 where
  sorts : Tree
  parts : Tree
  is : c ≡ more (node (label.List list.Sorts) sorts) (more (node (label.List list.Args) parts) empty)
  row : IsRow parts
  formed : IsFormed parts
  formed_sorts : IsFormed (node (label.List list.Sorts) sorts)

two_children : (c : Tree) → HavePlaces (is sort_list ∷ is argument_list ∷ []) c → IsFormed c → TwoChildren c
two_children empty h f = absurd h
two_children (more a b) h f =
    let n = sorts_node a h.0 in
    let k = one_child b h.1 f.1 in
    let e = n.is in
    let g = k.is in
    record { sorts = n.parts; parts = k.parts; is = cc (e, g); row = k.row; formed = k.formed; formed_sorts = subst IsFormed e f.0 }
two_children (node l c) h f = absurd h

pub one_row : (p : Place) (c : Tree) → HavePlaces (p ∷ []) c → IsRow c × (row_length c ≡ 1)
one_row p empty h = absurd h
one_row p (more a empty) h = (tt, refl)
one_row p (more a (more b c)) h = absurd h.1
one_row p (more a (node l c)) h = absurd h.1
one_row p (node l c) h = absurd h

-- a function's sorts are formed, and a const value has one part
abbrev pub FitsButOpen : Form → Tree → Type 0
FitsButOpen (a_constructor i) ts = Unit {0}
FitsButOpen (a_function ss) ts = IsFormed (node (label.List list.Sorts) ss)
FitsButOpen (a_value b) ts = row_length ts ≡ 1
FitsButOpen (an_alias h) ts = Unit {0}

pub record IsOverParts (t : Tree) : Type 0 where
  pub with_parts : IsNodeWithParts t
  pub formed : IsFormed (parts_of t)
  pub fits : FitsButOpen (form_of_tree t) (parts_of t)

pub over_parts : (l : Label) (c : Tree) → IsFormed (node l c) → has_parts l ≡ true → IsOverParts (node l c)
over_parts (label.Ty (ty.Ctor i)) c f h =
    let k = one_child c f.0 f.1 in
    subst (λ x. IsOverParts (node (label.Ty (ty.Ctor i)) x)) (sym k.is) (record { with_parts = record { is = refl; row = k.row }; formed = k.formed; fits = tt })
over_parts (label.Ty ty.FnPtr) c f h =
    let k = two_children c f.0 f.1 in
    subst (λ x. IsOverParts (node (label.Ty ty.FnPtr) x)) (sym k.is) (record { with_parts = record { is = refl; row = k.row }; formed = k.formed; fits = k.formed_sorts })
over_parts (label.Ty (ty.Alias i)) c f h =
    let k = one_child c f.0 f.1 in
    subst (λ x. IsOverParts (node (label.Ty (ty.Alias i)) x)) (sym k.is) (record { with_parts = record { is = refl; row = k.row }; formed = k.formed; fits = tt })
over_parts (label.Const (konst.Unevaluated i)) c f h =
    let k = one_child c f.0 f.1 in
    subst (λ x. IsOverParts (node (label.Const (konst.Unevaluated i)) x)) (sym k.is) (record { with_parts = record { is = refl; row = k.row }; formed = k.formed; fits = tt })
over_parts (label.Const (konst.Value b)) c f h =
    let k = one_row a_type c f.0 in
    record { with_parts = record { is = refl; row = k.0 }; formed = f.1; fits = k.1 }
over_parts l c f h = cc
