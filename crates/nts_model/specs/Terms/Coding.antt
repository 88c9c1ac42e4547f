-- The code of a tree, by which a proof tells two trees apart.
use Rattle.std.specs.Prelude.{◌≡◌, refl}
use base.Stored.{Coded, Gv, gnil, gnum, gcons}
use Rattle.nts_model.specs.declared.labels.Label.{Label}
use Rattle.nts_model.specs.contracts.labels.Label as label
use Rattle.nts_model.specs.Terms.Trees.{Tree, empty, more, node}

abbrev pub label_code : Coded Label
label_code = label.the_row.coded

abbrev pub code_of_tree : Tree → Gv
code_of_tree empty = gnil
code_of_tree (more a b) = gcons gnil (gcons (code_of_tree a) (code_of_tree b))
code_of_tree (node l c) = gcons (gnum 0) (gcons (label_code.code l) (code_of_tree c))

pub code_of_tree-inj : (s t : Tree) → code_of_tree s ≡ code_of_tree t → s ≡ t
code_of_tree-inj empty empty e = refl
code_of_tree-inj empty (more a b) e = cc
code_of_tree-inj empty (node l c) e = cc
code_of_tree-inj (more a b) empty e = cc
code_of_tree-inj (more a b) (more c d) e =
    let ea : code_of_tree a ≡ code_of_tree c = cc in
    let eb : code_of_tree b ≡ code_of_tree d = cc in
    cc (code_of_tree-inj a c ea, code_of_tree-inj b d eb)
code_of_tree-inj (more a b) (node l c) e = cc
code_of_tree-inj (node l c) empty e = cc
code_of_tree-inj (node l c) (more a b) e = cc
code_of_tree-inj (node l c) (node m d) e =
    let el : label_code.code l ≡ label_code.code m = cc in
    let ec : code_of_tree c ≡ code_of_tree d = cc in
    cc (label_code.inj l m el, code_of_tree-inj c d ec)

abbrev pub coded_tree : Coded Tree
coded_tree = record { code = code_of_tree; inj = code_of_tree-inj }
