-- Types that are apart are never one, whatever stands for their variables.
use Rattle.std.proofs.Common.{◌≡◌, List, Some, ap, sym, ◌∙◌}
use Rattle.nts_model.specs.declared.labels.TyHead.{TyHead}
use Rattle.nts_model.specs.declared.labels.Leaf.{Leaf}
use Rattle.nts_model.specs.declared.labels.Label.TheVariants as label
use Rattle.nts_model.specs.Terms.Trees.{Tree, empty, more, node, label_of}
use Rattle.nts_model.specs.Terms.Substitutions.{filled_under}
use Rattle.nts_model.specs.Tables.Contents.{Content}
use Rattle.nts_model.specs.Derivations.Rules.{related}
use Rattle.nts_model.specs.Derivations.Handlers.{Candidate}
use Rattle.nts_model.specs.Refutation.Choosing.{IsCandidateMet}
use Rattle.nts_theory.specs.RelatingCandidates.{HasTypesApart}

-- values leave what a type is built by
pub head_filled : (f : Leaf → Tree) (vs : List Tree) (t : Tree) (h : TyHead) → label_of t ≡ Some (label.Ty h) → label_of (filled_under f vs t) ≡ Some (label.Ty h)
head_filled f vs (node (label.Ty k) c) h e = e
head_filled f vs (node (label.Leaf x) c) h e = cc e
head_filled f vs (node (label.Bound s i n) c) h e = cc e
head_filled f vs (node (label.Const x) c) h e = cc e
head_filled f vs (node (label.Clause x) c) h e = cc e
head_filled f vs (node (label.Predicate x) c) h e = cc e
head_filled f vs (node (label.List x) c) h e = cc e
head_filled f vs empty h e = cc e
head_filled f vs (more a b) h e = cc e

one_head : (a b : TyHead) → Some (label.Ty a) ≡ Some (label.Ty b) → a ≡ b
one_head a b e = cc e

pub apart_unmet : (c : Content) (x : Candidate) → HasTypesApart x → IsCandidateMet c x → ⊥
apart_unmet c x r m =
    let one = m.equal (related r.left r.right) r.equation in
    let left = head_filled _ m.values r.left r.apart.left r.apart.of_left in
    let right = head_filled _ m.values r.right r.apart.right r.apart.of_right in
    r.apart.apart (one_head r.apart.left r.apart.right (sym left ∙ ap label_of one ∙ right))
