use Rattle.std.proofs.Common.{◌≡◌, true, sym, ap, ◌∙◌}
use Rattle.nts_model.specs.Tables.Resolving.{deeply_resolved}
use Rattle.nts_store.specs.Growth.{tree_at}
use Rattle.nts_unify.specs.Changing.{is_free_region}
use Rattle.nts_unify.specs.Reading.{content_of}
use Rattle.nts_unify.proofs.Keeping.{KeepsKnowing-refl}
use Rattle.nts_unify.proofs.NodeLemmas.{true_false}
use Rattle.nts_relating.proofs.RegionLemmas.{region_of_term}
use Rattle.nts_variance.specs.Parts.{has_parts}
use Rattle.nts_variance.specs.Terms.{pair_at}
use Rattle.nts_variance.proofs.Looks.{made_again}
use Rattle.nts_variance.proofs.Paying.{done_paid, parts_paid}
use Rattle.nts_variance.proofs.Refusals.{refuses_apart}
use Rattle.nts_variance.proofs.Sides.{not_loose, one_leaf}
use Rattle.nts_variance.proofs.Takes.{takes_one}
use Rattle.nts_variance.proofs.taking.take_heads.Goals.{else-names_free_region-via-then-names_free_region+else-names_free_region-2, else-names_free_region-via-else-names_free_region}
use Rattle.nts_variance.proofs.taking.take_heads.Goals as goal

pub take_regions-requires-clause-left : goal.take_regions-requires-clause-left
take_regions-requires-clause-left c =
    region_of_term c.args.nodes.now c.args.table.now.entries c.args.pair.left c.label-left.result c.requires.pair.left.within c.requires.pair.left.knows c.label-left.ensures.is c.label-left.ensures.formed (sym c.names_free_region.ensures ∙ c.if-names_free_region.true)

pub take_regions-requires-clause-right : goal.take_regions-requires-clause-right
take_regions-requires-clause-right c =
    region_of_term c.args.nodes.now c.args.table.now.entries c.args.pair.right c.label-right.result c.requires.pair.right.within c.requires.pair.right.knows c.label-right.ensures.is c.label-right.ensures.formed (sym c.names_free_region-then-names_free_region.ensures ∙ c.if-names_free_region-2.true)

pub returns-then-not-is_same-clause-no : goal.returns-then-not-is_same-clause-no
returns-then-not-is_same-clause-no c = λ declared q.
    let ts = c.args.nodes.now in
    let p = c.args.pair in
    let known = c.requires.pair in
    let two : is_free_region c.label-left.result ≡ true → is_free_region c.label-right.result ≡ true → ⊥ = λ f g. elim c.else-names_free_region.branch [
      | else-names_free_region-via-then-names_free_region+else-names_free_region-2 w ↦ true_false (sym g ∙ sym w.names_free_region-then-names_free_region.ensures ∙ w.if-names_free_region-2.false)
      | else-names_free_region-via-else-names_free_region w ↦ true_false (sym f ∙ sym c.names_free_region.ensures ∙ w.if-names_free_region.false)
    ] in
    refuses_apart declared (content_of ts c.args.table.now.entries) p.variance (tree_at ts p.left) (tree_at ts p.right) c.label-left.result c.label-right.result known.left.sort known.right.sort known.left.knows known.right.knows (c.terms_are_formed.ensures.formed p.left known.left.within) (c.terms_are_formed.ensures.formed p.right known.right.within) known.left.kind known.right.kind c.label-left.ensures.is c.label-right.ensures.is c.requires.left_node c.requires.right_node c.requires.left_rigid c.requires.right_rigid (c.is_same.ensures.no c.if-not-is_same.true) two

pub returns-then-not-has_parts-clause-taken : goal.returns-then-not-has_parts-clause-taken
returns-then-not-has_parts-clause-taken c = λ declared.
    let ts = c.args.nodes.now in
    let p = c.args.pair in
    let a = tree_at ts p.left in
    let b = tree_at ts p.right in
    let one = one_leaf a b c.label-left.result c.label-right.result c.requires.pair.left.sort c.label-left.ensures.is c.label-right.ensures.is c.label-left.ensures.formed c.label-right.ensures.formed c.requires.pair.left.kind (sym c.has_parts.ensures ∙ c.if-not-has_parts.true) (c.is_same.ensures.yes c.if-not-is_same.false) in
    (c.requires.lawful, takes_one declared (content_of ts c.args.table.now.entries) p.variance a b c.requires.lawful.sound (λ f on. ap (deeply_resolved f) one))

pub take_parts-requires-clause-left : goal.take_parts-requires-clause-left
take_parts-requires-clause-left c =
    let ts = c.args.nodes.now in
    let a = tree_at ts c.args.pair.left in
    let l = c.label-left.result in
    let formed = c.terms_are_formed.ensures.formed c.args.pair.left c.requires.pair.left.within in
    made_again a l c.label-left.ensures.is formed (sym c.has_parts.ensures ∙ c.if-not-has_parts.false) (not_loose a l c.label-left.ensures.is formed c.requires.left_rigid)

pub take_parts-requires-clause-right : goal.take_parts-requires-clause-right
take_parts-requires-clause-right c =
    let ts = c.args.nodes.now in
    let b = tree_at ts c.args.pair.right in
    let m = c.label-right.result in
    let formed = c.terms_are_formed.ensures.formed c.args.pair.right c.requires.pair.right.within in
    let same : has_parts m ≡ true = ap has_parts (sym (c.is_same.ensures.yes c.if-not-is_same.false)) ∙ sym c.has_parts.ensures ∙ c.if-not-has_parts.false in
    made_again b m c.label-right.ensures.is formed same (not_loose b m c.label-right.ensures.is formed c.requires.right_rigid)

pub returns-then-names_free_region-2-clause-paid : goal.returns-then-names_free_region-2-clause-paid
returns-then-names_free_region-2-clause-paid c = done_paid c.take_regions.result _ _ (pair_at c.args.nodes.now c.args.pair) c.take_regions.ensures.kept c.take_regions.ensures.done

pub returns-then-not-has_parts-clause-paid : goal.returns-then-not-has_parts-clause-paid
returns-then-not-has_parts-clause-paid c = KeepsKnowing-refl (content_of c.args.nodes.now c.args.table.now.entries)

pub returns-clause-paid : goal.returns-clause-paid
returns-clause-paid c = parts_paid c.take_parts.result (content_of c.args.nodes.now c.args.table.now.entries) (content_of c.args.nodes.now c.args.table.now.entries) (pair_at c.args.nodes.now c.args.pair) c.take_parts.ensures.parts c.requires.left_rigid c.requires.right_rigid
