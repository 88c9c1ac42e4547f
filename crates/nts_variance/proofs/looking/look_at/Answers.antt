use Rattle.std.proofs.Common.{◌≡◌, ◌⊎◌, inl, inr, true, false, Some, None, refl, sym, ap, ◌∙◌}
use Rattle.nts_model.specs.Terms.Trees.{any_label, is_alias, kind_of}
use Rattle.nts_store.specs.Growth.{tree_at}
use Rattle.nts_store.specs.TypeFlags.{escaping}
use Rattle.nts_variance.specs.Parts.{closed_alias, const_variable}
use Rattle.nts_relating.proofs.RegionLemmas.{region_of_term}
use Rattle.nts_variance.proofs.CountedPieces.{infer_alias}
use Rattle.nts_variance.proofs.Looks.{fresh_at, region_at, itself_at, varies_free, closed_alias_tree, alias_sort, made_again, alone_part, no_const, no_type, from_not_false}
use Rattle.nts_variance.proofs.looking.look_at.Goals.{else-not-flags-via-then-not-flags+else-stands_alone, else-not-flags-via-else-not-flags, in-Const, in_default}
use Rattle.nts_variance.proofs.looking.look_at.Goals as goal

pub look_at_piece-requires-clause-alone : goal.look_at_piece-requires-clause-alone
look_at_piece-requires-clause-alone c =
    alone_part (tree_at c.args.nodes.now c.args.spot.term) c.label-label.result c.flags-flags.result c.args.spot.variance c.label-label.ensures.is c.flags-flags.ensures (c.if-stands_alone.ensures.alone refl)

pub returns-then-stands_alone-clause-look : goal.returns-then-stands_alone-clause-look
returns-then-stands_alone-clause-look c = λ declared. c.look_at_piece.ensures.look declared c.args.goals.now.items

pub returns-then-is_closed_alias-clause-look : goal.returns-then-is_closed_alias-clause-look
returns-then-is_closed_alias-clause-look c = λ declared.
    let t = tree_at c.args.nodes.now c.args.spot.term in
    let s = c.in_ok-made.ensures in
    let formed = c.terms_are_formed.ensures.formed c.args.spot.term c.requires.part.within in
    let is = c.label-label.ensures.is in
    let loose : closed_alias c.label-label.result (escaping t) ≡ true = ap (λ f. closed_alias c.label-label.result f.escaping) (sym c.flags-flags.ensures) ∙ sym c.if-is_closed_alias.ensures in
    let a = closed_alias_tree t c.label-label.result is formed loose in
    let k = alias_sort c.label-label.result c.match-label.kind a.label (elim c.match-label.branch [ in-Const w ↦ inl (w.in-Const.field-0, w.in-Const.is, w.kind-is) | in_default w ↦ inr (w.in_default.not-Const, w.kind-is) ]) in
    fresh_at declared c.args.target.is_turned c.args.target.universe c.args.target.variable c.args.nodes.now c.make_fresh.new.nodes c.args.table.now.entries c.make_fresh.new.table.entries c.args.spot c.in_ok-made.made c.args.goals.now.items c.make_fresh.new.goals.items c.match-label.kind None c.requires.known k.1 c.requires.lawful (s.lawful c.requires.lawful) s.extends c.requires.part formed a.closed (ap kind_of is ∙ ap Some (sym k.0)) (inr a.loose) (λ i. absurd (infer_alias t i a.loose)) (λ i. absurd (infer_alias t i a.loose)) s.within s.tree s.entries s.goals

pub returns-then-has_parts-clause-look : goal.returns-then-has_parts-clause-look
returns-then-has_parts-clause-look c = λ declared.
    let t = tree_at c.args.nodes.now c.args.spot.term in
    let formed = c.terms_are_formed.ensures.formed c.args.spot.term c.requires.part.within in
    let tight : closed_alias c.label-label.result (escaping t) ≡ false = ap (λ f. closed_alias c.label-label.result f.escaping) (sym c.flags-flags.ensures) ∙ sym c.if-is_closed_alias.ensures in
    (refl, refl, refl, made_again t c.label-label.result c.label-label.ensures.is formed (sym c.if-has_parts.ensures) tight)

pub make_region-requires-clause-region : goal.make_region-requires-clause-region
make_region-requires-clause-region c =
    region_of_term c.args.nodes.now c.args.table.now.entries c.args.spot.term c.label-label.result c.requires.part.within c.requires.part.knows c.label-label.ensures.is c.label-label.ensures.formed (varies_free c.label-label.result (sym c.if-may_vary.ensures))

pub returns-then-may_vary-clause-look : goal.returns-then-may_vary-clause-look
returns-then-may_vary-clause-look c = λ declared.
    let s = c.in_ok-made-2.ensures in
    let free = region_of_term c.args.nodes.now c.args.table.now.entries c.args.spot.term c.label-label.result c.requires.part.within c.requires.part.knows c.label-label.ensures.is c.label-label.ensures.formed (varies_free c.label-label.result (sym c.if-may_vary.ensures)) in
    region_at declared c.args.target.is_turned c.args.target.universe c.args.target.variable c.args.nodes.now c.make_region.new.nodes c.args.table.now.entries c.make_region.new.table.entries c.args.spot c.in_ok-made-2.made c.args.goals.now.items c.requires.known c.requires.lawful s.lawful s.extends free s.within s.tree s.entries

pub returns-clause-look : goal.returns-clause-look
returns-clause-look c = λ declared.
    let t = tree_at c.args.nodes.now c.args.spot.term in
    let formed = c.terms_are_formed.ensures.formed c.args.spot.term c.requires.part.within in
    let is = c.label-label.ensures.is in
    let side : (const_variable c.label-label.result ≡ false) ⊎ (any_label is_alias t ≡ true) = elim c.else-not-flags.branch [
      | else-not-flags-via-then-not-flags+else-stands_alone w ↦ inl (w.if-stands_alone.ensures.no_const refl)
      | else-not-flags-via-else-not-flags w ↦ inr (ap (λ f. f.has_alias) (sym c.flags-flags.ensures) ∙ from_not_false c.flags-flags.result.has_alias w.if-not-flags.false)
    ] in
    itself_at declared c.args.target.is_turned c.args.target.universe c.args.target.variable c.args.nodes.now c.args.table.now.entries c.args.spot c.args.goals.now.items c.label-label.result c.requires.lawful c.requires.part formed is (sym c.if-has_parts.ensures) (λ n. no_type c.label-label.result n c.in_default-type_number.ensures) (λ n. no_const t c.label-label.result n is formed side) (sym c.if-may_vary.ensures)
