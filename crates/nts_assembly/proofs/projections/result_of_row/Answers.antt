use Rattle.std.proofs.Common.{◌≡◌, true, Some, refl, sym, ap, subst, ◌∙◌}
use Rattle.nts_model.specs.Terms.Trees.{children, row_length}
use Rattle.nts_store.specs.Growth.{tree_at}
use Rattle.nts_store.proofs.Growing.{IsIn-extended}
use Rattle.nts_candidates.specs.declared.data.CandidateData.{CandidateData}
use Rattle.nts_candidates.specs.nts_certainty.specs.declared.certainty.Certainty.TheVariants as certainty
use Rattle.nts_candidates.specs.nts_certainty.specs.declared.reruns.RerunCondition.TheVariants as rerun
use Rattle.nts_delegate.specs.ClauseHandlers.{asked_row, projection_of}
use Rattle.nts_delegate.specs.Offers.{AreArgumentPairs}
use Rattle.nts_assembly.specs.Assumptions.{positioned, sorts_in, sorts_of_predicate}
use Rattle.nts_assembly.specs.Assuming.{positioned_row}
use Rattle.nts_assembly.specs.EnvironmentRows.{IsAssumedOffer}
use Rattle.nts_assembly.specs.Projections.{fits_alias}
use Rattle.nts_assembly.specs.ProjectionRows.{said_in, IsResultIf}
use Rattle.nts_assembly.proofs.ResultOffers.{head_positioned, pairs_said}
use Rattle.nts_assembly.proofs.RowOffers.{sorts_listed, row_length_positioned, where_offered, grows_on}
use Rattle.nts_assembly.proofs.projections.result_of_row.Goals as goal

pub pairs_of-requires-clause-row : goal.pairs_of-requires-clause-row
pairs_of-requires-clause-row c =
    let said = c.in-Some.ensures.holds c.args.cx.now.nodes c.kind-clause.ensures.fits.1 in
    let head = c.in_ok-head.ensures in
    let is = head_positioned c.args.cx.now.nodes _ _ c.in-Some.said.alias.args.node c.in_ok-head.head.node said.args.fits head.tree c.in_ok-term.ensures.grows.extends head.holds.within in
    rw is (positioned_row 0 (children (tree_at c.args.cx.now.nodes c.in-Some.said.alias.args.node)) c.takes.ensures.said)

pub pairs_of-requires-clause-long : goal.pairs_of-requires-clause-long
pairs_of-requires-clause-long c =
    let said = c.in-Some.ensures.holds c.args.cx.now.nodes c.kind-clause.ensures.fits.1 in
    let head = c.in_ok-head.ensures in
    let is = head_positioned c.args.cx.now.nodes _ _ c.in-Some.said.alias.args.node c.in_ok-head.head.node said.args.fits head.tree c.in_ok-term.ensures.grows.extends head.holds.within in
    let args = (grows_on head.grows c.in_ok-term.ensures.grows).extends.kept c.args.asked.alias.args.node c.requires.asked.args.within in
    ap (λ t. row_length (children t)) args ∙ c.takes.ensures.long c.if-not-takes.false ∙ sym (row_length_positioned 0 (children (tree_at c.args.cx.now.nodes c.in-Some.said.alias.args.node)) c.takes.ensures.said) ∙ sym (ap row_length is)

abbrev made : goal.After-new-3 → CandidateData
made c =
    record { fresh = c.in_ok-fresh.fresh; equations = c.push.new.self; region_constraints = c.new.result; hidden_types = c.new-2.result; goals = c.new-3.result; certainty = certainty.Yes; accesses = rerun.Never }

pub returns-clause-offer : goal.returns-clause-offer
returns-clause-offer c =
    let a = c.args.cx.now.nodes in
    let b = c.position.new.cx.nodes in
    let p = tree_at a c.args.row.node in
    let w = said_in a c.args.asked in
    let r = said_in a c.in-Some.said in
    let said = c.in-Some.ensures.holds a c.kind-clause.ensures.fits.1 in
    let is : projection_of (tree_at c.args.cx.now.nodes c.args.row.node) ≡ Some (said_in c.args.cx.now.nodes c.in-Some.said) = ap projection_of c.kind-clause.ensures.tree ∙ c.in-Some.ensures.is a in
    let fits : fits_alias (said_in c.args.cx.now.nodes c.args.asked) (said_in c.args.cx.now.nodes c.in-Some.said) ≡ true = sym c.takes.ensures.is ∙ c.if-not-takes.false in
    let grown = (grows_on c.in_ok-head.ensures.grows c.in_ok-term.ensures.grows).extends in
    let head = c.in_ok-head.ensures in
    let head_is = head_positioned a _ b c.in-Some.said.alias.args.node c.in_ok-head.head.node said.args.fits head.tree c.in_ok-term.ensures.grows.extends head.holds.within in
    let args_kept = ap children (grown.kept c.args.asked.alias.args.node c.requires.asked.args.within) in
    let there = c.in_ok-head.ensures.grows.extends.kept c.in-Some.said.term.node said.term.within in
    let pairs : AreArgumentPairs c.position.new.cx.nodes (children (tree_at c.args.cx.now.nodes c.args.asked.alias.args.node)) (positioned 0 (children (tree_at c.args.cx.now.nodes c.in-Some.said.alias.args.node))) c.in_ok-equations.equations.items =
    subst (λ z. AreArgumentPairs b z (positioned 0 r.parts) c.in_ok-equations.equations.items) args_kept (subst (λ z. AreArgumentPairs b (children (tree_at b c.args.asked.alias.args.node)) z c.in_ok-equations.equations.items) head_is c.in_ok-equations.ensures) in
    let all = pairs_said b w r _ _ c.takes.ensures.said pairs (record {
      kind = refl;
      left_in = IsIn-extended grown c.args.asked.term.node c.requires.asked.term.within;
      right_in = c.in_ok-term.ensures.within;
      left = grown.kept c.args.asked.term.node c.requires.asked.term.within;
      right = c.in_ok-term.ensures.tree ∙ ap (positioned 0) there;
      argument = rw c.requires.asked.term.fits tt;
    }) in
    let offer : IsAssumedOffer c.position.new.cx.nodes (asked_row (said_in c.args.cx.now.nodes c.args.asked)) (sorts_of_predicate (tree_at c.args.cx.now.nodes c.args.row.node)) (asked_row (said_in c.args.cx.now.nodes c.in-Some.said)) (made c) = record {
      fresh = c.in_ok-fresh.ensures ∙ sym (ap sorts_in (sorts_listed (tree_at a c.kind-clause.result.vars.node) c.kind-clause.ensures.fits.0.fits)) ∙ sym (ap sorts_of_predicate c.kind-clause.ensures.tree);
      equations = rw c.in_ok-push.ensures.items all;
      constraints = c.new.ensures.items;
      hidden = c.new-2.ensures.items;
      goals = c.new-3.ensures.items;
      certainty = refl;
      accesses = refl;
    } in
    subst (λ z. IsResultIf b w p z (Some (made c))) (sym is) (where_offered (fits_alias w r) b (asked_row w) (sorts_of_predicate p) (asked_row r) (made c) fits offer)
