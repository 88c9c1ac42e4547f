use Rattle.std.proofs.Common.{arith, subst}
use Rattle.std.proofs.lemmas.List.{take_all}
use Rattle.nts_model.specs.Answers.Responses.{positioned}
use Rattle.nts_model.specs.Derivations.Handlers.{hidden_by}
use Rattle.nts_response.specs.nts_candidates.specs.Offered.{hidden_of}
use Rattle.nts_store.proofs.Growing.{Extends-trans}
use Rattle.nts_response.specs.nts_canonical.specs.Forms.{IsHidden}
use Rattle.nts_response.specs.Replacing.{ReplacesEach}
use Rattle.nts_response.proofs.Each.{replaced_more, hidden_kept}
use Rattle.nts_answering.proofs.numbered.numbered_hidden.Goals as goal

pub numbered_pair-requires : goal.numbered_pair-requires
numbered_pair-requires c =
    (let k = hidden_kept in k.held c.args.nodes.now c.loop-i.nodes _ (c.requires c.loop-i.i _ (omega (arith, c.loop-i-test.true))) c.loop-i.invariant.extends)

pub loop-i-preserved : goal.loop-i-preserved
loop-i-preserved c =
    let up = c.numbered_pair.ensures.extends in
    record {
      each = replaced_more IsHidden hidden_of (hidden_by (positioned c.args.leaves.now)) hidden_kept c.args.nodes.now c.loop-i.nodes c.numbered_pair.new.nodes c.args.hidden.now c.loop-i.numbered.items c.push.new.self.items c.loop-i.i _ c.in_ok-one.one
          c.loop-i.invariant.extends up c.requires (omega (arith, c.loop-i-test.true)) c.loop-i.invariant.each c.in_ok-one.ensures.holds c.in_ok-one.ensures.replaced c.in_ok-push.ensures.items;
      extends = Extends-trans c.loop-i.invariant.extends up;
    }

pub returns-clause-each : goal.returns-clause-each
returns-clause-each c =
    subst (λ xs. ReplacesEach IsHidden hidden_of (hidden_by (positioned c.args.leaves.now)) c.args.nodes.now c.loop-i.nodes xs c.loop-i.numbered.items) (take_all c.loop-i.i c.args.hidden.now (omega (arith, c.loop-i-test.false))) c.loop-i.invariant.each
