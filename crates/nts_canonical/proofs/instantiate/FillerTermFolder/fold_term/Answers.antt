use Rattle.std.proofs.Common.{ap, Some}
use Rattle.nts_store.specs.Kept.{AllIn-kept, map-kept}
use Rattle.nts_canonical.proofs.instantiate.FillerTermFolder.fold_term.Goals as goal

pub returns-in_err-filled-clause-ready : goal.returns-in_err-filled-clause-ready
returns-in_err-filled-clause-ready g c = AllIn-kept c.args.cx.now.nodes c.fill.new.nodes c.args.self.now.values.now c.requires.ready c.fill.ensures.extends

pub returns-clause-ready : goal.returns-clause-ready
returns-clause-ready g c = AllIn-kept c.args.cx.now.nodes c.fill.new.nodes c.args.self.now.values.now c.requires.ready c.fill.ensures.extends

pub returns-clause-answers : goal.returns-clause-answers
returns-clause-answers g c = λ k. (
  ap Some c.in_ok-filled.ensures.tree,
  map-kept c.args.cx.now.nodes c.fill.new.nodes c.args.self.now.values.now c.requires.ready c.fill.ensures.extends,
)
