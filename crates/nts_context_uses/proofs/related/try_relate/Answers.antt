use Rattle.nts_table.specs.TableLaws.{IsTable-extended}
use Rattle.nts_delegate.specs.ClausesKept.{AreClausesReady-kept}
use Rattle.nts_context_uses.proofs.related.try_relate.Goals as goal

pub relate_in_probes-requires-clause-table : goal.relate_in_probes-requires-clause-table
relate_in_probes-requires-clause-table c = IsTable-extended c.in_ok-env.ensures.grows.extends c.requires.table

pub relate_in_probes-requires-clause-ready : goal.relate_in_probes-requires-clause-ready
relate_in_probes-requires-clause-ready c = AreClausesReady-kept _ _ c.args.rules.now c.requires.ready c.in_ok-env.ensures.grows.extends
