use Rattle.std.proofs.Common.{ap, ◌∙◌}
use Rattle.nts_unify.specs.Entries.{constrained}
use Rattle.nts_table.specs.Tables.{Table}
use Rattle.nts_table.specs.TableLaws.{IsTable-constrained}
use Rattle.nts_unify.proofs.Labelled.{constrained_brings}
use Rattle.nts_table.proofs.infer_ctxt.InferCtxt.record.Goals as goal

pub returns-clause-table : goal.returns-clause-table
returns-clause-table c =
    IsTable-constrained c.requires.table c.requires.sides (c.in_ok-constrain.ensures.entries ∙ ap (λ (t : Table). constrained t.entries c.args.constraint) c.self.view_is) (c.constrain.ensures.saved ∙ ap (λ (t : Table). t.saved) c.self.view_is)

pub returns-clause-labels : goal.returns-clause-labels
returns-clause-labels c =
    constrained_brings c.args.nodes.now c.args.self.now.entries c.constrain.new.self.entries c.args.constraint (c.in_ok-constrain.ensures.entries ∙ ap (λ (t : Table). constrained t.entries c.args.constraint) c.self.view_is)
