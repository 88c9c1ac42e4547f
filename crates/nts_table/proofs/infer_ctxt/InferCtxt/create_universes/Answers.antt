use Rattle.std.proofs.Common.{arith, ap, ◌∙◌}
use Rattle.nts_unify.specs.Entries.{moved}
use Rattle.nts_table.specs.Tables.{Table}
use Rattle.nts_table.specs.TableLaws.{IsTable-moved}
use Rattle.nts_table.proofs.infer_ctxt.InferCtxt.create_universes.Goals as goal

pub returns-in_ok-move_to-in-Some-clause-table : goal.returns-in_ok-move_to-in-Some-clause-table
returns-in_ok-move_to-in-Some-clause-table c = λ ts h.
    IsTable-moved h (omega arith) (c.in_ok-move_to-in-Some.ensures.entries ∙ ap (λ (t : Table). moved t.entries c.in-Some.last) c.self.view_is) (c.move_to.ensures.saved ∙ ap (λ (t : Table). t.saved) c.self.view_is)
