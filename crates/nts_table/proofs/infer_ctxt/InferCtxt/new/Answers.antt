use Rattle.nts_table.specs.TableLaws.{IsTable-new}
use Rattle.nts_table.proofs.infer_ctxt.InferCtxt.new.Goals as goal

pub returns-clause-table : goal.returns-clause-table
returns-clause-table c = λ ts. IsTable-new ts _ c.new.ensures.entries c.new.ensures.saved
