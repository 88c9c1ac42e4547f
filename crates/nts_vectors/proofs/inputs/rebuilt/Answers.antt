use Rattle.nts_table.specs.TableLaws.{IsTable-extended}
use Rattle.nts_vectors.proofs.inputs.rebuilt.Goals as goal

pub returns-in_err-input : goal.returns-in_err-input
returns-in_err-input c = IsTable-extended c.canonicalize_goal.ensures.grows.extends c.in_ok-args.ensures.table

pub build-requires-clause-table : goal.build-requires-clause-table
build-requires-clause-table c = IsTable-extended c.canonicalize_goal.ensures.grows.extends c.in_ok-args.ensures.table
