use Rattle.nts_table.specs.TableLaws.{IsTable-extended}
use Rattle.nts_vectors.proofs.inputs.with_hidden.Goals as goal

pub returns-in_err-canonicalize_goal : goal.returns-in_err-canonicalize_goal
returns-in_err-canonicalize_goal c = IsTable-extended c.canonicalize_goal.ensures.grows.extends c.in_ok-args.ensures.table

pub returns : goal.returns
returns c = IsTable-extended c.canonicalize_goal.ensures.grows.extends c.in_ok-args.ensures.table
