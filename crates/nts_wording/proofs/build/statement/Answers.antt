use Rattle.nts_wording.proofs.Meant.{value_stated}
use Rattle.nts_wording.proofs.build.statement.Goals as goal

-- the value of an alias was made last but for its arguments
pub returns-in_ok-value-in-Normalizes-clause-makes : goal.returns-in_ok-value-in-Normalizes-clause-makes
returns-in_ok-value-in-Normalizes-clause-makes c =
    rw c.in-Normalizes.is (value_stated c.take_args-in-Normalizes.new.cx.nodes c.args.made.now c.take_args-in-Normalizes.new.made c.take_type-in-Normalizes.new.made c.in-Normalizes.number c.in-Normalizes.arguments
    c.in_ok-args-in-Normalizes.args c.in_ok-value-in-Normalizes.value.node c.into.result c.in_ok-args-in-Normalizes.ensures.takes c.in_ok-value-in-Normalizes.ensures c.into.ensures)
