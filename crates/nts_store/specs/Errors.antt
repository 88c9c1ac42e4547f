-- A fault as an error of an evaluation.
use Rattle.nts_store.specs.declared.fault.Fault.{Fault}
use Rattle.nts_store.specs.declared.fault.Fault.TheVariants as fault
use Rattle.nts_store.specs.declared.fault.EvalError.{EvalError}
use Rattle.nts_store.specs.declared.fault.EvalError.TheVariants as eval

-- a fault as an error of an evaluation
abbrev pub error_of : Fault → EvalError
error_of fault.Memory = eval.Memory
error_of fault.Full = eval.Full
