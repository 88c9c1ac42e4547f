-- The fault that a context keeps.
use Rattle.std.specs.Prelude.{◌≡◌, Bool, true, Option, Some, None, Result, Ok, Err}
use Rattle.nts_store.specs.declared.fault.Fault.{Fault}
use Rattle.nts_store.specs.declared.fault.Fault.TheVariants as fault
use Rattle.nts_store.specs.declared.fault.EvalError.{EvalError}
use Rattle.nts_store.specs.declared.fault.EvalError.TheVariants as error

-- the fault that an error is, if it is one
abbrev pub fault_of : EvalError → Option Fault
fault_of error.NoSolution = None
fault_of error.Memory = Some fault.Memory
fault_of error.Full = Some fault.Full

-- .. that an answer is
abbrev pub fault_in : {R : Type 0} → Result R EvalError → Option Fault
fault_in (Ok r) = None
fault_in (Err e) = fault_of e

-- the fault that is kept after an answer: the first one
abbrev pub fault_after : {R : Type 0} → Option Fault → Result R EvalError → Option Fault
fault_after (Some f) r = Some f
fault_after None r = fault_in r

-- what was answered is no fault
abbrev pub AnsweredNoFault : {R : Type 0} → Result R EvalError → Type 0
AnsweredNoFault r = fault_in r ≡ None

-- a context is tainted once goals that were added to it have no solution
abbrev pub tainted_after : {R : Type 0} → Bool → Result R EvalError → Bool
tainted_after b (Err error.NoSolution) = true
tainted_after b r = b
