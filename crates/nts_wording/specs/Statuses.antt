-- How runs end.
use Rattle.std.specs.Prelude.{ℕ, Bool, true, false}
use Rattle.nts_text.specs.declared.refusals.TextError.{TextError}
use Rattle.nts_text.specs.declared.refusals.TextError.TheVariants as text
use Rattle.nts_text.specs.declared.reader.ReadError.{ReadError}
use Rattle.nts_text.specs.declared.reader.ReadError.TheVariants as read
use Rattle.nts_wording.specs.declared.status.Status.{Status}
use Rattle.nts_wording.specs.declared.status.Status.TheVariants as status
use Rattle.nts_wording.specs.declared.status.Stop.{Stop}
use Rattle.nts_wording.specs.declared.status.Stop.TheVariants as stop

-- the exit status
abbrev pub code_of : Status → ℕ
code_of status.Done = 0
code_of status.Failed = 1
code_of status.Refused = 2
code_of status.OutOfMemory = 3

abbrev pub status_of : Stop → Status
status_of stop.Memory = status.OutOfMemory
status_of stop.Failed = status.Failed
status_of (stop.Refused r) = status.Refused

abbrev pub stop_of_text : TextError → Stop
stop_of_text text.Memory = stop.Memory
stop_of_text (text.Refused r) = stop.Refused r

abbrev pub stop_of_read : ReadError → Stop
stop_of_read read.Memory = stop.Memory
stop_of_read read.Failed = stop.Failed

abbrev pub is_refusal : Stop → Bool
is_refusal (stop.Refused r) = true
is_refusal s = false
