use Rattle.std.proofs.Common.{◌≡◌, take, min}
use Rattle.nts_text.specs.Bytes.{decimal_value}
use Rattle.nts_text.proofs.parser.number_of.Given as goal

abbrev pub invariant-loop-digit : goal.invariant-loop-digit
invariant-loop-digit l = l.value ≡ min (decimal_value (take l.digit-index l.digits)) 65536
