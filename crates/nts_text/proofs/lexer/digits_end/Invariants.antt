use Rattle.std.proofs.Common.{◌-◌, ◌≤◌, length}
use Rattle.std.specs.Char.{is_ascii_digit}
use Rattle.nts_text.specs.Bytes.{AllFrom}
use Rattle.nts_text.proofs.lexer.digits_end.Given as goal

abbrev pub invariant-loop-at : goal.invariant-loop-at
invariant-loop-at l = (l.start ≤ l.at) × (l.at ≤ length l.line) × AllFrom is_ascii_digit l.line l.start l.at

abbrev pub decreases-loop-at : goal.decreases-loop-at
decreases-loop-at l = length l.line - l.at
