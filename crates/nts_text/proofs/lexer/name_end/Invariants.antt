use Rattle.std.proofs.Common.{◌-◌, ◌≤◌, length}
use Rattle.nts_text.specs.Bytes.{is_name_byte, AllFrom}
use Rattle.nts_text.proofs.lexer.name_end.Given as goal

abbrev pub invariant-loop-at : goal.invariant-loop-at
invariant-loop-at l = (l.start ≤ l.at) × (l.at ≤ length l.line) × AllFrom is_name_byte l.line l.start l.at

abbrev pub decreases-loop-at : goal.decreases-loop-at
decreases-loop-at l = length l.line - l.at
