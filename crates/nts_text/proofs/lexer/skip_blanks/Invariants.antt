use Rattle.std.proofs.Common.{◌-◌, ◌≤◌, length}
use Rattle.nts_text.specs.Bytes.{is_blank, AllFrom}
use Rattle.nts_text.proofs.lexer.skip_blanks.Given as goal

abbrev pub invariant-loop-at : goal.invariant-loop-at
invariant-loop-at l = (l.start ≤ l.at) × (l.at ≤ length l.line) × AllFrom is_blank l.line l.start l.at

abbrev pub decreases-loop-at : goal.decreases-loop-at
decreases-loop-at l = length l.line - l.at
