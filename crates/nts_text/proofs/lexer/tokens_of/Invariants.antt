use Rattle.std.proofs.Common.{◌≡◌, ◌-◌, ◌≤◌, ◌<◌, length, All, false, get_or}
use Rattle.nts_text.specs.Bytes.{is_blank}
use Rattle.nts_text.specs.Tokens.{IsInside}
use Rattle.nts_text.proofs.TokenLemmas.{AreTokensBetween}
use Rattle.nts_text.proofs.lexer.tokens_of.Given as goal

abbrev pub invariant-loop-at : goal.invariant-loop-at
invariant-loop-at l = record {
  behind : l.start ≤ l.at;
  placed : l.at ≤ length l.line;
  visible : l.at < length l.line → is_blank (get_or l.line l.at 0) ≡ false;
  cut : AreTokensBetween l.line l.start l.tokens.items l.at;
  inside : All (IsInside l.line) l.tokens.items;
}

abbrev pub decreases-loop-at : goal.decreases-loop-at
decreases-loop-at l = length l.line - l.at
