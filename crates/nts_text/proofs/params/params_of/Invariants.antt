use Rattle.std.proofs.Common.{map, take, drop}
use Rattle.nts_text.specs.Declarations.{sign_of}
use Rattle.nts_text.proofs.ComeLemmas.{IsReadOnly}
use Rattle.nts_text.proofs.ParamLemmas.{IsReadTo}
use Rattle.nts_text.proofs.params.params_of.Given as goal

abbrev pub invariant-loop-token : goal.invariant-loop-token
invariant-loop-token l = record {
  read : IsReadTo l.place l.params.items (map (sign_of l.line) (take l.token-index l.tokens));
  only : IsReadOnly l.line l.tokens l.place l.params.items (map (sign_of l.line) (drop l.token-index l.tokens));
}
