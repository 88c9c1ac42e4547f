use Rattle.std.proofs.Common.{All, take}
use Rattle.nts_wording.specs.Meaning.{HasOwnPlaces, HasPlace, KeepsPlaces}
use Rattle.nts_wording.proofs.variables.LineVariables.see.Given as goal

abbrev pub invariant-loop-node : goal.invariant-loop-node
invariant-loop-node l = record {
  own : HasOwnPlaces l.fn.self → HasOwnPlaces l.self;
  kept : KeepsPlaces l.fn.self l.self;
  placed : All (HasPlace l.self) (take l.node-index l.nodes);
}
