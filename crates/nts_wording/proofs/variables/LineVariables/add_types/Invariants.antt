use Rattle.std.proofs.Common.{◌+◌, ◌-◌, length}
use Rattle.nts_wording.specs.Meaning.{HasOwnPlaces, KeepsPlaces}
use Rattle.nts_wording.proofs.variables.LineVariables.add_types.Given as goal

abbrev pub invariant-adding : goal.invariant-adding
invariant-adding l = record {
  own : HasOwnPlaces l.fn.self → HasOwnPlaces l.self;
  kept : KeepsPlaces l.fn.self l.self;
}

abbrev pub decreases-adding : goal.decreases-adding
decreases-adding l = l.number + 1 - length l.self.types.items
