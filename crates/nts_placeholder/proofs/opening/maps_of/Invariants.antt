use Rattle.std.proofs.Common.{take}
use Rattle.nts_placeholder.specs.Closing.{mapped}
use Rattle.nts_placeholder.specs.Escaping.{is_among}
use Rattle.nts_placeholder.specs.Opening.{AreMapsOf}
use Rattle.nts_placeholder.proofs.opening.maps_of.Given as goal

abbrev pub invariant-loop-i : goal.invariant-loop-i
invariant-loop-i l = AreMapsOf l.universes (is_among (take l.i l.found)) (mapped l.maps)
