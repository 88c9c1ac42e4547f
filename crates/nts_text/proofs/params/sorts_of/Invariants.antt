use Rattle.std.proofs.Common.{◌≡◌, map, take}
use Rattle.nts_text.specs.Declarations.{unmarked}
use Rattle.nts_text.proofs.params.sorts_of.Given as goal

abbrev pub invariant-loop-param : goal.invariant-loop-param
invariant-loop-param l = map unmarked l.sorts.items ≡ take l.param-index l.param-items
