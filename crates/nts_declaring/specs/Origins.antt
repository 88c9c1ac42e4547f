-- Which line a reason names.
use Rattle.std.specs.Prelude.{ℕ, ◌-◌, List, ◌++◌, length, map, replicate}
use Rattle.nts_declaring.specs.declared.origins.Origin.{Origin}
use Rattle.nts_declaring.specs.declared.origins.Origin.TheVariants as origin

-- where each of so many candidates comes from, if these are the lines of the impls of the goal's trait: those of the
-- environment stand before those of the impls, which are in the order of their lines
abbrev pub origins_of : ℕ → List ℕ → List Origin
origins_of count lines = replicate (count - length lines) origin.Environment ++ map origin.Line lines
