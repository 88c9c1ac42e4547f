-- When a round of a head is its last one.
use Rattle.std.specs.Prelude.{◌≢◌, List, Option, Some, None}
use Rattle.nts_model.specs.Terms.Trees.{Tree}
use Rattle.nts_certainty.specs.declared.certainty.Certainty.TheVariants as certainty
use Rattle.nts_response.specs.nts_canonical.specs.declared.types.Canonical.{Canonical}
use Rattle.nts_response.specs.nts_canonical.specs.Forms.{trees_of}
use Rattle.nts_response.specs.declared.types.Response.{Response}
use Rattle.nts_response.specs.Forms.{ArePositions, FoundNothing}
use Rattle.nts_response.specs.Same.{AreOneResponse}

-- no solution twice, or one response
abbrev pub AreOneAnswer : List Tree → Option (Canonical Response) → Option (Canonical Response) → Type 0
AreOneAnswer ts None None = Unit {0}
AreOneAnswer ts (Some r) (Some q) = AreOneResponse ts r q
AreOneAnswer ts None (Some q) = ⊥
AreOneAnswer ts (Some r) None = ⊥

-- a doubt that says nothing: its values are the positions in order, and it found nothing
abbrev pub IsVague : List Tree → Option (Canonical Response) → Type 0
IsVague ts (Some r) = (r.value.certainty ≢ certainty.Yes) × ArePositions (trees_of ts r.value.var_values.items) × FoundNothing r.value.external_constraints
IsVague ts None = ⊥
