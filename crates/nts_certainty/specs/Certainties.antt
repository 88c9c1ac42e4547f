-- How sure answers are, joined.
use Rattle.std.specs.Prelude.{Bool, true, false, ◌&&◌, ◌||◌}
use Rattle.nts_certainty.specs.declared.certainty.MaybeCause.{MaybeCause}
use Rattle.nts_certainty.specs.declared.certainty.MaybeCause.TheVariants.{Ambiguity, Overflow}
use Rattle.nts_certainty.specs.declared.certainty.OpaqueTypesJank.{OpaqueTypesJank}
use Rattle.nts_certainty.specs.declared.certainty.OpaqueTypesJank.TheVariants.{AllGood, ErrorIfRigidSelfTy}
use Rattle.nts_certainty.specs.declared.certainty.Certainty.{Certainty}
use Rattle.nts_certainty.specs.declared.certainty.Certainty.TheVariants.{Yes, Maybe}

-- an overflow wins over an ambiguity; two overflows have what both have
abbrev pub cause_of_both : MaybeCause → MaybeCause → MaybeCause
cause_of_both Ambiguity b = b
cause_of_both (Overflow s k) Ambiguity = Overflow s k
cause_of_both (Overflow s k) (Overflow s' k') = Overflow (s && s') (k && k')

-- an overflow with an ambiguity keeps its suggestion, and the constraints; two overflows have what one has
abbrev pub cause_of_either : MaybeCause → MaybeCause → MaybeCause
cause_of_either Ambiguity Ambiguity = Ambiguity
cause_of_either Ambiguity (Overflow s k) = Overflow s true
cause_of_either (Overflow s k) Ambiguity = Overflow s true
cause_of_either (Overflow s k) (Overflow s' k') = Overflow (s || s') (k || k')

abbrev pub jank_of_both : OpaqueTypesJank → OpaqueTypesJank → OpaqueTypesJank
jank_of_both AllGood b = b
jank_of_both ErrorIfRigidSelfTy b = ErrorIfRigidSelfTy

abbrev pub jank_of_either : OpaqueTypesJank → OpaqueTypesJank → OpaqueTypesJank
jank_of_either AllGood b = AllGood
jank_of_either ErrorIfRigidSelfTy b = b

-- how sure it is that both hold, and that one of them does
abbrev pub both : Certainty → Certainty → Certainty
both Yes b = b
both (Maybe a) Yes = Maybe a
both (Maybe a) (Maybe b) =
    Maybe (record { cause = cause_of_both a.cause b.cause; opaque_types_jank = jank_of_both a.opaque_types_jank b.opaque_types_jank })

abbrev pub either : Certainty → Certainty → Certainty
either Yes b = Yes
either (Maybe a) Yes = Yes
either (Maybe a) (Maybe b) =
    Maybe (record { cause = cause_of_either a.cause b.cause; opaque_types_jank = jank_of_either a.opaque_types_jank b.opaque_types_jank })

abbrev pub ambiguous : Certainty
ambiguous = Maybe (record { cause = Ambiguity; opaque_types_jank = AllGood })

-- an overflow that keeps no constraints
abbrev pub overflowing : Bool → Certainty
overflowing s = Maybe (record { cause = Overflow s false; opaque_types_jank = AllGood })
