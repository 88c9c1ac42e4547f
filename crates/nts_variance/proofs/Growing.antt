-- Tables that grow.
use Rattle.std.proofs.Common.{◌≡◌, ◌≢◌, ℕ, ◌<◌, length, Some, sym, ◌∙◌, arith}
use Rattle.nts_model.specs.declared.labels.VariableKind.TheVariants as kind
use Rattle.nts_model.specs.Terms.Trees.{Tree}
use Rattle.nts_model.specs.Tables.Contents.{Content, Slot, unset, kind_at, with_slot}
use Rattle.nts_model.specs.Tables.Resolving.{Knows}
use Rattle.nts_model.proofs.Tables.Slots.{Knows-kept, KeepsKinds-with_slot}
use Rattle.nts_model.proofs.Tables.Tying.{has_kind}
use Rattle.nts_model.proofs.Tables.SubUnified.{JoinsSubRoots-refl}
use Rattle.std.proofs.Common.{length-append, [], ◌∷◌}
use Rattle.nts_unify.specs.Changing.{IsLater, nothing_more}
use Rattle.nts_variance.specs.Walking.{IsTableGrown}
use Rattle.nts_variance.proofs.SubRoots.{grows_joined, grows_slot, grows_then}
use Rattle.nts_unify.proofs.Keeping.{AddsVisible-trans as visible_trans}

pub grown_refl : (c : Content) → IsTableGrown c c
grown_refl c = record { more = omega arith; grows = omega arith; kinds = λ n k h. h; subs = grows_joined (JoinsSubRoots-refl c); visible = nothing_more }

pub grown_trans : {c d e : Content} → IsTableGrown c d → IsTableGrown d e → IsTableGrown c e
grown_trans {c} {d} {e} a b =
    record { more = omega (arith, a.more, b.more); grows = omega (arith, a.grows, b.grows); kinds = λ n k h. b.kinds n k (a.kinds n k h); subs = grows_then c d e b.kinds a.more b.more a.subs b.subs; visible = visible_trans a.visible b.visible }

pub grown_later : {c d : Content} → IsLater c d → IsTableGrown c d
grown_later l = record { more = l.more; grows = l.grows; kinds = l.kinds; subs = grows_joined l.subs; visible = l.visible }

pub Knows-grown : {c d : Content} (t : Tree) → IsTableGrown c d → Knows c t → Knows d t
Knows-grown {c} {d} t l h = Knows-kept c d t (record { grows = l.grows; kinds = l.kinds }) h

-- one more variable, of which nothing is known
pub grown_slot : (c : Content) (v : Slot) → v.state ≡ unset → IsTableGrown c (with_slot c v)
grown_slot c v free =
    let kept = KeepsKinds-with_slot c v in
    record { more = omega (arith, length-append c.slots (v ∷ [])); grows = kept.grows; kinds = kept.kinds; subs = grows_slot c v free; visible = nothing_more }

-- a variable that is no region is none in a table that grew
pub region_never : (c d : Content) (n : ℕ) → IsTableGrown c d → n < length c.slots → kind_at c n ≢ Some kind.Region → kind_at d n ≢ Some kind.Region
region_never c d n g below apart e =
    let has = has_kind c n below in
    let same : Some has.0 ≡ Some kind.Region = sym (g.kinds n has.0 has.1) ∙ e in
    apart (has.1 ∙ same)
