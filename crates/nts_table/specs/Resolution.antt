-- What a walk makes of a term under a table: its tree under the values, and with or without the roots
-- of region variables.
use Rattle.std.proofs.Common.{◌≡◌, Bool, true, false, List, refl}
use Rattle.nts_model.specs.Terms.Trees.{Tree, empty, more, any_label, is_infer, is_region_infer, kind_of}
use Rattle.nts_model.specs.Tables.Contents.{Content}
use Rattle.nts_model.specs.Tables.Resolving.{resolved, deeply_resolved, Knows, IsSound}
use Rattle.nts_model.proofs.Tables.Resolved.{resolved-empty, resolved-more, deeply_resolved-empty}
use Rattle.nts_model.proofs.Tables.Kept.{kind_of-resolved, kind_of-deeply_resolved}
use Rattle.nts_store.specs.Growth.{Extends}
use Rattle.nts_table.specs.Tables.{Table}
use Rattle.nts_unify.specs.Reading.{content_of}
use Rattle.nts_table.specs.Tables.{IsTable}
use Rattle.nts_unify.specs.Lawful.{content_of-extended}

-- the tree under the values; region variables are replaced by their roots, or stay
abbrev pub resolved_to : Bool → Content → Tree → Tree
resolved_to true c t = deeply_resolved c t
resolved_to false c t = resolved c t

pub record Resolution : Type 0 where
  pub content : Content
  pub regions : Bool

-- the resolution in a store
abbrev pub resolution : List Tree → Table → Bool → Resolution
resolution ts t regions = record { content = content_of ts t.entries; regions = regions }

-- the trees that can be resolved
pub record CanResolve (r : Resolution) (t : Tree) : Type 0 where
  pub sound : IsSound r.content
  pub knows : Knows r.content t

abbrev pub resolution_of : Resolution → Tree → Tree
resolution_of r t = resolved_to r.regions r.content t

-- the laws of a walk
pub resolution-kept : (a b : List Tree) (t : Table) (regions : Bool) → IsTable a t → Extends a b → resolution b t regions ≡ resolution a t regions
resolution-kept a b t regions h e = let same = content_of-extended e h.now in λ i. record { content = same i; regions = regions }

resolved_to-empty : (regions : Bool) (c : Content) → resolved_to regions c empty ≡ empty
resolved_to-empty true c = deeply_resolved-empty c
resolved_to-empty false c = resolved-empty c

pub resolution_of-empty : (r : Resolution) → resolution_of r empty ≡ empty
resolution_of-empty r = resolved_to-empty r.regions r.content

resolved_to-more : (regions : Bool) (c : Content) (a b : Tree) → resolved_to regions c (more a b) ≡ more (resolved_to regions c a) (resolved_to regions c b)
resolved_to-more true c a b = rw (resolved-more c a b) refl
resolved_to-more false c a b = resolved-more c a b

pub resolution_of-more : (r : Resolution) (a b : Tree) → resolution_of r (more a b) ≡ more (resolution_of r a) (resolution_of r b)
resolution_of-more r a b = resolved_to-more r.regions r.content a b

pub CanResolve-more : (r : Resolution) (a b : Tree) → CanResolve r (more a b) → CanResolve r a × CanResolve r b
CanResolve-more r a b h =
    (record { sound = h.sound; knows = h.knows.0 }, record { sound = h.sound; knows = h.knows.1 })

resolved_to-kind : (regions : Bool) (c : Content) (t : Tree) → IsSound c → Knows c t → kind_of (resolved_to regions c t) ≡ kind_of t
resolved_to-kind true c t s k = kind_of-deeply_resolved c t s k
resolved_to-kind false c t s k = kind_of-resolved c t s k

pub resolution_of-kind : (r : Resolution) (t : Tree) → CanResolve r t → kind_of (resolution_of r t) ≡ kind_of t
resolution_of-kind r t h = resolved_to-kind r.regions r.content t h.sound h.knows

-- no variable of the tree is to be replaced
pub record IsResolved (regions : Bool) (t : Tree) : Type 0 where
  pub no_infer : any_label is_infer t ≡ false
  pub no_region : regions ≡ true → any_label is_region_infer t ≡ false
