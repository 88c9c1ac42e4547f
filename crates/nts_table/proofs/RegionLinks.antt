-- Joining the classes of region variables keeps a table with its store.
use Rattle.std.proofs.Common.{◌≡◌, ◌⊎◌, inl, inr, ⊎_elim, ℕ, ◌<◌, ◌≤◌, List, Option, Some, None, refl, sym, ap, ◌∙◌, arith, min, max}
use Rattle.std.specs.Prelude.{slice_get}
use Rattle.std.proofs.lemmas.Bool.{cases_lt}
use Rattle.nts_model.specs.declared.labels.VariableKind.{VariableKind}
use Rattle.nts_model.specs.declared.labels.VariableKind.TheVariants as kind
use Rattle.nts_model.specs.declared.labels.Label.{Label}
use Rattle.nts_model.specs.Terms.Trees.{Tree, empty, more, node, variable_of}
use Rattle.nts_model.specs.Tables.Contents.{Content, kind_at, state_of, known}
use Rattle.nts_model.specs.Tables.Resolving.{Knows}
use Rattle.nts_model.proofs.Tables.Roots.{kind_at-reaches}
use Rattle.nts_model.proofs.Tables.Slots.{slice_get-slice_set_same, slice_get-slice_set_other, slice_get_below}
use Rattle.nts_store.specs.Growth.{tree_at}
use Rattle.nts_unify.specs.declared.contents.State.{State}
use Rattle.nts_unify.specs.declared.contents.State.TheVariants.{Unset, Link, Known}
use Rattle.nts_unify.specs.declared.contents.Variable.{Variable}
use Rattle.nts_unify.specs.Entries.{Entries, with_variable}
use Rattle.nts_table.specs.Tables.{Table}
use Rattle.nts_unify.specs.Reading.{content_of, state_with, IsLawful}
use Rattle.nts_table.specs.Tables.{IsTable}
use Rattle.nts_unify.specs.Roots.{IsRoot}
use Rattle.nts_unify.specs.Equating.{RegionsLinked, RegionsJoined, region_of}
use Rattle.nts_unify.specs.Changing.{region_of_variable}
use Rattle.nts_unify.proofs.Changes.{proper_lowered, LeadsDown, IsLawful-marked, IsLawful-region_link}
use Rattle.nts_table.specs.TableLaws.{IsTable-now}
use Rattle.nts_unify.proofs.Leading.{state_of-entry, kind_at-entry, Reaches-leads}

known_region_at : (c : Content) (o : Option (VariableKind × ℕ)) (l : Label) (t : Tree) (x : ℕ) → variable_of l ≡ o → Knows c (node l t) → region_of_variable o ≡ Some x → kind_at c x ≡ Some kind.Region
known_region_at c None l t x q h e = cc
known_region_at c (Some (kind.Ty, n)) l t x q h e = cc
known_region_at c (Some (kind.Int, n)) l t x q h e = cc
known_region_at c (Some (kind.Float, n)) l t x q h e = cc
known_region_at c (Some (kind.Const, n)) l t x q h e = cc
known_region_at c (Some (kind.Region, n)) l t x q h e =
    let same : n ≡ x = cc in let k = rw q at h.0.0 in rw (← same) k

-- a region variable of a known tree is one of the table
pub known_region : (c : Content) (t : Tree) (x : ℕ) → Knows c t → region_of t ≡ Some x → kind_at c x ≡ Some kind.Region
known_region c empty x h e = cc
known_region c (more a b) x h e = cc
known_region c (node l t) x h e = known_region_at c (variable_of l) l t x refl h e

-- the root of a region variable is one, and has no value
pub record IsOpenRegion (v : Variable) : Type 0 where
  pub region : v.kind ≡ kind.Region
  pub free : v.state ≡ Unset

pub open_region : (ts : List Tree) (e : Entries) (n r : ℕ) (v : Variable) → IsLawful ts e → IsRoot e n r → kind_at (content_of ts e) n ≡ Some kind.Region → slice_get e.variables r ≡ Some v → IsOpenRegion v
open_region ts e n r v h root region at =
    record { region = is; free = by_state v.state refl }
  where
    there : kind_at (content_of ts e) r ≡ Some kind.Region
    there = kind_at-reaches (content_of ts e) n r h.sound (Reaches-leads ts e n r root.leads) ∙ region

    is : v.kind ≡ kind.Region
    is = let z : Some v.kind ≡ Some kind.Region = sym (kind_at-entry ts e r v at) ∙ there in cc

    by_state : (s : State) → v.state ≡ s → v.state ≡ Unset
    by_state Unset q = q
    by_state (Link m) q = let z = root.ends v at in absurd (rw q at z)
    by_state (Known t) q =
        let k : state_of (content_of ts e) r ≡ Some (known (tree_at ts t)) = state_of-entry ts e r v at ∙ ap (λ s. Some (state_with ts s)) q in
        absurd ((h.sound.fits r (tree_at ts t) kind.Region k there).1 refl)

min_is : (r s : ℕ) → (min r s ≡ r) ⊎ (min r s ≡ s)
min_is r s = ⊎_elim (λ (h : r < s). inl (omega arith)) (λ (h : s ≤ r). inr (omega arith)) (cases_lt r s)

max_is : (r s : ℕ) → (max r s ≡ r) ⊎ (max r s ≡ s)
max_is r s = ⊎_elim (λ (h : r < s). inr (omega arith)) (λ (h : s ≤ r). inl (omega arith)) (cases_lt r s)

module _ (ts : List Tree) (e f : Entries) (x y r s : ℕ) (h : IsLawful ts e) (of_first : IsRoot e x r) (of_second : IsRoot e y s) (first_region : kind_at (content_of ts e) x ≡ Some kind.Region) (second_region : kind_at (content_of ts e) y ≡ Some kind.Region) where
  either : (n : ℕ) (v : Variable) → (n ≡ r) ⊎ (n ≡ s) → slice_get e.variables n ≡ Some v → IsOpenRegion v
  either n v (inl q) at = open_region ts e x r v h of_first first_region (ap (slice_get e.variables) (sym q) ∙ at)
  either n v (inr q) at = open_region ts e y s v h of_second second_region (ap (slice_get e.variables) (sym q) ∙ at)

  IsLawful-regions_linked : RegionsLinked e f r s → IsLawful ts f
  IsLawful-regions_linked k =
      let apart = k.apart in
      let below : min r s < max r s = omega (arith, apart) in
      let other : max r s ≡ min r s → ⊥ = λ q. omega (arith, q, below) in
      let low = k.low in
      let high = k.high in
      let lowered = record low { universe = min low.universe high.universe } in
      let linked = record high { state = Link (min r s) } in
      let e1 = with_variable e (min r s) lowered in
      let low_open = either (min r s) low (min_is r s) k.low_at in
      let high_open = either (max r s) high (max_is r s) k.high_at in
      let low_down : LeadsDown (min r s) lowered = record {
        link = λ m q. h.descends.links (min r s) m low k.low_at q;
        sub_link = λ m q. h.descends.sub_links (min r s) m low k.low_at q;
      } in
      let lawful : IsLawful ts e1 = IsLawful-marked ts e (min r s) low lowered h k.low_at refl refl low_down (proper_lowered ts e (min r s) low lowered h k.low_at refl refl (omega arith) low_open.free) in
      let high_at : slice_get e1.variables (max r s) ≡ Some high = slice_get-slice_set_other e.variables (min r s) (max r s) lowered other ∙ k.high_at in
      let low_at : slice_get e1.variables (min r s) ≡ Some lowered = slice_get-slice_set_same e.variables (min r s) lowered (slice_get_below e.variables (min r s) low k.low_at) in
      let high_down : LeadsDown (max r s) linked = record {
        link = λ m q. (let is : min r s ≡ m = cc in omega (arith, is, below));
        sub_link = λ m q. h.descends.sub_links (max r s) m high k.high_at q;
      } in
      rw k.entries (IsLawful-region_link ts e1 (max r s) (min r s) high lowered linked lawful high_at low_at high_open.region low_open.region high_open.free low_open.free refl refl refl (omega arith) high_down)

pub IsTable-regions_joined : (ts : List Tree) (t u : Table) (x y : ℕ) → RegionsJoined t.entries u.entries x y → u.saved ≡ t.saved → IsTable ts t → kind_at (content_of ts t.entries) x ≡ Some kind.Region → kind_at (content_of ts t.entries) y ≡ Some kind.Region → IsTable ts u
IsTable-regions_joined ts t u x y j s h p q = by_case j.joined
  where
    by_case : ((j.first ≡ j.second) × (u.entries ≡ t.entries)) ⊎ RegionsLinked t.entries u.entries j.first j.second → IsTable ts u
    by_case (inl e) = IsTable-now h (rw e.1 h.now) s
    by_case (inr k) =
        IsTable-now h (IsLawful-regions_linked ts t.entries u.entries x y j.first j.second h.now j.of_first j.of_second p q k) s
