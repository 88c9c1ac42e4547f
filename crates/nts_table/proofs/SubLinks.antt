-- Joining sub-unification classes keeps a table with its store.
use Rattle.std.proofs.Common.{◌≡◌, ◌⊎◌, inl, inr, ℕ, List, Some, refl, arith, min, max}
use Rattle.nts_model.specs.Terms.Trees.{Tree}
use Rattle.nts_unify.specs.Entries.{Entries}
use Rattle.nts_table.specs.Tables.{Table}
use Rattle.nts_unify.specs.Reading.{IsLawful}
use Rattle.nts_table.specs.Tables.{IsTable}
use Rattle.nts_unify.specs.Roots.{SubRootsJoin, SubLinked}
use Rattle.nts_unify.proofs.Changes.{proper_sub_linked, LeadsDown, IsLawful-marked}
use Rattle.nts_table.specs.TableLaws.{IsTable-now}

IsLawful-sub_linked : (ts : List Tree) (e f : Entries) (r s : ℕ) → IsLawful ts e → SubLinked e f r s → IsLawful ts f
IsLawful-sub_linked ts e f r s h k =
    let v = k.variable in
    let w = record v { sub_link = Some (min r s) } in
    let down : LeadsDown (max r s) w = record {
      link = λ m q. h.descends.links (max r s) m v k.at q;
      sub_link = λ m q. (let is : min r s ≡ m = cc in let apart : r ≡ s → ⊥ = k.apart in omega (arith, is, apart));
    } in
    rw k.entries (IsLawful-marked ts e (max r s) v w h k.at refl refl down (proper_sub_linked ts e (max r s) v w h k.at refl refl refl))

pub IsTable-sub_joined : (ts : List Tree) (t u : Table) (x y : ℕ) → SubRootsJoin t.entries u.entries x y → u.saved ≡ t.saved → IsTable ts t → IsTable ts u
IsTable-sub_joined ts t u x y j s h = by_case j.joined
  where
    by_case : ((j.first ≡ j.second) × (u.entries ≡ t.entries)) ⊎ SubLinked t.entries u.entries j.first j.second → IsTable ts u
    by_case (inl e) = IsTable-now h (rw e.1 h.now) s
    by_case (inr k) = IsTable-now h (IsLawful-sub_linked ts t.entries u.entries j.first j.second h.now k) s
