-- What each table keeps beyond that its values stand for trees, and which changes keep it.
use Rattle.std.proofs.Common.{◌≡◌, ℕ, ◌<◌, [], length, refl, sym, ap, ◌∙◌, arith, ◌≤◌}
use Rattle.nts_model.specs.declared.labels.Relation.{Relation}
use Rattle.nts_model.specs.declared.labels.Relation.TheVariants as relation
use Rattle.nts_model.specs.Terms.Trees.{Tree}
use Rattle.nts_model.specs.Tables.Contents.{Content, Slot, Recorded, unset, universe_of, with_slot, changed, bound_to, with_constraint, in_universe}
use Rattle.nts_model.specs.Tables.Resolving.{Knows, IsSound}
use Rattle.nts_model.specs.Terms.Placeholders.{CanName}
use Rattle.nts_model.specs.Tables.Levels.{NamesAll, level_in, region_level, AreRegionsLevelled, AreCurrent}
use Rattle.nts_model.specs.Tables.Worlds.{IsValue}
use Rattle.nts_model.specs.Tables.RegionClasses.{AreRegions}
use Rattle.nts_model.specs.Tables.Solvable.{IsSolvable}
use Rattle.nts_model.proofs.Tables.Slots.{field_below, field-changed_kept}
use Rattle.nts_model.proofs.Tables.Binding.{IsKnowable, IsLinkable}
use Rattle.nts_model.proofs.Tables.Solving.{Lowers, state_of-lowered}
use Rattle.nts_model.proofs.Tables.Levelled.{AreRegionsLevelled-with_slot, AreRegionsLevelled-with_constraint, AreRegionsLevelled-in_universe, AreRegionsLevelled-lowered, AreRegionsLevelled-known, AreRegionsLevelled-link, AreRegionsLevelled-region_link, AreCurrent-with_slot, AreCurrent-changed, AreCurrent-in_universe}
use Rattle.nts_model.proofs.Tables.Solvable.{IsSolvable-empty, IsSolvable-with_slot, IsSolvable-with_constraint, IsSolvable-in_universe, IsSolvable-lowered, IsSolvable-sub_linked, IsSolvable-known, IsSolvable-link, IsSolvable-region_link}

-- the table has a solution, its regions too are named by the universes of what holds them, and no variable is of a
-- universe above the current one
pub record IsProper (c : Content) : Type 0 where
  pub solvable : IsSolvable c
  pub regions : AreRegionsLevelled c
  pub current : AreCurrent c

pub IsProper-empty : (c : Content) → c.slots ≡ [] → c.constraints ≡ [] → IsProper c
IsProper-empty c e f =
    let none : (n : ℕ) → n < length c.slots → ⊥ = λ n h. (let z : length c.slots ≡ 0 = ap length e in omega (arith, h, z)) in
    record {
      solvable = IsSolvable-empty c e f;
      regions = record { regions = λ n u t p q. absurd (none n (field_below (λ x. x.state) c n _ p)) };
      current = record { universes = λ n u q. absurd (none n (field_below (λ x. x.universe) c n u q)) };
    }

pub IsProper-with_slot : (c : Content) (v : Slot) → v.state ≡ unset → v.universe ≤ c.universe → IsSound c → IsProper c → IsProper (with_slot c v)
IsProper-with_slot c v free low s h =
    record {
      solvable = IsSolvable-with_slot c v free s h.solvable;
      regions = AreRegionsLevelled-with_slot c v free s h.regions;
      current = AreCurrent-with_slot c v low h.current;
    }

pub IsProper-with_constraint : (c : Content) (x : Recorded) → Knows c x.left → Knows c x.right → AreRegions x.relation x.left x.right → IsSound c → IsProper c → IsProper (with_constraint c x)
IsProper-with_constraint c x l r a s h =
    record {
      solvable = IsSolvable-with_constraint c x l r a s h.solvable;
      regions = AreRegionsLevelled-with_constraint c x h.regions;
      current = record { universes = (let k = h.current in k.universes) };
    }

pub IsProper-in_universe : (c : Content) (u : ℕ) → c.universe ≤ u → IsSound c → IsProper c → IsProper (in_universe c u)
IsProper-in_universe c u low s h =
    record {
      solvable = IsSolvable-in_universe c u low s h.solvable;
      regions = AreRegionsLevelled-in_universe c u h.regions;
      current = AreCurrent-in_universe c u low h.current;
    }

-- a variable without value comes down
pub IsProper-lowered : (c : Content) (n : ℕ) (v : Slot) (b : Lowers c n v) → v.state ≡ unset → IsSound c → IsProper c → IsProper (changed c n v)
IsProper-lowered c n v b free s h =
    record {
      solvable = IsSolvable-lowered c n v b free s h.solvable;
      regions = AreRegionsLevelled-lowered c n v b free h.regions;
      current = AreCurrent-changed c n b.old v b.was b.lower h.current;
    }

AreRegionsLevelled-sub_linked : (c : Content) (n : ℕ) (v : Slot) (b : Lowers c n v) → v.universe ≡ b.old.universe → AreRegionsLevelled c → AreRegionsLevelled (changed c n v)
AreRegionsLevelled-sub_linked c n v b e h = record {
  regions = λ m u t p q. h.regions m u t (sym (state_of-lowered c n v b m) ∙ p) (sym (field-changed_kept (λ x. x.universe) c n m b.old v b.was e) ∙ q);
}

-- a variable of another sub-unification class
pub IsProper-sub_linked : (c : Content) (n : ℕ) (v : Slot) (b : Lowers c n v) → v.universe ≡ b.old.universe → IsSound c → IsProper c → IsProper (changed c n v)
IsProper-sub_linked c n v b u s h =
    record {
      solvable = IsSolvable-sub_linked c n v b u s h.solvable;
      regions = AreRegionsLevelled-sub_linked c n v b u h.regions;
      current = AreCurrent-changed c n b.old v b.was b.lower h.current;
    }

pub IsProper-known : (c : Content) (n : ℕ) (v : Slot) (t : Tree) (b : IsKnowable c n v t) → v.universe ≡ b.binds.old.universe → NamesAll (level_in c) v.universe t → NamesAll region_level v.universe t → IsValue v.kind t → IsSound c → IsProper c → IsProper (bound_to c n v)
IsProper-known c n v t b u names regions value s h =
    record {
      solvable = IsSolvable-known c n v t b u names value s h.solvable;
      regions = AreRegionsLevelled-known c n v t b u regions h.regions;
      current = record { universes = (let k = AreCurrent-changed c n b.binds.old v b.binds.was (omega (arith, u)) h.current in k.universes) };
    }

pub IsProper-link : (c : Content) (n : ℕ) (v : Slot) (m : ℕ) (b : IsLinkable c n v m) → v.universe ≡ b.binds.old.universe → CanName v.universe (universe_of c m) → IsSound c → IsProper c → IsProper (bound_to c n v)
IsProper-link c n v m b u names s h =
    record {
      solvable = IsSolvable-link c n v m b u names s h.solvable;
      regions = AreRegionsLevelled-link c n v m b u h.regions;
      current = record { universes = (let k = AreCurrent-changed c n b.binds.old v b.binds.was (omega (arith, u)) h.current in k.universes) };
    }

pub IsProper-region_link : (c : Content) (n : ℕ) (v : Slot) (m : ℕ) (b : IsLinkable c n v m) → v.universe ≡ b.binds.old.universe → CanName v.universe (universe_of c m) → IsSound c → IsProper c → IsProper (changed c n v)
IsProper-region_link c n v m b u names s h =
    record {
      solvable = IsSolvable-region_link c n v m b u names s h.solvable;
      regions = AreRegionsLevelled-region_link c n v m b u h.regions;
      current = AreCurrent-changed c n b.binds.old v b.binds.was (omega (arith, u)) h.current;
    }

-- the sides of what is no equality may be any regions
pub outlives_sides : (r : Relation) (a b : Tree) → (r ≡ relation.Equal → ⊥) → AreRegions r a b
outlives_sides relation.Equal a b n = absurd (n refl)
outlives_sides relation.RegionOutlives a b n = tt
outlives_sides relation.TypeOutlives a b n = tt
