-- Judgings by lists, and what relating pairs leaves in a table.
use Rattle.std.specs.Prelude.{◌≡◌, ℕ, ◌≤◌, List, length}
use Rattle.nts_model.specs.declared.labels.Variance.{Variance}
use Rattle.nts_model.specs.declared.labels.FreeRegion.{FreeRegion}
use Rattle.nts_model.specs.declared.labels.FreeRegion.TheVariants as region
use Rattle.nts_model.specs.declared.labels.Leaf.TheVariants as leaf
use Rattle.nts_model.specs.Terms.Trees.{Tree}
use Rattle.nts_model.specs.Terms.Substitutions.{leaf_tree}
use Rattle.nts_model.specs.Derivations.Related.{region_constraint}
use Rattle.nts_model.specs.Tables.Contents.{Content}
use Rattle.nts_model.specs.Tables.Worlds.{World, Solves}
use Rattle.nts_model.specs.Lists.{Among}
use Rattle.nts_variance_model.specs.Variances.Judging.{Judging, IsLawfulJudging}
use Rattle.nts_variance_model.specs.Variances.Listing.{Lists}
use Rattle.nts_variance_model.specs.Variances.Relations.{Relating, AllSettleIn, IsJudgedBy, IsSettledWorld, SettledExtension}
use Rattle.nts_variance_model.specs.Variances.RelatingBy.{IsTrueIn}

-- what is true in a world, and what lists say of aliases
abbrev pub judged_by : (ℕ → List Variance) → Lists → World → Judging
judged_by declared s w = record { declared = declared; stands = Among s.stands; holds = IsTrueIn w; normal = λ a v. Among s.normal (a, v) }

-- a lawful judging by lists in a world
pub record Judge (declared : ℕ → List Variance) : Type 0 where
  pub lists : Lists
  pub world : World
  pub lawful : IsLawfulJudging (judged_by declared lists world)

abbrev pub judging_of : (declared : ℕ → List Variance) → Judge declared → Judging
judging_of declared j = judged_by declared j.lists j.world

-- relating the pairs ps in the first table leaves the pairs qs and the goals gs in the second: each of its solutions solves the
-- first, and each settled solution of the first in which the pairs settle extends to one of the second in which what is left settles
pub record LeavesBy (J : Judging) (c d : Content) (ps qs gs : List Relating) : Type 0 where
  pub more : length c.slots ≤ length d.slots
  pub back : (w : World) → Solves d w → Solves c w
  pub complete : (w : World) → Solves c w → IsJudgedBy J w → IsSettledWorld J c w → AllSettleIn J w ps
      → (e : SettledExtension J c d w (λ f. Unit {0})) × AllSettleIn J e.world qs × AllSettleIn J e.world gs

-- the erased and the error region
abbrev pub IsErased : FreeRegion → Type 0
IsErased region.Erased = Unit {0}
IsErased region.Error = Unit {0}
IsErased r = ⊥

-- the judging calls true what is true in the world, in which erased and error regions are related with themselves alone
pub record Judges (declared : ℕ → List Variance) (j : Judge declared) (w : World) : Type 0 where
  pub judged : IsJudgedBy (judging_of declared j) w
  pub alone : (v : Variance) (a : Tree) (r : FreeRegion) → IsErased r → (judging_of declared j).holds (region_constraint v a (leaf_tree (leaf.Region (w.region r)))) → a ≡ leaf_tree (leaf.Region (w.region r))

-- the same by each judging in which erased and error regions are related with themselves alone
pub record Leaves (declared : ℕ → List Variance) (c d : Content) (ps qs gs : List Relating) : Type 0 where
  pub more : length c.slots ≤ length d.slots
  pub back : (w : World) → Solves d w → Solves c w
  pub complete : (j : Judge declared) (w : World) → Solves c w → Judges declared j w → IsSettledWorld (judging_of declared j) c w → AllSettleIn (judging_of declared j) w ps
      → (e : SettledExtension (judging_of declared j) c d w (λ f. Unit {0})) × AllSettleIn (judging_of declared j) e.world qs × AllSettleIn (judging_of declared j) e.world gs

-- no settled solution of the table relates the pairs
pub record Refuses (declared : ℕ → List Variance) (c : Content) (ps : List Relating) : Type 0 where
  pub none : (j : Judge declared) (w : World) → Solves c w → Judges declared j w → IsSettledWorld (judging_of declared j) c w → AllSettleIn (judging_of declared j) w ps → ⊥
