-- What goes through a term and makes another that stands for it by a variance, step by step.
use Rattle.std.specs.Prelude.{◌≡◌, ℕ, ◌+◌, ◌*◌, ◌≤◌, length, Some, Bool, true, false, List, [], ◌∷◌, map, Option}
use Rattle.nts_model.specs.declared.labels.Variance.{Variance}
use Rattle.nts_model.specs.declared.labels.VariableKind.{VariableKind}
use Rattle.nts_model.specs.declared.labels.Label.{Label}
use Rattle.nts_model.specs.Terms.Trees.{Tree, kind_of, IsFormed}
use Rattle.nts_model.specs.Terms.Scoping.{KeepsListed}
use Rattle.nts_model.specs.Tables.Contents.{Content, kind_at}
use Rattle.nts_model.specs.Tables.Resolving.{Knows, IsSound, IsInfer, resolved, deeply_resolved, left_to_resolve}
use Rattle.nts_model.specs.Tables.Levels.{NamesAll, term_level, region_level}
use Rattle.nts_model.specs.Tables.Worlds.{World, inst, Solves}
use Rattle.nts_model.specs.Tables.Holding.{Continues, HoldsConstraint}
use Rattle.nts_model.specs.Derivations.Related.{Related, IsAlias}
use Rattle.nts_model.specs.Lists.{Among}
use Rattle.nts_model.specs.Derivations.Proving.{recorded_as}
use Rattle.nts_model.specs.Tables.Passing.{TreePasses, TablePasses}
use Rattle.nts_variance_model.specs.Variances.Judging.{Judging, IsSettled, Settles, opposite}
use Rattle.nts_variance_model.specs.Variances.Relations.{Relating, AllSettleIn, ArePairsKnown, IsSettledWorld, SettledExtension, StandsIn}
use Rattle.nts_variance_model.specs.Variances.AnsweredGoals.{AllAnswered}
use Rattle.nts_variance_model.specs.Variances.Leaving.{Judge, judging_of, Judges}
use Rattle.nts_unify.specs.Changing.{AddsVisible}
use Rattle.nts_variance.specs.Parts.{IsAlone}
use Rattle.nts_variance.specs.SubRoots.{GrowsSubRoots}
use Rattle.nts_variance.specs.Steps.{WalkStep, enter, build, owe, steps_of, StepsLead}
use Rattle.nts_relating.specs.Relating.{IsPlainIn}
use Rattle.nts_variance.specs.Passing.{PassesRows, PairsPass, TreesPass, StepsPass}
use Rattle.nts_variance.specs.Plain.{AreStepsPlain, AreTreesPlain, StaysPlain}

-- the table has its variables and its universes, and may have more; its classes of sub-unification are those that it had, but for
-- variables that became one, and new ones, each of which was made in a class; what was recorded since is visible for the leak check,
-- and between closed terms
pub record IsTableGrown (c d : Content) : Type 0 where
  pub more : length c.slots ≤ length d.slots
  pub grows : c.universe ≤ d.universe
  pub kinds : (n : ℕ) (k : VariableKind) → kind_at c n ≡ Some k → kind_at d n ≡ Some k
  pub subs : GrowsSubRoots c d
  pub visible : AddsVisible c.constraints d.constraints

-- a tree that may be made for a part, under a table: a variable stands for a variable or a closed alias alone, and but for those a
-- const stands for a const, and a number for a number
pub record IsMadeFor (f : Content) (t r : Tree) : Type 0 where
  pub knows : Knows f r
  pub kind : kind_of r ≡ kind_of t
  pub listed : KeepsListed t r
  pub apart : (IsInfer t → ⊥) → (IsAlias t → ⊥) → IsInfer r → ⊥
  pub alone : (IsInfer t → ⊥) → (IsAlias t → ⊥) → IsAlone r → IsAlone t

abbrev pub MadeIn : Content → Variance → Bool → Tree → Tree → Type 0
MadeIn f v q t r = IsMadeFor f t r

abbrev pub NothingOwed : Variance → Tree → Tree → Type 0
NothingOwed v t r = Unit {0}

-- two trees related under a table where goals are answered: what was made stands left, or right where the pair is turned
abbrev pub RelatedTrees : (ℕ → List Variance) → Content → List Tree → Variance → Tree → Tree → Type 0
RelatedTrees declared f ks = Related declared (λ t. Unit {0}) (λ x. HoldsConstraint f (recorded_as x)) (Among ks)

abbrev pub RelatedSides : Bool → (ℕ → List Variance) → Content → List Tree → Variance → Tree → Tree → Type 0
RelatedSides false declared f ks v r t = RelatedTrees declared f ks v r t
RelatedSides true declared f ks v r t = RelatedTrees declared f ks (opposite v) t r

-- .. the same for what is made for a part; quietly nothing is said
abbrev pub StandsBy : Bool → (ℕ → List Variance) → Content → List Tree → Variance → Bool → Tree → Tree → Type 0
StandsBy z declared f ks v q t r = q ≡ false → RelatedSides z declared f ks v r t

abbrev pub OwedBy : Bool → (ℕ → List Variance) → Content → List Tree → Variance → Tree → Tree → Type 0
OwedBy z declared f ks v t r = RelatedSides z declared f ks v r t

-- the goal, or the pair, of what was made and a part
abbrev pub sides : Bool → Variance → Tree → Tree → Relating
sides false v r t = record { variance = v; left = r; right = t }
sides true v r t = record { variance = opposite v; left = t; right = r }

-- a settled tree that a part may settle with, inside of a tree whose leaves the universe u names
pub record IsChoice (J : Judging) (u : ℕ) (whole : Tree) (v : Variance) (q : Bool) (t s : Tree) : Type 0 where
  pub settled : IsSettled J s
  pub formed : IsFormed s
  pub named : (f : Label → Option ℕ) → NamesAll f u whole → NamesAll f u s
  pub settles : Settles J v s t

abbrev pub SettlesOwed : Judging → Variance → Tree → Tree → Type 0
SettlesOwed J v t s = Settles J v s t

-- for the measure: the trees under the table's values
abbrev pub step_weight : Content → WalkStep → ℕ
step_weight c (enter v q t) = 2 * left_to_resolve c t + 1
step_weight c (build F n) = 1
step_weight c (owe v t) = 1

abbrev pub step_weights : Content → List WalkStep → ℕ
step_weights c [] = 0
step_weights c (x ∷ xs) = step_weight c x + step_weights c xs

-- the parts that are to be entered, and what is owed to, are of the table
abbrev pub KnowsStep : Content → WalkStep → Type 0
KnowsStep c (enter v q t) = Knows c t
KnowsStep c (build F n) = Unit {0}
KnowsStep c (owe v t) = Knows c t

abbrev pub KnowsSteps : Content → List WalkStep → Type 0
KnowsSteps c [] = Unit {0}
KnowsSteps c (x ∷ xs) = KnowsStep c x × KnowsSteps c xs

abbrev pub KnowsTrees : Content → List Tree → Type 0
KnowsTrees c [] = Unit {0}
KnowsTrees c (t ∷ ts) = Knows c t × KnowsTrees c ts

module _ (declared : ℕ → List Variance) (z : Bool) (u : ℕ) where
  -- a choice of the whole by which the steps run, in an extension of a world
  pub record GoesOn (J : Judging) (c d : Content) (w : World) (whole : Tree) (ys : List WalkStep) (rs : List Tree) (hs : List Relating) : Type 0 where
    pub extension : SettledExtension J c d w (λ f. NamesAll f u whole)
    pub runs : StepsLead (IsChoice J u whole) (SettlesOwed J) (steps_of (inst extension.world) ys) (map (inst extension.world) rs) whole
    pub goals : AllSettleIn J extension.world hs

  -- steps taken: what is made afterwards is made before, by the goals that are left, and each choice goes on
  pub record Walks (c d : Content) (xs ys : List WalkStep) (ss rs : List Tree) (gs hs : List Relating) : Type 0 where
    pub later : IsTableGrown c d
    pub continues : Continues c d
    pub made : (f : Content) → IsSound f → Continues d f → (e : Tree) → StepsLead (MadeIn f) NothingOwed ys rs e → StepsLead (MadeIn f) NothingOwed xs ss e
    pub answered : (f : Content) (ks : List Tree) → AllAnswered f ks hs → AllAnswered f ks gs
    pub stands : (f : Content) → IsSound f → Continues d f → (ks : List Tree) → AllAnswered f ks hs → (e : Tree)
        → StepsLead (StandsBy z declared f ks) (OwedBy z declared f ks) (steps_of (deeply_resolved f) ys) (map (deeply_resolved f) rs) e
        → StepsLead (StandsBy z declared f ks) (OwedBy z declared f ks) (steps_of (deeply_resolved f) xs) (map (deeply_resolved f) ss) e
    pub back : (w : World) → Solves d w → Solves c w
    pub complete : (j : Judge declared) (w : World) → Solves c w → Judges declared j w → IsSettledWorld (judging_of declared j) c w → AllSettleIn (judging_of declared j) w gs
        → (whole : Tree) → NamesAll term_level u whole → StepsLead (IsChoice (judging_of declared j) u whole) (SettlesOwed (judging_of declared j)) (steps_of (inst w) xs) (map (inst w) ss) whole
        → GoesOn (judging_of declared j) c d w whole ys rs hs
    pub passes : (P : Label → Bool) → PassesRows P → TablePasses P c → StepsPass P xs → TreesPass P ss → PairsPass P gs → TablePasses P d × StepsPass P ys × TreesPass P rs × PairsPass P hs
    pub plain : AreStepsPlain c xs → AreTreesPlain c ss → StaysPlain c d × AreStepsPlain d ys × AreTreesPlain d rs

  -- a tree made at once for a part, in which no region is that the universe u cannot name, with the goals that it leaves
  pub record IsMade (c d : Content) (v : Variance) (q : Bool) (t r : Tree) (new : List Relating) : Type 0 where
    pub later : IsTableGrown c d
    pub continues : Continues c d
    pub trees : (a : Tree) → Knows c a → resolved d a ≡ resolved c a
    pub clean : NamesAll region_level u (resolved d r)
    pub made : (f : Content) → IsSound f → Continues d f → IsMadeFor f t r
    pub stands : (f : Content) → IsSound f → Continues d f → (ks : List Tree) → AllAnswered f ks new → StandsBy z declared f ks v q (deeply_resolved f t) (deeply_resolved f r)
    pub goals : ArePairsKnown d new
    pub back : (w : World) → Solves d w → Solves c w
    pub complete : (j : Judge declared) (w : World) → Solves c w → Judges declared j w → IsSettledWorld (judging_of declared j) c w
        → (s : Tree) → IsSettled (judging_of declared j) s → NamesAll term_level u s → IsFormed s → Settles (judging_of declared j) v s (inst w t)
        → StandsIn (judging_of declared j) c d w u r s new
    pub passes : (P : Label → Bool) → PassesRows P → TablePasses P c → TreePasses P t → TablePasses P d × TreePasses P r × PairsPass P new
    pub plain : IsPlainIn c t → StaysPlain c d × IsPlainIn d r
