-- How many variables without value there are, and how many closed aliases, while a term is made again invariantly: each closed alias
-- gives place to one fresh variable, and none is left.
use Rattle.std.specs.Prelude.{◌≡◌, ℕ, ◌+◌, ◌≤◌, Bool, true, false, List, [], ◌∷◌}
use Rattle.nts_model.specs.declared.labels.Variance.{Variance}
use Rattle.nts_model.specs.declared.labels.Variance.TheVariants as variance
use Rattle.nts_model.specs.Terms.Trees.{Tree, empty}
use Rattle.nts_model.specs.Tables.Contents.{Content}
use Rattle.nts_model.specs.Tables.Resolving.{resolved}
use Rattle.nts_model.specs.Derivations.Related.{alias}
use Rattle.nts_variance_model.specs.Variances.Forms.{Form, an_alias, over}
use Rattle.nts_model.specs.Tables.Measuring.{closed_under, closed_aliases}
use Rattle.nts_unify.specs.Changing.{unset_count}
use Rattle.nts_variance.specs.Steps.{WalkStep, enter, build, owe, popped, unpopped}

-- where no bound variable escapes from the second tree, none escapes from the first
abbrev pub EscapesWith : Tree → Tree → Type 0
EscapesWith t s = (b : ℕ) → closed_under b s ≡ true → closed_under b t ≡ true

-- bound variables escape from an alias
abbrev pub StaysOpen : Form → Tree → Type 0
StaysOpen (an_alias h) ts = closed_under 0 (alias h ts) ≡ true → ⊥
StaysOpen F ts = Unit {0}

-- the parts that are to be entered are related invariantly, and not quietly
abbrev pub AreStepsInvariant : List WalkStep → Type 0
AreStepsInvariant [] = Unit {0}
AreStepsInvariant (enter v q t ∷ xs) = (v ≡ variance.Invariant) × (q ≡ false) × AreStepsInvariant xs
AreStepsInvariant (build F n ∷ xs) = AreStepsInvariant xs
AreStepsInvariant (owe v t ∷ xs) = AreStepsInvariant xs

-- whatever is made for the parts that are to be entered, no alias that is to be built is closed
abbrev pub BuildsOpen : List WalkStep → List Tree → Type 0
BuildsOpen [] ss = Unit {0}
BuildsOpen (enter v q t ∷ xs) ss = (s : Tree) → EscapesWith t s → BuildsOpen xs (s ∷ ss)
BuildsOpen (build F n ∷ xs) ss = StaysOpen F (popped n ss empty) × BuildsOpen xs (over F (popped n ss empty) ∷ unpopped n ss)
BuildsOpen (owe v t ∷ xs) ss = BuildsOpen xs ss

-- no closed alias is in the trees that were made
abbrev pub HaveNone : Content → List Tree → Type 0
HaveNone c [] = Unit {0}
HaveNone c (s ∷ ss) = (closed_aliases (resolved c s) ≡ 0) × HaveNone c ss

-- the closed aliases of the parts that are to be entered
abbrev pub aliases_within : Content → List WalkStep → ℕ
aliases_within c [] = 0
aliases_within c (enter v q t ∷ xs) = closed_aliases (resolved c t) + aliases_within c xs
aliases_within c (build F n ∷ xs) = aliases_within c xs
aliases_within c (owe v t ∷ xs) = aliases_within c xs

-- invariant steps, by which the table gets no more than n variables without value
pub record IsCounted (c : Content) (n : ℕ) (xs : List WalkStep) (ss : List Tree) : Type 0 where
  pub invariant : AreStepsInvariant xs
  pub opens : BuildsOpen xs ss
  pub none : HaveNone c ss
  pub few : unset_count c.slots + aliases_within c xs ≤ n

-- a term made at once for a part: invariantly it has no closed alias, and each of the part's gave place to one fresh variable
pub record IsCountedFor (c d : Content) (v : Variance) (q : Bool) (t r : Tree) : Type 0 where
  pub escapes : EscapesWith t r
  pub none : v ≡ variance.Invariant → q ≡ false → closed_aliases (resolved d r) ≡ 0
  pub few : v ≡ variance.Invariant → q ≡ false → unset_count d.slots ≤ unset_count c.slots + closed_aliases (resolved c t)
