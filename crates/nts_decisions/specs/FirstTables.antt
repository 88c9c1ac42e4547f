-- The first table of a query, its goal there, and how that fares where one candidate without goals decides it.
use Rattle.std.specs.Prelude.{◌≡◌, ◌⊎◌, ℕ, true, false, List, [], Some, None}
use Rattle.nts_model.specs.declared.labels.VariableKind.{VariableKind}
use Rattle.nts_model.specs.declared.labels.FreeRegion.TheVariants as region
use Rattle.nts_model.specs.declared.labels.Constant.TheVariants as constant
use Rattle.nts_model.specs.declared.labels.Leaf.{Leaf}
use Rattle.nts_model.specs.declared.labels.Leaf.TheVariants as leaf
use Rattle.nts_model.specs.Terms.Trees.{Tree}
use Rattle.nts_model.specs.Tables.Contents.{Content, unset, state_of, kind_at}
use Rattle.nts_model.specs.Tables.Resolving.{Knows}
use Rattle.nts_model.specs.Terms.Substitutions.{Occurs, IsConstant}
use Rattle.nts_model.specs.Lists.{Among}
use Rattle.nts_model.specs.Derivations.Related.{pair}
use Rattle.nts_model.specs.Derivations.Rules.{Mode}
use Rattle.nts_model.specs.Derivations.Handlers.{Handler, Candidate, certain, IsAsked}
use Rattle.nts_model.specs.Refutation.Choosing.{IsCandidateMet}
use Rattle.nts_model.specs.Refutation.Opening.{binds}
use Rattle.nts_theory.specs.RelatingCandidates.{HasPlainEquations}
use Rattle.nts_model.specs.Answers.Applying.{IsProperContent}
use Rattle.nts_theory.specs.Telling.{IsTraitGoal}
use Rattle.nts_decisions.specs.Faring.{OneFares}

-- a term of a query at first: a variable, or a placeholder of the root
pub data IsFirstLeaf (c : Content) : Leaf → Type 0 where
  a_variable : {k : VariableKind} {n : ℕ} → kind_at c n ≡ Some k → IsFirstLeaf c (leaf.Variable k n)
  a_type : {n : ℕ} → IsFirstLeaf c (leaf.TyConstant (constant.Placeholder 0 n))
  a_const : {n : ℕ} → IsFirstLeaf c (leaf.ConstConstant (constant.Placeholder 0 n))
  a_region : {n : ℕ} → IsFirstLeaf c (leaf.Region (region.Placeholder 0 n))

-- a query's first table and terms, and its goal there, whose types' and consts' constants are among the terms
pub record IsFirstQuery (c : Content) (xs : List Leaf) (e g : Tree) : Type 0 where
  pub unset : (n : ℕ) → (state_of c n ≡ None) ⊎ (state_of c n ≡ Some unset)
  pub none : c.constraints ≡ []
  pub proper : IsProperContent c
  pub each : (y : Leaf) → Among xs y → IsFirstLeaf c y
  pub all : (k : VariableKind) (n : ℕ) → kind_at c n ≡ Some k → Among xs (leaf.Variable k n)
  pub knows : Knows c (pair e g)
  pub constants : (y : Leaf) → Occurs y (pair e g) → IsConstant y → Among xs y

-- a trait goal that binds nothing, and of what the handler offers for it one candidate holds, which has no goals, and no other one
-- is met; all are certain
pub record IsSettledFact (h : Handler) (mode : Mode) (c : Content) (e g : Tree) : Type 0 where
  pub asked : IsAsked e g
  pub trait_goal : IsTraitGoal e g
  pub binds_nothing : binds g ≡ false
  pub fares : OneFares h mode 0 c (h.offers mode e g) true
  pub sure : (x : Candidate) → Among (h.offers mode e g) x → x.certainty ≡ certain
  pub no_goals : (x : Candidate) → Among (h.offers mode e g) x → IsCandidateMet c x → x.goals ≡ []
  pub no_aliases : (x : Candidate) → Among (h.offers mode e g) x → HasPlainEquations x
