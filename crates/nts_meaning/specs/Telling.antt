-- What the answers to goals rest on, where queries are asked in the tables that an evaluation makes for them.
use Rattle.std.specs.Prelude.{ℕ, List}
use Rattle.nts_model.specs.declared.labels.Variance.{Variance}
use Rattle.nts_model.specs.Terms.Trees.{Tree}
use Rattle.nts_model.specs.Tables.Contents.{Content}
use Rattle.nts_model.specs.Derivations.Sequents.{Premise}
use Rattle.nts_model.specs.Derivations.Rules.{Mode, GoalKind}
use Rattle.nts_model.specs.Derivations.Handlers.{Handler, Candidate}
use Rattle.nts_model.specs.Canonical.Inputs.{CanonicalInput, PositionKind}
use Rattle.nts_theory.specs.Telling as tells
use Rattle.nts_theory.specs.Telling.{Queries, Verdict}
use Rattle.nts_meaning.specs.Asking.{first_table, first_values}

-- what goals are judged by: what a handler means, and the variances that are declared for the parameters of types
pub record Ruling : Type 1 where
  pub handler : Handler
  pub variances : ℕ → List Variance

-- the first tables of queries
abbrev pub queries : (ℕ → List Variance) → Queries
queries declared = record { table = first_table; values = first_values; variances = declared }

abbrev pub Tells : Ruling → Mode → List PositionKind → Content → Tree → Tree → List Tree → Verdict → Type 0
Tells h mode ks c e g qs v = tells.Tells (queries h.variances) h.handler mode ks c e g qs v

abbrev pub Refutes : Ruling → Mode → Content → Tree → Tree → List Tree → Type 0
Refutes h mode c e g qs = tells.Refutes (queries h.variances) h.handler mode c e g qs

abbrev pub Outcomes : Ruling → Mode → Content → Tree → Tree → List Tree → List Candidate → List Verdict → Type 0
Outcomes h mode c e g qs xs vs = tells.Outcomes (queries h.variances) h.handler mode c e g qs xs vs

abbrev pub Replies : Ruling → Mode → Content → Tree → Tree → List Tree → Candidate → Verdict → Type 0
Replies h mode c e g qs x v = tells.Replies (queries h.variances) h.handler mode c e g qs x v

abbrev pub Fails : Ruling → Mode → GoalKind → Content → Tree → Candidate → Type 0
Fails h mode k c e x = tells.Fails (queries h.variances) h.handler mode k c e x

abbrev pub Reaches : Ruling → Mode → List Premise → Content → Content → Type 0
Reaches h mode gs c d = tells.Reaches (queries h.variances) h.handler mode gs c d

abbrev pub RefusesOne : Ruling → Mode → GoalKind → List Premise → Content → Type 0
RefusesOne h mode k gs c = tells.RefusesOne (queries h.variances) h.handler mode k gs c

abbrev pub IsWay : Ruling → Mode → Content → Content → Tree → Tree → List Premise → Type 0
IsWay h mode c d e g ps = tells.IsWay (queries h.variances) h.handler mode c d e g ps

abbrev pub LesserRefused : Ruling → Mode → Content → Tree → Tree → Type 0
LesserRefused h mode c e g = tells.LesserRefused (queries h.variances) h.handler mode c e g

abbrev pub Asked : Ruling → Mode → Content → Content → Tree → Tree → Type 0
Asked h mode c d e g = tells.Asked (queries h.variances) h.handler mode c d e g

abbrev pub Refused : Ruling → Mode → Content → Tree → Tree → Type 0
Refused h mode c e g = tells.Refused (queries h.variances) h.handler mode c e g

abbrev pub QueryTells : Ruling → Mode → CanonicalInput → Verdict → Type 0
QueryTells h mode f v = tells.QueryTells (queries h.variances) h.handler mode f v

abbrev pub QueryRefutes : Ruling → Mode → CanonicalInput → Type 0
QueryRefutes h mode f = tells.QueryRefutes (queries h.variances) h.handler mode f
