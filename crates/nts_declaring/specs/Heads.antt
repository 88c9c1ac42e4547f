-- The heads of the clauses of a run.
use Rattle.std.specs.Prelude.{ℕ, All}
use Rattle.nts_terms.specs.declared.cx.Cx.{Cx}
use Rattle.nts_delegate.specs.Clauses.{clauses_of}
use Rattle.nts_delegate.specs.declared.clauses.Clauses.{Clauses}
use Rattle.nts_wording.specs.Fitting.{HeadFits}

-- the head of each clause of a trait has the arguments that are declared for the trait
abbrev pub HeadsFit : Cx → Clauses → Type 0
HeadsFit cx h = (i : ℕ) → All (HeadFits cx.declarations cx.nodes i) (clauses_of h i)
