-- The rules that those clauses of an environment are that say what an alias is.
use Rattle.std.specs.Prelude.{◌≡◌, ◌==◌, if◌then◌else◌, Bool, false, List, [], ◌++◌, Option, Some, None}
use Rattle.nts_model.specs.declared.labels.AliasHead.{AliasHead}
use Rattle.nts_model.specs.declared.labels.AliasHead.TheVariants as alias_of
use Rattle.nts_model.specs.declared.labels.ClauseHead.TheVariants as clause
use Rattle.nts_model.specs.declared.labels.ListHead.TheVariants as list
use Rattle.nts_model.specs.declared.labels.Label.TheVariants as label
use Rattle.nts_model.specs.Terms.Trees.{Tree, empty, more, node, row_length, IsRow, IsInRow, AllFit, is, one_sort}
use Rattle.nts_model.specs.Derivations.Related.{pair}
use Rattle.nts_model.specs.Derivations.Rules.{Application, normalization_goal}
use Rattle.nts_model.specs.Derivations.Handlers.{Candidate, AreValuesOf, Handler, never_leaks, never_at_once, no_judgements}
use Rattle.nts_delegate.specs.ClauseHandlers.{AliasAsked, asked_row, equations_of, normalization_of, projection_of}
use Rattle.nts_assembly.specs.Assumptions.{rows_of, sorts_in, sorts_of_predicate, valued, assumed_offer, offer_where}

abbrev pub same_alias : AliasHead → AliasHead → Bool
same_alias (alias_of.Ty i) (alias_of.Ty j) = i == j
same_alias (alias_of.Const i) (alias_of.Const j) = i == j
same_alias h k = false

-- what a clause says of an alias is about the alias that is asked for, with as many arguments
abbrev pub fits_alias : AliasAsked → AliasAsked → Bool
fits_alias w r = if same_alias r.head w.head then row_length w.parts == row_length r.parts else false

-- what such a clause offers: its arguments are those that are asked for, and its term is the term that is
abbrev pub result_if : AliasAsked → Tree → Option AliasAsked → List Candidate
result_if w p None = []
result_if w p (Some r) = offer_where (fits_alias w r) (assumed_offer (asked_row w) (sorts_of_predicate p) (asked_row r))

abbrev pub results_over : AliasAsked → Tree → List Candidate
results_over w empty = []
results_over w (more p ps) = result_if w p (projection_of p) ++ results_over w ps
results_over w (node l c) = []

abbrev pub assumed_results : Tree → Option AliasAsked → List Candidate
assumed_results e None = []
assumed_results e (Some w) = results_over w (rows_of e)

-- an environment's clause that says what an alias is: the sorts that it binds, the alias with its arguments, and the term
abbrev pub assumed_projection : Tree → AliasAsked → Tree
assumed_projection ss r =
    node (label.List list.Binder) (pair (node (label.List list.Sorts) ss) (node (label.Clause (clause.Projection r.head)) (pair (node (label.List list.Args) r.parts) r.term)))

-- an instance of such a clause of the environment: a rule without premises beyond its equations'
pub record IsAssumedResult (a : Application) : Type 0 where
  pub rows : Tree
  pub environment : a.environment ≡ node (label.List list.Env) rows
  pub sorts : Tree
  pub listed : AllFit (is one_sort) sorts
  pub said : AliasAsked
  pub said_row : IsRow said.parts
  pub among : IsInRow (assumed_projection sorts said) rows
  pub values : AreValuesOf (sorts_in sorts) a.values
  pub asked : AliasAsked
  pub row : IsRow asked.parts
  pub same : said.head ≡ asked.head
  pub as_many : row_length asked.parts ≡ row_length said.parts
  pub conclusion : a.conclusion ≡ normalization_goal asked.head asked.parts asked.term
  pub equations : a.equations ≡ equations_of (asked_row asked) (valued a.values 0 (asked_row said))
  pub no_goals : a.goals ≡ []
  pub no_constraints : a.constraints ≡ []
  pub no_hidden : a.hidden ≡ []

-- what an environment says that aliases are, as a handler: the same in every mode
abbrev pub equating : Handler
equating =
    record {
      applies = λ mode a. IsAssumedResult a;
      offers = λ mode e g. assumed_results e (normalization_of g);
      is_coinductive = λ i. false;
      leaks = never_leaks;
      judges = no_judgements;
      at_once = never_at_once;
    }
