-- A call that fails, and does not say that there is no solution, promises no more than how the search went on.
use Rattle.std.proofs.Common.{ℕ, Bool, ◌≡◌, ◌≢◌, List, Option, Result, Ok, Err, true, refl}
use Rattle.nts_model.specs.Terms.Trees.{Tree}
use Rattle.nts_model.specs.Derivations.Proofs.{Assumed}
use Rattle.std.specs.Global.{Box}
use Rattle.std.specs.Result.{is_err}
use Rattle.std.proofs.lemmas.Result.{IfOk-from_err}
use Rattle.nts_certainty.specs.declared.sources.PathKind.{PathKind}
use Rattle.nts_store.specs.declared.fault.EvalError.{EvalError}
use Rattle.nts_store.specs.declared.fault.EvalError.TheVariants as error
use Rattle.nts_terms.specs.declared.cx.Cx.{Cx}
use Rattle.nts_terms.specs.declared.handles.Goal.{Goal}
use Rattle.nts_terms.specs.declared.handles.GenericArg.{GenericArg}
use Rattle.nts_terms.specs.Rest.{Grows}
use Rattle.nts_table.specs.Tables.{Table}
use Rattle.nts_canonical.specs.declared.types.Canonical.{Canonical}
use Rattle.nts_canonical.specs.declared.types.CanonicalInput.{CanonicalInput}
use Rattle.nts_response.specs.declared.types.Response.{Response}
use Rattle.nts_search.specs.declared.stack.SearchGraph.{SearchGraph}
use Rattle.nts_meaning.specs.Searching.{Searches}
use Rattle.nts_model.specs.Derivations.Handlers.{Handler}
use Rattle.nts_meaning.specs.Telling.{Ruling}
use Rattle.nts_evaluation.specs.Promises.{IsAnswered, AnswersQuery, AnswersGoal, AnswersOwn, AnswersSubtype, AnswersAlias, AnswersEquated, AnswersWay, AnswersBy}
use Rattle.nts_meaning.specs.Meant.{Rules, ruling_since}
use Rattle.nts_trying.specs.declared.subtypes.TypePair.{TypePair}
use Rattle.nts_evaluation.proofs.Deciding.{decides_fault}

-- an error that is not that there is no solution is no answer
never_answered : (r : Result (Box (Canonical Response)) EvalError) → is_err r ≡ true → r ≢ Err error.NoSolution → IsAnswered r → ⊥
never_answered (Ok b) fails other h = cc fails
never_answered (Err error.NoSolution) fails other h = other refl
never_answered (Err error.Memory) fails other h = h
never_answered (Err error.Full) fails other h = h

pub query_failed : {R : Rules} {a b : Cx} {g h : SearchGraph} {input : CanonicalInput} {step : PathKind} {depth : ℕ} (r : Result (Box (Canonical Response)) EvalError) → is_err r ≡ true → r ≢ Err error.NoSolution → Grows a b → Searches a b g h → AnswersQuery R a b g h input step depth r
query_failed r fails other grows searches = record { grows = grows; searches = searches; counted = λ none limit answered. absurd (never_answered r fails other answered); fits = IfOk-from_err r _ fails; proved = λ s. IfOk-from_err r _ fails; told = λ s tells. IfOk-from_err r _ fails; refuted = λ s tells n. absurd (other n); decided = λ s n b d can. decides_fault r fails other; facts = λ s tells f none can. decides_fault r fails other }

pub goal_failed : {R : Rules} {a b : Cx} {g h : SearchGraph} {t : Table} {goal : Goal} {values : List GenericArg} {depth : ℕ} (r : Result (Box (Canonical Response)) EvalError) → is_err r ≡ true → r ≢ Err error.NoSolution → Grows a b → Searches a b g h → AnswersGoal R a b g h t goal values depth r
goal_failed r fails other grows searches = record { grows = grows; searches = searches; found = IfOk-from_err r _ fails; told = λ s tells. IfOk-from_err r _ fails; refuted = λ s tells n. absurd (other n); decided = λ s n b d can. decides_fault r fails other; facts = λ s tells f can. decides_fault r fails other }

pub try_failed : {Proved : List Assumed → List Tree → Table → Type 0} {Told : Ruling → Canonical Response → Type 0} {Failed : Ruling → Type 0} {Settled : Handler → ℕ → Bool → Type 0} {Facts : Ruling → Type 0} {R : Rules} {a b : Cx} {g h : SearchGraph} {t u : Table} {goal : Goal} {values : List GenericArg} {depth : ℕ} (r : Result (Box (Canonical Response)) EvalError) → is_err r ≡ true → r ≢ Err error.NoSolution → ((m : Ruling) → Facts m) → u ≡ t → Grows a b → Searches a b g h
    → AnswersBy Proved Told Failed Settled Facts R a b g h t u goal values depth r
try_failed {R = R} r fails other all same grows searches = record { same = same; grows = grows; searches = searches; found = IfOk-from_err r _ fails; told = λ s tells. IfOk-from_err r _ fails; refuted = λ s tells n. absurd (other n); decided = λ s n b d can. decides_fault r fails other; facts = λ s tells. all (ruling_since R.handler s) }

pub own_failed : {R : Rules} {a b : Cx} {g h : SearchGraph} {t : Table} {goal : Goal} {values : List GenericArg} {depth : ℕ} (r : Result (Box (Canonical Response)) EvalError) → is_err r ≡ true → r ≢ Err error.NoSolution → Grows a b → Searches a b g h → AnswersOwn R a b g h t goal values depth r
own_failed r fails other grows searches = record { grows = grows; searches = searches; found = IfOk-from_err r _ fails; told = λ s tells. IfOk-from_err r _ fails; refuted = λ s tells n. absurd (other n); decided = λ s n b d can. decides_fault r fails other }

pub subtype_failed : {R : Rules} {a b : Cx} {g h : SearchGraph} {t : Table} {goal : Goal} {p : TypePair} {values : List GenericArg} (r : Result (Box (Canonical Response)) EvalError) → is_err r ≡ true → r ≢ Err error.NoSolution → Grows a b → Searches a b g h → AnswersSubtype R a b g h t goal p values r
subtype_failed r fails other grows searches = record { grows = grows; searches = searches; found = IfOk-from_err r _ fails; told = λ s tells. IfOk-from_err r _ fails; refuted = λ s tells n. absurd (other n); joined = λ n m v outside. IfOk-from_err r _ fails }

pub alias_failed : {R : Rules} {a b : Cx} {g h : SearchGraph} {t : Table} {goal : Goal} {values : List GenericArg} (r : Result (Box (Canonical Response)) EvalError) → is_err r ≡ true → r ≢ Err error.NoSolution → Grows a b → Searches a b g h → AnswersAlias R a b g h t goal values r
alias_failed r fails other grows searches = record { grows = grows; searches = searches; found = IfOk-from_err r _ fails; told = λ s tells. IfOk-from_err r _ fails; refuted = λ s tells n. absurd (other n) }

pub equated_failed : {R : Rules} {a b : Cx} {g h : SearchGraph} {t : Table} {goal : Goal} {values : List GenericArg} (r : Result (Box (Canonical Response)) EvalError) → is_err r ≡ true → r ≢ Err error.NoSolution → Grows a b → Searches a b g h → AnswersEquated R a b g h t goal values r
equated_failed r fails other grows searches = record { grows = grows; searches = searches; found = IfOk-from_err r _ fails; told = λ s tells. IfOk-from_err r _ fails; refuted = λ s tells n. absurd (other n) }

pub way_failed : {R : Rules} {way : Option TypePair} {a b : Cx} {g h : SearchGraph} {t u : Table} {goal : Goal} {values : List GenericArg} (r : Result (Box (Canonical Response)) EvalError) → is_err r ≡ true → r ≢ Err error.NoSolution → u ≡ t → Grows a b → Searches a b g h → AnswersWay R way a b g h t u goal values r
way_failed r fails other same grows searches = record { same = same; grows = grows; searches = searches; found = IfOk-from_err r _ fails; told = λ s tells. IfOk-from_err r _ fails; refuted = λ s tells n. absurd (other n) }
