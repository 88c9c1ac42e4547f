-- A round of a query begins and ends.
use Rattle.std.proofs.Common.{◌≡◌, sym, ap, ◌∙◌, subst}
use Rattle.std.specs.Global.{Box}
use Rattle.std.specs.Prelude.{List, Result, Ok, Err, IfOk}
use Rattle.nts_model.specs.Terms.Trees.{Tree}
use Rattle.nts_model.specs.Derivations.Rules.{Mode}
use Rattle.nts_model.specs.Canonical.Inputs.{CanonicalInput as Form}
use Rattle.nts_store.specs.declared.fault.EvalError.{EvalError}
use Rattle.nts_canonical.specs.declared.types.CanonicalInput.{CanonicalInput}
use Rattle.nts_canonical.specs.Building.{kinds_of}
use Rattle.nts_meaning.specs.nts_search.specs.declared.stack.StackEntry.{StackEntry}
use Rattle.nts_meaning.specs.Searching.{IsHeadAnswer, IsEntryLater, IsAnswerTold}
use Rattle.nts_meaning.specs.Telling.{Ruling}
use Rattle.nts_theory.specs.Telling.Tells.{says_nothing}
use Rattle.nts_asking.specs.declared.round.Round.{Round}
use Rattle.nts_asking.specs.declared.round.Ended.{Ended}
use Rattle.nts_asking.specs.Rounds.{IsFirstRound}

-- before the first round
pub first_fits : (ts : List Tree) (i : CanonicalInput) (x : Round) → IsFirstRound ts i x → IsHeadAnswer ts (kinds_of i) x.provisional
first_fits ts i x h = subst (IsHeadAnswer ts (kinds_of i)) (sym h.is) h.fits

pub first_told : (hd : Ruling) (mode : Mode) (ts : List Tree) (f : Form) (i : CanonicalInput) (x : Round) → f.kinds ≡ kinds_of i → IsFirstRound ts i x → IsAnswerTold hd mode ts f x.provisional
first_told hd mode ts f i x same h = subst (IsAnswerTold hd mode ts f) (sym h.is) (says_nothing (rw same h.nothing))

-- the entry that was taken off is the one that was put on
pub ended_entry : (own x : StackEntry) (r : Result (Box Ended) EvalError) → IsEntryLater own x → IfOk r (λ z. z.value.entry ≡ x) → IfOk r (λ z. (z.value.entry.input ≡ own.input) × (z.value.entry.step_kind ≡ own.step_kind) × (z.value.entry.provisional ≡ own.provisional) × (z.value.entry.round ≡ own.round))
ended_entry own x (Ok z) l e = (ap (λ (y : StackEntry). y.input) e ∙ l.input, ap (λ (y : StackEntry). y.step_kind) e ∙ l.kind, ap (λ (y : StackEntry). y.provisional) e ∙ l.provisional, ap (λ (y : StackEntry). y.round) e ∙ l.round)
ended_entry own x (Err z) l e = tt
