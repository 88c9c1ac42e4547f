-- A closure that answered, and what it did not answer; and how sure an answer is.
use Rattle.std.proofs.Common.{◌≡◌, refl, MutBor, Ok, Err, Result}
use Rattle.nts_store.specs.declared.fault.EvalError.{EvalError}
use Rattle.nts_store.specs.declared.fault.EvalError.TheVariants as error
use Rattle.nts_certainty.specs.declared.certainty.Certainty.{Certainty}
use Rattle.nts_certainty.specs.declared.certainty.Certainty.TheVariants as certainty
use Rattle.nts_certainty.specs.declared.certainty.MaybeInfo.{MaybeInfo}
use Rattle.nts_certainty.specs.Certainties.{both}
use Rattle.nts_contexts.specs.declared.context.EvalCtxt.{EvalCtxt}
use Rattle.nts_contexts.specs.Contexts.{WasAnswered}
use Rattle.nts_contexts.specs.Promises.{IsOfBoth}

-- what a closure always answers was answered, where it may begin, and nothing else
always_answered : {H R : Type 0} (begins : EvalCtxt H → Type 0) (r : R) (x : MutBor (EvalCtxt H)) → begins x.now → WasAnswered (λ before answer after. answer ≡ r) begins r
always_answered begins r x h = record { before = x; after = x; begun = h; called = refl }

nothing_else : {H R : Type 0} (begins : EvalCtxt H → Type 0) (r s : R) → (s ≡ r → ⊥) → WasAnswered (λ before answer after. answer ≡ r) begins s → ⊥
nothing_else begins r s apart h = apart h.called

-- two that are sure make one that is; where one is in doubt, or the goals were refused, none does
sure_of_both : IsOfBoth certainty.Yes (let answered : Result Certainty EvalError = Ok certainty.Yes in answered) certainty.Yes
sure_of_both = record { goals = certainty.Yes; answered = refl; is = refl }

sure_of_one_no : (m : MaybeInfo) (r : Result Certainty EvalError) → IsOfBoth (certainty.Maybe m) r certainty.Yes → ⊥
sure_of_one_no m r h = unsure h.goals h.is
  where
    unsure : (c : Certainty) → certainty.Yes ≡ both (certainty.Maybe m) c → ⊥
    unsure certainty.Yes e = cc e
    unsure (certainty.Maybe n) e = cc e

doubt_of_both_no : (m : MaybeInfo) → IsOfBoth certainty.Yes (let answered : Result Certainty EvalError = Ok certainty.Yes in answered) (certainty.Maybe m) → ⊥
doubt_of_both_no m h = (let e = h.answered in let i = h.is in cc (e, i))

of_refused_no : (x y : Certainty) → IsOfBoth x (let answered : Result Certainty EvalError = Err error.NoSolution in answered) y → ⊥
of_refused_no x y h = (let e = h.answered in cc e)
