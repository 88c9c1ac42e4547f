-- A round that is its head's last one may end it.
use Rattle.std.proofs.Common.{◌≡◌, ◌⊎◌, inl, inr, false, List, Option, Some, None, ap}
use Rattle.nts_model.specs.Terms.Trees.{Tree}
use Rattle.nts_model.specs.Searching.Stacks.{SaysSame}
use Rattle.nts_model.specs.Searching.Driving.{MayEnd}
use Rattle.nts_certainty.specs.declared.certainty.Certainty.TheVariants as certainty
use Rattle.nts_response.specs.nts_canonical.specs.declared.types.Canonical.{Canonical}
use Rattle.nts_response.specs.nts_canonical.specs.declared.types.CanonicalInput.{CanonicalInput}
use Rattle.nts_response.specs.declared.types.Response.{Response}
use Rattle.nts_response.specs.Forms.{response_at}
use Rattle.nts_search.specs.declared.stack.StackEntry.{StackEntry}
use Rattle.nts_search.specs.Searching.{answer_at, entry_at}
use Rattle.nts_search.specs.Ending.{AreOneAnswer, IsVague}

one_says : (ts : List Tree) (i : CanonicalInput) (o : Option (Canonical Response)) (r : Canonical Response) → AreOneAnswer ts o (Some r) → SaysSame (answer_at ts i o) (response_at ts r)
one_says ts i None r h = absurd h
one_says ts i (Some q) r h =
    record { values = ap (λ z. z.findings.values) h.form; constraints = ap (λ z. z.findings.constraints) h.form; open_goals = ap (λ z. z.findings.open_goals) h.form; kinds = ap (λ z. z.kinds) h.form }

-- where the answer is certain
pub round_may_end : (ts : List Tree) (x : StackEntry) (r : Canonical Response) → (x.is_read ≡ false) ⊎ (AreOneAnswer ts x.provisional (Some r) ⊎ IsVague ts (Some r))
    → r.value.certainty ≡ certainty.Yes → MayEnd (entry_at ts x) (response_at ts r)
round_may_end ts x r (inl unread) sure = λ read c. absurd (cc (unread, read))
round_may_end ts x r (inr (inl one)) sure = λ read c. one_says ts x.input x.provisional r one
round_may_end ts x r (inr (inr vague)) sure = absurd (vague.0 sure)
