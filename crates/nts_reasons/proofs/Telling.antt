-- What is told of a goal.
use Rattle.std.proofs.Common.{◌≡◌, ℕ, Bool, true, false, List, [], ◌++◌, Option, Some, Result, Ok, Err, refl, sym, ◌∙◌}
use Rattle.std.proofs.lemmas.List.{append-nil}
use Rattle.std.specs.Prelude.{OnOk}
use Rattle.nts_store.proofs.Growing.{Extends-refl}
use Rattle.nts_terms.proofs.Moved.{KeepsRest-refl}
use Rattle.nts_text.specs.declared.resolver.Resolved.{Resolved}
use Rattle.nts_wording.specs.declared.answer.Answer.{Answer}
use Rattle.nts_wording.specs.declared.answer.Answer.TheVariants as answers
use Rattle.nts_wording.specs.Answers.{IsAnswerPut}
use Rattle.nts_wording.proofs.Growths.{Appends-trans}
use Rattle.nts_reasons.specs.declared.explainer.Asked.{Asked}
use Rattle.nts_reasons.specs.declared.explainer.Explainer.{Explainer}
use Rattle.nts_reasons.specs.Obeying.{IsObeyed}
use Rattle.nts_reasons.specs.Running.{is_yes, IsReasoned, IsReasonedPut, IsWhy, IsTold, IsToldLine, HasMoreTerms}

-- behind a yes nothing is told, and behind another answer the reasons
why_yes : (e : Explainer) (rs : List Resolved) (a : Answer) → is_yes a ≡ true → IsWhy e rs a []
why_yes e rs (answers.Yes f) h = refl
why_yes e rs answers.No h = cc
why_yes e rs answers.Ambiguity h = cc
why_yes e rs answers.Overflow h = cc

why_other : (e : Explainer) (rs : List Resolved) (a : Answer) (text : List ℕ) → is_yes a ≡ false → IsReasoned e rs text → IsWhy e rs a text
why_other e rs (answers.Yes f) text h r = cc
why_other e rs answers.No text h r = r
why_other e rs answers.Ambiguity text h r = r
why_other e rs answers.Overflow text h r = r

pub told : {T E : Type 0} (e : Explainer) (a : Asked) (b : Bool) (before mid after : Option (List ℕ)) (r : Result T E) → b ≡ is_yes a.answer → b ≡ false
    → IsAnswerPut e.program.cx.nodes e.program.names e.program.scope a.answer before mid → OnOk r (IsReasonedPut e a.nodes.items mid after) → OnOk r (IsTold e a before after)
told e a b before mid after (Err x) is other put h = tt
told e a b before mid after (Ok x) is other put h = (
  put.0 ++ h.0,
  record { answer = put.0; says = put.1; why = h.0; explains = why_other e a.nodes.items a.answer h.0 (sym is ∙ other) h.1; is = refl },
  Appends-trans before mid after put.0 h.0 put.2 h.2,
)

pub told_yes : (e : Explainer) (a : Asked) (b : Bool) (before mid : Option (List ℕ)) → b ≡ is_yes a.answer → b ≡ true
    → IsAnswerPut e.program.cx.nodes e.program.names e.program.scope a.answer before mid → IsTold e a before mid
told_yes e a b before mid is holds put = (
  put.0,
  record { answer = put.0; says = put.1; why = []; explains = why_yes e a.nodes.items a.answer (sym is ∙ holds); is = sym (append-nil put.0) },
  put.2,
)

pub terms-refl : (e : Explainer) → HasMoreTerms e e
terms-refl e = record { terms = record { extends = Extends-refl e.program.cx.nodes; rest = KeepsRest-refl e.program.cx }; rest = refl }

-- the line of a goal is told
pub told_where : {T E : Type 0} (r : Result T E) (number : ℕ) (line : List ℕ) (p q s : Explainer) (before after : Option (List ℕ)) (asked : Asked)
    → IsObeyed number line p q (Some asked) → OnOk r (IsTold q asked before after) → HasMoreTerms q s → OnOk r (IsToldLine number line p s before after)
told_where (Err x) number line p q s before after asked h w m = tt
told_where (Ok x) number line p q s before after asked h w m = record { asked = Some asked; obeying = q; obeyed = h; text = w.0; says = w.1; terms = m; written = w.2 }
