use Rattle.std.proofs.Common.{◌≡◌, inl, inr, Err, sym, ap, ◌∙◌}
use Rattle.nts_store.specs.declared.fault.EvalError.TheVariants as error
use Rattle.nts_evaluation.specs.nts_trying.proofs.Trying.{some_meets}
use Rattle.nts_explaining.proofs.RelatedParts.{unmet_unbegun}
use Rattle.nts_explaining.proofs.related.begins.Goals.{in-Ok, in-Err-NoSolution, in-Err, in-Ok-equate, in-Err-NoSolution-equate, in-Err-equate}
use Rattle.nts_explaining.proofs.related.begins.Goals as goal

pub returns-clause-no : goal.returns-clause-no
returns-clause-no c = λ no.
    elim c.match-equate.branch [
      | in-Ok-equate w ↦ absurd (let z = sym w.result-is ∙ no in cc z)
      | in-Err-NoSolution-equate w ↦
          let x = w.in-Err-NoSolution-equate in
          let is = x.is in
          let none : x.field-0 ≡ error.NoSolution = x.field-0-is in
          unmet_unbegun _ _ _ (c.needs_relating.ensures.no c.if-needs_relating.false) (c.equate.ensures.unmet (is ∙ ap Err none))
      | in-Err-equate w ↦ absurd (let z = sym w.result-is ∙ no in cc z)
    ]

pub returns-clause-yes : goal.returns-clause-yes
returns-clause-yes c = λ yes.
    elim c.match-equate.branch [
      | in-Ok-equate w ↦
          let x = w.in-Ok-equate in
          let e = c.equate.ensures in
          inl (c.needs_relating.ensures.no c.if-needs_relating.false, some_meets _ _ _ c.terms_are_formed.ensures c.requires.posed c.requires.candidate.equations e.runs.goes.table (x.ensures.equated))
      | in-Err-NoSolution-equate w ↦ absurd (let z = sym w.result-is ∙ yes in cc z)
      | in-Err-equate w ↦ absurd (let z = sym w.result-is ∙ yes in cc z)
    ]

pub returns-then-needs_relating-clause-yes : goal.returns-then-needs_relating-clause-yes
returns-then-needs_relating-clause-yes c = λ yes.
    elim c.match-begin_relating.branch [
      | in-Ok w ↦ (let x = w.in-Ok in let begins = x.ensures.begins in inr (record { met = _; left = _; begun = begins.begun }))
      | in-Err-NoSolution w ↦ absurd (let z = sym w.result-is ∙ yes in cc z)
      | in-Err w ↦ absurd (let z = sym w.result-is ∙ yes in cc z)
    ]
