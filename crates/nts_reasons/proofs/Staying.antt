-- What stays while lines are obeyed and told.
use Rattle.std.proofs.Common.{ℕ, List, Option, Result, Ok, Err, inl, inr, sym, ap, subst}
use Rattle.std.specs.Prelude.{IfOk, OnOk}
use Rattle.nts_terms.specs.declared.cx.Cx.{Cx}
use Rattle.nts_terms.specs.Rest.{Grows}
use Rattle.nts_delegate.specs.Clauses.{clauses_of}
use Rattle.nts_delegate.specs.declared.clauses.Clauses.{Clauses}
use Rattle.nts_program.proofs.Obeyed.{heads_followed}
use Rattle.nts_program.specs.nts_declaring.specs.Heads.{HeadsFit}
use Rattle.nts_program.specs.nts_declaring.proofs.HeadsKept.{heads_grown, heads_same}
use Rattle.nts_reasons.specs.declared.explainer.Asked.{Asked}
use Rattle.nts_reasons.specs.declared.explainer.Explainer.{Explainer}
use Rattle.nts_reasons.specs.Obeying.{answer_of, HasLines, IsObeyed}
use Rattle.nts_reasons.specs.Running.{HasMoreTerms}
use Rattle.nts_reasons.proofs.Lining.{same_lines}

pub heads_later : (a b : Cx) (h : Clauses) → Grows a b → HeadsFit a h → HeadsFit b h
heads_later a b h g f = heads_grown a b h g f

-- a line that is obeyed
pub heads_kept : {E : Type 0} (r : Result (Option Asked) E) (number : ℕ) (line : List ℕ) (old new : Explainer) → IfOk r (IsObeyed number line old new)
    → OnOk r (HeadsFit old.program.cx old.program.clauses → HeadsFit new.program.cx new.program.clauses)
heads_kept (Err e) number line old new h = tt
heads_kept (Ok o) number line old new (inl h) = heads_same old.program.cx new.program.cx old.program.clauses new.program.clauses h.passes.cx h.passes.rules.clauses
heads_kept (Ok o) number line old new (inr h) = heads_followed old.program new.program h.command (answer_of o) h.does.follows

-- more terms
pub heads_told : (old new : Explainer) → HasMoreTerms old new → HeadsFit old.program.cx old.program.clauses → HeadsFit new.program.cx new.program.clauses
heads_told old new m h =
    subst (HeadsFit new.program.cx) (sym (ap (λ (e : Explainer). e.program.clauses) m.rest)) (heads_grown old.program.cx new.program.cx old.program.clauses m.terms h)

pub lines_told : (old new : Explainer) → HasMoreTerms old new → HasLines old → HasLines new
lines_told old new m h = same_lines old new (ap (λ (e : Explainer). e.lines) m.rest) (λ i. ap (λ (e : Explainer). clauses_of e.program.clauses i) m.rest) h

pub on_any : {T E : Type 0} (P : Type 0) (r : Result T E) → P → OnOk r P
on_any P (Ok x) p = p
on_any P (Err e) p = tt
