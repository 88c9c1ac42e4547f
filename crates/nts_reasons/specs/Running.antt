-- What a run does.
use Rattle.std.specs.Prelude.{◌≡◌, ◌⊎◌, ◌≤◌, ℕ, ◌+◌, Bool, true, false, List, [], ◌∷◌, ◌++◌, length, Option, None, Some, IfSome}
use Rattle.std.specs.Io.KnownBytes.{Appends}
use Rattle.nts_model.specs.declared.labels.Variance.{Variance}
use Rattle.nts_model.specs.Terms.Trees.{Tree}
use Rattle.nts_store.specs.Growth.{Extends}
use Rattle.nts_table.specs.Tables.{Table}
use Rattle.nts_terms.specs.Rest.{Grows}
use Rattle.nts_terms.specs.Signatures.{variances_in}
use Rattle.nts_terms.specs.declared.handles.Goal.{Goal}
use Rattle.nts_delegate.specs.declared.clauses.Clauses.{Clauses}
use Rattle.nts_text.specs.Input.{lines_of}
use Rattle.nts_text.specs.Lines.{IsPassedOver}
use Rattle.nts_text.specs.declared.refusals.Refusal.{Refusal}
use Rattle.nts_text.specs.declared.resolver.Resolved.{Resolved}
use Rattle.nts_wording.specs.declared.answer.Answer.{Answer}
use Rattle.nts_wording.specs.declared.answer.Answer.TheVariants as answers
use Rattle.nts_wording.specs.Answers.{IsAnswerText}
use Rattle.nts_wording.specs.Growing.{refusal_line}
use Rattle.nts_explaining.specs.Explaining.{GivesReasons}
use Rattle.nts_candidates.specs.declared.reasons.Reason.{Reason}
use Rattle.nts_program.specs.nts_declaring.specs.Posing.{IsPosedLine}
use Rattle.nts_program.specs.Proving.{rules_with}
use Rattle.nts_program.specs.nts_declaring.specs.declared.posing.Posed.{Posed}
use Rattle.nts_program.specs.nts_declaring.specs.declared.program.Program.{Program}
use Rattle.nts_reasons.specs.Obeying.{trait_of, lines_for, IsNewExplainer, IsObeyed}
use Rattle.nts_reasons.specs.Offering.{rules_of_each}
use Rattle.nts_program.specs.nts_declaring.specs.Reasons.{IsReasonsText}
use Rattle.nts_reasons.specs.declared.explainer.Asked.{Asked}
use Rattle.nts_reasons.specs.declared.explainer.Explainer.{Explainer}

-- the store may have more terms, and all else is as before
pub record HasMoreTerms (old new : Explainer) : Type 0 where
  pub terms : Grows old.program.cx new.program.cx
  pub rest : new ≡ record old { program = record old.program { cx = new.program.cx } }

-- these are the reasons of a goal, by its environment and these clauses, in a store that has all terms of this one; there is one of each
-- clause of the goal's trait, so that none is left out
pub record HasReasons (ts : List Tree) (declared : ℕ → List Variance) (clauses : Clauses) (table : Table) (g : Goal) (reasons : List Reason) : Type 0 where
  pub store : List Tree
  pub extends : Extends ts store
  pub gives : GivesReasons (rules_with store clauses) declared table.mode store table g reasons
  pub each : GivesReasons (rules_of_each store clauses) declared table.mode store table g reasons

-- the goal that nodes say is posed again, in a table of its own, and these are its reasons by the rules of the program
pub record AreReasonsOf (p : Program) (rs : List Resolved) (reasons : List Reason) : Type 0 where
  pub posed_in : List Tree
  pub later : Extends p.cx.nodes posed_in
  pub posed : Posed
  pub poses : IsPosedLine p.mode p.env rs posed_in posed
  pub has : HasReasons posed_in (variances_in p.cx.declarations) p.clauses posed.table posed.goal reasons

-- a line is written for each of the reasons of the goal that nodes say; where no candidate answers such a goal there is none, and else
-- no line of an impl of its trait is without its reason
pub record IsReasoned (e : Explainer) (rs : List Resolved) (text : List ℕ) : Type 0 where
  pub reasons : List Reason
  pub are : AreReasonsOf e.program rs reasons
  pub all : (reasons ≡ []) ⊎ (length (lines_for e.lines (trait_of rs)) ≤ length reasons)
  pub worded : IsReasonsText (lines_for e.lines (trait_of rs)) reasons text

-- that is written
abbrev pub IsReasonedPut : Explainer → List Resolved → Option (List ℕ) → Option (List ℕ) → Type 0
IsReasonedPut e rs before after = (text : List ℕ) × IsReasoned e rs text × Appends before after text

abbrev pub is_yes : Answer → Bool
is_yes (answers.Yes f) = true
is_yes a = false

-- what is written behind an answer: of a yes nothing
abbrev pub IsWhy : Explainer → List Resolved → Answer → List ℕ → Type 0
IsWhy e rs (answers.Yes f) text = text ≡ []
IsWhy e rs a text = IsReasoned e rs text

-- the answer to a goal as the program writes it, and why it is no yes
pub record IsToldText (e : Explainer) (a : Asked) (text : List ℕ) : Type 0 where
  pub answer : List ℕ
  pub says : IsAnswerText e.program.cx.nodes e.program.names e.program.scope a.answer answer
  pub why : List ℕ
  pub explains : IsWhy e a.nodes.items a.answer why
  pub is : text ≡ answer ++ why

-- that is written
abbrev pub IsTold : Explainer → Asked → Option (List ℕ) → Option (List ℕ) → Type 0
IsTold e a before after = (text : List ℕ) × IsToldText e a text × Appends before after text

-- what is written once a line is obeyed: only a goal is answered
abbrev pub IsTextOf : Explainer → Option Asked → List ℕ → Type 0
IsTextOf e None text = text ≡ []
IsTextOf e (Some a) text = IsToldText e a text

-- the line of this number is obeyed, and its answer is told
pub record IsToldLine (number : ℕ) (line : List ℕ) (old new : Explainer) (before after : Option (List ℕ)) : Type 0 where
  pub asked : Option Asked
  pub obeying : Explainer
  pub obeyed : IsObeyed number line old obeying asked
  pub text : List ℕ
  pub says : IsTextOf obeying asked text
  pub terms : HasMoreTerms obeying new
  pub written : Appends before after text

-- lines are obeyed one after the other, the first of which has this number, and this is the text of their answers
abbrev pub AreTold : ℕ → List (List ℕ) → Explainer → Explainer → List ℕ → Type 0
AreTold number [] old new text = (new ≡ old) × (text ≡ [])
AreTold number (line ∷ lines) old new text =
    (asked : Option Asked) × (obeying between : Explainer) × (first rest : List ℕ)
    × IsObeyed number line old obeying asked × IsTextOf obeying asked first × HasMoreTerms obeying between
    × AreTold (number + 1) lines between new rest × (text ≡ first ++ rest)

-- lines are obeyed one after the other, the first by an explainer that was told nothing, and the text of their answers is written
pub record AreAnswered (lines : List (List ℕ)) (before after : Option (List ℕ)) : Type 0 where
  pub first : Explainer
  pub last : Explainer
  pub text : List ℕ
  pub new : IsNewExplainer first
  pub told : AreTold 1 lines first last text
  pub written : Appends before after text

-- all lines of the input are answered
pub record AnswersAll (input before after : Option (List ℕ)) : Type 0 where
  pub lines : List (List ℕ)
  pub all : IfSome input (λ xs. lines ≡ lines_of xs)
  pub answered : AreAnswered lines before after

-- the lines up to one are answered, and then it is written why that one is refused
pub record StopsAtRefusal (input before after : Option (List ℕ)) : Type 0 where
  pub lines : List (List ℕ)
  pub refused : List ℕ
  pub reason : Refusal
  pub between : Option (List ℕ)
  pub stand : IfSome input (λ xs. (others : List (List ℕ)) × (lines_of xs ≡ lines ++ refused ∷ others))
  pub answered : AreAnswered lines before between
  pub meant : IsPassedOver refused → ⊥
  pub told : Appends between after (refusal_line (length lines + 1) reason)
