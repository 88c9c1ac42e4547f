-- What a run does.
use Rattle.std.specs.Prelude.{◌≡◌, ℕ, ◌+◌, List, [], ◌∷◌, ◌++◌, length, Option, None, Some, IfSome}
use Rattle.std.specs.Io.KnownBytes.{Appends}
use Rattle.nts_text.specs.Input.{lines_of}
use Rattle.nts_text.specs.Lines.{IsPassedOver}
use Rattle.nts_text.specs.declared.refusals.Refusal.{Refusal}
use Rattle.nts_declaring.specs.declared.program.Program.{Program}
use Rattle.nts_wording.specs.declared.answer.Answer.{Answer}
use Rattle.nts_wording.specs.Answers.{IsAnswerText}
use Rattle.nts_wording.specs.Growing.{refusal_line}
use Rattle.nts_declaring.specs.Declaring.{IsNewProgram}
use Rattle.nts_program.specs.Obeying.{IsObeyed}

-- what is written once a line is obeyed: the text of the answer, which only a goal has
abbrev pub IsTextOf : Program → Option Answer → List ℕ → Type 0
IsTextOf new None text = text ≡ []
IsTextOf new (Some answer) text = IsAnswerText new.cx.nodes new.names new.scope answer text

-- a line is obeyed, and its answer is written
pub record IsAnsweredLine (line : List ℕ) (old new : Program) (before after : Option (List ℕ)) : Type 0 where
  pub answer : Option Answer
  pub obeyed : IsObeyed line old new answer
  pub text : List ℕ
  pub says : IsTextOf new answer text
  pub written : Appends before after text

-- lines are obeyed one after the other, and this is the text of their answers
abbrev pub AreObeyed : List (List ℕ) → Program → Program → List ℕ → Type 0
AreObeyed [] old new text = (new ≡ old) × (text ≡ [])
AreObeyed (line ∷ lines) old new text =
    (answer : Option Answer) × (between : Program) × (first rest : List ℕ)
    × IsObeyed line old between answer × IsTextOf between answer first × AreObeyed lines between new rest × (text ≡ first ++ rest)

-- lines are obeyed one after the other, the first by a program that was told nothing, and the text
-- of their answers is written
pub record AreAnswered (lines : List (List ℕ)) (before after : Option (List ℕ)) : Type 0 where
  pub first : Program
  pub last : Program
  pub text : List ℕ
  pub new : IsNewProgram first
  pub obeyed : AreObeyed lines first last text
  pub written : Appends before after text

-- all lines of the input are answered
pub record AnswersAll (input before after : Option (List ℕ)) : Type 0 where
  pub lines : List (List ℕ)
  pub all : IfSome input (λ xs. lines ≡ lines_of xs)
  pub answered : AreAnswered lines before after

-- the lines up to one are answered, and then it is written why that one is refused
pub record StopsAtRefusal (input before after : Option (List ℕ)) : Type 0 where
  pub lines : List (List ℕ)
  pub refused : List ℕ
  pub reason : Refusal
  pub between : Option (List ℕ)
  pub stand : IfSome input (λ xs. (others : List (List ℕ)) × (lines_of xs ≡ lines ++ refused ∷ others))
  pub answered : AreAnswered lines before between
  pub meant : IsPassedOver refused → ⊥
  pub told : Appends between after (refusal_line (length lines + 1) reason)
