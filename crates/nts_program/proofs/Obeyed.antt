-- What a line does, by its command.
use Rattle.std.proofs.Common.{◌≡◌, ℕ, true, false, List, Option, Result, Ok, Err, inl, inr, sym, ap, subst}
use Rattle.std.specs.Prelude.{IfOk, OnOk, OnErr}
use Rattle.nts_wording.specs.declared.answer.Answer.{Answer}
use Rattle.nts_text.specs.Commands.{IsCommandOf, IsMeant, Declares}
use Rattle.nts_text.specs.Spelled.{KeepsNumbers}
use Rattle.nts_text.specs.declared.commands.Command.{Command}
use Rattle.nts_text.specs.declared.commands.Command.TheVariants as commands
use Rattle.nts_text.specs.declared.names.NameTable.{NameTable}
use Rattle.nts_text.specs.declared.names.Scope.{Scope}
use Rattle.nts_text.specs.declared.parser.Line.{Line}
use Rattle.nts_text.specs.declared.parser.Line.TheVariants as lines
use Rattle.nts_declaring.specs.declared.program.Program.{Program}
use Rattle.nts_declaring.specs.Declaring.{IsInStep}
use Rattle.nts_declaring.specs.Heads.{HeadsFit}
use Rattle.nts_declaring.proofs.HeadsKept.{heads_declared, heads_grown, heads_same}
use Rattle.nts_declaring.proofs.Reading.{once_read, rules_from, declared_from}
use Rattle.nts_declaring.proofs.Steps.{step_same, step_line}
use Rattle.nts_program.specs.Obeying.{Follows, IsObeyed}

-- names and variables of the line play no part
pub follows_from : (old new : Program) (names : NameTable) (scope : Scope) (command : Command) (o : Option Answer) → Follows (once_read old names scope) new command o → Follows old new command o
follows_from old new names scope (commands.Goal nodes) o h = (h.0, h.1, h.2, h.3, rules_from old new names scope h.4)
follows_from old new names scope c o h = (h.0, declared_from old new names scope c h.1)

pub obeyed : {E : Type 0} (old new : Program) (names : NameTable) (scope : Scope) (line : List ℕ) (command : Command) (r : Result (Option Answer) E)
    → new.names ≡ names → new.scope ≡ scope → IsCommandOf line old.names names scope command → KeepsNumbers old.scope.parameters scope.parameters
    → IfOk r (Follows (once_read old names scope) new command) → IfOk r (IsObeyed line old new)
obeyed old new names scope line command (Err x) same here is kept h = tt
obeyed old new names scope line command (Ok o) same here is kept h = inr (record {
  command = command;
  is = rw (same, here) is;
  parameters = rw here kept;
  follows = follows_from old new names scope command o h;
})

-- a command that is followed keeps names and declarations in step
step_followed : (line : List ℕ) (old new : Program) (parsed : Line) (command : Command) (o : Option Answer) → Declares line old.names new.names parsed → IsMeant new.names new.scope line parsed command
    → Follows old new command o → IsInStep old → IsInStep new
step_followed line old new (lines.Goal ns) (commands.Goal nodes) o d s f h = step_same old new d f.3.rest.declarations h
step_followed line old new _ (commands.Goal nodes) o d s f h = absurd s
step_followed line old new parsed c o d s f h = step_line line old new parsed c d s f.1 h

-- a line that is obeyed keeps the step
pub step_kept : {E : Type 0} (r : Result (Option Answer) E) (line : List ℕ) (old new : Program) → IfOk r (IsObeyed line old new) → OnOk r (IsInStep old → IsInStep new)
step_kept (Err e) line old new h = tt
step_kept (Ok o) line old new (inl h) = step_same old new h.names (ap (λ c. c.declarations) h.cx)
step_kept (Ok o) line old new (inr h) = step_followed line old new h.is.parsed h.command o h.is.declares h.is.means h.follows

-- a command that is followed keeps the heads of clauses as their traits are declared
pub heads_followed : (old new : Program) (command : Command) (o : Option Answer) → Follows old new command o → HeadsFit old.cx old.clauses → HeadsFit new.cx new.clauses
heads_followed old new (commands.Goal nodes) o f h = subst (HeadsFit new.cx) (sym f.4.clauses) (heads_grown old.cx new.cx old.clauses f.3 h)
heads_followed old new c o f h = heads_declared old new c f.1 h

-- .. and so does a line that is obeyed
pub heads_kept : {E : Type 0} (r : Result (Option Answer) E) (line : List ℕ) (old new : Program) → IfOk r (IsObeyed line old new) → OnOk r (HeadsFit old.cx old.clauses → HeadsFit new.cx new.clauses)
heads_kept (Err e) line old new h = tt
heads_kept (Ok o) line old new (inl h) = heads_same old.cx new.cx old.clauses new.clauses h.cx h.rules.clauses
heads_kept (Ok o) line old new (inr h) = heads_followed old new h.command o h.follows

-- what does not come about
pub never : {T E A : Type 0} (B : Type 0) (r : Result T E) → (A → true ≡ false) → OnOk r (A → B)
never B (Ok x) h = λ a. let e : true ≡ false = h a in cc
never B (Err x) h = tt

pub never_passed : {X E : Type 0} (P : Type 0) (Q : X → Type 0) (r : Result X E) → (P → ⊥) → IfOk r (λ o. P → Q o)
never_passed P Q (Ok o) n = λ p. absurd (n p)
never_passed P Q (Err e) n = tt

pub on_error : {X E : Type 0} (P : Type 0) (r : Result X E) → P → OnErr r P
on_error P (Ok o) p = tt
on_error P (Err e) p = p
