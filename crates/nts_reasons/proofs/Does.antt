-- What a line does, by its command.
use Rattle.std.proofs.Common.{◌≡◌, ℕ, List, Option, Result, Ok, Err, inr}
use Rattle.std.specs.Prelude.{IfOk}
use Rattle.nts_text.specs.Commands.{IsCommandOf}
use Rattle.nts_text.specs.Spelled.{KeepsNumbers}
use Rattle.nts_text.specs.declared.commands.Command.{Command}
use Rattle.nts_text.specs.declared.names.NameTable.{NameTable}
use Rattle.nts_text.specs.declared.names.Scope.{Scope}
use Rattle.nts_program.specs.nts_declaring.proofs.Reading.{once_read}
use Rattle.nts_program.proofs.Obeyed.{follows_from}
use Rattle.nts_reasons.specs.declared.explainer.Asked.{Asked}
use Rattle.nts_reasons.specs.declared.explainer.Explainer.{Explainer}
use Rattle.nts_reasons.specs.Obeying.{DoesCommand, IsObeyed, answer_of}

-- what explains a program, once a line is read
abbrev read : Explainer → NameTable → Scope → Explainer
read e names scope = record e { program = once_read e.program names scope }

pub obeyed : {E : Type 0} (number : ℕ) (old new : Explainer) (names : NameTable) (scope : Scope) (line : List ℕ) (command : Command) (r : Result (Option Asked) E)
    → new.program.names ≡ names → new.program.scope ≡ scope → IsCommandOf line old.program.names names scope command → KeepsNumbers old.program.scope.parameters scope.parameters
    → IfOk r (DoesCommand number (read old names scope) new command) → IfOk r (IsObeyed number line old new)
obeyed number old new names scope line command (Err x) same here is kept h = tt
obeyed number old new names scope line command (Ok o) same here is kept h = inr (record {
  command = command;
  is = rw (same, here) is;
  parameters = rw here kept;
  does = record { follows = follows_from old.program new.program names scope command (answer_of o) h.follows; asks = h.asks; notes = h.notes };
})
