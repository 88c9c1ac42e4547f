-- What the lines of a run do.
use Rattle.std.specs.Prelude.{◌≡◌, ◌⊎◌, ℕ, List, Option, None, Some}
use Rattle.nts_terms.specs.Rest.{Grows}
use Rattle.nts_text.specs.Commands.{IsCommandOf}
use Rattle.nts_text.specs.Lines.{IsPassedOver}
use Rattle.nts_text.specs.Spelled.{KeepsNumbers}
use Rattle.nts_text.specs.declared.commands.Command.{Command}
use Rattle.nts_text.specs.declared.commands.Command.TheVariants as commands
use Rattle.nts_text.specs.declared.resolver.Resolved.{Resolved}
use Rattle.nts_wording.specs.declared.answer.Answer.{Answer}
use Rattle.nts_declaring.specs.declared.program.Program.{Program}
use Rattle.nts_declaring.specs.Declaring.{KeepsRules, HasDeclared}
use Rattle.nts_program.specs.Proving.{IsJustifiedAnswer}

-- what a goal is answered: it is `yes` only where the goal that the nodes say is proved
abbrev pub IsAnswerTo : Program → Program → List Resolved → Answer → Type 0
IsAnswerTo old new rs answer = IsJustifiedAnswer old.mode old.env rs old.cx new.cx.nodes old.clauses answer

-- what a command changes, and how it is answered: only a goal is
abbrev pub Follows : Program → Program → Command → Option Answer → Type 0
Follows old new (commands.Goal nodes) o =
    (answer : Answer) × (o ≡ Some answer) × IsAnswerTo old new nodes.items answer × Grows old.cx new.cx × KeepsRules old new
Follows old new c o = (o ≡ None) × HasDeclared old new c

-- a line that is passed over changes nothing
pub record PassesOver (line : List ℕ) (old new : Program) (o : Option Answer) : Type 0 where
  pub passed : IsPassedOver line
  pub cx : new.cx ≡ old.cx
  pub rules : KeepsRules old new
  pub names : new.names ≡ old.names
  pub parameters : KeepsNumbers old.scope.parameters new.scope.parameters
  pub silent : o ≡ None

-- a line's command is followed, once the names that it declares are added, and parameters that it
-- is the first to name
pub record FollowsLine (line : List ℕ) (old new : Program) (o : Option Answer) : Type 0 where
  pub command : Command
  pub is : IsCommandOf line old.names new.names new.scope command
  pub parameters : KeepsNumbers old.scope.parameters new.scope.parameters
  pub follows : Follows old new command o

-- a line that is passed over, or whose command is followed
abbrev pub IsObeyed : List ℕ → Program → Program → Option Answer → Type 0
IsObeyed line old new o = PassesOver line old new o ⊎ FollowsLine line old new o
