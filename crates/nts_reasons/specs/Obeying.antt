-- What the lines of a run do, and which of them are noted.
use Rattle.std.specs.Prelude.{◌≡◌, ◌⊎◌, ℕ, List, [], ◌∷◌, length, Option, None, Some}
use Rattle.nts_delegate.specs.Clauses.{clauses_of}
use Rattle.nts_text.specs.Commands.{IsCommandOf}
use Rattle.nts_text.specs.Spelled.{KeepsNumbers}
use Rattle.nts_text.specs.declared.commands.Command.{Command}
use Rattle.nts_text.specs.declared.commands.Command.TheVariants as commands
use Rattle.nts_text.specs.declared.resolver.Resolved.{Resolved}
use Rattle.nts_text.specs.declared.resolver.Resolved.TheVariants as nodes
use Rattle.nts_wording.specs.declared.answer.Answer.{Answer}
use Rattle.nts_program.specs.nts_declaring.specs.Declaring.{IsNewProgram}
use Rattle.nts_program.specs.Obeying.{PassesOver, Follows}
use Rattle.nts_program.specs.nts_declaring.specs.ImplLines.{lines_of, NotesLine}
use Rattle.nts_reasons.specs.declared.explainer.Asked.{Asked}
use Rattle.nts_reasons.specs.declared.explainer.Explainer.{Explainer}
use Rattle.nts_program.specs.nts_declaring.specs.declared.impl_lines.ImplLines.{ImplLines}

-- the trait that a node names
abbrev pub trait_in : Resolved → Option ℕ
trait_in (nodes.Trait number arguments) = Some number
trait_in r = None

abbrev pub first_of : Option ℕ → Option ℕ → Option ℕ
first_of None b = b
first_of (Some a) b = Some a

-- the first trait that nodes name: that of a goal, or of the head of an impl
abbrev pub trait_of : List Resolved → Option ℕ
trait_of [] = None
trait_of (r ∷ rs) = first_of (trait_in r) (trait_of rs)

-- the lines of the impls of a goal's trait
abbrev pub lines_for : ImplLines → Option ℕ → List ℕ
lines_for l None = []
lines_for l (Some t) = lines_of l t

-- an explainer that was told nothing
pub record IsNewExplainer (e : Explainer) : Type 0 where
  pub program : IsNewProgram e.program
  pub lines : (i : ℕ) → lines_of e.lines i ≡ []

-- each clause has its line: a trait has as many lines as clauses, and both are in the order in which they were added
abbrev pub HasLines : Explainer → Type 0
HasLines e = (t : ℕ) → length (lines_of e.lines t) ≡ length (clauses_of e.program.clauses t)

-- the line of an impl is noted for the trait of its head, and that of no other command
abbrev pub Notes : ImplLines → ImplLines → ℕ → Command → Type 0
Notes old new line (commands.Impl head body) = (t : ℕ) × (trait_of head.items ≡ Some t) × NotesLine old new t line
Notes old new line c = new ≡ old

-- the goal that a command asks is told with its answer, and no other command asks one
abbrev pub Asks : Command → Option Asked → Type 0
Asks (commands.Goal rs) (Some a) = a.nodes.items ≡ rs.items
Asks (commands.Goal rs) None = ⊥
Asks c (Some a) = ⊥
Asks c None = Unit {0}

abbrev pub answer_of : Option Asked → Option Answer
answer_of None = None
answer_of (Some a) = Some a.answer

-- a line that is passed over changes nothing
pub record PassesBy (line : List ℕ) (old new : Explainer) (o : Option Asked) : Type 0 where
  pub passes : PassesOver line old.program new.program (answer_of o)
  pub lines : new.lines ≡ old.lines

-- what a command does, on the line of this number
pub record DoesCommand (number : ℕ) (old new : Explainer) (command : Command) (o : Option Asked) : Type 0 where
  pub follows : Follows old.program new.program command (answer_of o)
  pub asks : Asks command o
  pub notes : Notes old.lines new.lines number command

-- the command of the line of this number is followed, as the program follows it
pub record FollowsLine (number : ℕ) (line : List ℕ) (old new : Explainer) (o : Option Asked) : Type 0 where
  pub command : Command
  pub is : IsCommandOf line old.program.names new.program.names new.program.scope command
  pub parameters : KeepsNumbers old.program.scope.parameters new.program.scope.parameters
  pub does : DoesCommand number old new command o

-- a line that is passed over, or whose command is followed
abbrev pub IsObeyed : ℕ → List ℕ → Explainer → Explainer → Option Asked → Type 0
IsObeyed number line old new o = PassesBy line old new o ⊎ FollowsLine number line old new o
