-- What commands say.
use Rattle.std.specs.Prelude.{◌≡◌, ℕ, List, [], map, Some, All}
use Rattle.nts_text.specs.Lines.{bytes_of, BeginsWithKeyword, Says}
use Rattle.nts_text.specs.NameTable.{declared_as, AddsType, AddsTrait, AddsAlias}
use Rattle.nts_text.specs.Binders.{nothing_bound}
use Rattle.nts_text.specs.Resolution.{AreSorted, AreMeanings, IsNoVariable}
use Rattle.nts_text.specs.Tokens.{AreTokensFrom}
use Rattle.nts_text.specs.declared.commands.Command.{Command}
use Rattle.nts_text.specs.declared.commands.Command.TheVariants as commands
use Rattle.nts_text.specs.declared.lexer.Token.{Token}
use Rattle.nts_text.specs.declared.names.Declared.TheVariants as declared
use Rattle.nts_text.specs.declared.names.NameTable.{NameTable}
use Rattle.nts_text.specs.declared.names.Scope.{Scope}
use Rattle.nts_text.specs.declared.parser.Keyword.{Keyword}
use Rattle.nts_text.specs.declared.parser.Line.{Line}
use Rattle.nts_text.specs.declared.parser.Line.TheVariants as lines

-- each predicate and each type has arguments of the sorts that it takes
abbrev pub IsSorted : NameTable → Command → Type 0
IsSorted names (commands.Impl head body) = AreSorted names [] head.items × AreSorted names [] body.items
IsSorted names (commands.Norm head body) = AreSorted names [] head.items × AreSorted names [] body.items
IsSorted names (commands.Goal nodes) = AreSorted names [] nodes.items
IsSorted names (commands.Env nodes) = AreSorted names [] nodes.items
IsSorted names _ = Unit {0}

-- the command is what the line says, with each name replaced by what it means
abbrev pub IsMeant : NameTable → Scope → List ℕ → Line → Command → Type 0
IsMeant names scope line (lines.Mode m) (commands.Mode n) = n ≡ m
IsMeant names scope line (lines.Depth d) (commands.Depth e) = e ≡ d
IsMeant names scope line (lines.Type name params) (commands.Type number given) =
    (declared_as names (bytes_of line name) ≡ Some (declared.Type number)) × (given ≡ params)
IsMeant names scope line (lines.Trait name sorts coinductive) (commands.Trait number word) =
    (declared_as names (bytes_of line name) ≡ Some (declared.Trait number)) × (word ≡ coinductive)
IsMeant names scope line (lines.Alias name sorts rigid) (commands.Alias number word) =
    (declared_as names (bytes_of line name) ≡ Some (declared.Alias number rigid)) × (word ≡ rigid)
IsMeant names scope line (lines.Norm head body) (commands.Norm first rest) =
    AreMeanings names scope line nothing_bound head.items first.items
    × AreMeanings names scope line nothing_bound body.items rest.items
IsMeant names scope line (lines.Impl head body) (commands.Impl first rest) =
    AreMeanings names scope line nothing_bound head.items first.items
    × AreMeanings names scope line nothing_bound body.items rest.items
IsMeant names scope line (lines.Goal ns) (commands.Goal nodes) =
    AreMeanings names scope line nothing_bound ns.items nodes.items
IsMeant names scope line (lines.Env ns) (commands.Env nodes) =
    AreMeanings names scope line nothing_bound ns.items nodes.items × All IsNoVariable nodes.items
IsMeant names scope line _ _ = ⊥

-- a declaration adds the type, trait or alias that the line names, and no other line changes a name
abbrev pub Declares : List ℕ → NameTable → NameTable → Line → Type 0
Declares line old new (lines.Type name params) = AddsType old new (bytes_of line name) (map (λ p. p.sort) params.items)
Declares line old new (lines.Trait name sorts coinductive) = AddsTrait old new (bytes_of line name) sorts.items
Declares line old new (lines.Alias name sorts rigid) = AddsAlias old new (bytes_of line name) sorts.items rigid
Declares line old new _ = new ≡ old

-- the line begins with a keyword, and what the tokens behind it say is this command; what it declares
-- is added to the names
pub record IsCommandOf (line : List ℕ) (old new : NameTable) (scope : Scope) (command : Command) : Type 0 where
  pub keyword : Keyword
  pub end : ℕ
  pub tokens : List Token
  pub parsed : Line
  pub begins : BeginsWithKeyword line keyword end
  pub cut : AreTokensFrom line end tokens
  pub says : Says line tokens keyword parsed
  pub declares : Declares line old new parsed
  pub means : IsMeant new scope line parsed command
