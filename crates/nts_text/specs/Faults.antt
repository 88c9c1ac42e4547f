-- What is at fault with a line that is refused.
use Rattle.std.specs.Prelude.{◌≡◌, ℕ, true, List, ◌⊎◌, Some, slice_get, take}
use Rattle.nts_text.specs.Binders.{BoundNames, bound_behind, bound_after}
use Rattle.nts_text.specs.Lines.{bytes_of, BeginsWithKeyword, HasNoKeyword, Says, TokensSayNothing, SaysTooMuch}
use Rattle.nts_text.specs.NameTable.{IsNameTaken, NameStandsFor}
use Rattle.nts_text.specs.Spelled.{IsNumberOf, HasNoNumber}
use Rattle.nts_text.specs.Tokens.{AreTokensFrom, HasStrayByte}
use Rattle.nts_text.specs.declared.lexer.Token.{Token}
use Rattle.nts_text.specs.declared.lexer.TokenKind.TheVariants.{Static}
use Rattle.nts_text.specs.declared.names.Declared.TheVariants.{Alias}
use Rattle.nts_text.specs.declared.names.NameTable.{NameTable}
use Rattle.nts_text.specs.declared.parser.Keyword.{Keyword}
use Rattle.nts_text.specs.declared.parser.Keyword.TheVariants as keywords
use Rattle.nts_text.specs.declared.parser.Line.{Line}
use Rattle.nts_text.specs.declared.parser.Line.TheVariants as lines
use Rattle.nts_text.specs.declared.predicates.Node.{Node}
use Rattle.nts_text.specs.declared.predicates.Role.TheVariants.{Bound, Normalizes}
use Rattle.nts_text.specs.declared.refusals.Refusal.TheVariants.{UnknownCommand, Syntax, NumberOutOfRange, UnknownName, NameDeclaredTwice, WrongArguments, ParameterInAClause, VariableInAnEnvironment, AliasIsRigid}
use Rattle.nts_text.specs.declared.refusals.TextError.{TextError}
use Rattle.nts_text.specs.declared.refusals.TextError.TheVariants.{Memory, Refused}

-- the node's name is neither known, nor declared, nor one that its predicate's binder binds
abbrev pub IsUnknown : NameTable → List ℕ → BoundNames → Node → Type 0
IsUnknown names line b n =
    (IsNameTaken names (bytes_of line n.token) → ⊥) × HasNoNumber (bound_behind line b n).here (bytes_of line n.token)

-- some node has an unknown name
abbrev pub HasFreeName : NameTable → List ℕ → List Node → Type 0
HasFreeName names line ns =
    (i : ℕ) × (n : Node) × (slice_get ns i ≡ Some n) × IsUnknown names line (bound_after line (take i ns)) n

-- a binder is to bind a name that it may not: `'static`, one that is known or declared, or one that its list
-- has already
abbrev pub IsBoundTwice : NameTable → List ℕ → BoundNames → Node → Type 0
IsBoundTwice names line b n =
    (n.role ≡ Bound)
    × ((n.token.kind ≡ Static) ⊎ IsNameTaken names (bytes_of line n.token) ⊎ ((i : ℕ) × IsNumberOf b.next i (bytes_of line n.token)))

abbrev pub HasBoundTwice : NameTable → List ℕ → List Node → Type 0
HasBoundTwice names line ns =
    (i : ℕ) × (n : Node) × (slice_get ns i ≡ Some n) × IsBoundTwice names line (bound_after line (take i ns)) n

-- a value is said of an alias that is rigid
abbrev pub IsRigidAlias : NameTable → List ℕ → Node → Type 0
IsRigidAlias names line n = (n.role ≡ Normalizes) × ((i : ℕ) × NameStandsFor names (bytes_of line n.token) (Alias i true))

abbrev pub HasRigidAlias : NameTable → List ℕ → List Node → Type 0
HasRigidAlias names line ns = (i : ℕ) × (n : Node) × (slice_get ns i ≡ Some n) × IsRigidAlias names line n

-- why the names of a line are refused
abbrev pub HasBadNames : NameTable → List ℕ → TextError → Line → Type 0
HasBadNames names line Memory l = Unit {0}
HasBadNames names line (Refused NameDeclaredTwice) (lines.Type name params) = IsNameTaken names (bytes_of line name)
HasBadNames names line (Refused NameDeclaredTwice) (lines.Trait name sorts coinductive) = IsNameTaken names (bytes_of line name)
HasBadNames names line (Refused NameDeclaredTwice) (lines.Alias name sorts rigid) = IsNameTaken names (bytes_of line name)
HasBadNames names line (Refused NameDeclaredTwice) (lines.Norm head body) =
    HasBoundTwice names line head.items ⊎ HasBoundTwice names line body.items
HasBadNames names line (Refused NameDeclaredTwice) (lines.Impl head body) =
    HasBoundTwice names line head.items ⊎ HasBoundTwice names line body.items
HasBadNames names line (Refused NameDeclaredTwice) (lines.Goal ns) = HasBoundTwice names line ns.items
HasBadNames names line (Refused NameDeclaredTwice) (lines.Env ns) = HasBoundTwice names line ns.items
HasBadNames names line (Refused UnknownName) (lines.Norm head body) =
    HasFreeName names line head.items ⊎ HasFreeName names line body.items
HasBadNames names line (Refused UnknownName) (lines.Impl head body) =
    HasFreeName names line head.items ⊎ HasFreeName names line body.items
HasBadNames names line (Refused UnknownName) (lines.Goal ns) = HasFreeName names line ns.items
HasBadNames names line (Refused UnknownName) (lines.Env ns) = HasFreeName names line ns.items
HasBadNames names line (Refused WrongArguments) (lines.Impl head body) = Unit {0}
HasBadNames names line (Refused WrongArguments) (lines.Norm head body) = Unit {0}
HasBadNames names line (Refused WrongArguments) (lines.Goal ns) = Unit {0}
HasBadNames names line (Refused WrongArguments) (lines.Env ns) = Unit {0}
HasBadNames names line (Refused ParameterInAClause) (lines.Impl head body) = Unit {0}
HasBadNames names line (Refused ParameterInAClause) (lines.Norm head body) = Unit {0}
HasBadNames names line (Refused VariableInAnEnvironment) (lines.Env ns) = Unit {0}
HasBadNames names line (Refused AliasIsRigid) (lines.Impl head body) =
    HasRigidAlias names line head.items ⊎ HasRigidAlias names line body.items
HasBadNames names line (Refused AliasIsRigid) (lines.Norm head body) =
    HasRigidAlias names line head.items ⊎ HasRigidAlias names line body.items
HasBadNames names line (Refused AliasIsRigid) (lines.Goal ns) = HasRigidAlias names line ns.items
HasBadNames names line (Refused AliasIsRigid) (lines.Env ns) = HasRigidAlias names line ns.items
HasBadNames names line e l = ⊥

-- behind its keyword the line has a byte of no token, or tokens that say nothing
pub record HasNoForm (line : List ℕ) : Type 0 where
  pub keyword : Keyword
  pub end : ℕ
  pub begins : BeginsWithKeyword line keyword end
  pub nothing : HasStrayByte line end ⊎ ((ts : List Token) × AreTokensFrom line end ts × TokensSayNothing line ts keyword)

-- behind `depth` stands a number that is no depth
pub record HasNoDepth (line : List ℕ) : Type 0 where
  pub end : ℕ
  pub tokens : List Token
  pub begins : BeginsWithKeyword line keywords.Depth end
  pub cut : AreTokensFrom line end tokens
  pub above : SaysTooMuch line tokens

-- the line is of a form, and its names are refused for this reason
pub record HasNoMeaning (names : NameTable) (line : List ℕ) (e : TextError) : Type 0 where
  pub keyword : Keyword
  pub end : ℕ
  pub tokens : List Token
  pub parsed : Line
  pub begins : BeginsWithKeyword line keyword end
  pub cut : AreTokensFrom line end tokens
  pub says : Says line tokens keyword parsed
  pub bad : HasBadNames names line e parsed

-- what each refusal of a line says of it
abbrev pub IsFaultOf : NameTable → List ℕ → TextError → Type 0
IsFaultOf names line Memory = Unit {0}
IsFaultOf names line (Refused UnknownCommand) = HasNoKeyword line
IsFaultOf names line (Refused Syntax) = HasNoForm line
IsFaultOf names line (Refused NumberOutOfRange) = HasNoDepth line
IsFaultOf names line e = HasNoMeaning names line e
