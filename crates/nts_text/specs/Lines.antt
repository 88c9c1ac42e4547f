-- What the words of a line are.
use Rattle.std.specs.Prelude.{◌≡◌, ◌≢◌, ℕ, ◌<◌, true, false, List, [], ◌∷◌, ◌++◌, length, slice_index, codes, ◌⊎◌, All}
pub use Rattle.nts_text.specs.Declarations.{bytes_of}
use Rattle.nts_text.specs.Declarations.{IsTypeBody, IsTraitBody, IsAliasBody}
use Rattle.nts_text.specs.Bytes.{is_blank, AllFrom, IsRun, decimal_value}
use Rattle.nts_text.specs.Tokens.{IsInside, IsTokenAt, token_begins}
use Rattle.nts_text.specs.Predicates.{are_predicates, written_nodes}
use Rattle.nts_text.specs.declared.lexer.Token.{Token}
use Rattle.nts_text.specs.declared.lexer.TokenKind.TheVariants.{Arrow, Name, Number}
use Rattle.nts_text.specs.declared.parser.Keyword.{Keyword}
use Rattle.nts_text.specs.declared.parser.Keyword.TheVariants as keywords
use Rattle.nts_text.specs.declared.parser.Line.{Line}
use Rattle.nts_text.specs.declared.parser.Line.TheVariants as lines
use Rattle.nts_text.specs.declared.parser.Mode.{Mode}
use Rattle.nts_text.specs.declared.parser.Mode.TheVariants as modes
use Rattle.nts_text.specs.declared.predicates.Node.{Node}
use Rattle.nts_text.specs.declared.predicates.Wanted.{Wanted}
use Rattle.nts_text.specs.declared.predicates.Wanted.TheVariants as wanted

abbrev pub word_of_keyword : Keyword → List ℕ
word_of_keyword keywords.Mode = codes "mode"
word_of_keyword keywords.Depth = codes "depth"
word_of_keyword keywords.Type = codes "type"
word_of_keyword keywords.Trait = codes "trait"
word_of_keyword keywords.Alias = codes "alias"
word_of_keyword keywords.Impl = codes "impl"
word_of_keyword keywords.Norm = codes "norm"
word_of_keyword keywords.Goal = codes "goal"
word_of_keyword keywords.Env = codes "env"

abbrev pub word_of_mode : Mode → List ℕ
word_of_mode modes.Coherence = codes "coherence"
word_of_mode modes.Analysis = codes "analysis"
word_of_mode modes.PostAnalysis = codes "postanalysis"

-- a line that is passed over: it begins with `#`, or has blanks alone
abbrev pub IsPassedOver : List ℕ → Type 0
IsPassedOver line = ((0 < length line) × (slice_index line 0 ≡ 35)) ⊎ AllFrom is_blank line 0 (length line)

-- the line's first token is the keyword's word, and ends here
abbrev pub BeginsWithKeyword : List ℕ → Keyword → ℕ → Type 0
BeginsWithKeyword line k end =
    (t : Token) × IsRun is_blank line 0 t.start × IsTokenAt line t.start t × (bytes_of line t ≡ word_of_keyword k) × (t.end ≡ end)

-- no token begins the line, or one that is no keyword's word
abbrev pub HasNoKeyword : List ℕ → Type 0
HasNoKeyword line =
    (start : ℕ) × IsRun is_blank line 0 start
    × ((token_begins line start ≡ false)
    ⊎ ((t : Token) × IsTokenAt line start t × ((k : Keyword) → bytes_of line t ≢ word_of_keyword k)))

-- the tokens are one predicate, such as is wanted, and behind `<-`, if that is there, predicates
abbrev pub IsClause : Wanted → List Token → List Node → List Node → Type 0
IsClause w ts head body =
    ((are_predicates w ts ≡ true) × (head ≡ written_nodes ts) × (body ≡ []))
    ⊎ ((before after : List Token) × (t : Token) × (ts ≡ before ++ t ∷ after) × (t.kind ≡ Arrow)
    × (are_predicates w before ≡ true) × (head ≡ written_nodes before)
    × (are_predicates wanted.Many after ≡ true) × (body ≡ written_nodes after))

-- there are no tokens, or they are predicates that may be assumed
abbrev pub IsEnvironment : List Token → List Node → Type 0
IsEnvironment ts ns =
    ((ts ≡ []) × (ns ≡ [])) ⊎ ((are_predicates wanted.Assumed ts ≡ true) × (ns ≡ written_nodes ts))

-- what the tokens behind a keyword say
abbrev pub Says : List ℕ → List Token → Keyword → Line → Type 0
Says line ts keywords.Mode (lines.Mode m) = (t : Token) × (ts ≡ t ∷ []) × (bytes_of line t ≡ word_of_mode m)
Says line ts keywords.Depth (lines.Depth d) =
    (t : Token) × (ts ≡ t ∷ []) × (t.kind ≡ Number) × (decimal_value (bytes_of line t) ≡ d)
Says line ts keywords.Type (lines.Type name params) =
    (rest : List Token) × (ts ≡ name ∷ rest) × (name.kind ≡ Name) × IsTypeBody line rest params.items
Says line ts keywords.Trait (lines.Trait name sorts coinductive) =
    (rest : List Token) × (ts ≡ name ∷ rest) × (name.kind ≡ Name) × IsTraitBody line rest sorts.items coinductive
Says line ts keywords.Alias (lines.Alias name sorts rigid) =
    (rest : List Token) × (ts ≡ name ∷ rest) × (name.kind ≡ Name) × IsAliasBody line rest sorts.items rigid
Says line ts keywords.Impl (lines.Impl head body) = IsClause wanted.Base ts head.items body.items
Says line ts keywords.Norm (lines.Norm head body) = IsClause wanted.Norm ts head.items body.items
Says line ts keywords.Goal (lines.Goal ns) = (are_predicates wanted.One ts ≡ true) × (ns.items ≡ written_nodes ts)
Says line ts keywords.Env (lines.Env ns) = IsEnvironment ts ns.items
Says line ts _ _ = ⊥

-- the tokens behind a keyword say nothing
abbrev pub TokensSayNothing : List ℕ → List Token → Keyword → Type 0
TokensSayNothing line ts k = (l : Line) → Says line ts k l → ⊥

-- the one token is a number that is no depth
abbrev pub SaysTooMuch : List ℕ → List Token → Type 0
SaysTooMuch line ts = (t : Token) × (ts ≡ t ∷ []) × (t.kind ≡ Number) × (65535 < decimal_value (bytes_of line t))

-- the names of a line are inside of it
abbrev pub NamesAreInside : List ℕ → Line → Type 0
NamesAreInside line (lines.Type name params) = IsInside line name
NamesAreInside line (lines.Trait name sorts coinductive) = IsInside line name
NamesAreInside line (lines.Alias name sorts rigid) = IsInside line name
NamesAreInside line (lines.Norm head body) =
    All (λ n. IsInside line n.token) head.items × All (λ n. IsInside line n.token) body.items
NamesAreInside line (lines.Impl head body) =
    All (λ n. IsInside line n.token) head.items × All (λ n. IsInside line n.token) body.items
NamesAreInside line (lines.Goal ns) = All (λ n. IsInside line n.token) ns.items
NamesAreInside line (lines.Env ns) = All (λ n. IsInside line n.token) ns.items
NamesAreInside line _ = Unit {0}
