-- How tokens are written.
use Rattle.std.specs.Prelude.{◌≡◌, ◌≢◌, ℕ, ◌+◌, ◌<◌, ◌≤◌, ◌==◌, Bool, true, false, ◌||◌, if◌then◌else◌, List, [], ◌∷◌, length, slice_index, slice_range, codes}
use Rattle.std.specs.Char.{is_ascii_alphabetic, is_ascii_digit}
use Rattle.nts_text.specs.Bytes.{is_blank, AllFrom, IsRun, IsNameAt}
use Rattle.nts_text.specs.declared.lexer.TokenKind.{TokenKind}
use Rattle.nts_text.specs.declared.lexer.TokenKind.TheVariants.{Name, Number, TypeVariable, TypeParam, RegionVariable, RegionParam, Static, Open, Close, Comma, Minus, Equals, Colon, Greater, Arrow, For}
use Rattle.nts_text.specs.declared.lexer.Token.{Token}

-- a mark of one byte
abbrev pub IsMark : ℕ → List ℕ → ℕ → ℕ → Type 0
IsMark mark line from to = (slice_index line from ≡ mark) × (to ≡ from + 1)

-- the bytes from one place up to another are a token of this kind, and the longest from there
abbrev pub IsWritten : TokenKind → List ℕ → ℕ → ℕ → Type 0
IsWritten Name line from to =
    IsNameAt line from to × (slice_range line from to ≡ codes "for" → slice_index line to ≢ 60)
IsWritten Number line from to = (from < to) × IsRun is_ascii_digit line from to
IsWritten TypeVariable line from to = (slice_index line from ≡ 63) × IsNameAt line (from + 1) to
IsWritten TypeParam line from to = (slice_index line from ≡ 33) × IsNameAt line (from + 1) to
IsWritten RegionVariable line from to =
    (slice_index line from ≡ 39) × (slice_index line (from + 1) ≡ 63) × IsNameAt line (from + 2) to
IsWritten RegionParam line from to =
    (slice_index line from ≡ 39) × IsNameAt line (from + 1) to × (slice_range line (from + 1) to ≢ codes "static")
IsWritten Static line from to =
    (slice_index line from ≡ 39) × IsNameAt line (from + 1) to × (slice_range line (from + 1) to ≡ codes "static")
IsWritten Open line from to = IsMark 40 line from to
IsWritten Close line from to = IsMark 41 line from to
IsWritten Comma line from to = IsMark 44 line from to
IsWritten Minus line from to = IsMark 45 line from to
IsWritten Equals line from to = IsMark 61 line from to
IsWritten Colon line from to = IsMark 58 line from to
IsWritten Greater line from to = IsMark 62 line from to
IsWritten Arrow line from to =
    (slice_index line from ≡ 60) × (slice_index line (from + 1) ≡ 45) × (to ≡ from + 2)
IsWritten For line from to =
    (slice_range line from (from + 3) ≡ codes "for") × (slice_index line (from + 3) ≡ 60) × (to ≡ from + 4)

-- the token has at least one byte, and all of its bytes are in the line
pub record IsInside (line : List ℕ) (t : Token) : Type 0 where
  pub nonempty : t.start < t.end
  pub inside : t.end ≤ length line

-- the longest token that begins here
pub record IsTokenAt (line : List ℕ) (start : ℕ) (t : Token) : Type 0 where
  pub starts : t.start ≡ start
  pub within : IsInside line t
  pub written : IsWritten t.kind line t.start t.end

-- whether a token begins with these bytes: 0 stands for the end of the line
abbrev pub begins_token : ℕ → ℕ → ℕ → Bool
begins_token a b c =
    if is_ascii_alphabetic a || is_ascii_digit a then true
    else (if a == 63 || a == 33 then is_ascii_alphabetic b
    else (if a == 39 then (if b == 63 then is_ascii_alphabetic c else is_ascii_alphabetic b)
    else (if a == 60 then b == 45
    else (a == 40 || a == 41 || a == 44 || a == 45 || a == 61 || a == 58 || a == 62))))

-- a token begins at this place
abbrev pub token_begins : List ℕ → ℕ → Bool
token_begins line start =
    begins_token (slice_index line start) (slice_index line (start + 1)) (slice_index line (start + 2))

-- the tokens are the line from this place on, with blanks between them alone
abbrev pub AreTokensFrom : List ℕ → ℕ → List Token → Type 0
AreTokensFrom line from [] = AllFrom is_blank line from (length line)
AreTokensFrom line from (t ∷ ts) =
    AllFrom is_blank line from t.start × (from ≤ t.start) × IsTokenAt line t.start t × AreTokensFrom line t.end ts

-- a byte behind this place that is no blank, at which no token begins
pub record HasStrayByte (line : List ℕ) (from : ℕ) : Type 0 where
  pub place : ℕ
  pub behind : from ≤ place
  pub inside : place < length line
  pub visible : is_blank (slice_index line place) ≡ false
  pub stray : token_begins line place ≡ false
