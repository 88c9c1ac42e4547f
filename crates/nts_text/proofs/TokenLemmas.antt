-- How the tokens of a line grow by one.
use Rattle.std.proofs.Common.{◌≡◌, ℕ, ◌≤◌, List, [], ◌∷◌, ◌++◌, length, refl, arith}
use Rattle.nts_text.specs.Bytes.{is_blank, AllFrom}
use Rattle.nts_text.specs.Tokens.{IsTokenAt, AreTokensFrom}
use Rattle.nts_text.specs.declared.lexer.Token.{Token}

-- the tokens are the line from one place up to another, with blanks between them alone
abbrev pub AreTokensBetween : List ℕ → ℕ → List Token → ℕ → Type 0
AreTokensBetween line from [] to = (from ≤ to) × AllFrom is_blank line from to
AreTokensBetween line from (t ∷ ts) to =
    AllFrom is_blank line from t.start × (from ≤ t.start) × IsTokenAt line t.start t × AreTokensBetween line t.end ts to

pub tokens_between_end : (line : List ℕ) (from : ℕ) (ts : List Token) → AreTokensBetween line from ts (length line) → AreTokensFrom line from ts
tokens_between_end line from [] h = h.1
tokens_between_end line from (t ∷ ts) h = (h.0, h.1, h.2, tokens_between_end line t.end ts h.3)

pub tokens_between_push : (line : List ℕ) (from : ℕ) (ts : List Token) (at : ℕ) (t : Token) (to : ℕ)
    → AreTokensBetween line from ts at → IsTokenAt line at t → (t.end ≤ to) → AllFrom is_blank line t.end to
    → AreTokensBetween line from (ts ++ t ∷ []) to
tokens_between_push line from [] at t to h token ordered blank =
    let e : t.start ≡ at = token.starts in (
      (λ k low high. h.1 k low (omega (arith, e))),
      omega (arith, e, h.0),
      record { starts = refl; within = token.within; written = token.written },
      (ordered, blank),
    )
tokens_between_push line from (u ∷ ts) at t to h token ordered blank =
    (h.0, h.1, h.2, tokens_between_push line u.end ts at t to h.3 token ordered blank)
