-- How the parameters of a declared type, trait or alias are written.
use Rattle.std.specs.Prelude.{◌≡◌, ℕ, true, false, Bool, List, [], ◌∷◌, ◌++◌, ◌⊎◌, map, slice_range, codes}
use Rattle.nts_model.specs.declared.labels.Sort.{Sort}
use Rattle.nts_model.specs.declared.labels.Sort.TheVariants as sorts
use Rattle.nts_model.specs.declared.labels.Variance.{Variance}
use Rattle.nts_model.specs.declared.labels.Variance.TheVariants as variances
use Rattle.nts_text.specs.declared.lexer.Token.{Token}
use Rattle.nts_text.specs.declared.lexer.TokenKind.{TokenKind}
use Rattle.nts_text.specs.declared.lexer.TokenKind.TheVariants.{Name, Open, Close, Comma, Minus, Equals}
use Rattle.nts_text.specs.declared.parser.Param.{Param}

-- the bytes of a token
abbrev pub bytes_of : List ℕ → Token → List ℕ
bytes_of line t = slice_range line t.start t.end

-- what a token is: its kind, and the word of a name
abbrev pub Sign : Type 0
Sign = TokenKind × List ℕ

abbrev pub sign_with : TokenKind → List ℕ → Sign
sign_with Name word = (Name, word)
sign_with k word = (k, [])

abbrev pub sign_of : List ℕ → Token → Sign
sign_of line t = sign_with t.kind (bytes_of line t)

-- the word of a sort; a const has none, for a name has at least one letter
abbrev pub word_of_sort : Sort → List ℕ
word_of_sort sorts.Ty = codes "type"
word_of_sort sorts.Region = codes "region"
word_of_sort sorts.Const = []

-- the mark that stands before a sort
abbrev pub mark_of : Variance → List Sign
mark_of variances.Covariant = []
mark_of variances.Contravariant = (Minus, []) ∷ []
mark_of variances.Invariant = (Equals, []) ∷ []

abbrev pub signs_of_param : Param → List Sign
signs_of_param p = mark_of p.variance ++ (Name, word_of_sort p.sort) ∷ []

-- a parameter, and more of them, each behind a comma
abbrev pub signs_of_params : Param → List Param → List Sign
signs_of_params p [] = signs_of_param p
signs_of_params p (q ∷ qs) = signs_of_param p ++ (Comma, []) ∷ signs_of_params q qs

-- the tokens are these parameters in brackets, of which there is at least one
abbrev pub AreParams : List ℕ → List Token → List Param → Type 0
AreParams line ts [] = ⊥
AreParams line ts (p ∷ ps) = map (sign_of line) ts ≡ (Open, []) ∷ signs_of_params p ps ++ (Close, []) ∷ []

-- a parameter with no mark
abbrev pub unmarked : Sort → Param
unmarked s = record { sort = s; variance = variances.Covariant }

-- the tokens behind the name of a type: nothing, or its parameters
abbrev pub IsTypeBody : List ℕ → List Token → List Param → Type 0
IsTypeBody line ts params = ((ts ≡ []) × (params ≡ [])) ⊎ AreParams line ts params

-- the last token is this word, behind these
abbrev pub EndsIn : List ℕ → List ℕ → List Token → List Token → Type 0
EndsIn w line ts before = (word : Token) × (ts ≡ before ++ word ∷ []) × (sign_of line word ≡ (Name, w))

-- the tokens behind the name of a trait: its sorts, with no marks, and `coinductive` behind them
-- where it is so
abbrev pub IsTraitBody : List ℕ → List Token → List Sort → Bool → Type 0
IsTraitBody line ts given false = AreParams line ts (map unmarked given)
IsTraitBody line ts given true =
    (before : List Token) × EndsIn (codes "coinductive") line ts before × AreParams line before (map unmarked given)

-- nothing, or sorts with no marks
abbrev pub AreSortsIfAny : List ℕ → List Token → List Sort → Type 0
AreSortsIfAny line ts given = ((ts ≡ []) × (given ≡ [])) ⊎ AreParams line ts (map unmarked given)

-- the tokens behind the name of an alias: nothing, or its sorts, and `rigid` behind them where it is so
abbrev pub IsAliasBody : List ℕ → List Token → List Sort → Bool → Type 0
IsAliasBody line ts given false = AreSortsIfAny line ts given
IsAliasBody line ts given true =
    (before : List Token) × EndsIn (codes "rigid") line ts before × AreSortsIfAny line before given
