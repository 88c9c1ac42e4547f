-- How parameters are read, token by token.
use Rattle.std.proofs.Common.{◌≡◌, ℕ, ◌+◌, ◌<◌, length, take, get_or, List, [], ◌∷◌, ◌++◌, map, refl, sym, ap, subst, ◌∙◌, append_assoc}
use Rattle.std.proofs.lemmas.List.{append-nil, map-append, take_more}
use Rattle.nts_model.specs.declared.labels.Variance.{Variance}
use Rattle.nts_model.specs.declared.labels.Variance.TheVariants as variances
use Rattle.nts_text.specs.Declarations.{Sign, bytes_of, sign_of, sign_with, word_of_sort, mark_of, signs_of_param, signs_of_params}
use Rattle.nts_text.specs.declared.lexer.Token.{Token}
use Rattle.nts_text.specs.declared.lexer.TokenKind.TheVariants.{Name, Open, Close, Comma, Minus, Equals}
use Rattle.nts_text.specs.declared.parser.Param.{Param}
use Rattle.nts_text.specs.declared.params.Place.{Place}
use Rattle.nts_text.specs.declared.params.Place.TheVariants as places

-- what stands before a parameter that is to come
abbrev pub signs_before : List Param → List Sign
signs_before [] = (Open, []) ∷ []
signs_before (p ∷ ps) = (Open, []) ∷ signs_of_params p ps ++ (Comma, []) ∷ []

-- the bracket and at least one parameter
abbrev pub AreBegun : List Param → List Sign → Type 0
AreBegun [] ss = ⊥
AreBegun (p ∷ ps) ss = ss ≡ (Open, []) ∷ signs_of_params p ps

-- .. and the bracket that closes
abbrev pub AreEnded : List Param → List Sign → Type 0
AreEnded [] ss = ⊥
AreEnded (p ∷ ps) ss = ss ≡ (Open, []) ∷ signs_of_params p ps ++ (Close, []) ∷ []

-- what is read before a place
abbrev pub IsReadTo : Place → List Param → List Sign → Type 0
IsReadTo places.Bracket ps ss = (ps ≡ []) × (ss ≡ [])
IsReadTo places.Param ps ss = ss ≡ signs_before ps
IsReadTo (places.Sort v) ps ss = ss ≡ signs_before ps ++ mark_of v
IsReadTo places.Behind ps ss = AreBegun ps ss
IsReadTo places.End ps ss = AreEnded ps ss

-- one more token, by the place before it
pub read_open : (ps : List Param) (ss more : List Sign) (s : Sign) → more ≡ ss ++ s ∷ [] → s ≡ (Open, []) → IsReadTo places.Bracket ps ss → IsReadTo places.Param ps more
read_open ps ss more s e k h = e ∙ ap (λ xs. xs ++ s ∷ []) h.1 ∙ ap (λ x. x ∷ []) k ∙ ap signs_before (sym h.0)

pub read_mark : (ps : List Param) (ss more : List Sign) (s : Sign) (v : Variance) → more ≡ ss ++ s ∷ [] → s ∷ [] ≡ mark_of v → IsReadTo places.Param ps ss → IsReadTo (places.Sort v) ps more
read_mark ps ss more s v e k h = e ∙ ap (λ xs. xs ++ s ∷ []) h ∙ ap (λ xs. signs_before ps ++ xs) k

pub read_comma : (ps : List Param) (ss more : List Sign) (s : Sign) → more ≡ ss ++ s ∷ [] → s ≡ (Comma, []) → IsReadTo places.Behind ps ss → IsReadTo places.Param ps more
read_comma [] ss more s e k h = absurd h
read_comma (p ∷ ps) ss more s e k h = e ∙ ap (λ xs. xs ++ s ∷ []) h ∙ ap (λ x. (Open, []) ∷ signs_of_params p ps ++ x ∷ []) k

pub read_close : (ps : List Param) (ss more : List Sign) (s : Sign) → more ≡ ss ++ s ∷ [] → s ≡ (Close, []) → IsReadTo places.Behind ps ss → IsReadTo places.End ps more
read_close [] ss more s e k h = absurd h
read_close (p ∷ ps) ss more s e k h = e ∙ ap (λ xs. xs ++ s ∷ []) h ∙ ap (λ x. (Open, []) ∷ signs_of_params p ps ++ x ∷ []) k

signs_push : (p : Param) (ps : List Param) (q : Param) → signs_of_params p (ps ++ q ∷ []) ≡ signs_of_params p ps ++ (Comma, []) ∷ signs_of_param q
signs_push p [] q = refl
signs_push p (x ∷ xs) q =
    ap (λ ss. signs_of_param p ++ (Comma, []) ∷ ss) (signs_push x xs q)
    ∙ sym (append_assoc (signs_of_param p) ((Comma, []) ∷ signs_of_params x xs) ((Comma, []) ∷ signs_of_param q))

read_more : (ps : List Param) (q : Param) → AreBegun (ps ++ q ∷ []) (signs_before ps ++ signs_of_param q)
read_more [] q = refl
read_more (p ∷ ps) q =
    ap (λ ss. (Open, []) ∷ ss) (append_assoc (signs_of_params p ps) ((Comma, []) ∷ []) (signs_of_param q) ∙ sym (signs_push p ps q))

read_param : (ps : List Param) (ss more : List Sign) (s : Sign) (p : Param) → more ≡ ss ++ s ∷ [] → s ≡ (Name, word_of_sort p.sort) → ss ≡ signs_before ps ++ mark_of p.variance → AreBegun (ps ++ p ∷ []) more
read_param ps ss more s p e k h =
    subst (AreBegun (ps ++ p ∷ []))
    (sym (e ∙ ap (λ xs. xs ++ s ∷ []) h ∙ append_assoc (signs_before ps) (mark_of p.variance) (s ∷ []) ∙ ap (λ x. signs_before ps ++ (mark_of p.variance ++ x ∷ [])) k)) (read_more ps p)

pub read_marked : (ps : List Param) (ss more : List Sign) (s : Sign) (v : Variance) (p : Param) → p.variance ≡ v → more ≡ ss ++ s ∷ [] → s ≡ (Name, word_of_sort p.sort)
    → IsReadTo (places.Sort v) ps ss → IsReadTo places.Behind (ps ++ p ∷ []) more
read_marked ps ss more s v p i e k h = read_param ps ss more s p e k (h ∙ ap (λ u. signs_before ps ++ mark_of u) (sym i))

pub read_plain : (ps : List Param) (ss more : List Sign) (s : Sign) (p : Param) → p.variance ≡ variances.Covariant → more ≡ ss ++ s ∷ [] → s ≡ (Name, word_of_sort p.sort)
    → IsReadTo places.Param ps ss → IsReadTo places.Behind (ps ++ p ∷ []) more
read_plain ps ss more s p i e k h = read_param ps ss more s p e k (h ∙ sym (append-nil (signs_before ps)) ∙ ap (λ u. signs_before ps ++ mark_of u) (sym i))

-- one more token, by its kind
module _ (line : List ℕ) (t : Token) (ps : List Param) (ss more : List Sign) (e : more ≡ ss ++ sign_of line t ∷ []) where
  pub one_open : t.kind ≡ Open → IsReadTo places.Bracket ps ss → IsReadTo places.Param ps more
  one_open k = read_open ps ss more _ e (ap (λ x. sign_with x (bytes_of line t)) k)

  pub one_minus : t.kind ≡ Minus → IsReadTo places.Param ps ss → IsReadTo (places.Sort variances.Contravariant) ps more
  one_minus k = read_mark ps ss more _ variances.Contravariant e (ap (λ x. sign_with x (bytes_of line t) ∷ []) k)

  pub one_equals : t.kind ≡ Equals → IsReadTo places.Param ps ss → IsReadTo (places.Sort variances.Invariant) ps more
  one_equals k = read_mark ps ss more _ variances.Invariant e (ap (λ x. sign_with x (bytes_of line t) ∷ []) k)

  pub one_comma : t.kind ≡ Comma → IsReadTo places.Behind ps ss → IsReadTo places.Param ps more
  one_comma k = read_comma ps ss more _ e (ap (λ x. sign_with x (bytes_of line t)) k)

  pub one_close : t.kind ≡ Close → IsReadTo places.Behind ps ss → IsReadTo places.End ps more
  one_close k = read_close ps ss more _ e (ap (λ x. sign_with x (bytes_of line t)) k)

  named : (p : Param) → t.kind ≡ Name → bytes_of line t ≡ word_of_sort p.sort → sign_of line t ≡ (Name, word_of_sort p.sort)
  named p k w = ap (λ x. sign_with x (bytes_of line t)) k ∙ ap (λ b. sign_with Name b) w

  pub one_plain : (p : Param) → t.kind ≡ Name → bytes_of line t ≡ word_of_sort p.sort → p.variance ≡ variances.Covariant → IsReadTo places.Param ps ss → IsReadTo places.Behind (ps ++ p ∷ []) more
  one_plain p k w i = read_plain ps ss more _ p i e (named p k w)

  pub one_marked : (v : Variance) (p : Param) → t.kind ≡ Name → bytes_of line t ≡ word_of_sort p.sort → p.variance ≡ v → IsReadTo (places.Sort v) ps ss → IsReadTo places.Behind (ps ++ p ∷ []) more
  one_marked v p k w i = read_marked ps ss more _ v p i e (named p k w)

-- one more token
pub signs_more : (line : List ℕ) (ts : List Token) (i : ℕ) (d : Token) → i < length ts → map (sign_of line) (take (i + 1) ts) ≡ map (sign_of line) (take i ts) ++ sign_of line (get_or ts i d) ∷ []
signs_more line ts i d h = ap (map (sign_of line)) (take_more ts i d h) ∙ map-append (sign_of line) (take i ts) (get_or ts i d ∷ [])
