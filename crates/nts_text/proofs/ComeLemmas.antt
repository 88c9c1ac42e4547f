-- What is still to come of parameters, token by token.
use Rattle.std.proofs.Common.{◌≡◌, ◌≢◌, ℕ, zero, ◌+◌, ◌<◌, ◌≤◌, suc, length, drop, get_or, List, [], ◌∷◌, ◌++◌, ◌⊎◌, inl, inr, map, refl, sym, ap, subst, ◌∙◌, append_assoc, arith}
use Rattle.std.proofs.Math.Seq.{drop-cons}
use Rattle.std.proofs.lemmas.List.{append-nil, drop_all}
use Rattle.nts_model.specs.declared.labels.Sort.{Sort}
use Rattle.nts_model.specs.declared.labels.Sort.TheVariants as sorts
use Rattle.nts_model.specs.declared.labels.Variance.{Variance}
use Rattle.nts_model.specs.declared.labels.Variance.TheVariants as variances
use Rattle.nts_text.specs.Declarations.{Sign, bytes_of, sign_of, sign_with, word_of_sort, mark_of, signs_of_param, signs_of_params, AreParams, unmarked}
use Rattle.nts_text.specs.declared.lexer.Token.{Token}
use Rattle.nts_text.specs.declared.lexer.TokenKind.{TokenKind}
use Rattle.nts_text.specs.declared.lexer.TokenKind.TheVariants.{Name, Open, Close, Comma, Minus, Equals}
use Rattle.nts_text.specs.declared.parser.Param.{Param}
use Rattle.nts_text.specs.declared.params.Place.{Place}
use Rattle.nts_text.specs.declared.params.Place.TheVariants as places

-- what stands behind a parameter
abbrev pub signs_behind : List Param → List Sign
signs_behind [] = (Close, []) ∷ []
signs_behind (p ∷ ps) = (Comma, []) ∷ signs_of_params p ps ++ (Close, []) ∷ []

-- at least one parameter, and the bracket that closes
abbrev pub AreLeft : List Param → List Sign → Type 0
AreLeft [] ss = ⊥
AreLeft (p ∷ ps) ss = ss ≡ mark_of p.variance ++ (Name, word_of_sort p.sort) ∷ signs_behind ps

-- a parameter whose mark has been read
abbrev pub AreLeftBehind : Variance → List Param → List Sign → Type 0
AreLeftBehind v [] ss = ⊥
AreLeftBehind v (p ∷ ps) ss = (p.variance ≡ v) × (ss ≡ (Name, word_of_sort p.sort) ∷ signs_behind ps)

-- what is to come at a place, where these parameters are left
abbrev pub IsToCome : Place → List Param → List Sign → Type 0
IsToCome places.Bracket ps ss = (rest : List Sign) × (ss ≡ (Open, []) ∷ rest) × AreLeft ps rest
IsToCome places.Param ps ss = AreLeft ps ss
IsToCome (places.Sort v) ps ss = AreLeftBehind v ps ss
IsToCome places.Behind ps ss = ss ≡ signs_behind ps
IsToCome places.End ps ss = (ps ≡ []) × (ss ≡ [])

-- however the tokens are read, these parameters are read, and the rest is to come
abbrev pub IsReadOnly : List ℕ → List Token → Place → List Param → List Sign → Type 0
IsReadOnly line ts place done rest =
    (all : List Param) → AreParams line ts all → (left : List Param) × (all ≡ done ++ left) × IsToCome place left rest

left_signs : (p : Param) (ps : List Param) → signs_of_params p ps ++ (Close, []) ∷ [] ≡ mark_of p.variance ++ (Name, word_of_sort p.sort) ∷ signs_behind ps
left_signs p [] = append_assoc (mark_of p.variance) ((Name, word_of_sort p.sort) ∷ []) ((Close, []) ∷ [])
left_signs p (q ∷ qs) =
    append_assoc (signs_of_param p) ((Comma, []) ∷ signs_of_params q qs) ((Close, []) ∷ [])
    ∙ append_assoc (mark_of p.variance) ((Name, word_of_sort p.sort) ∷ []) ((Comma, []) ∷ signs_of_params q qs ++ (Close, []) ∷ [])

-- before the first token
pub only_first : (line : List ℕ) (ts : List Token) → IsReadOnly line ts places.Bracket [] (map (sign_of line) ts)
only_first line ts [] h = absurd h
only_first line ts (p ∷ ps) h = (p ∷ ps, refl, (signs_of_params p ps ++ (Close, []) ∷ [], h, left_signs p ps))

kind_of_sign : (k : TokenKind) (w : List ℕ) → (sign_with k w).0 ≡ k
kind_of_sign Name w = refl
kind_of_sign k w = refl

head_is : {A : Type 0} (x y : A) (xs ys : List A) → x ∷ xs ≡ y ∷ ys → (x ≡ y) × (xs ≡ ys)
head_is x y xs ys h = (cc, cc)

-- one token, and what it leaves to come
module _ (line : List ℕ) (t : Token) (rest : List Sign) where
  kind_is : (k : TokenKind) (w : List ℕ) → sign_of line t ≡ (k, w) → t.kind ≡ k
  kind_is k w h = sym (kind_of_sign t.kind (bytes_of line t)) ∙ ap (λ s. s.0) h

  pub come_open : (ps : List Param) → IsToCome places.Bracket ps (sign_of line t ∷ rest) → (t.kind ≡ Open) × IsToCome places.Param ps rest
  come_open ps h =
      let e = head_is _ _ _ _ h.1 in
      (kind_is Open [] e.0, subst (AreLeft ps) (sym e.1) h.2)

  marked : (p : Param) (ps : List Param) (v : Variance) → p.variance ≡ v → sign_of line t ∷ rest ≡ mark_of v ++ (Name, word_of_sort p.sort) ∷ signs_behind ps
      → ((t.kind ≡ Minus) × AreLeftBehind variances.Contravariant (p ∷ ps) rest)
      ⊎ (((t.kind ≡ Equals) × AreLeftBehind variances.Invariant (p ∷ ps) rest)
      ⊎ ((t.kind ≡ Name) × AreLeftBehind variances.Covariant (p ∷ ps) (sign_of line t ∷ rest)))
  marked p ps variances.Covariant i h =
      let e = head_is _ _ _ _ h in
      inr (inr (kind_is Name _ e.0, (i, h)))
  marked p ps variances.Contravariant i h =
      let e = head_is _ _ _ _ h in
      inl (kind_is Minus [] e.0, (i, e.1))
  marked p ps variances.Invariant i h =
      let e = head_is _ _ _ _ h in
      inr (inl (kind_is Equals [] e.0, (i, e.1)))

  -- what a parameter that is to come begins with
  come_param : (ps : List Param) → IsToCome places.Param ps (sign_of line t ∷ rest)
      → ((t.kind ≡ Minus) × AreLeftBehind variances.Contravariant ps rest)
      ⊎ (((t.kind ≡ Equals) × AreLeftBehind variances.Invariant ps rest)
      ⊎ ((t.kind ≡ Name) × AreLeftBehind variances.Covariant ps (sign_of line t ∷ rest)))
  come_param [] h = absurd h
  come_param (p ∷ ps) h = marked p ps p.variance refl h

  come_sort : (v : Variance) (ps : List Param) → AreLeftBehind v ps (sign_of line t ∷ rest)
      → (p : Param) × (qs : List Param) × (ps ≡ p ∷ qs) × (p.variance ≡ v) × (sign_of line t ≡ (Name, word_of_sort p.sort)) × (rest ≡ signs_behind qs)
  come_sort v [] h = absurd h
  come_sort v (p ∷ ps) h =
      let e = head_is _ _ _ _ h.1 in
      (p, ps, refl, h.0, e.0, e.1)

  word_read : (p : Param) → t.kind ≡ Name → sign_of line t ≡ (Name, word_of_sort p.sort) → bytes_of line t ≡ word_of_sort p.sort
  word_read p k e = ap (λ s. s.1) (sym (ap (λ x. sign_with x (bytes_of line t)) k) ∙ e)

  come_behind : (ps : List Param) → IsToCome places.Behind ps (sign_of line t ∷ rest)
      → ((t.kind ≡ Comma) × AreLeft ps rest) ⊎ ((t.kind ≡ Close) × ((ps ≡ []) × (rest ≡ [])))
  come_behind [] h =
      let e = head_is _ _ _ _ h in
      inr (kind_is Close [] e.0, (refl, e.1))
  come_behind (p ∷ ps) h =
      let e = head_is _ _ _ _ h in
      inl (kind_is Comma [] e.0, e.1 ∙ left_signs p ps)

  come_end : (ps : List Param) → IsToCome places.End ps (sign_of line t ∷ rest) → ⊥
  come_end ps h = cc

word_one : (s u : Sort) → word_of_sort s ≡ word_of_sort u → s ≡ u
word_one sorts.Ty sorts.Ty h = refl
word_one sorts.Ty sorts.Region h = cc
word_one sorts.Ty sorts.Const h = cc
word_one sorts.Region sorts.Ty h = cc
word_one sorts.Region sorts.Region h = refl
word_one sorts.Region sorts.Const h = cc
word_one sorts.Const sorts.Ty h = cc
word_one sorts.Const sorts.Region h = cc
word_one sorts.Const sorts.Const h = refl

param_one : (p q : Param) → p.sort ≡ q.sort → p.variance ≡ q.variance → q ≡ p
param_one p q s v = λ i. record { sort = (sym s) i; variance = (sym v) i }

-- one token more, by its kind
module _ (line : List ℕ) (ts : List Token) (done : List Param) (t : Token) (rest : List Sign) where
  pub only_open : t.kind ≡ Open → IsReadOnly line ts places.Bracket done (sign_of line t ∷ rest) → IsReadOnly line ts places.Param done rest
  only_open k h = λ all are. let r = h all are in (r.0, r.1, (come_open line t rest r.0 r.2).1)

  pub only_minus : t.kind ≡ Minus → IsReadOnly line ts places.Param done (sign_of line t ∷ rest) → IsReadOnly line ts (places.Sort variances.Contravariant) done rest
  only_minus k h = λ all are. let r = h all are in (r.0, r.1, by r.0 (come_param line t rest r.0 r.2))
    where
      by : (ps : List Param) → ((t.kind ≡ Minus) × AreLeftBehind variances.Contravariant ps rest)
          ⊎ (((t.kind ≡ Equals) × AreLeftBehind variances.Invariant ps rest) ⊎ ((t.kind ≡ Name) × AreLeftBehind variances.Covariant ps (sign_of line t ∷ rest)))
          → AreLeftBehind variances.Contravariant ps rest
      by ps (inl e) = e.1
      by ps (inr (inl e)) = let f : Minus ≡ Equals = sym k ∙ e.0 in cc
      by ps (inr (inr e)) = let f : Minus ≡ Name = sym k ∙ e.0 in cc

  pub only_equals : t.kind ≡ Equals → IsReadOnly line ts places.Param done (sign_of line t ∷ rest) → IsReadOnly line ts (places.Sort variances.Invariant) done rest
  only_equals k h = λ all are. let r = h all are in (r.0, r.1, by r.0 (come_param line t rest r.0 r.2))
    where
      by : (ps : List Param) → ((t.kind ≡ Minus) × AreLeftBehind variances.Contravariant ps rest)
          ⊎ (((t.kind ≡ Equals) × AreLeftBehind variances.Invariant ps rest) ⊎ ((t.kind ≡ Name) × AreLeftBehind variances.Covariant ps (sign_of line t ∷ rest)))
          → AreLeftBehind variances.Invariant ps rest
      by ps (inl e) = let f : Equals ≡ Minus = sym k ∙ e.0 in cc
      by ps (inr (inl e)) = e.1
      by ps (inr (inr e)) = let f : Equals ≡ Name = sym k ∙ e.0 in cc

  pub only_marked : (v : Variance) (p : Param) → t.kind ≡ Name → bytes_of line t ≡ word_of_sort p.sort → p.variance ≡ v
      → IsReadOnly line ts (places.Sort v) done (sign_of line t ∷ rest) → IsReadOnly line ts places.Behind (done ++ p ∷ []) rest
  only_marked v p k w i h = λ all are.
      let r = h all are in
      let c = come_sort line t rest v r.0 r.2 in
      let q = c.0 in
      let qs = c.1 in
      let same : q ≡ p = param_one p q (word_one p.sort q.sort (sym w ∙ word_read line t rest q k c.4)) (i ∙ sym c.3) in
      (qs, r.1 ∙ ap (λ xs. done ++ xs) c.2 ∙ ap (λ x. done ++ x ∷ qs) same ∙ sym (append_assoc done (p ∷ []) qs), c.5)

  pub only_plain : (p : Param) → t.kind ≡ Name → bytes_of line t ≡ word_of_sort p.sort → p.variance ≡ variances.Covariant
      → IsReadOnly line ts places.Param done (sign_of line t ∷ rest) → IsReadOnly line ts places.Behind (done ++ p ∷ []) rest
  only_plain p k w i h = only_marked variances.Covariant p k w i (λ all are. let r = h all are in (r.0, r.1, by r.0 (come_param line t rest r.0 r.2)))
    where
      by : (ps : List Param) → ((t.kind ≡ Minus) × AreLeftBehind variances.Contravariant ps rest)
          ⊎ (((t.kind ≡ Equals) × AreLeftBehind variances.Invariant ps rest) ⊎ ((t.kind ≡ Name) × AreLeftBehind variances.Covariant ps (sign_of line t ∷ rest)))
          → AreLeftBehind variances.Covariant ps (sign_of line t ∷ rest)
      by ps (inl e) = let f : Name ≡ Minus = sym k ∙ e.0 in cc
      by ps (inr (inl e)) = let f : Name ≡ Equals = sym k ∙ e.0 in cc
      by ps (inr (inr e)) = e.1

  pub only_comma : t.kind ≡ Comma → IsReadOnly line ts places.Behind done (sign_of line t ∷ rest) → IsReadOnly line ts places.Param done rest
  only_comma k h = λ all are. let r = h all are in (r.0, r.1, by r.0 (come_behind line t rest r.0 r.2))
    where
      by : (ps : List Param) → ((t.kind ≡ Comma) × AreLeft ps rest) ⊎ ((t.kind ≡ Close) × ((ps ≡ []) × (rest ≡ []))) → AreLeft ps rest
      by ps (inl e) = e.1
      by ps (inr e) = let f : Comma ≡ Close = sym k ∙ e.0 in cc

  pub only_close : t.kind ≡ Close → IsReadOnly line ts places.Behind done (sign_of line t ∷ rest) → IsReadOnly line ts places.End done rest
  only_close k h = λ all are. let r = h all are in (r.0, r.1, by r.0 (come_behind line t rest r.0 r.2))
    where
      by : (ps : List Param) → ((t.kind ≡ Comma) × AreLeft ps rest) ⊎ ((t.kind ≡ Close) × ((ps ≡ []) × (rest ≡ []))) → (ps ≡ []) × (rest ≡ [])
      by ps (inl e) = let f : Close ≡ Comma = sym k ∙ e.0 in cc
      by ps (inr e) = e.1

-- the signs that are left begin with that of the next token
pub signs_next : (line : List ℕ) (ts : List Token) (i : ℕ) (d : Token) → i < length ts → map (sign_of line) (drop i ts) ≡ sign_of line (get_or ts i d) ∷ map (sign_of line) (drop (i + 1) ts)
signs_next line ts i d h = let e : suc i ≡ i + 1 = omega arith in ap (map (sign_of line)) (drop-cons ts i d h) ∙ ap (λ n. sign_of line (get_or ts i d) ∷ map (sign_of line) (drop n ts)) e

-- what is read beyond a list
abbrev pub no_token : Token
no_token = record { kind = Name; start = 0; end = 0 }

pub at_next : (line : List ℕ) (ts : List Token) (place : Place) (done : List Param) (i : ℕ) (d : Token) → i < length ts → IsReadOnly line ts place done (map (sign_of line) (drop i ts))
    → IsReadOnly line ts place done (sign_of line (get_or ts i d) ∷ map (sign_of line) (drop (i + 1) ts))
at_next line ts place done i d lt h = subst (IsReadOnly line ts place done) (signs_next line ts i d lt) h

-- a token that can't be next
module _ (line : List ℕ) (ts : List Token) (done : List Param) (t : Token) (rest : List Sign) where
  abbrev IsNone : Type 0
  IsNone = (all : List Param) → AreParams line ts all → ⊥

  pub stuck_bracket : (t.kind ≡ Open → ⊥) → IsReadOnly line ts places.Bracket done (sign_of line t ∷ rest) → IsNone
  stuck_bracket k h = λ all are. let r = h all are in k (come_open line t rest r.0 r.2).0

  pub stuck_param : (t.kind ≡ Name → ⊥) → (t.kind ≡ Minus → ⊥) → (t.kind ≡ Equals → ⊥) → IsReadOnly line ts places.Param done (sign_of line t ∷ rest) → IsNone
  stuck_param n m q h = λ all are. let r = h all are in by r.0 (come_param line t rest r.0 r.2)
    where
      by : (ps : List Param) → ((t.kind ≡ Minus) × AreLeftBehind variances.Contravariant ps rest)
          ⊎ (((t.kind ≡ Equals) × AreLeftBehind variances.Invariant ps rest) ⊎ ((t.kind ≡ Name) × AreLeftBehind variances.Covariant ps (sign_of line t ∷ rest))) → ⊥
      by ps (inl e) = m e.0
      by ps (inr (inl e)) = q e.0
      by ps (inr (inr e)) = n e.0

  pub stuck_sort : (v : Variance) → (t.kind ≡ Name → ⊥) → IsReadOnly line ts (places.Sort v) done (sign_of line t ∷ rest) → IsNone
  stuck_sort v n h = λ all are. let r = h all are in n (kind_is line t rest Name _ (come_sort line t rest v r.0 r.2).4)

  pub stuck_behind : (t.kind ≡ Close → ⊥) → (t.kind ≡ Comma → ⊥) → IsReadOnly line ts places.Behind done (sign_of line t ∷ rest) → IsNone
  stuck_behind k c h = λ all are. let r = h all are in by r.0 (come_behind line t rest r.0 r.2)
    where
      by : (ps : List Param) → ((t.kind ≡ Comma) × AreLeft ps rest) ⊎ ((t.kind ≡ Close) × ((ps ≡ []) × (rest ≡ []))) → ⊥
      by ps (inl e) = c e.0
      by ps (inr e) = k e.0

  pub stuck_end : IsReadOnly line ts places.End done (sign_of line t ∷ rest) → IsNone
  stuck_end h = λ all are. let r = h all are in come_end line t rest r.0 r.2

  -- .. and a word that is no sort
  pub stuck_marked : (v : Variance) → t.kind ≡ Name → ((s : Sort) → bytes_of line t ≢ word_of_sort s) → IsReadOnly line ts (places.Sort v) done (sign_of line t ∷ rest) → IsNone
  stuck_marked v k w h = λ all are.
      let r = h all are in
      let c = come_sort line t rest v r.0 r.2 in
      w c.0.sort (word_read line t rest c.0 k c.4)

  pub stuck_plain : t.kind ≡ Name → ((s : Sort) → bytes_of line t ≢ word_of_sort s) → IsReadOnly line ts places.Param done (sign_of line t ∷ rest) → IsNone
  stuck_plain k w h = λ all are. let r = h all are in by r.0 (come_param line t rest r.0 r.2)
    where
      by : (ps : List Param) → ((t.kind ≡ Minus) × AreLeftBehind variances.Contravariant ps rest)
          ⊎ (((t.kind ≡ Equals) × AreLeftBehind variances.Invariant ps rest) ⊎ ((t.kind ≡ Name) × AreLeftBehind variances.Covariant ps (sign_of line t ∷ rest))) → ⊥
      by ps (inl e) = let f : Name ≡ Minus = sym k ∙ e.0 in cc
      by ps (inr (inl e)) = let f : Name ≡ Equals = sym k ∙ e.0 in cc
      by ps (inr (inr e)) =
          let c = come_sort line t rest variances.Covariant ps e.1 in
          w c.0.sort (word_read line t rest c.0 k c.4)

-- no token is left
module _ (line : List ℕ) (ts : List Token) (done : List Param) where
  not_left : (p : Param) (ps : List Param) (v : Variance) → [] ≡ mark_of v ++ (Name, word_of_sort p.sort) ∷ signs_behind ps → ⊥
  not_left p ps variances.Covariant h = cc
  not_left p ps variances.Contravariant h = cc
  not_left p ps variances.Invariant h = cc

  come_none : (place : Place) (left : List Param) → IsToCome place left [] → (place ≡ places.End) × (left ≡ [])
  come_none places.Bracket left h = absurd (let e : [] ≡ (Open, []) ∷ h.0 = h.1 in cc)
  come_none places.Param [] h = absurd h
  come_none places.Param (p ∷ ps) h = absurd (not_left p ps p.variance h)
  come_none (places.Sort v) [] h = absurd h
  come_none (places.Sort v) (p ∷ ps) h = absurd (let e : [] ≡ (Name, word_of_sort p.sort) ∷ signs_behind ps = h.1 in cc)
  come_none places.Behind [] h = absurd (let e : [] ≡ (Close, []) ∷ [] = h in cc)
  come_none places.Behind (p ∷ ps) h = absurd (let e : [] ≡ (Comma, []) ∷ signs_of_params p ps ++ (Close, []) ∷ [] = h in cc)
  come_none places.End left h = (refl, h.0)

  pub stuck_short : (place : Place) → (place ≡ places.End → ⊥) → IsReadOnly line ts place done [] → (all : List Param) → AreParams line ts all → ⊥
  stuck_short place other h = λ all are. let r = h all are in other (come_none place r.0 r.2).0

  pub only_all : (place : Place) → IsReadOnly line ts place done [] → (all : List Param) → AreParams line ts all → done ≡ all
  only_all place h = λ all are. let r = h all are in sym (r.1 ∙ ap (λ xs. done ++ xs) (come_none place r.0 r.2).1 ∙ append-nil done)

pub none_left : {A : Type 0} (xs : List A) (i : ℕ) → length xs ≤ i → drop i xs ≡ []
none_left xs i h = drop_all i xs h

-- parameters with no marks are covariant
pub all_unmarked : (ps : List Param) (ss : List Sort) (i : ℕ) (d : Param) → ps ≡ map unmarked ss → i < length ps → (get_or ps i d).variance ≡ variances.Covariant
all_unmarked [] ss i d e h = absurd (omega (arith, h))
all_unmarked (p ∷ ps) [] i d e h = cc
all_unmarked (p ∷ ps) (s ∷ ss) zero d e h = ap (λ q. q.variance) (head_is p (unmarked s) ps (map unmarked ss) e).0
all_unmarked (p ∷ ps) (s ∷ ss) (suc i) d e h = all_unmarked ps ss i d (head_is p (unmarked s) ps (map unmarked ss) e).1 (omega (arith, h))
