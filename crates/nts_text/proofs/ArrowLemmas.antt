-- Where the arrow of a clause stands.
use Rattle.std.proofs.Common.{◌≡◌, ◌≢◌, ℕ, zero, suc, ◌<◌, Bool, true, false, ◌&&◌, ◌||◌, List, [], ◌∷◌, ◌++◌, inl, inr, All, length, take, drop, get_or, refl, sym, ap, subst, ◌∙◌, arith}
use Rattle.std.specs.Prelude.{IfSome, slice_get}
use Rattle.std.proofs.lemmas.Option.{slice_get-get_or}
use Rattle.std.proofs.lemmas.List.Elements.{All-nil, All-cons, All-head, All-tail}
use Rattle.nts_text.specs.Lines.{IsClause, TokensSayNothing}
use Rattle.nts_text.specs.declared.predicates.Node.{Node}
use Rattle.nts_text.specs.Predicates.{is_name, is_complete, is_many, may_have_colon, may_follow, may_follow_bound, may_stand, binding_behind, first_side, side_behind, depth_behind, before_first_of, continues, are_predicates}
use Rattle.nts_text.specs.declared.predicates.Side.{Side}
use Rattle.nts_text.specs.declared.predicates.Wanted.{Wanted}
use Rattle.nts_text.specs.declared.lexer.Token.{Token}
use Rattle.nts_text.specs.declared.lexer.TokenKind.{TokenKind}
use Rattle.nts_text.specs.declared.lexer.TokenKind.TheVariants.{Name, Open, Comma, Equals, Colon, Greater, For, Arrow}
use Rattle.nts_text.specs.declared.parser.Keyword.TheVariants as keywords
use Rattle.nts_text.specs.declared.parser.Line.TheVariants as lines
use Rattle.nts_text.specs.declared.predicates.Wanted.TheVariants as wanted

abbrev pub IsNoArrow : Token → Type 0
IsNoArrow t = t.kind ≢ Arrow

and_false : (b : Bool) → b && false ≡ false
and_false true = refl
and_false false = refl

both : (a b : Bool) → a && b ≡ true → (a ≡ true) × (b ≡ true)
both true b h = (refl, h)
both false b h = cc

none_of : (a b : Bool) → (a && false) || false || (b && false) ≡ false
none_of a b = rw (and_false a, and_false b) refl

-- no arrow follows in predicates
never_follows : (many : Bool) (s : Side) (depth : ℕ) (k : TokenKind) → may_follow many s depth k Arrow ≡ false
never_follows many s depth Open = refl
never_follows many s depth Comma = refl
never_follows many s depth Greater = and_false (may_have_colon s)
never_follows many s depth Colon = refl
never_follows many s depth Equals = refl
never_follows many s depth k = none_of (is_name k) (is_complete s depth k)

never_bound : (k : TokenKind) → may_follow_bound k Arrow ≡ false
never_bound For = refl
never_bound Comma = refl
never_bound k = refl

never_stands : (many binding : Bool) (s : Side) (depth : ℕ) (k : TokenKind) → may_stand many binding s depth k Arrow ≡ false
never_stands many true s depth k = never_bound k
never_stands many false s depth k = never_follows many s depth k

continues_without : (w : Wanted) (binding : Bool) (s : Side) (depth : ℕ) (k : TokenKind) (ts : List Token) → continues w binding s depth k ts ≡ true → All IsNoArrow ts
continues_without w binding s depth k [] h = All-nil IsNoArrow
continues_without w binding s depth k (t ∷ ts) h =
    let next = side_behind w s depth t.kind in
    let e = both (may_stand (is_many w) binding s depth k t.kind) (continues w (binding_behind binding t.kind) next (depth_behind depth t.kind) t.kind ts) h in
    All-cons IsNoArrow t ts (λ arrow. let f : true ≡ false = sym e.0 ∙ ap (may_stand (is_many w) binding s depth k) arrow ∙ never_stands (is_many w) binding s depth k in cc)
    (continues_without w (binding_behind binding t.kind) next (depth_behind depth t.kind) t.kind ts e.1)

without_arrow : (w : Wanted) (ts : List Token) → are_predicates w ts ≡ true → All IsNoArrow ts
without_arrow w ts h = continues_without w false (first_side w) 0 (before_first_of w) ts h

holds_between : (P : Token → Type 0) (xs : List Token) (t : Token) (ys : List Token) → All P (xs ++ t ∷ ys) → P t
holds_between P [] t ys h = All-head P t ys h
holds_between P (x ∷ xs) t ys h = holds_between P xs t ys (All-tail P x (xs ++ t ∷ ys) h)

-- the first arrow parts tokens in one way
parted : (before after : List Token) (t : Token) (at : ℕ) → All IsNoArrow before → t.kind ≡ Arrow
    → IfSome (slice_get (before ++ t ∷ after) at) (λ u. u.kind ≡ Arrow) → All IsNoArrow (take at (before ++ t ∷ after))
    → (before ≡ take at (before ++ t ∷ after)) × (after ≡ drop (suc at) (before ++ t ∷ after))
parted [] after t zero none arrow here first = (refl, refl)
parted [] after t (suc at) none arrow here first = absurd (All-head IsNoArrow t (take at after) first arrow)
parted (b ∷ bs) after t zero none arrow here first = absurd (All-head IsNoArrow b bs none here)
parted (b ∷ bs) after t (suc at) none arrow here first =
    let e = parted bs after t at (All-tail IsNoArrow b bs none) arrow here (All-tail IsNoArrow b (take at (bs ++ t ∷ after)) first) in
    (ap (λ xs. b ∷ xs) e.0, e.1)

-- the tokens before an arrow, and those behind it
pub parts_at : (ts : List Token) (at : ℕ) → at < length ts → IfSome (slice_get ts at) (λ t. t.kind ≡ Arrow) → (t : Token) × (ts ≡ take at ts ++ t ∷ drop (suc at) ts) × (t.kind ≡ Arrow)
parts_at [] at lt here = absurd (omega (arith, lt))
parts_at (t ∷ ts) zero lt here = (t, refl, here)
parts_at (t ∷ ts) (suc at) lt here =
    let e = parts_at ts at (omega (arith, lt)) here in
    (e.0, ap (λ xs. t ∷ xs) e.1, e.2)

module _ (w : Wanted) (ts : List Token) where
  -- there is no clause where there is no arrow and the tokens are no predicate
  pub no_fact : All IsNoArrow ts → are_predicates w ts ≡ false → (head body : List Node) → IsClause w ts head body → ⊥
  no_fact none fails head body (inl h) = let f : true ≡ false = sym h.0 ∙ fails in cc
  no_fact none fails head body (inr (before, after, t, parts, arrow, is, head_is, are, body_is)) =
      holds_between IsNoArrow before t after (subst (All IsNoArrow) parts none) arrow

  -- .. or where there is one, and not predicates before and behind it
  pub no_rule : (at : ℕ) → at < length ts → IfSome (slice_get ts at) (λ t. t.kind ≡ Arrow) → All IsNoArrow (take at ts)
      → (are_predicates w (take at ts) ≡ true → are_predicates wanted.Many (drop (suc at) ts) ≡ true → ⊥) → (head body : List Node) → IsClause w ts head body → ⊥
  no_rule at lt here first fails head body (inl h) =
      let d : Token = record { kind = Name; start = 0; end = 0 } in
      let arrow : (get_or ts at d).kind ≡ Arrow = subst (λ o. IfSome o (λ t. t.kind ≡ Arrow)) (slice_get-get_or ts at d lt) here in
      without_arrow w ts h.0 at d lt arrow
  no_rule at lt here first fails head body (inr (before, after, t, parts, arrow, is, head_is, are, body_is)) =
      let e = parted before after t at (without_arrow w before is) arrow
      (subst (λ xs. IfSome (slice_get xs at) (λ u. u.kind ≡ Arrow)) parts here) (subst (λ xs. All IsNoArrow (take at xs)) parts first) in
      fails (ap (are_predicates w) (ap (take at) parts ∙ sym e.0) ∙ is) (ap (are_predicates wanted.Many) (ap (drop (suc at)) parts ∙ sym e.1) ∙ are)

-- a line of an impl says a clause with a trait's head, and one of an alias's value a clause with such a head
pub says_no_impl : (line : List ℕ) (ts : List Token) → ((head body : List Node) → IsClause wanted.Base ts head body → ⊥) → TokensSayNothing line ts keywords.Impl
says_no_impl line ts none (lines.Impl head body) says = none head.items body.items says
says_no_impl line ts none _ says = says

pub says_no_norm : (line : List ℕ) (ts : List Token) → ((head body : List Node) → IsClause wanted.Norm ts head body → ⊥) → TokensSayNothing line ts keywords.Norm
says_no_norm line ts none (lines.Norm head body) says = none head.items body.items says
says_no_norm line ts none _ says = says
