-- Kinds of positions that say as little as those of an input, and answers that change nothing: these contain each solution.
use Rattle.std.proofs.Common.{ℕ, ◌≡◌, zero, suc, ◌+◌, ◌≤◌, List, [], ◌∷◌, map, get_or, length, Option, Some, None, refl, sym, ap, subst, ◌∙◌, arith}
use Rattle.nts_model.specs.declared.labels.Sort.{Sort}
use Rattle.nts_model.specs.declared.labels.Sort.TheVariants as sort
use Rattle.nts_model.specs.declared.labels.Leaf.{Leaf}
use Rattle.nts_model.specs.declared.labels.Leaf.TheVariants as leaf
use Rattle.nts_model.specs.declared.labels.Label.TheVariants as label
use Rattle.nts_model.specs.declared.labels.VariableKind.{VariableKind}
use Rattle.nts_model.specs.declared.labels.VariableKind.TheVariants as kind
use Rattle.nts_model.specs.Terms.Trees.{Tree, empty}
use Rattle.nts_model.specs.Terms.Placeholders.{leaf_level}
use Rattle.nts_model.specs.Terms.Substitutions.{filled}
use Rattle.nts_model.specs.Canonical.Numbered.{position}
use Rattle.nts_model.specs.Canonical.Inputs.{PositionKind, type_variable, integer_variable, float_variable, const_variable, region_variable, placeholder}
use Rattle.nts_model.specs.Refutation.Opening.{placeholder_in}
use Rattle.nts_model.specs.Searching.Driving.{sort_at, positions_from}
use Rattle.nts_model.specs.Answers.Responses.{Response}
use Rattle.nts_model.specs.Lists.{Among}
use Rattle.nts_model.specs.Refutation.Containing.{IsAliasFree, Truth, IsRootValue, IsOwnValue, IsInputValue, AreInputValues, IsAnswerValue, AreAnswerValues, ContainsSolution}
use Rattle.nts_model.proofs.Tables.Solving.{NamesAll-more}
use Rattle.nts_theory.specs.Telling.{SaysNothing, IsIdentityAnswer, IsLeafOfKind, AreTermsOfKinds}

-- in an input's kinds a placeholder is one of the root, named by its place
abbrev pub IsNumberedKind : ℕ → PositionKind → Type 0
IsNumberedKind b (placeholder s u n) = (u ≡ 0) × (n ≡ b)
IsNumberedKind b k = Unit {0}

abbrev pub AreNumberedKinds : ℕ → List PositionKind → Type 0
AreNumberedKinds b [] = Unit {0}
AreNumberedKinds b (k ∷ ks) = IsNumberedKind b k × AreNumberedKinds (suc b) ks

root_own : (u : ℕ) (k : VariableKind) (t : Tree) → IsRootValue k t → IsOwnValue u k t
root_own u k t h = record { value = h.value; named = NamesAll-more leaf_level 0 u t (omega arith) h.named }

-- a kind that says as little as another one: a variable of the same kind, or the same placeholder
abbrev pub AgreesWith : PositionKind → PositionKind → Type 0
AgreesWith (type_variable u r) (type_variable v s) = Unit {0}
AgreesWith integer_variable integer_variable = Unit {0}
AgreesWith float_variable float_variable = Unit {0}
AgreesWith (const_variable u) (const_variable v) = Unit {0}
AgreesWith (region_variable u) (region_variable v) = Unit {0}
AgreesWith (placeholder s u n) l = l ≡ placeholder s u n
AgreesWith k l = ⊥

abbrev pub AllAgree : List PositionKind → List PositionKind → Type 0
AllAgree [] [] = Unit {0}
AllAgree (k ∷ ks) (l ∷ ls) = AgreesWith k l × AllAgree ks ls
AllAgree ks ls = ⊥

own_agrees : (vs : List Tree) (b : ℕ) (k l : PositionKind) (t : Tree) → IsNumberedKind b k → AgreesWith k l → t ≡ get_or vs b empty → IsInputValue k t → IsAnswerValue vs l t
own_agrees vs b (type_variable u r) (type_variable v s) t n a e h = root_own v kind.Ty t h
own_agrees vs b integer_variable integer_variable t n a e h = root_own 0 kind.Int t h
own_agrees vs b float_variable float_variable t n a e h = root_own 0 kind.Float t h
own_agrees vs b (const_variable u) (const_variable v) t n a e h = root_own v kind.Const t h
own_agrees vs b (region_variable u) (region_variable v) t n a e h = root_own v kind.Region t h
own_agrees vs b (placeholder s u m) l t n a e h = subst (λ z. IsAnswerValue vs z t) (sym a) (by_universe s u m n)
  where
    by_universe : (s : Sort) (u m : ℕ) → IsNumberedKind b (placeholder s u m) → IsAnswerValue vs (placeholder s u m) t
    by_universe s zero m n = rw (n.1) e
    by_universe s (suc u) m n = absurd (let z : suc u ≡ 0 = n.0 in cc z)
own_agrees vs b k l t n a e h = absurd a

all_agree : (vs : List Tree) (b : ℕ) (ks ls : List PositionKind) (ts : List Tree) → AreNumberedKinds b ks → AllAgree ks ls → ((i j : ℕ) → j ≡ b + i → get_or ts i empty ≡ get_or vs j empty) → AreInputValues ks ts → AreAnswerValues vs ls ts
all_agree vs b [] [] [] n a e h = tt
all_agree vs b [] [] (t ∷ ts) n a e h = absurd h
all_agree vs b [] (l ∷ ls) ts n a e h = absurd a
all_agree vs b (k ∷ ks) [] ts n a e h = absurd a
all_agree vs b (k ∷ ks) (l ∷ ls) [] n a e h = absurd h
all_agree vs b (k ∷ ks) (l ∷ ls) (t ∷ ts) n a e h = (
  own_agrees vs b k l t n.0 a.0 (e 0 b (omega arith)) h.0,
  all_agree vs (suc b) ks ls ts n.1 a.1 (λ i j q. e (suc i) j (omega (arith, q))) h.1,
)

-- kinds say as little as they do themselves
pub agree_themselves : (ks : List PositionKind) → AllAgree ks ks
agree_themselves [] = tt
agree_themselves (type_variable u r ∷ ks) = (tt, agree_themselves ks)
agree_themselves (integer_variable ∷ ks) = (tt, agree_themselves ks)
agree_themselves (float_variable ∷ ks) = (tt, agree_themselves ks)
agree_themselves (const_variable u ∷ ks) = (tt, agree_themselves ks)
agree_themselves (region_variable u ∷ ks) = (tt, agree_themselves ks)
agree_themselves (placeholder s u n ∷ ks) = (refl, agree_themselves ks)

-- two kinds of positions for which one leaf may stand agree
abbrev variable_kind_of : Leaf → Option VariableKind
variable_kind_of (leaf.Variable k n) = Some k
variable_kind_of l = None

abbrev kind_code : PositionKind → Option VariableKind
kind_code (type_variable u r) = Some kind.Ty
kind_code integer_variable = Some kind.Int
kind_code float_variable = Some kind.Float
kind_code (const_variable u) = Some kind.Const
kind_code (region_variable u) = Some kind.Region
kind_code (placeholder s u n) = None

placeholder_code : (u : ℕ) (s : Sort) (n : ℕ) → variable_kind_of (placeholder_in u s n) ≡ None
placeholder_code u sort.Ty n = refl
placeholder_code u sort.Const n = refl
placeholder_code u sort.Region n = refl

leaf_code : (k : PositionKind) (l : Leaf) → IsLeafOfKind k l → variable_kind_of l ≡ kind_code k
leaf_code (type_variable u r) l h = ap variable_kind_of h.1
leaf_code integer_variable l h = ap variable_kind_of h.1
leaf_code float_variable l h = ap variable_kind_of h.1
leaf_code (const_variable u) l h = ap variable_kind_of h.1
leaf_code (region_variable u) l h = ap variable_kind_of h.1
leaf_code (placeholder s u n) l h = ap variable_kind_of h ∙ placeholder_code u s n

one_placeholder : (u : ℕ) (s : Sort) (n v : ℕ) (r : Sort) (m : ℕ) → placeholder_in u s n ≡ placeholder_in v r m → placeholder r v m ≡ placeholder s u n
one_placeholder u sort.Ty n v sort.Ty m e = cc e
one_placeholder u sort.Ty n v sort.Const m e = cc e
one_placeholder u sort.Ty n v sort.Region m e = cc e
one_placeholder u sort.Const n v sort.Ty m e = cc e
one_placeholder u sort.Const n v sort.Const m e = cc e
one_placeholder u sort.Const n v sort.Region m e = cc e
one_placeholder u sort.Region n v sort.Ty m e = cc e
one_placeholder u sort.Region n v sort.Const m e = cc e
one_placeholder u sort.Region n v sort.Region m e = cc e

code_agrees : (k l : PositionKind) (x : Leaf) → IsLeafOfKind k x → IsLeafOfKind l x → kind_code k ≡ kind_code l → AgreesWith k l
code_agrees (type_variable u r) (type_variable v s) x h i e = tt
code_agrees integer_variable integer_variable x h i e = tt
code_agrees float_variable float_variable x h i e = tt
code_agrees (const_variable u) (const_variable v) x h i e = tt
code_agrees (region_variable u) (region_variable v) x h i e = tt
code_agrees (placeholder s u n) (placeholder r v m) x h i e = one_placeholder u s n v r m (sym h ∙ i)
code_agrees k l x h i e = cc e

one_leaf : (x y : Leaf) → Some (label.Leaf x) ≡ Some (label.Leaf y) → x ≡ y
one_leaf x y e = cc e

pub kinds_agree : (ks ls : List PositionKind) (ts : List Tree) → AreTermsOfKinds ks ts → AreTermsOfKinds ls ts → AllAgree ks ls
kinds_agree [] [] [] h i = tt
kinds_agree [] (l ∷ ls) [] h i = absurd i
kinds_agree (k ∷ ks) ls [] h i = absurd h
kinds_agree [] ls (t ∷ ts) h i = absurd h
kinds_agree (k ∷ ks) [] (t ∷ ts) h i = absurd i
kinds_agree (k ∷ ks) (l ∷ ls) (t ∷ ts) h i =
    let a = h.0 in
    let b = i.0 in
    let x = a.2.0 in
    let same : b.2.0 ≡ x = one_leaf b.2.0 x (sym (ap Some b.2.1) ∙ sym b.1 ∙ a.1 ∙ ap Some a.2.1) in
    let there : IsLeafOfKind l x = subst (IsLeafOfKind l) same b.2.2 in
    (code_agrees k l x a.2.2 there (sym (leaf_code k x a.2.2) ∙ leaf_code l x there), kinds_agree ks ls ts h.1 i.1)

pub terms_long : (ks : List PositionKind) (ts : List Tree) → AreTermsOfKinds ks ts → length ts ≡ length ks
terms_long [] [] h = refl
terms_long [] (t ∷ ts) h = absurd h
terms_long (k ∷ ks) [] h = absurd h
terms_long (k ∷ ks) (t ∷ ts) h = (let e = terms_long ks ts h.1 in omega (arith, e))

-- the values of an input: one for each kind
pub values_long : (ks : List PositionKind) (vs : List Tree) → AreInputValues ks vs → length vs ≡ length ks
values_long [] [] h = refl
values_long [] (v ∷ vs) h = absurd h
values_long (k ∷ ks) [] h = absurd h
values_long (k ∷ ks) (v ∷ vs) h = (let e = values_long ks vs h.1 in omega (arith, e))

-- positions in order, with values in their place
pub filled_each : (vs : List Tree) (b : ℕ) (xs ts : List Tree) → length xs ≡ length ts → ((i : ℕ) → i + 1 ≤ length xs → (s : Sort) × (get_or xs i empty ≡ position s (b + i)))
    → ((i j : ℕ) → j ≡ b + i → get_or ts i empty ≡ get_or vs j empty) → map (filled vs) xs ≡ ts
filled_each vs b [] [] l p e = refl
filled_each vs b [] (t ∷ ts) l p e = absurd (omega (arith, l))
filled_each vs b (x ∷ xs) [] l p e = absurd (omega (arith, l))
filled_each vs b (x ∷ xs) (t ∷ ts) l p e =
    let at = p 0 (omega arith) in
    let none : b + 0 ≡ b = omega arith in
    let here : x ≡ position at.0 b = at.1 ∙ ap (position at.0) none in
    let first : filled vs x ≡ t = ap (filled vs) here ∙ sym (e 0 b (omega arith)) in
    let rest : map (filled vs) xs ≡ ts = filled_each vs (suc b) xs ts (omega (arith, l)) (λ i q. (let r = p (suc i) (omega (arith, q)) in let next : b + suc i ≡ suc b + i = omega arith in (r.0, r.1 ∙ ap (position r.0) next))) (λ i j q. e (suc i) j (omega (arith, q))) in
    λ i. first i ∷ rest i

-- the positions of kinds
pub positions_long : (b : ℕ) (ks : List PositionKind) → length (positions_from b ks) ≡ length ks
positions_long b [] = refl
positions_long b (k ∷ ks) = (let e = positions_long (suc b) ks in omega (arith, e))

pub position_at : (b : ℕ) (ks : List PositionKind) (i : ℕ) → i + 1 ≤ length (positions_from b ks) → (s : Sort) × (get_or (positions_from b ks) i empty ≡ position s (b + i))
position_at b [] i l = absurd (omega (arith, l))
position_at b (k ∷ ks) zero l = (let none : b ≡ b + 0 = omega arith in (sort_at k, ap (position (sort_at k)) none))
position_at b (k ∷ ks) (suc i) l =
    let r = position_at (suc b) ks i (omega (arith, l)) in
    let next : suc b + i ≡ b + suc i = omega arith in
    (r.0, r.1 ∙ ap (position r.0) next)

same_place : (vs : List Tree) (a b : ℕ) → b ≡ 0 + a → get_or vs a empty ≡ get_or vs b empty
same_place vs a b e = (let q : a ≡ b = omega (arith, e) in ap (λ z. get_or vs z empty) q)

-- an answer of which each value is its position, and whose kinds say as little as the input's, contains what values there are
pub identity_contains : (truth : Truth) (ks : List PositionKind) (r : Response) (vs : List Tree) → AreNumberedKinds 0 ks → IsIdentityAnswer r → (let x = r.findings in length x.values ≡ length ks) → AllAgree ks r.kinds → AreInputValues ks vs → ((v : Tree) → Among vs v → IsAliasFree v) → ContainsSolution truth r vs
identity_contains truth ks r vs n same long agree h free =
    let x = r.findings in
    record {
      own = vs;
      values = all_agree vs 0 ks r.kinds vs n agree (same_place vs) h;
      plain = free;
      equal = filled_each vs 0 x.values vs (long ∙ sym (values_long ks vs h)) (λ i l. (let p = same.values i l in let z : i ≡ 0 + i = omega arith in (p.0, p.1 ∙ ap (position p.0) z))) (same_place vs);
      met = rw (same.constraints) tt;
    }

-- what says nothing changes nothing
pub nothing_is_identity : (ks : List PositionKind) (r : Response) → SaysNothing ks r → IsIdentityAnswer r
nothing_is_identity ks r e =
    subst IsIdentityAnswer (sym e)
    (record { values = λ i l. (let p = position_at 0 ks i l in let z : 0 + i ≡ i = omega arith in (p.0, p.1 ∙ ap (position p.0) z)); constraints = refl; hidden = refl; open_goals = refl })

pub nothing_contains : (truth : Truth) (ks : List PositionKind) (r : Response) (vs : List Tree) → AreNumberedKinds 0 ks → SaysNothing ks r → AreInputValues ks vs → ((v : Tree) → Among vs v → IsAliasFree v) → ContainsSolution truth r vs
nothing_contains truth ks r vs n e h free =
    let values : (let x = r.findings in x.values ≡ positions_from 0 ks) = ap (λ (z : Response). (let y = z.findings in y.values)) e in
    let kinds : r.kinds ≡ ks = ap (λ (z : Response). z.kinds) e in
    identity_contains truth ks r vs n (nothing_is_identity ks r e) (ap (length {A = Tree}) values ∙ positions_long 0 ks) (subst (AllAgree ks) (sym kinds) (agree_themselves ks)) h free
