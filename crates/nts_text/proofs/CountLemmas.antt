-- How the numbers of words at each level of brackets grow by one token.
use Rattle.std.proofs.Common.{◌≡◌, ℕ, ◌+◌, ◌-◌, ◌==◌, ◌<◌, ◌≤◌, ◌&&◌, if◌then◌else◌, not, is_none, length, zero, suc, Bool, true, false, List, [], ◌∷◌, ◌++◌, Option, None, Some, unwrap_or, option_to_list, reverse, get_or, refl, sym, ap, subst, ◌∙◌, arith}
use Rattle.std.proofs.lemmas.List.{reverse-append, reverse-reverse, length-append}
use Rattle.nts_text.specs.declared.predicates.Role.{Role}
use Rattle.nts_text.specs.declared.predicates.Role.TheVariants as roles
use Rattle.nts_text.specs.Predicates.{is_open, is_close, is_word, is_name, is_equals, is_sign, is_forest, is_many, may_stand, binding_behind, side_behind, depth_behind, continues, trees_before, trees_at, nodes_behind, word_node, with_sign, behind_sign, sign_before, next_sign, taken_sign, sign_behind, kind_before, arguments_behind, open_brackets, is_binding, role_before}
use Rattle.nts_text.specs.declared.predicates.Side.{Side}
use Rattle.nts_text.specs.declared.predicates.Wanted.{Wanted}
use Rattle.nts_text.specs.declared.predicates.Node.{Node}
use Rattle.nts_text.specs.declared.lexer.Token.{Token}
use Rattle.nts_text.specs.declared.lexer.TokenKind.{TokenKind}
use Rattle.nts_text.specs.declared.lexer.TokenKind.TheVariants.{Open, Close, Equals, Colon}

pub trees_at-open : (n : ℕ) (t : Token) (ts : List Token) → is_open t.kind ≡ true → trees_at n (t ∷ ts) ≡ trees_at (suc n) ts
trees_at-open zero t ts h = grind (arith, h)
trees_at-open (suc n) t ts h = grind (arith, h)

pub trees_at-other : (n : ℕ) (t : Token) (ts : List Token) → is_open t.kind ≡ false → is_close t.kind ≡ false → trees_at (suc n) (t ∷ ts) ≡ trees_at (suc n) ts
trees_at-other n t ts h k = grind (arith, h, k)

pub trees_at-token : (t : Token) (ts : List Token) → is_open t.kind ≡ false → is_close t.kind ≡ false → trees_at 0 (t ∷ ts) ≡ trees_before t.kind (trees_at 0 ts)
trees_at-token t ts h k = grind (arith, h, k)

-- the numbers at each level, the innermost first
abbrev pub AreCounts : List ℕ → List Token → Type 0
AreCounts counts ts = (n : ℕ) → get_or counts n 0 ≡ trees_at n ts

abbrev no_counts : List ℕ
no_counts = []

zeros_of : (n : ℕ) → get_or (0 ∷ no_counts) n 0 ≡ 0
zeros_of zero = refl
zeros_of (suc n) = refl

pub counts_open : (count : ℕ) (outer rest : List ℕ) (top : Option ℕ) (t : Token) (ts : List Token)
    → outer ≡ rest ++ option_to_list top → (top ≡ None → rest ≡ []) → is_open t.kind ≡ true
    → AreCounts (count ∷ reverse outer) ts → AreCounts (unwrap_or top 0 ∷ reverse rest) (t ∷ ts)
counts_open count outer rest (Some x) t ts e none opens counts = λ n.
    let whole : reverse outer ≡ x ∷ reverse rest = ap reverse e ∙ reverse-append rest (x ∷ []) in
    let at : get_or (count ∷ x ∷ reverse rest) (suc n) 0 ≡ trees_at (suc n) ts =
    subst (λ xs. get_or (count ∷ xs) (suc n) 0 ≡ trees_at (suc n) ts) whole (counts (suc n)) in
    at ∙ sym (trees_at-open n t ts opens)
counts_open count outer rest None t ts e none opens counts = λ n.
    let rest_is : rest ≡ [] = none refl in
    let outer_is : outer ≡ [] = e ∙ ap (λ xs. xs ++ []) rest_is in
    let at : get_or (count ∷ []) (suc n) 0 ≡ trees_at (suc n) ts =
    subst (λ xs. get_or (count ∷ reverse xs) (suc n) 0 ≡ trees_at (suc n) ts) outer_is (counts (suc n)) in
    subst (λ xs. get_or (0 ∷ reverse xs) n 0 ≡ trees_at n (t ∷ ts)) (sym rest_is) (zeros_of n ∙ at ∙ sym (trees_at-open n t ts opens))

pub close_no_open : (k : TokenKind) → is_close k ≡ true → is_open k ≡ false
close_no_open Open h = cc
close_no_open _ h = refl

pub counts_close : (count : ℕ) (outer new : List ℕ) (t : Token) (ts : List Token) → new ≡ outer ++ count ∷ [] → is_close t.kind ≡ true
    → AreCounts (count ∷ reverse outer) ts → AreCounts (0 ∷ reverse new) (t ∷ ts)
counts_close count outer new t ts e closes counts = λ n. by n
  where
    opens : is_open t.kind ≡ false
    opens = close_no_open t.kind closes

    by : (n : ℕ) → get_or (0 ∷ reverse new) n 0 ≡ trees_at n (t ∷ ts)
    by zero = grind (arith, opens, closes)
    by (suc n) =
        let whole : reverse new ≡ count ∷ reverse outer = ap reverse e ∙ reverse-append outer (count ∷ []) in
        ap (λ xs. get_or xs n 0) whole ∙ counts n ∙ grind (arith, opens, closes)

pub counts_token : (count : ℕ) (outer : List ℕ) (t : Token) (ts : List Token)
    → is_open t.kind ≡ false → is_close t.kind ≡ false
    → AreCounts (count ∷ outer) ts → AreCounts (trees_before t.kind count ∷ outer) (t ∷ ts)
counts_token count outer t ts opens closes counts = λ n. by n
  where
    by : (n : ℕ) → get_or (trees_before t.kind count ∷ outer) n 0 ≡ trees_at n (t ∷ ts)
    by zero = ap (trees_before t.kind) (counts 0) ∙ sym (trees_at-token t ts opens closes)
    by (suc n) = counts (suc n) ∙ sym (trees_at-other n t ts opens closes)

pub nodes_behind-word : (b : TokenKind) (t : Token) (ts : List Token) → is_word t.kind ≡ true → nodes_behind b (t ∷ ts) ≡ behind_sign (word_node b t ts) (sign_behind ts) ++ nodes_behind t.kind ts
nodes_behind-word b t ts h = ap (λ w. if w then behind_sign (word_node b t ts) (sign_behind ts) ++ nodes_behind t.kind ts else nodes_behind t.kind ts) h

pub nodes_behind-other : (b : TokenKind) (t : Token) (ts : List Token) → is_word t.kind ≡ false → nodes_behind b (t ∷ ts) ≡ nodes_behind t.kind ts
nodes_behind-other b t ts h = ap (λ w. if w then behind_sign (word_node b t ts) (sign_behind ts) ++ nodes_behind t.kind ts else nodes_behind t.kind ts) h

-- what stands in front of the token behind another one
pub kind_before-behind : (ts : List Token) (n : ℕ) (d : Token) → n < length ts → kind_before ts (suc n) ≡ (get_or ts n d).kind
kind_before-behind [] n d h = absurd (omega (arith, h))
kind_before-behind (t ∷ ts) zero d h = refl
kind_before-behind (t ∷ ts) (suc n) d h = kind_before-behind ts n d (omega (arith, h))

pub arguments_behind-open : (t : Token) (ts : List Token) → is_open t.kind ≡ true → arguments_behind (t ∷ ts) ≡ trees_at 0 ts
arguments_behind-open t ts h = grind (arith, h)

pub arguments_behind-other : (t : Token) (ts : List Token) → is_open t.kind ≡ false → arguments_behind (t ∷ ts) ≡ 0
arguments_behind-other t ts h = grind (arith, h)

pub open_brackets-open : (t : Token) (ts : List Token) → is_open t.kind ≡ true → open_brackets (t ∷ ts) ≡ open_brackets ts - 1
open_brackets-open t ts h = grind (arith, h)

pub open_brackets-other : (t : Token) (ts : List Token) → is_open t.kind ≡ false → is_close t.kind ≡ false → open_brackets (t ∷ ts) ≡ open_brackets ts
open_brackets-other t ts h k = grind (arith, h, k)

pub open_brackets-close : (t : Token) (ts : List Token) → is_close t.kind ≡ true → open_brackets (t ∷ ts) ≡ open_brackets ts + 1
open_brackets-close t ts h = grind (arith, close_no_open t.kind h, h)

-- one bracket less is open
pub fewer_open : (outer rest : List ℕ) (top : Option ℕ) (n : ℕ) → outer ≡ rest ++ option_to_list top → (top ≡ None → rest ≡ []) → length outer ≡ n → length rest ≡ n - 1
fewer_open outer rest (Some x) n e none h = omega (arith, h, ap length e ∙ length-append rest (x ∷ []))
fewer_open outer rest None n e none h =
    let counted : length outer ≡ length rest + 0 = ap length e ∙ length-append rest [] in
    omega (arith, h, counted, ap length (none refl))

pub word_no_sign : (k : TokenKind) → is_word k ≡ true → is_sign k ≡ false
word_no_sign Colon h = cc
word_no_sign Equals h = cc
word_no_sign _ h = refl

abbrev role_with : TokenKind → TokenKind → Bool → ℕ → Option Token → Role
role_with b k binding depth sign =
    if binding then roles.Bound else (if is_name k && not (is_equals b) && (depth == 0) && is_none sign then roles.Trait else roles.Argument)

-- the role of a word, where this is known of what stands before and behind it
pub role_of-behind : (b c k : TokenKind) (binding : Bool) (depth : ℕ) (sign : Option Token) (ts : List Token) (r : Role) → r ≡ role_with b k binding depth sign
    → b ≡ c → binding ≡ is_binding ts → depth ≡ open_brackets ts → sign ≡ next_sign ts → r ≡ role_before c k ts
role_of-behind b c k binding depth sign ts r h same e f g =
    h ∙ ap (λ x. role_with x k binding depth sign) same ∙ ap (λ x. role_with c k x depth sign) e ∙ ap (λ d. role_with c k (is_binding ts) d sign) f
    ∙ ap (role_with c k (is_binding ts) (open_brackets ts)) g

-- the sign of a word, and the next one, where this is known of what stands behind
pub taken-behind : (depth : ℕ) (sign taken : Option Token) (ts : List Token) → taken ≡ taken_sign depth sign → depth ≡ open_brackets ts → sign ≡ next_sign ts → taken ≡ sign_behind ts
taken-behind depth sign taken ts h f g = h ∙ ap (λ d. taken_sign d sign) f ∙ ap (taken_sign (open_brackets ts)) g

pub sign-behind : (t : Token) (depth trees : ℕ) (old new : Option Token) (ts : List Token) → new ≡ sign_before t depth trees old
    → depth ≡ open_brackets ts → trees ≡ trees_at 0 ts → old ≡ next_sign ts → new ≡ next_sign (t ∷ ts)
sign-behind t depth trees old new ts h e f g =
    h ∙ ap (λ d. sign_before t d trees old) e ∙ ap (λ n. sign_before t (open_brackets ts) n old) f
    ∙ ap (sign_before t (open_brackets ts) (trees_at 0 ts)) g

-- a sign whose left side is still to come joins two trees
abbrev pub pending : Option Token → ℕ
pending None = 0
pending (Some t) = 1

abbrev pub IsForestUpTo : ℕ → List Node → Type 0
IsForestUpTo n ns = (k : ℕ) → k ≤ n → is_forest k ns ≡ true

forest_signed : (trees : ℕ) (b : Bool) (c : Token) (n : Node) (ns : List Node) → IsForestUpTo (trees + n.arguments + 1) ns → IsForestUpTo (trees + 1 + 0) (with_sign b n c ++ ns)
forest_signed trees true c n ns h k le = h (k - 1 + (n.arguments + 1)) (omega (arith, le))
forest_signed trees false c n ns h k le = h (k - 1 + 2 - 1 + n.arguments) (omega (arith, le))

forest_word_if : (trees : ℕ) (outside : Bool) (sign : Option Token) (n : Node) (ns : List Node) → IsForestUpTo (trees + n.arguments + pending sign) ns
    → IsForestUpTo (trees + 1 + pending (if outside then None else sign)) (behind_sign n (if outside then sign else None) ++ ns)
forest_word_if trees true None n ns h k le = h (k - 1 + n.arguments) (omega (arith, le))
forest_word_if trees true (Some c) n ns h k le = forest_signed trees (is_equals c.kind) c n ns h k le
forest_word_if trees false sign n ns h k le = h (k - 1 + n.arguments) (omega (arith, le))

abbrev left_sign : Token → ℕ → ℕ → Option Token → Bool → Bool → Option Token
left_sign t depth trees sign is_a_sign is_a_word =
    if is_a_sign then (if trees == 0 then None else Some t) else (if is_a_word && (depth == 0) then None else sign)

-- the next sign before a word
pub sign_before-word : (t : Token) (depth trees : ℕ) (sign : Option Token) → is_word t.kind ≡ true → sign_before t depth trees sign ≡ (if depth == 0 then None else sign)
sign_before-word t depth trees sign h =
    ap (λ b. left_sign t depth trees sign b (is_word t.kind)) (word_no_sign t.kind h) ∙ ap (left_sign t depth trees sign false) h

-- a word before trees
pub forest_word : (trees : ℕ) (t : Token) (depth count : ℕ) (sign : Option Token) (n : Node) (ns : List Node) → is_word t.kind ≡ true → IsForestUpTo (trees + n.arguments + pending sign) ns
    → IsForestUpTo (trees + 1 + pending (sign_before t depth count sign)) (behind_sign n (taken_sign depth sign) ++ ns)
forest_word trees t depth count sign n ns w h =
    subst (λ c. IsForestUpTo (trees + 1 + pending c) (behind_sign n (taken_sign depth sign) ++ ns)) (sym (sign_before-word t depth count sign w))
    (forest_word_if trees (depth == 0) sign n ns h)

small_signed : (trees arguments : ℕ) (b : Bool) (c : Token) (n : Node) (len : ℕ) → trees + arguments + 1 ≤ len → trees + 1 + 0 ≤ len + length (with_sign b n c)
small_signed trees arguments true c n len h = omega (arith, h)
small_signed trees arguments false c n len h = omega (arith, h)

small_word_if : (trees arguments : ℕ) (outside : Bool) (sign : Option Token) (n : Node) (len : ℕ) → trees + arguments + pending sign ≤ len
    → trees + 1 + pending (if outside then None else sign) ≤ len + length (behind_sign n (if outside then sign else None))
small_word_if trees arguments true None n len h = omega (arith, h)
small_word_if trees arguments true (Some c) n len h = small_signed trees arguments (is_equals c.kind) c n len h
small_word_if trees arguments false sign n len h = omega (arith, h)

-- there are no more trees than nodes
pub small_word : (trees arguments : ℕ) (t : Token) (depth count : ℕ) (sign : Option Token) (n : Node) (len : ℕ) → is_word t.kind ≡ true → trees + arguments + pending sign ≤ len
    → trees + 1 + pending (sign_before t depth count sign) ≤ len + length (behind_sign n (taken_sign depth sign))
small_word trees arguments t depth count sign n len w h =
    subst (λ c. trees + 1 + pending c ≤ len + length (behind_sign n (taken_sign depth sign))) (sym (sign_before-word t depth count sign w))
    (small_word_if trees arguments (depth == 0) sign n len h)

fewer_if : (t : Token) (count : ℕ) (sign : Option Token) (b none : Bool) → none ≡ (count == 0) → (if b then count - 1 else count) + pending (if b then (if none then None else Some t) else sign) ≤ count + pending sign
fewer_if t count sign true true h = omega (arith)
fewer_if t count sign true false h = grind (arith, h)
fewer_if t count sign false none h = omega (arith)

-- what is no word adds no tree
pub fewer_trees : (t : Token) (depth count : ℕ) (sign : Option Token) → is_word t.kind ≡ false → trees_before t.kind count + pending (sign_before t depth count sign) ≤ count + pending sign
fewer_trees t depth count sign h =
    subst (λ w. (if w then suc count else (if is_sign t.kind then count - 1 else count)) + pending (left_sign t depth count sign (is_sign t.kind) w) ≤ count + pending sign) (sym h)
    (fewer_if t count sign (is_sign t.kind) (count == 0) refl)

pub fewer_before : (t : Token) (depth count new_count : ℕ) (sign new_sign : Option Token) → is_word t.kind ≡ false → new_count ≡ trees_before t.kind count → new_sign ≡ sign_before t depth count sign
    → new_count + pending new_sign ≤ count + pending sign
fewer_before t depth count new_count sign new_sign h e f = omega (arith, e, ap pending f, fewer_trees t depth count sign h)

pushed_nodes : (n : Node) (taken : Option Token) (old new : List Node) → new ≡ old ++ reverse (behind_sign n taken) → reverse new ≡ behind_sign n taken ++ reverse old
pushed_nodes n taken old new e =
    ap reverse e ∙ reverse-append old (reverse (behind_sign n taken)) ∙ ap (λ xs. xs ++ reverse old) (reverse-reverse (behind_sign n taken))

-- the nodes from a word on
pub nodes_before : (b : TokenKind) (t : Token) (arguments : ℕ) (role : Role) (taken : Option Token) (old new : List Node) (ts : List Token)
    → is_word t.kind ≡ true → arguments ≡ arguments_behind ts → role ≡ role_before b t.kind ts → taken ≡ sign_behind ts → reverse old ≡ nodes_behind t.kind ts
    → new ≡ old ++ reverse (behind_sign (record { token = t; arguments = arguments; role = role }) taken) → reverse new ≡ nodes_behind b (t ∷ ts)
nodes_before b t arguments role taken old new ts word a r c h pushed =
    pushed_nodes (record { token = t; arguments = arguments; role = role }) taken old new pushed
    ∙ ap (λ xs. behind_sign (record { token = t; arguments = arguments; role = role }) taken ++ xs) h
    ∙ ap (λ n. behind_sign (record { token = t; arguments = n; role = role }) taken ++ nodes_behind t.kind ts) a
    ∙ ap (λ x. behind_sign (record { token = t; arguments = arguments_behind ts; role = x }) taken ++ nodes_behind t.kind ts) r
    ∙ ap (λ x. behind_sign (word_node b t ts) x ++ nodes_behind t.kind ts) c ∙ sym (nodes_behind-word b t ts word)

pub forest_before : (outer count depth new_count : ℕ) (t : Token) (n : Node) (sign taken new_sign : Option Token) (old new : List Node)
    → is_word t.kind ≡ true → new_count ≡ trees_before t.kind count → taken ≡ taken_sign depth sign → new_sign ≡ sign_before t depth count sign
    → new ≡ old ++ reverse (behind_sign n taken) → IsForestUpTo (outer + count + n.arguments + pending sign) (reverse old)
    → IsForestUpTo (outer + new_count + 0 + pending new_sign) (reverse new)
forest_before outer count depth new_count t n sign taken new_sign old new word e f g pushed h k le =
    let counted : new_count ≡ suc count = e ∙ ap (λ b. if b then suc count else (if is_sign t.kind then count - 1 else count)) word in
    ap (is_forest k) (pushed_nodes n taken old new pushed) ∙ ap (λ o. is_forest k (behind_sign n o ++ reverse old)) f
    ∙ forest_word (outer + count) t depth count sign n (reverse old) word h k (omega (arith, le, counted, ap pending g))

pub small_before : (outer count arguments depth new_count : ℕ) (t : Token) (n : Node) (sign taken new_sign : Option Token) (len new_len : ℕ)
    → is_word t.kind ≡ true → new_count ≡ trees_before t.kind count → taken ≡ taken_sign depth sign → new_sign ≡ sign_before t depth count sign
    → new_len ≡ len + length (behind_sign n taken) → outer + count + arguments + pending sign ≤ len
    → outer + new_count + 0 + pending new_sign ≤ new_len
small_before outer count arguments depth new_count t n sign taken new_sign len new_len word e f g pushed h =
    let counted : new_count ≡ suc count = e ∙ ap (λ b. if b then suc count else (if is_sign t.kind then count - 1 else count)) word in
    omega (arith, counted, ap pending g, pushed, ap (λ o. length (behind_sign n o)) f, small_word (outer + count) arguments t depth count sign n len word h)

pub is_open_false : (k : TokenKind) → (k ≡ Open → ⊥) → is_open k ≡ false
is_open_false Open h = absurd (h refl)
is_open_false _ h = refl

pub is_close_false : (k : TokenKind) → (k ≡ Close → ⊥) → is_close k ≡ false
is_close_false Close h = absurd (h refl)
is_close_false _ h = refl

-- a token that may stand where it does, and those behind it
pub continues-step : (w : Wanted) (binding : Bool) (s : Side) (depth : ℕ) (before : TokenKind) (t : Token) (ts : List Token) (new_binding : Bool) (new_side : Side) (new_depth : ℕ)
    → may_stand (is_many w) binding s depth before t.kind ≡ true → new_binding ≡ binding_behind binding t.kind → new_side ≡ side_behind w s depth t.kind → new_depth ≡ depth_behind depth t.kind
    → continues w new_binding new_side new_depth t.kind ts ≡ continues w binding s depth before (t ∷ ts)
continues-step w binding s depth before t ts new_binding new_side new_depth h e f g =
    ap (λ b. continues w b new_side new_depth t.kind ts) e
    ∙ ap (λ x. continues w (binding_behind binding t.kind) x new_depth t.kind ts) f
    ∙ ap (λ d. continues w (binding_behind binding t.kind) (side_behind w s depth t.kind) d t.kind ts) g
    ∙ sym (ap (λ b. b && continues w (binding_behind binding t.kind) (side_behind w s depth t.kind) (depth_behind depth t.kind) t.kind ts) h)

pub depth_behind-other : (depth : ℕ) (k : TokenKind) → (k ≡ Open → ⊥) → (k ≡ Close → ⊥) → depth_behind depth k ≡ depth
depth_behind-other depth Open no_open no_close = absurd (no_open refl)
depth_behind-other depth Close no_open no_close = absurd (no_close refl)
depth_behind-other depth _ no_open no_close = refl
