-- The words of nodes are those of the tokens.
use Rattle.std.proofs.Common.{◌≡◌, Bool, true, false, ◌==◌, ◌&&◌, if◌then◌else◌, List, [], ◌∷◌, ◌++◌, Option, None, Some, map, filter, get_or, All, refl, ap, ◌∙◌}
use Rattle.std.specs.Prelude.{IfSome, Contains}
use Rattle.std.proofs.lemmas.List.{get_or_default}
use Rattle.std.proofs.lemmas.List.Elements.{All-nil, All-cons, All-append, All-head, All-tail}
use Rattle.nts_text.specs.Predicates.{is_word, is_equals, is_sign, trees_at, open_brackets, next_sign, sign_behind, with_sign, behind_sign, normalizing, outliving, word_node, nodes_behind, written_nodes}
use Rattle.nts_text.specs.declared.lexer.Token.{Token}
use Rattle.nts_text.specs.declared.lexer.TokenKind.{TokenKind}
use Rattle.nts_text.specs.declared.lexer.TokenKind.TheVariants.{Comma, Colon, Equals}
use Rattle.nts_text.specs.declared.predicates.Node.{Node}

-- what holds of each sign among the tokens holds of the next one
chosen : (a b c : Bool) (t : Token) (behind : Option Token) (P : Token → Type 0) → (a ≡ true → P t) → IfSome behind P
    → IfSome (if a then (if b then None else Some t) else (if c then None else behind)) P
chosen true true c t behind P h k = tt
chosen true false c t behind P h k = h refl
chosen false b true t behind P h k = tt
chosen false b false t behind P h k = k

is_next : (P : Token → Type 0) (ts : List Token) → All (λ t. is_sign t.kind ≡ true → P t) ts → IfSome (next_sign ts) P
is_next P [] all = tt
is_next P (t ∷ ts) all =
    chosen (is_sign t.kind) (trees_at 0 ts == 0) (is_word t.kind && (open_brackets ts == 0)) t (next_sign ts) P (All-head (λ t. is_sign t.kind ≡ true → P t) t ts all)
    (is_next P ts (All-tail (λ t. is_sign t.kind ≡ true → P t) t ts all))

if_taken : (b : Bool) (o : Option Token) (P : Token → Type 0) → IfSome o P → IfSome (if b then o else None) P
if_taken true o P h = h
if_taken false o P h = tt

is_behind : (P : Token → Type 0) (ts : List Token) → All (λ t. is_sign t.kind ≡ true → P t) ts → IfSome (sign_behind ts) P
is_behind P ts all = if_taken (open_brackets ts == 0) (next_sign ts) P (is_next P ts all)

-- what holds of each token holds of each node's
with_token : (P : Token → Type 0) (b : Bool) (n : Node) (c : Token) → P n.token → P c → All (λ m. P m.token) (with_sign b n c)
with_token P true n c h k = All-cons (λ m. P m.token) (normalizing n) [] h (All-nil (λ m. P m.token))
with_token P false n c h k = All-cons (λ m. P m.token) (outliving n c) (n ∷ []) k (All-cons (λ m. P m.token) n [] h (All-nil (λ m. P m.token)))

with_taken : (P : Token → Type 0) (n : Node) (o : Option Token) → P n.token → IfSome o P → All (λ m. P m.token) (behind_sign n o)
with_taken P n None h k = All-cons (λ m. P m.token) n [] h (All-nil (λ m. P m.token))
with_taken P n (Some c) h k = with_token P (is_equals c.kind) n c h k

of_either : (P : Node → Type 0) (b : Bool) (xs ys : List Node) → All P xs → All P ys → All P (if b then xs ++ ys else ys)
of_either P true xs ys h k = All-append P xs ys h k
of_either P false xs ys h k = k

of_nodes_behind : (P : Token → Type 0) (b : TokenKind) (ts : List Token) → All P ts → All (λ n. P n.token) (nodes_behind b ts)
of_nodes_behind P b [] all = All-nil (λ n. P n.token)
of_nodes_behind P b (t ∷ ts) all =
    let rest = All-tail P t ts all in
    of_either (λ n. P n.token) (is_word t.kind) (behind_sign (word_node b t ts) (sign_behind ts)) (nodes_behind t.kind ts)
    (with_taken P (word_node b t ts) (sign_behind ts) (All-head P t ts all) (is_behind P ts (λ k d h is. rest k d h)))
    (of_nodes_behind P t.kind ts rest)

pub of_nodes : (P : Token → Type 0) (ts : List Token) → All P ts → All (λ n. P n.token) (written_nodes ts)
of_nodes P ts all = of_nodes_behind P Comma ts all

-- each node's token is one of the tokens
pub tokens_of_nodes : (ts : List Token) → All (λ n. Contains ts n.token) (written_nodes ts)
tokens_of_nodes ts = of_nodes (Contains ts) ts (λ k d h. (k, h, get_or_default ts k (get_or ts k d) d h))

sign_no_word : (k : TokenKind) → is_sign k ≡ true → is_word k ≡ false
sign_no_word Colon h = refl
sign_no_word Equals h = refl
sign_no_word _ h = cc

-- a word's node adds the word, and the sign none
word_kept : (m n : Node) (ns : List Node) → m.token ≡ n.token → is_word n.token.kind ≡ true
    → filter (λ t. is_word t.kind) (map (λ m. m.token) (m ∷ ns)) ≡ n.token ∷ filter (λ t. is_word t.kind) (map (λ m. m.token) ns)
word_kept m n ns same w =
    ap (λ x. filter (λ t. is_word t.kind) (x ∷ map (λ m. m.token) ns)) same
    ∙ ap (λ b. if b then n.token ∷ filter (λ t. is_word t.kind) (map (λ m. m.token) ns) else filter (λ t. is_word t.kind) (map (λ m. m.token) ns)) w

filtered_by_sign : (b : Bool) (n : Node) (c : Token) (ns : List Node) → is_word n.token.kind ≡ true → is_sign c.kind ≡ true
    → filter (λ t. is_word t.kind) (map (λ m. m.token) (with_sign b n c ++ ns)) ≡ n.token ∷ filter (λ t. is_word t.kind) (map (λ m. m.token) ns)
filtered_by_sign true n c ns w h = word_kept (normalizing n) n ns refl w
filtered_by_sign false n c ns w h =
    ap (λ b. if b then c ∷ filter (λ t. is_word t.kind) (n.token ∷ map (λ m. m.token) ns) else filter (λ t. is_word t.kind) (n.token ∷ map (λ m. m.token) ns)) (sign_no_word c.kind h)
    ∙ word_kept n n ns refl w

filtered : (n : Node) (o : Option Token) (ns : List Node) → is_word n.token.kind ≡ true → IfSome o (λ c. is_sign c.kind ≡ true)
    → filter (λ t. is_word t.kind) (map (λ m. m.token) (behind_sign n o ++ ns)) ≡ n.token ∷ filter (λ t. is_word t.kind) (map (λ m. m.token) ns)
filtered n None ns w h = word_kept n n ns refl w
filtered n (Some c) ns w h = filtered_by_sign (is_equals c.kind) n c ns w h

filtered_by : (k : TokenKind) (t : Token) (ts : List Token) (b : Bool) → is_word t.kind ≡ b
    → filter (λ u. is_word u.kind) (map (λ n. n.token) (nodes_behind t.kind ts)) ≡ filter (λ u. is_word u.kind) ts
    → filter (λ u. is_word u.kind) (map (λ n. n.token) (if b then behind_sign (word_node k t ts) (sign_behind ts) ++ nodes_behind t.kind ts else nodes_behind t.kind ts))
    ≡ (if b then t ∷ filter (λ u. is_word u.kind) ts else filter (λ u. is_word u.kind) ts)
filtered_by k t ts true h e =
    filtered (word_node k t ts) (sign_behind ts) (nodes_behind t.kind ts) h (is_behind (λ c. is_sign c.kind ≡ true) ts (λ k d l is. is)) ∙ ap (λ xs. t ∷ xs) e
filtered_by k t ts false h e = e

words_behind : (b : TokenKind) (ts : List Token) → filter (λ u. is_word u.kind) (map (λ n. n.token) (nodes_behind b ts)) ≡ filter (λ u. is_word u.kind) ts
words_behind b [] = refl
words_behind b (t ∷ ts) = filtered_by b t ts (is_word t.kind) refl (words_behind t.kind ts)

-- the words of the nodes are the words, in order
pub words_of_nodes : (ts : List Token) → filter (λ u. is_word u.kind) (map (λ n. n.token) (written_nodes ts)) ≡ filter (λ u. is_word u.kind) ts
words_of_nodes ts = words_behind Comma ts
