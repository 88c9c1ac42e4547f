-- How predicates are written, and what is kept of them.
use Rattle.std.specs.Prelude.{ℕ, ◌+◌, ◌-◌, ◌==◌, Bool, true, false, not, ◌||◌, ◌&&◌, nat_lt, zero, suc, if◌then◌else◌, List, [], ◌∷◌, ◌++◌, Option, None, Some, is_none, slice_get}
use Rattle.std.specs.Option.{option_map_or}
use Rattle.nts_text.specs.declared.lexer.TokenKind.{TokenKind}
use Rattle.nts_text.specs.declared.lexer.TokenKind.TheVariants.{Name, TypeVariable, TypeParam, RegionVariable, RegionParam, Static, Open, Close, Comma, Equals, Colon, Greater, For}
use Rattle.nts_text.specs.declared.lexer.Token.{Token}
use Rattle.nts_text.specs.declared.predicates.Node.{Node}
use Rattle.nts_text.specs.declared.predicates.Role.{Role}
use Rattle.nts_text.specs.declared.predicates.Role.TheVariants as roles
use Rattle.nts_text.specs.declared.predicates.Side.{Side}
use Rattle.nts_text.specs.declared.predicates.Side.TheVariants as side
use Rattle.nts_text.specs.declared.predicates.Wanted.{Wanted}
use Rattle.nts_text.specs.declared.predicates.Wanted.TheVariants as wanted

-- a variable, a parameter or a region
abbrev pub is_marked : TokenKind → Bool
is_marked TypeVariable = true
is_marked TypeParam = true
is_marked RegionVariable = true
is_marked RegionParam = true
is_marked Static = true
is_marked _ = false

-- a name, a variable, a parameter or a region
abbrev pub is_word : TokenKind → Bool
is_word Name = true
is_word k = is_marked k

-- a region
abbrev pub is_region : TokenKind → Bool
is_region RegionVariable = true
is_region RegionParam = true
is_region Static = true
is_region _ = false

-- what a binder may bind: a name, or a region with its mark
abbrev pub is_bound_token : TokenKind → Bool
is_bound_token Name = true
is_bound_token RegionParam = true
is_bound_token Static = true
is_bound_token _ = false

abbrev pub is_name : TokenKind → Bool
is_name Name = true
is_name _ = false

abbrev pub is_open : TokenKind → Bool
is_open Open = true
is_open _ = false

abbrev pub is_close : TokenKind → Bool
is_close Close = true
is_close _ = false

abbrev pub is_comma : TokenKind → Bool
is_comma Comma = true
is_comma _ = false

abbrev pub is_equals : TokenKind → Bool
is_equals Equals = true
is_equals _ = false

-- what may stand between two sides of a predicate
abbrev pub is_sign : TokenKind → Bool
is_sign Colon = true
is_sign Equals = true
is_sign _ = false

-- a type begins with it
abbrev pub is_type : TokenKind → Bool
is_type k = is_word k && not (is_region k)

-- where a colon may yet come, or `=`
abbrev pub may_have_colon : Side → Bool
may_have_colon side.Left = true
may_have_colon side.Any = true
may_have_colon s = false

abbrev pub may_have_equals : Side → Bool
may_have_equals side.Alias = true
may_have_equals side.Any = true
may_have_equals s = false

-- .. and where `=` has to come
abbrev pub needs_equals : Side → Bool
needs_equals side.Alias = true
needs_equals s = false

-- behind a colon, or behind `=`
abbrev pub is_right : Side → Bool
is_right side.Region = true
is_right side.Type = true
is_right s = false

abbrev pub is_value : Side → Bool
is_value side.Type = true
is_value s = false

-- what stands behind a complete argument or predicate: outside of brackets a comma, if there may
-- be many predicates
abbrev pub ends_item : Bool → ℕ → TokenKind → Bool
ends_item many depth k = (is_comma k && (many || nat_lt 0 depth)) || (is_close k && nat_lt 0 depth)

-- whether an argument or a predicate may be complete with this token. Outside of brackets a trait's predicate
-- is so with its bracket, one that says what outlives a region with the region behind its colon, and one of an
-- alias with the type behind its `=`
abbrev pub is_complete : Side → ℕ → TokenKind → Bool
is_complete s depth Close = nat_lt 0 depth || not (needs_equals s)
is_complete s depth Name = nat_lt 0 depth || is_value s
is_complete s depth k = is_marked k && (nat_lt 0 depth || is_right s)

-- whether a sign may stand behind a token: a colon behind a type or a region, and `=` behind a name with its
-- arguments
abbrev pub may_sign : TokenKind → Side → ℕ → TokenKind → Bool
may_sign Colon s depth before = may_have_colon s && (depth == 0) && (is_word before || is_close before)
may_sign Equals s depth before = may_have_equals s && (depth == 0) && (is_name before || is_close before)
may_sign k s depth before = false

-- whether k may stand behind another token, where so many brackets are open between them, on this side of the
-- predicate's sign; a binder stands in front of a predicate
abbrev pub may_follow : Bool → Side → ℕ → TokenKind → TokenKind → Bool
may_follow many s depth Open k = is_word k
may_follow many s depth Comma For = depth == 0
may_follow many s depth Comma k = is_word k
may_follow many s depth Greater k = is_name k || (may_have_colon s && is_marked k)
may_follow many s depth Colon k = is_region k
may_follow many s depth Equals k = is_type k
may_follow many s depth before k =
    (is_name before && is_open k)
    || may_sign k s depth before
    || (is_complete s depth before && ends_item many depth k)

-- whether k may stand behind another token in the list of a binder: names parted by commas, at least one
abbrev pub may_follow_bound : TokenKind → TokenKind → Bool
may_follow_bound For k = is_bound_token k
may_follow_bound Comma k = is_bound_token k
may_follow_bound before Comma = true
may_follow_bound before Greater = true
may_follow_bound before k = false

abbrev pub may_stand : Bool → Bool → Side → ℕ → TokenKind → TokenKind → Bool
may_stand many true s depth before k = may_follow_bound before k
may_stand many false s depth before k = may_follow many s depth before k

-- how many brackets are open behind a token
abbrev pub depth_behind : ℕ → TokenKind → ℕ
depth_behind depth Open = depth + 1
depth_behind depth Close = depth - 1
depth_behind depth _ = depth

-- whether the list of a binder is open behind a token
abbrev pub binding_behind : Bool → TokenKind → Bool
binding_behind binding For = true
binding_behind binding Greater = false
binding_behind binding _ = binding

-- there may be many predicates
abbrev pub is_many : Wanted → Bool
is_many wanted.Many = true
is_many wanted.Assumed = true
is_many w = false

-- on which side a predicate begins: the head of a clause is a trait's, or an alias's with its value, and what is assumed may be either
abbrev pub first_side : Wanted → Side
first_side wanted.Base = side.Trait
first_side wanted.Norm = side.Alias
first_side wanted.Assumed = side.Any
first_side w = side.Left

-- on which side it is behind a token; a comma outside of brackets begins a predicate
abbrev pub side_behind : Wanted → Side → ℕ → TokenKind → Side
side_behind w s depth Colon = side.Region
side_behind w s depth Equals = side.Type
side_behind w s depth Comma = if depth == 0 then first_side w else s
side_behind w s depth k = s

-- each token may follow the one before it, and with the last one a predicate is complete
abbrev pub continues : Wanted → Bool → Side → ℕ → TokenKind → List Token → Bool
continues w binding s depth before [] = is_complete s depth before && depth == 0
continues w binding s depth before (t ∷ ts) =
    may_stand (is_many w) binding s depth before t.kind
    && continues w (binding_behind binding t.kind) (side_behind w s depth t.kind) (depth_behind depth t.kind) t.kind ts

-- behind what the first predicate stands, as it were: behind a comma it may have a binder, and behind
-- a binder it has none
abbrev pub before_first_of : Wanted → TokenKind
before_first_of wanted.Base = Greater
before_first_of wanted.Norm = Greater
before_first_of w = Comma

-- the tokens are predicates parted by commas, or one predicate, or a trait's or an alias's without a binder
abbrev pub are_predicates : Wanted → List Token → Bool
are_predicates w ts = continues w false (first_side w) 0 (before_first_of w) ts

-- Each node is followed by as many trees as it has arguments. So many are wanted before the first
-- node; where none is, a tree of its own begins.
abbrev pub is_forest : ℕ → List Node → Bool
is_forest wanted [] = wanted == 0
is_forest wanted (n ∷ ns) = is_forest (wanted - 1 + n.arguments) ns

-- how many trees begin at one level of brackets before a token that is no bracket: each word begins one,
-- and a sign takes the one behind it into the one before it
abbrev pub trees_before : TokenKind → ℕ → ℕ
trees_before k behind = if is_word k then suc behind else (if is_sign k then behind - 1 else behind)

-- how many trees begin at one level of brackets: that which begins behind so many more closing
-- ones and ends at its own
abbrev pub trees_at : ℕ → List Token → ℕ
trees_at zero [] = 0
trees_at (suc n) [] = 0
trees_at zero (t ∷ ts) =
    if is_open t.kind then trees_at 1 ts
    else (if is_close t.kind then 0 else trees_before t.kind (trees_at zero ts))
trees_at (suc n) (t ∷ ts) =
    if is_open t.kind then trees_at (suc (suc n)) ts
    else (if is_close t.kind then trees_at n ts
    else trees_at (suc n) ts)

-- the trees between the bracket that stands next and the one that closes it, without those inside
-- of further brackets; none if no bracket stands next
abbrev pub arguments_behind : List Token → ℕ
arguments_behind [] = 0
arguments_behind (t ∷ ts) = if is_open t.kind then trees_at 0 ts else 0

-- how many brackets are open before these tokens
abbrev pub open_brackets : List Token → ℕ
open_brackets [] = 0
open_brackets (t ∷ ts) =
    if is_open t.kind then open_brackets ts - 1
    else (if is_close t.kind then open_brackets ts + 1 else open_brackets ts)

-- whether the list of a binder is open before a token, if this is so behind it
abbrev pub binding_before : TokenKind → Bool → Bool
binding_before Greater behind = true
binding_before For behind = false
binding_before k behind = behind

-- whether the list of a binder is open before these tokens
abbrev pub is_binding : List Token → Bool
is_binding [] = false
is_binding (t ∷ ts) = binding_before t.kind (is_binding ts)

-- the next sign before a token, where this is the next one behind it, and so many brackets are open and so
-- many trees begin at its level: a word outside of brackets takes a sign, and a sign with nothing behind it
-- is none
abbrev pub sign_before : Token → ℕ → ℕ → Option Token → Option Token
sign_before t depth trees behind =
    if is_sign t.kind then (if trees == 0 then None else Some t)
    else (if is_word t.kind && (depth == 0) then None else behind)

-- the next sign that no word outside of brackets stands before
abbrev pub next_sign : List Token → Option Token
next_sign [] = None
next_sign (t ∷ ts) = sign_before t (open_brackets ts) (trees_at 0 ts) (next_sign ts)

-- inside of brackets nothing stands on the left of a sign
abbrev pub taken_sign : ℕ → Option Token → Option Token
taken_sign depth behind = if depth == 0 then behind else None

-- the sign on whose left stands a word in front of these tokens, with its arguments
abbrev pub sign_behind : List Token → Option Token
sign_behind ts = taken_sign (open_brackets ts) (next_sign ts)

-- what stands in front of the token at this place; in front of the first one a comma, as it were
abbrev pub kind_before : List Token → ℕ → TokenKind
kind_before ts zero = Comma
kind_before ts (suc n) = option_map_or (λ t. t.kind) (slice_get ts n) Comma

-- what a word is behind such a token, in front of these: bound by a binder, or a trait where no bracket is open
-- and it doesn't stand on either side of a sign
abbrev pub role_before : TokenKind → TokenKind → List Token → Role
role_before b k ts =
    if is_binding ts then roles.Bound
    else (if is_name k && not (is_equals b) && (open_brackets ts == 0) && is_none (next_sign ts) then roles.Trait
    else roles.Argument)

-- what a colon says, by the word that stands on its left with its arguments
abbrev pub outlives_role : TokenKind → Role
outlives_role k = if is_region k then roles.RegionOutlives else roles.TypeOutlives

-- the node of a colon before that of the word on its left
abbrev pub outliving : Node → Token → Node
outliving n t = record { token = t; arguments = 2; role = outlives_role n.token.kind }

-- an alias is given one thing more: what stands behind its `=`
abbrev pub normalizing : Node → Node
normalizing n = record { token = n.token; arguments = n.arguments + 1; role = roles.Normalizes }

abbrev pub with_sign : Bool → Node → Token → List Node
with_sign true n t = normalizing n ∷ []
with_sign false n t = outliving n t ∷ n ∷ []

-- a node, with the sign on whose left it stands
abbrev pub behind_sign : Node → Option Token → List Node
behind_sign n None = n ∷ []
behind_sign n (Some t) = with_sign (is_equals t.kind) n t

abbrev pub word_node : TokenKind → Token → List Token → Node
word_node b t ts = record { token = t; arguments = arguments_behind ts; role = role_before b t.kind ts }

-- the nodes of the tokens that stand behind one of this kind
abbrev pub nodes_behind : TokenKind → List Token → List Node
nodes_behind b [] = []
nodes_behind b (t ∷ ts) =
    if is_word t.kind then behind_sign (word_node b t ts) (sign_behind ts) ++ nodes_behind t.kind ts
    else nodes_behind t.kind ts

-- each word, with its role and the number of its arguments, and each colon before what it takes
abbrev pub written_nodes : List Token → List Node
written_nodes ts = nodes_behind Comma ts
