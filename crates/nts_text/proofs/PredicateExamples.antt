-- Predicates that say what outlives a region or what an alias normalizes to, and what is none.
use Rattle.std.proofs.Common.{◌≡◌, ℕ, ◌+◌, true, false, List, [], ◌∷◌, ◌++◌, refl}
use Rattle.nts_model.specs.declared.labels.UintTy.TheVariants.{U8}
use Rattle.nts_text.specs.Predicates.{are_predicates, written_nodes}
use Rattle.nts_text.specs.Resolution.{AreSorted}
use Rattle.nts_text.specs.declared.lexer.Token.{Token}
use Rattle.nts_text.specs.declared.lexer.TokenKind.{TokenKind}
use Rattle.nts_text.specs.declared.lexer.TokenKind.TheVariants.{Name, RegionParam, Open, Close, Comma, Equals, Colon, Greater, For}
use Rattle.nts_text.specs.declared.names.NameTable.{NameTable}
use Rattle.nts_text.specs.declared.predicates.Node.{Node}
use Rattle.nts_text.specs.declared.predicates.Role.{Role}
use Rattle.nts_text.specs.declared.predicates.Role.TheVariants as roles
use Rattle.nts_text.specs.declared.predicates.Wanted.TheVariants as wanted
use Rattle.nts_text.specs.declared.resolver.Resolved.TheVariants as nodes

abbrev token : ℕ → TokenKind → Token
token at k = record { kind = k; start = at; end = at + 1 }

abbrev node_of : Token → ℕ → Role → Node
node_of t n r = record { token = t; arguments = n; role = r }

-- `u8: 'a` and `'a: 'b`
abbrev of_type : List Token
of_type = token 0 Name ∷ token 2 Colon ∷ token 4 RegionParam ∷ []

abbrev of_region : List Token
of_region = token 0 RegionParam ∷ token 2 Colon ∷ token 4 RegionParam ∷ []

type_is_one : are_predicates wanted.One of_type ≡ true
type_is_one = refl

region_is_one : are_predicates wanted.One of_region ≡ true
region_is_one = refl

-- it is no head of a clause
type_is_no_head : are_predicates wanted.Base of_type ≡ false
type_is_no_head = refl

-- `for<'a> u8: 'a`
behind_binder : are_predicates wanted.One (token 0 For ∷ token 4 RegionParam ∷ token 6 Greater ∷ of_type) ≡ true
behind_binder = refl

-- `T(u8), u8: 'a`
behind_trait : are_predicates wanted.Many (token 0 Name ∷ token 1 Open ∷ token 2 Name ∷ token 4 Close ∷ token 5 Comma ∷ of_type) ≡ true
behind_trait = refl

-- `u8`, `'a`, `u8: u8`, `u8: 'a: 'b` and `T(u8: 'a)` are none
name_is_none : are_predicates wanted.Many (token 0 Name ∷ []) ≡ false
name_is_none = refl

region_is_none : are_predicates wanted.Many (token 0 RegionParam ∷ []) ≡ false
region_is_none = refl

types_are_none : are_predicates wanted.Many (token 0 Name ∷ token 2 Colon ∷ token 4 Name ∷ []) ≡ false
types_are_none = refl

chain_is_none : are_predicates wanted.Many (of_type ++ token 6 Colon ∷ token 8 RegionParam ∷ []) ≡ false
chain_is_none = refl

inside_is_none : are_predicates wanted.Many (token 0 Name ∷ token 1 Open ∷ of_type ++ token 6 Close ∷ []) ≡ false
inside_is_none = refl

-- the colon is a node before both, by what stands on its left
nodes_of_type : written_nodes of_type ≡ node_of (token 2 Colon) 2 roles.TypeOutlives ∷ node_of (token 0 Name) 0 roles.Argument ∷ node_of (token 4 RegionParam) 0 roles.Argument ∷ []
nodes_of_type = refl

nodes_of_region : written_nodes of_region ≡ node_of (token 2 Colon) 2 roles.RegionOutlives ∷ node_of (token 0 RegionParam) 0 roles.Argument ∷ node_of (token 4 RegionParam) 0 roles.Argument ∷ []
nodes_of_region = refl

-- `T(u8)` has a trait and no colon
nodes_of_trait : written_nodes (token 0 Name ∷ token 1 Open ∷ token 2 Name ∷ token 4 Close ∷ []) ≡ node_of (token 0 Name) 1 roles.Trait ∷ node_of (token 2 Name) 0 roles.Argument ∷ []
nodes_of_trait = refl

-- `A = u8` and `A(u8) = T(u8)`
abbrev of_alias : List Token
of_alias = token 0 Name ∷ token 2 Equals ∷ token 4 Name ∷ []

abbrev with_arguments : List Token
with_arguments = token 0 Name ∷ token 1 Open ∷ token 2 Name ∷ token 4 Close ∷ token 6 Equals ∷ token 8 Name ∷ token 9 Open ∷ token 10 Name ∷ token 12 Close ∷ []

alias_is_norm : are_predicates wanted.Norm of_alias ≡ true
alias_is_norm = refl

arguments_are_norm : are_predicates wanted.Norm with_arguments ≡ true
arguments_are_norm = refl

-- it is no predicate, and `A(u8)`, `A = 'a`, `'a = u8` and `A = u8 = u8` say no value of an alias
norm_is_none : are_predicates wanted.Many of_alias ≡ false
norm_is_none = refl

trait_is_no_norm : are_predicates wanted.Norm (token 0 Name ∷ token 1 Open ∷ token 2 Name ∷ token 4 Close ∷ []) ≡ false
trait_is_no_norm = refl

region_is_no_value : are_predicates wanted.Norm (token 0 Name ∷ token 2 Equals ∷ token 4 RegionParam ∷ []) ≡ false
region_is_no_value = refl

region_is_no_alias : are_predicates wanted.Norm (token 0 RegionParam ∷ token 2 Equals ∷ token 4 Name ∷ []) ≡ false
region_is_no_alias = refl

value_is_no_chain : are_predicates wanted.Norm (of_alias ++ token 6 Equals ∷ token 8 Name ∷ []) ≡ false
value_is_no_chain = refl

-- what is assumed may be an alias with its value, behind a trait's predicate or a binder, and one that outlives a region
alias_is_assumed : are_predicates wanted.Assumed (token 0 Name ∷ token 1 Open ∷ token 2 Name ∷ token 4 Close ∷ token 5 Comma ∷ of_alias) ≡ true
alias_is_assumed = refl

type_is_assumed : are_predicates wanted.Assumed of_type ≡ true
type_is_assumed = refl

bound_is_assumed : are_predicates wanted.Assumed (token 0 For ∷ token 4 RegionParam ∷ token 6 Greater ∷ with_arguments) ≡ true
bound_is_assumed = refl

-- .. but no alias without a value, and no value of a region
alias_alone_is_none : are_predicates wanted.Assumed (token 0 Name ∷ []) ≡ false
alias_alone_is_none = refl

region_is_not_assumed : are_predicates wanted.Assumed (token 0 Name ∷ token 2 Equals ∷ token 4 RegionParam ∷ []) ≡ false
region_is_not_assumed = refl

-- the value is the alias's last argument
nodes_of_alias : written_nodes of_alias ≡ node_of (token 0 Name) 1 roles.Normalizes ∷ node_of (token 4 Name) 0 roles.Argument ∷ []
nodes_of_alias = refl

nodes_with_arguments : written_nodes with_arguments ≡ node_of (token 0 Name) 2 roles.Normalizes ∷ node_of (token 2 Name) 0 roles.Argument ∷ node_of (token 8 Name) 1 roles.Argument ∷ node_of (token 10 Name) 0 roles.Argument ∷ []
nodes_with_arguments = refl

-- a type stands before a region, and no region in its place
sorted : (names : NameTable) → AreSorted names [] (nodes.TypeOutlives ∷ nodes.Uint U8 ∷ nodes.Static ∷ [])
sorted names = (refl, (refl, (refl, refl)))

not_sorted : (names : NameTable) → AreSorted names [] (nodes.TypeOutlives ∷ nodes.Static ∷ nodes.Static ∷ []) → ⊥
not_sorted names h = let e = h.1.0 in cc
