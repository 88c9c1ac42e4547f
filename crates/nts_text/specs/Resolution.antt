-- Nodes whose names have become numbers.
use Rattle.std.specs.Prelude.{◌≡◌, ℕ, suc, ◌<◌, Bool, true, false, List, [], ◌∷◌, ◌++◌, length, vec_len, Option, None, Some, slice_get, drop}
use Rattle.std.specs.Option.{option_map_or}
use Rattle.nts_model.specs.declared.labels.Sort.{Sort}
use Rattle.nts_model.specs.declared.labels.Sort.TheVariants.{Ty, Region, Const}
use Rattle.nts_text.specs.declared.names.NameTable.{NameTable}
use Rattle.nts_text.specs.Lines.{bytes_of}
use Rattle.nts_text.specs.NameTable.{IsNameTaken, NameStandsFor}
use Rattle.nts_text.specs.Binders.{BoundNames, bound_behind}
use Rattle.nts_text.specs.Spelled.{type_names, region_names, IsNumberOf, HasNoNumber}
use Rattle.nts_text.specs.declared.lexer.TokenKind.{TokenKind}
use Rattle.nts_text.specs.declared.lexer.TokenKind.TheVariants.{Name, TypeVariable, TypeParam, RegionVariable, RegionParam, Static}
use Rattle.nts_text.specs.declared.names.Declared.TheVariants as declared
use Rattle.nts_text.specs.declared.names.Scope.{Scope}
use Rattle.nts_text.specs.declared.predicates.Node.{Node}
use Rattle.nts_text.specs.declared.predicates.Role.{Role}
use Rattle.nts_text.specs.declared.predicates.Role.TheVariants as roles
use Rattle.nts_text.specs.declared.resolver.Resolved.{Resolved}
use Rattle.nts_text.specs.declared.resolver.Resolved.TheVariants as nodes

-- the sorts of a type's arguments
abbrev pub type_sorts : NameTable → ℕ → List Sort
type_sorts names n = option_map_or (λ s. s.sorts.items) (slice_get names.types.items n) []

-- the sorts of a trait's arguments
abbrev pub trait_sorts : NameTable → ℕ → List Sort
trait_sorts names n = option_map_or (λ s. s.sorts.items) (slice_get names.traits.items n) []

-- the sorts of an alias's arguments
abbrev pub alias_sorts : NameTable → ℕ → List Sort
alias_sorts names n = option_map_or (λ s. s.sorts.items) (slice_get names.aliases.items n) []

-- the sorts of a node's arguments; an alias that normalizes has its value behind its own
abbrev pub argument_sorts : NameTable → Resolved → List Sort
argument_sorts names (nodes.Trait n arguments) = trait_sorts names n
argument_sorts names (nodes.Ctor n arguments) = type_sorts names n
argument_sorts names (nodes.Alias n arguments) = alias_sorts names n
argument_sorts names (nodes.Normalizes n arguments) = alias_sorts names n ++ Ty ∷ []
argument_sorts names nodes.TypeOutlives = Ty ∷ Region ∷ []
argument_sorts names nodes.RegionOutlives = Region ∷ Region ∷ []
argument_sorts names _ = []

-- a node is no variable of the line
abbrev pub is_variable : Resolved → Bool
is_variable (nodes.TypeVariable n) = true
is_variable (nodes.RegionVariable n) = true
is_variable r = false

abbrev pub IsNoVariable : Resolved → Type 0
IsNoVariable r = is_variable r ≡ false

-- the sort of a node; a predicate has none, nor has what stands in front of it
abbrev pub sort_of : Resolved → Option Sort
sort_of (nodes.Binds s) = None
sort_of (nodes.Trait n arguments) = None
sort_of nodes.TypeOutlives = None
sort_of nodes.RegionOutlives = None
sort_of (nodes.Normalizes n arguments) = None
sort_of (nodes.BoundRegion n) = Some Region
sort_of (nodes.RegionVariable n) = Some Region
sort_of (nodes.RegionParam n) = Some Region
sort_of nodes.Static = Some Region
sort_of _ = Some Ty

-- a trait, a type or an alias is declared, and the node says how many arguments it takes
abbrev pub IsDeclared : NameTable → Resolved → Type 0
IsDeclared names (nodes.Trait n arguments) = (n < vec_len names.traits) × (arguments ≡ length (trait_sorts names n))
IsDeclared names (nodes.Ctor n arguments) = (n < vec_len names.types) × (arguments ≡ length (type_sorts names n))
IsDeclared names (nodes.Alias n arguments) = (n < vec_len names.aliases) × (arguments ≡ length (alias_sorts names n))
IsDeclared names (nodes.Normalizes n arguments) = (n < vec_len names.aliases) × (arguments ≡ length (alias_sorts names n))
IsDeclared names _ = Unit {0}

-- what a node with this meaning is in its predicate
abbrev pub role_of : Resolved → Role
role_of (nodes.Binds s) = roles.Bound
role_of (nodes.Trait n arguments) = roles.Trait
role_of nodes.TypeOutlives = roles.TypeOutlives
role_of nodes.RegionOutlives = roles.RegionOutlives
role_of (nodes.Normalizes n arguments) = roles.Normalizes
role_of _ = roles.Argument

-- The nodes are of the sorts that are wanted, and each is followed by arguments of the sorts that
-- it takes. Where no sort is wanted a predicate begins, or a name that its binder binds stands.
abbrev pub AreSorted : NameTable → List Sort → List Resolved → Type 0
AreSorted names wanted [] = wanted ≡ []
AreSorted names wanted (r ∷ rs) =
    (sort_of r ≡ slice_get wanted 0) × AreSorted names (argument_sorts names r ++ drop 1 wanted) rs

-- nodes of the wanted sorts make these nodes whole
abbrev pub AreSortedBefore : NameTable → List Resolved → List Sort → Type 0
AreSortedBefore names done wanted = (rest : List Resolved) → AreSorted names wanted rest → AreSorted names [] (done ++ rest)

-- a binder binds a type by its name, and a region by its name behind a mark
abbrev pub IsBoundAs : Sort → TokenKind → Type 0
IsBoundAs Ty k = k ≡ Name
IsBoundAs Region k = k ≡ RegionParam
IsBoundAs Const k = ⊥

-- the node's word means this trait, type, alias, variable, parameter or region, or this one of the names that
-- the predicate's binder binds; or it is a name for a binder to bind, which is free and not yet in its list;
-- or the node is a colon, and what its role is says what outlives the region
abbrev pub IsMeaningOf : NameTable → Scope → List ℕ → BoundNames → Node → Resolved → Type 0
IsMeaningOf names scope line b n (nodes.Binds s) =
    IsBoundAs s n.token.kind × (IsNameTaken names (bytes_of line n.token) → ⊥) × HasNoNumber b.next (bytes_of line n.token)
IsMeaningOf names scope line b n (nodes.BoundType i) =
    (n.token.kind ≡ Name) × (n.arguments ≡ 0) × IsNumberOf b.here i (bytes_of line n.token)
IsMeaningOf names scope line b n (nodes.BoundRegion i) =
    (n.token.kind ≡ RegionParam) × IsNumberOf b.here i (bytes_of line n.token)
IsMeaningOf names scope line b n (nodes.Trait i arguments) =
    NameStandsFor names (bytes_of line n.token) (declared.Trait i) × (arguments ≡ n.arguments)
IsMeaningOf names scope line b n nodes.TypeOutlives = n.role ≡ roles.TypeOutlives
IsMeaningOf names scope line b n nodes.RegionOutlives = n.role ≡ roles.RegionOutlives
IsMeaningOf names scope line b n (nodes.Ctor i arguments) =
    NameStandsFor names (bytes_of line n.token) (declared.Type i) × (arguments ≡ n.arguments)
IsMeaningOf names scope line b n (nodes.Alias i arguments) =
    ((rigid : Bool) × NameStandsFor names (bytes_of line n.token) (declared.Alias i rigid)) × (arguments ≡ n.arguments)
IsMeaningOf names scope line b n (nodes.Normalizes i arguments) =
    NameStandsFor names (bytes_of line n.token) (declared.Alias i false) × (suc arguments ≡ n.arguments)
IsMeaningOf names scope line b n (nodes.Int t) = NameStandsFor names (bytes_of line n.token) (declared.Int t)
IsMeaningOf names scope line b n (nodes.Uint t) = NameStandsFor names (bytes_of line n.token) (declared.Uint t)
IsMeaningOf names scope line b n (nodes.TypeVariable i) =
    (n.token.kind ≡ TypeVariable) × IsNumberOf (type_names scope.variables) i (bytes_of line n.token)
IsMeaningOf names scope line b n (nodes.TypeParam i) =
    (n.token.kind ≡ TypeParam) × IsNumberOf (type_names scope.parameters) i (bytes_of line n.token)
IsMeaningOf names scope line b n (nodes.RegionVariable i) =
    (n.token.kind ≡ RegionVariable) × IsNumberOf (region_names scope.variables) i (bytes_of line n.token)
IsMeaningOf names scope line b n (nodes.RegionParam i) =
    (n.token.kind ≡ RegionParam) × HasNoNumber b.here (bytes_of line n.token)
    × IsNumberOf (region_names scope.parameters) i (bytes_of line n.token)
IsMeaningOf names scope line b n nodes.Static = n.token.kind ≡ Static

-- each node has its meaning, where this is bound before the first
abbrev pub AreMeanings : NameTable → Scope → List ℕ → BoundNames → List Node → List Resolved → Type 0
AreMeanings names scope line b [] [] = Unit {0}
AreMeanings names scope line b (n ∷ ns) (r ∷ rs) =
    (n.role ≡ role_of r) × IsMeaningOf names scope line b n r
    × AreMeanings names scope line (bound_behind line b n) ns rs
AreMeanings names scope line b _ _ = ⊥
