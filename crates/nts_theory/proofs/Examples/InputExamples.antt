-- Inputs that are alike, and inputs that are not.
use Rattle.std.proofs.Common.{◌≡◌, ℕ, [], ◌∷◌, refl, ap}
use Rattle.nts_model.specs.declared.labels.Sort.TheVariants as sort
use Rattle.nts_model.specs.declared.labels.VariableKind.TheVariants as kind
use Rattle.nts_model.specs.declared.labels.FreeRegion.TheVariants as region
use Rattle.nts_model.specs.declared.labels.Constant.TheVariants as constant
use Rattle.nts_model.specs.declared.labels.Leaf.{Leaf}
use Rattle.nts_model.specs.declared.labels.Leaf.TheVariants as leaf
use Rattle.nts_model.specs.declared.labels.ClauseHead.TheVariants as clause
use Rattle.nts_model.specs.declared.labels.ListHead.TheVariants as list
use Rattle.nts_model.specs.declared.labels.Label.TheVariants as label
use Rattle.nts_model.specs.Terms.Trees.{Tree, empty, more, node}
use Rattle.nts_model.specs.Terms.Substitutions.{leaf_tree, Renaming, rename}
use Rattle.nts_model.specs.Derivations.Related.{pair, unbound}
use Rattle.nts_model.specs.Canonical.Numbered.{position}
use Rattle.nts_model.specs.Canonical.Inputs.{Input, canonical_of, originals}
use Rattle.nts_model.proofs.Terms.Renamings.{extension}

-- the predicate of a trait, and an environment of one clause
abbrev trait_of : ℕ → Tree → Tree
trait_of n arguments = unbound (node (label.Clause (clause.Trait n)) (more (node (label.List list.Args) arguments) empty))

abbrev of_one : Leaf → Tree
of_one l = trait_of 0 (more (leaf_tree l) empty)

abbrev of_two : Leaf → Leaf → Tree
of_two l m = trait_of 1 (pair (leaf_tree l) (leaf_tree m))

abbrev pub no_clauses : Tree
no_clauses = node (label.List list.Env) empty

abbrev one_clause : Tree → Tree
one_clause p = node (label.List list.Env) (more p empty)

abbrev of_none : Tree
of_none = trait_of 2 empty

abbrev asking : Tree → Tree → (ℕ → ℕ) → Input
asking e p r = record { environment = e; predicate = p; hidden = empty; sub_root = r }

-- each variable has a sub root of its own; all have one
abbrev apart : ℕ → ℕ
apart n = n

abbrev together : ℕ → ℕ
together n = 0

abbrev var : ℕ → Leaf
var n = leaf.Variable kind.Ty n

abbrev static : Leaf
static = leaf.Region region.Static

abbrev early : ℕ → Leaf
early n = leaf.Region (region.EarlyParam n)

abbrev placeholder : ℕ → Leaf
placeholder n = leaf.TyConstant (constant.Placeholder 1 n)

-- two variables that change places
swapped_variables : canonical_of (asking no_clauses (of_two (var 4) (var 9)) apart) ≡ canonical_of (asking no_clauses (of_two (var 9) (var 4)) apart)
swapped_variables = refl

-- one variable twice is not two variables
one_variable_twice : canonical_of (asking no_clauses (of_two (var 4) (var 4)) apart) ≡ canonical_of (asking no_clauses (of_two (var 4) (var 9)) apart) → ⊥
one_variable_twice e = let p = ap (λ c. c.predicate) e in cc

-- two variables of one sub root are not two of two
shared_sub_root : canonical_of (asking no_clauses (of_two (var 4) (var 9)) together) ≡ canonical_of (asking no_clauses (of_two (var 4) (var 9)) apart) → ⊥
shared_sub_root e = let p = ap (λ c. c.kinds) e in cc

-- a type variable is no integer variable
kinds_of_variables : canonical_of (asking no_clauses (of_one (var 4)) apart) ≡ canonical_of (asking no_clauses (of_one (leaf.Variable kind.Int 4)) apart) → ⊥
kinds_of_variables e = let p = ap (λ c. c.kinds) e in cc

-- in a predicate 'static is as any other region, and in an environment it is not
static_in_predicate : canonical_of (asking no_clauses (of_one static) apart) ≡ canonical_of (asking no_clauses (of_one (early 7)) apart)
static_in_predicate = refl

static_in_environment : canonical_of (asking (one_clause (of_one static)) of_none apart) ≡ canonical_of (asking (one_clause (of_one (early 7))) of_none apart) → ⊥
static_in_environment e = let p = ap (λ c. c.environment) e in cc

-- two placeholders that change places, and one of them twice
swapped_placeholders : canonical_of (asking no_clauses (of_two (placeholder 2) (placeholder 3)) apart) ≡ canonical_of (asking no_clauses (of_two (placeholder 3) (placeholder 2)) apart)
swapped_placeholders = refl

one_placeholder_twice : canonical_of (asking no_clauses (of_two (placeholder 2) (placeholder 2)) apart) ≡ canonical_of (asking no_clauses (of_two (placeholder 2) (placeholder 3)) apart) → ⊥
one_placeholder_twice e = let p = ap (λ c. c.predicate) e in cc

-- the originals in the order of first sight: 'static stays in the environment, and is seen in the predicate
order_of_originals : originals (asking (one_clause (of_two static (var 3))) (of_two (var 1) static) apart) ≡ var 3 ∷ var 1 ∷ static ∷ []
order_of_originals = refl

-- were 'static of an environment a leaf, these two inputs would be alike: a renaming swaps 'static and a parameter
abbrev static_outside : Input
static_outside = asking (one_clause (of_one (early 7))) (of_one static) apart

abbrev static_inside : Input
static_inside = asking (one_clause (of_one static)) (of_one (early 7)) apart

pub record Swaps (a b : Input) : Type 0 where
  pub renaming : Renaming
  pub environment : rename renaming a.environment ≡ b.environment
  pub predicate : rename renaming a.predicate ≡ b.predicate

static_swapped : Swaps static_outside static_inside
static_swapped = record { renaming = extension (early 7 ∷ []) (static ∷ []) refl; environment = refl; predicate = refl }

static_is_label : canonical_of static_outside ≡ canonical_of static_inside → ⊥
static_is_label e = let p = ap (λ c. c.environment) e in cc

-- an input holds no positions: with one, inputs could have one form and no renaming
abbrev with_position : Input
with_position = asking no_clauses (trait_of 1 (pair (leaf_tree (var 4)) (position sort.Ty 0))) apart

abbrev with_variable : Input
with_variable = asking no_clauses (of_two (var 4) (var 4)) apart

one_form : canonical_of with_position ≡ canonical_of with_variable
one_form = refl

no_renaming : (ρ : Renaming) → rename ρ with_position.predicate ≡ with_variable.predicate → ⊥
no_renaming ρ e = cc
