-- The names that binders bind.
use Rattle.std.specs.Prelude.{ℕ, List, [], ◌∷◌, ◌++◌, map, fold}
use Rattle.nts_text.specs.Declarations.{bytes_of}
use Rattle.nts_text.specs.declared.names.Bounds.{Bounds}
use Rattle.nts_text.specs.declared.predicates.Node.{Node}
use Rattle.nts_text.specs.declared.predicates.Role.{Role}
use Rattle.nts_text.specs.declared.predicates.Role.TheVariants.{Bound, Trait, TypeOutlives, RegionOutlives, Normalizes, Argument}

-- the names that the binder of a predicate binds, and those of the next one's as far as it is read:
-- each has its place in its binder's list as its number
pub record BoundNames : Type 0 where
  pub here : List (List ℕ)
  pub next : List (List ℕ)

abbrev pub nothing_bound : BoundNames
nothing_bound = record { here = []; next = [] }

-- the next binder binds one name more
abbrev pub with_bound : BoundNames → List ℕ → BoundNames
with_bound b name = record b { next = b.next ++ name ∷ [] }

-- a predicate begins: its binder is the one that stands in front of it
abbrev pub predicate_begun : BoundNames → BoundNames
predicate_begun b = record { here = b.next; next = [] }

-- what is bound behind a node: a name of a binder is bound in the next predicate, which begins with
-- its trait, its colon or its alias
abbrev pub bound_by : BoundNames → List ℕ → Role → BoundNames
bound_by b name Bound = with_bound b name
bound_by b name Trait = predicate_begun b
bound_by b name TypeOutlives = predicate_begun b
bound_by b name RegionOutlives = predicate_begun b
bound_by b name Normalizes = predicate_begun b
bound_by b name Argument = b

abbrev pub bound_behind : List ℕ → BoundNames → Node → BoundNames
bound_behind line b n = bound_by b (bytes_of line n.token) n.role

-- what is bound behind these nodes
abbrev pub bound_after : List ℕ → List Node → BoundNames
bound_after line ns = fold (bound_behind line) nothing_bound ns

-- the names that are kept of binders
abbrev pub bound_names : Bounds → BoundNames
bound_names b = record { here = map (λ v. v.items) b.here.keys; next = map (λ v. v.items) b.next.keys }
