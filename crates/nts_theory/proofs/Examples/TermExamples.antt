-- What a proof does not speak of: positions of canonical values, and bound variables that are not of the list of their binder.
use Rattle.std.proofs.Common.{◌≡◌, ℕ, ◌<◌, [], true, false, inl, Some, None, refl, arith}
use Rattle.nts_model.specs.declared.labels.Sort.{Sort}
use Rattle.nts_model.specs.declared.labels.Sort.TheVariants as sort
use Rattle.nts_model.specs.declared.labels.BoundVarIndexKind.TheVariants as index
use Rattle.nts_model.specs.declared.labels.ClauseHead.TheVariants as clause
use Rattle.nts_model.specs.declared.labels.ListHead.TheVariants as list
use Rattle.nts_model.specs.declared.labels.Label.{Label}
use Rattle.nts_model.specs.declared.labels.Label.TheVariants as label
use Rattle.nts_model.specs.Terms.Trees.{Tree, empty, more, node, IsClosed, IsFormed}
use Rattle.nts_model.specs.Terms.Scoping.{IsWellBound}
use Rattle.nts_model.specs.Canonical.Numbered.{position}
use Rattle.nts_model.specs.Derivations.Related.{Constraint, arguments, function, unbound}
use Rattle.nts_model.specs.Lists.{Among}
use Rattle.nts_model.specs.Derivations.Sequents.{Premise, Hidden, Sequent, IsOfTerms}
use Rattle.nts_model.specs.Derivations.Rules.{Meaning, Mode, IsTerm, IsApplied}
use Rattle.nts_theory.proofs.Examples.ProofExamples.{auto_list}
use Rattle.nts_theory.proofs.Examples.InputExamples.{no_clauses as nowhere}

-- Auto of a term
abbrev auto_of : Tree → Tree
auto_of t = unbound (node (label.Clause (clause.Trait 0)) (arguments (more t empty)))

abbrev asks : Tree → Tree → Sequent
asks e p = record { environment = e; predicate = p; constraints = []; hidden = []; open_goals = [] }

-- a goal with a position of a canonical value is not of terms
pub position_is_no_term : IsOfTerms (asks nowhere (auto_of (position sort.Ty 0))) → ⊥
position_is_no_term h = let e : true ≡ false = h.no_positions in cc e

-- the first variable of the binder, which binds nothing
abbrev first_bound : Tree
first_bound = node (label.Bound sort.Ty (index.Bound 0) 0) empty

-- the goal is formed, and no bound variable escapes from it
pub empty_binder_closed : IsFormed (auto_of first_bound) × IsClosed (auto_of first_bound)
empty_binder_closed = (
  ((refl, (refl, tt)), ((tt, tt), (((refl, tt), (((tt, tt), ((tt, tt), tt)), tt)), tt))),
  (tt, ((tt, tt), ((tt, ((tt, ((omega arith, tt), tt)), tt)), tt))),
)

first_open : IsClosed (node (label.Clause (clause.Trait 0)) (arguments (more first_bound empty))) → ⊥
first_open h = let below : 0 < 0 = h.1.0.1.0.0 in omega (arith, below)

-- .. but the bound variable names the empty binder, so the goal is not of terms; nor is one in such an environment
pub empty_binder_is_not_named : IsOfTerms (asks nowhere (auto_of first_bound)) → ⊥
empty_binder_is_not_named h = first_open (h.statement (node (label.Clause (clause.Trait 0)) (arguments (more first_bound empty))) refl)

pub empty_binder_is_not_assumed : IsOfTerms (asks (node (label.List list.Env) (more (auto_of first_bound) empty)) auto_list) → ⊥
empty_binder_is_not_assumed h =
    first_open (h.statements (more (auto_of first_bound) empty) (auto_of first_bound) refl (inl refl) (node (label.Clause (clause.Trait 0)) (arguments (more first_bound empty))) refl)

-- a position of a canonical value is no value that may be chosen
pub position_is_not_chosen : IsTerm (position sort.Ty 0) → ⊥
position_is_not_chosen h = let e : true ≡ false = h.no_positions in cc e

pub position_is_not_applied : (m : Meaning) (mode : Mode) (G : Tree → Type 0) (H : Constraint → Type 0) (D : Hidden → Type 0) (P : Premise → Type 0) (e c : Tree)
    → (a : IsApplied m mode G H D P e c) → Among (let u = a.use_of in u.values) (position sort.Ty 0) → ⊥
position_is_not_applied m mode G H D P e c a i = position_is_not_chosen (a.values (position sort.Ty 0) i).1

-- for<'a> fn(x), of a bound variable x
abbrev bound_variable : Sort → ℕ → Tree
bound_variable s n = node (label.Bound s (index.Bound 0) n) empty

abbrev region_function : Tree → Tree
region_function t = function (more (node (label.List (list.Sort sort.Region)) empty) empty) (more t empty)

-- it may name 'a
pub own_region_is_listed : IsWellBound (region_function (bound_variable sort.Region 0))
own_region_is_listed = (((tt, ((tt, tt), tt)), ((tt, (((λ e. refl), tt), tt)), tt)), ((tt, ((tt, tt), tt)), ((tt, ((tt, tt), tt)), tt)))

-- but no variable that is not there, though the type is formed, and no bound variable escapes from it
pub eighth_variable_closed : IsFormed (region_function (bound_variable sort.Ty 7)) × IsClosed (region_function (bound_variable sort.Ty 7))
eighth_variable_closed = (
  ((refl, (refl, tt)), (((refl, tt), ((tt, tt), tt)), (((tt, tt), ((tt, tt), tt)), tt))),
  (tt, ((tt, ((tt, tt), tt)), ((tt, ((omega arith, tt), tt)), tt))),
)

no_sort : (l : Label) → None ≡ Some l → ⊥
no_sort l e = cc e

pub eighth_variable_is_not_listed : IsWellBound (region_function (bound_variable sort.Ty 7)) → ⊥
eighth_variable_is_not_listed h = no_sort (label.List (list.Sort sort.Ty)) (h.0.1.0.1.0.0 refl)

-- nor 'a as a type
type_sort : Some (label.List (list.Sort sort.Region)) ≡ Some (label.List (list.Sort sort.Ty)) → ⊥
type_sort e = cc e

pub region_is_no_type : IsWellBound (region_function (bound_variable sort.Ty 0)) → ⊥
region_is_no_type h = type_sort (h.0.1.0.1.0.0 refl)

-- so a goal with such a type is not of terms, and the type is no value that may be chosen
pub eighth_variable_is_not_asked : IsOfTerms (asks nowhere (auto_of (region_function (bound_variable sort.Ty 7)))) → ⊥
eighth_variable_is_not_asked h = let w = h.well_bound in eighth_variable_is_not_listed w.1.0.1.1.0.1.0.1.0

pub region_is_no_asked_type : IsOfTerms (asks nowhere (auto_of (region_function (bound_variable sort.Ty 0)))) → ⊥
region_is_no_asked_type h = let w = h.well_bound in region_is_no_type w.1.0.1.1.0.1.0.1.0

pub eighth_variable_is_not_chosen : IsTerm (region_function (bound_variable sort.Ty 7)) → ⊥
eighth_variable_is_not_chosen h = eighth_variable_is_not_listed h.well_bound

pub region_is_no_chosen_type : IsTerm (region_function (bound_variable sort.Ty 0)) → ⊥
region_is_no_chosen_type h = region_is_no_type h.well_bound
