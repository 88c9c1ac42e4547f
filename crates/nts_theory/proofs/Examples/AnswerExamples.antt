-- One region of a query that the caller's table has under two names: no instance gives the caller's goal, but up to the
-- equality that the table holds it is one.
use Rattle.std.proofs.Common.{◌≡◌, inl, List, [], ◌∷◌, refl, sym, ap, ◌∙◌}
use Rattle.nts_model.specs.declared.labels.Relation.TheVariants as relation
use Rattle.nts_model.specs.declared.labels.FreeRegion.TheVariants as region
use Rattle.nts_model.specs.Terms.Trees.{Tree, empty, more}
use Rattle.nts_model.specs.Terms.Regions.{of_variable, of_free, region_tree}
use Rattle.nts_model.specs.Terms.Substitutions.{Instance, instance_of}
use Rattle.nts_model.specs.Derivations.Related.{Constraint, constructor, pair}
use Rattle.nts_model.specs.Derivations.Sequents.{AreOneBy}

-- the query's region, the caller's placeholder, and the caller's region variable that stands for it in a type of a lower universe
abbrev asked_region : Tree
asked_region = region_tree (of_free (region.Placeholder 0 1))

abbrev placeholder : Tree
placeholder = region_tree (of_free (region.Placeholder 1 0))

abbrev variable : Tree
variable = region_tree (of_variable 7)

-- a goal's arguments: a type that holds a region, and a region
abbrev goal_of : Tree → Tree → Tree
goal_of a b = pair (constructor 0 (more a empty)) b

pub no_exact_instance : (κ : Instance) → instance_of κ (goal_of asked_region asked_region) ≡ goal_of variable placeholder → ⊥
no_exact_instance κ e =
    let first : instance_of κ asked_region ≡ variable = cc e in
    let second : instance_of κ asked_region ≡ placeholder = cc e in
    let both : variable ≡ placeholder = sym first ∙ second in cc both

abbrev equal_regions : List Constraint
equal_regions = record { relation = relation.Equal; left = variable; right = placeholder } ∷ []

pub one_goal : AreOneBy equal_regions (goal_of placeholder placeholder) (goal_of variable placeholder)
one_goal f h =
    let same : f (of_variable 7) ≡ f (of_free (region.Placeholder 1 0)) = h _ (of_variable 7) (of_free (region.Placeholder 1 0)) (inl refl) refl in
    ap (λ x. goal_of (region_tree x) (region_tree (f (of_free (region.Placeholder 1 0))))) (sym same)
