-- Goals that say of a type or a region that it outlives a region.
use Rattle.std.specs.Prelude.{◌≡◌}
use Rattle.nts_model.specs.declared.labels.Relation.TheVariants as relation
use Rattle.nts_model.specs.declared.labels.ClauseHead.TheVariants as clause
use Rattle.nts_model.specs.declared.labels.Label.TheVariants as label
use Rattle.nts_model.specs.Terms.Trees.{Tree, node, IsClosed, IsFormed}
use Rattle.nts_model.specs.Derivations.Related.{Constraint, pair, unbound}

-- the constraint that a statement says to hold: that the one outlives the other
pub data SaysOutlives : Constraint → Tree → Type 0 where
  region_outlives : {a b : Tree} → SaysOutlives (record { relation = relation.RegionOutlives; left = a; right = b }) (node (label.Clause clause.RegionOutlives) (pair a b))
  type_outlives : {t r : Tree} → SaysOutlives (record { relation = relation.TypeOutlives; left = t; right = r }) (node (label.Clause clause.TypeOutlives) (pair t r))

-- a goal that says so, and binds nothing
pub record IsOutlives (g : Tree) (x : Constraint) : Type 0 where
  pub statement : Tree
  pub binds_nothing : g ≡ unbound statement
  pub says : SaysOutlives x statement
  pub formed : IsFormed statement
  pub closed : IsClosed statement
