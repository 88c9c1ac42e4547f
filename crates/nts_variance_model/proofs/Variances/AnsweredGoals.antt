-- Sound by the table: the rows of relating under each later table.
use Rattle.std.proofs.Common.{◌≡◌, inl, inr, ℕ, List, [], ◌∷◌, ◌++◌, refl}
use Rattle.nts_model.specs.declared.labels.Variance.{Variance}
use Rattle.nts_model.specs.declared.labels.TyHead.TheVariants as ty
use Rattle.nts_model.specs.declared.labels.ListHead.TheVariants as list
use Rattle.nts_model.specs.declared.labels.Label.TheVariants as label
use Rattle.nts_model.specs.Terms.Trees.{Tree, empty, more, node}
use Rattle.nts_model.specs.Terms.Regions.{IsRegion}
use Rattle.nts_model.specs.Tables.Contents.{Content}
use Rattle.nts_model.specs.Tables.Resolving.{IsSound, deeply_resolved}
use Rattle.nts_model.specs.Tables.Holding.{AreOne, Continues, HoldsConstraint}
use Rattle.nts_model.specs.Derivations.Related.{region_constraint, times, first_variance, rest_variances, constructor, arguments, one_tree, regions, constructors, aliases, subtypes, and_more}
use Rattle.nts_model.specs.Derivations.Proving.{recorded_as}
use Rattle.nts_variance_model.specs.Variances.Relations.{Relating}
use Rattle.nts_variance_model.specs.Variances.AnsweredGoals.{RelatedUnder, IsAnswered, AllAnswered, AllRelatedUnder, RelatesBy}
use Rattle.nts_model.proofs.Tables.Resolved.{deeply_resolved-node, deeply_resolved-empty}
use Rattle.nts_model.proofs.Tables.Alike.{IsRegion-deeply_resolved}
use Rattle.nts_model.proofs.Tables.Held.{Continues-trans}
use Rattle.nts_model.proofs.Tables.TableInstances.{deeply_resolved-more}

module _ (declared : ℕ → List Variance) where
  -- a goal that is answered relates its sides
  pub answered_relates : (f : Content) (ks : List Tree) (p : Relating) → IsAnswered f ks p → RelatedUnder declared f ks p.variance p.left p.right
  answered_relates f ks p (inl x) = aliases x.0 x.1 x.2 x.3
  answered_relates f ks p (inr x) = subtypes x.0 x.1 x.2 x.3 x.4 x.5 x.6
