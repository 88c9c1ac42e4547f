-- What relating two trees by a variance does: the contract of `relate`.
use Rattle.std.specs.Prelude.{◌≡◌, ◌⊎◌, Bool, List, [], ◌∷◌, map}
use Rattle.nts_model.specs.declared.labels.Variance.{Variance}
use Rattle.nts_model.specs.Terms.Trees.{Tree}
use Rattle.nts_model.specs.Tables.Contents.{Content}
use Rattle.nts_model.specs.Tables.Resolving.{deeply_resolved}
use Rattle.nts_model.specs.Tables.Worlds.{World, inst, IsTrueOf, Solves}
use Rattle.nts_model.specs.Tables.Holding.{Continues}
use Rattle.nts_model.specs.Derivations.Related.{Constraint, alias_goal, subtype_goal}
use Rattle.nts_model.specs.Derivations.Rules.{Meaning, Mode}
use Rattle.nts_variance_model.specs.Variances.Judging.{Judging, Settles}
use Rattle.nts_variance_model.specs.Variances.SettledProofs.{judging}
use Rattle.nts_variance_model.specs.Variances.Relations.{Relating, AllSettleIn, IsSettledWorld, SettledExtension}
use Rattle.nts_variance_model.specs.Variances.AnsweredGoals.{RelatedUnder}

-- the constraints that are true in a world, and what settled proofs in its environment judge
abbrev pub IsTrueIn : World → Constraint → Type 0
IsTrueIn w x = IsTrueOf w x.relation x.left x.right

abbrev pub judged_in : Meaning → Mode → Tree → World → Judging
judged_in m mode e w = judging m mode (IsTrueIn w) (inst w e)

-- the goals of pairs: an AliasRelate or a Subtype goal each
abbrev pub AreGoalsOf : List Relating → List Tree → Type 0
AreGoalsOf [] [] = Unit {0}
AreGoalsOf (p ∷ ps) (g ∷ gs) = ((g ≡ alias_goal p.variance p.left p.right) ⊎ ((x : Bool) × (g ≡ subtype_goal x p.variance p.left p.right))) × AreGoalsOf ps gs
AreGoalsOf ps gs = ⊥

-- the two trees were related: the table holds that they are, where the goals are answered, has all that it had, and each
-- settled solution that relates them extends to one that meets the goals
pub record AreRelatedBy (m : Meaning) (mode : Mode) (e : Tree) (c d : Content) (v : Variance) (a b : Tree) (goals : List Tree) : Type 0 where
  pub owed : List Relating
  pub are : AreGoalsOf owed goals
  pub continues : Continues c d
  pub related : RelatedUnder m.variances d (map (deeply_resolved d) goals) v a b
  pub back : (w : World) → Solves d w → Solves c w
  pub complete : (w : World) → Solves c w → IsSettledWorld (judged_in m mode e w) c w → Settles (judged_in m mode e w) v (inst w a) (inst w b)
      → (x : SettledExtension (judged_in m mode e w) c d w (λ f. Unit {0})) × AllSettleIn (judged_in m mode e w) x.world owed

-- no settled solution of the table relates the two trees
pub record AreUnrelatedBy (m : Meaning) (mode : Mode) (e : Tree) (c : Content) (v : Variance) (a b : Tree) : Type 0 where
  pub none : (w : World) → Solves c w → IsSettledWorld (judged_in m mode e w) c w → Settles (judged_in m mode e w) v (inst w a) (inst w b) → ⊥
