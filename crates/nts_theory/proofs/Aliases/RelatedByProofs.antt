-- The contract of relating, for trees that are related by settled proofs.
use Rattle.std.proofs.Common.{inl, List}
use Rattle.nts_model.specs.declared.labels.Variance.{Variance}
use Rattle.nts_model.specs.declared.labels.Relation.{Relation}
use Rattle.nts_model.specs.declared.labels.Relation.TheVariants as relation
use Rattle.nts_model.specs.Terms.Trees.{Tree, IsFormed}
use Rattle.nts_model.specs.Tables.Contents.{Content}
use Rattle.nts_model.specs.Tables.Worlds.{World, inst, IsTrueOf, Solves}
use Rattle.nts_model.specs.Derivations.Related.{Constraint, Related}
use Rattle.nts_model.specs.Derivations.Sequents.{HasOneSide}
use Rattle.nts_model.specs.Derivations.Rules.{Meaning, Mode, relating}
use Rattle.nts_variance_model.specs.Variances.Judging.{IsSettled, Settles, IsLawfulJudging}
use Rattle.nts_variance_model.specs.Variances.Relations.{AllSettleIn, IsJudgedBy, IsSettledWorld, SettledExtension}
use Rattle.nts_variance_model.specs.Variances.RelatingBy.{IsTrueIn, judged_in, AreRelatedBy, AreUnrelatedBy}
use Rattle.nts_theory.proofs.Aliases.Unfolded.{IsTruth, judging_lawful, StandsSettled, related_unfolds}

trivial_true : (w : World) (r : Relation) (x : Constraint) → HasOneSide r x → IsTrueOf w r x.left x.right
trivial_true w relation.Equal x h = h
trivial_true w relation.RegionOutlives x h = inl h
trivial_true w relation.TypeOutlives x h = absurd h

pub truth_in : (w : World) → IsTruth (IsTrueIn w)
truth_in w = record { one = λ a b h. h; trivial = λ x h. trivial_true w x.relation x h }

pub judged_lawful : (m : Meaning) (mode : Mode) (e : Tree) (w : World) → IsLawfulJudging (judged_in m mode e w)
judged_lawful m mode e w = judging_lawful m mode (IsTrueIn w) (truth_in w) (inst w e)

pub judged_by_world : (m : Meaning) (mode : Mode) (e : Tree) (w : World) → IsJudgedBy (judged_in m mode e w) w
judged_by_world m mode e w = record { met = λ x h. h; held = λ x h. h }

-- related by settled proofs, whose constraints the world makes true
abbrev pub RelatedByProofs : Meaning → Mode → Tree → World → Variance → Tree → Tree → Type 0
RelatedByProofs m mode e w v a b =
    Related m.variances (IsSettled (judged_in m mode e w)) (IsTrueIn w) (λ g. StandsSettled m mode (IsTrueIn w) (truth_in w) (inst w e) (relating (inst w e) g)) v (inst w a) (inst w b)

pub proofs_settle : (m : Meaning) (mode : Mode) (e : Tree) (w : World) (v : Variance) (a b : Tree) → IsFormed (inst w a) → RelatedByProofs m mode e w v a b → Settles (judged_in m mode e w) v (inst w a) (inst w b)
proofs_settle m mode e w v a b f r = related_unfolds m mode (IsTrueIn w) (truth_in w) (inst w e) v (inst w a) (inst w b) f r

-- complete: each settled solution that relates the sides by a settled proof extends to one for the table and the goals
pub complete_by_proofs : (m : Meaning) (mode : Mode) (e : Tree) (c d : Content) (v : Variance) (a b : Tree) (goals : List Tree) (x : AreRelatedBy m mode e c d v a b goals) (w : World) → Solves c w → IsSettledWorld (judged_in m mode e w) c w
    → IsFormed (inst w a) → RelatedByProofs m mode e w v a b → (y : SettledExtension (judged_in m mode e w) c d w (λ f. Unit {0})) × AllSettleIn (judged_in m mode e w) y.world x.owed
complete_by_proofs m mode e c d v a b goals x w s t f r = x.complete w s t (proofs_settle m mode e w v a b f r)

pub none_by_proofs : (m : Meaning) (mode : Mode) (e : Tree) (c : Content) (v : Variance) (a b : Tree) → AreUnrelatedBy m mode e c v a b → (w : World) → Solves c w → IsSettledWorld (judged_in m mode e w) c w → IsFormed (inst w a) → RelatedByProofs m mode e w v a b → ⊥
none_by_proofs m mode e c v a b x w s t f r = x.none w s t (proofs_settle m mode e w v a b f r)
