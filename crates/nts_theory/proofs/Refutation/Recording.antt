-- A goal that something outlives a region, which is proved in a world of its table, is recorded there.
use Rattle.std.specs.Prelude.{◌≡◌, false}
use Rattle.std.proofs.Common.{subst}
use Rattle.nts_model.specs.Terms.Trees.{Tree, any_label, is_alias}
use Rattle.nts_model.specs.Tables.Contents.{Content}
use Rattle.nts_model.specs.Tables.Resolving.{Knows}
use Rattle.nts_model.specs.Tables.Levels.{AreCurrent}
use Rattle.nts_model.specs.Tables.Worlds.{World, inst}
use Rattle.nts_model.specs.Derivations.Related.{Constraint, pair, unbound}
use Rattle.nts_model.specs.Derivations.Handlers.{Handler, IsLawfulHandler}
use Rattle.nts_model.specs.Refutation.Opening.{opened_in}
use Rattle.nts_model.specs.Refutation.Containing.{Truth, IsSolution, IsTrueBy, IsAliasFree, IsPlainWorld}
use Rattle.nts_model.specs.Refutation.Coherence.{RulesAreOffered}
use Rattle.nts_theory.specs.Outliving.{IsOutlives}
use Rattle.nts_theory.specs.Affirming.{outlives_it}
use Rattle.nts_theory.specs.Refutation.Refutation.{IsTheory, IsGrantedAsIs}
use Rattle.nts_theory.proofs.Refutation.Stating.{said_there}
use Rattle.nts_theory.proofs.Refutation.PlainTerms.{free_none, unlabelled_free}

-- what is recorded is true in each world in which the goal is proved
pub recorded_true : (h : Handler) (truth : Truth) (Proves : Tree → Tree → Type 0) (theory : IsTheory h truth Proves) (lawful : IsLawfulHandler h) (law : RulesAreOffered h) (c : Content) (e g : Tree) (w : World) → IsSolution truth 0 c w → AreCurrent c → Knows c (pair e g) → IsPlainWorld c w
    → IsGrantedAsIs Proves (inst w e) (inst w g) → (x : Constraint) → IsOutlives (opened_in c g) x → any_label is_alias (opened_in c g) ≡ false → IsTrueBy truth x.relation (inst w x.left) (inst w x.right)
recorded_true h truth Proves theory lawful law c e g w s current known free granted x is none =
    let f : IsAliasFree (unbound is.statement) = subst IsAliasFree is.binds_nothing (unlabelled_free (opened_in c g) none) in
    said_there h truth Proves theory lawful law c e g w s current known free granted is.statement is.binds_nothing x (outlives_it is.says) is.closed (free_none is.statement f.1.1.0)
