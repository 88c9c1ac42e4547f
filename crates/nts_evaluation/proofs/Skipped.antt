-- A goal that stalled is skipped or asked; and a table that is not touched keeps its solutions.
use Rattle.std.proofs.Common.{◌≡◌, None, Some, length}
use Rattle.std.specs.Prelude.{IfSome, Option}
use Rattle.nts_model.specs.Terms.Trees.{Tree}
use Rattle.nts_model.specs.Tables.Contents.{Content}
use Rattle.nts_model.specs.Derivations.Handlers.{Handler}
use Rattle.nts_model.proofs.Tables.Instances.{Agrees-refl}
use Rattle.nts_theory.specs.Refutation.Refutation.{KeepsSolutionsOf}
use Rattle.nts_terms.specs.declared.cx.Cx.{Cx}
use Rattle.nts_table.specs.Tables.{Table}
use Rattle.nts_asking.specs.declared.stalled.GoalStalledOn.{GoalStalledOn}
use Rattle.nts_asking.specs.Stalled.{StillStalls, IsNotStalled}

pub not_skipped : (cx : Cx) (t : Table) (o : Option GoalStalledOn) (P : GoalStalledOn → Type 0) → IsNotStalled cx t o → IfSome o (λ s. StillStalls cx t s → P s)
not_skipped cx t None P asked = tt
not_skipped cx t (Some s) P asked = λ stalls. absurd (asked stalls)

pub not_asked : {cx : Cx} {t : Table} {o : Option GoalStalledOn} {s : GoalStalledOn} → (o ≡ Some s) × StillStalls cx t s → IsNotStalled cx t o → ⊥
not_asked {cx} {t} {o} {s} h asked = (let again = rw h.0 at asked in again h.1)

pub keeps_its_own : (h : Handler) (c : Content) (e g : Tree) → KeepsSolutionsOf h c c e g
keeps_its_own h c e g = record { each = λ truth fair respects v w s plain p. (w, Agrees-refl (length c.slots) w, s) }
