-- New variables that are one with old ones stand for settled trees.
use Rattle.std.proofs.Common.{◌≡◌, ◌≢◌, ⊎_elim, ℕ, ◌<◌, ◌≤◌, length, Option, Some, None, refl, sym, subst}
use Rattle.std.specs.Prelude.{slice_get}
use Rattle.std.proofs.lemmas.Bool.{cases_lt}
use Rattle.nts_model.specs.declared.labels.VariableKind.{VariableKind}
use Rattle.nts_model.specs.declared.labels.VariableKind.TheVariants as kind
use Rattle.nts_model.specs.Terms.Trees.{Tree, empty, variable_tree}
use Rattle.nts_model.specs.Tables.Contents.{Content, Slot, kind_at}
use Rattle.nts_model.specs.Tables.Resolving.{IsSound}
use Rattle.nts_model.specs.Terms.Regions.{IsRegion}
use Rattle.nts_model.specs.Tables.Worlds.{World, Solves}
use Rattle.nts_variance_model.specs.Variances.Judging.{Judging, IsSettled, IsLawfulJudging}
use Rattle.nts_variance_model.specs.Variances.Relations.{IsSettledWorld}
use Rattle.nts_model.specs.Tables.Tying.{TiesNew}
use Rattle.nts_model.proofs.Tables.Slots.{some_slot}
use Rattle.nts_model.proofs.Tables.Worlds.{slice_get_some, inst-one}
use Rattle.nts_model.proofs.Tables.AliasLabels.{not_alias, region_tree_of}

module _ (J : Judging) (law : IsLawfulJudging J) where
  pub region_settled : (t : Tree) → IsRegion t → IsSettled J t
  region_settled t r =
      let x = region_tree_of t r in
      subst (IsSettled J) (sym x.is) ((λ i. absurd (not_alias x.label empty x.no_alias i)), tt)

  -- a settled world of the old variables is one of the new ones too
  pub settled_tied : (c d : Content) (w : World) → IsSound d → Solves d w → TiesNew c d → IsSettledWorld J c w → IsSettledWorld J d w
  settled_tied c d w sound solves ties settled = record { each = each }
    where
      joined : (n : ℕ) (k : VariableKind) → length c.slots ≤ n → kind_at d n ≡ Some k → k ≢ kind.Region → IsSettled J (w.tree n)
      joined n k l e other =
          let x = ties.tied n k l e other in
          let same : w.tree n ≡ w.tree x.0 = inst-one d w (variable_tree k n) (variable_tree k x.0) sound solves x.3 in
          subst (IsSettled J) (sym same) (settled.each x.0 x.1)

      by_kind : (n : ℕ) (k : VariableKind) → length c.slots ≤ n → kind_at d n ≡ Some k → IsSettled J (w.tree n)
      by_kind n kind.Region l e = (let v = solves.fitting.each n kind.Region e in region_settled (w.tree n) v.fits)
      by_kind n kind.Ty l e = joined n kind.Ty l e (λ q. cc)
      by_kind n kind.Int l e = joined n kind.Int l e (λ q. cc)
      by_kind n kind.Float l e = joined n kind.Float l e (λ q. cc)
      by_kind n kind.Const l e = joined n kind.Const l e (λ q. cc)

      by_slot : (n : ℕ) (o : Option Slot) → slice_get d.slots n ≡ o → length c.slots ≤ n → n < length d.slots → IsSettled J (w.tree n)
      by_slot n None q l h = absurd (slice_get_some d.slots n h q)
      by_slot n (Some v) q l h = by_kind n v.kind l (some_slot (λ x. x.kind) d n v q)

      each : (n : ℕ) → n < length d.slots → IsSettled J (w.tree n)
      each n h = ⊎_elim
          (λ (l : n < length c.slots). settled.each n l)
          (λ (l : length c.slots ≤ n). by_slot n (slice_get d.slots n) refl l h) (cases_lt n (length c.slots))
