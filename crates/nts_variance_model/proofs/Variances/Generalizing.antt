-- Generalizing by variances: the rows of the walk.
use Rattle.std.proofs.Common.{◌≡◌, ◌⊎◌, ⊎_elim, ℕ, ◌+◌, ◌<◌, ◌≤◌, true, false, Option, None, List, [], ◌∷◌, ◌++◌, length, length-append, refl, sym, ap, ◌∙◌, arith, subst}
use Rattle.nts_model.specs.declared.labels.Variance.{Variance}
use Rattle.nts_model.specs.declared.labels.Variance.TheVariants as variance
use Rattle.nts_model.specs.declared.labels.VariableKind.{VariableKind}
use Rattle.nts_model.specs.declared.labels.VariableKind.TheVariants as kind
use Rattle.nts_model.specs.declared.labels.AliasHead.{AliasHead}
use Rattle.nts_model.specs.declared.labels.AliasHead.TheVariants as alias_of
use Rattle.nts_model.specs.declared.labels.Label.{Label}
use Rattle.nts_model.specs.Terms.Trees.{Tree, empty, more, node, children, kind_of, binders, is_alias, is_canonical, IsRow, IsClosedUnder, IsClosed, IsFormed, variable_of, variable_tree}
use Rattle.nts_model.specs.Terms.Scoping.{IsListed, ListsBound, KeepsListed}
use Rattle.nts_model.specs.Terms.Placeholders.{leaf_level, CanName}
use Rattle.nts_model.specs.Tables.Contents.{Content, Slot, unset, Recorded, with_slot, with_constraint}
use Rattle.nts_model.specs.Tables.Resolving.{Knows, KnowsVariable, IsSound}
use Rattle.nts_model.specs.Tables.Levels.{NamesAll, term_level}
use Rattle.nts_model.specs.Terms.Fitting.{Fits}
use Rattle.nts_model.specs.Terms.Regions.{IsRegion}
use Rattle.nts_model.specs.Tables.Worlds.{World, renamed, inst, with_tree, IsValue, IsMet, Solves, Agrees, KnowsAll}
use Rattle.nts_model.specs.Tables.Holding.{Continues}
use Rattle.nts_model.specs.Derivations.Related.{region_constraint, times, first_variance, rest_variances, constructor, function, function_variances, value, alias_label, alias, arguments}
use Rattle.nts_variance_model.specs.Variances.Judging.{Judging, IsSettled, IsValueOf, Along, Settles, AllSettle, IsLawfulJudging}
use Rattle.nts_variance_model.specs.Variances.Relations.{Relating, AllSettleIn, ArePairsKnown, IsJudgedBy, IsSettledWorld, SettledExtension}
use Rattle.nts_model.proofs.Tables.Slots.{field-with_slot_new, KeepsKinds, KeepsKinds-with_slot, Knows-kept}
use Rattle.nts_model.proofs.Tables.Instances.{inst-node, Agrees-refl, Agrees-trans, Agrees-with_tree, tree-with_tree, inst-agrees, IsTrueOf-agrees}
use Rattle.nts_model.proofs.Tables.Under.{same_or_other}
use Rattle.nts_model.proofs.Tables.Solving.{IsNameable-with_slot, IsNameable-agrees, Solves-with_slot, Solves-from_with_slot, Solves-with_constraint, Solves-from_with_constraint}
use Rattle.nts_model.proofs.Tables.Held.{Continues-refl, Continues-trans, Continues-with_slot, Continues-with_constraint}
use Rattle.nts_model.proofs.Tables.Sound.{IsSound-with_slot}
use Rattle.nts_model.proofs.Tables.AliasLabels.{not_alias, region_closed}
use Rattle.nts_variance_model.proofs.Variances.Alongside.{beside_leaf, along_empty, along_rows_closed, rows_row}
use Rattle.nts_variance_model.proofs.Variances.Settling.{normalizes_itself, replaced_closed}
use Rattle.nts_model.proofs.Tables.Fitting.{IsValue-variable, Fits-inst, IsValue-inst}
use Rattle.nts_variance_model.proofs.Variances.SettleRows.{settles_kind, settles_closed, settles_itself, settled_one, settled_along, regions_settle, settle_regions, more_beside, region_beside, empty_forward, settle_row, settle_no_row, settle_constructors, constructor_beside, settle_functions, function_beside, settle_values, value_beside, settle_open, open_beside, row_backward}

-- the constraint that a fresh region owes
abbrev pub owed : Variance → Tree → Tree → Recorded
owed p a b = (let k = region_constraint p a b in record { relation = k.relation; left = k.left; right = k.right; is_visible = true })

module _ (J : Judging) (law : IsLawfulJudging J) where
  -- what worlds that agree have in common
  pub judged_agrees : (n : ℕ) (w v : World) → Agrees n w v → IsJudgedBy J w → IsJudgedBy J v
  judged_agrees n w v a h =
      let turned : Agrees 0 v w = record { trees = λ m l. absurd (omega (arith, l)); regions = λ r. sym (a.regions r); outlives = λ p q. sym (a.outlives p q) } in
      record {
        met = λ x i. IsTrueOf-agrees n w v x.relation x.left x.right a (h.met x i);
        held = λ x i. h.held x (IsTrueOf-agrees 0 v w x.relation x.left x.right turned i);
      }

  pub settle_agrees : (c : Content) (w v : World) (gs : List Relating) → Agrees (length c.slots) w v → ArePairsKnown c gs → AllSettleIn J w gs → AllSettleIn J v gs
  settle_agrees c w v [] a k h = tt
  settle_agrees c w v (g ∷ gs) a k h =
      let l : inst v g.left ≡ inst w g.left = inst-agrees c w v g.left a k.0 in
      let r : inst v g.right ≡ inst w g.right = inst-agrees c w v g.right a k.1 in
      (subst (λ z. Settles J g.variance z (inst v g.right)) (sym l) (subst (Settles J g.variance (inst w g.left)) (sym r) h.0), settle_agrees c w v gs a k.2 h.1)

  pub settle_joined : (w : World) (gs hs : List Relating) → AllSettleIn J w gs → AllSettleIn J w hs → AllSettleIn J w (gs ++ hs)
  settle_joined w [] hs a b = b
  settle_joined w (g ∷ gs) hs a b = (a.0, settle_joined w gs hs a.1 b)

  pub settle_parted : (w : World) (gs hs : List Relating) → AllSettleIn J w (gs ++ hs) → AllSettleIn J w gs × AllSettleIn J w hs
  settle_parted w [] hs a = (tt, a)
  settle_parted w (g ∷ gs) hs a = let r = settle_parted w gs hs a.1 in ((a.0, r.0), r.1)

  pub owed_met : (w : World) → IsJudgedBy J w → (p : Variance) (a b : Tree) → J.holds (region_constraint p (inst w a) (inst w b)) → IsMet w (owed p a b)
  owed_met w j variance.Invariant a b h = j.met (region_constraint variance.Invariant (inst w a) (inst w b)) h
  owed_met w j variance.Covariant a b h = j.met (region_constraint variance.Covariant (inst w a) (inst w b)) h
  owed_met w j variance.Contravariant a b h = j.met (region_constraint variance.Contravariant (inst w a) (inst w b)) h

  pub owed_holds : (w : World) → IsJudgedBy J w → (p : Variance) (a b : Tree) → IsMet w (owed p a b) → J.holds (region_constraint p (inst w a) (inst w b))
  owed_holds w j variance.Invariant a b h = j.held (region_constraint variance.Invariant (inst w a) (inst w b)) h
  owed_holds w j variance.Covariant a b h = j.held (region_constraint variance.Covariant (inst w a) (inst w b)) h
  owed_holds w j variance.Contravariant a b h = j.held (region_constraint variance.Contravariant (inst w a) (inst w b)) h

  -- a fresh variable
  module _ (c : Content) (v : Slot) (free : v.state ≡ unset) (sound : IsSound c) (sides : KnowsAll c c.constraints) where
    fresh_length : length (with_slot c v).slots ≡ length c.slots + 1
    fresh_length = omega (arith, length-append c.slots (v ∷ []))

    pub record FreshIn (w : World) (s : Tree) : Type 0 where
      pub extension : SettledExtension J c (with_slot c v) w (λ f. NamesAll f v.universe s)
      pub is : inst extension.world (variable_tree v.kind (length c.slots)) ≡ s

    pub fresh_in : (w : World) (s : Tree) → Solves c w → IsSettledWorld J c w → IsSettled J s → NamesAll term_level v.universe s → IsValue v.kind s → FreshIn w s
    fresh_in w s h settled t names fits =
        let wide = with_tree w (length c.slots) s in
        let agrees = Agrees-with_tree (length c.slots) (length c.slots) w s (omega arith) in
        record {
          extension = record {
            world = wide;
            agrees = agrees;
            solves = Solves-with_slot c v free sound sides w s h names fits;
            settled = record {
              each = λ n l. ⊎_elim
                  (λ (e : n ≡ length c.slots). subst (IsSettled J) (sym (ap wide.tree e ∙ tree-with_tree w (length c.slots) s)) t)
                  (λ (d : n ≡ length c.slots → ⊥). (let q = fresh_length in let below : n < length c.slots = omega (arith, q, l, d) in subst (IsSettled J) (sym (agrees.trees n below)) (settled.each n below))) (same_or_other n (length c.slots));
            };
            names = λ f k n. IsNameable-with_slot c v free f wide (IsNameable-agrees f c w wide agrees k) (subst (NamesAll f v.universe) (sym (tree-with_tree w (length c.slots) s)) n);
          };
          is = tree-with_tree w (length c.slots) s;
        }
