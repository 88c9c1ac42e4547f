-- The loop over pairs to be related by variances: its steps, one after another, and the rows that leave a goal.
use Rattle.std.proofs.Common.{◌≡◌, ◌⊎◌, inl, inr, ⊎_elim, ℕ, false, Some, List, [], ◌∷◌, ◌++◌, length, refl, sym, ap, ◌∙◌, arith, subst}
use Rattle.nts_model.specs.declared.labels.Variance.{Variance}
use Rattle.nts_model.specs.Terms.Trees.{Tree, empty, more, node, label_of, is_alias, IsRow, row_length, IsClosed}
use Rattle.nts_model.specs.Tables.Contents.{Content, with_constraint}
use Rattle.nts_model.specs.Terms.Regions.{IsRegion}
use Rattle.nts_model.specs.Tables.Worlds.{World, inst, Solves}
use Rattle.nts_model.specs.declared.labels.Label.{Label}
use Rattle.nts_model.specs.Derivations.Related.{rest_variances, constructor, one_tree, regions, constructors, functions, values, open_aliases, aliases, subtypes}
use Rattle.nts_model.proofs.Tables.AliasLabels.{not_alias}
use Rattle.nts_variance_model.specs.Variances.Judging.{Judging, IsSettled, Normalizes, Along, Settles, AllSettle, IsLawfulJudging, opposite}
use Rattle.nts_variance_model.specs.Variances.Relations.{Relating, AllSettleIn, ArePairsKnown, IsSettledWorld, ReducesBy, RefusesBy}
use Rattle.nts_variance_model.specs.Variances.Forms.{pairs_over}
use Rattle.nts_model.proofs.Tables.Instances.{Agrees-refl, Agrees-trans}
use Rattle.nts_model.proofs.Tables.Solving.{Solves-with_constraint, Solves-from_with_constraint}
use Rattle.nts_variance_model.proofs.Variances.SettleRows.{settles_turned, settles_closed, settles_itself, constructors_settle, settle_constructors, row_settles, settle_row, settle_no_row, regions_settle, settle_regions, node_forward}
use Rattle.nts_variance_model.proofs.Variances.Alongside.{opposite_twice}
use Rattle.nts_variance_model.proofs.Variances.Generalizing.{judged_agrees, settle_agrees, settle_joined, settle_parted, owed, owed_met, owed_holds}

module _ (J : Judging) (law : IsLawfulJudging J) where
  -- the rows that leave a goal: an alias on a side; two type variables, or one that got its value in this call, by a variance
  -- that is not invariant
  pub row_goal : (c : Content) (p : Relating) → ReducesBy J c c (p ∷ []) [] (p ∷ [])
  row_goal c p =
      record {
        more = omega arith;
        back = λ w s. s;
        sound = λ w s j t h g. g;
        complete = λ w s j t h. (record { world = w; agrees = Agrees-refl (length c.slots) w; solves = s; settled = t; names = λ f q n. q }, tt, h);
      }

  -- two free regions
  pub row_regions : (c : Content) (v : Variance) (a b : Tree) → ((w : World) → Solves c w → IsRegion (inst w a)) → ((w : World) → Solves c w → IsRegion (inst w b)) → ReducesBy J c (with_constraint c (owed v a b)) (record { variance = v; left = a; right = b } ∷ []) [] []
  row_regions c v a b ra rb =
      record {
        more = omega arith;
        back = λ w s. (Solves-from_with_constraint c (owed v a b) w s).0;
        sound = λ w s j t h g.
            (let z = Solves-from_with_constraint c (owed v a b) w s in
            (settle_regions J law v (inst w a) (inst w b) (ra w z.0) (rb w z.0) (owed_holds J law w j v a b z.1), tt));
        complete = λ w s j t h.
            (let holds = regions_settle J law v (inst w a) (inst w b) (ra w s) (rb w s) h.0 in
            (record { world = w; agrees = record { trees = λ m l. refl; regions = λ r. refl; outlives = λ p q. refl }; solves = Solves-with_constraint c (owed v a b) w s (owed_met J law w j v a b holds); settled = record { each = t.each }; names = λ f q n. record { each = q.each } }, tt, tt));
      }

  pub settle_pairs : (w : World) (v : Variance) (ws : List Variance) (ts us : Tree) → IsRow ts → IsRow us → row_length ts ≡ row_length us → AllSettle J v ws (inst w ts) (inst w us) → AllSettleIn J w (pairs_over v ws ts us)
  settle_pairs w v ws empty empty r s e h = tt
  settle_pairs w v ws empty (more a b) r s e h = absurd (omega (arith, e))
  settle_pairs w v ws (more a b) empty r s e h = absurd (omega (arith, e))
  settle_pairs w v ws (more a ts) (more b us) r s e h =
      (let same : row_length ts ≡ row_length us = omega (arith, e) in
      let parts = row_settles J law v ws (inst w a) (inst w b) (inst w ts) (inst w us) h in
      (parts.0, settle_pairs w v (rest_variances ws) ts us r s same parts.1))
  settle_pairs w v ws (node l c) us r s e h = absurd r
  settle_pairs w v ws empty (node l c) r s e h = absurd s
  settle_pairs w v ws (more a b) (node l c) r s e h = absurd s

  -- two nodes of different labels, no aliases and no regions, are never related
  pub labels_agree : {v : Variance} {a b : Tree} → Along J v a b → (label_of a ≡ label_of b) ⊎ (IsRegion a × IsRegion b)
  labels_agree (one_tree s) = inl refl
  labels_agree (regions i j h) = inr (i, j)
  labels_agree (constructors rs) = inl refl
  labels_agree (functions rs) = inl refl
  labels_agree (values r) = inl refl
  labels_agree (open_aliases h i j rs) = inl refl
  labels_agree (aliases is _ _ p) = absurd p
  labels_agree (subtypes x n i j _ _ p) = absurd p
