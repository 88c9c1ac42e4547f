-- Rows of taking pairs: what each leaves.
use Rattle.nts_variance_model.proofs.Variances.Forms.{deeply_resolved-over}
use Rattle.std.proofs.Common.{◌≡◌, ◌⊎◌, inl, ⊎_elim, ℕ, Bool, true, false, List, [], ◌∷◌, Some, refl, sym, subst}
use Rattle.std.proofs.lemmas.List.Elements.{Contains-push}
use Rattle.nts_variance.specs.Passing.{PairsPass}
use Rattle.nts_variance.specs.Plain.{ArePairsPlain}
use Rattle.nts_relating.specs.Relating.{IsPlainIn, KeepsPlain}
use Rattle.nts_model.proofs.Tables.Bringing.{brings-with_constraint}
use Rattle.nts_model.specs.Tables.Passing.{TreePasses, BringsLabelsOf}
use Rattle.nts_model.specs.declared.labels.Label.{Label}
use Rattle.nts_variance.proofs.Passes.{owed_passes, over_parted, pairs_pass}
use Rattle.nts_model.specs.declared.labels.Sort.{Sort}
use Rattle.nts_model.specs.declared.labels.Variance.{Variance}
use Rattle.nts_model.specs.declared.labels.Variance.TheVariants as variance
use Rattle.nts_model.specs.declared.labels.VariableKind.{VariableKind}
use Rattle.nts_model.specs.declared.labels.VariableKind.TheVariants as kind
use Rattle.nts_model.specs.Terms.Trees.{Tree, kind_of, of_sort, any_label, is_alias, is_infer, row_length, IsRow, IsFormed, variable_tree}
use Rattle.nts_model.specs.Tables.Contents.{Content, with_constraint, kind_at}
use Rattle.nts_model.specs.Tables.Resolving.{IsSound, Knows, deeply_resolved}
use Rattle.nts_model.specs.Terms.Regions.{IsRegion}
use Rattle.nts_model.specs.Tables.Worlds.{World, inst, Solves}
use Rattle.nts_model.specs.Tables.Holding.{Continues, HoldsConstraint, AreOne}
use Rattle.nts_model.specs.Tables.Solvable.{IsSolvable}
use Rattle.nts_model.specs.Tables.Equations.{AreRelated, AreUnrelated}
use Rattle.nts_model.specs.Tables.Tying.{TiesNew}
use Rattle.nts_model.specs.Derivations.Related.{Related, one_tree}
use Rattle.nts_model.specs.Lists.{Among}
use Rattle.nts_model.specs.Derivations.Proving.{recorded_as}
use Rattle.nts_variance_model.specs.Variances.Judging.{IsSettled, Settles, opposite}
use Rattle.nts_variance_model.specs.Variances.Relations.{Relating, AllSettleIn, IsSettledWorld}
use Rattle.nts_variance_model.specs.Variances.AnsweredGoals.{AllRelatedUnder}
use Rattle.nts_variance_model.specs.Variances.Leaving.{Judge, judging_of, Leaves, Refuses}
use Rattle.nts_variance_model.specs.Variances.Forms.{Form, over, variances_over, FitsForm, pairs_over}
use Rattle.nts_model.proofs.Tables.Alike.{AreAlike-turned}
use Rattle.nts_model.proofs.Tables.AliasLabels.{region_closed}
use Rattle.nts_model.proofs.Tables.Fitting.{Fits-inst}
use Rattle.nts_variance_model.proofs.Variances.Generalizing.{owed}
use Rattle.nts_model.proofs.Tables.Held.{AreOne-continues, Continues-refl, Continues-trans, Continues-with_constraint}
use Rattle.nts_variance_model.proofs.Variances.Leaving.{leaves_over, leaves_regions, relates_over}
use Rattle.nts_variance_model.proofs.Variances.SettleRows.{settled_one}
use Rattle.nts_model.proofs.Tables.Slots.{Knows-kept}
use Rattle.nts_variance_model.proofs.Variances.Tied.{settled_tied}
use Rattle.nts_store.specs.declared.nodes.NodeId.{NodeId}
use Rattle.nts_store.specs.Growth.{tree_at}
use Rattle.nts_unify.specs.Entries.{Entries}
use Rattle.nts_unify.specs.Reading.{content_of}
use Rattle.nts_unify.specs.Changing.{IsLater}
use Rattle.nts_unify.proofs.Keeping.{KeepsKnowing-with_constraint}
use Rattle.nts_variance.specs.Walking.{RelatedSides, sides}
use Rattle.nts_variance.specs.declared.along.Relating.{Relating as Goal}
use Rattle.nts_variance.specs.Terms.{pairs_at}
use Rattle.nts_variance.specs.Pairs.{IsBound}
use Rattle.nts_variance.specs.Taking.{Takes}
use Rattle.nts_model.proofs.Tables.Tying.{TiesNew-same}
use Rattle.nts_variance.proofs.Growing.{grown_refl, grown_later}
use Rattle.nts_model.proofs.Tables.Sound.{resolved-same, SameStates-with_constraint}
use Rattle.nts_variance.proofs.Founding.{founds_tied}
use Rattle.nts_variance.proofs.PlainTerms.{keeps_same, stays_none, plain_over, plain_pairs}
use Rattle.nts_variance.proofs.Leaves.{inst_settled, kept_kinds, owed_seen, owed_related}
use Rattle.nts_variance.proofs.Likeness.{sides_related}
use Rattle.nts_variance.proofs.Pairs.{leaves_by, Leaves-fewer}
use Rattle.nts_variance.proofs.Pieces.{plain_alone}

abbrev pub pair_of : Variance → Tree → Tree → Relating
pair_of v a b = record { variance = v; left = a; right = b }

-- trees without aliases that settle invariantly are one
same_instance : (declared : ℕ → List Variance) (j : Judge declared) (c : Content) (w : World) (a b : Tree) → IsSettledWorld (judging_of declared j) c w → Knows c a → Knows c b → any_label is_alias a ≡ false → any_label is_alias b ≡ false
    → Settles (judging_of declared j) variance.Invariant (inst w a) (inst w b) → inst w a ≡ inst w b
same_instance declared j c w a b settled ka kb pa pb h =
    let J = judging_of declared j in
    settled_one J j.lawful (inst w a) (inst w b) (inst_settled J c w a settled ka pa) (inst_settled J c w b settled kb pb) h

module _ (declared : ℕ → List Variance) where
  -- a pair of trees that are one under each later table
  pub takes_one : (c : Content) (v : Variance) (a b : Tree) → IsSound c → ((f : Content) → Continues c f → deeply_resolved f a ≡ deeply_resolved f b) → Takes declared c c (pair_of v a b ∷ []) [] []
  takes_one c v a b sound one =
      record {
        later = grown_refl c;
        continues = Continues-refl c sound;
        leaves = Leaves-fewer declared c (pair_of v a b) [];
        relates = record {
          related = λ f s on ks g h. (subst (Related declared (λ t. Unit {0}) (λ x. HoldsConstraint f (recorded_as x)) (Among ks) v (deeply_resolved f a)) (one f on) (one_tree tt), tt);
        };
        plain = λ h. (stays_none c, tt);
        passes = λ P p h k. (h, tt, tt);
      }

  pub takes_class : (c : Content) (v : Variance) (a b : Tree) → IsSound c → Knows c a → Knows c b → AreOne c a b → Takes declared c c (pair_of v a b ∷ []) [] []
  takes_class c v a b sound ka kb one = takes_one c v a b sound (λ f on. AreOne-continues c f a b on ka kb one)

  -- two free regions
  pub takes_regions : (c : Content) (v : Variance) (a b : Tree) → IsSound c → Knows c a → Knows c b → IsRegion a → IsRegion b → Takes declared c (with_constraint c (owed v a b)) (pair_of v a b ∷ []) [] []
  takes_regions c v a b sound ka kb i j =
      let x = owed v a b in
      let seen = KeepsKnowing-with_constraint c x (owed_seen v a b (region_closed 0 a i) (region_closed 0 b j)) in
      record {
        later = grown_later seen.later;
        continues = Continues-with_constraint c x sound;
        leaves = leaves_by declared c (with_constraint c x) (pair_of v a b ∷ []) [] []
            (λ q. leaves_regions (judging_of declared q) q.lawful c v a b (λ w s. Fits-inst c w kind.Region a s.fitting ka i) (λ w s. Fits-inst c w kind.Region b s.fitting kb j));
        relates = record { related = λ f s on ks g h. (owed_related declared f ks v a b s i j (on.constraints x (Contains-push c.constraints x)), tt) };
        plain = λ h. (record { keeps = keeps_same c (with_constraint c x) (λ t k. resolved-same c (with_constraint c x) t (SameStates-with_constraint c x)); founds = founds_tied c (with_constraint c x) (λ n j q. q) (TiesNew-same c (with_constraint c x) refl) }, tt);
        passes = λ P p h k. ((let sides = owed_passes P v a b k.0 k.1 in let y = brings-with_constraint c x in y.labels P (p.variables) h sides.0 sides.1), tt, tt);
      }

  -- two nodes of one form
  pub takes_over : (c : Content) (v : Variance) (F : Form) (ts us : Tree) → IsSound c → IsRow ts → IsRow us → row_length ts ≡ row_length us → FitsForm F ts → FitsForm F us → Knows c ts → Knows c us → IsFormed ts → IsFormed us
      → Takes declared c c (pair_of v (over F ts) (over F us) ∷ []) (pairs_over v (variances_over declared F us) ts us) []
  takes_over c v F ts us sound r q e f g k l m n =
      record {
        later = grown_refl c;
        continues = Continues-refl c sound;
        leaves = leaves_by declared c c (pair_of v (over F ts) (over F us) ∷ []) (pairs_over v (variances_over declared F us) ts us) []
            (λ j. leaves_over (judging_of declared j) j.lawful c v F ts us r q e f g k l m n);
        relates = relates_over declared c v F ts us r q e f g k l m n;
        plain = λ h.
            (let sides = h.0 in
            let x = plain_over c F ts (deeply_resolved-over c F ts f) sides.0 in
            let y = plain_over c F us (deeply_resolved-over c F us g) sides.1 in
            (stays_none c, plain_pairs c v (variances_over declared F us) ts us x.1 y.1));
        passes = λ P p h i. (let x = over_parted P F ts i.0 in let y = over_parted P F us i.1 in (h, pairs_pass P v (variances_over declared F us) ts us x.1 y.1, tt));
      }

  -- two trees that were made equal: no alias is in them, nor in the values of one of them
  equal_leaves : (c d : Content) (a b : Tree) → IsSound d → Knows c a → Knows c b → any_label is_alias a ≡ false → any_label is_alias b ≡ false → AreRelated c d a b → TiesNew c d → Leaves declared c d (pair_of variance.Invariant a b ∷ []) [] []
  equal_leaves c d a b sound ka kb pa pb made ties =
      record {
        more = (let m = made.continues in m.more);
        back = λ w s. (made.sound w s).0;
        complete = λ j w s judges settled h.
            (let J = judging_of declared j in
            let q = made.complete w s (same_instance declared j c w a b settled ka kb pa pb h.0) in
            let kept : IsSettledWorld J c q.world = record { each = λ n l. subst (IsSettled J) (sym (q.agrees.trees n l)) (settled.each n l) } in (
              record { world = q.world; agrees = q.agrees; solves = q.solves; settled = settled_tied J j.lawful c d q.world sound q.solves ties kept; names = λ f n y. q.names f n tt },
              tt,
              tt,
            ));
      }

  pub takes_equal : (c d : Content) (a b : Tree) (i k : Sort) → IsSound d → IsSolvable d → IsLater c d → Knows c a → Knows c b → IsFormed a → IsFormed b → kind_of a ≡ Some (of_sort i) → kind_of b ≡ Some (of_sort k) → any_label is_alias a ≡ false → any_label is_alias b ≡ false
      → (any_label is_infer a ≡ false) ⊎ (any_label is_infer b ≡ false) → AreRelated c d a b → TiesNew c d → BringsLabelsOf c d a b → (IsPlainIn c a → IsPlainIn c b → KeepsPlain c d) → Takes declared c d (pair_of variance.Invariant a b ∷ []) [] []
  takes_equal c d a b i k sound solvable later ka kb fa fb sa sb pa pb values made ties brings kept =
      let la = Knows-kept c d a (kept_kinds c d made.continues) ka in
      let lb = Knows-kept c d b (kept_kinds c d made.continues) kb in
      record {
        later = grown_later later;
        continues = made.continues;
        leaves = equal_leaves c d a b sound ka kb pa pb made ties;
        relates = record {
          related = λ f s on ks g h. (
            ⊎_elim
                (λ e. sides_related declared d f ks sound s on solvable true variance.Invariant b a lb la (AreAlike-turned d a b made.alike) (plain_alone d a e pa) fa i sa (inl refl))
                (λ e. sides_related declared d f ks sound s on solvable false variance.Invariant a b la lb made.alike (plain_alone d b e pb) fb k sb (inl refl)) values,
            tt,
          );
        };
        plain = λ h. (let sides = h.0 in (record { keeps = kept sides.0 sides.1; founds = founds_tied c d later.kinds ties }, tt));
        passes = λ P p h i. (brings.labels P (p.variables) h i.0 i.1, tt, tt);
      }

  pub refuses_equal : (c : Content) (a b : Tree) → Knows c a → Knows c b → any_label is_alias a ≡ false → any_label is_alias b ≡ false → AreUnrelated c a b → Refuses declared c (pair_of variance.Invariant a b ∷ [])
  refuses_equal c a b ka kb pa pb apart =
      record { none = λ j w s judges settled h. apart.none w s (same_instance declared j c w a b settled ka kb pa pb h.0) }

  -- what is done for a pair serves one that settles with it
  pub Leaves-from : (c d : Content) (ps os qs gs : List Relating) → ((j : Judge declared) (w : World) → Solves c w → AllSettleIn (judging_of declared j) w os → AllSettleIn (judging_of declared j) w ps) → Leaves declared c d ps qs gs → Leaves declared c d os qs gs
  Leaves-from c d ps os qs gs from a =
      record { more = a.more; back = a.back; complete = λ j w s judges settled h. a.complete j w s judges settled (from j w s h) }

  pub Refuses-from : (c : Content) (ps os : List Relating) → ((j : Judge declared) (w : World) → Solves c w → AllSettleIn (judging_of declared j) w os → AllSettleIn (judging_of declared j) w ps) → Refuses declared c ps → Refuses declared c os
  Refuses-from c ps os from r = record { none = λ j w s judges settled h. r.none j w s judges settled (from j w s h) }

  -- the same for a variable and its root
  pub sides_from : (z : Bool) (c : Content) (v : Variance) (x y t : Tree) → ((w : World) → Solves c w → inst w x ≡ inst w y) → (j : Judge declared) (w : World) → Solves c w → AllSettleIn (judging_of declared j) w (sides z v x t ∷ []) → AllSettleIn (judging_of declared j) w (sides z v y t ∷ [])
  sides_from false c v x y t same j w s h = (subst (λ r. Settles (judging_of declared j) v r (inst w t)) (same w s) h.0, tt)
  sides_from true c v x y t same j w s h = (subst (λ r. Settles (judging_of declared j) (opposite v) (inst w t) r) (same w s) h.0, tt)

  -- a variable, or one of its class, that was made one with what stands for a term
  sides_under : (z : Bool) (f : Content) (ks : List Tree) (v : Variance) (x t : Tree) → RelatedSides z declared f ks v (deeply_resolved f x) (deeply_resolved f t) → AllRelatedUnder declared f ks (sides z v x t ∷ [])
  sides_under false f ks v x t h = (h, tt)
  sides_under true f ks v x t h = (h, tt)

  side_term : (z : Bool) (v : Variance) (r t : Tree) (P : Label → Bool) → PairsPass P (sides z v r t ∷ []) → TreePasses P t
  side_term false v r t P h = h.1
  side_term true v r t P h = h.0

  plain_term : (z : Bool) (c : Content) (v : Variance) (r t : Tree) → ArePairsPlain c (sides z v r t ∷ []) → IsPlainIn c t
  plain_term false c v r t h = (let x = h.0 in x.1)
  plain_term true c v r t h = (let x = h.0 in x.0)

  pub takes_bound : (z : Bool) (ts us : List Tree) (e f : Entries) (v : Variance) (k : VariableKind) (x : ℕ) (o : Tree) (t : NodeId) (gs : List Goal) → IsBound declared z ts us e f v k x t gs → IsSound (content_of ts e) → Knows (content_of ts e) o → kind_at (content_of ts e) x ≡ Some k
      → AreOne (content_of ts e) o (variable_tree k x) → ((w : World) → Solves (content_of ts e) w → inst w o ≡ inst w (variable_tree k x)) → Takes declared (content_of ts e) (content_of us f) (sides z v o (tree_at ts t) ∷ []) [] (pairs_at us gs)
  takes_bound z ts us e f v k x o t gs b sound knows has one same =
      let c = content_of ts e in
      let d = content_of us f in
      let own = variable_tree k x in
      let term = tree_at ts t in
      record {
        later = b.later;
        continues = b.continues;
        leaves = Leaves-from c d (sides z v own term ∷ []) (sides z v o term ∷ []) [] (pairs_at us gs) (sides_from z c v o own term same) b.leaves;
        relates = record {
          related = λ g s on ks answered h.
              (let there = AreOne-continues c g o own (Continues-trans c d g sound b.continues on) knows ((has, tt, refl), tt, tt) one in
              sides_under z g ks v o term (subst (λ y. RelatedSides z declared g ks v y (deeply_resolved g term)) (sym there) (b.related g s on ks answered)));
        };
        plain = λ h. (b.plain (plain_term z c v o term h), tt);
        passes = λ P p h i. (let y = b.passes P p h (side_term z v o term P i) in (y.0, tt, y.1));
      }
