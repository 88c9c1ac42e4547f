-- Two terms, or two lists of arguments, that were made equal, and in which no alias stands: what relating them invariantly leaves.
use Rattle.std.proofs.Common.{◌≡◌, ◌⊎◌, inl, inr, ⊎_elim, ℕ, ◌+◌, false, List, [], ◌∷◌, Some, refl, sym, ap, ◌∙◌, subst, arith}
use Rattle.nts_model.specs.Tables.Passing.{BringsLabelsOf}
use Rattle.nts_variance.proofs.Passes.{rows_pass}
use Rattle.nts_model.specs.declared.labels.Sort.{Sort}
use Rattle.nts_model.specs.declared.labels.Variance.{Variance}
use Rattle.nts_model.specs.declared.labels.Variance.TheVariants as variance
use Rattle.nts_model.specs.declared.labels.ListHead.TheVariants as list
use Rattle.nts_model.specs.declared.labels.Label.{Label}
use Rattle.nts_model.specs.declared.labels.Label.TheVariants as label
use Rattle.nts_model.specs.Terms.Trees.{Tree, empty, more, node, children, kind_of, of_sort, arguments, any_label, is_alias, row_length, any_argument, AllFit, IsRow, IsFormed}
use Rattle.nts_model.specs.Tables.Contents.{Content}
use Rattle.nts_model.specs.Tables.Resolving.{IsSound, Knows, resolved, deeply_resolved}
use Rattle.nts_model.specs.Terms.Regions.{IsRegion, name_of_label}
use Rattle.nts_model.specs.Tables.Worlds.{World, inst, Solves}
use Rattle.nts_model.specs.Tables.Holding.{Continues}
use Rattle.nts_model.specs.Tables.Solvable.{IsSolvable}
use Rattle.nts_model.specs.Tables.Equations.{AreRelated, AreUnrelated}
use Rattle.nts_model.specs.Tables.Tying.{TiesNew}
use Rattle.nts_model.specs.Tables.Alike.{Alike, one_tree, two_regions, one_label, two_rows, AreAlike}
use Rattle.nts_variance_model.specs.Variances.Judging.{IsSettled, Settles}
use Rattle.nts_variance_model.specs.Variances.Relations.{Relating, AllSettleIn, IsSettledWorld}
use Rattle.nts_variance_model.specs.Variances.AnsweredGoals.{AllRelatedUnder}
use Rattle.nts_variance_model.specs.Variances.Leaving.{Judge, judging_of, Leaves, Refuses}
use Rattle.nts_variance_model.specs.Variances.Forms.{pairs_over}
use Rattle.nts_model.proofs.Tables.Alike.{row_length-deeply_resolved}
use Rattle.nts_model.proofs.Tables.Fitting.{region_label}
use Rattle.nts_model.proofs.Tables.Open.{Knows-resolved}
use Rattle.nts_model.proofs.Tables.Resolved.{resolved-more, resolved-node, deeply_resolved-node}
use Rattle.nts_variance_model.proofs.Variances.SettleRows.{settled_one}
use Rattle.nts_model.proofs.Tables.Slots.{Knows-kept}
use Rattle.nts_variance_model.proofs.Variances.Tied.{settled_tied}
use Rattle.nts_model.proofs.Tables.Under.{same_or_other}
use Rattle.nts_model.proofs.Tables.Worlds.{inst-resolved}
use Rattle.nts_terms.proofs.Standing.{args_tree}
use Rattle.nts_unify.specs.Changing.{IsLater}
use Rattle.nts_relating.specs.Relating.{IsPlainIn, KeepsPlain}
use Rattle.nts_relating.proofs.Plain.{neither}
use Rattle.nts_variance.specs.Taking.{Takes}
use Rattle.nts_variance.specs.Rows.{argument_pairs}
use Rattle.nts_variance.proofs.Growing.{grown_later}
use Rattle.nts_variance.proofs.Founding.{founds_tied}
use Rattle.nts_variance.proofs.Leaves.{inst_settled, kept_kinds}
use Rattle.nts_variance.proofs.Likeness.{sides_related}
use Rattle.nts_variance.proofs.Pushing.{of_any}
use Rattle.nts_variance.proofs.Takes.{pair_of}
use Rattle.nts_model.proofs.Tables.TableInstances.{deeply_resolved-more}

-- rows, and parts of trees that are one but for regions
fitting_row : (t : Tree) → AllFit any_argument t → IsRow t
fitting_row empty h = tt
fitting_row (more a b) h = fitting_row b h.1
fitting_row (node l c) h = absurd h

alike_parts : (R : Tree → Tree → Type 0) (u v p q r s : Tree) → Alike R u v → u ≡ more p q → v ≡ more r s → Alike R p r × Alike R q s
alike_parts R u v p q r s one_tree e f =
    let z : more p q ≡ more r s = sym e ∙ f in
    let x : p ≡ r = cc in
    let y : q ≡ s = cc in
    (subst (Alike R p) x one_tree, subst (Alike R q) y one_tree)
alike_parts R u v p q r s (two_regions i j k) e f =
    let h : IsRegion (more p q) = subst IsRegion e i in
    let n = h.1 in
    cc
alike_parts R u v p q r s (one_label {l = l} {c = c} n h) e f = cc
alike_parts R u v p q r s (two_rows {a = a} {b = b} {c = c} {d = d} h k) e f =
    let x : a ≡ p = cc in
    let y : b ≡ q = cc in
    let z : c ≡ r = cc in
    let w : d ≡ s = cc in
    (subst (λ t. Alike R t r) x (subst (Alike R a) z h), subst (λ t. Alike R t s) y (subst (Alike R b) w k))

-- the label of a list
abbrev a_list : Label
a_list = label.List list.Args

no_region : (c : Tree) → IsRegion (node a_list c) → ⊥
no_region c h =
    let q = region_label a_list c h.0 h.1 in
    let n : name_of_label a_list ≡ Some h.0 = q.0 in
    cc

alike_list : (R : Tree → Tree → Type 0) (u v c d : Tree) → Alike R u v → u ≡ node a_list c → v ≡ node a_list d → Alike R c d
alike_list R u v c d one_tree e f =
    let z : node a_list c ≡ node a_list d = sym e ∙ f in
    let x : c ≡ d = cc in
    subst (Alike R c) x one_tree
alike_list R u v c d (two_regions i j k) e f =
    let h : IsRegion (node a_list c) = subst IsRegion e i in
    absurd (no_region c h)
alike_list R u v c d (one_label {c = x} {d = y} n h) e f =
    let p : x ≡ c = cc in
    let q : y ≡ d = cc in
    subst (λ t. Alike R t d) p (subst (Alike R x) q h)
alike_list R u v c d (two_rows h k) e f = cc

list_alike : (d : Content) (x y : Tree) → AreAlike d (node a_list x) (node a_list y) → AreAlike d x y
list_alike d x y h =
    alike_list _ (deeply_resolved d (node a_list x)) (deeply_resolved d (node a_list y)) (deeply_resolved d x) (deeply_resolved d y) h (deeply_resolved-node d a_list x refl) (deeply_resolved-node d a_list y refl)

region_long : (t : Tree) → IsRegion t → row_length t ≡ 0
region_long empty h = refl
region_long (more a b) h = (let n = h.1 in cc)
region_long (node l c) h = refl

alike_long : (R : Tree → Tree → Type 0) (u v : Tree) → Alike R u v → row_length u ≡ row_length v
alike_long R u v one_tree = refl
alike_long R u v (two_regions i j k) = region_long u i ∙ sym (region_long v j)
alike_long R u v (one_label n h) = refl
alike_long R u v (two_rows {b = b} {d = d} h k) = ap (λ n. n + 1) (alike_long R b d k)

rows_long : (d : Content) (x y : Tree) → IsRow x → IsRow y → AreAlike d x y → row_length x ≡ row_length y
rows_long d x y i j h =
    sym (row_length-deeply_resolved d x i) ∙ alike_long _ (deeply_resolved d x) (deeply_resolved d y) h ∙ row_length-deeply_resolved d y j

plain_parts : (c : Content) (a b : Tree) → IsPlainIn c (more a b) → IsPlainIn c a × IsPlainIn c b
plain_parts c a b h = neither (any_label is_alias (resolved c a)) (any_label is_alias (resolved c b)) (ap (any_label is_alias) (sym (resolved-more c a b)) ∙ h)

plain_row : (c : Content) (x : Tree) → IsPlainIn c (node a_list x) → IsPlainIn c x
plain_row c x h = ap (any_label is_alias) (sym (resolved-node c a_list x refl)) ∙ h

module _ (declared : ℕ → List Variance) where
  -- trees without aliases that settle invariantly are one
  one_instance : (j : Judge declared) (c : Content) (w : World) (a b : Tree) → IsSound c → Solves c w → IsSettledWorld (judging_of declared j) c w → Knows c a → Knows c b → IsPlainIn c a → IsPlainIn c b → Settles (judging_of declared j) variance.Invariant (inst w a) (inst w b) → inst w a ≡ inst w b
  one_instance j c w a b sound s settled ka kb pa pb h =
      let J = judging_of declared j in
      let sa : IsSettled J (inst w a) = subst (IsSettled J) (inst-resolved c w a sound s) (inst_settled J c w (resolved c a) settled (Knows-resolved c a sound ka) pa) in
      let sb : IsSettled J (inst w b) = subst (IsSettled J) (inst-resolved c w b sound s) (inst_settled J c w (resolved c b) settled (Knows-resolved c b sound kb) pb) in
      settled_one J j.lawful (inst w a) (inst w b) sa sb h

  one_rows : (j : Judge declared) (c : Content) (w : World) (a b : Tree) → IsSound c → Solves c w → IsSettledWorld (judging_of declared j) c w → Knows c a → Knows c b → IsPlainIn c a → IsPlainIn c b → IsRow a → IsRow b → row_length a ≡ row_length b
      → AllSettleIn (judging_of declared j) w (pairs_over variance.Invariant [] a b) → inst w a ≡ inst w b
  one_rows j c w empty empty sound s settled ka kb pa pb ra rb l h = refl
  one_rows j c w empty (more y b) sound s settled ka kb pa pb ra rb l h = absurd (omega (arith, l))
  one_rows j c w (more x a) empty sound s settled ka kb pa pb ra rb l h = absurd (omega (arith, l))
  one_rows j c w (more x a) (more y b) sound s settled ka kb pa pb ra rb l h =
      let p = plain_parts c x a pa in
      let q = plain_parts c y b pb in
      let first = one_instance j c w x y sound s settled ka.0 kb.0 p.0 q.0 h.0 in
      let rest = one_rows j c w a b sound s settled ka.1 kb.1 p.1 q.1 ra rb (omega (arith, l)) h.1 in
      λ i. more (first i) (rest i)
  one_rows j c w empty (node m b) sound s settled ka kb pa pb ra rb l h = absurd rb
  one_rows j c w (more x a) (node m b) sound s settled ka kb pa pb ra rb l h = absurd rb
  one_rows j c w (node m a) b sound s settled ka kb pa pb ra rb l h = absurd ra

  -- the pairs ps, which settle where the two trees are one
  made_leaves : (c d : Content) (a b : Tree) (ps : List Relating) → IsSound d → AreRelated c d a b → TiesNew c d
      → ((j : Judge declared) (w : World) → Solves c w → IsSettledWorld (judging_of declared j) c w → AllSettleIn (judging_of declared j) w ps → inst w a ≡ inst w b) → Leaves declared c d ps [] []
  made_leaves c d a b ps sound made ties one =
      record {
        more = (let m = made.continues in m.more);
        back = λ w s. (made.sound w s).0;
        complete = λ j w s judges settled h.
            (let J = judging_of declared j in
            let q = made.complete w s (one j w s settled h) in
            let kept : IsSettledWorld J c q.world = record { each = λ n l. subst (IsSettled J) (sym (q.agrees.trees n l)) (settled.each n l) } in (
              record { world = q.world; agrees = q.agrees; solves = q.solves; settled = settled_tied J j.lawful c d q.world sound q.solves ties kept; names = λ f n y. q.names f n tt },
              tt,
              tt,
            ));
      }

  pub takes_plain : (c d : Content) (a b : Tree) (k : Sort) → IsSound c → IsSound d → IsSolvable d → IsLater c d → Knows c a → Knows c b → IsFormed b → kind_of b ≡ Some (of_sort k) → IsPlainIn c a → IsPlainIn c b → KeepsPlain c d → AreRelated c d a b → TiesNew c d → BringsLabelsOf c d a b
      → Takes declared c d (pair_of variance.Invariant a b ∷ []) [] []
  takes_plain c d a b k first sound solvable later ka kb formed sorted pa pb kept made ties brings =
      let la = Knows-kept c d a (kept_kinds c d made.continues) ka in
      let lb = Knows-kept c d b (kept_kinds c d made.continues) kb in
      record {
        later = grown_later later;
        continues = made.continues;
        leaves = made_leaves c d a b (pair_of variance.Invariant a b ∷ []) sound made ties (λ j w s settled h. one_instance j c w a b first s settled ka kb pa pb h.0);
        relates = record {
          related = λ f s on ks g h. (sides_related declared d f ks sound s on solvable false variance.Invariant a b la lb made.alike (kept.plain b kb pb) formed k sorted (inl refl), tt);
        };
        plain = λ h. (record { keeps = kept; founds = founds_tied c d later.kinds ties }, tt);
        passes = λ P p h i. (brings.labels P (p.variables) h i.0 i.1, tt, tt);
      }

  pub refuses_plain : (c : Content) (a b : Tree) → IsSound c → Knows c a → Knows c b → IsPlainIn c a → IsPlainIn c b → AreUnrelated c a b → Refuses declared c (pair_of variance.Invariant a b ∷ [])
  refuses_plain c a b sound ka kb pa pb apart =
      record { none = λ j w s judges settled h. apart.none w s (one_instance j c w a b sound s settled ka kb pa pb h.0) }

  -- rows, pair by pair
  rows_related : (d f : Content) (ks : List Tree) (a b : Tree) → IsSound d → IsSound f → Continues d f → IsSolvable d → Knows d a → Knows d b → AreAlike d a b → IsPlainIn d b → IsFormed b → AllFit any_argument b → IsRow a
      → AllRelatedUnder declared f ks (pairs_over variance.Invariant [] a b)
  rows_related d f ks empty b sound s on solvable ka kb alike plain formed fits ra = tt
  rows_related d f ks (more x a) empty sound s on solvable ka kb alike plain formed fits ra = tt
  rows_related d f ks (more x a) (more y b) sound s on solvable ka kb alike plain formed fits ra =
      let al = alike_parts _ (deeply_resolved d (more x a)) (deeply_resolved d (more y b)) (deeply_resolved d x) (deeply_resolved d a) (deeply_resolved d y) (deeply_resolved d b) alike (deeply_resolved-more d x a) (deeply_resolved-more d y b) in
      let p = plain_parts d y b plain in
      let sort = of_any (kind_of y) fits.0 in (
        sides_related declared d f ks sound s on solvable false variance.Invariant x y ka.0 kb.0 al.0 p.0 formed.0 sort.0 sort.1 (inl refl),
        rows_related d f ks a b sound s on solvable ka.1 kb.1 al.1 p.1 formed.1 fits.1 ra,
      )
  rows_related d f ks (more x a) (node m b) sound s on solvable ka kb alike plain formed fits ra = absurd fits
  rows_related d f ks (node m a) b sound s on solvable ka kb alike plain formed fits ra = absurd ra

  -- two lists, by their nodes
  record TakesList (c d : Content) (x y : Tree) : Type 0 where
    long : row_length x ≡ row_length y
    takes : Takes declared c d (pairs_over variance.Invariant [] x y) [] []

  takes_list : (c d : Content) (x y : Tree) → IsSound c → IsSound d → IsSolvable d → IsLater c d → Knows c (node a_list x) → Knows c (node a_list y) → IsFormed (node a_list x) → IsFormed (node a_list y) → IsPlainIn c (node a_list x) → IsPlainIn c (node a_list y) → KeepsPlain c d
      → AreRelated c d (node a_list x) (node a_list y) → TiesNew c d → BringsLabelsOf c d (node a_list x) (node a_list y) → TakesList c d x y
  takes_list c d x y first sound solvable later ka kb fa fb pa pb kept made ties brings =
      let la = Knows-kept c d (node a_list x) (kept_kinds c d made.continues) ka in
      let lb = Knows-kept c d (node a_list y) (kept_kinds c d made.continues) kb in
      let ra = fitting_row x fa.0 in
      let rb = fitting_row y fb.0 in
      let al = list_alike d x y made.alike in
      let long = rows_long d x y ra rb al in
      record {
        long = long;
        takes = record {
          later = grown_later later;
          continues = made.continues;
          leaves = made_leaves c d (node a_list x) (node a_list y) (pairs_over variance.Invariant [] x y) sound made ties
              (λ j w s settled h. ap (node a_list) (one_rows j c w x y first s settled ka.1 kb.1 (plain_row c x pa) (plain_row c y pb) ra rb long h));
          relates = record { related = λ f s on ks g h. rows_related d f ks x y sound s on solvable la.1 lb.1 al (plain_row d y (kept.plain (node a_list y) kb pb)) fb.1 fb.0 ra };
          plain = λ h. (record { keeps = kept; founds = founds_tied c d later.kinds ties }, tt);
          passes = λ P p h i. (let z = rows_pass P variance.Invariant [] x y ra rb long i in let list_passes = p.lists in (brings.labels P (p.variables) h (list_passes, z.0) (list_passes, z.1), tt, tt));
        };
      }

  -- .. and two lists of arguments
  pub record TakesArguments (c d : Content) (a b : Tree) : Type 0 where
    pub long : row_length (children a) ≡ row_length (children b)
    pub takes : Takes declared c d (argument_pairs a b) [] []

  pub takes_plain_lists : (c d : Content) (a b : Tree) → IsSound c → IsSound d → IsSolvable d → IsLater c d → Knows c a → Knows c b → IsFormed a → IsFormed b → kind_of a ≡ Some arguments → kind_of b ≡ Some arguments → IsPlainIn c a → IsPlainIn c b → KeepsPlain c d → AreRelated c d a b → TiesNew c d → BringsLabelsOf c d a b
      → TakesArguments c d a b
  takes_plain_lists c d a b first sound solvable later ka kb fa fb sa sb pa pb kept made ties brings =
      let ea = args_tree a sa in
      let eb = args_tree b sb in
      let both : AreRelated c d (node a_list (children a)) (node a_list (children b)) = subst (λ z. AreRelated c d z (node a_list (children b))) ea (subst (AreRelated c d a) eb made) in
      let t = takes_list c d (children a) (children b) first sound solvable later (subst (Knows c) ea ka) (subst (Knows c) eb kb) (subst IsFormed ea fa) (subst IsFormed eb fb) (subst (IsPlainIn c) ea pa) (subst (IsPlainIn c) eb pb) kept both ties (subst (λ z. BringsLabelsOf c d z (node a_list (children b))) ea (subst (BringsLabelsOf c d a) eb brings)) in
      record { long = t.long; takes = t.takes }

  refuses_list : (c : Content) (x y : Tree) → IsSound c → Knows c (node a_list x) → Knows c (node a_list y) → IsFormed (node a_list x) → IsFormed (node a_list y) → IsPlainIn c (node a_list x) → IsPlainIn c (node a_list y) → row_length x ≡ row_length y → AreUnrelated c (node a_list x) (node a_list y)
      → Refuses declared c (pairs_over variance.Invariant [] x y)
  refuses_list c x y sound ka kb fa fb pa pb long apart =
      record { none = λ j w s judges settled h. apart.none w s (ap (node a_list) (one_rows j c w x y sound s settled ka.1 kb.1 (plain_row c x pa) (plain_row c y pb) (fitting_row x fa.0) (fitting_row y fb.0) long h)) }

  pub refuses_plain_lists : (c : Content) (a b : Tree) → IsSound c → Knows c a → Knows c b → IsFormed a → IsFormed b → kind_of a ≡ Some arguments → kind_of b ≡ Some arguments → IsPlainIn c a → IsPlainIn c b → AreUnrelated c a b
      → (row_length (children a) ≡ row_length (children b) → ⊥) ⊎ Refuses declared c (argument_pairs a b)
  refuses_plain_lists c a b sound ka kb fa fb sa sb pa pb apart =
      let ea = args_tree a sa in
      let eb = args_tree b sb in
      let both : AreUnrelated c (node a_list (children a)) (node a_list (children b)) = subst (λ z. AreUnrelated c z (node a_list (children b))) ea (subst (AreUnrelated c a) eb apart) in
      ⊎_elim
      (λ long. inr (refuses_list c (children a) (children b) sound (subst (Knows c) ea ka) (subst (Knows c) eb kb) (subst IsFormed ea fa) (subst IsFormed eb fb) (subst (IsPlainIn c) ea pa) (subst (IsPlainIn c) eb pb) long both)) (λ other. inl other)
      (same_or_other (row_length (children a)) (row_length (children b)))
