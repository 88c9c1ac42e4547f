-- Rows of taking pairs: what no settled solution relates.
use Rattle.std.proofs.Common.{◌≡◌, ◌⊎◌, inl, inr, ⊎_elim, ℕ, Bool, true, false, List, [], ◌∷◌, Some, refl, sym, ap, ◌∙◌, subst, arith}
use Rattle.nts_model.specs.declared.labels.Sort.{Sort}
use Rattle.nts_model.specs.declared.labels.Sort.TheVariants as sort
use Rattle.nts_model.specs.declared.labels.Variance.{Variance}
use Rattle.nts_model.specs.declared.labels.VariableKind.TheVariants as kind
use Rattle.nts_model.specs.declared.labels.FreeRegion.{FreeRegion}
use Rattle.nts_model.specs.declared.labels.BoundVarIndexKind.TheVariants as index
use Rattle.nts_model.specs.declared.labels.ListHead.TheVariants as list
use Rattle.nts_model.specs.declared.labels.Leaf.TheVariants as leaf
use Rattle.nts_model.specs.declared.labels.Label.{Label}
use Rattle.nts_model.specs.declared.labels.Label.TheVariants as label
use Rattle.nts_model.specs.Terms.Trees.{Tree, empty, more, node, is_canonical, IsBoundBelow, kind_of, kind_of_label, of_sort, row_length, children, IsClosed, IsFormed}
use Rattle.nts_model.specs.Tables.Contents.{Content}
use Rattle.nts_model.specs.Tables.Resolving.{Knows, IsInfer}
use Rattle.nts_model.specs.Terms.Regions.{RegionName, name_of_label, IsRegion}
use Rattle.nts_model.specs.Tables.Worlds.{World, inst, Solves}
use Rattle.nts_model.specs.Derivations.Related.{IsAlias}
use Rattle.nts_variance_model.specs.Variances.Judging.{Judging, Settles, IsLawfulJudging, opposite}
use Rattle.nts_variance_model.specs.Variances.Leaving.{judging_of, Refuses}
use Rattle.nts_variance_model.specs.Variances.Forms.{over, FitsForm}
use Rattle.nts_model.proofs.Tables.AliasLabels.{region_closed, region_kind}
use Rattle.nts_model.proofs.Tables.Fitting.{region_label, Fits-inst, IsClosed-inst}
use Rattle.nts_variance_model.proofs.Variances.Leaving.{refuses_over, refuses_forms, refuses_labels}
use Rattle.nts_variance_model.proofs.Variances.SettleRows.{settles_kind, settles_closed, settles_turned}
use Rattle.nts_unify.specs.Changing.{is_free_region}
use Rattle.nts_relating.proofs.Naming.{alone_label}
use Rattle.nts_relating.proofs.PairLemmas.{not_infer}
use Rattle.nts_unify.proofs.NodeLemmas.{free_region}
use Rattle.nts_store.specs.declared.nodes.NodeId.{NodeId}
use Rattle.nts_store.specs.Growth.{tree_at}
use Rattle.nts_variance.specs.declared.along.Relating.{Relating as Goal}
use Rattle.nts_variance.specs.Terms.{pair_at}
use Rattle.nts_variance.specs.Taking.{AreNoSides, IsPairSide}
use Rattle.nts_variance.specs.Parts.{form_of_tree, parts_of}
use Rattle.nts_variance.specs.Varying.{pair_in, IsMadeAgain}
use Rattle.nts_variance.proofs.Bound.{closed_back}
use Rattle.nts_variance.proofs.Looks.{node_meets}
use Rattle.nts_variance.proofs.Nodes.{parts_known, parts_formed}
use Rattle.nts_variance.proofs.Pairs.{refuses_by}
use Rattle.nts_variance.proofs.Takes.{pair_of}

-- a region that is closed, and no position of a canonical value, is free
closed_label : (l : Label) → kind_of_label l ≡ of_sort sort.Region → IsBoundBelow 0 l → is_canonical l ≡ false → is_free_region l ≡ true
closed_label (label.Leaf (leaf.Variable kind.Region n)) e b p = refl
closed_label (label.Leaf (leaf.Variable kind.Ty n)) e b p = cc
closed_label (label.Leaf (leaf.Variable kind.Int n)) e b p = cc
closed_label (label.Leaf (leaf.Variable kind.Float n)) e b p = cc
closed_label (label.Leaf (leaf.Variable kind.Const n)) e b p = cc
closed_label (label.Leaf (leaf.Region r)) e b p = refl
closed_label (label.Leaf (leaf.TyConstant a)) e b p = cc
closed_label (label.Leaf (leaf.ConstConstant a)) e b p = cc
closed_label (label.Bound s (index.Bound d) n) e b p = absurd (omega (arith, b))
closed_label (label.Bound s index.Canonical n) e b p = cc
closed_label (label.Ty h) e b p = cc
closed_label (label.Const h) e b p = cc
closed_label (label.Clause h) e b p = cc
closed_label (label.Predicate h) e b p = cc
closed_label (label.List list.Args) e b p = cc
closed_label (label.List list.Env) e b p = cc
closed_label (label.List list.Sorts) e b p = cc
closed_label (label.List (list.Sort s)) e b p = cc
closed_label (label.List list.Binder) e b p = cc

closed_region : (c : Content) (t : Tree) → Knows c t → IsFormed t → kind_of t ≡ Some (of_sort sort.Region) → IsClosed t → IsRegion t
closed_region c empty k f e o = cc
closed_region c (more a b) k f e o = cc
closed_region c (node l x) k f e o = free_region (node l x) l refl f.0 (closed_label l (cc) o.0 k.0.2)

named_free : (l : Label) (x : RegionName) → name_of_label l ≡ Some x → is_free_region l ≡ true
named_free (label.Leaf (leaf.Variable kind.Region n)) x e = refl
named_free (label.Leaf (leaf.Variable kind.Ty n)) x e = cc
named_free (label.Leaf (leaf.Variable kind.Int n)) x e = cc
named_free (label.Leaf (leaf.Variable kind.Float n)) x e = cc
named_free (label.Leaf (leaf.Variable kind.Const n)) x e = cc
named_free (label.Leaf (leaf.Region r)) x e = refl
named_free (label.Leaf (leaf.TyConstant a)) x e = cc
named_free (label.Leaf (leaf.ConstConstant a)) x e = cc
named_free (label.Bound s i n) x e = cc
named_free (label.Ty h) x e = cc
named_free (label.Const h) x e = cc
named_free (label.Clause h) x e = cc
named_free (label.Predicate h) x e = cc
named_free (label.List h) x e = cc

-- a region is related with no tree that is no free region
region_apart : (J : Judging) → IsLawfulJudging J → (c : Content) (w : World) (v : Variance) (a b : Tree) (s : Sort) → Solves c w → Knows c a → Knows c b → IsFormed b → kind_of b ≡ Some (of_sort s) → IsRegion a → (IsRegion b → ⊥) → Settles J v (inst w a) (inst w b) → ⊥
region_apart J law c w v a b s z ka kb formed sorted region none h = by_sort s sorted
  where
    here : IsRegion (inst w a)
    here = Fits-inst c w kind.Region a z.fitting ka region

    same : kind_of (inst w b) ≡ Some (of_sort sort.Region)
    same = sym (settles_kind J law v (inst w a) (inst w b) h) ∙ region_kind (inst w a) here

    closed : IsClosed b
    closed = closed_back w 0 b formed ((settles_closed J law v (inst w a) (inst w b) h 0).0 (region_closed 0 (inst w a) here))

    by_sort : (s : Sort) → kind_of b ≡ Some (of_sort s) → ⊥
    by_sort sort.Region e = none (closed_region c b kb formed e closed)
    by_sort sort.Ty e = (let x : kind_of (inst w b) ≡ Some (of_sort sort.Ty) = Fits-inst c w kind.Ty b z.fitting kb e in let y : Some (of_sort sort.Ty) ≡ Some (of_sort sort.Region) = sym x ∙ same in cc)
    by_sort sort.Const e = (let x : kind_of (inst w b) ≡ Some (of_sort sort.Const) = Fits-inst c w kind.Const b z.fitting kb e in let y : Some (of_sort sort.Const) ≡ Some (of_sort sort.Region) = sym x ∙ same in cc)

-- an instance of a closed type, region or const is of its kind
kind_kept : (c : Content) (w : World) (t : Tree) (s : Sort) → Solves c w → Knows c t → IsFormed t → kind_of t ≡ Some (of_sort s) → IsClosed t → kind_of (inst w t) ≡ kind_of t
kind_kept c w t sort.Ty z k f e o = (let x : kind_of (inst w t) ≡ Some (of_sort sort.Ty) = Fits-inst c w kind.Ty t z.fitting k e in x ∙ sym e)
kind_kept c w t sort.Const z k f e o = (let x : kind_of (inst w t) ≡ Some (of_sort sort.Const) = Fits-inst c w kind.Const t z.fitting k e in x ∙ sym e)
kind_kept c w t sort.Region z k f e o = region_kind (inst w t) (Fits-inst c w kind.Region t z.fitting k (closed_region c t k f e o)) ∙ sym e

no_free_label : (t : Tree) (l : Label) → t ≡ node l (children t) → is_free_region l ≡ false → IsRegion t → ⊥
no_free_label t l is e r =
    let i : IsRegion (node l (children t)) = subst IsRegion is r in
    let x = region_label l (children t) i.0 i.1 in
    let y = named_free l i.0 x.0 in
    cc

module _ (declared : ℕ → List Variance) where
  -- a goal needs closed sides of one kind
  pub refuses_owed : (c : Content) (v : Variance) (a b : Tree) (i k : Sort) → Knows c a → Knows c b → IsFormed a → IsFormed b → kind_of a ≡ Some (of_sort i) → kind_of b ≡ Some (of_sort k) → IsClosed a ⊎ IsClosed b → AreNoSides a b → Refuses declared c (pair_of v a b ∷ [])
  refuses_owed c v a b i k ka kb fa fb sa sb one none =
      record {
        none = λ j w s judges settled h.
            (let J = judging_of declared j in
            let across = settles_closed J j.lawful v (inst w a) (inst w b) h.0 0 in
            let both : IsClosed a → IsClosed b → ⊥ = λ p q.
            none p q (sym (kind_kept c w a i s ka fa sa p) ∙ settles_kind J j.lawful v (inst w a) (inst w b) h.0 ∙ kind_kept c w b k s kb fb sb q) in
            ⊎_elim
            (λ p. both p (closed_back w 0 b fb (across.0 (IsClosed-inst c w 0 a s.fitting ka p))))
            (λ p. both (closed_back w 0 a fa (across.1 (IsClosed-inst c w 0 b s.fitting kb p))) p) one);
      }

  -- .. of which the closed one stands on one side of a pair
  pub refuses_side : (ts : List Tree) (c : Content) (z : Bool) (v : Variance) (own t : NodeId) (p : Goal) → p ≡ pair_in z v own t → IsPairSide ts c own → IsPairSide ts c t → IsFormed (tree_at ts own) → IsFormed (tree_at ts t) → IsClosed (tree_at ts own) → AreNoSides (tree_at ts p.left) (tree_at ts p.right) → Refuses declared c (pair_at ts p ∷ [])
  refuses_side ts c false v own t p is so st fo ft closed none = (rw is (refuses_owed c v (tree_at ts own) (tree_at ts t) so.sort st.sort so.knows st.knows fo ft so.kind st.kind (inl closed) (rw is at none)))
  refuses_side ts c true v own t p is so st fo ft closed none = (rw is (refuses_owed c (opposite v) (tree_at ts t) (tree_at ts own) st.sort so.sort st.knows so.knows ft fo st.kind so.kind (inr closed) (rw is at none)))

  -- a free region and another tree
  refuses_region : (c : Content) (v : Variance) (a b : Tree) (s : Sort) → Knows c a → Knows c b → IsFormed b → kind_of b ≡ Some (of_sort s) → IsRegion a → (IsRegion b → ⊥) → Refuses declared c (pair_of v a b ∷ [])
  refuses_region c v a b s ka kb formed sorted region none =
      record { none = λ j w z judges settled h. region_apart (judging_of declared j) j.lawful c w v a b s z ka kb formed sorted region none h.0 }

  refuses_region_turned : (c : Content) (v : Variance) (a b : Tree) (s : Sort) → Knows c a → Knows c b → IsFormed a → kind_of a ≡ Some (of_sort s) → IsRegion b → (IsRegion a → ⊥) → Refuses declared c (pair_of v a b ∷ [])
  refuses_region_turned c v a b s ka kb formed sorted region none =
      record {
        none = λ j w z judges settled h.
            (let J = judging_of declared j in
            region_apart J j.lawful c w (opposite v) b a s z kb ka formed sorted region none (settles_turned J j.lawful v (inst w a) (inst w b) h.0));
      }

  -- two nodes of different labels, neither inference variables nor closed aliases, and not both free regions
  pub refuses_apart : (c : Content) (v : Variance) (a b : Tree) (l m : Label) (i k : Sort) → Knows c a → Knows c b → IsFormed a → IsFormed b → kind_of a ≡ Some (of_sort i) → kind_of b ≡ Some (of_sort k) → a ≡ node l (children a) → b ≡ node m (children b)
      → (IsInfer a → ⊥) → (IsInfer b → ⊥) → (IsAlias a → ⊥) → (IsAlias b → ⊥) → (l ≡ m → ⊥) → (is_free_region l ≡ true → is_free_region m ≡ true → ⊥) → Refuses declared c (pair_of v a b ∷ [])
  refuses_apart c v a b l m i k ka kb fa fb sa sb ia ib na nb ra rb differ two = by_labels (is_free_region l) (is_free_region m) refl refl
    where
      free_apart : (r : FreeRegion) → is_free_region l ≡ false → l ≡ label.Leaf (leaf.Region r) → ⊥
      free_apart r e q = (let x = ap is_free_region (sym q) ∙ e in cc)

      by_labels : (x y : Bool) → is_free_region l ≡ x → is_free_region m ≡ y → Refuses declared c (pair_of v a b ∷ [])
      by_labels true true p q = absurd (two p q)
      by_labels true false p q = refuses_region c v a b k ka kb fb sb (free_region a l ia (node_meets a l ia fa) p) (no_free_label b m ib q)
      by_labels false true p q = refuses_region_turned c v a b i ka kb fa sa (free_region b m ib (node_meets b m ib fb) q) (no_free_label a l ia p)
      by_labels false false p q =
          let at = refuses_by declared c (pair_of v (node l (children a)) (node m (children b)) ∷ [])
          (λ j. refuses_labels (judging_of declared j) j.lawful c v l m (children a) (children b) (alone_label l (not_infer a l ia na) p) (alone_label m (not_infer b m ib nb) q) (subst IsFormed ia fa) (subst IsFormed ib fb)
          (λ z. ra (subst IsAlias (sym ia) z)) (λ z. rb (subst IsAlias (sym ib) z)) differ (λ r s f g. free_apart r p f)) in
          subst (λ x. Refuses declared c (pair_of v a x ∷ [])) (sym ib) (subst (λ x. Refuses declared c (pair_of v x (node m (children b)) ∷ [])) (sym ia) at)

  -- two nodes with parts of different forms, and of one form with more parts on one side
  pub refuses_forms_of : (c : Content) (v : Variance) (a b : Tree) → Knows c a → Knows c b → IsMadeAgain a → IsMadeAgain b → (form_of_tree a ≡ form_of_tree b → ⊥) → Refuses declared c (pair_of v a b ∷ [])
  refuses_forms_of c v a b ka kb ma mb differ =
      let x = ma.with_parts.is in
      let y = mb.with_parts.is in
      let F = form_of_tree a in
      let G = form_of_tree b in
      let ts = parts_of a in
      let us = parts_of b in
      let at = refuses_by declared c (pair_of v (over F ts) (over G us) ∷ [])
      (λ j. refuses_forms (judging_of declared j) j.lawful c v F G ts us differ ma.fits mb.fits (parts_known c F ts (subst (Knows c) x ka)) (parts_known c G us (subst (Knows c) y kb)) (parts_formed F ts (subst IsFormed x ma.formed)) (parts_formed G us (subst IsFormed y mb.formed))) in
      subst (λ z. Refuses declared c (pair_of v a z ∷ [])) (sym y) (subst (λ z. Refuses declared c (pair_of v z (over G us) ∷ [])) (sym x) at)

  pub refuses_long : (c : Content) (v : Variance) (a b : Tree) → Knows c a → Knows c b → IsMadeAgain a → IsMadeAgain b → form_of_tree a ≡ form_of_tree b → (row_length (parts_of a) ≡ row_length (parts_of b) → ⊥) → Refuses declared c (pair_of v a b ∷ [])
  refuses_long c v a b ka kb ma mb form differ =
      let F = form_of_tree a in
      let ts = parts_of a in
      let us = parts_of b in
      let x = ma.with_parts.is in
      let y : b ≡ over F us = mb.with_parts.is ∙ ap (λ z. over z us) (sym form) in
      let at = refuses_by declared c (pair_of v (over F ts) (over F us) ∷ [])
      (λ j. refuses_over (judging_of declared j) j.lawful c v F ts us ma.with_parts.row mb.with_parts.row differ ma.fits (subst (λ z. FitsForm z us) (sym form) mb.fits) (parts_known c F ts (subst (Knows c) x ka)) (parts_known c F us (subst (Knows c) y kb)) (parts_formed F ts (subst IsFormed x ma.formed)) (parts_formed F us (subst IsFormed y mb.formed))) in
      subst (λ z. Refuses declared c (pair_of v a z ∷ [])) (sym y) (subst (λ z. Refuses declared c (pair_of v z (over F us) ∷ [])) (sym x) at)
