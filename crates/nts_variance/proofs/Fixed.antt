-- Trees in which nothing may vary: what settles with one is that tree, and what is made for one is too.
use Rattle.std.proofs.Common.{◌≡◌, ℕ, Bool, true, false, None, List, sym, refl, ap, ◌∙◌, subst}
use Rattle.std.proofs.lemmas.Bool.{or_parts}
use Rattle.nts_model.specs.declared.labels.Variance.{Variance}
use Rattle.nts_model.specs.declared.labels.VariableKind.TheVariants as kind
use Rattle.nts_model.specs.declared.labels.FreeRegion.{FreeRegion}
use Rattle.nts_model.specs.declared.labels.FreeRegion.TheVariants as region
use Rattle.nts_model.specs.declared.labels.Leaf.TheVariants as leaf
use Rattle.nts_model.specs.declared.labels.Label.{Label}
use Rattle.nts_model.specs.declared.labels.Label.TheVariants as label
use Rattle.nts_model.specs.Terms.Trees.{Tree, empty, more, node, any_label, is_infer, variable_of}
use Rattle.nts_model.specs.Tables.Contents.{Content}
use Rattle.nts_model.specs.Tables.Resolving.{number_of, deeply_resolved, Knows}
use Rattle.nts_model.specs.Terms.Regions.{name_of_label, IsRegion}
use Rattle.nts_model.specs.Terms.Placeholders.{CanName}
use Rattle.nts_model.specs.Tables.Levels.{NamesAll, region_level}
use Rattle.nts_model.specs.Tables.Worlds.{World, inst, placed}
use Rattle.nts_model.specs.Tables.Holding.{Continues}
use Rattle.nts_model.specs.Derivations.Related.{region_constraint, one_tree}
use Rattle.nts_variance_model.specs.Variances.Judging.{Judging, IsSettled, Settles}
use Rattle.nts_variance_model.specs.Variances.Leaving.{Judge, judging_of, IsErased, Judges}
use Rattle.nts_variance_model.proofs.Variances.Alongside.{RegionsAlone}
use Rattle.nts_variance_model.proofs.Variances.SettleRows.{settled_alone}
use Rattle.nts_store.specs.TypeFlags.{varies, varies_region}
use Rattle.nts_relating.specs.Relating.{Generalized}
use Rattle.nts_relating.proofs.GenLemmas.{resolved-no_infer}
use Rattle.nts_variance.specs.Walking.{RelatedSides}
use Rattle.nts_variance.specs.Parts.{IsFixedTree}

fixed_region : (r : FreeRegion) → varies_region r ≡ false → IsErased r
fixed_region region.Erased e = tt
fixed_region region.Error e = tt
fixed_region r e = cc

no_name : (l : Label) (x : Tree) → name_of_label l ≡ None → IsRegion (node l x) → ⊥
no_name l empty e i = (let q = i.1 in cc)
no_name l (more a b) e i = (let q = i.1 in cc)
no_name l (node m c) e i = (let q = i.1 in cc)

module _ (declared : ℕ → List Variance) (j : Judge declared) (w : World) (judges : Judges declared j w) where
  abbrev J : Judging
  J = judging_of declared j

  erased_alone : (r : FreeRegion) (x : Tree) → IsErased r → IsRegion (node (label.Leaf (leaf.Region (w.region r))) x)
      → (v : Variance) (a : Tree) → J.holds (region_constraint v a (node (label.Leaf (leaf.Region (w.region r))) x)) → a ≡ node (label.Leaf (leaf.Region (w.region r))) x
  erased_alone r empty e i v a h = judges.alone v a r e h
  erased_alone r (more b c) e i v a h = (let q = i.1 in cc)
  erased_alone r (node m c) e i v a h = (let q = i.1 in cc)

  alone_label : (l : Label) (x : Tree) → is_infer l ≡ false → varies l ≡ false → RegionsAlone J j.lawful x → RegionsAlone J j.lawful (placed w (number_of (variable_of l)) l x)
  alone_label (label.Leaf (leaf.Variable kind.Ty n)) x p q h = cc
  alone_label (label.Leaf (leaf.Variable kind.Int n)) x p q h = cc
  alone_label (label.Leaf (leaf.Variable kind.Float n)) x p q h = cc
  alone_label (label.Leaf (leaf.Variable kind.Const n)) x p q h = cc
  alone_label (label.Leaf (leaf.Variable kind.Region n)) x p q h = cc
  alone_label (label.Leaf (leaf.Region r)) x p q h = (erased_alone r x (fixed_region r q), h)
  alone_label (label.Leaf (leaf.TyConstant a)) x p q h = ((λ i. absurd (no_name (label.Leaf (leaf.TyConstant a)) x refl i)), h)
  alone_label (label.Leaf (leaf.ConstConstant a)) x p q h = ((λ i. absurd (no_name (label.Leaf (leaf.ConstConstant a)) x refl i)), h)
  alone_label (label.Bound s b n) x p q h = ((λ i. absurd (no_name (label.Bound s b n) x refl i)), h)
  alone_label (label.Ty a) x p q h = ((λ i. absurd (no_name (label.Ty a) x refl i)), h)
  alone_label (label.Const a) x p q h = ((λ i. absurd (no_name (label.Const a) x refl i)), h)
  alone_label (label.Clause a) x p q h = ((λ i. absurd (no_name (label.Clause a) x refl i)), h)
  alone_label (label.Predicate a) x p q h = ((λ i. absurd (no_name (label.Predicate a) x refl i)), h)
  alone_label (label.List a) x p q h = ((λ i. absurd (no_name (label.List a) x refl i)), h)

  inst_alone : (t : Tree) → any_label is_infer t ≡ false → any_label varies t ≡ false → RegionsAlone J j.lawful (inst w t)
  inst_alone empty p q = tt
  inst_alone (more a b) p q =
      let x = or_parts (any_label is_infer a) (any_label is_infer b) p in
      let y = or_parts (any_label varies a) (any_label varies b) q in
      (inst_alone a x.0 y.0, inst_alone b x.1 y.1)
  inst_alone (node l c) p q =
      let x = or_parts (is_infer l) (any_label is_infer c) p in
      let y = or_parts (varies l) (any_label varies c) q in
      alone_label l (inst w c) x.0 y.0 (inst_alone c x.1 y.1)

  -- by any variance
  pub fixed_one : (v : Variance) (s t : Tree) → IsFixedTree t → IsSettled J s → IsSettled J (inst w t) → Settles J v s (inst w t) → s ≡ inst w t
  fixed_one v s t f own here x = settled_alone J j.lawful v s (inst w t) (inst_alone t f.no_infer f.no_region) own here x

-- each universe names its regions, so what is made for it is one with it
fixed_named : (u : ℕ) (t : Tree) → any_label varies t ≡ false → NamesAll region_level u t
fixed_named u empty e = tt
fixed_named u (more a b) e = (let p = or_parts (any_label varies a) (any_label varies b) e in (fixed_named u a p.0, fixed_named u b p.1))
fixed_named u (node l c) e = (let p = or_parts (varies l) (any_label varies c) e in (of_label l p.0, fixed_named u c p.1))
  where
    of_region : (r : FreeRegion) → varies_region r ≡ false → CanName u (region_level (label.Leaf (leaf.Region r)))
    of_region region.Erased q = tt
    of_region region.Error q = tt
    of_region r q = cc

    of_label : (l : Label) → varies l ≡ false → CanName u (region_level l)
    of_label (label.Leaf (leaf.Region r)) q = of_region r q
    of_label l q = tt

fixed_made : (c d : Content) (x u b : ℕ) (t r : Tree) → IsFixedTree t → Generalized c d x u b t r → deeply_resolved d r ≡ deeply_resolved d t
fixed_made c d x u b t r f gen = gen.exact (subst (NamesAll region_level u) (sym (resolved-no_infer c t f.no_infer)) (fixed_named u t f.no_region))

module _ (declared : ℕ → List Variance) (f : Content) (ks : List Tree) where
  itself_related : (z : Bool) (v : Variance) (a : Tree) → RelatedSides z declared f ks v a a
  itself_related false v a = one_tree tt
  itself_related true v a = one_tree tt

  -- .. and related with it under each later table
  pub fixed_related : (c d : Content) (x u b : ℕ) (z : Bool) (v : Variance) (t r : Tree) → IsFixedTree t → Generalized c d x u b t r → Continues d f → Knows d t → RelatedSides z declared f ks v (deeply_resolved f r) (deeply_resolved f t)
  fixed_related c d x u b z v t r fixed gen k now =
      let same : deeply_resolved f r ≡ deeply_resolved f t = sym (k.values r gen.knows) ∙ ap (deeply_resolved f) (fixed_made c d x u b t r fixed gen) ∙ k.values t now in
      subst (RelatedSides z declared f ks v (deeply_resolved f r)) same (itself_related z v (deeply_resolved f r))
