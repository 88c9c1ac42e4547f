-- Pairs whose sides are to be one whatever the variance is: variables of consts and of numbers.
use Rattle.std.proofs.Common.{◌≡◌, ◌⊎◌, inl, inr, ⊎_elim, ℕ, Bool, true, false, List, [], ◌∷◌, Some, refl, sym, ap, ◌∙◌, subst}
use Rattle.std.specs.Prelude.{◌||◌}
use Rattle.nts_model.specs.declared.labels.Sort.TheVariants as sort
use Rattle.nts_model.specs.declared.labels.Variance.{Variance}
use Rattle.nts_model.specs.declared.labels.Variance.TheVariants as variance
use Rattle.nts_model.specs.declared.labels.VariableKind.{VariableKind}
use Rattle.nts_model.specs.declared.labels.VariableKind.TheVariants as kind
use Rattle.nts_model.specs.Terms.Trees.{Tree, empty, more, node, of_sort, label_of, variable_tree}
use Rattle.nts_model.specs.Tables.Contents.{Content}
use Rattle.nts_model.specs.Tables.Resolving.{rooted, deeply_resolved, Knows}
use Rattle.nts_model.specs.Terms.Fitting.{is_integer, is_float, HasLabel, Fits}
use Rattle.nts_model.specs.Tables.Worlds.{World, inst, Solves}
use Rattle.nts_model.specs.Derivations.Related.{times, first_variance, rest_variances}
use Rattle.nts_variance_model.specs.Variances.Relations.{Relating as Pair}
use Rattle.nts_variance_model.specs.Variances.Judging.{Judging, IsSettled, Settles, IsLawfulJudging, opposite}
use Rattle.nts_variance_model.specs.Variances.Forms.{Form, a_constructor, a_function, a_value, an_alias, over, variances_over, pairs_over}
use Rattle.nts_variance_model.proofs.Variances.Alongside.{along_const, beside_number, times_invariant}
use Rattle.nts_model.proofs.Tables.Fitting.{Fits-inst}
use Rattle.nts_variance_model.proofs.Variances.Forms.{deeply_resolved-over}
use Rattle.nts_model.proofs.Tables.ResolvedTerms.{Fits-deeply_resolved}
use Rattle.nts_variance_model.proofs.Variances.SettleRows.{settled_along, settled_one, settles_kind, settles_turned}
use Rattle.nts_store.specs.Growth.{tree_at}
use Rattle.nts_unify.specs.Entries.{Entries}
use Rattle.nts_unify.specs.Reading.{content_of, IsLawful}
use Rattle.nts_variance.specs.declared.along.Relating.{Relating}
use Rattle.nts_variance.specs.Parts.{form_of_tree, parts_of, IsAlone}
use Rattle.nts_variance.specs.Taking.{IsExactKind, IsExact, IsPair, Waits, AreOfOneForm}
use Rattle.nts_variance.specs.Equating.{StandsFor, AreToBeOne}
use Rattle.nts_variance.proofs.Clean.{holds_terms}

own_fits : (k : VariableKind) (n : ℕ) → IsExactKind k → Fits k (variable_tree k n)
own_fits kind.Const n x = refl
own_fits kind.Int n x = refl
own_fits kind.Float n x = refl
own_fits kind.Ty n x = absurd x
own_fits kind.Region n x = absurd x

pub fits_alone : (k : VariableKind) (t : Tree) → IsExactKind k → Fits k t → IsAlone t
fits_alone kind.Const t x f = inl f
fits_alone kind.Int t x f = inr (inl f)
fits_alone kind.Float t x f = inr (inr f)
fits_alone kind.Ty t x f = absurd x
fits_alone kind.Region t x f = absurd x

world_alone : (c : Content) (w : World) (t : Tree) → Solves c w → Knows c t → IsExact t → IsAlone (inst w t)
world_alone c w t s k x = fits_alone x.of_kind (inst w t) x.exact (Fits-inst c w x.of_kind t s.fitting k (subst (Fits x.of_kind) (sym x.is) (own_fits x.of_kind x.number x.exact)))

tree_alone : (ts : List Tree) (e : Entries) (t : Tree) → IsLawful ts e → Knows (content_of ts e) t → IsExact t → IsAlone (deeply_resolved (content_of ts e) t)
tree_alone ts e t lawful k x =
    let c = content_of ts e in
    let own : Knows c (variable_tree x.of_kind x.number) = subst (Knows c) x.is k in
    let fits : Fits x.of_kind (deeply_resolved c (variable_tree x.of_kind x.number)) = Fits-deeply_resolved c x.of_kind x.number lawful.sound (holds_terms c lawful.proper.solvable) own.0.0 in
    fits_alone x.of_kind (deeply_resolved c t) x.exact (subst (λ z. Fits x.of_kind (deeply_resolved c z)) (sym x.is) fits)

-- a pair that waits
pub waits_one : (ts : List Tree) (e : Entries) (p : Relating) → IsLawful ts e → IsPair ts (content_of ts e) p → Waits ts p → AreToBeOne (content_of ts e) p.variance (tree_at ts p.left) (tree_at ts p.right)
waits_one ts e p lawful known h =
    let c = content_of ts e in
    let left = known.left in
    let right = known.right in
    record {
      worlds = λ w s. ⊎_elim (λ v. inl v) (λ x. inr (⊎_elim (λ l. inl (world_alone c w (tree_at ts p.left) s left.knows l)) (λ r. inr (world_alone c w (tree_at ts p.right) s right.knows r)) x)) h;
      trees = ⊎_elim (λ v. inl v) (λ x. inr (⊎_elim (λ l. inl (tree_alone ts e (tree_at ts p.left) lawful left.knows l)) (λ r. inr (tree_alone ts e (tree_at ts p.right) lawful right.knows r)) x)) h;
    }

pub invariant_one : (c : Content) (v : Variance) (a b : Tree) → v ≡ variance.Invariant → AreToBeOne c v a b
invariant_one c v a b e = record { worlds = λ w s. inl e; trees = inl e }

-- .. and what its sides stand for
pub stands_to_be_one : (c : Content) (v : Variance) (a b x y : Tree) → StandsFor c a x → StandsFor c b y → AreToBeOne c v a b → AreToBeOne c v x y
stands_to_be_one c v a b x y p q h =
    record {
      worlds = λ w s. ⊎_elim (λ e. inl e) (λ z. inr (⊎_elim (λ l. inl (subst IsAlone (p.worlds w s) l)) (λ r. inr (subst IsAlone (q.worlds w s) r)) z)) (h.worlds w s);
      trees = ⊎_elim (λ e. inl e) (λ z. inr (⊎_elim (λ l. inl (subst IsAlone (ap (rooted c) p.same) l)) (λ r. inr (subst IsAlone (ap (rooted c) q.same) r)) z)) h.trees;
    }

-- settled trees that settle by a variance, one of which is a const or a number, are one
pub or_left : (a b : Bool) → a ≡ true → (a || b) ≡ true
or_left true b e = refl
or_left false b e = cc

pub or_right : (a b : Bool) → b ≡ true → (a || b) ≡ true
or_right true b e = refl
or_right false b e = e

module _ (J : Judging) (law : IsLawfulJudging J) where
  number_beside : (v : Variance) (s y : Tree) → IsSettled J s → IsSettled J y → Settles J v s y → HasLabel is_integer (label_of y) ⊎ HasLabel is_float (label_of y) → s ≡ y
  number_beside v s empty p q h n = absurd (⊎_elim (λ x. x) (λ x. x) n)
  number_beside v s (more a b) p q h n = absurd (⊎_elim (λ x. x) (λ x. x) n)
  number_beside v s (node l c) p q h n = beside_number J law l c refl (⊎_elim (λ i. or_left (is_integer l) (is_float l) i) (λ f. or_right (is_integer l) (is_float l) f) n) (settled_along J law v s (node l c) p q h)

  alone_beside : (v : Variance) (s y : Tree) → IsSettled J s → IsSettled J y → Settles J v s y → IsAlone y → s ≡ y
  alone_beside v s y p q h n = ⊎_elim (λ k. along_const J law (settles_kind J law v s y h ∙ k) (settled_along J law v s y p q h)) (λ m. number_beside v s y p q h m) n

  pub one_settled : (v : Variance) (s y : Tree) → IsSettled J s → IsSettled J y → Settles J v s y → (v ≡ variance.Invariant) ⊎ (IsAlone s ⊎ IsAlone y) → s ≡ y
  one_settled v s y p q h n =
      ⊎_elim (λ e. settled_one J law s y p q (subst (λ z. Settles J z s y) e h))
      (λ m. ⊎_elim (λ l. sym (alone_beside (opposite v) y s q p (settles_turned J law v s y h) l)) (λ r. alone_beside v s y p q h r) m) n

-- the parts of such a pair are invariant
abbrev pub AllInvariant : List Pair → Type 0
AllInvariant [] = Unit {0}
AllInvariant (p ∷ ps) = (p.variance ≡ variance.Invariant) × AllInvariant ps

none_row : (v : Variance) (ws : List Variance) (ts us : Tree) → ws ≡ [] → AllInvariant (pairs_over v ws ts us)
none_row v ws empty us e = tt
none_row v ws (node l c) us e = tt
none_row v ws (more a ts) empty e = tt
none_row v ws (more a ts) (node l c) e = tt
none_row v ws (more a ts) (more b us) e = (ap (λ x. times v (first_variance x)) e ∙ times_invariant v, none_row v (rest_variances ws) ts us (ap rest_variances e))

pub invariant_row : (v : Variance) (ws : List Variance) (ts us : Tree) → v ≡ variance.Invariant → AllInvariant (pairs_over v ws ts us)
invariant_row v ws empty us e = tt
invariant_row v ws (node l c) us e = tt
invariant_row v ws (more a ts) empty e = tt
invariant_row v ws (more a ts) (node l c) e = tt
invariant_row v ws (more a ts) (more b us) e = (ap (λ x. times x (first_variance ws)) e, invariant_row v (rest_variances ws) ts us e)

module _ (declared : ℕ → List Variance) where
  alone_row : (F : Form) (xs : Tree) (v : Variance) (ts us : Tree) → IsAlone (over F xs) → AllInvariant (pairs_over v (variances_over declared F ts) ts us)
  alone_row (a_constructor i) xs v ts us n = absurd (⊎_elim (λ (k : Some (of_sort sort.Ty) ≡ Some (of_sort sort.Const)). cc) (λ m. ⊎_elim (λ (f : false ≡ true). cc) (λ (f : false ≡ true). cc) m) n)
  alone_row (a_function ss) xs v ts us n = absurd (⊎_elim (λ (k : Some (of_sort sort.Ty) ≡ Some (of_sort sort.Const)). cc) (λ m. ⊎_elim (λ (f : false ≡ true). cc) (λ (f : false ≡ true). cc) m) n)
  alone_row (a_value b) xs v ts us n = none_row v [] ts us refl
  alone_row (an_alias h) xs v ts us n = none_row v [] ts us refl

  pub parts_invariant : (c : Content) (v : Variance) (a b : Tree) → AreToBeOne c v a b → AreOfOneForm a b → AllInvariant (pairs_over v (variances_over declared (form_of_tree a) (parts_of a)) (parts_of a) (parts_of b))
  parts_invariant c v a b one same =
      ⊎_elim (λ e. invariant_row v (variances_over declared (form_of_tree a) (parts_of a)) (parts_of a) (parts_of b) e)
      (λ m. ⊎_elim
      (λ l. alone_row (form_of_tree a) (deeply_resolved c (parts_of a)) v (parts_of a) (parts_of b) (subst IsAlone (ap (deeply_resolved c) same.left.with_parts.is ∙ deeply_resolved-over c (form_of_tree a) (parts_of a) same.left.fits) l))
      (λ r. alone_row (form_of_tree a) (deeply_resolved c (parts_of b)) v (parts_of a) (parts_of b) (subst (λ F. IsAlone (over F (deeply_resolved c (parts_of b)))) (sym same.form) (subst IsAlone (ap (deeply_resolved c) same.right.with_parts.is ∙ deeply_resolved-over c (form_of_tree b) (parts_of b) same.right.fits) r)))
      m)
      one.trees
