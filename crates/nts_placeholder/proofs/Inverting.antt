-- Closing after opening gives a tree back.
use Rattle.std.proofs.Common.{◌≡◌, ℕ, zero, suc, ◌+◌, ◌-◌, ◌<◌, ◌≤◌, nat_lt, nat_eq, Bool, true, false, ◌||◌, cond, if◌then◌else◌, List, [], ◌∷◌, length, slice_get, Option, Some, None, refl, sym, ap, ◌∙◌, eqb-true, arith}
use Rattle.std.specs.Prelude.{IsSome}
use Rattle.std.proofs.lemmas.Bool.{eq-eqb, ltb-false}
use Rattle.std.proofs.lemmas.Option.{get_or_from_slice_get}
use Rattle.nts_model.specs.declared.labels.Sort.{Sort}
use Rattle.nts_model.specs.declared.labels.Sort.TheVariants as sort
use Rattle.nts_model.specs.declared.labels.BoundVarIndexKind.TheVariants as index
use Rattle.nts_model.specs.declared.labels.Label.{Label}
use Rattle.nts_model.specs.declared.labels.Label.TheVariants as label
use Rattle.nts_model.specs.Terms.Trees.{Tree, empty, more, node, binders, any_label, is_infer, is_region_infer, IsClosedUnder}
use Rattle.nts_model.proofs.Tables.Kept.{deeply_resolved-no_variables}
use Rattle.nts_placeholder.specs.declared.maps.Placeholder.{Placeholder}
use Rattle.nts_placeholder.specs.declared.maps.BoundVar.{BoundVar}
use Rattle.nts_placeholder.specs.Closing.{placeholder_of, one_on, is_universe, entry_of, closed_at, closed_placeholder, closed_label, closed_by}
use Rattle.nts_placeholder.specs.Escaping.{is_bound, escapes_under, escapes}
use Rattle.nts_placeholder.specs.Opening.{placeholder_label, or_root, universe_at, opened_label, opened_by, entry_for, placeholder_for, AreMapsOf}
use Rattle.nts_placeholder.specs.Inverse.{AreUniversesDistinct, IsUnlisted, AllUnlisted, NamesUniverses, ClosingGivesBack}
use Rattle.nts_placeholder.proofs.OpeningLemmas.{escapes_low}
use Rattle.nts_placeholder.proofs.Reaching.{or_left, or_right, same_sort-same}

-- the universe of an entry is found there

entry_some : (U : List (Option ℕ)) (u e : ℕ) → slice_get U e ≡ Some (Some u) → (d : ℕ) × (entry_of U u ≡ Some d) × (slice_get U d ≡ Some (Some u))
entry_some [] u e h = cc
entry_some (x ∷ U) u zero h =
    let is : x ≡ Some u = cc in
    let same : is_universe x u ≡ true = ap (λ o. is_universe o u) is ∙ eq-eqb u u refl in
    (0, ap (λ b. cond b (Some 0) (one_on (entry_of U u))) same, h)
entry_some (x ∷ U) u (suc e) h = by_case x (entry_some U u e h)
  where
    later : (y : Option ℕ) → ((d : ℕ) × (entry_of U u ≡ Some d) × (slice_get U d ≡ Some (Some u))) → is_universe y u ≡ false → (d : ℕ) × (entry_of (y ∷ U) u ≡ Some d) × (slice_get (y ∷ U) d ≡ Some (Some u))
    later y w k =
        let q : suc w.0 ≡ w.0 + 1 = omega arith in
        (suc w.0, ap (λ b. cond b (Some 0) (one_on (entry_of U u))) k ∙ ap one_on w.1 ∙ ap Some (sym q), w.2)

    here : (v : ℕ) → ((d : ℕ) × (entry_of U u ≡ Some d) × (slice_get U d ≡ Some (Some u))) → (b : Bool) → nat_eq v u ≡ b → (d : ℕ) × (entry_of (Some v ∷ U) u ≡ Some d) × (slice_get (Some v ∷ U) d ≡ Some (Some u))
    here v w true k = (0, ap (λ b. cond b (Some 0) (one_on (entry_of U u))) k, ap (λ n. Some (Some n)) (eqb-true v u k))
    here v w false k = later (Some v) w k

    by_case : (y : Option ℕ) → ((d : ℕ) × (entry_of U u ≡ Some d) × (slice_get U d ≡ Some (Some u))) → (d : ℕ) × (entry_of (y ∷ U) u ≡ Some d) × (slice_get (y ∷ U) d ≡ Some (Some u))
    by_case None w = later None w refl
    by_case (Some v) w = here v w (nat_eq v u) refl

-- the bound variable is closed to itself from its placeholder
pub record IsGood (U : List (Option ℕ)) (M : Sort → Placeholder → Option BoundVar) (s : Sort) (b : BoundVar) : Type 0 where
  pub low : b.level < length U
  pub entry : entry_of U (universe_at U (entry_for U b)) ≡ Some (entry_for U b)
  pub value : BoundVar
  pub is : M s (placeholder_for U b) ≡ Some value
  pub var : value.var ≡ b.var

value_in : (o : Option BoundVar) → IsSome o → (b : BoundVar) × (o ≡ Some b)
value_in None h = cc
value_in (Some b) h = (b, refl)

good : (U : List (Option ℕ)) (M : Sort → Placeholder → Option BoundVar) (t : Tree) → AreUniversesDistinct U → IsClosedUnder (length U) t → NamesUniverses U t → AreMapsOf U (escapes t) M → (s : Sort) (b : BoundVar) → escapes t s b ≡ true → IsGood U M s b
good U M t d k n m s b e =
    let named = n s b e in
    let at : universe_at U (entry_for U b) ≡ named.0 = ap or_root (get_or_from_slice_get U (entry_for U b) (Some named.0) None named.1) in
    let found = entry_some U named.0 (entry_for U b) named.1 in
    let same : found.0 ≡ entry_for U b = d found.0 (entry_for U b) named.0 found.2 named.1 in
    let v = value_in (M s (placeholder_for U b)) (m.all s b e) in
    let made = m.made s (placeholder_for U b) v.0 v.1 in
    record {
      low = escapes_low s b (length U) t e k;
      entry = ap (entry_of U) at ∙ found.1 ∙ ap Some same;
      value = v.0;
      is = v.1;
      var = sym (ap (λ (p : Placeholder). p.var) made.1);
    }

placeholder_again : (s : Sort) (p : Placeholder) → placeholder_of (placeholder_label s p) ≡ Some (s, p)
placeholder_again sort.Ty p = refl
placeholder_again sort.Region p = refl
placeholder_again sort.Const p = refl

module _ (U : List (Option ℕ)) (M : Sort → Placeholder → Option BoundVar) where
  unlisted_stays : (c : ℕ) (l : Label) (o : Option (Sort × Placeholder)) → IsUnlisted U o → closed_placeholder M U c l o ≡ l
  unlisted_stays c l None h = refl
  unlisted_stays c l (Some p) h = ap (closed_at U c p.0 l (M p.0 p.1)) h ∙ stays (M p.0 p.1)
    where
      stays : (m : Option BoundVar) → closed_at U c p.0 l m None ≡ l
      stays None = refl
      stays (Some b) = refl

  bound_back : (c : ℕ) (s : Sort) (d n : ℕ) → c ≤ d → IsGood U M s (record { level = d - c; var = n }) → closed_label M U c (placeholder_label s (record { universe = universe_at U (length U + c - d - 1); var = n })) ≡ label.Bound s (index.Bound d) n
  bound_back c s d n h g =
      let b : BoundVar = record { level = d - c; var = n } in
      let low : d - c < length U = g.low in
      let at : length U + c - d - 1 ≡ entry_for U b = omega (arith, h, low) in
      let p = placeholder_for U b in
      let back : length U - entry_for U b + c - 1 ≡ d = omega (arith, h, low) in
      ap (λ e. closed_label M U c (placeholder_label s (record { universe = universe_at U e; var = n }))) at
      ∙ ap (closed_placeholder M U c (placeholder_label s p)) (placeholder_again s p)
      ∙ ap (λ m. closed_at U c s (placeholder_label s p) m (entry_of U p.universe)) g.is
      ∙ ap (closed_at U c s (placeholder_label s p) (Some g.value)) g.entry
      ∙ ap (λ k. label.Bound s (index.Bound k) g.value.var) back
      ∙ ap (λ k. label.Bound s (index.Bound d) k) g.var

  open_label : (c : ℕ) (l : Label) → ((s : Sort) (b : BoundVar) → is_bound s b c l ≡ true → IsGood U M s b) → IsUnlisted U (placeholder_of l) → closed_label M U c (opened_label U c l) ≡ l
  open_label c (label.Bound s (index.Bound d) n) g h = by_case (nat_lt d c) refl
    where
      it : c ≤ d → is_bound s (record { level = d - c; var = n }) c (label.Bound s (index.Bound d) n) ≡ true
      it w = rw (same_sort-same s, eq-eqb d (d - c + c) (omega (arith, w)), eq-eqb n n refl) refl

      by_case : (b : Bool) → nat_lt d c ≡ b → closed_label M U c (if b then label.Bound s (index.Bound d) n else placeholder_label s (record { universe = universe_at U (length U + c - d - 1); var = n })) ≡ label.Bound s (index.Bound d) n
      by_case true e = refl
      by_case false e =
          let w : c ≤ d = omega (arith, ltb-false d c e) in bound_back c s d n w (g s (record { level = d - c; var = n }) (it w))
  open_label c (label.Bound s index.Canonical n) g h = refl
  open_label c (label.Leaf x) g h = unlisted_stays c (label.Leaf x) (placeholder_of (label.Leaf x)) h
  open_label c (label.Ty x) g h = refl
  open_label c (label.Const x) g h = refl
  open_label c (label.Clause x) g h = refl
  open_label c (label.Predicate x) g h = refl
  open_label c (label.List x) g h = refl

  pub binders_opened : (c : ℕ) (l : Label) → binders (opened_label U c l) ≡ binders l
  binders_opened c (label.Bound s (index.Bound d) n) = by_case (nat_lt d c)
    where
      of_placeholder : (r : Sort) (p : Placeholder) → binders (placeholder_label r p) ≡ 0
      of_placeholder sort.Ty p = refl
      of_placeholder sort.Region p = refl
      of_placeholder sort.Const p = refl

      by_case : (b : Bool) → binders (if b then label.Bound s (index.Bound d) n else placeholder_label s (record { universe = universe_at U (length U + c - d - 1); var = n })) ≡ 0
      by_case true = refl
      by_case false = of_placeholder s (record { universe = universe_at U (length U + c - d - 1); var = n })
  binders_opened c (label.Bound s index.Canonical n) = refl
  binders_opened c (label.Leaf x) = refl
  binders_opened c (label.Ty x) = refl
  binders_opened c (label.Const x) = refl
  binders_opened c (label.Clause x) = refl
  binders_opened c (label.Predicate x) = refl
  binders_opened c (label.List x) = refl

  given_back : (c : ℕ) (t : Tree) → ((s : Sort) (b : BoundVar) → escapes_under s b c t ≡ true → IsGood U M s b) → AllUnlisted U t → closed_by M U c (opened_by U c t) ≡ t
  given_back c empty g h = refl
  given_back c (more x y) g h =
      let first = given_back c x (λ s b e. g s b (or_left (escapes_under s b c x) (escapes_under s b c y) e)) h.0 in
      let rest = given_back c y (λ s b e. g s b (or_right (escapes_under s b c x) (escapes_under s b c y) e)) h.1 in
      cc (first, rest)
  given_back c (node l x) g h =
      let own = open_label c l (λ s b e. g s b (or_left (is_bound s b c l) (escapes_under s b (c + binders l) x) e)) h.0 in
      let rest = given_back (c + binders l) x (λ s b e. g s b (or_right (is_bound s b c l) (escapes_under s b (c + binders l) x) e)) h.1 in
      ap (λ k. node (closed_label M U c (opened_label U c l)) (closed_by M U (c + k) (opened_by U (c + binders l) x))) (binders_opened c l)
      ∙ ap (λ k. node k (closed_by M U (c + binders l) (opened_by U (c + binders l) x))) own
      ∙ ap (node l) rest

-- what is opened holds a variable only where the tree does

module _ (U : List (Option ℕ)) (p : Label → Bool) (none : (s : Sort) (q : Placeholder) → p (placeholder_label s q) ≡ false) where
  label_holds : (c : ℕ) (l : Label) → p l ≡ false → p (opened_label U c l) ≡ false
  label_holds c (label.Bound s (index.Bound d) n) h = by_case (nat_lt d c)
    where
      by_case : (b : Bool) → p (if b then label.Bound s (index.Bound d) n else placeholder_label s (record { universe = universe_at U (length U + c - d - 1); var = n })) ≡ false
      by_case true = h
      by_case false = none s (record { universe = universe_at U (length U + c - d - 1); var = n })
  label_holds c (label.Bound s index.Canonical n) h = h
  label_holds c (label.Leaf x) h = h
  label_holds c (label.Ty x) h = h
  label_holds c (label.Const x) h = h
  label_holds c (label.Clause x) h = h
  label_holds c (label.Predicate x) h = h
  label_holds c (label.List x) h = h

  neither : (a b : Bool) → (a || b) ≡ false → (a ≡ false) × (b ≡ false)
  neither true b h = cc
  neither false b h = (refl, h)

  opened_holds : (c : ℕ) (t : Tree) → any_label p t ≡ false → any_label p (opened_by U c t) ≡ false
  opened_holds c empty h = refl
  opened_holds c (more a b) h =
      let w = neither (any_label p a) (any_label p b) h in rw (opened_holds c a w.0, opened_holds c b w.1) refl
  opened_holds c (node l t) h =
      let w = neither (p l) (any_label p t) h in rw (label_holds c l w.0, opened_holds (c + binders l) t w.1) refl

no_infer : (s : Sort) (q : Placeholder) → is_infer (placeholder_label s q) ≡ false
no_infer sort.Ty q = refl
no_infer sort.Region q = refl
no_infer sort.Const q = refl

no_region : (s : Sort) (q : Placeholder) → is_region_infer (placeholder_label s q) ≡ false
no_region sort.Ty q = refl
no_region sort.Region q = refl
no_region sort.Const q = refl

pub closing_gives_back : ClosingGivesBack
closing_gives_back = λ c U M t distinct closed named maps unlisted i r.
    ap (closed_by M U 0) (deeply_resolved-no_variables c (opened_by U 0 t) (opened_holds U is_infer no_infer 0 t i) (opened_holds U is_region_infer no_region 0 t r))
    ∙ given_back U M 0 t (good U M t distinct closed named maps) unlisted
