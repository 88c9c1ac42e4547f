-- Answers that change nothing, and answers that are granted to a caller, in a world with one region.
use Rattle.std.proofs.Common.{◌≡◌, inl, inr, ℕ, zero, suc, ◌+◌, List, [], ◌∷◌, map, get_or, refl, sym, ap, subst, ◌∙◌, arith}
use Rattle.std.specs.Prelude.{length}
use Rattle.nts_model.specs.declared.labels.Sort.{Sort}
use Rattle.nts_model.specs.declared.labels.Sort.TheVariants as sort
use Rattle.nts_model.specs.declared.labels.VariableKind.{VariableKind}
use Rattle.nts_model.specs.declared.labels.VariableKind.TheVariants as kind
use Rattle.nts_model.specs.declared.labels.FreeRegion.TheVariants as region
use Rattle.nts_model.specs.declared.labels.Leaf.{Leaf}
use Rattle.nts_model.specs.declared.labels.Leaf.TheVariants as leaf
use Rattle.nts_model.specs.Terms.Trees.{Tree, empty, IsFormed}
use Rattle.nts_model.specs.Tables.Contents.{Content}
use Rattle.nts_model.specs.Tables.Levels.{NamesAll, term_level}
use Rattle.nts_model.specs.Tables.Resolving.{Knows}
use Rattle.nts_model.specs.Tables.Worlds.{World, inst, Solves, IsValue}
use Rattle.nts_model.specs.Terms.Placeholders.{leaf_level}
use Rattle.nts_model.specs.Terms.Substitutions.{leaf_tree, filled, Renaming, rename}
use Rattle.nts_model.specs.Lists.{Among}
use Rattle.nts_model.specs.Derivations.Handlers.{IsFixed}
use Rattle.nts_model.specs.Canonical.Inputs.{Input, PositionKind, type_variable, integer_variable, float_variable, const_variable, region_variable, placeholder, originals}
use Rattle.nts_model.specs.Canonical.Numbered.{position}
use Rattle.nts_model.specs.Answers.Responses.{Response, IsOverPositions, IsResponseTo, placeholder_tree, read_in, IsImageOf, AreImagesOf, IsNamedBy, AreNamedBy, AreEqualIn, RefusesResponse}
use Rattle.nts_model.specs.Refutation.Containing.{IsRootValue, IsInputValue, AreInputValues, IsOwnValue}
use Rattle.nts_model.proofs.Canonical.CanonicalForms.{distinct-originals}
use Rattle.nts_model.proofs.Tables.Solving.{NamesAll-more}
use Rattle.nts_model.proofs.Terms.Substituting.{replace-replace, replace-equal, replace-leaf}
use Rattle.nts_model.proofs.Terms.Listed.{map-map}
use Rattle.nts_theory.specs.Telling.{IsIdentityAnswer}
use Rattle.nts_theory.specs.Refutation.Refutation.{IsCarrying}
use Rattle.nts_theory.proofs.Refutation.Agreeing.{IsNumberedKind, AreNumberedKinds, AgreesWith, AllAgree, filled_each, values_long}
use Rattle.nts_theory.proofs.Refutation.Freshening.{filled_agree}
use Rattle.nts_theory.proofs.Refutation.Carriers.{back_to, back_carrying, instance_by, leaf_named, moved_new, moved_raises}
use Rattle.nts_theory.proofs.Refutation.Carrying.{names_replaced, value_instance, names_terms}
use Rattle.nts_theory.proofs.Refutation.AskingWorlds.{integer_leaf, float_leaf}
use Rattle.nts_decisions.specs.Deciding.{blurred_leaf, blurred}
use Rattle.nts_decisions.specs.Facts.{IsAskedAs}
use Rattle.nts_decisions.proofs.BlurredWorlds.{merged, blurred_world, solves_blurred}
use Rattle.nts_decisions.proofs.OneRegion.{replaced_under}
use Rattle.nts_decisions.proofs.FactWorlds.{low, original_known, moving, moving_carries, image, asked_trees}
use Rattle.nts_decisions.proofs.GrantedFacts.{IsMergedValue, AreMergedValues, ContainsMerged, blurred_filled}

-- kinds that say as little as the input's have the input's values
root_own : (u : ℕ) (k : VariableKind) (t : Tree) → IsRootValue k t → IsOwnValue u k t
root_own u k t h = record { value = h.value; named = NamesAll-more leaf_level 0 u t (omega arith) h.named }

own_agrees : (vs : List Tree) (b : ℕ) (k l : PositionKind) (t : Tree) → IsNumberedKind b k → AgreesWith k l → t ≡ get_or vs b empty → IsInputValue k t → IsMergedValue vs l t
own_agrees vs b (type_variable u r) (type_variable v s) t n a e h = root_own v kind.Ty t h
own_agrees vs b integer_variable integer_variable t n a e h = root_own 0 kind.Int t h
own_agrees vs b float_variable float_variable t n a e h = root_own 0 kind.Float t h
own_agrees vs b (const_variable u) (const_variable v) t n a e h = root_own v kind.Const t h
own_agrees vs b (region_variable u) (region_variable v) t n a e h = root_own v kind.Region t h
own_agrees vs b (placeholder s u m) l t n a e h = subst (λ z. IsMergedValue vs z t) (sym a) (by_universe s u m n)
  where
    by_universe : (s : Sort) (u m : ℕ) → IsNumberedKind b (placeholder s u m) → IsMergedValue vs (placeholder s u m) t
    by_universe s zero m n = rw (n.1) e
    by_universe s (suc u) m n = absurd (let z : suc u ≡ 0 = n.0 in cc z)
own_agrees vs b k l t n a e h = absurd a

all_agree : (vs : List Tree) (b : ℕ) (ks ls : List PositionKind) (ts : List Tree) → AreNumberedKinds b ks → AllAgree ks ls → ((i j : ℕ) → j ≡ b + i → get_or ts i empty ≡ get_or vs j empty) → AreInputValues ks ts → AreMergedValues vs ls ts
all_agree vs b [] [] [] n a e h = tt
all_agree vs b [] [] (t ∷ ts) n a e h = absurd h
all_agree vs b [] (l ∷ ls) ts n a e h = absurd a
all_agree vs b (k ∷ ks) [] ts n a e h = absurd a
all_agree vs b (k ∷ ks) (l ∷ ls) [] n a e h = absurd h
all_agree vs b (k ∷ ks) (l ∷ ls) (t ∷ ts) n a e h = (
  own_agrees vs b k l t n.0 a.0 (e 0 b (omega arith)) h.0,
  all_agree vs (suc b) ks ls ts n.1 a.1 (λ i j q. e (suc i) j (omega (arith, q))) h.1,
)

same_place : (vs : List Tree) (a b : ℕ) → b ≡ 0 + a → get_or vs a empty ≡ get_or vs b empty
same_place vs a b e = (let q : a ≡ b = omega (arith, e) in ap (λ z. get_or vs z empty) q)

pub identity_merged : (ks : List PositionKind) (r : Response) (vs : List Tree) → AreNumberedKinds 0 ks → IsIdentityAnswer r → (let x = r.findings in length x.values ≡ length ks) → AllAgree ks r.kinds → AreInputValues ks vs → map blurred vs ≡ vs → ContainsMerged r vs
identity_merged ks r vs n same long agree h one =
    let x = r.findings in
    let each : map (filled vs) x.values ≡ vs = filled_each vs 0 x.values vs (long ∙ sym (values_long ks vs h)) (λ i l. (let p = same.values i l in let z : i ≡ 0 + i = omega arith in (p.0, p.1 ∙ ap (position p.0) z))) (same_place vs) in
    record {
      own = vs;
      one = one;
      values = all_agree vs 0 ks r.kinds vs n agree (same_place vs) h;
      equal = sym (map-map blurred (filled vs) x.values) ∙ ap (map blurred) each ∙ one;
    }

-- granted to the caller
module _ (c : Content) (w : World) (solves : Solves c w) (i : Input) (from : IsAskedAs c i.environment i.predicate i) where
  abbrev ρ : Renaming
  ρ = moving c w solves i from

  abbrev back : Renaming
  back = back_to ρ

  back_carries : IsCarrying back
  back_carries = back_carrying ρ (moving_carries c w solves i from)

  returns : (t : Tree) → IsFormed t → rename back (rename ρ t) ≡ t
  returns t f =
      replace-replace (λ l. leaf_tree (back.to l)) (λ l. leaf_tree (ρ.to l)) t
      ∙ replace-equal (λ l. leaf_tree (ρ.from (ρ.to l))) leaf_tree (λ l. ap leaf_tree (ρ.back l)) t
      ∙ replace-leaf t f

  leaf_formed : (l : Leaf) → Knows c (leaf_tree l) → IsFormed (inst (blurred_world w) (leaf_tree l))
  leaf_formed (leaf.Variable k n) h = (let f = (solves_blurred c w solves).fitting in let v = f.each n k h.0.0 in v.formed)
  leaf_formed (leaf.Region r) h = (tt, tt)
  leaf_formed (leaf.TyConstant a) h = (tt, tt)
  leaf_formed (leaf.ConstConstant a) h = (tt, tt)

  image_back : (l : Leaf) → Among (originals i) l → rename back (image c w solves i from l) ≡ inst (blurred_world w) (leaf_tree l)
  image_back l a = returns (inst (blurred_world w) (leaf_tree l)) (leaf_formed l (original_known c w solves i from l a))

  original_back : (xs : List Leaf) → ((l : Leaf) → Among xs l → Among (originals i) l) → (n : ℕ) → rename back (get_or (map (image c w solves i from) xs) n empty) ≡ inst (blurred_world w) (get_or (map leaf_tree xs) n empty)
  original_back [] h n = refl
  original_back (x ∷ xs) h zero = image_back x (h x (inl refl))
  original_back (x ∷ xs) h (suc n) = original_back xs (λ l a. h l (inr a)) n

  erased_back : rename back (leaf_tree (leaf.Region region.Erased)) ≡ leaf_tree (leaf.Region region.Erased)
  erased_back = ap leaf_tree (back_carries.plain region.Erased tt)

  raised : (u : ℕ) (t : Tree) → NamesAll leaf_level u t → NamesAll leaf_level (c.universe + u) (rename back t)
  raised u t h = names_replaced (λ l. leaf_tree (back.to l)) u (c.universe + u) (λ l e. leaf_named (c.universe + u) (back.to l) (moved_raises c.universe (originals i) (distinct-originals i) (low c w solves i from) l u e)) t h

  own_value : (k : VariableKind) (u : ℕ) (t : Tree) → IsOwnValue u k t → IsValue k (rename back t) × NamesAll term_level (c.universe + u) (rename back t)
  own_value k u t h = (value_instance (instance_by back back_carries) k t h.value, names_terms (c.universe + u) (rename back t) (raised u t h.named))

  new_back : (o : Sort) (u n : ℕ) → rename back (merged (placeholder_tree o (suc u) n)) ≡ inst (blurred_world w) (placeholder_tree o (c.universe + suc u) n)
  new_back sort.Ty u n = ap leaf_tree (moved_new c.universe (originals i) (distinct-originals i) (low c w solves i from) sort.Ty u n)
  new_back sort.Const u n = ap leaf_tree (moved_new c.universe (originals i) (distinct-originals i) (low c w solves i from) sort.Const u n)
  new_back sort.Region u n = erased_back

  granted_value : (k : PositionKind) (t : Tree) → IsMergedValue (asked_trees c w solves i from) k t
      → IsImageOf (blurred_world w) c.universe (map leaf_tree (originals i)) k (rename back t) × IsNamedBy term_level c.universe k (rename back t)
  granted_value (type_variable u r) t h = own_value kind.Ty u t h
  granted_value (const_variable u) t h = own_value kind.Const u t h
  granted_value (region_variable u) t h = own_value kind.Region u t h
  granted_value integer_variable t h = (let v = value_instance (instance_by back back_carries) kind.Int t h.value in (v, names_terms 0 (rename back t) (integer_leaf (rename back t) v.fits v.formed)))
  granted_value float_variable t h = (let v = value_instance (instance_by back back_carries) kind.Float t h.value in (v, names_terms 0 (rename back t) (float_leaf (rename back t) v.fits v.formed)))
  granted_value (placeholder o zero n) t h = (ap (rename back) h ∙ original_back (originals i) (λ l a. a) n, tt)
  granted_value (placeholder o (suc u) n) t h = (ap (rename back) h ∙ new_back o u n, tt)

  granted_values : (ks : List PositionKind) (zs : List Tree) → AreMergedValues (asked_trees c w solves i from) ks zs
      → AreImagesOf (blurred_world w) c.universe (map leaf_tree (originals i)) ks (map (rename back) zs) × AreNamedBy term_level c.universe ks (map (rename back) zs)
  granted_values [] [] h = (tt, tt)
  granted_values [] (t ∷ zs) h = absurd h
  granted_values (k ∷ ks) [] h = absurd h
  granted_values (k ∷ ks) (t ∷ zs) h =
      let one = granted_value k t h.0 in
      let rest = granted_values ks zs h.1 in ((one.0, rest.0), (one.1, rest.1))

  fixed_back : (l : Leaf) → IsFixed l → rename back (blurred_leaf l) ≡ inst (blurred_world w) (leaf_tree l)
  fixed_back (leaf.Region r) a = erased_back
  fixed_back (leaf.Variable k n) a = absurd a
  fixed_back (leaf.TyConstant x) a = absurd a
  fixed_back (leaf.ConstConstant x) a = absurd a

  read_back : (own : List Tree) (t : Tree) → map blurred own ≡ own → IsOverPositions t → read_in (blurred_world w) (map (rename back) own) t ≡ rename back (blurred (filled own t))
  read_back own t one over =
      sym (ap (rename back) (blurred_filled own t one)
      ∙ replaced_under (λ l. leaf_tree (back.to l)) blurred_leaf own t
      ∙ filled_agree (λ l. rename back (blurred_leaf l)) (λ l. inst (blurred_world w) (leaf_tree l)) (map (rename back) own) t over.formed (λ l a. fixed_back l (over.leaves l a)))

  granted_equal : (own zs : List Tree) (xs : List Leaf) → map blurred own ≡ own → ((l : Leaf) → Among xs l → Among (originals i) l) → ((t : Tree) → Among zs t → IsOverPositions t) → map (λ t. blurred (filled own t)) zs ≡ map (image c w solves i from) xs
      → AreEqualIn (blurred_world w) (map (rename back) own) zs (map leaf_tree xs)
  granted_equal own [] [] one h o e = tt
  granted_equal own [] (x ∷ xs) one h o e = cc e
  granted_equal own (t ∷ zs) [] one h o e = cc e
  granted_equal own (t ∷ zs) (x ∷ xs) one h o e =
      let first : blurred (filled own t) ≡ image c w solves i from x = cc in
      let rest : map (λ z. blurred (filled own z)) zs ≡ map (image c w solves i from) xs = cc in (
        read_back own t one (o t (inl refl)) ∙ ap (rename back) first ∙ image_back x (h x (inl refl)),
        granted_equal own zs xs one (λ l a. h l (inr a)) (λ u a. o u (inr a)) rest,
      )

  -- what the answer contains is never refused
  pub merged_granted : (ks : List PositionKind) (r : Response) → IsResponseTo ks r → ContainsMerged r (asked_trees c w solves i from) → RefusesResponse c (map leaf_tree (originals i)) r → ⊥
  merged_granted ks r fit x refuses =
      let v = granted_values r.kinds x.own x.values in
      refuses.none (blurred_world w) (map (rename back) x.own) (solves_blurred c w solves) v.0 v.1 (granted_equal x.own r.findings.values (originals i) x.one (λ l a. a) fit.values x.equal)
