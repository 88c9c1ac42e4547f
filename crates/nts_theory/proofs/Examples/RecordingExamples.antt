-- Which region constraints are told: those that say something, in the order of recording, each once.
use Rattle.std.proofs.Common.{◌≡◌, subst, sym, ap, ◌≤◌, List, [], ◌∷◌, ◌++◌, length, refl, inl, inr, arith}
use Rattle.std.specs.Prelude.{◌⊎◌, true, false}
use Rattle.std.proofs.lemmas.List.{same_from_push, length_push}
use Rattle.nts_model.specs.declared.labels.Relation.TheVariants as relation
use Rattle.nts_model.specs.declared.labels.FreeRegion.TheVariants as region
use Rattle.nts_model.specs.declared.labels.Leaf.TheVariants as leaf
use Rattle.nts_model.specs.Terms.Trees.{Tree}
use Rattle.nts_model.specs.Terms.Substitutions.{leaf_tree}
use Rattle.nts_model.specs.Tables.Contents.{Recorded}
use Rattle.nts_model.specs.Tables.Recording.{SaysNothingNew, AreNews, none, passed, told}

abbrev static_region : Tree
static_region = leaf_tree (leaf.Region region.Static)

abbrev parameter : Tree
parameter = leaf_tree (leaf.Region (region.EarlyParam 0))

abbrev lives : Tree → Tree → Recorded
lives a b = record { relation = relation.RegionOutlives; left = a; right = b; is_visible = true }

abbrev unseen : Recorded → Recorded
unseen x = record x { is_visible = false }

abbrev first : Recorded
first = lives parameter static_region

abbrev second : Recorded
second = lives static_region parameter

two_regions : parameter ≡ static_region → ⊥
two_regions e = cc

first_says_something : SaysNothingNew [] first → ⊥
first_says_something (inl e) = two_regions e
first_says_something (inr h) = h

second_says_something : SaysNothingNew (first ∷ []) second → ⊥
second_says_something (inl e) = two_regions (sym e)
second_says_something (inr (inl h)) = two_regions h.left
second_says_something (inr (inr h)) = h

-- two that are recorded are told in their order
pub told_in_order : AreNews (first ∷ second ∷ []) (first ∷ second ∷ [])
told_in_order = told second (told first none first_says_something) second_says_something

-- one that is recorded again is told as it was recorded first
pub told_once : AreNews (first ∷ unseen first ∷ []) (first ∷ [])
told_once = passed (unseen first) (told first none first_says_something) (inr (inl (record { relation = refl; left = refl; right = refl })))

-- the last one that was recorded: it said nothing new, or it was told last
abbrev IsLastTold : List Recorded → Recorded → List Recorded → Type 0
IsLastTold xs x zs =
    SaysNothingNew xs x × AreNews xs zs
    ⊎ (SaysNothingNew xs x → ⊥) × ((ys : List Recorded) × (zs ≡ ys ++ x ∷ []) × AreNews xs ys)

last_told : (ws zs xs : List Recorded) (x : Recorded) → AreNews ws zs → ws ≡ xs ++ x ∷ [] → IsLastTold xs x zs
last_told ws zs xs x none e = (let many : 0 ≡ length (xs ++ x ∷ []) = ap length e in absurd (omega (arith, many, length_push xs x)))
last_told ws zs xs x (passed {xs = us} {ys = vs} y n k) e =
    let same = same_from_push us xs y x e in
    inl (subst (SaysNothingNew xs) same.1 (subst (λ v. SaysNothingNew v y) same.0 k), subst (λ v. AreNews v zs) same.0 n)
last_told ws zs xs x (told {xs = us} {ys = vs} y n k) e =
    let same = same_from_push us xs y x e in
    inr (
      λ s. k (subst (λ v. SaysNothingNew v y) (sym same.0) (subst (SaysNothingNew xs) (sym same.1) s)),
      (vs, ap (λ z. vs ++ z ∷ []) same.1, subst (λ v. AreNews v vs) same.0 n),
    )

no_more_told : (ws zs : List Recorded) → AreNews ws zs → length zs ≤ length ws
no_more_told ws zs none = omega arith
no_more_told ws zs (passed {xs = us} {ys = vs} y n k) = (let l = no_more_told us zs n in omega (arith, l, length_push us y))
no_more_told ws zs (told {xs = us} {ys = vs} y n k) = (let l = no_more_told us vs n in omega (arith, l, length_push us y, length_push vs y))

-- one whose sides are one is not told
trivial_is_untold : AreNews (lives parameter parameter ∷ []) (lives parameter parameter ∷ []) → ⊥
trivial_is_untold n = (let x = lives parameter parameter in by_case (last_told (x ∷ []) (x ∷ []) [] x n refl))
  where
    by_case : IsLastTold [] (lives parameter parameter) (lives parameter parameter ∷ []) → ⊥
    by_case (inl (s, m)) = (let few = no_more_told [] (lives parameter parameter ∷ []) m in omega (arith, few))
    by_case (inr (f, r)) = f (inl refl)

-- one that is recorded twice is not told twice
twice_is_not_told : AreNews (first ∷ first ∷ []) (first ∷ first ∷ []) → ⊥
twice_is_not_told n = by_case (last_told (first ∷ first ∷ []) (first ∷ first ∷ []) (first ∷ []) first n refl)
  where
    by_case : IsLastTold (first ∷ []) first (first ∷ first ∷ []) → ⊥
    by_case (inl (s, m)) = (let few = no_more_told (first ∷ []) (first ∷ first ∷ []) m in omega (arith, few))
    by_case (inr (f, r)) = f (inr (inl (record { relation = refl; left = refl; right = refl })))

-- two are not told the other way round
turned_is_not_told : AreNews (first ∷ second ∷ []) (second ∷ first ∷ []) → ⊥
turned_is_not_told n = by_case (last_told (first ∷ second ∷ []) (second ∷ first ∷ []) (first ∷ []) second n refl)
  where
    by_case : IsLastTold (first ∷ []) second (second ∷ first ∷ []) → ⊥
    by_case (inl (s, m)) = (let few = no_more_told (first ∷ []) (second ∷ first ∷ []) m in omega (arith, few))
    by_case (inr (f, (ys, e, m))) = two_regions (ap (λ (x : Recorded). x.left) (same_from_push (second ∷ []) ys first second e).1)
