-- Places of variables, and what stands at them.
use Rattle.std.proofs.Common.{◌≡◌, ℕ, zero, suc, ◌+◌, ◌<◌, List, [], ◌∷◌, ◌++◌, ◌⊎◌, inl, inr, Some, All, slice_get, length, map, take, get_or, refl, sym, ap, subst, ◌∙◌, arith}
use Rattle.std.proofs.lemmas.List.{map-append, take_more, length-take-le}
use Rattle.nts_model.specs.declared.labels.Sort.{Sort}
use Rattle.nts_model.specs.declared.labels.Sort.TheVariants as sort
use Rattle.nts_model.specs.Canonical.Numbered.{position}
use Rattle.nts_model.specs.Terms.Trees.{Tree, variable_tree}
use Rattle.nts_store.specs.declared.nodes.NodeId.{NodeId}
use Rattle.nts_store.specs.Growth.{tree_at, trees_at, AllIn, Extends}
use Rattle.nts_store.proofs.Growing.{Extends-trans}
use Rattle.nts_table.specs.Fresh.{fresh_row, variable_kind}
use Rattle.nts_terms.specs.declared.handles.GenericArg.{GenericArg}
use Rattle.std.proofs.lemmas.List.Elements.{All-push}
use Rattle.nts_text.specs.declared.resolver.Resolved.{Resolved}
use Rattle.nts_text.specs.declared.resolver.Resolved.TheVariants as nodes
use Rattle.nts_wording.specs.Meaning.{AreOwnPlaces, HasOwnPlaces, HasPlace, KeepsPlaces, AreClausePositions, trees_from}
use Rattle.nts_wording.specs.declared.variables.LineVariables.{LineVariables}
use Rattle.nts_model.proofs.Tables.Slots.{slice_get-push_new as get-end}

get-front : {A : Type 0} (xs ys : List A) (i : ℕ) (x : A) → slice_get xs i ≡ Some x → slice_get (xs ++ ys) i ≡ Some x
get-front [] ys i x h = cc
get-front (y ∷ xs) ys zero x h = h
get-front (y ∷ xs) ys (suc i) x h = get-front xs ys i x h

get-none : {A : Type 0} (xs : List A) (x : A) → slice_get xs (length xs) ≡ Some x → ⊥
get-none [] x h = cc
get-none (y ∷ xs) x h = get-none xs x h

some_is : {A : Type 0} (x y : A) → Some x ≡ Some y → y ≡ x
some_is x y h = cc

-- an item of a list with one more is an old one or that one
get-push : {A : Type 0} (xs : List A) (x y : A) (i : ℕ) → slice_get (xs ++ x ∷ []) i ≡ Some y → (slice_get xs i ≡ Some y) ⊎ ((i ≡ length xs) × (y ≡ x))
get-push [] x y zero h = inr (refl, some_is x y h)
get-push [] x y (suc i) h = cc
get-push (z ∷ xs) x y zero h = inl h
get-push (z ∷ xs) x y (suc i) h = next (get-push xs x y i h)
  where
    next : (slice_get xs i ≡ Some y) ⊎ ((i ≡ length xs) × (y ≡ x)) → (slice_get xs i ≡ Some y) ⊎ ((suc i ≡ suc (length xs)) × (y ≡ x))
    next (inl k) = inl k
    next (inr k) = inr (ap suc k.0, k.1)

own_longer : (s t : Sort) (sorts : List Sort) (places : List ℕ) → AreOwnPlaces s sorts places → AreOwnPlaces s (sorts ++ t ∷ []) places
own_longer s t sorts places h = record { sorted = λ i p e. get-front sorts (t ∷ []) p s (h.sorted i p e); apart = h.apart }

module _ (s : Sort) (sorts : List Sort) (places : List ℕ) (h : AreOwnPlaces s sorts places) where
  abbrev IsAt : ℕ → ℕ → Type 0
  IsAt i p = (slice_get places i ≡ Some p) ⊎ ((i ≡ length places) × (p ≡ length sorts))

  sorted_at : (i p : ℕ) → IsAt i p → slice_get (sorts ++ s ∷ []) p ≡ Some s
  sorted_at i p (inl e) = get-front sorts (s ∷ []) p s (h.sorted i p e)
  sorted_at i p (inr e) = ap (slice_get (sorts ++ s ∷ [])) e.1 ∙ get-end sorts s

  not_new : (i p : ℕ) → slice_get places i ≡ Some p → p ≡ length sorts → ⊥
  not_new i p e same = get-none sorts s (ap (slice_get sorts) (sym same) ∙ h.sorted i p e)

  apart_at : (i j p : ℕ) → IsAt i p → IsAt j p → i ≡ j
  apart_at i j p (inl e) (inl f) = h.apart i j p e f
  apart_at i j p (inl e) (inr f) = absurd (not_new i p e f.1)
  apart_at i j p (inr e) (inl f) = absurd (not_new j p f e.1)
  apart_at i j p (inr e) (inr f) = e.0 ∙ sym f.0

  own_more : AreOwnPlaces s (sorts ++ s ∷ []) (places ++ length sorts ∷ [])
  own_more = record {
    sorted = λ i p e. sorted_at i p (get-push places (length sorts) p i e);
    apart = λ i j p e f. apart_at i j p (get-push places (length sorts) p i e) (get-push places (length sorts) p j f);
  }

-- one sort more, that has no variable yet
pub own_sort : (old new : LineVariables) (s : Sort) → new.sorts.items ≡ old.sorts.items ++ s ∷ [] → new.types.items ≡ old.types.items → new.regions.items ≡ old.regions.items → HasOwnPlaces old → HasOwnPlaces new
own_sort old new s e f g h = record {
  types = rw (e, f) (own_longer sort.Ty s old.sorts.items old.types.items h.types);
  regions = rw (e, g) (own_longer sort.Region s old.sorts.items old.regions.items h.regions);
}

-- one variable of a type more, or of a region
pub own_type : (old new : LineVariables) (place : ℕ) → place ≡ length old.sorts.items → new.sorts.items ≡ old.sorts.items ++ sort.Ty ∷ [] → new.types.items ≡ old.types.items ++ place ∷ [] → new.regions.items ≡ old.regions.items → HasOwnPlaces old → HasOwnPlaces new
own_type old new place at e f g h = record {
  types = rw (e, f, at) (own_more sort.Ty old.sorts.items old.types.items h.types);
  regions = rw (e, g) (own_longer sort.Region sort.Ty old.sorts.items old.regions.items h.regions);
}

pub own_region : (old new : LineVariables) (place : ℕ) → place ≡ length old.sorts.items → new.sorts.items ≡ old.sorts.items ++ sort.Region ∷ [] → new.types.items ≡ old.types.items → new.regions.items ≡ old.regions.items ++ place ∷ [] → HasOwnPlaces old → HasOwnPlaces new
own_region old new place at e f g h = record {
  types = rw (e, f) (own_longer sort.Ty sort.Region old.sorts.items old.types.items h.types);
  regions = rw (e, g, at) (own_more sort.Region old.sorts.items old.regions.items h.regions);
}

-- places that are kept
pub places_refl : (v : LineVariables) → KeepsPlaces v v
places_refl v = record { types = omega arith; regions = omega arith }

pub places_trans : {u v w : LineVariables} → KeepsPlaces u v → KeepsPlaces v w → KeepsPlaces u w
places_trans {u} {v} {w} h k = record { types = omega (arith, h.types, k.types); regions = omega (arith, h.regions, k.regions) }

pub place_kept : (v w : LineVariables) (r : Resolved) → KeepsPlaces v w → HasPlace v r → HasPlace w r
place_kept v w (nodes.Binds s) k h = tt
place_kept v w (nodes.BoundType i) k h = tt
place_kept v w (nodes.BoundRegion i) k h = tt
place_kept v w (nodes.Trait i n) k h = tt
place_kept v w nodes.TypeOutlives k h = tt
place_kept v w nodes.RegionOutlives k h = tt
place_kept v w (nodes.Ctor i n) k h = tt
place_kept v w (nodes.Alias i n) k h = tt
place_kept v w (nodes.Normalizes i n) k h = tt
place_kept v w (nodes.Int i) k h = tt
place_kept v w (nodes.Uint i) k h = tt
place_kept v w (nodes.TypeVariable i) k h = omega (arith, h, k.types)
place_kept v w (nodes.TypeParam i) k h = tt
place_kept v w (nodes.RegionVariable i) k h = omega (arith, h, k.regions)
place_kept v w (nodes.RegionParam i) k h = tt
place_kept v w nodes.Static k h = tt

pub all_placed : (v w : LineVariables) (rs : List Resolved) → KeepsPlaces v w → All (HasPlace v) rs → All (HasPlace w) rs
all_placed v w rs k h = λ i d lt. place_kept v w (get_or rs i d) k (h i d lt)

-- one more node that has its place
pub placed_more : (v w : LineVariables) (rs : List Resolved) (i : ℕ) (d : Resolved) → i < length rs → KeepsPlaces v w → All (HasPlace v) (take i rs) → HasPlace w (get_or rs i d) → All (HasPlace w) (take (i + 1) rs)
placed_more v w rs i d lt k h here =
    subst (All (HasPlace w)) (sym (take_more rs i d lt)) (All-push (HasPlace w) (take i rs) (get_or rs i d) (all_placed v w (take i rs) k h) here)

pub ruleset placed = (own_sort, own_type, own_region, places_refl, places_trans)

-- the values of one sort more
trees_push : (f : Sort → ℕ → Tree) (n : ℕ) (ss : List Sort) (s : Sort) → trees_from f n (ss ++ s ∷ []) ≡ trees_from f n ss ++ f s (n + length ss) ∷ []
trees_push f n [] s = let e : n + 0 ≡ n = omega arith in ap (λ k. f s k ∷ []) (sym e)
trees_push f n (x ∷ ss) s =
    let e : suc n + length ss ≡ n + suc (length ss) = omega arith in
    ap (λ ts. f x n ∷ ts) (trees_push f (suc n) ss s ∙ ap (λ k. trees_from f (suc n) ss ++ f s k ∷ []) e)

-- new variables are told apart by their numbers
pub variables_from : (ts us : List Tree) (n : ℕ) (ss : List Sort) (ns : List NodeId) → Extends ts us → AllIn ts ns → trees_at ts ns ≡ fresh_row n ss
    → map (tree_at us) ns ≡ trees_from (λ s k. variable_tree (variable_kind s) k) n ss
variables_from ts us n [] [] e h r = refl
variables_from ts us n [] (x ∷ ns) e h r = cc
variables_from ts us n (s ∷ ss) [] e h r = cc
variables_from ts us n (s ∷ ss) (x ∷ ns) e h r =
    let head : tree_at ts x ≡ variable_tree (variable_kind s) n = cc in
    let tail : trees_at ts ns ≡ fresh_row (suc n) ss = cc in
    cc (e.kept x h.0 ∙ head, variables_from ts us (suc n) ss ns e h.1 tail)

pub trees_unwrapped : (ts : List Tree) (vs : List GenericArg) → map (λ v. tree_at ts v.node) vs ≡ map (tree_at ts) (map (λ v. v.node) vs)
trees_unwrapped ts [] = refl
trees_unwrapped ts (v ∷ vs) = ap (λ xs. tree_at ts v.node ∷ xs) (trees_unwrapped ts vs)

-- one position more
pub positions_push : (mid ts us : List Tree) (ss : List Sort) (i : ℕ) (d : Sort) (vs : List GenericArg) (v : GenericArg) → i < length ss
    → ((ws : List Tree) → Extends mid ws → AreClausePositions ws (take i ss) vs) → Extends mid ts → Extends ts us → tree_at us v.node ≡ position (get_or ss i d) i
    → AreClausePositions us (take (i + 1) ss) (vs ++ v ∷ [])
positions_push mid ts us ss i d vs v lt h e later here =
    let counted : length (take i ss) ≡ i = length-take-le i ss (omega (arith, lt)) in
    let long : 0 + length (take i ss) ≡ i = omega (arith, counted) in
    map-append (λ a. tree_at us a.node) vs (v ∷ []) ∙ ap (λ xs. xs ++ tree_at us v.node ∷ []) (h us (Extends-trans e later))
    ∙ ap (λ t. trees_from position 0 (take i ss) ++ t ∷ []) (here ∙ ap (position (get_or ss i d)) (sym long))
    ∙ sym (trees_push position 0 (take i ss) (get_or ss i d)) ∙ ap (trees_from position 0) (sym (take_more ss i d lt))
