-- Where positions stand for leaves, each is of the sort of its leaf, and the term is closed if it was.
use Rattle.std.proofs.Common.{◌≡◌, inl, inr, ⊎_elim, ℕ, suc, ◌+◌, ◌≤◌, max, true, false, List, [], ◌∷◌, map, Some, refl, sym, ap, ◌∙◌, arith, subst}
use Rattle.std.specs.Prelude.{slice_get, Contains}
use Rattle.std.specs.List.{position_or_len}
use Rattle.std.proofs.Math.Nat.{le-max_left, le-max_right}
use Rattle.nts_model.specs.declared.labels.Sort.{Sort}
use Rattle.nts_model.specs.declared.labels.VariableKind.TheVariants as kind
use Rattle.nts_model.specs.declared.labels.FreeRegion.TheVariants as region
use Rattle.nts_model.specs.declared.labels.Constant.TheVariants as constant
use Rattle.nts_model.specs.declared.labels.Leaf.{Leaf}
use Rattle.nts_model.specs.declared.labels.Leaf.TheVariants as leaf
use Rattle.nts_model.specs.declared.labels.BoundVarIndexKind.TheVariants as index
use Rattle.nts_model.specs.declared.labels.Label.{Label}
use Rattle.nts_model.specs.declared.labels.Label.TheVariants as label
use Rattle.nts_model.specs.Terms.Trees.{Tree, empty, more, node, any_label, is_canonical, kind_of, kind_of_label, sort_of_leaf, IsClosed}
use Rattle.nts_model.specs.Tables.Contents.{Content}
use Rattle.nts_model.specs.Terms.Substitutions.{put, replace, Occurs}
use Rattle.nts_model.specs.Lists.{Among}
use Rattle.nts_model.specs.Derivations.Handlers.{NamesFresh, IsFixed}
use Rattle.nts_model.specs.Canonical.Numbered.{number, numbered_leaf}
use Rattle.nts_model.specs.Canonical.Inputs.{PositionKind, share}
use Rattle.nts_model.specs.Searching.Driving.{sort_at}
use Rattle.nts_model.specs.Answers.Responses.{is_fixed, positioned, answer_kind, answer_kinds, universe_of_kind, greatest}
use Rattle.nts_model.proofs.Terms.Listed.{either, tell, differ, same-yes, map-map, map-equal}
use Rattle.nts_model.proofs.Canonical.Numbering.{AtNode, AllLeaves, AllLeaves-map, HasNoPositions, IsSeen}
use Rattle.nts_model.proofs.Lists.{contains_none, first_or_later}
use Rattle.nts_theory.proofs.Derivations.ProvedLater.{contains_first, contains_later}
use Rattle.nts_model.proofs.Terms.Substituting.{kind_of-replace, IsClosed-replace}
use Rattle.nts_model.specs.Terms.Scoping.{IsWellBound}
use Rattle.nts_model.proofs.Terms.Scoping.{well_bound_patched, replace_patched, numbered_leaf_patch}
use Rattle.nts_theory.proofs.Responses.Answering.{AreSeen, IsPlainTerm, positioned_over}
use Rattle.nts_model.proofs.Terms.Unpositioned.{or_false}

-- a closed term over positions of these sorts, whose binders list what they bind
pub record IsTreeOver (ss : List Sort) (t : Tree) : Type 0 where
  pub names : NamesFresh ss t
  pub leaves : (l : Leaf) → Occurs l t → IsFixed l
  pub closed : IsClosed t
  pub well_bound : IsWellBound t

-- the sort at the number of a leaf
slice_get-next : (x : Sort) (xs : List Sort) (n : ℕ) → slice_get (x ∷ xs) (1 + n) ≡ slice_get xs n
slice_get-next x xs n = let e : 1 + n ≡ suc n = omega arith in rw e refl

sort_numbered : (s : List Leaf) (l : Leaf) → Among s l → slice_get (map sort_of_leaf s) (number s l) ≡ Some (sort_of_leaf l)
sort_numbered [] l i = absurd i
sort_numbered (x ∷ xs) l h = elim (tell l x) [
  | inl p ↦ rw (same-yes l x p) (ap (λ z. Some (sort_of_leaf z)) (sym p))
  | inr e ↦ rw e (slice_get-next (sort_of_leaf x) (map sort_of_leaf xs) (number xs l) ∙ sort_numbered xs l (elim h [ inl p ↦ absurd (differ l x e p) | inr q ↦ q ]))
]

named_leaf : (s : List Leaf) (l : Leaf) → IsSeen is_fixed s l → NamesFresh (map sort_of_leaf s) (numbered_leaf is_fixed s l)
named_leaf s l h = elim (either (is_fixed l)) [ inl e ↦ rw e (tt, tt) | inr e ↦ rw (e, sort_numbered s l (h e)) (refl, tt) ]

named_put : (ss : List Sort) (f : Leaf → Tree) (A : Type 0) (l : Label) (c : Tree) → is_canonical l ≡ false → (A → NamesFresh ss c) → AtNode (λ x. NamesFresh ss (f x)) l A → NamesFresh ss (put f l c)
named_put ss f A (label.Leaf x) c e k h = h
named_put ss f A (label.Bound s (index.Bound d) n) c e k h = (tt, k h)
named_put ss f A (label.Bound s index.Canonical n) c e k h = absurd (let g : true ≡ false = e in cc)
named_put ss f A (label.Ty x) c e k h = (tt, k h)
named_put ss f A (label.Const x) c e k h = (tt, k h)
named_put ss f A (label.Clause x) c e k h = (tt, k h)
named_put ss f A (label.Predicate x) c e k h = (tt, k h)
named_put ss f A (label.List x) c e k h = (tt, k h)

named_replace : (ss : List Sort) (f : Leaf → Tree) (t : Tree) → HasNoPositions t → AllLeaves (λ l. NamesFresh ss (f l)) t → NamesFresh ss (replace f t)
named_replace ss f empty e h = tt
named_replace ss f (more a b) e h = let k = or_false (any_label is_canonical a) (any_label is_canonical b) e in (named_replace ss f a k.0 h.0, named_replace ss f b k.1 h.1)
named_replace ss f (node l c) e h =
    let k = or_false (is_canonical l) (any_label is_canonical c) e in
    named_put ss f (AllLeaves (λ x. NamesFresh ss (f x)) c) l (replace f c) k.0 (named_replace ss f c k.1) h

numbered_kind : (s : List Leaf) (l : Leaf) → kind_of (numbered_leaf is_fixed s l) ≡ Some (kind_of_label (label.Leaf l))
numbered_kind s l = elim (either (is_fixed l)) [ inl e ↦ rw e refl | inr e ↦ rw e refl ]

numbered_closed : (s : List Leaf) (l : Leaf) → IsClosed (numbered_leaf is_fixed s l)
numbered_closed s l = elim (either (is_fixed l)) [ inl e ↦ rw e (tt, tt) | inr e ↦ rw e (tt, tt) ]

pub positioned_is_over : (s : List Leaf) (t : Tree) → IsPlainTerm t → IsClosed t → AreSeen s t → IsTreeOver (map sort_of_leaf s) (positioned s t)
positioned_is_over s t p c h =
    let o = positioned_over s t p.formed in
    record {
      names = named_replace (map sort_of_leaf s) (numbered_leaf is_fixed s) t p.no_positions (AllLeaves-map _ _ t (named_leaf s) h);
      leaves = o.leaves;
      closed = IsClosed-replace (numbered_leaf is_fixed s) (numbered_closed s) 0 t c;
      well_bound = well_bound_patched t (positioned s t) (replace_patched (numbered_leaf is_fixed s) (λ l. numbered_leaf_patch is_fixed s l (is_fixed l)) t) p.well_bound;
    }

pub positioned_kind : (s : List Leaf) (t : Tree) → kind_of (positioned s t) ≡ kind_of t
positioned_kind s t = kind_of-replace (numbered_leaf is_fixed s) (numbered_kind s) t

-- the kind of a leaf's position is of its sort
answer_sort : (c : Content) (m f : ℕ) (l : Leaf) → sort_at (answer_kind c m f l) ≡ sort_of_leaf l
answer_sort c m f (leaf.Variable kind.Ty n) = refl
answer_sort c m f (leaf.Variable kind.Int n) = refl
answer_sort c m f (leaf.Variable kind.Float n) = refl
answer_sort c m f (leaf.Variable kind.Const n) = refl
answer_sort c m f (leaf.Variable kind.Region n) = refl
answer_sort c m f (leaf.Region (region.Placeholder u n)) = refl
answer_sort c m f (leaf.Region region.Static) = refl
answer_sort c m f (leaf.Region region.Erased) = refl
answer_sort c m f (leaf.Region region.Error) = refl
answer_sort c m f (leaf.Region (region.EarlyParam n)) = refl
answer_sort c m f (leaf.Region (region.LateParam n)) = refl
answer_sort c m f (leaf.TyConstant (constant.Placeholder u n)) = refl
answer_sort c m f (leaf.TyConstant (constant.Param n)) = refl
answer_sort c m f (leaf.ConstConstant (constant.Placeholder u n)) = refl
answer_sort c m f (leaf.ConstConstant (constant.Param n)) = refl

pub answer_sorts : (c : Content) (r : ℕ → ℕ) (m : ℕ) (s : List Leaf) → map sort_at (answer_kinds c r m s) ≡ map sort_of_leaf s
answer_sorts c r m s =
    map-map sort_at (λ l. answer_kind c m (position_or_len (share r l) s) l) s
    ∙ map-equal (λ l. sort_at (answer_kind c m (position_or_len (share r l) s) l)) sort_of_leaf s (λ l i. answer_sort c m (position_or_len (share r l) s) l)

-- no kind is of a universe above the greatest
pub below_greatest : (ks : List PositionKind) (k : PositionKind) → Contains ks k → universe_of_kind k ≤ greatest ks
below_greatest [] k i = absurd (contains_none k i)
below_greatest (x ∷ xs) k i = ⊎_elim
    (λ e. subst (λ z. universe_of_kind z ≤ max (universe_of_kind x) (greatest xs)) e (le-max_left (universe_of_kind x) (greatest xs)))
    (λ j. omega (arith, below_greatest xs k j, le-max_right (universe_of_kind x) (greatest xs)))
    (first_or_later x xs k i)

-- elements of lists that are mapped
pub contained_map : {X Y : Type 0} (f : X → Y) (xs : List X) (x : X) → Contains xs x → Contains (map f xs) (f x)
contained_map f [] x h = absurd (contains_none x h)
contained_map f (y ∷ xs) x h = ⊎_elim
    (λ e. subst (λ z. Contains (f y ∷ map f xs) (f z)) e (contains_first (f y) (map f xs)))
    (λ i. contains_later (f y) (map f xs) (f x) (contained_map f xs x i))
    (first_or_later y xs x h)

pub contained_from : {X Y : Type 0} (f : X → Y) (xs : List X) (y : Y) → Contains (map f xs) y → (x : X) × Contains xs x × (y ≡ f x)
contained_from f [] y h = absurd (contains_none y h)
contained_from f (x ∷ xs) y h = ⊎_elim
    (λ e. (x, contains_first x xs, sym e))
    (λ i. let z = contained_from f xs y i in (z.0, contains_later x xs z.0 z.1, z.2))
    (first_or_later (f x) (map f xs) y h)

pub contained_among : {X : Type 0} (xs : List X) (x : X) → Contains xs x → Among xs x
contained_among [] x h = absurd (contains_none x h)
contained_among (y ∷ xs) x h = ⊎_elim (λ e. inl (sym e)) (λ i. inr (contained_among xs x i)) (first_or_later y xs x h)
