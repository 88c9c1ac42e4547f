-- The kinds of positions, one by one.
use Rattle.std.proofs.Common.{◌≡◌, ℕ, zero, suc, ◌+◌, ◌<◌, Bool, List, [], ◌∷◌, ◌++◌, map, length, take, get_or, Option, inl, inr, refl, sym, ap, ◌∙◌, arith}
use Rattle.std.specs.List.{position_or_len}
use Rattle.std.proofs.lemmas.List.{take_more}
use Rattle.nts_model.specs.declared.labels.Leaf.{Leaf}
use Rattle.nts_model.specs.Terms.Substitutions.{leaf_sort}
use Rattle.nts_model.specs.Lists.{Among}
use Rattle.nts_model.specs.Canonical.Numbered.{number, AreDistinct}
use Rattle.nts_model.specs.Canonical.Inputs.{sub_root_of, are_one, share, position_kind_at, position_kind}
use Rattle.nts_model.proofs.Terms.Listed.{either, tell, same-yes}
use Rattle.nts_unify.specs.Entries.{Entries}
use Rattle.nts_canonical.specs.declared.types.CanonicalVarKind.{CanonicalVarKind}
use Rattle.nts_canonical.specs.Forms.{kind_of_var}
use Rattle.nts_canonical.specs.Owned.{IsOwned, AreOwned}

pub owned-at : (e : Entries) (ls : List Leaf) (i : ℕ) (d : Leaf) → AreOwned e ls → i < length ls → IsOwned e (get_or ls i d)
owned-at e [] i d h l = absurd (omega arith)
owned-at e (x ∷ xs) zero d h l = h.0
owned-at e (x ∷ xs) (suc i) d h l = owned-at e xs i d h.1 (omega arith)

among-at : (ls : List Leaf) (i : ℕ) (d : Leaf) → i < length ls → Among ls (get_or ls i d)
among-at [] i d l = absurd (omega arith)
among-at (x ∷ xs) zero d l = inl refl
among-at (x ∷ xs) (suc i) d l = inr (among-at xs i d (omega arith))

-- the number of the leaf at a place is the place
pub number-at : (ls : List Leaf) (i : ℕ) (d : Leaf) → AreDistinct ls → i < length ls → number ls (get_or ls i d) ≡ i
number-at [] i d h l = absurd (omega arith)
number-at (x ∷ xs) zero d h l = rw (same-yes x x refl) refl
number-at (x ∷ xs) (suc i) d h l =
    elim (tell (get_or xs i d) x) [
      | inl p ↦ absurd (h.0 (rw p at (among-at xs i d (omega arith))))
      | inr e ↦ rw e (omega (arith, number-at xs i d h.1 (omega arith)))
    ]

pub place-map : {X : Type 0} (f : Leaf → X) (p : X → Bool) (s : List Leaf) → position_or_len p (map f s) ≡ position_or_len (λ x. p (f x)) s
place-map f p [] = refl
place-map f p (x ∷ xs) = elim (either (p (f x))) [ inl e ↦ rw e refl | inr e ↦ rw e (ap (λ n. 1 + n) (place-map f p xs)) ]

pub map-push : {X Y : Type 0} (f : X → Y) (xs : List X) (x : X) → map f (xs ++ x ∷ []) ≡ map f xs ++ f x ∷ []
map-push f [] x = refl
map-push f (y ∷ xs) x = ap (λ r. f y ∷ r) (map-push f xs x)

pub map-take-more : {X Y : Type 0} (f : X → Y) (xs : List X) (i : ℕ) (d : X) → i < length xs → map f (take (i + 1) xs) ≡ map f (take i xs) ++ f (get_or xs i d) ∷ []
map-take-more f xs i d l = ap (map f) (take_more xs i d l) ∙ map-push f (take i xs) (get_or xs i d)

-- one more kind
pub one_kind : (r : ℕ → ℕ) (ls : List Leaf) (roots : List (Option ℕ)) (ks us : List CanonicalVarKind) (k : CanonicalVarKind) (i first : ℕ) (d : Leaf) → AreDistinct ls → i < length ls
    → roots ≡ map (sub_root_of r) ls → map kind_of_var ks ≡ map (position_kind r ls) (take i ls) → first ≡ position_or_len (are_one (sub_root_of r (get_or ls i d))) roots
    → kind_of_var k ≡ position_kind_at (leaf_sort (get_or ls i d)) first i → us ≡ ks ++ k ∷ [] → map kind_of_var us ≡ map (position_kind r ls) (take (i + 1) ls)
one_kind r ls roots ks us k i first d a l q h f is u =
    let x = get_or ls i d in
    let place : first ≡ position_or_len (share r x) ls = f ∙ ap (position_or_len (are_one (sub_root_of r x))) q ∙ place-map (sub_root_of r) (are_one (sub_root_of r x)) ls in
    let at : kind_of_var k ≡ position_kind r ls x = is ∙ ap (λ n. position_kind_at (leaf_sort x) n i) place ∙ ap (position_kind_at (leaf_sort x) (position_or_len (share r x) ls)) (sym (number-at ls i d a l)) in
    rw (u, map-push kind_of_var ks k, h, at) (sym (map-take-more (position_kind r ls) ls i d l))
