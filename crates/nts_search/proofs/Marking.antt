-- An entry that is read, in the list with the oldest first and with the newest first.
use Rattle.std.proofs.Common.{◌≡◌, ℕ, zero, suc, ◌-◌, ◌<◌, true, List, [], ◌∷◌, ◌++◌, length, get_or, set, map, refl, ap, sym, ◌∙◌, arith}
use Rattle.std.specs.Prelude.{reverse}
use Rattle.std.proofs.lemmas.List.{reverse-append, length-reverse}
use Rattle.nts_model.specs.Terms.Trees.{Tree}
use Rattle.nts_model.specs.Searching.Driving.{marked}
use Rattle.nts_search.specs.declared.stack.StackEntry.{StackEntry}
use Rattle.nts_search.specs.declared.stack.SearchGraph.{SearchGraph}
use Rattle.nts_search.specs.Searching.{entry_at, entries_at, read_at}

-- as many entries
pub length-read_at : (xs : List StackEntry) (n : ℕ) → length (read_at xs n) ≡ length xs
length-read_at [] n = refl
length-read_at (x ∷ xs) zero = refl
length-read_at (x ∷ xs) (suc n) = ap suc (length-read_at xs n)

-- a write of the mark
pub set-read : (xs : List StackEntry) (n : ℕ) (d : StackEntry) → n < length xs → set xs n (record (get_or xs n d) { is_read = true }) ≡ read_at xs n
set-read [] n d h = refl
set-read (x ∷ xs) zero d h = refl
set-read (x ∷ xs) (suc n) d h = ap (λ l. x ∷ l) (set-read xs n d (omega arith))

read_left : (xs ys : List StackEntry) (n : ℕ) → n < length xs → read_at (xs ++ ys) n ≡ read_at xs n ++ ys
read_left [] ys n h = absurd (omega arith)
read_left (x ∷ xs) ys zero h = refl
read_left (x ∷ xs) ys (suc n) h = ap (λ l. x ∷ l) (read_left xs ys n (omega arith))

read_seam : (xs : List StackEntry) (y : StackEntry) → read_at (xs ++ y ∷ []) (length xs) ≡ xs ++ record y { is_read = true } ∷ []
read_seam [] y = refl
read_seam (x ∷ xs) y = ap (λ l. x ∷ l) (read_seam xs y)

oldest_last : (x : StackEntry) (xs : List StackEntry) → reverse (x ∷ xs) ≡ reverse xs ++ x ∷ []
oldest_last x xs = reverse-append (x ∷ []) xs

-- the same entry counted from the newest
pub reverse-read_at : (xs : List StackEntry) (n : ℕ) → n < length xs → reverse (read_at xs n) ≡ read_at (reverse xs) (length xs - suc n)
reverse-read_at [] n h = absurd (omega arith)
reverse-read_at (x ∷ xs) zero h =
    let y = record x { is_read = true } in
    let place : suc (length xs) - 1 ≡ length (reverse xs) = (let l = length-reverse xs in omega (arith, l)) in
    oldest_last y xs ∙ sym (read_seam (reverse xs) x) ∙ ap (read_at (reverse xs ++ x ∷ [])) (sym place) ∙ ap (λ l. read_at l (suc (length xs) - 1)) (sym (oldest_last x xs))
reverse-read_at (x ∷ xs) (suc n) h =
    let l = length-reverse xs in
    let place : suc (length xs) - suc (suc n) ≡ length xs - suc n = omega arith in
    let below : length xs - suc n < length (reverse xs) = omega (arith, l) in
    oldest_last x (read_at xs n) ∙ ap (λ l. l ++ x ∷ []) (reverse-read_at xs n (omega arith)) ∙ sym (read_left (reverse xs) (x ∷ []) (length xs - suc n) below)
    ∙ ap (read_at (reverse xs ++ x ∷ [])) (sym place) ∙ ap (λ l. read_at l (suc (length xs) - suc (suc n))) (sym (oldest_last x xs))

map-read_at : (ts : List Tree) (xs : List StackEntry) (n : ℕ) → map (entry_at ts) (read_at xs n) ≡ marked (map (entry_at ts) xs) n
map-read_at ts [] n = refl
map-read_at ts (x ∷ xs) zero = refl
map-read_at ts (x ∷ xs) (suc n) = ap (λ l. entry_at ts x ∷ l) (map-read_at ts xs n)

-- what reading makes of the entries
pub items_marked : (ts : List Tree) (xs ys : List StackEntry) (n : ℕ) → n < length xs → ys ≡ read_at xs n → map (entry_at ts) (reverse ys) ≡ marked (map (entry_at ts) (reverse xs)) (length xs - suc n)
items_marked ts xs ys n l e =
    ap (λ zs. map (entry_at ts) (reverse zs)) e ∙ ap (map (entry_at ts)) (reverse-read_at xs n l) ∙ map-read_at ts (reverse xs) (length xs - suc n)
