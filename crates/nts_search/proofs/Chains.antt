-- What an index leads to, and how it changes with the entries. Lists of entries have the newest first.
use Rattle.std.proofs.Common.{◌≡◌, ◌↔◌, ℕ, zero, suc, Bool, true, false, cond, List, [], ◌∷◌, length, Option, Some, refl, ap, sym, ◌∙◌, subst, rules}
use Rattle.std.specs.Prelude.{IsTrue, IsSome}
use Rattle.std.specs.declared.hash.FoldHasher.{FoldHasher}
use Rattle.std.specs.declared.hash.BuildHasherDefault.{BuildHasherDefault}
use Rattle.std.specs.HashMap.{HashMap}
use Rattle.nts_search.specs.declared.terms.GoalTerms.{GoalTerms}
use Rattle.nts_search.specs.declared.stack.StackEntry.{StackEntry}
use Rattle.nts_search.specs.Indexed.{input_terms, same_terms, led_to, newest_of, AreChained, IsEntryIndex}
use Rattle.nts_search.specs.Searching.{read_at}
use Rattle.nts_search.proofs.Marking.{length-read_at}

abbrev Index : Type 0
Index = HashMap GoalTerms ℕ (BuildHasherDefault FoldHasher)

pub are_same : (a b : GoalTerms) → IsTrue (same_terms a b) ↔ (a ≡ b)
are_same a b = search rules

-- an index that leads to a new entry too
pub index_pushed : (m n : Index) (xs : List StackEntry) (x : StackEntry) → IsEntryIndex m xs → x.earlier ≡ led_to m (input_terms x.input)
    → ((k : GoalTerms) → led_to n k ≡ cond (same_terms (input_terms x.input) k) (Some (length xs)) (led_to m k)) → IsEntryIndex n (x ∷ xs)
index_pushed m n xs x h e u =
    record {
      newest = λ k. u k ∙ ap (λ o. cond (same_terms (input_terms x.input) k) (Some (length xs)) o) (h.newest k);
      chained = (e ∙ h.newest (input_terms x.input), h.chained);
    }

-- the newest entry is led to
found_first : (x : StackEntry) (xs : List StackEntry) (b : Bool) → same_terms (input_terms x.input) (input_terms x.input) ≡ b → IsSome (cond b (Some (length xs)) (newest_of (input_terms x.input) xs))
found_first x xs true e = refl
found_first x xs false e = let t : IsTrue (same_terms (input_terms x.input) (input_terms x.input)) = (are_same (input_terms x.input) (input_terms x.input)).1 refl in absurd (cc (t, e))

pub index_has : (m : Index) (xs : List StackEntry) (x : StackEntry) → IsEntryIndex m (x ∷ xs) → IsSome (led_to m (input_terms x.input))
index_has m xs x h = subst IsSome (sym (h.newest (input_terms x.input))) (found_first x xs (same_terms (input_terms x.input) (input_terms x.input)) refl)

-- an index without the newest entry
back_at : (o : Option ℕ) (xs : List StackEntry) (x : StackEntry) (k : GoalTerms) (b : Bool) → same_terms (input_terms x.input) k ≡ b → x.earlier ≡ newest_of (input_terms x.input) xs
    → o ≡ cond b (Some (length xs)) (newest_of k xs) → cond b x.earlier o ≡ newest_of k xs
back_at o xs x k true s e h = (let same : input_terms x.input ≡ k = (are_same (input_terms x.input) k).0 s in e ∙ ap (λ z. newest_of z xs) same)
back_at o xs x k false s e h = h

pub index_popped : (m n : Index) (xs : List StackEntry) (x : StackEntry) → IsEntryIndex m (x ∷ xs)
    → ((k : GoalTerms) → led_to n k ≡ cond (same_terms (input_terms x.input) k) x.earlier (led_to m k)) → IsEntryIndex n xs
index_popped m n xs x h u =
    record {
      newest = λ k. u k ∙ back_at (led_to m k) xs x k (same_terms (input_terms x.input) k) refl h.chained.0 (h.newest k);
      chained = h.chained.1;
    }

-- reading an entry changes nothing of this
newest-read : (k : GoalTerms) (xs : List StackEntry) (n : ℕ) → newest_of k (read_at xs n) ≡ newest_of k xs
newest-read k [] n = refl
newest-read k (x ∷ xs) zero = refl
newest-read k (x ∷ xs) (suc n) =
    ap (λ l. cond (same_terms (input_terms x.input) k) (Some l) (newest_of k (read_at xs n))) (length-read_at xs n)
    ∙ ap (λ o. cond (same_terms (input_terms x.input) k) (Some (length xs)) o) (newest-read k xs n)

chained-read : (xs : List StackEntry) (n : ℕ) → AreChained xs → AreChained (read_at xs n)
chained-read [] n h = tt
chained-read (x ∷ xs) zero h = h
chained-read (x ∷ xs) (suc n) h = (h.0 ∙ sym (newest-read (input_terms x.input) xs n), chained-read xs n h.1)

pub index_read : (m : Index) (xs : List StackEntry) (n : ℕ) → IsEntryIndex m xs → IsEntryIndex m (read_at xs n)
index_read m xs n h =
    record {
      newest = λ k. h.newest k ∙ sym (newest-read k xs n);
      chained = chained-read xs n h.chained;
    }
