-- What a push and a pop make of a stack.
use Rattle.std.proofs.Common.{◌≡◌, ℕ, zero, suc, ◌+◌, ◌-◌, ◌<◌, ◌≤◌, cond, List, [], ◌∷◌, ◌++◌, length, length-append, get_or, Some, max, map, ap, sym, ◌∙◌, subst, arith, refl}
use Rattle.std.specs.Prelude.{reverse, slice_get}
use Rattle.std.proofs.lemmas.List.{reverse-append, length-reverse}
use Rattle.nts_model.specs.Terms.Trees.{Tree}
use Rattle.nts_model.specs.Searching.Stacks.{Entry}
use Rattle.nts_certainty.specs.nts_theory.proofs.Searching.Ordered.{get_reversed}
use Rattle.nts_response.specs.nts_canonical.specs.declared.types.CanonicalInput.{CanonicalInput}
use Rattle.nts_response.specs.nts_canonical.specs.Forms.{form_of}
use Rattle.nts_search.specs.declared.terms.GoalTerms.{GoalTerms}
use Rattle.nts_search.specs.declared.stack.StackEntry.{StackEntry}
use Rattle.nts_search.specs.declared.stack.SearchGraph.{SearchGraph}
use Rattle.nts_search.specs.Indexed.{input_terms, same_terms, led_to, IsEntryIndex}
use Rattle.nts_search.specs.Searching.{entry_at, entries_at, HoldsEntry, IsStack, IsInputAt, read_at}
use Rattle.nts_search.proofs.Each.{Each, each_of, all_of, each_joined, each_left, each_right}
use Rattle.nts_search.proofs.Marking.{length-read_at, reverse-read_at}
use Rattle.nts_search.proofs.Chains.{index_pushed, index_popped, index_read}

newest_first : (xs ys : List StackEntry) (x : StackEntry) → ys ≡ xs ++ x ∷ [] → reverse ys ≡ x ∷ reverse xs
newest_first xs ys x e = ap reverse e ∙ reverse-append xs (x ∷ [])

-- a new entry is the newest
pub entries_pushed : (ts : List Tree) (g h : SearchGraph) (x : StackEntry) → h.stack.items ≡ g.stack.items ++ x ∷ [] → entries_at ts h ≡ entry_at ts x ∷ entries_at ts g
entries_pushed ts g h x e = ap (map (entry_at ts)) (newest_first g.stack.items h.stack.items x e)

-- the newest entry is taken off
pub entries_popped : (ts : List Tree) (g h : SearchGraph) (x : StackEntry) → g.stack.items ≡ h.stack.items ++ x ∷ [] → entries_at ts g ≡ entry_at ts x ∷ entries_at ts h
entries_popped ts g h x e = entries_pushed ts h g x e

one_more : (xs ys : List StackEntry) (x : StackEntry) → ys ≡ xs ++ x ∷ [] → length ys ≡ length xs + 1
one_more xs ys x e = ap length e ∙ length-append xs (x ∷ [])

pub IsStack-pushed : (ts : List Tree) (g h : SearchGraph) (x : StackEntry) → IsStack ts g → HoldsEntry ts x → h.stack.items ≡ g.stack.items ++ x ∷ []
    → x.earlier ≡ led_to g.newest (input_terms x.input) → ((k : GoalTerms) → led_to h.newest k ≡ cond (same_terms (input_terms x.input) k) (Some (length g.stack.items)) (led_to g.newest k))
    → length g.stack.items ≤ g.root_depth → h.root_depth ≡ g.root_depth → h.most_inputs ≡ max g.most_inputs (length h.stack.items) → IsStack ts h
IsStack-pushed ts g h x s held e lead new room depth most =
    let long = one_more g.stack.items h.stack.items x e in
    let old = length-reverse g.stack.items in
    let counted = s.counted in
    let nested = s.nested in
    record {
      held = subst (λ l. (k : ℕ) (d : StackEntry) → k < length l → HoldsEntry ts (get_or l k d)) (sym e)
          (all_of (HoldsEntry ts) (g.stack.items ++ x ∷ []) (each_joined (HoldsEntry ts) g.stack.items (x ∷ []) (each_of (HoldsEntry ts) g.stack.items s.held) (held, tt)));
      index = subst (IsEntryIndex h.newest) (sym (newest_first g.stack.items h.stack.items x e))
          (index_pushed g.newest h.newest (reverse g.stack.items) x s.index lead (λ k. new k ∙ ap (λ n. cond (same_terms (input_terms x.input) k) (Some n) (led_to g.newest k)) (sym old)));
      counted = omega (arith, most, long);
      nested = omega (arith, most, long, room, depth, nested);
    }

-- where the index leads back
pub index_leads : (ts : List Tree) (g : SearchGraph) (xs : List StackEntry) (x : StackEntry) → IsStack ts g → g.stack.items ≡ xs ++ x ∷ [] → IsEntryIndex g.newest (x ∷ reverse xs)
index_leads ts g xs x s e = subst (IsEntryIndex g.newest) (newest_first xs g.stack.items x e) s.index

pub IsStack-popped : (ts : List Tree) (g h : SearchGraph) (x : StackEntry) → IsStack ts g → g.stack.items ≡ h.stack.items ++ x ∷ []
    → ((k : GoalTerms) → led_to h.newest k ≡ cond (same_terms (input_terms x.input) k) x.earlier (led_to g.newest k)) → h.root_depth ≡ g.root_depth → h.most_inputs ≡ g.most_inputs → IsStack ts h × HoldsEntry ts x
IsStack-popped ts g h x s e new depth most =
    let long = one_more h.stack.items g.stack.items x e in
    let counted = s.counted in
    let nested = s.nested in
    let each = each_of (HoldsEntry ts) (h.stack.items ++ x ∷ []) (subst (λ l. (k : ℕ) (d : StackEntry) → k < length l → HoldsEntry ts (get_or l k d)) e s.held) in (
      record {
        held = all_of (HoldsEntry ts) h.stack.items (each_left (HoldsEntry ts) h.stack.items (x ∷ []) each);
        index = index_popped g.newest h.newest (reverse h.stack.items) x (index_leads ts g h.stack.items x s e) new;
        counted = omega (arith, most, long, counted);
        nested = omega (arith, most, depth, nested);
      },
      (each_right (HoldsEntry ts) h.stack.items (x ∷ []) each).0,
    )

held-read : (ts : List Tree) (xs : List StackEntry) (n : ℕ) → Each (HoldsEntry ts) xs → Each (HoldsEntry ts) (read_at xs n)
held-read ts [] n h = tt
held-read ts (x ∷ xs) zero h = (record { input = h.0.input; provisional = h.0.provisional }, h.1)
held-read ts (x ∷ xs) (suc n) h = (h.0, held-read ts xs n h.1)

pub IsStack-read : (ts : List Tree) (g h : SearchGraph) (n : ℕ) → IsStack ts g → n < length g.stack.items → h.stack.items ≡ read_at g.stack.items n
    → h.newest ≡ g.newest → h.root_depth ≡ g.root_depth → h.most_inputs ≡ g.most_inputs → IsStack ts h
IsStack-read ts g h n s l e new depth most =
    let xs = g.stack.items in
    let long : length h.stack.items ≡ length xs = ap length e ∙ length-read_at xs n in
    let counted = s.counted in
    let nested = s.nested in
    record {
      held = subst (λ l. (k : ℕ) (d : StackEntry) → k < length l → HoldsEntry ts (get_or l k d)) (sym e)
          (all_of (HoldsEntry ts) (read_at xs n) (held-read ts xs n (each_of (HoldsEntry ts) xs s.held)));
      index = subst (λ m. IsEntryIndex m (reverse h.stack.items)) (sym new)
          (subst (IsEntryIndex g.newest) (sym (ap reverse e ∙ reverse-read_at xs n l)) (index_read g.newest (reverse xs) (length xs - suc n) s.index));
      counted = omega (arith, long, most, counted);
      nested = omega (arith, most, depth, nested);
    }
