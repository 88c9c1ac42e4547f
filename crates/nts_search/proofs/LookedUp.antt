-- An input that is looked up from entry to entry.
use Rattle.std.proofs.Common.{◌≡◌, ℕ, suc, ◌<◌, Bool, true, false, cond, List, [], ◌∷◌, ◌++◌, length, length-append, get_or, append_assoc, Option, Some, None, refl, ap, sym, ◌∙◌, subst, arith}
use Rattle.std.specs.Prelude.{All, IsTrue, reverse}
use Rattle.std.proofs.lemmas.List.{reverse-append, reverse-reverse, length-reverse}
use Rattle.std.proofs.Math.Seq.{get_or-append_seam}
use Rattle.nts_model.specs.Terms.Trees.{Tree}
use Rattle.nts_store.specs.Growth.{AreApart}
use Rattle.nts_response.specs.nts_canonical.specs.declared.types.CanonicalInput.{CanonicalInput}
use Rattle.nts_response.specs.nts_canonical.specs.Forms.{HoldsQuery}
use Rattle.nts_response.specs.nts_canonical.specs.Alike.{AreOneInput}
use Rattle.nts_search.specs.declared.terms.GoalTerms.{GoalTerms}
use Rattle.nts_search.specs.declared.stack.StackEntry.{StackEntry}
use Rattle.nts_search.specs.declared.stack.SearchGraph.{SearchGraph}
use Rattle.nts_search.specs.Indexed.{input_terms, same_terms, newest_of, AreChained}
use Rattle.nts_search.specs.Searching.{HoldsEntry, HasNoInput}
use Rattle.nts_search.proofs.Each.{Each, each_of, all_of, each_joined, each_left, each_right, each_reversed}
use Rattle.nts_search.proofs.Chains.{are_same}

-- inputs that are one have the same terms
one_terms : (ts : List Tree) (a b : CanonicalInput) → AreApart ts → HoldsQuery ts a.canonical.value → HoldsQuery ts b.canonical.value → AreOneInput ts a b → input_terms a ≡ input_terms b
one_terms ts a b apart h k one =
    let g = a.canonical.value.goal in
    let q = b.canonical.value.goal in
    let e = apart g.param_env.node.number q.param_env.node.number h.environment.within k.environment.within (ap (λ f. f.environment) one.form) in
    let p = apart g.predicate.node.number q.predicate.node.number h.predicate.within k.predicate.within (ap (λ f. f.predicate) one.form) in
    λ i. record { environment = record { number = e i }; predicate = record { number = p i } }

abbrev pub HasOther : GoalTerms → StackEntry → Type 0
HasOther k x = input_terms x.input ≡ k → ⊥

-- the first entry of a list with these terms, where so many are older
record Meets (k : GoalTerms) (xs : List StackEntry) (n : ℕ) : Type 0 where
  newer : List StackEntry
  entry : StackEntry
  older : List StackEntry
  split : xs ≡ newer ++ entry ∷ older
  others : Each (HasOther k) newer
  terms : input_terms entry.input ≡ k
  number : length older ≡ n

other_terms : (k : GoalTerms) (x : StackEntry) → same_terms (input_terms x.input) k ≡ false → HasOther k x
other_terms k x s e = let t : IsTrue (same_terms (input_terms x.input) k) = (are_same (input_terms x.input) k).1 e in cc (t, s)

no_number : (n : ℕ) → None ≡ Some n → ⊥
no_number n e = cc e

meets_at : (k : GoalTerms) (x : StackEntry) (xs : List StackEntry) (n : ℕ) (b : Bool) → same_terms (input_terms x.input) k ≡ b → cond b (Some (length xs)) (newest_of k xs) ≡ Some n
    → (newest_of k xs ≡ Some n → Meets k xs n) → Meets k (x ∷ xs) n
meets_at k x xs n true s e f =
    let q : Some (length xs) ≡ Some n = e in
    record { newer = []; entry = x; older = xs; split = refl; others = tt; terms = (are_same (input_terms x.input) k).0 s; number = cc q }
meets_at k x xs n false s e f =
    let m = f e in
    record { newer = x ∷ m.newer; entry = m.entry; older = m.older; split = ap (λ l. x ∷ l) m.split; others = (other_terms k x s, m.others); terms = m.terms; number = m.number }

meets : (k : GoalTerms) (xs : List StackEntry) (n : ℕ) → newest_of k xs ≡ Some n → Meets k xs n
meets k [] n e = absurd (no_number n e)
meets k (x ∷ xs) n e = meets_at k x xs n (same_terms (input_terms x.input) k) refl e (meets k xs n)

has_none_at : (k : GoalTerms) (x : StackEntry) (xs : List StackEntry) (b : Bool) → same_terms (input_terms x.input) k ≡ b → cond b (Some (length xs)) (newest_of k xs) ≡ None
    → (newest_of k xs ≡ None → Each (HasOther k) xs) → Each (HasOther k) (x ∷ xs)
has_none_at k x xs true s e f = absurd (no_number (length xs) (sym e))
has_none_at k x xs false s e f = (other_terms k x s, f e)

has_none : (k : GoalTerms) (xs : List StackEntry) → newest_of k xs ≡ None → Each (HasOther k) xs
has_none k [] e = tt
has_none k (x ∷ xs) e = has_none_at k x xs (same_terms (input_terms x.input) k) refl e (has_none k xs)

chained_from : (us : List StackEntry) (x : StackEntry) (ws : List StackEntry) → AreChained (us ++ x ∷ ws) → AreChained (x ∷ ws)
chained_from [] x ws h = h
chained_from (u ∷ us) x ws h = chained_from us x ws h.1

abbrev pub IsOther : List Tree → CanonicalInput → StackEntry → Type 0
IsOther ts i x = AreOneInput ts x.input i → ⊥

-- how far a look-up has come in the entries, the newest first: those that were passed are other inputs
pub record Ahead (ts : List Tree) (zs : List StackEntry) (i : CanonicalInput) (at : Option ℕ) : Type 0 where
  pub passed : List StackEntry
  pub left : List StackEntry
  pub split : zs ≡ passed ++ left
  pub others : Each (IsOther ts i) passed
  pub chained : AreChained left
  pub leads : at ≡ newest_of (input_terms i) left

-- entries of other terms are other inputs
others_by : (ts : List Tree) (i : CanonicalInput) (xs : List StackEntry) → AreApart ts → HoldsQuery ts i.canonical.value → Each (HoldsEntry ts) xs → Each (HasOther (input_terms i)) xs → Each (IsOther ts i) xs
others_by ts i [] apart k h o = tt
others_by ts i (x ∷ xs) apart k h o = ((λ one. o.0 (one_terms ts x.input i apart h.0.input k one)), others_by ts i xs apart k h.1 o.1)

-- where a look-up is, and where it goes on
pub record Stands (ts : List Tree) (xs : List StackEntry) (i : CanonicalInput) (n : ℕ) : Type 0 where
  pub below : n < length xs
  pub next : (d : StackEntry) → IsOther ts i (get_or xs n d) → Ahead ts (reverse xs) i (get_or xs n d).earlier
  pub falls : (d : StackEntry) (m : ℕ) → (get_or xs n d).earlier ≡ Some m → m < n

back_around : (xs ps ws : List StackEntry) (x : StackEntry) → reverse xs ≡ ps ++ x ∷ ws → xs ≡ reverse ws ++ x ∷ reverse ps
back_around xs ps ws x e =
    sym (reverse-reverse xs) ∙ ap reverse e ∙ reverse-append ps (x ∷ ws) ∙ ap (λ l. l ++ reverse ps) (reverse-append (x ∷ []) ws) ∙ append_assoc (reverse ws) (x ∷ []) (reverse ps)

at_seam : (xs ws ps : List StackEntry) (x : StackEntry) (n : ℕ) → xs ≡ ws ++ x ∷ ps → length ws ≡ n → (d : StackEntry) → get_or xs n d ≡ x
at_seam xs ws ps x n e l d = ap (λ z. get_or z n d) e ∙ ap (λ j. get_or (ws ++ x ∷ ps) j d) (sym l) ∙ get_or-append_seam ws x ps d

-- the entry that a look-up is at, between those that it has passed and those that are older
record Parted (ts : List Tree) (xs : List StackEntry) (i : CanonicalInput) (n : ℕ) : Type 0 where
  newer : List StackEntry
  entry : StackEntry
  older : List StackEntry
  split : reverse xs ≡ newer ++ entry ∷ older
  others : Each (IsOther ts i) newer
  chained : AreChained older
  leads : entry.earlier ≡ newest_of (input_terms i) older
  number : length older ≡ n

parted_by : (ts : List Tree) (xs : List StackEntry) (i : CanonicalInput) (n : ℕ) → AreApart ts → HoldsQuery ts i.canonical.value → Each (HoldsEntry ts) (reverse xs) → (a : Ahead ts (reverse xs) i (Some n))
    → Meets (input_terms i) a.left n → Parted ts xs i n
parted_by ts xs i n apart k held a m =
    let x = m.entry in
    let left : Each (HoldsEntry ts) a.left = each_right (HoldsEntry ts) a.passed a.left (subst (Each (HoldsEntry ts)) a.split held) in
    let newer : Each (HoldsEntry ts) m.newer = each_left (HoldsEntry ts) m.newer (x ∷ m.older) (subst (Each (HoldsEntry ts)) m.split left) in
    let chain : AreChained (x ∷ m.older) = chained_from m.newer x m.older (subst AreChained m.split a.chained) in
    record {
      newer = a.passed ++ m.newer;
      entry = x;
      older = m.older;
      split = a.split ∙ ap (λ l. a.passed ++ l) m.split ∙ sym (append_assoc a.passed m.newer (x ∷ m.older));
      others = each_joined (IsOther ts i) a.passed m.newer a.others (others_by ts i m.newer apart k newer m.others);
      chained = chain.1;
      leads = chain.0 ∙ ap (λ z. newest_of z m.older) m.terms;
      number = m.number;
    }

older_first : (xs : List StackEntry) (k : GoalTerms) (n j : ℕ) → length xs ≡ n → newest_of k xs ≡ Some j → j < n
older_first xs k n j e h =
    let q = meets k xs j h in
    let l = ap length q.split ∙ length-append q.newer (q.entry ∷ q.older) in
    let o = q.number in
    omega (arith, l, o, e)

stands_by : (ts : List Tree) (xs : List StackEntry) (i : CanonicalInput) (n : ℕ) → Parted ts xs i n → Stands ts xs i n
stands_by ts xs i n p =
    let x = p.entry in
    let whole = back_around xs p.newer p.older x p.split in
    let number : length (reverse p.older) ≡ n = length-reverse p.older ∙ p.number in
    let long = ap length whole ∙ length-append (reverse p.older) (x ∷ reverse p.newer) in
    let here : (d : StackEntry) → get_or xs n d ≡ x = at_seam xs (reverse p.older) (reverse p.newer) x n whole number in
    record {
      below = omega (arith, number, long);
      next = λ d other. record {
        passed = p.newer ++ x ∷ [];
        left = p.older;
        split = p.split ∙ sym (append_assoc p.newer (x ∷ []) p.older);
        others = each_joined (IsOther ts i) p.newer (x ∷ []) p.others (subst (IsOther ts i) (here d) other, tt);
        chained = p.chained;
        leads = ap (λ z. z.earlier) (here d) ∙ p.leads;
      };
      falls = λ d j e. older_first p.older (input_terms i) n j p.number (sym p.leads ∙ sym (ap (λ z. z.earlier) (here d)) ∙ e);
    }

pub stands : (ts : List Tree) (xs : List StackEntry) (i : CanonicalInput) (n : ℕ) → AreApart ts → HoldsQuery ts i.canonical.value → All (HoldsEntry ts) xs → Ahead ts (reverse xs) i (Some n) → Stands ts xs i n
stands ts xs i n apart k held a =
    let each = each_reversed (HoldsEntry ts) xs (each_of (HoldsEntry ts) xs held) in
    stands_by ts xs i n (parted_by ts xs i n apart k each a (meets (input_terms i) a.left n (sym a.leads)))

-- how many entries are left to look at
abbrev pub left_of : Option ℕ → ℕ
left_of None = 0
left_of (Some n) = suc n

pub fewer_left : (o p : Option ℕ) (n : ℕ) → p ≡ Some n → ((m : ℕ) → o ≡ Some m → m < n) → left_of o < left_of p
fewer_left None p n e f = let l = ap left_of e in omega (arith, l)
fewer_left (Some m) p n e f = let l = ap left_of e in let k = f m refl in omega (arith, l, k)

-- a look-up that leads nowhere
pub stands_nowhere : (ts : List Tree) (g : SearchGraph) (i : CanonicalInput) → AreApart ts → HoldsQuery ts i.canonical.value → All (HoldsEntry ts) g.stack.items → Ahead ts (reverse g.stack.items) i None → HasNoInput ts g i
stands_nowhere ts g i apart k held a =
    let xs = g.stack.items in
    let each : Each (HoldsEntry ts) (a.passed ++ a.left) = subst (Each (HoldsEntry ts)) a.split (each_reversed (HoldsEntry ts) xs (each_of (HoldsEntry ts) xs held)) in
    let left : Each (IsOther ts i) a.left = others_by ts i a.left apart k (each_right (HoldsEntry ts) a.passed a.left each) (has_none (input_terms i) a.left (sym a.leads)) in
    let all : Each (IsOther ts i) (reverse xs) = subst (Each (IsOther ts i)) (sym a.split) (each_joined (IsOther ts i) a.passed a.left a.others left) in
    all_of (IsOther ts i) xs (subst (Each (IsOther ts i)) (reverse-reverse xs) (each_reversed (IsOther ts i) (reverse xs) all))
