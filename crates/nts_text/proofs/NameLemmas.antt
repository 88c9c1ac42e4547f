-- What a new name leaves as it was.
use Rattle.std.proofs.Common.{◌≡◌, ◌≢◌, ℕ, Bool, true, false, List, [], ◌∷◌, Some, if◌then◌else◌, nat_eq, refl, sym, ap, ◌∙◌}
use Rattle.std.specs.Global.{Vec}
use Rattle.std.specs.Map.{lookup}
use Rattle.std.specs.Cmp.Lexicographic.{pointwise, same_text}
use Rattle.indexmap.specs.IndexMap.{insert_entry}

not_same : (b : Bool) (xs ys : List ℕ) → xs ≢ ys → pointwise nat_eq xs ys ≡ b → pointwise nat_eq xs ys ≡ false
not_same true xs ys other h = absurd (other (same_text xs ys (sym h)))
not_same false xs ys other h = h

module _ {V : Type 0} (other : List ℕ) (k : Vec ℕ) (v : V) (differs : other ≢ k.items) where
  abbrev pub is_other : Vec ℕ → Bool
  is_other x = pointwise nat_eq other x.items

  abbrev pub is_key : Vec ℕ → Vec ℕ → Bool
  is_key x y = pointwise nat_eq x.items y.items

  passes_by : (x : Vec ℕ) → k.items ≡ x.items → is_other x ≡ false
  passes_by x same = not_same (is_other x) other x.items (λ e. differs (e ∙ sym same)) refl

  found_behind : (e : Vec ℕ × V) (es : List (Vec ℕ × V)) (b : Bool) → is_key k e.0 ≡ b → lookup is_other (insert_entry is_key es k v) ≡ lookup is_other es
      → lookup is_other (insert_entry is_key (e ∷ es) k v) ≡ lookup is_other (e ∷ es)
  found_behind e es true h rest =
      let skips : is_other e.0 ≡ false = passes_by e.0 (same_text k.items e.0.items (sym h)) in
      ap (λ c. lookup is_other (if c then (e.0, v) ∷ es else e ∷ insert_entry is_key es k v)) h
      ∙ ap (λ c. if c then Some v else lookup is_other es) skips ∙ sym (ap (λ c. if c then Some e.1 else lookup is_other es) skips)
  found_behind e es false h rest =
      ap (λ c. lookup is_other (if c then (e.0, v) ∷ es else e ∷ insert_entry is_key es k v)) h
      ∙ ap (λ o. if is_other e.0 then Some e.1 else o) rest

  -- what another name means stays
  pub others_found : (es : List (Vec ℕ × V)) → lookup is_other (insert_entry is_key es k v) ≡ lookup is_other es
  others_found [] = ap (λ c. if c then Some v else lookup is_other []) (passes_by k refl)
  others_found (e ∷ es) = found_behind e es (is_key k e.0) refl (others_found es)

pub others_kept : {V : Type 0} (other name : List ℕ) (k : Vec ℕ) (v : V) (old new : List (Vec ℕ × V)) → k.items ≡ name → other ≢ name
    → new ≡ insert_entry (λ x y. pointwise nat_eq x.items y.items) old k v
    → lookup (λ x. pointwise nat_eq other x.items) new ≡ lookup (λ x. pointwise nat_eq other x.items) old
others_kept other name k v old new same differs e = ap (lookup (λ x. pointwise nat_eq other x.items)) e ∙ others_found other k v (λ h. differs (h ∙ same)) old
