-- The maps of placeholders, one variable more at a time.
use Rattle.std.proofs.Common.{◌≡◌, ◌⊎◌, ⊎_elim, ℕ, ◌+◌, Bool, true, false, List, take, slice_get, Option, Some, None, refl, sym, ap, ◌∙◌}
use Rattle.std.specs.Prelude.{IsSome}
use Rattle.nts_model.specs.declared.labels.Sort.{Sort}
use Rattle.nts_placeholder.specs.declared.maps.Placeholder.{Placeholder}
use Rattle.nts_placeholder.specs.declared.maps.BoundVar.{BoundVar}
use Rattle.nts_placeholder.specs.declared.escaping.Escaping.{Escaping}
use Rattle.nts_placeholder.specs.Escaping.{is_it, is_among}
use Rattle.nts_placeholder.specs.Opening.{placeholder_for, AreMapsOf}
use Rattle.nts_placeholder.proofs.Reaching.{either, or_left, or_right, it_is, is_the, among-next}

abbrev pub Mapped : Type 0
Mapped = Sort → Placeholder → Option BoundVar

pub maps_same : {U : List (Option ℕ)} {E F : Sort → BoundVar → Bool} {m : Mapped} → ((s : Sort) (b : BoundVar) → E s b ≡ F s b) → AreMapsOf U E m → AreMapsOf U F m
maps_same {U} {E} {F} {m} f h =
    record {
      made = λ s p b e. let w = h.made s p b e in (sym (f s b) ∙ w.0, w.1);
      all = λ s b e. h.all s b (f s b ∙ e);
    }

module _ (U : List (Option ℕ)) (xs : List Escaping) (i : ℕ) (x : Escaping) (m n : Mapped) (p : Placeholder) where
  own_value : (s : Sort) (q : Placeholder) (b : BoundVar) → n x.sort p ≡ Some x.bound → s ≡ x.sort → q ≡ p → n s q ≡ Some b → x.bound ≡ b
  own_value s q b own r e is = let f : Some x.bound ≡ Some b = sym own ∙ ap (λ z. n z p) (sym r) ∙ ap (n s) (sym e) ∙ is in cc

  some_of : (s : Sort) (q : Placeholder) → n x.sort p ≡ Some x.bound → s ≡ x.sort → q ≡ p → IsSome (n s q)
  some_of s q own r e = rw (r, e, own) refl

  pub maps_more : slice_get xs i ≡ Some x → p ≡ placeholder_for U x.bound → n x.sort p ≡ Some x.bound → ((s : Sort) (q : Placeholder) → ((s ≡ x.sort) × (q ≡ p)) ⊎ (n s q ≡ m s q)) → AreMapsOf U (is_among (take i xs)) m → AreMapsOf U (is_among (take (i + 1) xs)) n
  maps_more at is own others h =
      record {
        made = λ s q b e. ⊎_elim (λ (w : (s ≡ x.sort) × (q ≡ p)).
            let same = own_value s q b own w.0 w.1 e in
            (among-next xs i x at s b ∙ or_right (is_among (take i xs) s b) (is_it x s b) (ap (is_it x s) (sym same) ∙ ap (λ r. is_it x r x.bound) w.0 ∙ it_is x), w.1 ∙ is ∙ ap (placeholder_for U) same))
            (λ (k : n s q ≡ m s q). let w = h.made s q b (sym k ∙ e) in (among-next xs i x at s b ∙ or_left (is_among (take i xs) s b) (is_it x s b) w.0, w.1))
            (others s q);
        all = λ s b e. ⊎_elim (λ (k : is_among (take i xs) s b ≡ true).
            ⊎_elim (λ (w : (s ≡ x.sort) × (placeholder_for U b ≡ p)). some_of s (placeholder_for U b) own w.0 w.1)
            (λ (q : n s (placeholder_for U b) ≡ m s (placeholder_for U b)). rw q (h.all s b k)) (others s (placeholder_for U b)))
            (λ (k : is_it x s b ≡ true). let w = is_the x s b k in some_of s (placeholder_for U b) own (sym w.sort) (ap (placeholder_for U) (sym w.bound) ∙ sym is))
            (either (is_among (take i xs) s b) (is_it x s b) (sym (among-next xs i x at s b) ∙ e));
      }
