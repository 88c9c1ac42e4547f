-- Pairs that were met before in a call may be passed over.
use Rattle.std.proofs.Common.{⊎_elim, ℕ, suc, ◌<◌, List, [], ◌∷◌, ◌++◌, sym, arith, subst}
use Rattle.nts_model.specs.Lists.{Among}

-- a sense is a way to judge pairs, as a world or a later table is: it gives a pair a size, and some pairs hold in it
module _ {W P : Type 0} (size : W → P → ℕ) (Holds : W → P → Type 0) where
  abbrev pub All : W → List P → Type 0
  All w [] = Unit {0}
  All w (q ∷ qs) = Holds w q × All w qs

  -- those of a size below n hold
  abbrev pub AllBelow : W → ℕ → List P → Type 0
  AllBelow w n [] = Unit {0}
  AllBelow w n (q ∷ qs) = (size w q < n → Holds w q) × AllBelow w n qs

  abbrev pub AreSmaller : W → ℕ → List P → Type 0
  AreSmaller w n [] = Unit {0}
  AreSmaller w n (q ∷ qs) = (size w q < n) × AreSmaller w n qs

  -- each pair that was met holds where the smaller ones of those left do
  pub record AreMet (Valid : W → Type 0) (met left : List P) : Type 0 where
    pub each : (w : W) → Valid w → (p : P) → Among met p → AllBelow w (size w p) left → Holds w p

  all_below : (w : W) (n : ℕ) (qs : List P) → All w qs → AllBelow w n qs
  all_below w n [] h = tt
  all_below w n (q ∷ qs) h = ((λ l. h.0), all_below w n qs h.1)

  below_less : (w : W) (n m : ℕ) (qs : List P) → m < n → AllBelow w n qs → AllBelow w m qs
  below_less w n m [] l h = tt
  below_less w n m (q ∷ qs) l h = ((λ k. h.0 (omega (arith, l, k))), below_less w n m qs l h.1)

  below_right : (w : W) (n : ℕ) (rs qs : List P) → AllBelow w n (rs ++ qs) → AllBelow w n qs
  below_right w n [] qs h = h
  below_right w n (r ∷ rs) qs h = below_right w n rs qs h.1

  all_left : (w : W) (n m : ℕ) (rs qs : List P) → m < suc n → AreSmaller w m rs → AllBelow w n (rs ++ qs) → All w rs
  all_left w n m [] qs l s h = tt
  all_left w n m (r ∷ rs) qs l s h = let a = s.0 in (h.0 (omega (arith, l, a)), all_left w n m rs qs l s.1 h.1)

  -- a pair is taken, and smaller ones that make it hold are left in its place
  pub met_taken : (Valid Later : W → Type 0) (met rs qs : List P) (p : P) → ((w : W) → Later w → Valid w) → ((w : W) → Later w → AreSmaller w (size w p) rs) → ((w : W) → Later w → All w rs → Holds w p)
      → AreMet Valid met (p ∷ qs) → AreMet Later (p ∷ met) (rs ++ qs)
  met_taken Valid Later met rs qs p back smaller makes h =
      record {
        each = λ w v q i below. ⊎_elim
            (λ same. let here : AllBelow w (size w p) (rs ++ qs) = subst (λ x. AllBelow w (size w x) (rs ++ qs)) same below in
            subst (Holds w) (sym same) (makes w v (all_left w (size w p) (size w p) rs qs (omega arith) (smaller w v) here)))
            (λ older. h.each w (back w v) q older
            ((λ l. makes w v (all_left w (size w q) (size w p) rs qs (omega (arith, l)) (smaller w v) below)), below_right w (size w q) rs qs below)) i;
      }

  -- a pair that was met is passed over: it holds where those left do
  pub met_again : (Valid : W → Type 0) (met qs : List P) (p : P) → Among met p → AreMet Valid met (p ∷ qs) → (w : W) → Valid w → All w qs → Holds w p
  met_again Valid met qs p i h w v all = h.each w v p i ((λ l. absurd (omega (arith, l))), all_below w (size w p) qs all)

  pub met_passed : (Valid : W → Type 0) (met qs : List P) (p : P) → Among met p → AreMet Valid met (p ∷ qs) → AreMet Valid met qs
  met_passed Valid met qs p i h =
      record {
        each = λ w v q j below. h.each w v q j
            ((λ l. h.each w v p i ((λ k. absurd (omega (arith, k))), below_less w (size w q) (size w p) qs l below)), below);
      }
