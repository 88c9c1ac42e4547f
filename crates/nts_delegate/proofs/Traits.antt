-- Lists of traits' clauses, under a place that is added and a place that changes.
use Rattle.std.proofs.Common.{◌≡◌, ℕ, zero, suc, ◌<◌, ◌==◌, Bool, true, false, List, [], ◌∷◌, ◌++◌, length, get_or, Some, if◌then◌else◌, eqb-true, eq-eqb, refl, ap, sym, ◌∙◌, arith}
use Rattle.std.specs.Prelude.{slice_get}
use Rattle.nts_delegate.specs.declared.clauses.Clause.{Clause}
use Rattle.nts_delegate.specs.declared.clauses.TraitClauses.{TraitClauses}
use Rattle.nts_delegate.specs.declared.clauses.Clauses.{Clauses}
use Rattle.nts_delegate.specs.Clauses.{clauses_in, coinductive_in, said_at}
use Rattle.nts_delegate.specs.Adding.{KeepsClauses, AddsClause}
use lib.ListN.{set}

pub same_refl : (h : Clauses) → KeepsClauses h h
same_refl h = record { clauses = λ i. refl; coinductive = λ i. refl; aliases = λ i. refl }

clauses-push : (ts : List TraitClauses) (t : TraitClauses) (i : ℕ) → t.clauses.items ≡ [] → clauses_in (slice_get (ts ++ t ∷ []) i) ≡ clauses_in (slice_get ts i)
clauses-push [] t zero e = e
clauses-push [] t (suc i) e = refl
clauses-push (u ∷ ts) t zero e = refl
clauses-push (u ∷ ts) t (suc i) e = clauses-push ts t i e

coinductive-push : (ts : List TraitClauses) (t : TraitClauses) (i : ℕ) → t.is_coinductive ≡ false → coinductive_in (slice_get (ts ++ t ∷ []) i) ≡ coinductive_in (slice_get ts i)
coinductive-push [] t zero e = e
coinductive-push [] t (suc i) e = refl
coinductive-push (u ∷ ts) t zero e = refl
coinductive-push (u ∷ ts) t (suc i) e = coinductive-push ts t i e

-- one more place
pub same_push : (a b c : Clauses) (t : TraitClauses) → KeepsClauses a b → c.aliases ≡ b.aliases → c.traits.items ≡ b.traits.items ++ t ∷ [] → t.clauses.items ≡ [] → t.is_coinductive ≡ false → KeepsClauses a c
same_push a b c t s x e m k =
    record {
      clauses = λ i. rw e (clauses-push b.traits.items t i m ∙ s.clauses i);
      coinductive = λ i. rw e (coinductive-push b.traits.items t i k ∙ s.coinductive i);
      aliases = λ i. ap (λ z. said_at z i) x ∙ s.aliases i;
    }

set_here : (ts : List TraitClauses) (e : ℕ) (u : TraitClauses) → e < length ts → slice_get (set ts e u) e ≡ Some u
set_here [] e u h = absurd (omega arith)
set_here (t ∷ ts) zero u h = refl
set_here (t ∷ ts) (suc e) u h = set_here ts e u (omega arith)

set_there : (ts : List TraitClauses) (e i : ℕ) (u : TraitClauses) → (i ≡ e → ⊥) → slice_get (set ts e u) i ≡ slice_get ts i
set_there [] e i u h = refl
set_there (t ∷ ts) zero zero u h = absurd (h refl)
set_there (t ∷ ts) zero (suc i) u h = refl
set_there (t ∷ ts) (suc e) zero u h = refl
set_there (t ∷ ts) (suc e) (suc i) u h = set_there ts e i u (λ p. h (ap suc p))

pub get_here : (ts : List TraitClauses) (e : ℕ) (d : TraitClauses) → e < length ts → slice_get ts e ≡ Some (get_or ts e d)
get_here [] e d h = absurd (omega arith)
get_here (t ∷ ts) zero d h = refl
get_here (t ∷ ts) (suc e) d h = get_here ts e d (omega arith)

-- the changed place, where one clause was added
pub record HasOneMore (ts : List TraitClauses) (e : ℕ) (u : TraitClauses) (c : Clause) (d : TraitClauses) : Type 0 where
  pub within : e < length ts
  pub clauses : u.clauses.items ≡ (get_or ts e d).clauses.items ++ c ∷ []
  pub coinductive : u.is_coinductive ≡ (get_or ts e d).is_coinductive

pub added : (a b n : Clauses) (c : Clause) (e : ℕ) (d u : TraitClauses) → KeepsClauses a b → n.aliases ≡ b.aliases → e ≡ c.trait_id.number → n.traits.items ≡ set b.traits.items e u → HasOneMore b.traits.items e u c d → AddsClause a n c
added a b n c e d u s x m is h =
    record {
      clauses = λ i. rw (is, ← s.clauses i) (more_at i (i == c.trait_id.number) refl);
      coinductive = λ i. rw (is, ← s.coinductive i) (still_at i (i == c.trait_id.number) refl);
      aliases = λ i. ap (λ z. said_at z i) x ∙ s.aliases i;
    }
  where
    here : slice_get b.traits.items e ≡ Some (get_or b.traits.items e d)
    here = get_here b.traits.items e d h.within

    apart : (i : ℕ) → (i == c.trait_id.number) ≡ false → i ≡ e → ⊥
    apart i k p = let t : (i == c.trait_id.number) ≡ true = eq-eqb i c.trait_id.number (p ∙ m) in cc

    more_at : (i : ℕ) (w : Bool) → (i == c.trait_id.number) ≡ w → clauses_in (slice_get (set b.traits.items e u) i) ≡ (if w then clauses_in (slice_get b.traits.items i) ++ c ∷ [] else clauses_in (slice_get b.traits.items i))
    more_at i true k =
        let p : i ≡ e = eqb-true i c.trait_id.number k ∙ sym m in
        rw (p, set_here b.traits.items e u h.within, here) h.clauses
    more_at i false k = ap clauses_in (set_there b.traits.items e i u (λ p. apart i k p))

    still_at : (i : ℕ) (w : Bool) → (i == c.trait_id.number) ≡ w → coinductive_in (slice_get (set b.traits.items e u) i) ≡ coinductive_in (slice_get b.traits.items i)
    still_at i true k =
        let p : i ≡ e = eqb-true i c.trait_id.number k ∙ sym m in
        rw (p, set_here b.traits.items e u h.within, here) h.coinductive
    still_at i false k = ap coinductive_in (set_there b.traits.items e i u (λ p. apart i k p))
