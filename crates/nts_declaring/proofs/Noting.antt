-- The lines of a trait, under a place that is added and a place that changes.
use Rattle.std.proofs.Common.{◌≡◌, ℕ, zero, suc, ◌<◌, ◌==◌, Bool, true, false, List, [], ◌∷◌, ◌++◌, length, get_or, Some, if◌then◌else◌, eqb-true, eq-eqb, refl, ap, sym, ◌∙◌, arith}
use Rattle.std.specs.Prelude.{slice_get}
use Rattle.std.specs.Global.{Vec}
use Rattle.nts_declaring.specs.declared.impl_lines.ImplLines.{ImplLines}
use Rattle.nts_declaring.specs.ImplLines.{items_of, lines_of, KeepsLines, NotesLine}
use lib.ListN.{set}

lines-push : (ts : List (Vec ℕ)) (t : Vec ℕ) (i : ℕ) → t.items ≡ [] → items_of (slice_get (ts ++ t ∷ []) i) ≡ items_of (slice_get ts i)
lines-push [] t zero e = e
lines-push [] t (suc i) e = refl
lines-push (u ∷ ts) t zero e = refl
lines-push (u ∷ ts) t (suc i) e = lines-push ts t i e

-- one more place
pub same_push : (a b c : ImplLines) (t : Vec ℕ) → KeepsLines a b → c.traits.items ≡ b.traits.items ++ t ∷ [] → t.items ≡ [] → KeepsLines a c
same_push a b c t s e m = λ i. rw e (lines-push b.traits.items t i m ∙ s i)

set_here : (ts : List (Vec ℕ)) (e : ℕ) (u : Vec ℕ) → e < length ts → slice_get (set ts e u) e ≡ Some u
set_here [] e u h = absurd (omega arith)
set_here (t ∷ ts) zero u h = refl
set_here (t ∷ ts) (suc e) u h = set_here ts e u (omega arith)

set_there : (ts : List (Vec ℕ)) (e i : ℕ) (u : Vec ℕ) → (i ≡ e → ⊥) → slice_get (set ts e u) i ≡ slice_get ts i
set_there [] e i u h = refl
set_there (t ∷ ts) zero zero u h = absurd (h refl)
set_there (t ∷ ts) zero (suc i) u h = refl
set_there (t ∷ ts) (suc e) zero u h = refl
set_there (t ∷ ts) (suc e) (suc i) u h = set_there ts e i u (λ p. h (ap suc p))

get_here : (ts : List (Vec ℕ)) (e : ℕ) (d : Vec ℕ) → e < length ts → slice_get ts e ≡ Some (get_or ts e d)
get_here [] e d h = absurd (omega arith)
get_here (t ∷ ts) zero d h = refl
get_here (t ∷ ts) (suc e) d h = get_here ts e d (omega arith)

module _ (a b n : ImplLines) (t line e : ℕ) (d u : Vec ℕ) (s : KeepsLines a b) (is : e ≡ t) (made : n.traits.items ≡ set b.traits.items e u) (within : e < length b.traits.items) (more : u.items ≡ (get_or b.traits.items e d).items ++ line ∷ []) where
  at : (i : ℕ) (here : Bool) → (i == t) ≡ here → items_of (slice_get (set b.traits.items e u) i) ≡ (if here then lines_of b i ++ line ∷ [] else lines_of b i)
  at i true h =
      let same : i ≡ e = eqb-true i t h ∙ sym is in
      rw same (ap items_of (set_here b.traits.items e u within) ∙ more ∙ ap (λ o. items_of o ++ line ∷ []) (sym (get_here b.traits.items e d within)))
  at i false h = ap items_of (set_there b.traits.items e i u (λ p. let k : (i == t) ≡ true = eq-eqb i t (p ∙ is) in let f : false ≡ true = sym h ∙ k in cc))

  pub noted : NotesLine a n t line
  noted i = rw (made, ← s i) (at i (i == t) refl)
