-- A tree is closed exactly if no bound variable escapes from it.
use Rattle.std.proofs.Common.{◌≡◌, ◌↔◌, ℕ, ◌+◌, ◌-◌, ◌<◌, nat_lt, Bool, true, false, if◌then◌else◌, Option, Some, None, is_some, refl, sym, ap, ◌∙◌, arith}
use Rattle.std.specs.Prelude.{IsTrue}
use Rattle.std.proofs.lemmas.Bool.{ltb-true, ltb-false}
use Rattle.nts_model.specs.declared.labels.Label.{Label}
use Rattle.nts_model.specs.declared.labels.Label.TheVariants as label
use Rattle.nts_model.specs.declared.labels.BoundVarIndexKind.TheVariants as index
use Rattle.nts_model.specs.Terms.Trees.{Tree, empty, more, node, binders, IsBoundBelow, IsClosedUnder, IsClosed}
use Rattle.nts_store.specs.declared.type_flags.TypeFlags.{TypeFlags}
use Rattle.nts_store.specs.TypeFlags.{higher, past_binders, level_of, escaping, flags_of}

-- no level, or one below
abbrev pub IsBelow : ℕ → Option ℕ → Type 0
IsBelow c None = Unit {0}
IsBelow c (Some d) = d < c

below_both : (c : ℕ) (a b : Option ℕ) → IsBelow c (higher a b) ↔ (IsBelow c a × IsBelow c b)
below_both c None b = ((λ h. (tt, h)), λ h. h.1)
below_both c (Some x) None = ((λ h. (h, tt)), λ h. h.0)
below_both c (Some x) (Some y) = ((λ h. (omega arith, omega arith)), λ h. omega (arith, h.0, h.1))

below_past : (c n : ℕ) (o : Option ℕ) → IsBelow c (past_binders n o) ↔ IsBelow (c + n) o
below_past c n None = ((λ h. tt), λ h. tt)
below_past c n (Some d) = by_case (nat_lt d n) refl
  where
    by_case : (b : Bool) → nat_lt d n ≡ b → IsBelow c (if b then None else Some (d - n)) ↔ (d < c + n)
    by_case true e = ((λ h. omega (arith, ltb-true d n e)), λ h. tt)
    by_case false e = ((λ h. let k : d - n < c = h in omega (arith, ltb-false d n e, k)), λ h. let k : d - n < c = omega (arith, ltb-false d n e, h) in k)

below_level : (c : ℕ) (l : Label) → IsBelow c (level_of l) ↔ IsBoundBelow c l
below_level c (label.Leaf x) = ((λ h. tt), λ h. tt)
below_level c (label.Bound s (index.Bound d) n) = ((λ h. h), λ h. h)
below_level c (label.Bound s index.Canonical n) = ((λ h. tt), λ h. tt)
below_level c (label.Ty h) = ((λ h. tt), λ h. tt)
below_level c (label.Const h) = ((λ h. tt), λ h. tt)
below_level c (label.Clause h) = ((λ h. tt), λ h. tt)
below_level c (label.Predicate h) = ((λ h. tt), λ h. tt)
below_level c (label.List h) = ((λ h. tt), λ h. tt)

pub closed_under : (c : ℕ) (t : Tree) → IsBelow c (escaping t) ↔ IsClosedUnder c t
closed_under c empty = ((λ h. tt), λ h. tt)
closed_under c (more a b) =
    let both = below_both c (escaping a) (escaping b) in
    let first = closed_under c a in
    let rest = closed_under c b in
    ((λ h. let w = both.0 h in (first.0 w.0, rest.0 w.1)), λ h. both.1 (first.1 h.0, rest.1 h.1))
closed_under c (node l t) =
    let both = below_both c (level_of l) (past_binders (binders l) (escaping t)) in
    let first = below_level c l in
    let past = below_past c (binders l) (escaping t) in
    let rest = closed_under (c + binders l) t in
    ((λ h. let w = both.0 h in (first.0 w.0, rest.0 (past.0 w.1))), λ h. both.1 (first.1 h.0, past.1 (rest.1 h.1)))

none_below : (o : Option ℕ) → (IsTrue (is_some o)) ↔ ¬ IsBelow 0 o
none_below None = ((λ h. cc), λ h. absurd (h tt))
none_below (Some d) = ((λ h k. omega (arith, k)), λ h. refl)

-- some bound variable escapes exactly if the tree isn't closed
pub escapes : (t : Tree) → IsTrue (is_some (escaping t)) ↔ ¬ IsClosed t
escapes t =
    let none = none_below (escaping t) in
    let closed = closed_under 0 t in
    ((λ h k. none.0 h (closed.1 k)), λ h. none.1 (λ k. h (closed.0 k)))

below_none : (o : Option ℕ) → is_some o ≡ false → IsBelow 0 o
below_none None h = tt
below_none (Some d) h = cc

-- what the facts of a tree say of that
pub closed_by_facts : (t : Tree) (f : TypeFlags) → f ≡ flags_of t → is_some f.escaping ≡ false → IsClosed t
closed_by_facts t f e h =
    let none : is_some (escaping t) ≡ false = sym (ap (λ g. is_some g.escaping) e) ∙ h in
    (closed_under 0 t).0 (below_none (escaping t) none)

pub open_by_facts : (t : Tree) (f : TypeFlags) → f ≡ flags_of t → is_some f.escaping ≡ true → IsClosed t → ⊥
open_by_facts t f e h =
    let some : is_some (escaping t) ≡ true = sym (ap (λ g. is_some g.escaping) e) ∙ h in
    (escapes t).0 some
