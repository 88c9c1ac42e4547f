-- A value without aliases adds none to the trees in which it is put.
use Rattle.std.proofs.Common.{◌≡◌, ℕ, zero, suc, ◌+◌, ◌≤◌, ◌<◌, Bool, true, false, List, [], ◌∷◌, Option, Some, None, refl, sym, ◌∙◌, arith}
use Rattle.std.specs.Prelude.{◌==◌, if◌then◌else◌, ◌&&◌, reverse}
use Rattle.nts_model.specs.declared.labels.BoundVarIndexKind.TheVariants as index
use Rattle.nts_model.specs.declared.labels.Label.{Label}
use Rattle.nts_model.specs.declared.labels.Label.TheVariants as label
use Rattle.nts_model.specs.Terms.Trees.{Tree, empty, more, node, binders, is_alias, infer_of}
use Rattle.nts_model.specs.Tables.Contents.{Content}
use Rattle.nts_model.specs.Tables.Resolving.{replaced, replaced_at, under, value_at, resolved, IsOneOf}
use Rattle.std.specs.Prelude.{take}
use Rattle.nts_model.proofs.Tables.Under.{under-agree}
use Rattle.nts_model.specs.Tables.Measuring.{is_less, is_bound_below, unless_variable, closed_under, closed_aliases}

is_less_more : (d a b : ℕ) → a ≤ b → is_less d a ≡ true → is_less d b ≡ true
is_less_more d zero b h e = cc
is_less_more d (suc a) zero h e = absurd (omega (arith, h))
is_less_more zero (suc a) (suc b) h e = refl
is_less_more (suc d) (suc a) (suc b) h e = is_less_more d a b (omega (arith, h)) e

pub both_true : (a b : Bool) → (a && b) ≡ true → (a ≡ true) × (b ≡ true)
both_true true true e = (refl, refl)
both_true true false e = cc
both_true false b e = cc

and_true : (a b : Bool) → a ≡ true → b ≡ true → (a && b) ≡ true
and_true true true p q = refl
and_true true false p q = cc
and_true false b p q = cc

bound_more : (a b : ℕ) (l : Label) → a ≤ b → is_bound_below a l ≡ true → is_bound_below b l ≡ true
bound_more a b (label.Bound s (index.Bound d) n) h e = is_less_more d a b h e
bound_more a b (label.Bound s index.Canonical n) h e = refl
bound_more a b (label.Leaf x) h e = refl
bound_more a b (label.Ty x) h e = refl
bound_more a b (label.Const x) h e = refl
bound_more a b (label.Clause x) h e = refl
bound_more a b (label.Predicate x) h e = refl
bound_more a b (label.List x) h e = refl

closed_node_more : (a b : ℕ) (o : Option ℕ) (x y p q : Bool) → (x ≡ true → p ≡ true) → (y ≡ true → q ≡ true) → unless_variable o true (x && y) ≡ true → unless_variable o true (p && q) ≡ true
closed_node_more a b (Some n) x y p q f g e = refl
closed_node_more a b None x y p q f g e = let h = both_true x y e in and_true p q (f h.0) (g h.1)

pub closed_more : (a b : ℕ) (t : Tree) → a ≤ b → closed_under a t ≡ true → closed_under b t ≡ true
closed_more a b empty h e = refl
closed_more a b (more x y) h e =
    let k = both_true (closed_under a x) (closed_under a y) e in
    and_true (closed_under b x) (closed_under b y) (closed_more a b x h k.0) (closed_more a b y h k.1)
closed_more a b (node l t) h e =
    closed_node_more a b (infer_of l) (is_bound_below a l) (closed_under (a + binders l) t) (is_bound_below b l) (closed_under (b + binders l) t)
    (bound_more a b l h) (closed_more (a + binders l) (b + binders l) t (omega (arith, h))) e

-- a closed tree in place of a variable leaves a tree as closed as it was
closed_replaced_at : (c n : ℕ) (o : Option ℕ) (s : Tree) (l : Label) (t x : Tree) → infer_of l ≡ o → closed_under 0 s ≡ true → closed_under (c + binders l) x ≡ closed_under (c + binders l) t → closed_under c (replaced_at o n s (node l t) (node l x)) ≡ closed_under c (node l t)
closed_replaced_at c n None s l t x e h rec = rw rec refl
closed_replaced_at c n (Some m) s l t x e h rec = by_case (m == n)
  where
    is_true : closed_under c (node l t) ≡ true
    is_true = rw e refl

    by_case : (z : Bool) → closed_under c (if z then s else node l t) ≡ closed_under c (node l t)
    by_case true = closed_more 0 c s (omega arith) h ∙ sym is_true
    by_case false = refl

pub closed_replaced : (c n : ℕ) (s t : Tree) → closed_under 0 s ≡ true → closed_under c (replaced n s t) ≡ closed_under c t
closed_replaced c n s empty h = refl
closed_replaced c n s (more a b) h = let x = closed_replaced c n s a h in let y = closed_replaced c n s b h in cc (x, y)
closed_replaced c n s (node l t) h = closed_replaced_at c n (infer_of l) s l t (replaced n s t) refl h (closed_replaced (c + binders l) n s t h)

-- .. and a tree without aliases adds none
aliases_replaced_at : (n : ℕ) (o : Option ℕ) (s : Tree) (l : Label) (t x : Tree) → infer_of l ≡ o → closed_aliases s ≡ 0 → closed_under (0 + binders l) x ≡ closed_under (0 + binders l) t → closed_aliases x ≡ closed_aliases t → closed_aliases (replaced_at o n s (node l t) (node l x)) ≡ closed_aliases (node l t)
aliases_replaced_at n None s l t x e h c rec = rw (c, rec) refl
aliases_replaced_at n (Some m) s l t x e h c rec = by_case (m == n)
  where
    is_none : closed_aliases (node l t) ≡ 0
    is_none = rw e refl

    by_case : (z : Bool) → closed_aliases (if z then s else node l t) ≡ closed_aliases (node l t)
    by_case true = h ∙ sym is_none
    by_case false = refl

pub aliases_replaced : (n : ℕ) (s t : Tree) → closed_under 0 s ≡ true → closed_aliases s ≡ 0 → closed_aliases (replaced n s t) ≡ closed_aliases t
aliases_replaced n s empty h k = refl
aliases_replaced n s (more a b) h k = let x = aliases_replaced n s a h k in let y = aliases_replaced n s b h k in cc (x, y)
aliases_replaced n s (node l t) h k =
    aliases_replaced_at n (infer_of l) s l t (replaced n s t) refl k (closed_replaced (0 + binders l) n s t h) (aliases_replaced n s t h k)
