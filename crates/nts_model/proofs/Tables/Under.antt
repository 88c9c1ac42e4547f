-- Trees under the values of variables.
use Rattle.std.proofs.Common.{◌≡◌, ◌⊎◌, inl, inr, ⊎_elim, ℕ, Bool, true, false, List, [], ◌∷◌, Option, Some, None, refl, sym, ap, ◌∙◌, arith, rules}
use Rattle.std.specs.Prelude.{◌==◌, if◌then◌else◌}
use Rattle.nts_model.specs.declared.labels.Label.{Label}
use Rattle.nts_model.specs.Terms.Trees.{Tree, empty, more, node, infer_of}
use Rattle.nts_model.specs.Tables.Resolving.{replaced, replaced_at, Lacks, LacksAt, under, IsNoneOf, IsOneOf, IsAcyclic}

replaced_at-lacks : (o : Option ℕ) (n : ℕ) (s t u : Tree) (P : Type 0) → LacksAt o n P → (P → u ≡ t) → replaced_at o n s t u ≡ t
replaced_at-lacks None n s t u P h e = e h
replaced_at-lacks (Some m) n s t u P h e = rw h refl

-- a tree without the variable stays
pub replaced-lacks : (n : ℕ) (s t : Tree) → Lacks n t → replaced n s t ≡ t
replaced-lacks n s empty h = refl
replaced-lacks n s (more a b) h = cc (replaced-lacks n s a h.0, replaced-lacks n s b h.1)
replaced-lacks n s (node l c) h = replaced_at-lacks (infer_of l) n s (node l c) (node l (replaced n s c)) (Lacks n c) h (λ k. ap (node l) (replaced-lacks n s c k))

pub under-empty : (val : ℕ → Tree) (ns : List ℕ) → under val ns empty ≡ empty
under-empty val [] = refl
under-empty val (n ∷ ns) = rw (under-empty val ns) refl

pub under-more : (val : ℕ → Tree) (ns : List ℕ) (a b : Tree) → under val ns (more a b) ≡ more (under val ns a) (under val ns b)
under-more val [] a b = refl
under-more val (n ∷ ns) a b = rw (under-more val ns a b) refl

-- a node that is no variable stays
pub under-node : (val : ℕ → Tree) (ns : List ℕ) (l : Label) (c : Tree) → infer_of l ≡ None → under val ns (node l c) ≡ node l (under val ns c)
under-node val [] l c h = refl
under-node val (n ∷ ns) l c h = rw (under-node val ns l c h, h) refl

-- a variable without a value stays
pub under-unbound : (val : ℕ → Tree) (ns : List ℕ) (l : Label) (c : Tree) (m : ℕ) → infer_of l ≡ Some m → IsNoneOf m ns → under val ns (node l c) ≡ node l c
under-unbound val [] l c m h k = refl
under-unbound val (n ∷ ns) l c m h k = let e = under-unbound val ns l c m h k.1 in rw (e, h, k.0) refl

pub eq-self : (n : ℕ) → (n == n) ≡ true
eq-self n = search rules

-- a variable with a value
pub under-bound : (val : ℕ → Tree) (ns : List ℕ) (l : Label) (c : Tree) (m : ℕ) → infer_of l ≡ Some m → IsOneOf m ns → IsAcyclic val ns → under val ns (node l c) ≡ under val ns (val m)
under-bound val (n ∷ ns) l c m h (inl e) a =
    let this : infer_of l ≡ Some n = h ∙ ap Some e in
    let old : under val ns (node l c) ≡ node l c = under-unbound val ns l c n this a.0 in
    let left : replaced n (under val ns (val n)) (node l c) ≡ under val ns (val n) = rw (this, eq-self n) refl in
    let right : replaced n (under val ns (val n)) (under val ns (val n)) ≡ under val ns (val n) = replaced-lacks n _ _ a.1 in
    rw (old, e) (left ∙ sym right)
under-bound val (n ∷ ns) l c m h (inr e) a =
    ap (replaced n (under val ns (val n))) (under-bound val ns l c m h e a.2)
under-bound val [] l c m h e a = elim e [ ]

pub same_or_other : (m n : ℕ) → (m ≡ n) ⊎ (m ≡ n → ⊥)
same_or_other m n = grind arith

pub not_equal : (m n : ℕ) → (m == n) ≡ false → m ≡ n → ⊥
not_equal m n h e = grind arith

-- values that agree on the variables
pub under-agree : (v w : ℕ → Tree) (ns : List ℕ) (t : Tree) → ((m : ℕ) → IsOneOf m ns → w m ≡ v m) → under w ns t ≡ under v ns t
under-agree v w [] t h = refl
under-agree v w (n ∷ ns) t h =
    let a = under-agree v w ns (v n) (λ m k. h m (inr k)) in
    let b = under-agree v w ns t (λ m k. h m (inr k)) in
    let e : w n ≡ v n = h n (inl refl) in
    rw (e, a, b) refl

pub IsAcyclic-agree : (v w : ℕ → Tree) (ns : List ℕ) → ((m : ℕ) → IsOneOf m ns → w m ≡ v m) → IsAcyclic v ns → IsAcyclic w ns
IsAcyclic-agree v w [] h a = tt
IsAcyclic-agree v w (n ∷ ns) h a =
    let e : w n ≡ v n = h n (inl refl) in
    (a.0, rw (e, under-agree v w ns (v n) (λ m k. h m (inr k))) a.1, IsAcyclic-agree v w ns (λ m k. h m (inr k)) a.2)

pub none-one : (m n : ℕ) (ns : List ℕ) → IsNoneOf n ns → IsOneOf m ns → m ≡ n → ⊥
none-one m n [] h k e = k
none-one m n (x ∷ ns) h (inl q) e = not_equal n x h.0 (sym e ∙ q)
none-one m n (x ∷ ns) h (inr q) e = none-one m n ns h.1 q e

pub IsNoneOf-not_one : (m : ℕ) (ns : List ℕ) → (IsOneOf m ns → ⊥) → IsNoneOf m ns
IsNoneOf-not_one m [] h = tt
IsNoneOf-not_one m (n ∷ ns) h =
    let apart : (m ≡ n → ⊥) = λ e. h (inl e) in
    let f : (m == n) ≡ false = grind arith in
    (f, IsNoneOf-not_one m ns (λ k. h (inr k)))

-- what replaces a variable occurs in the tree afterwards, and the variable does not
LacksAt-replaced : (o : Option ℕ) (n m : ℕ) (s : Tree) (l : Label) (c x : Tree) → infer_of l ≡ o → Lacks m s → ((m ≡ n → ⊥) → LacksAt o m (Lacks m c)) → (((m ≡ n → ⊥) → Lacks m c) → Lacks m x) → Lacks m (replaced_at o n s (node l c) (node l x))
LacksAt-replaced None n m s l c x e h k q = rw e (q k)
LacksAt-replaced (Some i) n m s l c x e h k q = by_case (i == n) refl
  where
    by_number : (i == n) ≡ false → (m ≡ n) ⊎ (m ≡ n → ⊥) → (i == m) ≡ false
    by_number z (inl f) = rw f z
    by_number z (inr f) = k f

    by_case : (b : Bool) → (i == n) ≡ b → Lacks m (if b then s else node l c)
    by_case true z = h
    by_case false z = rw e (by_number z (same_or_other m n))

pub Lacks-replaced : (n m : ℕ) (s t : Tree) → Lacks m s → ((m ≡ n → ⊥) → Lacks m t) → Lacks m (replaced n s t)
Lacks-replaced n m s empty h k = tt
Lacks-replaced n m s (more a b) h k = (Lacks-replaced n m s a h (λ d. (k d).0), Lacks-replaced n m s b h (λ d. (k d).1))
Lacks-replaced n m s (node l c) h k = LacksAt-replaced (infer_of l) n m s l c (replaced n s c) refl h k (λ q. Lacks-replaced n m s c h q)

-- a variable with a value is in no tree under the values
pub Lacks-under : (val : ℕ → Tree) (ns : List ℕ) (t : Tree) (m : ℕ) → IsAcyclic val ns → IsOneOf m ns → Lacks m (under val ns t)
Lacks-under val [] t m a h = absurd h
Lacks-under val (n ∷ ns) t m a h =
    Lacks-replaced n m (under val ns (val n)) (under val ns t) (⊎_elim (λ e. rw e a.1) (λ k. Lacks-under val ns (val n) m a.2 k) h)
    (λ d. ⊎_elim (λ e. absurd (d e)) (λ k. Lacks-under val ns t m a.2 k) h)

-- a tree without the variables that have values stays
pub under-lacks : (val : ℕ → Tree) (ns : List ℕ) (t : Tree) → ((m : ℕ) → IsOneOf m ns → Lacks m t) → under val ns t ≡ t
under-lacks val [] t h = refl
under-lacks val (n ∷ ns) t h =
    rw (under-lacks val ns t (λ m k. h m (inr k))) (replaced-lacks n (under val ns (val n)) t (h n (inl refl)))

-- done twice it gives the same as once
pub under-twice : (val : ℕ → Tree) (ns : List ℕ) (t : Tree) → IsAcyclic val ns → under val ns (under val ns t) ≡ under val ns t
under-twice val ns t a = under-lacks val ns (under val ns t) (λ m k. Lacks-under val ns t m a k)
