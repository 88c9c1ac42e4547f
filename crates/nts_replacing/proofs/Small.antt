-- Nodes of one child, or of two, whose children are replaced.
use Rattle.std.proofs.Common.{◌≡◌, ℕ, zero, suc, ◌<◌, refl, sym, ap, subst, ◌∙◌, arith}
use Rattle.nts_store.specs.nts_model.specs.declared.labels.Label.{Label}
use Rattle.nts_store.specs.nts_model.specs.Terms.Trees.{Tree, empty, more, node, children, row_length, row_at, IsRow, shape, Meets}
use Rattle.nts_replacing.specs.Replacement.{GoesDown}
use Rattle.nts_replacing.proofs.Replacing.{AreLaws, IsRow-Meets, Meets-image}

one_row : (c : Tree) → IsRow c → row_length c ≡ 1 → c ≡ more (row_at c 0) empty
one_row empty h n = absurd (omega (arith, n))
one_row (more a empty) h n = refl
one_row (more a (more b d)) h n = absurd (omega (arith, n))
one_row (more a (node l d)) h n = absurd h
one_row (node l d) h n = absurd h

two_row : (c : Tree) → IsRow c → row_length c ≡ 2 → c ≡ more (row_at c 0) (more (row_at c 1) empty)
two_row empty h n = absurd (omega (arith, n))
two_row (more a empty) h n = absurd (omega (arith, n))
two_row (more a (more b empty)) h n = refl
two_row (more a (more b (more d e))) h n = absurd (omega (arith, n))
two_row (more a (more b (node l d))) h n = absurd h
two_row (more a (node l d)) h n = absurd h
two_row (node l d) h n = absurd h

module _ (C : Tree → Type 0) (f : Tree → Tree) where
  goes : (t u : Tree) (l : Label) → u ≡ node l (children u) → GoesDown C f t u → (f t ≡ node l (f (children u))) × C (children u)
  goes t empty l e h = absurd h
  goes t (more a b) l e h = absurd h
  goes t (node m c) l e h = let same : m ≡ l = cc in (h.0 ∙ ap (λ k. node k (f c)) same, h.1)

  module _ (laws : AreLaws C f) where
    covers_in : (c : Tree) (i : ℕ) → C c → i < row_length c → C (row_at c i)
    covers_in empty i h n = absurd (omega (arith, n))
    covers_in (more a b) zero h n = (laws.covers a b h).0
    covers_in (more a b) (suc i) h n = covers_in b i (laws.covers a b h).1 (omega (arith, n))
    covers_in (node l c) i h n = absurd (omega (arith, n))

    -- each child is covered
    pub covers_child : (t u : Tree) (l : Label) (i : ℕ) → u ≡ node l (children u) → GoesDown C f t u → i < row_length (children u) → C (row_at (children u) i)
    covers_child t u l i e h n = covers_in (children u) i (goes t u l e h).1 n

    -- what the node is made of, and what is made
    pub over_one : (t u x : Tree) (l : Label) → u ≡ node l (children u) → Meets (shape l) (children u) → GoesDown C f t u → row_length (children u) ≡ 1 → x ≡ f (row_at (children u) 0) → Meets (shape l) (more x empty) × (node l (more x empty) ≡ f t)
    over_one t u x l e m h n q =
        let g = goes t u l e h in
        let c = children u in
        let row : f (children u) ≡ f (more (row_at (children u) 0) empty) = ap f (one_row (children u) (IsRow-Meets (shape l) (children u) m) n) in
        let all : f (children u) ≡ more x empty = row ∙ laws.of_more (row_at (children u) 0) empty ∙ ap (λ z. more (f (row_at (children u) 0)) z) laws.of_empty ∙ ap (λ z. more z empty) (sym q) in
        (subst (Meets (shape l)) all (Meets-image C f laws (shape l) (children u) m g.1), sym (g.0 ∙ ap (node l) all))

    pub over_two : (t u x y : Tree) (l : Label) → u ≡ node l (children u) → Meets (shape l) (children u) → GoesDown C f t u → row_length (children u) ≡ 2 → x ≡ f (row_at (children u) 0) → y ≡ f (row_at (children u) 1) → Meets (shape l) (more x (more y empty)) × (node l (more x (more y empty)) ≡ f t)
    over_two t u x y l e m h n q r =
        let g = goes t u l e h in
        let row : f (children u) ≡ f (more (row_at (children u) 0) (more (row_at (children u) 1) empty)) = ap f (two_row (children u) (IsRow-Meets (shape l) (children u) m) n) in
        let last : f (more (row_at (children u) 1) empty) ≡ more y empty = laws.of_more (row_at (children u) 1) empty ∙ ap (λ z. more (f (row_at (children u) 1)) z) laws.of_empty ∙ ap (λ z. more z empty) (sym r) in
        let all : f (children u) ≡ more x (more y empty) = row ∙ laws.of_more (row_at (children u) 0) (more (row_at (children u) 1) empty) ∙ ap (λ z. more (f (row_at (children u) 0)) z) last ∙ ap (λ z. more z (more y empty)) (sym q) in
        (subst (Meets (shape l)) all (Meets-image C f laws (shape l) (children u) m g.1), sym (g.0 ∙ ap (node l) all))
