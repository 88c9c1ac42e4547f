-- A test of the labels of a node of two children.
use Rattle.std.proofs.Common.{◌≡◌, ◌||◌, Bool, true, false, refl, ap, ◌∙◌, arith}
use Rattle.nts_model.specs.declared.labels.Label.{Label}
use Rattle.nts_model.specs.Terms.Trees.{Tree, empty, more, node, children, row_length, row_at, IsRow, any_label}

or_nothing : (b : Bool) → (b || false) ≡ b
or_nothing true = refl
or_nothing false = refl

two_labels : (p : Label → Bool) (c : Tree) → IsRow c → row_length c ≡ 2 → any_label p c ≡ (any_label p (row_at c 0) || any_label p (row_at c 1))
two_labels p empty h n = absurd (omega (arith, n))
two_labels p (more a empty) h n = absurd (omega (arith, n))
two_labels p (more a (more b empty)) h n = ap (λ z. any_label p a || z) (or_nothing (any_label p b))
two_labels p (more a (more b (more d e))) h n = absurd (omega (arith, n))
two_labels p (more a (more b (node l d))) h n = absurd h
two_labels p (more a (node l d)) h n = absurd h
two_labels p (node l d) h n = absurd h

-- the label of the node itself passes the test
under_label : (p : Label → Bool) (u : Tree) (l : Label) → u ≡ node l (children u) → p l ≡ false → any_label p u ≡ any_label p (children u)
under_label p u l e h = ap (any_label p) e ∙ ap (λ z. z || any_label p (children u)) h

pub over_two : (p : Label → Bool) (u : Tree) (l : Label) → u ≡ node l (children u) → p l ≡ false → IsRow (children u) → row_length (children u) ≡ 2 → any_label p u ≡ (any_label p (row_at (children u) 0) || any_label p (row_at (children u) 1))
over_two p u l e h r n = under_label p u l e h ∙ two_labels p (children u) r n
