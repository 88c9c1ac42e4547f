-- Lists of terms of declared sorts.
use Rattle.std.proofs.Common.{◌≡◌, ℕ, zero, suc, ◌<◌, List, [], ◌∷◌, length, get_or, Some, refl, arith}
use Rattle.nts_model.specs.declared.labels.Sort.{Sort}
use Rattle.nts_model.specs.Terms.Trees.{Tree, empty, more, node, IsRow, row_length, row_at, kind_of, of_sort}
use Rattle.nts_terms.specs.Signatures.{HaveSorts}

pub HaveSorts-length : (ss : List Sort) (c : Tree) → HaveSorts ss c → row_length c ≡ length ss
HaveSorts-length [] empty h = refl
HaveSorts-length [] (more a b) h = absurd h
HaveSorts-length [] (node l c) h = absurd h
HaveSorts-length (s ∷ ss) empty h = absurd h
HaveSorts-length (s ∷ ss) (more a b) h = omega (arith, HaveSorts-length ss b h.1)
HaveSorts-length (s ∷ ss) (node l c) h = absurd h

pub HaveSorts-at : (ss : List Sort) (c : Tree) (k : ℕ) (d : Sort) → HaveSorts ss c → k < length ss → kind_of (row_at c k) ≡ Some (of_sort (get_or ss k d))
HaveSorts-at [] c k d h l = absurd (omega arith)
HaveSorts-at (s ∷ ss) empty k d h l = absurd h
HaveSorts-at (s ∷ ss) (more a b) zero d h l = h.0
HaveSorts-at (s ∷ ss) (more a b) (suc k) d h l = HaveSorts-at ss b k d h.1 (omega arith)
HaveSorts-at (s ∷ ss) (node m c) k d h l = absurd h

pub HaveSorts-all : (ss : List Sort) (c : Tree) (d : Sort) → IsRow c → row_length c ≡ length ss → ((k : ℕ) → k < length ss → kind_of (row_at c k) ≡ Some (of_sort (get_or ss k d))) → HaveSorts ss c
HaveSorts-all [] empty d r e h = tt
HaveSorts-all [] (more a b) d r e h = absurd (omega arith)
HaveSorts-all [] (node l c) d r e h = absurd r
HaveSorts-all (s ∷ ss) empty d r e h = absurd (omega arith)
HaveSorts-all (s ∷ ss) (more a b) d r e h =
    (h 0 (omega arith), HaveSorts-all ss b d r (omega arith) (λ k l. h (suc k) (omega arith)))
HaveSorts-all (s ∷ ss) (node l c) d r e h = absurd r
