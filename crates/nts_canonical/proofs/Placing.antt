-- Numbers of leaves, and handles of terms of the same kind.
use Rattle.std.proofs.Common.{◌≡◌, ℕ, ◌≤◌, Bool, false, not, List, length, inl, inr, refl, arith, rules, nat_lt}
use Rattle.std.specs.Prelude.{unwrap_or}
use Rattle.std.specs.List.{position, position_or_len}
use Rattle.std.proofs.lemmas.List.Sums.{prefix_len-le-length}
use Rattle.nts_model.specs.Terms.Trees.{Tree, Place, kind_of}
use Rattle.nts_model.proofs.Terms.Listed.{either}
use Rattle.nts_store.specs.declared.nodes.NodeId.{NodeId}
use Rattle.nts_store.specs.Growth.{tree_at, IsIn}
use Rattle.nts_terms.specs.Handles.{Holds}

not_below : (a b : ℕ) → nat_lt a b ≡ false → b ≤ a
not_below a b e = search rules

-- the first place that passes, or the length
pub position_or_end : {X : Type 0} (p : X → Bool) (xs : List X) (n : ℕ) → n ≡ length xs → unwrap_or (position p xs) n ≡ position_or_len p xs
position_or_end p xs n e =
    elim (either (nat_lt (position_or_len p xs) (length xs))) [
      | inl h ↦ rw h refl
      | inr h ↦ rw h (let below = not_below (position_or_len p xs) (length xs) h in let above = prefix_len-le-length (λ x. not (p x)) xs in omega (arith, below, above, e))
    ]

-- a term of the same kind
pub holds_alike : (p : Place) (a b : List Tree) (n m : NodeId) → Holds p a n → IsIn b m → kind_of (tree_at b m) ≡ kind_of (tree_at a n) → Holds p b m
holds_alike p a b n m h w k = record { within = w; fits = rw k h.fits }
