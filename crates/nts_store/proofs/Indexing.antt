-- What adding a node does to the index of a store.
use Rattle.std.proofs.Common.{◌≡◌, ℕ, zero, suc, Bool, true, false, cond, List, [], ◌∷◌, ◌++◌, length, Some, None, refl, sym, ◌∙◌}
use Rattle.nts_store.specs.declared.nodes.Node.{Node}
use Rattle.nts_store.specs.declared.index.Shape.{Shape}
use Rattle.nts_store.specs.declared.index.Index.{Index}
use Rattle.nts_store.specs.contracts.index.ShapePartialEq.TheImpl as shape_eq
use Rattle.nts_store.specs.Index.{HasShape, HasShapeAt, number_in, IsIndex}
use Rattle.nts_store.specs.Equal.{one_shape, shape_one}
use Rattle.nts_store.proofs.Inserting.{last_has}

-- what has a shape at a place has it where one more stands behind
shape_front : (ns : List Node) (n : Node) (i : ℕ) (s : Shape) → HasShapeAt ns i s → HasShapeAt (ns ++ n ∷ []) i s
shape_front [] n i s h = absurd h
shape_front (m ∷ ns) n zero s h = h
shape_front (m ∷ ns) n (suc i) s h = shape_front ns n i s h

-- .. and is one that was there, or the new one
data FromMore (ns : List Node) (n : Node) (i : ℕ) (s : Shape) : Type 0 where
  old : HasShapeAt ns i s → FromMore ns n i s
  new : HasShape n s → FromMore ns n i s

from_more : (ns : List Node) (n : Node) (i : ℕ) (s : Shape) → HasShapeAt (ns ++ n ∷ []) i s → FromMore ns n i s
from_more [] n zero s h = new h
from_more [] n (suc i) s h = absurd h
from_more (m ∷ ns) n zero s h = old h
from_more (m ∷ ns) n (suc i) s h = step (from_more ns n i s h)
  where
    step : FromMore ns n i s → FromMore (m ∷ ns) n (suc i) s
    step (old k) = old k
    step (new k) = new k

pub index_more : (x y : Index) (n : Node) (s : Shape) → IsIndex x → HasShape n s → y.nodes.items ≡ x.nodes.items ++ n ∷ []
    → ((q : Shape) → number_in y q ≡ cond (shape_eq.ghosts.eq s q) (Some (length x.nodes.items)) (number_in x q)) → IsIndex y
index_more x y n s index shape nodes numbers =
    record {
      found = λ q i e. rw nodes (found_at q i (shape_eq.ghosts.eq s q) refl (sym (numbers q) ∙ e));
      all = λ q i h none. all_at q i (shape_eq.ghosts.eq s q) refl (from_more x.nodes.items n i q (rw nodes at h)) (sym (numbers q) ∙ none);
    }
  where
    of_other : (q : Shape) → shape_eq.ghosts.eq s q ≡ true → HasShape n q
    of_other q e = let w = one_shape s q e in record { label = shape.label ∙ w.0; children = shape.children ∙ w.1 }

    found_at : (q : Shape) (i : ℕ) (b : Bool) → shape_eq.ghosts.eq s q ≡ b → cond (shape_eq.ghosts.eq s q) (Some (length x.nodes.items)) (number_in x q) ≡ Some i → HasShapeAt (x.nodes.items ++ n ∷ []) i q
    found_at q i true e k =
        let same : Some (length x.nodes.items) ≡ Some i = rw e at k in
        let at : length x.nodes.items ≡ i = cc in
        rw (← at) (last_has x.nodes.items n q (of_other q e))
    found_at q i false e k = shape_front x.nodes.items n i q (index.found q i (rw e at k))

    all_at : (q : Shape) (i : ℕ) (b : Bool) → shape_eq.ghosts.eq s q ≡ b → FromMore x.nodes.items n i q → cond (shape_eq.ghosts.eq s q) (Some (length x.nodes.items)) (number_in x q) ≡ None → ⊥
    all_at q i true e f k = let bad : Some (length x.nodes.items) ≡ None = rw e at k in cc
    all_at q i false e (old h) k = index.all q i h (rw e at k)
    all_at q i false e (new h) k = let one : shape_eq.ghosts.eq s q ≡ true = shape_one s q (sym shape.label ∙ h.label) (sym shape.children ∙ h.children) in cc

-- the same nodes and numbers
pub index_same : (x y : Index) → IsIndex x → y.nodes.items ≡ x.nodes.items → ((q : Shape) → number_in y q ≡ number_in x q) → IsIndex y
index_same x y index nodes numbers =
    record {
      found = λ q i e. rw nodes (index.found q i (sym (numbers q) ∙ e));
      all = λ q i h none. index.all q i (rw nodes at h) (sym (numbers q) ∙ none);
    }
