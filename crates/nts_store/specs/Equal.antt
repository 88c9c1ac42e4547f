-- `==` on shapes is equality of label and children.
use Rattle.std.proofs.Common.{rules, ◌≡◌, ◌↔◌, ◌&&◌, Bool, true, false, List, [], ◌∷◌, refl}
use Rattle.std.specs.Prelude.{IsTrue}
use lib.Pointwise.{pointwise}
use Rattle.nts_model.specs.declared.labels.Label.{Label}
use Rattle.nts_model.specs.contracts.labels.LabelPartialEq.TheImpl as label_eq
use Rattle.nts_store.specs.declared.nodes.NodeId.{NodeId}
use Rattle.nts_store.specs.contracts.nodes.NodeIdPartialEq.TheImpl as id_eq
use Rattle.nts_store.specs.declared.index.Shape.{Shape}
use Rattle.nts_store.specs.contracts.index.ShapePartialEq.TheImpl as shape_eq
use Rattle.nts_store.specs.Children.{listed}
use Rattle.std.specs.Hash as fed
use Rattle.nts_store.specs.Words.{label_word, with_all}

pub same_label : (a b : Label) → IsTrue (label_eq.ghosts.eq a b) ↔ (a ≡ b)
same_label a b = search rules

pub both_true : (p q : Bool) (A B : Type 0) → (IsTrue p ↔ A) → (IsTrue q ↔ B) → IsTrue (p && q) ↔ (A × B)
both_true true true A B h k = ((λ _. (h.0 refl, k.0 refl)), λ _. refl)
both_true true false A B h k = ((λ f. cc), λ w. k.1 w.1)
both_true false q A B h k = ((λ f. cc), λ w. h.1 w.0)

pub same_id : (a b : NodeId) → IsTrue (id_eq.ghosts.eq a b) ↔ (a ≡ b)
same_id a b = search rules

pub same_ids : (a b : List NodeId) → IsTrue (pointwise id_eq.ghosts.eq a b) ↔ (a ≡ b)
same_ids [] [] = ((λ _. refl), λ _. refl)
same_ids [] (y ∷ ys) = ((λ f. cc), λ e. cc)
same_ids (x ∷ xs) [] = ((λ f. cc), λ e. cc)
same_ids (x ∷ xs) (y ∷ ys) =
    let b = both_true _ _ _ _ (same_id x y) (same_ids xs ys) in
    ((λ f. let w = b.0 f in cc (w.0, w.1)), λ e. let h : x ≡ y = cc in let t : xs ≡ ys = cc in b.1 (h, t))

-- two answers to one question are one
pub one_answer : (p q : Bool) (A : Type 0) → (IsTrue p ↔ A) → (IsTrue q ↔ A) → p ≡ q
one_answer true true A h k = refl
one_answer false false A h k = refl
one_answer true false A h k = let e : IsTrue false = k.1 (h.0 refl) in cc e
one_answer false true A h k = let e : IsTrue false = h.1 (k.0 refl) in cc e

-- `==` on shapes
pub one_shape : (a b : Shape) → IsTrue (shape_eq.ghosts.eq a b) → (a.label ≡ b.label) × (listed a.children ≡ listed b.children)
one_shape a b h = (both_true _ _ _ _ (same_label a.label b.label) (same_ids (listed a.children) (listed b.children))).0 h

pub shape_one : (a b : Shape) → a.label ≡ b.label → listed a.children ≡ listed b.children → IsTrue (shape_eq.ghosts.eq a b)
shape_one a b l c = (both_true _ _ _ _ (same_label a.label b.label) (same_ids (listed a.children) (listed b.children))).1 (l, c)

-- .. so equal shapes are hashed alike
pub one_word : (a b : Shape) → IsTrue (shape_eq.ghosts.eq a b) → fed.u64 (with_all (label_word a.label) (listed a.children)) ≡ fed.u64 (with_all (label_word b.label) (listed b.children))
one_word a b h = let w = one_shape a b h in let l = w.0 in let c = w.1 in cc
