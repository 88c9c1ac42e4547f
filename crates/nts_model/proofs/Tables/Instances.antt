-- Instances of trees in worlds.
use Rattle.std.proofs.Common.{◌≡◌, inl, inr, ⊎_elim, ℕ, ◌<◌, ◌≤◌, false, List, [], ◌∷◌, ◌++◌, length, Option, Some, None, refl, ap, ◌∙◌, arith}
use Rattle.std.specs.Prelude.{◌==◌}
use Rattle.nts_model.specs.declared.labels.Relation.{Relation}
use Rattle.nts_model.specs.declared.labels.Relation.TheVariants as relation
use Rattle.nts_model.specs.declared.labels.VariableKind.{VariableKind}
use Rattle.nts_model.specs.declared.labels.FreeRegion.TheVariants as region
use Rattle.nts_model.specs.declared.labels.Leaf.{Leaf}
use Rattle.nts_model.specs.declared.labels.Leaf.TheVariants as leaf
use Rattle.nts_model.specs.declared.labels.Label.{Label}
use Rattle.nts_model.specs.declared.labels.Label.TheVariants as label
use Rattle.nts_model.specs.Terms.Trees.{Tree, empty, more, node, variable_of}
use Rattle.nts_model.specs.Tables.Contents.{Content, known, Recorded, state_of}
use Rattle.nts_model.specs.Tables.Resolving.{number_of, Knows, KnowsVariable, Reaches, here, on, root_of}
use Rattle.nts_model.specs.Tables.Worlds.{World, KeepsFixedRegions, renamed_leaf, renamed, placed, inst, IsTrueOf, IsMet, AreMet, Solves, Agrees, with_tree, KnowsAll}
use Rattle.nts_model.proofs.Tables.Under.{eq-self}
use Rattle.nts_model.proofs.Tables.Slots.{field_below}
use Rattle.nts_model.proofs.Tables.Roots.{Reaches-root_of}

pub inst-variable : (w : World) (l : Label) (x : Tree) (k : VariableKind) (n : ℕ) → variable_of l ≡ Some (k, n) → inst w (node l x) ≡ w.tree n
inst-variable w l x k n e = rw e refl

pub inst-node : (w : World) (l : Label) (x : Tree) → variable_of l ≡ None → inst w (node l x) ≡ node (renamed w l) (inst w x)
inst-node w l x e = rw e refl

-- variables of one class have one tree
pub tree-reaches : (c : Content) (w : World) (n r : ℕ) → Solves c w → Reaches c n r → w.tree n ≡ w.tree r
tree-reaches c w n r s here = refl
tree-reaches c w n r s (on {m = m} before e) =
    let v : w.tree m ≡ w.tree r = rw e at (s.values m) in
    tree-reaches c w n m s before ∙ v

pub tree-root_of : (c : Content) (w : World) (n : ℕ) → Solves c w → w.tree n ≡ w.tree (root_of c n)
tree-root_of c w n s = tree-reaches c w n (root_of c n) s (Reaches-root_of c n)

-- a variable whose root has a value has the value's instance
pub tree-known : (c : Content) (w : World) (n r : ℕ) (t : Tree) → Solves c w → Reaches c n r → state_of c r ≡ Some (known t) → w.tree n ≡ inst w t
tree-known c w n r t s p e =
    let v : w.tree r ≡ inst w t = rw e at (s.values r) in
    tree-reaches c w n r s p ∙ v

-- worlds that agree
pub Agrees-refl : (n : ℕ) (w : World) → Agrees n w w
Agrees-refl n w = record { trees = λ m h. refl; regions = λ r. refl; outlives = λ a b. refl }

pub Agrees-trans : (n m : ℕ) (w v u : World) → n ≤ m → Agrees n w v → Agrees m v u → Agrees n w u
Agrees-trans n m w v u h a b =
    record {
      trees = λ k l. (let q : k < m = omega arith in b.trees k q ∙ a.trees k l);
      regions = λ r. b.regions r ∙ a.regions r;
      outlives = λ x y. b.outlives x y ∙ a.outlives x y;
    }

pub KeepsFixedRegions-agrees : (n : ℕ) (w v : World) → Agrees n w v → KeepsFixedRegions w → KeepsFixedRegions v
KeepsFixedRegions-agrees n w v a h =
    record {
      static = a.regions region.Static ∙ h.static;
      erased = a.regions region.Erased ∙ h.erased;
      error = a.regions region.Error ∙ h.error;
    }

pub Agrees-with_tree : (n m : ℕ) (w : World) (t : Tree) → n ≤ m → Agrees n w (with_tree w m t)
Agrees-with_tree n m w t h =
    record {
      trees = λ k l. (let apart : (k == m) ≡ false = grind arith in rw apart refl);
      regions = λ r. refl;
      outlives = λ a b. refl;
    }

pub tree-with_tree : (w : World) (n : ℕ) (t : Tree) → (with_tree w n t).tree n ≡ t
tree-with_tree w n t = rw (eq-self n) refl

renamed_leaf-agrees : (n : ℕ) (w v : World) (l : Leaf) → Agrees n w v → renamed_leaf v l ≡ renamed_leaf w l
renamed_leaf-agrees n w v (leaf.Region r) a = ap leaf.Region (a.regions r)
renamed_leaf-agrees n w v (leaf.Variable k m) a = refl
renamed_leaf-agrees n w v (leaf.TyConstant x) a = refl
renamed_leaf-agrees n w v (leaf.ConstConstant x) a = refl

renamed-agrees : (n : ℕ) (w v : World) (l : Label) → Agrees n w v → renamed v l ≡ renamed w l
renamed-agrees n w v (label.Leaf l) a = ap label.Leaf (renamed_leaf-agrees n w v l a)
renamed-agrees n w v (label.Bound x y z) a = refl
renamed-agrees n w v (label.Ty h) a = refl
renamed-agrees n w v (label.Const h) a = refl
renamed-agrees n w v (label.Clause h) a = refl
renamed-agrees n w v (label.Predicate h) a = refl
renamed-agrees n w v (label.List h) a = refl

placed-agrees : (c : Content) (w v : World) (o : Option (VariableKind × ℕ)) (l : Label) (x y : Tree) → Agrees (length c.slots) w v → KnowsVariable c o → x ≡ y → placed v (number_of o) l x ≡ placed w (number_of o) l y
placed-agrees c w v (Some n) l x y a k e = a.trees n.1 (field_below (λ z. z.kind) c n.1 n.0 k)
placed-agrees c w v None l x y a k e = cc (renamed-agrees (length c.slots) w v l a, e)

pub inst-agrees : (c : Content) (w v : World) (t : Tree) → Agrees (length c.slots) w v → Knows c t → inst v t ≡ inst w t
inst-agrees c w v empty a k = refl
inst-agrees c w v (more s t) a k = cc (inst-agrees c w v s a k.0, inst-agrees c w v t a k.1)
inst-agrees c w v (node l x) a k = placed-agrees c w v (variable_of l) l (inst v x) (inst w x) a k.0.0 (inst-agrees c w v x a k.1)

pub IsTrueOf-agrees : (n : ℕ) (w v : World) (r : Relation) (a b : Tree) → Agrees n w v → IsTrueOf w r a b → IsTrueOf v r a b
IsTrueOf-agrees n w v relation.Equal a b h k = k
IsTrueOf-agrees n w v relation.RegionOutlives a b h k = ⊎_elim (λ e. inl e) (λ e. inr (h.outlives a b ∙ e)) k
IsTrueOf-agrees n w v relation.TypeOutlives a b h k = h.outlives a b ∙ k

pub AreMet-agrees : (c : Content) (w v : World) (xs : List Recorded) → Agrees (length c.slots) w v → KnowsAll c xs → AreMet w xs → AreMet v xs
AreMet-agrees c w v [] a k h = tt
AreMet-agrees c w v (x ∷ xs) a k h = (
  rw (inst-agrees c w v x.left a k.0, inst-agrees c w v x.right a k.1) (IsTrueOf-agrees (length c.slots) w v x.relation (inst w x.left) (inst w x.right) a h.0),
  AreMet-agrees c w v xs a k.2 h.1,
)

-- one more constraint
pub AreMet-push : (w : World) (xs : List Recorded) (x : Recorded) → AreMet w xs → IsMet w x → AreMet w (xs ++ x ∷ [])
AreMet-push w [] x h e = (e, tt)
AreMet-push w (y ∷ xs) x h e = (h.0, AreMet-push w xs x h.1 e)

pub AreMet-front : (w : World) (xs : List Recorded) (x : Recorded) → AreMet w (xs ++ x ∷ []) → AreMet w xs × IsMet w x
AreMet-front w [] x h = (tt, h.0)
AreMet-front w (y ∷ xs) x h = let i = AreMet-front w xs x h.1 in ((h.0, i.0), i.1)

pub KnowsAll-push : (c : Content) (xs : List Recorded) (x : Recorded) → KnowsAll c xs → Knows c x.left → Knows c x.right → KnowsAll c (xs ++ x ∷ [])
KnowsAll-push c [] x h l r = (l, r, tt)
KnowsAll-push c (y ∷ xs) x h l r = (h.0, h.1, KnowsAll-push c xs x h.2 l r)
