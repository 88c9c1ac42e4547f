-- Terms over positions: filled, and then replaced, resolved or read in a world.
use Rattle.std.proofs.Common.{◌≡◌, inl, inr, ℕ, zero, suc, List, [], ◌∷◌, map, get_or, Option, Some, None, refl, sym, ap, ◌∙◌}
use Rattle.nts_model.specs.declared.labels.Leaf.{Leaf}
use Rattle.nts_model.specs.declared.labels.Leaf.TheVariants as leaf
use Rattle.nts_model.specs.declared.labels.BoundVarIndexKind.TheVariants as index
use Rattle.nts_model.specs.declared.labels.Label.{Label}
use Rattle.nts_model.specs.declared.labels.Label.TheVariants as label
use Rattle.nts_model.specs.Terms.Trees.{Tree, empty, more, node, IsFormed, infer_of, variable_of}
use Rattle.nts_model.specs.Tables.Contents.{Content}
use Rattle.nts_model.specs.Tables.Resolving.{deeply_resolved}
use Rattle.nts_model.specs.Tables.Worlds.{World, inst}
use Rattle.nts_model.specs.Terms.Substitutions.{leaf_tree, put, replace, Instance, instance_of, filled, filled_under, position_of, value_or}
use Rattle.nts_model.specs.Derivations.Handlers.{IsFixed}
use Rattle.nts_model.specs.Answers.Responses.{IsOverPositions, read_in}
use Rattle.nts_model.proofs.Terms.Substituting.{leaf_alone}
use Rattle.nts_model.proofs.Tables.Resolved.{deeply_resolved-node, deeply_resolved-empty}
use Rattle.nts_model.proofs.Tables.TableInstances.{deeply_resolved-more}

pub get_or-map : (f : Tree → Tree) → f empty ≡ empty → (xs : List Tree) (i : ℕ) → get_or (map f xs) i empty ≡ f (get_or xs i empty)
get_or-map f e [] i = sym e
get_or-map f e (x ∷ xs) zero = refl
get_or-map f e (x ∷ xs) (suc i) = get_or-map f e xs i

replace-value_or : (g : Leaf → Tree) (o : Option ℕ) (xs : List Tree) (l : Label) (c d : Tree) → replace g c ≡ d → replace g (value_or o xs (node l c)) ≡ value_or o (map (replace g) xs) (put g l d)
replace-value_or g None xs l c d e = ap (put g l) e
replace-value_or g (Some i) xs l c d e = sym (get_or-map (replace g) refl xs i)

pub replace-filled : (g : Leaf → Tree) (xs : List Tree) (t : Tree) → replace g (filled xs t) ≡ filled_under g (map (replace g) xs) t
replace-filled g xs empty = refl
replace-filled g xs (more a b) = cc (replace-filled g xs a, replace-filled g xs b)
replace-filled g xs (node l c) = replace-value_or g (position_of l) xs l (filled xs c) (filled_under g (map (replace g) xs) c) (replace-filled g xs c)

-- a term over positions, and its parts
pub over_first : (a b : Tree) → IsOverPositions (more a b) → IsOverPositions a
over_first a b h = record { leaves = λ l i. h.leaves l (inl i); formed = (let f = h.formed in f.0) }

pub over_rest : (a b : Tree) → IsOverPositions (more a b) → IsOverPositions b
over_rest a b h = record { leaves = λ l i. h.leaves l (inr i); formed = (let f = h.formed in f.1) }

pub over_children : (l : Label) (c : Tree) → IsOverPositions (node l c) → IsOverPositions c
over_children l c h = record { leaves = λ x i. h.leaves x (inr i); formed = (let f = h.formed in f.1) }

filled_put : (g : Leaf → Tree) (xs : List Tree) (l : Label) (c : Tree) → ((x : Leaf) → IsFixed x → g x ≡ leaf_tree x) → IsOverPositions (node l c) → filled_under g xs c ≡ filled xs c → put g l (filled_under g xs c) ≡ node l (filled xs c)
filled_put g xs (label.Leaf x) c s h e = s x (h.leaves x (inl refl)) ∙ ap (λ z. node (label.Leaf x) (filled xs z)) (sym (leaf_alone x c h.formed))
filled_put g xs (label.Bound a b n) c s h e = ap (node (label.Bound a b n)) e
filled_put g xs (label.Ty x) c s h e = ap (node (label.Ty x)) e
filled_put g xs (label.Const x) c s h e = ap (node (label.Const x)) e
filled_put g xs (label.Clause x) c s h e = ap (node (label.Clause x)) e
filled_put g xs (label.Predicate x) c s h e = ap (node (label.Predicate x)) e
filled_put g xs (label.List x) c s h e = ap (node (label.List x)) e

pub filled_under-fixed : (g : Leaf → Tree) (xs : List Tree) (t : Tree) → ((x : Leaf) → IsFixed x → g x ≡ leaf_tree x) → IsOverPositions t → filled_under g xs t ≡ filled xs t
filled_under-fixed g xs empty s h = refl
filled_under-fixed g xs (more a b) s h = cc (filled_under-fixed g xs a s (over_first a b h), filled_under-fixed g xs b s (over_rest a b h))
filled_under-fixed g xs (node l c) s h = ap (value_or (position_of l) xs) (filled_put g xs l c s h (filled_under-fixed g xs c s (over_children l c h)))

-- an instance of what is filled
pub instance_of-filled : (κ : Instance) (xs : List Tree) (t : Tree) → IsOverPositions t → instance_of κ (filled xs t) ≡ filled (map (instance_of κ) xs) t
instance_of-filled κ xs t h = replace-filled κ.value xs t ∙ filled_under-fixed κ.value (map (instance_of κ) xs) t fixed h
  where
    fixed : (x : Leaf) → IsFixed x → κ.value x ≡ leaf_tree x
    fixed (leaf.Region r) i = κ.stays r i
    fixed (leaf.Variable k n) i = absurd i
    fixed (leaf.TyConstant a) i = absurd i
    fixed (leaf.ConstConstant a) i = absurd i

-- under a table
pub resolved_label : (c : Content) (l : Label) (x : Tree) → variable_of l ≡ None → deeply_resolved c (node l x) ≡ node l (deeply_resolved c x)
resolved_label c l x e = let i : infer_of l ≡ None = rw e refl in deeply_resolved-node c l x i ∙ rw e refl

over_label : (l : Label) (c : Tree) → IsOverPositions (node l c) → variable_of l ≡ None
over_label (label.Leaf (leaf.Variable k n)) c h = absurd (h.leaves (leaf.Variable k n) (inl refl))
over_label (label.Leaf (leaf.Region r)) c h = refl
over_label (label.Leaf (leaf.TyConstant a)) c h = refl
over_label (label.Leaf (leaf.ConstConstant a)) c h = refl
over_label (label.Bound a b n) c h = refl
over_label (label.Ty x) c h = refl
over_label (label.Const x) c h = refl
over_label (label.Clause x) c h = refl
over_label (label.Predicate x) c h = refl
over_label (label.List x) c h = refl

resolved-value_or : (c : Content) (o : Option ℕ) (xs : List Tree) (l : Label) (t : Tree) → variable_of l ≡ None → deeply_resolved c (value_or o xs (node l t)) ≡ value_or o (map (deeply_resolved c) xs) (node l (deeply_resolved c t))
resolved-value_or c None xs l t e = resolved_label c l t e
resolved-value_or c (Some i) xs l t e = sym (get_or-map (deeply_resolved c) (deeply_resolved-empty c) xs i)

pub deeply_resolved-filled : (c : Content) (xs : List Tree) (t : Tree) → IsOverPositions t → deeply_resolved c (filled xs t) ≡ filled (map (deeply_resolved c) xs) t
deeply_resolved-filled c xs empty h = deeply_resolved-empty c
deeply_resolved-filled c xs (more a b) h = deeply_resolved-more c (filled xs a) (filled xs b) ∙ cc (deeply_resolved-filled c xs a (over_first a b h), deeply_resolved-filled c xs b (over_rest a b h))
deeply_resolved-filled c xs (node l t) h =
    resolved-value_or c (position_of l) xs l (filled xs t) (over_label l t h)
    ∙ ap (λ z. value_or (position_of l) (map (deeply_resolved c) xs) (node l z)) (deeply_resolved-filled c xs t (over_children l t h))

-- in a world
inst-value_or : (w : World) (o : Option ℕ) (xs : List Tree) (l : Label) (c d : Tree) → position_of l ≡ o → inst w (filled xs c) ≡ d → IsFormed (node l c)
    → inst w (value_or o xs (node l (filled xs c))) ≡ value_or o (map (inst w) xs) (put (λ x. inst w (leaf_tree x)) l d)
inst-value_or w None xs (label.Leaf x) c d p e f = ap (λ z. inst w (node (label.Leaf x) (filled xs z))) (leaf_alone x c f)
inst-value_or w None xs (label.Bound a (index.Bound n) b) c d p e f = ap (node (label.Bound a (index.Bound n) b)) e
inst-value_or w None xs (label.Bound a index.Canonical b) c d p e f = cc
inst-value_or w None xs (label.Ty x) c d p e f = ap (node (label.Ty x)) e
inst-value_or w None xs (label.Const x) c d p e f = ap (node (label.Const x)) e
inst-value_or w None xs (label.Clause x) c d p e f = ap (node (label.Clause x)) e
inst-value_or w None xs (label.Predicate x) c d p e f = ap (node (label.Predicate x)) e
inst-value_or w None xs (label.List x) c d p e f = ap (node (label.List x)) e
inst-value_or w (Some i) xs l c d p e f = sym (get_or-map (inst w) refl xs i)

-- a tree in a world is the term over positions, read where these have the trees' instances
pub inst-filled : (w : World) (xs : List Tree) (t : Tree) → IsFormed t → inst w (filled xs t) ≡ read_in w (map (inst w) xs) t
inst-filled w xs empty h = refl
inst-filled w xs (more a b) h = cc (inst-filled w xs a h.0, inst-filled w xs b h.1)
inst-filled w xs (node l c) h = inst-value_or w (position_of l) xs l c (read_in w (map (inst w) xs) c) refl (inst-filled w xs c h.1) h
