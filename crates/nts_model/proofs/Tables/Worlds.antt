-- In a world that solves a table, trees mean what they mean under the table's values; alike trees mean one.
use Rattle.std.proofs.Common.{◌≡◌, inl, inr, ⊎_elim, ℕ, zero, suc, ◌<◌, Bool, true, false, List, [], ◌∷◌, length, get_or, Option, Some, None, refl, sym, ap, ◌∙◌, arith, rules}
use Rattle.std.specs.Prelude.{◌==◌, if◌then◌else◌, slice_get, reverse}
use Rattle.nts_model.specs.declared.labels.Relation.TheVariants as relation
use Rattle.nts_model.specs.declared.labels.VariableKind.{VariableKind}
use Rattle.nts_model.specs.declared.labels.VariableKind.TheVariants as kind
use Rattle.nts_model.specs.declared.labels.Label.{Label}
use Rattle.nts_model.specs.Terms.Trees.{Tree, empty, more, node, infer_of, variable_of}
use Rattle.nts_model.specs.Tables.Contents.{Content, Slot, SlotState, unset, link, known, Recorded}
use Rattle.nts_model.specs.Tables.Resolving.{number_of, replaced, replaced_at, under, IsOneOf, value_of_state, value_at, resolved, deeply_resolved, rooted, rooted_variable, IsSound}
use Rattle.nts_model.specs.Tables.Worlds.{World, placed, inst, IsMet, AreMet, Solves}
use Rattle.nts_model.specs.Tables.Holding.{AreOne}
use Rattle.nts_model.specs.Tables.Alike.{Alike, one_tree, two_regions, one_label, two_rows, HoldsEqual, AreAlike}
use Rattle.nts_model.proofs.Terms.Variables.{infer_label}
use Rattle.nts_model.proofs.Tables.Under.{none-one}
use Rattle.nts_model.proofs.Tables.Slots.{some_slot}
use Rattle.nts_model.proofs.Tables.Instances.{inst-variable, tree-root_of}

-- one value in place of a variable that has it
inst-replaced_at : (w : World) (n : ℕ) (s : Tree) (l : Label) (t x : Tree) (o : Option ℕ) → infer_of l ≡ o → w.tree n ≡ inst w s → (o ≡ None → inst w (node l x) ≡ inst w (node l t)) → inst w (replaced_at o n s (node l t) (node l x)) ≡ inst w (node l t)
inst-replaced_at w n s l t x None e h rec = rec refl
inst-replaced_at w n s l t x (Some m) e h rec = by_case (m == n) refl
  where
    by_case : (z : Bool) → (m == n) ≡ z → inst w (if z then s else node l t) ≡ inst w (node l t)
    by_case false q = refl
    by_case true q =
        let v = infer_label l m e in
        let same : m ≡ n = search (rules, q) in
        sym h ∙ ap w.tree (sym same) ∙ sym (inst-variable w l t v.of_kind m v.is)

inst-same_label : (w : World) (l : Label) (x t : Tree) → inst w x ≡ inst w t → inst w (node l x) ≡ inst w (node l t)
inst-same_label w l x t e = ap (placed w (number_of (variable_of l)) l) e

inst-replaced_value : (w : World) (n : ℕ) (s t : Tree) → w.tree n ≡ inst w s → inst w (replaced n s t) ≡ inst w t
inst-replaced_value w n s empty h = refl
inst-replaced_value w n s (more a b) h = cc (inst-replaced_value w n s a h, inst-replaced_value w n s b h)
inst-replaced_value w n s (node l t) h =
    inst-replaced_at w n s l t (replaced n s t) (infer_of l) refl h (λ e. inst-same_label w l (replaced n s t) t (inst-replaced_value w n s t h))

inst-values : (w : World) (val : ℕ → Tree) (ns : List ℕ) (t : Tree) → ((n : ℕ) → IsOneOf n ns → w.tree n ≡ inst w (val n)) → inst w (under val ns t) ≡ inst w t
inst-values w val [] t h = refl
inst-values w val (n ∷ ns) t h =
    let older : (m : ℕ) → IsOneOf m ns → w.tree m ≡ inst w (val m) = λ m q. h m (inr q) in
    inst-replaced_value w n (under val ns (val n)) (under val ns t) (h n (inl refl) ∙ sym (inst-values w val ns (val n) older))
    ∙ inst-values w val ns t older

pub slice_get_some : {A : Type 0} (xs : List A) (n : ℕ) → n < length xs → slice_get xs n ≡ None → ⊥
slice_get_some [] n h e = omega arith
slice_get_some (x ∷ xs) zero h e = cc
slice_get_some (x ∷ xs) (suc n) h e = slice_get_some xs n (omega arith) e

tree-value : (c : Content) (w : World) (n : ℕ) → IsSound c → Solves c w → IsOneOf n (reverse c.order) → w.tree n ≡ inst w (value_at c n)
tree-value c w n s h i = by_slot (slice_get c.slots n) refl
  where
    by_state : (v : Slot) (o : SlotState) → slice_get c.slots n ≡ Some v → v.state ≡ o → w.tree n ≡ inst w (value_of_state v.kind (Some o))
    by_state v unset e q = absurd (none-one n n (reverse c.order) (s.unbound n (some_slot (λ x. x.state) c n v e ∙ ap Some q)) i refl)
    by_state v (link m) e q = (let is = some_slot (λ x. x.state) c n v e ∙ ap Some q in rw is at (h.values n))
    by_state v (known t) e q = (let is = some_slot (λ x. x.state) c n v e ∙ ap Some q in rw is at (h.values n))

    by_slot : (o : Option Slot) → slice_get c.slots n ≡ o → w.tree n ≡ inst w (value_at c n)
    by_slot None e = absurd (slice_get_some c.slots n (s.ordered n i) e)
    by_slot (Some v) e = rw e (by_state v v.state e refl)

-- a resolved tree means what the tree means
pub inst-resolved : (c : Content) (w : World) (t : Tree) → IsSound c → Solves c w → inst w (resolved c t) ≡ inst w t
inst-resolved c w t s h = inst-values w (value_at c) (reverse c.order) t (λ n i. tree-value c w n s h i)

inst-rooted_variable : (c : Content) (w : World) (o : Option (VariableKind × ℕ)) (l : Label) (x y : Tree) → Solves c w → variable_of l ≡ o → inst w x ≡ inst w y → inst w (node (rooted_variable c o l) x) ≡ inst w (node l y)
inst-rooted_variable c w None l x y h e q = inst-same_label w l x y q
inst-rooted_variable c w (Some (kind.Ty, n)) l x y h e q = inst-same_label w l x y q
inst-rooted_variable c w (Some (kind.Int, n)) l x y h e q = inst-same_label w l x y q
inst-rooted_variable c w (Some (kind.Float, n)) l x y h e q = inst-same_label w l x y q
inst-rooted_variable c w (Some (kind.Const, n)) l x y h e q = inst-same_label w l x y q
inst-rooted_variable c w (Some (kind.Region, n)) l x y h e q = sym (tree-root_of c w n h) ∙ sym (inst-variable w l y kind.Region n e)

inst-rooted : (c : Content) (w : World) (t : Tree) → Solves c w → inst w (rooted c t) ≡ inst w t
inst-rooted c w empty h = refl
inst-rooted c w (more a b) h = cc (inst-rooted c w a h, inst-rooted c w b h)
inst-rooted c w (node l t) h = inst-rooted_variable c w (variable_of l) l (rooted c t) t h refl (inst-rooted c w t h)

pub inst-deeply_resolved : (c : Content) (w : World) (t : Tree) → IsSound c → Solves c w → inst w (deeply_resolved c t) ≡ inst w t
inst-deeply_resolved c w t s h = inst-rooted c w (resolved c t) h ∙ inst-resolved c w t s h

-- trees that are one mean one
pub inst-one : (c : Content) (w : World) (a b : Tree) → IsSound c → Solves c w → AreOne c a b → inst w a ≡ inst w b
inst-one c w a b s h e = sym (inst-deeply_resolved c w a s h) ∙ ap (inst w) e ∙ inst-deeply_resolved c w b s h
