-- A tree without leaves is left as it is.
use Rattle.std.proofs.Common.{◌≡◌, ◌||◌, Bool, true, false, List, refl, sym, ap, ◌∙◌}
use Rattle.nts_model.specs.declared.labels.Leaf.{Leaf}
use Rattle.nts_model.specs.declared.labels.Label.{Label}
use Rattle.nts_model.specs.declared.labels.Label.TheVariants as label
use Rattle.nts_model.specs.Terms.Trees.{Tree, empty, more, node, any_label}
use Rattle.nts_model.specs.Terms.Substitutions.{put, replace}
use Rattle.nts_model.specs.Canonical.Numbered.{seen_node, seen}
use Rattle.nts_store.specs.declared.type_flags.TypeFlags.{TypeFlags}
use Rattle.nts_store.specs.TypeFlags.{flags_of, is_leaf}

pub both_false : (p q : Bool) → (p || q) ≡ false → (p ≡ false) × (q ≡ false)
both_false true q h = absurd (let f : true ≡ false = h in cc)
both_false false q h = (refl, h)

put-leafless : (f : Leaf → Tree) (l : Label) (c : Tree) → is_leaf l ≡ false → put f l c ≡ node l c
put-leafless f (label.Leaf x) c e = absurd (let g : true ≡ false = e in cc)
put-leafless f (label.Bound o b n) c e = refl
put-leafless f (label.Ty x) c e = refl
put-leafless f (label.Const x) c e = refl
put-leafless f (label.Clause x) c e = refl
put-leafless f (label.Predicate x) c e = refl
put-leafless f (label.List x) c e = refl

replace-leafless : (f : Leaf → Tree) (t : Tree) → any_label is_leaf t ≡ false → replace f t ≡ t
replace-leafless f empty e = refl
replace-leafless f (more a b) e =
    let h = both_false (any_label is_leaf a) (any_label is_leaf b) e in cc (replace-leafless f a h.0, replace-leafless f b h.1)
replace-leafless f (node l c) e =
    let h = both_false (is_leaf l) (any_label is_leaf c) e in
    put-leafless f l (replace f c) h.0 ∙ ap (node l) (replace-leafless f c h.1)

-- .. as what a node keeps of it says
pub leafless : (t : Tree) (f : TypeFlags) → f ≡ flags_of t → f.has_leaf ≡ false → any_label is_leaf t ≡ false
leafless t f e h = sym (ap (λ g. g.has_leaf) e) ∙ h

pub replace-known : (r : Leaf → Tree) (t : Tree) (f : TypeFlags) → f ≡ flags_of t → f.has_leaf ≡ false → t ≡ replace r t
replace-known r t f e h = sym (replace-leafless r t (leafless t f e h))

-- .. and adds no leaf
seen_node-leafless : (stays : Leaf → Bool) (s inside : List Leaf) (l : Label) → is_leaf l ≡ false → seen_node stays s l inside ≡ inside
seen_node-leafless stays s i (label.Leaf x) e = absurd (let g : true ≡ false = e in cc)
seen_node-leafless stays s i (label.Bound o b n) e = refl
seen_node-leafless stays s i (label.Ty x) e = refl
seen_node-leafless stays s i (label.Const x) e = refl
seen_node-leafless stays s i (label.Clause x) e = refl
seen_node-leafless stays s i (label.Predicate x) e = refl
seen_node-leafless stays s i (label.List x) e = refl

seen-leafless : (stays : Leaf → Bool) (s : List Leaf) (t : Tree) → any_label is_leaf t ≡ false → seen stays s t ≡ s
seen-leafless stays s empty e = refl
seen-leafless stays s (more a b) e =
    let h = both_false (any_label is_leaf a) (any_label is_leaf b) e in
    ap (λ (z : List Leaf). seen stays z b) (seen-leafless stays s a h.0) ∙ seen-leafless stays s b h.1
seen-leafless stays s (node l c) e =
    let h = both_false (is_leaf l) (any_label is_leaf c) e in
    seen_node-leafless stays s (seen stays s c) l h.0 ∙ seen-leafless stays s c h.1

pub seen-known : (stays : Leaf → Bool) (s : List Leaf) (t : Tree) (f : TypeFlags) → f ≡ flags_of t → f.has_leaf ≡ false → s ≡ seen stays s t
seen-known stays s t f e h = sym (seen-leafless stays s t (leafless t f e h))
