-- The originals are values for the positions of a canonical form.
use Rattle.std.proofs.Common.{◌≡◌, ◌<◌, Bool, true, false, List, [], ◌∷◌, map, length, inl, inr, refl, ap, subst, sym, arith}
use Rattle.std.specs.Prelude.{Some}
use Rattle.nts_model.specs.declared.labels.Leaf.{Leaf}
use Rattle.nts_model.specs.declared.labels.BoundVarIndexKind.TheVariants as index
use Rattle.nts_model.specs.declared.labels.Label.{Label}
use Rattle.nts_model.specs.declared.labels.Label.TheVariants as label
use Rattle.nts_model.specs.Terms.Trees.{Tree, empty, more, node, any_label, is_canonical, kind_of, sort_of_leaf}
use Rattle.nts_model.specs.Terms.Substitutions.{leaf_tree, put, replace}
use Rattle.nts_model.specs.Lists.{Among}
use Rattle.nts_model.specs.Canonical.Numbered.{number, numbered_leaf, no_leaf}
use Rattle.nts_model.specs.Canonical.Inputs.{Input, CanonicalInput as Form, is_static, after_environment, after_predicate, originals, canonical_of, whole, whole_of}
use Rattle.nts_model.proofs.Terms.Listed.{either, tell, same-yes, differ, original}
use Rattle.nts_model.proofs.Canonical.Numbering.{extends-self, extends-trans, extends-seen, first_none, rest_none}
use Rattle.nts_store.specs.Filled.{HasValue, HasValues}
use Rattle.nts_canonicalizer.specs.Collecting.{IsLabelRead, IsRead}
use Rattle.nts_canonicalizer.proofs.Gathering.{read-seen}
use Rattle.nts_canonicalizer.proofs.Canonizing.{numbered-environment, numbered-predicate, numbered-hidden}
use Rattle.nts_model.proofs.Terms.Unpositioned.{or_false}

number-within : (u : List Leaf) (x : Leaf) → Among u x → number u x < length u
number-within [] x h = elim h [ ]
number-within (y ∷ u) x h =
    elim (tell x y) [
      | inl p ↦ rw (same-yes x y p) (omega arith)
      | inr e ↦ rw e (let n = number-within u x (elim h [ inl p ↦ absurd (differ x y e p) | inr q ↦ q ]) in omega (arith, n))
    ]

length-leaves : (u : List Leaf) → length (map leaf_tree u) ≡ length u
length-leaves [] = refl
length-leaves (x ∷ u) = omega (arith, length-leaves u)

has_value : (u : List Leaf) (x : Leaf) → Among u x → HasValue (Some (number u x)) (map leaf_tree u) (label.Bound (sort_of_leaf x) index.Canonical (number u x))
has_value u x h = (omega (arith, number-within u x h, length-leaves u), ap kind_of (original u x h))

has_values-leaf : (stays : Leaf → Bool) (u : List Leaf) (x : Leaf) → (stays x ≡ false → Among u x) → HasValues (map leaf_tree u) (numbered_leaf stays u x)
has_values-leaf stays u x h = elim (either (stays x)) [ inl e ↦ rw e (tt, tt) | inr e ↦ rw e (has_value u x (h e), tt) ]

has_values-node : (stays : Leaf → Bool) (u : List Leaf) (A : Type 0) (l : Label) (d : Tree) → is_canonical l ≡ false → (A → HasValues (map leaf_tree u) d) → IsLabelRead stays u l A → HasValues (map leaf_tree u) (put (numbered_leaf stays u) l d)
has_values-node stays u A (label.Leaf x) d n f h = has_values-leaf stays u x h
has_values-node stays u A (label.Bound s (index.Bound k) i) d n f h = (tt, f h)
has_values-node stays u A (label.Bound s index.Canonical i) d n f h = absurd (let c : true ≡ false = n in cc)
has_values-node stays u A (label.Ty x) d n f h = (tt, f h)
has_values-node stays u A (label.Const x) d n f h = (tt, f h)
has_values-node stays u A (label.Clause x) d n f h = (tt, f h)
has_values-node stays u A (label.Predicate x) d n f h = (tt, f h)
has_values-node stays u A (label.List x) d n f h = (tt, f h)

has_values-numbered : (stays : Leaf → Bool) (u : List Leaf) (t : Tree) → any_label is_canonical t ≡ false → IsRead stays u t → HasValues (map leaf_tree u) (replace (numbered_leaf stays u) t)
has_values-numbered stays u empty n h = tt
has_values-numbered stays u (more a b) n h = (has_values-numbered stays u a (first_none a b n) h.0, has_values-numbered stays u b (rest_none a b n) h.1)
has_values-numbered stays u (node l c) n h =
    let w = or_false (is_canonical l) (any_label is_canonical c) n in
    has_values-node stays u (IsRead stays u c) l (replace (numbered_leaf stays u) c) w.0 (has_values-numbered stays u c w.1) h

pub originals_are_values : (i : Input) → any_label is_canonical (whole i) ≡ false → HasValues (map leaf_tree (originals i)) (whole_of (canonical_of i))
originals_are_values i n =
    let u = originals i in
    let vs = map leaf_tree u in
    let others = rest_none i.environment (more i.predicate (more i.hidden empty)) n in
    let last = rest_none i.predicate (more i.hidden empty) others in
    let env = read-seen is_static [] i.environment u (extends-trans (extends-seen no_leaf (after_environment i) i.predicate) (extends-seen no_leaf (after_predicate i) i.hidden)) in
    let pred = read-seen no_leaf (after_environment i) i.predicate u (extends-seen no_leaf (after_predicate i) i.hidden) in
    let hid = read-seen no_leaf (after_predicate i) i.hidden u (extends-self u) in (
      subst (HasValues vs) (sym (numbered-environment i)) (has_values-numbered is_static u i.environment (first_none i.environment (more i.predicate (more i.hidden empty)) n) env),
      (
        subst (HasValues vs) (sym (numbered-predicate i)) (has_values-numbered no_leaf u i.predicate (first_none i.predicate (more i.hidden empty) others) pred),
        (
          subst (HasValues vs) (sym (numbered-hidden i)) (has_values-numbered no_leaf u i.hidden (first_none i.hidden empty last) hid),
          tt,
        ),
      ),
    )

-- .. whatever terms stand for them
pub values_of : {c d : Form} {vs ws : List Tree} → HasValues vs (whole_of c) → d ≡ c → ws ≡ vs → HasValues ws (whole_of d)
values_of {c} {d} {vs} {ws} h e p = subst (λ z. HasValues z (whole_of d)) (sym p) (subst (λ z. HasValues vs (whole_of z)) (sym e) h)
