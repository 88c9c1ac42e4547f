-- A tree that names no position is left as it is.
use Rattle.std.proofs.Common.{◌≡◌, ◌||◌, not, Bool, true, false, List, None, refl, sym, ap, ◌∙◌}
use Rattle.nts_model.specs.declared.labels.Label.{Label}
use Rattle.nts_model.specs.declared.labels.Label.TheVariants as label
use Rattle.nts_model.specs.declared.labels.BoundVarIndexKind.TheVariants as index
use Rattle.nts_model.specs.Terms.Trees.{Tree, empty, more, node, any_label, is_canonical}
use Rattle.nts_store.specs.declared.type_flags.TypeFlags.{TypeFlags}
use Rattle.nts_store.specs.TypeFlags.{flags_of}
use Rattle.nts_model.specs.Terms.Substitutions.{filled, position_of}

pub both_false : (p q : Bool) → (p || q) ≡ false → (p ≡ false) × (q ≡ false)
both_false true q h = cc
both_false false q h = (refl, h)

no_position : (l : Label) → is_canonical l ≡ false → position_of l ≡ None
no_position (label.Leaf l) h = refl
no_position (label.Bound s (index.Bound d) i) h = refl
no_position (label.Bound s index.Canonical i) h = cc
no_position (label.Ty t) h = refl
no_position (label.Const k) h = refl
no_position (label.Clause k) h = refl
no_position (label.Predicate p) h = refl
no_position (label.List k) h = refl

filled-none : (values : List Tree) (t : Tree) → any_label is_canonical t ≡ false → filled values t ≡ t
filled-none values empty h = refl
filled-none values (more a b) h =
    let w = both_false (any_label is_canonical a) (any_label is_canonical b) h in
    cc (filled-none values a w.0, filled-none values b w.1)
filled-none values (node l c) h =
    let w = both_false (is_canonical l) (any_label is_canonical c) h in
    let none = no_position l w.0 in
    rw none (ap (node l) (filled-none values c w.1))

pub from_not : (b : Bool) → not b ≡ true → b ≡ false
from_not true h = cc
from_not false h = refl

pub filled-known : (values : List Tree) (t : Tree) (f : TypeFlags) → f ≡ flags_of t → not f.has_canonical ≡ true → t ≡ filled values t
filled-known values t f e h =
    let none : any_label is_canonical t ≡ false = sym (ap (λ g. g.has_canonical) e) ∙ from_not f.has_canonical h in
    sym (filled-none values t none)
