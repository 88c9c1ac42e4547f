-- Changes of a table's entries that bring no labels but those of given trees.
use Rattle.std.proofs.Common.{◌≡◌, ⊎_elim, ℕ, min, max, List, refl, ap, ◌∙◌, arith}
use Rattle.nts_model.specs.Terms.Trees.{Tree}
use Rattle.nts_model.specs.Tables.Contents.{Content, changed}
use Rattle.nts_model.specs.Tables.Passing.{BringsLabelsOf, BringsNoLabels}
use Rattle.nts_model.proofs.Tables.Slots.{slice_get_below, slice_get-slice_set_other, field-changed_same, field-changed_other, field-changed_kept}
use Rattle.nts_model.proofs.Tables.Bringing.{brings-refl, brings-linked, brings-with_slot, brings-with_constraint}
use Rattle.nts_terms.specs.nts_store.specs.Growth.{tree_at}
use Rattle.nts_unify.specs.declared.contents.State.TheVariants.{Unset, Link}
use Rattle.nts_unify.specs.declared.contents.Variable.{Variable}
use Rattle.nts_unify.specs.declared.contents.Constraint.{Constraint}
use Rattle.nts_unify.specs.Entries.{Entries, added, with_variable, constrained}
use Rattle.nts_unify.specs.Reading.{state_with, slot_of, recorded_of, content_of}
use Rattle.nts_unify.specs.Lawful.{content_of-added, content_of-constrained}
use Rattle.nts_unify.specs.Equating.{RegionsLinked, RegionsJoined}
use Rattle.nts_unify.proofs.Changes.{slot_at, content_of-with_variable}

-- a new variable of which nothing is known
pub new_brings : (ts : List Tree) (e : Entries) (v : Variable) → v.state ≡ Unset → BringsNoLabels (content_of ts e) (content_of ts (added e v))
new_brings ts e v free = rw (content_of-added ts e v) (brings-with_slot (content_of ts e) (slot_of ts v) (ap (state_with ts) free))

-- one more constraint
pub constrained_brings : (ts : List Tree) (e f : Entries) (x : Constraint) → f ≡ constrained e x → BringsLabelsOf (content_of ts e) (content_of ts f) (tree_at ts x.left) (tree_at ts x.right)
constrained_brings ts e f x q = rw (q, content_of-constrained ts e x) (brings-with_constraint (content_of ts e) (recorded_of ts x))

-- two classes of regions that become one
links_bring : (ts : List Tree) (e f : Entries) (r s : ℕ) → RegionsLinked e f r s → BringsNoLabels (content_of ts e) (content_of ts f)
links_bring ts e f r s h =
    let c = content_of ts e in
    let low = min r s in
    let high = max r s in
    let root : Variable = record h.low { universe = min h.low.universe h.high.universe } in
    let linked : Variable = record h.high { state = Link low } in
    let m = with_variable e low root in
    let d = changed c low (slot_of ts root) in
    let is : content_of ts f ≡ changed d high (slot_of ts linked) = ap (content_of ts) h.entries ∙ content_of-with_variable ts m high linked ∙ ap (λ (z : Content). changed z high (slot_of ts linked)) (content_of-with_variable ts e low root) in
    let other : high ≡ low → ⊥ = λ q. h.apart (sides r s q) in
    let there = slice_get_below d.slots high (slot_of ts h.high) (slice_get-slice_set_other c.slots low high (slot_of ts root) other ∙ slot_at ts e high h.high h.high_at) in
    rw is
    (brings-linked c (changed d high (slot_of ts linked)) low high (field-changed_same (λ x. x.state) d high (slot_of ts linked) there)
    (λ n q. field-changed_other (λ x. x.state) d high n (slot_of ts linked) q ∙ field-changed_kept (λ x. x.state) c low n (slot_of ts h.low) (slot_of ts root) (slot_at ts e low h.low h.low_at) refl) refl)
  where
    sides : (x y : ℕ) → max x y ≡ min x y → x ≡ y
    sides x y q = omega (arith, q)

pub joined_bring : (ts : List Tree) (e f : Entries) (x y : ℕ) → RegionsJoined e f x y → BringsNoLabels (content_of ts e) (content_of ts f)
joined_bring ts e f x y j = ⊎_elim
    (λ (p : (j.first ≡ j.second) × (f ≡ e)). rw p.1 (brings-refl (content_of ts e)))
    (λ (p : RegionsLinked e f j.first j.second). links_bring ts e f j.first j.second p) j.joined
