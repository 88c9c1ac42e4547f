-- Terms whose variables and universes a table has.
use Rattle.std.proofs.lemmas.Bool.{or_parts}
use Rattle.std.proofs.Common.{◌≡◌, ◌↔◌, ℕ, zero, suc, ◌+◌, ◌<◌, Bool, false, List, Option, Some, None, refl, sym, ap, ◌∙◌, arith, add-one}
use Rattle.std.specs.Prelude.{Result, Ok, Err, IfOk, IsTrue}
use Rattle.nts_model.specs.declared.labels.VariableKind.{VariableKind}
use Rattle.nts_model.specs.declared.labels.VariableKind.TheVariants as kind
use Rattle.nts_model.specs.declared.labels.Leaf.TheVariants as leaf
use Rattle.nts_model.specs.declared.labels.Label.{Label}
use Rattle.nts_model.specs.declared.labels.Label.TheVariants as label
use Rattle.nts_model.specs.Terms.Trees.{Tree, empty, more, node, row_length, row_at, IsRow, any_label, is_infer, is_region_infer, is_placeholder, is_placeholder_constant, is_canonical, variable_of}
use Rattle.nts_model.specs.Tables.Contents.{Content}
use Rattle.nts_model.specs.Tables.Resolving.{KnowsLeaves, Knows, KnowsVariable}
use Rattle.nts_model.specs.Terms.Scoping.{IsWellBound}
use Rattle.nts_model.proofs.Terms.Unpositioned.{leaves_known}
use Rattle.nts_model.specs.Tables.Passing.{AllLabels}
use Rattle.nts_unify.specs.Entries.{Entries}
use Rattle.nts_unify.specs.Reading.{content_of}
use Rattle.nts_unify.specs.Knowing.{HasNamed, IsNamed, row_from}
use Rattle.nts_unify.proofs.Leading.{kind_within, kind_at-entry, entry_at}
use Rattle.nts_model.specs.declared.labels.FreeRegion.TheVariants as region
use Rattle.nts_model.specs.declared.labels.Constant.{Constant}
use Rattle.nts_model.specs.declared.labels.Constant.TheVariants as constant
use Rattle.nts_model.specs.Terms.Placeholders.{CanName, constant_level, leaf_level}

pub row_from-end : (r : Tree) → IsRow r → row_from (row_length r) r ≡ empty
row_from-end empty h = refl
row_from-end (more a b) h = rw add-one (row_from-end b h)
row_from-end (node l x) h = absurd h

pub row_from-step : (r : Tree) (i : ℕ) → i < row_length r → row_from i r ≡ more (row_at r i) (row_from (i + 1) r)
row_from-step empty i h = absurd (omega arith)
row_from-step (more a b) zero h = refl
row_from-step (more a b) (suc i) h =
    let e : suc i + 1 ≡ suc (i + 1) = omega arith in rw e (row_from-step b i (omega arith))
row_from-step (node l x) i h = absurd (omega arith)

no_variable : (c : Content) (l : Label) → is_infer l ≡ false → is_region_infer l ≡ false → KnowsVariable c (variable_of l)
no_variable c (label.Leaf (leaf.Variable kind.Ty n)) e h = cc
no_variable c (label.Leaf (leaf.Variable kind.Int n)) e h = cc
no_variable c (label.Leaf (leaf.Variable kind.Float n)) e h = cc
no_variable c (label.Leaf (leaf.Variable kind.Const n)) e h = cc
no_variable c (label.Leaf (leaf.Variable kind.Region n)) e h = cc
no_variable c (label.Leaf (leaf.Region r)) e h = tt
no_variable c (label.Leaf (leaf.TyConstant a)) e h = tt
no_variable c (label.Leaf (leaf.ConstConstant a)) e h = tt
no_variable c (label.Bound a b d) e h = tt
no_variable c (label.Ty k) e h = tt
no_variable c (label.Const k) e h = tt
no_variable c (label.Clause k) e h = tt
no_variable c (label.Predicate k) e h = tt
no_variable c (label.List k) e h = tt

no_constant : (u : ℕ) (a : Constant) → is_placeholder_constant a ≡ false → CanName u (constant_level a)
no_constant u (constant.Placeholder v n) e = cc
no_constant u (constant.Param n) e = tt

no_placeholder : (u : ℕ) (l : Label) → is_placeholder l ≡ false → CanName u (leaf_level l)
no_placeholder u (label.Leaf (leaf.Variable k n)) e = tt
no_placeholder u (label.Leaf (leaf.Region (region.Placeholder v n))) e = cc
no_placeholder u (label.Leaf (leaf.Region region.Static)) e = tt
no_placeholder u (label.Leaf (leaf.Region region.Erased)) e = tt
no_placeholder u (label.Leaf (leaf.Region region.Error)) e = tt
no_placeholder u (label.Leaf (leaf.Region (region.EarlyParam n))) e = tt
no_placeholder u (label.Leaf (leaf.Region (region.LateParam n))) e = tt
no_placeholder u (label.Leaf (leaf.TyConstant a)) e = no_constant u a e
no_placeholder u (label.Leaf (leaf.ConstConstant a)) e = no_constant u a e
no_placeholder u (label.Bound a b d) e = tt
no_placeholder u (label.Ty k) e = tt
no_placeholder u (label.Const k) e = tt
no_placeholder u (label.Clause k) e = tt
no_placeholder u (label.Predicate k) e = tt
no_placeholder u (label.List k) e = tt

-- the leaves of a tree without variables and placeholders
pub leaves-none : (c : Content) (t : Tree) → any_label is_infer t ≡ false → any_label is_region_infer t ≡ false → any_label is_placeholder t ≡ false → KnowsLeaves c t
leaves-none c empty e h f = tt
leaves-none c (more a b) e h f =
    let r = or_parts (any_label is_placeholder a) (any_label is_placeholder b) f in
    let p = or_parts (any_label is_infer a) (any_label is_infer b) e in
    let q = or_parts (any_label is_region_infer a) (any_label is_region_infer b) h in
    (leaves-none c a p.0 q.0 r.0, leaves-none c b p.1 q.1 r.1)
leaves-none c (node l x) e h f =
    let r = or_parts (is_placeholder l) (any_label is_placeholder x) f in
    let p = or_parts (is_infer l) (any_label is_infer x) e in
    let q = or_parts (is_region_infer l) (any_label is_region_infer x) h in
    ((no_variable c l p.0 q.0, no_placeholder c.universe l r.0), leaves-none c x p.1 q.1 r.1)

-- a tree without variables, placeholders and positions of canonical values that lists what it binds
pub Knows-none : (c : Content) (t : Tree) → any_label is_infer t ≡ false → any_label is_region_infer t ≡ false → any_label is_placeholder t ≡ false → any_label is_canonical t ≡ false → IsWellBound t → Knows c t
Knows-none c t e h f i w = leaves_known c t (leaves-none c t e h f) i w

-- a variable that the table has is known, and the other way round
pub named_known : (ts : List Tree) (e : Entries) (o : Option (VariableKind × ℕ)) → HasNamed e o → KnowsVariable (content_of ts e) o
named_known ts e None h = tt
named_known ts e (Some v) h = kind_at-entry ts e v.1 h.variable h.at ∙ ap Some h.of_kind

pub known_named : (ts : List Tree) (e : Entries) (o : Option (VariableKind × ℕ)) → KnowsVariable (content_of ts e) o → HasNamed e o
known_named ts e None h = tt
known_named ts e (Some v) h =
    let p = entry_at e.variables v.1 (kind_within ts e v.1 v.0 h) in
    let z : Some p.0.kind ≡ Some v.0 = sym (kind_at-entry ts e v.1 p.0 p.1) ∙ h in
    record { variable = p.0; at = p.1; of_kind = cc }

-- all labels of a tree are of the table
pub labels_known : (ts : List Tree) (e : Entries) (t : Tree) → AllLabels (IsNamed e) t → KnowsLeaves (content_of ts e) t
labels_known ts e empty h = tt
labels_known ts e (more a b) h = (labels_known ts e a h.0, labels_known ts e b h.1)
labels_known ts e (node l x) h = (let k = h.0 in (named_known ts e (variable_of l) k.variable, k.level), labels_known ts e x h.1)

pub known_labels : (ts : List Tree) (e : Entries) (t : Tree) → Knows (content_of ts e) t → AllLabels (IsNamed e) t
known_labels ts e empty h = tt
known_labels ts e (more a b) h = (known_labels ts e a h.0, known_labels ts e b h.1)
known_labels ts e (node l x) h = (record { variable = known_named ts e (variable_of l) h.0.0; level = h.0.1 }, known_labels ts e x h.1)

-- a test of one fact is a test of another that holds where it does
pub if_both : {E P Q : Type 0} (r : Result Bool E) → (P → Q) → (Q → P) → IfOk r (λ b. IsTrue b ↔ P) → IfOk r (λ b. IsTrue b ↔ Q)
if_both (Ok b) to from h = ((λ z. to (h.0 z)), λ q. h.1 (from q))
if_both (Err e) to from h = tt
