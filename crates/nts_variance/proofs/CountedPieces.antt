-- What is made at once for a part, counted: a fresh variable, the part itself, and a value.
use Rattle.std.proofs.Common.{◌≡◌, ◌≢◌, ◌⊎◌, ⊎_elim, ℕ, ◌+◌, Bool, true, false, [], length, Option, Some, None, refl, sym, ap, ◌∙◌, subst, arith}
use Rattle.std.specs.Prelude.{◌||◌, ◌&&◌}
use Rattle.std.proofs.lemmas.Bool.{or_parts}
use Rattle.nts_model.specs.declared.labels.Variance.{Variance}
use Rattle.nts_model.specs.declared.labels.Variance.TheVariants as variance
use Rattle.nts_model.specs.declared.labels.VariableKind.{VariableKind}
use Rattle.nts_model.specs.declared.labels.VariableKind.TheVariants as kind
use Rattle.nts_model.specs.declared.labels.Leaf.TheVariants as leaf
use Rattle.nts_model.specs.declared.labels.AliasHead.{AliasHead}
use Rattle.nts_model.specs.declared.labels.AliasHead.TheVariants as alias_of
use Rattle.nts_model.specs.declared.labels.TyHead.TheVariants as ty
use Rattle.nts_model.specs.declared.labels.Label.{Label}
use Rattle.nts_model.specs.declared.labels.Label.TheVariants as label
use Rattle.nts_model.specs.Terms.Trees.{Tree, empty, more, node, any_label, is_alias, in_order, shape, Meets, IsFormed, infer_of, variable_tree}
use Rattle.nts_model.specs.Tables.Contents.{Content, Slot, unset, Recorded, kind_at, with_slot, with_constraint}
use Rattle.nts_model.specs.Tables.Resolving.{IsInfer, resolved, deeply_resolved, Knows, IsSound}
use Rattle.nts_model.specs.Terms.Fitting.{Fits, is_integer, is_float}
use Rattle.nts_model.specs.Terms.Regions.{IsRegion}
use Rattle.nts_model.specs.Derivations.Related.{alias, IsAlias}
use Rattle.nts_model.specs.Tables.Solvable.{IsSolvable}
use Rattle.nts_model.specs.Tables.Measuring.{unless_variable, closed_under, counted, closed_aliases}
use Rattle.nts_model.proofs.Tables.Measuring.{closed_more}
use Rattle.nts_model.proofs.Tables.Slots.{field-with_slot_new}
use Rattle.nts_model.proofs.Tables.Sound.{resolved-same, SameStates-with_constraint, IsSound-with_slot}
use Rattle.nts_model.proofs.Tables.ResolvedTerms.{IsFormed-deeply_resolved, Fits-deeply_resolved}
use Rattle.nts_model.proofs.Terms.Substituting.{no_children}
use Rattle.nts_unify.specs.Changing.{unset_count, unset_of}
use Rattle.nts_unify.proofs.Keeping.{unset-push}
use Rattle.nts_relating.specs.Relating.{Generalized}
use Rattle.nts_relating.proofs.AliasCounts.{closed_true, closed_one, region_none, variable_none, aliases_one, aliases_rooted}
use Rattle.nts_variance.specs.Counting.{IsCountedFor}
use Rattle.nts_variance.proofs.Clean.{resolved_leaf, resolved_unset, holds_terms}
use Rattle.nts_variance.proofs.Counting.{infer_closed, alias_one}

-- a variable is no alias
pub infer_alias : (t : Tree) → IsInfer t → IsAlias t → ⊥
infer_alias t i a = none a.head (subst IsInfer a.is i)
  where
    none : (h : AliasHead) → IsInfer (alias h a.parts) → ⊥
    none (alias_of.Ty n) j = let e = j.1 in cc
    none (alias_of.Const n) j = let e = j.1 in cc

-- a fresh variable has no closed alias
fresh_none : (c : Content) (s : Slot) → s.state ≡ unset → IsSound c → closed_aliases (resolved (with_slot c s) (variable_tree s.kind (length c.slots))) ≡ 0
fresh_none c s free sound =
    let n = length c.slots in
    let stays = resolved_unset (with_slot c s) s.kind n (IsSound-with_slot c s sound free) (field-with_slot_new (λ x. x.state) c s ∙ ap Some free) in
    ap closed_aliases stays ∙ variable_none s.kind n

one_more : (c : Content) (s : Slot) → s.state ≡ unset → (s.kind ≡ kind.Ty) ⊎ (s.kind ≡ kind.Const) → unset_count (with_slot c s).slots ≡ unset_count c.slots + 1
one_more c s free sort =
    let one : unset_of s.kind s.state ≡ 1 = ap (unset_of s.kind) free ∙ ⊎_elim (λ e. ap (λ k. unset_of k unset) e) (λ e. ap (λ k. unset_of k unset) e) sort in
    omega (arith, unset-push c.slots s, one)

none_more : (c : Content) (s : Slot) → s.kind ≡ kind.Region → unset_count (with_slot c s).slots ≡ unset_count c.slots
none_more c s e =
    let none : unset_of s.kind s.state ≡ 0 = ap (λ k. unset_of k s.state) e in
    omega (arith, unset-push c.slots s, none)

-- for a type variable that may vary, or a closed alias
pub counted_fresh : (c : Content) (s : Slot) (v : Variance) (q : Bool) (t : Tree) → s.state ≡ unset → IsSound c → (s.kind ≡ kind.Ty) ⊎ (s.kind ≡ kind.Const) → IsInfer t ⊎ IsAlias t → (IsInfer t → v ≢ variance.Invariant)
    → IsCountedFor c (with_slot c s) v q t (variable_tree s.kind (length c.slots))
counted_fresh c s v q t free sound sort either varies =
    record {
      escapes = λ b h. ⊎_elim (λ i. infer_closed t b i) (λ a. (let k = a.closed in closed_more 0 b t (omega arith) (closed_true 0 t k))) either;
      none = λ e p. fresh_none c s free sound;
      few = λ e p. (let more = one_more c s free sort in ⊎_elim (λ i. absurd (varies i e)) (λ a. (let one = alias_one c t sound a in omega (arith, more, one))) either);
    }

-- for a region, and what it owes
pub counted_region : (c : Content) (s : Slot) (v : Variance) (q : Bool) (t : Tree) → s.state ≡ unset → IsSound c → s.kind ≡ kind.Region → IsRegion t → IsCountedFor c (with_slot c s) v q t (variable_tree s.kind (length c.slots))
counted_region c s v q t free sound sort region =
    record {
      escapes = λ b h. (region_none b t region).0;
      none = λ e p. fresh_none c s free sound;
      few = λ e p. (let same = none_more c s sort in omega (arith, same));
    }

pub counted_recorded : (c d : Content) (x : Recorded) (v : Variance) (q : Bool) (t r : Tree) → IsCountedFor c d v q t r → IsCountedFor c (with_constraint d x) v q t r
counted_recorded c d x v q t r h =
    record {
      escapes = h.escapes;
      none = λ e p. ap closed_aliases (resolved-same d (with_constraint d x) r (SameStates-with_constraint d x)) ∙ h.none e p;
      few = λ e p. h.few e p;
    }

-- the part itself
pub counted_itself : (c : Content) (v : Variance) (q : Bool) (t : Tree) → closed_aliases (resolved c t) ≡ 0 → IsCountedFor c c v q t t
counted_itself c v q t none = record { escapes = λ b h. h; none = λ e p. none; few = λ e p. omega arith }

-- a value
plain_none : (t : Tree) → any_label is_alias t ≡ false → closed_aliases t ≡ 0
plain_none empty e = refl
plain_none (more a b) e =
    let p = or_parts (any_label is_alias a) (any_label is_alias b) e in
    omega (arith, plain_none a p.0, plain_none b p.1)
plain_none (node l t) e =
    let p = or_parts (is_alias l) (any_label is_alias t) e in
    let below : counted (is_alias l && closed_under 0 (node l t)) (closed_aliases t) ≡ 0 =
    ap (λ b. counted (b && closed_under 0 (node l t)) (closed_aliases t)) p.0 ∙ plain_none t p.1 in
    unless_none (infer_of l) (counted (is_alias l && closed_under 0 (node l t)) (closed_aliases t)) below
  where
    unless_none : (o : Option ℕ) (n : ℕ) → n ≡ 0 → unless_variable o 0 n ≡ 0
    unless_none None n h = h
    unless_none (Some m) n h = refl

pub counted_piece : (c d : Content) (x u b : ℕ) (v : Variance) (q : Bool) (t r : Tree) → IsSound d → Knows c t → (q ≡ false → any_label is_alias (resolved c t) ≡ false) → Generalized c d x u b t r → IsCountedFor c d v q t r
counted_piece c d x u b v q t r sound knows plain gen =
    let keeps = gen.keeps in
    let same : closed_aliases (resolved d r) ≡ closed_aliases (resolved c t) = aliases_one d r t gen.alike ∙ ap closed_aliases (keeps.trees t knows) in
    record {
      escapes = λ k h. sym (closed_one d k r t sound gen.alike) ∙ h;
      none = λ e p. same ∙ plain_none (resolved c t) (plain p);
      few = λ e p. (let kept = keeps.unset_kept in omega (arith, kept));
    }

-- a leaf: what it stands for has no children
alone_none : (l : Label) (c : Tree) → (is_alias l ≡ false) × (shape l ≡ in_order []) → IsFormed (node l c) → closed_aliases (node l c) ≡ 0
alone_none l c e f =
    let none : c ≡ empty = no_children c (subst (λ p. Meets p c) e.1 f.0) in
    let plain : any_label is_alias (node l empty) ≡ false = ap (λ b. b || false) e.0 in
    ap (λ x. closed_aliases (node l x)) none ∙ plain_none (node l empty) plain

integer_alone : (l : Label) → is_integer l ≡ true → (is_alias l ≡ false) × (shape l ≡ in_order [])
integer_alone (label.Ty (ty.Int i)) e = (refl, refl)
integer_alone (label.Ty (ty.Uint i)) e = (refl, refl)
integer_alone (label.Leaf (leaf.Variable kind.Int n)) e = (refl, refl)
integer_alone l e = cc

float_alone : (l : Label) → is_float l ≡ true → (is_alias l ≡ false) × (shape l ≡ in_order [])
float_alone (label.Ty (ty.Float i)) e = (refl, refl)
float_alone (label.Leaf (leaf.Variable kind.Float n)) e = (refl, refl)
float_alone l e = cc

number_alone : (k : VariableKind) (t : Tree) → (k ≡ kind.Int) ⊎ (k ≡ kind.Float) → Fits k t → IsFormed t → closed_aliases t ≡ 0
number_alone kind.Int empty e h f = refl
number_alone kind.Int (more a b) e h f = absurd h
number_alone kind.Int (node l c) e h f = alone_none l c (integer_alone l h) f
number_alone kind.Float empty e h f = refl
number_alone kind.Float (more a b) e h f = absurd h
number_alone kind.Float (node l c) e h f = alone_none l c (float_alone l h) f
number_alone kind.Ty t e h f = ⊎_elim (λ p. cc) (λ p. cc) e
number_alone kind.Const t e h f = ⊎_elim (λ p. cc) (λ p. cc) e
number_alone kind.Region t e h f = ⊎_elim (λ p. cc) (λ p. cc) e

pub number_none : (c : Content) (k : VariableKind) (n : ℕ) → (k ≡ kind.Int) ⊎ (k ≡ kind.Float) → IsSound c → IsSolvable c → kind_at c n ≡ Some k → closed_aliases (resolved c (variable_tree k n)) ≡ 0
number_none c k n number sound solvable has =
    let holds = holds_terms c solvable in
    let fits = Fits-deeply_resolved c k n sound holds has in
    let formed = IsFormed-deeply_resolved c (variable_tree k n) sound holds ((has, tt, refl), tt, tt) (tt, tt) in
    sym (aliases_rooted c (resolved c (variable_tree k n))) ∙ number_alone k (deeply_resolved c (variable_tree k n)) number fits formed

pub leaf_none : (c : Content) (l : Label) → infer_of l ≡ None → is_alias l ≡ false → closed_aliases (resolved c (node l empty)) ≡ 0
leaf_none c l e plain = ap closed_aliases (resolved_leaf c l e) ∙ plain_none (node l empty) (ap (λ b. b || false) plain)
