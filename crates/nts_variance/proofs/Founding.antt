-- Variables that are made for older ones.
use Rattle.std.proofs.Common.{◌≡◌, ◌≢◌, ⊎_elim, ℕ, ◌≤◌, ◌<◌, length, length-append, [], ◌∷◌, Some, refl, sym, ap, ◌∙◌, arith}
use Rattle.nts_model.specs.declared.labels.VariableKind.{VariableKind}
use Rattle.nts_model.specs.declared.labels.VariableKind.TheVariants as kind
use Rattle.nts_model.specs.Terms.Trees.{variable_tree}
use Rattle.nts_model.specs.Tables.Contents.{Content, Slot, kind_at, sub_link_of, with_slot}
use Rattle.nts_model.specs.Tables.Resolving.{Knows}
use Rattle.nts_model.specs.Tables.SubUnifying.{linked}
use Rattle.nts_model.specs.Tables.Holding.{Continues}
use Rattle.nts_model.specs.Tables.Tying.{TiesNew}
use Rattle.nts_model.proofs.Tables.Held.{AreOne-continues}
use Rattle.nts_model.proofs.Tables.Slots.{field_below, field-with_slot_new}
use Rattle.nts_model.proofs.Tables.Tying.{TiesNew-same, kind_before}
use Rattle.nts_variance.specs.Walking.{IsTableGrown}
use Rattle.nts_variance.specs.SubRoots.{was, AreAkin, shared, one, by_way, FoundsVariables}
use Rattle.nts_variance.proofs.SubRoots.{either_place}

-- in later tables
knows_variable : (c : Content) (n : ℕ) (k : VariableKind) → kind_at c n ≡ Some k → Knows c (variable_tree k n)
knows_variable c n k h = ((h, tt, refl), tt, tt)

akin_later : {d e : Content} {n m : ℕ} → IsTableGrown d e → Continues d e → AreAkin d n m → AreAkin e n m
akin_later {n = n} {m = m} g on (shared h) = (let s = g.subs in shared (s.all n m (was h)))
akin_later {d} {e} {n} {m} g on (one {k = k} h i q) = one (g.kinds n k h) (g.kinds m k i) (AreOne-continues d e (variable_tree k n) (variable_tree k m) on (knows_variable d n k h) (knows_variable d m k i) q)
akin_later g on (by_way h i) = by_way (akin_later g on h) (akin_later g on i)

-- new variables that are one with older ones
pub founds_tied : (c d : Content) → ((n : ℕ) (k : VariableKind) → kind_at c n ≡ Some k → kind_at d n ≡ Some k) → TiesNew c d → FoundsVariables c d
founds_tied c d kinds ties =
    record { founded = λ n k i has fits. (let t = ties.tied n k i has fits in (t.0, kind_before c d t.0 k kinds t.1 t.2, one has t.2 t.3)) }

pub founds_none : (c : Content) → FoundsVariables c c
founds_none c = founds_tied c c (λ n k h. h) (TiesNew-same c c refl)

-- one more variable
last_slot : (c : Content) (s : Slot) (n : ℕ) (k : VariableKind) → length c.slots ≤ n → kind_at (with_slot c s) n ≡ Some k → n ≡ length c.slots
last_slot c s n k i has = omega (arith, i, field_below (λ x. x.kind) (with_slot c s) n k has, length-append c.slots (s ∷ []))

last_kind : (c : Content) (s : Slot) (n : ℕ) (k : VariableKind) → length c.slots ≤ n → kind_at (with_slot c s) n ≡ Some k → s.kind ≡ k
last_kind c s n k i has = (let same : Some s.kind ≡ Some k = sym (field-with_slot_new (λ x. x.kind) c s) ∙ ap (kind_at (with_slot c s)) (sym (last_slot c s n k i has)) ∙ has in cc)

-- .. of a class
pub founds_slot : (c : Content) (s : Slot) (m : ℕ) → kind_at c m ≡ Some s.kind → s.sub_link ≡ Some m → FoundsVariables c (with_slot c s)
founds_slot c s m old link =
    let d = with_slot c s in
    record {
      founded = λ n k i has fits. (
        m,
        old ∙ ap Some (last_kind c s n k i has),
        shared (linked (ap (sub_link_of d) (last_slot c s n k i has) ∙ field-with_slot_new (λ x. x.sub_link) c s ∙ ap Some link)),
      );
    }

-- .. that is a region
pub founds_region : (c : Content) (s : Slot) → s.kind ≡ kind.Region → FoundsVariables c (with_slot c s)
founds_region c s region = record { founded = λ n k i has fits. absurd (fits (sym (last_kind c s n k i has) ∙ region)) }

-- one step after another
pub founds_then : (c d e : Content) → IsTableGrown c d → IsTableGrown d e → Continues d e → FoundsVariables c d → FoundsVariables d e → FoundsVariables c e
founds_then c d e first g on a b =
    let newer : (m : ℕ) (k : VariableKind) → length c.slots ≤ m → kind_at d m ≡ Some k → k ≢ kind.Region → (l : ℕ) × (kind_at c l ≡ Some k) × AreAkin e m l = λ m k i has fits. (let x = a.founded m k i has fits in (x.0, x.1, akin_later g on x.2)) in
    let older : (n m : ℕ) (k : VariableKind) → kind_at d m ≡ Some k → k ≢ kind.Region → AreAkin e n m → (l : ℕ) × (kind_at c l ≡ Some k) × AreAkin e n l =
    λ n m k has fits h. ⊎_elim (λ (l : m < length c.slots). (m, kind_before c d m k first.kinds l has, h))
    (λ (l : length c.slots ≤ m). (let x = newer m k l has fits in (x.0, x.1, by_way h x.2))) (either_place m (length c.slots)) in
    record {
      founded = λ n k i has fits. ⊎_elim (λ (l : n < length d.slots). newer n k i (kind_before d e n k g.kinds l has) fits)
          (λ (l : length d.slots ≤ n). (let x = b.founded n k l has fits in older n x.0 k x.1 fits x.2)) (either_place n (length d.slots));
    }
