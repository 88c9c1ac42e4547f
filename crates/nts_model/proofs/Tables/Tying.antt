-- New variables that are one with variables that the table had.
use Rattle.std.proofs.Common.{◌≡◌, ◌≢◌, ⊎_elim, ℕ, zero, suc, ◌<◌, ◌≤◌, List, [], ◌∷◌, length, Some, refl, sym, ◌∙◌, arith}
use Rattle.std.proofs.lemmas.Bool.{cases_lt}
use Rattle.nts_model.specs.declared.labels.VariableKind.{VariableKind}
use Rattle.nts_model.specs.declared.labels.VariableKind.TheVariants as kind
use Rattle.nts_model.specs.Tables.Contents.{Content, Slot, kind_at}
use Rattle.nts_model.specs.Terms.Trees.{variable_tree}
use Rattle.nts_model.specs.Tables.Holding.{AreOne, Continues}
use Rattle.nts_model.specs.Tables.Tying.{TiesNew}
use Rattle.nts_model.proofs.Tables.Slots.{field_below}
use Rattle.nts_model.proofs.Tables.Held.{AreOne-continues}

-- each variable of a table has a kind
pub has_kind : (c : Content) (n : ℕ) → n < length c.slots → (k : VariableKind) × (kind_at c n ≡ Some k)
has_kind c n h = by_list c.slots n h
  where
    by_list : (vs : List Slot) (m : ℕ) → m < length vs → (k : VariableKind) × (kind_at (record c { slots = vs }) m ≡ Some k)
    by_list [] m l = absurd (omega arith)
    by_list (v ∷ vs) zero l = (v.kind, refl)
    by_list (v ∷ vs) (suc m) l = by_list vs m (omega arith)

-- .. and had it before, where kinds stay
pub kind_before : (c d : Content) (n : ℕ) (k : VariableKind) → ((m : ℕ) (j : VariableKind) → kind_at c m ≡ Some j → kind_at d m ≡ Some j) → n < length c.slots → kind_at d n ≡ Some k → kind_at c n ≡ Some k
kind_before c d n k kinds below h =
    let has = has_kind c n below in
    let same : Some has.0 ≡ Some k = sym (kinds n has.0 has.1) ∙ h in
    has.1 ∙ same

-- a variable of the first table that is one with the variable in the second
abbrev pub IsTied : Content → Content → ℕ → VariableKind → Type 0
IsTied c d n k = (m : ℕ) × (m < length c.slots) × (kind_at d m ≡ Some k) × AreOne d (variable_tree k n) (variable_tree k m)

-- no variable is new
pub TiesNew-same : (c d : Content) → length d.slots ≡ length c.slots → TiesNew c d
TiesNew-same c d e =
    record { tied = λ n k l h r. let below = field_below (λ x. x.kind) d n k h in absurd (omega (arith, below, l, e)) }

-- one after the other
pub TiesNew-trans : (c d e : Content) → Continues d e → TiesNew c d → TiesNew d e → TiesNew c e
TiesNew-trans c d e s a b = record { tied = λ n k l h r. by_case n k l h r }
  where
    older : (n : ℕ) (k : VariableKind) → length c.slots ≤ n → n < length d.slots → kind_at e n ≡ Some k → k ≢ kind.Region → IsTied c e n k
    older n k l below h r =
        let has : kind_at d n ≡ Some k = kind_before d e n k s.kinds below h in
        let t = a.tied n k l has r in
        (t.0, t.1, s.kinds t.0 k t.2, AreOne-continues d e (variable_tree k n) (variable_tree k t.0) s ((has, tt, refl), tt, tt) ((t.2, tt, refl), tt, tt) t.3)

    newer : (n : ℕ) (k : VariableKind) → length d.slots ≤ n → kind_at e n ≡ Some k → k ≢ kind.Region → IsTied c e n k
    newer n k l h r =
        let t = b.tied n k l h r in
        ⊎_elim
        (λ (old : t.0 < length c.slots). (t.0, old, t.2, t.3))
        (λ (new : length c.slots ≤ t.0). let u = older t.0 k new t.1 t.2 r in (u.0, u.1, u.2, t.3 ∙ u.3)) (cases_lt t.0 (length c.slots))

    by_case : (n : ℕ) (k : VariableKind) → length c.slots ≤ n → kind_at e n ≡ Some k → k ≢ kind.Region → IsTied c e n k
    by_case n k l h r =
        ⊎_elim
        (λ (old : n < length d.slots). older n k l old h r)
        (λ (new : length d.slots ≤ n). newer n k new h r) (cases_lt n (length d.slots))
