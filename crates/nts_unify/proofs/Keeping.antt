-- What changes of a table keep.
use Rattle.std.proofs.Common.{◌≡◌, ⊎_elim, subst, ◌≢◌, ℕ, zero, suc, ◌+◌, ◌<◌, ◌≤◌, List, [], ◌∷◌, ◌++◌, length, Some, refl, sym, ap, ◌∙◌, arith, None, length-append}
use Rattle.std.specs.Prelude.{slice_get, slice_set, Contains}
use Rattle.std.proofs.lemmas.List.Elements.{Contains-append_cases}
use Rattle.nts_model.specs.declared.labels.VariableKind.{VariableKind}
use Rattle.nts_model.specs.declared.labels.VariableKind.TheVariants as kind
use Rattle.nts_model.specs.Terms.Trees.{Tree, IsClosed}
use Rattle.nts_model.specs.Tables.Contents.{Content, Slot, SlotState, Recorded, kind_at, with_constraint, sub_link_of, unset, link, state_of, with_slot}
use Rattle.nts_model.specs.Tables.Resolving.{Knows}
use Rattle.nts_model.proofs.Lists.{contains_none, first_or_later}
use Rattle.std.proofs.lemmas.Bool.{cases_lt}
use Rattle.nts_model.proofs.Tables.Slots.{Knows-kept, KeepsKinds-with_slot, field_below}
use Rattle.nts_model.proofs.Tables.Tying.{has_kind, kind_before}
use Rattle.nts_model.proofs.Tables.Sound.{SameStates, resolved-same, SameStates-with_constraint}
use Rattle.nts_unify.specs.Changing.{one_unset, unset_of, unset_count, IsSeen, HasClosedSides, IsLater, KeepsKnowing, AddsVisible, nothing_more, one_more}
use Rattle.nts_unify.specs.Entries.{Inner, KeepsHidden}
use Rattle.nts_model.proofs.Tables.SubUnified.{JoinsSubRoots-refl, JoinsSubRoots-trans, JoinsSubRoots-same, JoinsSubRoots-added}
use Rattle.nts_model.specs.Tables.SubUnifying.{JoinsSubRoots}

pub IsLater-refl : (c : Content) → IsLater c c
IsLater-refl c = record { more = omega arith; grows = omega arith; kinds = λ n k h. h; subs = JoinsSubRoots-refl c; visible = nothing_more }

pub AddsVisible-trans : {xs ys zs : List Recorded} → AddsVisible xs ys → AddsVisible ys zs → AddsVisible xs zs
AddsVisible-trans a nothing_more = a
AddsVisible-trans a (one_more x b v) = one_more x (AddsVisible-trans a b) v

pub IsLater-trans : {c d e : Content} → IsLater c d → IsLater d e → IsLater c e
IsLater-trans {c} {d} {e} a b =
    record { more = omega (arith, a.more, b.more); grows = omega (arith, a.grows, b.grows); kinds = λ n k h. b.kinds n k (a.kinds n k h); subs = JoinsSubRoots-trans c d e b.kinds a.subs b.subs; visible = AddsVisible-trans a.visible b.visible }

-- where no variable is new
pub news_none : (c d : Content) → length d.slots ≡ length c.slots → (n : ℕ) (k : VariableKind) → length c.slots ≤ n → kind_at d n ≡ Some k → k ≢ kind.Region → (m : ℕ) × (state_of d n ≡ Some (link m))
news_none c d e n k l h r = let below = field_below (λ x. x.kind) d n k h in absurd (omega (arith, below, l, e))

-- what holds of the constraints that were, and of those that are seen, holds of all
pub sides-added : {xs ys : List Recorded} (P : Recorded → Type 0) → ((x : Recorded) → IsSeen x → P x) → AddsVisible xs ys → ((x : Recorded) → Contains xs x → P x) → (x : Recorded) → Contains ys x → P x
sides-added P new nothing_more old x i = old x i
sides-added P new (one_more {ys} y before seen) old x i =
    ⊎_elim (λ j. sides-added P new before old x j) (λ j. last j) (Contains-append_cases ys (y ∷ []) x i)
  where
    last : Contains (y ∷ []) x → P x
    last j = ⊎_elim (λ e. subst P e (new y seen)) (λ k. absurd (contains_none x k)) (first_or_later y [] x j)

-- no bound variable escapes from what a later table has recorded since
pub closed_later : {c d : Content} → IsLater c d → HasClosedSides c → HasClosedSides d
closed_later l h =
    record {
      left = sides-added (λ x. IsClosed x.left) (λ x s. s.left) l.visible h.left;
      right = sides-added (λ x. IsClosed x.right) (λ x s. s.right) l.visible h.right;
    }

pub closed_same : {c d : Content} → d.constraints ≡ c.constraints → HasClosedSides c → HasClosedSides d
closed_same {c} {d} e h = record { left = λ x i. h.left x (subst (λ xs. Contains xs x) e i); right = λ x i. h.right x (subst (λ xs. Contains xs x) e i) }

-- one more constraint, between closed terms
pub closed_constrained : (c : Content) (x : Recorded) → IsClosed x.left → IsClosed x.right → HasClosedSides c → HasClosedSides (with_constraint c x)
closed_constrained c x l r h =
    record { left = by_case (λ y. IsClosed y.left) h.left l; right = by_case (λ y. IsClosed y.right) h.right r }
  where
    by_case : (P : Recorded → Type 0) → ((y : Recorded) → Contains c.constraints y → P y) → P x → (y : Recorded) → Contains (with_constraint c x).constraints y → P y
    by_case P old new y i = ⊎_elim (λ j. old y j) (λ j. ⊎_elim (λ e. subst P e new) (λ k. absurd (contains_none y k)) (first_or_later x [] y j)) (Contains-append_cases c.constraints (x ∷ []) y i)

pub Knows-later : {c d : Content} (t : Tree) → IsLater c d → Knows c t → Knows d t
Knows-later {c} {d} t l h = Knows-kept c d t (record { grows = l.grows; kinds = l.kinds }) h

-- one more variable, of which nothing is known
pub IsLater-with_slot : (c : Content) (v : Slot) → v.state ≡ unset → v.sub_link ≡ None → IsLater c (with_slot c v)
IsLater-with_slot c v free alone =
    let kept = KeepsKinds-with_slot c v in
    record { more = omega (arith, length-append c.slots (v ∷ [])); grows = kept.grows; kinds = kept.kinds; subs = JoinsSubRoots-added c v free alone; visible = nothing_more }

pub KeepsKnowing-refl : (c : Content) → KeepsKnowing c c
KeepsKnowing-refl c = record { later = IsLater-refl c; states = λ n h k. refl; trees = λ t h. refl; unset_kept = refl; news = news_none c c refl }

-- the kind of an old variable is no other one afterwards
pub no_region-later : {c d : Content} (n : ℕ) → IsLater c d → n < length c.slots → kind_at c n ≢ Some kind.Region → kind_at d n ≢ Some kind.Region
no_region-later {c} {d} n l h k q =
    let has = has_kind c n h in
    let there = l.kinds n has.0 has.1 in
    let z : Some has.0 ≡ Some kind.Region = sym there ∙ q in
    k (has.1 ∙ z)

pub KeepsKnowing-trans : {c d e : Content} → KeepsKnowing c d → KeepsKnowing d e → KeepsKnowing c e
KeepsKnowing-trans {c} {d} {e} a b =
    record {
      later = IsLater-trans a.later b.later;
      states = λ n h k. b.states n (omega (arith, h, a.later.more)) (no_region-later n a.later h k) ∙ a.states n h k;
      trees = λ t h. b.trees t (Knows-later t a.later h) ∙ a.trees t h;
      unset_kept = b.unset_kept ∙ a.unset_kept;
      news = λ n k l h r. ⊎_elim
          (λ (old : n < length d.slots).
          let has : kind_at d n ≡ Some k = kind_before d e n k b.later.kinds old h in
          let t = a.news n k l has r in
          let region : kind_at d n ≢ Some kind.Region = λ q. r (let z : Some k ≡ Some kind.Region = sym has ∙ q in cc) in
          (t.0, b.states n old region ∙ t.1))
          (λ (new : length d.slots ≤ n). b.news n k new h r) (cases_lt n (length d.slots));
    }

-- counting
pub unset-set : (vs : List Slot) (n : ℕ) (v w : Slot) → slice_get vs n ≡ Some v → unset_count (slice_set vs n w) + unset_of v.kind v.state ≡ unset_count vs + unset_of w.kind w.state
unset-set [] n v w h = cc
unset-set (x ∷ vs) zero v w h =
    let e : x ≡ v = cc in
    let f : unset_of x.kind x.state ≡ unset_of v.kind v.state = ap (λ (y : Slot). unset_of y.kind y.state) e in
    omega (arith, f)
unset-set (x ∷ vs) (suc n) v w h = omega (arith, unset-set vs n v w h)

pub unset-push : (vs : List Slot) (v : Slot) → unset_count (vs ++ v ∷ []) ≡ unset_count vs + unset_of v.kind v.state
unset-push [] v = omega arith
unset-push (x ∷ vs) v = omega (arith, unset-push vs v)

pub unset_of-infer : (k : VariableKind) (s : SlotState) → k ≢ kind.Region → unset_of k s ≡ one_unset s
unset_of-infer kind.Ty s h = refl
unset_of-infer kind.Int s h = refl
unset_of-infer kind.Float s h = refl
unset_of-infer kind.Const s h = refl
unset_of-infer kind.Region s h = absurd (h refl)

-- where states, kinds and sub-unification stay
pub same_subs : {c d : Content} → SameStates c d → ((n : ℕ) → sub_link_of d n ≡ sub_link_of c n) → JoinsSubRoots c d
same_subs {c} {d} s l =
    JoinsSubRoots-same c d (λ n m h. s.states n ∙ h) (λ n m k h i j. sym (s.states n) ∙ h) (λ n m h. l n ∙ h) (λ n m h. sym (l n) ∙ h)

pub KeepsKnowing-same : {c d : Content} → SameStates c d → ((n : ℕ) → sub_link_of d n ≡ sub_link_of c n) → AddsVisible c.constraints d.constraints → unset_count d.slots ≡ unset_count c.slots → KeepsKnowing c d
KeepsKnowing-same {c} {d} s l v u =
    record {
      later = record { more = omega (arith, s.more); grows = s.grows; kinds = λ n k h. s.kinds n ∙ h; subs = same_subs s l; visible = v };
      states = λ n h k. s.states n;
      trees = λ t h. resolved-same c d t s;
      unset_kept = u;
      news = news_none c d s.more;
    }

pub KeepsKnowing-with_constraint : (c : Content) (x : Recorded) → IsSeen x → KeepsKnowing c (with_constraint c x)
KeepsKnowing-with_constraint c x v = KeepsKnowing-same (SameStates-with_constraint c x) (λ n. refl) (one_more x nothing_more v) refl

pub KeepsHidden-refl : (a : Inner) → KeepsHidden a a
KeepsHidden-refl a = record { saved = refl; universe = refl; hidden = refl }

pub KeepsHidden-trans : {a b c : Inner} → KeepsHidden a b → KeepsHidden b c → KeepsHidden a c
KeepsHidden-trans p q = record { saved = q.saved ∙ p.saved; universe = q.universe ∙ p.universe; hidden = q.hidden ∙ p.hidden }
