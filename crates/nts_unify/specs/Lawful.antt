-- Entries that go with a store: what keeps them lawful.
use Rattle.std.proofs.Common.{◌≡◌, ◌⊎◌, inl, inr, ⊎_elim, ℕ, ◌<◌, zero, suc, List, [], ◌∷◌, ◌++◌, length, map, Some, refl, sym, ap, ◌∙◌, arith, ◌≤◌}
use Rattle.std.specs.Prelude.{slice_get, slice_set}
use Rattle.std.proofs.lemmas.List.{map-append}
use Rattle.nts_model.specs.Terms.Trees.{Tree}
use Rattle.nts_model.specs.Tables.Contents.{Content, unset, known, with_slot, with_constraint, in_universe}
use Rattle.nts_model.proofs.Tables.Slots.{KeepsKinds, KeepsKinds-with_slot, Knows-kept, slice_get-push_old, slice_get-push_new}
use Rattle.nts_model.proofs.Tables.Under.{same_or_other}
use Rattle.nts_model.proofs.Tables.Sound.{IsSound-with_slot, IsSound-with_constraint, IsSound-in_universe}
use Rattle.nts_terms.specs.nts_store.specs.Growth.{tree_at, Extends}
use Rattle.nts_terms.specs.nts_store.proofs.Growing.{IsIn-extended}
use Rattle.nts_unify.specs.declared.contents.State.{State}
use Rattle.nts_unify.specs.declared.contents.State.TheVariants.{Unset, Link, Known}
use Rattle.nts_unify.specs.declared.contents.Variable.{Variable}
use Rattle.nts_unify.specs.declared.contents.Constraint.{Constraint}
use Rattle.nts_unify.specs.declared.contents.HiddenType.{HiddenType}
use Rattle.nts_unify.specs.Entries.{HiddenTypes, Entries, added, moved, constrained}
use Rattle.nts_unify.specs.Proper.{IsProper-with_slot, IsProper-with_constraint, IsProper-in_universe}
use Rattle.nts_unify.specs.Reading.{state_with, slot_of, recorded_of, content_of, IsHeldState, AreHeld, IsConstraint, AreConstraints, IsHiddenType, AreHiddenTypes, AllHiddenTypes, LinksDescend, IsLawful, AllLawful}

state_with-extended : (a b : List Tree) (s : State) → Extends a b → IsHeldState a s → state_with b s ≡ state_with a s
state_with-extended a b Unset e h = refl
state_with-extended a b (Link m) e h = refl
state_with-extended a b (Known t) e h = ap known (e.kept t h)

slots-extended : (a b : List Tree) (vs : List Variable) → Extends a b → AreHeld a vs → map (slot_of b) vs ≡ map (slot_of a) vs
slots-extended a b [] e h = refl
slots-extended a b (v ∷ vs) e h =
    let first = state_with-extended a b v.state e h.0 in
    let rest = slots-extended a b vs e h.1 in
    λ i. record { kind = v.kind; universe = v.universe; state = first i; sub_link = v.sub_link } ∷ rest i

recorded-extended : (a b : List Tree) (c : Content) (xs : List Constraint) → Extends a b → AreConstraints a c xs → map (recorded_of b) xs ≡ map (recorded_of a) xs
recorded-extended a b c [] e h = refl
recorded-extended a b c (x ∷ xs) e h =
    let left = e.kept x.left h.0.left_in in
    let right = e.kept x.right h.0.right_in in
    let rest = recorded-extended a b c xs e h.1 in
    λ i. record { relation = x.relation; left = left i; right = right i; is_visible = x.is_visible } ∷ rest i

-- a store that grows changes no content
pub content_of-extended : {a b : List Tree} {c : Entries} → Extends a b → IsLawful a c → content_of b c ≡ content_of a c
content_of-extended {a} {b} {c} e h =
    let slots = slots-extended a b c.variables e h.held in
    let constraints = recorded-extended a b (content_of a c) c.constraints e h.constraints in
    λ i. record { slots = slots i; order = c.order; universe = c.universe; constraints = constraints i }

AreHeld-extended : (a b : List Tree) (vs : List Variable) → Extends a b → AreHeld a vs → AreHeld b vs
AreHeld-extended a b [] e h = tt
AreHeld-extended a b (v ∷ vs) e h = (held v.state h.0, AreHeld-extended a b vs e h.1)
  where
    held : (s : State) → IsHeldState a s → IsHeldState b s
    held Unset k = tt
    held (Link m) k = tt
    held (Known t) k = IsIn-extended e t k

IsConstraint-extended : (a b : List Tree) (c : Content) (x : Constraint) → Extends a b → IsConstraint a c x → IsConstraint b c x
IsConstraint-extended a b c x e h =
    let left = e.kept x.left h.left_in in
    let right = e.kept x.right h.right_in in
    record {
      left_in = IsIn-extended e x.left h.left_in;
      right_in = IsIn-extended e x.right h.right_in;
      left_known = rw left h.left_known;
      right_known = rw right h.right_known;
      left_sort = rw left h.left_sort;
      right_sort = rw right h.right_sort;
      regions = rw (left, right) h.regions;
    }

AreConstraints-extended : (a b : List Tree) (c : Content) (xs : List Constraint) → Extends a b → AreConstraints a c xs → AreConstraints b c xs
AreConstraints-extended a b c [] e h = tt
AreConstraints-extended a b c (x ∷ xs) e h =
    (IsConstraint-extended a b c x e h.0, AreConstraints-extended a b c xs e h.1)

pub AreHiddenTypes-extended : (a b : List Tree) (c : Content) (hs : List HiddenType) → Extends a b → AreHiddenTypes a c hs → AreHiddenTypes b c hs
AreHiddenTypes-extended a b c [] e h = tt
AreHiddenTypes-extended a b c (x ∷ xs) e h =
    let args = e.kept x.args.node h.0.args.within in
    let ty = e.kept x.ty.node h.0.ty.within in (
      record {
        of_types = h.0.of_types;
        args = record { within = IsIn-extended e x.args.node h.0.args.within; fits = rw args h.0.args.fits };
        args_known = rw args h.0.args_known;
        ty = record { within = IsIn-extended e x.ty.node h.0.ty.within; fits = rw ty h.0.ty.fits };
        ty_known = rw ty h.0.ty_known;
      },
      AreHiddenTypes-extended a b c xs e h.1,
    )

-- the hidden types of a content of which nothing was forgotten
pub AreHiddenTypes-kept : (ts : List Tree) (c d : Content) (hs : List HiddenType) → KeepsKinds c d → AreHiddenTypes ts c hs → AreHiddenTypes ts d hs
AreHiddenTypes-kept ts c d [] k h = tt
AreHiddenTypes-kept ts c d (x ∷ xs) k h = (
  record {
    of_types = h.0.of_types;
    args = h.0.args;
    args_known = Knows-kept c d (tree_at ts x.args.node) k h.0.args_known;
    ty = h.0.ty;
    ty_known = Knows-kept c d (tree_at ts x.ty.node) k h.0.ty_known;
  },
  AreHiddenTypes-kept ts c d xs k h.1,
)

pub AllHiddenTypes-extended : (a b : List Tree) (c : Content) (h : HiddenTypes) → Extends a b → AllHiddenTypes a c h → AllHiddenTypes b c h
AllHiddenTypes-extended a b c h e k =
    record { lookup = AreHiddenTypes-extended a b c h.lookup e k.lookup; duplicates = AreHiddenTypes-extended a b c h.duplicates e k.duplicates }

pub AllHiddenTypes-kept : (ts : List Tree) (c d : Content) (h : HiddenTypes) → KeepsKinds c d → AllHiddenTypes ts c h → AllHiddenTypes ts d h
AllHiddenTypes-kept ts c d h k a =
    record { lookup = AreHiddenTypes-kept ts c d h.lookup k a.lookup; duplicates = AreHiddenTypes-kept ts c d h.duplicates k a.duplicates }

pub IsLawful-extended : {a b : List Tree} {c : Entries} → Extends a b → IsLawful a c → IsLawful b c
IsLawful-extended {a} {b} {c} e h =
    let same = content_of-extended e h in
    record {
      held = AreHeld-extended a b c.variables e h.held;
      constraints = rw same (AreConstraints-extended a b (content_of a c) c.constraints e h.constraints);
      hidden = rw same (AllHiddenTypes-extended a b (content_of a c) c.hidden e h.hidden);
      descends = h.descends;
      sound = rw same h.sound;
      proper = rw same h.proper;
    }

pub AllLawful-extended : (a b : List Tree) (cs : List Entries) → Extends a b → AllLawful a cs → AllLawful b cs
AllLawful-extended a b [] e h = tt
AllLawful-extended a b (c ∷ cs) e h = (IsLawful-extended e h.0, AllLawful-extended a b cs e h.1)

-- the constraints of a content of which nothing was forgotten
pub AreConstraints-kept : (ts : List Tree) (c d : Content) (xs : List Constraint) → KeepsKinds c d → AreConstraints ts c xs → AreConstraints ts d xs
AreConstraints-kept ts c d [] k h = tt
AreConstraints-kept ts c d (x ∷ xs) k h = (
  record {
    left_in = h.0.left_in;
    right_in = h.0.right_in;
    left_known = Knows-kept c d (tree_at ts x.left) k h.0.left_known;
    right_known = Knows-kept c d (tree_at ts x.right) k h.0.right_known;
    left_sort = h.0.left_sort;
    right_sort = h.0.right_sort;
    regions = h.0.regions;
  },
  AreConstraints-kept ts c d xs k h.1,
)

AreHeld-push : (ts : List Tree) (vs : List Variable) (v : Variable) → AreHeld ts vs → IsHeldState ts v.state → AreHeld ts (vs ++ v ∷ [])
AreHeld-push ts [] v h k = (k, tt)
AreHeld-push ts (w ∷ vs) v h k = (h.0, AreHeld-push ts vs v h.1 k)

-- a variable for the table of which nothing is known yet, of a universe of the table; it may be of the sub-unification
-- class of one that the table has
pub record IsNew (c : Entries) (v : Variable) : Type 0 where
  pub state : v.state ≡ Unset
  pub universe : v.universe ≤ c.universe
  pub sub_link : (m : ℕ) → v.sub_link ≡ Some m → m < length c.variables

pub content_of-added : (ts : List Tree) (c : Entries) (v : Variable) → content_of ts (added c v) ≡ with_slot (content_of ts c) (slot_of ts v)
content_of-added ts c v =
    let slots = map-append (slot_of ts) c.variables (v ∷ []) in
    λ i. record { slots = slots i; order = c.order; universe = c.universe; constraints = map (recorded_of ts) c.constraints }

other : (a b : ℕ) → (a ≡ b → ⊥) ⊎ (a ≡ b)
other a b = ⊎_elim (λ (e : a ≡ b). inr e) (λ (d : a ≡ b → ⊥). inl d) (same_or_other a b)

LinksDescend-added : (c : Entries) (v : Variable) → LinksDescend c → IsNew c v → LinksDescend (added c v)
LinksDescend-added c v d w =
    record {
      links = λ n m x h e. ⊎_elim
          (λ (old : n ≡ length c.variables → ⊥). d.links n m x (sym (slice_get-push_old c.variables v n old) ∙ h) e)
          (λ (new : n ≡ length c.variables). let q : Some v ≡ Some x = sym (slice_get-push_new c.variables v) ∙ ap (slice_get (c.variables ++ v ∷ [])) (sym new) ∙ h in
          let same : v ≡ x = cc in let z : Unset ≡ Link m = sym w.state ∙ ap (λ (y : Variable). y.state) same ∙ e in cc)
          (other n (length c.variables));
      sub_links = λ n m x h e. ⊎_elim
          (λ (old : n ≡ length c.variables → ⊥). d.sub_links n m x (sym (slice_get-push_old c.variables v n old) ∙ h) e)
          (λ (new : n ≡ length c.variables). let q : Some v ≡ Some x = sym (slice_get-push_new c.variables v) ∙ ap (slice_get (c.variables ++ v ∷ [])) (sym new) ∙ h in
          let same : v ≡ x = cc in let z = w.sub_link m (ap (λ (y : Variable). y.sub_link) same ∙ e) in omega (arith, z, new))
          (other n (length c.variables));
    }

pub IsLawful-added : (ts : List Tree) (c : Entries) (v : Variable) → IsLawful ts c → IsNew c v → IsLawful ts (added c v)
IsLawful-added ts c v h w =
    let same = content_of-added ts c v in
    let slot = slot_of ts v in
    let free : slot.state ≡ unset = ap (state_with ts) w.state in
    record {
      held = AreHeld-push ts c.variables v h.held (rw w.state tt);
      constraints = rw same (AreConstraints-kept ts (content_of ts c) (with_slot (content_of ts c) slot) c.constraints (KeepsKinds-with_slot (content_of ts c) slot) h.constraints);
      hidden = rw same (AllHiddenTypes-kept ts (content_of ts c) (with_slot (content_of ts c) slot) c.hidden (KeepsKinds-with_slot (content_of ts c) slot) h.hidden);
      descends = LinksDescend-added c v h.descends w;
      sound = rw same (IsSound-with_slot (content_of ts c) slot h.sound free);
      proper = rw same (IsProper-with_slot (content_of ts c) slot free w.universe h.sound h.proper);
    }

pub IsLawful-moved : (ts : List Tree) (c : Entries) (u : ℕ) → c.universe ≤ u → IsLawful ts c → IsLawful ts (moved c u)
IsLawful-moved ts c u low h =
    record {
      held = h.held;
      constraints = AreConstraints-kept ts (content_of ts c) (in_universe (content_of ts c) u) c.constraints (record { grows = low; kinds = λ n k q. q }) h.constraints;
      hidden = AllHiddenTypes-kept ts (content_of ts c) (in_universe (content_of ts c) u) c.hidden (record { grows = low; kinds = λ n k q. q }) h.hidden;
      descends = record { links = h.descends.links; sub_links = h.descends.sub_links };
      sound = IsSound-in_universe (content_of ts c) u low h.sound;
      proper = IsProper-in_universe (content_of ts c) u low h.sound h.proper;
    }

pub AllLawful-append : (ts : List Tree) (cs : List Entries) (c : Entries) → AllLawful ts cs → IsLawful ts c → AllLawful ts (cs ++ c ∷ [])
AllLawful-append ts [] c h k = (k, tt)
AllLawful-append ts (d ∷ cs) c h k = (h.0, AllLawful-append ts cs c h.1 k)

pub AreConstraints-push : (ts : List Tree) (c : Content) (xs : List Constraint) (x : Constraint) → AreConstraints ts c xs → IsConstraint ts c x → AreConstraints ts c (xs ++ x ∷ [])
AreConstraints-push ts c [] x h k = (k, tt)
AreConstraints-push ts c (y ∷ xs) x h k = (h.0, AreConstraints-push ts c xs x h.1 k)

pub content_of-constrained : (ts : List Tree) (c : Entries) (x : Constraint) → content_of ts (constrained c x) ≡ with_constraint (content_of ts c) (recorded_of ts x)
content_of-constrained ts c x =
    let all = map-append (recorded_of ts) c.constraints (x ∷ []) in
    λ i. record { slots = map (slot_of ts) c.variables; order = c.order; universe = c.universe; constraints = all i }

pub IsLawful-constrained : (ts : List Tree) (c : Entries) (x : Constraint) → IsLawful ts c → IsConstraint ts (content_of ts c) x → IsLawful ts (constrained c x)
IsLawful-constrained ts c x h k =
    let same = content_of-constrained ts c x in
    let next = with_constraint (content_of ts c) (recorded_of ts x) in
    let kinds : KeepsKinds (content_of ts c) next = record { grows = omega arith; kinds = λ n j q. q } in
    record {
      held = h.held;
      constraints = rw same (AreConstraints-kept ts (content_of ts c) next (c.constraints ++ x ∷ []) kinds (AreConstraints-push ts (content_of ts c) c.constraints x h.constraints k));
      hidden = rw same (AllHiddenTypes-kept ts (content_of ts c) next c.hidden kinds h.hidden);
      descends = record { links = h.descends.links; sub_links = h.descends.sub_links };
      sound = rw same (IsSound-with_constraint (content_of ts c) (recorded_of ts x) h.sound);
      proper = rw same (IsProper-with_constraint (content_of ts c) (recorded_of ts x) k.left_known k.right_known k.regions h.sound h.proper);
    }

-- a hidden type that is registered, or takes the place of another
pub AreHiddenTypes-push : (ts : List Tree) (c : Content) (hs : List HiddenType) (x : HiddenType) → AreHiddenTypes ts c hs → IsHiddenType ts c x → AreHiddenTypes ts c (hs ++ x ∷ [])
AreHiddenTypes-push ts c [] x h k = (k, tt)
AreHiddenTypes-push ts c (y ∷ hs) x h k = (h.0, AreHiddenTypes-push ts c hs x h.1 k)

pub AreHiddenTypes-set : (ts : List Tree) (c : Content) (hs : List HiddenType) (n : ℕ) (x : HiddenType) → AreHiddenTypes ts c hs → IsHiddenType ts c x → AreHiddenTypes ts c (slice_set hs n x)
AreHiddenTypes-set ts c [] n x h k = h
AreHiddenTypes-set ts c (y ∷ hs) zero x h k = (k, h.1)
AreHiddenTypes-set ts c (y ∷ hs) (suc n) x h k = (h.0, AreHiddenTypes-set ts c hs n x h.1 k)

pub AreHiddenTypes-at : (ts : List Tree) (c : Content) (hs : List HiddenType) (n : ℕ) (x : HiddenType) → AreHiddenTypes ts c hs → slice_get hs n ≡ Some x → IsHiddenType ts c x
AreHiddenTypes-at ts c [] n x h k = cc
AreHiddenTypes-at ts c (y ∷ hs) zero x h k = let e : y ≡ x = cc in rw (← e) h.0
AreHiddenTypes-at ts c (y ∷ hs) (suc n) x h k = AreHiddenTypes-at ts c hs n x h.1 k
