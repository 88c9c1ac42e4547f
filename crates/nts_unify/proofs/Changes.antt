-- Entries before and after a change, and what keeps them lawful.
use Rattle.std.proofs.Common.{◌≡◌, ⊎_elim, ℕ, zero, suc, ◌<◌, ◌≤◌, List, [], ◌∷◌, ◌++◌, length, map, Some, refl, sym, ap, ◌∙◌, arith}
use Rattle.std.specs.Prelude.{slice_get, slice_set}
use Rattle.nts_model.specs.Terms.Trees.{Tree}
use Rattle.nts_model.specs.declared.labels.VariableKind.TheVariants as kind
use Rattle.nts_model.specs.Tables.Contents.{map_slot, changed, bound_to, universe_of}
use Rattle.nts_model.specs.Terms.Placeholders.{CanName}
use Rattle.nts_model.proofs.Tables.Solving.{Lowers}
use Rattle.nts_model.proofs.Tables.Sound.{IsSound-changed}
use Rattle.nts_model.proofs.Tables.Binding.{IsLinkable, IsSound-region_link}
use Rattle.nts_model.specs.Tables.Resolving.{IsSound}
use Rattle.nts_model.proofs.Tables.Slots.{KeepsKinds, KeepsKinds-changed, slice_get-slice_set_same, slice_get-slice_set_other, slice_get_below}
use Rattle.nts_model.proofs.Tables.Under.{same_or_other}
use Rattle.nts_unify.specs.declared.contents.State.TheVariants.{Unset, Link}
use Rattle.nts_unify.specs.declared.contents.Variable.{Variable}
use Rattle.nts_unify.specs.Entries.{Entries, with_variable, bound}
use Rattle.nts_unify.specs.Proper.{IsProper, IsProper-lowered, IsProper-sub_linked, IsProper-region_link}
use Rattle.nts_unify.specs.Reading.{state_with, slot_of, recorded_of, content_of, IsHeldState, AreHeld, LinksDescend, IsLawful}
use Rattle.nts_unify.specs.Lawful.{AllHiddenTypes-kept, AreConstraints-kept}

pub some_inj : {A : Type 0} (a b : A) → Some a ≡ Some b → a ≡ b
some_inj a b e = cc

map-slice_set : {A B : Type 0} (f : A → B) (xs : List A) (n : ℕ) (x : A) → map f (slice_set xs n x) ≡ slice_set (map f xs) n (f x)
map-slice_set f [] n x = refl
map-slice_set f (y ∷ xs) zero x = refl
map-slice_set f (y ∷ xs) (suc n) x = ap (λ z. f y ∷ z) (map-slice_set f xs n x)

pub slice_get-map : {A B : Type 0} (f : A → B) (xs : List A) (n : ℕ) (x : A) → slice_get xs n ≡ Some x → slice_get (map f xs) n ≡ Some (f x)
slice_get-map f [] n x h = cc
slice_get-map f (y ∷ xs) zero x h = let e : y ≡ x = cc in ap (λ z. Some (f z)) e
slice_get-map f (y ∷ xs) (suc n) x h = slice_get-map f xs n x h

pub length-slots : (ts : List Tree) (vs : List Variable) → length (map (slot_of ts) vs) ≡ length vs
length-slots ts [] = refl
length-slots ts (v ∷ vs) = ap suc (length-slots ts vs)

pub slot_at : (ts : List Tree) (e : Entries) (n : ℕ) (v : Variable) → slice_get e.variables n ≡ Some v → slice_get (content_of ts e).slots n ≡ Some (slot_of ts v)
slot_at ts e n v h = slice_get-map (slot_of ts) e.variables n v h

pub content_of-with_variable : (ts : List Tree) (e : Entries) (n : ℕ) (v : Variable) → content_of ts (with_variable e n v) ≡ changed (content_of ts e) n (slot_of ts v)
content_of-with_variable ts e n v =
    let slots = map-slice_set (slot_of ts) e.variables n v in
    λ i. record { slots = slots i; order = e.order; universe = e.universe; constraints = map (recorded_of ts) e.constraints }

pub content_of-bound : (ts : List Tree) (e : Entries) (n : ℕ) (v : Variable) → content_of ts (bound e n v) ≡ bound_to (content_of ts e) n (slot_of ts v)
content_of-bound ts e n v =
    let slots = map-slice_set (slot_of ts) e.variables n v in
    λ i. record { slots = slots i; order = e.order ++ n ∷ []; universe = e.universe; constraints = map (recorded_of ts) e.constraints }

AreHeld-set : (ts : List Tree) (vs : List Variable) (n : ℕ) (v : Variable) → AreHeld ts vs → IsHeldState ts v.state → AreHeld ts (slice_set vs n v)
AreHeld-set ts [] n v h k = h
AreHeld-set ts (w ∷ vs) zero v h k = (k, h.1)
AreHeld-set ts (w ∷ vs) (suc n) v h k = (h.0, AreHeld-set ts vs n v h.1 k)

pub AreHeld-at : (ts : List Tree) (vs : List Variable) (n : ℕ) (v : Variable) → AreHeld ts vs → slice_get vs n ≡ Some v → IsHeldState ts v.state
AreHeld-at ts [] n v h k = cc
AreHeld-at ts (w ∷ vs) zero v h k = let e : w ≡ v = cc in rw (← e) h.0
AreHeld-at ts (w ∷ vs) (suc n) v h k = AreHeld-at ts vs n v h.1 k

-- a variable whose links lead to lower numbers than its own
pub record LeadsDown (n : ℕ) (v : Variable) : Type 0 where
  pub link : (m : ℕ) → v.state ≡ Link m → m < n
  pub sub_link : (m : ℕ) → v.sub_link ≡ Some m → m < n

pub leads_down : (e : Entries) (n : ℕ) (v : Variable) → LinksDescend e → slice_get e.variables n ≡ Some v → LeadsDown n v
leads_down e n v d h = record { link = λ m q. d.links n m v h q; sub_link = λ m q. d.sub_links n m v h q }

LinksDescend-set : (e : Entries) (n : ℕ) (v w : Variable) → slice_get e.variables n ≡ Some v → LinksDescend e → LeadsDown n w → LinksDescend (with_variable e n w)
LinksDescend-set e n v w at d l =
    let is : slice_get (slice_set e.variables n w) n ≡ Some w = slice_get-slice_set_same e.variables n w (slice_get_below e.variables n v at) in
    record {
      links = λ k m x h q. ⊎_elim
          (λ (same : k ≡ n). let z : Some w ≡ Some x = sym is ∙ ap (slice_get (slice_set e.variables n w)) (sym same) ∙ h in
          let y : w ≡ x = cc in let r = l.link m (ap (λ (u : Variable). u.state) y ∙ q) in omega (arith, same, r))
          (λ (other : k ≡ n → ⊥). d.links k m x (sym (slice_get-slice_set_other e.variables n k w other) ∙ h) q) (same_or_other k n);
      sub_links = λ k m x h q. ⊎_elim
          (λ (same : k ≡ n). let z : Some w ≡ Some x = sym is ∙ ap (slice_get (slice_set e.variables n w)) (sym same) ∙ h in
          let y : w ≡ x = cc in let r = l.sub_link m (ap (λ (u : Variable). u.sub_link) y ∙ q) in omega (arith, same, r))
          (λ (other : k ≡ n → ⊥). d.sub_links k m x (sym (slice_get-slice_set_other e.variables n k w other) ∙ h) q) (same_or_other k n);
    }

KeepsKinds-slot : (ts : List Tree) (e : Entries) (n : ℕ) (v w : Variable) → slice_get e.variables n ≡ Some v → w.kind ≡ v.kind → KeepsKinds (content_of ts e) (changed (content_of ts e) n (slot_of ts w))
KeepsKinds-slot ts e n v w at k = KeepsKinds-changed (content_of ts e) n (slot_of ts v) (slot_of ts w) (slot_at ts e n v at) k

-- another variable in the place of one of the same kind
pub IsLawful-set : (ts : List Tree) (e : Entries) (n : ℕ) (v w : Variable) → IsLawful ts e → slice_get e.variables n ≡ Some v → w.kind ≡ v.kind → IsHeldState ts w.state → LeadsDown n w → IsSound (changed (content_of ts e) n (slot_of ts w)) → IsProper (changed (content_of ts e) n (slot_of ts w)) → IsLawful ts (with_variable e n w)
IsLawful-set ts e n v w h at k held l s p =
    let is = content_of-with_variable ts e n w in
    let kinds = KeepsKinds-slot ts e n v w at k in
    record {
      held = AreHeld-set ts e.variables n w h.held held;
      constraints = rw is (AreConstraints-kept ts (content_of ts e) (changed (content_of ts e) n (slot_of ts w)) e.constraints kinds h.constraints);
      hidden = rw is (AllHiddenTypes-kept ts (content_of ts e) (changed (content_of ts e) n (slot_of ts w)) e.hidden kinds h.hidden);
      descends = LinksDescend-set e n v w at h.descends l;
      sound = rw is s;
      proper = rw is p;
    }

pub IsLawful-bound : (ts : List Tree) (e : Entries) (n : ℕ) (v w : Variable) → IsLawful ts e → slice_get e.variables n ≡ Some v → w.kind ≡ v.kind → IsHeldState ts w.state → LeadsDown n w → IsSound (bound_to (content_of ts e) n (slot_of ts w)) → IsProper (bound_to (content_of ts e) n (slot_of ts w)) → IsLawful ts (bound e n w)
IsLawful-bound ts e n v w h at k held l s p =
    let is = content_of-bound ts e n w in
    let kinds = KeepsKinds-slot ts e n v w at k in
    let later : KeepsKinds (content_of ts e) (bound_to (content_of ts e) n (slot_of ts w)) = record { grows = omega arith; kinds = kinds.kinds } in
    let d = LinksDescend-set e n v w at h.descends l in
    record {
      held = AreHeld-set ts e.variables n w h.held held;
      constraints = rw is (AreConstraints-kept ts (content_of ts e) (bound_to (content_of ts e) n (slot_of ts w)) e.constraints later h.constraints);
      hidden = rw is (AllHiddenTypes-kept ts (content_of ts e) (bound_to (content_of ts e) n (slot_of ts w)) e.hidden later h.hidden);
      descends = record { links = d.links; sub_links = d.sub_links };
      sound = rw is s;
      proper = rw is p;
    }

-- another universe or sub-unification link
pub IsLawful-marked : (ts : List Tree) (e : Entries) (n : ℕ) (v w : Variable) → IsLawful ts e → slice_get e.variables n ≡ Some v → w.kind ≡ v.kind → w.state ≡ v.state → LeadsDown n w → IsProper (changed (content_of ts e) n (slot_of ts w)) → IsLawful ts (with_variable e n w)
IsLawful-marked ts e n v w h at kind state down proper =
    let held : IsHeldState ts w.state = rw state (AreHeld-at ts e.variables n v h.held at) in
    IsLawful-set ts e n v w h at kind held down (IsSound-changed (content_of ts e) n (slot_of ts v) (slot_of ts w) h.sound (slot_at ts e n v at) kind (ap (state_with ts) state)) proper

-- a region variable without a value becomes one with another one
pub IsLawful-region_link : (ts : List Tree) (e : Entries) (n m : ℕ) (v u w : Variable) → IsLawful ts e → slice_get e.variables n ≡ Some v → slice_get e.variables m ≡ Some u → v.kind ≡ kind.Region → u.kind ≡ kind.Region → v.state ≡ Unset → u.state ≡ Unset → w.kind ≡ v.kind → w.state ≡ Link m → w.universe ≡ v.universe → u.universe ≤ v.universe → LeadsDown n w → IsLawful ts (with_variable e n w)
IsLawful-region_link ts e n m v u w h at there region one free unset_too kind state universe low down =
    let here = slot_at ts e n v at in
    let root = slot_at ts e m u there in
    let held : IsHeldState ts w.state = rw state tt in
    let linkable : IsLinkable (content_of ts e) n (slot_of ts w) m = record {
      binds = record { old = slot_of ts v; was = here; free = ap (state_with ts) free; same_kind = kind };
      is = ap (state_with ts) state;
      below = down.link m state;
      free = ap (map_slot (λ x. x.state)) root ∙ ap (λ s. Some (state_with ts s)) unset_too;
      one_kind = ap (map_slot (λ x. x.kind)) root ∙ ap Some (one ∙ sym (kind ∙ region));
    } in
    let root_universe : universe_of (content_of ts e) m ≡ Some u.universe = ap (map_slot (λ x. x.universe)) root in
    let names : CanName w.universe (universe_of (content_of ts e) m) = rw (root_universe, universe) low in
    IsLawful-set ts e n v w h at kind held down (IsSound-region_link (content_of ts e) n (slot_of ts w) m h.sound linkable (kind ∙ region))
    (IsProper-region_link (content_of ts e) n (slot_of ts w) m linkable universe names h.sound h.proper)

-- a variable comes down, or gets another sub-unification link
pub marks : (ts : List Tree) (e : Entries) (n : ℕ) (v w : Variable) → slice_get e.variables n ≡ Some v → w.kind ≡ v.kind → w.state ≡ v.state → w.universe ≤ v.universe → Lowers (content_of ts e) n (slot_of ts w)
marks ts e n v w at k s l =
    record { old = slot_of ts v; was = slot_at ts e n v at; same_kind = k; same_state = ap (state_with ts) s; lower = l }

pub proper_lowered : (ts : List Tree) (e : Entries) (n : ℕ) (v w : Variable) → IsLawful ts e → slice_get e.variables n ≡ Some v → w.kind ≡ v.kind → w.state ≡ v.state → w.universe ≤ v.universe → w.state ≡ Unset → IsProper (changed (content_of ts e) n (slot_of ts w))
proper_lowered ts e n v w h at k s l free =
    IsProper-lowered (content_of ts e) n (slot_of ts w) (marks ts e n v w at k s l) (ap (state_with ts) free) h.sound h.proper

pub proper_sub_linked : (ts : List Tree) (e : Entries) (n : ℕ) (v w : Variable) → IsLawful ts e → slice_get e.variables n ≡ Some v → w.kind ≡ v.kind → w.state ≡ v.state → w.universe ≡ v.universe → IsProper (changed (content_of ts e) n (slot_of ts w))
unfolding marks
proper_sub_linked ts e n v w h at k s u =
    IsProper-sub_linked (content_of ts e) n (slot_of ts w) (marks ts e n v w at k s (omega (arith, u))) u h.sound h.proper
