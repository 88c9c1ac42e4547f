-- Two variables without values made one.
use Rattle.nts_unify.proofs.Changes.{some_inj}
use Rattle.std.proofs.Common.{◌≡◌, ◌≢◌, ⊎_elim, ℕ, ◌+◌, ◌<◌, ◌≤◌, min, max, List, Some, refl, sym, ap, ◌∙◌, arith, length, map}
use Rattle.std.specs.Prelude.{slice_get, slice_set}
use Rattle.std.proofs.lemmas.Bool.{cases_lt}
use Rattle.nts_model.specs.declared.labels.VariableKind.{VariableKind}
use Rattle.nts_model.specs.declared.labels.VariableKind.TheVariants as kind
use Rattle.nts_model.specs.Terms.Trees.{Tree, variable_tree}
use Rattle.nts_model.specs.Tables.Contents.{Content, SlotState, unset, link, known, state_of, universe_of, kind_at, changed, sub_link_of}
use Rattle.nts_model.specs.Tables.Resolving.{resolved, Lacks}
use Rattle.nts_model.proofs.Tables.Under.{replaced-lacks}
use Rattle.nts_model.proofs.Tables.Slots.{some_slot, length-slice_set, slice_get-slice_set_other, field-changed_kept}
use Rattle.nts_model.proofs.Tables.Sound.{SameStates, SameStates-changed, IsSound-same, resolved-same}
use Rattle.nts_model.proofs.Tables.Binding.{IsLinkable, state_of-set_same, state_of-set_other, kind_at-set, resolved-link, IsSound-link, resolved-region_link, IsSound-region_link}
use Rattle.nts_unify.specs.declared.contents.State.{State}
use Rattle.nts_unify.specs.declared.contents.State.TheVariants.{Unset, Link, Known}
use Rattle.nts_unify.specs.declared.contents.Variable.{Variable}
use Rattle.nts_unify.specs.Entries.{Entries, with_variable, bound}
use Rattle.nts_unify.specs.Reading.{state_with, slot_of, recorded_of, content_of, IsLawful}
use Rattle.nts_unify.specs.Roots.{SubLinked, SubRootsJoin}
use Rattle.nts_unify.specs.Changing.{unset_count, unset_of, one_unset, IsLater, KeepsKnowing, AddsVisible, nothing_more}
use Rattle.nts_unify.specs.Unchanged.{HasUnset}
use Rattle.nts_unify.specs.Joining.{CanJoin, CanJoinRegions, IsOneClass, IsJoined, Joins, RegionsJoin}
use Rattle.nts_model.proofs.Tables.Solving.{Lowers}
use Rattle.nts_model.specs.Terms.Placeholders.{CanName}
use Rattle.nts_terms.specs.nts_store.specs.Growth.{tree_at}
use Rattle.nts_unify.specs.Proper.{IsProper, IsProper-link, IsProper-region_link}
use Rattle.nts_unify.proofs.Leading.{universe_of-entry}
use Rattle.nts_unify.proofs.Merging.{Marked, Marked-refl, marked, ComesDown, comes_down, LeadsTo, leads_to, leads_to_region, one_class}
use Rattle.nts_unify.proofs.Changes.{proper_lowered, proper_sub_linked, slot_at, content_of-with_variable, content_of-bound, AreHeld-at, LeadsDown, leads_down, IsLawful-set, IsLawful-bound}
use Rattle.nts_unify.proofs.Keeping.{KeepsKnowing-trans, KeepsKnowing-same, news_none, unset-set, unset_of-infer}
use Rattle.nts_unify.proofs.SubJoins.{sub_kept, sub_bound, links_sub_roots, joined_subs}
use Rattle.nts_model.specs.Tables.SubUnifying.{JoinsSubRoots}
use Rattle.nts_model.specs.Tables.Passing.{BringsNoLabels}
use Rattle.nts_model.proofs.Tables.Bringing.{brings-linked}
use Rattle.nts_model.proofs.Tables.SubUnified.{JoinsSubRoots-same}

-- a change of universes and sub-unification alone
pub record Relabelled (ts : List Tree) (e f : Entries) : Type 0 where
  pub lawful : IsLawful ts f
  pub same : SameStates (content_of ts e) (content_of ts f)
  pub unset_kept : unset_count (content_of ts f).slots ≡ unset_count (content_of ts e).slots

SameStates-refl : (c : Content) → SameStates c c
SameStates-refl c = record { states = λ n. refl; kinds = λ n. refl; order = refl; grows = omega arith; more = refl }

SameStates-trans : {c d e : Content} → SameStates c d → SameStates d e → SameStates c e
SameStates-trans a b =
    record { states = λ n. b.states n ∙ a.states n; kinds = λ n. b.kinds n ∙ a.kinds n; order = b.order ∙ a.order; grows = omega (arith, a.grows, b.grows); more = b.more ∙ a.more }

pub Relabelled-refl : (ts : List Tree) (e : Entries) → IsLawful ts e → Relabelled ts e e
Relabelled-refl ts e h = record { lawful = h; same = SameStates-refl (content_of ts e); unset_kept = refl }

pub Relabelled-trans : {ts : List Tree} {e f g : Entries} → Relabelled ts e f → Relabelled ts f g → Relabelled ts e g
Relabelled-trans a b = record { lawful = b.lawful; same = SameStates-trans a.same b.same; unset_kept = b.unset_kept ∙ a.unset_kept }

pub relabel : (ts : List Tree) (e : Entries) (n : ℕ) (v w : Variable) → IsLawful ts e → slice_get e.variables n ≡ Some v → w.kind ≡ v.kind → w.state ≡ v.state → ((m : ℕ) → w.sub_link ≡ Some m → m < n) → IsProper (changed (content_of ts e) n (slot_of ts w)) → Relabelled ts e (with_variable e n w)
relabel ts e n v w h at k s down proper =
    let c = content_of ts e in
    let slot = slot_at ts e n v at in
    let state : state_with ts w.state ≡ state_with ts v.state = ap (state_with ts) s in
    let same = SameStates-changed c n (slot_of ts v) (slot_of ts w) slot k state in
    let is = content_of-with_variable ts e n w in
    let count = unset-set c.slots n (slot_of ts v) (slot_of ts w) slot in
    let one : unset_of w.kind (state_with ts w.state) ≡ unset_of v.kind (state_with ts v.state) = cc in
    let kept : unset_count (changed c n (slot_of ts w)).slots ≡ unset_count c.slots = omega (arith, count, one) in
    let d = leads_down e n v h.descends at in
    record {
      lawful = IsLawful-set ts e n v w h at k (rw s (AreHeld-at ts e.variables n v h.held at)) (record { link = λ m q. d.link m (sym s ∙ q); sub_link = down }) (IsSound-same c (changed c n (slot_of ts w)) h.sound same) proper;
      same = rw is same;
      unset_kept = ap (λ (z : Content). unset_count z.slots) is ∙ kept;
    }

-- another universe
pub lower : (ts : List Tree) (e : Entries) (n u : ℕ) (v : Variable) → IsLawful ts e → slice_get e.variables n ≡ Some v → u ≤ v.universe → v.state ≡ Unset → Relabelled ts e (with_variable e n (record v { universe = u }))
lower ts e n u v h at l free =
    relabel ts e n v (record v { universe = u }) h at refl refl (leads_down e n v h.descends at).sub_link (proper_lowered ts e n v (record v { universe = u }) h at refl refl l free)

pub sub_join : (ts : List Tree) (e f : Entries) (x y : ℕ) → IsLawful ts e → SubRootsJoin e f x y → Relabelled ts e f
sub_join ts e f x y h j = ⊎_elim
    (λ (p : (j.first ≡ j.second) × (f ≡ e)). rw p.1 (Relabelled-refl ts e h))
    (λ (p : SubLinked e f j.first j.second).
    let w : Variable = record p.variable { sub_link = Some (min j.first j.second) } in
    let apart = p.apart in
    let down : (m : ℕ) → w.sub_link ≡ Some m → m < max j.first j.second = λ m q. (let z : min j.first j.second ≡ m = cc in omega (arith, z, apart)) in
    rw p.entries (relabel ts e (max j.first j.second) p.variable w h p.at refl refl down (proper_sub_linked ts e (max j.first j.second) p.variable w h p.at refl refl refl))) j.joined

-- the worlds after such changes
lowers : (ts : List Tree) (e : Entries) (n : ℕ) (v w : Variable) → slice_get e.variables n ≡ Some v → w.kind ≡ v.kind → w.state ≡ v.state → w.universe ≤ v.universe → Lowers (content_of ts e) n (slot_of ts w)
lowers ts e n v w at k s l =
    record { old = slot_of ts v; was = slot_at ts e n v at; same_kind = k; same_state = ap (state_with ts) s; lower = l }

marked_join : (ts : List Tree) (e f : Entries) (x y : ℕ) → IsLawful ts e → SubRootsJoin e f x y → Marked (content_of ts e) (content_of ts f)
unfolding lowers
marked_join ts e f x y h j = ⊎_elim
    (λ (p : (j.first ≡ j.second) × (f ≡ e)). rw p.1 (Marked-refl (content_of ts e) h.sound))
    (λ (p : SubLinked e f j.first j.second).
    let n = max j.first j.second in
    let w : Variable = record p.variable { sub_link = Some (min j.first j.second) } in
    rw (p.entries, content_of-with_variable ts e n w) (marked (content_of ts e) n (slot_of ts w) (lowers ts e n p.variable w p.at refl refl (omega arith)) refl h.sound)) j.joined

down_to : (ts : List Tree) (e d : Entries) (n u : ℕ) (v : Variable) → IsLawful ts e → slice_get e.variables n ≡ Some v → u ≤ v.universe → d ≡ with_variable e n (record v { universe = u }) → ComesDown (content_of ts e) (content_of ts d) n u
unfolding lowers
down_to ts e d n u v h at l q =
    let w : Variable = record v { universe = u } in
    rw (q, content_of-with_variable ts e n w) (comes_down (content_of ts e) n (slot_of ts w) (lowers ts e n v w at refl refl l) h.sound)

-- of two, the lower and the higher one
pub at_min : (P : ℕ → Type 0) (x y : ℕ) → P x → P y → P (min x y)
at_min P x y h k = ⊎_elim
    (λ (l : x < y). let e : min x y ≡ x = omega arith in rw e h)
    (λ (l : y ≤ x). let e : min x y ≡ y = omega arith in rw e k) (cases_lt x y)

pub at_max : (P : ℕ → Type 0) (x y : ℕ) → P x → P y → P (max x y)
at_max P x y h k = ⊎_elim
    (λ (l : x < y). let e : max x y ≡ y = omega arith in rw e k)
    (λ (l : y ≤ x). let e : max x y ≡ x = omega arith in rw e h) (cases_lt x y)

-- what the content has of an unset variable
pub record FreeSlot (c : Content) (n : ℕ) (k : VariableKind) : Type 0 where
  pub kind : kind_at c n ≡ Some k
  pub state : state_of c n ≡ Some unset

pub free_slot : (ts : List Tree) (e : Entries) (n : ℕ) (k : VariableKind) → HasUnset e n k → FreeSlot (content_of ts e) n k
free_slot ts e n k h =
    let c = content_of ts e in
    let at = slot_at ts e n h.variable h.at in
    record {
      kind = some_slot (λ x. x.kind) c n (slot_of ts h.variable) at ∙ ap Some h.of_kind;
      state = some_slot (λ x. x.state) c n (slot_of ts h.variable) at ∙ ap (λ s. Some (state_with ts s)) h.state;
    }

free_same : {c d : Content} (n : ℕ) (k : VariableKind) → SameStates c d → FreeSlot c n k → FreeSlot d n k
free_same n k s f = record { kind = s.kinds n ∙ f.kind; state = s.states n ∙ f.state }

-- an entry whose content is unset
unset_entry : (ts : List Tree) (e : Entries) (n : ℕ) (v : Variable) → slice_get e.variables n ≡ Some v → state_of (content_of ts e) n ≡ Some unset → v.state ≡ Unset
unset_entry ts e n v at s = by_state v.state refl
  where
    read : Some (state_with ts v.state) ≡ Some unset
    read = sym (some_slot (λ x. x.state) (content_of ts e) n (slot_of ts v) (slot_at ts e n v at)) ∙ s

    by_state : (x : State) → v.state ≡ x → v.state ≡ Unset
    by_state Unset q = q
    by_state (Link m) q = let z : Some (link m) ≡ Some unset = ap (λ y. Some (state_with ts y)) (sym q) ∙ read in cc
    by_state (Known t) q = let z : Some (known (tree_at ts t)) ≡ Some unset = ap (λ y. Some (state_with ts y)) (sym q) ∙ read in cc

-- the higher variable leads to the lower one
linkable : (ts : List Tree) (e : Entries) (low high : ℕ) (k : VariableKind) (v : Variable) → slice_get e.variables high ≡ Some v → FreeSlot (content_of ts e) low k → FreeSlot (content_of ts e) high k → low < high → IsLinkable (content_of ts e) high (slot_of ts (record v { state = Link low })) low
linkable ts e low high k v at fl fh l =
    let c = content_of ts e in
    let slot = slot_at ts e high v at in
    let free : state_with ts v.state ≡ unset = some_inj _ _ (sym (some_slot (λ x. x.state) c high (slot_of ts v) slot) ∙ fh.state) in
    let same : v.kind ≡ k = some_inj _ _ (sym (some_slot (λ x. x.kind) c high (slot_of ts v) slot) ∙ fh.kind) in
    record {
      binds = record { old = slot_of ts v; was = slot; free = free; same_kind = refl };
      is = refl;
      below = l;
      free = fl.state;
      one_kind = fl.kind ∙ ap Some (sym same);
    }

-- one variable leads to another, whatever became of sub-unification
record IsLinked (c d : Content) (low high : ℕ) : Type 0 where
  slots : length d.slots ≡ length c.slots
  grows : c.universe ≤ d.universe
  kinds : (n : ℕ) (k : VariableKind) → kind_at c n ≡ Some k → kind_at d n ≡ Some k
  fewer : unset_count d.slots + 1 ≡ unset_count c.slots
  linked : state_of d high ≡ Some (link low)
  others : (n : ℕ) → (n ≡ high → ⊥) → state_of d n ≡ state_of c n
  trees : (t : Tree) → Lacks high (resolved c t) → resolved d t ≡ resolved c t

record Joined (ts : List Tree) (e f : Entries) (low high : ℕ) : Type 0 where
  lawful : IsLawful ts f
  joined : IsLinked (content_of ts e) (content_of ts f) low high
  leads : LeadsTo (content_of ts e) (content_of ts f) high low

record RegionsJoined (ts : List Tree) (e f : Entries) (low high : ℕ) : Type 0 where
  lawful : IsLawful ts f
  keeps : KeepsKnowing (content_of ts e) (content_of ts f)
  others : (n : ℕ) → (n ≡ high → ⊥) → state_of (content_of ts f) n ≡ state_of (content_of ts e) n
  leads : LeadsTo (content_of ts e) (content_of ts f) high low

module _ (ts : List Tree) (e : Entries) (low high : ℕ) (k : VariableKind) (v : Variable) (h : IsLawful ts e) (at : slice_get e.variables high ≡ Some v) (fl : FreeSlot (content_of ts e) low k) (fh : FreeSlot (content_of ts e) high k) (l : low < high) (names : CanName v.universe (universe_of (content_of ts e) low)) where
  abbrev linked : Variable
  linked = record v { state = Link low }

  abbrev before : Content
  before = content_of ts e

  can : IsLinkable before high (slot_of ts linked) low
  can = linkable ts e low high k v at fl fh l

  same_kind : v.kind ≡ k
  same_kind = some_inj _ _ (sym (some_slot (λ x. x.kind) before high (slot_of ts v) (slot_at ts e high v at)) ∙ fh.kind)

  goes_down : LeadsDown high linked
  goes_down = record { link = λ m q. (let z : low ≡ m = cc in omega (arith, z, l)); sub_link = (leads_down e high v h.descends at).sub_link }

  free : state_with ts v.state ≡ unset
  free = some_inj _ _ (sym (some_slot (λ x. x.state) before high (slot_of ts v) (slot_at ts e high v at)) ∙ fh.state)

  count : unset_count (slice_set before.slots high (slot_of ts linked)) + unset_of v.kind (state_with ts v.state) ≡ unset_count before.slots + unset_of v.kind (link low)
  count = unset-set before.slots high (slot_of ts v) (slot_of ts linked) (slot_at ts e high v at)

  fewer : v.kind ≢ kind.Region → unset_count (slice_set before.slots high (slot_of ts linked)) + 1 ≡ unset_count before.slots
  fewer no_region =
      let one : unset_of v.kind (state_with ts v.state) ≡ 1 = unset_of-infer v.kind (state_with ts v.state) no_region ∙ ap one_unset free in
      let none : unset_of v.kind (link low) ≡ 0 = unset_of-infer v.kind (link low) no_region in
      omega (arith, count, one, none)

  sub_links : (n : ℕ) → sub_link_of (changed before high (slot_of ts linked)) n ≡ sub_link_of before n
  sub_links n = field-changed_kept (λ x. x.sub_link) before high n (slot_of ts v) (slot_of ts linked) (slot_at ts e high v at) refl

  -- a link of a region joins no classes
  region_subs : k ≡ kind.Region → JoinsSubRoots before (changed before high (slot_of ts linked))
  region_subs region =
      let w = slot_of ts linked in
      let is_region : v.kind ≡ kind.Region = same_kind ∙ region in
      JoinsSubRoots-same before (changed before high w)
      (λ n m q. (let d : n ≡ high → ⊥ = λ i. (let z : Some unset ≡ Some (link m) = sym fh.state ∙ ap (state_of before) (sym i) ∙ q in cc) in state_of-set_other before high w can.binds n d ∙ q))
      (λ n m j q i no. (let d : n ≡ high → ⊥ = λ z. no (let y : Some kind.Region ≡ Some j = ap Some (sym region) ∙ sym fh.kind ∙ ap (kind_at before) (sym z) ∙ sym (kind_at-set before high w can.binds n) ∙ i in cc) in sym (state_of-set_other before high w can.binds n d) ∙ q))
      (λ n m q. sub_links n ∙ q) (λ n m q. sym (sub_links n) ∙ q)

  later : k ≡ kind.Region → IsLater before (changed before high (slot_of ts linked))
  later region = record { more = omega (arith, length-slice_set before.slots high (slot_of ts linked)); grows = omega arith; kinds = λ n j q. kind_at-set before high (slot_of ts linked) can.binds n ∙ q; subs = region_subs region; visible = nothing_more }

  link_infer : k ≢ kind.Region → Joined ts e (bound e high linked) low high
  unfolding can linkable
  link_infer no_region =
      let w = slot_of ts linked in
      let other : v.kind ≢ kind.Region = λ q. no_region (sym same_kind ∙ q) in
      let sound = IsSound-link before high w low h.sound can other in
      let is = content_of-bound ts e high linked in
      record {
        lawful = IsLawful-bound ts e high v linked h at refl tt goes_down sound (IsProper-link before high w low can refl names h.sound h.proper);
        joined = rw is (record {
          slots = length-slice_set before.slots high w;
          grows = omega arith;
          kinds = λ n j q. kind_at-set before high w can.binds n ∙ q;
          fewer = fewer other;
          linked = state_of-set_same before high w can.binds;
          others = λ n d. state_of-set_other before high w can.binds n d;
          trees = λ t q. resolved-link before high w low h.sound can other t ∙ replaced-lacks high (variable_tree v.kind low) (resolved before t) q;
        });
        leads = rw is (leads_to before high w low can refl other h.sound);
      }

  link_region : k ≡ kind.Region → RegionsJoined ts e (with_variable e high linked) low high
  unfolding can linkable
  link_region region =
      let w = slot_of ts linked in
      let is_region : v.kind ≡ kind.Region = same_kind ∙ region in
      let sound = IsSound-region_link before high w low h.sound can is_region in
      let is = content_of-with_variable ts e high linked in
      let none : (s : SlotState) → unset_of v.kind s ≡ 0 = λ s. rw is_region refl in
      record {
        lawful = IsLawful-set ts e high v linked h at refl tt goes_down sound (IsProper-region_link before high w low can refl names h.sound h.proper);
        keeps = rw is (record {
          later = later region;
          states = λ n l q. state_of-set_other before high w can.binds n (λ same. q (ap (kind_at before) same ∙ fh.kind ∙ ap Some region));
          trees = λ t q. resolved-region_link before high w low h.sound can is_region t;
          unset_kept = omega (arith, count, none (state_with ts v.state), none (link low));
          news = news_none before (changed before high w) (length-slice_set before.slots high w);
        });
        others = λ n d. ap (λ (z : Content). state_of z n) is ∙ state_of-set_other before high w can.binds n d;
        leads = rw is (leads_to_region before high w low can refl is_region h.sound);
      }

subs_constraints : {e m : Entries} {x y : ℕ} → SubRootsJoin e m x y → m.constraints ≡ e.constraints
subs_constraints {e} {m} j = ⊎_elim
    (λ (p : (j.first ≡ j.second) × (m ≡ e)). ap (λ z. z.constraints) p.1)
    (λ (p : SubLinked e m j.first j.second). ap (λ z. z.constraints) p.entries) j.joined

-- the classes joined
pub joins : (ts : List Tree) (e m d f : Entries) (x y u low high : ℕ) (root linked : Variable) → CanJoin e x y → IsLawful ts e → low ≡ min x y → high ≡ max x y → SubRootsJoin e m x y → slice_get m.variables low ≡ Some root → slice_get m.variables high ≡ Some linked → u ≡ min root.universe linked.universe → d ≡ with_variable m low (record root { universe = u }) → f ≡ bound d high (record linked { state = Link low }) → Joins ts e f x y
joins ts e m d f x y u low high root linked can h is_low is_high subs at_low at_high is_u is_lowered is_bound =
    let apart = can.apart in
    let less : low < high = omega (arith, apart, is_low, is_high) in
    let other : high ≡ low → ⊥ = λ q. omega (arith, q, less) in
    let first = sub_join ts e m x y h subs in
    let fx = free_slot ts e x can.of_kind can.first in
    let fy = free_slot ts e y can.of_kind can.second in
    let free_low : FreeSlot (content_of ts m) low can.of_kind = free_same low can.of_kind first.same (rw is_low (at_min (λ n. FreeSlot (content_of ts e) n can.of_kind) x y fx fy)) in
    let u_low : u ≤ root.universe = omega (arith, is_u) in
    let second = lower ts m low u root first.lawful at_low u_low (unset_entry ts m low root at_low free_low.state) in
    let both = Relabelled-trans first (rw is_lowered second) in
    let fl : FreeSlot (content_of ts d) low can.of_kind = free_same low can.of_kind both.same (rw is_low (at_min (λ n. FreeSlot (content_of ts e) n can.of_kind) x y fx fy)) in
    let fh : FreeSlot (content_of ts d) high can.of_kind = free_same high can.of_kind both.same (rw is_high (at_max (λ n. FreeSlot (content_of ts e) n can.of_kind) x y fx fy)) in
    let at : slice_get d.variables high ≡ Some linked = ap (λ (z : Entries). slice_get z.variables high) is_lowered ∙ slice_get-slice_set_other m.variables low high (record root { universe = u }) other ∙ at_high in
    let m1 = marked_join ts e m x y h subs in
    let l1 = down_to ts m d low u root first.lawful at_low u_low is_lowered in
    let low_universe = l1.universe in
    let names : CanName linked.universe (universe_of (content_of ts d) low) = rw low_universe (omega (arith, is_u)) in
    let j = link_infer ts d low high can.of_kind linked both.lawful at fl fh less names can.no_region in
    let links : (n : ℕ) → sub_link_of (content_of ts f) n ≡ sub_link_of (content_of ts m) n =
    λ n. ap (λ z. sub_link_of (content_of ts z) n) is_bound ∙ sub_bound ts d high linked (record linked { state = Link low }) at refl n ∙ ap (λ z. sub_link_of (content_of ts z) n) is_lowered ∙ sub_kept ts m low root (record root { universe = u }) at_low refl n in
    let fh0 : FreeSlot (content_of ts e) high can.of_kind = rw is_high (at_max (λ n. FreeSlot (content_of ts e) n can.of_kind) x y fx fy) in
    let to_low : state_of (content_of ts f) high ≡ Some (link low) = rw is_bound j.joined.linked in
    let rest : (n : ℕ) → (n ≡ high → ⊥) → state_of (content_of ts f) n ≡ state_of (content_of ts e) n = rw is_bound (λ n q. j.joined.others n q ∙ both.same.states n) in
    let has : kind_at (content_of ts f) high ≡ Some can.of_kind = rw is_bound (j.joined.kinds high can.of_kind fh.kind) in
    let classes : JoinsSubRoots (content_of ts e) (content_of ts f) =
    joined_subs (content_of ts e) (content_of ts m) (content_of ts f) x y low high can.of_kind (links_sub_roots ts e m x y subs) links is_low is_high fh0.state can.no_region to_low rest has in
    let same_constraints : AddsVisible (content_of ts e).constraints (content_of ts (bound d high (record linked { state = Link low }))).constraints = rw (is_lowered, subs_constraints subs) nothing_more in
    let joined : IsJoined (content_of ts e) (content_of ts f) low high = rw is_bound (record {
      later = record { more = omega (arith, j.joined.slots, both.same.more); grows = omega (arith, j.joined.grows, both.same.grows); kinds = λ n i q. j.joined.kinds n i (both.same.kinds n ∙ q); subs = rw is_bound at classes; visible = same_constraints };
      slots = j.joined.slots ∙ both.same.more;
      fewer = j.joined.fewer ∙ both.unset_kept;
      linked = j.joined.linked;
      others = λ n q. j.joined.others n q ∙ both.same.states n;
      trees = λ t q. let s = resolved-same (content_of ts e) (content_of ts d) t both.same in j.joined.trees t (rw s q) ∙ s;
    }) in
    let k1 : LeadsTo (content_of ts d) (content_of ts f) high low = rw is_bound j.leads in
    let one : IsOneClass (content_of ts e) (content_of ts f) low high =
    one_class (content_of ts e) (content_of ts m) (content_of ts d) (content_of ts f) low high u root.universe linked.universe h.sound first.lawful.sound both.lawful.sound m1 l1 k1 other (sym (m1.universes low) ∙ universe_of-entry ts m low root at_low) (sym (m1.universes high) ∙ universe_of-entry ts m high linked at_high) is_u in
    let constraints : f.constraints ≡ e.constraints = ap (λ (z : Entries). z.constraints) is_bound ∙ ap (λ (z : Entries). z.constraints) is_lowered ∙ subs_constraints subs in
    let brings : BringsNoLabels (content_of ts e) (content_of ts f) = brings-linked (content_of ts e) (content_of ts f) low high to_low rest (ap (map (recorded_of ts)) constraints) in
    record { lawful = rw is_bound j.lawful; joined = rw (is_low, is_high) at joined; brings = brings; one = rw (is_low, is_high) at one }

pub regions_join : (ts : List Tree) (e d f : Entries) (x y u low high : ℕ) (root linked : Variable) → CanJoinRegions e x y → IsLawful ts e → low ≡ min x y → high ≡ max x y → slice_get e.variables low ≡ Some root → slice_get e.variables high ≡ Some linked → u ≡ min root.universe linked.universe → d ≡ with_variable e low (record root { universe = u }) → f ≡ with_variable d high (record linked { state = Link low }) → RegionsJoin ts e f x y
regions_join ts e d f x y u low high root linked can h is_low is_high at_low at_high is_u is_lowered is_linked =
    let apart = can.apart in
    let less : low < high = omega (arith, apart, is_low, is_high) in
    let other : high ≡ low → ⊥ = λ q. omega (arith, q, less) in
    let fx = free_slot ts e x kind.Region can.first in
    let fy = free_slot ts e y kind.Region can.second in
    let free_low : FreeSlot (content_of ts e) low kind.Region = rw is_low (at_min (λ n. FreeSlot (content_of ts e) n kind.Region) x y fx fy) in
    let u_low : u ≤ root.universe = omega (arith, is_u) in
    let both : Relabelled ts e d = rw is_lowered (lower ts e low u root h at_low u_low (unset_entry ts e low root at_low free_low.state)) in
    let fl : FreeSlot (content_of ts d) low kind.Region = free_same low kind.Region both.same (rw is_low (at_min (λ n. FreeSlot (content_of ts e) n kind.Region) x y fx fy)) in
    let fh : FreeSlot (content_of ts d) high kind.Region = free_same high kind.Region both.same (rw is_high (at_max (λ n. FreeSlot (content_of ts e) n kind.Region) x y fx fy)) in
    let at : slice_get d.variables high ≡ Some linked = ap (λ (z : Entries). slice_get z.variables high) is_lowered ∙ slice_get-slice_set_other e.variables low high (record root { universe = u }) other ∙ at_high in
    let l1 = down_to ts e d low u root h at_low u_low is_lowered in
    let low_universe = l1.universe in
    let names : CanName linked.universe (universe_of (content_of ts d) low) = rw low_universe (omega (arith, is_u)) in
    let j = link_region ts d low high kind.Region linked both.lawful at fl fh less names refl in
    let k1 : LeadsTo (content_of ts d) (content_of ts f) high low = rw is_linked j.leads in
    let one : IsOneClass (content_of ts e) (content_of ts f) low high =
    one_class (content_of ts e) (content_of ts e) (content_of ts d) (content_of ts f) low high u root.universe linked.universe h.sound h.sound both.lawful.sound (Marked-refl (content_of ts e) h.sound) l1 k1 other (universe_of-entry ts e low root at_low) (universe_of-entry ts e high linked at_high) is_u in
    let lawful : IsLawful ts f = rw is_linked j.lawful in
    let keeps : KeepsKnowing (content_of ts e) (content_of ts f) = rw is_linked (KeepsKnowing-trans (KeepsKnowing-same both.same (rw is_lowered (sub_kept ts e low root (record root { universe = u }) at_low refl)) (rw is_lowered nothing_more) both.unset_kept) j.keeps) in
    let others : (n : ℕ) → (n ≡ high → ⊥) → state_of (content_of ts f) n ≡ state_of (content_of ts d) n = rw is_linked j.others in
    let constraints : f.constraints ≡ e.constraints = ap (λ (z : Entries). z.constraints) is_linked ∙ ap (λ (z : Entries). z.constraints) is_lowered in
    let brings : BringsNoLabels (content_of ts e) (content_of ts f) =
    brings-linked (content_of ts e) (content_of ts f) low high k1.linked (λ n q. others n q ∙ both.same.states n) (ap (map (recorded_of ts)) constraints) in
    record { lawful = lawful; keeps = keeps; brings = brings; one = rw (is_low, is_high) at one }
