-- Two classes of sub-unification made one, as two variables become one.
use Rattle.std.proofs.Common.{◌≡◌, ◌≢◌, ◌⊎◌, inl, inr, ⊎_elim, ℕ, ◌<◌, ◌≤◌, min, max, List, Some, None, sym, ap, ◌∙◌, subst, arith}
use Rattle.std.specs.Prelude.{slice_get}
use Rattle.std.proofs.lemmas.Bool.{cases_lt}
use Rattle.nts_model.specs.declared.labels.VariableKind.{VariableKind}
use Rattle.nts_model.specs.declared.labels.VariableKind.TheVariants as kind
use Rattle.nts_model.specs.Terms.Trees.{Tree}
use Rattle.nts_model.specs.Tables.Contents.{Content, unset, link, map_slot, state_of, kind_at, sub_link_of}
use Rattle.nts_model.specs.Tables.SubUnifying.{SharesSubRoot, itself, linked, turned, through, BecameOne, AreJoined, before, since, back, along, JoinsSubRoots}
use Rattle.nts_model.proofs.Tables.Slots.{field-changed_same, field-changed_other, field-changed_kept, slice_get_below}
use Rattle.nts_model.proofs.Tables.SubUnified.{shares-mapped, joins_sub_roots}
use Rattle.nts_model.proofs.Tables.Under.{same_or_other}
use Rattle.nts_unify.specs.declared.contents.Variable.{Variable}
use Rattle.nts_unify.specs.Entries.{Entries, with_variable, bound}
use Rattle.nts_unify.specs.Reading.{slot_of, content_of}
use Rattle.nts_unify.specs.Roots.{SubLeads, here, on, IsSubRoot, SubLinked, SubRootsJoin}
use Rattle.nts_unify.proofs.Changes.{slot_at, content_of-with_variable, content_of-bound}

pub sub_link_of-entry : (ts : List Tree) (e : Entries) (n : ℕ) (v : Variable) → slice_get e.variables n ≡ Some v → sub_link_of (content_of ts e) n ≡ Some v.sub_link
sub_link_of-entry ts e n v h = ap (map_slot (λ x. x.sub_link)) (slot_at ts e n v h)

shares_root : (ts : List Tree) (e : Entries) (n r : ℕ) → SubLeads e n r → SharesSubRoot (content_of ts e) n r
shares_root ts e n r here = itself
shares_root ts e n r (on {m = m} v b at is) = through (shares_root ts e n m b) (linked (sub_link_of-entry ts e m v at ∙ ap Some is))

-- another variable in the place of one with the same link of sub-unification
pub sub_kept : (ts : List Tree) (e : Entries) (n : ℕ) (v w : Variable) → slice_get e.variables n ≡ Some v → w.sub_link ≡ v.sub_link → (k : ℕ) → sub_link_of (content_of ts (with_variable e n w)) k ≡ sub_link_of (content_of ts e) k
sub_kept ts e n v w at s k =
    ap (λ c. sub_link_of c k) (content_of-with_variable ts e n w) ∙ field-changed_kept (λ x. x.sub_link) (content_of ts e) n k (slot_of ts v) (slot_of ts w) (slot_at ts e n v at) s

pub sub_bound : (ts : List Tree) (e : Entries) (n : ℕ) (v w : Variable) → slice_get e.variables n ≡ Some v → w.sub_link ≡ v.sub_link → (k : ℕ) → sub_link_of (content_of ts (bound e n w)) k ≡ sub_link_of (content_of ts e) k
sub_bound ts e n v w at s k =
    ap (λ c. sub_link_of c k) (content_of-bound ts e n w) ∙ field-changed_kept (λ x. x.sub_link) (content_of ts e) n k (slot_of ts v) (slot_of ts w) (slot_at ts e n v at) s

-- a link between the classes of two variables
abbrev LinksClasses : Content → (x y n m : ℕ) → Type 0
LinksClasses c x y n m =
    (SharesSubRoot c n x × SharesSubRoot c y m) ⊎ (SharesSubRoot c n y × SharesSubRoot c x m)

-- the classes of two variables made one: no link goes, and a new one links the two
pub record LinksSubRoots (c d : Content) (x y : ℕ) : Type 0 where
  pub kept : (n m : ℕ) → sub_link_of c n ≡ Some (Some m) → sub_link_of d n ≡ Some (Some m)
  pub only : (n m : ℕ) → sub_link_of d n ≡ Some (Some m) → (sub_link_of c n ≡ Some (Some m)) ⊎ LinksClasses c x y n m
  pub one : SharesSubRoot d x y

unchanged : (ts : List Tree) (e : Entries) (x y r s : ℕ) → SubLeads e x r → SubLeads e y s → r ≡ s → LinksSubRoots (content_of ts e) (content_of ts e) x y
unchanged ts e x y r s a b q =
    record {
      kept = λ n m h. h;
      only = λ n m h. inl h;
      one = through (subst (λ k. SharesSubRoot (content_of ts e) x k) q (shares_root ts e x r a)) (turned (shares_root ts e y s b));
    }

module _ (ts : List Tree) (e : Entries) (x y r s : ℕ) (of_x : IsSubRoot e x r) (of_y : IsSubRoot e y s) (apart : r ≡ s → ⊥) (v : Variable) (at : slice_get e.variables (max r s) ≡ Some v) where
  abbrev c : Content
  c = content_of ts e

  abbrev w : Variable
  w = record v { sub_link = Some (min r s) }

  abbrev d : Content
  d = content_of ts (with_variable e (max r s) w)

  ends : v.sub_link ≡ None
  ends = ⊎_elim
      (λ (l : r < s). let is : max r s ≡ s = omega arith in of_y.ends v (sym (ap (slice_get e.variables) is) ∙ at))
      (λ (l : s ≤ r). let is : max r s ≡ r = omega arith in of_x.ends v (sym (ap (slice_get e.variables) is) ∙ at))
      (cases_lt r s)

  other_link : (n : ℕ) → (n ≡ max r s → ⊥) → sub_link_of d n ≡ sub_link_of c n
  other_link n q = ap (λ z. sub_link_of z n) (content_of-with_variable ts e (max r s) w) ∙ field-changed_other (λ z. z.sub_link) c (max r s) n (slot_of ts w) q

  new_link : sub_link_of d (max r s) ≡ Some (Some (min r s))
  new_link =
      ap (λ z. sub_link_of z (max r s)) (content_of-with_variable ts e (max r s) w)
      ∙ field-changed_same (λ z. z.sub_link) c (max r s) (slot_of ts w) (slice_get_below c.slots (max r s) (slot_of ts v) (slot_at ts e (max r s) v at))

  kept_link : (n m : ℕ) → sub_link_of c n ≡ Some (Some m) → sub_link_of d n ≡ Some (Some m)
  kept_link n m h =
      let no : n ≡ max r s → ⊥ = λ q. (let z : Some None ≡ Some (Some m) = ap Some (sym ends) ∙ sym (sub_link_of-entry ts e (max r s) v at) ∙ ap (sub_link_of c) (sym q) ∙ h in cc) in
      other_link n no ∙ h

  to_x : SharesSubRoot c r x
  to_x = turned (shares_root ts e x r of_x.leads)

  to_y : SharesSubRoot c s y
  to_y = turned (shares_root ts e y s of_y.leads)

  links_classes : LinksClasses c x y (max r s) (min r s)
  links_classes = ⊎_elim
      (λ (l : r < s). let a : max r s ≡ s = omega arith in let b : min r s ≡ r = omega arith in inr (rw a to_y, rw b (turned to_x)))
      (λ (l : s ≤ r). let a : max r s ≡ r = omega arith in let b : min r s ≡ s = omega arith in inl (rw a to_x, rw b (turned to_y)))
      (cases_lt r s)

  only_link : (n m : ℕ) → sub_link_of d n ≡ Some (Some m) → (sub_link_of c n ≡ Some (Some m)) ⊎ LinksClasses c x y n m
  only_link n m h = ⊎_elim
      (λ (q : n ≡ max r s). let z : Some (Some (min r s)) ≡ Some (Some m) = sym new_link ∙ ap (sub_link_of d) (sym q) ∙ h in
      let is : min r s ≡ m = cc in inr (rw (q, ← is) links_classes))
      (λ (q : n ≡ max r s → ⊥). inl (sym (other_link n q) ∙ h)) (same_or_other n (max r s))

  later : (n m : ℕ) → SharesSubRoot c n m → SharesSubRoot d n m
  later n m h = shares-mapped c d (λ i j k. linked (kept_link i j k)) h

  link_from : (a b : ℕ) → a ≡ max r s → b ≡ min r s → SharesSubRoot d a b
  link_from a b p q = linked (ap (sub_link_of d) p ∙ new_link ∙ ap (λ k. Some (Some k)) (sym q))

  new_one : SharesSubRoot d r s
  new_one = ⊎_elim
      (λ (l : r < s). let a : s ≡ max r s = omega arith in let b : r ≡ min r s = omega arith in turned (link_from s r a b))
      (λ (l : s ≤ r). let a : r ≡ max r s = omega arith in let b : s ≡ min r s = omega arith in link_from r s a b)
      (cases_lt r s)

  apart_linked : LinksSubRoots c d x y
  apart_linked = record { kept = kept_link; only = only_link; one = through (turned (later r x to_x)) (through new_one (later s y to_y)) }

pub links_sub_roots : (ts : List Tree) (e m : Entries) (x y : ℕ) → SubRootsJoin e m x y → LinksSubRoots (content_of ts e) (content_of ts m) x y
links_sub_roots ts e m x y j = ⊎_elim
    (λ (p : (j.first ≡ j.second) × (m ≡ e)). rw p.1 (let a = j.of_first in let b = j.of_second in unchanged ts e x y j.first j.second a.leads b.leads p.0))
    (λ (p : SubLinked e m j.first j.second). rw p.entries (apart_linked ts e x y j.first j.second j.of_first j.of_second p.apart p.variable p.at)) j.joined

-- .. as the higher of the two leads to the lower one
module _ (c m d : Content) (x y low high : ℕ) (k : VariableKind) (j : LinksSubRoots c m x y) (links : (n : ℕ) → sub_link_of d n ≡ sub_link_of m n) (is_low : low ≡ min x y) (is_high : high ≡ max x y)
    (free : state_of c high ≡ Some unset) (no_region : k ≢ kind.Region) (is_linked : state_of d high ≡ Some (link low)) (others : (n : ℕ) → (n ≡ high → ⊥) → state_of d n ≡ state_of c n) (has : kind_at d high ≡ Some k) where
  became : BecameOne c d high low
  became = record { of_kind = k; has = has; no_region = no_region; was = λ i q. (let z : Some unset ≡ Some (link i) = sym free ∙ q in cc); is = is_linked }

  both : AreJoined c d x y
  both = ⊎_elim
      (λ (l : x < y). let a : high ≡ y = omega (arith, is_high, l) in let b : low ≡ x = omega (arith, is_low, l) in back (since (rw (a, b) at became)))
      (λ (l : y ≤ x). let a : high ≡ x = omega (arith, is_high, l) in let b : low ≡ y = omega (arith, is_low, l) in since (rw (a, b) at became))
      (cases_lt x y)

  linked_classes : (n i : ℕ) → LinksClasses c x y n i → AreJoined c d n i
  linked_classes n i (inl h) = along (before h.0) (along both (before h.1))
  linked_classes n i (inr h) = along (before h.0) (along (back both) (before h.1))

  mapped : SharesSubRoot d x y
  mapped = shares-mapped m d (λ n i h. linked (links n ∙ h)) j.one

  low_high : SharesSubRoot d high low
  low_high = ⊎_elim
      (λ (l : x < y). let a : high ≡ y = omega (arith, is_high, l) in let b : low ≡ x = omega (arith, is_low, l) in rw (a, b) (turned mapped))
      (λ (l : y ≤ x). let a : high ≡ x = omega (arith, is_high, l) in let b : low ≡ y = omega (arith, is_low, l) in rw (a, b) mapped)
      (cases_lt x y)

  pub joined_subs : JoinsSubRoots c d
  joined_subs = joins_sub_roots c d
      (λ n i h. others n (λ q. (let z : Some unset ≡ Some (link i) = sym free ∙ ap (state_of c) (sym q) ∙ h in cc)) ∙ h)
      (λ n i h. linked (links n ∙ j.kept n i h))
      (λ n i h. ⊎_elim (λ (q : sub_link_of c n ≡ Some (Some i)). before (linked q)) (λ (q : LinksClasses c x y n i). linked_classes n i q) (j.only n i (sym (links n) ∙ h)))
      (λ n i h. ⊎_elim
      (λ (q : n ≡ high). let z : Some (link low) ≡ Some (link i) = sym is_linked ∙ ap (state_of d) (sym q) ∙ h.is in let to : low ≡ i = cc in rw (q, ← to) low_high)
      (λ (q : n ≡ high → ⊥). absurd (h.was i (sym (others n q) ∙ h.is))) (same_or_other n high))
