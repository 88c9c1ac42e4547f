-- Sub roots of what is chosen for positions, and of what is then made equal.
use Rattle.std.proofs.Common.{◌≡◌, ◌⊎◌, inl, inr, ⊎_elim, ℕ, ◌<◌, List, [], ◌∷◌, ◌++◌, length, Option, Some, None, refl, sym, ap, subst, ◌∙◌, arith}
use Rattle.std.specs.Prelude.{slice_get}
use Rattle.std.proofs.lemmas.List.{length-map}
use Rattle.nts_model.specs.Terms.Trees.{Tree}
use Rattle.nts_model.specs.Tables.Contents.{Content, Slot, unset, link, state_of, sub_link_of, with_slot, in_universe}
use Rattle.nts_model.specs.Canonical.Inputs.{PositionKind, type_variable}
use Rattle.nts_model.specs.Tables.SubUnifying.{SharesSubRoot, itself, linked, turned, through, BecameOne, AreJoined, JoinsSubRoots}
use Rattle.nts_model.specs.Tables.SubUnifying as sub
use Rattle.nts_model.proofs.Tables.SubUnified.{shares-mapped}
use Rattle.nts_model.proofs.Tables.Under.{same_or_other}
use Rattle.nts_model.proofs.Tables.Slots.{slice_get-push_old, slice_get-push_new, slice_get_below, field_below, field-with_slot_new, field-with_slot_old}
use Rattle.nts_model.specs.declared.labels.VariableKind.TheVariants as kind
use Rattle.nts_model.specs.Canonical.Inputs.{integer_variable, float_variable, const_variable, region_variable, placeholder}
use Rattle.nts_model.specs.Terms.Substitutions.{leaf_tree}
use Rattle.nts_store.specs.Growth.{Extends}
use Rattle.nts_unify.specs.declared.contents.Variable.{Variable}
use Rattle.nts_unify.specs.declared.contents.State.TheVariants.{Unset}
use Rattle.nts_unify.specs.Entries.{Entries, added}
use Rattle.nts_unify.specs.Reading.{content_of, slot_of, IsLawful}
use Rattle.nts_unify.specs.Roots.{SubLeads, here, on}
use Rattle.nts_unify.specs.Lawful.{content_of-extended, content_of-added}
use Rattle.nts_unify.proofs.SubJoins.{sub_link_of-entry}
use Rattle.nts_table.specs.Making.{unset_variable, IsAddedTo}
use Rattle.nts_canonical.specs.Kinds.{value_leaf}
use Rattle.nts_canonical.specs.Building.{type_variable_of, IsPositionValue}
use Rattle.nts_response.specs.Applied.{GuessFits, original_named}
use Rattle.nts_response.specs.Placing.{ArePlaced, IsPlacedNext, AreJoinedBy, before, related, back, along, JoinsBy, JoinsNew}

-- what holds of links holds of classes
shares_by : (R : ℕ → ℕ → Type 0) (c d : Content) → ((n m : ℕ) → sub_link_of d n ≡ Some (Some m) → AreJoinedBy R c n m) → {n m : ℕ} → SharesSubRoot d n m → AreJoinedBy R c n m
shares_by R c d f itself = before itself
shares_by R c d f (linked {n = n} {m = m} h) = f n m h
shares_by R c d f (turned h) = back (shares_by R c d f h)
shares_by R c d f (through h i) = along (shares_by R c d f h) (shares_by R c d f i)

-- .. and of what joins them
joined_mapped : (R S : ℕ → ℕ → Type 0) (c d : Content) → ((n m : ℕ) → SharesSubRoot c n m → AreJoinedBy S d n m) → ((n m : ℕ) → R n m → AreJoinedBy S d n m) → {n m : ℕ} → AreJoinedBy R c n m → AreJoinedBy S d n m
joined_mapped R S c d f g (before {n = n} {m = m} h) = f n m h
joined_mapped R S c d f g (related {n = n} {m = m} h) = g n m h
joined_mapped R S c d f g (back h) = back (joined_mapped R S c d f g h)
joined_mapped R S c d f g (along h i) = along (joined_mapped R S c d f g h) (joined_mapped R S c d f g i)

joined_shares : (R : ℕ → ℕ → Type 0) (c d : Content) → ((n m : ℕ) → SharesSubRoot c n m → SharesSubRoot d n m) → ((n m : ℕ) → R n m → SharesSubRoot d n m) → {n m : ℕ} → AreJoinedBy R c n m → SharesSubRoot d n m
joined_shares R c d f g (before {n = n} {m = m} h) = f n m h
joined_shares R c d f g (related {n = n} {m = m} h) = g n m h
joined_shares R c d f g (back h) = turned (joined_shares R c d f g h)
joined_shares R c d f g (along h i) = through (joined_shares R c d f g h) (joined_shares R c d f g i)

since_mapped : (S : ℕ → ℕ → Type 0) (b c d : Content) → ((n m : ℕ) → SharesSubRoot c n m → AreJoinedBy S b n m) → ((n m : ℕ) → BecameOne c d n m → AreJoinedBy S b n m) → {n m : ℕ} → AreJoined c d n m → AreJoinedBy S b n m
since_mapped S b c d f g (sub.before {n = n} {m = m} h) = f n m h
since_mapped S b c d f g (sub.since {n = n} {m = m} h) = g n m h
since_mapped S b c d f g (sub.back h) = back (since_mapped S b c d f g h)
since_mapped S b c d f g (sub.along h i) = along (since_mapped S b c d f g h) (since_mapped S b c d f g i)

-- the same pairs, told in another way
joins_as : (R S : ℕ → ℕ → Type 0) (c d : Content) → ((n m : ℕ) → R n m → AreJoinedBy S c n m) → ((n m : ℕ) → S n m → AreJoinedBy R c n m) → JoinsBy R c d → JoinsBy S c d
joins_as R S c d f g h = record {
  only = λ n m i. joined_mapped R S c c (λ k l j. before j) f (h.only n m i);
  all = λ n m i. h.all n m (joined_mapped S R c c (λ k l j. before j) g i);
}

-- nothing changed
pub joins_none : (R : ℕ → ℕ → Type 0) (c : Content) → ((n m : ℕ) → R n m → ⊥) → JoinsNew R c c
joins_none R c none = record {
  joins = record { only = λ n m h. before h; all = λ n m h. joined_shares R c c (λ k l i. i) (λ k l i. absurd (none k l i)) h };
  links_kept = λ n m h. h;
  links_only = λ n m h. h;
}

-- a new variable that links to another one, or to none
abbrev pub LinksNew : Content → Option ℕ → ℕ → ℕ → Type 0
LinksNew c o n m = (n ≡ length c.slots) × (o ≡ Some m)

joins_added : (c : Content) (v : Slot) → v.state ≡ unset → JoinsNew (LinksNew c v.sub_link) c (with_slot c v)
joins_added c v free =
    let d = with_slot c v in
    let old : (k : ℕ) → k < length c.slots → k ≡ length c.slots → ⊥ = λ k l q. omega (arith, l, q) in
    let kept : (k m : ℕ) → sub_link_of c k ≡ Some (Some m) → SharesSubRoot d k m = λ k m h. linked (field-with_slot_old (λ x. x.sub_link) c v k (old k (field_below (λ x. x.sub_link) c k (Some m) h)) ∙ h) in
    record {
      joins = record {
        only = λ n m h.
            shares_by (LinksNew c v.sub_link) c d
            (λ k l e. ⊎_elim (λ (q : k ≡ length c.slots). (let z : Some v.sub_link ≡ Some (Some l) = sym (field-with_slot_new (λ x. x.sub_link) c v) ∙ ap (sub_link_of d) (sym q) ∙ e in related (q, cc)))
            (λ (q : k ≡ length c.slots → ⊥). before (linked (sym (field-with_slot_old (λ x. x.sub_link) c v k q) ∙ e))) (same_or_other k (length c.slots))) h;
        all = λ n m h.
            joined_shares (LinksNew c v.sub_link) c d (λ k l i. shares-mapped c d kept i)
            (λ k l i. linked (ap (sub_link_of d) i.0 ∙ field-with_slot_new (λ x. x.sub_link) c v ∙ ap Some i.1)) h;
      };
      links_kept = λ k m h. field-with_slot_old (λ x. x.state) c v k (old k (field_below (λ x. x.state) c k (link m) h)) ∙ h;
      links_only = λ k m h.
          (let other : k ≡ length c.slots → ⊥ = λ q.
          (let z : Some v.state ≡ Some (link m) = sym (field-with_slot_new (λ x. x.state) c v) ∙ ap (state_of d) (sym q) ∙ h in
          let y : unset ≡ link m = sym free ∙ cc in cc) in
          sym (field-with_slot_old (λ x. x.state) c v k other) ∙ h);
    }

-- one step after another
pub joins_then : (R S : ℕ → ℕ → Type 0) (b c d : Content) → JoinsNew R b c → JoinsNew S c d → JoinsNew (λ n m. R n m ⊎ S n m) b d
joins_then R S b c d x y =
    let p = x.joins in
    let q = y.joins in
    let both : ℕ → ℕ → Type 0 = λ n m. R n m ⊎ S n m in
    record {
      joins = record {
        only = λ n m h. joined_mapped S both c b (λ k l i. joined_mapped R both b b (λ o r j. before j) (λ o r j. related (inl j)) (p.only k l i)) (λ k l i. related (inr i)) (q.only n m h);
        all = λ n m h.
            joined_shares both b d (λ k l i. q.all k l (before (p.all k l (before i))))
            (λ k l i. ⊎_elim (λ j. q.all k l (before (p.all k l (related j)))) (λ j. q.all k l (related j)) i) h;
      };
      links_kept = λ n m h. y.links_kept n m (x.links_kept n m h);
      links_only = λ n m h. x.links_only n m (y.links_only n m h);
    }

-- what then became one joins too
pub joins_since : (R : ℕ → ℕ → Type 0) (b c d : Content) → JoinsNew R b c → JoinsSubRoots c d → JoinsBy (λ n m. R n m ⊎ BecameOne b d n m) b d
joins_since R b c d x y =
    let p = x.joins in
    let both : ℕ → ℕ → Type 0 = λ n m. R n m ⊎ BecameOne b d n m in
    record {
      only = λ n m h.
          since_mapped both b c d (λ k l i. joined_mapped R both b b (λ o r j. before j) (λ o r j. related (inl j)) (p.only k l i))
          (λ k l i. related (inr (record { of_kind = i.of_kind; has = i.has; no_region = i.no_region; was = λ j e. i.was j (x.links_kept k j e); is = i.is }))) (y.only n m h);
      all = λ n m h.
          joined_shares both b d (λ k l i. y.all k l (sub.before (p.all k l (before i))))
          (λ k l i. ⊎_elim (λ j. y.all k l (sub.before (p.all k l (related j))))
          (λ (j : BecameOne b d k l). y.all k l (sub.since (record { of_kind = j.of_kind; has = j.has; no_region = j.no_region; was = λ o e. j.was o (x.links_only k o e); is = j.is }))) i) h;
    }

-- universes were made before
pub placed_moved : (R : ℕ → ℕ → Type 0) (c d : Content) (u : ℕ) → JoinsNew R (in_universe c u) d → JoinsNew R c d
placed_moved R c d u x =
    let p = x.joins in
    let moved = in_universe c u in
    record {
      joins = record {
        only = λ n m h. joined_mapped R R moved c (λ k l i. before (shares-mapped moved c (λ o r j. linked j) i)) (λ k l i. related i) (p.only n m h);
        all = λ n m h. p.all n m (joined_mapped R R c moved (λ k l i. before (shares-mapped c moved (λ o r j. linked j) i)) (λ k l i. related i) h);
      };
      links_kept = λ n m h. x.links_kept n m h;
      links_only = λ n m h. x.links_only n m h;
    }

-- one position more
placed_old : (ks : List PositionKind) (k : PositionKind) (xs : List Tree) (x : Tree) (n m : ℕ) → length xs ≡ length ks → ArePlaced ks xs n m → ArePlaced (ks ++ k ∷ []) (xs ++ x ∷ []) n m
placed_old ks k xs x n m l h =
    let below : h.position < length ks = slice_get_below ks h.position (type_variable h.universe h.first) h.kind in
    let first = h.earlier in
    record {
      position = h.position;
      universe = h.universe;
      first = h.first;
      kind = slice_get-push_old ks k h.position (λ e. omega (arith, below, e)) ∙ h.kind;
      earlier = first;
      here = ap type_variable_of (slice_get-push_old xs x h.position (λ e. omega (arith, below, l, e))) ∙ h.here;
      there = ap type_variable_of (slice_get-push_old xs x h.first (λ e. omega (arith, below, l, first, e))) ∙ h.there;
    }

variable_within : (xs : List Tree) (i n : ℕ) → type_variable_of (slice_get xs i) ≡ Some n → i < length xs
variable_within xs i n h = by_entry (slice_get xs i) refl
  where
    by_entry : (o : Option Tree) → slice_get xs i ≡ o → i < length xs
    by_entry None e = (let z : None ≡ Some n = sym (ap type_variable_of e) ∙ h in cc)
    by_entry (Some t) e = slice_get_below xs i t e

placed_next : (ks : List PositionKind) (k : PositionKind) (xs : List Tree) (x : Tree) (n m : ℕ) → length xs ≡ length ks → IsPlacedNext k xs x n m → ArePlaced (ks ++ k ∷ []) (xs ++ x ∷ []) n m
placed_next ks k xs x n m l h =
    let below : h.first < length xs = variable_within xs h.first m h.there in
    record {
      position = length ks;
      universe = h.universe;
      first = h.first;
      kind = slice_get-push_new ks k ∙ ap Some h.kind;
      earlier = omega (arith, below, l);
      here = ap type_variable_of (ap (slice_get (xs ++ x ∷ [])) (sym l) ∙ slice_get-push_new xs x) ∙ h.here;
      there = ap type_variable_of (slice_get-push_old xs x h.first (λ e. omega (arith, below, e))) ∙ h.there;
    }

placed_split : (ks : List PositionKind) (k : PositionKind) (xs : List Tree) (x : Tree) (n m : ℕ) → length xs ≡ length ks → ArePlaced (ks ++ k ∷ []) (xs ++ x ∷ []) n m → ArePlaced ks xs n m ⊎ IsPlacedNext k xs x n m
placed_split ks k xs x n m l h = ⊎_elim
    (λ (e : h.position ≡ length ks).
    let early : h.first < length xs = (let q = h.earlier in omega (arith, q, e, l)) in
    let is : Some k ≡ Some (type_variable h.universe h.first) = sym (slice_get-push_new ks k) ∙ ap (slice_get (ks ++ k ∷ [])) (sym e) ∙ h.kind in
    inr (record {
      universe = h.universe;
      first = h.first;
      kind = cc;
      here = sym (ap type_variable_of (ap (slice_get (xs ++ x ∷ [])) (e ∙ sym l) ∙ slice_get-push_new xs x)) ∙ h.here;
      there = sym (ap type_variable_of (slice_get-push_old xs x h.first (λ q. omega (arith, early, q)))) ∙ h.there;
    }))
    (λ (e : h.position ≡ length ks → ⊥).
    let is : slice_get ks h.position ≡ Some (type_variable h.universe h.first) = sym (slice_get-push_old ks k h.position e) ∙ h.kind in
    let below : h.position < length ks = slice_get_below ks h.position (type_variable h.universe h.first) is in
    inl (record {
      position = h.position;
      universe = h.universe;
      first = h.first;
      kind = is;
      earlier = h.earlier;
      here = sym (ap type_variable_of (slice_get-push_old xs x h.position (λ q. omega (arith, below, l, q)))) ∙ h.here;
      there = sym (ap type_variable_of (slice_get-push_old xs x h.first (λ q. (let z = h.earlier in omega (arith, below, l, z, q))))) ∙ h.there;
    }))
    (same_or_other h.position (length ks))

pub placed_more : (b c d : Content) (ks : List PositionKind) (k : PositionKind) (xs : List Tree) (x : Tree) → length xs ≡ length ks → JoinsNew (ArePlaced ks xs) b c → JoinsNew (IsPlacedNext k xs x) c d → JoinsNew (ArePlaced (ks ++ k ∷ []) (xs ++ x ∷ [])) b d
placed_more b c d ks k xs x l h i =
    let both = joins_then (ArePlaced ks xs) (IsPlacedNext k xs x) b c d h i in
    record {
      joins = joins_as (λ n m. ArePlaced ks xs n m ⊎ IsPlacedNext k xs x n m) (ArePlaced (ks ++ k ∷ []) (xs ++ x ∷ [])) b d
          (λ n m j. related (⊎_elim (placed_old ks k xs x n m l) (placed_next ks k xs x n m l) j)) (λ n m j. related (placed_split ks k xs x n m l j)) both.joins;
      links_kept = both.links_kept;
      links_only = both.links_only;
    }

pub placed_none : (c : Content) → JoinsNew (ArePlaced [] []) c c
placed_none c = joins_none (ArePlaced [] []) c (λ n m h. (let e : None ≡ Some (type_variable h.universe h.first) = h.kind in cc))

-- a variable shares its sub root
shares_root : (ts : List Tree) (e : Entries) (n r : ℕ) → SubLeads e n r → SharesSubRoot (content_of ts e) n r
shares_root ts e n r here = itself
shares_root ts e n r (on {m = m} v h at is) = through (shares_root ts e n m h) (linked (sub_link_of-entry ts e m v at ∙ ap Some is))

-- a value that is no type variable has no sub root
abbrev pub is_other : PositionKind → Type 0
is_other (type_variable u r) = ⊥
is_other k = Unit {0}

next_other : (k : PositionKind) (xs : List Tree) (x : Tree) → is_other k → (n m : ℕ) → IsPlacedNext k xs x n m → ⊥
next_other k xs x o n m h = subst is_other h.kind o

-- the content after one more variable
module _ (a b : List Tree) (e f : Entries) (lawful : IsLawful a e) (up : Extends a b) where
  content_with : (v : Variable) → f ≡ added e v → content_of b f ≡ with_slot (content_of a e) (slot_of b v)
  content_with v q = ap (content_of b) q ∙ content_of-added b e v ∙ ap (λ z. with_slot z (slot_of b v)) (content_of-extended up lawful)

  added_alone : (k : PositionKind) (xs : List Tree) (x : Tree) (v : Variable) → is_other k → v.state ≡ Unset → v.sub_link ≡ None → f ≡ added e v → JoinsNew (IsPlacedNext k xs x) (content_of a e) (content_of b f)
  added_alone k xs x v o free alone q =
      let c = content_of a e in
      let h = joins_added c (slot_of b v) (rw free refl) in
      let none : (n m : ℕ) → LinksNew c v.sub_link n m → ⊥ = λ n m l. (let z : None ≡ Some m = sym alone ∙ l.1 in cc) in
      subst (JoinsNew (IsPlacedNext k xs x) c) (sym (content_with v q))
      (record {
        joins = joins_as (LinksNew c v.sub_link) (IsPlacedNext k xs x) c (with_slot c (slot_of b v)) (λ n m l. absurd (none n m l)) (λ n m l. absurd (next_other k xs x o n m l)) h.joins;
        links_kept = h.links_kept;
        links_only = h.links_only;
      })

  same_content : (k : PositionKind) (xs : List Tree) (x : Tree) → is_other k → f ≡ e → JoinsNew (IsPlacedNext k xs x) (content_of a e) (content_of b f)
  same_content k xs x o q = subst (JoinsNew (IsPlacedNext k xs x) (content_of a e)) (sym (ap (content_of b) q ∙ content_of-extended up lawful)) (joins_none (IsPlacedNext k xs x) (content_of a e) (next_other k xs x o))

  -- a type variable, with the sub root of an earlier one or with none
  placed_variable : (w r u : ℕ) (xs : List Tree) (x : Tree) (o : Option ℕ) → x ≡ leaf_tree (value_leaf (type_variable w r) u (length e.variables)) → type_variable_of (slice_get xs r) ≡ o → IsAddedTo e f (unset_variable kind.Ty u) o
      → JoinsNew (IsPlacedNext (type_variable w r) xs x) (content_of a e) (content_of b f)
  placed_variable w r u xs x None is at q =
      let c = content_of a e in
      let v = unset_variable kind.Ty u in
      let h = joins_added c (slot_of b v) refl in
      let none : (n m : ℕ) → LinksNew c None n m → ⊥ = λ n m l. (let z : None ≡ Some m = l.1 in cc) in
      let unplaced : (n m : ℕ) → IsPlacedNext (type_variable w r) xs x n m → ⊥ = λ n m l.
      (let k : type_variable w r ≡ type_variable l.universe l.first = l.kind in
      let first : r ≡ l.first = cc in
      let z : None ≡ Some m = sym at ∙ ap (λ j. type_variable_of (slice_get xs j)) first ∙ l.there in cc) in
      subst (JoinsNew (IsPlacedNext (type_variable w r) xs x) c) (sym (content_with v q))
      (record {
        joins = joins_as (LinksNew c None) (IsPlacedNext (type_variable w r) xs x) c (with_slot c (slot_of b v)) (λ n m l. absurd (none n m l)) (λ n m l. absurd (unplaced n m l)) h.joins;
        links_kept = h.links_kept;
        links_only = h.links_only;
      })
  placed_variable w r u xs x (Some m0) is at (r0, root, q) =
      let c = content_of a e in
      let v : Variable = record (unset_variable kind.Ty u) { sub_link = Some r0 } in
      let P = IsPlacedNext (type_variable w r) xs x in
      let L = LinksNew c (Some r0) in
      let h = joins_added c (slot_of b v) refl in
      let long : length c.slots ≡ length e.variables = length-map e.variables (slot_of a) in
      let here : type_variable_of (Some x) ≡ Some (length c.slots) = ap (λ t. type_variable_of (Some t)) is ∙ ap Some (sym long) in
      let shares : SharesSubRoot c m0 r0 = shares_root a e m0 r0 root.leads in
      let placed : P (length c.slots) m0 = record { universe = w; first = r; kind = refl; here = here; there = at } in
      let forth : (n m : ℕ) → L n m → AreJoinedBy P c n m = λ n m l.
      (let to : r0 ≡ m = (let z : Some r0 ≡ Some m = l.1 in cc) in
      subst (λ j. AreJoinedBy P c j m) (sym l.0) (subst (AreJoinedBy P c (length c.slots)) to (along (related placed) (before shares)))) in
      let linked_new : L (length c.slots) r0 = (refl, refl) in
      let other : (n m : ℕ) → P n m → AreJoinedBy L c n m = λ n m l.
      (let k : type_variable w r ≡ type_variable l.universe l.first = l.kind in
      let first : r ≡ l.first = cc in
      let from : Some (length c.slots) ≡ Some n = sym here ∙ l.here in
      let to : Some m0 ≡ Some m = sym at ∙ ap (λ j. type_variable_of (slice_get xs j)) first ∙ l.there in
      let n_is : length c.slots ≡ n = cc in
      let m_is : m0 ≡ m = cc in
      subst (λ j. AreJoinedBy L c j m) n_is (subst (AreJoinedBy L c (length c.slots)) m_is (along (related linked_new) (back (before shares))))) in
      subst (JoinsNew P c) (sym (content_with v q))
      (record { joins = joins_as L P c (with_slot c (slot_of b v)) forth other h.joins; links_kept = h.links_kept; links_only = h.links_only })

  -- what the value of a kind adds
  pub value_placed : (k : PositionKind) (u : ℕ) (xs : List Tree) (x : Tree) → IsPositionValue k u xs e f x → JoinsNew (IsPlacedNext k xs x) (content_of a e) (content_of b f)
  value_placed (type_variable w r) u xs x h = placed_variable w r u xs x (type_variable_of (slice_get xs r)) h.tree refl h.adds
  value_placed integer_variable u xs x h = added_alone integer_variable xs x (unset_variable kind.Int 0) tt refl refl h.adds
  value_placed float_variable u xs x h = added_alone float_variable xs x (unset_variable kind.Float 0) tt refl refl h.adds
  value_placed (const_variable w) u xs x h = added_alone (const_variable w) xs x (unset_variable kind.Const u) tt refl refl h.adds
  value_placed (region_variable w) u xs x h = added_alone (region_variable w) xs x (unset_variable kind.Region u) tt refl refl h.adds
  value_placed (placeholder s w n) u xs x h = same_content (placeholder s w n) xs x tt h.adds

  -- a placeholder of the root, and a guess, which is of no type variable
  pub named_placed : (k : PositionKind) (xs : List Tree) (x : Tree) (n : ℕ) → original_named k ≡ Some n → f ≡ e → JoinsNew (IsPlacedNext k xs x) (content_of a e) (content_of b f)
  named_placed (type_variable w r) xs x n o q = cc
  named_placed integer_variable xs x n o q = cc
  named_placed float_variable xs x n o q = cc
  named_placed (const_variable w) xs x n o q = cc
  named_placed (region_variable w) xs x n o q = cc
  named_placed (placeholder s w m) xs x n o q = same_content (placeholder s w m) xs x tt q

  pub guess_placed : (c : Content) (values os : List Tree) (i : ℕ) (k : PositionKind) (xs : List Tree) (x : Tree) → GuessFits c values os i k x → f ≡ e → JoinsNew (IsPlacedNext k xs x) (content_of a e) (content_of b f)
  guess_placed c values os i (type_variable w r) xs x g q = absurd g
  guess_placed c values os i integer_variable xs x g q = same_content integer_variable xs x tt q
  guess_placed c values os i float_variable xs x g q = same_content float_variable xs x tt q
  guess_placed c values os i (const_variable w) xs x g q = same_content (const_variable w) xs x tt q
  guess_placed c values os i (region_variable w) xs x g q = same_content (region_variable w) xs x tt q
  guess_placed c values os i (placeholder s w n) xs x g q = absurd g
