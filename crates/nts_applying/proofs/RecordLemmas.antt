-- Region constraints recorded one by one: what the table then means and holds.
use Rattle.std.proofs.Common.{◌≡◌, inl, inr, ⊎_elim, ℕ, ◌<◌, ◌≤◌, Bool, false, min, max, List, Option, Some, None, refl, sym, ap, subst, ◌∙◌, arith}
use Rattle.std.specs.Prelude.{slice_get, Result, Ok, Err, OnOk, OnErr}
use Rattle.std.proofs.lemmas.Bool.{cases_lt}
use Rattle.nts_model.specs.Tables.SubUnifying.{JoinsSubRoots}
use Rattle.nts_model.proofs.Tables.SubUnified.{JoinsSubRoots-refl, JoinsSubRoots-same}
use Rattle.nts_model.specs.declared.labels.Relation.{Relation}
use Rattle.nts_model.specs.declared.labels.Relation.TheVariants as relation
use Rattle.nts_model.specs.declared.labels.VariableKind.TheVariants as kind
use Rattle.nts_model.specs.declared.labels.Leaf.TheVariants as leaf
use Rattle.nts_model.specs.declared.labels.Label.TheVariants as label
use Rattle.nts_model.specs.Terms.Trees.{Tree, empty, more, node, IsClosed, variable_tree}
use Rattle.nts_model.specs.Tables.Contents.{Content, Recorded, with_constraint}
use Rattle.nts_model.specs.Tables.Resolving.{Knows, IsSound, deeply_resolved}
use Rattle.nts_model.specs.Tables.Worlds.{World, inst, IsTrueOf}
use Rattle.nts_model.specs.Terms.Regions.{IsRegion}
use Rattle.nts_model.specs.Tables.Holding.{IsTrivialUnder, HasSides, IsRecorded}
use Rattle.nts_model.specs.Tables.Alike.{Alike, one_tree, two_regions, one_label, two_rows, HoldsEqual}
use Rattle.nts_model.specs.Answers.Applying.{IsProperContent, IsRecordedIn}
use Rattle.nts_model.proofs.Tables.AlikeNodes.{empty_like}
use Rattle.nts_model.proofs.Tables.AliasLabels.{region_closed}
use Rattle.nts_model.proofs.Tables.Alike.{IsRegion-deeply_resolved, HoldsEqual-one}
use Rattle.nts_model.proofs.Tables.Resolved.{deeply_resolved-deeply_resolved}
use Rattle.nts_model.proofs.Tables.Fitting.{region_label}
use Rattle.nts_model.proofs.Tables.Held.{Continues-refl, Continues-with_constraint, HoldsConstraint-with_constraint}
use Rattle.nts_model.proofs.Tables.Solving.{Solves-with_constraint, Solves-from_with_constraint}
use Rattle.nts_model.proofs.Tables.Instances.{tree-reaches}
use Rattle.nts_store.specs.declared.nodes.NodeId.{NodeId}
use Rattle.nts_store.specs.Growth.{tree_at}
use Rattle.nts_unify.specs.declared.contents.Constraint.{Constraint}
use Rattle.nts_unify.specs.declared.contents.Variable.{Variable}
use Rattle.nts_unify.specs.Entries.{Entries, with_variable}
use Rattle.nts_unify.specs.Lawful.{content_of-constrained}
use Rattle.nts_unify.specs.Reading.{content_of, recorded_of, IsLawful}
use Rattle.nts_unify.specs.Recording as recording
use Rattle.nts_unify.specs.Equating.{RegionsLinked, RegionsJoined, region_of, EquatedAt, Equated}
use Rattle.nts_unify.specs.Roots.{IsRoot}
use Rattle.nts_unify.specs.Unchanged.{HasUnset}
use Rattle.nts_unify.specs.Joining.{RegionsJoin}
use Rattle.nts_unify.proofs.JoinLemmas.{regions_join}
use Rattle.nts_unify.proofs.Leading.{IsRoot-content, Reaches-leads}
use Rattle.nts_equating.specs.nts_relating.specs.Relating.{RegionsRelate}
use Rattle.nts_equating.specs.nts_relating.proofs.RegionLemmas.{IsRegionVariable, regions_same, regions_joined}
use Rattle.nts_model.proofs.Tables.Slots.{KeepsKinds, KeepsKinds-refl}
use Rattle.nts_store.specs.declared.fault.Fault.{Fault}
use Rattle.nts_table.specs.Tables.{Table}
use Rattle.nts_table.proofs.RegionLinks.{known_region, open_region}
use Rattle.nts_response.specs.Recorded.{AddsSeen}

-- a constraint whose sides are one is recorded already
same_sides_met : (w : World) (r : Relation) (a b : Tree) → (r ≡ relation.TypeOutlives → ⊥) → a ≡ b → IsTrueOf w r (inst w a) (inst w b)
same_sides_met w relation.Equal a b d e = ap (inst w) e
same_sides_met w relation.RegionOutlives a b d e = inl (ap (inst w) e)
same_sides_met w relation.TypeOutlives a b d e = absurd (d refl)

same_sides_trivial : (c : Content) (r : Relation) (a b : Tree) → (r ≡ relation.TypeOutlives → ⊥) → a ≡ b → IsTrivialUnder c r a b
same_sides_trivial c relation.Equal a b d e = ap (deeply_resolved c) e
same_sides_trivial c relation.RegionOutlives a b d e = ap (deeply_resolved c) e
same_sides_trivial c relation.TypeOutlives a b d e = absurd (d refl)

recorded_already : (c : Content) (x : Recorded) → IsProperContent c → (x.relation ≡ relation.TypeOutlives → ⊥) → x.left ≡ x.right → IsRecordedIn c c x
recorded_already c x p d e =
    record {
      continues = Continues-refl c p.sound;
      narrows = record { sound = λ w z. (z, same_sides_met w x.relation x.left x.right d e); complete = λ w z q. z; names = λ f w z k q. k };
      held = inl (same_sides_trivial c x.relation x.left x.right d e);
      proper = p;
    }

recorded_last : (c : Content) (x : Recorded) → IsProperContent c → IsProperContent (with_constraint c x) → IsRecordedIn c (with_constraint c x) x
recorded_last c x p q =
    record {
      continues = Continues-with_constraint c x p.sound;
      narrows = record { sound = λ w z. Solves-from_with_constraint c x w z; complete = λ w z m. Solves-with_constraint c x w z m; names = λ f w z k m. record { each = k.each } };
      held = HoldsConstraint-with_constraint c x;
      proper = q;
    }

pub recorded_in : (ts : List Tree) (e f : Entries) (x : Constraint) → IsProperContent (content_of ts e) → IsProperContent (content_of ts f) → (x.relation ≡ relation.TypeOutlives → tree_at ts x.left ≡ tree_at ts x.right → ⊥) → recording.Records ts e f x → IsRecordedIn (content_of ts e) (content_of ts f) (recorded_of ts x)
recorded_in ts e f x p q d (inl (same, is)) =
    subst (λ z. IsRecordedIn (content_of ts e) (content_of ts z) (recorded_of ts x)) (sym is) (recorded_already (content_of ts e) (recorded_of ts x) p (λ r. d r same) same)
recorded_in ts e f x p q d (inr (apart, is)) =
    let at : content_of ts f ≡ with_constraint (content_of ts e) (recorded_of ts x) = ap (content_of ts) is ∙ content_of-constrained ts e x in
    subst (λ z. IsRecordedIn (content_of ts e) z (recorded_of ts x)) (sym at) (recorded_last (content_of ts e) (recorded_of ts x) p (subst IsProperContent at q))

pub seen_in : (ts : List Tree) (e f : Entries) (x : Constraint) → IsClosed (tree_at ts x.left) → IsRegion (tree_at ts x.right) → recording.Records ts e f x → AddsSeen x.is_visible (content_of ts e).constraints (content_of ts f).constraints
seen_in ts e f x l r (inl (same, is)) = inl (ap (λ z. (content_of ts z).constraints) is)
seen_in ts e f x l r (inr (apart, is)) =
    inr (recorded_of ts x, ap (λ z. (content_of ts z).constraints) is ∙ ap (λ (z : Content). z.constraints) (content_of-constrained ts e x), record { visible = refl; left = l; right = region_closed 0 (tree_at ts x.right) r })

-- the same, whatever the leak check sees of it
HasSides-seen : (c : Content) (r : Relation) (x y : Recorded) (v : Bool) → HasSides c r x y → HasSides c r (record x { is_visible = v }) y
HasSides-seen c relation.Equal x y v h = h
HasSides-seen c relation.RegionOutlives x y v h = h
HasSides-seen c relation.TypeOutlives x y v h = h

pub recorded_seen : (c d : Content) (x : Recorded) (v : Bool) → IsRecordedIn c d x → IsRecordedIn c d (record x { is_visible = v })
recorded_seen c d x v h =
    let n = h.narrows in
    record {
      continues = h.continues;
      narrows = record { sound = n.sound; complete = n.complete; names = n.names };
      held = ⊎_elim (λ (z : IsTrivialUnder d x.relation x.left x.right). inl z)
          (λ (z : IsRecorded d x). inr (record { constraint = z.constraint; found = z.found; same_relation = z.same_relation; same_sides = HasSides-seen d x.relation x z.constraint v z.same_sides })) h.held;
      proper = h.proper;
    }

-- regions that are alike are one, as the table holds
alike_equal : (c : Content) (a b : Tree) → IsRegion a → Alike (HoldsEqual c) a b → HoldsEqual c a b
alike_equal c a b r one_tree = inl refl
alike_equal c a b r (two_regions p q h) = h
alike_equal c a b (x, e) (one_label {l = l} {c = m} {d = n} i h) =
    let (named, none) = region_label l m x e in
    let same : n ≡ m = empty_like (HoldsEqual c) n (subst (λ z. Alike (HoldsEqual c) z n) none h) ∙ sym none in
    inl (ap (λ z. deeply_resolved c (node l z)) (sym same))
alike_equal c a b (x, e) (two_rows p q) = absurd (cc e)

pub related_recorded : (c d : Content) (a b : Tree) (v : Bool) → RegionsRelate c d a b → IsRegion a → IsProperContent d → IsRecordedIn c d (record { relation = relation.Equal; left = a; right = b; is_visible = v })
related_recorded c d a b v h r p =
    let n = h.narrows in
    let s : IsSound d = p.sound in
    let there : HoldsEqual d (deeply_resolved d a) (deeply_resolved d b) = alike_equal d (deeply_resolved d a) (deeply_resolved d b) (IsRegion-deeply_resolved d a r) h.alike in
    let here : HoldsEqual d a b = HoldsEqual-one d (deeply_resolved d a) (deeply_resolved d b) a b (sym (deeply_resolved-deeply_resolved d a s)) (sym (deeply_resolved-deeply_resolved d b s)) there in
    recorded_seen c d (record { relation = relation.Equal; left = a; right = b; is_visible = false }) v (record {
      continues = h.continues;
      narrows = record { sound = n.sound; complete = n.complete; names = n.names };
      held = here;
      proper = p;
    })

-- a region variable of the table
region_variable_tree : (t : Tree) (x : ℕ) → IsRegion t → region_of t ≡ Some x → t ≡ variable_tree kind.Region x
region_variable_tree empty x r e = absurd (cc e)
region_variable_tree (more a b) x r e = absurd (cc e)
region_variable_tree (node (label.Leaf (leaf.Variable kind.Region n)) m) x (y, r) e =
    let (named, none) = region_label (label.Leaf (leaf.Variable kind.Region n)) m y r in
    let same : n ≡ x = cc e in
    cc (none, same)
region_variable_tree (node (label.Leaf (leaf.Variable kind.Ty n)) m) x r e = absurd (cc e)
region_variable_tree (node (label.Leaf (leaf.Variable kind.Int n)) m) x r e = absurd (cc e)
region_variable_tree (node (label.Leaf (leaf.Variable kind.Float n)) m) x r e = absurd (cc e)
region_variable_tree (node (label.Leaf (leaf.Variable kind.Const n)) m) x r e = absurd (cc e)
region_variable_tree (node (label.Leaf (leaf.Region z)) m) x r e = absurd (cc e)
region_variable_tree (node (label.Leaf (leaf.TyConstant z)) m) x r e = absurd (cc e)
region_variable_tree (node (label.Leaf (leaf.ConstConstant z)) m) x r e = absurd (cc e)
region_variable_tree (node (label.Bound s i n) m) x r e = absurd (cc e)
region_variable_tree (node (label.Ty h) m) x r e = absurd (cc e)
region_variable_tree (node (label.Const h) m) x r e = absurd (cc e)
region_variable_tree (node (label.Clause h) m) x r e = absurd (cc e)
region_variable_tree (node (label.Predicate h) m) x r e = absurd (cc e)
region_variable_tree (node (label.List h) m) x r e = absurd (cc e)

region_variable : (ts : List Tree) (e : Entries) (t : Tree) (x r : ℕ) → IsLawful ts e → Knows (content_of ts e) t → IsRegion t → region_of t ≡ Some x → IsRoot e x r → IsRegionVariable (content_of ts e) t x r
region_variable ts e t x r h k i q root =
    record {
      is = region_variable_tree t x i q;
      knows = k;
      root = (let s = h.sound in IsRoot-content ts e x r s.descends root);
      tree = λ w s. tree-reaches (content_of ts e) w x r s (Reaches-leads ts e x r root.leads);
    }

module _ (ts : List Tree) (e f : Entries) (a b : Tree) (x y : ℕ) (h : IsLawful ts e) (ka : Knows (content_of ts e) a) (kb : Knows (content_of ts e) b) (ra : IsRegion a) (rb : IsRegion b) (qa : region_of a ≡ Some x) (qb : region_of b ≡ Some y) where
  first_open : (r : ℕ) (v : Variable) → IsRoot e x r → slice_get e.variables r ≡ Some v → HasUnset e r kind.Region
  first_open r v root at =
      let o = open_region ts e x r v h root (known_region (content_of ts e) a x ka qa) at in
      record { variable = v; at = at; of_kind = o.region; state = o.free }

  second_open : (r : ℕ) (v : Variable) → IsRoot e y r → slice_get e.variables r ≡ Some v → HasUnset e r kind.Region
  second_open r v root at =
      let o = open_region ts e y r v h root (known_region (content_of ts e) b y kb qb) at in
      record { variable = v; at = at; of_kind = o.region; state = o.free }

  linked_join : (r s : ℕ) → IsRoot e x r → IsRoot e y s → RegionsLinked e f r s → RegionsJoin ts e f r s
  linked_join r s p q k =
      let can = ⊎_elim
      (λ (l : r < s).
      let lo : min r s ≡ r = omega arith in
      let hi : max r s ≡ s = omega arith in
      record { first = first_open r k.low p (ap (slice_get e.variables) (sym lo) ∙ k.low_at); second = second_open s k.high q (ap (slice_get e.variables) (sym hi) ∙ k.high_at); apart = k.apart })
      (λ (l : s ≤ r).
      let lo : min r s ≡ s = omega arith in
      let hi : max r s ≡ r = omega arith in
      record { first = first_open r k.high p (ap (slice_get e.variables) (sym hi) ∙ k.high_at); second = second_open s k.low q (ap (slice_get e.variables) (sym lo) ∙ k.low_at); apart = k.apart })
      (cases_lt r s) in
      let low = k.low in
      let high = k.high in
      regions_join ts e (with_variable e (min r s) (record low { universe = min low.universe high.universe })) f r s (min low.universe high.universe) (min r s) (max r s) low high can h refl refl k.low_at k.high_at refl refl k.entries

  joined_relate : RegionsJoined e f x y → RegionsRelate (content_of ts e) (content_of ts f) a b
  joined_relate j =
      let va = region_variable ts e a x j.first h ka ra qa j.of_first in
      let vb = region_variable ts e b y j.second h kb rb qb j.of_second in
      ⊎_elim
      (λ z. subst (λ g. RegionsRelate (content_of ts e) (content_of ts g) a b) (sym z.1) (regions_same (content_of ts e) a b x y j.first j.second h.sound va vb z.0))
      (λ k. regions_joined ts e f a b x y j.first j.second h va vb (linked_join j.first j.second j.of_first j.of_second k)) j.joined

joined_constraints : (ts : List Tree) (e f : Entries) (x y : ℕ) → RegionsJoined e f x y → (content_of ts f).constraints ≡ (content_of ts e).constraints
joined_constraints ts e f x y j =
    ⊎_elim (λ z. ap (λ g. (content_of ts g).constraints) z.1) (λ k. ap (λ g. (content_of ts g).constraints) k.entries) j.joined

-- two regions made equal
pub equated_in : (ts : List Tree) (e f : Entries) (a b : NodeId) (v : Bool) → IsLawful ts e → IsProperContent (content_of ts e) → IsProperContent (content_of ts f) → Knows (content_of ts e) (tree_at ts a) → Knows (content_of ts e) (tree_at ts b) → IsRegion (tree_at ts a) → IsRegion (tree_at ts b) → Equated ts e f a b v
    → IsRecordedIn (content_of ts e) (content_of ts f) (record { relation = relation.Equal; left = tree_at ts a; right = tree_at ts b; is_visible = v }) × AddsSeen v (content_of ts e).constraints (content_of ts f).constraints
equated_in ts e f a b v h p q ka kb ra rb k = by_region (region_of (tree_at ts a)) (region_of (tree_at ts b)) refl refl k
  where
    by_record : recording.Records ts e f (record { relation = relation.Equal; left = a; right = b; is_visible = v })
        → IsRecordedIn (content_of ts e) (content_of ts f) (record { relation = relation.Equal; left = tree_at ts a; right = tree_at ts b; is_visible = v }) × AddsSeen v (content_of ts e).constraints (content_of ts f).constraints
    by_record z =
        let x : Constraint = record { relation = relation.Equal; left = a; right = b; is_visible = v } in
        (recorded_in ts e f x p q (λ i j. cc i) z, seen_in ts e f x (region_closed 0 (tree_at ts a) ra) rb z)

    by_region : (o s : Option ℕ) → region_of (tree_at ts a) ≡ o → region_of (tree_at ts b) ≡ s → EquatedAt o s ts e f a b v
        → IsRecordedIn (content_of ts e) (content_of ts f) (record { relation = relation.Equal; left = tree_at ts a; right = tree_at ts b; is_visible = v }) × AddsSeen v (content_of ts e).constraints (content_of ts f).constraints
    by_region (Some x) (Some y) i j z =
        (related_recorded (content_of ts e) (content_of ts f) (tree_at ts a) (tree_at ts b) v (joined_relate ts e f (tree_at ts a) (tree_at ts b) x y h ka kb ra rb i j z) ra q, inl (joined_constraints ts e f x y z))
    by_region None s i j z = by_record z
    by_region (Some x) None i j z = by_record z

-- no classes of sub-unification are joined by what is recorded, and none by regions
pub recorded_joins : (ts : List Tree) (e f : Entries) (x : Constraint) → recording.Records ts e f x → JoinsSubRoots (content_of ts e) (content_of ts f)
recorded_joins ts e f x (inl (same, is)) = subst (λ z. JoinsSubRoots (content_of ts e) (content_of ts z)) (sym is) (JoinsSubRoots-refl (content_of ts e))
recorded_joins ts e f x (inr (apart, is)) =
    let at : content_of ts f ≡ with_constraint (content_of ts e) (recorded_of ts x) = ap (content_of ts) is ∙ content_of-constrained ts e x in
    subst (JoinsSubRoots (content_of ts e)) (sym at) (JoinsSubRoots-same (content_of ts e) (with_constraint (content_of ts e) (recorded_of ts x)) (λ n m h. h) (λ n m k h i j. h) (λ n m h. h) (λ n m h. h))

pub equated_joins : (ts : List Tree) (e f : Entries) (a b : NodeId) (v : Bool) → IsLawful ts e → Knows (content_of ts e) (tree_at ts a) → Knows (content_of ts e) (tree_at ts b) → IsRegion (tree_at ts a) → IsRegion (tree_at ts b) → Equated ts e f a b v → JoinsSubRoots (content_of ts e) (content_of ts f)
equated_joins ts e f a b v h ka kb ra rb k = by_region (region_of (tree_at ts a)) (region_of (tree_at ts b)) refl refl k
  where
    by_region : (o s : Option ℕ) → region_of (tree_at ts a) ≡ o → region_of (tree_at ts b) ≡ s → EquatedAt o s ts e f a b v → JoinsSubRoots (content_of ts e) (content_of ts f)
    by_region (Some m) (Some n) i j z =
        let related = joined_relate ts e f (tree_at ts a) (tree_at ts b) m n h ka kb ra rb i j z in
        let keeps = related.keeps in
        let later = keeps.later in
        later.subs
    by_region None s i j z = recorded_joins ts e f (record { relation = relation.Equal; left = a; right = b; is_visible = v }) z
    by_region (Some m) None i j z = recorded_joins ts e f (record { relation = relation.Equal; left = a; right = b; is_visible = v }) z

-- the variables stay, whatever was answered
pub recorded_kinds : (r : Result (Unit {0}) Fault) (ts : List Tree) (t u : Table) (x : Recorded) → OnOk r (IsRecordedIn (content_of ts t.entries) (content_of ts u.entries) x) → OnErr r (u ≡ t) → KeepsKinds (content_of ts t.entries) (content_of ts u.entries)
recorded_kinds (Ok z) ts t u x h e = (let k = h.continues in record { grows = k.grows; kinds = k.kinds })
recorded_kinds (Err z) ts t u x h e = subst (λ g. KeepsKinds (content_of ts t.entries) (content_of ts g.entries)) (sym e) (KeepsKinds-refl (content_of ts t.entries))
