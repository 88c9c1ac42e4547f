-- Leaves of a value: the variables and regions that stand in it, old ones or fresh ones.
use Rattle.nts_unify.proofs.Changes.{some_inj}
use Rattle.std.proofs.Common.{◌≡◌, ◌≢◌, true, false, ℕ, ◌<◌, ◌≤◌, min, max, List, [], ◌∷◌, length, map, Option, Some, None, refl, sym, ap, subst, ◌∙◌, arith}
use Rattle.std.specs.Prelude.{slice_get}
use Rattle.nts_model.specs.declared.labels.Relation.TheVariants as relation
use Rattle.nts_model.specs.declared.labels.VariableKind.{VariableKind}
use Rattle.nts_model.specs.declared.labels.VariableKind.TheVariants as kind
use Rattle.nts_model.specs.declared.labels.Leaf.TheVariants as leaf
use Rattle.nts_model.specs.declared.labels.Label.{Label}
use Rattle.nts_model.specs.declared.labels.Label.TheVariants as label
use Rattle.nts_model.specs.Terms.Trees.{Tree, node, children, shape, Meets, any_label, is_infer, is_region_infer, is_placeholder, infer_of, variable_of, variable_tree}
use Rattle.nts_model.specs.Tables.Contents.{Content, unset, state_of, kind_at, universe_of, with_slot}
use Rattle.nts_model.specs.Tables.Resolving.{IsSound, resolved, root_of, Knows, variable_rank}
use Rattle.nts_model.specs.Terms.Regions.{RegionName, of_variable, IsRegion, name_of_label}
use Rattle.nts_model.proofs.Tables.Fitting.{region_label}
use Rattle.nts_model.proofs.Tables.Roots.{root_of-root}
use Rattle.nts_model.proofs.Tables.Classes.{root_of-with_slot}
use Rattle.nts_model.specs.Terms.Placeholders.{CanName}
use Rattle.nts_model.specs.Tables.Levels.{NamesAll, region_level}
use Rattle.nts_model.specs.Tables.Worlds.{KnowsAll}
use Rattle.nts_model.specs.Tables.Holding.{AreOne}
use Rattle.nts_model.proofs.Tables.Alike.{AreAlike-turned}
use Rattle.nts_model.proofs.Tables.Bringing.{brings-turned}
use Rattle.nts_model.proofs.Tables.Slots.{slice_get-push_old, slice_get-push_new, slice_get_below, field_below}
use Rattle.nts_store.specs.declared.nodes.NodeId.{NodeId}
use Rattle.nts_store.specs.declared.type_flags.TypeFlags.{TypeFlags}
use Rattle.nts_store.specs.TypeFlags.{flags_of, escaping}
use Rattle.nts_store.proofs.Escaping.{IsBelow, closed_under}
use Rattle.nts_store.specs.Growth.{tree_at, IsIn, Extends}
use Rattle.nts_store.proofs.Growing.{IsIn-extended}
use Rattle.nts_unify.specs.declared.contents.Variable.{Variable}
use Rattle.nts_unify.specs.declared.contents.Constraint.{Constraint}
use Rattle.nts_unify.specs.Entries.{Entries, added, constrained}
use Rattle.nts_unify.specs.Reading.{state_with, slot_of, recorded_of, content_of, IsConstraint, AreConstraints, IsLawful}
use Rattle.nts_unify.specs.Roots.{IsRoot}
use Rattle.nts_unify.specs.Changing.{region_variable, is_free_region}
use Rattle.nts_unify.specs.Unchanged.{HasUnset}
use Rattle.nts_unify.specs.Joining.{CanJoin, CanJoinRegions, Joins, RegionsJoin}
use Rattle.nts_relating.specs.Relating.{IsLike, IsUnset, IsOpen, IsRegionOf, RegionsRelate, IsSettledByFlags, StaysBelow, Generalized}
use Rattle.nts_unify.specs.Lawful.{IsNew, content_of-added, content_of-extended, IsLawful-added, IsLawful-extended}
use Rattle.nts_unify.proofs.Changes.{length-slots}
use Rattle.nts_unify.proofs.Leading.{universe_of-entry}
use Rattle.nts_unify.proofs.Keeping.{Knows-later}
use Rattle.nts_unify.proofs.JoinLemmas.{free_slot}
use Rattle.nts_relating.proofs.RegionLemmas.{IsRegionVariable, region_variable_at, regions_one_class, regions_joined, regions_recorded}
use Rattle.nts_relating.proofs.HeadLemmas.{region_root}
use Rattle.nts_relating.proofs.GenLemmas.{region_node, gen_named, gen_region, gen_region_root, gen_settled}
use Rattle.nts_relating.proofs.FreshValues.{gen_fresh, gen_fresh_region, IsAdded, slot_added}
use Rattle.nts_unify.proofs.NodeLemmas.{region_free, sides_of}

-- the kind that is read is the variable's
pub kind_read : (e : Entries) (y : ℕ) (k : VariableKind) (w : Variable) → HasUnset e y k → slice_get e.variables y ≡ Some w → w.kind ≡ k
kind_read e y k w h at =
    let same = some_inj h.variable w (sym h.at ∙ at) in ap (λ (v : Variable). v.kind) (sym same) ∙ h.of_kind

unset_in : (ts : List Tree) (e : Entries) (y : ℕ) (k : VariableKind) → k ≢ kind.Region → HasUnset e y k → IsUnset (content_of ts e) y k
unset_in ts e y k n h = let f = free_slot ts e y k h in record { has = f.kind; no_region = n; state = f.state }

-- a variable that stays
pub named_value : (ts us : List Tree) (e : Entries) (x u b y : ℕ) (t r : Tree) (w : Variable) → IsLawful ts e → IsOpen ts e t y → (y ≡ x → ⊥) → slice_get e.variables y ≡ Some w → w.universe ≤ u → Extends ts us → r ≡ variable_tree w.kind y → Generalized (content_of ts e) (content_of us e) x u b t r
named_value ts us e x u b y t r w h o d at low ext q =
    let k = o.bindable.of_kind in
    let same = kind_read e y k w o.bindable.free at in
    let is : r ≡ variable_tree k y = q ∙ ap (λ j. variable_tree j y) same in
    rw (is, content_of-extended ext h) (gen_named (content_of ts e) x u b y k t h.sound (unset_in ts e y k o.bindable.no_region o.bindable.free) o.infer o.rank o.like d (rw (universe_of-entry ts e y w at) low) o.same o.worlds)

HasUnset-added : (e : Entries) (v : Variable) (n : ℕ) (k : VariableKind) → HasUnset e n k → HasUnset (added e v) n k
HasUnset-added e v n k h =
    let below = slice_get_below e.variables n h.variable h.at in
    record {
      variable = h.variable;
      at = slice_get-push_old e.variables v n (λ q. omega (arith, q, below)) ∙ h.at;
      of_kind = h.of_kind;
      state = h.state;
    }

HasUnset-new : (e : Entries) (v : Variable) (k : VariableKind) → IsNew e v → v.kind ≡ k → HasUnset (added e v) (length e.variables) k
HasUnset-new e v k n q =
    record { variable = v; at = slice_get-push_new e.variables v; of_kind = q; state = n.state }

apart_from_new : (e : Entries) (n : ℕ) (k : VariableKind) → HasUnset e n k → n ≡ length e.variables → ⊥
apart_from_new e n k h q = let below = slice_get_below e.variables n h.variable h.at in omega (arith, q, below)

pub can_join_fresh : (ts : List Tree) (e m : Entries) (y number : ℕ) (t : Tree) (v w : Variable) → IsLawful ts e → IsOpen ts e t y → slice_get e.variables y ≡ Some w → v.kind ≡ w.kind → IsNew e v → m ≡ added e v → number ≡ length e.variables → CanJoin m y number
can_join_fresh ts e m y number t v w h o at vk new em en =
    let k = o.bindable.of_kind in
    let same = kind_read e y k w o.bindable.free at in
    let can : CanJoin (added e v) y (length e.variables) = record {
      of_kind = k;
      no_region = o.bindable.no_region;
      first = HasUnset-added e v y k o.bindable.free;
      second = HasUnset-new e v k new (vk ∙ same);
      apart = apart_from_new e y k o.bindable.free;
      descends = (IsLawful-added ts e v h new).descends;
    } in
    rw (em, en) can

pub can_join_fresh_region : (e m : Entries) (y number : ℕ) (v : Variable) → HasUnset e y kind.Region → v.kind ≡ kind.Region → IsNew e v → m ≡ added e v → number ≡ length e.variables → CanJoinRegions m y number
can_join_fresh_region e m y number v h vk new em en =
    let can : CanJoinRegions (added e v) y (length e.variables) = record {
      first = HasUnset-added e v y kind.Region h;
      second = HasUnset-new e v kind.Region new vk;
      apart = apart_from_new e y kind.Region h;
    } in
    rw (em, en) can

pub lawful_sides : (ts : List Tree) (e : Entries) → IsLawful ts e → KnowsAll (content_of ts e) (content_of ts e).constraints
lawful_sides ts e h = sides_of ts (content_of ts e) e.constraints h.constraints

pub added_in : (ts : List Tree) (e m : Entries) (v : Variable) → IsLawful ts e → IsNew e v → v.sub_link ≡ None → m ≡ added e v → IsAdded (content_of ts e) (content_of ts m) (slot_of ts v)
added_in ts e m v h new alone em =
    let is : content_of ts m ≡ with_slot (content_of ts e) (slot_of ts v) = ap (content_of ts) em ∙ content_of-added ts e v in
    rw is (slot_added (content_of ts e) (slot_of ts v) h.sound (lawful_sides ts e h) (ap (state_with ts) new.state) alone)

-- a fresh variable, made one with the old one
pub fresh_value : (ts us : List Tree) (e m f : Entries) (x u b y number : ℕ) (t r : Tree) (v w : Variable) → IsLawful ts e → Knows (content_of ts e) t → x < length e.variables → v.universe ≡ u → IsOpen ts e t y → (y ≡ x → ⊥) → slice_get e.variables y ≡ Some w → v.kind ≡ w.kind → IsNew e v → v.sub_link ≡ None → m ≡ added e v → number ≡ length e.variables → Joins ts m f y number → Extends ts us → r ≡ variable_tree w.kind number → Generalized (content_of ts e) (content_of us f) x u b t r
fresh_value ts us e m f x u b y number t r v w h knows within of_u o d at vk new alone em en j ext q =
    let k = o.bindable.of_kind in
    let same = kind_read e y k w o.bindable.free at in
    let c = content_of ts e in
    let len : number ≡ length c.slots = en ∙ sym (length-slots ts e.variables) in
    let is : r ≡ variable_tree v.kind (length c.slots) = q ∙ (λ i. variable_tree (sym vk i) (len i)) in
    let kv : k ≡ v.kind = sym same ∙ sym vk in
    let free : IsUnset c y v.kind = subst (λ (j : VariableKind). IsUnset c y j) kv (unset_in ts e y k o.bindable.no_region o.bindable.free) in
    let rank : variable_rank (variable_tree v.kind y) ≤ variable_rank t = subst (λ (j : VariableKind). variable_rank (variable_tree j y) ≤ variable_rank t) kv o.rank in
    let like : IsLike (variable_tree v.kind y) t = subst (λ (j : VariableKind). IsLike (variable_tree j y) t) kv o.like in
    let same_tree : resolved c t ≡ resolved c (variable_tree v.kind y) = o.same ∙ ap (λ z. resolved c (variable_tree z y)) kv in
    let below : x < length c.slots = omega (arith, within, length-slots ts e.variables) in
    rw (is, content_of-extended ext j.lawful)
    (gen_fresh c (content_of ts m) (content_of ts f) x u b y (min y number) (max y number) (slot_of ts v) t h.sound knows free (ap (state_with ts) new.state) of_u below o.infer rank like d same_tree o.worlds (added_in ts e m v h new alone em) (ap (λ n. min y n) len) (ap (λ n. max y n) len) j.joined j.one j.brings j.lawful.sound)

-- a region that stays
pub region_value : (ts : List Tree) (e : Entries) (x u b : ℕ) (t : NodeId) (l : Label) → IsLawful ts e → IsRegionOf ts e t → tree_at ts t ≡ node l (children (tree_at ts t)) → Meets (shape l) (children (tree_at ts t)) → region_variable l ≡ None → CanName u (region_level l) → Generalized (content_of ts e) (content_of ts e) x u b (tree_at ts t) (tree_at ts t)
region_value ts e x u b t l lawful h is m none named =
    let free = region_free (tree_at ts t) l is h.free in
    gen_region (content_of ts e) x u b (tree_at ts t) l lawful.sound h.knows (region_node (tree_at ts t) l is m h.sort) (no_variable l none free) free named
  where
    no_variable : (k : Label) → region_variable k ≡ None → is_free_region k ≡ true → variable_of k ≡ None
    no_variable (label.Leaf (leaf.Variable kind.Region n)) e f = cc
    no_variable (label.Leaf (leaf.Variable kind.Ty n)) e f = cc
    no_variable (label.Leaf (leaf.Variable kind.Int n)) e f = cc
    no_variable (label.Leaf (leaf.Variable kind.Float n)) e f = cc
    no_variable (label.Leaf (leaf.Variable kind.Const n)) e f = cc
    no_variable (label.Leaf (leaf.Region q)) e f = refl
    no_variable (label.Leaf (leaf.TyConstant q)) e f = refl
    no_variable (label.Leaf (leaf.ConstConstant q)) e f = refl
    no_variable (label.Bound q i n) e f = refl
    no_variable (label.Ty q) e f = refl
    no_variable (label.Const q) e f = refl
    no_variable (label.Clause q) e f = refl
    no_variable (label.Predicate q) e f = refl
    no_variable (label.List q) e f = refl

-- the root of a region variable
pub root_value : (ts us : List Tree) (e : Entries) (x u b n r : ℕ) (t s : Tree) (l : Label) (w : Variable) → IsLawful ts e → Knows (content_of ts e) t → t ≡ node l (children t) → Meets (shape l) (children t) → region_variable l ≡ Some n → IsRoot e n r → slice_get e.variables r ≡ Some w → w.universe ≤ u → Extends ts us → s ≡ variable_tree kind.Region r → Generalized (content_of ts e) (content_of us e) x u b t s
root_value ts us e x u b n r t s l w h k is m i root at low ext q =
    let f = free_slot ts e r kind.Region (region_root ts e t l n r h k is i root) in
    rw (q, content_of-extended ext h)
    (gen_region_root (content_of ts e) x u b n r t h.sound (region_variable_at ts e t l n r h k is m i root) f.kind (rw (universe_of-entry ts e r w at) low))

-- a fresh region variable, made equal to the region
pub record IsFresh (ts us : List Tree) (e m : Entries) (u : ℕ) (v : Variable) (t : NodeId) (l : Label) : Type 0 where
  pub lawful : IsLawful ts e
  pub extends : Extends ts us
  pub region : IsRegionOf ts e t
  pub is : tree_at ts t ≡ node l (children (tree_at ts t))
  pub meets : Meets (shape l) (children (tree_at ts t))
  pub new : IsNew e v
  pub alone : v.sub_link ≡ None
  pub of_kind : v.kind ≡ kind.Region
  pub of_universe : v.universe ≡ u
  pub added : m ≡ added e v

pub is_fresh : (ts us : List Tree) (e m : Entries) (u : ℕ) (v : Variable) (t : NodeId) (l : Label) → IsLawful ts e → Extends ts us → IsRegionOf ts e t → tree_at ts t ≡ node l (children (tree_at ts t)) → Meets (shape l) (children (tree_at ts t)) → IsNew e v → v.sub_link ≡ None → v.kind ≡ kind.Region → v.universe ≡ u → m ≡ added e v → IsFresh ts us e m u v t l
is_fresh ts us e m u v t l a b c d f g k h i j =
    record { lawful = a; extends = b; region = c; is = d; meets = f; new = g; alone = k; of_kind = h; of_universe = i; added = j }

-- where the two are made equal, and one where the universe names the region
fresh_region_value : (ts us : List Tree) (e m f : Entries) (x u b : ℕ) (t : NodeId) (r : Tree) (l : Label) (v : Variable) → IsFresh ts us e m u v t l → x < length e.variables → RegionsRelate (content_of us m) (content_of us f) (variable_tree kind.Region (length e.variables)) (tree_at us t) → universe_of (content_of us f) x ≡ universe_of (content_of us m) x → universe_of (content_of us f) (length e.variables) ≡ universe_of (content_of us m) (length e.variables) → r ≡ variable_tree kind.Region (length e.variables) → (NamesAll region_level u (tree_at us t) → AreOne (content_of us f) (variable_tree kind.Region (length e.variables)) (tree_at us t)) → Generalized (content_of ts e) (content_of us f) x u b (tree_at ts t) r
fresh_region_value ts us e m f x u b t r l v h within related own level q one =
    let same = content_of-extended h.extends h.lawful in
    let later = IsLawful-extended h.extends h.lawful in
    let c = content_of us e in
    let len : length e.variables ≡ length c.slots = sym (length-slots us e.variables) in
    let value : r ≡ variable_tree kind.Region (length c.slots) = q ∙ ap (λ n. variable_tree kind.Region n) len in
    let kept : tree_at us t ≡ tree_at ts t = h.extends.kept t h.region.within in
    let a = added_in us e m v later h.new h.alone h.added in
    let known : Knows c (tree_at ts t) = rw same h.region.knows in
    let related_here : RegionsRelate (content_of us m) (content_of us f) (variable_tree kind.Region (length c.slots)) (tree_at ts t) = rw (kept, len) at related in
    let one_here : NamesAll region_level u (tree_at ts t) → AreOne (content_of us f) (variable_tree kind.Region (length c.slots)) (tree_at ts t) = rw (kept, len) at one in
    let below : x < length c.slots = omega (arith, within, len) in
    let u_is : v.universe ≡ u = h.of_universe in
    let universe : universe_of (content_of us f) (length c.slots) ≡ Some u = rw len at level ∙ a.universe ∙ ap Some u_is in
    rw (value, ← same)
    (gen_fresh_region c (content_of us m) (content_of us f) x u b (slot_of us v) (tree_at ts t) l later.sound h.of_kind below (region_node (tree_at ts t) l h.is h.meets h.region.sort) h.region.sort h.region.free known u_is a related_here own (rw universe (omega arith)) one_here)

RegionsRelate-turned : {c d : Content} {a b : Tree} → RegionsRelate c d a b → RegionsRelate c d b a
RegionsRelate-turned {c} {d} {a} {b} h =
    record {
      keeps = h.keeps;
      continues = h.continues;
      narrows = record {
        sound = λ w z. (let q = h.narrows.sound w z in (q.0, sym q.1));
        complete = λ w z q. h.narrows.complete w z (sym q);
        names = λ f w z k q. h.narrows.names f w z k (sym q);
      };
      alike = AreAlike-turned d a b h.alike;
      brings = brings-turned h.brings;
    }

-- the constraint between the two
pub region_constraint : (ts us : List Tree) (e m : Entries) (t r : NodeId) (v : Variable) → IsLawful ts e → Extends ts us → IsRegionOf ts e t → IsNew e v → v.sub_link ≡ None → v.kind ≡ kind.Region → m ≡ added e v → IsIn us r → tree_at us r ≡ variable_tree kind.Region (length e.variables) → IsConstraint us (content_of us m) (record { relation = relation.Equal; left = r; right = t; is_visible = true })
region_constraint ts us e m t r v h ext region new alone vk em within is =
    let later = IsLawful-extended ext h in
    let same = content_of-extended ext h in
    let a = added_in us e m v later new alone em in
    let c = content_of us e in
    let kept = ext.kept t region.within in
    let has : kind_at (content_of us m) (length e.variables) ≡ Some kind.Region = rw (length-slots us e.variables) at (a.has ∙ ap Some vk) in
    record {
      left_in = within;
      right_in = IsIn-extended ext t region.within;
      left_known = rw is ((has, tt, refl), tt, tt);
      right_known = rw kept (Knows-later (tree_at ts t) a.later (rw same region.knows));
      left_sort = rw is refl;
      right_sort = rw kept region.sort;
      regions = rw (is, kept) ((of_variable (length e.variables), refl), region.free);
    }

-- .. by a constraint, where it does not name it
pub fresh_recorded : (ts us : List Tree) (e m f : Entries) (x u b : ℕ) (t r : NodeId) (l : Label) (v : Variable) → IsFresh ts us e m u v t l → x < length e.variables → IsLawful us m → IsIn us r → tree_at us r ≡ variable_tree kind.Region (length e.variables) → f ≡ constrained m (record { relation = relation.Equal; left = r; right = t; is_visible = true }) → (CanName u (region_level l) → ⊥) → Generalized (content_of ts e) (content_of us f) x u b (tree_at ts t) (tree_at us r)
fresh_recorded ts us e m f x u b t r l v h within lawful inside is q beyond =
    let is_constraint = region_constraint ts us e m t r v h.lawful h.extends h.region h.new h.alone h.of_kind h.added inside is in
    let left : IsRegionOf us m r = record { within = inside; knows = is_constraint.left_known; sort = is_constraint.left_sort; free = rw is (of_variable (length e.variables), refl) } in
    let kept = h.extends.kept t h.region.within in
    let right : IsRegionOf us m t = record { within = is_constraint.right_in; knows = is_constraint.right_known; sort = is_constraint.right_sort; free = rw kept h.region.free } in
    let related = regions_recorded us m f (record { relation = relation.Equal; left = r; right = t; is_visible = true }) lawful left right refl refl q in
    let same : (n : ℕ) → universe_of (content_of us f) n ≡ universe_of (content_of us m) n = λ n. rw q refl in
    fresh_region_value ts us e m f x u b t (tree_at us r) l v h within (rw is at related) (same x) (same (length e.variables)) is
    (λ n. (let there : NamesAll region_level u (node l (children (tree_at ts t))) = subst (λ (y : Tree). NamesAll region_level u y) (kept ∙ h.is) n in absurd (beyond there.0)))

-- .. by joining the variables
pub fresh_joined : (ts us : List Tree) (e m f : Entries) (x u b n root : ℕ) (t r : NodeId) (l : Label) (v : Variable) → IsFresh ts us e m u v t l → x < length e.variables → kind_at (content_of ts e) x ≢ Some kind.Region → region_variable l ≡ Some n → IsRoot e n root → IsLawful us m → tree_at us r ≡ variable_tree kind.Region (length e.variables) → RegionsJoin us m f root (length e.variables) → Generalized (content_of ts e) (content_of us f) x u b (tree_at ts t) (tree_at us r)
fresh_joined ts us e m f x u b n root t r l v h within other i leads lawful is j =
    let same = content_of-extended h.extends h.lawful in
    let later = IsLawful-extended h.extends h.lawful in
    let c = content_of us e in
    let d = content_of us m in
    let fresh = length e.variables in
    let kept : tree_at us t ≡ tree_at ts t = h.extends.kept t h.region.within in
    let knows : Knows c (tree_at ts t) = rw same h.region.knows in
    let a = added_in us e m v later h.new h.alone h.added in
    let old = region_variable_at us e (tree_at ts t) l n root later knows h.is h.meets i leads in
    let moved : root_of d n ≡ root = rw (h.added, content_of-added us e v) (root_of-with_slot c (slot_of us v) later.sound (ap (state_with us) h.new.state) n ∙ old.root) in
    let first : IsRegionVariable d (tree_at us t) n root = record { is = kept ∙ old.is; knows = rw kept (Knows-later (tree_at ts t) a.later knows); root = moved; tree = λ w z. old.tree w (a.back w z) } in
    let len : fresh ≡ length c.slots = sym (length-slots us e.variables) in
    let has : kind_at d fresh ≡ Some kind.Region = rw (← len) at a.has ∙ ap Some h.of_kind in
    let state : state_of d fresh ≡ Some unset = rw (← len) at a.state in
    let second : IsRegionVariable d (variable_tree kind.Region fresh) fresh fresh = record { is = refl; knows = ((has, tt, refl), tt, tt); root = root_of-root d fresh (rw state tt); tree = λ w z. refl } in
    let related = RegionsRelate-turned (regions_joined us m f (tree_at us t) (variable_tree kind.Region fresh) n fresh root fresh lawful first second j) in
    let one = regions_one_class us m f (tree_at us t) (variable_tree kind.Region fresh) n fresh root fresh lawful first second j in
    let f0 = free_slot us e root kind.Region (region_root us e (tree_at ts t) l n root later knows h.is i leads) in
    let below : root < length c.slots = field_below (λ z. z.kind) c root kind.Region f0.kind in
    let low : min root fresh ≡ root = omega (arith, below, len) in
    let apart : x ≡ min root fresh → ⊥ = λ q. other (ap (λ (z : Content). kind_at z x) (sym same) ∙ ap (kind_at c) (q ∙ low) ∙ f0.kind) in
    let new_apart : fresh ≡ min root fresh → ⊥ = λ q. omega (arith, q, low, below, len) in
    fresh_region_value ts us e m f x u b t (tree_at us r) l v h within related (j.one.universes x apart) (j.one.universes fresh new_apart) is (λ z. sym one)

-- a term that stays: it has neither variables nor placeholders, and is closed
pub settled_value : (c : Content) (x u b : ℕ) (t : Tree) (flags : TypeFlags) → IsSound c → Knows c t → flags ≡ flags_of t → IsSettledByFlags flags b → Generalized c c x u b t t
settled_value c x u b t flags s k e h =
    let infer : any_label is_infer t ≡ false = sym (ap (λ (f : TypeFlags). f.has_infer) e) ∙ h.no_infer in
    let region : any_label is_region_infer t ≡ false = sym (ap (λ (f : TypeFlags). f.has_region_infer) e) ∙ h.no_region_infer in
    let placeholder : any_label is_placeholder t ≡ false = sym (ap (λ (f : TypeFlags). f.has_placeholder) e) ∙ h.no_placeholder in
    let stays : StaysBelow (escaping t) b = subst (λ (o : Option ℕ). StaysBelow o b) (ap (λ (f : TypeFlags). f.escaping) e) h.escaping in
    gen_settled c x u b t s k infer region placeholder ((closed_under b t).0 (below (escaping t) stays))
  where
    below : (o : Option ℕ) → StaysBelow o b → IsBelow b o
    below None q = tt
    below (Some d) q = q

-- a label that is neither an inference variable nor a free region is no variable
pub alone_label : (l : Label) → infer_of l ≡ None → is_free_region l ≡ false → variable_of l ≡ None
alone_label (label.Leaf (leaf.Variable kind.Region n)) e f = cc
alone_label (label.Leaf (leaf.Variable kind.Ty n)) e f = cc
alone_label (label.Leaf (leaf.Variable kind.Int n)) e f = cc
alone_label (label.Leaf (leaf.Variable kind.Float n)) e f = cc
alone_label (label.Leaf (leaf.Variable kind.Const n)) e f = cc
alone_label (label.Leaf (leaf.Region q)) e f = refl
alone_label (label.Leaf (leaf.TyConstant q)) e f = refl
alone_label (label.Leaf (leaf.ConstConstant q)) e f = refl
alone_label (label.Bound q i n) e f = refl
alone_label (label.Ty q) e f = refl
alone_label (label.Const q) e f = refl
alone_label (label.Clause q) e f = refl
alone_label (label.Predicate q) e f = refl
alone_label (label.List q) e f = refl
