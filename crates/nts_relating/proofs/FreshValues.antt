-- Fresh variables in a value.
use Rattle.nts_unify.proofs.Changes.{some_inj}
use Rattle.std.proofs.Common.{◌≡◌, ℕ, ◌+◌, ◌<◌, ◌≤◌, min, max, false, [], ◌∷◌, length, length-append, Option, Some, None, refl, sym, ap, subst, ◌∙◌, arith}
use Rattle.std.specs.Prelude.{◌==◌}
use Rattle.nts_model.specs.declared.labels.Sort.TheVariants as sort
use Rattle.nts_model.specs.declared.labels.VariableKind.{VariableKind}
use Rattle.nts_model.specs.declared.labels.VariableKind.TheVariants as kind
use Rattle.nts_model.specs.declared.labels.Leaf.TheVariants as leaf
use Rattle.nts_model.specs.declared.labels.Label.{Label}
use Rattle.nts_model.specs.declared.labels.Label.TheVariants as label
use Rattle.nts_model.specs.Terms.Trees.{Tree, empty, more, node, of_sort, kind_of, kind_of_label, IsBoundBelow, Meets, shape, infer_of, variable_of, variable_tree}
use Rattle.nts_model.specs.Tables.Contents.{Content, Slot, unset, link, state_of, universe_of, kind_at, with_slot}
use Rattle.nts_model.specs.Tables.Resolving.{IsInfer, Knows, KnowsVariable, IsSound, Lacks, LacksAt, resolved, rooted, variable_rank}
use Rattle.nts_model.specs.Terms.Placeholders.{CanName}
use Rattle.nts_model.specs.Tables.Passing.{BringsNoLabels}
use Rattle.nts_model.specs.Tables.Levels.{NamesAll, term_level, region_level}
use Rattle.nts_model.specs.Terms.Regions.{RegionName, IsRegion, name_of_label}
use Rattle.nts_model.specs.Tables.Worlds.{World, inst, IsValue, Solves, KnowsAll, with_tree, IsNameable}
use Rattle.nts_model.specs.Tables.Holding.{AreOne, Continues}
use Rattle.nts_model.proofs.Terms.Scoping.{leaf_patch, term_patched, infer_patched}
use Rattle.nts_model.proofs.Terms.Variables.{infer_number_some, infer_label, infer_of_none}
use Rattle.nts_model.proofs.Tables.Slots.{field_below, field-with_slot_new, field-with_slot_old}
use Rattle.nts_model.proofs.Tables.Instances.{inst-agrees, Agrees-with_tree, tree-with_tree}
use Rattle.nts_model.proofs.Tables.Fitting.{IsValue-inst}
use Rattle.nts_model.proofs.Tables.Solving.{Solves-from_with_slot, Solves-with_slot, IsNameable-with_slot, IsNameable-agrees}
use Rattle.nts_model.proofs.Tables.Held.{AreOne-continues, Continues-trans, Continues-with_slot}
use Rattle.nts_model.proofs.Tables.Alike.{AreAlike-one}
use Rattle.nts_model.proofs.Tables.Bringing.{brings-with_slot}
use Rattle.nts_model.proofs.Tables.Open.{Knows-resolved}
use Rattle.nts_model.proofs.Tables.Resolved.{resolved-variable_unset, resolved-variable_link, IsVariable}
use Rattle.nts_model.proofs.Tables.Sound.{resolved-with_slot, state_of-with_slot_old, state_of-with_slot_new, IsSound-with_slot}
use Rattle.nts_unify.specs.Changing.{unset_count, unset_of, one_unset, IsLater}
use Rattle.nts_unify.specs.Joining.{IsOneClass, IsJoined}
use Rattle.nts_relating.specs.Relating.{IsLike, IsUnset, RegionsRelate, Generalized}
use Rattle.nts_unify.proofs.Keeping.{IsLater-trans, KeepsKnowing-trans, unset-push, unset_of-infer, IsLater-with_slot}
use Rattle.nts_relating.proofs.Ranks.{zero_le, infer_ranked, region_unfit}
use Rattle.nts_relating.proofs.GenLemmas.{RegionNode, lacks_other, resolved-region_node}
use Rattle.nts_relating.proofs.Ranks.{zero_le, infer_ranked, region_unfit}

abbrev second_or : Option (VariableKind × ℕ) → ℕ
second_or None = 0
second_or (Some v) = v.1

below_apart : (m k : ℕ) → m < k → (m == k) ≡ false
below_apart m k less = grind arith

-- a number past the end is of no tree
LacksAt-new : (c : Content) (o : Option (VariableKind × ℕ)) (l : Label) (t : Tree) → variable_of l ≡ o → KnowsVariable c o → Lacks (length c.slots) t → LacksAt (infer_of l) (length c.slots) (Lacks (length c.slots) t)
LacksAt-new c None l t e k h = rw (infer_of_none l e) h
LacksAt-new c (Some v) l t e k h = by_case (infer_of l) refl
  where
    by_case : (p : Option ℕ) → infer_of l ≡ p → LacksAt p (length c.slots) (Lacks (length c.slots) t)
    by_case None q = h
    by_case (Some n) q =
        let i = infer_label l n q in
        let below : v.1 < length c.slots = field_below (λ x. x.kind) c v.1 v.0 k in
        let same : v.1 ≡ n = ap second_or (sym e ∙ i.is) in
        below_apart n (length c.slots) (omega (arith, same, below))

pub Lacks-new : (c : Content) (t : Tree) → Knows c t → Lacks (length c.slots) t
Lacks-new c empty h = tt
Lacks-new c (more a b) h = (Lacks-new c a h.0, Lacks-new c b h.1)
Lacks-new c (node l t) h = LacksAt-new c (variable_of l) l t refl h.0.0 (Lacks-new c t h.1)

-- a new variable of the table
pub record IsAdded (c d : Content) (v : Slot) : Type 0 where
  pub later : IsLater c d
  pub only : length d.slots ≡ length c.slots + 1
  pub has : kind_at d (length c.slots) ≡ Some v.kind
  pub states : (n : ℕ) → n < length c.slots → state_of d n ≡ state_of c n
  pub state : state_of d (length c.slots) ≡ Some unset
  pub trees : (t : Tree) → resolved d t ≡ resolved c t
  pub sound : IsSound d
  pub count : unset_count d.slots ≡ unset_count c.slots + unset_of v.kind v.state
  pub continues : Continues c d
  pub universe : universe_of d (length c.slots) ≡ Some v.universe
  pub universes : (n : ℕ) → n < length c.slots → universe_of d n ≡ universe_of c n
  pub brings : BringsNoLabels c d
  pub back : (w : World) → Solves d w → Solves c w
  pub grow : (w : World) (t : Tree) → Solves c w → NamesAll term_level v.universe t → IsValue v.kind t → Solves d (with_tree w (length c.slots) t)
  pub grow_names : (f : Label → Option ℕ) (w : World) (t : Tree) → IsNameable f c w → NamesAll f v.universe t → IsNameable f d (with_tree w (length c.slots) t)

pub slot_added : (c : Content) (v : Slot) → IsSound c → KnowsAll c c.constraints → v.state ≡ unset → v.sub_link ≡ None → IsAdded c (with_slot c v) v
slot_added c v s sides free alone =
    record {
      later = IsLater-with_slot c v free alone;
      only = omega (arith, length-append c.slots (v ∷ []));
      has = field-with_slot_new (λ x. x.kind) c v;
      states = λ n h. state_of-with_slot_old c v s free n (λ e. omega (arith, e, h));
      state = state_of-with_slot_new c v s free;
      trees = λ t. resolved-with_slot c v s free t;
      sound = IsSound-with_slot c v s free;
      count = unset-push c.slots v;
      continues = Continues-with_slot c v free s;
      universe = field-with_slot_new (λ x. x.universe) c v;
      universes = λ n h. field-with_slot_old (λ x. x.universe) c v n (λ e. omega (arith, e, h));
      brings = brings-with_slot c v free;
      back = λ w z. Solves-from_with_slot c v free w z;
      grow = λ w t z n k. Solves-with_slot c v free s sides w t z n k;
      grow_names = λ f w t k n.
          (let wide = with_tree w (length c.slots) t in
          let agrees = Agrees-with_tree (length c.slots) (length c.slots) w t (omega arith) in
          IsNameable-with_slot c v free f wide (IsNameable-agrees f c w wide agrees k) (rw (tree-with_tree w (length c.slots) t) n));
    }

-- the new variable is made one with an old one
pub gen_fresh : (c d e : Content) (x u b y low high : ℕ) (v : Slot) (t : Tree) → IsSound c → Knows c t → IsUnset c y v.kind → v.state ≡ unset → v.universe ≡ u → x < length c.slots → IsInfer t → variable_rank (variable_tree v.kind y) ≤ variable_rank t → IsLike (variable_tree v.kind y) t → (y ≡ x → ⊥) → resolved c t ≡ resolved c (variable_tree v.kind y) → ((w : World) → Solves c w → inst w t ≡ w.tree y) → IsAdded c d v → low ≡ min y (length c.slots) → high ≡ max y (length c.slots) → IsJoined d e low high → IsOneClass d e low high → BringsNoLabels d e → IsSound e → Generalized c e x u b t (variable_tree v.kind (length c.slots))
gen_fresh c d e x u b y low high v t s knows h free of_u within i rank like apart same worlds a is_low is_high j one_class brings after =
    let fresh = length c.slots in
    let below : y < length c.slots = field_below (λ z. z.kind) c y v.kind h.has in
    let ly : low ≡ y = omega (arith, is_low, below) in
    let hy : high ≡ length c.slots = omega (arith, is_high, below) in
    let linked : state_of e fresh ≡ Some (link y) = rw (← hy, ← ly) j.linked in
    let old : (n : ℕ) → n < length c.slots → state_of e n ≡ state_of c n = λ n l. j.others n (λ q. omega (arith, q, hy, l)) ∙ a.states n l in
    let one : unset_of v.kind v.state ≡ 1 = unset_of-infer v.kind v.state h.no_region ∙ ap one_unset free in
    let later = IsLater-trans a.later j.later in
    let has : kind_at e fresh ≡ Some v.kind = j.later.kinds fresh v.kind a.has in
    let is : IsVariable e (label.Leaf (leaf.Variable v.kind fresh)) v.kind fresh = record { is = refl; no_region = h.no_region; has = has } in
    let root : resolved e (variable_tree v.kind y) ≡ variable_tree v.kind y =
    resolved-variable_unset e (label.Leaf (leaf.Variable v.kind y)) empty y after (infer_number_some v.kind y h.no_region) (old y below ∙ h.state) in
    let value : resolved e (variable_tree v.kind fresh) ≡ variable_tree v.kind y =
    resolved-variable_link e (label.Leaf (leaf.Variable v.kind fresh)) empty v.kind fresh y after is linked ∙ root in
    let all = Continues-trans c d e s a.continues one_class.continues in
    let old_one : AreOne e t (variable_tree v.kind y) = AreOne-continues c e t (variable_tree v.kind y) all knows ((h.has, tt, refl), tt, tt) (ap (rooted c) same) in
    let new_one : AreOne e (variable_tree v.kind fresh) (variable_tree v.kind y) = ap (rooted e) (value ∙ sym root) in
    let universe : universe_of e fresh ≡ Some u = one_class.universes fresh (λ q. omega (arith, q, ly, below)) ∙ a.universe ∙ ap Some of_u in
    record {
      keeps = record {
        later = later;
        states = λ n l q. old n l;
        trees = λ z q. let same = a.trees z in let none = Lacks-new c (resolved c z) (Knows-resolved c z s q) in j.trees z (rw (same, hy) none) ∙ same;
        unset_kept = omega (arith, j.fewer, a.count, one);
        news = λ n k l q r.
            let less = field_below (λ z. z.kind) e n k q in
            let same : n ≡ length c.slots = omega (arith, less, l, j.slots, a.only) in
            (y, rw same linked);
      };
      knows = ((has, tt, refl), tt, tt);
      rank = rank;
      fits = λ j n z f. infer_ranked t i z;
      like = fresh_like v.kind y (length c.slots) t like;
      lacks = rw value (lacks_other v.kind y x h.no_region apart);
      continues = all;
      own = one_class.universes x (λ q. apart (sym ly ∙ sym q)) ∙ a.universes x within;
      named = (rw universe (omega arith), tt);
      named_regions = (tt, tt);
      closed = (tt, tt);
      patched = infer_patched t (variable_tree v.kind (length c.slots)) i (leaf_patch (leaf.Variable v.kind (length c.slots)));
      clean = rw value (tt, tt);
      alike = AreAlike-one e (variable_tree v.kind fresh) t (new_one ∙ sym old_one);
      exact = λ n. new_one ∙ sym old_one;
      labels = λ P f p q. (brings.labels P f (a.brings.labels P f p), (f v.kind fresh, tt));
      sound = λ w z.
          let q = one_class.narrows.sound w z in
          let before = a.back w q.0 in
          let same_tree : w.tree y ≡ w.tree fresh = rw (ly, hy) at q.1 in (before, sym same_tree ∙ sym (worlds w before));
      complete = λ w z names.
          let tree_named : NamesAll term_level u (w.tree y) = rw (worlds w z) at names in
          let grown = a.grow w (w.tree y) z (rw of_u tree_named) (z.fitting.each y v.kind h.has) in
          let agrees = Agrees-with_tree (length c.slots) (length c.slots) w (w.tree y) (omega arith) in
          let wide = with_tree w fresh (w.tree y) in
          let one_tree : wide.tree low ≡ wide.tree high = rw (ly, hy) (agrees.trees y below ∙ sym (tree-with_tree w fresh (w.tree y))) in
          record {
            world = wide;
            agrees = agrees;
            solves = one_class.narrows.complete wide grown one_tree;
            names = λ f k n.
                (let tree_named : NamesAll f u (w.tree y) = rw (worlds w z) at n in
                one_class.narrows.names f wide grown (a.grow_names f w (w.tree y) k (rw of_u tree_named)) one_tree);
          };
    }
  where
    fresh_like : (k : VariableKind) (n m : ℕ) (z : Tree) → IsLike (variable_tree k n) z → IsLike (variable_tree k m) z
    fresh_like k n m empty q = q
    fresh_like k n m (more p r) q = q
    fresh_like k n m (node p r) q = q

region_below : (l : Label) (x : RegionName) → name_of_label l ≡ Some x → IsBoundBelow 0 l
region_below (label.Leaf q) x e = tt
region_below (label.Bound q i n) x e = cc
region_below (label.Ty h) x e = cc
region_below (label.Const h) x e = cc
region_below (label.Clause h) x e = cc
region_below (label.Predicate h) x e = cc
region_below (label.List h) x e = cc

region_shape : (l : Label) (x : RegionName) → name_of_label l ≡ Some x → Meets (shape l) empty
region_shape (label.Leaf q) x e = tt
region_shape (label.Bound q i n) x e = cc
region_shape (label.Ty h) x e = cc
region_shape (label.Const h) x e = cc
region_shape (label.Clause h) x e = cc
region_shape (label.Predicate h) x e = cc
region_shape (label.List h) x e = cc

-- a free region is closed and formed
IsRegion-value : (t : Tree) → IsRegion t → IsValue kind.Region t
IsRegion-value empty h = let e = h.1 in cc
IsRegion-value (more a b) h = let e = h.1 in cc
IsRegion-value (node l (more a b)) h = let e = h.1 in cc
IsRegion-value (node l (node m a)) h = let e = h.1 in cc
IsRegion-value (node l empty) h = record { fits = h; closed = (region_below l h.0 h.1, tt); formed = (region_shape l h.0 h.1, tt) }

-- a fresh region variable, made equal to the region, and one with it where the universe names it
pub gen_fresh_region : (c d e : Content) (x u b : ℕ) (v : Slot) (t : Tree) (l : Label) → IsSound c → v.kind ≡ kind.Region → x < length c.slots → RegionNode t l → kind_of t ≡ Some (of_sort sort.Region) → IsRegion t → Knows c t → v.universe ≡ u → IsAdded c d v → RegionsRelate d e (variable_tree kind.Region (length c.slots)) t → universe_of e x ≡ universe_of d x → CanName u (universe_of e (length c.slots)) → (NamesAll region_level u t → AreOne e (variable_tree kind.Region (length c.slots)) t) → Generalized c e x u b t (variable_tree kind.Region (length c.slots))
gen_fresh_region c d e x u b v t l s region within r sorted is_region known of_u a related own named one =
    let k = related.keeps in
    let fresh = length c.slots in
    let none : unset_of v.kind v.state ≡ 0 = rw region refl in
    let has : kind_at e fresh ≡ Some kind.Region = k.later.kinds fresh kind.Region (a.has ∙ ap Some region) in
    let node_of : RegionNode (variable_tree kind.Region fresh) (label.Leaf (leaf.Variable kind.Region fresh)) = record { is = refl; no_infer = refl } in
    record {
      keeps = KeepsKnowing-trans (record {
        later = a.later;
        states = λ n q z. a.states n q;
        trees = λ z q. a.trees z;
        unset_kept = omega (arith, a.count, none);
        news = λ n k l q r.
            let less = field_below (λ z. z.kind) d n k q in
            let same : n ≡ length c.slots = omega (arith, less, l, a.only) in
            absurd (r (some_inj _ _ (sym q ∙ ap (kind_at d) same ∙ a.has ∙ ap Some region)));
      }) k;
      knows = ((has, tt, refl), tt, tt);
      rank = zero_le _ _ refl;
      fits = λ j n z. region_unfit j t n sorted;
      like = subst (λ (y : Tree). IsLike (variable_tree kind.Region fresh) y) (sym r.is) (region_sort t l r sorted);
      lacks = rw (resolved-region_node e (variable_tree kind.Region fresh) (label.Leaf (leaf.Variable kind.Region fresh)) node_of) tt;
      continues = Continues-trans c d e s a.continues related.continues;
      own = own ∙ a.universes x within;
      named = (named, tt);
      named_regions = (tt, tt);
      closed = (tt, tt);
      patched = term_patched sort.Region t (variable_tree kind.Region (length c.slots)) sorted (leaf_patch (leaf.Variable kind.Region (length c.slots)));
      clean = rw (resolved-region_node e (variable_tree kind.Region fresh) (label.Leaf (leaf.Variable kind.Region fresh)) node_of) (tt, tt);
      alike = related.alike;
      exact = λ n. one (rw (resolved-region_node c t l r) at n);
      labels = λ P f p q. (related.brings.labels P f (a.brings.labels P f p) (f kind.Region fresh, tt) q, (f kind.Region fresh, tt));
      sound = λ w z. (let q = related.narrows.sound w z in (a.back w q.0, q.1));
      complete = λ w z names.
          let s = inst w t in
          let value : IsValue v.kind s = rw region (IsValue-inst c w kind.Region t z.fitting known (IsRegion-value t is_region)) in
          let grown = a.grow w s z (rw of_u names) value in
          let agrees = Agrees-with_tree (length c.slots) (length c.slots) w s (omega arith) in
          let wide = with_tree w fresh s in
          let one_tree : wide.tree fresh ≡ inst wide t = tree-with_tree w fresh s ∙ sym (inst-agrees c w wide t agrees known) in
          record {
            world = wide;
            agrees = agrees;
            solves = related.narrows.complete wide grown one_tree;
            names = λ f k n. related.narrows.names f wide grown (a.grow_names f w s k (rw of_u n)) one_tree;
          };
    }
  where
    region_sort : (t : Tree) (l : Label) → RegionNode t l → kind_of t ≡ Some (of_sort sort.Region) → of_sort sort.Region ≡ kind_of_label l
    region_sort t l r sorted = some_inj _ _ (sym sorted ∙ ap kind_of r.is)
