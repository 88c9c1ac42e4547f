-- What a look at a part finds, by terms of a store.
use Rattle.std.proofs.Common.{◌≡◌, ◌≢◌, ◌⊎◌, inl, inr, ⊎_elim, ℕ, ◌<◌, ◌≤◌, ◌++◌, Bool, true, false, cond, Option, Some, None, List, [], ◌∷◌, length, refl, sym, ap, ◌∙◌, subst, arith}
use Rattle.std.specs.Prelude.{◌||◌, ◌&&◌, not}
use Rattle.std.proofs.lemmas.List.{append-nil}
use Rattle.std.proofs.lemmas.Bool.{or_parts}
use Rattle.nts_model.specs.declared.labels.Sort.{Sort}
use Rattle.nts_model.specs.declared.labels.Sort.TheVariants as sort
use Rattle.nts_model.specs.declared.labels.Variance.{Variance}
use Rattle.nts_model.specs.declared.labels.Variance.TheVariants as variance
use Rattle.nts_model.specs.declared.labels.VariableKind.{VariableKind}
use Rattle.nts_model.specs.declared.labels.VariableKind.TheVariants as kind
use Rattle.nts_model.specs.declared.labels.FreeRegion.{FreeRegion}
use Rattle.nts_model.specs.declared.labels.FreeRegion.TheVariants as region
use Rattle.nts_model.specs.declared.labels.Leaf.TheVariants as leaf
use Rattle.nts_model.specs.declared.labels.AliasHead.TheVariants as alias_of
use Rattle.nts_model.specs.declared.labels.TyHead.TheVariants as ty
use Rattle.nts_model.specs.declared.labels.ConstHead.{ConstHead}
use Rattle.nts_model.specs.declared.labels.ConstHead.TheVariants as konst
use Rattle.nts_model.specs.declared.labels.ListHead.TheVariants as list
use Rattle.nts_model.specs.declared.labels.Label.{Label}
use Rattle.nts_model.specs.declared.labels.Label.TheVariants as label
use Rattle.nts_model.specs.Terms.Trees.{Tree, empty, more, node, kind_of, kind_of_label, of_sort, sort_of_variable, label_of, children, any_label, is_alias, is_infer, in_order, shape, Meets, IsClosed, IsFormed, infer_of, variable_tree}
use Rattle.nts_model.specs.Tables.Contents.{Content, Slot, unset, kind_at, state_of, with_slot, with_constraint}
use Rattle.nts_model.specs.Tables.Resolving.{IsInfer, IsSound, Knows, KnowsVariable, Reaches, here, resolved}
use Rattle.nts_model.specs.Tables.SubUnifying.{linked, turned}
use Rattle.nts_model.specs.Terms.Regions.{IsRegion}
use Rattle.nts_model.specs.Derivations.Related.{IsAlias}
use Rattle.nts_variance_model.specs.Variances.Relations.{ArePairsKnown}
use Rattle.nts_variance_model.specs.Variances.Leaving.{IsErased}
use Rattle.nts_variance_model.specs.Variances.Forms.{FitsForm}
use Rattle.nts_model.proofs.Terms.Variables.{infer_label}
use Rattle.nts_model.proofs.Tables.Slots.{field_below, field-with_slot_old, field-with_slot_new}
use Rattle.nts_model.proofs.Terms.Substituting.{no_children}
use Rattle.nts_store.specs.declared.nodes.NodeId.{NodeId}
use Rattle.nts_store.specs.Growth.{tree_at, IsIn, Extends}
use Rattle.nts_store.specs.declared.type_flags.TypeFlags.{TypeFlags}
use Rattle.nts_store.specs.TypeFlags.{escaping, varies, varies_region, flags_of}
use Rattle.nts_store.proofs.Growing.{IsIn-extended}
use Rattle.nts_store.proofs.Escaping.{IsBelow, closed_under}
use Rattle.nts_unify.specs.declared.contents.State.TheVariants.{Unset, Known}
use Rattle.nts_unify.specs.declared.contents.Variable.{Variable}
use Rattle.nts_unify.specs.Entries.{Entries, added, constrained}
use Rattle.nts_unify.specs.Reading.{slot_of, recorded_of, content_of, IsLawful}
use Rattle.nts_unify.specs.Roots.{HasClass}
use Rattle.nts_unify.specs.Lawful.{content_of-added, content_of-extended, content_of-constrained}
use Rattle.nts_unify.specs.Changing.{is_free_region}
use Rattle.nts_unify.proofs.Changes.{length-slots}
use Rattle.nts_unify.proofs.Leading.{state_of-class}
use Rattle.nts_relating.specs.Parts.{IsVariableValue}
use Rattle.nts_relating.specs.Relating.{IsRegionOf, Generalized}
use Rattle.nts_relating.proofs.HeadLemmas.{head_known, head_open}
use Rattle.nts_relating.proofs.ValueTasks.{value_of}
use Rattle.nts_relating.proofs.Naming.{lawful_sides}
use Rattle.nts_variance.specs.declared.along.Relating.{Relating}
use Rattle.nts_variance.specs.declared.vary_walk.Spot.{Spot}
use Rattle.nts_variance.specs.Walking.{IsMade}
use Rattle.nts_variance.specs.Counting.{IsCountedFor}
use Rattle.nts_variance.specs.Parts.{has_parts, form_of_tree, parts_of, none_escapes, closed_alias, const_variable, number_of_type, StandsAlone}
use Rattle.nts_variance.specs.Terms.{pairs_at, AreGoals, ArePairs, IsPart}
use Rattle.nts_variance.specs.Due.{IsTypeVariable, IsUnvalued, ShareSubRoots, WasMadeFor, AreTwoSides, AreTypeVariables, AreGoalsDue}
use Rattle.nts_variance.specs.Varying.{pair_in, owed_pairs, constraint_of_pair, with_owed, fresh, IsMadeAt, IsTypeValue, IsMadeAgain, IsOwn, IsKept}
use Rattle.nts_variance.proofs.Pushing.{pair_at-in}
use Rattle.nts_variance.proofs.PartLemmas.{IsOverParts, over_parts}
use Rattle.nts_relating.proofs.Ranks.{kind_of-like}
use Rattle.nts_variance.proofs.Debts.{closed_patched, like_itself, like_closed, goal_sides, ranked_type, type_kind, type_rank}
use Rattle.nts_variance.proofs.Dues.{reaches_later, due_sides, fresh_number, one_number, two_owed, variables_turned}
use Rattle.nts_model.proofs.Tables.Roots.{kind_at-reaches}
use Rattle.nts_relating.specs.Relating.{IsPlainIn}
use Rattle.nts_variance.specs.SubRoots.{FoundsVariables}
use Rattle.nts_variance.proofs.Growing.{grown_slot}
use Rattle.nts_variance.proofs.Founding.{founds_slot}
use Rattle.nts_variance.proofs.PlainTerms.{plain_no_alias}
use Rattle.nts_variance.proofs.CountedPieces.{counted_fresh, counted_region, counted_recorded, counted_piece}
use Rattle.nts_variance.proofs.Leaves.{owed_by, owed_goals, made_plain, counted_plain, made_fresh, made_region, made_region_quietly}
use Rattle.nts_variance.proofs.Pieces.{made_piece, plain_unset}

-- a node by its label
pub labelled_node : (t : Tree) (l : Label) → label_of t ≡ Some l → t ≡ node l (children t)
labelled_node empty l e = cc
labelled_node (more a b) l e = cc
labelled_node (node m c) l e = ap (λ x. node x c) cc

pub node_meets : (t : Tree) (l : Label) → t ≡ node l (children t) → IsFormed t → Meets (shape l) (children t)
node_meets t l e f = (let g : IsFormed (node l (children t)) = subst IsFormed e f in g.0)

-- a variable's value
pub looked_value : (ts : List Tree) (e : Entries) (t : Tree) (l : Label) (n r : ℕ) (v : NodeId) → IsLawful ts e → Knows (content_of ts e) t → t ≡ node l (children t) → infer_of l ≡ Some n → HasClass e n r (Known v) → IsIn ts v × IsVariableValue (content_of ts e) t (tree_at ts v)
looked_value ts e t l n r v lawful knows is i class = (let k = head_known ts e t l n r v lawful knows is i class in (k.within, value_of ts e t v k))

-- a type variable has nothing else
pub whole_variable : (t : Tree) (n : ℕ) → IsTypeVariable t n → IsFormed t → t ≡ variable_tree kind.Ty n
whole_variable t n e formed =
    let is = labelled_node t (label.Leaf (leaf.Variable kind.Ty n)) e in
    is ∙ ap (node (label.Leaf (leaf.Variable kind.Ty n))) (no_children (children t) (node_meets t _ is formed))

-- a type variable is closed
pub variable_closed : (t : Tree) (n : ℕ) → label_of t ≡ Some (label.Leaf (leaf.Variable kind.Ty n)) → IsFormed t → IsClosed t × (kind_of t ≡ Some (of_sort sort.Ty)) × IsInfer t
variable_closed t n e formed =
    let whole : t ≡ variable_tree kind.Ty n = whole_variable t n e formed in
    (subst IsClosed (sym whole) (tt, tt), ap kind_of whole, subst IsInfer (sym whole) (n, refl))

pub looked_type_value : (ts : List Tree) (e : Entries) (t : Tree) (n r : ℕ) (v : NodeId) → IsLawful ts e → Knows (content_of ts e) t → IsFormed t → label_of t ≡ Some (label.Leaf (leaf.Variable kind.Ty n)) → HasClass e n r (Known v) → IsIn ts v × IsTypeValue (content_of ts e) t (tree_at ts v)
looked_type_value ts e t n r v lawful knows formed is class =
    let k = looked_value ts e t (label.Leaf (leaf.Variable kind.Ty n)) n r v lawful knows (labelled_node t _ is) refl class in
    (k.0, record { value = k.1; number = n; is = is; closed = (variable_closed t n is formed).0 })

-- the variable for which the whole is made
pub looked_own : (ts : List Tree) (e : Entries) (t : Tree) (l : Label) (n r x : ℕ) → IsLawful ts e → Knows (content_of ts e) t → t ≡ node l (children t) → IsFormed t → infer_of l ≡ Some n → HasClass e n r Unset → r ≡ x → IsOwn (content_of ts e) x t
looked_own ts e t l n r x lawful knows is formed i class q =
    let o = head_open ts e t l n r lawful knows is (node_meets t l is formed) i class in
    record { infer = o.infer; own = λ w z. o.worlds w z ∙ ap w.tree q }

-- a variable without a value has no aliases
pub looked_unset : (ts : List Tree) (e : Entries) (t : Tree) (l : Label) (n r : ℕ) → IsLawful ts e → Knows (content_of ts e) t → t ≡ node l (children t) → IsFormed t → infer_of l ≡ Some n → HasClass e n r Unset → any_label is_alias (resolved (content_of ts e) t) ≡ false
looked_unset ts e t l n r lawful knows is formed i class = (let o = head_open ts e t l n r lawful knows is (node_meets t l is formed) i class in plain_unset (content_of ts e) t o.bindable.of_kind r lawful.sound o.same (state_of-class ts e n r Unset class))

-- the goals that are owed, by their trees
owed_at : (us : List Tree) (z q : Bool) (v : Variance) (r t : NodeId) → pairs_at us (cond q [] (pair_in z v r t ∷ [])) ≡ owed_goals q z v (tree_at us r) (tree_at us t)
owed_at us z true v r t = refl
owed_at us z false v r t = ap (λ p. p ∷ []) (pair_at-in us z v r t)

pairs_known : (us : List Tree) (d : Content) (z q : Bool) (v : Variance) (r t : NodeId) → IsIn us r → IsIn us t → ArePairsKnown d (pairs_at us (cond q [] (pair_in z v r t ∷ []))) → ArePairs us d (cond q [] (pair_in z v r t ∷ []))
pairs_known us d z true v r t i j k = tt
pairs_known us d false false v r t i j k = ((i, j, k.0, k.1), tt)
pairs_known us d true false v r t i j k = ((j, i, k.0, k.1), tt)

-- a table with one more variable
content_fresh : (ts us : List Tree) (e f : Entries) (v : Variable) → IsLawful ts e → Extends ts us → f ≡ added e v → content_of us f ≡ with_slot (content_of ts e) (slot_of us v)
content_fresh ts us e f v lawful ext q = ap (content_of us) q ∙ content_of-added us e v ∙ ap (λ c. with_slot c (slot_of us v)) (content_of-extended ext lawful)

-- the older variables are as they were
kept_slot : (c : Content) (s : Slot) (x : ℕ) → x < length c.slots → IsKept c (with_slot c s) x
kept_slot c s x below =
    let apart : x ≡ length c.slots → ⊥ = λ e. omega (arith, below, e) in
    record { state = field-with_slot_old (λ y. y.state) c s x apart; universe = field-with_slot_old (λ y. y.universe) c s x apart }

-- a type variable, and the link to the class of sub-unification of its root
pub record IsLinkedTo (c : Content) (t : Tree) (o : Option ℕ) : Type 0 where
  pub number : ℕ
  pub is : IsTypeVariable t number
  pub root : ℕ
  pub reaches : Reaches c number root
  pub link : o ≡ Some root

-- a fresh variable that is linked to it shares its sub root
share_fresh : (c : Content) (s : Slot) (t : Tree) → s.state ≡ unset → (l : IsLinkedTo c t s.sub_link) → ShareSubRoots (with_slot c s) l.number (length c.slots)
share_fresh c s t free l =
    record {
      first = l.root;
      second = length c.slots;
      of_first = reaches_later (grown_slot c s free) l.reaches;
      of_second = here;
      shared = turned (linked (field-with_slot_new (λ x. x.sub_link) c s ∙ ap Some l.link));
    }

pub type_infer : (t : Tree) (n : ℕ) → IsTypeVariable t n → IsInfer t
type_infer empty n e = cc
type_infer (more a b) n e = cc
type_infer (node l c) n e = (let same : l ≡ label.Leaf (leaf.Variable kind.Ty n) = cc in (n, ap infer_of same))

fresh_joins : (c : Content) (s : Slot) (k : VariableKind) (t : Tree) → s.state ≡ unset → (IsInfer t → (k ≡ kind.Ty) × IsLinkedTo c t s.sub_link) → (n m : ℕ) → IsTypeVariable t n → IsTypeVariable (variable_tree k (length c.slots)) m → ShareSubRoots (with_slot c s) n m
fresh_joins c s k t free named n m p q =
    let l = (named (type_infer t n p)).1 in
    let own : l.number ≡ n = one_number t l.number n l.is p in
    let labels : Some (label.Leaf (leaf.Variable k (length c.slots))) ≡ Some (label.Leaf (leaf.Variable kind.Ty m)) = q in
    let new : length c.slots ≡ m = cc in
    subst (λ y. ShareSubRoots (with_slot c s) y m) own (subst (λ y. ShareSubRoots (with_slot c s) l.number y) new (share_fresh c s t free l))

-- .. and what it owes is due
fresh_due : (b c : Content) (s : Slot) (q z : Bool) (v : Variance) (k : VariableKind) (t : Tree) → s.state ≡ unset → IsInfer t ⊎ IsAlias t → (IsInfer t → v ≢ variance.Invariant) → (IsInfer t → (k ≡ kind.Ty) × IsLinkedTo c t s.sub_link) → length b.slots ≤ length c.slots → (q ≡ true) ⊎ IsUnvalued b v t
    → AreGoalsDue b (with_slot c s) (owed_goals q z v (variable_tree k (length c.slots)) t)
fresh_due b c s true z v k t free either varies named before part = tt
fresh_due b c s false z v k t free (inr a) varies named before part = (due_sides b (with_slot c s) z v (variable_tree k (length c.slots)) t (inl (inr a)), tt)
fresh_due b c s false z v k t free (inl i) varies named before part =
    let own = named i in
    let l = own.1 in
    let new : IsTypeVariable (variable_tree k (length c.slots)) (length c.slots) = ap (λ j. Some (label.Leaf (leaf.Variable j (length c.slots)))) own.0 in
    let loud : IsUnvalued b v t = ⊎_elim (λ (no : false ≡ true). cc) (λ f. f) part in
    let unset_before : state_of b l.number ≡ Some unset = fresh_number b v t l.number l.is (varies i) loud in
    let made : WasMadeFor b (with_slot c s) l.number (length c.slots) = record { free = unset_before; new = before; shared = share_fresh c s t free l } in
    let apart : AreTwoSides b (variable_tree k (length c.slots)) t =
    two_owed b (variable_tree k (length c.slots)) t l.number l.is unset_before (λ n x. (let same = one_number (variable_tree k (length c.slots)) n (length c.slots) x new in omega (arith, same, before))) in
    let two : AreTypeVariables b (with_slot c s) t (variable_tree k (length c.slots)) = record { first = l.number; second = length c.slots; left = l.is; right = new; either = inr (inl made) } in
    (due_sides b (with_slot c s) z v (variable_tree k (length c.slots)) t (inr (varies i, apart, inl (variables_turned t (variable_tree k (length c.slots)) two))), tt)

-- what a fresh variable for a type variable or a closed alias owes is a goal
fresh_owes : (q z : Bool) (v : Variance) (k : VariableKind) (n : ℕ) (t : Tree) → IsClosed t → kind_of t ≡ Some (of_sort (sort_of_variable k)) → IsInfer t ⊎ IsAlias t → (IsInfer t → (v ≢ variance.Invariant) × (k ≡ kind.Ty)) → AreGoals (owed_goals q z v (variable_tree k n) t)
fresh_owes true z v k n t closed sorted either varies = tt
fresh_owes false z v k n t closed sorted either varies = (
  goal_sides z v (variable_tree k n) t (record {
    left = (tt, tt);
    right = closed;
    kinds = sym sorted;
    rests = ⊎_elim
        (λ i. (let p = varies i in let own : Some (of_sort (sort_of_variable k)) ≡ Some (of_sort sort.Ty) = ap (λ j. Some (of_sort (sort_of_variable j))) p.1 in inr (p.0, own, sorted ∙ own)))
        (λ a. inl (inr a)) either;
  }),
  tt,
)

-- .. which is a type variable for a type variable, or a new one for an alias
fresh_like : (c : Content) (t : Tree) (k : VariableKind) (o : Option ℕ) (n m : ℕ) → IsInfer t ⊎ IsAlias t → (IsInfer t → IsLinkedTo c t o) → n ≤ length c.slots → IsTypeVariable (variable_tree k (length c.slots)) m → ((j : ℕ) × IsTypeVariable t j) ⊎ (IsAlias t × (n ≤ m))
fresh_like c t k o n m (inl i) linked_to low p = (let l = linked_to i in inl (l.number, l.is))
fresh_like c t k o n m (inr a) linked_to low p =
    let labels : Some (label.Leaf (leaf.Variable k (length c.slots))) ≡ Some (label.Leaf (leaf.Variable kind.Ty m)) = p in
    let new : length c.slots ≡ m = cc in
    inr (a, omega (arith, low, new))

-- .. and is made for a type variable, where there are no aliases
fresh_founds : (c : Content) (s : Slot) (t : Tree) → IsSound c → Knows c t → IsInfer t ⊎ IsAlias t → (IsInfer t → (s.kind ≡ kind.Ty) × IsLinkedTo c t s.sub_link) → IsPlainIn c t → FoundsVariables c (with_slot c s)
fresh_founds c s t sound knows (inl i) named h =
    let own = named i in
    let l = own.1 in
    let known : Knows c (node (label.Leaf (leaf.Variable kind.Ty l.number)) (children t)) = subst (Knows c) (labelled_node t (label.Leaf (leaf.Variable kind.Ty l.number)) l.is) knows in
    founds_slot c s l.root (kind_at-reaches c l.number l.root sound l.reaches ∙ known.0.0 ∙ ap Some (sym own.0)) l.link
fresh_founds c s t sound knows (inr a) named h = absurd (plain_no_alias c t h a)

-- a fresh variable for a type variable or a closed alias
pub fresh_at : (declared : ℕ → List Variance) (z : Bool) (u x : ℕ) (ts us : List Tree) (e f : Entries) (s : Spot) (r : NodeId) (gs hs : List Relating) (k : VariableKind) (o : Option ℕ) → x < length e.variables → (k ≡ kind.Ty) ⊎ (k ≡ kind.Const) → IsLawful ts e → IsLawful us f → Extends ts us → IsPart ts (content_of ts e) s
    → IsFormed (tree_at ts s.term) → IsClosed (tree_at ts s.term) → kind_of (tree_at ts s.term) ≡ Some (of_sort (sort_of_variable k)) → IsInfer (tree_at ts s.term) ⊎ IsAlias (tree_at ts s.term) → (IsInfer (tree_at ts s.term) → (s.variance ≢ variance.Invariant) × (k ≡ kind.Ty)) → (IsInfer (tree_at ts s.term) → IsLinkedTo (content_of ts e) (tree_at ts s.term) o)
    → IsIn us r → tree_at us r ≡ variable_tree k (length e.variables) → f ≡ added e (fresh k u o) → hs ≡ gs ++ owed_pairs z s r → IsMadeAt declared z u x ts us e f s r gs hs
fresh_at declared z u x ts us e f s r gs hs k o below sort lawful later ext part formed closed sorted either varies linked_to within is q goals =
    let c = content_of ts e in
    let slot = slot_of us (fresh k u o) in
    let t = tree_at ts s.term in
    let content : content_of us f ≡ with_slot c slot = content_fresh ts us e f (fresh k u o) lawful ext q in
    let kept : tree_at us s.term ≡ t = ext.kept s.term part.within in
    let tree : tree_at us r ≡ variable_tree k (length c.slots) = is ∙ ap (variable_tree k) (sym (length-slots ts e.variables)) in
    let new : pairs_at us (owed_pairs z s r) ≡ owed_goals s.is_quiet z s.variance (variable_tree k (length c.slots)) t = owed_at us z s.is_quiet s.variance r s.term ∙ (λ i. owed_goals s.is_quiet z s.variance (tree i) (kept i)) in
    let whole = made_fresh declared z c slot refl lawful.sound (lawful_sides ts e lawful) u refl s.variance s.is_quiet t sort part.knows formed closed sorted either (fresh_founds c slot t lawful.sound part.knows either (λ i. ((varies i).1, linked_to i))) in
    let made : IsMade declared z u c (content_of us f) s.variance s.is_quiet t (tree_at us r) (pairs_at us (owed_pairs z s r)) = rw (content, tree, new) whole in
    record {
      within = within;
      lawful = later;
      new = owed_pairs z s r;
      goals = goals;
      known = pairs_known us (content_of us f) z s.is_quiet s.variance r s.term within (IsIn-extended ext s.term part.within) made.goals;
      made = made;
      kept = rw content (kept_slot c slot x (omega (arith, below, length-slots ts e.variables)));
      like = λ n low. rw tree (like_closed n s.variance t (variable_tree k (length c.slots)) (tt, tt) (sym sorted) (λ own m p. fresh_like c t k o n m either linked_to low p));
      are_goals = rw new (fresh_owes s.is_quiet z s.variance k (length c.slots) t closed sorted either varies);
      counted = rw (content, tree) (counted_fresh c slot s.variance s.is_quiet t refl lawful.sound sort either (λ i. (varies i).0));
      joins = λ n m apart. rw (content, tree) (fresh_joins c slot k t refl (λ i. ((varies i).1, linked_to i)) n m);
      due = λ b before h. rw (content, new) (fresh_due b c slot s.is_quiet z s.variance k t refl either (λ i. (varies i).0) (λ i. ((varies i).1, linked_to i)) before h);
    }

-- a fresh region
pub recorded_by : (us : List Tree) (z : Bool) (v : Variance) (r t : NodeId) → recorded_of us (constraint_of_pair (pair_in z v r t)) ≡ owed_by z v (tree_at us r) (tree_at us t)
recorded_by us false variance.Invariant r t = refl
recorded_by us false variance.Covariant r t = refl
recorded_by us false variance.Contravariant r t = refl
recorded_by us true variance.Invariant r t = refl
recorded_by us true variance.Covariant r t = refl
recorded_by us true variance.Contravariant r t = refl

abbrev after : Bool → Bool → Variance → NodeId → NodeId → Entries → Entries
after q z v r t e = cond q e (constrained e (constraint_of_pair (pair_in z v r t)))

region_made : (declared : ℕ → List Variance) (z : Bool) (u : ℕ) (ts us : List Tree) (e : Entries) (q : Bool) (v : Variance) (r t : NodeId) → IsLawful ts e → Extends ts us → IsIn ts t → Knows (content_of ts e) (tree_at ts t) → IsRegion (tree_at ts t) → tree_at us r ≡ variable_tree kind.Region (length e.variables)
    → IsMade declared z u (content_of ts e) (content_of us (after q z v r t (added e (fresh kind.Region u None)))) v q (tree_at ts t) (tree_at us r) []
region_made declared z u ts us e true v r t lawful ext within knows free is =
    let c = content_of ts e in
    let slot = slot_of us (fresh kind.Region u None) in
    let content : content_of us (added e (fresh kind.Region u None)) ≡ with_slot c slot = content_fresh ts us e _ (fresh kind.Region u None) lawful ext refl in
    let tree : tree_at us r ≡ variable_tree kind.Region (length c.slots) = is ∙ ap (variable_tree kind.Region) (sym (length-slots ts e.variables)) in
    rw (content, tree) (made_region_quietly declared z c slot refl lawful.sound (lawful_sides ts e lawful) u refl v (tree_at ts t) refl knows free)
region_made declared z u ts us e false v r t lawful ext within knows free is =
    let c = content_of ts e in
    let slot = slot_of us (fresh kind.Region u None) in
    let m = added e (fresh kind.Region u None) in
    let before : content_of us m ≡ with_slot c slot = content_fresh ts us e _ (fresh kind.Region u None) lawful ext refl in
    let tree : tree_at us r ≡ variable_tree kind.Region (length c.slots) = is ∙ ap (variable_tree kind.Region) (sym (length-slots ts e.variables)) in
    let kept : tree_at us t ≡ tree_at ts t = ext.kept t within in
    let x : recorded_of us (constraint_of_pair (pair_in z v r t)) ≡ owed_by z v (variable_tree kind.Region (length c.slots)) (tree_at ts t) = recorded_by us z v r t ∙ (λ i. owed_by z v (tree i) (kept i)) in
    let content : content_of us (constrained m (constraint_of_pair (pair_in z v r t))) ≡ with_constraint (with_slot c slot) (owed_by z v (variable_tree kind.Region (length c.slots)) (tree_at ts t)) =
    content_of-constrained us m (constraint_of_pair (pair_in z v r t)) ∙ (λ i. with_constraint (before i) (x i)) in
    rw (content, tree) (made_region declared z c slot refl lawful.sound (lawful_sides ts e lawful) u refl v (tree_at ts t) refl knows free)

region_counted : (z : Bool) (u : ℕ) (ts us : List Tree) (e : Entries) (q : Bool) (v : Variance) (r t : NodeId) → IsLawful ts e → Extends ts us → IsRegion (tree_at ts t) → tree_at us r ≡ variable_tree kind.Region (length e.variables)
    → IsCountedFor (content_of ts e) (content_of us (after q z v r t (added e (fresh kind.Region u None)))) v q (tree_at ts t) (tree_at us r)
region_counted z u ts us e q v r t lawful ext free is = by_case q
  where
    c : Content
    c = content_of ts e

    m : Entries
    m = added e (fresh kind.Region u None)

    content : content_of us m ≡ with_slot c (slot_of us (fresh kind.Region u None))
    content = content_fresh ts us e _ (fresh kind.Region u None) lawful ext refl

    tree : tree_at us r ≡ variable_tree kind.Region (length c.slots)
    tree = is ∙ ap (variable_tree kind.Region) (sym (length-slots ts e.variables))

    fresh_one : (p : Bool) → IsCountedFor c (content_of us m) v p (tree_at ts t) (tree_at us r)
    fresh_one p = rw (content, tree) (counted_region c (slot_of us (fresh kind.Region u None)) v p (tree_at ts t) refl lawful.sound refl free)

    by_case : (p : Bool) → IsCountedFor c (content_of us (after p z v r t m)) v p (tree_at ts t) (tree_at us r)
    by_case true = fresh_one true
    by_case false =
        rw (content_of-constrained us m (constraint_of_pair (pair_in z v r t)))
        (counted_recorded c (content_of us m) (recorded_of us (constraint_of_pair (pair_in z v r t))) v false (tree_at ts t) (tree_at us r) (fresh_one false))

region_kept : (u x : ℕ) (ts us : List Tree) (e : Entries) (q z : Bool) (v : Variance) (r t : NodeId) → x < length e.variables → IsLawful ts e → Extends ts us → IsKept (content_of ts e) (content_of us (after q z v r t (added e (fresh kind.Region u None)))) x
region_kept u x ts us e true z v r t below lawful ext =
    let w = fresh kind.Region u None in
    rw (content_fresh ts us e (added e w) w lawful ext refl) (kept_slot (content_of ts e) (slot_of us w) x (omega (arith, below, length-slots ts e.variables)))
region_kept u x ts us e false z v r t below lawful ext =
    let w = fresh kind.Region u None in
    let a = kept_slot (content_of ts e) (slot_of us w) x (omega (arith, below, length-slots ts e.variables)) in
    let b : IsKept (content_of ts e) (content_of us (added e w)) x = rw (content_fresh ts us e (added e w) w lawful ext refl) a in
    record { state = b.state; universe = b.universe }

pub region_at : (declared : ℕ → List Variance) (z : Bool) (u x : ℕ) (ts us : List Tree) (e f : Entries) (s : Spot) (r : NodeId) (gs : List Relating) → x < length e.variables → IsLawful ts e → IsLawful us f → Extends ts us → IsRegionOf ts e s.term → IsIn us r → tree_at us r ≡ variable_tree kind.Region (length e.variables)
    → f ≡ with_owed z s r (added e (fresh kind.Region u None)) → IsMadeAt declared z u x ts us e f s r gs gs
region_at declared z u x ts us e f s r gs below lawful later ext free within is q =
    record {
      within = within;
      lawful = later;
      new = [];
      goals = sym (append-nil gs);
      known = tt;
      made = rw q (region_made declared z u ts us e s.is_quiet s.variance r s.term lawful ext free.within free.knows free.free is);
      kept = rw q (region_kept u x ts us e s.is_quiet z s.variance r s.term below lawful ext);
      like = λ n low. rw is (like_closed n s.variance (tree_at ts s.term) (variable_tree kind.Region (length e.variables)) (tt, tt) (sym free.sort) (λ own m p. cc p));
      are_goals = tt;
      counted = rw q (region_counted z u ts us e s.is_quiet s.variance r s.term lawful ext free.free is);
      joins = λ n m apart p x. (let labels : Some (label.Leaf (leaf.Variable kind.Region (length e.variables))) ≡ Some (label.Leaf (leaf.Variable kind.Ty m)) = ap label_of (sym is) ∙ x in cc);
      due = λ b before h. tt;
    }

-- a part that stands for itself
pub itself_at : (declared : ℕ → List Variance) (z : Bool) (u x : ℕ) (ts : List Tree) (e : Entries) (s : Spot) (gs : List Relating) (l : Label) → IsLawful ts e → IsPart ts (content_of ts e) s → IsFormed (tree_at ts s.term) → tree_at ts s.term ≡ node l (children (tree_at ts s.term)) → has_parts l ≡ false
    → ((n : ℕ) → l ≡ label.Leaf (leaf.Variable kind.Ty n) → ⊥) → ((n : ℕ) → l ≡ label.Leaf (leaf.Variable kind.Const n) → ⊥) → varies l ≡ false → IsMadeAt declared z u x ts ts e e s s.term gs gs
itself_at declared z u x ts e s gs l lawful part formed is plain no_type no_const fixed =
    let c = content_of ts e in
    let t = tree_at ts s.term in
    let whole = made_plain declared z u c s.variance s.is_quiet l (children t) part.sort lawful.sound lawful.proper.solvable (subst (Knows c) is part.knows) (subst IsFormed is formed) (ap kind_of (sym is) ∙ part.kind) plain no_type no_const (fixed_region l fixed) in
    let count = counted_plain c s.variance s.is_quiet l (children t) part.sort lawful.sound lawful.proper.solvable (subst (Knows c) is part.knows) (subst IsFormed is formed) (ap kind_of (sym is) ∙ part.kind) plain no_type no_const (fixed_region l fixed) in
    record {
      within = part.within;
      lawful = lawful;
      new = [];
      goals = sym (append-nil gs);
      known = tt;
      made = subst (λ y. IsMade declared z u c c s.variance s.is_quiet y y []) (sym is) whole;
      kept = record { state = refl; universe = refl };
      like = λ n low. like_itself n s.variance t;
      are_goals = tt;
      counted = subst (λ y. IsCountedFor c c s.variance s.is_quiet y y) (sym is) count;
      joins = λ n m apart p x. (let labels : Some l ≡ Some (label.Leaf (leaf.Variable kind.Ty n)) = ap label_of (sym is) ∙ p in absurd (no_type n cc));
      due = λ b before h. tt;
    }
  where
    fixed_free : (r : FreeRegion) → varies_region r ≡ false → (is_free_region (label.Leaf (leaf.Region r)) ≡ false) ⊎ ((q : FreeRegion) × (label.Leaf (leaf.Region r) ≡ label.Leaf (leaf.Region q)) × IsErased q)
    fixed_free region.Erased e = inr (region.Erased, refl, tt)
    fixed_free region.Error e = inr (region.Error, refl, tt)
    fixed_free r e = cc

    fixed_region : (l : Label) → varies l ≡ false → (is_free_region l ≡ false) ⊎ ((q : FreeRegion) × (l ≡ label.Leaf (leaf.Region q)) × IsErased q)
    fixed_region (label.Leaf (leaf.Region r)) e = fixed_free r e
    fixed_region (label.Leaf (leaf.Variable kind.Region n)) e = cc
    fixed_region l e = inl refl

-- a region that may vary
pub varies_free : (l : Label) → varies l ≡ true → is_free_region l ≡ true
varies_free (label.Leaf (leaf.Region r)) e = refl
varies_free (label.Leaf (leaf.Variable kind.Region n)) e = refl
varies_free l e = cc

-- a part that stands as it is
const_kind : (l : Label) → const_variable l ≡ true → kind_of_label l ≡ of_sort sort.Const
const_kind (label.Leaf (leaf.Variable kind.Const n)) e = refl
const_kind l e = cc

pub alone_part : (t : Tree) (l : Label) (f : TypeFlags) (v : Variance) → t ≡ node l (children t) → f ≡ flags_of t → ((v ≡ variance.Invariant) ⊎ (const_variable l ≡ true)) ⊎ ((f.has_infer ≡ false) × (f.has_free_region ≡ false)) → StandsAlone v t
alone_part t l f v is flags h = ⊎_elim
    (λ either. inl (⊎_elim (λ e. inl e) (λ e. inr (ap kind_of is ∙ ap Some (const_kind l e))) either))
    (λ p. inr (record { no_infer = ap (λ x. x.has_infer) (sym flags) ∙ p.0; no_region = ap (λ x. x.has_free_region) (sym flags) ∙ p.1 })) h

-- a type variable has no aliases
pub type_plain : (t : Tree) (n : ℕ) → IsTypeVariable t n → IsFormed t → any_label is_alias t ≡ false
type_plain t n e formed =
    let is = labelled_node t (label.Leaf (leaf.Variable kind.Ty n)) e in
    ap (any_label is_alias) (is ∙ ap (node (label.Leaf (leaf.Variable kind.Ty n))) (no_children (children t) (node_meets t _ is formed)))

-- a type variable that varies does not stand as it is
some_infer : (t : Tree) (n : ℕ) → IsTypeVariable t n → any_label is_infer t ≡ false → ⊥
some_infer empty n e = cc
some_infer (more a b) n e = cc
some_infer (node l c) n e = (let same : l ≡ label.Leaf (leaf.Variable kind.Ty n) = cc in subst (λ m. any_label is_infer (node m c) ≡ false → ⊥) (sym same) (λ h. cc))

no_piece : (v : Variance) (t : Tree) (n : ℕ) → v ≢ variance.Invariant → IsTypeVariable t n → StandsAlone v t → ⊥
no_piece v t n varies p alone = ⊎_elim
    (λ x. ⊎_elim (λ i. varies i) (λ (k : kind_of t ≡ Some (of_sort sort.Const)). (let same : Some (of_sort sort.Ty) ≡ Some (of_sort sort.Const) = sym (type_kind t n p) ∙ k in cc)) x)
    (λ f. some_infer t n p f.no_infer) alone

-- a value for a part that stands as it is
pub value_at : (declared : ℕ → List Variance) (z : Bool) (u x b : ℕ) (ts us : List Tree) (e f : Entries) (s : Spot) (r : NodeId) (gs : List Relating) → x < length e.variables → kind_at (content_of ts e) x ≢ Some kind.Region → IsLawful ts e → IsLawful us f → IsPart ts (content_of ts e) s → IsFormed (tree_at ts s.term)
    → StandsAlone s.variance (tree_at ts s.term) → any_label is_alias (tree_at ts s.term) ≡ false → (s.is_quiet ≡ false → any_label is_alias (resolved (content_of ts e) (tree_at ts s.term)) ≡ false)
    → IsIn us r → Generalized (content_of ts e) (content_of us f) x u b (tree_at ts s.term) (tree_at us r) → IsMadeAt declared z u x ts us e f s r gs gs
value_at declared z u x b ts us e f s r gs below no_region lawful later part formed alone plain values within gen =
    record {
      within = within;
      lawful = later;
      new = [];
      goals = sym (append-nil gs);
      known = tt;
      made = made_piece declared z u (content_of ts e) (content_of us f) x b s.variance s.is_quiet (tree_at ts s.term) (tree_at us r) part.sort lawful.sound later.sound later.proper.solvable part.knows formed part.kind plain values alone gen gen.clean;
      kept = (let keeps = gen.keeps in record { state = keeps.states x (omega (arith, below, length-slots ts e.variables)) no_region; universe = gen.own });
      like = λ n low.
          record {
            closed = closed_patched (tree_at ts s.term) (tree_at us r) gen.patched;
            kind = kind_of-like (tree_at us r) (tree_at ts s.term) gen.like;
            variable = λ own m p. inl (ranked_type (tree_at ts s.term) (let two = type_rank (tree_at us r) m p in let rank = gen.rank in omega (arith, two, rank)));
          };
      are_goals = tt;
      counted = counted_piece (content_of ts e) (content_of us f) x u b s.variance s.is_quiet (tree_at ts s.term) (tree_at us r) later.sound part.knows values gen;
      joins = λ n m varies p y. absurd (no_piece s.variance (tree_at ts s.term) n varies p alone);
      due = λ b before h. tt;
    }

-- closed and open trees by the level that escapes
below_none : (o : Option ℕ) → none_escapes o ≡ true → IsBelow 0 o
below_none None e = tt
below_none (Some d) e = cc

not_below : (o : Option ℕ) → none_escapes o ≡ false → IsBelow 0 o → ⊥
not_below None e h = cc
not_below (Some d) e h = omega (arith, h)

pub closed_tree : (t : Tree) → none_escapes (escaping t) ≡ true → IsClosed t
closed_tree t e = (closed_under 0 t).0 (below_none (escaping t) e)

pub open_tree : (t : Tree) → none_escapes (escaping t) ≡ false → IsClosed t → ⊥
open_tree t e closed = not_below (escaping t) e ((closed_under 0 t).1 closed)

-- a closed alias
pub alias_tree : (l : Label) (c : Tree) → IsFormed (node l c) → is_alias l ≡ true → IsClosed (node l c) → IsAlias (node l c)
alias_tree (label.Ty (ty.Alias i)) c f e closed = (let k = over_parts (label.Ty (ty.Alias i)) c f refl in record { head = alias_of.Ty i; parts = parts_of (node (label.Ty (ty.Alias i)) c); is = k.with_parts.is; closed = closed })
alias_tree (label.Const (konst.Unevaluated i)) c f e closed = (let k = over_parts (label.Const (konst.Unevaluated i)) c f refl in record { head = alias_of.Const i; parts = parts_of (node (label.Const (konst.Unevaluated i)) c); is = k.with_parts.is; closed = closed })
alias_tree l c f e closed = cc

pub record IsClosedAlias (t : Tree) (l : Label) : Type 0 where
  pub label : is_alias l ≡ true
  pub closed : IsClosed t
  pub loose : IsAlias t

pub closed_alias_tree : (t : Tree) (l : Label) → t ≡ node l (children t) → IsFormed t → closed_alias l (escaping t) ≡ true → IsClosedAlias t l
closed_alias_tree t l is formed e =
    let p = both_parts (is_alias l) (none_escapes (escaping t)) e in
    let closed = closed_tree t p.1 in
    record { label = p.0; closed = closed; loose = subst IsAlias (sym is) (alias_tree l (children t) (subst IsFormed is formed) p.0 (subst IsClosed is closed)) }
  where
    both_parts : (a b : Bool) → (a && b) ≡ true → (a ≡ true) × (b ≡ true)
    both_parts true b e = (refl, e)
    both_parts false b e = cc

-- its sort
pub alias_sort : (l : Label) (k : VariableKind) → is_alias l ≡ true → ((h : ConstHead) × (l ≡ label.Const h) × (k ≡ kind.Const)) ⊎ (((h : ConstHead) → l ≡ label.Const h → ⊥) × (k ≡ kind.Ty)) → (of_sort (sort_of_variable k) ≡ kind_of_label l) × ((k ≡ kind.Ty) ⊎ (k ≡ kind.Const))
alias_sort (label.Ty (ty.Alias i)) k e h = ⊎_elim (λ p. (let q = p.1 in cc)) (λ p. (ap (λ x. of_sort (sort_of_variable x)) p.1, inl p.1)) h
alias_sort (label.Const (konst.Unevaluated i)) k e h = ⊎_elim (λ p. (ap (λ x. of_sort (sort_of_variable x)) p.2, inr p.2)) (λ p. absurd (p.0 (konst.Unevaluated i) refl)) h
alias_sort l k e h = cc

-- a node that is made again
fits_form : (l : Label) (c : Tree) → IsOverParts (node l c) → has_parts l ≡ true → closed_alias l (escaping (node l c)) ≡ false → FitsForm (form_of_tree (node l c)) (parts_of (node l c))
fits_form (label.Ty (ty.Ctor i)) c h p e = tt
fits_form (label.Ty ty.FnPtr) c h p e = h.fits
fits_form (label.Ty (ty.Alias i)) c h p e = λ closed. open_tree (node (label.Ty (ty.Alias i)) c) e (subst IsClosed (sym h.with_parts.is) closed)
fits_form (label.Const (konst.Unevaluated i)) c h p e = λ closed. open_tree (node (label.Const (konst.Unevaluated i)) c) e (subst IsClosed (sym h.with_parts.is) closed)
fits_form (label.Const (konst.Value b)) c h p e = h.fits
fits_form l c h p e = cc

again_at : (l : Label) (c : Tree) → IsFormed (node l c) → has_parts l ≡ true → closed_alias l (escaping (node l c)) ≡ false → IsMadeAgain (node l c)
again_at l c f p e = (let k = over_parts l c f p in record { formed = f; with_parts = k.with_parts; fits = fits_form l c k p e })

pub made_again : (t : Tree) (l : Label) → t ≡ node l (children t) → IsFormed t → has_parts l ≡ true → closed_alias l (escaping t) ≡ false → IsMadeAgain t
made_again t l is formed p e = subst IsMadeAgain (sym is) (again_at l (children t) (subst IsFormed is formed) p (subst (λ x. closed_alias l (escaping x) ≡ false) is e))

-- what has variables, and is none, has parts
pub bare : (l : Label) (s : Sort) → kind_of_label l ≡ of_sort s → has_parts l ≡ false → shape l ≡ in_order []
bare (label.Leaf x) s k e = refl
bare (label.Bound a i n) s k e = refl
bare (label.Ty (ty.Ctor i)) s k e = cc
bare (label.Ty (ty.Int i)) s k e = refl
bare (label.Ty (ty.Uint i)) s k e = refl
bare (label.Ty (ty.Float i)) s k e = refl
bare (label.Ty ty.FnPtr) s k e = cc
bare (label.Ty (ty.Alias i)) s k e = cc
bare (label.Ty ty.Error) s k e = refl
bare (label.Const (konst.Unevaluated i)) s k e = cc
bare (label.Const (konst.Value b)) s k e = cc
bare (label.Const konst.Error) s k e = refl
bare (label.Clause h) s k e = cc
bare (label.Predicate h) s k e = cc
bare (label.List list.Args) s k e = cc
bare (label.List list.Env) s k e = cc
bare (label.List list.Sorts) s k e = cc
bare (label.List (list.Sort a)) s k e = cc
bare (label.List list.Binder) s k e = cc

no_infer : (l : Label) → infer_of l ≡ None → is_infer l ≡ false
no_infer (label.Leaf (leaf.Variable kind.Ty n)) e = cc
no_infer (label.Leaf (leaf.Variable kind.Int n)) e = cc
no_infer (label.Leaf (leaf.Variable kind.Float n)) e = cc
no_infer (label.Leaf (leaf.Variable kind.Const n)) e = cc
no_infer (label.Leaf (leaf.Variable kind.Region n)) e = refl
no_infer (label.Leaf (leaf.Region r)) e = refl
no_infer (label.Leaf (leaf.TyConstant a)) e = refl
no_infer (label.Leaf (leaf.ConstConstant a)) e = refl
no_infer (label.Bound s i n) e = refl
no_infer (label.Ty h) e = refl
no_infer (label.Const h) e = refl
no_infer (label.Clause h) e = refl
no_infer (label.Predicate h) e = refl
no_infer (label.List h) e = refl

bare_parts : (l : Label) (c : Tree) (s : Sort) (b : Bool) → has_parts l ≡ b → IsFormed (node l c) → kind_of_label l ≡ of_sort s → any_label is_infer (node l c) ≡ true → infer_of l ≡ None → b ≡ true
bare_parts l c s true p f k some none = refl
bare_parts l c s false p f k some none =
    let alone : c ≡ empty = no_children c (subst (λ x. Meets x c) (bare l s k p) f.0) in
    let clear : any_label is_infer (node l c) ≡ false = ap (λ x. is_infer l || any_label is_infer x) alone ∙ ap (λ x. x || false) (no_infer l none) in
    cc

pub infer_parts : (t : Tree) (l : Label) (s : Sort) → t ≡ node l (children t) → IsFormed t → kind_of t ≡ Some (of_sort s) → any_label is_infer t ≡ true → infer_of l ≡ None → has_parts l ≡ true
infer_parts t l s is formed k some none =
    let kinds : Some (kind_of_label l) ≡ Some (of_sort s) = ap kind_of (sym is) ∙ k in
    bare_parts l (children t) s (has_parts l) refl (subst IsFormed is formed) (cc) (ap (any_label is_infer) (sym is) ∙ some) none

pub plain_label : (t : Tree) (l : Label) → t ≡ node l (children t) → any_label is_alias t ≡ false → (o : Option ℕ) → closed_alias l o ≡ false
plain_label t l is plain o =
    let p = or_parts (is_alias l) (any_label is_alias (children t)) (ap (any_label is_alias) (sym is) ∙ plain) in
    ap (λ b. b && none_escapes o) p.0

-- a variable of a const has no aliases
pub no_const : (t : Tree) (l : Label) (n : ℕ) → t ≡ node l (children t) → IsFormed t → (const_variable l ≡ false) ⊎ (any_label is_alias t ≡ true) → l ≡ label.Leaf (leaf.Variable kind.Const n) → ⊥
no_const t l n is formed h e = ⊎_elim
    (λ p. (let q = ap const_variable (sym e) ∙ p in cc))
    (λ p.
    let at : t ≡ node (label.Leaf (leaf.Variable kind.Const n)) (children t) = is ∙ ap (λ x. node x (children t)) e in
    let alone = no_children (children t) (node_meets t _ at formed) in
    let plain : any_label is_alias t ≡ false = ap (any_label is_alias) at ∙ ap (any_label is_alias) alone in
    cc) h

pub no_type : (l : Label) (n : ℕ) → None ≡ number_of_type l → l ≡ label.Leaf (leaf.Variable kind.Ty n) → ⊥
no_type l n h e = (let q = h ∙ ap number_of_type e in cc)

pub from_not_false : (b : Bool) → not b ≡ false → b ≡ true
from_not_false true e = refl
from_not_false false e = cc

pub from_not_true : (b : Bool) → not b ≡ true → b ≡ false
from_not_true true e = cc
from_not_true false e = refl

-- a variable of the table
pub looked_within : (ts : List Tree) (e : Entries) (t : Tree) (l : Label) (n : ℕ) → Knows (content_of ts e) t → t ≡ node l (children t) → infer_of l ≡ Some n → n < length e.variables
looked_within ts e t l n knows is i =
    let c = content_of ts e in
    let x = infer_label l n i in
    let known : Knows c (node l (children t)) = subst (Knows c) is knows in
    let has : kind_at c n ≡ Some x.of_kind = subst (KnowsVariable c) x.is known.0.0 in
    let below : n < length c.slots = field_below (λ s. s.kind) c n x.of_kind has in
    omega (arith, below, length-slots ts e.variables)
