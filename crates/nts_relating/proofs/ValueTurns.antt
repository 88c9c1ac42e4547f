-- One turn of the walk that makes a value.
use Rattle.std.proofs.Common.{◌≡◌, inl, inr, ⊎_elim, ℕ, ◌+◌, ◌^◌, ◌<◌, ◌≤◌, List, [], ◌∷◌, ◌++◌, length, Option, Some, None, refl, sym, ap, ◌∙◌, subst, arith, append_assoc}
use Rattle.std.specs.Prelude.{Result, Ok, Err, OnOk}
use Rattle.std.proofs.lemmas.List.{append-nil}
use Rattle.nts_model.specs.declared.labels.VariableKind.TheVariants as kind
use Rattle.nts_model.specs.declared.labels.Label.{Label}
use Rattle.nts_model.specs.Terms.Trees.{Tree, node, size, children, row_length, row_at, row_take, IsRow, label_of, binders}
use Rattle.nts_model.specs.Tables.Contents.{Content, kind_at}
use Rattle.nts_model.specs.Tables.Resolving.{Knows, IsSound, left_to_resolve}
use Rattle.nts_model.proofs.Terms.Variables.{infer_of_none}
use Rattle.nts_model.proofs.Tables.Resolved.{node_step}
use Rattle.nts_store.specs.declared.nodes.NodeId.{NodeId}
use Rattle.nts_store.specs.Growth.{tree_at, trees_at, IsIn, AreApart, Extends}
use Rattle.nts_store.proofs.Growing.{IsIn-extended, Extends-refl}
use Rattle.nts_relating.specs.declared.value_walk.Part.{Part}
use Rattle.nts_relating.specs.declared.value_walk.Task.{Task}
use Rattle.nts_relating.specs.declared.value_walk.Task.TheVariants as task
use Rattle.nts_unify.specs.Entries.{Entries}
use Rattle.nts_unify.specs.Reading.{content_of, IsLawful}
use Rattle.nts_unify.specs.Lawful.{IsLawful-extended, content_of-extended}
use Rattle.nts_relating.specs.Relating.{Generalized, Blocks}
use Rattle.nts_relating.specs.Parts.{IsVariableValue, IsGeneralizedNode, WalkGrows, IsGeneralizingPart, part_of, IsGeneralizingTask, AreGeneralizingTasks, Has, IsCovered, AreTasksReady, inner, IsGeneralizedFor, IsGeneralizingWalk, task_weight, task_weights, IsGeneralizingTurn, IsEntered}
use Rattle.nts_unify.proofs.Changes.{length-slots}
use Rattle.nts_unify.proofs.Keeping.{Knows-later, no_region-later}
use Rattle.nts_relating.proofs.Naming.{lawful_sides}
use Rattle.nts_relating.proofs.GenLemmas.{IsFair, slots_later, binders_le, gen_known, gen_node}
use Rattle.nts_relating.proofs.ValueParts.{WalkGrows-refl, WalkGrows-trans, part_whole, part_value, blocks_before, grows_by, stands_now, stands_later, stands_whole}
use Rattle.nts_relating.proofs.ValueTasks.{IsMore, AreGeneralizingTasks-front, AreGeneralizingTasks-append, task_weights-append, covers_done, covers_put, ready_front, ready_last, later_tasks, later_ready, later_weights, children_tasks, children_ready}

pub task_part : (ts : List Tree) (c : Content) (u : ℕ) (root : Part) (y : Task) → IsGeneralizingTask ts c u root y → IsGeneralizingPart ts c u root (part_of y)
task_part ts c u root (task.Enter p) h = h
task_part ts c u root (task.Build p) h = h.0
task_part ts c u root (task.Pass p v) h = h.0

pub on_ok : {A E P Q : Type 0} (r : Result A E) → (P → Q) → OnOk r P → OnOk r Q
on_ok (Ok a) f h = f h
on_ok (Err e) f h = tt

weight_some : (ts : List Tree) (c : Content) (y : Task) → 1 ≤ task_weight ts c y
weight_some ts c (task.Enter p) = omega arith
weight_some ts c (task.Build p) = omega arith
weight_some ts c (task.Pass p v) = omega arith

some_node : (r s : NodeId) → Some r ≡ Some s → r ≡ s
some_node r s e = cc

later_made : {ts us : List Tree} {c d : Content} {x u : ℕ} {whole : Tree} {p : Part} {r : NodeId} → Extends ts us → IsFair c → IsSound d → WalkGrows c d x u whole → IsGeneralizedFor ts c x u p r → IsGeneralizedFor us d x u p r
later_made {ts} {us} {c} {d} {x} {u} {whole} {p} {r} e fair s g h =
    let at = e.kept p.term h.within in
    record {
      within = IsIn-extended e p.term h.within;
      made_in = IsIn-extended e r h.made_in;
      knows = rw at (Knows-later (tree_at ts p.term) g.keeps.later h.knows);
      stands = rw (at, e.kept r h.made_in) (stands_later fair s h.knows g h.stands);
    }

-- the last task is done: a term stands for its part
pub turn_done : (ts us : List Tree) (e f : Entries) (x u : ℕ) (root p : Part) (xs : List Task) (y : Task) (m n : Part → Option NodeId) (r : NodeId) → IsGeneralizingWalk ts e x u root (xs ++ y ∷ []) m → part_of y ≡ p → Extends ts us → IsLawful us f → IsIn us r
    → Generalized (content_of ts e) (content_of us f) x u p.binders (tree_at ts p.term) (tree_at us r) → IsMore m n p r → IsGeneralizingTurn ts us e f x u root (xs ++ y ∷ []) xs n
turn_done ts us e f x u root p xs y m n r w is ext law made_in g more =
    let c = content_of ts e in
    let d = content_of us f in
    let front = AreGeneralizingTasks-front ts c u root xs y w.tasks in
    let part : IsGeneralizingPart ts c u root p = subst (IsGeneralizingPart ts c u root) is (task_part ts c u root y front.1) in
    let grows : WalkGrows c d x u (tree_at ts root.term) = grows_by w.lawful.sound part.part g in
    let within : x < length c.slots = omega (arith, w.known, length-slots ts e.variables) in
    let at = ext.kept p.term part.within in
    let ready : AreTasksReady ts n xs = subst (AreTasksReady ts n) (append-nil xs) (ready_front ts m n y [] (λ zs. rw (append-nil zs) (covers_done y is more zs)) tt xs w.ready) in
    let own : IsGeneralizedFor us d x u p r = record {
      within = IsIn-extended ext p.term part.within;
      made_in = made_in;
      knows = rw at (Knows-later (tree_at ts p.term) grows.keeps.later part.part.knows);
      stands = rw at (stands_now w.lawful.sound law.sound part.part.knows g);
    } in
    let fair : IsFair c = record { sound = w.lawful.sound; sides = lawful_sides ts e w.lawful } in
    record {
      walk = record {
        lawful = law;
        known = slots_later ts us e f x grows.keeps.later w.known;
        named = omega (arith, w.named, grows.keeps.later.grows);
        no_region = no_region-later x grows.keeps.later within w.no_region;
        root_in = IsIn-extended ext root.term w.root_in;
        root_known = rw (ext.kept root.term w.root_in) (Knows-later (tree_at ts root.term) grows.keeps.later w.root_known);
        tasks = later_tasks root ext w.root_in grows xs front.0;
        ready = later_ready c u root ext n xs front.0 ready;
        made = λ q s k. ⊎_elim
            (λ (same : q ≡ p). let one : s ≡ r = some_node s r (sym k ∙ ap n same ∙ more.own) in rw (same, one) own)
            (λ (old : n q ≡ m q). later_made ext fair law.sound grows (w.made q s (sym old ∙ k))) (more.others q);
        whole = covers_done y is more xs root w.whole;
      };
      grows = grows;
      less = omega (arith, later_weights root ext grows xs front.0, task_weights-append ts c xs (y ∷ []), weight_some ts c y);
    }

-- the part was found before
pub turn_found : (ts : List Tree) (e : Entries) (x u : ℕ) (root p : Part) (xs : List Task) (m : Part → Option NodeId) (r : NodeId) → IsGeneralizingWalk ts e x u root (xs ++ task.Enter p ∷ []) m → m p ≡ Some r → IsGeneralizingTurn ts ts e e x u root (xs ++ task.Enter p ∷ []) xs m
turn_found ts e x u root p xs m r w found =
    let old = w.made p r found in
    turn_done ts ts e e x u root p xs (task.Enter p) m m r w refl (Extends-refl ts) w.lawful old.made_in old.stands (record { own = found; others = λ q. inr refl })

-- its task gives way to others
turn_put : (ts : List Tree) (e : Entries) (x u : ℕ) (root p : Part) (xs zs : List Task) (y : Task) (m : Part → Option NodeId) → IsGeneralizingWalk ts e x u root (xs ++ task.Enter p ∷ []) m → p ≡ part_of y → AreGeneralizingTasks ts (content_of ts e) u root (y ∷ zs) → AreTasksReady ts m (y ∷ zs) → task_weights ts (content_of ts e) (y ∷ zs) < task_weight ts (content_of ts e) (task.Enter p) → IsGeneralizingTurn ts ts e e x u root (xs ++ task.Enter p ∷ []) (xs ++ y ∷ zs) m
turn_put ts e x u root p xs zs y m w is tasks ready less =
    let c = content_of ts e in
    let front = AreGeneralizingTasks-front ts c u root xs (task.Enter p) w.tasks in
    record {
      walk = record {
        lawful = w.lawful;
        known = w.known;
        named = w.named;
        no_region = w.no_region;
        root_in = w.root_in;
        root_known = w.root_known;
        tasks = AreGeneralizingTasks-append ts c u root xs (y ∷ zs) front.0 tasks;
        ready = ready_front ts m m (task.Enter p) (y ∷ zs) (covers_put m (task.Enter p) y zs is) ready xs w.ready;
        made = w.made;
        whole = covers_put m (task.Enter p) y zs is xs root w.whole;
      };
      grows = WalkGrows-refl c x u (tree_at ts root.term) w.lawful.sound;
      less = omega (arith, task_weights-append ts c xs (y ∷ zs), task_weights-append ts c xs (task.Enter p ∷ []), less);
    }

-- a variable: its value comes first
pub turn_value : (ts : List Tree) (e : Entries) (x u : ℕ) (root p : Part) (xs ys : List Task) (m : Part → Option NodeId) (v : NodeId) → IsGeneralizingWalk ts e x u root (xs ++ task.Enter p ∷ []) m → IsIn ts v → IsVariableValue (content_of ts e) (tree_at ts p.term) (tree_at ts v) → v.number < 2 ^ 64 → ys ≡ (xs ++ task.Pass p v ∷ []) ++ task.Enter (record { term = v; binders = 0 }) ∷ []
    → IsGeneralizingTurn ts ts e e x u root (xs ++ task.Enter p ∷ []) ys m
turn_value ts e x u root p xs ys m v w within value room is =
    let c = content_of ts e in
    let front = AreGeneralizingTasks-front ts c u root xs (task.Enter p) w.tasks in
    let next : Task = task.Enter (record { term = v; binders = 0 }) in
    let all : ys ≡ xs ++ task.Pass p v ∷ next ∷ [] = is ∙ append_assoc xs (task.Pass p v ∷ []) (next ∷ []) in
    let lower = value.lower in
    let below : left_to_resolve c (tree_at ts v) < left_to_resolve c (tree_at ts p.term) = omega (arith, ap size value.same, lower) in
    rw all (turn_put ts e x u root p xs (next ∷ []) (task.Pass p v) m w refl
    ((front.1, within, value), (record { within = within; room = omega (arith, room); part = part_value front.1.part value }, tt))
    (inr (inl refl), (tt, tt)) (omega (arith, below)))

-- a node: its children come first
pub turn_node : (ts : List Tree) (e : Entries) (x u : ℕ) (root p : Part) (xs ys : List Task) (m : Part → Option NodeId) → IsGeneralizingWalk ts e x u root (xs ++ task.Enter p ∷ []) m → IsGeneralizedNode u p.binders (tree_at ts p.term)
    → IsEntered ts (children (tree_at ts p.term)) (inner p.binders (tree_at ts p.term)) p.term.number 0 (xs ++ task.Build p ∷ []) ys → IsGeneralizingTurn ts ts e e x u root (xs ++ task.Enter p ∷ []) ys m
turn_node ts e x u root p xs ys m w again h =
    let c = content_of ts e in
    let t = tree_at ts p.term in
    let front = AreGeneralizingTasks-front ts c u root xs (task.Enter p) w.tasks in
    let all : ys ≡ xs ++ task.Build p ∷ h.added = h.are ∙ append_assoc xs (task.Build p ∷ []) h.added in
    let few : inner p.binders t ≤ p.binders + 1 = omega (arith, ap (inner p.binders) again.is, binders_le again.label) in
    let step = node_step c t again.label (ap label_of again.is) (infer_of_none again.label again.alone) front.1.part.knows in
    rw all (turn_put ts e x u root p xs h.added (task.Build p) m w refl
    ((front.1, again), children_tasks ts c u root p front.1 again few h.added h.children)
    ((λ i less. (let k = h.each i (omega arith) less in record { child = k.0; within = k.1; tree = k.2; covered = inr k.3 })), children_ready ts m (children t) (inner p.binders t) p.term.number h.added h.children)
    (omega (arith, h.weight c, ap size step.is)))

-- .. where a look left the store and the table as they were
pub turn_value_left : (ts us : List Tree) (e f : Entries) (x u : ℕ) (root p : Part) (xs ys : List Task) (m : Part → Option NodeId) (v : NodeId) → IsGeneralizingWalk ts e x u root (xs ++ task.Enter p ∷ []) m → us ≡ ts → f ≡ e → IsIn ts v → IsVariableValue (content_of ts e) (tree_at ts p.term) (tree_at ts v) → v.number < 2 ^ 64 → ys ≡ (xs ++ task.Pass p v ∷ []) ++ task.Enter (record { term = v; binders = 0 }) ∷ []
    → IsGeneralizingTurn ts us e f x u root (xs ++ task.Enter p ∷ []) ys m
turn_value_left ts us e f x u root p xs ys m v w store table within value room is =
    rw (store, table) (turn_value ts e x u root p xs ys m v w within value room is)

pub turn_node_left : (ts us : List Tree) (e f : Entries) (x u : ℕ) (root p : Part) (xs ys : List Task) (m : Part → Option NodeId) → IsGeneralizingWalk ts e x u root (xs ++ task.Enter p ∷ []) m → us ≡ ts → f ≡ e → IsGeneralizedNode u p.binders (tree_at ts p.term)
    → IsEntered us (children (tree_at us p.term)) (inner p.binders (tree_at us p.term)) p.term.number 0 (xs ++ task.Build p ∷ []) ys → IsGeneralizingTurn ts us e f x u root (xs ++ task.Enter p ∷ []) ys m
turn_node_left ts us e f x u root p xs ys m w store table again h =
    let here = rw store at h in
    rw (store, table) (turn_node ts e x u root p xs ys m w again here)

-- a node was made over what stands for its children
pub turn_built : (ts us : List Tree) (e : Entries) (x u i : ℕ) (root p : Part) (xs : List Task) (m n : Part → Option NodeId) (l : Label) (cs : List NodeId) (r : NodeId) → IsGeneralizingWalk ts e x u root (xs ++ task.Build p ∷ []) m → tree_at ts p.term ≡ node l (children (tree_at ts p.term)) → IsRow (children (tree_at ts p.term)) → i ≡ row_length (children (tree_at ts p.term))
    → Generalized (content_of ts e) (content_of ts e) x u (inner p.binders (tree_at ts p.term)) (row_take i (children (tree_at ts p.term))) (trees_at ts cs) → Extends ts us → IsIn us r → tree_at us r ≡ node l (trees_at ts cs) → IsMore m n p r → IsGeneralizingTurn ts us e e x u root (xs ++ task.Build p ∷ []) xs n
turn_built ts us e x u i root p xs m n l cs r w is row all g ext within tree more =
    let c = content_of ts e in
    let t = tree_at ts p.term in
    let front = AreGeneralizingTasks-front ts c u root xs (task.Build p) w.tasks in
    let again = front.1.1 in
    let one : again.label ≡ l = one_label again.label l (children t) (children t) (sym again.is ∙ is) in
    let under : inner p.binders t ≡ p.binders + binders again.label = ap (inner p.binders) again.is in
    let row_stands : Generalized c c x u (p.binders + binders again.label) (row_take i (children t)) (trees_at ts cs) = subst (λ b. Generalized c c x u b (row_take i (children t)) (trees_at ts cs)) under g in
    let made : tree_at us r ≡ node again.label (trees_at ts cs) = tree ∙ ap (λ k. node k (trees_at ts cs)) (sym one) in
    let stands : Generalized c c x u p.binders t (node again.label (trees_at ts cs)) = gen_node c c x u p.binders i t (trees_at ts cs) again.label front.1.0.part.knows again.is again.alone again.not_free again.named again.below row all row_stands in
    let same : content_of us e ≡ c = content_of-extended ext w.lawful in
    turn_done ts us e e x u root p xs (task.Build p) m n r w refl ext (IsLawful-extended ext w.lawful) within (rw (made, same) stands) more
  where
    one_label : (a b : Label) (s t : Tree) → node a s ≡ node b t → a ≡ b
    one_label a b s t e = cc

-- what the last task stands on
found_alone : (m : Part → Option NodeId) (p : Part) → IsCovered m [] p → Has m p
found_alone m p (inl h) = h
found_alone m p (inr h) = absurd h

pub value_found : (ts : List Tree) (e : Entries) (x u : ℕ) (root p : Part) (xs : List Task) (m : Part → Option NodeId) (v : NodeId) → IsGeneralizingWalk ts e x u root (xs ++ task.Pass p v ∷ []) m → Has m (record { term = v; binders = 0 })
value_found ts e x u root p xs m v w = found_alone m (record { term = v; binders = 0 }) (ready_last ts m (task.Pass p v) xs w.ready)

pub child_found : (ts : List Tree) (e : Entries) (x u : ℕ) (root p : Part) (xs : List Task) (m : Part → Option NodeId) (l : Label) (a : NodeId) (i b : ℕ) → IsGeneralizingWalk ts e x u root (xs ++ task.Build p ∷ []) m → AreApart ts → tree_at ts p.term ≡ node l (children (tree_at ts p.term)) → b ≡ p.binders + binders l → i < row_length (children (tree_at ts p.term)) → IsIn ts a → tree_at ts a ≡ row_at (children (tree_at ts p.term)) i → Has m (record { term = a; binders = b })
child_found ts e x u root p xs m l a i b w apart is under less within tree =
    let c = ready_last ts m (task.Build p) xs w.ready i less in
    let one : c.child.number ≡ a.number = apart c.child.number a.number c.within within (c.tree ∙ sym tree) in
    let same : inner p.binders (tree_at ts p.term) ≡ b = ap (inner p.binders) is ∙ sym under in
    let found = found_alone m (record { term = c.child; binders = inner p.binders (tree_at ts p.term) }) c.covered in
    subst (Has m) (λ i. record { term = record { number = one i }; binders = same i }) found

-- the value of a variable stands for the variable
pub turn_passed : (ts : List Tree) (e : Entries) (x u : ℕ) (root p : Part) (xs : List Task) (m n : Part → Option NodeId) (v r : NodeId) → IsGeneralizingWalk ts e x u root (xs ++ task.Pass p v ∷ []) m → m (record { term = v; binders = 0 }) ≡ Some r → IsMore m n p r → IsGeneralizingTurn ts ts e e x u root (xs ++ task.Pass p v ∷ []) xs n
turn_passed ts e x u root p xs m n v r w found more =
    let c = content_of ts e in
    let front = AreGeneralizingTasks-front ts c u root xs (task.Pass p v) w.tasks in
    let value = front.1.2 in
    let old = w.made (record { term = v; binders = 0 }) r found in
    turn_done ts ts e e x u root p xs (task.Pass p v) m n r w refl (Extends-refl ts) w.lawful old.made_in
    (gen_known c c x u p.binders (tree_at ts p.term) (tree_at ts v) (tree_at ts r) value.sort value.infer value.value_sort value.own_sort front.1.0.part.knows value.knows value.same value.worlds old.stands value.lower value.labels) more

-- at first
pub walk_start : (ts : List Tree) (e : Entries) (x u : ℕ) (root : Part) (ys : List Task) (m : Part → Option NodeId) → IsLawful ts e → x < length e.variables → u ≤ e.universe → (kind_at (content_of ts e) x ≡ Some kind.Region → ⊥) → IsIn ts root.term → Knows (content_of ts e) (tree_at ts root.term) → root.binders + root.term.number < 2 ^ 64 → ((p : Part) → m p ≡ None) → ys ≡ task.Enter root ∷ [] → IsGeneralizingWalk ts e x u root ys m
walk_start ts e x u root ys m law known named no_region within knows room none is =
    rw is (record {
      lawful = law;
      known = known;
      named = named;
      no_region = no_region;
      root_in = within;
      root_known = knows;
      tasks = (record { within = within; room = room; part = part_whole (content_of ts e) u root.binders (tree_at ts root.term) knows }, tt);
      ready = (tt, tt);
      made = λ p r k. (let e : None ≡ Some r = sym (none p) ∙ k in cc);
      whole = inr (inl refl);
    })

-- the whole loop
pub walk_end : (ts us : List Tree) (e f : Entries) (x u : ℕ) (root : Part) (xs : List Task) (m : Part → Option NodeId) (r : NodeId) → Extends ts us → IsIn ts root.term → Knows (content_of ts e) (tree_at ts root.term) → WalkGrows (content_of ts e) (content_of us f) x u (tree_at ts root.term) → IsGeneralizingWalk us f x u root xs m → m root ≡ Some r
    → Generalized (content_of ts e) (content_of us f) x u root.binders (tree_at ts root.term) (tree_at us r)
walk_end ts us e f x u root xs m r ext within knows g w found =
    let old = w.made root r found in
    stands_whole knows g (rw (ext.kept root.term within) at old.stands)

pub walk_grows : (ts us vs : List Tree) (e f g : Entries) (x u : ℕ) (root : Part) → IsSound (content_of ts e) → Knows (content_of ts e) (tree_at ts root.term) → Extends ts us → IsIn ts root.term → WalkGrows (content_of ts e) (content_of us f) x u (tree_at ts root.term) → WalkGrows (content_of us f) (content_of vs g) x u (tree_at us root.term)
    → WalkGrows (content_of ts e) (content_of vs g) x u (tree_at ts root.term)
walk_grows ts us vs e f g x u root s knows ext within a b =
    WalkGrows-trans s knows a (rw (ext.kept root.term within) at b)

pub walk_blocks : (ts us : List Tree) (e f : Entries) (x u : ℕ) (root : Part) → x < length e.variables → Knows (content_of ts e) (tree_at ts root.term) → Extends ts us → IsIn ts root.term → WalkGrows (content_of ts e) (content_of us f) x u (tree_at ts root.term) → Blocks (content_of us f) x u root.binders (tree_at us root.term)
    → Blocks (content_of ts e) x u root.binders (tree_at ts root.term)
walk_blocks ts us e f x u root known knows ext within g h =
    blocks_before g (omega (arith, known, length-slots ts e.variables)) knows (rw (ext.kept root.term within) at h)
