-- Tasks of the walk that makes a value, and what was made so far.
use Rattle.std.proofs.Common.{◌≡◌, ◌⊎◌, inl, inr, ⊎_elim, ℕ, ◌+◌, ◌<◌, ◌≤◌, Bool, true, false, cond, List, [], ◌∷◌, ◌++◌, Option, Some, None, refl, sym, ap, ◌∙◌, arith, rules, append_assoc}
use Rattle.std.specs.Prelude.{IsTrue, ◌↔◌, is_some}
use Rattle.std.proofs.lemmas.List.{append-nil}
use Rattle.nts_model.specs.Terms.Trees.{Tree, more, size, children, row_length, row_at}
use Rattle.nts_model.specs.Tables.Contents.{Content}
use Rattle.nts_model.specs.Tables.Resolving.{resolved, left_to_resolve}
use Rattle.nts_model.proofs.Tables.Resolved.{resolved-more, rank_le}
use Rattle.nts_model.proofs.Tables.Under.{same_or_other}
use Rattle.nts_store.specs.declared.nodes.NodeId.{NodeId}
use Rattle.nts_store.specs.contracts.nodes.NodeIdPartialEq.TheImpl as id_eq
use Rattle.nts_store.specs.Growth.{tree_at, IsIn, Extends}
use Rattle.nts_store.proofs.Growing.{IsIn-extended}
use Rattle.nts_relating.specs.declared.value_walk.Part.{Part}
use Rattle.nts_relating.specs.declared.value_walk.Task.{Task}
use Rattle.nts_relating.specs.declared.value_walk.Task.TheVariants as task
use Rattle.nts_relating.specs.contracts.value_walk.PartPartialEq.TheImpl as part_eq
use Rattle.nts_unify.specs.Entries.{Entries}
use Rattle.nts_unify.specs.Reading.{content_of}
use Rattle.nts_relating.specs.Parts.{IsVariableValue, IsGeneralizedNode, WalkGrows, IsGeneralizingPart, part_of, IsGeneralizingTask, AreGeneralizingTasks, IsPending, Has, IsCovered, inner, IsTaskReady, AreTasksReady, task_weight, task_weights, IsChild, AreChildren, IsEntered}
use Rattle.nts_unify.specs.Knowing.{row_from}
use Rattle.nts_unify.proofs.Looking.{row_from-step}
use Rattle.nts_relating.proofs.HeadLemmas.{HeadKnown}
use Rattle.nts_relating.proofs.ValueParts.{part_child, part_later, value_later}

pub value_of : (ts : List Tree) (e : Entries) (t : Tree) (v : NodeId) → HeadKnown ts e t v → IsVariableValue (content_of ts e) t (tree_at ts v)
value_of ts e t v k =
    record {
      infer = k.infer;
      sort = k.sort;
      own_sort = k.own_sort;
      value_sort = k.value_sort;
      knows = k.step.knows;
      same = k.step.same;
      lower = k.step.lower;
      closed = k.closed;
      labels = k.labels;
      worlds = k.worlds;
    }

pub same_part : (p q : Part) → part_eq.ghosts.eq p q ≡ true → p ≡ q
same_part p q h = search rules

pub part_same : (p : Part) → part_eq.ghosts.eq p p ≡ true
part_same p = search rules

-- one more part is found
pub record IsMore (m n : Part → Option NodeId) (p : Part) (r : NodeId) : Type 0 where
  pub own : n p ≡ Some r
  pub others : (q : Part) → (q ≡ p) ⊎ (n q ≡ m q)

pub more_found : (m n : Part → Option NodeId) (p : Part) (r : NodeId) → ((q : Part) → n q ≡ cond (part_eq.ghosts.eq p q) (Some r) (m q)) → IsMore m n p r
more_found m n p r h =
    record {
      own = h p ∙ ap (λ b. cond b (Some r) (m p)) (part_same p);
      others = λ q. by_case q (part_eq.ghosts.eq p q) refl;
    }
  where
    by_case : (q : Part) (b : Bool) → part_eq.ghosts.eq p q ≡ b → (q ≡ p) ⊎ (n q ≡ m q)
    by_case q true e = inl (sym (same_part p q e))
    by_case q false e = inr (h q ∙ ap (λ b. cond b (Some r) (m q)) e)

Has-more : {m n : Part → Option NodeId} {p : Part} {r : NodeId} → IsMore m n p r → (q : Part) → Has m q → Has n q
Has-more {m} {n} {p} {r} h q k =
    ⊎_elim (λ (same : q ≡ p). (r, ap n same ∙ h.own)) (λ (e : n q ≡ m q). (k.0, e ∙ k.1)) (h.others q)

-- lists of tasks
pub AreGeneralizingTasks-front : (ts : List Tree) (c : Content) (u : ℕ) (root : Part) (xs : List Task) (x : Task) → AreGeneralizingTasks ts c u root (xs ++ x ∷ []) → AreGeneralizingTasks ts c u root xs × IsGeneralizingTask ts c u root x
AreGeneralizingTasks-front ts c u root [] x h = (tt, h.0)
AreGeneralizingTasks-front ts c u root (y ∷ xs) x h = let r = AreGeneralizingTasks-front ts c u root xs x h.1 in ((h.0, r.0), r.1)

pub AreGeneralizingTasks-append : (ts : List Tree) (c : Content) (u : ℕ) (root : Part) (xs ys : List Task) → AreGeneralizingTasks ts c u root xs → AreGeneralizingTasks ts c u root ys → AreGeneralizingTasks ts c u root (xs ++ ys)
AreGeneralizingTasks-append ts c u root [] ys h k = k
AreGeneralizingTasks-append ts c u root (x ∷ xs) ys h k = (h.0, AreGeneralizingTasks-append ts c u root xs ys h.1 k)

pub task_weights-append : (ts : List Tree) (c : Content) (xs ys : List Task) → task_weights ts c (xs ++ ys) ≡ task_weights ts c xs + task_weights ts c ys
task_weights-append ts c [] ys = omega arith
task_weights-append ts c (x ∷ xs) ys = omega (arith, task_weights-append ts c xs ys)

IsPending-split : (xs ys : List Task) (p : Part) → IsPending (xs ++ ys) p → IsPending xs p ⊎ IsPending ys p
IsPending-split [] ys p h = inr h
IsPending-split (x ∷ xs) ys p (inl e) = inl (inl e)
IsPending-split (x ∷ xs) ys p (inr h) = ⊎_elim (λ k. inl (inr k)) (λ k. inr k) (IsPending-split xs ys p h)

pub IsPending-left : (xs ys : List Task) (p : Part) → IsPending xs p → IsPending (xs ++ ys) p
IsPending-left [] ys p h = absurd h
IsPending-left (x ∷ xs) ys p (inl e) = inl e
IsPending-left (x ∷ xs) ys p (inr h) = inr (IsPending-left xs ys p h)

pub IsPending-right : (xs ys : List Task) (p : Part) → IsPending ys p → IsPending (xs ++ ys) p
IsPending-right [] ys p h = h
IsPending-right (x ∷ xs) ys p h = inr (IsPending-right xs ys p h)

-- what is covered by these tasks and what was found is covered by those
abbrev pub Covers : (Part → Option NodeId) → List Task → (Part → Option NodeId) → List Task → Type 0
Covers m xs n ys = (p : Part) → IsCovered m xs p → IsCovered n ys p

-- the last task is done
pub covers_done : {m n : Part → Option NodeId} {p : Part} {r : NodeId} (x : Task) → part_of x ≡ p → IsMore m n p r → (xs : List Task) → Covers m (xs ++ x ∷ []) n xs
covers_done {m} {n} {p} {r} x e h xs q (inl k) = inl (Has-more h q k)
covers_done {m} {n} {p} {r} x e h xs q (inr k) =
    ⊎_elim (λ w. inr w) (λ w. ⊎_elim (λ (s : part_of x ≡ q). inl (r, ap n (sym s ∙ e) ∙ h.own)) (λ z. absurd z) w) (IsPending-split xs (x ∷ []) q k)

-- .. or gives way to others for the same part
pub covers_put : (m : Part → Option NodeId) (x y : Task) (zs : List Task) → part_of x ≡ part_of y → (xs : List Task) → Covers m (xs ++ x ∷ []) m (xs ++ y ∷ zs)
covers_put m x y zs e xs q (inl k) = inl k
covers_put m x y zs e xs q (inr k) =
    ⊎_elim (λ w. inr (IsPending-left xs (y ∷ zs) q w)) (λ w. ⊎_elim (λ (s : part_of x ≡ q). inr (IsPending-right xs (y ∷ zs) q (inl (sym e ∙ s)))) (λ z. absurd z) w) (IsPending-split xs (x ∷ []) q k)

ready_covers : (ts : List Tree) (m n : Part → Option NodeId) (xs ys : List Task) (x : Task) → Covers m xs n ys → IsTaskReady ts m xs x → IsTaskReady ts n ys x
ready_covers ts m n xs ys (task.Enter p) h k = tt
ready_covers ts m n xs ys (task.Build p) h k =
    λ i less. (let c = k i less in record { child = c.child; within = c.within; tree = c.tree; covered = h (record { term = c.child; binders = inner p.binders (tree_at ts p.term) }) c.covered })
ready_covers ts m n xs ys (task.Pass p v) h k = h (record { term = v; binders = 0 }) k

pub ready_front : (ts : List Tree) (m n : Part → Option NodeId) (x : Task) (zs : List Task) → ((xs : List Task) → Covers m (xs ++ x ∷ []) n (xs ++ zs)) → AreTasksReady ts n zs → (xs : List Task) → AreTasksReady ts m (xs ++ x ∷ []) → AreTasksReady ts n (xs ++ zs)
ready_front ts m n x zs h k [] r = k
ready_front ts m n x zs h k (y ∷ xs) r = (ready_covers ts m n (xs ++ x ∷ []) (xs ++ zs) y (h xs) r.0, ready_front ts m n x zs h k xs r.1)

pub ready_last : (ts : List Tree) (m : Part → Option NodeId) (x : Task) (xs : List Task) → AreTasksReady ts m (xs ++ x ∷ []) → IsTaskReady ts m [] x
ready_last ts m x [] r = r.0
ready_last ts m x (y ∷ xs) r = ready_last ts m x xs r.1

-- a store and a table that grow
later_part : {ts us : List Tree} {c d : Content} {x u : ℕ} {root p : Part} → Extends ts us → IsIn ts root.term → WalkGrows c d x u (tree_at ts root.term) → IsGeneralizingPart ts c u root p → IsGeneralizingPart us d u root p
later_part {ts} {us} {c} {d} {x} {u} {root} {p} e i g h =
    record {
      within = IsIn-extended e p.term h.within;
      room = h.room;
      part = rw (e.kept p.term h.within, e.kept root.term i) (part_later g h.part);
    }

later_task : {ts us : List Tree} {c d : Content} {x u : ℕ} (root : Part) → Extends ts us → IsIn ts root.term → WalkGrows c d x u (tree_at ts root.term) → (y : Task) → IsGeneralizingTask ts c u root y → IsGeneralizingTask us d u root y
later_task root e i g (task.Enter p) h = later_part e i g h
later_task root e i g (task.Build p) h = (later_part e i g h.0, rw (e.kept p.term h.0.within) h.1)
later_task root e i g (task.Pass p v) h = (
  later_part e i g h.0,
  IsIn-extended e v h.1,
  rw (e.kept p.term h.0.within, e.kept v h.1) (value_later g h.0.part.knows h.2),
)

pub later_tasks : {ts us : List Tree} {c d : Content} {x u : ℕ} (root : Part) → Extends ts us → IsIn ts root.term → WalkGrows c d x u (tree_at ts root.term) → (xs : List Task) → AreGeneralizingTasks ts c u root xs → AreGeneralizingTasks us d u root xs
later_tasks root e i g [] h = tt
later_tasks root e i g (y ∷ xs) h = (later_task root e i g y h.0, later_tasks root e i g xs h.1)

later_one : {ts us : List Tree} (c : Content) (u : ℕ) (root : Part) → Extends ts us → (m : Part → Option NodeId) (above : List Task) (y : Task) → IsGeneralizingTask ts c u root y → IsTaskReady ts m above y → IsTaskReady us m above y
later_one c u root e m above (task.Enter p) h k = tt
later_one {ts} {us} c u root e m above (task.Build p) h k =
    let same = e.kept p.term h.0.within in
    rw same (λ i less. (let c = k i less in record { child = c.child; within = IsIn-extended e c.child c.within; tree = e.kept c.child c.within ∙ c.tree; covered = c.covered }))
later_one c u root e m above (task.Pass p v) h k = k

pub later_ready : {ts us : List Tree} (c : Content) (u : ℕ) (root : Part) → Extends ts us → (m : Part → Option NodeId) (xs : List Task) → AreGeneralizingTasks ts c u root xs → AreTasksReady ts m xs → AreTasksReady us m xs
later_ready c u root e m [] h k = tt
later_ready c u root e m (y ∷ xs) h k = (later_one c u root e m xs y h.0 k.0, later_ready c u root e m xs h.1 k.1)

later_weight : {ts us : List Tree} {c d : Content} {x u : ℕ} {whole : Tree} (root : Part) → Extends ts us → WalkGrows c d x u whole → (y : Task) → IsGeneralizingTask ts c u root y → task_weight us d y ≡ task_weight ts c y
later_weight {ts} {us} {c} {d} root e g (task.Enter p) h =
    let tree = e.kept p.term h.within in
    let kept : resolved d (tree_at ts p.term) ≡ resolved c (tree_at ts p.term) = g.keeps.trees (tree_at ts p.term) h.part.knows in
    omega (arith, ap (left_to_resolve d) tree, ap size kept)
later_weight root e g (task.Build p) h = refl
later_weight root e g (task.Pass p v) h = refl

pub later_weights : {ts us : List Tree} {c d : Content} {x u : ℕ} {whole : Tree} (root : Part) → Extends ts us → WalkGrows c d x u whole → (xs : List Task) → AreGeneralizingTasks ts c u root xs → task_weights us d xs ≡ task_weights ts c xs
later_weights root e g [] h = refl
later_weights root e g (y ∷ xs) h = omega (arith, later_weight root e g y h.0, later_weights root e g xs h.1)

-- the children of a node
pub children_tasks : (ts : List Tree) (c : Content) (u : ℕ) (root p : Part) → IsGeneralizingPart ts c u root p → IsGeneralizedNode u p.binders (tree_at ts p.term) → inner p.binders (tree_at ts p.term) ≤ p.binders + 1 → (xs : List Task) → AreChildren ts (children (tree_at ts p.term)) (inner p.binders (tree_at ts p.term)) p.term.number xs → AreGeneralizingTasks ts c u root xs
children_tasks ts c u root p h m few [] k = tt
children_tasks ts c u root p h m few (task.Enter q ∷ xs) k =
    let here = k.0 in (
      record {
        within = here.within;
        room = (let room = h.room in let before = here.before in let inside = here.inside in omega (arith, room, before, inside, few));
        part = rw here.inside (part_child h.part m here.less here.tree);
      },
      children_tasks ts c u root p h m few xs k.1,
    )
children_tasks ts c u root p h m few (task.Build q ∷ xs) k = absurd k
children_tasks ts c u root p h m few (task.Pass q v ∷ xs) k = absurd k

pub children_ready : (ts : List Tree) (m : Part → Option NodeId) (row : Tree) (b n : ℕ) (xs : List Task) → AreChildren ts row b n xs → AreTasksReady ts m xs
children_ready ts m row b n [] k = tt
children_ready ts m row b n (task.Enter q ∷ xs) k = (tt, children_ready ts m row b n xs k.1)
children_ready ts m row b n (task.Build q ∷ xs) k = absurd k
children_ready ts m row b n (task.Pass q v ∷ xs) k = absurd k

AreChildren-push : (ts : List Tree) (row : Tree) (b n : ℕ) (xs : List Task) (q : Part) → AreChildren ts row b n xs → IsChild ts row b n q → AreChildren ts row b n (xs ++ task.Enter q ∷ [])
AreChildren-push ts row b n [] q k h = (h, tt)
AreChildren-push ts row b n (task.Enter p ∷ xs) q k h = (k.0, AreChildren-push ts row b n xs q k.1 h)
AreChildren-push ts row b n (task.Build p ∷ xs) q k h = absurd k
AreChildren-push ts row b n (task.Pass p v ∷ xs) q k h = absurd k

pub entered_none : (ts : List Tree) (row : Tree) (b n i : ℕ) (xs : List Task) → i ≡ row_length row → IsEntered ts row b n i xs xs
entered_none ts row b n i xs e =
    record { added = []; are = sym (append-nil xs); children = tt; each = λ j low less. absurd (omega (arith, e, low, less)); weight = λ c. omega arith }

pub entered_more : (ts : List Tree) (row : Tree) (b n i j : ℕ) (xs ys zs : List Task) (a : NodeId) (inside : ℕ) → IsEntered ts row b n i xs ys → i ≡ j + 1 → j < row_length row → IsIn ts a → a.number < n → tree_at ts a ≡ row_at row j → inside ≡ b → zs ≡ ys ++ task.Enter (record { term = a; binders = inside }) ∷ [] → IsEntered ts row b n j xs zs
entered_more ts row b n i j xs ys zs a inside h e less within before tree under is =
    let q : Part = record { term = a; binders = inside } in
    let own : q ≡ record { term = a; binders = b } = ap (λ k. record { term = a; binders = k }) under in
    let step = row_from-step row j less in
    record {
      added = h.added ++ task.Enter q ∷ [];
      are = is ∙ ap (λ ts. ts ++ task.Enter q ∷ []) h.are ∙ append_assoc xs h.added (task.Enter q ∷ []);
      children = AreChildren-push ts row b n h.added q h.children (record { within = within; before = before; inside = under; place = j; less = less; tree = tree });
      each = λ k low high. ⊎_elim
          (λ (same : k ≡ j). (a, within, tree ∙ ap (row_at row) (sym same), IsPending-right h.added (task.Enter q ∷ []) (record { term = a; binders = b }) (inl own)))
          (λ (other : k ≡ j → ⊥). (let more : i ≤ k = grind (arith, low, other, e) in let old = h.each k more high in
          (old.0, old.1, old.2, IsPending-left h.added (task.Enter q ∷ []) (record { term = old.0; binders = b }) old.3))) (same_or_other k j);
      weight = λ c.
          let rest : resolved c (row_from (j + 1) row) ≡ resolved c (row_from i row) = ap (λ m. resolved c (row_from m row)) (sym e) in
          let split : resolved c (row_from j row) ≡ more (resolved c (row_at row j)) (resolved c (row_from (j + 1) row)) = ap (resolved c) step ∙ resolved-more c (row_at row j) (row_from (j + 1) row) in
          omega (arith, task_weights-append ts c h.added (task.Enter q ∷ []), h.weight c, ap size rest, ap size split, ap (λ t. size (resolved c t)) tree, rank_le (tree_at ts a));
    }

pub some_of : (o : Option NodeId) → is_some o ≡ true → (r : NodeId) × (o ≡ Some r)
some_of None e = cc
some_of (Some r) e = (r, refl)
