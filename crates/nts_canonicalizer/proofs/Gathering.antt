-- A walk that collects leaves: what each turn does.
use Rattle.std.proofs.Common.{OnOk, Result, Ok, Err, ◌≡◌, ℕ, ◌+◌, ◌*◌, ◌<◌, ◌≤◌, Bool, true, false, List, [], ◌∷◌, ◌++◌, get_or, inl, inr, refl, sym, ap, subst, ◌∙◌, arith, append_assoc, rules, nat_eq}
use Rattle.std.proofs.lemmas.List.{append-nil}
use Rattle.std.specs.List.{list_any}
use Rattle.indexmap.specs.IndexSet.{insert_key}
use Rattle.nts_model.specs.declared.labels.Leaf.{Leaf}
use Rattle.nts_model.specs.declared.labels.Label.{Label}
use Rattle.nts_model.specs.declared.labels.Label.TheVariants as label
use Rattle.nts_model.specs.Terms.Trees.{Tree, empty, more, node, size, children, any_label, IsRow, row_length, row_at}
use Rattle.nts_model.specs.Lists.{Among}
use Rattle.nts_model.specs.Canonical.Numbered.{same, added, seen_node, seen}
use Rattle.nts_model.proofs.Terms.Listed.{either, tell, differ, same-yes, added-has, added-keeps}
use Rattle.nts_model.proofs.Canonical.Numbering.{Extends, extends-self, extends-trans, extends-seen}
use Rattle.nts_store.specs.declared.nodes.NodeId.{NodeId}
use Rattle.nts_store.specs.Growth.{tree_at, IsIn}
use Rattle.nts_store.specs.TypeFlags.{is_leaf}
use Rattle.nts_unify.specs.Knowing.{row_from}
use Rattle.nts_unify.proofs.Looking.{row_from-end, row_from-step}
use Rattle.nts_canonicalizer.proofs.Leafless.{both_false}
use Rattle.nts_canonicalizer.specs.declared.collecting.Task.{Task}
use Rattle.nts_canonicalizer.specs.declared.collecting.Task.TheVariants as task
use Rattle.nts_canonicalizer.specs.Collecting.{after_leaf, Job, read, finish, job, jobs, TaskIn, TasksIn, entered, seen_after, IsLabelRead, IsRead, AreRead, AreDue, job_weight, job_weights, IsReading, WalkGoesOn}

-- a leaf that was seen is not added once more
pub added-among : (s : List Leaf) (l : Leaf) → Among s l → added s l ≡ s
added-among [] l h = elim h [ ]
added-among (x ∷ xs) l h =
    elim (tell l x) [
      | inl p ↦ rw (same-yes l x p) refl
      | inr e ↦ rw e (ap (λ r. x ∷ r) (added-among xs l (elim h [ inl p ↦ absurd (differ l x e p) | inr q ↦ q ])))
    ]

-- a tree that was read shows nothing new
seen-read_at : (stays : Leaf → Bool) (s inside : List Leaf) (A : Type 0) (l : Label) → (A → inside ≡ s) → IsLabelRead stays s l A → seen_node stays s l inside ≡ s
seen-read_at stays s i A (label.Leaf x) f h = elim (either (stays x)) [ inl e ↦ rw e refl | inr e ↦ rw e (added-among s x (h e)) ]
seen-read_at stays s i A (label.Bound o b n) f h = f h
seen-read_at stays s i A (label.Ty x) f h = f h
seen-read_at stays s i A (label.Const x) f h = f h
seen-read_at stays s i A (label.Clause x) f h = f h
seen-read_at stays s i A (label.Predicate x) f h = f h
seen-read_at stays s i A (label.List x) f h = f h

pub seen-read : (stays : Leaf → Bool) (s : List Leaf) (t : Tree) → IsRead stays s t → seen stays s t ≡ s
seen-read stays s empty h = refl
seen-read stays s (more a b) h = ap (λ z. seen stays z b) (seen-read stays s a h.0) ∙ seen-read stays s b h.1
seen-read stays s (node l c) h = seen-read_at stays s (seen stays s c) (IsRead stays s c) l (seen-read stays s c) h

-- a tree without leaves is read
read_at-leafless : (stays : Leaf → Bool) (s : List Leaf) (A : Type 0) (l : Label) → is_leaf l ≡ false → A → IsLabelRead stays s l A
read_at-leafless stays s A (label.Leaf x) e h = absurd (let f : true ≡ false = e in cc)
read_at-leafless stays s A (label.Bound o b n) e h = h
read_at-leafless stays s A (label.Ty x) e h = h
read_at-leafless stays s A (label.Const x) e h = h
read_at-leafless stays s A (label.Clause x) e h = h
read_at-leafless stays s A (label.Predicate x) e h = h
read_at-leafless stays s A (label.List x) e h = h

read-leafless : (stays : Leaf → Bool) (s : List Leaf) (t : Tree) → any_label is_leaf t ≡ false → IsRead stays s t
read-leafless stays s empty e = tt
read-leafless stays s (more a b) e =
    let h = both_false (any_label is_leaf a) (any_label is_leaf b) e in (read-leafless stays s a h.0, read-leafless stays s b h.1)
read-leafless stays s (node l c) e =
    let h = both_false (is_leaf l) (any_label is_leaf c) e in read_at-leafless stays s (IsRead stays s c) l h.0 (read-leafless stays s c h.1)

-- once its leaves are seen, a tree is read
read_at-seen : (stays : Leaf → Bool) (s inside u : List Leaf) (A : Type 0) (l : Label) → (Extends inside u → A) → Extends (seen_node stays s l inside) u → IsLabelRead stays u l A
read_at-seen stays s i u A (label.Leaf x) f h = λ e. h.within x (rw e (added-has s x))
read_at-seen stays s i u A (label.Bound o b n) f h = f h
read_at-seen stays s i u A (label.Ty x) f h = f h
read_at-seen stays s i u A (label.Const x) f h = f h
read_at-seen stays s i u A (label.Clause x) f h = f h
read_at-seen stays s i u A (label.Predicate x) f h = f h
read_at-seen stays s i u A (label.List x) f h = f h

pub read-seen : (stays : Leaf → Bool) (s : List Leaf) (t : Tree) (u : List Leaf) → Extends (seen stays s t) u → IsRead stays u t
read-seen stays s empty u h = tt
read-seen stays s (more a b) u h = (read-seen stays s a u (extends-trans (extends-seen stays (seen stays s a) b) h), read-seen stays (seen stays s a) b u h)
read-seen stays s (node l c) u h = read_at-seen stays s (seen stays s c) u (IsRead stays u c) l (read-seen stays s c u) h

-- .. and stays so when more is seen
read_at-more : (stays : Leaf → Bool) (s u : List Leaf) (A B : Type 0) (l : Label) → ((m : Leaf) → Among s m → Among u m) → (A → B) → IsLabelRead stays s l A → IsLabelRead stays u l B
read_at-more stays s u A B (label.Leaf x) k f h = λ e. k x (h e)
read_at-more stays s u A B (label.Bound o b n) k f h = f h
read_at-more stays s u A B (label.Ty x) k f h = f h
read_at-more stays s u A B (label.Const x) k f h = f h
read_at-more stays s u A B (label.Clause x) k f h = f h
read_at-more stays s u A B (label.Predicate x) k f h = f h
read_at-more stays s u A B (label.List x) k f h = f h

read-more : (stays : Leaf → Bool) (s u : List Leaf) (t : Tree) → ((m : Leaf) → Among s m → Among u m) → IsRead stays s t → IsRead stays u t
read-more stays s u empty k h = tt
read-more stays s u (more a b) k h = (read-more stays s u a k h.0, read-more stays s u b k h.1)
read-more stays s u (node l c) k h = read_at-more stays s u (IsRead stays s c) (IsRead stays u c) l k (read-more stays s u c k) h

are_read-more : (stays : Leaf → Bool) (ts : List Tree) (s u : List Leaf) (ns : List ℕ) → ((m : Leaf) → Among s m → Among u m) → AreRead stays ts s ns → AreRead stays ts u ns
are_read-more stays ts s u [] k h = tt
are_read-more stays ts s u (n ∷ ns) k h = (read-more stays s u (get_or ts n empty) k h.0, are_read-more stays ts s u ns k h.1)

-- the terms that were finished
eq_number : (a b : ℕ) → nat_eq a b ≡ true → a ≡ b
eq_number a b e = search rules

pub is_read-contained : (stays : Leaf → Bool) (ts : List Tree) (s : List Leaf) (ns : List ℕ) (k : ℕ) → AreRead stays ts s ns → list_any (nat_eq k) ns ≡ true → IsRead stays s (get_or ts k empty)
is_read-contained stays ts s [] k h e = absurd (let f : false ≡ true = e in cc)
is_read-contained stays ts s (n ∷ ns) k h e =
    elim (either (nat_eq k n)) [
      | inl p ↦ rw (eq_number k n p) h.0
      | inr p ↦ is_read-contained stays ts s ns k h.1 (rw p at e)
    ]

are_read-push : (stays : Leaf → Bool) (ts : List Tree) (s : List Leaf) (ns : List ℕ) (k : ℕ) → AreRead stays ts s ns → IsRead stays s (get_or ts k empty) → AreRead stays ts s (ns ++ k ∷ [])
are_read-push stays ts s [] k h r = (r, tt)
are_read-push stays ts s (n ∷ ns) k h r = (h.0, are_read-push stays ts s ns k h.1 r)

pub are_read-inserted : (stays : Leaf → Bool) (ts : List Tree) (s : List Leaf) (ns : List ℕ) (k : ℕ) → AreRead stays ts s ns → IsRead stays s (get_or ts k empty) → AreRead stays ts s (insert_key nat_eq ns k)
are_read-inserted stays ts s ns k h r =
    elim (either (list_any (nat_eq k) ns)) [
      | inl e ↦ rw e h
      | inr e ↦ rw e (are_read-push stays ts s ns k h r)
    ]

-- tasks by their trees
pub jobs-push : (ts : List Tree) (xs : List Task) (x : Task) → jobs ts (xs ++ x ∷ []) ≡ jobs ts xs ++ job ts x ∷ []
jobs-push ts [] x = refl
jobs-push ts (y ∷ xs) x = ap (λ js. job ts y ∷ js) (jobs-push ts xs x)

pub TasksIn-push : (ts : List Tree) (xs : List Task) (x : Task) → TasksIn ts xs → TaskIn ts x → TasksIn ts (xs ++ x ∷ [])
TasksIn-push ts [] x h k = (k, tt)
TasksIn-push ts (y ∷ xs) x h k = (h.0, TasksIn-push ts xs x h.1 k)

pub TasksIn-front : (ts : List Tree) (xs : List Task) (x : Task) → TasksIn ts (xs ++ x ∷ []) → TasksIn ts xs × TaskIn ts x
TasksIn-front ts [] x h = (tt, h.0)
TasksIn-front ts (y ∷ xs) x h = let r = TasksIn-front ts xs x h.1 in ((h.0, r.0), r.1)

seen_after-append : (stays : Leaf → Bool) (xs ys : List Job) (s : List Leaf) → seen_after stays (xs ++ ys) s ≡ seen_after stays xs (seen_after stays ys s)
seen_after-append stays [] ys s = refl
seen_after-append stays (read t ∷ xs) ys s = ap (λ z. seen stays z t) (seen_after-append stays xs ys s)
seen_after-append stays (finish t ∷ xs) ys s = seen_after-append stays xs ys s

seen_after-entered : (stays : Leaf → Bool) (c : Tree) (s : List Leaf) → IsRow c → seen_after stays (entered c) s ≡ seen stays s c
seen_after-entered stays empty s h = refl
seen_after-entered stays (more a b) s h = seen_after-append stays (entered b) (read a ∷ []) s ∙ seen_after-entered stays b (seen stays s a) h
seen_after-entered stays (node l c) s h = absurd h

AreDue-split : (stays : Leaf → Bool) (xs ys : List Job) (s : List Leaf) → AreDue stays (xs ++ ys) s → AreDue stays ys s × AreDue stays xs (seen_after stays ys s)
AreDue-split stays [] ys s h = (h, tt)
AreDue-split stays (read t ∷ xs) ys s h = AreDue-split stays xs ys s h
AreDue-split stays (finish t ∷ xs) ys s h =
    let r = AreDue-split stays xs ys s h.1 in
    (r.0, (subst (λ z. IsRead stays z t) (seen_after-append stays xs ys s) h.0, r.1))

AreDue-append : (stays : Leaf → Bool) (xs ys : List Job) (s : List Leaf) → AreDue stays ys s → AreDue stays xs (seen_after stays ys s) → AreDue stays (xs ++ ys) s
AreDue-append stays [] ys s h k = h
AreDue-append stays (read t ∷ xs) ys s h k = AreDue-append stays xs ys s h k
AreDue-append stays (finish t ∷ xs) ys s h k =
    (subst (λ z. IsRead stays z t) (sym (seen_after-append stays xs ys s)) k.0, AreDue-append stays xs ys s h k.1)

AreDue-entered : (stays : Leaf → Bool) (c : Tree) (s : List Leaf) → AreDue stays (entered c) s
AreDue-entered stays empty s = tt
AreDue-entered stays (more a b) s = AreDue-append stays (entered b) (read a ∷ []) s tt (AreDue-entered stays b (seen stays s a))
AreDue-entered stays (node l c) s = tt

job_weights-append : (xs ys : List Job) → job_weights (xs ++ ys) ≡ job_weights xs + job_weights ys
job_weights-append [] ys = omega arith
job_weights-append (x ∷ xs) ys = omega (arith, job_weights-append xs ys)

job_weights-entered : (c : Tree) → job_weights (entered c) ≤ 2 * size c
job_weights-entered empty = omega arith
job_weights-entered (more a b) = omega (arith, job_weights-append (entered b) (read a ∷ []), job_weights-entered b)
job_weights-entered (node l c) = omega arith

-- the last task with its place taken by others that show the same
continues : (stays : Leaf → Bool) (ts : List Tree) (xs ys : List Task) (k : Task) (ws : List Job) (s u : List Leaf) (ns ms : List ℕ)
    → IsReading stays ts (xs ++ k ∷ []) s ns → TasksIn ts ys → jobs ts ys ≡ jobs ts xs ++ ws → seen_after stays ws u ≡ seen_after stays (job ts k ∷ []) s
    → AreDue stays ws u → job_weights ws < job_weight (job ts k) → AreRead stays ts u ms → WalkGoesOn stays ts (xs ++ k ∷ []) s ns ys u ms
continues stays ts xs ys k ws s u ns ms h within are same due less done =
    let push = jobs-push ts xs k in
    let split = AreDue-split stays (jobs ts xs) (job ts k ∷ []) s (subst (λ z. AreDue stays z s) push h.due) in
    let a = job_weights-append (jobs ts xs) ws in
    let b = job_weights-append (jobs ts xs) (job ts k ∷ []) in
    let c = ap job_weights are in
    let d = ap job_weights push in
    record {
      reading = record {
        within = within;
        due = subst (λ z. AreDue stays z u) (sym are) (AreDue-append stays (jobs ts xs) ws u due (subst (λ z. AreDue stays (jobs ts xs) z) (sym same) split.1));
        are_read = done;
      };
      same = ap (λ z. seen_after stays z u) are ∙ seen_after-append stays (jobs ts xs) ws u ∙ ap (seen_after stays (jobs ts xs)) same ∙ sym (seen_after-append stays (jobs ts xs) (job ts k ∷ []) s) ∙ ap (λ z. seen_after stays z s) (sym push);
      less = omega (arith, a, b, c, d, less);
    }

size-some : (l : Label) (c t : Tree) → t ≡ node l c → 0 < 2 * size t
size-some l c t e = rw e (omega arith)

front : (stays : Leaf → Bool) (ts : List Tree) (xs : List Task) (k : Task) (s : List Leaf) (ns : List ℕ) → IsReading stays ts (xs ++ k ∷ []) s ns → TasksIn ts xs × TaskIn ts k
front stays ts xs k s ns h = TasksIn-front ts xs k h.within

pub term_within : (stays : Leaf → Bool) (ts : List Tree) (xs : List Task) (t : NodeId) (s : List Leaf) (ns : List ℕ) → IsReading stays ts (xs ++ task.Enter t ∷ []) s ns → IsIn ts t
term_within stays ts xs t s ns h = (front stays ts xs (task.Enter t) s ns h).1

pub tasks_within : (stays : Leaf → Bool) (ts : List Tree) (xs : List Task) (t : NodeId) (s : List Leaf) (ns : List ℕ) → IsReading stays ts (xs ++ task.Enter t ∷ []) s ns → TasksIn ts (xs ++ task.Finish t ∷ [])
tasks_within stays ts xs t s ns h = let f = front stays ts xs (task.Enter t) s ns h in TasksIn-push ts xs (task.Finish t) f.0 f.1

after_leaf-keeps : (stays : Leaf → Bool) (s : List Leaf) (x m : Leaf) → Among s m → Among (after_leaf stays s x) m
after_leaf-keeps stays s x m h = elim (either (stays x)) [ inl e ↦ rw e h | inr e ↦ rw e (added-keeps s x m h) ]

-- a leaf is seen
pub continues_leaf : (stays : Leaf → Bool) (ts : List Tree) (xs : List Task) (t : NodeId) (x : Leaf) (l : Label) (s u : List Leaf) (ns : List ℕ)
    → IsReading stays ts (xs ++ task.Enter t ∷ []) s ns → tree_at ts t ≡ node l (children (tree_at ts t)) → l ≡ label.Leaf x → u ≡ after_leaf stays s x
    → WalkGoesOn stays ts (xs ++ task.Enter t ∷ []) s ns xs u ns
continues_leaf stays ts xs t x l s u ns h is e v =
    let shown : seen stays s (tree_at ts t) ≡ after_leaf stays s x = ap (seen stays s) (is ∙ ap (λ z. node z (children (tree_at ts t))) e) in
    continues stays ts xs xs (task.Enter t) [] s u ns ns h (front stays ts xs (task.Enter t) s ns h).0 (sym (append-nil (jobs ts xs))) (v ∙ sym shown) tt (size-some l (children (tree_at ts t)) (tree_at ts t) is)
    (are_read-more stays ts s u ns (λ m i. rw v (after_leaf-keeps stays s x m i)) h.are_read)

-- a term that was read shows nothing new
continues_read : (stays : Leaf → Bool) (ts : List Tree) (xs : List Task) (t : NodeId) (l : Label) (s : List Leaf) (ns : List ℕ)
    → IsReading stays ts (xs ++ task.Enter t ∷ []) s ns → tree_at ts t ≡ node l (children (tree_at ts t)) → IsRead stays s (tree_at ts t)
    → WalkGoesOn stays ts (xs ++ task.Enter t ∷ []) s ns xs s ns
continues_read stays ts xs t l s ns h is done =
    continues stays ts xs xs (task.Enter t) [] s s ns ns h (front stays ts xs (task.Enter t) s ns h).0 (sym (append-nil (jobs ts xs))) (sym (seen-read stays s (tree_at ts t) done)) tt (size-some l (children (tree_at ts t)) (tree_at ts t) is) h.are_read

-- .. such as one that was finished
pub continues_finished : (stays : Leaf → Bool) (ts : List Tree) (xs : List Task) (t : NodeId) (l : Label) (s : List Leaf) (ns : List ℕ)
    → IsReading stays ts (xs ++ task.Enter t ∷ []) s ns → tree_at ts t ≡ node l (children (tree_at ts t)) → list_any (nat_eq t.number) ns ≡ true
    → WalkGoesOn stays ts (xs ++ task.Enter t ∷ []) s ns xs s ns
continues_finished stays ts xs t l s ns h is e = continues_read stays ts xs t l s ns h is (is_read-contained stays ts s ns t.number h.are_read e)

-- .. or one without leaves
pub continues_leafless : (stays : Leaf → Bool) (ts : List Tree) (xs : List Task) (t : NodeId) (l : Label) (s : List Leaf) (ns : List ℕ)
    → IsReading stays ts (xs ++ task.Enter t ∷ []) s ns → tree_at ts t ≡ node l (children (tree_at ts t)) → any_label is_leaf (tree_at ts t) ≡ false
    → WalkGoesOn stays ts (xs ++ task.Enter t ∷ []) s ns xs s ns
continues_leafless stays ts xs t l s ns h is e = continues_read stays ts xs t l s ns h is (read-leafless stays s (tree_at ts t) e)

-- the children of another term are to be read, and then it is finished
seen_node-other : (stays : Leaf → Bool) (s inside : List Leaf) (l : Label) → ((x : Leaf) → l ≡ label.Leaf x → ⊥) → seen_node stays s l inside ≡ inside
seen_node-other stays s i (label.Leaf x) n = absurd (n x refl)
seen_node-other stays s i (label.Bound o b d) n = refl
seen_node-other stays s i (label.Ty x) n = refl
seen_node-other stays s i (label.Const x) n = refl
seen_node-other stays s i (label.Clause x) n = refl
seen_node-other stays s i (label.Predicate x) n = refl
seen_node-other stays s i (label.List x) n = refl

pub continues_down : (stays : Leaf → Bool) (ts : List Tree) (xs ys zs : List Task) (t : NodeId) (l : Label) (s : List Leaf) (ns : List ℕ)
    → IsReading stays ts (xs ++ task.Enter t ∷ []) s ns → tree_at ts t ≡ node l (children (tree_at ts t)) → ((x : Leaf) → l ≡ label.Leaf x → ⊥) → IsRow (children (tree_at ts t))
    → ys ≡ xs ++ task.Finish t ∷ [] → TasksIn ts zs → jobs ts zs ≡ jobs ts ys ++ entered (children (tree_at ts t))
    → WalkGoesOn stays ts (xs ++ task.Enter t ∷ []) s ns zs s ns
continues_down stays ts xs ys zs t l s ns h is n row y within are =
    let u = tree_at ts t in
    let c = children u in
    let old : jobs ts ys ≡ jobs ts xs ++ finish u ∷ [] = ap (jobs ts) y ∙ jobs-push ts xs (task.Finish t) in
    let new : jobs ts zs ≡ jobs ts xs ++ (finish u ∷ entered c) = are ∙ ap (λ js. js ++ entered c) old ∙ append_assoc (jobs ts xs) (finish u ∷ []) (entered c) in
    let whole : seen stays s u ≡ seen stays s c = ap (seen stays s) is ∙ seen_node-other stays s (seen stays s c) l n in
    let inside : seen_after stays (entered c) s ≡ seen stays s u = seen_after-entered stays c s row ∙ sym whole in
    let long : size u ≡ size c + 1 = ap size is in
    continues stays ts xs zs (task.Enter t) (finish u ∷ entered c) s s ns ns h within new inside
    (subst (λ z. IsRead stays z u) (sym inside) (read-seen stays s u (seen stays s u) (extends-self (seen stays s u))), AreDue-entered stays c s)
    (omega (arith, long, job_weights-entered c)) h.are_read

-- a term is finished
pub continues_finish : (stays : Leaf → Bool) (ts : List Tree) (xs : List Task) (t : NodeId) (s : List Leaf) (ns ms : List ℕ)
    → IsReading stays ts (xs ++ task.Finish t ∷ []) s ns → ms ≡ insert_key nat_eq ns t.number → WalkGoesOn stays ts (xs ++ task.Finish t ∷ []) s ns xs s ms
continues_finish stays ts xs t s ns ms h e =
    let push = jobs-push ts xs (task.Finish t) in
    let split = AreDue-split stays (jobs ts xs) (finish (tree_at ts t) ∷ []) s (subst (λ z. AreDue stays z s) push h.due) in
    continues stays ts xs xs (task.Finish t) [] s s ns ms h (front stays ts xs (task.Finish t) s ns h).0 (sym (append-nil (jobs ts xs))) refl tt (omega arith)
    (rw e (are_read-inserted stays ts s ns t.number h.are_read split.0.0))

-- what holds where a call succeeded
pub ok_map : {A E : Type 0} (r : Result A E) (P Q : Type 0) → (P → Q) → OnOk r P → OnOk r Q
ok_map (Ok x) P Q f h = f h
ok_map (Err e) P Q f h = h

-- the children that are pushed so far
pub pushed_none : (ts : List Tree) (xs : List Task) (r : Tree) (n : ℕ) → IsRow r → n ≡ row_length r → jobs ts xs ≡ jobs ts xs ++ entered (row_from n r)
pushed_none ts xs r n h e =
    let none : row_from n r ≡ empty = ap (λ m. row_from m r) e ∙ row_from-end r h in
    rw none (sym (append-nil (jobs ts xs)))

pub pushed_one : (ts : List Tree) (xs ys zs : List Task) (r : Tree) (i j : ℕ) (c : NodeId) → jobs ts ys ≡ jobs ts xs ++ entered (row_from i r) → i ≡ j + 1 → j < row_length r → tree_at ts c ≡ row_at r j → zs ≡ ys ++ task.Enter c ∷ []
    → jobs ts zs ≡ jobs ts xs ++ entered (row_from j r)
pushed_one ts xs ys zs r i j c h e below tree is =
    let step : row_from j r ≡ more (row_at r j) (row_from i r) = row_from-step r j below ∙ ap (λ m. more (row_at r j) (row_from m r)) (sym e) in
    rw (is, jobs-push ts ys (task.Enter c), h, step, tree) (append_assoc (jobs ts xs) (entered (row_from i r)) (read (row_at r j) ∷ []))

-- a leaf that does not stay is added
pub leaf_added : (stays : Leaf → Bool) (s u : List Leaf) (l : Leaf) → stays l ≡ false → u ≡ added s l → u ≡ after_leaf stays s l
leaf_added stays s u l e h = rw e h

pub ok_map_both : {A E : Type 0} (r : Result A E) (P Q R : Type 0) → (P → Q → R) → OnOk r P → OnOk r Q → OnOk r R
ok_map_both (Ok x) P Q R f h k = f h k
ok_map_both (Err e) P Q R f h k = h

-- the turn that finishes a term
pub finish_turn : (stays : Leaf → Bool) (ts : List Tree) (ys xs : List Task) (t : NodeId) (s : List Leaf) (ns ms : List ℕ)
    → IsReading stays ts ys s ns → ys ≡ xs ++ task.Finish t ∷ [] → ms ≡ insert_key nat_eq ns t.number → WalkGoesOn stays ts ys s ns xs s ms
finish_turn stays ts ys xs t s ns ms h y e =
    subst (λ z. WalkGoesOn stays ts z s ns xs s ms) (sym y) (continues_finish stays ts xs t s ns ms (subst (λ z. IsReading stays ts z s ns) y h) e)
