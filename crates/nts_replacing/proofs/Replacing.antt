-- What the walk of a replacer still has to do, and what it has found so far.
use Rattle.std.proofs.Common.{◌≡◌, ⊎_elim, ℕ, zero, suc, ◌+◌, ◌-◌, ◌*◌, ◌<◌, ◌≤◌, List, [], ◌∷◌, ◌++◌, length, map, take, drop, get_or, Option, Some, Bool, true, false, nat_eq, cond, eqb-true, refl, sym, ap, subst, ◌∙◌, arith, append_assoc, length-append, add-one}
use Rattle.std.proofs.lemmas.List.{append-nil, length-map, take-map, drop-map}
use Rattle.std.proofs.Math.Seq.{take-append_seam, drop-append_seam}
use Rattle.nts_store.specs.nts_model.specs.declared.labels.Label.{Label}
use Rattle.nts_store.specs.nts_model.specs.Terms.Trees.{Tree, empty, more, node, size, kind_of, children, row_length, row_at, IsRow, Place, Shape, in_order, each, shape, HavePlaces, AllFit, Meets}
use Rattle.nts_store.specs.declared.nodes.NodeId.{NodeId}
use Rattle.nts_replacing.specs.declared.replacement.Step.TheVariants as step
use Rattle.nts_replacing.specs.declared.replacement.Task.{Task}
use Rattle.nts_replacing.specs.declared.replacement.Task.TheVariants as task
use Rattle.nts_store.specs.Growth.{tree_at, trees_at, IsIn, AllIn, Extends}
use Rattle.nts_store.specs.Kept.{map-kept}
use Rattle.nts_replacing.specs.Replacement.{GoesDown, IsStep, Job, enter, build, job, jobs, TaskIn, TasksIn, entered, building, IsFormedNode, MayHold}
use Rattle.nts_store.proofs.Growing.{IsIn-extended, AllIn-extended, AllIn-push}

-- tasks by their trees

pub jobs-push : (ts : List Tree) (xs : List Task) (x : Task) → jobs ts (xs ++ x ∷ []) ≡ jobs ts xs ++ job ts x ∷ []
jobs-push ts [] x = refl
jobs-push ts (y ∷ xs) x = ap (λ js. job ts y ∷ js) (jobs-push ts xs x)

pub TasksIn-push : (ts : List Tree) (xs : List Task) (x : Task) → TasksIn ts xs → TaskIn ts x → TasksIn ts (xs ++ x ∷ [])
TasksIn-push ts [] x h k = (k, tt)
TasksIn-push ts (y ∷ xs) x h k = (h.0, TasksIn-push ts xs x h.1 k)

pub TasksIn-front : (ts : List Tree) (xs : List Task) (x : Task) → TasksIn ts (xs ++ x ∷ []) → TasksIn ts xs × TaskIn ts x
TasksIn-front ts [] x h = (tt, h.0)
TasksIn-front ts (y ∷ xs) x h = let r = TasksIn-front ts xs x h.1 in ((h.0, r.0), r.1)

pub TasksIn-extended : {a b : List Tree} → Extends a b → (xs : List Task) → TasksIn a xs → TasksIn b xs
TasksIn-extended e [] h = tt
TasksIn-extended e (task.Enter t ∷ xs) h = (IsIn-extended e t h.0, TasksIn-extended e xs h.1)
TasksIn-extended e (task.Build o l n ∷ xs) h = (IsIn-extended e o h.0, TasksIn-extended e xs h.1)

pub jobs-extended : {a b : List Tree} → Extends a b → (xs : List Task) → TasksIn a xs → jobs b xs ≡ jobs a xs
jobs-extended e [] h = refl
jobs-extended e (task.Enter t ∷ xs) h = cc (e.kept t h.0, jobs-extended e xs h.1)
jobs-extended e (task.Build o l n ∷ xs) h = cc (e.kept o h.0, jobs-extended e xs h.1)

pub map-push : (ts : List Tree) (cs : List NodeId) (c : NodeId) → map (tree_at ts) (cs ++ c ∷ []) ≡ map (tree_at ts) cs ++ tree_at ts c ∷ []
map-push ts [] c = refl
map-push ts (d ∷ cs) c = ap (λ xs. tree_at ts d ∷ xs) (map-push ts cs c)

-- the tasks of a node

abbrev pub row_drop : ℕ → Tree → Tree
row_drop zero r = r
row_drop (suc i) empty = empty
row_drop (suc i) (more a b) = row_drop i b
row_drop (suc i) (node l c) = empty

row_drop-all : (r : Tree) → IsRow r → row_drop (row_length r) r ≡ empty
row_drop-all empty h = refl
row_drop-all (more a b) h = rw add-one (row_drop-all b h)
row_drop-all (node l c) h = absurd h

entered-at : (i : ℕ) (r : Tree) → i < row_length r → entered (row_drop i r) ≡ entered (row_drop (i + 1) r) ++ enter (row_at r i) ∷ []
entered-at i empty h = absurd (omega arith)
entered-at zero (more a b) h = refl
entered-at (suc i) (more a b) h =
    let e : suc i + 1 ≡ suc (i + 1) = omega arith in
    rw e (entered-at i b (omega arith))
entered-at i (node l c) h = absurd (omega arith)

-- the children of a node are pushed from place i on
pub record PushedFrom (ts : List Tree) (xs ys : List Task) (u : Tree) (i : ℕ) : Type 0 where
  pub fits : i ≤ row_length (children u)
  pub within : TasksIn ts ys
  pub are : jobs ts ys ≡ jobs ts xs ++ entered (row_drop i (children u))

pub pushed_start : (ts : List Tree) (xs : List Task) (u : Tree) (n : ℕ) → TasksIn ts xs → n ≡ row_length (children u) → IsRow (children u) → PushedFrom ts xs xs u n
pushed_start ts xs u n h e r =
    let none : row_drop n (children u) ≡ empty = rw e (row_drop-all (children u) r) in
    record { fits = omega (arith, e); within = h; are = rw none (sym (append-nil (jobs ts xs))) }

pub pushed_step : (ts : List Tree) (xs ys zs : List Task) (u : Tree) (i j : ℕ) (c : NodeId) → PushedFrom ts xs ys u i → j + 1 ≡ i → IsIn ts c → tree_at ts c ≡ row_at (children u) j → zs ≡ ys ++ task.Enter c ∷ [] → PushedFrom ts xs zs u j
pushed_step ts xs ys zs u i j c p e w q is =
    let at = entered-at j (children u) (omega (arith, p.fits)) in
    let old : jobs ts ys ≡ jobs ts xs ++ entered (row_drop (j + 1) (children u)) = rw e p.are in
    record {
      fits = omega (arith, p.fits);
      within = rw is (TasksIn-push ts ys (task.Enter c) p.within w);
      are = rw (is, at, jobs-push ts ys (task.Enter c), old, q) (append_assoc (jobs ts xs) (entered (row_drop (j + 1) (children u))) (enter (row_at (children u) j) ∷ []));
    }

building_is : (u : Tree) (l : Label) (n : ℕ) → u ≡ node l (children u) → n ≡ row_length (children u) → building u ≡ build u l n ∷ entered (children u)
building_is empty l n e q = cc
building_is (more a b) l n e q = cc
building_is (node m c) l n e q = let same : m ≡ l = cc in cc (same, q)

pub pushed_all : (ts : List Tree) (xs ys zs : List Task) (o : NodeId) (l : Label) (n i : ℕ) → PushedFrom ts ys zs (tree_at ts o) i → i ≡ 0 → ys ≡ xs ++ task.Build o l n ∷ [] → tree_at ts o ≡ node l (children (tree_at ts o)) → n ≡ row_length (children (tree_at ts o)) → jobs ts zs ≡ jobs ts xs ++ building (tree_at ts o)
pushed_all ts xs ys zs o l n i p z is e q =
    let u = tree_at ts o in
    let all : jobs ts zs ≡ jobs ts ys ++ entered (children u) = rw z at p.are in
    let old : jobs ts ys ≡ jobs ts xs ++ build u l n ∷ [] = rw is (jobs-push ts xs (task.Build o l n)) in
    let what : building u ≡ build u l n ∷ entered (children u) = building_is u l n e q in
    rw (all, old, what) (append_assoc (jobs ts xs) (build u l n ∷ []) (entered (children u)))

pub formed_node : (u : Tree) (l : Label) → u ≡ node l (children u) → Meets (shape l) (children u) → IsFormedNode u
formed_node u l e h = rw e h

-- rows as lists

abbrev pub row : List Tree → Tree
row [] = empty
row (x ∷ xs) = more x (row xs)

pub row-trees : (ts : List Tree) (cs : List NodeId) → row (map (tree_at ts) cs) ≡ trees_at ts cs
row-trees ts [] = refl
row-trees ts (c ∷ cs) = ap (more (tree_at ts c)) (row-trees ts cs)

IsRow-HavePlaces : (ps : List Place) (c : Tree) → HavePlaces ps c → IsRow c
IsRow-HavePlaces [] empty h = tt
IsRow-HavePlaces [] (more a b) h = absurd h
IsRow-HavePlaces [] (node l c) h = absurd h
IsRow-HavePlaces (p ∷ ps) empty h = absurd h
IsRow-HavePlaces (p ∷ ps) (more a b) h = IsRow-HavePlaces ps b h.1
IsRow-HavePlaces (p ∷ ps) (node l c) h = absurd h

IsRow-AllFit : (p : Place) (c : Tree) → AllFit p c → IsRow c
IsRow-AllFit p empty h = tt
IsRow-AllFit p (more a b) h = IsRow-AllFit p b h.1
IsRow-AllFit p (node l c) h = absurd h

pub IsRow-Meets : (s : Shape) (c : Tree) → Meets s c → IsRow c
IsRow-Meets (in_order ps) c h = IsRow-HavePlaces ps c h
IsRow-Meets (each p) c h = IsRow-AllFit p c h

-- the laws of a replacer whose image is f and which covers C
pub record AreLaws (C : Tree → Type 0) (f : Tree → Tree) : Type 0 where
  pub of_empty : f empty ≡ empty
  pub of_more : (a b : Tree) → f (more a b) ≡ more (f a) (f b)
  pub covers : (a b : Tree) → C (more a b) → C a × C b
  pub kind : (t : Tree) → C t → kind_of (f t) ≡ kind_of t

module _ (C : Tree → Type 0) (f : Tree → Tree) where
  -- a node with the images of its children
  abbrev pub again : Tree → Tree
  again empty = empty
  again (more a b) = more a b
  again (node l c) = node l (f c)

  -- the trees that are found after a job, those found before it first
  abbrev pub done : Job → List Tree → List Tree
  done (enter t) rs = rs ++ f t ∷ []
  done (build y l n) rs = take (length rs - n) rs ++ node l (row (drop (length rs - n) rs)) ∷ []

  abbrev pub run : List Job → List Tree → List Tree
  run [] rs = rs
  run (x ∷ xs) rs = done x (run xs rs)

  abbrev pub IsReady : Job → List Tree → Type 0
  IsReady (enter t) rs = C t
  IsReady (build y l n) rs =
      Meets (shape l) (row (drop (length rs - n) rs)) × (node l (row (drop (length rs - n) rs)) ≡ again y)

  abbrev pub AreReady : List Job → List Tree → Type 0
  AreReady [] rs = Unit {0}
  AreReady (x ∷ xs) rs = AreReady xs rs × IsReady x (run xs rs)

  abbrev pub weight : Job → ℕ
  weight (enter t) = 2 * size (f t) + 1
  weight (build y l n) = 1

  abbrev pub weights : List Job → ℕ
  weights [] = 0
  weights (x ∷ xs) = weight x + weights xs

  run-append : (xs ys : List Job) (rs : List Tree) → run (xs ++ ys) rs ≡ run xs (run ys rs)
  run-append [] ys rs = refl
  run-append (x ∷ xs) ys rs = ap (done x) (run-append xs ys rs)

  AreReady-split : (xs ys : List Job) (rs : List Tree) → AreReady (xs ++ ys) rs → AreReady ys rs × AreReady xs (run ys rs)
  AreReady-split [] ys rs h = (h, tt)
  AreReady-split (x ∷ xs) ys rs h =
      let r = AreReady-split xs ys rs h.0 in (r.0, (r.1, subst (λ (z : List Tree). IsReady x z) (run-append xs ys rs) h.1))

  AreReady-append : (xs ys : List Job) (rs : List Tree) → AreReady ys rs → AreReady xs (run ys rs) → AreReady (xs ++ ys) rs
  AreReady-append [] ys rs h k = h
  AreReady-append (x ∷ xs) ys rs h k = (AreReady-append xs ys rs h k.0, subst (λ (z : List Tree). IsReady x z) (sym (run-append xs ys rs)) k.1)

  pub weights-append : (xs ys : List Job) → weights (xs ++ ys) ≡ weights xs + weights ys
  weights-append [] ys = omega arith
  weights-append (x ∷ xs) ys = omega (arith, weights-append xs ys)

  -- the images of a row, as a list
  abbrev images : Tree → List Tree
  images empty = []
  images (more a b) = f a ∷ images b
  images (node l c) = []

  length-images : (c : Tree) → length (images c) ≡ row_length c
  length-images empty = refl
  length-images (more a b) = omega (arith, length-images b)
  length-images (node l c) = refl

  run-entered : (c : Tree) (rs : List Tree) → run (entered c) rs ≡ rs ++ images c
  run-entered empty rs = sym (append-nil rs)
  run-entered (more a b) rs =
      run-append (entered b) (enter a ∷ []) rs ∙ run-entered b (rs ++ f a ∷ []) ∙ append_assoc rs (f a ∷ []) (images b)
  run-entered (node l c) rs = sym (append-nil rs)

  done-build : (y : Tree) (l : Label) (n : ℕ) (rs xs : List Tree) → length xs ≡ n → done (build y l n) (rs ++ xs) ≡ rs ++ node l (row xs) ∷ []
  done-build y l n rs xs e =
      let k : length (rs ++ xs) - n ≡ length rs = omega (arith, length-append rs xs) in
      rw (k, take-append_seam, drop-append_seam) refl

  ready-build : (y : Tree) (l : Label) (n : ℕ) (rs xs : List Tree) → length xs ≡ n → Meets (shape l) (row xs) → node l (row xs) ≡ again y → IsReady (build y l n) (rs ++ xs)
  ready-build y l n rs xs e h q =
      let k : length (rs ++ xs) - n ≡ length rs = omega (arith, length-append rs xs) in
      rw (k, drop-append_seam) (h, q)

  module _ (laws : AreLaws C f) where
    row-images : (c : Tree) → IsRow c → row (images c) ≡ f c
    row-images empty h = sym laws.of_empty
    row-images (more a b) h = rw (row-images b h) (sym (laws.of_more a b))
    row-images (node l c) h = absurd h

    AreReady-entered : (c : Tree) (rs : List Tree) → C c → AreReady (entered c) rs
    AreReady-entered empty rs h = tt
    AreReady-entered (more a b) rs h =
        let w = laws.covers a b h in
        AreReady-append (entered b) (enter a ∷ []) rs (tt, w.0) (AreReady-entered b (rs ++ f a ∷ []) w.1)
    AreReady-entered (node l c) rs h = tt

    HavePlaces-image : (ps : List Place) (c : Tree) → HavePlaces ps c → C c → HavePlaces ps (f c)
    HavePlaces-image [] empty h k = rw laws.of_empty tt
    HavePlaces-image [] (more a b) h k = absurd h
    HavePlaces-image [] (node l c) h k = absurd h
    HavePlaces-image (p ∷ ps) empty h k = absurd h
    HavePlaces-image (p ∷ ps) (more a b) h k =
        let w = laws.covers a b k in
        rw (laws.of_more a b, laws.kind a w.0) (h.0, HavePlaces-image ps b h.1 w.1)
    HavePlaces-image (p ∷ ps) (node l c) h k = absurd h

    AllFit-image : (p : Place) (c : Tree) → AllFit p c → C c → AllFit p (f c)
    AllFit-image p empty h k = rw laws.of_empty tt
    AllFit-image p (more a b) h k =
        let w = laws.covers a b k in
        rw (laws.of_more a b, laws.kind a w.0) (h.0, AllFit-image p b h.1 w.1)
    AllFit-image p (node l c) h k = absurd h

    pub Meets-image : (s : Shape) (c : Tree) → Meets s c → C c → Meets s (f c)
    Meets-image (in_order ps) c h k = HavePlaces-image ps c h k
    Meets-image (each p) c h k = AllFit-image p c h k

    run-building : (t u : Tree) (rs : List Tree) → GoesDown C f t u → IsFormedNode u → run (building u) rs ≡ rs ++ f t ∷ []
    run-building t empty rs h k = absurd h
    run-building t (more a b) rs h k = absurd h
    run-building t (node l c) rs h k =
        let r = row-images c (IsRow-Meets (shape l) c k) in
        rw (run-entered c rs, done-build (node l c) l (row_length c) rs (images c) (length-images c), r, h.0) refl

    AreReady-building : (t u : Tree) (rs : List Tree) → GoesDown C f t u → IsFormedNode u → AreReady (building u) rs
    AreReady-building t empty rs h k = tt
    AreReady-building t (more a b) rs h k = tt
    AreReady-building t (node l c) rs h k =
        let r = row-images c (IsRow-Meets (shape l) c k) in
        let meets : Meets (shape l) (row (images c)) = rw r (Meets-image (shape l) c k h.1) in
        (AreReady-entered c rs h.1, rw (run-entered c rs) (ready-build (node l c) l (row_length c) rs (images c) (length-images c) meets (ap (node l) r)))

    weights-entered : (c : Tree) → IsRow c → weights (entered c) ≤ 2 * size (f c)
    weights-entered empty h = omega arith
    weights-entered (more a b) h =
        let e : size (f (more a b)) ≡ size (f a) + size (f b) + 1 = ap size (laws.of_more a b) in
        omega (arith, weights-append (entered b) (enter a ∷ []), weights-entered b h)
    weights-entered (node l c) h = absurd h

    pub weights-building : (t u : Tree) → GoesDown C f t u → IsFormedNode u → weights (building u) < weight (enter t)
    weights-building t empty h k = absurd h
    weights-building t (more a b) h k = absurd h
    weights-building t (node l c) h k =
        let e : size (f t) ≡ size (f c) + 1 = ap size h.0 in
        omega (arith, weights-entered c (IsRow-Meets (shape l) c k))

pub AllIn-take : (ts : List Tree) (i : ℕ) (cs : List NodeId) → AllIn ts cs → AllIn ts (take i cs)
AllIn-take ts zero cs h = tt
AllIn-take ts (suc i) [] h = tt
AllIn-take ts (suc i) (c ∷ cs) h = (h.0, AllIn-take ts i cs h.1)

pub AllIn-drop : (ts : List Tree) (i : ℕ) (cs : List NodeId) → AllIn ts cs → AllIn ts (drop i cs)
AllIn-drop ts zero cs h = h
AllIn-drop ts (suc i) [] h = tt
AllIn-drop ts (suc i) (c ∷ cs) h = AllIn-drop ts i cs h.1

-- doing the tasks, over the terms found so far, ends with the tree x alone
pub record EndsWith (C : Tree → Type 0) (f : Tree → Tree) (ts : List Tree) (xs : List Task) (found : List NodeId) (x : Tree) : Type 0 where
  pub tasks_in : TasksIn ts xs
  pub found_in : AllIn ts found
  pub are_ready : AreReady C f (jobs ts xs) (map (tree_at ts) found)
  pub ends : run C f (jobs ts xs) (map (tree_at ts) found) ≡ x ∷ []

-- what a node may be made of
pub record MayBuild (ts : List Tree) (l : Label) (cs : List NodeId) : Type 0 where
  pub within : AllIn ts cs
  pub formed : Meets (shape l) (trees_at ts cs)

pub record MayEnter (C : Tree → Type 0) (ts : List Tree) (t : NodeId) : Type 0 where
  pub within : IsIn ts t
  pub covers : C (tree_at ts t)

-- what was found for a node, by number
pub record IsKnown (C : Tree → Type 0) (f : Tree → Tree) (ts : List Tree) (k : ℕ) (r : NodeId) : Type 0 where
  pub node_in : k < length ts
  pub within : IsIn ts r
  pub tree : tree_at ts r ≡ again C f (get_or ts k empty)

abbrev pub Known : (Tree → Type 0) → (Tree → Tree) → List Tree → (ℕ → Option NodeId) → Type 0
Known C f ts known = (k : ℕ) (r : NodeId) → known k ≡ Some r → IsKnown C f ts k r

module _ (C : Tree → Type 0) (f : Tree → Tree) where
  pub known_later : (a b : List Tree) (known : ℕ → Option NodeId) → Extends a b → Known C f a known → Known C f b known
  known_later a b known e h =
      λ k r q.
      let old = h k r q in
      let kept : get_or b k empty ≡ get_or a k empty = e.kept (record { number = k }) old.node_in in
      record {
        node_in = omega (arith, e.longer, old.node_in);
        within = omega (arith, e.longer, old.within);
        tree = e.kept r old.within ∙ old.tree ∙ ap (again C f) (sym kept);
      }

  known_cases : (ts : List Tree) (old : ℕ → Option NodeId) (n k : ℕ) (d r : NodeId) → Known C f ts old → IsKnown C f ts n d → (b : Bool) → nat_eq n k ≡ b → cond b (Some d) (old k) ≡ Some r → IsKnown C f ts k r
  known_cases ts old n k d r h w true e q =
      let same : n ≡ k = eqb-true n k e in
      let is : d ≡ r = cc in
      subst (λ (z : NodeId). IsKnown C f ts k z) is (subst (λ (m : ℕ). IsKnown C f ts m d) same w)
  known_cases ts old n k d r h w false e q = h k r q

  pub known_more : (ts : List Tree) (old new : ℕ → Option NodeId) (n : ℕ) (d : NodeId) → Known C f ts old → IsKnown C f ts n d → MayHold old new n d → Known C f ts new
  known_more ts old new n d h w is = λ k r q. ⊎_elim (λ e. h k r (sym e ∙ q)) (λ e. known_cases ts old n k d r h w (nat_eq n k) refl (sym e ∙ q)) (is k)

  split_jobs : (ts : List Tree) (xs ys : List Task) (k : Task) → ys ≡ xs ++ k ∷ [] → jobs ts ys ≡ jobs ts xs ++ job ts k ∷ []
  split_jobs ts xs ys k e = rw e (jobs-push ts xs k)

  -- the last task with its place taken by others that give the same
  ends_after : (a b : List Tree) (xs ys zs : List Task) (k : Task) (ws : List Job) (rs qs : List NodeId) (x : Tree) → EndsWith C f a ys rs x → ys ≡ xs ++ k ∷ [] → Extends a b → jobs b zs ≡ jobs b xs ++ ws → run C f ws (map (tree_at b) qs) ≡ done C f (job a k) (map (tree_at a) rs) → AreReady C f ws (map (tree_at b) qs) → TasksIn b zs → AllIn b qs → EndsWith C f b zs qs x
  ends_after a b xs ys zs k ws rs qs x p e up is same ready tasks found =
      let old = split_jobs a xs ys k e in
      let front : TasksIn a xs × TaskIn a k = TasksIn-front a xs k (rw e at p.tasks_in) in
      let new : jobs b zs ≡ jobs a xs ++ ws = is ∙ ap (λ js. js ++ ws) (jobs-extended up xs front.0) in
      let was = AreReady-split C f (jobs a xs) (job a k ∷ []) (map (tree_at a) rs) (rw old at p.are_ready) in
      let end : run C f (jobs a xs) (done C f (job a k) (map (tree_at a) rs)) ≡ x ∷ [] = sym (run-append C f (jobs a xs) (job a k ∷ []) (map (tree_at a) rs)) ∙ ap (λ js. run C f js (map (tree_at a) rs)) (sym old) ∙ p.ends in
      record {
        tasks_in = tasks;
        found_in = found;
        are_ready = subst (λ (js : List Job). AreReady C f js (map (tree_at b) qs)) (sym new) (AreReady-append C f (jobs a xs) ws (map (tree_at b) qs) ready (subst (λ (r : List Tree). AreReady C f (jobs a xs) r) (sym same) was.1));
        ends = ap (λ js. run C f js (map (tree_at b) qs)) new ∙ run-append C f (jobs a xs) ws (map (tree_at b) qs) ∙ ap (run C f (jobs a xs)) same ∙ end;
      }

  pub may_enter : (a : List Tree) (xs ys : List Task) (t : NodeId) (rs : List NodeId) (x : Tree) → EndsWith C f a ys rs x → ys ≡ xs ++ task.Enter t ∷ [] → MayEnter C a t
  may_enter a xs ys t rs x p e =
      let old = split_jobs a xs ys (task.Enter t) e in
      let was = AreReady-split C f (jobs a xs) (enter (tree_at a t) ∷ []) (map (tree_at a) rs) (rw old at p.are_ready) in
      record { within = (TasksIn-front a xs (task.Enter t) (rw e at p.tasks_in)).1; covers = was.0.1 }

  pub may_build : (a : List Tree) (xs ys : List Task) (o : NodeId) (l : Label) (n i : ℕ) (rs cs : List NodeId) (x : Tree) → EndsWith C f a ys rs x → ys ≡ xs ++ task.Build o l n ∷ [] → i ≡ length rs - n → cs ≡ drop i rs → MayBuild a l cs
  may_build a xs ys o l n i rs cs x p e q is =
      let old = split_jobs a xs ys (task.Build o l n) e in
      let was = AreReady-split C f (jobs a xs) (build (tree_at a o) l n ∷ []) (map (tree_at a) rs) (rw old at p.are_ready) in
      let len : length (map (tree_at a) rs) - n ≡ i = rw (length-map rs (tree_at a)) (sym q) in
      let now : IsReady C f (build (tree_at a o) l n) (map (tree_at a) rs) = was.0.1 in
      let meets : Meets (shape l) (row (drop i (map (tree_at a) rs))) = rw len at now.0 in
      let same : row (drop i (map (tree_at a) rs)) ≡ trees_at a (drop i rs) = ap row (drop-map (tree_at a) i rs) ∙ row-trees a (drop i rs) in
      record { within = rw is (AllIn-drop a i rs p.found_in); formed = rw (is, ← same) meets }

  -- a node that is made is what stands for its term
  pub may_keep : (a : List Tree) (xs ys : List Task) (o : NodeId) (l : Label) (n i : ℕ) (rs cs : List NodeId) (x : Tree) → EndsWith C f a ys rs x → ys ≡ xs ++ task.Build o l n ∷ [] → i ≡ length rs - n → cs ≡ drop i rs → IsIn a o × (node l (trees_at a cs) ≡ again C f (tree_at a o))
  may_keep a xs ys o l n i rs cs x p e q is =
      let old = split_jobs a xs ys (task.Build o l n) e in
      let was = AreReady-split C f (jobs a xs) (build (tree_at a o) l n ∷ []) (map (tree_at a) rs) (rw old at p.are_ready) in
      let now : IsReady C f (build (tree_at a o) l n) (map (tree_at a) rs) = was.0.1 in
      let len : length (map (tree_at a) rs) - n ≡ i = rw (length-map rs (tree_at a)) (sym q) in
      let made : node l (row (drop i (map (tree_at a) rs))) ≡ again C f (tree_at a o) = rw len at now.1 in
      let same : row (drop i (map (tree_at a) rs)) ≡ trees_at a (drop i rs) = ap row (drop-map (tree_at a) i rs) ∙ row-trees a (drop i rs) in
      ((TasksIn-front a xs (task.Build o l n) (rw e at p.tasks_in)).1, ap (node l) (ap (trees_at a) is ∙ sym same) ∙ made)

  pub ends_done : (a b : List Tree) (xs ys : List Task) (t r : NodeId) (rs qs : List NodeId) (x : Tree) → EndsWith C f a ys rs x → ys ≡ xs ++ task.Enter t ∷ [] → Extends a b → IsStep C f b (tree_at a t) (step.Done r) → qs ≡ rs ++ r ∷ [] → EndsWith C f b xs qs x
  ends_done a b xs ys t r rs qs x p e up s is =
      let front : TasksIn a xs × TaskIn a (task.Enter t) = TasksIn-front a xs (task.Enter t) (rw e at p.tasks_in) in
      let same : map (tree_at b) qs ≡ map (tree_at a) rs ++ f (tree_at a t) ∷ [] = rw (is, map-push b rs r, map-kept a b rs p.found_in up, s.1) refl in
      ends_after a b xs ys xs (task.Enter t) [] rs qs x p e up (sym (append-nil (jobs b xs))) same tt (TasksIn-extended up xs front.0) (rw is (AllIn-push b rs r (AllIn-extended up rs p.found_in) s.0))

  goes_again : (t u : Tree) → GoesDown C f t u → again C f u ≡ f t
  goes_again t empty h = absurd h
  goes_again t (more a b) h = absurd h
  goes_again t (node l c) h = sym h.0

  pub ends_known : (a b : List Tree) (xs ys : List Task) (t n r : NodeId) (rs qs : List NodeId) (x : Tree) → EndsWith C f a ys rs x → ys ≡ xs ++ task.Enter t ∷ [] → Extends a b → IsStep C f b (tree_at a t) (step.Down n) → IsKnown C f b n.number r → qs ≡ rs ++ r ∷ [] → EndsWith C f b xs qs x
  ends_known a b xs ys t n r rs qs x p e up s k is =
      ends_done a b xs ys t r rs qs x p e up (k.within, k.tree ∙ goes_again (tree_at a t) (tree_at b n) s.1) is

  pub ends_build : (a b : List Tree) (xs ys : List Task) (o : NodeId) (l : Label) (n i : ℕ) (d : NodeId) (rs cs qs : List NodeId) (x : Tree) → EndsWith C f a ys rs x → ys ≡ xs ++ task.Build o l n ∷ [] → Extends a b → i ≡ length rs - n → cs ≡ drop i rs → IsIn b d → tree_at b d ≡ node l (trees_at a cs) → qs ≡ take i rs ++ d ∷ [] → EndsWith C f b xs qs x
  ends_build a b xs ys o l n i d rs cs qs x p e up q is within made new =
      let front : TasksIn a xs × TaskIn a (task.Build o l n) = TasksIn-front a xs (task.Build o l n) (rw e at p.tasks_in) in
      let kept = AllIn-take a i rs p.found_in in
      let len : length (map (tree_at a) rs) - n ≡ i = rw (length-map rs (tree_at a)) (sym q) in
      let last : row (drop i (map (tree_at a) rs)) ≡ trees_at a cs = ap row (drop-map (tree_at a) i rs) ∙ row-trees a (drop i rs) ∙ ap (trees_at a) (sym is) in
      let same : map (tree_at b) qs ≡ done C f (build (tree_at a o) l n) (map (tree_at a) rs) =
      rw (new, map-push b (take i rs) d, map-kept a b (take i rs) kept up, made, len, last, take-map (tree_at a) i rs) refl in
      ends_after a b xs ys xs (task.Build o l n) [] rs qs x p e up (sym (append-nil (jobs b xs))) same tt (TasksIn-extended up xs front.0) (rw new (AllIn-push b (take i rs) d (AllIn-extended up (take i rs) kept) within))

  pub ends_down : (laws : AreLaws C f) (a b : List Tree) (xs ys zs : List Task) (t n : NodeId) (rs : List NodeId) (x : Tree) → EndsWith C f a ys rs x → ys ≡ xs ++ task.Enter t ∷ [] → Extends a b → IsStep C f b (tree_at a t) (step.Down n) → IsFormedNode (tree_at b n) → TasksIn b zs → jobs b zs ≡ jobs b xs ++ building (tree_at b n) → EndsWith C f b zs rs x
  ends_down laws a b xs ys zs t n rs x p e up s formed within is =
      let u = tree_at b n in
      let found = map-kept a b rs p.found_in up in
      let same : run C f (building u) (map (tree_at b) rs) ≡ map (tree_at a) rs ++ f (tree_at a t) ∷ [] = rw found (run-building C f laws (tree_at a t) u (map (tree_at a) rs) s.1 formed) in
      ends_after a b xs ys zs (task.Enter t) (building u) rs rs x p e up is same (AreReady-building C f laws (tree_at a t) u (map (tree_at b) rs) s.1 formed) within (AllIn-extended up rs p.found_in)

  -- each turn there is less to do

  pub weights_split : (a : List Tree) (xs ys : List Task) (k : Task) → ys ≡ xs ++ k ∷ [] → weights C f (jobs a ys) ≡ weights C f (jobs a xs) + weight C f (job a k)
  weights_split a xs ys k e =
      omega (arith, ap (weights C f) (split_jobs a xs ys k e), weights-append C f (jobs a xs) (job a k ∷ []))

  pub weights_extended : (a b : List Tree) (xs ys : List Task) (k : Task) → TasksIn a ys → ys ≡ xs ++ k ∷ [] → Extends a b → weights C f (jobs b xs) ≡ weights C f (jobs a xs)
  weights_extended a b xs ys k h e up =
      let front : TasksIn a xs × TaskIn a k = TasksIn-front a xs k (rw e at h) in
      ap (weights C f) (jobs-extended up xs front.0)

  pub less_after : (a b : List Tree) (xs ys : List Task) (k : Task) (rs : List NodeId) (x : Tree) → EndsWith C f a ys rs x → ys ≡ xs ++ k ∷ [] → Extends a b → weights C f (jobs b xs) < weights C f (jobs a ys)
  less_after a b xs ys (task.Enter t) rs x p e up =
      omega (arith, weights_split a xs ys (task.Enter t) e, weights_extended a b xs ys (task.Enter t) p.tasks_in e up)
  less_after a b xs ys (task.Build o l n) rs x p e up =
      omega (arith, weights_split a xs ys (task.Build o l n) e, weights_extended a b xs ys (task.Build o l n) p.tasks_in e up)

  pub less_down : (laws : AreLaws C f) (a b : List Tree) (xs ys zs : List Task) (t n : NodeId) (rs : List NodeId) (x : Tree) → EndsWith C f a ys rs x → ys ≡ xs ++ task.Enter t ∷ [] → Extends a b → IsStep C f b (tree_at a t) (step.Down n) → IsFormedNode (tree_at b n) → jobs b zs ≡ jobs b xs ++ building (tree_at b n) → weights C f (jobs b zs) < weights C f (jobs a ys)
  less_down laws a b xs ys zs t n rs x p e up s formed is =
      let less = weights-building C f laws (tree_at a t) (tree_at b n) s.1 formed in
      let sum : weights C f (jobs b zs) ≡ weights C f (jobs b xs) + weights C f (building (tree_at b n)) = ap (weights C f) is ∙ weights-append C f (jobs b xs) (building (tree_at b n)) in
      omega (arith, sum, less, weights_split a xs ys (task.Enter t) e, weights_extended a b xs ys (task.Enter t) p.tasks_in e up)

abbrev no_terms : List NodeId
no_terms = []

-- the part of a list from a place to its end
pub slice_to_end : (xs ys : List NodeId) (i : ℕ) → xs ≡ ys → take (length xs - i) (drop i xs) ≡ drop i ys
slice_to_end xs ys i e = rw e (to_end ys i)
  where
    all_of : (zs : List NodeId) → take (length zs) zs ≡ zs
    all_of [] = refl
    all_of (z ∷ zs) = ap (λ x. z ∷ x) (all_of zs)

    none : (n : ℕ) → take n (no_terms) ≡ no_terms
    none zero = refl
    none (suc n) = refl

    to_end : (zs : List NodeId) (j : ℕ) → take (length zs - j) (drop j zs) ≡ drop j zs
    to_end zs zero = let e : length zs - 0 ≡ length zs = omega arith in rw e (all_of zs)
    to_end [] (suc j) = none (0 - suc j)
    to_end (z ∷ zs) (suc j) = let e : suc (length zs) - suc j ≡ length zs - j = omega arith in rw e (to_end zs j)
