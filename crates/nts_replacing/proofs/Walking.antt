-- What the walk of a replacer under binders still has to do, and what it has found so far.
use Rattle.std.proofs.Common.{◌≡◌, ℕ, zero, suc, ◌+◌, ◌-◌, ◌*◌, ◌<◌, ◌≤◌, List, [], ◌∷◌, ◌++◌, length, map, take, drop, Option, Some, Bool, true, false, cond, refl, sym, ap, subst, ◌∙◌, arith, rules, append_assoc, length-append, add-one}
use Rattle.std.proofs.lemmas.List.{append-nil, length-map, take-map, drop-map}
use Rattle.std.proofs.Math.Seq.{take-append_seam, drop-append_seam}
use Rattle.nts_store.specs.nts_model.specs.declared.labels.TyHead.TheVariants as ty
use Rattle.nts_store.specs.nts_model.specs.declared.labels.ListHead.TheVariants as list
use Rattle.nts_store.specs.nts_model.specs.declared.labels.Label.{Label}
use Rattle.nts_store.specs.nts_model.specs.declared.labels.Label.TheVariants as label
use Rattle.nts_store.specs.nts_model.specs.Terms.Trees.{Tree, empty, more, node, size, kind_of, children, row_length, row_at, binders, IsRow, Shape, in_order, each, shape, HavePlaces, AllFit, Meets}
use Rattle.nts_store.specs.nts_model.specs.Terms.Trees.{Place as TreePlace}
use Rattle.nts_store.specs.declared.nodes.NodeId.{NodeId}
use Rattle.nts_store.specs.Growth.{tree_at, trees_at, IsIn, AllIn, Extends}
use Rattle.nts_store.specs.Kept.{map-kept}
use Rattle.nts_replacing.specs.Replacement.{IsFormedNode}
use Rattle.nts_store.proofs.Growing.{IsIn-extended, AllIn-extended, AllIn-push}
use Rattle.nts_replacing.proofs.Replacing.{map-push, row, row-trees, IsRow-Meets, AllIn-take, AllIn-drop, MayBuild, row_drop}
use Rattle.nts_replacing.specs.declared.under.Place.{Place}
use Rattle.nts_replacing.specs.declared.under.Task.{Task}
use Rattle.nts_replacing.specs.declared.under.Task.TheVariants as task
use Rattle.nts_replacing.specs.contracts.under.PlacePartialEq.TheImpl as place_eq
use Rattle.nts_replacing.specs.Under.{GoesInside, Job, enter, build, job, jobs, place_of, IsTaskAt, AreTasksFrom, AreTasksUnder, entered, building}

pub same_place : (p q : Place) → place_eq.ghosts.eq p q ≡ true → p ≡ q
same_place p q h = search rules

pub binders_small : (l : Label) → binders l ≤ 1
binders_small (label.Ty ty.FnPtr) = omega arith
binders_small (label.List list.Binder) = omega arith
binders_small l = omega arith

-- tasks by their trees

pub jobs-push : (ts : List Tree) (xs : List Task) (x : Task) → jobs ts (xs ++ x ∷ []) ≡ jobs ts xs ++ job ts x ∷ []
jobs-push ts [] x = refl
jobs-push ts (y ∷ xs) x = ap (λ js. job ts y ∷ js) (jobs-push ts xs x)

deeper : {ts : List Tree} {i j : ℕ} {x : Task} → IsTaskAt ts i x → i ≤ j → IsTaskAt ts j x
deeper {ts} {i} {j} {x} h l = record { within = h.within; depth = omega (arith, h.depth, l) }

tasks-push : (ts : List Tree) (i : ℕ) (xs : List Task) (x : Task) → AreTasksFrom ts i xs → IsTaskAt ts (i + length xs) x → AreTasksFrom ts i (xs ++ x ∷ [])
tasks-push ts i [] x h k = (deeper k (omega arith), tt)
tasks-push ts i (y ∷ xs) x h k = (h.0, tasks-push ts (i + 1) xs x h.1 (deeper k (omega arith)))

tasks-front : (ts : List Tree) (i : ℕ) (xs : List Task) (x : Task) → AreTasksFrom ts i (xs ++ x ∷ []) → AreTasksFrom ts i xs × IsTaskAt ts (i + length xs) x
tasks-front ts i [] x h = (tt, deeper h.0 (omega arith))
tasks-front ts i (y ∷ xs) x h =
    let r = tasks-front ts (i + 1) xs x h.1 in ((h.0, r.0), deeper r.1 (omega arith))

pub AreTasksUnder-push : (ts : List Tree) (xs : List Task) (x : Task) → AreTasksUnder ts xs → IsTaskAt ts (length xs) x → AreTasksUnder ts (xs ++ x ∷ [])
AreTasksUnder-push ts xs x h k = tasks-push ts 0 xs x h (deeper k (omega arith))

pub AreTasksUnder-front : (ts : List Tree) (xs : List Task) (x : Task) → AreTasksUnder ts (xs ++ x ∷ []) → AreTasksUnder ts xs × IsTaskAt ts (length xs) x
AreTasksUnder-front ts xs x h = let r = tasks-front ts 0 xs x h in (r.0, deeper r.1 (omega arith))

tasks-extended : {a b : List Tree} → Extends a b → (i : ℕ) (xs : List Task) → AreTasksFrom a i xs → AreTasksFrom b i xs
tasks-extended e i [] h = tt
tasks-extended e i (x ∷ xs) h =
    (record { within = IsIn-extended e (place_of x).node h.0.within; depth = h.0.depth }, tasks-extended e (i + 1) xs h.1)

pub AreTasksUnder-extended : {a b : List Tree} → Extends a b → (xs : List Task) → AreTasksUnder a xs → AreTasksUnder b xs
AreTasksUnder-extended e xs h = tasks-extended e 0 xs h

jobs-kept : {a b : List Tree} → Extends a b → (i : ℕ) (xs : List Task) → AreTasksFrom a i xs → jobs b xs ≡ jobs a xs
jobs-kept e i [] h = refl
jobs-kept e i (task.Enter p ∷ xs) h = cc (e.kept p.node h.0.within, jobs-kept e (i + 1) xs h.1)
jobs-kept e i (task.Build p l n ∷ xs) h = cc (e.kept p.node h.0.within, jobs-kept e (i + 1) xs h.1)

pub jobs-extended : {a b : List Tree} → Extends a b → (xs : List Task) → AreTasksUnder a xs → jobs b xs ≡ jobs a xs
jobs-extended e xs h = jobs-kept e 0 xs h

-- the tasks of a node

row_drop-all : (r : Tree) → IsRow r → row_drop (row_length r) r ≡ empty
row_drop-all empty h = refl
row_drop-all (more a b) h = rw add-one (row_drop-all b h)
row_drop-all (node l c) h = absurd h

entered-at : (d i : ℕ) (r : Tree) → i < row_length r → entered d (row_drop i r) ≡ entered d (row_drop (i + 1) r) ++ enter d (row_at r i) ∷ []
entered-at d i empty h = absurd (omega arith)
entered-at d zero (more a b) h = refl
entered-at d (suc i) (more a b) h =
    let e : suc i + 1 ≡ suc (i + 1) = omega arith in
    rw e (entered-at d i b (omega arith))
entered-at d i (node l c) h = absurd (omega arith)

-- the children of a node, under d binders, are pushed from place i on
pub record PushedFrom (ts : List Tree) (d : ℕ) (xs ys : List Task) (u : Tree) (i : ℕ) : Type 0 where
  pub fits : i ≤ row_length (children u)
  pub deep : d ≤ length ys
  pub tasks : AreTasksUnder ts ys
  pub are : jobs ts ys ≡ jobs ts xs ++ entered d (row_drop i (children u))

pub pushed_start : (ts : List Tree) (d : ℕ) (xs : List Task) (u : Tree) (n : ℕ) → AreTasksUnder ts xs → d ≤ length xs → n ≡ row_length (children u) → IsRow (children u) → PushedFrom ts d xs xs u n
pushed_start ts d xs u n h b e r =
    let none : row_drop n (children u) ≡ empty = rw e (row_drop-all (children u) r) in
    record { fits = omega (arith, e); deep = b; tasks = h; are = rw none (sym (append-nil (jobs ts xs))) }

pub pushed_step : (ts : List Tree) (d : ℕ) (xs ys zs : List Task) (u : Tree) (i j : ℕ) (c : NodeId) → PushedFrom ts d xs ys u i → j + 1 ≡ i → IsIn ts c → tree_at ts c ≡ row_at (children u) j → zs ≡ ys ++ task.Enter (record { node = c; depth = d }) ∷ [] → PushedFrom ts d xs zs u j
pushed_step ts d xs ys zs u i j c p e w q is =
    let x = task.Enter (record { node = c; depth = d }) in
    let at = entered-at d j (children u) (omega (arith, p.fits)) in
    let old : jobs ts ys ≡ jobs ts xs ++ entered d (row_drop (j + 1) (children u)) = rw e p.are in
    record {
      fits = omega (arith, p.fits);
      deep = omega (arith, p.deep, ap length is, length-append ys (x ∷ []));
      tasks = rw is (AreTasksUnder-push ts ys x p.tasks (record { within = w; depth = p.deep }));
      are = rw (is, at, jobs-push ts ys x, old, q) (append_assoc (jobs ts xs) (entered d (row_drop (j + 1) (children u))) (enter d (row_at (children u) j) ∷ []));
    }

building_is : (d : ℕ) (u : Tree) (l : Label) (n e : ℕ) → u ≡ node l (children u) → n ≡ row_length (children u) → e ≡ d + binders l → building d u ≡ build d u l n ∷ entered e (children u)
building_is d empty l n e q r w = cc
building_is d (more a b) l n e q r w = cc
building_is d (node m c) l n e q r w = let same : m ≡ l = cc in rw w (cc (same, r))

pub pushed_all : (ts : List Tree) (xs ys zs : List Task) (p : Place) (l : Label) (n i e : ℕ) → PushedFrom ts e ys zs (tree_at ts p.node) i → i ≡ 0 → ys ≡ xs ++ task.Build p l n ∷ [] → tree_at ts p.node ≡ node l (children (tree_at ts p.node)) → n ≡ row_length (children (tree_at ts p.node)) → e ≡ p.depth + binders l → jobs ts zs ≡ jobs ts xs ++ building p.depth (tree_at ts p.node)
pushed_all ts xs ys zs p l n i e h z is q r w =
    let u = tree_at ts p.node in
    let all : jobs ts zs ≡ jobs ts ys ++ entered e (children u) = rw z at h.are in
    let old : jobs ts ys ≡ jobs ts xs ++ build p.depth u l n ∷ [] = rw is (jobs-push ts xs (task.Build p l n)) in
    let what : building p.depth u ≡ build p.depth u l n ∷ entered e (children u) = building_is p.depth u l n e q r w in
    rw (all, old, what) (append_assoc (jobs ts xs) (build p.depth u l n ∷ []) (entered e (children u)))

-- the laws of a replacer whose image is f and which covers C
pub record AreLaws (C : ℕ → Tree → Type 0) (f : ℕ → Tree → Tree) : Type 0 where
  pub of_empty : (d : ℕ) → f d empty ≡ empty
  pub of_more : (d : ℕ) (a b : Tree) → f d (more a b) ≡ more (f d a) (f d b)
  pub covers : (d : ℕ) (a b : Tree) → C d (more a b) → C d a × C d b
  pub kind : (d : ℕ) (t : Tree) → C d t → kind_of (f d t) ≡ kind_of t

module _ (C : ℕ → Tree → Type 0) (f : ℕ → Tree → Tree) where
  -- the trees that are found after a job, those found before it first
  abbrev pub done : Job → List Tree → List Tree
  done (enter d t) rs = rs ++ f d t ∷ []
  done (build d y l n) rs = take (length rs - n) rs ++ node l (row (drop (length rs - n) rs)) ∷ []

  abbrev pub run : List Job → List Tree → List Tree
  run [] rs = rs
  run (x ∷ xs) rs = done x (run xs rs)

  abbrev pub IsReady : Job → List Tree → Type 0
  IsReady (enter d t) rs = C d t
  IsReady (build d y l n) rs =
      Meets (shape l) (row (drop (length rs - n) rs)) × (node l (row (drop (length rs - n) rs)) ≡ f d y)

  abbrev pub AreReady : List Job → List Tree → Type 0
  AreReady [] rs = Unit {0}
  AreReady (x ∷ xs) rs = AreReady xs rs × IsReady x (run xs rs)

  abbrev pub weight : Job → ℕ
  weight (enter d t) = 2 * size (f d t) + 1
  weight (build d y l n) = 1

  abbrev pub weights : List Job → ℕ
  weights [] = 0
  weights (x ∷ xs) = weight x + weights xs

  run-append : (xs ys : List Job) (rs : List Tree) → run (xs ++ ys) rs ≡ run xs (run ys rs)
  run-append [] ys rs = refl
  run-append (x ∷ xs) ys rs = ap (done x) (run-append xs ys rs)

  AreReady-split : (xs ys : List Job) (rs : List Tree) → AreReady (xs ++ ys) rs → AreReady ys rs × AreReady xs (run ys rs)
  AreReady-split [] ys rs h = (h, tt)
  AreReady-split (x ∷ xs) ys rs h =
      let r = AreReady-split xs ys rs h.0 in (r.0, (r.1, subst (λ (z : List Tree). IsReady x z) (run-append xs ys rs) h.1))

  AreReady-append : (xs ys : List Job) (rs : List Tree) → AreReady ys rs → AreReady xs (run ys rs) → AreReady (xs ++ ys) rs
  AreReady-append [] ys rs h k = h
  AreReady-append (x ∷ xs) ys rs h k = (AreReady-append xs ys rs h k.0, subst (λ (z : List Tree). IsReady x z) (sym (run-append xs ys rs)) k.1)

  pub weights-append : (xs ys : List Job) → weights (xs ++ ys) ≡ weights xs + weights ys
  weights-append [] ys = omega arith
  weights-append (x ∷ xs) ys = omega (arith, weights-append xs ys)

  -- the images of a row, as a list
  abbrev images : ℕ → Tree → List Tree
  images d empty = []
  images d (more a b) = f d a ∷ images d b
  images d (node l c) = []

  length-images : (d : ℕ) (c : Tree) → length (images d c) ≡ row_length c
  length-images d empty = refl
  length-images d (more a b) = omega (arith, length-images d b)
  length-images d (node l c) = refl

  run-entered : (d : ℕ) (c : Tree) (rs : List Tree) → run (entered d c) rs ≡ rs ++ images d c
  run-entered d empty rs = sym (append-nil rs)
  run-entered d (more a b) rs =
      run-append (entered d b) (enter d a ∷ []) rs ∙ run-entered d b (rs ++ f d a ∷ []) ∙ append_assoc rs (f d a ∷ []) (images d b)
  run-entered d (node l c) rs = sym (append-nil rs)

  done-build : (d : ℕ) (y : Tree) (l : Label) (n : ℕ) (rs xs : List Tree) → length xs ≡ n → done (build d y l n) (rs ++ xs) ≡ rs ++ node l (row xs) ∷ []
  done-build d y l n rs xs e =
      let k : length (rs ++ xs) - n ≡ length rs = omega (arith, length-append rs xs) in
      rw (k, take-append_seam, drop-append_seam) refl

  ready-build : (d : ℕ) (y : Tree) (l : Label) (n : ℕ) (rs xs : List Tree) → length xs ≡ n → Meets (shape l) (row xs) → node l (row xs) ≡ f d y → IsReady (build d y l n) (rs ++ xs)
  ready-build d y l n rs xs e h q =
      let k : length (rs ++ xs) - n ≡ length rs = omega (arith, length-append rs xs) in
      rw (k, drop-append_seam) (h, q)

  module _ (laws : AreLaws C f) where
    row-images : (d : ℕ) (c : Tree) → IsRow c → row (images d c) ≡ f d c
    row-images d empty h = sym (laws.of_empty d)
    row-images d (more a b) h = rw (row-images d b h) (sym (laws.of_more d a b))
    row-images d (node l c) h = absurd h

    AreReady-entered : (d : ℕ) (c : Tree) (rs : List Tree) → C d c → AreReady (entered d c) rs
    AreReady-entered d empty rs h = tt
    AreReady-entered d (more a b) rs h =
        let w = laws.covers d a b h in
        AreReady-append (entered d b) (enter d a ∷ []) rs (tt, w.0) (AreReady-entered d b (rs ++ f d a ∷ []) w.1)
    AreReady-entered d (node l c) rs h = tt

    HavePlaces-image : (d : ℕ) (ps : List TreePlace) (c : Tree) → HavePlaces ps c → C d c → HavePlaces ps (f d c)
    HavePlaces-image d [] empty h k = rw (laws.of_empty d) tt
    HavePlaces-image d [] (more a b) h k = absurd h
    HavePlaces-image d [] (node l c) h k = absurd h
    HavePlaces-image d (p ∷ ps) empty h k = absurd h
    HavePlaces-image d (p ∷ ps) (more a b) h k =
        let w = laws.covers d a b k in
        rw (laws.of_more d a b, laws.kind d a w.0) (h.0, HavePlaces-image d ps b h.1 w.1)
    HavePlaces-image d (p ∷ ps) (node l c) h k = absurd h

    AllFit-image : (d : ℕ) (p : TreePlace) (c : Tree) → AllFit p c → C d c → AllFit p (f d c)
    AllFit-image d p empty h k = rw (laws.of_empty d) tt
    AllFit-image d p (more a b) h k =
        let w = laws.covers d a b k in
        rw (laws.of_more d a b, laws.kind d a w.0) (h.0, AllFit-image d p b h.1 w.1)
    AllFit-image d p (node l c) h k = absurd h

    Meets-image : (d : ℕ) (s : Shape) (c : Tree) → Meets s c → C d c → Meets s (f d c)
    Meets-image d (in_order ps) c h k = HavePlaces-image d ps c h k
    Meets-image d (each p) c h k = AllFit-image d p c h k

    run-building : (d : ℕ) (t : Tree) (rs : List Tree) → GoesInside C f d t → IsFormedNode t → run (building d t) rs ≡ rs ++ f d t ∷ []
    run-building d empty rs h k = absurd h
    run-building d (more a b) rs h k = absurd h
    run-building d (node l c) rs h k =
        let r = row-images (d + binders l) c (IsRow-Meets (shape l) c k) in
        rw (run-entered (d + binders l) c rs, done-build d (node l c) l (row_length c) rs (images (d + binders l) c) (length-images (d + binders l) c), r, h.0) refl

    AreReady-building : (d : ℕ) (t : Tree) (rs : List Tree) → GoesInside C f d t → IsFormedNode t → AreReady (building d t) rs
    AreReady-building d empty rs h k = tt
    AreReady-building d (more a b) rs h k = tt
    AreReady-building d (node l c) rs h k =
        let r = row-images (d + binders l) c (IsRow-Meets (shape l) c k) in
        let meets : Meets (shape l) (row (images (d + binders l) c)) = rw r (Meets-image (d + binders l) (shape l) c k h.1) in
        (AreReady-entered (d + binders l) c rs h.1, rw (run-entered (d + binders l) c rs) (ready-build d (node l c) l (row_length c) rs (images (d + binders l) c) (length-images (d + binders l) c) meets (ap (node l) r ∙ sym h.0)))

    weights-entered : (d : ℕ) (c : Tree) → IsRow c → weights (entered d c) ≤ 2 * size (f d c)
    weights-entered d empty h = omega arith
    weights-entered d (more a b) h =
        let e : size (f d (more a b)) ≡ size (f d a) + size (f d b) + 1 = ap size (laws.of_more d a b) in
        omega (arith, weights-append (entered d b) (enter d a ∷ []), weights-entered d b h)
    weights-entered d (node l c) h = absurd h

    pub weights-building : (d : ℕ) (t : Tree) → GoesInside C f d t → IsFormedNode t → weights (building d t) < weight (enter d t)
    weights-building d empty h k = absurd h
    weights-building d (more a b) h k = absurd h
    weights-building d (node l c) h k =
        let e : size (f d (node l c)) ≡ size (f (d + binders l) c) + 1 = ap size h.0 in
        omega (arith, weights-entered (d + binders l) c (IsRow-Meets (shape l) c k))

-- doing the tasks, over the terms found so far, ends with the tree x alone
pub record EndsWith (C : ℕ → Tree → Type 0) (f : ℕ → Tree → Tree) (ts : List Tree) (xs : List Task) (found : List NodeId) (x : Tree) : Type 0 where
  pub tasks : AreTasksUnder ts xs
  pub found_in : AllIn ts found
  pub are_ready : AreReady C f (jobs ts xs) (map (tree_at ts) found)
  pub ends : run C f (jobs ts xs) (map (tree_at ts) found) ≡ x ∷ []

-- the task that is next
pub record MayEnter (C : ℕ → Tree → Type 0) (ts : List Tree) (xs : List Task) (p : Place) : Type 0 where
  pub within : IsIn ts p.node
  pub depth : p.depth ≤ length xs
  pub tasks : AreTasksUnder ts xs
  pub covers : C p.depth (tree_at ts p.node)

-- what was found for a term under so many binders
pub record IsKnown (f : ℕ → Tree → Tree) (ts : List Tree) (p : Place) (r : NodeId) : Type 0 where
  pub node_in : IsIn ts p.node
  pub within : IsIn ts r
  pub tree : tree_at ts r ≡ f p.depth (tree_at ts p.node)

abbrev pub Known : (ℕ → Tree → Tree) → List Tree → (Place → Option NodeId) → Type 0
Known f ts known = (p : Place) (r : NodeId) → known p ≡ Some r → IsKnown f ts p r

pub known_later : (f : ℕ → Tree → Tree) (a b : List Tree) (known : Place → Option NodeId) → Extends a b → Known f a known → Known f b known
known_later f a b known e h =
    λ p r q.
    let old = h p r q in
    record {
      node_in = IsIn-extended e p.node old.node_in;
      within = IsIn-extended e r old.within;
      tree = e.kept r old.within ∙ old.tree ∙ ap (f p.depth) (sym (e.kept p.node old.node_in));
    }

known_cases : (f : ℕ → Tree → Tree) (ts : List Tree) (old : Place → Option NodeId) (n k : Place) (d r : NodeId) → Known f ts old → IsKnown f ts n d → (b : Bool) → place_eq.ghosts.eq n k ≡ b → cond b (Some d) (old k) ≡ Some r → IsKnown f ts k r
known_cases f ts old n k d r h w true e q =
    let same : n ≡ k = same_place n k e in
    let is : d ≡ r = cc in
    subst (λ (z : NodeId). IsKnown f ts k z) is (subst (λ (m : Place). IsKnown f ts m d) same w)
known_cases f ts old n k d r h w false e q = h k r q

pub known_more : (f : ℕ → Tree → Tree) (ts : List Tree) (old new : Place → Option NodeId) (n : Place) (d : NodeId) → Known f ts old → IsKnown f ts n d → ((k : Place) → new k ≡ cond (place_eq.ghosts.eq n k) (Some d) (old k)) → Known f ts new
known_more f ts old new n d h w is = λ k r q. known_cases f ts old n k d r h w (place_eq.ghosts.eq n k) refl (sym (is k) ∙ q)

module _ (C : ℕ → Tree → Type 0) (f : ℕ → Tree → Tree) where
  split_jobs : (ts : List Tree) (xs ys : List Task) (k : Task) → ys ≡ xs ++ k ∷ [] → jobs ts ys ≡ jobs ts xs ++ job ts k ∷ []
  split_jobs ts xs ys k e = rw e (jobs-push ts xs k)

  -- the last task with its place taken by others that give the same
  ends_after : (a b : List Tree) (xs ys zs : List Task) (k : Task) (ws : List Job) (rs qs : List NodeId) (x : Tree) → EndsWith C f a ys rs x → ys ≡ xs ++ k ∷ [] → Extends a b → jobs b zs ≡ jobs b xs ++ ws → run C f ws (map (tree_at b) qs) ≡ done C f (job a k) (map (tree_at a) rs) → AreReady C f ws (map (tree_at b) qs) → AreTasksUnder b zs → AllIn b qs → EndsWith C f b zs qs x
  ends_after a b xs ys zs k ws rs qs x p e up is same ready tasks found =
      let old = split_jobs a xs ys k e in
      let front = AreTasksUnder-front a xs k (rw e at p.tasks) in
      let new : jobs b zs ≡ jobs a xs ++ ws = is ∙ ap (λ js. js ++ ws) (jobs-extended up xs front.0) in
      let was = AreReady-split C f (jobs a xs) (job a k ∷ []) (map (tree_at a) rs) (rw old at p.are_ready) in
      let end : run C f (jobs a xs) (done C f (job a k) (map (tree_at a) rs)) ≡ x ∷ [] = sym (run-append C f (jobs a xs) (job a k ∷ []) (map (tree_at a) rs)) ∙ ap (λ js. run C f js (map (tree_at a) rs)) (sym old) ∙ p.ends in
      record {
        tasks = tasks;
        found_in = found;
        are_ready = subst (λ (js : List Job). AreReady C f js (map (tree_at b) qs)) (sym new) (AreReady-append C f (jobs a xs) ws (map (tree_at b) qs) ready (subst (λ (r : List Tree). AreReady C f (jobs a xs) r) (sym same) was.1));
        ends = ap (λ js. run C f js (map (tree_at b) qs)) new ∙ run-append C f (jobs a xs) ws (map (tree_at b) qs) ∙ ap (run C f (jobs a xs)) same ∙ end;
      }

  pub may_enter : (a : List Tree) (xs ys : List Task) (p : Place) (rs : List NodeId) (x : Tree) → EndsWith C f a ys rs x → ys ≡ xs ++ task.Enter p ∷ [] → MayEnter C a xs p
  may_enter a xs ys p rs x h e =
      let old = split_jobs a xs ys (task.Enter p) e in
      let was = AreReady-split C f (jobs a xs) (enter p.depth (tree_at a p.node) ∷ []) (map (tree_at a) rs) (rw old at h.are_ready) in
      let front = AreTasksUnder-front a xs (task.Enter p) (rw e at h.tasks) in
      record { within = front.1.within; depth = front.1.depth; tasks = front.0; covers = was.0.1 }

  pub may_build : (a : List Tree) (xs ys : List Task) (o : Place) (l : Label) (n i : ℕ) (rs cs : List NodeId) (x : Tree) → EndsWith C f a ys rs x → ys ≡ xs ++ task.Build o l n ∷ [] → i ≡ length rs - n → cs ≡ drop i rs → MayBuild a l cs
  may_build a xs ys o l n i rs cs x p e q is =
      let old = split_jobs a xs ys (task.Build o l n) e in
      let was = AreReady-split C f (jobs a xs) (build o.depth (tree_at a o.node) l n ∷ []) (map (tree_at a) rs) (rw old at p.are_ready) in
      let len : length (map (tree_at a) rs) - n ≡ i = rw (length-map rs (tree_at a)) (sym q) in
      let now : IsReady C f (build o.depth (tree_at a o.node) l n) (map (tree_at a) rs) = was.0.1 in
      let meets : Meets (shape l) (row (drop i (map (tree_at a) rs))) = rw len at now.0 in
      let same : row (drop i (map (tree_at a) rs)) ≡ trees_at a (drop i rs) = ap row (drop-map (tree_at a) i rs) ∙ row-trees a (drop i rs) in
      record { within = rw is (AllIn-drop a i rs p.found_in); formed = rw (is, ← same) meets }

  -- a node that is made is what stands for its term
  pub may_keep : (a : List Tree) (xs ys : List Task) (o : Place) (l : Label) (n i : ℕ) (rs cs : List NodeId) (x : Tree) → EndsWith C f a ys rs x → ys ≡ xs ++ task.Build o l n ∷ [] → i ≡ length rs - n → cs ≡ drop i rs → IsIn a o.node × (node l (trees_at a cs) ≡ f o.depth (tree_at a o.node))
  may_keep a xs ys o l n i rs cs x p e q is =
      let old = split_jobs a xs ys (task.Build o l n) e in
      let was = AreReady-split C f (jobs a xs) (build o.depth (tree_at a o.node) l n ∷ []) (map (tree_at a) rs) (rw old at p.are_ready) in
      let now : IsReady C f (build o.depth (tree_at a o.node) l n) (map (tree_at a) rs) = was.0.1 in
      let len : length (map (tree_at a) rs) - n ≡ i = rw (length-map rs (tree_at a)) (sym q) in
      let made : node l (row (drop i (map (tree_at a) rs))) ≡ f o.depth (tree_at a o.node) = rw len at now.1 in
      let same : row (drop i (map (tree_at a) rs)) ≡ trees_at a (drop i rs) = ap row (drop-map (tree_at a) i rs) ∙ row-trees a (drop i rs) in
      ((AreTasksUnder-front a xs (task.Build o l n) (rw e at p.tasks)).1.within, ap (node l) (ap (trees_at a) is ∙ sym same) ∙ made)

  pub ends_done : (a b : List Tree) (xs ys : List Task) (t : Place) (r : NodeId) (rs qs : List NodeId) (x : Tree) → EndsWith C f a ys rs x → ys ≡ xs ++ task.Enter t ∷ [] → Extends a b → IsIn b r → tree_at b r ≡ f t.depth (tree_at a t.node) → qs ≡ rs ++ r ∷ [] → EndsWith C f b xs qs x
  ends_done a b xs ys t r rs qs x p e up w s is =
      let front = AreTasksUnder-front a xs (task.Enter t) (rw e at p.tasks) in
      let same : map (tree_at b) qs ≡ map (tree_at a) rs ++ f t.depth (tree_at a t.node) ∷ [] = rw (is, map-push b rs r, map-kept a b rs p.found_in up, s) refl in
      ends_after a b xs ys xs (task.Enter t) [] rs qs x p e up (sym (append-nil (jobs b xs))) same tt (AreTasksUnder-extended up xs front.0) (rw is (AllIn-push b rs r (AllIn-extended up rs p.found_in) w))

  pub ends_known : (a : List Tree) (xs ys : List Task) (t : Place) (r : NodeId) (rs qs : List NodeId) (x : Tree) → EndsWith C f a ys rs x → ys ≡ xs ++ task.Enter t ∷ [] → IsKnown f a t r → qs ≡ rs ++ r ∷ [] → EndsWith C f a xs qs x
  ends_known a xs ys t r rs qs x p e k is =
      ends_done a a xs ys t r rs qs x p e (record { longer = omega arith; kept = λ c h. refl }) k.within k.tree is

  pub ends_build : (a b : List Tree) (xs ys : List Task) (o : Place) (l : Label) (n i : ℕ) (d : NodeId) (rs cs qs : List NodeId) (x : Tree) → EndsWith C f a ys rs x → ys ≡ xs ++ task.Build o l n ∷ [] → Extends a b → i ≡ length rs - n → cs ≡ drop i rs → IsIn b d → tree_at b d ≡ node l (trees_at a cs) → qs ≡ take i rs ++ d ∷ [] → EndsWith C f b xs qs x
  ends_build a b xs ys o l n i d rs cs qs x p e up q is within made new =
      let front = AreTasksUnder-front a xs (task.Build o l n) (rw e at p.tasks) in
      let kept = AllIn-take a i rs p.found_in in
      let len : length (map (tree_at a) rs) - n ≡ i = rw (length-map rs (tree_at a)) (sym q) in
      let last : row (drop i (map (tree_at a) rs)) ≡ trees_at a cs = ap row (drop-map (tree_at a) i rs) ∙ row-trees a (drop i rs) ∙ ap (trees_at a) (sym is) in
      let same : map (tree_at b) qs ≡ done C f (build o.depth (tree_at a o.node) l n) (map (tree_at a) rs) =
      rw (new, map-push b (take i rs) d, map-kept a b (take i rs) kept up, made, len, last, take-map (tree_at a) i rs) refl in
      ends_after a b xs ys xs (task.Build o l n) [] rs qs x p e up (sym (append-nil (jobs b xs))) same tt (AreTasksUnder-extended up xs front.0) (rw new (AllIn-push b (take i rs) d (AllIn-extended up (take i rs) kept) within))

  pub ends_down : (laws : AreLaws C f) (a b : List Tree) (xs ys zs : List Task) (t : Place) (rs : List NodeId) (x : Tree) → EndsWith C f a ys rs x → ys ≡ xs ++ task.Enter t ∷ [] → Extends a b → GoesInside C f t.depth (tree_at a t.node) → IsFormedNode (tree_at b t.node) → AreTasksUnder b zs → jobs b zs ≡ jobs b xs ++ building t.depth (tree_at b t.node) → EndsWith C f b zs rs x
  ends_down laws a b xs ys zs t rs x p e up s formed tasks is =
      let front = AreTasksUnder-front a xs (task.Enter t) (rw e at p.tasks) in
      let stays : tree_at b t.node ≡ tree_at a t.node = up.kept t.node front.1.within in
      let u = tree_at a t.node in
      let f_u : IsFormedNode u = rw stays at formed in
      let js : jobs b zs ≡ jobs b xs ++ building t.depth u = rw stays at is in
      let found = map-kept a b rs p.found_in up in
      let same : run C f (building t.depth u) (map (tree_at b) rs) ≡ map (tree_at a) rs ++ f t.depth u ∷ [] = rw found (run-building C f laws t.depth u (map (tree_at a) rs) s f_u) in
      ends_after a b xs ys zs (task.Enter t) (building t.depth u) rs rs x p e up js same (AreReady-building C f laws t.depth u (map (tree_at b) rs) s f_u) tasks (AllIn-extended up rs p.found_in)

  -- each turn there is less to do

  weights_split : (a : List Tree) (xs ys : List Task) (k : Task) → ys ≡ xs ++ k ∷ [] → weights C f (jobs a ys) ≡ weights C f (jobs a xs) + weight C f (job a k)
  weights_split a xs ys k e =
      omega (arith, ap (weights C f) (split_jobs a xs ys k e), weights-append C f (jobs a xs) (job a k ∷ []))

  weights_extended : (a b : List Tree) (xs ys : List Task) (k : Task) → AreTasksUnder a ys → ys ≡ xs ++ k ∷ [] → Extends a b → weights C f (jobs b xs) ≡ weights C f (jobs a xs)
  weights_extended a b xs ys k h e up =
      let front = AreTasksUnder-front a xs k (rw e at h) in
      ap (weights C f) (jobs-extended up xs front.0)

  pub less_after : (a b : List Tree) (xs ys : List Task) (k : Task) (rs : List NodeId) (x : Tree) → EndsWith C f a ys rs x → ys ≡ xs ++ k ∷ [] → Extends a b → weights C f (jobs b xs) < weights C f (jobs a ys)
  less_after a b xs ys (task.Enter t) rs x p e up =
      omega (arith, weights_split a xs ys (task.Enter t) e, weights_extended a b xs ys (task.Enter t) p.tasks e up)
  less_after a b xs ys (task.Build o l n) rs x p e up =
      omega (arith, weights_split a xs ys (task.Build o l n) e, weights_extended a b xs ys (task.Build o l n) p.tasks e up)

  pub less_known : (a : List Tree) (xs ys : List Task) (k : Task) (rs : List NodeId) (x : Tree) → EndsWith C f a ys rs x → ys ≡ xs ++ k ∷ [] → weights C f (jobs a xs) < weights C f (jobs a ys)
  less_known a xs ys k rs x p e = less_after a a xs ys k rs x p e (record { longer = omega arith; kept = λ c h. refl })

  pub less_down : (laws : AreLaws C f) (a b : List Tree) (xs ys zs : List Task) (t : Place) (rs : List NodeId) (x : Tree) → EndsWith C f a ys rs x → ys ≡ xs ++ task.Enter t ∷ [] → Extends a b → GoesInside C f t.depth (tree_at a t.node) → IsFormedNode (tree_at b t.node) → jobs b zs ≡ jobs b xs ++ building t.depth (tree_at b t.node) → weights C f (jobs b zs) < weights C f (jobs a ys)
  less_down laws a b xs ys zs t rs x p e up s formed is =
      let front = AreTasksUnder-front a xs (task.Enter t) (rw e at p.tasks) in
      let stays : tree_at b t.node ≡ tree_at a t.node = up.kept t.node front.1.within in
      let u = tree_at a t.node in
      let less = weights-building C f laws t.depth u s (rw stays at formed) in
      let js : jobs b zs ≡ jobs b xs ++ building t.depth u = rw stays at is in
      let sum : weights C f (jobs b zs) ≡ weights C f (jobs b xs) + weights C f (building t.depth u) = ap (weights C f) js ∙ weights-append C f (jobs b xs) (building t.depth u) in
      omega (arith, sum, less, weights_split a xs ys (task.Enter t) e, weights_extended a b xs ys (task.Enter t) p.tasks e up)
