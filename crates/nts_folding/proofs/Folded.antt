-- What a walk by a folder still has to do, and what it has found so far.
use Rattle.std.proofs.Common.{◌≡◌, ◌⊎◌, inl, inr, Bool, true, not, Result, Ok, Err, IfOk, IfErr, ℕ, ◌+◌, ◌-◌, ◌<◌, List, [], ◌∷◌, ◌++◌, length, map, take, drop, get_or, Option, Some, None, refl, sym, ap, subst, ◌∙◌, arith, append_assoc, length-append}
use Rattle.std.specs.Option.{is_some}
use Rattle.std.specs.Result.{IsErrAnd}
use Rattle.std.proofs.lemmas.List.{append-nil, length-map, take-map, drop-map}
use Rattle.std.proofs.Math.Seq.{take-append_seam, drop-append_seam}
use Rattle.nts_model.specs.declared.labels.ClauseHead.{ClauseHead}
use Rattle.nts_model.specs.declared.labels.Label.{Label}
use Rattle.nts_model.specs.declared.labels.Label.TheVariants as label
use Rattle.nts_model.specs.declared.labels.ListHead.TheVariants as list
use Rattle.nts_model.specs.Terms.Trees.{Tree, empty, more, node, children, NodeKind, kind_of, kind_of_label, row_length, row_push, IsRow, Place, Shape, in_order, each, shape, HavePlaces, AllFit, Meets}
use Rattle.nts_model.specs.Derivations.Related.{pair}
use Rattle.nts_terms.specs.nts_store.specs.declared.nodes.NodeId.{NodeId}
use Rattle.nts_replacing.specs.declared.replacement.Task.{Task}
use Rattle.nts_replacing.specs.declared.replacement.Task.TheVariants as task
use Rattle.nts_terms.specs.nts_store.specs.Growth.{tree_at, trees_at, IsIn, AllIn, Extends}
use Rattle.nts_terms.specs.Handles.{Holds}
use Rattle.nts_terms.specs.nts_store.specs.Kept.{map-kept}
use Rattle.nts_replacing.specs.Replacement.{Job, enter, build, job, jobs, TaskIn, TasksIn, entered, building, IsFormedNode}
use Rattle.nts_folding.specs.Folding.{MayAnswer, asked_as, GoesInto, ComesBack, Walk, done, next, answer, down, Starts, CannotMake, Stops, anywhere, early, late, at_term, at_binder, inside, at_made, statement_about, tree_of_binder, tree_of_list}
use Rattle.nts_terms.specs.nts_store.proofs.Growing.{Extends-trans, AllIn-extended, AllIn-push}
use Rattle.nts_replacing.proofs.Replacing.{AreLaws, jobs-push, TasksIn-front, TasksIn-extended, jobs-extended, map-push, row, row-trees, IsRow-Meets, AllIn-take, AllIn-drop, MayBuild, weight, weights, weights-append, weights-building, weights_split, weights_extended}
use Rattle.nts_terms.proofs.Moved.{KeepsRest-trans}
use Rattle.nts_terms.specs.Rest.{Grows}
use Rattle.nts_terms.specs.declared.cx.Cx.{Cx}

-- the measure: how much of the trees is still to be walked
abbrev pub Anything : Tree → Type 0
Anything t = Unit {0}

abbrev pub itself : Tree → Tree
itself t = t

itself_keeps : AreLaws Anything itself
itself_keeps = record { of_empty = refl; of_more = λ a b. refl; covers = λ a b h. (tt, tt); kind = λ t h. refl }

abbrev pub work : List Job → ℕ
work js = weights Anything itself js

-- a node of the store is asked for as its label says
asked_formed : (l : Label) (c : Tree) → Meets (shape l) c → asked_as (node l c) ≡ kind_of_label l
asked_formed (label.Leaf l) c h = refl
asked_formed (label.Bound s i n) c h = refl
asked_formed (label.Ty t) c h = refl
asked_formed (label.Const t) c h = refl
asked_formed (label.Clause t) c h = refl
asked_formed (label.Predicate t) c h = refl
asked_formed (label.List list.Args) c h = refl
asked_formed (label.List list.Env) c h = refl
asked_formed (label.List list.Sorts) c h = refl
asked_formed (label.List (list.Sort s)) c h = refl
asked_formed (label.List list.Binder) empty h = refl
asked_formed (label.List list.Binder) (node l c) h = refl
asked_formed (label.List list.Binder) (more v empty) h = refl
asked_formed (label.List list.Binder) (more v (node l c)) h = refl
asked_formed (label.List list.Binder) (more v (more empty d)) h = refl
asked_formed (label.List list.Binder) (more v (more (node l c) d)) h = refl
asked_formed (label.List list.Binder) (more v (more (more a b) d)) h = cc (h.1.0)

-- what holds of an error that a call hands on
pub on_same_err : {T E : Type 0} (P : E → Type 0) (r : Result T E) (e : E) → IsErrAnd r (λ x. x ≡ e) → P e → IfErr r P
on_same_err P (Ok x) e h p = tt
on_same_err P (Err x) e h p = rw h p

pub none_of : {T : Type 0} (o : Option T) (b : Bool) → is_some o ≡ not b → b ≡ true → o ≡ None
none_of None b h e = refl
none_of (Some x) b h e = cc (h, e)

pub on_err : {T E : Type 0} (P Q : E → Type 0) (r : Result T E) → IsErrAnd r Q → ((e : E) → Q e → P e) → IfErr r P
on_err P Q (Ok x) h f = tt
on_err P Q (Err x) h f = f x h

-- what grew, and grew again, grew
pub grown : {a b c : Cx} → Grows a b → Grows b c → Grows a c
grown h k = record { extends = Extends-trans h.extends k.extends; rest = KeepsRest-trans h.rest k.rest }

-- a walk that ends at an error: there is no term, and all the rest holds
pub ends_early : {T E : Type 0} (G K M : Type 0) (P Q : T → Type 0) (F X : E → Type 0) (r : Result T E) → IsErrAnd r X → G → K → M → IfErr r F
    → record { grows : G; ready : K; keeps : M; within : IfOk r P; walk : IfOk r Q; err : IfErr r F }
ends_early G K M P Q F X (Ok x) h grows ready keeps err = absurd h
ends_early G K M P Q F X (Err e) h grows ready keeps err = record { grows = grows; ready = ready; keeps = keeps; within = tt; walk = tt; err = err }

-- .. and a value of which a part cannot be folded
pub folds_in_vain : {T E : Type 0} (G K M : Type 0) (P Q : T → Type 0) (F X : E → Type 0) (r : Result T E) → IsErrAnd r X → G → K → M → IfErr r F
    → record { grows : G; ready : K; keeps : M; holds : IfOk r P; walk : IfOk r Q; err : IfErr r F }
folds_in_vain G K M P Q F X (Ok x) h grows ready keeps err = absurd h
folds_in_vain G K M P Q F X (Err e) h grows ready keeps err = record { grows = grows; ready = ready; keeps = keeps; holds = tt; walk = tt; err = err }

-- .. and a hook that fails
pub asks_in_vain : {T E : Type 0} (G K M : Type 0) (P Q A : T → Type 0) (F : E → Type 0) (r : Result T E) (e : E) → IsErrAnd r (λ x. x ≡ e) → G → K → M → F e
    → record { grows : G; ready : K; keeps : M; within : IfOk r P; kind : IfOk r Q; asks : IfOk r A; err : IfErr r F }
asks_in_vain G K M P Q A F (Ok x) e h grows ready keeps fails = absurd h
asks_in_vain G K M P Q A F (Err x) e h grows ready keeps fails = record { grows = grows; ready = ready; keeps = keeps; within = tt; kind = tt; asks = tt; err = subst F (sym h) fails }

module _ {S : Type 0} (A : S → Tree → Option Tree → S → Type 0) (E L : S → S → Type 0) (R : S → Tree → Tree → S → Type 0) where
  -- a job leads from a state and the trees found before it to others
  abbrev pub Does : Job → S → List Tree → S → List Tree → Type 0
  Does (enter x) s rs t qs = (u : Tree) × Walk A E L R s x u t × (qs ≡ rs ++ u ∷ [])
  Does (build y l n) s rs t qs =
      (u : Tree) × ComesBack L R l s (row (drop (length rs - n) rs)) u t × (qs ≡ take (length rs - n) rs ++ u ∷ [])

  -- so do several, of which the last is done first
  abbrev pub Runs : List Job → S → List Tree → S → List Tree → Type 0
  Runs [] s rs t qs = (t ≡ s) × (qs ≡ rs)
  Runs (x ∷ xs) s rs t qs = (m : S) × (ms : List Tree) × Runs xs s rs m ms × Does x m ms t qs

  after_none : (x : Job) (s m t : S) (rs ms qs : List Tree) → m ≡ s → ms ≡ rs → Does x m ms t qs → Does x s rs t qs
  after_none x s m t rs ms qs e q h =
      subst (λ (z : S). Does x z rs t qs) e (subst (λ (zs : List Tree). Does x m zs t qs) q h)

  does_one : (x : Job) (s t : S) (rs qs : List Tree) → Runs (x ∷ []) s rs t qs → Does x s rs t qs
  does_one x s t rs qs h = after_none x s h.0 t rs h.1 qs h.2.0 h.2.1 h.3

  runs_one : (x : Job) (s t : S) (rs qs : List Tree) → Does x s rs t qs → Runs (x ∷ []) s rs t qs
  runs_one x s t rs qs h = (s, rs, (refl, refl), h)

  runs_more : (xs ys : List Job) (s m t : S) (rs ms qs : List Tree) → Runs ys s rs m ms → Runs xs m ms t qs → Runs (xs ++ ys) s rs t qs
  runs_more [] ys s m t rs ms qs h k =
      subst (λ (z : S). Runs ys s rs z qs) (sym k.0) (subst (λ (zs : List Tree). Runs ys s rs m zs) (sym k.1) h)
  runs_more (x ∷ xs) ys s m t rs ms qs h k =
      (k.0, k.1, runs_more xs ys s m k.0 rs ms k.1 h k.2, k.3)

  record Between (xs ys : List Job) (s : S) (rs : List Tree) (t : S) (qs : List Tree) : Type 0 where
    pub state : S
    pub found : List Tree
    pub first : Runs ys s rs state found
    pub rest : Runs xs state found t qs

  runs_split : (xs ys : List Job) (s t : S) (rs qs : List Tree) → Runs (xs ++ ys) s rs t qs → Between xs ys s rs t qs
  runs_split [] ys s t rs qs h = record { state = t; found = qs; first = h; rest = (refl, refl) }
  runs_split (x ∷ xs) ys s t rs qs h =
      let b = runs_split xs ys s h.0 rs h.1 h.2 in
      record { state = b.state; found = b.found; first = b.first; rest = (h.0, h.1, b.rest, h.3) }

  -- each node that is to be made will have the children of its label
  abbrev pub IsReady : Job → List Tree → Type 0
  IsReady (enter x) rs = Unit {0}
  IsReady (build y l n) rs = Meets (shape l) (row (drop (length rs - n) rs))

  abbrev pub AreReady : List Job → S → List Tree → Type 0
  AreReady [] s rs = Unit {0}
  AreReady (x ∷ xs) s rs = AreReady xs s rs × ((m : S) (ms : List Tree) → Runs xs s rs m ms → IsReady x ms)

  ready_first : (xs ys : List Job) (s : S) (rs : List Tree) → AreReady (xs ++ ys) s rs → AreReady ys s rs
  ready_first [] ys s rs h = h
  ready_first (x ∷ xs) ys s rs h = ready_first xs ys s rs h.0

  ready_rest : (xs ys : List Job) (s m : S) (rs ms : List Tree) → AreReady (xs ++ ys) s rs → Runs ys s rs m ms → AreReady xs m ms
  ready_rest [] ys s m rs ms h k = tt
  ready_rest (x ∷ xs) ys s m rs ms h k =
      (ready_rest xs ys s m rs ms h.0 k, λ n ns q. h.1 n ns (runs_more xs ys s m n rs ms ns k q))

  ready_more : (xs ys : List Job) (s : S) (rs : List Tree) → AreReady ys s rs → ((m : S) (ms : List Tree) → Runs ys s rs m ms → AreReady xs m ms) → AreReady (xs ++ ys) s rs
  ready_more [] ys s rs h k = h
  ready_more (x ∷ xs) ys s rs h k = (
    ready_more xs ys s rs h (λ m ms r. (k m ms r).0),
    λ n ns q. let b = runs_split xs ys s n rs ns q in (k b.state b.found b.first).1 n ns b.rest,
  )

  -- a walk keeps kinds, and so the shape of a list of children

  pub kind-walk : (x u : Tree) (s t : S) → Walk A E L R s x u t → kind_of u ≡ kind_of x
  kind-walk empty u s t done = refl
  kind-walk (more a b) u s t (next p q) = refl
  kind-walk (node l c) u s t (answer a) = a.kind
  kind-walk (node l c) u s t (down g w b) = b.kind

  -- one after the other
  pub walk_pair : {r s t : S} {a b c d e f : Tree} → e ≡ b → f ≡ c → Walk A E L R r a c s → Walk A E L R s e d t → Walk A E L R r (pair a b) (pair f d) t
  walk_pair e q v w = rw (← e, q) (next v (next w done))

  pub walk_statement : {h : ClauseHead} {r s : S} {a c : Tree} → Walk A E L R r a c s → Walk A E L R r (statement_about h a) (statement_about h c) s
  walk_statement {r = r} {s = s} w =
      down (record { asked = r; asks = (refl, refl); enters_binder = refl }) (next w done)
      (record { left = s; leaves_binder = refl; hands = (refl, refl); kind = refl })

  -- a binder's sorts and value, between the steps of the binder
  pub walk_binder : {q r s t u : S} {a b c d e f : Tree} → e ≡ b → f ≡ c → E q r → Walk A E L R r a c s → Walk A E L R s e d t → L t u → Walk A E L R q (tree_of_binder a b) (tree_of_binder f d) u
  walk_binder {q = q} {r = r} {t = t} {u = u} {a = a} {c = c} {d = d} {e = e} same kept enters v w leaves =
      let into : GoesInto A E (label.List list.Binder) q (tree_of_binder a e) r = record { asked = q; asks = (refl, refl); enters_binder = enters } in
      let back : ComesBack L R (label.List list.Binder) t (pair c (more d empty)) (tree_of_binder c d) u = record { left = u; leaves_binder = leaves; hands = (refl, refl); kind = refl } in
      rw (← same, kept) (down into (next v (next (next w done) done)) back)

  pub walk_some : {r s : S} {a c : Tree} → Walk A E L R r a c s → Walk A E L R r (more a empty) (more c empty) s
  walk_some w = next w done

  walk_last : {r s t : S} {a b d : Tree} → Walk A E L R r empty d s → Walk A E L R s a b t → Walk A E L R r (more a empty) (row_push d b) t
  walk_last done q = next q done

  walk_then : {r s t : S} {b d x y z : Tree} → ((e : Tree) (m : S) → Walk A E L R m y e s → Walk A E L R m z (row_push e b) t) → Walk A E L R r (more x y) d s → Walk A E L R r (more x z) (row_push d b) t
  walk_then k (next p q) = next p (k _ _ q)

  -- one more of a list
  pub walk_push : (xs : List Tree) (r s t : S) (a b d : Tree) → Walk A E L R r (tree_of_list xs) d s → Walk A E L R s a b t → Walk A E L R r (tree_of_list (xs ++ a ∷ [])) (row_push d b) t
  walk_push [] r s t a b d w q = walk_last w q
  walk_push (x ∷ xs) r s t a b d w q = walk_then (λ e m v. walk_push xs m s t a b e v q) w

  pub holds_walk : (p : Place) (a b : List Tree) (n m : NodeId) (s t : S) → Holds p a n → IsIn b m → Walk A E L R s (tree_at a n) (tree_at b m) t → Holds p b m
  holds_walk p a b n m s t h i w = record { within = i; fits = rw (kind-walk (tree_at a n) (tree_at b m) s t w) h.fits }

  places_walk : (ps : List Place) (c d : Tree) (s t : S) → HavePlaces ps c → Walk A E L R s c d t → HavePlaces ps d
  places_walk [] empty d s t h done = tt
  places_walk [] (more a b) d s t h w = absurd h
  places_walk [] (node l c) d s t h w = absurd h
  places_walk (p ∷ ps) empty d s t h w = absurd h
  places_walk (p ∷ ps) (more a b) d s t h (next v w) =
      (rw (kind-walk a _ _ _ v) h.0, places_walk ps b _ _ _ h.1 w)
  places_walk (p ∷ ps) (node l c) d s t h w = absurd h

  fit_walk : (p : Place) (c d : Tree) (s t : S) → AllFit p c → Walk A E L R s c d t → AllFit p d
  fit_walk p empty d s t h done = tt
  fit_walk p (more a b) d s t h (next v w) = (rw (kind-walk a _ _ _ v) h.0, fit_walk p b _ _ _ h.1 w)
  fit_walk p (node l c) d s t h w = absurd h

  meets_walk : (m : Shape) (c d : Tree) (s t : S) → Meets m c → Walk A E L R s c d t → Meets m d
  meets_walk (in_order ps) c d s t h w = places_walk ps c d s t h w
  meets_walk (each p) c d s t h w = fit_walk p c d s t h w

  -- the children of a node

  record RowFolded (c : Tree) (s : S) (rs : List Tree) (t : S) (qs : List Tree) : Type 0 where
    pub trees : List Tree
    pub walk : Walk A E L R s c (row trees) t
    pub count : length trees ≡ row_length c
    pub found : qs ≡ rs ++ trees

  runs_entered : (c : Tree) (s t : S) (rs qs : List Tree) → IsRow c → Runs (entered c) s rs t qs → RowFolded c s rs t qs
  runs_entered empty s t rs qs r h =
      record {
        trees = [];
        walk = subst (λ (z : S). Walk A E L R s empty empty z) (sym h.0) done;
        count = refl;
        found = h.1 ∙ sym (append-nil rs);
      }
  runs_entered (more a b) s t rs qs r h =
      let f = runs_split (entered b) (enter a ∷ []) s t rs qs h in
      let one = does_one (enter a) s f.state rs f.found f.first in
      let k = runs_entered b f.state t f.found qs r f.rest in
      record {
        trees = one.0 ∷ k.trees;
        walk = next one.1 k.walk;
        count = omega (arith, k.count);
        found = k.found ∙ ap (λ zs. zs ++ k.trees) one.2 ∙ append_assoc rs (one.0 ∷ []) k.trees;
      }
  runs_entered (node l c) s t rs qs r h = absurd r

  ready_entered : (c : Tree) (s : S) (rs : List Tree) → AreReady (entered c) s rs
  ready_entered empty s rs = tt
  ready_entered (more a b) s rs =
      ready_more (entered b) (enter a ∷ []) s rs (tt, λ m ms q. tt) (λ m ms q. ready_entered b m ms)
  ready_entered (node l c) s rs = tt

  last_of : (rs us : List Tree) (n : ℕ) → length us ≡ n → drop (length (rs ++ us) - n) (rs ++ us) ≡ us
  last_of rs us n e =
      let k : length (rs ++ us) - n ≡ length rs = omega (arith, length-append rs us) in
      rw (k, drop-append_seam) refl

  front_of : (rs us : List Tree) (n : ℕ) → length us ≡ n → take (length (rs ++ us) - n) (rs ++ us) ≡ rs
  front_of rs us n e =
      let k : length (rs ++ us) - n ≡ length rs = omega (arith, length-append rs us) in
      rw (k, take-append_seam) refl

  done_build : (l : Label) (n : ℕ) (s t : S) (rs us qs : List Tree) → length us ≡ n → Does (build empty l n) s (rs ++ us) t qs → (u : Tree) × ComesBack L R l s (row us) u t × (qs ≡ rs ++ u ∷ [])
  done_build l n s t rs us qs e h =
      let u = h.0 in
      (u, subst (λ (zs : List Tree). ComesBack L R l s (row zs) u t) (last_of rs us n e) h.1, h.2 ∙ ap (λ zs. zs ++ u ∷ []) (front_of rs us n e))

  runs_building : (l : Label) (c : Tree) (s m t : S) (rs qs : List Tree) → IsRow c → GoesInto A E l s (node l c) m → Runs (build (node l c) l (row_length c) ∷ entered c) m rs t qs → Does (enter (node l c)) s rs t qs
  runs_building l c s m t rs qs r g h =
      let k = runs_entered c m h.0 rs h.1 r h.2 in
      let last : Does (build empty l (row_length c)) h.0 (rs ++ k.trees) t qs = subst (λ (zs : List Tree). Does (build empty l (row_length c)) h.0 zs t qs) k.found h.3 in
      let b = done_build l (row_length c) h.0 t rs k.trees qs k.count last in
      (b.0, down g k.walk b.1, b.2)

  ready_building : (l : Label) (c : Tree) (s : S) (rs : List Tree) → Meets (shape l) c → AreReady (build (node l c) l (row_length c) ∷ entered c) s rs
  ready_building l c s rs h = (
    ready_entered c s rs,
    λ m ms q.
        let k = runs_entered c s m rs ms (IsRow-Meets (shape l) c h) q in
        let meets : Meets (shape l) (row k.trees) = meets_walk (shape l) c (row k.trees) s m h k.walk in
        let last : IsReady (build empty l (row_length c)) (rs ++ k.trees) = subst (λ (zs : List Tree). Meets (shape l) (row zs)) (sym (last_of rs k.trees (row_length c) k.count)) meets in
        subst (λ (zs : List Tree). IsReady (build empty l (row_length c)) zs) (sym k.found) last,
  )

  answered : (x u : Tree) (s t : S) → Starts A E s x (Some u) t → Walk A E L R s x u t
  answered empty u s t h = absurd h
  answered (more a b) u s t h = absurd h
  answered (node l c) u s t h = answer h

  runs_into : (x : Tree) (s m t : S) (rs qs : List Tree) → Starts A E s x None m → IsFormedNode x → Runs (building x) m rs t qs → Does (enter x) s rs t qs
  runs_into empty s m t rs qs h k r = absurd h
  runs_into (more a b) s m t rs qs h k r = absurd h
  runs_into (node l c) s m t rs qs h k r = runs_building l c s m t rs qs (IsRow-Meets (shape l) c k) h r

  ready_into : (x : Tree) (s m : S) (rs : List Tree) → Starts A E s x None m → IsFormedNode x → AreReady (building x) m rs
  ready_into empty s m rs h k = tt
  ready_into (more a b) s m rs h k = tt
  ready_into (node l c) s m rs h k = ready_building l c m rs k

  work_into : (x : Tree) (s m : S) → Starts A E s x None m → IsFormedNode x → work (building x) < weight Anything itself (enter x)
  work_into empty s m h k = absurd h
  work_into (more a b) s m h k = absurd h
  work_into (node l c) s m h k = weights-building Anything itself itself_keeps (node l c) (node l c) (refl, tt) k

  module _ {X : Type 0} (N : S → Option Tree → X → Type 0) where
    -- a node at which the walk stops, before its children are folded

    pub stops_term : (x : Tree) (l : Label) (s : S) (e : X) → x ≡ node l (children x) → N s (Some x) e → Stops A E L R N s x e
    stops_term empty l s e q h = cc
    stops_term (more a b) l s e q h = cc
    stops_term (node k c) l s e q h = at_term h

    pub stops_enter : (x : Tree) (l : Label) (s t : S) (e : X) → x ≡ node l (children x) → Meets (shape l) (children x) → MayAnswer A (kind_of_label l) s x None t → N t None e → Stops A E L R N s x e
    stops_enter empty l s t e q f m h = cc
    stops_enter (more a b) l s t e q f m h = cc
    stops_enter (node k c) l s t e q f m h =
        let same : l ≡ k = cc in
        let asks = subst (λ (z : NodeKind). MayAnswer A z s (node k c) None t) (sym (asked_formed l c f)) m in
        at_binder (subst (λ (z : Label). MayAnswer A (asked_as (node z c)) s (node k c) None t) same asks) h

    -- what holds of each error at which a hook may fail holds of those at which a walk stops
    pub stops_only : (P : X → Type 0) → ((s : S) (o : Option Tree) (e : X) → N s o e → P e) → (s : S) (x : Tree) (e : X) → Stops A E L R N s x e → P e
    stops_only P k s x e (anywhere h) = k s None e (h s)
    stops_only P k s (more a b) e (early h) = stops_only P k s a e h
    stops_only P k s (more a b) e (late w h) = stops_only P k _ b e h
    stops_only P k s (node l c) e (at_term h) = k s _ e h
    stops_only P k s (node l c) e (at_binder a h) = k _ None e h
    stops_only P k s (node l c) e (inside g h) = stops_only P k _ c e h
    stops_only P k s (node l c) e (at_made g w h) = k h.left _ e h.refused

    -- a part of a value at which the walk stops

    pub stops_first : {r : S} {a b : Tree} {e : X} → Stops A E L R N r a e → Stops A E L R N r (pair a b) e
    stops_first h = early h

    pub stops_second : {r s : S} {a b c d : Tree} {e : X} → d ≡ b → Walk A E L R r a c s → Stops A E L R N s d e → Stops A E L R N r (pair a b) e
    stops_second q w h = rw (← q) (late w (early h))

    pub stops_statement : {h : ClauseHead} {r : S} {a : Tree} {e : X} → Stops A E L R N r a e → Stops A E L R N r (statement_about h a) e
    stops_statement {r = r} h = inside (record { asked = r; asks = (refl, refl); enters_binder = refl }) (early h)

    pub stops_entering : {r : S} {a b : Tree} {e : X} → N r None e → Stops A E L R N r (tree_of_binder a b) e
    stops_entering {r = r} h = at_binder {t = r} (refl, refl) h

    pub stops_sorts : {q r : S} {a b : Tree} {e : X} → E q r → Stops A E L R N r a e → Stops A E L R N q (tree_of_binder a b) e
    stops_sorts {q = q} enters h = inside (record { asked = q; asks = (refl, refl); enters_binder = enters }) (early h)

    pub stops_value : {q r s : S} {a b c d : Tree} {e : X} → d ≡ b → E q r → Walk A E L R r a c s → Stops A E L R N s d e → Stops A E L R N q (tree_of_binder a b) e
    stops_value {q = q} {r = r} {a = a} {d = d} same enters w h =
        let into : GoesInto A E (label.List list.Binder) q (tree_of_binder a d) r = record { asked = q; asks = (refl, refl); enters_binder = enters } in
        rw (← same) (inside into (late w (early (early h))))

    pub stops_some : {r : S} {a : Tree} {e : X} → Stops A E L R N r a e → Stops A E L R N r (more a empty) e
    stops_some h = early h

    stops_last : {r s : S} {a b d : Tree} {e : X} → Walk A E L R r empty d s → Stops A E L R N s a e → Stops A E L R N r (more a b) e
    stops_last done h = early h

    stops_then : {r s : S} {d x y z : Tree} {e : X} → ((c : Tree) (m : S) → Walk A E L R m y c s → Stops A E L R N m z e) → Walk A E L R r (more x y) d s → Stops A E L R N r (more x z) e
    stops_then k (next p q) = late p (k _ _ q)

    -- one of a list, after others
    pub stops_at : (xs ys : List Tree) (r s : S) (a d : Tree) (e : X) → Walk A E L R r (tree_of_list xs) d s → Stops A E L R N s a e → Stops A E L R N r (tree_of_list (xs ++ a ∷ ys)) e
    stops_at [] ys r s a d e w h = stops_last w h
    stops_at (x ∷ xs) ys r s a d e w h = stops_then (λ c m v. stops_at xs ys m s a c e v h) w

    -- the walk stops within a job
    abbrev pub Halts : Job → S → List Tree → X → Type 0
    Halts (enter x) s rs e = Stops A E L R N s x e
    Halts (build y l n) s rs e = CannotMake L N l s (row (drop (length rs - n) rs)) e

    -- it does so within one of several, of which the last is done first
    abbrev pub HaltsIn : List Job → S → List Tree → X → Type 0
    HaltsIn [] s rs e = ⊥
    HaltsIn (x ∷ xs) s rs e = HaltsIn xs s rs e ⊎ ((m : S) × (ms : List Tree) × Runs xs s rs m ms × Halts x m ms e)

    halts_first : (xs ys : List Job) (s : S) (rs : List Tree) (e : X) → HaltsIn ys s rs e → HaltsIn (xs ++ ys) s rs e
    halts_first [] ys s rs e h = h
    halts_first (x ∷ xs) ys s rs e h = inl (halts_first xs ys s rs e h)

    halts_rest : (xs ys : List Job) (s m : S) (rs ms : List Tree) (e : X) → Runs ys s rs m ms → HaltsIn xs m ms e → HaltsIn (xs ++ ys) s rs e
    halts_rest [] ys s m rs ms e r h = absurd h
    halts_rest (x ∷ xs) ys s m rs ms e r (inl h) = inl (halts_rest xs ys s m rs ms e r h)
    halts_rest (x ∷ xs) ys s m rs ms e r (inr h) = inr (h.0, h.1, runs_more xs ys s m h.0 rs ms h.1 r h.2, h.3)

    record HaltsLater (xs ys : List Job) (s : S) (rs : List Tree) (e : X) : Type 0 where
      pub state : S
      pub found : List Tree
      pub first : Runs ys s rs state found
      pub rest : HaltsIn xs state found e

    halts_before : (x : Job) (xs ys : List Job) (s : S) (rs : List Tree) (e : X) → HaltsIn ys s rs e ⊎ HaltsLater xs ys s rs e → HaltsIn ys s rs e ⊎ HaltsLater (x ∷ xs) ys s rs e
    halts_before x xs ys s rs e (inl h) = inl h
    halts_before x xs ys s rs e (inr k) = inr (record { state = k.state; found = k.found; first = k.first; rest = inl k.rest })

    halts_split : (xs ys : List Job) (s : S) (rs : List Tree) (e : X) → HaltsIn (xs ++ ys) s rs e → HaltsIn ys s rs e ⊎ HaltsLater xs ys s rs e
    halts_split [] ys s rs e h = inl h
    halts_split (x ∷ xs) ys s rs e (inl h) = halts_before x xs ys s rs e (halts_split xs ys s rs e h)
    halts_split (x ∷ xs) ys s rs e (inr h) =
        let b = runs_split xs ys s h.0 rs h.1 h.2 in
        inr (record { state = b.state; found = b.found; first = b.first; rest = inr (h.0, h.1, b.rest, h.3) })

    halts_one : (x : Job) (s : S) (rs : List Tree) (e : X) → Halts x s rs e → HaltsIn (x ∷ []) s rs e
    halts_one x s rs e h = inr (s, rs, (refl, refl), h)

    one_halts : (x : Job) (s : S) (rs : List Tree) (e : X) → HaltsIn (x ∷ []) s rs e → Halts x s rs e
    one_halts x s rs e (inl h) = absurd h
    one_halts x s rs e (inr h) =
        subst (λ (z : S). Halts x z rs e) h.2.0 (subst (λ (zs : List Tree). Halts x h.0 zs e) h.2.1 h.3)

    stops_row : (a b : Tree) (s : S) (rs : List Tree) (e : X) → ((m : S) (ms : List Tree) → HaltsIn (entered b) m ms e → Stops A E L R N m b e) → HaltsIn (enter a ∷ []) s rs e ⊎ HaltsLater (entered b) (enter a ∷ []) s rs e → Stops A E L R N s (more a b) e
    stops_row a b s rs e k (inl h) = early (one_halts (enter a) s rs e h)
    stops_row a b s rs e k (inr h) =
        let one = does_one (enter a) s h.state rs h.found h.first in
        late one.1 (k h.state h.found h.rest)

    halts_entered : (c : Tree) (s : S) (rs : List Tree) (e : X) → IsRow c → HaltsIn (entered c) s rs e → Stops A E L R N s c e
    halts_entered empty s rs e r h = absurd h
    halts_entered (more a b) s rs e r h =
        stops_row a b s rs e (λ m ms k. halts_entered b m ms e r k) (halts_split (entered b) (enter a ∷ []) s rs e h)
    halts_entered (node l c) s rs e r h = absurd r

    stops_made : (l : Label) (c d : Tree) (s m n : S) (e : X) → GoesInto A E l s (node l c) m → Walk A E L R m c d n → CannotMake L N l n d e → Stops A E L R N s (node l c) e
    stops_made l c d s m n e g w (inl h) = anywhere h
    stops_made l c d s m n e g w (inr h) = at_made g w h

    halts_building : (l : Label) (c : Tree) (s m : S) (rs : List Tree) (e : X) → IsRow c → GoesInto A E l s (node l c) m → HaltsIn (build (node l c) l (row_length c) ∷ entered c) m rs e → Stops A E L R N s (node l c) e
    halts_building l c s m rs e r g (inl h) = inside g (halts_entered c m rs e r h)
    halts_building l c s m rs e r g (inr h) =
        let k = runs_entered c m h.0 rs h.1 r h.2 in
        let so : CannotMake L N l h.0 (row (drop (length (rs ++ k.trees) - row_length c) (rs ++ k.trees))) e = subst (λ (zs : List Tree). CannotMake L N l h.0 (row (drop (length zs - row_length c) zs)) e) k.found h.3 in
        stops_made l c (row k.trees) s m h.0 e g k.walk (subst (λ (zs : List Tree). CannotMake L N l h.0 (row zs) e) (last_of rs k.trees (row_length c) k.count) so)

    halts_into : (x : Tree) (s m : S) (rs : List Tree) (e : X) → Starts A E s x None m → IsFormedNode x → HaltsIn (building x) m rs e → Stops A E L R N s x e
    halts_into empty s m rs e h k r = absurd h
    halts_into (more a b) s m rs e h k r = absurd h
    halts_into (node l c) s m rs e h k r = halts_building l c s m rs e (IsRow-Meets (shape l) c k) h r

    -- doing the tasks from the state s, over the terms found so far, ends the walk of x from the first state
    pub record EndsBy (first : S) (x : Tree) (ts : List Tree) (xs : List Task) (found : List NodeId) (s : S) : Type 0 where
      pub tasks_in : TasksIn ts xs
      pub found_in : AllIn ts found
      pub are_ready : AreReady (jobs ts xs) s (map (tree_at ts) found)
      pub ends : (t : S) (qs : List Tree) → Runs (jobs ts xs) s (map (tree_at ts) found) t qs → (y : Tree) × Walk A E L R first x y t × (qs ≡ y ∷ [])
      pub stops : (e : X) → HaltsIn (jobs ts xs) s (map (tree_at ts) found) e → Stops A E L R N first x e

    halts_after : (xs ws : List Job) (k : Job) (s t : S) (rs qs : List Tree) (e : X) → ((m : S) (ms : List Tree) → Runs ws t qs m ms → Does k s rs m ms) → (HaltsIn ws t qs e → Halts k s rs e) → HaltsIn ws t qs e ⊎ HaltsLater xs ws t qs e → HaltsIn (xs ++ k ∷ []) s rs e
    halts_after xs ws k s t rs qs e same halting (inl h) = halts_first xs (k ∷ []) s rs e (halts_one k s rs e (halting h))
    halts_after xs ws k s t rs qs e same halting (inr h) =
        halts_rest xs (k ∷ []) s h.state rs h.found e (runs_one k s h.state rs h.found (same h.state h.found h.first)) h.rest

    -- the walk stops where it does so within the last task
    pub stops_within : (first : S) (x : Tree) (a : List Tree) (xs ys : List Task) (k : Task) (rs : List NodeId) (s : S) (e : X) → EndsBy first x a ys rs s → ys ≡ xs ++ k ∷ [] → Halts (job a k) s (map (tree_at a) rs) e → Stops A E L R N first x e
    stops_within first x a xs ys k rs s e p q h =
        let was_found = map (tree_at a) rs in
        let old : jobs a ys ≡ jobs a xs ++ job a k ∷ [] = rw q (jobs-push a xs k) in
        p.stops e (subst (λ (js : List Job). HaltsIn js s was_found e) (sym old) (halts_first (jobs a xs) (job a k ∷ []) s was_found e (halts_one (job a k) s was_found e h)))

    -- the last task with its place taken by others that do the same
    ends_after : (first : S) (x : Tree) (a b : List Tree) (xs ys zs : List Task) (k : Task) (ws : List Job) (rs qs : List NodeId) (s t : S) → EndsBy first x a ys rs s → ys ≡ xs ++ k ∷ [] → Extends a b → jobs b zs ≡ jobs b xs ++ ws → ((m : S) (ms : List Tree) → Runs ws t (map (tree_at b) qs) m ms → Does (job a k) s (map (tree_at a) rs) m ms) → ((u : X) → HaltsIn ws t (map (tree_at b) qs) u → Halts (job a k) s (map (tree_at a) rs) u) → AreReady ws t (map (tree_at b) qs) → TasksIn b zs → AllIn b qs → EndsBy first x b zs qs t
    ends_after first x a b xs ys zs k ws rs qs s t p e up is same halting ready tasks found =
        let was_found = map (tree_at a) rs in
        let old : jobs a ys ≡ jobs a xs ++ job a k ∷ [] = rw e (jobs-push a xs k) in
        let front : TasksIn a xs × TaskIn a k = TasksIn-front a xs k (rw e at p.tasks_in) in
        let new : jobs b zs ≡ jobs a xs ++ ws = is ∙ ap (λ js. js ++ ws) (jobs-extended up xs front.0) in
        let was : AreReady (jobs a xs ++ job a k ∷ []) s was_found = subst (λ (js : List Job). AreReady js s was_found) old p.are_ready in
        record {
          tasks_in = tasks;
          found_in = found;
          are_ready = subst (λ (js : List Job). AreReady js t (map (tree_at b) qs)) (sym new)
              (ready_more (jobs a xs) ws t (map (tree_at b) qs) ready
              (λ m ms r. ready_rest (jobs a xs) (job a k ∷ []) s m was_found ms was (runs_one (job a k) s m was_found ms (same m ms r))));
          ends = λ u us r.
              let f = runs_split (jobs a xs) ws t u (map (tree_at b) qs) us (subst (λ (js : List Job). Runs js t (map (tree_at b) qs) u us) new r) in
              let one = runs_one (job a k) s f.state was_found f.found (same f.state f.found f.first) in
              let all = runs_more (jobs a xs) (job a k ∷ []) s f.state u was_found f.found us one f.rest in
              p.ends u us (subst (λ (js : List Job). Runs js s was_found u us) (sym old) all);
          stops = λ u r.
              let h = halts_split (jobs a xs) ws t (map (tree_at b) qs) u (subst (λ (js : List Job). HaltsIn js t (map (tree_at b) qs) u) new r) in
              p.stops u (subst (λ (js : List Job). HaltsIn js s was_found u) (sym old) (halts_after (jobs a xs) ws (job a k) s t was_found (map (tree_at b) qs) u same (halting u) h));
        }

    pub ends_answer : (first : S) (x : Tree) (a b : List Tree) (xs ys : List Task) (t r : NodeId) (rs qs : List NodeId) (s m : S) → EndsBy first x a ys rs s → ys ≡ xs ++ task.Enter t ∷ [] → Extends a b → IsIn b r → Starts A E s (tree_at a t) (Some (tree_at b r)) m → qs ≡ rs ++ r ∷ [] → EndsBy first x b xs qs m
    ends_answer first x a b xs ys t r rs qs s m p e up within h is =
        let front : TasksIn a xs × TaskIn a (task.Enter t) = TasksIn-front a xs (task.Enter t) (rw e at p.tasks_in) in
        let same : map (tree_at b) qs ≡ map (tree_at a) rs ++ tree_at b r ∷ [] = rw (is, map-push b rs r, map-kept a b rs p.found_in up) refl in
        let walk = answered (tree_at a t) (tree_at b r) s m h in
        ends_after first x a b xs ys xs (task.Enter t) [] rs qs s m p e up (sym (append-nil (jobs b xs)))
        (λ n ns w. (tree_at b r, subst (λ (z : S). Walk A E L R s (tree_at a t) (tree_at b r) z) (sym w.0) walk, w.1 ∙ same))
        (λ u w. absurd w)
        tt (TasksIn-extended up xs front.0) (rw is (AllIn-push b rs r (AllIn-extended up rs p.found_in) within))

    pub ends_down : (first : S) (x : Tree) (a b : List Tree) (xs ys zs : List Task) (t : NodeId) (rs : List NodeId) (s m : S) → EndsBy first x a ys rs s → ys ≡ xs ++ task.Enter t ∷ [] → Extends a b → Starts A E s (tree_at a t) None m → IsFormedNode (tree_at b t) → TasksIn b zs → jobs b zs ≡ jobs b xs ++ building (tree_at b t) → EndsBy first x b zs rs m
    ends_down first x a b xs ys zs t rs s m p e up h formed within is =
        let front : TasksIn a xs × TaskIn a (task.Enter t) = TasksIn-front a xs (task.Enter t) (rw e at p.tasks_in) in
        let kept = up.kept t front.1 in
        let node_formed : IsFormedNode (tree_at a t) = rw kept at formed in
        let now : jobs b zs ≡ jobs b xs ++ building (tree_at a t) = rw kept at is in
        let found = map-kept a b rs p.found_in up in
        ends_after first x a b xs ys zs (task.Enter t) (building (tree_at a t)) rs rs s m p e up now
        (λ n ns w. runs_into (tree_at a t) s m n (map (tree_at a) rs) ns h node_formed (subst (λ (us : List Tree). Runs (building (tree_at a t)) m us n ns) found w))
        (λ u w. halts_into (tree_at a t) s m (map (tree_at b) rs) u h node_formed w)
        (ready_into (tree_at a t) s m (map (tree_at b) rs) h node_formed) within (AllIn-extended up rs p.found_in)

    pub ends_build : (first : S) (x : Tree) (a b : List Tree) (xs ys : List Task) (o : NodeId) (l : Label) (n i : ℕ) (d : NodeId) (rs cs qs : List NodeId) (s m : S) → EndsBy first x a ys rs s → ys ≡ xs ++ task.Build o l n ∷ [] → Extends a b → i ≡ length rs - n → cs ≡ drop i rs → IsIn b d → ComesBack L R l s (trees_at a cs) (tree_at b d) m → qs ≡ take i rs ++ d ∷ [] → EndsBy first x b xs qs m
    ends_build first x a b xs ys o l n i d rs cs qs s m p e up q is within back new =
        let front : TasksIn a xs × TaskIn a (task.Build o l n) = TasksIn-front a xs (task.Build o l n) (rw e at p.tasks_in) in
        let kept = AllIn-take a i rs p.found_in in
        let len : length (map (tree_at a) rs) - n ≡ i = rw (length-map rs (tree_at a)) (sym q) in
        let last : row (drop i (map (tree_at a) rs)) ≡ trees_at a cs = ap row (drop-map (tree_at a) i rs) ∙ row-trees a (drop i rs) ∙ ap (trees_at a) (sym is) in
        let same : map (tree_at b) qs ≡ take i (map (tree_at a) rs) ++ tree_at b d ∷ [] = rw (new, map-push b (take i rs) d, map-kept a b (take i rs) kept up, take-map (tree_at a) i rs) refl in
        let comes : ComesBack L R l s (row (drop (length (map (tree_at a) rs) - n) (map (tree_at a) rs))) (tree_at b d) m = rw (len, last) back in
        let ends_so : map (tree_at b) qs ≡ take (length (map (tree_at a) rs) - n) (map (tree_at a) rs) ++ tree_at b d ∷ [] = rw len same in
        ends_after first x a b xs ys xs (task.Build o l n) [] rs qs s m p e up (sym (append-nil (jobs b xs)))
        (λ u us w. (tree_at b d, subst (λ (z : S). ComesBack L R l s (row (drop (length (map (tree_at a) rs) - n) (map (tree_at a) rs))) (tree_at b d) z) (sym w.0) comes, w.1 ∙ ends_so))
        (λ u w. absurd w)
        tt (TasksIn-extended up xs front.0) (rw new (AllIn-push b (take i rs) d (AllIn-extended up (take i rs) kept) within))

    pub may_enter : (first : S) (x : Tree) (a : List Tree) (xs ys : List Task) (t : NodeId) (rs : List NodeId) (s : S) → EndsBy first x a ys rs s → ys ≡ xs ++ task.Enter t ∷ [] → IsIn a t
    may_enter first x a xs ys t rs s p e = (TasksIn-front a xs (task.Enter t) (rw e at p.tasks_in)).1

    pub may_build : (first : S) (x : Tree) (a : List Tree) (xs ys : List Task) (o : NodeId) (l : Label) (n i : ℕ) (rs cs : List NodeId) (s : S) → EndsBy first x a ys rs s → ys ≡ xs ++ task.Build o l n ∷ [] → i ≡ length rs - n → cs ≡ drop i rs → MayBuild a l cs
    may_build first x a xs ys o l n i rs cs s p e q is =
        let was_found = map (tree_at a) rs in
        let old : jobs a ys ≡ jobs a xs ++ build (tree_at a o) l n ∷ [] = rw e (jobs-push a xs (task.Build o l n)) in
        let was = ready_first (jobs a xs) (build (tree_at a o) l n ∷ []) s was_found (subst (λ (js : List Job). AreReady js s was_found) old p.are_ready) in
        let now : Meets (shape l) (row (drop (length was_found - n) was_found)) = was.1 s was_found (refl, refl) in
        let len : length was_found - n ≡ i = rw (length-map rs (tree_at a)) (sym q) in
        let meets : Meets (shape l) (row (drop i was_found)) = rw len at now in
        let same : row (drop i was_found) ≡ trees_at a (drop i rs) = ap row (drop-map (tree_at a) i rs) ∙ row-trees a (drop i rs) in
        record { within = rw is (AllIn-drop a i rs p.found_in); formed = rw (is, ← same) meets }

    pub stops_building : (first : S) (x : Tree) (a : List Tree) (xs ys : List Task) (o : NodeId) (l : Label) (n i : ℕ) (rs cs : List NodeId) (s : S) (e : X) → EndsBy first x a ys rs s → ys ≡ xs ++ task.Build o l n ∷ [] → i ≡ length rs - n → cs ≡ drop i rs → CannotMake L N l s (trees_at a cs) e → Stops A E L R N first x e
    stops_building first x a xs ys o l n i rs cs s e p q at is h =
        let len : length (map (tree_at a) rs) - n ≡ i = rw (length-map rs (tree_at a)) (sym at) in
        let last : row (drop i (map (tree_at a) rs)) ≡ trees_at a cs = ap row (drop-map (tree_at a) i rs) ∙ row-trees a (drop i rs) ∙ ap (trees_at a) (sym is) in
        let halts : CannotMake L N l s (row (drop (length (map (tree_at a) rs) - n) (map (tree_at a) rs))) e = rw (len, last) h in
        stops_within first x a xs ys (task.Build o l n) rs s e p q halts

    pub record IsWalked (first : S) (x : Tree) (ts : List Tree) (found : List NodeId) (s : S) : Type 0 where
      pub some : 0 < length found
      pub within : (c : NodeId) → get_or found 0 c ≡ c → IsIn ts c
      pub walk : (c : NodeId) → get_or found 0 c ≡ c → Walk A E L R first x (tree_at ts c) s

    pub ends_all : (first : S) (x : Tree) (ts : List Tree) (xs : List Task) (found : List NodeId) (s : S) → EndsBy first x ts xs found s → xs ≡ [] → IsWalked first x ts found s
    ends_all first x ts xs found s p e =
        let none : jobs ts xs ≡ [] = rw e refl in
        let end = p.ends s (map (tree_at ts) found) (subst (λ (js : List Job). Runs js s (map (tree_at ts) found) s (map (tree_at ts) found)) (sym none) (refl, refl)) in
        one_found first x ts found s end.0 p.found_in end.1 end.2
      where
        one_found : (first : S) (x : Tree) (ts : List Tree) (found : List NodeId) (s : S) (y : Tree) → AllIn ts found → Walk A E L R first x y s → map (tree_at ts) found ≡ y ∷ [] → IsWalked first x ts found s
        one_found first x ts [] s y h w q = cc
        one_found first x ts (c ∷ cs) s y h w q =
            let is : tree_at ts c ≡ y = cc in
            record {
              some = omega arith;
              within = λ d k. rw (← k) h.0;
              walk = λ d k. subst (λ (z : Tree). Walk A E L R first x z s) (sym (ap (tree_at ts) (sym k) ∙ is)) w;
            }

    -- each turn there is less to do

    pub less_after : (first : S) (x : Tree) (a b : List Tree) (xs ys : List Task) (k : Task) (rs : List NodeId) (s : S) → EndsBy first x a ys rs s → ys ≡ xs ++ k ∷ [] → Extends a b → work (jobs b xs) < work (jobs a ys)
    less_after first x a b xs ys (task.Enter t) rs s p e up =
        omega (arith, weights_split Anything itself a xs ys (task.Enter t) e, weights_extended Anything itself a b xs ys (task.Enter t) p.tasks_in e up)
    less_after first x a b xs ys (task.Build o l n) rs s p e up =
        omega (arith, weights_split Anything itself a xs ys (task.Build o l n) e, weights_extended Anything itself a b xs ys (task.Build o l n) p.tasks_in e up)

    pub less_down : (first : S) (x : Tree) (a b : List Tree) (xs ys zs : List Task) (t : NodeId) (rs : List NodeId) (s m : S) → EndsBy first x a ys rs s → ys ≡ xs ++ task.Enter t ∷ [] → Extends a b → Starts A E s (tree_at a t) None m → IsFormedNode (tree_at b t) → jobs b zs ≡ jobs b xs ++ building (tree_at b t) → work (jobs b zs) < work (jobs a ys)
    less_down first x a b xs ys zs t rs s m p e up h formed is =
        let front : TasksIn a xs × TaskIn a (task.Enter t) = TasksIn-front a xs (task.Enter t) (rw e at p.tasks_in) in
        let kept = up.kept t front.1 in
        let node_formed : IsFormedNode (tree_at a t) = rw kept at formed in
        let now : jobs b zs ≡ jobs b xs ++ building (tree_at a t) = rw kept at is in
        let less = work_into (tree_at a t) s m h node_formed in
        let sum : work (jobs b zs) ≡ work (jobs b xs) + work (building (tree_at a t)) = ap (weights Anything itself) now ∙ weights-append Anything itself (jobs b xs) (building (tree_at a t)) in
        omega (arith, sum, less, weights_split Anything itself a xs ys (task.Enter t) e, weights_extended Anything itself a b xs ys (task.Enter t) p.tasks_in e up)
