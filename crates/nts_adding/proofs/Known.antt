-- A goal with variables in the places of its aliases is one of the table.
use Rattle.std.proofs.Common.{◌≡◌, inl, inr, List, [], ◌∷◌, ◌++◌, map, Some, refl, sym, ap, ◌∙◌, subst}
use Rattle.std.specs.Prelude.{All}
use Rattle.std.proofs.lemmas.List.Elements.{All-nil, All-cons}
use Rattle.nts_store.specs.declared.fault.Fault.{Fault}
use Rattle.nts_store.specs.declared.fault.Fault.TheVariants.{Memory}
use Rattle.nts_model.specs.declared.labels.AliasHead.{AliasHead}
use Rattle.nts_model.specs.declared.labels.AliasHead.TheVariants as alias_of
use Rattle.nts_model.specs.Terms.Trees.{Tree, more, binders, kind_of}
use Rattle.nts_model.specs.Terms.Patching.{IsPatched, patched, in_end, in_row, in_node, IsNoList}
use Rattle.nts_model.specs.Tables.Contents.{Content}
use Rattle.nts_model.specs.Tables.Resolving.{Knows}
use Rattle.nts_model.specs.Derivations.Related.{IsAlias, alias_label}
use Rattle.nts_model.specs.Derivations.Rules.{Replaced, chosen, kept_empty, kept_more, kept_node}
use Rattle.nts_model.specs.Lists.{Among}
use Rattle.nts_model.proofs.Terms.Scoping.{lists_patched}
use Rattle.nts_model.proofs.Terms.Unpositioned.{known_well_bound}
use Rattle.nts_store.specs.declared.nodes.NodeId.{NodeId}
use Rattle.nts_model.specs.declared.labels.Variance.TheVariants as variance
use Rattle.nts_store.proofs.Growing.{IsIn-extended}
use Rattle.nts_store.specs.Growth.{tree_at, trees_at, IsIn, AllIn, Extends}
use Rattle.nts_terms.specs.declared.cx.Cx.{Cx}
use Rattle.nts_terms.specs.declared.handles.Goal.{Goal}
use Rattle.nts_terms.specs.Rest.{Grows}
use Rattle.nts_table.specs.Frames.{ChangesEntries}
use Rattle.nts_terms.specs.declared.handles.ParamEnv.{ParamEnv}
use Rattle.nts_terms.specs.Handles.{HoldsEnv}
use Rattle.nts_unify.specs.Reading.{content_of}
use Rattle.nts_unify.specs.Lawful.{content_of-extended}
use Rattle.nts_table.specs.Tables.{Table, IsTable}
use Rattle.nts_table.specs.Fresh.{IsFreshLike}
use Rattle.nts_variance_model.specs.Variances.Relations.{Relating as Pair}
use Rattle.nts_variance.specs.declared.along.Relating.{Relating}
use Rattle.nts_variance.specs.Terms.{pairs_at, AreGoals, ArePairs}
use Rattle.nts_solver_relating.specs.Sides.{AreWithin, AreGoalsOfPairs}
use Rattle.nts_solver_relating.proofs.GoalsLeft.{pairs_within}
use Rattle.nts_folding.specs.Folding.{Stops, anywhere, early, late, at_term, at_binder, inside, at_made, StaysHere, StaysMade}
use Rattle.nts_meaning.specs.Evaluation.{AllKnown, Goes, Runs, IsPosed}
use Rattle.nts_meaning.proofs.Evaluating.{gave_fresh, Knows-goes}
use Rattle.nts_adding.specs.declared.putting.AliasFolder.{AliasFolder}
use Rattle.nts_adding.specs.Putting.{Standing, Puts, put, right_sides, AllPut, PutsVariables}
use Rattle.nts_theory.specs.Posing.{HasPut, equal_pair}
use Rattle.nts_adding.specs.Walking.{IsFolderReady, standing_of, FailsForWant, pairs_later, pushed_pairs}
use Rattle.nts_adding.proofs.Walked.{LeftsKnown, IsWalked, put_replaces}

no_list : (h : AliasHead) → IsNoList (alias_label h)
no_list (alias_of.Ty i) = tt
no_list (alias_of.Const i) = tt

-- closed terms of the table stand in the places of aliases
patched_by : (d : Content) {C : Tree → Tree → Type 0} → ((a v : Tree) → C a v → Knows d v) → (x u : Tree) → Replaced C x u → IsPatched x u
patched_by d f x u (chosen found ends h) =
    subst (λ y. IsPatched y u) (sym found.is) (patched (no_list found.head) (ends, known_well_bound d u (f x u h)))
patched_by d f x u kept_empty = in_end
patched_by d f x u (kept_more {a = a} {b = b} {s = s} {t = t} p q) = in_row (patched_by d f a b p) (patched_by d f s t q)
patched_by d f x u (kept_node {c = c} {d = e} n p) = in_node (patched_by d f c e p)

-- so the tree is known if it was known before
pub known_put : (d : Content) {C : Tree → Tree → Type 0} → ((a v : Tree) → C a v → Knows d v) → (x u : Tree) → Knows d x → Replaced C x u → Knows d u
known_put d f x u k (chosen found ends h) = f x u h
known_put d f x u k kept_empty = tt
known_put d f x u k (kept_more {a = a} {b = b} {s = s} {t = t} p q) = (known_put d f a b k.0 p, known_put d f s t k.1 q)
known_put d f x u k (kept_node {l = l} {c = c} {d = e} n p) =
    (k.0, known_put d f c e k.1 p, lists_patched (binders l) c e (patched_by d f c e p) k.2)

-- the variables, as terms of the store
abbrev pub right_nodes : List Relating → List NodeId
right_nodes xs = map (λ x. x.right) xs

pub right_row : (ts : List Tree) (xs : List Relating) → trees_at ts (right_nodes xs) ≡ right_sides (pairs_at ts xs)
right_row ts [] = refl
right_row ts (x ∷ xs) = ap (more (tree_at ts x.right)) (right_row ts xs)

pub rights_within : (ts : List Tree) (xs : List Relating) → AreWithin ts xs → AllIn ts (right_nodes xs)
rights_within ts [] h = tt
rights_within ts (x ∷ xs) h = (h.0.1, rights_within ts xs h.1)

-- each pair is of the table
pub pairs_known : (ts : List Tree) (d : Content) (xs : List Relating) → AreWithin ts xs → LeftsKnown d (pairs_at ts xs) → AllKnown d (map (tree_at ts) (right_nodes xs)) → ArePairs ts d xs
pairs_known ts d [] w l r = tt
pairs_known ts d (x ∷ xs) w l r = ((w.0.0, w.0.1, l.0, r.0), pairs_known ts d xs w.1 l.1 r.1)

-- .. and so is each variable that was put
pub put_known : (ts : List Tree) (d : Content) (xs : List Relating) → ArePairs ts d xs → (a v : Tree) → Among (pairs_at ts xs) (equal_pair a v) → Knows d v
put_known ts d [] h a v i = absurd i
put_known ts d (x ∷ xs) h a v (inl e) = subst (Knows d) (sym (ap (λ (p : Pair). p.right) e)) h.0.3
put_known ts d (x ∷ xs) h a v (inr i) = put_known ts d xs h.1 a v i

-- the pairs are goals
pub are_goals : (ps : List Pair) → AllPut ps → AreGoals ps
are_goals [] h = tt
are_goals (p ∷ ps) h =
    let x = h.0 in
    (record { left = x.alias.closed; right = x.closed; kinds = sym x.kind; rests = inl (inl x.alias) }, are_goals ps h.1)

-- what a table knows, one with more variables knows
pub lefts_later : (c d : Content) (ps : List Pair) → ((t : Tree) → Knows c t → Knows d t) → LeftsKnown c ps → LeftsKnown d ps
lefts_later c d [] f h = tt
lefts_later c d (p ∷ ps) f h = (f p.left h.0, lefts_later c d ps f h.1)

-- a variable was put in the place of an alias
pub put_step : {a b : List Tree} (s u : AliasFolder) (t r : NodeId) → IsFolderReady a s → Extends a b → IsIn a t → IsAlias (tree_at a t) → IsFreshLike (kind_of (tree_at a t)) (tree_at b r) s.table.entries u.table.entries
    → u.puts.items ≡ s.puts.items ++ record { variance = variance.Invariant; left = t; right = r } ∷ [] → Puts (standing_of a s) (tree_at a t) (Some (tree_at b r)) (standing_of b u)
put_step {a} {b} s u t r h e i found new items =
    let p : Relating = record { variance = variance.Invariant; left = t; right = r } in
    let one : pairs_at b u.puts.items ≡ pairs_at a s.puts.items ++ equal_pair (tree_at b t) (tree_at b r) ∷ [] = ap (pairs_at b) items ∙ pushed_pairs e s.puts.items p h.within in
    let two : equal_pair (tree_at b t) (tree_at b r) ≡ equal_pair (tree_at a t) (tree_at b r) = ap (λ x. equal_pair x (tree_at b r)) (e.kept t i) in
    let three : pairs_at b u.puts.items ≡ pairs_at a s.puts.items ++ equal_pair (tree_at a t) (tree_at b r) ∷ [] = one ∙ ap (λ x. pairs_at a s.puts.items ++ x ∷ []) two in
    subst (λ ps. Puts (standing_of a s) (tree_at a t) (Some (tree_at b r)) (record { entries = u.table.entries; puts = ps })) (sym three) (put (tree_at b r) u.table.entries found new)

-- such a walk ends early for want of memory alone
pub wants : {s : Standing} {x : Tree} {e : Fault} → Stops Puts StaysHere StaysHere StaysMade FailsForWant s x e → e ≡ Memory
wants (anywhere {s = s} f) = f s
wants (early h) = wants h
wants (late w h) = wants h
wants (at_term f) = f
wants (at_binder q f) = f
wants (inside g h) = wants h
wants (at_made g w m) = m.refused

-- what the folder made of a predicate
pub puts_variables : (ts us : List Tree) (t u : Table) (p q : NodeId) (xs : List Relating) → IsTable ts t → Extends ts us → IsTable us u → u.saved ≡ t.saved → u.mode ≡ t.mode → Knows (content_of ts t.entries) (tree_at ts p) → AreWithin us xs
    → IsWalked (record { entries = t.entries; puts = [] }) (record { entries = u.entries; puts = pairs_at us xs }) (tree_at ts p) (tree_at us q) → PutsVariables ts us t.entries u.entries p q xs
puts_variables ts us t u p q xs h e k s m knows within w =
    let vars = w.variables t.entries (record { sorts = []; entries = refl; row = refl; puts = tt }) in
    let fresh = gave_fresh vars.sorts (right_nodes xs) h e k vars.entries s m (rights_within us xs within) (right_row us xs ∙ vars.row) in
    let later : (x : Tree) → Knows (content_of ts t.entries) x → Knows (content_of us u.entries) x = λ x n. Knows-goes x fresh.goes n in
    let lefts = lefts_later (content_of ts t.entries) (content_of us u.entries) (pairs_at us xs) later (w.known (content_of ts t.entries) knows tt) in
    let pairs = pairs_known us (content_of us u.entries) xs within lefts fresh.values.known in
    let put : HasPut (pairs_at us xs) (tree_at ts p) (tree_at us q) = subst (λ z. HasPut z (tree_at ts p) (tree_at us q)) (sym w.grows) w.replaced in
    record {
      variables = vars;
      pairs = pairs;
      put = put;
      knows = known_put (content_of us u.entries) (put_known us (content_of us u.entries) xs pairs) (tree_at ts p) (tree_at us q) (later (tree_at ts p) knows) (put_replaces put);
    }

-- new variables are put, and nothing else
pub goes_put : {ts us : List Tree} {t u : Table} {p q : NodeId} {xs : List Relating} → IsTable ts t → Extends ts us → IsTable us u → u.saved ≡ t.saved → u.mode ≡ t.mode → PutsVariables ts us t.entries u.entries p q xs → Goes ts us t u
goes_put {ts} {us} {t} {u} {p} {q} {xs} h e k s m w =
    let v = w.variables in
    (gave_fresh v.sorts (right_nodes xs) h e k v.entries s m (rights_within us xs (pairs_within us (content_of us u.entries) xs w.pairs)) (right_row us xs ∙ v.row)).goes

pub runs_put : {a b : Cx} {t u : Table} {p q : NodeId} {xs : List Relating} → IsTable a.nodes t → Grows a b → IsTable b.nodes u → ChangesEntries t u → PutsVariables a.nodes b.nodes t.entries u.entries p q xs → Runs a b t u
runs_put h g k m w = record { goes = goes_put h g.extends k m.saved m.mode w; rest = g.rest }

-- pairs of a store that grew
pub later_pairs : {us ws : List Tree} (c : Content) (xs : List Relating) → Extends us ws → ArePairs us c xs → ArePairs ws c xs
later_pairs c [] e h = tt
later_pairs c (x ∷ xs) e h =
    let l = e.kept x.left h.0.0 in
    let r = e.kept x.right h.0.1 in
    ((IsIn-extended e x.left h.0.0, IsIn-extended e x.right h.0.1, rw l h.0.2, rw r h.0.3), later_pairs c xs e h.1)

pub puts_later : {ts us ws : List Tree} (t u : Table) {p q : NodeId} {xs : List Relating} → Extends us ws → IsTable us u → IsIn us q → PutsVariables ts us t.entries u.entries p q xs → PutsVariables ts ws t.entries u.entries p q xs
puts_later {ts} {us} {ws} t u {p} {q} {xs} e k i h =
    let same = content_of-extended e k.now in
    let pairs = pairs_later e xs (pairs_within us (content_of us u.entries) xs h.pairs) in
    let tree = e.kept q i in
    record {
      variables = rw pairs h.variables;
      pairs = rw same (later_pairs (content_of us u.entries) xs e h.pairs);
      put = rw (pairs, tree) h.put;
      knows = rw (same, tree) h.knows;
    }

-- the goals of pairs are goals of the store and the table
pub goals_posed : (ts : List Tree) (u : Table) (env : ParamEnv) (ps : List Relating) (gs : List Goal) → IsTable ts u → HoldsEnv ts env → Knows (content_of ts u.entries) (tree_at ts env.node) → AreGoalsOfPairs ts (content_of ts u.entries) env ps gs → All (IsPosed ts u) gs
goals_posed ts u env [] [] w h k q = All-nil (IsPosed ts u)
goals_posed ts u env [] (g ∷ gs) w h k q = absurd q
goals_posed ts u env (p ∷ ps) [] w h k q = absurd q
goals_posed ts u env (p ∷ ps) (g ∷ gs) w h k q =
    let z = q.0 in
    let one : IsPosed ts u g = record { table = w; holds = record { env = rw z.param_env h; predicate = z.holds }; knows = record { env = rw z.param_env k; predicate = z.knows } } in
    All-cons (IsPosed ts u) g gs one (goals_posed ts u env ps gs w h k q.1)
