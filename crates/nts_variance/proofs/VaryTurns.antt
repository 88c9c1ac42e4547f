-- One turn of the walk that makes a term which stands for another, and what holds over all its turns.
use Rattle.std.proofs.Common.{◌≡◌, ◌≢◌, ◌⊎◌, inl, inr, ⊎_elim, ℕ, zero, suc, ◌+◌, ◌<◌, ◌≤◌, Bool, true, false, List, [], ◌∷◌, ◌++◌, map, length, Option, Some, refl, sym, ap, ◌∙◌, subst, arith, append_assoc, add-one, length-append}
use Rattle.std.specs.Prelude.{◌^◌}
use Rattle.std.proofs.lemmas.List.{append-nil, map-append}
use Rattle.nts_model.specs.declared.labels.Sort.TheVariants as sort
use Rattle.nts_model.specs.declared.labels.Variance.{Variance}
use Rattle.nts_model.specs.declared.labels.Variance.TheVariants as variance
use Rattle.nts_model.specs.declared.labels.VariableKind.TheVariants as kind
use Rattle.nts_model.specs.Terms.Trees.{Tree, empty, more, node, size, NodeKind, kind_of, of_sort, IsRow, row_length, FitsPlace, AllFit, IsFormed}
use Rattle.nts_model.specs.Tables.Contents.{Content, unset, kind_at}
use Rattle.nts_model.specs.Tables.Resolving.{IsInfer, Knows, resolved}
use Rattle.nts_model.specs.Tables.Levels.{NamesAll, term_level, region_level}
use Rattle.nts_model.specs.Tables.Worlds.{inst}
use Rattle.nts_model.specs.Derivations.Related.{rest_variances}
use Rattle.nts_variance_model.specs.Variances.Forms.{Form, over, variances_over}
use Rattle.nts_variance_model.specs.Variances.Judging.{Settles}
use Rattle.nts_model.specs.Tables.Measuring.{closed_aliases}
use Rattle.nts_variance_model.specs.Variances.Relations.{ArePairsKnown}
use Rattle.nts_variance_model.specs.Variances.Relations.{Relating as Pair}
use Rattle.nts_variance_model.specs.Variances.Leaving.{judging_of}
use Rattle.nts_model.proofs.Tables.Slots.{field_below}
use Rattle.nts_model.proofs.Tables.Resolved.{resolved-empty, resolved-more}
use Rattle.nts_model.proofs.Tables.Held.{Continues-refl}
use Rattle.nts_variance_model.proofs.Variances.Alongside.{along_size}
use Rattle.nts_variance_model.proofs.Variances.SettleRows.{settled_along}
use Rattle.nts_store.specs.declared.nodes.NodeId.{NodeId}
use Rattle.nts_store.specs.Growth.{tree_at, trees_at, IsIn, AllIn, Extends}
use Rattle.nts_store.proofs.Growing.{IsIn-extended, Extends-refl, Extends-trans, row_length-trees_at, IsRow-trees_at}
use Rattle.nts_unify.specs.Entries.{Entries}
use Rattle.nts_unify.specs.Reading.{content_of, IsLawful}
use Rattle.nts_unify.specs.Changing.{unset_count}
use Rattle.nts_unify.specs.Lawful.{IsLawful-extended, content_of-extended}
use Rattle.nts_unify.proofs.Changes.{length-slots}
use Rattle.nts_relating.specs.Parts.{IsVariableValue}
use Rattle.nts_variance.specs.declared.along.Relating.{Relating}
use Rattle.nts_variance.specs.declared.vary_walk.Task.{Task}
use Rattle.nts_variance.specs.declared.vary_walk.Task.TheVariants as task
use Rattle.nts_variance.specs.declared.vary_walk.Spot.{Spot}
use Rattle.nts_variance.specs.Steps.{WalkStep, enter, build, owe, steps_of, stacked, popped, unpopped, entering, part_place, PartsFit, kinds_left, EndsAlone, builds, StepsLead, MadeForRow}
use Rattle.nts_variance.specs.Due.{IsTypeVariable, GotValue, AreTwoSides, IsUnvalued, AreGoalsDue}
use Rattle.nts_variance.specs.Walking.{IsTableGrown, IsMadeFor, MadeIn, NothingOwed, IsChoice, SettlesOwed, sides, step_weights, KnowsStep, KnowsSteps, KnowsTrees, Walks}
use Rattle.nts_variance.specs.Counting.{IsCounted}
use Rattle.nts_variance.specs.Parts.{form_of_tree, parts_of}
use Rattle.nts_variance.specs.Debts.{OweGoals, AreUnvaluedSteps}
use Rattle.nts_variance.specs.Terms.{pair_at, pairs_at, AreGoals, ArePairs, step_at, IsPart, IsNodeOfTable, IsTask, AreTasks, AreMade}
use Rattle.nts_variance.specs.Varying.{AreInside, BuildsKnown, IsWalk, IsTurn, IsMadeAt, IsTypeValue, IsMadeAgain, ArePartsPushed, IsOwn, WalkRefuses, IsVaried, IsKept}
use Rattle.nts_variance.proofs.Growing.{grown_refl, grown_trans, Knows-grown, region_never}
use Rattle.nts_variance.proofs.Clean.{clean_over}
use Rattle.nts_variance.proofs.Dues.{dues_later, dues_append, dues_to, due_sides, two_owed, fresh_number, value_valued, fresh_steps_later, steps_to, node_fresh}
use Rattle.nts_variance.proofs.Debts.{owe_at, owe_value, owe_through, owe_node, owe_built, goals_to, AreGoals-append, goal_sides}
use Rattle.nts_variance.proofs.Counting.{counted_at, counted_to, counted_start, counted_made, counted_through, counted_node, counted_built, counted_owed}
use Rattle.nts_variance.proofs.Runs.{stacked-push, pushed, unpopped_pushed, popped_row, made_row, unentered}
use Rattle.nts_variance.proofs.Turns.{judges_agree, walks_none, walks_then, walk_made}
use Rattle.nts_variance.proofs.Nodes.{made_over, made_value, kinds_on, left_on, weights_node, weights_value, weights_value_on, weights_built, weights_owed, weights_made, weights_later, builds_entering, ends_node, ends_made, ends_built, ends_value, ends_value_on, size_run, walk_node, walk_built, walk_value, walk_value_on, walk_owed}
use Rattle.nts_variance.proofs.Pushing.{tasks_push as AreTasks-push}

-- lists of tasks, of what was made and of pairs
AreTasks-front : (ts : List Tree) (c : Content) (xs : List Task) (y : Task) → AreTasks ts c (xs ++ y ∷ []) → AreTasks ts c xs × IsTask ts c y
AreTasks-front ts c [] y h = (tt, h.0)
AreTasks-front ts c (x ∷ xs) y h = let r = AreTasks-front ts c xs y h.1 in ((h.0, r.0), r.1)

AreMade-push : (ts : List Tree) (c : Content) (u : ℕ) (ms : List NodeId) (r : NodeId) → AreMade ts c u ms → IsIn ts r → Knows c (tree_at ts r) → NamesAll region_level u (resolved c (tree_at ts r)) → AreMade ts c u (ms ++ r ∷ [])
AreMade-push ts c u [] r h i k n = ((i, k, n), tt)
AreMade-push ts c u (m ∷ ms) r h i k n = (h.0, AreMade-push ts c u ms r h.1 i k n)

AreMade-split : (ts : List Tree) (c : Content) (u : ℕ) (ks qs : List NodeId) → AreMade ts c u (ks ++ qs) → AreMade ts c u ks × AreMade ts c u qs
AreMade-split ts c u [] qs h = (tt, h)
AreMade-split ts c u (k ∷ ks) qs h = let r = AreMade-split ts c u ks qs h.1 in ((h.0, r.0), r.1)

made_in : (ts : List Tree) (c : Content) (u : ℕ) (qs : List NodeId) → AreMade ts c u qs → AllIn ts qs
made_in ts c u [] h = tt
made_in ts c u (q ∷ qs) h = (h.0.0, made_in ts c u qs h.1)

made_clean : (ts : List Tree) (c : Content) (u : ℕ) (qs : List NodeId) → AreMade ts c u qs → NamesAll region_level u (resolved c (trees_at ts qs))
made_clean ts c u [] h = rw (resolved-empty c) tt
made_clean ts c u (q ∷ qs) h = rw (resolved-more c (tree_at ts q) (trees_at ts qs)) (h.0.2, made_clean ts c u qs h.1)

ArePairs-append : (ts : List Tree) (c : Content) (gs hs : List Relating) → ArePairs ts c gs → ArePairs ts c hs → ArePairs ts c (gs ++ hs)
ArePairs-append ts c [] hs h k = k
ArePairs-append ts c (g ∷ gs) hs h k = (h.0, ArePairs-append ts c gs hs h.1 k)

-- .. of which the table knows the trees
knows_step : (ts : List Tree) (c : Content) (y : Task) → IsTask ts c y → KnowsStep c (step_at ts y)
knows_step ts c (task.Enter s) h = h.knows
knows_step ts c (task.Build t) h = tt
knows_step ts c (task.Owe s) h = h.knows

KnowsSteps-push : (c : Content) (xs : List WalkStep) (y : WalkStep) → KnowsSteps c xs → KnowsStep c y → KnowsSteps c (xs ++ y ∷ [])
KnowsSteps-push c [] y h k = (k, tt)
KnowsSteps-push c (x ∷ xs) y h k = (h.0, KnowsSteps-push c xs y h.1 k)

knows_steps : (ts : List Tree) (c : Content) (xs : List Task) → AreTasks ts c xs → KnowsSteps c (stacked (step_at ts) xs)
knows_steps ts c [] h = tt
knows_steps ts c (x ∷ xs) h = KnowsSteps-push c (stacked (step_at ts) xs) (step_at ts x) (knows_steps ts c xs h.1) (knows_step ts c x h.0)

KnowsTrees-push : (c : Content) (ts : List Tree) (t : Tree) → KnowsTrees c ts → Knows c t → KnowsTrees c (ts ++ t ∷ [])
KnowsTrees-push c [] t h k = (k, tt)
KnowsTrees-push c (s ∷ ts) t h k = (h.0, KnowsTrees-push c ts t h.1 k)

knows_made : (ts : List Tree) (c : Content) (u : ℕ) (ms : List NodeId) → AreMade ts c u ms → KnowsTrees c (stacked (tree_at ts) ms)
knows_made ts c u [] h = tt
knows_made ts c u (m ∷ ms) h = KnowsTrees-push c (stacked (tree_at ts) ms) (tree_at ts m) (knows_made ts c u ms h.1) h.0.1

pub known_pairs : (ts : List Tree) (c : Content) (gs : List Relating) → ArePairs ts c gs → ArePairsKnown c (pairs_at ts gs)
known_pairs ts c [] h = tt
known_pairs ts c (g ∷ gs) h = (h.0.2, h.0.3, known_pairs ts c gs h.1)

-- a store and a table that grow
part_later : {ts us : List Tree} {c d : Content} (s : Spot) → Extends ts us → IsTableGrown c d → IsPart ts c s → IsPart us d s
part_later {ts} {us} {c} {d} s e l h =
    let at = e.kept s.term h.within in
    record {
      within = IsIn-extended e s.term h.within;
      knows = rw at (Knows-grown (tree_at ts s.term) l h.knows);
      closed = rw at h.closed;
      room = h.room;
      sort = h.sort;
      kind = ap kind_of at ∙ h.kind;
    }

node_later : {ts us : List Tree} {c d : Content} (t : NodeId) → Extends ts us → IsTableGrown c d → IsNodeOfTable ts c t → IsNodeOfTable us d t
node_later {ts} {us} {c} {d} t e l h =
    let at = e.kept t h.within in
    record { within = IsIn-extended e t h.within; knows = rw at (Knows-grown (tree_at ts t) l h.knows); is = rw at h.is; sorts = rw at h.sorts }

task_later : {ts us : List Tree} {c d : Content} (y : Task) → Extends ts us → IsTableGrown c d → IsTask ts c y → IsTask us d y
task_later (task.Enter s) e l h = part_later s e l h
task_later (task.Build t) e l h = node_later t e l h
task_later (task.Owe s) e l h = part_later s e l h

tasks_later : {ts us : List Tree} {c d : Content} (xs : List Task) → Extends ts us → IsTableGrown c d → AreTasks ts c xs → AreTasks us d xs
tasks_later [] e l h = tt
tasks_later (x ∷ xs) e l h = (task_later x e l h.0, tasks_later xs e l h.1)

made_later : {ts us : List Tree} {c d : Content} (u : ℕ) (ms : List NodeId) → Extends ts us → IsTableGrown c d → ((a : Tree) → Knows c a → resolved d a ≡ resolved c a) → AreMade ts c u ms → AreMade us d u ms
made_later u [] e l same h = tt
made_later {ts} {us} {c} {d} u (m ∷ ms) e l same h =
    let at = e.kept m h.0.0 in
    let t = tree_at ts m in
    let clean : NamesAll region_level u (resolved d t) = subst (NamesAll region_level u) (sym (same t h.0.1)) h.0.2 in
    ((IsIn-extended e m h.0.0, rw at (Knows-grown t l h.0.1), rw at clean), made_later u ms e l same h.1)

pub goals_later : {ts us : List Tree} {c d : Content} (gs : List Relating) → Extends ts us → IsTableGrown c d → ArePairs ts c gs → ArePairs us d gs
goals_later [] e l h = tt
goals_later {ts} (g ∷ gs) e l h = (
  (
    IsIn-extended e g.left h.0.0,
    IsIn-extended e g.right h.0.1,
    rw (e.kept g.left h.0.0) (Knows-grown (tree_at ts g.left) l h.0.2),
    rw (e.kept g.right h.0.1) (Knows-grown (tree_at ts g.right) l h.0.3),
  ),
  goals_later gs e l h.1,
)

step_kept : {ts us : List Tree} (c : Content) (y : Task) → Extends ts us → IsTask ts c y → step_at us y ≡ step_at ts y
step_kept c (task.Enter s) e h = ap (enter s.variance s.is_quiet) (e.kept s.term h.within)
step_kept c (task.Build t) e h = ap (λ y. build (form_of_tree y) (row_length (parts_of y))) (e.kept t h.within)
step_kept c (task.Owe s) e h = ap (owe s.variance) (e.kept s.term h.within)

steps_kept : {ts us : List Tree} (c : Content) (xs : List Task) → Extends ts us → AreTasks ts c xs → stacked (step_at us) xs ≡ stacked (step_at ts) xs
steps_kept c [] e h = refl
steps_kept c (x ∷ xs) e h =
    let first = step_kept c x e h.0 in
    let rest = steps_kept c xs e h.1 in
    cc (first, rest)

made_kept : {A : Type 0} {ts us : List Tree} (g : Tree → A) (c : Content) (u : ℕ) (ms : List NodeId) → Extends ts us → AreMade ts c u ms → stacked (λ t. g (tree_at us t)) ms ≡ stacked (λ t. g (tree_at ts t)) ms
made_kept g c u [] e h = refl
made_kept g c u (m ∷ ms) e h =
    let first = ap g (e.kept m h.0.0) in
    let rest = made_kept g c u ms e h.1 in
    cc (first, rest)

pub pairs_kept : {ts us : List Tree} (c : Content) (gs : List Relating) → Extends ts us → ArePairs ts c gs → pairs_at us gs ≡ pairs_at ts gs
pairs_kept c [] e h = refl
pairs_kept c (g ∷ gs) e h =
    let left = e.kept g.left h.0.0 in
    let right = e.kept g.right h.0.1 in
    let rest = pairs_kept c gs e h.1 in
    λ i. record { variance = g.variance; left = left i; right = right i } ∷ rest i

-- what was made last stands on what was made before
pushed_stacked : (ts : List Tree) (ks qs : List NodeId) → stacked (tree_at ts) (ks ++ qs) ≡ pushed (trees_at ts qs) (stacked (tree_at ts) ks)
pushed_stacked ts ks [] = ap (stacked (tree_at ts)) (append-nil ks)
pushed_stacked ts ks (q ∷ qs) =
    ap (stacked (tree_at ts)) (sym (append_assoc ks (q ∷ []) qs)) ∙ pushed_stacked ts (ks ++ q ∷ []) qs ∙ ap (pushed (trees_at ts qs)) (stacked-push (tree_at ts) ks q)

kinds_stacked : (ts : List Tree) (ks qs : List NodeId) → stacked (λ t. kind_of (tree_at ts t)) (ks ++ qs) ≡ kinds_on (trees_at ts qs) (stacked (λ t. kind_of (tree_at ts t)) ks)
kinds_stacked ts ks [] = ap (stacked (λ t. kind_of (tree_at ts t))) (append-nil ks)
kinds_stacked ts ks (q ∷ qs) =
    ap (stacked (λ t. kind_of (tree_at ts t))) (sym (append_assoc ks (q ∷ []) qs)) ∙ kinds_stacked ts (ks ++ q ∷ []) qs
    ∙ ap (kinds_on (trees_at ts qs)) (stacked-push (λ t. kind_of (tree_at ts t)) ks q)

length_stacked : {A B : Type 0} (f : A → B) (xs : List A) → length (stacked f xs) ≡ length xs
length_stacked f [] = refl
length_stacked f (x ∷ xs) = omega (arith, length-append (stacked f xs) (f x ∷ []), length_stacked f xs)

fit_length : (F : Form) (n : ℕ) (ks : List (Option NodeKind)) → PartsFit F n ks → n ≤ length ks
fit_length F zero ks h = omega arith
fit_length F (suc n) [] h = absurd h
fit_length F (suc n) (k ∷ ks) h = omega (arith, fit_length F n ks h.1)

fit_last : (F : Form) (n : ℕ) (k : Option NodeKind) (hs ks : List (Option NodeKind)) → kinds_left n hs ≡ k ∷ ks → PartsFit F (suc n) hs → FitsPlace (part_place F) k × PartsFit F n hs
fit_last F n k [] ks e h = absurd h
fit_last F zero k (x ∷ hs) ks e h = let same : x ≡ k = cc in (subst (FitsPlace (part_place F)) same h.0, tt)
fit_last F (suc n) k (x ∷ hs) ks e h = let r = fit_last F n k hs ks e h.1 in (r.0, (h.0, r.1))

-- .. and is of the kinds that the parts of the node have
fit_row : (F : Form) (ts : Tree) (ks : List (Option NodeKind)) → IsRow ts → PartsFit F (row_length ts) (kinds_on ts ks) → AllFit (part_place F) ts
fit_row F empty ks r h = tt
fit_row F (more t ts) ks r h =
    let here : PartsFit F (suc (row_length ts)) (kinds_on ts (kind_of t ∷ ks)) = rw add-one at h in
    let k = fit_last F (row_length ts) (kind_of t) (kinds_on ts (kind_of t ∷ ks)) ks (left_on ts (kind_of t ∷ ks) r) here in
    (k.0, fit_row F ts (kind_of t ∷ ks) r k.1)
fit_row F (node l c) ks r h = absurd r

-- steps inside of a node that is to be built
inside_entering : (v : Variance) (ws : List Variance) (q : Bool) (ts : Tree) (xs : List WalkStep) → 1 ≤ builds xs → AreInside xs → AreInside (entering v ws q ts xs)
inside_entering v ws q empty xs n h = h
inside_entering v ws q (more t ts) xs n h = (inr (omega (arith, builds_entering v (rest_variances ws) q ts xs)), inside_entering v (rest_variances ws) q ts xs n h)
inside_entering v ws q (node l c) xs n h = h

inside_node : (v : Variance) (ws : List Variance) (q : Bool) (F : Form) (n : ℕ) (ts : Tree) (xs : List WalkStep) → AreInside xs → AreInside (entering v ws q ts (build F n ∷ xs))
inside_node v ws q F n ts xs h = inside_entering v ws q ts (build F n ∷ xs) (omega arith) h

pub builds_steps : (g : Tree → Tree) (xs : List WalkStep) → builds (steps_of g xs) ≡ builds xs
builds_steps g [] = refl
builds_steps g (enter v q t ∷ xs) = builds_steps g xs
builds_steps g (build F n ∷ xs) = ap (λ k. k + 1) (builds_steps g xs)
builds_steps g (owe v t ∷ xs) = builds_steps g xs

-- nodes that are to be built are of the table
pub fits_later : {c d : Content} {t r : Tree} → IsTableGrown c d → IsMadeFor c t r → IsMadeFor d t r
fits_later {c} {d} {t} {r} l h = record { knows = Knows-grown r l h.knows; kind = h.kind; listed = h.listed; apart = h.apart; alone = h.alone }

builds_entered : (f : Content) (v : Variance) (ws : List Variance) (q : Bool) (ts : Tree) (xs : List WalkStep) (ss : List Tree) → IsRow ts
    → ((rs : Tree) → MadeForRow (MadeIn f) NothingOwed v ws q ts rs → BuildsKnown f xs (pushed rs ss)) → BuildsKnown f (entering v ws q ts xs) ss
builds_entered f v ws q empty xs ss r h = h empty tt
builds_entered f v ws q (more t ts) xs ss r h = λ s m. builds_entered f v (rest_variances ws) q ts xs (s ∷ ss) r (λ rs k. h (more s rs) (m, k))
builds_entered f v ws q (node l c) xs ss r h = absurd r

builds_over : (f : Content) (F : Form) (rs : Tree) (n : ℕ) (xs : List WalkStep) (ss : List Tree) → IsRow rs → n ≡ row_length rs → Knows f (over F rs) → BuildsKnown f xs (over F rs ∷ ss) → BuildsKnown f (build F n ∷ xs) (pushed rs ss)
builds_over f F rs n xs ss row same k h =
    let one : popped n (pushed rs ss) empty ≡ rs = ap (λ m. popped m (pushed rs ss) empty) same ∙ popped_row rs ss row in
    let two : unpopped n (pushed rs ss) ≡ ss = ap (λ m. unpopped m (pushed rs ss)) same ∙ unpopped_pushed rs ss row in
    rw (one, two) (k, h)

built_known : (f : Content) (F : Form) (rs : Tree) (n : ℕ) (xs : List WalkStep) (ss : List Tree) → IsRow rs → n ≡ row_length rs → BuildsKnown f (build F n ∷ xs) (pushed rs ss) → Knows f (over F rs) × BuildsKnown f xs (over F rs ∷ ss)
built_known f F rs n xs ss row same h =
    let one : popped n (pushed rs ss) empty ≡ rs = ap (λ m. popped m (pushed rs ss) empty) same ∙ popped_row rs ss row in
    let two : unpopped n (pushed rs ss) ≡ ss = ap (λ m. unpopped m (pushed rs ss)) same ∙ unpopped_pushed rs ss row in
    rw (one, two) at h

builds_node : (f : Content) (v : Variance) (ws : List Variance) (q : Bool) (F : Form) (ts : Tree) (xs : List WalkStep) (ss : List Tree) → IsRow ts → Knows f (over F ts) → BuildsKnown f (enter v q (over F ts) ∷ xs) ss
    → BuildsKnown f (entering v ws q ts (build F (row_length ts) ∷ xs)) ss
builds_node f v ws q F ts xs ss row k h =
    builds_entered f v ws q ts (build F (row_length ts) ∷ xs) ss row (λ rs m.
    (let made = made_over f v ws q F ts rs k m in
    let r = made_row (MadeIn f) NothingOwed v ws q ts rs m in
    builds_over f F rs (row_length ts) xs ss r.0 (sym r.1) made.knows (h (over F rs) made)))

-- the same by equal lists
ends_at : {xs ys : List WalkStep} {ks hs : List (Option NodeKind)} → xs ≡ ys → ks ≡ hs → EndsAlone ys hs → EndsAlone xs ks
ends_at p q h = rw (p, q) h

builds_at : (f : Content) {xs ys : List WalkStep} {ss rs : List Tree} → xs ≡ ys → ss ≡ rs → BuildsKnown f ys rs → BuildsKnown f xs ss
builds_at f p q h = rw (p, q) h

walks_at : {declared : ℕ → List Variance} {z : Bool} {u : ℕ} {c d : Content} {xs xs' ys ys' : List WalkStep} {ss ss' rs rs' : List Tree} {gs gs' hs hs' : List Pair} → xs ≡ xs' → ys ≡ ys' → ss ≡ ss' → rs ≡ rs' → gs ≡ gs' → hs ≡ hs'
    → Walks declared z u c d xs' ys' ss' rs' gs' hs' → Walks declared z u c d xs ys ss rs gs hs
walks_at a b c d e f w = rw (a, b, c, d, e, f) w

-- a variable that is as it was
kept_refl : (c : Content) (x : ℕ) → IsKept c c x
kept_refl c x = record { state = refl; universe = refl }

kept_trans : {c d e : Content} {x : ℕ} → IsKept c d x → IsKept d e x → IsKept c e x
kept_trans a b = record { state = b.state ∙ a.state; universe = b.universe ∙ a.universe }

module _ (declared : ℕ → List Variance) (z : Bool) (u x : ℕ) where
  -- a term was made at once for the part that is entered
  pub turn_made : (ts us : List Tree) (e f : Entries) (xs : List Task) (s : Spot) (ms ns : List NodeId) (r : NodeId) (gs hs : List Relating) → IsWalk ts e u x (xs ++ task.Enter s ∷ []) ms gs → Extends ts us → IsMadeAt declared z u x ts us e f s r gs hs
      → ns ≡ ms ++ r ∷ [] → IsTurn declared z u x ts us e f (xs ++ task.Enter s ∷ []) xs ms ns gs hs
  turn_made ts us e f xs s ms ns r gs hs w ext m is =
      let c = content_of ts e in
      let d = content_of us f in
      let t = tree_at ts s.term in
      let own = m.made in
      let later = own.later in
      let front = AreTasks-front ts c xs (task.Enter s) w.tasks in
      let here = stacked-push (step_at ts) xs (task.Enter s) in
      let known = knows_steps ts c xs front.0 in
      let fit : IsMadeFor d t (tree_at us r) = own.made d m.lawful.sound (Continues-refl d m.lawful.sound) in
      let steps = steps_kept c xs ext front.0 in
      let trees = stacked-push (tree_at us) ms r ∙ ap (λ ss. tree_at us r ∷ ss) (made_kept (λ y. y) c u ms ext w.made) in
      let kinds = stacked-push (λ y. kind_of (tree_at us y)) ms r ∙ ap (λ ks. kind_of (tree_at us r) ∷ ks) (made_kept kind_of c u ms ext w.made) in
      let goals = map-append (pair_at us) gs m.new ∙ ap (λ ps. ps ++ pairs_at us m.new) (pairs_kept c gs ext w.goals) in
      let inside = rw here at w.inside in
      rw (is, m.goals) (record {
        walk = record {
          lawful = m.lawful;
          tasks = tasks_later xs ext later front.0;
          made = AreMade-push us d u ms r (made_later u ms ext later own.trees w.made) m.within fit.knows own.clean;
          goals = ArePairs-append us d gs m.new (goals_later gs ext later w.goals) m.known;
          ends = ends_at steps kinds (ends_made s.variance s.is_quiet t (tree_at us r) (stacked (step_at ts) xs) (stacked (λ y. kind_of (tree_at ts y)) ms) fit.kind (rw here at w.ends));
          inside = rw steps inside.1;
          builds = λ g l. builds_at g steps trees ((rw here at (w.builds g (grown_trans later l))) (tree_at us r) (fits_later l fit));
          named = omega (arith, w.named, later.grows);
          known = omega (arith, w.known, later.more, length-slots ts e.variables, length-slots us f.variables);
          no_region = region_never c d x later (omega (arith, w.known, length-slots ts e.variables)) w.no_region;
        };
        walks = walks_at here steps refl trees refl goals (walk_made declared z u c d s.variance s.is_quiet t (tree_at us r) (pairs_at us m.new) (stacked (step_at ts) xs) (stacked (tree_at ts) ms) (pairs_at ts gs)
            known (knows_made ts c u ms w.made) (known_pairs ts c gs w.goals) own);
        less = omega (arith, ap (step_weights d) steps, weights_later c d (stacked (step_at ts) xs) own.trees known, ap (step_weights c) here, weights_made c s.variance s.is_quiet t (stacked (step_at ts) xs));
        kept = m.kept;
        trees = own.trees;
        owes = λ n le h k.
            (let before = rw here at h in
            (owe_at n steps trees (before (tree_at us r) (m.like n le)), goals_to goals (AreGoals-append (pairs_at ts gs) (pairs_at us m.new) k m.are_goals)));
        counted = counted_at here steps refl trees (counted_made c d s.variance s.is_quiet t (tree_at us r) (stacked (step_at ts) xs) (stacked (tree_at ts) ms) own.trees known (knows_made ts c u ms w.made) m.counted);
        due = λ b le o h g.
            (let before = rw here at h in (
              steps_to b d steps (fresh_steps_later b (stacked (step_at ts) xs) own.continues known before.1),
              dues_to b d goals (dues_append b d (pairs_at ts gs) (pairs_at us m.new) (dues_later b (pairs_at ts gs) later own.continues (known_pairs ts c gs w.goals) g) (m.due b le before.0)),
            ));
      })

  -- the walk with other tasks, where store and table are as they were
  still : (ts : List Tree) (e : Entries) (xs ys : List Task) (ms : List NodeId) (gs : List Relating) → IsWalk ts e u x xs ms gs → AreTasks ts (content_of ts e) ys → EndsAlone (stacked (step_at ts) ys) (stacked (λ y. kind_of (tree_at ts y)) ms)
      → AreInside (stacked (step_at ts) ys) → ((f : Content) → IsTableGrown (content_of ts e) f → BuildsKnown f (stacked (step_at ts) ys) (stacked (tree_at ts) ms)) → IsWalk ts e u x ys ms gs
  still ts e xs ys ms gs w tasks ends inside under =
      record { lawful = w.lawful; tasks = tasks; made = w.made; goals = w.goals; ends = ends; inside = inside; builds = under; named = w.named; known = w.known; no_region = w.no_region }

  -- a variable gives way to its value, and is owed what is made for that
  value_part : (ts : List Tree) (e : Entries) (s : Spot) (v : NodeId) (q : Bool) → IsPart ts (content_of ts e) s → IsIn ts v → v.number < 2 ^ 64 → IsVariableValue (content_of ts e) (tree_at ts s.term) (tree_at ts v)
      → IsPart ts (content_of ts e) (record { term = v; binders = 0; variance = s.variance; is_quiet = q; is_searched = false })
  value_part ts e s v q p within room k =
      record { within = within; knows = k.knows; closed = k.closed; room = omega (arith, room); sort = p.sort; kind = k.value_sort ∙ sym k.own_sort ∙ p.kind }

  turn_value_here : (ts : List Tree) (e : Entries) (xs ys : List Task) (s : Spot) (v : NodeId) (ms : List NodeId) (gs : List Relating) → IsWalk ts e u x (xs ++ task.Enter s ∷ []) ms gs → s.is_quiet ≡ false → IsIn ts v → v.number < 2 ^ 64
      → IsTypeValue (content_of ts e) (tree_at ts s.term) (tree_at ts v) → s.variance ≢ variance.Invariant → ys ≡ (xs ++ task.Owe s ∷ []) ++ task.Enter (record { term = v; binders = 0; variance = s.variance; is_quiet = true; is_searched = false }) ∷ [] → IsTurn declared z u x ts ts e e (xs ++ task.Enter s ∷ []) ys ms ms gs gs
  turn_value_here ts e xs ys s v ms gs w loud within room value varies is =
      let c = content_of ts e in
      let t = tree_at ts s.term in
      let k = value.value in
      let next : Task = task.Enter (record { term = v; binders = 0; variance = s.variance; is_quiet = true; is_searched = false }) in
      let front = AreTasks-front ts c xs (task.Enter s) w.tasks in
      let rest = stacked (step_at ts) xs in
      let kinds = stacked (λ y. kind_of (tree_at ts y)) ms in
      let same : kind_of (tree_at ts v) ≡ kind_of t = k.value_sort ∙ sym k.own_sort in
      let here : stacked (step_at ts) (xs ++ task.Enter s ∷ []) ≡ enter s.variance false t ∷ rest = stacked-push (step_at ts) xs (task.Enter s) ∙ ap (λ q. enter s.variance q t ∷ rest) loud in
      let there : stacked (step_at ts) ys ≡ enter s.variance true (tree_at ts v) ∷ owe s.variance t ∷ rest =
      ap (stacked (step_at ts)) is ∙ stacked-push (step_at ts) (xs ++ task.Owe s ∷ []) next ∙ ap (λ ks. enter s.variance true (tree_at ts v) ∷ ks) (stacked-push (step_at ts) xs (task.Owe s)) in
      let inside = rw here at w.inside in
      let below : 1 ≤ builds rest = ⊎_elim (λ (no : IsInfer t → ⊥). absurd (no k.infer)) (λ (n : 1 ≤ builds rest). n) inside.0 in
      record {
        walk = still ts e (xs ++ task.Enter s ∷ []) ys ms gs w
            (rw is (AreTasks-push ts c (xs ++ task.Owe s ∷ []) next (AreTasks-push ts c xs (task.Owe s) front.0 front.1) (value_part ts e s v true front.1 within room k)))
            (ends_at there refl (ends_value s.variance t (tree_at ts v) rest kinds same (rw here at w.ends)))
            (rw there (inr below, inside.1))
            (λ g l. builds_at g there refl (λ r m. (rw here at (w.builds g l)) r (made_value g t (tree_at ts v) r k.infer k.closed same m)));
        walks = walks_at here there refl refl refl refl (walk_value declared z u c s.variance t (tree_at ts v) rest (stacked (tree_at ts) ms) (pairs_at ts gs) w.lawful.sound k.infer k.closed same k.same k.worlds k.labels);
        less = omega (arith, ap (step_weights c) here, ap (step_weights c) there, weights_value c s.variance t (tree_at ts v) rest k.lower k.same);
        kept = kept_refl c x;
        trees = λ a h. refl;
        owes = λ n le h g.
            (let before = rw here at h in
            (owe_at n there refl (owe_value n s.variance t (tree_at ts v) value.number rest (stacked (tree_at ts) ms) value.is k.lower value.closed k.closed same varies before), g));
        counted = λ n h. (let counted : IsCounted c n (enter s.variance false t ∷ rest) (stacked (tree_at ts) ms) = rw here at h in let i = counted.invariant in absurd (varies i.0));
        due = λ b le o h g.
            (let before : AreUnvaluedSteps b c (enter s.variance false t ∷ rest) = rw here at h in
            let part : IsUnvalued b s.variance t = ⊎_elim (λ (no : false ≡ true). cc) (λ f. f) before.0 in
            let own : GotValue b c t = record { number = value.number; is = value.is; before = fresh_number b s.variance t value.number value.is varies part; after = value_valued c t (tree_at ts v) k } in
            (steps_to b c there (inl refl, ((varies, own), before.1)), g));
      }

  -- .. or gives way to its value alone
  turn_value_on_here : (ts : List Tree) (e : Entries) (xs ys : List Task) (s : Spot) (v : NodeId) (q : Bool) (ms : List NodeId) (gs : List Relating) → IsWalk ts e u x (xs ++ task.Enter s ∷ []) ms gs → s.is_quiet ≡ q → IsIn ts v → v.number < 2 ^ 64
      → IsVariableValue (content_of ts e) (tree_at ts s.term) (tree_at ts v) → ((q ≡ true) × ((j : ℕ) × IsTypeVariable (tree_at ts s.term) j)) ⊎ ((s.variance ≡ variance.Invariant) ⊎ (kind_of (tree_at ts s.term) ≡ Some (of_sort sort.Const))) → ys ≡ xs ++ task.Enter (record { term = v; binders = 0; variance = s.variance; is_quiet = q; is_searched = false }) ∷ [] → IsTurn declared z u x ts ts e e (xs ++ task.Enter s ∷ []) ys ms ms gs gs
  turn_value_on_here ts e xs ys s v q ms gs w quiet within room k alone is =
      let c = content_of ts e in
      let t = tree_at ts s.term in
      let next : Task = task.Enter (record { term = v; binders = 0; variance = s.variance; is_quiet = q; is_searched = false }) in
      let front = AreTasks-front ts c xs (task.Enter s) w.tasks in
      let rest = stacked (step_at ts) xs in
      let kinds = stacked (λ y. kind_of (tree_at ts y)) ms in
      let same : kind_of (tree_at ts v) ≡ kind_of t = k.value_sort ∙ sym k.own_sort in
      let here : stacked (step_at ts) (xs ++ task.Enter s ∷ []) ≡ enter s.variance q t ∷ rest = stacked-push (step_at ts) xs (task.Enter s) ∙ ap (λ p. enter s.variance p t ∷ rest) quiet in
      let there : stacked (step_at ts) ys ≡ enter s.variance q (tree_at ts v) ∷ rest = ap (stacked (step_at ts)) is ∙ stacked-push (step_at ts) xs next in
      let inside = rw here at w.inside in
      let below : 1 ≤ builds rest = ⊎_elim (λ (no : IsInfer t → ⊥). absurd (no k.infer)) (λ (n : 1 ≤ builds rest). n) inside.0 in
      record {
        walk = still ts e (xs ++ task.Enter s ∷ []) ys ms gs w
            (rw is (AreTasks-push ts c xs next front.0 (value_part ts e s v q front.1 within room k)))
            (ends_at there refl (ends_value_on s.variance q t (tree_at ts v) rest kinds same (rw here at w.ends)))
            (rw there (inr below, inside.1))
            (λ g l. builds_at g there refl (λ r m. (rw here at (w.builds g l)) r (made_value g t (tree_at ts v) r k.infer k.closed same m)));
        walks = walks_at here there refl refl refl refl (walk_value_on declared z u c s.variance q t (tree_at ts v) rest (stacked (tree_at ts) ms) (pairs_at ts gs) w.lawful.sound front.1.knows k.knows k.infer k.closed same k.same k.worlds k.labels);
        less = omega (arith, ap (step_weights c) here, ap (step_weights c) there, weights_value_on c s.variance q t (tree_at ts v) rest k.lower k.same);
        kept = kept_refl c x;
        trees = λ a h. refl;
        owes = λ n le h g.
            (let before = rw here at h in
            let typed : ((j : ℕ) × IsTypeVariable t j) ⊎ ((s.variance ≡ variance.Invariant) ⊎ (kind_of t ≡ Some (of_sort sort.Const))) = ⊎_elim (λ y. inl y.1) (λ a. inr a) alone in
            (owe_at n there refl (owe_through n s.variance q t (tree_at ts v) rest (stacked (tree_at ts) ms) k.closed same typed before), g));
        counted = counted_at here there refl refl (counted_through c s.variance q t (tree_at ts v) rest (stacked (tree_at ts) ms) k.infer k.same);
        due = λ b le o h g.
            (let before : AreUnvaluedSteps b c (enter s.variance q t ∷ rest) = rw here at h in
            let own : (q ≡ true) ⊎ IsUnvalued b s.variance (tree_at ts v) = ⊎_elim (λ y. inl y.0) (λ a. inr (⊎_elim (λ i. inl i) (λ y. inr (inl (λ z. (let both : Some (of_sort sort.Const) ≡ Some (of_sort sort.Ty) = sym (same ∙ y) ∙ z in cc)))) a)) alone in
            (steps_to b c there (own, before.1), g));
      }

  -- a node gives way to its parts
  turn_node_here : (ts : List Tree) (e : Entries) (xs ys : List Task) (s : Spot) (ms : List NodeId) (gs : List Relating) → IsWalk ts e u x (xs ++ task.Enter s ∷ []) ms gs → IsMadeAgain (tree_at ts s.term)
      → ArePartsPushed declared ts s xs ys → IsTurn declared z u x ts ts e e (xs ++ task.Enter s ∷ []) ys ms ms gs gs
  turn_node_here ts e xs ys s ms gs w again h =
      let c = content_of ts e in
      let t = tree_at ts s.term in
      let F = form_of_tree t in
      let ps = parts_of t in
      let ws = variances_over declared F ps in
      let node_is = again.with_parts in
      let front = AreTasks-front ts c xs (task.Enter s) w.tasks in
      let part = front.1 in
      let rest = stacked (step_at ts) xs in
      let kinds = stacked (λ y. kind_of (tree_at ts y)) ms in
      let there = h.steps in
      let here : stacked (step_at ts) (xs ++ task.Enter s ∷ []) ≡ enter s.variance s.is_quiet (over F ps) ∷ rest = stacked-push (step_at ts) xs (task.Enter s) ∙ ap (λ y. enter s.variance s.is_quiet y ∷ rest) node_is.is in
      let known : Knows c (over F ps) = subst (Knows c) node_is.is part.knows in
      let whole : IsFormed (over F ps) = subst IsFormed node_is.is again.formed in
      let inside = rw here at w.inside in
      record {
        walk = still ts e (xs ++ task.Enter s ∷ []) ys ms gs w
            (h.tasks c part.knows front.0)
            (ends_at there refl (ends_node s.variance ws s.is_quiet F ps rest kinds whole node_is.row (rw here at w.ends)))
            (rw there (inside_node s.variance ws s.is_quiet F (row_length ps) ps rest inside.1))
            (λ g l. builds_at g there refl (builds_node g s.variance ws s.is_quiet F ps rest (stacked (tree_at ts) ms) node_is.row (Knows-grown (over F ps) l known) (rw here at (w.builds g l))));
        walks = walks_at here there refl refl refl refl (walk_node declared z u c s.variance s.is_quiet F ps rest (stacked (tree_at ts) ms) (pairs_at ts gs) w.lawful.sound known whole node_is.row again.fits);
        less = omega (arith, ap (step_weights c) here, ap (step_weights c) there, weights_node c s.variance ws s.is_quiet F ps (row_length ps) rest node_is.row);
        kept = kept_refl c x;
        trees = λ a k. refl;
        owes = λ n le h g. (let before = rw here at h in (owe_at n there refl (owe_node n s.variance ws s.is_quiet F ps rest (stacked (tree_at ts) ms) node_is.row before), g));
        counted = counted_at here there refl refl (counted_node c s.variance ws s.is_quiet F ps rest (stacked (tree_at ts) ms) w.lawful.sound whole node_is.row again.fits);
        due = λ b le o h g.
            (let before : AreUnvaluedSteps b c (enter s.variance s.is_quiet (over F ps) ∷ rest) = rw here at h in
            (steps_to b c there (node_fresh declared b c s.variance s.is_quiet F ps (build F (row_length ps) ∷ rest) before.0 before.1), g));
      }

  -- .. where a look left the store, the table and the goals as they were
  pub turn_value : (ts us : List Tree) (e f : Entries) (xs ys : List Task) (s : Spot) (v : NodeId) (ms : List NodeId) (gs hs : List Relating) → IsWalk ts e u x (xs ++ task.Enter s ∷ []) ms gs → us ≡ ts → f ≡ e → hs ≡ gs → s.is_quiet ≡ false → IsIn ts v → v.number < 2 ^ 64
      → IsTypeValue (content_of ts e) (tree_at ts s.term) (tree_at ts v) → s.variance ≢ variance.Invariant → ys ≡ (xs ++ task.Owe s ∷ []) ++ task.Enter (record { term = v; binders = 0; variance = s.variance; is_quiet = true; is_searched = false }) ∷ [] → IsTurn declared z u x ts us e f (xs ++ task.Enter s ∷ []) ys ms ms gs hs
  turn_value ts us e f xs ys s v ms gs hs w store table goals loud within room value varies is =
      rw (store, table, goals) (turn_value_here ts e xs ys s v ms gs w loud within room value varies is)

  pub turn_value_on : (ts us : List Tree) (e f : Entries) (xs ys : List Task) (s : Spot) (v : NodeId) (q : Bool) (ms : List NodeId) (gs hs : List Relating) → IsWalk ts e u x (xs ++ task.Enter s ∷ []) ms gs → us ≡ ts → f ≡ e → hs ≡ gs → s.is_quiet ≡ q → IsIn ts v → v.number < 2 ^ 64
      → IsVariableValue (content_of ts e) (tree_at ts s.term) (tree_at ts v) → ((q ≡ true) × ((j : ℕ) × IsTypeVariable (tree_at ts s.term) j)) ⊎ ((s.variance ≡ variance.Invariant) ⊎ (kind_of (tree_at ts s.term) ≡ Some (of_sort sort.Const))) → ys ≡ xs ++ task.Enter (record { term = v; binders = 0; variance = s.variance; is_quiet = q; is_searched = false }) ∷ [] → IsTurn declared z u x ts us e f (xs ++ task.Enter s ∷ []) ys ms ms gs hs
  turn_value_on ts us e f xs ys s v q ms gs hs w store table goals quiet within room value alone is =
      rw (store, table, goals) (turn_value_on_here ts e xs ys s v q ms gs w quiet within room value alone is)

  pub turn_value_quietly : (ts us : List Tree) (e f : Entries) (xs ys : List Task) (s : Spot) (v : NodeId) (ms : List NodeId) (gs hs : List Relating) → IsWalk ts e u x (xs ++ task.Enter s ∷ []) ms gs → us ≡ ts → f ≡ e → hs ≡ gs → s.is_quiet ≡ true → IsIn ts v → v.number < 2 ^ 64
      → IsTypeValue (content_of ts e) (tree_at ts s.term) (tree_at ts v) → ys ≡ xs ++ task.Enter (record { term = v; binders = 0; variance = s.variance; is_quiet = true; is_searched = false }) ∷ [] → IsTurn declared z u x ts us e f (xs ++ task.Enter s ∷ []) ys ms ms gs hs
  turn_value_quietly ts us e f xs ys s v ms gs hs w store table goals quiet within room value is =
      turn_value_on ts us e f xs ys s v true ms gs hs w store table goals quiet within room value.value (inl (refl, (value.number, value.is))) is

  pub turn_node : (ts us : List Tree) (e f : Entries) (xs ys : List Task) (s : Spot) (ms : List NodeId) (gs hs : List Relating) → IsWalk ts e u x (xs ++ task.Enter s ∷ []) ms gs → us ≡ ts → f ≡ e → hs ≡ gs → IsMadeAgain (tree_at ts s.term)
      → ArePartsPushed declared us s xs ys → IsTurn declared z u x ts us e f (xs ++ task.Enter s ∷ []) ys ms ms gs hs
  turn_node ts us e f xs ys s ms gs hs w store table goals again h =
      let here = rw store at h in
      rw (store, table, goals) (turn_node_here ts e xs ys s ms gs w again here)

  -- what the last task is for
  pub task_last : (ts : List Tree) (e : Entries) (xs : List Task) (y : Task) (ms : List NodeId) (gs : List Relating) → IsWalk ts e u x (xs ++ y ∷ []) ms gs → IsTask ts (content_of ts e) y
  task_last ts e xs y ms gs w = (AreTasks-front ts (content_of ts e) xs y w.tasks).1

  -- a node is built over what was made last for its parts
  pub parts_few : (ts : List Tree) (e : Entries) (xs : List Task) (t : NodeId) (ms : List NodeId) (gs : List Relating) → IsWalk ts e u x (xs ++ task.Build t ∷ []) ms gs → row_length (parts_of (tree_at ts t)) ≤ length ms
  parts_few ts e xs t ms gs w =
      let ends = rw (stacked-push (step_at ts) xs (task.Build t)) at w.ends in
      omega (arith, fit_length (form_of_tree (tree_at ts t)) (row_length (parts_of (tree_at ts t))) (stacked (λ y. kind_of (tree_at ts y)) ms) ends.0, length_stacked (λ y. kind_of (tree_at ts y)) ms)

  pub parts_in : (ts : List Tree) (e : Entries) (xs : List Task) (ms ks qs : List NodeId) (gs : List Relating) → IsWalk ts e u x xs ms gs → ms ≡ ks ++ qs → AllIn ts qs
  parts_in ts e xs ms ks qs gs w split =
      let made = rw split at w.made in
      made_in ts (content_of ts e) u qs (AreMade-split ts (content_of ts e) u ks qs made).1

  pub parts_fit : (ts : List Tree) (e : Entries) (xs : List Task) (t : NodeId) (ms ks qs : List NodeId) (gs : List Relating) → IsWalk ts e u x (xs ++ task.Build t ∷ []) ms gs → ms ≡ ks ++ qs → length qs ≡ row_length (parts_of (tree_at ts t))
      → AllFit (part_place (form_of_tree (tree_at ts t))) (trees_at ts qs)
  parts_fit ts e xs t ms ks qs gs w split long =
      let F = form_of_tree (tree_at ts t) in
      let kinds = stacked (λ y. kind_of (tree_at ts y)) in
      let ends = rw (stacked-push (step_at ts) xs (task.Build t)) at w.ends in
      let one : PartsFit F (row_length (parts_of (tree_at ts t))) (kinds_on (trees_at ts qs) (kinds ks)) = subst (PartsFit F (row_length (parts_of (tree_at ts t)))) (ap kinds split ∙ kinds_stacked ts ks qs) ends.0 in
      let two : PartsFit F (row_length (trees_at ts qs)) (kinds_on (trees_at ts qs) (kinds ks)) = subst (λ n. PartsFit F n (kinds_on (trees_at ts qs) (kinds ks))) (sym (row_length-trees_at ts qs ∙ long)) one in
      fit_row F (trees_at ts qs) (kinds ks) (IsRow-trees_at ts qs) two

  pub turn_built : (ts us : List Tree) (e : Entries) (xs : List Task) (t : NodeId) (ms ks qs ns : List NodeId) (r : NodeId) (gs : List Relating) → IsWalk ts e u x (xs ++ task.Build t ∷ []) ms gs → ms ≡ ks ++ qs → length qs ≡ row_length (parts_of (tree_at ts t)) → Extends ts us → IsIn us r
      → tree_at us r ≡ over (form_of_tree (tree_at ts t)) (trees_at ts qs) → ns ≡ ks ++ r ∷ [] → IsTurn declared z u x ts us e e (xs ++ task.Build t ∷ []) xs ms ns gs gs
  turn_built ts us e xs t ms ks qs ns r gs w split long ext within tree is =
      let c = content_of ts e in
      let F = form_of_tree (tree_at ts t) in
      let n = row_length (parts_of (tree_at ts t)) in
      let rs = trees_at ts qs in
      let row = IsRow-trees_at ts qs in
      let same : n ≡ row_length rs = sym (row_length-trees_at ts qs ∙ long) in
      let front = AreTasks-front ts c xs (task.Build t) w.tasks in
      let rest = stacked (step_at ts) xs in
      let before = stacked (tree_at ts) ks in
      let kinds = stacked (λ y. kind_of (tree_at ts y)) ks in
      let here = stacked-push (step_at ts) xs (task.Build t) in
      let parted = AreMade-split ts c u ks qs (rw split at w.made) in
      let made = parted.0 in
      let steps = steps_kept c xs ext front.0 in
      let on : stacked (tree_at ts) ms ≡ pushed rs before = ap (stacked (tree_at ts)) split ∙ pushed_stacked ts ks qs in
      let kinds_before : stacked (λ y. kind_of (tree_at ts y)) ms ≡ kinds_on rs kinds = ap (stacked (λ y. kind_of (tree_at ts y))) split ∙ kinds_stacked ts ks qs in
      let trees : stacked (tree_at us) (ks ++ r ∷ []) ≡ over F rs ∷ before = stacked-push (tree_at us) ks r ∙ ap (λ ss. tree_at us r ∷ ss) (made_kept (λ y. y) c u ks ext made) ∙ ap (λ y. y ∷ before) tree in
      let kinds_after : stacked (λ y. kind_of (tree_at us y)) (ks ++ r ∷ []) ≡ kind_of (over F rs) ∷ kinds =
      stacked-push (λ y. kind_of (tree_at us y)) ks r ∙ ap (λ hs. kind_of (tree_at us r) ∷ hs) (made_kept kind_of c u ks ext made) ∙ ap (λ y. kind_of y ∷ kinds) tree in
      let left : kinds_left n (kinds_on rs kinds) ≡ kinds = ap (λ k. kinds_left k (kinds_on rs kinds)) same ∙ left_on rs kinds row in
      let whole : EndsAlone (build F n ∷ rest) (kinds_on rs kinds) = ends_at (sym here) (sym kinds_before) w.ends in
      let content : content_of us e ≡ c = content_of-extended ext w.lawful in
      let known : (g : Content) → IsTableGrown c g → Knows g (over F rs) × BuildsKnown g rest (over F rs ∷ before) = λ g l. built_known g F rs n rest before row same (builds_at g (sym here) (sym on) (w.builds g l)) in
      let own : Knows c (tree_at us r) = rw tree (known c (grown_refl c)).0 in
      let clean : NamesAll region_level u (resolved c (tree_at us r)) = rw tree (clean_over c u F rs front.1.sorts (made_clean ts c u qs parted.1)) in
      let inside = rw here at w.inside in
      rw is (record {
        walk = record {
          lawful = IsLawful-extended ext w.lawful;
          tasks = rw content (tasks_later xs ext (grown_refl c) front.0);
          made = rw content (AreMade-push us c u ks r (made_later u ks ext (grown_refl c) (λ a k. refl) made) within own clean);
          goals = rw content (goals_later gs ext (grown_refl c) w.goals);
          ends = ends_at steps (kinds_after ∙ ap (λ hs. kind_of (over F rs) ∷ hs) (sym left)) (ends_built F n rs rest (kinds_on rs kinds) whole);
          inside = rw steps inside;
          builds = rw content (λ g l. builds_at g steps trees (known g l).1);
          named = w.named;
          known = w.known;
          no_region = subst (λ d. kind_at d x ≢ Some kind.Region) (sym content) w.no_region;
        };
        walks = rw content (walks_at here steps on trees refl (pairs_kept c gs ext w.goals) (walk_built declared z u c F rs n rest before (pairs_at ts gs) w.lawful.sound row same front.1.sorts));
        less = rw content (omega (arith, ap (step_weights c) steps, ap (step_weights c) here, weights_built c F n rest));
        kept = rw content (kept_refl c x);
        trees = rw content (λ a k. refl);
        owes = λ k le h g. (let old = rw (here, on) at h in (owe_at k steps trees (owe_built k F rs n rest (stacked (tree_at ts) ks) row same old), goals_to (pairs_kept c gs ext w.goals) g));
        counted = rw content (counted_at here steps on trees (counted_built c F rs n rest before w.lawful.sound row same front.1.sorts));
        due = rw content (λ b le o h g. (let old : AreUnvaluedSteps b c (build F n ∷ rest) = rw here at h in (steps_to b c steps old, dues_to b c (pairs_kept c gs ext w.goals) g)));
      })

  -- what is owed is left as a goal
  pub made_some : (ts : List Tree) (e : Entries) (xs : List Task) (s : Spot) (ms : List NodeId) (gs : List Relating) → IsWalk ts e u x (xs ++ task.Owe s ∷ []) ms gs → 1 ≤ length ms
  made_some ts e xs s ms gs w =
      let ends = rw (stacked-push (step_at ts) xs (task.Owe s)) at w.ends in
      omega (arith, ends.0, length_stacked (λ y. kind_of (tree_at ts y)) ms)

  sides_known : (side : Bool) (c : Content) (v : Variance) (r t : Tree) (p : Pair) → p ≡ sides side v r t → Knows c r → Knows c t → Knows c p.left × Knows c p.right
  sides_known false c v r t p is k l = rw is (k, l)
  sides_known true c v r t p is k l = rw is (l, k)

  pub turn_owed : (ts : List Tree) (e : Entries) (xs : List Task) (s : Spot) (ms ks : List NodeId) (m : NodeId) (p : Relating) (gs hs : List Relating) → IsWalk ts e u x (xs ++ task.Owe s ∷ []) ms gs → ms ≡ ks ++ m ∷ [] → hs ≡ gs ++ p ∷ []
      → pair_at ts p ≡ sides z s.variance (tree_at ts m) (tree_at ts s.term) → IsIn ts p.left → IsIn ts p.right → IsTurn declared z u x ts ts e e (xs ++ task.Owe s ∷ []) xs ms ms gs hs
  turn_owed ts e xs s ms ks m p gs hs w split more_goals pair left right =
      let c = content_of ts e in
      let t = tree_at ts s.term in
      let front = AreTasks-front ts c xs (task.Owe s) w.tasks in
      let rest = stacked (step_at ts) xs in
      let before = stacked (tree_at ts) ks in
      let here = stacked-push (step_at ts) xs (task.Owe s) in
      let on : stacked (tree_at ts) ms ≡ tree_at ts m ∷ before = ap (stacked (tree_at ts)) split ∙ stacked-push (tree_at ts) ks m in
      let made = (AreMade-split ts c u ks (m ∷ []) (rw split at w.made)).1 in
      let known = sides_known z c s.variance (tree_at ts m) t (pair_at ts p) pair made.0.1 front.1.knows in
      let ends = rw here at w.ends in
      let goals : pairs_at ts hs ≡ pairs_at ts gs ++ sides z s.variance (tree_at ts m) t ∷ [] = ap (pairs_at ts) more_goals ∙ map-append (pair_at ts) gs (p ∷ []) ∙ ap (λ q. pairs_at ts gs ++ q ∷ []) pair in
      let inside = rw here at w.inside in
      record {
        walk = record {
          lawful = w.lawful;
          tasks = front.0;
          made = w.made;
          goals = rw more_goals (ArePairs-append ts c gs (p ∷ []) w.goals ((left, right, known.0, known.1), tt));
          ends = ends.1;
          inside = inside;
          builds = λ g l. rw here at (w.builds g l);
          named = w.named;
          known = w.known;
          no_region = w.no_region;
        };
        walks = walks_at here refl on on refl goals (walk_owed declared z u c s.variance t (tree_at ts m) rest before (pairs_at ts gs) w.lawful.sound);
        less = omega (arith, ap (step_weights c) here, weights_owed c s.variance t rest);
        kept = kept_refl c x;
        trees = λ a k. refl;
        owes = λ n le h g.
            (let old = rw (here, on) at h in
            (owe_at n {xs = rest} {ys = rest} refl on old.2, goals_to goals (AreGoals-append (pairs_at ts gs) (sides z s.variance (tree_at ts m) t ∷ []) g (goal_sides z s.variance (tree_at ts m) t old.0, tt))));
        counted = counted_at here refl on on (counted_owed c s.variance t rest (tree_at ts m ∷ before));
        due = λ b le o h g.
            (let old : AreUnvaluedSteps b c (owe s.variance t ∷ rest) = rw here at h in
            let own = old.0 in
            let got = own.1 in
            let owed = rw (here, on) at o in
            let apart : AreTwoSides b (tree_at ts m) t = two_owed b (tree_at ts m) t got.number got.is got.before (owed.1 got.number got.is (field_below (λ v. v.state) b got.number unset got.before)) in
            (old.1, dues_to b c goals (dues_append b c (pairs_at ts gs) (sides z s.variance (tree_at ts m) t ∷ []) g (due_sides b c z s.variance (tree_at ts m) t (inr (own.0, apart, inr (inr got))), tt))));
      }

  -- the variable for which the whole is made stands inside of a node of the whole
  pub own_refuses : (ts : List Tree) (e : Entries) (xs : List Task) (s : Spot) (ms : List NodeId) (gs : List Relating) → IsWalk ts e u x (xs ++ task.Enter s ∷ []) ms gs → IsOwn (content_of ts e) x (tree_at ts s.term)
      → WalkRefuses declared u x (content_of ts e) (stacked (step_at ts) (xs ++ task.Enter s ∷ [])) (stacked (tree_at ts) ms) (pairs_at ts gs)
  own_refuses ts e xs s ms gs walk own =
      let c = content_of ts e in
      let t = tree_at ts s.term in
      let rest = stacked (step_at ts) xs in
      let here = stacked-push (step_at ts) xs (task.Enter s) in
      let inside = rw here at walk.inside in
      let below : 1 ≤ builds rest = ⊎_elim (λ (no : IsInfer t → ⊥). absurd (no own.infer)) (λ (n : 1 ≤ builds rest). n) inside.0 in
      let known : x < length c.slots = omega (arith, walk.known, length-slots ts e.variables) in
      record {
        none = λ j w solves judges settled goals names runs.
            (let J = judging_of declared j in
            let whole = w.tree x in
            let g = inst w in
            let P = IsChoice J u whole in
            let Q = SettlesOwed J in
            let there : StepsLead P Q (enter s.variance s.is_quiet (g t) ∷ steps_of g rest) (map g (stacked (tree_at ts) ms)) whole = subst (λ ys. StepsLead P Q (steps_of g ys) (map g (stacked (tree_at ts) ms)) whole) here runs in
            let a = unentered P Q s.variance s.is_quiet (g t) (steps_of g rest) (map g (stacked (tree_at ts) ms)) whole there in
            let choice = a.fits in
            let settles : Settles J s.variance a.made whole = subst (Settles J s.variance a.made) (own.own w solves) choice.settles in
            let one : size a.made ≡ size whole = along_size J j.lawful (settled_along J j.lawful s.variance a.made whole choice.settled (settled.each x known) settles) in
            absurd (omega (arith, size_run a.runs, builds_steps g rest, below, one)));
      }

  -- the walk begins with the whole
  pub walk_start : (ts : List Tree) (e : Entries) (v : Variance) (t : NodeId) (ys : List Task) → IsLawful ts e → IsPart ts (content_of ts e) (record { term = t; binders = 0; variance = v; is_quiet = false; is_searched = false }) → (IsInfer (tree_at ts t) → ⊥) → u ≤ e.universe → x < length e.variables → kind_at (content_of ts e) x ≢ Some kind.Region
      → ys ≡ task.Enter (record { term = t; binders = 0; variance = v; is_quiet = false; is_searched = false }) ∷ [] → IsWalk ts e u x ys [] []
  walk_start ts e v t ys lawful part none named known no_region is =
      rw is (record {
        lawful = lawful;
        tasks = (part, tt);
        made = tt;
        goals = tt;
        ends = refl;
        inside = (inl none, tt);
        builds = λ f l. λ s m. tt;
        named = named;
        known = known;
        no_region = no_region;
      })

  -- what the loop keeps: the first store and table, and the steps from the whole
  pub record WalkRun (ts : List Tree) (e : Entries) (us : List Tree) (f : Entries) (v : Variance) (t : NodeId) (ys : List Task) (ns : List NodeId) (hs : List Relating) : Type 0 where
    pub lawful : IsLawful ts e
    pub known : x < length e.variables
    pub extends : Extends ts us
    pub kept : IsKept (content_of ts e) (content_of us f) x
    pub trees : (a : Tree) → Knows (content_of ts e) a → resolved (content_of us f) a ≡ resolved (content_of ts e) a
    pub owes : (n : ℕ) → n ≤ length (content_of ts e).slots → OweGoals n (stacked (step_at us) ys) (stacked (tree_at us) ns) × AreGoals (pairs_at us hs)
    pub counted : (n : ℕ) → IsCounted (content_of ts e) n (enter v false (tree_at ts t) ∷ []) [] → IsCounted (content_of us f) n (stacked (step_at us) ys) (stacked (tree_at us) ns)
    pub due : (b : Content) → length b.slots ≤ length (content_of ts e).slots → IsUnvalued b v (tree_at ts t) → AreUnvaluedSteps b (content_of us f) (stacked (step_at us) ys) × AreGoalsDue b (content_of us f) (pairs_at us hs)
    pub walk : IsWalk us f u x ys ns hs
    pub walks : Walks declared z u (content_of ts e) (content_of us f) (enter v false (tree_at ts t) ∷ []) (stacked (step_at us) ys) [] (stacked (tree_at us) ns) [] (pairs_at us hs)

  pub run_start : (ts : List Tree) (e : Entries) (v : Variance) (t : NodeId) (ys : List Task) → IsLawful ts e → IsPart ts (content_of ts e) (record { term = t; binders = 0; variance = v; is_quiet = false; is_searched = false }) → (IsInfer (tree_at ts t) → ⊥) → u ≤ e.universe → x < length e.variables → kind_at (content_of ts e) x ≢ Some kind.Region
      → ys ≡ task.Enter (record { term = t; binders = 0; variance = v; is_quiet = false; is_searched = false }) ∷ [] → WalkRun ts e ts e v t ys [] []
  run_start ts e v t ys lawful part none named known no_region is =
      record {
        lawful = lawful;
        known = known;
        extends = Extends-refl ts;
        kept = kept_refl (content_of ts e) x;
        trees = λ a k. refl;
        owes = rw is (λ n le. (λ s m. tt, tt));
        counted = rw is (λ n h. h);
        due = rw is (λ b le h. ((inr h, tt), tt));
        walk = walk_start ts e v t ys lawful part none named known no_region is;
        walks = rw is (walks_none declared z u (content_of ts e) (enter v false (tree_at ts t) ∷ []) [] [] lawful.sound);
      }

  pub run_turn : (ts : List Tree) (e : Entries) (us ws : List Tree) (f g : Entries) (v : Variance) (t : NodeId) (xs ys : List Task) (ms ns : List NodeId) (gs hs : List Relating) → WalkRun ts e us f v t xs ms gs → IsTurn declared z u x us ws f g xs ys ms ns gs hs
      → Extends us ws → WalkRun ts e ws g v t ys ns hs
  run_turn ts e us ws f g v t xs ys ms ns gs hs run turn ext =
      record {
        lawful = run.lawful;
        known = run.known;
        extends = Extends-trans run.extends ext;
        kept = kept_trans run.kept turn.kept;
        trees = λ a k. (let walks = run.walks in turn.trees a (Knows-grown a walks.later k) ∙ run.trees a k);
        owes = λ n le. (let old = run.owes n le in let walks = run.walks in let more = walks.later.more in turn.owes n (omega (arith, le, more)) old.0 old.1);
        counted = λ n h. turn.counted n (run.counted n h);
        due = λ b le h. (let old = run.due b le h in let owed = run.owes (length b.slots) le in let walks = run.walks in let more = walks.later.more in turn.due b (omega (arith, le, more)) owed.0 old.0 old.1);
        walk = turn.walk;
        walks = walks_then declared z u (content_of ts e) (content_of us f) (content_of ws g) (enter v false (tree_at ts t) ∷ []) (stacked (step_at us) xs) (stacked (step_at ws) ys) [] (stacked (tree_at us) ms) (stacked (tree_at ws) ns) [] (pairs_at us gs) (pairs_at ws hs)
            run.lawful.sound run.walk.lawful.sound run.walks turn.walks;
      }

  -- where nothing is left to do, one term was made
  pub ends_one : (ts : List Tree) (e : Entries) (us : List Tree) (f : Entries) (v : Variance) (t : NodeId) (ys : List Task) (ns : List NodeId) (hs : List Relating) → WalkRun ts e us f v t ys ns hs → ys ≡ [] → length ns ≡ 1
  ends_one ts e us f v t ys ns hs run none =
      let ends = rw none at run.walk.ends in
      sym (length_stacked (λ y. kind_of (tree_at us y)) ns) ∙ ends

  pub run_end : (ts : List Tree) (e : Entries) (us : List Tree) (f : Entries) (v : Variance) (t : NodeId) (ys : List Task) (ns : List NodeId) (r : NodeId) (hs : List Relating) → WalkRun ts e us f v t ys ns hs → ys ≡ [] → ns ≡ r ∷ [] → IsVaried declared z u x ts us e f v t r hs
  run_end ts e us f v t ys ns r hs run none one =
      let walk = run.walk in
      let made = rw one at walk.made in
      let c = content_of ts e in
      let n = unset_count c.slots + closed_aliases (resolved c (tree_at ts t)) in
      let ended : v ≡ variance.Invariant → IsCounted (content_of us f) n [] (tree_at us r ∷ []) =
      λ q. counted_to (ap (stacked (step_at us)) none) (ap (stacked (tree_at us)) one) (run.counted n (counted_start c v (tree_at ts t) q)) in
      record {
        within = made.0.0;
        lawful = walk.lawful;
        known = walk.goals;
        clean = made.0.2;
        kept = run.kept;
        trees = run.trees;
        are_goals = (let old = run.owes 0 (omega arith) in old.1);
        due = λ b le h. (let old = run.due b le h in old.1);
        none = λ q. (let k = ended q in let h = k.none in h.0);
        few = λ q. (let k = ended q in let h = k.few in omega (arith, h));
        walks = walks_at refl (sym (ap (stacked (step_at us)) none)) refl (sym (ap (stacked (tree_at us)) one)) refl refl run.walks;
      }

  -- a refusal after turns
  pub run_refuses : (ts : List Tree) (e : Entries) (us : List Tree) (f : Entries) (v : Variance) (t : NodeId) (ys : List Task) (ns : List NodeId) (hs : List Relating) → WalkRun ts e us f v t ys ns hs
      → WalkRefuses declared u x (content_of us f) (stacked (step_at us) ys) (stacked (tree_at us) ns) (pairs_at us hs) → WalkRefuses declared u x (content_of ts e) (enter v false (tree_at ts t) ∷ []) [] []
  run_refuses ts e us f v t ys ns hs run refuses =
      let c = content_of ts e in
      let walks = run.walks in
      let below : x < length c.slots = omega (arith, run.known, length-slots ts e.variables) in
      record {
        none = λ j w solves judges settled goals names runs.
            (let J = judging_of declared j in
            let a = walks.complete j w solves judges settled goals (w.tree x) names runs in
            let p = a.extension in
            let own = p.agrees in
            let same : w.tree x ≡ p.world.tree x = sym (own.trees x below) in
            refuses.none j p.world p.solves (judges_agree declared j (length c.slots) w p.world p.agrees judges) p.settled a.goals (subst (NamesAll term_level u) same names)
            (subst (λ y. StepsLead (IsChoice J u y) (SettlesOwed J) (steps_of (inst p.world) (stacked (step_at us) ys)) (map (inst p.world) (stacked (tree_at us) ns)) y) same a.runs));
      }
