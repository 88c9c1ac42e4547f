-- What relating in a context does to its store, its table and its goals.
use Rattle.std.proofs.Common.{◌≡◌, ◌==◌, ℕ, true, length, List, [], ◌++◌, refl, sym, ap, ◌∙◌, subst}
use Rattle.std.proofs.lemmas.Bool.{eqb-true}
use Rattle.std.specs.Prelude.{All, IfOk, IfErr, Result, Ok, Err, OnOk, OnErr}
use Rattle.std.proofs.lemmas.List.{append-nil, nil_from_length}
use Rattle.std.proofs.lemmas.List.Elements.{All-append}
use Rattle.nts_model.specs.declared.labels.Variance.{Variance}
use Rattle.nts_model.specs.Terms.Trees.{Tree}
use Rattle.nts_model.proofs.Tables.Slots.{Knows-kept}
use Rattle.nts_store.specs.declared.fault.EvalError.{EvalError}
use Rattle.nts_store.specs.declared.nodes.NodeId.{NodeId}
use Rattle.nts_store.specs.Growth.{tree_at}
use Rattle.nts_terms.specs.declared.cx.Cx.{Cx}
use Rattle.nts_terms.specs.declared.handles.AliasTerm.{AliasTerm}
use Rattle.nts_terms.specs.declared.handles.Goal.{Goal}
use Rattle.nts_terms.specs.declared.handles.ParamEnv.{ParamEnv}
use Rattle.nts_terms.proofs.Moved.{Holds-extended}
use Rattle.nts_certainty.specs.declared.sources.GoalSource.{GoalSource}
use Rattle.nts_certainty.specs.declared.sources.GoalSource.TheVariants as source
use Rattle.nts_search.specs.declared.kinds.CurrentGoalKind.{CurrentGoalKind}
use Rattle.nts_search.specs.declared.kinds.CurrentGoalKind.TheVariants as kind
use Rattle.nts_adding.specs.Adding.{AddsEach, ArePosedIn}
use Rattle.nts_adding.specs.Rigid.{AddsRigidly}
use Rattle.nts_adding.proofs.Known.{goals_posed}
use Rattle.nts_unify.specs.Entries.{Entries}
use Rattle.nts_unify.specs.Reading.{content_of}
use Rattle.nts_table.specs.Tables.{Table, IsTable}
use Rattle.nts_solver_relating.specs.Sides.{IsRelatedBy, AreMadeEqual}
use Rattle.nts_meaning.specs.Evaluation.{Goes, Runs, IsPosed}
use Rattle.nts_adding.proofs.Added.{posed_later}
use Rattle.nts_nested_goals.specs.declared.state.EvalState.{EvalState}
use Rattle.nts_nested_goals.specs.Related.{IsEnvOf, AddsTo, RelatesAdding, LeavesNothing, AddsRelated, AddsRelatedRigidly, AreEquatedIn}

-- what relating gave, where the goals were added
pub where_added : {A : Type 0} (P : Type 0) (r : Result A EvalError) (p : Result (Unit {0}) EvalError) → OnOk r P → IfErr r (λ e. p ≡ Err e) → OnOk p P
where_added P (Ok a) (Ok z) h f = h
where_added P (Ok a) (Err e) h f = tt
where_added P (Err e) (Ok z) h f = (let q : ◌≡◌ {A = Result (Unit {0}) EvalError} (Ok z) (Err e) = f in cc)
where_added P (Err e) (Err x) h f = tt

pub where_ended : {A : Type 0} (P : Entries → Type 0) (e f : Entries) (r : Result A EvalError) (p : Result (Unit {0}) EvalError) → OnOk p (f ≡ e) → OnOk r (P e) → IfErr r (λ x. p ≡ Err x) → OnOk p (P f)
where_ended P e f (Ok a) (Ok z) q h k = subst P (sym q) h
where_ended P e f (Ok a) (Err x) q h k = tt
where_ended P e f (Err x) (Ok z) q h k = (let n : ◌≡◌ {A = Result (Unit {0}) EvalError} (Ok z) (Err x) = k in cc)
where_ended P e f (Err x) (Err y) q h k = tt

where_pushed : {A : Type 0} (P Q : A → Type 0) (S R : Type 0) (r : Result A EvalError) (p : Result (Unit {0}) EvalError) → OnOk p S → IfOk r P → IfOk r (λ gs. OnOk p (Q gs)) → IfErr r (λ e. p ≡ Err e) → ((gs : A) → S → P gs → Q gs → R) → OnOk p R
where_pushed P Q S R (Ok g) (Ok z) s h k f to = to g s h k
where_pushed P Q S R (Ok g) (Err e) s h k f to = tt
where_pushed P Q S R (Err e) (Ok z) s h k f to = (let q : ◌≡◌ {A = Result (Unit {0}) EvalError} (Ok z) (Err e) = f in cc)
where_pushed P Q S R (Err e) (Err x) s h k f to = tt

-- what stands for goals, with the entries that it is said of
adds_moved : (ts us : List Tree) (e i f j : Entries) (k : CurrentGoalKind) (w : GoalSource) (gs : List Goal) (xs : List (GoalSource × Goal)) → e ≡ i → j ≡ f → AddsEach ts us e f k w gs xs → AddsEach ts us i j k w gs xs
adds_moved ts us e i f j k w gs xs p q h = subst (λ z. AddsEach ts us i z k w gs xs) (sym q) (subst (λ z. AddsEach ts us z f k w gs xs) p h)

pub no_goals : (gs : List Goal) → (length gs == 0) ≡ true → gs ≡ []
no_goals gs e = nil_from_length gs (eqb-true (length gs) 0 e)

-- nothing stands for no goals
pub adds_none : (ts : List Tree) (e : Entries) (w : GoalSource) (gs : List Goal) → gs ≡ [] → AddsEach ts ts e e kind.Misc w gs []
adds_none ts e w gs q = subst (λ z. AddsEach ts ts e e kind.Misc w z []) (sym q) (refl, refl, refl)

-- what was found out in a snapshot, and pushed, and committed
pub adds_to : {A : Type 0} (a b : Cx) (t s u v : Table) (w : GoalSource) (gs : List Goal) (old new : List (GoalSource × Goal)) (items : A → List (GoalSource × Goal)) (r : Result A EvalError) (p : Result (Unit {0}) EvalError) → s.entries ≡ t.entries → OnOk p (v.entries ≡ u.entries)
    → IfOk r (λ z. AddsEach a.nodes b.nodes s.entries u.entries kind.Misc w gs (items z)) → IfOk r (λ z. OnOk p (new ≡ old ++ items z)) → IfErr r (λ e. p ≡ Err e) → OnOk p (AddsTo a b t v w gs old new)
adds_to a b t s u v w gs old new items r p es ev h add f =
    where_pushed (λ z. AddsEach a.nodes b.nodes s.entries u.entries kind.Misc w gs (items z)) (λ z. new ≡ old ++ items z) (v.entries ≡ u.entries) (AddsTo a b t v w gs old new) r p ev h add f
    (λ z q i j. record { added = items z; adds = adds_moved a.nodes b.nodes s.entries t.entries u.entries v.entries kind.Misc w gs (items z) es q i; behind = j })

pub adds_related : {A : Type 0} (a b : Cx) (t s u v : Table) (m n : EvalState) (env : ParamEnv) (w : Variance) (x y : NodeId) (items : A → List (GoalSource × Goal)) (r : Result A EvalError) (p : Result (Unit {0}) EvalError) → s.entries ≡ t.entries → OnOk p (v.entries ≡ u.entries)
    → IfOk r (λ z. RelatesAdding a b s.entries u.entries env w x y (items z)) → IfOk r (λ z. OnOk p (n.nested_goals.items ≡ m.nested_goals.items ++ items z)) → IfErr r (λ e. p ≡ Err e) → OnOk p (AddsRelated a b t v m n env w x y)
adds_related a b t s u v m n env w x y items r p es ev h add f =
    where_pushed (λ z. RelatesAdding a b s.entries u.entries env w x y (items z)) (λ z. n.nested_goals.items ≡ m.nested_goals.items ++ items z) (v.entries ≡ u.entries) (AddsRelated a b t v m n env w x y) r p ev h add f
    (λ z q i j. record {
      added = items z;
      related = subst (λ e. RelatesAdding a b t.entries e env w x y (items z)) (sym q) (subst (λ e. RelatesAdding a b e u.entries env w x y (items z)) es i);
      behind = j;
    })

-- .. and where the fault of the answer is kept, the goals are those that were added
pub related_noted : (a b : Cx) (t u : Table) (m n k : EvalState) (env : ParamEnv) (w : Variance) (x y : NodeId) (r : Result (Unit {0}) EvalError) → k.nested_goals.items ≡ n.nested_goals.items → OnOk r (AddsRelated a b t u m n env w x y) → OnOk r (AddsRelated a b t u m k env w x y)
related_noted a b t u m n k env w x y (Ok z) e h = record { added = h.added; related = h.related; behind = e ∙ h.behind }
related_noted a b t u m n k env w x y (Err z) e h = tt

pub adds_rigidly : {A : Type 0} (a b : Cx) (t s u v : Table) (m n : EvalState) (env : ParamEnv) (w : Variance) (x : AliasTerm) (y : NodeId) (items : A → List (GoalSource × Goal)) (r : Result A EvalError) (p : Result (Unit {0}) EvalError) → s.entries ≡ t.entries → OnOk p (v.entries ≡ u.entries)
    → IfOk r (λ z. AddsRigidly a b s.entries u.entries env w x y (items z)) → IfOk r (λ z. OnOk p (n.nested_goals.items ≡ m.nested_goals.items ++ items z)) → IfErr r (λ e. p ≡ Err e) → OnOk p (AddsRelatedRigidly a b t v m n env w x y)
adds_rigidly a b t s u v m n env w x y items r p es ev h add f =
    where_pushed (λ z. AddsRigidly a b s.entries u.entries env w x y (items z)) (λ z. n.nested_goals.items ≡ m.nested_goals.items ++ items z) (v.entries ≡ u.entries) (AddsRelatedRigidly a b t v m n env w x y) r p ev h add f
    (λ z q i j. record {
      added = items z;
      related = subst (λ e. AddsRigidly a b t.entries e env w x y (items z)) (sym q) (subst (λ e. AddsRigidly a b e u.entries env w x y (items z)) es i);
      behind = j;
    })

pub adds_nothing : {A : Type 0} (a b : Cx) (t s u v : Table) (m n : EvalState) (x y : NodeId) (items : A → List (GoalSource × Goal)) (r : Result A EvalError) (p : Result (Unit {0}) EvalError) → s.entries ≡ t.entries → OnOk p (v.entries ≡ u.entries)
    → IfOk r (λ z. LeavesNothing a b s.entries u.entries x y (items z)) → IfOk r (λ z. OnOk p (n.nested_goals.items ≡ m.nested_goals.items ++ items z)) → IfErr r (λ e. p ≡ Err e) → OnOk p (AreEquatedIn a b t v m n x y)
adds_nothing a b t s u v m n x y items r p es ev h add f =
    where_pushed (λ z. LeavesNothing a b s.entries u.entries x y (items z)) (λ z. n.nested_goals.items ≡ m.nested_goals.items ++ items z) (v.entries ≡ u.entries) (AreEquatedIn a b t v m n x y) r p ev h add f
    (λ z q i j.
    let one : LeavesNothing a b t.entries v.entries x y (items z) = subst (λ e. LeavesNothing a b t.entries e x y (items z)) (sym q) (subst (λ e. LeavesNothing a b e u.entries x y (items z)) es i) in
    record { goals = j ∙ ap (λ xs. m.nested_goals.items ++ xs) one.none ∙ append-nil m.nested_goals.items; related = one.related; labels = one.labels })

-- goals of a table are goals of one of the same entries
posed_same : (ts : List Tree) (u v : Table) (gs : List (GoalSource × Goal)) → IsTable ts v → v.entries ≡ u.entries → ArePosedIn ts u gs → ArePosedIn ts v gs
posed_same ts u v gs w e h = λ k d l. let p = h k d l in record { table = w; holds = p.holds; knows = record { env = rw e p.knows.env; predicate = rw e p.knows.predicate } }

-- so the goals are goals of store and table afterwards
pub posed_pushed : {A : Type 0} {a b : List Tree} {t v : Table} (u : Table) (old new : List (GoalSource × Goal)) (items : A → List (GoalSource × Goal)) (r : Result A EvalError) (p : Result (Unit {0}) EvalError) → Goes a b t v → OnOk p (v.entries ≡ u.entries) → ArePosedIn a t old
    → IfOk r (λ z. ArePosedIn b u (items z)) → IfOk r (λ z. OnOk p (new ≡ old ++ items z)) → IfErr r (λ e. p ≡ Err e) → OnErr p (new ≡ old) → ArePosedIn b v new
posed_pushed {b = b} {v = v} u old new items (Ok z) (Ok y) g e h k add f q = rw add (All-append (λ x. IsPosed b v x.1) old (items z) (posed_later old g h) (posed_same b u v (items z) g.table e k))
posed_pushed u old new items (Ok z) (Err y) g e h k add f q = rw q (posed_later old g h)
posed_pushed u old new items (Err z) (Ok y) g e h k add f q = (let no : ◌≡◌ {A = Result (Unit {0}) EvalError} (Ok y) (Err z) = f in cc)
posed_pushed u old new items (Err z) (Err y) g e h k add f q = rw q (posed_later old g h)

-- where nothing was left of two values that were made equal, nothing is added
pub leaves_nothing : (a m b : Cx) (e i f : Entries) (x y : NodeId) (gs : List Goal) (added : List (GoalSource × Goal)) → AreMadeEqual (content_of a.nodes e) (content_of m.nodes i) (tree_at a.nodes x) (tree_at a.nodes y) gs → AddsEach m.nodes b.nodes i f kind.Misc source.TypeRelating gs added → LeavesNothing a b e f x y added
leaves_nothing a m b e i f x y gs added h k =
    let none : AddsEach m.nodes b.nodes i f kind.Misc source.TypeRelating [] added = subst (λ z. AddsEach m.nodes b.nodes i f kind.Misc source.TypeRelating z added) h.none k in
    let same : content_of b.nodes f ≡ content_of m.nodes i = ap (λ z. content_of z f) none.0 ∙ ap (content_of m.nodes) none.1 in
    record { none = none.2; related = rw same h.related; labels = rw same h.labels }

-- an environment stays one of the store and the table
pub env_later : {a b : Cx} {t u : Table} {env : ParamEnv} → Runs a b t u → IsEnvOf a t env → IsEnvOf b u env
env_later {a} {b} {t} {u} {env} k e =
    let g = k.goes in
    let ext = g.extends in
    let held = e.holds in
    record {
      holds = Holds-extended _ env.node ext held;
      knows = rw (ext.kept env.node held.within) (Knows-kept (content_of a.nodes t.entries) (content_of b.nodes u.entries) (tree_at a.nodes env.node) (let n = g.continues in record { grows = n.grows; kinds = n.kinds }) e.knows);
    }

-- the goals that are answered
pub answered_posed : {A : Type 0} {a b : Cx} {t u : Table} {env : ParamEnv} (declared : ℕ → List Variance) (v : Variance) (x y : Tree) (items : A → List Goal) (r : Result A EvalError) → Runs a b t u → IsEnvOf a t env
    → IfOk r (λ gs. IsRelatedBy declared a.nodes b.nodes t.entries u.entries env v x y (items gs)) → IfOk r (λ gs. All (IsPosed b.nodes u) (items gs))
answered_posed {A} {a} {b} {t} {u} {env} declared v x y items (Ok z) k e r =
    let later = env_later k e in
    goals_posed b.nodes u env r.pairs (items z) k.goes.table later.holds later.knows r.goals
answered_posed declared v x y items (Err z) k e r = tt
