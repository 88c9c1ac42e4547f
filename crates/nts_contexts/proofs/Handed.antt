-- What a closure is handed, in the context that it is called with, and later.
use Rattle.std.proofs.Common.{◌≡◌, ℕ, List}
use Rattle.nts_model.specs.Terms.Trees.{Tree, Place}
use Rattle.nts_store.specs.declared.nodes.NodeId.{NodeId}
use Rattle.nts_store.specs.Growth.{tree_at}
use Rattle.nts_terms.specs.declared.cx.Cx.{Cx}
use Rattle.nts_terms.specs.declared.handles.Goal.{Goal}
use Rattle.nts_terms.specs.declared.handles.ParamEnv.{ParamEnv}
use Rattle.nts_terms.proofs.Moved.{Holds-extended}
use Rattle.nts_unify.specs.Lawful.{content_of-extended}
use Rattle.nts_table.specs.Tables.{Table, IsTable, IsSide, IsPlainSide}
use Rattle.nts_evaluation.specs.nts_meaning.specs.Evaluation.{Goes, IsPosed}
use Rattle.nts_evaluation.specs.nts_meaning.proofs.Evaluating.{IsPosed-opened, IsPosed-later, Knows-goes}
use Rattle.nts_contexts.specs.declared.context.EvalCtxt.{EvalCtxt}
use Rattle.nts_contexts.specs.Contexts.{IsGoalOfContext, KeepsContext, IsRootContext, IsProbe}
use Rattle.nts_nested_goals.specs.Related.{IsEnvOf}
use Rattle.nts_nested_goals.proofs.Relates.{env_later}
use Rattle.nts_terms.specs.declared.modes.Span.{Span}
use Rattle.nts_nested_goals.specs.Probing.{IsOpened}

pub goal_in_root : {H : Type 0} {ready : List Tree → H → Type 0} {t : Table} {s : Cx} {h : H} {n : ℕ} {at : Span} {c : EvalCtxt H} {g : Goal} → IsRootContext ready t s h n at c → IsPosed s.nodes t g → IsGoalOfContext c g
goal_in_root r p = (let o = r.table in rw r.cx (IsPosed-opened p o.entries o.saved))

pub goal_in_probe : {H : Type 0} {ready : List Tree → H → Type 0} {a c : EvalCtxt H} {g : Goal} → IsProbe ready a c → IsGoalOfContext a g → IsGoalOfContext c g
goal_in_probe r p = (let o = r.table in rw r.cx (IsPosed-opened p o.entries o.saved))

pub goal_later : {H : Type 0} {ready : List Tree → H → Type 0} {a b : EvalCtxt H} {g : Goal} → KeepsContext ready a b → IsGoalOfContext a g → IsGoalOfContext b g
goal_later k p = (let r = k.runs in IsPosed-later r.goes p)

env_opened : {a : Cx} {t u : Table} {env : ParamEnv} → IsOpened t u → IsEnvOf a t env → IsEnvOf a u env
env_opened o s = (let e = o.entries in record { holds = s.holds; knows = rw e s.knows })

pub env_in_root : {H : Type 0} {ready : List Tree → H → Type 0} {t : Table} {s : Cx} {h : H} {n : ℕ} {at : Span} {c : EvalCtxt H} {env : ParamEnv} → IsRootContext ready t s h n at c → IsEnvOf s t env → IsEnvOf c.cx.now c.table.now env
env_in_root r e = rw r.cx (env_opened r.table e)

pub env_in_probe : {H : Type 0} {ready : List Tree → H → Type 0} {a c : EvalCtxt H} {env : ParamEnv} → IsProbe ready a c → IsEnvOf a.cx.now a.table.now env → IsEnvOf c.cx.now c.table.now env
env_in_probe r e = rw r.cx (env_opened r.table e)

pub env_kept : {H : Type 0} {ready : List Tree → H → Type 0} {a b : EvalCtxt H} {env : ParamEnv} → KeepsContext ready a b → IsEnvOf a.cx.now a.table.now env → IsEnvOf b.cx.now b.table.now env
env_kept k e = env_later k.runs e

side_opened : {ts : List Tree} {t u : Table} {p : Place} {x : NodeId} → IsOpened t u → IsSide p ts t x → IsSide p ts u x
side_opened o s = (let e = o.entries in record { holds = s.holds; known = rw e s.known })

plain_opened : {ts : List Tree} {t u : Table} {p : Place} {x : NodeId} → IsOpened t u → IsPlainSide p ts t x → IsPlainSide p ts u x
plain_opened o s = (let e = o.entries in record { holds = s.holds; known = rw e s.known; plain = rw e s.plain })

pub side_in_root : {H : Type 0} {ready : List Tree → H → Type 0} {t : Table} {s : Cx} {h : H} {n : ℕ} {at : Span} {c : EvalCtxt H} {p : Place} {x : NodeId} → IsRootContext ready t s h n at c → IsSide p s.nodes t x → IsSide p c.cx.now.nodes c.table.now x
side_in_root r d = rw r.cx (side_opened r.table d)

pub plain_in_root : {H : Type 0} {ready : List Tree → H → Type 0} {t : Table} {s : Cx} {h : H} {n : ℕ} {at : Span} {c : EvalCtxt H} {p : Place} {x : NodeId} → IsRootContext ready t s h n at c → IsPlainSide p s.nodes t x → IsPlainSide p c.cx.now.nodes c.table.now x
plain_in_root r d = rw r.cx (plain_opened r.table d)

pub side_in_probe : {H : Type 0} {ready : List Tree → H → Type 0} {a c : EvalCtxt H} {p : Place} {x : NodeId} → IsProbe ready a c → IsSide p a.cx.now.nodes a.table.now x → IsSide p c.cx.now.nodes c.table.now x
side_in_probe r d = rw r.cx (side_opened r.table d)

pub plain_in_probe : {H : Type 0} {ready : List Tree → H → Type 0} {a c : EvalCtxt H} {p : Place} {x : NodeId} → IsProbe ready a c → IsPlainSide p a.cx.now.nodes a.table.now x → IsPlainSide p c.cx.now.nodes c.table.now x
plain_in_probe r d = rw r.cx (plain_opened r.table d)

side_goes : {a b : List Tree} {t u : Table} {p : Place} {x : NodeId} → Goes a b t u → IsSide p a t x → IsSide p b u x
side_goes {a = a} {p = p} {x = x} g s =
    let e = g.extends in
    let h = s.holds in
    record { holds = Holds-extended p x e h; known = rw (e.kept x h.within) (Knows-goes (tree_at a x) g s.known) }

pub side_later : {H : Type 0} {ready : List Tree → H → Type 0} {a b : EvalCtxt H} {p : Place} {x : NodeId} → KeepsContext ready a b → IsSide p a.cx.now.nodes a.table.now x → IsSide p b.cx.now.nodes b.table.now x
side_later k d = (let r = k.runs in side_goes r.goes d)

plain_extended : {a b : List Tree} {t u : Table} {p : Place} {x : NodeId} → Goes a b t u → IsTable a t → u ≡ t → IsPlainSide p a t x → IsPlainSide p b u x
plain_extended {p = p} {x = x} g w q s =
    let e = g.extends in
    let h = s.holds in
    let same = content_of-extended e w.now in
    let kept = e.kept x h.within in
    record { holds = Holds-extended p x e h; known = rw (q, same, kept) s.known; plain = rw (q, same, kept) s.plain }

-- no alias comes in where the table stays
pub plain_later : {H : Type 0} {ready : List Tree → H → Type 0} {a b : EvalCtxt H} {p : Place} {x : NodeId} → KeepsContext ready a b → IsTable a.cx.now.nodes a.table.now → b.table.now ≡ a.table.now → IsPlainSide p a.cx.now.nodes a.table.now x → IsPlainSide p b.cx.now.nodes b.table.now x
plain_later k w q d = (let r = k.runs in plain_extended r.goes w q d)

pub ruleset handed = (goal_in_root, goal_in_probe, goal_later, env_in_root, env_in_probe, env_kept, side_in_root, plain_in_root, side_in_probe, plain_in_probe, side_later, plain_later)
