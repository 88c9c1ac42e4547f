-- What contexts keep, composed.
use Rattle.std.proofs.Common.{◌≡◌, true, zero, suc, arith, List, [], ◌∷◌, ◌++◌, map, Option, Some, None, refl, ap, ◌∙◌, subst, MutBor}
use Rattle.std.specs.Prelude.{IfSome, All, Result, Ok, Err, OnOk, OnErr}
use Rattle.std.proofs.lemmas.List.Elements.{All-append, All-map}
use Rattle.nts_model.specs.Terms.Trees.{Tree}
use Rattle.nts_store.specs.declared.fault.Fault.{Fault}
use Rattle.nts_store.specs.declared.fault.EvalError.{EvalError}
use Rattle.nts_store.specs.Growth.{Extends}
use Rattle.nts_terms.specs.declared.cx.Cx.{Cx}
use Rattle.nts_terms.specs.declared.handles.Goal.{Goal}
use Rattle.nts_certainty.specs.declared.sources.GoalSource.{GoalSource}
use Rattle.nts_table.specs.Tables.{Table, IsTable, RelatingKeeps}
use Rattle.nts_evaluation.specs.nts_meaning.specs.Evaluation.{Runs, IsPosed}
use Rattle.nts_model.specs.Tables.Equations.{AreRelated}
use Rattle.nts_unify.specs.Reading.{content_of}
use Rattle.nts_unify.proofs.Keeping.{closed_later}
use Rattle.nts_evaluation.specs.nts_meaning.proofs.Evaluating.{Runs-trans, Runs-refl, runs-back, goes}
use Rattle.nts_evaluation.specs.nts_trying.proofs.Stepping.{posed_later}
use Rattle.nts_nested_goals.specs.declared.state.EvalState.{EvalState}
use Rattle.nts_contexts.specs.declared.context.EvalCtxt.{EvalCtxt}
use Rattle.nts_nested_goals.specs.Faults.{fault_after}
use Rattle.nts_evaluation.specs.nts_trying.specs.Stepping.{ArePosed}
use Rattle.nts_contexts.specs.Contexts.{IsContextReady, KeepsContext}

fault-kept : (a b c : Option Fault) → IfSome a (λ f. b ≡ Some f) → IfSome b (λ f. c ≡ Some f) → IfSome a (λ f. c ≡ Some f)
fault-kept None b c h k = tt
fault-kept (Some f) b c h k = rw h at k

pub keeps_then : {H : Type 0} {ready : List Tree → H → Type 0} {a b c : EvalCtxt H} → KeepsContext ready a b → KeepsContext ready b c → KeepsContext ready a c
keeps_then {H} {ready} {a} {b} {c} g h =
    record {
      table = h.table ∙ g.table;
      cx = h.cx ∙ g.cx;
      state = h.state ∙ g.state;
      handler = h.handler ∙ g.handler;
      runs = Runs-trans g.runs h.runs;
      is_ready = h.is_ready;
      fault = fault-kept a.state.now.fault b.state.now.fault c.state.now.fault g.fault h.fault;
      taint = λ t. h.taint (g.taint t);
      depth = h.depth ∙ g.depth;
    }

-- one goal more, and more goals
one_posed : {ts : List Tree} {t : Table} (g : GoalSource × Goal) → IsPosed ts t g.1 → ArePosed ts t (g ∷ [])
one_posed g p zero d l = p
one_posed g p (suc k) d l = absurd (omega arith)

pub posed_push : {ts : List Tree} {t : Table} (gs : List (GoalSource × Goal)) (g : GoalSource × Goal) → ArePosed ts t gs → IsPosed ts t g.1 → ArePosed ts t (gs ++ g ∷ [])
posed_push {ts} {t} gs g h p = All-append (λ x. IsPosed ts t x.1) gs (g ∷ []) h (one_posed g p)

pub posed_more : {ts : List Tree} {t : Table} (gs : List (GoalSource × Goal)) (s : GoalSource) (hs : List Goal) → ArePosed ts t gs → All (IsPosed ts t) hs → ArePosed ts t (gs ++ map (λ g. (s, g)) hs)
posed_more {ts} {t} gs s hs h p = All-append (λ x. IsPosed ts t x.1) gs (map (λ g. (s, g)) hs) h (All-map (λ x. IsPosed ts t x.1) (λ g. (s, g)) hs p)

-- a fault stays, where there is none
none_kept : (P : Fault → Type 0) (o : Option Fault) → o ≡ None → IfSome o P
none_kept P o e = rw e tt

same_fault : (o : Option Fault) → IfSome o (λ f. o ≡ Some f)
same_fault None = tt
same_fault (Some f) = refl

pub keeps_refl : {H : Type 0} {ready : List Tree → H → Type 0} {a : EvalCtxt H} → IsContextReady ready a → KeepsContext ready a a
keeps_refl {H} {ready} {a} h =
    record {
      table = refl;
      cx = refl;
      state = refl;
      handler = refl;
      runs = Runs-refl h.table;
      is_ready = h;
      fault = same_fault a.state.now.fault;
      taint = λ t. t;
      depth = refl;
    }

-- the first fault stays
first_kept : {R : Type 0} (o : Option Fault) (r : Result R EvalError) → IfSome o (λ f. fault_after o r ≡ Some f)
first_kept None r = tt
first_kept (Some f) r = refl

-- a call that was refused: the table is as before, and what was answered was noted
pub keeps_refused : {H : Type 0} {ready : List Tree → H → Type 0} {a b : EvalCtxt H} {R : Type 0} (r : Result R EvalError) → IsContextReady ready a
    → b.table.ghost_name ≡ a.table.ghost_name → b.cx ≡ a.cx → b.handler ≡ a.handler → b.state.ghost_name ≡ a.state.ghost_name
    → b.table.now ≡ a.table.now → b.state.now ≡ record a.state.now { fault = fault_after a.state.now.fault r } → KeepsContext ready a b
keeps_refused {H} {ready} {a} {b} r h nt nc nh ns t s =
    record {
      table = nt;
      cx = ap (λ (m : MutBor Cx). m.ghost_name) nc;
      state = ns;
      handler = nh;
      runs = rw (nc, t) (Runs-refl h.table);
      is_ready = record { table = rw (nc, t) h.table; goals = rw (nc, t, s) h.goals; handler = rw (nc, nh) h.handler };
      fault = rw s (first_kept a.state.now.fault r);
      taint = λ x. ap (λ (z : EvalState). z.is_tainted) s ∙ x;
      depth = ap (λ (z : EvalState). z.root_depth) s;
    }

-- relating runs on
pub related_runs : {a b : Cx} {t u : Table} {R E : Type 0} (x y : Tree) (r : Result R E) → IsTable a.nodes t → RelatingKeeps a b t u → OnOk r (AreRelated (content_of a.nodes t.entries) (content_of b.nodes u.entries) x y) → OnErr r (u ≡ t) → Runs a b t u
related_runs x y (Ok z) w k e q =
    let g = k.grows in
    record { goes = goes w g.extends k.table e.continues k.saved k.mode k.hidden (λ h. closed_later k.later h); rest = g.rest }
related_runs x y (Err z) w k e q = (let g = k.grows in runs-back w g.extends g.rest q)

-- the goals after one more, or more, or a refusal
pub posed_after : {ts : List Tree} {t : Table} {R E : Type 0} (r : Result R E) (gs hs more : List (GoalSource × Goal)) → OnOk r (hs ≡ gs ++ more) → OnErr r (hs ≡ gs) → ArePosed ts t gs → ArePosed ts t (gs ++ more) → ArePosed ts t hs
posed_after (Ok x) gs hs more e q h p = rw e p
posed_after (Err x) gs hs more e q h p = rw q h

-- a context without a fault after a call on its store and table, which left the state m with goals of both, tainted at least as
-- before, and in which the answer was noted
pub keeps_ended : {H : Type 0} {ready : List Tree → H → Type 0} {a b : EvalCtxt H} (m : EvalState) (f : Option Fault)
    → ((x y : List Tree) (h : H) → ready x h → Extends x y → ready y h) → IsContextReady ready a
    → b.table.ghost_name ≡ a.table.ghost_name → b.cx.ghost_name ≡ a.cx.ghost_name → b.handler ≡ a.handler → b.state.ghost_name ≡ a.state.ghost_name
    → Runs a.cx.now b.cx.now a.table.now b.table.now → b.state.now ≡ record m { fault = f } → ArePosed b.cx.now.nodes b.table.now m.nested_goals.items
    → a.state.now.fault ≡ None → (a.state.now.is_tainted ≡ true → m.is_tainted ≡ true) → m.root_depth ≡ a.state.now.root_depth → KeepsContext ready a b
keeps_ended {H} {ready} {a} {b} m f law h nt nc nh ns k s p none t d =
    let g = k.goes in
    record {
      table = nt;
      cx = nc;
      state = ns;
      handler = nh;
      runs = k;
      is_ready = record {
        table = g.table;
        goals = rw s p;
        handler = rw nh (law a.cx.now.nodes b.cx.now.nodes a.handler.now h.handler g.extends);
      };
      fault = none_kept _ a.state.now.fault none;
      taint = λ x. ap (λ (z : EvalState). z.is_tainted) s ∙ t x;
      depth = ap (λ (z : EvalState). z.root_depth) s ∙ d;
    }

-- .. tainted as before
pub keeps_grown : {H : Type 0} {ready : List Tree → H → Type 0} {a b : EvalCtxt H} (m : EvalState) (f : Option Fault)
    → ((x y : List Tree) (h : H) → ready x h → Extends x y → ready y h) → IsContextReady ready a
    → b.table.ghost_name ≡ a.table.ghost_name → b.cx.ghost_name ≡ a.cx.ghost_name → b.handler ≡ a.handler → b.state.ghost_name ≡ a.state.ghost_name
    → Runs a.cx.now b.cx.now a.table.now b.table.now → b.state.now ≡ record m { fault = f } → ArePosed b.cx.now.nodes b.table.now m.nested_goals.items
    → a.state.now.fault ≡ None → m.is_tainted ≡ a.state.now.is_tainted → m.root_depth ≡ a.state.now.root_depth → KeepsContext ready a b
keeps_grown m f law h nt nc nh ns k s p none t d = keeps_ended m f law h nt nc nh ns k s p none (λ x. t ∙ x) d

-- .. whose goals were of the store and the table before
pub keeps_ran : {H : Type 0} {ready : List Tree → H → Type 0} {a b : EvalCtxt H} (m : EvalState) (f : Option Fault)
    → ((x y : List Tree) (h : H) → ready x h → Extends x y → ready y h) → IsContextReady ready a
    → b.table.ghost_name ≡ a.table.ghost_name → b.cx.ghost_name ≡ a.cx.ghost_name → b.handler ≡ a.handler → b.state.ghost_name ≡ a.state.ghost_name
    → Runs a.cx.now b.cx.now a.table.now b.table.now → b.state.now ≡ record m { fault = f } → ArePosed a.cx.now.nodes a.table.now m.nested_goals.items
    → a.state.now.fault ≡ None → m.is_tainted ≡ a.state.now.is_tainted → m.root_depth ≡ a.state.now.root_depth → KeepsContext ready a b
keeps_ran m f law h nt nc nh ns k s p none t d = keeps_grown m f law h nt nc nh ns k s (posed_later m.nested_goals.items k.goes p) none t d

-- a call that was answered met no fault
pub none_after : {R : Type 0} {f : Option Fault} (o : Option Fault) (x : R) → o ≡ None → f ≡ fault_after o (let r : Result R EvalError = Ok x in r) → f ≡ None
none_after {R} {f} o x e h = subst (λ z. f ≡ fault_after z (let r : Result R EvalError = Ok x in r)) e h
