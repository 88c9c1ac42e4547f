-- Contexts as they begin.
use Rattle.std.proofs.Common.{◌≡◌, ℕ, List, [], None, false, arith}
use Rattle.nts_model.specs.Terms.Trees.{Tree}
use Rattle.nts_terms.specs.declared.cx.Cx.{Cx}
use Rattle.nts_terms.specs.declared.handles.Goal.{Goal}
use Rattle.nts_certainty.specs.declared.sources.GoalSource.{GoalSource}
use Rattle.nts_table.specs.Tables.{Table, IsTable}
use Rattle.nts_table.specs.TableLaws.{IsTable-opened}
use Rattle.nts_evaluation.specs.nts_meaning.proofs.Evaluating.{IsPosed-opened}
use Rattle.nts_contexts.specs.declared.context.EvalCtxt.{EvalCtxt}
use Rattle.nts_evaluation.specs.nts_trying.specs.Stepping.{ArePosed}
use Rattle.nts_contexts.specs.Contexts.{IsContextReady, IsProbe, IsRootContext}
use Rattle.nts_terms.specs.declared.modes.Span.{Span}
use Rattle.nts_nested_goals.specs.Probing.{IsOpened, IsCopy}

-- no goals
pub none_posed : {ts : List Tree} {t : Table} → ArePosed ts t []
none_posed k d l = absurd (omega arith)

-- goals, when a snapshot was opened
pub posed_opened : {ts : List Tree} {t u : Table} (gs : List (GoalSource × Goal)) → IsOpened t u → ArePosed ts t gs → ArePosed ts u gs
posed_opened gs o h = λ k d l. IsPosed-opened (h k d l) o.entries o.saved

-- a probe as it begins
pub probe_begun : {H : Type 0} {ready : List Tree → H → Type 0} {a c : EvalCtxt H} → IsContextReady ready a → a.state.now.fault ≡ None → IsOpened a.table.now c.table.now → c.cx.now ≡ a.cx.now → c.handler ≡ a.handler → IsCopy a.state.now c.state.now → IsProbe ready a c
probe_begun {H} {ready} {a} {c} h none o x q s =
    record {
      is_ready = record {
        table = rw x (IsTable-opened h.table o.entries o.saved);
        goals = rw (x, s.goals) (posed_opened a.state.now.nested_goals.items o h.goals);
        handler = rw (x, q) h.handler;
      };
      table = o;
      cx = x;
      handler = q;
      goals = s.goals;
      taint = s.taint;
      fault = s.fault;
      steps = s.steps;
      depth = s.depth;
      span = s.span;
    }

-- a root context as it begins
pub root_begun : {H : Type 0} {ready : List Tree → H → Type 0} {t : Table} {s : Cx} {h : H} {n : ℕ} {at : Span} {c : EvalCtxt H} → IsTable s.nodes t → ready s.nodes h → IsOpened t c.table.now → c.cx.now ≡ s → c.handler.now ≡ h
    → c.state.now.nested_goals.items ≡ [] → c.state.now.is_tainted ≡ false → c.state.now.fault ≡ None → c.state.now.last_steps ≡ 0 → c.state.now.root_depth ≡ n → c.state.now.span ≡ at → IsRootContext ready t s h n at c
root_begun w k o x q e t f z d y =
    record {
      is_ready = record { table = rw x (IsTable-opened w o.entries o.saved); goals = rw e none_posed; handler = rw (x, q) k };
      table = o;
      cx = x;
      handler = q;
      goals = e;
      taint = t;
      fault = f;
      steps = z;
      depth = d;
      span = y;
    }
