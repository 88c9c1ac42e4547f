-- The context of an evaluation, as its callers see it.
use Rattle.std.specs.Prelude.{◌≡◌, ◌⊎◌, ℕ, List, [], Some, None, IfSome, true, false, Result, Err, OnOk}
use Rattle.std.specs.Borrow.{MutBor}
use Rattle.nts_model.specs.Terms.Trees.{Tree}
use Rattle.nts_model.specs.Tables.Contents.{Content}
use Rattle.nts_store.specs.declared.nodes.NodeId.{NodeId}
use Rattle.nts_store.specs.declared.fault.Fault.TheVariants as fault
use Rattle.nts_store.specs.declared.fault.EvalError.{EvalError}
use Rattle.nts_store.specs.declared.fault.EvalError.TheVariants as error
use Rattle.nts_store.specs.Growth.{tree_at}
use Rattle.nts_terms.specs.declared.cx.Cx.{Cx}
use Rattle.nts_terms.specs.declared.handles.Goal.{Goal}
use Rattle.nts_unify.specs.Reading.{content_of}
use Rattle.nts_table.specs.Tables.{Table, IsTable}
use Rattle.nts_evaluation.specs.nts_meaning.specs.Evaluation.{Runs, IsPosed}
use Rattle.nts_evaluation.specs.nts_trying.specs.Stepping.{ArePosed}
use Rattle.nts_nested_goals.specs.declared.state.EvalState.{EvalState}
use Rattle.nts_contexts.specs.declared.context.EvalCtxt.{EvalCtxt}
use Rattle.nts_nested_goals.specs.Probing.{IsOpened}
use Rattle.nts_terms.specs.declared.modes.Span.{Span}

-- what a context's table stands for
abbrev pub content_in : {H : Type 0} → EvalCtxt H → Content
content_in c = content_of c.cx.now.nodes c.table.now.entries

-- the tree of a term of the context's store
abbrev pub tree_in : {H : Type 0} → EvalCtxt H → NodeId → Tree
tree_in c n = tree_at c.cx.now.nodes n

-- a goal of the context's store and table
abbrev pub IsGoalOfContext : {H : Type 0} → EvalCtxt H → Goal → Type 0
IsGoalOfContext c g = IsPosed c.cx.now.nodes c.table.now g

-- the context's table, goals and handler are of its store
pub record IsContextReady {H : Type 0} (ready : List Tree → H → Type 0) (c : EvalCtxt H) : Type 0 where
  pub table : IsTable c.cx.now.nodes c.table.now
  pub goals : ArePosed c.cx.now.nodes c.table.now c.state.now.nested_goals.items
  pub handler : ready c.cx.now.nodes c.handler.now

-- what each call leaves of a context: its parts are the same, store and table went on, a fault and the taint stay
pub record KeepsContext {H : Type 0} (ready : List Tree → H → Type 0) (old new : EvalCtxt H) : Type 0 where
  pub table : new.table.ghost_name ≡ old.table.ghost_name
  pub cx : new.cx.ghost_name ≡ old.cx.ghost_name
  pub state : new.state.ghost_name ≡ old.state.ghost_name
  pub handler : new.handler ≡ old.handler
  pub runs : Runs old.cx.now new.cx.now old.table.now new.table.now
  pub is_ready : IsContextReady ready new
  pub fault : IfSome old.state.now.fault (λ f. new.state.now.fault ≡ Some f)
  pub taint : old.state.now.is_tainted ≡ true → new.state.now.is_tainted ≡ true
  pub depth : new.state.now.root_depth ≡ old.state.now.root_depth

-- nothing was evaluated in between: the taint and the count of steps are as before
pub record EvaluatedNothing (old new : EvalState) : Type 0 where
  pub taint : new.is_tainted ≡ old.is_tainted
  pub steps : new.last_steps ≡ old.last_steps

-- a root context as it begins, over this table, store and handler, with this depth and place in the user's text
pub record IsRootContext {H : Type 0} (ready : List Tree → H → Type 0) (t : Table) (s : Cx) (h : H) (n : ℕ) (at : Span) (c : EvalCtxt H) : Type 0 where
  pub is_ready : IsContextReady ready c
  pub table : IsOpened t c.table.now
  pub cx : c.cx.now ≡ s
  pub handler : c.handler.now ≡ h
  pub goals : c.state.now.nested_goals.items ≡ []
  pub taint : c.state.now.is_tainted ≡ false
  pub fault : c.state.now.fault ≡ None
  pub steps : c.state.now.last_steps ≡ 0
  pub depth : c.state.now.root_depth ≡ n
  pub span : c.state.now.span ≡ at

-- the context of a probe as it begins, in that context
pub record IsProbe {H : Type 0} (ready : List Tree → H → Type 0) (outer c : EvalCtxt H) : Type 0 where
  pub is_ready : IsContextReady ready c
  pub table : IsOpened outer.table.now c.table.now
  pub cx : c.cx.now ≡ outer.cx.now
  pub handler : c.handler ≡ outer.handler
  pub goals : c.state.now.nested_goals.items ≡ outer.state.now.nested_goals.items
  pub taint : c.state.now.is_tainted ≡ outer.state.now.is_tainted
  pub fault : c.state.now.fault ≡ None
  pub steps : c.state.now.last_steps ≡ outer.state.now.last_steps
  pub depth : c.state.now.root_depth ≡ outer.state.now.root_depth
  pub span : c.state.now.span ≡ outer.state.now.span

-- a closure whose calls are such was called with a context that begins so, answered r, and left a context like that
pub record IsContextRun {H R : Type 0} (calls : MutBor (EvalCtxt H) → R → MutBor (EvalCtxt H) → Type 0) (begins : EvalCtxt H → Type 0) (r : R) (leaves : EvalCtxt H → Type 0) : Type 0 where
  pub before : MutBor (EvalCtxt H)
  pub after : MutBor (EvalCtxt H)
  pub begun : begins before.now
  pub called : calls before r after
  pub left : leaves after.now

-- a closure whose calls are such was called with a context that begins so, and answered r
pub record WasAnswered {H R : Type 0} (calls : MutBor (EvalCtxt H) → R → MutBor (EvalCtxt H) → Type 0) (begins : EvalCtxt H → Type 0) (r : R) : Type 0 where
  pub before : MutBor (EvalCtxt H)
  pub after : MutBor (EvalCtxt H)
  pub begun : begins before.now
  pub called : calls before r after

-- what a root context leaves: its store, and its table where it was answered; it has no fault
pub record IsLeftByRoot {H R E : Type 0} (r : Result R E) (t : Table) (s : Cx) (c : EvalCtxt H) : Type 0 where
  pub cx : s ≡ c.cx.now
  pub table : OnOk r (t.entries ≡ c.table.now.entries)
  pub fault : c.state.now.fault ≡ None

-- the universes ran out: that was answered, or the context keeps it as its fault
abbrev pub RanOut : {H R : Type 0} → Result R EvalError → EvalCtxt H → Type 0
RanOut r c = (r ≡ Err error.Full) ⊎ (c.state.now.fault ≡ Some fault.Full)

-- .. in a closure whose calls are such, called with a context that begins so
pub record RanOutIn {H R : Type 0} (calls : MutBor (EvalCtxt H) → Result R EvalError → MutBor (EvalCtxt H) → Type 0) (begins : EvalCtxt H → Type 0) : Type 0 where
  pub answer : Result R EvalError
  pub run : IsContextRun calls begins answer (RanOut answer)
