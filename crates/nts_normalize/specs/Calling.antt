-- Calls of a closure that normalizes: it is handed a table, a store and an alias, and answers a term and perhaps a goal.
use Rattle.std.specs.Prelude.{◌≡◌, List, Option, option_map, Result, Ok, Err, IfSome, IfOk}
use Rattle.std.specs.Borrow.{MutBor}
use Rattle.std.specs.Fn.{Mut, Called}
use Rattle.nts_model.specs.Terms.Trees.{Tree}
use Rattle.nts_model.specs.Tables.Contents.{Content}
use Rattle.nts_model.specs.Tables.Resolving.{Knows}
use Rattle.nts_model.specs.Derivations.Related.{pair}
use Rattle.nts_store.specs.declared.fault.EvalError.{EvalError}
use Rattle.nts_store.specs.Growth.{tree_at}
use Rattle.nts_terms.specs.declared.cx.Cx.{Cx}
use Rattle.nts_terms.specs.declared.handles.AliasTerm.{AliasTerm}
use Rattle.nts_terms.specs.declared.handles.Goal.{Goal}
use Rattle.nts_terms.specs.declared.handles.Term.{Term}
use Rattle.nts_terms.specs.Handles.{HoldsArgs, HoldsGoal, HoldsResult}
use Rattle.nts_terms.specs.Kinds.{tree_of_alias}
use Rattle.nts_terms.specs.Rest.{Grows}
use Rattle.nts_unify.specs.Reading.{content_of}
use Rattle.nts_table.specs.Tables.{Table, IsTable}
use Rattle.nts_table.specs.Frames.{ChangesEntries}

-- a goal as a tree, and the list of those that may be left
abbrev pub tree_of_goal : List Tree → Goal → Tree
tree_of_goal ts g = pair (tree_at ts g.param_env.node) (tree_at ts g.predicate.node)

-- what a call answers
abbrev pub Answer : Type 0
Answer = Result (Term × Option Goal) EvalError

-- a closure of this type
abbrev pub ClosureNormalizes : Type 0 → Type 1
ClosureNormalizes F = Mut F (MutBor Table × (MutBor Cx × (AliasTerm × Unit {0}))) (Answer × (MutBor Table × (MutBor Cx × Unit {0})))

module _ {F : Type 0} (g : ClosureNormalizes F) where
  -- the closure may be called so
  abbrev pub MayBeCalled : F → Table → Cx → AliasTerm → Type 0
  MayBeCalled f t cx a = (p : MutBor Table) (q : MutBor Cx) → p.now ≡ t → q.now ≡ cx → g.pre f (p, (q, (a, tt)))

  -- the call may give r, and leave the closure, the table and the store so
  pub record IsCalled (f : F) (t : Table) (cx : Cx) (a : AliasTerm) (r : Answer) (f' : F) (t' : Table) (cx' : Cx) : Type 0 where
    pub table : MutBor Table
    pub store : MutBor Cx
    pub at : (table.now ≡ t) × (store.now ≡ cx)
    pub left : MutBor Table × (MutBor Cx × Unit {0})
    pub called : Called g f (table, (store, (a, tt))) (r, left) f'
    pub leaves : (left.0.now ≡ t') × (left.1.0.now ≡ cx')

-- an alias over arguments of the store
abbrev pub IsAliasTerm : List Tree → AliasTerm → Type 0
IsAliasTerm ts a = HoldsArgs ts a.args

-- the answer is a term of the alias's sort that the table knows, and a goal of the store, if any
pub record IsAnswerIn (ts : List Tree) (t : Table) (a : AliasTerm) (r : Term × Option Goal) : Type 0 where
  pub holds : HoldsResult ts a r.0
  pub known : Knows (content_of ts t.entries) (tree_at ts r.0.node)
  pub goal : IfSome r.1 (HoldsGoal ts)

-- what one call keeps
pub record KeepsAll (t : Table) (cx : Cx) (a : AliasTerm) (r : Answer) (t' : Table) (cx' : Cx) : Type 0 where
  pub grows : Grows cx cx'
  pub table : IsTable cx'.nodes t'
  pub changes : ChangesEntries t t'
  pub answer : IfOk r (IsAnswerIn cx'.nodes t' a)

-- the closure may be called with each table and alias of a store; it keeps the terms of the store and the open snapshots and
-- the mode of the table, and answers a term of the alias's sort that the table knows
pub record IsNormalizer {F : Type 0} (g : ClosureNormalizes F) : Type 0 where
  pub callable : (f : F) (t : Table) (cx : Cx) (a : AliasTerm) → IsTable cx.nodes t → IsAliasTerm cx.nodes a → MayBeCalled g f t cx a
  pub keeps : (f : F) (t : Table) (cx : Cx) (a : AliasTerm) (r : Answer) (f' : F) (t' : Table) (cx' : Cx)
      → IsTable cx.nodes t → IsAliasTerm cx.nodes a → IsCalled g f t cx a r f' t' cx' → KeepsAll t cx a r t' cx'

-- the closure, handed a table of the content c and the alias x, may answer the term y and the goal o, and leave the table with
-- the content d
pub record ClosureAnswers {F : Type 0} (g : ClosureNormalizes F) (f : F) (c : Content) (x y : Tree) (o : Option Tree) (f' : F) (d : Content) : Type 0 where
  pub before : Table
  pub after : Table
  pub old : Cx
  pub new : Cx
  pub alias : AliasTerm
  pub term : Term
  pub goal : Option Goal
  pub called : IsCalled g f before old alias (Ok (term, goal)) f' after new
  pub content : content_of old.nodes before.entries ≡ c
  pub asked : tree_of_alias old.nodes alias ≡ x
  pub left : content_of new.nodes after.entries ≡ d
  pub answered : tree_at new.nodes term.node ≡ y
  pub ambiguous : option_map (tree_of_goal new.nodes) goal ≡ o

-- the closure, handed a table of the content c and the alias x, may answer the error e
pub record ClosureRefuses {F : Type 0} (g : ClosureNormalizes F) (f : F) (c : Content) (x : Tree) (e : EvalError) : Type 0 where
  pub before : Table
  pub after : Table
  pub old : Cx
  pub new : Cx
  pub alias : AliasTerm
  pub left : F
  pub called : IsCalled g f before old alias (Err e) left after new
  pub content : content_of old.nodes before.entries ≡ c
  pub asked : tree_of_alias old.nodes alias ≡ x
