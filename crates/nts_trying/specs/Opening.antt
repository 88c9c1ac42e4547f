-- A goal of the store and the table that was opened.
use Rattle.std.specs.Prelude.{◌≡◌, true, List}
use Rattle.nts_model.specs.Terms.Trees.{Tree, Place, is, statement, IsClosed}
use Rattle.nts_model.specs.Refutation.Opening.{binds, entered_table, opened_in}
use Rattle.nts_store.specs.Growth.{tree_at}
use Rattle.nts_unify.specs.Reading.{content_of}
use Rattle.nts_table.specs.Tables.{Table}
use Rattle.nts_terms.specs.declared.handles.Goal.{Goal}

-- where what a predicate states stands
abbrev pub a_statement : Place
a_statement = is statement

-- the goal h of the store b and the table u is the goal g of the store a and the table t, opened
pub record IsOpenedTo (a b : List Tree) (t u : Table) (g h : Goal) : Type 0 where
  pub closed : binds (tree_at a g.predicate.node) ≡ true → IsClosed (tree_at a g.predicate.node)
  pub table : content_of b u.entries ≡ entered_table (content_of a t.entries) (tree_at a g.predicate.node)
  pub environment : h.param_env ≡ g.param_env
  pub predicate : tree_at b h.predicate.node ≡ opened_in (content_of a t.entries) (tree_at a g.predicate.node)

-- a goal that binds variables and can't be opened: a variable escapes
pub record CannotOpen (p : Tree) : Type 0 where
  pub binds_some : binds p ≡ true
  pub escapes : IsClosed p → ⊥
