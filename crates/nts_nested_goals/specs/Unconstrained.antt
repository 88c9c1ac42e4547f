-- A goal that normalizes an alias to a variable of which nothing else is asked.
use Rattle.std.specs.Prelude.{◌≡◌, ◌≢◌, ℕ, Option, Some, None, option_map, slice_get}
use Rattle.nts_model.specs.declared.labels.VariableKind.{VariableKind}
use Rattle.nts_model.specs.declared.labels.VariableKind.TheVariants as kind
use Rattle.nts_model.specs.declared.labels.Leaf.{Leaf}
use Rattle.nts_model.specs.declared.labels.Leaf.TheVariants as leaf
use Rattle.nts_model.specs.declared.labels.Label.{Label}
use Rattle.nts_model.specs.declared.labels.Label.TheVariants as label
use Rattle.nts_model.specs.declared.labels.AliasHead.{AliasHead}
use Rattle.nts_model.specs.declared.labels.PredicateHead.TheVariants as predicate
use Rattle.nts_model.specs.Terms.Trees.{Tree, node, variable_tree}
use Rattle.nts_model.specs.Terms.Placeholders.{CanName, constant_level}
use Rattle.nts_model.specs.Tables.Contents.{Content, universe_of}
use Rattle.nts_model.specs.Tables.Passing.{AllLabels}
use Rattle.nts_model.specs.Derivations.Related.{pair}
use Rattle.nts_model.specs.Derivations.Rules.{statement_of}
use Rattle.nts_unify.specs.declared.contents.Variable.{Variable}
use Rattle.nts_unify.specs.Entries.{Entries}

-- the universe of a type or const variable, where each variable has that of its number, or of a placeholder of a type or const
abbrev pub variable_universe : (ℕ → Option ℕ) → VariableKind → ℕ → Option ℕ
variable_universe f kind.Ty n = f n
variable_universe f kind.Const n = f n
variable_universe f k n = None

abbrev pub leaf_universe : (ℕ → Option ℕ) → Leaf → Option ℕ
leaf_universe f (leaf.Variable k n) = variable_universe f k n
leaf_universe f (leaf.Region r) = None
leaf_universe f (leaf.TyConstant a) = constant_level a
leaf_universe f (leaf.ConstConstant a) = constant_level a

abbrev pub term_universe : (ℕ → Option ℕ) → Label → Option ℕ
term_universe f (label.Leaf l) = leaf_universe f l
term_universe f l = None

-- a label asks nothing of the variable x of universe u: it is another one, and u names it if it is such a variable or placeholder
pub record Spares (f : ℕ → Option ℕ) (x : Label) (u : ℕ) (l : Label) : Type 0 where
  pub other : l ≢ x
  pub named : CanName u (term_universe f l)

-- by the entries of a table
abbrev pub universe_at : Entries → ℕ → Option ℕ
universe_at e n = option_map (λ (v : Variable). v.universe) (slice_get e.variables n)

-- a goal, as the table knows it, normalizes an alias to a type or const variable that occurs neither in the alias nor in the
-- environment, and whose universe names each type or const variable, and each such placeholder, of the two
pub record IsFullyUnconstrained (c : Content) (e p : Tree) : Type 0 where
  pub head : AliasHead
  pub args : Tree
  pub kind : VariableKind
  pub number : ℕ
  pub universe : ℕ
  pub goal : statement_of p ≡ node (label.Predicate (predicate.NormalizesTo head)) (pair args (variable_tree kind number))
  pub within : variable_universe (universe_of c) kind number ≡ Some universe
  pub environment : AllLabels (Spares (universe_of c) (label.Leaf (leaf.Variable kind number)) universe) e
  pub alias : AllLabels (Spares (universe_of c) (label.Leaf (leaf.Variable kind number)) universe) args
