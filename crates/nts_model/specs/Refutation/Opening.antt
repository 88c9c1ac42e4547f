-- A goal that binds variables is answered in a new universe, with placeholders of that universe in place of what it binds.
use Rattle.std.specs.Prelude.{ℕ, ◌+◌, Bool, true, false, if◌then◌else◌, Option, Some, None}
use Rattle.nts_model.specs.declared.labels.Sort.{Sort}
use Rattle.nts_model.specs.declared.labels.Sort.TheVariants as sort
use Rattle.nts_model.specs.declared.labels.FreeRegion.TheVariants as region
use Rattle.nts_model.specs.declared.labels.Constant.TheVariants as constant
use Rattle.nts_model.specs.declared.labels.Leaf.{Leaf}
use Rattle.nts_model.specs.declared.labels.Leaf.TheVariants as leaf
use Rattle.nts_model.specs.declared.labels.ListHead.TheVariants as list
use Rattle.nts_model.specs.declared.labels.Label.{Label}
use Rattle.nts_model.specs.declared.labels.Label.TheVariants as label
use Rattle.nts_model.specs.Terms.Trees.{Tree, empty, more, node, variable_of}
use Rattle.nts_model.specs.Tables.Contents.{Content, universe_of, in_universe}
use Rattle.nts_model.specs.Terms.Placeholders.{leaf_level}
use Rattle.nts_model.specs.Tables.Resolving.{number_of}
use Rattle.nts_model.specs.Derivations.Related.{unbound}
use Rattle.nts_model.specs.Derivations.Rules.{statement_of, opened}

-- whether a predicate binds a variable
abbrev pub binds : Tree → Bool
binds (node (label.List list.Binder) (more (node (label.List list.Sorts) (more s ss)) (more t empty))) = true
binds t = false

-- the placeholder of a universe for a bound variable
abbrev pub placeholder_in : ℕ → Sort → ℕ → Leaf
placeholder_in u sort.Ty n = leaf.TyConstant (constant.Placeholder u n)
placeholder_in u sort.Const n = leaf.ConstConstant (constant.Placeholder u n)
placeholder_in u sort.Region n = leaf.Region (region.Placeholder u n)

-- the table in which a goal is answered, and what is answered there
abbrev pub entered_table : Content → Tree → Content
entered_table c g = if binds g then in_universe c (c.universe + 1) else c

abbrev pub opened_in : Content → Tree → Tree
opened_in c g = if binds g then unbound (opened (placeholder_in (c.universe + 1)) 0 (statement_of g)) else g

-- the universe of a label: a variable's, or a placeholder's
abbrev pub label_universe : Content → Option ℕ → Label → Option ℕ
label_universe c (Some n) l = universe_of c n
label_universe c None l = leaf_level l

abbrev pub universe_in : Content → Label → Option ℕ
universe_in c l = label_universe c (number_of (variable_of l)) l
