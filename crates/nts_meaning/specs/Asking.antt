-- A goal asked in a query of its own: its canonical input, the table that is made for that, the response, and what applying
-- the response adds to the table that asked.
use Rattle.std.specs.Prelude.{List, [], map}
use Rattle.nts_model.specs.Terms.Trees.{Tree}
use Rattle.nts_model.specs.Tables.Contents.{Content}
use Rattle.nts_model.specs.Terms.Substitutions.{leaf_tree, filled}
use Rattle.nts_model.specs.Canonical.Inputs.{CanonicalInput, PositionKind}
use Rattle.nts_unify.specs.Reading.{content_of}
use Rattle.nts_canonical.specs.Kinds.{value_leaves}
use Rattle.nts_canonical.specs.Building.{made_entries}

-- the table of a query at first, where its input has these kinds, and what stands for the positions there
abbrev pub first_table : List PositionKind → Content
first_table ks = content_of [] (made_entries ks [])

abbrev pub first_values : List PositionKind → List Tree
first_values ks = map leaf_tree (value_leaves 0 ks)

-- the goal of an input in that table
abbrev pub asked_environment : CanonicalInput → Tree
asked_environment f = filled (first_values f.kinds) f.environment

abbrev pub asked_predicate : CanonicalInput → Tree
asked_predicate f = filled (first_values f.kinds) f.predicate
