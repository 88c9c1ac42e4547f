-- What trying a candidate does.
use Rattle.std.specs.Prelude.{List, map}
use Rattle.nts_model.specs.declared.labels.Sort.{Sort}
use Rattle.nts_model.specs.Terms.Trees.{Tree}
use Rattle.nts_model.specs.Tables.Contents.{Content}
use Rattle.nts_model.specs.Refutation.Choosing.{Freshens, EquatesAll}
use Rattle.nts_store.specs.declared.nodes.NodeId.{NodeId}
use Rattle.nts_store.specs.Growth.{tree_at}
use Rattle.nts_table.specs.Tables.{Table}
use Rattle.nts_unify.specs.Reading.{content_of}
use Rattle.nts_candidates.specs.declared.data.Equation.{Equation}
use Rattle.nts_candidates.specs.Offered.{equation_of}

-- the values are new variables, under which the equations were made equal, one after the other: from the table t of the
-- store a to the table u of the store b
pub record EquatesCandidate (a b : List Tree) (t u : Table) (fresh : List Sort) (vs : List NodeId) (qs : List Equation) : Type 0 where
  pub made : Content
  pub freshens : Freshens t.entries.universe fresh (map (tree_at b) vs) (content_of a t.entries) made
  pub equates : EquatesAll (map (tree_at b) vs) (map (equation_of a) qs) made (content_of b u.entries)
