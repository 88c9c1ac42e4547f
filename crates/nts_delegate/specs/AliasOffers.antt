-- What a clause of an alias offers for a goal that normalizes the alias.
use Rattle.std.specs.Prelude.{◌≡◌, [], List, map}
use Rattle.nts_model.specs.Terms.Trees.{Tree, children, row_push}
use Rattle.nts_candidates.specs.nts_certainty.specs.declared.certainty.Certainty.TheVariants as certainty
use Rattle.nts_candidates.specs.nts_certainty.specs.declared.reruns.RerunCondition.TheVariants as rerun
use Rattle.nts_terms.specs.declared.handles.Goal.{Goal}
use Rattle.nts_store.specs.Growth.{tree_at}
use Rattle.nts_candidates.specs.declared.data.CandidateData.{CandidateData}
use Rattle.nts_delegate.specs.ClauseHandlers.{AliasAsked, asked_row}
use Rattle.nts_delegate.specs.Offers.{AreArgumentPairs, asked_by}
use Rattle.nts_delegate.specs.declared.alias_table.NormClause.{NormClause}

-- the arguments of a clause's head, and its result as the last
abbrev pub head_row : List Tree → NormClause → Tree
head_row ts c = row_push (children (tree_at ts c.head.node)) (tree_at ts c.result.node)

-- the arguments are those of the clause's head, the term is its result, and its body is to be proved
pub record IsNormalOffer (ts : List Tree) (g : Goal) (w : AliasAsked) (c : NormClause) (d : CandidateData) : Type 0 where
  pub fresh : d.fresh.items ≡ c.fresh.items
  pub equations : AreArgumentPairs ts (asked_row w) (head_row ts c) d.equations.items
  pub constraints : d.region_constraints.items ≡ []
  pub hidden : d.hidden_types.items ≡ []
  pub goals : d.goals.items ≡ map (asked_by g) c.body.items
  pub certainty : d.certainty ≡ certainty.Yes
  pub accesses : d.accesses ≡ rerun.Never
