use Rattle.std.proofs.Common.{refl}
use Rattle.nts_table.specs.TableLaws.{IsTable-extended}
use Rattle.nts_asking.proofs.Asking.{IsAdmitted-extended}
use Rattle.nts_meaning.proofs.Evaluating.{IsPosed-admitted}
use Rattle.nts_meaning.proofs.Rounds.{search_begun}
use Rattle.nts_uses.proofs.cycle.ask_in_a_search.Goals as goal

pub query_of-requires : goal.query_of-requires
query_of-requires c =
    let e = c.in_ok-goal_is_admitted.ensures in
    record { posed = IsPosed-admitted (IsTable-extended e.grows.extends c.requires.table) (IsAdmitted-extended e.grows.extends c.requires.table (e.admitted.0 c.if-not-branch.false)) }

pub evaluate_input-requires-clause-search : goal.evaluate_input-requires-clause-search
evaluate_input-requires-clause-search c = search_begun c.new-graph.result.root_depth c.new-graph.ensures.stack c.new-graph.ensures.empty refl c.new-graph.ensures.rounds
