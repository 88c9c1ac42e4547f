use Rattle.std.proofs.Common.{◌∙◌}
use Rattle.nts_unify.proofs.SavedLemmas.{after_attempt}
use Rattle.nts_unify.specs.Lawful.{IsLawful-extended}
use Rattle.nts_unify.specs.Reading.{IsLawful}
use Rattle.nts_solver_relating.proofs.GoalsLeft.{on_ok}
use Rattle.nts_solver_relating.proofs.nodes.relate_or_leave.Goals as goal

pub returns-clause-lawful : goal.returns-clause-lawful
returns-clause-lawful c =
    let run = c.relate_for_goals-related.ensures in
    let end = c.commit_if_ok.ensures in
    after_attempt c.args.table.now c.relate_for_goals-related.new.table c.commit_if_ok.new.self (IsLawful c.relate_for_goals-related.new.nodes) c.relate_for_goals-related.result (run.changes.saved ∙ c.in_ok-snapshot.ensures.saved) (rw end.same at end.ok) (rw end.same at end.err) (on_ok c.relate_for_goals-related.result run.lawful) (IsLawful-extended run.extends c.requires.lawful)
