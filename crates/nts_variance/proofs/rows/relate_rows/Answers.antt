use Rattle.std.proofs.Common.{◌∙◌}
use Rattle.nts_unify.proofs.SavedLemmas.{after_attempt}
use Rattle.nts_unify.specs.Lawful.{IsLawful-extended}
use Rattle.nts_unify.specs.Reading.{IsLawful}
use Rattle.nts_variance.proofs.rows.relate_rows.Goals as goal

pub returns-clause-lawful : goal.returns-clause-lawful
returns-clause-lawful c =
    let run = c.relate_arguments-related.ensures in
    let end = c.commit_if_ok.ensures in
    after_attempt c.args.table.now c.relate_arguments-related.new.table c.commit_if_ok.new.self (IsLawful c.relate_arguments-related.new.nodes) c.relate_arguments-related.result (run.changes.saved ∙ c.in_ok-snapshot.ensures.saved) (rw end.same at end.ok) (rw end.same at end.err) run.lawful (IsLawful-extended run.extends c.requires.lawful)
