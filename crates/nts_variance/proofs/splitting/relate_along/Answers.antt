use Rattle.std.proofs.Common.{◌∙◌}
use Rattle.nts_unify.proofs.SavedLemmas.{after_attempt}
use Rattle.nts_unify.specs.Lawful.{IsLawful-extended}
use Rattle.nts_unify.specs.Reading.{IsLawful}
use Rattle.nts_variance.proofs.splitting.relate_along.Goals as goal

pub returns-clause-lawful : goal.returns-clause-lawful
returns-clause-lawful c =
    let run = c.run-related.ensures in
    let end = c.commit_if_ok.ensures in
    after_attempt c.args.table.now c.run-related.new.table c.commit_if_ok.new.self (IsLawful c.run-related.new.nodes) c.run-related.result (run.changes.saved ∙ c.in_ok-snapshot.ensures.saved) (rw end.same at end.ok) (rw end.same at end.err) run.lawful (IsLawful-extended run.extends c.requires.lawful)
