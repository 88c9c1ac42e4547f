use Rattle.nts_model.specs.declared.labels.Variance.TheVariants as variance
use Rattle.nts_meaning.proofs.Evaluating.{runs-back}
use Rattle.nts_trying.proofs.RelatedTypes.{relate_goes}
use Rattle.nts_trying.proofs.subtypes.relate_pair.Goals as goal

pub returns-in_err-left-clause-runs : goal.returns-in_err-left-clause-runs
returns-in_err-left-clause-runs c = (let k = c.relate.ensures.keeps in let g = k.grows in runs-back c.requires.posed.table g.extends g.rest c.in_err-left.ensures.err)

pub returns-in_err-goals-clause-runs : goal.returns-in_err-goals-clause-runs
returns-in_err-goals-clause-runs c =
    let k = c.relate.ensures.keeps in
    let g = k.grows in
    record { goes = relate_goes c.args.cx.now c.relate.new.cx c.args.table.now c.relate.new.self _ c.args.goal.param_env variance.Covariant _ _ _ c.requires.posed.table k c.in_ok-left.ensures.related; rest = g.rest }

pub returns-clause-runs : goal.returns-clause-runs
returns-clause-runs c =
    let k = c.relate.ensures.keeps in
    let g = k.grows in
    record { goes = relate_goes c.args.cx.now c.relate.new.cx c.args.table.now c.relate.new.self _ c.args.goal.param_env variance.Covariant _ _ _ c.requires.posed.table k c.in_ok-left.ensures.related; rest = g.rest }
