use Rattle.std.proofs.Common.{◌≡◌}
use Rattle.nts_store.specs.declared.fault.EvalError.TheVariants.{Memory}
use Rattle.nts_folding.specs.Folding.{anywhere}
use Rattle.nts_folding.proofs.Folded.{on_err}
use Rattle.nts_normalize.specs.Normalizing.{StopsNormalizing}
use Rattle.nts_normalize.specs.Walking.{standing_with}
use Rattle.nts_normalize.proofs.folder.NormalizationFolder.fold.Goals as goal

pub returns-in_err-before-clause-err : goal.returns-in_err-before-clause-err
returns-in_err-before-clause-err g c =
    let stops = StopsNormalizing g.F.FnMut (standing_with c.args.cx.now.nodes c.args.table.now c.args.self.now) (g.T.TypeFoldable.tree c.args.cx.now.nodes c.args.value) in
    on_err stops (λ e. e ≡ Memory) c.from_residual.result c.from_residual.ensures.1 (λ e q. anywhere (λ t. q))
