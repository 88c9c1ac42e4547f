use Rattle.std.proofs.Common.{◌≡◌, [], rules, ap, ◌∙◌}
use Rattle.nts_model.specs.Canonical.Numbered.{seen}
use Rattle.nts_model.specs.Answers.Responses.{is_fixed}
use Rattle.nts_store.specs.declared.fault.Fault.TheVariants.{Memory}
use Rattle.nts_canonical.specs.nts_folding.proofs.Folded.{on_same_err, stops_only}
use Rattle.nts_canonical.specs.Mapping.{IsAny, itself}
use Rattle.nts_canonical.proofs.Mapped.{seeing, walk_mapped}
use Rattle.nts_canonicalizer.proofs.folding.leaves_of_value.Goals as goal

pub returns-clause-tree : goal.returns-clause-tree
returns-clause-tree g c = (walk_mapped IsAny itself (seen is_fixed) seeing _ _ _ _ tt c.in_ok-value.ensures.walk).0

pub returns-clause-leaves : goal.returns-clause-leaves
returns-clause-leaves g c =
    let x = g.T.TypeFoldable.tree c.args.cx.now.nodes c.args.value in
    let none : c.new.result ≡ [] = search rules in
    (walk_mapped IsAny itself (seen is_fixed) seeing _ _ _ _ tt c.in_ok-value.ensures.walk).1 ∙ ap (λ s. seen is_fixed s x) none

pub returns-in_err-value-clause-memory : goal.returns-in_err-value-clause-memory
returns-in_err-value-clause-memory g c =
    on_same_err _ _ _ c.from_residual.ensures.1 (stops_only _ _ _ _ _ (λ e. e ≡ Memory) (λ s o e h. h) _ _ _ c.in_err-value.ensures.err)
