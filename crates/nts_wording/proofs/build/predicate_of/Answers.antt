use Rattle.std.proofs.Common.{refl}
use Rattle.nts_wording.proofs.Fitted.{predicate_declared}
use Rattle.nts_wording.proofs.build.predicate_of.Goals as goal

-- what is stated was tested before
pub returns-clause-declared : goal.returns-clause-declared
returns-clause-declared c =
    let fits = c.if-not-clause_fits.ensures in
    let e = c.in_ok-mk_predicate.ensures in
    predicate_declared _ _ _ c.mk_predicate.new.self.nodes _ _ c.in_ok-mk_predicate.field-0.node e.grows.rest.declarations e.tree (fits.parts refl) (fits.declared refl)
