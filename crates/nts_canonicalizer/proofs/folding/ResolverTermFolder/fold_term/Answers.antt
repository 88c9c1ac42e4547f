use Rattle.std.proofs.Common.{ap, Some}
use Rattle.nts_unify.specs.Lawful.{content_of-extended}
use Rattle.nts_canonical.specs.nts_table.specs.TableLaws.{IsTable-extended}
use Rattle.nts_canonicalizer.proofs.folding.ResolverTermFolder.fold_term.Goals as goal

pub returns-clause-answers : goal.returns-clause-answers
returns-clause-answers g c = λ k. (ap Some c.in_ok-resolved.ensures.tree, content_of-extended c.eager_resolve_vars.ensures.grows.extends c.requires.ready.now)

pub returns-clause-ready : goal.returns-clause-ready
returns-clause-ready g c = IsTable-extended c.eager_resolve_vars.ensures.grows.extends c.requires.ready

pub returns-in_err-resolved-clause-ready : goal.returns-in_err-resolved-clause-ready
returns-in_err-resolved-clause-ready g c = IsTable-extended c.eager_resolve_vars.ensures.grows.extends c.requires.ready
