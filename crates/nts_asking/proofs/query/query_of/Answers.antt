use Rattle.std.proofs.Common.{ap, ◌∙◌}
use Rattle.nts_terms.specs.Modes.{mode_of}
use Rattle.nts_meaning.proofs.Queried.{query_made}
use Rattle.nts_asking.proofs.query.query_of.Goals as goal

pub returns-clause-query : goal.returns-clause-query
returns-clause-query c =
    let k = c.in_ok-query.ensures in
    query_made c.terms_are_formed.ensures c.requires.posed k.grows.extends (c.in_ok-mode.ensures.same ∙ ap mode_of c.typing_mode.ensures) k.canonical k.askable
