use Rattle.std.proofs.Common.{subst}
use Rattle.nts_terms.specs.Kinds.{tree_of_clause}
use Rattle.nts_wording.specs.Meaning.{IsStatedRule}
use Rattle.nts_wording.proofs.sentences.clause_of.Goals as goal

pub returns-clause-rule : goal.returns-clause-rule
returns-clause-rule c = λ us later.
    subst (λ k. IsStatedRule us c.args.head.now c.args.body.now c.in_ok-rule.rule.fresh.items (tree_of_clause us k) c.in_ok-rule.rule.body.items) c.in-Trait.is (c.in_ok-rule.ensures.rule us later)

pub returns-clause-fits : goal.returns-clause-fits
returns-clause-fits c = c.in_ok-rule.ensures.fits _ c.in-Trait.is
