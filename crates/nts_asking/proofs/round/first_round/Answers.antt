use Rattle.std.proofs.Common.{ap, ◌∙◌, rules}
use Rattle.nts_asking.specs.declared.round.Round.{Round}
use Rattle.nts_asking.specs.Rounds.{rounds_before}
use Rattle.nts_meaning.proofs.Unchanged.{unchanged_fits, nothing_said}
use Rattle.nts_asking.proofs.round.first_round.Goals as goal

pub returns-clause-first : goal.returns-clause-first
returns-clause-first c =
    let k = c.in_ok-answer.ensures in
    record {
      input = ap (λ (x : Round). x.input) c.in_ok-asked.ensures.ok ∙ search rules;
      answer = c.in_ok-answer.answer;
      is = ap (λ (x : Round). x.provisional) c.in_ok-asked.ensures.ok ∙ search rules;
      fits = rw c.deref.ensures at (unchanged_fits c.args.cx.now.nodes c.identity_answer.new.cx.nodes c.deref.result.now c.in_ok-answer.answer (rw c.deref.ensures c.requires) k.holds k.response);
      nothing = rw c.deref.ensures at (nothing_said _ _ _ k.response);
      certain = k.certainty;
      before = ap (λ (x : Round). rounds_before x) c.in_ok-asked.ensures.ok ∙ search rules;
    }
