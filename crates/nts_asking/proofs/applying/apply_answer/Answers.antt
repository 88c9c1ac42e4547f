use Rattle.std.proofs.Common.{◌≡◌, Err, rules, arith}
use Rattle.nts_store.specs.declared.fault.EvalError.TheVariants as EvalError
use Rattle.std.proofs.lemmas.Grind.{common_steps}
use Rattle.nts_meaning.specs.nts_applying.proofs.ShownClosed.{closed_shown}
use Rattle.nts_meaning.proofs.Evaluating.{runs-back, goes}
use Rattle.nts_asking.proofs.applying.apply_answer.Goals as goal

pub returns-in_err-certainty-clause-runs : goal.returns-in_err-certainty-clause-runs
returns-in_err-certainty-clause-runs c =
    let e = c.in_err-certainty.ensures in
    runs-back c.requires.table e.grows.extends e.grows.rest e.err

pub returns-in_err-certainty-clause-full : goal.returns-in_err-certainty-clause-full
returns-in_err-certainty-clause-full c = λ q.
    let full : c.instantiate_and_apply_query_response.result ≡ Err EvalError.Full = search rules in
    c.instantiate_and_apply_query_response.ensures.full.0 full

pub returns-clause-labels : goal.returns-clause-labels
returns-clause-labels c = c.in_ok-certainty.ensures.labels

pub returns-clause-runs : goal.returns-clause-runs
returns-clause-runs c =
    let e = c.in_ok-certainty.ensures in
    let kept : c.instantiate_and_apply_query_response.new.table.entries.hidden ≡ c.args.table.now.entries.hidden = first_of (search rules, grind (arith, common_steps)) in
    record {
      goes = goes c.requires.table e.grows.extends e.table e.applied.applies.continues e.changes.saved e.changes.mode kept (λ k. closed_shown e.applied.shows k);
      rest = e.grows.rest;
    }
