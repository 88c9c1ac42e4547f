use Rattle.std.proofs.Common.{◌≡◌, length, sym, ap, ◌∙◌}
use Rattle.std.proofs.lemmas.List.{length-map}
use Rattle.nts_store.specs.Growth.{tree_at}
use Rattle.nts_store.proofs.Growing.{Extends-trans}
use Rattle.nts_terms.specs.Modes.{mode_of}
use Rattle.nts_terms.specs.Signatures.{variances_in}
use Rattle.nts_unify.specs.Reading.{content_of}
use Rattle.nts_candidates.specs.Offered.{candidate_of}
use Rattle.nts_evaluation.specs.nts_response.specs.Forms.{premise_at}
use Rattle.nts_evaluation.specs.nts_meaning.specs.Evaluation.{goals_at}
use Rattle.nts_evaluation.specs.nts_meaning.proofs.Evaluating.{Runs-trans, Runs-extends}
use Rattle.nts_evaluation.specs.nts_trying.proofs.Stepping.{posed_later}
use Rattle.nts_explaining.specs.Explaining.{WasBegun}
use Rattle.nts_explaining.proofs.RelatedParts.{related_explained}
use Rattle.nts_explaining.proofs.related.try_relating.Goals as goal

pub returns-in_err-outcome-clause-runs : goal.returns-in_err-outcome-clause-runs
returns-in_err-outcome-clause-runs g c = Runs-trans c.in-Ok.ensures.runs c.ask_conditions.ensures.runs

pub checked-requires-clause-posed : goal.checked-requires-clause-posed
checked-requires-clause-posed g c = (let begins = c.in-Ok.ensures.begins in rw c.deref-2.ensures.value (posed_later c.in-Ok.begun.goals.items c.ask_conditions.ensures.runs.goes begins.posed))

pub checked-requires-clause-ready : goal.checked-requires-clause-ready
checked-requires-clause-ready g c = g.met.H.GoalHandler.ready_kept _ _ _ c.requires.ready (Extends-trans c.in-Ok.ensures.runs.goes.extends c.ask_conditions.ensures.runs.goes.extends)

pub returns-in_err-reason-clause-runs : goal.returns-in_err-reason-clause-runs
returns-in_err-reason-clause-runs g c =
    let a = c.ask_conditions.ensures in
    let e = c.checked.ensures in
    Runs-trans (Runs-trans c.in-Ok.ensures.runs a.runs) (Runs-extends a.runs.goes.table e.grows.extends e.grows.rest)

pub returns-clause-runs : goal.returns-clause-runs
returns-clause-runs g c =
    let a = c.ask_conditions.ensures in
    let e = c.checked.ensures in
    Runs-trans (Runs-trans c.in-Ok.ensures.runs a.runs) (Runs-extends a.runs.goes.table e.grows.extends e.grows.rest)

pub returns-clause-explains : goal.returns-clause-explains
returns-clause-explains g c =
    let begins = c.in-Ok.ensures.begins in
    let m = c.begin_relating.new.cx in
    let gs = c.in-Ok.begun.goals.items in
    let env = tree_at c.args.cx.now.nodes c.args.goal.param_env.node in
    let declared = variances_in c.args.cx.now.declarations in
    let here = content_of c.args.cx.now.nodes c.args.table.now.entries in
    let was : WasBegun declared here env (candidate_of c.args.cx.now.nodes c.args.candidate.now) = record { met = content_of m.nodes c.begin_relating.new.table.entries; left = goals_at m.nodes gs; begun = begins.begun } in
    let many : length c.deref.result.now ≡ length (goals_at m.nodes gs) = ap length c.deref.ensures.value ∙ sym (length-map gs (premise_at m.nodes)) in
    related_explained declared (mode_of c.args.table.now.mode) c.args.cx.now.nodes here env c.args.candidate.now was (length c.deref.result.now) c.in_ok-outcome.outcome c.in_ok-reason.reason many c.in_ok-outcome.ensures.within c.in_ok-reason.ensures.is
