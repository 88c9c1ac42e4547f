use Rattle.std.proofs.Common.{◌≡◌, [], ◌∷◌, rules, arith, sym, subst}
use Rattle.std.proofs.lemmas.List.Elements.{All-nil, All-cons}
use Rattle.nts_evaluation.specs.nts_meaning.specs.Evaluation.{IsPosed}
use Rattle.nts_evaluation.specs.nts_meaning.proofs.Rounds.{ran, search_begun}
use Rattle.nts_evaluation.specs.nts_meaning.proofs.Searching.{search_grows}
use Rattle.nts_evaluation.specs.nts_meaning.specs.Searching.{IsSearch}
use Rattle.nts_evaluation.specs.nts_meaning.proofs.Evaluating.{Runs-refl, Runs-trans}
use Rattle.nts_evaluation.specs.nts_trying.specs.Stepping.{ArePosed}
use Rattle.nts_evaluation.proofs.PosedSteps.{kept_posed}
use Rattle.nts_explaining.proofs.conditions.ask.Goals as goal

pub returns-in_err-push : goal.returns-in_err-push
returns-in_err-push g c = record { runs = Runs-refl {a = c.args.cx.now} c.requires.posed.table }

pub returns-in_err-kept : goal.returns-in_err-kept
returns-in_err-kept g c = record { runs = c.pose_asked.ensures.runs }

pub pose_asked-requires-clause-posed : goal.pose_asked-requires-clause-posed
pose_asked-requires-clause-posed g c =
    let one : c.push.new.self.items ≡ c.args.goal ∷ [] = first_of (cc, search rules) in
    subst (ArePosed c.args.cx.now.nodes c.args.table.now) (sym one) (All-cons (λ x. IsPosed c.args.cx.now.nodes c.args.table.now x.1) c.args.goal [] c.requires.posed (All-nil (λ x. IsPosed c.args.cx.now.nodes c.args.table.now x.1)))

pub try_evaluate_goals-answer-requires-clause-posed : goal.try_evaluate_goals-answer-requires-clause-posed
try_evaluate_goals-answer-requires-clause-posed g c = kept_posed c.in_ok-kept.ensures.asks

pub try_evaluate_goals-answer-requires-clause-search : goal.try_evaluate_goals-answer-requires-clause-search
try_evaluate_goals-answer-requires-clause-search g c =
    let begun = search_begun {a = c.args.cx.now} c.args.cx.now.recursion_limit c.new-graph.ensures.stack c.new-graph.ensures.empty (search rules) c.new-graph.ensures.rounds in
    let here : IsSearch c.args.cx.now c.new-graph.result c.recursion_limit-depth.result = record { stack = begun.stack; heads = begun.heads; rounds = begun.rounds; room = omega (arith, begun.room) } in
    search_grows c.recursion_limit-depth.result c.recursion_limit-depth.result (omega arith) here (ran c.pose_asked.ensures.runs)

pub returns-in-Ok : goal.returns-in-Ok
returns-in-Ok g c = (let e = c.try_evaluate_goals-answer.ensures in record { runs = Runs-trans c.pose_asked.ensures.runs e.runs })

pub returns-in-Err-NoSolution : goal.returns-in-Err-NoSolution
returns-in-Err-NoSolution g c = (let e = c.try_evaluate_goals-answer.ensures in record { runs = Runs-trans c.pose_asked.ensures.runs e.runs })

pub returns : goal.returns
returns g c = (let e = c.try_evaluate_goals-answer.ensures in record { runs = Runs-trans c.pose_asked.ensures.runs e.runs })
