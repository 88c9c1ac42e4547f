use Rattle.std.proofs.Common.{◌≡◌, Err, refl, sym, ap, ◌∙◌, subst}
use Rattle.nts_store.specs.declared.fault.EvalError.TheVariants as error
use Rattle.nts_unify.specs.Reading.{content_of}
use Rattle.nts_evaluation.specs.nts_meaning.specs.Evaluation.{IsPosed}
use Rattle.nts_evaluation.specs.nts_meaning.proofs.Evaluating.{IsPosed-opened}
use Rattle.nts_evaluation.specs.nts_trying.proofs.Trying.{some_meets}
use Rattle.nts_explaining.proofs.FirstEquations.{part_fits, part_meets}
use Rattle.nts_explaining.proofs.equations.are_met.Goals as goal

pub equate-tried-requires-clause-posed : goal.equate-tried-requires-clause-posed
equate-tried-requires-clause-posed c = IsPosed-opened c.requires.posed c.start_snapshot.ensures.entries c.in_ok-snapshot.ensures.saved

pub equate-tried-requires-clause-candidate : goal.equate-tried-requires-clause-candidate
equate-tried-requires-clause-candidate c =
    let p = c.in_ok-part.ensures in
    part_fits c.args.cx.now.nodes c.args.goal c.args.count c.args.candidate.now c.in_ok-part.part p.fresh p.equations p.constraints p.hidden p.goals p.accesses c.requires.candidate

pub returns-in-Ok-clause-met : goal.returns-in-Ok-clause-met
returns-in-Ok-clause-met c =
    let e = c.equate-tried.ensures in
    let p = c.in_ok-part.ensures in
    let k = part_fits c.args.cx.now.nodes c.args.goal c.args.count c.args.candidate.now c.in_ok-part.part p.fresh p.equations p.constraints p.hidden p.goals p.accesses c.requires.candidate in
    let posed : IsPosed c.args.cx.now.nodes (c.start_snapshot.new.self) c.args.goal = IsPosed-opened c.requires.posed c.start_snapshot.ensures.entries c.in_ok-snapshot.ensures.saved in
    let same = c.start_snapshot.ensures.entries in
    let one = part_meets c.args.cx.now.nodes (content_of c.args.cx.now.nodes c.args.table.now.entries) c.args.count c.args.candidate.now c.in_ok-part.part p.fresh p.equations in
    ((λ b. subst (λ M. M) one (rw same at (some_meets _ _ _ c.terms_are_formed.ensures posed k.equations e.runs.goes.table c.in-Ok.ensures.equated))), λ m. refl)

pub returns-in-Err-NoSolution-clause-met : goal.returns-in-Err-NoSolution-clause-met
returns-in-Err-NoSolution-clause-met c =
    let e = c.equate-tried.ensures in
    let p = c.in_ok-part.ensures in
    let same = c.start_snapshot.ensures.entries in
    let one = part_meets c.args.cx.now.nodes (content_of c.args.cx.now.nodes c.args.table.now.entries) c.args.count c.args.candidate.now c.in_ok-part.part p.fresh p.equations in
    let is = c.in-Err-NoSolution.is in
    let no : c.in-Err-NoSolution.field-0 ≡ error.NoSolution = rw is at c.in-Err-NoSolution.field-0-is in
    ((λ b. cc), λ m. absurd (e.unmet (is ∙ ap Err no) (rw same (subst (λ M. M) (sym one) m))))
