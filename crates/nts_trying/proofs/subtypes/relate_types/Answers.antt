use Rattle.std.proofs.Common.{rules, ◌≡◌, Err}
use Rattle.nts_store.specs.declared.fault.EvalError.TheVariants as eval_error
use Rattle.nts_meaning.proofs.Evaluating.{IsPosed-later, Runs-refl, Runs-trans}
use Rattle.nts_trying.proofs.RelatedTypes.{relates_before, refused_before}
use Rattle.nts_meaning.proofs.Rounds.{ran}
use Rattle.nts_trying.proofs.subtypes.relate_types.Goals as goal

pub returns-then-matches-clause-runs : goal.returns-then-matches-clause-runs
returns-then-matches-clause-runs c = Runs-refl c.requires.posed.table

pub relate_pair-requires-clause-posed : goal.relate_pair-requires-clause-posed
relate_pair-requires-clause-posed c = IsPosed-later c.join_variables.ensures.runs.goes c.requires.posed

pub returns-in_err-goals-clause-runs : goal.returns-in_err-goals-clause-runs
returns-in_err-goals-clause-runs c = Runs-trans c.join_variables.ensures.runs c.relate_pair.ensures.runs

pub returns-clause-runs : goal.returns-clause-runs
returns-clause-runs c = Runs-trans c.join_variables.ensures.runs c.relate_pair.ensures.runs

pub returns-in_err-goals-clause-no : goal.returns-in_err-goals-clause-no
returns-in_err-goals-clause-no c = λ e.
    let no : c.relate_pair.result ≡ Err eval_error.NoSolution = first_of (cc, search rules) in
    let joins = rw c.if-branch.false at c.in_ok-join_variables.ensures.joins in (
      search rules,
      refused_before c.args.cx.now c.join_variables.new.cx c.args.table.now c.args.goal c.requires.posed.table (ran c.join_variables.ensures.runs) c.requires.posed.holds (rw joins.1 at (c.relate_pair.ensures.no no)),
    )

pub returns-clause-left : goal.returns-clause-left
returns-clause-left c =
    let joins = rw c.if-branch.false at c.in_ok-join_variables.ensures.joins in
    record {
      outside = search rules;
      apart = joins.0;
      relates = relates_before c.args.cx.now c.join_variables.new.cx c.relate_pair.new.cx c.args.table.now c.relate_pair.new.table c.args.goal c.args.types _ c.requires.posed.table (ran c.join_variables.ensures.runs) c.requires.types.types (rw joins.1 at c.in_ok-goals.ensures.relates);
    }
