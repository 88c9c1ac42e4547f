use Rattle.std.proofs.Common.{[], ◌∷◌, refl, sym, ◌∙◌}
use Rattle.nts_meaning.proofs.Evaluating.{Runs-refl}
use Rattle.nts_posing.proofs.PosedMore.{posed_same, posed_new}
use Rattle.nts_posing.proofs.posing.pose_one.Goals as goal

pub returns-then-asks-clause-poses : goal.returns-then-asks-clause-poses
returns-then-asks-clause-poses c =
    record {
      more = c.args.given ∷ [];
      poses = posed_same c.args.kind c.args.cx.now.nodes c.args.table.now c.args.given c.requires.posed (sym (c.asks.ensures.asked refl) ∙ c.if-asks.true);
      behind = c.in_ok-push.ensures.items;
    }

pub returns-clause-poses : goal.returns-clause-poses
returns-clause-poses c =
    let a = c.in_ok-add_goal.ensures.adds in
    record {
      more = a.more;
      poses = posed_new c.args.kind c.args.given a.more a.adds c.add_goal.ensures.runs.goes c.requires.posed c.terms_are_formed.ensures c.terms_are_formed-2.ensures a.posed (c.asks.ensures.no c.if-asks.false);
      behind = a.behind;
    }

pub returns-in_err-push-clause-runs : goal.returns-in_err-push-clause-runs
returns-in_err-push-clause-runs c = Runs-refl c.requires.posed.table

pub returns-then-asks-clause-runs : goal.returns-then-asks-clause-runs
returns-then-asks-clause-runs c = Runs-refl c.requires.posed.table
