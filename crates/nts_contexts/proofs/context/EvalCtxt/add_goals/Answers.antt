use Rattle.std.proofs.Common.{refl, sym, ◌∙◌, []}
use Rattle.std.proofs.lemmas.List.{append-nil}
use Rattle.nts_contexts.proofs.Frames.{keeps_refl, keeps_grown}
use Rattle.nts_nested_goals.proofs.Relates.{adds_none, no_goals}
use Rattle.nts_contexts.proofs.context.EvalCtxt.add_goals.Goals as goal

pub returns-in_err-check-clause-keeps : goal.returns-in_err-check-clause-keeps
returns-in_err-check-clause-keeps g c = keeps_refl c.requires.ready

pub returns-then-is_empty-clause-keeps : goal.returns-then-is_empty-clause-keeps
returns-then-is_empty-clause-keeps g c = keeps_refl c.requires.ready

pub returns-then-is_empty-clause-adds : goal.returns-then-is_empty-clause-adds
returns-then-is_empty-clause-adds g c =
    let none = no_goals c.args.goals.now (sym c.is_empty.ensures ∙ c.if-is_empty.true) in
    record {
      added = [];
      adds = adds_none c.args.self.now.cx.now.nodes c.args.self.now.table.now.entries c.args.source c.args.goals.now none;
      behind = sym (append-nil _);
    }

pub returns-clause-keeps : goal.returns-clause-keeps
returns-clause-keeps g c =
    let r = c.add_all-added.ensures in
    let k = r.kept in
    keeps_grown c.add_all-added.new.state _ g.met.H.GoalHandler.ready_kept c.requires.ready refl refl refl refl r.runs c.note.ensures.fault r.posed c.in_ok-check.ensures.ok k.taint k.depth
