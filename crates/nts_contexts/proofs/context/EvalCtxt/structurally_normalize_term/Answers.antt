use Rattle.std.proofs.Common.{Err, refl, sym, ap, ◌∙◌}
use Rattle.nts_model.specs.Terms.Trees.{kind_of}
use Rattle.nts_evaluation.specs.nts_meaning.proofs.Evaluating.{Goes-extends, Runs-extends}
use Rattle.nts_evaluation.specs.nts_trying.proofs.Stepping.{posed_later}
use Rattle.nts_nested_goals.specs.declared.state.EvalState.{EvalState}
use Rattle.nts_contexts.proofs.Frames.{keeps_refl, keeps_then, keeps_grown, none_after}
use Rattle.nts_contexts.proofs.Normalized.{side_later, side_of, kind_of_answered, kind_as, begun, normal_of, refuses_normal, same_no}
use Rattle.nts_contexts.proofs.context.EvalCtxt.structurally_normalize_term.Goals as goal

pub returns-in_err-check-clause-keeps : goal.returns-in_err-check-clause-keeps
returns-in_err-check-clause-keeps g c = keeps_refl c.requires.ready

pub returns-then-not-is_closed_alias-clause-keeps : goal.returns-then-not-is_closed_alias-clause-keeps
returns-then-not-is_closed_alias-clause-keeps g c = keeps_refl c.requires.ready

pub returns-in_err-try_evaluate_added_goals-clause-keeps : goal.returns-in_err-try_evaluate_added_goals-clause-keeps
returns-in_err-try_evaluate_added_goals-clause-keeps g c =
    let r = c.add_equal-begun.ensures in
    let k = r.kept in
    keeps_then (keeps_grown c.add_equal-begun.new.state _ g.met.H.GoalHandler.ready_kept c.requires.ready refl refl refl refl r.runs c.note.ensures.fault r.posed c.in_ok-check.ensures.ok k.taint k.depth) c.try_evaluate_added_goals.ensures.keeps

-- a goal is refused once the one for the alias is added
pub returns-in_err-try_evaluate_added_goals-clause-no : goal.returns-in_err-try_evaluate_added_goals-clause-no
returns-in_err-try_evaluate_added_goals-clause-no g c = λ is.
    let r = c.add_equal-begun.ensures in
    let k = r.kept in
    let e = c.in_err-try_evaluate_added_goals in
    let answered = sym c.note.ensures.same ∙ c.in_ok-variable.was in
    refuses_normal _ c.args.env c.args.term.node c.in_ok-variable.variable.node c.try_evaluate_added_goals.ensures.keeps
    (begun c.add_equal-begun.new.state c.add_equal-begun.result c.in_ok-variable.variable c.args.env c.args.term.node
    (keeps_grown c.add_equal-begun.new.state _ g.met.H.GoalHandler.ready_kept c.requires.ready refl refl refl refl r.runs c.note.ensures.fault r.posed c.in_ok-check.ensures.ok k.taint k.depth)
    answered r.adds c.note.ensures.fault k.fault c.in_ok-check.ensures.ok)
    (λ s. e.ensures.refuted s (ap Err (same_no c.from_residual-in_err-try_evaluate_added_goals.result e.field-0.0 c.from_residual-in_err-try_evaluate_added_goals.ensures.1 is)))

pub resolved-value-requires-clause-term : goal.resolved-value-requires-clause-term
resolved-value-requires-clause-term g c =
    side_later c.try_evaluate_added_goals.ensures.keeps.runs.goes (side_of c.add_equal-begun.result c.in_ok-variable.variable (sym c.note.ensures.same ∙ c.in_ok-variable.was) c.add_equal-begun.ensures.side)

pub returns-clause-keeps : goal.returns-clause-keeps
returns-clause-keeps g c =
    let r = c.add_equal-begun.ensures in
    let k = r.kept in
    let e = c.in_ok-try_evaluate_added_goals.ensures in
    let v = c.resolved-value.ensures in
    let n = c.try_evaluate_added_goals.new.self.state.now in
    let h = e.keeps.is_ready in
    let answered = sym c.note.ensures.same ∙ c.in_ok-variable.was in
    let first = begun c.add_equal-begun.new.state c.add_equal-begun.result c.in_ok-variable.variable c.args.env c.args.term.node
    (keeps_grown c.add_equal-begun.new.state _ g.met.H.GoalHandler.ready_kept c.requires.ready refl refl refl refl r.runs c.note.ensures.fault r.posed c.in_ok-check.ensures.ok k.taint k.depth)
    answered r.adds c.note.ensures.fault k.fault c.in_ok-check.ensures.ok in
    let none = none_after _ c.in_ok-try_evaluate_added_goals.field-0 first.sound e.fault in
    keeps_then first.keeps (keeps_then e.keeps
    (keeps_grown n _ g.met.H.GoalHandler.ready_kept h refl refl refl refl (Runs-extends h.table v.grows.extends v.grows.rest) c.note-2.ensures.fault (posed_later n.nested_goals.items (Goes-extends h.table v.grows.extends) h.goals) none refl refl))

pub returns-clause-normal : goal.returns-clause-normal
returns-clause-normal g c = λ _.
    let r = c.add_equal-begun.ensures in
    let k = r.kept in
    let e = c.in_ok-try_evaluate_added_goals.ensures in
    let answered = sym c.note.ensures.same ∙ c.in_ok-variable.was in
    let side = side_later e.keeps.runs.goes (side_of c.add_equal-begun.result c.in_ok-variable.variable answered r.side) in
    normal_of _ _ c.args.env c.args.term.node c.in_ok-variable.variable.node c.in_ok-try_evaluate_added_goals.field-0 c.resolved-value.result c.note-2.result c.note-2.ensures.same e.keeps
    (begun c.add_equal-begun.new.state c.add_equal-begun.result c.in_ok-variable.variable c.args.env c.args.term.node
    (keeps_grown c.add_equal-begun.new.state _ g.met.H.GoalHandler.ready_kept c.requires.ready refl refl refl refl r.runs c.note.ensures.fault r.posed c.in_ok-check.ensures.ok k.taint k.depth)
    answered r.adds c.note.ensures.fault k.fault c.in_ok-check.ensures.ok)
    e.evaluates c.resolved-value.ensures.grows.extends refl (ap (λ (z : EvalState). z.nested_goals.items) c.note-2.ensures.fault) side c.resolved-value.ensures.tree
    (record { told = e.told; steps = e.steps; counts = e.counts }) (ap (λ (z : EvalState). z.last_steps) c.note-2.ensures.fault)

pub returns-clause-kind : goal.returns-clause-kind
returns-clause-kind g c =
    let e = c.in_ok-try_evaluate_added_goals.ensures in
    let v = c.in_ok-variable.variable in
    let answered = sym c.note.ensures.same ∙ c.in_ok-variable.was in
    let first = kind_of_answered _ c.add_equal-begun.result v answered c.add_equal-begun.ensures.kind in
    let side = side_of c.add_equal-begun.result v answered c.add_equal-begun.ensures.side in
    rw c.note-2.ensures.same (kind_as _ (ap kind_of (e.keeps.runs.goes.extends.kept v.node side.holds.within) ∙ first) c.resolved-value.result c.resolved-value.ensures.kind)

pub returns-clause-side : goal.returns-clause-side
returns-clause-side g c = rw c.note-2.ensures.same c.resolved-value.ensures.side
