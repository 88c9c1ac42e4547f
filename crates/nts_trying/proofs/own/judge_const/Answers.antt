use Rattle.std.proofs.Common.{◌≡◌, sym, subst, ap, ◌∙◌, Some}
use Rattle.nts_model.specs.Terms.Trees.{empty, more, node, kind_of, arguments}
use Rattle.nts_model.specs.Derivations.Related.{alias_label}
use Rattle.nts_store.specs.Growth.{tree_at}
use Rattle.nts_store.proofs.Growing.{Extends-refl}
use Rattle.nts_terms.specs.Handles.{alias_head}
use Rattle.nts_terms.specs.Kinds.{tree_of_alias}
use Rattle.nts_terms.specs.declared.handles.Const.{Const}
use Rattle.nts_theory.specs.Affirming.{IsAffirmed, evaluatable, named_const, value_const, error_const}
use Rattle.nts_trying.proofs.Owning.{affirmed_later, alias_evaluated, some_mapped}
use Rattle.nts_trying.proofs.own.judge_const.Goals as goal

pub returns-then-is_some-clause-judged : goal.returns-then-is_some-clause-judged
returns-then-is_some-clause-judged g c =
    let a = c.args.cx.now.nodes in
    let b = c.evaluate_const.new.cx.nodes in
    let h = g.H.GoalHandler.handler b c.args.handler.now in
    let up = c.in_ok-value-in-Unevaluated.ensures.grows.extends in
    let uv = c.in-Unevaluated.uv in
    let fits = c.in-Unevaluated.ensures.fits in
    let args = up.kept uv.args.node fits.1.within in
    let same : tree_at b c.args.ct.node ≡ tree_of_alias b uv = up.kept c.args.ct.node c.requires.own.fits.within ∙ c.in-Unevaluated.ensures.tree ∙ ap (λ z. node (alias_label (alias_head uv.def_id)) (more z empty)) (sym args) in
    let given = some_mapped (λ (v : Const). tree_at b v.node) c.in_ok-value-in-Unevaluated.value (sym c.is_some.ensures ∙ c.if-is_some.true) in
    affirmed_later h.judges up c.terms_are_formed.ensures c.requires.holds c.requires.own
    (subst (λ z. IsAffirmed h.judges (tree_at b c.args.goal.param_env.node) (evaluatable z)) (sym same)
    (alias_evaluated h.judges (tree_at b c.args.goal.param_env.node) given.0 (tree_at b uv.args.node) (alias_head uv.def_id) fits.0 (subst (λ z. kind_of z ≡ Some arguments) (sym args) fits.1.fits)
    (sym c.in_ok-value-in-Unevaluated.ensures.value ∙ given.1)))

pub returns-in-Param-clause-judged : goal.returns-in-Param-clause-judged
returns-in-Param-clause-judged g c = affirmed_later (g.H.GoalHandler.handler c.args.cx.now.nodes c.args.handler.now).judges (Extends-refl c.args.cx.now.nodes) c.terms_are_formed.ensures c.requires.holds c.requires.own (rw c.in-Param.ensures.tree named_const)

pub returns-in-Placeholder-clause-judged : goal.returns-in-Placeholder-clause-judged
returns-in-Placeholder-clause-judged g c = affirmed_later (g.H.GoalHandler.handler c.args.cx.now.nodes c.args.handler.now).judges (Extends-refl c.args.cx.now.nodes) c.terms_are_formed.ensures c.requires.holds c.requires.own (rw c.in-Placeholder.ensures.tree named_const)

pub returns-in-Value-clause-judged : goal.returns-in-Value-clause-judged
returns-in-Value-clause-judged g c = affirmed_later (g.H.GoalHandler.handler c.args.cx.now.nodes c.args.handler.now).judges (Extends-refl c.args.cx.now.nodes) c.terms_are_formed.ensures c.requires.holds c.requires.own (rw c.in-Value.ensures.tree value_const)

pub returns-in-Error-clause-judged : goal.returns-in-Error-clause-judged
returns-in-Error-clause-judged g c = affirmed_later (g.H.GoalHandler.handler c.args.cx.now.nodes c.args.handler.now).judges (Extends-refl c.args.cx.now.nodes) c.terms_are_formed.ensures c.requires.holds c.requires.own (rw c.in-Error.ensures.tree error_const)
