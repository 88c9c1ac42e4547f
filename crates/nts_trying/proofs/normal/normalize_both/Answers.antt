use Rattle.std.proofs.Common.{rules, ◌≡◌, ◌∙◌, refl, ap, subst, sym}
use Rattle.nts_model.specs.Derivations.Related.{IsAlias}
use Rattle.nts_model.specs.Terms.Trees.{kind_of}
use Rattle.nts_store.specs.Growth.{tree_at}
use Rattle.nts_store.proofs.Growing.{Extends-trans, Extends-refl, IsIn-extended}
use Rattle.nts_unify.specs.Lawful.{content_of-extended}
use Rattle.nts_terms.proofs.Moved.{KeepsRest-trans}
use Rattle.nts_meaning.proofs.Evaluating.{Runs-trans, Runs-extends}
use Rattle.nts_trying.proofs.NormalGoals.{begins_two, normal_of, equated_both}
use Rattle.nts_trying.proofs.normal.normalize_both.Goals as goal

pub returns-in_err-first-clause-runs : goal.returns-in_err-first-clause-runs
returns-in_err-first-clause-runs c =
    let v = c.in_ok-variable.ensures.runs in
    let n = c.normal_goal.ensures.grows in
    Runs-trans v (Runs-extends v.goes.table n.extends n.rest)

pub normal_goal-requires-2-clause-is : goal.normal_goal-requires-2-clause-is
normal_goal-requires-2-clause-is c =
    let e = c.requires.equated in
    let term = e.term in
    let both = equated_both c.terms_are_formed.ensures e c.requires.alias in
    let up = Extends-trans c.in_ok-variable.ensures.runs.goes.extends c.in_ok-first.ensures.grows.extends in
    subst IsAlias (sym (up.kept _ term.within)) both.right

pub returns-in_err-second-clause-runs : goal.returns-in_err-second-clause-runs
returns-in_err-second-clause-runs c =
    let v = c.in_ok-variable.ensures.runs in
    let n = c.in_ok-first.ensures.grows in
    let m = c.normal_goal-2.ensures.grows in
    Runs-trans v (Runs-extends v.goes.table (Extends-trans n.extends m.extends) (KeepsRest-trans n.rest m.rest))

pub returns-in_err-goals-clause-runs : goal.returns-in_err-goals-clause-runs
returns-in_err-goals-clause-runs c =
    let v = c.in_ok-variable.ensures.runs in
    let n = c.in_ok-first.ensures.grows in
    let m = c.in_ok-second.ensures.grows in
    Runs-trans v (Runs-extends v.goes.table (Extends-trans n.extends m.extends) (KeepsRest-trans n.rest m.rest))

pub returns-clause-runs : goal.returns-clause-runs
returns-clause-runs c =
    let v = c.in_ok-variable.ensures.runs in
    let n = c.in_ok-first.ensures.grows in
    let m = c.in_ok-second.ensures.grows in
    Runs-trans v (Runs-extends v.goes.table (Extends-trans n.extends m.extends) (KeepsRest-trans n.rest m.rest))

pub returns-clause-begins : goal.returns-clause-begins
returns-clause-begins c =
    let a = c.args.cx.now in
    let made = c.in_ok-variable.ensures in
    let n = c.in_ok-first.ensures in
    let m = c.in_ok-second.ensures in
    let r = c.args.equated in
    let e = c.requires.equated in
    let alias = e.alias in
    let term = e.term in
    let at = c.fresh_value.new.cx in
    let b = c.normal_goal-2.new.cx in
    let first = made.runs.goes.extends in
    let up = Extends-trans n.grows.extends m.grows.extends in
    let kept = up.kept c.in_ok-variable.variable made.within in
    let same = content_of-extended up made.runs.goes.table.now in
    let of_kind : kind_of (tree_at at.nodes c.in_ok-variable.variable) ≡ kind_of (tree_at a.nodes r.alias.node) = search rules in
    let env = (let i = e.is in i.environment) in
    let there = Runs-trans made.runs (Runs-extends made.runs.goes.table up (KeepsRest-trans n.grows.rest m.grows.rest)) in
    begins_two a b c.args.table.now c.fresh_value.new.table c.args.goal c.in_ok-first.first c.in_ok-second.second (tree_at a.nodes r.alias.node) (tree_at a.nodes r.term.node) c.in_ok-variable.variable c.match-kind.sort c.push-2.new.self.items (equated_both c.terms_are_formed.ensures e c.requires.alias) env
    (c.in_ok-push-2.ensures.items ∙ rw (c.in_ok-push.ensures.items, c.in_ok-goals.ensures.items) refl)
    (IsIn-extended up c.in_ok-variable.variable made.within) (ap kind_of kept ∙ of_kind) (rw (kept, same) made.new) (rw same made.labels)
    (normal_of a.nodes at.nodes c.normal_goal.new.cx.nodes b.nodes r.alias.node c.in_ok-variable.variable c.args.goal c.in_ok-first.first alias.within made.within first n.grows.extends m.grows.extends n.environment n.holds n.tree)
    (normal_of a.nodes c.normal_goal.new.cx.nodes b.nodes b.nodes r.term.node c.in_ok-variable.variable c.args.goal c.in_ok-second.second term.within (IsIn-extended n.grows.extends c.in_ok-variable.variable made.within) (Extends-trans first n.grows.extends) m.grows.extends (Extends-refl _) m.environment m.holds m.tree)
    c.requires.posed there.goes
