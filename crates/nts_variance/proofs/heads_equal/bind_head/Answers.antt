use Rattle.std.proofs.Common.{[], ◌∷◌, subst, arith}
use Rattle.nts_model.specs.Terms.Trees.{variable_tree}
use Rattle.nts_store.specs.Growth.{tree_at}
use Rattle.nts_terms.specs.Signatures.{variances_in}
use Rattle.nts_unify.specs.Reading.{content_of}
use Rattle.nts_relating.proofs.PairLemmas.{err_of}
use Rattle.nts_variance.specs.Walking.{sides}
use Rattle.nts_variance.specs.Terms.{pairs_at}
use Rattle.nts_variance.specs.Due.{IsUnvaluedPair}
use Rattle.nts_variance.proofs.Bound.{bindable_kind}
use Rattle.nts_variance.proofs.DueCalls.{side_fresh}
use Rattle.nts_variance.proofs.Dues.{due_aliases, no_variables}
use Rattle.nts_variance.proofs.DueHeads.{bound_fresh, const_fresh}
use Rattle.nts_variance.proofs.Paying.{bound_paid}
use Rattle.nts_variance.proofs.Pushing.{pair_at-in}
use Rattle.nts_variance.proofs.Sides.{open_one}
use Rattle.nts_variance.proofs.Takes.{Refuses-from, sides_from, takes_bound}
use Rattle.nts_variance.proofs.heads_equal.bind_head.Goals as goal

pub returns-in-Err-clause-no : goal.returns-in-Err-clause-no
returns-in-Err-clause-no c = λ q.
    let ts = c.args.nodes.now in
    let e = c.args.table.now.entries in
    let z = c.args.side.is_turned in
    let o = c.requires.open in
    let k = o.bindable.of_kind in
    let own = variable_tree k c.args.side.variable in
    let term = tree_at ts c.args.term in
    let declared = variances_in c.args.declarations.now in
    rw (pair_at-in ts z c.args.variance c.args.own c.args.term)
    (Refuses-from declared (content_of ts e) (sides z c.args.variance own term ∷ []) (sides z c.args.variance (tree_at ts c.args.own) term ∷ []) (sides_from declared z (content_of ts e) c.args.variance (tree_at ts c.args.own) own term o.worlds)
    (c.in-Err.ensures.no k (bindable_kind ts e c.args.side.variable o.bindable) (err_of _ _ q)))

pub returns-in-Ok-clause-taken : goal.returns-in-Ok-clause-taken
returns-in-Ok-clause-taken c =
    let ts = c.args.nodes.now in
    let e = c.args.table.now.entries in
    let z = c.args.side.is_turned in
    let o = c.requires.open in
    let k = o.bindable.of_kind in
    let has = bindable_kind ts e c.args.side.variable o.bindable in
    let b = c.in-Ok.ensures.bound k has in (
      b.lawful,
      b.known,
      rw (pair_at-in ts z c.args.variance c.args.own c.args.term)
          (takes_bound (variances_in c.args.declarations.now) z ts c.bind_along.new.nodes e c.bind_along.new.table.entries c.args.variance k c.args.side.variable (tree_at ts c.args.own) c.args.term c.in-Ok.goals.items b c.requires.lawful.sound c.requires.own.knows has (open_one ts e (tree_at ts c.args.own) c.args.side.variable o) o.worlds),
      b.are_goals,
      λ d le f. b.due d le (side_fresh d z c.args.variance (tree_at ts c.args.own) (tree_at ts c.args.term) (λ n. const_fresh d (variances_in c.args.declarations.now) z ts c.bind_along.new.nodes e c.bind_along.new.table.entries c.args.variance c.args.side.variable (tree_at ts c.args.own) c.args.term c.in-Ok.goals.items o b n (c.terms_are_formed.ensures.formed c.args.term c.requires.term.within) c.requires.node c.requires.rigid) (subst (IsUnvaluedPair d) (pair_at-in ts z c.args.variance c.args.own c.args.term) f)),
    )

pub returns-in-Ok-clause-paid : goal.returns-in-Ok-clause-paid
returns-in-Ok-clause-paid c = λ invariant.
    let ts = c.args.nodes.now in
    let e = c.args.table.now.entries in
    let o = c.requires.open in
    let k = o.bindable.of_kind in
    let has = bindable_kind ts e c.args.side.variable o.bindable in
    bound_paid (variances_in c.args.declarations.now) c.args.side.is_turned ts c.bind_along.new.nodes e c.bind_along.new.table.entries c.args.variance k c.args.side.variable c.args.own c.args.term c.in-Ok.goals.items (c.in-Ok.ensures.bound k has) invariant

pub returns-in-Ok-clause-due : goal.returns-in-Ok-clause-due
returns-in-Ok-clause-due c = λ one.
    let ts = c.args.nodes.now in
    let e = c.args.table.now.entries in
    let o = c.requires.open in
    let k = o.bindable.of_kind in
    let b = c.in-Ok.ensures.bound k (bindable_kind ts e c.args.side.variable o.bindable) in
    due_aliases (content_of c.bind_along.new.nodes c.bind_along.new.table.entries) (pairs_at c.bind_along.new.nodes c.in-Ok.goals.items)
    (b.due no_variables (omega arith) (bound_fresh no_variables (variances_in c.args.declarations.now) c.args.side.is_turned ts c.bind_along.new.nodes e c.bind_along.new.table.entries c.args.variance c.args.side.variable (tree_at ts c.args.own) c.args.term c.in-Ok.goals.items o c.requires.lawful b one c.requires.term.knows (c.terms_are_formed.ensures.formed c.args.term c.requires.term.within) c.requires.node c.requires.rigid))
