use Rattle.nts_store.specs.Growth.{tree_at}
use Rattle.nts_terms.specs.Signatures.{variances_in}
use Rattle.nts_model.specs.Terms.Trees.{variable_tree}
use Rattle.nts_unify.specs.Reading.{content_of}
use Rattle.nts_relating.proofs.PairLemmas.{err_of}
use Rattle.nts_variance.specs.Walking.{sides}
use Rattle.std.proofs.Common.{rules, ◌≡◌, inr, true, [], ◌∷◌, sym, ap, ◌∙◌, subst}
use Rattle.nts_variance.specs.Terms.{pair_at}
use Rattle.nts_variance.specs.Due.{IsUnvaluedPair}
use Rattle.std.specs.Option.{is_some}
use Rattle.nts_variance.proofs.Bound.{bindable_kind}
use Rattle.nts_variance.proofs.Debts.{type_kind}
use Rattle.nts_variance.proofs.DueCalls.{side_fresh, own_number, side_owed, side_known, side_apart, owed_taken}
use Rattle.nts_variance.proofs.Pushing.{pair_at-in}
use Rattle.nts_variance.proofs.Sides.{root_of_side, open_one, type_closed}
use Rattle.nts_variance.proofs.Refusals.{refuses_side}
use Rattle.nts_variance.proofs.Takes.{Refuses-from, sides_from, takes_bound}
use Rattle.nts_variance.proofs.taking.take_variable.Goals as goal

pub bind_along-requires-clause-open : goal.bind_along-requires-clause-open
bind_along-requires-clause-open c =
    let ts = c.args.nodes.now in
    (root_of_side ts c.args.table.now.entries (tree_at ts c.args.own) c.label.result c.args.side.variable c.in-Err.root c.requires.lawful c.requires.own.knows c.label.ensures.is c.label.ensures.formed c.requires.variable c.in-Err.ensures.root).bindable

pub returns-in-Err-bind_along-clause-no : goal.returns-in-Err-bind_along-clause-no
returns-in-Err-bind_along-clause-no c = λ q.
    let ts = c.args.nodes.now in
    let e = c.args.table.now.entries in
    let z = c.args.side.is_turned in
    let o = root_of_side ts e (tree_at ts c.args.own) c.label.result c.args.side.variable c.in-Err.root c.requires.lawful c.requires.own.knows c.label.ensures.is c.label.ensures.formed c.requires.variable c.in-Err.ensures.root in
    let k = o.bindable.of_kind in
    let own = variable_tree k c.in-Err.root in
    let term = tree_at ts c.args.term in
    let declared = variances_in c.args.declarations.now in
    rw (c.requires.pair, pair_at-in ts z c.args.variance c.args.own c.args.term)
    (Refuses-from declared (content_of ts e) (sides z c.args.variance own term ∷ []) (sides z c.args.variance (tree_at ts c.args.own) term ∷ []) (sides_from declared z (content_of ts e) c.args.variance (tree_at ts c.args.own) own term o.worlds)
    (c.in-Err-bind_along.ensures.no k (bindable_kind ts e c.in-Err.root o.bindable) (err_of _ _ q)))

pub returns-in-Ok-bind_along-clause-taken : goal.returns-in-Ok-bind_along-clause-taken
returns-in-Ok-bind_along-clause-taken c =
    let ts = c.args.nodes.now in
    let e = c.args.table.now.entries in
    let z = c.args.side.is_turned in
    let o = root_of_side ts e (tree_at ts c.args.own) c.label.result c.args.side.variable c.in-Err.root c.requires.lawful c.requires.own.knows c.label.ensures.is c.label.ensures.formed c.requires.variable c.in-Err.ensures.root in
    let k = o.bindable.of_kind in
    let has = bindable_kind ts e c.in-Err.root o.bindable in
    let found : is_some c.type_number.result ≡ true = search rules in
    let is = own_number (tree_at ts c.args.own) c.label.result c.type_number.result c.args.side.variable c.label.ensures.is (sym c.type_number.ensures) found c.requires.variable in
    let b = c.in-Ok-bind_along.ensures.bound k has in (
      b.lawful,
      b.known,
      rw (c.requires.pair, pair_at-in ts z c.args.variance c.args.own c.args.term)
          (takes_bound (variances_in c.args.declarations.now) z ts c.bind_along.new.nodes e c.bind_along.new.table.entries c.args.variance k c.in-Err.root (tree_at ts c.args.own) c.args.term c.in-Ok-bind_along.goals.items b c.requires.lawful.sound c.requires.own.knows has (open_one ts e (tree_at ts c.args.own) c.in-Err.root o) o.worlds),
      b.are_goals,
      λ d le f. b.due d le (side_fresh d z c.args.variance (tree_at ts c.args.own) (tree_at ts c.args.term) (λ n. absurd (n (type_kind (tree_at ts c.args.own) c.args.side.variable is))) (subst (IsUnvaluedPair d) (ap (pair_at ts) c.requires.pair ∙ pair_at-in ts z c.args.variance c.args.own c.args.term) f)),
    )

pub returns-in-Ok-clause-no : goal.returns-in-Ok-clause-no
returns-in-Ok-clause-no c = λ q.
    let ts = c.args.nodes.now in
    let own = c.requires.own in
    let term = c.requires.term in
    let found : is_some c.type_number.result ≡ true = search rules in
    let closed = type_closed (tree_at ts c.args.own) c.label.result c.type_number.result c.label.ensures.is c.label.ensures.formed (sym c.type_number.ensures) found in
    refuses_side (variances_in c.args.declarations.now) ts (content_of ts c.args.table.now.entries) c.args.side.is_turned c.args.variance c.args.own c.args.term c.args.pair c.requires.pair own term (c.terms_are_formed.ensures.formed c.args.own own.within) (c.terms_are_formed.ensures.formed c.args.term term.within) closed (c.owe.ensures.no q)

pub returns-in-Ok-clause-taken : goal.returns-in-Ok-clause-taken
returns-in-Ok-clause-taken c =
    let ts = c.args.nodes.now in
    let e = c.args.table.now.entries in
    let z = c.args.side.is_turned in
    let found : is_some c.type_number.result ≡ true = search rules in
    let is = own_number (tree_at ts c.args.own) c.label.result c.type_number.result c.args.side.variable c.label.ensures.is (sym c.type_number.ensures) found c.requires.variable in
    let value = c.in-Ok.ensures.value in
    let known = side_known ts (content_of ts e) z c.args.variance c.args.own c.args.term c.args.pair c.requires.pair c.requires.own.knows c.requires.term.knows in
    let s = c.owe.ensures in
    owed_taken ts e c.args.pair c.owe.result c.requires.lawful known.0 known.1 c.requires.varies (side_apart ts z c.args.variance c.args.own c.args.term c.args.pair c.requires.pair c.requires.node) (side_owed ts e z c.args.variance c.args.own c.args.term c.args.pair c.requires.pair (inr (c.args.side.variable, is, value.0, c.in-Ok.field-0, value.1))) s.owed s.closed s.kinds (variances_in c.args.declarations.now)
