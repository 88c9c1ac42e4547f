use Rattle.std.proofs.Common.{rules, ◌≡◌, ◌<◌, true, false, ap, ◌∙◌, arith}
use Rattle.std.specs.Option.{is_some}
use Rattle.nts_store.specs.Growth.{tree_at}
use Rattle.nts_store.specs.TypeFlags.{escaping}
use Rattle.nts_terms.specs.Signatures.{variances_in}
use Rattle.nts_unify.specs.Reading.{content_of}
use Rattle.nts_unify.proofs.Leading.{universe_of-entry}
use Rattle.nts_relating.proofs.PairLemmas.{err_of}
use Rattle.nts_variance.proofs.Refusing.{walk_refuses_pair}
use Rattle.nts_variance.proofs.Bound.{bindable_below, bindable_no_region, universe_low, still_bindable, varied_head, bound_along, bound_refuses, open_refuses, some_escapes, none_escape}
use Rattle.nts_variance.proofs.along.bind_along.Goals as goal

pub returns-then-is_some-clause-no : goal.returns-then-is_some-clause-no
returns-then-is_some-clause-no c = λ k has q.
    let t = tree_at c.args.nodes.now c.args.term in
    let some : true ≡ is_some (escaping t) = c.if-is_some.ensures ∙ ap (λ f. is_some f.escaping) c.flags.ensures in
    open_refuses (variances_in c.args.declarations.now) c.args.side.is_turned (content_of c.args.nodes.now c.args.table.now.entries) c.args.side.variable k c.args.variance t has (c.terms_are_formed.ensures.formed c.args.term c.requires.within) (some_escapes t some)

pub variable-requires : goal.variable-requires
variable-requires c = bindable_below c.args.nodes.now c.args.table.now.entries c.args.side.variable c.requires.«open»

pub vary-requires-clause-part : goal.vary-requires-clause-part
vary-requires-clause-part c =
    let t = tree_at c.args.nodes.now c.args.term in
    let none : false ≡ is_some (escaping t) = c.if-is_some.ensures ∙ ap (λ f. is_some f.escaping) c.flags.ensures in
    let room : c.args.term.number < 18446744073709551616 = search rules in
    record { within = c.requires.within; knows = c.requires.knows; closed = none_escape t none; room = omega (arith, room); sort = c.requires.sort.0; kind = c.requires.sort.1 }

pub vary-requires-clause-known : goal.vary-requires-clause-known
vary-requires-clause-known c = bindable_below c.args.nodes.now c.args.table.now.entries c.args.side.variable c.requires.«open»

pub vary-requires-clause-named : goal.vary-requires-clause-named
vary-requires-clause-named c = universe_low c.args.nodes.now c.args.table.now.entries c.args.side.variable c.variable.result.universe c.requires.lawful (universe_of-entry c.args.nodes.now c.args.table.now.entries c.args.side.variable c.variable.result c.variable.ensures)

pub vary-requires-clause-no_region : goal.vary-requires-clause-no_region
vary-requires-clause-no_region c = bindable_no_region c.args.nodes.now c.args.table.now.entries c.args.side.variable c.requires.«open»

pub bind-requires-clause-closed : goal.bind-requires-clause-closed
bind-requires-clause-closed c =
    varied_head (variances_in c.args.declarations.now) c.args.side.is_turned c.variable.result.universe c.args.side.variable c.args.nodes.now c.vary.new.nodes c.args.table.now.entries c.vary.new.table.entries c.args.variance c.args.term c.in-Ok.field-0.made c.in-Ok.field-0.goals.items c.in-Ok.ensures.varied c.requires.node c.requires.rigid

pub bind-requires-clause-open : goal.bind-requires-clause-open
bind-requires-clause-open c =
    let walks = c.in-Ok.ensures.varied.walks in
    still_bindable c.args.nodes.now c.vary.new.nodes c.args.table.now.entries c.vary.new.table.entries c.args.side.variable c.requires.«open» c.in-Ok.ensures.varied.kept walks.later

pub returns-in-Err-clause-no : goal.returns-in-Err-clause-no
returns-in-Err-clause-no c = λ k has q.
    let ts = c.args.nodes.now in
    let e = c.args.table.now.entries in
    walk_refuses_pair (variances_in c.args.declarations.now) c.args.side.is_turned c.variable.result.universe c.args.side.variable (content_of ts e) k c.args.variance (tree_at ts c.args.term) (c.in-Err.ensures.no (err_of _ _ q)) (universe_of-entry ts e c.args.side.variable c.variable.result c.variable.ensures) has

pub returns-in-Err-bind-clause-no : goal.returns-in-Err-bind-clause-no
returns-in-Err-bind-clause-no c = λ k has q.
    let ts = c.args.nodes.now in
    let e = c.args.table.now.entries in
    bound_refuses (variances_in c.args.declarations.now) c.args.side.is_turned c.variable.result.universe c.args.side.variable ts c.vary.new.nodes e c.vary.new.table.entries c.args.variance k c.args.term c.in-Ok.field-0.made c.in-Ok.field-0.goals.items c.in-Ok.ensures.varied (universe_of-entry ts e c.args.side.variable c.variable.result c.variable.ensures) has (c.in-Err-bind.ensures.no (err_of _ _ q))

pub returns-in-Ok-bind-clause-bound : goal.returns-in-Ok-bind-clause-bound
returns-in-Ok-bind-clause-bound c = λ k has.
    let ts = c.args.nodes.now in
    let e = c.args.table.now.entries in
    let s = c.in-Ok-bind.ensures in
    bound_along (variances_in c.args.declarations.now) c.args.side.is_turned c.variable.result.universe c.args.side.variable ts c.vary.new.nodes c.bind.new.nodes e c.vary.new.table.entries c.bind.new.table.entries c.args.variance k c.args.term c.in-Ok.field-0.made c.in-Ok.field-0.goals.items c.in-Ok.ensures.varied s.extends c.requires.lawful s.lawful (universe_of-entry ts e c.args.side.variable c.variable.result c.variable.ensures) has s.set
