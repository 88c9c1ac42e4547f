use Rattle.std.proofs.Common.{refl, ◌∙◌}
use Rattle.std.specs.Prelude.{All}
use Rattle.nts_unify.specs.Reading.{content_of, IsHiddenType}
use Rattle.nts_unify.specs.Lawful.{IsLawful-extended}
use Rattle.nts_store.proofs.Growing.{Extends-trans}
use Rattle.nts_terms.proofs.Moved.{KeepsRest-trans}
use Rattle.nts_canonical.specs.Building.{stored_hidden}
use Rattle.nts_canonical.proofs.Registered.{hidden-now}
use Rattle.nts_applying.proofs.HiddenSteps.{takes_more}
use Rattle.nts_applying.proofs.registering.register_hidden.Goals as goal

pub register_one-requires-clause-hidden : goal.register_one-requires-clause-hidden
register_one-requires-clause-hidden c =
    let i = c.loop-i.invariant in
    hidden-now c.args.cx.now.nodes c.loop-i.cx.nodes c.args.table.now.entries c.loop-i.table.entries _ c.requires.table.now i.entries i.grows.extends (c.requires.hidden c.loop-i.i _ c.loop-i-test.true)

pub loop-i-preserved : goal.loop-i-preserved
loop-i-preserved c =
    let i = c.loop-i.invariant in
    let k = c.in_ok-register_one.ensures in
    let e = c.args.table.now.entries in
    let a = c.loop-i.cx.nodes in
    let g = IsLawful-extended i.grows.extends c.requires.table.now in
    let all : All (λ h. IsHiddenType a (content_of a e) (stored_hidden h)) c.args.hidden.now = λ n d l. hidden-now c.args.cx.now.nodes a e e (stored_hidden _) c.requires.table.now refl i.grows.extends (c.requires.hidden n d l) in
    record {
      registered = takes_more a c.register_one.new.cx.nodes e c.loop-i.table.entries c.register_one.new.table.entries.hidden c.args.hidden.now c.loop-i.i _ g i.table.now i.entries k.grows.extends all c.loop-i-test.true i.registered k.registered;
      entries = k.entries ∙ (λ j. record (i.entries j) { hidden = c.register_one.new.table.entries.hidden });
      changes = record { saved = k.changes.saved ∙ i.changes.saved; mode = k.changes.mode ∙ i.changes.mode };
      table = k.table;
      grows = record { extends = Extends-trans i.grows.extends k.grows.extends; rest = KeepsRest-trans i.grows.rest k.grows.rest };
    }
