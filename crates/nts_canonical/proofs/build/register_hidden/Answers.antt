use Rattle.std.proofs.Common.{refl, ◌∙◌, arith}
use Rattle.std.specs.Prelude.{All}
use Rattle.nts_unify.specs.Reading.{content_of, IsHiddenType}
use Rattle.nts_store.proofs.Growing.{Extends-trans}
use Rattle.nts_terms.proofs.Moved.{KeepsRest-trans}
use Rattle.nts_unify.specs.Lawful.{IsLawful-extended}
use Rattle.nts_canonical.specs.Building.{stored_hidden}
use Rattle.nts_canonical.proofs.Registered.{registered_more, hidden-now, hidden_alone}
use Rattle.nts_canonical.proofs.build.register_hidden.Goals as goal

pub register_hidden_type_in_storage-requires-clause-args_known : goal.register_hidden_type_in_storage-requires-clause-args_known
register_hidden_type_in_storage-requires-clause-args_known c =
    let i = c.loop-i.invariant in
    (hidden-now c.args.cx.now.nodes c.loop-i.cx.nodes c.args.table.now.entries c.loop-i.table.entries _ c.requires.table.now (hidden_alone c.args.table.now.entries c.loop-i.table.entries i.entries) i.extends (c.requires.hidden c.loop-i.i _ (omega (arith, c.loop-i-test.true)))).args_known

pub register_hidden_type_in_storage-requires-clause-ty_known : goal.register_hidden_type_in_storage-requires-clause-ty_known
register_hidden_type_in_storage-requires-clause-ty_known c =
    let i = c.loop-i.invariant in
    (hidden-now c.args.cx.now.nodes c.loop-i.cx.nodes c.args.table.now.entries c.loop-i.table.entries _ c.requires.table.now (hidden_alone c.args.table.now.entries c.loop-i.table.entries i.entries) i.extends (c.requires.hidden c.loop-i.i _ (omega (arith, c.loop-i-test.true)))).ty_known

pub loop-i-preserved : goal.loop-i-preserved
loop-i-preserved c =
    let i = c.loop-i.invariant in
    let r = c.in_ok-register_hidden_type_in_storage.ensures in
    let e = c.args.table.now.entries in
    let a = c.loop-i.cx.nodes in
    let b = c.register_hidden_type_in_storage.new.cx.nodes in
    let g = IsLawful-extended i.extends c.requires.table.now in
    let all : All (λ h. IsHiddenType a (content_of a e) (stored_hidden h)) c.args.hidden.now = λ k d l. hidden-now c.args.cx.now.nodes a e e (stored_hidden _) c.requires.table.now refl i.extends (c.requires.hidden k d l) in
    record {
      registered = (
        _,
        registered_more a b e c.loop-i.table.entries c.register_hidden_type_in_storage.new.self.entries.hidden.lookup c.args.hidden.now i.registered.0 c.loop-i.i _ _ g i.table.now (hidden_alone c.args.table.now.entries c.loop-i.table.entries i.entries) r.grows.extends all (omega (arith, c.loop-i-test.true)) i.registered.1 r.registered,
      );
      entries = r.entries ∙ (λ j. record (i.entries j) { hidden = record ((i.entries j).hidden) { lookup = c.register_hidden_type_in_storage.new.self.entries.hidden.lookup } });
      saved = r.changes.saved ∙ i.saved;
      mode = r.changes.mode ∙ i.mode;
      table = r.table;
      extends = Extends-trans i.extends r.grows.extends;
      rest = KeepsRest-trans i.rest r.grows.rest;
    }
