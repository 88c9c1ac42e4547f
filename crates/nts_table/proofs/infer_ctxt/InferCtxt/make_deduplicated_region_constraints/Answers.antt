use Rattle.std.proofs.Common.{arith, rules, take}
use Rattle.nts_store.proofs.Growing.{Extends-refl, Extends-trans}
use Rattle.nts_terms.proofs.Moved.{KeepsRest-trans}
use Rattle.nts_unify.specs.Reading.{content_of}
use Rattle.nts_unify.specs.Lawful.{IsLawful-extended}
use Rattle.nts_table.specs.TableLaws.{IsTable-extended}
use Rattle.nts_model.specs.Tables.Recording.{resolved_constraints, none}
use Rattle.nts_table.proofs.Telling.{SidesIn-all, AreConstraints-moved, AreNews-moved, AreConstraints-told, next_news}
use Rattle.nts_table.proofs.infer_ctxt.InferCtxt.make_deduplicated_region_constraints.Goals as goal

pub loop-i-init : goal.loop-i-init
loop-i-init c =
    record {
      news = rw c.new-told.ensures.items none;
      seen = search rules;
      sides = rw c.new-told.ensures.items tt;
      extends = Extends-refl c.args.cx.now.nodes;
      rest = search rules;
    }

pub resolved_constraint-requires-clause-table : goal.resolved_constraint-requires-clause-table
resolved_constraint-requires-clause-table c = IsTable-extended c.loop-i.invariant.extends c.requires.table

pub tell-requires-clause-told : goal.tell-requires-clause-told
tell-requires-clause-told c =
    SidesIn-all _ _ _ (AreConstraints-moved c.loop-i.cx.nodes c.resolved_constraint.new.cx.nodes c.args.self.now.entries c.loop-i.told.items (IsLawful-extended c.loop-i.invariant.extends c.requires.table.now) c.resolved_constraint.ensures.grows.extends c.loop-i.invariant.sides)

pub loop-i-preserved : goal.loop-i-preserved
loop-i-preserved c =
    let a = c.args.cx.now.nodes in
    let b = c.loop-i.cx.nodes in
    let d = c.resolved_constraint.new.cx.nodes in
    let e = c.args.self.now.entries in
    let up = c.loop-i.invariant.extends in
    let on = c.resolved_constraint.ensures.grows.extends in
    let lawful = IsLawful-extended up c.requires.table.now in
    let sides = AreConstraints-moved b d e c.loop-i.told.items lawful on c.loop-i.invariant.sides in
    let news = AreNews-moved b d (content_of b e) (take c.loop-i.i (resolved_constraints (content_of a e))) c.loop-i.told.items on c.loop-i.invariant.sides c.loop-i.invariant.news in
    record {
      news = next_news a b d e c.loop-i.i c.in_ok-constraint.constraint c.loop-i.told.items c.tell.new.told.items c.requires.table.now up (omega (arith, c.loop-i-test.true)) c.in_ok-constraint.ensures.resolved news c.in_ok-tell.ensures.tells;
      seen = c.in_ok-tell.ensures.seen;
      sides = AreConstraints-told d (content_of d e) c.loop-i.told.items c.tell.new.told.items c.in_ok-constraint.constraint sides c.in_ok-constraint.ensures.sides c.in_ok-tell.ensures.tells;
      extends = Extends-trans up on;
      rest = KeepsRest-trans c.loop-i.invariant.rest c.resolved_constraint.ensures.grows.rest;
    }
