use Rattle.std.proofs.Common.{ap, arith, map, subst, sym, ◌∙◌}
use Rattle.std.proofs.lemmas.List.{take_all}
use Rattle.std.proofs.lemmas.List.Elements.{All-push}
use Rattle.nts_unify.specs.Reading.{content_of, recorded_of, IsConstraint}
use Rattle.nts_response.specs.Forms.{recorded_at, StoreHoldsConstraint}
use Rattle.nts_meaning.proofs.Told.{news_told, none_told, sides_known, holds_told, is_constraint_at, more_recorded}
use Rattle.nts_meaning.proofs.response.told_constraints.Goals as goal
use Rattle.std.specs.Prelude.{All}

pub loop-i-preserved : goal.loop-i-preserved
loop-i-preserved c =
    let ts = c.make_deduplicated_region_constraints.new.cx.nodes in
    let xs = c.in_ok-constraints.constraints.items in
    let i = c.loop-i.invariant in
    let l = c.loop-i-test.true in
    let d = content_of ts c.args.table.now.entries in
    let told = c.as_told.ensures in
    let now = c.index.result.now in
    let side = subst (IsConstraint ts d) (sym c.index.ensures) (is_constraint_at ts d xs c.loop-i.i now c.in_ok-constraints.ensures.sides (omega (arith, l))) in
    let one = holds_told ts d now c.as_told.result side told.left told.right in
    record {
      trees = more_recorded ts xs c.loop-i.i now c.loop-i.told.items c.push.new.self.items c.as_told.result (omega (arith, l)) i.trees (told.trees ts ∙ ap (recorded_of ts) c.index.ensures) c.in_ok-push.ensures.items;
      holds = subst (All (StoreHoldsConstraint ts)) (sym c.in_ok-push.ensures.items) (All-push (StoreHoldsConstraint ts) c.loop-i.told.items c.as_told.result i.holds one);
    }

pub returns-clause-told : goal.returns-clause-told
returns-clause-told c =
    let ts = c.make_deduplicated_region_constraints.new.cx.nodes in
    let xs = c.in_ok-constraints.constraints.items in
    let trees = c.loop-i.invariant.trees ∙ ap (map (recorded_of ts)) (take_all c.loop-i.i xs (omega (arith, c.loop-i-test.false))) in
    rw (c.in-Yes.is, trees) (news_told c.args.cx.now.nodes c.args.table.now.entries (map (recorded_of ts) xs) c.requires.table.now c.in_ok-constraints.ensures.news)

pub returns-clause-known : goal.returns-clause-known
returns-clause-known c =
    let ts = c.make_deduplicated_region_constraints.new.cx.nodes in
    let xs = c.in_ok-constraints.constraints.items in
    let trees = c.loop-i.invariant.trees ∙ ap (map (recorded_of ts)) (take_all c.loop-i.i xs (omega (arith, c.loop-i-test.false))) in
    rw trees (sides_known ts (content_of ts c.args.table.now.entries) xs c.in_ok-constraints.ensures.sides)

pub returns-in_default-clause-told : goal.returns-in_default-clause-told
returns-in_default-clause-told c = none_told c.args.certainty _ _ c.in_default.not-Yes (ap (map (recorded_at c.args.cx.now.nodes)) c.new.ensures.items)
