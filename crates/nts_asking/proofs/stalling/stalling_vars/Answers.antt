use Rattle.std.proofs.Common.{refl, sym, ◌∙◌}
use Rattle.nts_asking.proofs.KeptStalled.{nothing_stalls, found_open, found_held}
use Rattle.nts_asking.proofs.stalling.stalling_vars.Goals as goal

pub returns-then-not-has_non_region_infer-2-clause-vars : goal.returns-then-not-has_non_region_infer-2-clause-vars
returns-then-not-has_non_region_infer-2-clause-vars c =
    let env = sym c.has_non_region_infer.ensures ∙ c.if-not-has_non_region_infer.true in
    let predicate = sym c.has_non_region_infer-then-not-has_non_region_infer.ensures ∙ c.if-not-has_non_region_infer-2.true in
    rw (c.new.ensures.items, nothing_stalls c.args.cx.now.nodes c.args.table.now.entries c.args.goal env predicate) refl

pub returns-clause-vars : goal.returns-clause-vars
returns-clause-vars c =
    found_open c.query_of.new.cx.nodes c.in_ok-leaves.leaves.items _ c.open_args.result c.in_ok-leaves.ensures.query.originals (rw c.deref.ensures.value at c.open_args.ensures.args)

pub returns-clause-held : goal.returns-clause-held
returns-clause-held c =
    found_held c.query_of.new.cx.nodes c.args.table.now.entries c.in_ok-leaves.leaves.items c.open_args.result c.in_ok-leaves.ensures.query.args (rw c.deref.ensures.value at c.open_args.ensures.args)
