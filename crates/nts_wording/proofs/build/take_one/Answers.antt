use Rattle.std.proofs.Common.{refl, rules, [], ◌∷◌}
use Rattle.nts_wording.proofs.Meant.{takes, last_taken}
use Rattle.nts_wording.proofs.build.take_one.Goals as goal

pub returns-clause-takes : goal.returns-clause-takes
returns-clause-takes c =
    let e = c.in_ok-mk_args.ensures in
    takes c.args.cx.now.nodes c.mk_args.new.self.nodes c.args.made.now c.pop.new.self (c.in_ok-arg.arg ∷ []) 1 c.in_ok-mk_args.field-0
    (last_taken c.args.made.now.items c.pop.new.self.items c.pop.result c.in_ok-arg.arg c.pop.ensures.items (search rules)) refl (c.if-not-are_held.ensures refl) e.grows.extends e.holds e.tree
