use Rattle.std.proofs.Common.{rules, ◌≡◌, false}
use Rattle.nts_store.specs.Growth.{tree_at}
use Rattle.nts_canonicalizer.specs.Collecting.{stays_where}
use Rattle.nts_canonicalizer.proofs.Leafless.{seen-known}
use Rattle.nts_canonicalizer.proofs.collecting.collect.Goals as goal

pub returns-then-not-flags : goal.returns-then-not-flags
returns-then-not-flags c =
    let none : c.flags.result.has_leaf ≡ false = first_of (cc, search rules) in
    seen-known (stays_where c.args.staying) c.args.leaves.now (tree_at c.args.nodes.now c.args.t) c.flags.result c.flags.ensures none
