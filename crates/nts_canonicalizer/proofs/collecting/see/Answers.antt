use Rattle.std.proofs.Common.{sym, ◌∙◌}
use Rattle.nts_canonicalizer.specs.Collecting.{stays_where}
use Rattle.nts_canonicalizer.proofs.Gathering.{leaf_added}
use Rattle.nts_canonicalizer.proofs.collecting.see.Goals as goal

pub returns : goal.returns
returns c = leaf_added (stays_where c.args.staying) c.args.leaves.now c.add.new.self c.args.leaf (sym c.stays.ensures ∙ c.if-stays.false) c.in_ok-add.ensures
