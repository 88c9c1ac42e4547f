use Rattle.std.proofs.Common.{rules}
use Rattle.nts_response.specs.Forms.{findings_at}
use Rattle.nts_answering.proofs.Rows.{all_seen}
use Rattle.nts_answering.proofs.leaves.leaves_of.Goals as goal

pub returns : goal.returns
returns c =
    all_seen (findings_at c.args.cx.now.nodes c.args.value.now) c.see_values.new.leaves c.see_constraints.new.leaves c.see_hidden.new.leaves c.see_goals.new.leaves (search rules) (search rules) (search rules) (search rules)
