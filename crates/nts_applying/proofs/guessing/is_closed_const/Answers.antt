use Rattle.std.proofs.Common.{rules}
use Rattle.nts_store.specs.Growth.{tree_at}
use Rattle.nts_store.proofs.Escaping.{closed_by_facts}
use Rattle.nts_applying.proofs.Guessed.{const_sort}
use Rattle.nts_applying.proofs.guessing.is_closed_const.Goals as goal

pub returns-in-Some-Const : goal.returns-in-Some-Const
returns-in-Some-Const c = λ h.
    record {
      is_const = const_sort (tree_at c.args.cx.now.nodes c.args.t) c.label.result c.label.ensures.is (search rules);
      closed = closed_by_facts (tree_at c.args.cx.now.nodes c.args.t) c.flags.result c.flags.ensures (search rules);
    }
