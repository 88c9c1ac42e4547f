use Rattle.nts_store.proofs.Reading.{KnownFrom}
use Rattle.nts_store.proofs.nodes.Nodes.flags_under.Given as goal

abbrev pub decreases-loop-i : goal.decreases-loop-i
decreases-loop-i l = l.i

abbrev pub invariant-loop-i : goal.invariant-loop-i
invariant-loop-i l = KnownFrom l.self l.children l.i l.flags
