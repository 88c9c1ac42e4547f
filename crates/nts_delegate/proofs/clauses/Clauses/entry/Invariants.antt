use Rattle.std.proofs.Common.{◌-◌, ◌+◌, length, List}
use Rattle.nts_model.specs.Terms.Trees.{Tree}
use Rattle.nts_delegate.specs.Adding.{KeepsClauses}
use Rattle.nts_delegate.specs.Clauses.{AreClausesReady}
use Rattle.nts_delegate.proofs.clauses.Clauses.entry.Given as goal

abbrev pub invariant-loop-self : goal.invariant-loop-self
invariant-loop-self l = record {
  same : KeepsClauses l.initial.self l.self;
  ready : (ts : List Tree) → AreClausesReady ts l.initial.self → AreClausesReady ts l.self;
}

abbrev pub decreases-loop-self : goal.decreases-loop-self
decreases-loop-self l = l.id.number + 1 - length l.self.traits.items
