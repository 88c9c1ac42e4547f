use Rattle.nts_store.proofs.Forming.{AreFormed-trees}
use Rattle.nts_store.proofs.nodes.Nodes.terms_are_formed.Goals as goal

pub returns-clause-apart : goal.returns-clause-apart
returns-clause-apart c = rw c.self.view_is at c.self.invariant.0.apart

pub returns-clause-formed : goal.returns-clause-formed
returns-clause-formed c = rw c.self.view_is at (AreFormed-trees c.self.inside.index.nodes.items c.self.invariant.0)
