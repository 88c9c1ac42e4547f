-- A term that names no position stands for itself.
use Rattle.nts_store.proofs.Filling.{filled-known}
use Rattle.nts_replacing.proofs.instantiate.instantiate_canonical.Goals as goal

pub returns-then-not-flags-clause-tree : goal.returns-then-not-flags-clause-tree
returns-then-not-flags-clause-tree c = filled-known _ _ c.flags.result c.flags.ensures c.if-not-flags.true
