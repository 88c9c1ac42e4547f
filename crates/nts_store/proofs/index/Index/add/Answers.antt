use Rattle.std.proofs.Common.{rules}
use Rattle.nts_store.proofs.Indexing.{index_more}
use Rattle.nts_store.proofs.index.Index.add.Goals as goal

pub returns-clause-index : goal.returns-clause-index
returns-clause-index c =
    index_more c.args.self.now (record { nodes = c.push.new.self; numbers = c.insert.new.self }) c.args.node c.args.shape c.requires.index c.requires.shape (search rules) (search rules)
