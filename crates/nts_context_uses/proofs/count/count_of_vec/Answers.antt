use Rattle.std.proofs.Common.{rules}
use Rattle.nts_store.proofs.Growing.{Extends-trans}
use Rattle.nts_delegate.specs.Clauses.{AreClausesReady}
use Rattle.nts_delegate.specs.ClausesKept.{AreClausesReady-kept}
use Rattle.nts_table.specs.TableLaws.{IsTable-extended}
use Rattle.nts_context_uses.proofs.count.count_of_vec.Goals as goal

pub try_count-requires-clause-table : goal.try_count-requires-clause-table
try_count-requires-clause-table c = IsTable-extended (Extends-trans c.vecs_of.ensures.extends (Extends-trans c.goal_of.ensures.extends (Extends-trans c.goal_of-2.ensures.extends c.add_facts.ensures.grows.extends))) c.next_ty_infer-2.ensures.table

pub add_facts-requires : goal.add_facts-requires
add_facts-requires c =
    let declared : AreClausesReady c.declare_ctor.new.self.nodes c.args.rules.now = search rules in
    AreClausesReady-kept _ _ _ declared (Extends-trans c.next_ty_infer.ensures.grows.extends (Extends-trans c.next_ty_infer-2.ensures.grows.extends (Extends-trans c.vecs_of.ensures.extends (Extends-trans c.goal_of.ensures.extends c.goal_of-2.ensures.extends))))
