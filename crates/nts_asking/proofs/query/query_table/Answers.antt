use Rattle.std.proofs.Common.{refl}
use Rattle.nts_canonical.specs.Building.{kinds_of}
use Rattle.nts_meaning.proofs.AnsweredQueries.{first_entries, query_environment, query_predicate}
use Rattle.nts_asking.proofs.query.query_table.Goals as goal

pub returns-clause-begins : goal.returns-clause-begins
returns-clause-begins c =
    let k = c.in_ok-table.ensures in
    let a = c.args.cx.now.nodes in
    let b = c.build_with_canonical.new.cx.nodes in
    let input = c.args.input.now in
    let q = c.in_ok-table.table in
    rw c.in_ok-table-2.ensures.ok
    record {
      posed = record { table = k.table; holds = record { env = k.holds.environment; predicate = k.holds.predicate }; knows = record { env = k.knows.0; predicate = k.knows.1.0 } };
      first = first_entries b (kinds_of input) q.entries q.entries _ refl k.entries;
      environment = query_environment a b input c.in_ok-table.query k.query;
      predicate = query_predicate a b input c.in_ok-table.query k.query;
      mode = k.mode;
      args = k.args;
      values = k.values;
    }
