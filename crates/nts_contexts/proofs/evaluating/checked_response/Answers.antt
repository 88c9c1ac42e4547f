use Rattle.nts_unify.specs.Lawful.{content_of-extended}
use Rattle.nts_table.specs.TableLaws.{IsTable-extended}
use Rattle.nts_contexts.proofs.evaluating.checked_response.Goals as goal

pub make_response-requires-clause-table : goal.make_response-requires-clause-table
make_response-requires-clause-table g c = (let e = c.in_ok-leak_check.ensures in IsTable-extended e.grows.extends c.requires.table)

-- the table stands for what it stood for before the leak check
pub returns-clause-says : goal.returns-clause-says
returns-clause-says g c =
    let e = c.in_ok-leak_check.ensures in
    let m = c.in_ok-response.ensures in
    rw (← content_of-extended e.grows.extends c.requires.table.now) m.says
