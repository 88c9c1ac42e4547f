use Rattle.nts_table.specs.TableLaws.{IsTable-extended}
use Rattle.nts_alias_uses.proofs.free.environment.Goals as goal

pub returns : goal.returns
returns c = (let g = c.mk_env.ensures.grows in IsTable-extended g.extends c.statement.ensures)
