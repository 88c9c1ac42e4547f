use Rattle.nts_table.specs.TableLaws.{IsTable-extended}
use Rattle.nts_alias_uses.proofs.normal.terms_of.Goals as goal

pub returns-in_err-term : goal.returns-in_err-term
returns-in_err-term c = IsTable-extended c.term_of.ensures.extends c.alias_of.ensures

pub returns-in_err-value : goal.returns-in_err-value
returns-in_err-value c = IsTable-extended c.value_of.ensures.extends (IsTable-extended c.term_of.ensures.extends c.alias_of.ensures)

pub returns : goal.returns
returns c = IsTable-extended c.value_of.ensures.extends (IsTable-extended c.term_of.ensures.extends c.alias_of.ensures)
