use Rattle.std.proofs.Common.{sym, ◌∙◌}
use Rattle.nts_unify.proofs.NodeLemmas.{free_region}
use Rattle.nts_unify.proofs.NodeLemmas.{region_free}
use Rattle.nts_unify.proofs.NodeLemmas.{true_false}
use Rattle.nts_table.proofs.equating.is_unbound.Goals as goal

pub returns-clause-yes : goal.returns-clause-yes
returns-clause-yes c = λ q. free_region _ c.label.result c.label.ensures.is c.label.ensures.formed (sym c.names_free_region.ensures ∙ q)

pub returns-clause-no : goal.returns-clause-no
returns-clause-no c = λ q h. true_false (sym (region_free _ c.label.result c.label.ensures.is h) ∙ sym c.names_free_region.ensures ∙ q)
