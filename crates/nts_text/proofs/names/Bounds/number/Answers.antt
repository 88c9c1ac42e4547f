use Rattle.nts_text.proofs.SpellingLemmas.{number_found, number_missed}
use Rattle.nts_text.proofs.names.Bounds.number.Goals as goal

pub returns-clause-found : goal.returns-clause-found
returns-clause-found c = number_found (λ v. v.items) c.args.self.now.here.keys c.args.name.now c.get_index_of.result c.get_index_of.ensures.index

pub returns-clause-none : goal.returns-clause-none
returns-clause-none c = number_missed (λ v. v.items) c.args.self.now.here.keys c.args.name.now c.get_index_of.result c.get_index_of.ensures.found
