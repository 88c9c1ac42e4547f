-- What is kept while a store grows.
use Rattle.nts_store.proofs.Growing.{Extends-trans, Extends-refl}
use Rattle.nts_terms.proofs.Moved.{KeepsRest-trans, KeepsRest-refl, Holds-extended}

pub ruleset growing = (Extends-trans, Extends-refl, KeepsRest-trans, KeepsRest-refl, Holds-extended)
