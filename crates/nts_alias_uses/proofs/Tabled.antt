-- Tables, as the store grows.
use Rattle.nts_store.proofs.Growing.{Extends-trans, Extends-refl}
use Rattle.nts_table.specs.TableLaws.{IsTable-extended}

pub ruleset tabled = (Extends-trans, Extends-refl, IsTable-extended)
