-- What a goal and its variables keep while a store and a table grow.
use Rattle.std.proofs.Common.{List, All}
use Rattle.nts_store.proofs.Growing.{Extends-trans, Extends-refl}
use Rattle.nts_terms.proofs.Moved.{KeepsRest-trans, KeepsRest-refl, Holds-extended}
use Rattle.nts_terms.specs.declared.cx.Cx.{Cx}
use Rattle.nts_terms.specs.declared.handles.GenericArg.{GenericArg}
use Rattle.nts_table.specs.Tables.{Table}
use Rattle.nts_table.specs.TableLaws.{IsTable-extended}
use Rattle.nts_delegate.specs.ClausesKept.{AreClausesReady-kept}
use Rattle.nts_evaluation.specs.nts_meaning.specs.Evaluation.{Runs}
use Rattle.nts_wording.specs.Found.{IsKnownValue}
use Rattle.nts_wording.proofs.Telling.{values-extended}
use Rattle.nts_evaluation.specs.nts_asking.proofs.Asking.{IsAdmitted-extended}
use Rattle.nts_declaring.proofs.Values.{values-later}

-- the values after an evaluation
pub values-run : {a b : Cx} {t u : Table} (vs : List GenericArg) → Runs a b t u → All (λ v. IsKnownValue a.nodes t v) vs → All (λ v. IsKnownValue b.nodes u v) vs
values-run vs r h = values-later vs r.goes h

pub ruleset asking = (Extends-trans, Extends-refl, KeepsRest-trans, KeepsRest-refl, Holds-extended, AreClausesReady-kept, IsTable-extended, IsAdmitted-extended, values-extended, values-later, values-run)
