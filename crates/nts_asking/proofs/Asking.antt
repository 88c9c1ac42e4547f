-- What goals keep while a store grows.
use Rattle.std.proofs.Common.{List}
use Rattle.nts_model.specs.Terms.Trees.{Tree}
use Rattle.nts_terms.specs.declared.handles.Goal.{Goal}
use Rattle.nts_store.specs.Growth.{Extends}
use Rattle.nts_store.proofs.Growing.{Extends-trans, Extends-refl}
use Rattle.nts_table.specs.Tables.{Table}
use Rattle.nts_table.specs.Tables.{IsTable}
use Rattle.nts_unify.specs.Lawful.{content_of-extended}
use Rattle.nts_table.specs.TableLaws.{IsTable-extended}
use Rattle.nts_meaning.specs.nts_delegate.specs.ClausesKept.{AreClausesReady-kept}
use Rattle.nts_meaning.specs.Evaluation.{IsAdmitted}
use Rattle.nts_meaning.proofs.Evaluating.{HoldsGoal-extended}

-- a goal that is admitted, in a store that has grown
pub IsAdmitted-extended : {a b : List Tree} {t : Table} {g : Goal} → Extends a b → IsTable a t → IsAdmitted a t g → IsAdmitted b t g
IsAdmitted-extended {a} {b} {t} {g} e h k =
    let env = e.kept g.param_env.node k.holds.env.within in
    let predicate = e.kept g.predicate.node k.holds.predicate.within in
    let same = content_of-extended e h.now in
    record {
      holds = HoldsGoal-extended e k.holds;
      env = record { closed = rw env k.env.closed; knows = rw (env, same) k.env.knows };
      predicate = record { closed = rw predicate k.predicate.closed; knows = rw (predicate, same) k.predicate.knows };
      env_types = rw (env, same) k.env_types;
      asked = rw predicate k.asked;
    }

-- what goals keep while a store grows
pub ruleset asking = (Extends-trans, Extends-refl, AreClausesReady-kept, IsTable-extended, IsAdmitted-extended)
