-- What relating does to a store and a table.
use Rattle.std.proofs.Common.{◌≡◌, ℕ, List}
use Rattle.std.specs.Prelude.{IfOk, Result, Ok, Err, OnErr}
use Rattle.nts_model.specs.declared.labels.Variance.{Variance}
use Rattle.nts_model.specs.Terms.Trees.{Tree, IsClosed}
use Rattle.nts_model.specs.Tables.Contents.{Content}
use Rattle.nts_store.specs.declared.fault.EvalError.{EvalError}
use Rattle.nts_terms.specs.declared.cx.Cx.{Cx}
use Rattle.nts_terms.specs.declared.handles.Goal.{Goal}
use Rattle.nts_terms.specs.declared.handles.ParamEnv.{ParamEnv}
use Rattle.nts_unify.specs.Changing.{HasClosedSides}
use Rattle.nts_unify.proofs.Keeping.{sides-added}
use Rattle.nts_table.specs.Tables.{Table, IsTable}
use Rattle.nts_variance.specs.Walking.{IsTableGrown}
use Rattle.nts_solver_relating.specs.Sides.{IsRelatedBy, SolverRelatingKeeps}
use Rattle.nts_meaning.specs.Evaluation.{Runs}
use Rattle.nts_meaning.proofs.Evaluating.{goes, runs-back}

-- what was recorded since is between closed terms
closed_grown : {c d : Content} → IsTableGrown c d → HasClosedSides c → HasClosedSides d
closed_grown l h =
    record {
      left = sides-added (λ x. IsClosed x.left) (λ x s. s.left) l.visible h.left;
      right = sides-added (λ x. IsClosed x.right) (λ x s. s.right) l.visible h.right;
    }

-- relating runs on
pub relate_runs : {A : Type 0} (a b : Cx) (t u : Table) (items : A → List Goal) (declared : ℕ → List Variance) (env : ParamEnv) (v : Variance) (x y : Tree) (r : Result A EvalError) → IsTable a.nodes t → SolverRelatingKeeps a b t u
    → IfOk r (λ gs. IsRelatedBy declared a.nodes b.nodes t.entries u.entries env v x y (items gs)) → OnErr r (u ≡ t) → Runs a b t u
relate_runs a b t u items declared env v x y (Ok z) w k e q =
    let g = k.grows in
    let m = k.changes in
    let s = e.related in
    let n = s.takes in
    record { goes = goes w g.extends k.table n.continues m.saved m.mode m.hidden (λ h. closed_grown n.later h); rest = g.rest }
relate_runs a b t u items declared env v x y (Err z) w k e q = (let g = k.grows in runs-back w g.extends g.rest q)
