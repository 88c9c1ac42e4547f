-- Terms of a candidate with closed values in place of its fresh variables, and what a query's table has recorded.
use Rattle.std.proofs.Common.{⊎_elim, List, [], ◌∷◌, map, sym, subst}
use Rattle.nts_model.specs.declared.labels.Sort.{Sort}
use Rattle.nts_model.specs.Terms.Trees.{Tree, IsClosed}
use Rattle.nts_model.specs.Lists.{Among}
use Rattle.nts_model.specs.Derivations.Handlers.{AreValuesOf}
use Rattle.nts_theory.proofs.Responses.ChosenClosed.{closed-filled, closed_get}
use Rattle.nts_store.specs.declared.nodes.NodeId.{NodeId}
use Rattle.nts_store.specs.Growth.{tree_at}
use Rattle.nts_terms.specs.declared.handles.Goal.{Goal}
use Rattle.nts_table.specs.Tables.{Table}
use Rattle.nts_delegate.specs.Candidates.{IsOverIn}
use Rattle.nts_meaning.specs.Evaluation.{AreValues}
use Rattle.nts_trying.specs.Instances.{instance_at}

values_closed : (ss : List Sort) (vs : List Tree) → AreValuesOf ss vs → (v : Tree) → Among vs v → IsClosed v
values_closed [] [] h v i = absurd i
values_closed [] (x ∷ vs) h v i = absurd h
values_closed (s ∷ ss) [] h v i = absurd i
values_closed (s ∷ ss) (x ∷ vs) h v i = ⊎_elim (λ e. subst IsClosed (sym e) (let k = h.0 in k.closed)) (λ j. values_closed ss vs h.1 v j) i

pub instance_closed : {a : List Tree} {t : Table} {fresh : List Sort} {g : Goal} {vs : List NodeId} {x : NodeId} → IsOverIn a fresh g x → AreValues a t fresh vs → IsClosed (instance_at a vs x)
instance_closed {a} {t} {fresh} {g} {vs} {x} o v =
    closed-filled (map (tree_at a) vs) (closed_get (map (tree_at a) vs) (values_closed fresh (map (tree_at a) vs) v.values)) 0 (tree_at a x) o.closed
