use Rattle.nts_terms.specs.nts_store.specs.Growth.{tree_at, Extends}
use Rattle.nts_terms.specs.Rest.{KeepsRest}
use Rattle.nts_replacing.specs.Replacement.{jobs}
use Rattle.nts_folding.proofs.Folded.{EndsBy, work}
use Rattle.nts_folding.proofs.fold.walk.Given as goal

abbrev pub invariant-loop-task : goal.invariant-loop-task
invariant-loop-task g l =
    let f = g.F.TypeFolder in
    record {
      extends : Extends l.fn.cx.nodes l.cx.nodes;
      rest : KeepsRest l.fn.cx l.cx;
      ready : f.ready l.cx.nodes l.folder;
      keeps : f.keeps l.fn.folder l.folder;
      ends : EndsBy f.answers f.enters f.leaves f.rebuilds f.fails (f.meaning l.fn.cx.nodes l.fn.folder) (tree_at l.fn.cx.nodes l.fn.t) l.cx.nodes l.tasks.items l.found.items (f.meaning l.cx.nodes l.folder);
    }

abbrev pub decreases-loop-task : goal.decreases-loop-task
decreases-loop-task g l = work (jobs l.cx.nodes l.tasks.items)
