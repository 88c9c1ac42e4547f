use Rattle.std.proofs.Common.{◌≡◌, length}
use Rattle.std.specs.Vec.Iter.{into_iter_items, into_iter_len}
use Rattle.nts_terms.specs.Rest.{KeepsRest}
use Rattle.nts_folding.proofs.FoldedList.{ListFolded}
use Rattle.nts_folding.proofs.foldable.VecTypeFoldable.fold_with.Given as goal

abbrev pub invariant-loop-x : goal.invariant-loop-x
invariant-loop-x g l =
    let f = g.F.TypeFolder in
    let t = g.T.TypeFoldable in
    record {
      list : ListFolded f.answers f.enters f.leaves f.rebuilds t.holds t.tree (f.meaning l.fn.cx.nodes l.fn.folder) (f.meaning l.cx.nodes l.folder) l.fn.cx.nodes l.cx.nodes l.fn.self.items l.yielded (into_iter_items l.x-iterator) l.folded.items;
      rest : KeepsRest l.fn.cx l.cx;
      ready : f.ready l.cx.nodes l.folder;
      keeps : f.keeps l.fn.folder l.folder;
      count : into_iter_len l.x-iterator ≡ length (into_iter_items l.x-iterator);
    }
