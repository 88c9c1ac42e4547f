use Rattle.std.proofs.Common.{true, set, ap, ◌∙◌, refl}
use Rattle.std.specs.Vec.{with_item}
use Rattle.nts_search.proofs.Marking.{set-read, items_marked}
use Rattle.nts_search.proofs.Stacked.{IsStack-read}
use Rattle.nts_search.proofs.stack.SearchGraph.read.Goals as goal

pub returns-clause-items : goal.returns-clause-items
returns-clause-items c =
    let xs = c.args.self.now.stack.items in
    ap (λ x. set xs c.args.head (record x { is_read = true })) c.index_mut.ensures.value ∙ set-read xs c.args.head c.index_mut.result.now c.requires

pub returns-clause-entries : goal.returns-clause-entries
returns-clause-entries c = λ ts. items_marked ts c.args.self.now.stack.items _ c.args.head c.requires (returns-clause-items c)

pub returns-clause-kept : goal.returns-clause-kept
returns-clause-kept c = λ ts s.
    (let g = c.args.self.now in
    IsStack-read ts g (record g { stack = with_item g.stack c.args.head (record c.index_mut.result.now { is_read = true }) }) c.args.head s c.requires (returns-clause-items c) refl refl refl)
