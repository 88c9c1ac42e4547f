use Rattle.std.proofs.Common.{◌≡◌, ◌-◌, suc, map, take, arith, refl, ap, sym, ◌∙◌}
use Rattle.std.specs.Prelude.{reverse}
use Rattle.nts_model.specs.Searching.Stacks.{stronger, path_kind}
use Rattle.nts_response.specs.nts_candidates.specs.Offered.{path_kind_of}
use Rattle.nts_search.specs.Searching.{entry_at}
use Rattle.nts_search.proofs.Passed.{path_onwards, path_here}
use Rattle.nts_search.proofs.stack.SearchGraph.path_kind.Goals as goal

pub loop-at-preserved : goal.loop-at-preserved
loop-at-preserved c =
    let xs = c.args.self.now.stack.items in
    let a = c.loop-at.at in
    let head = c.args.head in
    let x = c.index.result.now in
    let within = c.loop-at.invariant.within in
    let more = c.loop-at-test.true in
    let step = c.extend-kind.ensures ∙ ap (λ y. stronger (path_kind_of c.loop-at.kind) (path_kind_of y.step_kind)) c.index.ensures in
    record {
      above = omega (arith, more);
      within = omega (arith, within);
      path = λ ts. c.loop-at.invariant.path ts ∙ path_onwards ts xs a (a - 1) head x c.loop-at.kind c.extend-kind.result refl more within step;
    }

pub returns : goal.returns
returns c = λ ts.
    (let xs = c.args.self.now.stack.items in
    let above = c.loop-at.invariant.above in
    let end = c.loop-at-test.false in
    let none : c.loop-at.at - suc c.args.head ≡ 0 = omega (arith, above, end) in
    let rest = map (entry_at ts) (reverse (take c.loop-at.at xs)) in
    let kind = path_kind_of c.loop-at.kind in
    sym (c.loop-at.invariant.path ts ∙ ap (λ n. path_kind rest n kind) none ∙ path_here rest kind))
