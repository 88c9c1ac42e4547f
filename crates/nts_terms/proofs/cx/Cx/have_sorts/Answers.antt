use Rattle.std.proofs.Common.{◌≡◌, ◌∙◌, ◌<◌, length, sym, ap, refl, arith, below_more}
use Rattle.std.specs.Prelude.{IsTrue}
use Rattle.nts_model.specs.declared.labels.Sort.TheVariants as sort
use Rattle.nts_model.specs.Terms.Trees.{children, row_length, kind_of}
use Rattle.nts_store.specs.Growth.{tree_at}
use Rattle.nts_terms.proofs.Sorted.{HaveSorts-length, HaveSorts-at, HaveSorts-all}
use Rattle.nts_terms.proofs.cx.Cx.have_sorts.Goals as goal

pub returns-then-len-sorts : goal.returns-then-len-sorts
returns-then-len-sorts c =
    ((λ h. cc), λ h. absurd (c.if-len-sorts.true (c.len.ensures.count ∙ HaveSorts-length c.args.sorts.now _ h)))

pub returns-then-not-has_sort : goal.returns-then-not-has_sort
returns-then-not-has_sort c = (
  (λ h. cc),
  λ h. let inside : c.loop-i.i < length c.args.sorts.now = omega (arith, c.loop-i-test.true) in
      let is = ap kind_of c.get.ensures.tree ∙ HaveSorts-at c.args.sorts.now _ c.loop-i.i sort.Ty h inside in
      let yes : IsTrue c.has_sort.result = c.has_sort.ensures.1 is in
      cc,
)

pub loop-i-preserved : goal.loop-i-preserved
loop-i-preserved c =
    let yes : IsTrue c.has_sort.result = c.if-not-has_sort.false in
    below_more _ _ c.loop-i.invariant (sym (ap kind_of c.get.ensures.tree) ∙ c.has_sort.ensures.0 yes)

pub returns : goal.returns
returns c =
    let long : row_length (children (tree_at c.args.self.now.nodes c.args.args.node)) ≡ length c.args.sorts.now = omega (arith, c.if-len-sorts.false, c.len.ensures.count) in
    ((λ h. HaveSorts-all c.args.sorts.now _ sort.Ty c.len.ensures.row long (λ k l. c.loop-i.invariant k (omega (arith, l, c.loop-i-test.false)))), λ h. refl)
