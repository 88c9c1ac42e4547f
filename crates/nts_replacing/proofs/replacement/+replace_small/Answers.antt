use Rattle.std.proofs.Common.{◌≡◌, ◌∙◌, ◌<◌, arith}
use Rattle.nts_store.specs.nts_model.specs.Terms.Trees.{children, row_length, row_at}
use Rattle.nts_store.specs.Growth.{tree_at}
use Rattle.nts_store.proofs.Growing.{Extends-trans}
use Rattle.nts_replacing.specs.declared.replacement.Step.TheVariants as step
use Rattle.nts_replacing.specs.Replacement.{IsStep}
use Rattle.nts_replacing.proofs.Replacing.{AreLaws}
use Rattle.nts_replacing.proofs.Small.{covers_child, over_one, over_two}
use Rattle.nts_replacing.proofs.replacement.+replace_small.Given.{Over}
use Rattle.nts_replacing.proofs.replacement.+replace_small.Goals as goal

laws : (g : Over) (m : g.R.Replacer.Meaning) → AreLaws (g.R.Replacer.covers m) (g.R.Replacer.image m)
laws g m =
    let r = g.met.R.Replacer in
    record {
      of_empty = r.image_empty m;
      of_more = r.image_more m;
      covers = r.covers_more m;
      kind = r.kind_kept m;
    }

pub replace_small-requires : goal.replace_small-requires
replace_small-requires g t c = λ κs k.
    let m = g.R.Replacer.meaning c.args.nodes.now c.args.replacer.now in
    let u = tree_at c.step.new.nodes c.in-Down.node in
    let up = c.in_ok-result.ensures.extends in
    let kept = g.met.R.Replacer.meaning_kept c.args.nodes.now c.step.new.nodes c.args.replacer.now c.requires.ready up in
    let down : IsStep (g.R.Replacer.covers m) (g.R.Replacer.image m) c.step.new.nodes (tree_at c.args.nodes.now c.args.t) (step.Down c.in-Down.node) = rw c.in-Down.is at c.in_ok-result.ensures.step in
    let some : 0 < row_length (children u) = omega (arith, c.child_count-count.ensures.count, c.if-count-eq0.false) in (
      omega (arith, c.decreases),
      (
        k,
        (
          c.child-first.ensures.within,
          (
            g.met.R.Replacer.ready_kept c.args.nodes.now c.step.new.nodes c.args.replacer.now c.requires.ready up,
            rw (kept, c.child-first.ensures.tree) (covers_child (g.R.Replacer.covers m) (g.R.Replacer.image m) (laws g m) (tree_at c.args.nodes.now c.args.t) u c.label-label.result 0 c.label-label.ensures.is down.1 some),
          ),
        ),
      ),
    )

pub make-requires-clause-formed : goal.make-requires-clause-formed
make-requires-clause-formed g t c =
    let m = g.R.Replacer.meaning c.args.nodes.now c.args.replacer.now in
    let C = g.R.Replacer.covers m in
    let f = g.R.Replacer.image m in
    let u = tree_at c.step.new.nodes c.in-Down.node in
    let up = c.in_ok-result.ensures.extends in
    let kept = g.met.R.Replacer.meaning_kept c.args.nodes.now c.step.new.nodes c.args.replacer.now c.requires.ready up in
    let down : IsStep (g.R.Replacer.covers m) (g.R.Replacer.image m) c.step.new.nodes (tree_at c.args.nodes.now c.args.t) (step.Down c.in-Down.node) = rw c.in-Down.is at c.in_ok-result.ensures.step in
    let first : tree_at c.replace_small.new.nodes c.in-Some.first ≡ g.R.Replacer.image m (row_at (children u) 0) = (rw (c.in-Some.is, kept, c.child-first.ensures.tree) at c.in_ok-first.ensures.made).1 in
    let n : row_length (children u) ≡ 1 = omega (arith, c.child_count-count.ensures.count, c.if-count-eq1.true) in
    let made = over_one C f (laws g m) (tree_at c.args.nodes.now c.args.t) u (tree_at c.replace_small.new.nodes c.in-Some.first) c.label-label.result c.label-label.ensures.is c.label-label.ensures.formed down.1 n first in
    made.0

pub returns-then-count-eq1-clause-made : goal.returns-then-count-eq1-clause-made
returns-then-count-eq1-clause-made g t c =
    let m = g.R.Replacer.meaning c.args.nodes.now c.args.replacer.now in
    let C = g.R.Replacer.covers m in
    let f = g.R.Replacer.image m in
    let u = tree_at c.step.new.nodes c.in-Down.node in
    let up = c.in_ok-result.ensures.extends in
    let kept = g.met.R.Replacer.meaning_kept c.args.nodes.now c.step.new.nodes c.args.replacer.now c.requires.ready up in
    let down : IsStep (g.R.Replacer.covers m) (g.R.Replacer.image m) c.step.new.nodes (tree_at c.args.nodes.now c.args.t) (step.Down c.in-Down.node) = rw c.in-Down.is at c.in_ok-result.ensures.step in
    let first : tree_at c.replace_small.new.nodes c.in-Some.first ≡ g.R.Replacer.image m (row_at (children u) 0) = (rw (c.in-Some.is, kept, c.child-first.ensures.tree) at c.in_ok-first.ensures.made).1 in
    let n : row_length (children u) ≡ 1 = omega (arith, c.child_count-count.ensures.count, c.if-count-eq1.true) in
    let made = over_one C f (laws g m) (tree_at c.args.nodes.now c.args.t) u (tree_at c.replace_small.new.nodes c.in-Some.first) c.label-label.result c.label-label.ensures.is c.label-label.ensures.formed down.1 n first in
    (c.in_ok-make.ensures.within, c.in_ok-make.ensures.tree ∙ made.1)

pub replace_small-requires-2 : goal.replace_small-requires-2
replace_small-requires-2 g t c = λ κs k.
    let m = g.R.Replacer.meaning c.args.nodes.now c.args.replacer.now in
    let C = g.R.Replacer.covers m in
    let f = g.R.Replacer.image m in
    let u = tree_at c.step.new.nodes c.in-Down.node in
    let up = c.in_ok-result.ensures.extends in
    let kept = g.met.R.Replacer.meaning_kept c.args.nodes.now c.step.new.nodes c.args.replacer.now c.requires.ready up in
    let down : IsStep (g.R.Replacer.covers m) (g.R.Replacer.image m) c.step.new.nodes (tree_at c.args.nodes.now c.args.t) (step.Down c.in-Down.node) = rw c.in-Down.is at c.in_ok-result.ensures.step in
    let still : tree_at c.replace_small.new.nodes c.in-Down.node ≡ u = c.replace_small.ensures.extends.kept c.in-Down.node down.0 in
    let later = Extends-trans up c.replace_small.ensures.extends in
    let kept-2 = g.met.R.Replacer.meaning_kept c.args.nodes.now c.replace_small.new.nodes c.args.replacer.now c.requires.ready later in
    let child : tree_at c.replace_small.new.nodes c.child-second.result ≡ row_at (children u) 1 = rw still at c.child-second.ensures.tree in
    let some : 1 < row_length (children u) = omega (arith, c.child_count-count.ensures.count, c.if-count-eq0.false, c.if-count-eq1.false) in (
      omega (arith, c.decreases),
      (
        k,
        (
          c.child-second.ensures.within,
          (
            g.met.R.Replacer.ready_kept c.args.nodes.now c.replace_small.new.nodes c.args.replacer.now c.requires.ready later,
            rw (kept-2, child) (covers_child C f (laws g m) (tree_at c.args.nodes.now c.args.t) u c.label-label.result 1 c.label-label.ensures.is down.1 some),
          ),
        ),
      ),
    )

pub make-requires-2-clause-formed : goal.make-requires-2-clause-formed
make-requires-2-clause-formed g t c =
    let m = g.R.Replacer.meaning c.args.nodes.now c.args.replacer.now in
    let C = g.R.Replacer.covers m in
    let f = g.R.Replacer.image m in
    let u = tree_at c.step.new.nodes c.in-Down.node in
    let up = c.in_ok-result.ensures.extends in
    let kept = g.met.R.Replacer.meaning_kept c.args.nodes.now c.step.new.nodes c.args.replacer.now c.requires.ready up in
    let down : IsStep (g.R.Replacer.covers m) (g.R.Replacer.image m) c.step.new.nodes (tree_at c.args.nodes.now c.args.t) (step.Down c.in-Down.node) = rw c.in-Down.is at c.in_ok-result.ensures.step in
    let first : tree_at c.replace_small.new.nodes c.in-Some.first ≡ g.R.Replacer.image m (row_at (children u) 0) = (rw (c.in-Some.is, kept, c.child-first.ensures.tree) at c.in_ok-first.ensures.made).1 in
    let still : tree_at c.replace_small.new.nodes c.in-Down.node ≡ u = c.replace_small.ensures.extends.kept c.in-Down.node down.0 in
    let later = Extends-trans up c.replace_small.ensures.extends in
    let kept-2 = g.met.R.Replacer.meaning_kept c.args.nodes.now c.replace_small.new.nodes c.args.replacer.now c.requires.ready later in
    let child : tree_at c.replace_small.new.nodes c.child-second.result ≡ row_at (children u) 1 = rw still at c.child-second.ensures.tree in
    let held : tree_at c.replace_small-2.new.nodes c.in-Some.first ≡ g.R.Replacer.image m (row_at (children u) 0) = c.replace_small-2.ensures.extends.kept c.in-Some.first (rw c.in-Some.is at c.in_ok-first.ensures.made).0 ∙ first in
    let second : tree_at c.replace_small-2.new.nodes c.in-Some-2.second ≡ g.R.Replacer.image m (row_at (children u) 1) = (rw (c.in-Some-2.is, kept-2, child) at c.in_ok-second.ensures.made).1 in
    let n : row_length (children u) ≡ 2 = omega (arith, c.child_count-count.ensures.count, c.if-count-eq0.false, c.if-count-eq1.false, c.if-count-gt2.false) in
    let made = over_two C f (laws g m) (tree_at c.args.nodes.now c.args.t) u (tree_at c.replace_small-2.new.nodes c.in-Some.first) (tree_at c.replace_small-2.new.nodes c.in-Some-2.second) c.label-label.result c.label-label.ensures.is c.label-label.ensures.formed down.1 n held second in
    made.0

pub returns-clause-made : goal.returns-clause-made
returns-clause-made g t c =
    let m = g.R.Replacer.meaning c.args.nodes.now c.args.replacer.now in
    let C = g.R.Replacer.covers m in
    let f = g.R.Replacer.image m in
    let u = tree_at c.step.new.nodes c.in-Down.node in
    let up = c.in_ok-result.ensures.extends in
    let kept = g.met.R.Replacer.meaning_kept c.args.nodes.now c.step.new.nodes c.args.replacer.now c.requires.ready up in
    let down : IsStep (g.R.Replacer.covers m) (g.R.Replacer.image m) c.step.new.nodes (tree_at c.args.nodes.now c.args.t) (step.Down c.in-Down.node) = rw c.in-Down.is at c.in_ok-result.ensures.step in
    let first : tree_at c.replace_small.new.nodes c.in-Some.first ≡ g.R.Replacer.image m (row_at (children u) 0) = (rw (c.in-Some.is, kept, c.child-first.ensures.tree) at c.in_ok-first.ensures.made).1 in
    let still : tree_at c.replace_small.new.nodes c.in-Down.node ≡ u = c.replace_small.ensures.extends.kept c.in-Down.node down.0 in
    let later = Extends-trans up c.replace_small.ensures.extends in
    let kept-2 = g.met.R.Replacer.meaning_kept c.args.nodes.now c.replace_small.new.nodes c.args.replacer.now c.requires.ready later in
    let child : tree_at c.replace_small.new.nodes c.child-second.result ≡ row_at (children u) 1 = rw still at c.child-second.ensures.tree in
    let held : tree_at c.replace_small-2.new.nodes c.in-Some.first ≡ g.R.Replacer.image m (row_at (children u) 0) = c.replace_small-2.ensures.extends.kept c.in-Some.first (rw c.in-Some.is at c.in_ok-first.ensures.made).0 ∙ first in
    let second : tree_at c.replace_small-2.new.nodes c.in-Some-2.second ≡ g.R.Replacer.image m (row_at (children u) 1) = (rw (c.in-Some-2.is, kept-2, child) at c.in_ok-second.ensures.made).1 in
    let n : row_length (children u) ≡ 2 = omega (arith, c.child_count-count.ensures.count, c.if-count-eq0.false, c.if-count-eq1.false, c.if-count-gt2.false) in
    let made = over_two C f (laws g m) (tree_at c.args.nodes.now c.args.t) u (tree_at c.replace_small-2.new.nodes c.in-Some.first) (tree_at c.replace_small-2.new.nodes c.in-Some-2.second) c.label-label.result c.label-label.ensures.is c.label-label.ensures.formed down.1 n held second in
    (c.in_ok-make-2.ensures.within, c.in_ok-make-2.ensures.tree ∙ made.1)
