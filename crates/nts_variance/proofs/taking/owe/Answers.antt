use Rattle.std.proofs.Common.{◌≡◌, true, false, ap, ◌∙◌}
use Rattle.std.specs.Option.{is_some}
use Rattle.nts_store.specs.Growth.{tree_at}
use Rattle.nts_store.specs.TypeFlags.{escaping}
use Rattle.nts_variance.proofs.Bound.{none_escape, some_escapes}
use Rattle.nts_variance.proofs.taking.owe.Goals as goal

pub returns-then-is_some-clause-no : goal.returns-then-is_some-clause-no
returns-then-is_some-clause-no c = λ q left right same.
    let t = tree_at c.args.nodes.now c.args.pair.left in
    let some : true ≡ is_some (escaping t) = c.if-is_some.ensures ∙ ap (λ f. is_some f.escaping) c.flags.ensures in
    some_escapes t some left

pub returns-then-is_some-2-clause-no : goal.returns-then-is_some-2-clause-no
returns-then-is_some-2-clause-no c = λ q left right same.
    let t = tree_at c.args.nodes.now c.args.pair.right in
    let some : true ≡ is_some (escaping t) = c.if-is_some-2.ensures ∙ ap (λ f. is_some f.escaping) c.flags-2.ensures in
    some_escapes t some right

pub returns-clause-closed : goal.returns-clause-closed
returns-clause-closed c =
    let a = tree_at c.args.nodes.now c.args.pair.left in
    let b = tree_at c.args.nodes.now c.args.pair.right in
    let left : false ≡ is_some (escaping a) = c.if-is_some.ensures ∙ ap (λ f. is_some f.escaping) c.flags.ensures in
    let right : false ≡ is_some (escaping b) = c.if-is_some-2.ensures ∙ ap (λ f. is_some f.escaping) c.flags-2.ensures in
    (none_escape a left, none_escape b right)
