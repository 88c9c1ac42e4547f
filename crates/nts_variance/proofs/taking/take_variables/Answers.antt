use Rattle.std.proofs.Common.{◌≢◌, refl, sym, subst, inr, ◌∙◌}
use Rattle.nts_store.specs.Growth.{tree_at}
use Rattle.nts_unify.specs.Reading.{content_of}
use Rattle.nts_unify.specs.Roots.{IsRoot}
use Rattle.nts_unify.proofs.Leading.{IsRoot-content}
use Rattle.nts_variance.specs.Terms.{pair_at, IsGoal}
use Rattle.nts_variance.proofs.DueCalls.{number_variable, variables_due}
use Rattle.nts_variance.proofs.Looks.{variable_closed}
use Rattle.nts_variance.proofs.Sides.{one_class}
use Rattle.nts_variance.proofs.Takes.{takes_class}
use Rattle.nts_variance.proofs.taking.take_variables.Goals as goal

pub returns-then-root : goal.returns-then-root
returns-then-root c = λ declared.
    let ts = c.args.nodes.now in
    let e = c.args.table.now.entries in
    let p = c.args.pair in
    let known = c.requires.pair in
    let one = one_class ts e (tree_at ts p.left) (tree_at ts p.right) c.label.result c.label-2.result c.in-Some.x c.in-Some-type_number.y c.root.result c.root-2.result c.requires.lawful known.left.knows known.right.knows c.label.ensures.is c.label-2.ensures.is c.label.ensures.formed c.label-2.ensures.formed (sym c.in-Some.ensures) (sym c.in-Some-type_number.ensures) c.root.ensures c.root-2.ensures c.if-root.true in
    (c.requires.lawful, takes_class declared (content_of ts e) p.variance (tree_at ts p.left) (tree_at ts p.right) c.requires.lawful.sound known.left.knows known.right.knows one)

pub returns : goal.returns
returns c = λ declared.
    let ts = c.args.nodes.now in
    let e = c.args.table.now.entries in
    let p = c.args.pair in
    let known = c.requires.pair in
    let x = number_variable (tree_at ts p.left) c.label.result c.in-Some.x c.label.ensures.is (sym c.in-Some.ensures) in
    let y = number_variable (tree_at ts p.right) c.label-2.result c.in-Some-type_number.y c.label-2.ensures.is (sym c.in-Some-type_number.ensures) in
    let left = variable_closed (tree_at ts p.left) c.in-Some.x x (c.terms_are_formed.ensures.formed p.left known.left.within) in
    let right = variable_closed (tree_at ts p.right) c.in-Some-type_number.y y (c.terms_are_formed.ensures.formed p.right known.right.within) in
    let apart : c.in-Some.x ≢ c.in-Some-type_number.y = λ same.
    (let again : IsRoot e c.in-Some-type_number.y c.root.result = subst (λ n. IsRoot e n c.root.result) same c.root.ensures in
    c.if-root.false (sym (IsRoot-content ts e c.in-Some-type_number.y c.root.result c.requires.lawful.sound.descends again) ∙ IsRoot-content ts e c.in-Some-type_number.y c.root-2.result c.requires.lawful.sound.descends c.root-2.ensures)) in
    let goal_of_two : IsGoal (pair_at ts p) = record { left = left.0; right = right.0; kinds = left.1 ∙ sym right.1; rests = inr (c.requires.varies, left.1, right.1) } in
    (refl, refl, goal_of_two, variables_due (content_of ts e) (content_of ts e) (pair_at ts p) c.in-Some.x c.in-Some-type_number.y c.requires.varies x y apart)
