use Rattle.std.proofs.Common.{◌≡◌, ◌<◌, ◌≤◌, arith, refl, sym, true, false, ◌∙◌}
use Rattle.nts_model.specs.Terms.Trees.{children, row_at, row_length}
use Rattle.nts_store.specs.Growth.{tree_at}
use Rattle.nts_terms.proofs.Standing.{env_tree}
use Rattle.nts_meaning.proofs.TraitsAsked.{closed_all}
use Rattle.nts_trying.proofs.Unasked.{in_row_at}
use Rattle.nts_trying.proofs.kinds.statements_are_closed.Goals as goal

pub returns : goal.returns
returns c =
    let e = tree_at c.args.cx.now.nodes c.args.env.node in
    let all : row_length (children e) ≤ c.loop-i.i = omega (arith, c.loop-i-test.false, c.len-i-end.ensures.count) in
    (λ yes. closed_all e c.loop-i.i all c.loop-i.invariant, λ h. refl)

pub returns-then-not-has_closed_statement : goal.returns-then-not-has_closed_statement
returns-then-not-has_closed_statement c =
    let e = tree_at c.args.cx.now.nodes c.args.env.node in
    let below : c.loop-i.i < row_length (children e) = omega (arith, c.loop-i-test.true, c.len-i-end.ensures.count) in (
      λ yes. absurd (let z : true ≡ false = sym yes in cc),
      λ h. sym c.if-not-has_closed_statement.true ∙ c.has_closed_statement.ensures.1 (rw c.get.ensures.tree (h (children e) (row_at (children e) c.loop-i.i) (env_tree e c.requires.fits) (in_row_at (children e) c.loop-i.i below))),
    )
