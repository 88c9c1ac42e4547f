use Rattle.std.proofs.Common.{rules, ◌≡◌, ◌∙◌, true, false, is_some, sym}
use Rattle.nts_store.specs.Growth.{tree_at}
use Rattle.nts_store.proofs.Escaping.{closed_by_facts}
use Rattle.nts_trying.proofs.Unasked.{closed_none}
use Rattle.nts_trying.proofs.outlives.is_closed_env.Goals as goal

pub returns : goal.returns
returns c =
    let free : is_some c.flags.result.escaping ≡ false = first_of (cc, search rules) in
    (λ yes. record { closed = closed_by_facts (tree_at c.args.cx.now.nodes c.args.env.node) c.flags.result c.flags.ensures free; statements = c.statements_are_closed.ensures.0 yes }, λ h. c.statements_are_closed.ensures.1 h.statements)

pub returns-then-is_some : goal.returns-then-is_some
returns-then-is_some c = (
  λ e. absurd (let z : true ≡ false = sym e in cc),
  λ h.
      let escapes : is_some c.flags.result.escaping ≡ true = first_of (cc, search rules) in
      absurd (let z : true ≡ false = sym escapes ∙ closed_none (tree_at c.args.cx.now.nodes c.args.env.node) c.flags.result c.flags.ensures h.closed in cc z),
)
