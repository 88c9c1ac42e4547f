use Rattle.std.proofs.Common.{rules, ◌≡◌, Bool, true, false, not, is_some, refl, ap, ◌∙◌}
use Rattle.nts_model.specs.Terms.Trees.{children, row_length, IsClosed}
use Rattle.nts_store.specs.Growth.{tree_at}
use Rattle.nts_store.proofs.Escaping.{closed_by_facts, open_by_facts}
use Rattle.nts_terms.proofs.Binders.{body_closed, closed_body}
use Rattle.nts_terms.proofs.handles.Predicate.has_closed_statement.Goals as goal

-- a flag that is not none is some
by_flag : (s n : Bool) → s ≡ not n → (s ≡ true → ⊥) → n ≡ true
by_flag true true e h = refl
by_flag false true e h = refl
by_flag true false e h = absurd (h refl)
by_flag false false e h = cc

pub returns : goal.returns
returns c =
    let ts = c.args.cx.now.nodes in
    let t = tree_at ts c.args.self.node in
    let v = tree_at ts c.binder_children.result.0 in
    let b = tree_at ts c.binder_children.result.1 in
    let none : row_length (children v) ≡ 0 = first_of (cc, search rules) in (
      (λ yes. body_closed t v b c.binder_children.ensures.tree (closed_by_facts b c.flags.result c.flags.ensures (c.is_none.ensures ∙ ap not yes))),
      (λ h.
          let closed : IsClosed b = closed_body t v b c.binder_children.ensures.tree c.binder_children.ensures.vars.fits c.child_count.ensures.row none h in
          by_flag (is_some c.flags.result.escaping) c.is_none.result c.is_none.ensures (λ k. open_by_facts b c.flags.result c.flags.ensures k closed)),
    )
