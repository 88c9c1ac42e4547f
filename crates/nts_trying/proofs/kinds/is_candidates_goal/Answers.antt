use Rattle.std.proofs.Common.{rules, ◌≡◌, ◌∙◌, false, not, is_some, ap, sym, true}
use Rattle.nts_model.specs.Terms.Trees.{children, row_length}
use Rattle.nts_model.specs.Derivations.Sequents.{HasClosedStatements}
use Rattle.nts_store.specs.Growth.{tree_at}
use Rattle.nts_meaning.proofs.TraitsAsked.{trait_asked}
use Rattle.nts_trying.proofs.Unasked.{not_false, closed_none, asked_flags, asked_binds_none, asked_args_closed}
use Rattle.nts_trying.proofs.kinds.is_candidates_goal.Goals.{then-is_some-via-then-is_some, then-is_some-via-else-is_some+then-len-ne0}
use Rattle.nts_trying.proofs.kinds.is_candidates_goal.Goals as goal

pub returns : goal.returns
returns c = (
  λ yes.
      let env_open : is_some c.flags-env.result.escaping ≡ false = first_of (cc, search rules) in
      let args_open : is_some c.flags-args.result.escaping ≡ false = c.is_none.ensures ∙ ap not yes in
      let env_plain : c.flags-env.result.has_alias ≡ false = first_of (cc, search rules) in
      let goal_plain : c.flags-flags.result.has_alias ≡ false = first_of (cc, search rules) in
      let env_names : c.flags-env.result.has_canonical ≡ false = first_of (cc, search rules) in
      let goal_names : c.flags-flags.result.has_canonical ≡ false = first_of (cc, search rules) in
      let statements : HasClosedStatements (tree_at c.args.cx.now.nodes c.args.goal.param_env.node) = c.statements_are_closed.ensures.0 (first_of (cc, search rules)) in
      let none : row_length (children (tree_at c.args.cx.now.nodes c.kind-predicate.result.vars.node)) ≡ 0 = first_of (cc, search rules) in
      trait_asked c.args.cx.now.nodes c.args.goal c.kind-predicate.result c.in-Some.trait_ref c.flags-env.result c.flags-flags.result c.flags-args.result
      (record {
        formed = c.terms_are_formed.ensures;
        holds = c.requires;
        says = c.kind-predicate.ensures.tree;
        fits = c.kind-predicate.ensures.fits;
        row = c.len.ensures.row;
        none = none;
        is_trait = c.in-Some.ensures.is c.args.cx.now.nodes;
        env_facts = c.flags-env.ensures;
        goal_facts = c.flags-flags.ensures;
        args_facts = c.flags-args.ensures;
        env_closed = env_open;
        args_closed = args_open;
        env_plain = env_plain;
        goal_plain = goal_plain;
        env_names = env_names;
        goal_names = goal_names;
        env_well_bound = c.is_well_bound.ensures.0 c.if-not-is_well_bound.false;
        goal_well_bound = c.is_well_bound-2.ensures.0 c.if-not-is_well_bound-2.false;
        statements = statements;
      }),
  λ h. not_false c.is_none.result (sym c.is_none.ensures ∙ closed_none (tree_at c.args.cx.now.nodes c.in-Some.trait_ref.args.node) c.flags-args.result c.flags-args.ensures (asked_args_closed c.args.cx.now.nodes c.args.goal c.kind-predicate.result c.in-Some.trait_ref c.kind-predicate.ensures.tree (c.in-Some.ensures.is c.args.cx.now.nodes) h)),
)

pub returns-then-is_some : goal.returns-then-is_some
returns-then-is_some c = (
  λ e. absurd (let z : true ≡ false = sym e in cc),
  λ h.
      let f = asked_flags c.args.cx.now.nodes c.args.goal c.flags-env.result c.flags-flags.result c.flags-env.ensures c.flags-flags.ensures h in
      let none = asked_binds_none c.args.cx.now.nodes c.args.goal c.kind-predicate.result c.kind-predicate.ensures.tree h in
      elim c.then-is_some.branch [
        | then-is_some-via-then-is_some w ↦ sym (sym w.if-is_some.true ∙ c.is_some.ensures ∙ f.env_closed)
        | then-is_some-via-else-is_some+then-len-ne0 w ↦ absurd (w.if-len-ne0.true (w.len.ensures.count ∙ none))
      ],
)
