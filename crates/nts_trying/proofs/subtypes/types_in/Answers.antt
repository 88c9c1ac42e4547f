use Rattle.std.proofs.Common.{rules, ◌≡◌}
use Rattle.nts_model.specs.Terms.Trees.{children, row_length}
use Rattle.nts_store.specs.Growth.{tree_at}
use Rattle.nts_trying.proofs.SubtypeGoals.{subtype_here}
use Rattle.nts_trying.proofs.subtypes.types_in.Goals as goal

pub returns : goal.returns
returns c =
    let ts = c.args.cx.now.nodes in
    let none : row_length (children (tree_at ts c.kind-predicate.result.vars.node)) ≡ 0 = first_of (cc, search rules) in
    record {
      types = c.in_ok-types.ensures.fits ts c.kind-predicate.ensures.fits.1;
      is = record {
        says = subtype_here ts c.args.goal c.kind-predicate.result c.kind-predicate.ensures.tree c.terms_are_formed.ensures c.requires c.kind-predicate.ensures.fits c.len.ensures.row none _ _ (c.in_ok-types.ensures.found ts) (c.has_closed_statement.ensures.0 c.if-not-has_closed_statement.false);
        environment = c.is_closed_env.ensures.0 c.if-not-is_closed_env.false;
      };
    }
