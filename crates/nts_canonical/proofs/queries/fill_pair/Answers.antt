use Rattle.std.proofs.Common.{map, ◌∙◌}
use Rattle.nts_store.specs.Growth.{tree_at}
use Rattle.nts_store.specs.Kept.{AllIn-kept}
use Rattle.nts_canonical.proofs.PairLists.{holds_kept, alias-filled}
use Rattle.nts_canonical.proofs.Filled.{has_values-kept, filled-kept}
use Rattle.nts_canonical.proofs.queries.fill_pair.Goals as goal

pub fill-requires-2-clause-values : goal.fill-requires-2-clause-values
fill-requires-2-clause-values c = AllIn-kept _ _ c.args.values.now c.requires.values c.fill.ensures.extends

pub fill-requires-2-clause-positions : goal.fill-requires-2-clause-positions
fill-requires-2-clause-positions c =
    has_values-kept _ _ c.args.values.now c.args.hidden.1.node c.requires.values c.requires.holds.hidden_type.within c.fill.ensures.extends c.requires.positions

pub returns-clause-image : goal.returns-clause-image
returns-clause-image c =
    let last = c.fill-2.ensures.extends in
    let args = c.in_ok-args.ensures in
    record {
      alias = alias-filled (map (tree_at c.args.nodes.now) c.args.values.now) c.args.nodes.now c.fill-2.new.nodes c.args.hidden.0 c.in_ok-args.args.node (last.kept c.in_ok-args.args.node args.holds.within ∙ args.tree);
      hidden_type = c.in_ok-ty.ensures.tree ∙ filled-kept c.args.nodes.now c.fill.new.nodes c.args.values.now c.args.hidden.1.node c.requires.values c.requires.holds.hidden_type.within c.fill.ensures.extends;
      held = record { of_types = c.requires.holds.of_types; args = holds_kept _ _ _ _ args.holds last; hidden_type = c.in_ok-ty.ensures.holds };
    }
