use Rattle.nts_variance.proofs.GoalLemmas.{ordered_places, places_kept}
use Rattle.nts_variance.proofs.goals.predicate_of.Goals as goal

pub make-requires-2-clause-formed : goal.make-requires-2-clause-formed
make-requires-2-clause-formed c =
    places_kept c.args.nodes.now c.make.new.self c.args.pair c.head_of_pair-head.result c.lesser_first-ordered.result c.in_ok-sorts.ensures.extends c.requires.left c.requires.right c.lesser_first-ordered.ensures c.head_of_pair-head.ensures (ordered_places c.args.nodes.now c.args.pair c.requires.goal)
