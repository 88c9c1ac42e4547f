use Rattle.std.proofs.Common.{refl, ap, ◌∙◌}
use Rattle.nts_model.specs.Terms.Substitutions.{replace}
use Rattle.nts_model.specs.Canonical.Numbered.{numbered_leaf, no_leaf}
use Rattle.nts_store.proofs.Growing.{Extends-trans}
use Rattle.nts_canonical.proofs.PairLists.{holds_kept, are_hidden-kept, hidden_row-kept, AreImages-row, AreImages-held}
use Rattle.nts_canonicalizer.proofs.canonicalize.numbered_query.Goals as goal

pub numbered_hidden-requires : goal.numbered_hidden-requires
numbered_hidden-requires c = are_hidden-kept c.args.nodes.now c.numbered-2.new.nodes c.args.opaque_types.now c.requires.hidden (Extends-trans c.numbered.ensures.extends c.numbered-2.ensures.extends)

pub returns-clause-hidden : goal.returns-clause-hidden
returns-clause-hidden c =
    let f = replace (numbered_leaf no_leaf c.args.leaves.now) in
    let up = Extends-trans c.numbered.ensures.extends c.numbered-2.ensures.extends in
    AreImages-row f (record { of_empty = refl; of_more = λ s t. refl }) c.numbered-2.new.nodes c.numbered_hidden.new.nodes c.args.opaque_types.now c.in_ok-hidden.hidden.items c.in_ok-hidden.ensures.images
    ∙ ap f (hidden_row-kept c.args.nodes.now c.numbered-2.new.nodes c.args.opaque_types.now c.requires.hidden up)

pub returns-clause-holds : goal.returns-clause-holds
returns-clause-holds c =
    let f = replace (numbered_leaf no_leaf c.args.leaves.now) in
    let last = c.numbered_hidden.ensures.extends in
    record {
      environment = holds_kept _ _ _ _ c.in_ok-param_env.ensures.holds (Extends-trans c.numbered-2.ensures.extends last);
      predicate = holds_kept _ _ _ _ c.in_ok-predicate.ensures.holds last;
      hidden = AreImages-held f c.numbered-2.new.nodes c.numbered_hidden.new.nodes c.args.opaque_types.now c.in_ok-hidden.hidden.items c.in_ok-hidden.ensures.images;
    }
