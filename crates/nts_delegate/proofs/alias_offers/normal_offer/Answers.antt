use Rattle.std.proofs.Common.{map, refl, ◌∙◌, ap}
use Rattle.nts_model.specs.Terms.Trees.{children}
use Rattle.nts_store.specs.Growth.{tree_at}
use Rattle.nts_delegate.specs.Offers.{asked_by}
use Rattle.nts_delegate.proofs.AliasFound.{pairs_end}
use Rattle.nts_delegate.proofs.alias_offers.normal_offer.Goals as goal

pub returns-clause-offer : goal.returns-clause-offer
returns-clause-offer c =
    let ts = c.args.cx.now.nodes in
    record {
      fresh = c.in_ok-from_slice.ensures.items ∙ c.deref.ensures.value;
      equations = rw c.in_ok-push.ensures.items (pairs_end ts (children (tree_at ts c.args.alias.args.node)) (children (tree_at ts c.args.clause.now.head.node)) _ _ _ _ c.in_ok-equations.ensures (record {
        kind = refl;
        left_in = c.requires.term.within;
        right_in = c.requires.clause.result_holds.within;
        left = refl;
        right = refl;
        argument = rw c.requires.term.fits tt;
      }));
      constraints = c.new.ensures.items;
      hidden = c.new-2.ensures.items;
      goals = c.in_ok-asked_of.ensures ∙ ap (map (asked_by c.args.goal)) c.deref-2.ensures.value;
      certainty = refl;
      accesses = refl;
    }
