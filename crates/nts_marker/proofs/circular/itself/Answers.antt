use Rattle.std.proofs.Common.{refl}
use Rattle.nts_marker.proofs.Circles.{nested_in_itself}
use Rattle.nts_marker.proofs.circular.itself.Goals as goal

pub returns-clause-candidate : goal.returns-clause-candidate
returns-clause-candidate c =
    record {
      hidden = c.new-4.ensures.items;
      accesses = refl;
      equations = rw c.new-2.ensures.items tt;
      constraints = rw c.new-3.ensures.items tt;
      goals = rw (c.in_ok-push.ensures.items, c.new-goals.ensures.items) (nested_in_itself c.args.cx.now.nodes c.new.result.items c.args.goal c.requires, tt);
    }
