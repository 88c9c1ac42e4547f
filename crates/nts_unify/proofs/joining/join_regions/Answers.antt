use Rattle.std.proofs.Common.{refl}
use Rattle.nts_unify.proofs.JoinLemmas.{regions_join}
use Rattle.nts_unify.proofs.joining.join_regions.Goals as goal

pub returns-clause-joined : goal.returns-clause-joined
returns-clause-joined c = λ ts h.
    let l = c.in_ok-link_regions.ensures.linked in
    regions_join ts c.args.table.now.entries _ _ c.args.x c.args.y _ _ _ l.low l.high c.requires h refl refl l.low_at l.high_at refl refl l.entries
