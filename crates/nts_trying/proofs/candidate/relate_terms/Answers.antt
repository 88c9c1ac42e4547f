use Rattle.std.proofs.Common.{rules}
use Rattle.nts_meaning.proofs.Evaluating.{related_goes, Knows-goes}
use Rattle.nts_meaning.proofs.Running.{alike_stays}
use Rattle.nts_candidates.proofs.Results.{OnOk-map}
use Rattle.nts_trying.proofs.candidate.relate_terms.Goals as goal

pub returns-clause-runs : goal.returns-clause-runs
returns-clause-runs c =
    let e = c.relate_nodes.ensures in
    record {
      goes = related_goes _ _ c.relate_nodes.result c.requires.table e.extends e.table e.changes.saved e.changes.mode e.changes.hidden e.related e.err e.later;
      rest = search rules;
    }

pub returns-clause-equal : goal.returns-clause-equal
returns-clause-equal c =
    let e = c.relate_nodes.ensures in
    let g = (returns-clause-runs c).goes in
    OnOk-map c.relate_nodes.result (λ r. alike_stays _ _ e.table (Knows-goes _ g c.requires.left.knows) (Knows-goes _ g c.requires.right.knows) r.alike) e.related
