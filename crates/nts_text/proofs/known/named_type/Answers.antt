use Rattle.nts_text.proofs.ReadingLemmas.{unknown_name, wrong_name}
use Rattle.nts_text.proofs.known.named_type.Goals.{in-Int, in-Uint, in-Type, in-Alias}
use Rattle.nts_text.proofs.known.named_type.Goals as goal

pub returns-clause-means : goal.returns-clause-means
returns-clause-means c = λ scope b.
    let found = c.in_ok-int.ensures.found in
    elim c.match-branch-2.branch [
      | in-Int w ↦ rw w.found-is (rw w.in-Int.is at found)
      | in-Uint w ↦ rw w.found-is (rw w.in-Uint.is at found)
      | in-Type w ↦ rw w.found-is (rw w.in-Type.is at found, cc)
      | in-Alias w ↦ rw w.found-is ((w.in-Alias.is_rigid, rw w.in-Alias.is at found), cc)
    ]

-- a name that stands for nothing of the kind
pub returns-in_err-int : goal.returns-in_err-int
returns-in_err-int c = unknown_name _ _ _ _ _ _ c.from_residual.result _ c.from_residual.ensures.1 c.in_err-int.ensures.unknown

pub returns-in-Trait : goal.returns-in-Trait
returns-in-Trait c = wrong_name _ _ _ _ _ _ c.refused.result c.refused.ensures

pub returns-then-wanted-node : goal.returns-then-wanted-node
returns-then-wanted-node c = wrong_name _ _ _ _ _ _ c.refused-then-wanted-node.result c.refused-then-wanted-node.ensures
