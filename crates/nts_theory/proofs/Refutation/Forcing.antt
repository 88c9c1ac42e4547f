-- What is forced of goals within a height is forced within a greater one.
use Rattle.std.proofs.Common.{List, [], ◌∷◌}
use Rattle.nts_model.specs.Terms.Trees.{Tree}
use Rattle.nts_model.specs.Tables.Contents.{Content}
use Rattle.nts_model.specs.Derivations.Sequents.{Premise}
use Rattle.nts_model.specs.Derivations.Handlers.{Candidate}
use Rattle.nts_model.specs.Refutation.Forcing.{GoalsLeave, LeavesAll, IsForced}

LeavesAll-map : (P Q : GoalsLeave) → ((c d : Content) (e g : Tree) → P c d e g → Q c d e g) → (xs : List Tree) (ps : List Premise) (c d : Content) → LeavesAll P xs ps c d → LeavesAll Q xs ps c d
LeavesAll-map P Q f xs [] c d h = h
LeavesAll-map P Q f xs (p ∷ ps) c d (e, one, rest) = (e, f c e _ _ one, LeavesAll-map P Q f xs ps e d rest)

pub IsForced-map : (offers : Tree → Tree → List Candidate) (P Q : GoalsLeave) → ((c d : Content) (e g : Tree) → P c d e g → Q c d e g) → (c d : Content) (e g : Tree) → IsForced offers P c d e g → IsForced offers Q c d e g
IsForced-map offers P Q f c d e g h =
    record {
      candidate = h.candidate;
      only = h.only;
      sure = h.sure;
      values = h.values;
      made = h.made;
      equal = h.equal;
      met = h.met;
      freshens = h.freshens;
      equates = h.equates;
      adds = h.adds;
      goals = (let x = h.candidate in LeavesAll-map P Q f h.values x.goals h.met d h.goals);
    }
