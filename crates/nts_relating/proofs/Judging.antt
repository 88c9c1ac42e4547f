-- What worlds and tables say of trees and of pairs.
use Rattle.std.proofs.Common.{◌≡◌, ℕ, ◌+◌, ◌<◌, List, [], ◌∷◌, ◌++◌, refl, ap}
use Rattle.nts_model.specs.Terms.Trees.{Tree, more, size}
use Rattle.nts_model.proofs.Tables.Alike.{AreAlike-itself, AreAlike-more}
use Rattle.nts_relating.specs.Met.{OnenessJudge, of_world, of_table, judged_size, JudgesOne, OneBelow}
use Rattle.nts_model.proofs.Tables.TableInstances.{deeply_resolved-more}

-- rows
pub judged-more : (j : OnenessJudge) (a b : Tree) → judged_size j (more a b) ≡ judged_size j a + judged_size j b + 1
judged-more (of_world w) a b = refl
judged-more (of_table f) a b = ap size (deeply_resolved-more f a b)

pub one-itself : (j : OnenessJudge) (a : Tree) → JudgesOne j a a
one-itself (of_world w) a = refl
one-itself (of_table f) a = AreAlike-itself f a

pub one-more : (j : OnenessJudge) (a b c d : Tree) → JudgesOne j a c → JudgesOne j b d → JudgesOne j (more a b) (more c d)
one-more (of_world w) a b c d h k = λ i. more (h i) (k i)
one-more (of_table f) a b c d h k = AreAlike-more f a b c d h k

pub below_front : (j : OnenessJudge) (n : ℕ) (ps : List (Tree × Tree)) (p : Tree × Tree) → OneBelow j n (ps ++ p ∷ []) → OneBelow j n ps × (judged_size j p.0 < n → JudgesOne j p.0 p.1)
below_front j n [] p h = (tt, h.0)
below_front j n (q ∷ ps) p h = let r = below_front j n ps p h.1 in ((h.0, r.0), r.1)
