-- Pairs of trees that a call of relating met before.
use Rattle.std.specs.Prelude.{◌≡◌, ℕ, ◌<◌, List, [], ◌∷◌}
use Rattle.nts_model.specs.Terms.Trees.{Tree, size}
use Rattle.nts_model.specs.Tables.Contents.{Content}
use Rattle.nts_model.specs.Tables.Resolving.{IsSound, deeply_resolved}
use Rattle.nts_model.specs.Tables.Worlds.{World, inst, Solves}
use Rattle.nts_model.specs.Tables.Holding.{Continues}
use Rattle.nts_model.specs.Tables.Alike.{AreAlike}

-- what says whether two trees are one: a world, or a table
pub data OnenessJudge : Type 0 where
  of_world : World → OnenessJudge
  of_table : Content → OnenessJudge

-- the worlds that solve a table, and the tables that continue it
abbrev pub IsJudgeOf : Content → OnenessJudge → Type 0
IsJudgeOf c (of_world w) = Solves c w
IsJudgeOf c (of_table f) = IsSound f × Continues c f

abbrev pub judged_size : OnenessJudge → Tree → ℕ
judged_size (of_world w) t = size (inst w t)
judged_size (of_table f) t = size (deeply_resolved f t)

abbrev pub JudgesOne : OnenessJudge → Tree → Tree → Type 0
JudgesOne (of_world w) a b = inst w a ≡ inst w b
JudgesOne (of_table f) a b = AreAlike f a b

-- the pairs whose left trees are of a size below n are one
abbrev pub OneBelow : OnenessJudge → ℕ → List (Tree × Tree) → Type 0
OneBelow j n [] = Unit {0}
OneBelow j n (p ∷ ps) = (judged_size j p.0 < n → JudgesOne j p.0 p.1) × OneBelow j n ps

-- the pair is one where the smaller ones of the pairs left are
pub record IsOneAfter (c : Content) (left : List (Tree × Tree)) (p : Tree × Tree) : Type 0 where
  pub one : (j : OnenessJudge) → IsJudgeOf c j → OneBelow j (judged_size j p.0) left → JudgesOne j p.0 p.1

abbrev pub AreOneAfter : Content → List (Tree × Tree) → List (Tree × Tree) → Type 0
AreOneAfter c left [] = Unit {0}
AreOneAfter c left (p ∷ ps) = IsOneAfter c left p × AreOneAfter c left ps
