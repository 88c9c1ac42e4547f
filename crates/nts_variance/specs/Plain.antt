-- Pairs and steps in which no alias stands, and what taking them keeps.
use Rattle.std.specs.Prelude.{◌≡◌, false, List, [], ◌∷◌}
use Rattle.nts_model.specs.Terms.Trees.{Tree, empty, any_label, is_alias}
use Rattle.nts_model.specs.Tables.Contents.{Content}
use Rattle.nts_variance_model.specs.Variances.Forms.{over}
use Rattle.nts_variance_model.specs.Variances.Relations.{Relating}
use Rattle.nts_relating.specs.Relating.{IsPlainIn, KeepsPlain}
use Rattle.nts_variance.specs.Steps.{WalkStep, enter, build, owe}
use Rattle.nts_variance.specs.SubRoots.{FoundsVariables}

-- no alias stands in the sides of the pairs, with the table's values in place of variables
abbrev pub ArePairsPlain : Content → List Relating → Type 0
ArePairsPlain c [] = Unit {0}
ArePairsPlain c (p ∷ ps) = (IsPlainIn c p.left × IsPlainIn c p.right) × ArePairsPlain c ps

-- .. in the trees
abbrev pub AreTreesPlain : Content → List Tree → Type 0
AreTreesPlain c [] = Unit {0}
AreTreesPlain c (t ∷ ts) = IsPlainIn c t × AreTreesPlain c ts

-- .. in the parts that are to be entered, and no node that is to be built is one
abbrev pub AreStepsPlain : Content → List WalkStep → Type 0
AreStepsPlain c [] = Unit {0}
AreStepsPlain c (enter v q t ∷ xs) = IsPlainIn c t × AreStepsPlain c xs
AreStepsPlain c (build F n ∷ xs) = (any_label is_alias (over F empty) ≡ false) × AreStepsPlain c xs
AreStepsPlain c (owe v t ∷ xs) = AreStepsPlain c xs

-- trees in which no alias stands have none afterwards, and each new variable that is no region was made for an older one
pub record StaysPlain (c d : Content) : Type 0 where
  pub keeps : KeepsPlain c d
  pub founds : FoundsVariables c d
