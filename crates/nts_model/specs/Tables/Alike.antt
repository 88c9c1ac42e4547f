-- Trees that are one but for free regions.
use Rattle.std.specs.Prelude.{◌≡◌, false, None}
use Rattle.nts_model.specs.declared.labels.Relation.TheVariants as relation
use Rattle.nts_model.specs.declared.labels.Label.{Label}
use Rattle.nts_model.specs.Terms.Trees.{Tree, more, node, infer_of}
use Rattle.nts_model.specs.Tables.Contents.{Content, Recorded}
use Rattle.nts_model.specs.Tables.Resolving.{deeply_resolved}
use Rattle.nts_model.specs.Terms.Regions.{IsRegion}
use Rattle.nts_model.specs.Tables.Holding.{HoldsConstraint}

-- two trees are alike: one tree, two regions that are related, one label over alike children, or rows
-- whose trees are alike
pub data Alike (R : Tree → Tree → Type 0) : Tree → Tree → Type 0 where
  one_tree : {t : Tree} → Alike R t t
  two_regions : {a b : Tree} → IsRegion a → IsRegion b → R a b → Alike R a b
  one_label : {l : Label} {c d : Tree} → infer_of l ≡ None → Alike R c d → Alike R (node l c) (node l d)
  two_rows : {a b c d : Tree} → Alike R a c → Alike R b d → Alike R (more a b) (more c d)

-- the constraint that makes two regions one
abbrev pub equality : Tree → Tree → Recorded
equality a b = record { relation = relation.Equal; left = a; right = b; is_visible = false }

-- the table holds that two regions are one
abbrev pub HoldsEqual : Content → Tree → Tree → Type 0
HoldsEqual c a b = HoldsConstraint c (equality a b)

-- under the table's values and roots the trees are one up to regions whose equalities the table holds
abbrev pub AreAlike : Content → Tree → Tree → Type 0
AreAlike c a b = Alike (HoldsEqual c) (deeply_resolved c a) (deeply_resolved c b)
