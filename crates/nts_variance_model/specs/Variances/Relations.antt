-- Pairs of trees to be related by variances, and what relating them does to a table: what is left of them, and the goals.
use Rattle.std.specs.Prelude.{◌≡◌, ℕ, ◌<◌, ◌≤◌, List, [], ◌∷◌, Option, length}
use Rattle.nts_model.specs.declared.labels.Variance.{Variance}
use Rattle.nts_model.specs.declared.labels.Label.{Label}
use Rattle.nts_model.specs.Terms.Trees.{Tree}
use Rattle.nts_model.specs.Tables.Contents.{Content}
use Rattle.nts_model.specs.Tables.Resolving.{Knows}
use Rattle.nts_model.specs.Tables.Levels.{NamesAll}
use Rattle.nts_model.specs.Tables.Worlds.{World, inst, IsTrueOf, IsNameable, Solves, Agrees}
use Rattle.nts_model.specs.Derivations.Related.{Constraint}
use Rattle.nts_variance_model.specs.Variances.Judging.{Judging, IsSettled, Settles}

-- two trees to be related: a pair that is left, or a goal (AliasRelate where a side is an alias, else Subtype)
pub record Relating : Type 0 where
  pub variance : Variance
  pub left : Tree
  pub right : Tree

abbrev pub SettlesIn : Judging → World → Relating → Type 0
SettlesIn J w p = Settles J p.variance (inst w p.left) (inst w p.right)

abbrev pub AllSettleIn : Judging → World → List Relating → Type 0
AllSettleIn J w [] = Unit {0}
AllSettleIn J w (p ∷ ps) = SettlesIn J w p × AllSettleIn J w ps

abbrev pub ArePairsKnown : Content → List Relating → Type 0
ArePairsKnown c [] = Unit {0}
ArePairsKnown c (p ∷ ps) = Knows c p.left × Knows c p.right × ArePairsKnown c ps

-- the judging calls true what is true in the world
pub record IsJudgedBy (J : Judging) (w : World) : Type 0 where
  pub met : (x : Constraint) → J.holds x → IsTrueOf w x.relation x.left x.right
  pub held : (x : Constraint) → IsTrueOf w x.relation x.left x.right → J.holds x

-- the variables of the table stand for settled trees
pub record IsSettledWorld (J : Judging) (c : Content) (w : World) : Type 0 where
  pub each : (n : ℕ) → n < length c.slots → IsSettled J (w.tree n)

-- a settled world that solves the table d, and is the world w but for what the table c lacks; where `Named`, it is nameable by
-- each measure of universes by which w is
pub record SettledExtension (J : Judging) (c d : Content) (w : World) (Named : (Label → Option ℕ) → Type 0) : Type 0 where
  pub world : World
  pub agrees : Agrees (length c.slots) w world
  pub solves : Solves d world
  pub settled : IsSettledWorld J d world
  pub names : (f : Label → Option ℕ) → IsNameable f c w → Named f → IsNameable f d world

-- relating ps in the first table leaves qs and the goals gs in the second
pub record ReducesBy (J : Judging) (c d : Content) (ps qs gs : List Relating) : Type 0 where
  pub more : length c.slots ≤ length d.slots
  pub back : (w : World) → Solves d w → Solves c w
  pub sound : (w : World) → Solves d w → IsJudgedBy J w → IsSettledWorld J d w → AllSettleIn J w qs → AllSettleIn J w gs → AllSettleIn J w ps
  pub complete : (w : World) → Solves c w → IsJudgedBy J w → IsSettledWorld J c w → AllSettleIn J w ps
      → (e : SettledExtension J c d w (λ f. Unit {0})) × AllSettleIn J e.world qs × AllSettleIn J e.world gs

-- no settled world that solves the table relates the pairs
pub record RefusesBy (J : Judging) (c : Content) (ps : List Relating) : Type 0 where
  pub none : (w : World) → Solves c w → IsJudgedBy J w → IsSettledWorld J c w → AllSettleIn J w ps → ⊥

-- the tree r stands for t by a variance in the value of a variable that the universe u bounds, under b binders; gs are the
-- goals that its fresh variables owe, all of them only if `Loud`. Each settled tree that is related with t is an instance of r
pub record StandsIn (J : Judging) (c d : Content) (w : World) (u : ℕ) (r s : Tree) (gs : List Relating) : Type 0 where
  pub extension : SettledExtension J c d w (λ f. NamesAll f u s)
  pub is : inst extension.world r ≡ s
  pub goals : AllSettleIn J extension.world gs
