-- Trees that are to be made equal, and what making them equal does to a table.
use Rattle.std.specs.Prelude.{◌≡◌, ℕ, List, [], ◌∷◌, Option, length}
use Rattle.nts_model.specs.declared.labels.Label.{Label}
use Rattle.nts_model.specs.Terms.Trees.{Tree}
use Rattle.nts_model.specs.Tables.Contents.{Content}
use Rattle.nts_model.specs.Tables.Resolving.{IsSound}
use Rattle.nts_model.specs.Tables.Worlds.{World, inst, IsNameable, Solves, Agrees}
use Rattle.nts_model.specs.Tables.Holding.{Continues}
use Rattle.nts_model.specs.Tables.Alike.{AreAlike}

-- the world makes each pair one tree
abbrev pub Equates : World → List (Tree × Tree) → Type 0
Equates w [] = Unit {0}
Equates w (p ∷ ps) = (inst w p.0 ≡ inst w p.1) × Equates w ps

-- the trees of each pair are alike
abbrev pub AllAlike : Content → List (Tree × Tree) → Type 0
AllAlike c [] = Unit {0}
AllAlike c (p ∷ ps) = AreAlike c p.0 p.1 × AllAlike c ps

-- a world that solves the table d, and is the world w but for what the table c lacks; where `Named`, it is nameable by
-- each measure of universes by which w is
pub record ExtensionIf (c d : Content) (w : World) (Named : (Label → Option ℕ) → Type 0) : Type 0 where
  pub world : World
  pub agrees : Agrees (length c.slots) w world
  pub solves : Solves d world
  pub names : (f : Label → Option ℕ) → IsNameable f c w → Named f → IsNameable f d world

abbrev pub Extension : Content → Content → World → Type 0
Extension c d w = ExtensionIf c d w (λ f. Unit {0})

-- the worlds that solve the second table are those that solve the first and make E true, and they are nameable there
pub record Narrows (c d : Content) (E : World → Type 0) : Type 0 where
  pub sound : (w : World) → Solves d w → Solves c w × E w
  pub complete : (w : World) → Solves c w → E w → Solves d w
  pub names : (f : Label → Option ℕ) (w : World) → Solves c w → IsNameable f c w → E w → IsNameable f d w

-- what makes the pairs ps equal in the first table makes the pairs qs equal in the second
pub record Reduces (c d : Content) (ps qs : List (Tree × Tree)) : Type 0 where
  pub continues : Continues c d
  pub sound : (w : World) → Solves d w → Equates w qs → Solves c w × Equates w ps
  pub complete : (w : World) → Solves c w → Equates w ps → (e : Extension c d w) × Equates e.world qs
  pub alike : (f : Content) → IsSound f → Continues d f → AllAlike f qs → AllAlike f ps

-- no world that solves the table makes the pairs equal
pub record Refuses (c : Content) (ps : List (Tree × Tree)) : Type 0 where
  pub none : (w : World) → Solves c w → Equates w ps → ⊥

-- the two trees were made equal: the table holds that they are, has all that it had, and has the
-- solutions that it had and that make them equal, extended to new variables
pub record AreRelated (c d : Content) (a b : Tree) : Type 0 where
  pub continues : Continues c d
  pub alike : AreAlike d a b
  pub sound : (w : World) → Solves d w → Solves c w × (inst w a ≡ inst w b)
  pub complete : (w : World) → Solves c w → inst w a ≡ inst w b → Extension c d w

-- no solution of the table makes the two trees equal
pub record AreUnrelated (c : Content) (a b : Tree) : Type 0 where
  pub none : (w : World) → Solves c w → inst w a ≡ inst w b → ⊥
