-- Pairs that are made equal: their heads under the table, and what taking them leaves.
use Rattle.std.specs.Prelude.{◌≡◌, ◌⊎◌, ℕ, ◌+◌, ◌<◌, ◌≤◌, Bool, true, false, List, [], ◌∷◌, ◌++◌}
use Rattle.nts_model.specs.declared.labels.Label.{Label}
use Rattle.nts_model.specs.Tables.Passing.{TreePasses, TablePasses}
use Rattle.nts_model.specs.declared.labels.Variance.{Variance}
use Rattle.nts_model.specs.declared.labels.Variance.TheVariants as variance
use Rattle.nts_model.specs.Terms.Trees.{Tree, size}
use Rattle.nts_model.specs.Tables.Contents.{Content}
use Rattle.nts_model.specs.Tables.Resolving.{IsInfer, resolved, deeply_resolved}
use Rattle.nts_model.specs.Tables.Worlds.{World, inst, Solves}
use Rattle.nts_variance_model.specs.Variances.Relations.{Relating as Pair}
use Rattle.nts_variance_model.specs.Variances.Leaving.{Refuses}
use Rattle.nts_model.specs.Tables.Measuring.{closed_aliases}
use Rattle.nts_model.specs.Derivations.Related.{IsAlias}
use Rattle.nts_store.specs.declared.nodes.NodeId.{NodeId}
use Rattle.nts_store.specs.Growth.{tree_at}
use Rattle.nts_unify.specs.Entries.{Entries}
use Rattle.nts_unify.specs.Reading.{content_of, IsLawful}
use Rattle.nts_unify.specs.Changing.{unset_count}
use Rattle.nts_relating.specs.declared.relate.Head.{Head}
use Rattle.nts_relating.specs.declared.relate.Head.TheVariants.{Open, Closed}
use Rattle.nts_relating.specs.Relating.{IsOpen}
use Rattle.nts_variance.specs.declared.along.Relating.{Relating}
use Rattle.nts_variance.specs.declared.equating.Heads.{Heads}
use Rattle.nts_variance.specs.declared.splitting.Taken.{Taken}
use Rattle.nts_variance.specs.declared.splitting.Taken.TheVariants as taken
use Rattle.nts_variance.specs.Steps.{stacked}
use Rattle.nts_variance.specs.Parts.{IsAlone}
use Rattle.nts_variance.specs.Terms.{pair_at, pairs_at, AreGoals, ArePairs}
use Rattle.nts_variance.specs.Due.{AreGoalsOfAliases, LeavesDue}
use Rattle.nts_variance.specs.Taking.{Takes, IsPair, ArePairsLeft, IsCall}

-- under the table, and in each world that solves it, one tree stands for the other
pub record StandsFor (c : Content) (a b : Tree) : Type 0 where
  pub same : resolved c a ≡ resolved c b
  pub labels : (P : Label → Bool) → TablePasses P c → TreePasses P a → TreePasses P b
  pub worlds : (w : World) → Solves c w → inst w a ≡ inst w b

-- the node of a head
abbrev pub node_in : Head → NodeId → NodeId
node_in (Open n) t = t
node_in (Closed v) t = v

-- a side that is a head: a variable without a value, or another node
abbrev pub IsAt : List Tree → Entries → NodeId → Head → Type 0
IsAt ts e t (Open n) = IsOpen ts e (tree_at ts t) n
IsAt ts e t (Closed v) = IsInfer (tree_at ts t) → ⊥

pub record AreHeads (ts : List Tree) (e : Entries) (h : Heads) : Type 0 where
  pub known : IsPair ts (content_of ts e) h.pair
  pub at_left : IsAt ts e h.pair.left h.left
  pub at_right : IsAt ts e h.pair.right h.right

-- the pair of the heads of a pair's sides
pub record ArePairHeads (ts : List Tree) (e : Entries) (p : Relating) (h : Heads) : Type 0 where
  pub heads : AreHeads ts e h
  pub kept : h.pair.variance ≡ p.variance
  pub on_left : StandsFor (content_of ts e) (tree_at ts p.left) (tree_at ts h.pair.left)
  pub on_right : StandsFor (content_of ts e) (tree_at ts p.right) (tree_at ts h.pair.right)

-- two trees that are to be one, whatever the variance is: it is invariant, or one of them stands for a const or a number
pub record AreToBeOne (c : Content) (v : Variance) (a b : Tree) : Type 0 where
  pub worlds : (w : World) → Solves c w → (v ≡ variance.Invariant) ⊎ (IsAlone (inst w a) ⊎ IsAlone (inst w b))
  pub trees : (v ≡ variance.Invariant) ⊎ (IsAlone (deeply_resolved c a) ⊎ IsAlone (deeply_resolved c b))

-- a way of taking a pair asks for goals of aliases alone: no type variable that got its value asks for one
abbrev pub OwesAliases : List Tree → Pair → Taken → Type 0
OwesAliases us p taken.Owed = IsAlias p.left ⊎ IsAlias p.right
OwesAliases us p (taken.Bound gs) = AreGoalsOfAliases (pairs_at us gs.items)
OwesAliases us p t = Unit {0}

abbrev pub AreInvariant : List Relating → Type 0
AreInvariant [] = Unit {0}
AreInvariant (p ∷ ps) = (p.variance ≡ variance.Invariant) × AreInvariant ps

-- for the measures: the outermost closed aliases of the resolved pairs, with the variables without values; and the sizes of the
-- resolved left sides
abbrev pub aliases_of : Content → List Pair → ℕ
aliases_of c [] = 0
aliases_of c (p ∷ ps) = closed_aliases (resolved c p.left) + closed_aliases (resolved c p.right) + aliases_of c ps

abbrev pub unsolved : Content → List Pair → ℕ
unsolved c ps = unset_count c.slots + aliases_of c ps

abbrev pub sizes_of : Content → List Pair → ℕ
sizes_of c [] = 0
sizes_of c (p ∷ ps) = size (resolved c p.left) + 1 + sizes_of c ps

-- the pairs left fit the table
pub record ArePairsReady (ts : List Tree) (e : Entries) (ps : List Relating) : Type 0 where
  pub lawful : IsLawful ts e
  pub pairs : ArePairsLeft ts (content_of ts e) ps

-- a call of relating goes on from the pairs xs, those met ms and the goals gs to ys, ns and hs
pub record IsOn (declared : ℕ → List Variance) (ts us : List Tree) (e f : Entries) (xs ys ms ns gs hs : List Relating) : Type 0 where
  pub ready : ArePairsReady us f ys
  pub call : (start : List Tree) (first : Entries) (p : Relating) (es : List Relating) → IsCall declared start ts first e p xs ms es gs → IsCall declared start us first f p ys ns es hs

-- no call that comes to these pairs has a solution
pub record AreRefused (declared : ℕ → List Variance) (ts : List Tree) (e : Entries) (xs ms gs : List Relating) : Type 0 where
  pub none : (start : List Tree) (first : Entries) (p : Relating) (es : List Relating) → IsCall declared start ts first e p xs ms es gs → Refuses declared (content_of start first) (pair_at start p ∷ [])

-- one pair was taken: where a variable got a value for an invariant pair, fewer variables and aliases are left, and where none got
-- one, smaller pairs
pub record IsEqualStep (declared : ℕ → List Variance) (ts us : List Tree) (e f : Entries) (ps : List Relating) (q : Relating) (ys ms ns gs hs : List Relating) (bound : Bool) : Type 0 where
  pub on : IsOn declared ts us e f (ps ++ q ∷ []) ys ms ns gs hs
  pub invariant : AreInvariant ps → AreInvariant ys
  pub fewer : q.variance ≡ variance.Invariant → bound ≡ true → unsolved (content_of us f) (stacked (pair_at us) ys) < unsolved (content_of ts e) (stacked (pair_at ts) (ps ++ q ∷ []))
  pub smaller : bound ≡ false → (sizes_of (content_of us f) (stacked (pair_at us) ys) < sizes_of (content_of ts e) (stacked (pair_at ts) (ps ++ q ∷ [])))
      × (unsolved (content_of us f) (stacked (pair_at us) ys) ≤ unsolved (content_of ts e) (stacked (pair_at ts) (ps ++ q ∷ [])))

-- while pairs are taken
pub record AreEquating (declared : ℕ → List Variance) (ts us : List Tree) (e f : Entries) (xs ys ms ns gs hs : List Relating) : Type 0 where
  pub on : IsOn declared ts us e f xs ys ms ns gs hs
  pub invariant : AreInvariant ys
  pub not_more : unsolved (content_of us f) (stacked (pair_at us) ys) ≤ unsolved (content_of ts e) (stacked (pair_at ts) xs)

-- pairs were taken until a variable got a value
pub record IsEqualRun (declared : ℕ → List Variance) (ts us : List Tree) (e f : Entries) (xs ys ms ns gs hs : List Relating) (bound : Bool) : Type 0 where
  pub going : AreEquating declared ts us e f xs ys ms ns gs hs
  pub fewer : bound ≡ true → unsolved (content_of us f) (stacked (pair_at us) ys) < unsolved (content_of ts e) (stacked (pair_at ts) xs)
  pub ends : bound ≡ false → ys ≡ []

-- relating a pair leaves goals alone: under each later table that answers them the pair is related, and each settled solution in
-- which it settles goes on to one in which they settle
pub record GoalsRelate (declared : ℕ → List Variance) (ts us : List Tree) (e f : Entries) (p : Relating) (gs : List Relating) : Type 0 where
  pub known : ArePairs us (content_of us f) gs
  pub are_goals : AreGoals (pairs_at us gs)
  pub takes : Takes declared (content_of ts e) (content_of us f) (pair_at ts p ∷ []) [] (pairs_at us gs)
  pub due : LeavesDue (content_of ts e) (content_of us f) (pair_at ts p) (pairs_at us gs)
