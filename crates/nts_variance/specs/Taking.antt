-- Pairs that are taken one by one: what each leaves in the table, and what a call of relating leaves in the end.
use Rattle.std.specs.Prelude.{Bool, ◌≡◌, ℕ, ◌+◌, ◌<◌, ◌≤◌, length, List, [], ◌∷◌, ◌++◌, Option, Some, None, ◌⊎◌}
use Rattle.nts_model.specs.declared.labels.Sort.{Sort}
use Rattle.nts_model.specs.declared.labels.Variance.{Variance}
use Rattle.nts_model.specs.declared.labels.Variance.TheVariants as variance
use Rattle.nts_model.specs.Terms.Trees.{Tree, node, size, kind_of, of_sort, row_length, IsClosed, infer_of, variable_tree}
use Rattle.nts_model.specs.Tables.Contents.{Content}
use Rattle.nts_model.specs.declared.labels.VariableKind.{VariableKind}
use Rattle.nts_model.specs.declared.labels.VariableKind.TheVariants as kind
use Rattle.nts_model.specs.Tables.Resolving.{Knows, IsSound, resolved, deeply_resolved}
use Rattle.nts_model.specs.Derivations.Related.{IsAlias}
use Rattle.nts_model.specs.Tables.Measuring.{closed_aliases}
use Rattle.nts_model.specs.Tables.Holding.{Continues}
use Rattle.nts_model.specs.declared.labels.Label.{Label}
use Rattle.nts_model.specs.Tables.Passing.{TablePasses}
use Rattle.nts_variance_model.specs.Variances.Relations.{Relating as Pair}
use Rattle.nts_variance_model.specs.Variances.Leaving.{Leaves}
use Rattle.nts_variance_model.specs.Variances.AnsweredGoals.{AllAnswered, RelatedUnder, AllRelatedUnder, RelatesBy}
use Rattle.nts_model.specs.Lists.{Among}
use Rattle.nts_variance_model.specs.Variances.Forms.{variances_over, pairs_over}
use Rattle.nts_store.specs.declared.nodes.NodeId.{NodeId}
use Rattle.nts_store.specs.Growth.{tree_at, IsIn}
use Rattle.nts_unify.specs.Entries.{Entries}
use Rattle.nts_unify.specs.Reading.{content_of, IsLawful}
use Rattle.nts_unify.specs.Roots.{HasClass}
use Rattle.nts_unify.specs.declared.contents.State.TheVariants.{Known}
use Rattle.nts_unify.specs.Changing.{unset_count, KeepsKnowing}
use Rattle.nts_variance.specs.declared.along.Relating.{Relating}
use Rattle.nts_variance.specs.declared.splitting.Taken.{Taken}
use Rattle.nts_variance.specs.declared.splitting.Taken.TheVariants as taken
use Rattle.nts_variance.specs.Steps.{stacked}
use Rattle.nts_variance.specs.Walking.{IsTableGrown}
use Rattle.nts_variance.specs.Parts.{form_of_tree, parts_of}
use Rattle.nts_variance.specs.Terms.{pair_at, pairs_at, IsGoal, AreGoals, ArePairs}
use Rattle.nts_variance.specs.Due.{IsTypeVariable, AreUnvaluedPairs, AreGoalsDue, LeavesDue}
use Rattle.nts_variance.specs.Varying.{IsMadeAgain}
use Rattle.nts_variance.specs.Passing.{PassesRows, PairsPass}
use Rattle.nts_variance.specs.Plain.{ArePairsPlain, StaysPlain}

-- the pairs ps were taken in the table c: in the table d, which has all that c has, they leave the pairs qs and the goals gs. Under
-- each later table in which the goals are answered they are related if what is left is; and each settled solution in which they
-- settle goes on to one of the table d in which what is left settles. It brings no labels but those of the pairs and of variables,
-- and where no alias stands in the pairs, none comes to trees that have none, and each new variable was made for an older one
pub record Takes (declared : ℕ → List Variance) (c d : Content) (ps qs gs : List Pair) : Type 0 where
  pub later : IsTableGrown c d
  pub continues : Continues c d
  pub leaves : Leaves declared c d ps qs gs
  pub relates : RelatesBy declared d ps qs gs
  pub passes : (P : Label → Bool) → PassesRows P → TablePasses P c → PairsPass P ps → TablePasses P d × PairsPass P qs × PairsPass P gs
  pub plain : ArePairsPlain c ps → StaysPlain c d × ArePairsPlain d qs

-- a variable of a const or a number
abbrev pub IsExactKind : VariableKind → Type 0
IsExactKind kind.Const = Unit {0}
IsExactKind kind.Int = Unit {0}
IsExactKind kind.Float = Unit {0}
IsExactKind k = ⊥

pub record IsExact (t : Tree) : Type 0 where
  pub of_kind : VariableKind
  pub exact : IsExactKind of_kind
  pub number : ℕ
  pub is : t ≡ variable_tree of_kind number

-- a pair that is left for later: it is invariant, or a side is a variable of a const or a number
abbrev pub Waits : List Tree → Relating → Type 0
Waits ts p = (p.variance ≡ variance.Invariant) ⊎ (IsExact (tree_at ts p.left) ⊎ IsExact (tree_at ts p.right))

abbrev pub AllWait : List Tree → List Relating → Type 0
AllWait ts [] = Unit {0}
AllWait ts (p ∷ ps) = Waits ts p × AllWait ts ps

-- a side of a pair: a type, a region or a const of the store and the table
pub record IsPairSide (ts : List Tree) (c : Content) (t : NodeId) : Type 0 where
  pub within : IsIn ts t
  pub knows : Knows c (tree_at ts t)
  pub sort : Sort
  pub kind : kind_of (tree_at ts t) ≡ Some (of_sort sort)

pub record IsPair (ts : List Tree) (c : Content) (p : Relating) : Type 0 where
  pub left : IsPairSide ts c p.left
  pub right : IsPairSide ts c p.right

abbrev pub ArePairsLeft : List Tree → Content → List Relating → Type 0
ArePairsLeft ts c [] = Unit {0}
ArePairsLeft ts c (p ∷ ps) = IsPair ts c p × ArePairsLeft ts c ps

-- what a call of relating leaves of a pair, by terms of the store
pub record IsLeft (declared : ℕ → List Variance) (ts us : List Tree) (e f : Entries) (p : Relating) (qs gs : List Relating) : Type 0 where
  pub pairs : ArePairsLeft us (content_of us f) qs
  pub waits : AllWait us qs
  pub goals : ArePairs us (content_of us f) gs
  pub are_goals : AreGoals (pairs_at us gs)
  pub takes : Takes declared (content_of ts e) (content_of us f) (pair_at ts p ∷ []) (pairs_at us qs) (pairs_at us gs)
  pub due : LeavesDue (content_of ts e) (content_of us f) (pair_at ts p) (pairs_at us gs)

-- the number of an inference variable that is no region
abbrev pub number_at : Tree → Option ℕ
number_at (node l c) = infer_of l
number_at t = None

-- two nodes of one form, with as many parts
pub record AreOfOneForm (a b : Tree) : Type 0 where
  pub left : IsMadeAgain a
  pub right : IsMadeAgain b
  pub form : form_of_tree a ≡ form_of_tree b
  pub long : row_length (parts_of a) ≡ row_length (parts_of b)

-- a side of which a goal says all that a pair owes: a closed alias, or a type variable with a value
abbrev pub SaysAllOwed : Entries → Tree → Type 0
SaysAllOwed e t = IsAlias t ⊎ ((n : ℕ) × IsTypeVariable t n × (r : ℕ) × (v : NodeId) × HasClass e n r (Known v))

-- no settled solution relates the two: bound variables escape from one, or they are not of one kind
abbrev pub AreNoSides : Tree → Tree → Type 0
AreNoSides a b = IsClosed a → IsClosed b → kind_of a ≡ kind_of b → ⊥

-- how a pair is taken
abbrev pub IsTaken : (ℕ → List Variance) → List Tree → List Tree → Entries → Entries → Relating → Taken → Type 0
IsTaken declared ts us e f p taken.Done = IsLawful us f × Takes declared (content_of ts e) (content_of us f) (pair_at ts p ∷ []) [] []
IsTaken declared ts us e f p taken.Equal = (us ≡ ts) × (f ≡ e) × Waits ts p
IsTaken declared ts us e f p taken.Owed = (us ≡ ts) × (f ≡ e) × IsGoal (pair_at ts p) × LeavesDue (content_of ts e) (content_of ts e) (pair_at ts p) (pair_at ts p ∷ [])
IsTaken declared ts us e f p (taken.Bound gs) = IsLawful us f × ArePairs us (content_of us f) gs.items × Takes declared (content_of ts e) (content_of us f) (pair_at ts p ∷ []) [] (pairs_at us gs.items) × AreGoals (pairs_at us gs.items) × LeavesDue (content_of ts e) (content_of us f) (pair_at ts p) (pairs_at us gs.items)
IsTaken declared ts us e f p taken.Parts = (us ≡ ts) × (f ≡ e) × AreOfOneForm (tree_at ts p.left) (tree_at ts p.right)

-- what a way of taking a pair, of which no side is a variable with a value, leaves for the measure: where a variable got a value,
-- fewer variables and aliases; and else what trees are under the table stays
abbrev pub IsPaid : Content → Content → Pair → Taken → Type 0
IsPaid c d p taken.Done = KeepsKnowing c d
IsPaid c d p taken.Equal = ⊥
IsPaid c d p taken.Owed = Unit {0}
IsPaid c d p (taken.Bound gs) = p.variance ≡ variance.Invariant → (unset_count d.slots < unset_count c.slots + closed_aliases (resolved c p.left) + closed_aliases (resolved c p.right)) × ((t : Tree) → Knows c t → closed_aliases (resolved d t) ≡ closed_aliases (resolved c t))
IsPaid c d p taken.Parts = (IsAlias p.left → ⊥) × (IsAlias p.right → ⊥)

-- pairs that are to be taken and goals that are left: no variable in the pairs had a value in the table c, and the goals are due
pub record AreDueSince (c : Content) (ts : List Tree) (e : Entries) (ps gs : List Relating) : Type 0 where
  pub before : length c.slots ≤ length (content_of ts e).slots
  pub pairs : AreUnvaluedPairs c (stacked (pair_at ts) ps)
  pub known : ArePairs ts (content_of ts e) gs
  pub due : AreGoalsDue c (content_of ts e) (pairs_at ts gs)

-- the pairs of the parts of two nodes are to be taken in order
pub record ArePartsPaired (declared : ℕ → List Variance) (ts : List Tree) (p : Relating) (xs ys : List Relating) : Type 0 where
  pub pairs : stacked (pair_at ts) ys ≡ pairs_over p.variance (variances_over declared (form_of_tree (tree_at ts p.left)) (parts_of (tree_at ts p.left))) (parts_of (tree_at ts p.left)) (parts_of (tree_at ts p.right)) ++ stacked (pair_at ts) xs
  pub known : (c : Content) → Knows c (tree_at ts p.left) → Knows c (tree_at ts p.right) → ArePairsLeft ts c xs → ArePairsLeft ts c ys

-- for the measure: how large the left sides of pairs are
abbrev pub left_sizes : List Pair → ℕ
left_sizes [] = 0
left_sizes (p ∷ ps) = size p.left + 1 + left_sizes ps

-- a way to judge pairs: a later table, and the goals at hand in it
pub record Sense : Type 0 where
  pub table : Content
  pub answers : List Tree

module _ (declared : ℕ → List Variance) where
  abbrev pub HoldsIn : Sense → Pair → Type 0
  HoldsIn w p = RelatedUnder declared w.table w.answers p.variance p.left p.right

  abbrev pub AllHoldIn : Sense → List Pair → Type 0
  AllHoldIn w [] = Unit {0}
  AllHoldIn w (p ∷ ps) = HoldsIn w p × AllHoldIn w ps

  abbrev pub size_in : Sense → Pair → ℕ
  size_in w p = size (deeply_resolved w.table p.left)

  -- those of a left side below a size hold
  abbrev pub HoldBelow : Sense → ℕ → List Pair → Type 0
  HoldBelow w n [] = Unit {0}
  HoldBelow w n (p ∷ ps) = (size_in w p < n → HoldsIn w p) × HoldBelow w n ps

  -- the later tables that answer the goals and relate the pairs es
  pub record Counts (d : Content) (es gs : List Pair) (w : Sense) : Type 0 where
    pub sound : IsSound w.table
    pub continues : Continues d w.table
    pub answered : AllAnswered w.table w.answers gs
    pub equal : AllRelatedUnder declared w.table w.answers es

  -- a call of relating the pair p under way, from the table c to d: the pairs left to take, those that are left in the end, the
  -- goals, and the pairs met, each of which holds where the smaller ones of those left do
  pub record IsUnderway (c d : Content) (p : Pair) (left es gs met : List Pair) : Type 0 where
    pub later : IsTableGrown c d
    pub continues : Continues c d
    pub leaves : Leaves declared c d (p ∷ []) (left ++ es) gs
    pub sound : (w : Sense) → Counts d es gs w → AllHoldIn w left → HoldsIn w p
    pub meets : (w : Sense) → Counts d es gs w → (q : Pair) → Among met q → HoldBelow w (size_in w q) left → HoldsIn w q
    pub passes : (P : Label → Bool) → PassesRows P → TablePasses P c → PairsPass P (p ∷ []) → TablePasses P d × PairsPass P left × PairsPass P es × PairsPass P gs
    pub plain : ArePairsPlain c (p ∷ []) → StaysPlain c d × ArePairsPlain d (left ++ es)

  -- .. by terms of the store
  pub record IsCall (ts us : List Tree) (e f : Entries) (p : Relating) (ps ms es gs : List Relating) : Type 0 where
    pub start : IsSound (content_of ts e)
    pub lawful : IsLawful us f
    pub pairs : ArePairsLeft us (content_of us f) ps
    pub met : ArePairs us (content_of us f) ms
    pub equal : ArePairsLeft us (content_of us f) es
    pub waits : AllWait us es
    pub goals : ArePairs us (content_of us f) gs
    pub are_goals : AreGoals (pairs_at us gs)
    pub going : IsUnderway (content_of ts e) (content_of us f) (pair_at ts p) (stacked (pair_at us) ps) (pairs_at us es) (pairs_at us gs) (pairs_at us ms)
