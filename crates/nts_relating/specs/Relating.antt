-- What the steps of relating do to a table.
use Rattle.std.specs.Prelude.{◌≡◌, ◌≢◌, ◌⊎◌, ℕ, ◌+◌, ◌≤◌, ◌<◌, List, [], ◌∷◌, ◌++◌, Option, Some, None, Bool, true, false}
use Rattle.std.specs.List.{list_any}
use Rattle.nts_model.specs.declared.labels.VariableKind.{VariableKind}
use Rattle.nts_model.specs.declared.labels.VariableKind.TheVariants as kind
use Rattle.nts_model.specs.declared.labels.Sort.TheVariants as sort
use Rattle.nts_model.specs.declared.labels.Label.{Label}
use Rattle.nts_model.specs.Terms.Trees.{Tree, empty, more, node, size, kind_of, kind_of_label, of_sort, row_length, any_label, is_alias, IsClosedUnder, variable_tree}
use Rattle.nts_model.specs.Terms.Patching.{IsPatched}
use Rattle.nts_model.specs.Tables.Contents.{Content, unset, state_of, universe_of, kind_at}
use Rattle.nts_model.specs.Tables.Resolving.{Knows, IsInfer, Lacks, resolved, deeply_resolved, variable_flag, variable_rank}
use Rattle.nts_model.specs.Tables.Levels.{NamesAll, level_in, term_level, region_level}
use Rattle.nts_model.specs.Terms.Fitting.{Fits}
use Rattle.nts_model.specs.Tables.Passing.{PassesVariables, TreePasses, TablePasses, BringsLabelsOf, BringsNoLabels}
use Rattle.nts_model.specs.Tables.Worlds.{World, inst, Solves}
use Rattle.nts_model.specs.Tables.Holding.{AreOne, Continues}
use Rattle.nts_model.specs.Tables.Tying.{TiesNew}
use Rattle.nts_model.specs.Terms.Regions.{IsRegion}
use Rattle.nts_model.specs.Tables.Alike.{AreAlike}
use Rattle.nts_model.specs.Tables.Measuring.{closed_aliases}
use Rattle.nts_model.specs.Tables.Equations.{ExtensionIf, Extension, Equates, AllAlike, Narrows, Reduces}
use Rattle.nts_store.specs.declared.nodes.NodeId.{NodeId}
use Rattle.nts_store.specs.declared.type_flags.TypeFlags.{TypeFlags}
use Rattle.nts_store.specs.Growth.{tree_at, IsIn}
use Rattle.nts_relating.specs.declared.relate.Pair.{Pair}
use Rattle.nts_relating.specs.contracts.relate.PairPartialEq.TheImpl as pair_eq
use Rattle.nts_relating.specs.declared.relate.Head.{Head}
use Rattle.nts_relating.specs.declared.relate.Head.TheVariants.{Open, Closed}
use Rattle.nts_unify.specs.Entries.{Entries}
use Rattle.nts_unify.specs.Reading.{content_of, IsLawful}
use Rattle.nts_unify.specs.Changing.{IsLater, KeepsKnowing, unset_count}
use Rattle.nts_unify.specs.Joining.{IsBindable, TakesVariable}
use Rattle.nts_unify.specs.Knowing.{row_from}
use Rattle.nts_relating.specs.Met.{OnenessJudge, judged_size, JudgesOne, OneBelow, AreOneAfter}

-- a list of trees of the same sorts
abbrev pub IsLike : Tree → Tree → Type 0
IsLike empty empty = Unit {0}
IsLike (more a b) (more c d) = (kind_of a ≡ kind_of c) × IsLike b d
IsLike (node l a) (node m b) = kind_of_label l ≡ kind_of_label m
IsLike s t = ⊥

-- neither variables nor placeholders, and no bound variable passes the binders
abbrev pub StaysBelow : Option ℕ → ℕ → Type 0
StaysBelow None n = Unit {0}
StaysBelow (Some d) n = d < n

pub record IsSettledByFlags (flags : TypeFlags) (binders : ℕ) : Type 0 where
  pub no_infer : flags.has_infer ≡ false
  pub no_region_infer : flags.has_region_infer ≡ false
  pub no_placeholder : flags.has_placeholder ≡ false
  pub escaping : StaysBelow flags.escaping binders

-- the tree r stands for t in the value of the variable x, which the universe u bounds, under b binders. No region beyond u is in r
-- under the table's values; where none was in t, the two are one, and else they are one up to regions
pub record Generalized (c d : Content) (x u b : ℕ) (t r : Tree) : Type 0 where
  pub keeps : KeepsKnowing c d
  pub knows : Knows d r
  pub rank : variable_rank r ≤ variable_rank t
  pub fits : (k : VariableKind) → k ≢ kind.Region → variable_rank t ≡ 0 → Fits k t → Fits k r
  pub like : IsLike r t
  pub lacks : Lacks x (resolved d r)
  pub continues : Continues c d
  pub own : universe_of d x ≡ universe_of c x
  pub named : NamesAll (level_in d) u r
  pub named_regions : NamesAll region_level u r
  pub closed : IsClosedUnder b r
  pub patched : IsPatched t r
  pub clean : NamesAll region_level u (resolved d r)
  pub alike : AreAlike d r t
  pub exact : NamesAll region_level u (resolved c t) → deeply_resolved d r ≡ deeply_resolved d t
  pub labels : (P : Label → Bool) → PassesVariables P → TablePasses P c → TreePasses P t → TablePasses P d × TreePasses P r
  pub sound : (w : World) → Solves d w → Solves c w × (inst w r ≡ inst w t)
  pub complete : (w : World) → Solves c w → NamesAll term_level u (inst w t) → ExtensionIf c d w (λ f. NamesAll f u (inst w t))

-- the walk may refuse the tree: no instance of it that the universe names and that is closed is the
-- tree of the variable x, since each is larger
pub record Blocks (c : Content) (x u b : ℕ) (t : Tree) : Type 0 where
  pub none : (w : World) → Solves c w → NamesAll term_level u (inst w t) → IsClosedUnder b (inst w t) → size (w.tree x) < size (inst w t) + variable_flag t

-- no world makes the variable one with the tree
pub record Forbids (c : Content) (x : ℕ) (t : Tree) : Type 0 where
  pub none : (w : World) → Solves c w → w.tree x ≡ inst w t → ⊥

-- .. or two variables one
pub record KeepsApart (c : Content) (x y : ℕ) : Type 0 where
  pub none : (w : World) → Solves c w → w.tree x ≡ w.tree y → ⊥

-- an inference variable that is no region and has no value
pub record IsUnset (c : Content) (n : ℕ) (k : VariableKind) : Type 0 where
  pub has : kind_at c n ≡ Some k
  pub no_region : k ≢ kind.Region
  pub state : state_of c n ≡ Some unset

-- what a tree is under the table: such a variable, or another node
pub record IsOpen (ts : List Tree) (e : Entries) (t : Tree) (n : ℕ) : Type 0 where
  pub bindable : IsBindable e n
  pub infer : IsInfer t
  pub like : IsLike (variable_tree bindable.of_kind n) t
  pub rank : variable_rank (variable_tree bindable.of_kind n) ≤ variable_rank t
  pub same : resolved (content_of ts e) t ≡ resolved (content_of ts e) (variable_tree bindable.of_kind n)
  pub worlds : (w : World) → Solves (content_of ts e) w → inst w t ≡ w.tree n

pub record IsClosedHead (c : Content) (t v : Tree) : Type 0 where
  pub knows : Knows c v
  pub no_variable : IsInfer v → ⊥
  pub labels : (P : Label → Bool) → TablePasses P c → TreePasses P t → TreePasses P v
  pub same : resolved c t ≡ resolved c v
  pub worlds : (w : World) → Solves c w → inst w t ≡ inst w v

abbrev pub IsHeadOfTree : List Tree → Entries → Tree → Head → Type 0
IsHeadOfTree ts e t (Open n) = IsOpen ts e t n
IsHeadOfTree ts e t (Closed v) = IsIn ts v × IsClosedHead (content_of ts e) t (tree_at ts v)

-- a free region of the store and the table
pub record IsRegionOf (ts : List Tree) (e : Entries) (t : NodeId) : Type 0 where
  pub within : IsIn ts t
  pub knows : Knows (content_of ts e) (tree_at ts t)
  pub sort : kind_of (tree_at ts t) ≡ Some (of_sort sort.Region)
  pub free : IsRegion (tree_at ts t)

-- two regions made equal
pub record RegionsRelate (c d : Content) (a b : Tree) : Type 0 where
  pub keeps : KeepsKnowing c d
  pub continues : Continues c d
  pub narrows : Narrows c d (λ w. inst w a ≡ inst w b)
  pub alike : AreAlike d a b
  pub brings : BringsLabelsOf c d a b

-- no alias stands in the tree, with values in place of variables
abbrev pub IsPlainIn : Content → Tree → Type 0
IsPlainIn c t = any_label is_alias (resolved c t) ≡ false

-- trees in which none stands have none afterwards
pub record KeepsPlain (c d : Content) : Type 0 where
  pub plain : (t : Tree) → Knows c t → IsPlainIn c t → IsPlainIn d t

abbrev pub PairsArePlain : Content → List (Tree × Tree) → Type 0
PairsArePlain c [] = Unit {0}
PairsArePlain c (p ∷ ps) = (IsPlainIn c p.0 × IsPlainIn c p.1) × PairsArePlain c ps

-- a variable got a value for the tree t: the two are one where the variable's universe names each region in t, and else one up to
-- regions. Where no closed alias is in t, no tree has more of them, or fewer
pub record IsSet (c d : Content) (x : ℕ) (t : Tree) : Type 0 where
  pub later : IsLater c d
  pub fewer : unset_count d.slots < unset_count c.slots
  pub continues : Continues c d
  pub alike : (k : VariableKind) → kind_at c x ≡ Some k → AreAlike d (variable_tree k x) t
  pub exact : (u : ℕ) (k : VariableKind) → universe_of c x ≡ Some u → kind_at c x ≡ Some k → NamesAll region_level u (resolved c t) → deeply_resolved d (variable_tree k x) ≡ deeply_resolved d t
  pub brings : BringsLabelsOf c d t empty
  pub ties : TiesNew c d
  pub aliases : closed_aliases (resolved c t) ≡ 0 → (a : Tree) → Knows c a → closed_aliases (resolved d a) ≡ closed_aliases (resolved c a)
  pub plain : IsPlainIn c t → KeepsPlain c d
  pub sound : (w : World) → Solves d w → Solves c w × (w.tree x ≡ inst w t)
  pub complete : (w : World) → Solves c w → w.tree x ≡ inst w t → Extension c d w

-- two trees that are to be equal
abbrev pub sides_at : List Tree → Pair → Tree × Tree
sides_at ts p = (tree_at ts p.left, tree_at ts p.right)

abbrev pub all_sides_at : List Tree → List Pair → List (Tree × Tree)
all_sides_at ts [] = []
all_sides_at ts (p ∷ ps) = sides_at ts p ∷ all_sides_at ts ps

abbrev pub ArePairsIn : List Tree → List Pair → Type 0
ArePairsIn ts [] = Unit {0}
ArePairsIn ts (p ∷ ps) = IsIn ts p.left × IsIn ts p.right × ArePairsIn ts ps

abbrev pub AreKnown : Content → List (Tree × Tree) → Type 0
AreKnown c [] = Unit {0}
AreKnown c (p ∷ ps) = Knows c p.0 × Knows c p.1 × AreKnown c ps

abbrev pub PairsPass : (Label → Bool) → List (Tree × Tree) → Type 0
PairsPass P [] = Unit {0}
PairsPass P (p ∷ ps) = TreePasses P p.0 × TreePasses P p.1 × PairsPass P ps

-- for the measure: the sizes of the resolved trees
abbrev pub total : Content → List (Tree × Tree) → ℕ
total c [] = 0
total c (p ∷ ps) = size (resolved c p.0) + size (resolved c p.1) + 1 + total c ps

-- the pairs of the children from the i-th on stand at the end, the first ones last
pub record Pushed (ts : List Tree) (ps qs : List Pair) (a b : Tree) (i : ℕ) : Type 0 where
  pub within : ArePairsIn ts ps → ArePairsIn ts qs
  pub known : (c : Content) → Knows c a → Knows c b → AreKnown c (all_sides_at ts ps) → AreKnown c (all_sides_at ts qs)
  pub sound : (w : World) → Equates w (all_sides_at ts qs) → Equates w (all_sides_at ts ps) × (inst w (row_from i a) ≡ inst w (row_from i b))
  pub complete : (w : World) → Equates w (all_sides_at ts ps) → inst w (row_from i a) ≡ inst w (row_from i b) → Equates w (all_sides_at ts qs)
  pub alike : (c : Content) → AllAlike c (all_sides_at ts qs) → AllAlike c (all_sides_at ts ps) × AreAlike c (row_from i a) (row_from i b)
  pub weight : (c : Content) → total c (all_sides_at ts qs) + row_length (row_from i a) ≡ total c (all_sides_at ts ps) + size (resolved c (row_from i a)) + size (resolved c (row_from i b))
  pub labels : (P : Label → Bool) → TreePasses P a → TreePasses P b → PairsPass P (all_sides_at ts ps) → PairsPass P (all_sides_at ts qs)
  pub plain : (c : Content) → IsPlainIn c a → IsPlainIn c b → PairsArePlain c (all_sides_at ts ps) → PairsArePlain c (all_sides_at ts qs)
  pub below : (j : OnenessJudge) (n : ℕ) → OneBelow j n (all_sides_at ts qs) → OneBelow j n (all_sides_at ts ps) × (judged_size j (row_from i a) ≤ n → JudgesOne j (row_from i a) (row_from i b))

pub record IsValid (ts : List Tree) (e : Entries) (ps : List Pair) : Type 0 where
  pub lawful : IsLawful ts e
  pub within : ArePairsIn ts ps
  pub known : AreKnown (content_of ts e) (all_sides_at ts ps)

-- each pair that was met is one where the smaller ones of the pairs left are
pub record IsMemo (ts : List Tree) (e : Entries) (ps ms : List Pair) : Type 0 where
  pub within : ArePairsIn ts ms
  pub met : AreOneAfter (content_of ts e) (all_sides_at ts ps) (all_sides_at ts ms)

-- whether a pair is new among those that were met. One that is new is noted, or left out
pub record IsNoted (ms ns : List Pair) (p : Pair) (is_new : Bool) : Type 0 where
  pub known : is_new ≡ false → (list_any (pair_eq.ghosts.eq p) ms ≡ true) × (ns ≡ ms)
  pub new : is_new ≡ true → (ns ≡ ms) ⊎ (ns ≡ ms ++ p ∷ [])

-- two variables are one: they were joined, or one got the other as its value. No tree has more closed aliases, or fewer
pub record AreMadeOne (c d : Content) (x y : ℕ) : Type 0 where
  pub later : IsLater c d
  pub fewer : unset_count d.slots < unset_count c.slots
  pub continues : Continues c d
  pub alike : (j k : VariableKind) → kind_at c x ≡ Some j → kind_at c y ≡ Some k → AreAlike d (variable_tree j x) (variable_tree k y)
  pub one : (j k : VariableKind) → kind_at c x ≡ Some j → kind_at c y ≡ Some k → AreOne d (variable_tree j x) (variable_tree k y)
  pub brings : BringsNoLabels c d
  pub ties : TiesNew c d
  pub aliases : (t : Tree) → Knows c t → closed_aliases (resolved d t) ≡ closed_aliases (resolved c t)
  pub plain : KeepsPlain c d
  pub sound : (w : World) → Solves d w → Solves c w × (w.tree x ≡ w.tree y)
  pub complete : (w : World) → Solves c w → w.tree x ≡ w.tree y → Extension c d w

-- two variables without values made one, unless they were one
pub record VariablesRelate (ts us : List Tree) (e f : Entries) (x y : ℕ) (bound : Bool) : Type 0 where
  pub made : bound ≡ true → IsLawful us f × AreMadeOne (content_of ts e) (content_of us f) x y
  pub same : bound ≡ false → (us ≡ ts) × (f ≡ e) × (x ≡ y)

-- two variables of which the first may have the second as its value
pub record CanTake (e : Entries) (x y : ℕ) : Type 0 where
  pub first : IsBindable e x
  pub second : IsBindable e y
  pub takes : TakesVariable first.of_kind second.of_kind

-- the second table and the pairs left have no labels but those of variables, of the first table and of the pairs before; and where no
-- alias stands in the pairs, none stands in those left, or in a tree that had none
pub record PairsBring (c d : Content) (ps qs : List (Tree × Tree)) : Type 0 where
  pub labels : (P : Label → Bool) → PassesVariables P → TablePasses P c → PairsPass P ps → TablePasses P d × PairsPass P qs
  pub plain : PairsArePlain c ps → KeepsPlain c d × PairsArePlain d qs

-- what is left after a pair
pub record IsPairStep (c d : Content) (ps qs : List (Tree × Tree)) (bound : Bool) : Type 0 where
  pub later : IsLater c d
  pub reduces : Reduces c d ps qs
  pub brings : PairsBring c d ps qs
  pub ties : TiesNew c d
  pub fewer : bound ≡ true → unset_count d.slots < unset_count c.slots
  pub smaller : bound ≡ false → (total d qs < total c ps) × (unset_count d.slots ≡ unset_count c.slots)

-- pairs related until a variable got a value
pub record IsPairRun (c d : Content) (ps qs : List (Tree × Tree)) (bound : Bool) : Type 0 where
  pub later : IsLater c d
  pub reduces : Reduces c d ps qs
  pub brings : PairsBring c d ps qs
  pub ties : TiesNew c d
  pub fewer : bound ≡ true → unset_count d.slots < unset_count c.slots
  pub ends : bound ≡ false → qs ≡ []

-- while pairs are taken
pub record Running (c d : Content) (ps qs : List (Tree × Tree)) : Type 0 where
  pub later : IsLater c d
  pub reduces : Reduces c d ps qs
  pub brings : PairsBring c d ps qs
  pub ties : TiesNew c d
  pub not_more : unset_count d.slots ≤ unset_count c.slots
