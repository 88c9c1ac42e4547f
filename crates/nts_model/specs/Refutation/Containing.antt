-- Solutions of a table and of a canonical input, and which answers contain them.
use Rattle.std.specs.Prelude.{◌≡◌, ◌⊎◌, ℕ, zero, suc, ◌+◌, ◌<◌, ◌≤◌, length, Bool, true, false, List, [], ◌∷◌, map, get_or, Option, Some}
use Rattle.nts_model.specs.declared.labels.Sort.{Sort}
use Rattle.nts_model.specs.declared.labels.Sort.TheVariants as sort
use Rattle.nts_model.specs.declared.labels.Relation.{Relation}
use Rattle.nts_model.specs.declared.labels.Relation.TheVariants as relation
use Rattle.nts_model.specs.declared.labels.VariableKind.{VariableKind}
use Rattle.nts_model.specs.declared.labels.VariableKind.TheVariants as kind
use Rattle.nts_model.specs.declared.labels.FreeRegion.{FreeRegion}
use Rattle.nts_model.specs.declared.labels.FreeRegion.TheVariants as region
use Rattle.nts_model.specs.declared.labels.Leaf.{Leaf}
use Rattle.nts_model.specs.declared.labels.Leaf.TheVariants as leaf
use Rattle.nts_model.specs.declared.labels.Label.{Label}
use Rattle.nts_model.specs.Terms.Trees.{Tree, empty, sort_of_leaf, is_region_infer, is_alias, IsFormed}
use Rattle.nts_model.specs.Tables.Contents.{Content, Recorded, universe_of, kind_at}
use Rattle.nts_model.specs.Terms.Placeholders.{CanName, free_region_level, leaf_level_of, leaf_level}
use Rattle.nts_model.specs.Tables.Levels.{NamesAll}
use Rattle.nts_model.specs.Tables.Worlds.{World, inst, KeepsFixedRegions, IsValue, IsNameable, Solves, Agrees}
use Rattle.nts_model.specs.Terms.Substitutions.{leaf_tree, IsConstant, Instance, instance_of, filled}
use Rattle.nts_model.specs.Derivations.Related.{pair}
use Rattle.nts_model.specs.Tables.Passing.{AllLabels}
use Rattle.nts_model.specs.Lists.{Among}
use Rattle.nts_model.specs.Derivations.Sequents.{Premise}
use Rattle.nts_model.specs.Canonical.Numbered.{number}
use Rattle.nts_model.specs.Canonical.Inputs.{CanonicalInput, PositionKind, type_variable, integer_variable, float_variable, const_variable, region_variable, placeholder}
use Rattle.nts_model.specs.Answers.Responses.{Response, placeholder_tree}

-- no aliases
abbrev pub IsNoAlias : Label → Type 0
IsNoAlias l = is_alias l ≡ false

abbrev pub IsAliasFree : Tree → Type 0
IsAliasFree t = AllLabels IsNoAlias t

-- no alias stands in what the variables of the table are
pub record IsPlainWorld (c : Content) (w : World) : Type 0 where
  pub each : (n : ℕ) (k : VariableKind) → kind_at c n ≡ Some k → IsAliasFree (w.tree n)

-- which types and regions outlive which regions
abbrev pub Truth : Type 0
Truth = Tree → Tree → Bool

abbrev pub IsTrueBy : Truth → Relation → Tree → Tree → Type 0
IsTrueBy o relation.Equal a b = a ≡ b
IsTrueBy o relation.RegionOutlives a b = (a ≡ b) ⊎ (o a b ≡ true)
IsTrueBy o relation.TypeOutlives a b = o a b ≡ true

-- the universe of a placeholder of any sort, and of a variable of the table
abbrev pub original_level : Content → Leaf → Option ℕ
original_level c (leaf.Variable k n) = universe_of c n
original_level c l = leaf_level_of l

-- a world that solves the table: its trees are named with their regions too, the placeholders of universes above the base
-- stand for themselves, and regions outlive regions as the handler says. The base of a query is the root
pub record IsSolution (truth : Truth) (base : ℕ) (c : Content) (w : World) : Type 0 where
  pub solves : Solves c w
  pub named : IsNameable leaf_level c w
  pub fixed : KeepsFixedRegions w
  pub above : base ≤ c.universe
  pub new : (u n : ℕ) → base < u → w.region (region.Placeholder u n) ≡ region.Placeholder u n
  pub low : (r : FreeRegion) → CanName c.universe (free_region_level r) → CanName c.universe (free_region_level (w.region r))
  pub outlives : (a b : Tree) → w.outlives a b ≡ truth a b

-- a free region
abbrev pub IsFreeRegion : Tree → Type 0
IsFreeRegion t = (r : FreeRegion) × (t ≡ leaf_tree (leaf.Region r))

-- a value for a position of a canonical input: all universes are the root, constants stand for themselves, and
-- a region for any free region
pub record IsRootValue (k : VariableKind) (t : Tree) : Type 0 where
  pub value : IsValue k t
  pub named : NamesAll leaf_level 0 t

abbrev pub IsInputValue : PositionKind → Tree → Type 0
IsInputValue (type_variable u r) t = IsRootValue kind.Ty t
IsInputValue integer_variable t = IsRootValue kind.Int t
IsInputValue float_variable t = IsRootValue kind.Float t
IsInputValue (const_variable u) t = IsRootValue kind.Const t
IsInputValue (region_variable u) t = IsRootValue kind.Region t
IsInputValue (placeholder sort.Region u n) t = IsFreeRegion t × NamesAll leaf_level 0 t
IsInputValue (placeholder sort.Ty u n) t = t ≡ placeholder_tree sort.Ty u n
IsInputValue (placeholder sort.Const u n) t = t ≡ placeholder_tree sort.Const u n

abbrev pub AreInputValues : List PositionKind → List Tree → Type 0
AreInputValues [] [] = Unit {0}
AreInputValues (k ∷ ks) (t ∷ ts) = IsInputValue k t × AreInputValues ks ts
AreInputValues ks ts = ⊥

-- a solution of a canonical input: values for its positions, without aliases, with which its goal is proved
pub record IsSolutionOf (Proves : Tree → Tree → Type 0) (i : CanonicalInput) (vs : List Tree) : Type 0 where
  pub values : AreInputValues i.kinds vs
  pub plain : (v : Tree) → Among vs v → IsAliasFree v
  pub proved : Proves (filled vs i.environment) (filled vs i.predicate)

-- a value for a position of a response: a placeholder of the root is the input's value, another one stands for itself
pub record IsOwnValue (u : ℕ) (k : VariableKind) (t : Tree) : Type 0 where
  pub value : IsValue k t
  pub named : NamesAll leaf_level u t

abbrev pub IsAnswerValue : List Tree → PositionKind → Tree → Type 0
IsAnswerValue vs (type_variable u r) t = IsOwnValue u kind.Ty t
IsAnswerValue vs integer_variable t = IsOwnValue 0 kind.Int t
IsAnswerValue vs float_variable t = IsOwnValue 0 kind.Float t
IsAnswerValue vs (const_variable u) t = IsOwnValue u kind.Const t
IsAnswerValue vs (region_variable u) t = IsOwnValue u kind.Region t
IsAnswerValue vs (placeholder s zero n) t = t ≡ get_or vs n empty
IsAnswerValue vs (placeholder s (suc u) n) t = t ≡ placeholder_tree s (suc u) n

abbrev pub AreAnswerValues : List Tree → List PositionKind → List Tree → Type 0
AreAnswerValues vs [] [] = Unit {0}
AreAnswerValues vs (k ∷ ks) (t ∷ ts) = IsAnswerValue vs k t × AreAnswerValues vs ks ts
AreAnswerValues vs ks ts = ⊥

abbrev pub AreMetBy : Truth → List Tree → List Recorded → Type 0
AreMetBy o own [] = Unit {0}
AreMetBy o own (x ∷ xs) = IsTrueBy o x.relation (filled own x.left) (filled own x.right) × AreMetBy o own xs

-- a response contains a solution: for some values of its positions, without aliases, its values are the solution's, and its
-- constraints are true
pub record ContainsSolution (truth : Truth) (r : Response) (vs : List Tree) : Type 0 where
  pub own : List Tree
  pub values : AreAnswerValues vs r.kinds own
  pub plain : (v : Tree) → Among own v → IsAliasFree v
  pub equal : map (filled own) r.findings.values ≡ vs
  pub met : AreMetBy truth own r.findings.constraints

-- the answer of a query contains all solutions; a refusal says that there is none
abbrev pub AnswerContains : Truth → (Tree → Tree → Type 0) → CanonicalInput → Response → Type 0
AnswerContains truth Proves i r = (vs : List Tree) → IsSolutionOf Proves i vs → ContainsSolution truth r vs

abbrev pub HasNoSolution : (Tree → Tree → Type 0) → CanonicalInput → Type 0
HasNoSolution Proves i = (vs : List Tree) → IsSolutionOf Proves i vs → ⊥

-- between the leaves of a caller whose current universe is p and those of a query: constants of an input are its
-- placeholders, universes above p are counted from p, and what is named by p is named by the root
pub record Carrier (p : ℕ) (ls : List Leaf) : Type 0 where
  pub to : Instance
  pub back : Instance
  pub returns : (l : Leaf) → instance_of back (to.value l) ≡ leaf_tree l
  pub free : (r : FreeRegion) → IsFreeRegion (to.value (leaf.Region r))
  pub lowers : (l : Leaf) → CanName p (leaf_level_of l) → NamesAll leaf_level 0 (to.value l)
  pub raises : (l : Leaf) (u : ℕ) → CanName u (leaf_level_of l) → NamesAll leaf_level (p + u) (back.value l)
  pub new : (s : Sort) (u n : ℕ) → instance_of back (placeholder_tree s (suc u) n) ≡ placeholder_tree s (p + suc u) n
  pub original : (l : Leaf) → Among ls l → IsConstant l → to.value l ≡ placeholder_tree (sort_of_leaf l) 0 (number ls l)

-- no region variables
abbrev pub IsGroundLabel : Label → Type 0
IsGroundLabel l = is_region_infer l ≡ false

-- what is known of proved goals: they are terms without region variables, and what is proved is proved of what it is carried to
pub record IsCarriable (Proves : Tree → Tree → Type 0) (p : ℕ) (ls : List Leaf) (κ : Carrier p ls) : Type 0 where
  pub carried : (e g : Tree) → Proves e g → Proves (instance_of κ.to e) (instance_of κ.to g)

pub record AreGround (Proves : Tree → Tree → Type 0) : Type 0 where
  pub formed : (e g : Tree) → Proves e g → IsFormed (pair e g)
  pub ground : (e g : Tree) → Proves e g → AllLabels IsGroundLabel (pair e g)

-- the goal in an environment that a premise is, in a world
abbrev pub IsProvedIn : (Tree → Tree → Type 0) → World → Premise → Type 0
IsProvedIn Proves w q = Proves (inst w q.environment) (inst w q.predicate)

-- a world without aliases that solves the table and its goals
pub record SolvesGoals (truth : Truth) (base : ℕ) (Proves : Tree → Tree → Type 0) (c : Content) (gs : List Premise) (w : World) : Type 0 where
  pub solution : IsSolution truth base c w
  pub plain : IsPlainWorld c w
  pub goals : (q : Premise) → Among gs q → IsProvedIn Proves w q

-- .. that is another world but for what a table lacked
pub record ExtendsTo (truth : Truth) (base : ℕ) (Proves : Tree → Tree → Type 0) (c d : Content) (gs : List Premise) (w : World) : Type 0 where
  pub world : World
  pub agrees : Agrees (length c.slots) w world
  pub solves : SolvesGoals truth base Proves d gs world

-- whatever world solves the table and its goals before, some extension solves it and the goals left afterwards
pub record KeepsSolutions (truth : Truth) (base : ℕ) (Proves : Tree → Tree → Type 0) (c : Content) (gs : List Premise) (d : Content) (hs : List Premise) : Type 0 where
  pub longer : length c.slots ≤ length d.slots
  pub kinds : (n : ℕ) (k : VariableKind) → kind_at c n ≡ Some k → kind_at d n ≡ Some k
  pub each : (w : World) → SolvesGoals truth base Proves c gs w → ExtendsTo truth base Proves c d hs w

-- no world does
abbrev pub RefusesGoals : Truth → ℕ → (Tree → Tree → Type 0) → Content → List Premise → Type 0
RefusesGoals truth base Proves c gs = (w : World) → SolvesGoals truth base Proves c gs w → ⊥
