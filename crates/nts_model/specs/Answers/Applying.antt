-- The steps by which a response is applied to a table.
use Rattle.std.specs.Prelude.{◌≡◌, ◌⊎◌, ℕ, suc, ◌+◌, ◌≤◌, List, [], ◌∷◌, length}
use Rattle.nts_model.specs.declared.labels.Sort.{Sort}
use Rattle.nts_model.specs.declared.labels.VariableKind.{VariableKind}
use Rattle.nts_model.specs.declared.labels.VariableKind.TheVariants as kind
use Rattle.nts_model.specs.Terms.Trees.{Tree, IsFormed, variable_tree}
use Rattle.nts_model.specs.Tables.Contents.{Content, Slot, unset, Recorded, with_slot}
use Rattle.nts_model.specs.Tables.Resolving.{Knows, IsSound}
use Rattle.nts_model.specs.Tables.Levels.{NamesAll, level_in}
use Rattle.nts_model.specs.Tables.Worlds.{IsMet, IsValue, KnowsAll}
use Rattle.nts_model.specs.Tables.Holding.{HoldsConstraint, Continues}
use Rattle.nts_model.specs.Tables.Equations.{Narrows, AreRelated}
use Rattle.nts_model.specs.Terms.Substitutions.{filled}
use Rattle.nts_model.specs.Canonical.Numbered.{position}
use Rattle.nts_model.specs.Canonical.Inputs.{PositionKind, type_variable, integer_variable, float_variable, const_variable, region_variable, placeholder}
use Rattle.nts_model.specs.Answers.Responses.{recorded_by, bound_of, placeholder_at}

-- a table whose terms are its own
pub record IsProperContent (c : Content) : Type 0 where
  pub sound : IsSound c
  pub sides : KnowsAll c c.constraints

-- one new variable of this kind and universe
pub record IsNew (c e : Content) (k : VariableKind) (u : ℕ) (t : Tree) : Type 0 where
  pub slot : Slot
  pub of_kind : slot.kind ≡ k
  pub universe : slot.universe ≡ u
  pub free : slot.state ≡ unset
  pub entries : e ≡ with_slot c slot
  pub tree : t ≡ variable_tree k (length c.slots)
  pub proper : IsProperContent e

-- the original of a value that is just the position b
abbrev pub IsOriginalAt : List Tree → List Tree → ℕ → Tree → Type 0
IsOriginalAt (v ∷ vs) (o ∷ os) b t = ((s : Sort) × (v ≡ position s b) × (t ≡ o)) ⊎ IsOriginalAt vs os b t
IsOriginalAt vs os b t = ⊥

-- an original of the table c is guessed for a variable: it is a term that fits the variable, and that its universe names
pub record IsGuess (c : Content) (values os : List Tree) (b : ℕ) (k : PositionKind) (v : VariableKind) (t : Tree) : Type 0 where
  pub original : IsOriginalAt values os b t
  pub knows : Knows c t
  pub value : IsValue v t
  pub formed : IsFormed t
  pub named : NamesAll (level_in c) (bound_of c.universe k) t

-- what is chosen for the position b of this kind: the placeholder, of a universe that the table has, a new variable, or an original. c is the table at
-- first, and d the table so far
abbrev pub ChoosesVariable : Content → List Tree → List Tree → ℕ → PositionKind → VariableKind → Tree → Content → Content → Type 0
ChoosesVariable c values os b k v t d e = IsNew d e v (bound_of c.universe k) t ⊎ (IsGuess c values os b k v t × (e ≡ d))

abbrev pub Chooses : Content → List Tree → List Tree → ℕ → PositionKind → Tree → Content → Content → Type 0
Chooses c values os b (type_variable u r) t d e = ChoosesVariable c values os b (type_variable u r) kind.Ty t d e
Chooses c values os b integer_variable t d e = ChoosesVariable c values os b integer_variable kind.Int t d e
Chooses c values os b float_variable t d e = ChoosesVariable c values os b float_variable kind.Float t d e
Chooses c values os b (const_variable u) t d e = ChoosesVariable c values os b (const_variable u) kind.Const t d e
Chooses c values os b (region_variable u) t d e = ChoosesVariable c values os b (region_variable u) kind.Region t d e
Chooses c values os b (placeholder s u n) t d e = (t ≡ placeholder_at c.universe os s u n) × (c.universe + u ≤ d.universe) × (e ≡ d)

-- position by position, from b on
abbrev pub ChoosesAll : Content → List Tree → List Tree → ℕ → List PositionKind → List Tree → Content → Content → Type 0
ChoosesAll c values os b [] [] d f = f ≡ d
ChoosesAll c values os b (k ∷ ks) (t ∷ ts) d f = (e : Content) × Chooses c values os b k t d e × ChoosesAll c values os (suc b) ks ts e f
ChoosesAll c values os b ks ts d f = ⊥

-- value by value, the originals are made equal to the values
abbrev pub MakesEqual : List Tree → List Tree → List Tree → Content → Content → Type 0
MakesEqual chosen [] [] c d = d ≡ c
MakesEqual chosen (v ∷ vs) (o ∷ os) c d =
    (e : Content) × AreRelated c e (filled chosen v) o × IsProperContent e × MakesEqual chosen vs os e d
MakesEqual chosen vs os c d = ⊥

-- a constraint is recorded: it holds, and the solutions are those that meet it
pub record IsRecordedIn (c d : Content) (x : Recorded) : Type 0 where
  pub continues : Continues c d
  pub narrows : Narrows c d (λ w. IsMet w x)
  pub held : HoldsConstraint d x
  pub proper : IsProperContent d

abbrev pub Records : List Tree → List Recorded → Content → Content → Type 0
Records chosen [] c d = d ≡ c
Records chosen (x ∷ xs) c d = (e : Content) × IsRecordedIn c e (recorded_by (filled chosen) x) × Records chosen xs e d

-- terms of the table
abbrev pub AreKnownTrees : Content → List Tree → Type 0
AreKnownTrees c [] = Unit {0}
AreKnownTrees c (t ∷ ts) = Knows c t × AreKnownTrees c ts
