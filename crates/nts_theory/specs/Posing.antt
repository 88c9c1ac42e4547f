-- Goals in which new variables stand in the places of aliases, each of which is to be equal to its alias: so a candidate's goals are asked
-- in coherence, where a no says that nothing of that kind is proved.
use Rattle.std.specs.Prelude.{◌≡◌, List, [], ◌∷◌, ◌++◌, map, Some}
use Rattle.nts_model.specs.declared.labels.Sort.{Sort}
use Rattle.nts_model.specs.declared.labels.ClauseHead.TheVariants as clause
use Rattle.nts_model.specs.declared.labels.Label.{Label}
use Rattle.nts_model.specs.declared.labels.Label.TheVariants as label
use Rattle.nts_model.specs.declared.labels.Variance.TheVariants as variance
use Rattle.nts_model.specs.Terms.Trees.{Tree, empty, more, node, kind_of, of_sort, IsClosed, IsFormed}
use Rattle.nts_model.specs.Tables.Contents.{Content}
use Rattle.nts_model.specs.Tables.Resolving.{Knows}
use Rattle.nts_model.specs.Tables.Levels.{AreCurrent}
use Rattle.nts_model.specs.Derivations.Related.{IsAlias}
use Rattle.nts_model.specs.Lists.{Among}
use Rattle.nts_model.specs.Derivations.Sequents.{Premise}
use Rattle.nts_model.specs.Derivations.Rules.{Mode, coherence, GoalKind, choice, statement_of}
use Rattle.nts_model.specs.Refutation.Choosing.{Freshens}
use Rattle.nts_model.specs.Answers.Applying.{IsProperContent}
use Rattle.nts_variance_model.specs.Variances.Relations.{Relating as Pair}

-- an alias and its variable, which are to be equal
abbrev pub equal_pair : Tree → Tree → Pair
equal_pair a v = record { variance = variance.Invariant; left = a; right = v }

-- the second tree is the first with a closed term in the place of each outermost alias without escaping bound variables: for each such
-- place one pair, in the order of the places, of the alias that stood there and the term that stands there
pub data HasPut : List Pair → Tree → Tree → Type 0 where
  put_alias : {a v : Tree} → IsAlias a → IsClosed v → HasPut (equal_pair a v ∷ []) a v
  put_empty : HasPut [] empty empty
  put_more : {ps qs : List Pair} {a b s t : Tree} → HasPut ps a b → HasPut qs s t → HasPut (ps ++ qs) (more a s) (more b t)
  put_node : {ps : List Pair} {l : Label} {c d : Tree} → (IsAlias (node l c) → ⊥) → HasPut ps c d → HasPut ps (node l c) (node l d)

-- the aliases are of these sorts
abbrev pub AreOfSorts : List Sort → List Pair → Type 0
AreOfSorts [] [] = Unit {0}
AreOfSorts (s ∷ ss) (p ∷ ps) = (kind_of p.left ≡ Some (of_sort s)) × AreOfSorts ss ps
AreOfSorts ss ps = ⊥

-- statements of a handler's rules, in which values take the places of aliases
abbrev pub TakesValues : Tree → Type 0
TakesValues (node (label.Clause (clause.Trait i)) ts) = Unit {0}
TakesValues (node (label.Clause (clause.HostEffect i)) ts) = Unit {0}
TakesValues (node (label.Clause (clause.Projection i)) ts) = Unit {0}
TakesValues t = ⊥

-- what stands for a premise of a goal of that kind: that each alias is equal to its variable, asked by a step of the premise's kind, and
-- then what the premise says with the variables in place of the aliases
abbrev pub posed_with : GoalKind → Premise → List Pair → Tree → List Premise
posed_with k p zs g = map (λ z. choice k p z.left z.right) zs ++ record p { predicate = g } ∷ []

-- a premise of a table that says one is posed with new variables of the current universe
pub record PutsNew (k : GoalKind) (c : Content) (p : Premise) (d : Content) (ps : List Premise) : Type 0 where
  pub proper : IsProperContent c
  pub current : AreCurrent c
  pub says : TakesValues (statement_of p.predicate)
  pub formed : IsFormed p.environment × IsFormed p.predicate
  pub knows : Knows c p.environment × Knows c p.predicate
  pub sorts : List Sort
  pub variables : List Tree
  pub fresh : Freshens c.universe sorts variables c d
  pub pairs : List Pair
  pub of_sorts : AreOfSorts sorts pairs
  pub rights : map (λ (z : Pair). z.right) pairs ≡ variables
  pub goal : Tree
  pub put : HasPut pairs p.predicate goal
  pub posed : ps ≡ posed_with k p pairs goal
  pub terms : (q : Premise) → Among ps q → Knows d q.environment × Knows d q.predicate × IsFormed q.predicate

-- premises are posed one after the other, each so or as it is
pub data Poses (k : GoalKind) : Content → List Premise → Content → List Premise → Type 0 where
  poses_none : {c : Content} → Poses k c [] c []
  as_it_is : {c d : Content} {ps qs : List Premise} (p : Premise) → Poses k c ps d qs → Poses k c (p ∷ ps) d (p ∷ qs)
  with_variables : {c d e : Content} {ps qs : List Premise} (p : Premise) (xs : List Premise) → PutsNew k c p d xs → Poses k d ps e qs → Poses k c (p ∷ ps) e (xs ++ qs)

-- so in coherence; in each other mode as they are
abbrev pub PosesIn : Mode → GoalKind → Content → List Premise → Content → List Premise → Type 0
PosesIn coherence k c ps d qs = Poses k c ps d qs
PosesIn m k c ps d qs = (d ≡ c) × (qs ≡ ps)
