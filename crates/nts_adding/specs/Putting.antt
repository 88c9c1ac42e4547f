-- Variables that are put in the places of aliases.
use Rattle.std.specs.Prelude.{◌≡◌, false, List, [], ◌∷◌, ◌++◌, length, Option, Some, None}
use Rattle.nts_model.specs.declared.labels.Sort.{Sort}
use Rattle.nts_model.specs.declared.labels.Variance.TheVariants as variance
use Rattle.nts_model.specs.Terms.Trees.{Tree, empty, more, any_label, is_alias, kind_of, IsClosed}
use Rattle.nts_model.specs.Tables.Resolving.{Knows}
use Rattle.nts_model.specs.Derivations.Related.{IsAlias}
use Rattle.nts_store.specs.declared.nodes.NodeId.{NodeId}
use Rattle.nts_store.specs.Growth.{tree_at}
use Rattle.nts_unify.specs.Entries.{Entries}
use Rattle.nts_unify.specs.Reading.{content_of}
use Rattle.nts_table.specs.Fresh.{with_fresh, fresh_row, IsFreshLike}
use Rattle.nts_variance_model.specs.Variances.Relations.{Relating as Pair}
use Rattle.nts_theory.specs.Posing.{equal_pair, HasPut}
use Rattle.nts_variance.specs.declared.along.Relating.{Relating}
use Rattle.nts_variance.specs.Terms.{pairs_at, ArePairs}

-- where a walk that puts variables stands: the entries of its table, and the pairs of an alias and its variable, in order
pub record Standing : Type 0 where
  pub entries : Entries
  pub puts : List Pair

-- what stands for a term: itself if it has no alias, and a new variable of its kind if it is an alias without escaping bound variables
pub data Puts : Standing → Tree → Option Tree → Standing → Type 0 where
  plain : {s : Standing} {t : Tree} → any_label is_alias t ≡ false → Puts s t (Some t) s
  put : {s : Standing} {t : Tree} (v : Tree) (f : Entries) → IsAlias t → IsFreshLike (kind_of t) v s.entries f → Puts s t (Some v) (record { entries = f; puts = s.puts ++ equal_pair t v ∷ [] })
  goes_on : {s : Standing} {t : Tree} → (IsAlias t → ⊥) → Puts s t None s

abbrev pub right_sides : List Pair → Tree
right_sides [] = empty
right_sides (p ∷ ps) = more p.right (right_sides ps)

-- an alias, and a closed term of its kind that it is to be equal to
pub record IsPutFor (p : Pair) : Type 0 where
  pub equal : p.variance ≡ variance.Invariant
  pub alias : IsAlias p.left
  pub closed : IsClosed p.right
  pub kind : kind_of p.right ≡ kind_of p.left

abbrev pub AllPut : List Pair → Type 0
AllPut [] = Unit {0}
AllPut (p ∷ ps) = IsPutFor p × AllPut ps

-- one new variable for each alias, in order, and nothing else is new
pub record AreVariables (e f : Entries) (ps : List Pair) : Type 0 where
  pub sorts : List Sort
  pub entries : f ≡ with_fresh e sorts
  pub row : right_sides ps ≡ fresh_row (length e.variables) sorts
  pub puts : AllPut ps

-- the term q is the term p of the earlier store and table with these variables in the places of aliases
pub record PutsVariables (ts us : List Tree) (e f : Entries) (p q : NodeId) (xs : List Relating) : Type 0 where
  pub variables : AreVariables e f (pairs_at us xs)
  pub pairs : ArePairs us (content_of us f) xs
  pub put : HasPut (pairs_at us xs) (tree_at ts p) (tree_at us q)
  pub knows : Knows (content_of us f) (tree_at us q)
