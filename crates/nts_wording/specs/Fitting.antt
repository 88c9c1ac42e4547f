-- What is said of traits is as they are declared.
use Rattle.std.specs.Prelude.{◌≡◌, ℕ, List, Option, None, Some}
use Rattle.nts_model.specs.Terms.Trees.{Tree, kind_of, arguments}
use Rattle.nts_store.specs.Growth.{tree_at, IsIn}
use Rattle.nts_terms.specs.Signatures.{Declared, AreDeclared}
use Rattle.nts_terms.specs.declared.handles.DefId.TheVariants as def
use Rattle.nts_delegate.specs.Offers.{trait_of}
use Rattle.nts_delegate.specs.declared.clauses.Clause.{Clause}

-- a list of arguments of the sorts that are declared for the trait of this number, one for each
pub record AreTraitArguments (d : Declared) (i : ℕ) (args : Tree) : Type 0 where
  pub list : kind_of args ≡ Some arguments
  pub declared : AreDeclared d (def.Trait (record { number = i })) args

-- where there is a trait, its arguments are such
abbrev pub FitTraitIfAny : Declared → Option (ℕ × Tree) → Type 0
FitTraitIfAny d None = Unit {0}
FitTraitIfAny d (Some r) = AreTraitArguments d r.0 r.1

-- where a predicate is about a trait, it has the arguments that are declared for the trait
abbrev pub IsDeclaredPredicate : Declared → Tree → Type 0
IsDeclaredPredicate d p = FitTraitIfAny d (trait_of p)

-- the head of a clause is of the store, and has the arguments that are declared for the trait of this number
pub record HeadFits (d : Declared) (ts : List Tree) (i : ℕ) (c : Clause) : Type 0 where
  pub within : IsIn ts c.head.node
  pub given : AreTraitArguments d i (tree_at ts c.head.node)
