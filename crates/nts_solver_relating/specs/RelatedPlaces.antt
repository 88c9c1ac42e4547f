-- What may stand at the places of values that are related.
use Rattle.std.proofs.Common.{◌≡◌, ◌⊎◌, inl, inr, Option, Some, None, refl}
use Rattle.nts_model.specs.declared.labels.Sort.{Sort}
use Rattle.nts_model.specs.declared.labels.Sort.TheVariants as sort
use Rattle.nts_model.specs.Terms.Trees.{NodeKind, Place, FitsPlace, of_sort, arguments, is, any_term, any_argument, a_type, a_region, a_const}

-- what stands there is a type, a region or a const
pub record AreTerms (p : Place) : Type 0 where
  pub sorted : (k : Option NodeKind) → FitsPlace p k → (s : Sort) × (k ≡ Some (of_sort s))

-- .. or a list of arguments
pub record AreLists (p : Place) : Type 0 where
  pub listed : (k : Option NodeKind) → FitsPlace p k → k ≡ Some arguments

abbrev pub AreSides : Place → Type 0
AreSides p = AreTerms p ⊎ AreLists p

of_one_sort : (s : Sort) → AreTerms (is (of_sort s))
of_one_sort s = record { sorted = λ k h. (s, h) }

term_sort : (k : Option NodeKind) → FitsPlace any_term k → (s : Sort) × (k ≡ Some (of_sort s))
term_sort None h = absurd h
term_sort (Some (of_sort s)) h = (s, refl)
term_sort (Some k) h = absurd h

argument_sort : (k : Option NodeKind) → FitsPlace any_argument k → (s : Sort) × (k ≡ Some (of_sort s))
argument_sort None h = absurd h
argument_sort (Some (of_sort s)) h = (s, refl)
argument_sort (Some k) h = absurd h

pub types : AreSides a_type
types = inl (of_one_sort sort.Ty)

pub regions : AreSides a_region
regions = inl (of_one_sort sort.Region)

pub consts : AreSides a_const
consts = inl (of_one_sort sort.Const)

pub terms : AreSides any_term
terms = inl (record { sorted = term_sort })

pub all_arguments : AreSides any_argument
all_arguments = inl (record { sorted = argument_sort })

pub lists : AreSides (is arguments)
lists = inr (record { listed = λ k h. h })
