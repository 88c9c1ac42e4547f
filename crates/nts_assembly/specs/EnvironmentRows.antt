-- What a row of an environment offers, as data.
use Rattle.std.specs.Prelude.{◌≡◌, ℕ, Bool, true, false, List, [], ◌∷◌, Option, Some, None}
use Rattle.nts_model.specs.declared.labels.Sort.{Sort}
use Rattle.nts_model.specs.Terms.Trees.{Tree, children}
use Rattle.nts_candidates.specs.nts_certainty.specs.declared.certainty.Certainty.TheVariants as certainty
use Rattle.nts_candidates.specs.nts_certainty.specs.declared.reruns.RerunCondition.TheVariants as rerun
use Rattle.nts_candidates.specs.declared.data.CandidateData.{CandidateData}
use Rattle.nts_assembly.specs.Assumptions.{positioned, sorts_of_predicate, fits_trait}
use Rattle.nts_delegate.specs.Offers.{AreArgumentPairs, trait_of}

-- a list of one item, or of none
abbrev pub one_or_none : {A : Type 0} → Option A → List A
one_or_none None = []
one_or_none (Some x) = x ∷ []

-- the arguments of the goal are those of the row, where what the row binds has positions; nothing is to be proved
pub record IsAssumedOffer (ts : List Tree) (us : Tree) (ss : List Sort) (hs : Tree) (d : CandidateData) : Type 0 where
  pub fresh : d.fresh.items ≡ ss
  pub equations : AreArgumentPairs ts us (positioned 0 hs) d.equations.items
  pub constraints : d.region_constraints.items ≡ []
  pub hidden : d.hidden_types.items ≡ []
  pub goals : d.goals.items ≡ []
  pub certainty : d.certainty ≡ certainty.Yes
  pub accesses : d.accesses ≡ rerun.Never

abbrev pub IsOfferWhere : Bool → List Tree → Tree → List Sort → Tree → Option CandidateData → Type 0
IsOfferWhere true ts us ss hs (Some d) = IsAssumedOffer ts us ss hs d
IsOfferWhere true ts us ss hs None = ⊥
IsOfferWhere false ts us ss hs o = o ≡ None

abbrev pub IsOfferIf : List Tree → ℕ → Tree → Tree → Option (ℕ × Tree) → Option CandidateData → Type 0
IsOfferIf ts i us p None o = o ≡ None
IsOfferIf ts i us p (Some r) o = IsOfferWhere (fits_trait i us r) ts us (sorts_of_predicate p) (children r.1) o

-- there is an offer where the row is a clause of the trait that takes as many arguments
abbrev pub IsOfferOfRow : List Tree → ℕ → Tree → Tree → Option CandidateData → Type 0
IsOfferOfRow ts i us p o = IsOfferIf ts i us p (trait_of p) o
