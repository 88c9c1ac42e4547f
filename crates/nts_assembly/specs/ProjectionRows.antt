-- What a row of an environment that says what an alias is offers, as data.
use Rattle.std.specs.Prelude.{◌≡◌, List, Option, Some, None}
use Rattle.nts_model.specs.Terms.Trees.{Tree}
use Rattle.nts_terms.specs.Handles.{HoldsArgs, HoldsResult}
use Rattle.nts_candidates.specs.declared.data.CandidateData.{CandidateData}
use Rattle.nts_delegate.specs.ClauseHandlers.{AliasAsked, asked_row, alias_asked, projection_of}
use Rattle.nts_assembly.specs.declared.projections.AliasIs.{AliasIs}
use Rattle.nts_assembly.specs.Assumptions.{sorts_of_predicate}
use Rattle.nts_assembly.specs.EnvironmentRows.{IsOfferWhere}
use Rattle.nts_assembly.specs.Projections.{fits_alias}

-- the alias and the term are of the store
pub record HoldsSaid (ts : List Tree) (w : AliasIs) : Type 0 where
  pub args : (let a = w.alias in HoldsArgs ts a.args)
  pub term : HoldsResult ts w.alias w.term

abbrev pub said_in : List Tree → AliasIs → AliasAsked
said_in ts w = alias_asked ts w.alias w.term

abbrev pub IsResultIf : List Tree → AliasAsked → Tree → Option AliasAsked → Option CandidateData → Type 0
IsResultIf ts w p None o = o ≡ None
IsResultIf ts w p (Some r) o = IsOfferWhere (fits_alias w r) ts (asked_row w) (sorts_of_predicate p) (asked_row r) o

-- there is an offer where the row says what the alias is that is asked for, with as many arguments
abbrev pub IsResultOfRow : List Tree → AliasAsked → Tree → Option CandidateData → Type 0
IsResultOfRow ts w p o = IsResultIf ts w p (projection_of p) o
