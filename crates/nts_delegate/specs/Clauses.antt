-- Clauses that a handler may be made of.
use Rattle.std.specs.Prelude.{◌≡◌, ℕ, Bool, true, false, List, [], ◌∷◌, map, Option, Some, None, slice_get}
use Rattle.nts_model.specs.declared.labels.AliasHead.{AliasHead}
use Rattle.nts_model.specs.declared.labels.AliasHead.TheVariants as alias_of
use Rattle.nts_model.specs.declared.labels.Sort.{Sort}
use Rattle.nts_model.specs.declared.labels.PredicateHead.{PredicateHead}
use Rattle.nts_model.specs.declared.labels.PredicateHead.TheVariants as predicate
use Rattle.nts_model.specs.declared.labels.Label.{Label}
use Rattle.nts_model.specs.declared.labels.Label.TheVariants as label
use Rattle.nts_model.specs.declared.labels.TyHead.{TyHead}
use Rattle.nts_model.specs.Terms.Trees.{Tree, children, any_label, a_result, IsClosed}
use Rattle.nts_model.specs.Terms.Scoping.{IsWellBound}
use Rattle.nts_store.specs.declared.nodes.NodeId.{NodeId}
use Rattle.nts_terms.specs.declared.handles.Predicate.{Predicate}
use Rattle.nts_store.specs.Growth.{tree_at, IsIn}
use Rattle.nts_model.specs.Terms.Substitutions.{position_of}
use Rattle.nts_terms.specs.Handles.{Holds, HoldsArgs, HoldsPredicate, alias_head}
use Rattle.nts_model.specs.Derivations.Handlers.{NamesAt, NamesFresh}
use Rattle.nts_candidates.specs.Foreign.{is_foreign_leaf}
use Rattle.nts_delegate.specs.Places.{IsIndexOf}
use Rattle.nts_delegate.specs.Relevant.{first_built_by}
use Rattle.nts_delegate.specs.declared.alias_table.NormClause.{NormClause}
use Rattle.nts_delegate.specs.declared.alias_table.AliasRules.{AliasRules}
use Rattle.nts_delegate.specs.declared.alias_table.AliasTable.{AliasTable}
use Rattle.nts_delegate.specs.declared.clauses.Clause.{Clause}
use Rattle.nts_delegate.specs.declared.clauses.TraitClauses.{TraitClauses}
use Rattle.nts_delegate.specs.declared.clauses.Clauses.{Clauses}

-- goals that a clause may not ask for
abbrev pub is_foreign_predicate : PredicateHead → Bool
is_foreign_predicate predicate.ConstEquate = true
is_foreign_predicate (predicate.NormalizesTo i) = true
is_foreign_predicate p = false

abbrev pub is_foreign : Label → Bool
is_foreign (label.Leaf l) = is_foreign_leaf l
is_foreign (label.Predicate p) = is_foreign_predicate p
is_foreign l = false

-- what a label of a clause's term may be
abbrev pub MayHave : List Sort → Label → Type 0
MayHave fresh l = NamesAt fresh (position_of l) l × (is_foreign l ≡ false)

-- a term of a clause: it names its variables as positions, and has no leaves of a goal's; its binders list what they bind
pub record IsClauseTerm (ts : List Tree) (fresh : List Sort) (t : NodeId) : Type 0 where
  pub within : IsIn ts t
  pub names : NamesFresh fresh (tree_at ts t)
  pub own : any_label is_foreign (tree_at ts t) ≡ false
  pub closed : IsClosed (tree_at ts t)
  pub well_bound : IsWellBound (tree_at ts t)

abbrev pub AreBodies : List Tree → List Sort → List Predicate → Type 0
AreBodies ts fresh [] = Unit {0}
AreBodies ts fresh (p ∷ ps) = HoldsPredicate ts p × IsClauseTerm ts fresh p.node × AreBodies ts fresh ps

pub record HoldsClause (ts : List Tree) (c : Clause) : Type 0 where
  pub head_holds : HoldsArgs ts c.head
  pub head : IsClauseTerm ts c.fresh.items c.head.node
  pub body : AreBodies ts c.fresh.items c.body.items

abbrev pub AreClauses : List Tree → List Clause → Type 0
AreClauses ts [] = Unit {0}
AreClauses ts (c ∷ cs) = HoldsClause ts c × AreClauses ts cs

-- the clauses of a trait, in the order in which they were added
abbrev pub clauses_in : Option TraitClauses → List Clause
clauses_in None = []
clauses_in (Some t) = t.clauses.items

abbrev pub clauses_of : Clauses → ℕ → List Clause
clauses_of h i = clauses_in (slice_get h.traits.items i)

-- whether a trait is coinductive
abbrev pub coinductive_in : Option TraitClauses → Bool
coinductive_in None = false
coinductive_in (Some t) = t.is_coinductive

abbrev pub coinductive_of : Clauses → ℕ → Bool
coinductive_of h i = coinductive_in (slice_get h.traits.items i)

-- what the first argument of a clause's head is built by
abbrev pub head_of_clause : List Tree → Clause → Option TyHead
head_of_clause ts c = first_built_by (children (tree_at ts c.head.node))

-- the index of a trait's clauses leads to each by that
abbrev pub IsIndexed : List Tree → Option TraitClauses → Type 0
IsIndexed ts None = Unit {0}
IsIndexed ts (Some t) = IsIndexOf t.heads (map (head_of_clause ts) t.clauses.items)

-- what is said of an alias: its clauses, in the order in which they were added, and whether it is rigid
pub record SaidOfAlias : Type 0 where
  pub clauses : List NormClause
  pub is_rigid : Bool

abbrev pub nothing_said : SaidOfAlias
nothing_said = record { clauses = []; is_rigid = false }

abbrev pub said_in : Option AliasRules → SaidOfAlias
said_in None = nothing_said
said_in (Some r) = record { clauses = r.clauses.items; is_rigid = r.is_rigid }

-- .. by the number of an alias of types, or of a const that is to be evaluated
abbrev pub said_at : AliasTable → AliasHead → SaidOfAlias
said_at t (alias_of.Ty i) = said_in (slice_get t.types.items i)
said_at t (alias_of.Const i) = said_in (slice_get t.consts.items i)

abbrev pub said_of : Clauses → AliasHead → SaidOfAlias
said_of h a = said_at h.aliases a

-- no alias has a clause, and none is rigid
abbrev pub SaysNothingOfAliases : Clauses → Type 0
SaysNothingOfAliases h = (a : AliasHead) → said_of h a ≡ nothing_said

-- a clause for an alias, of the store: its result is a type or a const, as the alias is
pub record HoldsNormClause (ts : List Tree) (c : NormClause) : Type 0 where
  pub head_holds : HoldsArgs ts c.head
  pub head : IsClauseTerm ts c.fresh.items c.head.node
  pub result_holds : Holds (a_result (alias_head c.alias)) ts c.result.node
  pub result : IsClauseTerm ts c.fresh.items c.result.node
  pub body : AreBodies ts c.fresh.items c.body.items

abbrev pub AreNormClauses : List Tree → List NormClause → Type 0
AreNormClauses ts [] = Unit {0}
AreNormClauses ts (c ∷ cs) = HoldsNormClause ts c × AreNormClauses ts cs

-- the clauses are of the store, and the index of those of traits leads to them
pub record AreClausesReady (ts : List Tree) (h : Clauses) : Type 0 where
  pub clauses : (i : ℕ) → AreClauses ts (clauses_of h i)
  pub indexed : (i : ℕ) → IsIndexed ts (slice_get h.traits.items i)
  pub aliases : (a : AliasHead) → AreNormClauses ts (said_of h a).clauses
