-- What is declared: the sorts that constructors, traits, aliases and consts take.
use Rattle.std.specs.List.{AllZip}
use Rattle.std.specs.Prelude.{◌≡◌, ℕ, List, [], ◌∷◌, ◌++◌, Option, Some, None, slice_get, ◌<◌, length}
use Rattle.nts_model.specs.declared.labels.Sort.{Sort}
use Rattle.nts_model.specs.declared.labels.Sort.TheVariants as sort
use Rattle.nts_model.specs.declared.labels.Variance.{Variance}
use Rattle.nts_model.specs.declared.labels.Variance.TheVariants as variance
use Rattle.nts_model.specs.Terms.Trees.{Tree, empty, more, children, kind_of, of_sort}
use Rattle.nts_terms.specs.declared.handles.DefId.{DefId}
use Rattle.nts_terms.specs.declared.handles.DefId.TheVariants as def
use Rattle.nts_terms.specs.declared.handles.AliasDefId.TheVariants as alias_def
use Rattle.nts_terms.specs.declared.declarations.AliasKind.{AliasKind}
use Rattle.nts_terms.specs.declared.kinds.TyKind.{TyKind}
use Rattle.nts_terms.specs.declared.kinds.TyKind.TheVariants as ty
use Rattle.nts_terms.specs.declared.kinds.ConstKind.{ConstKind}
use Rattle.nts_terms.specs.declared.kinds.ConstKind.TheVariants as konst
use Rattle.nts_terms.specs.declared.kinds.ClauseKind.{ClauseKind}
use Rattle.nts_terms.specs.declared.kinds.ClauseKind.TheVariants as clause
use Rattle.nts_terms.specs.declared.kinds.PredicateKind.{PredicateKind}
use Rattle.nts_terms.specs.declared.kinds.PredicateKind.TheVariants as predicate
use Rattle.nts_terms.specs.declared.handles.TraitId.{TraitId}
use Rattle.nts_terms.specs.declared.handles.ConstId.{ConstId}
use Rattle.nts_terms.specs.declared.handles.Ty.{Ty}
use Rattle.nts_store.specs.Growth.{tree_at}

-- of a constructor, the sorts of its arguments and their variances
pub record CtorSorts : Type 0 where
  pub sorts : List Sort
  pub variances : List Variance

-- of an alias, the sorts of its arguments and its kind
pub record AliasSorts : Type 0 where
  pub sorts : List Sort
  pub kind : AliasKind

-- the type names the arguments by their positions
pub record ConstSorts : Type 0 where
  pub sorts : List Sort
  pub ty : Ty

-- a const stays the same wherever the whole does
abbrev pub IsVarianceOf : Sort → Variance → Type 0
IsVarianceOf sort.Const v = v ≡ variance.Invariant
IsVarianceOf s v = Unit {0}

abbrev pub AreVariancesOf : List Sort → List Variance → Type 0
AreVariancesOf ss vs = AllZip IsVarianceOf ss vs

-- each list by number
pub record Declared : Type 0 where
  pub ctors : List CtorSorts
  pub traits : List (List Sort)
  pub aliases : List AliasSorts
  pub consts : List ConstSorts

abbrev pub nothing_declared : Declared
nothing_declared = record { ctors = []; traits = []; aliases = []; consts = [] }

abbrev pub with_ctor : Declared → List Sort → List Variance → Declared
with_ctor d s v = record d { ctors = d.ctors ++ record { sorts = s; variances = v } ∷ [] }

abbrev pub with_trait : Declared → List Sort → Declared
with_trait d s = record d { traits = d.traits ++ s ∷ [] }

abbrev pub with_alias : Declared → List Sort → AliasKind → Declared
with_alias d s k = record d { aliases = d.aliases ++ record { sorts = s; kind = k } ∷ [] }

abbrev pub with_const : Declared → List Sort → Ty → Declared
with_const d s t = record d { consts = d.consts ++ record { sorts = s; ty = t } ∷ [] }

abbrev pub ctor_sorts : Option CtorSorts → Option (List Sort)
ctor_sorts None = None
ctor_sorts (Some c) = Some c.sorts

abbrev pub alias_sorts : Option AliasSorts → Option (List Sort)
alias_sorts None = None
alias_sorts (Some a) = Some a.sorts

abbrev pub const_sorts : Option ConstSorts → Option (List Sort)
const_sorts None = None
const_sorts (Some c) = Some c.sorts

abbrev pub const_type : Option ConstSorts → Option Ty
const_type None = None
const_type (Some c) = Some c.ty

-- the sorts of the arguments that something declared takes
abbrev pub declared_sorts : Declared → DefId → Option (List Sort)
declared_sorts d (def.Ctor c) = ctor_sorts (slice_get d.ctors c.number)
declared_sorts d (def.Trait t) = slice_get d.traits t.number
declared_sorts d (def.Alias (alias_def.Ty a)) = alias_sorts (slice_get d.aliases a.number)
declared_sorts d (def.Alias (alias_def.Const c)) = const_sorts (slice_get d.consts c.number)

-- the type of a declared const
abbrev pub type_of : Declared → ConstId → Option Ty
type_of d c = const_type (slice_get d.consts c.number)

-- a list of terms of these sorts, one each
abbrev pub HaveSorts : List Sort → Tree → Type 0
HaveSorts [] empty = Unit {0}
HaveSorts (s ∷ ss) (more a b) = (kind_of a ≡ Some (of_sort s)) × HaveSorts ss b
HaveSorts ss t = ⊥

abbrev pub AreArgumentsOfSorts : Option (List Sort) → Tree → Type 0
AreArgumentsOfSorts None t = ⊥
AreArgumentsOfSorts (Some ss) t = HaveSorts ss (children t)

-- the arguments are as declared
abbrev pub AreDeclared : Declared → DefId → Tree → Type 0
AreDeclared d i t = AreArgumentsOfSorts (declared_sorts d i) t

-- what the kind names is declared, and takes arguments of these sorts
abbrev pub TyIsDeclared : Declared → List Tree → TyKind → Type 0
TyIsDeclared d ts (ty.Ctor i a) = AreDeclared d (def.Ctor i) (tree_at ts a.node)
TyIsDeclared d ts (ty.Alias a) = AreDeclared d (def.Alias a.def_id) (tree_at ts a.args.node)
TyIsDeclared d ts k = Unit {0}

abbrev pub ConstIsDeclared : Declared → List Tree → ConstKind → Type 0
ConstIsDeclared d ts (konst.Unevaluated a) = AreDeclared d (def.Alias a.def_id) (tree_at ts a.args.node)
ConstIsDeclared d ts k = Unit {0}

abbrev pub ClauseIsDeclared : Declared → List Tree → ClauseKind → Type 0
ClauseIsDeclared d ts (clause.Trait r) = AreDeclared d (def.Trait r.def_id) (tree_at ts r.args.node)
ClauseIsDeclared d ts (clause.HostEffect r) = AreDeclared d (def.Trait r.def_id) (tree_at ts r.args.node)
ClauseIsDeclared d ts (clause.Projection a t) = AreDeclared d (def.Alias a.def_id) (tree_at ts a.args.node)
ClauseIsDeclared d ts k = Unit {0}

abbrev pub IsTrait : Declared → TraitId → Type 0
IsTrait d t = t.number < length d.traits

abbrev pub StatementIsDeclared : Declared → List Tree → PredicateKind → Type 0
StatementIsDeclared d ts (predicate.Clause c) = ClauseIsDeclared d ts c
StatementIsDeclared d ts (predicate.DynCompatible t) = IsTrait d t
StatementIsDeclared d ts (predicate.NormalizesTo a t) = AreDeclared d (def.Alias a.def_id) (tree_at ts a.args.node)
StatementIsDeclared d ts k = Unit {0}

-- the declared variances of a constructor: none where it isn't declared
abbrev pub ctor_variances : Option CtorSorts → List Variance
ctor_variances None = []
ctor_variances (Some c) = c.variances

-- the variances of a constructor's arguments, as they were declared
abbrev pub variances_in : Declared → ℕ → List Variance
variances_in d i = ctor_variances (slice_get d.ctors i)

-- the variance at a place; what has none is invariant
abbrev pub variance_or_invariant : Option Variance → Variance
variance_or_invariant None = variance.Invariant
variance_or_invariant (Some v) = v
