-- By what number the shape of a node is hashed. Two shapes may have one.
use Rattle.std.specs.Prelude.{ℕ, ◌+◌, ◌*◌, ◌%◌, ◌^◌, List, [], ◌∷◌}
use Rattle.nts_model.specs.declared.labels.FreeRegion.{FreeRegion}
use Rattle.nts_model.specs.declared.labels.FreeRegion.TheVariants as region
use Rattle.nts_model.specs.declared.labels.Constant.{Constant}
use Rattle.nts_model.specs.declared.labels.Constant.TheVariants as constant
use Rattle.nts_model.specs.declared.labels.VariableKind.TheVariants as kind
use Rattle.nts_model.specs.declared.labels.Leaf.{Leaf}
use Rattle.nts_model.specs.declared.labels.Leaf.TheVariants as leaf
use Rattle.nts_model.specs.declared.labels.BoundVarIndexKind.TheVariants as index
use Rattle.nts_model.specs.declared.labels.AliasHead.{AliasHead}
use Rattle.nts_model.specs.declared.labels.AliasHead.TheVariants as alias
use Rattle.nts_model.specs.declared.labels.TyHead.{TyHead}
use Rattle.nts_model.specs.declared.labels.TyHead.TheVariants as ty
use Rattle.nts_model.specs.declared.labels.ConstHead.{ConstHead}
use Rattle.nts_model.specs.declared.labels.ConstHead.TheVariants as const
use Rattle.nts_model.specs.declared.labels.ClauseHead.{ClauseHead}
use Rattle.nts_model.specs.declared.labels.ClauseHead.TheVariants as clause
use Rattle.nts_model.specs.declared.labels.PredicateHead.{PredicateHead}
use Rattle.nts_model.specs.declared.labels.PredicateHead.TheVariants as predicate
use Rattle.nts_model.specs.declared.labels.ListHead.{ListHead}
use Rattle.nts_model.specs.declared.labels.ListHead.TheVariants as list
use Rattle.nts_model.specs.declared.labels.Label.{Label}
use Rattle.nts_model.specs.declared.labels.Label.TheVariants as label
use Rattle.nts_store.specs.declared.nodes.NodeId.{NodeId}

-- one more number in a word
abbrev pub with_number : ℕ → ℕ → ℕ
with_number w n = (w * 11400714819323198485 % 2 ^ 64 + n) % 2 ^ 64

abbrev pub region_word : FreeRegion → ℕ
region_word region.Static = 1
region_word (region.EarlyParam n) = with_number 2 n
region_word (region.LateParam n) = with_number 3 n
region_word (region.Placeholder u n) = with_number (with_number 4 u) n
region_word region.Erased = 5
region_word region.Error = 6

abbrev pub constant_word : ℕ → Constant → ℕ
constant_word w (constant.Param n) = with_number w n
constant_word w (constant.Placeholder u n) = with_number (with_number w u) n

abbrev pub leaf_word : Leaf → ℕ
leaf_word (leaf.Variable kind.Ty n) = with_number 7 n
leaf_word (leaf.Variable k n) = with_number 8 n
leaf_word (leaf.Region r) = region_word r
leaf_word (leaf.TyConstant c) = constant_word 9 c
leaf_word (leaf.ConstConstant c) = constant_word 10 c

abbrev pub alias_word : ℕ → AliasHead → ℕ
alias_word w (alias.Ty n) = with_number w n
alias_word w (alias.Const n) = with_number (w + 1) n

abbrev pub ty_word : TyHead → ℕ
ty_word (ty.Ctor n) = with_number 13 n
ty_word (ty.Int i) = 14
ty_word (ty.Uint i) = 15
ty_word (ty.Float f) = 16
ty_word ty.FnPtr = 17
ty_word (ty.Alias n) = with_number 18 n
ty_word ty.Error = 19

abbrev pub const_word : ConstHead → ℕ
const_word (const.Unevaluated n) = with_number 20 n
const_word (const.Value v) = with_number 21 (v % 2 ^ 64)
const_word const.Error = 22

abbrev pub clause_word : ClauseHead → ℕ
clause_word (clause.Trait n) = with_number 23 n
clause_word (clause.HostEffect n) = with_number 24 n
clause_word (clause.Projection a) = alias_word 25 a
clause_word clause.TypeOutlives = 27
clause_word clause.RegionOutlives = 28
clause_word clause.ConstArgHasType = 29
clause_word clause.WellFormed = 30
clause_word clause.ConstEvaluatable = 31
clause_word (clause.UnstableFeature n) = with_number 32 n

abbrev pub predicate_word : PredicateHead → ℕ
predicate_word (predicate.Subtype b) = 33
predicate_word predicate.Coerce = 34
predicate_word (predicate.DynCompatible n) = with_number 35 n
predicate_word predicate.ConstEquate = 36
predicate_word (predicate.NormalizesTo a) = alias_word 37 a
predicate_word (predicate.AliasRelate d) = 39
predicate_word predicate.Ambiguous = 40

abbrev pub list_word : ListHead → ℕ
list_word list.Args = 41
list_word list.Env = 42
list_word list.Sorts = 43
list_word (list.Sort s) = 44
list_word list.Binder = 45

abbrev pub label_word : Label → ℕ
label_word (label.Leaf l) = leaf_word l
label_word (label.Bound s (index.Bound d) n) = with_number (with_number 11 d) n
label_word (label.Bound s index.Canonical n) = with_number 12 n
label_word (label.Ty h) = ty_word h
label_word (label.Const h) = const_word h
label_word (label.Clause h) = clause_word h
label_word (label.Predicate h) = predicate_word h
label_word (label.List h) = list_word h

-- .. and those of a list
abbrev pub with_all : ℕ → List NodeId → ℕ
with_all w [] = w
with_all w (n ∷ ns) = with_all (with_number w n.number) ns
