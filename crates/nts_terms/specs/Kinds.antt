-- What a kind stands for, where its parts are terms of a store.
use Rattle.std.specs.Prelude.{◌≡◌, List, [], ◌∷◌, map}
use Rattle.nts_model.specs.declared.labels.Label.TheVariants as label
use Rattle.nts_model.specs.declared.labels.Leaf.TheVariants as leaf
use Rattle.nts_model.specs.declared.labels.Sort.{Sort}
use Rattle.nts_model.specs.declared.labels.Sort.TheVariants as sort
use Rattle.nts_model.specs.declared.labels.VariableKind.TheVariants as variable
use Rattle.nts_model.specs.declared.labels.FreeRegion.TheVariants as free
use Rattle.nts_model.specs.declared.labels.Constant.TheVariants as constant
use Rattle.nts_model.specs.declared.labels.TyHead.TheVariants as ty_head
use Rattle.nts_model.specs.declared.labels.ConstHead.TheVariants as const_head
use Rattle.nts_model.specs.declared.labels.ClauseHead.TheVariants as clause_head
use Rattle.nts_model.specs.declared.labels.PredicateHead.TheVariants as predicate_head
use Rattle.nts_model.specs.declared.labels.ListHead.TheVariants as list_head
use Rattle.nts_model.specs.Terms.Trees.{Tree, empty, more, node}
use Rattle.nts_model.specs.Derivations.Related.{alias_label}
use Rattle.nts_store.specs.declared.nodes.NodeId.{NodeId}
use Rattle.nts_terms.specs.declared.handles.GenericArg.{GenericArg}
use Rattle.nts_terms.specs.declared.handles.Predicate.{Predicate}
use Rattle.nts_terms.specs.declared.handles.Binder.{Binder}
use Rattle.nts_terms.specs.declared.handles.AliasTerm.{AliasTerm}
use Rattle.nts_terms.specs.declared.handles.TraitId.{TraitId}
use Rattle.nts_terms.specs.declared.kinds.InferTy.{InferTy}
use Rattle.nts_terms.specs.declared.kinds.InferTy.TheVariants as infer
use Rattle.nts_terms.specs.declared.kinds.TyKind.{TyKind}
use Rattle.nts_terms.specs.declared.kinds.TyKind.TheVariants as ty
use Rattle.nts_terms.specs.declared.kinds.RegionKind.{RegionKind}
use Rattle.nts_terms.specs.declared.kinds.RegionKind.TheVariants as region
use Rattle.nts_terms.specs.declared.kinds.ConstKind.{ConstKind}
use Rattle.nts_terms.specs.declared.kinds.ConstKind.TheVariants as konst
use Rattle.nts_terms.specs.declared.kinds.TermKind.{TermKind}
use Rattle.nts_terms.specs.declared.kinds.TermKind.TheVariants as term
use Rattle.nts_terms.specs.declared.kinds.GenericArgKind.{GenericArgKind}
use Rattle.nts_terms.specs.declared.kinds.GenericArgKind.TheVariants as argument
use Rattle.nts_terms.specs.declared.kinds.ClauseKind.{ClauseKind}
use Rattle.nts_terms.specs.declared.kinds.ClauseKind.TheVariants as clause
use Rattle.nts_terms.specs.declared.kinds.PredicateKind.{PredicateKind}
use Rattle.nts_terms.specs.declared.kinds.PredicateKind.TheVariants as predicate
use Rattle.nts_store.specs.Growth.{tree_at, trees_at}
use Rattle.nts_terms.specs.Handles.{HoldsTy, HoldsRegion, HoldsConst, HoldsTerm, HoldsArgs, HoldsVars, HoldsResult, IsAliasOf, alias_head}

-- there is one child, there are two
abbrev pub IsOne : Tree → Type 0
IsOne empty = ⊥
IsOne (more a b) = b ≡ empty
IsOne (node l c) = ⊥

abbrev pub AreTwo : Tree → Type 0
AreTwo empty = ⊥
AreTwo (more a b) = IsOne b
AreTwo (node l c) = ⊥

-- the children of a node
abbrev pub one : List Tree → NodeId → Tree
one ts a = more (tree_at ts a) empty

abbrev pub two : List Tree → NodeId → NodeId → Tree
two ts a b = more (tree_at ts a) (more (tree_at ts b) empty)

-- an alias, whether of a type or a const
abbrev pub tree_of_alias : List Tree → AliasTerm → Tree
tree_of_alias ts a = node (alias_label (alias_head a.def_id)) (one ts a.args.node)

abbrev pub tree_of_infer : InferTy → Tree
tree_of_infer (infer.TyVar n) = node (label.Leaf (leaf.Variable variable.Ty n)) empty
tree_of_infer (infer.IntVar n) = node (label.Leaf (leaf.Variable variable.Int n)) empty
tree_of_infer (infer.FloatVar n) = node (label.Leaf (leaf.Variable variable.Float n)) empty

abbrev pub tree_of_ty : List Tree → TyKind → Tree
tree_of_ty ts (ty.Ctor i a) = node (label.Ty (ty_head.Ctor i.number)) (one ts a.node)
tree_of_ty ts (ty.Int i) = node (label.Ty (ty_head.Int i)) empty
tree_of_ty ts (ty.Uint i) = node (label.Ty (ty_head.Uint i)) empty
tree_of_ty ts (ty.Float f) = node (label.Ty (ty_head.Float f)) empty
tree_of_ty ts (ty.FnPtr b) =
    node (label.Ty ty_head.FnPtr) (two ts b.vars.node b.value.inputs_and_output.node)
tree_of_ty ts (ty.Alias a) = tree_of_alias ts a
tree_of_ty ts (ty.Infer i) = tree_of_infer i
tree_of_ty ts (ty.Param n) = node (label.Leaf (leaf.TyConstant (constant.Param n))) empty
tree_of_ty ts (ty.Placeholder p) =
    node (label.Leaf (leaf.TyConstant (constant.Placeholder p.universe p.bound.var))) empty
tree_of_ty ts (ty.Bound i b) = node (label.Bound sort.Ty i b.var) empty
tree_of_ty ts ty.Error = node (label.Ty ty_head.Error) empty

-- the parts are of the store
abbrev pub TyFits : List Tree → TyKind → Type 0
TyFits ts (ty.Ctor i a) = HoldsArgs ts a
TyFits ts (ty.FnPtr b) = HoldsVars ts b.vars × HoldsArgs ts b.value.inputs_and_output
TyFits ts (ty.Alias a) = IsAliasOf sort.Ty a.def_id × HoldsArgs ts a.args
TyFits ts k = Unit {0}

abbrev pub tree_of_region : RegionKind → Tree
tree_of_region region.ReStatic = node (label.Leaf (leaf.Region free.Static)) empty
tree_of_region (region.ReEarlyParam n) = node (label.Leaf (leaf.Region (free.EarlyParam n))) empty
tree_of_region (region.ReLateParam n) = node (label.Leaf (leaf.Region (free.LateParam n))) empty
tree_of_region (region.ReBound i b) = node (label.Bound sort.Region i b.var) empty
tree_of_region (region.ReVar n) = node (label.Leaf (leaf.Variable variable.Region n)) empty
tree_of_region (region.RePlaceholder p) =
    node (label.Leaf (leaf.Region (free.Placeholder p.universe p.bound.var))) empty
tree_of_region region.ReErased = node (label.Leaf (leaf.Region free.Erased)) empty
tree_of_region region.ReError = node (label.Leaf (leaf.Region free.Error)) empty

abbrev pub tree_of_const : List Tree → ConstKind → Tree
tree_of_const ts (konst.Param n) = node (label.Leaf (leaf.ConstConstant (constant.Param n))) empty
tree_of_const ts (konst.Infer n) = node (label.Leaf (leaf.Variable variable.Const n)) empty
tree_of_const ts (konst.Bound i b) = node (label.Bound sort.Const i b.var) empty
tree_of_const ts (konst.Placeholder p) =
    node (label.Leaf (leaf.ConstConstant (constant.Placeholder p.universe p.bound.var))) empty
tree_of_const ts (konst.Unevaluated a) = tree_of_alias ts a
tree_of_const ts (konst.Value t b) = node (label.Const (const_head.Value b)) (one ts t.node)
tree_of_const ts konst.Error = node (label.Const const_head.Error) empty

abbrev pub ConstFits : List Tree → ConstKind → Type 0
ConstFits ts (konst.Unevaluated a) = IsAliasOf sort.Const a.def_id × HoldsArgs ts a.args
ConstFits ts (konst.Value t b) = HoldsTy ts t
ConstFits ts k = Unit {0}

-- a term or an argument is the type, region or const itself
abbrev pub node_of_term : TermKind → NodeId
node_of_term (term.Ty t) = t.node
node_of_term (term.Const c) = c.node

abbrev pub TermFits : List Tree → TermKind → Type 0
TermFits ts (term.Ty t) = HoldsTy ts t
TermFits ts (term.Const c) = HoldsConst ts c

abbrev pub node_of_argument : GenericArgKind → NodeId
node_of_argument (argument.Lifetime r) = r.node
node_of_argument (argument.«Type» t) = t.node
node_of_argument (argument.Const c) = c.node

abbrev pub ArgumentFits : List Tree → GenericArgKind → Type 0
ArgumentFits ts (argument.Lifetime r) = HoldsRegion ts r
ArgumentFits ts (argument.«Type» t) = HoldsTy ts t
ArgumentFits ts (argument.Const c) = HoldsConst ts c

abbrev pub tree_of_clause : List Tree → ClauseKind → Tree
tree_of_clause ts (clause.Trait r) = node (label.Clause (clause_head.Trait r.def_id.number)) (one ts r.args.node)
tree_of_clause ts (clause.HostEffect r) =
    node (label.Clause (clause_head.HostEffect r.def_id.number)) (one ts r.args.node)
tree_of_clause ts (clause.Projection a t) =
    node (label.Clause (clause_head.Projection (alias_head a.def_id))) (two ts a.args.node t.node)
tree_of_clause ts (clause.TypeOutlives t r) = node (label.Clause clause_head.TypeOutlives) (two ts t.node r.node)
tree_of_clause ts (clause.RegionOutlives a b) = node (label.Clause clause_head.RegionOutlives) (two ts a.node b.node)
tree_of_clause ts (clause.ConstArgHasType c t) =
    node (label.Clause clause_head.ConstArgHasType) (two ts c.node t.node)
tree_of_clause ts (clause.WellFormed t) = node (label.Clause clause_head.WellFormed) (one ts t.node)
tree_of_clause ts (clause.ConstEvaluatable c) = node (label.Clause clause_head.ConstEvaluatable) (one ts c.node)
tree_of_clause ts (clause.UnstableFeature n) = node (label.Clause (clause_head.UnstableFeature n)) empty

abbrev pub ClauseFits : List Tree → ClauseKind → Type 0
ClauseFits ts (clause.Trait r) = HoldsArgs ts r.args
ClauseFits ts (clause.HostEffect r) = HoldsArgs ts r.args
ClauseFits ts (clause.Projection a t) = HoldsArgs ts a.args × HoldsResult ts a t
ClauseFits ts (clause.TypeOutlives t r) = HoldsTy ts t × HoldsRegion ts r
ClauseFits ts (clause.RegionOutlives a b) = HoldsRegion ts a × HoldsRegion ts b
ClauseFits ts (clause.ConstArgHasType c t) = HoldsConst ts c × HoldsTy ts t
ClauseFits ts (clause.WellFormed t) = HoldsTerm ts t
ClauseFits ts (clause.ConstEvaluatable c) = HoldsConst ts c
ClauseFits ts (clause.UnstableFeature n) = Unit {0}

abbrev pub tree_of_statement : List Tree → PredicateKind → Tree
tree_of_statement ts (predicate.Clause c) = tree_of_clause ts c
tree_of_statement ts (predicate.Subtype e a b) =
    node (label.Predicate (predicate_head.Subtype e)) (two ts a.node b.node)
tree_of_statement ts (predicate.Coerce a b) = node (label.Predicate predicate_head.Coerce) (two ts a.node b.node)
tree_of_statement ts (predicate.DynCompatible i) = node (label.Predicate (predicate_head.DynCompatible i.number)) empty
tree_of_statement ts (predicate.ConstEquate a b) =
    node (label.Predicate predicate_head.ConstEquate) (two ts a.node b.node)
tree_of_statement ts (predicate.NormalizesTo a t) =
    node (label.Predicate (predicate_head.NormalizesTo (alias_head a.def_id))) (two ts a.args.node t.node)
tree_of_statement ts (predicate.AliasRelate a b d) =
    node (label.Predicate (predicate_head.AliasRelate d)) (two ts a.node b.node)
tree_of_statement ts predicate.Ambiguous = node (label.Predicate predicate_head.Ambiguous) empty

abbrev pub StatementFits : List Tree → PredicateKind → Type 0
StatementFits ts (predicate.Clause c) = ClauseFits ts c
StatementFits ts (predicate.Subtype e a b) = HoldsTy ts a × HoldsTy ts b
StatementFits ts (predicate.Coerce a b) = HoldsTy ts a × HoldsTy ts b
StatementFits ts (predicate.DynCompatible i) = Unit {0}
StatementFits ts (predicate.ConstEquate a b) = HoldsConst ts a × HoldsConst ts b
StatementFits ts (predicate.NormalizesTo a t) = HoldsArgs ts a.args × HoldsResult ts a t
StatementFits ts (predicate.AliasRelate a b d) = HoldsTerm ts a × HoldsTerm ts b
StatementFits ts predicate.Ambiguous = Unit {0}

abbrev pub tree_of_predicate : List Tree → Binder PredicateKind → Tree
tree_of_predicate ts b =
    node (label.List list_head.Binder) (more (tree_at ts b.vars.node) (more (tree_of_statement ts b.value) empty))

abbrev pub PredicateFits : List Tree → Binder PredicateKind → Type 0
PredicateFits ts b = HoldsVars ts b.vars × StatementFits ts b.value

-- the trees of lists
abbrev pub tree_of_args : List Tree → List GenericArg → Tree
tree_of_args ts xs = node (label.List list_head.Args) (trees_at ts (map (λ x. x.node) xs))

abbrev pub tree_of_env : List Tree → List Predicate → Tree
tree_of_env ts ps = node (label.List list_head.Env) (trees_at ts (map (λ p. p.node) ps))

abbrev pub tree_of_sort : Sort → Tree
tree_of_sort s = node (label.List (list_head.Sort s)) empty

abbrev pub row_of_sorts : List Sort → Tree
row_of_sorts [] = empty
row_of_sorts (s ∷ ss) = more (tree_of_sort s) (row_of_sorts ss)

abbrev pub tree_of_vars : List Sort → Tree
tree_of_vars ss = node (label.List list_head.Sorts) (row_of_sorts ss)

-- that a trait holds for the arguments, under a binder of no variables
abbrev pub tree_of_trait : List Tree → TraitId → List GenericArg → Tree
tree_of_trait ts i xs =
    let statement = node (label.Clause (clause_head.Trait i.number)) (more (tree_of_args ts xs) empty) in
    node (label.List list_head.Binder) (more (tree_of_vars []) (more statement empty))
