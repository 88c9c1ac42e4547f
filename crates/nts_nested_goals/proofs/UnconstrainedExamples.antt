-- Goals that leave open what an alias is normalized to, by example.
use Rattle.std.proofs.Common.{◌≡◌, ◌≤◌, [], ◌∷◌, Some, None, refl, sym, ap, ◌∙◌, subst, arith}
use Rattle.nts_model.specs.declared.labels.VariableKind.TheVariants as kind
use Rattle.nts_model.specs.declared.labels.Constant.TheVariants as constant
use Rattle.nts_model.specs.declared.labels.Leaf.TheVariants as leaf
use Rattle.nts_model.specs.declared.labels.Label.TheVariants as label
use Rattle.nts_model.specs.declared.labels.ListHead.TheVariants as list
use Rattle.nts_model.specs.declared.labels.AliasHead.{AliasHead}
use Rattle.nts_model.specs.declared.labels.PredicateHead.TheVariants as predicate
use Rattle.nts_model.specs.Terms.Trees.{Tree, empty, more, node, variable_tree}
use Rattle.nts_model.specs.Tables.Contents.{Content, unset, universe_of}
use Rattle.nts_model.specs.Tables.Passing.{AllLabels}
use Rattle.nts_model.specs.Derivations.Related.{pair}
use Rattle.nts_nested_goals.specs.Unconstrained.{variable_universe, Spares, IsFullyUnconstrained}

-- that an alias with these arguments is normalized to the type variable 0
abbrev pub normalizing : AliasHead → Tree → Tree
normalizing h args =
    node (label.List list.Binder) (more empty (more (node (label.Predicate (predicate.NormalizesTo h)) (pair args (variable_tree kind.Ty 0))) empty))

abbrev pub no_arguments : Tree
no_arguments = node (label.List list.Args) empty

abbrev pub nothing_assumed : Tree
nothing_assumed = node (label.List list.Env) empty

-- a table of one type variable
abbrev pub one_variable : Content
one_variable =
    record { slots = record { kind = kind.Ty; universe = 0; state = unset; sub_link = None } ∷ []; order = []; universe = 0; constraints = [] }

-- the variable can be anything
pub left_open : (h : AliasHead) → IsFullyUnconstrained one_variable nothing_assumed (normalizing h no_arguments)
left_open h = record {
  head = h;
  args = no_arguments;
  kind = kind.Ty;
  number = 0;
  universe = 0;
  goal = refl;
  within = refl;
  environment = (record { other = λ q. cc q; named = tt }, tt);
  alias = (record { other = λ q. cc q; named = tt }, tt);
}

-- .. unless it stands in the alias
pub in_alias_no : (c : Content) (e : Tree) (h : AliasHead) → IsFullyUnconstrained c e (normalizing h (node (label.List list.Args) (more (variable_tree kind.Ty 0) empty))) → ⊥
in_alias_no c e h r =
    let args : node (label.List list.Args) (more (variable_tree kind.Ty 0) empty) ≡ r.args = (let g = r.goal in cc g) in
    let kinds : kind.Ty ≡ r.kind = (let g = r.goal in cc g) in
    let numbers : 0 ≡ r.number = (let g = r.goal in cc g) in
    let x : label.Leaf (leaf.Variable kind.Ty 0) ≡ label.Leaf (leaf.Variable r.kind r.number) = ap (λ y. label.Leaf (leaf.Variable y 0)) kinds ∙ ap (λ y. label.Leaf (leaf.Variable r.kind y)) numbers in
    let all : AllLabels (Spares (universe_of c) (label.Leaf (leaf.Variable r.kind r.number)) r.universe) (node (label.List list.Args) (more (variable_tree kind.Ty 0) empty)) = subst (λ t. AllLabels (Spares (universe_of c) (label.Leaf (leaf.Variable r.kind r.number)) r.universe) t) (sym args) r.alias in
    all.1.0.0.other x

-- .. or the environment has a placeholder that its universe can't name
pub later_no : (h : AliasHead) → IsFullyUnconstrained one_variable (node (label.List list.Env) (node (label.Leaf (leaf.TyConstant (constant.Placeholder 1 0))) empty)) (normalizing h no_arguments) → ⊥
later_no h r =
    let kinds : kind.Ty ≡ r.kind = (let g = r.goal in cc g) in
    let numbers : 0 ≡ r.number = (let g = r.goal in cc g) in
    let within : variable_universe (universe_of one_variable) kind.Ty 0 ≡ Some r.universe = subst (λ k. variable_universe (universe_of one_variable) k 0 ≡ Some r.universe) (sym kinds) (subst (λ n. variable_universe (universe_of one_variable) r.kind n ≡ Some r.universe) (sym numbers) r.within) in
    let lowest : 0 ≡ r.universe = cc within in
    let named : 1 ≤ r.universe = r.environment.1.0.named in
    omega (arith, lowest, named)
