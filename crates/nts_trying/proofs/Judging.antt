-- What a handler affirms or denies of a goal of the engine's own kinds, and which have one way, by what the goal states.
use Rattle.std.proofs.Common.{◌≡◌, ◌||◌, Bool, true, ℕ, List, [], ◌∷◌, Some, refl, sym, ap, subst, ◌∙◌}
use Rattle.std.specs.Prelude.{◌≢◌, ◌&&◌, IsTrue, None, false}
use Rattle.nts_model.specs.declared.labels.ClauseHead.TheVariants as clause_head
use Rattle.nts_model.specs.declared.labels.ConstHead.TheVariants as const_head
use Rattle.nts_model.specs.declared.labels.Leaf.TheVariants as leaf
use Rattle.nts_model.specs.declared.labels.PredicateHead.TheVariants as predicate_head
use Rattle.nts_model.specs.declared.labels.Label.TheVariants as label
use Rattle.nts_model.specs.declared.labels.Sort.TheVariants as sort
use Rattle.nts_model.specs.Terms.Trees.{Tree, empty, more, node, kind_of, of_sort, any_label, is_alias}
use Rattle.nts_model.specs.Derivations.Related.{alias_label, unbound, value}
use Rattle.nts_model.specs.Derivations.Rules.{statement_of, const_error, related}
use Rattle.nts_model.specs.Derivations.Handlers.{Candidate, Judgements, IsEvaluated}
use Rattle.nts_theory.specs.Affirming.{IsAffirmed, feature_allowed, has_objects, named_const, value_const, error_const, error_type, evaluated_const, has_type, plain_way, by_type, by_goals, IsOwnWay, HasOwnWay, SaysAffirmed, IsDenied}
use Rattle.nts_theory.specs.RelatingCandidates.{may_be_argument, relates_aliases, HasPlainEquations}
use Rattle.nts_store.specs.Growth.{tree_at, Extends}
use Rattle.nts_terms.specs.declared.handles.Goal.{Goal}
use Rattle.nts_terms.specs.declared.kinds.ConstKind.{ConstKind}
use Rattle.nts_terms.specs.declared.kinds.ConstKind.TheVariants as konst
use Rattle.nts_terms.specs.declared.handles.AliasDefId.{AliasDefId}
use Rattle.nts_terms.specs.declared.handles.AliasDefId.TheVariants as alias_def
use Rattle.nts_terms.specs.Handles.{alias_head, HoldsGoal}
use Rattle.nts_terms.specs.Kinds.{tree_of_const}
use Rattle.nts_trying.specs.Owning.{tree_of_own, IsOwnGoal}
use Rattle.nts_trying.specs.declared.own.OwnGoal.{OwnGoal}
use Rattle.nts_trying.proofs.Owning.{states_in}

-- a const that can be evaluated
abbrev pub IsEvaluable : Judgements → Tree → Tree → Type 0
IsEvaluable j e (node (label.Leaf (leaf.ConstConstant c)) ts) = Unit {0}
IsEvaluable j e (node (label.Const (const_head.Value b)) ts) = Unit {0}
IsEvaluable j e (node (label.Const const_head.Error) ts) = Unit {0}
IsEvaluable j e (node (label.Const (const_head.Unevaluated i)) ts) = IsEvaluated j e (node (label.Const (const_head.Unevaluated i)) ts)
IsEvaluable j e t = ⊥

-- the sides of what is said of a value's type
no_side : (x y : Bool) → (x || false) || (y || false) ≡ false → x || y ≡ false
no_side true y e = e
no_side false true e = e
no_side false false e = e

a_side : (x y : Bool) → (x || false) || (y || false) ≡ true → x || y ≡ true
a_side true y e = refl
a_side false true e = refl
a_side false false e = e

never_relates : (k : Bool) → k && false ≡ false
never_relates true = refl
never_relates false = refl

sides_plain : (b : ℕ) (u t : Tree) → any_label is_alias (has_type (value b u) t) ≡ false → relates_aliases (related u t) ≡ false
sides_plain b u t none = (let e = no_side (any_label is_alias u) (any_label is_alias t) none in rw e (never_relates (may_be_argument (kind_of t))))

sides_aliased : (b : ℕ) (u t : Tree) → kind_of t ≡ Some (of_sort sort.Ty) → any_label is_alias (has_type (value b u) t) ≡ true → relates_aliases (related u t) ≡ true
sides_aliased b u t kind some = (let e = a_side (any_label is_alias u) (any_label is_alias t) some in rw (kind, e) refl)

-- what is so where a statement is affirmed, and where it is denied
abbrev pub AffirmedBy : Judgements → Tree → Tree → Type 0
AffirmedBy j e (node (label.Clause (clause_head.UnstableFeature f)) ts) = IsTrue (j.allows e f)
AffirmedBy j e (node (label.Predicate (predicate_head.DynCompatible i)) ts) = IsTrue (j.is_dyn_compatible i)
AffirmedBy j e (node (label.Clause clause_head.ConstEvaluatable) (more c ts)) = IsEvaluable j e c
AffirmedBy j e (node (label.Clause clause_head.ConstArgHasType) (more c ts)) = c ≡ const_error
AffirmedBy j e s = ⊥

abbrev pub DeniedBy : Judgements → Tree → Type 0
DeniedBy j (node (label.Predicate (predicate_head.DynCompatible i)) ts) = j.is_dyn_compatible i ≡ false
DeniedBy j s = ⊥

-- a const that is a value
abbrev pub IsValueConst : Tree → Type 0
IsValueConst (node (label.Const (const_head.Value b)) ts) = Unit {0}
IsValueConst t = ⊥

-- what is so where a statement has one way
abbrev pub HasWayBy : Judgements → Tree → Tree → Type 0
HasWayBy j e (node (label.Clause clause_head.ConstArgHasType) (more c ts)) = IsValueConst c
HasWayBy j e (node (label.Clause clause_head.WellFormed) (more t ts)) = j.well_formed e t ≢ None
HasWayBy j e s = ⊥

pub has_way : (j : Judgements) (e s : Tree) (y : Candidate) → IsOwnWay j e s y → HasWayBy j e s
has_way j e s y by_type = tt
has_way j e s y (by_goals q) = λ none. (let r = sym q ∙ none in cc r)

-- the one way of a statement relates no aliases where none stands in it
pub way_plain : (j : Judgements) (e s : Tree) (y : Candidate) → IsOwnWay j e s y → any_label is_alias s ≡ false → HasPlainEquations y
way_plain j e s y (by_type {b = b} {u = u} {t = t}) none = rw (sides_plain b u t none) refl
way_plain j e s y (by_goals q) none = refl

-- an alias of a goal that binds nothing stands in what it states
alone_some : (x : Bool) → x || false ≡ true → x ≡ true
alone_some true e = refl
alone_some false e = e

pub unbound_some : (s : Tree) → any_label is_alias (unbound s) ≡ true → any_label is_alias s ≡ true
unbound_some s h = alone_some (any_label is_alias s) h

-- .. and of a value relates some where one does
relates_some : (b : ℕ) (u t : Tree) → kind_of t ≡ Some (of_sort sort.Ty) → any_label is_alias (has_type (value b u) t) ≡ true → HasPlainEquations (plain_way (related u t ∷ []) []) → ⊥
relates_some b u t kind some plain = (let r = sides_aliased b u t kind some in let q : related u t ∷ [] ≡ [] = rw r at plain in cc q)

pub way_aliased : (j : Judgements) (e s : Tree) (y : Candidate) → IsOwnWay j e s y → (b : ℕ) (u t : Tree) → s ≡ has_type (value b u) t → kind_of t ≡ Some (of_sort sort.Ty) → any_label is_alias s ≡ true → HasPlainEquations y → ⊥
way_aliased j e s y (by_type {b = c} {u = v} {t = r}) b u t is kind some plain =
    let same : r ≡ t = cc is in
    relates_some c v r (ap kind_of same ∙ kind) some plain
way_aliased j e s y (by_goals q) b u t is kind some plain = cc is

affirmed_by : (j : Judgements) (e s : Tree) → IsAffirmed j e s → AffirmedBy j e s
affirmed_by j e s (feature_allowed x) = x
affirmed_by j e s (has_objects x) = x
affirmed_by j e s named_const = tt
affirmed_by j e s value_const = tt
affirmed_by j e s error_const = tt
affirmed_by j e s error_type = refl
affirmed_by j e s (evaluated_const {v = v} q) = (v, q)

pub one_statement : (s t : Tree) → unbound s ≡ unbound t → s ≡ t
one_statement s t q = cc q

-- of a goal of the store, in one that has grown
module _ {a b : List Tree} {g : Goal} {o : OwnGoal} (j : Judgements) (up : Extends a b) (holds : HoldsGoal a g) (says : IsOwnGoal a g o) where
  pub affirms : SaysAffirmed j (tree_at b g.param_env.node) (tree_at b g.predicate.node) → AffirmedBy j (tree_at b g.param_env.node) (tree_of_own b o)
  affirms x =
      let states = states_in up holds says in
      subst (AffirmedBy j (tree_at b g.param_env.node)) (one_statement x.statement (tree_of_own b o) (sym x.binds_nothing ∙ states.binds_nothing)) (affirmed_by j (tree_at b g.param_env.node) x.statement x.affirmed)

  pub denies : IsDenied j (statement_of (tree_at b g.predicate.node)) → DeniedBy j (tree_of_own b o)
  denies x =
      let states = states_in up holds says in
      let there : IsDenied j (tree_of_own b o) = subst (λ z. IsDenied j (statement_of z)) states.binds_nothing x in
      subst (DeniedBy j) (sym there.is) there.has_none

  pub ways : (y : Candidate) → HasOwnWay j (tree_at b g.param_env.node) (tree_at b g.predicate.node) y → HasWayBy j (tree_at b g.param_env.node) (tree_of_own b o)
  ways y x =
      let states = states_in up holds says in
      subst (HasWayBy j (tree_at b g.param_env.node)) (one_statement x.statement (tree_of_own b o) (sym x.binds_nothing ∙ states.binds_nothing)) (has_way j (tree_at b g.param_env.node) x.statement y x.way)

-- no const but a value is one
no_alias_value : (d : AliasDefId) (c : Tree) → IsValueConst (node (alias_label (alias_head d)) c) → ⊥
no_alias_value (alias_def.Ty a) c i = i
no_alias_value (alias_def.Const a) c i = i

pub not_value : (ts : List Tree) (k : ConstKind) → ((t : _) (b : _) → k ≡ konst.Value t b → ⊥) → IsValueConst (tree_of_const ts k) → ⊥
not_value ts (konst.Param n) v i = i
not_value ts (konst.Placeholder n) v i = i
not_value ts (konst.Value t b) v i = v t b refl
not_value ts konst.Error v i = i
not_value ts (konst.Unevaluated n) v i = no_alias_value n.def_id (more (tree_at ts (let a = n.args in a.node)) empty) i
not_value ts (konst.Infer n) v i = i
not_value ts (konst.Bound n m) v i = i

-- no const that is a variable, or bound, is
pub not_evaluable : (j : Judgements) (e : Tree) (ts : List Tree) (k : ConstKind) → ((n : _) → k ≡ konst.Param n → ⊥) → ((p : _) → k ≡ konst.Placeholder p → ⊥) → ((t : _) (b : _) → k ≡ konst.Value t b → ⊥) → (k ≡ konst.Error → ⊥) → ((u : _) → k ≡ konst.Unevaluated u → ⊥) → IsEvaluable j e (tree_of_const ts k) → ⊥
not_evaluable j e ts (konst.Param n) p h v x u i = p n refl
not_evaluable j e ts (konst.Placeholder n) p h v x u i = h n refl
not_evaluable j e ts (konst.Value t b) p h v x u i = v t b refl
not_evaluable j e ts konst.Error p h v x u i = x refl
not_evaluable j e ts (konst.Unevaluated n) p h v x u i = u n refl
not_evaluable j e ts (konst.Infer n) p h v x u i = i
not_evaluable j e ts (konst.Bound n m) p h v x u i = i
