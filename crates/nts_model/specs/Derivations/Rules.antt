-- Which goals follow from which: the rules of a handler and those of the engine.
use Rattle.std.specs.Prelude.{◌≡◌, ◌⊎◌, ℕ, ◌+◌, ◌==◌, List, [], Option, Some, None, Bool, true, false, IsTrue, if◌then◌else◌}
use Rattle.nts_model.specs.declared.labels.Sort.{Sort}
use Rattle.nts_model.specs.declared.labels.Variance.{Variance}
use Rattle.nts_model.specs.declared.labels.Variance.TheVariants as variance
use Rattle.nts_model.specs.declared.labels.Relation.TheVariants as relation
use Rattle.nts_model.specs.declared.labels.AliasRelationDirection.{AliasRelationDirection}
use Rattle.nts_model.specs.declared.labels.AliasRelationDirection.TheVariants as direction
use Rattle.nts_model.specs.declared.labels.Constant.{Constant}
use Rattle.nts_model.specs.declared.labels.Leaf.{Leaf}
use Rattle.nts_model.specs.declared.labels.Leaf.TheVariants as leaf
use Rattle.nts_model.specs.declared.labels.BoundVarIndexKind.TheVariants as index
use Rattle.nts_model.specs.declared.labels.ConstHead.TheVariants as konst
use Rattle.nts_model.specs.declared.labels.ClauseHead.TheVariants as clause
use Rattle.nts_model.specs.declared.labels.PredicateHead.TheVariants as predicate
use Rattle.nts_model.specs.declared.labels.ListHead.TheVariants as list
use Rattle.nts_model.specs.declared.labels.AliasHead.{AliasHead}
use Rattle.nts_model.specs.declared.labels.AliasHead.TheVariants as alias_of
use Rattle.nts_model.specs.declared.labels.Label.{Label}
use Rattle.nts_model.specs.declared.labels.Label.TheVariants as label
use Rattle.nts_model.specs.Terms.Trees.{Tree, empty, more, node, IsInRow, any_label, kind_of, binders, is_canonical, is_placeholder, sort_of_leaf, IsClosed, IsFormed}
use Rattle.nts_model.specs.Terms.Scoping.{IsWellBound}
use Rattle.nts_model.specs.Terms.Regions.{IsRegion}
use Rattle.nts_model.specs.Tables.Alike.{Alike}
use Rattle.nts_model.specs.Terms.Substitutions.{leaf_tree, Occurs}
use Rattle.nts_model.specs.Derivations.Related.{Constraint, pair, unbound, alias_goal, value, alias, IsAlias, Related, AreRelatedByArgument}
use Rattle.nts_model.specs.Lists.{Among}
use Rattle.nts_model.specs.Derivations.Sequents.{PathKind, coinductive, unknown, inductive, Source, normalize_goal, type_relating, impl_where_bound, Premise, Hidden}

-- the mode of a proof: which hidden types a goal may know
pub data Mode : Type 0 where
  coherence post_analysis erased : Mode
  analysis borrowck post_borrowck : List ℕ → Mode

-- what stands under a step: a goal of a coinductive trait, one that normalizes an alias, or another one
pub data GoalKind : Type 0 where
  coinductive_trait normalization other_goal : GoalKind

abbrev pub step_kind : GoalKind → Source → PathKind
step_kind k (normalize_goal p) = p
step_kind k type_relating = inductive
step_kind coinductive_trait impl_where_bound = coinductive
step_kind normalization impl_where_bound = inductive
step_kind k s = unknown

-- the kind of a step in a proof: only from a goal of a coinductive trait it may be coinductive
abbrev pub proof_kind : GoalKind → Source → PathKind
proof_kind coinductive_trait s = step_kind coinductive_trait s
proof_kind k s = inductive

-- two trees to be related, or to be alike
pub data Equation : Type 0 where
  related alike : Tree → Tree → Equation

-- one use of a clause of a handler: the chosen values, what they must equate, and what follows from what
pub record Application : Type 0 where
  pub environment : Tree
  pub conclusion : Tree
  pub values : List Tree
  pub equations : List Equation
  pub goals : List Premise
  pub constraints : List Constraint
  pub hidden : List Hidden

-- what a handler means: its rules, its fixed sets, and what it answers of well-formedness, item bounds,
-- consts and features; and the declared variances of constructors and types of consts
pub record Meaning : Type 1 where
  pub applies : Mode → Application → Type 0
  pub is_coinductive : ℕ → Bool
  pub is_dyn_compatible : ℕ → Bool
  pub well_formed_goals : Tree → Tree → Option (List Premise)
  pub item_bounds : Tree → Hidden → List Premise
  pub evaluates : Tree → Tree → Type 0
  pub allows : Tree → ℕ → Bool
  pub variances : ℕ → List Variance
  pub const_type : ℕ → Tree → Tree
  -- which clause of an environment gives a const that is no variable its type
  pub gives_type : Tree → Tree → Tree → Type 0

-- what a predicate says of its bound variables
abbrev pub statement_of : Tree → Tree
statement_of (node (label.List list.Binder) (more v (more s empty))) = s
statement_of t = empty

abbrev pub statement_kind : (ℕ → Bool) → Tree → GoalKind
statement_kind is_coinductive (node (label.Clause (clause.Trait i)) ts) = if is_coinductive i then coinductive_trait else other_goal
statement_kind is_coinductive (node (label.Predicate (predicate.NormalizesTo i)) ts) = normalization
statement_kind is_coinductive t = other_goal

abbrev pub goal_kind : Meaning → Tree → GoalKind
goal_kind m p = statement_kind m.is_coinductive (statement_of p)

-- a step that a cycle may rest on
abbrev pub IsCoinductiveStep : GoalKind → Source → Type 0
IsCoinductiveStep k s = proof_kind k s ≡ coinductive

-- a term that may be chosen: closed, formed, without positions of canonical values, and each bound variable is of the list of
-- its binder
pub record IsTerm (t : Tree) : Type 0 where
  pub formed : IsFormed t
  pub closed : IsClosed t
  pub no_positions : any_label is_canonical t ≡ false
  pub well_bound : IsWellBound t

-- each outermost alias without escaping bound variables replaced by a closed value of its own
pub data Replaced (Chosen : Tree → Tree → Type 0) : Tree → Tree → Type 0 where
  chosen : {a v : Tree} → IsAlias a → IsClosed v → Chosen a v → Replaced Chosen a v
  kept_empty : Replaced Chosen empty empty
  kept_more : {a b s t : Tree} → Replaced Chosen a b → Replaced Chosen s t → Replaced Chosen (more a s) (more b t)
  kept_node : {l : Label} {c d : Tree} → (IsAlias (node l c) → ⊥) → Replaced Chosen c d → Replaced Chosen (node l c) (node l d)

-- statements whose aliases stand as they are
abbrev pub KeepsAliases : Tree → Type 0
KeepsAliases (node (label.Clause clause.WellFormed) ts) = Unit {0}
KeepsAliases (node (label.Clause (clause.UnstableFeature f)) ts) = Unit {0}
KeepsAliases (node (label.Predicate (predicate.AliasRelate d)) ts) = Unit {0}
KeepsAliases (node (label.Predicate (predicate.NormalizesTo i)) ts) = Unit {0}
KeepsAliases t = ⊥

-- the premise that relates an alias of a premise with the value chosen for it
abbrev pub choice : GoalKind → Premise → Tree → Tree → Premise
choice k p a v =
    record { source = normalize_goal (step_kind k p.source); environment = p.environment; predicate = alias_goal variance.Invariant a v }

-- a premise stands as it is, or for its aliases related with chosen terms and itself with these put in
abbrev pub Stands : (Tree → Type 0) → (Premise → Type 0) → GoalKind → Premise → Type 0
Stands G P k p =
    KeepsAliases (statement_of p.predicate) × P p
    ⊎ (KeepsAliases (statement_of p.predicate) → ⊥)
    × ((u : Tree) × Replaced (λ a v. G v × P (choice k p a v) × IsTerm v) p.predicate u × P (record p { predicate = u }))

-- the bound variables of the binder that is c binders out replaced by leaves
abbrev pub opened_at : (Sort → ℕ → Leaf) → ℕ → Label → Tree → Tree
opened_at f c (label.Bound s (index.Bound d) n) t = if d == c then leaf_tree (f s n) else node (label.Bound s (index.Bound d) n) t
opened_at f c l t = node l t

abbrev pub opened : (Sort → ℕ → Leaf) → ℕ → Tree → Tree
opened f c empty = empty
opened f c (more a b) = more (opened f c a) (opened f c b)
opened f c (node l t) = opened_at f c l (opened f (c + binders l) t)

-- placeholders, one for each bound variable, that do not occur in a tree
pub record AreFresh (t : Tree) (f : Sort → ℕ → Leaf) : Type 0 where
  pub placeholders : (s : Sort) (n : ℕ) → is_placeholder (label.Leaf (f s n)) ≡ true
  pub sorts : (s : Sort) (n : ℕ) → sort_of_leaf (f s n) ≡ s
  pub distinct : (s : Sort) (n m : ℕ) → f s n ≡ f s m → n ≡ m
  pub absent : (s : Sort) (n : ℕ) → Occurs (f s n) t → ⊥

-- the statements about which a handler has rules
abbrev pub IsHandlers : Tree → Type 0
IsHandlers (node (label.Clause (clause.Trait i)) ts) = Unit {0}
IsHandlers (node (label.Clause (clause.HostEffect i)) ts) = Unit {0}
IsHandlers (node (label.Clause (clause.Projection i)) ts) = Unit {0}
IsHandlers (node (label.Predicate (predicate.NormalizesTo i)) ts) = Unit {0}
IsHandlers t = ⊥

abbrev pub relating : Tree → Tree → Premise
relating e p = record { source = type_relating; environment = e; predicate = p }

-- the goal that normalizes an alias to a term
abbrev pub normalization_goal : AliasHead → Tree → Tree → Tree
normalization_goal h ts v =
    unbound (node (label.Predicate (predicate.NormalizesTo h)) (pair (node (label.List list.Args) ts) v))

-- the result of a side of AliasRelate: itself, or what the alias normalizes to
abbrev pub IsResult : (Tree → Type 0) → (Premise → Type 0) → Tree → Tree → Tree → Type 0
IsResult G P e a r =
    (r ≡ a) × (IsAlias a → G a)
    ⊎ ((x : IsAlias a) × IsTerm r × G r × P (relating e (normalization_goal x.head x.parts r)) × (kind_of r ≡ kind_of a))

module _ (m : Meaning) (G : Tree → Type 0) (H : Constraint → Type 0) (P : Premise → Type 0) (e : Tree) where
  -- related in an environment, where G are the values that may be chosen, H the constraints and P the premises at hand
  abbrev pub RelatedIn : Variance → Tree → Tree → Type 0
  RelatedIn = Related m.variances G H (λ g. P (relating e g))

  -- two results are related: as trees, or as aliases of one head by their arguments, which are invariant, in either order
  abbrev pub AreResultsRelated : Variance → Tree → Tree → Type 0
  AreResultsRelated v a b =
      RelatedIn v a b
      ⊎ ((h : AliasHead) × (ts : Tree) × (us : Tree) × (a ≡ alias h ts) × (b ≡ alias h us)
      × (AreRelatedByArgument m.variances G H (λ g. P (relating e g)) v [] ts us ⊎ AreRelatedByArgument m.variances G H (λ g. P (relating e g)) v [] us ts))

abbrev pub variance_of : AliasRelationDirection → Variance
variance_of direction.Equate = variance.Invariant
variance_of direction.Subtype = variance.Covariant

-- the clause that a const has a type
abbrev pub const_clause : Tree → Tree → Tree
const_clause c t = unbound (node (label.Clause clause.ConstArgHasType) (pair c t))

-- one of the clauses gives the const this type; the first one that gives it a type does
abbrev pub SomeClauseGives : Tree → Tree → Tree → Type 0
SomeClauseGives es c t = IsInRow (const_clause c t) es

abbrev pub FirstClauseGives : Tree → Tree → Tree → Type 0
FirstClauseGives empty c t = ⊥
FirstClauseGives (more u us) c t = (u ≡ const_clause c t) ⊎ ((x : Tree) → u ≡ const_clause c x → ⊥) × FirstClauseGives us c t
FirstClauseGives (node l d) c t = ⊥

-- the rows of the engine as they stand: the first clause gives the type. Instances of its answers follow by any clause
abbrev pub strictly : Meaning → Meaning
strictly m = record m { gives_type = FirstClauseGives }

-- the type of a const that is no variable: a clause of the environment gives it to a parameter or placeholder
pub data HasConstType (m : Meaning) : Tree → Tree → Tree → Type 0 where
  of_value : {e t : Tree} {b : ℕ} → HasConstType m e (value b t) t
  of_alias : {e ts : Tree} {i : ℕ} → HasConstType m e (alias (alias_of.Const i) ts) (m.const_type i ts)
  of_constant : {es t : Tree} {c : Constant} → m.gives_type es (leaf_tree (leaf.ConstConstant c)) t
      → HasConstType m (node (label.List list.Env) es) (leaf_tree (leaf.ConstConstant c)) t

-- the const itself, which stands for itself if it is an alias, or what it normalizes to
abbrev pub IsConstResult : (Tree → Type 0) → (Premise → Type 0) → Tree → Tree → Tree → Type 0
IsConstResult G P e c r = (r ≡ c) × (IsAlias c → G c) ⊎ (IsAlias c × IsTerm r × G r × P (relating e (alias_goal variance.Invariant c r)))

abbrev pub const_error : Tree
const_error = node (label.Const konst.Error) empty

-- the engine's own rules, of statements that bind nothing: G are the values that may be chosen, H the own
-- constraints, P the premises
pub data IsBuiltIn (m : Meaning) (G : Tree → Type 0) (H : Constraint → Type 0) (P : Premise → Type 0) (e : Tree) : Tree → Type 0 where
  region_lives : {a b : Tree} → IsRegion a → IsRegion b → H (record { relation = relation.RegionOutlives; left = a; right = b })
      → IsBuiltIn m G H P e (node (label.Clause clause.RegionOutlives) (pair a b))
  type_lives : {t r : Tree} → IsRegion r → H (record { relation = relation.TypeOutlives; left = t; right = r })
      → IsBuiltIn m G H P e (node (label.Clause clause.TypeOutlives) (pair t r))
  subtyped : {a b : Tree} (x : Bool) → RelatedIn m G H P e variance.Covariant a b → IsBuiltIn m G H P e (node (label.Predicate (predicate.Subtype x)) (pair a b))
  coerced : {a b : Tree} → RelatedIn m G H P e variance.Covariant a b → IsBuiltIn m G H P e (node (label.Predicate predicate.Coerce) (pair a b))
  const_typed : {c t : Tree} (r u : Tree) → IsConstResult G P e c r → HasConstType m e r u → RelatedIn m G H P e variance.Invariant u t
      → IsBuiltIn m G H P e (node (label.Clause clause.ConstArgHasType) (pair c t))
  error_typed : {c t : Tree} → IsConstResult G P e c const_error → IsBuiltIn m G H P e (node (label.Clause clause.ConstArgHasType) (pair c t))
  allowed : {f : ℕ} → IsTrue (m.allows e f) → IsBuiltIn m G H P e (node (label.Clause (clause.UnstableFeature f)) empty)
  dyn_compatible : {i : ℕ} → IsTrue (m.is_dyn_compatible i) → IsBuiltIn m G H P e (node (label.Predicate (predicate.DynCompatible i)) empty)
  formed : {t : Tree} (gs : List Premise) → m.well_formed_goals e t ≡ Some gs → ((g : Premise) → Among gs g → P g)
      → IsBuiltIn m G H P e (node (label.Clause clause.WellFormed) (more t empty))
  constant_evaluated : {c : Constant} → IsBuiltIn m G H P e (node (label.Clause clause.ConstEvaluatable) (more (leaf_tree (leaf.ConstConstant c)) empty))
  value_evaluated : {b : ℕ} {t : Tree} → IsBuiltIn m G H P e (node (label.Clause clause.ConstEvaluatable) (more (value b t) empty))
  error_evaluated : IsBuiltIn m G H P e (node (label.Clause clause.ConstEvaluatable) (more const_error empty))
  alias_evaluated : {i : ℕ} {ts : Tree} → m.evaluates e (alias (alias_of.Const i) ts) → IsBuiltIn m G H P e (node (label.Clause clause.ConstEvaluatable) (more (alias (alias_of.Const i) ts) empty))
  aliases_relate : {a b : Tree} {d : AliasRelationDirection} (r s : Tree) → IsResult G P e a r → IsResult G P e b s → AreResultsRelated m G H P e (variance_of d) r s
      → IsBuiltIn m G H P e (node (label.Predicate (predicate.AliasRelate d)) (pair a b))

-- an equation holds
abbrev pub HoldsEquation : Meaning → (Tree → Type 0) → (Constraint → Type 0) → (Premise → Type 0) → Tree → Equation → Type 0
HoldsEquation m G H P e (related a b) = RelatedIn m G H P e variance.Invariant a b
HoldsEquation m G H P e (alike a b) = Alike (λ x y. H (record { relation = relation.Equal; left = x; right = y })) a b

-- a use of a clause whose values are terms that may be chosen, whose equations hold, and whose goals, item bounds, constraints
-- and hidden types are at hand
pub record IsApplied (m : Meaning) (mode : Mode) (G : Tree → Type 0) (H : Constraint → Type 0) (D : Hidden → Type 0) (P : Premise → Type 0) (e c : Tree) : Type 0 where
  pub use_of : Application
  pub applies : m.applies mode use_of
  pub environment : use_of.environment ≡ e
  pub conclusion : use_of.conclusion ≡ c
  pub values : (v : Tree) → Among use_of.values v → G v × IsTerm v
  pub equations : (q : Equation) → Among use_of.equations q → HoldsEquation m G H P e q
  pub goals : (g : Premise) → Among use_of.goals g → P g
  pub constraints : (x : Constraint) → Among use_of.constraints x → H x
  pub hidden : (h : Hidden) → Among use_of.hidden h → D h
  pub item_bounds : (h : Hidden) (g : Premise) → Among use_of.hidden h → Among (m.item_bounds e h) g → P g

-- a rule for a statement that binds nothing: the handler's or the engine's. A premise stands for the values of
-- its aliases too
abbrev pub IsPlainRule : Meaning → Mode → (Tree → Type 0) → (Constraint → Type 0) → (Hidden → Type 0) → (Premise → Type 0) → Tree → Tree → Type 0
IsPlainRule m mode G H D P e s =
    IsHandlers s × IsApplied m mode G H D (Stands G P (goal_kind m (unbound s))) e (unbound s)
    ⊎ IsBuiltIn m G H (Stands G P (goal_kind m (unbound s))) e s

-- a predicate whose bound variables have these sorts
abbrev pub bound : Tree → Tree → Tree
bound sorts s = node (label.List list.Binder) (pair (node (label.List list.Sorts) sorts) s)

-- a rule: one for what the predicate says, or for that with fresh placeholders in place of its bound variables
abbrev pub IsRule : Meaning → Mode → (Tree → Type 0) → (Constraint → Type 0) → (Hidden → Type 0) → (Premise → Type 0) → Tree → Tree → Type 0
IsRule m mode G H D P e c =
    ((s : Tree) × (c ≡ unbound s) × IsPlainRule m mode G H D P e s)
    ⊎ ((sorts : Tree) × (s : Tree) × (f : Sort → ℕ → Leaf)
    × (c ≡ bound sorts s) × AreFresh (pair e c) f × IsPlainRule m mode G H D P e (opened f 0 s))

-- a meaning by its rules, its coinductive traits and the declared variances alone
abbrev pub meaning_of : (Mode → Application → Type 0) → (ℕ → Bool) → (ℕ → List Variance) → Meaning
meaning_of applies is_coinductive variances =
    record {
      applies = applies;
      is_coinductive = is_coinductive;
      is_dyn_compatible = λ i. false;
      well_formed_goals = λ e t. None;
      item_bounds = λ e h. [];
      evaluates = λ e t. ⊥;
      allows = λ e f. false;
      variances = variances;
      const_type = λ i t. t;
      gives_type = SomeClauseGives;
    }
