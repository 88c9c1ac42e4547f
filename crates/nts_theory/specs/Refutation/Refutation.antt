-- What is proved in coherence without aliases: in solutions none stands for a variable, and in proofs none is chosen.
use Rattle.std.specs.Prelude.{List, [], length, Some, true, false, ◌≡◌, ◌⊎◌, ℕ, ◌+◌}
use Rattle.nts_model.specs.declared.labels.VariableKind.{VariableKind}
use Rattle.nts_model.specs.declared.labels.Sort.{Sort}
use Rattle.nts_model.specs.declared.labels.Leaf.{Leaf}
use Rattle.nts_model.specs.declared.labels.Leaf.TheVariants as leaf
use Rattle.nts_model.specs.declared.labels.Label.{Label}
use Rattle.nts_model.specs.declared.labels.Label.TheVariants as label
use Rattle.nts_model.specs.Terms.Trees.{Tree, empty, more, node, kind_of, IsClosed, IsFormed}
use Rattle.nts_model.specs.Terms.Placeholders.{leaf_level}
use Rattle.nts_model.specs.Tables.Levels.{NamesAll}
use Rattle.nts_model.specs.Terms.Substitutions.{leaf_tree, Occurs, Instance, instance_of, Renaming, rename, IsPlain}
use Rattle.nts_model.specs.declared.labels.AliasRelationDirection.TheVariants as direction
use Rattle.nts_model.specs.Derivations.Related.{Constraint, pair, unbound, IsAlias}
use Rattle.nts_theory.specs.Aliasing.{alias_relation}
use Rattle.nts_model.specs.Lists.{Among}
use Rattle.nts_model.specs.Derivations.Sequents.{Premise, constraint_under}
use Rattle.nts_model.specs.Derivations.Rules.{coherence, Meaning, strictly, statement_of, AreFresh, Equation, related, alike, Application, KeepsAliases, IsHandlers, IsRule, Replaced, opened, bound, normalization_goal}
use Rattle.nts_model.specs.Derivations.Proofs.{Node, IsRankedProof}
use Rattle.nts_model.specs.Refutation.Opening.{placeholder_in}
use Rattle.nts_model.specs.Refutation.Choosing.{left_of, right_of}
use Rattle.nts_model.specs.Derivations.Handlers.{Handler, Judgements, meaning}
use Rattle.nts_model.specs.Tables.Contents.{Content}
use Rattle.nts_model.specs.Tables.Resolving.{deeply_resolved}
use Rattle.nts_model.specs.Tables.Worlds.{World, inst, Agrees}
use Rattle.nts_model.specs.declared.labels.Variance.{Variance}
use Rattle.nts_model.specs.Refutation.Containing.{IsNoAlias, IsAliasFree, Truth, IsTrueBy, IsSolution, IsGroundLabel, AreGround}
use Rattle.nts_model.specs.Tables.Passing.{AllLabels}
use Rattle.nts_theory.specs.Affirming.{IsDenied, SaysOfTwo, is_well_formed}
use Rattle.nts_theory.specs.RelatingCandidates.{may_be_argument, AreTypesApart}
use Rattle.nts_variance_model.specs.Variances.SettledProofs.{IsReached, GrantsAt, HidesAt, RestsOnAt}
use Rattle.nts_variance_model.specs.Variances.Leaving.{IsErased}
use Rattle.nts_model.specs.declared.labels.FreeRegion.{FreeRegion}

-- no alias stands for a leaf of the term
abbrev pub IsPlainFor : World → Tree → Type 0
IsPlainFor w t = (l : Leaf) → Occurs l t → IsAliasFree (inst w (leaf_tree l))

-- no alias stands in a tree. Leaves and bound variables have no parts, and what stands there does not count
abbrev pub IfItHasParts : Label → Type 0 → Type 0
IfItHasParts (label.Leaf x) T = Unit {0}
IfItHasParts (label.Bound s i n) T = Unit {0}
IfItHasParts l T = T

abbrev pub HasNoAlias : Tree → Type 0
HasNoAlias empty = Unit {0}
HasNoAlias (more a b) = HasNoAlias a × HasNoAlias b
HasNoAlias (node l c) = IsNoAlias l × IfItHasParts l (HasNoAlias c)

-- a goal that is asked as it stands: what it says has no alias, or its aliases stay
abbrev pub StandsAsIs : Tree → Type 0
StandsAsIs g = HasNoAlias (statement_of g) ⊎ KeepsAliases (statement_of g)

-- the sides of an equation are no arguments, or have no alias; or they are alike
abbrev pub HasPlainSides : Equation → Type 0
HasPlainSides (related a b) = (may_be_argument (kind_of b) ≡ false) ⊎ HasNoAlias a × HasNoAlias b
HasPlainSides (alike a b) = Unit {0}

-- nothing stands below leaves
abbrev pub IfBare : Label → Tree → Type 0 → Type 0
IfBare (label.Leaf x) c T = c ≡ empty
IfBare l c T = T

abbrev pub HasBareLeaves : Tree → Type 0
HasBareLeaves empty = Unit {0}
HasBareLeaves (more a b) = HasBareLeaves a × HasBareLeaves b
HasBareLeaves (node l c) = IfBare l c (HasBareLeaves c)

-- a goal is proved with terms without aliases in the places of its outermost aliases, each of which is proved to be equal to its alias
pub record IsProvedWithValues (Proves : Tree → Tree → Type 0) (e g : Tree) : Type 0 where
  pub goal : Tree
  pub bare : HasBareLeaves g
  pub values : Replaced (λ a v. IsAliasFree v × Proves e (alias_relation direction.Equate a v)) g goal
  pub proved : Proves e goal

-- what is granted of a goal: it has no region variables; it is proved if it is asked as it stands; and if its aliases don't stay, it is
-- proved with values in their places
pub record IsGranted (Proves : Tree → Tree → Type 0) (e g : Tree) : Type 0 where
  pub ground : AllLabels IsGroundLabel (pair e g)
  pub proved : StandsAsIs g → Proves e g
  pub with_values : (KeepsAliases (statement_of g) → ⊥) → IsProvedWithValues Proves e g

-- .. where nothing is known of one that is not asked as it stands
pub record IsGrantedAsIs (Proves : Tree → Tree → Type 0) (e g : Tree) : Type 0 where
  pub ground : AllLabels IsGroundLabel (pair e g)
  pub proved : StandsAsIs g → Proves e g

-- a goal that is taken as it stands: one that is asked so, or that a handler's rules say
abbrev pub IsTakenAsIs : Tree → Type 0
IsTakenAsIs g = StandsAsIs g ⊎ IsHandlers (statement_of g)

-- what is granted of a goal that is asked: it is proved too if a handler's rules say it, with the aliases that stand in it
pub record IsGrantedAsAsked (Proves : Tree → Tree → Type 0) (e g : Tree) : Type 0 where
  pub ground : AllLabels IsGroundLabel (pair e g)
  pub proved : IsTakenAsIs g → Proves e g

-- a renaming that keeps variables, and the regions that stay
pub record IsCarrying (ρ : Renaming) : Type 0 where
  pub plain : IsPlain ρ
  pub variables : (k : VariableKind) (n : ℕ) → ρ.to (leaf.Variable k n) ≡ leaf.Variable k n

-- which types and regions outlive which regions does not depend on the names of constants and regions; erased and error regions stand to
-- themselves alone
pub record IsFair (truth : Truth) : Type 0 where
  pub renamed : (ρ : Renaming) → IsCarrying ρ → (a b : Tree) → truth (rename ρ a) (rename ρ b) ≡ truth a b
  pub alone : (r : FreeRegion) → IsErased r → (a : Tree) → (truth a (leaf_tree (leaf.Region r)) ≡ true) ⊎ (truth (leaf_tree (leaf.Region r)) a ≡ true) → a ≡ leaf_tree (leaf.Region r)

-- the handler is right about leaks where this is what outlives what: what its leak check says can't be met has no solution
pub record RespectsLeaks (h : Handler) (truth : Truth) : Type 0 where
  pub none : (c : Content) (u : ℕ) (w : World) → h.leaks c u → IsSolution truth u c w → ⊥

-- an alias is granted to normalize to a closed term of its kind, in which no alias stands
pub record IsNormalAlias (Granted : Tree → Tree → Type 0) (e a t : Tree) : Type 0 where
  pub alias : IsAlias a
  pub ends : IsClosed t
  pub none : HasNoAlias t
  pub kind : kind_of t ≡ kind_of a
  pub granted : Granted e (normalization_goal alias.head alias.parts t)

-- the first tree is the second, once aliases in it gave place to terms that they normalize to
pub data ComesTo (R : Tree → Tree → Type 0) : Tree → Tree → Type 0 where
  same_tree : {t : Tree} → ComesTo R t t
  by_alias : {a t : Tree} → R a t → ComesTo R a t
  by_row : {a b s t : Tree} → ComesTo R a b → ComesTo R s t → ComesTo R (more a s) (more b t)
  by_node : {l : Label} {c d : Tree} → ComesTo R c d → ComesTo R (node l c) (node l d)

-- no alias stands in a tree, but for those with escaping bound variables
abbrev pub HasNoClosedAlias : Tree → Type 0
HasNoClosedAlias empty = Unit {0}
HasNoClosedAlias (more a b) = HasNoClosedAlias a × HasNoClosedAlias b
HasNoClosedAlias (node l c) = (IsClosed (node l c) → IsNoAlias l) × HasNoClosedAlias c

-- two trees come to one formed tree
pub record ComeTogether (R : Tree → Tree → Type 0) (a b : Tree) : Type 0 where
  pub term : Tree
  pub formed : IsFormed term
  pub settled : HasNoClosedAlias term
  pub left : ComesTo R a term
  pub right : ComesTo R b term

-- .. where what aliases normalize to in an environment is granted
abbrev pub AreMadeOne : (Tree → Tree → Type 0) → Tree → Tree → Tree → Type 0
AreMadeOne Granted e a b = ComeTogether (IsNormalAlias Granted e) a b

-- trees as they are, or with other names
pub data Carrier : Type 0 where
  unmoved : Carrier
  moves : (ρ : Renaming) → IsCarrying ρ → Carrier

abbrev pub carry : Carrier → Tree → Tree
carry unmoved t = t
carry (moves ρ k) t = rename ρ t

-- two aliases are proved to normalize to one closed term of their kind, in which no alias stands
pub record NormalizeToOne (Proves : Tree → Tree → Type 0) (e a b : Tree) : Type 0 where
  pub left : IsAlias a
  pub right : IsAlias b
  pub term : Tree
  pub ends : IsClosed term
  pub free : IsAliasFree term
  pub kind : kind_of term ≡ kind_of a
  pub kind_too : kind_of term ≡ kind_of b
  pub first : Proves e (normalization_goal left.head left.parts term)
  pub second : Proves e (normalization_goal right.head right.parts term)

-- a use of a clause, carried over to other names: its values have no aliases, its equations are equalities, as far as no alias stands in
-- them, and the sides of the others come to one tree; it equates no types that are apart, its constraints are true, and its goals are
-- granted
pub record UsesClause (h : Handler) (truth : Truth) (Proves : Tree → Tree → Type 0) (e s : Tree) : Type 0 where
  pub use_of : Application
  pub carrier : Carrier
  pub applies : h.applies coherence use_of
  pub formed : IsFormed (pair use_of.environment use_of.conclusion)
  pub environment : carry carrier use_of.environment ≡ e
  pub conclusion : carry carrier use_of.conclusion ≡ unbound s
  pub values : (v : Tree) → Among use_of.values v → IsAliasFree v
  pub equal : (q : Equation) → Among use_of.equations q → HasPlainSides q → left_of q ≡ right_of q
  pub aliased : (a b : Tree) → Among use_of.equations (related a b) → IsFormed a → AreMadeOne (IsGranted Proves) e (carry carrier a) (carry carrier b)
  pub apart : (a b : Tree) → Among use_of.equations (related a b) → AreTypesApart a b → ⊥
  pub met : (x : Constraint) → Among use_of.constraints x → IsTrueBy truth x.relation (carry carrier x.left) (carry carrier x.right)
  pub goals : (p : Premise) → Among use_of.goals p → IsGranted Proves (carry carrier p.environment) (carry carrier p.predicate)

-- .. whose values the universe u names
pub record UsesNamed (h : Handler) (truth : Truth) (Proves : Tree → Tree → Type 0) (u : ℕ) (e s : Tree) : Type 0 where
  pub uses : UsesClause h truth Proves e s
  pub named : (v : Tree) → (let a = uses.use_of in Among a.values v) → NamesAll leaf_level u (carry uses.carrier v)

-- a predicate that binds variables
abbrev pub binding : Tree → Tree → Tree → Tree
binding x xs s = bound (more x xs) s

-- the predicates that the handler names for a term are granted, where a statement says that the term is well formed
abbrev pub GrantsFormed : Judgements → (Tree → Tree → Type 0) → Tree → Tree → Type 0
GrantsFormed j Proves e s = (t : Tree) (ps : List Tree) → s ≡ is_well_formed t → j.well_formed e t ≡ Some ps → (p : Tree) → Among ps p → IsGranted Proves e p

-- what is proved: terms without region variables. Names of constants and regions play no part, and each goal that a handler's rules say follows by a
-- use of a clause, as it stands or with the placeholders of a new universe for what it binds. What is proved to outlive a region does,
-- and what is a value's type is, if no alias stands there; what an alias is equal to, in which none stands, it normalizes to, and is of its
-- kind; two aliases that are equal normalize to one term; what is well formed is so by predicates that are granted; and nothing is
-- proved that the handler denies
pub record IsTheory (h : Handler) (truth : Truth) (Proves : Tree → Tree → Type 0) : Type 0 where
  pub ground : AreGround Proves
  pub kept : (ρ : Renaming) → IsCarrying ρ → (e g : Tree) → Proves e g → Proves (rename ρ e) (rename ρ g)
  pub says : (e s : Tree) (y : Constraint) → Proves e (unbound s) → SaysOfTwo y s → IsClosed s → HasNoAlias s → IsTrueBy truth y.relation y.left y.right
  pub denies : (e g : Tree) → Proves e g → IsDenied h.judges (statement_of g) → ⊥
  pub says_opened : (u : ℕ) (e x xs s : Tree) (y : Constraint) → Proves e (binding x xs s) → SaysOfTwo y (opened (placeholder_in (u + 1)) 0 s) → NamesAll leaf_level u (pair e s) → HasNoAlias s → IsTrueBy truth y.relation y.left y.right
  pub formed : (e s : Tree) → Proves e (unbound s) → IsClosed s → GrantsFormed h.judges Proves e s
  pub equates : (e a t : Tree) (x : IsAlias a) → Proves e (alias_relation direction.Equate a t) ⊎ Proves e (alias_relation direction.Equate t a) → IsClosed t → HasNoAlias t → Proves e (normalization_goal x.head x.parts t) × (kind_of t ≡ kind_of a)
  pub equates_both : (e a b : Tree) → IsAlias a → IsAlias b → Proves e (alias_relation direction.Equate a b) → NormalizeToOne Proves e a b
  pub formed_opened : (u : ℕ) (e x xs s : Tree) → Proves e (binding x xs s) → NamesAll leaf_level u (pair e s) → GrantsFormed h.judges Proves e (opened (placeholder_in (u + 1)) 0 s)
  pub plain : (u : ℕ) (e s : Tree) → Proves e (unbound s) → IsHandlers s → IsClosed s → NamesAll leaf_level u (pair e s) → UsesNamed h truth Proves u e s
  pub opened : (u : ℕ) (e x xs s : Tree) → Proves e (binding x xs s) → IsHandlers (opened (placeholder_in (u + 1)) 0 s) → IsFormed (opened (placeholder_in (u + 1)) 0 s) → NamesAll leaf_level u (pair e s)
      → UsesNamed h truth Proves (u + 1) e (opened (placeholder_in (u + 1)) 0 s)

-- that two terms are equal is proved, either way round, if the one is an alias, and what it normalizes to is the other, or what that
-- normalizes to
abbrev pub JoinsEqualities : (Tree → Tree → Type 0) → Type 0
JoinsEqualities Proves = (e a b t : Tree) → IsNormalAlias (IsGranted Proves) e a t → (b ≡ t) ⊎ IsNormalAlias (IsGranted Proves) e b t
    → Proves e (alias_relation direction.Equate a b) × Proves e (alias_relation direction.Equate b a)

-- what a goal that binds variables says of two terms is so with fresh placeholders for them
pub record SaysOpened (truth : Truth) (e c s : Tree) : Type 0 where
  pub fresh : Sort → ℕ → Leaf
  pub are_fresh : AreFresh (pair e c) fresh
  pub holds : (y : Constraint) → SaysOfTwo y (opened fresh 0 s) → IsTrueBy truth y.relation y.left y.right

-- a term is well formed with fresh placeholders for what the goal binds
pub record FormedOpened (h : Handler) (Proves : Tree → Tree → Type 0) (e c s : Tree) : Type 0 where
  pub fresh : Sort → ℕ → Leaf
  pub are_fresh : AreFresh (pair e c) fresh
  pub goals : GrantsFormed h.judges Proves e (opened fresh 0 s)

-- a goal that binds variables follows with fresh placeholders for them
pub record UsesOpened (h : Handler) (truth : Truth) (Proves : Tree → Tree → Type 0) (e c s : Tree) : Type 0 where
  pub fresh : Sort → ℕ → Leaf
  pub are_fresh : AreFresh (pair e c) fresh
  pub uses : UsesClause h truth Proves e (opened fresh 0 s)

-- proved goals are terms without region variables, each goal that a handler's rules say follows by a use of a clause, what is proved of two terms
-- without aliases is so, what is well formed is so by predicates that are granted, and nothing is proved that the handler denies
pub record AreUsed (h : Handler) (truth : Truth) (Proves : Tree → Tree → Type 0) : Type 0 where
  pub ground : AreGround Proves
  pub plain : (e s : Tree) → Proves e (unbound s) → IsHandlers s → IsClosed s → UsesClause h truth Proves e s
  pub opened : (e x xs s : Tree) → Proves e (binding x xs s) → IsHandlers s → UsesOpened h truth Proves e (binding x xs s) s
  pub says : (e s : Tree) (y : Constraint) → Proves e (unbound s) → SaysOfTwo y s → IsClosed s → HasNoAlias s → IsTrueBy truth y.relation y.left y.right
  pub denies : (e g : Tree) → Proves e g → IsDenied h.judges (statement_of g) → ⊥
  pub says_opened : (e x xs s : Tree) → Proves e (binding x xs s) → HasNoAlias s → SaysOpened truth e (binding x xs s) s
  pub formed : (e s : Tree) → Proves e (unbound s) → IsClosed s → GrantsFormed h.judges Proves e s
  pub equates : (e a t : Tree) (x : IsAlias a) → Proves e (alias_relation direction.Equate a t) ⊎ Proves e (alias_relation direction.Equate t a) → IsClosed t → HasNoAlias t → Proves e (normalization_goal x.head x.parts t) × (kind_of t ≡ kind_of a)
  pub equates_both : (e a b : Tree) → IsAlias a → IsAlias b → Proves e (alias_relation direction.Equate a b) → NormalizeToOne Proves e a b
  pub formed_opened : (e x xs s : Tree) → Proves e (binding x xs s) → FormedOpened h Proves e (binding x xs s) s

-- an instance that leaves no region variable: each has been assigned a free region
pub record IsGroundInstance (ι : Instance) : Type 0 where
  pub ground : (l : Leaf) → AllLabels IsGroundLabel (ι.value l)

-- at the instance the node follows by the rules as they stand, and no alias stands in the values that are chosen
abbrev pub FollowsPlainly : Meaning → Node → Instance → Type 0
FollowsPlainly m n κ =
    IsRule (strictly m) coherence IsAliasFree (GrantsAt n κ) (HidesAt n κ) (RestsOnAt m n κ)
    (instance_of κ n.sequent.environment) (instance_of κ n.sequent.predicate)

-- a node of a plain proof: a ranked proof in which it is so at every instance to which the steps lead from there, and whose region
-- constraints are true
pub record PlainNode (m : Meaning) (Holds : Constraint → Type 0) : Type 0 where
  pub nodes : List Node
  pub node : Node
  pub at : Instance
  pub found : Among nodes node
  pub ranked : IsRankedProof m coherence nodes
  pub plain : (n : Node) (κ : Instance) → IsReached m nodes node at n κ → FollowsPlainly m n κ
  pub true : (x : Constraint) → Among node.sequent.constraints x → Holds (constraint_under at x)

-- a plain proof of a goal, without other hypotheses, at an instance that leaves no region variable
pub record HasMetProof (m : Meaning) (truth : Truth) (e g : Tree) : Type 0 where
  pub proof : PlainNode m (λ x. IsTrueBy truth x.relation x.left x.right)
  pub environment : instance_of proof.at proof.node.sequent.environment ≡ e
  pub predicate : instance_of proof.at proof.node.sequent.predicate ≡ g
  pub no_hidden : proof.node.sequent.hidden ≡ []
  pub no_open_goals : proof.node.sequent.open_goals ≡ []
  pub ground : IsGroundInstance proof.at

-- no alias stands for what is left of the goal's variables, as the table knows it
abbrev pub IsPlainIn : Content → World → Tree → Tree → Type 0
IsPlainIn c w e g = IsPlainFor w (pair (deeply_resolved c e) (deeply_resolved c g))

-- a goal has no solution in a table: in none of the table's solutions in which no alias stands for what is left of it has it a plain
-- proof whose constraints are true
pub record HasNoSolutionIn (h : Handler) (c : Content) (e g : Tree) : Type 0 where
  pub none : (truth : Truth) → IsFair truth → RespectsLeaks h truth → (v : ℕ → List Variance) (w : World) → IsSolution truth c.universe c w → IsPlainIn c w e g → HasMetProof (meaning h v) truth (inst w e) (inst w g) → ⊥

-- .. and a later table loses none: each solution in which the goal has such a proof extends to one of the later table
pub record KeepsSolutionsOf (h : Handler) (c d : Content) (e g : Tree) : Type 0 where
  pub each : (truth : Truth) → IsFair truth → RespectsLeaks h truth → (v : ℕ → List Variance) (w : World) → IsSolution truth c.universe c w → IsPlainIn c w e g → HasMetProof (meaning h v) truth (inst w e) (inst w g)
      → (later : World) × Agrees (length c.slots) w later × IsSolution truth c.universe d later
