-- Settled trees and settled proofs.
use Rattle.std.specs.Prelude.{◌≡◌, ◌⊎◌, List, []}
use Rattle.nts_model.specs.declared.labels.Relation.TheVariants as relation
use Rattle.nts_model.specs.declared.labels.AliasHead.{AliasHead}
use Rattle.nts_model.specs.Terms.Trees.{Tree, kind_of}
use Rattle.nts_model.specs.Tables.Alike.{Alike}
use Rattle.nts_model.specs.Terms.Substitutions.{Instance, instance_of}
use Rattle.nts_model.specs.Derivations.Related.{Constraint, alias}
use Rattle.nts_model.specs.Lists.{Among}
use Rattle.nts_model.specs.Derivations.Sequents.{Premise, Hidden, IsTrivial, constraint_under, hidden_under, premise_under}
use Rattle.nts_model.specs.Derivations.Rules.{Meaning, Mode, strictly, goal_kind, normalization, IsRule, normalization_goal}
use Rattle.nts_model.specs.Derivations.Proofs.{Node, Step, IsSoundStep, IsRankedProof}
use Rattle.nts_variance_model.specs.Variances.Judging.{Judging, AllStand}

-- two trees are one but for regions that constraints of the list make one
abbrev pub AreAlikeBy : List Constraint → Tree → Tree → Type 0
AreAlikeBy cs = Alike (λ x y. Among cs (record { relation = relation.Equal; left = x; right = y }))

-- an alias stands for itself: a rule without premises and constraints says so, and no rule says another thing but for
-- regions that its own constraints make one
pub record StandsForItself (m : Meaning) (mode : Mode) (e a : Tree) : Type 0 where
  pub stands : (h : AliasHead) (ts : Tree) → a ≡ alias h ts
      → IsRule (strictly m) mode (λ t. Unit {0}) (λ x. ⊥) (λ h. ⊥) (λ p. ⊥) e (normalization_goal h ts a)
  pub alone : (h : AliasHead) (ts v : Tree) (cs : List Constraint) → a ≡ alias h ts
      → IsRule (strictly m) mode (λ t. Unit {0}) (λ x. IsTrivial x ⊎ Among cs x) (λ h. Unit {0}) (λ p. Unit {0}) e (normalization_goal h ts v) → AreAlikeBy cs v a

-- a settled tree, in an environment
abbrev pub IsSettledIn : Meaning → Mode → Tree → Tree → Type 0
IsSettledIn m mode e = AllStand (StandsForItself m mode e)

-- a node at an instance is reached from another by steps, each to a node that serves its premise, the instances composed
abbrev pub IsAfter : Instance → Instance → Instance → Type 0
IsAfter ι κ both = (t : Tree) → instance_of both t ≡ instance_of ι (instance_of κ t)

pub data IsReached (m : Meaning) (nodes : List Node) (first : Node) (ι : Instance) : Node → Instance → Type 0 where
  start : IsReached m nodes first ι first ι
  onward : {n : Node} {κ : Instance} (s : Step) (to : IsSoundStep m nodes n s) (both : Instance) → IsReached m nodes first ι n κ
      → Among n.steps s → IsAfter κ s.instance both → IsReached m nodes first ι to.node both

-- what a node grants, hides and rests on at an instance
abbrev pub GrantsAt : Node → Instance → Constraint → Type 0
GrantsAt n κ x = IsTrivial x ⊎ ((y : Constraint) × Among n.sequent.constraints y × (constraint_under κ y ≡ x))

abbrev pub HidesAt : Node → Instance → Hidden → Type 0
HidesAt n κ h = (h.key ≡ h.hidden_type) ⊎ ((o : Hidden) × Among n.sequent.hidden o × (hidden_under κ o ≡ h))

abbrev pub RestsOnAt : Meaning → Node → Instance → Premise → Type 0
RestsOnAt m n κ p =
    ((s : Step) × Among n.steps s × (premise_under κ s.premise ≡ p))
    ⊎ ((goal_kind m (instance_of κ n.sequent.predicate) ≡ normalization) × ((q : Premise) × Among n.sequent.open_goals q × (premise_under κ q ≡ p)))

-- at the instance the node follows by the rules as they stand, and with settled values
abbrev pub FollowsSettled : Meaning → Mode → Node → Instance → Type 0
FollowsSettled m mode n κ =
    IsRule (strictly m) mode (IsSettledIn m mode (instance_of κ n.sequent.environment)) (GrantsAt n κ) (HidesAt n κ) (RestsOnAt m n κ)
    (instance_of κ n.sequent.environment) (instance_of κ n.sequent.predicate)

-- a node of a settled proof: a ranked proof that is settled at every instance to which the steps lead from there, and whose
-- region constraints are true
pub record SettledNode (m : Meaning) (mode : Mode) (Holds : Constraint → Type 0) : Type 0 where
  pub nodes : List Node
  pub node : Node
  pub at : Instance
  pub found : Among nodes node
  pub ranked : IsRankedProof m mode nodes
  pub settled : (n : Node) (κ : Instance) → IsReached m nodes node at n κ → FollowsSettled m mode n κ
  pub true : (x : Constraint) → Among node.sequent.constraints x → Holds (constraint_under at x)

-- .. that proves a goal in an environment
pub record ProvesSettled (m : Meaning) (mode : Mode) (Holds : Constraint → Type 0) (e g : Tree) : Type 0 where
  pub proof : SettledNode m mode Holds
  pub environment : instance_of proof.at proof.node.sequent.environment ≡ e
  pub predicate : instance_of proof.at proof.node.sequent.predicate ≡ g

-- a goal with a settled proof whose constraints are true, without other hypotheses
pub record HasSettledProof (m : Meaning) (mode : Mode) (Holds : Constraint → Type 0) (e g : Tree) : Type 0 where
  pub proves : ProvesSettled m mode Holds e g
  pub no_hidden : proves.proof.node.sequent.hidden ≡ []
  pub no_open_goals : proves.proof.node.sequent.open_goals ≡ []

-- the open goals of a node, at its instance, have settled proofs too
abbrev pub ServesOpenGoals : (m : Meaning) (mode : Mode) (Holds : Constraint → Type 0) → SettledNode m mode Holds → Type 0
ServesOpenGoals m mode Holds p = (g : Premise) → Among p.node.sequent.open_goals g → ProvesSettled m mode Holds (instance_of p.at g.environment) (instance_of p.at g.predicate)

-- an alias normalizes to a tree of its kind by a settled proof, whose open goals its user served
pub record NormalizesSettled (m : Meaning) (mode : Mode) (Holds : Constraint → Type 0) (e a v : Tree) : Type 0 where
  pub head : AliasHead
  pub parts : Tree
  pub is : a ≡ alias head parts
  pub proves : ProvesSettled m mode Holds e (normalization_goal head parts v)
  pub open_goals : ServesOpenGoals m mode Holds proves.proof
  pub kind : kind_of v ≡ kind_of a

-- what settled proofs in an environment judge
abbrev pub judging : Meaning → Mode → (Constraint → Type 0) → Tree → Judging
judging m mode Holds e =
    record { declared = m.variances; stands = StandsForItself m mode e; holds = Holds; normal = NormalizesSettled m mode Holds e }
