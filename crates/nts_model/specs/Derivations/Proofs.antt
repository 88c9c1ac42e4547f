-- Ranked proofs: finite lists of goals, each by a rule from others, where every cycle passes a coinductive step.
use Rattle.std.specs.Prelude.{◌≡◌, ◌⊎◌, ℕ, ◌<◌, List, [], ◌∷◌, Some, slice_get, map, Bool, true, false, IsTrue}
use Rattle.nts_model.specs.Terms.Trees.{Tree}
use Rattle.nts_model.specs.Terms.Substitutions.{Instance, instance_of}
use Rattle.nts_model.specs.Derivations.Related.{Constraint}
use Rattle.nts_model.specs.Lists.{Among}
use Rattle.nts_model.specs.Derivations.Sequents.{PathKind, coinductive, type_relating, Premise, Hidden, Sequent, IsOfTerms, AreOneBy, constraint_under, hidden_under, Grants, Hides, IsInstance}
use Rattle.nts_model.specs.Derivations.Rules.{Meaning, Mode, goal_kind, normalization, proof_kind, IsCoinductiveStep, IsRule}

-- the name of a node: its place in the tree of goals from which the list was made, the last turn first
abbrev pub Name : Type 0
Name = List ℕ

-- a step of a node: a premise, the node that serves it, and the instance of that node
pub record Step : Type 0 where
  pub premise : Premise
  pub target : Name
  pub instance : Instance

-- a goal of a ranked proof: its name, its rank, and the steps to what it rests on
pub record Node : Type 0 where
  pub name : Name
  pub sequent : Sequent
  pub rank : ℕ
  pub steps : List Step

-- the goal normalizes an alias
abbrev pub IsNormalization : Meaning → Tree → Type 0
IsNormalization m c = goal_kind m c ≡ normalization

-- what a node may rest on: the premises of its steps and, where it normalizes an alias, its open goals
abbrev pub RestsOn : Meaning → Node → Premise → Type 0
RestsOn m n p =
    ((s : Step) × Among n.steps s × (s.premise ≡ p))
    ⊎ (IsNormalization m n.sequent.predicate × Among n.sequent.open_goals p)

-- an open goal of a sequent, as a premise of what rests on an instance of the sequent
abbrev pub reopened : Instance → Premise → Premise
reopened ι g = record { source = type_relating; environment = instance_of ι g.environment; predicate = instance_of ι g.predicate }

-- an instance of a sequent serves a premise of a goal: its hypotheses are the goal's, and its open goals are
-- premises there
pub record Serves (at : Sequent) (Rests : Premise → Type 0) (ι : Instance) (s : Sequent) (p : Premise) : Type 0 where
  pub environment : AreOneBy at.constraints (instance_of ι s.environment) p.environment
  pub predicate : AreOneBy at.constraints (instance_of ι s.predicate) p.predicate
  pub constraints : (x : Constraint) → Among s.constraints x → Grants at (constraint_under ι x)
  pub hidden : (h : Hidden) → Among s.hidden h → Hides at (hidden_under ι h)
  pub open_goals : (g : Premise) → Among s.open_goals g → Rests (reopened ι g)

-- a step leads to a node of the list, an instance of which serves the premise; the node is of a lower rank, unless the
-- step is coinductive
pub record IsSoundStep (m : Meaning) (nodes : List Node) (at : Node) (s : Step) : Type 0 where
  pub node : Node
  pub found : Among nodes node
  pub named : node.name ≡ s.target
  pub serves : Serves at.sequent (RestsOn m at) s.instance node.sequent s.premise
  pub descends : IsCoinductiveStep (goal_kind m at.sequent.predicate) s.premise.source ⊎ (node.rank < at.rank)

-- the node, of terms, follows by a rule from what it rests on, where any values may be chosen
pub record IsJustified (m : Meaning) (mode : Mode) (n : Node) : Type 0 where
  pub terms : IsOfTerms n.sequent
  pub rule : IsRule m mode (λ t. Unit {0}) (Grants n.sequent) (Hides n.sequent) (RestsOn m n) n.sequent.environment n.sequent.predicate

-- a finite list of nodes, each of which is justified, and each of whose steps is sound
pub record IsRankedProof (m : Meaning) (mode : Mode) (nodes : List Node) : Type 0 where
  pub justified : (n : Node) → Among nodes n → IsJustified m mode n
  pub steps : (n : Node) (s : Step) → Among nodes n → Among n.steps s → IsSoundStep m nodes n s

-- the sequent is an instance of a node of a ranked proof
pub record HasProof (m : Meaning) (mode : Mode) (t : Sequent) : Type 0 where
  pub nodes : List Node
  pub first : Node
  pub instance : Instance
  pub ranked : IsRankedProof m mode nodes
  pub found : Among nodes first
  pub is_instance : IsInstance instance first.sequent t

-- an assumed sequent, that of a goal on the stack; `is_behind`: the steps from it to the goal at hand pass a coinductive one
pub record Assumed : Type 0 where
  pub sequent : Sequent
  pub is_behind : Bool

abbrev pub put_behind : Assumed → Assumed
put_behind a = record { sequent = a.sequent; is_behind = true }

-- after a coinductive step all assumptions are behind one
abbrev pub passed : PathKind → List Assumed → List Assumed
passed coinductive A = map put_behind A
passed k A = A

-- derivations relative to assumed sequents: trees of rules, each premise served by an instance of what is derived, or of
-- an assumption that is behind a coinductive step. A ranked proof may stand in the place of a part of the tree
mutual
  pub data Derives (m : Meaning) (mode : Mode) : List Assumed → Sequent → Type 0 where
    by_rule : {A : List Assumed} {s : Sequent} (ps : List Premise) → IsOfTerms s
        → IsRule m mode (λ t. Unit {0}) (Grants s) (Hides s) (λ p. Among ps p ⊎ (IsNormalization m s.predicate × Among s.open_goals p)) s.environment s.predicate
        → DerivesAll m mode A s ps ps → Derives m mode A s
    -- a node of a ranked proof is derived
    by_ranked : {A : List Assumed} (nodes : List Node) (first : Node) → IsRankedProof m mode nodes → Among nodes first → Derives m mode A first.sequent
    -- a goal may be assumed in its own derivation
    by_cycle : {A : List Assumed} {s : Sequent} → Derives m mode (record { sequent = s; is_behind = false } ∷ A) s → Derives m mode A s

  pub data DerivesAll (m : Meaning) (mode : Mode) : List Assumed → Sequent → List Premise → List Premise → Type 0 where
    all_derived : {A : List Assumed} {s : Sequent} {all : List Premise} → DerivesAll m mode A s all []
    by_derivation : {A : List Assumed} {s t : Sequent} {p : Premise} {all ps : List Premise} (ι : Instance)
        → Derives m mode (passed (proof_kind (goal_kind m s.predicate) p.source) A) t → Serves s (Among all) ι t p
        → DerivesAll m mode A s all ps → DerivesAll m mode A s all (p ∷ ps)
    by_assumption : {A : List Assumed} {s : Sequent} {p : Premise} {all ps : List Premise} (ι : Instance) (i : ℕ) (a : Assumed)
        → slice_get (passed (proof_kind (goal_kind m s.predicate) p.source) A) i ≡ Some a → IsTrue a.is_behind → Serves s (Among all) ι a.sequent p
        → DerivesAll m mode A s all ps → DerivesAll m mode A s all (p ∷ ps)

-- a derivation without cycles, assumptions and ranked proofs
abbrev mutual
  pub IsTree : {m : Meaning} {mode : Mode} {A : List Assumed} {s : Sequent} → Derives m mode A s → Type 0
  IsTree (by_rule ps terms r all) = AreTrees all
  IsTree (by_cycle d) = ⊥
  IsTree (by_ranked nodes first r i) = ⊥

  pub AreTrees : {m : Meaning} {mode : Mode} {A : List Assumed} {s : Sequent} {all ps : List Premise} → DerivesAll m mode A s all ps → Type 0
  AreTrees all_derived = Unit {0}
  AreTrees (by_derivation ι d serves rest) = IsTree d × AreTrees rest
  AreTrees (by_assumption ι i a found behind serves rest) = ⊥

-- a sound step that leads to a lower rank, though it may be coinductive
pub record FallsAt (m : Meaning) (nodes : List Node) (at : Node) (s : Step) : Type 0 where
  pub sound : IsSoundStep m nodes at s
  pub falls : sound.node.rank < at.rank

-- a ranked proof in which each step leads to a lower rank
pub record HasFallingProof (m : Meaning) (mode : Mode) (t : Sequent) : Type 0 where
  pub proof : HasProof m mode t
  pub falls : (n : Node) (s : Step) → Among proof.nodes n → Among n.steps s → FallsAt m proof.nodes n s
