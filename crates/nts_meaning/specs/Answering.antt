-- What a query's table answers, and what evaluating a goal leaves of the table that asked.
use Rattle.std.specs.Global.{Vec, Box}
use Rattle.std.specs.Prelude.{◌≡◌, ◌⊎◌, ◌↔◌, Bool, true, false, List, [], map, All, Contains, Result, IfOk}
use Rattle.nts_model.specs.Terms.Trees.{Tree, IsClosed}
use Rattle.nts_model.specs.Tables.Contents.{Content, Recorded}
use Rattle.nts_model.specs.Tables.Resolving.{Knows, deeply_resolved}
use Rattle.nts_model.specs.Tables.Recording.{resolved_constraints, AreNews}
use Rattle.nts_model.specs.Terms.Substitutions.{leaf_tree}
use Rattle.nts_model.specs.Derivations.Sequents.{IsTrivial}
use Rattle.nts_model.specs.Derivations.Proving.{read_constraint}
use Rattle.nts_model.specs.Canonical.Inputs.{Input, IsInput, PositionKind, CanonicalInput as Form, canonical_of, originals}
use Rattle.nts_model.specs.Answers.Responses.{recorded_by, said, IsOverPositions, IsResponseTo, IsIdentity}
use Rattle.nts_certainty.specs.declared.certainty.Certainty.{Certainty}
use Rattle.nts_certainty.specs.declared.certainty.Certainty.TheVariants as certainty
use Rattle.nts_certainty.specs.declared.certainty.MaybeCause.{MaybeCause}
use Rattle.nts_certainty.specs.declared.certainty.MaybeCause.TheVariants as causes
use Rattle.nts_certainty.specs.declared.sources.HasChanged.{HasChanged}
use Rattle.nts_certainty.specs.declared.sources.HasChanged.TheVariants as changes
use Rattle.nts_store.specs.declared.fault.EvalError.{EvalError}
use Rattle.nts_store.specs.Growth.{tree_at}
use Rattle.nts_terms.specs.declared.handles.Goal.{Goal}
use Rattle.nts_terms.specs.declared.handles.GenericArg.{GenericArg}
use Rattle.nts_terms.specs.Modes.{mode_of}
use Rattle.nts_table.specs.Tables.{Table}
use Rattle.nts_canonical.specs.declared.types.Canonical.{Canonical}
use Rattle.nts_canonical.specs.declared.types.CanonicalInput.{CanonicalInput}
use Rattle.nts_canonical.specs.Forms.{form_of, input_of, trees_of}
use Rattle.nts_canonical.specs.Building.{IsInputOf, IsArgOf}
use Rattle.nts_response.specs.declared.types.Response.{Response}
use Rattle.nts_response.specs.Forms.{response_at, HoldsResponse}
use Rattle.nts_response.specs.Applicable.{IsApplicable, IsResponseApplied}
use Rattle.nts_meaning.specs.declared.response.Evaluated.{Evaluated}
use Rattle.nts_theory.specs.Telling.{IsInputFor, without_constraints, Verdict}
use Rattle.nts_unify.specs.Entries.{Entries}
use Rattle.nts_unify.specs.Reading.{content_of}

-- what was found out on the way to an answer is kept, unless the answer overflowed and keeps no constraints
abbrev pub cause_keeps : MaybeCause → Bool
cause_keeps causes.Ambiguity = true
cause_keeps (causes.Overflow s k) = k

abbrev pub is_kept : Certainty → Bool
is_kept certainty.Yes = true
is_kept (certainty.Maybe i) = cause_keeps i.cause

abbrev pub is_yes : Certainty → Bool
is_yes certainty.Yes = true
is_yes (certainty.Maybe i) = false

-- a response of a store, and whether it is certain
abbrev pub verdict_at : List Tree → Canonical Response → Verdict
verdict_at ts r = record { response = response_at ts r; is_yes = is_yes r.value.certainty }

-- what an answer of that certainty tells of a table: all, or no region constraints
abbrev pub told_in : Certainty → Content → Content
told_in certainty.Yes c = c
told_in a c = without_constraints c

-- these are the region constraints of the table, read under its values and roots, in the order of recording, each once and none
-- that is trivial
pub record AreTold (c : Content) (xs : List Recorded) : Type 0 where
  pub news : AreNews (resolved_constraints c) xs
  pub found : (y : Recorded) → Contains xs y → (r : Recorded) × Contains c.constraints r × (y ≡ recorded_by (deeply_resolved c) r)
  pub kept : (r : Recorded) → Contains c.constraints r → IsTrivial (read_constraint c r) ⊎ ((y : Recorded) × Contains xs y × (said y ≡ read_constraint c r))

-- their sides are terms of the table
pub record KnowsSides (c : Content) (xs : List Recorded) : Type 0 where
  pub left : (x : Recorded) → Contains xs x → Knows c x.left
  pub right : (x : Recorded) → Contains xs x → Knows c x.right

-- the canonical form is that of an input
pub record IsFormOf (f : Form) : Type 0 where
  pub asked : Input
  pub proper : IsInput asked
  pub form : f ≡ canonical_of asked

-- a canonical input whose goal a query can be asked for, without hidden types
pub record IsQueryInput (ts : List Tree) (c : CanonicalInput) : Type 0 where
  pub asks : IsFormOf (form_of ts c)
  pub input : IsInputOf ts c
  pub environment : IsOverPositions (let f = form_of ts c in f.environment)
  pub predicate : IsOverPositions (let f = form_of ts c in f.predicate)
  pub no_hidden : c.canonical.value.predefined_opaques_in_body.items ≡ []

-- a goal of the table t is asked as this canonical input, in the store b that has grown from a; and these are its leaves
pub record IsQueryOf (a b : List Tree) (t : Table) (g : Goal) (r : Vec GenericArg × CanonicalInput) : Type 0 where
  pub form : form_of b r.1 ≡ canonical_of (input_of a t.entries g [])
  pub proper : IsInput (input_of a t.entries g [])
  pub originals : trees_of b r.0.items ≡ map leaf_tree (originals (input_of a t.entries g []))
  pub mode : mode_of r.1.typing_mode ≡ mode_of t.mode
  pub asks : IsQueryInput b r.1
  pub args : All (IsArgOf b t.entries) r.0.items
  pub closed : All (λ o. IsClosed (tree_at b o.node)) r.0.items

-- a response of values and region constraints: it hides no types and leaves no goals
pub record TellsNoMore (r : Canonical Response) : Type 0 where
  pub no_hidden : r.value.external_constraints.opaque_types.items ≡ []
  pub no_goals : r.value.external_constraints.normalization_nested_goals.items ≡ []

-- a response to an input of these kinds, which can be applied to the leaves of each such input
pub record IsAnswerTo (ts : List Tree) (ks : List PositionKind) (r : Canonical Response) : Type 0 where
  pub holds : HoldsResponse ts r.value
  pub to : IsResponseTo ks (response_at ts r)
  pub applicable : (i : Input) → IsInput i → (let f = canonical_of i in f.kinds) ≡ ks → IsApplicable ts (map leaf_tree (originals i)) r
  pub no_more : TellsNoMore r

-- what evaluating a goal of the store a leaves of the entries x of a table: the entries y, of the store b. Its input is told a verdict, and the
-- response, applied to the input's leaves, is all that was added. The answer is certain if the verdict is, and nothing
-- changed if the values of the response are the positions in order, but for regions
pub record Evaluates (Told : Form → Verdict → Type 0) (a b : List Tree) (x y : Entries) (e g : Tree) (sure : Certainty) (changed : HasChanged) : Type 0 where
  pub input : Input
  pub of_goal : IsInputFor (content_of a x) e g input
  pub verdict : Verdict
  pub told : Told (canonical_of input) verdict
  pub fits : IsResponseTo (let f = canonical_of input in f.kinds) verdict.response
  pub applied : IsResponseApplied a b x y (map leaf_tree (originals input)) verdict.response false []
  pub certain : verdict.is_yes ≡ is_yes sure
  pub changes : (changed ≡ changes.No) ↔ IsIdentity 0 (let r = verdict.response in let x = r.findings in x.values)

-- a certain answer means P; a certain response is so
abbrev pub IfSure : Result Evaluated EvalError → Type 0 → Type 0
IfSure r P = IfOk r (λ e. e.certainty ≡ certainty.Yes → P)

abbrev pub IfCertain : Result (Box (Canonical Response)) EvalError → (Canonical Response → Type 0) → Type 0
IfCertain r P = IfOk r (λ b. b.value.value.certainty ≡ certainty.Yes → P b.value)

-- a response is so
abbrev pub IfAnswered : {E : Type 0} → Result (Box (Canonical Response)) E → (Canonical Response → Type 0) → Type 0
IfAnswered r P = IfOk r (λ b. P b.value)
