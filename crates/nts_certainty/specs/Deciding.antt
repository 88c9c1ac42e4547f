-- What hidden types decide, and how a condition asks for them.
use Rattle.std.specs.Prelude.{◌≡◌, ◌||◌, ℕ, Bool, true, false, List, [], ◌∷◌}
use Rattle.nts_terms.specs.nts_model.specs.declared.labels.Label.{Label}
use Rattle.nts_terms.specs.nts_model.specs.declared.labels.Label.TheVariants as label
use Rattle.nts_terms.specs.nts_model.specs.declared.labels.Leaf.TheVariants as leaf
use Rattle.nts_terms.specs.nts_model.specs.declared.labels.VariableKind.TheVariants as kind
use Rattle.nts_terms.specs.nts_model.specs.Terms.Trees.{Tree, empty, more, node}
use Rattle.nts_terms.specs.nts_model.specs.Derivations.Handlers.{Access, never, always, any_infer, in_storage, in_storage_or_infer}
use Rattle.nts_terms.specs.nts_model.specs.Derivations.Rules.{Mode, coherence, analysis, borrowck, post_borrowck, post_analysis, erased}
use Rattle.nts_theory.specs.Erased.Accessing.{Decision, stands, runs_again, is_handed_on, Parents, is_in, is_stored}
use Rattle.nts_terms.specs.nts_store.specs.Growth.{tree_at}
use Rattle.nts_terms.specs.declared.handles.AliasDefId.{AliasDefId}
use Rattle.nts_terms.specs.declared.handles.AliasDefId.TheVariants as alias
use Rattle.nts_terms.specs.declared.handles.AliasTerm.{AliasTerm}
use Rattle.nts_terms.specs.declared.handles.Ty.{Ty}
use Rattle.nts_certainty.specs.declared.decision.RerunDecision.{RerunDecision}
use Rattle.nts_certainty.specs.declared.decision.RerunDecision.TheVariants as decision

-- what a decision is for proofs
abbrev pub decision_of : RerunDecision → Decision
decision_of decision.Yes = runs_again
decision_of decision.No = stands
decision_of decision.EagerlyPropagateToParent = is_handed_on

-- the number of an alias of types, before others
abbrev pub key_before : AliasDefId → List ℕ → List ℕ
key_before (alias.Ty i) ks = i.number ∷ ks
key_before (alias.Const i) ks = ks

-- the numbers of the aliases that hidden types are behind
abbrev pub keys_of : List (AliasTerm × Ty) → List ℕ
keys_of [] = []
keys_of (h ∷ hs) = key_before h.0.def_id (keys_of hs)

abbrev pub of_keys : List ℕ → Parents
of_keys ks = record { keys = ks; has_infer = false }

abbrev pub is_type_variable : Label → Bool
is_type_variable (label.Leaf (leaf.Variable kind.Ty n)) = true
is_type_variable l = false

-- the tree is a type variable
abbrev pub is_open : Tree → Bool
is_open empty = false
is_open (more a b) = false
is_open (node l c) = is_type_variable l

-- a hidden type is a type variable
abbrev pub has_open : List Tree → List (AliasTerm × Ty) → Bool
has_open ts [] = false
has_open ts (h ∷ hs) = is_open (tree_at ts h.1.node) || has_open ts hs

-- hidden types in a store, as the table of conditions and modes takes them
abbrev pub parents_of : List Tree → List (AliasTerm × Ty) → Parents
parents_of ts hs = record { keys = keys_of hs; has_infer = has_open ts hs }

-- the condition names ids, or asks again in any case
abbrev pub names_ids : Access → Bool
names_ids never = false
names_ids any_infer = false
names_ids (in_storage ns) = true
names_ids (in_storage_or_infer ns) = true
names_ids always = true

-- the condition asks for type variables among the hidden types
abbrev pub rests_on_open : Access → Bool
rests_on_open never = false
rests_on_open any_infer = true
rests_on_open (in_storage ns) = false
rests_on_open (in_storage_or_infer ns) = true
rests_on_open always = false

-- the condition names an id that the mode lists or a hidden type is behind, or asks again in any case
abbrev pub rests_on_stored : List ℕ → List ℕ → Access → Bool
rests_on_stored xs ks never = false
rests_on_stored xs ks any_infer = false
rests_on_stored xs ks (in_storage ns) = is_stored xs (of_keys ks) ns
rests_on_stored xs ks (in_storage_or_infer ns) = is_stored xs (of_keys ks) ns
rests_on_stored xs ks always = true

-- the opaque type of this number stands for itself alone: a mode of the analysis or of the borrow checker does not list it
abbrev pub IsRigidIn : Mode → ℕ → Type 0
IsRigidIn coherence n = ⊥
IsRigidIn post_analysis n = ⊥
IsRigidIn erased n = ⊥
IsRigidIn (analysis xs) n = is_in xs n ≡ false
IsRigidIn (borrowck xs) n = is_in xs n ≡ false
IsRigidIn (post_borrowck xs) n = is_in xs n ≡ false
