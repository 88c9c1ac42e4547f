-- What is kept of a goal that stalls, so that it is asked again only where that can help.
use Rattle.std.specs.Prelude.{◌≡◌, ℕ, Bool, List, [], map, filter, All, Option, Some, None}
use Rattle.std.specs.List.{filter_map}
use Rattle.nts_model.specs.declared.labels.VariableKind.TheVariants as kind
use Rattle.nts_model.specs.declared.labels.Leaf.{Leaf}
use Rattle.nts_model.specs.declared.labels.Leaf.TheVariants as leaf
use Rattle.nts_model.specs.declared.labels.Label.{Label}
use Rattle.nts_model.specs.declared.labels.Label.TheVariants as label
use Rattle.nts_model.specs.Terms.Trees.{Tree, node, is_infer}
use Rattle.nts_model.specs.Terms.Substitutions.{leaf_tree}
use Rattle.nts_model.specs.Canonical.Inputs.{Input, originals}
use Rattle.nts_certainty.specs.declared.certainty.Certainty.{Certainty}
use Rattle.nts_certainty.specs.declared.certainty.Certainty.TheVariants as certainty
use Rattle.nts_certainty.specs.declared.certainty.MaybeInfo.{MaybeInfo}
use Rattle.nts_certainty.specs.declared.sources.HasChanged.{HasChanged}
use Rattle.nts_certainty.specs.declared.sources.HasChanged.TheVariants as changes
use Rattle.nts_terms.specs.declared.handles.Goal.{Goal}
use Rattle.nts_terms.specs.Handles.{HoldsArg}
use Rattle.nts_unify.specs.Entries.{Entries}
use Rattle.nts_canonical.specs.Forms.{input_of, trees_of}
use Rattle.nts_canonical.specs.SubRoots.{sub_root_in}
use Rattle.nts_asking.specs.declared.stalled.GoalStalledOn.{GoalStalledOn}
use Rattle.nts_asking.specs.declared.stalling.Asked.{Asked}

-- a variable of types, integers, floats or consts: a goal may wait for its value
abbrev pub is_stalling : Leaf → Bool
is_stalling l = is_infer (label.Leaf l)

-- the number of a type variable
abbrev pub type_number : Leaf → Option ℕ
type_number (leaf.Variable kind.Ty n) = Some n
type_number l = None

-- the variables that a goal may wait for, in the order of first sight
abbrev pub stalling : Input → List Leaf
stalling i = filter is_stalling (originals i)

-- the number of a term that is a type variable
abbrev pub number_of_label : Label → Option ℕ
number_of_label (label.Leaf l) = type_number l
number_of_label l = None

abbrev pub number_of_tree : Tree → Option ℕ
number_of_tree (node l c) = number_of_label l
number_of_tree t = None

-- a goal that is asked, with the variables that it may wait for, and the numbers of those of types
pub record MayStall (ts : List Tree) (e : Entries) (a : Asked) : Type 0 where
  pub vars : trees_of ts a.vars.items ≡ map leaf_tree (stalling (input_of ts e a.goal []))
  pub held : All (λ x. HoldsArg ts x) a.vars.items
  pub types : a.types.items ≡ filter_map type_number (stalling (input_of ts e a.goal []))

-- what is kept of a goal that was asked and is in doubt: no hidden type, the variables that it may wait for, and the sub root
-- of each one of types, as it is afterwards; and the doubt
pub record IsKeptOf (ts : List Tree) (e : Entries) (g : Goal) (doubt : MaybeInfo) (s : GoalStalledOn) : Type 0 where
  pub hidden : s.num_opaques ≡ 0
  pub vars : trees_of ts s.stalled_vars.items ≡ map leaf_tree (stalling (input_of ts e g []))
  pub held : All (λ x. HoldsArg ts x) s.stalled_vars.items
  pub roots : s.sub_roots.items ≡ map (sub_root_in e) (filter_map type_number (stalling (input_of ts e g [])))
  pub certainty : s.stalled_certainty ≡ doubt

-- of a goal that was asked something is kept exactly if it is in doubt, and nothing changed
abbrev pub Keeps : List Tree → Entries → Goal → Certainty → HasChanged → Option GoalStalledOn → Type 0
Keeps ts e g (certainty.Maybe i) changes.No (Some s) = IsKeptOf ts e g i s
Keeps ts e g (certainty.Maybe i) changes.No None = ⊥
Keeps ts e g c h s = s ≡ None
