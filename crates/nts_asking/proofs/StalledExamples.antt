-- What a goal may wait for, and what is kept of one: what meets it, and what does not.
use Rattle.std.proofs.Common.{◌≡◌, List, [], ◌∷◌, Some, None, refl, arith}
use Rattle.nts_model.specs.declared.labels.VariableKind.TheVariants as kind
use Rattle.nts_model.specs.declared.labels.Leaf.TheVariants as leaf
use Rattle.nts_model.specs.Terms.Trees.{Tree, empty, more, variable_tree}
use Rattle.nts_model.specs.Canonical.Inputs.{Input}
use Rattle.nts_certainty.specs.declared.certainty.Certainty.TheVariants as certainty
use Rattle.nts_certainty.specs.declared.certainty.MaybeInfo.{MaybeInfo}
use Rattle.nts_certainty.specs.declared.sources.HasChanged.TheVariants as changes
use Rattle.nts_terms.specs.declared.handles.Goal.{Goal}
use Rattle.nts_unify.specs.Entries.{Entries}
use Rattle.nts_asking.specs.declared.stalled.GoalStalledOn.{GoalStalledOn}
use Rattle.nts_asking.specs.declared.stalling.Asked.{Asked}
use Rattle.nts_asking.specs.Stalling.{stalling, MayStall, IsKeptOf, Keeps}

-- a goal about a type variable, a region variable, a float variable, and the first one again
abbrev asked : Input
asked =
    record { environment = empty; predicate = more (variable_tree kind.Ty 3) (more (variable_tree kind.Region 4) (more (variable_tree kind.Float 5) (more (variable_tree kind.Ty 3) empty))); hidden = empty; sub_root = λ n. n }

-- it waits for the first and the third one
waits_for_two : stalling asked ≡ leaf.Variable kind.Ty 3 ∷ leaf.Variable kind.Float 5 ∷ []
waits_for_two = refl

-- of a yes, and of a change, nothing is kept
nothing_of_a_yes : (ts : List Tree) (e : Entries) (g : Goal) → Keeps ts e g certainty.Yes changes.No None
nothing_of_a_yes ts e g = refl

nothing_of_a_change : (ts : List Tree) (e : Entries) (g : Goal) (i : MaybeInfo) → Keeps ts e g (certainty.Maybe i) changes.Yes None
nothing_of_a_change ts e g i = refl

no_more_of_a_yes : (ts : List Tree) (e : Entries) (g : Goal) (s : GoalStalledOn) → Keeps ts e g certainty.Yes changes.No (Some s) → ⊥
no_more_of_a_yes ts e g s h = cc h

-- .. and of a doubt something is, without hidden types, and with that doubt
something_of_a_doubt : (ts : List Tree) (e : Entries) (g : Goal) (i : MaybeInfo) → Keeps ts e g (certainty.Maybe i) changes.No None → ⊥
something_of_a_doubt ts e g i h = h

no_hidden_type : (ts : List Tree) (e : Entries) (g : Goal) (i : MaybeInfo) (s : GoalStalledOn) → s.num_opaques ≡ 5 → IsKeptOf ts e g i s → ⊥
no_hidden_type ts e g i s five k = absurd (omega (arith, k.hidden))

-- what a goal without variables may wait for, and what it may not
waits_for_nothing : (e : Entries) (a : Asked) → a.vars.items ≡ [] → a.types.items ≡ [] → MayStall [] e a
waits_for_nothing e a vars types = record { vars = rw vars refl; held = rw vars (λ i d l. absurd (omega (arith, l))); types = types }

waits_for_no_number : (e : Entries) (a : Asked) → a.types.items ≡ 3 ∷ [] → MayStall [] e a → ⊥
waits_for_no_number e a types h = (let none = h.types in cc (types, none))

keeps_no_variable : (e : Entries) (g : Goal) (i : MaybeInfo) (s : GoalStalledOn) → s.num_opaques ≡ 0 → s.stalled_vars.items ≡ [] → s.sub_roots.items ≡ [] → s.stalled_certainty ≡ i → IsKeptOf [] e g i s
keeps_no_variable e g i s opaques vars roots doubt = record { hidden = opaques; vars = rw vars refl; held = rw vars (λ j d l. absurd (omega (arith, l))); roots = roots; certainty = doubt }
