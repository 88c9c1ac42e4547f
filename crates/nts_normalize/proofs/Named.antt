-- Variables that a universe names, by the entries of a table and by its content.
use Rattle.std.proofs.Common.{ℕ, ◌≤◌, List, Option, Some, None, IfSome, option_map, slice_get, sym, subst}
use Rattle.std.proofs.lemmas.Option.{slice_get-map}
use Rattle.nts_model.specs.declared.labels.VariableKind.{VariableKind}
use Rattle.nts_model.specs.Terms.Trees.{Tree, empty, more, node, variable_of}
use Rattle.nts_model.specs.Tables.Contents.{map_slot}
use Rattle.nts_model.specs.Tables.Passing.{AllLabels}
use Rattle.nts_unify.specs.declared.contents.Variable.{Variable}
use Rattle.nts_unify.specs.Entries.{Entries}
use Rattle.nts_unify.specs.Reading.{content_of, slot_of}
use Rattle.nts_normalize.specs.Normalizing.{NamesVariable}
use Rattle.nts_normalize.specs.Naming.{IsNamedBy}

slot_forth : (ts : List Tree) (u : ℕ) (o : Option Variable) → IfSome o (λ x. x.universe ≤ u) → IfSome (map_slot (λ v. v.universe) (option_map (slot_of ts) o)) (λ w. w ≤ u)
slot_forth ts u None h = h
slot_forth ts u (Some x) h = h

slot_back : (ts : List Tree) (u : ℕ) (o : Option Variable) → IfSome (map_slot (λ v. v.universe) (option_map (slot_of ts) o)) (λ w. w ≤ u) → IfSome o (λ x. x.universe ≤ u)
slot_back ts u None h = h
slot_back ts u (Some x) h = h

named_forth : (ts : List Tree) (e : Entries) (u : ℕ) (o : Option (VariableKind × ℕ)) → IsNamedBy u e o → NamesVariable u (content_of ts e) o
named_forth ts e u None h = h
named_forth ts e u (Some v) h =
    subst (λ s. IfSome (map_slot (λ x. x.universe) s) (λ w. w ≤ u)) (sym (slice_get-map (slot_of ts) e.variables v.1)) (slot_forth ts u (slice_get e.variables v.1) h)

named_back : (ts : List Tree) (e : Entries) (u : ℕ) (o : Option (VariableKind × ℕ)) → NamesVariable u (content_of ts e) o → IsNamedBy u e o
named_back ts e u None h = h
named_back ts e u (Some v) h =
    slot_back ts u (slice_get e.variables v.1) (subst (λ s. IfSome (map_slot (λ x. x.universe) s) (λ w. w ≤ u)) (slice_get-map (slot_of ts) e.variables v.1) h)

pub all_forth : (ts : List Tree) (e : Entries) (u : ℕ) (t : Tree) → AllLabels (λ l. IsNamedBy u e (variable_of l)) t → AllLabels (λ l. NamesVariable u (content_of ts e) (variable_of l)) t
all_forth ts e u empty h = tt
all_forth ts e u (more a b) h = (all_forth ts e u a h.0, all_forth ts e u b h.1)
all_forth ts e u (node l c) h = (named_forth ts e u (variable_of l) h.0, all_forth ts e u c h.1)

pub all_back : (ts : List Tree) (e : Entries) (u : ℕ) (t : Tree) → AllLabels (λ l. NamesVariable u (content_of ts e) (variable_of l)) t → AllLabels (λ l. IsNamedBy u e (variable_of l)) t
all_back ts e u empty h = tt
all_back ts e u (more a b) h = (all_back ts e u a h.0, all_back ts e u b h.1)
all_back ts e u (node l c) h = (named_back ts e u (variable_of l) h.0, all_back ts e u c h.1)
