-- What a universe names, it names in each solution.
use Rattle.std.proofs.Common.{◌≡◌, ℕ, ◌≤◌, Option, Some, None, refl, sym, ap, ◌∙◌}
use Rattle.std.specs.Prelude.{slice_get}
use Rattle.nts_model.specs.declared.labels.VariableKind.{VariableKind}
use Rattle.nts_model.specs.declared.labels.Label.{Label}
use Rattle.nts_model.specs.Terms.Trees.{Tree, empty, more, node, variable_of}
use Rattle.nts_model.specs.Tables.Contents.{Content, Slot, map_slot, kind_at, universe_of}
use Rattle.nts_model.specs.Tables.Resolving.{number_of, Knows, KnowsVariable}
use Rattle.nts_model.specs.Terms.Placeholders.{CanName}
use Rattle.nts_model.specs.Tables.Levels.{NamesAll, term_level, level_at, level_in}
use Rattle.nts_model.specs.Tables.Worlds.{World, inst, Solves}
use Rattle.nts_model.proofs.Tables.Instances.{inst-variable, inst-node}
use Rattle.nts_model.proofs.Tables.Readings.{term_level-renamed}
use Rattle.nts_model.proofs.Tables.Solving.{NamesAll-more}

variable_named : (c : Content) (w : World) (u n : ℕ) (k : VariableKind) → Solves c w → kind_at c n ≡ Some k → CanName u (universe_of c n) → NamesAll term_level u (w.tree n)
variable_named c w u n k s e h = by_slot (slice_get c.slots n) refl
  where
    by_slot : (o : Option Slot) → slice_get c.slots n ≡ o → NamesAll term_level u (w.tree n)
    by_slot None q = absurd (let z : map_slot (λ x. x.kind) None ≡ Some k = ap (map_slot (λ x. x.kind)) (sym q) ∙ e in cc z)
    by_slot (Some v) q =
        let there : universe_of c n ≡ Some v.universe = ap (map_slot (λ x. x.universe)) q in
        let low : v.universe ≤ u = rw there at h in
        NamesAll-more term_level v.universe u (w.tree n) low (rw there at (s.nameable.each n))

named_node : (c : Content) (w : World) (u : ℕ) (l : Label) (x : Tree) (o : Option (VariableKind × ℕ)) → variable_of l ≡ o → Solves c w → KnowsVariable c o → CanName u (level_at c (number_of o) l) → NamesAll term_level u (inst w x) → NamesAll term_level u (inst w (node l x))
named_node c w u l x None e s k h i = rw (inst-node w l x e) (rw (term_level-renamed w l) h, i)
named_node c w u l x (Some v) e s k h i = rw (inst-variable w l x v.0 v.1 e) (variable_named c w u v.1 v.0 s k h)

pub names-inst : (c : Content) (w : World) (u : ℕ) (t : Tree) → Solves c w → Knows c t → NamesAll (level_in c) u t → NamesAll term_level u (inst w t)
names-inst c w u empty s k h = tt
names-inst c w u (more a b) s k h = (names-inst c w u a s k.0 h.0, names-inst c w u b s k.1 h.1)
names-inst c w u (node l x) s k h = named_node c w u l x (variable_of l) refl s k.0.0 h.0 (names-inst c w u x s k.1 h.1)
