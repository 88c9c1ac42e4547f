-- What the tests of a goal at the root say.
use Rattle.std.proofs.Common.{◌≡◌, ◌↔◌, Bool, true, false, List, is_some, refl, ap}
use Rattle.std.specs.Prelude.{IsTrue}
use Rattle.nts_model.specs.declared.labels.Label.{Label}
use Rattle.nts_model.specs.Terms.Trees.{Tree, empty, more, node, any_label}
use Rattle.nts_model.specs.Tables.Resolving.{Knows}
use Rattle.nts_store.specs.declared.type_flags.TypeFlags.{TypeFlags}
use Rattle.nts_store.specs.declared.nodes.NodeId.{NodeId}
use Rattle.nts_store.specs.TypeFlags.{flags_of, escaping}
use Rattle.nts_store.specs.Growth.{tree_at}
use Rattle.nts_model.specs.Tables.Passing.{AllLabels}
use Rattle.nts_store.proofs.Escaping.{escapes, closed_by_facts}
use Rattle.nts_table.specs.Tables.{Table}
use Rattle.nts_unify.specs.Reading.{content_of}
use Rattle.nts_meaning.specs.Evaluation.{IsRootTerm}
use Rattle.nts_meaning.specs.nts_delegate.proofs.Testing.{or_false}
use Rattle.nts_store.proofs.Filling.{both_false}

-- no label passes a test
none_of : (p : Label → Bool) (t : Tree) → AllLabels (λ l. p l ≡ false) t → any_label p t ≡ false
none_of p empty h = refl
none_of p (more a b) h = or_false (any_label p a) (any_label p b) (none_of p a h.0) (none_of p b h.1)
none_of p (node l c) h = or_false (p l) (any_label p c) h.0 (none_of p c h.1)

each_fails : (p : Label → Bool) (t : Tree) → any_label p t ≡ false → AllLabels (λ l. p l ≡ false) t
each_fails p empty h = tt
each_fails p (more a b) h =
    let w = both_false (any_label p a) (any_label p b) h in
    (each_fails p a w.0, each_fails p b w.1)
each_fails p (node l c) h =
    let w = both_false (p l) (any_label p c) h in
    (w.0, each_fails p c w.1)

pub no_label : (p : Label → Bool) (t : Tree) → AllLabels (λ l. p l ≡ false) t ↔ (any_label p t ≡ false)
no_label p t = (none_of p t, each_fails p t)

-- a term whose variables are looked at, where nothing else stands in the way
pub root_term : (ts : List Tree) (u : Table) (t : NodeId) (f : TypeFlags) → f ≡ flags_of (tree_at ts t) → is_some f.escaping ≡ false → Knows (content_of ts u.entries) (tree_at ts t) ↔ IsRootTerm ts u t
root_term ts u t f e h = (
  (λ n. record {
    closed = closed_by_facts (tree_at ts t) f e h;
    knows = n;
  }),
  λ r. r.knows,
)

pub root_escapes : (ts : List Tree) (u : Table) (t : NodeId) (f : TypeFlags) → f ≡ flags_of (tree_at ts t) → is_some f.escaping ≡ true → IsRootTerm ts u t → ⊥
root_escapes ts u t f e h c =
    let some : IsTrue (is_some (escaping (tree_at ts t))) = rw (ap (λ g. g.escaping) e) at h in
    (escapes (tree_at ts t)).0 some c.closed
