-- What a test of a clause says.
use Rattle.std.proofs.Common.{◌≡◌, ◌↔◌, ℕ, zero, suc, ◌+◌, ◌<◌, ◌||◌, Bool, true, false, List, [], ◌∷◌, ◌++◌, length, get_or, take, is_some, refl, ap, arith}
use Rattle.std.specs.Prelude.{IsTrue}
use Rattle.std.proofs.lemmas.List.{take_more}
use Rattle.nts_model.specs.declared.labels.Sort.{Sort}
use Rattle.nts_model.specs.Terms.Trees.{Tree, empty, more, node, any_label}
use Rattle.nts_model.specs.Terms.Scoping.{IsWellBound}
use Rattle.nts_store.specs.declared.type_flags.TypeFlags.{TypeFlags}
use Rattle.nts_store.specs.declared.nodes.NodeId.{NodeId}
use Rattle.nts_terms.specs.declared.handles.Predicate.{Predicate}
use Rattle.nts_store.specs.TypeFlags.{flags_of, escaping}
use Rattle.nts_store.specs.Growth.{tree_at, IsIn}
use Rattle.nts_terms.specs.Handles.{HoldsPredicate}
use Rattle.nts_model.specs.Tables.Passing.{AllLabels}
use Rattle.nts_store.proofs.Escaping.{closed_by_facts, escapes}
use Rattle.nts_model.specs.Derivations.Handlers.{NamesFresh}
use Rattle.nts_delegate.specs.Clauses.{MayHave, is_foreign, IsClauseTerm, AreBodies}
use Rattle.nts_store.proofs.Filling.{both_false}

pub or_false : (p q : Bool) → p ≡ false → q ≡ false → (p || q) ≡ false
or_false p q h k = rw (h, k) refl

labels_fit : (fresh : List Sort) (t : Tree) → AllLabels (MayHave fresh) t → NamesFresh fresh t × (any_label is_foreign t ≡ false)
labels_fit fresh empty h = (tt, refl)
labels_fit fresh (more a b) h =
    let x = labels_fit fresh a h.0 in
    let y = labels_fit fresh b h.1 in
    ((x.0, y.0), or_false (any_label is_foreign a) (any_label is_foreign b) x.1 y.1)
labels_fit fresh (node l c) h =
    let y = labels_fit fresh c h.1 in
    ((h.0.0, y.0), or_false (is_foreign l) (any_label is_foreign c) h.0.1 y.1)

fit_labels : (fresh : List Sort) (t : Tree) → NamesFresh fresh t → any_label is_foreign t ≡ false → AllLabels (MayHave fresh) t
fit_labels fresh empty h k = tt
fit_labels fresh (more a b) h k =
    let w = both_false (any_label is_foreign a) (any_label is_foreign b) k in
    (fit_labels fresh a h.0 w.0, fit_labels fresh b h.1 w.1)
fit_labels fresh (node l c) h k =
    let w = both_false (is_foreign l) (any_label is_foreign c) k in
    ((h.0, w.0), fit_labels fresh c h.1 w.1)

-- a term without escaping variables, by its labels
pub term_fits : (ts : List Tree) (fresh : List Sort) (t : NodeId) (f : TypeFlags) → IsIn ts t → f ≡ flags_of (tree_at ts t) → is_some f.escaping ≡ false → IsWellBound (tree_at ts t) → AllLabels (MayHave fresh) (tree_at ts t) ↔ IsClauseTerm ts fresh t
term_fits ts fresh t f w e h b = (
  (λ l. let x = labels_fit fresh (tree_at ts t) l in
      record { within = w; names = x.0; own = x.1; closed = closed_by_facts (tree_at ts t) f e h; well_bound = b }),
  λ c. fit_labels fresh (tree_at ts t) c.names c.own,
)

pub term_escapes : (ts : List Tree) (fresh : List Sort) (t : NodeId) (f : TypeFlags) → f ≡ flags_of (tree_at ts t) → is_some f.escaping ≡ true → IsClauseTerm ts fresh t → ⊥
term_escapes ts fresh t f e h c =
    let some : IsTrue (is_some (escaping (tree_at ts t))) = rw (ap (λ g. g.escaping) e) at h in
    (escapes (tree_at ts t)).0 some c.closed

pub bodies_more : (ts : List Tree) (fresh : List Sort) (ps : List Predicate) (p : Predicate) → AreBodies ts fresh ps → HoldsPredicate ts p × IsClauseTerm ts fresh p.node → AreBodies ts fresh (ps ++ p ∷ [])
bodies_more ts fresh [] p h k = (k.0, k.1, tt)
bodies_more ts fresh (q ∷ ps) p h k = (h.0, h.1, bodies_more ts fresh ps p h.2 k)

pub body_at : (ts : List Tree) (fresh : List Sort) (ps : List Predicate) (i : ℕ) (p : Predicate) → AreBodies ts fresh ps → i < length ps → HoldsPredicate ts (get_or ps i p) × IsClauseTerm ts fresh (get_or ps i p).node
body_at ts fresh [] i p h l = absurd (omega arith)
body_at ts fresh (q ∷ ps) zero p h l = (h.0, h.1)
body_at ts fresh (q ∷ ps) (suc i) p h l = body_at ts fresh ps i p h.2 (omega arith)

pub bodies_step : (ts : List Tree) (fresh named : List Sort) (ps : List Predicate) (i : ℕ) (d : Predicate) → named ≡ fresh → i < length ps → AreBodies ts fresh (take i ps) → HoldsPredicate ts (get_or ps i d) × IsClauseTerm ts named (get_or ps i d).node → AreBodies ts fresh (take (i + 1) ps)
bodies_step ts fresh named ps i d e l h k =
    let same : HoldsPredicate ts (get_or ps i d) × IsClauseTerm ts fresh (get_or ps i d).node = rw e at k in
    rw (take_more ps i d l) (bodies_more ts fresh (take i ps) (get_or ps i d) h same)
