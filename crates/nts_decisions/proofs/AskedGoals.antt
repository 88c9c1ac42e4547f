-- A goal that is decided is one that handlers are asked: what is said of it but for its regions holds of it with them.
use Rattle.std.proofs.Common.{◌≡◌, inl, inr, ℕ, ◌+◌, false, refl, sym, ap, subst}
use Rattle.nts_model.specs.declared.labels.Leaf.{Leaf}
use Rattle.nts_model.specs.declared.labels.ListHead.TheVariants as list
use Rattle.nts_model.specs.declared.labels.ClauseHead.TheVariants as clause
use Rattle.nts_model.specs.declared.labels.PredicateHead.TheVariants as predicate
use Rattle.nts_model.specs.declared.labels.Label.{Label}
use Rattle.nts_model.specs.declared.labels.Label.TheVariants as label
use Rattle.nts_model.specs.Terms.Trees.{Tree, empty, more, node, any_label, is_canonical, binders, IsInRow, IsClosedUnder, IsClosed, IsFormed}
use Rattle.nts_model.specs.Terms.Scoping.{IsWellBound}
use Rattle.nts_model.specs.Terms.Substitutions.{leaf_tree, put, replace}
use Rattle.nts_model.specs.Derivations.Related.{pair, unbound, no_sorts}
use Rattle.nts_model.specs.Derivations.Sequents.{HasClosedStatements}
use Rattle.nts_model.specs.Derivations.Rules.{IsHandlers}
use Rattle.nts_model.specs.Derivations.Handlers.{IsAsked}
use Rattle.nts_model.proofs.Terms.Substituting.{leaf_alone}

abbrev pub by_leaves : (Leaf → Leaf) → Tree → Tree
by_leaves f = replace (λ l. leaf_tree (f l))

-- closed terms
closed_label : (f : Leaf → Leaf) (c : ℕ) (l : Label) (t : Tree) → IsFormed (node l t) → (IsClosedUnder (c + binders l) (by_leaves f t) → IsClosedUnder (c + binders l) t) → IsClosedUnder c (put (λ x. leaf_tree (f x)) l (by_leaves f t)) → IsClosedUnder c (node l t)
closed_label f c (label.Leaf x) t k up h = (tt, rw (leaf_alone x t k) tt)
closed_label f c (label.Bound s i n) t k up h = (h.0, up h.1)
closed_label f c (label.Ty x) t k up h = (h.0, up h.1)
closed_label f c (label.Const x) t k up h = (h.0, up h.1)
closed_label f c (label.Clause x) t k up h = (h.0, up h.1)
closed_label f c (label.Predicate x) t k up h = (h.0, up h.1)
closed_label f c (label.List x) t k up h = (h.0, up h.1)

pub closed_raw : (f : Leaf → Leaf) (c : ℕ) (t : Tree) → IsFormed t → IsClosedUnder c (by_leaves f t) → IsClosedUnder c t
closed_raw f c empty k h = tt
closed_raw f c (more a b) k h = (closed_raw f c a k.0 h.0, closed_raw f c b k.1 h.1)
closed_raw f c (node l t) k h = closed_label f c l t k (closed_raw f (c + binders l) t k.1) h

-- what binds nothing
pub record IsUnbound (f : Leaf → Leaf) (g s : Tree) : Type 0 where
  pub says : Tree
  pub is : g ≡ unbound says
  pub same : by_leaves f says ≡ s

pub not_more : (f : Leaf → Leaf) (l : Label) (c a b : Tree) → put (λ x. leaf_tree (f x)) l c ≡ more a b → ⊥
not_more f (label.Leaf x) c a b e = absurd (cc e)
not_more f (label.Bound s i n) c a b e = absurd (cc e)
not_more f (label.Ty x) c a b e = absurd (cc e)
not_more f (label.Const x) c a b e = absurd (cc e)
not_more f (label.Clause x) c a b e = absurd (cc e)
not_more f (label.Predicate x) c a b e = absurd (cc e)
not_more f (label.List x) c a b e = absurd (cc e)

pub not_empty : (f : Leaf → Leaf) (l : Label) (c : Tree) → put (λ x. leaf_tree (f x)) l c ≡ empty → ⊥
not_empty f (label.Leaf x) c e = absurd (cc e)
not_empty f (label.Bound s i n) c e = absurd (cc e)
not_empty f (label.Ty x) c e = absurd (cc e)
not_empty f (label.Const x) c e = absurd (cc e)
not_empty f (label.Clause x) c e = absurd (cc e)
not_empty f (label.Predicate x) c e = absurd (cc e)
not_empty f (label.List x) c e = absurd (cc e)

pub unbound_raw : (f : Leaf → Leaf) (g s : Tree) → by_leaves f g ≡ unbound s → IsUnbound f g s
unbound_raw f (node (label.List list.Binder) (more (node (label.List list.Sorts) empty) (more u empty))) s e = record { says = u; is = refl; same = cc e }
unbound_raw f (node (label.List list.Binder) (node l c)) s e = absurd (not_more f l (by_leaves f c) no_sorts (more s empty) (cc e))
unbound_raw f (node (label.List list.Binder) (more (node (label.List list.Sorts) (node l c)) r)) s e = absurd (not_empty f l (by_leaves f c) (cc e))
unbound_raw f (node (label.List list.Binder) (more (node (label.List list.Sorts) empty) (node l c))) s e = absurd (not_more f l (by_leaves f c) s empty (cc e))
unbound_raw f (node (label.List list.Binder) (more (node (label.List list.Sorts) empty) (more u (node l c)))) s e = absurd (not_empty f l (by_leaves f c) (cc e))
unbound_raw f g s e = absurd (cc e)

-- a statement of a trait
handlers_raw : (f : Leaf → Leaf) (t : Tree) → IsHandlers (by_leaves f t) → IsHandlers t
handlers_raw f (node (label.Clause (clause.Trait i)) ts) h = tt
handlers_raw f (node (label.Clause (clause.HostEffect i)) ts) h = tt
handlers_raw f (node (label.Clause (clause.Projection i)) ts) h = tt
handlers_raw f (node (label.Predicate (predicate.NormalizesTo i)) ts) h = tt
handlers_raw f t h = absurd h

-- the statements of an environment
row_by : (f : Leaf → Leaf) (p ps : Tree) → IsInRow p ps → IsInRow (by_leaves f p) (by_leaves f ps)
row_by f p empty i = absurd i
row_by f p (more a b) (inl e) = inl (ap (by_leaves f) e)
row_by f p (more a b) (inr i) = inr (row_by f p b i)
row_by f p (node l c) i = absurd i

row_formed : (p ps : Tree) → IsFormed ps → IsInRow p ps → IsFormed p
row_formed p empty k i = absurd i
row_formed p (more a b) k (inl e) = subst IsFormed (sym e) k.0
row_formed p (more a b) k (inr i) = row_formed p b k.1 i
row_formed p (node l c) k i = absurd i

pub statements_raw : (f : Leaf → Leaf) (e : Tree) → IsFormed e → HasClosedStatements (by_leaves f e) → HasClosedStatements e
statements_raw f e k h ps p is i s of =
    let rows : IsFormed (node (label.List list.Env) ps) = subst IsFormed is k in
    let one : IsFormed (unbound s) = subst IsFormed of (row_formed p ps rows.1 i) in
    closed_raw f 0 s one.1.1.0 (h (by_leaves f ps) (by_leaves f p) (ap (by_leaves f) is) (row_by f p ps i) (by_leaves f s) (ap (by_leaves f) of))

-- asked but for regions, and of terms: asked
pub asked_raw : (f k : Leaf → Leaf) (e g : Tree) → IsFormed e → IsFormed g → any_label is_canonical (pair e g) ≡ false → IsWellBound (pair e g) → IsAsked (by_leaves f e) (by_leaves k g) → IsAsked e g
asked_raw f k e g fe fg positions bound a =
    let u = unbound_raw k g a.statement a.binds_nothing in
    let one : IsFormed (unbound u.says) = subst IsFormed u.is fg in
    record {
      statement = u.says;
      binds_nothing = u.is;
      handlers = handlers_raw k u.says (subst IsHandlers (sym u.same) a.handlers);
      formed = (fe, (fg, tt));
      closed = (closed_raw f 0 e fe (let c = a.closed in c.0), (closed_raw k 0 u.says one.1.1.0 (subst IsClosed (sym u.same) (let c = a.closed in c.1.0)), tt));
      no_positions = positions;
      well_bound = bound;
      statements = statements_raw f e fe a.statements;
    }
