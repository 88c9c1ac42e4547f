-- The statements of an instance are closed where those of the goal or the environment are.
use Rattle.std.proofs.Common.{◌≡◌, inl, inr, [], ◌∷◌, Some, refl, sym, ap, ◌∙◌, subst, false, rules, ℕ, ◌+◌}
use Rattle.nts_model.specs.declared.labels.ListHead.TheVariants as list
use Rattle.nts_model.specs.declared.labels.Label.TheVariants as label
use Rattle.nts_model.specs.Terms.Trees.{Tree, empty, more, node, IsInRow, kind_of, bound_predicate, environment, sort_list, statement, is, HavePlaces, AllFit, IsClosed, IsFormed, IsBoundBelow, IsClosedUnder, binders}
use Rattle.nts_model.specs.Terms.Substitutions.{Instance, instance_of}
use Rattle.nts_model.specs.Derivations.Related.{unbound}
use Rattle.nts_model.specs.Derivations.Sequents.{HasClosedStatement, HasClosedStatements}
use Rattle.nts_model.proofs.Terms.Substituting.{kind_of-replace, no_children}
use Rattle.nts_model.proofs.Terms.Composing.{instance_kinds, IsClosed-instance}
use Rattle.nts_model.specs.Derivations.Rules.{opened, opened_at}
use Rattle.std.specs.Prelude.{◌<◌, ◌==◌}
use Rattle.nts_model.specs.declared.labels.Sort.{Sort}
use Rattle.nts_model.specs.declared.labels.Leaf.{Leaf}
use Rattle.nts_model.specs.declared.labels.BoundVarIndexKind.TheVariants as index
use Rattle.nts_model.specs.declared.labels.Label.{Label}

-- a predicate that binds nothing says one thing
pub one_statement : (s t : Tree) → unbound s ≡ unbound t → s ≡ t
one_statement s t e = cc e

pub closed_unbound : (s : Tree) → IsClosed s → HasClosedStatement (unbound s)
closed_unbound s h t e = subst IsClosed (one_statement s t e) h

-- a predicate by its binder, and an environment by its predicates
binder_node : (p : Tree) → kind_of p ≡ Some bound_predicate → (c : Tree) × (p ≡ node (label.List list.Binder) c)
binder_node (node (label.List list.Binder) c) e = (c, refl)
binder_node p e = absurd (cc e)

sorts_node : (p : Tree) → kind_of p ≡ Some sort_list → (c : Tree) × (p ≡ node (label.List list.Sorts) c)
sorts_node (node (label.List list.Sorts) c) e = (c, refl)
sorts_node p e = absurd (cc e)

environment_node : (p : Tree) → kind_of p ≡ Some environment → (c : Tree) × (p ≡ node (label.List list.Env) c)
environment_node (node (label.List list.Env) c) e = (c, refl)
environment_node p e = absurd (cc e)

record IsBinder (p : Tree) : Type 0 where
  sorts : Tree
  says : Tree
  is : p ≡ node (label.List list.Binder) (more (node (label.List list.Sorts) sorts) (more says empty))
  formed : IsFormed (node (label.List list.Sorts) sorts)

places_binder : (c : Tree) → HavePlaces (is sort_list ∷ is statement ∷ []) c → IsFormed c → IsBinder (node (label.List list.Binder) c)
places_binder (more a (more b r)) h f =
    let (ss, same) = sorts_node a h.0 in
    let none : r ≡ empty = no_children r h.1.1 in
    record { sorts = ss; says = b; is = cc (same, none); formed = subst IsFormed same f.0 }
places_binder empty h f = absurd h
places_binder (more a empty) h f = absurd h.1
places_binder (more a (node l c)) h f = absurd h.1
places_binder (node l c) h f = absurd h

binder_parts : (p : Tree) → kind_of p ≡ Some bound_predicate → IsFormed p → IsBinder p
binder_parts p k f =
    let (c, same) = binder_node p k in
    let g : IsFormed (node (label.List list.Binder) c) = subst IsFormed same f in
    subst IsBinder (sym same) (places_binder c g.0 g.1)

-- sorts of which an instance is none are none
no_sorts : (ι : Instance) (ss : Tree) → IsFormed (node (label.List list.Sorts) ss) → instance_of ι ss ≡ empty → ss ≡ empty
no_sorts ι empty f e = refl
no_sorts ι (more a b) f e = absurd (cc e)
no_sorts ι (node l c) f e = absurd f.0

sorts_and_statement : (a b s : Tree) → node (label.List list.Binder) (more (node (label.List list.Sorts) a) (more b empty)) ≡ unbound s → (a ≡ empty) × (b ≡ s)
sorts_and_statement a b s e = (cc e, cc e)

pub closed_statement_instance : (ι : Instance) (p : Tree) → IsFormed p → HasClosedStatement p → HasClosedStatement (instance_of ι p)
closed_statement_instance ι p f h s e =
    let b = binder_parts p (sym (kind_of-replace ι.value (instance_kinds ι) p) ∙ ap kind_of e) f in
    let both = sorts_and_statement (instance_of ι b.sorts) (instance_of ι b.says) s (sym (ap (instance_of ι) b.is) ∙ e) in
    let none : b.sorts ≡ empty = no_sorts ι b.sorts b.formed both.0 in
    subst IsClosed both.1 (IsClosed-instance ι b.says (h b.says (b.is ∙ ap (λ x. node (label.List list.Binder) (more (node (label.List list.Sorts) x) (more b.says empty))) none)))

-- a tree among those of an instance of a list is an instance of one of them
record IsRowInstance (ι : Instance) (ps p : Tree) : Type 0 where
  of_tree : Tree
  found : IsInRow of_tree ps
  same : p ≡ instance_of ι of_tree
  formed : IsFormed of_tree

row_instance : (ι : Instance) (ps p : Tree) → AllFit (is bound_predicate) ps → IsFormed ps → IsInRow p (instance_of ι ps) → IsRowInstance ι ps p
row_instance ι empty p a f i = absurd i
row_instance ι (node l c) p a f i = absurd a
row_instance ι (more q qs) p a f (inl e) = record { of_tree = q; found = inl refl; same = e; formed = f.0 }
row_instance ι (more q qs) p a f (inr i) =
    let r = row_instance ι qs p a.1 f.1 i in
    record { of_tree = r.of_tree; found = inr r.found; same = r.same; formed = r.formed }

rows_of : (a b : Tree) → node (label.List list.Env) a ≡ node (label.List list.Env) b → a ≡ b
rows_of a b e = cc e

pub closed_statements_instance : (ι : Instance) (e : Tree) → IsFormed e → HasClosedStatements e → HasClosedStatements (instance_of ι e)
closed_statements_instance ι e f h ps p q i =
    let (qs, same) = environment_node e (sym (kind_of-replace ι.value (instance_kinds ι) e) ∙ ap kind_of q) in
    let g : IsFormed (node (label.List list.Env) qs) = subst IsFormed same f in
    let rows : instance_of ι qs ≡ ps = rows_of (instance_of ι qs) ps (sym (ap (instance_of ι) same) ∙ q) in
    let r = row_instance ι qs p g.0 g.1 (subst (IsInRow p) (sym rows) i) in
    subst HasClosedStatement (sym r.same) (closed_statement_instance ι r.of_tree r.formed (h qs r.of_tree same r.found))

-- opening what is closed
opened_label : (f : Sort → ℕ → Leaf) (c : ℕ) (l : Label) (t : Tree) → IsBoundBelow c l → opened_at f c l t ≡ node l t
opened_label f c (label.Bound s (index.Bound d) n) t h = rw (apart d h) refl
  where
    apart : (d : ℕ) → d < c → (d == c) ≡ false
    apart d h = search rules
opened_label f c (label.Bound s index.Canonical n) t h = refl
opened_label f c (label.Leaf x) t h = refl
opened_label f c (label.Ty x) t h = refl
opened_label f c (label.Const x) t h = refl
opened_label f c (label.Clause x) t h = refl
opened_label f c (label.Predicate x) t h = refl
opened_label f c (label.List x) t h = refl

pub opened_closed : (f : Sort → ℕ → Leaf) (c : ℕ) (t : Tree) → IsClosedUnder c t → opened f c t ≡ t
opened_closed f c empty h = refl
opened_closed f c (more a b) h = cc (opened_closed f c a h.0, opened_closed f c b h.1)
opened_closed f c (node l t) h = ap (opened_at f c l) (opened_closed f (c + binders l) t h.1) ∙ opened_label f c l t h.0
