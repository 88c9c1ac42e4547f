-- What a folder makes of a tree that answers each term by an image of it.
use Rattle.std.proofs.Common.{◌≡◌, ℕ, zero, suc, List, Some, None, refl, sym, ap, subst, ◌∙◌}
use Rattle.nts_model.specs.declared.labels.Sort.TheVariants as sort
use Rattle.nts_model.specs.declared.labels.Leaf.{Leaf}
use Rattle.nts_model.specs.declared.labels.Label.{Label}
use Rattle.nts_model.specs.declared.labels.Label.TheVariants as label
use Rattle.nts_model.specs.Terms.Trees.{Tree, empty, more, node, binders, kind_of_label, NodeKind, of_sort, arguments, environment, bound_predicate, statement, sort_list, one_sort, variable_of}
use Rattle.nts_model.specs.Tables.Resolving.{Knows, deeply_resolved}
use Rattle.nts_model.specs.Terms.Substitutions.{filled}
use Rattle.nts_model.specs.Canonical.Numbered.{seen}
use Rattle.nts_model.specs.Answers.Responses.{is_fixed, positioned}
use Rattle.nts_model.proofs.Tables.Resolved.{deeply_resolved-empty}
use Rattle.nts_store.specs.Filled.{HasValues}
use Rattle.nts_folding.specs.Folding.{StaysHere, StaysMade, MayAnswer, asked_as, HandsOver, AtBinder, Walk, done, next, answer, down}
use Rattle.nts_canonical.specs.Mapping.{AnswersImage, IsAny, itself, same_state}
use Rattle.nts_model.proofs.Tables.TableInstances.{deeply_resolved-more}
use Rattle.nts_model.proofs.Canonical.Positioned.{resolved_label as resolved_node}

-- no folder is asked for what it is
abbrev pub IsUnasked : NodeKind → Type 0
IsUnasked (of_sort s) = ⊥
IsUnasked bound_predicate = ⊥
IsUnasked k = Unit {0}

-- images of trees, and states, that go on child by child where no folder is asked
pub record IsMapping {S : Type 0} (P : S → Tree → Type 0) (f : S → Tree → Tree) (g : S → Tree → S) : Type 0 where
  pub image_empty : (s : S) → f s empty ≡ empty
  pub image_more : (s : S) (a b : Tree) → f s (more a b) ≡ more (f s a) (f (g s a) b)
  pub image_node : (s : S) (l : Label) (c : Tree) → IsUnasked (asked_as (node l c)) → f s (node l c) ≡ node l (f s c)
  pub after_empty : (s : S) → g s empty ≡ s
  pub after_more : (s : S) (a b : Tree) → g s (more a b) ≡ g (g s a) b
  pub after_node : (s : S) (l : Label) (c : Tree) → IsUnasked (asked_as (node l c)) → g s (node l c) ≡ g s c
  pub first : (s : S) (a b : Tree) → P s (more a b) → P s a
  pub rest : (s : S) (a b : Tree) → P s (more a b) → P (g s a) b
  pub below : (s : S) (l : Label) (c : Tree) → IsUnasked (asked_as (node l c)) → P s (node l c) → P s c

module _ {S : Type 0} (P : S → Tree → Type 0) (f : S → Tree → Tree) (g : S → Tree → S) (m : IsMapping P f g) where
  answered : (k : NodeKind) (s t : S) (x u : Tree) → P s x → MayAnswer (AnswersImage P f g) k s x (Some u) t → (u ≡ f s x) × (t ≡ g s x)
  answered (of_sort z) s t x u p h = let q : Some u ≡ Some (f s x) = (h p).0 in let r : u ≡ f s x = cc in (r, (h p).1)
  answered bound_predicate s t x u p h = let q : Some u ≡ Some (f s x) = (h p).0 in let r : u ≡ f s x = cc in (r, (h p).1)
  answered arguments s t x u p h = let q : Some u ≡ None = h.0 in cc
  answered environment s t x u p h = let q : Some u ≡ None = h.0 in cc
  answered statement s t x u p h = let q : Some u ≡ None = h.0 in cc
  answered sort_list s t x u p h = let q : Some u ≡ None = h.0 in cc
  answered one_sort s t x u p h = let q : Some u ≡ None = h.0 in cc

  unasked : (k : NodeKind) (s t : S) (x : Tree) → P s x → MayAnswer (AnswersImage P f g) k s x None t → IsUnasked k × (t ≡ s)
  unasked (of_sort z) s t x p h = let q : None ≡ Some (f s x) = (h p).0 in cc
  unasked bound_predicate s t x p h = let q : None ≡ Some (f s x) = (h p).0 in cc
  unasked arguments s t x p h = (tt, h.1)
  unasked environment s t x p h = (tt, h.1)
  unasked statement s t x p h = (tt, h.1)
  unasked sort_list s t x p h = (tt, h.1)
  unasked one_sort s t x p h = (tt, h.1)

  step_same : (n : ℕ) (s t : S) → AtBinder StaysHere n s t → t ≡ s
  step_same zero s t h = h
  step_same (suc n) s t h = h

  handed_same : (k : NodeKind) (s t : S) (x y : Tree) → HandsOver StaysMade k s x y t → (y ≡ x) × (t ≡ s)
  handed_same (of_sort sort.Ty) s t x y h = h
  handed_same (of_sort sort.Region) s t x y h = h
  handed_same (of_sort sort.Const) s t x y h = h
  handed_same bound_predicate s t x y h = h
  handed_same arguments s t x y h = h
  handed_same environment s t x y h = h
  handed_same statement s t x y h = h
  handed_same sort_list s t x y h = h
  handed_same one_sort s t x y h = h

  pub walk_mapped : (x y : Tree) (s t : S) → P s x → Walk (AnswersImage P f g) StaysHere StaysHere StaysMade s x y t → (y ≡ f s x) × (t ≡ g s x)
  walk_mapped empty y s t p done = (sym (m.image_empty s), sym (m.after_empty s))
  walk_mapped (more a b) y s t p (next {s = n} {c = c} {d = d} v w) =
      let one : (c ≡ f s a) × (n ≡ g s a) = walk_mapped a c s n (m.first s a b p) v in
      let two : (d ≡ f n b) × (t ≡ g n b) = walk_mapped b d n t (subst (λ z. P z b) (sym one.1) (m.rest s a b p)) w in
      let both : d ≡ f (g s a) b = two.0 ∙ ap (λ z. f z b) one.1 in
      let made : more c d ≡ more (f s a) (f (g s a) b) = cc (one.0, both) in
      (made ∙ sym (m.image_more s a b), two.1 ∙ ap (λ z. g z b) one.1 ∙ sym (m.after_more s a b))
  walk_mapped (node l c) y s t p (answer a) = answered (asked_as (node l c)) s t (node l c) y p a.asks
  walk_mapped (node l c) y s t p (down {s = n} {t = r} {d = d} q w b) =
      let u = unasked (asked_as (node l c)) s q.asked (node l c) p q.asks in
      let entered : n ≡ s = step_same (binders l) q.asked n q.enters_binder ∙ u.1 in
      let below : (d ≡ f n c) × (r ≡ g n c) = walk_mapped c d n r (subst (λ z. P z c) (sym entered) (m.below s l c u.0 p)) w in
      let back = handed_same (kind_of_label l) b.left t (node l d) y b.hands in (
        back.0 ∙ ap (node l) (below.0 ∙ ap (λ z. f z c) entered) ∙ sym (m.image_node s l c u.0),
        back.1 ∙ step_same (binders l) r b.left b.leaves_binder ∙ below.1 ∙ ap (λ z. g z c) entered ∙ sym (m.after_node s l c u.0),
      )

-- under the values of a table
no_variable : (l : Label) (c : Tree) → IsUnasked (asked_as (node l c)) → variable_of l ≡ None
no_variable (label.Leaf x) c h = absurd h
no_variable (label.Bound a b n) c h = refl
no_variable (label.Ty x) c h = refl
no_variable (label.Const x) c h = refl
no_variable (label.Clause x) c h = refl
no_variable (label.Predicate x) c h = refl
no_variable (label.List x) c h = refl

pub resolving : IsMapping Knows deeply_resolved same_state
resolving = record {
  image_empty = deeply_resolved-empty;
  image_more = deeply_resolved-more;
  image_node = λ s l c u. resolved_node s l c (no_variable l c u);
  after_empty = λ s. refl;
  after_more = λ s a b. refl;
  after_node = λ s l c u. refl;
  first = λ s a b p. p.0;
  rest = λ s a b p. p.1;
  below = λ s l c u p. p.1;
}

-- the leaves in the order of first sight
seen_below : (s : List Leaf) (l : Label) (c : Tree) → IsUnasked (asked_as (node l c)) → seen is_fixed s (node l c) ≡ seen is_fixed s c
seen_below s (label.Leaf x) c h = absurd h
seen_below s (label.Bound a b n) c h = refl
seen_below s (label.Ty x) c h = refl
seen_below s (label.Const x) c h = refl
seen_below s (label.Clause x) c h = refl
seen_below s (label.Predicate x) c h = refl
seen_below s (label.List x) c h = refl

pub seeing : IsMapping IsAny itself (seen is_fixed)
seeing = record {
  image_empty = λ s. refl;
  image_more = λ s a b. refl;
  image_node = λ s l c u. refl;
  after_empty = λ s. refl;
  after_more = λ s a b. refl;
  after_node = seen_below;
  first = λ s a b p. tt;
  rest = λ s a b p. tt;
  below = λ s l c u p. tt;
}

-- positions in place of the leaves
positioned_below : (s : List Leaf) (l : Label) (c : Tree) → IsUnasked (asked_as (node l c)) → positioned s (node l c) ≡ node l (positioned s c)
positioned_below s (label.Leaf x) c h = absurd h
positioned_below s (label.Bound a b n) c h = refl
positioned_below s (label.Ty x) c h = refl
positioned_below s (label.Const x) c h = refl
positioned_below s (label.Clause x) c h = refl
positioned_below s (label.Predicate x) c h = refl
positioned_below s (label.List x) c h = refl

pub positioning : IsMapping IsAny positioned same_state
positioning = record {
  image_empty = λ s. refl;
  image_more = λ s a b. refl;
  image_node = positioned_below;
  after_empty = λ s. refl;
  after_more = λ s a b. refl;
  after_node = λ s l c u. refl;
  first = λ s a b p. tt;
  rest = λ s a b p. tt;
  below = λ s l c u p. tt;
}

-- values in place of positions
filled_below : (s : List Tree) (l : Label) (c : Tree) → IsUnasked (asked_as (node l c)) → filled s (node l c) ≡ node l (filled s c)
filled_below s (label.Leaf x) c h = absurd h
filled_below s (label.Bound a b n) c h = absurd h
filled_below s (label.Ty x) c h = refl
filled_below s (label.Const x) c h = refl
filled_below s (label.Clause x) c h = refl
filled_below s (label.Predicate x) c h = refl
filled_below s (label.List x) c h = refl

pub filling : IsMapping HasValues filled same_state
filling = record {
  image_empty = λ s. refl;
  image_more = λ s a b. refl;
  image_node = filled_below;
  after_empty = λ s. refl;
  after_more = λ s a b. refl;
  after_node = λ s l c u. refl;
  first = λ s a b p. p.0;
  rest = λ s a b p. p.1;
  below = λ s l c u p. p.1;
}
