-- A row with one tree more at its end, and aliases, where leaves are replaced and values are put in.
use Rattle.std.proofs.Common.{◌≡◌, ◌⊎◌, inl, inr, ℕ, ◌+◌, ◌||◌, Bool, false, List, Some, refl, ap, ◌∙◌, arith}
use Rattle.nts_model.specs.declared.labels.Sort.{Sort}
use Rattle.nts_model.specs.declared.labels.Variance.TheVariants as variance
use Rattle.nts_model.specs.declared.labels.Leaf.{Leaf}
use Rattle.nts_model.specs.declared.labels.AliasHead.{AliasHead}
use Rattle.nts_model.specs.declared.labels.AliasHead.TheVariants as alias_of
use Rattle.nts_model.specs.declared.labels.Label.{Label}
use Rattle.nts_model.specs.Terms.Trees.{Tree, empty, more, node, any_label, is_canonical, row_push, row_length, kind_of, of_sort, sort_of_alias, any_term, any_argument, FitsPlace, AllFit, IsRow, IsClosedUnder, IsFormed}
use Rattle.nts_model.specs.Terms.Scoping.{IsWellBound}
use Rattle.nts_model.specs.Terms.Substitutions.{Occurs, replace, filled_under}
use Rattle.nts_model.specs.Derivations.Related.{alias, alias_goal}
use Rattle.nts_model.specs.Derivations.Handlers.{NamesFresh, IsOver}
use Rattle.nts_model.proofs.Terms.Substituting.{closed_under_more}
use Rattle.nts_model.proofs.Terms.Scoping.{closed_listed}
use Rattle.nts_delegate.specs.Clauses.{is_foreign}
use Rattle.nts_delegate.specs.OwnTerms.{both_false, filled_nowhere}
use Rattle.nts_delegate.specs.OwnClauses.{IsOwnTerm}

pub either_false : {p q : Bool} → p ≡ false → q ≡ false → (p || q) ≡ false
either_false {p} {q} h k = rw (h, k) refl

pub push_row : (t v : Tree) → IsRow t → IsRow (row_push t v)
push_row empty v h = tt
push_row (more a b) v h = push_row b v h
push_row (node l c) v h = absurd h

pub push_length : (t v : Tree) → IsRow t → row_length (row_push t v) ≡ row_length t + 1
push_length empty v h = refl
push_length (more a b) v h = ap (λ n. n + 1) (push_length b v h)
push_length (node l c) v h = absurd h

pub push_replace : (f : Leaf → Tree) (t v : Tree) → IsRow t → replace f (row_push t v) ≡ row_push (replace f t) (replace f v)
push_replace f empty v h = refl
push_replace f (more a b) v h = ap (more (replace f a)) (push_replace f b v h)
push_replace f (node l c) v h = absurd h

pub push_lacks : (p : Label → Bool) (t v : Tree) → IsRow t → any_label p t ≡ false → any_label p v ≡ false → any_label p (row_push t v) ≡ false
push_lacks p empty v r h k = either_false k refl
push_lacks p (more a b) v r h k =
    let s = both_false (any_label p a) (any_label p b) h in either_false s.0 (push_lacks p b v r s.1 k)
push_lacks p (node l c) v r h k = absurd r

pub push_names : (fresh : List Sort) (t v : Tree) → IsRow t → NamesFresh fresh t → NamesFresh fresh v → NamesFresh fresh (row_push t v)
push_names fresh empty v r h k = (k, tt)
push_names fresh (more a b) v r h k = (h.0, push_names fresh b v r h.1 k)
push_names fresh (node l c) v r h k = absurd r

pub push_closed : (n : ℕ) (t v : Tree) → IsRow t → IsClosedUnder n t → IsClosedUnder n v → IsClosedUnder n (row_push t v)
push_closed n empty v r h k = (k, tt)
push_closed n (more a b) v r h k = (h.0, push_closed n b v r h.1 k)
push_closed n (node l c) v r h k = absurd r

pub push_well_bound : (t v : Tree) → IsRow t → IsWellBound t → IsWellBound v → IsWellBound (row_push t v)
push_well_bound empty v r h k = (k, tt)
push_well_bound (more a b) v r h k = (h.0, push_well_bound b v r h.1 k)
push_well_bound (node l c) v r h k = absurd r

push_formed : (t v : Tree) → IsRow t → IsFormed t → IsFormed v → IsFormed (row_push t v)
push_formed empty v r h k = (k, tt)
push_formed (more a b) v r h k = (h.0, push_formed b v r h.1 k)
push_formed (node l c) v r h k = absurd r

pub push_leaves : (l : Leaf) (t v : Tree) → IsRow t → Occurs l (row_push t v) → Occurs l t ⊎ Occurs l v
push_leaves l empty v r (inl o) = inr o
push_leaves l empty v r (inr o) = absurd o
push_leaves l (more a b) v r (inl o) = inl (inl o)
push_leaves l (more a b) v r (inr o) = later (push_leaves l b v r o)
  where
    later : Occurs l b ⊎ Occurs l v → (Occurs l a ⊎ Occurs l b) ⊎ Occurs l v
    later (inl x) = inl (inr x)
    later (inr x) = inr x
push_leaves l (node m c) v r o = absurd r

-- terms of a clause
pub push_own : (fresh : List Sort) (t v : Tree) → IsRow t → IsOwnTerm fresh t → IsOwnTerm fresh v → IsOwnTerm fresh (row_push t v)
push_own fresh t v r h k =
    record {
      names = push_names fresh t v r h.names k.names;
      own = push_lacks is_foreign t v r h.own k.own;
      formed = push_formed t v r h.formed k.formed;
      closed = push_closed 0 t v r h.closed k.closed;
      well_bound = push_well_bound t v r h.well_bound k.well_bound;
    }

-- terms over a goal
pub push_over : (fresh : List Sort) (e g t v : Tree) → IsRow t → IsOver fresh e g t → IsOver fresh e g v → IsOver fresh e g (row_push t v)
push_over fresh e g t v r h k =
    record {
      names = push_names fresh t v r h.names k.names;
      leaves = λ l o. elim (push_leaves l t v r o) [
        | inl x ↦ h.leaves l x
        | inr x ↦ k.leaves l x
      ];
      formed = push_formed t v r h.formed k.formed;
      closed = push_closed 0 t v r h.closed k.closed;
      well_bound = push_well_bound t v r h.well_bound k.well_bound;
    }

-- aliases
pub alias_replaced : (f : Leaf → Tree) (h : AliasHead) (us : Tree) → replace f (alias h us) ≡ alias h (replace f us)
alias_replaced f (alias_of.Ty i) us = refl
alias_replaced f (alias_of.Const i) us = refl

alias_lacks : (h : AliasHead) (us : Tree) → any_label is_canonical us ≡ false → any_label is_canonical (alias h us) ≡ false
alias_lacks (alias_of.Ty i) us k = either_false k refl
alias_lacks (alias_of.Const i) us k = either_false k refl

pub alias_filled : (f : Leaf → Tree) (vs : List Tree) (h : AliasHead) (us : Tree) → any_label is_canonical us ≡ false → filled_under f vs (alias h us) ≡ alias h (replace f us)
alias_filled f vs h us k = filled_nowhere f vs (alias h us) (alias_lacks h us k) ∙ alias_replaced f h us

alias_leaves : (l : Leaf) (h : AliasHead) (us : Tree) → Occurs l (alias h us) → Occurs l us
alias_leaves l (alias_of.Ty i) us (inl e) = cc
alias_leaves l (alias_of.Ty i) us (inr (inl (inl e))) = cc
alias_leaves l (alias_of.Ty i) us (inr (inl (inr x))) = x
alias_leaves l (alias_of.Ty i) us (inr (inr x)) = absurd x
alias_leaves l (alias_of.Const i) us (inl e) = cc
alias_leaves l (alias_of.Const i) us (inr (inl (inl e))) = cc
alias_leaves l (alias_of.Const i) us (inr (inl (inr x))) = x
alias_leaves l (alias_of.Const i) us (inr (inr x)) = absurd x

alias_names : (fresh : List Sort) (h : AliasHead) (us : Tree) → NamesFresh fresh us → NamesFresh fresh (alias h us)
alias_names fresh (alias_of.Ty i) us k = (tt, ((tt, k), tt))
alias_names fresh (alias_of.Const i) us k = (tt, ((tt, k), tt))

alias_closed : (h : AliasHead) (us : Tree) → IsClosedUnder 0 us → IsClosedUnder 0 (alias h us)
alias_closed (alias_of.Ty i) us k = (tt, ((tt, k), tt))
alias_closed (alias_of.Const i) us k = (tt, ((tt, k), tt))

alias_well_bound : (h : AliasHead) (us : Tree) → IsWellBound us → IsWellBound (alias h us)
alias_well_bound (alias_of.Ty i) us k = (tt, ((tt, k), tt))
alias_well_bound (alias_of.Const i) us k = (tt, ((tt, k), tt))

alias_formed : (h : AliasHead) (us : Tree) → AllFit any_argument us → IsFormed us → IsFormed (alias h us)
alias_formed (alias_of.Ty i) us a k = ((refl, tt), ((a, k), tt))
alias_formed (alias_of.Const i) us a k = ((refl, tt), ((a, k), tt))

pub alias_over : (fresh : List Sort) (e g : Tree) (h : AliasHead) (us : Tree) → AllFit any_argument us → IsOver fresh e g us → IsOver fresh e g (alias h us)
alias_over fresh e g h us a o =
    record {
      names = alias_names fresh h us o.names;
      leaves = λ l x. o.leaves l (alias_leaves l h us x);
      formed = alias_formed h us a o.formed;
      closed = alias_closed h us o.closed;
      well_bound = alias_well_bound h us o.well_bound;
    }

-- the goal that relates an alias with a term as it is
alias_fits : (h : AliasHead) (us : Tree) → FitsPlace any_term (kind_of (alias h us))
alias_fits (alias_of.Ty i) us = λ e. cc
alias_fits (alias_of.Const i) us = λ e. cc

result_fits : (h : AliasHead) (v : Tree) → kind_of v ≡ Some (of_sort (sort_of_alias h)) → FitsPlace any_term (kind_of v)
result_fits (alias_of.Ty i) v k = rw k (λ e. cc)
result_fits (alias_of.Const i) v k = rw k (λ e. cc)

related_leaves : (l : Leaf) (a v : Tree) → Occurs l (alias_goal variance.Invariant a v) → Occurs l a ⊎ Occurs l v
related_leaves l a v (inl e) = cc
related_leaves l a v (inr (inl (inl e))) = cc
related_leaves l a v (inr (inl (inr x))) = absurd x
related_leaves l a v (inr (inr (inl (inl e)))) = cc
related_leaves l a v (inr (inr (inl (inr (inl x))))) = inl x
related_leaves l a v (inr (inr (inl (inr (inr (inl x)))))) = inr x
related_leaves l a v (inr (inr (inl (inr (inr (inr x)))))) = absurd x
related_leaves l a v (inr (inr (inr x))) = absurd x

pub related_over : (fresh : List Sort) (e g : Tree) (h : AliasHead) (us v : Tree) → AllFit any_argument us → kind_of v ≡ Some (of_sort (sort_of_alias h)) → IsOver fresh e g us → IsOver fresh e g v
    → IsOver fresh e g (alias_goal variance.Invariant (alias h us) v)
related_over fresh e g h us v a k o w =
    let x = alias_over fresh e g h us a o in
    let one = closed_under_more 0 1 (alias h us) (omega arith) x.closed in
    let two = closed_under_more 0 1 v (omega arith) w.closed in
    record {
      names = (tt, ((tt, tt), ((tt, (x.names, (w.names, tt))), tt)));
      leaves = λ l y. elim (related_leaves l (alias h us) v y) [
        | inl z ↦ x.leaves l z
        | inr z ↦ w.leaves l z
      ];
      formed = ((refl, (refl, tt)), ((tt, tt), (((alias_fits h us, (result_fits h v k, tt)), (x.formed, (w.formed, tt))), tt)));
      closed = (tt, ((tt, tt), ((tt, (one, (two, tt))), tt)));
      well_bound = (((tt, tt), ((tt, (closed_listed empty 0 (alias h us) x.closed, (closed_listed empty 0 v w.closed, tt))), tt)), ((tt, tt), ((tt, (x.well_bound, (w.well_bound, tt))), tt)));
    }
