-- A goal that is decided has no variable but of regions.
use Rattle.std.proofs.Common.{◌≡◌, inl, inr, ℕ, suc, ◌+◌, true, false, Some, refl, sym, ap, subst, ◌∙◌}
use Rattle.std.specs.Prelude.{Bool, ◌⊎◌, ◌||◌}
use Rattle.nts_model.specs.declared.labels.Sort.{Sort}
use Rattle.nts_model.specs.declared.labels.VariableKind.TheVariants as kind
use Rattle.nts_model.specs.declared.labels.Leaf.{Leaf}
use Rattle.nts_model.specs.declared.labels.Leaf.TheVariants as leaf
use Rattle.nts_model.specs.declared.labels.ListHead.TheVariants as list
use Rattle.nts_model.specs.declared.labels.Label.{Label}
use Rattle.nts_model.specs.declared.labels.Label.TheVariants as label
use Rattle.nts_model.specs.Terms.Trees.{Tree, empty, more, node, any_label, is_infer, binders, kind_of, one_sort, is, AllFit, IsFormed}
use Rattle.nts_model.specs.Tables.Contents.{Content}
use Rattle.nts_model.specs.Tables.Resolving.{Knows, deeply_resolved}
use Rattle.nts_model.specs.Tables.Holding.{Continues}
use Rattle.nts_model.specs.Derivations.Related.{pair, unbound}
use Rattle.nts_model.specs.Derivations.Rules.{Mode, statement_of, opened, opened_at, bound}
use Rattle.nts_model.specs.Derivations.Handlers.{Handler}
use Rattle.nts_model.specs.Refutation.Opening.{binds, placeholder_in}
use Rattle.nts_decisions.specs.Deciding.{blurred_leaf, blurred, top_level, opened_next, IsDecided}
use Rattle.nts_model.proofs.Terms.Substituting.{no_children, leaf_alone, IsFormed-replace}
use Rattle.nts_model.proofs.Terms.Unpositioned.{or_false}
use Rattle.nts_decisions.proofs.Deciding.{infer_none}
use Rattle.nts_decisions.proofs.BlurredWorlds.{merged_leaf, blurred_kinds, blurred_leaf_formed}
use Rattle.nts_decisions.proofs.DecidingRenamed.{labels_renamed}
use Rattle.nts_decisions.proofs.Reopening.{binding}
use Rattle.nts_decisions.proofs.DecidedOpening.{as_leaves}
use Rattle.nts_decisions.proofs.DecidedGoals.{later_blurred}
use Rattle.nts_model.proofs.Terms.Listed.{either as two_ways}

infer_merged : (l : Leaf) → is_infer (label.Leaf (merged_leaf l)) ≡ is_infer (label.Leaf l)
infer_merged (leaf.Region r) = refl
infer_merged (leaf.Variable kind.Region n) = refl
infer_merged (leaf.Variable kind.Ty n) = refl
infer_merged (leaf.Variable kind.Int n) = refl
infer_merged (leaf.Variable kind.Float n) = refl
infer_merged (leaf.Variable kind.Const n) = refl
infer_merged (leaf.TyConstant a) = refl
infer_merged (leaf.ConstConstant a) = refl

pub infer_blurred : (t : Tree) → IsFormed t → any_label is_infer (blurred t) ≡ any_label is_infer t
infer_blurred t f = ap (any_label is_infer) (as_leaves t) ∙ labels_renamed is_infer merged_leaf infer_merged t f

-- what a binder says
none_below : (l : Label) (c : Tree) → is_infer l ≡ false → any_label is_infer c ≡ false → any_label is_infer (node l c) ≡ false
none_below l c e f = rw (e, f) refl

opened_node : (g : Sort → ℕ → Leaf) (c : ℕ) (l : Label) (t u : Tree) → IsFormed (node l t) → (any_label is_infer (blurred u) ≡ false → any_label is_infer t ≡ false) → any_label is_infer (blurred (opened_at g c l u)) ≡ false → any_label is_infer (node l t) ≡ false
opened_node g c (label.Leaf (leaf.Region r)) t u f h e = rw (leaf_alone (leaf.Region r) t f) refl
opened_node g c (label.Leaf (leaf.Variable kind.Region n)) t u f h e = rw (leaf_alone (leaf.Variable kind.Region n) t f) refl
opened_node g c (label.Leaf (leaf.Variable kind.Ty n)) t u f h e = absurd (cc e)
opened_node g c (label.Leaf (leaf.Variable kind.Int n)) t u f h e = absurd (cc e)
opened_node g c (label.Leaf (leaf.Variable kind.Float n)) t u f h e = absurd (cc e)
opened_node g c (label.Leaf (leaf.Variable kind.Const n)) t u f h e = absurd (cc e)
opened_node g c (label.Leaf (leaf.TyConstant a)) t u f h e = rw (leaf_alone (leaf.TyConstant a) t f) refl
opened_node g c (label.Leaf (leaf.ConstConstant a)) t u f h e = rw (leaf_alone (leaf.ConstConstant a) t f) refl
opened_node g c (label.Bound s i n) t u f h e = rw (no_children t f.0) refl
opened_node g c (label.Ty x) t u f h e = h e
opened_node g c (label.Const x) t u f h e = h e
opened_node g c (label.Clause x) t u f h e = h e
opened_node g c (label.Predicate x) t u f h e = h e
opened_node g c (label.List x) t u f h e = h e

opened_infer : (g : Sort → ℕ → Leaf) (c : ℕ) (t : Tree) → IsFormed t → any_label is_infer (blurred (opened g c t)) ≡ false → any_label is_infer t ≡ false
opened_infer g c empty f e = refl
opened_infer g c (more a b) f e =
    (let x = or_false (any_label is_infer (blurred (opened g c a))) (any_label is_infer (blurred (opened g c b))) e in
    rw (opened_infer g c a f.0 x.0, opened_infer g c b f.1 x.1) refl)
opened_infer g c (node l t) f e = opened_node g c l t (opened g (c + binders l) t) f (λ q. opened_infer g (c + binders l) t f.1 q) e

-- the sorts of a binder
sort_alone : (a : Tree) → kind_of a ≡ Some one_sort → IsFormed a → any_label is_infer a ≡ false
sort_alone (node (label.List (list.Sort s)) c) k f = rw (no_children c f.0) refl
sort_alone a k f = absurd (cc k)

sorts_alone : (ss : Tree) → AllFit (is one_sort) ss → IsFormed ss → any_label is_infer ss ≡ false
sorts_alone empty h f = refl
sorts_alone (more a b) h f = rw (sort_alone a h.0 f.0, sorts_alone b h.1 f.1) refl
sorts_alone (node l c) h f = absurd h

pub decided_no_infer : (h : Handler) (mode : Mode) (e : Tree) (n : ℕ) (u : Tree) (b : Bool) → IsFormed u → IsDecided h mode e n (blurred u) b → any_label is_infer u ≡ false
decided_no_infer h mode e n u b f d = go (two_ways (binds (blurred u)))
  where
    plain : any_label is_infer (opened_next e (blurred u)) ≡ false
    plain =
        (let q = or_false (any_label is_infer e) (any_label is_infer (opened_next e (blurred u)) || false) (infer_none h mode e (blurred u) n b d) in
        (or_false (any_label is_infer (opened_next e (blurred u))) false q.1).0)

    whole : IsFormed (blurred u)
    whole = IsFormed-replace blurred_leaf blurred_kinds blurred_leaf_formed u f

    go : (binds (blurred u) ≡ true) ⊎ (binds (blurred u) ≡ false) → any_label is_infer u ≡ false
    go (inr k) = sym (infer_blurred u f) ∙ (rw k at plain)
    go (inl k) =
        (let x = binding (blurred u) k in
        let t : IsFormed (bound (more x.sort x.sorts) x.says) = subst IsFormed x.is whole in
        let g : Sort → ℕ → Leaf = placeholder_in (suc (top_level (pair e (blurred u)))) in
        let shown : opened_next e (blurred u) ≡ unbound (blurred (opened g 0 (statement_of (blurred u)))) = rw k refl in
        let says : statement_of (blurred u) ≡ x.says = ap statement_of x.is in
        let q : any_label is_infer (unbound (blurred (opened g 0 x.says))) ≡ false = ap (λ z. any_label is_infer (unbound (blurred (opened g 0 z)))) (sym says) ∙ ap (any_label is_infer) (sym shown) ∙ plain in
        let r : any_label is_infer (blurred (opened g 0 x.says)) ≡ false = (or_false (any_label is_infer (blurred (opened g 0 x.says))) false q).0 in
        let says_none : any_label is_infer x.says ≡ false = opened_infer g 0 x.says (t.1.1.0) r in
        let sorts_none : any_label is_infer (more x.sort x.sorts) ≡ false = sorts_alone (more x.sort x.sorts) (t.1.0.0) (t.1.0.1) in
        let all : any_label is_infer (bound (more x.sort x.sorts) x.says) ≡ false = rw (sorts_none, says_none) refl in
        sym (infer_blurred u f) ∙ ap (any_label is_infer) x.is ∙ all)

-- so a goal that a table knows, and that is decided there, is the same but for regions in each later table
pub decided_later : (h : Handler) (mode : Mode) (e : Tree) (n : ℕ) (b : Bool) (c d : Content) (t : Tree) → Continues c d → Knows c t → IsFormed (deeply_resolved c t) → IsDecided h mode e n (blurred (deeply_resolved c t)) b → blurred (deeply_resolved d t) ≡ blurred (deeply_resolved c t)
decided_later h mode e n b c d t k knows f x = later_blurred c d t k knows (decided_no_infer h mode e n (deeply_resolved c t) b f x)
