-- A goal that rules of a handler say has no alias if it is decided. So in coherence too decided goals are asked as they stand.
use Rattle.std.proofs.Common.{◌≡◌, inl, inr, ℕ, suc, ◌+◌, true, false, List, Some, refl, sym, ap, subst, ◌∙◌}
use Rattle.std.specs.Prelude.{Bool, ◌⊎◌, ◌||◌}
use Rattle.nts_model.specs.declared.labels.Sort.{Sort}
use Rattle.nts_model.specs.declared.labels.Leaf.{Leaf}
use Rattle.nts_model.specs.declared.labels.ListHead.TheVariants as list
use Rattle.nts_model.specs.declared.labels.Label.{Label}
use Rattle.nts_model.specs.declared.labels.Label.TheVariants as label
use Rattle.nts_model.specs.Terms.Trees.{Tree, empty, more, node, any_label, is_alias, binders, kind_of, one_sort, is, AllFit, IsFormed}
use Rattle.nts_model.specs.Terms.Substitutions.{put, replace}
use Rattle.nts_model.specs.Tables.Contents.{Content}
use Rattle.nts_model.specs.Tables.Resolving.{deeply_resolved}
use Rattle.nts_model.specs.Lists.{Among}
use Rattle.nts_model.specs.Derivations.Related.{pair, unbound}
use Rattle.nts_model.specs.Derivations.Sequents.{Premise}
use Rattle.nts_model.specs.Derivations.Rules.{Mode, statement_of, opened, opened_at, bound, IsHandlers}
use Rattle.nts_model.specs.Derivations.Handlers.{Handler, Judgements}
use Rattle.nts_model.specs.Refutation.Opening.{binds, placeholder_in}
use Rattle.nts_model.proofs.Tables.TableInstances.{read_leaf, replace-read_leaf}
use Rattle.nts_model.proofs.Terms.Substituting.{no_children, leaf_alone, IsFormed-replace}
use Rattle.nts_model.proofs.Terms.Unpositioned.{or_false}
use Rattle.nts_model.proofs.Terms.Listed.{either as two_ways}
use Rattle.nts_theory.specs.AskedGoals.{is_engines, is_asked, those_asked, all_asked}
use Rattle.nts_theory.proofs.Refutation.UsedRules.{handlers_replaced, handlers_opened}
use Rattle.nts_theory.proofs.Refutation.Affirming.{affirmed_no_handlers, denied_no_handlers}
use Rattle.nts_theory.proofs.Refutation.AskedGoals.{among_asked}
use Rattle.nts_decisions.specs.Deciding.{blurred_leaf, blurred, top_level, opened_next, IsJudged, IsDecided, by_candidates, by_region, by_judgement, by_own_way, IsGoalDecided}
use Rattle.nts_decisions.specs.Faring.{AreDecidedIn, none_asked, next_yes, next_no, IsOfTable, AreDecidedHere}
use Rattle.nts_decisions.proofs.Deciding.{judged_itself}
use Rattle.nts_decisions.proofs.BlurredWorlds.{blurred_kinds, blurred_leaf_formed}
use Rattle.nts_decisions.proofs.Reopening.{binding}
use Rattle.nts_decisions.proofs.PlainOffers.{alias_blurred}

-- no alias stands where none stands once leaves gave place to terms
before_node : (f : Leaf → Tree) (l : Label) (t u : Tree) → IsFormed (node l t) → (any_label is_alias u ≡ false → any_label is_alias t ≡ false) → any_label is_alias (put f l u) ≡ false → any_label is_alias (node l t) ≡ false
before_node f (label.Leaf x) t u k h e = rw (leaf_alone x t k) refl
before_node f (label.Bound s i n) t u k h e = rw (no_children t k.0) refl
before_node f (label.Ty x) t u k h e = (let q = or_false (is_alias (label.Ty x)) (any_label is_alias u) e in rw (q.0, h q.1) refl)
before_node f (label.Const x) t u k h e = (let q = or_false (is_alias (label.Const x)) (any_label is_alias u) e in rw (q.0, h q.1) refl)
before_node f (label.Clause x) t u k h e = h e
before_node f (label.Predicate x) t u k h e = h e
before_node f (label.List x) t u k h e = h e

unaliased_before : (f : Leaf → Tree) (t : Tree) → IsFormed t → any_label is_alias (replace f t) ≡ false → any_label is_alias t ≡ false
unaliased_before f empty k e = refl
unaliased_before f (more a b) k e =
    (let x = or_false (any_label is_alias (replace f a)) (any_label is_alias (replace f b)) e in
    rw (unaliased_before f a k.0 x.0, unaliased_before f b k.1 x.1) refl)
unaliased_before f (node l t) k e = before_node f l t (replace f t) k (λ q. unaliased_before f t k.1 q) e

-- .. and once what a goal binds gave place to placeholders
opened_node : (g : Sort → ℕ → Leaf) (c : ℕ) (l : Label) (t u : Tree) → IsFormed (node l t) → (any_label is_alias (blurred u) ≡ false → any_label is_alias t ≡ false) → any_label is_alias (blurred (opened_at g c l u)) ≡ false → any_label is_alias (node l t) ≡ false
opened_node g c (label.Leaf x) t u k h e = rw (leaf_alone x t k) refl
opened_node g c (label.Bound s i n) t u k h e = rw (no_children t k.0) refl
opened_node g c (label.Ty x) t u k h e = (let q = or_false (is_alias (label.Ty x)) (any_label is_alias (blurred u)) e in rw (q.0, h q.1) refl)
opened_node g c (label.Const x) t u k h e = (let q = or_false (is_alias (label.Const x)) (any_label is_alias (blurred u)) e in rw (q.0, h q.1) refl)
opened_node g c (label.Clause x) t u k h e = h e
opened_node g c (label.Predicate x) t u k h e = h e
opened_node g c (label.List x) t u k h e = h e

opened_alias : (g : Sort → ℕ → Leaf) (c : ℕ) (t : Tree) → IsFormed t → any_label is_alias (blurred (opened g c t)) ≡ false → any_label is_alias t ≡ false
opened_alias g c empty k e = refl
opened_alias g c (more a b) k e =
    (let x = or_false (any_label is_alias (blurred (opened g c a))) (any_label is_alias (blurred (opened g c b))) e in
    rw (opened_alias g c a k.0 x.0, opened_alias g c b k.1 x.1) refl)
opened_alias g c (node l t) k e = opened_node g c l t (opened g (c + binders l) t) k (λ q. opened_alias g (c + binders l) t k.1 q) e

sort_alone : (a : Tree) → kind_of a ≡ Some one_sort → IsFormed a → any_label is_alias a ≡ false
sort_alone (node (label.List (list.Sort s)) c) k f = rw (no_children c f.0) refl
sort_alone a k f = absurd (cc k)

sorts_alone : (ss : Tree) → AllFit (is one_sort) ss → IsFormed ss → any_label is_alias ss ≡ false
sorts_alone empty h f = refl
sorts_alone (more a b) h f = rw (sort_alone a h.0 f.0, sorts_alone b h.1 f.1) refl
sorts_alone (node l c) h f = absurd h

module _ (e u : Tree) (f : IsFormed u) where
  whole : IsFormed (blurred u)
  whole = IsFormed-replace blurred_leaf blurred_kinds blurred_leaf_formed u f

  abbrev shown : binds (blurred u) ≡ true → opened_next e (blurred u) ≡ unbound (blurred (opened (placeholder_in (suc (top_level (pair e (blurred u))))) 0 (statement_of (blurred u))))
  shown k = rw k refl

  none_next : any_label is_alias (opened_next e (blurred u)) ≡ false → any_label is_alias u ≡ false
  none_next plain = go (two_ways (binds (blurred u)))
    where
      go : (binds (blurred u) ≡ true) ⊎ (binds (blurred u) ≡ false) → any_label is_alias u ≡ false
      go (inr k) = sym (alias_blurred u f) ∙ (rw k at plain)
      go (inl k) =
          (let x = binding (blurred u) k in
          let t : IsFormed (bound (more x.sort x.sorts) x.says) = subst IsFormed x.is whole in
          let g : Sort → ℕ → Leaf = placeholder_in (suc (top_level (pair e (blurred u)))) in
          let says : statement_of (blurred u) ≡ x.says = ap statement_of x.is in
          let q : any_label is_alias (unbound (blurred (opened g 0 x.says))) ≡ false = ap (λ z. any_label is_alias (unbound (blurred (opened g 0 z)))) (sym says) ∙ ap (any_label is_alias) (sym (shown k)) ∙ plain in
          let r : any_label is_alias (blurred (opened g 0 x.says)) ≡ false = (or_false (any_label is_alias (blurred (opened g 0 x.says))) false q).0 in
          let says_none : any_label is_alias x.says ≡ false = opened_alias g 0 x.says (t.1.1.0) r in
          let sorts_none : any_label is_alias (more x.sort x.sorts) ≡ false = sorts_alone (more x.sort x.sorts) (t.1.0.0) (t.1.0.1) in
          let all : any_label is_alias (bound (more x.sort x.sorts) x.says) ≡ false = rw (sorts_none, says_none) refl in
          sym (alias_blurred u f) ∙ ap (any_label is_alias) x.is ∙ all)

  none_there : any_label is_alias (pair e (opened_next e (blurred u))) ≡ false → any_label is_alias u ≡ false
  none_there plain =
      (let q = or_false (any_label is_alias e) (any_label is_alias (opened_next e (blurred u)) || false) plain in
      none_next (or_false (any_label is_alias (opened_next e (blurred u))) false q.1).0)

-- what rules of a handler say, with leaves replaced
rules_replaced : (f : Leaf → Tree) (g : Tree) → IsHandlers (statement_of g) → IsHandlers (statement_of (replace f g))
rules_replaced f (node (label.List list.Binder) (more v (more s empty))) h = handlers_replaced f s h
rules_replaced f g h = absurd h

said_next : (e u : Tree) → IsHandlers (statement_of u) → IsHandlers (statement_of (opened_next e (blurred u)))
said_next e u h = go (two_ways (binds (blurred u)))
  where
    said : IsHandlers (statement_of (blurred u))
    said = rules_replaced blurred_leaf u h

    go : (binds (blurred u) ≡ true) ⊎ (binds (blurred u) ≡ false) → IsHandlers (statement_of (opened_next e (blurred u)))
    go (inr k) = rw k said
    go (inl k) = (let g : Sort → ℕ → Leaf = placeholder_in (suc (top_level (pair e (blurred u)))) in rw k (handlers_replaced blurred_leaf (opened g 0 (statement_of (blurred u))) (handlers_opened g 0 (statement_of (blurred u)) said)))

-- no handler judges what its rules say
judged_no_rules : (j : Judgements) (e s : Tree) (b : Bool) → IsJudged j e s b → IsHandlers s → ⊥
judged_no_rules j e s true x i = affirmed_no_handlers j e s x i
judged_no_rules j e s false x i = denied_no_handlers j s x i

decided_said : (h : Handler) (mode : Mode) (e : Tree) (n : ℕ) (u : Tree) (b : Bool) → IsFormed u → IsHandlers (statement_of u) → IsDecided h mode e n (blurred u) b → any_label is_alias u ≡ false
decided_said h mode e n u b f i (by_candidates xs plain uniform holds) = none_there e u f plain.no_alias
decided_said h mode e n u b f i (by_region r) = none_there e u f r.no_alias
decided_said h mode e n u b f i (by_judgement y) =
    absurd (judged_no_rules h.judges e y.statement b (judged_itself h e (opened_next e (blurred u)) b y) (subst (λ z. IsHandlers (statement_of z)) y.binds_nothing (said_next e u i)))
decided_said h mode e n u b f i (by_own_way x y holds) = none_there e u f y.no_alias

-- so a decided goal of a table is asked as it stands
pub decided_is_asked : (h : Handler) (mode : Mode) (m : ℕ) (d : Content) (p : Premise) (b : Bool) → IsOfTable d p → IsFormed p.predicate → (is_engines (statement_of p.predicate) ≡ false → IsHandlers (statement_of p.predicate))
    → IsGoalDecided h mode m (deeply_resolved d p.environment) (deeply_resolved d p.predicate) b → is_asked p.predicate ≡ true
decided_is_asked h mode m d p b t f kinds x = by_kind (is_engines (statement_of p.predicate)) refl
  where
    same : replace (read_leaf d) p.predicate ≡ deeply_resolved d p.predicate
    same = replace-read_leaf d p.predicate t.knows f

    none : is_engines (statement_of p.predicate) ≡ false → any_label is_alias p.predicate ≡ false
    none e =
        let said : IsHandlers (statement_of (deeply_resolved d p.predicate)) = subst (λ z. IsHandlers (statement_of z)) same (rules_replaced (read_leaf d) p.predicate (kinds e)) in
        unaliased_before (read_leaf d) p.predicate f (ap (any_label is_alias) same ∙ decided_said h mode _ m (deeply_resolved d p.predicate) b t.formed said x)

    by_kind : (z : Bool) → is_engines (statement_of p.predicate) ≡ z → is_asked p.predicate ≡ true
    by_kind true e = rw e refl
    by_kind false e = rw (e, none e) refl

-- .. and decided goals stay so where others are left out
module _ (h : Handler) (mode : Mode) (n : ℕ) (d : Content) where
  asked_decided : (ps : List Premise) (b : Bool) → ((p : Premise) → Among ps p → (m : ℕ) (c : Bool) → IsGoalDecided h mode m (deeply_resolved d p.environment) (deeply_resolved d p.predicate) c → is_asked p.predicate ≡ true)
      → AreDecidedIn h mode n d ps b → AreDecidedIn h mode n d (those_asked ps) b
  asked_decided ps b each none_asked = none_asked
  asked_decided ps b each (next_yes {p = p} {ps = qs} m l x rest) = rw (each p (inl refl) m true x) (next_yes m l x (asked_decided qs b (λ q i. each q (inr i)) rest))
  asked_decided ps b each (next_no {p = p} {ps = qs} m l x) = rw (each p (inl refl) m false x) (next_no m l x)

  pub all_decided : (ps : List Premise) (b : Bool) → b ≡ true → ((p : Premise) → Among ps p → (m : ℕ) (c : Bool) → IsGoalDecided h mode m (deeply_resolved d p.environment) (deeply_resolved d p.predicate) c → is_asked p.predicate ≡ true)
      → AreDecidedIn h mode n d ps b → all_asked ps ≡ true
  all_decided ps b e each none_asked = refl
  all_decided ps b e each (next_yes {p = p} {ps = qs} m l x rest) = rw (each p (inl refl) m true x, all_decided qs b e (λ q i. each q (inr i)) rest) refl
  all_decided ps b e each (next_no {p = p} {ps = qs} m l x) = absurd (cc e)

  pub decided_asked : (ps : List Premise) (b : Bool) → ((p : Premise) → Among ps p → (m : ℕ) (c : Bool) → IsGoalDecided h mode m (deeply_resolved d p.environment) (deeply_resolved d p.predicate) c → is_asked p.predicate ≡ true)
      → AreDecidedHere h mode n d ps b → AreDecidedHere h mode n d (those_asked ps) b
  decided_asked ps b each t = record { decided = asked_decided ps b each t.decided; each = λ p i. t.each p (among_asked ps p i).0 }
