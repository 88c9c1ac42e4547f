-- A goal that was added stands under each later table: variables were put in place of its aliases, each is related with its alias, and aliases
-- that values brought since stand for themselves.
use Rattle.std.proofs.Common.{◌≡◌, inr, ℕ, ◌+◌, Bool, true, false, List, refl, sym, ap, ◌∙◌, subst}
use Rattle.nts_model.specs.declared.labels.Leaf.{Leaf}
use Rattle.nts_model.specs.declared.labels.BoundVarIndexKind.TheVariants as index
use Rattle.nts_model.specs.declared.labels.TyHead.TheVariants as ty
use Rattle.nts_model.specs.declared.labels.ConstHead.TheVariants as konst
use Rattle.nts_model.specs.declared.labels.ListHead.TheVariants as list
use Rattle.nts_model.specs.declared.labels.AliasHead.{AliasHead}
use Rattle.nts_model.specs.declared.labels.AliasHead.TheVariants as alias_of
use Rattle.nts_model.specs.declared.labels.Label.{Label}
use Rattle.nts_model.specs.declared.labels.Label.TheVariants as label
use Rattle.nts_model.specs.Terms.Trees.{Tree, empty, more, node, binders, is_alias, IsClosedUnder, IsClosed, IsFormed}
use Rattle.nts_model.specs.Tables.Contents.{Content}
use Rattle.nts_model.specs.Tables.Resolving.{deeply_resolved, Knows, IsSound}
use Rattle.nts_model.specs.Terms.Substitutions.{replace}
use Rattle.nts_model.specs.Derivations.Related.{alias, IsAlias}
use Rattle.nts_model.specs.Derivations.Related.{arguments as arguments_of}
use Rattle.nts_model.specs.Derivations.Sequents.{Premise}
use Rattle.nts_model.specs.Derivations.Rules.{Meaning, Mode, GoalKind, statement_of, KeepsAliases, choice, IsTerm, Replaced, chosen, kept_empty, kept_more, kept_node, Stands}
use Rattle.nts_model.specs.Derivations.Proofs.{Assumed}
use Rattle.nts_model.specs.Derivations.Proving.{HoldsTerms, IsTermOf, AreConstraintsOf, read_constraints}
use Rattle.nts_model.proofs.Terms.Substituting.{leaf_alone}
use Rattle.nts_model.proofs.Tables.Resolved.{deeply_resolved-node, deeply_resolved-empty}
use Rattle.nts_model.proofs.Tables.ResolvedTerms.{IsFormed-deeply_resolved, IsClosed-deeply_resolved}
use Rattle.nts_model.proofs.Tables.TableInstances.{read_leaf, replace-read_leaf, deeply_resolved-more}
use Rattle.nts_model.proofs.Tables.Open.{Knows-deeply_resolved}
use Rattle.nts_model.proofs.Terms.Unpositioned.{IsFormedTerm, formed_term, known_no_positions, known_well_bound}
use Rattle.nts_theory.proofs.Derivations.Monotone.{replaced_more}
use Rattle.nts_theory.proofs.Derivations.ByCandidate.{read_itself}
use Rattle.nts_model.proofs.Tables.AlikeNodes.{closed_alias}
use Rattle.nts_model.proofs.Tables.AliasLabels.{not_alias, empty_no_alias}
use Rattle.nts_theory.proofs.Derivations.Served.{IsClosedEnvironment, Grows}
use Rattle.nts_theory.proofs.Derivations.Relating.{Chooses, chooses_grows, chooses_itself}
use Rattle.nts_theory.proofs.Derivations.Owing.{OwesFrom, owes_from, from_none, from_then, from_both}

-- a tree is closed if it is so with closed trees in place of its leaves
pub closed_before : (f : Leaf → Tree) (b : ℕ) (t : Tree) → IsFormed t → IsClosedUnder b (replace f t) → IsClosedUnder b t
closed_before f b empty i h = tt
closed_before f b (more x y) i h = (closed_before f b x i.0 h.0, closed_before f b y i.1 h.1)
closed_before f b (node (label.Leaf l) t) i h = rw (leaf_alone l t i) (tt, tt)
closed_before f b (node (label.Bound s (index.Bound d) n) t) i h = (h.0, closed_before f (b + binders (label.Bound s (index.Bound d) n)) t i.1 h.1)
closed_before f b (node (label.Bound s index.Canonical n) t) i h = (h.0, closed_before f (b + binders (label.Bound s index.Canonical n)) t i.1 h.1)
closed_before f b (node (label.Ty x) t) i h = (h.0, closed_before f (b + binders (label.Ty x)) t i.1 h.1)
closed_before f b (node (label.Const x) t) i h = (h.0, closed_before f (b + binders (label.Const x)) t i.1 h.1)
closed_before f b (node (label.Clause x) t) i h = (h.0, closed_before f (b + binders (label.Clause x)) t i.1 h.1)
closed_before f b (node (label.Predicate x) t) i h = (h.0, closed_before f (b + binders (label.Predicate x)) t i.1 h.1)
closed_before f b (node (label.List x) t) i h = (h.0, closed_before f (b + binders (label.List x)) t i.1 h.1)

pub closed_unresolved : (c : Content) (t : Tree) → Knows c t → IsFormed t → IsClosed (deeply_resolved c t) → IsClosed t
closed_unresolved c t k i h = closed_before (read_leaf c) 0 t i (subst IsClosed (sym (replace-read_leaf c t k i)) h)

-- an alias stays one
pub resolved_alias : (c : Content) (h : AliasHead) (ts : Tree) → deeply_resolved c (alias h ts) ≡ alias h (deeply_resolved c ts)
resolved_alias c (alias_of.Ty i) ts =
    let a = deeply_resolved-node c (label.Ty (ty.Alias i)) (arguments_of ts) refl in
    let b = deeply_resolved-more c (node (label.List list.Args) ts) empty in
    let x = deeply_resolved-node c (label.List list.Args) ts refl in
    let d = deeply_resolved-empty c in
    cc (a, b, x, d)
resolved_alias c (alias_of.Const i) ts =
    let a = deeply_resolved-node c (label.Const (konst.Unevaluated i)) (arguments_of ts) refl in
    let b = deeply_resolved-more c (node (label.List list.Args) ts) empty in
    let x = deeply_resolved-node c (label.List list.Args) ts refl in
    let d = deeply_resolved-empty c in
    cc (a, b, x, d)

abbrev pub alias_resolved : (c : Content) (a : Tree) → HoldsTerms c → IsAlias a → IsAlias (deeply_resolved c a)
alias_resolved c a t x =
    record { head = x.head; parts = deeply_resolved c x.parts; is = ap (deeply_resolved c) x.is ∙ resolved_alias c x.head x.parts; closed = IsClosed-deeply_resolved c a t x.closed }

-- what is no alias is none under the table, unless it is a variable
still_no_alias : (c : Content) (s : IsSound c) (l : Label) (x : Tree) → Knows c (node l x) → IsFormed (node l x) → deeply_resolved c (node l x) ≡ node l (deeply_resolved c x) → (IsAlias (node l x) → ⊥) → IsAlias (node l (deeply_resolved c x)) → ⊥
still_no_alias c s l x k i same none found = by_label (is_alias l) refl
  where
    known : IsFormedTerm (node l x)
    known = formed_term (node l x) i (known_no_positions c (node l x) k) (known_well_bound c (node l x) k)

    by_label : (z : Bool) → is_alias l ≡ z → ⊥
    by_label false e = not_alias l (deeply_resolved c x) e found
    by_label true e = none (closed_alias l x known e (closed_unresolved c (node l x) k i (subst IsClosed (sym same) found.closed)))

-- in a tree that was added, and its replacement, under the table
module _ (m : Meaning) (mode : Mode) (c : Content) (s : IsSound c) (t : HoldsTerms c) (cons : AreConstraintsOf c) (e : Tree) (formed : IsFormed e) (closed : IsClosedEnvironment e) (B : Premise → List Assumed) (Own : Premise → Type 0) where
  abbrev pub Follows : ((Premise → Type 0) → Type 0) → Type 0
  Follows = OwesFrom m mode e (read_constraints c c.constraints) B Own

  -- what is chosen for the aliases of a premise q in its part x, which gives u
  abbrev pub Puts : GoalKind → Premise → Tree → Tree → (Premise → Type 0) → Type 0
  Puts z q x u P = Replaced (λ a v. Unit {0} × P (choice z q a v) × IsTerm v) x u

  pub puts_grows : (z : GoalKind) (q : Premise) (x u : Tree) → Grows m mode e (read_constraints c c.constraints) (Puts z q x u)
  puts_grows z q x u P Q f y = replaced_more (λ a v w. (w.0, f (choice z q a v) w.1, w.2)) y

  module _ (z : GoalKind) (q : Premise) (here : q.environment ≡ e) (C : Tree → Tree → Type 0)
      (each : (a v : Tree) → IsAlias a → C a v → IsTermOf c v × Follows (λ P. P (choice z q (deeply_resolved c a) (deeply_resolved c v)))) where
    known_term : (x : Tree) → Knows c x → IsFormed x → IsFormedTerm (deeply_resolved c x)
    known_term x k i =
        let known = Knows-deeply_resolved c x s k in
        formed_term (deeply_resolved c x) (IsFormed-deeply_resolved c x s t k i) (known_no_positions c (deeply_resolved c x) known) (known_well_bound c (deeply_resolved c x) known)

    -- a part for which nothing was put in
    same_part : (x : Tree) → Knows c x → IsFormed x → Follows (Puts z q (deeply_resolved c x) (deeply_resolved c x))
    same_part x k i =
        owes_from m mode e (read_constraints c c.constraints) B Own
        (Chooses m mode e (read_constraints c c.constraints) formed closed (read_itself c s t cons) z q (deeply_resolved c x))
        (chooses_grows m mode e (read_constraints c c.constraints) formed closed (read_itself c s t cons) z q (deeply_resolved c x))
        (chooses_itself m mode e (read_constraints c c.constraints) formed closed (read_itself c s t cons) z q (deeply_resolved c x) here (known_term x k i))

    empty_replaced : (u : Tree) → Replaced C empty u → u ≡ empty
    empty_replaced u r = by_form empty u refl r
      where
        by_form : (x u : Tree) → x ≡ empty → Replaced C x u → u ≡ empty
        by_form x u same (chosen found i y) = absurd (empty_no_alias (subst IsAlias same found))
        by_form x u same kept_empty = refl
        by_form x u same (kept_more a b) = cc same
        by_form x u same (kept_node none a) = cc same

    node_put : (l : Label) (x u : Tree) → Knows c (node l x) → IsFormed (node l x) → deeply_resolved c (node l x) ≡ node l (deeply_resolved c x) → deeply_resolved c (node l u) ≡ node l (deeply_resolved c u)
        → (IsAlias (node l x) → ⊥) → Follows (Puts z q (deeply_resolved c x) (deeply_resolved c u)) → Follows (Puts z q (deeply_resolved c (node l x)) (deeply_resolved c (node l u)))
    node_put l x u k i same_x same_u none o =
        rw (same_x, same_u) (from_then m mode e (read_constraints c c.constraints) B Own (Puts z q (deeply_resolved c x) (deeply_resolved c u)) (Puts z q (node l (deeply_resolved c x)) (node l (deeply_resolved c u)))
        (λ P y. kept_node (still_no_alias c s l x k i same_x none) y) o)

    label_put : (l : Label) (x u : Tree) → Knows c (node l x) → IsFormed (node l x) → (IsAlias (node l x) → ⊥) → Replaced C x u
        → Follows (Puts z q (deeply_resolved c x) (deeply_resolved c u)) → Follows (Puts z q (deeply_resolved c (node l x)) (deeply_resolved c (node l u)))
    label_put (label.Leaf y) x u k i none r o =
        let none_x : x ≡ empty = leaf_alone y x i in
        let none_u : u ≡ empty = empty_replaced u (subst (λ v. Replaced C v u) none_x r) in
        let same : u ≡ x = none_u ∙ sym none_x in
        subst (λ v. Follows (Puts z q (deeply_resolved c (node (label.Leaf y) x)) (deeply_resolved c (node (label.Leaf y) v)))) (sym same) (same_part (node (label.Leaf y) x) k i)
    label_put (label.Bound a b d) x u k i none r o = node_put (label.Bound a b d) x u k i (deeply_resolved-node c (label.Bound a b d) x refl) (deeply_resolved-node c (label.Bound a b d) u refl) none o
    label_put (label.Ty y) x u k i none r o = node_put (label.Ty y) x u k i (deeply_resolved-node c (label.Ty y) x refl) (deeply_resolved-node c (label.Ty y) u refl) none o
    label_put (label.Const y) x u k i none r o = node_put (label.Const y) x u k i (deeply_resolved-node c (label.Const y) x refl) (deeply_resolved-node c (label.Const y) u refl) none o
    label_put (label.Clause y) x u k i none r o = node_put (label.Clause y) x u k i (deeply_resolved-node c (label.Clause y) x refl) (deeply_resolved-node c (label.Clause y) u refl) none o
    label_put (label.Predicate y) x u k i none r o = node_put (label.Predicate y) x u k i (deeply_resolved-node c (label.Predicate y) x refl) (deeply_resolved-node c (label.Predicate y) u refl) none o
    label_put (label.List y) x u k i none r o = node_put (label.List y) x u k i (deeply_resolved-node c (label.List y) x refl) (deeply_resolved-node c (label.List y) u refl) none o

    pub put_follows : (x u : Tree) → Knows c x → IsFormed x → Replaced C x u → Follows (Puts z q (deeply_resolved c x) (deeply_resolved c u))
    put_follows x u k i (chosen found ends h) =
        let y = each x u found h in
        let term : IsTermOf c u = y.0 in
        let known = Knows-deeply_resolved c u s term.knows in
        let good : IsTerm (deeply_resolved c u) = record { formed = IsFormed-deeply_resolved c u s t term.knows term.formed; closed = IsClosed-deeply_resolved c u t ends; no_positions = known_no_positions c (deeply_resolved c u) known; well_bound = known_well_bound c (deeply_resolved c u) known } in
        from_then m mode e (read_constraints c c.constraints) B Own (λ P. P (choice z q (deeply_resolved c x) (deeply_resolved c u))) (Puts z q (deeply_resolved c x) (deeply_resolved c u))
        (λ P w. chosen (alias_resolved c x t found) (IsClosed-deeply_resolved c u t ends) (tt, w, good)) y.1
    put_follows x u k i kept_empty = rw (deeply_resolved-empty c) (from_none m mode e (read_constraints c c.constraints) B Own (Puts z q empty empty) (λ P. kept_empty))
    put_follows x u k i (kept_more {a = a} {b = b} {s = v} {t = w} p r) =
        let left = put_follows a b k.0 i.0 p in
        let rest = put_follows v w k.1 i.1 r in
        rw (deeply_resolved-more c a v, deeply_resolved-more c b w)
        (from_then m mode e (read_constraints c c.constraints) B Own (λ P. Puts z q (deeply_resolved c a) (deeply_resolved c b) P × Puts z q (deeply_resolved c v) (deeply_resolved c w) P)
        (Puts z q (more (deeply_resolved c a) (deeply_resolved c v)) (more (deeply_resolved c b) (deeply_resolved c w))) (λ P y. kept_more y.0 y.1)
        (from_both m mode e (read_constraints c c.constraints) B Own (Puts z q (deeply_resolved c a) (deeply_resolved c b)) (Puts z q (deeply_resolved c v) (deeply_resolved c w))
        (puts_grows z q (deeply_resolved c a) (deeply_resolved c b)) (puts_grows z q (deeply_resolved c v) (deeply_resolved c w)) left rest))
    put_follows x u k i (kept_node {l = l} {c = y} {d = w} none r) = label_put l y w k i none r (put_follows y w k.1 i.1 r)

  -- so a premise stands, where what was added in its place does
  pub added_stands : (z : GoalKind) (q : Premise) (p u : Tree) → q.environment ≡ e → q.predicate ≡ deeply_resolved c p → (KeepsAliases (statement_of q.predicate) → ⊥) → IsTermOf c p
      → (C : Tree → Tree → Type 0) → ((a v : Tree) → IsAlias a → C a v → IsTermOf c v × Follows (λ P. P (choice z q (deeply_resolved c a) (deeply_resolved c v)))) → Replaced C p u
      → Follows (λ P. P (record q { predicate = deeply_resolved c u })) → Follows (λ P. Stands (λ y. Unit {0}) P z q)
  added_stands z q p u here same loose term C each r o =
      from_then m mode e (read_constraints c c.constraints) B Own (λ P. P (record q { predicate = deeply_resolved c u }) × Puts z q (deeply_resolved c p) (deeply_resolved c u) P) (λ P. Stands (λ y. Unit {0}) P z q)
      (λ P y. inr (loose, (deeply_resolved c u, subst (λ x. Puts z q x (deeply_resolved c u) P) (sym same) y.1, y.0)))
      (from_both m mode e (read_constraints c c.constraints) B Own (λ P. P (record q { predicate = deeply_resolved c u })) (Puts z q (deeply_resolved c p) (deeply_resolved c u))
      (λ P Q f y. f (record q { predicate = deeply_resolved c u }) y) (puts_grows z q (deeply_resolved c p) (deeply_resolved c u)) o (put_follows z q here C each p u term.knows term.formed r))
