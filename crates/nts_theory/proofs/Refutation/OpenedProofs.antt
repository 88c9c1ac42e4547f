-- A goal that binds variables is proved by one certain candidate for the goal with fresh placeholders.
use Rattle.std.proofs.Common.{◌≡◌, ◌⊎◌, inl, inr, ⊎_elim, ℕ, ◌+◌, arith, Bool, true, false, List, refl, sym, ap, ◌∙◌, subst}
use Rattle.std.specs.Prelude.{◌==◌, if◌then◌else◌}
use Rattle.nts_model.specs.declared.labels.Sort.{Sort}
use Rattle.nts_model.specs.declared.labels.Variance.{Variance}
use Rattle.nts_model.specs.declared.labels.Leaf.{Leaf}
use Rattle.nts_model.specs.declared.labels.Leaf.TheVariants as leaf
use Rattle.nts_model.specs.declared.labels.BoundVarIndexKind.{BoundVarIndexKind}
use Rattle.nts_model.specs.declared.labels.BoundVarIndexKind.TheVariants as index
use Rattle.nts_model.specs.declared.labels.ClauseHead.TheVariants as clause
use Rattle.nts_model.specs.declared.labels.PredicateHead.TheVariants as predicate
use Rattle.nts_model.specs.declared.labels.ListHead.TheVariants as list
use Rattle.nts_model.specs.declared.labels.Label.{Label}
use Rattle.nts_model.specs.declared.labels.Label.TheVariants as label
use Rattle.nts_model.specs.Terms.Trees.{Tree, empty, more, node, binders, is_placeholder, IsClosed}
use Rattle.nts_model.specs.Tables.Contents.{Content}
use Rattle.nts_model.specs.Tables.Resolving.{deeply_resolved, IsSound, Knows}
use Rattle.nts_model.specs.Tables.Levels.{IsLevelled, AreRegionsLevelled, AreCurrent}
use Rattle.nts_model.specs.Tables.Holding.{Continues}
use Rattle.nts_model.specs.Refutation.Opening.{placeholder_in, opened_in}
use Rattle.nts_model.specs.Terms.Substitutions.{leaf_tree, replace, instance_of}
use Rattle.nts_model.specs.Derivations.Related.{pair, unbound}
use Rattle.nts_model.specs.Lists.{Among}
use Rattle.nts_model.specs.Derivations.Sequents.{Premise, IsOfTerms, Grants, Hides}
use Rattle.nts_model.specs.Derivations.Rules.{Mode, goal_kind, statement_kind, proof_kind, IsHandlers, opened, opened_at, AreFresh, bound, IsPlainRule, IsRule}
use Rattle.nts_model.specs.Derivations.Proofs.{Assumed, passed, by_rule}
use Rattle.nts_model.specs.Derivations.Handlers.{Handler, meaning, Candidate, certain, IsAsked, IsLawfulHandler}
use Rattle.nts_model.specs.Derivations.Proving.{HoldsTerms, IsTermOf, AreConstraintsOf, read_constraints, sequent_at, HoldsButForGoals}
use Rattle.nts_model.specs.Searching.Stacks.{IsProvedFrom, HoldsCandidateFrom}
use Rattle.nts_theory.proofs.Derivations.Monotone.{rule_more}
use Rattle.nts_model.proofs.Tables.Fitting.{IsClosed-under}
use Rattle.nts_model.proofs.Terms.Composing.{itself, instance_of-itself}
use Rattle.nts_model.proofs.Tables.ResolvedTerms.{IsFormed-deeply_resolved, IsClosed-deeply_resolved}
use Rattle.nts_model.proofs.Tables.TableInstances.{read_leaf, reading_of, reading-leaf, instance_of-reading}
use Rattle.nts_model.proofs.Terms.Identified.{one_itself}
use Rattle.nts_model.proofs.Tables.Open.{Knows-deeply_resolved}
use Rattle.nts_model.proofs.Terms.Unpositioned.{known_no_positions, known_well_bound, pair_no_positions}
use Rattle.nts_theory.proofs.Derivations.ClosedStatements.{one_statement, opened_closed}
use Rattle.nts_theory.proofs.Derivations.Owing.{IsServedFrom, at_premise, derive_all_from}
use Rattle.nts_theory.proofs.Derivations.FromCandidate.{shallow, shallow_holds, kind_resolved, candidate_follows, candidate_applies, lawful_candidate_from}
use Rattle.nts_theory.proofs.Derivations.ByCandidate.{handlers_instance, formed_here, closed_here, read_itself}
use Rattle.nts_model.proofs.Tables.Naming.{known_named, names_read, fresh_in}

-- the terms that a table knew before a universe was entered name none of that universe's placeholders later
pub fresh_later : (c d : Content) (e g : Tree) → Knows c e → Knows c g → AreCurrent c → Continues c d → IsLevelled d → AreRegionsLevelled d → AreFresh (pair (deeply_resolved d e) (deeply_resolved d g)) (placeholder_in (c.universe + 1))
fresh_later c d e g ke kg a k l r =
    fresh_in c.universe (c.universe + 1) (pair (deeply_resolved d e) (deeply_resolved d g)) (omega arith)
    (names_read d c.universe e l r (known_named c d e ke a k.falls), (names_read d c.universe g l r (known_named c d g kg a k.falls), tt))

-- closed trees in place of leaves, where the placeholders stay themselves, and placeholders in place of bound variables: in either order
module _ (r : Leaf → Tree) (closed : (l : Leaf) → IsClosed (r l)) (f : Sort → ℕ → Leaf) (themselves : (s : Sort) (n : ℕ) → r (f s n) ≡ leaf_tree (f s n)) where
  replaced_if : (b : Bool) (s : Sort) (d n : ℕ) (t : Tree) → replace r (if b then leaf_tree (f s n) else node (label.Bound s (index.Bound d) n) t) ≡ (if b then leaf_tree (f s n) else node (label.Bound s (index.Bound d) n) (replace r t))
  replaced_if true s d n t = themselves s n
  replaced_if false s d n t = refl

  replaced_label : (b : ℕ) (l : Label) (t : Tree) → replace r (opened f (b + binders l) t) ≡ opened f (b + binders l) (replace r t) → replace r (opened_at f b l (opened f (b + binders l) t)) ≡ opened f b (replace r (node l t))
  replaced_label b (label.Leaf x) t e = sym (opened_closed f b (r x) (IsClosed-under b (r x) (closed x)))
  replaced_label b (label.Bound s (index.Bound d) n) t e = replaced_if (d == b) s d n (opened f (b + 0) t) ∙ ap (λ z. if d == b then leaf_tree (f s n) else node (label.Bound s (index.Bound d) n) z) e
  replaced_label b (label.Bound s index.Canonical n) t e = ap (node (label.Bound s index.Canonical n)) e
  replaced_label b (label.Ty x) t e = ap (node (label.Ty x)) e
  replaced_label b (label.Const x) t e = ap (node (label.Const x)) e
  replaced_label b (label.Clause x) t e = ap (node (label.Clause x)) e
  replaced_label b (label.Predicate x) t e = ap (node (label.Predicate x)) e
  replaced_label b (label.List x) t e = ap (node (label.List x)) e

  pub replaced_opened : (b : ℕ) (t : Tree) → replace r (opened f b t) ≡ opened f b (replace r t)
  replaced_opened b empty = refl
  replaced_opened b (more x y) = cc (replaced_opened b x, replaced_opened b y)
  replaced_opened b (node l t) = replaced_label b l t (replaced_opened (b + binders l) t)

-- a table reads no placeholder
pub reads_leaf : (c : Content) (l : Leaf) → is_placeholder (label.Leaf l) ≡ true → read_leaf c l ≡ leaf_tree l
reads_leaf c (leaf.Variable k n) e = cc
reads_leaf c (leaf.Region x) e = refl
reads_leaf c (leaf.TyConstant x) e = refl
reads_leaf c (leaf.ConstConstant x) e = refl

-- opening leaves what a handler's goal is about
no_label : (b : Bool) (l : Leaf) (s : Sort) (i : BoundVarIndexKind) (n : ℕ) (t : Tree) → IsHandlers (if b then leaf_tree l else node (label.Bound s i n) t) → ⊥
no_label true l s i n t h = h
no_label false l s i n t h = h

pub kind_opened : (p : ℕ → Bool) (f : Sort → ℕ → Leaf) (t : Tree) → IsHandlers (opened f 0 t) → statement_kind p (opened f 0 t) ≡ statement_kind p t
kind_opened p f (node (label.Clause (clause.Trait i)) ts) h = refl
kind_opened p f (node (label.Clause (clause.HostEffect i)) ts) h = refl
kind_opened p f (node (label.Clause (clause.Projection i)) ts) h = refl
kind_opened p f (node (label.Predicate (predicate.NormalizesTo i)) ts) h = refl
kind_opened p f (node (label.Bound s (index.Bound d) n) ts) h = absurd (no_label (d == 0) (f s n) s (index.Bound d) n (opened f 0 ts) h)
kind_opened p f t h = absurd h

pub binds_some : (s ss t u : Tree) → bound (more s ss) t ≡ unbound u → ⊥
binds_some s ss t u e = cc e

module _ (h : Handler) (V : ℕ → List Variance) (mode : Mode) (A : List Assumed) (c : Content) (s : IsSound c) (t : HoldsTerms c) (k : AreConstraintsOf c) where
  module _ (e sort sorts u : Tree) (f : Sort → ℕ → Leaf) (asked : IsAsked e (unbound (opened f 0 u))) (ke : IsTermOf c e) (kg : IsTermOf c (bound (more sort sorts) u)) (ko : IsTermOf c (unbound (opened f 0 u)))
      (closed : IsClosed (bound (more sort sorts) u)) (fresh : AreFresh (pair (deeply_resolved c e) (deeply_resolved c (bound (more sort sorts) u))) f) (d : Candidate) (x : HoldsCandidateFrom (meaning h V) mode A c (unbound (opened f 0 u)) d) where
    abbrev goal : Tree
    goal = bound (more sort sorts) u

    abbrev there : Tree
    there = unbound (opened f 0 u)

    abbrev read : Tree → Tree
    read = instance_of (reading_of c s t)

    abbrev parts : Candidate
    parts = shallow h V mode A c s t k e there asked ke ko d x

    abbrev parts_hold : HoldsButForGoals c parts
    parts_hold = shallow_holds h V mode A c s t k e there asked ke ko d x

    goal_reads : deeply_resolved c goal ≡ bound (more (read sort) (read sorts)) (read u)
    goal_reads = sym (instance_of-reading c s t goal kg.knows kg.formed)

    statement_reads : read asked.statement ≡ opened f 0 (read u)
    statement_reads =
        let r = reading_of c s t in
        ap read (sym (one_statement (opened f 0 u) asked.statement asked.binds_nothing))
        ∙ replaced_opened r.value r.closed f (λ o n. reading-leaf c s t (f o n) ∙ reads_leaf c (f o n) (fresh.placeholders o n)) 0 u

    read_handlers : IsHandlers (read asked.statement)
    read_handlers = handlers_instance (reading_of c s t) asked.statement asked.handlers

    -- it is of the kind of the goal with placeholders
    kinds_same : goal_kind (meaning h V) (deeply_resolved c goal) ≡ goal_kind (meaning h V) (deeply_resolved c there)
    kinds_same =
        ap (goal_kind (meaning h V)) goal_reads
        ∙ sym (kind_opened h.is_coinductive f (read u) (subst IsHandlers statement_reads read_handlers))
        ∙ sym (ap (statement_kind h.is_coinductive) statement_reads)
        ∙ sym (kind_resolved h V mode A c s t k e there asked ke ko d x)

    binder_terms : IsOfTerms (sequent_at c e goal)
    binder_terms =
        let envs = closed_here h V mode c s t k e there asked ke ko parts parts_hold in
        let known = Knows-deeply_resolved c goal s kg.knows in
        record {
          formed = (formed_here h V mode c s t k e there asked ke ko parts parts_hold, (IsFormed-deeply_resolved c goal s t kg.knows kg.formed, tt));
          closed = (envs.closed, (IsClosed-deeply_resolved c goal t closed, tt));
          no_positions = pair_no_positions (deeply_resolved c e) (deeply_resolved c goal) envs.no_positions (known_no_positions c (deeply_resolved c goal) known);
          well_bound = (envs.well_bound, (known_well_bound c (deeply_resolved c goal) known, tt));
          statement = λ p q. absurd (binds_some (read sort) (read sorts) (read u) p (sym goal_reads ∙ q));
          statements = envs.statements;
        }

    -- the goal that binds variables is proved under the table
    pub by_opened_candidate : IsLawfulHandler h → Among (h.offers mode e there) d → d.certainty ≡ certain → IsProvedFrom (meaning h V) mode A c e goal
    by_opened_candidate law offered sure =
        let keep = law.keep in
        let keeps = keep.each mode e there d asked offered in
        let m = meaning h V in
        let o = candidate_follows h V mode A c s t k e there asked ke ko d x keeps in
        let both = o.holds in
        let applies = candidate_applies h V mode A c s t k e there asked ke ko d x law.rules keeps offered sure (λ q. Among o.premises q ⊎ ⊥) both.0 both.1 in
        let plain : IsPlainRule m mode (λ y. Unit {0}) (Grants (sequent_at c e goal)) (Hides (sequent_at c e goal)) (λ q. Among o.premises q ⊎ ⊥) (deeply_resolved c e) (read asked.statement) =
        inl (read_handlers, applies) in
        let rule : IsRule m mode (λ y. Unit {0}) (Grants (sequent_at c e goal)) (Hides (sequent_at c e goal)) (λ q. Among o.premises q ⊎ ⊥) (deeply_resolved c e) (deeply_resolved c goal) =
        inr (more (read sort) (read sorts), read u, f, goal_reads, fresh, subst (λ y. IsPlainRule m mode (λ v. Unit {0}) (Grants (sequent_at c e goal)) (Hides (sequent_at c e goal)) (λ q. Among o.premises q ⊎ ⊥) (deeply_resolved c e) y) statement_reads plain) in
        let served : (q : Premise) → Among o.premises q → IsServedFrom m mode (deeply_resolved c e) (read_constraints c c.constraints) (at_premise m mode (deeply_resolved c e) (read_constraints c c.constraints) A (deeply_resolved c goal) q) (Among o.premises) q =
        λ q i. subst (λ z. IsServedFrom m mode (deeply_resolved c e) (read_constraints c c.constraints) (passed (proof_kind z q.source) A) (Among o.premises) q) (sym kinds_same) (o.served q i) in
        let all = derive_all_from m mode (deeply_resolved c e) (read_constraints c c.constraints) A (deeply_resolved c goal) o.premises o.premises served in
        record {
          sequent = sequent_at c e goal;
          reached = inl (by_rule o.premises binder_terms (rule_more (λ q i. ⊎_elim (λ j. inl j) (λ j. absurd j) i) (deeply_resolved c e) (deeply_resolved c goal) rule) all);
          instance = itself;
          is_instance = record {
            environment = (let y = binder_terms.formed in one_itself _ _ _ (instance_of-itself (deeply_resolved c e) y.0));
            predicate = (let y = binder_terms.formed in let y' = y.1 in one_itself _ _ _ (instance_of-itself (deeply_resolved c goal) y'.0));
            constraints = λ y i. inr (subst (Among (read_constraints c c.constraints)) (sym (read_itself c s t k y i)) i);
            hidden = λ y i. absurd i;
            open_goals = λ y i. absurd i;
          };
        }

  -- .. and so is a goal that a table knew before it was entered
  pub by_entered_candidate : (b : Content) (e g : Tree) → AreCurrent b → Continues b c → IsLevelled c → AreRegionsLevelled c → IsTermOf b e → IsTermOf b g → IsClosed g → IsAsked e (opened_in b g) → IsTermOf c e → IsTermOf c g → IsTermOf c (opened_in b g)
      → (d : Candidate) → IsLawfulHandler h → Among (h.offers mode e (opened_in b g)) d → d.certainty ≡ certain → HoldsCandidateFrom (meaning h V) mode A c (opened_in b g) d → IsProvedFrom (meaning h V) mode A c e g
  by_entered_candidate b e (node (label.List list.Binder) (more (node (label.List list.Sorts) (more o os)) (more u empty))) now later l r te tg closed asked ke kg ko d law offered sure x =
      by_opened_candidate e o os u (placeholder_in (b.universe + 1)) asked ke kg ko closed (fresh_later b c e (bound (more o os) u) te.knows tg.knows now later l r) d x law offered sure
  by_entered_candidate b e g now later l r te tg closed asked ke kg ko d law offered sure x = lawful_candidate_from h V mode A c s t k e g asked ke kg d law offered sure x
