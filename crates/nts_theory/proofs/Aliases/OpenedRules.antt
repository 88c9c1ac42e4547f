-- A goal that binds variables is proved by a rule for what it says of fresh placeholders.
use Rattle.std.proofs.Common.{◌≡◌, ◌⊎◌, inl, inr, ⊎_elim, ℕ, List, sym, ap, ◌∙◌, subst}
use Rattle.nts_model.specs.declared.labels.Sort.{Sort}
use Rattle.nts_model.specs.declared.labels.Leaf.{Leaf}
use Rattle.nts_model.specs.declared.labels.PredicateHead.{PredicateHead}
use Rattle.nts_model.specs.declared.labels.Label.TheVariants as label
use Rattle.nts_model.specs.Terms.Trees.{Tree, more, node, IsClosed}
use Rattle.nts_model.specs.Tables.Contents.{Content}
use Rattle.nts_model.specs.Tables.Resolving.{deeply_resolved, IsSound}
use Rattle.nts_model.specs.Terms.Substitutions.{instance_of}
use Rattle.nts_model.specs.Derivations.Related.{Constraint, pair, unbound}
use Rattle.nts_model.specs.Lists.{Among}
use Rattle.nts_model.specs.Derivations.Sequents.{Premise, IsOfTerms, Hides}
use Rattle.nts_model.specs.Derivations.Rules.{Meaning, Mode, other_goal, goal_kind, proof_kind, Stands, opened, AreFresh, bound, IsBuiltIn, IsPlainRule, IsRule}
use Rattle.nts_model.specs.Derivations.Proofs.{Assumed, passed, by_rule}
use Rattle.nts_model.specs.Derivations.Proving.{HoldsTerms, IsTermOf, AreConstraintsOf, read_constraints, sequent_at}
use Rattle.nts_model.specs.Searching.Stacks.{IsProvedFrom}
use Rattle.nts_theory.proofs.Derivations.Monotone.{rule_more}
use Rattle.nts_model.proofs.Terms.Composing.{itself, instance_of-itself}
use Rattle.nts_model.proofs.Tables.ResolvedTerms.{IsFormed-deeply_resolved, IsClosed-deeply_resolved}
use Rattle.nts_model.proofs.Tables.TableInstances.{reading_of, reading-leaf, instance_of-reading}
use Rattle.nts_model.proofs.Terms.Identified.{one_itself}
use Rattle.nts_model.proofs.Tables.Open.{Knows-deeply_resolved}
use Rattle.nts_model.proofs.Terms.Unpositioned.{known_no_positions, known_well_bound, pair_no_positions}
use Rattle.nts_theory.proofs.Derivations.ByCandidate.{IsGranted, read_itself}
use Rattle.nts_theory.proofs.Derivations.Served.{IsClosedEnvironment}
use Rattle.nts_theory.proofs.Derivations.Owing.{IsServedFrom, derive_all_from}
use Rattle.nts_theory.proofs.Refutation.OpenedProofs.{replaced_opened, reads_leaf, binds_some}
use Rattle.nts_theory.proofs.Aliases.ByRelating.{about, Follows}

module _ (m : Meaning) (mode : Mode) (A : List Assumed) (c : Content) (s : IsSound c) (t : HoldsTerms c) (k : AreConstraintsOf c) (e : Tree) (ke : IsTermOf c e) (closed : IsClosedEnvironment (deeply_resolved c e)) where
  module _ (sort sorts u : Tree) (f : Sort → ℕ → Leaf) (kg : IsTermOf c (bound (more sort sorts) u)) (ends : IsClosed (bound (more sort sorts) u)) (fresh : AreFresh (pair (deeply_resolved c e) (deeply_resolved c (bound (more sort sorts) u))) f) where
    abbrev goal : Tree
    goal = bound (more sort sorts) u

    abbrev e' : Tree
    e' = deeply_resolved c e

    abbrev cs : List Constraint
    cs = read_constraints c c.constraints

    abbrev pub read : Tree → Tree
    read = instance_of (reading_of c s t)

    goal_reads : deeply_resolved c goal ≡ bound (more (read sort) (read sorts)) (read u)
    goal_reads = sym (instance_of-reading c s t goal kg.knows kg.formed)

    pub statement_reads : read (opened f 0 u) ≡ opened f 0 (read u)
    statement_reads =
        let r = reading_of c s t in
        replaced_opened r.value r.closed f (λ o n. reading-leaf c s t (f o n) ∙ reads_leaf c (f o n) (fresh.placeholders o n)) 0 u

    binder_terms : IsOfTerms (sequent_at c e goal)
    binder_terms =
        let known = Knows-deeply_resolved c goal s kg.knows in
        record {
          formed = (IsFormed-deeply_resolved c e s t ke.knows ke.formed, (IsFormed-deeply_resolved c goal s t kg.knows kg.formed, tt));
          closed = (closed.closed, (IsClosed-deeply_resolved c goal t ends, tt));
          no_positions = pair_no_positions e' (deeply_resolved c goal) closed.no_positions (known_no_positions c (deeply_resolved c goal) known);
          well_bound = (closed.well_bound, (known_well_bound c (deeply_resolved c goal) known, tt));
          statement = λ p q. absurd (binds_some (read sort) (read sorts) (read u) p (sym goal_reads ∙ q));
          statements = closed.statements;
        }

    pub opened_rule : (st : Tree) → st ≡ opened f 0 (read u) → (ps : List Premise)
        → ((q : Premise) → Among ps q → IsServedFrom m mode e' cs (passed (proof_kind (goal_kind m (deeply_resolved c goal)) q.source) A) (Among ps) q)
        → IsPlainRule m mode (λ y. Unit {0}) (IsGranted c) (Hides (sequent_at c e goal)) (λ q. Among ps q ⊎ ⊥) e' st → IsProvedFrom m mode A c e goal
    opened_rule st same ps served plain =
        let rule : IsRule m mode (λ y. Unit {0}) (IsGranted c) (Hides (sequent_at c e goal)) (λ q. Among ps q ⊎ ⊥) e' (deeply_resolved c goal) =
        inr (more (read sort) (read sorts), read u, f, goal_reads, fresh, subst (λ y. IsPlainRule m mode (λ v. Unit {0}) (IsGranted c) (Hides (sequent_at c e goal)) (λ q. Among ps q ⊎ ⊥) e' y) same plain) in
        let all = derive_all_from m mode e' cs A (deeply_resolved c goal) ps ps served in
        let y = binder_terms.formed in
        record {
          sequent = sequent_at c e goal;
          reached = inl (by_rule ps binder_terms (rule_more (λ q i. ⊎_elim (λ j. inl j) (λ j. absurd j) i) e' (deeply_resolved c goal) rule) all);
          instance = itself;
          is_instance = record {
            environment = one_itself _ _ _ (instance_of-itself e' y.0);
            predicate = one_itself _ _ _ (instance_of-itself (deeply_resolved c goal) y.1.0);
            constraints = λ x i. inr (subst (Among cs) (sym (read_itself c s t k x i)) i);
            hidden = λ x i. absurd i;
            open_goals = λ x i. absurd i;
          };
        }

    -- a goal of relating that binds variables
    pub relating_opened : (h : PredicateHead) (other : (x y : Tree) → goal_kind m (about h x y) ≡ other_goal) (a b : Tree) → opened f 0 u ≡ node (label.Predicate h) (pair a b) → IsTermOf c a → IsTermOf c b
        → goal_kind m (deeply_resolved c goal) ≡ other_goal
        → Follows m mode A c s t k e ke closed (λ P. IsBuiltIn m (λ y. Unit {0}) (IsGranted c) (Stands (λ y. Unit {0}) P other_goal) e' (node (label.Predicate h) (pair (deeply_resolved c a) (deeply_resolved c b))))
        → IsProvedFrom m mode A c e goal
    relating_opened h other a b says ta tb kind o =
        let st = node (label.Predicate h) (pair (deeply_resolved c a) (deeply_resolved c b)) in
        let ra : read a ≡ deeply_resolved c a = instance_of-reading c s t a ta.knows ta.formed in
        let rb : read b ≡ deeply_resolved c b = instance_of-reading c s t b tb.knows tb.formed in
        let there : read (node (label.Predicate h) (pair a b)) ≡ st = ap (λ x. node (label.Predicate h) (pair x (read b))) ra ∙ ap (λ x. node (label.Predicate h) (pair (deeply_resolved c a) x)) rb in
        let same : st ≡ opened f 0 (read u) = sym there ∙ sym (ap read says) ∙ statement_reads in
        let of_statement : goal_kind m (unbound st) ≡ other_goal = other (deeply_resolved c a) (deeply_resolved c b) in
        let plain : IsPlainRule m mode (λ y. Unit {0}) (IsGranted c) (Hides (sequent_at c e goal)) (λ q. Among o.premises q ⊎ ⊥) e' st =
        inr (subst (λ z. IsBuiltIn m (λ y. Unit {0}) (IsGranted c) (Stands (λ y. Unit {0}) (λ q. Among o.premises q ⊎ ⊥) z) e' st) (sym of_statement) o.holds) in
        opened_rule st same o.premises
        (λ q i. subst (λ z. IsServedFrom m mode e' cs (passed (proof_kind z q.source) A) (Among o.premises) q) (sym kind) (o.served q i)) plain
