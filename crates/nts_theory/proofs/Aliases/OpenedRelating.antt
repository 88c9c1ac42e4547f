-- A goal that binds variables is proved by one certain candidate for the goal with fresh placeholders, whose equations with aliases were
-- related.
use Rattle.std.proofs.Common.{◌≡◌, ◌⊎◌, inl, ⊎_elim, ℕ, ◌+◌, List, sym, ap, ◌∙◌, subst}
use Rattle.nts_model.specs.declared.labels.Sort.{Sort}
use Rattle.nts_model.specs.declared.labels.Leaf.{Leaf}
use Rattle.nts_model.specs.declared.labels.ListHead.TheVariants as list
use Rattle.nts_model.specs.declared.labels.Label.TheVariants as label
use Rattle.nts_model.specs.declared.labels.Variance.{Variance}
use Rattle.nts_model.specs.Terms.Trees.{Tree, empty, more, node, IsClosed}
use Rattle.nts_model.specs.Tables.Contents.{Content}
use Rattle.nts_model.specs.Tables.Resolving.{deeply_resolved, IsSound}
use Rattle.nts_model.specs.Tables.Levels.{IsLevelled, AreRegionsLevelled, AreCurrent}
use Rattle.nts_model.specs.Tables.Holding.{Continues}
use Rattle.nts_model.specs.Refutation.Opening.{placeholder_in, opened_in}
use Rattle.nts_model.specs.Terms.Substitutions.{instance_of}
use Rattle.nts_model.specs.Derivations.Related.{pair, unbound}
use Rattle.nts_model.specs.Lists.{Among}
use Rattle.nts_model.specs.Derivations.Sequents.{Hides}
use Rattle.nts_model.specs.Derivations.Rules.{Mode, Meaning, goal_kind, statement_kind, proof_kind, IsHandlers, opened, AreFresh, bound, IsPlainRule}
use Rattle.nts_model.specs.Derivations.Proofs.{Assumed, passed}
use Rattle.nts_model.specs.Derivations.Handlers.{Handler, meaning, Candidate, certain, IsAsked, IsLawfulHandler}
use Rattle.nts_model.specs.Derivations.Proving.{HoldsTerms, IsTermOf, AreConstraintsOf, read_constraints, sequent_at}
use Rattle.nts_model.specs.Searching.Stacks.{IsProvedFrom}
use Rattle.nts_theory.proofs.Derivations.Monotone.{plain_rule_more}
use Rattle.nts_model.proofs.Tables.TableInstances.{reading_of, instance_of-reading}
use Rattle.nts_theory.proofs.Derivations.ClosedStatements.{one_statement}
use Rattle.nts_theory.proofs.Derivations.ByCandidate.{IsGranted, handlers_instance}
use Rattle.nts_theory.proofs.Derivations.Served.{IsClosedEnvironment}
use Rattle.nts_theory.proofs.Derivations.Owing.{IsServedFrom}
use Rattle.nts_theory.proofs.Refutation.OpenedProofs.{kind_opened, fresh_later}
use Rattle.nts_theory.proofs.Aliases.OpenedRules.{read, statement_reads, opened_rule}
use Rattle.nts_theory.specs.RelatingCandidates.{HoldsByRelating}
use Rattle.nts_theory.proofs.Aliases.RelatingCandidate.{by_relating, applies_relating, closed_environment}

module _ (h : Handler) (V : ℕ → List Variance) (mode : Mode) (A : List Assumed) (c : Content) (s : IsSound c) (t : HoldsTerms c) (k : AreConstraintsOf c) (e : Tree) (ke : IsTermOf c e) (closed : IsClosedEnvironment (deeply_resolved c e)) where
  module _ (sort sorts u : Tree) (f : Sort → ℕ → Leaf) (kg : IsTermOf c (bound (more sort sorts) u)) (ends : IsClosed (bound (more sort sorts) u)) (fresh : AreFresh (pair (deeply_resolved c e) (deeply_resolved c (bound (more sort sorts) u))) f)
      (asked : IsAsked e (unbound (opened f 0 u))) (ko : IsTermOf c (unbound (opened f 0 u))) (d : Candidate) (x : HoldsByRelating (meaning h V) mode A c e (unbound (opened f 0 u)) d) where
    abbrev m : Meaning
    m = meaning h V

    abbrev there : Tree
    there = unbound (opened f 0 u)

    abbrev goal : Tree
    goal = bound (more sort sorts) u

    abbrev e' : Tree
    e' = deeply_resolved c e

    abbrev st : Tree
    st = instance_of (reading_of c s t) asked.statement

    st_is : st ≡ opened f 0 (read m mode A c s t k e ke closed sort sorts u f kg ends fresh u)
    st_is = ap (instance_of (reading_of c s t)) (sym (one_statement (opened f 0 u) asked.statement asked.binds_nothing)) ∙ statement_reads m mode A c s t k e ke closed sort sorts u f kg ends fresh

    handlers_read : IsHandlers st
    handlers_read = handlers_instance (reading_of c s t) asked.statement asked.handlers

    kinds : goal_kind m (deeply_resolved c goal) ≡ goal_kind m (deeply_resolved c there)
    kinds =
        let r = instance_of (reading_of c s t) in
        let goal_reads : deeply_resolved c goal ≡ bound (more (r sort) (r sorts)) (r u) = sym (instance_of-reading c s t goal kg.knows kg.formed) in
        let there_reads : deeply_resolved c there ≡ unbound st = sym (instance_of-reading c s t there ko.knows ko.formed) ∙ ap r asked.binds_nothing in
        ap (goal_kind m) goal_reads
        ∙ sym (kind_opened h.is_coinductive f (r u) (subst IsHandlers st_is handlers_read))
        ∙ sym (ap (statement_kind h.is_coinductive) st_is)
        ∙ sym (ap (goal_kind m) there_reads)

    pub by_opened_relating : IsLawfulHandler h → Among (h.offers mode e there) d → d.certainty ≡ certain → IsProvedFrom m mode A c e goal
    by_opened_relating law offered sure =
        let o = applies_relating h V mode A c s t k e there asked ke ko d x law offered sure in
        let plain : IsPlainRule m mode (λ y. Unit {0}) (IsGranted c) (Hides (sequent_at c e goal)) (λ q. Among o.premises q ⊎ ⊥) e' st =
        plain_rule_more (λ q i. ⊎_elim (λ j. inl j) (λ j. absurd j.1) i) e' st (inl (handlers_read, o.applies)) in
        opened_rule m mode A c s t k e ke closed sort sorts u f kg ends fresh st st_is o.premises
        (λ q i. subst (λ z. IsServedFrom m mode e' (read_constraints c c.constraints) (passed (proof_kind z q.source) A) (Among o.premises) q) (sym kinds) (o.served q i)) plain

-- .. and so is a goal that a table knew before it was entered
pub by_entered_relating : (h : Handler) (V : ℕ → List Variance) (mode : Mode) (A : List Assumed) (c : Content) (s : IsSound c) (t : HoldsTerms c) (k : AreConstraintsOf c) (b : Content) (e g : Tree) → AreCurrent b → Continues b c → IsLevelled c → AreRegionsLevelled c
    → IsTermOf b e → IsTermOf b g → IsClosed g → IsAsked e (opened_in b g) → IsTermOf c e → IsTermOf c g → IsTermOf c (opened_in b g)
    → (d : Candidate) → IsLawfulHandler h → Among (h.offers mode e (opened_in b g)) d → d.certainty ≡ certain → HoldsByRelating (meaning h V) mode A c e (opened_in b g) d → IsProvedFrom (meaning h V) mode A c e g
by_entered_relating h V mode A c s t k b e (node (label.List list.Binder) (more (node (label.List list.Sorts) (more o os)) (more u empty))) now later l r te tg closed asked ke kg ko d law offered sure x =
    by_opened_relating h V mode A c s t k e ke (closed_environment h V mode A c s t k e (unbound (opened (placeholder_in (b.universe + 1)) 0 u)) asked ke ko d x) o os u (placeholder_in (b.universe + 1)) kg closed (fresh_later b c e (bound (more o os) u) te.knows tg.knows now later l r) asked ko d x law offered sure
by_entered_relating h V mode A c s t k b e g now later l r te tg closed asked ke kg ko d law offered sure x = by_relating h V mode A c s t k e g asked ke kg d x law offered sure
