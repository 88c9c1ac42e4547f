-- Two handlers as one, over trees: the rules of both, the offers of the first before those of the second, the leaks of both, and what
-- the second judges. Nothing is answered at once: what has a proof by the rules of one may have none by those of both, where the other
-- says that a trait is coinductive, or judges otherwise.
use Rattle.std.specs.Prelude.{◌⊎◌, ◌||◌, List, [], ◌∷◌, ◌++◌}
use Rattle.std.proofs.Common.{inl, inr, sym, ◌∙◌}
use Rattle.std.proofs.lemmas.List.{map-append}
use Rattle.nts_model.specs.Terms.Substitutions.{Instance}
use Rattle.nts_model.specs.Terms.Trees.{Tree}
use Rattle.nts_model.specs.Lists.{Among}
use Rattle.nts_model.specs.Derivations.Rules.{Mode, coherence, Application}
use Rattle.nts_model.specs.Derivations.Handlers.{Handler, Candidate, renamed_candidate, IsLawfulHandler, CandidatesCommute, InstancesAreRules, RulesHaveSources, CandidatesKeep, JudgementsAreKept, never_at_once}
use Rattle.nts_model.specs.Refutation.Coherence.{Covers, RulesAreOffered}
use Rattle.nts_delegate.specs.SameHandlers.{MeansSame}
use Rattle.nts_delegate.specs.Judging.{FastAnswersHold-never}

abbrev pub either : Handler → Handler → Handler
either h k =
    record {
      applies = λ mode a. h.applies mode a ⊎ k.applies mode a;
      offers = λ mode e g. h.offers mode e g ++ k.offers mode e g;
      is_coinductive = λ i. h.is_coinductive i || k.is_coinductive i;
      leaks = λ c u. h.leaks c u ⊎ k.leaks c u;
      judges = k.judges;
      at_once = never_at_once;
    }

-- what stands in one of two lists, one behind the other
pub parted : {X : Type 0} (xs ys : List X) (x : X) → Among (xs ++ ys) x → Among xs x ⊎ Among ys x
parted [] ys x a = inr a
parted (y ∷ xs) ys x (inl e) = inl (inl e)
parted (y ∷ xs) ys x (inr a) = later (parted xs ys x a)
  where
    later : Among xs x ⊎ Among ys x → Among (y ∷ xs) x ⊎ Among ys x
    later (inl b) = inl (inr b)
    later (inr b) = inr b

commute : (h k : Handler) → CandidatesCommute h → CandidatesCommute k → CandidatesCommute (either h k)
commute h k p q =
    record {
      renaming = λ mode e g ρ plain asked. cc (p.renaming mode e g ρ plain asked, q.renaming mode e g ρ plain asked) ∙ sym (map-append (renamed_candidate ρ) (h.offers mode e g) (k.offers mode e g));
    }

rules : (h k : Handler) → InstancesAreRules h → InstancesAreRules k → InstancesAreRules (either h k)
rules h k p q =
    record {
      instances = λ mode e g c ι a asked among sure is. elim (parted (h.offers mode e g) (k.offers mode e g) c among) [
        | inl b ↦ inl (p.instances mode e g c ι a asked b sure is)
        | inr b ↦ inr (q.instances mode e g c ι a asked b sure is)
      ];
      closed = λ mode a ι r. elim r [
        | inl b ↦ inl (p.closed mode a ι b)
        | inr b ↦ inr (q.closed mode a ι b)
      ];
    }

keep : (h k : Handler) → CandidatesKeep h → CandidatesKeep k → CandidatesKeep (either h k)
keep h k p q =
    record {
      each = λ mode e g c asked among. elim (parted (h.offers mode e g) (k.offers mode e g) c among) [
        | inl b ↦ p.each mode e g c asked b
        | inr b ↦ q.each mode e g c asked b
      ];
    }

sources : (h k : Handler) → RulesHaveSources h → RulesHaveSources k → RulesHaveSources (either h k)
sources h k p q =
    record {
      each = λ mode a x r i. elim r [
        | inl b ↦ p.each mode a x b i
        | inr b ↦ q.each mode a x b i
      ];
    }

judged : (h k : Handler) → JudgementsAreKept k → JudgementsAreKept (either h k)
judged h k q = record { allows = q.allows; evaluates = q.evaluates; well_formed = q.well_formed; goals = q.goals }

pub IsLawfulHandler-either : (h k : Handler) → IsLawfulHandler h → IsLawfulHandler k → IsLawfulHandler (either h k)
IsLawfulHandler-either h k p q =
    record { commute = commute h k p.commute q.commute; rules = rules h k p.rules q.rules; sources = sources h k p.sources q.sources; keep = keep h k p.keep q.keep; judges = judged h k q.judges; at_once = FastAnswersHold-never (either h k) (λ e g c x. x) }

-- what one of them offers for a rule covers it
pub in_first : {X : Type 0} (xs ys : List X) (x : X) → Among xs x → Among (xs ++ ys) x
in_first [] ys x a = absurd a
in_first (y ∷ xs) ys x (inl e) = inl e
in_first (y ∷ xs) ys x (inr a) = inr (in_first xs ys x a)

pub in_second : {X : Type 0} (xs ys : List X) (x : X) → Among ys x → Among (xs ++ ys) x
in_second [] ys x a = a
in_second (y ∷ xs) ys x a = inr (in_second xs ys x a)

covered_more : (h l : Handler) (mode : Mode) (e g : Tree) (ι : Instance) (a : Application) → ((c : Candidate) → Among (h.offers mode e g) c → Among (l.offers mode e g) c) → Covers h mode e g ι a → Covers l mode e g ι a
covered_more h l mode e g ι a more c =
    record {
      candidate = c.candidate;
      offered = more c.candidate c.offered;
      chosen = c.chosen;
      values = c.values;
      of_rule = c.of_rule;
      equations = c.equations;
      constraints = c.constraints;
      goals = c.goals;
    }

pub RulesAreOffered-either : (h k : Handler) → RulesAreOffered h → RulesAreOffered k → RulesAreOffered (either h k)
RulesAreOffered-either h k p q =
    record {
      covered = λ e g ι a asked r env con. elim r [
        | inl b ↦ covered_more h (either h k) coherence e g ι a (λ c i. in_first (h.offers coherence e g) (k.offers coherence e g) c i) (p.covered e g ι a asked b env con)
        | inr b ↦ covered_more k (either h k) coherence e g ι a (λ c i. in_second (h.offers coherence e g) (k.offers coherence e g) c i) (q.covered e g ι a asked b env con)
      ];
    }

pub MeansSame-either : {h l k m : Handler} → MeansSame h l → MeansSame k m → MeansSame (either h k) (either l m)
MeansSame-either {h} {l} {k} {m} p q =
    record {
      applies = λ mode a. (
        (λ w. elim w [
          | inl b ↦ inl ((p.applies mode a).0 b)
          | inr b ↦ inr ((q.applies mode a).0 b)
        ]),
        (λ w. elim w [
          | inl b ↦ inl ((p.applies mode a).1 b)
          | inr b ↦ inr ((q.applies mode a).1 b)
        ]),
      );
      offers = λ mode e g. cc (p.offers mode e g, q.offers mode e g);
      is_coinductive = λ i. cc (p.is_coinductive i, q.is_coinductive i);
      judges = q.judges;
      leaks = λ c u l. elim l [
        | inl a ↦ inl (p.leaks c u a)
        | inr b ↦ inr (q.leaks c u b)
      ];
      at_once = λ e g c x. x;
    }
