-- Rows of the rerun table; and a goal that the erased mode refutes, though it has a fact.
use Rattle.std.proofs.Common.{◌≡◌, ℕ, None, Some, List, [], ◌∷◌, refl, inl, inr, sym, ap, ◌∙◌, subst, false, map}
use Rattle.nts_model.specs.Terms.Trees.{Tree}
use Rattle.nts_model.specs.Lists.{Among}
use Rattle.nts_model.specs.Derivations.Rules.{Mode, coherence, post_analysis, erased, analysis, borrowck, post_borrowck}
use Rattle.nts_model.specs.Derivations.Handlers.{Handler, never_leaks, never_at_once, no_judgements, Candidate, certain, never, always, in_storage, in_storage_or_infer, IsLawfulHandler, IsCandidateFor, premise_by, renamed_candidate}
use Rattle.nts_model.specs.Terms.Substitutions.{Renaming, instance_of, filled_under}
use Rattle.nts_theory.specs.Erased.Accessing.{Parents, no_parents, stands, runs_again, decides}
use Rattle.nts_theory.specs.Erased.Erasing.{ErasedAreRules}

pub always_again : (p : Parents) → decides post_analysis p always ≡ runs_again
always_again p = refl

pub no_ids : (xs : List ℕ) (p : Parents) → decides (analysis xs) p (in_storage []) ≡ stands
no_ids xs p = refl

pub combined_again : (p : Parents) (ns : List ℕ) → decides post_analysis p (in_storage_or_infer ns) ≡ runs_again
combined_again p ns = refl

pub listed_again : (n : ℕ) → decides (analysis (3 ∷ [])) no_parents (in_storage (3 ∷ [])) ≡ runs_again
listed_again n = refl

-- a fact in each mode but the erased one
abbrev pub fact : Candidate
fact = record { fresh = []; equations = []; constraints = []; hidden = []; goals = []; certainty = certain; accesses = never }

abbrev pub facts : Mode → List Candidate
facts erased = []
facts coherence = fact ∷ []
facts post_analysis = fact ∷ []
facts (analysis xs) = fact ∷ []
facts (borrowck xs) = fact ∷ []
facts (post_borrowck xs) = fact ∷ []

abbrev pub blind : Handler
blind = record { applies = λ mode a. a.goals ≡ []; offers = λ mode e g. facts mode; is_coinductive = λ i. false; leaks = never_leaks; judges = no_judgements; at_once = never_at_once }

only_fact : (mode : Mode) (c : Candidate) → Among (facts mode) c → c ≡ fact
only_fact erased c i = absurd i
only_fact coherence c (inl e) = e
only_fact coherence c (inr i) = absurd i
only_fact post_analysis c (inl e) = e
only_fact post_analysis c (inr i) = absurd i
only_fact (analysis xs) c (inl e) = e
only_fact (analysis xs) c (inr i) = absurd i
only_fact (borrowck xs) c (inl e) = e
only_fact (borrowck xs) c (inr i) = absurd i
only_fact (post_borrowck xs) c (inl e) = e
only_fact (post_borrowck xs) c (inr i) = absurd i

same_facts : (mode : Mode) (ρ : Renaming) → facts mode ≡ map (renamed_candidate ρ) (facts mode)
same_facts erased ρ = refl
same_facts coherence ρ = refl
same_facts post_analysis ρ = refl
same_facts (analysis xs) ρ = refl
same_facts (borrowck xs) ρ = refl
same_facts (post_borrowck xs) ρ = refl

fact_keeps : (e g : Tree) → IsCandidateFor e g fact
fact_keeps e g = record { equations = λ q i. absurd i; constraints = λ x i. absurd i; constrains = λ x i. absurd i; goals = λ q i. absurd i; no_hidden = refl; no_access = refl }

-- it keeps the laws, that of the erased mode too
none_given : (ps : List Tree) → None ≡ Some ps → ⊥
none_given ps e = cc e

pub blind_lawful : IsLawfulHandler blind
blind_lawful =
    record {
      commute = record { renaming = λ mode e g ρ p a. same_facts mode ρ };
      rules =
          record {
            instances = λ mode e g c ι a asked offered sure is.
                ap (λ x. x.goals) is.same ∙ ap (λ d. map (premise_by (filled_under ι.value a.values)) d.goals) (only_fact mode c offered);
            closed = λ mode a ι x. ap (map (premise_by (instance_of ι))) x;
          };
      sources = record { each = λ mode a q x i. let j : Among [] q = rw x at i in absurd j };
      keep = record { each = λ mode e g c asked offered. subst (IsCandidateFor e g) (sym (only_fact mode c offered)) (fact_keeps e g) };
      judges = record { allows = λ e f ι k a. a; evaluates = λ e c v ι k q. cc q; well_formed = λ e t ps ι k q. cc q; goals = λ e t ps p k q i. absurd (none_given ps q) };
      at_once = record { proved = λ mode v e g asked x. absurd x; doubted = λ e g c b asked x. absurd x };
    }

pub blind_erased : ErasedAreRules blind
blind_erased = record { instances = λ proof e g c ι a asked offered sure may is. absurd offered }

-- the erased mode offers nothing, accesses nothing, and its answer stands; and in the mode there is a fact
pub nothing_erased : (e g : Tree) → blind.offers erased e g ≡ []
nothing_erased e g = refl

pub never_stands : (xs : List ℕ) (p : Parents) → decides (analysis xs) p never ≡ stands
never_stands xs p = refl

pub fact_there : (xs : List ℕ) (e g : Tree) → Among (blind.offers (analysis xs) e g) fact
fact_there xs e g = inl refl
