-- What is proved without assumptions has a ranked proof. Where no trait is coinductive, all its steps fall.
use Rattle.std.proofs.Common.{◌≡◌, ⊎_elim, ℕ, Bool, false, [], refl}
use Rattle.nts_model.specs.declared.labels.ClauseHead.TheVariants as clause
use Rattle.nts_model.specs.declared.labels.PredicateHead.TheVariants as predicate
use Rattle.nts_model.specs.declared.labels.Label.TheVariants as label
use Rattle.nts_model.specs.Terms.Trees.{Tree, node}
use Rattle.nts_model.specs.Tables.Contents.{Content}
use Rattle.nts_model.specs.Tables.Resolving.{IsSound}
use Rattle.nts_model.specs.Derivations.Sequents.{Source, Sequent}
use Rattle.nts_model.specs.Derivations.Rules.{Meaning, Mode, GoalKind, coinductive_trait, normalization, other_goal, statement_kind, statement_of, goal_kind, IsCoinductiveStep}
use Rattle.nts_model.specs.Derivations.Proofs.{IsSoundStep, HasProof, HasFallingProof}
use Rattle.nts_model.specs.Derivations.Proving.{sequent_at, HasRankedProofUnder}
use Rattle.nts_model.specs.Searching.Stacks.{IsDerivedFrom, IsProvedFrom}
use Rattle.nts_theory.proofs.Derivations.Flattening.{derivation_proof, none_stand as none_found}
use Rattle.nts_theory.proofs.Derivations.ProvedLater.{hypotheses_held}

pub derived_proof : (m : Meaning) (mode : Mode) (t : Sequent) → IsDerivedFrom m mode [] t → HasProof m mode t
derived_proof m mode t x = ⊎_elim
    (λ d. derivation_proof m mode x.sequent t x.instance d x.is_instance)
    (λ u. absurd (none_found u.number u.assumed u.found))
    x.reached

-- from hypotheses that the table holds
pub proved_held : (m : Meaning) (mode : Mode) (c : Content) (e p : Tree) → IsSound c → IsProvedFrom m mode [] c e p → HasRankedProofUnder m mode c e p
proved_held m mode c e p s x =
    record {
      sequent = sequent_at c e p;
      environment = refl;
      predicate = refl;
      constraints = λ y i. hypotheses_held c y s i;
      no_hidden = refl;
      no_open_goals = refl;
      proof = derived_proof m mode (sequent_at c e p) x;
    }

-- only a goal of a coinductive trait has coinductive steps
other_step : (k : GoalKind) (o : Source) → (k ≡ coinductive_trait → ⊥) → IsCoinductiveStep k o → ⊥
other_step coinductive_trait o n e = n refl
other_step normalization o n e = cc e
other_step other_goal o n e = cc e

no_coinductive_kind : (f : ℕ → Bool) → ((i : ℕ) → f i ≡ false) → (s : Tree) → statement_kind f s ≡ coinductive_trait → ⊥
no_coinductive_kind f h (node (label.Clause (clause.Trait i)) ts) e = let q = h i in let z : other_goal ≡ coinductive_trait = rw q at e in cc z
no_coinductive_kind f h (node (label.Predicate (predicate.NormalizesTo i)) ts) e = cc e
no_coinductive_kind f h s e = cc e

pub proof_falls : (m : Meaning) (mode : Mode) (t : Sequent) → ((i : ℕ) → m.is_coinductive i ≡ false) → HasProof m mode t → HasFallingProof m mode t
proof_falls m mode t h p =
    record {
      proof = p;
      falls = λ n s i j. (let x : IsSoundStep m p.nodes n s = p.ranked.steps n s i j in
          record {
            sound = x;
            falls = ⊎_elim (λ y. absurd (other_step (goal_kind m n.sequent.predicate) s.premise.source (no_coinductive_kind m.is_coinductive h (statement_of n.sequent.predicate)) y)) (λ y. y) x.descends;
          });
    }
