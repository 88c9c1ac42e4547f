-- What is answered yes at once has to hold: a handler without rules that answers so keeps no law.
use Rattle.std.proofs.Common.{◌≡◌, [], refl, ◌∙◌}
use Rattle.nts_model.specs.Derivations.Sequents.{Sequent}
use Rattle.nts_model.specs.Derivations.Rules.{coherence}
use Rattle.nts_model.specs.Derivations.Proofs.{HasProof}
use Rattle.nts_model.specs.Derivations.Handlers.{certain, meaning, alone, FastAnswersHold}
use Rattle.nts_model.proofs.Terms.Identified.{one_leafless}
use Rattle.nts_theory.proofs.Examples.InputExamples.{no_clauses as nowhere}
use Rattle.nts_theory.proofs.Examples.ProofExamples.{auto_list, rule_uses}
use Rattle.nts_decisions.proofs.DecidingExamples.{list_goal, plain}
use Rattle.nts_decisions.proofs.FastDecisions.{without_rules}

no_proof : (s : Sequent) → s.predicate ≡ auto_list → HasProof (meaning (without_rules (λ e g c. c ≡ certain)) (λ i. [])) coherence s → ⊥
no_proof s same p =
    let j = p.ranked.justified p.first p.found in
    let u = rule_uses (meaning (without_rules (λ e g c. c ≡ certain)) (λ i. [])) coherence _ _ _ p.instance _ _ j.rule (one_leafless s.constraints _ _ (rw same refl) p.is_instance.predicate ∙ same) in
    u.applies

pub hasty_answers_do_not_hold : FastAnswersHold (without_rules (λ e g c. c ≡ certain)) → ⊥
hasty_answers_do_not_hold law = no_proof (alone nowhere (list_goal 0)) refl (law.proved coherence (λ i. []) nowhere (list_goal 0) (let p = plain 0 in p.asked) refl)
