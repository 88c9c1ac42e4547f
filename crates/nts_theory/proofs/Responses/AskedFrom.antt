-- What a query's table proves from assumptions, its response says from them; and what that says is proved, from them,
-- where it is applied.
use Rattle.std.proofs.Common.{◌≡◌, List, [], map, subst}
use Rattle.nts_model.specs.declared.labels.Leaf.{Leaf}
use Rattle.nts_model.specs.Terms.Trees.{Tree}
use Rattle.nts_model.specs.Tables.Contents.{Content}
use Rattle.nts_model.specs.Tables.Resolving.{IsSound}
use Rattle.nts_model.specs.Tables.Levels.{NamesAll, term_level}
use Rattle.nts_model.specs.Tables.Holding.{Continues}
use Rattle.nts_model.specs.Terms.Substitutions.{leaf_tree, filled}
use Rattle.nts_model.specs.Lists.{Among}
use Rattle.nts_model.specs.Derivations.Sequents.{Premise}
use Rattle.nts_model.specs.Derivations.Rules.{Meaning, Mode}
use Rattle.nts_model.specs.Derivations.Proofs.{Assumed}
use Rattle.nts_model.specs.Derivations.Handlers.{premise_by}
use Rattle.nts_model.specs.Canonical.Inputs.{Input, IsInput, originals, canonical_of}
use Rattle.nts_model.specs.Derivations.Proving.{HoldsTerms, IsTermOf, AreConstraintsOf, sequent_at, sequent_with}
use Rattle.nts_model.specs.Answers.Responses.{Response, Applies, answer_sequent, IsResponseTo}
use Rattle.nts_model.specs.Searching.Stacks.{IsDerivedFrom, IsProvedFrom, IsProvedWith}
use Rattle.nts_model.proofs.Canonical.CanonicalForms.{originals_are_leaves}
use Rattle.nts_theory.proofs.Responses.Answering.{canonical_environment_over, canonical_predicate_over}
use Rattle.nts_model.proofs.Tables.TableInstances.{reading_of}
use Rattle.nts_theory.proofs.Derivations.ProvedLater.{sequent_later}
use Rattle.nts_theory.proofs.Responses.Granting.{opened_instance_with}
use Rattle.nts_theory.proofs.Responses.Querying.{response_to_for}
use Rattle.nts_theory.proofs.Responses.Asked.{given_environment, given_predicate}
use Rattle.nts_theory.proofs.Derivations.Assuming.{derived_instance}

-- i is the input, r the response to its canonical form, and d the table c once the response was applied to the originals. The goals that the
-- response leaves open are left open here, with what was chosen for its positions
abbrev pub opened_goals : {c d : Content} {os : List Tree} {r : Response} → Applies c d os r → List Premise
opened_goals {r = r} applies = map (premise_by (filled applies.chosen)) r.findings.open_goals

pub asked_proved_with : (m : Meaning) (mode : Mode) (A : List Assumed) (i : Input) (r : Response) (c d : Content) → IsInput i → IsSound d → HoldsTerms d → ((l : Leaf) → Among (originals i) l → NamesAll term_level c.universe (leaf_tree l))
    → IsResponseTo (canonical_of i).kinds r → (applies : Applies c d (map leaf_tree (originals i)) r) → IsDerivedFrom m mode A (answer_sequent (canonical_of i) r) → IsProvedWith m mode A d i.environment i.predicate (opened_goals applies)
asked_proved_with m mode A i r c d input s h named fit applies derived =
    let os = map leaf_tree (originals i) in
    let here : IsProvedWith m mode A d (filled os (canonical_of i).environment) (filled os (canonical_of i).predicate) (opened_goals applies) =
    derived_instance m mode A _ (answer_sequent (canonical_of i) r) (sequent_with d (filled os (canonical_of i).environment) (filled os (canonical_of i).predicate) (opened_goals applies)) derived
    (opened_instance_with c d s h (originals i) (originals_are_leaves i input).0 named r (response_to_for i r fit) applies (canonical_of i) (canonical_environment_over i input) (canonical_predicate_over i input)) in
    subst (λ z. IsProvedWith m mode A d z i.predicate (opened_goals applies)) (given_environment i input)
    (subst (λ z. IsProvedWith m mode A d (filled os (canonical_of i).environment) z (opened_goals applies)) (given_predicate i input) here)

pub asked_proved_from : (m : Meaning) (mode : Mode) (A : List Assumed) (i : Input) (r : Response) (c d : Content) → IsInput i → IsSound d → HoldsTerms d → ((l : Leaf) → Among (originals i) l → NamesAll term_level c.universe (leaf_tree l))
    → IsResponseTo (canonical_of i).kinds r → r.findings.open_goals ≡ [] → Applies c d (map leaf_tree (originals i)) r → IsDerivedFrom m mode A (answer_sequent (canonical_of i) r) → IsProvedFrom m mode A d i.environment i.predicate
asked_proved_from m mode A i r c d input s h named fit none applies derived =
    subst (λ gs. IsProvedWith m mode A d i.environment i.predicate (map (premise_by (filled applies.chosen)) gs)) none (asked_proved_with m mode A i r c d input s h named fit applies derived)

-- a goal that is proved under a table is proved under each later one
pub proved_from_continues : (m : Meaning) (mode : Mode) (A : List Assumed) (c d : Content) (e p : Tree) → IsSound c → IsSound d → HoldsTerms c → HoldsTerms d → Continues c d → AreConstraintsOf c → IsTermOf c e → IsTermOf c p
    → IsProvedFrom m mode A c e p → IsProvedFrom m mode A d e p
proved_from_continues m mode A c d e p s q h i g k a b x =
    derived_instance m mode A (reading_of d q i) (sequent_at c e p) (sequent_at d e p) x (sequent_later c d s q h i e p g k a b)
