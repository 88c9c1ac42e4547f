-- What answers for projections keeps the laws of handlers, and offers all its rules.
use Rattle.std.proofs.Common.{◌≡◌, ◌⊎◌, inl, inr, false, List, [], ◌∷◌, map, Option, Some, None, refl, ap, sym, subst, ◌∙◌}
use Rattle.nts_model.specs.declared.labels.AliasHead.{AliasHead}
use Rattle.nts_model.specs.declared.labels.Leaf.{Leaf}
use Rattle.nts_model.specs.declared.labels.Variance.TheVariants as variance
use Rattle.nts_model.specs.Terms.Trees.{Tree}
use Rattle.nts_model.specs.Terms.Substitutions.{leaf_tree, replace, Instance, instance_of, Renaming, rename, filled_under}
use Rattle.nts_model.specs.Derivations.Related.{alias, alias_goal}
use Rattle.nts_model.specs.Lists.{Among}
use Rattle.nts_model.specs.Derivations.Sequents.{misc}
use Rattle.nts_model.specs.Derivations.Rules.{Application, coherence}
use Rattle.nts_model.specs.Refutation.Coherence.{Covers, RulesAreOffered}
use Rattle.nts_model.specs.Derivations.Handlers.{Candidate, premise_by, AreValuesOf, use_of, IsInstanceFor, application_under, renamed_candidate, IsAsked, IsNested, IsCandidateFor, IsLawfulHandler, CandidatesCommute, InstancesAreRules, RulesHaveSources, CandidatesKeep}
use Rattle.nts_delegate.specs.Judging.{objects_judged, FastAnswersHold-never}
use Rattle.nts_delegate.specs.ClauseHandlers.{AliasAsked, projection_of, projection_goal, alias_is, projected, projected_offers, IsProjected, projecting}
use Rattle.nts_delegate.specs.OwnTerms.{IsRow-replace, filled_nowhere}
use Rattle.nts_delegate.specs.HandlerLaws.{mapped_among}
use Rattle.nts_delegate.specs.AliasGoals.{IsProjecting, IsNoProjecting, projects_or_not, AreAskedParts, projection_parts}
use Rattle.nts_delegate.specs.AliasLaws.{asked_under, none_valued}
use Rattle.nts_delegate.specs.AliasRows.{alias_replaced, alias_filled, related_over}

-- the goal that is asked, where leaves are replaced
is_moved : (f : Leaf → Tree) (e : Tree) (w : AliasAsked) → map (premise_by (replace f)) (alias_is e w ∷ []) ≡ alias_is (replace f e) (asked_under f w) ∷ []
is_moved f e w =
    ap (λ t. record { source = misc; environment = replace f e; predicate = alias_goal variance.Invariant t (replace f w.term) } ∷ []) (alias_replaced f w.head w.parts)

is_filled : (f : Leaf → Tree) (vs : List Tree) (e : Tree) (w : AliasAsked) → AreAskedParts e (projection_goal w.head w.parts w.term) w → map (premise_by (filled_under f vs)) (alias_is e w ∷ []) ≡ alias_is (replace f e) (asked_under f w) ∷ []
is_filled f vs e w parts =
    let environment = filled_nowhere f vs e parts.environment in
    let term = filled_nowhere f vs w.term parts.no_term in
    let itself = alias_filled f vs w.head w.parts parts.no_parts in
    ap (λ x. record { source = misc; environment = x; predicate = alias_goal variance.Invariant (filled_under f vs (alias w.head w.parts)) (filled_under f vs w.term) } ∷ []) environment
    ∙ ap (λ t. record { source = misc; environment = replace f e; predicate = alias_goal variance.Invariant t (filled_under f vs w.term) } ∷ []) itself
    ∙ ap (λ t. record { source = misc; environment = replace f e; predicate = alias_goal variance.Invariant (alias w.head (replace f w.parts)) t } ∷ []) term

-- candidates commute with plain renaming
commute_shape : (e g : Tree) (ρ : Renaming) → IsProjecting g ⊎ IsNoProjecting g → projected_offers (rename ρ e) (projection_of (rename ρ g)) ≡ map (renamed_candidate ρ) (projected_offers e (projection_of g))
commute_shape e g ρ (inl t) =
    let w = t.asked in
    subst (λ k. projected_offers (rename ρ e) (projection_of (rename ρ k)) ≡ map (renamed_candidate ρ) (projected_offers e (projection_of k))) (sym t.is) (ap (λ ps. record (projected e w) { goals = ps } ∷ []) (sym (is_moved (λ l. leaf_tree (ρ.to l)) e w)))
commute_shape e g ρ (inr o) =
    ap (projected_offers (rename ρ e)) (o.none_under (λ l. leaf_tree (ρ.to l))) ∙ sym (ap (λ x. map (renamed_candidate ρ) (projected_offers e x)) o.none)

commute : CandidatesCommute projecting
commute = record { renaming = λ mode e g ρ p h. commute_shape e g ρ (projects_or_not e g h) }

-- instances of what is offered are rules
used_shape : (e g : Tree) (c : Candidate) (ι : Instance) (a : Application) → IsAsked e g → IsProjecting g ⊎ IsNoProjecting g → Among (projected_offers e (projection_of g)) c → IsInstanceFor c e g ι a → IsProjected a
used_shape e g c ι a asked (inl t) among is =
    let w = t.asked in
    let here : IsAsked e (projection_goal w.head w.parts w.term) = subst (IsAsked e) t.is asked in
    let parts = projection_parts e w.head w.parts w.term here in
    let instance : IsInstanceFor c e (projection_goal w.head w.parts w.term) ι a = subst (λ k. IsInstanceFor c e k ι a) t.is is in
    let offered : Among (projected_offers e (Some w)) c = subst (λ k. Among (projected_offers e (projection_of k)) c) t.is among in
    elim offered [
      | inl same ↦
          let made : a ≡ use_of (projected e w) e (projection_goal w.head w.parts w.term) ι a.values = subst (λ k. a ≡ use_of k e (projection_goal w.head w.parts w.term) ι a.values) same instance.same in
          let environment : a.environment ≡ instance_of ι e = ap (λ x. x.environment) made in
          record {
            asked = asked_under ι.value w;
            row = IsRow-replace ι.value w.parts t.formed.row;
            conclusion = ap (λ x. x.conclusion) made;
            no_values = none_valued a.values (subst (λ k. AreValuesOf k.fresh a.values) same instance.values);
            no_equations = ap (λ x. x.equations) made;
            goals = ap (λ x. x.goals) made ∙ is_filled ι.value a.values e w parts ∙ ap (λ x. alias_is x (asked_under ι.value w) ∷ []) (sym environment);
            no_constraints = ap (λ x. x.constraints) made;
            no_hidden = ap (λ x. x.hidden) made;
          }
      | inr none ↦ absurd none
    ]
used_shape e g c ι a asked (inr o) among is =
    let nothing : Among (projected_offers e None) c = subst (λ k. Among (projected_offers e k) c) o.none among in absurd nothing

-- rules are closed under instances
projected_under : (a : Application) (ι : Instance) → IsProjected a → IsProjected (application_under ι a)
projected_under a ι h =
    let w = h.asked in
    record {
      asked = asked_under ι.value w;
      row = IsRow-replace ι.value w.parts h.row;
      conclusion = ap (instance_of ι) h.conclusion;
      no_values = ap (map (instance_of ι)) h.no_values;
      no_equations = ap (map _) h.no_equations;
      goals = ap (map (premise_by (instance_of ι))) h.goals ∙ is_moved ι.value a.environment w;
      no_constraints = ap (map _) h.no_constraints;
      no_hidden = ap (map _) h.no_hidden;
    }

rules : InstancesAreRules projecting
rules =
    record {
      instances = λ mode e g c ι a asked among sure is. used_shape e g c ι a asked (projects_or_not e g asked) among is;
      closed = λ mode a ι h. projected_under a ι h;
    }

sources : RulesHaveSources projecting
sources =
    record {
      each = λ mode a q h i. elim (subst (λ ps. Among ps q) h.goals i) [
        | inl e ↦ rw e tt
        | inr n ↦ absurd n
      ];
    }

-- candidates keep the environment, and have no foreign leaves, sorts or sources
keep_shape : (e g : Tree) (c : Candidate) → IsAsked e g → IsProjecting g ⊎ IsNoProjecting g → Among (projected_offers e (projection_of g)) c → IsCandidateFor e g c
keep_shape e g c asked (inl t) among =
    let w = t.asked in
    let here : IsAsked e (projection_goal w.head w.parts w.term) = subst (IsAsked e) t.is asked in
    let parts = projection_parts e w.head w.parts w.term here in
    let offered : Among (projected_offers e (Some w)) c = subst (λ k. Among (projected_offers e (projection_of k)) c) t.is among in
    let over = related_over [] e (projection_goal w.head w.parts w.term) w.head w.parts w.term t.formed.fits t.formed.kind (parts.parts []) (parts.term []) in
    let nested : IsNested [] e (projection_goal w.head w.parts w.term) (alias_is e w) = record { environment = refl; predicate = over; emitted = tt; source = tt } in
    subst (λ k. IsCandidateFor e k c) (sym t.is) (elim offered [
      | inl same ↦ subst (IsCandidateFor e (projection_goal w.head w.parts w.term)) (sym same) (record {
        equations = λ q x. absurd x;
        constraints = λ x h. absurd h;
        constrains = λ x h. absurd h;
        goals = λ q x. elim x [
          | inl i ↦ subst (IsNested [] e (projection_goal w.head w.parts w.term)) (sym i) nested
          | inr i ↦ absurd i
        ];
        no_hidden = refl;
        no_access = refl;
      })
      | inr none ↦ absurd none
    ])
keep_shape e g c asked (inr o) among =
    let nothing : Among (projected_offers e None) c = subst (λ k. Among (projected_offers e k) c) o.none among in absurd nothing

keep : CandidatesKeep projecting
keep = record { each = λ mode e g c asked among. keep_shape e g c asked (projects_or_not e g asked) among }

pub IsLawfulHandler-projecting : IsLawfulHandler projecting
IsLawfulHandler-projecting =
    record { commute = commute; rules = rules; sources = sources; keep = keep; judges = objects_judged projecting (λ i. false) refl; at_once = FastAnswersHold-never projecting (λ e g c x. x) }

-- goals that are one say the same
abbrev asked_or : AliasAsked → Option AliasAsked → AliasAsked
asked_or d None = d
asked_or d (Some w) = w

same_asked : (h k : AliasHead) (us vs v w : Tree) → projection_goal h us v ≡ projection_goal k vs w → ◌≡◌ {A = AliasAsked} (record { head = h; parts = us; term = v }) (record { head = k; parts = vs; term = w })
same_asked h k us vs v w e = ap (λ g. asked_or (record { head = h; parts = us; term = v }) (projection_of g)) e

none_projected : (h : AliasHead) (us v : Tree) → None ≡ projection_of (projection_goal h us v) → ⊥
none_projected h us v e = cc e

-- in coherence every rule for an instance of a goal is one of an offered candidate
covered_shape : (e g : Tree) (ι : Instance) (a : Application) → IsAsked e g → IsProjecting g ⊎ IsNoProjecting g → IsProjected a → a.environment ≡ instance_of ι e → a.conclusion ≡ instance_of ι g → Covers projecting coherence e g ι a
covered_shape e g ι a asked (inl t) h env con =
    let w = t.asked in
    let here : IsAsked e (projection_goal w.head w.parts w.term) = subst (IsAsked e) t.is asked in
    let parts = projection_parts e w.head w.parts w.term here in
    let there : a.conclusion ≡ instance_of ι (projection_goal w.head w.parts w.term) = subst (λ k. a.conclusion ≡ instance_of ι k) t.is con in
    let same : asked_under ι.value w ≡ h.asked = same_asked w.head h.asked.head (instance_of ι w.parts) h.asked.parts (instance_of ι w.term) h.asked.term (sym there ∙ h.conclusion) in
    let goals : a.goals ≡ map (premise_by (filled_under ι.value [])) (alias_is e w ∷ []) =
    h.goals ∙ ap (λ x. alias_is x h.asked ∷ []) env ∙ ap (λ x. alias_is (instance_of ι e) x ∷ []) (sym same) ∙ sym (is_filled ι.value [] e w parts) in
    let covers : Covers projecting coherence e (projection_goal w.head w.parts w.term) ι a = record {
      candidate = projected e w;
      offered = inl refl;
      chosen = [];
      values = tt;
      of_rule = λ v j. absurd j;
      equations = λ q j. absurd j;
      constraints = λ x j. absurd j;
      goals = λ p j. subst (λ z. Among z (premise_by (filled_under ι.value []) p)) (sym goals) (mapped_among (premise_by (filled_under ι.value [])) (alias_is e w ∷ []) p j);
    } in
    subst (λ k. Covers projecting coherence e k ι a) (sym t.is) covers
covered_shape e g ι a asked (inr o) h env con =
    absurd (none_projected h.asked.head h.asked.parts h.asked.term (sym (o.none_under ι.value) ∙ ap projection_of (sym con ∙ h.conclusion)))

pub RulesAreOffered-projecting : RulesAreOffered projecting
RulesAreOffered-projecting =
    record { covered = λ e g ι a asked applies env con. covered_shape e g ι a asked (projects_or_not e g asked) applies env con }
