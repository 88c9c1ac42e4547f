-- What normalizes aliases by clauses over their own terms keeps the laws of handlers, and offers all its rules.
use Rattle.std.proofs.Common.{◌≡◌, ◌⊎◌, inl, inr, ◌==◌, Bool, true, false, if◌then◌else◌, List, [], ◌∷◌, map, Option, Some, None, refl, ap, sym, subst, ◌∙◌, eqb-true}
use Rattle.nts_model.specs.declared.labels.AliasHead.{AliasHead}
use Rattle.nts_model.specs.declared.labels.Leaf.{Leaf}
use Rattle.nts_model.specs.Terms.Trees.{Tree, any_label, is_canonical, row_length, IsRow}
use Rattle.nts_model.specs.Terms.Substitutions.{leaf_tree, replace, Instance, instance_of, Renaming, rename, IsPlain, filled, filled_under}
use Rattle.nts_model.specs.Derivations.Related.{alias}
use Rattle.nts_model.specs.Lists.{Among}
use Rattle.nts_model.specs.Derivations.Rules.{alike, Application, normalization_goal, coherence}
use Rattle.nts_model.specs.Refutation.Coherence.{Covers, RulesAreOffered}
use Rattle.nts_model.specs.Derivations.Handlers.{Candidate, equation_by, premise_by, AreValuesOf, use_of, IsInstanceFor, application_under, renamed_candidate, IsAsked, IsEquationOver, IsCandidateFor, CandidatesCommute, InstancesAreRules, RulesHaveSources, CandidatesKeep, IsLawfulHandler}
use Rattle.nts_model.proofs.Tables.Under.{eq-self}
use Rattle.nts_delegate.specs.Judging.{objects_judged, FastAnswersHold-never}
use Rattle.nts_delegate.specs.ClauseHandlers.{equations_of, asked_in, offer_by, takes_all, offers_of_clauses, AliasAsked, normalization_of, ClausesOfAliases, asked_row, as_it_stands, normal_offers, NormalizesByClause, StandsRigid, normalizing}
use Rattle.nts_delegate.specs.OwnTerms.{IsRow-replace, row_length-replace, filled_nowhere}
use Rattle.nts_delegate.specs.OwnClauses.{AreOwnClauses, own_among, filled_equations, moved_equations, filled_goals, moved_goals}
use Rattle.nts_delegate.specs.HandlerLaws.{IsOfferOf, offer_among, offers_renamed, offer_has, equations_over, goals_over, own_over, asked_sources, values_under, mapped_among}
use Rattle.nts_delegate.specs.AliasGoals.{IsFormedAsked, IsNormalizing, IsNoNormalizing, normalizes_or_not, AreAskedParts, normalized_parts}
use Rattle.nts_delegate.specs.AliasRows.{push_row, push_replace, push_lacks, push_over, alias_replaced, alias_filled, alias_over}

-- the clauses of each alias name only their own variables
abbrev pub AreOwnOfAliases : ClausesOfAliases → Type 0
AreOwnOfAliases clauses = (a : AliasHead) → AreOwnClauses (clauses a)

-- what is asked, where leaves are replaced
abbrev pub asked_under : (Leaf → Tree) → AliasAsked → AliasAsked
asked_under f w = record { head = w.head; parts = replace f w.parts; term = replace f w.term }

pub row_moved : (f : Leaf → Tree) (w : AliasAsked) → IsRow w.parts → replace f (asked_row w) ≡ asked_row (asked_under f w)
row_moved f w r = push_replace f w.parts w.term r

pub none_valued : (vs : List Tree) → AreValuesOf [] vs → vs ≡ []
none_valued [] h = refl
none_valued (v ∷ vs) h = absurd h

-- what is offered where there is a choice
pub among_either : {X : Type 0} (b : Bool) (xs ys : List X) (x : X) → Among (if b then xs else ys) x → (b ≡ true) × Among xs x ⊎ (b ≡ false) × Among ys x
among_either true xs ys x i = inl (refl, i)
among_either false xs ys x i = inr (refl, i)

in_then : {X : Type 0} (b : Bool) (xs ys : List X) (x : X) → b ≡ true → Among xs x → Among (if b then xs else ys) x
in_then true xs ys x e i = i
in_then false xs ys x e i = cc

in_else : {X : Type 0} (b : Bool) (xs ys : List X) (x : X) → b ≡ false → Among ys x → Among (if b then xs else ys) x
in_else true xs ys x e i = cc
in_else false xs ys x e i = i

-- goals that are one say the same
abbrev asked_or : AliasAsked → Option AliasAsked → AliasAsked
asked_or d None = d
asked_or d (Some w) = w

same_asked : (h k : AliasHead) (us vs v w : Tree) → normalization_goal h us v ≡ normalization_goal k vs w → ◌≡◌ {A = AliasAsked} (record { head = h; parts = us; term = v }) (record { head = k; parts = vs; term = w })
same_asked h k us vs v w e = ap (λ g. asked_or (record { head = h; parts = us; term = v }) (normalization_of g)) e

none_normalized : (h : AliasHead) (us v : Tree) → None ≡ normalization_of (normalization_goal h us v) → ⊥
none_normalized h us v e = cc e

module _ (clauses : ClausesOfAliases) (is_rigid : AliasHead → Bool) (own : AreOwnOfAliases clauses) where
  -- candidates commute with plain renaming
  stands_moved : (f : Leaf → Tree) (w : AliasAsked) → map (equation_by (replace f)) (alike w.term (alias w.head w.parts) ∷ []) ≡ alike (replace f w.term) (alias w.head (replace f w.parts)) ∷ []
  stands_moved f w = ap (λ t. alike (replace f w.term) t ∷ []) (alias_replaced f w.head w.parts)

  chosen_renamed : (ρ : Renaming) → IsPlain ρ → (e : Tree) (w : AliasAsked) → IsRow w.parts → (b : Bool)
      → (if b then as_it_stands (asked_under (λ l. leaf_tree (ρ.to l)) w) ∷ [] else offers_of_clauses (rename ρ e) (asked_row (asked_under (λ l. leaf_tree (ρ.to l)) w)) (clauses w.head))
      ≡ map (renamed_candidate ρ) (if b then as_it_stands w ∷ [] else offers_of_clauses e (asked_row w) (clauses w.head))
  chosen_renamed ρ p e w r true =
      let same = stands_moved (λ l. leaf_tree (ρ.to l)) w in
      ap (λ qs. record (as_it_stands w) { equations = qs } ∷ []) (sym same)
  chosen_renamed ρ p e w r false =
      subst (λ us. offers_of_clauses (rename ρ e) us (clauses w.head) ≡ map (renamed_candidate ρ) (offers_of_clauses e (asked_row w) (clauses w.head))) (row_moved (λ l. leaf_tree (ρ.to l)) w r) (offers_renamed ρ p e (asked_row w) (push_row w.parts w.term r) (clauses w.head) (own w.head))

  commute_shape : (e g : Tree) (ρ : Renaming) → IsPlain ρ → IsNormalizing g ⊎ IsNoNormalizing g → normal_offers clauses is_rigid (rename ρ e) (normalization_of (rename ρ g)) ≡ map (renamed_candidate ρ) (normal_offers clauses is_rigid e (normalization_of g))
  commute_shape e g ρ p (inl t) =
      let w = t.asked in
      subst (λ k. normal_offers clauses is_rigid (rename ρ e) (normalization_of (rename ρ k)) ≡ map (renamed_candidate ρ) (normal_offers clauses is_rigid e (normalization_of k))) (sym t.is) (chosen_renamed ρ p e w t.formed.row (is_rigid w.head))
  commute_shape e g ρ p (inr o) =
      ap (normal_offers clauses is_rigid (rename ρ e)) (o.none_under (λ l. leaf_tree (ρ.to l))) ∙ sym (ap (λ x. map (renamed_candidate ρ) (normal_offers clauses is_rigid e x)) o.none)

  pub normal_commute : CandidatesCommute (normalizing clauses is_rigid)
  normal_commute = record { renaming = λ mode e g ρ p h. commute_shape e g ρ p (normalizes_or_not e g h) }

  -- instances of what is offered are rules
  stands_used : (e : Tree) (w : AliasAsked) (c : Candidate) (ι : Instance) (a : Application) → IsRow w.parts → AreAskedParts e (normalization_goal w.head w.parts w.term) w → is_rigid w.head ≡ true → c ≡ as_it_stands w → IsInstanceFor c e (normalization_goal w.head w.parts w.term) ι a → StandsRigid is_rigid a
  stands_used e w c ι a r parts b same is =
      let none : a.values ≡ [] = none_valued a.values (subst (λ k. AreValuesOf k.fresh a.values) same is.values) in
      let made : a ≡ use_of (as_it_stands w) e (normalization_goal w.head w.parts w.term) ι a.values = subst (λ k. a ≡ use_of k e (normalization_goal w.head w.parts w.term) ι a.values) same is.same in
      let term : filled_under ι.value a.values w.term ≡ instance_of ι w.term = filled_nowhere ι.value a.values w.term parts.no_term in
      let stands : filled_under ι.value a.values (alias w.head w.parts) ≡ alias w.head (instance_of ι w.parts) = alias_filled ι.value a.values w.head w.parts parts.no_parts in
      record {
        asked = asked_under ι.value w;
        stands = b;
        row = IsRow-replace ι.value w.parts r;
        conclusion = ap (λ x. x.conclusion) made;
        no_values = none;
        equations = ap (λ x. x.equations) made ∙ ap (λ t. alike t (filled_under ι.value a.values (alias w.head w.parts)) ∷ []) term ∙ ap (λ t. alike (instance_of ι w.term) t ∷ []) stands;
        no_goals = ap (λ x. x.goals) made;
        no_constraints = ap (λ x. x.constraints) made;
        no_hidden = ap (λ x. x.hidden) made;
      }

  row_lacks : (e : Tree) (w : AliasAsked) → IsRow w.parts → AreAskedParts e (normalization_goal w.head w.parts w.term) w → any_label is_canonical (asked_row w) ≡ false
  row_lacks e w r parts = push_lacks is_canonical w.parts w.term r parts.no_parts parts.no_term

  clause_used : (e : Tree) (w : AliasAsked) (c : Candidate) (ι : Instance) (a : Application) → IsRow w.parts → AreAskedParts e (normalization_goal w.head w.parts w.term) w → is_rigid w.head ≡ false → IsOfferOf (clauses w.head) e (asked_row w) c → IsInstanceFor c e (normalization_goal w.head w.parts w.term) ι a → NormalizesByClause clauses is_rigid a
  clause_used e w c ι a r parts b o is =
      let k = o.of_clause in
      let us = asked_row w in
      let row = push_row w.parts w.term r in
      let mine = own_among (clauses w.head) k (own w.head) o.among in
      let made : a ≡ use_of (offer_by e us k) e (normalization_goal w.head w.parts w.term) ι a.values = subst (λ x. a ≡ use_of x e (normalization_goal w.head w.parts w.term) ι a.values) o.is is.same in
      let moves = row_moved ι.value w r in
      record {
        asked = asked_under ι.value w;
        loose = b;
        of_clause = k;
        among = o.among;
        values = subst (λ x. AreValuesOf x.fresh a.values) o.is is.values;
        row = IsRow-replace ι.value w.parts r;
        as_many = sym (ap row_length moves) ∙ row_length-replace ι.value us row ∙ eqb-true (row_length us) (row_length k.head) o.takes;
        conclusion = ap (λ x. x.conclusion) made;
        equations = ap (λ x. x.equations) made ∙ filled_equations ι.value ι.stays a.values k.fresh us k.head row (row_lacks e w r parts) mine.row mine.head ∙ ap (λ z. equations_of z (filled a.values k.head)) moves;
        goals = ap (λ x. x.goals) made ∙ filled_goals ι.value ι.stays a.values k.fresh e k.body parts.environment mine.body ∙ ap (λ x. map (asked_in x) (map (filled a.values) k.body)) (sym (ap (λ x. x.environment) made));
        no_constraints = ap (λ x. x.constraints) made;
        no_hidden = ap (λ x. x.hidden) made;
      }

  used_shape : (e g : Tree) (c : Candidate) (ι : Instance) (a : Application) → IsAsked e g → IsNormalizing g ⊎ IsNoNormalizing g → Among (normal_offers clauses is_rigid e (normalization_of g)) c → IsInstanceFor c e g ι a → NormalizesByClause clauses is_rigid a ⊎ StandsRigid is_rigid a
  used_shape e g c ι a asked (inl t) among is =
      let w = t.asked in
      let here : IsAsked e (normalization_goal w.head w.parts w.term) = subst (IsAsked e) t.is asked in
      let parts = normalized_parts e w.head w.parts w.term here in
      let instance : IsInstanceFor c e (normalization_goal w.head w.parts w.term) ι a = subst (λ k. IsInstanceFor c e k ι a) t.is is in
      let offered : Among (normal_offers clauses is_rigid e (Some w)) c = subst (λ k. Among (normal_offers clauses is_rigid e (normalization_of k)) c) t.is among in
      elim (among_either (is_rigid w.head) (as_it_stands w ∷ []) (offers_of_clauses e (asked_row w) (clauses w.head)) c offered) [
        | inl (b, inl same) ↦ inr (stands_used e w c ι a t.formed.row parts b same instance)
        | inl (b, inr none) ↦ absurd none
        | inr (b, i) ↦ inl (clause_used e w c ι a t.formed.row parts b (offer_among (clauses w.head) e (asked_row w) c i) instance)
      ]
  used_shape e g c ι a asked (inr o) among is =
      let nothing : Among (normal_offers clauses is_rigid e None) c = subst (λ k. Among (normal_offers clauses is_rigid e k) c) o.none among in absurd nothing

  -- rules are closed under instances
  normal_under : (a : Application) (ι : Instance) → NormalizesByClause clauses is_rigid a → NormalizesByClause clauses is_rigid (application_under ι a)
  normal_under a ι h =
      let k = h.of_clause in
      let w = h.asked in
      let us = asked_row w in
      let row = push_row w.parts w.term h.row in
      let mine = own_among (clauses w.head) k (own w.head) h.among in
      let moves = row_moved ι.value w h.row in
      record {
        asked = asked_under ι.value w;
        loose = h.loose;
        of_clause = k;
        among = h.among;
        values = values_under ι k.fresh a.values h.values;
        row = IsRow-replace ι.value w.parts h.row;
        as_many = sym (ap row_length moves) ∙ row_length-replace ι.value us row ∙ h.as_many;
        conclusion = ap (instance_of ι) h.conclusion;
        equations = ap (map (equation_by (instance_of ι))) h.equations ∙ moved_equations ι.value ι.stays a.values k.fresh us k.head row mine.row mine.head ∙ ap (λ z. equations_of z (filled (map (instance_of ι) a.values) k.head)) moves;
        goals = ap (map (premise_by (instance_of ι))) h.goals ∙ moved_goals ι.value ι.stays a.values k.fresh a.environment k.body mine.body;
        no_constraints = ap (map _) h.no_constraints;
        no_hidden = ap (map _) h.no_hidden;
      }

  rigid_under : (a : Application) (ι : Instance) → StandsRigid is_rigid a → StandsRigid is_rigid (application_under ι a)
  rigid_under a ι h =
      let w = h.asked in
      record {
        asked = asked_under ι.value w;
        stands = h.stands;
        row = IsRow-replace ι.value w.parts h.row;
        conclusion = ap (instance_of ι) h.conclusion;
        no_values = ap (map (instance_of ι)) h.no_values;
        equations = ap (map (equation_by (instance_of ι))) h.equations ∙ stands_moved ι.value w;
        no_goals = ap (map (premise_by (instance_of ι))) h.no_goals;
        no_constraints = ap (map _) h.no_constraints;
        no_hidden = ap (map _) h.no_hidden;
      }

  pub normal_rules : InstancesAreRules (normalizing clauses is_rigid)
  normal_rules =
      record {
        instances = λ mode e g c ι a asked among sure is. used_shape e g c ι a asked (normalizes_or_not e g asked) among is;
        closed = λ mode a ι h. elim h [
          | inl x ↦ inl (normal_under a ι x)
          | inr x ↦ inr (rigid_under a ι x)
        ];
      }

  pub normal_sources : RulesHaveSources (normalizing clauses is_rigid)
  normal_sources =
      record {
        each = λ mode a q h i. elim h [
          | inl x ↦ asked_sources a.environment (map (filled a.values) (let k = x.of_clause in k.body)) q (subst (λ ps. Among ps q) x.goals i)
          | inr x ↦ absurd (subst (λ ps. Among ps q) x.no_goals i)
        ];
      }

  -- candidates keep the environment, and have no foreign leaves, sorts or sources
  rigid_keeps : (e : Tree) (w : AliasAsked) (c : Candidate) → IsFormedAsked w → AreAskedParts e (normalization_goal w.head w.parts w.term) w → c ≡ as_it_stands w → IsCandidateFor e (normalization_goal w.head w.parts w.term) c
  rigid_keeps e w c f parts same =
      let stands = alias_over [] e (normalization_goal w.head w.parts w.term) w.head w.parts f.fits (parts.parts []) in
      subst (IsCandidateFor e (normalization_goal w.head w.parts w.term)) (sym same) (record {
        equations = λ q x. elim x [
          | inl i ↦ subst (IsEquationOver [] e (normalization_goal w.head w.parts w.term)) (sym i) (parts.term [], stands)
          | inr i ↦ absurd i
        ];
        constraints = λ x h. absurd h;
        constrains = λ x h. absurd h;
        goals = λ q x. absurd x;
        no_hidden = refl;
        no_access = refl;
      })

  clause_keeps : (e : Tree) (w : AliasAsked) (c : Candidate) → IsRow w.parts → AreAskedParts e (normalization_goal w.head w.parts w.term) w → IsOfferOf (clauses w.head) e (asked_row w) c → IsCandidateFor e (normalization_goal w.head w.parts w.term) c
  clause_keeps e w c r parts o =
      let k = o.of_clause in
      let g = normalization_goal w.head w.parts w.term in
      let us = asked_row w in
      let mine = own_among (clauses w.head) k (own w.head) o.among in
      let over = push_over k.fresh e g w.parts w.term r (parts.parts k.fresh) (parts.term k.fresh) in
      subst (IsCandidateFor e (normalization_goal w.head w.parts w.term)) (sym o.is) (record {
        equations = λ q x. equations_over k.fresh e g us k.head over (own_over k.fresh e g k.head mine.head) q x;
        constraints = λ x h. absurd h;
        constrains = λ x h. absurd h;
        goals = λ q x. goals_over k.fresh e g k.body mine.body q x;
        no_hidden = refl;
        no_access = refl;
      })

  keep_shape : (e g : Tree) (c : Candidate) → IsAsked e g → IsNormalizing g ⊎ IsNoNormalizing g → Among (normal_offers clauses is_rigid e (normalization_of g)) c → IsCandidateFor e g c
  keep_shape e g c asked (inl t) among =
      let w = t.asked in
      let here : IsAsked e (normalization_goal w.head w.parts w.term) = subst (IsAsked e) t.is asked in
      let parts = normalized_parts e w.head w.parts w.term here in
      let offered : Among (normal_offers clauses is_rigid e (Some w)) c = subst (λ k. Among (normal_offers clauses is_rigid e (normalization_of k)) c) t.is among in
      subst (λ k. IsCandidateFor e k c) (sym t.is) (elim (among_either (is_rigid w.head) (as_it_stands w ∷ []) (offers_of_clauses e (asked_row w) (clauses w.head)) c offered) [
        | inl (b, inl same) ↦ rigid_keeps e w c t.formed parts same
        | inl (b, inr none) ↦ absurd none
        | inr (b, i) ↦ clause_keeps e w c t.formed.row parts (offer_among (clauses w.head) e (asked_row w) c i)
      ])
  keep_shape e g c asked (inr o) among =
      let nothing : Among (normal_offers clauses is_rigid e None) c = subst (λ k. Among (normal_offers clauses is_rigid e k) c) o.none among in absurd nothing

  pub normal_keep : CandidatesKeep (normalizing clauses is_rigid)
  normal_keep = record { each = λ mode e g c asked among. keep_shape e g c asked (normalizes_or_not e g asked) among }

  pub IsLawfulHandler-normalizing : IsLawfulHandler (normalizing clauses is_rigid)
  IsLawfulHandler-normalizing =
      record { commute = normal_commute; rules = normal_rules; sources = normal_sources; keep = normal_keep; judges = objects_judged (normalizing clauses is_rigid) (λ i. false) refl; at_once = FastAnswersHold-never (normalizing clauses is_rigid) (λ e g c x. x) }

  -- in coherence every rule for an instance of a goal is one of an offered candidate
  covered_by_clause : (e : Tree) (w : AliasAsked) (ι : Instance) (a : Application) → IsRow w.parts → AreAskedParts e (normalization_goal w.head w.parts w.term) w → NormalizesByClause clauses is_rigid a
      → a.environment ≡ instance_of ι e → a.conclusion ≡ instance_of ι (normalization_goal w.head w.parts w.term) → Covers (normalizing clauses is_rigid) coherence e (normalization_goal w.head w.parts w.term) ι a
  covered_by_clause e w ι a r parts h env con =
      let k = h.of_clause in
      let us = asked_row w in
      let row = push_row w.parts w.term r in
      let mine = own_among (clauses h.asked.head) k (own h.asked.head) h.among in
      let same = same_asked w.head h.asked.head (instance_of ι w.parts) h.asked.parts (instance_of ι w.term) h.asked.term (sym con ∙ h.conclusion) in
      let moves : asked_row h.asked ≡ replace ι.value us = sym (ap asked_row same) ∙ sym (row_moved ι.value w r) in
      let heads : h.asked.head ≡ w.head = sym (ap (λ x. x.head) same) in
      let loose : is_rigid w.head ≡ false = ap is_rigid (sym heads) ∙ h.loose in
      let length : row_length us ≡ row_length k.head = sym (row_length-replace ι.value us row) ∙ sym (ap row_length moves) ∙ h.as_many in
      let takes : takes_all us k ≡ true = ap (λ z. z == row_length k.head) length ∙ eq-self (row_length k.head) in
      let among : Among (clauses w.head) k = subst (λ z. Among (clauses z) k) heads h.among in
      let equations : a.equations ≡ map (equation_by (filled_under ι.value a.values)) (equations_of us k.head) =
      h.equations ∙ ap (λ z. equations_of z (filled a.values k.head)) moves ∙ sym (filled_equations ι.value ι.stays a.values k.fresh us k.head row (row_lacks e w r parts) mine.row mine.head) in
      let goals : a.goals ≡ map (premise_by (filled_under ι.value a.values)) (map (asked_in e) k.body) =
      h.goals ∙ ap (λ z. map (asked_in z) (map (filled a.values) k.body)) env ∙ sym (filled_goals ι.value ι.stays a.values k.fresh e k.body parts.environment mine.body) in
      record {
        candidate = offer_by e us k;
        offered = in_else (is_rigid w.head) (as_it_stands w ∷ []) (offers_of_clauses e us (clauses w.head)) (offer_by e us k) loose (offer_has (clauses w.head) k e us among takes);
        chosen = a.values;
        values = h.values;
        of_rule = λ v j. j;
        equations = λ q j. subst (λ z. Among z (equation_by (filled_under ι.value a.values) q)) (sym equations) (mapped_among (equation_by (filled_under ι.value a.values)) (equations_of us k.head) q j);
        constraints = λ x j. absurd j;
        goals = λ p j. subst (λ z. Among z (premise_by (filled_under ι.value a.values) p)) (sym goals) (mapped_among (premise_by (filled_under ι.value a.values)) (map (asked_in e) k.body) p j);
      }

  covered_as_rigid : (e : Tree) (w : AliasAsked) (ι : Instance) (a : Application) → IsRow w.parts → AreAskedParts e (normalization_goal w.head w.parts w.term) w → StandsRigid is_rigid a
      → a.conclusion ≡ instance_of ι (normalization_goal w.head w.parts w.term) → Covers (normalizing clauses is_rigid) coherence e (normalization_goal w.head w.parts w.term) ι a
  covered_as_rigid e w ι a r parts h con =
      let same = same_asked w.head h.asked.head (instance_of ι w.parts) h.asked.parts (instance_of ι w.term) h.asked.term (sym con ∙ h.conclusion) in
      let stands : is_rigid w.head ≡ true = ap is_rigid (ap (λ x. x.head) same) ∙ h.stands in
      let term : filled_under ι.value [] w.term ≡ instance_of ι w.term = filled_nowhere ι.value [] w.term parts.no_term in
      let itself : filled_under ι.value [] (alias w.head w.parts) ≡ alias w.head (instance_of ι w.parts) = alias_filled ι.value [] w.head w.parts parts.no_parts in
      let equations : a.equations ≡ map (equation_by (filled_under ι.value [])) (alike w.term (alias w.head w.parts) ∷ []) =
      h.equations ∙ sym (ap (λ x. alike x.term (alias x.head x.parts) ∷ []) same) ∙ sym (ap (λ t. alike t (filled_under ι.value [] (alias w.head w.parts)) ∷ []) term ∙ ap (λ t. alike (instance_of ι w.term) t ∷ []) itself) in
      record {
        candidate = as_it_stands w;
        offered = in_then (is_rigid w.head) (as_it_stands w ∷ []) (offers_of_clauses e (asked_row w) (clauses w.head)) (as_it_stands w) stands (inl refl);
        chosen = [];
        values = tt;
        of_rule = λ v j. absurd j;
        equations = λ q j. subst (λ z. Among z (equation_by (filled_under ι.value []) q)) (sym equations) (mapped_among (equation_by (filled_under ι.value [])) (alike w.term (alias w.head w.parts) ∷ []) q j);
        constraints = λ x j. absurd j;
        goals = λ p j. absurd j;
      }

  covered_shape : (e g : Tree) (ι : Instance) (a : Application) → IsAsked e g → IsNormalizing g ⊎ IsNoNormalizing g → NormalizesByClause clauses is_rigid a ⊎ StandsRigid is_rigid a
      → a.environment ≡ instance_of ι e → a.conclusion ≡ instance_of ι g → Covers (normalizing clauses is_rigid) coherence e g ι a
  covered_shape e g ι a asked (inl t) h env con =
      let w = t.asked in
      let here : IsAsked e (normalization_goal w.head w.parts w.term) = subst (IsAsked e) t.is asked in
      let parts = normalized_parts e w.head w.parts w.term here in
      let there : a.conclusion ≡ instance_of ι (normalization_goal w.head w.parts w.term) = subst (λ k. a.conclusion ≡ instance_of ι k) t.is con in
      subst (λ k. Covers (normalizing clauses is_rigid) coherence e k ι a) (sym t.is) (elim h [
        | inl x ↦ covered_by_clause e w ι a t.formed.row parts x env there
        | inr x ↦ covered_as_rigid e w ι a t.formed.row parts x there
      ])
  covered_shape e g ι a asked (inr o) (inl x) env con =
      absurd (none_normalized x.asked.head x.asked.parts x.asked.term (sym (o.none_under ι.value) ∙ ap normalization_of (sym con ∙ x.conclusion)))
  covered_shape e g ι a asked (inr o) (inr x) env con =
      absurd (none_normalized x.asked.head x.asked.parts x.asked.term (sym (o.none_under ι.value) ∙ ap normalization_of (sym con ∙ x.conclusion)))

  pub RulesAreOffered-normalizing : RulesAreOffered (normalizing clauses is_rigid)
  RulesAreOffered-normalizing =
      record { covered = λ e g ι a asked applies env con. covered_shape e g ι a asked (normalizes_or_not e g asked) applies env con }
