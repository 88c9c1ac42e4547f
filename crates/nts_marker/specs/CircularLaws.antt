-- The trait that holds where it holds keeps the laws of a handler.
use Rattle.std.proofs.Common.{◌≡◌, ℕ, Bool, true, false, List, [], ◌∷◌, map, refl, inl, inr, sym, ap, subst, ◌∙◌, arith}
use Rattle.std.specs.Prelude.{if◌then◌else◌}
use Rattle.nts_model.specs.declared.labels.ClauseHead.TheVariants as clause
use Rattle.nts_model.specs.declared.labels.Label.TheVariants as label
use Rattle.nts_model.specs.Terms.Trees.{Tree, node, IsClosed, any_label, is_canonical}
use Rattle.nts_model.specs.Terms.Substitutions.{leaf_tree, Instance, instance_of, Renaming, rename, filled_under}
use Rattle.nts_model.specs.Derivations.Related.{unbound}
use Rattle.nts_model.specs.Lists.{Among}
use Rattle.nts_model.specs.Derivations.Sequents.{Premise}
use Rattle.nts_model.specs.Derivations.Rules.{coherence, Application, statement_of}
use Rattle.nts_model.specs.Derivations.Handlers.{Candidate, equation_by, constraint_by, hidden_by, premise_by, use_of, AreValuesOf, IsInstanceFor, renamed_candidate, IsAsked, IsEmitted, IsHandlersSource, IsOver, IsNested, IsCandidateFor, CandidatesCommute, InstancesAreRules, RulesHaveSources, CandidatesKeep, IsLawfulHandler}
use Rattle.nts_model.specs.Refutation.Coherence.{Covers, RulesAreOffered}
use Rattle.nts_model.proofs.Terms.Substituting.{closed_under_more}
use Rattle.nts_delegate.specs.OwnTerms.{both_false, filled_nowhere, names_nothing}
use Rattle.nts_delegate.specs.Judging.{objects_judged, FastAnswersHold-never}
use Rattle.nts_marker.specs.Marking.{is_of, marks}
use Rattle.nts_marker.specs.MarkerLaws.{marks_asked, marks_kept}
use Rattle.nts_marker.specs.Circling.{same_goal, again, IsAgain, circling}

-- what is offered is the goal itself, for a goal of the trait
pub record IsOffered (e g : Tree) (b : Bool) (c : Candidate) : Type 0 where
  pub marked : b ≡ true
  pub is : c ≡ again e g

offered_is : (e g : Tree) (b : Bool) (c : Candidate) → Among (if b then again e g ∷ [] else []) c → IsOffered e g b c
offered_is e g true c (inl h) = record { marked = refl; is = h }
offered_is e g true c (inr h) = absurd h
offered_is e g false c h = absurd h

renamed_offers : (e g : Tree) (ρ : Renaming) (b : Bool) → (if b then again (rename ρ e) (rename ρ g) ∷ [] else []) ≡ map (renamed_candidate ρ) (if b then again e g ∷ [] else [])
renamed_offers e g ρ true = refl
renamed_offers e g ρ false = refl

commute : (i : ℕ) → CandidatesCommute (circling i)
commute i =
    record {
      renaming = λ mode e g ρ plain asked.
          ap (λ b. if b then again (rename ρ e) (rename ρ g) ∷ [] else []) (marks_asked i e g (λ l. leaf_tree (ρ.to l)) asked) ∙ renamed_offers e g ρ (marks i g);
    }

-- the goal in an instance, which has no positions
record IsFilled (e g : Tree) (ι : Instance) (vs : List Tree) : Type 0 where
  env : filled_under ι.value vs e ≡ instance_of ι e
  goal : filled_under ι.value vs g ≡ instance_of ι g

is_filled : (e g : Tree) (ι : Instance) (vs : List Tree) → IsAsked e g → IsFilled e g ι vs
is_filled e g ι vs asked =
    let a = asked.no_positions in
    let env = both_false (any_label is_canonical e) _ a in
    let goal = both_false (any_label is_canonical g) _ env.1 in
    record { env = filled_nowhere ι.value vs e env.0; goal = filled_nowhere ι.value vs g goal.0 }

goal_filled : (e g : Tree) (ι : Instance) (vs : List Tree) → IsAsked e g → premise_by (filled_under ι.value vs) (same_goal e g) ≡ same_goal (instance_of ι e) (instance_of ι g)
goal_filled e g ι vs asked = (let h = is_filled e g ι vs asked in λ k. same_goal (h.env k) (h.goal k))

-- the use of the candidate
again_use : (i : ℕ) (e g : Tree) (c : Candidate) (ι : Instance) (a : Application) → IsAsked e g → IsOffered e g (marks i g) c → IsInstanceFor c e g ι a → IsAgain i a
again_use i e g c ι a asked o is =
    let same : a ≡ use_of (again e g) e g ι a.values = is.same ∙ ap (λ d. use_of d e g ι a.values) o.is in
    let goals : a.goals ≡ same_goal (instance_of ι e) (instance_of ι g) ∷ [] = ap (λ x. x.goals) same ∙ ap (λ p. p ∷ []) (goal_filled e g ι a.values asked) in
    record {
      conclusion = ap (λ x. marks i x.conclusion) same ∙ marks_asked i e g ι.value asked ∙ o.marked;
      goals = goals ∙ ap (λ (x : Application). same_goal x.environment x.conclusion ∷ []) (sym same);
      equations = ap (λ x. x.equations) same;
      constraints = ap (λ x. x.constraints) same;
      hidden = ap (λ x. x.hidden) same;
    }

rules : (i : ℕ) → InstancesAreRules (circling i)
rules i =
    record {
      instances = λ mode e g c ι a asked among sure is. again_use i e g c ι a asked (offered_is e g (marks i g) c among) is;
      closed = λ mode a ι m.
          record {
            conclusion = marks_kept i ι.value a.conclusion m.conclusion;
            goals = ap (map (premise_by (instance_of ι))) m.goals;
            equations = ap (map (equation_by (instance_of ι))) m.equations;
            constraints = ap (map (constraint_by (instance_of ι))) m.constraints;
            hidden = ap (map (hidden_by (instance_of ι))) m.hidden;
          };
    }

sources : (i : ℕ) → RulesHaveSources (circling i)
sources i =
    record {
      each = λ mode a q m among.
          (let one : Among (same_goal a.environment a.conclusion ∷ []) q = rw m.goals at among in
          elim one [
            | inl e ↦ subst (λ (p : Premise). IsHandlersSource p.source) (sym e) tt
            | inr h ↦ absurd h
          ]);
    }

-- the goal is over itself
emitted : (i : ℕ) (s : Tree) → is_of i s ≡ true → IsEmitted s
emitted i (node (label.Clause (clause.Trait j)) ts) e = tt
emitted i s e = cc

nested : (i : ℕ) (e g : Tree) → IsAsked e g → marks i g ≡ true → IsNested [] e g (same_goal e g)
nested i e g asked marked =
    let none = both_false (any_label is_canonical g) _ (both_false (any_label is_canonical e) _ asked.no_positions).1 in
    let closed : IsClosed (unbound asked.statement) = (tt, ((tt, tt), (closed_under_more 0 1 asked.statement (omega arith) asked.closed.1.0, tt))) in
    record {
      environment = refl;
      predicate = record {
        names = names_nothing [] g none.0;
        leaves = λ l o. inl (inr (inl o));
        formed = asked.formed.1.0;
        closed = subst IsClosed (sym asked.binds_nothing) closed;
        well_bound = asked.well_bound.1.0;
      };
      emitted = emitted i (statement_of g) marked;
      source = tt;
    }

keeps : (i : ℕ) (e g : Tree) → IsAsked e g → marks i g ≡ true → IsCandidateFor e g (again e g)
keeps i e g asked marked =
    record {
      equations = λ q x. absurd x;
      constraints = λ q x. absurd x;
      constrains = λ q x. absurd x;
      goals = λ q x. elim x [ inl h ↦ subst (IsNested [] e g) (sym h) (nested i e g asked marked) | inr h ↦ absurd h ];
      no_hidden = refl;
      no_access = refl;
    }

keep : (i : ℕ) → CandidatesKeep (circling i)
keep i =
    record { each = λ mode e g c asked among. (let o = offered_is e g (marks i g) c among in subst (IsCandidateFor e g) (sym o.is) (keeps i e g asked o.marked)) }

pub IsLawfulHandler-circling : (i : ℕ) → IsLawfulHandler (circling i)
IsLawfulHandler-circling i = record { commute = commute i; rules = rules i; sources = sources i; keep = keep i; judges = objects_judged (circling i) (λ j. false) refl; at_once = FastAnswersHold-never (circling i) (λ e g c x. x) }

same_at : {e f g h : Tree} → e ≡ f → g ≡ h → same_goal f h ≡ same_goal e g
same_at p q = cc (p, q)

-- each rule for an instance of a goal is the candidate's
again_offered : (e g : Tree) (b : Bool) → b ≡ true → Among (if b then again e g ∷ [] else []) (again e g)
again_offered e g true h = inl refl
again_offered e g false h = absurd (let n : ⊥ = cc in n)

pub RulesAreOffered-circling : (i : ℕ) → RulesAreOffered (circling i)
RulesAreOffered-circling i =
    record {
      covered = λ e g ι a asked m env con.
          let marked : marks i g ≡ true = sym (marks_asked i e g ι.value asked) ∙ ap (marks i) (sym con) ∙ m.conclusion in
          let goal : premise_by (filled_under ι.value []) (same_goal e g) ≡ same_goal a.environment a.conclusion = goal_filled e g ι [] asked ∙ same_at env con in
          record {
            candidate = again e g;
            offered = again_offered e g (marks i g) marked;
            chosen = [];
            values = tt;
            of_rule = λ v x. absurd x;
            equations = λ q x. absurd x;
            constraints = λ q x. absurd x;
            goals = λ p x. elim x [
              | inl h ↦ rw m.goals (inl (ap (premise_by (filled_under ι.value [])) h ∙ goal))
              | inr h ↦ absurd h
            ];
          };
    }
