-- The trait that holds of everything, or may, keeps the laws of a handler.
use Rattle.std.proofs.Common.{◌≡◌, ℕ, Bool, true, false, List, [], ◌∷◌, map, refl, inl, inr, sym, ap, subst, ◌∙◌}
use Rattle.std.specs.Prelude.{if◌then◌else◌}
use Rattle.nts_model.specs.declared.labels.ClauseHead.TheVariants as clause
use Rattle.nts_model.specs.declared.labels.PredicateHead.TheVariants as predicate
use Rattle.nts_model.specs.declared.labels.ListHead.TheVariants as list
use Rattle.nts_model.specs.declared.labels.Leaf.{Leaf}
use Rattle.nts_model.specs.declared.labels.Label.TheVariants as label
use Rattle.nts_model.specs.Terms.Trees.{Tree, empty, more, node}
use Rattle.nts_model.specs.Terms.Substitutions.{leaf_tree, replace, Instance, instance_of, Renaming, rename, filled_under}
use Rattle.nts_model.specs.Derivations.Related.{unbound}
use Rattle.nts_model.specs.Lists.{Among}
use Rattle.nts_model.specs.Derivations.Rules.{Mode, coherence, Application, IsHandlers}
use Rattle.nts_model.specs.Derivations.Handlers.{Handler, Candidate, Certainty, certain, equation_by, constraint_by, hidden_by, premise_by, use_of, IsInstanceFor, application_under, renamed_candidate, IsAsked, IsCandidateFor, CandidatesCommute, InstancesAreRules, RulesHaveSources, CandidatesKeep, IsLawfulHandler}
use Rattle.nts_model.specs.Refutation.Coherence.{Covers, RulesAreOffered}
use Rattle.nts_delegate.specs.Judging.{objects_judged, FastAnswersHold-never}
use Rattle.nts_delegate.specs.SameHandlers.{MeansSame}
use Rattle.nts_marker.specs.Marking.{is_of, marks, fact, IsMarked, marking}

-- what a goal that is asked is of stays so, whatever stands for its leaves
is_of_handlers : (i : ℕ) (s : Tree) (f : Leaf → Tree) → IsHandlers s → is_of i (replace f s) ≡ is_of i s
is_of_handlers i (node (label.Clause (clause.Trait j)) ts) f h = refl
is_of_handlers i (node (label.Clause (clause.HostEffect j)) ts) f h = refl
is_of_handlers i (node (label.Clause (clause.Projection j)) ts) f h = refl
is_of_handlers i (node (label.Predicate (predicate.NormalizesTo j)) ts) f h = refl
is_of_handlers i s f h = absurd h

pub marks_asked : (i : ℕ) (e g : Tree) (f : Leaf → Tree) → IsAsked e g → marks i (replace f g) ≡ marks i g
marks_asked i e g f h =
    ap (λ t. marks i (replace f t)) h.binds_nothing ∙ is_of_handlers i h.statement f h.handlers ∙ ap (marks i) (sym h.binds_nothing)

-- .. and that a goal is of the trait
is_of_kept : (i : ℕ) (f : Leaf → Tree) (s : Tree) → is_of i s ≡ true → is_of i (replace f s) ≡ true
is_of_kept i f (node (label.Clause (clause.Trait j)) ts) e = e
is_of_kept i f s e = cc

pub marks_kept : (i : ℕ) (f : Leaf → Tree) (g : Tree) → marks i g ≡ true → marks i (replace f g) ≡ true
marks_kept i f (node (label.List list.Binder) (more v (more s empty))) e = is_of_kept i f s e
marks_kept i f g e = cc

-- what is offered is the fact, for a goal of the trait
pub record IsOffered (z : Certainty) (b : Bool) (c : Candidate) : Type 0 where
  pub marked : b ≡ true
  pub is : c ≡ fact z

offered_is : (z : Certainty) (b : Bool) (c : Candidate) → Among (if b then fact z ∷ [] else []) c → IsOffered z b c
offered_is z true c (inl e) = record { marked = refl; is = e }
offered_is z true c (inr h) = absurd h
offered_is z false c h = absurd h

renamed_offers : (z : Certainty) (ρ : Renaming) (b : Bool) → (if b then fact z ∷ [] else []) ≡ map (renamed_candidate ρ) (if b then fact z ∷ [] else [])
renamed_offers z ρ true = refl
renamed_offers z ρ false = refl

commute : (i : ℕ) (z : Certainty) → CandidatesCommute (marking i z)
commute i z =
    record {
      renaming = λ mode e g ρ plain asked.
          ap (λ b. if b then fact z ∷ [] else []) (marks_asked i e g (λ l. leaf_tree (ρ.to l)) asked) ∙ renamed_offers z ρ (marks i g);
    }

-- the use of the fact
marked_use : (i : ℕ) (z : Certainty) (e g : Tree) (c : Candidate) (ι : Instance) (a : Application) → IsAsked e g → IsOffered z (marks i g) c → c.certainty ≡ certain → IsInstanceFor c e g ι a → IsMarked i z a
marked_use i z e g c ι a asked o sure is =
    let same : a ≡ use_of (fact z) e g ι a.values = is.same ∙ ap (λ d. use_of d e g ι a.values) o.is in
    record {
      sure = ap (λ d. d.certainty) (sym o.is) ∙ sure;
      conclusion = ap (λ x. marks i x.conclusion) same ∙ marks_asked i e g ι.value asked ∙ o.marked;
      equations = ap (λ x. x.equations) same;
      goals = ap (λ x. x.goals) same;
      constraints = ap (λ x. x.constraints) same;
      hidden = ap (λ x. x.hidden) same;
    }

rules : (i : ℕ) (z : Certainty) → InstancesAreRules (marking i z)
rules i z =
    record {
      instances = λ mode e g c ι a asked among sure is. marked_use i z e g c ι a asked (offered_is z (marks i g) c among) sure is;
      closed = λ mode a ι m.
          record {
            sure = m.sure;
            conclusion = marks_kept i ι.value a.conclusion m.conclusion;
            equations = ap (map (equation_by (instance_of ι))) m.equations;
            goals = ap (map (premise_by (instance_of ι))) m.goals;
            constraints = ap (map (constraint_by (instance_of ι))) m.constraints;
            hidden = ap (map (hidden_by (instance_of ι))) m.hidden;
          };
    }

sources : (i : ℕ) (z : Certainty) → RulesHaveSources (marking i z)
sources i z = record { each = λ mode a q m among. let none : Among [] q = rw m.goals at among in absurd none }

fact_keeps : (z : Certainty) (e g : Tree) → IsCandidateFor e g (fact z)
fact_keeps z e g = record { equations = λ q x. absurd x; constraints = λ q x. absurd x; constrains = λ q x. absurd x; goals = λ q x. absurd x; no_hidden = refl; no_access = refl }

keep : (i : ℕ) (z : Certainty) → CandidatesKeep (marking i z)
keep i z =
    record { each = λ mode e g c asked among. subst (IsCandidateFor e g) (sym ((offered_is z (marks i g) c among).is)) (fact_keeps z e g) }

pub IsLawfulHandler-marking : (i : ℕ) (z : Certainty) → IsLawfulHandler (marking i z)
IsLawfulHandler-marking i z = record { commute = commute i z; rules = rules i z; sources = sources i z; keep = keep i z; judges = objects_judged (marking i z) (λ j. false) refl; at_once = FastAnswersHold-never (marking i z) (λ e g c x. x) }

-- each rule for an instance of a goal is the fact's
fact_offered : (z : Certainty) (b : Bool) → b ≡ true → Among (if b then fact z ∷ [] else []) (fact z)
fact_offered z true e = inl refl
fact_offered z false e = absurd (let n : ⊥ = cc in n)

pub RulesAreOffered-marking : (i : ℕ) (z : Certainty) → RulesAreOffered (marking i z)
RulesAreOffered-marking i z =
    record {
      covered = λ e g ι a asked m env con.
          let marked : marks i g ≡ true = sym (marks_asked i e g ι.value asked) ∙ ap (marks i) (sym con) ∙ m.conclusion in
          record {
            candidate = fact z;
            offered = fact_offered z (marks i g) marked;
            chosen = [];
            values = tt;
            of_rule = λ v x. absurd x;
            equations = λ q x. absurd x;
            constraints = λ q x. absurd x;
            goals = λ q x. absurd x;
          };
    }

-- it means the same in each store
pub MeansSame-itself : (h : Handler) → MeansSame h h
MeansSame-itself h = record { applies = λ mode a. (λ x. x, λ x. x); offers = λ mode e g. refl; is_coinductive = λ i. refl; judges = refl; leaks = λ c u l. l; at_once = λ e g c x. x }
