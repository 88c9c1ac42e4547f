-- A goal that a fast path answers yes is proved under each table, whatever is assumed; and goals that hold by a rule that asks for
-- nothing may be answered so.
use Rattle.std.proofs.Common.{◌≡◌, inl, ⊎_elim, ℕ, List, [], sym, subst}
use Rattle.nts_model.specs.declared.labels.Variance.{Variance}
use Rattle.nts_model.specs.Terms.Trees.{Tree, IsClosed}
use Rattle.nts_model.specs.Tables.Contents.{Content}
use Rattle.nts_model.specs.Tables.Resolving.{deeply_resolved}
use Rattle.nts_model.specs.Derivations.Sequents.{IsOfTerms, HasClosedStatement}
use Rattle.nts_model.specs.Derivations.Rules.{Meaning, Mode, Application}
use Rattle.nts_model.specs.Derivations.Proofs.{HasProof, Assumed, by_rule, by_ranked, all_derived}
use Rattle.nts_model.specs.Derivations.Handlers.{Handler, certain, meaning, alone, IsAsked, FastAnswersHold}
use Rattle.nts_model.specs.Searching.Stacks.{IsProvedFrom}
use Rattle.nts_model.proofs.Tables.Fitting.{IsClosed-under}
use Rattle.nts_model.proofs.Terms.Composing.{itself, instance_of-itself}
use Rattle.nts_model.proofs.Terms.Identified.{one_itself}
use Rattle.nts_theory.proofs.Derivations.ClosedStatements.{closed_unbound}
use Rattle.nts_theory.proofs.Derivations.Rooted.{derived_proof}

-- what rests on nothing rests on what a table holds
pub alone_proved : (m : Meaning) (mode : Mode) (A : List Assumed) (c : Content) (e p : Tree) → HasProof m mode (alone (deeply_resolved c e) (deeply_resolved c p)) → IsProvedFrom m mode A c e p
alone_proved m mode A c e p x =
    let i = x.is_instance in
    record {
      sequent = x.first.sequent;
      reached = inl (by_ranked x.nodes x.first x.ranked x.found);
      instance = x.instance;
      is_instance =
          record {
            environment = λ f one. i.environment f (λ z a b among. absurd among);
            predicate = λ f one. i.predicate f (λ z a b among. absurd among);
            constraints = λ z k. ⊎_elim (λ t. inl t) (λ among. absurd among) (i.constraints z k);
            hidden = λ z k. ⊎_elim (λ t. inl (λ f one. t f (λ y a b among. absurd among))) (λ w. absurd w.1) (i.hidden z k);
            open_goals = λ g k. absurd (i.open_goals g k);
          };
    }

-- a goal that the table reads as one that is answered yes at once
pub fast_proved : (h : Handler) (V : ℕ → List Variance) → FastAnswersHold h → (mode : Mode) (A : List Assumed) (c : Content) (e p : Tree) → IsAsked (deeply_resolved c e) (deeply_resolved c p) → h.at_once (deeply_resolved c e) (deeply_resolved c p) certain → IsProvedFrom (meaning h V) mode A c e p
fast_proved h V law mode A c e p asked x = alone_proved (meaning h V) mode A c e p (law.proved mode V (deeply_resolved c e) (deeply_resolved c p) asked x)

-- a use of a rule that asks for nothing
pub record AsksNothing (a : Application) (e g : Tree) : Type 0 where
  pub environment : a.environment ≡ e
  pub conclusion : a.conclusion ≡ g
  pub values : a.values ≡ []
  pub equations : a.equations ≡ []
  pub goals : a.goals ≡ []
  pub constraints : a.constraints ≡ []
  pub hidden : a.hidden ≡ []

asked_is_term : (e g : Tree) → IsAsked e g → IsOfTerms (alone e g)
asked_is_term e g h =
    let closed = h.closed.1.0 in
    record {
      formed = h.formed;
      closed = (h.closed.0, (subst IsClosed (sym h.binds_nothing) (tt, ((tt, tt), (IsClosed-under 1 h.statement closed, tt))), tt));
      no_positions = h.no_positions;
      well_bound = h.well_bound;
      statement = subst HasClosedStatement (sym h.binds_nothing) (closed_unbound h.statement closed);
      statements = h.statements;
    }

pub fact_alone : (h : Handler) (V : ℕ → List Variance) (mode : Mode) (e g : Tree) (a : Application) → IsAsked e g → h.applies mode a → AsksNothing a e g → HasProof (meaning h V) mode (alone e g)
fact_alone h V mode e g a asked applies n =
    derived_proof (meaning h V) mode (alone e g)
    (record {
      sequent = alone e g;
      reached = inl (by_rule [] (asked_is_term e g asked)
          (inl (
            asked.statement,
            asked.binds_nothing,
            inl (
              asked.handlers,
              record {
                use_of = a;
                applies = applies;
                environment = n.environment;
                conclusion = subst (λ z. a.conclusion ≡ z) asked.binds_nothing n.conclusion;
                values = λ v i. absurd (rw n.values at i);
                equations = λ q i. absurd (rw n.equations at i);
                goals = λ q i. absurd (rw n.goals at i);
                constraints = λ x i. absurd (rw n.constraints at i);
                hidden = λ x i. absurd (rw n.hidden at i);
                item_bounds = λ x q i j. absurd (rw n.hidden at i);
              },
            ),
          )) all_derived);
      instance = itself;
      is_instance =
          record {
            environment = one_itself [] _ _ (instance_of-itself e asked.formed.0);
            predicate = one_itself [] _ _ (instance_of-itself g asked.formed.1.0);
            constraints = λ x i. absurd i;
            hidden = λ x i. absurd i;
            open_goals = λ q i. absurd i;
          };
    })
