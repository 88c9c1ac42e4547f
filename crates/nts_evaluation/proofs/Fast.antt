-- A goal that is answered at once: it is proved, and where it is decided, it is answered as it is decided.
use Rattle.std.proofs.Common.{◌≡◌, ℕ, Bool, true, List, refl, sym, ◌∙◌}
use Rattle.nts_model.specs.declared.labels.Variance.{Variance}
use Rattle.nts_model.specs.Terms.Trees.{Tree}
use Rattle.nts_model.specs.Tables.Contents.{Content}
use Rattle.nts_model.specs.Tables.Resolving.{deeply_resolved}
use Rattle.nts_model.specs.Derivations.Rules.{Mode}
use Rattle.nts_model.specs.Derivations.Handlers.{Handler, certain, meaning, IsAsked, FastAnswersHold}
use Rattle.nts_model.specs.Derivations.Proofs.{Assumed}
use Rattle.nts_model.specs.Derivations.Proving.{sequent_at}
use Rattle.nts_model.proofs.Tables.TableInstances.{reading_of}
use Rattle.nts_theory.proofs.Derivations.Assuming.{derived_instance}
use Rattle.nts_theory.proofs.Derivations.FastAnswers.{fast_proved}
use Rattle.nts_theory.proofs.Derivations.ProvedLater.{sequent_later}
use Rattle.nts_decisions.specs.Deciding.{IsGoalDecided, IsFairAtOnce}
use Rattle.nts_decisions.proofs.FastDecisions.{decided_at_once}
use Rattle.nts_certainty.specs.declared.certainty.Certainty.{Certainty}
use Rattle.nts_certainty.specs.declared.certainty.Certainty.TheVariants as certainty
use Rattle.nts_store.specs.Formed.{AreFormed}
use Rattle.nts_store.specs.Growth.{tree_at}
use Rattle.nts_terms.specs.declared.cx.Cx.{Cx}
use Rattle.nts_terms.specs.declared.handles.Goal.{Goal}
use Rattle.nts_terms.specs.Rest.{Grows}
use Rattle.nts_unify.specs.Reading.{content_of}
use Rattle.nts_table.specs.Tables.{Table}
use Rattle.nts_candidates.specs.Offered.{certainty_of}
use Rattle.nts_delegate.specs.SameHandlers.{MeansSame}
use Rattle.nts_meaning.specs.Evaluation.{IsPosed}
use Rattle.nts_meaning.specs.Running.{StaysProved}
use Rattle.nts_meaning.proofs.Running.{term_table}
use Rattle.nts_trying.specs.Fast.{IsFastAnswer}
use Rattle.nts_evaluation.specs.Counting.{AnsweredAtOnce}

-- the goal o of the later store b is the goal g of the store a, as the table knows it
pub record IsReadAs (a b : Cx) (t : Table) (g o : Goal) : Type 0 where
  pub env : tree_at b.nodes o.param_env.node ≡ deeply_resolved (content_of a.nodes t.entries) (tree_at a.nodes g.param_env.node)
  pub predicate : tree_at b.nodes o.predicate.node ≡ deeply_resolved (content_of a.nodes t.entries) (tree_at a.nodes g.predicate.node)

-- what is answered of it by what the handler means later, is by what it meant
pub answered_at_once : {h k : Handler} {a b : Cx} {t : Table} {g o : Goal} {x : Certainty} → MeansSame h k → Grows a b → IsReadAs a b t g o → IsFastAnswer h b o x → AnsweredAtOnce k a t g x
answered_at_once {h} {k} {a} {b} {t} {g} {o} {x} same w reads f =
    let r = w.rest in
    let c = content_of a.nodes t.entries in
    record {
      on = sym r.fast_paths ∙ f.on;
      answers = same.at_once (deeply_resolved c (tree_at a.nodes g.param_env.node)) (deeply_resolved c (tree_at a.nodes g.predicate.node)) (certainty_of x) (rw (reads.env, reads.predicate) at f.answers);
    }

pub asked_at_once : {h : Handler} {a b : Cx} {t : Table} {g o : Goal} {x : Certainty} → IsReadAs a b t g o → IsFastAnswer h b o x → (let c = content_of a.nodes t.entries in IsAsked (deeply_resolved c (tree_at a.nodes g.param_env.node)) (deeply_resolved c (tree_at a.nodes g.predicate.node)))
asked_at_once reads f = (let q = f.asked in let i = q.asked in rw (reads.env, reads.predicate) at i.asked)

-- a yes
only_yes : (x : Certainty) → certainty_of x ≡ certain → x ≡ certainty.Yes
only_yes certainty.Yes e = refl
only_yes (certainty.Maybe i) e = absurd (let clash : ⊥ = cc e in clash)

-- it is proved under the table, and under each later one
pub stays_at_once : {a : List Tree} {t : Table} {g : Goal} (k : Handler) (V : ℕ → List Variance) (mode : Mode) (A : List Assumed) → FastAnswersHold k → AreFormed a → IsPosed a t g
    → (let c = content_of a t.entries in IsAsked (deeply_resolved c (tree_at a g.param_env.node)) (deeply_resolved c (tree_at a g.predicate.node)))
    → (let c = content_of a t.entries in k.at_once (deeply_resolved c (tree_at a g.param_env.node)) (deeply_resolved c (tree_at a g.predicate.node)) certain)
    → StaysProved (meaning k V) mode A a t g
stays_at_once {a} {t} {g} k V mode A law formed posed asked x =
    let c : Content = content_of a t.entries in
    let w = term_table formed posed.table in
    let e = tree_at a g.param_env.node in
    let p = tree_at a g.predicate.node in
    let h = posed.holds in
    let n = posed.knows in
    record {
      later = λ d s goes.
          derived_instance (meaning k V) mode A (reading_of d s.sound s.values) (sequent_at c e p) (sequent_at d e p)
          (fast_proved k V law mode A c e p asked x)
          (sequent_later c d w.sound s.sound w.values s.values e p goes w.constraints
          (record { knows = n.env; formed = formed g.param_env.node h.env.within }) (record { knows = n.predicate; formed = formed g.predicate.node h.predicate.within }));
    }

-- a goal that is decided is answered yes, if it is decided so
pub decided_so : {k : Handler} {a : Cx} {t : Table} {g : Goal} {x : Certainty} (mode : Mode) (n : ℕ) (b : Bool) → FastAnswersHold k → IsFairAtOnce k
    → (let c = content_of a.nodes t.entries in IsAsked (deeply_resolved c (tree_at a.nodes g.param_env.node)) (deeply_resolved c (tree_at a.nodes g.predicate.node)))
    → (let c = content_of a.nodes t.entries in IsGoalDecided k mode n (deeply_resolved c (tree_at a.nodes g.param_env.node)) (deeply_resolved c (tree_at a.nodes g.predicate.node)) b)
    → AnsweredAtOnce k a t g x → (b ≡ true) × (x ≡ certainty.Yes)
decided_so {k} {a} {t} {g} {x} mode n b law fair asked d y =
    let c = content_of a.nodes t.entries in
    let f = asked.formed in
    let s = decided_at_once k mode n (deeply_resolved c (tree_at a.nodes g.param_env.node)) (deeply_resolved c (tree_at a.nodes g.predicate.node)) b (certainty_of x) law fair f.0 f.1.0 asked d y.answers in (
      s.1,
      only_yes x s.0,
    )
