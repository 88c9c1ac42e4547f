-- What a handler judges of goals of the engine's own kinds, and what it answers at once, as its calls answer it.
use Rattle.std.specs.Prelude.{◌≡◌, ℕ, Bool, true, false, List, Option, Some, None, map}
use Rattle.std.proofs.Common.{subst}
use Rattle.nts_model.specs.Terms.Trees.{Tree}
use Rattle.nts_model.specs.Derivations.Handlers.{Handler, Certainty, Judgements, no_judgements, JudgementsAreKept, FastAnswersHold}
use Rattle.nts_store.specs.Growth.{tree_at}
use Rattle.nts_terms.specs.declared.handles.Goal.{Goal}
use Rattle.nts_terms.specs.declared.handles.ParamEnv.{ParamEnv}
use Rattle.nts_terms.specs.Handles.{HoldsGoal}

-- of which traits objects can be made, which features an environment allows, what a const is evaluated as, and by which predicates a
-- term is well formed
abbrev pub makes_objects : Handler → ℕ → Bool
makes_objects h i = (let j = h.judges in j.is_dyn_compatible i)

abbrev pub allows_in : Handler → Tree → ℕ → Bool
allows_in h e f = (let j = h.judges in j.allows e f)

abbrev pub evaluates_in : Handler → Tree → Tree → Option Tree
evaluates_in h e c = (let j = h.judges in j.evaluates e c)

abbrev pub well_formed_in : Handler → Tree → Tree → Option (List Tree)
well_formed_in h e t = (let j = h.judges in j.well_formed e t)

-- the predicates of goals
abbrev pub predicates_read : List Tree → List Goal → List Tree
predicates_read ts gs = map (λ g. tree_at ts g.predicate.node) gs

-- a goal of the store in that environment
pub record IsGoalIn (ts : List Tree) (env : ParamEnv) (g : Goal) : Type 0 where
  pub holds : HoldsGoal ts g
  pub environment : g.param_env ≡ env

-- a handler that only says of which traits objects can be made
abbrev pub objects_alone : (ℕ → Bool) → Judgements
objects_alone f = record no_judgements { is_dyn_compatible = f }

-- .. keeps the law
not_so : false ≡ true → ⊥
not_so e = cc e

not_given : {A : Type 0} {v : A} → None ≡ Some v → ⊥
not_given e = cc e

pub objects_judged : (h : Handler) (f : ℕ → Bool) → h.judges ≡ objects_alone f → JudgementsAreKept h
objects_judged h f same =
    record {
      allows = λ e i ι k a. absurd (not_so (subst (λ (z : Judgements). z.allows e i ≡ true) same a));
      evaluates = λ e c v ι k q. absurd (not_given (subst (λ (z : Judgements). z.evaluates e c ≡ Some v) same q));
      well_formed = λ e t ps ι k q. absurd (not_given (subst (λ (z : Judgements). z.well_formed e t ≡ Some ps) same q));
      goals = λ e t ps p k q i. absurd (not_given (subst (λ (z : Judgements). z.well_formed e t ≡ Some ps) same q));
    }

-- a handler that answers nothing at once keeps the law of its fast path
pub FastAnswersHold-never : (h : Handler) → ((e g : Tree) (c : Certainty) → h.at_once e g c → ⊥) → FastAnswersHold h
FastAnswersHold-never h none =
    record {
      proved = λ mode v e g asked x. absurd (none e g _ x);
      doubted = λ e g why b asked x. absurd (none e g _ x);
    }
