-- What normalizing a term in a context comes to, by example.
use Rattle.std.proofs.Common.{◌≡◌, refl, sym, subst, inl, ◌+◌, List, [], ◌∷◌, ◌++◌, map, length, ap, ◌∙◌, arith, ◌<◌, Option, None, Ok, true, false}
use Rattle.std.proofs.lemmas.List.{length-append}
use Rattle.nts_model.specs.Terms.Trees.{Tree}
use Rattle.nts_store.specs.declared.nodes.NodeId.{NodeId}
use Rattle.nts_terms.specs.declared.cx.Cx.{Cx}
use Rattle.nts_terms.specs.declared.handles.Goal.{Goal}
use Rattle.nts_terms.specs.declared.handles.ParamEnv.{ParamEnv}
use Rattle.nts_certainty.specs.declared.sources.GoalSource.{GoalSource}
use Rattle.nts_certainty.specs.declared.sources.GoalSource.TheVariants as source
use Rattle.nts_certainty.specs.declared.sources.PathKind.TheVariants as path
use Rattle.nts_evaluation.specs.nts_meaning.specs.Meant.{Rules, Always, ruling_since}
use Rattle.nts_search.specs.declared.kinds.CurrentGoalKind.TheVariants as kind
use Rattle.nts_adding.specs.Adding.{AddsEach}
use Rattle.nts_adding.specs.Equal.{equal_nodes}
use Rattle.nts_solver_relating.specs.Sides.{AreGoalsOfPairs}
use Rattle.nts_unify.specs.Entries.{Entries}
use Rattle.nts_unify.specs.Reading.{content_of}
use Rattle.nts_contexts.specs.declared.context.EvalCtxt.{EvalCtxt}
use Rattle.nts_adding.specs.Equal.{IsEqualToNew}
use Rattle.nts_adding.proofs.AddingExamples.{item, grown, one_goal, no_entries, one_entry, equal_by_a_goal}
use Rattle.nts_nested_goals.specs.declared.state.EvalState.{EvalState}
use Rattle.nts_contexts.specs.Normalizing.{HasBegun, Normalizes, RefusesNormal}
use Rattle.nts_nested_goals.specs.Related.{AddsEqualToNew}
use Rattle.std.specs.Prelude.{IfSome}
use Rattle.nts_model.specs.Tables.Resolving.{deeply_resolved}
use Rattle.nts_store.specs.declared.fault.Fault.{Fault}
use Rattle.nts_table.specs.Tables.{Table}
use Rattle.nts_model.specs.Lists.{Among}
use Rattle.nts_theory.specs.Telling.{CanAsk}
use Rattle.nts_store.specs.Growth.{tree_at}
use Rattle.nts_terms.specs.Modes.{mode_of}
use Rattle.nts_evaluation.specs.nts_meaning.specs.Telling.{Refused}
use Rattle.nts_evaluation.specs.nts_trying.specs.Stepping.{AreLeft, none_left, is_left}
use Rattle.nts_theory.specs.Telling.Reaches.{asks_nothing}
use Rattle.nts_certainty.specs.Certainties.{ambiguous}
use Rattle.nts_evaluation.specs.nts_trying.specs.declared.steps.AvailableDepth.TheVariants as available
use Rattle.nts_evaluation.specs.Counting.{AsksOnce, AsksEach}
use Rattle.nts_evaluation.specs.Counting.MakesSteps.{no_step, then_steps}
use Rattle.nts_contexts.specs.Contexts.{content_in, tree_in}

-- what is put behind a list and is not empty makes another list
longer_no : {X : Type 0} (ys zs xs ws : List X) (x : X) → ys ≡ ys ++ zs → zs ≡ (xs ++ x ∷ []) ++ ws → ⊥
longer_no ys zs xs ws x same is =
    let all : length ys ≡ length ys + length zs = ap length same ∙ length-append ys zs in
    let more : length zs ≡ length xs + 1 + length ws = ap length is ∙ length-append (xs ++ x ∷ []) ws ∙ ap (λ n. n + length ws) (length-append xs (x ∷ [])) in
    omega (arith, all, more)

-- a context to which no goal is added has not begun to normalize
pub unbegun_no : {H : Type 0} {ready : List Tree → H → Type 0} {a : EvalCtxt H} {env : ParamEnv} {x v : NodeId} → HasBegun ready a a env x v → ⊥
unbegun_no {H} {ready} {a} {env} {x} {v} h =
    by_goals h.adds.store h.adds.entries h.adds.goals h.adds.added h.adds.equal.equal h.adds.adds h.adds.behind
  where
    by_goals : (us : List Tree) (f : Entries) (gs : List Goal) (added : List (GoalSource × Goal)) → AreGoalsOfPairs us (content_of us f) env (equal_nodes x v ∷ []) gs
        → AddsEach us a.cx.now.nodes f a.table.now.entries kind.Misc source.TypeRelating gs added → a.state.now.nested_goals.items ≡ a.state.now.nested_goals.items ++ added → ⊥
    by_goals us f [] added e h same = e
    by_goals us f (g ∷ gs) added e (ms, m, xs, ys, one, rest, is) same =
        longer_no a.state.now.nested_goals.items added (map (λ z. (source.NormalizeGoal one.step, z)) one.relations) ys (source.TypeRelating, one.last) same (is ∙ ap (λ z. z ++ ys) one.is)

-- .. so nothing was normalized by it and nothing was refused
pub unnormalized_no : {H : Type 0} {ready : List Tree → H → Type 0} {R : Rules} {a b : EvalCtxt H} {env : ParamEnv} {x r : NodeId} (h : Normalizes ready R a b env x r) → h.between ≡ a → ⊥
unnormalized_no {H} {ready} {R} {a} {b} {env} {x} {r} h same = unbegun_no (subst (λ z. HasBegun ready a z env x h.variable) same h.begun)

pub unrefused_no : {H : Type 0} {ready : List Tree → H → Type 0} {R : Rules} {a : EvalCtxt H} {env : ParamEnv} {x : NodeId} (h : RefusesNormal ready R a env x) → h.between ≡ a → ⊥
unrefused_no {H} {ready} {R} {a} {env} {x} h same = unbegun_no (subst (λ z. HasBegun ready a z env x h.variable) same h.begun)

-- the goal that the first alias is equal to the first variable is added behind what was there
pub begun_by_a_goal : (a b : Cx) (m n : EvalState) (env : ParamEnv) → a.nodes ≡ item ∷ [] → b.nodes ≡ grown → n.nested_goals.items ≡ m.nested_goals.items ++ (source.TypeRelating, one_goal env) ∷ []
    → AddsEqualToNew a b no_entries one_entry m n env (record { number = 0 }) (record { number = 1 })
begun_by_a_goal a b m n env old new behind = record {
  store = grown;
  entries = one_entry;
  goals = one_goal env ∷ [];
  equal = subst (λ z. IsEqualToNew z grown no_entries one_entry env (record { number = 0 }) (record { number = 1 }) (one_goal env ∷ [])) (sym old) (equal_by_a_goal env);
  added = (source.TypeRelating, one_goal env) ∷ [];
  adds = subst (λ z. AddsEach grown z one_entry one_entry kind.Misc source.TypeRelating (one_goal env ∷ []) ((source.TypeRelating, one_goal env) ∷ [])) (sym new)
      (grown, one_entry, (source.TypeRelating, one_goal env) ∷ [], [], record { relations = []; last = one_goal env; stand = inl (tt, refl, refl, refl); step = path.Inductive; kind = refl; is = refl }, (refl, refl, refl), refl);
  behind = behind;
}

-- goals that are all left are those
all_left : (gs : List (GoalSource × Goal)) → AreLeft gs gs
all_left [] = none_left
all_left (g ∷ gs) = is_left g (all_left gs)

no_fault : (o : Option Fault) (P : Fault → Type 0) → o ≡ None → IfSome o P
no_fault o P e = subst (λ z. IfSome z P) (sym e) tt

-- where the goals were asked in one step, which left them all in doubt and found nothing out, the answer is the variable itself
pub normal_in_doubt : {H : Type 0} {ready : List Tree → H → Type 0} {R : Rules} {a m b : EvalCtxt H} {env : ParamEnv} {x v : NodeId} → HasBegun ready a m env x v → b.cx.now ≡ m.cx.now → b.table.now ≡ m.table.now → b.state.now.nested_goals.items ≡ m.state.now.nested_goals.items
    → Always R m.cx.now (λ s. AsksEach (AsksOnce (ruling_since R.handler s) m.table.now.mode (available.Root m.state.now.root_depth)) (m.cx.now, m.table.now) m.state.now.nested_goals.items (m.cx.now, m.table.now) m.state.now.nested_goals.items false)
    → b.state.now.last_steps ≡ 1 → 0 < m.cx.now.step_limit → deeply_resolved (content_in m) (tree_in m v) ≡ tree_in m v → Normalizes ready R a b env x v
normal_in_doubt {R = R} {a = a} {m = m} {b = b} {x = x} {v = v} begun store table goals asked steps some itself =
    let here : content_in b ≡ content_in m = (λ i. content_of (let c : Cx = store i in c.nodes) (let t : Table = table i in t.entries)) in
    let tree : tree_in b v ≡ tree_in m v = (λ i. (let c : Cx = store i in tree_at c.nodes v)) in
    record {
      between = m;
      variable = v;
      begun = begun;
      evaluates = record {
        left = subst (AreLeft m.state.now.nested_goals.items) (sym goals) (all_left m.state.now.nested_goals.items);
        proved = λ s z i. inl (rw goals i);
        faulted = no_fault m.state.now.fault _ begun.sound;
      };
      is = tree ∙ sym itself ∙ ap (λ c. deeply_resolved c (tree_in m v)) (sym here) ∙ ap (deeply_resolved (content_in b)) (sym tree);
      told = λ s. rw here asks_nothing;
      steps = rw steps some;
      counts = λ s. record {
        between = b;
        answer = Ok ambiguous;
        rests = λ i. true;
        counts = (false, rw (steps, store, table, goals) (then_steps no_step (asked s)), inl refl);
        steps = refl;
        left = refl;
        table = refl;
      };
    }

-- .. and where one of the goals is refused at once, there is no answer
pub normal_refused : {H : Type 0} {ready : List Tree → H → Type 0} {R : Rules} {a m : EvalCtxt H} {env : ParamEnv} {x v : NodeId} → HasBegun ready a m env x v → (z : GoalSource × Goal) → Among m.state.now.nested_goals.items z → CanAsk (content_in m)
    → Always R m.cx.now (λ s. Refused (ruling_since R.handler s) (mode_of m.table.now.mode) (content_in m) (deeply_resolved (content_in m) (tree_at m.cx.now.nodes z.1.param_env.node)) (deeply_resolved (content_in m) (tree_at m.cx.now.nodes z.1.predicate.node))) → RefusesNormal ready R a env x
normal_refused {m = m} {v = v} begun z i can refused = record {
  between = m;
  variable = v;
  begun = begun;
  refused = λ s. (record { goal = z; among = i; table = content_in m; reaches = asks_nothing; can_ask = can }, refused s);
}
