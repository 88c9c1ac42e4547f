-- What normalizing a term in a context comes to.
use Rattle.std.proofs.Common.{◌≡◌, List, Option, None, true, sym, ap, subst, ◌∙◌}
use Rattle.std.specs.Prelude.{◌≤◌, IfOk, IfSome, IsErrAnd, Result, Ok, Err}
use Rattle.nts_model.specs.Terms.Trees.{Tree, Place, NodeKind, kind_of, any_term}
use Rattle.nts_model.specs.Tables.Resolving.{Knows, deeply_resolved}
use Rattle.nts_store.specs.declared.fault.Fault.{Fault}
use Rattle.nts_store.specs.declared.fault.EvalError.{EvalError}
use Rattle.nts_store.specs.declared.fault.EvalError.TheVariants as error
use Rattle.nts_store.specs.declared.nodes.NodeId.{NodeId}
use Rattle.nts_store.specs.Growth.{tree_at, Extends}
use Rattle.nts_terms.specs.declared.handles.ParamEnv.{ParamEnv}
use Rattle.nts_terms.specs.declared.handles.Term.{Term}
use Rattle.nts_terms.proofs.Moved.{Holds-extended}
use Rattle.nts_certainty.specs.declared.certainty.Certainty.{Certainty}
use Rattle.nts_unify.specs.Reading.{content_of}
use Rattle.nts_unify.specs.Lawful.{content_of-extended}
use Rattle.nts_table.specs.Tables.{Table, IsSide}
use Rattle.nts_evaluation.specs.nts_meaning.specs.Evaluation.{Goes}
use Rattle.nts_evaluation.specs.nts_meaning.specs.Meant.{Rules, Always, ruling_since}
use Rattle.nts_evaluation.specs.nts_meaning.proofs.Evaluating.{Knows-goes, Goes-extends}
use Rattle.nts_evaluation.specs.nts_trying.proofs.Stepping.{settled_after}
use Rattle.nts_contexts.specs.declared.context.EvalCtxt.{EvalCtxt}
use Rattle.nts_nested_goals.specs.declared.state.EvalState.{EvalState}
use Rattle.nts_contexts.specs.Contexts.{IsContextReady, KeepsContext, content_in, tree_in}
use Rattle.nts_nested_goals.specs.Faults.{fault_after}
use Rattle.nts_contexts.specs.Promises.{EvaluatesAdded, ReachesAdded, RefusesOneAdded, CountsAdded}
use Rattle.nts_terms.specs.Modes.{mode_of}
use Rattle.nts_evaluation.specs.nts_meaning.specs.Evaluation.{goals_at}
use Rattle.nts_evaluation.specs.nts_meaning.specs.Telling.{Reaches}
use Rattle.nts_contexts.specs.Normalizing.{HasBegun, Normalizes, RefusesNormal}
use Rattle.nts_nested_goals.specs.Related.{AddsEqualToNew}

-- a side stays one
pub side_later : {a b : List Tree} {t u : Table} {p : Place} {x : NodeId} → Goes a b t u → IsSide p a t x → IsSide p b u x
side_later {a} {b} {t} {u} {p} {x} g h =
    record {
      holds = Holds-extended p x g.extends h.holds;
      known = subst (Knows (content_of b u.entries)) (sym (g.extends.kept x h.holds.within)) (Knows-goes (tree_at a x) g h.known);
    }

-- a side of what was answered
pub side_of : {ts : List Tree} {t : Table} {p : Place} (r : Result Term EvalError) (v : Term) → r ≡ Ok v → IfOk r (λ z. IsSide p ts t z.node) → IsSide p ts t v.node
side_of {ts} {t} {p} r v is h = subst (λ z. IfOk z (λ w. IsSide p ts t w.node)) is h

-- .. and of its kind
pub kind_of_answered : {k : Option NodeKind} (ts : List Tree) (r : Result Term EvalError) (v : Term) → r ≡ Ok v → IfOk r (λ z. kind_of (tree_at ts z.node) ≡ k) → kind_of (tree_at ts v.node) ≡ k
kind_of_answered {k} ts r v is h = subst (λ z. IfOk z (λ w. kind_of (tree_at ts w.node) ≡ k)) is h

-- .. which is the same as another
pub kind_as : {k l : Option NodeKind} (ts : List Tree) → k ≡ l → (r : Result Term EvalError) → IfOk r (λ z. kind_of (tree_at ts z.node) ≡ k) → IfOk r (λ z. kind_of (tree_at ts z.node) ≡ l)
kind_as ts e (Ok r) h = h ∙ e
kind_as ts e (Err r) h = tt

-- the goal was added, and that was noted
pub begun : {H : Type 0} {ready : List Tree → H → Type 0} {a m : EvalCtxt H} (s : EvalState) (r : Result Term EvalError) (v : Term) (env : ParamEnv) (x : NodeId) → KeepsContext ready a m → r ≡ Ok v
    → IfOk r (λ z. AddsEqualToNew a.cx.now m.cx.now a.table.now.entries m.table.now.entries a.state.now s env x z.node)
    → m.state.now ≡ record s { fault = fault_after s.fault r } → s.fault ≡ a.state.now.fault → a.state.now.fault ≡ None → HasBegun ready a m env x v.node
begun {H} {ready} {a} {m} s r v env x keeps is adds noted same none =
    let h : AddsEqualToNew a.cx.now m.cx.now a.table.now.entries m.table.now.entries a.state.now s env x v.node =
    subst (λ z. IfOk z (λ w. AddsEqualToNew a.cx.now m.cx.now a.table.now.entries m.table.now.entries a.state.now s env x w.node)) is adds in
    record {
      keeps = keeps;
      adds = record { store = h.store; entries = h.entries; goals = h.goals; equal = h.equal; added = h.added; adds = h.adds; behind = ap (λ (z : EvalState). z.nested_goals.items) noted ∙ h.behind };
      sound = ap (λ (z : EvalState). z.fault) noted ∙ ap (λ z. fault_after z r) (same ∙ none) ∙ ap (fault_after None) is;
    }

no_fault : (o : Option Fault) (P : Fault → Type 0) → o ≡ None → IfSome o P
no_fault o P e = subst (λ z. IfSome z P) (sym e) tt

-- what an answer to the goals of a context rests on
pub record WasAsked {H : Type 0} (R : Rules) (m n : EvalCtxt H) (y : Certainty) : Type 0 where
  pub told : Always R m.cx.now (λ s. ReachesAdded (ruling_since R.handler s) m n)
  pub steps : m.state.now.fault ≡ None → n.state.now.last_steps ≤ m.cx.now.step_limit
  pub counts : Always R m.cx.now (λ s. m.state.now.fault ≡ None → CountsAdded (ruling_since R.handler s) m n (let answered : Result Certainty EvalError = Ok y in answered))

-- the goals were evaluated, and the variable was read in a store that has grown
pub normalized : {H : Type 0} {ready : List Tree → H → Type 0} {a m n b : EvalCtxt H} (R : Rules) (env : ParamEnv) (x v : NodeId) (y : Certainty) (r : NodeId)
    → HasBegun ready a m env x v → IsContextReady ready m → KeepsContext ready m n → EvaluatesAdded R m n (let answered : Result Certainty EvalError = Ok y in answered)
    → Extends n.cx.now.nodes b.cx.now.nodes → b.table.now ≡ n.table.now → b.state.now.nested_goals.items ≡ n.state.now.nested_goals.items → IsSide any_term n.cx.now.nodes n.table.now v
    → tree_in b r ≡ deeply_resolved (content_in n) (tree_in n v) → WasAsked R m n y → b.state.now.last_steps ≡ n.state.now.last_steps → Normalizes ready R a b env x r
normalized {H} {ready} {a} {m} {n} {b} R env x v y r h w k e up table goals side is asked last =
    let same : content_in b ≡ content_in n = ap (λ z. content_of b.cx.now.nodes z.entries) table ∙ content_of-extended up k.is_ready.table.now in
    let here : Goes n.cx.now.nodes b.cx.now.nodes n.table.now b.table.now = subst (Goes n.cx.now.nodes b.cx.now.nodes n.table.now) (sym table) (Goes-extends k.is_ready.table up) in
    record {
      between = m;
      variable = v;
      begun = h;
      evaluates = record {
        left = rw goals e.left;
        proved = λ s. rw goals (settled_after {u = n.table.now} {v = b.table.now} R.handler s m.table.now.mode m.state.now.nested_goals.items n.state.now.nested_goals.items w.goals k.runs.goes.extends here (e.proved s));
        faulted = no_fault m.state.now.fault _ h.sound;
      };
      is = is ∙ ap (λ c. deeply_resolved c (tree_in n v)) (sym same) ∙ ap (deeply_resolved (content_in b)) (sym (up.kept v side.holds.within));
      told = λ s. subst (Reaches (ruling_since R.handler s) (mode_of m.table.now.mode) (goals_at m.cx.now.nodes m.state.now.nested_goals.items) (content_in m)) (sym same) (asked.told s);
      steps = rw last (asked.steps h.sound);
      counts = λ s. record { between = n; answer = Ok y; rests = λ i. true; counts = asked.counts s h.sound; steps = last; left = goals; table = table };
    }

-- .. whatever that reading came to
pub normal_of : {H : Type 0} {ready : List Tree → H → Type 0} {a m n : EvalCtxt H} (b : EvalCtxt H) (R : Rules) (env : ParamEnv) (x v : NodeId) (y : Certainty) (r asked : Result Term EvalError) → asked ≡ r
    → KeepsContext ready m n → HasBegun ready a m env x v → EvaluatesAdded R m n (let answered : Result Certainty EvalError = Ok y in answered)
    → Extends n.cx.now.nodes b.cx.now.nodes → b.table.now ≡ n.table.now → b.state.now.nested_goals.items ≡ n.state.now.nested_goals.items → IsSide any_term n.cx.now.nodes n.table.now v
    → IfOk r (λ z. tree_in b z.node ≡ deeply_resolved (content_in n) (tree_in n v)) → WasAsked R m n y → b.state.now.last_steps ≡ n.state.now.last_steps → IfOk asked (λ z. Normalizes ready R a b env x z.node)
normal_of {H} {ready} {a} {m} {n} b R env x v y (Ok r) asked same k h e up table goals side is was last =
    subst (λ z. IfOk z (λ w. Normalizes ready R a b env x w.node)) (sym same) (normalized R env x v y r.node h h.keeps.is_ready k e up table goals side is was last)
normal_of {H} {ready} {a} {m} {n} b R env x v y (Err r) asked same k h e up table goals side is was last =
    subst (λ z. IfOk z (λ w. Normalizes ready R a b env x w.node)) (sym same) tt

-- a goal is refused in the context that was begun
pub refuses_normal : {H : Type 0} {ready : List Tree → H → Type 0} {a m n : EvalCtxt H} (R : Rules) (env : ParamEnv) (x v : NodeId)
    → KeepsContext ready m n → HasBegun ready a m env x v → Always R m.cx.now (λ s. RefusesOneAdded (ruling_since R.handler s) m) → RefusesNormal ready R a env x
refuses_normal {H} {ready} {a} {m} R env x v _ h refused = record { between = m; variable = v; begun = h; refused = refused }

-- what was answered is passed on
pub same_no : {R : Type 0} (r : Result R EvalError) (e : EvalError) → IsErrAnd r (λ x. x ≡ e) → r ≡ Err error.NoSolution → e ≡ error.NoSolution
same_no (Ok x) e h is = absurd h
same_no (Err x) e h is = sym h ∙ (let f : x ≡ error.NoSolution = cc in f)

-- a term was answered, which is that one
pub node_of : (r : Result Term EvalError) (t u : Term) → r ≡ Ok t → r ≡ Ok u → t.node ≡ u.node
node_of r t u a b = (let e : t ≡ u = cc in ap (λ (z : Term). z.node) e)
