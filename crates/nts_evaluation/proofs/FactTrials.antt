-- A candidate without goals that was run in the first table of a query: its response, if it says nothing, is over the terms of the query.
use Rattle.std.proofs.Common.{◌≡◌, ℕ, Bool, true, false, List, map, refl, sym, ap, subst, ◌∙◌, ⊎_elim}
use Rattle.nts_model.specs.Terms.Trees.{Tree}
use Rattle.nts_model.specs.Tables.Contents.{Content}
use Rattle.nts_model.specs.Tables.Holding.{Continues}
use Rattle.nts_model.specs.Derivations.Handlers.{Handler, Candidate, IsLawfulHandler}
use Rattle.nts_model.specs.Derivations.Rules.{Mode}
use Rattle.nts_model.specs.Refutation.Choosing.{IsCandidateMet}
use Rattle.nts_model.specs.Refutation.Opening.{binds}
use Rattle.nts_theory.specs.Telling.{IsTraitGoal, IsResponseOf, AreTermsOfKinds}
use Rattle.nts_theory.specs.RelatingCandidates.{IsBegun, goals_with}
use Rattle.nts_decisions.specs.Faring.{Fares, no_world, by_goals}
use Rattle.nts_decisions.specs.FirstTables.{IsSettledFact}
use Rattle.nts_decisions.proofs.FactsSettled.{fact_over, are_places, reached_nothing}
use Rattle.nts_theory.specs.Telling.{kind_for}
use Rattle.nts_theory.proofs.Examples.ToldExamples.{none_with}
use Rattle.nts_theory.proofs.Refutation.PosedGoals.{none_posed}
use Rattle.nts_store.specs.Growth.{tree_at, Extends}
use Rattle.nts_store.specs.Formed.{AreFormed}
use Rattle.nts_terms.specs.declared.handles.Goal.{Goal}
use Rattle.nts_terms.specs.declared.handles.GenericArg.{GenericArg}
use Rattle.nts_terms.specs.declared.modes.TypingMode.{TypingMode}
use Rattle.nts_terms.specs.Modes.{mode_of}
use Rattle.nts_unify.specs.Reading.{content_of}
use Rattle.nts_table.specs.Tables.{Table, IsTable}
use Rattle.nts_canonical.specs.declared.types.Canonical.{Canonical}
use Rattle.nts_canonical.specs.Forms.{trees_of, kind_of_var}
use Rattle.nts_canonical.specs.Kinds.{value_leaves}
use Rattle.nts_candidates.specs.declared.data.CandidateData.{CandidateData}
use Rattle.nts_candidates.specs.Offered.{candidate_of, candidates_of}
use Rattle.nts_delegate.specs.Relevant.{LeavesOut}
use Rattle.nts_response.specs.declared.types.Response.{Response}
use Rattle.nts_response.specs.Forms.{response_at, recorded_at, HoldsResponse}
use Rattle.nts_search.proofs.StackLater.{response_same}
use Rattle.nts_meaning.specs.Asking.{first_values}
use Rattle.nts_meaning.specs.Telling.{Ruling, queries}
use Rattle.nts_meaning.specs.Meant.{HasRunTo}
use Rattle.nts_meaning.specs.Evaluation.{IsPosed, IsAskedGoal}
use Rattle.nts_trying.specs.Opening.{IsOpenedTo}
use Rattle.nts_meaning.proofs.Running.{term_table}
use Rattle.nts_trying.proofs.LeftOut.{among_all}
use Rattle.nts_evaluation.specs.Deciding.{IsQueryAtFirst, IsPlainCandidate, ArePlainCandidates, IsOverIfSilent, CandidatesSettled}
use Rattle.nts_evaluation.proofs.DecidedGoals.{kept_fares}

-- a query in a store that has grown
pub query_later : (a b : List Tree) (t u : Table) (g o : Goal) (qs : List GenericArg) → content_of b u.entries ≡ content_of a t.entries → tree_at b o.param_env.node ≡ tree_at a g.param_env.node → tree_at b o.predicate.node ≡ tree_at a g.predicate.node
    → trees_of b qs ≡ trees_of a qs → IsQueryAtFirst a t g qs → IsQueryAtFirst b u o qs
query_later a b t u g o qs same env predicate values q = record { kinds = q.kinds; values = values ∙ q.values; first = rw (same, env, predicate) q.first }

pub plain_later : (a b : List Tree) (g : Goal) (x y : Candidate) → tree_at b g.param_env.node ≡ tree_at a g.param_env.node → tree_at b g.predicate.node ≡ tree_at a g.predicate.node → y ≡ x → IsPlainCandidate a g x → IsPlainCandidate b g y
plain_later a b g x y env predicate same p = rw same (record { offered = rw (env, predicate) p.offered; no_goals = p.no_goals; plain = p.plain })

-- one that relates no aliases was begun at once
ran_plainly : (h : Ruling) (s : Table) (a b : List Tree) (u : Table) (g : Goal) (x : CandidateData) → IsPlainCandidate a g (candidate_of a x) → (run : HasRunTo h s.mode a s b u g x)
    → (vs : List Tree) × IsBegun (content_of a s.entries) (candidate_of a x) vs run.met × (run.left ≡ goals_with vs (let y = candidate_of a x in y.goals))
ran_plainly h s a b u g x p run =
    ⊎_elim (λ w. (w.0, w.2, w.3)) (λ w. absurd (⊎_elim (λ v. (let r = v.1 in r.some p.plain)) (λ v. (let o = v.1 in let r = o.begun in r.some p.plain)) w)) run.begun

-- the response of the table that such a candidate left
pub over_after : (h : Ruling) (s t u : Table) {a b : List Tree} (e : List Tree) (x : CandidateData) (g : Goal) (qs : List GenericArg) (r : Canonical Response) → HasRunTo h s.mode a s b u g x → s.entries ≡ t.entries
    → Continues (content_of a s.entries) (content_of b u.entries) → AreFormed b → IsTable b u
    → IsQueryAtFirst a t g qs → IsPlainCandidate a g (candidate_of a x) → IsResponseOf (content_of b u.entries) (trees_of a qs) (response_at e r) → HoldsResponse e r.value → IsOverIfSilent e (trees_of a qs) r
over_after h s t u {a} {b} e x g qs r run same continues formed table q p says holds ts up silent =
    let now = table.now in
    let proper = now.proper in
    let terms = term_table formed table in
    let (chosen, its_begun, left) = ran_plainly h s a b u g x p run in
    let none = none_posed (mode_of s.mode) (kind_for h.handler (tree_at a g.predicate.node)) run.met run.posed run.left run.goals run.poses (left ∙ none_with chosen _ p.no_goals) in
    let found : content_of b u.entries ≡ run.met = reached_nothing (queries h.variances) h.handler (mode_of s.mode) run.goals run.posed (content_of b u.entries) none.1 run.reaches ∙ none.0 in
    let begun : IsBegun (content_of a t.entries) (candidate_of a x) chosen (content_of b u.entries) = rw (← same, found) its_begun in
    let later : Continues (content_of a t.entries) (content_of b u.entries) = rw (← same) continues in
    let values : trees_of a qs ≡ first_values q.kinds = q.values in
    let one : response_at ts r ≡ response_at e r = response_same e ts r up holds in
    let says_there : IsResponseOf (content_of b u.entries) (first_values q.kinds) (response_at ts r) = rw one (subst (λ z. IsResponseOf (content_of b u.entries) z (response_at e r)) values says) in
    let no_constraints = silent.2 in
    subst (AreTermsOfKinds (map kind_of_var r.var_kinds.items)) (sym values)
    (fact_over (content_of a t.entries) (value_leaves 0 q.kinds) (tree_at a g.param_env.node) (tree_at a g.predicate.node) q.first (candidate_of a x) p.offered chosen (content_of b u.entries) begun (record { grows = later.grows; kinds = later.kinds })
    now.sound proper.solvable terms.values (response_at ts r) says_there (are_places (trees_of ts r.value.var_values.items) silent.1) (ap (map (recorded_at ts)) no_constraints.0))

-- what a handler kept of what it offers: how it fares, and that what is met has no goals
pub facts_kept : (h : Handler) (law : IsLawfulHandler h) (mode : TypingMode) (a : List Tree) (t : Table) (g : Goal) (xs : List CandidateData) → IsSettledFact h (mode_of mode) (content_of a t.entries) (tree_at a g.param_env.node) (tree_at a g.predicate.node)
    → LeavesOut (h.offers (mode_of mode) (tree_at a g.param_env.node) (tree_at a g.predicate.node)) (candidates_of a xs) → CandidatesSettled h mode 0 a t xs true × ArePlainCandidates a t g xs
facts_kept h law mode a t g xs f out = (
  record { fares = kept_fares h (mode_of mode) 0 (content_of a t.entries) true out f.fares; sure = λ x i. f.sure x (among_all x out i); plain = λ x i. f.no_aliases x (among_all x out i) },
  λ x i met. record {
    offered = (let k = law.keep in k.each (mode_of mode) (tree_at a g.param_env.node) (tree_at a g.predicate.node) x f.asked (among_all x out i));
    no_goals = f.no_goals x (among_all x out i) met;
    plain = f.no_aliases x (among_all x out i);
  },
)

-- a candidate that holds is met
fares_met : {h : Handler} {mode : Mode} {n : ℕ} {c : Content} {y : Candidate} {b : Bool} → b ≡ true → Fares h mode n c y b → IsCandidateMet c y
fares_met e (no_world u) = absurd (cc e)
fares_met e (by_goals m g) = m

pub held_met : {h : Handler} {mode : Mode} {n : ℕ} {c : Content} {y : Candidate} → Fares h mode n c y true → IsCandidateMet c y
held_met f = fares_met refl f

-- a goal that binds nothing is itself once it is opened
pub record IsOpenedSame (a b : List Tree) (t u : Table) (g o : Goal) : Type 0 where
  pub table : content_of b u.entries ≡ content_of a t.entries
  pub environment : tree_at b o.param_env.node ≡ tree_at a g.param_env.node
  pub predicate : tree_at b o.predicate.node ≡ tree_at a g.predicate.node

pub fact_opened : (a b : List Tree) (t u : Table) (g o : Goal) → IsOpenedTo a b t u g o → binds (tree_at a g.predicate.node) ≡ false → IsPosed a t g → Extends a b → IsOpenedSame a b t u g o
fact_opened a b t u g o opened none posed up =
    let holds = posed.holds in
    record {
      table = rw none at opened.table;
      environment = ap (λ z. tree_at b z.node) opened.environment ∙ up.kept g.param_env.node holds.env.within;
      predicate = rw none at opened.predicate;
    }

pub fact_asked : (h : Handler) (mode : Mode) (a b : List Tree) (t u : Table) (g o : Goal) → IsOpenedTo a b t u g o → IsSettledFact h mode (content_of a t.entries) (tree_at a g.param_env.node) (tree_at a g.predicate.node) → IsPosed a t g → IsPosed b u o → Extends a b → IsAskedGoal b o
fact_asked h mode a b t u g o opened f posed there up =
    let x = fact_opened a b t u g o opened f.binds_nothing posed up in
    let trait : IsTraitGoal (tree_at b o.param_env.node) (tree_at b o.predicate.node) = rw (x.environment, x.predicate) f.trait_goal in
    record {
      asked = record { holds = there.holds; asked = rw (x.environment, x.predicate) f.asked };
      trait_goal = trait;
    }
