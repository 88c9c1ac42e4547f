-- A candidate of a decided goal that is tried: its equations are made equal exactly if it is met, no region constraint fails, and its
-- goals are decided.
use Rattle.std.proofs.Common.{◌≡◌, ℕ, Bool, false, List, [], map, refl, sym, ap, subst}
use Rattle.nts_model.specs.Terms.Trees.{Tree, IsFormed}
use Rattle.nts_model.specs.Tables.Contents.{Content}
use Rattle.nts_model.specs.Tables.Resolving.{Knows, deeply_resolved}
use Rattle.nts_model.specs.Terms.Substitutions.{filled}
use Rattle.nts_model.specs.Lists.{Among}
use Rattle.nts_model.specs.Derivations.Sequents.{Premise}
use Rattle.nts_model.specs.Derivations.Rules.{Mode}
use Rattle.nts_model.specs.Derivations.Handlers.{Handler, Candidate, premise_by}
use Rattle.nts_model.specs.Refutation.Choosing.{IsCandidateMet}
use Rattle.nts_model.specs.Refutation.Forcing.{AddsAll}
use Rattle.nts_model.proofs.Tables.ResolvedTerms.{IsFormed-deeply_resolved}
use Rattle.nts_theory.specs.RelatingCandidates.{goals_with, HasPlainEquations}
use Rattle.nts_decisions.specs.Faring.{IsBegunHere, AreDecidedHere, Fares, no_world, by_goals}
use Rattle.nts_decisions.proofs.Faring.{among_by}
use Rattle.nts_decisions.proofs.DecidingRenamed.{IsMapped, among_back}
use Rattle.nts_certainty.specs.declared.sources.GoalSource.{GoalSource}
use Rattle.nts_store.specs.declared.nodes.NodeId.{NodeId}
use Rattle.nts_store.specs.Formed.{AreFormed}
use Rattle.nts_store.specs.Growth.{tree_at, AllIn, Extends}
use Rattle.nts_store.proofs.Growing.{Extends-trans, IsIn-extended}
use Rattle.nts_terms.specs.declared.handles.Goal.{Goal}
use Rattle.nts_terms.specs.declared.modes.TypingMode.{TypingMode}
use Rattle.nts_unify.specs.Reading.{content_of}
use Rattle.nts_unify.specs.Lawful.{content_of-extended}
use Rattle.nts_table.specs.Tables.{Table, IsTable}
use Rattle.nts_table.specs.TableLaws.{IsTable-extended}
use Rattle.nts_candidates.specs.declared.data.CandidateData.{CandidateData}
use Rattle.nts_delegate.specs.Candidates.{IsCandidate, AreNested}
use Rattle.nts_candidates.specs.Offered.{constraint_of, premise_of, candidate_of}
use Rattle.nts_response.specs.Forms.{premise_at}
use Rattle.nts_meaning.specs.Evaluation.{IsPosed, goals_at}
use Rattle.nts_meaning.proofs.Running.{term_table}
use Rattle.nts_trying.specs.Choices.{EquatesCandidate}
use Rattle.nts_trying.specs.Stepping.{ArePosed}
use Rattle.nts_trying.proofs.Trying.{some_meets}
use Rattle.nts_trying.proofs.Ran.{begins, its_goals, all_posed}
use Rattle.nts_evaluation.specs.Deciding.{IsSettled, GoalsSettled}

-- the terms of an earlier store are formed
pub formed_before : (a b : List Tree) → Extends a b → AreFormed b → AreFormed a
formed_before a b e f x i = subst IsFormed (e.kept x i) (f x (IsIn-extended e x i))

-- what no world meets is decided no
no_candidate : {h : Handler} {mode : Mode} {n : ℕ} {c : Content} {y : Candidate} {j : Bool} → Fares h mode n c y j → (IsCandidateMet c y → ⊥) → j ≡ false
no_candidate (no_world v) w = refl
no_candidate (by_goals m g) w = absurd (w m)

pub refused_no : {h : Handler} {mode : TypingMode} {n : ℕ} {a : List Tree} {t : Table} {x : CandidateData} {k : Bool} → IsSettled h mode n a t x k → (IsCandidateMet (content_of a t.entries) (candidate_of a x) → ⊥) → k ≡ false
refused_no s u = no_candidate s.fares u

-- the goals of one that is met and begun are decided
by_goals_of : {h : Handler} {mode : Mode} {n : ℕ} {c met : Content} {y : Candidate} {chosen : List Tree} {j : Bool} → IsCandidateMet c y → IsBegunHere c y chosen met → Fares h mode n c y j → AreDecidedHere h mode n met (goals_with chosen y.goals) j
by_goals_of m begun (no_world u) = absurd (u m)
by_goals_of {met = met} {chosen = chosen} m begun (by_goals w gs) = gs chosen met begun

-- a candidate of the store a for the table t: it was equated in b and u, its constraints were recorded in e and v, and its goals
-- are of the store f
module _ {a b e f : List Tree} {t u v : Table} (h : Handler) (mode : TypingMode) (n : ℕ) (k : Bool) (g : Goal) (x : CandidateData) (vs : List NodeId) (gs : List (GoalSource × Goal))
    (equated : EquatesCandidate a b t u x.fresh.items vs x.equations.items) (adds : AddsAll (map (tree_at b) vs) (map (constraint_of b) x.region_constraints.items) (content_of b u.entries) (content_of e v.entries))
    (constraints : map (constraint_of b) x.region_constraints.items ≡ map (constraint_of a) x.region_constraints.items) (nested : AreNested a x.fresh.items g x.goals.items)
    (ab : Extends a b) (be : Extends b e) (ae : Extends a e) (ef : Extends e f) (table : IsTable e v) (within : AllIn b vs) (added : goals_at f gs ≡ goals_with (map (tree_at e) vs) (map (premise_of e) x.goals.items))
    (formed : AreFormed f) (there : IsTable b u) (posed : ArePosed f v gs) (asked : IsPosed a t g) (candidate : IsCandidate a g x) (at_once : HasPlainEquations (candidate_of a x)) where
  goals : goals_at f gs ≡ goals_with (map (tree_at b) vs) (map (premise_of a) x.goals.items)
  goals = its_goals (record { handler = h; variances = λ z. [] }) mode g x vs gs equated adds constraints nested ab be ae ef table within added at_once

  same : content_of f v.entries ≡ content_of e v.entries
  same = content_of-extended ef table.now

  -- each goal is one of those that were added
  goal_there : (p : Premise) → Among (map (premise_of a) x.goals.items) p → IsMapped (premise_at f) gs (premise_by (filled (map (tree_at b) vs)) p)
  goal_there p i =
      among_back (premise_at f) gs (premise_by (filled (map (tree_at b) vs)) p)
      (subst (λ z. Among z (premise_by (filled (map (tree_at b) vs)) p)) (sym goals) (among_by (premise_by (filled (map (tree_at b) vs))) (map (premise_of a) x.goals.items) p i))

  known_goal : (p : Premise) → Among (map (premise_of a) x.goals.items) p → Knows (content_of e v.entries) (filled (map (tree_at b) vs) p.predicate)
  known_goal p i =
      let r = goal_there p i in
      let q = all_posed gs posed r.of r.found in
      let knows = q.knows in
      subst (λ c. Knows c (filled (map (tree_at b) vs) p.predicate)) same (subst (Knows (content_of f v.entries)) (sym (ap (λ z. z.predicate) r.same)) knows.predicate)

  formed_goal : (p : Premise) → Among (map (premise_of a) x.goals.items) p → IsFormed (deeply_resolved (content_of e v.entries) (filled (map (tree_at b) vs) p.predicate))
  formed_goal p i =
      let r = goal_there p i in
      let q = all_posed gs posed r.of r.found in
      let holds = q.holds in
      let terms = term_table formed (IsTable-extended ef table) in
      let tree : IsFormed (filled (map (tree_at b) vs) p.predicate) = subst IsFormed (sym (ap (λ z. z.predicate) r.same)) (formed (let o = r.of in o.1.predicate.node) holds.predicate.within) in
      let knows : Knows (content_of f v.entries) (filled (map (tree_at b) vs) p.predicate) = subst (λ c. Knows c (filled (map (tree_at b) vs) p.predicate)) (sym same) (known_goal p i) in
      subst (λ c. IsFormed (deeply_resolved c (filled (map (tree_at b) vs) p.predicate))) same (IsFormed-deeply_resolved (content_of f v.entries) (filled (map (tree_at b) vs) p.predicate) terms.sound terms.values knows tree)

  begun_here : IsBegunHere (content_of a t.entries) (candidate_of a x) (map (tree_at b) vs) (content_of e v.entries)
  begun_here =
      let now = table.now in
      record {
        begun = begins e v x vs equated adds constraints;
        sound = now.sound;
        solvable = (let p = now.proper in p.solvable);
        knows = known_goal;
        formed = formed_goal;
      }

  pub its_decided : IsSettled h mode n a t x k → (w : Table) → w ≡ v → GoalsSettled h mode n f w gs k
  its_decided s w is =
      let met : IsCandidateMet (content_of a t.entries) (candidate_of a x) = some_meets x.fresh.items vs x.equations.items (formed_before a f (Extends-trans ae ef) formed) asked candidate.equations there equated in
      rw (is, same, goals) (by_goals_of met begun_here s.fares)
