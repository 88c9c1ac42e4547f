-- A candidate's goals that are posed, and asked in steps.
use Rattle.std.proofs.Common.{◌≡◌, ◌⊎◌, ℕ, inl, inr, Bool, List, [], ◌∷◌, Ok, Result, ◌∙◌, sym, subst}
use Rattle.std.specs.Prelude.{OnOk}
use Rattle.nts_model.specs.Lists.{Among}
use Rattle.nts_model.specs.Terms.Trees.{Tree, IsFormed}
use Rattle.nts_model.specs.Tables.Contents.{Content}
use Rattle.nts_model.specs.Tables.Holding.{Continues}
use Rattle.nts_model.specs.Tables.Resolving.{deeply_resolved, Knows}
use Rattle.nts_model.specs.Tables.Passing.{BringsOnly}
use Rattle.nts_model.specs.Derivations.Proving.{IsTermOf}
use Rattle.nts_model.specs.Derivations.Proofs.{Assumed, passed}
use Rattle.nts_model.specs.Derivations.Sequents.{Premise}
use Rattle.nts_model.specs.Derivations.Rules.{Mode, coherence, post_analysis, erased, analysis, borrowck, post_borrowck, Meaning, GoalKind, step_kind}
use Rattle.nts_model.specs.Derivations.Handlers.{Handler}
use Rattle.nts_model.specs.Searching.Stacks.{IsProvedFrom}
use Rattle.nts_model.proofs.Tables.Held.{Continues-refl}
use Rattle.nts_model.proofs.Tables.ResolvedTerms.{IsFormed-deeply_resolved}
use Rattle.nts_model.proofs.Tables.Slots.{KeepsKinds}
use Rattle.nts_theory.specs.AskedGoals.{asked_in}
use Rattle.nts_theory.specs.Posing.{Poses, poses_none, as_it_is, PosesIn}
use Rattle.nts_theory.specs.RelatingCandidates.{IsProvedPut}
use Rattle.nts_theory.proofs.Aliases.PosedHolds.{all_hold}
use Rattle.nts_theory.proofs.Derivations.ByCandidate.{among_mapped}
use Rattle.nts_decisions.specs.Faring.{AreDecidedHere}
use Rattle.nts_decisions.specs.Queries.{HasNoVariables}
use Rattle.nts_decisions.proofs.DecidedPosed.{decided_posed, posed_environment}
use Rattle.nts_store.specs.Growth.{tree_at}
use Rattle.nts_store.proofs.Growing.{IsIn-extended}
use Rattle.nts_store.specs.Formed.{AreFormed}
use Rattle.nts_store.specs.declared.fault.EvalError.{EvalError}
use Rattle.nts_terms.specs.declared.cx.Cx.{Cx}
use Rattle.nts_terms.specs.declared.modes.TypingMode.{TypingMode}
use Rattle.nts_terms.specs.Modes.{mode_of}
use Rattle.nts_terms.specs.declared.handles.Goal.{Goal}
use Rattle.nts_unify.specs.Reading.{content_of}
use Rattle.nts_table.specs.Tables.{Table}
use Rattle.nts_certainty.specs.declared.sources.GoalSource.{GoalSource}
use Rattle.nts_certainty.specs.declared.certainty.Certainty.{Certainty}
use Rattle.nts_certainty.specs.declared.certainty.Certainty.TheVariants as certainty
use Rattle.nts_candidates.proofs.Results.{OnOk-map}
use Rattle.nts_candidates.specs.Offered.{source_of}
use Rattle.nts_search.specs.declared.kinds.CurrentGoalKind.{CurrentGoalKind}
use Rattle.nts_search.specs.declared.stack.SearchGraph.{SearchGraph}
use Rattle.nts_search.specs.Kinds.{goal_kind_of}
use Rattle.nts_response.specs.Forms.{premise_at}
use Rattle.nts_meaning.specs.Evaluation.{Goes, Runs, IsPosed, goals_at}
use Rattle.nts_meaning.specs.Meant.{Since, Rules, meaning_since, ruling_since}
use Rattle.nts_meaning.specs.Running.{StaysProved}
use Rattle.nts_meaning.specs.Searching.{IsSearch, assumed_in}
use Rattle.nts_meaning.specs.Telling.{Reaches, RefusesOne}
use Rattle.nts_meaning.proofs.Evaluating.{Goes-trans, Runs-trans, Since-later, Knows-goes}
use Rattle.nts_meaning.proofs.Rounds.{ran, search_then}
use Rattle.nts_meaning.proofs.Running.{term_table}
use Rattle.nts_meaning.proofs.Searching.{tell_grown}
use Rattle.nts_trying.specs.declared.steps.AvailableDepth.TheVariants as steps
use Rattle.nts_trying.specs.Asking.{KeepsAsked, IsProvedAsked}
use Rattle.nts_trying.specs.Stepping.{ArePosed, terms_of}
use Rattle.nts_trying.proofs.Ran.{all_posed}
use Rattle.nts_posing.specs.Posed.{PosesAsked}
use Rattle.nts_evaluation.specs.Deciding.{GoalsSettled}
use Rattle.nts_evaluation.specs.Promises.{AreProvedAsked, StepsAsked, StepsGoals}
use Rattle.nts_evaluation.proofs.AskedSteps.{joined, each_asked, posed_kept, StepsKept, steps_kept}
use Rattle.nts_evaluation.proofs.Deciding.{decides_grown}

kinds_kept : {c d : Content} → Continues c d → KeepsKinds c d
kinds_kept h = record { grows = h.grows; kinds = h.kinds }

-- in each mode goals are posed
as_they_are : (k : GoalKind) (c : Content) (ps : List Premise) → Poses k c ps c ps
as_they_are k c [] = poses_none
as_they_are k c (p ∷ ps) = as_it_is p (as_they_are k c ps)

same_posed : (k : GoalKind) (c d : Content) (ps qs : List Premise) → (d ≡ c) × (qs ≡ ps) → Poses k c ps d qs
same_posed k c d ps qs h = rw (h.0, h.1) (as_they_are k c ps)

pub posed_in : (m : Mode) (k : GoalKind) (c d : Content) (ps qs : List Premise) → PosesIn m k c ps d qs → Poses k c ps d qs
posed_in coherence k c d ps qs h = h
posed_in post_analysis k c d ps qs h = same_posed k c d ps qs h
posed_in erased k c d ps qs h = same_posed k c d ps qs h
posed_in (analysis xs) k c d ps qs h = same_posed k c d ps qs h
posed_in (borrowck xs) k c d ps qs h = same_posed k c d ps qs h
posed_in (post_borrowck xs) k c d ps qs h = same_posed k c d ps qs h

-- goals that are nested are proved, as premises
module _ (m : Meaning) (mode : Mode) (A : List Assumed) (k : GoalKind) {a b : List Tree} {t u : Table} (gs : List (GoalSource × Goal)) (posed : ArePosed a t gs) (goes : Goes a b t u) (formed : AreFormed b) where
  abbrev c : Content
  c = content_of b u.entries

  goal_term : (z : GoalSource × Goal) → IsPosed a t z.1 → IsTermOf c (tree_at a z.1.param_env.node) × IsTermOf c (tree_at a z.1.predicate.node)
  goal_term z h =
      let e = goes.extends.kept z.1.param_env.node h.holds.env.within in
      let p = goes.extends.kept z.1.predicate.node h.holds.predicate.within in (
        record { knows = Knows-goes (tree_at a z.1.param_env.node) goes h.knows.env; formed = subst IsFormed e (formed z.1.param_env.node (IsIn-extended goes.extends z.1.param_env.node h.holds.env.within)) },
        record { knows = Knows-goes (tree_at a z.1.predicate.node) goes h.knows.predicate; formed = subst IsFormed p (formed z.1.predicate.node (IsIn-extended goes.extends z.1.predicate.node h.holds.predicate.within)) },
      )

  pub terms_of_goals : (p : Premise) → Among (goals_at a gs) p → IsTermOf c p.environment × IsTermOf c p.predicate
  terms_of_goals p i = (let (z, j, e) = among_mapped (premise_at a) gs p i in rw e (goal_term z (all_posed gs posed z j)))

  pub now_proved : ((z : GoalSource × Goal) → Among gs z → StaysProved m mode (passed (step_kind k (source_of z.0)) A) b u z.1) → (p : Premise) → Among (goals_at a gs) p → IsProvedFrom m mode (passed (step_kind k p.source) A) c p.environment p.predicate
  now_proved h p i =
      let (z, j, e) = among_mapped (premise_at a) gs p i in
      let x = all_posed gs posed z j in
      let env = goes.extends.kept z.1.param_env.node x.holds.env.within in
      let predicate = goes.extends.kept z.1.predicate.node x.holds.predicate.within in
      let table = term_table formed goes.table in
      let stays = h z j in
      let now = stays.later c table (Continues-refl c table.sound) in
      rw e (rw (env, predicate) at now)

-- .. so are all that were posed
pub all_asked_proved : (m : Meaning) (mode : Mode) (A : List Assumed) (k : GoalKind) {a b : List Tree} {t u : Table} (gs : List (GoalSource × Goal)) → ArePosed a t gs → Goes a b t u → AreFormed b → {H : Type 0}
    → ((z : GoalSource × Goal) → Among gs z → StaysProved m mode (passed (step_kind k (source_of z.0)) A) b u z.1) ⊎ H × ((p : Premise) → Among (goals_at a gs) p → IsProvedAsked m mode A (content_of b u.entries) k p)
    → (p : Premise) → Among (goals_at a gs) p → IsProvedAsked m mode A (content_of b u.entries) k p
all_asked_proved m mode A k gs posed goes formed (inl h) p i =
    let x = terms_of_goals m mode A k gs posed goes formed p i in
    inl (x.0, x.1, now_proved m mode A k gs posed goes formed h p i)
all_asked_proved m mode A k gs posed goes formed (inr h) p i = h.1 p i

-- what is asked are goals of the table
pub kept_posed : {k : CurrentGoalKind} {says : Tree} {ts us : List Tree} {t u : Table} {given kept : List (GoalSource × Goal)} {y : Certainty} → PosesAsked k says ts us t u given kept y → ArePosed us u kept
kept_posed {us = us} {t = t} {u = u} {kept = kept} {y = y} h = posed_kept us (mode_of t.mode) u h.between kept y h.keeps h.posed.of_table

module _ (R : Rules) (a m b : Cx) (g h : SearchGraph) (t v u : Table) (mode : TypingMode) (says : Tree) (given kept gone : List (GoalSource × Goal)) (kind : CurrentGoalKind) (depth n : ℕ) (r : Result Certainty EvalError) (z : Certainty)
    (same : t.mode ≡ mode) (first : Runs a m t v) (asks : PosesAsked kind says a.nodes m.nodes t v given kept z) (search : IsSearch a g depth) (formed : AreFormed a.nodes) (after : AreFormed m.nodes) (posed : ArePosed a.nodes t given)
    (stepped : StepsGoals R m b g h v u kept gone kind (steps.Below depth) n r) where
  abbrev between : List (GoalSource × Goal)
  between = asks.between

  mode_later : v.mode ≡ mode
  mode_later = first.goes.mode ∙ same

  asked : StepsKept R m b g h v u between kind depth (joined r z)
  asked =
      let kept_there : KeepsAsked m.nodes (mode_of v.mode) between kept z = subst (λ o. KeepsAsked m.nodes (mode_of o) between kept z) (sym first.goes.mode) asks.keeps in
      steps_kept R m b g h v u between gone kind depth n r z after asks.posed.of_table kept kept_there stepped

  poses : PosesIn (mode_of mode) (goal_kind_of kind) (content_of a.nodes t.entries) (goals_at a.nodes given) (content_of m.nodes v.entries) (goals_at m.nodes between)
  poses = subst (λ o. PosesIn (mode_of o) (goal_kind_of kind) (content_of a.nodes t.entries) (goals_at a.nodes given) (content_of m.nodes v.entries) (goals_at m.nodes between)) same asks.posed.poses

  any_poses : Poses (goal_kind_of kind) (content_of a.nodes t.entries) (goals_at a.nodes given) (content_of m.nodes v.entries) (goals_at m.nodes between)
  any_poses = posed_in (mode_of mode) (goal_kind_of kind) (content_of a.nodes t.entries) (content_of m.nodes v.entries) (goals_at a.nodes given) (goals_at m.nodes between) poses

  labels_asked : BringsOnly (terms_of m.nodes between) (content_of m.nodes v.entries) (content_of b.nodes u.entries) → BringsOnly (terms_of a.nodes given) (content_of a.nodes t.entries) (content_of b.nodes u.entries)
  labels_asked x = record { labels = λ P q f w. (let y = asks.posed.brings.labels P q f w in x.labels P q y.1 y.0) }

  proved_asked : (s : Since R.ready a) → AreFormed b.nodes → joined r z ≡ Ok certainty.Yes → AreProvedAsked R.handler s mode (goal_kind_of kind) (assumed_in b.nodes h) a.nodes b u says given
  proved_asked s there y =
      let k = asked in
      let A = assumed_in b.nodes h in
      let meaning = meaning_since R.handler s in
      let settled : (x : GoalSource × Goal) → Among between x → StaysProved meaning (mode_of mode) (passed (step_kind (goal_kind_of kind) (source_of x.0)) A) b.nodes u x.1 =
      subst (λ o. (x : GoalSource × Goal) → Among between x → StaysProved meaning (mode_of o) (passed (step_kind (goal_kind_of kind) (source_of x.0)) A) b.nodes u x.1) mode_later (k.proved (Since-later (ran first) s) y) in
      elim asks.posed.changes [
        | inl w ↦ inl (λ x i. settled x (subst (λ l. Among l x) (sym w.2) i))
        | inr w ↦ inr (
          w,
          λ p i. named (all_hold meaning (mode_of mode) A (goal_kind_of kind) (content_of b.nodes u.entries) (content_of a.nodes t.entries) (content_of m.nodes v.entries) (goals_at a.nodes given) (goals_at m.nodes between) any_poses (kinds_kept stepped.runs.goes.continues)
              (λ q j. now_proved meaning (mode_of mode) A (goal_kind_of kind) between asks.posed.of_table stepped.runs.goes there settled q j) p i) (terms_of_goals meaning (mode_of mode) A (goal_kind_of kind) given posed (Goes-trans first.goes stepped.runs.goes) there p i),
        )
      ]
    where
      named : {p : Premise} → (IsProvedFrom (meaning_since R.handler s) (mode_of mode) (passed (step_kind (goal_kind_of kind) p.source) (assumed_in b.nodes h)) (content_of b.nodes u.entries) p.environment p.predicate) ⊎ (IsProvedPut (meaning_since R.handler s) (mode_of mode) (assumed_in b.nodes h) (content_of b.nodes u.entries) (goal_kind_of kind) p)
          → IsTermOf (content_of b.nodes u.entries) p.environment × IsTermOf (content_of b.nodes u.entries) p.predicate → IsProvedAsked (meaning_since R.handler s) (mode_of mode) (assumed_in b.nodes h) (content_of b.nodes u.entries) (goal_kind_of kind) p
      named (inl x) y = inl (y.0, y.1, x)
      named (inr x) y = inr x

  module _ (hd : Handler) (i : ℕ) (k : Bool) (d : GoalsSettled hd mode i a.nodes t given k) where
    here_decided : AreDecidedHere hd (mode_of mode) i (content_of m.nodes v.entries) (goals_at m.nodes between) k
    here_decided =
        let c = content_of a.nodes t.entries in
        let e = content_of m.nodes v.entries in
        record {
          decided = decided_posed hd (mode_of mode) i c e first.goes.continues (goal_kind_of kind) c e (goals_at a.nodes given) (goals_at m.nodes between) any_poses k d.each (each_asked hd (mode_of mode) i a.nodes t given k formed posed d) d.decided;
          each = λ p j. record {
            environment = posed_environment (goal_kind_of kind) c e (goals_at a.nodes given) (goals_at m.nodes between) any_poses HasNoVariables (λ q l. (let x = d.each q l in x.environment)) p j;
            knows = known_there p j;
            formed = formed_there p j;
          };
        }
      where
        known_there : (p : Premise) → Among (goals_at m.nodes between) p → Knows (content_of m.nodes v.entries) p.predicate
        known_there p j = (let (y, l, e) = among_mapped (premise_at m.nodes) between p j in let x = all_posed between asks.posed.of_table y l in rw e x.knows.predicate)

        formed_there : (p : Premise) → Among (goals_at m.nodes between) p → IsFormed (deeply_resolved (content_of m.nodes v.entries) p.predicate)
        formed_there p j =
            let (y, l, e) = among_mapped (premise_at m.nodes) between p j in
            let x = all_posed between asks.posed.of_table y l in
            let table = term_table after first.goes.table in
            rw e (IsFormed-deeply_resolved (content_of m.nodes v.entries) (tree_at m.nodes y.1.predicate.node) table.sound table.values x.knows.predicate (after y.1.predicate.node x.holds.predicate.within))

    settled_there : GoalsSettled hd v.mode i m.nodes v between k
    settled_there = subst (λ o. AreDecidedHere hd (mode_of o) i (content_of m.nodes v.entries) (goals_at m.nodes between) k) (sym mode_later) here_decided

  -- a candidate's goals are asked in steps by what was posed for them
  pub posed_steps : StepsAsked R a b g h t u mode says given kind depth (joined r z)
  posed_steps =
      let k = asked in
      record {
        runs = Runs-trans first k.runs;
        searches = search_then depth search (ran first) k.searches;
        labels = OnOk-map (joined r z) labels_asked k.labels;
        proved = proved_asked;
        told = λ s tells.
            let hd = ruling_since R.handler s in
            let reached = k.told (Since-later (ran first) s) (tell_grown hd depth search (ran first) tells) in
            let reaches : OnOk (joined r z) (Reaches hd (mode_of mode) (asked_in (mode_of mode) (goals_at m.nodes between)) (content_of m.nodes v.entries) (content_of b.nodes u.entries)) =
            subst (λ o. OnOk (joined r z) (Reaches hd (mode_of o) (asked_in (mode_of o) (goals_at m.nodes between)) (content_of m.nodes v.entries) (content_of b.nodes u.entries))) mode_later reached in
            OnOk-map (joined r z) (λ x. record { goals = goals_at m.nodes between; posed = content_of m.nodes v.entries; poses = poses; reaches = x }) reaches;
        refuted = λ s tells none.
            let hd = ruling_since R.handler s in
            let refused = k.refuted (Since-later (ran first) s) (tell_grown hd depth search (ran first) tells) none in
            let refuses : RefusesOne hd (mode_of mode) (goal_kind_of kind) (asked_in (mode_of mode) (goals_at m.nodes between)) (content_of m.nodes v.entries) =
            subst (λ o. RefusesOne hd (mode_of o) (goal_kind_of kind) (asked_in (mode_of o) (goals_at m.nodes between)) (content_of m.nodes v.entries)) mode_later refused in
            record { goals = goals_at m.nodes between; posed = content_of m.nodes v.entries; poses = poses; refuses = refuses };
        decided = λ s i b2 d can. k.decided (Since-later (ran first) s) i b2 (settled_there (R.handler s.base) i b2 d) (decides_grown search (ran first) can);
      }
