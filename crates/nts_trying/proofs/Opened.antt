-- A goal that was opened: what is said of it where it was opened is said of the goal.
use Rattle.std.proofs.Common.{◌≡◌, ◌⊎◌, inl, inr, ⊎_elim, ℕ, ◌+◌, Bool, true, false, List, [], refl, sym, ap, ◌∙◌, subst}
use Rattle.std.specs.Prelude.{if◌then◌else◌, Option, Some, None, IfSome, Result, Ok, Err, OnOk}
use Rattle.nts_model.specs.Derivations.Proofs.{Assumed}
use Rattle.nts_model.specs.Searching.Stacks.{IsProvedFrom, HoldsCandidateFrom}
use Rattle.nts_model.specs.declared.labels.Label.{Label}
use Rattle.nts_model.specs.Terms.Trees.{Tree, any_label, is_alias, IsClosed, IsFormed}
use Rattle.nts_model.specs.Tables.Contents.{Content, in_universe}
use Rattle.nts_model.specs.Derivations.Related.{unbound, pair}
use Rattle.nts_model.specs.Derivations.Rules.{opened, statement_of}
use Rattle.nts_model.specs.Tables.Passing.{TreePasses, TablePasses, PassesQueries, BringsOnly}
use Rattle.nts_model.specs.Refutation.Opening.{binds, placeholder_in, entered_table, opened_in}
use Rattle.nts_model.specs.declared.labels.Variance.{Variance}
use Rattle.nts_model.specs.Tables.Holding.{Continues}
use Rattle.nts_model.specs.Tables.Resolving.{Knows}
use Rattle.nts_model.specs.Lists.{Among}
use Rattle.nts_model.specs.Derivations.Rules.{Mode, Meaning}
use Rattle.nts_model.specs.Derivations.Handlers as handlers
use Rattle.nts_model.specs.Derivations.Handlers.{Handler, Candidate, meaning, IsLawfulHandler}
use Rattle.nts_model.proofs.Tables.Slots.{KeepsKinds, Knows-kept}
use Rattle.nts_model.proofs.Tables.Fitting.{IsClosed-under}
use Rattle.nts_theory.proofs.Aliases.OpenedRelating.{by_entered_relating}
use Rattle.nts_theory.proofs.Refutation.OpenedProofs.{by_entered_candidate}
use Rattle.nts_store.specs.Growth.{tree_at, Extends}
use Rattle.nts_store.specs.Formed.{AreFormed}
use Rattle.nts_store.proofs.Growing.{Extends-trans, IsIn-extended}
use Rattle.nts_terms.specs.declared.handles.Goal.{Goal}
use Rattle.nts_terms.specs.declared.handles.ParamEnv.{ParamEnv}
use Rattle.nts_terms.specs.declared.modes.TypingMode.{TypingMode}
use Rattle.nts_terms.specs.Modes.{mode_of}
use Rattle.nts_unify.specs.Reading.{content_of}
use Rattle.nts_terms.specs.declared.handles.GenericArg.{GenericArg}
use Rattle.nts_canonical.specs.declared.types.Canonical.{Canonical}
use Rattle.nts_canonical.specs.Forms.{trees_of}
use Rattle.nts_response.specs.declared.types.Response.{Response}
use Rattle.nts_response.specs.Forms.{response_at}
use Rattle.nts_table.specs.Tables.{Table, IsTable}
use Rattle.nts_unify.specs.Lawful.{content_of-extended}
use Rattle.nts_delegate.specs.Candidates.{IsAskedIn}
use Rattle.nts_candidates.specs.declared.data.CandidateData.{CandidateData}
use Rattle.nts_candidates.specs.Offered.{candidates_of}
use Rattle.nts_delegate.specs.Relevant.{LeavesOut}
use Rattle.nts_trying.proofs.LeftOut.{all_outcomes}
use Rattle.nts_trying.specs.Aliasing.{AliasGoalIn, IsAliasTold, IsAliasRefuted, IsEquatedGoal, IsNormalizedBy, SaysLeft, NormalTold, NormalRefuted}
use Rattle.nts_trying.specs.declared.normal.EquatedAlias.{EquatedAlias}
use Rattle.nts_trying.proofs.NormalizedGoals.{normal_proved}
use Rattle.nts_trying.proofs.AliasGoals.{alias_asked, alias_goal_here}
use Rattle.nts_terms.specs.Handles.{HoldsGoal}
use Rattle.nts_meaning.specs.Evaluation.{Goes, IsPosed, IsAskedGoal, asked_terms}
use Rattle.nts_trying.specs.Opening.{IsOpenedTo}
use Rattle.nts_meaning.specs.Meant.{IsServed, offers_of, IsTold, IsRefuted, CandidatesTell}
use Rattle.nts_meaning.proofs.Evaluating.{Knows-goes, offers-kept}
use Rattle.nts_meaning.proofs.Running.{term_table}
use Rattle.nts_meaning.specs.Telling.{Ruling, Outcomes, Replies, Fails, IsWay}
use Rattle.nts_theory.specs.Telling.{IsPlainResponse, Verdict, kind_for, IsReady, IsAliasReady, IsAliasGoal, IsTraitGoal, StandsForAll, SaysRecorded, IsTermTable, IsResponseOf, IsOwnWayIn, IsOpenToNormalizing}
use Rattle.nts_theory.specs.RelatingCandidates.{HasPlainEquations, IsCutIn}
use Rattle.nts_theory.specs.Affirming.{SaysAffirmed, IsDenied, HasOwnWay}
use Rattle.nts_theory.proofs.Aliases.ByEngine.{IsClosedThere, affirmed_proved}
use Rattle.nts_theory.proofs.Aliases.ByOwnWay.{own_way_proved}
use Rattle.nts_model.specs.Tables.Levels.{IsLevelled, AreRegionsLevelled}
use Rattle.nts_model.specs.Derivations.Proving.{IsTermOf}
use Rattle.nts_theory.specs.Telling.Tells.{tells_nothing, tells_one, tells_outlives, tells_affirmed, tells_own, tells_subtype, tells_alias, tells_normal}
use Rattle.nts_theory.specs.Outliving.{IsOutlives}
use Rattle.nts_trying.specs.Subtyping.{IsSubtypeGoal, AreSubtypesBy, SaysSubtypes, SubtypesTold, SubtypesStop, SubtypesRefuted}
use Rattle.nts_trying.specs.declared.subtypes.TypePair.{TypePair}
use Rattle.nts_trying.proofs.SubtypeGoals.{subtyping_proved}
use Rattle.nts_trying.specs.Outliving.{IsClosedEnv, IsOutlivesGoal, constraint_at, HoldsIn}
use Rattle.nts_trying.specs.declared.outlives.Outlives.{Outlives}
use Rattle.nts_trying.proofs.Outliving.{outlives_proved}
use Rattle.nts_theory.specs.Telling.Refutes.{all_fail, is_denied, own_fails, is_no_subtype, subtype_refused, aliases_fail, normal_refused}
use Rattle.nts_theory.specs.Subtyping.{IsSubtyping, IsNoSubtype}
use Rattle.nts_meaning.specs.Answering.{is_yes, verdict_at}
use Rattle.nts_model.specs.Answers.Applying.{IsProperContent}
use Rattle.nts_table.proofs.TermTables.{proper_content}
use Rattle.nts_theory.proofs.Refutation.QueryLabels.{opened_goal_passes}
use Rattle.nts_terms.specs.declared.handles.Predicate.{Predicate}

-- what holds, holds of what went well
pub on_ok : {A E P : Type 0} (r : Result A E) → P → OnOk r P
on_ok (Ok x) p = p
on_ok (Err e) p = tt

-- a goal that is asked once it is opened is closed
asked_closed : (e g : Tree) → handlers.IsAsked e g → IsClosed g
asked_closed e g asked =
    let z = asked.closed in
    let w = z.1 in
    rw asked.binds_nothing (tt, ((tt, tt), (IsClosed-under 1 asked.statement w.0, tt)))

goal_closed : (c : Content) (e g : Tree) → (binds g ≡ true → IsClosed g) → handlers.IsAsked e (opened_in c g) → IsClosed g
goal_closed c e g h asked = by_test (binds g) refl
  where
    by_test : (z : Bool) → binds g ≡ z → IsClosed g
    by_test true q = h q
    by_test false q =
        let same : opened_in c g ≡ g = ap (λ z. if z then unbound (opened (placeholder_in (c.universe + 1)) 0 (statement_of g)) else g) q in
        asked_closed e g (subst (handlers.IsAsked e) same asked)

-- what the candidates tell, in terms of what is offered for the goal
pub told_offered : {b d : List Tree} (h : Ruling) (mode : TypingMode) (u : Table) (o : Goal) (qs : List GenericArg) (xs : List CandidateData) (e : List Tree) (r : Canonical Response) → Extends b d → IsTable b u → HoldsGoal b o → trees_of d qs ≡ trees_of b qs → LeavesOut (offers_of h.handler (mode_of mode) d o) (candidates_of d xs) → CandidatesTell h mode d u o qs xs e r
    → ((vs : List Verdict) × Outcomes h (mode_of mode) (content_of b u.entries) (tree_at b o.param_env.node) (tree_at b o.predicate.node) (trees_of b qs) (offers_of h.handler (mode_of mode) b o) vs × StandsForAll (trees_of b qs) vs (verdict_at e r))
    ⊎ (is_yes r.value.certainty ≡ false) × IsPlainResponse (content_of b u.entries) (trees_of b qs) (response_at e r)
told_offered {b} {d} h mode u o qs xs e r up w holds trees those (inl (rs, x, y)) =
    inl (rs, rw (content_of-extended up w.now, trees, offers-kept h.handler (mode_of mode) up holds, up.kept o.param_env.node holds.env.within, up.kept o.predicate.node holds.predicate.within) at (all_outcomes those (candidates_of d xs) rs refl x), subst (λ z. StandsForAll z rs (verdict_at e r)) trees y)
told_offered {b} {d} h mode u o qs xs e r up w holds trees those (inr (n, x)) =
    inr (n, subst (λ z. IsPlainResponse z (trees_of b qs) (response_at e r)) (content_of-extended up w.now) (subst (λ z. IsPlainResponse (content_of d u.entries) z (response_at e r)) trees x))

-- a goal of the store a and the table t, that is the goal o of the store b in the table u once it is opened
module _ {a b : List Tree} {t u : Table} {g o : Goal} (posed : IsPosed a t g) (opens : IsOpenedTo a b t u g o) (up : Extends a b) where
  abbrev before : Content
  before = content_of a t.entries

  abbrev there : Content
  there = content_of b u.entries

  environment_same : tree_at b o.param_env.node ≡ tree_at a g.param_env.node
  environment_same = ap (λ (z : ParamEnv). tree_at b z.node) opens.environment ∙ up.kept g.param_env.node posed.holds.env.within

  opened_outcomes : (h : Ruling) (mode : TypingMode) (qs : List Tree) (vs : List Verdict) → Outcomes h (mode_of mode) there (tree_at b o.param_env.node) (tree_at b o.predicate.node) qs (offers_of h.handler (mode_of mode) b o) vs
      → Outcomes h (mode_of mode) (entered_table before (tree_at a g.predicate.node)) (tree_at a g.param_env.node) (opened_in before (tree_at a g.predicate.node)) qs
      ((let m = h.handler in m.offers) (mode_of mode) (tree_at a g.param_env.node) (opened_in before (tree_at a g.predicate.node))) vs
  opened_outcomes h mode qs vs x =
      let offers = (let m = h.handler in m.offers) (mode_of mode) in
      let e = tree_at a g.param_env.node in
      let p = opened_in before (tree_at a g.predicate.node) in
      subst (λ z. Outcomes h (mode_of mode) z e p qs (offers e p) vs) opens.table
      (subst (λ z. Outcomes h (mode_of mode) there e z qs (offers e z) vs) opens.predicate (subst (λ z. Outcomes h (mode_of mode) there z (tree_at b o.predicate.node) qs (offers z (tree_at b o.predicate.node)) vs) environment_same x))

  -- the goal, opened, is known to the table, and may be asked
  ready_opened : IsPosed b u o → IsAskedGoal b o → IsReady before (tree_at a g.param_env.node) (tree_at a g.predicate.node)
  ready_opened p asked =
      let k = p.knows in
      let w = p.table in
      let same = environment_same in
      record {
        asked = subst (λ z. handlers.IsAsked (tree_at a g.param_env.node) z) opens.predicate (subst (λ z. handlers.IsAsked z (tree_at b o.predicate.node)) environment_same asked.asked.asked);
        trait_goal = subst (λ z. IsTraitGoal (tree_at a g.param_env.node) z) opens.predicate (subst (λ z. IsTraitGoal z (tree_at b o.predicate.node)) environment_same asked.trait_goal);
        knows = subst (λ z. Knows z (pair (tree_at a g.param_env.node) (opened_in before (tree_at a g.predicate.node)))) opens.table
            (subst (λ z. Knows there (pair (tree_at a g.param_env.node) z)) opens.predicate (subst (λ z. Knows there (pair z (tree_at b o.predicate.node))) same (k.env, (k.predicate, tt))));
        proper = subst IsProperContent opens.table (proper_content w);
      }

  -- what its candidates are answered the goal is answered
  pub told_through : IsPosed b u o → IsAskedGoal b o → (h : Ruling) (mode : TypingMode) (qs : List GenericArg) (e : List Tree) (r : Canonical Response) → trees_of b qs ≡ trees_of a qs
      → ((vs : List Verdict) × Outcomes h (mode_of mode) there (tree_at b o.param_env.node) (tree_at b o.predicate.node) (trees_of b qs) (offers_of h.handler (mode_of mode) b o) vs × StandsForAll (trees_of b qs) vs (verdict_at e r))
      ⊎ (is_yes r.value.certainty ≡ false) × IsPlainResponse there (trees_of b qs) (response_at e r) → IsTold h mode a t g qs e r
  told_through p ask h mode qs e r same (inl (vs, x, y)) ks =
      let there_told : Outcomes h (mode_of mode) there (tree_at b o.param_env.node) (tree_at b o.predicate.node) (trees_of a qs) (offers_of h.handler (mode_of mode) b o) vs =
      subst (λ z. Outcomes h (mode_of mode) there (tree_at b o.param_env.node) (tree_at b o.predicate.node) z (offers_of h.handler (mode_of mode) b o) vs) same x in
      tells_one vs (ready_opened p ask) (opened_outcomes h mode (trees_of a qs) vs there_told) (subst (λ z. StandsForAll z vs (verdict_at e r)) same y)
  told_through p ask h mode qs e r same (inr (n, x)) ks = tells_nothing there (inr opens.table) n (subst (λ z. IsPlainResponse there z (response_at e r)) same x)

  pub refuted_through : IsPosed b u o → IsAskedGoal b o → (h : Ruling) (mode : TypingMode) (qs : List GenericArg) → Outcomes h (mode_of mode) there (tree_at b o.param_env.node) (tree_at b o.predicate.node) (trees_of a qs) (offers_of h.handler (mode_of mode) b o) [] → IsRefuted h mode a t g qs
  refuted_through p ask h mode qs x = all_fail (ready_opened p ask) (opened_outcomes h mode (trees_of a qs) [] x)

  -- .. about an alias
  alias_ready : AreFormed b → IsPosed b u o → AliasGoalIn b o → IsAliasReady before (tree_at a g.param_env.node) (tree_at a g.predicate.node)
  alias_ready formed p says =
      let k = p.knows in
      let w = p.table in
      let same = environment_same in
      let asked = alias_asked formed p says in
      record {
        asked = subst (λ z. handlers.IsAsked (tree_at a g.param_env.node) z) opens.predicate (subst (λ z. handlers.IsAsked z (tree_at b o.predicate.node)) environment_same asked.asked);
        alias_goal = subst (λ z. IsAliasGoal (tree_at a g.param_env.node) z) opens.predicate (subst (λ z. IsAliasGoal z (tree_at b o.predicate.node)) environment_same (alias_goal_here formed p says));
        knows = subst (λ z. Knows z (pair (tree_at a g.param_env.node) (opened_in before (tree_at a g.predicate.node)))) opens.table
            (subst (λ z. Knows there (pair (tree_at a g.param_env.node) z)) opens.predicate (subst (λ z. Knows there (pair z (tree_at b o.predicate.node))) same (k.env, (k.predicate, tt))));
        proper = subst IsProperContent opens.table (proper_content w);
      }

  pub alias_told : AreFormed b → IsPosed b u o → AliasGoalIn b o → (h : Ruling) (mode : TypingMode) (qs : List GenericArg) (e : List Tree) (r : Canonical Response) → trees_of b qs ≡ trees_of a qs → IsAliasTold h mode b u o qs e r → IsTold h mode a t g qs e r
  alias_told formed p says h mode qs e r same (inl x) ks =
      let outcomes = subst (λ z. Outcomes h (mode_of mode) there (tree_at b o.param_env.node) (tree_at b o.predicate.node) z (offers_of h.handler (mode_of mode) b o) x.verdicts) same x.outcomes in
      tells_alias x.verdicts (alias_ready formed p says) (opened_outcomes h mode (trees_of a qs) x.verdicts outcomes) (subst (λ z. StandsForAll z x.verdicts (verdict_at e r)) same x.stands)
  alias_told formed p says h mode qs e r same (inr (n, x)) ks = tells_nothing there (inr opens.table) n (subst (λ z. IsPlainResponse there z (response_at e r)) same x)

  pub alias_refuted : AreFormed b → IsPosed b u o → AliasGoalIn b o → (h : Ruling) (mode : TypingMode) (qs : List GenericArg) → trees_of b qs ≡ trees_of a qs → IsAliasRefuted h mode b u o qs → IsRefuted h mode a t g qs
  alias_refuted formed p says h mode qs same x =
      let outcomes = subst (λ z. Outcomes h (mode_of mode) there (tree_at b o.param_env.node) (tree_at b o.predicate.node) z (offers_of h.handler (mode_of mode) b o) []) same x.outcomes in
      aliases_fail (alias_ready formed p says) (opened_outcomes h mode (trees_of a qs) [] outcomes)

  -- .. of which nothing is told there
  pub nothing_through : (h : Ruling) (mode : TypingMode) (qs : List GenericArg) (e : List Tree) (r : Canonical Response) → trees_of b qs ≡ trees_of a qs → is_yes r.value.certainty ≡ false → IsPlainResponse there (trees_of b qs) (response_at e r) → IsTold h mode a t g qs e r
  nothing_through h mode qs e r same n x ks = tells_nothing there (inr opens.table) n (subst (λ z. IsPlainResponse there z (response_at e r)) same x)

  -- what is told of what outlives what there is told of the goal
  pub outlives_told : (x : Outlives) → IsOutlivesGoal b o x → (h : Ruling) (mode : TypingMode) (qs : List GenericArg) (e : List Tree) (r : Canonical Response) → trees_of b qs ≡ trees_of a qs
      → SaysRecorded (constraint_at b x) there (tree_at b o.param_env.node) (tree_at b o.predicate.node) (trees_of b qs) (verdict_at e r) → IsTold h mode a t g qs e r
  outlives_told x says h mode qs e r same told ks =
      let y = constraint_at b x in
      let v = verdict_at e r in
      tells_outlives y (subst (λ z. IsOutlives z y) opens.predicate (let i = says.is in i.says)) (subst (λ z. any_label is_alias z ≡ false) opens.predicate (let i = says.is in i.no_alias))
      (subst (λ z. SaysRecorded y z (tree_at a g.param_env.node) (opened_in before (tree_at a g.predicate.node)) (trees_of a qs) v) opens.table
      (subst (λ z. SaysRecorded y there (tree_at a g.param_env.node) z (trees_of a qs) v) opens.predicate
      (subst (λ z. SaysRecorded y there z (tree_at b o.predicate.node) (trees_of a qs) v) environment_same (subst (λ z. SaysRecorded y there (tree_at b o.param_env.node) (tree_at b o.predicate.node) z v) same told))))

  -- what answering the opened goal brings
  passes_entered : (P : Label → Bool) → TablePasses P before → TablePasses P there
  passes_entered P h = subst (TablePasses P) (sym opens.table) (by_test (binds (tree_at a g.predicate.node)))
    where
      by_test : (z : Bool) → TablePasses P (if z then in_universe before (before.universe + 1) else before)
      by_test true = record { values = h.values; left = h.left; right = h.right }
      by_test false = h

  goal_passes : (P : Label → Bool) → PassesQueries P → ((x : Tree) → Among (asked_terms a g) x → TreePasses P x) → (x : Tree) → Among (asked_terms b o) x → TreePasses P x
  goal_passes P q m x (inl e) = rw (e, environment_same) (m _ (inl refl))
  goal_passes P q m x (inr (inl e)) = subst (TreePasses P) (sym (e ∙ opens.predicate)) (opened_goal_passes P q before (tree_at a g.predicate.node) (m _ (inr (inl refl))))
  goal_passes P q m x (inr (inr e)) = absurd e

  pub labels_through : {c : Content} → BringsOnly (asked_terms b o) there c → BringsOnly (asked_terms a g) before c
  labels_through h = record { labels = λ P q m k. h.labels P q (goal_passes P q m) (passes_entered P k) }

  pub labels_entered : BringsOnly (asked_terms a g) before there
  labels_entered = record { labels = λ P q m k. passes_entered P k }

  -- the terms of the goal in a later store and table
  pub record AreThrough (d : List Tree) (v : Table) : Type 0 where
    pub terms : IsTermTable (content_of d v.entries)
    pub levelled : IsLevelled (content_of d v.entries)
    pub regions : AreRegionsLevelled (content_of d v.entries)
    pub env_before : IsTermOf before (tree_at a g.param_env.node)
    pub goal_before : IsTermOf before (tree_at a g.predicate.node)
    pub env_now : IsTermOf (content_of d v.entries) (tree_at a g.param_env.node)
    pub goal_now : IsTermOf (content_of d v.entries) (tree_at a g.predicate.node)
    pub opened_now : IsTermOf (content_of d v.entries) (opened_in before (tree_at a g.predicate.node))
    pub env_same : tree_at d g.param_env.node ≡ tree_at a g.param_env.node
    pub goal_same : tree_at d g.predicate.node ≡ tree_at a g.predicate.node
    pub opened_env : tree_at d o.param_env.node ≡ tree_at a g.param_env.node
    pub opened_goal : tree_at d o.predicate.node ≡ opened_in before (tree_at a g.predicate.node)

  through : {d : List Tree} {v : Table} → IsPosed b u o → Goes b d u v → Continues before (content_of d v.entries) → AreFormed d → AreThrough d v
  through {d} {v} there_posed goes later formed =
      let c = content_of d v.entries in
      let proper = goes.table.now.proper in
      let solvable = proper.solvable in
      let e = tree_at a g.param_env.node in
      let p = tree_at a g.predicate.node in
      let ad = Extends-trans up goes.extends in
      let env : tree_at d g.param_env.node ≡ e = ad.kept g.param_env.node posed.holds.env.within in
      let pred : tree_at d g.predicate.node ≡ p = ad.kept g.predicate.node posed.holds.predicate.within in
      let opred : tree_at d o.predicate.node ≡ opened_in before p = goes.extends.kept o.predicate.node there_posed.holds.predicate.within ∙ opens.predicate in
      let fe : IsFormed e = subst IsFormed env (formed g.param_env.node (IsIn-extended ad g.param_env.node posed.holds.env.within)) in
      let fp : IsFormed p = subst IsFormed pred (formed g.predicate.node (IsIn-extended ad g.predicate.node posed.holds.predicate.within)) in
      let fo : IsFormed (opened_in before p) = subst IsFormed opred (formed o.predicate.node (IsIn-extended goes.extends o.predicate.node there_posed.holds.predicate.within)) in
      let grown : KeepsKinds before c = record { grows = later.grows; kinds = later.kinds } in
      record {
        terms = term_table formed goes.table;
        levelled = solvable.levelled;
        regions = proper.regions;
        env_before = record { knows = posed.knows.env; formed = fe };
        goal_before = record { knows = posed.knows.predicate; formed = fp };
        env_now = record { knows = Knows-kept before c e grown posed.knows.env; formed = fe };
        goal_now = record { knows = Knows-kept before c p grown posed.knows.predicate; formed = fp };
        opened_now = record { knows = subst (Knows c) opens.predicate (Knows-goes (tree_at b o.predicate.node) goes there_posed.knows.predicate); formed = fo };
        env_same = env;
        goal_same = pred;
        opened_env = goes.extends.kept o.param_env.node there_posed.holds.env.within ∙ environment_same;
        opened_goal = opred;
      }

  -- what is proved of its trees is proved of the goal
  of_goal : (m : Meaning) (mode : Mode) (A : List Assumed) {d : List Tree} {v : Table} → AreThrough d v → IsProvedFrom m mode A (content_of d v.entries) (tree_at a g.param_env.node) (tree_at a g.predicate.node)
      → IsProvedFrom m mode A (content_of d v.entries) (tree_at d g.param_env.node) (tree_at d g.predicate.node)
  of_goal m mode A {d} {v} t proved =
      let c = content_of d v.entries in
      subst (λ z. IsProvedFrom m mode A c z (tree_at d g.predicate.node)) (sym t.env_same) (subst (λ z. IsProvedFrom m mode A c (tree_at a g.param_env.node) z) (sym t.goal_same) proved)

  -- a certain candidate for the opened goal proves the goal
  pub proved_through : (h : Handler) (V : ℕ → List Variance) (mode : Mode) (A : List Assumed) {d : List Tree} {v : Table} → IsPosed b u o → IsAskedIn b o → Goes b d u v → Continues before (content_of d v.entries) → AreFormed d → IsLawfulHandler h
      → IsServed h (meaning h V) mode A (content_of d v.entries) (tree_at d o.param_env.node) (tree_at d o.predicate.node) → IsProvedFrom (meaning h V) mode A (content_of d v.entries) (tree_at d g.param_env.node) (tree_at d g.predicate.node)
  proved_through h V mode A {d} {v} there_posed asked goes later formed law served =
      let c = content_of d v.entries in
      let t = through there_posed goes later formed in
      let terms = t.terms in
      let e = tree_at a g.param_env.node in
      let p = tree_at a g.predicate.node in
      let ask : handlers.IsAsked e (opened_in before p) = subst (λ z. handlers.IsAsked e z) opens.predicate (subst (λ z. handlers.IsAsked z (tree_at b o.predicate.node)) environment_same asked.asked) in
      let x : IsServed h (meaning h V) mode A c e (opened_in before p) = subst (λ z. IsServed h (meaning h V) mode A c e z) t.opened_goal (subst (λ z. IsServed h (meaning h V) mode A c z (tree_at d o.predicate.node)) t.opened_env served) in
      of_goal (meaning h V) mode A t
      (⊎_elim
      (λ held. by_entered_candidate h V mode A c terms.sound terms.values terms.constraints before e p posed.table.now.proper.current later t.levelled t.regions t.env_before t.goal_before (goal_closed before e p opens.closed ask) ask t.env_now t.goal_now t.opened_now x.candidate law x.offered x.sure held)
      (λ held. by_entered_relating h V mode A c terms.sound terms.values terms.constraints before e p posed.table.now.proper.current later t.levelled t.regions t.env_before t.goal_before (goal_closed before e p opens.closed ask) ask t.env_now t.goal_now t.opened_now x.candidate law x.offered x.sure held.1) x.holds)

  -- an environment without bound variables that are without their binders
  closed_there : IsClosedEnv (tree_at b o.param_env.node) → IsClosedThere (tree_at a g.param_env.node)
  closed_there env = (let x : IsClosedEnv (tree_at a g.param_env.node) = subst IsClosedEnv environment_same env in record { closed = x.closed; statements = x.statements })

  -- where the table holds what the opened goal says, the goal is proved
  pub outlives_through : (m : Meaning) (mode : Mode) (A : List Assumed) {d : List Tree} {v : Table} (x : Outlives) → IsPosed b u o → IsOutlivesGoal b o x → Goes b d u v → Continues before (content_of d v.entries) → AreFormed d → HoldsIn (constraint_at b x) d v
      → IsProvedFrom m mode A (content_of d v.entries) (tree_at d g.param_env.node) (tree_at d g.predicate.node)
  outlives_through m mode A {d} {v} x there_posed says goes later formed held =
      let t = through there_posed goes later formed in
      let terms = t.terms in
      of_goal m mode A t
      (outlives_proved m mode A (content_of d v.entries) terms.sound terms.values terms.constraints before (tree_at a g.param_env.node) (tree_at a g.predicate.node) (constraint_at b x) posed.table.now.proper.current later t.levelled t.regions t.env_before t.goal_before t.env_now t.goal_now t.opened_now
      (closed_there (let i = says.is in i.environment)) opens.closed (subst (λ z. IsOutlives z (constraint_at b x)) opens.predicate (let i = says.is in i.says)) held)

  -- .. so it is where the handler affirms the opened goal, and where its own way holds
  pub affirmed_through : (h : Handler) (V : ℕ → List Variance) (mode : Mode) (A : List Assumed) {d : List Tree} {v : Table} → IsPosed b u o → IsClosedEnv (tree_at b o.param_env.node) → Goes b d u v → Continues before (content_of d v.entries) → AreFormed d → IsLawfulHandler h
      → SaysAffirmed h.judges (tree_at b o.param_env.node) (tree_at b o.predicate.node) → IsProvedFrom (meaning h V) mode A (content_of d v.entries) (tree_at d g.param_env.node) (tree_at d g.predicate.node)
  affirmed_through h V mode A {d} {v} there_posed env goes later formed law says =
      let t = through there_posed goes later formed in
      let terms = t.terms in
      of_goal (meaning h V) mode A t
      (affirmed_proved h V law.judges mode A (content_of d v.entries) terms.sound terms.values terms.constraints before (tree_at a g.param_env.node) (tree_at a g.predicate.node) t.env_now (closed_there env) posed.table.now.proper.current later t.levelled t.regions t.env_before t.goal_before t.goal_now t.opened_now
      opens.closed (subst (SaysAffirmed h.judges (tree_at a g.param_env.node)) opens.predicate (subst (λ z. SaysAffirmed h.judges z (tree_at b o.predicate.node)) environment_same says)))

  pub own_through : (h : Handler) (V : ℕ → List Variance) (mode : Mode) (A : List Assumed) {d : List Tree} {v : Table} → IsPosed b u o → IsClosedEnv (tree_at b o.param_env.node) → Goes b d u v → Continues before (content_of d v.entries) → AreFormed d → IsLawfulHandler h
      → (x : Candidate) → HasOwnWay h.judges (tree_at b o.param_env.node) (tree_at b o.predicate.node) x → HoldsCandidateFrom (meaning h V) mode A (content_of d v.entries) (tree_at b o.predicate.node) x
      → IsProvedFrom (meaning h V) mode A (content_of d v.entries) (tree_at d g.param_env.node) (tree_at d g.predicate.node)
  own_through h V mode A {d} {v} there_posed env goes later formed law x way holds =
      let t = through there_posed goes later formed in
      let terms = t.terms in
      of_goal (meaning h V) mode A t
      (own_way_proved h V law.judges mode A (content_of d v.entries) terms.sound terms.values terms.constraints before (tree_at a g.param_env.node) (tree_at a g.predicate.node) t.env_now (closed_there env) posed.table.now.proper.current later t.levelled t.regions t.env_before t.goal_before t.goal_now t.opened_now
      opens.closed x (subst (λ z. HasOwnWay h.judges (tree_at a g.param_env.node) z x) opens.predicate (subst (λ z. HasOwnWay h.judges z (tree_at b o.predicate.node) x) environment_same way))
      (subst (λ z. HoldsCandidateFrom (meaning h V) mode A (content_of d v.entries) z x) opens.predicate holds))

  -- what is told of it: that the handler affirms or denies it, and how its own way fares
  pub affirmed_told : (h : Ruling) (mode : TypingMode) (qs : List GenericArg) (e : List Tree) (r : Canonical Response) → trees_of b qs ≡ trees_of a qs → SaysAffirmed (let m = h.handler in m.judges) (tree_at b o.param_env.node) (tree_at b o.predicate.node) → is_yes r.value.certainty ≡ true
      → IsResponseOf there (trees_of b qs) (response_at e r) → IsTold h mode a t g qs e r
  affirmed_told h mode qs e r same says sure response ks =
      tells_affirmed (subst (SaysAffirmed (let m = h.handler in m.judges) (tree_at a g.param_env.node)) opens.predicate (subst (λ z. SaysAffirmed (let m = h.handler in m.judges) z (tree_at b o.predicate.node)) environment_same says)) sure
      (subst (λ z. IsResponseOf z (trees_of a qs) (response_at e r)) opens.table (subst (λ z. IsResponseOf there z (response_at e r)) same response))

  pub denied_refuted : (h : Ruling) (mode : TypingMode) (qs : List GenericArg) → IsDenied (let m = h.handler in m.judges) (statement_of (tree_at b o.predicate.node)) → IsRefuted h mode a t g qs
  denied_refuted h mode qs d = is_denied (subst (λ z. IsDenied (let m = h.handler in m.judges) (statement_of z)) opens.predicate d)

  way_there : (h : Handler) (x : Candidate) → IsPosed b u o → AreFormed b → HasOwnWay h.judges (tree_at b o.param_env.node) (tree_at b o.predicate.node) x → IsOwnWayIn h before (tree_at a g.param_env.node) (tree_at a g.predicate.node) x
  way_there h x p formed way =
      let k = p.knows in
      record {
        way = subst (λ z. HasOwnWay h.judges (tree_at a g.param_env.node) z x) opens.predicate (subst (λ z. HasOwnWay h.judges z (tree_at b o.predicate.node) x) environment_same way);
        knows = subst (λ z. Knows z (pair (tree_at a g.param_env.node) (opened_in before (tree_at a g.predicate.node)))) opens.table
            (subst (λ z. Knows there (pair (tree_at a g.param_env.node) z)) opens.predicate (subst (λ z. Knows there (pair z (tree_at b o.predicate.node))) environment_same (k.env, (k.predicate, tt))));
        environment = subst IsFormed environment_same (formed o.param_env.node p.holds.env.within);
      }

  pub own_told : IsPosed b u o → AreFormed b → (h : Ruling) (mode : TypingMode) (qs : List GenericArg) (e : List Tree) (r : Canonical Response) (x : Candidate) → trees_of b qs ≡ trees_of a qs → HasOwnWay (let m = h.handler in m.judges) (tree_at b o.param_env.node) (tree_at b o.predicate.node) x
      → HasPlainEquations x → Replies h (mode_of mode) there (tree_at b o.param_env.node) (tree_at b o.predicate.node) (trees_of b qs) x (verdict_at e r) → IsTold h mode a t g qs e r
  own_told p formed h mode qs e r x same way plain reply ks =
      let v = verdict_at e r in
      tells_own x (way_there h.handler x p formed way) plain
      (subst (λ z. Replies h (mode_of mode) z (tree_at a g.param_env.node) (opened_in before (tree_at a g.predicate.node)) (trees_of a qs) x v) opens.table
      (subst (λ z. Replies h (mode_of mode) there (tree_at a g.param_env.node) z (trees_of a qs) x v) opens.predicate
      (subst (λ z. Replies h (mode_of mode) there z (tree_at b o.predicate.node) (trees_of a qs) x v) environment_same (subst (λ z. Replies h (mode_of mode) there (tree_at b o.param_env.node) (tree_at b o.predicate.node) z x v) same reply))))

  pub own_refuted : IsPosed b u o → AreFormed b → (h : Ruling) (mode : TypingMode) (qs : List GenericArg) (x : Candidate) → HasOwnWay (let m = h.handler in m.judges) (tree_at b o.param_env.node) (tree_at b o.predicate.node) x → HasPlainEquations x → Fails h (mode_of mode) (kind_for h.handler (tree_at b o.predicate.node)) there (tree_at b o.param_env.node) x → IsRefuted h mode a t g qs
  own_refuted p formed h mode qs x way plain fails =
      own_fails x (way_there h.handler x p formed way) plain
      (subst (λ z. Fails h (mode_of mode) (kind_for h.handler z) (entered_table before (tree_at a g.predicate.node)) (tree_at a g.param_env.node) x) opens.predicate
      (subst (λ z. Fails h (mode_of mode) (kind_for h.handler (tree_at b o.predicate.node)) z (tree_at a g.param_env.node) x) opens.table
      (subst (λ z. Fails h (mode_of mode) (kind_for h.handler (tree_at b o.predicate.node)) there z x) environment_same fails)))

  -- where one type of the opened goal is a subtype of the other under the table, the goal is proved
  pub subtype_through : (m : Meaning) (mode : Mode) (A : List Assumed) {d : List Tree} {v : Table} (p : TypePair) → IsPosed b u o → IsSubtypeGoal b o p → Goes b d u v → Continues before (content_of d v.entries) → AreFormed d
      → AreSubtypesBy m mode A (content_of d v.entries) (tree_at b o.param_env.node) (tree_at b p.sub.node) (tree_at b p.sup.node) → IsProvedFrom m mode A (content_of d v.entries) (tree_at d g.param_env.node) (tree_at d g.predicate.node)
  subtype_through m mode A {d} {v} p there_posed says goes later formed held =
      let t = through there_posed goes later formed in
      let terms = t.terms in
      let is = says.is in
      of_goal m mode A t
      (subtyping_proved m mode A (content_of d v.entries) terms.sound terms.values terms.constraints before (tree_at a g.param_env.node) (tree_at a g.predicate.node) (tree_at b p.sub.node) (tree_at b p.sup.node) posed.table.now.proper.current later t.levelled t.regions t.env_before t.goal_before t.env_now t.goal_now t.opened_now
      (closed_there is.environment) opens.closed (subst (λ z. IsSubtyping z (tree_at b p.sub.node) (tree_at b p.sup.node)) opens.predicate is.says)
      (subst (λ z. AreSubtypesBy m mode A (content_of d v.entries) z (tree_at b p.sub.node) (tree_at b p.sup.node)) environment_same held))

  -- .. and where what is left of one that an alias is equal to a term is proved
  pub normal_through : (m : Meaning) (mode : Mode) (A : List Assumed) {d : List Tree} {v : Table} (r : EquatedAlias) → IsPosed b u o → IsEquatedGoal b o r → Goes b d u v → Continues before (content_of d v.entries) → AreFormed d
      → IsNormalizedBy m mode A (content_of d v.entries) (tree_at b o.param_env.node) (tree_at b o.predicate.node) → IsProvedFrom m mode A (content_of d v.entries) (tree_at d g.param_env.node) (tree_at d g.predicate.node)
  normal_through m mode A {d} {v} r there_posed says goes later formed held =
      let t = through there_posed goes later formed in
      let terms = t.terms in
      let is = says.is in
      of_goal m mode A t
      (normal_proved m mode A (content_of d v.entries) terms.sound terms.values terms.constraints before (tree_at a g.param_env.node) (tree_at a g.predicate.node) posed.table.now.proper.current later t.levelled t.regions t.env_before t.goal_before t.env_now t.goal_now t.opened_now
      (closed_there is.environment) opens.closed
      (subst (λ z. IsNormalizedBy m mode A (content_of d v.entries) (tree_at a g.param_env.node) z) opens.predicate (subst (λ z. IsNormalizedBy m mode A (content_of d v.entries) z (tree_at b o.predicate.node)) environment_same held)))

  -- .. and what it is told and refuted by
  abbrev Reading : (Content → Tree → Tree → Type 0) → Type 0
  Reading P = P there (tree_at b o.param_env.node) (tree_at b o.predicate.node)

  through_opening : (P : Content → Tree → Tree → Type 0) → Reading P → P (entered_table before (tree_at a g.predicate.node)) (tree_at a g.param_env.node) (opened_in before (tree_at a g.predicate.node))
  through_opening P x =
      let two : P there (tree_at a g.param_env.node) (tree_at b o.predicate.node) = subst (λ z. P there z (tree_at b o.predicate.node)) environment_same x in
      let three : P there (tree_at a g.param_env.node) (opened_in before (tree_at a g.predicate.node)) = subst (λ z. P there (tree_at a g.param_env.node) z) opens.predicate two in
      subst (λ z. P z (tree_at a g.param_env.node) (opened_in before (tree_at a g.predicate.node))) opens.table three

  pub subtype_told : (h : Ruling) (mode : TypingMode) (qs : List GenericArg) (e : List Tree) (r : Canonical Response) → trees_of b qs ≡ trees_of a qs
      → SubtypesTold h (mode_of mode) there (tree_at b o.param_env.node) (tree_at b o.predicate.node) (trees_of b qs) (verdict_at e r) → IsTold h mode a t g qs e r
  subtype_told h mode qs e r same (inl x) ks =
      let v = verdict_at e r in
      let one = subst (λ z. Reading (λ c i j. SaysSubtypes h (mode_of mode) c i j z v)) same x in
      let y = through_opening (λ c i j. SaysSubtypes h (mode_of mode) c i j (trees_of a qs) v) one in
      let w = y.reached in
      tells_subtype w.left w.met y.found w.outside w.leaves w.reaches y.is_found y.says
  subtype_told h mode qs e r same (inr (unsure, plain)) ks = nothing_through h mode qs e r same unsure plain ks

  -- a goal that binds nothing is answered as it is
  as_asked : (mode : TypingMode) → IsCutIn (mode_of mode) ⊎ (g.predicate ≡ o.predicate) → IsOpenToNormalizing (mode_of mode) (opened_in before (tree_at a g.predicate.node)) → IsOpenToNormalizing (mode_of mode) (tree_at a g.predicate.node)
  as_asked mode (inl outside) n = inl outside
  as_asked mode (inr same) n =
      let kept : tree_at b g.predicate.node ≡ tree_at a g.predicate.node = up.kept g.predicate.node posed.holds.predicate.within in
      subst (IsOpenToNormalizing (mode_of mode)) (sym opens.predicate ∙ ap (λ (p : Predicate). tree_at b p.node) (sym same) ∙ kept) n

  pub normal_told : (h : Ruling) (mode : TypingMode) → IsCutIn (mode_of mode) ⊎ (g.predicate ≡ o.predicate) → (qs : List GenericArg) (e : List Tree) (r : Canonical Response) → trees_of b qs ≡ trees_of a qs
      → NormalTold h (mode_of mode) there (tree_at b o.param_env.node) (tree_at b o.predicate.node) (trees_of b qs) (verdict_at e r) → IsTold h mode a t g qs e r
  normal_told h mode bound qs e r same (inl x) ks =
      let v = verdict_at e r in
      let one = subst (λ z. Reading (λ c i j. SaysLeft h (mode_of mode) (λ d ps. IsWay h (mode_of mode) c d i j ps) c i j z v)) same x in
      let y = through_opening (λ c i j. SaysLeft h (mode_of mode) (λ d ps. IsWay h (mode_of mode) c d i j ps) c i j (trees_of a qs) v) one in
      tells_normal y.left y.met y.found (as_asked mode bound y.normal) y.sides y.reaches y.is_found y.says
  normal_told h mode bound qs e r same (inr (unsure, plain)) ks = nothing_through h mode qs e r same unsure plain ks

  pub normal_stops : (h : Ruling) (mode : TypingMode) → IsCutIn (mode_of mode) ⊎ (g.predicate ≡ o.predicate) → (qs : List GenericArg) → NormalRefuted h (mode_of mode) there (tree_at b o.param_env.node) (tree_at b o.predicate.node) → IsRefuted h mode a t g qs
  normal_stops h mode bound qs x =
      let y = through_opening (λ c e p. NormalRefuted h (mode_of mode) c e p) x in
      let one = y.one in
      normal_refused one.left one.met (as_asked mode bound one.normal) one.sides one.refused y.lesser

  pub subtype_refuted : (h : Ruling) (mode : TypingMode) (qs : List GenericArg) → SubtypesRefuted h (mode_of mode) there (tree_at b o.param_env.node) (tree_at b o.predicate.node) → IsRefuted h mode a t g qs
  subtype_refuted h mode qs (outside, inl none) =
      is_no_subtype outside (through_opening (λ c e p. IsNoSubtype h.variances c p) none)
  subtype_refuted h mode qs (outside, inr stop) =
      let x = through_opening (λ c e p. SubtypesStop h (mode_of mode) c e p) stop in
      subtype_refused x.left x.met outside x.leaves x.refused

-- an opened goal in a store that has grown
pub opened_later : {a b d : List Tree} {t u : Table} {g o : Goal} → Extends b d → IsTable b u → HoldsGoal b o → IsOpenedTo a b t u g o → IsOpenedTo a d t u g o
opened_later e table holds opens =
    record {
      closed = opens.closed;
      table = content_of-extended e table.now ∙ opens.table;
      environment = opens.environment;
      predicate = e.kept _ holds.predicate.within ∙ opens.predicate;
    }

pub opened_holds : (ts : List Tree) (t : Table) (o : Option Goal) → IfSome o (IsPosed ts t) → IfSome o (HoldsGoal ts)
opened_holds ts t None p = tt
opened_holds ts t (Some g) p = p.holds
