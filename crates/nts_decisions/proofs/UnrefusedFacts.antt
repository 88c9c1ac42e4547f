-- A goal with a fact is not refused: its query does not refute it, and each answer is granted to the caller.
use Rattle.std.proofs.Common.{◌≡◌, inl, inr, ℕ, true, false, List, [], ◌∷◌, map, refl, sym, ap, subst, ◌∙◌}
use Rattle.std.specs.Prelude.{length, false}
use Rattle.nts_model.specs.Terms.Trees.{Tree, node, any_label, is_alias, IsFormed}
use Rattle.nts_model.specs.declared.labels.Leaf.{Leaf}
use Rattle.nts_model.specs.declared.labels.Sort.TheVariants as sort
use Rattle.nts_model.specs.Lists.{Among}
use Rattle.nts_model.specs.Tables.Contents.{Content}
use Rattle.nts_model.specs.Tables.Levels.{AreCurrent, term_level}
use Rattle.nts_model.specs.Tables.Resolving.{Knows, IsSound}
use Rattle.nts_model.specs.Tables.Worlds.{World, Solves}
use Rattle.nts_model.specs.Terms.Substitutions.{leaf_tree, filled}
use Rattle.nts_model.specs.Derivations.Related.{Constraint, pair}
use Rattle.nts_model.specs.declared.labels.ClauseHead.TheVariants as clause
use Rattle.nts_model.specs.declared.labels.Label.TheVariants as label
use Rattle.nts_decisions.proofs.FactsSettled.{reached_nothing}
use Rattle.nts_theory.specs.Affirming.{SaysAffirmed, IsDenied, HasOwnWay}
use Rattle.nts_theory.specs.Outliving.{IsOutlives}
use Rattle.nts_theory.specs.Subtyping.{IsSubtyping}
use Rattle.nts_theory.specs.Aliasing.{NormalizesSides}
use Rattle.nts_theory.proofs.Refutation.Aliasing.{sides_no_handlers, way_no_handlers}
use Rattle.nts_theory.proofs.Refutation.Apart.{apart_unmet}
use Rattle.nts_theory.proofs.Refutation.PlainParts.{plain_met}
use Rattle.nts_decisions.proofs.OpenedStatements.{trait_outlives_nothing, trait_not_affirmed, trait_not_denied, trait_has_no_way, trait_says_no_subtype, trait_says_no_alias, statement_handlers}
use Rattle.nts_model.specs.Derivations.Sequents.{Premise}
use Rattle.nts_model.specs.Derivations.Rules.{Mode, GoalKind, Equation, statement_of}
use Rattle.nts_model.specs.Derivations.Handlers.{Handler, Candidate, IsAsked, IsLawfulHandler, HasNoLeaks, IsCandidateFor, AreValuesOf}
use Rattle.nts_model.specs.Canonical.Inputs.{Input, PositionKind, type_variable, integer_variable, float_variable, const_variable, region_variable, placeholder, IsInput, HaveKinds, canonical_of, after_environment, originals, AreAlikeInputs, made_of}
use Rattle.nts_model.specs.Canonical.Numbered.{numbered, no_leaf}
use Rattle.nts_model.specs.Refutation.Opening.{binds, opened_in, entered_table}
use Rattle.nts_model.specs.Answers.Responses.{Response, IsResponseTo, IsQueryTable, read_in, RefusesResponse}
use Rattle.nts_theory.specs.Telling.{Verdict, Queries, IsWay, IsInputFor, IsReady, StandsForAll, SaysOf, without_constraints, IsPlainResponse, Tells, tells_nothing, says_nothing, tells_one, tells_outlives, tells_affirmed, tells_own, tells_subtype, tells_alias, tells_normal, IsTraitStatement, IsAliasStatement, IsAliasReady, IsAliasGoal, IsTraitGoal, kind_for, Refutes, all_fail, is_denied, own_fails, is_no_subtype, subtype_refused, aliases_fail, normal_refused, Outcomes, no_outcome, then_fails, then_replies, Replies, replies, Fails, is_unmet, has_types_apart, is_unrelated, is_refused, is_leaky, Refused, by_query, by_response}
use Rattle.nts_theory.specs.RelatingCandidates.{HasPlainEquations}
use Rattle.nts_theory.proofs.Refutation.Queried.{IsFirst, BeginsEach, IsQuery, first_query, IsTried, tried, tried_knows, found_table, says_long}
use Rattle.nts_theory.proofs.Refutation.QueryLabels.{query_without}
use Rattle.nts_theory.proofs.Refutation.Answered.{among_split}
use Rattle.nts_theory.proofs.Refutation.Agreeing.{kinds_agree, terms_long, agree_themselves, nothing_is_identity, positions_long, AllAgree}
use Rattle.nts_decisions.specs.Facts.{IsAskedAs, IsFactIn}
use Rattle.nts_decisions.proofs.BlurredWorlds.{blurred_world}
use Rattle.nts_decisions.proofs.OneRegion.{blurred_same, HasOneRegion}
use Rattle.nts_decisions.proofs.FactWorlds.{MergedWorld, entered_merged, asked_trees, asked_values, images_one}
use Rattle.nts_decisions.proofs.GrantedFacts.{ContainsMerged, says_merged}
use Rattle.nts_decisions.proofs.MergedAnswers.{identity_merged, merged_granted}
use Rattle.nts_decisions.proofs.MetFacts.{plain_offered_there, trait_goal_there, is_offered_there, IsOfferedThere, values_there, fit_there, one_there, named_there, equal_there, met_there, asks_nothing_there, made_alike}
use Rattle.nts_decisions.proofs.BegunFacts.{begun_there}
use Rattle.nts_model.specs.Answers.Applying.{IsProperContent}
use Rattle.nts_model.specs.Refutation.Choosing.{IsCandidateMet, AreNamedValues, left_of, right_of}
use Rattle.nts_model.proofs.Tables.Slots.{KeepsKinds}
use Rattle.nts_theory.proofs.Derivations.Flattening.{among_left, among_right}
use Rattle.nts_model.specs.Refutation.Containing.{AreInputValues, IsInputValue}
use Rattle.nts_decisions.specs.Deciding.{blurred}
use Rattle.nts_model.specs.Searching.Driving.{positions_from}
use Rattle.nts_theory.proofs.Refutation.Witnesses.{outcome_long}
use Rattle.nts_theory.proofs.Examples.ToldExamples.{no_refusal, none_with}
use Rattle.nts_theory.proofs.Refutation.PosedGoals.{no_goals_posed, none_posed}

-- leaves stand for the positions of a query, which have the kinds of any input
pub record HasLeavesEach (Q : Queries) : Type 0 where
  pub leaves : List PositionKind → List Leaf
  pub roots : List PositionKind → ℕ → ℕ
  pub values : (ks : List PositionKind) → Q.values ks ≡ map leaf_tree (leaves ks)
  pub have : (i : Input) → IsInput i → HaveKinds (canonical_of i) (leaves (canonical_of i).kinds) (roots (canonical_of i).kinds)

-- a table of a query without its constraints
without : (q : Content) (qs ts : List Tree) → MergedWorld q qs ts → MergedWorld (without_constraints q) qs ts
without q qs ts m =
    record {
      world = m.world;
      solves = (let z = m.solves in record { values = z.values; constraints = tt; nameable = record { each = (let n = z.nameable in n.each) }; fitting = record { each = (let f = z.fitting in f.each) } });
      images = m.images;
    }

-- each verdict of candidates has as many values as there are positions
reply_long : (c found : Content) (qs : List Tree) (v : Verdict) → SaysOf c found qs v → (let r = v.response in let x = r.findings in length x.values ≡ length qs)
reply_long c found qs v (inl (y, r)) = says_long found qs v.response r
reply_long c found qs v (inr (y, inl r)) = says_long (without_constraints found) qs v.response r
reply_long c found qs v (inr (y, inr r)) = says_long (without_constraints c) qs v.response r

module _ (Q : Queries) (h : Handler) (law : IsLawfulHandler h) (mode : Mode) (tight : HasNoLeaks h) (c : Content) (i : Input) (from : IsAskedAs c i.environment i.predicate i) (fact : IsFactIn h mode c i.environment i.predicate)
    (q : Content) (u : List Leaf) (roots : ℕ → ℕ) (have : HaveKinds (canonical_of i) u roots) (first : IsFirst (canonical_of i) q (map leaf_tree u)) where
  abbrev e' : Tree
  e' = filled (map leaf_tree u) (canonical_of i).environment

  abbrev g' : Tree
  g' = filled (map leaf_tree u) (canonical_of i).predicate

  -- the query's goal binds nothing either
  binds_none : binds g' ≡ false
  binds_none =
      let goal = fact.goal in
      let asked = goal.asked in
      subst (λ z. binds (filled (map leaf_tree u) (numbered no_leaf (after_environment i) z)) ≡ false) (sym asked.binds_nothing) refl

  -- it says of nothing that it outlives a region
  still_trait : (s : Tree) → IsTraitStatement s → IsTraitStatement (filled (map leaf_tree u) (numbered no_leaf (after_environment i) s))
  still_trait (node (label.Clause (clause.Trait j)) ts) h = tt
  still_trait (node (label.Clause (clause.HostEffect j)) ts) h = tt
  still_trait s h = absurd h

  is_trait : IsTraitStatement (statement_of g')
  is_trait =
      let goal = fact.goal in
      let asked = goal.asked in
      let t = goal.trait_goal in
      let trait : IsTraitStatement asked.statement = subst (λ z. IsTraitStatement (statement_of z)) asked.binds_nothing t.statement in
      subst (λ z. IsTraitStatement (statement_of (filled (map leaf_tree u) (numbered no_leaf (after_environment i) z)))) (sym asked.binds_nothing) (still_trait asked.statement trait)

  outlives_nothing : (y : Constraint) → IsOutlives g' y → ⊥
  outlives_nothing y o = trait_outlives_nothing g' y is_trait o

  same_goal : opened_in q g' ≡ g'
  same_goal = rw binds_none refl

  same_table : entered_table q g' ≡ q
  same_table = rw binds_none refl

  query : IsQuery (canonical_of i).kinds q e' g' (map leaf_tree u)
  query = first_query (canonical_of i) q (map leaf_tree u) first

  abbrev x : Candidate
  x = fact.candidate

  abbrev w : World
  w = (let m = fact.met in m.world)

  abbrev solves : Solves c w
  solves = (let m = fact.met in m.solves)

  abbrev ts : List Tree
  ts = asked_trees c w solves i from

  abbrev entered : MergedWorld q (map leaf_tree u) ts
  entered = entered_merged c w solves i from q (map leaf_tree u) first.begins

  record OneContains (vs : List Verdict) : Type 0 where
    pub verdict : Verdict
    pub among : Among vs verdict
    pub contains : ContainsMerged verdict.response ts

  -- its candidates are tried in the query's first table
  module _ (asked : IsAsked e' g') (proper : IsProperContent q) where
    renaming : AreAlikeInputs i (made_of (canonical_of i) u roots)
    renaming = (let f = from.input in made_alike i f.proper f.hidden u roots have asked)

    there : IsOfferedThere h law mode c w solves i from fact.goal q u roots have first.begins asked first.knows renaming.0 renaming.1 x
    there = is_offered_there h law mode c w solves i from fact.goal q u roots have first.begins asked first.knows renaming.0 renaming.1 x fact.offered

    abbrev y : Candidate
    y = there.candidate

    here : IsCandidateFor i.environment i.predicate x
    here = (let keep = law.keep in let goal = fact.goal in keep.each mode i.environment i.predicate x goal.asked fact.offered)

    over : IsCandidateFor e' g' y
    over = (let keep = law.keep in keep.each mode e' g' y asked there.offered)

    abbrev us : List Tree
    us = (let m = fact.met in values_there h law mode c w solves i from fact.goal q u roots have first.begins asked first.knows renaming.0 renaming.1 x y there.same here over m.values m.fit m.named m.equal)

    no_goals : y.goals ≡ []
    no_goals = asks_nothing_there h law mode c w solves i from fact.goal q u roots have first.begins asked first.knows renaming.0 renaming.1 x there fact.no_goals

    is_met : IsCandidateMet q y
    is_met = (let m = fact.met in met_there h law mode c w solves i from fact.goal q u roots have first.begins asked first.knows renaming.0 renaming.1 x y there.same here over m.values m.fit m.named m.equal)

    fit : AreValuesOf y.fresh us
    fit = (let m = fact.met in fit_there h law mode c w solves i from fact.goal q u roots have first.begins asked first.knows renaming.0 renaming.1 x y there.same here over m.values m.fit m.named m.equal)

    one : (t : Tree) → Among us t → HasOneRegion t
    one = (let m = fact.met in one_there h law mode c w solves i from fact.goal q u roots have first.begins asked first.knows renaming.0 renaming.1 x y there.same here over m.values m.fit m.named m.equal)

    named : AreNamedValues term_level q.universe us
    named = (let m = fact.met in named_there h law mode c w solves i from fact.goal q u roots have first.begins asked first.knows renaming.0 renaming.1 x y there.same here over m.values m.fit m.named m.equal)

    equal : (z : Equation) → Among y.equations z → (let v = entered in read_in (blurred_world v.world) us (left_of z) ≡ read_in (blurred_world v.world) us (right_of z))
    equal = (let m = fact.met in equal_there h law mode c w solves i from fact.goal q u roots have first.begins asked first.knows renaming.0 renaming.1 x y there.same here over m.values m.fit m.named m.equal)

    -- no alias stands in its equations, nor in the goal
    is_plain : HasPlainEquations y
    is_plain = plain_offered_there h law mode c w solves i from fact.goal q u roots have first.begins asked first.knows renaming.0 renaming.1 y there.offered

    trait_here : IsTraitGoal e' g'
    trait_here = trait_goal_there h law mode c w solves i from fact.goal q u roots have first.begins asked first.knows renaming.0 renaming.1

    -- the query's fact does not fail
    never_fails : {k : GoalKind} {e : Tree} → Fails Q h mode k q e y → ⊥
    never_fails (is_unmet n) = n (plain_met q y is_met)
    never_fails (has_types_apart a) = apart_unmet q y a is_met
    never_fails (is_unrelated n) = n.some is_plain
    never_fails {k} (is_refused ps gs met posed (inl (values, in_one, begun, same)) poses refused) = no_refusal Q h mode posed k gs (no_goals_posed mode k met posed ps gs poses (same ∙ none_with values y.goals no_goals)) refused
    never_fails (is_refused ps gs met posed (inr (inl (outside, begun))) poses refused) = begun.some is_plain
    never_fails (is_refused ps gs met posed (inr (inr (inside, begun))) poses refused) = (let b = begun.begun in b.some is_plain)
    never_fails (is_leaky ps gs met posed found begun poses reach leaks) = tight found 0 leaks

    -- and what it replies is so in the caller's world
    is_tried : IsTried (canonical_of i).kinds q e' g' (map leaf_tree u)
    is_tried = subst (λ z. IsTried (canonical_of i).kinds z e' g' (map leaf_tree u)) same_table (subst (λ z. IsTried (canonical_of i).kinds (entered_table q g') e' z (map leaf_tree u)) same_goal (tried (canonical_of i).kinds q e' g' (map leaf_tree u) query))

    says_so : (found : Content) (v : Verdict) → IsQueryTable (canonical_of i).kinds found (map leaf_tree u) → MergedWorld found (map leaf_tree u) ts → SaysOf q found (map leaf_tree u) v → ContainsMerged v.response ts
    says_so found v table m (inl (y, r)) = says_merged (canonical_of i).kinds found (map leaf_tree u) ts v.response is_tried.placed table r m
    says_so found v table m (inr (y, inl r)) = says_merged (canonical_of i).kinds (without_constraints found) (map leaf_tree u) ts v.response is_tried.placed (query_without (canonical_of i).kinds found (map leaf_tree u) table) r (without found (map leaf_tree u) ts m)
    says_so found v table m (inr (y, inr r)) = says_merged (canonical_of i).kinds (without_constraints q) (map leaf_tree u) ts v.response is_tried.placed (query_without (canonical_of i).kinds q (map leaf_tree u) is_tried.table) r (without q (map leaf_tree u) ts entered)

    fact_replies : (v : Verdict) → Replies Q h mode q e' g' (map leaf_tree u) y v → ContainsMerged v.response ts
    fact_replies v (replies ps gs met posed found (inr (inl (outside, begun))) poses reach is says) = absurd (begun.some is_plain)
    fact_replies v (replies ps gs met posed found (inr (inr (inside, begun))) poses reach is says) = absurd (let b = begun.begun in b.some is_plain)
    fact_replies v (replies ps gs met posed found (inl (values, in_one, begun, are)) poses reach is says) =
        let n = entered in
        let b = begun_there q n.world n.solves e' g' first.knows y over us fit one named equal proper values met begun (map leaf_tree u) ts (tried_knows (canonical_of i).kinds q e' g' (map leaf_tree u) is_tried) n.images in
        let none = none_posed mode (kind_for h g') met posed ps gs poses (are ∙ none_with values y.goals no_goals) in
        let same : found ≡ met = reached_nothing Q h mode gs posed found none.1 reach ∙ none.0 in
        let table = found_table (canonical_of i).kinds q found e' g' (map leaf_tree u) is_tried is (subst (KeepsKinds q) (sym same) b.1) in
        says_so found v table (subst (λ z. MergedWorld z (map leaf_tree u) ts) (sym same) b.0) says

    outcomes_contain : {xs : List Candidate} {vs : List Verdict} → Outcomes Q h mode q e' g' (map leaf_tree u) xs vs → Among xs y → OneContains vs
    outcomes_contain no_outcome a = absurd a
    outcomes_contain (then_fails {xs = xs} {vs = vs} {x = z} before fails) a =
        let rest = λ (k : Among xs y). outcomes_contain before k in
        elim (among_split xs (z ∷ []) y a) [
          | inl k ↦ rest k
          | inr k ↦ (elim k [ inl e ↦ absurd (never_fails (subst (Fails Q h mode (kind_for h g') q e') (sym e) fails)) | inr n ↦ absurd n ])
        ]
    outcomes_contain (then_replies {xs = xs} {vs = vs} {x = z} {v = v} before reply) a =
        let rest = λ (k : Among xs y). outcomes_contain before k in
        elim (among_split xs (z ∷ []) y a) [
          | inl k ↦ (let o = rest k in record { verdict = o.verdict; among = among_left vs (v ∷ []) o.verdict o.among; contains = o.contains })
          | inr k ↦ (elim k [
            | inl e ↦ record { verdict = v; among = among_right vs (v ∷ []) v (inl refl); contains = fact_replies v (subst (λ n. Replies Q h mode q e' g' (map leaf_tree u) n v) (sym e) reply) }
            | inr n ↦ absurd n
          ])
        ]

  tried_here : (vs : List Verdict) → Outcomes Q h mode (entered_table q g') e' (opened_in q g') (map leaf_tree u) (h.offers mode e' (opened_in q g')) vs → Outcomes Q h mode q e' g' (map leaf_tree u) (h.offers mode e' g') vs
  tried_here vs all =
      subst (λ z. Outcomes Q h mode q e' z (map leaf_tree u) (h.offers mode e' z) vs) same_goal
      (subst (λ z. Outcomes Q h mode z e' (opened_in q g') (map leaf_tree u) (h.offers mode e' (opened_in q g')) vs) same_table all)

  contains_here : (vs : List Verdict) → IsReady q e' g' → Outcomes Q h mode (entered_table q g') e' (opened_in q g') (map leaf_tree u) (h.offers mode e' (opened_in q g')) vs → OneContains vs
  contains_here vs ready all =
      let asked = subst (IsAsked e') same_goal ready.asked in
      let proper = subst IsProperContent same_table ready.proper in
      let o = there asked proper in
      outcomes_contain asked proper (tried_here vs all) o.offered

  no_alias_here : IsAliasReady q e' g' → ⊥
  no_alias_here ready = by_case ready.alias_goal
    where
      by_case : IsAliasGoal e' (opened_in q g') → ⊥
      by_case (inl a) = trait_says_no_alias (statement_of g') is_trait (subst (λ z. IsAliasStatement (statement_of z)) same_goal a)
      by_case (inr (s, some)) =
          let t = trait_here (subst (IsAsked e') same_goal ready.asked) (subst IsProperContent same_table ready.proper) in
          let none : any_label is_alias (pair e' g') ≡ false = t.no_alias in
          let yes : any_label is_alias (pair e' g') ≡ true = subst (λ z. any_label is_alias (pair e' z) ≡ true) same_goal some in
          let clash : true ≡ false = sym yes ∙ none in
          cc clash

  equates_nothing_here : {d : Content} {ps : List Premise} → NormalizesSides (entered_table q g') d e' (opened_in q g') ps → ⊥
  equates_nothing_here {d} {ps} x = sides_no_handlers (entered_table q g') d e' (opened_in q g') ps x (statement_handlers (statement_of (opened_in q g')) (subst (λ z. IsTraitStatement (statement_of z)) (sym same_goal) is_trait))

  no_way_here : {d : Content} {ps : List Premise} → IsWay Q h mode (entered_table q g') d e' (opened_in q g') ps → ⊥
  no_way_here {d} {ps} x = way_no_handlers (entered_table q g') d e' (opened_in q g') ps x (statement_handlers (statement_of (opened_in q g')) (subst (λ z. IsTraitStatement (statement_of z)) (sym same_goal) is_trait))

  query_never_refutes : Refutes Q h mode q e' g' (map leaf_tree u) → ⊥
  query_never_refutes (is_denied d) = trait_not_denied h.judges g' is_trait (subst (λ z. IsDenied h.judges (statement_of z)) same_goal d)
  query_never_refutes (own_fails y own one fails) = trait_has_no_way h.judges e' g' y is_trait (subst (λ z. HasOwnWay h.judges e' z y) same_goal own.way)
  query_never_refutes (is_no_subtype outside n) = trait_says_no_subtype g' n.left n.right is_trait (subst (λ z. IsSubtyping z n.left n.right) same_goal n.is)
  query_never_refutes (subtype_refused ps met outside l refused) = trait_says_no_subtype g' l.left l.right is_trait (subst (λ z. IsSubtyping z l.left l.right) same_goal l.is)
  query_never_refutes (aliases_fail ready all) = no_alias_here ready
  query_never_refutes (normal_refused ps met outside l refused other) = equates_nothing_here l
  query_never_refutes (all_fail ready all) = (let o = contains_here [] ready all in o.among)

  formed_values : (ks : List PositionKind) (zs : List Tree) → AreInputValues ks zs → (t : Tree) → Among zs t → IsFormed t
  formed_values [] [] v t a = absurd a
  formed_values [] (z ∷ zs) v t a = absurd v
  formed_values (k ∷ ks) [] v t a = absurd v
  formed_values (k ∷ ks) (z ∷ zs) v t (inr a) = formed_values ks zs v.1 t a
  formed_values (k ∷ ks) (z ∷ zs) v t (inl e) = subst IsFormed (sym e) (one k v.0)
    where
      one : (k : PositionKind) → IsInputValue k z → IsFormed z
      one (type_variable n r) x = (let y = x.value in y.formed)
      one integer_variable x = (let y = x.value in y.formed)
      one float_variable x = (let y = x.value in y.formed)
      one (const_variable n) x = (let y = x.value in y.formed)
      one (region_variable n) x = (let y = x.value in y.formed)
      one (placeholder sort.Region n m) x = subst IsFormed (sym x.0.1) (tt, tt)
      one (placeholder sort.Ty n m) x = subst IsFormed (sym x) (tt, tt)
      one (placeholder sort.Const n m) x = subst IsFormed (sym x) (tt, tt)

  same_values : (zs : List Tree) → ((t : Tree) → Among zs t → HasOneRegion t) → ((t : Tree) → Among zs t → IsFormed t) → map blurred zs ≡ zs
  same_values [] h f = refl
  same_values (z ∷ zs) h f = cc (blurred_same z (h z (inl refl)) (f z (inl refl)), same_values zs (λ t a. h t (inr a)) (λ t a. f t (inr a)))

  values : AreInputValues (canonical_of i).kinds ts
  values = asked_values c w solves i from

  values_same : map blurred ts ≡ ts
  values_same = same_values ts (images_one c w solves i from (originals i)) (formed_values (canonical_of i).kinds ts values)

  nothing_said : (v : Verdict) → IsPlainResponse q (map leaf_tree u) v.response → ContainsMerged v.response ts
  nothing_said v r = says_merged (canonical_of i).kinds (without_constraints q) (map leaf_tree u) ts v.response first.placed (query_without (canonical_of i).kinds q (map leaf_tree u) first.table) r (without q (map leaf_tree u) ts entered)

  tells_contained : (v : Verdict) → Tells Q h mode (canonical_of i).kinds q e' g' (map leaf_tree u) v → ContainsMerged v.response ts
  tells_contained v (tells_nothing d (inl is) y says) = nothing_said v (subst (λ z. IsPlainResponse z (map leaf_tree u) v.response) is says)
  tells_contained v (tells_nothing d (inr is) y says) = nothing_said v (subst (λ z. IsPlainResponse z (map leaf_tree u) v.response) (is ∙ same_table) says)
  tells_contained v (says_nothing says) =
      let r = v.response in
      let ks = (canonical_of i).kinds in
      let all : (let x = r.findings in x.values ≡ positions_from 0 ks) = ap (λ (z : Response). (let y = z.findings in y.values)) says in
      let kinds : r.kinds ≡ ks = ap (λ (z : Response). z.kinds) says in
      identity_merged ks r ts query.numbered (nothing_is_identity ks r says) (ap (length {A = Tree}) all ∙ positions_long 0 ks) (subst (AllAgree ks) (sym kinds) (agree_themselves ks)) values values_same
  tells_contained v (tells_outlives y o none r) = absurd (outlives_nothing y (subst (λ z. IsOutlives z y) same_goal o))
  tells_contained v (tells_affirmed a sure says) = absurd (trait_not_affirmed h.judges e' g' is_trait (subst (SaysAffirmed h.judges e') same_goal a))
  tells_contained v (tells_own y own one reply) = absurd (trait_has_no_way h.judges e' g' y is_trait (subst (λ z. HasOwnWay h.judges e' z y) same_goal own.way))
  tells_contained v (tells_subtype ps met found outside l reach is says) = absurd (trait_says_no_subtype g' l.left l.right is_trait (subst (λ z. IsSubtyping z l.left l.right) same_goal l.is))
  tells_contained v (tells_alias vs ready all stands) = absurd (no_alias_here ready)
  tells_contained v (tells_normal ps met found outside l reach is says) = absurd (no_way_here l)
  tells_contained v (tells_one vs ready all stands) = by_one stands
    where
      by_one : StandsForAll (map leaf_tree u) vs v → ContainsMerged v.response ts
      by_one (a, inl same) =
          let r = v.response in
          let ks = (canonical_of i).kinds in
          identity_merged ks r ts query.numbered same.same (outcome_long all v a ∙ terms_long ks (map leaf_tree u) query.kinds) (kinds_agree ks r.kinds (map leaf_tree u) query.kinds same.kinds) values values_same
      by_one (a, inr same) = (let one = contains_here vs ready all in subst (λ (z : Verdict). ContainsMerged z.response ts) (same one.verdict one.among) one.contains)

  answer_never_refused : (v : Verdict) → Tells Q h mode (canonical_of i).kinds q e' g' (map leaf_tree u) v → IsResponseTo (canonical_of i).kinds v.response → RefusesResponse c (map leaf_tree (originals i)) v.response → ⊥
  answer_never_refused v tells fit refuses = merged_granted c w solves i from (canonical_of i).kinds v.response fit (tells_contained v tells) refuses

-- the goal is not refused
module _ (Q : Queries) (begins : BeginsEach Q) (each : HasLeavesEach Q) (h : Handler) (law : IsLawfulHandler h) (mode : Mode) (tight : HasNoLeaks h) (c : Content) (e g : Tree) (fact : IsFactIn h mode c e g) (known : Knows c (pair e g)) (sound : IsSound c) (current : AreCurrent c) where
  module _ (i : Input) (of : IsInputFor c e g i) where
    fact_asked : IsFactIn h mode c i.environment i.predicate
    fact_asked = subst (λ z. IsFactIn h mode c z i.predicate) (sym of.environment) (subst (IsFactIn h mode c e) (sym of.predicate) fact)

    asked_as : IsAskedAs c i.environment i.predicate i
    asked_as =
        record {
          input = record { environment = refl; predicate = refl; hidden = of.hidden; classes = of.classes; proper = of.proper };
          knows = subst (λ z. Knows c (pair z i.predicate)) (sym of.environment) (subst (λ z. Knows c (pair e z)) (sym of.predicate) known);
          sound = sound;
          current = current;
        }

    abbrev ks : List PositionKind
    ks = (canonical_of i).kinds

    first_there : IsFirst (canonical_of i) (Q.table ks) (map leaf_tree (each.leaves ks))
    first_there = subst (IsFirst (canonical_of i) (Q.table ks)) (each.values ks) (begins.first c e g i of known)

    never_refutes : Refutes Q h mode (Q.table ks) (filled (Q.values ks) (canonical_of i).environment) (filled (Q.values ks) (canonical_of i).predicate) (Q.values ks) → ⊥
    never_refutes r =
        query_never_refutes Q h law mode tight c i asked_as fact_asked (Q.table ks) (each.leaves ks) (each.roots ks) (each.have i of.proper) first_there
        (subst (λ z. Refutes Q h mode (Q.table ks) (filled z (canonical_of i).environment) (filled z (canonical_of i).predicate) z) (each.values ks) r)

    never_refused : (v : Verdict) → Tells Q h mode ks (Q.table ks) (filled (Q.values ks) (canonical_of i).environment) (filled (Q.values ks) (canonical_of i).predicate) (Q.values ks) v → IsResponseTo ks v.response
        → RefusesResponse c (map leaf_tree (originals i)) v.response → ⊥
    never_refused v t fit refuses =
        answer_never_refused Q h law mode tight c i asked_as fact_asked (Q.table ks) (each.leaves ks) (each.roots ks) (each.have i of.proper) first_there v
        (subst (λ z. Tells Q h mode ks (Q.table ks) (filled z (canonical_of i).environment) (filled z (canonical_of i).predicate) z v) (each.values ks) t) fit refuses

  pub fact_not_refused : Refused Q h mode c e g → ⊥
  fact_not_refused (by_query i of refutes) = never_refutes i of refutes
  fact_not_refused (by_response i v of tells fit refuses) = never_refused i of v tells fit refuses
