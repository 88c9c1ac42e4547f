-- A candidate that was begun by relating: what its parts left, put together; and that it holds where all goals that are left are proved.
use Rattle.std.proofs.Common.{◌≡◌, ◌⊎◌, inl, inr, ⊎_elim, zero, suc, Bool, false, List, [], ◌∷◌, ◌++◌, map, refl, sym, ap, ◌∙◌, subst, arith}
use Rattle.std.proofs.lemmas.List.Elements.{All-nil, All-cons, All-append, All-weaker}
use Rattle.std.proofs.lemmas.List.{map-append}
use Rattle.nts_model.specs.declared.labels.Label.{Label}
use Rattle.nts_model.specs.declared.labels.Variance.TheVariants as variance
use Rattle.nts_model.specs.Lists.{Among}
use Rattle.nts_model.specs.Terms.Trees.{Tree, any_argument, AllFit}
use Rattle.nts_model.specs.Tables.Contents.{Content}
use Rattle.nts_model.specs.Tables.Holding.{Continues}
use Rattle.nts_model.specs.Tables.Resolving.{Knows}
use Rattle.std.specs.Prelude.{All, true}
use Rattle.nts_model.specs.Tables.Passing.{TreePasses, TablePasses, BringsOnly}
use Rattle.nts_model.specs.Derivations.Rules.{relating}
use Rattle.nts_model.specs.Refutation.Choosing.{Freshens, EquatesAll, IsCandidateMet}
use Rattle.nts_model.specs.Refutation.Forcing.{AddsAll}
use Rattle.nts_variance_model.specs.Variances.Relations.{Relating as Pair}
use Rattle.nts_theory.specs.RelatingCandidates.{HasPlainEquations, IsBegun, IsBegunByRelating, AreEqualities, IsUnrelated, plain_part, plain_equations, aliased_equations, pairs_with, goals_with}
use Rattle.nts_variance_model.specs.Variances.Leaving.{Refuses}
use Rattle.nts_theory.specs.Subtyping.{LeavesGoals}
use Rattle.nts_store.specs.declared.nodes.NodeId.{NodeId}
use Rattle.nts_store.specs.Growth.{tree_at, trees_at, Extends}
use Rattle.nts_store.specs.Kept.{map-kept, AllIn-kept}
use Rattle.nts_store.proofs.Growing.{Extends-trans, trees_at-extended}
use Rattle.nts_certainty.specs.declared.sources.GoalSource.{GoalSource}
use Rattle.nts_certainty.specs.declared.sources.GoalSource.TheVariants as source
use Rattle.nts_terms.specs.declared.cx.Cx.{Cx}
use Rattle.nts_terms.specs.declared.handles.Goal.{Goal}
use Rattle.nts_terms.specs.Handles.{HoldsGoal}
use Rattle.nts_terms.specs.Rest.{Grows}
use Rattle.nts_terms.specs.Signatures.{variances_in}
use Rattle.nts_terms.proofs.Moved.{KeepsRest-trans}
use Rattle.nts_unify.specs.Reading.{content_of}
use Rattle.nts_unify.specs.Lawful.{content_of-extended}
use Rattle.nts_table.specs.Tables.{Table}
use Rattle.nts_variance.specs.Terms.{pairs_at}
use Rattle.nts_variance.specs.declared.along.Relating.{Relating as RelatingNodes}
use Rattle.nts_terms.specs.declared.handles.ParamEnv.{ParamEnv}
use Rattle.nts_candidates.specs.declared.data.Equation.{Equation as EquationData}
use Rattle.nts_candidates.specs.declared.data.CandidateData.{CandidateData}
use Rattle.nts_candidates.specs.Offered.{equation_of, constraint_of, premise_of, candidate_of}
use Rattle.nts_response.specs.Forms.{premise_at}
use Rattle.nts_delegate.specs.Candidates.{IsCandidate, AreEquations}
use Rattle.nts_solver_relating.specs.Sides.{related_pairs, AreGoalsOfPairs}
use Rattle.nts_meaning.specs.Evaluation.{Runs, IsPosed, AreValues, asked_terms, goals_at}
use Rattle.nts_meaning.specs.Running.{EquatesEach, Constrains}
use Rattle.nts_meaning.proofs.Evaluating.{IsPosed-later, AreValues-later, Runs-trans}
use Rattle.nts_meaning.proofs.Running.{Equates-later, constraints-kept}
use Rattle.nts_trying.specs.Adding.{AreAdded}
use Rattle.nts_trying.specs.Choices.{EquatesCandidate}
use Rattle.nts_trying.specs.Stepping.{ArePosed, terms_of}
use Rattle.nts_trying.specs.Subtyping.{with_source}
use Rattle.nts_trying.proofs.Stepping.{all_among}
use Rattle.nts_theory.specs.Aliasing.{SaysEqual}
use Rattle.nts_trying.specs.Outliving.{IsClosedEnv}
use Rattle.nts_trying.specs.Relating.{aliased_data, plain_data, right_node, left_list, right_list, IsPlainPart, RelatesEquations, RunsByRelating, BeginsByRelating}
use Rattle.nts_trying.proofs.Adding.{posed_kept, goals_kept}
use Rattle.nts_trying.proofs.Ran.{added_is}
use Rattle.nts_trying.proofs.RelatedAliases.{map_aliased, map_plain, aliased_are, aliased_fit, right_in, lists_pair, sides_pass, grown_equations, same_equations}
use Rattle.nts_trying.proofs.RelatedTypes.{goals_of_pairs, posed_each, premises_each, labels_each, query_rows}

-- the terms of goals that are posed, in a store that has grown, and of two lists of goals
terms_kept : (b d : List Tree) (t : Table) (gs : List (GoalSource × Goal)) → Extends b d → ArePosed b t gs → terms_of d gs ≡ terms_of b gs
terms_kept b d t [] e h = refl
terms_kept b d t (g ∷ gs) e h =
    let p = h zero g (omega arith) in
    let env = e.kept g.1.param_env.node p.holds.env.within in
    let predicate = e.kept g.1.predicate.node p.holds.predicate.within in
    let rest = terms_kept b d t gs e (λ k x l. h (suc k) x (omega (arith, l))) in
    λ i. env i ∷ predicate i ∷ rest i

terms_split : (b : List Tree) (xs ys : List (GoalSource × Goal)) (t : Tree) → Among (terms_of b (xs ++ ys)) t → Among (terms_of b xs) t ⊎ Among (terms_of b ys) t
terms_split b [] ys t i = inr i
terms_split b (x ∷ xs) ys t (inl e) = inl (inl e)
terms_split b (x ∷ xs) ys t (inr (inl e)) = inl (inr (inl e))
terms_split b (x ∷ xs) ys t (inr (inr i)) = ⊎_elim (λ j. inl (inr (inr j))) (λ j. inr j) (terms_split b xs ys t i)

asked_pass : (P : Label → Bool) (a b : List Tree) (g : Goal) → Extends a b → HoldsGoal a g → ((x : Tree) → Among (asked_terms a g) x → TreePasses P x) → (x : Tree) → Among (asked_terms b g) x → TreePasses P x
asked_pass P a b g e h m x (inl q) = rw (q, e.kept g.param_env.node h.env.within) (m _ (inl refl))
asked_pass P a b g e h m x (inr (inl q)) = rw (q, e.kept g.predicate.node h.predicate.within) (m _ (inr (inl refl)))
asked_pass P a b g e h m x (inr (inr q)) = absurd q

-- the goals that relating left
goal_among : (ts : List Tree) (gs : List Goal) (p : Tree) → Among (map (λ (h : Goal). tree_at ts h.predicate.node) gs) p → (g : Goal) × Among gs g × (p ≡ tree_at ts g.predicate.node)
goal_among ts [] p i = absurd i
goal_among ts (g ∷ gs) p (inl e) = (g, inl refl, e)
goal_among ts (g ∷ gs) p (inr i) = (let r = goal_among ts gs p i in (r.0, inr r.1, r.2))

sourced_among : (gs : List Goal) (g : Goal) → Among gs g → Among (with_source gs) (source.TypeRelating, g)
sourced_among [] g i = absurd i
sourced_among (x ∷ gs) g (inl e) = inl (ap (λ (z : Goal). (source.TypeRelating, z)) e)
sourced_among (x ∷ gs) g (inr i) = inr (sourced_among gs g i)

equality_among : (ts : List Tree) (gs : List Goal) → All (λ (z : GoalSource × Goal). SaysEqual (tree_at ts z.1.predicate.node)) (with_source gs) → (p : Tree) → Among (map (λ (h : Goal). tree_at ts h.predicate.node) gs) p → SaysEqual p
equality_among ts gs h p i =
    let of = goal_among ts gs p i in
    subst SaysEqual (sym of.2) (all_among (λ (z : GoalSource × Goal). SaysEqual (tree_at ts z.1.predicate.node)) (with_source gs) (source.TypeRelating, of.0) h (sourced_among gs of.0 of.1))

said_each : (ts : List Tree) (gs : List Goal) → ((p : Tree) → Among (map (λ (h : Goal). tree_at ts h.predicate.node) gs) p → SaysEqual p) → All (λ (z : GoalSource × Goal). SaysEqual (tree_at ts z.1.predicate.node)) (with_source gs)
said_each ts [] h = All-nil (λ (z : GoalSource × Goal). SaysEqual (tree_at ts z.1.predicate.node))
said_each ts (g ∷ gs) h = All-cons (λ (z : GoalSource × Goal). SaysEqual (tree_at ts z.1.predicate.node)) (source.TypeRelating, g) (with_source gs) (h (tree_at ts g.predicate.node) (inl refl)) (said_each ts gs (λ p i. h p (inr i)))

closed_each : (ts : List Tree) (c : Content) (env : ParamEnv) → IsClosedEnv (tree_at ts env.node) → (ps : List RelatingNodes) (gs : List Goal) → AreGoalsOfPairs ts c env ps gs → All (λ (z : GoalSource × Goal). IsClosedEnv (tree_at ts z.1.param_env.node)) (with_source gs)
closed_each ts c env k [] [] h = All-nil (λ (z : GoalSource × Goal). IsClosedEnv (tree_at ts z.1.param_env.node))
closed_each ts c env k [] (g ∷ gs) h = absurd h
closed_each ts c env k (p ∷ ps) [] h = absurd h
closed_each ts c env k (p ∷ ps) (g ∷ gs) h = All-cons (λ (z : GoalSource × Goal). IsClosedEnv (tree_at ts z.1.param_env.node)) (source.TypeRelating, g) (with_source gs) (subst (λ (z : ParamEnv). IsClosedEnv (tree_at ts z.node)) (sym h.0.param_env) k) (closed_each ts c env k ps gs h.1)

known_among : (ts : List Tree) (c : Content) (env : ParamEnv) (ps : List RelatingNodes) (gs : List Goal) → AreGoalsOfPairs ts c env ps gs → (p : Tree) → Among (map (λ (h : Goal). tree_at ts h.predicate.node) gs) p → Knows c p
known_among ts c env [] [] h p i = absurd i
known_among ts c env [] (g ∷ gs) h p i = absurd h
known_among ts c env (q ∷ ps) [] h p i = absurd i
known_among ts c env (q ∷ ps) (g ∷ gs) h p (inl e) = subst (Knows c) (sym e) h.0.knows
known_among ts c env (q ∷ ps) (g ∷ gs) h p (inr i) = known_among ts c env ps gs h.1 p i

pub related_hold : {a b : Cx} {t u : Table} {g : Goal} {vs : List NodeId} {qs : List EquationData} {gs : List (GoalSource × Goal)} → RelatesEquations a b t u g vs qs gs → IsPosed b.nodes u g → All (λ (z : GoalSource × Goal). HoldsGoal b.nodes z.1) gs
related_hold {b = b} {u = u} {g = g} {gs = gs} relates there =
    let r = relates.related in
    let posed : ArePosed b.nodes u gs = subst (ArePosed b.nodes u) (sym relates.are) (posed_each b.nodes u g.param_env r.pairs relates.goals there.table there.holds.env there.knows.env r.goals) in
    All-weaker (λ (z : GoalSource × Goal). IsPosed b.nodes u z.1) (λ (z : GoalSource × Goal). HoldsGoal b.nodes z.1) (λ z p. p.holds) gs posed

-- what no world meets of the plain part
pub plain_unmet : {a : List Tree} {c : Content} (g : Goal) (x y : CandidateData) → IsPlainPart a g x y → (IsCandidateMet c (candidate_of a y) → ⊥) → IsCandidateMet c (plain_part (candidate_of a x)) → ⊥
plain_unmet {a} {c} g x y part none met =
    let equations = ap (map (equation_of a)) part.equations ∙ map_plain a x.equations.items in
    none (rw (part.fresh, equations) met)

-- the plain part was begun: its equations were made equal in the store e, and its constraints recorded in the store at
module _ {a e at : Cx} {t v held : Table} (g : Goal) (x y : CandidateData) (values : List NodeId)
    (posed : IsPosed a.nodes t g) (candidate : IsCandidate a.nodes g x) (part : IsPlainPart a.nodes g x y) (first : Runs a e t v) (second : Runs e at v held)
    (known : AreValues e.nodes v y.fresh.items values)
    (equated : EquatesCandidate a.nodes e.nodes t v y.fresh.items values y.equations.items)
    (adds : AddsAll (map (tree_at e.nodes) values) (map (constraint_of e.nodes) x.region_constraints.items) (content_of e.nodes v.entries) (content_of at.nodes held.entries)) where
  abbrev trees : List Tree
  trees = map (tree_at at.nodes) values

  abbrev earlier : List Tree
  earlier = map (tree_at e.nodes) values

  kept : trees ≡ earlier
  kept = map-kept e.nodes at.nodes values known.within second.goes.extends

  to_held : Extends a.nodes at.nodes
  to_held = Extends-trans first.goes.extends second.goes.extends

  abbrev before : Content
  before = content_of at.nodes held.entries

  pub values_known : AreValues at.nodes held x.fresh.items values
  values_known = AreValues-later second.goes (subst (λ s. AreValues e.nodes v s values) part.fresh known)

  plain_data_is : map (equation_of a.nodes) y.equations.items ≡ plain_equations (map (equation_of a.nodes) x.equations.items)
  plain_data_is = ap (map (equation_of a.nodes)) part.equations ∙ map_plain a.nodes x.equations.items

  pub plain_begun : IsBegun (content_of a.nodes t.entries) (plain_part (candidate_of a.nodes x)) trees before
  plain_begun =
      let freshens = subst (λ s. Freshens t.entries.universe s earlier (content_of a.nodes t.entries) equated.made) part.fresh equated.freshens in
      let equates = subst (λ qs. EquatesAll earlier qs equated.made (content_of e.nodes v.entries)) plain_data_is equated.equates in
      let constraints = constraints-kept a.nodes e.nodes x.fresh.items g x.region_constraints.items first.goes.extends candidate.constraints in
      let recorded = subst (λ xs. AddsAll earlier xs (content_of e.nodes v.entries) before) constraints adds in
      subst (λ vs. IsBegun (content_of a.nodes t.entries) (plain_part (candidate_of a.nodes x)) vs before) (sym kept)
      (record { made = equated.made; equal = content_of e.nodes v.entries; freshens = freshens; equates = equates; adds = recorded })

  -- the equations that are related, as they are read in the store `at`
  abbrev aliased : List EquationData
  aliased = aliased_data a.nodes x.equations.items

  their_equations : AreEquations a.nodes x.fresh.items g aliased
  their_equations = aliased_are a.nodes x.fresh.items g x.equations.items candidate.equations

  pub equations_there : AreEquations at.nodes x.fresh.items g aliased
  equations_there = grown_equations x.fresh.items g aliased to_held posed.holds their_equations

  pub fits_there : AllFit any_argument (trees_at at.nodes (map right_node aliased))
  fits_there = subst (AllFit any_argument) (sym (trees_at-extended to_held (map right_node aliased) (right_in a.nodes x.fresh.items g aliased their_equations))) (aliased_fit a.nodes x.equations.items)

  same_pairs : pairs_with trees (map (equation_of at.nodes) aliased) ≡ pairs_with trees (aliased_equations (map (equation_of a.nodes) x.equations.items))
  same_pairs = ap (pairs_with trees) (same_equations a.nodes at.nodes x.fresh.items g aliased to_held their_equations ∙ map_aliased a.nodes x.equations.items)

  pub is_unrelated : (HasPlainEquations (candidate_of a.nodes x) → ⊥) → Refuses (variances_in at.declarations) before (pairs_with trees (map (equation_of at.nodes) aliased)) → IsUnrelated (variances_in a.declarations) (content_of a.nodes t.entries) (candidate_of a.nodes x)
  is_unrelated some refused =
      let same = KeepsRest-trans first.rest second.rest in
      let declared : variances_in at.declarations ≡ variances_in a.declarations = ap variances_in same.declarations in
      record {
        some = some;
        values = trees;
        before = before;
        begun = plain_begun;
        refused = subst (λ d. Refuses d before (pairs_with trees (aliased_equations (map (equation_of a.nodes) x.equations.items)))) declared (subst (Refuses (variances_in at.declarations) before) same_pairs refused);
      }

  -- .. and then the others were related, in the store f, and its goals are of the store b
  module _ {f b : Cx} {u : Table} (related own : List (GoalSource × Goal)) (some : HasPlainEquations (candidate_of a.nodes x) → ⊥)
      (third : Runs at f held u) (fourth : Grows f b)
      (equal : EquatesEach a.nodes e.nodes v values y.equations.items)
      (brings : BringsOnly (asked_terms a.nodes g) (content_of a.nodes t.entries) (content_of e.nodes v.entries))
      (constrains : Constrains a.nodes at.nodes held values x.region_constraints.items)
      (records : BringsOnly (asked_terms e.nodes g) (content_of e.nodes v.entries) (content_of at.nodes held.entries))
      (relates : RelatesEquations at f held u g values (aliased_data a.nodes x.equations.items) related)
      (added : AreAdded f.nodes b.nodes u g values x.goals.items own)
      (flag : Bool) (says : flag ≡ true → All (λ (z : GoalSource × Goal). SaysEqual (tree_at f.nodes z.1.predicate.node)) related)
      (never : flag ≡ false → All (λ (z : GoalSource × Goal). IsClosedEnv (tree_at f.nodes z.1.param_env.node)) related → All (λ (z : GoalSource × Goal). SaysEqual (tree_at f.nodes z.1.predicate.node)) related → ⊥) where
    abbrev env : Tree
    env = tree_at a.nodes g.param_env.node

    to_related : Extends a.nodes f.nodes
    to_related = Extends-trans to_held third.goes.extends

    abbrev met : Content
    met = content_of f.nodes u.entries

    met_is : content_of b.nodes u.entries ≡ met
    met_is = content_of-extended fourth.extends third.goes.table.now

    there : IsPosed f.nodes u g
    there = IsPosed-later third.goes (IsPosed-later second.goes (IsPosed-later first.goes posed))

    env_kept : tree_at f.nodes g.param_env.node ≡ env
    env_kept = to_related.kept g.param_env.node posed.holds.env.within

    abbrev goals : List Tree
    goals = map (λ (h : Goal). tree_at f.nodes h.predicate.node) relates.goals

    abbrev pairs : List Pair
    pairs = (let r = relates.related in pairs_at f.nodes r.pairs)

    related_posed : ArePosed f.nodes u related
    related_posed =
        let r = relates.related in
        subst (ArePosed f.nodes u) (sym relates.are) (posed_each f.nodes u g.param_env r.pairs relates.goals third.goes.table there.holds.env there.knows.env r.goals)

    related_goals : goals_at b.nodes related ≡ map (relating env) goals
    related_goals =
        let r = relates.related in
        goals_kept f.nodes b.nodes u related fourth.extends related_posed ∙ ap (goals_at f.nodes) relates.are ∙ premises_each f.nodes met g.param_env env env_kept r.pairs relates.goals r.goals

    own_goals : goals_at b.nodes own ≡ goals_with trees (map (premise_of a.nodes) x.goals.items)
    own_goals =
        added.goals
        ∙ added_is at.nodes g x.fresh.items values x.goals.items to_related candidate.goals (map-kept at.nodes f.nodes values (AllIn-kept e.nodes at.nodes values known.within second.goes.extends) third.goes.extends)

    left_posed : ArePosed b.nodes u (related ++ own)
    left_posed = All-append (λ z. IsPosed b.nodes u z.1) related own (posed_kept f.nodes b.nodes u related fourth.extends related_posed) added.posed

    was_begun : IsBegunByRelating (variances_in a.declarations) (content_of a.nodes t.entries) env (candidate_of a.nodes x) (content_of b.nodes u.entries) (goals_at b.nodes (related ++ own))
    was_begun =
        let r = relates.related in
        let s = r.related in
        let k = s.takes in
        let rest = KeepsRest-trans first.rest second.rest in
        let declared : variances_in at.declarations ≡ variances_in a.declarations = ap variances_in rest.declarations in
        let both : related_pairs variance.Invariant (left_list at.nodes values aliased) (right_list at.nodes values aliased) ≡ pairs_with trees (aliased_equations (map (equation_of a.nodes) x.equations.items)) = lists_pair at.nodes values aliased ∙ same_pairs in
        let leaves : LeavesGoals (variances_in at.declarations) before met (related_pairs variance.Invariant (left_list at.nodes values aliased) (right_list at.nodes values aliased)) pairs = record { relates = k.relates; leaves = k.leaves } in
        record {
          some = some;
          values = trees;
          before = before;
          begun = plain_begun;
          pairs = pairs;
          related = subst (λ c. LeavesGoals (variances_in a.declarations) before c (pairs_with trees (aliased_equations (map (equation_of a.nodes) x.equations.items))) pairs) (sym met_is)
              (subst (λ d. LeavesGoals d before met (pairs_with trees (aliased_equations (map (equation_of a.nodes) x.equations.items))) pairs) declared
              (subst (λ ps. LeavesGoals (variances_in at.declarations) before met ps pairs) both leaves));
          goals = goals;
          of_pairs = goals_of_pairs f.nodes met g.param_env r.pairs relates.goals r.goals;
          premises = map-append (premise_at b.nodes) related own ∙ (λ i. related_goals i ++ own_goals i);
        }

    they_are_equalities : flag ≡ true → AreEqualities (content_of b.nodes u.entries) goals
    they_are_equalities e =
        let r = relates.related in
        let each = subst (All (λ (z : GoalSource × Goal). SaysEqual (tree_at f.nodes z.1.predicate.node))) relates.are (says e) in
        record {
          equal = λ p i. equality_among f.nodes relates.goals each p i;
          knows = λ p i. subst (λ z. Knows z p) (sym met_is) (known_among f.nodes met g.param_env r.pairs relates.goals r.goals p i);
        }

    they_are_others : flag ≡ false → IsClosedEnv env → AreEqualities (content_of b.nodes u.entries) goals → ⊥
    they_are_others e closed they =
        let r = relates.related in
        never e
        (subst (All (λ (z : GoalSource × Goal). IsClosedEnv (tree_at f.nodes z.1.param_env.node))) (sym relates.are) (closed_each f.nodes met g.param_env (subst IsClosedEnv (sym env_kept) closed) r.pairs relates.goals r.goals))
        (subst (All (λ (z : GoalSource × Goal). SaysEqual (tree_at f.nodes z.1.predicate.node))) (sym relates.are) (said_each f.nodes relates.goals they.equal))

    left_labels : {d : Content} → BringsOnly (terms_of b.nodes (related ++ own)) (content_of b.nodes u.entries) d → BringsOnly (asked_terms a.nodes g) (content_of a.nodes t.entries) d
    left_labels h =
        record {
          labels = λ P q m k.
              (let r = relates.related in
              let s = r.related in
              let takes = s.takes in
              let in_e = asked_pass P a.nodes e.nodes g first.goes.extends posed.holds m in
              let in_at = asked_pass P a.nodes at.nodes g to_held posed.holds m in
              let in_f = asked_pass P a.nodes f.nodes g to_related posed.holds m in
              let now = records.labels P q in_e (brings.labels P q m k) in
              let pass = takes.passes P (query_rows P q) now (sides_pass g values_known P q in_at aliased equations_there) in
              let in_env : TreePasses P (tree_at f.nodes g.param_env.node) = in_f _ (inl refl) in
              let of_related : (z : Tree) → Among (terms_of b.nodes related) z → TreePasses P z =
              λ z i. labels_each f.nodes met g.param_env P q in_env r.pairs relates.goals r.goals pass.2 z
              (subst (λ gs. Among (terms_of f.nodes gs) z) relates.are (subst (λ ts. Among ts z) (terms_kept f.nodes b.nodes u related fourth.extends related_posed) i)) in
              let all : (z : Tree) → Among (terms_of b.nodes (related ++ own)) z → TreePasses P z =
              λ z i. ⊎_elim (of_related z) (added.labels P q in_f z) (terms_split b.nodes related own z i) in
              h.labels P q all (subst (TablePasses P) (sym met_is) pass.0));
        }

    ran_by : RunsByRelating a b t u g x (related ++ own)
    ran_by =
        record {
          values = values;
          at = at;
          related_in = f;
          held = held;
          before = Runs-trans first second;
          during = third;
          after = fourth;
          known = values_known;
          equal = Equates-later a.nodes values (plain_data a.nodes x.equations.items) second.goes known.within (subst (EquatesEach a.nodes e.nodes v values) part.equations equal);
          constrains = constrains;
          related = related;
          own = own;
          relates = relates;
          goals = own_goals;
          own_posed = added.posed;
          are = refl;
        }

    pub begun_by : BeginsByRelating a b t u g x (related ++ own) flag
    unfolding was_begun
    begun_by =
        record {
          posed = left_posed;
          begun = was_begun;
          labels = left_labels;
          runs = ran_by;
          continues = subst (Continues before) (sym met_is) third.goes.continues;
          equalities = they_are_equalities;
          others = they_are_others;
        }
