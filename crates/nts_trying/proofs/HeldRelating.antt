-- A candidate that was begun by relating holds where all goals that are left are proved.
use Rattle.std.proofs.Common.{◌≡◌, ◌⊎◌, inl, inr, ⊎_elim, Bool, true, false, List, [], ◌∷◌, ◌++◌, map, refl, sym, ap, ◌∙◌, subst}
use Rattle.std.specs.Prelude.{if◌then◌else◌}
use Rattle.nts_model.specs.declared.labels.Variance.{Variance}
use Rattle.nts_model.specs.declared.labels.Variance.TheVariants as variance
use Rattle.nts_model.specs.declared.labels.PredicateHead.{PredicateHead}
use Rattle.nts_model.specs.Lists.{Among}
use Rattle.nts_model.specs.Terms.Trees.{Tree, IsFormed}
use Rattle.nts_model.specs.Terms.Substitutions.{filled}
use Rattle.nts_model.specs.Tables.Contents.{Content}
use Rattle.nts_model.specs.Tables.Resolving.{Knows, deeply_resolved}
use Rattle.nts_model.proofs.Tables.Held.{Continues-refl}
use Rattle.nts_model.specs.Derivations.Related.{directed}
use Rattle.nts_model.specs.Derivations.Sequents.{Premise, type_relating, inductive}
use Rattle.nts_model.specs.Derivations.Handlers.{certain, premise_by}
use Rattle.nts_model.specs.Derivations.Rules.{Meaning, Mode, GoalKind, Equation, related, alike, goal_kind, step_kind, statement_of}
use Rattle.nts_model.specs.Derivations.Proofs.{Assumed, passed}
use Rattle.nts_model.specs.Derivations.Proving.{IsTermOf}
use Rattle.nts_model.specs.Searching.Stacks.{IsProvedFrom, IsProvedFromAt}
use Rattle.nts_model.specs.Refutation.Choosing.{left_of, right_of}
use Rattle.nts_variance_model.specs.Variances.Relations.{Relating as Pair}
use Rattle.nts_variance_model.specs.Variances.AnsweredGoals.{RelatedUnder, AllRelatedUnder}
use Rattle.nts_theory.specs.Posing.{TakesValues}
use Rattle.nts_theory.specs.RelatingCandidates.{HasPlainEquations, relates_aliases, aliased_equations, plain_equations, pairs_with, HoldsEquationFrom, IsProvedPut, goals_with}
use Rattle.nts_theory.proofs.Refutation.PlainParts.{plain_or_aliased}
use Rattle.nts_store.specs.Formed.{AreFormed}
use Rattle.nts_store.specs.Growth.{tree_at, trees_at}
use Rattle.nts_store.specs.Kept.{map-kept}
use Rattle.nts_store.proofs.Growing.{Extends-trans, IsIn-extended}
use Rattle.nts_certainty.specs.declared.sources.GoalSource.{GoalSource}
use Rattle.nts_certainty.specs.declared.sources.GoalSource.TheVariants as source
use Rattle.nts_terms.specs.declared.cx.Cx.{Cx}
use Rattle.nts_terms.specs.declared.handles.Goal.{Goal}
use Rattle.nts_terms.specs.declared.handles.ParamEnv.{ParamEnv}
use Rattle.nts_terms.specs.Signatures.{variances_in}
use Rattle.nts_unify.specs.Reading.{content_of}
use Rattle.nts_table.specs.Tables.{Table}
use Rattle.nts_candidates.specs.declared.data.Equation.{Equation as EquationData}
use Rattle.nts_candidates.specs.declared.data.CandidateData.{CandidateData}
use Rattle.nts_candidates.specs.Offered.{equation_of, constraint_of, premise_of, candidate_of}
use Rattle.nts_delegate.specs.Candidates.{IsCandidate, AreEquations}
use Rattle.nts_variance.specs.declared.along.Relating.{Relating}
use Rattle.nts_variance.specs.Goals.{goal_head}
use Rattle.nts_variance.specs.Terms.{pair_at}
use Rattle.nts_solver_relating.specs.Sides.{AreGoalsOfPairs}
use Rattle.nts_response.specs.Forms.{premise_at}
use Rattle.nts_meaning.specs.Evaluation.{Goes, IsPosed, AllKnown, goals_at}
use Rattle.nts_meaning.specs.Meant.{HoldsSurely}
use Rattle.nts_meaning.specs.Running.{EachStays, Stays, EquationHolds, ConstraintHolds}
use Rattle.nts_meaning.proofs.Evaluating.{Goes-trans, Goes-extends, IsPosed-later, Knows-goes}
use Rattle.nts_meaning.proofs.Running.{Equates-later, Constrains-later, term_table}
use Rattle.nts_trying.specs.Subtyping.{with_source}
use Rattle.nts_trying.specs.Relating.{aliased_data, plain_data, left_node, right_node, left_list, right_list, RunsByRelating, BeginsByRelating}
use Rattle.nts_trying.specs.Asking.{IsProvedAsked}
use Rattle.nts_trying.proofs.Adding.{goals_kept}
use Rattle.nts_trying.proofs.AnsweredTypes.{pairs_answered}
use Rattle.nts_trying.proofs.RelatedAliases.{map_aliased, map_plain, aliased_are, lists_pair, lefts_known, rights_known, grown_equations, same_equations}
use Rattle.nts_trying.proofs.RelatedTypes.{predicates, each_goal}
use Rattle.nts_trying.proofs.SubtypeGoals.{among_image as image_of}
use Rattle.nts_trying.proofs.Trying.{left_is, right_is}

-- one of those that stay; one of the values
each_now : {A : Type 0} (c : Content) (P : A → Content → Type 0) (xs : List A) (x : A) → EachStays c P xs → Among xs x → Stays c (P x)
each_now c P [] x h i = absurd i
each_now c P (y ∷ xs) x h (inl e) = subst (λ z. Stays c (P z)) (sym e) h.0
each_now c P (y ∷ xs) x h (inr i) = each_now c P xs x h.1 i

value_known : (c : Content) (vs : List Tree) (v : Tree) → AllKnown c vs → Among vs v → Knows c v
value_known c [] v h i = absurd i
value_known c (x ∷ xs) v h (inl e) = rw e h.0
value_known c (x ∷ xs) v h (inr i) = value_known c xs v h.1 i

among_left : {X : Type 0} (xs ys : List X) (x : X) → Among xs x → Among (xs ++ ys) x
among_left [] ys x i = absurd i
among_left (y ∷ xs) ys x (inl e) = inl e
among_left (y ∷ xs) ys x (inr i) = inr (among_left xs ys x i)

among_right : {X : Type 0} (xs ys : List X) (x : X) → Among ys x → Among (xs ++ ys) x
among_right [] ys x i = i
among_right (y ∷ xs) ys x i = inr (among_right xs ys x i)

sourced : (gs : List Goal) (g : Goal) → Among gs g → Among (with_source gs) (source.TypeRelating, g)
sourced [] g i = absurd i
sourced (x ∷ gs) g (inl e) = inl (ap (λ (z : Goal). (let s : GoalSource × Goal = (source.TypeRelating, z) in s)) e)
sourced (x ∷ gs) g (inr i) = inr (sourced gs g i)

step_of_relating : (k : GoalKind) → step_kind k type_relating ≡ inductive
step_of_relating k = refl

aliased_is : (qs : List Equation) (q : Equation) → Among (aliased_equations qs) q → relates_aliases q ≡ true
aliased_is [] q i = absurd i
aliased_is (x ∷ qs) q i = by_test (relates_aliases x) refl (aliased_is qs q) i
  where
    by_test : (b : Bool) → relates_aliases x ≡ b → (Among (aliased_equations qs) q → relates_aliases q ≡ true) → Among (if b then x ∷ aliased_equations qs else aliased_equations qs) q → relates_aliases q ≡ true
    by_test true e rest (inl s) = subst (λ z. relates_aliases z ≡ true) (sym s) e
    by_test true e rest (inr j) = rest j
    by_test false e rest j = rest j

-- the sides of each equation, where the lists of them are known and formed, and its pair was related
record IsRelatedPair (declared : _) (c : Content) (ks : List Tree) (vs : List Tree) (q : Equation) : Type 0 where
  pub left : IsTermOf c (filled vs (left_of q))
  pub right : IsTermOf c (filled vs (right_of q))
  pub related : RelatedUnder declared c ks variance.Invariant (filled vs (left_of q)) (filled vs (right_of q))

each_pair : (declared : _) (c : Content) (ks vs ts : List Tree) (qs : List EquationData) → Knows c (filled vs (trees_at ts (map left_node qs))) → Knows c (filled vs (trees_at ts (map right_node qs))) → IsFormed (filled vs (trees_at ts (map left_node qs))) → IsFormed (filled vs (trees_at ts (map right_node qs)))
    → AllRelatedUnder declared c ks (pairs_with vs (map (equation_of ts) qs)) → (q : Equation) → Among (map (equation_of ts) qs) q → IsRelatedPair declared c ks vs q
each_pair declared c ks vs ts [] kl kr fl fr h q i = absurd i
each_pair declared c ks vs ts (x ∷ qs) kl kr fl fr h q (inl e) =
    let l = left_is x.kind (tree_at ts x.lhs.node) (tree_at ts x.rhs.node) in
    let r = right_is x.kind (tree_at ts x.lhs.node) (tree_at ts x.rhs.node) in
    let left : IsTermOf c (filled vs (tree_at ts x.lhs.node)) = record { knows = kl.0; formed = fl.0 } in
    let right : IsTermOf c (filled vs (tree_at ts x.rhs.node)) = record { knows = kr.0; formed = fr.0 } in
    subst (IsRelatedPair declared c ks vs) (sym e) (record { left = subst (λ z. IsTermOf c (filled vs z)) (sym l) left; right = subst (λ z. IsTermOf c (filled vs z)) (sym r) right; related = h.0 })
each_pair declared c ks vs ts (x ∷ qs) kl kr fl fr h q (inr i) = each_pair declared c ks vs ts qs kl.1 kr.1 fl.1 fr.1 h.1 q i

-- in a goal of relating no value takes the place of an alias
relation_takes : (h : PredicateHead) (v : Variance) (a b : Tree) → TakesValues (statement_of (directed h v a b)) → ⊥
relation_takes h variance.Invariant a b t = t
relation_takes h variance.Covariant a b t = t
relation_takes h variance.Contravariant a b t = t

no_values : (us : List Tree) (c : Content) (env : ParamEnv) (ps : List Relating) (gs : List Goal) → AreGoalsOfPairs us c env ps gs → (g : Goal) → Among gs g → TakesValues (statement_of (tree_at us g.predicate.node)) → ⊥
no_values us c env [] [] h g i t = absurd i
no_values us c env [] (x ∷ gs) h g i t = absurd h
no_values us c env (p ∷ ps) [] h g i t = absurd i
no_values us c env (p ∷ ps) (x ∷ gs) h g (inl e) t =
    let y = h.0 in
    let pair : Pair = pair_at us p in
    relation_takes (goal_head pair) pair.variance pair.left pair.right (subst (λ z. TakesValues (statement_of z)) (ap (λ (o : Goal). tree_at us o.predicate.node) e ∙ y.tree) t)
no_values us c env (p ∷ ps) (x ∷ gs) h g (inr i) t = no_values us c env ps gs h.1 g i t

among_image : {X Y : Type 0} (f : X → Y) (xs : List X) (x : X) → Among xs x → Among (map f xs) (f x)
among_image f [] x i = absurd i
among_image f (y ∷ xs) x (inl e) = inl (ap f e)
among_image f (y ∷ xs) x (inr i) = inr (among_image f xs x i)

later_goals : (ts : List Tree) (xs ys : List (GoalSource × Goal)) (p : Premise) → Among (goals_at ts ys) p → Among (goals_at ts (xs ++ ys)) p
later_goals ts [] ys p i = i
later_goals ts (x ∷ xs) ys p i = inr (later_goals ts xs ys p i)

-- a goal of a candidate, with its values
pub asked_at : (m : Meaning) (mode : Mode) (A : List Assumed) (c : Content) (k : GoalKind) (vs : List Tree) (q : Premise) → IsProvedAsked m mode A c k (premise_by (filled vs) q)
    → IsProvedFromAt m mode (passed (step_kind k q.source) A) c vs q ⊎ IsProvedPut m mode A c k (premise_by (filled vs) q)
asked_at m mode A c k vs q (inl x) = inl (record { environment = x.0; predicate = x.1; proved = x.2 })
asked_at m mode A c k vs q (inr x) = inr x

-- where all goals that are left are proved
module _ (m : Meaning) (mode : Mode) (A : List Assumed) {a b : Cx} {t u : Table} (g : Goal) (x : CandidateData) (left : List (GoalSource × Goal)) (equal : Bool) (z : List Tree) (w : Table) (posed : IsPosed a.nodes t g) (candidate : IsCandidate a.nodes g x) (some : HasPlainEquations (candidate_of a.nodes x) → ⊥)
    (begun : BeginsByRelating a b t u g x left equal) (variances : m.variances ≡ variances_in a.declarations) (goes : Goes b.nodes z u w) (formed : AreFormed z)
    (proved : (p : Premise) → Among (goals_at z left) p → IsProvedAsked m mode A (content_of z w.entries) (goal_kind m (tree_at a.nodes g.predicate.node)) p) where
  abbrev ran : RunsByRelating a b t u g x left
  ran = begun.runs

  abbrev c : Content
  c = content_of z w.entries

  abbrev vs : List Tree
  vs = (let r = begun.runs in let at = r.at in map (tree_at at.nodes) r.values)

  abbrev env : Tree
  env = tree_at a.nodes g.param_env.node

  abbrev says : Tree
  says = tree_at a.nodes g.predicate.node

  abbrev kind : GoalKind
  kind = goal_kind m says

  abbrev aliased : List EquationData
  aliased = aliased_data a.nodes x.equations.items

  since_related : (let r = begun.runs in let f = r.related_in in Goes f.nodes z u w)
  since_related = (let r = begun.runs in let f = r.after in Goes-trans (Goes-extends (let d = r.during in d.goes.table) f.extends) goes)

  since_held : (let r = begun.runs in let at = r.at in Goes at.nodes z r.held w)
  since_held = (let r = begun.runs in Goes-trans (let d = r.during in d.goes) since_related)

  same_values : (let r = begun.runs in map (tree_at z) r.values ≡ vs)
  same_values = (let r = begun.runs in let at = r.at in let k = r.known in map-kept at.nodes z r.values k.within (let s = since_held in s.extends))

  held_posed : (let r = begun.runs in let at = r.at in IsPosed at.nodes r.held g)
  held_posed = (let r = begun.runs in let d = r.before in IsPosed-later d.goes posed)

  formed_related : (let r = begun.runs in let f = r.related_in in AreFormed f.nodes)
  formed_related = (let s = since_related in λ k i. subst IsFormed (s.extends.kept k i) (formed k (IsIn-extended s.extends k i)))

  abbrev goals : List Tree
  goals = (let r = begun.runs in let f = r.related_in in let l = r.relates in predicates f.nodes l.goals)

  their_equations : (let r = begun.runs in let at = r.at in AreEquations at.nodes x.fresh.items g aliased)
  their_equations =
      let r = begun.runs in
      let d = r.before in
      grown_equations x.fresh.items g aliased d.goes.extends posed.holds (aliased_are a.nodes x.fresh.items g x.equations.items candidate.equations)

  related_pairs_hold : (let r = begun.runs in let at = r.at in AllRelatedUnder m.variances c (map (deeply_resolved c) goals) (pairs_with vs (map (equation_of at.nodes) aliased)))
  related_pairs_hold =
      let r = begun.runs in
      let at = r.at in
      let f = r.related_in in
      let l = r.relates in
      let by = l.related in
      let s = by.related in
      let takes = s.takes in
      let relates = takes.relates in
      let table = term_table formed goes.table in
      let on = (let k = since_related in k.continues) in
      let ks = map (deeply_resolved c) goals in
      let d = r.before in
      let rest = d.rest in
      let declared : variances_in at.declarations ≡ m.variances = ap variances_in rest.declarations ∙ sym variances in
      let all = relates.related c table.sound on ks (pairs_answered c table.sound table.values ks f.nodes (content_of f.nodes u.entries) g.param_env formed_related on by.pairs l.goals s.known s.are_goals by.goals (λ y i. i)) tt in
      subst (λ v. AllRelatedUnder v c ks (pairs_with vs (map (equation_of at.nodes) aliased))) declared
      (subst (λ ps. AllRelatedUnder (variances_in at.declarations) c ks ps) (lists_pair at.nodes r.values aliased) all)

  each_aliased : (q : Equation) → Among (aliased_equations (map (equation_of a.nodes) x.equations.items)) q → IsRelatedPair m.variances c (map (deeply_resolved c) goals) vs q
  each_aliased q i =
      let r = begun.runs in
      let at = r.at in
      let l = r.relates in
      let d = r.before in
      let read : map (equation_of at.nodes) aliased ≡ aliased_equations (map (equation_of a.nodes) x.equations.items) = same_equations a.nodes at.nodes x.fresh.items g aliased d.goes.extends (aliased_are a.nodes x.fresh.items g x.equations.items candidate.equations) ∙ map_aliased a.nodes x.equations.items in
      let kl = lefts_known held_posed r.known aliased their_equations in
      let kr = rights_known held_posed r.known aliased their_equations in
      let hl : Knows c (left_list at.nodes r.values aliased) = Knows-goes (left_list at.nodes r.values aliased) since_held kl in
      let hr : Knows c (right_list at.nodes r.values aliased) = Knows-goes (right_list at.nodes r.values aliased) since_held kr in
      each_pair m.variances c (map (deeply_resolved c) goals) vs at.nodes aliased hl.1 hr.1 (let y = l.formed_left in y.1) (let y = l.formed_right in y.1) related_pairs_hold q (subst (λ qs. Among qs q) (sym read) i)

  each_proved : (y : Tree) → Among goals y → IsTermOf c y × IsProvedFrom m mode (passed inductive A) c env y
  each_proved y i =
      let r = begun.runs in
      let f = r.related_in in
      let l = r.relates in
      let by = l.related in
      let q = image_of (λ (o : Goal). tree_at f.nodes o.predicate.node) l.goals y i in
      let one = each_goal f.nodes (content_of f.nodes u.entries) g.param_env by.pairs l.goals by.goals q.0 q.1 in
      let holds = one.1 in
      let since = since_related in
      let table = term_table formed goes.table in
      let same : tree_at z q.0.predicate.node ≡ y = since.extends.kept q.0.predicate.node holds.within ∙ sym q.2 in
      let here = (let d = r.before in let at = r.at in Extends-trans d.goes.extends (let k = since_held in k.extends)) in
      let env_same : tree_at z q.0.param_env.node ≡ env = ap (λ (e : ParamEnv). tree_at z e.node) one.0 ∙ here.kept g.param_env.node posed.holds.env.within in
      let there : Among left (source.TypeRelating, q.0) = subst (λ xs. Among xs (source.TypeRelating, q.0)) (sym r.are) (among_left r.related r.own (source.TypeRelating, q.0) (subst (λ xs. Among xs (source.TypeRelating, q.0)) (sym l.are) (sourced l.goals q.0 q.1))) in
      let asked : Premise = premise_at z (source.TypeRelating, q.0) in
      let says : tree_at z q.0.predicate.node ≡ tree_at f.nodes q.0.predicate.node = since.extends.kept q.0.predicate.node holds.within in
      let known : IsTermOf c y = rw q.2 (record { knows = Knows-goes (tree_at f.nodes q.0.predicate.node) since one.2; formed = formed_related q.0.predicate.node holds.within }) in
      elim (proved asked (among_image (premise_at z) left (source.TypeRelating, q.0) there)) [
        | inl x ↦ (known, rw (env_same, same) at x.2)
        | inr x ↦ absurd (no_values f.nodes (content_of f.nodes u.entries) g.param_env by.pairs l.goals by.goals q.0 q.1 (subst (λ t. TakesValues (statement_of t)) says x.says))
      ]

  plain_holds : (q : Equation) → EquationHolds vs q c → HoldsEquationFrom m mode A c env vs q
  plain_holds (related s o) h = inl h
  plain_holds (alike s o) h = h

  aliased_holds : (q : Equation) → relates_aliases q ≡ true → IsRelatedPair m.variances c (map (deeply_resolved c) goals) vs q → HoldsEquationFrom m mode A c env vs q
  aliased_holds (related s o) e p = inr (record { left = p.left; right = p.right; goals = goals; proved = each_proved; related = p.related })
  aliased_holds (alike s o) e p = absurd (cc e)

  pub relating_holds : (let y = candidate_of a.nodes x in y.certainty ≡ certain) → HoldsSurely m mode A c env says (candidate_of a.nodes x)
  relating_holds sure =
      let r = begun.runs in
      let at = r.at in
      let k = r.known in
      let table = term_table formed goes.table in
      let still = Continues-refl c table.sound in
      let qs = map (equation_of a.nodes) x.equations.items in
      let plain : EachStays c (EquationHolds vs) (plain_equations qs) =
      subst (λ ps. EachStays c (EquationHolds vs) ps) (map_plain a.nodes x.equations.items)
      (subst (λ ws. EachStays c (EquationHolds ws) (map (equation_of a.nodes) (plain_data a.nodes x.equations.items))) same_values (Equates-later a.nodes r.values (plain_data a.nodes x.equations.items) since_held k.within r.equal)) in
      let constraints : EachStays c (ConstraintHolds vs) (map (constraint_of a.nodes) x.region_constraints.items) =
      subst (λ ws. EachStays c (ConstraintHolds ws) (map (constraint_of a.nodes) x.region_constraints.items)) same_values (Constrains-later a.nodes r.values x.region_constraints.items since_held k.within r.constrains) in
      let own_goals : goals_at z r.own ≡ goals_with vs (map (premise_of a.nodes) x.goals.items) = goals_kept b.nodes z u r.own goes.extends r.own_posed ∙ r.goals in
      let among_all : (p : Premise) → Among (goals_at z r.own) p → Among (goals_at z left) p = λ p i. subst (λ xs. Among (goals_at z xs) p) (sym r.are) (later_goals z r.related r.own p i) in
      record {
        sure = sure;
        holds = inr (
          inl some,
          record {
            chosen = vs;
            values = k.values;
            known = λ v i. Knows-goes v since_held (value_known (content_of at.nodes (let s = begun.runs in let h = s.held in h.entries)) vs v k.known i);
            equations = λ q i. ⊎_elim (λ j. (let s = each_now c (EquationHolds vs) (plain_equations qs) q plain j in plain_holds q (s.later c table still))) (λ j. aliased_holds q (aliased_is qs q j) (each_aliased q j)) (plain_or_aliased qs q i);
            constraints = λ y i. (let s = each_now c (ConstraintHolds vs) (map (constraint_of a.nodes) x.region_constraints.items) y constraints i in s.later c table still);
            goals = λ q i. asked_at m mode A c kind vs q (proved (premise_by (filled vs) q) (among_all (premise_by (filled vs) q) (subst (λ xs. Among xs (premise_by (filled vs) q)) (sym own_goals) (among_image (premise_by (filled vs)) (map (premise_of a.nodes) x.goals.items) q i))));
          },
        );
      }
