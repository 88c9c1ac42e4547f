-- Two types that were related: how the table went on, which labels it has, and what is left.
use Rattle.std.proofs.Common.{◌≡◌, ◌⊎◌, inl, inr, ℕ, Bool, true, false, List, [], ◌∷◌, map, Some, refl, sym, ap, ◌∙◌, subst}
use Rattle.std.specs.Prelude.{cond}
use Rattle.std.proofs.lemmas.List.Elements.{All-nil, All-cons}
use Rattle.nts_model.specs.declared.labels.Sort.TheVariants as sort
use Rattle.nts_model.specs.declared.labels.Variance.{Variance}
use Rattle.nts_model.specs.declared.labels.Variance.TheVariants as variance
use Rattle.nts_model.specs.declared.labels.PredicateHead.{PredicateHead}
use Rattle.nts_model.specs.declared.labels.PredicateHead.TheVariants as predicate
use Rattle.nts_model.specs.declared.labels.ListHead.TheVariants as list
use Rattle.nts_model.specs.declared.labels.Label.{Label}
use Rattle.nts_model.specs.declared.labels.Label.TheVariants as label
use Rattle.nts_model.specs.Terms.Trees.{Tree, kind_of, of_sort, IsClosed, IsFormed}
use Rattle.nts_model.specs.Tables.Contents.{Content}
use Rattle.nts_model.specs.Tables.Resolving.{Knows, IsSound, deeply_resolved}
use Rattle.nts_model.specs.Tables.Holding.{Continues}
use Rattle.nts_model.specs.Tables.Passing.{PassesQueries, TreePasses, TablePasses, BringsOnly}
use Rattle.nts_model.specs.Lists.{Among}
use Rattle.nts_model.specs.Derivations.Related.{directed, alias_goal, subtype_goal, direction_of, unbound}
use Rattle.nts_model.specs.Derivations.Rules.{Meaning, Mode, relating}
use Rattle.nts_model.specs.Derivations.Proofs.{Assumed}
use Rattle.nts_model.specs.Derivations.Proving.{HoldsTerms}
use Rattle.nts_model.specs.Searching.Stacks.{IsProvedFrom}
use Rattle.nts_model.proofs.Tables.Bringing.{query_variables}
use Rattle.nts_model.proofs.Tables.Slots.{Knows-kept}
use Rattle.nts_variance_model.specs.Variances.Leaving.{Refuses}
use Rattle.nts_variance_model.specs.Variances.Relations.{Relating as Pair}
use Rattle.nts_variance_model.specs.Variances.RelatingBy.{AreGoalsOf}
use Rattle.nts_theory.specs.Subtyping.{SaysSubtype, is_subtype, is_coerced, IsSubtyping, as_subtype, LeavesPremises, IsNoSubtype}
use Rattle.nts_store.specs.Formed.{AreFormed}
use Rattle.nts_store.specs.Growth.{tree_at}
use Rattle.nts_certainty.specs.declared.sources.GoalSource.{GoalSource}
use Rattle.nts_certainty.specs.declared.sources.GoalSource.TheVariants as source
use Rattle.nts_terms.specs.declared.cx.Cx.{Cx}
use Rattle.nts_terms.specs.declared.handles.Goal.{Goal}
use Rattle.nts_terms.specs.declared.handles.ParamEnv.{ParamEnv}
use Rattle.nts_terms.specs.Handles.{HoldsEnv, HoldsPredicate, HoldsGoal}
use Rattle.nts_terms.specs.Rest.{Grows}
use Rattle.nts_terms.specs.Signatures.{variances_in}
use Rattle.nts_unify.specs.Changing.{HasClosedSides}
use Rattle.nts_unify.specs.Entries.{Entries}
use Rattle.nts_unify.specs.Lawful.{content_of-extended}
use Rattle.nts_unify.specs.Reading.{content_of}
use Rattle.nts_unify.proofs.Keeping.{sides-added}
use Rattle.nts_table.specs.Tables.{Table, IsTable}
use Rattle.nts_variance.specs.declared.along.Relating.{Relating}
use Rattle.nts_variance.specs.Goals.{goal_head, goal_of}
use Rattle.nts_variance.specs.Passing.{PassesRows, PairsPass}
use Rattle.nts_variance.specs.Terms.{pair_at, pairs_at}
use Rattle.nts_variance.specs.Walking.{IsTableGrown}
use Rattle.nts_solver_relating.specs.Sides.{AreGoalsOfPairs, IsRelatedBy, RefusesSides, SolverRelatingKeeps, related_pairs, is_list}
use Rattle.nts_solver_relating.proofs.GoalsLeft.{no_list, type_pairs, related_earlier}
use Rattle.nts_meaning.specs.Evaluation.{Goes, IsPosed, goals_at}
use Rattle.nts_meaning.proofs.Evaluating.{goes}
use Rattle.nts_trying.specs.Stepping.{ArePosed, terms_of}
use Rattle.nts_trying.specs.declared.subtypes.TypePair.{TypePair}
use Rattle.nts_trying.specs.Subtyping.{AreTypesIn, with_source, RelatesTypes, AreSubtypesBy}
use Rattle.nts_trying.proofs.AnsweredTypes.{pairs_answered}
use Rattle.nts_trying.proofs.SubtypeGoals.{among_image as image_of}

-- what was recorded since is between closed terms
pub closed_grown : {c d : Content} → IsTableGrown c d → HasClosedSides c → HasClosedSides d
closed_grown l h =
    record {
      left = sides-added (λ x. IsClosed x.left) (λ x s. s.left) l.visible h.left;
      right = sides-added (λ x. IsClosed x.right) (λ x s. s.right) l.visible h.right;
    }

-- the table went on
pub relate_goes : (a b : Cx) (t u : Table) (declared : ℕ → List Variance) (env : ParamEnv) (v : Variance) (x y : Tree) (gs : List Goal) → IsTable a.nodes t → SolverRelatingKeeps a b t u → IsRelatedBy declared a.nodes b.nodes t.entries u.entries env v x y gs → Goes a.nodes b.nodes t u
relate_goes a b t u declared env v x y gs w k e =
    let g = k.grows in
    let m = k.changes in
    let s = e.related in
    let n = s.takes in
    goes w g.extends k.table n.continues m.saved m.mode m.hidden (λ h. closed_grown n.later h)

-- the goals of pairs
goal_of_pair : (p : Pair) → (goal_of p ≡ alias_goal p.variance p.left p.right) ⊎ ((x : Bool) × (goal_of p ≡ subtype_goal x p.variance p.left p.right))
goal_of_pair p = by_head _ _
  where
    by_head : (b x : Bool) → (directed (cond b (predicate.AliasRelate (direction_of p.variance)) (predicate.Subtype x)) p.variance p.left p.right ≡ alias_goal p.variance p.left p.right)
        ⊎ ((y : Bool) × (directed (cond b (predicate.AliasRelate (direction_of p.variance)) (predicate.Subtype x)) p.variance p.left p.right ≡ subtype_goal y p.variance p.left p.right))
    by_head true x = inl refl
    by_head false x = inr (x, refl)

pub goals_of_pairs : (us : List Tree) (c : Content) (env : ParamEnv) (ps : List Relating) (gs : List Goal) → AreGoalsOfPairs us c env ps gs → AreGoalsOf (pairs_at us ps) (map (λ g. tree_at us g.predicate.node) gs)
goals_of_pairs us c env [] [] h = tt
goals_of_pairs us c env [] (g ∷ gs) h = absurd h
goals_of_pairs us c env (p ∷ ps) [] h = absurd h
goals_of_pairs us c env (p ∷ ps) (g ∷ gs) h = (rw h.0.tree (goal_of_pair _), goals_of_pairs us c env ps gs h.1)

-- .. as the goals of a store, which are of the table
abbrev pub predicates : List Tree → List Goal → List Tree
predicates us gs = map (λ g. tree_at us g.predicate.node) gs

pub each_goal : (us : List Tree) (c : Content) (env : ParamEnv) (ps : List Relating) (gs : List Goal) → AreGoalsOfPairs us c env ps gs → (g : Goal) → Among gs g → (g.param_env ≡ env) × HoldsPredicate us g.predicate × Knows c (tree_at us g.predicate.node)
each_goal us c env [] [] h g i = absurd i
each_goal us c env [] (x ∷ gs) h g i = absurd h
each_goal us c env (p ∷ ps) [] h g i = absurd h
each_goal us c env (p ∷ ps) (x ∷ gs) h g (inl e) = (let y = h.0 in rw e (y.param_env, y.holds, y.knows))
each_goal us c env (p ∷ ps) (x ∷ gs) h g (inr i) = each_goal us c env ps gs h.1 g i

pub posed_each : (us : List Tree) (u : Table) (env : ParamEnv) (ps : List Relating) (gs : List Goal) → IsTable us u → HoldsEnv us env → Knows (content_of us u.entries) (tree_at us env.node) → AreGoalsOfPairs us (content_of us u.entries) env ps gs → ArePosed us u (with_source gs)
posed_each us u env [] [] w h k q = All-nil (λ x. IsPosed us u x.1)
posed_each us u env [] (g ∷ gs) w h k q = absurd q
posed_each us u env (p ∷ ps) [] w h k q = absurd q
posed_each us u env (p ∷ ps) (g ∷ gs) w h k q =
    let z = q.0 in
    All-cons (λ x. IsPosed us u x.1) (source.TypeRelating, g) (with_source gs)
    (record { table = w; holds = record { env = rw z.param_env h; predicate = z.holds }; knows = record { env = rw z.param_env k; predicate = z.knows } })
    (posed_each us u env ps gs w h k q.1)

-- .. as premises
pub premises_each : (us : List Tree) (c : Content) (env : ParamEnv) (z : Tree) → tree_at us env.node ≡ z → (ps : List Relating) (gs : List Goal) → AreGoalsOfPairs us c env ps gs → goals_at us (with_source gs) ≡ map (relating z) (map (λ g. tree_at us g.predicate.node) gs)
premises_each us c env z e [] [] h = refl
premises_each us c env z e [] (g ∷ gs) h = absurd h
premises_each us c env z e (p ∷ ps) [] h = absurd h
premises_each us c env z e (p ∷ ps) (g ∷ gs) h =
    let y = h.0 in
    let here : tree_at us g.param_env.node ≡ z = ap (λ (x : ParamEnv). tree_at us x.node) y.param_env ∙ e in
    let rest = premises_each us c env z e ps gs h.1 in
    λ i. relating (here i) (tree_at us g.predicate.node) ∷ rest i

-- .. and their labels
directed_passes : (P : Label → Bool) → PassesQueries P → (h : PredicateHead) (v : Variance) (a b : Tree) → TreePasses P a → TreePasses P b → TreePasses P (directed h v a b)
directed_passes P q h variance.Invariant a b x y = (q (label.List list.Binder) tt, ((q (label.List list.Sorts) tt, tt), ((q (label.Predicate h) tt, (x, (y, tt))), tt)))
directed_passes P q h variance.Covariant a b x y = (q (label.List list.Binder) tt, ((q (label.List list.Sorts) tt, tt), ((q (label.Predicate h) tt, (x, (y, tt))), tt)))
directed_passes P q h variance.Contravariant a b x y = (q (label.List list.Binder) tt, ((q (label.List list.Sorts) tt, tt), ((q (label.Predicate h) tt, (y, (x, tt))), tt)))

pub labels_each : (us : List Tree) (c : Content) (env : ParamEnv) (P : Label → Bool) → PassesQueries P → TreePasses P (tree_at us env.node) → (ps : List Relating) (gs : List Goal) → AreGoalsOfPairs us c env ps gs → PairsPass P (pairs_at us ps) → (t : Tree) → Among (terms_of us (with_source gs)) t → TreePasses P t
labels_each us c env P q e [] [] h k t i = absurd i
labels_each us c env P q e [] (g ∷ gs) h k t i = absurd h
labels_each us c env P q e (p ∷ ps) [] h k t i = absurd h
labels_each us c env P q e (p ∷ ps) (g ∷ gs) h k t (inl s) = (let y = h.0 in rw (s, y.param_env) e)
labels_each us c env P q e (p ∷ ps) (g ∷ gs) h k t (inr (inl s)) =
    let y = h.0 in
    let pair : Pair = pair_at us p in
    rw (s, y.tree) (directed_passes P q (goal_head pair) p.variance (tree_at us p.left) (tree_at us p.right) k.0 k.1)
labels_each us c env P q e (p ∷ ps) (g ∷ gs) h k t (inr (inr i)) = labels_each us c env P q e ps gs h.1 k.2 t i

-- the two types of a goal
types_formed : (a b s : Tree) → SaysSubtype a b s → IsFormed s → (kind_of a ≡ Some (of_sort sort.Ty)) × (kind_of b ≡ Some (of_sort sort.Ty))
types_formed a b s (is_subtype x) f = (let p = f.0 in (p.0, p.1.0))
types_formed a b s is_coerced f = (let p = f.0 in (p.0, p.1.0))

types_pass : (P : Label → Bool) (a b s : Tree) → SaysSubtype a b s → TreePasses P s → TreePasses P a × TreePasses P b
types_pass P a b s (is_subtype x) k = (let y = k.1 in (y.0, y.1.0))
types_pass P a b s is_coerced k = (let y = k.1 in (y.0, y.1.0))

types_known : (c : Content) (a b s : Tree) → SaysSubtype a b s → Knows c s → Knows c a × Knows c b
types_known c a b s (is_subtype x) k = (let y = k.1 in (y.0, y.1.0))
types_known c a b s is_coerced k = (let y = k.1 in (y.0, y.1.0))

pub query_rows : (P : Label → Bool) → PassesQueries P → PassesRows P
query_rows P q = record { variables = query_variables P q; lists = q (label.List list.Args) tt }

module _ {g a b : Tree} (is : IsSubtyping g a b) where
  pub sorts_of_types : (kind_of a ≡ Some (of_sort sort.Ty)) × (kind_of b ≡ Some (of_sort sort.Ty))
  sorts_of_types = types_formed a b is.statement is.says is.formed

  pub known_types : (c : Content) → Knows c g → Knows c a × Knows c b
  known_types c k = (let there : Knows c (unbound is.statement) = subst (Knows c) is.binds_nothing k in types_known c a b is.statement is.says there.1.1.0)

  -- no settled solution relates them
  pub types_refused : (declared : ℕ → List Variance) (c : Content) → RefusesSides declared c variance.Covariant a b → IsNoSubtype declared c g
  types_refused declared c (inl apart) = absurd (apart (λ (q : is_list a ≡ true). (let n = no_list a sorts_of_types.0 in cc (q, n))))
  types_refused declared c (inr r) = record { left = a; right = b; is = is; refused = subst (Refuses declared c) (type_pairs variance.Covariant a b sorts_of_types.0) r }

  -- they were related
  module _ (declared : ℕ → List Variance) (ts us : List Tree) (e f : Entries) (env : ParamEnv) (gs : List Goal) (r : IsRelatedBy declared ts us e f env variance.Covariant a b gs) where
    abbrev c : Content
    c = content_of ts e

    abbrev d : Content
    d = content_of us f

    same_pairs : related_pairs variance.Covariant a b ≡ as_subtype a b
    same_pairs = type_pairs variance.Covariant a b sorts_of_types.0

    pub types_left : (z : Tree) → LeavesPremises declared c d z g (map (relating z) (map (λ x. tree_at us x.predicate.node) gs))
    types_left z =
        let s = r.related in
        let t = s.takes in
        record {
          left = a;
          right = b;
          is = is;
          pairs = pairs_at us r.pairs;
          related = record { relates = rw (← same_pairs) t.relates; leaves = rw (← same_pairs) t.leaves };
          goals = map (λ x. tree_at us x.predicate.node) gs;
          of_pairs = goals_of_pairs us d env r.pairs gs r.goals;
          premises = refl;
        }

    -- the goals that are left, with their sources
    pub types_each : (x : Goal) → Among gs x → (x.param_env ≡ env) × HoldsPredicate us x.predicate × Knows d (tree_at us x.predicate.node)
    types_each x i = each_goal us d env r.pairs gs r.goals x i

    pub types_asked : (z : Tree) → tree_at us env.node ≡ z → goals_at us (with_source gs) ≡ map (relating z) (map (λ x. tree_at us x.predicate.node) gs)
    types_asked z q = premises_each us d env z q r.pairs gs r.goals

    pub types_posed : (u : Table) → u.entries ≡ f → IsTable us u → HoldsEnv us env → Knows d (tree_at us env.node) → ArePosed us u (with_source gs)
    types_posed u same w h k = posed_each us u env r.pairs gs w h (rw same k) (rw same r.goals)

    pub types_ask : (z : Tree) → tree_at us env.node ≡ z → (P : Label → Bool) → PassesQueries P → ((t : Tree) → Among (z ∷ g ∷ []) t → TreePasses P t) → TablePasses P c → (t : Tree) → Among (terms_of us (with_source gs)) t → TreePasses P t
    types_ask z q P p m h =
        let s = r.related in
        let t = s.takes in
        let whole : TreePasses P (unbound is.statement) = subst (TreePasses P) is.binds_nothing (m g (inr (inl refl))) in
        let sides = types_pass P a b is.statement is.says whole.1.1.0 in
        let x = (rw same_pairs at (t.passes P (query_rows P p) h)) (sides.0, sides.1, tt) in
        labels_each us d env P p (subst (TreePasses P) (sym q) (m z (inl refl))) r.pairs gs r.goals x.2

    -- where all of them are proved in a later table, the one type is a subtype of the other there
    pub types_held : (m : Meaning) (mode : Mode) (A : List Assumed) → m.variances ≡ declared → AreFormed us → (k : Content) → IsSound k → HoldsTerms k → Continues d k → (z : Tree)
        → ((x : Goal) → Among gs x → IsProvedFrom m mode A k z (tree_at us x.predicate.node)) → AreSubtypesBy m mode A k z a b
    types_held m mode A same formed k sound terms on z proved =
        let s = r.related in
        let t = s.takes in
        let by = t.relates in
        let ks = map (deeply_resolved k) (predicates us gs) in
        let all = rw same_pairs at (by.related k sound on ks (pairs_answered k sound terms ks us d env formed on r.pairs gs s.known s.are_goals r.goals (λ x i. i)) tt) in
        record {
          goals = predicates us gs;
          proved = λ x i.
              (let q = image_of (λ (y : Goal). tree_at us y.predicate.node) gs x i in
              let y = each_goal us d env r.pairs gs r.goals q.0 q.1 in
              let holds = y.1 in
              let known : Knows k (tree_at us q.0.predicate.node) = Knows-kept d k (tree_at us q.0.predicate.node) (record { grows = on.grows; kinds = on.kinds }) y.2 in
              rw q.2 (record { knows = known; formed = formed q.0.predicate.node holds.within }, proved q.0 q.1));
          related = rw same all.0;
        }

    pub types_bring : (z : Tree) → BringsOnly (z ∷ g ∷ []) c d
    types_bring z =
        let s = r.related in
        let t = s.takes in
        record {
          labels = λ P q m h.
              (let whole : TreePasses P (unbound is.statement) = subst (TreePasses P) is.binds_nothing (m g (inr (inl refl))) in
              let sides = types_pass P a b is.statement is.says whole.1.1.0 in
              let x = (rw same_pairs at (t.passes P (query_rows P q) h)) (sides.0, sides.1, tt) in
              x.0);
        }

-- what was left in a store that had grown before
pub relates_before : (a m b : Cx) (t u : Table) (g : Goal) (p : TypePair) (left : List (GoalSource × Goal)) → IsTable a.nodes t → Grows a m → AreTypesIn a.nodes p → RelatesTypes m b t u g p left → RelatesTypes a b t u g p left
relates_before a m b t u g p left w up types r =
    let e = up.extends in
    let k = up.rest in
    let sub = types.sub in
    let sup = types.sup in
    let declared : variances_in m.declarations ≡ variances_in a.declarations = ap variances_in k.declarations in
    record {
      goals = r.goals;
      are = r.are;
      related = related_earlier (variances_in a.declarations) a.nodes m.nodes b.nodes t.entries u.entries g.param_env variance.Covariant p.sub.node p.sup.node r.goals
          (record { content = content_of-extended e w.now; left = e.kept p.sub.node sub.within; right = e.kept p.sup.node sup.within }) (rw declared at r.related);
    }

pub refused_before : (a m : Cx) (t : Table) (g : Goal) → IsTable a.nodes t → Grows a m → HoldsGoal a.nodes g → IsNoSubtype (variances_in m.declarations) (content_of m.nodes t.entries) (tree_at m.nodes g.predicate.node) → IsNoSubtype (variances_in a.declarations) (content_of a.nodes t.entries) (tree_at a.nodes g.predicate.node)
refused_before a m t g w up holds r =
    let e = up.extends in
    let k = up.rest in
    let predicate = holds.predicate in
    rw (ap variances_in k.declarations, content_of-extended e w.now, e.kept g.predicate.node predicate.within) at r
