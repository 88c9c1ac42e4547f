-- What is left of two types, of which one is said to be a subtype of the other, and what asking that comes to.
use Rattle.std.proofs.Common.{◌≡◌, ◌⊎◌, inl, inr, ℕ, true, List, [], ◌∷◌, map, refl, sym, ap, ◌∙◌}
use Rattle.nts_model.specs.declared.labels.Variance.{Variance}
use Rattle.nts_model.specs.declared.labels.Variance.TheVariants as variance
use Rattle.nts_model.specs.declared.labels.VariableKind.TheVariants as kind
use Rattle.nts_model.specs.Terms.Trees.{Tree, variable_tree}
use Rattle.nts_model.specs.Lists.{Among}
use Rattle.nts_model.specs.Tables.Contents.{Content}
use Rattle.nts_model.specs.Tables.Passing.{BringsOnly}
use Rattle.nts_model.specs.Derivations.Related.{subtype_goal}
use Rattle.nts_model.specs.Derivations.Rules.{Meaning, Mode, other_goal, relating, step_kind}
use Rattle.nts_model.specs.Derivations.Proofs.{Assumed, passed}
use Rattle.nts_model.proofs.Tables.Bringing.{only-none, only-refl}
use Rattle.nts_model.proofs.Tables.Held.{Continues-refl}
use Rattle.nts_model.specs.Derivations.Proving.{sequent_at}
use Rattle.nts_theory.specs.Subtyping.{IsSubtyping, LeavesPremises}
use Rattle.nts_theory.proofs.Derivations.Assuming.{Covers, derived_more}
use Rattle.nts_store.specs.Formed.{AreFormed}
use Rattle.nts_store.specs.Growth.{tree_at, Extends}
use Rattle.nts_certainty.specs.declared.sources.GoalSource.{GoalSource}
use Rattle.nts_certainty.specs.declared.sources.GoalSource.TheVariants as source
use Rattle.nts_candidates.specs.Offered.{source_of}
use Rattle.nts_terms.specs.declared.cx.Cx.{Cx}
use Rattle.nts_terms.specs.declared.handles.Goal.{Goal}
use Rattle.nts_terms.specs.declared.handles.ParamEnv.{ParamEnv}
use Rattle.nts_terms.specs.Signatures.{variances_in}
use Rattle.nts_unify.specs.Lawful.{content_of-extended}
use Rattle.nts_unify.specs.Reading.{content_of, IsLawful}
use Rattle.nts_unify.specs.Roots.{SubRootsJoin}
use Rattle.nts_unify.proofs.JoinLemmas.{sub_join}
use Rattle.nts_table.specs.Tables.{Table, IsTable}
use Rattle.nts_meaning.specs.Evaluation.{Goes, Runs, IsPosed, asked_terms, goals_at}
use Rattle.nts_meaning.specs.Running.{StaysProved}
use Rattle.nts_meaning.proofs.Evaluating.{IsPosed-later}
use Rattle.nts_meaning.proofs.Running.{term_table}
use Rattle.nts_trying.specs.declared.subtypes.TypePair.{TypePair}
use Rattle.nts_trying.specs.Stepping.{ArePosed, terms_of}
use Rattle.nts_trying.specs.Subtyping.{IsSubtypeGoal, AreVariablesIn, with_source, JoinsTypes, RelatesTypes, AreUntouched, AreJoinedTypes, AreSubtypesBy}
use Rattle.nts_trying.proofs.JoinedTypes.{join_brings, types_joined}
use Rattle.nts_trying.proofs.RelatedTypes.{types_left, types_asked, types_posed, types_ask, types_bring, types_each, types_held}

-- the table in which two type variables were joined, seen from the store before
module _ (a m : Cx) (t u : Table) (p : TypePair) (w : IsTable a.nodes t) (up : Extends a.nodes m.nodes) (j : JoinsTypes a m t u p true) where
  abbrev joins : SubRootsJoin t.entries u.entries j.0 j.1
  joins = j.3

  joined_lawful : IsLawful a.nodes u.entries
  joined_lawful = (let r = sub_join a.nodes t.entries u.entries j.0 j.1 w.now joins in r.lawful)

  pub joined_content : content_of m.nodes u.entries ≡ content_of a.nodes u.entries
  joined_content = content_of-extended up joined_lawful

  pub joined_leaves : (declared : ℕ → List Variance) (goal : Goal) → IsSubtypeGoal a.nodes goal p → (z : Tree)
      → LeavesPremises declared (content_of a.nodes t.entries) (content_of m.nodes u.entries) z (tree_at a.nodes goal.predicate.node) (relating z (subtype_goal true variance.Covariant (tree_at a.nodes p.sub.node) (tree_at a.nodes p.sup.node)) ∷ [])
  joined_leaves declared goal is z =
      let i = is.is in
      rw joined_content (types_joined a.nodes t.entries u.entries j.0 j.1 w.now joins declared (tree_at a.nodes p.sub.node) (tree_at a.nodes p.sup.node) (tree_at a.nodes goal.predicate.node) i.says z)

  pub joined_brings : (ts : List Tree) → BringsOnly ts (content_of a.nodes t.entries) (content_of m.nodes u.entries)
  joined_brings ts = rw joined_content (only-none ts (join_brings a.nodes t.entries u.entries j.0 j.1 w.now joins))

  -- they are these variables
  same_number : (n k : ℕ) → variable_tree kind.Ty n ≡ variable_tree kind.Ty k → n ≡ k
  same_number n k e = cc e

  pub joined_these : (n k : ℕ) → AreVariablesIn a.nodes t p n k → SubRootsJoin t.entries u.entries n k
  joined_these n k v =
      let first : j.0 ≡ n = same_number j.0 n (sym j.2.0 ∙ v.0) in
      let second : j.1 ≡ k = same_number j.1 k (sym j.2.1 ∙ v.1) in
      rw (← first, ← second) joins

-- nothing was done
pub untouched_content : (a m : Cx) (t u : Table) → IsTable a.nodes t → Extends a.nodes m.nodes → u ≡ t → content_of m.nodes u.entries ≡ content_of a.nodes t.entries
untouched_content a m t u w up e = ap (λ (z : Table). content_of m.nodes z.entries) e ∙ content_of-extended up w.now

pub undone_brings : (a m : Cx) (t u : Table) (p : TypePair) (ts : List Tree) → IsTable a.nodes t → Extends a.nodes m.nodes → AreUntouched t u ⊎ AreJoinedTypes a m t u p → BringsOnly ts (content_of a.nodes t.entries) (content_of m.nodes u.entries)
undone_brings a m t u p ts w up (inl x) = rw (untouched_content a m t u w up x.same) (only-refl ts (content_of a.nodes t.entries))
undone_brings a m t u p ts w up (inr x) = joined_brings a m t u p w up x.joins ts

-- the types were related, and goals are left
module _ (a m : Cx) (t u : Table) (goal : Goal) (p : TypePair) (gs : List (GoalSource × Goal)) (posed : IsPosed a.nodes t goal) (is : IsSubtypeGoal a.nodes goal p) (r : RelatesTypes a m t u goal p gs) (run : Runs a m t u) where
  abbrev declared : ℕ → List Variance
  declared = variances_in a.declarations

  abbrev e : Tree
  e = tree_at a.nodes goal.param_env.node

  abbrev says : IsSubtyping (tree_at a.nodes goal.predicate.node) (tree_at a.nodes p.sub.node) (tree_at a.nodes p.sup.node)
  says = (let i = is.is in i.says)

  same_env : tree_at m.nodes goal.param_env.node ≡ e
  same_env = (let k = run.goes in k.extends.kept goal.param_env.node posed.holds.env.within)

  pub left_asked : goals_at m.nodes gs ≡ map (relating e) (map (λ x. tree_at m.nodes x.predicate.node) r.goals)
  left_asked = rw r.are (types_asked says declared a.nodes m.nodes t.entries u.entries goal.param_env r.goals r.related e same_env)

  pub left_posed : ArePosed m.nodes u gs
  left_posed =
      let later = IsPosed-later run.goes posed in
      rw r.are (types_posed says declared a.nodes m.nodes t.entries u.entries goal.param_env r.goals r.related u refl later.table later.holds.env later.knows.env)

  pub left_leaves : LeavesPremises declared (content_of a.nodes t.entries) (content_of m.nodes u.entries) e (tree_at a.nodes goal.predicate.node) (goals_at m.nodes gs)
  left_leaves = rw left_asked (types_left says declared a.nodes m.nodes t.entries u.entries goal.param_env r.goals r.related e)

  -- asking them brings no labels but those of the goal
  pub left_brings : {d : Content} → BringsOnly (terms_of m.nodes gs) (content_of m.nodes u.entries) d → BringsOnly (asked_terms a.nodes goal) (content_of a.nodes t.entries) d
  left_brings h =
      record {
        labels = λ P q k passes.
            (let first = types_bring says declared a.nodes m.nodes t.entries u.entries goal.param_env r.goals r.related e in
            h.labels P q (rw r.are (types_ask says declared a.nodes m.nodes t.entries u.entries goal.param_env r.goals r.related e same_env P q k passes)) (first.labels P q k passes));
      }

  -- where each is proved in a later table, the one type is a subtype of the other there
  pub left_held : (n : Meaning) (mode : Mode) (A : List Assumed) → n.variances ≡ declared → AreFormed m.nodes → (b : Cx) (v : Table) → AreFormed b.nodes → Goes m.nodes b.nodes u v
      → ((x : GoalSource × Goal) → Among gs x → StaysProved n mode (passed (step_kind other_goal (source_of x.0)) A) b.nodes v x.1) → AreSubtypesBy n mode A (content_of b.nodes v.entries) e (tree_at a.nodes p.sub.node) (tree_at a.nodes p.sup.node)
  left_held n mode A same formed b v grown goes proved =
      let there = term_table grown goes.table in
      let k = content_of b.nodes v.entries in
      types_held says declared a.nodes m.nodes t.entries u.entries goal.param_env r.goals r.related n mode A same formed k there.sound there.values goes.continues e
      (λ x i.
      let one = proved (source.TypeRelating, x) (rw r.are (among_source r.goals x i)) in
      let q = types_each says declared a.nodes m.nodes t.entries u.entries goal.param_env r.goals r.related x i in
      let later = IsPosed-later run.goes posed in
      let holds = q.1 in
      let env : tree_at b.nodes x.param_env.node ≡ e = ap (λ (z : ParamEnv). tree_at b.nodes z.node) q.0 ∙ goes.extends.kept goal.param_env.node later.holds.env.within ∙ same_env in
      let predicate : tree_at b.nodes x.predicate.node ≡ tree_at m.nodes x.predicate.node = goes.extends.kept x.predicate.node holds.within in
      rw (env, predicate) at (one.later k there (Continues-refl k there.sound)))
    where
      among_source : (xs : List Goal) (x : Goal) → Among xs x → Among (with_source xs) (source.TypeRelating, x)
      among_source [] x i = absurd i
      among_source (y ∷ xs) x (inl q) = inl (ap (λ z. (source.TypeRelating, z)) q)
      among_source (y ∷ xs) x (inr i) = inr (among_source xs x i)

-- what is so from assumptions is so from more
pub subtypes_more : {m : Meaning} {mode : Mode} {A B : List Assumed} {c : Content} {e a b : Tree} → Covers A B → AreSubtypesBy m mode A c e a b → AreSubtypesBy m mode B c e a b
subtypes_more {m} {mode} {A} {B} {c} {e} f s =
    record {
      goals = s.goals;
      proved = λ g i. (let x = s.proved g i in (x.0, derived_more m mode A B (sequent_at c e g) f x.1));
      related = s.related;
    }
