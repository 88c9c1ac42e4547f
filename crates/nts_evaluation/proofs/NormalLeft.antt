-- What an alias normalizes to from assumptions, it normalizes to from more.
use Rattle.nts_model.specs.Terms.Trees.{Tree}
use Rattle.nts_model.specs.Tables.Contents.{Content}
use Rattle.nts_model.specs.Derivations.Rules.{Meaning, Mode, normalization_goal}
use Rattle.nts_model.specs.Derivations.Proofs.{Assumed}
use Rattle.nts_model.specs.Derivations.Proving.{sequent_at}
use Rattle.nts_theory.proofs.Derivations.Assuming.{Covers, derived_more}
use Rattle.std.specs.Prelude.{List, All}
use Rattle.std.proofs.Common.{◌≡◌, ◌⊎◌, ◌++◌, inl, inr, true, Option, Some, None, [], ◌∷◌, ap, sym, subst}
use Rattle.nts_trying.specs.declared.subtypes.TypePair.{TypePair}
use Rattle.nts_meaning.specs.Telling.{Ruling, LesserRefused}
use Rattle.nts_theory.specs.Aliasing.{IsLesserGoal}
use Rattle.nts_theory.specs.Telling.{Verdict, by_lesser, by_one, lesser_refused}
use Rattle.nts_store.specs.Growth.{tree_at, Extends}
use Rattle.nts_terms.specs.Handles.{HoldsGoal}
use Rattle.nts_terms.specs.declared.handles.GenericArg.{GenericArg}
use Rattle.nts_table.specs.Tables.{IsTable}
use Rattle.nts_unify.specs.Reading.{content_of}
use Rattle.nts_unify.specs.Lawful.{content_of-extended}
use Rattle.nts_canonical.specs.Building.{IsArgOf}
use Rattle.nts_canonical.specs.Forms.{trees_of}
use Rattle.nts_meaning.proofs.AskedGoals.{trees_kept}
use Rattle.nts_trying.specs.Aliasing.{WayTold, WayRefuted, NormalTold}
use Rattle.nts_trying.specs.Aliasing.{normals, IsKnownAs, IsNormalizedBy, LeavesOne, LeavesTwo, LeavesLesser}
use Rattle.nts_model.specs.declared.labels.Variance.TheVariants as variance
use Rattle.nts_model.specs.Derivations.Related.{subtype_goal}
use Rattle.nts_model.specs.Lists.{Among}
use Rattle.nts_model.specs.Derivations.Rules.{other_goal, step_kind}
use Rattle.nts_model.specs.Derivations.Proofs.{passed}
use Rattle.nts_certainty.specs.declared.sources.GoalSource.{GoalSource}
use Rattle.nts_certainty.specs.declared.sources.GoalSource.TheVariants as source
use Rattle.nts_candidates.specs.Offered.{source_of}
use Rattle.nts_terms.specs.declared.handles.Goal.{Goal}
use Rattle.nts_table.specs.Tables.{Table}
use Rattle.nts_meaning.specs.Running.{StaysProved}

pub normal_more : {m : Meaning} {mode : Mode} {A B : List Assumed} {c : Content} {e g : Tree} → Covers A B → IsNormalizedBy m mode A c e g → IsNormalizedBy m mode B c e g
normal_more {m} {mode} {A} {B} {c} {e} f (inl s) =
    let p = s.premise in
    inl (record { premise = s.premise; side = s.side; ends = s.ends; proved = derived_more m mode A B (sequent_at c e p.predicate) f s.proved })
normal_more {m} {mode} {A} {B} {c} {e} f (inr (inl s)) =
    let is = s.is in
    let x = is.left in
    let y = is.right in
    inr (inl (record {
      left = s.left;
      right = s.right;
      is = is;
      term = s.term;
      known = s.known;
      ends = s.ends;
      kind = s.kind;
      first = derived_more m mode A B (sequent_at c e (normalization_goal x.head x.parts s.term)) f s.first;
      second = derived_more m mode A B (sequent_at c e (normalization_goal y.head y.parts s.term)) f s.second;
    }))
normal_more {m} {mode} {A} {B} {c} {e} f (inr (inr s)) =
    inr (inr (record {
      left = s.left;
      right = s.right;
      is = s.is;
      left_closed = s.left_closed;
      right_closed = s.right_closed;
      first = s.first;
      second = s.second;
      first_closed = s.first_closed;
      second_closed = s.second_closed;
      first_type = s.first_type;
      second_type = s.second_type;
      of_left = known_more f s.of_left;
      of_right = known_more f s.of_right;
      known = s.known;
      proved = derived_more m mode A B (sequent_at c e (subtype_goal true variance.Covariant s.first s.second)) f s.proved;
    }))
  where
    known_more : {x r : Tree} → Covers A B → IsKnownAs m mode A c e x r → IsKnownAs m mode B c e x r
    known_more f (inl same) = inl same
    known_more {r = r} f (inr k) = (let x = k.is in inr (record { is = k.is; known = k.known; kind = k.kind; proved = derived_more m mode A B (sequent_at c e (normalization_goal x.head x.parts r)) f k.proved }))

-- all that is left was left by relating, so what is assumed behind a step to it is what is assumed
abbrev AreRelating : List (GoalSource × Goal) → Type 0
AreRelating gs = (x : GoalSource × Goal) → Among gs x → x.0 ≡ source.TypeRelating

normals_relating : (n : Option Goal) (rest : List (GoalSource × Goal)) → AreRelating rest → AreRelating (normals n ++ rest)
normals_relating (Some g) rest r x (inl e) = ap (λ (y : GoalSource × Goal). y.0) e
normals_relating (Some g) rest r x (inr i) = r x i
normals_relating None rest r x i = r x i

one_relating : (g : Goal) → AreRelating ((source.TypeRelating, g) ∷ [])
one_relating g x (inl e) = ap (λ (y : GoalSource × Goal). y.0) e
one_relating g x (inr i) = absurd i

left_relating : {a b : List Tree} {u : Table} {g : Goal} (gs : List (GoalSource × Goal)) → LeavesOne a b g gs ⊎ LeavesTwo a b u g gs ⊎ LeavesLesser a b u g gs → AreRelating gs
left_relating gs (inl l) = subst AreRelating (sym l.are) (one_relating l.normal)
left_relating gs (inr (inl l)) = subst AreRelating (sym l.are) (normals_relating (Some l.first) ((source.TypeRelating, l.second) ∷ []) (one_relating l.second))
left_relating gs (inr (inr l)) = (let one = l.first in let two = l.second in subst AreRelating (sym l.are) (normals_relating one.normal (normals two.normal ++ ((source.TypeRelating, l.lesser) ∷ [])) (normals_relating two.normal ((source.TypeRelating, l.lesser) ∷ []) (one_relating l.lesser))))

pub all_relating : {a b : List Tree} {u : Table} {g : Goal} {m : Meaning} {mode : Mode} {A : List Assumed} (d : List Tree) (w : Table) (gs : List (GoalSource × Goal)) → LeavesOne a b g gs ⊎ LeavesTwo a b u g gs ⊎ LeavesLesser a b u g gs
    → ((x : GoalSource × Goal) → Among gs x → StaysProved m mode (passed (step_kind other_goal (source_of x.0)) A) d w x.1) → (x : GoalSource × Goal) → Among gs x → StaysProved m mode A d w x.1
all_relating {m = m} {mode} {A} d w gs l proved x i = (let same = left_relating gs l x i in subst (λ z. StaysProved m mode (passed (step_kind other_goal (source_of z)) A) d w x.1) same (proved x i))

-- what a way tells of a goal of a store that has grown, it tells of the goal of the smaller one; and likewise what it refutes
pub way_told_earlier : (h : Ruling) (mode : Mode) (way : Option TypePair) (a b : List Tree) (t : Table) (g : Goal) (qs : List GenericArg) (v : Verdict) → Extends a b → IsTable a t → HoldsGoal a g → All (IsArgOf a t.entries) qs
    → WayTold h mode way (content_of b t.entries) (tree_at b g.param_env.node) (tree_at b g.predicate.node) (trees_of b qs) v → WayTold h mode way (content_of a t.entries) (tree_at a g.param_env.node) (tree_at a g.predicate.node) (trees_of a qs) v
way_told_earlier h mode way a b t g qs v up table holds args f =
    let c = content_of a t.entries in
    let e = tree_at a g.param_env.node in
    let p = tree_at a g.predicate.node in
    subst (λ z. WayTold h mode way c e p z v) (trees_kept a b t.entries qs up args)
    (subst (λ z. WayTold h mode way c e z (trees_of b qs) v) (up.kept g.predicate.node holds.predicate.within)
    (subst (λ z. WayTold h mode way c z (tree_at b g.predicate.node) (trees_of b qs) v) (up.kept g.param_env.node holds.env.within)
    (subst (λ z. WayTold h mode way z (tree_at b g.param_env.node) (tree_at b g.predicate.node) (trees_of b qs) v) (content_of-extended up table.now) f)))

pub way_refuted_earlier : (h : Ruling) (mode : Mode) (way : Option TypePair) (a b : List Tree) (t : Table) (g : Goal) → Extends a b → IsTable a t → HoldsGoal a g
    → WayRefuted h mode way (content_of b t.entries) (tree_at b g.param_env.node) (tree_at b g.predicate.node) → WayRefuted h mode way (content_of a t.entries) (tree_at a g.param_env.node) (tree_at a g.predicate.node)
way_refuted_earlier h mode way a b t g up table holds f =
    rw (content_of-extended up table.now, up.kept g.param_env.node holds.env.within, up.kept g.predicate.node holds.predicate.within) at f

-- what the ways tell is told of the goal: of a subtype first that the results of the two are related so
pub lesser_told : (h : Ruling) (mode : Mode) (p : TypePair) (c : Content) (e g : Tree) (qs : List Tree) (v : Verdict) → WayTold h mode (Some p) c e g qs v → NormalTold h mode c e g qs v
lesser_told h mode p c e g qs v (inl y) = inl (record { normal = y.normal; left = y.left; met = y.met; sides = by_lesser y.sides; found = y.found; reaches = y.reaches; is_found = y.is_found; says = y.says })
lesser_told h mode p c e g qs v (inr y) = inr y

pub one_told : (h : Ruling) (mode : Mode) (c : Content) (e g : Tree) (qs : List Tree) (v : Verdict) → ((a b : Tree) → IsLesserGoal g a b → LesserRefused h mode c e g) → WayTold h mode None c e g qs v → NormalTold h mode c e g qs v
one_told h mode c e g qs v refused (inl y) = inl (record { normal = y.normal; left = y.left; met = y.met; sides = by_one y.sides refused; found = y.found; reaches = y.reaches; is_found = y.is_found; says = y.says })
one_told h mode c e g qs v refused (inr y) = inr y

pub lesser_no : (h : Ruling) (mode : Mode) (p : TypePair) (c : Content) (e g : Tree) → WayRefuted h mode (Some p) c e g → LesserRefused h mode c e g
lesser_no h mode p c e g w = lesser_refused w.left w.met w.sides w.refused
