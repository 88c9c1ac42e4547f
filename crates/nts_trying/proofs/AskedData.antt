-- Goals of a candidate that are asked, as data and as trees.
use Rattle.std.proofs.Common.{◌≡◌, ◌<◌, ℕ, arith, length, Bool, true, false, List, [], ◌∷◌, ◌++◌, Some, refl, ap, ◌∙◌, sym}
use Rattle.std.specs.Prelude.{All, not}
use Rattle.std.proofs.lemmas.List.Elements.{All-nil, All-cons, All-head, All-tail}
use Rattle.nts_model.specs.declared.labels.ClauseHead.TheVariants as clause
use Rattle.nts_model.specs.declared.labels.ListHead.TheVariants as list
use Rattle.nts_model.specs.declared.labels.Label.TheVariants as label
use Rattle.nts_model.specs.Terms.Trees.{Tree, empty, more, node, any_label, is_alias, kind_of, statement, bound_predicate, IsFormed}
use Rattle.nts_model.specs.Derivations.Rules.{statement_of, IsHandlers}
use Rattle.nts_store.specs.Growth.{tree_at}
use Rattle.nts_terms.specs.declared.handles.Goal.{Goal}
use Rattle.nts_certainty.specs.declared.sources.GoalSource.{GoalSource}
use Rattle.nts_theory.specs.AskedGoals.{is_engines, is_asked, those_asked, all_asked}
use Rattle.nts_meaning.specs.Evaluation.{goals_at}
use Rattle.nts_response.specs.Forms.{premise_at}
use Rattle.nts_trying.specs.Asking.{IsAskedIn, asked_data}

-- whether a goal is asked, by what it says
pub asked_engines : (g : Tree) → is_engines (statement_of g) ≡ true → is_asked g ≡ true
asked_engines g e = rw e refl

pub asked_unaliased : (g : Tree) (b : Bool) → is_engines (statement_of g) ≡ false → b ≡ any_label is_alias g → not b ≡ is_asked g
asked_unaliased g b e q = rw (e, q) refl

-- a list of which an entry is read has one
pub some_item : {X : Type 0} (zs : List X) (i : ℕ) → i < length zs → (X → ⊥) → ⊥
some_item [] i l f = omega (arith, l)
some_item (z ∷ zs) i l f = f z

pub asked_not : (ts : List Tree) (z : GoalSource × Goal) → IsAskedIn ts z → is_asked (tree_at ts z.1.predicate.node) ≡ false → ⊥
asked_not ts z a e = (let clash : true ≡ false = sym a ∙ e in cc clash)

-- those that are asked, one goal more
push_first : (ts : List Tree) (z : GoalSource × Goal) (zs : List (GoalSource × Goal)) (x : GoalSource × Goal) → asked_data ts (zs ++ x ∷ []) ≡ asked_data ts zs ++ x ∷ [] → asked_data ts (z ∷ zs ++ x ∷ []) ≡ asked_data ts (z ∷ zs) ++ x ∷ []
push_first ts z zs x h = by_test (is_asked (tree_at ts z.1.predicate.node)) refl
  where
    by_test : (b : Bool) → is_asked (tree_at ts z.1.predicate.node) ≡ b → asked_data ts (z ∷ zs ++ x ∷ []) ≡ asked_data ts (z ∷ zs) ++ x ∷ []
    by_test true q = rw q (ap (λ v. z ∷ v) h)
    by_test false q = rw q h

data_push : (ts : List Tree) (xs : List (GoalSource × Goal)) (x : GoalSource × Goal) → is_asked (tree_at ts x.1.predicate.node) ≡ true → asked_data ts (xs ++ x ∷ []) ≡ asked_data ts xs ++ x ∷ []
data_push ts [] x e = rw e refl
data_push ts (z ∷ xs) x e = push_first ts z xs x (data_push ts xs x e)

pass_first : (ts : List Tree) (z : GoalSource × Goal) (zs : List (GoalSource × Goal)) (x : GoalSource × Goal) → asked_data ts (zs ++ x ∷ []) ≡ asked_data ts zs → asked_data ts (z ∷ zs ++ x ∷ []) ≡ asked_data ts (z ∷ zs)
pass_first ts z zs x h = by_test (is_asked (tree_at ts z.1.predicate.node)) refl
  where
    by_test : (b : Bool) → is_asked (tree_at ts z.1.predicate.node) ≡ b → asked_data ts (z ∷ zs ++ x ∷ []) ≡ asked_data ts (z ∷ zs)
    by_test true q = rw q (ap (λ v. z ∷ v) h)
    by_test false q = rw q h

data_pass : (ts : List Tree) (xs : List (GoalSource × Goal)) (x : GoalSource × Goal) → is_asked (tree_at ts x.1.predicate.node) ≡ false → asked_data ts (xs ++ x ∷ []) ≡ asked_data ts xs
data_pass ts [] x e = rw e refl
data_pass ts (z ∷ xs) x e = pass_first ts z xs x (data_pass ts xs x e)

pub data_asked : (ts : List Tree) (xs ys : List (GoalSource × Goal)) (x : GoalSource × Goal) → ys ≡ xs ++ x ∷ [] → is_asked (tree_at ts x.1.predicate.node) ≡ true → asked_data ts ys ≡ asked_data ts xs ++ x ∷ []
data_asked ts xs ys x e a = ap (asked_data ts) e ∙ data_push ts xs x a

pub data_not : (ts : List Tree) (xs ys : List (GoalSource × Goal)) (x : GoalSource × Goal) → ys ≡ xs ++ x ∷ [] → is_asked (tree_at ts x.1.predicate.node) ≡ false → asked_data ts ys ≡ asked_data ts xs
data_not ts xs ys x e a = ap (asked_data ts) e ∙ data_pass ts xs x a

-- they are the trees that are asked
are_first : (ts : List Tree) (z : GoalSource × Goal) (zs : List (GoalSource × Goal)) → goals_at ts (asked_data ts zs) ≡ those_asked (goals_at ts zs) → goals_at ts (asked_data ts (z ∷ zs)) ≡ those_asked (goals_at ts (z ∷ zs))
are_first ts z zs h = by_test (is_asked (tree_at ts z.1.predicate.node)) refl
  where
    by_test : (b : Bool) → is_asked (tree_at ts z.1.predicate.node) ≡ b → goals_at ts (asked_data ts (z ∷ zs)) ≡ those_asked (goals_at ts (z ∷ zs))
    by_test true q = rw q (ap (λ v. premise_at ts z ∷ v) h)
    by_test false q = rw q h

pub data_are : (ts : List Tree) (zs : List (GoalSource × Goal)) → goals_at ts (asked_data ts zs) ≡ those_asked (goals_at ts zs)
data_are ts [] = refl
data_are ts (z ∷ zs) = are_first ts z zs (data_are ts zs)

-- all are asked, or one is not
pub all_are_asked : (ts : List Tree) (zs : List (GoalSource × Goal)) → All (IsAskedIn ts) zs → those_asked (goals_at ts zs) ≡ goals_at ts zs
all_are_asked ts [] h = refl
all_are_asked ts (z ∷ zs) h = (let e = All-head (IsAskedIn ts) z zs h in rw e (ap (λ v. premise_at ts z ∷ v) (all_are_asked ts zs (All-tail (IsAskedIn ts) z zs h))))

all_first : (ts : List Tree) (y : GoalSource × Goal) (zs : List (GoalSource × Goal)) → (all_asked (goals_at ts zs) ≡ true → All (IsAskedIn ts) zs) → all_asked (goals_at ts (y ∷ zs)) ≡ true → All (IsAskedIn ts) (y ∷ zs)
all_first ts y zs h e = by_test (is_asked (tree_at ts y.1.predicate.node)) refl
  where
    by_test : (b : Bool) → is_asked (tree_at ts y.1.predicate.node) ≡ b → All (IsAskedIn ts) (y ∷ zs)
    by_test true q = All-cons (IsAskedIn ts) y zs q (h (rw q at e))
    by_test false q = absurd (let clash : false ≡ true = rw q at e in cc clash)

all_of : (ts : List Tree) (zs : List (GoalSource × Goal)) → all_asked (goals_at ts zs) ≡ true → All (IsAskedIn ts) zs
all_of ts [] e = All-nil (IsAskedIn ts)
all_of ts (y ∷ zs) e = all_first ts y zs (all_of ts zs) e

pub not_all_asked : (ts : List Tree) (zs : List (GoalSource × Goal)) → (All (IsAskedIn ts) zs → ⊥) → all_asked (goals_at ts zs) ≡ false
not_all_asked ts zs n = by_test (all_asked (goals_at ts zs)) refl
  where
    by_test : (b : Bool) → all_asked (goals_at ts zs) ≡ b → all_asked (goals_at ts zs) ≡ false
    by_test true q = absurd (n (all_of ts zs q))
    by_test false q = q

-- what a formed statement says is of the engine's kinds, or rules of a handler say it
said_kinds : (s : Tree) → kind_of s ≡ Some statement → is_engines s ≡ false → IsHandlers s
said_kinds (node (label.Clause (clause.Trait i)) c) k e = tt
said_kinds (node (label.Clause (clause.HostEffect i)) c) k e = tt
said_kinds (node (label.Clause (clause.Projection i)) c) k e = tt
said_kinds (node (label.Clause clause.TypeOutlives) c) k e = absurd (cc e)
said_kinds (node (label.Clause clause.RegionOutlives) c) k e = absurd (cc e)
said_kinds (node (label.Clause clause.ConstArgHasType) c) k e = absurd (cc e)
said_kinds (node (label.Clause clause.WellFormed) c) k e = absurd (cc e)
said_kinds (node (label.Clause clause.ConstEvaluatable) c) k e = absurd (cc e)
said_kinds (node (label.Clause (clause.UnstableFeature f)) c) k e = absurd (cc e)
said_kinds (node (label.Predicate p) c) k e = absurd (cc e)
said_kinds (node (label.List list.Args) c) k e = absurd (cc k)
said_kinds (node (label.List list.Env) c) k e = absurd (cc k)
said_kinds (node (label.List list.Sorts) c) k e = absurd (cc k)
said_kinds (node (label.List (list.Sort s)) c) k e = absurd (cc k)
said_kinds (node (label.List list.Binder) c) k e = absurd (cc k)
said_kinds s k e = absurd (cc k)

pub predicate_kinds : (g : Tree) → kind_of g ≡ Some bound_predicate → IsFormed g → is_engines (statement_of g) ≡ false → IsHandlers (statement_of g)
predicate_kinds (node (label.List list.Binder) (more v (more s empty))) k f e = said_kinds s f.0.1.0 e
predicate_kinds (node (label.List list.Binder) (more v (more s (more x y)))) k f e = absurd f.0.1.1
predicate_kinds (node (label.List list.Binder) (more v (more s (node l c)))) k f e = absurd f.0.1.1
predicate_kinds (node (label.List list.Binder) (more v empty)) k f e = absurd f.0.1
predicate_kinds (node (label.List list.Binder) (more v (node l c))) k f e = absurd f.0.1
predicate_kinds (node (label.List list.Binder) empty) k f e = absurd f.0
predicate_kinds (node (label.List list.Binder) (node l c)) k f e = absurd f.0
predicate_kinds g k f e = absurd (cc k)
