-- Goals that are decided, asked in steps: one step answers each of them.
use Rattle.std.proofs.Common.{◌≡◌, ℕ, ◌<◌, ◌≤◌, ◌+◌, Bool, true, false, List, [], ◌∷◌, drop, length, get_or, Result, refl, subst}
use Rattle.std.proofs.lemmas.List.{drop_more, drop_all}
use Rattle.nts_model.specs.Terms.Trees.{Tree}
use Rattle.nts_model.specs.Tables.Contents.{Content}
use Rattle.nts_model.specs.Tables.Resolving.{deeply_resolved}
use Rattle.nts_model.specs.Derivations.Sequents.{Premise}
use Rattle.nts_model.specs.Derivations.Rules.{Mode}
use Rattle.nts_model.specs.Derivations.Handlers.{Handler}
use Rattle.nts_decisions.specs.Deciding.{IsGoalDecided}
use Rattle.nts_decisions.specs.Faring.{AreDecidedIn, none_asked, next_yes, next_no, IsOfTable}
use Rattle.nts_decisions.proofs.Faring.{one_then, among_by}
use Rattle.nts_certainty.specs.declared.certainty.Certainty.TheVariants as certainty
use Rattle.nts_certainty.specs.declared.sources.GoalSource.{GoalSource}
use Rattle.nts_store.specs.Growth.{tree_at}
use Rattle.nts_terms.specs.declared.handles.Goal.{Goal}
use Rattle.nts_terms.specs.declared.modes.TypingMode.{TypingMode}
use Rattle.nts_terms.specs.Modes.{mode_of}
use Rattle.nts_unify.specs.Reading.{content_of}
use Rattle.nts_table.specs.Tables.{Table}
use Rattle.nts_response.specs.Forms.{premise_at}
use Rattle.nts_search.specs.declared.stack.SearchGraph.{SearchGraph}
use Rattle.nts_meaning.specs.Evaluation.{Goes, goals_at}
use Rattle.nts_trying.specs.Stepping.{ArePosed}
use Rattle.nts_trying.specs.declared.steps.Step.{Step}
use Rattle.nts_trying.proofs.Stepping.{among_get}
use Rattle.nts_store.specs.declared.fault.EvalError.{EvalError}
use Rattle.nts_terms.specs.declared.cx.Cx.{Cx}
use Rattle.nts_evaluation.specs.Deciding.{IsBelow, IsAsBefore, CanDecide, Decides, GoalsSettled}

-- the first of the goals that are left is decided; if it is no, all are, and if it is yes, the others say it
record HeadIs (h : Handler) (mode : Mode) (n : ℕ) (d : Content) (p : Premise) (ps : List Premise) (b : Bool) : Type 0 where
  answer : Bool
  at : ℕ
  less : at < n
  decided : IsGoalDecided h mode at (deeply_resolved d p.environment) (deeply_resolved d p.predicate) answer
  no : answer ≡ false → b ≡ false
  yes : answer ≡ true → AreDecidedIn h mode n d ps b

head_is : (h : Handler) (mode : Mode) (n : ℕ) (d : Content) (p : Premise) (ps : List Premise) (b : Bool) → AreDecidedIn h mode n d (p ∷ ps) b → HeadIs h mode n d p ps b
head_is h mode n d p ps b (next_yes m l x r) = record { answer = true; at = m; less = l; decided = x; no = λ e. absurd (cc e); yes = λ e. r }
head_is h mode n d p ps b (next_no m l x) = record { answer = false; at = m; less = l; decided = x; no = λ e. refl; yes = λ e. absurd (cc e) }

none_left : (h : Handler) (mode : Mode) (n : ℕ) (d : Content) (b : Bool) → AreDecidedIn h mode n d [] b → b ≡ true
none_left h mode n d b none_asked = refl

-- .. as the later table u of the store b knows it
pub record NextIs (h : Handler) (mode : TypingMode) (n : ℕ) (a : List Tree) (t : Table) (b : List Tree) (u : Table) (g : GoalSource × Goal) (rest : List (GoalSource × Goal)) (k : Bool) : Type 0 where
  pub answer : Bool
  pub below : IsBelow n (λ m. (let c = content_of b u.entries in IsGoalDecided h (mode_of u.mode) m (deeply_resolved c (tree_at b g.1.param_env.node)) (deeply_resolved c (tree_at b g.1.predicate.node)) answer))
  pub no : answer ≡ false → k ≡ false
  pub yes : answer ≡ true → AreDecidedIn h (mode_of mode) n (content_of a t.entries) (goals_at a rest) k

pub next_goal : {a b : List Tree} {t u : Table} (h : Handler) (n : ℕ) (gs : List (GoalSource × Goal)) (k : Bool) (i : ℕ) (x : GoalSource × Goal) → Goes a b t u → ArePosed a t gs → GoalsSettled h t.mode n a t gs k → i < length gs
    → AreDecidedIn h (mode_of t.mode) n (content_of a t.entries) (goals_at a (drop i gs)) k → NextIs h t.mode n a t b u (get_or gs i x) (drop (i + 1) gs) k
next_goal {a} {b} {t} {u} h n gs k i x goes posed here below rest =
    let g : GoalSource × Goal = get_or gs i x in
    let p : Premise = premise_at a g in
    let c : Content = content_of b u.entries in
    let head = head_is h (mode_of t.mode) n (content_of a t.entries) p (goals_at a (drop (i + 1) gs)) k (subst (λ zs. AreDecidedIn h (mode_of t.mode) n (content_of a t.entries) (goals_at a zs) k) (drop_more gs i x below) rest) in
    let own : IsOfTable (content_of a t.entries) p = here.each p (among_by (premise_at a) gs g (among_get gs i x below)) in
    let there = one_then h (mode_of t.mode) head.at (content_of a t.entries) c p head.answer goes.continues own head.decided in
    let one = posed i x below in
    let env : tree_at b g.1.param_env.node ≡ p.environment = goes.extends.kept g.1.param_env.node one.holds.env.within in
    let predicate : tree_at b g.1.predicate.node ≡ p.predicate = goes.extends.kept g.1.predicate.node one.holds.predicate.within in
    record {
      answer = head.answer;
      below = (head.at, head.less, rw (goes.mode, env, predicate) there);
      no = head.no;
      yes = head.yes;
    }

-- in a step that asked the first goals: each was yes, and nothing is left or was found out
pub record IsStepSoFar (h : Handler) (n : ℕ) (a : List Tree) (t : Table) (after : List (GoalSource × Goal)) (k : Bool) (step : Step) (g g2 : SearchGraph) : Type 0 where
  pub rest : AreDecidedIn h (mode_of t.mode) n (content_of a t.entries) (goals_at a after) k
  pub left : step.left.items ≡ []
  pub certain : step.certainty ≡ certainty.Yes
  pub unchanged : step.has_changed ≡ false
  pub search : IsAsBefore g g2

pub at_end : (h : Handler) (n : ℕ) (a : List Tree) (t : Table) (gs : List (GoalSource × Goal)) (i : ℕ) (k : Bool) → length gs ≤ i → AreDecidedIn h (mode_of t.mode) n (content_of a t.entries) (goals_at a (drop i gs)) k → k ≡ true
at_end h n a t gs i k long r =
    none_left h (mode_of t.mode) n (content_of a t.entries) k (subst (λ zs. AreDecidedIn h (mode_of t.mode) n (content_of a t.entries) (goals_at a zs) k) (drop_all i gs long) r)

-- a step from where the steps began
pub step_decided : {A : Type 0} {r : Result A EvalError} {P : A → Type 0} {new : SearchGraph} (h : Handler) (n : ℕ) (k : Bool) {a a2 : Cx} {t t2 : Table} {g g2 : SearchGraph} {gs gs2 : List (GoalSource × Goal)} {d : ℕ} → a2 ≡ a → t2 ≡ t → g2 ≡ g → gs2 ≡ gs
    → GoalsSettled h t.mode n a.nodes t gs k → CanDecide h a g n d → (GoalsSettled h t2.mode n a2.nodes t2 gs2 k → CanDecide h a2 g2 n d → Decides k r P g2 new) → Decides k r P g new
step_decided h n k p q s u here can f = (rw (p, q, s, u) at f) here can
