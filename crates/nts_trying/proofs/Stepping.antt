-- Goals that are evaluated in steps: what was asked so far, what is left, and what is proved.
use Rattle.std.proofs.Common.{◌≡◌, ◌⊎◌, true, false, inl, inr, ⊎_elim, ℕ, zero, suc, ◌+◌, ◌<◌, List, [], ◌∷◌, ◌++◌, map, length, take, get_or, refl, sym, ap, ◌∙◌, subst, arith}
use Rattle.std.specs.Prelude.{All, Result, Ok, Err, OnErr}
use Rattle.std.specs.Result.{is_err}
use Rattle.nts_trying.proofs.Labels.{content_same}
use Rattle.std.proofs.lemmas.List.Elements.{All-head, All-tail}
use Rattle.nts_model.specs.Lists.{Among}
use Rattle.nts_model.specs.Derivations.Rules.{Mode, GoalKind, step_kind}
use Rattle.nts_model.specs.Derivations.Proofs.{Assumed, passed}
use Rattle.nts_theory.proofs.Derivations.Assuming.{Covers, covers_passed}
use Rattle.nts_certainty.specs.declared.sources.PathKind.{PathKind}
use Rattle.nts_meaning.specs.nts_search.specs.declared.kinds.CurrentGoalKind.{CurrentGoalKind}
use Rattle.nts_meaning.specs.nts_search.specs.Kinds.{goal_kind_of}
use Rattle.nts_candidates.specs.Offered.{path_kind_of, source_of}
use Rattle.nts_theory.specs.Telling.{CanAsk}
use Rattle.nts_theory.specs.Telling.RefusesOne.{cuts_one}
use Rattle.nts_meaning.specs.nts_search.specs.Searching.{IsStack}
use Rattle.nts_meaning.specs.Searching.{IsHead, AreLater, IsGoalCut}
use Rattle.nts_meaning.proofs.Cuts.{goal_cut_before}
use Rattle.nts_meaning.proofs.Rounds.{not_cut}
use Rattle.nts_trying.specs.Stopping.{IsTurnRefused, IsTurnCut, StopsIn, RefusesAmong}
use Rattle.nts_meaning.specs.Meant.{IsNestedSince}
use Rattle.nts_meaning.proofs.Searching.{stays_more, none_passed}
use Rattle.nts_model.specs.Terms.Trees.{Tree}
use Rattle.nts_model.specs.Tables.Contents.{Content}
use Rattle.nts_model.specs.Derivations.Sequents.{Premise}
use Rattle.nts_model.specs.Tables.Passing.{BringsOnly}
use Rattle.nts_model.specs.Tables.Resolving.{deeply_resolved}
use Rattle.nts_model.specs.Derivations.Handlers.{Handler}
use Rattle.nts_model.proofs.Lists.{among_left, among_right}
use Rattle.nts_theory.proofs.Derivations.ByCandidate.{among_mapped}
use Rattle.nts_certainty.specs.declared.certainty.Certainty.{Certainty}
use Rattle.nts_certainty.specs.declared.certainty.Certainty.TheVariants as certainty
use Rattle.nts_certainty.specs.declared.sources.GoalSource.{GoalSource}
use Rattle.nts_certainty.specs.Certainties.{both}
use Rattle.nts_store.specs.Growth.{Extends, tree_at}
use Rattle.nts_terms.specs.declared.cx.Cx.{Cx}
use Rattle.nts_terms.specs.declared.handles.Goal.{Goal}
use Rattle.nts_terms.specs.declared.modes.TypingMode.{TypingMode}
use Rattle.nts_terms.specs.Modes.{mode_of}
use Rattle.nts_terms.specs.Handles.{HoldsGoal}
use Rattle.nts_unify.specs.Reading.{content_of}
use Rattle.nts_unify.specs.Lawful.{content_of-extended}
use Rattle.nts_table.specs.Tables.{Table, IsTable}
use Rattle.nts_response.specs.Forms.{premise_at}
use Rattle.nts_meaning.specs.Evaluation.{Goes, IsPosed, asked_terms, goals_at}
use Rattle.nts_trying.specs.Stepping.{ArePosed, terms_of, AreLeft, AreSettled, left_after, none_left, is_left, is_done}
use Rattle.nts_meaning.specs.Telling.{Ruling, Reaches, Asked, Refused}
use Rattle.nts_theory.specs.Telling.Reaches.{asks_nothing, then_asks}
use Rattle.nts_theory.specs.Telling.RefusesOne.{refuses_one}
use Rattle.nts_meaning.specs.Meant.{Since, IsProvedSince, IsProvedFromSince, EvaluatesUnder, IsRefusedUnder, ReachesBy, RefusesOneOf}
use Rattle.nts_meaning.proofs.Evaluating.{IsPosed-later, HoldsGoal-extended}
use Rattle.nts_meaning.proofs.Running.{both_sure, Stays-later}
use Rattle.nts_certainty.specs.declared.sources.HasChanged.{HasChanged}
use Rattle.nts_meaning.proofs.AskedGoals.{was_asked}
use Rattle.nts_meaning.proofs.BackEdges.{last_inductive}
use Rattle.nts_meaning.specs.nts_search.specs.declared.stack.SearchGraph.{SearchGraph}

-- elements of lists
pub among_get : {X : Type 0} (xs : List X) (i : ℕ) (d : X) → i < length xs → Among xs (get_or xs i d)
among_get [] i d l = absurd (omega arith)
among_get (x ∷ xs) zero d l = inl refl
among_get (x ∷ xs) (suc i) d l = inr (among_get xs i d (omega arith))

pub all_among : {X : Type 0} (P : X → Type 0) (xs : List X) (x : X) → All P xs → Among xs x → P x
all_among P [] x h i = absurd i
all_among P (y ∷ xs) x h (inl e) = subst P (sym e) (All-head P y xs h)
all_among P (y ∷ xs) x h (inr i) = all_among P xs x (All-tail P y xs h) i

all_from : {X : Type 0} (P : X → Type 0) (xs : List X) → ((x : X) → Among xs x → P x) → All P xs
all_from P xs h = λ i d l. h (get_or xs i d) (among_get xs i d l)

among_image : {X Y : Type 0} (f : X → Y) (xs : List X) (x : X) → Among xs x → Among (map f xs) (f x)
among_image f [] x i = absurd i
among_image f (y ∷ xs) x (inl e) = inl (ap f e)
among_image f (y ∷ xs) x (inr i) = inr (among_image f xs x i)

take_next : {X : Type 0} (xs : List X) (i : ℕ) (d x : X) → i < length xs → Among (take (suc i) xs) x → Among (take i xs) x ⊎ (x ≡ get_or xs i d)
take_next [] i d x l h = absurd (omega arith)
take_next (y ∷ xs) zero d x l (inl e) = inr e
take_next (y ∷ xs) zero d x l (inr h) = absurd h
take_next (y ∷ xs) (suc i) d x l (inl e) = inl (inl e)
take_next (y ∷ xs) (suc i) d x l (inr h) = ⊎_elim (λ k. inl (inr k)) (λ e. inr e) (take_next xs i d x (omega arith) h)

-- goals in a store that has grown
premise_same : {a b : List Tree} (g : GoalSource × Goal) → Extends a b → HoldsGoal a g.1 → premise_at b g ≡ premise_at a g
premise_same {a} {b} g e h = cc (e.kept g.1.param_env.node h.env.within, e.kept g.1.predicate.node h.predicate.within)

pub posed_later : {a b : List Tree} {t u : Table} (gs : List (GoalSource × Goal)) → Goes a b t u → ArePosed a t gs → ArePosed b u gs
posed_later gs s h = λ i d l. IsPosed-later s (h i d l)

-- goals that are left are among those that were there
pub left_among : {gs left : List (GoalSource × Goal)} → AreLeft gs left → (x : GoalSource × Goal) → Among left x → Among gs x
left_among none_left x i = i
left_among (is_left g h) x (inl e) = inl e
left_among (is_left g h) x (inr i) = inr (left_among h x i)
left_among (is_done g h) x i = inr (left_among h x i)

pub left_refl : (gs : List (GoalSource × Goal)) → AreLeft gs gs
left_refl [] = none_left
left_refl (g ∷ gs) = is_left g (left_refl gs)

-- those that are left are posed
pub posed_left : {a b : List Tree} {t u : Table} (gs left : List (GoalSource × Goal)) → Goes a b t u → ArePosed a t gs → AreLeft gs left → ArePosed b u left
posed_left {a} {b} {t} {u} gs left s h k = all_from (λ g. IsPosed b u g.1) left (λ g i. IsPosed-later s (all_among (λ g. IsPosed a t g.1) gs g h (left_among k g i)))

-- labels of some of the goals
only_sub : (xs ys : List Tree) {c d : Content} → ((t : Tree) → Among xs t → Among ys t) → BringsOnly xs c d → BringsOnly ys c d
only_sub xs ys f h = record { labels = λ P q m. h.labels P q (λ t i. m t (f t i)) }

term_among : (a : List Tree) (gs : List (GoalSource × Goal)) (g : GoalSource × Goal) (t : Tree) → Among gs g → Among (asked_terms a g.1) t → Among (terms_of a gs) t
term_among a [] g t i j = absurd i
term_among a (x ∷ gs) g t (inl e) j = among_left (asked_terms a x.1) (terms_of a gs) t (subst (λ z. Among (asked_terms a z.1) t) e j)
term_among a (x ∷ gs) g t (inr i) j = among_right (asked_terms a x.1) (terms_of a gs) t (term_among a gs g t i j)

among_both : {X : Type 0} (xs ys : List X) (x : X) → Among (xs ++ ys) x → Among xs x ⊎ Among ys x
among_both [] ys x h = inr h
among_both (z ∷ xs) ys x (inl e) = inl (inl e)
among_both (z ∷ xs) ys x (inr h) = ⊎_elim (λ k. inl (inr k)) (λ k. inr k) (among_both xs ys x h)

term_of_some : (a : List Tree) (gs : List (GoalSource × Goal)) (t : Tree) → Among (terms_of a gs) t → (g : GoalSource × Goal) × Among gs g × Among (asked_terms a g.1) t
term_of_some a [] t h = absurd h
term_of_some a (g ∷ gs) t h =
    ⊎_elim (λ k. (g, inl refl, k)) (λ k. (let r = term_of_some a gs t k in (r.0, inr r.1, r.2))) (among_both (asked_terms a g.1) (terms_of a gs) t h)

terms_same : {a b : List Tree} (g : Goal) (t : Tree) → Extends a b → HoldsGoal a g → Among (asked_terms b g) t → Among (asked_terms a g) t
terms_same {a} {b} g t e h i = rw (e.kept g.param_env.node h.env.within, e.kept g.predicate.node h.predicate.within) at i

pub only_one : {a b : List Tree} {t : Table} {c d : Content} (gs : List (GoalSource × Goal)) (g : GoalSource × Goal) → Extends a b → ArePosed a t gs → Among gs g → BringsOnly (asked_terms b g.1) c d → BringsOnly (terms_of a gs) c d
only_one {a} {b} {t} gs g e h i k =
    let p = all_among (λ g. IsPosed a t g.1) gs g h i in
    only_sub (asked_terms b g.1) (terms_of a gs) (λ x j. term_among a gs g x i (terms_same g.1 x e p.holds j)) k

pub only_left : {a b : List Tree} {t : Table} {c d : Content} (gs left : List (GoalSource × Goal)) → Extends a b → ArePosed a t gs → AreLeft gs left → BringsOnly (terms_of b left) c d → BringsOnly (terms_of a gs) c d
only_left {a} {b} {t} gs left e h k o =
    only_sub (terms_of b left) (terms_of a gs)
    (λ x j.
    let r = term_of_some b left x j in
    let i = left_among k r.0 r.1 in
    let p = all_among (λ g. IsPosed a t g.1) gs r.0 h i in
    term_among a gs r.0 x i (terms_same r.0.1 x e p.holds r.2)) o

-- the trees of a goal in a smaller store
earlier_trees : {a b : List Tree} {g : Goal} → Extends a b → HoldsGoal a g → (P : Tree → Tree → Type 0) → P (tree_at b g.param_env.node) (tree_at b g.predicate.node) → P (tree_at a g.param_env.node) (tree_at a g.predicate.node)
earlier_trees {a} {b} {g} e held P x = subst (λ v. P v (tree_at a g.predicate.node)) (e.kept g.param_env.node held.env.within) (subst (P (tree_at b g.param_env.node)) (e.kept g.predicate.node held.predicate.within) x)

-- one goal more was asked, or passed over
module _ {a b : List Tree} {t : Table} (u : Table) (h : Ruling) (mode : TypingMode) (gs : List (GoalSource × Goal)) (g : GoalSource × Goal) (posed : ArePosed a t gs) (i : Among gs g) (e : Extends a b) (before : ReachesBy h mode a t b u gs) where
  abbrev here : Content
  here = content_of b u.entries

  same_premise : premise_at b g ≡ premise_at a g
  same_premise = (let p = all_among (λ g. IsPosed a t g.1) gs g posed i in premise_same g e p.holds)

  can_ask : IsTable b u → CanAsk here
  can_ask w = record { sound = w.now.sound; current = w.now.proper.current }

  pub reach_more : {d : List Tree} {sure : Certainty} {changed : HasChanged} (v : Table) → IsTable b u → Extends b d → {D : Type 0} → EvaluatesUnder h mode b u d v g.1 sure changed ⊎ D × (v.entries ≡ u.entries) → ReachesBy h mode a t d v gs
  reach_more {d} v w f (inl x) =
      let p = premise_at a g in
      then_asks here p before (among_image (premise_at a) gs g i) (can_ask w) (subst (λ (q : Premise). Asked h (mode_of mode) here (content_of d v.entries) (deeply_resolved here q.environment) (deeply_resolved here q.predicate)) same_premise (was_asked x))
  reach_more {d} v w f (inr (deep, x)) = subst (Reaches h (mode_of mode) (goals_at a gs) (content_of a t.entries)) (sym (ap (content_of d) x ∙ content_of-extended f w.now)) before

  -- .. or the goals stop there
  pub stop_more : IsTable b u → (z : CurrentGoalKind) (k : PathKind) → path_kind_of k ≡ step_kind (goal_kind_of z) (source_of g.0) → (s : SearchGraph)
      → IsRefusedUnder h mode b u g.1 ⊎ IsGoalCut a s here mode (deeply_resolved here (tree_at b g.1.param_env.node)) (deeply_resolved here (tree_at b g.1.predicate.node)) k → StopsIn s z h mode a (content_of a t.entries) gs
  stop_more table z k same s stopped = (record { goal = g; among = i; table = here; reaches = before; can_ask = can_ask table }, by_case stopped)
    where
      held : HoldsGoal a g.1
      held = (let p = all_among (λ x. IsPosed a t x.1) gs g posed i in p.holds)

      by_case : IsRefusedUnder h mode b u g.1 ⊎ IsGoalCut a s here mode (deeply_resolved here (tree_at b g.1.param_env.node)) (deeply_resolved here (tree_at b g.1.predicate.node)) k
          → Refused h (mode_of mode) here (deeply_resolved here (tree_at a g.1.param_env.node)) (deeply_resolved here (tree_at a g.1.predicate.node)) ⊎ ((q : PathKind) × (path_kind_of q ≡ step_kind (goal_kind_of z) (source_of g.0)) × IsGoalCut a s here mode (deeply_resolved here (tree_at a g.1.param_env.node)) (deeply_resolved here (tree_at a g.1.predicate.node)) q)
      by_case (inl x) = inl (earlier_trees e held (λ v w. Refused h (mode_of mode) here (deeply_resolved here v) (deeply_resolved here w)) x)
      by_case (inr c) = inr (k, same, earlier_trees e held (λ v w. IsGoalCut a s here mode (deeply_resolved here v) (deeply_resolved here w) k) c)

-- a step over the goals that are left, after the steps before
reaches_into : {h : Ruling} {mode : Mode} (gs hs : List Premise) {c d e : Content} → ((p : Premise) → Among gs p → Among hs p) → Reaches h mode hs c d → Reaches h mode gs d e → Reaches h mode hs c e
reaches_into gs hs f h asks_nothing = h
reaches_into gs hs f h (then_asks x p r i k q) = then_asks x p (reaches_into gs hs f h r) (f p i) k q

module _ {a b : List Tree} {t : Table} (u : Table) (h : Ruling) (mode : TypingMode) (gs left : List (GoalSource × Goal)) (posed : ArePosed a t gs) (some : AreLeft gs left) (e : Extends a b) (before : ReachesBy h mode a t b u gs) where
  goals_left : (p : Premise) → Among (goals_at b left) p → Among (goals_at a gs) p
  goals_left p j =
      let r = among_mapped (premise_at b) left p j in
      let i = left_among some r.0 r.1 in
      let q = all_among (λ g. IsPosed a t g.1) gs r.0 posed i in
      subst (Among (goals_at a gs)) (sym (r.2 ∙ premise_same r.0 e q.holds)) (among_image (premise_at a) gs r.0 i)

  pub reach_step : (d : List Tree) (v : Table) → ReachesBy h mode b u d v left → ReachesBy h mode a t d v gs
  reach_step d v x = reaches_into (goals_at b left) (goals_at a gs) goals_left before x

  pub stop_step : (s r : SearchGraph) (z : CurrentGoalKind) → IsStack a s → All (IsHead a) s.stack.items → AreLater s.stack.items r.stack.items → StopsIn r z h mode b (content_of b u.entries) left → StopsIn s z h mode a (content_of a t.entries) gs
  stop_step s r z stack heads later (x, stopped) =
      let i = left_among some x.goal x.among in (
        record { goal = x.goal; among = i; table = x.table; reaches = reaches_into (goals_at b left) (goals_at a gs) goals_left before x.reaches; can_ask = x.can_ask },
        by_case (let p = all_among (λ y. IsPosed a t y.1) gs x.goal posed i in p.holds) stopped,
      )
    where
      by_case : HoldsGoal a x.goal.1 → IsTurnRefused h mode b (content_of b u.entries) left x ⊎ IsTurnCut r z h mode b (content_of b u.entries) left x
          → Refused h (mode_of mode) x.table (deeply_resolved x.table (tree_at a x.goal.1.param_env.node)) (deeply_resolved x.table (tree_at a x.goal.1.predicate.node))
          ⊎ ((q : PathKind) × (path_kind_of q ≡ step_kind (goal_kind_of z) (source_of x.goal.0)) × IsGoalCut a s x.table mode (deeply_resolved x.table (tree_at a x.goal.1.param_env.node)) (deeply_resolved x.table (tree_at a x.goal.1.predicate.node)) q)
      by_case held (inl y) = inl (earlier_trees e held (λ v w. Refused h (mode_of mode) x.table (deeply_resolved x.table v) (deeply_resolved x.table w)) y)
      by_case held (inr (k, same, c)) = inr (k, same, earlier_trees e held (λ v w. IsGoalCut a s x.table mode (deeply_resolved x.table v) (deeply_resolved x.table w) k) (goal_cut_before e stack heads later c))

-- goals that stop are refused; a cut is one of an inductive step
pub stopped_refused : {h : Ruling} {mode : TypingMode} {a : List Tree} {gs : List (GoalSource × Goal)} (t : Table) (s : SearchGraph) (z : CurrentGoalKind) → StopsIn s z h mode a (content_of a t.entries) gs → RefusesOneOf h mode (goal_kind_of z) a t gs
stopped_refused {a = a} {gs = gs} t s z (x, inl r) = refuses_one x.table (premise_at a x.goal) x.reaches (among_image (premise_at a) gs x.goal x.among) x.can_ask r
stopped_refused {a = a} {gs = gs} t s z (x, inr (k, same, (i, of, c))) =
    cuts_one x.table (premise_at a x.goal) x.reaches (among_image (premise_at a) gs x.goal x.among) (sym same ∙ ap path_kind_of (last_inductive k c)) c.elsewhere

-- on an empty stack nothing is cut
pub stopped_root : {h : Ruling} {mode : TypingMode} {a : List Tree} {c : Content} {gs : List (GoalSource × Goal)} (s : SearchGraph) (z : CurrentGoalKind) → s.stack.items ≡ [] → StopsIn s z h mode a c gs → RefusesAmong h mode a c gs
stopped_root s z none (x, inl r) = (x, r)
stopped_root s z none (x, inr (k, same, c)) = (x, not_cut s none (inr c))

-- an error left the table as it was, in a store that may have grown
pub after_error : {T E P : Type 0} (r : Result T E) → OnErr r P → is_err r ≡ true → P
after_error (Ok x) h e = (let z : false ≡ true = e in cc z)
after_error (Err x) h e = h

pub reach_still : {b d : List Tree} {v : Table} (a : List Tree) (t u : Table) (h : Ruling) (mode : TypingMode) (gs : List (GoalSource × Goal)) → Extends b d → IsTable b u → v ≡ u → ReachesBy h mode a t b u gs → ReachesBy h mode a t d v gs
reach_still {b} {d} {v} a t u h mode gs up w same x =
    subst (λ c. Reaches h (mode_of mode) (goals_at a gs) (content_of a t.entries) c) (sym (content_same up w same)) x

pub left_trans : {gs left more : List (GoalSource × Goal)} → AreLeft gs left → AreLeft left more → AreLeft gs more
left_trans none_left none_left = none_left
left_trans (is_done g h) k = is_done g (left_trans h k)
left_trans (is_left g h) (is_left x k) = is_left g (left_trans h k)
left_trans (is_left g h) (is_done x k) = is_done g (left_trans h k)

settled_trans : (P Q : GoalSource × Goal → Type 0) (gs left more : List (GoalSource × Goal)) → ((g : GoalSource × Goal) → Among gs g → P g → Q g) → AreSettled P gs left → AreSettled Q left more → AreSettled Q gs more
settled_trans P Q gs left more f h k = λ g i. ⊎_elim (λ j. k g j) (λ p. inr (f g i p)) (h g i)

-- the answer to one goal more is noted
left_grows : (left : List (GoalSource × Goal)) (y : GoalSource × Goal) (x : Certainty) (g : GoalSource × Goal) → Among left g → Among (left_after left y x) g
left_grows left y certainty.Yes g i = i
left_grows left y (certainty.Maybe m) g i = among_left left (y ∷ []) g i

left_noted : (left : List (GoalSource × Goal)) (y : GoalSource × Goal) (x : Certainty) → Among (left_after left y x) y ⊎ (x ≡ certainty.Yes)
left_noted left y certainty.Yes = inr refl
left_noted left y (certainty.Maybe m) = inl (among_right left (y ∷ []) y (inl refl))

left_kept : {gs left : List (GoalSource × Goal)} (y : GoalSource × Goal) → AreLeft gs left → AreLeft (gs ++ y ∷ []) (left ++ y ∷ [])
left_kept y none_left = is_left y none_left
left_kept y (is_left g h) = is_left g (left_kept y h)
left_kept y (is_done g h) = is_done g (left_kept y h)

left_dropped : {gs left : List (GoalSource × Goal)} (y : GoalSource × Goal) → AreLeft gs left → AreLeft (gs ++ y ∷ []) left
left_dropped y none_left = is_done y none_left
left_dropped y (is_left g h) = is_left g (left_dropped y h)
left_dropped y (is_done g h) = is_done g (left_dropped y h)

pub left_more : {gs left : List (GoalSource × Goal)} (y : GoalSource × Goal) (x : Certainty) → AreLeft gs left → AreLeft (gs ++ y ∷ []) (left_after left y x)
left_more y certainty.Yes h = left_dropped y h
left_more y (certainty.Maybe m) h = left_kept y h

among_taken : {X : Type 0} (xs : List X) (i : ℕ) (x : X) → Among (take i xs) x → Among xs x
among_taken [] zero x h = absurd h
among_taken [] (suc i) x h = absurd h
among_taken (y ∷ xs) zero x h = absurd h
among_taken (y ∷ xs) (suc i) x (inl e) = inl e
among_taken (y ∷ xs) (suc i) x (inr h) = inr (among_taken xs i x h)

settled_more : (P Q : GoalSource × Goal → Type 0) (gs left : List (GoalSource × Goal)) (i : ℕ) (d : GoalSource × Goal) (x : Certainty) → i < length gs → ((g : GoalSource × Goal) → Among gs g → P g → Q g) → (x ≡ certainty.Yes → Q (get_or gs i d)) → AreSettled P (take i gs) left → AreSettled Q (take (i + 1) gs) (left_after left (get_or gs i d) x)
settled_more P Q gs left i d x l f new h =
    let y = get_or gs i d in
    let next : i + 1 ≡ suc i = omega arith in
    λ g j.
    ⊎_elim
    (λ k. ⊎_elim (λ m. inl (left_grows left y x g m)) (λ p. inr (f g (among_taken gs i g k) p)) (h g k))
    (λ e. ⊎_elim (λ m. inl (subst (Among (left_after left y x)) (sym e) m)) (λ s. inr (subst Q (sym e) (new s))) (left_noted left y x))
    (take_next gs i d g l (subst (λ n. Among (take n gs) g) next j))

-- what is proved of a goal stays proved, from more
proved_later : {ready : List Tree → Type 0} {b e : List Tree} {u v : Table} {w : Cx} (A B : List Assumed) (handler : List Tree → Handler) (s : Since ready w) (mode : TypingMode) (z : GoalKind) (g : GoalSource × Goal) → HoldsGoal b g.1 → Goes b e u v → Covers A B → IsNestedSince handler s mode z A b u g → IsNestedSince handler s mode z B e v g
proved_later A B handler s mode z g h k f p =
    rw (k.extends.kept g.1.param_env.node h.env.within, k.extends.kept g.1.predicate.node h.predicate.within) (stays_more (covers_passed (step_kind z (source_of g.0)) A B f) (Stays-later k p))

holds_later : {a b : List Tree} {t : Table} (gs : List (GoalSource × Goal)) (g : GoalSource × Goal) → ArePosed a t gs → Extends a b → Among gs g → HoldsGoal b g.1
holds_later {a} {b} {t} gs g h e i = (let p = all_among (λ x. IsPosed a t x.1) gs g h i in HoldsGoal-extended e p.holds)

pub settled_proved : {ready : List Tree → Type 0} {a b e : List Tree} {t u v : Table} {w : Cx} (A B : List Assumed) (handler : List Tree → Handler) (s : Since ready w) (mode : TypingMode) (z : GoalKind) (gs left : List (GoalSource × Goal)) (i : ℕ) (d : GoalSource × Goal) (x : Certainty) → i < length gs → ArePosed a t gs → Extends a b → Goes b e u v → Covers A B
    → (x ≡ certainty.Yes → IsNestedSince handler s mode z B e v (get_or gs i d)) → AreSettled (IsNestedSince handler s mode z A b u) (take i gs) left → AreSettled (IsNestedSince handler s mode z B e v) (take (i + 1) gs) (left_after left (get_or gs i d) x)
settled_proved {ready} {a} {b} {e} {t} {u} {v} A B handler s mode z gs left i d x l h k goes f new old =
    settled_more (IsNestedSince handler s mode z A b u) (IsNestedSince handler s mode z B e v) gs left i d x l (λ g j p. proved_later A B handler s mode z g (holds_later gs g h k j) goes f p) new old

pub settled_step : {ready : List Tree → Type 0} {a b e : List Tree} {t u v : Table} {w : Cx} (A B : List Assumed) (handler : List Tree → Handler) (s : Since ready w) (mode : TypingMode) (z : GoalKind) (gs left more : List (GoalSource × Goal)) → ArePosed a t gs → Extends a b → Goes b e u v → Covers A B
    → AreSettled (IsNestedSince handler s mode z A b u) gs left → AreSettled (IsNestedSince handler s mode z B e v) left more → AreSettled (IsNestedSince handler s mode z B e v) gs more
settled_step {ready} {a} {b} {e} {t} {u} {v} A B handler s mode z gs left more h k goes f old new =
    settled_trans (IsNestedSince handler s mode z A b u) (IsNestedSince handler s mode z B e v) gs left more (λ g i p. proved_later A B handler s mode z g (holds_later gs g h k i) goes f p) old new

pub sure_more : (old x : Certainty) (left : List (GoalSource × Goal)) (y : GoalSource × Goal) → (old ≡ certainty.Yes → left ≡ []) → both old x ≡ certainty.Yes → left_after left y x ≡ []
sure_more old x left y h e = (let z = both_sure old x e in subst (λ c. left_after left y c ≡ []) (sym z.1) (h z.0))

-- .. where nothing is assumed
pub settled_rooted : {ready : List Tree → Type 0} {w : Cx} (b : List Tree) (u : Table) (A : List Assumed) (handler : List Tree → Handler) (s : Since ready w) (mode : TypingMode) (z : GoalKind) (gs left : List (GoalSource × Goal)) → A ≡ [] → AreSettled (IsNestedSince handler s mode z A b u) gs left → AreSettled (λ g. IsProvedSince handler s mode b u g.1) gs left
settled_rooted b u A handler s mode z gs left none h = λ g i. ⊎_elim
    (λ j. inl j)
    (λ p. inr (subst (λ B. IsProvedFromSince handler s mode B b u g.1) (ap (passed (step_kind z (source_of g.0))) none ∙ none_passed (step_kind z (source_of g.0))) p))
    (h g i)

pub settled_after : {ready : List Tree → Type 0} {a b e : List Tree} {t u v : Table} {w : Cx} (handler : List Tree → Handler) (s : Since ready w) (mode : TypingMode) (gs left : List (GoalSource × Goal)) → ArePosed a t gs → Extends a b → Goes b e u v
    → AreSettled (λ g. IsProvedSince handler s mode b u g.1) gs left → AreSettled (λ g. IsProvedSince handler s mode e v g.1) gs left
settled_after {ready} {a} {b} {e} {t} {u} {v} handler s mode gs left h k goes old = λ g i. ⊎_elim
    (λ j. inl j)
    (λ p. inr (let held = holds_later gs g h k i in rw (goes.extends.kept g.1.param_env.node held.env.within, goes.extends.kept g.1.predicate.node held.predicate.within) (Stays-later goes p)))
    (old g i)
