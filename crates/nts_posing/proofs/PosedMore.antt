-- Goals that are posed one after the other.
use Rattle.std.proofs.Common.{◌≡◌, ◌≤◌, inl, inr, ⊎_elim, Bool, true, false, length, List, [], ◌∷◌, ◌++◌, refl, sym, ap, subst, arith, zero, suc}
use Rattle.std.proofs.lemmas.List.{append_assoc, append-nil}
use Rattle.std.proofs.lemmas.List.Elements.{All-nil, All-cons, All-append}
use Rattle.std.specs.Prelude.{All}
use Rattle.nts_model.specs.Lists.{Among}
use Rattle.nts_model.specs.Terms.Trees.{Tree}
use Rattle.nts_model.specs.Tables.Contents.{Content}
use Rattle.nts_model.specs.Derivations.Sequents.{Premise}
use Rattle.nts_model.specs.Derivations.Rules.{GoalKind}
use Rattle.nts_theory.specs.Posing.{Poses, poses_none, as_it_is, with_variables}
use Rattle.nts_posing.specs.Posed.{PosesEach, none_left, stands, is_put}
use Rattle.nts_store.specs.Growth.{Extends, tree_at}
use Rattle.nts_terms.specs.declared.handles.Goal.{Goal}
use Rattle.nts_certainty.specs.declared.sources.GoalSource.{GoalSource}
use Rattle.nts_unify.specs.Reading.{content_of}
use Rattle.nts_table.specs.Tables.{Table}
use Rattle.nts_meaning.specs.nts_search.specs.declared.kinds.CurrentGoalKind.{CurrentGoalKind}
use Rattle.nts_meaning.specs.nts_search.specs.Kinds.{goal_kind_of}
use Rattle.nts_meaning.specs.Evaluation.{Goes, IsPosed, goals_at}
use Rattle.nts_meaning.proofs.Evaluating.{IsPosed-later}
use Rattle.nts_response.specs.Forms.{premise_at}
use Rattle.nts_trying.specs.Stepping.{ArePosed, terms_of}
use Rattle.nts_trying.proofs.Adding.{goals_kept}
use Rattle.nts_model.specs.Derivations.Rules.{coherence, IsHandlers, statement_of}
use Rattle.nts_theory.proofs.Refutation.PosedGoals.{posed_in_as_it_is}
use Rattle.nts_terms.specs.Modes.{mode_of}
use Rattle.nts_posing.specs.Posed.{PosesGoals, PosesFor}
use Rattle.nts_posing.proofs.NewPosed.{terms_split, maps, puts_goal, new_posed, new_brings}
use Rattle.nts_store.specs.Formed.{AreFormed}
use Rattle.nts_theory.specs.AskedGoals.{is_asked, those_asked}
use Rattle.nts_adding.specs.Adding.{AddsFor, ArePosedIn}

pub each_append : {k : GoalKind} {c d e : Content} {ps qs rs ss : List Premise} → PosesEach k c ps d qs → PosesEach k d rs e ss → PosesEach k c (ps ++ rs) e (qs ++ ss)
each_append none_left h = h
each_append (stands p a x) h = stands p a (each_append x h)
each_append {k} {c} {e = e} {rs = rs} {ss = ss} (is_put {ps = ps} {qs = qs} p xs n x) h =
    subst (PosesEach k c (p ∷ ps ++ rs) e) (sym (append_assoc xs qs ss)) (is_put p xs n (each_append x h))

-- so they are posed as the theory says it
pub each_poses : {k : GoalKind} {c d : Content} {ps qs : List Premise} → PosesEach k c ps d qs → Poses k c ps d qs
each_poses none_left = poses_none
each_poses (stands p a x) = as_it_is p (each_poses x)
each_poses (is_put p xs n x) = with_variables p xs n (each_poses x)

-- where all are asked as they stand, they stay
longer_first : (b : Bool) (p : Premise) (ps : List Premise) → is_asked p.predicate ≡ b → length (those_asked ps) ≤ length ps → length (those_asked (p ∷ ps)) ≤ length (p ∷ ps)
longer_first true p ps q h = rw q (omega (arith, h))
longer_first false p ps q h = rw q (omega (arith, h))

no_longer : (ps : List Premise) → length (those_asked ps) ≤ length ps
no_longer [] = omega arith
no_longer (p ∷ ps) = longer_first (is_asked p.predicate) p ps refl (no_longer ps)

tails : (p : Premise) (xs ys : List Premise) → p ∷ xs ≡ p ∷ ys → xs ≡ ys
tails p xs ys e = cc e

stand_first : (b : Bool) (k : GoalKind) (c : Content) (p : Premise) (ps : List Premise) → is_asked p.predicate ≡ b → those_asked (p ∷ ps) ≡ p ∷ ps → (those_asked ps ≡ ps → PosesEach k c ps c ps) → PosesEach k c (p ∷ ps) c (p ∷ ps)
stand_first true k c p ps q e rest = stands p q (rest (tails p (those_asked ps) ps (rw q at e)))
stand_first false k c p ps q e rest =
    let same : those_asked ps ≡ p ∷ ps = rw q at e in
    let long : length (those_asked ps) ≡ length (p ∷ ps) = ap (λ l. length l) same in
    absurd (omega (arith, long, no_longer ps))

all_stand : (k : GoalKind) (c : Content) (ps : List Premise) → those_asked ps ≡ ps → PosesEach k c ps c ps
all_stand k c [] e = none_left
all_stand k c (p ∷ ps) e = stand_first (is_asked p.predicate) k c p ps refl e (all_stand k c ps)

pub all_one : (P : GoalSource × Goal → Type 0) (g : GoalSource × Goal) → P g → All P (g ∷ [])
all_one P g h = All-cons P g [] h (All-nil P)

-- no goal is posed
pub none_posed : (k : CurrentGoalKind) (ts : List Tree) (t : Table) → PosesGoals k ts ts t t [] []
none_posed k ts t = record { each = none_left; of_table = All-nil (λ (x : GoalSource × Goal). IsPosed ts t x.1); brings = record { labels = λ P q m w. (w, m) } }

-- a goal that is posed as it is
pub posed_same : (k : CurrentGoalKind) (ts : List Tree) (t : Table) (g : GoalSource × Goal) → IsPosed ts t g.1 → is_asked (tree_at ts g.1.predicate.node) ≡ true → PosesGoals k ts ts t t (g ∷ []) (g ∷ [])
posed_same k ts t g h asked =
    record {
      each = stands (premise_at ts g) asked none_left;
      of_table = all_one (λ (x : GoalSource × Goal). IsPosed ts t x.1) g h;
      brings = record { labels = λ P q m w. (w, m) };
    }

-- .. or with new variables
pub posed_new : {ts us : List Tree} {t u : Table} (k : CurrentGoalKind) (z : GoalSource × Goal) (xs : List (GoalSource × Goal)) → AddsFor ts us t.entries u.entries k z.0 z.1 xs → Goes ts us t u → IsPosed ts t z.1 → AreFormed ts → AreFormed us → ArePosedIn us u xs → is_asked (tree_at ts z.1.predicate.node) ≡ false
    → PosesGoals k ts us t u (z ∷ []) xs
posed_new {ts} {us} {t} {u} k z xs h goes before forms later all q =
    let K = goal_kind_of k in
    let p = premise_at ts z in
    let one : PosesEach K (content_of ts t.entries) (p ∷ []) (content_of us u.entries) (goals_at us xs ++ []) = is_put p (goals_at us xs) (new_posed k z.0 z.1 xs h (puts_goal ts us t.entries u.entries k z.0 z.1 xs h q) goes before forms later all q) none_left in
    record {
      each = subst (PosesEach K (content_of ts t.entries) (p ∷ []) (content_of us u.entries)) (append-nil (goals_at us xs)) one;
      of_table = all;
      brings = record { labels = λ P y m w. new_brings k z.0 z.1 xs h (puts_goal ts us t.entries u.entries k z.0 z.1 xs h q) goes before forms later all q P y m w };
    }

terms_kept : (b d : List Tree) (t : Table) (gs : List (GoalSource × Goal)) → Extends b d → ArePosed b t gs → terms_of d gs ≡ terms_of b gs
terms_kept b d t [] e h = refl
terms_kept b d t (g ∷ gs) e h =
    let p = h zero g (omega arith) in
    let env = e.kept g.1.param_env.node p.holds.env.within in
    let predicate = e.kept g.1.predicate.node p.holds.predicate.within in
    let rest = terms_kept b d t gs e (λ k x l. h (suc k) x (omega (arith, l))) in
    λ i. env i ∷ predicate i ∷ rest i

terms_left : (ts : List Tree) (xs ys : List (GoalSource × Goal)) (x : Tree) → Among (terms_of ts xs) x → Among (terms_of ts (xs ++ ys)) x
terms_left ts [] ys x i = absurd i
terms_left ts (z ∷ xs) ys x (inl e) = inl e
terms_left ts (z ∷ xs) ys x (inr (inl e)) = inr (inl e)
terms_left ts (z ∷ xs) ys x (inr (inr i)) = inr (inr (terms_left ts xs ys x i))

terms_right : (ts : List Tree) (xs ys : List (GoalSource × Goal)) (x : Tree) → Among (terms_of ts ys) x → Among (terms_of ts (xs ++ ys)) x
terms_right ts [] ys x i = i
terms_right ts (z ∷ xs) ys x i = inr (inr (terms_right ts xs ys x i))

later_all : {b d : List Tree} {t u : Table} (gs : List (GoalSource × Goal)) → Goes b d t u → ArePosed b t gs → ArePosed d u gs
later_all gs g h = λ k d l. IsPosed-later g (h k d l)

-- one goal more
module _ (k : CurrentGoalKind) (ts ms us : List Tree) (t m u : Table) (gs : List (GoalSource × Goal)) (z : GoalSource × Goal) (old more : List (GoalSource × Goal))
    (first : PosesGoals k ts ms t m gs old) (second : PosesGoals k ms us m u (z ∷ []) more) (ext : Extends ts ms) (goes : Goes ms us m u) (before : IsPosed ts t z.1) where
  alone : ArePosed ts t (z ∷ [])
  alone = all_one (λ (x : GoalSource × Goal). IsPosed ts t x.1) z before

  pub poses_more : PosesGoals k ts us t u (gs ++ z ∷ []) (old ++ more)
  poses_more =
      let c = content_of ts t.entries in
      let e = content_of us u.entries in
      let K = goal_kind_of k in
      let same : goals_at ms (z ∷ []) ≡ goals_at ts (z ∷ []) = goals_kept ts ms t (z ∷ []) ext alone in
      let kept : goals_at us old ≡ goals_at ms old = goals_kept ms us m old goes.extends first.of_table in
      let start : PosesEach K c (goals_at ts gs) (content_of ms m.entries) (goals_at us old) = subst (PosesEach K c (goals_at ts gs) (content_of ms m.entries)) (sym kept) first.each in
      let end : PosesEach K (content_of ms m.entries) (goals_at ts (z ∷ [])) e (goals_at us more) = subst (λ x. PosesEach K (content_of ms m.entries) x e (goals_at us more)) same second.each in
      record {
        each = rw (maps ts gs (z ∷ []), maps us old more) (each_append start end);
        of_table = All-append (λ (x : GoalSource × Goal). IsPosed us u x.1) old more (later_all old goes first.of_table) second.of_table;
        brings = record {
          labels = λ P q h w.
              let one = first.brings.labels P q (λ x i. h x (terms_left ts gs (z ∷ []) x i)) w in
              let two = second.brings.labels P q (λ x i. h x (terms_right ts gs (z ∷ []) x (subst (λ l. Among l x) (terms_kept ts ms t (z ∷ []) ext alone) i))) one.0 in
              (two.0, λ x i. ⊎_elim (λ j. one.1 x (subst (λ l. Among l x) (terms_kept ms us m old goes.extends first.of_table) j)) (two.1 x) (terms_split us old more x i));
        };
      }

-- goals that are posed as they are
pub posed_as_given : (k : CurrentGoalKind) (says : Tree) (ts : List Tree) (t : Table) (gs : List (GoalSource × Goal)) → ArePosed ts t gs → (mode_of t.mode ≡ coherence → IsHandlers (statement_of says) → those_asked (goals_at ts gs) ≡ goals_at ts gs) → PosesFor k says ts ts t t gs gs
posed_as_given k says ts t gs h due =
    record {
      poses = posed_in_as_it_is (mode_of t.mode) (goal_kind_of k) (content_of ts t.entries) (goals_at ts gs);
      of_table = h;
      brings = record { labels = λ P q m w. (w, m) };
      due = λ inside handlers. all_stand (goal_kind_of k) (content_of ts t.entries) (goals_at ts gs) (due inside handlers);
      changes = inl (refl, refl, refl);
    }

-- .. and in coherence with new variables
pub posed_for : {k : CurrentGoalKind} {ts us : List Tree} {t u : Table} {gs new : List (GoalSource × Goal)} (says : Tree) → mode_of t.mode ≡ coherence → IsHandlers (statement_of says) → PosesGoals k ts us t u gs new → PosesFor k says ts us t u gs new
posed_for says inside handlers h = record { poses = rw inside (each_poses h.each); of_table = h.of_table; brings = h.brings; due = λ x y. h.each; changes = inr handlers }

-- for a goal that no handler has rules about nothing is posed in another way
pub no_handlers_no_change : {k : CurrentGoalKind} {says : Tree} {ts us : List Tree} {t u : Table} {gs new : List (GoalSource × Goal)} → (IsHandlers (statement_of says) → ⊥) → PosesFor k says ts us t u gs new → new ≡ gs
no_handlers_no_change none h = elim h.changes [ inl w ↦ w.2 | inr w ↦ absurd (none w) ]
