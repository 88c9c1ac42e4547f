-- Goals of a candidate, and those of them that are asked.
use Rattle.std.proofs.Common.{◌≡◌, ℕ, inl, inr, Bool, true, false, List, [], ◌∷◌, Some, Ok, Err, Result, refl, ap, ◌∙◌, sym, subst}
use Rattle.std.specs.Prelude.{OnOk}
use Rattle.std.proofs.lemmas.List.Elements.{All-cons, All-head, All-tail}
use Rattle.nts_model.specs.Lists.{Among}
use Rattle.nts_model.specs.Terms.Trees.{Tree, kind_of, bound_predicate, IsFormed}
use Rattle.nts_model.specs.Tables.Contents.{Content}
use Rattle.nts_model.specs.Tables.Resolving.{deeply_resolved}
use Rattle.nts_model.specs.Tables.Passing.{BringsOnly}
use Rattle.nts_model.specs.Derivations.Sequents.{Premise}
use Rattle.nts_model.specs.Derivations.Rules.{Mode}
use Rattle.nts_model.specs.Derivations.Handlers.{Handler}
use Rattle.nts_model.proofs.Lists.{among_left, among_right}
use Rattle.nts_decisions.proofs.DecidingRenamed.{among_back}
use Rattle.nts_store.specs.Growth.{tree_at}
use Rattle.nts_store.specs.Formed.{AreFormed}
use Rattle.nts_store.specs.declared.fault.EvalError.{EvalError}
use Rattle.nts_store.specs.declared.fault.EvalError.TheVariants as error
use Rattle.nts_terms.specs.declared.cx.Cx.{Cx}
use Rattle.nts_terms.specs.Modes.{mode_of}
use Rattle.nts_terms.specs.declared.handles.Goal.{Goal}
use Rattle.nts_unify.specs.Reading.{content_of}
use Rattle.nts_table.specs.Tables.{Table}
use Rattle.nts_certainty.specs.declared.sources.GoalSource.{GoalSource}
use Rattle.nts_certainty.specs.declared.certainty.Certainty.{Certainty}
use Rattle.nts_certainty.specs.declared.certainty.Certainty.TheVariants as certainty
use Rattle.nts_certainty.specs.Certainties.{both, ambiguous}
use Rattle.nts_candidates.proofs.Results.{OnOk-map}
use Rattle.nts_search.specs.declared.kinds.CurrentGoalKind.{CurrentGoalKind}
use Rattle.nts_search.specs.declared.stack.SearchGraph.{SearchGraph}
use Rattle.nts_search.specs.Kinds.{goal_kind_of}
use Rattle.nts_theory.specs.AskedGoals.{is_asked, all_asked, asked_in}
use Rattle.nts_theory.proofs.Refutation.Answered.{among_split}
use Rattle.nts_decisions.specs.Deciding.{IsGoalDecided}
use Rattle.nts_decisions.specs.Faring.{AreDecidedHere}
use Rattle.nts_decisions.proofs.DecidedAliases.{decided_is_asked, all_decided, decided_asked}
use Rattle.nts_meaning.specs.Evaluation.{Runs, IsPosed, asked_terms, goals_at}
use Rattle.nts_response.specs.Forms.{premise_at}
use Rattle.nts_meaning.specs.Meant.{Rules, ruling_since}
use Rattle.nts_meaning.specs.Telling.{Reaches, RefusesOne}
use Rattle.nts_meaning.proofs.Running.{both_sure}
use Rattle.nts_trying.specs.declared.steps.AvailableDepth.TheVariants as steps
use Rattle.nts_trying.specs.Asking.{asked_data, AreAllKept, AreSomeLeftOut, KeepsAsked}
use Rattle.nts_trying.specs.Stepping.{ArePosed, terms_of}
use Rattle.nts_trying.proofs.AskedData.{data_are, predicate_kinds}
use Rattle.nts_trying.proofs.Opened.{on_ok}
use Rattle.nts_trying.proofs.Ran.{all_posed, proved_all, ok_inside}
use Rattle.nts_trying.proofs.Stepping.{stopped_refused}
use Rattle.nts_evaluation.specs.Deciding.{Decides, IsYes}
use Rattle.nts_meaning.specs.Meant.{Always, IsNestedSince}
use Rattle.nts_meaning.specs.Searching.{Searches, assumed_in}
use Rattle.nts_evaluation.specs.Deciding.{GoalsSettled}
use Rattle.nts_evaluation.specs.Promises.{BringsOnlyOf, WhereTold, AnswersDecided, StepsGoals}

terms_first : (ts : List Tree) (z : GoalSource × Goal) (zs : List (GoalSource × Goal)) (x : Tree) → (Among (terms_of ts (asked_data ts zs)) x → Among (terms_of ts zs) x) → Among (terms_of ts (asked_data ts (z ∷ zs))) x → Among (terms_of ts (z ∷ zs)) x
terms_first ts z zs x rest i = by_test (is_asked (tree_at ts z.1.predicate.node)) refl
  where
    by_test : (b : Bool) → is_asked (tree_at ts z.1.predicate.node) ≡ b → Among (terms_of ts (z ∷ zs)) x
    by_test true q = elim (among_split (asked_terms ts z.1) (terms_of ts (asked_data ts zs)) x (rw q at i)) [
      | inl j ↦ among_left (asked_terms ts z.1) (terms_of ts zs) x j
      | inr j ↦ among_right (asked_terms ts z.1) (terms_of ts zs) x (rest j)
    ]
    by_test false q = among_right (asked_terms ts z.1) (terms_of ts zs) x (rest (rw q at i))

terms_among : (ts : List Tree) (zs : List (GoalSource × Goal)) (x : Tree) → Among (terms_of ts (asked_data ts zs)) x → Among (terms_of ts zs) x
terms_among ts [] x i = i
terms_among ts (z ∷ zs) x i = terms_first ts z zs x (terms_among ts zs x) i

-- they bring no other labels, and are goals of the table
pub only_asked : (ts : List Tree) (zs : List (GoalSource × Goal)) {c d : Content} → BringsOnly (terms_of ts (asked_data ts zs)) c d → BringsOnly (terms_of ts zs) c d
only_asked ts zs h = record { labels = λ P q m w. h.labels P q (λ x i. m x (terms_among ts zs x i)) w }

posed_first : (ts : List Tree) (t : Table) (z : GoalSource × Goal) (zs : List (GoalSource × Goal)) → ArePosed ts t (z ∷ zs) → ArePosed ts t (asked_data ts zs) → ArePosed ts t (asked_data ts (z ∷ zs))
posed_first ts t z zs h rest = by_test (is_asked (tree_at ts z.1.predicate.node)) refl
  where
    by_test : (b : Bool) → is_asked (tree_at ts z.1.predicate.node) ≡ b → ArePosed ts t (asked_data ts (z ∷ zs))
    by_test true q = rw q (All-cons (λ (y : GoalSource × Goal). IsPosed ts t y.1) z (asked_data ts zs) (All-head (λ (y : GoalSource × Goal). IsPosed ts t y.1) z zs h) rest)
    by_test false q = rw q rest

pub posed_asked : (ts : List Tree) (t : Table) (zs : List (GoalSource × Goal)) → ArePosed ts t zs → ArePosed ts t (asked_data ts zs)
posed_asked ts t [] h = h
posed_asked ts t (z ∷ zs) h = posed_first ts t z zs h (posed_asked ts t zs (All-tail (λ (y : GoalSource × Goal). IsPosed ts t y.1) z zs h))

-- those that are decided are asked
module _ (h : Handler) (mode : Mode) (n : ℕ) (ts : List Tree) (t : Table) (zs : List (GoalSource × Goal)) (k : Bool) (formed : AreFormed ts) (posed : ArePosed ts t zs) (decided : AreDecidedHere h mode n (content_of ts t.entries) (goals_at ts zs) k) where
  pub each_asked : (p : Premise) → Among (goals_at ts zs) p → (m : ℕ) (b : Bool) → IsGoalDecided h mode m (deeply_resolved (content_of ts t.entries) p.environment) (deeply_resolved (content_of ts t.entries) p.predicate) b → is_asked p.predicate ≡ true
  each_asked p i m b x =
      let r = among_back (premise_at ts) zs p i in
      let posed_there = all_posed zs posed r.of r.found in
      let holds = posed_there.holds.predicate in
      let same : p.predicate ≡ tree_at ts (let o = r.of in o.1.predicate.node) = ap (λ (v : Premise). v.predicate) r.same in
      let f : IsFormed p.predicate = subst IsFormed (sym same) (formed (let o = r.of in o.1.predicate.node) holds.within) in
      let kind : kind_of p.predicate ≡ Some bound_predicate = ap kind_of same ∙ holds.fits in
      decided_is_asked h mode m (content_of ts t.entries) p b (decided.each p i) f (predicate_kinds p.predicate kind f) x

  pub asked_settled : AreDecidedHere h mode n (content_of ts t.entries) (goals_at ts (asked_data ts zs)) k
  asked_settled = rw (data_are ts zs) (decided_asked h mode n (content_of ts t.entries) (goals_at ts zs) k each_asked decided)

  pub all_settled : k ≡ true → all_asked (goals_at ts zs) ≡ true
  all_settled e = all_decided h mode n (content_of ts t.entries) (goals_at ts zs) k e each_asked decided.decided

-- the goals that were kept are asked in steps, and then so are the given ones, with what is in doubt
abbrev pub joined : Result Certainty EvalError → Certainty → Result Certainty EvalError
joined (Ok y) z = Ok (both y z)
joined (Err e) z = Err e

pub joined_fails : (r : Result Certainty EvalError) (z : Certainty) → r ≡ Err error.NoSolution → joined r z ≡ Err error.NoSolution
joined_fails r z e = ap (λ q. joined q z) e

joined_no : (r : Result Certainty EvalError) (z : Certainty) → joined r z ≡ Err error.NoSolution → r ≡ Err error.NoSolution
joined_no (Ok y) z e = absurd (cc e)
joined_no (Err e) z h = h

joined_yes : (r : Result Certainty EvalError) (z : Certainty) → joined r z ≡ Ok certainty.Yes → (r ≡ Ok certainty.Yes) × (z ≡ certainty.Yes)
joined_yes (Ok y) z e = (let sure = both_sure y z (ok_inside e) in (ap Ok sure.0, sure.1))
joined_yes (Err e) z h = absurd (cc h)

joined_ok : (P : Type 0) (r : Result Certainty EvalError) (z : Certainty) → OnOk r P → OnOk (joined r z) P
joined_ok P (Ok y) z p = p
joined_ok P (Err e) z p = tt

decides_joined : {k : Bool} {g h : SearchGraph} (r : Result Certainty EvalError) (z : Certainty) → (k ≡ true → z ≡ certainty.Yes) → Decides k r IsYes g h → Decides k (joined r z) IsYes g h
decides_joined (Ok y) z f d = (let x = d.answer in record { answer = (x.0, rw (x.1, f x.0) refl); search = d.search })
decides_joined (Err error.NoSolution) z f d = record { answer = d.answer; search = d.search }
decides_joined (Err error.Memory) z f d = record { answer = tt; search = tt }
decides_joined (Err error.Full) z f d = record { answer = tt; search = tt }

-- goals that were kept of those that were posed are asked in steps, and then so are these, with what is in doubt
pub record StepsKept (R : Rules) (a b : Cx) (g h : SearchGraph) (t u : Table) (given : List (GoalSource × Goal)) (kind : CurrentGoalKind) (depth : ℕ) (r : Result Certainty EvalError) : Type 0 where
  pub runs : Runs a b t u
  pub searches : Searches a b g h
  pub labels : OnOk r (BringsOnlyOf (terms_of a.nodes given) a t b u)
  pub proved : Always R a (λ s. r ≡ Ok certainty.Yes → (z : GoalSource × Goal) → Among given z → IsNestedSince R.handler s t.mode (goal_kind_of kind) (assumed_in b.nodes h) b.nodes u z)
  pub told : WhereTold R a g (λ m. OnOk r (Reaches m (mode_of t.mode) (asked_in (mode_of t.mode) (goals_at a.nodes given)) (content_of a.nodes t.entries) (content_of b.nodes u.entries)))
  pub refuted : WhereTold R a g (λ m. r ≡ Err error.NoSolution → RefusesOne m (mode_of t.mode) (goal_kind_of kind) (asked_in (mode_of t.mode) (goals_at a.nodes given)) (content_of a.nodes t.entries))
  pub decided : AnswersDecided R a g h depth (λ m i k. GoalsSettled m t.mode i a.nodes t given k) r IsYes

module _ (R : Rules) (a b : Cx) (g h : SearchGraph) (t u : Table) (given gone : List (GoalSource × Goal)) (kind : CurrentGoalKind) (depth n : ℕ) (r : Result Certainty EvalError) (z : Certainty) where
  all_are_stepped : (kept : List (GoalSource × Goal)) → AreAllKept a.nodes (mode_of t.mode) given kept z → StepsGoals R a b g h t u kept gone kind (steps.Below depth) n r → StepsKept R a b g h t u given kind depth (joined r z)
  all_are_stepped kept k stepped =
      let e : StepsGoals R a b g h t u given gone kind (steps.Below depth) n r = rw k.same at stepped in
      let here = content_of a.nodes t.entries in
      record {
        runs = e.runs;
        searches = e.searches;
        labels = joined_ok _ r z e.labels;
        proved = λ s y. (let sure = joined_yes r z y in proved_all _ given (e.sure sure.0) (rw sure.0 at (e.proved s)));
        told = λ s tells. joined_ok _ r z (on_ok r (subst (λ x. Reaches (ruling_since R.handler s) (mode_of t.mode) x here (content_of b.nodes u.entries)) (sym k.asked) (e.told s tells)));
        refuted = λ s tells no. subst (λ x. RefusesOne (ruling_since R.handler s) (mode_of t.mode) (goal_kind_of kind) x here) (sym k.asked) (stopped_refused t g kind (e.refuted s tells (joined_no r z no)));
        decided = λ s i b d can. decides_joined r z (λ yes. k.sure) (e.decided s i b d can);
      }

  module _ (formed : AreFormed a.nodes) (posed : ArePosed a.nodes t given) where
    some_are_stepped : (kept : List (GoalSource × Goal)) → AreSomeLeftOut a.nodes (mode_of t.mode) given kept z → StepsGoals R a b g h t u kept gone kind (steps.Below depth) n r → StepsKept R a b g h t u given kind depth (joined r z)
    some_are_stepped kept k stepped =
        let e : StepsGoals R a b g h t u (asked_data a.nodes given) gone kind (steps.Below depth) n r = rw k.those at stepped in
        let here = content_of a.nodes t.entries in
        let seen : goals_at a.nodes (asked_data a.nodes given) ≡ asked_in (mode_of t.mode) (goals_at a.nodes given) = rw k.inside (data_are a.nodes given) in
        record {
          runs = e.runs;
          searches = e.searches;
          labels = joined_ok _ r z (OnOk-map r (only_asked a.nodes given) e.labels);
          proved = λ s y. absurd (let sure = joined_yes r z y in let no : ambiguous ≡ certainty.Yes = sym k.doubt ∙ sure.1 in cc no);
          told = λ s tells. joined_ok _ r z (on_ok r (subst (λ x. Reaches (ruling_since R.handler s) (mode_of t.mode) x here (content_of b.nodes u.entries)) seen (e.told s tells)));
          refuted = λ s tells no. subst (λ x. RefusesOne (ruling_since R.handler s) (mode_of t.mode) (goal_kind_of kind) x here) seen (stopped_refused t g kind (e.refuted s tells (joined_no r z no)));
          decided = λ s i b d can.
              let m = R.handler s.base in
              decides_joined r z
              (λ yes. (let all : all_asked (goals_at a.nodes given) ≡ true = all_settled m (mode_of t.mode) i a.nodes t given b formed posed d yes in let clash : true ≡ false = sym all ∙ k.some in absurd (cc clash)))
              (e.decided s i b (asked_settled m (mode_of t.mode) i a.nodes t given b formed posed d) can);
        }

    -- goals are asked in steps by those of them that were kept
    pub steps_kept : (kept : List (GoalSource × Goal)) → KeepsAsked a.nodes (mode_of t.mode) given kept z → StepsGoals R a b g h t u kept gone kind (steps.Below depth) n r → StepsKept R a b g h t u given kind depth (joined r z)
    steps_kept kept k stepped = elim k [ inl w ↦ all_are_stepped kept w stepped | inr w ↦ some_are_stepped kept w stepped ]

-- what was kept are goals of the table
pub posed_kept : (ts : List Tree) (mode : Mode) (t : Table) (given kept : List (GoalSource × Goal)) (z : Certainty) → KeepsAsked ts mode given kept z → ArePosed ts t given → ArePosed ts t kept
posed_kept ts mode t given kept z k posed = elim k [ inl w ↦ (let same = w.same in rw same posed) | inr w ↦ (let those = w.those in rw those (posed_asked ts t given posed)) ]
