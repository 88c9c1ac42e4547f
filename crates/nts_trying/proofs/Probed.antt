-- What was found in a table that is gone, seen from the table that asked.
use Rattle.std.proofs.Common.{◌≡◌, inl, inr, true, false, List, [], ◌∷◌, ◌++◌, refl, sym, ap, ◌∙◌, subst}
use Rattle.std.specs.Prelude.{All}
use Rattle.nts_model.specs.Derivations.Proofs.{Assumed}
use Rattle.nts_model.specs.Searching.Stacks.{IsProvedFrom, IsDerivedFrom}
use Rattle.nts_model.specs.Terms.Trees.{Tree}
use Rattle.nts_model.specs.Tables.Contents.{Content}
use Rattle.nts_model.specs.Tables.Passing.{TablePasses, BringsOnly}
use Rattle.nts_model.specs.Derivations.Rules.{Meaning, Mode}
use Rattle.nts_model.specs.Canonical.Inputs.{PositionKind}
use Rattle.nts_model.specs.Answers.Responses.{Response as Answer, answer_sequent, IsOverPositions}
use Rattle.nts_certainty.specs.declared.certainty.Certainty.{Certainty}
use Rattle.nts_certainty.specs.declared.certainty.MaybeInfo.{MaybeInfo}
use Rattle.nts_certainty.specs.declared.certainty.Certainty.TheVariants as certainty
use Rattle.nts_store.specs.Formed.{AreFormed}
use Rattle.nts_store.specs.Growth.{tree_at, Extends}
use Rattle.nts_store.proofs.Growing.{Extends-trans}
use Rattle.nts_terms.specs.declared.handles.GenericArg.{GenericArg}
use Rattle.nts_terms.specs.declared.handles.Goal.{Goal}
use Rattle.nts_terms.specs.Handles.{HoldsGoal}
use Rattle.nts_unify.specs.Reading.{content_of}
use Rattle.nts_unify.specs.Lawful.{content_of-extended}
use Rattle.nts_table.specs.Tables.{Table, IsTable}
use Rattle.nts_candidates.specs.Offered.{candidate_of}
use Rattle.nts_canonical.specs.declared.types.Canonical.{Canonical}
use Rattle.nts_canonical.specs.declared.types.CanonicalInput.{CanonicalInput}
use Rattle.nts_canonical.specs.Forms.{form_of, trees_of}
use Rattle.nts_canonical.specs.Kinds.{AreInputKinds}
use Rattle.nts_canonical.specs.Building.{IsArgOf}
use Rattle.nts_response.specs.declared.types.Response.{Response}
use Rattle.nts_response.specs.Forms.{response_at, HoldsResponse}
use Rattle.nts_response.proofs.Each.{response_kept}
use Rattle.nts_model.proofs.Tables.Bringing.{only-refl}
use Rattle.nts_meaning.specs.Asking.{first_table, first_values, asked_environment, asked_predicate}
use Rattle.nts_theory.specs.Telling.{IsResponseOf, Verdict, SaysOf, IsFound}
use Rattle.nts_meaning.specs.Telling.{Ruling, Replies}
use Rattle.nts_terms.specs.declared.modes.TypingMode.{TypingMode}
use Rattle.nts_terms.specs.Modes.{mode_of}
use Rattle.nts_candidates.specs.declared.data.CandidateData.{CandidateData}
use Rattle.nts_theory.specs.Telling.{IsPlainResponse}
use Rattle.nts_theory.specs.Telling.Replies.{replies}
use Rattle.nts_meaning.specs.Meant.{HasRunTo}
use Rattle.nts_trying.specs.Found.{Found}
use Rattle.nts_meaning.specs.Answering.{is_kept, told_in, IsAnswerTo, TellsNoMore, is_yes}
use Rattle.nts_meaning.specs.Evaluation.{Goes, asked_terms}
use Rattle.nts_meaning.proofs.AnsweredQueries.{args_later, args_know, query_passes, query_table, query_says}
use Rattle.nts_meaning.proofs.AskedGoals.{trees_kept}
use Rattle.nts_meaning.proofs.Evaluating.{Goes-extends, committed}
use Rattle.nts_meaning.proofs.Fitting.{answer_to}
use Rattle.nts_trying.proofs.MergedResponses.{told_unsure, unsure_yes}
use Rattle.nts_meaning.proofs.QueryTables.{first_sides}
use Rattle.nts_theory.proofs.Refutation.QueryLabels.{is_label_in, table_in}
use Rattle.nts_meaning.specs.nts_search.proofs.StackLater.{response_same}
use Rattle.nts_meaning.proofs.Running.{term_table}

-- what was found stays found
pub found_later : {P : List Tree → Table → Type 0} {a b e : List Tree} {t : Table} {g : Goal} {qs : List GenericArg} (r : Canonical Response) → Extends b e → Found P a b t g qs r → Found P a e t g qs r
found_later {P} {a} {b} {e} {t} {g} {qs} r k f =
    record {
      store = f.store;
      after = f.after;
      formed = f.formed;
      goes = f.goes;
      labels = f.labels;
      extends = Extends-trans f.extends k;
      says = rw (response_same b e r k f.holds) f.says;
      holds = response_kept b e r.value k f.holds;
      no_more = f.no_more;
      sure = f.sure;
    }

pub found_with : {P Q : List Tree → Table → Type 0} {a b : List Tree} {t : Table} {g : Goal} {qs : List GenericArg} (r : Canonical Response) → ((c : List Tree) (u : Table) → P c u → Q c u) → Found P a b t g qs r → Found Q a b t g qs r
found_with r p f =
    record {
      store = f.store;
      after = f.after;
      formed = f.formed;
      goes = f.goes;
      labels = f.labels;
      extends = f.extends;
      says = f.says;
      holds = f.holds;
      no_more = f.no_more;
      sure = λ y. p f.store f.after (f.sure y);
    }

-- the response of a table that went on
pub found_in : {P : List Tree → Table → Type 0} {a b e : List Tree} {t u : Table} {g : Goal} {qs : List GenericArg} (r : Canonical Response) (x : Certainty) → Goes a b t u → AreFormed b → Extends b e → BringsOnly (asked_terms a g) (content_of a t.entries) (content_of b u.entries) → All (IsArgOf a t.entries) qs
    → r.value.certainty ≡ x → IsResponseOf (told_in x (content_of b u.entries)) (trees_of b qs) (response_at e r) → HoldsResponse e r.value → TellsNoMore r → (x ≡ certainty.Yes → P b u) → Found P a e t g qs r
found_in {P} {a} {b} {e} {t} {u} {g} {qs} r x goes formed k labels args same says holds no_more sure =
    record {
      store = b;
      after = u;
      formed = formed;
      goes = goes;
      labels = labels;
      extends = k;
      says = rw (same, ← trees_kept a b t.entries qs goes.extends args) says;
      holds = holds;
      no_more = no_more;
      sure = λ y. sure (sym same ∙ y);
    }

-- .. in a snapshot s of the table t, which was taken back
abbrev pub left_in : Table → Table → Table
left_in t u = record { entries = u.entries; saved = t.saved; mode = t.mode }

pub went_in : {a b : List Tree} {t s u : Table} → IsTable a t → s.entries ≡ t.entries → s.saved ≡ t.saved ++ t.entries ∷ [] → s.mode ≡ t.mode → Goes a b s u → Goes a b t (left_in t u)
went_in {a} {b} {t} {s} {u} w same opened mode step = committed {v = left_in t u} t.entries same opened w step refl (step.saved ∙ opened) mode (sym (step.mode ∙ mode))

-- the response of the table as it was, which is not certain
pub found_still : {P : List Tree → Table → Type 0} {a b e : List Tree} {t : Table} {g : Goal} {qs : List GenericArg} (r : Canonical Response) (x : Certainty) → IsTable a t → Extends a b → AreFormed b → Extends b e → All (IsArgOf a t.entries) qs
    → r.value.certainty ≡ x → (x ≡ certainty.Yes → ⊥) → IsResponseOf (told_in x (content_of b t.entries)) (trees_of b qs) (response_at e r) → HoldsResponse e r.value → TellsNoMore r → Found P a e t g qs r
found_still {P} {a} {b} {e} {t} {g} {qs} r x w up formed k args same unsure says holds no_more =
    let goes = Goes-extends w up in
    found_in r x goes formed k (subst (BringsOnly (asked_terms a g) (content_of a t.entries)) (sym (still w up)) (only-refl (asked_terms a g) (content_of a t.entries))) args same says holds no_more (λ y. absurd (unsure y))
  where
    still : IsTable a t → Extends a b → content_of b t.entries ≡ content_of a t.entries
    still h i = content_of-extended i h.now

-- an answer that is not certain keeps its table's constraints to itself
pub plain_of : (x : Certainty) (c : Content) (qs : List Tree) (r : Answer) → IsResponseOf (told_in x c) qs r → (x ≡ certainty.Yes → ⊥) → IsPlainResponse c qs r
plain_of x c qs r h n = subst (λ z. IsResponseOf z qs r) (told_unsure x c n) h

pub doubtful : (m : MaybeInfo) → certainty.Maybe m ≡ certainty.Yes → ⊥
doubtful m e = cc

-- a yes is kept
pub not_kept : {x : Certainty} → is_kept x ≡ false → x ≡ certainty.Yes → ⊥
not_kept {x} e y = (let z : true ≡ false = sym (ap is_kept y) ∙ e in cc)

-- what a reply says: all of the table where it is certain; or, in doubt, what was known before
pub says_found : (x : Certainty) (b c : Content) (qs : List Tree) (v : Verdict) → v.is_yes ≡ is_yes x → IsResponseOf (told_in x c) qs v.response → SaysOf b c qs v
says_found certainty.Yes b c qs v e h = inl (e, h)
says_found (certainty.Maybe i) b c qs v e h = inr (e, inl h)

pub says_before : (x : Certainty) (b c : Content) (qs : List Tree) (v : Verdict) → v.is_yes ≡ is_yes x → (x ≡ certainty.Yes → ⊥) → IsPlainResponse b qs v.response → SaysOf b c qs v
says_before x b c qs v e n h = inr (e ∙ unsure_yes x n, inr h)

-- a candidate that was run in a snapshot of the table t has this response
pub run_replies : {a b : List Tree} (s t u : Table) (h : Ruling) (mode : TypingMode) (x : CandidateData) (g : Goal) (qs : List Tree) (v : Verdict) → HasRunTo h s.mode a s b u g x → s.mode ≡ mode → s.entries ≡ t.entries → AreFormed b → IsTable b u
    → BringsOnly (asked_terms a g) (content_of a s.entries) (content_of b u.entries) → SaysOf (content_of a s.entries) (content_of b u.entries) qs v → Replies h (mode_of mode) (content_of a t.entries) (tree_at a g.param_env.node) (tree_at a g.predicate.node) qs (candidate_of a x) v
run_replies {a} {b} s t u h mode x g qs v run moded same formed table labels says =
    let e = tree_at a g.param_env.node in
    let p = tree_at a g.predicate.node in
    let found : IsFound (content_of a s.entries) e p (content_of b u.entries) = record { table = term_table formed table; labels = labels } in
    subst (λ z. Replies h (mode_of mode) (content_of a z) e p qs (candidate_of a x) v) same
    (subst (λ z. Replies h (mode_of z) (content_of a s.entries) e p qs (candidate_of a x) v) moded (replies run.left run.goals run.met run.posed (content_of b u.entries) run.begun run.poses run.reaches found says))

-- what was found in the table of a query, which was made for an input of these kinds
module _ {P : List Tree → Table → Type 0} (a b e : List Tree) (q : Table) (g : Goal) (ks : List PositionKind) (input : CanonicalInput) (vs : List GenericArg) (r : Canonical Response) (found : Found P b e q g vs r)
    (kinds : AreInputKinds ks) (same : (let f = form_of a input in f.kinds) ≡ ks) (over_environment : (let f = form_of a input in IsOverPositions f.environment)) (over_predicate : (let f = form_of a input in IsOverPositions f.predicate))
    (first : content_of b q.entries ≡ first_table ks) (environment : tree_at b g.param_env.node ≡ asked_environment (form_of a input)) (predicate : tree_at b g.predicate.node ≡ asked_predicate (form_of a input))
    (holds : HoldsGoal b g) (args : All (IsArgOf b q.entries) vs) (values : trees_of b vs ≡ first_values ks) where
  abbrev d : List Tree
  d = found.store

  abbrev u : Table
  u = found.after

  later_args : All (IsArgOf d u.entries) vs
  later_args = args_later b d q.entries u.entries vs found.goes.extends found.goes.continues args

  later_values : trees_of d vs ≡ first_values ks
  later_values = trees_kept b d q.entries vs found.goes.extends args ∙ values

  pass : TablePasses (is_label_in ks) (content_of d u.entries)
  pass = query_passes b d q u g ks (form_of a input) same kinds over_environment over_predicate first environment predicate found.labels

  pub found_fits : IsAnswerTo e ks r
  found_fits =
      answer_to ks r.value.certainty r found.formed found.goes.table kinds (table_in ks (content_of d u.entries) pass) (args_know d u.entries vs (first_values ks) later_args later_values)
      (rw values at found.says) found.holds (found.goes.sides (rw first (first_sides ks))) found.no_more.no_hidden found.no_more.no_goals

  pub found_derived : (m : Meaning) (mode : Mode) (A : List Assumed) → r.value.certainty ≡ certainty.Yes → IsProvedFrom m mode A (content_of d u.entries) (tree_at d g.param_env.node) (tree_at d g.predicate.node) → IsDerivedFrom m mode A (answer_sequent (form_of a input) (response_at e r))
  found_derived m mode A sure proved =
      let later = found.goes.extends in
      let env = later.kept g.param_env.node holds.env.within ∙ environment in
      let pred = later.kept g.predicate.node holds.predicate.within ∙ predicate in
      query_says ks (content_of d u.entries) (form_of a input) (response_at e r) m mode A same
      (query_table ks found.formed found.goes.table kinds pass (args_know d u.entries vs (first_values ks) later_args later_values))
      (rw (sure, values) at found.says) over_environment over_predicate (rw (env, pred) at proved)
