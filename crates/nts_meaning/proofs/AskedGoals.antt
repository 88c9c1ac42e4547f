-- A goal that was asked in a query: what the response that was applied says of the goal.
use Rattle.std.proofs.Common.{◌≡◌, ⊎_elim, inl, inr, Bool, List, [], ◌∷◌, map, refl, sym, ap, ◌∙◌, subst, arith, false}
use Rattle.std.specs.Prelude.{All, ◌⊎◌, ◌↔◌, Result, Ok, Err, IfOk, OnOk}
use Rattle.std.specs.Global.{Vec}
use Rattle.std.proofs.lemmas.List.Elements.{All-head, All-tail, All-cons}
use Rattle.nts_model.specs.declared.labels.Leaf.{Leaf}
use Rattle.nts_model.specs.declared.labels.Label.{Label}
use Rattle.nts_model.specs.Terms.Trees.{Tree, empty}
use Rattle.nts_model.specs.Tables.Contents.{Content}
use Rattle.nts_model.specs.Terms.Substitutions.{leaf_tree, Occurs}
use Rattle.nts_model.specs.Lists.{Among}
use Rattle.nts_model.specs.Derivations.Rules.{Meaning, Mode}
use Rattle.nts_model.specs.Derivations.Proofs.{Assumed}
use Rattle.nts_model.specs.Searching.Stacks.{IsProvedFrom, IsDerivedFrom}
use Rattle.nts_theory.proofs.Responses.AskedFrom.{asked_proved_from, proved_from_continues}
use Rattle.nts_model.specs.Canonical.Inputs.{Input, IsInput, CanonicalInput as Form, OccursIn, originals, canonical_of}
use Rattle.nts_model.specs.Tables.Passing.{TreePasses, BringsOnly}
use Rattle.nts_model.specs.Answers.Responses.{Response as Answer, RefusesResponse, answer_sequent, IsIdentity}
use Rattle.nts_model.proofs.Tables.Bringing.{passes-leaf}
use Rattle.nts_model.proofs.Canonical.CanonicalForms.{originals_are_leaves}
use Rattle.nts_certainty.specs.declared.sources.HasChanged.{HasChanged}
use Rattle.nts_certainty.specs.declared.sources.HasChanged.TheVariants as changes
use Rattle.nts_store.specs.Formed.{AreFormed}
use Rattle.nts_store.specs.Growth.{tree_at, Extends}
use Rattle.nts_store.proofs.Growing.{Extends-trans, IsIn-extended}
use Rattle.nts_terms.specs.declared.handles.GenericArg.{GenericArg}
use Rattle.nts_terms.specs.declared.handles.Goal.{Goal}
use Rattle.nts_terms.specs.Handles.{HoldsArg}
use Rattle.nts_unify.specs.Entries.{Entries}
use Rattle.nts_unify.specs.Reading.{content_of}
use Rattle.nts_unify.specs.Lawful.{content_of-extended}
use Rattle.nts_table.specs.Tables.{Table, IsTable}
use Rattle.nts_canonical.specs.declared.types.Canonical.{Canonical}
use Rattle.nts_canonical.specs.declared.types.CanonicalInput.{CanonicalInput}
use Rattle.nts_canonical.specs.Forms.{form_of, input_of, trees_of}
use Rattle.nts_canonical.specs.Building.{IsArgOf, kinds_of}
use Rattle.nts_response.specs.declared.types.Response.{Response}
use Rattle.nts_response.specs.Forms.{premise_at, response_at}
use Rattle.nts_response.specs.Applicable.{ShowsConstraints, IsApplicable, IsResponseApplied}
use Rattle.nts_theory.specs.Telling.{IsInputFor, Verdict}
use Rattle.nts_meaning.specs.Telling.{Ruling, QueryTells, QueryRefutes, Asked, Refused}
use Rattle.nts_theory.specs.RelatingCandidates.{IsCutIn}
use Rattle.nts_meaning.specs.Meant.{IsQueryRefuted, IsRefusedIn, EvaluatesGoal}
use Rattle.nts_meaning.specs.Searching.{IsCut, IsGoalCut, IsHead}
use Rattle.nts_certainty.specs.declared.sources.PathKind.{PathKind}
use Rattle.nts_terms.specs.Modes.{mode_of}
use Rattle.nts_theory.specs.Telling.Asked.{asked_by}
use Rattle.nts_theory.specs.Telling.Refused.{by_query, by_response}
use Rattle.nts_meaning.specs.Running.{Stays}
use Rattle.nts_meaning.specs.Evaluation.{IsPosed, asked_terms}
use Rattle.nts_meaning.specs.Answering.{IsQueryOf, IsAnswerTo, Evaluates, is_yes, verdict_at}
use Rattle.nts_meaning.proofs.Queried.{original_named}
use Rattle.nts_meaning.proofs.Running.{term_table, term_later}
use Rattle.nts_terms.specs.declared.modes.TypingMode.{TypingMode}
use Rattle.nts_certainty.specs.declared.certainty.Certainty.{Certainty}
use Rattle.nts_search.specs.declared.stack.SearchGraph.{SearchGraph}
use Rattle.nts_search.specs.Searching.{IsStack}
use Rattle.nts_meaning.proofs.Searching.{cut_earlier}
use Rattle.nts_meaning.proofs.SubClasses.{root_classes}

pub ok_both : {A E : Type 0} {P R : A → Type 0} {Q : Type 0} (r : Result A E) → ((x : A) → P x → Q → R x) → IfOk r P → OnOk r Q → IfOk r R
ok_both (Ok x) f p q = f x p q
ok_both (Err e) f p q = tt

pub ok_three : {A E : Type 0} {P Q R : A → Type 0} {S : Type 0} (r : Result A E) → ((x : A) → P x → Q x → S → R x) → IfOk r P → IfOk r Q → OnOk r S → IfOk r R
ok_three (Ok x) f p q s = f x p q s
ok_three (Err e) f p q s = tt

pub ok_two : {A E : Type 0} {P Q R : A → Type 0} (r : Result A E) → ((x : A) → P x → Q x → R x) → IfOk r P → IfOk r Q → IfOk r R
ok_two (Ok x) f p q = f x p q
ok_two (Err e) f p q = tt

-- arguments in a store that has grown
pub args_kept : (a b : List Tree) (e : Entries) (xs : List GenericArg) → content_of b e ≡ content_of a e → Extends a b → All (IsArgOf a e) xs → All (IsArgOf b e) xs
args_kept a b e [] same k h = λ i d l. absurd (omega (arith, l))
args_kept a b e (x ∷ xs) same k h =
    let one = All-head (IsArgOf a e) x xs h in
    let held = HoldsArg-kept one.holds in
    All-cons (IsArgOf b e) x xs (record { holds = held; known = rw (same, k.kept x.node (let z = one.holds in z.within)) one.known }) (args_kept a b e xs same k (All-tail (IsArgOf a e) x xs h))
  where
    HoldsArg-kept : HoldsArg a x → HoldsArg b x
    HoldsArg-kept z = record { within = IsIn-extended k x.node z.within; fits = rw (k.kept x.node z.within) z.fits }

pub trees_kept : (a b : List Tree) (e : Entries) (xs : List GenericArg) → Extends a b → All (IsArgOf a e) xs → trees_of b xs ≡ trees_of a xs
trees_kept a b e [] k w = refl
trees_kept a b e (x ∷ xs) k w =
    let one = All-head (IsArgOf a e) x xs w in
    let held = one.holds in
    let first = k.kept x.node held.within in
    let rest = trees_kept a b e xs k (All-tail (IsArgOf a e) x xs w) in
    λ i. first i ∷ rest i

-- the leaves of a goal pass each test that its terms pass
leaf_passes : (P : Label → Bool) (i : Input) (l : Leaf) → i.hidden ≡ empty → TreePasses P i.environment → TreePasses P i.predicate → OccursIn l i → TreePasses P (leaf_tree l)
leaf_passes P i l none e p o =
    (⊎_elim (λ h. passes-leaf P i.environment l e h.1) (λ h. ⊎_elim (λ k. passes-leaf P i.predicate l p k) (λ k. absurd (subst (Occurs l) none k)) h) o, tt)

original_passes : (P : Label → Bool) (i : Input) → IsInput i → i.hidden ≡ empty → TreePasses P i.environment → TreePasses P i.predicate → (ls : List Leaf) → ((l : Leaf) → Among ls l → Among (originals i) l) → (v : Tree) → Among (map leaf_tree ls) v → TreePasses P v
original_passes P i proper none e p [] sub v m = absurd m
original_passes P i proper none e p (l ∷ ls) sub v (inl q) = rw q (leaf_passes P i l none e p (((originals_are_leaves i proper).1 l).0 (sub l (inl refl))))
original_passes P i proper none e p (l ∷ ls) sub v (inr m) = original_passes P i proper none e p ls (λ k j. sub k (inr j)) v m

-- a response that was applied, seen from a smaller store
applied_at : {a d e : List Tree} {x y : Entries} {os : List Tree} {r : Answer} → content_of d x ≡ content_of a x → IsResponseApplied d e x y os r false [] → IsResponseApplied a e x y os r false []
applied_at {a} {d} {e} {x} {y} {os} {r} same h =
    record {
      applies = (let z = h.applies in
          record {
            chosen = z.chosen;
            stand = z.stand;
            continues = rw same at z.continues;
            alike = z.alike;
            held = z.held;
            sound = rw same at z.sound;
            complete = rw same at z.complete;
          });
      hidden_types = h.hidden_types;
      hidden = h.hidden;
      registers = h.registers;
      open_goals = h.open_goals;
      held = h.held;
      known = h.known;
      shares = rw same at h.shares;
      shows = subst (λ (z : Content). ShowsConstraints z.constraints (let c = content_of e y in c.constraints) r false) same h.shows;
    }

-- a goal of the table t in the store a, its query q in the store b, and the query's answer r in the store d
module _ {a b d : List Tree} {t : Table} {g : Goal} {q : Vec GenericArg × CanonicalInput} (posed : IsPosed a t g) (query : IsQueryOf a b t g q) (ab : Extends a b) (bd : Extends b d) where
  abbrev asked : Input
  asked = input_of a t.entries g []

  ad : Extends a d
  ad = Extends-trans ab bd

  now : content_of d t.entries ≡ content_of a t.entries
  now = content_of-extended ad posed.table.now

  pub leaves_are : trees_of d q.0.items ≡ map leaf_tree (originals asked)
  leaves_are = trees_kept b d t.entries q.0.items bd query.args ∙ query.originals

  pub kinds_are : (let f = canonical_of asked in f.kinds) ≡ kinds_of q.1
  kinds_are = sym (ap (λ (z : Form). z.kinds) query.form)

  -- the response can be applied to the leaves
  pub applicable : (r : Canonical Response) → IsAnswerTo d (kinds_of q.1) r → IsApplicable d (trees_of d q.0.items) r
  applicable r fits = subst (λ os. IsApplicable d os r) (sym leaves_are) (fits.applicable asked query.proper kinds_are)

  pub args_there : All (IsArgOf d t.entries) q.0.items
  args_there = args_kept b d t.entries q.0.items (now ∙ sym (content_of-extended ab posed.table.now)) bd query.args

  of_goal : IsInputFor (content_of a t.entries) (tree_at a g.param_env.node) (tree_at a g.predicate.node) asked
  of_goal =
      record { environment = refl; predicate = refl; hidden = refl; classes = root_classes a t.entries (let w = posed.table in let n = w.now in n.descends); proper = query.proper }

  -- it was applied
  module _ {e : List Tree} (u : Table) (r : Canonical Response) (applied : IsResponseApplied d e t.entries u.entries (trees_of d q.0.items) (response_at d r) false []) where
    here : IsResponseApplied a e t.entries u.entries (map leaf_tree (originals asked)) (response_at d r) false []
    here = subst (λ os. IsResponseApplied a e t.entries u.entries os (response_at d r) false []) leaves_are (applied_at now applied)

    pub evaluates : (h : Ruling) (mode : TypingMode) → IsAnswerTo d (kinds_of q.1) r → QueryTells h (mode_of mode) (form_of b q.1) (verdict_at d r) → (sure : Certainty) → sure ≡ r.value.certainty → (x : HasChanged) → (x ≡ changes.No) ↔ IsIdentity 0 (trees_of d r.value.var_values.items)
        → EvaluatesGoal h mode a t e u g sure x
    evaluates h mode fits told sure certain x same =
        record {
          input = asked;
          of_goal = of_goal;
          verdict = verdict_at d r;
          told = subst (λ f. QueryTells h (mode_of mode) f (verdict_at d r)) query.form told;
          fits = rw kinds_are fits.to;
          applied = here;
          certain = ap is_yes (sym certain);
          changes = same;
        }

    pub asked_stays : (m : Meaning) (mode : Mode) (A : List Assumed) → AreFormed e → IsTable e u → IsAnswerTo d (kinds_of q.1) r → IsDerivedFrom m mode A (answer_sequent (form_of b q.1) (response_at d r))
        → Stays (content_of e u.entries) (λ z. IsProvedFrom m mode A z (tree_at a g.param_env.node) (tree_at a g.predicate.node))
    asked_stays m mode A f w fits h =
        let terms = term_table f w in
        let c = content_of a t.entries in
        let v = content_of e u.entries in
        let p = query.proper.formed in
        let derived = subst (λ z. IsDerivedFrom m mode A (answer_sequent z (response_at d r))) query.form h in
        let proved = asked_proved_from m mode A asked (response_at d r) c v query.proper terms.sound terms.values (original_named asked c query.proper refl posed.knows.env posed.knows.predicate) (rw kinds_are fits.to) (ap (map (premise_at d)) (let n = fits.no_more in n.no_goals)) here.applies derived in
        let k = here.applies.continues in
        record {
          later = λ z s n. proved_from_continues m mode A v z (tree_at a g.param_env.node) (tree_at a g.predicate.node) terms.sound s.sound terms.values s.values n terms.constraints
              (term_later c v (tree_at a g.param_env.node) k posed.knows.env p.0) (term_later c v (tree_at a g.predicate.node) k posed.knows.predicate p.1.0) proved;
        }

  -- what applying brings
  pub asked_labels : {c : Content} → BringsOnly (trees_of d q.0.items) (content_of d t.entries) c → BringsOnly (asked_terms a g) (content_of a t.entries) c
  asked_labels h =
      record {
        labels = λ P k m w. h.labels P k (λ v j. original_passes P asked query.proper refl (m _ (inl refl)) (m _ (inr (inl refl))) (originals asked) (λ l n. n) v (subst (λ os. Among os v) leaves_are j)) (rw now w);
      }

  -- what the query refutes, and what can't be applied
  pub query_refutes : {h : Ruling} {mode : Mode} → QueryRefutes h mode (form_of b q.1) → Refused h mode (content_of a t.entries) (tree_at a g.param_env.node) (tree_at a g.predicate.node)
  query_refutes {h} {mode} x = by_query asked of_goal (subst (λ f. QueryRefutes h mode f) query.form x)

  -- .. or it is cut as a cycle
  pub query_cut : {h : Ruling} {s : SearchGraph} {step : PathKind} → IsStack a s → All (IsHead a) s.stack.items → IsQueryRefuted h (mode_of q.1.typing_mode) b q.1 ⊎ IsCut b s (form_of b q.1) q.1.typing_mode step
      → IsRefusedIn h t.mode a t g ⊎ IsGoalCut a s (content_of a t.entries) t.mode (tree_at a g.param_env.node) (tree_at a g.predicate.node) step
  query_cut {h} stack heads (inl x) = inl (query_refutes (subst (λ z. QueryRefutes h z (form_of b q.1)) query.mode x))
  query_cut {h} {s} {step} stack heads (inr x) =
      let there = cut_earlier ab stack heads x in
      inr (asked, of_goal, record { head = there.head; below = there.below; same = λ d. there.same d ∙ query.form; path = there.path; elsewhere = subst IsCutIn query.mode there.elsewhere })

  pub response_refused : {h : Ruling} {mode : Mode} (r : Canonical Response) → IsAnswerTo d (kinds_of q.1) r → QueryTells h mode (form_of b q.1) (verdict_at d r) → RefusesResponse (content_of d t.entries) (trees_of d q.0.items) (response_at d r) → Refused h mode (content_of a t.entries) (tree_at a g.param_env.node) (tree_at a g.predicate.node)
  response_refused {h} {mode} r fits x k = by_response asked (verdict_at d r) of_goal (subst (λ f. QueryTells h mode f (verdict_at d r)) query.form x) (rw kinds_are fits.to) (rw (now, leaves_are) at k)

-- what an evaluation leaves, seen from a smaller store
pub evaluates_at : {Told : Form → Verdict → Type 0} {a d e : List Tree} {t u : Entries} {x y : Tree} {sure : Certainty} {z : HasChanged} → content_of d t ≡ content_of a t → Evaluates Told d e t u x y sure z → Evaluates Told a e t u x y sure z
evaluates_at same h =
    record { input = h.input; of_goal = rw same at h.of_goal; verdict = h.verdict; told = h.told; fits = h.fits; applied = applied_at same h.applied; certain = h.certain; changes = h.changes }

-- a goal that was evaluated was asked
pub was_asked : {h : Ruling} {mode : Mode} {a e : List Tree} {t u : Entries} {x y : Tree} {sure : Certainty} {z : HasChanged} → Evaluates (QueryTells h mode) a e t u x y sure z → Asked h mode (content_of a t) (content_of e u) x y
was_asked h = (let k = h.applied in asked_by h.input h.verdict h.of_goal h.told h.fits k.applies)
