-- Rounds of a query whose goal is decided: one is enough, since nothing reads what was provisional.
use Rattle.std.specs.Global.{Vec, Box}
use Rattle.std.proofs.Common.{◌≡◌, ℕ, zero, suc, ◌<◌, Bool, true, false, List, [], ◌∷◌, ◌++◌, map, length, get_or, Option, Some, None, Result, Ok, Err, refl, sym, ap, subst, ◌∙◌, arith}
use Rattle.std.specs.Prelude.{All, IfOk}
use Rattle.std.proofs.lemmas.List.{length-map}
use Rattle.std.proofs.lemmas.List.Elements.{All-push}
use Rattle.nts_model.specs.Terms.Trees.{Tree}
use Rattle.nts_model.specs.declared.labels.Leaf.{Leaf}
use Rattle.nts_model.specs.Tables.Contents.{Content}
use Rattle.nts_model.specs.Terms.Substitutions.{leaf_tree}
use Rattle.nts_model.specs.Canonical.Inputs.{CanonicalInput as Form, PositionKind, originals, position_kind}
use Rattle.nts_model.specs.Answers.Responses.{Response as Answer}
use Rattle.nts_canonical.specs.Alike.{AreOneInput}
use Rattle.nts_model.specs.Derivations.Rules.{Mode}
use Rattle.nts_model.specs.Derivations.Handlers.{Handler, IsLawfulHandler}
use Rattle.nts_theory.specs.Telling.{IsResponseOf}
use Rattle.nts_decisions.specs.Deciding.{blurred, blurred_environment, IsGoalDecided}
use Rattle.nts_decisions.specs.Queries.{AreRootKinds}
use Rattle.nts_decisions.proofs.Deciding.{one_decision}
use Rattle.nts_decisions.proofs.DecidedInputs.{form_decided}
use Rattle.nts_decisions.proofs.OwnResponses.{own_response}
use Rattle.nts_certainty.specs.declared.certainty.Certainty.TheVariants as certainty
use Rattle.nts_certainty.specs.declared.sources.HasChanged.TheVariants as changes
use Rattle.nts_store.specs.declared.fault.EvalError.{EvalError}
use Rattle.nts_store.specs.declared.fault.EvalError.TheVariants as error
use Rattle.nts_terms.specs.Modes.{mode_of}
use Rattle.nts_canonical.specs.declared.types.Canonical.{Canonical}
use Rattle.nts_canonical.specs.declared.types.CanonicalInput.{CanonicalInput}
use Rattle.nts_canonical.specs.Forms.{form_of, input_of, trees_of}
use Rattle.nts_canonical.specs.Building.{kinds_of}
use Rattle.nts_store.specs.Growth.{tree_at}
use Rattle.nts_terms.specs.declared.handles.Goal.{Goal}
use Rattle.nts_terms.specs.declared.handles.GenericArg.{GenericArg}
use Rattle.nts_table.specs.Tables.{Table}
use Rattle.nts_meaning.specs.Answering.{IsQueryOf}
use Rattle.nts_canonical.specs.Kinds.{value_leaves}
use Rattle.nts_response.specs.declared.types.Response.{Response}
use Rattle.nts_response.specs.Forms.{response_at}
use Rattle.nts_search.specs.declared.stack.StackEntry.{StackEntry}
use Rattle.nts_search.specs.declared.stack.SearchGraph.{SearchGraph}
use Rattle.nts_search.specs.Searching.{IsInputAt}
use Rattle.nts_unify.proofs.SavedLemmas.{push_inj}
use Rattle.nts_meaning.specs.Rounds.{IsTakenOff, EndsWith, IsBoxed}
use Rattle.nts_asking.specs.declared.round.Ended.{Ended}
use Rattle.nts_meaning.specs.declared.response.Evaluated.{Evaluated}
use Rattle.nts_evaluation.specs.Deciding.{IsQueryDecided, IsAbove, IsBelow, IsAsBefore, IfNoFault, Decides, IsYes, IsYesUnchanged, IsOwnAnswer, IsOwnYes, IsRoundDecided, IsRoundYes}
use Rattle.nts_evaluation.proofs.Deciding.{decides_no, decides_fault}
use Rattle.nts_evaluation.proofs.DecidedCandidates.{root_leaves, leaves_long}

-- an input that stands on the stack is not decided so low
at_place : {X : Type 0} (P Q : X → Type 0) (xs : List X) (n : ℕ) → All P xs → n < length xs → ((d : X) → Q (get_or xs n d)) → (x : X) × P x × Q x
at_place P Q [] n h l q = absurd (omega (arith, l))
at_place P Q (x ∷ xs) zero h l q = (x, h 0 x (omega arith), q x)
at_place P Q (x ∷ xs) (suc n) h l q = at_place P Q xs n (λ i d k. h (suc i) d (omega (arith, k))) (omega (arith, l)) q

pub stands_high : (h : Handler) (ts : List Tree) (n : ℕ) (b : Bool) (g : SearchGraph) (i : CanonicalInput) (head : ℕ) → IsAbove h ts n g → IsInputAt ts g i head → IsBelow n (λ m. IsQueryDecided h (mode_of i.typing_mode) m (form_of ts i) b) → ⊥
stands_high h ts n b g i head above at d =
    let x = at_place (λ (y : StackEntry). (m : ℕ) (k : Bool) → m < n → IsQueryDecided h (mode_of y.input.typing_mode) m (form_of ts y.input) k → ⊥) (λ y. AreOneInput ts y.input i) g.stack.items head above at.below at.same in
    x.1 d.0 b d.1 (let same = x.2 in rw (same.form, same.mode) d.2)

-- one canonical form has one height
one_height : (h : Handler) → IsLawfulHandler h → (mode : Mode) (n m : ℕ) (f : Form) (b c : Bool) → IsQueryDecided h mode n f b → IsQueryDecided h mode m f c → n ≡ m
one_height h law mode n m f b c x y =
    let z = form_decided h law mode m c y.asked x.asked y.proper x.proper (y.form ∙ sym x.form) y.decided in
    (one_decision h mode (blurred_environment (let i = x.asked in i.environment)) (blurred (let i = x.asked in i.predicate)) (blurred (let i = x.asked in i.predicate)) n m b c refl x.decided z).height

-- with one more entry, whose goal is decided at the height m
pub pushed_above : (h : Handler) → IsLawfulHandler h → (ts : List Tree) (m : ℕ) (k : Bool) (g g2 : SearchGraph) (own : StackEntry) → g2.stack.items ≡ g.stack.items ++ own ∷ [] → IsAbove h ts m g → IsQueryDecided h (mode_of own.input.typing_mode) m (form_of ts own.input) k → IsAbove h ts m g2
pushed_above h law ts m k g g2 own pushed above d =
    subst (All (λ (y : StackEntry). (j : ℕ) (b : Bool) → j < m → IsQueryDecided h (mode_of y.input.typing_mode) j (form_of ts y.input) b → ⊥)) (sym pushed)
    (All-push (λ (y : StackEntry). (j : ℕ) (b : Bool) → j < m → IsQueryDecided h (mode_of y.input.typing_mode) j (form_of ts y.input) b → ⊥) g.stack.items own above
    (λ j b less e. (let same : j ≡ m = one_height h law (mode_of own.input.typing_mode) j m (form_of ts own.input) b k e d in omega (arith, less, same))))

-- the answer of any table of the query
pub own_there : (c : Content) (qs : List Tree) (ks : List PositionKind) (r : Answer) → AreRootKinds 0 ks → qs ≡ map leaf_tree (value_leaves 0 ks) → IsResponseOf c qs r → IsOwnAnswer ks r
own_there c qs ks r roots values says =
    let ls : List Leaf = value_leaves 0 ks in
    let there : IsResponseOf c (map leaf_tree ls) r = subst (λ z. IsResponseOf c z r) values says in
    record {
      identity = (own_response c ls (map leaf_tree ls) r (root_leaves 0 0 ks roots) (length-map ls leaf_tree) there).0;
      own = λ os e. (own_response c ls os r (root_leaves 0 0 ks roots) (e ∙ sym (leaves_long 0 ks)) there).1;
    }

-- a round ends: the entry is off the stack again, and nobody read it
abbrev EndsDecided : Bool → List Tree → List PositionKind → SearchGraph → SearchGraph → Result (Box Ended) EvalError → Type 0
EndsDecided k ts ks g j r = IfOk r (λ z. (z.value.entry.is_read ≡ false) × IsRoundDecided k ts ks z.value.answer × IsAsBefore g j)

module _ (k : Bool) (ts : List Tree) (ks : List PositionKind) (g g2 g3 g4 : SearchGraph) (own x : StackEntry) (pushed : g2.stack.items ≡ g.stack.items ++ own ∷ []) (mark_kept : g2.has_overflowed ≡ g.has_overflowed) (unread : own.is_read ≡ false) (off : IsTakenOff g3 g4 x) where
  same_entry : IsAsBefore g2 g3 → (g4.stack.items ≡ g.stack.items) × (x ≡ own)
  same_entry s = push_inj g4.stack.items g.stack.items x own (sym off.popped ∙ s.stack ∙ pushed)

  back : IsAsBefore g2 g3 → IsAsBefore g g4
  back s = (let e = same_entry s in let r = off.rest in record { stack = e.0; mark = r.has_overflowed ∙ s.mark ∙ mark_kept })

  pub ended_decided : (response : Result (Box (Canonical Response)) EvalError) (r : Result (Box Ended) EvalError) → IfOk r (λ z. z.value.entry ≡ x) → IfOk r (λ z. EndsWith response z.value.answer) → IfOk response (λ z. IsOwnAnswer ks (response_at ts z.value))
      → Decides k response (λ z. IsYes z.value.value.certainty) g2 g3 → EndsDecided k ts ks g g4 r
  ended_decided (Ok z) (Ok w) entry ends own_answer d =
      (let y = d.answer in let s = d.search in (ap (λ (v : StackEntry). v.is_read) (entry ∙ (same_entry s).1) ∙ unread, subst (IsRoundDecided k ts ks) (sym ends) (y.0, (y.1, own_answer)), back s))
  ended_decided (Err error.NoSolution) (Ok w) entry ends own_answer d =
      (let s = d.search in (ap (λ (v : StackEntry). v.is_read) (entry ∙ (same_entry s).1) ∙ unread, subst (IsRoundDecided k ts ks) (sym ends) d.answer, back s))
  ended_decided (Err error.Memory) (Ok w) entry ends own_answer d = absurd ends
  ended_decided (Err error.Full) (Ok w) entry ends own_answer d = absurd ends
  ended_decided response (Err e) entry ends own_answer d = tt

  -- .. with a certain answer
  pub ended_fact : (response : Result (Box (Canonical Response)) EvalError) (r : Result (Box Ended) EvalError) → IfOk r (λ z. z.value.entry ≡ x) → IfOk r (λ z. EndsWith response z.value.answer) → Decides true response (λ z. IsYes z.value.value.certainty) g2 g3
      → IfOk r (λ z. (z.value.entry.is_read ≡ false) × IsRoundYes z.value.answer × IsAsBefore g g4)
  ended_fact (Ok z) (Ok w) entry ends d = (let y = d.answer in let s = d.search in (ap (λ (v : StackEntry). v.is_read) (entry ∙ (same_entry s).1) ∙ unread, subst IsRoundYes (sym ends) y.1, back s))
  ended_fact (Err error.NoSolution) (Ok w) entry ends d = (let y : true ≡ false = d.answer in absurd (cc y))
  ended_fact (Err error.Memory) (Ok w) entry ends d = absurd ends
  ended_fact (Err error.Full) (Ok w) entry ends d = absurd ends
  ended_fact response (Err e) entry ends d = tt

-- the last round's answer is the query's
pub last_decided : {g h : SearchGraph} (b : Bool) (ts : List Tree) (ks : List PositionKind) (o : Option (Canonical Response)) (r : Result (Box (Canonical Response)) EvalError) → ((x : Canonical Response) → o ≡ Some x → IsBoxed x r) → (o ≡ None → r ≡ Err error.NoSolution) → IsRoundDecided b ts ks o → IsAsBefore g h
    → Decides b r (λ z. IsOwnYes ts ks z.value) g h
last_decided b ts ks None r some none d s = rw (none refl) (decides_no b d s)
last_decided b ts ks (Some x) (Ok z) some none d s = record { answer = (d.0, subst (IsOwnYes ts ks) (sym (some x refl)) d.1); search = s }
last_decided b ts ks (Some x) (Err e) some none d s = decides_fault (Err e) refl (λ q. some x refl (err_same e q))
  where
    err_same : (e : EvalError) → (let r : Result (Box (Canonical Response)) EvalError = Err e in r) ≡ Err error.NoSolution → e ≡ error.NoSolution
    err_same e q = cc q

-- applied to its originals it changes nothing
pub applied_decided : {g h : SearchGraph} (b : Bool) (r : Result Evaluated EvalError) → b ≡ true → IfOk r (λ e. e.certainty ≡ certainty.Yes) → IfOk r (λ e. e.has_changed ≡ changes.No) → (r ≡ Err error.NoSolution → ⊥) → IsAsBefore g h → Decides b r IsYesUnchanged g h
applied_decided b (Ok e) is sure same never s = record { answer = (is, (sure, same)); search = s }
applied_decided b (Err error.NoSolution) is sure same never s = absurd (never refl)
applied_decided b (Err error.Memory) is sure same never s = record { answer = tt; search = tt }
applied_decided b (Err error.Full) is sure same never s = record { answer = tt; search = tt }

-- an overflow above is marked again
again : (g g1 h fin : SearchGraph) → IsAsBefore g1 h → g1.stack.items ≡ g.stack.items → g1.has_overflowed ≡ false → fin.stack.items ≡ h.stack.items → (h.has_overflowed ≡ false → fin.has_overflowed ≡ g.has_overflowed) → IsAsBefore g fin
again g g1 h fin x same off items mark = record { stack = items ∙ x.stack ∙ same; mark = mark (x.mark ∙ off) }

pub marked_again : {A : Type 0} (g g1 h fin : SearchGraph) (r : Result A EvalError) → IfNoFault r (IsAsBefore g1 h) → g1.stack.items ≡ g.stack.items → g1.has_overflowed ≡ false → fin.stack.items ≡ h.stack.items → (h.has_overflowed ≡ false → fin.has_overflowed ≡ g.has_overflowed) → IfNoFault r (IsAsBefore g fin)
marked_again g g1 h fin (Ok x) s same off items mark = again g g1 h fin s same off items mark
marked_again g g1 h fin (Err error.NoSolution) s same off items mark = again g g1 h fin s same off items mark
marked_again g g1 h fin (Err error.Memory) s same off items mark = tt
marked_again g g1 h fin (Err error.Full) s same off items mark = tt

-- a decided goal of a table, as a query
pub as_query : {h : Handler} {a b : List Tree} {t : Table} {os : Vec GenericArg} (g : Goal) (i : CanonicalInput) (n : ℕ) (k : Bool) → IsQueryOf a b t g (os, i) → IsBelow n (λ m. IsGoalDecided h (mode_of t.mode) m (tree_at a g.param_env.node) (tree_at a g.predicate.node) k)
    → IsBelow n (λ m. IsQueryDecided h (mode_of i.typing_mode) m (form_of b i) k)
as_query {h} {a} {b} {t} g i n k q d = (d.0, d.1, record { asked = input_of a t.entries g []; proper = q.proper; no_hidden = refl; form = sym q.form; decided = rw q.mode d.2 })

-- .. it has as many originals as positions
pub originals_long : {a b : List Tree} (d : List Tree) {t : Table} {os : Vec GenericArg} (g : Goal) (i : CanonicalInput) → IsQueryOf a b t g (os, i) → length (trees_of d os.items) ≡ length (kinds_of i)
originals_long {a} {b} d {t} {os} g i q =
    let x = input_of a t.entries g [] in
    let one : length (trees_of d os.items) ≡ length os.items = length-map os.items (λ o. tree_at d o.node) in
    let two : length (trees_of b os.items) ≡ length os.items = length-map os.items (λ o. tree_at b o.node) in
    let three : length (trees_of b os.items) ≡ length (originals x) = ap length q.originals ∙ length-map (originals x) leaf_tree in
    let four : length (kinds_of i) ≡ length (originals x) = ap (λ f. length f.kinds) q.form ∙ length-map (originals x) (position_kind x.sub_root (originals x)) in
    one ∙ sym two ∙ three ∙ sym four

-- the same query in a later store
pub round_query : {h : Handler} (a b : List Tree) (i j : CanonicalInput) (n : ℕ) (k : Bool) → j ≡ i → form_of b j ≡ form_of a i → IsBelow n (λ m. IsQueryDecided h (mode_of i.typing_mode) m (form_of a i) k) → IsBelow n (λ m. IsQueryDecided h (mode_of j.typing_mode) m (form_of b j) k)
round_query a b i j n k e f d = (d.0, d.1, rw (f, ap (λ (x : CanonicalInput). mode_of x.typing_mode) e) d.2)
