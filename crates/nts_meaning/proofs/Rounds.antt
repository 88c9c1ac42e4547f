-- A round of a query: its input is put on the stack, and taken off again; what the rounds come to, and what a cycle tells.
use Rattle.std.proofs.Common.{◌≡◌, inl, inr, ℕ, ◌+◌, ◌<◌, List, [], ◌∷◌, ◌++◌, length, get_or, Option, Some, None, sym, ap, ◌∙◌, subst, arith, length-append, refl}
use Rattle.std.specs.Prelude.{All, max, ◌≤◌, Result, Ok, Err, IfOk, IfSome, ◌⊎◌, false}
use Rattle.std.proofs.lemmas.List.Elements.{All-push, All-pop}
use Rattle.nts_model.specs.Terms.Trees.{Tree}
use Rattle.nts_model.specs.Derivations.Rules.{Meaning, Mode}
use Rattle.nts_model.specs.Derivations.Sequents.{PathKind as Kind}
use Rattle.nts_model.specs.Derivations.Proofs.{Assumed, passed}
use Rattle.nts_model.specs.Searching.Stacks.{IsDerivedFrom, IsUsable, assumptions}
use Rattle.nts_model.specs.Canonical.Inputs.{PositionKind, CanonicalInput as Form}
use Rattle.nts_model.specs.Answers.Responses.{answer_sequent}
use Rattle.nts_theory.proofs.Searching.Stacks.{head_closed}
use Rattle.nts_certainty.specs.declared.sources.PathKind.{PathKind}
use Rattle.nts_certainty.specs.declared.certainty.Certainty.TheVariants as certainty
use Rattle.nts_store.specs.declared.fault.EvalError.{EvalError}
use Rattle.nts_store.specs.declared.fault.EvalError.TheVariants as error
use Rattle.nts_store.specs.Growth.{Extends}
use Rattle.nts_terms.specs.declared.cx.Cx.{Cx}
use Rattle.nts_terms.specs.Rest.{Grows}
use Rattle.nts_terms.specs.Modes.{mode_of}
use Rattle.nts_terms.specs.declared.modes.TypingMode.{TypingMode}
use Rattle.nts_terms.proofs.Moved.{KeepsRest-trans}
use Rattle.nts_store.proofs.Growing.{Extends-trans}
use Rattle.nts_table.specs.Tables.{Table}
use Rattle.nts_meaning.specs.Evaluation.{Runs}
use Rattle.nts_canonical.specs.declared.types.Canonical.{Canonical}
use Rattle.nts_canonical.specs.declared.types.CanonicalInput.{CanonicalInput}
use Rattle.nts_canonical.specs.Alike.{AreOneInput}
use Rattle.nts_canonical.specs.Forms.{form_of, HoldsQuery}
use Rattle.nts_canonical.specs.Building.{kinds_of}
use Rattle.nts_candidates.specs.Offered.{path_kind_of}
use Rattle.nts_response.specs.declared.types.Response.{Response}
use Rattle.nts_response.specs.Forms.{response_at}
use Rattle.nts_search.specs.declared.stack.StackEntry.{StackEntry}
use Rattle.nts_search.specs.declared.stack.SearchGraph.{SearchGraph}
use Rattle.nts_search.specs.Searching.{entry_at, entries_at, HoldsAnswer, HoldsEntry, IsStack, IsInputAt, KeepsRestOfGraph, counted_rounds, with_round}
use Rattle.nts_search.specs.Ending.{AreOneAnswer, IsVague}
use Rattle.nts_search.proofs.RoundEnds.{round_may_end}
use Rattle.std.specs.Global.{Box}
use Rattle.nts_meaning.specs.Rounds.{EndsWith, IsBoxed}
use Rattle.nts_meaning.specs.Answering.{IsQueryInput, IsAnswerTo, IfAnswered, verdict_at}
use Rattle.nts_meaning.specs.Telling.{Ruling, QueryTells, QueryRefutes}
use Rattle.nts_theory.specs.Telling.{SaysNothing}
use Rattle.nts_theory.specs.Telling.Tells.{says_nothing}
use Rattle.nts_meaning.specs.Searching.{IsHeadAnswer, IsHead, IsSearch, IsEntryLater, AreLater, Searches, assumed_in, IsAnswerTold, HeadsTell, IsCut, IsReadAt, HasNoneAt, IsGoalCut}
use Rattle.nts_meaning.proofs.Searching.{form_later, input_later, head_answer_later, later_itself, later_pushed, Searches-refl, Searches-trans, search_grows, search_later, search_counted, nothing_assumed, none_passed, answer_told_later, tell_grown}
use Rattle.nts_meaning.proofs.BackEdges.{by_answer, some_is_ok, usable_derived, copied_verdict}
use Rattle.nts_meaning.proofs.Told.{verdict_same}
use Rattle.nts_model.specs.Tables.Contents.{Content}

-- the store grows, and the search goes on
pub grown : {a b c : Cx} → Grows a b → Grows b c → Grows a c
grown x y = record { extends = Extends-trans x.extends y.extends; rest = KeepsRest-trans x.rest y.rest }

pub ran : {a b : Cx} {t u : Table} → Runs a b t u → Grows a b
ran x = (let g = x.goes in record { extends = g.extends; rest = x.rest })

pub search_then : {a b c : Cx} {g h : SearchGraph} (n : ℕ) → IsSearch a g n → Grows a b → Searches b c g h → Searches a c g h
search_then n s w x = Searches-trans (Searches-refl n s w) x

-- a search begins
pub search_begun : {a : Cx} {g : SearchGraph} (n : ℕ) → ((ts : List Tree) → IsStack ts g) → g.stack.items ≡ [] → g.root_depth ≡ n → counted_rounds g ≡ 0 → IsSearch a g (n + 1)
search_begun {a} {g} n stack none depth most =
    let long : length g.stack.items ≡ 0 = ap length none in
    record {
      stack = stack a.nodes;
      heads = λ i d l. absurd (omega (arith, l, long));
      rounds = omega (arith, most);
      room = omega (arith, long, depth);
    }

pub tell_begun : (g : SearchGraph) (hd : Ruling) (ts : List Tree) → g.stack.items ≡ [] → HeadsTell hd ts g
tell_begun g hd ts none = λ i d l. (let long : length g.stack.items ≡ 0 = ap length none in absurd (omega (arith, l, long)))

-- .. as it does wherever its room is that of its whole depth
pub empty_stack : {a : Cx} (g : SearchGraph) → IsSearch a g (g.root_depth + 1) → g.stack.items ≡ []
empty_stack g s = no_entries g.stack.items (let r = s.room in omega (arith, r))
  where
    no_entries : (xs : List StackEntry) → length xs ≡ 0 → xs ≡ []
    no_entries [] e = refl
    no_entries (x ∷ xs) e = cc e

-- at its end nothing is assumed
pub nothing_left : {a b : Cx} {g h : SearchGraph} (ts : List Tree) (k : Kind) → g.stack.items ≡ [] → Searches a b g h → passed k (assumed_in ts h) ≡ []
nothing_left ts k none s = ap (passed k) (nothing_assumed ts none s) ∙ none_passed k

-- a step of unknown kind is never cut
pub never_cut : {P : Type 0} {ts : List Tree} {f : Form} {mode : TypingMode} {k : PathKind} (g : SearchGraph) → g.stack.items ≡ [] → P ⊎ IsCut ts g f mode k → P
never_cut g none (inl x) = x
never_cut g none (inr x) = (let long : length g.stack.items ≡ 0 = ap (length {A = StackEntry}) none in let below = x.below in absurd (omega (arith, long, below)))

pub not_cut : {P : Type 0} {ts : List Tree} {c : Content} {mode : TypingMode} {e p : Tree} {k : PathKind} (g : SearchGraph) → g.stack.items ≡ [] → P ⊎ IsGoalCut ts g c mode e p k → P
not_cut g none (inl x) = x
not_cut g none (inr (i, of, x)) = never_cut g none (inr x)

-- an input as it is put on the stack
abbrev pub entry_of : CanonicalInput → PathKind → Option (Canonical Response) → ℕ → Option ℕ → StackEntry
entry_of i k p n e = record { input = i; step_kind = k; provisional = p; round = n; is_read = false; earlier = e }

pub holds_answer : (ts : List Tree) (ks : List PositionKind) (p : Option (Canonical Response)) → IsHeadAnswer ts ks p → HoldsAnswer ts p
holds_answer ts ks None h = tt
holds_answer ts ks (Some r) h = h.holds

pub search_pushed : {a b : Cx} {g h : SearchGraph} (n m : ℕ) (input : CanonicalInput) (step : PathKind) (p : Option (Canonical Response)) → IsSearch a g (n + 1) → m ≤ a.round_limit → Grows a b → IsQueryInput a.nodes input → IsHeadAnswer a.nodes (kinds_of input) p → (e : Option ℕ) × (h.stack.items ≡ g.stack.items ++ entry_of input step p m e ∷ [])
    → ((ts : List Tree) → IsStack ts g → HoldsQuery ts input.canonical.value → HoldsAnswer ts p → IsStack ts h) → KeepsRestOfGraph (with_round g m) h → IsSearch b h n
search_pushed {a} {b} {g} {h} n m input step p s within w asked answer pushed kept rest =
    let now : IsSearch b g (n + 1) = search_grows (n + 1) (n + 1) (omega arith) s w in
    let q : IsQueryInput b.nodes input = input_later a.nodes b.nodes input w.extends asked in
    let z : IsHeadAnswer b.nodes (kinds_of input) p = head_answer_later a.nodes b.nodes (kinds_of input) p w.extends answer in
    let held = q.input in
    let new = entry_of input step p m pushed.0 in
    let long : length h.stack.items ≡ length (g.stack.items ++ new ∷ []) = ap length pushed.1 in
    let grown = length-append g.stack.items (new ∷ []) in
    let room = now.room in
    let depth = rest.root_depth in
    let most = rest.most_rounds in
    record {
      stack = kept b.nodes now.stack held.holds (holds_answer b.nodes (kinds_of input) p z);
      heads = subst (All (IsHead b.nodes)) (sym pushed.1) (All-push (IsHead b.nodes) g.stack.items new now.heads (record { input = q; answer = z }));
      rounds = (let r = now.rounds in let kept = w.rest.rounds in omega (arith, r, most, within, kept));
      room = omega (arith, long, grown, room, depth);
    }

-- .. which tells what its provisional answer tells
pub tell_pushed : {a b : Cx} {g : SearchGraph} (h : SearchGraph) (hd : Ruling) (n m : ℕ) (input : CanonicalInput) (step : PathKind) (p : Option (Canonical Response)) → IsSearch a g n → Grows a b → IsQueryInput a.nodes input → IsHeadAnswer a.nodes (kinds_of input) p → (e : Option ℕ) × (h.stack.items ≡ g.stack.items ++ entry_of input step p m e ∷ [])
    → HeadsTell hd a.nodes g → IsAnswerTold hd (mode_of input.typing_mode) a.nodes (form_of a.nodes input) p → HeadsTell hd b.nodes h
tell_pushed {a} {b} {g} h hd n m input step p s w asked answer pushed tells told =
    let mode = mode_of input.typing_mode in
    let there : IsAnswerTold hd mode b.nodes (form_of a.nodes input) p = answer_told_later hd mode a.nodes b.nodes (kinds_of input) (form_of a.nodes input) p w.extends answer told in
    let here : IsAnswerTold hd mode b.nodes (form_of b.nodes input) p = subst (λ f. IsAnswerTold hd mode b.nodes f p) (sym (form_later a.nodes b.nodes input w.extends asked)) there in
    subst (All (λ x. IsAnswerTold hd (mode_of x.input.typing_mode) b.nodes (form_of b.nodes x.input) x.provisional)) (sym pushed.1)
    (All-push (λ x. IsAnswerTold hd (mode_of x.input.typing_mode) b.nodes (form_of b.nodes x.input) x.provisional) g.stack.items (entry_of input step p m pushed.0) (tell_grown hd n s w tells) here)

-- the stack is as before
pub search_same : {a b : Cx} {g h : SearchGraph} (n : ℕ) → IsSearch a g n → Grows a b → h.stack.items ≡ g.stack.items → ((ts : List Tree) → IsStack ts g → IsStack ts h) → KeepsRestOfGraph g h → Searches a b g h
search_same {a} {b} {g} {h} n s w same kept rest =
    let now : Searches a b g g = Searches-refl n s w in
    let most = rest.most_rounds in
    record {
      stack = kept b.nodes now.stack;
      heads = subst (All (IsHead b.nodes)) (sym same) now.heads;
      rounds = rw most now.rounds;
      more_rounds = omega (arith, most);
      more_inputs = rest.most_inputs;
      marks = λ m. rest.has_overflowed ∙ m;
      depth = rest.root_depth;
      later = subst (AreLater g.stack.items) (sym same) (later_itself g.stack.items);
    }

-- the entry y was put on the stack of g, a round of which is counted, where the search went on, and is taken off as x
pub record IsPopped (a c : Cx) (g j : SearchGraph) (m : ℕ) (y x : StackEntry) : Type 0 where
  pub searches : Searches a c g j
  pub counted : m ≤ counted_rounds j
  pub entry : IsEntryLater y x
  pub head : IsHead c.nodes x

pub search_popped : {a b c : Cx} {g h i j : SearchGraph} (m : ℕ) (y x : StackEntry) → h.stack.items ≡ g.stack.items ++ y ∷ [] → KeepsRestOfGraph (with_round g m) h → Searches b c h i → i.stack.items ≡ j.stack.items ++ x ∷ [] → ((ts : List Tree) → IsStack ts i → IsStack ts j × HoldsEntry ts x) → KeepsRestOfGraph i j → IsPopped a c g j m y x
search_popped {a} {b} {c} {g} {h} {i} {j} m y x pushed up s popped kept down =
    let there : AreLater (g.stack.items ++ y ∷ []) (j.stack.items ++ x ∷ []) = subst (λ z. AreLater z (j.stack.items ++ x ∷ [])) pushed (subst (AreLater h.stack.items) popped s.later) in
    let later = later_pushed g.stack.items j.stack.items y x there in
    let heads = All-pop (IsHead c.nodes) i.stack.items j.stack.items (Some x) popped s.heads in
    let most = down.most_rounds in
    let raised = up.most_rounds in
    let between = s.more_rounds in
    let inputs = up.most_inputs in
    let within = s.more_inputs in
    let fewer = down.most_inputs in
    let off = kept c.nodes s.stack in
    record {
      searches = record {
        stack = off.0;
        heads = heads.0;
        rounds = rw most s.rounds;
        more_rounds = omega (arith, most, raised, between);
        more_inputs = omega (arith, inputs, within, fewer);
        marks = λ m. down.has_overflowed ∙ s.marks (up.has_overflowed ∙ m);
        depth = down.root_depth ∙ s.depth ∙ up.root_depth;
        later = later.0;
      };
      counted = omega (arith, most, raised, between);
      entry = later.1;
      head = heads.1;
    }

-- the query's input, in a store that has grown
pub own_asked : (a b : List Tree) (input own : CanonicalInput) → Extends a b → own ≡ input → IsQueryInput a input → IsQueryInput b own
own_asked a b input own e same asked = subst (IsQueryInput b) (sym same) (input_later a b input e asked)

pub own_form : (a b : List Tree) (input own : CanonicalInput) → Extends a b → own ≡ input → IsQueryInput a input → form_of b own ≡ form_of a input
own_form a b input own e same asked = ap (form_of b) same ∙ form_later a b input e asked

-- the entry that was taken off is of the store
pub entry_held : (a b c : List Tree) (input own : CanonicalInput) (p : Option (Canonical Response)) (x : StackEntry) → Extends a c → Extends b c → own ≡ input → IsQueryInput a input → IsHeadAnswer b (kinds_of input) p → x.input ≡ own → x.provisional ≡ p → HoldsEntry c x
entry_held a b c input own p x ac bc same asked fits is provisional =
    let q : IsQueryInput c x.input = own_asked a c input x.input ac (is ∙ same) asked in
    let i = q.input in
    record { input = i.holds; provisional = subst (HoldsAnswer c) (sym provisional) (holds_answer c (kinds_of input) p (head_answer_later b c (kinds_of input) p bc fits)) }

-- the answer of a round that is the last one does not rest on the query's own provisional answer
pub round_closes : (m : Meaning) (mode : Mode) (ts : List Tree) (h : SearchGraph) (x : StackEntry) (input : CanonicalInput) (step : PathKind) (f : Form) (r : Canonical Response) → x.input ≡ input → x.step_kind ≡ step → form_of ts input ≡ f → (x.is_read ≡ false) ⊎ (AreOneAnswer ts x.provisional (Some r) ⊎ IsVague ts (Some r)) → r.value.certainty ≡ certainty.Yes
    → IsDerivedFrom m mode (assumptions (entry_at ts x ∷ entries_at ts h)) (answer_sequent f (response_at ts r)) → IsDerivedFrom m mode (passed (path_kind_of step) (assumed_in ts h)) (answer_sequent f (response_at ts r))
round_closes m mode ts h x input step f r is kind form last sure derived =
    let st = entries_at ts h in
    let own = entry_at ts x in
    let same : own.input ≡ f = ap (form_of ts) is ∙ form in
    let d : IsDerivedFrom m mode (assumptions (own ∷ st)) (answer_sequent own.input (response_at ts r)) = subst (λ z. IsDerivedFrom m mode (assumptions (own ∷ st)) (answer_sequent z (response_at ts r))) (sym same) derived in
    let closed : IsDerivedFrom m mode (passed own.kind (assumptions st)) (answer_sequent own.input (response_at ts r)) = head_closed m mode own st (response_at ts r) (round_may_end ts x r last sure) d in
    subst (λ z. IsDerivedFrom m mode (passed (path_kind_of step) (assumptions st)) (answer_sequent z (response_at ts r))) same
    (subst (λ k. IsDerivedFrom m mode (passed k (assumptions st)) (answer_sequent own.input (response_at ts r))) (ap path_kind_of kind) closed)

-- what a round answers, of the query's input
pub round_proved : (m : Meaning) (ts : List Tree) (A : List Assumed) (own input : CanonicalInput) (f g : Form) (o : Option (Canonical Response)) (r : Canonical Response) → own ≡ input → f ≡ g → o ≡ Some r
    → IfSome o (λ q. q.value.certainty ≡ certainty.Yes → IsDerivedFrom m (mode_of own.typing_mode) A (answer_sequent f (response_at ts q))) → r.value.certainty ≡ certainty.Yes → IsDerivedFrom m (mode_of input.typing_mode) A (answer_sequent g (response_at ts r))
round_proved m ts A own input f g o r is same e h sure =
    let one : r.value.certainty ≡ certainty.Yes → IsDerivedFrom m (mode_of own.typing_mode) A (answer_sequent f (response_at ts r)) = subst (λ z. IfSome z (λ q. q.value.certainty ≡ certainty.Yes → IsDerivedFrom m (mode_of own.typing_mode) A (answer_sequent f (response_at ts q)))) e h in
    subst (λ (i : CanonicalInput). IsDerivedFrom m (mode_of i.typing_mode) A (answer_sequent g (response_at ts r))) is (subst (λ z. IsDerivedFrom m (mode_of own.typing_mode) A (answer_sequent z (response_at ts r))) same (one sure))

pub round_told : (h : Ruling) (ts : List Tree) (own input : CanonicalInput) (f g : Form) (o : Option (Canonical Response)) → own ≡ input → f ≡ g → IsAnswerTold h (mode_of own.typing_mode) ts f o → IsAnswerTold h (mode_of input.typing_mode) ts g o
round_told h ts own input f g o is same t = subst (λ (i : CanonicalInput). IsAnswerTold h (mode_of i.typing_mode) ts g o) is (subst (λ z. IsAnswerTold h (mode_of own.typing_mode) ts z o) same t)

-- an answer of the last round: it can be applied, it is derived, and it is told or refuted
module _ (x : Option (Canonical Response)) (z : Result (Box (Canonical Response)) EvalError) (some : (r : Canonical Response) → x ≡ Some r → IsBoxed r z) (none : x ≡ None → z ≡ Err error.NoSolution) where
  pub last_fits : (ts : List Tree) (ks : List PositionKind) → IsHeadAnswer ts ks x → IfAnswered z (IsAnswerTo ts ks)
  last_fits ts ks h = by_answer x z some none (λ r e. subst (IsHeadAnswer ts ks) e h)

  pub last_told : (hd : Ruling) (mode : Mode) (ts : List Tree) (f : Form) → IsAnswerTold hd mode ts f x → IfAnswered z (λ r. QueryTells hd mode f (verdict_at ts r))
  last_told hd mode ts f h = by_answer x z some none (λ r e. subst (IsAnswerTold hd mode ts f) e h)

  pub last_refuted : (hd : Ruling) (mode : Mode) (ts : List Tree) (f : Form) → IsAnswerTold hd mode ts f x → z ≡ Err error.NoSolution → QueryRefutes hd mode f
  last_refuted hd mode ts f h e = subst (IsAnswerTold hd mode ts f) (some_is_ok x z some e) h

  pub last_each : {P : Canonical Response → Type 0} → ((r : Canonical Response) → x ≡ Some r → P r) → IfAnswered z P
  last_each h = by_answer x z some none h

-- what a round ends with, by what its table answered
pub round_ends : (Q : Option (Canonical Response) → Type 0) (x : Result (Box (Canonical Response)) EvalError) (o : Option (Canonical Response)) → EndsWith x o → ((b : Box (Canonical Response)) → x ≡ Ok b → Q (Some b.value)) → (x ≡ Err error.NoSolution → Q None) → Q o
round_ends Q (Ok b) o e some none = subst Q (sym e) (some b refl)
round_ends Q (Err error.NoSolution) o e some none = subst Q (sym e) (none refl)
round_ends Q (Err error.Memory) o e some none = absurd e
round_ends Q (Err error.Full) o e some none = absurd e

-- what a cycle to the entry with this number is answered
some_entry : {X : Type 0} (xs : List X) (n : ℕ) → n < length xs → X
some_entry [] n l = absurd (omega (arith, l))
some_entry (x ∷ xs) n l = x

module _ {a b : Cx} {g : SearchGraph} (hd : Ruling) (n m : ℕ) (input : CanonicalInput) (search : IsSearch a g m) (w : Grows a b) (at : IsInputAt a.nodes g input n) (tells : HeadsTell hd a.nodes g) where
  abbrev d : StackEntry
  d = some_entry g.stack.items n at.below

  abbrev x : StackEntry
  x = get_or g.stack.items n d

  one : AreOneInput a.nodes x.input input
  one = at.same d

  told_here : IsAnswerTold hd (mode_of input.typing_mode) a.nodes (form_of a.nodes input) x.provisional
  told_here =
      subst (λ z. IsAnswerTold hd z a.nodes (form_of a.nodes input) x.provisional) one.mode
      (subst (λ f. IsAnswerTold hd (mode_of x.input.typing_mode) a.nodes f x.provisional) one.form (tells n d at.below))

  pub cycle_told : (r : Canonical Response) → IsReadAt g.stack.items n r ⊎ SaysNothing (kinds_of input) (response_at b.nodes r) → QueryTells hd (mode_of input.typing_mode) (form_of a.nodes input) (verdict_at b.nodes r)
  cycle_told r (inr s) = says_nothing s
  cycle_told r (inl read) =
      let c = read d in
      let q = c.0 in
      let head = search.heads n d at.below in
      let answer : IsHeadAnswer a.nodes (kinds_of x.input) (Some q) = subst (IsHeadAnswer a.nodes (kinds_of x.input)) c.1 head.answer in
      let told : QueryTells hd (mode_of input.typing_mode) (form_of a.nodes input) (verdict_at a.nodes q) = subst (IsAnswerTold hd (mode_of input.typing_mode) a.nodes (form_of a.nodes input)) c.1 told_here in
      let same : verdict_at b.nodes r ≡ verdict_at a.nodes q = copied_verdict b.nodes q r c.2 ∙ verdict_same a.nodes b.nodes q w.extends answer.holds in
      subst (QueryTells hd (mode_of input.typing_mode) (form_of a.nodes input)) (sym same) told

  pub cycle_refuted : {step : PathKind} → HasNoneAt g.stack.items n ⊎ IsCut a.nodes g (form_of a.nodes input) input.typing_mode step → QueryRefutes hd (mode_of input.typing_mode) (form_of a.nodes input) ⊎ IsCut a.nodes g (form_of a.nodes input) input.typing_mode step
  cycle_refuted (inr c) = inr c
  cycle_refuted (inl h) = inl (subst (IsAnswerTold hd (mode_of input.typing_mode) a.nodes (form_of a.nodes input)) (h d) told_here)

-- what is read is derived from what is assumed
pub cycle_derived : (m : Meaning) (mode : Mode) (A : List Assumed) (a b : List Tree) (input : CanonicalInput) (r : Canonical Response) → IsQueryInput a input → IsAnswerTo b (kinds_of input) r → IsUsable A (answer_sequent (form_of a input) (response_at b r)) → IsDerivedFrom m mode A (answer_sequent (form_of a input) (response_at b r))
cycle_derived m mode A a b input r asked fits u = usable_derived m mode A (form_of a input) (response_at b r) asked.environment asked.predicate fits.to u
