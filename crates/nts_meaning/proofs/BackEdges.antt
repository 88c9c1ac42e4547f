-- What a cycle is answered.
use Rattle.std.proofs.Common.{◌≡◌, inl, inr, ℕ, zero, suc, ◌-◌, ◌<◌, List, [], ◌∷◌, map, length, get_or, Option, Some, None, refl, sym, ap, ◌∙◌, subst, arith}
use Rattle.std.specs.Prelude.{slice_get, All, reverse}
use Rattle.nts_model.specs.Terms.Trees.{Tree}
use Rattle.nts_model.specs.Derivations.Rules.{Meaning, Mode}
use Rattle.nts_model.specs.Derivations.Proofs.{Assumed, passed}
use Rattle.nts_model.specs.Derivations.Handlers.{certain}
use Rattle.nts_model.specs.Derivations.Sequents.{PathKind, coinductive, unknown, inductive, forced_ambiguity}
use Rattle.nts_model.specs.Canonical.Inputs.{PositionKind, CanonicalInput as Form}
use Rattle.nts_model.specs.Answers.Responses.{Response as Answer, answer_sequent, IsResponseTo, IsOverPositions}
use Rattle.nts_model.specs.Searching.Stacks.{Entry, IsDerivedFrom, IsUsable, assumptions, path_kind, stronger}
use Rattle.nts_model.specs.Searching.Driving.{as_read, marked}
use Rattle.nts_model.proofs.Terms.Composing.{itself}
use Rattle.nts_theory.proofs.Searching.Driving.{get-marked, path_marked}
use Rattle.nts_theory.proofs.Searching.Ordered.{get_reversed}
use Rattle.indexmap.proofs.ReorderLemmas.{map-reverse}
use Rattle.std.proofs.lemmas.Option.{slice_get-get_or}
use Rattle.std.proofs.lemmas.List.{length-map}
use Rattle.nts_theory.proofs.Searching.Stacks.{answer_itself, back_usable}
use Rattle.nts_certainty.specs.declared.sources.PathKind.{PathKind as PathKindData}
use Rattle.nts_certainty.specs.declared.sources.PathKind.TheVariants as path
use Rattle.nts_certainty.specs.declared.certainty.Certainty.TheVariants as certainty
use Rattle.nts_canonical.specs.declared.types.Canonical.{Canonical}
use Rattle.nts_canonical.specs.declared.types.CanonicalInput.{CanonicalInput}
use Rattle.nts_canonical.specs.Forms.{form_of}
use Rattle.nts_canonical.specs.Building.{kinds_of}
use Rattle.nts_candidates.specs.Offered.{path_kind_of, certainty_of}
use Rattle.nts_response.specs.declared.types.Response.{Response}
use Rattle.nts_response.specs.Applicable.{IsApplicable}
use Rattle.nts_response.specs.Forms.{response_at, HoldsResponse}
use Rattle.nts_search.specs.declared.stack.StackEntry.{StackEntry}
use Rattle.nts_search.specs.Searching.{entry_at, answer_at, certainty_in}
use Rattle.std.specs.Prelude.{Result, Ok, Err, IfSome, IsNone, ◌⊎◌, ◌↔◌, ◌≢◌, true}
use Rattle.std.proofs.lemmas.List.Elements.{All-cons, All-head, All-tail}
use Rattle.nts_store.specs.declared.fault.EvalError.{EvalError}
use Rattle.nts_store.specs.declared.fault.EvalError.TheVariants as error
use Rattle.nts_model.specs.Derivations.Rules.{coherence}
use Rattle.nts_model.specs.Searching.Driving.{unconstrained}
use Rattle.nts_terms.specs.declared.cx.Cx.{Cx}
use Rattle.nts_terms.specs.Modes.{mode_of}
use Rattle.nts_canonical.specs.Alike.{AreOneInput}
use Rattle.nts_search.specs.declared.stack.SearchGraph.{SearchGraph}
use Rattle.nts_search.specs.Searching.{entries_at, read_at, IsStack, KeepsRestOfGraph}
use Rattle.nts_theory.specs.Telling.{SaysNothing}
use Rattle.nts_meaning.specs.Searching.{IsSearch, AreLater, Searches, IsCut, IsReadAt, HasNoneAt, assumed_in}
use Rattle.nts_meaning.proofs.Searching.{later_itself}
use Rattle.nts_meaning.proofs.Unchanged.{unchanged_fits, nothing_said}
use Rattle.std.specs.Global.{Box}
use Rattle.nts_meaning.specs.Rounds.{IsBoxed}
use Rattle.nts_meaning.specs.Answering.{IsQueryInput, IsAnswerTo, IfAnswered, is_yes, verdict_at}
use Rattle.nts_meaning.proofs.Unchanged.{get_mapped}
use Rattle.nts_meaning.specs.Searching.{IsHead, IsHeadAnswer, IsCopied, IsCopiedAnswer}
use Rattle.nts_terms.specs.declared.modes.TypingMode.{TypingMode}

-- a copy says the same, and can be applied where the response can be
module _ (ts : List Tree) (q r : Canonical Response) (copy : IsCopied q r) where
  sure : r.value.certainty ≡ q.value.certainty
  sure = ap (λ x. x.0) copy.value

  values : r.value.var_values.items ≡ q.value.var_values.items
  values = ap (λ x. x.1) copy.value

  constraints : r.value.external_constraints.region_constraints.items ≡ q.value.external_constraints.region_constraints.items
  constraints = ap (λ x. x.2) copy.value

  hidden : r.value.external_constraints.opaque_types.items ≡ q.value.external_constraints.opaque_types.items
  hidden = ap (λ x. x.3) copy.value

  goals : r.value.external_constraints.normalization_nested_goals.items ≡ q.value.external_constraints.normalization_nested_goals.items
  goals = ap (λ x. x.4) copy.value

  pub copied_certainty : r.value.certainty ≡ q.value.certainty
  copied_certainty = sure

  pub copied_response : response_at ts r ≡ response_at ts q
  copied_response = cc (values, constraints, hidden, goals, copy.kinds, copy.universe)

  pub copied_verdict : verdict_at ts r ≡ verdict_at ts q
  copied_verdict = λ i. record { response = copied_response i; is_yes = is_yes (copied_certainty i) }

  copied_holds : HoldsResponse ts q.value → HoldsResponse ts r.value
  copied_holds h = record { values = rw values h.values; constraints = rw constraints h.constraints; hidden = rw hidden h.hidden; open_goals = rw goals h.open_goals }

  copied_applies : (os : List Tree) → IsApplicable ts os q → IsApplicable ts os r
  copied_applies os h =
      let k = copy.kinds in
      let u = copy.universe in
      record {
        holds = copied_holds h.holds;
        kinds = rw (k, u) h.kinds;
        values = rw (values, k) h.values;
        constraints = rw (constraints, k) h.constraints;
        hidden = rw (hidden, k) h.hidden;
        open_goals = rw (goals, k) h.open_goals;
        long = h.long ∙ ap length (sym values);
      }

  pub copied_answers : (ks : List PositionKind) → IsAnswerTo ts ks q → IsAnswerTo ts ks r
  copied_answers ks h =
      let none = h.no_more in
      record {
        holds = copied_holds h.holds;
        to = subst (IsResponseTo ks) (sym copied_response) h.to;
        applicable = λ i p same. copied_applies _ (h.applicable i p same);
        no_more = record { no_hidden = hidden ∙ none.no_hidden; no_goals = goals ∙ none.no_goals };
      }

-- an inductive path ends with an inductive step
first_inductive : (a b : PathKind) → stronger a b ≡ inductive → a ≡ inductive
first_inductive inductive b e = refl
first_inductive coinductive coinductive e = cc e
first_inductive coinductive unknown e = cc e
first_inductive coinductive inductive e = cc e
first_inductive coinductive forced_ambiguity e = cc e
first_inductive unknown coinductive e = cc e
first_inductive unknown unknown e = cc e
first_inductive unknown inductive e = cc e
first_inductive unknown forced_ambiguity e = cc e
first_inductive forced_ambiguity b e = cc e

path_inductive : (xs : List Entry) (n : ℕ) (k : PathKind) → path_kind xs n k ≡ inductive → k ≡ inductive
path_inductive [] n k e = e
path_inductive (x ∷ xs) zero k e = e
path_inductive (x ∷ xs) (suc n) k e = first_inductive k (path_kind xs n x.kind) e

step_inductive : (k : PathKindData) → path_kind_of k ≡ inductive → k ≡ path.Inductive
step_inductive path.Coinductive e = cc e
step_inductive path.Unknown e = cc e
step_inductive path.Inductive e = refl
step_inductive path.ForcedAmbiguity e = cc e

pub last_inductive : {ts : List Tree} {g : SearchGraph} {f : Form} {mode : TypingMode} (q : PathKindData) → IsCut ts g f mode q → q ≡ path.Inductive
last_inductive {ts} {g} q c = step_inductive q (path_inductive (entries_at ts g) (length g.stack.items - suc c.head) (path_kind_of q) c.path)

-- the entry with an index, from the newest
got_at : {X : Type 0} (f : X → Entry) (xs : List X) (n : ℕ) (d : X) → n < length xs → slice_get (map f (reverse xs)) (length xs - suc n) ≡ Some (f (get_or xs n d))
got_at f xs n d l =
    let here : slice_get (map f xs) n ≡ Some (f (get_or xs n d)) = get_mapped f xs n (get_or xs n d) (slice_get-get_or xs n d l) in
    let there = get_reversed (map f xs) n (f (get_or xs n d)) here in
    ap (λ ys. slice_get ys (length xs - suc n)) (map-reverse f xs) ∙ ap (λ m. slice_get (reverse (map f xs)) (m - suc n)) (sym (length-map xs f)) ∙ there

-- what is read is assumed behind a coinductive step
pub read_usable : (ts : List Tree) (xs : List StackEntry) (ys : List Entry) (n : ℕ) (k : PathKind) (d : StackEntry) (q r : Canonical Response) → n < length xs → ys ≡ marked (map (entry_at ts) (reverse xs)) (length xs - suc n) → (get_or xs n d).provisional ≡ Some q → IsCopied q r → r.value.certainty ≡ certainty.Yes → path_kind (map (entry_at ts) (reverse xs)) (length xs - suc n) k ≡ coinductive
    → IsUsable (passed k (assumptions ys)) (answer_sequent (form_of ts (get_or xs n d).input) (response_at ts r))
read_usable ts xs ys n k d q r l e is copy sure path =
    let st = map (entry_at ts) (reverse xs) in
    let at = length xs - suc n in
    let x = get_or xs n d in
    let found : slice_get (marked st at) at ≡ Some (as_read (entry_at ts x)) = get-marked st at (entry_at ts x) (got_at (entry_at ts) xs n d l) in
    let certain_too : certainty_in x.provisional ≡ certain = ap certainty_in is ∙ ap certainty_of (sym (copied_certainty ts q r copy) ∙ sure) in
    let says : answer_at ts x.input x.provisional ≡ response_at ts r = ap (answer_at ts x.input) is ∙ sym (copied_response ts q r copy) in
    let usable = back_usable (marked st at) at k (as_read (entry_at ts x)) found refl certain_too (path_marked st at at k ∙ path) in
    subst (λ z. IsUsable (passed k (assumptions z)) (answer_sequent (form_of ts x.input) (response_at ts r))) (sym e)
    (subst (λ z. IsUsable (passed k (assumptions (marked st at))) (answer_sequent (form_of ts x.input) z)) says usable)

-- so it is derived
pub usable_derived : (m : Meaning) (mode : Mode) (A : List Assumed) (f : Form) (r : Answer) → IsOverPositions f.environment → IsOverPositions f.predicate → IsResponseTo f.kinds r → IsUsable A (answer_sequent f r) → IsDerivedFrom m mode A (answer_sequent f r)
usable_derived m mode A f r e p fits u = record { sequent = answer_sequent f r; reached = inr u; instance = itself; is_instance = answer_itself r f e p fits }

-- an entry's answer, once more, is an answer to its input
pub copied_head : (ts : List Tree) (x : StackEntry) (q r : Canonical Response) (ks : List PositionKind) → IsHead ts x → kinds_of x.input ≡ ks → x.provisional ≡ Some q → IsCopied q r → IsAnswerTo ts ks r
copied_head ts x q r ks head same is copy =
    let answer : IsHeadAnswer ts (kinds_of x.input) (Some q) = subst (IsHeadAnswer ts (kinds_of x.input)) is head.answer in
    subst (λ z. IsAnswerTo ts z r) same (copied_answers ts q r copy (kinds_of x.input) answer)

-- an entry that was read
heads_read : (ts : List Tree) (xs : List StackEntry) (n : ℕ) → All (IsHead ts) xs → All (IsHead ts) (read_at xs n)
heads_read ts [] n h = h
heads_read ts (x ∷ xs) zero h = (let a = All-head (IsHead ts) x xs h in All-cons (IsHead ts) (record x { is_read = true }) xs (record { input = a.input; answer = a.answer }) (All-tail (IsHead ts) x xs h))
heads_read ts (x ∷ xs) (suc n) h = All-cons (IsHead ts) x (read_at xs n) (All-head (IsHead ts) x xs h) (heads_read ts xs n (All-tail (IsHead ts) x xs h))

later_read : (xs : List StackEntry) (n : ℕ) → AreLater xs (read_at xs n)
later_read [] n = tt
later_read (x ∷ xs) zero = (record { input = refl; kind = refl; provisional = refl; round = refl; read = λ h. refl }, later_itself xs)
later_read (x ∷ xs) (suc n) = (record { input = refl; kind = refl; provisional = refl; round = refl; read = λ h. h }, later_read xs n)

pub searched_read : {a : Cx} {g h : SearchGraph} (n k : ℕ) → IsSearch a g n → h.stack.items ≡ read_at g.stack.items k → ((ts : List Tree) → IsStack ts g → IsStack ts h) → KeepsRestOfGraph g h → Searches a a g h
searched_read {a} {g} {h} n k s e kept rest =
    let most = rest.most_rounds in
    record {
      stack = kept a.nodes s.stack;
      heads = subst (All (IsHead a.nodes)) (sym e) (heads_read a.nodes g.stack.items k s.heads);
      rounds = rw most s.rounds;
      more_rounds = omega (arith, most);
      more_inputs = rest.most_inputs;
      marks = λ m. rest.has_overflowed ∙ m;
      depth = rest.root_depth;
      later = subst (AreLater g.stack.items) (sym e) (later_read g.stack.items k);
    }

-- an element, whatever stands for one that is missing
get_or_any : {X : Type 0} (xs : List X) (n : ℕ) (d e : X) → n < length xs → get_or xs n d ≡ get_or xs n e
get_or_any [] n d e l = absurd (omega (arith, l))
get_or_any (x ∷ xs) zero d e l = refl
get_or_any (x ∷ xs) (suc n) d e l = get_or_any xs n d e (omega (arith, l))

is_none : (x : Option (Canonical Response)) → x ≡ None → IsNone x
is_none x e = subst IsNone (sym e) refl

-- an answer, or that there is none
pub by_answer : {P : Canonical Response → Type 0} (x : Option (Canonical Response)) (z : Result (Box (Canonical Response)) EvalError) → ((r : Canonical Response) → x ≡ Some r → IsBoxed r z) → (x ≡ None → z ≡ Err error.NoSolution) → ((r : Canonical Response) → x ≡ Some r → P r) → IfAnswered z P
by_answer {P} (Some r) z some none h = in_a_box z (some r refl)
  where
    in_a_box : (z : Result (Box (Canonical Response)) EvalError) → IsBoxed r z → IfAnswered z P
    in_a_box (Ok b) e = subst P (sym e) (h r refl)
    in_a_box (Err e) n = tt
by_answer {P} None z some none h = subst (λ w. IfAnswered w P) (sym (none refl)) tt

pub some_is_ok : (x : Option (Canonical Response)) (z : Result (Box (Canonical Response)) EvalError) → ((r : Canonical Response) → x ≡ Some r → IsBoxed r z) → z ≡ Err error.NoSolution → x ≡ None
some_is_ok (Some r) z some e = (let n : IsBoxed r (Err error.NoSolution) = subst (IsBoxed r) e (some r refl) in absurd (n refl))
some_is_ok None z some e = refl

copied_here : (p : Option (Canonical Response)) (r : Canonical Response) → IsCopiedAnswer p (Some r) → (q : Canonical Response) × (p ≡ Some q) × IsCopied q r
copied_here (Some q) r h = (q, refl, h)
copied_here None r h = absurd h

copied_some : (p x : Option (Canonical Response)) (r : Canonical Response) → IsCopiedAnswer p x → x ≡ Some r → (q : Canonical Response) × (p ≡ Some q) × IsCopied q r
copied_some p x r h e = copied_here p r (subst (IsCopiedAnswer p) e h)

copied_from : (p : Option (Canonical Response)) → IsCopiedAnswer p None → p ≡ None
copied_from (Some q) h = absurd h
copied_from None h = refl

copied_none : (p x : Option (Canonical Response)) → IsCopiedAnswer p x → x ≡ None → p ≡ None
copied_none p x h e = copied_from p (subst (IsCopiedAnswer p) e h)

-- what is read of the entry x with the index n, whose input is the one asked
module _ {a : Cx} {g : SearchGraph} (m n : ℕ) (search : IsSearch a g m) (below : n < length g.stack.items) (input : CanonicalInput) (same : (d : StackEntry) → AreOneInput a.nodes (get_or g.stack.items n d).input input)
    (x : Option (Canonical Response)) (z : Result (Box (Canonical Response)) EvalError) (some : (r : Canonical Response) → x ≡ Some r → IsBoxed r z) (none : x ≡ None → z ≡ Err error.NoSolution) (e : StackEntry) (is : e ≡ get_or g.stack.items n e) (copy : IsCopiedAnswer e.provisional x) where
  head_there : IsHead a.nodes (get_or g.stack.items n e)
  head_there = search.heads n e below

  provisional_there : (r : Canonical Response) → x ≡ Some r → (q : Canonical Response) × ((get_or g.stack.items n e).provisional ≡ Some q) × IsCopied q r
  provisional_there r h = (let c = copied_some e.provisional x r copy h in (c.0, ap (λ y. y.provisional) (sym is) ∙ c.1, c.2))

  pub read_fits : IfAnswered z (IsAnswerTo a.nodes (kinds_of input))
  read_fits =
      by_answer x z some none (λ r h.
      let c = provisional_there r h in
      let one = same e in
      copied_head a.nodes (get_or g.stack.items n e) c.0 r (kinds_of input) head_there (ap (λ (f : Form). f.kinds) one.form) c.1 c.2)

  read_from_it : (r : Canonical Response) → x ≡ Some r → IsReadAt g.stack.items n r
  read_from_it r h d = (let c = provisional_there r h in let y = get_or_any g.stack.items n d e below in (c.0, ap (λ w. w.provisional) y ∙ c.1, c.2))

  pub read_exactly : IfAnswered z (IsReadAt g.stack.items n)
  read_exactly = by_answer x z some none read_from_it

  pub read_answers : IfAnswered z (λ r. IsReadAt g.stack.items n r ⊎ SaysNothing (kinds_of input) (response_at a.nodes r))
  read_answers = by_answer x z some none (λ r h. inl (read_from_it r h))

  pub read_used : (h : SearchGraph) (k : PathKindData) (step : PathKindData) → entries_at a.nodes h ≡ marked (entries_at a.nodes g) (length g.stack.items - suc n) → k ≡ path.Coinductive → path_kind_of k ≡ path_kind (entries_at a.nodes g) (length g.stack.items - suc n) (path_kind_of step)
      → IfAnswered z (λ r. r.value.certainty ≡ certainty.Yes → IsUsable (passed (path_kind_of step) (assumed_in a.nodes h)) (answer_sequent (form_of a.nodes input) (response_at a.nodes r)))
  read_used h k step read holds path =
      by_answer x z some none (λ r w sure.
      let c = provisional_there r w in
      let one = same e in
      subst (λ f. IsUsable (passed (path_kind_of step) (assumed_in a.nodes h)) (answer_sequent f (response_at a.nodes r))) one.form
      (read_usable a.nodes g.stack.items (entries_at a.nodes h) n (path_kind_of step) e c.0 r below read c.1 c.2 sure (sym path ∙ ap path_kind_of holds)))

  pub read_refuted : z ≡ Err error.NoSolution → HasNoneAt g.stack.items n
  read_refuted q = λ d. (let y = get_or_any g.stack.items n d e below in ap (λ w. w.provisional) y ∙ ap (λ w. w.provisional) (sym is) ∙ copied_none e.provisional x copy (some_is_ok x z some q))

-- a first answer
module _ (ts us : List Tree) (input : CanonicalInput) (asked : IsQueryInput ts input) (k : PathKindData) (x : Option (Canonical Response)) (z : Result (Box (Canonical Response)) EvalError) (some : (r : Canonical Response) → x ≡ Some r → IsBoxed r z) (none : x ≡ None → z ≡ Err error.NoSolution)
    (says : IfSome x (λ r. response_at us r ≡ record (unconstrained (kinds_of input)) { max_universe = input.canonical.max_universe })) (holds : IfSome x (λ r. HoldsResponse us r.value)) where
  said : (r : Canonical Response) → x ≡ Some r → response_at us r ≡ record (unconstrained (kinds_of input)) { max_universe = input.canonical.max_universe }
  said r e = subst (λ y. IfSome y (λ v. response_at us v ≡ record (unconstrained (kinds_of input)) { max_universe = input.canonical.max_universe })) e says

  pub first_fits : IfAnswered z (IsAnswerTo us (kinds_of input))
  first_fits = by_answer x z some none (λ r e. unchanged_fits ts us input r asked (subst (λ y. IfSome y (λ v. HoldsResponse us v.value)) e holds) (said r e))

  pub first_answers : (xs : List StackEntry) (n : ℕ) → IfAnswered z (λ r. IsReadAt xs n r ⊎ SaysNothing (kinds_of input) (response_at us r))
  first_answers xs n = by_answer x z some none (λ r e. inr (nothing_said _ _ _ (said r e)))

  pub first_refuted : (g : SearchGraph) (n : ℕ) → n < length g.stack.items → ((d : StackEntry) → AreOneInput ts (get_or g.stack.items n d).input input) → (step : PathKindData) → IsNone x ↔ ((k ≡ path.Inductive) × (mode_of input.typing_mode ≢ coherence))
      → path_kind_of k ≡ path_kind (entries_at ts g) (length g.stack.items - suc n) (path_kind_of step) → z ≡ Err error.NoSolution → HasNoneAt g.stack.items n ⊎ IsCut ts g (form_of ts input) input.typing_mode step
  first_refuted g n below same step exact path q =
      let c = exact.0 (is_none x (some_is_ok x z some q)) in
      inr (record { head = n; below = below; same = λ d. (let y = same d in y.form); path = sym path ∙ ap path_kind_of c.0; elsewhere = c.1 })
