-- The stack of a search while goals are evaluated: what stays, and what it assumes.
use Rattle.std.proofs.Common.{◌≡◌, ℕ, ◌<◌, ◌≤◌, List, [], ◌∷◌, ◌++◌, map, length, get_or, Option, Some, None, refl, sym, ap, ◌∙◌, subst, arith, ◌⊎◌, inl, inr, suc, true, IsTrue}
use Rattle.std.specs.Prelude.{All, reverse, Bool, max, ◌-◌, ◌⊎◌}
use Rattle.std.proofs.lemmas.List.{reverse-append}
use Rattle.std.proofs.lemmas.List.Elements.{All-cons, All-head, All-tail}
use Rattle.nts_model.specs.declared.labels.Sort.{Sort}
use Rattle.nts_model.specs.Terms.Trees.{Tree, Place, more, empty}
use Rattle.nts_model.specs.Tables.Contents.{Content}
use Rattle.nts_model.specs.Derivations.Sequents.{Premise, PathKind, coinductive, unknown, inductive, forced_ambiguity}
use Rattle.nts_model.specs.Derivations.Rules.{Meaning, Mode, GoalKind, Equation, related, alike, goal_kind, step_kind}
use Rattle.nts_theory.specs.RelatingCandidates.{HoldsEquationFrom, IsProvedPut}
use Rattle.nts_theory.proofs.Derivations.Monotone.{replaced_more}
use Rattle.nts_model.specs.Derivations.Proving.{sequent_at}
use Rattle.nts_model.specs.Derivations.Proofs.{Assumed, passed}
use Rattle.nts_model.specs.Terms.Substitutions.{filled}
use Rattle.nts_model.specs.Derivations.Handlers.{Handler, Candidate, premise_by}
use Rattle.nts_model.specs.Searching.Stacks.{IsProvedFrom, IsProvedFromAt, IsReadSince, AreReadSince, assumptions, path_kind}
use Rattle.nts_theory.proofs.Searching.Stacks.{read_since_covers}
use Rattle.nts_model.specs.Canonical.Inputs.{PositionKind, CanonicalInput as Form}
use Rattle.nts_model.specs.Answers.Responses.{IsResponseTo, IsOverPositions}
use Rattle.nts_theory.proofs.Derivations.Assuming.{Covers, covers_passed, derived_more}
use Rattle.nts_store.specs.Growth.{IsIn, Extends}
use Rattle.nts_store.proofs.Growing.{IsIn-extended}
use Rattle.nts_store.specs.declared.nodes.NodeId.{NodeId}
use Rattle.nts_terms.specs.declared.cx.Cx.{Cx}
use Rattle.nts_terms.specs.Rest.{Grows}
use Rattle.nts_terms.specs.Handles.{Holds}
use Rattle.nts_canonical.specs.declared.types.Canonical.{Canonical}
use Rattle.nts_canonical.specs.declared.types.CanonicalInput.{CanonicalInput}
use Rattle.nts_canonical.specs.Forms.{form_of, query_tree}
use Rattle.nts_model.specs.Terms.Scoping.{IsWellBound}
use Rattle.nts_store.specs.Filled.{HasValues}
use Rattle.nts_canonical.specs.Building.{kinds_of, values_of, HasNoName}
use Rattle.nts_canonical.specs.Folds.{HoldsQuery-kept}
use Rattle.nts_response.specs.declared.types.Response.{Response}
use Rattle.nts_response.specs.Applicable.{IsOverSorts, IsHiddenOver, IsGoalOver, IsApplicable, response_sorts}
use Rattle.nts_response.proofs.Each.{response_kept}
use Rattle.nts_meaning.specs.Answering.{IsFormOf, IsQueryInput, IsAnswerTo, TellsNoMore}
use Rattle.nts_meaning.specs.Meant.{IsServed, HoldsEither, HoldsSurely}
use Rattle.nts_meaning.specs.Running.{Stays}
use Rattle.nts_meaning.specs.Telling.{Ruling, QueryTells}
use Rattle.nts_candidates.specs.Offered.{path_kind_of}
use Rattle.nts_search.specs.declared.stack.StackEntry.{StackEntry}
use Rattle.nts_search.specs.declared.stack.SearchGraph.{SearchGraph}
use Rattle.nts_canonical.specs.Alike.{AreOneInput}
use Rattle.nts_search.specs.Searching.{entry_at, entries_at, answer_at, certainty_in, IsStack, HasNoInput, IsInputAt, counted_rounds, with_round}
use Rattle.nts_search.proofs.StackLater.{IsStack-later, entries_kept, response_same}
use Rattle.nts_terms.specs.Modes.{mode_of}
use Rattle.nts_meaning.specs.Searching.{IsHeadAnswer, IsHead, IsSearch, IsEntryLater, AreLater, Searches, assumed_in, IsAnswerTold, HeadsTell, IsCut, IsGoalCut}
use Rattle.nts_meaning.proofs.Unchanged.{none_of}
use Rattle.nts_meaning.proofs.Told.{verdict_same}
use Rattle.nts_terms.specs.declared.modes.TypingMode.{TypingMode}
use Rattle.nts_certainty.specs.declared.sources.PathKind.{PathKind as PathKindData}

-- an answer that can be applied can be applied while the store grows
over_later : (a b : List Tree) (ss : List Sort) (t : NodeId) → Extends a b → IsIn a t → IsOverSorts a ss t → IsOverSorts b ss t
over_later a b ss t e i h = record { names = rw (e.kept t i) h.names; leaves = rw (e.kept t i) h.leaves; closed = rw (e.kept t i) h.closed; well_bound = rw (e.kept t i) h.well_bound }

place_later : (a b : List Tree) (p : Place) (t : NodeId) → Extends a b → Holds p a t → Holds p b t
place_later a b p t e h = record { within = IsIn-extended e t h.within; fits = rw (e.kept t h.within) h.fits }

applicable_later : (a b os : List Tree) (r : Canonical Response) → Extends a b → TellsNoMore r → IsApplicable a os r → IsApplicable b os r
applicable_later a b os r e none x =
    let held = x.holds in
    record {
      holds = response_kept a b r.value e held;
      kinds = x.kinds;
      values = λ i d l. (let h = held.values i d l in over_later a b _ _ e h.within (x.values i d l));
      constraints = λ i d l.
          (let h = held.constraints i d l in
          let left = h.left in
          let right = h.right in
          let y = x.constraints i d l in
          record { left = over_later a b _ _ e left.within y.left; right = over_later a b _ _ e right.within y.right; place = place_later a b _ _ e y.place });
      hidden = none_of (IsHiddenOver b (response_sorts r)) _ none.no_hidden;
      open_goals = none_of (IsGoalOver b (response_sorts r)) _ none.no_goals;
      long = x.long;
    }

pub answer_later : (a b : List Tree) (ks : List PositionKind) (r : Canonical Response) → Extends a b → IsAnswerTo a ks r → IsAnswerTo b ks r
answer_later a b ks r e h =
    record {
      holds = response_kept a b r.value e h.holds;
      to = subst (IsResponseTo ks) (sym (response_same a b r e h.holds)) h.to;
      applicable = λ i p same. applicable_later a b _ r e h.no_more (h.applicable i p same);
      no_more = h.no_more;
    }

pub head_answer_later : (a b : List Tree) (ks : List PositionKind) (x : Option (Canonical Response)) → Extends a b → IsHeadAnswer a ks x → IsHeadAnswer b ks x
head_answer_later a b ks None e h = tt
head_answer_later a b ks (Some r) e h = answer_later a b ks r e h

-- an input that can be asked can be asked while the store grows
pub form_later : (a b : List Tree) (c : CanonicalInput) → Extends a b → IsQueryInput a c → form_of b c ≡ form_of a c
form_later a b c e h =
    let held = h.input in
    let query = held.holds in
    let first = e.kept c.canonical.value.goal.param_env.node query.environment.within in
    let second = e.kept c.canonical.value.goal.predicate.node query.predicate.within in
    let none = h.no_hidden in
    cc (first, second, none)

pub input_later : (a b : List Tree) (c : CanonicalInput) → Extends a b → IsQueryInput a c → IsQueryInput b c
input_later a b c e h =
    let same = form_later a b c e h in
    let i = h.input in
    let query : query_tree b c.canonical.value ≡ query_tree a c.canonical.value = ap (λ (f : Form). more f.environment (more f.predicate (more f.hidden empty))) same in
    record {
      asks = subst IsFormOf (sym same) h.asks;
      input = record {
        holds = HoldsQuery-kept a b c.canonical.value i.holds e;
        universe = i.universe;
        kinds = i.kinds;
        positions = subst (HasValues (values_of c)) (sym query) i.positions;
        no_name = subst HasNoName (sym query) i.no_name;
        well_bound = subst IsWellBound (sym query) i.well_bound;
      };
      environment = subst (λ (f : Form). IsOverPositions f.environment) (sym same) h.environment;
      predicate = subst (λ (f : Form). IsOverPositions f.predicate) (sym same) h.predicate;
      no_hidden = h.no_hidden;
    }

head_later : (a b : List Tree) (x : StackEntry) → Extends a b → IsHead a x → IsHead b x
head_later a b x e h = record { input = input_later a b x.input e h.input; answer = head_answer_later a b (kinds_of x.input) x.provisional e h.answer }

-- entries later on
pub later_itself : (xs : List StackEntry) → AreLater xs xs
later_itself [] = tt
later_itself (x ∷ xs) = (record { input = refl; kind = refl; provisional = refl; round = refl; read = λ h. h }, later_itself xs)

one_then : (x y z : StackEntry) → IsEntryLater x y → IsEntryLater y z → IsEntryLater x z
one_then x y z a b = record { input = b.input ∙ a.input; kind = b.kind ∙ a.kind; provisional = b.provisional ∙ a.provisional; round = b.round ∙ a.round; read = λ h. b.read (a.read h) }

pub later_then : (xs ys zs : List StackEntry) → AreLater xs ys → AreLater ys zs → AreLater xs zs
later_then [] [] [] a b = tt
later_then [] [] (z ∷ zs) a b = absurd b
later_then [] (y ∷ ys) zs a b = absurd a
later_then (x ∷ xs) [] zs a b = absurd a
later_then (x ∷ xs) (y ∷ ys) [] a b = absurd b
later_then (x ∷ xs) (y ∷ ys) (z ∷ zs) a b = (one_then x y z a.0 b.0, later_then xs ys zs a.1 b.1)

pub later_long : (xs ys : List StackEntry) → AreLater xs ys → length ys ≡ length xs
later_long [] [] h = refl
later_long [] (y ∷ ys) h = absurd h
later_long (x ∷ xs) [] h = absurd h
later_long (x ∷ xs) (y ∷ ys) h = (let e = later_long xs ys h.1 in omega (arith, e))

-- the last of them was pushed, and popped
pub later_pushed : (xs ys : List StackEntry) (x y : StackEntry) → AreLater (xs ++ x ∷ []) (ys ++ y ∷ []) → AreLater xs ys × IsEntryLater x y
later_pushed [] [] x y h = (tt, h.0)
later_pushed [] (z ∷ []) x y h = absurd h.1
later_pushed [] (z ∷ (w ∷ ys)) x y h = absurd h.1
later_pushed (z ∷ []) [] x y h = absurd h.1
later_pushed (z ∷ (w ∷ xs)) [] x y h = absurd h.1
later_pushed (z ∷ xs) (w ∷ ys) x y h = (let r = later_pushed xs ys x y h.1 in ((h.0, r.0), r.1))

later_push : (xs ys : List StackEntry) (x y : StackEntry) → AreLater xs ys → IsEntryLater x y → AreLater (xs ++ x ∷ []) (ys ++ y ∷ [])
later_push [] [] x y h k = (k, tt)
later_push [] (z ∷ ys) x y h k = absurd h
later_push (z ∷ xs) [] x y h k = absurd h
later_push (z ∷ xs) (w ∷ ys) x y h k = (h.0, later_push xs ys x y h.1 k)

pub later_reversed : (xs ys : List StackEntry) → AreLater xs ys → AreLater (reverse xs) (reverse ys)
later_reversed [] [] h = tt
later_reversed [] (y ∷ ys) h = absurd h
later_reversed (x ∷ xs) [] h = absurd h
later_reversed (x ∷ xs) (y ∷ ys) h = rw (reverse-append (x ∷ []) xs, reverse-append (y ∷ []) ys) (later_push (reverse xs) (reverse ys) x y (later_reversed xs ys h.1) h.0)

-- the search goes on
pub Searches-refl : {a b : Cx} {g : SearchGraph} (n : ℕ) → IsSearch a g n → Grows a b → Searches a b g g
Searches-refl {a} {b} {g} n s w =
    let rest = w.rest in
    record {
      stack = IsStack-later a.nodes b.nodes g w.extends s.stack;
      heads = λ i d l. head_later a.nodes b.nodes (get_or g.stack.items i d) w.extends (s.heads i d l);
      rounds = rw rest.rounds s.rounds;
      more_rounds = omega arith;
      more_inputs = omega arith;
      marks = λ m. m;
      depth = refl;
      later = later_itself g.stack.items;
    }

pub Searches-trans : {a b c : Cx} {g h i : SearchGraph} → Searches a b g h → Searches b c h i → Searches a c g i
Searches-trans {a} {b} {c} {g} {h} {i} x y =
    let first = x.more_rounds in
    let then = y.more_rounds in
    let inputs = x.more_inputs in
    let more = y.more_inputs in
    record { stack = y.stack; heads = y.heads; rounds = y.rounds; more_rounds = omega (arith, first, then); more_inputs = omega (arith, inputs, more); marks = λ m. y.marks (x.marks m); depth = y.depth ∙ x.depth; later = later_then g.stack.items h.stack.items i.stack.items x.later y.later }

pub search_later : {a b : Cx} {g h : SearchGraph} (n m : ℕ) → m ≤ n → IsSearch a g n → Searches a b g h → IsSearch b h m
search_later {a} {b} {g} {h} n m l s x =
    let long = later_long g.stack.items h.stack.items x.later in
    let depth = x.depth in
    let room = s.room in
    record { stack = x.stack; heads = x.heads; rounds = x.rounds; room = omega (arith, l, long, depth, room) }

pub search_grown : {a b c : Cx} {g h : SearchGraph} (n : ℕ) → IsSearch a g n → Searches a b g h → Grows b c → Searches a c g h
search_grown {a} {b} {c} {g} {h} n s x w = (let now : IsSearch b h n = search_later n n (omega arith) s x in Searches-trans x (Searches-refl n now w))

pub search_grows : {a b : Cx} {g : SearchGraph} (n m : ℕ) → m ≤ n → IsSearch a g n → Grows a b → IsSearch b g m
search_grows n m l s w = search_later n m l s (Searches-refl n s w)

-- what it assumes
entry_since : (ts : List Tree) (x y : StackEntry) → IsEntryLater x y → IsReadSince (entry_at ts x) (entry_at ts y)
entry_since ts x y h =
    let i = h.input in
    let p = h.provisional in
    record {
      input = ap (form_of ts) i;
      kind = ap path_kind_of h.kind;
      response = λ j. answer_at ts (i j) (p j);
      certainty = ap certainty_in p;
      read = h.read;
    }

since_of : (ts : List Tree) (xs ys : List StackEntry) → AreLater xs ys → AreReadSince (map (entry_at ts) xs) (map (entry_at ts) ys)
since_of ts [] [] h = tt
since_of ts [] (y ∷ ys) h = absurd h
since_of ts (x ∷ xs) [] h = absurd h
since_of ts (x ∷ xs) (y ∷ ys) h = (entry_since ts x y h.0, since_of ts xs ys h.1)

pub search_covers : {a b : Cx} {g h : SearchGraph} (n : ℕ) → IsSearch a g n → Extends a.nodes b.nodes → Searches a b g h → Covers (assumed_in a.nodes g) (assumed_in b.nodes h)
search_covers {a} {b} {g} {h} n s e x =
    subst (λ es. Covers (assumptions es) (assumed_in b.nodes h)) (entries_kept a.nodes b.nodes g e s.stack)
    (read_since_covers (entries_at b.nodes g) (entries_at b.nodes h) (since_of b.nodes (reverse g.stack.items) (reverse h.stack.items) (later_reversed g.stack.items h.stack.items x.later)))

-- nothing is assumed where nothing stands on the stack
pub nothing_assumed : {a b : Cx} {g h : SearchGraph} (ts : List Tree) → g.stack.items ≡ [] → Searches a b g h → assumed_in ts h ≡ []
nothing_assumed {a} {b} {g} {h} ts e x = (let none : h.stack.items ≡ [] = no_more h.stack.items (subst (λ xs. AreLater xs h.stack.items) e x.later) in ap (λ xs. assumptions (map (entry_at ts) (reverse xs))) none)
  where
    no_more : (ys : List StackEntry) → AreLater [] ys → ys ≡ []
    no_more [] h = refl
    no_more (y ∷ ys) h = absurd h

pub none_passed : (k : PathKind) → passed k [] ≡ []
none_passed coinductive = refl
none_passed unknown = refl
none_passed inductive = refl
none_passed forced_ambiguity = refl

-- what is proved from assumptions is proved from more
pub stays_more : {c : Content} {m : Meaning} {mode : Mode} {A B : List Assumed} {e p : Tree} → Covers A B → Stays c (λ d. IsProvedFrom m mode A d e p) → Stays c (λ d. IsProvedFrom m mode B d e p)
stays_more {c} {m} {mode} {A} {B} {e} {p} f s = record { later = λ d t k. derived_more m mode A B (sequent_at d e p) f (s.later d t k) }

pub equation_more : (m : Meaning) (mode : Mode) (A B : List Assumed) (c : Content) (e : Tree) (vs : List Tree) (q : Equation) → Covers A B → HoldsEquationFrom m mode A c e vs q → HoldsEquationFrom m mode B c e vs q
equation_more m mode A B c e vs (alike a b) f h = h
equation_more m mode A B c e vs (related a b) f (inl h) = inl h
equation_more m mode A B c e vs (related a b) f (inr h) =
    inr (record { left = h.left; right = h.right; goals = h.goals; proved = λ g i. (let x = h.proved g i in (x.0, derived_more m mode A B (sequent_at c e g) f x.1)); related = h.related })

pub goal_more : (m : Meaning) (mode : Mode) (A B : List Assumed) (c : Content) (g : Tree) (vs : List Tree) (q : Premise) → Covers A B → IsProvedFromAt m mode (passed (step_kind (goal_kind m g) q.source) A) c vs q → IsProvedFromAt m mode (passed (step_kind (goal_kind m g) q.source) B) c vs q
goal_more m mode A B c g vs q f y =
    let k = step_kind (goal_kind m g) q.source in
    record { environment = y.environment; predicate = y.predicate; proved = derived_more m mode (passed k A) (passed k B) _ (covers_passed k A B f) y.proved }

put_more_assumed : (m : Meaning) (mode : Mode) (A B : List Assumed) (c : Content) (k : GoalKind) (p : Premise) → Covers A B → IsProvedPut m mode A c k p → IsProvedPut m mode B c k p
put_more_assumed m mode A B c k p f y =
    let step = step_kind k p.source in
    record {
      environment = y.environment;
      predicate = y.predicate;
      says = y.says;
      goal = y.goal;
      replaced = replaced_more (λ a v w. (w.0, derived_more m mode (passed step A) (passed step B) _ (covers_passed step A B f) w.1)) y.replaced;
      proved = derived_more m mode (passed step A) (passed step B) _ (covers_passed step A B f) y.proved;
    }

pub held_more : {m : Meaning} {mode : Mode} {A B : List Assumed} {c : Content} {e g : Tree} {d : Candidate} → Covers A B → HoldsSurely m mode A c e g d → HoldsSurely m mode B c e g d
held_more {m} {mode} {A} {B} {c} {e} {g} {d} f s = record { sure = s.sure; holds = by_case s.holds }
  where
    by_case : HoldsEither m mode A c e g d → HoldsEither m mode B c e g d
    by_case (inl x) =
        inl (record { chosen = x.chosen; values = x.values; known = x.known; equations = x.equations; constraints = x.constraints; goals = λ q i. goal_more m mode A B c g x.chosen q f (x.goals q i) })
    by_case (inr (some, x)) =
        inr (some, record { chosen = x.chosen; values = x.values; known = x.known; equations = λ q i. equation_more m mode A B c e x.chosen q f (x.equations q i); constraints = x.constraints; goals = λ q i. elim (x.goals q i) [ inl y ↦ inl (goal_more m mode A B c g x.chosen q f y) | inr y ↦ inr (put_more_assumed m mode A B c (goal_kind m g) (premise_by (filled x.chosen) q) f y) ] })

pub served_more : {h : Handler} {m : Meaning} {mode : Mode} {A B : List Assumed} {c : Content} {e g : Tree} → Covers A B → IsServed h m mode A c e g → IsServed h m mode B c e g
served_more {h} {m} {mode} {A} {B} {c} {e} {g} f s =
    let x : HoldsSurely m mode B c e g s.candidate = held_more f (record { sure = s.sure; holds = s.holds }) in
    record { candidate = s.candidate; offered = s.offered; sure = x.sure; holds = x.holds }

-- what provisional answers tell
abbrev IsToldAt : Ruling → List Tree → StackEntry → Type 0
IsToldAt h ts x = IsAnswerTold h (mode_of x.input.typing_mode) ts (form_of ts x.input) x.provisional

pub answer_told_later : (h : Ruling) (mode : Mode) (a b : List Tree) (ks : List PositionKind) (f : Form) (x : Option (Canonical Response)) → Extends a b → IsHeadAnswer a ks x → IsAnswerTold h mode a f x → IsAnswerTold h mode b f x
answer_told_later h mode a b ks f None e k t = t
answer_told_later h mode a b ks f (Some r) e k t = subst (QueryTells h mode f) (sym (verdict_same a b r e k.holds)) t

told_at : (h : Ruling) (a b : List Tree) (x y : StackEntry) → Extends a b → IsHead a x → IsEntryLater x y → IsToldAt h a x → IsToldAt h b y
told_at h a b x y e head later told =
    let input = later.input in
    let provisional = later.provisional in
    let there = answer_told_later h (mode_of x.input.typing_mode) a b (kinds_of x.input) (form_of a x.input) x.provisional e head.answer told in
    let here : IsToldAt h b x = subst (λ f. IsAnswerTold h (mode_of x.input.typing_mode) b f x.provisional) (sym (form_later a b x.input e head.input)) there in
    rw (input, provisional) here

told_later : (h : Ruling) (a b : List Tree) (xs ys : List StackEntry) → Extends a b → All (IsHead a) xs → AreLater xs ys → All (IsToldAt h a) xs → All (IsToldAt h b) ys
told_later h a b [] [] e k l t = λ i d z. absurd (omega (arith, z))
told_later h a b [] (y ∷ ys) e k l t = absurd l
told_later h a b (x ∷ xs) [] e k l t = absurd l
told_later h a b (x ∷ xs) (y ∷ ys) e k l t =
    All-cons (IsToldAt h b) y ys (told_at h a b x y e (All-head (IsHead a) x xs k) l.0 (All-head (IsToldAt h a) x xs t)) (told_later h a b xs ys e (All-tail (IsHead a) x xs k) l.1 (All-tail (IsToldAt h a) x xs t))

pub heads_tell_later : {a b : Cx} {g h : SearchGraph} (hd : Ruling) (n : ℕ) → IsSearch a g n → Extends a.nodes b.nodes → Searches a b g h → HeadsTell hd a.nodes g → HeadsTell hd b.nodes h
heads_tell_later {a} {b} {g} {h} hd n s e x t = told_later hd a.nodes b.nodes g.stack.items h.stack.items e s.heads x.later t

pub tell_grown : {a b : Cx} {g : SearchGraph} (hd : Ruling) (n : ℕ) → IsSearch a g n → Grows a b → HeadsTell hd a.nodes g → HeadsTell hd b.nodes g
tell_grown hd n s w t = heads_tell_later hd n s w.extends (Searches-refl n s w) t

pub covers_grown : {a b : Cx} {g : SearchGraph} (n : ℕ) → IsSearch a g n → Grows a b → Covers (assumed_in a.nodes g) (assumed_in b.nodes g)
covers_grown n s w = search_covers n s w.extends (Searches-refl n s w)

-- a round was counted
pub search_counted : {a : Cx} {g : SearchGraph} (n m : ℕ) → IsSearch a g n → m ≤ a.round_limit → Searches a a g (with_round g m)
search_counted {a} {g} n m s l =
    let k = s.stack in
    record {
      stack = record { held = k.held; index = k.index; counted = k.counted; nested = k.nested };
      heads = s.heads;
      rounds = (let r = s.rounds in omega (arith, r, l));
      more_rounds = omega arith;
      more_inputs = omega arith;
      marks = λ m. m;
      depth = refl;
      later = later_itself g.stack.items;
    }

-- .. and is from then on
pub round_counted : {a b : Cx} {h : SearchGraph} (g : SearchGraph) (m : ℕ) → Searches a b (with_round g m) h → m ≤ counted_rounds h
round_counted g m x = (let more = x.more_rounds in omega (arith, more))

-- an input that stands on the stack is one of its entries'
stands_in : (ts : List Tree) (i : CanonicalInput) (xs : List StackEntry) (n : ℕ) → All (λ x. AreOneInput ts x.input i → ⊥) xs → n < length xs → ((d : StackEntry) → AreOneInput ts (get_or xs n d).input i) → ⊥
stands_in ts i [] n none l same = omega (arith, l)
stands_in ts i (x ∷ xs) n none l same = none n x l (same x)

pub input_stands : (ts : List Tree) (g : SearchGraph) (i : CanonicalInput) (n : ℕ) → HasNoInput ts g i → IsInputAt ts g i n → ⊥
input_stands ts g i n none at = stands_in ts i g.stack.items n none at.below at.same

pub nothing_stands : (ts : List Tree) (g : SearchGraph) (i : CanonicalInput) → g.stack.items ≡ [] → HasNoInput ts g i
nothing_stands ts g i e = rw e (λ n d l. absurd (omega (arith, l)))

-- its mark has no part in its stack
stack_unmarked : (ts : List Tree) (g : SearchGraph) (z : Bool) → IsStack ts g → IsStack ts (record g { has_overflowed = z })
stack_unmarked ts g z k = record { held = k.held; index = k.index; counted = k.counted; nested = k.nested }

pub search_unmarked : {a : Cx} {g : SearchGraph} (n : ℕ) (z : Bool) → IsSearch a g n → IsSearch a (record g { has_overflowed = z }) n
search_unmarked {a} {g} n z s = record { stack = stack_unmarked a.nodes g z s.stack; heads = s.heads; rounds = s.rounds; room = s.room }

-- an overflow is marked
pub search_marked : {a : Cx} {g : SearchGraph} (n : ℕ) → IsSearch a g n → Searches a a g (record g { has_overflowed = true })
search_marked {a} {g} n s =
    record {
      stack = stack_unmarked a.nodes g true s.stack;
      heads = s.heads;
      rounds = s.rounds;
      more_rounds = omega arith;
      more_inputs = omega arith;
      marks = λ m. refl;
      depth = refl;
      later = later_itself g.stack.items;
    }

-- the mark was set aside while a query was answered, and is one again if it was
pub search_marked_again : {a b : Cx} {g h : SearchGraph} (y z : Bool) → Searches a b (record g { has_overflowed = y }) h → (IsTrue g.has_overflowed → IsTrue z) → Searches a b g (record h { has_overflowed = z })
search_marked_again {a} {b} {g} {h} y z x m =
    record {
      stack = stack_unmarked b.nodes h z x.stack;
      heads = x.heads;
      rounds = x.rounds;
      more_rounds = x.more_rounds;
      more_inputs = x.more_inputs;
      marks = m;
      depth = x.depth;
      later = x.later;
    }

-- a cycle that is cut, seen from a smaller store
pub cut_earlier : {a b : List Tree} {g : SearchGraph} {f : Form} {mode : TypingMode} {k : PathKindData} → Extends a b → IsStack a g → All (IsHead a) g.stack.items → IsCut b g f mode k → IsCut a g f mode k
cut_earlier {a} {b} {g} {f} {mode} {k} e stack heads c =
    record {
      head = c.head;
      below = c.below;
      same = λ d. (let x = get_or g.stack.items c.head d in let h = heads c.head d c.below in sym (form_later a b x.input e h.input) ∙ c.same d);
      path = subst (λ es. path_kind es (length g.stack.items - suc c.head) (path_kind_of k) ≡ inductive) (entries_kept a b g e stack) c.path;
      elsewhere = c.elsewhere;
    }

pub goal_cut_earlier : {P : Type 0} {a b : List Tree} {g : SearchGraph} {c : Content} {mode : TypingMode} {x y : Tree} {k : PathKindData} → Extends a b → IsStack a g → All (IsHead a) g.stack.items → P ⊎ IsGoalCut b g c mode x y k → P ⊎ IsGoalCut a g c mode x y k
goal_cut_earlier e stack heads (inl p) = inl p
goal_cut_earlier e stack heads (inr (i, of, c)) = inr (i, of, cut_earlier e stack heads c)
