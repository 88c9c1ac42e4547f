-- What carries a decision from call to call: a search that can decide, later on and for lower goals, and errors that are handed on.
use Rattle.std.proofs.Common.{◌≡◌, ◌≢◌, ℕ, suc, [], ◌≤◌, ◌+◌, Bool, true, false, List, get_or, Result, Ok, Err, refl, sym, subst, ◌∙◌, arith}
use Rattle.std.specs.Prelude.{All}
use Rattle.std.specs.Result.{is_err}
use Rattle.nts_model.specs.Terms.Trees.{Tree}
use Rattle.nts_model.specs.Derivations.Handlers.{Handler}
use Rattle.nts_store.specs.Growth.{Extends}
use Rattle.nts_store.specs.declared.fault.EvalError.{EvalError}
use Rattle.nts_store.specs.declared.fault.EvalError.TheVariants as error
use Rattle.nts_terms.specs.declared.cx.Cx.{Cx}
use Rattle.nts_terms.specs.Modes.{mode_of}
use Rattle.nts_terms.specs.Rest.{Grows}
use Rattle.nts_search.specs.declared.stack.StackEntry.{StackEntry}
use Rattle.nts_search.specs.declared.stack.SearchGraph.{SearchGraph}
use Rattle.nts_meaning.specs.Searching.{IsSearch, IsHead}
use Rattle.nts_meaning.proofs.Searching.{form_later}
use Rattle.nts_certainty.specs.declared.certainty.Certainty.{Certainty}
use Rattle.nts_certainty.specs.declared.certainty.Certainty.TheVariants as certainty
use Rattle.nts_terms.specs.declared.handles.Goal.{Goal}
use Rattle.nts_terms.specs.declared.modes.TypingMode.{TypingMode}
use Rattle.nts_table.specs.Tables.{Table}
use Rattle.nts_evaluation.specs.Deciding.{IsDeterminate, MayAnswer, IsQueryDecided, IsAbove, CanDecide, IsAsBefore, IsAsDecided, IfNoFault, Decides}

-- an error that is no answer is answered as anything is decided
pub fault_is_decided : {A : Type 0} (b : Bool) (r : Result A EvalError) (P : A → Type 0) → is_err r ≡ true → r ≢ Err error.NoSolution → IsAsDecided b r P
fault_is_decided b (Ok x) P f n = absurd (cc f)
fault_is_decided b (Err error.NoSolution) P f n = absurd (n refl)
fault_is_decided b (Err error.Memory) P f n = tt
fault_is_decided b (Err error.Full) P f n = tt

fault_left : {A : Type 0} (r : Result A EvalError) (P : Type 0) → is_err r ≡ true → r ≢ Err error.NoSolution → IfNoFault r P
fault_left (Ok x) P f n = absurd (cc f)
fault_left (Err error.NoSolution) P f n = absurd (n refl)
fault_left (Err error.Memory) P f n = tt
fault_left (Err error.Full) P f n = tt

pub decides_fault : {A : Type 0} {b : Bool} {P : A → Type 0} {g h : SearchGraph} (r : Result A EvalError) → is_err r ≡ true → r ≢ Err error.NoSolution → Decides b r P g h
decides_fault {b = b} {P = P} {g = g} {h = h} r f n = record { answer = fault_is_decided b r P f n; search = fault_left r (IsAsBefore g h) f n }

-- that there is no solution, where it is decided so
pub decides_no : {A : Type 0} {P : A → Type 0} {g h : SearchGraph} (b : Bool) → b ≡ false → IsAsBefore g h → Decides b (Err error.NoSolution) P g h
decides_no b e s = record { answer = e; search = s }

-- an error is handed on: that there is no solution, where it is decided so
pub decides_error : {A B : Type 0} {b c : Bool} {P : A → Type 0} {Q : B → Type 0} {g h : SearchGraph} (r : Result A EvalError) (q : Result B EvalError) → is_err q ≡ true → (q ≡ Err error.NoSolution → r ≡ Err error.NoSolution) → (c ≡ false → b ≡ false) → Decides c r P g h → Decides b q Q g h
decides_error r (Ok x) f n k d = absurd (cc f)
decides_error {b = b} r (Err error.NoSolution) f n k d = (let is = n refl in decides_no b (k (rw is at d.answer)) (rw is at d.search))
decides_error r (Err error.Memory) f n k d = record { answer = tt; search = tt }
decides_error r (Err error.Full) f n k d = record { answer = tt; search = tt }

pub decides_refused : {A : Type 0} {b : Bool} {P : A → Type 0} {g h : SearchGraph} (r : Result A EvalError) → is_err r ≡ true → (r ≡ Err error.NoSolution → b ≡ false) → IsAsBefore g h → Decides b r P g h
decides_refused (Ok x) f n s = absurd (cc f)
decides_refused {b = b} (Err error.NoSolution) f n s = decides_no b (n refl) s
decides_refused (Err error.Memory) f n s = record { answer = tt; search = tt }
decides_refused (Err error.Full) f n s = record { answer = tt; search = tt }

-- of an answer
pub answer_of : {A : Type 0} {b : Bool} {P : A → Type 0} {g h : SearchGraph} (x : A) {r : Result A EvalError} → r ≡ Ok x → Decides b r P g h → (b ≡ true) × P x × IsAsBefore g h
answer_of x e d = (let a = rw e at d.answer in let s = rw e at d.search in (a.0, a.1, s))

-- a search goes on
pub same_search : (g : SearchGraph) → IsAsBefore g g
same_search g = record { stack = refl; mark = refl }

pub then_same : {g h k : SearchGraph} → IsAsBefore g h → IsAsBefore h k → IsAsBefore g k
then_same x y = record { stack = y.stack ∙ x.stack; mark = y.mark ∙ x.mark }

left_then : {A : Type 0} (g h k : SearchGraph) (r : Result A EvalError) → IsAsBefore g h → IfNoFault r (IsAsBefore h k) → IfNoFault r (IsAsBefore g k)
left_then g h k (Ok x) s t = then_same s t
left_then g h k (Err error.NoSolution) s t = then_same s t
left_then g h k (Err error.Memory) s t = tt
left_then g h k (Err error.Full) s t = tt

pub decides_then : {A : Type 0} {b : Bool} {P : A → Type 0} {g h k : SearchGraph} {r : Result A EvalError} → IsAsBefore g h → Decides b r P h k → Decides b r P g k
decides_then {g = g} {h = h} {k = k} {r = r} s d = record { answer = d.answer; search = left_then g h k r s d.search }

-- the goals on the stack are the same in a store that has grown
above_grown : (h : Handler) (a b : List Tree) (n : ℕ) (g : SearchGraph) → Extends a b → All (IsHead a) g.stack.items → IsAbove h a n g → IsAbove h b n g
above_grown h a b n g e heads above i d below m k less decided =
    let x : StackEntry = get_or g.stack.items i d in
    let head : IsHead a x = heads i d below in
    above i d below m k less (subst (λ f. IsQueryDecided h (mode_of x.input.typing_mode) m f k) (form_later a b x.input e head.input) decided)

above_same : (h : Handler) (a : List Tree) (n : ℕ) (g k : SearchGraph) → IsAsBefore g k → IsAbove h a n g → IsAbove h a n k
above_same h a n g k s above = rw s.stack above

pub above_less : (h : Handler) (a : List Tree) (n m : ℕ) (g : SearchGraph) → m ≤ n → IsAbove h a n g → IsAbove h a m g
above_less h a n m g l above i d below k b less decided = above i d below k b (omega (arith, l, less)) decided

-- so can a later search at this depth
pub decides_later : {h : Handler} {a b : Cx} {g k : SearchGraph} {n d j : ℕ} (m e : ℕ) → IsSearch a g j → Grows a b → IsAsBefore g k → m ≤ n → m ≤ e → CanDecide h a g n d → CanDecide h b k m e
decides_later {h} {a} {b} {g} {k} {n} {d} {j} m e s w same l deep c =
    let r = w.rest in
    record {
      deep = deep;
      above = above_same h b.nodes m g k same (above_grown h a.nodes b.nodes m g w.extends s.heads (above_less h a.nodes n m g l c.above));
      unmarked = same.mark ∙ c.unmarked;
      steps = rw r.steps c.steps;
      rounds = rw r.rounds c.rounds;
      tight = c.tight;
      fair = c.fair;
    }

pub decides_grown : {h : Handler} {a b : Cx} {g : SearchGraph} {n d j : ℕ} → IsSearch a g j → Grows a b → CanDecide h a g n d → CanDecide h b g n d
decides_grown {g = g} {n = n} {d = d} s w c = decides_later n d s w (same_search g) (omega arith) c.deep c

-- the first goal of a search
pub begun_decides : {h : Handler} {mode : TypingMode} {a b : Cx} {t : Table} {g : Goal} {depth : ℕ} {k : Bool} {s : SearchGraph} (d : IsDeterminate h mode a.nodes t g depth k) → Grows a b → MayAnswer h a → s.stack.items ≡ [] → s.has_overflowed ≡ false → CanDecide h b s (suc d.height) (depth + 1)
begun_decides {h} {b = b} {depth = depth} {s = s} d w may none off =
    let r = w.rest in
    record {
      deep = (let low = d.low in omega (arith, low));
      above = rw none (λ i x l. absurd (omega (arith, l)));
      unmarked = off;
      steps = rw r.steps may.steps;
      rounds = rw r.rounds may.rounds;
      tight = may.tight;
      fair = may.fair;
    }

-- whether it may hold
pub may_hold_yes : (b : Bool) (c : Certainty) → IsAsDecided b (Ok c) (λ x. x ≡ certainty.Yes) → true ≡ b
may_hold_yes b c d = sym d.0

-- a goal is determinate in another table that knows as much
pub determinate_after : {h : Handler} {mode now : TypingMode} {ts : List Tree} {t u : Table} {g : Goal} {depth : ℕ} {b : Bool} → u.entries ≡ t.entries → now ≡ mode → IsDeterminate h mode ts t g depth b → IsDeterminate h now ts u g depth b
determinate_after e m d = record { height = d.height; low = d.low; decided = rw (e, m) d.decided }

-- an error that is handed on
pub decided_error : {A B : Type 0} (b : Bool) (P : A → Type 0) (Q : B → Type 0) (r : Result A EvalError) (q : Result B EvalError) → is_err q ≡ true → (q ≡ Err error.NoSolution → r ≡ Err error.NoSolution) → IsAsDecided b r P → IsAsDecided b q Q
decided_error b P Q r (Ok x) f n d = absurd (cc f)
decided_error b P Q r (Err error.NoSolution) f n d = (let is = n refl in rw is at d)
decided_error b P Q r (Err error.Memory) f n d = tt
decided_error b P Q r (Err error.Full) f n d = tt
