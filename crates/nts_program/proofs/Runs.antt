-- Lines that are obeyed one after the other.
use Rattle.std.proofs.Common.{◌≡◌, ℕ, ◌+◌, ◌<◌, List, [], ◌∷◌, ◌++◌, length, Option, None, Some, length-append, refl, sym, ap, subst, ◌∙◌, append_assoc, arith}
use Rattle.nts_wording.specs.declared.answer.Answer.{Answer}
use Rattle.nts_wording.specs.Answers.{IsAnswerPut}
use Rattle.std.proofs.KnownBytes.{Appends-kept}
use Rattle.std.specs.Prelude.{Bool, true, false, ◌↔◌, IfSome, IfErr, OnOk, IsErrAnd, IsTrue, Result, Ok, Err}
use Rattle.std.specs.Io.KnownBytes.{Appends, Keeps}
use Rattle.std.specs.Io.BufRead.{drop_through, DropsThrough}
use Rattle.std.proofs.lemmas.List.{append-nil}
use Rattle.nts_text.specs.Input.{first_line, lines_of}
use Rattle.nts_text.specs.Lines.{IsPassedOver}
use Rattle.nts_text.specs.declared.refusals.Refusal.{Refusal}
use Rattle.nts_text.proofs.InputLemmas.{lines_of-first}
use Rattle.nts_declaring.specs.declared.program.Program.{Program}
use Rattle.nts_wording.specs.declared.status.Status.TheVariants.{Done, Refused}
use Rattle.nts_wording.specs.declared.status.Stop.{Stop}
use Rattle.nts_wording.specs.declared.status.Stop.TheVariants as stop
use Rattle.nts_wording.specs.Growing.{refusal_line, IsStopTold}
use Rattle.nts_wording.specs.Statuses.{status_of}
use Rattle.nts_declaring.specs.Declaring.{IsNewProgram}
use Rattle.nts_program.specs.Obeying.{IsObeyed}
use Rattle.nts_program.specs.Running.{IsTextOf, IsAnsweredLine, AreObeyed, AnswersAll, StopsAtRefusal}
use Rattle.nts_wording.proofs.Growths.{Appends-trans, Appends-none}

obeyed_more : (lines : List (List ℕ)) (line : List ℕ) (p q r : Program) (s t : List ℕ) (o : Option Answer)
    → AreObeyed lines p q s → IsObeyed line q r o → IsTextOf r o t → AreObeyed (lines ++ line ∷ []) p r (s ++ t)
obeyed_more [] line p q r s t o h k says =
    (o, r, t, [], subst (λ m. IsObeyed line m r o) h.0 k, says, (refl, refl), ap (λ w. w ++ t) h.1 ∙ sym (append-nil t))
obeyed_more (l ∷ ls) line p q r s t o h k says =
    let (a, between, x, rest, first, text, others, e) = h in
    (a, between, x, rest ++ t, first, text, obeyed_more ls line between q r rest t o others k says, ap (λ w. w ++ t) e ∙ append_assoc x rest t)

-- the lines that were read are answered, and the other lines are left
pub record HasRun (input left before after : Option (List ℕ)) (program : Program) (number : ℕ) : Type 0 where
  pub lines : List (List ℕ)
  pub text : List ℕ
  pub first : Program
  pub new : IsNewProgram first
  pub counted : number ≡ length lines + 1
  pub obeyed : AreObeyed lines first program text
  pub written : Appends before after text
  pub others : IfSome input (λ xs. (ys : List ℕ) × (left ≡ Some ys) × (lines_of xs ≡ lines ++ lines_of ys))

pub run_begins : (input before : Option (List ℕ)) (p : Program) → IsNewProgram p → HasRun input input before before p 1
run_begins input before p h = record {
  lines = [];
  text = [];
  first = p;
  new = h;
  counted = refl;
  obeyed = (refl, refl);
  written = Appends-none before;
  others = all input;
}
  where
    all : (i : Option (List ℕ)) → IfSome i (λ xs. (ys : List ℕ) × (i ≡ Some ys) × (lines_of xs ≡ [] ++ lines_of ys))
    all None = tt
    all (Some xs) = (xs, refl, refl)

-- what is left once a line is read
rest_read : (input left next : Option (List ℕ)) (lines : List (List ℕ)) (line : List ℕ)
    → IfSome input (λ xs. (ys : List ℕ) × (left ≡ Some ys) × (lines_of xs ≡ lines ++ lines_of ys))
    → IfSome left (λ xs. 0 < length xs) → IfSome left (λ xs. line ≡ first_line xs) → DropsThrough left next 10
    → IfSome input (λ xs. (ys : List ℕ) × (next ≡ Some ys) × (lines_of xs ≡ lines ++ line ∷ lines_of ys))
rest_read None left next lines line h some is rest = tt
rest_read (Some xs) None next lines line h some is rest = let e : None ≡ Some h.0 = h.1 in cc
rest_read (Some xs) (Some ys) next lines line h some is rest =
    let same : h.0 ≡ ys = cc in
    (drop_through 10 ys, rest, h.2 ∙ ap (λ w. lines ++ lines_of w) same ∙ ap (λ w. lines ++ w) (lines_of-first ys some) ∙ ap (λ w. lines ++ w ∷ lines_of (drop_through 10 ys)) (sym is))

-- whether a line is left
pub some_left : (left : Option (List ℕ)) (more : Bool) → more ≡ true → IfSome left (λ xs. IsTrue more ↔ (0 < length xs)) → IfSome left (λ xs. 0 < length xs)
some_left None more e h = tt
some_left (Some xs) more e h = h.0 e

pub none_left : (left : Option (List ℕ)) (more : Bool) → more ≡ false → IfSome left (λ xs. IsTrue more ↔ (0 < length xs)) → IfSome left (λ xs. 0 < length xs → ⊥)
none_left None more e h = tt
none_left (Some xs) more e h = λ l. let t : IsTrue more = h.1 l in let f : false ≡ true = rw e at t in cc

-- one more line is answered
pub run_more : {input left next before mid after : Option (List ℕ)} {p q : Program} {n : ℕ} (line : List ℕ)
    → HasRun input left before mid p n → IfSome left (λ xs. 0 < length xs) → IfSome left (λ xs. line ≡ first_line xs) → DropsThrough left next 10
    → IsAnsweredLine line p q mid after → HasRun input next before after q (n + 1)
run_more {input} {left} {next} {before} {mid} {after} {p} {q} {n} line h some is rest k = record {
  lines = h.lines ++ line ∷ [];
  text = h.text ++ k.text;
  first = h.first;
  new = h.new;
  counted = omega (arith, h.counted, length-append h.lines (line ∷ []));
  obeyed = obeyed_more h.lines line h.first p q h.text k.text k.answer h.obeyed k.obeyed k.says;
  written = Appends-trans before mid after h.text k.text h.written k.written;
  others = behind input (rest_read input left next h.lines line h.others some is rest);
}
  where
    behind : (i : Option (List ℕ)) → IfSome i (λ xs. (ys : List ℕ) × (next ≡ Some ys) × (lines_of xs ≡ h.lines ++ line ∷ lines_of ys))
        → IfSome i (λ xs. (ys : List ℕ) × (next ≡ Some ys) × (lines_of xs ≡ (h.lines ++ line ∷ []) ++ lines_of ys))
    behind None k = tt
    behind (Some xs) k = (k.0, k.1, k.2 ∙ sym (append_assoc h.lines (line ∷ []) (lines_of k.0)))

-- no line is left
pub run_done : {input left before after : Option (List ℕ)} {p : Program} {n : ℕ}
    → HasRun input left before after p n → IfSome left (λ xs. 0 < length xs → ⊥) → AnswersAll input before after
run_done {input} {left} {before} {after} {p} {n} h none = record {
  lines = h.lines;
  all = whole input left h.others none;
  answered = record { first = h.first; last = p; text = h.text; new = h.new; obeyed = h.obeyed; written = h.written };
}
  where
    last : (ys : List ℕ) → (0 < length ys → ⊥) → lines_of ys ≡ []
    last [] k = refl
    last (y ∷ ys) k = absurd (k (omega arith))

    whole : (i l : Option (List ℕ)) → IfSome i (λ xs. (ys : List ℕ) × (l ≡ Some ys) × (lines_of xs ≡ h.lines ++ lines_of ys)) → IfSome l (λ xs. 0 < length xs → ⊥)
        → IfSome i (λ xs. h.lines ≡ lines_of xs)
    whole None l k nothing = tt
    whole (Some xs) None k nothing = let e : None ≡ Some k.0 = k.1 in cc
    whole (Some xs) (Some ys) k nothing =
        let same : k.0 ≡ ys = cc in
        sym (k.2 ∙ ap (λ w. h.lines ++ lines_of w) same ∙ ap (λ w. h.lines ++ w) (last ys nothing) ∙ append-nil h.lines)

reason_told : (old new : Option (List ℕ)) (n : ℕ) (s : Stop) → status_of s ≡ Refused → IsStopTold old new n s → (r : Refusal) × Appends old new (refusal_line n r)
reason_told old new n stop.Memory e h = cc
reason_told old new n stop.Failed e h = cc
reason_told old new n (stop.Refused r) e h = (r, h)

-- the next line is refused
pub run_refused : {input left before mid after : Option (List ℕ)} {p : Program} {n : ℕ} (next : Option (List ℕ)) (line : List ℕ) (s : Stop)
    → HasRun input left before mid p n → IfSome left (λ xs. 0 < length xs) → IfSome left (λ xs. line ≡ first_line xs) → DropsThrough left next 10
    → (status_of s ≡ Refused → IsPassedOver line → ⊥) → IsStopTold mid after n s → status_of s ≡ Refused → StopsAtRefusal input before after
run_refused {input} {left} {before} {mid} {after} {p} {n} next line s h some is rest meant told e =
    let why = reason_told mid after n s e told in
    record {
      lines = h.lines;
      refused = line;
      reason = why.0;
      between = mid;
      stand = among input (rest_read input left next h.lines line h.others some is rest);
      answered = record { first = h.first; last = p; text = h.text; new = h.new; obeyed = h.obeyed; written = h.written };
      meant = meant e;
      told = rw (sym h.counted) why.1;
    }
  where
    among : (i : Option (List ℕ)) → IfSome i (λ xs. (ys : List ℕ) × (next ≡ Some ys) × (lines_of xs ≡ h.lines ++ line ∷ lines_of ys))
        → IfSome i (λ xs. (others : List (List ℕ)) × (lines_of xs ≡ h.lines ++ line ∷ others))
    among None k = tt
    among (Some xs) k = (lines_of k.0, k.2)

-- why a run stops is passed on
pub refused_by : {T : Type 0} {A : Type 0} (r : Result T Stop) (s : Stop) → IsErrAnd r (λ e. e ≡ s) → (status_of s ≡ Refused → A) → IfErr r (λ e. status_of e ≡ Refused → A)
refused_by (Ok x) s h k = tt
refused_by (Err e) s h k = λ is. k (ap status_of (sym h) ∙ is)

-- a flush keeps what was written
pub all_kept : {input before after flushed : Option (List ℕ)} → AnswersAll input before after → Keeps after flushed → AnswersAll input before flushed
all_kept {input} {before} {after} {flushed} h k =
    let a = h.answered in
    record {
      lines = h.lines;
      all = h.all;
      answered = record { first = a.first; last = a.last; text = a.text; new = a.new; obeyed = a.obeyed; written = Appends-kept before after flushed a.text a.written k };
    }

pub not_done : (s : Stop) → status_of s ≡ Done → ⊥
not_done stop.Memory e = cc
not_done stop.Failed e = cc
not_done (stop.Refused r) e = cc

-- a line is answered where it is obeyed and its answer is written
pub answered_where : {T E : Type 0} (r : Result T E) (line : List ℕ) (p q : Program) (before after : Option (List ℕ)) (answer : Answer)
    → IsObeyed line p q (Some answer) → OnOk r (IsAnswerPut q.cx.nodes q.names q.scope answer before after) → OnOk r (IsAnsweredLine line p q before after)
answered_where (Ok x) line p q before after answer h w = record { answer = Some answer; obeyed = h; text = w.0; says = w.1; written = w.2 }
answered_where (Err x) line p q before after answer h w = tt
