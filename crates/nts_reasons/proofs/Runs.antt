-- Lines that are obeyed one after the other, and told.
use Rattle.std.proofs.Common.{◌≡◌, ℕ, ◌+◌, ◌<◌, List, [], ◌∷◌, ◌++◌, length, Option, None, Some, length-append, refl, sym, ap, subst, ◌∙◌, append_assoc, arith}
use Rattle.std.proofs.KnownBytes.{Appends-kept}
use Rattle.std.specs.Prelude.{IfSome}
use Rattle.std.specs.Io.KnownBytes.{Appends, Keeps}
use Rattle.std.specs.Io.BufRead.{drop_through, DropsThrough}
use Rattle.std.proofs.lemmas.List.{append-nil}
use Rattle.nts_text.specs.Input.{first_line, lines_of}
use Rattle.nts_text.specs.Lines.{IsPassedOver}
use Rattle.nts_text.specs.declared.refusals.Refusal.{Refusal}
use Rattle.nts_text.proofs.InputLemmas.{lines_of-first}
use Rattle.nts_wording.specs.declared.status.Status.TheVariants.{Refused}
use Rattle.nts_wording.specs.declared.status.Stop.{Stop}
use Rattle.nts_wording.specs.declared.status.Stop.TheVariants as stop
use Rattle.nts_wording.specs.Growing.{refusal_line, IsStopTold}
use Rattle.nts_wording.specs.Statuses.{status_of}
use Rattle.nts_wording.proofs.Growths.{Appends-trans, Appends-none}
use Rattle.nts_reasons.specs.declared.explainer.Asked.{Asked}
use Rattle.nts_reasons.specs.declared.explainer.Explainer.{Explainer}
use Rattle.nts_reasons.specs.Obeying.{IsNewExplainer, IsObeyed}
use Rattle.nts_reasons.specs.Running.{IsTextOf, IsToldLine, HasMoreTerms, AreTold, AnswersAll, StopsAtRefusal}

told_more : (n m : ℕ) (lines : List (List ℕ)) (line : List ℕ) (p q o r : Explainer) (s t : List ℕ) (a : Option Asked)
    → m ≡ length lines + n → AreTold n lines p q s → IsObeyed m line q o a → IsTextOf o a t → HasMoreTerms o r → AreTold n (lines ++ line ∷ []) p r (s ++ t)
told_more n m [] line p q o r s t a same h k says more =
    let here : m ≡ n = omega (arith, same) in
    (a, o, r, t, [], subst (λ i. IsObeyed i line p o a) here (subst (λ e. IsObeyed m line e o a) h.0 k), says, more, (refl, refl), ap (λ w. w ++ t) h.1 ∙ sym (append-nil t))
told_more n m (l ∷ ls) line p q o r s t a same h k says more =
    let (b, obeying, between, x, rest, first, text, grown, others, e) = h in
    (b, obeying, between, x, rest ++ t, first, text, grown, told_more (n + 1) m ls line between q o r rest t a (omega (arith, same)) others k says more, ap (λ w. w ++ t) e ∙ append_assoc x rest t)

-- the lines that were read are answered, and the other lines are left
pub record HasRun (input left before after : Option (List ℕ)) (explainer : Explainer) (number : ℕ) : Type 0 where
  pub lines : List (List ℕ)
  pub text : List ℕ
  pub first : Explainer
  pub new : IsNewExplainer first
  pub counted : number ≡ length lines + 1
  pub told : AreTold 1 lines first explainer text
  pub written : Appends before after text
  pub others : IfSome input (λ xs. (ys : List ℕ) × (left ≡ Some ys) × (lines_of xs ≡ lines ++ lines_of ys))

pub run_begins : (input before : Option (List ℕ)) (p : Explainer) → IsNewExplainer p → HasRun input input before before p 1
run_begins input before p h = record {
  lines = [];
  text = [];
  first = p;
  new = h;
  counted = refl;
  told = (refl, refl);
  written = Appends-none before;
  others = all input;
}
  where
    all : (i : Option (List ℕ)) → IfSome i (λ xs. (ys : List ℕ) × (i ≡ Some ys) × (lines_of xs ≡ [] ++ lines_of ys))
    all None = tt
    all (Some xs) = (xs, refl, refl)

-- what is left once a line is read
rest_read : (input left next : Option (List ℕ)) (lines : List (List ℕ)) (line : List ℕ)
    → IfSome input (λ xs. (ys : List ℕ) × (left ≡ Some ys) × (lines_of xs ≡ lines ++ lines_of ys))
    → IfSome left (λ xs. 0 < length xs) → IfSome left (λ xs. line ≡ first_line xs) → DropsThrough left next 10
    → IfSome input (λ xs. (ys : List ℕ) × (next ≡ Some ys) × (lines_of xs ≡ lines ++ line ∷ lines_of ys))
rest_read None left next lines line h some is rest = tt
rest_read (Some xs) None next lines line h some is rest = let e : None ≡ Some h.0 = h.1 in cc
rest_read (Some xs) (Some ys) next lines line h some is rest =
    let same : h.0 ≡ ys = cc in
    (drop_through 10 ys, rest, h.2 ∙ ap (λ w. lines ++ lines_of w) same ∙ ap (λ w. lines ++ w) (lines_of-first ys some) ∙ ap (λ w. lines ++ w ∷ lines_of (drop_through 10 ys)) (sym is))

-- one more line is answered
pub run_more : {input left next before mid after : Option (List ℕ)} {p q : Explainer} {n : ℕ} (line : List ℕ)
    → HasRun input left before mid p n → IfSome left (λ xs. 0 < length xs) → IfSome left (λ xs. line ≡ first_line xs) → DropsThrough left next 10
    → IsToldLine n line p q mid after → HasRun input next before after q (n + 1)
run_more {input} {left} {next} {before} {mid} {after} {p} {q} {n} line h some is rest k = record {
  lines = h.lines ++ line ∷ [];
  text = h.text ++ k.text;
  first = h.first;
  new = h.new;
  counted = omega (arith, h.counted, length-append h.lines (line ∷ []));
  told = told_more 1 n h.lines line h.first p k.obeying q h.text k.text k.asked h.counted h.told k.obeyed k.says k.terms;
  written = Appends-trans before mid after h.text k.text h.written k.written;
  others = behind input (rest_read input left next h.lines line h.others some is rest);
}
  where
    behind : (i : Option (List ℕ)) → IfSome i (λ xs. (ys : List ℕ) × (next ≡ Some ys) × (lines_of xs ≡ h.lines ++ line ∷ lines_of ys))
        → IfSome i (λ xs. (ys : List ℕ) × (next ≡ Some ys) × (lines_of xs ≡ (h.lines ++ line ∷ []) ++ lines_of ys))
    behind None k = tt
    behind (Some xs) k = (k.0, k.1, k.2 ∙ sym (append_assoc h.lines (line ∷ []) (lines_of k.0)))

-- no line is left
pub run_done : {input left before after : Option (List ℕ)} {p : Explainer} {n : ℕ}
    → HasRun input left before after p n → IfSome left (λ xs. 0 < length xs → ⊥) → AnswersAll input before after
run_done {input} {left} {before} {after} {p} {n} h none = record {
  lines = h.lines;
  all = whole input left h.others none;
  answered = record { first = h.first; last = p; text = h.text; new = h.new; told = h.told; written = h.written };
}
  where
    last : (ys : List ℕ) → (0 < length ys → ⊥) → lines_of ys ≡ []
    last [] k = refl
    last (y ∷ ys) k = absurd (k (omega arith))

    whole : (i l : Option (List ℕ)) → IfSome i (λ xs. (ys : List ℕ) × (l ≡ Some ys) × (lines_of xs ≡ h.lines ++ lines_of ys)) → IfSome l (λ xs. 0 < length xs → ⊥)
        → IfSome i (λ xs. h.lines ≡ lines_of xs)
    whole None l k nothing = tt
    whole (Some xs) None k nothing = let e : None ≡ Some k.0 = k.1 in cc
    whole (Some xs) (Some ys) k nothing =
        let same : k.0 ≡ ys = cc in
        sym (k.2 ∙ ap (λ w. h.lines ++ lines_of w) same ∙ ap (λ w. h.lines ++ w) (last ys nothing) ∙ append-nil h.lines)

reason_told : (old new : Option (List ℕ)) (n : ℕ) (s : Stop) → status_of s ≡ Refused → IsStopTold old new n s → (r : Refusal) × Appends old new (refusal_line n r)
reason_told old new n stop.Memory e h = cc
reason_told old new n stop.Failed e h = cc
reason_told old new n (stop.Refused r) e h = (r, h)

-- the next line is refused
pub run_refused : {input left before mid after : Option (List ℕ)} {p : Explainer} {n : ℕ} (next : Option (List ℕ)) (line : List ℕ) (s : Stop)
    → HasRun input left before mid p n → IfSome left (λ xs. 0 < length xs) → IfSome left (λ xs. line ≡ first_line xs) → DropsThrough left next 10
    → (status_of s ≡ Refused → IsPassedOver line → ⊥) → IsStopTold mid after n s → status_of s ≡ Refused → StopsAtRefusal input before after
run_refused {input} {left} {before} {mid} {after} {p} {n} next line s h some is rest meant told e =
    let why = reason_told mid after n s e told in
    record {
      lines = h.lines;
      refused = line;
      reason = why.0;
      between = mid;
      stand = among input (rest_read input left next h.lines line h.others some is rest);
      answered = record { first = h.first; last = p; text = h.text; new = h.new; told = h.told; written = h.written };
      meant = meant e;
      told = rw (sym h.counted) why.1;
    }
  where
    among : (i : Option (List ℕ)) → IfSome i (λ xs. (ys : List ℕ) × (next ≡ Some ys) × (lines_of xs ≡ h.lines ++ line ∷ lines_of ys))
        → IfSome i (λ xs. (others : List (List ℕ)) × (lines_of xs ≡ h.lines ++ line ∷ others))
    among None k = tt
    among (Some xs) k = (lines_of k.0, k.2)

-- a flush keeps what was written
pub all_kept : {input before after flushed : Option (List ℕ)} → AnswersAll input before after → Keeps after flushed → AnswersAll input before flushed
all_kept {input} {before} {after} {flushed} h k =
    let a = h.answered in
    record {
      lines = h.lines;
      all = h.all;
      answered = record { first = a.first; last = a.last; text = a.text; new = a.new; told = a.told; written = Appends-kept before after flushed a.text a.written k };
    }
