-- The steps of a search, each by one lemma: reading an entry, ending a round, one nested goal, one candidate.
use Rattle.std.proofs.Common.{◌≡◌, ℕ, zero, suc, List, [], ◌∷◌, Some, refl, sym, ap, ◌∙◌, subst}
use Rattle.std.specs.Prelude.{slice_get}
use Rattle.nts_model.specs.Derivations.Sequents.{PathKind, coinductive}
use Rattle.nts_model.specs.Derivations.Rules.{Meaning, Mode}
use Rattle.nts_model.specs.Derivations.Proofs.{passed}
use Rattle.nts_model.specs.Derivations.Handlers.{Certainty, certain}
use Rattle.nts_model.specs.Answers.Responses.{Response, answer_sequent}
use Rattle.nts_model.specs.Searching.Stacks.{IsDerivedFrom, Entry, assumptions, IsReadSince, AreReadSince, stronger, path_kind, IsEntry}
use Rattle.nts_model.specs.Searching.Driving.{EvaluatesInput, Computes, as_read, marked, MayEnd}
use Rattle.nts_theory.proofs.Searching.Stacks.{back_derived, head_closed}
use Rattle.nts_theory.proofs.Searching.Ordered.{no_entry}

-- reading since goes on
pub read_itself : (x : Entry) → IsReadSince x x
read_itself x = record { input = refl; kind = refl; response = refl; certainty = refl; read = λ h. h }

pub all_read_itself : (xs : List Entry) → AreReadSince xs xs
all_read_itself [] = tt
all_read_itself (x ∷ xs) = (read_itself x, all_read_itself xs)

pub marked_since : (xs : List Entry) (n : ℕ) → AreReadSince xs (marked xs n)
marked_since [] n = tt
marked_since (x ∷ xs) zero = (record { input = refl; kind = refl; response = refl; certainty = refl; read = λ h. refl }, all_read_itself xs)
marked_since (x ∷ xs) (suc n) = (read_itself x, marked_since xs n)

pub get-marked : (xs : List Entry) (n : ℕ) (x : Entry) → slice_get xs n ≡ Some x → slice_get (marked xs n) n ≡ Some (as_read x)
get-marked [] n x e = absurd (no_entry n x e)
get-marked (y ∷ xs) zero x e = (let z : Some y ≡ Some x = e in let same : y ≡ x = cc z in ap (λ v. Some (as_read v)) same)
get-marked (y ∷ xs) (suc n) x e = get-marked xs n x e

pub path_marked : (xs : List Entry) (n i : ℕ) (k : PathKind) → path_kind (marked xs i) n k ≡ path_kind xs n k
path_marked [] n i k = refl
path_marked (x ∷ xs) zero zero k = refl
path_marked (x ∷ xs) zero (suc i) k = refl
path_marked (x ∷ xs) (suc n) zero k = refl
path_marked (x ∷ xs) (suc n) (suc i) k = ap (λ z. stronger k z) (path_marked xs n i x.kind)

-- a coinductive back edge: the entry is read, and its provisional answer is the answer
pub back_evaluates : (m : Meaning) (mode : Mode) (st : List Entry) (n : ℕ) (k : PathKind) (x : Entry) → slice_get st n ≡ Some x → IsEntry x → path_kind st n k ≡ coinductive
    → EvaluatesInput m mode k st (marked st n) x.input x.response x.certainty
back_evaluates m mode st n k x found entry path =
    record {
      since = marked_since st n;
      answers = record {
        fits = entry.fits;
        bounded = entry.bounded;
        derived = λ sure. back_derived m mode (marked st n) n k (as_read x) (get-marked st n x found)
            (record { environment = entry.environment; predicate = entry.predicate; fits = entry.fits; bounded = entry.bounded }) refl sure (path_marked st n n k ∙ path);
      };
    }

-- the last round of a head: x is its entry afterwards
pub round_evaluates : (m : Meaning) (mode : Mode) (x y : Entry) (old new : List Entry) (r : Response) (c : Certainty)
    → Computes m mode (x ∷ old) (y ∷ new) x.input r c → (c ≡ certain → MayEnd y r) → EvaluatesInput m mode x.kind old new x.input r c
round_evaluates m mode x y old new r c h end =
    let a = h.answers in
    let s = h.since in
    let one : IsReadSince x y = s.0 in
    let input : y.input ≡ x.input = one.input in
    let kind : y.kind ≡ x.kind = one.kind in
    record {
      since = s.1;
      answers = record {
        fits = a.fits;
        bounded = a.bounded;
        derived = λ sure.
            (let d : IsDerivedFrom m mode (assumptions (y ∷ new)) (answer_sequent y.input r) = subst (λ i. IsDerivedFrom m mode (assumptions (y ∷ new)) (answer_sequent i r)) (sym input) (a.derived sure) in
            let e : IsDerivedFrom m mode (passed y.kind (assumptions new)) (answer_sequent y.input r) = head_closed m mode y new r (end sure) d in
            subst (λ i. IsDerivedFrom m mode (passed x.kind (assumptions new)) (answer_sequent i r)) input
            (subst (λ k. IsDerivedFrom m mode (passed k (assumptions new)) (answer_sequent y.input r)) kind e));
      };
    }
