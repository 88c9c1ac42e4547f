use Rattle.std.specs.Option.{option_to_list}
use Rattle.std.specs.Prelude.{IsSome, Result, Ok, Err, OnOk, OnErr}
use Rattle.std.proofs.Common.{Option, Some, None, append-nil, ◌≡◌, ℕ, suc, ◌≤◌, List, [], ◌∷◌, ◌++◌, length, drop, refl, sym, ap, ◌∙◌, arith, length-append}
use Rattle.std.proofs.lemmas.Grind.{common_steps}
use Rattle.nts_unify.specs.declared.contents.UndoLog.{UndoLog}
use Rattle.nts_unify.specs.Entries.{Entries, Inner, undone, all_undone}
use Rattle.nts_unify.specs.Saved.{saved_of, IsFirstMark, AreMarks}

all_undone-append : (a b : List UndoLog) (c : Entries) → all_undone (a ++ b) c ≡ all_undone a (all_undone b c)
all_undone-append [] b c = refl
all_undone-append (x ∷ a) b c = ap (undone x) (all_undone-append a b c)

drop-front : (xs ys : List UndoLog) (n : ℕ) → n ≤ length xs → drop n (xs ++ ys) ≡ drop n xs ++ ys
drop-front xs ys n h = grind (arith, common_steps)

-- one more change at the end is undone first
pub undone-push : (log : List UndoLog) (x : UndoLog) (c : Entries) (p : ℕ) → p ≤ length log → all_undone (drop p (log ++ x ∷ [])) c ≡ all_undone (drop p log) (undone x c)
undone-push log x c p h = rw (drop-front log (x ∷ []) p h) (all_undone-append (drop p log) (x ∷ []) c)

pub undone-all : (log : List UndoLog) (c : Entries) (p : ℕ) → length log ≤ p → all_undone (drop p log) c ≡ c
undone-all log c p h = let e : drop p log ≡ [] = grind (arith, common_steps) in rw e refl

pub saved_of-append : (c : Entries) (log : List UndoLog) (ps qs : List ℕ) → saved_of c log (ps ++ qs) ≡ saved_of c log ps ++ saved_of c log qs
saved_of-append c log [] qs = refl
saved_of-append c log (p ∷ ps) qs = ap (λ x. all_undone (drop p log) c ∷ x) (saved_of-append c log ps qs)

pub length-saved_of : (c : Entries) (log : List UndoLog) (ps : List ℕ) → length (saved_of c log ps) ≡ length ps
length-saved_of c log [] = refl
length-saved_of c log (p ∷ ps) = ap suc (length-saved_of c log ps)

-- where each mark gives what it gave
pub saved_of-same : (c d : Entries) (l m : List UndoLog) (n : ℕ) (ps : List ℕ) → AreMarks n ps → ((p : ℕ) → p ≤ n → all_undone (drop p l) c ≡ all_undone (drop p m) d) → saved_of c l ps ≡ saved_of d m ps
saved_of-same c d l m n [] h same = refl
saved_of-same c d l m n (p ∷ ps) h same = cc (same p h.1, saved_of-same c d l m n ps h.2 same)

-- a change that is logged leaves the saved entriess
pub saved_of-push : (c d : Entries) (log : List UndoLog) (x : UndoLog) (ps : List ℕ) → AreMarks (length log) ps → undone x d ≡ c → saved_of d (log ++ x ∷ []) ps ≡ saved_of c log ps
saved_of-push c d log x ps h e =
    saved_of-same d c (log ++ x ∷ []) log (length log) ps h (λ p k. undone-push log x d p k ∙ ap (all_undone (drop p log)) e)

pub AreMarks-more : (n m : ℕ) (ps : List ℕ) → AreMarks n ps → n ≤ m → AreMarks m ps
AreMarks-more n m [] h k = tt
AreMarks-more n m (p ∷ ps) h k = (h.0, omega (arith, h.1), AreMarks-more n m ps h.2 k)

IsFirstMark-push : (p n : ℕ) (ps : List ℕ) → IsFirstMark p ps → p ≤ n → IsFirstMark p (ps ++ n ∷ [])
IsFirstMark-push p n [] h k = (k, tt)
IsFirstMark-push p n (q ∷ ps) h k = (h.0, IsFirstMark-push p n ps h.1 k)

pub AreMarks-push : (n : ℕ) (ps : List ℕ) → AreMarks n ps → AreMarks n (ps ++ n ∷ [])
AreMarks-push n [] h = (tt, omega arith, tt)
AreMarks-push n (p ∷ ps) h = (IsFirstMark-push p n ps h.0 h.1, h.1, AreMarks-push n ps h.2)

IsFirstMark-last : (p q : ℕ) (ps : List ℕ) → IsFirstMark p (ps ++ q ∷ []) → IsFirstMark p ps × (p ≤ q)
IsFirstMark-last p q [] h = (tt, h.0)
IsFirstMark-last p q (r ∷ ps) h = let i = IsFirstMark-last p q ps h.1 in ((h.0, i.0), i.1)

-- without the last mark
pub AreMarks-front : (n q : ℕ) (ps : List ℕ) → AreMarks n (ps ++ q ∷ []) → AreMarks q ps × (q ≤ n)
AreMarks-front n q [] h = (tt, h.1)
AreMarks-front n q (p ∷ ps) h =
    let i = AreMarks-front n q ps h.2 in
    let f = IsFirstMark-last p q ps h.0 in
    ((f.0, f.1, i.0), i.1)

pub saved_of-pop : (c : Entries) (log : List UndoLog) (ps qs : List ℕ) (o : Option ℕ) → ps ≡ qs ++ option_to_list o → IsSome o → (x : Entries) × (saved_of c log ps ≡ saved_of c log qs ++ x ∷ [])
saved_of-pop c log ps qs None e h = cc
saved_of-pop c log ps qs (Some p) e h = (all_undone (drop p log) c, ap (saved_of c log) e ∙ saved_of-append c log qs (p ∷ []))

pub AreMarks-pop : (n : ℕ) (ps qs : List ℕ) (o : Option ℕ) → ps ≡ qs ++ option_to_list o → AreMarks n ps → AreMarks n qs
AreMarks-pop n ps qs None e h = let e' : ps ≡ qs = e ∙ simp append-nil in rw e' at h
AreMarks-pop n ps qs (Some p) e h = let f = AreMarks-front n p qs (rw e at h) in AreMarks-more p n qs f.0 f.1

-- what a rollback leaves
pub rolled_back : (c d : Entries) (log rest : List UndoLog) (ps qs : List ℕ) (mark : ℕ) → ps ≡ qs ++ mark ∷ [] → AreMarks mark qs → ((p : ℕ) → p ≤ mark → all_undone (drop p rest) d ≡ all_undone (drop p log) c) → length rest ≤ mark → saved_of c log ps ≡ saved_of d rest qs ++ d ∷ []
rolled_back c d log rest ps qs mark e h same k =
    let last : all_undone (drop mark log) c ≡ d = sym (same mark (omega arith)) ∙ undone-all rest d mark k in
    ap (saved_of c log) e ∙ saved_of-append c log qs (mark ∷ []) ∙ cc (last, saved_of-same d c rest log mark qs h same)

-- what one logged change does
pub record Logged (now : Inner) (d : Entries) (log : List UndoLog) (ps : List ℕ) : Type 0 where
  pub marks : AreMarks (length log) ps
  pub saved : saved_of d log ps ≡ now.saved

pub logged : (now : Inner) (c d : Entries) (log log' : List UndoLog) (x : UndoLog) (ps : List ℕ) → ◌≡◌ {A = Inner} (record { entries = c; saved = saved_of c log ps }) now → AreMarks (length log) ps → log' ≡ log ++ x ∷ [] → undone x d ≡ c → Logged now d log' ps
logged now c d log log' x ps v h e u =
    record {
      marks = AreMarks-more (length log) (length log') ps h (omega (arith, ap length e, length-append log (x ∷ [])));
      saved = rw e (saved_of-push c d log x ps h u ∙ ap (λ (t : Inner). t.saved) v);
    }

pub push_inj : {A : Type 0} (xs ys : List A) (x y : A) → xs ++ x ∷ [] ≡ ys ++ y ∷ [] → (xs ≡ ys) × (x ≡ y)
push_inj [] [] x y e = (refl, cc)
push_inj [] (b ∷ ys) x y e = let n : 1 ≡ length (b ∷ (ys ++ y ∷ [])) = ap length e in absurd (omega (arith, n, length-append ys (y ∷ [])))
push_inj (a ∷ xs) [] x y e = let n : length (a ∷ (xs ++ x ∷ [])) ≡ 1 = ap length e in absurd (omega (arith, n, length-append xs (x ∷ [])))
push_inj (a ∷ xs) (b ∷ ys) x y e =
    let t : xs ++ x ∷ [] ≡ ys ++ y ∷ [] = cc in
    let i = push_inj xs ys x y t in
    (let h : a ≡ b = cc in cc (h, i.0), i.1)

-- what holds of an attempt's entries where it succeeds, and held before it, holds of what its end leaves
pub after_attempt : {T E : Type 0} (before middle after : Inner) (P : Entries → Type 0) (r : Result T E) → middle.saved ≡ before.saved ++ before.entries ∷ [] → OnOk r (after.entries ≡ middle.entries) → OnErr r (middle.saved ≡ after.saved ++ after.entries ∷ []) → OnOk r (P middle.entries) → P before.entries → P after.entries
after_attempt before middle after P (Ok v) s same back h k = rw same h
after_attempt before middle after P (Err e) s same back h k =
    let i = push_inj after.saved before.saved after.entries before.entries (sym back ∙ s) in rw i.1 k
