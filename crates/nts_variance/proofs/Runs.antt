-- Runs: entering a row of parts, and building a node over what was made for them.
use Rattle.std.proofs.Common.{◌≡◌, ℕ, zero, suc, ◌+◌, ◌≤◌, Bool, List, [], ◌∷◌, ◌++◌, length, refl, sym, ap, ◌∙◌, arith}
use Rattle.nts_model.specs.declared.labels.Variance.{Variance}
use Rattle.nts_model.specs.Terms.Trees.{Tree, empty, more, node, IsRow, row_length}
use Rattle.nts_model.specs.Derivations.Related.{times, first_variance, rest_variances}
use Rattle.nts_variance_model.specs.Variances.Forms.{Form, over}
use Rattle.nts_variance.specs.Steps.{WalkStep, enter, build, owe, stacked, popped, unpopped, entering, StepsLead, ended, entered, built, owed, MadeForRow}

-- the newest stands first
pub stacked-push : {A B : Type 0} (f : A → B) (xs : List A) (x : A) → stacked f (xs ++ x ∷ []) ≡ f x ∷ stacked f xs
stacked-push f [] x = refl
stacked-push f (y ∷ ys) x = ap (λ z. z ++ f y ∷ []) (stacked-push f ys x)

-- what was made for a row stands on what was made before
abbrev pub pushed : Tree → List Tree → List Tree
pushed empty ss = ss
pushed (more r rs) ss = pushed rs (r ∷ ss)
pushed (node l c) ss = ss

abbrev appended : Tree → Tree → Tree
appended empty s = s
appended (more a b) s = more a (appended b s)
appended (node l c) s = s

appended_none : (r : Tree) → IsRow r → appended r empty ≡ r
appended_none empty h = refl
appended_none (more a b) h = ap (more a) (appended_none b h)
appended_none (node l c) h = absurd h

popped_add : (n m : ℕ) (ss : List Tree) (r : Tree) → popped (n + m) ss r ≡ popped m (unpopped n ss) (popped n ss r)
popped_add zero m ss r = let e : zero + m ≡ m = omega arith in ap (λ k. popped k ss r) e
popped_add (suc n) m [] r = let e : suc n + m ≡ suc (n + m) = omega arith in ap (λ k. popped k [] r) e ∙ sym (none m r)
  where
    none : (m : ℕ) (r : Tree) → popped m [] r ≡ r
    none zero r = refl
    none (suc m) r = refl
popped_add (suc n) m (s ∷ ss) r = let e : suc n + m ≡ suc (n + m) = omega arith in ap (λ k. popped k (s ∷ ss) r) e ∙ popped_add n m ss (more s r)

unpopped_add : (n m : ℕ) (ss : List Tree) → unpopped (n + m) ss ≡ unpopped m (unpopped n ss)
unpopped_add zero m ss = let e : zero + m ≡ m = omega arith in ap (λ k. unpopped k ss) e
unpopped_add (suc n) m [] = let e : suc n + m ≡ suc (n + m) = omega arith in ap (λ k. unpopped k []) e ∙ sym (none m)
  where
    none : (m : ℕ) → unpopped m [] ≡ []
    none zero = refl
    none (suc m) = refl
unpopped_add (suc n) m (s ∷ ss) = let e : suc n + m ≡ suc (n + m) = omega arith in ap (λ k. unpopped k (s ∷ ss)) e ∙ unpopped_add n m ss

pub unpopped_pushed : (r : Tree) (ss : List Tree) → IsRow r → unpopped (row_length r) (pushed r ss) ≡ ss
unpopped_pushed empty ss h = refl
unpopped_pushed (more a b) ss h =
    unpopped_add (row_length b) 1 (pushed b (a ∷ ss)) ∙ ap (unpopped 1) (unpopped_pushed b (a ∷ ss) h)
unpopped_pushed (node l c) ss h = absurd h

popped_pushed : (r s : Tree) (ss : List Tree) → IsRow r → popped (row_length r) (pushed r ss) s ≡ appended r s
popped_pushed empty s ss h = refl
popped_pushed (more a b) s ss h =
    popped_add (row_length b) 1 (pushed b (a ∷ ss)) s ∙ ap (λ z. popped 1 z (popped (row_length b) (pushed b (a ∷ ss)) s)) (unpopped_pushed b (a ∷ ss) h) ∙ ap (more a) (popped_pushed b s (a ∷ ss) h)
popped_pushed (node l c) s ss h = absurd h

pub popped_row : (r : Tree) (ss : List Tree) → IsRow r → popped (row_length r) (pushed r ss) empty ≡ r
popped_row r ss h = popped_pushed r empty ss h ∙ appended_none r h

length_pushed : (r : Tree) (ss : List Tree) → IsRow r → length (pushed r ss) ≡ row_length r + length ss
length_pushed empty ss h = omega arith
length_pushed (more a b) ss h = let e = length_pushed b (a ∷ ss) h in omega (arith, e)
length_pushed (node l c) ss h = absurd h

module _ (P : Variance → Bool → Tree → Tree → Type 0) (Q : Variance → Tree → Tree → Type 0) where
  pub made_row : (v : Variance) (ws : List Variance) (q : Bool) (ts rs : Tree) → MadeForRow P Q v ws q ts rs → IsRow rs × (row_length rs ≡ row_length ts)
  made_row v ws q empty empty h = (tt, refl)
  made_row v ws q (more t ts) (more r rs) h = let k = made_row v (rest_variances ws) q ts rs h.1 in (k.0, ap (λ n. n + 1) k.1)
  made_row v ws q empty (more r rs) h = absurd h
  made_row v ws q empty (node l c) h = absurd h
  made_row v ws q (more t ts) empty h = absurd h
  made_row v ws q (more t ts) (node l c) h = absurd h
  made_row v ws q (node l c) rs h = absurd h

  -- a node built over what was made for its parts
  pub built_over : (F : Form) (rs : Tree) (n : ℕ) (xs : List WalkStep) (ss : List Tree) (e : Tree) → IsRow rs → n ≡ row_length rs → StepsLead P Q xs (over F rs ∷ ss) e → StepsLead P Q (build F n ∷ xs) (pushed rs ss) e
  built_over F rs n xs ss e row same h =
      let below : n ≤ length (pushed rs ss) = (let k = length_pushed rs ss row in omega (arith, k, same)) in
      let one : popped n (pushed rs ss) empty ≡ rs = ap (λ m. popped m (pushed rs ss) empty) same ∙ popped_pushed rs empty ss row ∙ appended_none rs row in
      let two : unpopped n (pushed rs ss) ≡ ss = ap (λ m. unpopped m (pushed rs ss)) same ∙ unpopped_pushed rs ss row in
      built below (rw (one, two) h)

  unbuilt_at : (F : Form) (n : ℕ) (xs ys : List WalkStep) (ss : List Tree) (e : Tree) → ys ≡ build F n ∷ xs → StepsLead P Q ys ss e → (n ≤ length ss) × StepsLead P Q xs (over F (popped n ss empty) ∷ unpopped n ss) e
  unbuilt_at F n xs [] ss e q ended = cc
  unbuilt_at F n xs (enter v b t ∷ ys) ss e q (entered p h) = cc
  unbuilt_at F n xs (owe v t ∷ ys) (s ∷ ss) e q (owed p h) = cc
  unbuilt_at F n xs (owe v t ∷ ys) [] e q h = elim h [ ]
  unbuilt_at F n xs (build G m ∷ ys) ss e q (built {F = K} {n = k} l h) =
      let a : G ≡ F = cc in let b : m ≡ n = cc in let c : ys ≡ xs = cc in
      (rw (← b) l, rw (← a, ← b, ← c) h)

  pub unbuilt : (F : Form) (rs : Tree) (n : ℕ) (xs : List WalkStep) (ss : List Tree) (e : Tree) → IsRow rs → n ≡ row_length rs → StepsLead P Q (build F n ∷ xs) (pushed rs ss) e → StepsLead P Q xs (over F rs ∷ ss) e
  unbuilt F rs n xs ss e row same h =
      let k = unbuilt_at F n xs (build F n ∷ xs) (pushed rs ss) e refl h in
      let one : popped n (pushed rs ss) empty ≡ rs = ap (λ m. popped m (pushed rs ss) empty) same ∙ popped_pushed rs empty ss row ∙ appended_none rs row in
      let two : unpopped n (pushed rs ss) ≡ ss = ap (λ m. unpopped m (pushed rs ss)) same ∙ unpopped_pushed rs ss row in
      rw (one, two) at k.1

  pub record Entered (v : Variance) (q : Bool) (t : Tree) (xs : List WalkStep) (ss : List Tree) (e : Tree) : Type 0 where
    pub made : Tree
    pub fits : P v q t made
    pub runs : StepsLead P Q xs (made ∷ ss) e

  unentered_at : (v : Variance) (q : Bool) (t : Tree) (xs ys : List WalkStep) (ss : List Tree) (e : Tree) → ys ≡ enter v q t ∷ xs → StepsLead P Q ys ss e → Entered v q t xs ss e
  unentered_at v q t xs [] ss e i ended = cc
  unentered_at v q t xs (enter a b c ∷ ys) ss e i (entered {s = s} p h) =
      let x : a ≡ v = cc in let y : b ≡ q = cc in let z : c ≡ t = cc in let w : ys ≡ xs = cc in
      record { made = s; fits = rw (← x, ← y, ← z) p; runs = rw (← w) h }
  unentered_at v q t xs (owe a b ∷ ys) (s ∷ ss) e i (owed p h) = cc
  unentered_at v q t xs (owe a b ∷ ys) [] e i h = elim h [ ]
  unentered_at v q t xs (build G m ∷ ys) ss e i (built l h) = cc

  pub unentered : (v : Variance) (q : Bool) (t : Tree) (xs : List WalkStep) (ss : List Tree) (e : Tree) → StepsLead P Q (enter v q t ∷ xs) ss e → Entered v q t xs ss e
  unentered v q t xs ss e h = unentered_at v q t xs (enter v q t ∷ xs) ss e refl h

  pub record EnteredRow (v : Variance) (ws : List Variance) (q : Bool) (ts : Tree) (xs : List WalkStep) (ss : List Tree) (e : Tree) : Type 0 where
    pub made : Tree
    pub fits : MadeForRow P Q v ws q ts made
    pub runs : StepsLead P Q xs (pushed made ss) e

  pub unentered_row : (v : Variance) (ws : List Variance) (q : Bool) (ts : Tree) (xs : List WalkStep) (ss : List Tree) (e : Tree) → IsRow ts → StepsLead P Q (entering v ws q ts xs) ss e → EnteredRow v ws q ts xs ss e
  unentered_row v ws q empty xs ss e row h = record { made = empty; fits = tt; runs = h }
  unentered_row v ws q (more t ts) xs ss e row h =
      let a = unentered (times v (first_variance ws)) q t (entering v (rest_variances ws) q ts xs) ss e h in
      let b = unentered_row v (rest_variances ws) q ts xs (a.made ∷ ss) e row a.runs in
      record { made = more a.made b.made; fits = (a.fits, b.fits); runs = b.runs }
  unentered_row v ws q (node l c) xs ss e row h = absurd row

  pub entered_row : (v : Variance) (ws : List Variance) (q : Bool) (ts rs : Tree) (xs : List WalkStep) (ss : List Tree) (e : Tree) → MadeForRow P Q v ws q ts rs → StepsLead P Q xs (pushed rs ss) e → StepsLead P Q (entering v ws q ts xs) ss e
  entered_row v ws q empty empty xs ss e m h = h
  entered_row v ws q (more t ts) (more r rs) xs ss e m h = entered m.0 (entered_row v (rest_variances ws) q ts rs xs (r ∷ ss) e m.1 h)
  entered_row v ws q empty (more r rs) xs ss e m h = absurd m
  entered_row v ws q empty (node l c) xs ss e m h = absurd m
  entered_row v ws q (more t ts) empty xs ss e m h = absurd m
  entered_row v ws q (more t ts) (node l c) xs ss e m h = absurd m
  entered_row v ws q (node l c) rs xs ss e m h = absurd m

  -- a node is entered by its parts
  pub parts_entered : (F : Form) (v : Variance) (ws : List Variance) (q : Bool) (ts rs : Tree) (xs : List WalkStep) (ss : List Tree) (e : Tree) → MadeForRow P Q v ws q ts rs → StepsLead P Q xs (over F rs ∷ ss) e → StepsLead P Q (entering v ws q ts (build F (row_length ts) ∷ xs)) ss e
  parts_entered F v ws q ts rs xs ss e m h =
      let k = made_row v ws q ts rs m in
      entered_row v ws q ts rs (build F (row_length ts) ∷ xs) ss e m (built_over F rs (row_length ts) xs ss e k.0 (sym k.1) h)

  pub record PartsMade (F : Form) (v : Variance) (ws : List Variance) (q : Bool) (ts : Tree) (xs : List WalkStep) (ss : List Tree) (e : Tree) : Type 0 where
    pub made : Tree
    pub fits : MadeForRow P Q v ws q ts made
    pub row : IsRow made
    pub runs : StepsLead P Q xs (over F made ∷ ss) e

  pub parts_made : (F : Form) (v : Variance) (ws : List Variance) (q : Bool) (ts : Tree) (xs : List WalkStep) (ss : List Tree) (e : Tree) → IsRow ts → StepsLead P Q (entering v ws q ts (build F (row_length ts) ∷ xs)) ss e → PartsMade F v ws q ts xs ss e
  parts_made F v ws q ts xs ss e row h =
      let a = unentered_row v ws q ts (build F (row_length ts) ∷ xs) ss e row h in
      let k = made_row v ws q ts a.made a.fits in
      record { made = a.made; fits = a.fits; row = k.0; runs = unbuilt F a.made (row_length ts) xs ss e k.0 (sym k.1) a.runs }

  pub record Owed (v : Variance) (t : Tree) (xs : List WalkStep) (s : Tree) (ss : List Tree) (e : Tree) : Type 0 where
    pub fits : Q v t s
    pub runs : StepsLead P Q xs (s ∷ ss) e

  unowed_at : (v : Variance) (t : Tree) (xs ys : List WalkStep) (s : Tree) (ss zs : List Tree) (e : Tree) → ys ≡ owe v t ∷ xs → zs ≡ s ∷ ss → StepsLead P Q ys zs e → Owed v t xs s ss e
  unowed_at v t xs [] s ss zs e i j ended = cc
  unowed_at v t xs (enter a b c ∷ ys) s ss zs e i j (entered p h) = cc
  unowed_at v t xs (build G m ∷ ys) s ss zs e i j (built l h) = cc
  unowed_at v t xs (owe a b ∷ ys) s ss [] e i j h = elim h [ ]
  unowed_at v t xs (owe a b ∷ ys) s ss (r ∷ rs) e i j (owed p h) =
      let x : a ≡ v = cc in let y : b ≡ t = cc in let z : ys ≡ xs = cc in let q : r ≡ s = cc in let k : rs ≡ ss = cc in
      record { fits = rw (← x, ← y, ← q) p; runs = rw (← z, ← q, ← k) h }

  pub unowed : (v : Variance) (t : Tree) (xs : List WalkStep) (s : Tree) (ss : List Tree) (e : Tree) → StepsLead P Q (owe v t ∷ xs) (s ∷ ss) e → Owed v t xs s ss e
  unowed v t xs s ss e h = unowed_at v t xs (owe v t ∷ xs) s ss (s ∷ ss) e refl refl h
