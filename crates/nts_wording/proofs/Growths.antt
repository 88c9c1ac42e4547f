-- Bytes that are appended one after the other.
use Rattle.std.proofs.Common.{◌≡◌, ℕ, zero, suc, ◌+◌, ◌-◌, ◌≤◌, List, [], ◌∷◌, ◌++◌, length, take, drop, Option, Some, None, false, refl, sym, ap, ◌∙◌, arith, rules}
use Rattle.std.proofs.lemmas.List.{append_assoc, take_all, length-drop}
use Rattle.std.specs.Io.KnownBytes.{Appends, Keeps}
use Rattle.nts_wording.specs.declared.status.Stop.{Stop}
use Rattle.nts_wording.specs.declared.status.Stop.TheVariants as stop
use Rattle.nts_wording.specs.Statuses.{is_refusal}
use Rattle.nts_wording.specs.Growing.{Begins, IsStopTold}

pub Appends-trans : (a b c : Option (List ℕ)) (x y : List ℕ) → Appends a b x → Appends b c y → Appends a c (x ++ y)
Appends-trans None b c x y h k = tt
Appends-trans (Some xs) None c x y h k = absurd h
Appends-trans (Some xs) (Some ys) None x y h k = absurd k
Appends-trans (Some xs) (Some ys) (Some zs) x y h k = k ∙ ap (λ w. w ++ y) h ∙ append_assoc xs x y

take-more : (bs : List ℕ) (w n : ℕ) → take (w + n) bs ≡ take w bs ++ take n (drop w bs)
take-more bs zero n = let e : 0 + n ≡ n = omega arith in rw e refl
take-more [] (suc w) n = take_all (suc w + n) [] (omega arith) ∙ sym (take_all n [] (omega arith))
take-more (b ∷ bs) (suc w) n =
    let e : suc w + n ≡ suc (w + n) = omega arith in rw e (ap (λ r. b ∷ r) (take-more bs w n))

pub Appends-none : (a : Option (List ℕ)) → Appends a a []
Appends-none None = tt
Appends-none (Some xs) = grind (arith, rules)

pub Appends-Keeps : (a b : Option (List ℕ)) → Keeps a b → Appends a b []
Appends-Keeps None b h = tt
Appends-Keeps (Some xs) None h = absurd h
Appends-Keeps (Some xs) (Some ys) h = grind (arith, rules)

pub Begins-refl : {a : Option (List ℕ)} → Begins a a
Begins-refl {a} = record { written = []; appends = Appends-none a }

pub Begins-trans : {a b c : Option (List ℕ)} → Begins a b → Begins b c → Begins a c
Begins-trans {a} {b} {c} h k =
    record { written = h.written ++ k.written; appends = Appends-trans a b c h.written k.written h.appends k.appends }

pub Begins-Appends : (a b : Option (List ℕ)) (x : List ℕ) → Appends a b x → Begins a b
Begins-Appends a b x h = record { written = x; appends = h }

pub Begins-Keeps : (a b : Option (List ℕ)) → Keeps a b → Begins a b
Begins-Keeps a b h = record { written = []; appends = Appends-Keeps a b h }

pub Appends-more : (a b c : Option (List ℕ)) (bs : List ℕ) (w n : ℕ) → Appends a b (take w bs) → Appends b c (take n (drop w bs)) → Appends a c (take (w + n) bs)
Appends-more a b c bs w n h k = rw (take-more bs w n) (Appends-trans a b c (take w bs) (take n (drop w bs)) h k)

drop-tail : (bs : List ℕ) (w : ℕ) → take (length bs - w) (drop w bs) ≡ drop w bs
drop-tail bs w = take_all (length bs - w) (drop w bs) (omega (arith, length-drop w bs))

-- what was written up to w, and then n bytes of the rest
pub Appends-piece : (a b c : Option (List ℕ)) (bs : List ℕ) (w n : ℕ) → Appends a b (take w bs) → Appends b c (take n (take (length bs - w) (drop w bs))) → Appends a c (take (w + n) bs)
Appends-piece a b c bs w n h k = Appends-more a b c bs w n h (rw (drop-tail bs w) at k)

pub piece-within : (bs : List ℕ) (w n : ℕ) → w ≤ length bs → n ≤ length (take (length bs - w) (drop w bs)) → w + n ≤ length bs
piece-within bs w n h k =
    let l : n ≤ length (drop w bs) = rw (drop-tail bs w) at k in omega (arith, length-drop w bs)

-- only a refusal is told
pub IsStopTold-other : (old new : Option (List ℕ)) (n : ℕ) (s : Stop) → is_refusal s ≡ false → IsStopTold old new n s
IsStopTold-other old new n stop.Memory h = tt
IsStopTold-other old new n stop.Failed h = tt
IsStopTold-other old new n (stop.Refused r) h = cc

pub ruleset writes = (Begins-refl, Begins-trans, Begins-Appends, Begins-Keeps, Appends-none, Appends-Keeps, Appends-more, IsStopTold-other)
