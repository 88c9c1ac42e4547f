-- The lines of reasons.
use Rattle.std.proofs.Common.{◌≡◌, ℕ, zero, suc, ◌+◌, ◌<◌, length, get_or, List, [], ◌∷◌, ◌++◌, take, Option, Some, refl, sym, ap, ◌∙◌, append_assoc, arith}
use Rattle.std.specs.Prelude.{slice_get, codes}
use Rattle.std.proofs.lemmas.List.{append-nil}
use Rattle.nts_candidates.specs.declared.reasons.Reason.{Reason}
use Rattle.nts_declaring.specs.declared.origins.Origin.{Origin}
use Rattle.nts_declaring.specs.declared.wording.Wording.{Wording}
use Rattle.nts_declaring.specs.Held.{Says, IsNothing}
use Rattle.nts_declaring.specs.Reasons.{origin_words, reason_words, IsAskedText, IsReasonLine, AreReasonLines}
use Rattle.nts_declaring.proofs.Holding.{Says-held, Says-then}

-- another one with the text of this one
abbrev pub with_text_of : Wording → Wording → Wording
with_text_of c x = record x { text = c.text }

pub get_here : {A : Type 0} (xs : List A) (k : ℕ) (d : A) → k < length xs → slice_get xs k ≡ Some (get_or xs k d)
get_here [] k d h = absurd (omega arith)
get_here (x ∷ xs) zero d h = refl
get_here (x ∷ xs) (suc k) d h = get_here xs k d (omega arith)

pub line_said : {a b c : Option (List ℕ)} {old h1 h2 h3 h4 new : List ℕ} (o : Origin) (r : Reason)
    → h1 ≡ old ++ origin_words o → Says (IsAskedText r) a b h1 h2 → h3 ≡ h2 ++ reason_words r → h4 ≡ h3 ++ codes "\n" → Says IsNothing b c h4 new → Says (IsReasonLine o r) a c old new
line_said {a} {b} {c} {old} {h1} {h2} {h3} {h4} {new} o r e1 s e3 e4 p =
    let t1 : Says (λ t. t ≡ origin_words o) a a old h1 = Says-held (origin_words o) refl e1 in
    let t2 : Says (λ t. (x : List ℕ) × IsAskedText r x × (t ≡ origin_words o ++ x)) a b old h2 = Says-then (λ x y p q. (y, q, ap (λ w. w ++ y) p)) t1 s in
    let t3 : Says (λ t. t ≡ reason_words r) b b h2 h3 = Says-held (reason_words r) refl e3 in
    let t4 : Says (λ t. (x : List ℕ) × IsAskedText r x × (t ≡ origin_words o ++ x ++ reason_words r)) a b old h3 =
    Says-then (λ x y p q. (p.0, p.1, ap (λ w. w ++ y) p.2 ∙ ap (λ w. origin_words o ++ p.0 ++ w) q)) t2 t3 in
    let t5 : Says (λ t. t ≡ codes "\n") b b h3 h4 = Says-held (codes "\n") refl e4 in
    let t6 : Says (IsReasonLine o r) a b old h4 = Says-then (λ x y p q. (p.0, p.1, ap (λ w. w ++ y) p.2 ∙ ap (λ w. origin_words o ++ p.0 ++ reason_words r ++ w) q)) t4 t5 in
    Says-then (λ x y p q. (p.0, p.1, ap (λ w. x ++ w) q ∙ append-nil x ∙ p.2)) t6 p

pub lines_more : (os : List Origin) (rs : List Reason) (o : Origin) (r : Reason) (x y : List ℕ) → AreReasonLines os rs x → IsReasonLine o r y → AreReasonLines (os ++ o ∷ []) (rs ++ r ∷ []) (x ++ y)
lines_more [] [] o r x y h k = (y, [], k, refl, ap (λ w. w ++ y) h ∙ sym (append-nil y))
lines_more [] (s ∷ rs) o r x y h k = absurd h
lines_more (p ∷ os) [] o r x y h k = absurd h
lines_more (p ∷ os) (s ∷ rs) o r x y h k =
    let (a, b, first, others, e) = h in
    (a, b ++ y, first, lines_more os rs o r b y others k, ap (λ w. w ++ y) e ∙ append_assoc a b y)

take_next : {A : Type 0} (xs : List A) (k : ℕ) (x : A) → slice_get xs k ≡ Some x → take (suc k) xs ≡ take k xs ++ x ∷ []
take_next [] k x e = cc
take_next (y ∷ ys) zero x e = let same : y ≡ x = cc in ap (λ z. z ∷ []) same
take_next (y ∷ ys) (suc k) x e = ap (λ zs. y ∷ zs) (take_next ys k x e)

pub lines_next : {a b c : Option (List ℕ)} {old mid new : List ℕ} (os : List Origin) (rs : List Reason) (k : ℕ) (o : Origin) (r : Reason) → slice_get os k ≡ Some o → slice_get rs k ≡ Some r
    → Says (AreReasonLines (take k os) (take k rs)) a b old mid → Says (IsReasonLine o r) b c mid new → Says (AreReasonLines (take (k + 1) os) (take (k + 1) rs)) a c old new
lines_next os rs k o r here there s t =
    let next : k + 1 ≡ suc k = omega arith in
    rw (next, take_next os k o here, take_next rs k r there) (Says-then (λ x y p q. lines_more (take k os) (take k rs) o r x y p q) s t)
