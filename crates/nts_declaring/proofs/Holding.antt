-- Text that is held before it goes out.
use Rattle.std.proofs.Common.{◌≡◌, ℕ, List, [], ◌++◌, Option, refl, sym, ap, ◌∙◌, append_assoc}
use Rattle.std.proofs.lemmas.List.{append-nil}
use Rattle.std.specs.Prelude.{Result, Ok, Err, OnOk}
use Rattle.nts_wording.proofs.Growths.{Appends-trans, Appends-none}
use Rattle.nts_declaring.specs.Held.{Says, IsAny, IsNothing, Lengthens}

pub Lengthens-refl : {a : List ℕ} → Lengthens a a
Lengthens-refl {a} = record { text = []; more = sym (append-nil a) }

pub Lengthens-trans : {a b c : List ℕ} → Lengthens a b → Lengthens b c → Lengthens a c
Lengthens-trans {a} {b} {c} h k = record { text = h.text ++ k.text; more = k.more ∙ ap (λ w. w ++ k.text) h.more ∙ append_assoc a h.text k.text }

pub Lengthens-append : {a b : List ℕ} (x : List ℕ) → b ≡ a ++ x → Lengthens a b
Lengthens-append {a} {b} x e = record { text = x; more = e }

-- what is only held
pub Says-held : {P : List ℕ → Type 0} {a : Option (List ℕ)} {old new : List ℕ} (t : List ℕ) → P t → new ≡ old ++ t → Says P a a old new
Says-held {P} {a} {old} {new} t p e = record { text = t; is = p; out = []; appends = Appends-none a; all = sym e }

pub Says-nothing : {a : Option (List ℕ)} {held : List ℕ} → Says IsNothing a a held held
Says-nothing {a} {held} = Says-held [] refl (sym (append-nil held))

pub Says-more : {a : Option (List ℕ)} {old new : List ℕ} → Lengthens old new → Says IsAny a a old new
Says-more {a} {old} {new} h = Says-held h.text tt h.more

join : (a x y b o p c : List ℕ) → a ++ x ≡ o ++ b → b ++ y ≡ p ++ c → a ++ (x ++ y) ≡ (o ++ p) ++ c
join a x y b o p c e f = sym (append_assoc a x y) ∙ ap (λ w. w ++ y) e ∙ append_assoc o b y ∙ ap (λ w. o ++ w) f ∙ sym (append_assoc o p c)

-- one text behind the other
pub Says-then : {P Q R : List ℕ → Type 0} {a b c : Option (List ℕ)} {old mid new : List ℕ} → ((x y : List ℕ) → P x → Q y → R (x ++ y)) → Says P a b old mid → Says Q b c mid new → Says R a c old new
Says-then {P} {Q} {R} {a} {b} {c} {old} {mid} {new} joined h k = record {
  text = h.text ++ k.text;
  is = joined h.text k.text h.is k.is;
  out = h.out ++ k.out;
  appends = Appends-trans a b c h.out k.out h.appends k.appends;
  all = join old h.text k.text mid h.out k.out new h.all k.all;
}

pub Says-any : {P Q : List ℕ → Type 0} {a b c : Option (List ℕ)} {old mid new : List ℕ} → Says P a b old mid → Says Q b c mid new → Says IsAny a c old new
Says-any h k = Says-then (λ x y p q. tt) h k

pub on_ok : {T E A B : Type 0} (r : Result T E) → (A → B) → OnOk r A → OnOk r B
on_ok (Ok x) f h = f h
on_ok (Err x) f h = tt
