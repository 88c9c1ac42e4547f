-- Text that is written one after the other.
use Rattle.std.proofs.Common.{◌≡◌, ◌<◌, ◌≤◌, List, ℕ, zero, suc, arith, Bool, true, false, [], ◌∷◌, ◌++◌, refl, sym, ap, subst, ◌∙◌, append_assoc, Option, Some, None, Result, Ok, Err}
use Rattle.std.specs.Prelude.{OnOk, length}
use Rattle.nts_model.specs.declared.labels.Label.TheVariants as label
use Rattle.nts_model.specs.declared.labels.TyHead.{TyHead}
use Rattle.nts_model.specs.Terms.Trees.{Tree, node, children, row_at, in_order, is, arguments, Meets}
use Rattle.nts_store.specs.Growth.{tree_at}
use Rattle.nts_wording.specs.declared.printer.Piece.{Piece}
use Rattle.nts_wording.specs.declared.printer.Piece.TheVariants as pieces
use Rattle.nts_wording.specs.Printing.{Seen, head_name}
use Rattle.nts_wording.proofs.Printed.{constructs, Completes-trans}
use Rattle.std.proofs.lemmas.List.{append-nil}
use Rattle.std.specs.Global.{Vec}
use Rattle.std.specs.Map.{lookup}
use Rattle.std.specs.Option.{option_map}
use Rattle.nts_store.specs.declared.nodes.NodeId.{NodeId}
use Rattle.nts_wording.specs.declared.printer.Printer.{Printer}
use Rattle.nts_wording.specs.Pieces.{lexicon_of, names_in, seen_by, Writes, WritesText, told_so_far, Puts, Opens, Completes}
use Rattle.std.specs.Io.KnownBytes.{Appends}
use Rattle.nts_wording.proofs.Growths.{Appends-trans}

pub Writes-refl : (p : Printer) → Writes p p []
Writes-refl p = record { grows = sym (append-nil p.text.items); same = refl }

pub Writes-trans : (p q r : Printer) (x y : List ℕ) → Writes p q x → Writes q r y → Writes p r (x ++ y)
Writes-trans p q r x y h k = record {
  grows = k.grows ∙ ap (λ w. w ++ y) h.grows ∙ append_assoc p.text.items x y;
  same = k.same ∙ h.same;
}

-- what is written is held, wherever it goes out
pub held : (a : Option (List ℕ)) {p q : Printer} {x : List ℕ} → Writes p q x → Puts a a p q x
held a {p} {q} {x} w = record { grows = by_case a; same = w.same }
  where
    by_case : (o : Option (List ℕ)) → Appends (told_so_far o p) (told_so_far o q) x
    by_case None = tt
    by_case (Some bs) = ap (λ w. bs ++ w) w.grows ∙ sym (append_assoc bs p.text.items x)

pub Puts-trans : {a b c : Option (List ℕ)} (p q r : Printer) (x y : List ℕ) → Puts a b p q x → Puts b c q r y → Puts a c p r (x ++ y)
Puts-trans {a} {b} {c} p q r x y h k = record {
  grows = Appends-trans (told_so_far a p) (told_so_far b q) (told_so_far c r) x y h.grows k.grows;
  same = k.same ∙ h.same;
}

-- what was held went out
pub went_out : {a b : Option (List ℕ)} {p q : Printer} → Appends a b p.text.items → q.text.items ≡ [] → q ≡ record p { text = q.text } → Puts a b p q []
went_out {a} {b} {p} {q} h none rest = record { grows = by_case a b h; same = ap lexicon_of rest }
  where
    by_case : (o u : Option (List ℕ)) → Appends o u p.text.items → Appends (told_so_far o p) (told_so_far u q) []
    by_case None u k = tt
    by_case (Some bs) None k = absurd k
    by_case (Some bs) (Some cs) k = ap (λ w. cs ++ w) none ∙ append-nil cs ∙ k ∙ sym (append-nil (bs ++ p.text.items))

-- what was held at first, and what came after it, all went out
pub all_out : (o v z : Option (List ℕ)) (q s : Printer) (x : List ℕ) → Appends (told_so_far o q) (told_so_far v s) x → Appends v z s.text.items → Appends o z (q.text.items ++ x)
all_out None v z q s x h k = tt
all_out (Some bs) None z q s x h k = absurd h
all_out (Some bs) (Some cs) None q s x h k = absurd k
all_out (Some bs) (Some cs) (Some zs) q s x h k = k ∙ h ∙ append_assoc bs q.text.items x

found_first : (test : NodeId → Bool) (e : NodeId × Vec ℕ) (es : List (NodeId × Vec ℕ)) (b : Bool) → test e.0 ≡ b
    → lookup test (names_in es) ≡ option_map (λ v. v.items) (lookup test es)
    → lookup test (names_in (e ∷ es)) ≡ option_map (λ v. v.items) (lookup test (e ∷ es))
found_first test e es true h more = rw h refl
found_first test e es false h more = rw h more

-- a name is found where its term is
pub lookup_names : (test : NodeId → Bool) (es : List (NodeId × Vec ℕ)) → lookup test (names_in es) ≡ option_map (λ v. v.items) (lookup test es)
lookup_names test [] = refl
lookup_names test (e ∷ es) = found_first test e es (test e.0) refl (lookup_names test es)

-- what follows from a success
pub on_ok : {T E A B : Type 0} (r : Result T E) → (A → B) → OnOk r A → OnOk r B
on_ok (Ok x) f h = f h
on_ok (Err e) f h = tt

-- what is declared, with arguments: its name is written first
pub constructs_after : (p q : Printer) (between : Seen) (t list : NodeId) (head : TyHead) (ps qs : List Piece) (name text : List ℕ)
    → Writes p q name → seen_by q ≡ seen_by p
    → tree_at p.nodes.now t ≡ node (label.Ty head) (children (tree_at p.nodes.now t)) → Meets (in_order (is arguments ∷ [])) (children (tree_at p.nodes.now t))
    → tree_at q.nodes.now list ≡ row_at (children (tree_at q.nodes.now t)) 0 → head_name (lexicon_of p) head ≡ Some name
    → Opens (lexicon_of q) (seen_by q) (children (tree_at q.nodes.now list)) ps text between qs
    → Completes (lexicon_of p) (seen_by p) (pieces.Term t ∷ ps) (name ++ text) between qs
constructs_after p q between t list head ps qs name text w seen label meets lists named opens =
    let trees : q.nodes.now ≡ p.nodes.now = ap (λ n. n.trees) w.same in
    let row = children (tree_at q.nodes.now list) in
    constructs (lexicon_of p) (seen_by p) between t head (children (tree_at p.nodes.now t)) (tree_at q.nodes.now list) ps qs name text
    label meets (lists ∙ ap (λ ts. row_at (children (tree_at ts t)) 0) trees) named
    (subst (λ s. Opens (lexicon_of p) s row ps text between qs) seen (subst (λ n. Opens n (seen_by q) row ps text between qs) w.same opens))

-- one more piece, which goes out
pub turn : {a b d : Option (List ℕ)} (p q r s : Printer) (t : NodeId) (piece : Piece) (before popped after : List Piece) (text : List ℕ)
    → Puts a b p q text → Completes (lexicon_of p) (seen_by p) (pieces.Term t ∷ []) text (seen_by q) before → before ≡ piece ∷ popped
    → WritesText q r (λ old text new. Completes (lexicon_of q) old (piece ∷ popped) text new after) → Puts b d r s [] → seen_by s ≡ seen_by r
    → (text : List ℕ) × Puts a d p s text × Completes (lexicon_of p) (seen_by p) (pieces.Term t ∷ []) text (seen_by s) after
turn {a} {b} {d} p q r s t piece before popped after text w h e next out seen =
    let here = subst (λ qs. Completes (lexicon_of p) (seen_by p) (pieces.Term t ∷ []) text (seen_by q) qs) e h in
    let more = subst (λ n. Completes n (seen_by q) (piece ∷ popped) next.0 (seen_by r) after) w.same next.2 in
    let all = Completes-trans (lexicon_of p) (seen_by p) (seen_by q) (seen_by r) (pieces.Term t ∷ []) (piece ∷ popped) after text next.0 here more in
    let written = Puts-trans p r s (text ++ next.0) [] (Puts-trans p q r text next.0 w (held b next.1)) out in (
      text ++ next.0,
      subst (Puts a d p s) (append-nil (text ++ next.0)) written,
      subst (λ z. Completes (lexicon_of p) (seen_by p) (pieces.Term t ∷ []) (text ++ next.0) z after) (sym seen) all,
    )

past : (m n : ℕ) → (m < n → ⊥) → n ≤ m
past zero zero h = omega arith
past zero (suc n) h = absurd (h (omega arith))
past (suc m) zero h = omega arith
past (suc m) (suc n) h = let k : n ≤ m = past m n (λ l. h (omega (arith, l))) in omega (arith, k)

pub outside : (ts : List Tree) (t : NodeId) → (t.number < length ts → ⊥) → length ts ≤ t.number
outside ts t h = past t.number (length ts) h
