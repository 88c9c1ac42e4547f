-- How the pieces of a term print its text.
use Rattle.std.proofs.Common.{◌≡◌, ℕ, zero, suc, ◌+◌, ◌<◌, ◌≤◌, List, [], ◌∷◌, ◌++◌, length, reverse, Some, refl, sym, ap, subst, ◌∙◌, append_assoc, arith}
use Rattle.std.specs.Prelude.{codes}
use Rattle.std.proofs.lemmas.List.{append-nil, reverse-append, get_or_past}
use Rattle.nts_model.specs.declared.labels.Label.TheVariants as label
use Rattle.nts_model.specs.declared.labels.ListHead.TheVariants as heads
use Rattle.nts_model.specs.Terms.Trees.{Tree, empty, more, node, children, row_at, row_length, IsRow, arguments, is, in_order, Meets, kind_of_label}
use Rattle.nts_store.specs.Growth.{tree_at}
use Rattle.nts_store.specs.declared.nodes.NodeId.{NodeId}
use Rattle.nts_wording.specs.declared.printer.Piece.{Piece}
use Rattle.nts_wording.specs.declared.printer.Piece.TheVariants as pieces
use Rattle.nts_model.specs.declared.labels.Label.{Label}
use Rattle.nts_model.specs.declared.labels.TyHead.{TyHead}
use Rattle.nts_model.specs.declared.labels.TyHead.TheVariants as ty
use Rattle.nts_model.specs.declared.labels.Leaf.{Leaf}
use Rattle.nts_wording.specs.Printing.{Lexicon, Seen, IsText, IsUnnamedType, separator, in_brackets, type_name, head_name}
use Rattle.nts_wording.specs.Pieces.{ArePrinted, Completes, Opens}
use Rattle.nts_replacing.proofs.Replacing.{row_drop as row_from}

-- what stands before the tree with this number
abbrev pub lead : ℕ → Tree → List ℕ
lead zero r = []
lead (suc i) r = separator r

row_from-end : (r : Tree) → IsRow r → row_from (row_length r) r ≡ empty
row_from-end empty h = refl
row_from-end (more a b) h = let e : row_length b + 1 ≡ suc (row_length b) = omega arith in rw e (row_from-end b h)
row_from-end (node l c) h = absurd h

row_from-next : (r : Tree) (i : ℕ) → i < row_length r → row_from i r ≡ more (row_at r i) (row_from (suc i) r)
row_from-next empty i h = absurd (omega (arith, h))
row_from-next (more a b) zero h = refl
row_from-next (more a b) (suc i) h = row_from-next b i (omega (arith, h))
row_from-next (node l c) i h = absurd (omega (arith, h))

module _ (n : Lexicon) (row : Tree) (ps : List Piece) where
  -- the pieces in front of ps print the trees from the i-th on, with what stands before them
  abbrev pub PrintsFrom : ℕ → List Piece → Type 0
  PrintsFrom i qs =
      (rest : List ℕ) (old new : Seen) → ArePrinted n old qs rest new
      → (x y : List ℕ) × (middle : Seen) × IsText n old (row_from i row) x middle × ArePrinted n middle ps y new × (rest ≡ lead i (row_from i row) ++ x ++ y)

  lead-end : (k : ℕ) → lead k empty ≡ []
  lead-end zero = refl
  lead-end (suc k) = refl

  pub prints_none : IsRow row → PrintsFrom (row_length row) ps
  prints_none h = λ rest old new all.
      let e = row_from-end row h in
      ([], rest, old, rw e (refl, refl), all, rw (e, lead-end (row_length row)) refl)

  -- one more tree, without what stands before it
  one : (i : ℕ) (t : NodeId) (qs : List Piece) → i < row_length row → tree_at n.trees t ≡ row_at row i → PrintsFrom (suc i) qs
      → (rest : List ℕ) (old new : Seen) → ArePrinted n old (pieces.Term t ∷ qs) rest new
      → (x y : List ℕ) × (middle : Seen) × IsText n old (row_from i row) x middle × ArePrinted n middle ps y new × (rest ≡ x ++ y)
  one i t qs lt tree h rest old new all =
      let (a, b, between, first, others, e) = all in
      let (x, y, middle, texts, older, f) = h b between new others in
      let gap = separator (row_from (suc i) row) in (
        a ++ gap ++ x,
        y,
        middle,
        rw (row_from-next row i lt) (a, x, between, rw tree at first, texts, refl),
        older,
        e ∙ ap (λ w. a ++ w) f ∙ sym (append_assoc a (gap ++ x) y) ∙ ap (λ w. w ++ y) (sym (append_assoc a gap x)),
      )

  pub prints_first : (t : NodeId) (qs : List Piece) → 0 < row_length row → tree_at n.trees t ≡ row_at row 0 → PrintsFrom 1 qs → PrintsFrom 0 (pieces.Term t ∷ qs)
  prints_first t qs lt tree h = λ rest old new all. one 0 t qs lt tree h rest old new all

  lead-more : (j : ℕ) (r a b : Tree) → r ≡ more a b → lead (suc j) r ≡ codes ", "
  lead-more j r a b e = rw e refl

  pub prints_next : (i : ℕ) (t : NodeId) (qs : List Piece) → i < row_length row → 0 < i → tree_at n.trees t ≡ row_at row i → PrintsFrom (suc i) qs → PrintsFrom i (pieces.Comma ∷ pieces.Term t ∷ qs)
  prints_next zero t qs lt pos tree h = absurd (omega (arith, pos))
  prints_next (suc j) t qs lt pos tree h = λ rest old new all.
      let (b, others, e) = all in
      let (x, y, middle, texts, older, f) = one (suc j) t qs lt tree h b old new others in
      (x, y, middle, texts, older, e ∙ ap (λ w. codes ", " ++ w) f ∙ sym (append_assoc (codes ", ") x y) ∙ ap (λ w. w ++ x ++ y) (sym (lead-more j (row_from (suc j) row) (row_at row (suc j)) (row_from (suc (suc j)) row) (row_from-next row (suc j) lt))))

-- no arguments, and nothing is printed
pub opens_none : (n : Lexicon) (old : Seen) (row : Tree) (ps : List Piece) → IsRow row → row_length row ≡ 0 → Opens n old row ps [] old ps
opens_none n old empty ps h e = λ rest new all. ([], rest, old, (refl, refl), all, refl)
opens_none n old (more a b) ps h e = absurd (omega (arith, e))
opens_none n old (node l c) ps h e = absurd h

bracketed : (row : Tree) (x : List ℕ) → 0 < row_length row → in_brackets row x ≡ codes "(" ++ x ++ codes ")"
bracketed empty x h = absurd (omega (arith, h))
bracketed (more a b) x h = refl
bracketed (node l c) x h = refl

pub opens_some : (n : Lexicon) (old : Seen) (row : Tree) (ps qs : List Piece) → 0 < row_length row → PrintsFrom n row (pieces.Close ∷ ps) 0 qs → Opens n old row ps (codes "(") old qs
opens_some n old row ps qs pos h = λ rest new all.
    let (x, y, middle, texts, others, e) = h rest old new all in
    let (z, older, f) = others in (
      x,
      z,
      middle,
      texts,
      older,
      ap (λ w. codes "(" ++ w) (e ∙ ap (λ w. x ++ w) f) ∙ sym (append_assoc (codes "(") x (codes ")" ++ z)) ∙ sym (append_assoc (codes "(" ++ x) (codes ")") z)
          ∙ ap (λ w. w ++ z) (sym (bracketed row x pos)),
    )

is_arguments : (l : Label) → kind_of_label l ≡ arguments → l ≡ label.List heads.Args
is_arguments (label.Leaf x) e = cc
is_arguments (label.Bound s i k) e = cc
is_arguments (label.Ty x) e = cc
is_arguments (label.Const x) e = cc
is_arguments (label.Clause x) e = cc
is_arguments (label.Predicate x) e = cc
is_arguments (label.List heads.Args) e = refl
is_arguments (label.List heads.Env) e = cc
is_arguments (label.List heads.Sorts) e = cc
is_arguments (label.List (heads.Sort s)) e = cc
is_arguments (label.List heads.Binder) e = cc

-- the children of a constructed type are its arguments
pub arguments_of : (c : Tree) → Meets (in_order (is arguments ∷ [])) c → c ≡ more (node (label.List heads.Args) (children (row_at c 0))) empty
arguments_of empty h = absurd h
arguments_of (more empty b) h = cc (h.0)
arguments_of (more (more x y) b) h = cc (h.0)
arguments_of (more (node l row) empty) h = let e : kind_of_label l ≡ arguments = cc (h.0) in ap (λ k. more (node k row) empty) (is_arguments l e)
arguments_of (more (node l row) (more x y)) h = absurd h.1
arguments_of (more (node l row) (node k d)) h = absurd h.1
arguments_of (node l c) h = absurd h

-- what is declared, with arguments: its name, and these
named : (n : Lexicon) (h : TyHead) (name : List ℕ) → head_name n h ≡ Some name → (old new : Seen) (row : Tree) (x : List ℕ) → IsText n old row x new
    → IsText n old (node (label.Ty h) (more (node (label.List heads.Args) row) empty)) (name ++ in_brackets row x) new
named n (ty.Ctor i) name e old new row x texts = let same : type_name n.types i ≡ name = cc in (x, texts, ap (λ w. w ++ in_brackets row x) (sym same))
named n (ty.Alias i) name e old new row x texts = let same : type_name n.aliases i ≡ name = cc in (x, texts, ap (λ w. w ++ in_brackets row x) (sym same))
named n _ name e old new row x texts = cc

pub constructs : (n : Lexicon) (old between : Seen) (t : NodeId) (head : TyHead) (c list : Tree) (ps qs : List Piece) (name text : List ℕ)
    → tree_at n.trees t ≡ node (label.Ty head) c → Meets (in_order (is arguments ∷ [])) c → list ≡ row_at c 0 → head_name n head ≡ Some name
    → Opens n old (children list) ps text between qs → Completes n old (pieces.Term t ∷ ps) (name ++ text) between qs
constructs n old between t head c list ps qs name text tree meets lists is_named h = λ rest new all.
    let (x, y, middle, texts, older, e) = h rest new all in
    let row = children list in
    let whole : tree_at n.trees t ≡ node (label.Ty head) (more (node (label.List heads.Args) row) empty) =
    tree ∙ ap (node (label.Ty head)) (arguments_of c meets ∙ ap (λ l. more (node (label.List heads.Args) (children l)) empty) (sym lists)) in (
      name ++ in_brackets row x,
      y,
      middle,
      subst (λ w. IsText n old w (name ++ in_brackets row x) middle) (sym whole) (named n head name is_named old middle row x texts),
      older,
      append_assoc name text rest ∙ ap (λ w. name ++ w) e ∙ sym (append_assoc name (in_brackets row x) y),
    )

-- a term that is printed at once
pub whole_term : (n : Lexicon) (old between : Seen) (t : NodeId) (ps : List Piece) (text : List ℕ) → IsText n old (tree_at n.trees t) text between → Completes n old (pieces.Term t ∷ ps) text between ps
whole_term n old between t ps text h = λ rest new all. (text, rest, between, h, all, refl)

pub unnamed_label : (n : Lexicon) (old new : Seen) (t : NodeId) (l : Label) (c : Tree) (text : List ℕ) → tree_at n.trees t ≡ node l c
    → ((x : Leaf) → l ≡ label.Leaf x → ⊥) → ((x : TyHead) → l ≡ label.Ty x → ⊥) → IsUnnamedType old t text new → IsText n old (tree_at n.trees t) text new
unnamed_label n old new t (label.Leaf x) c text e leaves types h = absurd (leaves x refl)
unnamed_label n old new t (label.Bound s i k) c text e leaves types h = rw e (t, e, h)
unnamed_label n old new t (label.Ty x) c text e leaves types h = absurd (types x refl)
unnamed_label n old new t (label.Const x) c text e leaves types h = rw e (t, e, h)
unnamed_label n old new t (label.Clause x) c text e leaves types h = rw e (t, e, h)
unnamed_label n old new t (label.Predicate x) c text e leaves types h = rw e (t, e, h)
unnamed_label n old new t (label.List x) c text e leaves types h = rw e (t, e, h)

pub reverse_pushed : (xs ys : List Piece) (p : Piece) → ys ≡ xs ++ p ∷ [] → reverse ys ≡ p ∷ reverse xs
reverse_pushed xs ys p e = ap reverse e ∙ reverse-append xs (p ∷ [])

-- nothing is printed of what is no term
pub no_term : (n : Lexicon) (old : Seen) (t : NodeId) (ps : List Piece) → length n.trees ≤ t.number → Completes n old (pieces.Term t ∷ ps) [] old ps
no_term n old t ps h = whole_term n old old t ps [] (rw (get_or_past n.trees t.number empty h) (refl, refl))

pub Completes-refl : (n : Lexicon) (old : Seen) (ps : List Piece) → Completes n old ps [] old ps
Completes-refl n old ps = λ rest new all. all

pub Completes-trans : (n : Lexicon) (a b d : Seen) (ps qs rs : List Piece) (x y : List ℕ) → Completes n a ps x b qs → Completes n b qs y d rs → Completes n a ps (x ++ y) d rs
Completes-trans n a b d ps qs rs x y h k = λ rest new all.
    subst (λ w. ArePrinted n a ps w new) (sym (append_assoc x y rest)) (h (y ++ rest) new (k rest new all))

-- where no piece is left, the text is that of the term
pub finished : (n : Lexicon) (old new : Seen) (t : NodeId) (text : List ℕ) → Completes n old (pieces.Term t ∷ []) text new [] → IsText n old (tree_at n.trees t) text new
finished n old new t text h =
    let (x, y, between, texts, none, e) = h [] new (refl, refl) in
    let whole : text ≡ x = sym (append-nil text) ∙ e ∙ ap (λ w. x ++ w) none.0 ∙ append-nil x in
    let last : new ≡ between = none.1 in
    subst (λ s. IsText n old (tree_at n.trees t) text s) (sym last) (subst (λ w. IsText n old (tree_at n.trees t) w between) (sym whole) texts)
