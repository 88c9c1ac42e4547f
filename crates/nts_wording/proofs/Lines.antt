-- How lines are written one after the other, and which names they have.
use Rattle.std.proofs.Common.{◌≡◌, ℕ, zero, suc, ◌+◌, ◌<◌, get_or, ◌≤◌, Bool, true, false, List, [], ◌∷◌, ◌++◌, Option, None, Some, take, length, refl, sym, ap, subst, ◌∙◌, append_assoc, arith}
use Rattle.std.specs.Prelude.{slice_get, codes, is_some, ◌==◌, ◌&&◌, if◌then◌else◌}
use Rattle.std.specs.List.{zip}
use Rattle.std.specs.Map.{lookup}
use Rattle.std.specs.Option.{option_map}
use Rattle.std.specs.Global.{Vec}
use Rattle.indexmap.specs.IndexMap.{insert_entry}
use Rattle.std.proofs.Math.Seq.{take-suc}
use Rattle.std.proofs.lemmas.Bool.{eqb-true}
use Rattle.std.proofs.lemmas.List.{append-nil}
use Rattle.nts_model.specs.Terms.Trees.{Tree}
use Rattle.nts_store.specs.Growth.{tree_at}
use Rattle.nts_store.specs.declared.nodes.NodeId.{NodeId}
use Rattle.nts_terms.specs.declared.handles.GenericArg.{GenericArg}
use Rattle.nts_unify.specs.declared.contents.Constraint.{Constraint}
use Rattle.nts_wording.specs.declared.printer.Printer.{Printer}
use Rattle.nts_wording.specs.Answers.{Bound, bound_to, node_of, bound_by, is_variable, name_by, first_of, name_among, AreNames, IsValueLine, IsFactLine, AreLines, relation_word}
use Rattle.nts_wording.specs.Pieces.{lexicon_of, names_in, seen_by, Writes, PutsText}
use Rattle.nts_wording.specs.Printing.{Lexicon, Seen, IsText, same_term}
use Rattle.nts_wording.proofs.Writing.{Writes-trans, Puts-trans, held, lookup_names}

lines_more : {A : Type 0} (P : Seen → A → List ℕ → Seen → Type 0) (old mid new : Seen) (xs : List A) (a : A) (s t : List ℕ)
    → AreLines P old xs s mid → P mid a t new → AreLines P old (xs ++ a ∷ []) (s ++ t) new
lines_more P old mid new [] a s t h p =
    (t, [], new, subst (λ m. P m a t new) h.1 p, (refl, refl), ap (λ w. w ++ t) h.0 ∙ sym (append-nil t))
lines_more P old mid new (b ∷ bs) a s t h p =
    let (x, y, between, first, others, e) = h in
    (x, y ++ t, between, first, lines_more P between mid new bs a y t others p, ap (λ w. w ++ t) e ∙ append_assoc x y t)

-- one more line
pub line_more : {A : Type 0} {o u v : Option (List ℕ)} (P : Lexicon → Seen → A → List ℕ → Seen → Type 0) (p q r : Printer) (xs : List A) (a : A)
    → PutsText o u p q (λ old text new. AreLines (P (lexicon_of p)) old xs text new)
    → PutsText u v q r (λ old text new. P (lexicon_of q) old a text new)
    → PutsText o v p r (λ old text new. AreLines (P (lexicon_of p)) old (xs ++ a ∷ []) text new)
line_more P p q r xs a h k =
    let line = subst (λ n. P n (seen_by q) a k.0 (seen_by r)) h.1.same k.2 in (
      h.0 ++ k.0,
      Puts-trans p q r h.0 k.0 h.1 k.1,
      lines_more (P (lexicon_of p)) (seen_by p) (seen_by q) (seen_by r) xs a h.0 k.0 h.2 line,
    )

-- a name and a value between what stands around them
pub value_written : {o u : Option (List ℕ)} (p p1 p2 p3 p4 p5 : Printer) (name : List ℕ) (v : NodeId)
    → Writes p p1 (codes "  ") → seen_by p1 ≡ seen_by p → Writes p1 p2 name → seen_by p2 ≡ seen_by p1 → Writes p2 p3 (codes " = ") → seen_by p3 ≡ seen_by p2
    → PutsText o u p3 p4 (λ old text new. IsText (lexicon_of p3) old (tree_at p3.nodes.now v) text new)
    → Writes p4 p5 (codes "\n") → seen_by p5 ≡ seen_by p4
    → PutsText o u p p5 (λ old text new. IsValueLine (lexicon_of p) old (name, v) text new)
value_written {o} {u} p p1 p2 p3 p4 p5 name v w1 s1 w2 s2 w3 s3 t w5 s5 =
    let x = t.0 in
    let last = subst (λ s. IsText (lexicon_of p3) (seen_by p3) (tree_at p3.nodes.now v) x s) (sym s5) t.2 in
    let first = subst (λ s. IsText (lexicon_of p3) s (tree_at p3.nodes.now v) x (seen_by p5)) (s3 ∙ s2 ∙ s1) last in
    let before = Writes-trans p p2 p3 (codes "  " ++ name) (codes " = ") (Writes-trans p p1 p2 (codes "  ") name w1 w2) w3 in (
      codes "  " ++ name ++ codes " = " ++ x ++ codes "\n",
      Puts-trans p p4 p5 (codes "  " ++ name ++ codes " = " ++ x) (codes "\n")
          (Puts-trans p p3 p4 (codes "  " ++ name ++ codes " = ") x (held o before) t.1) (held u w5),
      (x, subst (λ n. IsText n (seen_by p) (tree_at n.trees v) x (seen_by p5)) (w3.same ∙ w2.same ∙ w1.same) first, refl),
    )

-- two terms, with a word between them
pub fact_written : {o u z : Option (List ℕ)} (p p1 p2 p3 p4 p5 : Printer) (f : Constraint)
    → Writes p p1 (codes "  ") → seen_by p1 ≡ seen_by p
    → PutsText o u p1 p2 (λ old text new. IsText (lexicon_of p1) old (tree_at p1.nodes.now f.left) text new)
    → Writes p2 p3 (relation_word f.relation) → seen_by p3 ≡ seen_by p2
    → PutsText u z p3 p4 (λ old text new. IsText (lexicon_of p3) old (tree_at p3.nodes.now f.right) text new)
    → Writes p4 p5 (codes "\n") → seen_by p5 ≡ seen_by p4
    → PutsText o z p p5 (λ old text new. IsFactLine (lexicon_of p) old f text new)
fact_written {o} {u} {z} p p1 p2 p3 p4 p5 f w1 s1 t w3 s3 r w5 s5 =
    let x = t.0 in
    let y = r.0 in
    let word = relation_word f.relation in
    let left = subst (λ s. IsText (lexicon_of p1) s (tree_at p1.nodes.now f.left) x (seen_by p2)) s1 t.2 in
    let last = subst (λ s. IsText (lexicon_of p3) (seen_by p3) (tree_at p3.nodes.now f.right) y s) (sym s5) r.2 in
    let right = subst (λ s. IsText (lexicon_of p3) s (tree_at p3.nodes.now f.right) y (seen_by p5)) s3 last in (
      codes "  " ++ x ++ word ++ y ++ codes "\n",
      Puts-trans p p4 p5 (codes "  " ++ x ++ word ++ y) (codes "\n")
          (Puts-trans p p3 p4 (codes "  " ++ x ++ word) y (Puts-trans p p2 p3 (codes "  " ++ x) word (Puts-trans p p1 p2 (codes "  ") x (held o w1) t.1) (held u w3)) r.1) (held z w5),
      (
        x,
        y,
        seen_by p2,
        subst (λ n. IsText n (seen_by p) (tree_at n.trees f.left) x (seen_by p2)) w1.same left,
        subst (λ n. IsText n (seen_by p2) (tree_at n.trees f.right) y (seen_by p5)) (w3.same ∙ t.1.same ∙ w1.same) right,
        refl,
      ),
    )

-- the variable with this number, if it has a name and a value
abbrev pub bound_at : Option (List ℕ) → Option NodeId → List Bound
bound_at None v = []
bound_at (Some name) v = bound_to name v

pub bound_next : (values : List GenericArg) (names : List (List ℕ)) (places : List ℕ) (i p : ℕ) → slice_get places i ≡ Some p
    → bound_by values (zip (take (suc i) names) (take (suc i) places)) ≡ bound_by values (zip (take i names) (take i places)) ++ bound_at (slice_get names i) (node_of (slice_get values p))
bound_next values [] places zero p e = refl
bound_next values [] places (suc i) p e = refl
bound_next values (n ∷ ns) [] i p e = cc
bound_next values (n ∷ ns) (q ∷ qs) zero p e = let same : q ≡ p = cc in rw same (append-nil (bound_to n (node_of (slice_get values p))))
bound_next values (n ∷ ns) (q ∷ qs) (suc i) p e =
    let first = bound_to n (node_of (slice_get values q)) in
    ap (λ w. first ++ w) (bound_next values ns qs i p e) ∙ sym (append_assoc first (bound_by values (zip (take i ns) (take i qs))) (bound_at (slice_get ns i) (node_of (slice_get values p))))

zip-all : (names : List (List ℕ)) (places : List ℕ) → zip (take (length places) names) (take (length places) places) ≡ zip names places
zip-all [] [] = refl
zip-all [] (p ∷ ps) = refl
zip-all (n ∷ ns) [] = refl
zip-all (n ∷ ns) (p ∷ ps) = ap (λ w. (n, p) ∷ w) (zip-all ns ps)

pub bound_all : (values : List GenericArg) (names : List (List ℕ)) (places : List ℕ) → bound_by values (zip (take (length places) names) (take (length places) places)) ≡ bound_by values (zip names places)
bound_all values names places = ap (bound_by values) (zip-all names places)

first_of-none : (a : Option (List ℕ)) → first_of a None ≡ a
first_of-none None = refl
first_of-none (Some x) = refl

first_of-assoc : (a b c : Option (List ℕ)) → first_of a (first_of b c) ≡ first_of (first_of a b) c
first_of-assoc None b c = refl
first_of-assoc (Some x) b c = refl

among-more : (ts : List Tree) (t : NodeId) (bs : List Bound) (b : Bound) → name_among ts t (bs ++ b ∷ []) ≡ first_of (name_among ts t bs) (name_by ts t b)
among-more ts t [] b = first_of-none (name_by ts t b)
among-more ts t (x ∷ xs) b = ap (first_of (name_by ts t x)) (among-more ts t xs b) ∙ first_of-assoc (name_by ts t x) (name_among ts t xs) (name_by ts t b)

-- one more name
pub names_more : (ts : List Tree) (old new : List (NodeId × List ℕ)) (bs : List Bound) (b : Bound) → AreNames ts old bs
    → ((t : NodeId) → lookup (same_term t) new ≡ first_of (lookup (same_term t) old) (name_by ts t b)) → AreNames ts new (bs ++ b ∷ [])
names_more ts old new bs b h k = λ t. k t ∙ ap (λ o. first_of o (name_by ts t b)) (h t) ∙ sym (among-more ts t bs b)

no_name : (b c : Bool) (x : List ℕ) → c ≡ false → (if b && c then Some x else None) ≡ None
no_name true c x h = rw h refl
no_name false c x h = refl

some_name : (b c : Bool) (x : List ℕ) → c ≡ true → (if b && c then Some x else None) ≡ (if b then Some x else None)
some_name true c x h = rw h refl
some_name false c x h = refl

-- what is no variable gets no name
pub names_other : (ts : List Tree) (names : List (NodeId × List ℕ)) (name : List ℕ) (v : NodeId) → is_variable (tree_at ts v) ≡ false
    → (t : NodeId) → lookup (same_term t) names ≡ first_of (lookup (same_term t) names) (name_by ts t (name, v))
names_other ts names name v h t =
    let found = lookup (same_term t) names in
    sym (ap (first_of found) (no_name (same_term t v) (is_variable (tree_at ts v)) name h) ∙ first_of-none found)

same_found : (found : Option (List ℕ)) (o : Option (List ℕ)) → is_some found ≡ true → found ≡ first_of found o
same_found None o h = cc
same_found (Some x) o h = refl

kept_name : (names : List (NodeId × List ℕ)) (c : Bool) (name : List ℕ) (v t : NodeId) (b : Bool) → same_term t v ≡ b → is_some (lookup (same_term v) names) ≡ true
    → lookup (same_term t) names ≡ first_of (lookup (same_term t) names) (if b && c then Some name else None)
kept_name names c name v t true e h =
    let one : t.number ≡ v.number = eqb-true t.number v.number e in
    same_found (lookup (same_term t) names) (if true && c then Some name else None) (ap (λ n. is_some (lookup (λ b. n == b.number) names)) one ∙ h)
kept_name names c name v t false e h = sym (first_of-none (lookup (same_term t) names))

-- a variable that has a name keeps it
pub names_kept : (ts : List Tree) (names : List (NodeId × List ℕ)) (name : List ℕ) (v : NodeId) → is_some (lookup (same_term v) names) ≡ true
    → (t : NodeId) → lookup (same_term t) names ≡ first_of (lookup (same_term t) names) (name_by ts t (name, v))
names_kept ts names name v h t = kept_name names (is_variable (tree_at ts v)) name v t (same_term t v) refl h

inserted_behind : (t v : NodeId) (w : Vec ℕ) (e : NodeId × Vec ℕ) (es : List (NodeId × Vec ℕ)) (a b : Bool) → same_term v e.0 ≡ a → same_term t e.0 ≡ b
    → is_some (lookup (same_term v) (e ∷ es)) ≡ false
    → (is_some (lookup (same_term v) es) ≡ false → lookup (same_term t) (names_in (insert_entry same_term es v w)) ≡ first_of (lookup (same_term t) (names_in es)) (if same_term t v then Some w.items else None))
    → lookup (same_term t) (names_in (insert_entry same_term (e ∷ es) v w)) ≡ first_of (lookup (same_term t) (names_in (e ∷ es))) (if same_term t v then Some w.items else None)
inserted_behind t v w e es true b h k none more = absurd (let g : true ≡ false = rw h at none in cc)
inserted_behind t v w e es false true h k none more = rw (h, k) refl
inserted_behind t v w e es false false h k none more = rw (h, k) (more (rw h at none))

inserted : (t v : NodeId) (w : Vec ℕ) (es : List (NodeId × Vec ℕ)) → is_some (lookup (same_term v) es) ≡ false
    → lookup (same_term t) (names_in (insert_entry same_term es v w)) ≡ first_of (lookup (same_term t) (names_in es)) (if same_term t v then Some w.items else None)
inserted t v w [] h = refl
inserted t v w (e ∷ es) h = inserted_behind t v w e es (same_term v e.0) (same_term t e.0) refl refl h (inserted t v w es)

-- a variable without a name gets this one
pub names_inserted : (ts : List Tree) (es : List (NodeId × Vec ℕ)) (v : NodeId) (w : Vec ℕ) → is_variable (tree_at ts v) ≡ true → is_some (lookup (same_term v) es) ≡ false
    → (t : NodeId) → lookup (same_term t) (names_in (insert_entry same_term es v w)) ≡ first_of (lookup (same_term t) (names_in es)) (name_by ts t (w.items, v))
names_inserted ts es v w h none t =
    inserted t v w es none ∙ ap (first_of (lookup (same_term t) (names_in es))) (sym (some_name (same_term t v) (is_variable (tree_at ts v)) w.items h))

pub take_one : {A : Type 0} (xs : List A) (i : ℕ) (d : A) → i < length xs → take (i + 1) xs ≡ take i xs ++ get_or xs i d ∷ []
take_one xs i d h = let e : i + 1 ≡ suc i = omega arith in rw e (take-suc xs i d h)

has_at : (xs : List ℕ) (i : ℕ) → i < length xs → slice_get xs i ≡ Some (get_or xs i 0)
has_at [] i h = absurd (omega (arith, h))
has_at (x ∷ xs) zero h = refl
has_at (x ∷ xs) (suc i) h = has_at xs i (omega (arith, h))

-- one more variable
pub bound_one : (values : List GenericArg) (names : List (List ℕ)) (places : List ℕ) (i : ℕ) (name : Option (List ℕ)) (value : Option NodeId) → i < length places
    → slice_get names i ≡ name → node_of (slice_get values (get_or places i 0)) ≡ value
    → bound_by values (zip (take (i + 1) names) (take (i + 1) places)) ≡ bound_by values (zip (take i names) (take i places)) ++ bound_at name value
bound_one values names places i name value h e f =
    let next : i + 1 ≡ suc i = omega arith in
    rw (next, sym e, sym f) (bound_next values names places i (get_or places i 0) (has_at places i h))

some_map : (o : Option (Vec ℕ)) → is_some (option_map (λ v. v.items) o) ≡ is_some o
some_map None = refl
some_map (Some x) = refl

pub some_names : (test : NodeId → Bool) (es : List (NodeId × Vec ℕ)) → is_some (lookup test (names_in es)) ≡ is_some (lookup test es)
some_names test es = ap is_some (lookup_names test es) ∙ some_map (lookup test es)

-- all variables
pub bound_end : (values : List GenericArg) (names : List (List ℕ)) (places : List ℕ) (i : ℕ) → length places ≤ i → i ≤ length places
    → bound_by values (zip (take i names) (take i places)) ≡ bound_by values (zip names places)
bound_end values names places i h k = let e : i ≡ length places = omega (arith, h, k) in rw e (bound_all values names places)

pub rest_trans : (p q r : Printer) → q ≡ record p { known = q.known } → r ≡ record q { known = r.known } → r ≡ record p { known = r.known }
rest_trans p q r h k = k ∙ ap (λ (s : Printer). record s { known = r.known }) h

-- one more name is known to a printer
pub learned : (p q r : Printer) (bs : List Bound) (name : List ℕ) (v : NodeId) → AreNames p.nodes.now (names_in q.known.entries) bs → q ≡ record p { known = q.known }
    → ((t : NodeId) → lookup (same_term t) (names_in r.known.entries) ≡ first_of (lookup (same_term t) (names_in q.known.entries)) (name_by q.nodes.now t (name, v)))
    → AreNames p.nodes.now (names_in r.known.entries) (bs ++ (name, v) ∷ [])
learned p q r bs name v h same k =
    let nodes : q.nodes.now ≡ p.nodes.now = ap (λ s. s.nodes.now) same in
    names_more p.nodes.now (names_in q.known.entries) (names_in r.known.entries) bs (name, v) h
    (subst (λ ts. (t : NodeId) → lookup (same_term t) (names_in r.known.entries) ≡ first_of (lookup (same_term t) (names_in q.known.entries)) (name_by ts t (name, v))) nodes k)

-- nothing more
pub bound_none : (values : List GenericArg) (names : List (List ℕ)) (places : List ℕ) (i : ℕ) (name : Option (List ℕ)) (value : Option NodeId) → i < length places
    → slice_get names i ≡ name → node_of (slice_get values (get_or places i 0)) ≡ value → bound_at name value ≡ []
    → bound_by values (zip (take (i + 1) names) (take (i + 1) places)) ≡ bound_by values (zip (take i names) (take i places))
bound_none values names places i name value h e f none =
    let before = bound_by values (zip (take i names) (take i places)) in
    bound_one values names places i name value h e f ∙ ap (λ w. before ++ w) none ∙ append-nil before
