-- A response that says nothing of its query's terms is over them: each position is a variable of the kind of the term with its number, or
-- the placeholder that the term is.
use Rattle.std.proofs.Common.{◌≡◌, ◌⊎◌, inl, inr, ℕ, suc, ◌<◌, ◌≤◌, true, false, List, [], ◌∷◌, ◌++◌, map, Some, refl, sym, ap, subst, ◌∙◌, arith}
use Rattle.std.specs.List.{position_or_len}
use Rattle.nts_model.specs.declared.labels.Sort.{Sort}
use Rattle.nts_model.specs.declared.labels.VariableKind.{VariableKind}
use Rattle.nts_model.specs.declared.labels.VariableKind.TheVariants as kind
use Rattle.nts_model.specs.declared.labels.FreeRegion.TheVariants as region
use Rattle.nts_model.specs.declared.labels.Constant.TheVariants as constant
use Rattle.nts_model.specs.declared.labels.Leaf.{Leaf}
use Rattle.nts_model.specs.declared.labels.Leaf.TheVariants as leaf
use Rattle.nts_model.specs.declared.labels.BoundVarIndexKind.TheVariants as index
use Rattle.nts_model.specs.declared.labels.Label.TheVariants as label
use Rattle.nts_model.specs.Terms.Trees.{Tree, empty, more, node, label_of, any_label, is_canonical, sort_of_leaf}
use Rattle.nts_model.specs.Tables.Contents.{Content}
use Rattle.nts_model.specs.Tables.Resolving.{deeply_resolved}
use Rattle.nts_model.specs.Terms.Substitutions.{leaf_tree}
use Rattle.nts_model.specs.Lists.{Among}
use Rattle.nts_model.specs.Canonical.Numbered.{number, added, seen, position, numbered_leaf}
use Rattle.nts_model.specs.Canonical.Inputs.{share}
use Rattle.nts_model.specs.Answers.Responses.{Response, recorded_by, value_row, row_of, own_leaves, positioned, is_fixed, answer_kind, answer_kinds}
use Rattle.nts_model.proofs.Terms.Listed.{either, same-no}
use Rattle.nts_theory.specs.Telling.{IsResponseOf, AreTermsOfKinds, IsTermOfKind}

-- the values are the positions in order, from k on
abbrev pub ArePlacesFrom : ℕ → List Tree → Type 0
ArePlacesFrom k [] = Unit {0}
ArePlacesFrom k (v ∷ vs) = ((s : Sort) × (v ≡ position s k)) × ArePlacesFrom (suc k) vs

-- a leaf that came of a term of the query: a variable of the same kind, or the placeholder itself
pub data IsKept : Leaf → Leaf → Type 0 where
  variable : {k : VariableKind} {n m : ℕ} → IsKept (leaf.Variable k n) (leaf.Variable k m)
  of_type : {n : ℕ} → IsKept (leaf.TyConstant (constant.Placeholder 0 n)) (leaf.TyConstant (constant.Placeholder 0 n))
  of_const : {n : ℕ} → IsKept (leaf.ConstConstant (constant.Placeholder 0 n)) (leaf.ConstConstant (constant.Placeholder 0 n))
  of_region : {n : ℕ} → IsKept (leaf.Region (region.Placeholder 0 n)) (leaf.Region (region.Placeholder 0 n))

variable_kept : (c : Content) (f n m : ℕ) (k : VariableKind) → IsTermOfKind (answer_kind c 0 f (leaf.Variable k m)) (leaf_tree (leaf.Variable k n))
variable_kept c f n m kind.Ty = (label.Leaf (leaf.Variable kind.Ty n), refl, (leaf.Variable kind.Ty n, refl, (n, refl)))
variable_kept c f n m kind.Int = (label.Leaf (leaf.Variable kind.Int n), refl, (leaf.Variable kind.Int n, refl, (n, refl)))
variable_kept c f n m kind.Float = (label.Leaf (leaf.Variable kind.Float n), refl, (leaf.Variable kind.Float n, refl, (n, refl)))
variable_kept c f n m kind.Const = (label.Leaf (leaf.Variable kind.Const n), refl, (leaf.Variable kind.Const n, refl, (n, refl)))
variable_kept c f n m kind.Region = (label.Leaf (leaf.Variable kind.Region n), refl, (leaf.Variable kind.Region n, refl, (n, refl)))

kept_kind : (c : Content) (f : ℕ) (y l : Leaf) → IsKept y l → IsTermOfKind (answer_kind c 0 f l) (leaf_tree y)
kept_kind c f y l (variable {k} {n} {m}) = variable_kept c f n m k
kept_kind c f y l of_type = (label.Leaf y, refl, (y, refl, refl))
kept_kind c f y l of_const = (label.Leaf y, refl, (y, refl, refl))
kept_kind c f y l of_region = (label.Leaf y, refl, (y, refl, refl))

-- a tree that is the position k once its leaves are numbered
pub record IsNumberedLeaf (u : List Leaf) (k : ℕ) (t : Tree) : Type 0 where
  pub leaf : Leaf
  pub label : label_of t ≡ Some (label.Leaf leaf)
  pub number : number u leaf ≡ k
  pub free : is_fixed leaf ≡ false

place_of_number : (s : Sort) (m k : ℕ) (r : Sort) → position r m ≡ position s k → m ≡ k
place_of_number s m k r e = cc e

numbered_by : (u : List Leaf) (k : ℕ) (s : Sort) (x : Leaf) (c : Tree) → numbered_leaf is_fixed u x ≡ position s k → IsNumberedLeaf u k (node (label.Leaf x) c)
numbered_by u k s x c e = elim (either (is_fixed x)) [
  | inl q ↦ absurd (cc (fixed_tree q))
  | inr q ↦ record { leaf = x; label = refl; number = place_of_number s (number u x) k (sort_of_leaf x) (free_tree q); free = q }
]
  where
    fixed_tree : is_fixed x ≡ true → leaf_tree x ≡ position s k
    fixed_tree q = rw q at e

    free_tree : is_fixed x ≡ false → position (sort_of_leaf x) (number u x) ≡ position s k
    free_tree q = rw q at e

placed_leaf : (u : List Leaf) (k : ℕ) (s : Sort) (t : Tree) → any_label is_canonical t ≡ false → positioned u t ≡ position s k → IsNumberedLeaf u k t
placed_leaf u k s empty h e = absurd (cc e)
placed_leaf u k s (more a b) h e = absurd (cc e)
placed_leaf u k s (node (label.Leaf x) c) h e = numbered_by u k s x c e
placed_leaf u k s (node (label.Bound r (index.Bound d) n) c) h e = absurd (cc e)
placed_leaf u k s (node (label.Bound r index.Canonical n) c) h e = absurd (cc h)
placed_leaf u k s (node (label.Ty x) c) h e = absurd (cc e)
placed_leaf u k s (node (label.Const x) c) h e = absurd (cc e)
placed_leaf u k s (node (label.Clause x) c) h e = absurd (cc e)
placed_leaf u k s (node (label.Predicate x) c) h e = absurd (cc e)
placed_leaf u k s (node (label.List x) c) h e = absurd (cc e)

-- term by term
abbrev AreNumberedLeaves : List Leaf → ℕ → List Tree → List Leaf → Type 0
AreNumberedLeaves u k [] [] = Unit {0}
AreNumberedLeaves u k (t ∷ ts) (l ∷ ls) = (label_of t ≡ Some (label.Leaf l)) × (number u l ≡ k) × (is_fixed l ≡ false) × AreNumberedLeaves u (suc k) ts ls
AreNumberedLeaves u k ts ls = ⊥

numbered_leaves : (u : List Leaf) (k : ℕ) (ts : List Tree) → ((t : Tree) → Among ts t → any_label is_canonical t ≡ false) → ArePlacesFrom k (map (positioned u) ts) → (ls : List Leaf) × AreNumberedLeaves u k ts ls
numbered_leaves u k [] h p = ([], tt)
numbered_leaves u k (t ∷ ts) h p =
    let x = placed_leaf u k p.0.0 t (h t (inl refl)) p.0.1 in
    let r = numbered_leaves u (suc k) ts (λ s i. h s (inr i)) p.1 in
    (x.leaf ∷ r.0, (x.label, x.number, x.free, r.1))

-- there are no other leaves
abbrev AreNumberedBelow : List Leaf → ℕ → List Leaf → Type 0
AreNumberedBelow u k s = (x : Leaf) → Among s x → number u x < k

at_end : (s : List Leaf) (l : Leaf) → (Among s l → ⊥) → added s l ≡ s ++ l ∷ []
at_end [] l n = refl
at_end (x ∷ xs) l n = rw (same-no l x (λ p. n (inl p))) (ap (λ z. x ∷ z) (at_end xs l (λ i. n (inr i))))

among_end : (s : List Leaf) (l x : Leaf) → Among (s ++ l ∷ []) x → Among s x ⊎ (x ≡ l)
among_end [] l x (inl e) = inr e
among_end [] l x (inr i) = absurd i
among_end (y ∷ ys) l x (inl e) = inl (inl e)
among_end (y ∷ ys) l x (inr i) = elim (among_end ys l x i) [ inl j ↦ inl (inr j) | inr e ↦ inr e ]

snoc : (s t : List Leaf) (l : Leaf) → (s ++ l ∷ []) ++ t ≡ s ++ l ∷ t
snoc [] t l = refl
snoc (x ∷ xs) t l = ap (λ z. x ∷ z) (snoc xs t l)

end : (s : List Leaf) → s ++ [] ≡ s
end [] = refl
end (x ∷ xs) = ap (λ z. x ∷ z) (end xs)

seen_leaf : (s : List Leaf) (t : Tree) (l : Leaf) → label_of t ≡ Some (label.Leaf l) → is_fixed l ≡ false → seen is_fixed s t ≡ added s l
seen_leaf s empty l e f = absurd (cc e)
seen_leaf s (more a b) l e f = absurd (cc e)
seen_leaf s (node m c) l e f = ap (λ z. seen is_fixed s (node z c)) (one_label e) ∙ rw f refl
  where
    one_label : Some m ≡ Some (label.Leaf l) → m ≡ label.Leaf l
    one_label e = cc e

row_seen : (u : List Leaf) (k : ℕ) (s : List Leaf) (ts : List Tree) (ls : List Leaf) → AreNumberedLeaves u k ts ls → AreNumberedBelow u k s → seen is_fixed s (value_row ts empty) ≡ s ++ ls
row_seen u k s [] [] p b = sym (end s)
row_seen u k s [] (l ∷ ls) p b = absurd p
row_seen u k s (t ∷ ts) [] p b = absurd p
row_seen u k s (t ∷ ts) (l ∷ ls) p b =
    let named : number u l ≡ k = p.1 in
    let new : Among s l → ⊥ = λ i. (let q : number u l < k = b l i in omega (arith, q, named)) in
    let here : seen is_fixed s t ≡ s ++ l ∷ [] = seen_leaf s t l p.0 p.2 ∙ at_end s l new in
    let below : AreNumberedBelow u (suc k) (s ++ l ∷ []) =
    λ y i. elim (among_end s l y i) [ inl j ↦ (let z : number u y < k = b y j in omega (arith, z)) | inr q ↦ (let z : number u y ≡ k = ap (number u) q ∙ named in omega (arith, z)) ] in
    ap (λ z. seen is_fixed z (value_row ts empty)) here ∙ row_seen u (suc k) (s ++ l ∷ []) ts ls p.3 below ∙ snoc s ls l

-- the leaf with this number
abbrev IsAt : ℕ → List Leaf → ℕ → Leaf → Type 0
IsAt k [] i x = ⊥
IsAt k (y ∷ ys) i x = (i ≡ k) × (x ≡ y) ⊎ IsAt (suc k) ys i x

at_above : (k : ℕ) (ys : List Leaf) (i : ℕ) (x : Leaf) → IsAt k ys i x → k ≤ i
at_above k [] i x h = absurd h
at_above k (y ∷ ys) i x (inl h) = (let e : i ≡ k = h.0 in omega (arith, e))
at_above k (y ∷ ys) i x (inr h) = (let r : suc k ≤ i = at_above (suc k) ys i x h in omega (arith, r))

at_one : (k : ℕ) (ys : List Leaf) (i : ℕ) (x z : Leaf) → IsAt k ys i x → IsAt k ys i z → x ≡ z
at_one k [] i x z h j = absurd h
at_one k (y ∷ ys) i x z (inl h) (inl j) = h.1 ∙ sym j.1
at_one k (y ∷ ys) i x z (inl h) (inr j) = absurd (let e : i ≡ k = h.0 in let r : suc k ≤ i = at_above (suc k) ys i z j in omega (arith, e, r))
at_one k (y ∷ ys) i x z (inr h) (inl j) = absurd (let e : i ≡ k = j.0 in let r : suc k ≤ i = at_above (suc k) ys i x h in omega (arith, e, r))
at_one k (y ∷ ys) i x z (inr h) (inr j) = at_one (suc k) ys i x z h j

one_leaf : {l m : Leaf} → Some (label.Leaf l) ≡ Some (label.Leaf m) → l ≡ m
one_leaf e = cc e

module _ (u : List Leaf) (f : Leaf → Tree) where
  at_number : (k : ℕ) (xs ls : List Leaf) → AreNumberedLeaves u k (map f xs) ls → (x l : Leaf) → Among xs x → label_of (f x) ≡ Some (label.Leaf l) → IsAt k xs (number u l) x
  at_number k [] ls p x l i e = absurd i
  at_number k (y ∷ ys) [] p x l i e = absurd p
  at_number k (y ∷ ys) (m ∷ ms) p x l (inl q) e = inl (ap (number u) (one_leaf (sym e ∙ ap (λ z. label_of (f z)) q ∙ p.0)) ∙ p.1, q)
  at_number k (y ∷ ys) (m ∷ ms) p x l (inr i) e = inr (at_number (suc k) ys ms p.3 x l i e)

  -- no two terms came to be one leaf
  one_term : (xs ls : List Leaf) → AreNumberedLeaves u 0 (map f xs) ls → (x y l : Leaf) → Among xs x → Among xs y → label_of (f x) ≡ Some (label.Leaf l) → label_of (f y) ≡ Some (label.Leaf l) → y ≡ x
  one_term xs ls p x y l i j e q = at_one 0 xs (number u l) y x (at_number 0 xs ls p y l j q) (at_number 0 xs ls p x l i e)

kept_kinds : (c : Content) (r : ℕ → ℕ) (u all : List Leaf) (f : Leaf → Tree) (k : ℕ) (xs ls : List Leaf) → AreNumberedLeaves u k (map f xs) ls → ((x : Leaf) → Among xs x → (l : Leaf) → label_of (f x) ≡ Some (label.Leaf l) → IsKept x l)
    → AreTermsOfKinds (map (λ l. answer_kind c 0 (position_or_len (share r l) all) l) ls) (map leaf_tree xs)
kept_kinds c r u all f k [] [] p h = tt
kept_kinds c r u all f k [] (l ∷ ls) p h = absurd p
kept_kinds c r u all f k (x ∷ xs) [] p h = absurd p
kept_kinds c r u all f k (x ∷ xs) (l ∷ ls) p h = (kept_kind c (position_or_len (share r l) all) x l (h x (inl refl) l p.0), kept_kinds c r u all f (suc k) xs ls p.3 (λ y i. h y (inr i)))

none_mapped : {A B : Type 0} (f : A → B) (xs : List A) → map f xs ≡ [] → xs ≡ []
none_mapped f [] e = refl
none_mapped f (x ∷ xs) e = absurd (cc e)

map_twice : (f : Tree → Tree) (xs : List Leaf) → map f (map leaf_tree xs) ≡ map (λ x. f (leaf_tree x)) xs
map_twice f [] = refl
map_twice f (x ∷ xs) = ap (λ z. f (leaf_tree x) ∷ z) (map_twice f xs)

-- where each term's leaf is kept that no other term came to be, the response is over the terms
pub identity_over : (found : Content) (xs : List Leaf) (r : Response) → IsResponseOf found (map leaf_tree xs) r → (let f = r.findings in ArePlacesFrom 0 f.values) → (let f = r.findings in f.constraints ≡ [])
    → ((t : Tree) → Among (map (λ x. deeply_resolved found (leaf_tree x)) xs) t → any_label is_canonical t ≡ false)
    → ((x : Leaf) → Among xs x → (l : Leaf) → label_of (deeply_resolved found (leaf_tree x)) ≡ Some (label.Leaf l) → ((y : Leaf) → Among xs y → label_of (deeply_resolved found (leaf_tree y)) ≡ Some (label.Leaf l) → y ≡ x) → IsKept x l)
    → AreTermsOfKinds r.kinds (map leaf_tree xs)
identity_over found xs r s places none free kept =
    let x = s.findings in
    let reads = s.reads in
    let u : List Leaf = own_leaves x in
    let f : Leaf → Tree = λ y. deeply_resolved found (leaf_tree y) in
    let values : x.values ≡ map f xs = reads.values ∙ map_twice (deeply_resolved found) xs in
    let constraints : x.constraints ≡ [] = none_mapped (recorded_by (positioned (own_leaves x))) x.constraints (rw s.is at none) in
    let row : row_of x ≡ value_row (map f xs) empty = rw (values, constraints, s.no_hidden, s.no_goals) refl in
    let at_places : ArePlacesFrom 0 (map (positioned u) (map f xs)) = subst (λ z. ArePlacesFrom 0 (map (positioned u) z)) values (rw s.is at places) in
    let (ls, numbered) = numbered_leaves u 0 (map f xs) free at_places in
    let leaves : own_leaves x ≡ ls = ap (seen is_fixed []) row ∙ row_seen u 0 [] (map f xs) ls numbered (λ y i. absurd i) in
    let kinds : r.kinds ≡ answer_kinds found s.roots 0 ls = ap (λ z. z.kinds) s.is ∙ ap (answer_kinds found s.roots 0) leaves in
    subst (λ z. AreTermsOfKinds z (map leaf_tree xs)) (sym kinds) (kept_kinds found s.roots u ls f 0 xs ls numbered (λ y i l e. kept y i l e (λ z j q. one_term u f xs ls numbered y z l i j e q)))
