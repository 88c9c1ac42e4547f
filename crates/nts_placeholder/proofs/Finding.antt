-- The walk over what escapes from a value, level by level.
use Rattle.std.proofs.Common.{◌≡◌, ℕ, zero, suc, ◌+◌, ◌-◌, ◌<◌, ◌≤◌, nat_eq, Bool, true, false, ◌||◌, ◌&&◌, List, [], ◌∷◌, ◌++◌, length, get_or, All, refl, sym, ap, ◌∙◌, eqb-true, arith}
use Rattle.std.proofs.lemmas.Bool.{eq-eqb}
use Rattle.std.specs.Ordering.{nat_cmp, match_ordering}
use Rattle.std.specs.declared.cmp.Ordering.{Ordering}
use Rattle.std.specs.declared.cmp.Ordering.TheVariants.{Less, Equal, Greater}
use Rattle.std.specs.BTreeSet.{insert_key}
use Rattle.std.specs.BTreeMap.Range.{IsLtBy}
use Rattle.nts_model.specs.declared.labels.Sort.{Sort}
use Rattle.nts_model.specs.declared.labels.BoundVarIndexKind.TheVariants as index
use Rattle.nts_model.specs.declared.labels.Label.{Label}
use Rattle.nts_model.specs.declared.labels.Label.TheVariants as label
use Rattle.nts_model.specs.Terms.Trees.{Tree, empty, more, node, binders, row_length, row_at, row_take, IsRow, IsBoundBelow, IsClosedUnder}
use Rattle.nts_store.specs.Levels.{above}
use Rattle.nts_store.specs.Equal.{one_answer}
use Rattle.nts_store.proofs.Growing.{row_take-all}
use Rattle.nts_store.proofs.Pending.{cmp-equal, above-insert, above-last, above-all}
use Rattle.nts_placeholder.specs.declared.maps.BoundVar.{BoundVar}
use Rattle.nts_placeholder.specs.declared.escaping.Escaping.{Escaping}
use Rattle.nts_placeholder.specs.Escaping.{same_sort, is_bound, escapes_under, escapes, is_it, is_among, escapes_any, IsDeeper}
use Rattle.nts_store.proofs.Levels.{none_above}

-- a variable that is noted

pub among-push : (s : Sort) (b : BoundVar) (xs : List Escaping) (x : Escaping) → is_among (xs ++ x ∷ []) s b ≡ (is_among xs s b || is_it x s b)
among-push s b [] x = or_false (is_it x s b)
  where
    or_false : (p : Bool) → (p || false) ≡ p
    or_false true = refl
    or_false false = refl
among-push s b (y ∷ xs) x =
    ap (λ p. is_it y s b || p) (among-push s b xs x) ∙ assoc (is_it y s b) (is_among xs s b) (is_it x s b)
  where
    assoc : (p q r : Bool) → (p || (q || r)) ≡ ((p || q) || r)
    assoc true q r = refl
    assoc false q r = refl

same_level : (d c k : ℕ) → c ≤ d → nat_eq (d - c) k ≡ nat_eq d (k + c)
same_level d c k h =
    one_answer (nat_eq (d - c) k) (nat_eq d (k + c)) (d ≡ k + c)
    ((λ e. let q : d - c ≡ k = eqb-true (d - c) k e in omega (arith, h, q)), λ e. eq-eqb (d - c) k (omega (arith, e)))
    ((λ e. eqb-true d (k + c) e), λ e. eq-eqb d (k + c) e)

pub noted : (r : Sort) (d n c : ℕ) (xs ys : List Escaping) → c ≤ d → ys ≡ xs ++ record { sort = r; bound = record { level = d - c; var = n } } ∷ [] → (s : Sort) (b : BoundVar) → is_among ys s b ≡ (is_among xs s b || is_bound s b c (label.Bound r (index.Bound d) n))
noted r d n c xs ys h e s b =
    let x : Escaping = record { sort = r; bound = record { level = d - c; var = n } } in
    ap (λ zs. is_among zs s b) e ∙ among-push s b xs x ∙ ap (λ p. is_among xs s b || (same_sort r s && (p && nat_eq n b.var))) (same_level d c b.level h)

-- nothing escapes from a closed tree

bound_below : (s : Sort) (b : BoundVar) (c : ℕ) (l : Label) → IsBoundBelow c l → is_bound s b c l ≡ false
bound_below s b c (label.Bound r (index.Bound d) n) h = by_case (nat_eq d (b.level + c)) refl
  where
    none : (p q : Bool) → (p && (false && q)) ≡ false
    none true q = refl
    none false q = refl

    by_case : (p : Bool) → nat_eq d (b.level + c) ≡ p → (same_sort r s && (p && nat_eq n b.var)) ≡ false
    by_case true e = let q : d ≡ b.level + c = eqb-true d (b.level + c) e in absurd (omega (arith, h, q))
    by_case false e = none (same_sort r s) (nat_eq n b.var)
bound_below s b c (label.Bound r index.Canonical n) h = refl
bound_below s b c (label.Leaf x) h = refl
bound_below s b c (label.Ty x) h = refl
bound_below s b c (label.Const x) h = refl
bound_below s b c (label.Clause x) h = refl
bound_below s b c (label.Predicate x) h = refl
bound_below s b c (label.List x) h = refl

pub closed_escapes : (s : Sort) (b : BoundVar) (c : ℕ) (t : Tree) → IsClosedUnder c t → escapes_under s b c t ≡ false
closed_escapes s b c empty h = refl
closed_escapes s b c (more x y) h = cc (closed_escapes s b c x h.0, closed_escapes s b c y h.1)
closed_escapes s b c (node l x) h = cc (bound_below s b c l h.0, closed_escapes s b (c + binders l) x h.1)

-- one more term

swap : (p q r : Bool) → (p || (q || r)) ≡ (q || (p || r))
swap true true r = refl
swap true false r = refl
swap false q r = refl

twice : (p r : Bool) → (p || r) ≡ (p || (p || r))
twice true r = refl
twice false r = refl

inserted_cases : (s : Sort) (b : BoundVar) (d : ℕ) (ts : List Tree) (k x : ℕ) (xs rest : List ℕ) → escapes_any s b d ts rest ≡ (escapes_under s b d (get_or ts k empty) || escapes_any s b d ts xs) → (o : Ordering) → nat_cmp k x ≡ o
    → escapes_any s b d ts (match_ordering o (k ∷ x ∷ xs) (x ∷ xs) (x ∷ rest)) ≡ (escapes_under s b d (get_or ts k empty) || escapes_any s b d ts (x ∷ xs))
inserted_cases s b d ts k x xs rest h Less e = refl
inserted_cases s b d ts k x xs rest h Equal e =
    let same = cmp-equal k x e in
    rw same (twice (escapes_under s b d (get_or ts x empty)) (escapes_any s b d ts xs))
inserted_cases s b d ts k x xs rest h Greater e =
    ap (λ p. escapes_under s b d (get_or ts x empty) || p) h ∙ swap (escapes_under s b d (get_or ts x empty)) (escapes_under s b d (get_or ts k empty)) (escapes_any s b d ts xs)

any-insert : (s : Sort) (b : BoundVar) (d : ℕ) (ts : List Tree) (ks : List ℕ) (k : ℕ) → escapes_any s b d ts (insert_key nat_cmp ks k) ≡ (escapes_under s b d (get_or ts k empty) || escapes_any s b d ts ks)
any-insert s b d ts [] k = refl
any-insert s b d ts (x ∷ xs) k =
    inserted_cases s b d ts k x xs (insert_key nat_cmp xs k) (any-insert s b d ts xs k) (nat_cmp k x) refl

-- the last term
any-last : (s : Sort) (b : BoundVar) (d : ℕ) (ts : List Tree) (ks : List ℕ) (k : ℕ) → escapes_any s b d ts (ks ++ k ∷ []) ≡ (escapes_under s b d (get_or ts k empty) || escapes_any s b d ts ks)
any-last s b d ts [] k = refl
any-last s b d ts (x ∷ xs) k =
    ap (λ p. escapes_under s b d (get_or ts x empty) || p) (any-last s b d ts xs k) ∙ swap (escapes_under s b d (get_or ts x empty)) (escapes_under s b d (get_or ts k empty)) (escapes_any s b d ts xs)

-- one more child
row-take : (s : Sort) (b : BoundVar) (d i : ℕ) (r : Tree) → i < row_length r → escapes_under s b d (row_take (i + 1) r) ≡ (escapes_under s b d (row_take i r) || escapes_under s b d (row_at r i))
row-take s b d i empty h = absurd (omega arith)
row-take s b d zero (more x y) h = or_false (escapes_under s b d x)
  where
    or_false : (p : Bool) → (p || false) ≡ p
    or_false true = refl
    or_false false = refl
row-take s b d (suc i) (more x y) h =
    let e : suc i + 1 ≡ suc (i + 1) = omega arith in
    rw e (ap (λ p. escapes_under s b d x || p) (row-take s b d i y (omega arith)) ∙ assoc (escapes_under s b d x) (escapes_under s b d (row_take i y)) (escapes_under s b d (row_at y i)))
  where
    assoc : (p q r : Bool) → (p || (q || r)) ≡ ((p || q) || r)
    assoc true q r = refl
    assoc false q r = refl
row-take s b d i (node l c) h = absurd (omega arith)

-- what is found, and what is left at this level and at the next, is what there was at the start
pub record AreLeft (d : ℕ) (ts : List Tree) (start here deeper : List ℕ) (old new : List Escaping) : Type 0 where
  pub within : above start ≤ length ts
  pub at_level : above here ≤ above start
  pub below : above deeper ≤ above start - 1
  pub found : (s : Sort) (b : BoundVar) → (is_among new s b || (escapes_any s b d ts here || escapes_any s b (d + 1) ts deeper)) ≡ (is_among old s b || escapes_any s b d ts start)

pub left_within : (d : ℕ) (ts : List Tree) (start rest here deeper : List ℕ) (old new : List Escaping) (n : ℕ) → AreLeft d ts start here deeper old new → here ≡ rest ++ n ∷ [] → n < length ts
left_within d ts start rest here deeper old new n h e =
    let left : AreLeft d ts start (rest ++ n ∷ []) deeper old new = rw e at h in
    omega (arith, left.within, left.at_level, above-last rest n)

pub left_below : (d : ℕ) (ts : List Tree) (start rest here deeper : List ℕ) (old new : List Escaping) (n : ℕ) → AreLeft d ts start here deeper old new → here ≡ rest ++ n ∷ [] → n < above start
left_below d ts start rest here deeper old new n h e =
    let left : AreLeft d ts start (rest ++ n ∷ []) deeper old new = rw e at h in
    omega (arith, left.at_level, above-last rest n)

-- a term from which no such variable escapes
pub left_skipped : (d : ℕ) (ts : List Tree) (start rest here deeper : List ℕ) (old new : List Escaping) (n : ℕ) → AreLeft d ts start here deeper old new → here ≡ rest ++ n ∷ [] → IsClosedUnder d (get_or ts n empty) → AreLeft d ts start rest deeper old new
left_skipped d ts start rest here deeper old new n h e k =
    let left : AreLeft d ts start (rest ++ n ∷ []) deeper old new = rw e at h in
    record {
      within = left.within;
      at_level = omega (arith, left.at_level, above-last rest n);
      below = left.below;
      found = λ s b.
          let last : escapes_any s b d ts (rest ++ n ∷ []) ≡ escapes_any s b d ts rest = any-last s b d ts rest n ∙ ap (λ p. p || escapes_any s b d ts rest) (closed_escapes s b d (get_or ts n empty) k) in
          ap (λ p. is_among new s b || (p || escapes_any s b (d + 1) ts deeper)) (sym last) ∙ left.found s b;
    }

-- the terms that were left, and the first children of one, which are k binders deeper
pub record AreAdded (d k : ℕ) (ts : List Tree) (start rest old : List ℕ) (r : Tree) (n i : ℕ) (here deeper : List ℕ) : Type 0 where
  pub at_level : above here ≤ n
  pub below : above deeper ≤ above start - 1
  pub all : (s : Sort) (b : BoundVar) → (escapes_any s b d ts here || escapes_any s b (d + 1) ts deeper) ≡ ((escapes_any s b d ts rest || escapes_any s b (d + 1) ts old) || escapes_under s b (d + k) (row_take i r))

pub added_none : (d k : ℕ) (ts : List Tree) (start here deeper : List ℕ) (r : Tree) (n : ℕ) → All (λ q. IsLtBy nat_cmp q n) here → above deeper ≤ above start - 1 → AreAdded d k ts start here deeper r n 0 here deeper
added_none d k ts start here deeper r n h b =
    record { at_level = above-all here n h; below = b; all = λ s v. sym (or_false (escapes_any s v d ts here || escapes_any s v (d + 1) ts deeper)) }
  where
    or_false : (p : Bool) → (p || false) ≡ p
    or_false true = refl
    or_false false = refl

to_end : (x p q a r : Bool) → (p || q) ≡ (a || r) → ((x || p) || q) ≡ (a || (r || x))
to_end true p q true r h = refl
to_end true p q false true h = refl
to_end true p q false false h = refl
to_end false p q a true h = h
to_end false p q a false h = h

to_end_second : (x p q a r : Bool) → (p || q) ≡ (a || r) → (p || (x || q)) ≡ (a || (r || x))
to_end_second true true q true r h = refl
to_end_second true true q false true h = refl
to_end_second true true q false false h = refl
to_end_second true false q true r h = refl
to_end_second true false q false true h = refl
to_end_second true false q false false h = refl
to_end_second false p q a true h = h
to_end_second false p q a false h = h

-- one child more, at this level or at the next
pub added_here : (d k : ℕ) (ts : List Tree) (start rest old : List ℕ) (r : Tree) (n i : ℕ) (here more_here deeper : List ℕ) (x : ℕ) → AreAdded d k ts start rest old r n i here deeper
    → k ≡ 0 → x < n → i < row_length r → get_or ts x empty ≡ row_at r i → more_here ≡ insert_key nat_cmp here x → AreAdded d k ts start rest old r n (i + 1) more_here deeper
added_here d k ts start rest old r n i here more_here deeper x h z l j at e =
    let same : d + k ≡ d = omega (arith, z) in
    rw e (record {
      at_level = above-insert here x n h.at_level l;
      below = h.below;
      all = λ s b.
          let child : escapes_under s b d (get_or ts x empty) ≡ escapes_under s b (d + k) (row_at r i) = ap (escapes_under s b d) at ∙ ap (λ m. escapes_under s b m (row_at r i)) (sym same) in
          ap (λ p. p || escapes_any s b (d + 1) ts deeper) (any-insert s b d ts here x ∙ ap (λ p. p || escapes_any s b d ts here) child)
          ∙ to_end (escapes_under s b (d + k) (row_at r i)) (escapes_any s b d ts here) (escapes_any s b (d + 1) ts deeper) (escapes_any s b d ts rest || escapes_any s b (d + 1) ts old) (escapes_under s b (d + k) (row_take i r)) (h.all s b)
          ∙ ap (λ p. (escapes_any s b d ts rest || escapes_any s b (d + 1) ts old) || p) (sym (row-take s b (d + k) i r j));
    })

pub added_deeper : (d k : ℕ) (ts : List Tree) (start rest old : List ℕ) (r : Tree) (n i : ℕ) (here deeper more_deeper : List ℕ) (x : ℕ) → AreAdded d k ts start rest old r n i here deeper
    → k ≡ 1 → n < above start → x < n → i < row_length r → get_or ts x empty ≡ row_at r i → more_deeper ≡ insert_key nat_cmp deeper x → AreAdded d k ts start rest old r n (i + 1) here more_deeper
added_deeper d k ts start rest old r n i here deeper more_deeper x h z b l j at e =
    let same : d + k ≡ d + 1 = omega (arith, z) in
    rw e (record {
      at_level = h.at_level;
      below = above-insert deeper x (above start - 1) h.below (omega (arith, b, l));
      all = λ s v.
          let child : escapes_under s v (d + 1) (get_or ts x empty) ≡ escapes_under s v (d + k) (row_at r i) = ap (escapes_under s v (d + 1)) at ∙ ap (λ m. escapes_under s v m (row_at r i)) (sym same) in
          ap (λ p. escapes_any s v d ts here || p) (any-insert s v (d + 1) ts deeper x ∙ ap (λ p. p || escapes_any s v (d + 1) ts deeper) child)
          ∙ to_end_second (escapes_under s v (d + k) (row_at r i)) (escapes_any s v d ts here) (escapes_any s v (d + 1) ts deeper) (escapes_any s v d ts rest || escapes_any s v (d + 1) ts old) (escapes_under s v (d + k) (row_take i r)) (h.all s v)
          ∙ ap (λ p. (escapes_any s v d ts rest || escapes_any s v (d + 1) ts old) || p) (sym (row-take s v (d + k) i r j));
    })

-- the label of a term is noted, and its children are left in its place
moved_over : (f l r c o : Bool) → ((f || l) || ((r || o) || c)) ≡ (f || (((l || c) || r) || o))
moved_over true l r c o = refl
moved_over false true r c o = refl
moved_over false false true c o = in_front c
  where
    in_front : (p : Bool) → true ≡ ((p || true) || o)
    in_front true = refl
    in_front false = refl
moved_over false false false true true = refl
moved_over false false false true false = refl
moved_over false false false false true = refl
moved_over false false false false false = refl

pub left_after : (d : ℕ) (ts : List Tree) (l : Label) (c : Tree) (start rest old before here deeper : List ℕ) (first was now : List Escaping) (n i : ℕ) → AreLeft d ts start old before first was → old ≡ rest ++ n ∷ [] → get_or ts n empty ≡ node l c
    → ((s : Sort) (b : BoundVar) → is_among now s b ≡ (is_among was s b || is_bound s b d l)) → IsRow c → i ≡ row_length c → AreAdded d (binders l) ts start rest before c n i here deeper → AreLeft d ts start here deeper first now
left_after d ts l c start rest old before here deeper first was now n i h e is p r long a =
    let left : AreLeft d ts start (rest ++ n ∷ []) before first was = rw e at h in
    let whole : row_take i c ≡ c = rw long (row_take-all c r) in
    record {
      within = left.within;
      at_level = omega (arith, a.at_level, left.at_level, above-last rest n);
      below = a.below;
      found = λ s b.
          let f = is_among was s b in
          let lb = is_bound s b d l in
          let cb = escapes_under s b (d + binders l) c in
          let rb = escapes_any s b d ts rest in
          let ob = escapes_any s b (d + 1) ts before in
          let added : (escapes_any s b d ts here || escapes_any s b (d + 1) ts deeper) ≡ ((rb || ob) || cb) = a.all s b ∙ ap (λ t. (rb || ob) || escapes_under s b (d + binders l) t) whole in
          let last : escapes_any s b d ts (rest ++ n ∷ []) ≡ ((lb || cb) || rb) = any-last s b d ts rest n ∙ ap (λ t. escapes_under s b d t || rb) is in
          ap (λ q. q || (escapes_any s b d ts here || escapes_any s b (d + 1) ts deeper)) (p s b)
          ∙ ap (λ q. (f || lb) || q) added
          ∙ moved_over f lb rb cb ob
          ∙ ap (λ q. f || (q || ob)) (sym last)
          ∙ left.found s b;
    }

-- the levels from one on
pub record IsAtLevel (t : Tree) (ts : List Tree) (d : ℕ) (here : List ℕ) (xs : List Escaping) : Type 0 where
  pub within : d + above here ≤ length ts
  pub found : (s : Sort) (b : BoundVar) → (is_among xs s b || escapes_any s b d ts here) ≡ escapes t s b

pub level_empty : (t : Tree) (ts : List Tree) (d : ℕ) (here : List ℕ) (xs : List Escaping) → IsAtLevel t ts d here xs → here ≡ [] → (s : Sort) (b : BoundVar) → is_among xs s b ≡ escapes t s b
level_empty t ts d here xs h e s b =
    let a : IsAtLevel t ts d [] xs = rw e at h in sym (or_false (is_among xs s b)) ∙ a.found s b
  where
    or_false : (p : Bool) → (p || false) ≡ p
    or_false true = refl
    or_false false = refl

pub levels_end : (t : Tree) (ts : List Tree) (d : ℕ) (here : List ℕ) (xs : List Escaping) → IsAtLevel t ts d here xs → length ts ≤ d → (s : Sort) (b : BoundVar) → is_among xs s b ≡ escapes t s b
levels_end t ts d here xs h l s b = level_empty t ts d here xs h (none_above here (omega (arith, h.within, l))) s b
