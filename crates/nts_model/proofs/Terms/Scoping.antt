-- What binders bind stays listed where closed trees take the place of others.
use Rattle.std.proofs.Common.{◌≡◌, ℕ, zero, suc, ◌+◌, Bool, true, false, List, [], ◌∷◌, map, get_or, Option, Some, None, arith}
use Rattle.std.specs.Prelude.{◌==◌, if◌then◌else◌, cond}
use Rattle.nts_model.specs.declared.labels.Sort.{Sort}
use Rattle.nts_model.specs.declared.labels.VariableKind.TheVariants as kind
use Rattle.nts_model.specs.declared.labels.BoundVarIndexKind.TheVariants as index
use Rattle.nts_model.specs.declared.labels.ListHead.{ListHead}
use Rattle.nts_model.specs.declared.labels.ListHead.TheVariants as list
use Rattle.nts_model.specs.declared.labels.AliasHead.{AliasHead}
use Rattle.nts_model.specs.declared.labels.AliasHead.TheVariants as alias_of
use Rattle.nts_model.specs.declared.labels.Leaf.{Leaf}
use Rattle.nts_model.specs.declared.labels.Leaf.TheVariants as leaf
use Rattle.nts_model.specs.declared.labels.Label.{Label}
use Rattle.nts_model.specs.declared.labels.Label.TheVariants as label
use Rattle.nts_model.specs.Terms.Trees.{Tree, empty, more, node, label_of, row_at, row_push, IsRow, kind_of, kind_of_label, of_sort, binders, sort_of_leaf, IsClosedUnder, IsClosed, infer_of, variable_of}
use Rattle.nts_model.specs.Terms.Scoping.{listed_by, listed_in, sorts_of, HasSortAt, IsListed, AllListed, ListsBound, IsWellBound}
use Rattle.nts_model.specs.Terms.Patching.{IsNoList, IsPatch, IsPatched, patched, in_end, in_row, in_node, in_leaf}
use Rattle.nts_model.specs.Tables.Contents.{Content}
use Rattle.nts_model.specs.Tables.Resolving.{IsInfer, number_of, replaced, replaced_at, under, rooted}
use Rattle.nts_model.specs.Terms.Substitutions.{leaf_tree, put, replace, filled, filled_under, position_of, value_or}
use Rattle.nts_model.specs.Tables.Worlds.{World, placed, inst}
use Rattle.nts_model.specs.Derivations.Related.{IsAlias, alias}
use Rattle.nts_model.specs.Derivations.Rules.{opened_at, opened, Replaced, chosen, kept_empty, kept_more, kept_node}
use Rattle.nts_model.specs.Canonical.Numbered.{position, number, seen, numbered_leaf, numbered}
use Rattle.nts_model.proofs.Terms.Substituting.{closed_under_more}

-- a list of more sorts
all_listed_more : (ss ts : Tree) → ((n : ℕ) (s : Sort) → HasSortAt ss n s → HasSortAt ts n s) → (d : ℕ) (t : Tree) → AllListed ss d t → AllListed ts d t
all_listed_more ss ts f d empty h = tt
all_listed_more ss ts f d (more a b) h = (all_listed_more ss ts f d a h.0, all_listed_more ss ts f d b h.1)
all_listed_more ss ts f d (node l c) h = (at_label l h.0, all_listed_more ss ts f (d + binders l) c h.1)
  where
    at_label : (l : Label) → IsListed ss d l → IsListed ts d l
    at_label (label.Bound s (index.Bound e) n) k = λ q. f n s (k q)
    at_label (label.Bound s index.Canonical n) k = tt
    at_label (label.Leaf x) k = tt
    at_label (label.Ty x) k = tt
    at_label (label.Const x) k = tt
    at_label (label.Clause x) k = tt
    at_label (label.Predicate x) k = tt
    at_label (label.List x) k = tt

-- a binder around a tree from which no bound variable escapes binds nothing there
pub closed_listed : (ss : Tree) (d : ℕ) (t : Tree) → IsClosedUnder d t → AllListed ss d t
closed_listed ss d empty h = tt
closed_listed ss d (more a b) h = (closed_listed ss d a h.0, closed_listed ss d b h.1)
closed_listed ss d (node (label.Bound s (index.Bound e) n) c) h = ((λ q. (let below = h.0 in absurd (omega (arith, below, q)))), closed_listed ss (d + 0) c h.1)
closed_listed ss d (node (label.Bound s index.Canonical n) c) h = (tt, closed_listed ss (d + 0) c h.1)
closed_listed ss d (node (label.Leaf x) c) h = (tt, closed_listed ss (d + 0) c h.1)
closed_listed ss d (node (label.Ty x) c) h = (tt, closed_listed ss (d + binders (label.Ty x)) c h.1)
closed_listed ss d (node (label.Const x) c) h = (tt, closed_listed ss (d + 0) c h.1)
closed_listed ss d (node (label.Clause x) c) h = (tt, closed_listed ss (d + 0) c h.1)
closed_listed ss d (node (label.Predicate x) c) h = (tt, closed_listed ss (d + 0) c h.1)
closed_listed ss d (node (label.List x) c) h = (tt, closed_listed ss (d + binders (label.List x)) c h.1)

-- what was listed is listed
pub listed_patched : (ss : Tree) (d : ℕ) (s t : Tree) → IsPatched s t → AllListed ss d s → AllListed ss d t
listed_patched ss d s t (patched n p) h = closed_listed ss d t (closed_under_more 0 d t (omega arith) p.0)
listed_patched ss d s t in_end h = tt
listed_patched ss d s t (in_row {a = a} {b = b} {s = x} {t = y} p q) h = (listed_patched ss d a b p h.0, listed_patched ss d x y q h.1)
listed_patched ss d s t (in_node {l = l} {c = c} {d = e} p) h = (h.0, listed_patched ss (d + binders l) c e p h.1)
listed_patched ss d s t (in_leaf {c = c} {d = e} p) h = (tt, listed_patched ss (d + 0) c e p h.1)

-- a list keeps its sorts
is_no_list : (l : Label) (h : ListHead) → Some l ≡ Some (label.List h) → IsNoList l → ⊥
is_no_list (label.List x) h e n = n
is_no_list l h e n = cc e

none_label : (h : ListHead) → None ≡ Some (label.List h) → ⊥
none_label h e = cc e

leaf_label : (x : Leaf) (h : ListHead) → Some (label.Leaf x) ≡ Some (label.List h) → ⊥
leaf_label x h e = cc e

label_patched : (h : ListHead) (s t : Tree) → IsPatched s t → label_of s ≡ Some (label.List h) → label_of t ≡ Some (label.List h)
label_patched h s t (patched {l = l} n p) e = absurd (is_no_list l h e n)
label_patched h s t in_end e = e
label_patched h s t (in_row p q) e = absurd (none_label h e)
label_patched h s t (in_node p) e = e
label_patched h s t (in_leaf {x = x} p) e = absurd (leaf_label x h e)

row_patched : (h : ListHead) (n : ℕ) (s t : Tree) → IsPatched s t → label_of (row_at s n) ≡ Some (label.List h) → label_of (row_at t n) ≡ Some (label.List h)
row_patched h n s t (patched m p) e = absurd (none_label h e)
row_patched h n s t in_end e = e
row_patched h zero s t (in_row {a = a} {b = b} p q) e = label_patched h a b p e
row_patched h (suc n) s t (in_row {s = x} {t = y} p q) e = row_patched h n x y q e
row_patched h n s t (in_node p) e = e
row_patched h n s t (in_leaf p) e = e

sorts_patched_by : (l : Label) (c d : Tree) → IsPatched c d → (n : ℕ) (s : Sort) → HasSortAt (listed_by l c) n s → HasSortAt (listed_by l d) n s
sorts_patched_by (label.List list.Sorts) c d p n s h = row_patched (list.Sort s) n c d p h
sorts_patched_by l c d p n s h = h

no_list_sorts : (l : Label) (c : Tree) → IsNoList l → (n : ℕ) (s : Sort) → HasSortAt (listed_by l c) n s → ⊥
no_list_sorts (label.List x) c m n s h = m
no_list_sorts l c m n s h = none_label (list.Sort s) h

first_patched : (a b : Tree) → IsPatched a b → (n : ℕ) (s : Sort) → HasSortAt (listed_in a) n s → HasSortAt (listed_in b) n s
first_patched a b (patched {l = l} {c = c} m p) n s h = absurd (no_list_sorts l c m n s h)
first_patched a b in_end n s h = h
first_patched a b (in_row p q) n s h = h
first_patched a b (in_node {l = l} {c = c} {d = d} p) n s h = sorts_patched_by l c d p n s h
first_patched a b (in_leaf p) n s h = h

sorts_patched : (a b : Tree) → IsPatched a b → (n : ℕ) (s : Sort) → HasSortAt (sorts_of a) n s → HasSortAt (sorts_of b) n s
sorts_patched a b (patched m p) n s h = absurd (none_label (list.Sort s) h)
sorts_patched a b in_end n s h = h
sorts_patched a b (in_row {a = x} {b = y} p q) n s h = first_patched x y p n s h
sorts_patched a b (in_node p) n s h = h
sorts_patched a b (in_leaf p) n s h = h

-- binders list what they bind
pub lists_patched : (k : ℕ) (c d : Tree) → IsPatched c d → ListsBound k c → ListsBound k d
lists_patched zero c d p h = tt
lists_patched (suc k) c d p h = all_listed_more (sorts_of c) (sorts_of d) (sorts_patched c d p) 0 d (listed_patched (sorts_of c) 0 c d p h)

pub well_bound_patched : (s t : Tree) → IsPatched s t → IsWellBound s → IsWellBound t
well_bound_patched s t (patched m p) h = p.1
well_bound_patched s t in_end h = tt
well_bound_patched s t (in_row {a = a} {b = b} {s = x} {t = y} p q) h = (well_bound_patched a b p h.0, well_bound_patched x y q h.1)
well_bound_patched s t (in_node {l = l} {c = c} {d = d} p) h = (lists_patched (binders l) c d p h.0, well_bound_patched c d p h.1)
well_bound_patched s t (in_leaf {c = c} {d = d} p) h = (tt, well_bound_patched c d p h.1)

pub patched_itself : (t : Tree) → IsPatched t t
patched_itself empty = in_end
patched_itself (more a b) = in_row (patched_itself a) (patched_itself b)
patched_itself (node l c) = in_node (patched_itself c)

-- a leaf is such a tree
pub leaf_patch : (l : Leaf) → IsPatch (leaf_tree l)
leaf_patch l = ((tt, tt), (tt, tt))

-- values for variables
replaced_at_patched : (n : ℕ) (s : Tree) → IsPatch s → (x : Leaf) (c d : Tree) → IsPatched c d → (o : Option ℕ) → IsPatched (node (label.Leaf x) c) (replaced_at o n s (node (label.Leaf x) c) (node (label.Leaf x) d))
replaced_at_patched n s p x c d q None = in_node q
replaced_at_patched n s p x c d q (Some m) = by_case (m == n)
  where
    by_case : (z : Bool) → IsPatched (node (label.Leaf x) c) (if z then s else node (label.Leaf x) c)
    by_case true = patched tt p
    by_case false = patched_itself (node (label.Leaf x) c)

pub replaced_patched : (n : ℕ) (s t : Tree) → IsPatch s → IsPatched t (replaced n s t)
replaced_patched n s empty p = in_end
replaced_patched n s (more a b) p = in_row (replaced_patched n s a p) (replaced_patched n s b p)
replaced_patched n s (node (label.Leaf x) c) p = replaced_at_patched n s p x c (replaced n s c) (replaced_patched n s c p) (infer_of (label.Leaf x))
replaced_patched n s (node (label.Bound a b d) c) p = in_node (replaced_patched n s c p)
replaced_patched n s (node (label.Ty x) c) p = in_node (replaced_patched n s c p)
replaced_patched n s (node (label.Const x) c) p = in_node (replaced_patched n s c p)
replaced_patched n s (node (label.Clause x) c) p = in_node (replaced_patched n s c p)
replaced_patched n s (node (label.Predicate x) c) p = in_node (replaced_patched n s c p)
replaced_patched n s (node (label.List x) c) p = in_node (replaced_patched n s c p)

-- roots of regions
pub rooted_patched : (c : Content) (t : Tree) → IsPatched t (rooted c t)
rooted_patched c empty = in_end
rooted_patched c (more a b) = in_row (rooted_patched c a) (rooted_patched c b)
rooted_patched c (node (label.Leaf (leaf.Variable kind.Region n)) t) = in_leaf (rooted_patched c t)
rooted_patched c (node (label.Leaf (leaf.Variable kind.Ty n)) t) = in_node (rooted_patched c t)
rooted_patched c (node (label.Leaf (leaf.Variable kind.Int n)) t) = in_node (rooted_patched c t)
rooted_patched c (node (label.Leaf (leaf.Variable kind.Float n)) t) = in_node (rooted_patched c t)
rooted_patched c (node (label.Leaf (leaf.Variable kind.Const n)) t) = in_node (rooted_patched c t)
rooted_patched c (node (label.Leaf (leaf.Region x)) t) = in_node (rooted_patched c t)
rooted_patched c (node (label.Leaf (leaf.TyConstant x)) t) = in_node (rooted_patched c t)
rooted_patched c (node (label.Leaf (leaf.ConstConstant x)) t) = in_node (rooted_patched c t)
rooted_patched c (node (label.Bound a b d) t) = in_node (rooted_patched c t)
rooted_patched c (node (label.Ty x) t) = in_node (rooted_patched c t)
rooted_patched c (node (label.Const x) t) = in_node (rooted_patched c t)
rooted_patched c (node (label.Clause x) t) = in_node (rooted_patched c t)
rooted_patched c (node (label.Predicate x) t) = in_node (rooted_patched c t)
rooted_patched c (node (label.List x) t) = in_node (rooted_patched c t)

-- trees for leaves
pub put_patched : (f : Leaf → Tree) → ((l : Leaf) → IsPatch (f l)) → (l : Label) (c d : Tree) → IsPatched c d → IsPatched (node l c) (put f l d)
put_patched f p (label.Leaf x) c d q = patched tt (p x)
put_patched f p (label.Bound a b n) c d q = in_node q
put_patched f p (label.Ty x) c d q = in_node q
put_patched f p (label.Const x) c d q = in_node q
put_patched f p (label.Clause x) c d q = in_node q
put_patched f p (label.Predicate x) c d q = in_node q
put_patched f p (label.List x) c d q = in_node q

pub replace_patched : (f : Leaf → Tree) → ((l : Leaf) → IsPatch (f l)) → (t : Tree) → IsPatched t (replace f t)
replace_patched f p empty = in_end
replace_patched f p (more a b) = in_row (replace_patched f p a) (replace_patched f p b)
replace_patched f p (node l c) = put_patched f p l c (replace f c) (replace_patched f p c)

-- values for positions, and trees for leaves too
abbrev pub ArePatches : List Tree → Type 0
ArePatches vs = (i : ℕ) → IsPatch (get_or vs i empty)

pub no_patches : ArePatches []
no_patches i = (tt, tt)

pub more_patches : (t : Tree) (ts : List Tree) → IsPatch t → ArePatches ts → ArePatches (t ∷ ts)
more_patches t ts h p zero = h
more_patches t ts h p (suc i) = p i

pub leaf_patches : (ls : List Leaf) → ArePatches (map leaf_tree ls)
leaf_patches [] = no_patches
leaf_patches (l ∷ ls) = more_patches (leaf_tree l) (map leaf_tree ls) (leaf_patch l) (leaf_patches ls)

position_patched : (vs : List Tree) → ArePatches vs → (l : Label) (c d : Tree) → IsPatched (node l c) d → IsPatched (node l c) (value_or (position_of l) vs d)
position_patched vs p (label.Bound s index.Canonical n) c d q = patched tt (p n)
position_patched vs p (label.Bound s (index.Bound e) n) c d q = q
position_patched vs p (label.Leaf x) c d q = q
position_patched vs p (label.Ty x) c d q = q
position_patched vs p (label.Const x) c d q = q
position_patched vs p (label.Clause x) c d q = q
position_patched vs p (label.Predicate x) c d q = q
position_patched vs p (label.List x) c d q = q

pub filled_patched : (vs : List Tree) → ArePatches vs → (t : Tree) → IsPatched t (filled vs t)
filled_patched vs p empty = in_end
filled_patched vs p (more a b) = in_row (filled_patched vs p a) (filled_patched vs p b)
filled_patched vs p (node l c) = position_patched vs p l c (node l (filled vs c)) (in_node (filled_patched vs p c))

-- positions for leaves
pub numbered_leaf_patch : (stays : Leaf → Bool) (s : List Leaf) (x : Leaf) (z : Bool) → IsPatch (cond z (leaf_tree x) (position (sort_of_leaf x) (number s x)))
numbered_leaf_patch stays s x true = leaf_patch x
numbered_leaf_patch stays s x false = ((tt, tt), (tt, tt))

pub numbered_patched : (stays : Leaf → Bool) (s : List Leaf) (t : Tree) → IsPatched t (numbered stays s t)
numbered_patched stays s empty = in_end
numbered_patched stays s (more a b) = in_row (numbered_patched stays s a) (numbered_patched stays (seen stays s a) b)
numbered_patched stays s (node l c) =
    put_patched (numbered_leaf stays s) (λ x. numbered_leaf_patch stays s x (stays x)) l c (numbered stays s c) (numbered_patched stays s c)

-- values of variables, each under the older ones
pub closed_replaced_at : (b n : ℕ) (o : Option ℕ) (s : Tree) (l : Label) (t x : Tree) → IsClosed s → IsClosedUnder b (node l t) → IsClosedUnder (b + binders l) x → IsClosedUnder b (replaced_at o n s (node l t) (node l x))
closed_replaced_at b n None s l t x h k q = (k.0, q)
closed_replaced_at b n (Some m) s l t x h k q = by_case (m == n)
  where
    by_case : (z : Bool) → IsClosedUnder b (if z then s else node l t)
    by_case true = closed_under_more 0 b s (omega arith) h
    by_case false = k

pub closed_replaced : (b n : ℕ) (s t : Tree) → IsClosed s → IsClosedUnder b t → IsClosedUnder b (replaced n s t)
closed_replaced b n s empty h k = tt
closed_replaced b n s (more x y) h k = (closed_replaced b n s x h k.0, closed_replaced b n s y h k.1)
closed_replaced b n s (node l t) h k = closed_replaced_at b n (infer_of l) s l t (replaced n s t) h k (closed_replaced (b + binders l) n s t h k.1)

pub patch_under : (val : ℕ → Tree) → ((n : ℕ) → IsPatch (val n)) → (ns : List ℕ) (t : Tree) → IsPatch t → IsPatch (under val ns t)
patch_under val p [] t h = h
patch_under val p (n ∷ ns) t h =
    let v = patch_under val p ns (val n) (p n) in
    let u = patch_under val p ns t h in
    (closed_replaced 0 n (under val ns (val n)) (under val ns t) v.0 u.0, well_bound_patched (under val ns t) (replaced n (under val ns (val n)) (under val ns t)) (replaced_patched n (under val ns (val n)) (under val ns t) v) u.1)

-- a tree in place of a variable, or of another term
pub infer_patched : (t v : Tree) → IsInfer t → IsPatch v → IsPatched t v
infer_patched empty v i p = absurd i
infer_patched (more a b) v i p = absurd i
infer_patched (node l c) v i p = patched (no_list l i.0 i.1) p
  where
    no_list : (l : Label) (n : ℕ) → infer_of l ≡ Some n → IsNoList l
    no_list (label.List h) n e = cc e
    no_list l n e = tt

pub term_patched : (s : Sort) (t v : Tree) → kind_of t ≡ Some (of_sort s) → IsPatch v → IsPatched t v
term_patched s empty v e p = absurd (cc e)
term_patched s (more a b) v e p = absurd (cc e)
term_patched s (node l c) v e p = patched (no_list l e) p
  where
    no_list : (l : Label) → Some (kind_of_label l) ≡ Some (of_sort s) → IsNoList l
    no_list (label.List list.Args) e = cc e
    no_list (label.List list.Env) e = cc e
    no_list (label.List list.Sorts) e = cc e
    no_list (label.List (list.Sort z)) e = cc e
    no_list (label.List list.Binder) e = cc e
    no_list l e = tt

-- one more element of a row
pub push_patched : (s t a b : Tree) → IsRow s → IsPatched s t → IsPatched a b → IsPatched (row_push s a) (row_push t b)
push_patched s t a b r (patched m p) q = absurd r
push_patched s t a b r in_end q = in_row q in_end
push_patched s t a b r (in_row {s = x} {t = y} p z) q = in_row p (push_patched x y a b r z q)
push_patched s t a b r (in_node p) q = absurd r
push_patched s t a b r (in_leaf p) q = absurd r
