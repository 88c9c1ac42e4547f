-- Terms of clauses: where leaves are replaced, nothing changes in them but the values of their variables.
use Rattle.std.proofs.Common.{◌≡◌, inl, inr, ℕ, zero, suc, ◌||◌, Bool, true, false, List, [], ◌∷◌, map, get_or, Option, Some, None, refl, sym, ap, ◌∙◌}
use Rattle.nts_model.specs.declared.labels.Sort.{Sort}
use Rattle.nts_model.specs.declared.labels.FreeRegion.{FreeRegion}
use Rattle.nts_model.specs.declared.labels.FreeRegion.TheVariants as region
use Rattle.nts_model.specs.declared.labels.Leaf.{Leaf}
use Rattle.nts_model.specs.declared.labels.Leaf.TheVariants as leaf
use Rattle.nts_model.specs.declared.labels.BoundVarIndexKind.TheVariants as index
use Rattle.nts_model.specs.declared.labels.Label.{Label}
use Rattle.nts_model.specs.declared.labels.Label.TheVariants as label
use Rattle.nts_model.specs.Terms.Trees.{Tree, empty, more, node, any_label, is_canonical, row_length, IsRow, IsFormed}
use Rattle.nts_model.specs.Terms.Substitutions.{leaf_tree, put, replace, Occurs, StaysItself, filled, filled_under, position_of, value_or}
use Rattle.nts_model.specs.Derivations.Handlers.{NamesFresh, IsFixed}
use Rattle.nts_model.proofs.Terms.Substituting.{leaf_alone}
use Rattle.nts_candidates.specs.Foreign.{is_foreign_region, is_foreign_leaf}
use Rattle.nts_delegate.specs.Clauses.{is_foreign}

pub both_false : (p q : Bool) → (p || q) ≡ false → (p ≡ false) × (q ≡ false)
both_false true q h = cc
both_false false q h = (refl, h)

fixed_region : (r : FreeRegion) → is_foreign_region r ≡ false → StaysItself r
fixed_region region.Static h = tt
fixed_region region.Erased h = tt
fixed_region region.Error h = tt
fixed_region r h = cc

fixed_leaf : (l : Leaf) → is_foreign_leaf l ≡ false → IsFixed l
fixed_leaf (leaf.Region r) h = fixed_region r h
fixed_leaf l h = cc

-- a map of leaves keeps the regions that stay themselves
abbrev pub KeepsFixed : (Leaf → Tree) → Type 0
KeepsFixed f = (r : FreeRegion) → StaysItself r → f (leaf.Region r) ≡ leaf_tree (leaf.Region r)

kept_leaf : (f : Leaf → Tree) → KeepsFixed f → (l : Leaf) → is_foreign_leaf l ≡ false → f l ≡ leaf_tree l
kept_leaf f k (leaf.Region r) h = k r (fixed_region r h)
kept_leaf f k l h = cc

-- a term of a clause stays
own_put : (f : Leaf → Tree) → KeepsFixed f → (l : Label) (c d : Tree) → is_foreign l ≡ false → IsFormed (node l c) → d ≡ c → put f l d ≡ node l c
own_put f k (label.Leaf x) c d h w e = kept_leaf f k x h ∙ sym (ap (node (label.Leaf x)) (leaf_alone x c w))
own_put f k l c d h w e = ap (node l) e

pub own_replace : (f : Leaf → Tree) → KeepsFixed f → (t : Tree) → any_label is_foreign t ≡ false → IsFormed t → replace f t ≡ t
own_replace f k empty h w = refl
own_replace f k (more a b) h w =
    let s = both_false (any_label is_foreign a) (any_label is_foreign b) h in
    cc (own_replace f k a s.0 w.0, own_replace f k b s.1 w.1)
own_replace f k (node l c) h w =
    let s = both_false (is_foreign l) (any_label is_foreign c) h in
    own_put f k l c (replace f c) s.0 w (own_replace f k c s.1 w.1)

-- .. also where values are put in
own_put_filled : (f : Leaf → Tree) → KeepsFixed f → (vs : List Tree) (l : Label) (c d : Tree) → is_foreign l ≡ false → IsFormed (node l c) → d ≡ filled vs c → put f l d ≡ node l (filled vs c)
own_put_filled f k vs (label.Leaf x) c d h w e =
    kept_leaf f k x h ∙ sym (ap (λ y. node (label.Leaf x) (filled vs y)) (leaf_alone x c w))
own_put_filled f k vs l c d h w e = ap (node l) e

pub own_filled_under : (f : Leaf → Tree) → KeepsFixed f → (vs : List Tree) (t : Tree) → any_label is_foreign t ≡ false → IsFormed t → filled_under f vs t ≡ filled vs t
own_filled_under f k vs empty h w = refl
own_filled_under f k vs (more a b) h w =
    let s = both_false (any_label is_foreign a) (any_label is_foreign b) h in
    cc (own_filled_under f k vs a s.0 w.0, own_filled_under f k vs b s.1 w.1)
own_filled_under f k vs (node l c) h w =
    let s = both_false (is_foreign l) (any_label is_foreign c) h in
    ap (value_or (position_of l) vs) (own_put_filled f k vs l c (filled_under f vs c) s.0 w (own_filled_under f k vs c s.1 w.1))

-- values that are replaced
pub value_replaced : (f : Leaf → Tree) (vs : List Tree) (i : ℕ) → replace f (get_or vs i empty) ≡ get_or (map (replace f) vs) i empty
value_replaced f [] i = refl
value_replaced f (v ∷ vs) zero = refl
value_replaced f (v ∷ vs) (suc i) = value_replaced f vs i

replaced_value : (f : Leaf → Tree) (o : Option ℕ) (vs : List Tree) (t u : Tree) → replace f t ≡ u → replace f (value_or o vs t) ≡ value_or o (map (replace f) vs) u
replaced_value f None vs t u e = e
replaced_value f (Some i) vs t u e = value_replaced f vs i

pub own_replace_filled : (f : Leaf → Tree) → KeepsFixed f → (vs : List Tree) (t : Tree) → any_label is_foreign t ≡ false → IsFormed t → replace f (filled vs t) ≡ filled (map (replace f) vs) t
own_replace_filled f k vs empty h w = refl
own_replace_filled f k vs (more a b) h w =
    let s = both_false (any_label is_foreign a) (any_label is_foreign b) h in
    cc (own_replace_filled f k vs a s.0 w.0, own_replace_filled f k vs b s.1 w.1)
own_replace_filled f k vs (node l c) h w =
    let s = both_false (is_foreign l) (any_label is_foreign c) h in
    replaced_value f (position_of l) vs (node l (filled vs c)) (node l (filled (map (replace f) vs) c)) (own_put_filled f k (map (replace f) vs) l c (replace f (filled vs c)) s.0 w (own_replace_filled f k vs c s.1 w.1))

-- a term without positions
pub no_position : (l : Label) → is_canonical l ≡ false → position_of l ≡ None
no_position (label.Bound s index.Canonical i) h = cc
no_position l h = refl

pub filled_nowhere : (f : Leaf → Tree) (vs : List Tree) (t : Tree) → any_label is_canonical t ≡ false → filled_under f vs t ≡ replace f t
filled_nowhere f vs empty h = refl
filled_nowhere f vs (more a b) h =
    let s = both_false (any_label is_canonical a) (any_label is_canonical b) h in
    cc (filled_nowhere f vs a s.0, filled_nowhere f vs b s.1)
filled_nowhere f vs (node l c) h =
    let s = both_false (is_canonical l) (any_label is_canonical c) h in
    ap (λ o. value_or o vs (put f l (filled_under f vs c))) (no_position l s.0) ∙ ap (put f l) (filled_nowhere f vs c s.1)

pub names_nothing : (fresh : List Sort) (t : Tree) → any_label is_canonical t ≡ false → NamesFresh fresh t
names_nothing fresh empty h = tt
names_nothing fresh (more a b) h =
    let s = both_false (any_label is_canonical a) (any_label is_canonical b) h in
    (names_nothing fresh a s.0, names_nothing fresh b s.1)
names_nothing fresh (node l c) h =
    let s = both_false (is_canonical l) (any_label is_canonical c) h in
    (rw (no_position l s.0) tt, names_nothing fresh c s.1)

-- its leaves
pub leaves_fixed : (t : Tree) → any_label is_foreign t ≡ false → (l : Leaf) → Occurs l t → IsFixed l
leaves_fixed empty h l o = absurd o
leaves_fixed (more a b) h l (inl o) = leaves_fixed a (both_false (any_label is_foreign a) (any_label is_foreign b) h).0 l o
leaves_fixed (more a b) h l (inr o) = leaves_fixed b (both_false (any_label is_foreign a) (any_label is_foreign b) h).1 l o
leaves_fixed (node k c) h l (inl e) = fixed_leaf l (ap is_foreign e ∙ (both_false (is_foreign k) (any_label is_foreign c) h).0)
leaves_fixed (node k c) h l (inr o) = leaves_fixed c (both_false (is_foreign k) (any_label is_foreign c) h).1 l o

-- lists of arguments
pub IsRow-replace : (f : Leaf → Tree) (t : Tree) → IsRow t → IsRow (replace f t)
IsRow-replace f empty h = tt
IsRow-replace f (more a b) h = IsRow-replace f b h
IsRow-replace f (node l c) h = absurd h

pub row_length-replace : (f : Leaf → Tree) (t : Tree) → IsRow t → row_length (replace f t) ≡ row_length t
row_length-replace f empty h = refl
row_length-replace f (more a b) h = cc (row_length-replace f b h)
row_length-replace f (node l c) h = absurd h
