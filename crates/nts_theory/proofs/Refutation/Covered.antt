-- What stands in a candidate, with values for its positions and trees for its leaves: formed, and carried over to other names.
use Rattle.std.proofs.Common.{◌≡◌, ℕ, zero, suc, Option, None, Some, List, [], ◌∷◌, map, get_or, slice_get, refl, sym, ap, subst, ◌∙◌}
use Rattle.nts_model.specs.declared.labels.Sort.{Sort}
use Rattle.nts_model.specs.declared.labels.Sort.TheVariants as sort
use Rattle.nts_model.specs.declared.labels.Leaf.{Leaf}
use Rattle.nts_model.specs.declared.labels.Label.{Label}
use Rattle.nts_model.specs.declared.labels.Label.TheVariants as label
use Rattle.nts_model.specs.Terms.Trees.{Tree, empty, more, node, NodeKind, of_sort, kind_of, kind_of_label, Place, FitsPlace, HavePlaces, AllFit, Shape, in_order, each, shape, Meets, IsFormed}
use Rattle.nts_model.specs.Terms.Substitutions.{leaf_tree, put, replace, position_of, value_or, filled_under, Instance, instance_of, Renaming, rename}
use Rattle.nts_model.specs.Derivations.Handlers.{IsOfSort, NamesAt, NamesFresh, IsValueOfSort, AreValuesOf}
use Rattle.nts_model.specs.Refutation.Containing.{IsAliasFree}
use Rattle.nts_theory.specs.Refutation.Refutation.{IsCarrying, Carrier, unmoved, moves, carry}
use Rattle.nts_model.proofs.Canonical.Positioned.{get_or-map}
use Rattle.nts_model.proofs.Tables.AliasLabels.{region_kind}
use Rattle.nts_model.proofs.Terms.Composing.{after, instance_of-after, instance_kinds}
use Rattle.nts_model.proofs.Terms.Substituting.{KeepsKinds}
use Rattle.nts_theory.proofs.Derivations.ByCandidate.{AreValuesOf-instance}
use Rattle.nts_theory.proofs.Refutation.Carriers.{back_to, back_carrying, instance_by}
use Rattle.nts_theory.proofs.Refutation.PlainTerms.{free_renamed}
use Rattle.nts_theory.proofs.Refutation.Theories.{back_again, forth_again}

value_kind : (s : Sort) (v : Tree) → IsValueOfSort s v → kind_of v ≡ Some (of_sort s)
value_kind sort.Ty v x = x.fits
value_kind sort.Const v x = x.fits
value_kind sort.Region v x = region_kind v x.fits

-- the value at a position that is named
value_at : (ss : List Sort) (vs : List Tree) (i : ℕ) (k : NodeKind) → AreValuesOf ss vs → IsOfSort (slice_get ss i) k → (kind_of (get_or vs i empty) ≡ Some k) × IsFormed (get_or vs i empty)
value_at [] vs i k a n = absurd n
value_at (s ∷ ss) [] i k a n = absurd a
value_at (s ∷ ss) (v ∷ vs) zero k a n = (let x = a.0 in (value_kind s v x ∙ ap Some (sym n), x.formed))
value_at (s ∷ ss) (v ∷ vs) (suc i) k a n = value_at ss vs i k a.1 n

module _ (f : Leaf → Tree) (keeps : KeepsKinds f) (formed : (l : Leaf) → IsFormed (f l)) (ss : List Sort) (vs : List Tree) (are : AreValuesOf ss vs) where
  put_kind : (l : Label) (c : Tree) → kind_of (put f l c) ≡ Some (kind_of_label l)
  put_kind (label.Leaf x) c = keeps x
  put_kind (label.Bound a b n) c = refl
  put_kind (label.Ty x) c = refl
  put_kind (label.Const x) c = refl
  put_kind (label.Clause x) c = refl
  put_kind (label.Predicate x) c = refl
  put_kind (label.List x) c = refl

  at_kind : (o : Option ℕ) (l : Label) (t : Tree) → kind_of t ≡ Some (kind_of_label l) → NamesAt ss o l → kind_of (value_or o vs t) ≡ Some (kind_of_label l)
  at_kind None l t k n = k
  at_kind (Some i) l t k n = (value_at ss vs i (kind_of_label l) are n).0

  filled_kind : (t : Tree) → NamesFresh ss t → kind_of (filled_under f vs t) ≡ kind_of t
  filled_kind empty n = refl
  filled_kind (more a b) n = refl
  filled_kind (node l c) n = at_kind (position_of l) l (put f l (filled_under f vs c)) (put_kind l (filled_under f vs c)) n.0

  filled_places : (ps : List Place) (t : Tree) → NamesFresh ss t → HavePlaces ps t → HavePlaces ps (filled_under f vs t)
  filled_places [] empty n h = tt
  filled_places [] (more a b) n h = absurd h
  filled_places [] (node l c) n h = absurd h
  filled_places (p ∷ ps) empty n h = absurd h
  filled_places (p ∷ ps) (more a b) n h = (subst (FitsPlace p) (sym (filled_kind a n.0)) h.0, filled_places ps b n.1 h.1)
  filled_places (p ∷ ps) (node l c) n h = absurd h

  filled_fits : (p : Place) (t : Tree) → NamesFresh ss t → AllFit p t → AllFit p (filled_under f vs t)
  filled_fits p empty n h = tt
  filled_fits p (more a b) n h = (subst (FitsPlace p) (sym (filled_kind a n.0)) h.0, filled_fits p b n.1 h.1)
  filled_fits p (node l c) n h = absurd h

  filled_meets : (s : Shape) (t : Tree) → NamesFresh ss t → Meets s t → Meets s (filled_under f vs t)
  filled_meets (in_order ps) t n h = filled_places ps t n h
  filled_meets (each p) t n h = filled_fits p t n h

  put_formed : (l : Label) (c : Tree) → Meets (shape l) c → IsFormed c → IsFormed (put f l c)
  put_formed (label.Leaf x) c h i = formed x
  put_formed (label.Bound a b n) c h i = (h, i)
  put_formed (label.Ty x) c h i = (h, i)
  put_formed (label.Const x) c h i = (h, i)
  put_formed (label.Clause x) c h i = (h, i)
  put_formed (label.Predicate x) c h i = (h, i)
  put_formed (label.List x) c h i = (h, i)

  at_formed : (o : Option ℕ) (l : Label) (t : Tree) → IsFormed t → NamesAt ss o l → IsFormed (value_or o vs t)
  at_formed None l t h n = h
  at_formed (Some i) l t h n = (value_at ss vs i (kind_of_label l) are n).1

  pub filled_formed : (t : Tree) → NamesFresh ss t → IsFormed t → IsFormed (filled_under f vs t)
  filled_formed empty n h = tt
  filled_formed (more a b) n h = (filled_formed a n.0 h.0, filled_formed b n.1 h.1)
  filled_formed (node l c) n h =
      let inside = filled_formed c n.1 h.1 in
      at_formed (position_of l) l (put f l (filled_under f vs c)) (put_formed l (filled_under f vs c) (filled_meets (shape l) c n.1 h.0) inside) n.0

-- trees in place of leaves are put in before or after
put_moved : (h f g : Leaf → Tree) → ((l : Leaf) → replace h (f l) ≡ g l) → (l : Label) (c d : Tree) → replace h c ≡ d → replace h (put f l c) ≡ put g l d
put_moved h f g k (label.Leaf x) c d e = k x
put_moved h f g k (label.Bound a b n) c d e = ap (node (label.Bound a b n)) e
put_moved h f g k (label.Ty x) c d e = ap (node (label.Ty x)) e
put_moved h f g k (label.Const x) c d e = ap (node (label.Const x)) e
put_moved h f g k (label.Clause x) c d e = ap (node (label.Clause x)) e
put_moved h f g k (label.Predicate x) c d e = ap (node (label.Predicate x)) e
put_moved h f g k (label.List x) c d e = ap (node (label.List x)) e

at_moved : (h : Leaf → Tree) (vs : List Tree) (o : Option ℕ) (t u : Tree) → replace h t ≡ u → replace h (value_or o vs t) ≡ value_or o (map (replace h) vs) u
at_moved h vs None t u e = e
at_moved h vs (Some i) t u e = sym (get_or-map (replace h) refl vs i)

filled_moved : (h f g : Leaf → Tree) → ((l : Leaf) → replace h (f l) ≡ g l) → (vs : List Tree) (t : Tree) → replace h (filled_under f vs t) ≡ filled_under g (map (replace h) vs) t
filled_moved h f g k vs empty = refl
filled_moved h f g k vs (more a b) = cc (filled_moved h f g k vs a, filled_moved h f g k vs b)
filled_moved h f g k vs (node l c) = at_moved h vs (position_of l) (put f l (filled_under f vs c)) (put g l (filled_under g (map (replace h) vs) c)) (put_moved h f g k l (filled_under f vs c) (filled_under g (map (replace h) vs) c) (filled_moved h f g k vs c))

-- the instance before the names were changed
abbrev pub origin : Carrier → Instance → Instance
origin unmoved ι = ι
origin (moves ρ k) ι = after (instance_by (back_to ρ) (back_carrying ρ k)) ι

origin_value : (ρ : Renaming) (k : IsCarrying ρ) (ι : Instance) (l : Leaf) → (origin (moves ρ k) ι).value l ≡ rename (back_to ρ) (ι.value l)
origin_value ρ k ι l = instance_of-after (instance_by (back_to ρ) (back_carrying ρ k)) ι (leaf_tree l)

pub before_carried : (c : Carrier) (ι : Instance) (t u : Tree) → IsFormed t → carry c t ≡ instance_of ι u → t ≡ instance_of (origin c ι) u
before_carried unmoved ι t u f e = e
before_carried (moves ρ k) ι t u f e = sym (back_again ρ t f) ∙ ap (rename (back_to ρ)) e ∙ sym (instance_of-after (instance_by (back_to ρ) (back_carrying ρ k)) ι u)

map_itself : (vs : List Tree) → map (λ v. v) vs ≡ vs
map_itself [] = refl
map_itself (v ∷ vs) = ap (λ z. v ∷ z) (map_itself vs)

pub carried_filled : (c : Carrier) (ι : Instance) (vs : List Tree) (t : Tree) → carry c (filled_under (origin c ι).value vs t) ≡ filled_under ι.value (map (carry c) vs) t
carried_filled unmoved ι vs t = ap (λ z. filled_under ι.value z t) (sym (map_itself vs))
carried_filled (moves ρ k) ι vs t =
    filled_moved (λ l. leaf_tree (ρ.to l)) (origin (moves ρ k) ι).value ι.value (λ l. ap (rename ρ) (origin_value ρ k ι l) ∙ forth_again ρ (ι.value l) (ι.formed l)) vs t

pub carried_values : (c : Carrier) (ss : List Sort) (vs : List Tree) → AreValuesOf ss vs → AreValuesOf ss (map (carry c) vs)
carried_values unmoved ss vs h = subst (AreValuesOf ss) (sym (map_itself vs)) h
carried_values (moves ρ k) ss vs h = AreValuesOf-instance (instance_by ρ k) ss vs h

pub carried_free : (c : Carrier) (t : Tree) → IsAliasFree t → IsAliasFree (carry c t)
carried_free unmoved t h = h
carried_free (moves ρ k) t h = free_renamed ρ t h

pub origin_free : (c : Carrier) (ι : Instance) (l : Leaf) → IsAliasFree (ι.value l) → IsAliasFree ((origin c ι).value l)
origin_free unmoved ι l h = h
origin_free (moves ρ k) ι l h = subst IsAliasFree (sym (origin_value ρ k ι l)) (free_renamed (back_to ρ) (ι.value l) h)

pub origin_kinds : (c : Carrier) (ι : Instance) → KeepsKinds (origin c ι).value
origin_kinds c ι = instance_kinds (origin c ι)
