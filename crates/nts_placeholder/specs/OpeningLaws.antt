-- What a walk that opens bound variables asks and keeps.
use Rattle.std.proofs.Common.{◌≡◌, ℕ, ◌+◌, nat_lt, Bool, true, false, if◌then◌else◌, List, length, Option, Some, refl, ap}
use Rattle.nts_model.specs.declared.labels.Sort.{Sort}
use Rattle.nts_model.specs.declared.labels.Sort.TheVariants as sort
use Rattle.nts_model.specs.declared.labels.BoundVarIndexKind.TheVariants as index
use Rattle.nts_model.specs.declared.labels.Label.{Label}
use Rattle.nts_model.specs.declared.labels.Label.TheVariants as label
use Rattle.nts_model.specs.Terms.Trees.{Tree, empty, more, node, kind_of, kind_of_label, of_sort, IsClosedUnder}
use Rattle.nts_placeholder.specs.declared.maps.Placeholder.{Placeholder}
use Rattle.nts_placeholder.specs.Opening.{placeholder_label, opened_label, opened_by, universe_at}

-- no level passes the binders around and the list
abbrev pub CanOpen : List (Option ℕ) → ℕ → Tree → Type 0
CanOpen U c t = IsClosedUnder (length U + c) t

pub opened_by-empty : (U : List (Option ℕ)) (c : ℕ) → opened_by U c empty ≡ empty
opened_by-empty U c = refl

pub opened_by-more : (U : List (Option ℕ)) (c : ℕ) (a b : Tree) → opened_by U c (more a b) ≡ more (opened_by U c a) (opened_by U c b)
opened_by-more U c a b = refl

pub CanOpen-more : (U : List (Option ℕ)) (c : ℕ) (a b : Tree) → CanOpen U c (more a b) → CanOpen U c a × CanOpen U c b
CanOpen-more U c a b h = h

placeholder-kind : (s : Sort) (p : Placeholder) → kind_of_label (placeholder_label s p) ≡ of_sort s
placeholder-kind sort.Ty p = refl
placeholder-kind sort.Region p = refl
placeholder-kind sort.Const p = refl

opened-kind : (s : Sort) (d n : ℕ) (p : Placeholder) (b : Bool) → kind_of_label (if b then label.Bound s (index.Bound d) n else placeholder_label s p) ≡ of_sort s
opened-kind s d n p true = refl
opened-kind s d n p false = placeholder-kind s p

pub opened_label-kind : (U : List (Option ℕ)) (c : ℕ) (l : Label) → kind_of_label (opened_label U c l) ≡ kind_of_label l
opened_label-kind U c (label.Bound s (index.Bound d) n) = opened-kind s d n (record { universe = universe_at U _; var = n }) (nat_lt d c)
opened_label-kind U c (label.Bound s index.Canonical n) = refl
opened_label-kind U c (label.Leaf x) = refl
opened_label-kind U c (label.Ty h) = refl
opened_label-kind U c (label.Const h) = refl
opened_label-kind U c (label.Clause h) = refl
opened_label-kind U c (label.Predicate h) = refl
opened_label-kind U c (label.List h) = refl

pub opened_by-same_kind : (U : List (Option ℕ)) (c : ℕ) (t : Tree) → kind_of (opened_by U c t) ≡ kind_of t
opened_by-same_kind U c empty = refl
opened_by-same_kind U c (more a b) = refl
opened_by-same_kind U c (node l t) = ap Some (opened_label-kind U c l)

pub opened_by-kind : (U : List (Option ℕ)) (c : ℕ) (t : Tree) → CanOpen U c t → kind_of (opened_by U c t) ≡ kind_of t
opened_by-kind U c t h = opened_by-same_kind U c t
