-- Sorts of trees, which kinds of variables they fit, and the ranks of trees that are variables.
use Rattle.nts_unify.proofs.Changes.{some_inj}
use Rattle.std.proofs.Common.{◌≡◌, ◌≢◌, ℕ, ◌≤◌, ◌<◌, Some, None, refl, sym, ap, ◌∙◌, arith}
use Rattle.nts_model.specs.declared.labels.Sort.TheVariants as sort
use Rattle.nts_model.specs.declared.labels.VariableKind.{VariableKind}
use Rattle.nts_model.specs.declared.labels.VariableKind.TheVariants as kind
use Rattle.nts_model.specs.declared.labels.Label.{Label}
use Rattle.nts_model.specs.Terms.Trees.{Tree, empty, more, node, NodeKind, of_sort, sort_of_variable, kind_of, row_push, IsRow}
use Rattle.nts_model.specs.Terms.Fitting.{Fits}
use Rattle.nts_model.specs.Tables.Resolving.{IsInfer, variable_rank, rank_of_kind}
use Rattle.nts_relating.specs.Relating.{IsLike}
use Rattle.nts_model.proofs.Tables.Fitting.{Fits-kind_of}
use Rattle.nts_model.proofs.Tables.Resolved.{rank_none}
use Rattle.nts_unify.proofs.NodeLemmas.{region_sort}

pub zero_le : (a b : ℕ) → a ≡ 0 → a ≤ b
zero_le a b e = omega (arith, e)

-- a variable that is no region has a rank
pub infer_ranked : {A : Type 0} (t : Tree) → IsInfer t → variable_rank t ≡ 0 → A
infer_ranked t i e = absurd (rank_none t e i)

pub rank_positive : (k : VariableKind) → k ≢ kind.Region → 0 < rank_of_kind k
rank_positive kind.Ty n = omega arith
rank_positive kind.Int n = omega arith
rank_positive kind.Float n = omega arith
rank_positive kind.Const n = omega arith
rank_positive kind.Region n = absurd (n refl)

-- trees of the same sorts
pub kind_of-like : (r t : Tree) → IsLike r t → kind_of r ≡ kind_of t
kind_of-like empty empty h = refl
kind_of-like empty (more a b) h = absurd h
kind_of-like empty (node l c) h = absurd h
kind_of-like (more a b) empty h = absurd h
kind_of-like (more a b) (more c d) h = refl
kind_of-like (more a b) (node l c) h = absurd h
kind_of-like (node l c) empty h = absurd h
kind_of-like (node l c) (more a b) h = absurd h
kind_of-like (node l c) (node m d) h = ap Some h

pub like_of-kinds : (r t : Tree) (k : NodeKind) → kind_of r ≡ Some k → kind_of t ≡ Some k → IsLike r t
like_of-kinds empty t k h q = cc
like_of-kinds (more a b) t k h q = cc
like_of-kinds (node l c) empty k h q = cc
like_of-kinds (node l c) (more a b) k h q = cc
like_of-kinds (node l c) (node m d) k h q = some_inj _ _ (h ∙ sym q)

-- a region fits region variables alone, and a list fits none
pub region_unfit : {A : Type 0} (k : VariableKind) (t : Tree) → k ≢ kind.Region → kind_of t ≡ Some (of_sort sort.Region) → Fits k t → A
region_unfit k t n e f = absurd (region_sort k n (some_inj _ _ (sym (Fits-kind_of k t f) ∙ e)))

kind_of-row : (t : Tree) → IsRow t → kind_of t ≡ None
kind_of-row empty h = refl
kind_of-row (more a b) h = refl
kind_of-row (node l c) h = absurd h

pub row_unfit : {A : Type 0} (k : VariableKind) (t : Tree) → IsRow t → Fits k t → A
row_unfit k t r f = absurd (none (of_sort (sort_of_variable k)) (sym (kind_of-row t r) ∙ Fits-kind_of k t f))
  where
    none : (x : NodeKind) → None ≡ Some x → ⊥
    none x e = cc

-- what fits is told by the label
pub fits_node : (k : VariableKind) (l : Label) (a b : Tree) → k ≢ kind.Region → Fits k (node l a) → Fits k (node l b)
fits_node kind.Ty l a b n f = f
fits_node kind.Int l a b n f = f
fits_node kind.Float l a b n f = f
fits_node kind.Const l a b n f = f
fits_node kind.Region l a b n f = absurd (n refl)

pub rank-push : (r t : Tree) → IsRow r → variable_rank (row_push r t) ≡ 0
rank-push empty t h = refl
rank-push (more a b) t h = refl
rank-push (node l c) t h = absurd h
