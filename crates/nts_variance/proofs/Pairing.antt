-- The pairs of the parts of two nodes, as they are pushed one by one from the last.
use Rattle.std.proofs.Common.{◌≡◌, ℕ, ◌+◌, ◌<◌, List, [], ◌∷◌, ◌++◌, refl, sym, ap, ◌∙◌, subst}
use Rattle.nts_model.specs.declared.labels.Variance.{Variance}
use Rattle.nts_model.specs.Terms.Trees.{Tree, empty, more, row_at, row_length, IsRow, IsFormed}
use Rattle.nts_model.specs.Tables.Contents.{Content}
use Rattle.nts_model.specs.Tables.Resolving.{Knows}
use Rattle.nts_model.specs.Derivations.Related.{times, first_variance, rest_variances}
use Rattle.nts_variance_model.specs.Variances.Forms.{over, pairs_over}
use Rattle.nts_variance_model.specs.Variances.Relations.{Relating as Pair}
use Rattle.nts_model.proofs.Tables.Resolved.{Knows-row_at}
use Rattle.nts_store.specs.declared.nodes.NodeId.{NodeId}
use Rattle.nts_store.specs.Growth.{tree_at, IsIn}
use Rattle.nts_unify.specs.Knowing.{row_from}
use Rattle.nts_unify.proofs.Looking.{row_from-end, row_from-step}
use Rattle.nts_variance.specs.declared.along.Relating.{Relating}
use Rattle.nts_variance.specs.Parts.{form_of_tree, parts_of, variances_from}
use Rattle.nts_variance.specs.Varying.{IsMadeAgain}
use Rattle.nts_variance.specs.Taking.{IsPairSide, IsPair, ArePairsLeft}
use Rattle.nts_variance.proofs.Nodes.{parts_known, parts_place}
use Rattle.nts_variance.proofs.Pushing.{rest_from, part_sorted}

-- at first no pair is left, and the last is the whole
pub pairs_none : (v : Variance) (ws : List Variance) (ts us : Tree) (xs : List Pair) (i : ℕ) → IsRow ts → i ≡ row_length ts → pairs_over v (variances_from i ws) (row_from i ts) (row_from i us) ++ xs ≡ xs
pairs_none v ws ts us xs i row e = (let none : row_from i ts ≡ empty = ap (λ n. row_from n ts) e ∙ row_from-end ts row in rw none refl)

pub pairs_one : (v w : Variance) (ws : List Variance) (ts us t u : Tree) (xs ys : List Pair) (i k : ℕ) → i ≡ k + 1 → k < row_length ts → k < row_length us → t ≡ row_at ts k → u ≡ row_at us k → w ≡ times v (first_variance (variances_from k ws))
    → ys ≡ pairs_over v (variances_from i ws) (row_from i ts) (row_from i us) ++ xs → record { variance = w; left = t; right = u } ∷ ys ≡ pairs_over v (variances_from k ws) (row_from k ts) (row_from k us) ++ xs
pairs_one v w ws ts us t u xs ys i k e less short it iu vary rest =
    let a : row_from k ts ≡ more (row_at ts k) (row_from (k + 1) ts) = row_from-step ts k less in
    let b : row_from k us ≡ more (row_at us k) (row_from (k + 1) us) = row_from-step us k short in
    let on : ys ≡ pairs_over v (rest_variances (variances_from k ws)) (row_from (k + 1) ts) (row_from (k + 1) us) ++ xs =
    rest ∙ ap (λ n. pairs_over v (variances_from n ws) (row_from n ts) (row_from n us) ++ xs) e ∙ ap (λ vs. pairs_over v vs (row_from (k + 1) ts) (row_from (k + 1) us) ++ xs) (sym (rest_from k ws)) in
    rw (a, b, it, iu, vary, on) refl

-- the part at a place is a side
pub part_side : (ts : List Tree) (c : Content) (t a : NodeId) (i : ℕ) → IsMadeAgain (tree_at ts t) → i < row_length (parts_of (tree_at ts t)) → Knows c (tree_at ts t) → IsIn ts a → tree_at ts a ≡ row_at (parts_of (tree_at ts t)) i → IsPairSide ts c a
part_side ts c t a i again less known within at =
    let whole = again.with_parts in
    let F = form_of_tree (tree_at ts t) in
    let parts = parts_of (tree_at ts t) in
    let formed : IsFormed (over F parts) = subst IsFormed whole.is again.formed in
    let sorted = part_sorted F parts i (parts_place F parts formed) less in
    let knows : Knows c (row_at parts i) = Knows-row_at c parts i (parts_known c F parts (subst (Knows c) whole.is known)) in
    record { within = within; knows = rw at knows; sort = sorted.sort; kind = rw at sorted.kind }

pub pairs_push : (ts : List Tree) (c : Content) (xs : List Relating) (y : Relating) → ArePairsLeft ts c xs → IsPair ts c y → ArePairsLeft ts c (xs ++ y ∷ [])
pairs_push ts c [] y h k = (k, tt)
pairs_push ts c (x ∷ xs) y h k = (h.0, pairs_push ts c xs y h.1 k)
