-- Positions of kinds, one by one.
use Rattle.std.proofs.Common.{◌≡◌, ℕ, suc, ◌+◌, ◌<◌, ◌≤◌, List, [], ◌∷◌, ◌++◌, map, length, take, get_or, sym, ap, subst, ◌∙◌, arith}
use Rattle.std.specs.Prelude.{All}
use Rattle.std.proofs.lemmas.List.{take_all, take_more, length-map, length-take-le}
use Rattle.std.proofs.lemmas.List.Elements.{All-push}
use Rattle.nts_model.specs.Terms.Trees.{Tree}
use Rattle.nts_model.specs.Canonical.Numbered.{position}
use Rattle.nts_model.specs.Canonical.Inputs.{PositionKind}
use Rattle.nts_store.specs.Growth.{tree_at, IsIn, Extends}
use Rattle.nts_canonical.specs.nts_folding.specs.FoldLaws.{list_holds}
use Rattle.nts_terms.specs.declared.handles.GenericArg.{GenericArg}
use Rattle.nts_terms.specs.Handles.{HoldsArg}
use Rattle.nts_canonical.specs.declared.types.CanonicalVarKind.{CanonicalVarKind}
use Rattle.nts_canonical.specs.Forms.{kind_of_var, trees_of}
use Rattle.nts_canonical.proofs.VarLists.{map-push}
use Rattle.nts_canonical.proofs.PairLists.{holds_kept}
use Rattle.nts_model.specs.Searching.Driving.{sort_at, positions_from}
use Rattle.nts_response.specs.Replacing.{argument_value}
use Rattle.nts_response.proofs.Each.{same_views, values_kept}

-- the values are the positions of the first i kinds
pub record ArePositions (ts : List Tree) (xs : List GenericArg) (ks : List CanonicalVarKind) (i : ℕ) : Type 0 where
  pub trees : trees_of ts xs ≡ positions_from 0 (map kind_of_var (take i ks))
  pub held : All (HoldsArg ts) xs

positions_push : (n i : ℕ) (ks : List PositionKind) (k : PositionKind) → i ≡ n + length ks → positions_from n (ks ++ k ∷ []) ≡ positions_from n ks ++ position (sort_at k) i ∷ []
positions_push n i [] k e = (let same : n ≡ i = omega (arith, e) in ap (λ j. position (sort_at k) j ∷ []) same)
positions_push n i (x ∷ ks) k e = ap (λ r. position (sort_at x) n ∷ r) (positions_push (suc n) i ks k (omega (arith, e)))

pub one_position : (a b : List Tree) (xs zs : List GenericArg) (ks : List CanonicalVarKind) (i : ℕ) (d : CanonicalVarKind) (x : GenericArg) → i < length ks → Extends a b → ArePositions a xs ks i → IsIn b x.node
    → tree_at b x.node ≡ position (sort_at (kind_of_var (get_or ks i d))) i → zs ≡ xs ++ x ∷ [] → ArePositions b zs ks (i + 1)
one_position a b xs zs ks i d x l up so within tree e =
    let k = get_or ks i d in
    let taken = map kind_of_var (take i ks) in
    let long : i ≡ 0 + length taken = (let p = length-map (take i ks) kind_of_var in let q = length-take-le i ks (omega arith) in omega (arith, p, q)) in
    let left : trees_of b zs ≡ positions_from 0 taken ++ position (sort_at (kind_of_var k)) i ∷ [] =
    ap (trees_of b) e ∙ map-push (argument_value b) xs x ∙ ap (λ vs. vs ++ tree_at b x.node ∷ []) (same_views HoldsArg argument_value values_kept a b xs so.held up ∙ so.trees) ∙ ap (λ t. positions_from 0 taken ++ t ∷ []) tree in
    let right : positions_from 0 (map kind_of_var (take (i + 1) ks)) ≡ positions_from 0 taken ++ position (sort_at (kind_of_var k)) i ∷ [] =
    ap (λ us. positions_from 0 (map kind_of_var us)) (take_more ks i d l) ∙ ap (positions_from 0) (map-push kind_of_var (take i ks) k) ∙ positions_push 0 i taken (kind_of_var k) long in
    let held : HoldsArg b x = record { within = within; fits = rw tree tt } in
    record {
      trees = left ∙ sym right;
      held = subst (All (HoldsArg b)) (sym e) (All-push (HoldsArg b) xs x (list_holds (HoldsArg a) (HoldsArg b) (λ y q. holds_kept _ a b y.node q up) xs so.held) held);
    }

pub all_positions : (ts : List Tree) (xs : List GenericArg) (ks : List CanonicalVarKind) (i : ℕ) → length ks ≤ i → ArePositions ts xs ks i → trees_of ts xs ≡ positions_from 0 (map kind_of_var ks)
all_positions ts xs ks i l h = h.trees ∙ ap (λ us. positions_from 0 (map kind_of_var us)) (take_all i ks l)
