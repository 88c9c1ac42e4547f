-- Values in place of positions, in a store that grows.
use Rattle.std.proofs.Common.{◌≡◌, ℕ, zero, suc, ◌<◌, List, [], ◌∷◌, map, length, get_or, refl, sym, ap, subst, ◌∙◌, arith}
use Rattle.nts_model.specs.Terms.Trees.{Tree, empty, more}
use Rattle.nts_model.specs.Terms.Substitutions.{filled}
use Rattle.nts_store.specs.declared.nodes.NodeId.{NodeId}
use Rattle.nts_terms.specs.declared.handles.AliasTerm.{AliasTerm}
use Rattle.nts_terms.specs.declared.handles.Ty.{Ty}
use Rattle.nts_terms.specs.declared.handles.GenericArg.{GenericArg}
use Rattle.nts_store.specs.Growth.{tree_at, IsIn, AllIn, Extends}
use Rattle.nts_store.specs.Kept.{map-kept}
use Rattle.nts_store.specs.Filled.{HasValues}
use Rattle.nts_canonical.specs.Forms.{hidden_pairs, trees_of, AreHidden}
use Rattle.nts_canonical.specs.Replaced.{IsImage}
use Rattle.nts_canonical.proofs.PairLists.{hidden_row-kept}

-- a term that has values has them later
pub has_values-kept : (a b : List Tree) (vs : List NodeId) (n : NodeId) → AllIn a vs → IsIn a n → Extends a b → HasValues (map (tree_at a) vs) (tree_at a n) → HasValues (map (tree_at b) vs) (tree_at b n)
has_values-kept a b vs n h w e k =
    subst (λ z. HasValues z (tree_at b n)) (sym (map-kept a b vs h e)) (subst (HasValues (map (tree_at a) vs)) (sym (e.kept n w)) k)

pub has_values_row-kept : (a b : List Tree) (vs : List NodeId) (hs : List (AliasTerm × Ty)) → AllIn a vs → AreHidden a hs → Extends a b → HasValues (map (tree_at a) vs) (hidden_pairs a hs) → HasValues (map (tree_at b) vs) (hidden_pairs b hs)
has_values_row-kept a b vs hs h w e k =
    subst (λ z. HasValues z (hidden_pairs b hs)) (sym (map-kept a b vs h e)) (subst (HasValues (map (tree_at a) vs)) (sym (hidden_row-kept a b hs w e)) k)

-- .. and the same tree with them
pub filled-kept : (a b : List Tree) (vs : List NodeId) (n : NodeId) → AllIn a vs → IsIn a n → Extends a b → filled (map (tree_at b) vs) (tree_at b n) ≡ filled (map (tree_at a) vs) (tree_at a n)
filled-kept a b vs n h w e = ap (λ z. filled z (tree_at b n)) (map-kept a b vs h e) ∙ ap (filled (map (tree_at a) vs)) (e.kept n w)

pub filled_row-kept : (a b : List Tree) (vs : List NodeId) (hs : List (AliasTerm × Ty)) → AllIn a vs → AreHidden a hs → Extends a b → filled (map (tree_at b) vs) (hidden_pairs b hs) ≡ filled (map (tree_at a) vs) (hidden_pairs a hs)
filled_row-kept a b vs hs h w e = ap (λ z. filled z (hidden_pairs b hs)) (map-kept a b vs h e) ∙ ap (filled (map (tree_at a) vs)) (hidden_row-kept a b hs w e)

-- an alias and its type that have values
pub record PairHasValues (vs ts : List Tree) (h : AliasTerm × Ty) : Type 0 where
  pub alias : HasValues vs (tree_at ts h.0.args.node)
  pub hidden_type : HasValues vs (tree_at ts h.1.node)

pub pair-at : (vs ts : List Tree) (hs : List (AliasTerm × Ty)) (i : ℕ) (d : AliasTerm × Ty) → HasValues vs (hidden_pairs ts hs) → i < length hs → PairHasValues vs ts (get_or hs i d)
pair-at vs ts [] i d h l = absurd (omega arith)
pair-at vs ts (x ∷ xs) zero d h l = record { alias = h.0.1.0; hidden_type = h.1.0 }
pair-at vs ts (x ∷ xs) (suc i) d h l = pair-at vs ts xs i d h.1.1 (omega arith)

-- arguments by their terms
pub trees_of-nodes : (ts : List Tree) (xs : List GenericArg) → map (tree_at ts) (map (λ x. x.node) xs) ≡ trees_of ts xs
trees_of-nodes ts [] = refl
trees_of-nodes ts (x ∷ xs) = ap (λ r. tree_at ts x.node ∷ r) (trees_of-nodes ts xs)

-- three trees in a row
pub three : {a b c x y z : Tree} → a ≡ x → b ≡ y → c ≡ z → more a (more b (more c empty)) ≡ more x (more y (more z empty))
three p q r = λ j. more (p j) (more (q j) (more (r j) empty))

pub image-filled : (ws vs a b : List Tree) (h r : AliasTerm × Ty) → ws ≡ vs → IsImage (filled ws) a b h r → IsImage (filled vs) a b h r
image-filled ws vs a b h r e m = subst (λ z. IsImage (filled z) a b h r) e m
