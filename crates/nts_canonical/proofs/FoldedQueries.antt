-- A fold of a query keeps what its aliases are of.
use Rattle.std.proofs.Common.{◌≡◌, ℕ, zero, suc, ◌<◌, List, [], ◌∷◌, map, length, get_or, All, Option, Some, None, refl, ap, subst, ◌∙◌, arith}
use Rattle.nts_model.specs.declared.labels.ClauseHead.{ClauseHead}
use Rattle.nts_model.specs.declared.labels.ClauseHead.TheVariants as clause
use Rattle.nts_model.specs.declared.labels.Label.TheVariants as label
use Rattle.nts_model.specs.Terms.Trees.{Tree, empty, more, node, sort_of_alias}
use Rattle.nts_terms.specs.declared.handles.AliasTerm.{AliasTerm}
use Rattle.nts_terms.specs.declared.handles.Ty.{Ty}
use Rattle.nts_terms.specs.Handles.{HoldsArgs, HoldsTy, alias_head}
use Rattle.nts_folding.specs.Folding.{Walk, done, next, answer, down, tree_of_list, tree_of_alias_args}
use Rattle.nts_canonical.specs.Forms.{IsHidden, AreHidden}
use Rattle.nts_canonical.specs.Folds.{tree_of_hidden}

abbrev pub IsHeldPair : List Tree → AliasTerm × Ty → Type 0
IsHeldPair ts h = HoldsArgs ts h.0.args × HoldsTy ts h.1

pub are_held : (ts : List Tree) (hs : List (AliasTerm × Ty)) → AreHidden ts hs → All (IsHeldPair ts) hs
are_held ts [] h = λ k d l. absurd (omega arith)
are_held ts (x ∷ xs) h = go (are_held ts xs h.1)
  where
    go : All (IsHeldPair ts) xs → (k : ℕ) (d : AliasTerm × Ty) → k < length (x ∷ xs) → IsHeldPair ts (get_or (x ∷ xs) k d)
    go rest zero d l = (h.0.args, h.0.hidden_type)
    go rest (suc k) d l = rest k d (omega arith)

module _ {S : Type 0} (A : S → Tree → Option Tree → S → Type 0) (E L : S → S → Type 0) (R : S → Tree → Tree → S → Type 0) where
  walk_empty : (y : Tree) (s t : S) → Walk A E L R s empty y t → y ≡ empty
  walk_empty y s t done = refl

  record MoreWalked (a b y : Tree) (s t : S) : Type 0 where
    pub first : Tree
    pub rest : Tree
    pub between : S
    pub is : y ≡ more first rest
    pub walks_first : Walk A E L R s a first between
    pub walks_rest : Walk A E L R between b rest t

  walk_more : (a b y : Tree) (s t : S) → Walk A E L R s (more a b) y t → MoreWalked a b y s t
  walk_more a b y s t (next {s = m} {c = c} {d = d} v w) =
      record { first = c; rest = d; between = m; is = refl; walks_first = v; walks_rest = w }

  -- a statement stays one of its head
  walk_head : (h : ClauseHead) (c y : Tree) (s t : S) → Walk A E L R s (node (label.Clause h) c) y t → (d : Tree) × (y ≡ node (label.Clause h) d)
  walk_head h c y s t (answer a) = let q : Some y ≡ None = a.asks.0 in cc
  walk_head h c y s t (down {d = d} g w b) = (d, b.hands.0)

  pub hidden_held : (ts a b : List Tree) (xs ys : List (AliasTerm × Ty)) (s t : S) → Walk A E L R s (tree_of_list (map (tree_of_hidden a) xs)) (tree_of_list (map (tree_of_hidden b) ys)) t → AreHidden ts xs → All (IsHeldPair b) ys → AreHidden b ys
  hidden_held ts a b xs [] s t w h k = tt
  hidden_held ts a b [] (y ∷ ys) s t w h k =
      let none : more (tree_of_hidden b y) (tree_of_list (map (tree_of_hidden b) ys)) ≡ empty = walk_empty _ s t w in
      cc
  hidden_held ts a b (x ∷ xs) (y ∷ ys) s t w h k =
      let i = walk_more _ _ _ s t w in
      let whole : more (tree_of_hidden b y) (tree_of_list (map (tree_of_hidden b) ys)) ≡ more i.first i.rest = i.is in
      let first : i.first ≡ tree_of_hidden b y = cc in
      let rest : i.rest ≡ tree_of_list (map (tree_of_hidden b) ys) = cc in
      let below = subst (λ z. Walk A E L R i.between (tree_of_list (map (tree_of_hidden a) xs)) z t) rest i.walks_rest in (
        one x y s i.between h.0 (k 0 y (omega arith)) (subst (λ z. Walk A E L R s (tree_of_hidden a x) z i.between) first i.walks_first),
        hidden_held ts a b xs ys i.between t below h.1 (λ n d l. k (suc n) d (omega (arith, l))),
      )
    where
      one : (x y : AliasTerm × Ty) (s t : S) → IsHidden ts x → IsHeldPair b y → Walk A E L R s (tree_of_hidden a x) (tree_of_hidden b y) t → IsHidden b y
      one x y s t h k w =
          let i = walk_more (tree_of_alias_args a x.0) _ _ s t w in
          let head = walk_head (clause.Projection (alias_head x.0.def_id)) _ i.first s i.between i.walks_first in
          let is : tree_of_hidden b y ≡ more i.first i.rest = i.is in
          let named : tree_of_alias_args b y.0 ≡ node (label.Clause (clause.Projection (alias_head x.0.def_id))) head.0 = cc (is, head.1) in
          let same : alias_head y.0.def_id ≡ alias_head x.0.def_id = cc named in
          record { of_types = ap sort_of_alias same ∙ h.of_types; args = k.0; hidden_type = k.1 }
