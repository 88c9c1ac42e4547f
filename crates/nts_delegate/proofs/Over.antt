-- A table that knows a goal knows the leaves of a candidate's terms.
use Rattle.std.proofs.Common.{⊎_elim, inl, inr, List, refl, sym, subst}
use Rattle.nts_model.specs.declared.labels.Sort.{Sort}
use Rattle.nts_model.specs.declared.labels.FreeRegion.TheVariants as region
use Rattle.nts_model.specs.declared.labels.Leaf.{Leaf}
use Rattle.nts_model.specs.declared.labels.Leaf.TheVariants as leaf
use Rattle.nts_model.specs.declared.labels.Label.TheVariants as label
use Rattle.nts_model.specs.Terms.Trees.{Tree, empty, more, node}
use Rattle.nts_model.specs.Tables.Contents.{Content}
use Rattle.nts_model.specs.Tables.Resolving.{KnowsLeaf, KnowsLeaves}
use Rattle.nts_model.specs.Terms.Substitutions.{Occurs}
use Rattle.nts_model.specs.Derivations.Related.{pair}
use Rattle.nts_model.specs.Derivations.Handlers.{IsFixed}
use Rattle.nts_model.proofs.Terms.Unpositioned.{known_leaves}
use Rattle.nts_store.specs.declared.nodes.NodeId.{NodeId}
use Rattle.nts_store.specs.Growth.{tree_at}
use Rattle.nts_terms.specs.declared.handles.Goal.{Goal}
use Rattle.nts_delegate.specs.Candidates.{KnowsGoal, IsOverIn}

-- a leaf of a tree whose leaves are known
pub leaf_known : (c : Content) (l : Leaf) (t : Tree) → Occurs l t → KnowsLeaves c t → KnowsLeaf c (label.Leaf l)
leaf_known c l empty o k = absurd o
leaf_known c l (more a b) (inl o) k = leaf_known c l a o k.0
leaf_known c l (more a b) (inr o) k = leaf_known c l b o k.1
leaf_known c l (node m t) (inl e) k = subst (KnowsLeaf c) (sym e) k.0
leaf_known c l (node m t) (inr o) k = leaf_known c l t o k.1

-- a region that stays itself is no variable and no placeholder
fixed_known : (c : Content) (l : Leaf) → IsFixed l → KnowsLeaf c (label.Leaf l)
fixed_known c (leaf.Region region.Static) h = (tt, tt)
fixed_known c (leaf.Region region.Erased) h = (tt, tt)
fixed_known c (leaf.Region region.Error) h = (tt, tt)
fixed_known c l h = absurd h

-- a tree each leaf of which is known
each_known : (c : Content) (t : Tree) → ((l : Leaf) → Occurs l t → KnowsLeaf c (label.Leaf l)) → KnowsLeaves c t
each_known c empty h = tt
each_known c (more a b) h = (each_known c a (λ l o. h l (inl o)), each_known c b (λ l o. h l (inr o)))
each_known c (node (label.Leaf x) t) h = (h x (inl refl), each_known c t (λ l o. h l (inr o)))
each_known c (node (label.Bound s i n) t) h = ((tt, tt), each_known c t (λ l o. h l (inr o)))
each_known c (node (label.Ty x) t) h = ((tt, tt), each_known c t (λ l o. h l (inr o)))
each_known c (node (label.Const x) t) h = ((tt, tt), each_known c t (λ l o. h l (inr o)))
each_known c (node (label.Clause x) t) h = ((tt, tt), each_known c t (λ l o. h l (inr o)))
each_known c (node (label.Predicate x) t) h = ((tt, tt), each_known c t (λ l o. h l (inr o)))
each_known c (node (label.List x) t) h = ((tt, tt), each_known c t (λ l o. h l (inr o)))

pub over_knows : {ts : List Tree} {fresh : List Sort} {g : Goal} {t : NodeId} → IsOverIn ts fresh g t → (c : Content) → KnowsGoal ts c g → KnowsLeaves c (tree_at ts t)
over_knows {ts} {fresh} {g} {t} o c k =
    let e = tree_at ts g.param_env.node in
    let p = tree_at ts g.predicate.node in
    let known : KnowsLeaves c (pair e p) = (known_leaves c e k.env, (known_leaves c p k.predicate, tt)) in
    each_known c (tree_at ts t) (λ l x. ⊎_elim (λ y. leaf_known c l (pair e p) y known) (λ f. fixed_known c l f) (o.leaves l x))
