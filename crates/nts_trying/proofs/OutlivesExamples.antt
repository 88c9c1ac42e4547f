-- Goals that something outlives a region, and goals that don't say so; and a yes that recorded nothing is told of none.
use Rattle.std.proofs.Common.{◌≡◌, inl, inr, ℕ, ◌∷◌, [], length, length-append, sym, ap, ◌∙◌, refl, arith}
use Rattle.nts_model.specs.declared.labels.FreeRegion.TheVariants as region
use Rattle.nts_model.specs.declared.labels.Leaf.TheVariants as leaf
use Rattle.nts_model.specs.declared.labels.Relation.TheVariants as relation
use Rattle.nts_model.specs.declared.labels.ClauseHead.TheVariants as clause
use Rattle.nts_model.specs.declared.labels.Label.TheVariants as label
use Rattle.nts_model.specs.Terms.Trees.{Tree, node}
use Rattle.nts_model.specs.Tables.Contents.{Content}
use Rattle.nts_model.specs.Terms.Substitutions.{leaf_tree}
use Rattle.nts_model.specs.Derivations.Related.{Constraint, pair, unbound}
use Rattle.nts_model.specs.Refutation.Forcing.{Adds, seen_as}
use Rattle.nts_theory.specs.Outliving.{SaysOutlives, region_outlives, type_outlives, IsOutlives}

abbrev a_region : ℕ → Tree
a_region n = leaf_tree (leaf.Region (region.EarlyParam n))

-- the first region outlives the second one
abbrev lives : Constraint
lives = record { relation = relation.RegionOutlives; left = a_region 0; right = a_region 1 }

one_lives : IsOutlives (unbound (node (label.Clause clause.RegionOutlives) (pair (a_region 0) (a_region 1)))) lives
one_lives = record { statement = node (label.Clause clause.RegionOutlives) (pair (a_region 0) (a_region 1)); binds_nothing = refl; says = region_outlives; formed = ((refl, (refl, tt)), ((tt, tt), ((tt, tt), tt))); closed = (tt, ((tt, tt), ((tt, tt), tt))) }

-- the other way round it says another thing, and a trait says nothing so
turned_lives_no : SaysOutlives lives (node (label.Clause clause.RegionOutlives) (pair (a_region 1) (a_region 0))) → ⊥
turned_lives_no says = by_sides _ _ says refl refl
  where
    by_sides : (x : Constraint) (s : Tree) → SaysOutlives x s → x ≡ lives → s ≡ node (label.Clause clause.RegionOutlives) (pair (a_region 1) (a_region 0)) → ⊥
    by_sides x s (region_outlives {a = a}) e f =
        let p : a ≡ a_region 0 = ap (λ (z : Constraint). z.left) e in
        let q : a ≡ a_region 1 = cc f in
        let z : a_region 0 ≡ a_region 1 = sym p ∙ q in
        cc z
    by_sides x s type_outlives e f = cc f

trait_lives_no : (i : ℕ) (ts : Tree) (x : Constraint) → SaysOutlives x (node (label.Clause (clause.Trait i)) ts) → ⊥
trait_lives_no i ts x says = elim says [ ]

-- a table in which nothing was recorded is not the one that such a goal's answer tells of
unrecorded_no : (c : Content) → Adds lives c c → ⊥
unrecorded_no c (inl (same, is)) = cc same
unrecorded_no c (inr is) = (let n = ap (λ z. length z.constraints) is ∙ length-append c.constraints (seen_as lives ∷ []) in omega (arith, n))
