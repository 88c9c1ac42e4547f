-- What is called a leak has no solution, whatever outlives what.
use Rattle.std.proofs.Common.{◌≡◌, ◌⊎◌, ℕ, List, [], ◌∷◌, map, Some, inl, inr, refl, sym, ap, ◌∙◌, subst}
use Rattle.nts_model.specs.declared.labels.FreeRegion.{FreeRegion}
use Rattle.nts_model.specs.declared.labels.FreeRegion.TheVariants as region
use Rattle.nts_model.specs.declared.labels.Leaf.TheVariants as leaf
use Rattle.nts_model.specs.declared.labels.Label.{Label}
use Rattle.nts_model.specs.declared.labels.Label.TheVariants as label
use Rattle.nts_model.specs.declared.labels.Relation.{Relation}
use Rattle.nts_model.specs.declared.labels.Relation.TheVariants as relation
use Rattle.nts_model.specs.Terms.Trees.{Tree, empty, more, node, label_of}
use Rattle.nts_model.specs.Lists.{Among}
use Rattle.nts_model.specs.Tables.Contents.{Content, Recorded}
use Rattle.nts_model.specs.Tables.Resolving.{deeply_resolved}
use Rattle.nts_model.specs.Tables.Recording.{resolved_constraint}
use Rattle.nts_model.specs.Tables.Worlds.{World, inst, IsTrueOf, IsMet, AreMet}
use Rattle.nts_model.specs.Derivations.Handlers.{Handler}
use Rattle.nts_model.specs.Refutation.Containing.{Truth, IsSolution}
use Rattle.nts_model.proofs.Tables.Worlds.{inst-deeply_resolved}
use Rattle.nts_theory.specs.Refutation.Refutation.{RespectsLeaks}
use Rattle.nts_leak_check.specs.Leaking.{IsRigid, HasRigidRegion, EquatesRigid, HasLeak, checking}

rigid_stays : (truth : Truth) (u : ℕ) (c : Content) (w : World) (r : FreeRegion) → IsSolution truth u c w → IsRigid u r → w.region r ≡ r
rigid_stays truth u c w region.Static s h = s.fixed.static
rigid_stays truth u c w (region.Placeholder v n) s h = s.new v n h
rigid_stays truth u c w r s h = absurd h

-- the region that a tree is stays in a world
region_of : (w : World) (t : Tree) (l : Label) (r : FreeRegion) → label_of t ≡ Some l → l ≡ label.Leaf (leaf.Region r) → label_of (inst w t) ≡ Some (label.Leaf (leaf.Region (w.region r)))
region_of w empty l r e k = cc e
region_of w (more a b) l r e k = cc e
region_of w (node m ts) l r e k = (let same : m ≡ label.Leaf (leaf.Region r) = cc (e, k) in rw same refl)

rigid_in : (truth : Truth) (u : ℕ) (c : Content) (w : World) (t : Tree) (r : FreeRegion) → IsSolution truth u c w → HasRigidRegion u t r → label_of (inst w t) ≡ Some (label.Leaf (leaf.Region r))
rigid_in truth u c w t r s h = region_of w t (label.Leaf (leaf.Region r)) r h.is refl ∙ ap (λ x. Some (label.Leaf (leaf.Region x))) (rigid_stays truth u c w r s h.rigid)

-- a resolved constraint is one that is recorded
recorded : (c : Content) (xs : List Recorded) (y : Recorded) → Among (map (resolved_constraint c) xs) y → (x : Recorded) × Among xs x × (y ≡ resolved_constraint c x)
recorded c [] y i = absurd i
recorded c (x ∷ xs) y (inl e) = (x, inl refl, e)
recorded c (x ∷ xs) y (inr i) = (let z = recorded c xs y i in (z.0, inr z.1, z.2))

met : (w : World) (xs : List Recorded) (x : Recorded) → AreMet w xs → Among xs x → IsMet w x
met w (y ∷ xs) x m (inl e) = subst (IsMet w) (sym e) m.0
met w (y ∷ xs) x m (inr i) = met w xs x m.1 i
met w [] x m i = absurd i

pub no_leak : (truth : Truth) (c : Content) (u : ℕ) (w : World) → HasLeak c u → IsSolution truth u c w → ⊥
no_leak truth c u w leak s =
    let one = leak.one in
    let found = recorded c c.constraints one.constraint one.among in
    let x = found.0 in
    let same = found.2 in
    let e = one.equates in
    let equal : x.relation ≡ relation.Equal = ap (λ (y : Recorded). y.relation) (sym same) ∙ e.equal in
    let true : IsTrueOf w relation.Equal (inst w x.left) (inst w x.right) = subst (λ r. IsTrueOf w r (inst w x.left) (inst w x.right)) equal (met w c.constraints x s.solves.constraints found.1) in
    let left = subst (λ t. HasRigidRegion u t e.left) (ap (λ (y : Recorded). y.left) same) e.left_is in
    let right = subst (λ t. HasRigidRegion u t e.right) (ap (λ (y : Recorded). y.right) same) e.right_is in
    let here = ap label_of (sym (inst-deeply_resolved c w x.left leak.sound s.solves)) ∙ rigid_in truth u c w (deeply_resolved c x.left) e.left s left in
    let there = ap label_of (sym (inst-deeply_resolved c w x.right leak.sound s.solves)) ∙ rigid_in truth u c w (deeply_resolved c x.right) e.right s right in
    e.differ (regions (sym here ∙ ap label_of true ∙ there))
  where
    regions : {a b : FreeRegion} → Some (label.Leaf (leaf.Region a)) ≡ Some (label.Leaf (leaf.Region b)) → a ≡ b
    regions q = cc q

-- so where the rules' own leaks are right, all are
pub RespectsLeaks-checking : (h : Handler) (truth : Truth) → RespectsLeaks h truth → RespectsLeaks (checking h) truth
RespectsLeaks-checking h truth r =
    record {
      none = λ c u w l s. elim l [
        | inl a ↦ r.none c u w a s
        | inr b ↦ no_leak truth c u w b s
      ];
    }
