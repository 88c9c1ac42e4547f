-- Two free regions made equal.
use Rattle.nts_model.proofs.Terms.Substituting.{no_children}
use Rattle.std.proofs.Common.{◌≡◌, ⊎_elim, ℕ, ◌<◌, ◌≤◌, min, max, true, List, Some, refl, sym, ap, subst, ◌∙◌, arith}
use Rattle.std.proofs.lemmas.Bool.{cases_lt}
use Rattle.nts_model.specs.declared.labels.Sort.TheVariants as sort
use Rattle.nts_model.specs.declared.labels.Relation.TheVariants as relation
use Rattle.nts_model.specs.declared.labels.VariableKind.TheVariants as kind
use Rattle.nts_model.specs.declared.labels.Leaf.TheVariants as leaf
use Rattle.nts_model.specs.declared.labels.Label.{Label}
use Rattle.nts_model.specs.declared.labels.Label.TheVariants as label
use Rattle.nts_model.specs.Terms.Trees.{Tree, empty, node, children, shape, Meets, kind_of, kind_of_label, of_sort, variable_tree}
use Rattle.nts_model.specs.Tables.Contents.{Content, kind_at, with_constraint}
use Rattle.nts_model.specs.Tables.Resolving.{Knows, IsSound, deeply_resolved, root_of}
use Rattle.nts_model.specs.Tables.Worlds.{World, inst, Solves}
use Rattle.nts_model.specs.Terms.Regions.{of_variable, of_free, IsRegion}
use Rattle.nts_model.specs.Tables.Holding.{AreOne}
use Rattle.nts_model.proofs.Tables.AliasLabels.{region_closed}
use Rattle.nts_model.proofs.Tables.Roots.{root_of-link, root_of-root_of, kind_at-root_of}
use Rattle.nts_model.proofs.Tables.Sound.{IsSound-with_constraint}
use Rattle.nts_model.proofs.Tables.Bringing.{brings-refl, brings-of, brings-with_constraint}
use Rattle.nts_model.proofs.Tables.Resolved.{resolved-empty, deeply_resolved-node}
use Rattle.nts_model.proofs.Tables.Instances.{tree-reaches}
use Rattle.nts_model.proofs.Tables.Solving.{Solves-with_constraint, Solves-from_with_constraint}
use Rattle.nts_model.proofs.Tables.Held.{AreOne-continues, Continues-refl, Continues-with_constraint, HoldsConstraint-with_constraint}
use Rattle.nts_model.proofs.Tables.Alike.{AreAlike-one, AreAlike-regions, HoldsEqual-recorded}
use Rattle.nts_store.specs.declared.nodes.NodeId.{NodeId}
use Rattle.nts_store.specs.Growth.{tree_at, IsIn}
use Rattle.nts_unify.specs.Lawful.{content_of-constrained}
use Rattle.nts_unify.specs.declared.contents.Constraint.{Constraint}
use Rattle.nts_unify.specs.Entries.{Entries, constrained}
use Rattle.nts_unify.specs.Reading.{content_of, recorded_of, IsLawful}
use Rattle.nts_unify.specs.Roots.{IsRoot}
use Rattle.nts_unify.specs.Changing.{region_variable, is_free_region}
use Rattle.nts_unify.specs.Joining.{IsOneClass, RegionsJoin}
use Rattle.nts_relating.specs.Relating.{IsRegionOf, RegionsRelate}
use Rattle.nts_unify.proofs.Leading.{IsRoot-content, Reaches-leads}
use Rattle.nts_unify.proofs.Keeping.{KeepsKnowing-refl, KeepsKnowing-with_constraint}
use Rattle.nts_relating.proofs.HeadLemmas.{region_label}
use Rattle.nts_unify.proofs.NodeLemmas.{variable_node}
use Rattle.nts_unify.proofs.NodeLemmas.{free_region}

free_sort : (l : Label) → is_free_region l ≡ true → kind_of_label l ≡ of_sort sort.Region
free_sort (label.Leaf (leaf.Variable kind.Region n)) e = refl
free_sort (label.Leaf (leaf.Variable kind.Ty n)) e = cc
free_sort (label.Leaf (leaf.Variable kind.Int n)) e = cc
free_sort (label.Leaf (leaf.Variable kind.Float n)) e = cc
free_sort (label.Leaf (leaf.Variable kind.Const n)) e = cc
free_sort (label.Leaf (leaf.Region r)) e = refl
free_sort (label.Leaf (leaf.TyConstant x)) e = cc
free_sort (label.Leaf (leaf.ConstConstant x)) e = cc
free_sort (label.Bound s i n) e = cc
free_sort (label.Ty h) e = cc
free_sort (label.Const h) e = cc
free_sort (label.Clause h) e = cc
free_sort (label.Predicate h) e = cc
free_sort (label.List h) e = cc

pub region_of_term : (ts : List Tree) (e : Entries) (t : NodeId) (l : Label) → IsIn ts t → Knows (content_of ts e) (tree_at ts t) → tree_at ts t ≡ node l (children (tree_at ts t)) → Meets (shape l) (children (tree_at ts t)) → is_free_region l ≡ true → IsRegionOf ts e t
region_of_term ts e t l within knows is m f =
    record { within = within; knows = knows; sort = ap kind_of is ∙ ap Some (free_sort l f); free = free_region (tree_at ts t) l is m f }

-- a region variable when resolved
pub deeply_resolved-region : (c : Content) (n : ℕ) → deeply_resolved c (variable_tree kind.Region n) ≡ variable_tree kind.Region (root_of c n)
deeply_resolved-region c n =
    deeply_resolved-node c (label.Leaf (leaf.Variable kind.Region n)) empty refl ∙ rw (resolved-empty c) refl

pub regions-one : (c : Content) (n m : ℕ) → root_of c n ≡ root_of c m → AreOne c (variable_tree kind.Region n) (variable_tree kind.Region m)
regions-one c n m e = deeply_resolved-region c n ∙ ap (variable_tree kind.Region) e ∙ sym (deeply_resolved-region c m)

-- a region variable of the table, and its root
pub record IsRegionVariable (c : Content) (t : Tree) (x r : ℕ) : Type 0 where
  pub is : t ≡ variable_tree kind.Region x
  pub knows : Knows c t
  pub root : root_of c x ≡ r
  pub tree : (w : World) → Solves c w → w.tree x ≡ w.tree r

pub region_variable_at : (ts : List Tree) (e : Entries) (t : Tree) (l : Label) (x r : ℕ) → IsLawful ts e → Knows (content_of ts e) t → t ≡ node l (children t) → Meets (shape l) (children t) → region_variable l ≡ Some x → IsRoot e x r → IsRegionVariable (content_of ts e) t x r
region_variable_at ts e t l x r h k is m v root =
    record {
      is = variable_node t l kind.Region x is m (region_label l x v);
      knows = k;
      root = IsRoot-content ts e x r h.sound.descends root;
      tree = λ w s. tree-reaches (content_of ts e) w x r s (Reaches-leads ts e x r root.leads);
    }

inst-is : (w : World) (c : Content) (t : Tree) (x r : ℕ) → IsRegionVariable c t x r → Solves c w → inst w t ≡ w.tree r
inst-is w c t x r v s = ap (inst w) v.is ∙ v.tree w s

-- of one class already
pub regions_same : (c : Content) (a b : Tree) (x y r s : ℕ) → IsSound c → IsRegionVariable c a x r → IsRegionVariable c b y s → r ≡ s → RegionsRelate c c a b
regions_same c a b x y r s h va vb same =
    let one : AreOne c a b = rw (va.is, vb.is) (regions-one c x y (va.root ∙ same ∙ sym vb.root)) in
    record {
      keeps = KeepsKnowing-refl c;
      continues = Continues-refl c h;
      narrows = record {
        sound = λ w z. (z, inst-is w c a x r va z ∙ ap w.tree same ∙ sym (inst-is w c b y s vb z));
        complete = λ w z q. z;
        names = λ f w z k q. k;
      };
      alike = AreAlike-one c a b one;
      brings = brings-of a b (brings-refl c);
    }

-- of two numbers the lower and the higher, and back
pub from_sides : {A : Type 0} (f : ℕ → A) (x y : ℕ) → f (min x y) ≡ f (max x y) → f x ≡ f y
from_sides f x y e = ⊎_elim
    (λ (l : x < y). let p : min x y ≡ x = omega arith in let q : max x y ≡ y = omega arith in rw (p, q) at e)
    (λ (l : y ≤ x). let p : min x y ≡ y = omega arith in let q : max x y ≡ x = omega arith in let z : f y ≡ f x = rw (p, q) at e in sym z) (cases_lt x y)

pub to_sides : {A : Type 0} (f : ℕ → A) (x y : ℕ) → f x ≡ f y → f (min x y) ≡ f (max x y)
to_sides f x y e = ⊎_elim
    (λ (l : x < y). let p : min x y ≡ x = omega arith in let q : max x y ≡ y = omega arith in rw (p, q) e)
    (λ (l : y ≤ x). let p : min x y ≡ y = omega arith in let q : max x y ≡ x = omega arith in rw (p, q) (sym e)) (cases_lt x y)

-- of two classes, which become one: so do the regions
pub regions_one_class : (ts : List Tree) (e f : Entries) (a b : Tree) (x y r s : ℕ) → IsLawful ts e → IsRegionVariable (content_of ts e) a x r → IsRegionVariable (content_of ts e) b y s → RegionsJoin ts e f r s → AreOne (content_of ts f) a b
regions_one_class ts e f a b x y r s h va vb j =
    let c = content_of ts e in
    let d = content_of ts f in
    let one = j.one in
    let roots : root_of d r ≡ root_of d s = from_sides (root_of d) r s (sym (root_of-link d (max r s) (min r s) j.lawful.sound.descends one.linked)) in
    let both : AreOne d (variable_tree kind.Region r) (variable_tree kind.Region s) = regions-one d r s roots in
    let ka : Knows c (variable_tree kind.Region x) = subst (λ (t : Tree). Knows c t) va.is va.knows in
    let kb : Knows c (variable_tree kind.Region y) = subst (λ (t : Tree). Knows c t) vb.is vb.knows in
    let first : AreOne d (variable_tree kind.Region x) (variable_tree kind.Region r) = region_root_one c d x r h.sound va.root one ka in
    let second : AreOne d (variable_tree kind.Region y) (variable_tree kind.Region s) = region_root_one c d y s h.sound vb.root one kb in
    rw (va.is, vb.is) (first ∙ both ∙ sym second)
  where
    region_root_one : (c d : Content) (n m : ℕ) → IsSound c → root_of c n ≡ m → IsOneClass c d (min r s) (max r s) → Knows c (variable_tree kind.Region n) → AreOne d (variable_tree kind.Region n) (variable_tree kind.Region m)
    region_root_one c d n m z q one k =
        let there : kind_at c m ≡ Some kind.Region = rw (← q) (kind_at-root_of c n z ∙ k.0.0) in
        AreOne-continues c d (variable_tree kind.Region n) (variable_tree kind.Region m) one.continues k ((there, tt, refl), tt, tt)
        (regions-one c n m (sym (root_of-root_of c n z.descends) ∙ ap (root_of c) q))

pub regions_joined : (ts : List Tree) (e f : Entries) (a b : Tree) (x y r s : ℕ) → IsLawful ts e → IsRegionVariable (content_of ts e) a x r → IsRegionVariable (content_of ts e) b y s → RegionsJoin ts e f r s → RegionsRelate (content_of ts e) (content_of ts f) a b
regions_joined ts e f a b x y r s h va vb j =
    let c = content_of ts e in
    let d = content_of ts f in
    let one = j.one in
    record {
      keeps = j.keeps;
      continues = one.continues;
      narrows = record {
        sound = λ w z. (let q = one.narrows.sound w z in (q.0, inst-is w c a x r va q.0 ∙ from_sides w.tree r s q.1 ∙ sym (inst-is w c b y s vb q.0)));
        complete = λ w z q. one.narrows.complete w z (to_sides w.tree r s (sym (inst-is w c a x r va z) ∙ q ∙ inst-is w c b y s vb z));
        names = λ f w z k q. one.narrows.names f w z k (to_sides w.tree r s (sym (inst-is w c a x r va z) ∙ q ∙ inst-is w c b y s vb z));
      };
      alike = AreAlike-one d a b (regions_one_class ts e f a b x y r s h va vb j);
      brings = brings-of a b j.brings;
    }

-- of which it is recorded
pub regions_recorded : (ts : List Tree) (e f : Entries) (x : Constraint) → IsLawful ts e → IsRegionOf ts e x.left → IsRegionOf ts e x.right → x.relation ≡ relation.Equal → x.is_visible ≡ true → f ≡ constrained e x → RegionsRelate (content_of ts e) (content_of ts f) (tree_at ts x.left) (tree_at ts x.right)
regions_recorded ts e f x h left right equal visible q =
    let c = content_of ts e in
    let a = tree_at ts x.left in
    let b = tree_at ts x.right in
    let is : content_of ts f ≡ with_constraint c (recorded_of ts x) = ap (content_of ts) q ∙ content_of-constrained ts e x in
    let d = with_constraint c (recorded_of ts x) in
    let held = HoldsEqual-recorded d (recorded_of ts x) equal (HoldsConstraint-with_constraint c (recorded_of ts x)) in
    rw is (record {
      keeps = KeepsKnowing-with_constraint c (recorded_of ts x) (record { visible = visible; left = region_closed 0 a left.free; right = region_closed 0 b right.free });
      continues = Continues-with_constraint c (recorded_of ts x) h.sound;
      narrows = record {
        sound = λ w z. (let p = Solves-from_with_constraint c (recorded_of ts x) w z in (p.0, rw equal at p.1));
        complete = λ w z p. Solves-with_constraint c (recorded_of ts x) w z (rw equal p);
        names = λ f w z k p. record { each = k.each };
      };
      alike = AreAlike-regions d a b (IsSound-with_constraint c (recorded_of ts x) h.sound) left.free right.free held;
      brings = brings-with_constraint c (recorded_of ts x);
    })
