-- Trees that are one up to regions: one tree, and instances.
use Rattle.std.specs.Prelude.{◌||◌}
use Rattle.std.proofs.Common.{◌≡◌, ◌⊎◌, inl, inr, ⊎_elim, Bool, true, false, List, [], Option, Some, None, refl, sym, ap, ◌∙◌, subst}
use Rattle.nts_model.specs.declared.labels.Relation.{Relation}
use Rattle.nts_model.specs.declared.labels.Relation.TheVariants as relation
use Rattle.nts_model.specs.declared.labels.VariableKind.TheVariants as kind
use Rattle.nts_model.specs.declared.labels.Leaf.{Leaf}
use Rattle.nts_model.specs.declared.labels.Leaf.TheVariants as leaf
use Rattle.nts_model.specs.declared.labels.Label.{Label}
use Rattle.nts_model.specs.declared.labels.Label.TheVariants as label
use Rattle.nts_model.specs.declared.labels.FreeRegion.TheVariants as region
use Rattle.nts_model.specs.Terms.Trees.{Tree, empty, more, node, any_label}
use Rattle.nts_model.specs.Terms.Regions.{RegionName, of_variable, of_free, region_tree, region_name, name_of_label, name_of_leaf}
use Rattle.nts_model.specs.Tables.RegionClasses.{equated, two_names}
use Rattle.nts_model.specs.Tables.Alike.{Alike, one_tree, two_regions, one_label, two_rows}
use Rattle.nts_model.specs.Terms.Substitutions.{leaf_tree, put, replace, Instance, instance_of}
use Rattle.nts_model.specs.Derivations.Related.{Constraint}
use Rattle.nts_model.specs.Lists.{Among}
use Rattle.nts_model.specs.Derivations.Sequents.{Sequent, region_or_leaf, region_by, MakesOne, AreOneBy, constraint_under, HasOneSide, Grants}
use Rattle.nts_model.proofs.Terms.Substituting.{replace-replace, replace-equal, replace-leaf, region_alone}
use Rattle.nts_model.proofs.Terms.Unpositioned.{or_false}

pub one_itself : (xs : List Constraint) (s t : Tree) → s ≡ t → AreOneBy xs s t
one_itself xs s t e f h = ap (replace (region_by f)) e

pub one_turned : (xs : List Constraint) (s t : Tree) → AreOneBy xs s t → AreOneBy xs t s
one_turned xs s t e f h = sym (e f h)

pub one_trans : (xs : List Constraint) (s t u : Tree) → AreOneBy xs s t → AreOneBy xs t u → AreOneBy xs s u
one_trans xs s t u a b f h = a f h ∙ b f h

region_tree-by : (f : RegionName → RegionName) (x : RegionName) → replace (region_by f) (region_tree x) ≡ region_tree (f x)
region_tree-by f (of_variable n) = refl
region_tree-by f (of_free r) = refl

name_tree : (l : Leaf) (x : RegionName) → name_of_leaf l ≡ Some x → leaf_tree l ≡ region_tree x
name_tree (leaf.Variable kind.Region n) x e = cc
name_tree (leaf.Variable kind.Ty n) x e = cc
name_tree (leaf.Variable kind.Int n) x e = cc
name_tree (leaf.Variable kind.Float n) x e = cc
name_tree (leaf.Variable kind.Const n) x e = cc
name_tree (leaf.Region r) x e = cc
name_tree (leaf.TyConstant a) x e = cc
name_tree (leaf.ConstConstant a) x e = cc

name_tree-label : (l : Label) (x : RegionName) → name_of_label l ≡ Some x → node l empty ≡ region_tree x
name_tree-label (label.Leaf l) x e = name_tree l x e
name_tree-label (label.Bound a b d) x e = cc
name_tree-label (label.Ty h) x e = cc
name_tree-label (label.Const h) x e = cc
name_tree-label (label.Clause h) x e = cc
name_tree-label (label.Predicate h) x e = cc
name_tree-label (label.List h) x e = cc

pub named_tree : (t : Tree) (x : RegionName) → region_name t ≡ Some x → t ≡ region_tree x
named_tree empty x e = cc
named_tree (more a b) x e = cc
named_tree (node l c) x e = let (named, alone) = region_alone l c x e in ap (node l) alone ∙ name_tree-label l x named

abbrev pair_or : RegionName × RegionName → Option (RegionName × RegionName) → RegionName × RegionName
pair_or p None = p
pair_or p (Some q) = q

abbrev both_names : RegionName → RegionName → Option (RegionName × RegionName)
both_names x y = Some (x, y)

first : (x y a b : RegionName) → both_names x y ≡ both_names a b → x ≡ a
first x y a b e = ap (λ o. (pair_or (x, y) o).0) e

second : (x y a b : RegionName) → both_names x y ≡ both_names a b → y ≡ b
second x y a b e = ap (λ o. (pair_or (x, y) o).1) e

-- the sides of an equality between regions
equated_names : (r : Relation) (s t : Tree) (a b : RegionName) → equated r s t ≡ Some (a, b) → (r ≡ relation.Equal) × (region_name s ≡ Some a) × (region_name t ≡ Some b)
equated_names relation.Equal s t a b e = let both = go (region_name s) (region_name t) e in (refl, both.0, both.1)
  where
    go : (o p : Option RegionName) → two_names o p ≡ Some (a, b) → (o ≡ Some a) × (p ≡ Some b)
    go None None e = cc
    go None (Some y) e = cc
    go (Some x) None e = cc
    go (Some x) (Some y) e = (ap Some (first x y a b e), ap Some (second x y a b e))
equated_names relation.RegionOutlives s t a b e = cc
equated_names relation.TypeOutlives s t a b e = cc

names_equated : (s t : Tree) (a b : RegionName) → region_name s ≡ Some a → region_name t ≡ Some b → equated relation.Equal s t ≡ Some (a, b)
names_equated s t a b p q = rw (p, q) refl

-- what a region becomes: an instance, and then the map
module _ (κ : Instance) (f : RegionName → RegionName) where
  abbrev image_name : RegionName → RegionName
  image_name (of_variable n) = (κ.fits (leaf.Variable kind.Region n)).0
  image_name (of_free r) = (κ.fits (leaf.Region r)).0

  image_named : (x : RegionName) → region_name (instance_of κ (region_tree x)) ≡ Some (image_name x)
  image_named (of_variable n) = (κ.fits (leaf.Variable kind.Region n)).1
  image_named (of_free r) = (κ.fits (leaf.Region r)).1

  abbrev both : RegionName → RegionName
  both x = f (image_name x)

  abbrev rest_of : Option RegionName → Leaf → Tree
  rest_of None l = replace (region_by f) (κ.value l)
  rest_of (Some x) l = leaf_tree l

  abbrev rest : Leaf → Tree
  rest l = rest_of (name_of_leaf l) l

  rest_region : (x : RegionName) → replace rest (region_tree x) ≡ region_tree x
  rest_region (of_variable n) = refl
  rest_region (of_free r) = refl

  each_leaf : (l : Leaf) → replace (region_by f) (κ.value l) ≡ replace rest (region_by both l)
  each_leaf l = by_name (name_of_leaf l) refl
    where
      by_name : (o : Option RegionName) → name_of_leaf l ≡ o → replace (region_by f) (κ.value l) ≡ replace rest (region_by both l)
      by_name None e = let g : region_by both l ≡ leaf_tree l = rw e refl in rw g (rw e refl)
      by_name (Some x) e =
          let is : leaf_tree l ≡ region_tree x = name_tree l x e in
          let image : κ.value l ≡ region_tree (image_name x) = ap (instance_of κ) is ∙ named_tree (instance_of κ (region_tree x)) (image_name x) (image_named x) in
          let g : region_by both l ≡ region_tree (both x) = rw e refl in
          ap (replace (region_by f)) image ∙ region_tree-by f (image_name x) ∙ sym (ap (replace rest) g ∙ rest_region (both x))

  -- the instance and then the map is a map and then the rest
  after_instance : (t : Tree) → replace (region_by f) (instance_of κ t) ≡ replace rest (replace (region_by both) t)
  after_instance t = replace-replace (region_by f) κ.value t ∙ replace-equal _ _ each_leaf t ∙ sym (replace-replace rest (region_by both) t)

  -- what the instance grants the map makes one
  names_one : (xs : List Constraint) (s t : Tree) (a b : RegionName) → MakesOne f xs → region_name s ≡ Some a → region_name t ≡ Some b
      → (instance_of κ s ≡ instance_of κ t) ⊎ Among xs (record { relation = relation.Equal; left = instance_of κ s; right = instance_of κ t }) → both a ≡ both b
  names_one xs s t a b h p q g =
      let l : region_name (instance_of κ s) ≡ Some (image_name a) = ap (λ z. region_name (instance_of κ z)) (named_tree s a p) ∙ image_named a in
      let r : region_name (instance_of κ t) ≡ Some (image_name b) = ap (λ z. region_name (instance_of κ z)) (named_tree t b q) ∙ image_named b in
      ⊎_elim
      (λ e. let z : Some (image_name a) ≡ Some (image_name b) = sym l ∙ ap region_name e ∙ r in let y : image_name a ≡ image_name b = cc in ap f y)
      (λ i. h _ (image_name a) (image_name b) i (names_equated (instance_of κ s) (instance_of κ t) (image_name a) (image_name b) l r)) g

-- regions that stay
region_stays : (l : Leaf) → region_by (λ x. x) l ≡ leaf_tree l
region_stays l = by_name (name_of_leaf l) refl
  where
    by_name : (o : Option RegionName) → name_of_leaf l ≡ o → region_by (λ x. x) l ≡ leaf_tree l
    by_name None e = rw e refl
    by_name (Some x) e = let g : region_by (λ x. x) l ≡ region_tree x = rw e refl in g ∙ sym (name_tree l x e)

instance_stays : (κ : Instance) (t : Tree) → replace (region_by (λ x. x)) (instance_of κ t) ≡ instance_of κ t
instance_stays κ t =
    replace-replace (region_by (λ x. x)) κ.value t
    ∙ replace-equal _ κ.value (λ l. replace-equal _ leaf_tree region_stays (κ.value l) ∙ replace-leaf (κ.value l) (κ.formed l)) t

-- an instance that makes the sides of each equality one tree makes one tree of what is one from these hypotheses
pub one_at : (κ : Instance) (xs : List Constraint) (s t : Tree) → ((x : Constraint) → Among xs x → x.relation ≡ relation.Equal → instance_of κ x.left ≡ instance_of κ x.right) → AreOneBy xs s t → instance_of κ s ≡ instance_of κ t
one_at κ xs s t h e =
    let made : MakesOne (both κ (λ y. y)) xs = λ x a b i q. (let (r, p, o) = equated_names x.relation x.left x.right a b q in
    names_one κ (λ y. y) [] x.left x.right a b (λ y c d j k. absurd j) p o (inl (h x i r))) in
    sym (instance_stays κ s) ∙ after_instance κ (λ y. y) s ∙ ap (replace (rest κ (λ y. y))) (e (both κ (λ y. y)) made) ∙ sym (after_instance κ (λ y. y) t) ∙ instance_stays κ t

-- what is one from some hypotheses is one, under an instance that grants them, from others
pub one_under : (κ : Instance) (xs : List Constraint) (u : Sequent) (s t : Tree) → ((x : Constraint) → Among xs x → Grants u (constraint_under κ x)) → AreOneBy xs s t → AreOneBy u.constraints (instance_of κ s) (instance_of κ t)
one_under κ xs u s t g e f h =
    let made : MakesOne (both κ f) xs = λ x a b i q. (let (r, p, o) = equated_names x.relation x.left x.right a b q in
    names_one κ f u.constraints x.left x.right a b h p o (granted x r (g x i))) in
    after_instance κ f s ∙ ap (replace (rest κ f)) (e (both κ f) made) ∙ sym (after_instance κ f t)
  where
    at_equal : (r : Relation) (l k : Tree) → r ≡ relation.Equal → HasOneSide r (record { relation = r; left = l; right = k }) → l ≡ k
    at_equal relation.Equal l k q o = o
    at_equal relation.RegionOutlives l k q o = o
    at_equal relation.TypeOutlives l k q o = absurd o

    granted : (x : Constraint) → x.relation ≡ relation.Equal → Grants u (constraint_under κ x)
        → (instance_of κ x.left ≡ instance_of κ x.right) ⊎ Among u.constraints (record { relation = relation.Equal; left = instance_of κ x.left; right = instance_of κ x.right })
    granted x r (inl o) = inl (at_equal x.relation (instance_of κ x.left) (instance_of κ x.right) r o)
    granted x r (inr i) = inr (subst (λ z. Among u.constraints (record { relation = z; left = instance_of κ x.left; right = instance_of κ x.right })) r i)

-- trees without leaves
abbrev pub is_leaf : Label → Bool
is_leaf (label.Leaf l) = true
is_leaf l = false

leaf_is_leaf : (f : RegionName → RegionName) (l : Leaf) → any_label is_leaf (region_by f l) ≡ true
leaf_is_leaf f l = by_name (name_of_leaf l)
  where
    by_tree : (x : RegionName) → any_label is_leaf (region_tree x) ≡ true
    by_tree (of_variable n) = refl
    by_tree (of_free r) = refl

    by_name : (o : Option RegionName) → any_label is_leaf (region_or_leaf f o l) ≡ true
    by_name None = refl
    by_name (Some x) = by_tree (f x)

replace_back : (f : RegionName → RegionName) (t : Tree) → any_label is_leaf (replace (region_by f) t) ≡ false → replace (region_by f) t ≡ t
replace_back f empty e = refl
replace_back f (more a b) e = let h = or_false (any_label is_leaf (replace (region_by f) a)) (any_label is_leaf (replace (region_by f) b)) e in cc (replace_back f a h.0, replace_back f b h.1)
replace_back f (node (label.Leaf x) c) e = absurd (let z : true ≡ false = sym (leaf_is_leaf f x) ∙ e in cc z)
replace_back f (node (label.Bound a b d) c) e = ap (node (label.Bound a b d)) (replace_back f c e)
replace_back f (node (label.Ty h) c) e = ap (node (label.Ty h)) (replace_back f c e)
replace_back f (node (label.Const h) c) e = ap (node (label.Const h)) (replace_back f c e)
replace_back f (node (label.Clause h) c) e = ap (node (label.Clause h)) (replace_back f c e)
replace_back f (node (label.Predicate h) c) e = ap (node (label.Predicate h)) (replace_back f c e)
replace_back f (node (label.List h) c) e = ap (node (label.List h)) (replace_back f c e)

replace_leafless : (g : Leaf → Tree) (t : Tree) → any_label is_leaf t ≡ false → replace g t ≡ t
replace_leafless g empty e = refl
replace_leafless g (more a b) e = let h = or_false (any_label is_leaf a) (any_label is_leaf b) e in cc (replace_leafless g a h.0, replace_leafless g b h.1)
replace_leafless g (node (label.Leaf x) c) e = cc e
replace_leafless g (node (label.Bound a b d) c) e = ap (node (label.Bound a b d)) (replace_leafless g c e)
replace_leafless g (node (label.Ty h) c) e = ap (node (label.Ty h)) (replace_leafless g c e)
replace_leafless g (node (label.Const h) c) e = ap (node (label.Const h)) (replace_leafless g c e)
replace_leafless g (node (label.Clause h) c) e = ap (node (label.Clause h)) (replace_leafless g c e)
replace_leafless g (node (label.Predicate h) c) e = ap (node (label.Predicate h)) (replace_leafless g c e)
replace_leafless g (node (label.List h) c) e = ap (node (label.List h)) (replace_leafless g c e)

-- what is one with a tree without leaves is the tree
pub one_leafless : (xs : List Constraint) (s t : Tree) → any_label is_leaf t ≡ false → AreOneBy xs s t → s ≡ t
one_leafless xs s t e h =
    let f : RegionName → RegionName = λ x. of_free region.Static in
    let is : replace (region_by f) s ≡ t = h f (λ x a b i q. refl) ∙ replace_leafless (region_by f) t e in
    sym (replace_back f s (ap (any_label is_leaf) is ∙ e)) ∙ is

-- trees that are alike by the constraints are one by them
put_children : (g : Leaf → Tree) (l : Label) (c d : Tree) → c ≡ d → put g l c ≡ put g l d
put_children g l c d e = ap (put g l) e

equal_names : (xs : List Constraint) (s t : Tree) (a b : RegionName) (f : RegionName → RegionName) → MakesOne f xs → region_name s ≡ Some a → region_name t ≡ Some b
    → (s ≡ t) ⊎ Among xs (record { relation = relation.Equal; left = s; right = t }) → f a ≡ f b
equal_names xs s t a b f h p q (inl e) = let z : Some a ≡ Some b = sym p ∙ ap region_name e ∙ q in let y : a ≡ b = cc in ap f y
equal_names xs s t a b f h p q (inr i) = h _ a b i (names_equated s t a b p q)

pub one_alike : (xs : List Constraint) (s t : Tree) → Alike (λ x y. (x ≡ y) ⊎ Among xs (record { relation = relation.Equal; left = x; right = y })) s t → AreOneBy xs s t
one_alike xs s t one_tree f h = refl
one_alike xs s t (two_regions (a, p) (b, q) r) f h =
    ap (replace (region_by f)) (named_tree s a p) ∙ region_tree-by f a ∙ ap region_tree (equal_names xs s t a b f h p q r) ∙ sym (ap (replace (region_by f)) (named_tree t b q) ∙ region_tree-by f b)
one_alike xs s t (one_label {l = l} {c = c} {d = d} n al) f h = put_children (region_by f) l _ _ (one_alike xs c d al f h)
one_alike xs s t (two_rows {a = a} {b = b} {c = c} {d = d} x y) f h = cc (one_alike xs a c x f h, one_alike xs b d y f h)
