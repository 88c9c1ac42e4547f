-- The table's own reading is a world that solves it.
use Rattle.std.proofs.Common.{◌≡◌, ◌≢◌, ◌⊎◌, inl, inr, ⊎_elim, ℕ, ◌≤◌, Bool, true, false, List, [], ◌∷◌, Option, Some, None, refl, sym, ap, ◌∙◌, arith, rules}
use Rattle.std.specs.Prelude.{◌==◌, if◌then◌else◌, slice_get, reverse}
use Rattle.nts_model.specs.declared.labels.Relation.{Relation}
use Rattle.nts_model.specs.declared.labels.Relation.TheVariants as relation
use Rattle.nts_model.specs.declared.labels.VariableKind.{VariableKind}
use Rattle.nts_model.specs.declared.labels.VariableKind.TheVariants as kind
use Rattle.nts_model.specs.declared.labels.FreeRegion.{FreeRegion}
use Rattle.nts_model.specs.declared.labels.FreeRegion.TheVariants as region
use Rattle.nts_model.specs.declared.labels.Leaf.TheVariants as leaf
use Rattle.nts_model.specs.declared.labels.Label.{Label}
use Rattle.nts_model.specs.declared.labels.Label.TheVariants as label
use Rattle.nts_model.specs.Terms.Trees.{Tree, empty, more, node, infer_of, variable_of, variable_tree}
use Rattle.nts_model.specs.Tables.Contents.{Content, Slot, SlotState, unset, link, known, Recorded, state_of, universe_of, kind_at}
use Rattle.nts_model.specs.Tables.Resolving.{replaced, replaced_at, under, IsOneOf, kind_or_type, value_of_state, value_at, resolved, Knows, KnowsVariable, IsSound}
use Rattle.nts_model.specs.Terms.Placeholders.{CanName}
use Rattle.nts_model.specs.Tables.Levels.{NamesAll, IfNamesAll, term_level, level_in, IsLevelled}
use Rattle.nts_model.specs.Tables.Worlds.{World, renamed, inst, SolvesState, IsTrueOf, AreMet, with_tree, KnowsAll}
use Rattle.nts_model.specs.Terms.Regions.{RegionName, of_variable, of_free, region_tree, region_name, name_of_label}
use Rattle.nts_model.specs.Tables.RegionClasses.{are_same, free_regions_are_same, collapse, root_name, equated, merged, class_of, free_of, plain_tree, plain, composed, reading, AreRegions, AllRegions}
use Rattle.nts_model.proofs.Terms.Variables.{infer_label, infer_of_none, infer_of_region, infer_number_some}
use Rattle.nts_model.proofs.Tables.Under.{eq-self, same_or_other}
use Rattle.nts_model.proofs.Tables.Slots.{no_slot, some_slot}
use Rattle.nts_model.proofs.Tables.Roots.{root_of-link}
use Rattle.nts_model.proofs.Tables.Resolved.{IsVariable, resolved-node, resolved-variable_known, resolved-variable_link}
use Rattle.nts_model.proofs.Tables.Open.{AreClosedOf, Knows-under, values_closed_of}
use Rattle.nts_model.proofs.Tables.Instances.{inst-variable, inst-node}
use Rattle.nts_model.proofs.Tables.Solving.{NamesAll-more}
use Rattle.nts_model.proofs.Tables.Slots.{CanName-more}
use Rattle.nts_model.proofs.Tables.Naming.{names_if as names-if}

-- instances of resolved trees
renamed-with_tree : (w : World) (n : ℕ) (t : Tree) (l : Label) → renamed (with_tree w n t) l ≡ renamed w l
renamed-with_tree w n t (label.Leaf (leaf.Region r)) = refl
renamed-with_tree w n t (label.Leaf (leaf.Variable k m)) = refl
renamed-with_tree w n t (label.Leaf (leaf.TyConstant a)) = refl
renamed-with_tree w n t (label.Leaf (leaf.ConstConstant a)) = refl
renamed-with_tree w n t (label.Bound a b d) = refl
renamed-with_tree w n t (label.Ty h) = refl
renamed-with_tree w n t (label.Const h) = refl
renamed-with_tree w n t (label.Clause h) = refl
renamed-with_tree w n t (label.Predicate h) = refl
renamed-with_tree w n t (label.List h) = refl

inst-if : (w : World) (b : Bool) (s t : Tree) → inst w (if b then s else t) ≡ (if b then inst w s else inst w t)
inst-if w true s t = refl
inst-if w false s t = refl

-- a region variable is not a variable of another kind
other_number : (c : Content) (n m : ℕ) → (kind_at c n ≡ Some kind.Region → ⊥) → kind_at c m ≡ Some kind.Region → (m == n) ≡ false
other_number c n m h k = by_case (same_or_other m n)
  where
    by_case : (m ≡ n) ⊎ (m ≡ n → ⊥) → (m == n) ≡ false
    by_case (inl e) = absurd (h (ap (kind_at c) (sym e) ∙ k))
    by_case (inr d) = grind arith

inst-replaced_infer : (w : World) (n : ℕ) (s : Tree) (l : Label) (t x : Tree) (k : VariableKind) (m : ℕ) → variable_of l ≡ Some (k, m) → infer_of l ≡ Some m → inst w (replaced_at (infer_of l) n s (node l t) (node l x)) ≡ inst (with_tree w n (inst w s)) (node l t)
inst-replaced_infer w n s l t x k m e i =
    rw i (inst-if w (m == n) s (node l t) ∙ ap (λ z. if m == n then inst w s else z) (inst-variable w l t k m e) ∙ sym (inst-variable (with_tree w n (inst w s)) l t k m e))

inst-replaced_variable : (c : Content) (w : World) (n : ℕ) (s : Tree) (l : Label) (t x : Tree) (o : Option (VariableKind × ℕ)) → (kind_at c n ≡ Some kind.Region → ⊥) → KnowsVariable c o → variable_of l ≡ o → inst w x ≡ inst (with_tree w n (inst w s)) t → inst w (replaced_at (infer_of l) n s (node l t) (node l x)) ≡ inst (with_tree w n (inst w s)) (node l t)
inst-replaced_variable c w n s l t x None h k e q =
    rw (infer_of_none l e) (inst-node w l x e ∙ cc (renamed-with_tree w n (inst w s) l, q) ∙ sym (inst-node (with_tree w n (inst w s)) l t e))
inst-replaced_variable c w n s l t x (Some (kind.Region, m)) h k e q =
    let apart = other_number c n m h k in
    rw (infer_of_region l m e) (inst-variable w l x kind.Region m e ∙ rw apart refl ∙ sym (inst-variable (with_tree w n (inst w s)) l t kind.Region m e))
inst-replaced_variable c w n s l t x (Some (kind.Ty, m)) h k e q = inst-replaced_infer w n s l t x kind.Ty m e (rw e refl)
inst-replaced_variable c w n s l t x (Some (kind.Int, m)) h k e q = inst-replaced_infer w n s l t x kind.Int m e (rw e refl)
inst-replaced_variable c w n s l t x (Some (kind.Float, m)) h k e q = inst-replaced_infer w n s l t x kind.Float m e (rw e refl)
inst-replaced_variable c w n s l t x (Some (kind.Const, m)) h k e q = inst-replaced_infer w n s l t x kind.Const m e (rw e refl)

inst-replaced : (c : Content) (w : World) (n : ℕ) (s t : Tree) → (kind_at c n ≡ Some kind.Region → ⊥) → Knows c t → inst w (replaced n s t) ≡ inst (with_tree w n (inst w s)) t
inst-replaced c w n s empty h k = refl
inst-replaced c w n s (more a b) h k = cc (inst-replaced c w n s a h k.0, inst-replaced c w n s b h k.1)
inst-replaced c w n s (node l t) h k = inst-replaced_variable c w n s l t (replaced n s t) (variable_of l) h k.0.0 refl (inst-replaced c w n s t h k.1)

-- the instance of a tree under values is its instance in a world with the values' instances
pub inst-under : (c : Content) (w : World) (val : ℕ → Tree) (ns : List ℕ) (t : Tree) → ((n : ℕ) → IsOneOf n ns → kind_at c n ≡ Some kind.Region → ⊥) → AreClosedOf c val → Knows c t → inst w (under val ns t) ≡ inst (composed w val ns) t
inst-under c w val [] t h v k = refl
inst-under c w val (n ∷ ns) t h v k =
    inst-replaced c w n (under val ns (val n)) (under val ns t) (h n (inl refl)) (Knows-under c val ns t v k)
    ∙ inst-under c (with_tree w n (inst w (under val ns (val n)))) val ns t (λ m q. h m (inr q)) v k

composed-region : (w : World) (val : ℕ → Tree) (ns : List ℕ) → (composed w val ns).region ≡ w.region
composed-region w val [] = refl
composed-region w val (n ∷ ns) = composed-region (with_tree w n (inst w (under val ns (val n)))) val ns

composed-outlives : (w : World) (val : ℕ → Tree) (ns : List ℕ) → (composed w val ns).outlives ≡ w.outlives
composed-outlives w val [] = refl
composed-outlives w val (n ∷ ns) = composed-outlives (with_tree w n (inst w (under val ns (val n)))) val ns

-- the classes of a table's regions
abbrev pub classes : Content → RegionName → RegionName
classes c = class_of c c.constraints

-- what a tree is in the table's reading: its resolved tree, where regions stand for their classes
pub inst-reading : (c : Content) (t : Tree) → IsSound c → Knows c t → inst (reading c) t ≡ inst (plain c (classes c)) (resolved c t)
inst-reading c t s k =
    sym (inst-under c (plain c (classes c)) (value_at c) (reverse c.order) t (λ n q. s.no_region n q) (values_closed_of c s) k)

-- regions with one root are of one class
merged-same : (f : RegionName → RegionName) (o : Option (RegionName × RegionName)) (x y : RegionName) → f x ≡ f y → merged f o x ≡ merged f o y
merged-same f None x y e = e
merged-same f (Some p) x y e = ap (collapse (f p.0) (f p.1)) e

pub class_of-root : (c : Content) (rs : List Recorded) (x y : RegionName) → root_name c x ≡ root_name c y → class_of c rs x ≡ class_of c rs y
class_of-root c [] x y e = e
class_of-root c (r ∷ rs) x y e = merged-same (class_of c rs) (equated r.relation r.left r.right) x y (class_of-root c rs x y e)

-- a free region's class has the name of a free region
pub data IsFree : RegionName → Type 0 where
  is_free : {r : FreeRegion} → IsFree (of_free r)

collapse-free : (a b x : RegionName) → IsFree x → IsFree (collapse a b x)
collapse-free (of_free r) b x h = by_case (are_same x b)
  where
    by_case : (z : Bool) → IsFree (if z then of_free r else x)
    by_case true = is_free
    by_case false = h
collapse-free (of_variable n) b (of_free r) h = is_free
collapse-free (of_variable n) b (of_variable m) h = elim h [ ]

merged-free : (f : RegionName → RegionName) (o : Option (RegionName × RegionName)) (x : RegionName) → IsFree (f x) → IsFree (merged f o x)
merged-free f None x h = h
merged-free f (Some p) x h = collapse-free (f p.0) (f p.1) (f x) h

class_of-free : (c : Content) (rs : List Recorded) (r : FreeRegion) → IsFree (class_of c rs (of_free r))
class_of-free c [] r = is_free
class_of-free c (x ∷ rs) r = merged-free (class_of c rs) (equated x.relation x.left x.right) (of_free r) (class_of-free c rs r)

region_tree-free : (r : FreeRegion) (x : RegionName) → IsFree x → node (label.Leaf (leaf.Region (free_of r x))) empty ≡ region_tree x
region_tree-free r (of_free s) h = refl
region_tree-free r (of_variable n) h = elim h [ ]

free_same : (r : FreeRegion) → free_regions_are_same r r ≡ true
free_same region.Static = refl
free_same (region.EarlyParam a) = eq-self a
free_same (region.LateParam a) = eq-self a
free_same (region.Placeholder u a) = rw (eq-self u, eq-self a) refl
free_same region.Erased = refl
free_same region.Error = refl

pub are_same-self : (x : RegionName) → are_same x x ≡ true
are_same-self (of_variable n) = eq-self n
are_same-self (of_free r) = free_same r

if_same : (b : Bool) (x : RegionName) → (if b then x else x) ≡ x
if_same true x = refl
if_same false x = refl

collapse-one : (a b : RegionName) → collapse a b a ≡ collapse a b b
collapse-one (of_free r) b = if_same (are_same (of_free r) b) (of_free r) ∙ rw (are_same-self b) refl
collapse-one (of_variable n) b = rw (eq-self n) (sym (if_same (are_same b (of_variable n)) b))

abbrev pub OneClass : (RegionName → RegionName) → Option (RegionName × RegionName) → Type 0
OneClass f None = Unit {0}
OneClass f (Some p) = f p.0 ≡ f p.1

abbrev pub AllOneClass : (RegionName → RegionName) → List Recorded → Type 0
AllOneClass f [] = Unit {0}
AllOneClass f (x ∷ xs) = OneClass f (equated x.relation x.left x.right) × AllOneClass f xs

OneClass-merged : (f : RegionName → RegionName) (o p : Option (RegionName × RegionName)) → OneClass f p → OneClass (merged f o) p
OneClass-merged f o None h = tt
OneClass-merged f o (Some p) h = merged-same f o p.0 p.1 h

AllOneClass-merged : (f : RegionName → RegionName) (o : Option (RegionName × RegionName)) (xs : List Recorded) → AllOneClass f xs → AllOneClass (merged f o) xs
AllOneClass-merged f o [] h = tt
AllOneClass-merged f o (x ∷ xs) h = (OneClass-merged f o (equated x.relation x.left x.right) h.0, AllOneClass-merged f o xs h.1)

OneClass-first : (f : RegionName → RegionName) (o : Option (RegionName × RegionName)) → OneClass (merged f o) o
OneClass-first f None = tt
OneClass-first f (Some p) = collapse-one (f p.0) (f p.1)

pub AllOneClass-class_of : (c : Content) (xs : List Recorded) → AllOneClass (class_of c xs) xs
AllOneClass-class_of c [] = tt
AllOneClass-class_of c (x ∷ xs) = (
  OneClass-first (class_of c xs) (equated x.relation x.left x.right),
  AllOneClass-merged (class_of c xs) (equated x.relation x.left x.right) xs (AllOneClass-class_of c xs),
)

-- a region in the table's reading
pub name_label : (l : Label) (a : RegionName) → name_of_label l ≡ Some a → ((n : ℕ) × (variable_of l ≡ Some (kind.Region, n)) × (a ≡ of_variable n)) ⊎ ((r : FreeRegion) × (l ≡ label.Leaf (leaf.Region r)) × (a ≡ of_free r))
name_label (label.Leaf (leaf.Variable kind.Region n)) a e = inl (n, refl, cc)
name_label (label.Leaf (leaf.Variable kind.Ty n)) a e = cc
name_label (label.Leaf (leaf.Variable kind.Int n)) a e = cc
name_label (label.Leaf (leaf.Variable kind.Float n)) a e = cc
name_label (label.Leaf (leaf.Variable kind.Const n)) a e = cc
name_label (label.Leaf (leaf.Region r)) a e = inr (r, refl, cc)
name_label (label.Leaf (leaf.TyConstant x)) a e = cc
name_label (label.Leaf (leaf.ConstConstant x)) a e = cc
name_label (label.Bound x y z) a e = cc
name_label (label.Ty h) a e = cc
name_label (label.Const h) a e = cc
name_label (label.Clause h) a e = cc
name_label (label.Predicate h) a e = cc
name_label (label.List h) a e = cc

pub tree-region : (c : Content) (n : ℕ) → IsSound c → kind_at c n ≡ Some kind.Region → (reading c).tree n ≡ region_tree (classes c (of_variable n))
tree-region c n s k =
    let alone : resolved c (variable_tree kind.Region n) ≡ node (label.Leaf (leaf.Variable kind.Region n)) (resolved c empty) = resolved-node c (label.Leaf (leaf.Variable kind.Region n)) empty refl in
    let is : (plain c (classes c)).tree n ≡ region_tree (classes c (of_variable n)) = rw k refl in
    inst-reading c (variable_tree kind.Region n) s ((k, tt, refl), tt, tt) ∙ ap (inst (plain c (classes c))) alone ∙ is

inst-region : (c : Content) (t : Tree) (a : RegionName) → IsSound c → Knows c t → region_name t ≡ Some a → inst (reading c) t ≡ region_tree (classes c a)
inst-region c empty a s k e = cc
inst-region c (more x y) a s k e = cc
inst-region c (node l (more x y)) a s k e = cc
inst-region c (node l (node m x)) a s k e = cc
inst-region c (node l empty) a s k e = ⊎_elim
    (λ (v : (n : ℕ) × (variable_of l ≡ Some (kind.Region, n)) × (a ≡ of_variable n)).
    let has : kind_at c v.0 ≡ Some kind.Region = (let q = v.1 in rw q at k.0.0) in
    inst-variable (reading c) l empty kind.Region v.0 v.1 ∙ tree-region c v.0 s has ∙ ap (λ x. region_tree (classes c x)) (sym v.2))
    (λ (r : (r : FreeRegion) × (l ≡ label.Leaf (leaf.Region r)) × (a ≡ of_free r)).
    let what : inst (reading c) (node l empty) ≡ node (label.Leaf (leaf.Region ((reading c).region r.0))) empty = ap (λ z. inst (reading c) (node z empty)) r.1 in
    let same : (reading c).region r.0 ≡ (plain c (classes c)).region r.0 = ap (λ (f : FreeRegion → FreeRegion). f r.0) (composed-region (plain c (classes c)) (value_at c) (reverse c.order)) in
    what ∙ ap (λ z. node (label.Leaf (leaf.Region z)) empty) same ∙ region_tree-free r.0 (classes c (of_free r.0)) (class_of-free c c.constraints r.0) ∙ ap (λ x. region_tree (classes c x)) (sym r.2))
    (name_label l a e)

-- the reading makes the constraints true
reading-true : (c : Content) (r : Relation) (a b : Tree) → IsSound c → Knows c a → Knows c b → AreRegions r a b → OneClass (classes c) (equated r a b) → IsTrueOf (reading c) r (inst (reading c) a) (inst (reading c) b)
reading-true c relation.Equal a b s j k h one =
    let left = h.0 in let right = h.1 in
    let both : equated relation.Equal a b ≡ Some (left.0, right.0) = rw (left.1, right.1) refl in
    let same : classes c left.0 ≡ classes c right.0 = rw both at one in
    inst-region c a left.0 s j left.1 ∙ ap region_tree same ∙ sym (inst-region c b right.0 s k right.1)
reading-true c relation.RegionOutlives a b s j k h one =
    inr (ap (λ (f : Tree → Tree → Bool). f (inst (reading c) a) (inst (reading c) b)) (composed-outlives (plain c (classes c)) (value_at c) (reverse c.order)))
reading-true c relation.TypeOutlives a b s j k h one =
    ap (λ (f : Tree → Tree → Bool). f (inst (reading c) a) (inst (reading c) b)) (composed-outlives (plain c (classes c)) (value_at c) (reverse c.order))

pub reading-met : (c : Content) (xs : List Recorded) → IsSound c → KnowsAll c xs → AllRegions xs → AllOneClass (classes c) xs → AreMet (reading c) xs
reading-met c [] s k h one = tt
reading-met c (x ∷ xs) s k h one = (reading-true c x.relation x.left x.right s k.0 k.1 h.0 one.0, reading-met c xs s k.2 h.1 one.1)

-- the reading makes values and links true
has_kind : (c : Content) (n : ℕ) (x : SlotState) → state_of c n ≡ Some x → (k : VariableKind) × (kind_at c n ≡ Some k)
has_kind c n x e = by_case (slice_get c.slots n) refl
  where
    by_case : (o : Option Slot) → slice_get c.slots n ≡ o → (k : VariableKind) × (kind_at c n ≡ Some k)
    by_case None q = let z : None ≡ Some x = sym (no_slot (λ v. v.state) c n q) ∙ e in cc
    by_case (Some v) q = (v.kind, some_slot (λ v. v.kind) c n v q)

is_region : (k : VariableKind) → (k ≡ kind.Region) ⊎ (k ≢ kind.Region)
is_region kind.Region = inl refl
is_region kind.Ty = inr (λ e. cc)
is_region kind.Int = inr (λ e. cc)
is_region kind.Float = inr (λ e. cc)
is_region kind.Const = inr (λ e. cc)

pub tree-reading : (c : Content) (n : ℕ) (k : VariableKind) → IsSound c → kind_at c n ≡ Some k → (reading c).tree n ≡ inst (plain c (classes c)) (resolved c (variable_tree k n))
tree-reading c n k s e = inst-reading c (variable_tree k n) s ((e, tt, refl), tt, tt)

reading-link : (c : Content) (n m : ℕ) (k : VariableKind) → IsSound c → kind_at c n ≡ Some k → state_of c n ≡ Some (link m) → (k ≡ kind.Region) ⊎ (k ≢ kind.Region) → (reading c).tree n ≡ (reading c).tree m
reading-link c n m k s h e (inl r) =
    let here : kind_at c n ≡ Some kind.Region = h ∙ ap Some r in
    let there : kind_at c m ≡ Some kind.Region = s.one_kind n m e ∙ here in
    let roots : root_name c (of_variable n) ≡ root_name c (of_variable m) = ap of_variable (root_of-link c n m s.descends e) in
    tree-region c n s here ∙ ap region_tree (class_of-root c c.constraints (of_variable n) (of_variable m) roots) ∙ sym (tree-region c m s there)
reading-link c n m k s h e (inr r) =
    let there : kind_at c m ≡ Some k = s.one_kind n m e ∙ h in
    let is : IsVariable c (label.Leaf (leaf.Variable k n)) k n = record { is = refl; no_region = r; has = h } in
    tree-reading c n k s h ∙ ap (inst (plain c (classes c))) (resolved-variable_link c (label.Leaf (leaf.Variable k n)) empty k n m s is e) ∙ sym (tree-reading c m k s there)

reading-known : (c : Content) (n : ℕ) (k : VariableKind) (t : Tree) → IsSound c → kind_at c n ≡ Some k → state_of c n ≡ Some (known t) → (reading c).tree n ≡ inst (reading c) t
reading-known c n k t s h e =
    let value : resolved c (variable_tree k n) ≡ resolved c t = resolved-variable_known c (label.Leaf (leaf.Variable k n)) empty n t s (infer_number_some k n ((s.fits n t k e h).1)) e in
    tree-reading c n k s h ∙ ap (inst (plain c (classes c))) value ∙ sym (inst-reading c t s (s.known_trees n t e))

pub reading-values : (c : Content) (n : ℕ) (o : Option SlotState) → IsSound c → state_of c n ≡ o → SolvesState (reading c) n o
reading-values c n None s e = tt
reading-values c n (Some unset) s e = tt
reading-values c n (Some (link m)) s e = let k = has_kind c n (link m) e in reading-link c n m k.0 s k.1 e (is_region k.0)
reading-values c n (Some (known t)) s e = let k = has_kind c n (known t) e in reading-known c n k.0 t s k.1 e

-- universes name resolved trees
infer_level : (c : Content) (l : Label) (i : ℕ) → infer_of l ≡ Some i → level_in c l ≡ universe_of c i
infer_level c l i e = let v = infer_label l i e in let q = v.is in rw q refl

names-replaced_at : (c : Content) (u n : ℕ) (o : Option ℕ) (s : Tree) (l : Label) (t x : Tree) → infer_of l ≡ o → ((v : ℕ) → CanName v (universe_of c n) → NamesAll (level_in c) v s) → NamesAll (level_in c) u (node l t) → NamesAll (level_in c) u x → NamesAll (level_in c) u (replaced_at o n s (node l t) (node l x))
names-replaced_at c u n None s l t x e h k q = (k.0, q)
names-replaced_at c u n (Some i) s l t x e h k q =
    let level : CanName u (universe_of c i) = (let z = infer_level c l i e in rw z at k.0) in
    names-if (level_in c) u (i == n) s (node l t) (λ z. (let same : i ≡ n = search (rules, z) in h u (rw same at level))) k

NamesAll-replaced : (c : Content) (u n : ℕ) (s t : Tree) → ((v : ℕ) → CanName v (universe_of c n) → NamesAll (level_in c) v s) → NamesAll (level_in c) u t → NamesAll (level_in c) u (replaced n s t)
NamesAll-replaced c u n s empty h k = tt
NamesAll-replaced c u n s (more a b) h k = (NamesAll-replaced c u n s a h k.0, NamesAll-replaced c u n s b h k.1)
NamesAll-replaced c u n s (node l t) h k = names-replaced_at c u n (infer_of l) s l t (replaced n s t) refl h k (NamesAll-replaced c u n s t h k.1)

NamesAll-under : (c : Content) (val : ℕ → Tree) (ns : List ℕ) (u : ℕ) (t : Tree) → ((n v : ℕ) → CanName v (universe_of c n) → NamesAll (level_in c) v (val n)) → NamesAll (level_in c) u t → NamesAll (level_in c) u (under val ns t)
NamesAll-under c val [] u t h k = k
NamesAll-under c val (n ∷ ns) u t h k =
    NamesAll-replaced c u n (under val ns (val n)) (under val ns t) (λ v l. NamesAll-under c val ns v (val n) h (h n v l)) (NamesAll-under c val ns u t h k)

value-names : (c : Content) (n v : ℕ) → IsLevelled c → CanName v (universe_of c n) → NamesAll (level_in c) v (value_at c n)
value-names c n v h l = by_slot (slice_get c.slots n) refl
  where
    by_state : (x : Slot) (o : SlotState) → slice_get c.slots n ≡ Some x → x.state ≡ o → NamesAll (level_in c) v (value_of_state x.kind (Some o))
    by_state x unset e q = tt
    by_state x (link m) e q =
        let universe : universe_of c n ≡ Some x.universe = some_slot (λ y. y.universe) c n x e in
        let low : x.universe ≤ v = rw universe at l in
        (CanName-more x.universe v (universe_of c m) low (h.links n m x.universe (some_slot (λ y. y.state) c n x e ∙ ap Some q) universe), tt)
    by_state x (known t) e q =
        let universe : universe_of c n ≡ Some x.universe = some_slot (λ y. y.universe) c n x e in
        let low : x.universe ≤ v = rw universe at l in
        NamesAll-more (level_in c) x.universe v t low (h.values n x.universe t (some_slot (λ y. y.state) c n x e ∙ ap Some q) universe)

    by_slot : (o : Option Slot) → slice_get c.slots n ≡ o → NamesAll (level_in c) v (value_at c n)
    by_slot None e = rw e tt
    by_slot (Some x) e = rw e (by_state x x.state e refl)

-- a universe that names a tree names the tree under its values
pub NamesAll-resolved : (c : Content) (u : ℕ) (t : Tree) → IsLevelled c → NamesAll (level_in c) u t → NamesAll (level_in c) u (resolved c t)
NamesAll-resolved c u t h k = NamesAll-under c (value_at c) (reverse c.order) u t (λ n v l. value-names c n v h l) k

-- a plain world's trees have no placeholders but those of the regions
plain_names : (f : RegionName → RegionName) (u : ℕ) (k : VariableKind) (n : ℕ) → NamesAll term_level u (plain_tree f k n)
plain_names f u kind.Ty n = (tt, tt)
plain_names f u kind.Int n = (tt, tt)
plain_names f u kind.Float n = (tt, tt)
plain_names f u kind.Const n = (tt, tt)
plain_names f u kind.Region n = by_name (f (of_variable n))
  where
    by_name : (x : RegionName) → NamesAll term_level u (region_tree x)
    by_name (of_variable m) = (tt, tt)
    by_name (of_free r) = (tt, tt)

pub term_level-renamed : (w : World) (l : Label) → term_level (renamed w l) ≡ term_level l
term_level-renamed w (label.Leaf (leaf.Region r)) = refl
term_level-renamed w (label.Leaf (leaf.Variable k m)) = refl
term_level-renamed w (label.Leaf (leaf.TyConstant a)) = refl
term_level-renamed w (label.Leaf (leaf.ConstConstant a)) = refl
term_level-renamed w (label.Bound a b d) = refl
term_level-renamed w (label.Ty h) = refl
term_level-renamed w (label.Const h) = refl
term_level-renamed w (label.Clause h) = refl
term_level-renamed w (label.Predicate h) = refl
term_level-renamed w (label.List h) = refl

names-plain : (c : Content) (f : RegionName → RegionName) (u : ℕ) (t : Tree) → NamesAll (level_in c) u t → NamesAll term_level u (inst (plain c f) t)
names-plain c f u empty h = tt
names-plain c f u (more a b) h = (names-plain c f u a h.0, names-plain c f u b h.1)
names-plain c f u (node l t) h = by_case (variable_of l) refl (names-plain c f u t h.1)
  where
    by_case : (o : Option (VariableKind × ℕ)) → variable_of l ≡ o → NamesAll term_level u (inst (plain c f) t) → NamesAll term_level u (inst (plain c f) (node l t))
    by_case None e k =
        let level : CanName u (term_level l) = rw e at h.0 in
        rw (e, term_level-renamed (plain c f) l) (level, k)
    by_case (Some v) e k = rw e (plain_names f u (kind_or_type (kind_at c v.1)) v.1)

has_kind_of : (c : Content) (n u : ℕ) → universe_of c n ≡ Some u → (k : VariableKind) × (kind_at c n ≡ Some k)
has_kind_of c n u e = by_case (slice_get c.slots n) refl
  where
    by_case : (o : Option Slot) → slice_get c.slots n ≡ o → (k : VariableKind) × (kind_at c n ≡ Some k)
    by_case None q = let z : None ≡ Some u = sym (no_slot (λ v. v.universe) c n q) ∙ e in cc
    by_case (Some v) q = (v.kind, some_slot (λ v. v.kind) c n v q)

pub reading-names : (c : Content) (n : ℕ) (o : Option ℕ) → IsSound c → IsLevelled c → universe_of c n ≡ o → IfNamesAll term_level o ((reading c).tree n)
reading-names c n None s h e = tt
reading-names c n (Some u) s h e =
    let k = has_kind_of c n u e in
    let start : NamesAll (level_in c) u (variable_tree k.0 n) = (rw e (omega arith), tt) in
    rw (tree-reading c n k.0 s k.1) (names-plain c (classes c) u (resolved c (variable_tree k.0 n)) (NamesAll-resolved c u (variable_tree k.0 n) h start))
