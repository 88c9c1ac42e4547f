-- A solution of a caller's table makes one of the query that is asked, and what the answer contains is granted to the caller.
use Rattle.std.proofs.Common.{◌≡◌, inl, inr, ℕ, zero, suc, ◌+◌, ◌≤◌, ◌<◌, List, [], ◌∷◌, map, get_or, Option, Some, None, refl, sym, ap, subst, ◌∙◌, arith}
use Rattle.std.specs.Prelude.{slice_get, Contains}
use Rattle.nts_model.specs.declared.labels.Sort.{Sort}
use Rattle.nts_model.specs.declared.labels.Sort.TheVariants as sort
use Rattle.nts_model.specs.declared.labels.Relation.{Relation}
use Rattle.nts_model.specs.declared.labels.Relation.TheVariants as relation
use Rattle.nts_model.specs.declared.labels.VariableKind.{VariableKind}
use Rattle.nts_model.specs.declared.labels.VariableKind.TheVariants as kind
use Rattle.nts_model.specs.declared.labels.FreeRegion.TheVariants as region
use Rattle.nts_model.specs.declared.labels.Leaf.{Leaf}
use Rattle.nts_model.specs.declared.labels.Leaf.TheVariants as leaf
use Rattle.nts_model.specs.declared.labels.Label.{Label}
use Rattle.nts_model.specs.declared.labels.Label.TheVariants as label
use Rattle.nts_model.specs.Terms.Trees.{Tree, empty, more, node, IsFormed, variable_of}
use Rattle.nts_model.specs.Tables.Contents.{Content, Slot, Recorded, map_slot, universe_of, kind_at}
use Rattle.nts_model.specs.Tables.Resolving.{Knows}
use Rattle.nts_model.specs.Terms.Placeholders.{CanName, leaf_level}
use Rattle.nts_model.specs.Tables.Levels.{NamesAll, term_level}
use Rattle.nts_model.specs.Terms.Regions.{RegionName, of_variable, of_free, region_tree, IsRegion}
use Rattle.nts_model.specs.Terms.Fitting.{Fits}
use Rattle.nts_model.specs.Tables.Worlds.{World, inst, IsTrueOf, IsValue}
use Rattle.nts_model.specs.Terms.Substitutions.{leaf_tree, Occurs, instance_of, filled}
use Rattle.nts_model.specs.Lists.{Among}
use Rattle.nts_model.specs.Tables.Passing.{AllLabels}
use Rattle.nts_model.specs.Derivations.Handlers.{IsFixed}
use Rattle.nts_model.specs.Canonical.Inputs.{PositionKind, type_variable, integer_variable, float_variable, const_variable, region_variable, placeholder, position_kind}
use Rattle.nts_model.specs.Answers.Responses.{Response, IsOverPositions, IsResponseTo, placeholder_tree, read_in, IsImageOf, AreImagesOf, IsNamedBy, AreNamedBy, AreEqualIn, AreMetIn, GrantsFor}
use Rattle.nts_model.specs.Refutation.Containing.{IsAliasFree, Truth, IsTrueBy, original_level, IsSolution, IsFreeRegion, IsRootValue, IsInputValue, AreInputValues, IsOwnValue, IsAnswerValue, AreAnswerValues, AreMetBy, ContainsSolution, Carrier, IsGroundLabel}
use Rattle.nts_model.proofs.Tables.Instances.{inst-node}
use Rattle.nts_model.proofs.Tables.Solving.{NamesAll-more}
use Rattle.nts_model.proofs.Terms.Identified.{named_tree}
use Rattle.nts_model.proofs.Terms.Substituting.{leaf_alone, no_children}
use Rattle.nts_model.proofs.Terms.Composing.{IsFormed-instance}
use Rattle.nts_theory.proofs.Derivations.ProvedLater.{contains_first, contains_later}
use Rattle.nts_model.specs.declared.labels.TyHead.TheVariants as ty
use Rattle.nts_model.proofs.Canonical.Positioned.{inst-filled, filled_under-fixed, instance_of-filled}
use Rattle.nts_theory.proofs.Refutation.Carrying.{value_instance, names_terms, carried_back, lowered, raised}

-- a leaf's image stands where the leaf stands
leaf_inside : (w : World) (l : Leaf) (m : Label) (c : Tree) → label.Leaf l ≡ m → IsFormed (node m c) → inst w (node m c) ≡ inst w (leaf_tree l)
leaf_inside w l m c e f = subst (λ z. IsFormed (node z c) → inst w (node z c) ≡ inst w (leaf_tree l)) e (λ g. ap (λ z. inst w (node (label.Leaf l) z)) (leaf_alone l c g)) f

children_of_inst : (P : Tree → Type 0) → ((l : Label) (c : Tree) → P (node l c) → P c) → (w : World) (m : Label) (c : Tree) → variable_of m ≡ None → P (inst w (node m c)) → P (inst w c)
children_of_inst P h w m c e p = h _ (inst w c) (subst P (inst-node w m c e) p)

no_occurrence : (l : Leaf) (c : Tree) → c ≡ empty → Occurs l c → ⊥
no_occurrence l c e i = subst (Occurs l) e i

-- a property of a tree and its parts is one of the images of the leaves that stand in a tree
pub record IsOfParts (P : Tree → Type 0) : Type 0 where
  pub left : (a b : Tree) → P (more a b) → P a
  pub right : (a b : Tree) → P (more a b) → P b
  pub below : (l : Label) (c : Tree) → P (node l c) → P c

pub image_inside : (P : Tree → Type 0) → IsOfParts P → (w : World) (l : Leaf) (t : Tree) → IsFormed t → Occurs l t → P (inst w t) → P (inst w (leaf_tree l))
image_inside P h w l empty f i p = absurd i
image_inside P h w l (more a b) f (inl i) p = image_inside P h w l a f.0 i (h.left _ _ p)
image_inside P h w l (more a b) f (inr i) p = image_inside P h w l b f.1 i (h.right _ _ p)
image_inside P h w l (node m c) f (inl e) p = subst P (leaf_inside w l m c e f) p
image_inside P h w l (node (label.Leaf x) c) f (inr i) p = absurd (no_occurrence l c (leaf_alone x c f) i)
image_inside P h w l (node (label.Bound a b n) c) f (inr i) p = image_inside P h w l c f.1 i (h.below _ _ p)
image_inside P h w l (node (label.Ty x) c) f (inr i) p = image_inside P h w l c f.1 i (h.below _ _ p)
image_inside P h w l (node (label.Const x) c) f (inr i) p = image_inside P h w l c f.1 i (h.below _ _ p)
image_inside P h w l (node (label.Clause x) c) f (inr i) p = image_inside P h w l c f.1 i (h.below _ _ p)
image_inside P h w l (node (label.Predicate x) c) f (inr i) p = image_inside P h w l c f.1 i (h.below _ _ p)
image_inside P h w l (node (label.List x) c) f (inr i) p = image_inside P h w l c f.1 i (h.below _ _ p)

pub formed_parts : IsOfParts IsFormed
formed_parts = record { left = λ a b h. h.0; right = λ a b h. h.1; below = λ l c h. h.1 }

pub ground_parts : IsOfParts (AllLabels IsGroundLabel)
ground_parts = record { left = λ a b h. h.0; right = λ a b h. h.1; below = λ l c h. h.1 }

-- a region without variables is free
free_name : (x : RegionName) → AllLabels IsGroundLabel (region_tree x) → IsFreeRegion (region_tree x)
free_name (of_variable n) h = cc h.0
free_name (of_free r) h = (r, refl)

pub free_region : (t : Tree) → IsRegion t → AllLabels IsGroundLabel t → IsFreeRegion t
free_region t (x, e) g = let is = named_tree t x e in rw is (free_name x (subst (AllLabels IsGroundLabel) is g))

-- a number's type holds no placeholder
integer_named : (t : Tree) → Fits kind.Int t → IsFormed t → NamesAll term_level 0 t
integer_named empty h f = absurd h
integer_named (more a b) h f = absurd h
integer_named (node (label.Ty (ty.Int i)) c) h f = rw (no_children c f.0) (tt, tt)
integer_named (node (label.Ty (ty.Uint i)) c) h f = rw (no_children c f.0) (tt, tt)
integer_named (node (label.Leaf (leaf.Variable kind.Int n)) c) h f = rw (no_children c f.0) (tt, tt)
integer_named (node l c) h f = cc h

pub integer_leaf : (t : Tree) → Fits kind.Int t → IsFormed t → NamesAll leaf_level 0 t
integer_leaf empty h f = absurd h
integer_leaf (more a b) h f = absurd h
integer_leaf (node (label.Ty (ty.Int i)) c) h f = rw (no_children c f.0) (tt, tt)
integer_leaf (node (label.Ty (ty.Uint i)) c) h f = rw (no_children c f.0) (tt, tt)
integer_leaf (node (label.Leaf (leaf.Variable kind.Int n)) c) h f = rw (no_children c f.0) (tt, tt)
integer_leaf (node l c) h f = cc h

pub float_leaf : (t : Tree) → Fits kind.Float t → IsFormed t → NamesAll leaf_level 0 t
float_leaf empty h f = absurd h
float_leaf (more a b) h f = absurd h
float_leaf (node (label.Ty (ty.Float i)) c) h f = rw (no_children c f.0) (tt, tt)
float_leaf (node (label.Leaf (leaf.Variable kind.Float n)) c) h f = rw (no_children c f.0) (tt, tt)
float_leaf (node l c) h f = cc h

float_named : (t : Tree) → Fits kind.Float t → IsFormed t → NamesAll term_level 0 t
float_named empty h f = absurd h
float_named (more a b) h f = absurd h
float_named (node (label.Ty (ty.Float i)) c) h f = rw (no_children c f.0) (tt, tt)
float_named (node (label.Leaf (leaf.Variable kind.Float n)) c) h f = rw (no_children c f.0) (tt, tt)
float_named (node l c) h f = cc h

-- a leaf that a goal of the table holds, whose image is a term without region variables
pub record IsAskable (c : Content) (w : World) (l : Leaf) : Type 0 where
  pub knows : Knows c (leaf_tree l)
  pub low : CanName c.universe (original_level c l)
  pub formed : IsFormed (inst w (leaf_tree l))
  pub ground : AllLabels IsGroundLabel (inst w (leaf_tree l))
  pub free : IsAliasFree (inst w (leaf_tree l))

module _ (truth : Truth) (base : ℕ) (c : Content) (w : World) (s : IsSolution truth base c w) (ls : List Leaf) (κ : Carrier c.universe ls) where
  abbrev pub image : Leaf → Tree
  image l = instance_of κ.to (inst w (leaf_tree l))

  variable_named : (n : ℕ) (k : VariableKind) → kind_at c n ≡ Some k → CanName c.universe (universe_of c n) → NamesAll leaf_level c.universe (w.tree n)
  variable_named n k e h = by_slot (slice_get c.slots n) refl
    where
      by_slot : (o : Option Slot) → slice_get c.slots n ≡ o → NamesAll leaf_level c.universe (w.tree n)
      by_slot None q = absurd (let z : map_slot (λ x. x.kind) None ≡ Some k = ap (map_slot (λ x. x.kind)) (sym q) ∙ e in cc z)
      by_slot (Some v) q =
          let there : universe_of c n ≡ Some v.universe = ap (map_slot (λ x. x.universe)) q in
          let low : v.universe ≤ c.universe = rw there at h in
          NamesAll-more leaf_level v.universe c.universe (w.tree n) low (rw there at (s.named.each n))

  root_value : (n : ℕ) (k : VariableKind) → kind_at c n ≡ Some k → CanName c.universe (universe_of c n) → IsRootValue k (instance_of κ.to (w.tree n))
  root_value n k e h = record { value = value_instance κ.to k (w.tree n) (s.solves.fitting.each n k e); named = lowered c.universe ls κ (w.tree n) (variable_named n k e h) }

  carried_region : (t : Tree) → IsFreeRegion t → IsFreeRegion (instance_of κ.to t)
  carried_region t (r, e) = rw e (κ.free r)

  image_value : (r : ℕ → ℕ) (l : Leaf) → Among ls l → IsAskable c w l → IsInputValue (position_kind r ls l) (image l)
  image_value r (leaf.Variable kind.Ty n) i h = root_value n kind.Ty h.knows.0.0 h.low
  image_value r (leaf.Variable kind.Int n) i h = root_value n kind.Int h.knows.0.0 h.low
  image_value r (leaf.Variable kind.Float n) i h = root_value n kind.Float h.knows.0.0 h.low
  image_value r (leaf.Variable kind.Const n) i h = root_value n kind.Const h.knows.0.0 h.low
  image_value r (leaf.Variable kind.Region n) i h =
      let v = s.solves.fitting.each n kind.Region h.knows.0.0 in
      (carried_region (w.tree n) (free_region (w.tree n) v.fits h.ground), lowered c.universe ls κ (w.tree n) (variable_named n kind.Region h.knows.0.0 h.low))
  image_value r (leaf.Region x) i h = (κ.free (w.region x), κ.lowers (leaf.Region (w.region x)) (s.low x h.low))
  image_value r (leaf.TyConstant a) i h = κ.original (leaf.TyConstant a) i tt
  image_value r (leaf.ConstConstant a) i h = κ.original (leaf.ConstConstant a) i tt

  pub asked_values : (r : ℕ → ℕ) (xs : List Leaf) → ((l : Leaf) → Among xs l → Among ls l) → ((l : Leaf) → Among xs l → IsAskable c w l) → AreInputValues (map (position_kind r ls) xs) (map image xs)
  asked_values r [] h g = tt
  asked_values r (x ∷ xs) h g = (image_value r x (h x (inl refl)) (g x (inl refl)), asked_values r xs (λ l i. h l (inr i)) (λ l i. g l (inr i)))

  fixed_leaf : (x : Leaf) → IsFixed x → inst w (leaf_tree x) ≡ leaf_tree x
  fixed_leaf (leaf.Region region.Static) i = ap (λ z. leaf_tree (leaf.Region z)) s.fixed.static
  fixed_leaf (leaf.Region region.Erased) i = ap (λ z. leaf_tree (leaf.Region z)) s.fixed.erased
  fixed_leaf (leaf.Region region.Error) i = ap (λ z. leaf_tree (leaf.Region z)) s.fixed.error
  fixed_leaf (leaf.Region (region.Placeholder u n)) i = absurd i
  fixed_leaf (leaf.Region (region.EarlyParam n)) i = absurd i
  fixed_leaf (leaf.Region (region.LateParam n)) i = absurd i
  fixed_leaf (leaf.Variable k n) i = absurd i
  fixed_leaf (leaf.TyConstant a) i = absurd i
  fixed_leaf (leaf.ConstConstant a) i = absurd i

  pub read_filled : (vs : List Tree) (t : Tree) → IsOverPositions t → read_in w vs t ≡ filled vs t
  read_filled vs t h = filled_under-fixed (λ l. inst w (leaf_tree l)) vs t fixed_leaf h

  images_twice : (xs : List Leaf) → map (instance_of κ.to) (map (inst w) (map leaf_tree xs)) ≡ map image xs
  images_twice [] = refl
  images_twice (x ∷ xs) = ap (λ z. image x ∷ z) (images_twice xs)

  -- the goal with the solution's values is the goal's instance, carried
  pub asked_filled : (t : Tree) → IsOverPositions t → filled (map image ls) t ≡ instance_of κ.to (inst w (filled (map leaf_tree ls) t))
  asked_filled t h =
      sym (ap (instance_of κ.to) (inst-filled w (map leaf_tree ls) t h.formed ∙ read_filled (map (inst w) (map leaf_tree ls)) t h)
      ∙ instance_of-filled κ.to (map (inst w) (map leaf_tree ls)) t h
      ∙ ap (λ z. filled z t) (images_twice ls))

  module _ (askable : (l : Leaf) → Among ls l → IsAskable c w l) (fair : (a b : Tree) → truth (instance_of κ.back a) (instance_of κ.back b) ≡ truth a b) where
    image_back : (l : Leaf) → Among ls l → instance_of κ.back (image l) ≡ inst w (leaf_tree l)
    image_back l i = carried_back c.universe ls κ (inst w (leaf_tree l)) (let a = askable l i in a.formed)

    original_back : (xs : List Leaf) → ((l : Leaf) → Among xs l → Among ls l) → (n : ℕ) → instance_of κ.back (get_or (map image xs) n empty) ≡ inst w (get_or (map leaf_tree xs) n empty)
    original_back [] h n = refl
    original_back (x ∷ xs) h zero = image_back x (h x (inl refl))
    original_back (x ∷ xs) h (suc n) = original_back xs (λ l i. h l (inr i)) n

    new_placeholder : (o : Sort) (u n : ℕ) → c.universe < u → placeholder_tree o u n ≡ inst w (placeholder_tree o u n)
    new_placeholder sort.Ty u n h = refl
    new_placeholder sort.Const u n h = refl
    new_placeholder sort.Region u n h = ap (λ z. leaf_tree (leaf.Region z)) (sym (s.new u n (let a = s.above in omega (arith, a, h))))

    own_value : (k : VariableKind) (u : ℕ) (t : Tree) → IsOwnValue u k t → IsValue k (instance_of κ.back t) × NamesAll term_level (c.universe + u) (instance_of κ.back t)
    own_value k u t h = (value_instance κ.back k t h.value, names_terms (c.universe + u) (instance_of κ.back t) (raised c.universe ls κ u t h.named))

    granted_value : (k : PositionKind) (t : Tree) → IsAnswerValue (map image ls) k t
        → IsImageOf w c.universe (map leaf_tree ls) k (instance_of κ.back t) × IsNamedBy term_level c.universe k (instance_of κ.back t)
    granted_value (type_variable u r) t h = own_value kind.Ty u t h
    granted_value (const_variable u) t h = own_value kind.Const u t h
    granted_value (region_variable u) t h = own_value kind.Region u t h
    granted_value integer_variable t h =
        let v = value_instance κ.back kind.Int t h.value in
        (v, integer_named (instance_of κ.back t) v.fits (IsFormed-instance κ.back t (let x = h.value in x.formed)))
    granted_value float_variable t h =
        let v = value_instance κ.back kind.Float t h.value in
        (v, float_named (instance_of κ.back t) v.fits (IsFormed-instance κ.back t (let x = h.value in x.formed)))
    granted_value (placeholder o zero n) t h = (ap (instance_of κ.back) h ∙ original_back ls (λ l i. i) n, tt)
    granted_value (placeholder o (suc u) n) t h = (ap (instance_of κ.back) h ∙ κ.new o u n ∙ new_placeholder o (c.universe + suc u) n (omega arith), tt)

    granted_values : (ks : List PositionKind) (ts : List Tree) → AreAnswerValues (map image ls) ks ts
        → AreImagesOf w c.universe (map leaf_tree ls) ks (map (instance_of κ.back) ts) × AreNamedBy term_level c.universe ks (map (instance_of κ.back) ts)
    granted_values [] [] h = (tt, tt)
    granted_values [] (t ∷ ts) h = absurd h
    granted_values (k ∷ ks) [] h = absurd h
    granted_values (k ∷ ks) (t ∷ ts) h =
        let one = granted_value k t h.0 in
        let rest = granted_values ks ts h.1 in ((one.0, rest.0), (one.1, rest.1))

    back_filled : (own : List Tree) (t : Tree) → IsOverPositions t → read_in w (map (instance_of κ.back) own) t ≡ instance_of κ.back (filled own t)
    back_filled own t h = read_filled (map (instance_of κ.back) own) t h ∙ sym (instance_of-filled κ.back own t h)

    granted_equal : (own ts : List Tree) (xs : List Leaf) → ((l : Leaf) → Among xs l → Among ls l) → ((t : Tree) → Among ts t → IsOverPositions t) → map (filled own) ts ≡ map image xs
        → AreEqualIn w (map (instance_of κ.back) own) ts (map leaf_tree xs)
    granted_equal own [] [] h o e = tt
    granted_equal own [] (x ∷ xs) h o e = cc e
    granted_equal own (t ∷ ts) [] h o e = cc e
    granted_equal own (t ∷ ts) (x ∷ xs) h o e =
        let first : filled own t ≡ image x = cc in
        let rest : map (filled own) ts ≡ map image xs = cc in (
          back_filled own t (o t (inl refl)) ∙ ap (instance_of κ.back) first ∙ image_back x (h x (inl refl)),
          granted_equal own ts xs (λ l i. h l (inr i)) (λ u i. o u (inr i)) rest,
        )

    true_back : (r : Relation) (a b : Tree) → IsTrueBy truth r a b → IsTrueOf w r (instance_of κ.back a) (instance_of κ.back b)
    true_back relation.Equal a b h = ap (instance_of κ.back) h
    true_back relation.RegionOutlives a b (inl e) = inl (ap (instance_of κ.back) e)
    true_back relation.RegionOutlives a b (inr e) = inr (s.outlives (instance_of κ.back a) (instance_of κ.back b) ∙ fair a b ∙ e)
    true_back relation.TypeOutlives a b e = s.outlives (instance_of κ.back a) (instance_of κ.back b) ∙ fair a b ∙ e

    granted_met : (own : List Tree) (xs : List Recorded) → ((x : Recorded) → Contains xs x → IsOverPositions x.left) → ((x : Recorded) → Contains xs x → IsOverPositions x.right)
        → AreMetBy truth own xs → AreMetIn w (map (instance_of κ.back) own) xs
    granted_met own [] f g h = tt
    granted_met own (x ∷ xs) f g h =
        let a = sym (back_filled own x.left (f x (contains_first x xs))) in
        let b = sym (back_filled own x.right (g x (contains_first x xs))) in (
          subst (λ z. IsTrueOf w x.relation z (read_in w (map (instance_of κ.back) own) x.right)) a
              (subst (λ z. IsTrueOf w x.relation (instance_of κ.back (filled own x.left)) z) b (true_back x.relation (filled own x.left) (filled own x.right) h.0)),
          granted_met own xs (λ y i. f y (contains_later x xs y i)) (λ y i. g y (contains_later x xs y i)) h.1,
        )

    -- what the answer contains, the caller's world grants
    pub contained_granted : (ks : List PositionKind) (r : Response) → IsResponseTo ks r → (x : ContainsSolution truth r (map image ls)) → GrantsFor c.universe (map leaf_tree ls) r w (map (instance_of κ.back) x.own)
    contained_granted ks r fit x =
        let v = granted_values r.kinds x.own x.values in
        record {
          images = v.0;
          named = v.1;
          equal = granted_equal x.own r.findings.values ls (λ l i. i) fit.values x.equal;
          met = granted_met x.own r.findings.constraints fit.left fit.right x.met;
        }

    -- .. and its values are named with their regions
    pub named_with_regions : (ks : List PositionKind) (ts : List Tree) → AreAnswerValues (map image ls) ks ts → AreNamedBy leaf_level c.universe ks (map (instance_of κ.back) ts)
    named_with_regions [] [] h = tt
    named_with_regions [] (t ∷ ts) h = absurd h
    named_with_regions (k ∷ ks) [] h = absurd h
    named_with_regions (k ∷ ks) (t ∷ ts) h = (one k h.0, named_with_regions ks ts h.1)
      where
        one : (k : PositionKind) → IsAnswerValue (map image ls) k t → IsNamedBy leaf_level c.universe k (instance_of κ.back t)
        one (type_variable u r) g = raised c.universe ls κ u t g.named
        one (const_variable u) g = raised c.universe ls κ u t g.named
        one (region_variable u) g = raised c.universe ls κ u t g.named
        one integer_variable g = integer_leaf (instance_of κ.back t) (let v = value_instance κ.back kind.Int t g.value in v.fits) (IsFormed-instance κ.back t (let x = g.value in x.formed))
        one float_variable g = float_leaf (instance_of κ.back t) (let v = value_instance κ.back kind.Float t g.value in v.fits) (IsFormed-instance κ.back t (let x = g.value in x.formed))
        one (placeholder o u n) g = tt
