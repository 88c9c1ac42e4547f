-- The value that a variable gets for a tree.
use Rattle.nts_model.proofs.Terms.Substituting.{no_children}
use Rattle.std.proofs.lemmas.Bool.{or_parts}
use Rattle.nts_unify.proofs.Changes.{some_inj}
use Rattle.std.proofs.Common.{◌≡◌, ◌≢◌, ℕ, zero, suc, ◌+◌, ◌<◌, ◌≤◌, Bool, true, false, List, [], ◌∷◌, ◌++◌, length, Option, Some, None, refl, sym, ap, subst, ◌∙◌, arith}
use Rattle.std.specs.Prelude.{◌==◌, reverse}
use Rattle.nts_model.specs.declared.labels.Sort.TheVariants as sort
use Rattle.nts_model.specs.declared.labels.VariableKind.{VariableKind}
use Rattle.nts_model.specs.declared.labels.VariableKind.TheVariants as kind
use Rattle.nts_model.specs.declared.labels.Leaf.TheVariants as leaf
use Rattle.nts_model.specs.declared.labels.Label.{Label}
use Rattle.nts_model.specs.declared.labels.Label.TheVariants as label
use Rattle.nts_model.specs.declared.labels.FreeRegion.TheVariants as region
use Rattle.nts_model.specs.declared.labels.Constant.TheVariants as constant
use Rattle.nts_model.specs.declared.labels.ListHead.TheVariants as list
use Rattle.nts_model.specs.declared.labels.TyHead.TheVariants as ty
use Rattle.nts_model.specs.Terms.Trees.{Tree, empty, more, node, NodeKind, of_sort, kind_of, kind_of_label, any_label, is_infer, children, row_length, row_at, row_take, row_push, IsRow, Place, Shape, in_order, each, FitsPlace, HavePlaces, AllFit, Meets, shape, binders, IsBoundBelow, IsClosedUnder, is_region_infer, is_placeholder, infer_of, variable_of, variable_tree}
use Rattle.nts_model.specs.Tables.Contents.{Content, universe_of, kind_at}
use Rattle.nts_model.specs.Tables.Resolving.{IsInfer, Knows, IsSound, Lacks, resolved, deeply_resolved, rooted, rooted_variable, root_of, left_to_resolve, rank_of, variable_rank}
use Rattle.nts_model.specs.Terms.Fitting.{Fits}
use Rattle.nts_model.specs.Terms.Placeholders.{CanName}
use Rattle.nts_model.specs.Tables.Passing.{TreePasses, TablePasses}
use Rattle.nts_model.specs.Tables.Levels.{NamesAll, term_level, region_level, level_in}
use Rattle.nts_model.specs.Tables.Worlds.{World, inst, renamed, Solves, KnowsAll}
use Rattle.nts_model.specs.Tables.Equations.{ExtensionIf}
use Rattle.nts_model.specs.Tables.Holding.{AreOne}
use Rattle.nts_model.specs.Tables.Alike.{HoldsEqual, AreAlike}
use Rattle.nts_model.proofs.Terms.Variables.{infer_number_some, infer_of_none}
use Rattle.nts_model.proofs.Tables.Bringing.{passes-pushed, passes-row_push}
use Rattle.nts_model.proofs.Tables.Under.{under-lacks}
use Rattle.nts_model.proofs.Tables.Roots.{root_of-root_of}
use Rattle.nts_model.proofs.Tables.Instances.{inst-node, inst-agrees, Agrees-refl, Agrees-trans}
use Rattle.nts_model.proofs.Tables.Fitting.{IsClosedUnder-more}
use Rattle.nts_model.proofs.Tables.Levelled.{NamesAll-falls}
use Rattle.nts_model.proofs.Tables.Held.{AreOne-continues, Continues-refl, Continues-trans}
use Rattle.nts_model.proofs.Tables.Alike.{Alike-row_push, AreAlike-one, AreAlike-itself, AreAlike-for, AreAlike-node, AreAlike-continues, row_length-deeply_resolved, IsRow-deeply_resolved}
use Rattle.nts_model.specs.Terms.Patching.{IsPatched, in_end, in_node}
use Rattle.nts_model.proofs.Terms.Unpositioned.{known_well_bound}
use Rattle.nts_model.proofs.Terms.Scoping.{patched_itself, leaf_patch, term_patched, infer_patched, push_patched, lists_patched}
use Rattle.nts_model.proofs.Tables.Resolved.{resolved-empty, resolved-node, resolved-row_push, IsRow-resolved, resolved-variable_unset, deeply_resolved-empty, deeply_resolved-node, Knows-row_at}
use Rattle.nts_store.specs.declared.nodes.NodeId.{NodeId}
use Rattle.nts_store.specs.Growth.{tree_at, trees_at, AllIn, Extends}
use Rattle.nts_store.proofs.Growing.{IsRow-trees_at, trees_at-push, trees_at-extended, row_take-more, row_take-all}
use Rattle.nts_unify.specs.Entries.{Entries}
use Rattle.nts_unify.specs.Reading.{content_of}
use Rattle.nts_unify.specs.Changing.{IsLater, is_free_region}
use Rattle.nts_relating.specs.Relating.{IsLike, IsUnset, Generalized}
use Rattle.nts_relating.proofs.RegionLemmas.{IsRegionVariable, regions-one}
use Rattle.nts_unify.proofs.Keeping.{Knows-later, KeepsKnowing-refl, KeepsKnowing-trans}
use Rattle.nts_unify.proofs.Changes.{length-slots}
use Rattle.nts_relating.proofs.Ranks.{kind_of-like, like_of-kinds, zero_le, infer_ranked, region_unfit, row_unfit, fits_node, rank-push}
use Rattle.nts_model.proofs.Tables.TableInstances.{deeply_resolved-more}

not_infer_label : (l : Label) → is_infer l ≡ false → infer_of l ≡ None
not_infer_label (label.Leaf (leaf.Variable kind.Ty n)) e = cc
not_infer_label (label.Leaf (leaf.Variable kind.Int n)) e = cc
not_infer_label (label.Leaf (leaf.Variable kind.Float n)) e = cc
not_infer_label (label.Leaf (leaf.Variable kind.Const n)) e = cc
not_infer_label (label.Leaf (leaf.Variable kind.Region n)) e = refl
not_infer_label (label.Leaf (leaf.Region r)) e = refl
not_infer_label (label.Leaf (leaf.TyConstant c)) e = refl
not_infer_label (label.Leaf (leaf.ConstConstant c)) e = refl
not_infer_label (label.Bound s i n) e = refl
not_infer_label (label.Ty h) e = refl
not_infer_label (label.Const h) e = refl
not_infer_label (label.Clause h) e = refl
not_infer_label (label.Predicate h) e = refl
not_infer_label (label.List h) e = refl

pub Lacks-no_infer : (n : ℕ) (t : Tree) → any_label is_infer t ≡ false → Lacks n t
Lacks-no_infer n empty e = tt
Lacks-no_infer n (more a b) e =
    let p = or_parts (any_label is_infer a) (any_label is_infer b) e in
    (Lacks-no_infer n a p.0, Lacks-no_infer n b p.1)
Lacks-no_infer n (node l c) e =
    let p = or_parts (is_infer l) (any_label is_infer c) e in
    rw (not_infer_label l p.0) (Lacks-no_infer n c p.1)

pub resolved-no_infer : (c : Content) (t : Tree) → any_label is_infer t ≡ false → resolved c t ≡ t
resolved-no_infer c t e = under-lacks _ (reverse c.order) t (λ m h. Lacks-no_infer m t e)

-- sorts
pub IsLike-refl : (t : Tree) → IsLike t t
IsLike-refl empty = tt
IsLike-refl (more a b) = (refl, IsLike-refl b)
IsLike-refl (node l c) = refl

IsLike-push : (r t s a : Tree) → IsRow r → IsRow t → IsLike r t → kind_of s ≡ kind_of a → IsLike (row_push r s) (row_push t a)
IsLike-push empty empty s a p q h e = (e, tt)
IsLike-push empty (more b c) s a p q h e = absurd h
IsLike-push empty (node l c) s a p q h e = absurd h
IsLike-push (more b c) empty s a p q h e = absurd h
IsLike-push (more b c) (more d f) s a p q h e = (h.0, IsLike-push c f s a p q h.1 e)
IsLike-push (more b c) (node l d) s a p q h e = absurd h
IsLike-push (node l c) t s a p q h e = absurd p

FitsPlace-like : (p : Place) (o q : Option NodeKind) → o ≡ q → FitsPlace p q → FitsPlace p o
FitsPlace-like p o q e h = rw e h

HavePlaces-like : (ps : List Place) (r t : Tree) → IsLike r t → HavePlaces ps t → HavePlaces ps r
HavePlaces-like [] empty empty h k = k
HavePlaces-like [] empty (more a b) h k = absurd h
HavePlaces-like [] empty (node l c) h k = absurd h
HavePlaces-like [] (more a b) empty h k = absurd h
HavePlaces-like [] (more a b) (more c d) h k = absurd k
HavePlaces-like [] (more a b) (node l c) h k = absurd h
HavePlaces-like [] (node l c) t h k = by_case t h k
  where
    by_case : (x : Tree) → IsLike (node l c) x → HavePlaces [] x → ⊥
    by_case empty p q = p
    by_case (more a b) p q = p
    by_case (node m d) p q = q
HavePlaces-like (p ∷ ps) empty empty h k = k
HavePlaces-like (p ∷ ps) empty (more a b) h k = absurd h
HavePlaces-like (p ∷ ps) empty (node l c) h k = absurd h
HavePlaces-like (p ∷ ps) (more a b) empty h k = absurd h
HavePlaces-like (p ∷ ps) (more a b) (more c d) h k = (FitsPlace-like p (kind_of a) (kind_of c) h.0 k.0, HavePlaces-like ps b d h.1 k.1)
HavePlaces-like (p ∷ ps) (more a b) (node l c) h k = absurd h
HavePlaces-like (p ∷ ps) (node l c) t h k = by_case t h k
  where
    by_case : (x : Tree) → IsLike (node l c) x → HavePlaces (p ∷ ps) x → ⊥
    by_case empty q z = q
    by_case (more a b) q z = q
    by_case (node m d) q z = z

AllFit-like : (p : Place) (r t : Tree) → IsLike r t → AllFit p t → AllFit p r
AllFit-like p empty t h k = tt
AllFit-like p (more a b) empty h k = absurd h
AllFit-like p (more a b) (more c d) h k = (FitsPlace-like p (kind_of a) (kind_of c) h.0 k.0, AllFit-like p b d h.1 k.1)
AllFit-like p (more a b) (node l c) h k = absurd h
AllFit-like p (node l c) empty h k = absurd h
AllFit-like p (node l c) (more a b) h k = absurd h
AllFit-like p (node l c) (node m d) h k = absurd k

-- children of the same sorts fit the label too
pub Meets-like : (s : Shape) (r t : Tree) → IsLike r t → Meets s t → Meets s r
Meets-like (in_order ps) r t h k = HavePlaces-like ps r t h k
Meets-like (each p) r t h k = AllFit-like p r t h k

-- what has the sort of a region
pub record IsRegionLabel (l : Label) : Type 0 where
  pub no_infer : infer_of l ≡ None
  pub leaf : shape l ≡ in_order []

pub region_is : (l : Label) → kind_of_label l ≡ of_sort sort.Region → IsRegionLabel l
region_is (label.Leaf (leaf.Variable kind.Ty n)) e = cc
region_is (label.Leaf (leaf.Variable kind.Int n)) e = cc
region_is (label.Leaf (leaf.Variable kind.Float n)) e = cc
region_is (label.Leaf (leaf.Variable kind.Const n)) e = cc
region_is (label.Leaf (leaf.Variable kind.Region n)) e = record { no_infer = refl; leaf = refl }
region_is (label.Leaf (leaf.Region r)) e = record { no_infer = refl; leaf = refl }
region_is (label.Leaf (leaf.TyConstant c)) e = cc
region_is (label.Leaf (leaf.ConstConstant c)) e = cc
region_is (label.Bound s i n) e = record { no_infer = refl; leaf = refl }
region_is (label.Ty h) e = cc
region_is (label.Const h) e = cc
region_is (label.Clause h) e = cc
region_is (label.Predicate h) e = cc
region_is (label.List list.Args) e = cc
region_is (label.List list.Env) e = cc
region_is (label.List list.Sorts) e = cc
region_is (label.List (list.Sort s)) e = cc
region_is (label.List list.Binder) e = cc

-- a node of a region
pub record RegionNode (t : Tree) (l : Label) : Type 0 where
  pub is : t ≡ node l empty
  pub no_infer : infer_of l ≡ None

pub region_node : (t : Tree) (l : Label) → t ≡ node l (children t) → Meets (shape l) (children t) → kind_of t ≡ Some (of_sort sort.Region) → RegionNode t l
region_node t l is m k =
    let sorted : kind_of_label l ≡ of_sort sort.Region = some_inj _ _ (sym (ap kind_of is) ∙ k) in
    let r = region_is l sorted in
    let none : children t ≡ empty = no_children (children t) (rw r.leaf at m) in
    record { is = is ∙ ap (node l) none; no_infer = r.no_infer }

pub resolved-region_node : (c : Content) (t : Tree) (l : Label) → RegionNode t l → resolved c t ≡ t
resolved-region_node c t l r =
    ap (resolved c) r.is ∙ resolved-node c l empty r.no_infer ∙ ap (node l) (resolved-empty c) ∙ sym r.is

Lacks-region_node : (x : ℕ) (t : Tree) (l : Label) → RegionNode t l → Lacks x t
Lacks-region_node x t l r = subst (λ (y : Tree). Lacks x y) (sym r.is) (let q = r.no_infer in rw q tt)

-- a tree that stays
no_level : (c : Content) (u : ℕ) (l : Label) → is_infer l ≡ false → is_region_infer l ≡ false → is_placeholder l ≡ false → CanName u (level_in c l) × CanName u (region_level l)
no_level c u (label.Leaf (leaf.Variable kind.Ty n)) e f g = cc
no_level c u (label.Leaf (leaf.Variable kind.Int n)) e f g = cc
no_level c u (label.Leaf (leaf.Variable kind.Float n)) e f g = cc
no_level c u (label.Leaf (leaf.Variable kind.Const n)) e f g = cc
no_level c u (label.Leaf (leaf.Variable kind.Region n)) e f g = cc
no_level c u (label.Leaf (leaf.Region region.Static)) e f g = (tt, tt)
no_level c u (label.Leaf (leaf.Region (region.EarlyParam a))) e f g = (tt, tt)
no_level c u (label.Leaf (leaf.Region (region.LateParam a))) e f g = (tt, tt)
no_level c u (label.Leaf (leaf.Region (region.Placeholder v a))) e f g = cc
no_level c u (label.Leaf (leaf.Region region.Erased)) e f g = (tt, tt)
no_level c u (label.Leaf (leaf.Region region.Error)) e f g = (tt, tt)
no_level c u (label.Leaf (leaf.TyConstant (constant.Placeholder v a))) e f g = cc
no_level c u (label.Leaf (leaf.TyConstant (constant.Param a))) e f g = (tt, tt)
no_level c u (label.Leaf (leaf.ConstConstant (constant.Placeholder v a))) e f g = cc
no_level c u (label.Leaf (leaf.ConstConstant (constant.Param a))) e f g = (tt, tt)
no_level c u (label.Bound s i n) e f g = (tt, tt)
no_level c u (label.Ty h) e f g = (tt, tt)
no_level c u (label.Const h) e f g = (tt, tt)
no_level c u (label.Clause h) e f g = (tt, tt)
no_level c u (label.Predicate h) e f g = (tt, tt)
no_level c u (label.List h) e f g = (tt, tt)

-- what has neither variables nor placeholders is named by each universe
pub settled_names : (c : Content) (u : ℕ) (t : Tree) → any_label is_infer t ≡ false → any_label is_region_infer t ≡ false → any_label is_placeholder t ≡ false → NamesAll (level_in c) u t × NamesAll region_level u t
settled_names c u empty e f g = (tt, tt)
settled_names c u (more a b) e f g =
    let i = or_parts (any_label is_infer a) (any_label is_infer b) e in
    let r = or_parts (any_label is_region_infer a) (any_label is_region_infer b) f in
    let p = or_parts (any_label is_placeholder a) (any_label is_placeholder b) g in
    let h = settled_names c u a i.0 r.0 p.0 in
    let k = settled_names c u b i.1 r.1 p.1 in
    ((h.0, k.0), (h.1, k.1))
settled_names c u (node l t) e f g =
    let i = or_parts (is_infer l) (any_label is_infer t) e in
    let r = or_parts (is_region_infer l) (any_label is_region_infer t) f in
    let p = or_parts (is_placeholder l) (any_label is_placeholder t) g in
    let h = no_level c u l i.0 r.0 p.0 in
    let k = settled_names c u t i.1 r.1 p.1 in
    ((h.0, k.0), (h.1, k.1))

-- where nothing changed
abbrev pub unchanged : {Named : (Label → Option ℕ) → Type 0} (c : Content) (w : World) → Solves c w → ExtensionIf c c w Named
unchanged c w z = record { world = w; agrees = Agrees-refl (length c.slots) w; solves = z; names = λ f k n. k }

-- where other names are enough
pub named_for : {c d : Content} {w : World} {P Q : (Label → Option ℕ) → Type 0} → ((f : Label → Option ℕ) → Q f → P f) → ExtensionIf c d w P → ExtensionIf c d w Q
named_for h e = record { world = e.world; agrees = e.agrees; solves = e.solves; names = λ f k n. e.names f k (h f n) }

pub gen_settled : (c : Content) (x u b : ℕ) (t : Tree) → IsSound c → Knows c t → any_label is_infer t ≡ false → any_label is_region_infer t ≡ false → any_label is_placeholder t ≡ false → IsClosedUnder b t → Generalized c c x u b t t
gen_settled c x u b t s k e f g h =
    let names = settled_names c u t e f g in
    record {
      keeps = KeepsKnowing-refl c;
      knows = k;
      rank = omega arith;
      fits = λ j n z f. f;
      like = IsLike-refl t;
      lacks = rw (resolved-no_infer c t e) (Lacks-no_infer x t e);
      continues = Continues-refl c s;
      own = refl;
      named = names.0;
      named_regions = names.1;
      closed = h;
      patched = patched_itself t;
      clean = rw (resolved-no_infer c t e) names.1;
      alike = AreAlike-itself c t;
      exact = λ n. refl;
      labels = λ P v p q. (p, q);
      sound = λ w z. (z, refl);
      complete = λ w z q. unchanged c w z;
    }

-- a free region that stays
pub gen_region : (c : Content) (x u b : ℕ) (t : Tree) (l : Label) → IsSound c → Knows c t → RegionNode t l → variable_of l ≡ None → is_free_region l ≡ true → CanName u (region_level l) → Generalized c c x u b t t
gen_region c x u b t l s k r v f n =
    let names : NamesAll region_level u t = subst (λ (y : Tree). NamesAll region_level u y) (sym r.is) (n, tt) in
    record {
      keeps = KeepsKnowing-refl c;
      knows = k;
      rank = omega arith;
      fits = λ j n z f. f;
      like = IsLike-refl t;
      lacks = rw (resolved-region_node c t l r) (Lacks-region_node x t l r);
      continues = Continues-refl c s;
      own = refl;
      named = subst (λ (y : Tree). NamesAll (level_in c) u y) (sym r.is) (rw v (free_term_level l f), tt);
      named_regions = names;
      closed = subst (λ (y : Tree). IsClosedUnder b y) (sym r.is) (free_below l f, tt);
      patched = patched_itself t;
      clean = rw (resolved-region_node c t l r) names;
      alike = AreAlike-itself c t;
      exact = λ n. refl;
      labels = λ P v p q. (p, q);
      sound = λ w z. (z, refl);
      complete = λ w z q. unchanged c w z;
    }
  where
    free_term_level : (m : Label) → is_free_region m ≡ true → CanName u (term_level m)
    free_term_level (label.Leaf (leaf.Variable j n)) e = tt
    free_term_level (label.Leaf (leaf.Region q)) e = tt
    free_term_level (label.Leaf (leaf.TyConstant q)) e = cc
    free_term_level (label.Leaf (leaf.ConstConstant q)) e = cc
    free_term_level (label.Bound q i n) e = cc
    free_term_level (label.Ty h) e = cc
    free_term_level (label.Const h) e = cc
    free_term_level (label.Clause h) e = cc
    free_term_level (label.Predicate h) e = cc
    free_term_level (label.List h) e = cc

    free_below : (m : Label) → is_free_region m ≡ true → IsBoundBelow b m
    free_below (label.Leaf q) e = tt
    free_below (label.Bound q i n) e = cc
    free_below (label.Ty h) e = cc
    free_below (label.Const h) e = cc
    free_below (label.Clause h) e = cc
    free_below (label.Predicate h) e = cc
    free_below (label.List h) e = cc

-- the root of a region variable
pub gen_region_root : (c : Content) (x u b n r : ℕ) (t : Tree) → IsSound c → IsRegionVariable c t n r → kind_at c r ≡ Some kind.Region → CanName u (universe_of c r) → Generalized c c x u b t (variable_tree kind.Region r)
gen_region_root c x u b n r t s v has named =
    let root : RegionNode (variable_tree kind.Region r) (label.Leaf (leaf.Variable kind.Region r)) = record { is = refl; no_infer = refl } in
    let again : root_of c r ≡ root_of c n = ap (root_of c) (sym v.root) ∙ root_of-root_of c n s.descends in
    let one : AreOne c (variable_tree kind.Region r) t = rw (v.is) (regions-one c r n again) in
    record {
      keeps = KeepsKnowing-refl c;
      knows = ((has, tt, refl), tt, tt);
      rank = zero_le _ _ refl;
      fits = λ j n z. region_unfit j t n (ap kind_of v.is);
      like = rw (v.is) refl;
      lacks = rw (resolved-region_node c (variable_tree kind.Region r) (label.Leaf (leaf.Variable kind.Region r)) root) tt;
      continues = Continues-refl c s;
      own = refl;
      named = (named, tt);
      named_regions = (tt, tt);
      closed = (tt, tt);
      patched = term_patched sort.Region t (variable_tree kind.Region r) (ap kind_of v.is) (leaf_patch (leaf.Variable kind.Region r));
      clean = rw (resolved-region_node c (variable_tree kind.Region r) (label.Leaf (leaf.Variable kind.Region r)) root) (tt, tt);
      alike = AreAlike-one c (variable_tree kind.Region r) t one;
      exact = λ n. one;
      labels = λ P f p q. (p, (f kind.Region r, tt));
      sound = λ w z. (z, rw (v.is) (sym (v.tree w z)));
      complete = λ w z q. unchanged c w z;
    }

pub lacks_other : (k : VariableKind) (y x : ℕ) → k ≢ kind.Region → (y ≡ x → ⊥) → Lacks x (variable_tree k y)
lacks_other k y x n d = let f : (y == x) ≡ false = grind arith in rw (infer_number_some k y n) f

-- a variable without value that stays
pub gen_named : (c : Content) (x u b y : ℕ) (k : VariableKind) (t : Tree) → IsSound c → IsUnset c y k → IsInfer t → variable_rank (variable_tree k y) ≤ variable_rank t → IsLike (variable_tree k y) t → (y ≡ x → ⊥) → CanName u (universe_of c y) → resolved c t ≡ resolved c (variable_tree k y) → ((w : World) → Solves c w → inst w t ≡ w.tree y) → Generalized c c x u b t (variable_tree k y)
gen_named c x u b y k t s h i rank like d named same worlds =
    let stays : resolved c (variable_tree k y) ≡ variable_tree k y = resolved-variable_unset c (label.Leaf (leaf.Variable k y)) empty y s (infer_number_some k y h.no_region) h.state in
    record {
      keeps = KeepsKnowing-refl c;
      knows = ((h.has, tt, refl), tt, tt);
      rank = rank;
      fits = λ j n z f. infer_ranked t i z;
      like = like;
      lacks = rw stays (lacks_other k y x h.no_region d);
      continues = Continues-refl c s;
      own = refl;
      named = (named, tt);
      named_regions = (tt, tt);
      closed = (tt, tt);
      patched = infer_patched t (variable_tree k y) i (leaf_patch (leaf.Variable k y));
      clean = rw stays (tt, tt);
      alike = AreAlike-one c (variable_tree k y) t (ap (rooted c) (sym same));
      exact = λ n. ap (rooted c) (sym same);
      labels = λ P f p q. (p, (f k y, tt));
      sound = λ w z. (z, sym (worlds w z));
      complete = λ w z q. unchanged c w z;
    }

-- rows
row_take-row : (i : ℕ) (r : Tree) → i < row_length r → IsRow (row_take i r)
row_take-row zero r h = tt
row_take-row (suc i) empty h = absurd (omega arith)
row_take-row (suc i) (more a b) h = row_take-row i b (omega arith)
row_take-row (suc i) (node l c) h = absurd (omega arith)

Knows-push : (c : Content) (r t : Tree) → IsRow r → Knows c r → Knows c t → Knows c (row_push r t)
Knows-push c empty t h k l = (l, tt)
Knows-push c (more a b) t h k l = (k.0, Knows-push c b t h k.1 l)
Knows-push c (node m d) t h k l = absurd h

Lacks-push : (x : ℕ) (r t : Tree) → Lacks x r → Lacks x t → IsRow r → Lacks x (row_push r t)
Lacks-push x empty t k l h = (l, tt)
Lacks-push x (more a b) t k l h = (k.0, Lacks-push x b t k.1 l h)
Lacks-push x (node m d) t k l h = absurd h

IsRow-push : (r t : Tree) → IsRow r → IsRow (row_push r t)
IsRow-push empty t h = tt
IsRow-push (more a b) t h = IsRow-push b t h
IsRow-push (node l c) t h = absurd h

pub gen_start : (c : Content) (x u b : ℕ) (row : Tree) → IsSound c → Generalized c c x u b (row_take 0 row) empty
gen_start c x u b row s =
    record {
      keeps = KeepsKnowing-refl c;
      knows = tt;
      rank = omega arith;
      fits = λ j n z. row_unfit j empty tt;
      like = tt;
      lacks = rw (resolved-empty c) tt;
      continues = Continues-refl c s;
      own = refl;
      named = tt;
      named_regions = tt;
      closed = tt;
      patched = in_end;
      clean = rw (resolved-empty c) tt;
      alike = AreAlike-itself c empty;
      exact = λ n. refl;
      labels = λ P v p q. (p, tt);
      sound = λ w z. (z, refl);
      complete = λ w z q. unchanged c w z;
    }

NamesAll-push : (f : Label → Option ℕ) (u : ℕ) (r t : Tree) → IsRow r → NamesAll f u r → NamesAll f u t → NamesAll f u (row_push r t)
NamesAll-push f u empty t h k l = (l, tt)
NamesAll-push f u (more a b) t h k l = (k.0, NamesAll-push f u b t h k.1 l)
NamesAll-push f u (node m d) t h k l = absurd h

IsClosedUnder-push : (n : ℕ) (r t : Tree) → IsRow r → IsClosedUnder n r → IsClosedUnder n t → IsClosedUnder n (row_push r t)
IsClosedUnder-push n empty t h k l = (l, tt)
IsClosedUnder-push n (more a b) t h k l = (k.0, IsClosedUnder-push n b t h k.1 l)
IsClosedUnder-push n (node m d) t h k l = absurd h

inst-push : (w : World) (r t : Tree) → IsRow r → inst w (row_push r t) ≡ row_push (inst w r) (inst w t)
inst-push w empty t h = refl
inst-push w (more a b) t h = ap (more (inst w a)) (inst-push w b t h)
inst-push w (node m d) t h = absurd h

pub IsRow-inst : (w : World) (r : Tree) → IsRow r → IsRow (inst w r)
IsRow-inst w empty h = tt
IsRow-inst w (more a b) h = IsRow-inst w b h
IsRow-inst w (node m d) h = absurd h

NamesAll-pushed : (f : Label → Option ℕ) (u : ℕ) (r t : Tree) → IsRow r → NamesAll f u (row_push r t) → NamesAll f u r × NamesAll f u t
NamesAll-pushed f u empty t h k = (tt, k.0)
NamesAll-pushed f u (more a b) t h k = let q = NamesAll-pushed f u b t h k.1 in ((k.0, q.0), q.1)
NamesAll-pushed f u (node m d) t h k = absurd h

IsLike-length : (r t : Tree) → IsRow r → IsLike r t → row_length r ≡ row_length t
IsLike-length empty empty p h = refl
IsLike-length empty (more a b) p h = absurd h
IsLike-length empty (node l c) p h = absurd h
IsLike-length (more a b) empty p h = absurd h
IsLike-length (more a b) (more c d) p h = omega (arith, IsLike-length b d p h.1)
IsLike-length (more a b) (node l c) p h = absurd h
IsLike-length (node l c) t p h = absurd p

deeply_resolved-push : (c : Content) (r t : Tree) → IsRow r → deeply_resolved c (row_push r t) ≡ row_push (deeply_resolved c r) (deeply_resolved c t)
deeply_resolved-push c empty t h = rw (deeply_resolved-empty c) (deeply_resolved-more c t empty ∙ ap (more (deeply_resolved c t)) (deeply_resolved-empty c))
deeply_resolved-push c (more a b) t h =
    rw (deeply_resolved-more c a b) (deeply_resolved-more c a (row_push b t) ∙ ap (more (deeply_resolved c a)) (deeply_resolved-push c b t h))
deeply_resolved-push c (node m d) t h = absurd h

AreAlike-push : (c : Content) (r s a b : Tree) → IsRow r → IsRow s → row_length r ≡ row_length s → AreAlike c r s → AreAlike c a b → AreAlike c (row_push r a) (row_push s b)
AreAlike-push c r s a b p q e h k =
    let same : row_length (deeply_resolved c r) ≡ row_length (deeply_resolved c s) = row_length-deeply_resolved c r p ∙ e ∙ sym (row_length-deeply_resolved c s q) in
    rw (deeply_resolved-push c r a p, deeply_resolved-push c s b q)
    (Alike-row_push (HoldsEqual c) (deeply_resolved c r) (deeply_resolved c s) (deeply_resolved c a) (deeply_resolved c b) (IsRow-deeply_resolved c r p) (IsRow-deeply_resolved c s q) same h k)

Knows-row_take : (c : Content) (i : ℕ) (r : Tree) → Knows c r → Knows c (row_take i r)
Knows-row_take c zero r h = tt
Knows-row_take c (suc i) empty h = tt
Knows-row_take c (suc i) (more a b) h = (h.0, Knows-row_take c i b h.1)
Knows-row_take c (suc i) (node l x) h = tt

-- what holds of a table and is used of it
pub record IsFair (c : Content) : Type 0 where
  pub sound : IsSound c
  pub sides : KnowsAll c c.constraints

-- one more child
pub gen_push : (us vs : List Tree) (c d e : Content) (x u b i : ℕ) (row a : Tree) (rs qs : List NodeId) (r : NodeId) → IsSound c → IsFair d → IsSound e → Knows c row → Generalized c d x u b (row_take i row) (trees_at us rs) → Extends us vs → AllIn us rs → i < row_length row → a ≡ row_at row i → Generalized d e x u b a (tree_at vs r) → qs ≡ rs ++ r ∷ [] → Generalized c e x u b (row_take (i + 1) row) (trees_at vs qs)
gen_push us vs c d e x u b i row a rs qs r sc fd se known g ext all lt ea h eq =
    let is : trees_at vs qs ≡ row_push (trees_at us rs) (tree_at vs r) = ap (trees_at vs) eq ∙ trees_at-push vs rs r ∙ ap (λ z. row_push z (tree_at vs r)) (trees_at-extended ext rs all) in
    let row' : row_take (i + 1) row ≡ row_push (row_take i row) a = row_take-more i row lt ∙ ap (row_push (row_take i row)) (sym ea) in
    let ir : IsRow (trees_at us rs) = IsRow-trees_at us rs in
    let it : IsRow (row_take i row) = row_take-row i row lt in
    let old : resolved e (trees_at us rs) ≡ resolved d (trees_at us rs) = h.keeps.trees (trees_at us rs) g.knows in
    let lacks : Lacks x (resolved e (trees_at us rs)) = rw old g.lacks in
    let first : Knows d (row_take i row) = Knows-later (row_take i row) g.keeps.later (Knows-row_take c i row known) in
    let clean : NamesAll region_level u (resolved e (trees_at us rs)) = rw old g.clean in
    let known_child : Knows c a = rw ea (Knows-row_at c row i known) in
    let later_alike = AreAlike-continues d e (trees_at us rs) (row_take i row) fd.sound se h.continues fd.sides g.knows first g.alike in
    rw (is, row') (record {
      keeps = KeepsKnowing-trans g.keeps h.keeps;
      knows = Knows-push e (trees_at us rs) (tree_at vs r) ir (Knows-later (trees_at us rs) h.keeps.later g.knows) h.knows;
      rank = zero_le _ _ (rank-push (trees_at us rs) (tree_at vs r) ir);
      fits = λ j n z. row_unfit j (row_push (row_take i row) a) (IsRow-push (row_take i row) a it);
      like = IsLike-push (trees_at us rs) (row_take i row) (tree_at vs r) a ir it g.like (kind_of-like (tree_at vs r) a h.like);
      lacks = rw (resolved-row_push e (trees_at us rs) (tree_at vs r) ir) (Lacks-push x (resolved e (trees_at us rs)) (resolved e (tree_at vs r)) lacks h.lacks (IsRow-resolved e (trees_at us rs) ir));
      continues = Continues-trans c d e sc g.continues h.continues;
      own = h.own ∙ g.own;
      named = NamesAll-push (level_in e) u (trees_at us rs) (tree_at vs r) ir (NamesAll-falls d e u (trees_at us rs) h.continues.falls g.knows g.named) h.named;
      named_regions = NamesAll-push region_level u (trees_at us rs) (tree_at vs r) ir g.named_regions h.named_regions;
      closed = IsClosedUnder-push b (trees_at us rs) (tree_at vs r) ir g.closed h.closed;
      patched = push_patched (row_take i row) (trees_at us rs) a (tree_at vs r) it g.patched h.patched;
      clean = rw (resolved-row_push e (trees_at us rs) (tree_at vs r) ir) (NamesAll-push region_level u (resolved e (trees_at us rs)) (resolved e (tree_at vs r)) (IsRow-resolved e (trees_at us rs) ir) clean h.clean);
      alike = AreAlike-push e (trees_at us rs) (row_take i row) (tree_at vs r) a ir it (IsLike-length (trees_at us rs) (row_take i row) ir g.like) later_alike h.alike;
      exact = λ n.
          let all : NamesAll region_level u (row_push (resolved c (row_take i row)) (resolved c a)) = rw (resolved-row_push c (row_take i row) a it) at n in
          let parts = NamesAll-pushed region_level u (resolved c (row_take i row)) (resolved c a) (IsRow-resolved c (row_take i row) it) all in
          let before : AreOne e (trees_at us rs) (row_take i row) = AreOne-continues d e (trees_at us rs) (row_take i row) h.continues g.knows first (g.exact parts.0) in
          let last : AreOne e (tree_at vs r) a = h.exact (rw (g.keeps.trees a known_child) parts.1) in
          deeply_resolved-push e (trees_at us rs) (tree_at vs r) ir ∙ (λ j. row_push (before j) (last j)) ∙ sym (deeply_resolved-push e (row_take i row) a it);
      labels = λ P v p q.
          let parts = passes-pushed (λ z. P z ≡ true) (row_take i row) a it q in
          let first = g.labels P v p parts.0 in
          let second = h.labels P v first.0 parts.1 in
          (second.0, passes-row_push (λ z. P z ≡ true) (trees_at us rs) (tree_at vs r) ir first.1 second.1);
      sound = λ w z.
          let q = h.sound w z in
          let p = g.sound w q.0 in
          (p.0, inst-push w (trees_at us rs) (tree_at vs r) ir ∙ (λ j. row_push (p.1 j) (q.1 j)) ∙ sym (inst-push w (row_take i row) a it));
      complete = λ w z names.
          let all : NamesAll term_level u (row_push (inst w (row_take i row)) (inst w a)) = rw (inst-push w (row_take i row) a it) at names in
          let parts = NamesAll-pushed term_level u (inst w (row_take i row)) (inst w a) (IsRow-inst w (row_take i row) it) all in
          let first = g.complete w z parts.0 in
          let child : NamesAll term_level u (inst first.world a) = rw (inst-agrees c w first.world a first.agrees known_child) parts.1 in
          let second = h.complete first.world first.solves child in
          record {
            world = second.world;
            agrees = Agrees-trans (length c.slots) (length d.slots) w first.world second.world g.continues.more first.agrees second.agrees;
            solves = second.solves;
            names = λ f k n.
                (let every : NamesAll f u (row_push (inst w (row_take i row)) (inst w a)) = rw (inst-push w (row_take i row) a it) at n in
                let each = NamesAll-pushed f u (inst w (row_take i row)) (inst w a) (IsRow-inst w (row_take i row) it) every in
                second.names f (first.names f k each.0) (rw (inst-agrees c w first.world a first.agrees known_child) each.1));
          };
    })

-- the node is made
pub gen_node : (c d : Content) (x u b i : ℕ) (t row : Tree) (l : Label) → Knows c t → t ≡ node l (children t) → variable_of l ≡ None → is_free_region l ≡ false → CanName u (term_level l) → IsBoundBelow b l → IsRow (children t) → i ≡ row_length (children t) → Generalized c d x u (b + binders l) (row_take i (children t)) row → Generalized c d x u b t (node l row)
gen_node c d x u b i t row l known is alone not_free names below r n g =
    let none : infer_of l ≡ None = infer_of_none l alone in
    let whole : row_take i (children t) ≡ children t = rw n (row_take-all (children t) r) in
    let alike : AreAlike d row (children t) = rw whole at g.alike in
    let row_patched : IsPatched (children t) row = rw whole at g.patched in
    record {
      keeps = g.keeps;
      knows = (let k : Knows d (node l (children t)) = subst (λ (y : Tree). Knows d y) is (Knows-later t g.keeps.later known) in k.0, g.knows, lists_patched (binders l) (children t) row row_patched (let k : Knows d (node l (children t)) = subst (λ (y : Tree). Knows d y) is (Knows-later t g.keeps.later known) in k.2));
      rank = zero_le _ _ (ap rank_of alone);
      fits = λ j n z f. fits_node j l (children t) row n (subst (λ (y : Tree). Fits j y) is f);
      like = subst (λ (y : Tree). IsLike (node l row) y) (sym is) refl;
      lacks = rw (resolved-node d l row none) (lacks_node x l (resolved d row) none g.lacks);
      continues = g.continues;
      own = g.own;
      named = (rw alone names, g.named);
      named_regions = (no_region_level l not_free, g.named_regions);
      closed = (below, g.closed);
      patched = subst (λ (y : Tree). IsPatched y (node l row)) (sym is) (in_node row_patched);
      clean = rw (resolved-node d l row none) (no_region_level l not_free, g.clean);
      alike = subst (λ (y : Tree). AreAlike d (node l row) y) (sym is) (AreAlike-node d l row (children t) none alike);
      exact = λ n.
          let at_node : NamesAll region_level u (node l (resolved c (children t))) = subst (λ (y : Tree). NamesAll region_level u y) (ap (resolved c) is ∙ resolved-node c l (children t) none) n in
          let one : AreOne d row (children t) = rw whole at (g.exact (rw whole at_node.1)) in
          deeply_resolved-node d l row none ∙ ap (node (rooted_variable d (variable_of l) l)) one ∙ sym (deeply_resolved-node d l (children t) none) ∙ ap (deeply_resolved d) (sym is);
      labels = λ P v p q.
          let parts : TreePasses P (node l (children t)) = subst (λ (y : Tree). TreePasses P y) is q in
          let made = g.labels P v p (rw whole parts.1) in
          (made.0, (parts.0, made.1));
      sound = λ w z.
          let q = g.sound w z in
          let same : inst w row ≡ inst w (children t) = rw whole at q.1 in
          (q.0, inst-node w l row alone ∙ ap (node (renamed w l)) same ∙ sym (inst-node w l (children t) alone) ∙ ap (inst w) (sym is));
      complete = λ w z names.
          let at_node : NamesAll term_level u (node (renamed w l) (inst w (children t))) = subst (λ (y : Tree). NamesAll term_level u y) (ap (inst w) is ∙ inst-node w l (children t) alone) names in
          named_for
          (λ f n. (let node_named : NamesAll f u (node (renamed w l) (inst w (children t))) = subst (λ (y : Tree). NamesAll f u y) (ap (inst w) is ∙ inst-node w l (children t) alone) n in
          rw whole node_named.1))
          (g.complete w z (rw whole at_node.1));
    }
  where
    no_region_level : (m : Label) → is_free_region m ≡ false → CanName u (region_level m)
    no_region_level (label.Leaf (leaf.Region q)) e = cc
    no_region_level (label.Leaf (leaf.Variable j k)) e = tt
    no_region_level (label.Leaf (leaf.TyConstant q)) e = tt
    no_region_level (label.Leaf (leaf.ConstConstant q)) e = tt
    no_region_level (label.Bound q j k) e = tt
    no_region_level (label.Ty h) e = tt
    no_region_level (label.Const h) e = tt
    no_region_level (label.Clause h) e = tt
    no_region_level (label.Predicate h) e = tt
    no_region_level (label.List h) e = tt

    lacks_node : (n : ℕ) (m : Label) (y : Tree) → infer_of m ≡ None → Lacks n y → Lacks n (node m y)
    lacks_node n m y e h = rw e h

-- from the value of a variable to the variable
pub gen_known : (c d : Content) (x u b : ℕ) (t v r : Tree) (k : NodeKind) → IsInfer t → kind_of v ≡ Some k → kind_of t ≡ Some k → Knows c t → Knows c v → resolved c t ≡ resolved c v → ((w : World) → Solves c w → inst w t ≡ inst w v) → Generalized c d x u 0 v r → variable_rank v < variable_rank t → ((P : Label → Bool) → TablePasses P c → TreePasses P v) → Generalized c d x u b t r
gen_known c d x u b t v r k i sv st kt kv same worlds g lower labels =
    let one : AreOne d t v = AreOne-continues c d t v g.continues kt kv (ap (rooted c) same) in
    record {
      keeps = g.keeps;
      knows = g.knows;
      rank = omega (arith, g.rank, lower);
      fits = λ j n z f. infer_ranked t i z;
      like = like_of-kinds r t k (kind_of-like r v g.like ∙ sv) st;
      lacks = g.lacks;
      continues = g.continues;
      own = g.own;
      named = g.named;
      named_regions = g.named_regions;
      closed = IsClosedUnder-more 0 b r (omega arith) g.closed;
      patched = infer_patched t r i (g.closed, known_well_bound d r g.knows);
      clean = g.clean;
      alike = AreAlike-for d r v r t refl one g.alike;
      exact = λ n. g.exact (subst (λ (y : Tree). NamesAll region_level u y) same n) ∙ sym one;
      labels = λ P f p q. g.labels P f p (labels P p);
      sound = λ w z. (let q = g.sound w z in (q.0, q.1 ∙ sym (worlds w q.0)));
      complete = λ w z names. named_for (λ f n. rw (worlds w z) at n) (g.complete w z (rw (worlds w z) at names));
    }

pub binders_le : (l : Label) → binders l ≤ 1
binders_le (label.Leaf h) = omega arith
binders_le (label.Bound s i n) = omega arith
binders_le (label.Ty (ty.Ctor i)) = omega arith
binders_le (label.Ty (ty.Int i)) = omega arith
binders_le (label.Ty (ty.Uint i)) = omega arith
binders_le (label.Ty (ty.Float i)) = omega arith
binders_le (label.Ty ty.FnPtr) = omega arith
binders_le (label.Ty (ty.Alias i)) = omega arith
binders_le (label.Ty ty.Error) = omega arith
binders_le (label.Const h) = omega arith
binders_le (label.Clause h) = omega arith
binders_le (label.Predicate h) = omega arith
binders_le (label.List list.Args) = omega arith
binders_le (label.List list.Env) = omega arith
binders_le (label.List list.Sorts) = omega arith
binders_le (label.List (list.Sort s)) = omega arith
binders_le (label.List list.Binder) = omega arith

-- the table's variables are not fewer
pub slots_later : (ts us : List Tree) (e f : Entries) (n : ℕ) → IsLater (content_of ts e) (content_of us f) → n < length e.variables → n < length f.variables
slots_later ts us e f n l h = omega (arith, h, l.more, length-slots ts e.variables, length-slots us f.variables)
