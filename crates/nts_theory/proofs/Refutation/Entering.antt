-- A solution of a canonical input is one of the table that a query begins with.
use Rattle.std.proofs.Common.{◌≡◌, ℕ, zero, suc, ◌+◌, List, [], ◌∷◌, map, get_or, Option, Some, refl, sym, ap, subst, ◌∙◌, arith}
use Rattle.std.specs.Prelude.{◌<◌}
use Rattle.nts_model.specs.declared.labels.Sort.TheVariants as sort
use Rattle.nts_model.specs.declared.labels.VariableKind.{VariableKind}
use Rattle.nts_model.specs.declared.labels.FreeRegion.{FreeRegion}
use Rattle.nts_model.specs.declared.labels.FreeRegion.TheVariants as region
use Rattle.nts_model.specs.declared.labels.Leaf.{Leaf}
use Rattle.nts_model.specs.declared.labels.Leaf.TheVariants as leaf
use Rattle.nts_model.specs.declared.labels.Label.{Label}
use Rattle.nts_model.specs.declared.labels.Label.TheVariants as label
use Rattle.nts_model.specs.Terms.Trees.{Tree, empty, more, node}
use Rattle.nts_model.specs.Tables.Contents.{Content, kind_at}
use Rattle.nts_model.specs.Terms.Placeholders.{CanName, free_region_level, leaf_level}
use Rattle.nts_model.specs.Tables.Levels.{NamesAll, term_level}
use Rattle.nts_model.specs.Tables.Worlds.{World, inst, KeepsFixedRegions}
use Rattle.nts_model.specs.Terms.Substitutions.{leaf_tree, filled}
use Rattle.nts_model.specs.Derivations.Handlers.{IsFixed}
use Rattle.nts_model.specs.Canonical.Inputs.{CanonicalInput, PositionKind, type_variable, integer_variable, float_variable, const_variable, region_variable, placeholder}
use Rattle.nts_model.specs.Answers.Responses.{IsOverPositions, placeholder_tree, IsImageOf, AreImagesOf, IsNamedBy, AreNamedBy}
use Rattle.nts_model.specs.Answers.Applying.{IsOriginalAt, ChoosesAll, IsProperContent, AreKnownTrees}
use Rattle.nts_model.specs.Lists.{Among}
use Rattle.nts_model.specs.Refutation.Containing.{IsAliasFree, IsPlainWorld, Truth, IsSolution, IsFreeRegion, IsInputValue, AreInputValues, IsSolutionOf}
use Rattle.nts_theory.proofs.Refutation.PlainTerms.{alias_level, free_are_named, plain_by_names}
use Rattle.nts_model.proofs.Tables.Instances.{Agrees-refl}
use Rattle.nts_model.proofs.Tables.Solving.{NamesAll-more}
use Rattle.nts_model.proofs.Canonical.Positioned.{inst-filled, filled_under-fixed}
use Rattle.nts_theory.proofs.Refutation.Carrying.{names_terms}
use Rattle.nts_theory.proofs.Refutation.Answered.{solution_later}
use Rattle.nts_theory.proofs.Responses.Applying.{SoFar, all_chosen}
use Rattle.nts_theory.proofs.Refutation.Agreeing.{IsNumberedKind, AreNumberedKinds}
use Rattle.nts_model.proofs.Tables.Slots.{KeepsKinds-refl}

-- the table without variables
abbrev pub nothing : Content
nothing = record { slots = []; order = []; universe = 0; constraints = [] }

-- the region that a tree is
abbrev pub region_or : FreeRegion → Tree → FreeRegion
region_or r (node (label.Leaf (leaf.Region x)) c) = x
region_or r t = r

abbrev pub entered_region : List Tree → FreeRegion → FreeRegion
entered_region vs (region.Placeholder zero n) = region_or (region.Placeholder 0 n) (get_or vs n empty)
entered_region vs r = r

abbrev pub entered_world : Truth → List Tree → World
entered_world truth vs = record { tree = λ n. empty; region = entered_region vs; outlives = truth }

region_low : (n : ℕ) (t : Tree) → NamesAll leaf_level 0 t → CanName 0 (free_region_level (region_or (region.Placeholder 0 n) t))
region_low n empty h = omega arith
region_low n (more a b) h = omega arith
region_low n (node (label.Leaf (leaf.Region x)) c) h = h.0
region_low n (node (label.Leaf (leaf.Variable k m)) c) h = omega arith
region_low n (node (label.Leaf (leaf.TyConstant a)) c) h = omega arith
region_low n (node (label.Leaf (leaf.ConstConstant a)) c) h = omega arith
region_low n (node (label.Bound a b d) c) h = omega arith
region_low n (node (label.Ty x) c) h = omega arith
region_low n (node (label.Const x) c) h = omega arith
region_low n (node (label.Clause x) c) h = omega arith
region_low n (node (label.Predicate x) c) h = omega arith
region_low n (node (label.List x) c) h = omega arith

value_low : (b : ℕ) (k : PositionKind) (t : Tree) → IsNumberedKind b k → IsInputValue k t → NamesAll leaf_level 0 t
value_low b (type_variable u r) t n h = h.named
value_low b integer_variable t n h = h.named
value_low b float_variable t n h = h.named
value_low b (const_variable u) t n h = h.named
value_low b (region_variable u) t n h = h.named
value_low b (placeholder sort.Region u m) t n h = h.1
value_low b (placeholder sort.Ty u m) t n h = rw (h, n.0) (omega arith, tt)
value_low b (placeholder sort.Const u m) t n h = rw (h, n.0) (omega arith, tt)

values_low : (b : ℕ) (ks : List PositionKind) (ts : List Tree) → AreNumberedKinds b ks → AreInputValues ks ts → (i : ℕ) → NamesAll leaf_level 0 (get_or ts i empty)
values_low b [] [] n h i = tt
values_low b [] (t ∷ ts) n h i = absurd h
values_low b (k ∷ ks) [] n h i = absurd h
values_low b (k ∷ ks) (t ∷ ts) n h zero = value_low b k t n.0 h.0
values_low b (k ∷ ks) (t ∷ ts) n h (suc i) = values_low (suc b) ks ts n.1 h.1 i

entered_low : (vs : List Tree) → ((i : ℕ) → NamesAll leaf_level 0 (get_or vs i empty)) → (r : FreeRegion) → CanName 0 (free_region_level r) → CanName 0 (free_region_level (entered_region vs r))
entered_low vs h (region.Placeholder zero n) k = region_low n (get_or vs n empty) (h n)
entered_low vs h (region.Placeholder (suc u) n) k = k
entered_low vs h region.Static k = tt
entered_low vs h region.Erased k = tt
entered_low vs h region.Error k = tt
entered_low vs h (region.EarlyParam n) k = tt
entered_low vs h (region.LateParam n) k = tt

entered_new : (vs : List Tree) (u n : ℕ) → 0 < u → entered_region vs (region.Placeholder u n) ≡ region.Placeholder u n
entered_new vs zero n h = absurd (omega (arith, h))
entered_new vs (suc u) n h = refl

no_kind : (n : ℕ) (k : VariableKind) → kind_at nothing n ≡ Some k → ⊥
no_kind n k e = cc e

entered_solution : (truth : Truth) (vs : List Tree) → ((i : ℕ) → NamesAll leaf_level 0 (get_or vs i empty)) → IsSolution truth 0 nothing (entered_world truth vs)
entered_solution truth vs h =
    record {
      solves = record { values = λ n. tt; constraints = tt; nameable = record { each = λ n. tt }; fitting = record { each = λ n k e. absurd (no_kind n k e) } };
      named = record { each = λ n. tt };
      fixed = record { static = refl; erased = refl; error = refl };
      above = omega arith;
      new = λ u n l. entered_new vs u n l;
      low = λ r k. entered_low vs h r k;
      outlives = λ a b. refl;
    }

-- what the positions of the input are made from: a variable for each existential kind, and the placeholders
abbrev pub AreStandIns : List PositionKind → List Tree → ℕ → Type 0
AreStandIns [] os b = Unit {0}
AreStandIns (placeholder s u n ∷ ks) os b = (get_or os b empty ≡ placeholder_tree s 0 b) × AreStandIns ks os (suc b)
AreStandIns (k ∷ ks) os b = AreStandIns ks os (suc b)

module _ (truth : Truth) (vs os : List Tree) where
  region_image : (t : Tree) (n : ℕ) → t ≡ get_or vs n empty → IsFreeRegion t → t ≡ leaf_tree (leaf.Region (entered_region vs (region.Placeholder 0 n)))
  region_image t n e (r, is) = is ∙ ap (λ z. leaf_tree (leaf.Region (region_or (region.Placeholder 0 n) z))) (sym is ∙ e)

  one_image : (b : ℕ) (k : PositionKind) (ks : List PositionKind) (t : Tree) → IsNumberedKind b k → AreStandIns (k ∷ ks) os b → t ≡ get_or vs b empty → IsInputValue k t → IsImageOf (entered_world truth vs) 0 os k t
  one_image b (type_variable u r) ks t n s e h = h.value
  one_image b integer_variable ks t n s e h = h.value
  one_image b float_variable ks t n s e h = h.value
  one_image b (const_variable u) ks t n s e h = h.value
  one_image b (region_variable u) ks t n s e h = h.value
  one_image b (placeholder o (suc u) m) ks t n s e h = absurd (let z : suc u ≡ 0 = n.0 in cc z)
  one_image b (placeholder sort.Ty zero m) ks t n s e h = h ∙ ap (λ z. placeholder_tree sort.Ty 0 z) (n.1) ∙ ap (inst (entered_world truth vs)) (sym s.0 ∙ ap (λ z. get_or os z empty) (sym n.1))
  one_image b (placeholder sort.Const zero m) ks t n s e h = h ∙ ap (λ z. placeholder_tree sort.Const 0 z) (n.1) ∙ ap (inst (entered_world truth vs)) (sym s.0 ∙ ap (λ z. get_or os z empty) (sym n.1))
  one_image b (placeholder sort.Region zero m) ks t n s e h = region_image t b e h.0 ∙ ap (inst (entered_world truth vs)) (sym s.0 ∙ ap (λ z. get_or os z empty) (sym n.1))

  stand_rest : (k : PositionKind) (ks : List PositionKind) (b : ℕ) → AreStandIns (k ∷ ks) os b → AreStandIns ks os (suc b)
  stand_rest (type_variable u r) ks b s = s
  stand_rest integer_variable ks b s = s
  stand_rest float_variable ks b s = s
  stand_rest (const_variable u) ks b s = s
  stand_rest (region_variable u) ks b s = s
  stand_rest (placeholder o u m) ks b s = s.1

  all_images : (b : ℕ) (ks : List PositionKind) (ts : List Tree) → AreNumberedKinds b ks → AreStandIns ks os b → ((i j : ℕ) → j ≡ b + i → get_or ts i empty ≡ get_or vs j empty) → AreInputValues ks ts → AreImagesOf (entered_world truth vs) 0 os ks ts
  all_images b [] [] n s e h = tt
  all_images b [] (t ∷ ts) n s e h = absurd h
  all_images b (k ∷ ks) [] n s e h = absurd h
  all_images b (k ∷ ks) (t ∷ ts) n s e h = (
    one_image b k ks t n.0 s (e 0 b (omega arith)) h.0,
    all_images (suc b) ks ts n.1 (stand_rest k ks b s) (λ i j q. e (suc i) j (omega (arith, q))) h.1,
  )

from_root : (u : ℕ) → 0 + u ≡ u
from_root u = omega arith

one_named : (f : Label → Option ℕ) → ((u : ℕ) (t : Tree) → NamesAll leaf_level u t → NamesAll f u t) → (k : PositionKind) (t : Tree) → IsInputValue k t → IsNamedBy f 0 k t
one_named f g (type_variable u r) t h = rw (from_root u) (g u t (NamesAll-more leaf_level 0 u t (omega arith) h.named))
one_named f g integer_variable t h = g 0 t h.named
one_named f g float_variable t h = g 0 t h.named
one_named f g (const_variable u) t h = rw (from_root u) (g u t (NamesAll-more leaf_level 0 u t (omega arith) h.named))
one_named f g (region_variable u) t h = rw (from_root u) (g u t (NamesAll-more leaf_level 0 u t (omega arith) h.named))
one_named f g (placeholder o u n) t h = tt

all_named : (f : Label → Option ℕ) → ((u : ℕ) (t : Tree) → NamesAll leaf_level u t → NamesAll f u t) → (ks : List PositionKind) (ts : List Tree) → AreInputValues ks ts → AreNamedBy f 0 ks ts
all_named f g [] [] h = tt
all_named f g [] (t ∷ ts) h = absurd h
all_named f g (k ∷ ks) [] h = absurd h
all_named f g (k ∷ ks) (t ∷ ts) h = (one_named f g k t h.0, all_named f g ks ts h.1)

no_original : (os : List Tree) (n : ℕ) (z : Tree) → IsOriginalAt [] os n z → ⊥
no_original [] n z h = h
no_original (o ∷ os) n z h = h

-- a world of the query's first table
pub record Enters (truth : Truth) (Proves : Tree → Tree → Type 0) (i : CanonicalInput) (q : Content) (qs vs : List Tree) : Type 0 where
  pub world : World
  pub solution : IsSolution truth 0 q world
  pub plain : IsPlainWorld q world
  pub images : map (inst world) qs ≡ vs
  pub proved : Proves (inst world (filled qs i.environment)) (inst world (filled qs i.predicate))

-- how the query's table begins
pub record IsBegun (i : CanonicalInput) (q : Content) (qs : List Tree) : Type 0 where
  pub stand_ins : List Tree
  pub are_stand_ins : AreStandIns i.kinds stand_ins 0
  pub known : AreKnownTrees nothing stand_ins
  pub made : ChoosesAll nothing [] stand_ins 0 i.kinds qs nothing q
  pub proper : IsProperContent nothing
  pub numbered : AreNumberedKinds 0 i.kinds
  pub environment : IsOverPositions i.environment
  pub predicate : IsOverPositions i.predicate

fixed_in : (w : World) → KeepsFixedRegions w → (l : Leaf) → IsFixed l → inst w (leaf_tree l) ≡ leaf_tree l
fixed_in w h (leaf.Region region.Static) i = ap (λ z. leaf_tree (leaf.Region z)) h.static
fixed_in w h (leaf.Region region.Erased) i = ap (λ z. leaf_tree (leaf.Region z)) h.erased
fixed_in w h (leaf.Region region.Error) i = ap (λ z. leaf_tree (leaf.Region z)) h.error
fixed_in w h (leaf.Region (region.Placeholder u n)) i = absurd i
fixed_in w h (leaf.Region (region.EarlyParam n)) i = absurd i
fixed_in w h (leaf.Region (region.LateParam n)) i = absurd i
fixed_in w h (leaf.Variable k n) i = absurd i
fixed_in w h (leaf.TyConstant a) i = absurd i
fixed_in w h (leaf.ConstConstant a) i = absurd i

goal_image : (w : World) → KeepsFixedRegions w → (qs : List Tree) (t : Tree) → IsOverPositions t → inst w (filled qs t) ≡ filled (map (inst w) qs) t
goal_image w h qs t o = inst-filled w qs t o.formed ∙ filled_under-fixed (λ l. inst w (leaf_tree l)) (map (inst w) qs) t (fixed_in w h) o

-- values for the positions, as a world of the query's first table
pub record EntersAt (truth : Truth) (i : CanonicalInput) (q : Content) (qs vs : List Tree) : Type 0 where
  pub world : World
  pub solution : IsSolution truth 0 q world
  pub plain : ((v : Tree) → Among vs v → IsAliasFree v) → IsPlainWorld q world
  pub images : map (inst world) qs ≡ vs
  pub environment : inst world (filled qs i.environment) ≡ filled vs i.environment
  pub predicate : inst world (filled qs i.predicate) ≡ filled vs i.predicate

pub entered_at : (truth : Truth) (i : CanonicalInput) (q : Content) (qs vs : List Tree) → IsBegun i q qs → AreInputValues i.kinds vs → EntersAt truth i q qs vs
entered_at truth i q qs vs b values =
    let low = values_low 0 i.kinds vs b.numbered values in
    let w = entered_world truth vs in
    let s = entered_solution truth vs low in
    let so : SoFar nothing [] b.stand_ins nothing w w = record { proper = b.proper; solves = s.solves; agrees = Agrees-refl 0 w; longer = omega arith; keeps = KeepsKinds-refl nothing } in
    let same : (j k : ℕ) → k ≡ 0 + j → get_or vs j empty ≡ get_or vs k empty = λ j k e. (let z : j ≡ k = omega (arith, e) in ap (λ y. get_or vs y empty) z) in
    let c = all_chosen nothing [] b.stand_ins 0 i.kinds qs vs nothing q w w b.known (λ j n z e o. absurd (no_original b.stand_ins n z o)) so b.made
    (all_images truth vs b.stand_ins 0 i.kinds vs b.numbered b.are_stand_ins same values) (all_named term_level names_terms i.kinds vs values) in
    let by = all_named leaf_level (λ u x k. k) i.kinds vs values in
    let t = solution_later truth 0 nothing q w c.world s (omega arith) c.agrees c.solves (c.names leaf_level s.named by) in
    record {
      world = c.world;
      solution = t;
      plain = λ free. plain_by_names nothing q w c.world (λ m n. c.names (alias_level m) n (free_are_named leaf_level m 0 i.kinds vs by free)) (record { each = λ n k e. absurd (no_kind n k e) });
      images = c.images;
      environment = goal_image c.world t.fixed qs i.environment b.environment ∙ ap (λ z. filled z i.environment) c.images;
      predicate = goal_image c.world t.fixed qs i.predicate b.predicate ∙ ap (λ z. filled z i.predicate) c.images;
    }

pub entered : (truth : Truth) (Proves : Tree → Tree → Type 0) (i : CanonicalInput) (q : Content) (qs vs : List Tree) → IsBegun i q qs → IsSolutionOf Proves i vs → Enters truth Proves i q qs vs
entered truth Proves i q qs vs b h =
    let c = entered_at truth i q qs vs b h.values in
    record {
      world = c.world;
      solution = c.solution;
      plain = c.plain h.plain;
      images = c.images;
      proved = subst (λ z. Proves z (inst c.world (filled qs i.predicate))) (sym c.environment) (subst (Proves (filled vs i.environment)) (sym c.predicate) h.proved);
    }
