-- A candidate that a world with one region meets is begun in it: its fresh variables are made, its equations and its constraints hold.
use Rattle.nts_model.specs.declared.labels.ListHead.{ListHead}
use Rattle.nts_model.specs.declared.labels.ListHead.TheVariants as list
use Rattle.nts_model.specs.declared.labels.VariableKind.TheVariants as kind
use Rattle.nts_model.specs.declared.labels.Sort.TheVariants as sort
use Rattle.nts_model.proofs.Canonical.Positioned.{inst-filled}
use Rattle.nts_model.proofs.Tables.Instances.{inst-agrees, Agrees-refl, Agrees-trans}
use Rattle.nts_model.proofs.Tables.Instances.{inst-agrees}
use Rattle.nts_model.proofs.Tables.Slots.{Knows-kept, KeepsKinds, KeepsKinds-trans}
use Rattle.nts_model.proofs.Tables.Slots.{Knows-kept}
use Rattle.nts_model.proofs.Tables.Solving.{Solves-with_constraint}
use Rattle.nts_model.specs.Answers.Applying.{IsProperContent, AreKnownTrees}
use Rattle.nts_model.specs.Answers.Applying.{IsProperContent}
use Rattle.nts_model.specs.Answers.Responses.{read_in}
use Rattle.nts_model.specs.Derivations.Handlers.{Candidate, IsValueOfSort, AreValuesOf, IsOfSort}
use Rattle.nts_model.specs.Derivations.Handlers.{Candidate, constraint_by, IsCandidateFor, IsFixed, IsOver, IsEquationOver}
use Rattle.nts_model.specs.Derivations.Related.{Constraint, pair}
use Rattle.nts_model.specs.Derivations.Rules.{Equation}
use Rattle.nts_model.specs.Derivations.Rules.{Equation, related, alike}
use Rattle.nts_model.specs.Lists.{Among}
use Rattle.nts_model.specs.Refutation.Choosing.{left_of, right_of, Freshens, AreNamedValues}
use Rattle.nts_model.specs.Refutation.Choosing.{left_of, right_of, Freshens, EquatesAll}
use Rattle.nts_model.specs.Refutation.Forcing.{seen_as, AddsBy, AddsAll}
use Rattle.nts_model.specs.Tables.Contents.{Content}
use Rattle.nts_model.specs.Tables.Contents.{Content, with_constraint}
use Rattle.nts_model.specs.Tables.Resolving.{Knows}
use Rattle.nts_model.specs.Tables.Resolving.{Knows}
use Rattle.nts_model.specs.Tables.Worlds.{World, inst, Agrees, Solves}
use Rattle.nts_model.specs.Tables.Worlds.{World, inst, IsTrueOf, IsMet}
use Rattle.nts_model.specs.Terms.Substitutions.{leaf_tree, Occurs, filled}
use Rattle.nts_model.specs.Terms.Substitutions.{leaf_tree, Occurs, filled}
use Rattle.nts_model.specs.Terms.Trees.{Tree, empty, more, node, kind_of_label, kind_of, of_sort}
use Rattle.nts_model.specs.Terms.Trees.{Tree}
use Rattle.nts_model.specs.declared.labels.BoundVarIndexKind.TheVariants as index
use Rattle.nts_model.specs.declared.labels.FreeRegion.TheVariants as region
use Rattle.nts_model.specs.declared.labels.Label.TheVariants as label
use Rattle.nts_model.specs.declared.labels.Label.{Label}
use Rattle.nts_model.specs.declared.labels.Leaf.TheVariants as leaf
use Rattle.nts_model.specs.declared.labels.Leaf.{Leaf}
use Rattle.nts_model.specs.declared.labels.Relation.TheVariants as relation
use Rattle.nts_model.specs.declared.labels.Relation.{Relation}
use Rattle.nts_model.specs.declared.labels.Sort.{Sort}
use Rattle.nts_theory.proofs.Refutation.Choosing.{fresh_known, AreOfTable, equations_known, read_later}
use Rattle.nts_theory.proofs.Refutation.Freshening.{knows_leaf}
use Rattle.nts_theory.proofs.Refutation.Freshening.{freshened_world}
use Rattle.nts_theory.proofs.Refutation.Trying.{KnowsEquations, equated_world}
use Rattle.nts_theory.specs.RelatingCandidates.{IsBegun}
use Rattle.std.proofs.Common.{ℕ, ◌≡◌, inl, inr, List, [], ◌∷◌, length, refl, sym, ap, subst, ◌∙◌, arith, Some, slice_get, true}
use Rattle.std.proofs.Common.{◌≡◌, inl, inr, ℕ, zero, suc, List, [], ◌∷◌, map, get_or, length, refl, sym, ap, ◌∙◌, subst}
use Rattle.std.specs.Prelude.{◌⊎◌}
use Rattle.nts_decisions.proofs.BlurredWorlds.{merged, blurred_world, solves_blurred, region_in, inst_blurred, region_is_blurred}
use Rattle.nts_decisions.proofs.OneRegion.{HasOneRegion, merged_one, merged_same, blurred_same}
use Rattle.nts_decisions.proofs.FactWorlds.{MergedWorld}
use Rattle.std.specs.Prelude.{◌<◌, ◌≤◌}
use Rattle.nts_model.specs.Terms.Regions.{of_variable}
use Rattle.nts_model.specs.Tables.Levels.{term_level}
use Rattle.nts_model.specs.Tables.Recording.{ConstrainsRegion}

erased : Tree
erased = leaf_tree (leaf.Region region.Erased)

-- the leaves of a candidate's terms are of the goal's table
fixed_known : (c : Content) (l : Leaf) → IsFixed l → Knows c (leaf_tree l)
fixed_known c (leaf.Region region.Static) i = ((tt, tt, refl), tt, tt)
fixed_known c (leaf.Region region.Erased) i = ((tt, tt, refl), tt, tt)
fixed_known c (leaf.Region region.Error) i = ((tt, tt, refl), tt, tt)
fixed_known c (leaf.Region (region.Placeholder u n)) i = absurd i
fixed_known c (leaf.Region (region.EarlyParam n)) i = absurd i
fixed_known c (leaf.Region (region.LateParam n)) i = absurd i
fixed_known c (leaf.Variable k n) i = absurd i
fixed_known c (leaf.TyConstant a) i = absurd i
fixed_known c (leaf.ConstConstant a) i = absurd i

-- a region's value is the erased region
region_value : (t : Tree) → HasOneRegion t → IsValueOfSort sort.Region t → t ≡ erased
unfolding erased
region_value t h v = sym (blurred_same t h v.formed) ∙ region_is_blurred t v.fits

value_at : (ss : List Sort) (us : List Tree) (n : ℕ) → AreValuesOf ss us → ((t : Tree) → Among us t → HasOneRegion t) → IsOfSort (slice_get ss n) (of_sort sort.Region) → get_or us n empty ≡ erased
value_at [] [] n v h s = absurd s
value_at [] (u ∷ us) n v h s = absurd v
value_at (o ∷ ss) [] n v h s = absurd v
value_at (o ∷ ss) (u ∷ us) zero v h s = by_sort o v.0 s
  where
    by_sort : (o : Sort) → IsValueOfSort o u → IsOfSort (Some o) (of_sort sort.Region) → u ≡ erased
    by_sort sort.Region x s = region_value u (h u (inl refl)) x
    by_sort sort.Ty x s = absurd (cc s)
    by_sort sort.Const x s = absurd (cc s)
value_at (o ∷ ss) (u ∷ us) (suc n) v h s = value_at ss us n v.1 (λ t i. h t (inr i)) s

no_list : (h : ListHead) → kind_of_label (label.List h) ≡ of_sort sort.Region → ⊥
no_list list.Args e = absurd (cc e)
no_list list.Env e = absurd (cc e)
no_list list.Sorts e = absurd (cc e)
no_list (list.Sort s) e = absurd (cc e)
no_list list.Binder e = absurd (cc e)

some_kind : (l : Label) (c : Tree) → kind_of (node l c) ≡ Some (of_sort sort.Region) → kind_of_label l ≡ of_sort sort.Region
some_kind l c e = cc e

module _ (q : Content) (w : World) (s : Solves q w) (e g : Tree) (known : Knows q (pair e g)) (y : Candidate) (over : IsCandidateFor e g y) (us : List Tree) (fit : AreValuesOf y.fresh us) (one : (t : Tree) → Among us t → HasOneRegion t) (named : AreNamedValues term_level q.universe us)
    (equal : (x : Equation) → Among y.equations x → read_in (blurred_world w) us (left_of x) ≡ read_in (blurred_world w) us (right_of x)) (proper : IsProperContent q) where
  leaf_known : (l : Leaf) → Occurs l (pair e g) ⊎ IsFixed l → Knows q (leaf_tree l)
  leaf_known l (inl i) = knows_leaf q l (pair e g) i known
  leaf_known l (inr i) = fixed_known q l i

  -- a side that is a region is the erased region there
  region_read : (t : Tree) → kind_of t ≡ Some (of_sort sort.Region) → IsOver y.fresh e g t → read_in (blurred_world w) us t ≡ erased
  unfolding erased
  region_read empty k o = absurd (cc k)
  region_read (more a b) k o = absurd (cc k)
  region_read (node (label.Leaf (leaf.Variable kind.Region n)) t) k o = region_in q w (leaf_tree (leaf.Variable kind.Region n)) s (leaf_known (leaf.Variable kind.Region n) (o.leaves (leaf.Variable kind.Region n) (inl refl))) (of_variable n, refl)
  region_read (node (label.Leaf (leaf.Region r)) t) k o = refl
  region_read (node (label.Leaf (leaf.Variable kind.Ty n)) t) k o = absurd (cc k)
  region_read (node (label.Leaf (leaf.Variable kind.Int n)) t) k o = absurd (cc k)
  region_read (node (label.Leaf (leaf.Variable kind.Float n)) t) k o = absurd (cc k)
  region_read (node (label.Leaf (leaf.Variable kind.Const n)) t) k o = absurd (cc k)
  region_read (node (label.Leaf (leaf.TyConstant a)) t) k o = absurd (cc k)
  region_read (node (label.Leaf (leaf.ConstConstant a)) t) k o = absurd (cc k)
  region_read (node (label.Bound x (index.Bound d) n) t) k o = absurd (let z = o.closed in let v : d < 0 = z.0 in omega (arith, v))
  region_read (node (label.Bound x index.Canonical n) t) k o = value_at y.fresh us n fit one (subst (IsOfSort (slice_get y.fresh n)) (some_kind (label.Bound x index.Canonical n) t k) (let z = o.names in z.0))
  region_read (node (label.Ty x) t) k o = absurd (cc k)
  region_read (node (label.Const x) t) k o = absurd (cc k)
  region_read (node (label.Clause x) t) k o = absurd (cc k)
  region_read (node (label.Predicate x) t) k o = absurd (cc k)
  region_read (node (label.List x) t) k o = absurd (no_list x (some_kind (label.List x) t k))

  -- a later table, and the world there
  record GoesOn (d : Content) (chosen : List Tree) : Type 0 where
    pub world : World
    pub solves : Solves d world
    pub agrees : Agrees (length q.slots) (blurred_world w) world
    pub longer : length q.slots ≤ length d.slots
    pub keeps : KeepsKinds q d
    pub images : map (inst world) chosen ≡ us
    pub terms : AreKnownTrees d chosen

  read_there : (d : Content) (chosen : List Tree) (v : GoesOn d chosen) (t : Tree) → IsOver y.fresh e g t → inst v.world (filled chosen t) ≡ read_in (blurred_world w) us t
  read_there d chosen v t o =
      inst-filled v.world chosen t o.formed ∙ ap (λ z. read_in v.world z t) v.images ∙ read_later q (blurred_world w) v.world us t v.agrees o.formed (λ l i. leaf_known l (o.leaves l i))

  images_later : (d f : Content) (v z : World) (xs : List Tree) → Agrees (length d.slots) v z → AreKnownTrees d xs → map (inst z) xs ≡ map (inst v) xs
  images_later d f v z [] a k = refl
  images_later d f v z (x ∷ xs) a k = cc (inst-agrees d v z x a k.0, images_later d f v z xs a k.1)

  known_later : (d f : Content) (xs : List Tree) → KeepsKinds d f → AreKnownTrees d xs → AreKnownTrees f xs
  known_later d f [] k h = tt
  known_later d f (x ∷ xs) k h = (Knows-kept d f x k h.0, known_later d f xs k h.1)

  goes_later : (d f : Content) (chosen : List Tree) (v : GoesOn d chosen) (z : World) → Agrees (length d.slots) v.world z → Solves f z → length d.slots ≤ length f.slots → KeepsKinds d f → GoesOn f chosen
  goes_later d f chosen v z agrees solves longer keeps =
      record {
        world = z;
        solves = solves;
        agrees = Agrees-trans (length q.slots) (length d.slots) (blurred_world w) v.world z v.longer v.agrees agrees;
        longer = (let a = v.longer in omega (arith, a, longer));
        keeps = KeepsKinds-trans v.keeps keeps;
        images = images_later d f v.world z chosen agrees v.terms ∙ v.images;
        terms = known_later d f chosen keeps v.terms;
      }

  of_table : AreOfTable q y.equations
  of_table =
      record {
        left_formed = λ x i. (let o = sides x (over.equations x i) in o.0.formed);
        right_formed = λ x i. (let o = sides x (over.equations x i) in o.1.formed);
        left_well_bound = λ x i. (let o = sides x (over.equations x i) in o.0.well_bound);
        right_well_bound = λ x i. (let o = sides x (over.equations x i) in o.1.well_bound);
        left_leaves = λ x i l j. (let o = sides x (over.equations x i) in leaf_known l (o.0.leaves l j));
        right_leaves = λ x i l j. (let o = sides x (over.equations x i) in leaf_known l (o.1.leaves l j));
      }
    where
      sides : (x : Equation) → IsEquationOver y.fresh e g x → IsOver y.fresh e g (left_of x) × IsOver y.fresh e g (right_of x)
      sides (related a b) o = o
      sides (alike a b) o = o

  both_sides : (x : Equation) → IsEquationOver y.fresh e g x → IsOver y.fresh e g (left_of x) × IsOver y.fresh e g (right_of x)
  both_sides (related a b) o = o
  both_sides (alike a b) o = o

  -- the fresh variables, and the equations
  made_there : (chosen : List Tree) (made : Content) → Freshens q.universe y.fresh chosen q made → GoesOn made chosen
  made_there chosen made f =
      let x = freshened_world q.universe y.fresh chosen us q made (blurred_world w) proper f fit named (solves_blurred q w s) in
      let k = fresh_known q.universe y.fresh chosen q made f in
      record { world = x.world; solves = x.solves; agrees = x.agrees; longer = x.longer; keeps = x.keeps; images = x.images; terms = k.known }

  equated_there : (chosen : List Tree) (made equated : Content) → Freshens q.universe y.fresh chosen q made → EquatesAll chosen y.equations made equated → GoesOn equated chosen
  equated_there chosen made equated f a =
      let v = made_there chosen made f in
      let k = fresh_known q.universe y.fresh chosen q made f in
      let known : KnowsEquations made chosen y.equations = equations_known q made chosen y.equations k.keeps k.known k.patches of_table in
      let x = equated_world chosen y.equations made equated v.world a v.solves known
      (record { each = λ z i. (let o = both_sides z (over.equations z i) in read_there made chosen v (left_of z) o.0 ∙ equal z i ∙ sym (read_there made chosen v (right_of z) o.1)) }) in
      let more = x.extended in
      goes_later made equated chosen v more.world more.agrees more.solves x.longer x.keeps

  -- the constraints: equalities are between regions, and all outlives all
  outlives_there : (d : Content) (chosen : List Tree) (v : GoesOn d chosen) (a b : Tree) → v.world.outlives a b ≡ true
  outlives_there d chosen v a b = (let h = v.agrees in h.outlives a b)

  with_one : (d : Content) (chosen : List Tree) (v : GoesOn d chosen) (x : Constraint) → IsMet v.world (seen_as x) → GoesOn (with_constraint d (seen_as x)) chosen
  with_one d chosen v x m = goes_later d (with_constraint d (seen_as x)) chosen v v.world (Agrees-refl (length d.slots) v.world) (Solves-with_constraint d (seen_as x) v.world v.solves m) (omega arith) (record { grows = omega arith; kinds = λ n k e. e })

  added_by : (r : Relation) (x : Constraint) (d f : Content) (chosen : List Tree) → x.relation ≡ r → (v : GoesOn d chosen) → AddsBy r x d f → (r ≡ relation.Equal → inst v.world x.left ≡ inst v.world x.right) → GoesOn f chosen
  added_by relation.Equal x d f chosen is v a same =
      let z = a.complete v.world v.solves (same refl) in
      let c = a.continues in
      goes_later d f chosen v z.world z.agrees z.solves c.more (record { grows = c.grows; kinds = c.kinds })
  added_by relation.RegionOutlives x d f chosen is v (inl (sides, e)) same = subst (λ z. GoesOn z chosen) (sym e) v
  added_by relation.RegionOutlives x d f chosen is v (inr e) same =
      subst (λ z. GoesOn z chosen) (sym e) (with_one d chosen v x (subst (λ z. IsTrueOf v.world z (inst v.world x.left) (inst v.world x.right)) (sym is) (inr (outlives_there d chosen v (inst v.world x.left) (inst v.world x.right)))))
  added_by relation.TypeOutlives x d f chosen is v (inl (sides, e)) same = subst (λ z. GoesOn z chosen) (sym e) v
  added_by relation.TypeOutlives x d f chosen is v (inr e) same =
      subst (λ z. GoesOn z chosen) (sym e) (with_one d chosen v x (subst (λ z. IsTrueOf v.world z (inst v.world x.left) (inst v.world x.right)) (sym is) (outlives_there d chosen v (inst v.world x.left) (inst v.world x.right))))

  one_equal : (x : Constraint) (d : Content) (chosen : List Tree) (v : GoesOn d chosen) → Among y.constraints x → x.relation ≡ relation.Equal → inst v.world (filled chosen x.left) ≡ inst v.world (filled chosen x.right)
  one_equal x d chosen v i is =
      let o = over.constraints x i in
      let k = subst (λ r. ConstrainsRegion r x.left x.right) is (over.constrains x i) in
      read_there d chosen v x.left o.0 ∙ region_read x.left k.left_sort o.0 ∙ sym (region_read x.right k.right_sort o.1) ∙ sym (read_there d chosen v x.right o.1)

  added_there : (xs : List Constraint) (d f : Content) (chosen : List Tree) → ((x : Constraint) → Among xs x → Among y.constraints x) → GoesOn d chosen → AddsAll chosen xs d f → GoesOn f chosen
  added_there [] d f chosen h v a = subst (λ z. GoesOn z chosen) (sym a) v
  added_there (x ∷ xs) d f chosen h v (b, first, rest) =
      added_there xs b f chosen (λ z i. h z (inr i)) (added_by x.relation (constraint_by (filled chosen) x) d b chosen refl v first (λ is. one_equal x d chosen v (h x (inl refl)) is)) rest

  -- the whole candidate is begun
  pub begun_there : (chosen : List Tree) (met : Content) → IsBegun q y chosen met → (qs ts : List Tree) → ((t : Tree) → Among qs t → Knows q t) → map (λ t. merged (inst w t)) qs ≡ ts → MergedWorld met qs ts × KeepsKinds q met
  begun_there chosen met b qs ts k images =
      let v = added_there y.constraints b.equal met chosen (λ z i. i) (equated_there chosen b.made b.equal b.freshens b.equates) b.adds in
      (record { world = v.world; solves = v.solves; images = same qs v k ∙ images }, v.keeps)
    where
      same : (zs : List Tree) (v : GoesOn met chosen) → ((t : Tree) → Among zs t → Knows q t) → map (λ t. merged (inst v.world t)) zs ≡ map (λ t. merged (inst w t)) zs
      same [] v h = refl
      same (z ∷ zs) v h = cc (ap merged (inst-agrees q (blurred_world w) v.world z v.agrees (h z (inl refl)) ∙ sym (inst_blurred w z)) ∙ merged_same (merged (inst w z)) (merged_one (inst w z)), same zs v (λ t i. h t (inr i)))
