-- What a response says of an input is proved in the table to which it was applied.
use Rattle.std.proofs.Common.{◌≡◌, inl, inr, ⊎_elim, ℕ, zero, suc, ◌+◌, true, List, [], ◌∷◌, map, refl, sym, ap, ◌∙◌, subst}
use Rattle.std.specs.Prelude.{Contains}
use Rattle.nts_model.specs.declared.labels.Relation.{Relation}
use Rattle.nts_model.specs.declared.labels.Relation.TheVariants as relation
use Rattle.nts_model.specs.declared.labels.Sort.TheVariants as sort
use Rattle.nts_model.specs.declared.labels.VariableKind.TheVariants as kind
use Rattle.nts_model.specs.declared.labels.FreeRegion.TheVariants as region
use Rattle.nts_model.specs.declared.labels.Constant.TheVariants as constant
use Rattle.nts_model.specs.declared.labels.Leaf.{Leaf}
use Rattle.nts_model.specs.Terms.Trees.{Tree}
use Rattle.nts_model.specs.Tables.Contents.{Content, Recorded}
use Rattle.nts_model.specs.Tables.Resolving.{deeply_resolved, IsSound}
use Rattle.nts_model.specs.Tables.Levels.{NamesAll, term_level}
use Rattle.nts_model.specs.Terms.Regions.{of_free}
use Rattle.nts_model.specs.Tables.Holding.{HasSides, HoldsConstraint}
use Rattle.nts_model.specs.Tables.Alike.{AreAlike}
use Rattle.nts_model.specs.Terms.Regions.{RegionName}
use Rattle.nts_model.specs.Terms.Substitutions.{leaf_tree, replace, Instance, instance_of, filled, filled_under}
use Rattle.nts_model.specs.Derivations.Related.{Constraint}
use Rattle.nts_model.specs.Lists.{Among}
use Rattle.nts_model.specs.Derivations.Sequents.{Premise, region_by, MakesOne, AreOneBy, constraint_under, premise_under, HasOneSide, IsInstance}
use Rattle.nts_model.specs.Derivations.Handlers.{premise_by}
use Rattle.nts_model.specs.Canonical.Numbered.{AreDistinct}
use Rattle.nts_model.specs.Canonical.Inputs.{CanonicalInput, PositionKind, type_variable, integer_variable, float_variable, const_variable, region_variable, placeholder}
use Rattle.nts_model.specs.Derivations.Proving.{HoldsTerms, read_constraints, recorded_as, turned, read_goals, sequent_with}
use Rattle.nts_model.specs.Answers.Responses.{said, recorded_by, Response, IsOverPositions, StandsFor, StandForAll, AreAlikeValues, Applies, IsLeafFor, own_leaf, leaves_of_kinds, closed_by, said_constraints, answer_sequent, IsResponseFor}
use Rattle.nts_model.proofs.Tables.Resolved.{deeply_resolved-deeply_resolved}
use Rattle.nts_model.proofs.Terms.Listed.{either, map-map}
use Rattle.nts_model.proofs.Lists.{contains_none, first_or_later}
use Rattle.nts_theory.proofs.Derivations.ProvedLater.{contains_first, contains_later, read_from, read_recorded, read_turned}
use Rattle.nts_theory.proofs.Derivations.ByCandidate.{IsGranted, read_sides, granted, alike_granted}
use Rattle.nts_model.proofs.Canonical.Positioned.{replace-filled, instance_of-filled, deeply_resolved-filled}
use Rattle.nts_model.proofs.Terms.Imaging.{IsImage, AreImages, is_constant, leaf_of, constants, constant_images, imaging, map-imaging, among_constants, distinct_constants}
use Rattle.nts_theory.proofs.Responses.Standing.{variable_image, region_image, type_image, const_image, resolved_type, resolved_const, constant_at, distinct_images, constants_are, one_constant}
use Rattle.nts_theory.proofs.Responses.Closing.{said_from}
use Rattle.nts_model.proofs.Terms.Identified.{one_alike}

-- trees that are one by constraints, in place of positions
abbrev pub AreAllOne : List Constraint → List Tree → List Tree → Type 0
AreAllOne xs [] [] = Unit {0}
AreAllOne xs (s ∷ ss) (t ∷ ts) = AreOneBy xs s t × AreAllOne xs ss ts
AreAllOne xs ss ts = ⊥

all_one-map : (xs : List Constraint) (ss ts : List Tree) (f : RegionName → RegionName) → MakesOne f xs → AreAllOne xs ss ts → map (replace (region_by f)) ss ≡ map (replace (region_by f)) ts
all_one-map xs [] [] f m h = refl
all_one-map xs [] (t ∷ ts) f m h = absurd h
all_one-map xs (s ∷ ss) [] f m h = absurd h
all_one-map xs (s ∷ ss) (t ∷ ts) f m h = cc (h.0 f m, all_one-map xs ss ts f m h.1)

pub one_filled : (xs : List Constraint) (ss ts : List Tree) (t : Tree) → AreAllOne xs ss ts → AreOneBy xs (filled ss t) (filled ts t)
one_filled xs ss ts t h f m =
    replace-filled (region_by f) ss t ∙ ap (λ z. filled_under (region_by f) z t) (all_one-map xs ss ts f m h) ∙ sym (replace-filled (region_by f) ts t)

-- what a table grants it grants in the other order
trivial_turned : (r : Relation) (a b : Tree) → r ≡ relation.Equal → HasOneSide r (record { relation = r; left = a; right = b }) → HasOneSide r (record { relation = r; left = b; right = a })
trivial_turned relation.Equal a b e h = sym h
trivial_turned relation.RegionOutlives a b e h = sym h
trivial_turned relation.TypeOutlives a b e h = absurd h

pub granted_turned : (c : Content) (x : Constraint) → x.relation ≡ relation.Equal → IsGranted c x → IsGranted c (turned x)
granted_turned c x e (inl h) = inl (trivial_turned x.relation x.left x.right e h)
granted_turned c x e (inr i) =
    let (r, found, from) = read_from c c.constraints x i in
    ⊎_elim
    (λ q. let same : r.relation ≡ relation.Equal = sym (ap (λ y. y.relation) q) ∙ e in
    inr (subst (Among (read_constraints c c.constraints)) (sym (ap turned q)) (read_turned c c.constraints r found same)))
    (λ q. inr (subst (Among (read_constraints c c.constraints)) (sym (ap turned q.1)) (read_recorded c c.constraints r found)))
    from.same

-- alike trees are one by the table's constraints
pub one_by_table : (d : Content) (a b : Tree) → IsSound d → AreAlike d a b → AreOneBy (read_constraints d d.constraints) (deeply_resolved d a) (deeply_resolved d b)
one_by_table d a b s h =
    one_alike (read_constraints d d.constraints) (deeply_resolved d a) (deeply_resolved d b)
    (alike_granted d (deeply_resolved d a) (deeply_resolved d b) h (deeply_resolved-deeply_resolved d a s) (deeply_resolved-deeply_resolved d b s))

-- whether it is visible is of no account
pub unseen : (d : Content) (x : Recorded) → HoldsConstraint d x → HoldsConstraint d (recorded_as (said x))
unseen d x h = by_relation x.relation refl h
  where
    by_relation : (o : Relation) → x.relation ≡ o → HoldsConstraint d x → HoldsConstraint d (recorded_as (said x))
    by_relation o e (inl t) = inl t
    by_relation o e (inr t) = inr (record { constraint = t.constraint; found = t.found; same_relation = t.same_relation; same_sides = sides x.relation t.constraint t.same_sides })
      where
        sides : (k : Relation) (y : Recorded) → HasSides d k x y → HasSides d k (recorded_as (said x)) y
        sides relation.Equal y s = s
        sides relation.RegionOutlives y s = s
        sides relation.TypeOutlives y s = s

-- what stands for the positions makes an instance
module _ (d : Content) (s : IsSound d) (h : HoldsTerms d) (p : ℕ) (os : List Tree) where
  own_image : (b : ℕ) (k : PositionKind) (t : Tree) → IsLeafFor os (own_leaf b k) → StandsFor d p os k t → IsImage (own_leaf b k) (deeply_resolved d t)
  own_image b (type_variable u r) t i x = variable_image d s h p os kind.Ty b t x
  own_image b integer_variable t i x = variable_image d s h p os kind.Int b t x
  own_image b float_variable t i x = variable_image d s h p os kind.Float b t x
  own_image b (const_variable u) t i x = variable_image d s h p os kind.Const b t x
  own_image b (region_variable u) t i x = variable_image d s h p os kind.Region b t x
  own_image b (placeholder sort.Ty zero n) t i x = type_image d s h p os (constant.Placeholder zero n) i.0 t (x ∙ i.1)
  own_image b (placeholder sort.Ty (suc u) n) t i x = type_image d s h p os (constant.Placeholder (suc u) n) (constant.Placeholder (p + suc u) n) t x
  own_image b (placeholder sort.Const zero n) t i x = const_image d s h p os (constant.Placeholder zero n) i.0 t (x ∙ i.1)
  own_image b (placeholder sort.Const (suc u) n) t i x = const_image d s h p os (constant.Placeholder (suc u) n) (constant.Placeholder (p + suc u) n) t x
  own_image b (placeholder sort.Region zero n) t i x = region_image d s h p os (region.Placeholder zero n) t refl (rw x i)
  own_image b (placeholder sort.Region (suc u) n) t i x = region_image d s h p os (region.Placeholder (suc u) n) t refl (rw x (of_free (region.Placeholder (p + suc u) n), refl))

  pub own_images : (b : ℕ) (ks : List PositionKind) (ts : List Tree) → ((l : Leaf) → Among (leaves_of_kinds b ks) l → IsLeafFor os l) → StandForAll d p os ks ts → AreImages (leaves_of_kinds b ks) (map (deeply_resolved d) ts)
  own_images b [] [] i x = tt
  own_images b [] (t ∷ ts) i x = absurd x
  own_images b (k ∷ ks) [] i x = absurd x
  own_images b (k ∷ ks) (t ∷ ts) i x = (own_image b k t (i (own_leaf b k) (inl refl)) x.0, own_images (suc b) ks ts (λ m j. i m (inr j)) x.1)

  own_constant : (b : ℕ) (k : PositionKind) (t : Tree) → is_constant (own_leaf b k) ≡ true → IsLeafFor os (own_leaf b k) → StandsFor d p os k t → leaf_of (deeply_resolved d t) ≡ constant_at d s h p os (own_leaf b k)
  own_constant b (type_variable u r) t e i x = cc e
  own_constant b integer_variable t e i x = cc e
  own_constant b float_variable t e i x = cc e
  own_constant b (const_variable u) t e i x = cc e
  own_constant b (region_variable u) t e i x = cc e
  own_constant b (placeholder sort.Ty zero n) t e i x = ap leaf_of (ap (deeply_resolved d) (x ∙ i.1) ∙ resolved_type d i.0 ∙ sym i.1)
  own_constant b (placeholder sort.Ty (suc u) n) t e i x = ap leaf_of (ap (deeply_resolved d) x ∙ resolved_type d (constant.Placeholder (p + suc u) n))
  own_constant b (placeholder sort.Const zero n) t e i x = ap leaf_of (ap (deeply_resolved d) (x ∙ i.1) ∙ resolved_const d i.0 ∙ sym i.1)
  own_constant b (placeholder sort.Const (suc u) n) t e i x = ap leaf_of (ap (deeply_resolved d) x ∙ resolved_const d (constant.Placeholder (p + suc u) n))
  own_constant b (placeholder sort.Region u n) t e i x = cc e

  own_constants : (b : ℕ) (ks : List PositionKind) (ts : List Tree) → ((l : Leaf) → Among (leaves_of_kinds b ks) l → IsLeafFor os l) → StandForAll d p os ks ts
      → constant_images (leaves_of_kinds b ks) (map (deeply_resolved d) ts) ≡ map (constant_at d s h p os) (constants (leaves_of_kinds b ks))
  own_constants b [] [] i x = refl
  own_constants b [] (t ∷ ts) i x = absurd x
  own_constants b (k ∷ ks) [] i x = absurd x
  own_constants b (k ∷ ks) (t ∷ ts) i x =
      let rest = own_constants (suc b) ks ts (λ m j. i m (inr j)) x.1 in
      elim (either (is_constant (own_leaf b k))) [
        | inl e ↦ (let one = own_constant b k t e (i (own_leaf b k) (inl refl)) x.0 in rw e (cc (one, rest)))
        | inr e ↦ rw e rest
      ]

-- the response r was applied to originals in the table c, and d is the table afterwards
module _ (c d : Content) (s : IsSound d) (h : HoldsTerms d) (os : List Leaf) (distinct : AreDistinct os) (named : (l : Leaf) → Among os l → NamesAll term_level c.universe (leaf_tree l))
    (r : Response) (fit : IsResponseFor (map leaf_tree os) r) (applies : Applies c d (map leaf_tree os) r) where
  abbrev own : List Leaf
  own = leaves_of_kinds 0 r.kinds

  abbrev trees : List Tree
  trees = map (deeply_resolved d) applies.chosen

  pub images : AreImages own trees
  images = own_images d s h c.universe (map leaf_tree os) 0 r.kinds applies.chosen fit.leaves applies.stand

  image_constants : AreDistinct (constant_images own trees)
  image_constants =
      subst AreDistinct (sym (own_constants d s h c.universe (map leaf_tree os) 0 r.kinds applies.chosen fit.leaves applies.stand))
      (distinct_images (constant_at d s h c.universe (map leaf_tree os)) (constants own) (distinct_constants own fit.distinct)
      (λ y z j k e. one_constant d s h c.universe os distinct named y z (constants_are own y j) (constants_are own z k) (fit.leaves y (among_constants own y j)) (fit.leaves z (among_constants own z k)) e))

  abbrev κ : Instance
  κ = imaging own trees images

  leaf_images : map (instance_of κ) (map leaf_tree own) ≡ trees
  leaf_images = map-map (instance_of κ) leaf_tree own ∙ map-imaging own trees images fit.distinct image_constants

  -- a term over positions becomes what was filled
  opens : (t : Tree) → IsOverPositions t → instance_of κ (closed_by r t) ≡ deeply_resolved d (filled applies.chosen t)
  opens t o = instance_of-filled κ (map leaf_tree own) t o ∙ ap (λ z. filled z t) leaf_images ∙ sym (deeply_resolved-filled d applies.chosen t o)

  open_all : (vs zs : List Tree) → ((t : Tree) → Among vs t → IsOverPositions t) → AreAlikeValues d applies.chosen vs zs → AreAllOne (read_constraints d d.constraints) (map (instance_of κ) (map (closed_by r) vs)) (map (deeply_resolved d) zs)
  open_all [] [] o a = tt
  open_all [] (z ∷ zs) o a = absurd a
  open_all (v ∷ vs) [] o a = absurd a
  open_all (v ∷ vs) (z ∷ zs) o a = (
    subst (λ y. AreOneBy (read_constraints d d.constraints) y (deeply_resolved d z)) (sym (opens v (o v (inl refl)))) (one_by_table d (filled applies.chosen v) z s a.0),
    open_all vs zs (λ t i. o t (inr i)) a.1,
  )

  opened_term : (t : Tree) → IsOverPositions t → AreOneBy (read_constraints d d.constraints) (instance_of κ (filled (map (closed_by r) r.findings.values) t)) (deeply_resolved d (filled (map leaf_tree os) t))
  opened_term t o =
      let left = instance_of-filled κ (map (closed_by r) r.findings.values) t o in
      let right = deeply_resolved-filled d (map leaf_tree os) t o in
      rw (left, right) (one_filled (read_constraints d d.constraints) (map (instance_of κ) (map (closed_by r) r.findings.values)) (map (deeply_resolved d) (map leaf_tree os)) t
      (open_all r.findings.values (map leaf_tree os) fit.values applies.alike))

  -- the constraints
  record IsMapped (f : Recorded → Recorded) (xs : List Recorded) (y : Recorded) : Type 0 where
    pub recorded : Recorded
    pub found : Contains xs recorded
    pub is : f recorded ≡ y

  mapped : (f : Recorded → Recorded) (xs : List Recorded) (y : Recorded) → Contains (map f xs) y → IsMapped f xs y
  mapped f [] y i = absurd (contains_none y i)
  mapped f (z ∷ zs) y i = ⊎_elim
      (λ e. record { recorded = z; found = contains_first z zs; is = e })
      (λ j. let m = mapped f zs y j in record { recorded = m.recorded; found = contains_later z zs m.recorded m.found; is = m.is })
      (first_or_later (f z) (map f zs) y i)

  opened_constraint : (y : Recorded) → Contains r.findings.constraints y → IsGranted d (constraint_under κ (said (recorded_by (closed_by r) y)))
  opened_constraint y i =
      let g : IsGranted d (read_sides d y.relation (filled applies.chosen y.left) (filled applies.chosen y.right)) =
      granted d y.relation (filled applies.chosen y.left) (filled applies.chosen y.right) (unseen d (recorded_by (filled applies.chosen) y) (applies.held y i)) in
      rw (opens y.left (fit.left y i), opens y.right (fit.right y i)) g

  opened_recorded : (z : Recorded) → Contains (map (recorded_by (closed_by r)) r.findings.constraints) z → IsGranted d (constraint_under κ (said z))
  opened_recorded z i =
      let m = mapped (recorded_by (closed_by r)) r.findings.constraints z i in
      subst (λ v. IsGranted d (constraint_under κ (said v))) m.is (opened_constraint m.recorded m.found)

  opened_hypothesis : (y : Constraint) → Among (said_constraints (map (recorded_by (closed_by r)) r.findings.constraints)) y → IsGranted d (constraint_under κ y)
  opened_hypothesis y i =
      let from = said_from (map (recorded_by (closed_by r)) r.findings.constraints) y i in
      ⊎_elim
      (λ e. subst (λ v. IsGranted d (constraint_under κ v)) (sym e) (opened_recorded from.recorded from.found))
      (λ e. subst (λ v. IsGranted d (constraint_under κ v)) (sym e.1) (granted_turned d (constraint_under κ (said from.recorded)) e.0 (opened_recorded from.recorded from.found)))
      from.same

  -- the goals that the response leaves open, in the table
  abbrev pub opens_here : List Premise
  opens_here = map (premise_by (filled applies.chosen)) r.findings.open_goals

  opened_goals : (gs : List Premise) → ((g : Premise) → Among gs g → IsOverPositions g.environment × IsOverPositions g.predicate)
      → (g : Premise) → Among (map (premise_by (closed_by r)) gs) g → Among (read_goals d (map (premise_by (filled applies.chosen)) gs)) (premise_under κ g)
  opened_goals [] o g k = absurd k
  opened_goals (z ∷ gs) o g k = ⊎_elim
      (λ e. let h = o z (inl refl) in
      let a = opens z.environment h.0 in
      let b = opens z.predicate h.1 in
      let one : premise_under κ (premise_by (closed_by r) z) ≡ premise_by (deeply_resolved d) (premise_by (filled applies.chosen) z) = λ j. record { source = z.source; environment = a j; predicate = b j } in
      inl (ap (premise_under κ) e ∙ one))
      (λ j. inr (opened_goals gs (λ y i. o y (inr i)) g j)) k

  pub opened_instance_with : (i : CanonicalInput) → IsOverPositions i.environment → IsOverPositions i.predicate
      → IsInstance κ (answer_sequent i r) (sequent_with d (filled (map leaf_tree os) i.environment) (filled (map leaf_tree os) i.predicate) opens_here)
  opened_instance_with i e p =
      record {
        environment = opened_term i.environment e;
        predicate = opened_term i.predicate p;
        constraints = opened_hypothesis;
        hidden = λ o k. absurd k;
        open_goals = opened_goals r.findings.open_goals fit.goals;
      }
