-- What a query's table proves, the response says of the input; and what it says is proved where it is applied.
use Rattle.std.proofs.Common.{◌≡◌, ◌⊎◌, inl, inr, ⊎_elim, ℕ, suc, ◌<◌, ◌≤◌, true, false, List, [], ◌∷◌, map, refl, sym, ap, ◌∙◌, arith, subst}
use Rattle.std.specs.Prelude.{◌-◌, Contains}
use Rattle.std.specs.List.{position_or_len}
use Rattle.nts_model.specs.declared.labels.Relation.{Relation}
use Rattle.nts_model.specs.declared.labels.Relation.TheVariants as relation
use Rattle.nts_model.specs.declared.labels.VariableKind.TheVariants as kind
use Rattle.nts_model.specs.declared.labels.FreeRegion.TheVariants as region
use Rattle.nts_model.specs.declared.labels.Constant.TheVariants as constant
use Rattle.nts_model.specs.declared.labels.Leaf.{Leaf}
use Rattle.nts_model.specs.declared.labels.Leaf.TheVariants as leaf
use Rattle.nts_model.specs.Terms.Trees.{Tree}
use Rattle.nts_model.specs.Tables.Contents.{Content, Recorded}
use Rattle.nts_model.specs.Tables.Resolving.{deeply_resolved, IsSound}
use Rattle.nts_model.specs.Terms.Substitutions.{leaf_tree, Instance, instance_of, filled}
use Rattle.nts_model.specs.Derivations.Related.{Constraint}
use Rattle.nts_model.specs.Lists.{Among}
use Rattle.nts_model.specs.Derivations.Sequents.{Premise, constraint_under, IsTrivial, IsInstance}
use Rattle.nts_model.specs.Derivations.Handlers.{premise_by}
use Rattle.nts_model.specs.Canonical.Numbered.{AreDistinct}
use Rattle.nts_model.specs.Canonical.Inputs.{CanonicalInput, PositionKind, share}
use Rattle.nts_model.specs.Derivations.Proving.{read_constraint, turned, in_either_order, read_constraints, sequent_at}
use Rattle.nts_model.specs.Answers.Responses.{Findings, said, recorded_by, AreFindings, own_leaves, positioned, is_fixed, Response, answer_kind, response_of, IsOverPositions, IsLeafIn, own_leaf, leaves_of_kinds, closed_by, said_constraints, answer_sequent, IsResponseTo}
use Rattle.nts_model.proofs.Terms.Composing.{fits_itself}
use Rattle.nts_model.proofs.Terms.Listed.{either, map-map}
use Rattle.nts_theory.proofs.Derivations.ProofInstances.{IsTrivial-under}
use Rattle.nts_model.proofs.Lists.{contains_none, first_or_later}
use Rattle.nts_theory.proofs.Derivations.ProvedLater.{contains_first, contains_later, read_from}
use Rattle.nts_model.proofs.Terms.Identified.{one_itself}
use Rattle.nts_model.proofs.Canonical.Positioned.{instance_of-filled, deeply_resolved-filled}
use Rattle.nts_model.proofs.Terms.Imaging.{IsImage, AreImages, is_constant, constants, constant_images, imaging, map-imaging, distinct_constants}
use Rattle.nts_theory.proofs.Responses.Answering.{AreSeen, filled-positioned, AllTrees, AllSides, AllGoals, AllFound, IsPlainTerm, all_found_seen, own_distinct, own_loose, positioned_over}

-- a leaf with the number of its position
abbrev renumbered : ℕ → Leaf → Leaf
renumbered b (leaf.Variable k n) = leaf.Variable k b
renumbered b l = l

abbrev renumbered_all : ℕ → List Leaf → List Leaf
renumbered_all b [] = []
renumbered_all b (l ∷ ls) = renumbered b l ∷ renumbered_all (suc b) ls

same_universe : (u : ℕ) → u - 0 ≡ u
same_universe u = omega arith

own_is : (c : Content) (ks : List PositionKind) (f b : ℕ) (l : Leaf) → IsLeafIn ks l → is_fixed l ≡ false → own_leaf b (answer_kind c 0 f l) ≡ renumbered b l
own_is c ks f b (leaf.Variable kind.Ty n) i e = refl
own_is c ks f b (leaf.Variable kind.Int n) i e = refl
own_is c ks f b (leaf.Variable kind.Float n) i e = refl
own_is c ks f b (leaf.Variable kind.Const n) i e = refl
own_is c ks f b (leaf.Variable kind.Region n) i e = refl
own_is c ks f b (leaf.Region (region.Placeholder u n)) i e = ap (λ v. leaf.Region (region.Placeholder v n)) (same_universe u)
own_is c ks f b (leaf.Region region.Static) i e = cc e
own_is c ks f b (leaf.Region region.Erased) i e = cc e
own_is c ks f b (leaf.Region region.Error) i e = cc e
own_is c ks f b (leaf.Region (region.EarlyParam n)) i e = absurd i
own_is c ks f b (leaf.Region (region.LateParam n)) i e = absurd i
own_is c ks f b (leaf.TyConstant (constant.Placeholder u n)) i e = ap (λ v. leaf.TyConstant (constant.Placeholder v n)) (same_universe u)
own_is c ks f b (leaf.TyConstant (constant.Param n)) i e = absurd i
own_is c ks f b (leaf.ConstConstant (constant.Placeholder u n)) i e = ap (λ v. leaf.ConstConstant (constant.Placeholder v n)) (same_universe u)
own_is c ks f b (leaf.ConstConstant (constant.Param n)) i e = absurd i

own_all : (c : Content) (ks : List PositionKind) (f : Leaf → ℕ) (b : ℕ) (ls : List Leaf) → ((l : Leaf) → Among ls l → IsLeafIn ks l) → ((l : Leaf) → Among ls l → is_fixed l ≡ false)
    → leaves_of_kinds b (map (λ l. answer_kind c 0 (f l) l) ls) ≡ renumbered_all b ls
own_all c ks f b [] i e = refl
own_all c ks f b (l ∷ ls) i e = cc (own_is c ks (f l) b l (i l (inl refl)) (e l (inl refl)), own_all c ks f (suc b) ls (λ m j. i m (inr j)) (λ m j. e m (inr j)))

-- they are distinct where the leaves are
record IsLater (b : ℕ) (ls : List Leaf) (y : Leaf) : Type 0 where
  pub number : ℕ
  pub of_leaf : Leaf
  pub later : b ≤ number
  pub found : Among ls of_leaf
  pub is : y ≡ renumbered number of_leaf

later_one : (b : ℕ) (ls : List Leaf) (y : Leaf) → Among (renumbered_all b ls) y → IsLater b ls y
later_one b [] y i = absurd i
later_one b (l ∷ ls) y (inl e) = record { number = b; of_leaf = l; later = omega arith; found = inl refl; is = e }
later_one b (l ∷ ls) y (inr i) = let x = later_one (suc b) ls y i in
    record { number = x.number; of_leaf = x.of_leaf; later = (let q = x.later in omega (arith, q)); found = inr x.found; is = x.is }

apart : (b n : ℕ) (l m : Leaf) → b < n → (l ≡ m → ⊥) → renumbered b l ≡ renumbered n m → ⊥
apart b n (leaf.Variable j x) (leaf.Variable k y) h d e = let q : b ≡ n = cc e in omega (arith, h, q)
apart b n (leaf.Variable j x) (leaf.Region r) h d e = cc e
apart b n (leaf.Variable j x) (leaf.TyConstant a) h d e = cc e
apart b n (leaf.Variable j x) (leaf.ConstConstant a) h d e = cc e
apart b n (leaf.Region r) (leaf.Variable k y) h d e = cc e
apart b n (leaf.Region r) (leaf.Region q) h d e = d e
apart b n (leaf.Region r) (leaf.TyConstant a) h d e = cc e
apart b n (leaf.Region r) (leaf.ConstConstant a) h d e = cc e
apart b n (leaf.TyConstant a) (leaf.Variable k y) h d e = cc e
apart b n (leaf.TyConstant a) (leaf.Region r) h d e = cc e
apart b n (leaf.TyConstant a) (leaf.TyConstant c) h d e = d e
apart b n (leaf.TyConstant a) (leaf.ConstConstant c) h d e = cc e
apart b n (leaf.ConstConstant a) (leaf.Variable k y) h d e = cc e
apart b n (leaf.ConstConstant a) (leaf.Region r) h d e = cc e
apart b n (leaf.ConstConstant a) (leaf.TyConstant c) h d e = cc e
apart b n (leaf.ConstConstant a) (leaf.ConstConstant c) h d e = d e

distinct_renumbered : (b : ℕ) (ls : List Leaf) → AreDistinct ls → AreDistinct (renumbered_all b ls)
distinct_renumbered b [] d = tt
distinct_renumbered b (l ∷ ls) d = (
  (λ i. let x = later_one (suc b) ls (renumbered b l) i in
      let q = x.later in
      apart b x.number l x.of_leaf (omega (arith, q)) (λ e. d.0 (subst (λ z. Among ls z) (sym e) x.found)) x.is),
  distinct_renumbered (suc b) ls d.1,
)

-- they are images of the leaves
renumbered_image : (b : ℕ) (l : Leaf) → IsImage l (leaf_tree (renumbered b l))
renumbered_image b (leaf.Variable kind.Ty n) = record { fits = fits_itself (leaf.Variable kind.Ty b); formed = (tt, tt); closed = (tt, tt); stays = λ i. absurd i }
renumbered_image b (leaf.Variable kind.Int n) = record { fits = fits_itself (leaf.Variable kind.Int b); formed = (tt, tt); closed = (tt, tt); stays = λ i. absurd i }
renumbered_image b (leaf.Variable kind.Float n) = record { fits = fits_itself (leaf.Variable kind.Float b); formed = (tt, tt); closed = (tt, tt); stays = λ i. absurd i }
renumbered_image b (leaf.Variable kind.Const n) = record { fits = fits_itself (leaf.Variable kind.Const b); formed = (tt, tt); closed = (tt, tt); stays = λ i. absurd i }
renumbered_image b (leaf.Variable kind.Region n) = record { fits = fits_itself (leaf.Variable kind.Region b); formed = (tt, tt); closed = (tt, tt); stays = λ i. absurd i }
renumbered_image b (leaf.Region r) = record { fits = fits_itself (leaf.Region r); formed = (tt, tt); closed = (tt, tt); stays = λ i. refl }
renumbered_image b (leaf.TyConstant a) = record { fits = fits_itself (leaf.TyConstant a); formed = (tt, tt); closed = (tt, tt); stays = λ i. refl }
renumbered_image b (leaf.ConstConstant a) = record { fits = fits_itself (leaf.ConstConstant a); formed = (tt, tt); closed = (tt, tt); stays = λ i. refl }

renumbered_images : (b : ℕ) (ls : List Leaf) → AreImages ls (map leaf_tree (renumbered_all b ls))
renumbered_images b [] = tt
renumbered_images b (l ∷ ls) = (renumbered_image b l, renumbered_images (suc b) ls)

constant_same : (b : ℕ) (l : Leaf) → is_constant l ≡ true → renumbered b l ≡ l
constant_same b (leaf.TyConstant a) e = refl
constant_same b (leaf.ConstConstant a) e = refl
constant_same b (leaf.Variable k n) e = cc e
constant_same b (leaf.Region r) e = refl

constants_same : (b : ℕ) (ls : List Leaf) → constant_images ls (map leaf_tree (renumbered_all b ls)) ≡ constants ls
constants_same b [] = refl
constants_same b (l ∷ ls) = elim (either (is_constant l)) [
  | inl e ↦ (let q = constant_same b l e in let rest = constants_same (suc b) ls in rw e (cc (q, rest)))
  | inr e ↦ rw e (constants_same (suc b) ls)
]

-- elements of what constraints say
said_here : (r : Relation) (x : Constraint) (xs : List Constraint) → Among (in_either_order r x xs) x
said_here relation.Equal x xs = inl refl
said_here relation.RegionOutlives x xs = inl refl
said_here relation.TypeOutlives x xs = inl refl

said_turned : (r : Relation) (x : Constraint) (xs : List Constraint) → r ≡ relation.Equal → Among (in_either_order r x xs) (turned x)
said_turned relation.Equal x xs e = inr (inl refl)
said_turned relation.RegionOutlives x xs e = cc e
said_turned relation.TypeOutlives x xs e = cc e

said_later : (r : Relation) (x y : Constraint) (xs : List Constraint) → Among xs y → Among (in_either_order r x xs) y
said_later relation.Equal x y xs i = inr (inr i)
said_later relation.RegionOutlives x y xs i = inr i
said_later relation.TypeOutlives x y xs i = inr i

pub said_split : (r : Relation) (x y : Constraint) (xs : List Constraint) → Among (in_either_order r x xs) y → ((y ≡ x) ⊎ ((r ≡ relation.Equal) × (y ≡ turned x))) ⊎ Among xs y
said_split relation.Equal x y xs (inl e) = inl (inl e)
said_split relation.Equal x y xs (inr (inl e)) = inl (inr (refl, e))
said_split relation.Equal x y xs (inr (inr i)) = inr i
said_split relation.RegionOutlives x y xs (inl e) = inl (inl e)
said_split relation.RegionOutlives x y xs (inr i) = inr i
said_split relation.TypeOutlives x y xs (inl e) = inl (inl e)
said_split relation.TypeOutlives x y xs (inr i) = inr i

pub among_said : (xs : List Recorded) (x : Recorded) → Contains xs x → Among (said_constraints xs) (said x)
among_said [] x i = absurd (contains_none x i)
among_said (z ∷ zs) x i = ⊎_elim
    (λ e. subst (λ v. Among (said_constraints (z ∷ zs)) (said v)) e (said_here z.relation (said z) (said_constraints zs)))
    (λ j. said_later z.relation (said z) (said x) (said_constraints zs) (among_said zs x j))
    (first_or_later z zs x i)

pub among_turned : (xs : List Recorded) (x : Recorded) → x.relation ≡ relation.Equal → Contains xs x → Among (said_constraints xs) (turned (said x))
among_turned [] x q i = absurd (contains_none x i)
among_turned (z ∷ zs) x q i = ⊎_elim
    (λ e. subst (λ v. Among (said_constraints (z ∷ zs)) (turned (said v))) e (said_turned z.relation (said z) (said_constraints zs) (ap (λ v. v.relation) e ∙ q)))
    (λ j. said_later z.relation (said z) (turned (said x)) (said_constraints zs) (among_turned zs x q j))
    (first_or_later z zs x i)

pub record IsSaid (xs : List Recorded) (y : Constraint) : Type 0 where
  pub recorded : Recorded
  pub found : Contains xs recorded
  pub same : (y ≡ said recorded) ⊎ ((recorded.relation ≡ relation.Equal) × (y ≡ turned (said recorded)))

pub said_from : (xs : List Recorded) (y : Constraint) → Among (said_constraints xs) y → IsSaid xs y
said_from [] y i = absurd i
said_from (z ∷ zs) y i = ⊎_elim
    (λ e. record { recorded = z; found = contains_first z zs; same = e })
    (λ j. let s = said_from zs y j in record { recorded = s.recorded; found = contains_later z zs s.recorded s.found; same = s.same })
    (said_split z.relation (said z) y (said_constraints zs) i)

side_of : (P : Tree → Type 0) (ys : List Recorded) (y : Recorded) → AllSides P ys → Contains ys y → P y.left × P y.right
side_of P [] y h i = absurd (contains_none y i)
side_of P (z ∷ zs) y h i = ⊎_elim
    (λ e. subst (λ v. P v.left × P v.right) e (h.0, h.1))
    (λ j. side_of P zs y h.2 j) (first_or_later z zs y i)

contained_map : (f : Recorded → Recorded) (xs : List Recorded) (x : Recorded) → Contains xs x → Contains (map f xs) (f x)
contained_map f [] x h = absurd (contains_none x h)
contained_map f (y ∷ xs) x h = ⊎_elim
    (λ e. subst (λ z. Contains (f y ∷ map f xs) (f z)) e (contains_first (f y) (map f xs)))
    (λ i. contains_later (f y) (map f xs) (f x) (contained_map f xs x i))
    (first_or_later y xs x h)

-- a query's table q found out x of the trees that stand for the input's positions
module _ (q : Content) (s : IsSound q) (ks : List PositionKind) (qs : List Tree) (sub : ℕ → ℕ) (x : Findings) (found : AreFindings q qs x) (plain : AllFound IsPlainTerm x)
    (leaves : (l : Leaf) → Among (own_leaves x) l → IsLeafIn ks l) where
  abbrev answer : Response
  answer = response_of q sub 0 x

  abbrev own : List Leaf
  own = leaves_of_kinds 0 answer.kinds

  own_are : own ≡ renumbered_all 0 (own_leaves x)
  own_are = own_all q ks (λ l. position_or_len (share sub l) (own_leaves x)) 0 (own_leaves x) leaves (own_loose x)

  -- the response may be applied
  pub own_are_distinct : AreDistinct own
  own_are_distinct = subst AreDistinct (sym own_are) (distinct_renumbered 0 (own_leaves x) (own_distinct x))

  pub images : AreImages (own_leaves x) (map leaf_tree own)
  images = subst (λ z. AreImages (own_leaves x) (map leaf_tree z)) (sym own_are) (renumbered_images 0 (own_leaves x))

  image_constants : AreDistinct (constant_images (own_leaves x) (map leaf_tree own))
  image_constants = subst (λ z. AreDistinct (constant_images (own_leaves x) (map leaf_tree z))) (sym own_are) (subst AreDistinct (sym (constants_same 0 (own_leaves x))) (distinct_constants (own_leaves x) (own_distinct x)))

  abbrev κ : Instance
  κ = imaging (own_leaves x) (map leaf_tree own) images

  leaf_images : map (instance_of κ) (map leaf_tree (own_leaves x)) ≡ map leaf_tree own
  leaf_images = map-map (instance_of κ) leaf_tree (own_leaves x) ∙ map-imaging (own_leaves x) (map leaf_tree own) images (own_distinct x) image_constants

  closes : (t : Tree) → IsPlainTerm t → AreSeen (own_leaves x) t → instance_of κ t ≡ closed_by answer (positioned (own_leaves x) t)
  closes t p h =
      ap (instance_of κ) (sym (filled-positioned (own_leaves x) t p.formed p.no_positions h))
      ∙ instance_of-filled κ (map leaf_tree (own_leaves x)) (positioned (own_leaves x) t) (positioned_over (own_leaves x) t p.formed)
      ∙ ap (λ z. filled z (positioned (own_leaves x) t)) leaf_images

  close_all : (ts : List Tree) → AllTrees IsPlainTerm ts → AllTrees (AreSeen (own_leaves x)) ts → map (instance_of κ) ts ≡ map (closed_by answer) (map (positioned (own_leaves x)) ts)
  close_all [] p h = refl
  close_all (t ∷ ts) p h = cc (closes t p.0 h.0, close_all ts p.1 h.1)

  closed_term : (t : Tree) → IsOverPositions t → instance_of κ (deeply_resolved q (filled qs t)) ≡ filled (map (closed_by answer) answer.findings.values) t
  closed_term t o =
      let seen = all_found_seen x in
      ap (instance_of κ) (deeply_resolved-filled q qs t o ∙ ap (λ z. filled z t) (sym found.values))
      ∙ instance_of-filled κ x.values t o
      ∙ ap (λ z. filled z t) (close_all x.values plain.values seen.values)

  abbrev said_all : List Constraint
  said_all = said_constraints (map (recorded_by (closed_by answer)) answer.findings.constraints)

  said_closed : (y : Recorded) → Contains x.constraints y → constraint_under κ (said y) ≡ said (recorded_by (closed_by answer) (recorded_by (positioned (own_leaves x)) y))
  said_closed y i =
      let seen = all_found_seen x in
      let p = side_of IsPlainTerm x.constraints y plain.constraints i in
      let h = side_of (AreSeen (own_leaves x)) x.constraints y seen.constraints i in
      let a = closes y.left p.0 h.0 in
      let b = closes y.right p.1 h.1 in
      λ j. record { relation = y.relation; left = a j; right = b j }

  closed_found : (y : Recorded) → Contains x.constraints y → Contains (map (recorded_by (closed_by answer)) answer.findings.constraints) (recorded_by (closed_by answer) (recorded_by (positioned (own_leaves x)) y))
  closed_found y i =
      contained_map (recorded_by (closed_by answer)) (map (recorded_by (positioned (own_leaves x))) x.constraints) (recorded_by (positioned (own_leaves x)) y)
      (contained_map (recorded_by (positioned (own_leaves x))) x.constraints y i)

  -- each hypothesis of the query is trivial or said
  abbrev IsLeft : Constraint → Type 0
  IsLeft y = IsTrivial y ⊎ Among said_all y

  trivial_either : (r : Relation) (a b : Tree) → r ≡ relation.Equal → IsTrivial (record { relation = r; left = a; right = b }) → IsTrivial (record { relation = r; left = b; right = a })
  trivial_either relation.Equal a b e h = sym h
  trivial_either relation.RegionOutlives a b e h = sym h
  trivial_either relation.TypeOutlives a b e h = absurd h

  hypothesis_said : (y : Constraint) → Among (read_constraints q q.constraints) y → IsLeft (constraint_under κ y)
  hypothesis_said y i =
      let (z, here, from) = read_from q q.constraints y i in
      ⊎_elim
      (λ e. subst (λ v. IsLeft (constraint_under κ v)) (sym e) (straight z here))
      (λ e. subst (λ v. IsLeft (constraint_under κ v)) (sym e.1) (other z here e.0))
      from.same
    where
      straight : (z : Recorded) → Contains q.constraints z → IsLeft (constraint_under κ (read_constraint q z))
      straight z here = ⊎_elim
          (λ t. inl (IsTrivial-under κ (read_constraint q z) t))
          (λ w. let v = w.0 in
          subst (λ k. IsLeft (constraint_under κ k)) w.2
          (inr (subst (Among said_all) (sym (said_closed v w.1)) (among_said (map (recorded_by (closed_by answer)) answer.findings.constraints) (recorded_by (closed_by answer) (recorded_by (positioned (own_leaves x)) v)) (closed_found v w.1)))))
          (found.kept z here)

      other : (z : Recorded) → Contains q.constraints z → z.relation ≡ relation.Equal → IsLeft (turned (constraint_under κ (read_constraint q z)))
      other z here e = ⊎_elim
          (λ t. inl (trivial_either z.relation (instance_of κ (deeply_resolved q z.left)) (instance_of κ (deeply_resolved q z.right)) e (IsTrivial-under κ (read_constraint q z) t)))
          (λ w. let v = w.0 in
          let r : v.relation ≡ relation.Equal = ap (λ k. k.relation) w.2 ∙ e in
          subst (λ k. IsLeft (turned (constraint_under κ k))) w.2
          (inr (subst (Among said_all) (ap turned (sym (said_closed v w.1))) (among_turned (map (recorded_by (closed_by answer)) answer.findings.constraints) (recorded_by (closed_by answer) (recorded_by (positioned (own_leaves x)) v)) r (closed_found v w.1)))))
          (found.kept z here)

  -- what the response says is an instance of the query's goal under its table, so it is derived where that is proved
  pub said_instance : (i : CanonicalInput) → IsOverPositions i.environment → IsOverPositions i.predicate → IsInstance κ (sequent_at q (filled qs i.environment) (filled qs i.predicate)) (answer_sequent i answer)
  said_instance i e p =
      record {
        environment = one_itself said_all _ _ (closed_term i.environment e);
        predicate = one_itself said_all _ _ (closed_term i.predicate p);
        constraints = hypothesis_said;
        hidden = λ h k. absurd k;
        open_goals = λ g k. absurd k;
      }

  -- the response may be applied to the originals
  renumbered_for : (b : ℕ) (l : Leaf) → IsLeafIn ks l → IsLeafIn ks (renumbered b l)
  renumbered_for b (leaf.Variable k n) i = tt
  renumbered_for b (leaf.Region r) i = i
  renumbered_for b (leaf.TyConstant a) i = i
  renumbered_for b (leaf.ConstConstant a) i = i

  leaf_for : (l : Leaf) → Among own l → IsLeafIn ks l
  leaf_for l i =
      let y = later_one 0 (own_leaves x) l (subst (λ z. Among z l) own_are i) in
      subst (IsLeafIn ks) (sym y.is) (renumbered_for y.number y.of_leaf (leaves y.of_leaf y.found))

  value_over : (ts : List Tree) → AllTrees IsPlainTerm ts → (t : Tree) → Among (map (positioned (own_leaves x)) ts) t → IsOverPositions t
  value_over [] p t i = absurd i
  value_over (z ∷ zs) p t (inl e) = (let q = p.0 in subst IsOverPositions (sym e) (positioned_over (own_leaves x) z q.formed))
  value_over (z ∷ zs) p t (inr i) = value_over zs p.1 t i

  sides_over : (xs : List Recorded) → AllSides IsPlainTerm xs → (y : Recorded) → Contains (map (recorded_by (positioned (own_leaves x))) xs) y → IsOverPositions y.left × IsOverPositions y.right
  sides_over [] p y i = absurd (contains_none y i)
  sides_over (z ∷ zs) p y i = ⊎_elim
      (λ e. let a = p.0 in
      let b = p.1 in
      subst (λ v. IsOverPositions v.left × IsOverPositions v.right) e (positioned_over (own_leaves x) z.left a.formed, positioned_over (own_leaves x) z.right b.formed))
      (λ j. sides_over zs p.2 y j)
      (first_or_later (recorded_by (positioned (own_leaves x)) z) (map (recorded_by (positioned (own_leaves x))) zs) y i)

  goals_over : (gs : List Premise) → AllGoals IsPlainTerm gs → (g : Premise) → Among (map (premise_by (positioned (own_leaves x))) gs) g → IsOverPositions g.environment × IsOverPositions g.predicate
  goals_over [] p g k = absurd k
  goals_over (z ∷ gs) p g k = ⊎_elim
      (λ e. let a = p.0 in
      let b = p.1 in
      subst (λ v. IsOverPositions v.environment × IsOverPositions v.predicate) (sym e) (positioned_over (own_leaves x) z.environment a.formed, positioned_over (own_leaves x) z.predicate b.formed))
      (λ j. goals_over gs p.2 g j) k

  pub answer_fits : IsResponseTo ks answer
  answer_fits =
      record {
        values = value_over x.values plain.values;
        left = λ y i. (sides_over x.constraints plain.constraints y i).0;
        right = λ y i. (sides_over x.constraints plain.constraints y i).1;
        goals = goals_over x.open_goals plain.open_goals;
        distinct = own_are_distinct;
        leaves = leaf_for;
      }
