-- In coherence a candidate whose equations with aliases are related loses no world that meets it: the equations settle there, and it goes on
-- to a world in which the goals are granted that relating them left, where these are equalities.
use Rattle.std.proofs.Common.{ℕ, ◌≡◌, ◌⊎◌, inl, inr, Bool, true, false, List, [], ◌∷◌, map, refl, sym, ap, subst, ◌∙◌}
use Rattle.nts_model.specs.declared.labels.Variance.{Variance}
use Rattle.nts_model.specs.declared.labels.Variance.TheVariants as variance
use Rattle.nts_model.specs.declared.labels.FreeRegion.{FreeRegion}
use Rattle.nts_model.specs.declared.labels.FreeRegion.TheVariants as region
use Rattle.nts_model.specs.declared.labels.Leaf.TheVariants as leaf
use Rattle.nts_model.specs.declared.labels.TyHead.TheVariants as ty
use Rattle.nts_model.specs.declared.labels.ConstHead.TheVariants as konst
use Rattle.nts_model.specs.declared.labels.AliasHead.{AliasHead}
use Rattle.nts_model.specs.declared.labels.AliasHead.TheVariants as alias_of
use Rattle.nts_model.specs.declared.labels.AliasRelationDirection.TheVariants as direction
use Rattle.nts_model.specs.declared.labels.Label.{Label}
use Rattle.nts_model.specs.declared.labels.Label.TheVariants as label
use Rattle.nts_model.specs.Terms.Trees.{Tree, empty, more, node, kind_of, is_alias, IsClosed}
use Rattle.nts_model.specs.Terms.Placeholders.{leaf_level}
use Rattle.nts_model.specs.Terms.Substitutions.{leaf_tree, filled}
use Rattle.nts_model.specs.Tables.Contents.{Content}
use Rattle.nts_model.specs.Tables.Resolving.{Knows}
use Rattle.nts_model.specs.Tables.Worlds.{World, inst}
use Rattle.nts_model.specs.Lists.{Among}
use Rattle.nts_model.specs.Derivations.Related.{region_constraint, alias, alias_goal, subtype_goal, IsAlias, one_tree}
use Rattle.nts_model.specs.Derivations.Sequents.{Premise}
use Rattle.nts_model.specs.Derivations.Rules.{coherence, Equation, Replaced, chosen, kept_empty, kept_more, kept_node, relating, normalization_goal}
use Rattle.nts_model.specs.Derivations.Handlers.{Handler, Candidate}
use Rattle.nts_model.specs.Refutation.Choosing.{left_of, right_of}
use Rattle.nts_model.specs.Refutation.Containing.{IsNoAlias, IsAliasFree, IsPlainWorld, Truth, IsSolution}
use Rattle.nts_variance_model.specs.Variances.Judging.{Judging, AllStand, IsSettled, IsValueOf, Normalizes, Settles, IsLawfulJudging}
use Rattle.nts_variance_model.specs.Variances.Relations.{Relating, SettlesIn, AllSettleIn, IsSettledWorld}
use Rattle.nts_variance_model.specs.Variances.RelatingBy.{IsTrueIn, AreGoalsOf}
use Rattle.nts_variance_model.specs.Variances.Leaving.{IsErased, Judge, judging_of, Judges}
use Rattle.nts_theory.specs.Subtyping.{LeavesGoals}
use Rattle.nts_theory.specs.Aliasing.{alias_relation, IsPlainEquality, SaysEqual}
use Rattle.nts_theory.specs.RelatingCandidates.{AreEqualities, IsBegunByEqualities, IsUnrelated, aliased_equations, goals_with, pairs_with, plain_part, Begins, IsBegun}
use Rattle.nts_theory.specs.Refutation.Refutation.{HasNoAlias, IsGranted, IsFair, IsTheory, JoinsEqualities, IsNormalAlias, HasNoClosedAlias, AreMadeOne, ComesTo, same_tree, by_alias, by_row, by_node}
use Rattle.nts_model.proofs.Tables.Fitting.{IsClosed-inst}
use Rattle.nts_model.proofs.Tables.AliasLabels.{row_no_alias, empty_no_alias}
use Rattle.nts_model.proofs.Tables.Instances.{inst-agrees}
use Rattle.nts_model.proofs.Tables.Slots.{Knows-kept, KeepsKinds}
use Rattle.nts_model.proofs.Tables.Tying.{has_kind}
use Rattle.nts_variance_model.proofs.Variances.Settling.{stands_alias, normalizes_itself}
use Rattle.nts_theory.proofs.Aliases.Listing.{lists_lawful, Needs, needs_all}
use Rattle.nts_theory.proofs.Refutation.Answered.{solution_later, still_proved, among_split}
use Rattle.nts_theory.proofs.Refutation.PlainTerms.{free_none, unlabelled_free, plain_later}
use Rattle.nts_theory.proofs.Refutation.Covering.{related_equal}
use Rattle.nts_theory.proofs.Refutation.PlainParts.{plain_is}
use Rattle.nts_theory.proofs.Refutation.Trying.{Reaches, reaches_trans}
use Rattle.nts_theory.proofs.Refutation.Together.{none_free, closed_forth}
use Rattle.nts_theory.proofs.Refutation.Opening.{CanBegin}
use Rattle.nts_theory.proofs.Refutation.Equating.{one_relation, inst_alias}
use Rattle.nts_theory.proofs.Refutation.Begun.{BegunAt, BegunHere, begun_at}

-- a tree without aliases is settled, and stands for itself
pub no_alias_node : (l : Label) (c : Tree) → IsNoAlias l → IsAlias (node l c) → ⊥
no_alias_node l c n i = by_head i.head i.is
  where
    by_head : (k : AliasHead) → node l c ≡ alias k i.parts → ⊥
    by_head (alias_of.Ty j) q =
        let same : l ≡ label.Ty (ty.Alias j) = cc q in
        let z : true ≡ false = sym (ap is_alias same) ∙ n in
        cc z
    by_head (alias_of.Const j) q =
        let same : l ≡ label.Const (konst.Unevaluated j) = cc q in
        let z : true ≡ false = sym (ap is_alias same) ∙ n in
        cc z

no_closed_alias : (l : Label) (c : Tree) → (IsClosed (node l c) → IsNoAlias l) → IsAlias (node l c) → ⊥
no_closed_alias l c h i = no_alias_node l c (h i.closed) i

settled_free : (S : Tree → Type 0) (t : Tree) → IsAliasFree t → AllStand S t
settled_free S empty h = tt
settled_free S (more a b) h = (settled_free S a h.0, settled_free S b h.1)
settled_free S (node l c) h = ((λ i. absurd (no_alias_node l c h.0 i)), settled_free S c h.1)

replaced_free : (C : Tree → Tree → Type 0) (t : Tree) → IsAliasFree t → Replaced C t t
replaced_free C empty h = kept_empty
replaced_free C (more a b) h = kept_more (replaced_free C a h.0) (replaced_free C b h.1)
replaced_free C (node l c) h = kept_node (no_alias_node l c h.0) (replaced_free C c h.1)

-- what a tree is, once aliases gave place
settled_there_too : (S : Tree → Type 0) (t : Tree) → HasNoClosedAlias t → AllStand S t
settled_there_too S empty h = tt
settled_there_too S (more a b) h = (settled_there_too S a h.0, settled_there_too S b h.1)
settled_there_too S (node l c) h = ((λ i. absurd (no_closed_alias l c h.0 i)), settled_there_too S c h.1)

replaced_same : (C : Tree → Tree → Type 0) (t : Tree) → HasNoClosedAlias t → Replaced C t t
replaced_same C empty h = kept_empty
replaced_same C (more a b) h = kept_more (replaced_same C a h.0) (replaced_same C b h.1)
replaced_same C (node l c) h = kept_node (no_closed_alias l c h.0) (replaced_same C c h.1)

module _ (R C : Tree → Tree → Type 0) (f : (a t : Tree) → R a t → IsAlias a × IsClosed t × C a t) (of : (a t : Tree) → R a t → IsAlias a × IsClosed t × (kind_of t ≡ kind_of a)) where
  -- no alias is left where the term has none that is closed
  no_alias_left : (l : Label) (c d : Tree) → ComesTo R c d → (IsClosed (node l d) → IsNoAlias l) → IsAlias (node l c) → ⊥
  no_alias_left l c d p h i = no_alias_node l c (h (closed_forth R of 0 (node l c) (node l d) (by_node p) i.closed)) i

  comes_replaced : (a b : Tree) → HasNoClosedAlias b → ComesTo R a b → Replaced C a b
  comes_replaced a b h same_tree = replaced_same C b h
  comes_replaced a b h (by_alias x) = (let y = f a b x in chosen y.0 y.1 y.2)
  comes_replaced (more a s) (more b t) h (by_row p q) = kept_more (comes_replaced a b h.0 p) (comes_replaced s t h.1 q)
  comes_replaced (node l c) (node m d) h (by_node p) = kept_node (no_alias_left l c d p h.0) (comes_replaced c d h.1 p)

-- what stands for an alias
value_of : (C : Tree → Tree → Type 0) (a u : Tree) → IsAlias a → Replaced C a u → C a u
value_of C a u i (chosen j k x) = x
value_of C a u i kept_empty = absurd (empty_no_alias i)
value_of C a u i (kept_more {a = x} {s = y} p q) = absurd (row_no_alias x y i)
value_of C a u i (kept_node n p) = absurd (n i)

-- the pair of a goal that an alias is equal to a term, or to another alias
record IsEqualPair (g : Tree) (v : Variance) (l r : Tree) : Type 0 where
  pub equal : v ≡ variance.Invariant
  pub is : g ≡ alias_relation direction.Equate l r
  pub sides : (IsAlias l × IsAliasFree r) ⊎ (IsAlias r × IsAliasFree l) ⊎ (IsAlias l × IsAlias r)

is_directed : (g : Tree) (v : Variance) (l r a b : Tree) → g ≡ alias_relation direction.Equate a b → (g ≡ alias_goal v l r) ⊎ ((x : Bool) × (g ≡ subtype_goal x v l r)) → (v ≡ variance.Invariant) × (a ≡ l) × (b ≡ r)
is_directed g variance.Invariant l r a b i (inl e) = (let s = one_relation direction.Equate direction.Equate a l b r (sym i ∙ e) in (refl, s.1, s.2))
is_directed g variance.Covariant l r a b i (inl e) = (let s = one_relation direction.Equate direction.Subtype a l b r (sym i ∙ e) in let z : direction.Equate ≡ direction.Subtype = s.0 in cc z)
is_directed g variance.Contravariant l r a b i (inl e) = (let s = one_relation direction.Equate direction.Subtype a r b l (sym i ∙ e) in let z : direction.Equate ≡ direction.Subtype = s.0 in cc z)
is_directed g variance.Invariant l r a b i (inr (x, e)) = (let z : alias_relation direction.Equate a b ≡ subtype_goal x variance.Invariant l r = sym i ∙ e in cc z)
is_directed g variance.Covariant l r a b i (inr (x, e)) = (let z : alias_relation direction.Equate a b ≡ subtype_goal x variance.Covariant l r = sym i ∙ e in cc z)
is_directed g variance.Contravariant l r a b i (inr (x, e)) = (let z : alias_relation direction.Equate a b ≡ subtype_goal x variance.Contravariant l r = sym i ∙ e in cc z)

plain_pair : (g : Tree) (v : Variance) (l r : Tree) → (g ≡ alias_goal v l r) ⊎ ((x : Bool) × (g ≡ subtype_goal x v l r)) → IsPlainEquality g → IsEqualPair g v l r
plain_pair g v l r shape q =
    let y = q.is in
    let free : IsAliasFree q.right = unlabelled_free q.right q.no_alias in
    elim y.says [
      | inl i ↦
          let is : g ≡ alias_relation direction.Equate q.left q.right = subst (λ d. g ≡ alias_relation d q.left q.right) q.equal i in
          let s = is_directed g v l r q.left q.right is shape in
          record { equal = s.0; is = subst (λ z. g ≡ alias_relation direction.Equate z r) s.1 (subst (λ z. g ≡ alias_relation direction.Equate q.left z) s.2 is); sides = inl (subst IsAlias s.1 y.alias, subst IsAliasFree s.2 free) }
      | inr i ↦
          let is : g ≡ alias_relation direction.Equate q.right q.left = subst (λ d. g ≡ alias_relation d q.right q.left) q.equal i in
          let s = is_directed g v l r q.right q.left is shape in
          record { equal = s.0; is = subst (λ z. g ≡ alias_relation direction.Equate z r) s.1 (subst (λ z. g ≡ alias_relation direction.Equate q.right z) s.2 is); sides = inr (inl (subst IsAlias s.2 y.alias, subst IsAliasFree s.1 free)) }
    ]

equal_pair : (g : Tree) (v : Variance) (l r : Tree) → (g ≡ alias_goal v l r) ⊎ ((x : Bool) × (g ≡ subtype_goal x v l r)) → SaysEqual g → IsEqualPair g v l r
equal_pair g v l r shape (inl q) = plain_pair g v l r shape q
equal_pair g v l r shape (inr q) =
    let y = q.is in
    let is : g ≡ alias_relation direction.Equate q.left q.right = subst (λ d. g ≡ alias_relation d q.left q.right) q.equal y.says in
    let s = is_directed g v l r q.left q.right is shape in
    record { equal = s.0; is = subst (λ z. g ≡ alias_relation direction.Equate z r) s.1 (subst (λ z. g ≡ alias_relation direction.Equate q.left z) s.2 is); sides = inr (inr (subst IsAlias s.1 y.left, subst IsAlias s.2 y.right)) }

relating_among : (e : Tree) (gs : List Tree) (q : Premise) → Among (map (relating e) gs) q → (g : Tree) × Among gs g × (q ≡ relating e g)
relating_among e [] q i = absurd i
relating_among e (g ∷ gs) q (inl x) = (g, inl refl, x)
relating_among e (g ∷ gs) q (inr i) = (let r = relating_among e gs q i in (r.0, inr r.1, r.2))

trivial_in : (w : World) (v : Variance) (a : Tree) → IsTrueIn w (region_constraint v a a)
trivial_in w variance.Invariant a = refl
trivial_in w variance.Covariant a = inl refl
trivial_in w variance.Contravariant a = inl refl

-- a free tree in a plain world
pub free_inst : (c : Content) (w : World) → IsPlainWorld c w → (t : Tree) → Knows c t → IsAliasFree t → IsAliasFree (inst w t)
free_inst c w p empty k h = tt
free_inst c w p (more a b) k h = (free_inst c w p a k.0 h.0, free_inst c w p b k.1 h.1)
free_inst c w p (node (label.Leaf (leaf.Variable v n)) t) k h = p.each n v k.0.0
free_inst c w p (node (label.Leaf (leaf.Region r)) t) k h = (refl, free_inst c w p t k.1 h.1)
free_inst c w p (node (label.Leaf (leaf.TyConstant a)) t) k h = (refl, free_inst c w p t k.1 h.1)
free_inst c w p (node (label.Leaf (leaf.ConstConstant a)) t) k h = (refl, free_inst c w p t k.1 h.1)
free_inst c w p (node (label.Bound s i n) t) k h = (h.0, free_inst c w p t k.1 h.1)
free_inst c w p (node (label.Ty x) t) k h = (h.0, free_inst c w p t k.1 h.1)
free_inst c w p (node (label.Const x) t) k h = (h.0, free_inst c w p t k.1 h.1)
free_inst c w p (node (label.Clause x) t) k h = (h.0, free_inst c w p t k.1 h.1)
free_inst c w p (node (label.Predicate x) t) k h = (h.0, free_inst c w p t k.1 h.1)
free_inst c w p (node (label.List x) t) k h = (h.0, free_inst c w p t k.1 h.1)

module _ (h : Handler) (truth : Truth) (Proves : Tree → Tree → Type 0) (theory : IsTheory h truth Proves) (fair : IsFair truth) (joins : JoinsEqualities Proves) where
  abbrev Granted : Tree → Tree → Type 0
  Granted = IsGranted Proves

  as_granted : (e a b : Tree) → Proves e (alias_relation direction.Equate a b) → Granted e (alias_relation direction.Equate a b)
  as_granted e a b p = (let f = theory.ground in record { ground = f.ground e (alias_relation direction.Equate a b) p; proved = λ s. p; with_values = λ n. absurd (n tt) })

  -- that two terms are equal is granted both ways, where the one normalizes to the other, or to what the other normalizes to
  both_granted : (e a b t : Tree) → IsNormalAlias Granted e a t → (b ≡ t) ⊎ IsNormalAlias Granted e b t → Granted e (alias_relation direction.Equate a b) × Granted e (alias_relation direction.Equate b a)
  both_granted e a b t x y = (let p = joins e a b t x y in (as_granted e a b p.0, as_granted e b a p.1))

  ends_free : (e a t : Tree) → IsNormalAlias Granted e a t → IsAliasFree t
  ends_free e a t x =
      let i = x.alias in
      let g = x.granted in
      let f = theory.ground.formed e (normalization_goal i.head i.parts t) (g.proved (inr tt)) in
      none_free t f.1.0.1.1.0.1.1.0 x.none

  normal_is : (e a t : Tree) → IsNormalAlias Granted e a t → IsAlias a × IsClosed t × (kind_of t ≡ kind_of a)
  normal_is e a t x = (x.alias, x.ends, x.kind)

  -- what aliases normalize to in an environment, as a judging in a world
  module _ (declared : ℕ → List Variance) (w : World) (e : Tree) where
    abbrev judged : Judging
    judged = record { declared = declared; stands = λ a. ⊥; holds = IsTrueIn w; normal = IsNormalAlias Granted e }

    judged_lawful : IsLawfulJudging judged
    judged_lawful =
        record {
          one = λ a b k. k;
          trivial = trivial_in w;
          alone = λ a v s n. absurd s;
          kind = λ a v n. n.kind;
        }

    value_there : (a t : Tree) → IsNormalAlias Granted e a t → IsAlias a × IsClosed t × IsValueOf judged a t
    value_there a t x = (x.alias, x.ends, (settled_free (λ z. ⊥) t (ends_free e a t x), inr x))

    -- sides that come to one tree settle
    settles : (a b : Tree) → AreMadeOne Granted e a b → Settles judged variance.Invariant a b
    settles a b m =
        record {
          left = m.term;
          right = m.term;
          of_left = comes_replaced (IsNormalAlias Granted e) (IsValueOf judged) value_there (normal_is e) a m.term m.settled m.left;
          of_right = comes_replaced (IsNormalAlias Granted e) (IsValueOf judged) value_there (normal_is e) b m.term m.settled m.right;
          along = one_tree (settled_there_too (λ z. ⊥) m.term m.settled);
        }

    all_settle : (xs : List Tree) (qs : List Equation) → ((q : Equation) → Among qs q → AreMadeOne Granted e (inst w (filled xs (left_of q))) (inst w (filled xs (right_of q)))) → AllSettleIn judged w (pairs_with xs qs)
    all_settle xs [] k = tt
    all_settle xs (q ∷ qs) k = (settles (inst w (filled xs (left_of q))) (inst w (filled xs (right_of q))) (k q (inl refl)), all_settle xs qs (λ p i. k p (inr i)))

    -- .. by finitely many aliases
    module _ (ps : List Relating) (n : Needs judged (λ K. AllSettleIn K w ps)) where
      abbrev judge : Judge declared
      judge = record { lists = n.lists; world = w; lawful = lists_lawful judged n.lists judged_lawful n.are }

      fixed_region : (c : Content) → IsSolution truth 0 c w → (r : FreeRegion) → IsErased r → w.region r ≡ r
      fixed_region c s region.Erased i = s.fixed.erased
      fixed_region c s region.Error i = s.fixed.error
      fixed_region c s r i = absurd i

      alone_there : (c : Content) → IsSolution truth 0 c w → (v : Variance) (a : Tree) (r : FreeRegion) → IsErased r → IsTrueIn w (region_constraint v a (leaf_tree (leaf.Region r))) → a ≡ leaf_tree (leaf.Region r)
      alone_there c s variance.Invariant a r i k = k
      alone_there c s variance.Covariant a r i (inl k) = k
      alone_there c s variance.Covariant a r i (inr k) = fair.alone r i a (inl (sym (s.outlives a (leaf_tree (leaf.Region r))) ∙ k))
      alone_there c s variance.Contravariant a r i (inl k) = sym k
      alone_there c s variance.Contravariant a r i (inr k) = fair.alone r i a (inr (sym (s.outlives (leaf_tree (leaf.Region r)) a) ∙ k))

      judges : (c : Content) → IsSolution truth 0 c w → Judges declared judge w
      judges c s =
          record {
            judged = record { met = λ x k. k; held = λ x k. k };
            alone = λ v a r i k. (let q = fixed_region c s r i in
                subst (λ z. a ≡ leaf_tree (leaf.Region z)) (sym q) (alone_there c s v a r i (subst (λ z. IsTrueIn w (region_constraint v a (leaf_tree (leaf.Region z)))) q k)));
          }

      settled_there : (c : Content) → IsPlainWorld c w → IsSettledWorld (judging_of declared judge) c w
      settled_there c p = record { each = λ m l. (let k = has_kind c m l in settled_free (Among (n.lists).stands) (w.tree m) (p.each m k.0 k.1)) }

      -- an alias settles by what it normalizes to
      equal_there : (a u : Tree) → IsAlias a → Normalizes (judging_of declared judge) a u → IsNormalAlias Granted e a u
      equal_there a u i p = by_value (value_of (IsValueOf (judging_of declared judge)) a u i p)
        where
          by_value : IsValueOf (judging_of declared judge) a u → IsNormalAlias Granted e a u
          by_value (s, inl same) = absurd (n.are.stands a (stands_alias (Among (n.lists).stands) a (subst (IsSettled (judging_of declared judge)) same s) i))
          by_value (s, inr m) = n.are.normal a u m

      -- .. so what it settles with, in which no alias stands, it normalizes to
      one_equal : (v : Variance) (a t : Tree) → v ≡ variance.Invariant → IsAlias a → IsAliasFree t → Settles (judging_of declared judge) v a t → IsNormalAlias Granted e a t
      one_equal v a t inv i free x =
          let y = equal_there a x.left i x.of_left in
          let r : x.right ≡ t = normalizes_itself (judging_of declared judge) judge.lawful t x.right (settled_free (Among (n.lists).stands) t free) x.of_right in
          let same : x.left ≡ x.right = related_equal declared (IsSettled (judging_of declared judge)) (IsTrueIn w) (λ g. ⊥) (λ p q k. k) v x.left x.right inv y.none (subst HasNoAlias (sym r) (free_none t free)) x.along in
          subst (IsNormalAlias Granted e a) (same ∙ r) y

      other_equal : (v : Variance) (t a : Tree) → v ≡ variance.Invariant → IsAlias a → IsAliasFree t → Settles (judging_of declared judge) v t a → IsNormalAlias Granted e a t
      other_equal v t a inv i free x =
          let y = equal_there a x.right i x.of_right in
          let r : x.left ≡ t = normalizes_itself (judging_of declared judge) judge.lawful t x.left (settled_free (Among (n.lists).stands) t free) x.of_left in
          let same : x.left ≡ x.right = related_equal declared (IsSettled (judging_of declared judge)) (IsTrueIn w) (λ g. ⊥) (λ p q k. k) v x.left x.right inv (subst HasNoAlias (sym r) (free_none t free)) y.none x.along in
          subst (IsNormalAlias Granted e a) (sym same ∙ r) y

      -- two aliases that settle normalize to one term
      two_equal : (v : Variance) (a b : Tree) → v ≡ variance.Invariant → IsAlias a → IsAlias b → Settles (judging_of declared judge) v a b → (t : Tree) × IsNormalAlias Granted e a t × IsNormalAlias Granted e b t
      two_equal v a b inv i j x =
          let y = equal_there a x.left i x.of_left in
          let z = equal_there b x.right j x.of_right in
          let same : x.left ≡ x.right = related_equal declared (IsSettled (judging_of declared judge)) (IsTrueIn w) (λ g. ⊥) (λ p q k. k) v x.left x.right inv y.none z.none x.along in
          (x.left, y, subst (IsNormalAlias Granted e b) (sym same) z)

      -- the goals that relating left are granted in a later world in which their pairs settle
      module _ (d : Content) (u : World) (s : IsSolution truth 0 d u) (p : IsPlainWorld d u) where
        alias_there : (a : Tree) → Knows d a → IsAlias a → IsAlias (inst u a)
        alias_there a k x = record { head = x.head; parts = inst u x.parts; is = ap (inst u) x.is ∙ inst_alias u x.head x.parts; closed = IsClosed-inst d u 0 a s.solves.fitting k x.closed }

        goal_granted : (g : Tree) (r : Relating) → (g ≡ alias_goal r.variance r.left r.right) ⊎ ((x : Bool) × (g ≡ subtype_goal x r.variance r.left r.right)) → SaysEqual g → Knows d g → SettlesIn (judging_of declared judge) u r → Granted e (inst u g)
        goal_granted g r shape q k z =
            let y = equal_pair g r.variance r.left r.right shape q in
            let known : Knows d (alias_relation direction.Equate r.left r.right) = subst (Knows d) y.is k in
            let kl : Knows d r.left = known.1.1.0.1.0 in
            let kr : Knows d r.right = known.1.1.0.1.1.0 in
            subst (λ v. Granted e (inst u v)) (sym y.is) (elim y.sides [
              | inl (i, free) ↦ (both_granted e (inst u r.left) (inst u r.right) (inst u r.right) (one_equal r.variance (inst u r.left) (inst u r.right) y.equal (alias_there r.left kl i) (free_inst d u p r.right kr free) z) (inl refl)).0
              | inr (inr (i, j)) ↦ (let t = two_equal r.variance (inst u r.left) (inst u r.right) y.equal (alias_there r.left kl i) (alias_there r.right kr j) z in (both_granted e (inst u r.left) (inst u r.right) t.0 t.1 (inr t.2)).0)
              | inr (inl (i, free)) ↦ (both_granted e (inst u r.right) (inst u r.left) (inst u r.left) (other_equal r.variance (inst u r.left) (inst u r.right) y.equal (alias_there r.right kr i) (free_inst d u p r.left kl free) z) (inl refl)).1
            ])

        goals_granted : (rs : List Relating) (gs : List Tree) → AreGoalsOf rs gs → AllSettleIn (judging_of declared judge) u rs → AreEqualities d gs → (g : Tree) → Among gs g → Granted e (inst u g)
        goals_granted [] [] a z q g i = absurd i
        goals_granted [] (x ∷ gs) a z q g i = absurd a
        goals_granted (r ∷ rs) [] a z q g i = absurd i
        goals_granted (r ∷ rs) (x ∷ gs) a z q g (inl same) = rw same (goal_granted x r a.0 (q.equal x (inl refl)) (q.knows x (inl refl)) z.0)
        goals_granted (r ∷ rs) (x ∷ gs) a z q g (inr i) = goals_granted rs gs a.1 z.1 (record { equal = λ y j. q.equal y (inr j); knows = λ y j. q.knows y (inr j) }) g i

  -- relating goes on from a world in which the sides come to one tree
  record GoesOnRelated (before met : Content) (w : World) (e : Tree) (goals : List Tree) : Type 0 where
    pub reaches : Reaches truth 0 before met w
    pub granted : AreEqualities met goals → (g : Tree) → Among goals g → Granted e (inst reaches.world g)

  goes_on : (declared : ℕ → List Variance) (before met : Content) (w : World) (e : Tree) (rs : List Relating) (goals : List Tree) (xs : List Tree) (qs : List Equation) → IsSolution truth 0 before w → IsPlainWorld before w
      → ((q : Equation) → Among qs q → AreMadeOne Granted e (inst w (filled xs (left_of q))) (inst w (filled xs (right_of q)))) → LeavesGoals declared before met (pairs_with xs qs) rs → AreGoalsOf rs goals
      → KeepsKinds before met → GoesOnRelated before met w e goals
  goes_on declared before met w e rs goals xs qs s p ways left are keeps =
      let ps = pairs_with xs qs in
      let n = needs_all (judged declared w e) w ps (all_settle declared w e xs qs ways) in
      let l = left.leaves in
      let z = l.complete (judge declared w e ps n) w s.solves (judges declared w e ps n before s) (settled_there declared w e ps n before p) n.holds in
      let x = z.0 in
      let solution : IsSolution truth 0 met x.world = solution_later truth 0 before met w x.world s keeps.grows x.agrees x.solves (x.names leaf_level s.named tt) in
      let plain : IsPlainWorld met x.world = plain_later before met w x.world (λ f k. x.names f k tt) p in
      record {
        reaches = record { world = x.world; agrees = x.agrees; solution = solution; plain = λ q. plain; longer = l.more; keeps = keeps };
        granted = goals_granted declared w e ps n met x.world solution plain rs goals are z.2;
      }

  -- a candidate is begun
  module _ (declared : ℕ → List Variance) (c : Content) (w : World) (e : Tree) (x : Candidate) (free : IsPlainWorld c w) (k : CanBegin truth Granted c w e x) where
    begun_first : (before : Content) (xs : List Tree) → IsBegun c (plain_part x) xs before → BegunHere truth Granted c before w e xs x
    begun_first before xs b = begun_at truth Granted c before w e xs x free b k

    -- one that no settled solution relates is not met
    pub never_unrelated : IsUnrelated declared c x → ⊥
    never_unrelated n =
        let b = begun_first n.before n.values n.begun in
        let r = b.begun.reaches in
        let ps = pairs_with n.values (aliased_equations x.equations) in
        let e' = inst w e in
        let needs = needs_all (judged declared r.world e') r.world ps (all_settle declared r.world e' n.values (aliased_equations x.equations) (λ q i. b.aliased q i)) in
        n.refused.none (judge declared r.world e' ps needs) r.world r.solution.solves (judges declared r.world e' ps needs n.before r.solution) (settled_there declared r.world e' ps needs n.before (r.plain free)) needs.holds

    begun_related : (met : Content) (ps : List Premise) → IsBegunByEqualities declared c e x met ps → BegunAt truth Granted c met w ps
    begun_related met ps o =
        let r = o.begun in
        let b = begun_first r.before r.values r.begun in
        let first = b.begun in
        let to = first.reaches in
        let keeps : KeepsKinds r.before met = (let g = o.continues in record { grows = g.grows; kinds = g.kinds }) in
        let on = goes_on declared r.before met to.world (inst w e) r.pairs r.goals r.values (aliased_equations x.equations) to.solution (to.plain free) (λ q i. b.aliased q i) r.related r.of_pairs keeps in
        let all = reaches_trans truth 0 c r.before met w to on.reaches in
        let env : inst all.world e ≡ inst w e = inst-agrees c w all.world e all.agrees k.environment in
        let there : Knows met e = Knows-kept c met e all.keeps k.environment in
        let own = first.terms in
        let own_goal : (q : Premise) → Among (goals_with r.values x.goals) q → Granted (inst all.world q.environment) (inst all.world q.predicate) =
        λ q i. (let a = on.reaches in let g = first.goals in still_proved truth 0 Granted r.before to.world all.world q a.agrees (own.environments q i) (own.predicates q i) (g.goals q i)) in
        let own_begun : BegunAt truth Granted c met w (goals_with r.values x.goals) =
        record {
          reaches = all;
          goals = record { solution = all.solution; plain = all.plain free; goals = own_goal };
          terms = record { environments = λ q i. Knows-kept r.before met q.environment keeps (own.environments q i); predicates = λ q i. Knows-kept r.before met q.predicate keeps (own.predicates q i) };
        } in
        elim o.asked [
          | inl (equal, is) ↦
              let related_goal : (q : Premise) → Among (map (relating e) r.goals) q → Granted (inst all.world q.environment) (inst all.world q.predicate) =
              λ q i. (let g = relating_among e r.goals q i in rw (g.2) (rw (env) (on.granted equal g.0 g.1))) in
              let each : (q : Premise) → Among ps q → Among (map (relating e) r.goals) q ⊎ Among (goals_with r.values x.goals) q =
              λ q i. among_split (map (relating e) r.goals) (goals_with r.values x.goals) q (subst (λ z. Among z q) (is ∙ r.premises) i) in
              let terms = own_begun.terms in
              record {
                reaches = all;
                goals = record { solution = all.solution; plain = all.plain free; goals = λ q i. elim (each q i) [ inl j ↦ related_goal q j | inr j ↦ own_goal q j ] };
                terms = record {
                  environments = λ q i. elim (each q i) [
                    | inl j ↦ (let g = relating_among e r.goals q j in subst (λ z. Knows met z.environment) (sym g.2) there)
                    | inr j ↦ terms.environments q j
                  ];
                  predicates = λ q i. elim (each q i) [
                    | inl j ↦ (let g = relating_among e r.goals q j in subst (λ z. Knows met z.predicate) (sym g.2) (equal.knows g.0 g.1))
                    | inr j ↦ terms.predicates q j
                  ];
                };
              }
          | inr is ↦ subst (BegunAt truth Granted c met w) (sym is) own_begun
        ]

    -- a candidate that is begun in coherence loses no world that meets it
    pub begun_with : (met : Content) (ps : List Premise) → Begins declared coherence c e x met ps → BegunAt truth Granted c met w ps
    begun_with met ps (inl (xs, in_one, b, same)) = subst (BegunAt truth Granted c met w) (sym same) (begun_first met xs (subst (λ z. IsBegun c z xs met) (sym (plain_is x in_one)) b)).begun
    begun_with met ps (inr (inl (outside, b))) = absurd (outside refl)
    begun_with met ps (inr (inr (inside, o))) = begun_related met ps o
