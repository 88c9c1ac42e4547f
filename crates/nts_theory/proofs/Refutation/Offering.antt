-- A goal of a theory that is proved in a world is met there by an offered candidate, with values that the current universe names.
use Rattle.std.proofs.Common.{◌≡◌, inl, inr, ℕ, Bool, false, List, [], ◌∷◌, map, refl, sym, ap, subst, ◌∙◌, true}
use Rattle.std.specs.Prelude.{◌&&◌, ◌||◌, ◌⊎◌}
use Rattle.nts_model.specs.declared.labels.FreeRegion.TheVariants as region
use Rattle.nts_model.specs.declared.labels.Leaf.{Leaf}
use Rattle.nts_model.specs.declared.labels.Leaf.TheVariants as leaf
use Rattle.nts_model.specs.Terms.Trees.{Tree, IsFormed, kind_of, any_label, is_alias, empty, more, node}
use Rattle.nts_model.specs.Tables.Contents.{Content}
use Rattle.nts_model.specs.Tables.Resolving.{Knows}
use Rattle.nts_model.specs.Terms.Placeholders.{leaf_level}
use Rattle.nts_model.specs.Tables.Levels.{NamesAll}
use Rattle.nts_model.specs.Terms.Regions.{of_free}
use Rattle.nts_model.specs.Tables.Worlds.{World, inst, IsFitting, KeepsFixedRegions}
use Rattle.nts_model.specs.Terms.Substitutions.{leaf_tree, Instance, instance_of, filled_under, Occurs}
use Rattle.nts_model.specs.Derivations.Related.{pair}
use Rattle.nts_model.specs.Lists.{Among}
use Rattle.nts_model.specs.Canonical.Numbered.{seen, AreDistinct}
use Rattle.nts_model.specs.Derivations.Rules.{Equation, related, alike, coherence}
use Rattle.nts_model.specs.Refutation.Choosing.{left_of, right_of, AreNamedValues}
use Rattle.nts_model.specs.Derivations.Handlers.{Handler, equation_by, IsAsked, IsFixed, CandidatesKeep, IsOver, IsEquationOver}
use Rattle.nts_model.specs.Refutation.Containing.{Truth, IsTrueBy, IsAliasFree}
use Rattle.nts_model.specs.Refutation.Coherence.{RulesAreOffered, IsInstanceIn}
use Rattle.nts_theory.specs.Refutation.Refutation.{UsesNamed, IsPlainFor, HasPlainSides, IsGranted, AreMadeOne, Carrier, carry}
use Rattle.nts_model.proofs.Terms.Composing.{fits_itself}
use Rattle.nts_model.proofs.Terms.Listed.{map-tells}
use Rattle.nts_model.proofs.Canonical.Numbering.{distinct-seen}
use Rattle.nts_model.proofs.Canonical.Moving.{among-seen, occurs-seen}
use Rattle.nts_theory.proofs.Refutation.Freshening.{knows_leaf}
use Rattle.nts_model.proofs.Terms.Imaging.{IsImage, AreImages, constants, constant_images, distinct_constants, imaging, map-imaging}
use Rattle.nts_theory.proofs.Refutation.OfferMeeting.{replace_inst, MeetsOffered, filled_free}
use Rattle.nts_theory.specs.RelatingCandidates.{may_be_argument, relates_aliases, plain_equations, AreTypesApart}
use Rattle.nts_theory.proofs.Refutation.PlainTerms.{free_none, unlabelled_free, either_false}
use Rattle.nts_theory.proofs.Refutation.PlainParts.{plain_among, aliased_among}
use Rattle.nts_theory.proofs.Refutation.Apart.{head_filled}
use Rattle.nts_theory.proofs.Refutation.Covered.{origin, before_carried, carried_filled, carried_values, carried_free, origin_free, origin_kinds, filled_formed}
use Rattle.nts_model.specs.declared.labels.Sort.{Sort}
use Rattle.nts_model.specs.declared.labels.Label.TheVariants as label

-- an instance that gives the leaves of a term of the table their trees in a world
module _ (c : Content) (w : World) (fitting : IsFitting c w) (fixed : KeepsFixedRegions w) where
  abbrev image : Leaf → Tree
  image l = inst w (leaf_tree l)

  fixed_image : (l : Leaf) → IsFixed l → image l ≡ leaf_tree l
  fixed_image (leaf.Region region.Static) i = ap (λ z. leaf_tree (leaf.Region z)) fixed.static
  fixed_image (leaf.Region region.Erased) i = ap (λ z. leaf_tree (leaf.Region z)) fixed.erased
  fixed_image (leaf.Region region.Error) i = ap (λ z. leaf_tree (leaf.Region z)) fixed.error
  fixed_image (leaf.Region (region.Placeholder u n)) i = absurd i
  fixed_image (leaf.Region (region.EarlyParam n)) i = absurd i
  fixed_image (leaf.Region (region.LateParam n)) i = absurd i
  fixed_image (leaf.Variable k n) i = absurd i
  fixed_image (leaf.TyConstant a) i = absurd i
  fixed_image (leaf.ConstConstant a) i = absurd i

  is_image : (l : Leaf) → Knows c (leaf_tree l) → IsImage l (image l)
  is_image (leaf.Variable k n) h = let v = fitting.each n k h.0.0 in record { fits = v.fits; formed = v.formed; closed = v.closed; stays = λ i. absurd i }
  is_image (leaf.Region r) h = record { fits = (of_free (w.region r), refl); formed = (tt, tt); closed = (tt, tt); stays = fixed_image (leaf.Region r) }
  is_image (leaf.TyConstant a) h = record { fits = fits_itself (leaf.TyConstant a); formed = (tt, tt); closed = (tt, tt); stays = λ i. absurd i }
  is_image (leaf.ConstConstant a) h = record { fits = fits_itself (leaf.ConstConstant a); formed = (tt, tt); closed = (tt, tt); stays = λ i. absurd i }

  all_images : (ls : List Leaf) → ((l : Leaf) → Among ls l → Knows c (leaf_tree l)) → AreImages ls (map image ls)
  all_images [] h = tt
  all_images (x ∷ xs) h = (is_image x (h x (inl refl)), all_images xs (λ l i. h l (inr i)))

  same_constants : (ls : List Leaf) → constant_images ls (map image ls) ≡ constants ls
  same_constants [] = refl
  same_constants (leaf.TyConstant a ∷ xs) = ap (λ z. leaf.TyConstant a ∷ z) (same_constants xs)
  same_constants (leaf.ConstConstant a ∷ xs) = ap (λ z. leaf.ConstConstant a ∷ z) (same_constants xs)
  same_constants (leaf.Variable k n ∷ xs) = same_constants xs
  same_constants (leaf.Region r ∷ xs) = same_constants xs

  abbrev none : Leaf → Bool
  none l = false

  module _ (t : Tree) (formed : IsFormed t) (known : Knows c t) where
    abbrev leaves : List Leaf
    leaves = seen none [] t

    leaf_known : (l : Leaf) → Among leaves l → Knows c (leaf_tree l)
    leaf_known l i = elim (among-seen none [] t l i) [ inl j ↦ absurd j | inr p ↦ knows_leaf c l t p.1 known ]

    pub world_instance : Instance
    world_instance = imaging leaves (map image leaves) (all_images leaves leaf_known)

    pub world_instance_in : IsInstanceIn w t world_instance
    unfolding world_instance
    world_instance_in l i =
        map-tells world_instance.value image leaves
        (map-imaging leaves (map image leaves) (all_images leaves leaf_known) (distinct-seen none [] t tt) (subst AreDistinct (sym (same_constants leaves)) (distinct_constants leaves (distinct-seen none [] t tt))))
        l (occurs-seen none [] t l formed refl i)

-- the candidate that is met
pub record MeetsNamed (h : Handler) (truth : Truth) (Proves : Tree → Tree → Type 0) (u : ℕ) (e g : Tree) (ι : Instance) : Type 0 where
  pub meets : MeetsOffered h truth Proves e g ι
  pub named : AreNamedValues leaf_level u meets.chosen

all_named : (u : ℕ) (vs : List Tree) → ((v : Tree) → Among vs v → NamesAll leaf_level u v) → AreNamedValues leaf_level u vs
all_named u [] h = tt
all_named u (x ∷ xs) h = (h x (inl refl), all_named u xs (λ v i. h v (inr i)))

equal_sides : (f : Tree → Tree) (q : Equation) → left_of (equation_by f q) ≡ right_of (equation_by f q) → f (left_of q) ≡ f (right_of q)
equal_sides f (related a b) e = e
equal_sides f (alike a b) e = e

-- a plain equation has plain sides once values without aliases are put in
kind_of_value : (f : Leaf → Tree) (vs : List Tree) (t : Tree) → may_be_argument (kind_of t) ≡ false → may_be_argument (kind_of (filled_under f vs t)) ≡ false
kind_of_value f vs empty e = refl
kind_of_value f vs (more a b) e = refl
kind_of_value f vs (node (label.Leaf x) c) e = cc e
kind_of_value f vs (node (label.Bound s i n) c) e = cc e
kind_of_value f vs (node (label.Ty x) c) e = cc e
kind_of_value f vs (node (label.Const x) c) e = cc e
kind_of_value f vs (node (label.Clause x) c) e = e
kind_of_value f vs (node (label.Predicate x) c) e = e
kind_of_value f vs (node (label.List x) c) e = e

both_or_none : (k a b : Bool) → (k && (a || b)) ≡ false → (k ≡ false) ⊎ (a ≡ false) × (b ≡ false)
both_or_none false a b e = inl refl
both_or_none true a b e = inr (either_false a b e)

plain_first : (x : Equation) (qs : List Equation) (q : Equation) → (Among (plain_equations qs) q → relates_aliases q ≡ false) → Among (plain_equations (x ∷ qs)) q → relates_aliases q ≡ false
plain_first x qs q rest i = by_test (relates_aliases x) refl
  where
    by_test : (b : Bool) → relates_aliases x ≡ b → relates_aliases q ≡ false
    by_test true e = rest (rw e at i)
    by_test false e = elim (rw e at i) [ inl s ↦ ap relates_aliases s ∙ e | inr j ↦ rest j ]

plain_is_plain : (qs : List Equation) (q : Equation) → Among (plain_equations qs) q → relates_aliases q ≡ false
plain_is_plain [] q i = absurd i
plain_is_plain (x ∷ qs) q i = plain_first x qs q (plain_is_plain qs q) i

module _ (f : Leaf → Tree) (vs : List Tree) (free : (v : Tree) → Among vs v → IsAliasFree v) where
  plain_sides : (q : Equation) → ((x : Leaf) → Occurs x (left_of q) → IsAliasFree (f x)) → ((x : Leaf) → Occurs x (right_of q) → IsAliasFree (f x)) → relates_aliases q ≡ false → HasPlainSides (equation_by (filled_under f vs) q)
  plain_sides (related a b) l r e = elim (both_or_none (may_be_argument (kind_of b)) (any_label is_alias a) (any_label is_alias b) e) [
    | inl n ↦ inl (kind_of_value f vs b n)
    | inr n ↦ inr (free_none _ (filled_free f vs a free l (unlabelled_free a n.0)), free_none _ (filled_free f vs b free r (unlabelled_free b n.1)))
  ]
  plain_sides (alike a b) l r e = tt

  -- an equation with aliases relates two terms
  related_sides : (Made : Tree → Tree → Type 0) (q : Equation) → relates_aliases q ≡ true → ((a b : Tree) → q ≡ related a b → Made (filled_under f vs a) (filled_under f vs b)) → Made (filled_under f vs (left_of q)) (filled_under f vs (right_of q))
  related_sides Made (related a b) t h = h a b refl
  related_sides Made (alike a b) t h = cc t

  apart_filled : (a b : Tree) → AreTypesApart a b → AreTypesApart (filled_under f vs a) (filled_under f vs b)
  apart_filled a b x =
      record { left = x.left; right = x.right; of_left = head_filled f vs a x.left x.of_left; of_right = head_filled f vs b x.right x.of_right; apart = x.apart; left_plain = x.left_plain; right_plain = x.right_plain }

left_over : (fresh : List Sort) (e g : Tree) (q : Equation) → IsEquationOver fresh e g q → IsOver fresh e g (left_of q)
left_over fresh e g (related a b) o = o.0
left_over fresh e g (alike a b) o = o.0

right_over : (fresh : List Sort) (e g : Tree) (q : Equation) → IsEquationOver fresh e g q → IsOver fresh e g (right_of q)
right_over fresh e g (related a b) o = o.1
right_over fresh e g (alike a b) o = o.1

-- what an instance puts in place of a leaf has no alias, where none stands for it in the world
image_free : (w : World) (ι : Instance) (e g : Tree) → IsInstanceIn w (pair e g) ι → IsPlainFor w (pair e g) → (l : Leaf) → Occurs l (pair e g) ⊎ IsFixed l → IsAliasFree (ι.value l)
image_free w ι e g same plain l (inl i) = subst IsAliasFree (sym (same l i)) (plain l i)
image_free w ι e g same plain (leaf.Region r) (inr i) = subst IsAliasFree (sym (ι.stays r i)) (refl, tt)
image_free w ι e g same plain (leaf.Variable k n) (inr i) = absurd i
image_free w ι e g same plain (leaf.TyConstant a) (inr i) = absurd i
image_free w ι e g same plain (leaf.ConstConstant a) (inr i) = absurd i

-- the values that are carried are named, and have no aliases
carried_among : (c : Carrier) (vs : List Tree) (v : Tree) → Among (map (carry c) vs) v → (x : Tree) × Among vs x × (v ≡ carry c x)
carried_among c [] v i = absurd i
carried_among c (x ∷ vs) v (inl e) = (x, inl refl, e)
carried_among c (x ∷ vs) v (inr i) = (let r = carried_among c vs v i in (r.0, inr r.1, r.2))

pub meets_used : (h : Handler) (truth : Truth) (Proves : Tree → Tree → Type 0) (law : RulesAreOffered h) (keep : CandidatesKeep h) (u : ℕ) (e g : Tree) (asked : IsAsked e g) (w : World) (ι : Instance) → IsInstanceIn w (pair e g) ι → IsPlainFor w (pair e g)
    → UsesNamed h truth Proves u (inst w e) (inst w asked.statement) → MeetsNamed h truth Proves u e g ι
meets_used h truth Proves law keep u e g asked w ι same plain x =
    let f = asked.formed in
    let u1 = x.uses in
    let c = u1.carrier in
    let κ = origin c ι in
    let environment : instance_of ι e ≡ inst w e = replace_inst w ι.value e f.0 (λ l i. same l (inl i)) in
    let goal : instance_of ι g ≡ inst w g = replace_inst w ι.value g f.1.0 (λ l i. same l (inr (inl i))) in
    let own = u1.use_of in
    let at = u1.formed in
    let before_env : own.environment ≡ instance_of κ e = before_carried c ι own.environment e at.0 (u1.environment ∙ sym environment) in
    let before_goal : own.conclusion ≡ instance_of κ g = before_carried c ι own.conclusion g at.1.0 (u1.conclusion ∙ sym (ap (inst w) asked.binds_nothing) ∙ sym goal) in
    let cover = law.covered e g κ own asked u1.applies before_env before_goal in
    let over = keep.each coherence e g cover.candidate asked cover.offered in
    let vs = cover.chosen in
    let chosen = map (carry c) vs in
    let free : (v : Tree) → Among vs v → IsAliasFree v = λ v i. u1.values v (cover.of_rule v i) in
    let there : (t : Tree) → carry c (filled_under κ.value vs t) ≡ filled_under ι.value chosen t = λ t. carried_filled c ι vs t in
    let leaf_free : (l : Leaf) → Occurs l (pair e g) ⊎ IsFixed l → IsAliasFree (κ.value l) = λ l i. origin_free c ι l (image_free w ι e g same plain l i) in
    let formed : (t : Tree) → IsOver cover.candidate.fresh e g t → IsFormed (filled_under κ.value vs t) = λ t o. filled_formed κ.value (origin_kinds c ι) κ.formed cover.candidate.fresh vs cover.values t o.names o.formed in
    let sides : (q : Equation) → Among (plain_equations cover.candidate.equations) q → HasPlainSides (equation_by (filled_under κ.value vs) q) =
    λ q i. (let o = over.equations q (plain_among cover.candidate.equations q i) in
    plain_sides κ.value vs free q
    (λ l j. (let s = left_over cover.candidate.fresh e g q o in leaf_free l (s.leaves l j)))
    (λ l j. (let s = right_over cover.candidate.fresh e g q o in leaf_free l (s.leaves l j)))
    (plain_is_plain cover.candidate.equations q i)) in
    let made : (a b : Tree) → Among cover.candidate.equations (related a b) → AreMadeOne (IsGranted Proves) (instance_of ι e) (filled_under ι.value chosen a) (filled_under ι.value chosen b) =
    λ a b i. (let o = over.equations (related a b) i in
    subst (λ z. AreMadeOne (IsGranted Proves) z (filled_under ι.value chosen a) (filled_under ι.value chosen b)) (sym environment)
    (subst (λ z. AreMadeOne (IsGranted Proves) (inst w e) z (filled_under ι.value chosen b)) (there a)
    (subst (AreMadeOne (IsGranted Proves) (inst w e) (carry c (filled_under κ.value vs a))) (there b) (u1.aliased (filled_under κ.value vs a) (filled_under κ.value vs b) (cover.equations (related a b) i) (formed a o.0))))) in
    record {
      meets = record {
        candidate = cover.candidate;
        offered = cover.offered;
        chosen = chosen;
        values = carried_values c cover.candidate.fresh vs cover.values;
        free = λ v i. (let r = carried_among c vs v i in subst IsAliasFree (sym r.2) (carried_free c r.0 (free r.0 r.1)));
        equal = λ q i. sym (there (left_of q)) ∙ ap (carry c) (equal_sides (filled_under κ.value vs) q (u1.equal _ (cover.equations q (plain_among cover.candidate.equations q i)) (sides q i))) ∙ there (right_of q);
        aliased = λ q i. (let j = aliased_among cover.candidate.equations q i in
            related_sides ι.value chosen (λ v k. (let r = carried_among c vs v k in subst IsAliasFree (sym r.2) (carried_free c r.0 (free r.0 r.1)))) (AreMadeOne (IsGranted Proves) (instance_of ι e)) q j.1
            (λ a b is. made a b (subst (Among cover.candidate.equations) is j.0)));
        apart = λ a. u1.apart _ _ (cover.equations (related a.left a.right) a.equation) (apart_filled κ.value vs free a.left a.right a.apart);
        met = λ y i. subst (λ z. IsTrueBy truth y.relation z (filled_under ι.value chosen y.right)) (there y.left) (subst (IsTrueBy truth y.relation _) (there y.right) (u1.met _ (cover.constraints y i)));
        goals = λ p i. subst (λ z. IsGranted Proves z (filled_under ι.value chosen p.predicate)) (there p.environment) (subst (IsGranted Proves _) (there p.predicate) (u1.goals _ (cover.goals p i)));
      };
      named = all_named u chosen (λ v i. (let r = carried_among c vs v i in subst (NamesAll leaf_level u) (sym r.2) (x.named r.0 (cover.of_rule r.0 r.1))));
    }
