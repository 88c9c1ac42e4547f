-- The fact that a caller's goal has is met in its query by the caller's world.
use Rattle.std.proofs.Common.{◌≡◌, inl, inr, List, [], ◌∷◌, map, refl, sym, ap, subst, ◌∙◌, arith}
use Rattle.nts_model.specs.Terms.Trees.{Tree, empty, more, IsFormed, any_label, is_canonical}
use Rattle.nts_model.specs.Terms.Substitutions.{Renaming, rename, Occurs, leaf_tree, filled, replace}
use Rattle.nts_model.specs.Lists.{Among}
use Rattle.nts_model.specs.Derivations.Rules.{Mode, Equation}
use Rattle.nts_model.specs.Derivations.Handlers.{Handler, Candidate, equation_by, renamed_candidate, IsAsked, IsLawfulHandler, IsCandidateFor, AreValuesOf, IsOver, IsFixed, IsEquationOver, IsValueOfSort, kind_of_sort}
use Rattle.nts_model.specs.Canonical.Inputs.{Input, canonical_of, IsInput, is_static, HaveKinds, static_as_label, made_of, Renames, after_predicate, originals, OccursIn, after_environment, label_or_leaf, AreAlikeInputs}
use Rattle.nts_decisions.specs.Deciding.{blurred, blurred_candidate, blurred_leaf}
use Rattle.nts_model.proofs.Canonical.Numbering.{first_none, AllLeaves, rest_none, numbered-replace, replace-tells, extends-trans, extends-seen, filled-replace}
use Rattle.nts_model.proofs.Canonical.CanonicalForms.{forms_tell_inputs, making_gives_form, originals_are_leaves, distinct-originals}
use Rattle.nts_theory.specs.RelatingCandidates.{HasPlainEquations}
use Rattle.nts_theory.specs.Telling.{IsTraitGoal}
use Rattle.nts_decisions.proofs.DecidingRenamed.{among_back, left_by, right_by}
use Rattle.nts_decisions.proofs.DecidedInputs.{off_regions, off_plain, off_same}
use Rattle.std.proofs.Common.{zero, suc}
use Rattle.std.specs.Prelude.{ℕ, ◌⊎◌, get_or, false}
use Rattle.nts_model.specs.Canonical.Numbered.{numbered, numbered_leaf, no_leaf, number}
use Rattle.nts_model.specs.declared.labels.VariableKind.TheVariants as kind
use Rattle.nts_model.specs.declared.labels.Sort.{Sort}
use Rattle.nts_model.specs.declared.labels.FreeRegion.TheVariants as region
use Rattle.nts_model.specs.declared.labels.Leaf.{Leaf}
use Rattle.nts_model.specs.declared.labels.Leaf.TheVariants as leaf
use Rattle.nts_model.specs.declared.labels.Label.{Label}
use Rattle.nts_model.specs.declared.labels.Label.TheVariants as label
use Rattle.nts_model.specs.Terms.Trees.{node}
use Rattle.nts_model.specs.Tables.Contents.{Content}
use Rattle.nts_model.specs.Tables.Worlds.{World, Solves, inst}
use Rattle.nts_model.specs.Terms.Regions.{of_variable}
use Rattle.nts_model.specs.Derivations.Rules.{related, alike}
use Rattle.nts_decisions.proofs.OfferedFacts.{no_goals_there}
use Rattle.nts_decisions.proofs.FactsThere.{offers_there, plain_there, trait_there}
use Rattle.nts_decisions.specs.Facts.{IsAskedAs, IsOpenGoal}
use Rattle.nts_decisions.proofs.FactWorlds.{MergedWorld, low, proper, moving, moving_carries, image, asked_trees, entered_merged}
use Rattle.nts_model.specs.Answers.Responses.{read_in}
use Rattle.nts_model.proofs.Terms.Substituting.{leaf_alone, replace-replace}
use Rattle.nts_model.specs.Tables.Resolving.{Knows}
use Rattle.nts_model.specs.Derivations.Related.{pair}
use Rattle.nts_theory.proofs.Refutation.Entering.{IsBegun}
use Rattle.nts_model.specs.Canonical.Numbered.{no_leaf}
use Rattle.nts_model.proofs.Terms.Unpositioned.{or_false}
use Rattle.nts_decisions.proofs.BlurredWorlds.{blurred_world, inst_blurred, merged, region_in, merged_blurred, value_blurred, solves_blurred, names_merged}
use Rattle.nts_model.proofs.Terms.Listed.{map-map, original}
use Rattle.nts_model.proofs.Canonical.Positioned.{get_or-map}
use Rattle.nts_model.specs.Refutation.Choosing.{AreNamedValues, left_of, right_of, IsCandidateMet}
use Rattle.nts_model.specs.Tables.Levels.{term_level, NamesAll}
use Rattle.nts_theory.proofs.Refutation.Freshening.{knows_leaf, filled_agree}
use Rattle.nts_decisions.proofs.OneRegion.{under_replaced, replaced_under, HasOneRegion, merged_one, one_carried, names_regions}
use Rattle.nts_model.specs.Terms.Placeholders.{CanName, leaf_level_of, leaf_level}
use Rattle.nts_theory.proofs.Refutation.Carrying.{value_instance, names_replaced, names_terms}
use Rattle.nts_theory.proofs.Refutation.Carriers.{instance_by, leaf_named, moved_low}
use Rattle.nts_model.proofs.Tables.Solving.{NamesAll-more}

-- what is so of all leaves is so of one that stands in the tree
leaf_at : (P : Leaf → Type 0) (l : Leaf) (t : Tree) → IsFormed t → AllLeaves P t → Occurs l t → P l
leaf_at P l empty f a o = absurd o
leaf_at P l (more a b) f h (inl o) = leaf_at P l a f.0 h.0 o
leaf_at P l (more a b) f h (inr o) = leaf_at P l b f.1 h.1 o
leaf_at P l (node m c) f h o = by_label m (leaf_at P l c f.1) f h o
  where
    by_label : (m : Label) → (AllLeaves P c → Occurs l c → P l) → IsFormed (node m c) → AllLeaves P (node m c) → Occurs l (node m c) → P l
    by_label (label.Leaf x) below f h (inl e) = subst P (let z : l ≡ x = cc e in sym z) h
    by_label (label.Leaf x) below f h (inr o) = absurd (subst (Occurs l) (leaf_alone x c f) o)
    by_label (label.Bound a s n) below f h (inl e) = absurd (cc e)
    by_label (label.Bound a s n) below f h (inr o) = below h o
    by_label (label.Ty x) below f h (inl e) = absurd (cc e)
    by_label (label.Ty x) below f h (inr o) = below h o
    by_label (label.Const x) below f h (inl e) = absurd (cc e)
    by_label (label.Const x) below f h (inr o) = below h o
    by_label (label.Clause x) below f h (inl e) = absurd (cc e)
    by_label (label.Clause x) below f h (inr o) = below h o
    by_label (label.Predicate x) below f h (inl e) = absurd (cc e)
    by_label (label.Predicate x) below f h (inr o) = below h o
    by_label (label.List x) below f h (inl e) = absurd (cc e)
    by_label (label.List x) below f h (inr o) = below h o

equations_among : (f : Equation → Equation) (qs : List Equation) (e : Equation) → Among qs e → Among (map f qs) (f e)
equations_among f [] e a = absurd a
equations_among f (x ∷ qs) e (inl p) = inl (ap f p)
equations_among f (x ∷ qs) e (inr a) = inr (equations_among f qs e a)

-- leaves that are not 'static
static_kept : (u : List Leaf) → ((l : Leaf) → Among u l → is_static l ≡ false) → (n : ℕ) → static_as_label (get_or (map leaf_tree u) n empty) ≡ get_or (map leaf_tree u) n empty
static_kept [] h n = refl
static_kept (x ∷ u) h zero = rw (h x (inl refl)) refl
static_kept (x ∷ u) h (suc n) = static_kept u (λ l i. h l (inr i)) n

read_leaves : (B : World) (us : List Tree) (u : List Leaf) (n : ℕ) → read_in B us (get_or (map leaf_tree u) n empty) ≡ inst B (get_or (map leaf_tree u) n empty)
read_leaves B us [] n = refl
read_leaves B us (x ∷ u) zero = one x
  where
    one : (x : Leaf) → read_in B us (leaf_tree x) ≡ inst B (leaf_tree x)
    one x = refl
read_leaves B us (x ∷ u) (suc n) = read_leaves B us u n

-- the input that is made of a form with leaves of its kinds, and the renaming that leads to it
pub made_input : (i : Input) → i.hidden ≡ empty → (u : List Leaf) (r : ℕ → ℕ) → (let j = made_of (canonical_of i) u r in IsAsked j.environment j.predicate) → IsInput (made_of (canonical_of i) u r)
made_input i hidden u r asked =
    let j = made_of (canonical_of i) u r in
    let none : j.hidden ≡ empty = ap (λ z. filled (map leaf_tree u) (numbered no_leaf (after_predicate i) z)) hidden in
    let f = asked.formed in
    let x = or_false (any_label is_canonical j.environment) _ asked.no_positions in
    let z = or_false (any_label is_canonical j.predicate) false x.1 in
    record { formed = (f.0, (f.1.0, (subst IsFormed (sym none) tt, tt))); no_positions = rw (x.0, z.0, ap (any_label is_canonical) none) refl }

pub made_alike : (i : Input) → IsInput i → i.hidden ≡ empty → (u : List Leaf) (r : ℕ → ℕ) → HaveKinds (canonical_of i) u r → (let j = made_of (canonical_of i) u r in IsAsked j.environment j.predicate) → AreAlikeInputs i (made_of (canonical_of i) u r)
made_alike i input hidden u r have asked = (forms_tell_inputs i (made_of (canonical_of i) u r) input (made_input i hidden u r asked)).0 (sym (making_gives_form i u r input have))

module _ (h : Handler) (law : IsLawfulHandler h) (mode : Mode) (c : Content) (w : World) (solves : Solves c w) (i : Input) (from : IsAskedAs c i.environment i.predicate i) (goal : IsOpenGoal h mode i.environment i.predicate)
    (q : Content) (u : List Leaf) (r : ℕ → ℕ) (have : HaveKinds (canonical_of i) u r) (begun : IsBegun (canonical_of i) q (map leaf_tree u))
    (asked : (let j = made_of (canonical_of i) u r in IsAsked j.environment j.predicate)) (known : (let j = made_of (canonical_of i) u r in Knows q (pair j.environment j.predicate))) (ρ : Renaming) (maps : (let j = made_of (canonical_of i) u r in Renames ρ i j)) where
  abbrev j : Input
  j = made_of (canonical_of i) u r

  input : IsInput i
  input = proper c w solves i from

  made : IsInput j
  made = made_input i (let x = from.input in x.hidden) u r asked

  none_environment : any_label is_canonical i.environment ≡ false
  none_environment = first_none i.environment (more i.predicate (more i.hidden empty)) input.no_positions

  none_predicate : any_label is_canonical i.predicate ≡ false
  none_predicate = first_none i.predicate (more i.hidden empty) (rest_none i.environment (more i.predicate (more i.hidden empty)) input.no_positions)

  -- the leaves of the goal are renamed to those that stand for their positions
  predicate_there : j.predicate ≡ replace (λ l. filled (map leaf_tree u) (numbered_leaf no_leaf (originals i) l)) i.predicate
  predicate_there =
      ap (filled (map leaf_tree u)) (numbered-replace no_leaf (after_environment i) i.predicate (originals i) (extends-seen no_leaf (after_predicate i) i.hidden))
      ∙ filled-replace (map leaf_tree u) (numbered_leaf no_leaf (originals i)) i.predicate none_predicate

  environment_there : j.environment ≡ replace (λ l. filled (map leaf_tree u) (numbered_leaf is_static (originals i) l)) i.environment
  environment_there =
      ap (filled (map leaf_tree u)) (numbered-replace is_static [] i.environment (originals i) (extends-trans (extends-seen no_leaf (after_environment i) i.predicate) (extends-seen no_leaf (after_predicate i) i.hidden)))
      ∙ filled-replace (map leaf_tree u) (numbered_leaf is_static (originals i)) i.environment none_environment

  place_predicate : (l : Leaf) → Occurs l i.predicate → leaf_tree (ρ.to l) ≡ get_or (map leaf_tree u) (number (originals i) l) empty
  place_predicate l o =
      leaf_at (λ x. leaf_tree (ρ.to x) ≡ filled (map leaf_tree u) (numbered_leaf no_leaf (originals i) x)) l i.predicate (let f = input.formed in f.1.0)
      (replace-tells (λ x. leaf_tree (ρ.to x)) (λ x. filled (map leaf_tree u) (numbered_leaf no_leaf (originals i) x)) i.predicate (maps.predicate ∙ predicate_there)) o

  place_environment : (l : Leaf) → is_static l ≡ false → Occurs l i.environment → leaf_tree (ρ.to l) ≡ get_or (map leaf_tree u) (number (originals i) l) empty
  place_environment l e o =
      let all =
      replace-tells (λ x. rename ρ (label_or_leaf is_static x)) (λ x. static_as_label (filled (map leaf_tree u) (numbered_leaf is_static (originals i) x))) i.environment
      (sym (replace-replace (λ x. leaf_tree (ρ.to x)) (label_or_leaf is_static) i.environment) ∙ maps.environment ∙ ap static_as_label environment_there
      ∙ replace-replace (label_or_leaf is_static) (λ x. filled (map leaf_tree u) (numbered_leaf is_static (originals i) x)) i.environment) in
      let here = leaf_at (λ x. rename ρ (label_or_leaf is_static x) ≡ static_as_label (filled (map leaf_tree u) (numbered_leaf is_static (originals i) x))) l i.environment (let f = input.formed in f.0) all o in
      rw e at here ∙ static_kept u have.no_static (number (originals i) l)

  record IsPlaced (l : Leaf) : Type 0 where
    pub place : leaf_tree (ρ.to l) ≡ get_or (map leaf_tree u) (number (originals i) l) empty
    pub among : Among (originals i) l

  is_original : (l : Leaf) → OccursIn l i → Among (originals i) l
  is_original l o = (let b = originals_are_leaves i input in let z = b.1 l in z.1 o)

  is_placed : (l : Leaf) → is_static l ≡ false → Occurs l (pair i.environment i.predicate) → IsPlaced l
  is_placed l e (inl o) = record { place = place_environment l e o; among = is_original l (inl (e, o)) }
  is_placed l e (inr (inl o)) = record { place = place_predicate l o; among = is_original l (inr (inl o)) }
  is_placed l e (inr (inr o)) = absurd o

  -- the caller's world there
  abbrev pub world_there : MergedWorld q (map leaf_tree u) (asked_trees c w solves i from)
  world_there = entered_merged c w solves i from q (map leaf_tree u) begun

  abbrev B : World
  B = blurred_world world_there.world

  abbrev ρ' : Renaming
  ρ' = off_regions ρ

  lookup : (l : Leaf) → Among (originals i) l → get_or (asked_trees c w solves i from) (number (originals i) l) empty ≡ image c w solves i from l
  lookup l a =
      let g : Tree → Tree = λ t. rename (moving c w solves i from) (inst (blurred_world w) t) in
      ap (λ z. get_or z (number (originals i) l) empty) (sym (map-map g leaf_tree (originals i)))
      ∙ get_or-map g refl (map leaf_tree (originals i)) (number (originals i) l) ∙ ap g (original (originals i) l a)

  leaf_image : (l : Leaf) → Among (originals i) l → inst B (get_or (map leaf_tree u) (number (originals i) l) empty) ≡ image c w solves i from l
  leaf_image l a =
      let v = world_there.world in
      let n = number (originals i) l in
      sym (inst_blurred v (get_or (map leaf_tree u) n empty)) ∙ sym (get_or-map (λ t. merged (inst v t)) refl (map leaf_tree u) n) ∙ ap (λ z. get_or z n empty) world_there.images ∙ lookup l a

  -- what the handler offers there
  all_offered : map blurred_candidate (h.offers mode j.environment j.predicate) ≡ map (renamed_candidate ρ') (map blurred_candidate (h.offers mode i.environment i.predicate))
  all_offered = offers_there i j input made ρ maps q known goal.asked h law mode goal

  pub plain_offered_there : (y : Candidate) → Among (h.offers mode j.environment j.predicate) y → HasPlainEquations y
  plain_offered_there y k = plain_there i j input made ρ maps q known goal.asked h law mode goal y k

  pub trait_goal_there : IsTraitGoal j.environment j.predicate
  trait_goal_there = trait_there i j input made ρ maps q known goal.asked goal.trait_goal

  pub record IsOfferedThere (x : Candidate) : Type 0 where
    pub candidate : Candidate
    pub offered : Among (h.offers mode j.environment j.predicate) candidate
    pub same : blurred_candidate candidate ≡ renamed_candidate ρ' (blurred_candidate x)

  among_mapped : (f : Candidate → Candidate) (xs : List Candidate) (x : Candidate) → Among xs x → Among (map f xs) (f x)
  among_mapped f [] x a = absurd a
  among_mapped f (y ∷ xs) x (inl e) = inl (ap f e)
  among_mapped f (y ∷ xs) x (inr a) = inr (among_mapped f xs x a)

  pub is_offered_there : (x : Candidate) → Among (h.offers mode i.environment i.predicate) x → IsOfferedThere x
  is_offered_there x a =
      let found : Among (map blurred_candidate (h.offers mode j.environment j.predicate)) (renamed_candidate ρ' (blurred_candidate x)) =
      subst (λ z. Among z (renamed_candidate ρ' (blurred_candidate x))) (sym all_offered)
      (among_mapped (renamed_candidate ρ') (map blurred_candidate (h.offers mode i.environment i.predicate)) (blurred_candidate x) (among_mapped blurred_candidate (h.offers mode i.environment i.predicate) x a)) in
      let k = among_back blurred_candidate (h.offers mode j.environment j.predicate) (renamed_candidate ρ' (blurred_candidate x)) found in
      record { candidate = k.of; offered = k.found; same = sym k.same }

  pub asks_nothing_there : (x : Candidate) (o : IsOfferedThere x) → x.goals ≡ [] → (let y = o.candidate in y.goals ≡ [])
  asks_nothing_there x o none = no_goals_there ρ' x o.candidate o.same none

  -- what values meet the fact there
  module _ (x y : Candidate) (same : blurred_candidate y ≡ renamed_candidate ρ' (blurred_candidate x)) (here : IsCandidateFor i.environment i.predicate x) (over : IsCandidateFor j.environment j.predicate y)
      (vs : List Tree) (fit : AreValuesOf x.fresh vs) (named : AreNamedValues term_level c.universe vs) (equal : (z : Equation) → Among x.equations z → read_in w vs (left_of z) ≡ read_in w vs (right_of z)) where
    abbrev moves : Renaming
    moves = moving c w solves i from

    abbrev pub values_there : List Tree
    values_there = map (rename moves) (map blurred vs)

    erased_moved : rename moves (leaf_tree (leaf.Region region.Erased)) ≡ leaf_tree (leaf.Region region.Erased)
    erased_moved = (let k = moving_carries c w solves i from in ap leaf_tree (k.plain region.Erased tt))

    erased_renamed : rename ρ' (leaf_tree (leaf.Region region.Erased)) ≡ leaf_tree (leaf.Region region.Erased)
    erased_renamed = ap leaf_tree (off_plain ρ region.Erased tt)

    leaf_known : (l : Leaf) → Occurs l (pair i.environment i.predicate) → Knows c (leaf_tree l)
    leaf_known l o = knows_leaf c l (pair i.environment i.predicate) o from.knows

    -- a leaf of the caller's candidate is read there as it is here, moved
    placed_leaf : (l : Leaf) → IsPlaced l → rename ρ' (blurred_leaf l) ≡ leaf_tree (ρ.to l) → read_in B values_there (rename ρ' (blurred_leaf l)) ≡ rename moves (inst (blurred_world w) (leaf_tree l))
    placed_leaf l p e =
        ap (read_in B values_there) (e ∙ p.place) ∙ read_leaves B values_there u (number (originals i) l) ∙ leaf_image l p.among

    region_leaf : (l : Leaf) → inst (blurred_world w) (leaf_tree l) ≡ leaf_tree (leaf.Region region.Erased) → blurred_leaf l ≡ leaf_tree (leaf.Region region.Erased) → read_in B values_there (rename ρ' (blurred_leaf l)) ≡ rename moves (inst (blurred_world w) (leaf_tree l))
    region_leaf l e k = ap (λ z. read_in B values_there (rename ρ' z)) k ∙ ap (read_in B values_there) erased_renamed ∙ sym (ap (rename moves) e ∙ erased_moved)

    leaf_read : (l : Leaf) → Occurs l (pair i.environment i.predicate) ⊎ IsFixed l → read_in B values_there (rename ρ' (blurred_leaf l)) ≡ rename moves (inst (blurred_world w) (leaf_tree l))
    leaf_read (leaf.Region r) o = region_leaf (leaf.Region r) refl refl
    leaf_read (leaf.Variable kind.Region n) (inl o) = region_leaf (leaf.Variable kind.Region n) (region_in c w (leaf_tree (leaf.Variable kind.Region n)) solves (leaf_known (leaf.Variable kind.Region n) o) (of_variable n, refl)) refl
    leaf_read (leaf.Variable kind.Ty n) (inl o) = placed_leaf (leaf.Variable kind.Ty n) (is_placed (leaf.Variable kind.Ty n) refl o) (ap leaf_tree (off_same ρ (leaf.Variable kind.Ty n) (λ z. cc z)))
    leaf_read (leaf.Variable kind.Int n) (inl o) = placed_leaf (leaf.Variable kind.Int n) (is_placed (leaf.Variable kind.Int n) refl o) (ap leaf_tree (off_same ρ (leaf.Variable kind.Int n) (λ z. cc z)))
    leaf_read (leaf.Variable kind.Float n) (inl o) = placed_leaf (leaf.Variable kind.Float n) (is_placed (leaf.Variable kind.Float n) refl o) (ap leaf_tree (off_same ρ (leaf.Variable kind.Float n) (λ z. cc z)))
    leaf_read (leaf.Variable kind.Const n) (inl o) = placed_leaf (leaf.Variable kind.Const n) (is_placed (leaf.Variable kind.Const n) refl o) (ap leaf_tree (off_same ρ (leaf.Variable kind.Const n) (λ z. cc z)))
    leaf_read (leaf.TyConstant a) (inl o) = placed_leaf (leaf.TyConstant a) (is_placed (leaf.TyConstant a) refl o) (ap leaf_tree (off_same ρ (leaf.TyConstant a) (λ z. cc z)))
    leaf_read (leaf.ConstConstant a) (inl o) = placed_leaf (leaf.ConstConstant a) (is_placed (leaf.ConstConstant a) refl o) (ap leaf_tree (off_same ρ (leaf.ConstConstant a) (λ z. cc z)))
    leaf_read (leaf.Variable k n) (inr f) = absurd f
    leaf_read (leaf.TyConstant a) (inr f) = absurd f
    leaf_read (leaf.ConstConstant a) (inr f) = absurd f

    caller_read : (t : Tree) → IsOver x.fresh i.environment i.predicate t → read_in B values_there (rename ρ' (blurred t)) ≡ rename moves (read_in (blurred_world w) (map blurred vs) t)
    caller_read t o =
        ap (read_in B values_there) (replace-replace (λ l. leaf_tree (let k = ρ' in k.to l)) blurred_leaf t)
        ∙ under_replaced (λ l. inst B (leaf_tree l)) values_there (λ l. rename ρ' (blurred_leaf l)) t
        ∙ filled_agree (λ l. read_in B values_there (rename ρ' (blurred_leaf l))) (λ l. rename moves (inst (blurred_world w) (leaf_tree l))) values_there t o.formed (λ l a. leaf_read l (o.leaves l a))
        ∙ sym (replaced_under (λ l. leaf_tree (moves.to l)) (λ l. inst (blurred_world w) (leaf_tree l)) (map blurred vs) t)

    -- what the caller's world reads, but for regions
    leaf_blurred : (l : Leaf) → Occurs l (pair i.environment i.predicate) ⊎ IsFixed l → blurred (inst w (leaf_tree l)) ≡ inst (blurred_world w) (leaf_tree l)
    leaf_blurred (leaf.Variable k n) (inl o) = (let known = leaf_known (leaf.Variable k n) o in let f = solves.fitting in let v = f.each n k known.0.0 in sym (merged_blurred (w.tree n) v.formed))
    leaf_blurred (leaf.Region r) o = refl
    leaf_blurred (leaf.TyConstant a) o = refl
    leaf_blurred (leaf.ConstConstant a) o = refl
    leaf_blurred (leaf.Variable k n) (inr f) = absurd f

    blurred_read : (t : Tree) → IsOver x.fresh i.environment i.predicate t → read_in (blurred_world w) (map blurred vs) t ≡ blurred (read_in w vs t)
    blurred_read t o =
        sym (replaced_under blurred_leaf (λ l. inst w (leaf_tree l)) vs t
        ∙ filled_agree (λ l. blurred (inst w (leaf_tree l))) (λ l. inst (blurred_world w) (leaf_tree l)) (map blurred vs) t o.formed (λ l a. leaf_blurred l (o.leaves l a)))

    -- what the query's candidate is read as
    leaf_there : (l : Leaf) → Occurs l (pair j.environment j.predicate) ⊎ IsFixed l → read_in B values_there (blurred_leaf l) ≡ inst B (leaf_tree l)
    leaf_there (leaf.Region r) o = refl
    leaf_there (leaf.Variable kind.Region n) (inl o) =
        (let m = world_there in sym (region_in q m.world (leaf_tree (leaf.Variable kind.Region n)) m.solves (knows_leaf q (leaf.Variable kind.Region n) (pair j.environment j.predicate) o known) (of_variable n, refl)))
    leaf_there (leaf.Variable kind.Ty n) (inl o) = refl
    leaf_there (leaf.Variable kind.Int n) (inl o) = refl
    leaf_there (leaf.Variable kind.Float n) (inl o) = refl
    leaf_there (leaf.Variable kind.Const n) (inl o) = refl
    leaf_there (leaf.TyConstant a) o = refl
    leaf_there (leaf.ConstConstant a) o = refl
    leaf_there (leaf.Variable k n) (inr f) = absurd f

    there_read : (t : Tree) → IsOver y.fresh j.environment j.predicate t → read_in B values_there t ≡ read_in B values_there (blurred t)
    there_read t o =
        sym (under_replaced (λ l. inst B (leaf_tree l)) values_there blurred_leaf t
        ∙ filled_agree (λ l. read_in B values_there (blurred_leaf l)) (λ l. inst B (leaf_tree l)) values_there t o.formed (λ l a. leaf_there l (o.leaves l a)))

    both_sides : (fresh : List Sort) (e g : Tree) (z : Equation) → IsEquationOver fresh e g z → IsOver fresh e g (left_of z) × IsOver fresh e g (right_of z)
    both_sides fresh e g (related a b) o = o
    both_sides fresh e g (alike a b) o = o

    one_side : (f : Equation → Tree) (k : (g : Tree → Tree) (z : Equation) → f (equation_by g z) ≡ g (f z)) (z v : Equation) → equation_by blurred z ≡ equation_by (rename ρ') (equation_by blurred v)
        → IsOver y.fresh j.environment j.predicate (f z) → IsOver x.fresh i.environment i.predicate (f v) → read_in B values_there (f z) ≡ rename moves (blurred (read_in w vs (f v)))
    one_side f k z v e over_z over_v =
        there_read (f z) over_z
        ∙ ap (read_in B values_there) (sym (k blurred z) ∙ ap f e ∙ k (rename ρ') (equation_by blurred v) ∙ ap (rename ρ') (k blurred v))
        ∙ caller_read (f v) over_v ∙ ap (rename moves) (blurred_read (f v) over_v)

    pub equal_there : (z : Equation) → Among y.equations z → read_in B values_there (left_of z) ≡ read_in B values_there (right_of z)
    equal_there z a =
        let es : map (equation_by blurred) y.equations ≡ map (equation_by (rename ρ')) (map (equation_by blurred) x.equations) = ap (λ n. n.equations) same in
        let r = among_back (equation_by (rename ρ')) (map (equation_by blurred) x.equations) (equation_by blurred z) (subst (λ n. Among n (equation_by blurred z)) es (equations_among (equation_by blurred) y.equations z a)) in
        let o = among_back (equation_by blurred) x.equations r.of r.found in
        let e : equation_by blurred z ≡ equation_by (rename ρ') (equation_by blurred o.of) = r.same ∙ ap (equation_by (rename ρ')) o.same in
        let zs = both_sides y.fresh j.environment j.predicate z (over.equations z a) in
        let xs = both_sides x.fresh i.environment i.predicate o.of (here.equations o.of o.found) in
        one_side left_of left_by z o.of e zs.0 xs.0 ∙ ap (λ n. rename moves (blurred n)) (equal o.of o.found) ∙ sym (one_side right_of right_by z o.of e zs.1 xs.1)

    -- the values
    value_there : (s : Sort) (v : Tree) → IsValueOfSort s v → IsValueOfSort s (rename moves (blurred v))
    value_there s v a =
        let b = value_blurred (kind_of_sort s) v (record { fits = a.fits; closed = a.closed; formed = a.formed }) in
        let z = value_instance (instance_by moves (moving_carries c w solves i from)) (kind_of_sort s) (blurred v) b in
        record { fits = z.fits; formed = z.formed; closed = z.closed }

    all_values_there : (ss : List Sort) (zs : List Tree) → AreValuesOf ss zs → AreValuesOf ss (map (rename moves) (map blurred zs))
    all_values_there [] [] a = tt
    all_values_there [] (v ∷ zs) a = absurd a
    all_values_there (s ∷ ss) [] a = absurd a
    all_values_there (s ∷ ss) (v ∷ zs) a = (value_there s v a.0, all_values_there ss zs a.1)

    pub fit_there : AreValuesOf y.fresh values_there
    fit_there = (let e : y.fresh ≡ x.fresh = ap (λ n. n.fresh) same in subst (λ n. AreValuesOf n values_there) (sym e) (all_values_there x.fresh vs fit))

    one_value : (s : Sort) (v : Tree) → IsValueOfSort s v → HasOneRegion (blurred v)
    one_value s v a = subst HasOneRegion (merged_blurred v a.formed) (merged_one v)

    one_values : (ss : List Sort) (zs : List Tree) → AreValuesOf ss zs → (t : Tree) → Among (map (rename moves) (map blurred zs)) t → HasOneRegion t
    one_values [] [] a t k = absurd k
    one_values [] (v ∷ zs) a t k = absurd a
    one_values (s ∷ ss) [] a t k = absurd a
    one_values (s ∷ ss) (v ∷ zs) a t (inl e) = subst HasOneRegion (sym e) (one_carried moves (moving_carries c w solves i from) (blurred v) (one_value s v a.0))
    one_values (s ∷ ss) (v ∷ zs) a t (inr k) = one_values ss zs a.1 t k

    pub one_there : (t : Tree) → Among values_there t → HasOneRegion t
    one_there = one_values x.fresh vs fit

    names_value : (s : Sort) (v : Tree) → IsValueOfSort s v → NamesAll term_level c.universe v → NamesAll term_level q.universe (rename moves (blurred v))
    names_value s v a n =
        let low_names : (l : Leaf) → CanName c.universe (leaf_level_of l) → NamesAll leaf_level 0 (leaf_tree (moves.to l)) = λ l k. leaf_named 0 (moves.to l) (moved_low c.universe (originals i) (distinct-originals i) (low c w solves i from) l k) in
        let blurs : NamesAll term_level c.universe (blurred v) = subst (NamesAll term_level c.universe) (merged_blurred v a.formed) (names_merged c.universe v n) in
        let at_root = names_replaced (λ l. leaf_tree (moves.to l)) c.universe 0 low_names (blurred v) (names_regions c.universe (blurred v) (one_value s v a) blurs) in
        NamesAll-more term_level 0 q.universe (rename moves (blurred v)) (omega arith) (names_terms 0 (rename moves (blurred v)) at_root)

    names_values : (ss : List Sort) (zs : List Tree) → AreValuesOf ss zs → AreNamedValues term_level c.universe zs → AreNamedValues term_level q.universe (map (rename moves) (map blurred zs))
    names_values [] [] a n = tt
    names_values [] (v ∷ zs) a n = absurd a
    names_values (s ∷ ss) [] a n = absurd a
    names_values (s ∷ ss) (v ∷ zs) a n = (names_value s v a.0 n.0, names_values ss zs a.1 n.1)

    pub named_there : AreNamedValues term_level q.universe values_there
    named_there = names_values x.fresh vs fit named

    pub met_there : IsCandidateMet q y
    met_there =
        let m = world_there in
        record { world = B; solves = solves_blurred q m.world m.solves; values = values_there; fit = fit_there; named = named_there; equal = equal_there }
