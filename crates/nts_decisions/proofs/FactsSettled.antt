-- What is answered where one candidate without goals decides: a response that says nothing is over the terms of its query.
use Rattle.std.proofs.Common.{◌≡◌, ◌⊎◌, inl, inr, ℕ, suc, ◌+◌, ◌<◌, length, get_or, ◌∷◌, true, false, List, [], map, Some, refl, sym, ap, subst, ◌∙◌, arith}
use Rattle.nts_model.specs.declared.labels.VariableKind.{VariableKind}
use Rattle.nts_model.specs.declared.labels.VariableKind.TheVariants as kind
use Rattle.nts_model.specs.declared.labels.FreeRegion.TheVariants as region
use Rattle.nts_model.specs.declared.labels.Leaf.{Leaf}
use Rattle.nts_model.specs.declared.labels.Leaf.TheVariants as leaf
use Rattle.nts_model.specs.declared.labels.Label.TheVariants as label
use Rattle.nts_model.specs.Terms.Trees.{Tree, empty, more, node, label_of, any_label, is_canonical}
use Rattle.nts_model.specs.Terms.Regions.{name_of_label, region_name, of_variable}
use Rattle.nts_model.specs.Terms.Fitting.{is_integer, is_float, Fits}
use Rattle.nts_model.specs.Tables.Contents.{Content, kind_at}
use Rattle.nts_model.specs.Tables.Resolving.{Knows, IsSound, deeply_resolved, root_of}
use Rattle.nts_model.specs.Tables.Solvable.{IsSolvable}
use Rattle.nts_model.specs.Terms.Substitutions.{leaf_tree, Occurs}
use Rattle.nts_model.specs.Lists.{Among}
use Rattle.nts_model.specs.Derivations.Related.{pair}
use Rattle.nts_model.specs.Derivations.Proving.{HoldsTerms}
use Rattle.nts_model.specs.Derivations.Rules.{Equation, related, alike}
use Rattle.nts_model.specs.Derivations.Handlers.{Candidate, IsFixed, IsOver, IsEquationOver, IsCandidateFor}
use Rattle.nts_model.specs.Refutation.Choosing.{left_of, right_of}
use Rattle.nts_model.specs.Answers.Responses.{Response}
use Rattle.nts_model.proofs.Terms.Unpositioned.{known_no_positions}
use Rattle.nts_model.proofs.Tables.Kept.{deeply_resolved-no_variables}
use Rattle.nts_model.proofs.Tables.Open.{Knows-deeply_resolved}
use Rattle.nts_model.proofs.Tables.ResolvedTerms.{Fits-deeply_resolved}
use Rattle.nts_model.proofs.Tables.Alike.{region_name-deeply_resolved}
use Rattle.nts_model.proofs.Tables.Slots.{KeepsKinds}
use Rattle.nts_decisions.specs.FirstTables.{IsFirstLeaf, a_variable, a_type, a_const, a_region, IsFirstQuery}
use Rattle.nts_model.specs.declared.labels.Sort.{Sort}
use Rattle.nts_model.specs.Canonical.Numbered.{position}
use Rattle.nts_model.specs.Derivations.Sequents.{Premise}
use Rattle.nts_model.specs.Derivations.Rules.{Mode}
use Rattle.nts_model.specs.Derivations.Handlers.{Handler}
use Rattle.nts_theory.specs.AskedGoals.{asked_in}
use Rattle.nts_theory.proofs.Refutation.AskedGoals.{asks_none}
use Rattle.nts_theory.specs.Telling.{Queries, Reaches, asks_nothing, then_asks}
use Rattle.nts_theory.specs.Telling.{IsResponseOf, AreTermsOfKinds}
use Rattle.nts_theory.specs.RelatingCandidates.{IsBegun}
use Rattle.nts_theory.proofs.Refutation.Freshening.{knows_leaf}
use Rattle.nts_decisions.proofs.DecidingRenamed.{among_back}
use Rattle.nts_decisions.proofs.FactsKept.{IsApart, IsOfTerms, IsNotConstant, IsGoalTerm, AreGoalTerms, stays_variable}
use Rattle.nts_decisions.proofs.FactsOver.{ArePlacesFrom, IsKept, variable, of_type, of_const, of_region, identity_over}

fixed_known : (c : Content) (y : Leaf) → IsFixed y → Knows c (leaf_tree y)
fixed_known c (leaf.Region region.Static) h = ((tt, tt, refl), tt, tt)
fixed_known c (leaf.Region region.Erased) h = ((tt, tt, refl), tt, tt)
fixed_known c (leaf.Region region.Error) h = ((tt, tt, refl), tt, tt)
fixed_known c (leaf.Region (region.Placeholder u n)) h = absurd h
fixed_known c (leaf.Region (region.EarlyParam n)) h = absurd h
fixed_known c (leaf.Region (region.LateParam n)) h = absurd h
fixed_known c (leaf.Variable k n) h = absurd h
fixed_known c (leaf.TyConstant a) h = absurd h
fixed_known c (leaf.ConstConstant a) h = absurd h

one_leaf : {l m : Leaf} → Some (label.Leaf l) ≡ Some (label.Leaf m) → l ≡ m
one_leaf e = cc e

-- leaves that fit a variable of numbers, or of regions
integer_leaf : (l : Leaf) → is_integer (label.Leaf l) ≡ true → (m : ℕ) × (l ≡ leaf.Variable kind.Int m)
integer_leaf (leaf.Variable kind.Int m) e = (m, refl)
integer_leaf l e = absurd (cc e)

float_leaf : (l : Leaf) → is_float (label.Leaf l) ≡ true → (m : ℕ) × (l ≡ leaf.Variable kind.Float m)
float_leaf (leaf.Variable kind.Float m) e = (m, refl)
float_leaf l e = absurd (cc e)

region_leaf : (l : Leaf) (n : ℕ) → name_of_label (label.Leaf l) ≡ Some (of_variable n) → (m : ℕ) × (l ≡ leaf.Variable kind.Region m)
region_leaf (leaf.Variable kind.Region m) n e = (m, refl)
region_leaf l n e = absurd (cc e)

integer_of : (t : Tree) (l : Leaf) → Fits kind.Int t → label_of t ≡ Some (label.Leaf l) → is_integer (label.Leaf l) ≡ true
integer_of empty l f e = absurd f
integer_of (more a b) l f e = absurd f
integer_of (node m c) l f e = ap is_integer (one_label (sym e)) ∙ f
  where
    one_label : Some (label.Leaf l) ≡ Some m → label.Leaf l ≡ m
    one_label e = cc e

float_of : (t : Tree) (l : Leaf) → Fits kind.Float t → label_of t ≡ Some (label.Leaf l) → is_float (label.Leaf l) ≡ true
float_of empty l f e = absurd f
float_of (more a b) l f e = absurd f
float_of (node m c) l f e = ap is_float (one_label (sym e)) ∙ f
  where
    one_label : Some (label.Leaf l) ≡ Some m → label.Leaf l ≡ m
    one_label e = cc e

region_of : (t : Tree) (l : Leaf) (n : ℕ) → region_name t ≡ Some (of_variable n) → label_of t ≡ Some (label.Leaf l) → name_of_label (label.Leaf l) ≡ Some (of_variable n)
region_of empty l n f e = absurd (cc f)
region_of (more a b) l n f e = absurd (cc f)
region_of (node m empty) l n f e = ap name_of_label (one_label (sym e)) ∙ f
  where
    one_label : Some (label.Leaf l) ≡ Some m → label.Leaf l ≡ m
    one_label e = cc e
region_of (node m (more a b)) l n f e = absurd (cc f)
region_of (node m (node x y)) l n f e = absurd (cc f)

module _ (c : Content) (xs : List Leaf) (e g : Tree) (query : IsFirstQuery c xs e g) (x : Candidate) (offered : IsCandidateFor e g x) (chosen : List Tree) (met : Content) (begun : IsBegun c x chosen met) (keeps : KeepsKinds c met)
    (sound : IsSound met) (solvable : IsSolvable met) (holds : HoldsTerms met) where
  -- no other term came to be the leaf
  abbrev IsAlone : Leaf → Leaf → Type 0
  IsAlone y l = (z : Leaf) → Among xs z → label_of (deeply_resolved met (leaf_tree z)) ≡ Some (label.Leaf l) → z ≡ y

  module _ (k : VariableKind) (n : ℕ) (of_terms : IsOfTerms k) (l : Leaf) (alone : IsAlone (leaf.Variable k n) l) where
    constant_apart : (y : Leaf) → Occurs y (pair e g) ⊎ IsFixed y → IsNotConstant l y
    constant_apart (leaf.TyConstant a) (inl o) =
        λ q. absurd (cc (alone (leaf.TyConstant a) (query.constants (leaf.TyConstant a) o tt) (ap label_of (deeply_resolved-no_variables met (leaf_tree (leaf.TyConstant a)) refl refl) ∙ ap (λ z. Some (label.Leaf z)) q)))
    constant_apart (leaf.ConstConstant a) (inl o) =
        λ q. absurd (cc (alone (leaf.ConstConstant a) (query.constants (leaf.ConstConstant a) o tt) (ap label_of (deeply_resolved-no_variables met (leaf_tree (leaf.ConstConstant a)) refl refl) ∙ ap (λ z. Some (label.Leaf z)) q)))
    constant_apart (leaf.TyConstant a) (inr f) = absurd f
    constant_apart (leaf.ConstConstant a) (inr f) = absurd f
    constant_apart (leaf.Region r) o = tt
    constant_apart (leaf.Variable j m) o = tt

    goal_term : (t : Tree) → IsOver x.fresh e g t → IsGoalTerm c l t
    goal_term t o =
        record {
          formed = o.formed;
          well_bound = o.well_bound;
          leaves = λ y i. elim (o.leaves y i) [ inl j ↦ knows_leaf c y (pair e g) j query.knows | inr f ↦ fixed_known c y f ];
          others = λ y i. constant_apart y (o.leaves y i);
        }

    sides_over : (q : Equation) → IsEquationOver x.fresh e g q → IsGoalTerm c l (left_of q) × IsGoalTerm c l (right_of q)
    sides_over (related a b) h = (goal_term a h.0, goal_term b h.1)
    sides_over (alike a b) h = (goal_term a h.0, goal_term b h.1)

    goal_terms : AreGoalTerms c l x
    goal_terms = record { equations = λ q i. sides_over q (offered.equations q i); constraints = λ y i. (let h = offered.constraints y i in (goal_term y.left h.0, goal_term y.right h.1)) }

    -- a variable of numbers is another term
    no_number : (j : VariableKind) (m : ℕ) → (leaf.Variable j m ≡ leaf.Variable k n → ⊥) → kind_at c m ≡ Some j → label_of (deeply_resolved met (leaf_tree (leaf.Variable j m))) ≡ Some (label.Leaf l) → ⊥
    no_number j m differs at q = differs (alone (leaf.Variable j m) (query.all j m at) q)

  apart_types : (n : ℕ) (l : Leaf) → IsAlone (leaf.Variable kind.Ty n) l → (j : VariableKind) (m : ℕ) → kind_at c m ≡ Some j → IsApart l j (deeply_resolved met (leaf_tree (leaf.Variable j m)))
  apart_types n l alone kind.Int m at = no_number kind.Ty n tt l alone kind.Int m (λ q. cc q) at
  apart_types n l alone kind.Float m at = no_number kind.Ty n tt l alone kind.Float m (λ q. cc q) at
  apart_types n l alone kind.Ty m at = tt
  apart_types n l alone kind.Const m at = tt
  apart_types n l alone kind.Region m at = tt

  apart_consts : (n : ℕ) (l : Leaf) → IsAlone (leaf.Variable kind.Const n) l → (j : VariableKind) (m : ℕ) → kind_at c m ≡ Some j → IsApart l j (deeply_resolved met (leaf_tree (leaf.Variable j m)))
  apart_consts n l alone kind.Int m at = no_number kind.Const n tt l alone kind.Int m (λ q. cc q) at
  apart_consts n l alone kind.Float m at = no_number kind.Const n tt l alone kind.Float m (λ q. cc q) at
  apart_consts n l alone kind.Ty m at = tt
  apart_consts n l alone kind.Const m at = tt
  apart_consts n l alone kind.Region m at = tt

  of_kind : (k : VariableKind) (n : ℕ) (l : Leaf) → (m : ℕ) × (l ≡ leaf.Variable k m) → IsKept (leaf.Variable k n) l
  of_kind k n l (m, e) = subst (IsKept (leaf.Variable k n)) (sym e) variable

  kept_variable : (k : VariableKind) (n : ℕ) → kind_at c n ≡ Some k → (l : Leaf) → label_of (deeply_resolved met (leaf_tree (leaf.Variable k n))) ≡ Some (label.Leaf l) → IsAlone (leaf.Variable k n) l → IsKept (leaf.Variable k n) l
  kept_variable kind.Ty n at l is alone = of_kind kind.Ty n l (stays_variable c (record { unset = query.unset; none = query.none }) query.proper x chosen met begun keeps sound solvable kind.Ty n at tt l is (goal_terms kind.Ty n tt l alone) (apart_types n l alone))
  kept_variable kind.Const n at l is alone = of_kind kind.Const n l (stays_variable c (record { unset = query.unset; none = query.none }) query.proper x chosen met begun keeps sound solvable kind.Const n at tt l is (goal_terms kind.Const n tt l alone) (apart_consts n l alone))
  kept_variable kind.Int n at l is alone =
      of_kind kind.Int n l (integer_leaf l (integer_of (deeply_resolved met (leaf_tree (leaf.Variable kind.Int n))) l (Fits-deeply_resolved met kind.Int n sound holds (keeps.kinds n kind.Int at)) is))
  kept_variable kind.Float n at l is alone =
      of_kind kind.Float n l (float_leaf l (float_of (deeply_resolved met (leaf_tree (leaf.Variable kind.Float n))) l (Fits-deeply_resolved met kind.Float n sound holds (keeps.kinds n kind.Float at)) is))
  kept_variable kind.Region n at l is alone =
      of_kind kind.Region n l (region_leaf l (root_of met n) (region_of (deeply_resolved met (leaf_tree (leaf.Variable kind.Region n))) l (root_of met n) (region_name-deeply_resolved met (leaf_tree (leaf.Variable kind.Region n)) (of_variable n) refl) is))

  kept_first : (y : Leaf) → IsFirstLeaf c y → (l : Leaf) → label_of (deeply_resolved met (leaf_tree y)) ≡ Some (label.Leaf l) → IsAlone y l → IsKept y l
  kept_first y (a_variable {k} {n} at) l is alone = kept_variable k n at l is alone
  kept_first y a_type l is alone = subst (IsKept y) (one_leaf (sym (ap label_of (deeply_resolved-no_variables met (leaf_tree y) refl refl)) ∙ is)) of_type
  kept_first y a_const l is alone = subst (IsKept y) (one_leaf (sym (ap label_of (deeply_resolved-no_variables met (leaf_tree y) refl refl)) ∙ is)) of_const
  kept_first y a_region l is alone = subst (IsKept y) (one_leaf (sym (ap label_of (deeply_resolved-no_variables met (leaf_tree y) refl refl)) ∙ is)) of_region

  knows_first : (y : Leaf) → IsFirstLeaf c y → Knows met (leaf_tree y)
  knows_first y (a_variable {k} {n} at) = ((keeps.kinds n k at, tt, refl), tt, tt)
  knows_first y a_type = ((tt, omega arith, refl), tt, tt)
  knows_first y a_const = ((tt, omega arith, refl), tt, tt)
  knows_first y a_region = ((tt, omega arith, refl), tt, tt)

  no_positions : (t : Tree) → (y : Leaf) → Among xs y → t ≡ deeply_resolved met (leaf_tree y) → any_label is_canonical t ≡ false
  no_positions t y i q = ap (any_label is_canonical) q ∙ known_no_positions met (deeply_resolved met (leaf_tree y)) (Knows-deeply_resolved met (leaf_tree y) sound (knows_first y (query.each y i)))

  -- so the response of its table is over the terms of the query
  pub fact_over : (r : Response) → IsResponseOf met (map leaf_tree xs) r → (let f = r.findings in ArePlacesFrom 0 f.values) → (let f = r.findings in f.constraints ≡ []) → AreTermsOfKinds r.kinds (map leaf_tree xs)
  fact_over r says places none =
      identity_over met xs r says places none
      (λ t i. (let o = among_back (λ y. deeply_resolved met (leaf_tree y)) xs t i in no_positions t o.of o.found o.same))
      (λ y i l is alone. kept_first y (query.each y i) l is alone)

-- values that are the positions of their own numbers
places_from : (k : ℕ) (ts : List Tree) → ((i : ℕ) → i < length ts → (s : Sort) × (get_or ts i empty ≡ position s (k + i))) → ArePlacesFrom k ts
places_from k [] h = tt
places_from k (t ∷ ts) h =
    let first = h 0 (omega arith) in
    let rest : (i : ℕ) → i < length ts → (s : Sort) × (get_or ts i empty ≡ position s (suc k + i)) =
    λ i l. (let r = h (suc i) (omega (arith, l)) in (r.0, r.1 ∙ ap (position r.0) (let e : k + suc i ≡ suc k + i = omega arith in e))) in
    ((first.0, first.1 ∙ ap (position first.0) (let e : k + 0 ≡ k = omega arith in e)), places_from (suc k) ts rest)

pub are_places : (ts : List Tree) → ((i : ℕ) → i < length ts → (s : Sort) × (get_or ts i empty ≡ position s i)) → ArePlacesFrom 0 ts
are_places ts h = places_from 0 ts (λ i l. (let r = h i l in (r.0, r.1 ∙ ap (position r.0) (let e : i ≡ 0 + i = omega arith in e))))

-- where there are no goals, none is asked
no_goal_asked : (mode : Mode) (ps : List Premise) → ps ≡ [] → (p : Premise) → Among (asked_in mode ps) p → ⊥
no_goal_asked mode ps e p i = subst (λ z. Among z p) (asks_none mode) (rw e at i)

pub reached_nothing : (Q : Queries) (h : Handler) (mode : Mode) (ps : List Premise) (c d : Content) → ps ≡ [] → Reaches Q h mode (asked_in mode ps) c d → d ≡ c
reached_nothing Q h mode ps c d e asks_nothing = refl
reached_nothing Q h mode ps c d e (then_asks m p r i can asked) = absurd (no_goal_asked mode ps e p i)
