-- A goal that one candidate decides, as its query asks it: handlers are asked for it, and of what they offer that candidate holds and
-- no other one is met.
use Rattle.std.proofs.Common.{◌≡◌, ◌⊎◌, ◌||◌, inl, inr, true, false, List, [], ◌∷◌, map, refl, sym, ap, subst, ◌∙◌}
use Rattle.nts_model.specs.declared.labels.FreeRegion.TheVariants as region
use Rattle.nts_model.specs.declared.labels.Leaf.{Leaf}
use Rattle.nts_model.specs.declared.labels.Leaf.TheVariants as leaf
use Rattle.nts_model.specs.declared.labels.ClauseHead.TheVariants as clause
use Rattle.nts_model.specs.declared.labels.Label.{Label}
use Rattle.nts_model.specs.declared.labels.Label.TheVariants as label
use Rattle.nts_model.specs.Terms.Trees.{Tree, empty, more, node, any_label, is_alias, IsFormed}
use Rattle.nts_model.specs.Tables.Contents.{Content}
use Rattle.nts_model.specs.Tables.Resolving.{Knows}
use Rattle.nts_model.specs.Terms.Substitutions.{leaf_tree, replace, Occurs, Renaming, rename, filled}
use Rattle.nts_model.specs.Lists.{Among}
use Rattle.nts_model.specs.Derivations.Related.{pair}
use Rattle.nts_model.specs.Derivations.Sequents.{Premise}
use Rattle.nts_model.specs.Derivations.Rules.{Mode, Equation, related, alike, statement_of}
use Rattle.nts_model.specs.Derivations.Handlers.{Handler, Candidate, certain, renamed_candidate, IsAsked, IsFixed, IsEquationOver, IsCandidateFor, IsLawfulHandler}
use Rattle.nts_model.specs.Canonical.Inputs.{Input, is_static, label_or_leaf, static_as_label, Renames, IsInput}
use Rattle.nts_model.specs.Refutation.Choosing.{left_of, right_of, IsCandidateMet}
use Rattle.nts_model.specs.Refutation.Opening.{binds}
use Rattle.nts_model.proofs.Terms.Substituting.{replace-replace, replace-equal, replace-leaf, IsFormed-replace, KeepsKinds}
use Rattle.nts_model.proofs.Terms.Unpositioned.{or_false, false_or, known_no_positions, known_well_bound, pair_no_positions}
use Rattle.nts_model.proofs.Canonical.Numbering.{HasNoPositions, first_none, filled-replace, AllLeaves}
use Rattle.nts_theory.specs.Telling.{IsTraitStatement, IsTraitGoal}
use Rattle.nts_theory.specs.RelatingCandidates.{goals_with}
use Rattle.nts_theory.proofs.Refutation.Freshening.{knows_leaf}
use Rattle.nts_decisions.specs.Deciding.{blurred_leaf, blurred_but_static, blurred, blurred_environment, blurred_candidate, IsUniform}
use Rattle.nts_decisions.specs.Faring.{none_asked, AreDecidedHere, no_world, by_goals, OneFares, no_more, next_fails, next_holds}
use Rattle.nts_decisions.specs.Facts.{CanBeMet, NoneCanBeMet, IsOpenGoal, IsOnlyMet, here, later}
use Rattle.nts_decisions.specs.FirstTables.{IsSettledFact}
use Rattle.nts_theory.specs.RelatingCandidates.{HasPlainEquations}
use Rattle.nts_decisions.proofs.PlainOffers.{offered_plain}
use Rattle.nts_decisions.proofs.BlurredWorlds.{blurred_kinds, blurred_leaf_formed}
use Rattle.nts_decisions.proofs.AskedGoals.{by_leaves, asked_raw}
use Rattle.nts_decisions.proofs.DecidingRenamed.{labels_renamed, uniform_renamed}
use Rattle.nts_decisions.proofs.DecidedInputs.{off_regions, off_plain, environment_off, blurred_off}
use Rattle.nts_decisions.proofs.Faring.{among_by}
use Rattle.nts_decisions.proofs.OfferedFacts.{no_goals_there}
use Rattle.nts_decisions.proofs.FactsBack.{HasKindIn, HasKinds, can_be_met_back}

-- leaves that occur
occurring_label : (P : Leaf → Type 0) (l : Label) (c : Tree) → ((x : Leaf) → label.Leaf x ≡ l → P x) → AllLeaves P c → AllLeaves P (node l c)
occurring_label P (label.Leaf x) c h a = h x refl
occurring_label P (label.Bound s i n) c h a = a
occurring_label P (label.Ty x) c h a = a
occurring_label P (label.Const x) c h a = a
occurring_label P (label.Clause x) c h a = a
occurring_label P (label.Predicate x) c h a = a
occurring_label P (label.List x) c h a = a

leaves_occurring : (P : Leaf → Type 0) (t : Tree) → ((l : Leaf) → Occurs l t → P l) → AllLeaves P t
leaves_occurring P empty h = tt
leaves_occurring P (more a b) h = (leaves_occurring P a (λ l o. h l (inl o)), leaves_occurring P b (λ l o. h l (inr o)))
leaves_occurring P (node l c) h = occurring_label P l c (λ x e. h x (inl e)) (leaves_occurring P c (λ x o. h x (inr o)))

-- the variables of what a handler offers are the goal's, so the table tells their kinds
known_kind : (q : Content) (l : Leaf) → Knows q (leaf_tree l) → HasKindIn q l
known_kind q (leaf.Variable k n) h = h.0.0
known_kind q (leaf.Region r) h = tt
known_kind q (leaf.TyConstant a) h = tt
known_kind q (leaf.ConstConstant a) h = tt

fixed_kind : (q : Content) (l : Leaf) → IsFixed l → HasKindIn q l
fixed_kind q (leaf.Region r) h = tt
fixed_kind q (leaf.Variable k n) h = absurd h
fixed_kind q (leaf.TyConstant a) h = absurd h
fixed_kind q (leaf.ConstConstant a) h = absurd h

module _ (q : Content) (e g : Tree) (knows : Knows q (pair e g)) where
  term_kinds : (t : Tree) → ((l : Leaf) → Occurs l t → Occurs l (pair e g) ⊎ IsFixed l) → AllLeaves (HasKindIn q) t
  term_kinds t o = leaves_occurring (HasKindIn q) t (λ l i. elim (o l i) [ inl j ↦ known_kind q l (knows_leaf q l (pair e g) j knows) | inr f ↦ fixed_kind q l f ])

  equation_kinds : (y : Candidate) (x : Equation) → IsEquationOver y.fresh e g x → AllLeaves (HasKindIn q) (left_of x) × AllLeaves (HasKindIn q) (right_of x)
  equation_kinds y (related a b) h = (let l = h.0 in term_kinds a l.leaves, let r = h.1 in term_kinds b r.leaves)
  equation_kinds y (alike a b) h = (let l = h.0 in term_kinds a l.leaves, let r = h.1 in term_kinds b r.leaves)

  pub offered_kinds : (y : Candidate) → IsCandidateFor e g y → HasKinds q y
  offered_kinds y k = record { each = λ x i. equation_kinds y x (k.equations x i) }

-- an environment is what its form with 'static as a label says, with leaves renamed back
from_leaf : (Leaf → Leaf) → Leaf → Leaf
from_leaf f (leaf.Region region.Static) = leaf.Region region.Static
from_leaf f l = f l

static_value : Tree
static_value = leaf_tree (leaf.Region region.Static)

same_label : (l : Leaf) → replace leaf_tree (label_or_leaf is_static l) ≡ label_or_leaf is_static l
same_label (leaf.Region region.Static) = refl
same_label (leaf.Region (region.EarlyParam n)) = refl
same_label (leaf.Region (region.LateParam n)) = refl
same_label (leaf.Region (region.Placeholder u n)) = refl
same_label (leaf.Region region.Erased) = refl
same_label (leaf.Region region.Error) = refl
same_label (leaf.Variable k n) = refl
same_label (leaf.TyConstant a) = refl
same_label (leaf.ConstConstant a) = refl

static_label : (f : Leaf → Leaf) (l : Leaf) → filled (static_value ∷ []) (replace (λ x. leaf_tree (f x)) (label_or_leaf is_static l)) ≡ leaf_tree (from_leaf f l)
unfolding from_leaf static_value
static_label f (leaf.Region region.Static) = refl
static_label f (leaf.Region (region.EarlyParam n)) = refl
static_label f (leaf.Region (region.LateParam n)) = refl
static_label f (leaf.Region (region.Placeholder u n)) = refl
static_label f (leaf.Region region.Erased) = refl
static_label f (leaf.Region region.Error) = refl
static_label f (leaf.Variable k n) = refl
static_label f (leaf.TyConstant a) = refl
static_label f (leaf.ConstConstant a) = refl

read_static : (f : Leaf → Leaf) (t : Tree) → HasNoPositions t → filled (static_value ∷ []) (replace (λ x. leaf_tree (f x)) (static_as_label t)) ≡ by_leaves (from_leaf f) t
read_static f t h =
    ap (filled (static_value ∷ [])) (replace-replace (λ x. leaf_tree (f x)) (label_or_leaf is_static) t)
    ∙ filled-replace (static_value ∷ []) (λ l. replace (λ x. leaf_tree (f x)) (label_or_leaf is_static l)) t h
    ∙ replace-equal (λ l. filled (static_value ∷ []) (replace (λ x. leaf_tree (f x)) (label_or_leaf is_static l))) (λ l. leaf_tree (from_leaf f l)) (static_label f) t

itself : (l : Leaf) → from_leaf (λ x. x) l ≡ l
unfolding from_leaf
itself (leaf.Region region.Static) = refl
itself (leaf.Region (region.EarlyParam n)) = refl
itself (leaf.Region (region.LateParam n)) = refl
itself (leaf.Region (region.Placeholder u n)) = refl
itself (leaf.Region region.Erased) = refl
itself (leaf.Region region.Error) = refl
itself (leaf.Variable k n) = refl
itself (leaf.TyConstant a) = refl
itself (leaf.ConstConstant a) = refl

there_and_back : (ρ : Renaming) (t : Tree) → replace (λ l. leaf_tree (ρ.from l)) (rename ρ t) ≡ replace leaf_tree t
there_and_back ρ t = replace-replace (λ l. leaf_tree (ρ.from l)) (λ l. leaf_tree (ρ.to l)) t ∙ replace-equal (λ l. leaf_tree (ρ.from (ρ.to l))) leaf_tree (λ l. ap leaf_tree (ρ.back l)) t

environment_from : (ρ : Renaming) (s t : Tree) → HasNoPositions s → HasNoPositions t → IsFormed s → rename ρ (static_as_label s) ≡ static_as_label t → by_leaves (from_leaf ρ.from) t ≡ s
environment_from ρ s t h k f e =
    sym (read_static ρ.from t k)
    ∙ ap (λ z. filled (static_value ∷ []) (replace (λ x. leaf_tree (ρ.from x)) z)) (sym e)
    ∙ ap (filled (static_value ∷ [])) (there_and_back ρ (static_as_label s))
    ∙ read_static (λ x. x) s h
    ∙ replace-equal (λ l. leaf_tree (from_leaf (λ x. x) l)) leaf_tree (λ l. ap leaf_tree (itself l)) s
    ∙ replace-leaf s f

predicate_from : (ρ : Renaming) (s t : Tree) → IsFormed s → rename ρ s ≡ t → by_leaves ρ.from t ≡ s
predicate_from ρ s t f e = ap (by_leaves ρ.from) (sym e) ∙ there_and_back ρ s ∙ replace-leaf s f

trait_renamed : (f : Leaf → Tree) (t : Tree) → IsTraitStatement t → IsTraitStatement (replace f t)
trait_renamed f (node (label.Clause (clause.Trait i)) ts) h = tt
trait_renamed f (node (label.Clause (clause.HostEffect i)) ts) h = tt
trait_renamed f t h = absurd h

static_kinds : KeepsKinds blurred_but_static
static_kinds (leaf.Region region.Static) = refl
static_kinds (leaf.Region (region.EarlyParam n)) = refl
static_kinds (leaf.Region (region.LateParam n)) = refl
static_kinds (leaf.Region (region.Placeholder u n)) = refl
static_kinds (leaf.Region region.Erased) = refl
static_kinds (leaf.Region region.Error) = refl
static_kinds (leaf.Variable k n) = blurred_kinds (leaf.Variable k n)
static_kinds (leaf.TyConstant a) = refl
static_kinds (leaf.ConstConstant a) = refl

static_formed : (l : Leaf) → IsFormed (blurred_but_static l)
static_formed (leaf.Region region.Static) = (tt, tt)
static_formed (leaf.Region (region.EarlyParam n)) = (tt, tt)
static_formed (leaf.Region (region.LateParam n)) = (tt, tt)
static_formed (leaf.Region (region.Placeholder u n)) = (tt, tt)
static_formed (leaf.Region region.Erased) = (tt, tt)
static_formed (leaf.Region region.Error) = (tt, tt)
static_formed (leaf.Variable k n) = blurred_leaf_formed (leaf.Variable k n)
static_formed (leaf.TyConstant a) = (tt, tt)
static_formed (leaf.ConstConstant a) = (tt, tt)

-- a candidate renamed, but for regions
abbrev pub moved : Renaming → Candidate → Candidate
moved ρ x = renamed_candidate (off_regions ρ) (blurred_candidate x)

twice_moved : (ρ : Renaming) (xs : List Candidate) → map (renamed_candidate (off_regions ρ)) (map blurred_candidate xs) ≡ map (moved ρ) xs
twice_moved ρ [] = refl
twice_moved ρ (x ∷ xs) = ap (λ z. moved ρ x ∷ z) (twice_moved ρ xs)

-- lists of which each is the other's renamed, but for regions
first_same : (k : Candidate → Candidate) (x y : Candidate) (xs ys : List Candidate) → map blurred_candidate (y ∷ ys) ≡ map k (x ∷ xs) → blurred_candidate y ≡ k x
first_same k x y xs ys e = cc e

rest_same : (k : Candidate → Candidate) (x y : Candidate) (xs ys : List Candidate) → map blurred_candidate (y ∷ ys) ≡ map k (x ∷ xs) → map blurred_candidate ys ≡ map k xs
rest_same k x y xs ys e = cc e

-- a goal without variables that it binds and without aliases, and an input that is it renamed, whose terms a table knows
module _ (i j : Input) (p : IsInput i) (r : IsInput j) (ρ : Renaming) (m : Renames ρ i j) (q : Content) (knows : Knows q (pair j.environment j.predicate)) (a : IsAsked i.environment i.predicate) where
  environment_back : by_leaves (from_leaf ρ.from) j.environment ≡ i.environment
  environment_back =
      let f = a.formed in
      environment_from ρ i.environment j.environment (first_none i.environment (more i.predicate (more i.hidden empty)) p.no_positions) (first_none j.environment (more j.predicate (more j.hidden empty)) r.no_positions) f.0 m.environment

  predicate_back : by_leaves ρ.from j.predicate ≡ i.predicate
  predicate_back = (let f = a.formed in predicate_from ρ i.predicate j.predicate f.1.0 m.predicate)

  pub asked_there : IsAsked j.environment j.predicate
  asked_there =
      let f = r.formed in
      asked_raw (from_leaf ρ.from) ρ.from j.environment j.predicate f.0 f.1.0
      (pair_no_positions j.environment j.predicate (known_no_positions q j.environment knows.0) (known_no_positions q j.predicate knows.1.0)) (known_well_bound q (pair j.environment j.predicate) knows)
      (subst (λ z. IsAsked z (by_leaves ρ.from j.predicate)) (sym environment_back) (subst (IsAsked i.environment) (sym predicate_back) a))

  pub trait_there : IsTraitGoal i.environment i.predicate → IsTraitGoal j.environment j.predicate
  trait_there t =
      let f = r.formed in
      let s : IsTraitStatement a.statement = subst (λ z. IsTraitStatement (statement_of z)) a.binds_nothing t.statement in
      let x = or_false (any_label is_alias i.environment) (any_label is_alias i.predicate || false) t.no_alias in
      let y = or_false (any_label is_alias i.predicate) false x.1 in
      record {
        statement = subst (λ z. IsTraitStatement (statement_of z)) (ap (rename ρ) (sym a.binds_nothing) ∙ m.predicate) (trait_renamed (λ l. leaf_tree (ρ.to l)) a.statement s);
        no_alias = false_or (any_label is_alias j.environment) (any_label is_alias j.predicate || false) (sym (labels_renamed is_alias (from_leaf ρ.from) (λ l. refl) j.environment f.0) ∙ ap (any_label is_alias) environment_back ∙ x.0)
            (false_or (any_label is_alias j.predicate) false (sym (labels_renamed is_alias ρ.from (λ l. refl) j.predicate f.1.0) ∙ ap (any_label is_alias) predicate_back ∙ y.0) refl);
      }

  pub binds_nothing_there : binds j.predicate ≡ false
  binds_nothing_there = (let b = asked_there in ap binds b.binds_nothing)

  module _ (h : Handler) (law : IsLawfulHandler h) (mode : Mode) (o : IsOpenGoal h mode i.environment i.predicate) where
    environment_same : blurred_environment j.environment ≡ rename (off_regions ρ) (blurred_environment i.environment)
    environment_same = environment_off ρ i.environment j.environment (first_none i.environment (more i.predicate (more i.hidden empty)) p.no_positions) (first_none j.environment (more j.predicate (more j.hidden empty)) r.no_positions) m.environment

    predicate_same : blurred j.predicate ≡ rename (off_regions ρ) (blurred i.predicate)
    predicate_same = ap blurred (sym m.predicate) ∙ blurred_off ρ i.predicate

    uniform_there : IsUniform h mode (rename (off_regions ρ) (blurred_environment i.environment)) (rename (off_regions ρ) (blurred i.predicate)) (map (renamed_candidate (off_regions ρ)) o.candidates)
    uniform_there =
        let f = a.formed in
        uniform_renamed h law mode (off_regions ρ) (off_plain ρ) (blurred_environment i.environment) (blurred i.predicate) o.candidates
        (IsFormed-replace blurred_but_static static_kinds static_formed i.environment f.0) (IsFormed-replace blurred_leaf blurred_kinds blurred_leaf_formed i.predicate f.1.0) o.uniform

    offers_uniform : map blurred_candidate (h.offers mode j.environment j.predicate) ≡ map (renamed_candidate (off_regions ρ)) o.candidates
    offers_uniform = (let u = uniform_there in u.alike j.environment j.predicate asked_there environment_same predicate_same)

    -- what is offered there
    pub offers_there : map blurred_candidate (h.offers mode j.environment j.predicate) ≡ map (renamed_candidate (off_regions ρ)) (map blurred_candidate (h.offers mode i.environment i.predicate))
    offers_there = (let u = o.uniform in offers_uniform ∙ ap (map (renamed_candidate (off_regions ρ))) (sym (u.alike i.environment i.predicate a refl refl)))

    pub sure_there : (y : Candidate) → Among (h.offers mode j.environment j.predicate) y → y.certainty ≡ certain
    sure_there y k =
        let u = uniform_there in
        u.sure (blurred_candidate y) (subst (λ z. Among z (blurred_candidate y)) offers_uniform (among_by blurred_candidate (h.offers mode j.environment j.predicate) y k))

    pub plain_there : (y : Candidate) → Among (h.offers mode j.environment j.predicate) y → HasPlainEquations y
    plain_there y k =
        let u = uniform_there in
        let keep = law.keep in
        offered_plain j.environment j.predicate (map (renamed_candidate (off_regions ρ)) o.candidates) (h.offers mode j.environment j.predicate) (λ z l. keep.each mode j.environment j.predicate z asked_there l) offers_uniform u.formed y k

    -- what a world meets there, values meet here
    not_met_there : (x y : Candidate) → Among (h.offers mode j.environment j.predicate) y → blurred_candidate y ≡ moved ρ x → (CanBeMet x → ⊥) → IsCandidateMet q y → ⊥
    not_met_there x y k e none met =
        let keep = law.keep in
        none (can_be_met_back q (off_regions ρ) (off_plain ρ) x y e (offered_kinds q j.environment j.predicate knows y (keep.each mode j.environment j.predicate y asked_there k)) met)

    module _ (c : Content) (met_there : (x y : Candidate) → Among (h.offers mode i.environment i.predicate) x → Among (h.offers mode j.environment j.predicate) y → blurred_candidate y ≡ moved ρ x → IsCandidateMet c x → IsCandidateMet q y) where
      none_fares : (xs ys : List Candidate) → ((y : Candidate) → Among ys y → Among (h.offers mode j.environment j.predicate) y) → map blurred_candidate ys ≡ map (moved ρ) xs → NoneCanBeMet xs → OneFares h mode 0 q ys false
      none_fares [] [] within e n = no_more
      none_fares [] (y ∷ ys) within e n = absurd (cc e)
      none_fares (x ∷ xs) [] within e n = absurd (cc e)
      none_fares (x ∷ xs) (y ∷ ys) within e n =
          next_fails (no_world (not_met_there x y (within y (inl refl)) (first_same (moved ρ) x y xs ys e) n.0)) (none_fares xs ys (λ z k. within z (inr k)) (rest_same (moved ρ) x y xs ys e) n.1)

      no_goal_left : (chosen : List Tree) (met : Content) (ps : List Premise) → ps ≡ [] → AreDecidedHere h mode 0 met (goals_with chosen ps) true
      no_goal_left chosen met ps e = rw e (record { decided = none_asked; each = λ p k. absurd k })

      one_fares : (xs ys : List Candidate) → ((x : Candidate) → Among xs x → Among (h.offers mode i.environment i.predicate) x) → ((y : Candidate) → Among ys y → Among (h.offers mode j.environment j.predicate) y) → map blurred_candidate ys ≡ map (moved ρ) xs → IsOnlyMet c xs
          → OneFares h mode 0 q ys true
      one_fares [] ys from within e n = elim n [ ]
      one_fares (x ∷ xs) [] from within e n = absurd (cc e)
      one_fares (x ∷ xs) (y ∷ ys) from within e (here none met n) =
          (let s = first_same (moved ρ) x y xs ys e in
          next_holds (by_goals (met_there x y (from x (inl refl)) (within y (inl refl)) s met) (λ chosen d b. no_goal_left chosen d y.goals (no_goals_there (off_regions ρ) x y s none))) (none_fares xs ys (λ z k. within z (inr k)) (rest_same (moved ρ) x y xs ys e) n))
      one_fares (x ∷ xs) (y ∷ ys) from within e (later none n) =
          next_fails (no_world (not_met_there x y (within y (inl refl)) (first_same (moved ρ) x y xs ys e) none)) (one_fares xs ys (λ z k. from z (inr k)) (λ z k. within z (inr k)) (rest_same (moved ρ) x y xs ys e) n)

      -- so one of them holds, and no other one is met
      pub only_there : IsOnlyMet c (h.offers mode i.environment i.predicate) → OneFares h mode 0 q (h.offers mode j.environment j.predicate) true
      only_there n = one_fares (h.offers mode i.environment i.predicate) (h.offers mode j.environment j.predicate) (λ x k. k) (λ y k. k) (offers_there ∙ twice_moved ρ (h.offers mode i.environment i.predicate)) n

      -- .. which has no goals
      none_met : (xs ys : List Candidate) → ((y : Candidate) → Among ys y → Among (h.offers mode j.environment j.predicate) y) → map blurred_candidate ys ≡ map (moved ρ) xs → NoneCanBeMet xs → (y : Candidate) → Among ys y → IsCandidateMet q y → ⊥
      none_met [] [] within e n y k met = k
      none_met [] (z ∷ ys) within e n y k met = absurd (cc e)
      none_met (x ∷ xs) [] within e n y k met = absurd (cc e)
      none_met (x ∷ xs) (z ∷ ys) within e n y (inl same) met = not_met_there x z (within z (inl refl)) (first_same (moved ρ) x z xs ys e) n.0 (subst (IsCandidateMet q) same met)
      none_met (x ∷ xs) (z ∷ ys) within e n y (inr k) met = none_met xs ys (λ w i. within w (inr i)) (rest_same (moved ρ) x z xs ys e) n.1 y k met

      met_has_no_goals : (xs ys : List Candidate) → ((y : Candidate) → Among ys y → Among (h.offers mode j.environment j.predicate) y) → map blurred_candidate ys ≡ map (moved ρ) xs → IsOnlyMet c xs → (y : Candidate) → Among ys y → IsCandidateMet q y → y.goals ≡ []
      met_has_no_goals [] ys within e n y k met = elim n [ ]
      met_has_no_goals (x ∷ xs) [] within e n y k met = absurd (cc e)
      met_has_no_goals (x ∷ xs) (z ∷ ys) within e (here none is n) y (inl same) met = no_goals_there (off_regions ρ) x y (ap blurred_candidate same ∙ first_same (moved ρ) x z xs ys e) none
      met_has_no_goals (x ∷ xs) (z ∷ ys) within e (here none is n) y (inr k) met = absurd (none_met xs ys (λ w i. within w (inr i)) (rest_same (moved ρ) x z xs ys e) n y k met)
      met_has_no_goals (x ∷ xs) (z ∷ ys) within e (later none n) y (inl same) met = absurd (not_met_there x z (within z (inl refl)) (first_same (moved ρ) x z xs ys e) none (subst (IsCandidateMet q) same met))
      met_has_no_goals (x ∷ xs) (z ∷ ys) within e (later none n) y (inr k) met = met_has_no_goals xs ys (λ w i. within w (inr i)) (rest_same (moved ρ) x z xs ys e) n y k met

      -- so the query settles it
      pub settled_there : IsOnlyMet c (h.offers mode i.environment i.predicate) → IsSettledFact h mode q j.environment j.predicate
      settled_there n =
          record {
            asked = asked_there;
            trait_goal = trait_there o.trait_goal;
            binds_nothing = binds_nothing_there;
            fares = only_there n;
            sure = sure_there;
            no_aliases = plain_there;
            no_goals = λ y k met. met_has_no_goals (h.offers mode i.environment i.predicate) (h.offers mode j.environment j.predicate) (λ w z. z) (offers_there ∙ twice_moved ρ (h.offers mode i.environment i.predicate)) n y k met;
          }
