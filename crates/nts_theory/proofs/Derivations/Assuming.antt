-- What follows from assumptions follows from more, and from more general ones.
use Rattle.std.specs.Prelude.{◌≡◌, ◌⊎◌, ℕ, zero, suc, List, [], ◌∷◌, Some, slice_get, map, IsTrue, false, refl}
use Rattle.std.proofs.Common.{inl, inr, ap, sym, ◌∙◌, subst, ⊎_elim}
use Rattle.nts_model.specs.Terms.Trees.{Tree}
use Rattle.nts_model.specs.Terms.Substitutions.{Instance, instance_of}
use Rattle.nts_model.specs.Derivations.Related.{Constraint}
use Rattle.nts_model.specs.Lists.{Among}
use Rattle.nts_model.specs.Derivations.Sequents.{PathKind, coinductive, unknown, inductive, forced_ambiguity, Premise, Hidden, Sequent, AreOneBy, Grants, Hides, constraint_under, hidden_under, premise_under, IsInstance}
use Rattle.nts_model.specs.Derivations.Rules.{Meaning, Mode, goal_kind, proof_kind}
use Rattle.nts_model.specs.Derivations.Proofs.{Serves, reopened, Assumed, put_behind, passed, Derives, DerivesAll, by_rule, by_cycle, by_ranked, all_derived, by_derivation, by_assumption}
use Rattle.nts_model.specs.Searching.Stacks.{IsUsable, IsDerivedFrom}
use Rattle.nts_model.proofs.Terms.Composing.{after, instance_of-after}
use Rattle.nts_model.proofs.Terms.Identified.{one_trans, one_under}
use Rattle.nts_theory.proofs.Derivations.Flattening.{get-put_behind, none_stand as none_found}
use Rattle.nts_theory.proofs.Derivations.ProofInstances.{constraint_under-after, hidden_under-after, IsTrivial-under, Hides-one, IsInstance-after}

-- an instance of what has an instance that serves a premise serves it
reopened-after : (κ ι : Instance) (g : Premise) → reopened (after κ ι) g ≡ reopened κ (premise_under ι g)
reopened-after κ ι g = rw (instance_of-after κ ι g.environment, instance_of-after κ ι g.predicate) refl

pub Serves-after : (at : Sequent) (R : Premise → Type 0) (κ ι : Instance) (s t : Sequent) (p : Premise) → IsInstance ι s t → Serves at R κ t p → Serves at R (after κ ι) s p
Serves-after at R κ ι s t p is sv =
    record {
      environment = side s.environment t.environment p.environment is.environment sv.environment;
      predicate = side s.predicate t.predicate p.predicate is.predicate sv.predicate;
      constraints = λ x i. subst (Grants at) (sym (constraint_under-after κ ι x)) (grants (constraint_under ι x) (is.constraints x i));
      hidden = λ h i. subst (Hides at) (sym (hidden_under-after κ ι h)) (hides (hidden_under ι h) (is.hidden h i));
      open_goals = λ g i. subst R (sym (reopened-after κ ι g)) (sv.open_goals (premise_under ι g) (is.open_goals g i));
    }
  where
    side : (x y z : Tree) → AreOneBy t.constraints (instance_of ι x) y → AreOneBy at.constraints (instance_of κ y) z → AreOneBy at.constraints (instance_of (after κ ι) x) z
    side x y z a b =
        subst (λ v. AreOneBy at.constraints v z) (sym (instance_of-after κ ι x))
        (one_trans at.constraints (instance_of κ (instance_of ι x)) (instance_of κ y) z (one_under κ t.constraints at (instance_of ι x) y sv.constraints a) b)

    grants : (x : Constraint) → Grants t x → Grants at (constraint_under κ x)
    grants x (inl h) = inl (IsTrivial-under κ x h)
    grants x (inr h) = sv.constraints x h

    hides : (h : Hidden) → Hides t h → Hides at (hidden_under κ h)
    hides h (inl e) = inl (one_under κ t.constraints at h.key h.hidden_type sv.constraints e)
    hides h (inr x) =
        Hides-one at (hidden_under κ h) (hidden_under κ x.0)
        (let y = x.2 in record { key = one_under κ t.constraints at h.key _ sv.constraints y.key; hidden_type = one_under κ t.constraints at h.hidden_type _ sv.constraints y.hidden_type })
        (sv.hidden x.0 x.1)

-- an assumption is, or is an instance of, one of a list, which is behind a coinductive step where it is
pub record IsCovered (B : List Assumed) (a : Assumed) : Type 0 where
  pub number : ℕ
  pub assumed : Assumed
  pub found : slice_get B number ≡ Some assumed
  pub behind : IsTrue a.is_behind → IsTrue assumed.is_behind
  pub same : (assumed.sequent ≡ a.sequent) ⊎ ((ι : Instance) × IsInstance ι assumed.sequent a.sequent)

abbrev pub Covers : List Assumed → List Assumed → Type 0
Covers A B = (j : ℕ) (a : Assumed) → slice_get A j ≡ Some a → IsCovered B a

pub covers_none : (B : List Assumed) → Covers [] B
covers_none B j a e = absurd (none_found j a e)

pub covers_itself : (A : List Assumed) → Covers A A
covers_itself A j a e = record { number = j; assumed = a; found = e; behind = λ b. b; same = inl refl }

pub covers_later : (b : Assumed) (A B : List Assumed) → Covers A B → Covers A (b ∷ B)
covers_later b A B f j a e = let c = f j a e in record { number = suc c.number; assumed = c.assumed; found = c.found; behind = c.behind; same = c.same }

pub first_same : (a b : Assumed) (A : List Assumed) → slice_get (a ∷ A) 0 ≡ Some b → a ≡ b
first_same a b A e = let z : Some a ≡ Some b = e in cc z

pub covers_first : (a b : Assumed) (A B : List Assumed) → (IsTrue a.is_behind → IsTrue b.is_behind) → (b.sequent ≡ a.sequent) ⊎ ((ι : Instance) × IsInstance ι b.sequent a.sequent) → Covers A B → Covers (a ∷ A) (b ∷ B)
covers_first a b A B g same f zero x e =
    subst (IsCovered (b ∷ B)) (first_same a x A e) (record { number = 0; assumed = b; found = refl; behind = g; same = same })
covers_first a b A B g same f (suc j) x e = covers_later b A B f j x e

pub covers_more : (a : Assumed) (A B : List Assumed) → Covers A B → Covers (a ∷ A) (a ∷ B)
covers_more a A B f = covers_first a a A B (λ b. b) (inl refl) f

-- along a step
pub get-passed : (B : List Assumed) (j : ℕ) (b : Assumed) → slice_get B j ≡ Some b → slice_get (map put_behind B) j ≡ Some (put_behind b)
get-passed [] j b e = absurd (none_found j b e)
get-passed (x ∷ B) zero b e = ap (λ y. Some (put_behind y)) (first_same x b B e)
get-passed (x ∷ B) (suc j) b e = get-passed B j b e

pub covers_passed : (k : PathKind) (A B : List Assumed) → Covers A B → Covers (passed k A) (passed k B)
covers_passed coinductive A B f j a e =
    let (b, found, same) = get-put_behind A j a e in
    let c = f j b found in
    subst (IsCovered (map put_behind B)) same
    (record { number = c.number; assumed = put_behind c.assumed; found = get-passed B c.number c.assumed c.found; behind = λ t. refl; same = c.same })
covers_passed unknown A B f j a e = f j a e
covers_passed inductive A B f j a e = f j a e
covers_passed forced_ambiguity A B f j a e = f j a e

module _ {m : Meaning} {mode : Mode} where
  mutual
    pub derives_more : {A B : List Assumed} {s : Sequent} → Covers A B → Derives m mode A s → Derives m mode B s
    derives_more f (by_rule ps terms r all) = by_rule ps terms r (derives_all_more f all)
    derives_more {A = A} {B = B} {s = s} f (by_cycle d) = by_cycle (derives_more (covers_more (record { sequent = s; is_behind = false }) A B f) d)
    derives_more f (by_ranked nodes first r i) = by_ranked nodes first r i

    pub derives_all_more : {A B : List Assumed} {s : Sequent} {all ps : List Premise} → Covers A B → DerivesAll m mode A s all ps → DerivesAll m mode B s all ps
    derives_all_more f all_derived = all_derived
    derives_all_more {A = A} {B = B} {s = s} f (by_derivation {p = p} ι d sv rest) =
        by_derivation ι (derives_more (covers_passed (proof_kind (goal_kind m s.predicate) p.source) A B f) d) sv (derives_all_more f rest)
    derives_all_more {A = A} {B = B} {s = s} {all = all} f (by_assumption {p = p} ι i a found behind sv rest) =
        let c = covers_passed (proof_kind (goal_kind m s.predicate) p.source) A B f i a found in
        ⊎_elim
        (λ e. by_assumption ι c.number c.assumed c.found (c.behind behind) (subst (λ x. Serves s (Among all) ι x p) (sym e) sv) (derives_all_more f rest))
        (λ y. by_assumption (after ι y.0) c.number c.assumed c.found (c.behind behind) (Serves-after s (Among all) ι y.0 c.assumed.sequent a.sequent p y.1 sv) (derives_all_more f rest))
        c.same

-- an instance of what is derived
pub derived_instance : (m : Meaning) (mode : Mode) (A : List Assumed) (κ : Instance) (t u : Sequent) → IsDerivedFrom m mode A t → IsInstance κ t u → IsDerivedFrom m mode A u
derived_instance m mode A κ t u x is =
    record { sequent = x.sequent; reached = x.reached; instance = after κ x.instance; is_instance = IsInstance-after κ x.instance x.sequent t u x.is_instance is }

-- what is derived from assumptions is derived from more
pub derived_more : (m : Meaning) (mode : Mode) (A B : List Assumed) (t : Sequent) → Covers A B → IsDerivedFrom m mode A t → IsDerivedFrom m mode B t
derived_more m mode A B t f x = ⊎_elim
    (λ d. record { sequent = x.sequent; reached = inl (derives_more f d); instance = x.instance; is_instance = x.is_instance })
    (λ u. usable u)
    x.reached
  where
    usable : IsUsable A x.sequent → IsDerivedFrom m mode B t
    usable u =
        let c = f u.number u.assumed u.found in
        ⊎_elim
        (λ e. record { sequent = x.sequent; reached = inr (record { number = c.number; assumed = c.assumed; found = c.found; behind = c.behind u.behind; same = e ∙ u.same }); instance = x.instance; is_instance = x.is_instance })
        (λ y. let is : IsInstance y.0 c.assumed.sequent x.sequent = subst (IsInstance y.0 c.assumed.sequent) u.same y.1 in
        record {
          sequent = c.assumed.sequent;
          reached = inr (record { number = c.number; assumed = c.assumed; found = c.found; behind = c.behind u.behind; same = refl });
          instance = after x.instance y.0;
          is_instance = IsInstance-after x.instance y.0 c.assumed.sequent x.sequent t is x.is_instance;
        })
        c.same

-- a head is closed: what is derived from itself, as a goal in its own derivation may assume it, is derived from the other
-- assumptions
pub close_head : (m : Meaning) (mode : Mode) (A : List Assumed) (t : Sequent) → IsDerivedFrom m mode (record { sequent = t; is_behind = false } ∷ A) t → IsDerivedFrom m mode A t
close_head m mode A t x = ⊎_elim
    (λ d. record {
      sequent = x.sequent;
      reached = inl (by_cycle (derives_more (covers_first (record { sequent = t; is_behind = false }) (record { sequent = x.sequent; is_behind = false }) A A (λ b. b) (inr (x.instance, x.is_instance)) (covers_itself A)) d));
      instance = x.instance;
      is_instance = x.is_instance;
    })
    (λ u. record { sequent = x.sequent; reached = inr (older u.number u.assumed u.found u.behind u.same); instance = x.instance; is_instance = x.is_instance })
    x.reached
  where
    older : (j : ℕ) (a : Assumed) → slice_get (record { sequent = t; is_behind = false } ∷ A) j ≡ Some a → IsTrue a.is_behind → a.sequent ≡ x.sequent → IsUsable A x.sequent
    older zero a e b same = absurd (let q : false ≡ a.is_behind = ap (λ y. y.is_behind) (first_same (record { sequent = t; is_behind = false }) a A e) in let h : IsTrue false = subst IsTrue (sym q) b in cc h)
    older (suc j) a e b same = record { number = j; assumed = a; found = e; behind = b; same = same }
