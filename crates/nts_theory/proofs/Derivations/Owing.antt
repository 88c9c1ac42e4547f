-- What follows from finitely many premises, of which each is served from assumptions.
use Rattle.std.proofs.Common.{◌⊎◌, inl, inr, ⊎_elim, List, [], ◌∷◌, refl, sym, subst}
use Rattle.nts_model.specs.Terms.Trees.{Tree}
use Rattle.nts_model.specs.Terms.Substitutions.{Instance, instance_of}
use Rattle.nts_model.specs.Derivations.Related.{Constraint}
use Rattle.nts_model.specs.Lists.{Among}
use Rattle.nts_model.specs.Derivations.Sequents.{Premise, Hidden, Sequent, AreOneBy, constraint_under, IsTrivial}
use Rattle.nts_model.specs.Derivations.Rules.{Meaning, Mode, goal_kind, proof_kind}
use Rattle.nts_model.specs.Derivations.Proofs.{Serves, reopened, Assumed, passed, Derives, DerivesAll, all_derived, by_derivation, by_assumption}
use Rattle.nts_model.specs.Searching.Stacks.{IsUsable}
use Rattle.nts_theory.proofs.Derivations.Flattening.{joined, among_left, among_right, among_joined}
use Rattle.nts_theory.proofs.Derivations.Served.{sequent_of, IsServed, Grows, Owes}
use Rattle.nts_theory.proofs.Derivations.Assuming.{covers_none, derives_more}

-- premises of a goal in an environment, from some constraints and assumptions
module _ (m : Meaning) (mode : Mode) (e : Tree) (cs : List Constraint) where
  -- an instance of what is reached from the assumptions B serves the premise, from no more than these constraints; R are the premises
  -- that its open goals may be
  pub record IsServedFrom (B : List Assumed) (R : Premise → Type 0) (p : Premise) : Type 0 where
    pub sequent : Sequent
    pub reached : Derives m mode B sequent ⊎ IsUsable B sequent
    pub instance : Instance
    pub environment : AreOneBy cs (instance_of instance sequent.environment) p.environment
    pub predicate : AreOneBy cs (instance_of instance sequent.predicate) p.predicate
    pub constraints : (x : Constraint) → Among sequent.constraints x → IsTrivial (constraint_under instance x) ⊎ Among cs (constraint_under instance x)
    pub hidden : (h : Hidden) → Among sequent.hidden h → AreOneBy cs (instance_of instance h.key) (instance_of instance h.hidden_type)
    pub open_goals : (g : Premise) → Among sequent.open_goals g → R (reopened instance g)

  pub served_more : (B : List Assumed) (R Q : Premise → Type 0) (p : Premise) → ((g : Premise) → R g → Q g) → IsServedFrom B R p → IsServedFrom B Q p
  served_more B R Q p f x =
      record {
        sequent = x.sequent;
        reached = x.reached;
        instance = x.instance;
        environment = x.environment;
        predicate = x.predicate;
        constraints = x.constraints;
        hidden = x.hidden;
        open_goals = λ g i. f (reopened x.instance g) (x.open_goals g i);
      }

  -- a goal with goals that are left open
  abbrev pub sequent_open : Tree → List Premise → Sequent
  sequent_open p os = record (sequent_of m mode e cs p) { open_goals = os }

  serves_from : (p : Tree) (os : List Premise) (R : Premise → Type 0) (B : List Assumed) (q : Premise) (x : IsServedFrom B R q) → Serves (sequent_open p os) R x.instance x.sequent q
  serves_from p os R B q x =
      record {
        environment = x.environment;
        predicate = x.predicate;
        constraints = x.constraints;
        hidden = λ h i. inl (x.hidden h i);
        open_goals = x.open_goals;
      }

  -- what is served without assumptions
  pub served_from : (B : List Assumed) (R : Premise → Type 0) (p : Premise) → IsServed m mode e cs p → IsServedFrom B R p
  served_from B R p x =
      record {
        sequent = x.sequent;
        reached = inl (derives_more (covers_none B) x.derivation);
        instance = x.instance;
        environment = x.environment;
        predicate = x.predicate;
        constraints = x.constraints;
        hidden = x.hidden;
        open_goals = λ g i. absurd (x.open_goals g i);
      }

  -- the assumptions at a premise of the goal p
  abbrev pub at_premise : List Assumed → Tree → Premise → List Assumed
  at_premise A p q = passed (proof_kind (goal_kind m p) q.source) A

  pub derive_all_open : (A : List Assumed) (p : Tree) (os all qs : List Premise) → ((q : Premise) → Among qs q → IsServedFrom (at_premise A p q) (Among all) q) → DerivesAll m mode A (sequent_open p os) all qs
  derive_all_open A p os all [] h = all_derived
  derive_all_open A p os all (q ∷ qs) h =
      let x : IsServedFrom (at_premise A p q) (Among all) q = h q (inl refl) in
      let sv = serves_from p os (Among all) (at_premise A p q) q x in
      let rest = derive_all_open A p os all qs (λ r i. h r (inr i)) in
      ⊎_elim
      (λ d. by_derivation x.instance d sv rest)
      (λ u. by_assumption x.instance u.number u.assumed u.found u.behind (subst (λ z. Serves (sequent_open p os) (Among all) x.instance z q) (sym u.same) sv) rest)
      x.reached

  pub derive_all_from : (A : List Assumed) (p : Tree) (all qs : List Premise) → ((q : Premise) → Among qs q → IsServedFrom (at_premise A p q) (Among all) q) → DerivesAll m mode A (sequent_of m mode e cs p) all qs
  derive_all_from A p all qs h = derive_all_open A p [] all qs h

  -- what follows from finitely many premises that are served, where B are the assumptions at a premise, and from open goals of the goal itself
  module _ (B : Premise → List Assumed) (Own : Premise → Type 0) where
    pub record OwesFrom (X : (Premise → Type 0) → Type 0) : Type 0 where
      pub premises : List Premise
      pub served : (q : Premise) → Among premises q → IsServedFrom (B q) (Among premises) q
      pub holds : X (λ q. Among premises q ⊎ Own q)

    pub owes_from : (X : (Premise → Type 0) → Type 0) → Grows m mode e cs X → Owes m mode e cs X → OwesFrom X
    owes_from X g o = record { premises = o.premises; served = λ q i. served_from (B q) (Among o.premises) q (o.served q i); holds = g (Among o.premises) (λ q. Among o.premises q ⊎ Own q) (λ q i. inl i) o.holds }

    pub from_none : (X : (Premise → Type 0) → Type 0) → ((P : Premise → Type 0) → X P) → OwesFrom X
    from_none X x = record { premises = []; served = λ q i. absurd i; holds = x (λ q. Among [] q ⊎ Own q) }

    pub from_then : (X Y : (Premise → Type 0) → Type 0) → ((P : Premise → Type 0) → X P → Y P) → OwesFrom X → OwesFrom Y
    from_then X Y f o = record { premises = o.premises; served = o.served; holds = f (λ q. Among o.premises q ⊎ Own q) o.holds }

    -- premises of two lists serve together
    pub served_joined : (ps qs : List Premise) → ((q : Premise) → Among ps q → IsServedFrom (B q) (Among ps) q) → ((q : Premise) → Among qs q → IsServedFrom (B q) (Among qs) q)
        → (q : Premise) → Among (joined ps qs) q → IsServedFrom (B q) (Among (joined ps qs)) q
    served_joined ps qs f g q i = ⊎_elim
        (λ j. served_more (B q) (Among ps) (Among (joined ps qs)) q (λ r k. among_left ps qs r k) (f q j))
        (λ j. served_more (B q) (Among qs) (Among (joined ps qs)) q (λ r k. among_right ps qs r k) (g q j))
        (among_joined ps qs q i)

    pub from_both : (X Y : (Premise → Type 0) → Type 0) → Grows m mode e cs X → Grows m mode e cs Y → OwesFrom X → OwesFrom Y → OwesFrom (λ P. X P × Y P)
    from_both X Y f g a b =
        record {
          premises = joined a.premises b.premises;
          served = served_joined a.premises b.premises a.served b.served;
          holds = (
            f (λ q. Among a.premises q ⊎ Own q) (λ q. Among (joined a.premises b.premises) q ⊎ Own q) (λ q i. ⊎_elim (λ j. inl (among_left a.premises b.premises q j)) (λ j. inr j) i) a.holds,
            g (λ q. Among b.premises q ⊎ Own q) (λ q. Among (joined a.premises b.premises) q ⊎ Own q) (λ q i. ⊎_elim (λ j. inl (among_right a.premises b.premises q j)) (λ j. inr j) i) b.holds,
          );
        }

    -- a premise that is served, together with those that its open goals are
    pub record RestsOnAll (gs : List Premise) : Type 0 where
      pub premises : List Premise
      pub served : (q : Premise) → Among premises q → IsServedFrom (B q) (Among premises) q
      pub has : (g : Premise) → Among gs g → Among premises g

    pub rests_none : RestsOnAll []
    rests_none = record { premises = []; served = λ q i. absurd i; has = λ g i. absurd i }

    pub rests_more : (g : Premise) (gs : List Premise) → RestsOnAll (g ∷ []) → RestsOnAll gs → RestsOnAll (g ∷ gs)
    rests_more g gs a b =
        record {
          premises = joined a.premises b.premises;
          served = served_joined a.premises b.premises a.served b.served;
          has = λ r i. ⊎_elim (λ s. among_left a.premises b.premises r (a.has r (inl s))) (λ j. among_right a.premises b.premises r (b.has r j)) i;
        }

    pub rests_open : (q : Premise) (gs : List Premise) → IsServedFrom (B q) (Among gs) q → RestsOnAll gs → RestsOnAll (q ∷ [])
    rests_open q gs x o =
        record {
          premises = q ∷ o.premises;
          served = λ r i. ⊎_elim
              (λ s. subst (λ z. IsServedFrom (B z) (Among (q ∷ o.premises)) z) (sym s) (served_more (B q) (Among gs) (Among (q ∷ o.premises)) q (λ g j. inr (o.has g j)) x))
              (λ j. served_more (B r) (Among o.premises) (Among (q ∷ o.premises)) r (λ g k. inr k) (o.served r j)) i;
          has = λ r i. ⊎_elim (λ s. inl s) (λ j. absurd j) i;
        }

    pub from_rests : (q : Premise) → RestsOnAll (q ∷ []) → OwesFrom (λ P. P q)
    from_rests q o = record { premises = o.premises; served = o.served; holds = inl (o.has q (inl refl)) }

    pub from_one : (q : Premise) → IsServedFrom (B q) (λ g. ⊥) q → OwesFrom (λ P. P q)
    from_one q x = from_rests q (rests_open q [] (served_more (B q) (λ g. ⊥) (Among []) q (λ g i. i) x) rests_none)

    -- an open goal of the goal itself
    pub from_own : (q : Premise) → Own q → OwesFrom (λ P. P q)
    from_own q x = record { premises = []; served = λ r i. absurd i; holds = inr x }

    -- for each element of a list
    pub from_all : {E : Type 0} (X : E → (Premise → Type 0) → Type 0) → ((a : E) → Grows m mode e cs (X a)) → (xs : List E) → ((a : E) → Among xs a → OwesFrom (X a)) → OwesFrom (λ P. (a : E) → Among xs a → X a P)
    from_all X g [] h = from_none (λ P. (a : _) → Among [] a → X a P) (λ P a i. absurd i)
    from_all X g (b ∷ xs) h =
        let rest = from_all X g xs (λ a i. h a (inr i)) in
        from_then (λ P. X b P × ((a : _) → Among xs a → X a P)) (λ P. (a : _) → Among (b ∷ xs) a → X a P)
        (λ P x a i. ⊎_elim (λ s. subst (λ y. X y P) (sym s) x.0) (x.1 a) i)
        (from_both (X b) (λ P. (a : _) → Among xs a → X a P) (g b) (λ P Q f x a i. g a P Q f (x a i)) (h b (inl refl)) rest)
