-- What is proved is proved of each instance.
use Rattle.std.specs.Prelude.{◌≡◌}
use Rattle.std.proofs.Common.{inl, inr, refl, sym, ap, subst}
use Rattle.nts_model.specs.declared.labels.Relation.{Relation}
use Rattle.nts_model.specs.declared.labels.Relation.TheVariants as relation
use Rattle.nts_model.specs.Terms.Trees.{Tree}
use Rattle.nts_model.specs.Terms.Substitutions.{Instance, instance_of}
use Rattle.nts_model.specs.Derivations.Related.{Constraint}
use Rattle.nts_model.specs.Lists.{Among}
use Rattle.nts_model.specs.Derivations.Sequents.{Premise, Hidden, Sequent, constraint_under, hidden_under, premise_under, AreOneBy, HasOneSide, IsTrivial, Grants, AreOneHidden, Hides, IsInstance}
use Rattle.nts_model.proofs.Terms.Composing.{after, instance_of-after}
use Rattle.nts_model.proofs.Terms.Identified.{one_turned, one_trans, one_under}

pub constraint_under-after : (κ ι : Instance) (x : Constraint) → constraint_under (after κ ι) x ≡ constraint_under κ (constraint_under ι x)
constraint_under-after κ ι x = rw (instance_of-after κ ι x.left, instance_of-after κ ι x.right) refl

pub hidden_under-after : (κ ι : Instance) (h : Hidden) → hidden_under (after κ ι) h ≡ hidden_under κ (hidden_under ι h)
hidden_under-after κ ι h = rw (instance_of-after κ ι h.key, instance_of-after κ ι h.hidden_type) refl

pub premise_under-after : (κ ι : Instance) (g : Premise) → premise_under (after κ ι) g ≡ premise_under κ (premise_under ι g)
premise_under-after κ ι g = rw (instance_of-after κ ι g.environment, instance_of-after κ ι g.predicate) refl

pub HasOneSide-under : (κ : Instance) (r : Relation) (x : Constraint) → HasOneSide r x → HasOneSide r (constraint_under κ x)
HasOneSide-under κ relation.Equal x h = ap (instance_of κ) h
HasOneSide-under κ relation.RegionOutlives x h = ap (instance_of κ) h
HasOneSide-under κ relation.TypeOutlives x h = h

pub IsTrivial-under : (κ : Instance) (x : Constraint) → IsTrivial x → IsTrivial (constraint_under κ x)
IsTrivial-under κ x h = HasOneSide-under κ x.relation x h

-- what a sequent grants, each instance of it grants under the instance
pub Grants-under : (κ : Instance) (t u : Sequent) (x : Constraint) → IsInstance κ t u → Grants t x → Grants u (constraint_under κ x)
Grants-under κ t u x is (inl h) = inl (IsTrivial-under κ x h)
Grants-under κ t u x is (inr h) = is.constraints x h

-- .. and what is one with a hidden type that it hides
pub Hides-one : (u : Sequent) (h k : Hidden) → AreOneHidden u.constraints h k → Hides u k → Hides u h
Hides-one u h k e (inl q) = inl (one_trans u.constraints h.key k.key h.hidden_type e.key (one_trans u.constraints k.key k.hidden_type h.hidden_type q (one_turned u.constraints h.hidden_type k.hidden_type e.hidden_type)))
Hides-one u h k e (inr x) =
    (let y = x.2 in inr (x.0, x.1, record { key = one_trans u.constraints h.key k.key _ e.key y.key; hidden_type = one_trans u.constraints h.hidden_type k.hidden_type _ e.hidden_type y.hidden_type }))

pub Hides-under : (κ : Instance) (t u : Sequent) (h : Hidden) → IsInstance κ t u → Hides t h → Hides u (hidden_under κ h)
Hides-under κ t u h is (inl e) = inl (one_under κ t.constraints u h.key h.hidden_type is.constraints e)
Hides-under κ t u h is (inr x) =
    Hides-one u (hidden_under κ h) (hidden_under κ x.0)
    (let y = x.2 in record { key = one_under κ t.constraints u h.key _ is.constraints y.key; hidden_type = one_under κ t.constraints u h.hidden_type _ is.constraints y.hidden_type })
    (is.hidden x.0 x.1)

-- an instance of an instance
pub IsInstance-after : (κ ι : Instance) (s t u : Sequent) → IsInstance ι s t → IsInstance κ t u → IsInstance (after κ ι) s u
IsInstance-after κ ι s t u a b =
    record {
      environment = side s.environment t.environment u.environment a.environment b.environment;
      predicate = side s.predicate t.predicate u.predicate a.predicate b.predicate;
      constraints = λ x i. subst (Grants u) (sym (constraint_under-after κ ι x)) (Grants-under κ t u (constraint_under ι x) b (a.constraints x i));
      hidden = λ h i. subst (Hides u) (sym (hidden_under-after κ ι h)) (Hides-under κ t u (hidden_under ι h) b (a.hidden h i));
      open_goals = λ g i. subst (Among u.open_goals) (sym (premise_under-after κ ι g)) (b.open_goals (premise_under ι g) (a.open_goals g i));
    }
  where
    side : (x y z : Tree) → AreOneBy t.constraints (instance_of ι x) y → AreOneBy u.constraints (instance_of κ y) z → AreOneBy u.constraints (instance_of (after κ ι) x) z
    side x y z p q =
        subst (λ v. AreOneBy u.constraints v z) (sym (instance_of-after κ ι x))
        (one_trans u.constraints (instance_of κ (instance_of ι x)) (instance_of κ y) z (one_under κ t.constraints u (instance_of ι x) y b.constraints p) q)
