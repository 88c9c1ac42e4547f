-- A goal that is proved under a table is proved under each later one, from constraints that the table holds.
use Rattle.std.proofs.Common.{◌≡◌, ◌⊎◌, inl, inr, ⊎_elim, suc, List, [], ◌∷◌, refl, sym, ap, ◌∙◌, arith, subst}
use Rattle.std.specs.Prelude.{Contains}
use Rattle.nts_model.specs.declared.labels.Relation.{Relation}
use Rattle.nts_model.specs.declared.labels.Relation.TheVariants as relation
use Rattle.nts_model.specs.Terms.Trees.{Tree}
use Rattle.nts_model.specs.Tables.Contents.{Content, Recorded}
use Rattle.nts_model.specs.Tables.Resolving.{IsSound}
use Rattle.nts_model.specs.Tables.Holding.{HasSides, HoldsConstraint, Continues}
use Rattle.nts_model.specs.Derivations.Related.{Constraint}
use Rattle.nts_model.specs.Lists.{Among}
use Rattle.nts_model.specs.Derivations.Sequents.{constraint_under, IsInstance}
use Rattle.nts_model.specs.Derivations.Proving.{HoldsTerms, IsTermOf, AreConstraintsOf, read_constraint, turned, in_either_order, read_constraints, recorded_as, sequent_at}
use Rattle.nts_model.proofs.Tables.Resolved.{deeply_resolved-deeply_resolved}
use Rattle.nts_model.proofs.Terms.Identified.{one_itself}
use Rattle.nts_model.proofs.Tables.TableInstances.{reading_of, instance_of-later}
use Rattle.nts_model.proofs.Lists.{contains_none, first_or_later}

-- elements of a list
pub contains_first : {X : Type 0} (x : X) (xs : List X) → Contains (x ∷ xs) x
contains_first x xs = (0, omega arith, refl)

pub contains_later : {X : Type 0} (y : X) (xs : List X) (x : X) → Contains xs x → Contains (y ∷ xs) x
contains_later y xs x (k, l, e) = (suc k, omega (arith, l), e)

-- where a read constraint comes from: a recorded one, or an equality turned
pub record IsReadFrom (c : Content) (x : Constraint) (r : Recorded) : Type 0 where
  pub same : (x ≡ read_constraint c r) ⊎ ((r.relation ≡ relation.Equal) × (x ≡ turned (read_constraint c r)))

either_order : (r : Relation) (y : Constraint) (ys : List Constraint) (x : Constraint) → Among (in_either_order r y ys) x → ((x ≡ y) ⊎ ((r ≡ relation.Equal) × (x ≡ turned y))) ⊎ Among ys x
either_order relation.Equal y ys x (inl e) = inl (inl e)
either_order relation.Equal y ys x (inr (inl e)) = inl (inr (refl, e))
either_order relation.Equal y ys x (inr (inr h)) = inr h
either_order relation.RegionOutlives y ys x (inl e) = inl (inl e)
either_order relation.RegionOutlives y ys x (inr h) = inr h
either_order relation.TypeOutlives y ys x (inl e) = inl (inl e)
either_order relation.TypeOutlives y ys x (inr h) = inr h

in_order : (r : Relation) (y : Constraint) (ys : List Constraint) → Among (in_either_order r y ys) y
in_order relation.Equal y ys = inl refl
in_order relation.RegionOutlives y ys = inl refl
in_order relation.TypeOutlives y ys = inl refl

in_other_order : (r : Relation) (y : Constraint) (ys : List Constraint) → r ≡ relation.Equal → Among (in_either_order r y ys) (turned y)
in_other_order relation.Equal y ys e = inr (inl refl)
in_other_order relation.RegionOutlives y ys e = cc e
in_other_order relation.TypeOutlives y ys e = cc e

after_order : (r : Relation) (y : Constraint) (ys : List Constraint) (x : Constraint) → Among ys x → Among (in_either_order r y ys) x
after_order relation.Equal y ys x h = inr (inr h)
after_order relation.RegionOutlives y ys x h = inr h
after_order relation.TypeOutlives y ys x h = inr h

pub read_from : (c : Content) (rs : List Recorded) (x : Constraint) → Among (read_constraints c rs) x → (r : Recorded) × Contains rs r × IsReadFrom c x r
read_from c [] x h = absurd h
read_from c (r ∷ rs) x h = ⊎_elim
    (λ e. (r, contains_first r rs, record { same = e }))
    (λ i. let (q, found, from) = read_from c rs x i in (q, contains_later r rs q found, from))
    (either_order r.relation (read_constraint c r) (read_constraints c rs) x h)

pub read_recorded : (c : Content) (rs : List Recorded) (r : Recorded) → Contains rs r → Among (read_constraints c rs) (read_constraint c r)
read_recorded c [] r h = absurd (contains_none r h)
read_recorded c (q ∷ rs) r h = ⊎_elim
    (λ e. subst (λ x. Among (read_constraints c (q ∷ rs)) (read_constraint c x)) e (in_order q.relation (read_constraint c q) (read_constraints c rs)))
    (λ i. after_order q.relation (read_constraint c q) (read_constraints c rs) (read_constraint c r) (read_recorded c rs r i))
    (first_or_later q rs r h)

pub read_turned : (c : Content) (rs : List Recorded) (r : Recorded) → Contains rs r → r.relation ≡ relation.Equal → Among (read_constraints c rs) (turned (read_constraint c r))
read_turned c [] r h e = absurd (contains_none r h)
read_turned c (q ∷ rs) r h e = ⊎_elim
    (λ o. subst (λ x. Among (read_constraints c (q ∷ rs)) (turned (read_constraint c x))) o
    (in_other_order q.relation (read_constraint c q) (read_constraints c rs) (ap (λ x. x.relation) o ∙ e)))
    (λ i. after_order q.relation (read_constraint c q) (read_constraints c rs) (turned (read_constraint c r)) (read_turned c rs r i e))
    (first_or_later q rs r h)

-- each hypothesis of a goal under a table is a constraint that the table holds
recorded_sides : (c : Content) (o : Relation) (x : Constraint) (r : Recorded) → IsSound c → r.relation ≡ o → (x ≡ read_constraint c r) ⊎ ((r.relation ≡ relation.Equal) × (x ≡ turned (read_constraint c r))) → HasSides c o (recorded_as x) r
recorded_sides c relation.Equal x r s o (inl e) =
    rw e (inl (deeply_resolved-deeply_resolved c r.left s, deeply_resolved-deeply_resolved c r.right s))
recorded_sides c relation.Equal x r s o (inr (q, e)) =
    rw e (inr (deeply_resolved-deeply_resolved c r.right s, deeply_resolved-deeply_resolved c r.left s))
recorded_sides c relation.RegionOutlives x r s o (inl e) = rw e (deeply_resolved-deeply_resolved c r.left s, deeply_resolved-deeply_resolved c r.right s)
recorded_sides c relation.RegionOutlives x r s o (inr (q, e)) = absurd (let z : relation.Equal ≡ relation.RegionOutlives = sym q ∙ o in cc z)
recorded_sides c relation.TypeOutlives x r s o (inl e) = rw e (deeply_resolved-deeply_resolved c r.left s, deeply_resolved-deeply_resolved c r.right s)
recorded_sides c relation.TypeOutlives x r s o (inr (q, e)) = absurd (let z : relation.Equal ≡ relation.TypeOutlives = sym q ∙ o in cc z)

same_relation : (c : Content) (x : Constraint) (r : Recorded) → (x ≡ read_constraint c r) ⊎ ((r.relation ≡ relation.Equal) × (x ≡ turned (read_constraint c r))) → r.relation ≡ x.relation
same_relation c x r (inl e) = sym (ap (λ y. y.relation) e)
same_relation c x r (inr (q, e)) = sym (ap (λ y. y.relation) e)

pub hypotheses_held : (c : Content) (x : Constraint) → IsSound c → Among (read_constraints c c.constraints) x → HoldsConstraint c (recorded_as x)
hypotheses_held c x s h =
    let (r, found, from) = read_from c c.constraints x h in
    let same : r.relation ≡ x.relation = same_relation c x r from.same in
    inr (record { constraint = r; found = found; same_relation = same; same_sides = recorded_sides c x.relation x r s same from.same })

-- read again under a later table
read_later : (c d : Content) (s : IsSound c) (q : IsSound d) (h : HoldsTerms c) (i : HoldsTerms d) (r : Recorded) → Continues c d → IsTermOf c r.left → IsTermOf c r.right
    → constraint_under (reading_of d q i) (read_constraint c r) ≡ read_constraint d r
read_later c d s q h i r g a b = rw (instance_of-later c d s q h i r.left g a.knows a.formed, instance_of-later c d s q h i r.right g b.knows b.formed) refl

turned_later : (c d : Content) (s : IsSound c) (q : IsSound d) (h : HoldsTerms c) (i : HoldsTerms d) (r : Recorded) → Continues c d → IsTermOf c r.left → IsTermOf c r.right
    → constraint_under (reading_of d q i) (turned (read_constraint c r)) ≡ turned (read_constraint d r)
turned_later c d s q h i r g a b = ap turned (read_later c d s q h i r g a b)

hypothesis_later : (c d : Content) (s : IsSound c) (q : IsSound d) (h : HoldsTerms c) (i : HoldsTerms d) → Continues c d → AreConstraintsOf c
    → (x : Constraint) → Among (read_constraints c c.constraints) x → Among (read_constraints d d.constraints) (constraint_under (reading_of d q i) x)
hypothesis_later c d s q h i g k x here =
    let (r, found, from) = read_from c c.constraints x here in
    by_case r found from.same
  where
    by_case : (r : Recorded) → Contains c.constraints r → (x ≡ read_constraint c r) ⊎ ((r.relation ≡ relation.Equal) × (x ≡ turned (read_constraint c r)))
        → Among (read_constraints d d.constraints) (constraint_under (reading_of d q i) x)
    by_case r found (inl e) =
        subst (Among (read_constraints d d.constraints)) (sym (ap (constraint_under (reading_of d q i)) e ∙ read_later c d s q h i r g (k.left r found) (k.right r found)))
        (read_recorded d d.constraints r (g.constraints r found))
    by_case r found (inr (o, e)) =
        subst (Among (read_constraints d d.constraints)) (sym (ap (constraint_under (reading_of d q i)) e ∙ turned_later c d s q h i r g (k.left r found) (k.right r found)))
        (read_turned d d.constraints r (g.constraints r found) o)

-- the later sequent is an instance of the earlier
pub sequent_later : (c d : Content) (s : IsSound c) (q : IsSound d) (h : HoldsTerms c) (i : HoldsTerms d) (e p : Tree) → Continues c d → AreConstraintsOf c → IsTermOf c e → IsTermOf c p
    → IsInstance (reading_of d q i) (sequent_at c e p) (sequent_at d e p)
sequent_later c d s q h i e p g k a b =
    record {
      environment = one_itself _ _ _ (instance_of-later c d s q h i e g a.knows a.formed);
      predicate = one_itself _ _ _ (instance_of-later c d s q h i p g b.knows b.formed);
      constraints = λ x here. inr (hypothesis_later c d s q h i g k x here);
      hidden = λ x here. absurd here;
      open_goals = λ x here. absurd here;
    }
