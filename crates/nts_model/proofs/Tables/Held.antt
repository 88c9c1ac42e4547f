-- What a table holds it holds after each change.
use Rattle.std.proofs.Common.{◌≡◌, ◌≢◌, inl, inr, ⊎_elim, ℕ, zero, suc, ◌<◌, ◌≤◌, List, [], ◌∷◌, length, length-append, get_or, Option, Some, None, refl, sym, ap, ◌∙◌, arith}
use Rattle.std.specs.Prelude.{◌==◌, if◌then◌else◌, Contains}
use Rattle.std.proofs.lemmas.List.Elements.{Contains-append_left, Contains-push}
use Rattle.nts_model.specs.declared.labels.Relation.{Relation}
use Rattle.nts_model.specs.declared.labels.Relation.TheVariants as relation
use Rattle.nts_model.specs.declared.labels.VariableKind.{VariableKind}
use Rattle.nts_model.specs.declared.labels.VariableKind.TheVariants as kind
use Rattle.nts_model.specs.declared.labels.Leaf.TheVariants as leaf
use Rattle.nts_model.specs.declared.labels.Label.{Label}
use Rattle.nts_model.specs.declared.labels.Label.TheVariants as label
use Rattle.nts_model.specs.Terms.Trees.{Tree, empty, more, node, variable_of, variable_tree}
use Rattle.nts_model.specs.Tables.Contents.{Content, Slot, unset, Recorded, with_slot, changed, bound_to, with_constraint, in_universe}
use Rattle.nts_model.specs.Tables.Resolving.{replaced, resolved, deeply_resolved, rooted, rooted_variable, root_of, Knows, IsSound}
use Rattle.nts_model.specs.Tables.Levels.{Falls}
use Rattle.nts_model.specs.Tables.Worlds.{KnowsAll}
use Rattle.nts_model.specs.Tables.Holding.{AreOne, IsTrivialUnder, HasSides, HoldsConstraint, Continues}
use Rattle.nts_model.proofs.Tables.Slots.{KeepsKinds, KeepsKinds-with_slot, KeepsKinds-changed, Knows-kept, length-slice_set}
use Rattle.nts_model.proofs.Tables.Roots.{root_of-root_of}
use Rattle.nts_model.proofs.Tables.Resolved.{resolved-deeply_resolved, deeply_resolved-deeply_resolved}
use Rattle.nts_model.proofs.Tables.Sound.{SameStates-changed, SameStates-with_constraint, SameStates-in_universe}
use Rattle.nts_model.proofs.Tables.Binding.{IsKnowable, IsLinkable, KeepsKinds-set, KeepsKinds-bound, resolved-link, resolved-region_link}
use Rattle.nts_model.proofs.Tables.Classes.{deeply_resolved-same, deeply_resolved-with_slot, deeply_resolved-known, root_of-linked, rooted-replaced}
use Rattle.nts_model.proofs.Tables.Open.{Knows-deeply_resolved}
use Rattle.nts_model.proofs.Tables.Solving.{Lowers}
use Rattle.nts_model.proofs.Tables.Levelled.{Falls-refl, Falls-trans, Falls-same, Falls-with_slot, Falls-set, Falls-bound_to, Falls-lowered}

pub AreOne-continues : (c d : Content) (a b : Tree) → Continues c d → Knows c a → Knows c b → AreOne c a b → AreOne d a b
AreOne-continues c d a b h j k e = sym (h.values a j) ∙ ap (deeply_resolved d) e ∙ h.values b k

IsTrivialUnder-continues : (c d : Content) (r : Relation) (a b : Tree) → Continues c d → Knows c a → Knows c b → IsTrivialUnder c r a b → IsTrivialUnder d r a b
IsTrivialUnder-continues c d relation.Equal a b h j k e = AreOne-continues c d a b h j k e
IsTrivialUnder-continues c d relation.RegionOutlives a b h j k e = AreOne-continues c d a b h j k e
IsTrivialUnder-continues c d relation.TypeOutlives a b h j k e = e

HasSides-continues : (c d : Content) (r : Relation) (x y : Recorded) → Continues c d → Knows c x.left → Knows c x.right → Knows c y.left → Knows c y.right → HasSides c r x y → HasSides d r x y
HasSides-continues c d relation.Equal x y h a b p q e = ⊎_elim
    (λ z. inl (AreOne-continues c d x.left y.left h a p z.0, AreOne-continues c d x.right y.right h b q z.1))
    (λ z. inr (AreOne-continues c d x.left y.right h a q z.0, AreOne-continues c d x.right y.left h b p z.1)) e
HasSides-continues c d relation.RegionOutlives x y h a b p q e = (AreOne-continues c d x.left y.left h a p e.0, AreOne-continues c d x.right y.right h b q e.1)
HasSides-continues c d relation.TypeOutlives x y h a b p q e = (AreOne-continues c d x.left y.left h a p e.0, AreOne-continues c d x.right y.right h b q e.1)

Knows-recorded : (c : Content) (xs : List Recorded) (x : Recorded) → KnowsAll c xs → (k : ℕ) → k < length xs → get_or xs k x ≡ x → Knows c x.left × Knows c x.right
Knows-recorded c [] x h k l e = absurd (omega arith)
Knows-recorded c (y ∷ xs) x h zero l e = let q : y ≡ x = e in rw (← q) (h.0, h.1)
Knows-recorded c (y ∷ xs) x h (suc k) l e = Knows-recorded c xs x h.2 k (omega arith) e

-- a constraint that is held stays held
pub HoldsConstraint-continues : (c d : Content) (x : Recorded) → Continues c d → KnowsAll c c.constraints → Knows c x.left → Knows c x.right → HoldsConstraint c x → HoldsConstraint d x
HoldsConstraint-continues c d x h k a b e = ⊎_elim
    (λ z. inl (IsTrivialUnder-continues c d x.relation x.left x.right h a b z))
    (λ z. let y = z.constraint in
    let known = Knows-recorded c c.constraints y k z.found.0 z.found.1 z.found.2 in
    inr (record {
      constraint = y;
      found = h.constraints y z.found;
      same_relation = z.same_relation;
      same_sides = HasSides-continues c d x.relation x y h a b known.0 known.1 z.same_sides;
    })) e

HasSides-itself : (c : Content) (r : Relation) (x : Recorded) → HasSides c r x x
HasSides-itself c relation.Equal x = inl (refl, refl)
HasSides-itself c relation.RegionOutlives x = (refl, refl)
HasSides-itself c relation.TypeOutlives x = (refl, refl)

-- a constraint is held once it is recorded
pub HoldsConstraint-with_constraint : (c : Content) (x : Recorded) → HoldsConstraint (with_constraint c x) x
HoldsConstraint-with_constraint c x =
    inr (record { constraint = x; found = Contains-push c.constraints x; same_relation = refl; same_sides = HasSides-itself (with_constraint c x) x.relation x })

pub Continues-refl : (c : Content) → IsSound c → Continues c c
Continues-refl c s =
    record {
      more = omega arith;
      grows = omega arith;
      kinds = λ n k e. e;
      falls = Falls-refl c;
      values = λ t k. deeply_resolved-deeply_resolved c t s;
      constraints = λ x e. e;
    }

pub Continues-trans : (c d e : Content) → IsSound c → Continues c d → Continues d e → Continues c e
Continues-trans c d e s a b =
    record {
      more = (let p = a.more in let q = b.more in omega (arith, p, q));
      grows = (let p = a.grows in let q = b.grows in omega (arith, p, q));
      kinds = λ n k h. b.kinds n k (a.kinds n k h);
      falls = Falls-trans c d e a.more a.falls b.falls;
      values = λ t k.
          (let older : Knows d (deeply_resolved c t) = Knows-kept c d (deeply_resolved c t) (record { grows = a.grows; kinds = a.kinds }) (Knows-deeply_resolved c t s k) in
          let now : Knows d t = Knows-kept c d t (record { grows = a.grows; kinds = a.kinds }) k in
          sym (b.values (deeply_resolved c t) older) ∙ ap (deeply_resolved e) (a.values t k) ∙ b.values t now);
      constraints = λ x h. b.constraints x (a.constraints x h);
    }

-- a change that keeps readings
Continues-same : (c d : Content) → IsSound c → length c.slots ≤ length d.slots → KeepsKinds c d → Falls c d → ((t : Tree) → deeply_resolved d t ≡ deeply_resolved c t) → ((x : Recorded) → Contains c.constraints x → Contains d.constraints x) → Continues c d
Continues-same c d s l k f e h =
    record {
      more = l;
      grows = k.grows;
      kinds = k.kinds;
      falls = f;
      values = λ t q. e (deeply_resolved c t) ∙ deeply_resolved-deeply_resolved c t s ∙ sym (e t);
      constraints = h;
    }

pub Continues-with_slot : (c : Content) (v : Slot) → v.state ≡ unset → IsSound c → Continues c (with_slot c v)
Continues-with_slot c v free s =
    Continues-same c (with_slot c v) s (omega (arith, length-append c.slots (v ∷ []))) (KeepsKinds-with_slot c v) (Falls-with_slot c v) (deeply_resolved-with_slot c v s free) (λ x h. h)

pub Continues-with_constraint : (c : Content) (x : Recorded) → IsSound c → Continues c (with_constraint c x)
Continues-with_constraint c x s =
    Continues-same c (with_constraint c x) s (omega arith) (record { grows = omega arith; kinds = λ n k e. e }) (Falls-same c (with_constraint c x) (λ n l. refl))
    (λ t. deeply_resolved-same c (with_constraint c x) t (SameStates-with_constraint c x)) (λ y h. Contains-append_left c.constraints (x ∷ []) y h)

pub Continues-in_universe : (c : Content) (u : ℕ) → c.universe ≤ u → IsSound c → Continues c (in_universe c u)
Continues-in_universe c u b s =
    Continues-same c (in_universe c u) s (omega arith) (record { grows = b; kinds = λ n k e. e }) (Falls-same c (in_universe c u) (λ n l. refl))
    (λ t. deeply_resolved-same c (in_universe c u) t (SameStates-in_universe c u b)) (λ y h. h)

pub Continues-lowered : (c : Content) (n : ℕ) (v : Slot) → Lowers c n v → IsSound c → Continues c (changed c n v)
Continues-lowered c n v b s =
    Continues-same c (changed c n v) s (omega (arith, length-slice_set c.slots n v)) (KeepsKinds-changed c n b.old v b.was b.same_kind) (Falls-lowered c n v b)
    (λ t. deeply_resolved-same c (changed c n v) t (SameStates-changed c n b.old v b.was b.same_kind b.same_state)) (λ y h. h)

pub Continues-known : (c : Content) (n : ℕ) (v : Slot) (t : Tree) (b : IsKnowable c n v t) → v.universe ≡ b.binds.old.universe → IsSound c → Continues c (bound_to c n v)
Continues-known c n v t b u s =
    record {
      more = omega (arith, length-slice_set c.slots n v);
      grows = omega arith;
      kinds = (KeepsKinds-bound c n v b.binds).kinds;
      falls = Falls-bound_to c n v b.binds u;
      values = λ r k.
          deeply_resolved-known c n v t s b (deeply_resolved c r)
          ∙ ap (replaced n (deeply_resolved c t)) (deeply_resolved-deeply_resolved c r s)
          ∙ sym (deeply_resolved-known c n v t s b r);
      constraints = λ x h. h;
    }

-- roots after older roots
rooted_variable-after : (c d : Content) (o : Option (VariableKind × ℕ)) (l : Label) → ((k : ℕ) → root_of d (root_of c k) ≡ root_of d k) → variable_of l ≡ o → rooted_variable d (variable_of (rooted_variable c o l)) (rooted_variable c o l) ≡ rooted_variable d o l
rooted_variable-after c d None l h e = rw e refl
rooted_variable-after c d (Some (kind.Ty, n)) l h e = rw e refl
rooted_variable-after c d (Some (kind.Int, n)) l h e = rw e refl
rooted_variable-after c d (Some (kind.Float, n)) l h e = rw e refl
rooted_variable-after c d (Some (kind.Const, n)) l h e = rw e refl
rooted_variable-after c d (Some (kind.Region, n)) l h e = ap (λ m. label.Leaf (leaf.Variable kind.Region m)) (h n)

rooted-after : (c d : Content) (t : Tree) → ((k : ℕ) → root_of d (root_of c k) ≡ root_of d k) → rooted d (rooted c t) ≡ rooted d t
rooted-after c d empty h = refl
rooted-after c d (more a b) h = cc (rooted-after c d a h, rooted-after c d b h)
rooted-after c d (node l t) h = cc (rooted_variable-after c d (variable_of l) l h refl, rooted-after c d t h)

root_of-after_link : (c : Content) (n : ℕ) (v : Slot) (m : ℕ) → IsSound c → IsLinkable c n v m → (k : ℕ) → root_of (changed c n v) (root_of c k) ≡ root_of (changed c n v) k
root_of-after_link c n v m s b k =
    root_of-linked c n v m s.descends b (root_of c k) ∙ ap (λ r. if r == n then m else r) (root_of-root_of c k s.descends) ∙ sym (root_of-linked c n v m s.descends b k)

pub Continues-link : (c : Content) (n : ℕ) (v : Slot) (m : ℕ) (b : IsLinkable c n v m) → v.universe ≡ b.binds.old.universe → v.kind ≢ kind.Region → IsSound c → Continues c (bound_to c n v)
Continues-link c n v m b u no_region s =
    record {
      more = omega (arith, length-slice_set c.slots n v);
      grows = omega arith;
      kinds = (KeepsKinds-bound c n v b.binds).kinds;
      falls = Falls-bound_to c n v b.binds u;
      values = λ t k. (let d = bound_to c n v in
          let root = variable_tree v.kind m in
          let after : rooted d (rooted c (resolved c t)) ≡ rooted d (resolved c t) = rooted-after c d (resolved c t) (root_of-after_link c n v m s b) in
          ap (rooted d) (resolved-link c n v m s b no_region (deeply_resolved c t) ∙ ap (replaced n root) (resolved-deeply_resolved c t s))
          ∙ rooted-replaced d n root (deeply_resolved c t) ∙ ap (replaced n (rooted d root)) after ∙ sym (rooted-replaced d n root (resolved c t))
          ∙ sym (ap (rooted d) (resolved-link c n v m s b no_region t)));
      constraints = λ x h. h;
    }

pub Continues-region_link : (c : Content) (n : ℕ) (v : Slot) (m : ℕ) (b : IsLinkable c n v m) → v.universe ≡ b.binds.old.universe → v.kind ≡ kind.Region → IsSound c → Continues c (changed c n v)
Continues-region_link c n v m b u region s =
    record {
      more = omega (arith, length-slice_set c.slots n v);
      grows = omega arith;
      kinds = (KeepsKinds-set c n v b.binds).kinds;
      falls = Falls-set c n v b.binds u;
      values = λ t k. (let d = changed c n v in
          let after : rooted d (rooted c (resolved c t)) ≡ rooted d (resolved c t) = rooted-after c d (resolved c t) (root_of-after_link c n v m s b) in
          ap (rooted d) (resolved-region_link c n v m s b region (deeply_resolved c t) ∙ resolved-deeply_resolved c t s) ∙ after
          ∙ sym (ap (rooted d) (resolved-region_link c n v m s b region t)));
      constraints = λ x h. h;
    }
