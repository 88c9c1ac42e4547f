-- Which candidates are met, seen from what trying them does.
use Rattle.std.proofs.Common.{◌≡◌, inl, inr, ℕ, zero, suc, List, [], ◌∷◌, ◌++◌, map, get_or, length, refl, sym, ap, ◌∙◌, subst}
use Rattle.nts_model.specs.declared.labels.Sort.{Sort}
use Rattle.nts_model.specs.declared.labels.Leaf.{Leaf}
use Rattle.nts_model.specs.declared.labels.BoundVarIndexKind.TheVariants as index
use Rattle.nts_model.specs.declared.labels.Label.{Label}
use Rattle.nts_model.specs.declared.labels.Label.TheVariants as label
use Rattle.nts_model.specs.Terms.Trees.{Tree, empty, more, node, binders, IsFormed}
use Rattle.nts_model.specs.Terms.Scoping.{ListsBound, IsWellBound}
use Rattle.nts_model.specs.Tables.Contents.{Content, Slot, unset, with_slot}
use Rattle.nts_model.specs.Tables.Resolving.{Knows, IsSound}
use Rattle.nts_model.specs.Tables.Solvable.{IsSolvable}
use Rattle.nts_model.specs.Tables.Worlds.{World, inst, Agrees}
use Rattle.nts_model.specs.Terms.Substitutions.{leaf_tree, Occurs, filled, position_of, value_or}
use Rattle.nts_model.specs.Derivations.Rules.{Equation}
use Rattle.nts_model.specs.Lists.{Among}
use Rattle.nts_model.specs.Derivations.Handlers.{Candidate, kind_of_sort}
use Rattle.nts_model.specs.Answers.Responses.{read_in}
use Rattle.nts_model.specs.Answers.Applying.{IsProperContent, AreKnownTrees}
use Rattle.nts_model.specs.Refutation.Choosing.{left_of, right_of, MeetsEquations, IsCandidateMet, NoneIsMet, OnlyIsMet, SomeIsMet, SeveralAreMet, Freshens, EquatesAll, FailsToEquate}
use Rattle.nts_model.proofs.Tables.Instances.{inst-agrees}
use Rattle.nts_model.proofs.Canonical.Positioned.{inst-filled}
use Rattle.nts_model.specs.Tables.RegionClasses.{reading}
use Rattle.nts_model.proofs.Tables.Solvable.{reading-solves, KnowsAll-kept}
use Rattle.nts_model.proofs.Tables.Sound.{IsSound-with_slot}
use Rattle.nts_model.proofs.Tables.Slots.{Knows-kept, KeepsKinds, KeepsKinds-refl, KeepsKinds-trans, KeepsKinds-with_slot}
use Rattle.nts_theory.proofs.Refutation.Freshening.{new_kinds, freshened_world, freshened_back, filled_agree}
use Rattle.nts_theory.proofs.Responses.Applying.{new_knows}
use Rattle.nts_model.proofs.Terms.Scoping.{ArePatches, no_patches, more_patches, lists_patched, filled_patched}
use Rattle.nts_theory.proofs.Refutation.Trying.{KnowsEquations, equated_back, equated_never_fails}

-- the sides of the equations are formed and list what they bind, and their leaves are of the table
pub record AreOfTable (c : Content) (qs : List Equation) : Type 0 where
  pub left_formed : (q : Equation) → Among qs q → IsFormed (left_of q)
  pub right_formed : (q : Equation) → Among qs q → IsFormed (right_of q)
  pub left_well_bound : (q : Equation) → Among qs q → IsWellBound (left_of q)
  pub right_well_bound : (q : Equation) → Among qs q → IsWellBound (right_of q)
  pub left_leaves : (q : Equation) → Among qs q → (l : Leaf) → Occurs l (left_of q) → Knows c (leaf_tree l)
  pub right_leaves : (q : Equation) → Among qs q → (l : Leaf) → Occurs l (right_of q) → Knows c (leaf_tree l)

-- a candidate whose equations could be equated is met
pub met_when_equated : (ss : List Sort) (qs : List Equation) (xs : List Tree) (c made d : Content) → Freshens c.universe ss xs c made → EquatesAll xs qs made d → IsSound d → IsSolvable d → AreOfTable c qs → MeetsEquations c ss qs
met_when_equated ss qs xs c made d f e sound solvable terms =
    let w = reading d in
    let back = equated_back xs qs made d w e (reading-solves d sound solvable) in
    let before = freshened_back c.universe ss xs c made w f back.0 in
    record {
      world = w;
      solves = before.solves;
      values = map (inst w) xs;
      fit = before.fit;
      named = before.named;
      equal = λ q i. sym (inst-filled w xs (left_of q) (terms.left_formed q i)) ∙ back.1.each q i ∙ inst-filled w xs (right_of q) (terms.right_formed q i);
    }

-- a term over positions is read alike in a world that agrees
pub read_later : (c : Content) (w v : World) (vs : List Tree) (t : Tree) → Agrees (length c.slots) w v → IsFormed t → ((l : Leaf) → Occurs l t → Knows c (leaf_tree l)) → read_in v vs t ≡ read_in w vs t
read_later c w v vs t a f k = filled_agree (λ l. inst v (leaf_tree l)) (λ l. inst w (leaf_tree l)) vs t f (λ l o. inst-agrees c w v (leaf_tree l) a (k l o))

-- one whose equations failed is not
pub unmet_when_failed : (ss : List Sort) (qs : List Equation) (xs : List Tree) (c made : Content) → IsProperContent c → Freshens c.universe ss xs c made → FailsToEquate xs qs made → KnowsEquations made xs qs → AreOfTable c qs → MeetsEquations c ss qs → ⊥
unmet_when_failed ss qs xs c made proper f fails known terms m =
    let w = m.world in
    let g = freshened_world c.universe ss xs m.values c made w proper f m.fit m.named m.solves in
    let v = g.world in
    let at : (t : Tree) → IsFormed t → ((l : Leaf) → Occurs l t → Knows c (leaf_tree l)) → inst v (filled xs t) ≡ read_in w m.values t =
    λ t k o. inst-filled v xs t k ∙ ap (λ z. read_in v z t) g.images ∙ read_later c w v m.values t g.agrees k o in
    equated_never_fails xs qs made v fails g.solves known
    (record { each = λ q i. at (left_of q) (terms.left_formed q i) (terms.left_leaves q i) ∙ m.equal q i ∙ sym (at (right_of q) (terms.right_formed q i) (terms.right_leaves q i)) })

-- one candidate more
pub NoneIsMet-push : (c : Content) (ys : List Candidate) (x : Candidate) → NoneIsMet c ys → (IsCandidateMet c x → ⊥) → NoneIsMet c (ys ++ x ∷ [])
NoneIsMet-push c [] x h k = (k, tt)
NoneIsMet-push c (y ∷ ys) x h k = (h.0, NoneIsMet-push c ys x h.1 k)

pub OnlyIsMet-first : (c : Content) (ys : List Candidate) (x : Candidate) → NoneIsMet c ys → IsCandidateMet c x → OnlyIsMet c x (ys ++ x ∷ [])
OnlyIsMet-first c [] x h k = inl (refl, k, tt)
OnlyIsMet-first c (y ∷ ys) x h k = inr (h.0, OnlyIsMet-first c ys x h.1 k)

pub OnlyIsMet-push : (c : Content) (ys : List Candidate) (o x : Candidate) → OnlyIsMet c o ys → (IsCandidateMet c x → ⊥) → OnlyIsMet c o (ys ++ x ∷ [])
OnlyIsMet-push c [] o x h k = absurd h
OnlyIsMet-push c (y ∷ ys) o x (inl h) k = inl (h.0, h.1, NoneIsMet-push c ys x h.2 k)
OnlyIsMet-push c (y ∷ ys) o x (inr h) k = inr (h.0, OnlyIsMet-push c ys o x h.1 k)

some_last : (c : Content) (ys : List Candidate) (x : Candidate) → IsCandidateMet c x → SomeIsMet c (ys ++ x ∷ [])
some_last c [] x k = inl k
some_last c (y ∷ ys) x k = inr (some_last c ys x k)

pub SeveralAreMet-second : (c : Content) (ys : List Candidate) (o x : Candidate) → OnlyIsMet c o ys → IsCandidateMet c x → SeveralAreMet c (ys ++ x ∷ [])
SeveralAreMet-second c [] o x h k = absurd h
SeveralAreMet-second c (y ∷ ys) o x (inl h) k = inl (h.1, some_last c ys x k)
SeveralAreMet-second c (y ∷ ys) o x (inr h) k = inr (SeveralAreMet-second c ys o x h.1 k)

some_more : (c : Content) (ys zs : List Candidate) → SomeIsMet c ys → SomeIsMet c (ys ++ zs)
some_more c [] zs h = absurd h
some_more c (y ∷ ys) zs (inl h) = inl h
some_more c (y ∷ ys) zs (inr h) = inr (some_more c ys zs h)

pub SeveralAreMet-more : (c : Content) (ys zs : List Candidate) → SeveralAreMet c ys → SeveralAreMet c (ys ++ zs)
SeveralAreMet-more c [] zs h = absurd h
SeveralAreMet-more c (y ∷ ys) zs (inl h) = inl (h.0, some_more c ys zs h.1)
SeveralAreMet-more c (y ∷ ys) zs (inr h) = inr (SeveralAreMet-more c ys zs h)

-- a new variable is of the table
pub IsProperContent-with_slot : (c : Content) (v : Slot) → v.state ≡ unset → IsProperContent c → IsProperContent (with_slot c v)
IsProperContent-with_slot c v free p = record { sound = IsSound-with_slot c v p.sound free; sides = KnowsAll-kept c (with_slot c v) c.constraints (KeepsKinds-with_slot c v) p.sides }

-- what new variables leave: each of them is of the table afterwards, and so is all that was
pub record AreFresh (c d : Content) (ts : List Tree) : Type 0 where
  pub keeps : KeepsKinds c d
  pub known : AreKnownTrees d ts
  pub patches : ArePatches ts

pub fresh_known : (u : ℕ) (ss : List Sort) (ts : List Tree) (c d : Content) → Freshens u ss ts c d → AreFresh c d ts
fresh_known u [] [] c d h = record { keeps = subst (KeepsKinds c) (sym h) (KeepsKinds-refl c); known = tt; patches = no_patches }
fresh_known u [] (t ∷ ts) c d h = absurd h
fresh_known u (o ∷ ss) [] c d h = absurd h
fresh_known u (o ∷ ss) (t ∷ ts) c d (e, new, up, rest) =
    let more = fresh_known u ss ts e d rest in
    record {
      keeps = KeepsKinds-trans (new_kinds c e (kind_of_sort o) u t new) more.keeps;
      known = (Knows-kept e d t more.keeps (new_knows c e u (kind_of_sort o) t new), more.known);
      patches = more_patches t ts (rw new.tree ((tt, tt), (tt, tt))) more.patches;
    }

known_there : (c : Content) (xs : List Tree) (i : ℕ) → AreKnownTrees c xs → Knows c (get_or xs i empty)
known_there c [] i h = tt
known_there c (x ∷ xs) zero h = h.0
known_there c (x ∷ xs) (suc i) h = known_there c xs i h.1

-- a term over positions, filled with terms of the table, is one
filled_label : (c : Content) (xs : List Tree) (l : Label) (a : Tree) → AreKnownTrees c xs → ((x : Leaf) → (label.Leaf x ≡ l) → Knows c (leaf_tree x)) → Knows c a → ListsBound (binders l) a → Knows c (value_or (position_of l) xs (node l a))
filled_label c xs (label.Leaf x) a h k z w = ((k x refl).0, z, tt)
filled_label c xs (label.Bound s (index.Bound d) n) a h k z w = ((tt, tt, refl), z, tt)
filled_label c xs (label.Bound s index.Canonical n) a h k z w = known_there c xs n h
filled_label c xs (label.Ty y) a h k z w = ((tt, tt, refl), z, w)
filled_label c xs (label.Const y) a h k z w = ((tt, tt, refl), z, tt)
filled_label c xs (label.Clause y) a h k z w = ((tt, tt, refl), z, tt)
filled_label c xs (label.Predicate y) a h k z w = ((tt, tt, refl), z, tt)
filled_label c xs (label.List y) a h k z w = ((tt, tt, refl), z, w)

pub filled_known : (c : Content) (xs : List Tree) (t : Tree) → IsWellBound t → AreKnownTrees c xs → ArePatches xs → ((l : Leaf) → Occurs l t → Knows c (leaf_tree l)) → Knows c (filled xs t)
filled_known c xs empty w h p k = tt
filled_known c xs (more a b) w h p k = (filled_known c xs a w.0 h p (λ l o. k l (inl o)), filled_known c xs b w.1 h p (λ l o. k l (inr o)))
filled_known c xs (node l a) w h p k =
    filled_label c xs l (filled xs a) h (λ x e. k x (inl e)) (filled_known c xs a w.1 h p (λ x o. k x (inr o))) (lists_patched (binders l) a (filled xs a) (filled_patched xs p a) w.0)

-- so are the filled sides of a candidate's equations
pub equations_known : (c d : Content) (xs : List Tree) (qs : List Equation) → KeepsKinds c d → AreKnownTrees d xs → ArePatches xs → AreOfTable c qs → KnowsEquations d xs qs
equations_known c d xs qs k h p t =
    record {
      left = λ q i. filled_known d xs (left_of q) (t.left_well_bound q i) h p (λ l o. Knows-kept c d (leaf_tree l) k (t.left_leaves q i l o));
      right = λ q i. filled_known d xs (right_of q) (t.right_well_bound q i) h p (λ l o. Knows-kept c d (leaf_tree l) k (t.right_leaves q i l o));
    }
