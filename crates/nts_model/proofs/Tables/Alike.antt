-- Trees that are one but for regions: what makes them so, and that they stay so.
use Rattle.std.proofs.Common.{◌≡◌, inl, inr, ⊎_elim, ℕ, zero, suc, ◌+◌, ◌<◌, ◌≤◌, Bool, true, false, Option, Some, None, refl, sym, ap, ◌∙◌, arith}
use Rattle.std.specs.Prelude.{◌==◌, if◌then◌else◌}
use Rattle.nts_model.specs.declared.labels.Relation.TheVariants as relation
use Rattle.nts_model.specs.declared.labels.Label.{Label}
use Rattle.nts_model.specs.Terms.Trees.{Tree, empty, more, node, label_of, children, IsRow, row_length, row_at, row_take, row_push, infer_of, variable_of}
use Rattle.nts_model.specs.Tables.Contents.{Content, Recorded}
use Rattle.nts_model.specs.Tables.Resolving.{replaced, replaced_at, resolved, deeply_resolved, rooted, rooted_variable, Knows, IsSound}
use Rattle.nts_model.specs.Tables.Worlds.{KnowsAll}
use Rattle.nts_model.specs.Terms.Regions.{IsRegion, RegionName, region_name, name_of_label}
use Rattle.nts_model.specs.Tables.RegionClasses.{root_name}
use Rattle.nts_model.specs.Tables.Holding.{AreOne, HoldsConstraint, HasSides, Continues}
use Rattle.nts_model.specs.Tables.Alike.{Alike, one_tree, two_regions, one_label, two_rows, equality, HoldsEqual, AreAlike}
use Rattle.nts_model.proofs.Tables.Under.{replaced-lacks}
use Rattle.nts_model.proofs.Tables.Roots.{infer_of-rooted}
use Rattle.nts_model.proofs.Tables.Resolved.{resolved-more, deeply_resolved-empty, deeply_resolved-node, deeply_resolved-deeply_resolved, row_length-resolved, IsRow-resolved}
use Rattle.nts_model.proofs.Tables.Open.{Knows-deeply_resolved}
use Rattle.nts_model.proofs.Tables.Readings.{name_label}
use Rattle.nts_model.proofs.Tables.Fitting.{region_label, IsRegion-no_infer}
use Rattle.nts_model.proofs.Tables.Held.{HoldsConstraint-continues}
use Rattle.nts_model.proofs.Tables.TableInstances.{deeply_resolved-more}

-- a region stands for its root
name-rooted : (c : Content) (l : Label) (x : RegionName) → name_of_label l ≡ Some x → name_of_label (rooted_variable c (variable_of l) l) ≡ Some (root_name c x)
name-rooted c l x e = ⊎_elim
    (λ v. let q = v.1 in let p = v.2 in rw (q, p) refl)
    (λ r. let q = r.1 in let p = r.2 in rw (q, p) refl) (name_label l x e)

pub region_name-deeply_resolved : (c : Content) (t : Tree) (x : RegionName) → region_name t ≡ Some x → region_name (deeply_resolved c t) ≡ Some (root_name c x)
region_name-deeply_resolved c empty x e = cc
region_name-deeply_resolved c (more a b) x e = cc
region_name-deeply_resolved c (node l t) x e =
    let h = region_label l t x e in
    let alone : t ≡ empty = h.1 in
    rw (alone, deeply_resolved-node c l empty (IsRegion-no_infer l t (x, e)), deeply_resolved-empty c) (name-rooted c l x h.0)

pub IsRegion-deeply_resolved : (c : Content) (t : Tree) → IsRegion t → IsRegion (deeply_resolved c t)
IsRegion-deeply_resolved c t h = (root_name c h.0, region_name-deeply_resolved c t h.0 h.1)

-- equalities that a table holds
pub HoldsEqual-one : (c : Content) (a b x y : Tree) → AreOne c x a → AreOne c y b → HoldsEqual c a b → HoldsEqual c x y
HoldsEqual-one c a b x y p q h = ⊎_elim
    (λ e. inl (p ∙ e ∙ sym q))
    (λ r. inr (record {
      constraint = r.constraint;
      found = r.found;
      same_relation = r.same_relation;
      same_sides = ⊎_elim (λ s. inl (p ∙ s.0, q ∙ s.1)) (λ s. inr (p ∙ s.0, q ∙ s.1)) r.same_sides;
    })) h

pub HoldsEqual-turned : (c : Content) (a b : Tree) → HoldsEqual c a b → HoldsEqual c b a
HoldsEqual-turned c a b h = ⊎_elim
    (λ e. inl (sym e))
    (λ r. inr (record {
      constraint = r.constraint;
      found = r.found;
      same_relation = r.same_relation;
      same_sides = ⊎_elim (λ s. inr (s.1, s.0)) (λ s. inl (s.1, s.0)) r.same_sides;
    })) h

pub HoldsEqual-continues : (c d : Content) (a b : Tree) → Continues c d → KnowsAll c c.constraints → Knows c a → Knows c b → HoldsEqual c a b → HoldsEqual d a b
HoldsEqual-continues c d a b h k p q e = HoldsConstraint-continues c d (equality a b) h k p q e

-- .. once one is recorded, in either order and visible or not
pub HoldsEqual-recorded : (c : Content) (x : Recorded) → x.relation ≡ relation.Equal → HoldsConstraint c x → HoldsEqual c x.left x.right
HoldsEqual-recorded c x e h = ⊎_elim
    (λ z. inl (rw e at z))
    (λ r. inr (record {
      constraint = r.constraint;
      found = r.found;
      same_relation = r.same_relation ∙ e;
      same_sides = (let s : HasSides c relation.Equal x r.constraint = rw e at r.same_sides in s);
    })) h

pub Alike-turned : (R : Tree → Tree → Type 0) (a b : Tree) → ((x y : Tree) → R x y → R y x) → Alike R a b → Alike R b a
Alike-turned R a b f one_tree = one_tree
Alike-turned R a b f (two_regions x y r) = two_regions y x (f a b r)
Alike-turned R a b f (one_label {c = c} {d = d} e h) = one_label e (Alike-turned R c d f h)
Alike-turned R a b f (two_rows {a = s} {b = t} {c = x} {d = y} h k) = two_rows (Alike-turned R s x f h) (Alike-turned R t y f k)

-- under later values alike trees are alike
pub Alike-later : (c d : Content) (s t : Tree) → IsSound d → Continues c d → KnowsAll c c.constraints → Knows c s → Knows c t → Alike (HoldsEqual c) s t → Alike (HoldsEqual d) (deeply_resolved d s) (deeply_resolved d t)
Alike-later c d s t z h k p q one_tree = one_tree
Alike-later c d s t z h k p q (two_regions x y r) =
    two_regions (IsRegion-deeply_resolved d s x) (IsRegion-deeply_resolved d t y)
    (HoldsEqual-one d s t (deeply_resolved d s) (deeply_resolved d t) (deeply_resolved-deeply_resolved d s z) (deeply_resolved-deeply_resolved d t z) (HoldsEqual-continues c d s t h k p q r))
Alike-later c d s t z h k p q (one_label {l = l} {c = x} {d = y} e a) =
    let deeper = Alike-later c d x y z h k p.1 q.1 a in
    rw (deeply_resolved-node d l x e, deeply_resolved-node d l y e) (one_label (infer_of-rooted d l ∙ e) deeper)
Alike-later c d s t z h k p q (two_rows {a = f} {b = g} {c = x} {d = y} a b) =
    rw (deeply_resolved-more d f g, deeply_resolved-more d x y) (two_rows (Alike-later c d f x z h k p.0 q.0 a) (Alike-later c d g y z h k p.1 q.1 b))

pub AreAlike-continues : (c d : Content) (a b : Tree) → IsSound c → IsSound d → Continues c d → KnowsAll c c.constraints → Knows c a → Knows c b → AreAlike c a b → AreAlike d a b
AreAlike-continues c d a b s z h k p q e =
    let later = Alike-later c d (deeply_resolved c a) (deeply_resolved c b) z h k (Knows-deeply_resolved c a s p) (Knows-deeply_resolved c b s q) e in
    let left : deeply_resolved d (deeply_resolved c a) ≡ deeply_resolved d a = h.values a p in
    let right : deeply_resolved d (deeply_resolved c b) ≡ deeply_resolved d b = h.values b q in
    rw (← left, ← right) later

-- what makes trees alike: one tree, in either order, trees that stand for them
pub AreAlike-one : (c : Content) (a b : Tree) → AreOne c a b → AreAlike c a b
AreAlike-one c a b e = rw e one_tree

pub AreAlike-itself : (c : Content) (a : Tree) → AreAlike c a a
AreAlike-itself c a = one_tree

pub AreAlike-turned : (c : Content) (a b : Tree) → AreAlike c a b → AreAlike c b a
AreAlike-turned c a b h = Alike-turned (HoldsEqual c) (deeply_resolved c a) (deeply_resolved c b) (HoldsEqual-turned c) h

pub AreAlike-for : (c : Content) (a b x y : Tree) → AreOne c x a → AreOne c y b → AreAlike c a b → AreAlike c x y
AreAlike-for c a b x y p q h = rw (p, q) h

-- two regions whose equality is held
pub AreAlike-regions : (c : Content) (a b : Tree) → IsSound c → IsRegion a → IsRegion b → HoldsEqual c a b → AreAlike c a b
AreAlike-regions c a b s x y h =
    two_regions (IsRegion-deeply_resolved c a x) (IsRegion-deeply_resolved c b y)
    (HoldsEqual-one c a b (deeply_resolved c a) (deeply_resolved c b) (deeply_resolved-deeply_resolved c a s) (deeply_resolved-deeply_resolved c b s) h)

-- one label over alike children
pub AreAlike-node : (c : Content) (l : Label) (x y : Tree) → infer_of l ≡ None → AreAlike c x y → AreAlike c (node l x) (node l y)
AreAlike-node c l x y e h = rw (deeply_resolved-node c l x e, deeply_resolved-node c l y e) (one_label (infer_of-rooted c l ∙ e) h)

pub AreAlike-children : (c : Content) (a b : Tree) (l : Label) → label_of a ≡ Some l → label_of b ≡ Some l → infer_of l ≡ None → AreAlike c (children a) (children b) → AreAlike c a b
AreAlike-children c (node m x) (node n y) l p q e h =
    let left : m ≡ l = cc in
    let right : n ≡ l = cc in
    rw (left, right) (AreAlike-node c l x y e h)
AreAlike-children c empty b l p q e h = cc
AreAlike-children c (more x y) b l p q e h = cc
AreAlike-children c (node m x) empty l p q e h = cc
AreAlike-children c (node m x) (more y z) l p q e h = cc

-- rows, tree by tree
pub AreAlike-more : (c : Content) (a b x y : Tree) → AreAlike c a x → AreAlike c b y → AreAlike c (more a b) (more x y)
AreAlike-more c a b x y h k = rw (deeply_resolved-more c a b, deeply_resolved-more c x y) (two_rows h k)

-- .. and one tree more
first_alike : (R : Tree → Tree → Type 0) (a b x y : Tree) → Alike R (more a b) (more x y) → Alike R a x × Alike R b y
first_alike R a b x y one_tree = (one_tree, one_tree)
first_alike R a b x y (two_regions p q r) = let e = p.1 in cc
first_alike R a b x y (two_rows h k) = (h, k)

pub Alike-row_push : (R : Tree → Tree → Type 0) (r s a b : Tree) → IsRow r → IsRow s → row_length r ≡ row_length s → Alike R r s → Alike R a b → Alike R (row_push r a) (row_push s b)
Alike-row_push R empty empty a b p q e h k = two_rows k one_tree
Alike-row_push R empty (more x y) a b p q e h k = absurd (omega (arith, e))
Alike-row_push R (more f g) empty a b p q e h k = absurd (omega (arith, e))
Alike-row_push R (more f g) (more x y) a b p q e h k =
    let same : row_length g ≡ row_length y = omega (arith, e) in
    let parts = first_alike R f g x y h in
    two_rows parts.0 (Alike-row_push R g y a b p q same parts.1 k)
Alike-row_push R (node l t) s a b p q e h k = absurd p
Alike-row_push R empty (node l t) a b p q e h k = absurd q
Alike-row_push R (more f g) (node l t) a b p q e h k = absurd q

IsRow-rooted : (c : Content) (r : Tree) → IsRow r → IsRow (rooted c r)
IsRow-rooted c empty h = tt
IsRow-rooted c (more a b) h = IsRow-rooted c b h
IsRow-rooted c (node l t) h = absurd h

row_length-rooted : (c : Content) (r : Tree) → row_length (rooted c r) ≡ row_length r
row_length-rooted c empty = refl
row_length-rooted c (more a b) = ap (λ n. n + 1) (row_length-rooted c b)
row_length-rooted c (node l t) = refl

pub IsRow-deeply_resolved : (c : Content) (r : Tree) → IsRow r → IsRow (deeply_resolved c r)
IsRow-deeply_resolved c r h = IsRow-rooted c (resolved c r) (IsRow-resolved c r h)

pub row_length-deeply_resolved : (c : Content) (r : Tree) → IsRow r → row_length (deeply_resolved c r) ≡ row_length r
row_length-deeply_resolved c r h = row_length-rooted c (resolved c r) ∙ row_length-resolved c r h
