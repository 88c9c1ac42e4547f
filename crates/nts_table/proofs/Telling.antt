-- Which constraints say something new: those told so far decide it as well as all that were recorded.
use Rattle.std.proofs.Common.{◌≡◌, ◌⊎◌, inl, inr, ⊎_elim, ℕ, zero, suc, ◌+◌, ◌<◌, Bool, true, false, List, [], ◌∷◌, ◌++◌, length, map, take, Some, refl, sym, ap, ◌∙◌, arith, rules, add-one}
use Rattle.std.specs.Prelude.{slice_get, IsTrue, ◌↔◌, ◌&&◌, ◌||◌}
use Rattle.std.specs.List.{list_any}
use Rattle.std.proofs.lemmas.List.{map-append}
use Rattle.nts_model.specs.declared.labels.Relation.{Relation}
use Rattle.nts_model.specs.declared.labels.Relation.TheVariants as relation
use Rattle.nts_model.specs.contracts.labels.RelationPartialEq.TheImpl as relation_eq
use Rattle.nts_model.specs.Terms.Trees.{Tree, kind_of}
use Rattle.nts_model.specs.Tables.Contents.{Content, Recorded}
use Rattle.nts_model.specs.Tables.Resolving.{deeply_resolved}
use Rattle.nts_model.specs.Tables.RegionClasses.{AreRegions}
use Rattle.nts_model.proofs.Tables.Alike.{IsRegion-deeply_resolved}
use Rattle.nts_model.proofs.Tables.Open.{Knows-deeply_resolved}
use Rattle.nts_model.proofs.Tables.Kept.{kind_of-deeply_resolved}
use Rattle.nts_store.specs.declared.nodes.NodeId.{NodeId}
use Rattle.nts_store.specs.contracts.nodes.NodeIdPartialEq.TheImpl as id_eq
use Rattle.nts_store.specs.Growth.{tree_at, IsIn, AreApart, Extends}
use Rattle.nts_store.proofs.Growing.{IsIn-extended}
use Rattle.nts_unify.specs.declared.contents.Constraint.{Constraint}
use Rattle.nts_table.specs.declared.deduplicated.Said.{Said}
use Rattle.nts_table.specs.contracts.deduplicated.SaidPartialEq.TheImpl as said_eq
use Rattle.nts_unify.specs.Entries.{Entries}
use Rattle.nts_unify.specs.Reading.{recorded_of, content_of, IsConstraint, AreConstraints, IsLawful}
use Rattle.nts_unify.specs.Lawful.{content_of-extended, IsLawful-extended, AreConstraints-push}
use Rattle.nts_model.specs.Tables.Recording.{resolved_constraint, resolved_constraints, RelatesSame, IsAmong, SaysNothingNew, AreNews, none, passed, told}
use Rattle.nts_table.specs.Deduplicated.{said, SidesIn, AllSidesIn, TellsConstraint}
use Rattle.nts_store.specs.Equal.{both_true, same_id}
use Rattle.nts_store.proofs.Inserting.{term-apart as one_term}

RelatesSame-trans : {x y z : Recorded} → RelatesSame x y → RelatesSame y z → RelatesSame x z
RelatesSame-trans h k =
    record { relation = h.relation ∙ k.relation; left = h.left ∙ k.left; right = h.right ∙ k.right }

among-front : (xs ys : List Recorded) (z : Recorded) → IsAmong xs z → IsAmong (xs ++ ys) z
among-front [] ys z h = absurd h
among-front (x ∷ xs) ys z (inl e) = inl e
among-front (x ∷ xs) ys z (inr h) = inr (among-front xs ys z h)

among-last : (xs : List Recorded) (x z : Recorded) → RelatesSame x z → IsAmong (xs ++ x ∷ []) z
among-last [] x z e = inl e
among-last (y ∷ xs) x z e = inr (among-last xs x z e)

among-split : (xs : List Recorded) (x z : Recorded) → IsAmong (xs ++ x ∷ []) z → IsAmong xs z ⊎ RelatesSame x z
among-split [] x z (inl e) = inr e
among-split [] x z (inr h) = absurd h
among-split (y ∷ xs) x z (inl e) = inl (inl e)
among-split (y ∷ xs) x z (inr h) = ⊎_elim (λ k. inl (inr k)) (λ e. inr e) (among-split xs x z h)

among-same : (xs : List Recorded) (y z : Recorded) → RelatesSame y z → IsAmong xs y → IsAmong xs z
among-same [] y z e h = h
among-same (x ∷ xs) y z e (inl k) = inl (RelatesSame-trans k e)
among-same (x ∷ xs) y z e (inr h) = inr (among-same xs y z e h)

nothing-same : (xs : List Recorded) (y z : Recorded) → RelatesSame y z → SaysNothingNew xs y → SaysNothingNew xs z
nothing-same xs y z e (inl q) = inl (sym e.left ∙ q ∙ e.right)
nothing-same xs y z e (inr h) = inr (among-same xs y z e h)

nothing-front : (xs ys : List Recorded) (z : Recorded) → SaysNothingNew xs z → SaysNothingNew (xs ++ ys) z
nothing-front xs ys z (inl q) = inl q
nothing-front xs ys z (inr h) = inr (among-front xs ys z h)

-- what is told was recorded
among-recorded : {xs ys : List Recorded} → AreNews xs ys → (z : Recorded) → IsAmong ys z → IsAmong xs z
among-recorded none z h = h
among-recorded (passed {xs} {ys} x n k) z h = among-front xs (x ∷ []) z (among-recorded n z h)
among-recorded (told {xs} {ys} x n k) z h =
    ⊎_elim (λ w. among-front xs (x ∷ []) z (among-recorded n z w)) (λ e. among-last xs x z e) (among-split ys x z h)

-- and what was recorded is told, or its sides are one
among-told : {xs ys : List Recorded} → AreNews xs ys → (z : Recorded) → IsAmong xs z → SaysNothingNew ys z
among-told none z h = absurd h
among-told (passed {xs} {ys} x n k) z h =
    ⊎_elim
    (λ w. among-told n z w)
    (λ e. ⊎_elim (λ q. inl (sym e.left ∙ q ∙ e.right)) (λ w. nothing-same ys x z e (among-told n x w)) k)
    (among-split xs x z h)
among-told (told {xs} {ys} x n k) z h =
    ⊎_elim
    (λ w. nothing-front ys (x ∷ []) z (among-told n z w))
    (λ e. inr (among-last ys x z e))
    (among-split xs x z h)

nothing-recorded : {xs ys : List Recorded} → AreNews xs ys → (z : Recorded) → SaysNothingNew ys z → SaysNothingNew xs z
nothing-recorded n z (inl q) = inl q
nothing-recorded n z (inr h) = inr (among-recorded n z h)

nothing-told : {xs ys : List Recorded} → AreNews xs ys → (z : Recorded) → SaysNothingNew xs z → SaysNothingNew ys z
nothing-told n z (inl q) = inl q
nothing-told n z (inr h) = among-told n z h

-- one more constraint
pub AreNews-tells : (ts : List Tree) (xs : List Recorded) (old new : List Constraint) (x : Constraint) → AreNews xs (map (recorded_of ts) old) → TellsConstraint ts old new x → AreNews (xs ++ recorded_of ts x ∷ []) (map (recorded_of ts) new)
AreNews-tells ts xs old new x n (inl h) =
    rw h.1 (passed (recorded_of ts x) n (nothing-recorded n (recorded_of ts x) h.0))
AreNews-tells ts xs old new x n (inr h) =
    rw (h.1, map-append (recorded_of ts) old (x ∷ [])) (told (recorded_of ts x) n (λ w. h.0 (nothing-told n (recorded_of ts x) w)))

-- one of the constraints says this, by its terms
abbrev pub HasSaid : List Constraint → Said → Type 0
HasSaid [] s = ⊥
HasSaid (x ∷ xs) s = (said x ≡ s) ⊎ HasSaid xs s

-- .. which is the same as saying it by the trees
pub among-said : (ts : List Tree) (xs : List Constraint) (x : Constraint) → HasSaid xs (said x) → IsAmong (map (recorded_of ts) xs) (recorded_of ts x)
among-said ts [] x h = absurd h
among-said ts (y ∷ xs) x (inl e) =
    inl (record {
      relation = ap (λ (s : Said). s.relation) e;
      left = ap (λ (s : Said). tree_at ts s.left) e;
      right = ap (λ (s : Said). tree_at ts s.right) e;
    })
among-said ts (y ∷ xs) x (inr h) = inr (among-said ts xs x h)

pub said-among : (ts : List Tree) (xs : List Constraint) (x : Constraint) → AreApart ts → SidesIn ts x → AllSidesIn ts xs → IsAmong (map (recorded_of ts) xs) (recorded_of ts x) → HasSaid xs (said x)
said-among ts [] x a k h w = absurd w
said-among ts (y ∷ xs) x a k h (inl e) =
    let left = one_term ts y.left x.left a h.0.left k.left e.left in
    let right = one_term ts y.right x.right a h.0.right k.right e.right in
    inl (λ i. record { relation = e.relation i; left = left i; right = right i })
said-among ts (y ∷ xs) x a k h (inr w) = inr (said-among ts xs x a k h.1 w)

-- `==` on what constraints say is equality
same_relation : (a b : Relation) → IsTrue (relation_eq.ghosts.eq a b) ↔ (a ≡ b)
same_relation a b = search rules

same_said : (a b : Said) → IsTrue (said_eq.ghosts.eq a b) ↔ (a ≡ b)
same_said a b =
    let sides = both_true _ _ _ _ (same_id a.left b.left) (same_id a.right b.right) in
    let all = both_true _ _ _ _ (same_relation a.relation b.relation) sides in (
      (λ h. let w = all.0 h in λ i. record { relation = w.0 i; left = w.1.0 i; right = w.1.1 i }),
      λ e. all.1 (ap (λ (s : Said). s.relation) e, (ap (λ (s : Said). s.left) e, ap (λ (s : Said). s.right) e)),
    )

pub has_said : (xs : List Constraint) (s : Said) → list_any (said_eq.ghosts.eq s) (map said xs) ≡ true → HasSaid xs s
has_said [] s h = cc
has_said (x ∷ xs) s h = by_case (said_eq.ghosts.eq s (said x)) refl (λ k. has_said xs s k)
  where
    by_case : (b : Bool) → said_eq.ghosts.eq s (said x) ≡ b → (list_any (said_eq.ghosts.eq s) (map said xs) ≡ true → HasSaid xs s) → HasSaid (x ∷ xs) s
    by_case true q k = inl (sym ((same_said s (said x)).0 q))
    by_case false q k = inr (k (rw q at h))

pub said_has : (xs : List Constraint) (s : Said) → HasSaid xs s → list_any (said_eq.ghosts.eq s) (map said xs) ≡ true
said_has [] s h = absurd h
said_has (x ∷ xs) s (inl e) = let q : said_eq.ghosts.eq s (said x) ≡ true = (same_said s (said x)).1 (sym e) in rw q refl
said_has (x ∷ xs) s (inr h) = let r = said_has xs s h in rw r (or_true (said_eq.ghosts.eq s (said x)))
  where
    or_true : (b : Bool) → (b || true) ≡ true
    or_true true = refl
    or_true false = refl

-- where two sides are two terms, a constraint is new exactly if none said the same
pub tells_new : (ts : List Tree) (xs : List Constraint) (x : Constraint) → AreApart ts → SidesIn ts x → AllSidesIn ts xs → (tree_at ts x.left ≡ tree_at ts x.right → ⊥) → list_any (said_eq.ghosts.eq (said x)) (map said xs) ≡ false → SaysNothingNew (map (recorded_of ts) xs) (recorded_of ts x) → ⊥
tells_new ts xs x a k h apart lacks (inl e) = apart e
tells_new ts xs x a k h apart lacks (inr w) =
    let has = said_has xs (said x) (said-among ts xs x a k h w) in cc

pub tells_old : (ts : List Tree) (xs : List Constraint) (x : Constraint) → list_any (said_eq.ghosts.eq (said x)) (map said xs) ≡ true → SaysNothingNew (map (recorded_of ts) xs) (recorded_of ts x)
tells_old ts xs x has = inr (among-said ts xs x (has_said xs (said x) has))

-- what a store that grows keeps of the constraints told
pub SidesIn-all : (ts : List Tree) (c : Content) (xs : List Constraint) → AreConstraints ts c xs → AllSidesIn ts xs
SidesIn-all ts c [] h = tt
SidesIn-all ts c (x ∷ xs) h =
    (record { left = h.0.left_in; right = h.0.right_in }, SidesIn-all ts c xs h.1)

pub recorded-kept : (a b : List Tree) (xs : List Constraint) → Extends a b → AllSidesIn a xs → map (recorded_of b) xs ≡ map (recorded_of a) xs
recorded-kept a b [] e h = refl
recorded-kept a b (x ∷ xs) e h =
    let left = e.kept x.left h.0.left in
    let right = e.kept x.right h.0.right in
    let rest = recorded-kept a b xs e h.1 in
    λ i. record { relation = x.relation; left = left i; right = right i; is_visible = x.is_visible } ∷ rest i

pub AreConstraints-moved : (a b : List Tree) (e : Entries) (xs : List Constraint) → IsLawful a e → Extends a b → AreConstraints a (content_of a e) xs → AreConstraints b (content_of b e) xs
AreConstraints-moved a b e [] lawful up h = tt
AreConstraints-moved a b e (x ∷ xs) lawful up h =
    let same = content_of-extended up lawful in
    let left = up.kept x.left h.0.left_in in
    let right = up.kept x.right h.0.right_in in (
      record {
        left_in = IsIn-extended up x.left h.0.left_in;
        right_in = IsIn-extended up x.right h.0.right_in;
        left_known = rw (same, left) h.0.left_known;
        right_known = rw (same, right) h.0.right_known;
        left_sort = rw left h.0.left_sort;
        right_sort = rw right h.0.right_sort;
        regions = rw (left, right) h.0.regions;
      },
      AreConstraints-moved a b e xs lawful up h.1,
    )

pub AreConstraints-told : (ts : List Tree) (c : Content) (old new : List Constraint) (x : Constraint) → AreConstraints ts c old → IsConstraint ts c x → TellsConstraint ts old new x → AreConstraints ts c new
AreConstraints-told ts c old new x h k (inl w) = rw w.1 h
AreConstraints-told ts c old new x h k (inr w) = rw w.1 (AreConstraints-push ts c old x h k)

pub constraint_at : (ts : List Tree) (c : Content) (xs : List Constraint) (i : ℕ) (x : Constraint) → AreConstraints ts c xs → slice_get xs i ≡ Some x → IsConstraint ts c x
constraint_at ts c [] i x h e = cc
constraint_at ts c (y ∷ xs) zero x h e = let same : y ≡ x = cc in rw (← same) h.0
constraint_at ts c (y ∷ xs) (suc i) x h e = constraint_at ts c xs i x h.1 e

pub take_next : (f : Recorded → Recorded) (g : Constraint → Recorded) (xs : List Constraint) (i : ℕ) (x : Constraint) → slice_get xs i ≡ Some x → take (suc i) (map f (map g xs)) ≡ take i (map f (map g xs)) ++ f (g x) ∷ []
take_next f g [] i x e = cc
take_next f g (y ∷ xs) zero x e = let same : y ≡ x = cc in rw same refl
take_next f g (y ∷ xs) (suc i) x e = ap (λ zs. f (g y) ∷ zs) (take_next f g xs i x e)

AreRegions-resolved : (c : Content) (k : Relation) (a b : Tree) → AreRegions k a b → AreRegions k (deeply_resolved c a) (deeply_resolved c b)
AreRegions-resolved c relation.Equal a b h = (IsRegion-deeply_resolved c a h.0, IsRegion-deeply_resolved c b h.1)
AreRegions-resolved c relation.RegionOutlives a b h = tt
AreRegions-resolved c relation.TypeOutlives a b h = tt

-- a constraint with its sides resolved, the left one first
pub record ResolvedSides (a d : List Tree) (e : Entries) (x y : Constraint) : Type 0 where
  pub recorded : recorded_of d y ≡ resolved_constraint (content_of a e) (recorded_of a x)
  pub sides : IsConstraint d (content_of d e) y

pub resolved_sides : (a b d : List Tree) (e : Entries) (x : Constraint) (l r : NodeId) → IsLawful a e → IsConstraint a (content_of a e) x → Extends a b → Extends b d → IsIn b l → tree_at b l ≡ deeply_resolved (content_of a e) (tree_at a x.left) → IsIn d r → tree_at d r ≡ deeply_resolved (content_of b e) (tree_at b x.right) → ResolvedSides a d e x (record x { left = l; right = r })
resolved_sides a b d e x l r lawful h up on l_in l_is r_in r_is =
    let c = content_of a e in
    let first : content_of b e ≡ c = content_of-extended up lawful in
    let second : content_of d e ≡ c = content_of-extended on (IsLawful-extended up lawful) ∙ first in
    let left : tree_at d l ≡ deeply_resolved c (tree_at a x.left) = on.kept l l_in ∙ l_is in
    let right_side = up.kept x.right h.right_in in
    let right : tree_at d r ≡ deeply_resolved c (tree_at a x.right) = r_is ∙ cc (first, right_side) in
    record {
      recorded = λ i. record { relation = x.relation; left = left i; right = right i; is_visible = x.is_visible };
      sides = record {
        left_in = IsIn-extended on l l_in;
        right_in = r_in;
        left_known = rw (second, left) (Knows-deeply_resolved c (tree_at a x.left) lawful.sound h.left_known);
        right_known = rw (second, right) (Knows-deeply_resolved c (tree_at a x.right) lawful.sound h.right_known);
        left_sort = ap kind_of left ∙ kind_of-deeply_resolved c (tree_at a x.left) lawful.sound h.left_known ∙ h.left_sort;
        right_sort = ap kind_of right ∙ kind_of-deeply_resolved c (tree_at a x.right) lawful.sound h.right_known ∙ h.right_sort;
        regions = rw (left, right) (AreRegions-resolved c x.relation (tree_at a x.left) (tree_at a x.right) h.regions);
      };
    }

-- the entries of a table are those of a store that grew
pub AreNews-moved : (a b : List Tree) (c : Content) (xs : List Recorded) (ys : List Constraint) → Extends a b → AreConstraints a c ys → AreNews xs (map (recorded_of a) ys) → AreNews xs (map (recorded_of b) ys)
AreNews-moved a b c xs ys up h n = rw (recorded-kept a b ys up (SidesIn-all a c ys h)) n

slice_get_some : (xs : List Constraint) (i : ℕ) → i < length xs → (x : Constraint) × (slice_get xs i ≡ Some x)
slice_get_some [] i h = absurd (omega (arith, h))
slice_get_some (x ∷ xs) zero h = (x, refl)
slice_get_some (x ∷ xs) (suc i) h = slice_get_some xs i (omega (arith, h))

-- one turn: the next constraint, resolved in a store that grew, is told if it says something new
pub next_news : (a b d : List Tree) (e : Entries) (i : ℕ) (r : Constraint) (old new : List Constraint) → IsLawful a e → Extends a b → i < length e.constraints → ((x : Constraint) → slice_get e.constraints i ≡ Some x → recorded_of d r ≡ resolved_constraint (content_of b e) (recorded_of b x)) → AreNews (take i (resolved_constraints (content_of a e))) (map (recorded_of d) old) → TellsConstraint d old new r → AreNews (take (i + 1) (resolved_constraints (content_of a e))) (map (recorded_of d) new)
next_news a b d e i r old new lawful up below is n t =
    let at = slice_get_some e.constraints i below in
    let x = at.0 in
    let held = constraint_at a (content_of a e) e.constraints i x lawful.constraints at.1 in
    let same = content_of-extended up lawful in
    let left = up.kept x.left held.left_in in
    let right = up.kept x.right held.right_in in
    let one : recorded_of b x ≡ recorded_of a x = λ j. record { relation = x.relation; left = left j; right = right j; is_visible = x.is_visible } in
    let resolved_is : recorded_of d r ≡ resolved_constraint (content_of a e) (recorded_of a x) = is x at.1 ∙ cc (same, one) in
    let longer : take (i + 1) (resolved_constraints (content_of a e)) ≡ take i (resolved_constraints (content_of a e)) ++ recorded_of d r ∷ [] = ap (λ k. take k (resolved_constraints (content_of a e))) (add-one i) ∙ take_next (resolved_constraint (content_of a e)) (recorded_of a) e.constraints i x at.1 ∙ ap (λ z. take i (resolved_constraints (content_of a e)) ++ z ∷ []) (sym resolved_is) in
    rw longer (AreNews-tells d (take i (resolved_constraints (content_of a e))) old new r n t)
