-- From what was found while a candidate ran to a proof of its goal.
use Rattle.std.proofs.Common.{◌≡◌, ◌⊎◌, inl, inr, ⊎_elim, ℕ, zero, suc, ◌+◌, ◌<◌, Bool, false, List, [], ◌∷◌, ◌++◌, length, get_or, take, map, Some, refl, sym, ap, ◌∙◌, subst, arith}
use Rattle.std.proofs.lemmas.List.{take_more}
use Rattle.nts_model.specs.declared.labels.Sort.{Sort}
use Rattle.nts_model.specs.declared.labels.Sort.TheVariants as sort
use Rattle.nts_model.specs.declared.labels.Relation.{Relation}
use Rattle.nts_model.specs.declared.labels.Relation.TheVariants as relation
use Rattle.nts_model.specs.declared.labels.ListHead.{ListHead}
use Rattle.nts_model.specs.declared.labels.ListHead.TheVariants as list
use Rattle.nts_model.specs.declared.labels.Label.{Label}
use Rattle.nts_model.specs.declared.labels.Label.TheVariants as label
use Rattle.nts_model.specs.Terms.Trees.{Tree, empty, node, kind_of, kind_of_label, of_sort, any_argument, FitsPlace, shape, Meets, IsFormed}
use Rattle.nts_model.specs.Tables.Contents.{Content, Recorded}
use Rattle.nts_model.specs.Tables.Resolving.{deeply_resolved, Knows}
use Rattle.nts_model.specs.Tables.Holding.{AreOne, IsTrivialUnder, HasSides, HoldsConstraint, Continues}
use Rattle.nts_model.specs.Tables.Alike.{Alike, one_tree, two_regions, one_label, two_rows, HoldsEqual, AreAlike}
use Rattle.nts_model.specs.Lists.{Among}
use Rattle.nts_model.specs.Derivations.Sequents.{Premise}
use Rattle.nts_model.specs.Derivations.Rules.{Mode, Meaning, GoalKind, goal_kind, step_kind}
use Rattle.nts_model.specs.Derivations.Proofs.{Assumed, passed}
use Rattle.nts_model.specs.Searching.Stacks.{IsProvedFrom}
use Rattle.nts_model.specs.Terms.Substitutions.{filled}
use Rattle.nts_model.specs.Derivations.Handlers.{Candidate, certain, AreValuesOf}
use Rattle.nts_model.specs.Derivations.Proving as proving
use Rattle.nts_model.specs.Derivations.Proving.{AreEquated, HoldsEquationAt}
use Rattle.nts_model.proofs.Tables.Held.{Continues-refl, Continues-trans, HoldsConstraint-continues, HoldsConstraint-with_constraint}
use Rattle.nts_model.proofs.Tables.Alike.{AreAlike-continues}
use Rattle.nts_model.proofs.Tables.Resolved.{deeply_resolved-deeply_resolved}
use Rattle.nts_model.proofs.Tables.Slots.{Knows-kept}
use Rattle.nts_model.proofs.Tables.Kept.{kind_of-deeply_resolved}
use Rattle.nts_model.proofs.Tables.ResolvedTerms.{IsFormed-deeply_resolved}
use Rattle.nts_certainty.specs.declared.certainty.Certainty.{Certainty}
use Rattle.nts_certainty.specs.declared.certainty.Certainty.TheVariants as certainty
use Rattle.nts_store.specs.declared.nodes.NodeId.{NodeId}
use Rattle.nts_certainty.specs.Certainties.{both}
use Rattle.nts_store.specs.Growth.{tree_at, IsIn, AllIn, Extends}
use Rattle.nts_store.specs.Kept.{map-kept}
use Rattle.nts_store.specs.Formed.{AreFormed}
use Rattle.nts_table.proofs.TermTables.{known_all, holds_terms}
use Rattle.nts_table.specs.Tables.{Table}
use Rattle.nts_unify.specs.Lawful.{content_of-constrained}
use Rattle.nts_unify.specs.declared.contents.Constraint.{Constraint}
use Rattle.nts_unify.specs.Recording.{Records}
use Rattle.nts_model.specs.Tables.Recording.{left_kind}
use Rattle.nts_unify.specs.Reading.{content_of, recorded_of, AreConstraints}
use Rattle.nts_table.specs.Tables.{IsTable}
use Rattle.nts_candidates.specs.declared.data.Equation.{Equation}
use Rattle.nts_candidates.specs.declared.data.EquationKind.{EquationKind}
use Rattle.nts_candidates.specs.declared.data.EquationKind.TheVariants as kind_data
use Rattle.nts_candidates.specs.declared.data.RegionConstraint.{RegionConstraint}
use Rattle.nts_candidates.specs.declared.data.CandidateGoal.{CandidateGoal}
use Rattle.nts_candidates.specs.declared.data.CandidateData.{CandidateData}
use Rattle.nts_terms.specs.declared.handles.Goal.{Goal}
use Rattle.nts_delegate.specs.Candidates.{AreEquations, AreRegionConstraints, AreNested, IsCandidate, AreCandidates}
use Rattle.nts_certainty.specs.Accesses.{access_of}
use Rattle.nts_candidates.specs.Offered.{certainty_of, source_of, equation_as, equation_of, hidden_of, constraint_of, premise_of, candidate_of, candidates_of}
use Rattle.nts_meaning.specs.Meant.{HoldsSurely}
use Rattle.nts_meaning.specs.Running.{Stays, EquationHolds, ConstraintHolds, PremiseHolds, EachStays, EquatesEach, Constrains}
use Rattle.nts_theory.specs.Telling.{IsTermTable}
use Rattle.nts_meaning.specs.Evaluation.{Goes, AllKnown}
use Rattle.nts_table.specs.Tables.{IsTermIn}
use Rattle.nts_meaning.proofs.Evaluating.{candidate_at, Knows-goes}
use Rattle.nts_model.proofs.Terms.Substituting.{no_children as no_places}

-- what stays, stays
pub Stays-later : {a b : List Tree} {t u : Table} {P : Content → Type 0} → Goes a b t u → Stays (content_of a t.entries) P → Stays (content_of b u.entries) P
Stays-later {a} {b} {t} {u} {P} g h =
    record { later = λ d s k. h.later d s (Continues-trans (content_of a t.entries) (content_of b u.entries) d g.sound g.continues k) }

EachStays-later : {A : Type 0} {a b : List Tree} {t u : Table} (P : A → Content → Type 0) (xs : List A) → Goes a b t u → EachStays (content_of a t.entries) P xs → EachStays (content_of b u.entries) P xs
EachStays-later P [] g h = tt
EachStays-later P (x ∷ xs) g h = (Stays-later g h.0, EachStays-later P xs g h.1)

pub Stays-map : {c : Content} {P Q : Content → Type 0} → ((d : Content) → IsTermTable d → Continues c d → P d → Q d) → Stays c P → Stays c Q
Stays-map f h = record { later = λ d s k. f d s k (h.later d s k) }

-- what each of a list does, one of them does
each_stays : {A : Type 0} (c : Content) (P : A → Content → Type 0) (xs : List A) (x : A) → EachStays c P xs → Among xs x → Stays c (P x)
each_stays c P [] x h i = absurd i
each_stays c P (y ∷ xs) x h i = ⊎_elim (λ e. subst (λ z. Stays c (P z)) (sym e) h.0) (λ j. each_stays c P xs x h.1 j) i

-- a table in a store of terms
sides_formed : (ts : List Tree) (c : Content) (xs : List Constraint) → AreFormed ts → AreConstraints ts c xs → (k : ℕ) (x : Recorded) → k < length (map (recorded_of ts) xs) → get_or (map (recorded_of ts) xs) k x ≡ x → proving.IsTermOf c x.left × proving.IsTermOf c x.right
sides_formed ts c [] f h k x l e = absurd (omega arith)
sides_formed ts c (y ∷ xs) f h zero x l e =
    let q = h.0 in
    subst (λ z. proving.IsTermOf c z.left × proving.IsTermOf c z.right) e
    (record { knows = q.left_known; formed = f y.left q.left_in }, record { knows = q.right_known; formed = f y.right q.right_in })
sides_formed ts c (y ∷ xs) f h (suc k) x l e = sides_formed ts c xs f h.1 k x (omega (arith, l)) e

pub term_table : {ts : List Tree} {t : Table} → AreFormed ts → IsTable ts t → IsTermTable (content_of ts t.entries)
term_table {ts} {t} f h =
    let sides = sides_formed ts (content_of ts t.entries) t.entries.constraints f h.now.constraints in
    record {
      sound = h.now.sound;
      values = holds_terms f h;
      constraints = record {
        left = λ x i. (sides i.0 x i.1 i.2).0;
        right = λ x i. (sides i.0 x i.1 i.2).1;
      };
    }

-- .. now
pub Stays-now : {a : List Tree} {t : Table} {P : Content → Type 0} → AreFormed a → IsTable a t → Stays (content_of a t.entries) P → P (content_of a t.entries)
Stays-now {a} {t} {P} f h k =
    k.later (content_of a t.entries) (term_table f h) (Continues-refl (content_of a t.entries) h.now.sound)

-- a term stays one
pub term_later : (c d : Content) (t : Tree) → Continues c d → Knows c t → IsFormed t → proving.IsTermOf d t
term_later c d t k h f = record { knows = Knows-kept c d t (record { grows = k.grows; kinds = k.kinds }) h; formed = f }

-- trees that are alike stay so, and a constraint that is held is held later
pub alike_stays : {ts : List Tree} {t : Table} (a b : Tree) → IsTable ts t → Knows (content_of ts t.entries) a → Knows (content_of ts t.entries) b → AreAlike (content_of ts t.entries) a b → Stays (content_of ts t.entries) (λ d. AreAlike d a b)
alike_stays {ts} {t} a b h x y k =
    record { later = λ d s e. AreAlike-continues (content_of ts t.entries) d a b h.now.sound s.sound e (known_all h) x y k }

pub held_stays : {ts : List Tree} {t : Table} (x : Recorded) → IsTable ts t → Knows (content_of ts t.entries) x.left → Knows (content_of ts t.entries) x.right → HoldsConstraint (content_of ts t.entries) x → Stays (content_of ts t.entries) (λ d. HoldsConstraint d x)
held_stays {ts} {t} x h a b k =
    record { later = λ d s e. HoldsConstraint-continues (content_of ts t.entries) d x e (known_all h) a b k }

-- a constraint that was recorded is held, and one whose sides are one tree is trivial
trivial_outlives : (d : Content) (r : Relation) (a b : Tree) → (r ≡ relation.TypeOutlives → ⊥) → a ≡ b → IsTrivialUnder d r a b
trivial_outlives d relation.Equal a b n e = ap (deeply_resolved d) e
trivial_outlives d relation.RegionOutlives a b n e = ap (deeply_resolved d) e
trivial_outlives d relation.TypeOutlives a b n e = absurd (n refl)

pub is_region_outlives : (r : Relation) → (r ≡ relation.TypeOutlives → ⊥) → (r ≡ relation.Equal → ⊥) → r ≡ relation.RegionOutlives
is_region_outlives relation.Equal n m = absurd (m refl)
is_region_outlives relation.RegionOutlives n m = refl
is_region_outlives relation.TypeOutlives n m = absurd (n refl)

no_type : (r : Relation) (a b : Tree) → kind_of a ≡ Some (left_kind r) → kind_of b ≡ Some (of_sort sort.Region) → a ≡ b → r ≡ relation.TypeOutlives → ⊥
no_type relation.Equal a b k j e q = cc
no_type relation.RegionOutlives a b k j e q = cc
no_type relation.TypeOutlives a b k j e q = let s : Some (left_kind relation.TypeOutlives) ≡ Some (of_sort sort.Region) = sym k ∙ ap kind_of e ∙ j in cc

pub recorded_stays : {ts : List Tree} {t u : Table} (x : Constraint) → Goes ts ts t u → IsTermIn ts t x.left → IsTermIn ts t x.right → kind_of (tree_at ts x.left) ≡ Some (left_kind x.relation) → kind_of (tree_at ts x.right) ≡ Some (of_sort sort.Region) → Records ts t.entries u.entries x → Stays (content_of ts u.entries) (λ d. HoldsConstraint d (recorded_of ts x))
recorded_stays {ts} {t} {u} x g l r k j (inl e) =
    record { later = λ d s n. inl (trivial_outlives d x.relation (tree_at ts x.left) (tree_at ts x.right) (no_type x.relation (tree_at ts x.left) (tree_at ts x.right) k j e.0) e.0) }
recorded_stays {ts} {t} {u} x g l r k j (inr e) =
    held_stays (recorded_of ts x) g.table (Knows-goes (tree_at ts x.left) g l.knows) (Knows-goes (tree_at ts x.right) g r.knows) (rw (e.1, content_of-constrained ts t.entries x) (HoldsConstraint-with_constraint (content_of ts t.entries) (recorded_of ts x)))

-- whether a constraint is seen has no say in whether it is held
unseen_sides : (d : Content) (r : Relation) (a b : Tree) (v w : Bool) (y : Recorded) → HasSides d r (record { relation = r; left = a; right = b; is_visible = v }) y → HasSides d r (record { relation = r; left = a; right = b; is_visible = w }) y
unseen_sides d relation.Equal a b v w y h = h
unseen_sides d relation.RegionOutlives a b v w y h = h
unseen_sides d relation.TypeOutlives a b v w y h = h

pub unseen : (d : Content) (r : Relation) (a b : Tree) (v w : Bool) → HoldsConstraint d (record { relation = r; left = a; right = b; is_visible = v }) → HoldsConstraint d (record { relation = r; left = a; right = b; is_visible = w })
unseen d r a b v w (inl h) = inl h
unseen d r a b v w (inr z) =
    inr (record { constraint = z.constraint; found = z.found; same_relation = z.same_relation; same_sides = unseen_sides d r a b v w z.constraint z.same_sides })

-- regions that are alike are held to be one
region_label : (l : Label) (x : Tree) → kind_of_label l ≡ of_sort sort.Region → Meets (shape l) x → x ≡ empty
region_label (label.Leaf y) x k m = no_places x m
region_label (label.Bound s i n) x k m = no_places x m
region_label (label.Ty h) x k m = cc
region_label (label.Const h) x k m = cc
region_label (label.Clause h) x k m = cc
region_label (label.Predicate h) x k m = cc
region_label (label.List h) x k m = list_label h k
  where
    list_label : (h : ListHead) → kind_of_label (label.List h) ≡ of_sort sort.Region → x ≡ empty
    list_label list.Args k = cc
    list_label list.Env k = cc
    list_label list.Sorts k = cc
    list_label (list.Sort s) k = cc
    list_label list.Binder k = cc

alike_regions : (c : Content) (x y : Tree) → kind_of x ≡ Some (of_sort sort.Region) → kind_of y ≡ Some (of_sort sort.Region) → IsFormed x → IsFormed y → Alike (HoldsEqual c) x y → (x ≡ y) ⊎ HoldsEqual c x y
alike_regions c x y i j f g one_tree = inl refl
alike_regions c x y i j f g (two_regions p q r) = inr r
alike_regions c _ _ i j f g (one_label {l = l} {c = a} {d = b} n al) =
    let k : kind_of_label l ≡ of_sort sort.Region = cc in
    inl (ap (node l) (region_label l a k f.0 ∙ sym (region_label l b k g.0)))
alike_regions c _ _ i j f g (two_rows al bl) = cc

pub regions_held : (c : Content) (a b : Tree) → IsTermTable c → proving.IsTermOf c a → proving.IsTermOf c b → kind_of a ≡ Some (of_sort sort.Region) → kind_of b ≡ Some (of_sort sort.Region) → AreAlike c a b → HoldsEqual c a b
regions_held c a b t p q i j h =
    let s = t.sound in
    let x = deeply_resolved c a in
    let y = deeply_resolved c b in
    let left : deeply_resolved c (deeply_resolved c a) ≡ deeply_resolved c a = deeply_resolved-deeply_resolved c a s in
    let right : deeply_resolved c (deeply_resolved c b) ≡ deeply_resolved c b = deeply_resolved-deeply_resolved c b s in
    ⊎_elim
    (λ e. inl e)
    (λ r. unread_equal r left right)
    (alike_regions c x y (kind_of-deeply_resolved c a s p.knows ∙ i) (kind_of-deeply_resolved c b s q.knows ∙ j) (IsFormed-deeply_resolved c a s t.values p.knows p.formed) (IsFormed-deeply_resolved c b s t.values q.knows q.formed) h)
  where
    unread_equal : HoldsEqual c (deeply_resolved c a) (deeply_resolved c b) → deeply_resolved c (deeply_resolved c a) ≡ deeply_resolved c a → deeply_resolved c (deeply_resolved c b) ≡ deeply_resolved c b → HoldsEqual c a b
    unread_equal (inl e) l r = inl (sym l ∙ e ∙ r)
    unread_equal (inr z) l r =
        inr (record {
          constraint = z.constraint;
          found = z.found;
          same_relation = z.same_relation;
          same_sides = ⊎_elim (λ (w : AreOne c (deeply_resolved c a) z.constraint.left × AreOne c (deeply_resolved c b) z.constraint.right). inl (sym l ∙ w.0, sym r ∙ w.1)) (λ w. inr (sym l ∙ w.0, sym r ∙ w.1)) z.same_sides;
        })

-- an equation by its kind
pub equated : (d : Content) (vs : List Tree) (k : EquationKind) (a b : Tree) → AreEquated d vs a b → HoldsEquationAt d vs (equation_as k a b)
equated d vs kind_data.Related a b h = h
equated d vs kind_data.Structural a b h = h

-- the term y of the store b, with the tree of a filled one, is a term of each later table
later_term : {b e : List Tree} {t u : Table} {y : NodeId} {x : Tree} (d : Content) → Goes b e t u → AreFormed b → IsTermIn b t y → tree_at b y ≡ x → Continues (content_of e u.entries) d → proving.IsTermOf d x
later_term {b} {e} {t} {u} {y} {x} d g f h q k =
    subst (proving.IsTermOf d) q (term_later (content_of e u.entries) d (tree_at b y) k (Knows-goes (tree_at b y) g h.knows) (f y h.within))

-- an equation whose sides were made equal
pub equation_stays : {b e : List Tree} {t u : Table} {x y : NodeId} (a : List Tree) (vs : List Tree) (q : Equation) → Goes b e t u → AreFormed b → IsTermIn b t x → IsTermIn b t y → tree_at b x ≡ filled vs (tree_at a q.lhs.node) → tree_at b y ≡ filled vs (tree_at a q.rhs.node) → kind_of (tree_at b x) ≡ kind_of (tree_at a q.lhs.node) → FitsPlace any_argument (kind_of (tree_at a q.lhs.node)) → Stays (content_of e u.entries) (λ d. AreAlike d (tree_at b x) (tree_at b y)) → Stays (content_of e u.entries) (EquationHolds vs (equation_of a q))
equation_stays {b} {e} {t} {u} {x} {y} a vs q g f l r i j k w h =
    record {
      later = λ d s n.
          equated d vs q.kind (tree_at a q.lhs.node) (tree_at a q.rhs.node)
          (record {
            left = later_term d g f l i n;
            right = later_term d g f r j n;
            argument = rw (← i, k) w;
            alike = rw (i, j) at (h.later d s n);
          });
    }

-- a constraint whose sides were recorded, or made equal
pub constraint_stays : {b e : List Tree} {t u : Table} {y z : NodeId} (a : List Tree) (vs : List Tree) (x : RegionConstraint) → Goes b e t u → AreFormed b → IsTermIn b t y → IsTermIn b t z → tree_at b y ≡ filled vs (tree_at a x.left.node) → tree_at b z ≡ filled vs (tree_at a x.right.node) → Stays (content_of e u.entries) (λ d. HoldsConstraint d (record { relation = x.relation; left = tree_at b y; right = tree_at b z; is_visible = false })) → Stays (content_of e u.entries) (ConstraintHolds vs (constraint_of a x))
constraint_stays {b} {e} {t} {u} {y} {z} a vs x g f l r i j h =
    record {
      later = λ d s n. record {
        left = later_term d g f l i n;
        right = later_term d g f r j n;
        held = rw (i, j) at (h.later d s n);
      };
    }

pub equality_stays : {b e : List Tree} {t u : Table} {y z : NodeId} (r : Relation) → r ≡ relation.Equal → Goes b e t u → AreFormed b → IsTermIn b t y → IsTermIn b t z → kind_of (tree_at b y) ≡ Some (left_kind r) → kind_of (tree_at b z) ≡ Some (of_sort sort.Region) → Stays (content_of e u.entries) (λ d. AreAlike d (tree_at b y) (tree_at b z)) → Stays (content_of e u.entries) (λ d. HoldsConstraint d (record { relation = r; left = tree_at b y; right = tree_at b z; is_visible = false }))
equality_stays {b} {e} {t} {u} {y} {z} r q g f l k i j h =
    record {
      later = λ d s n. rw q (regions_held d (tree_at b y) (tree_at b z) s (later_term d g f l refl n) (later_term d g f k refl n) (rw q at i) j (h.later d s n));
    }

-- one of the values
one_known : (c : Content) (vs : List Tree) (v : Tree) → AllKnown c vs → Among vs v → Knows c v
one_known c [] v h i = absurd i
one_known c (x ∷ xs) v h (inl e) = rw e h.0
one_known c (x ∷ xs) v h (inr i) = one_known c xs v h.1 i

-- the parts of a candidate that was run hold
pub record HasRun (m : Meaning) (mode : Mode) (z : GoalKind) (A : List Assumed) (c : Content) (x : Candidate) (vs : List Tree) : Type 0 where
  pub sure : x.certainty ≡ certain
  pub values : AreValuesOf x.fresh vs
  pub known : AllKnown c vs
  pub equations : EachStays c (EquationHolds vs) x.equations
  pub constraints : EachStays c (ConstraintHolds vs) x.constraints
  pub goals : EachStays c (PremiseHolds m mode z A vs) x.goals

-- so the candidate holds
pub has_run : (m : Meaning) (mode : Mode) (A : List Assumed) (c : Content) (x : Candidate) (vs : List Tree) (e g : Tree) → IsTermTable c → HasRun m mode (goal_kind m g) A c x vs → HoldsSurely m mode A c e g x
has_run m mode A c x vs e g t run =
    let same = Continues-refl c t.sound in
    record {
      sure = run.sure;
      holds = inl (record {
        chosen = vs;
        values = run.values;
        known = λ v i. one_known c vs v run.known i;
        equations = λ q i. (let s = each_stays c (EquationHolds vs) x.equations q run.equations i in s.later c t same);
        constraints = λ q i. (let s = each_stays c (ConstraintHolds vs) x.constraints q run.constraints i in s.later c t same);
        goals = λ q i. (let s = each_stays c (PremiseHolds m mode (goal_kind m g) A vs) x.goals q run.goals i in s.later c t same);
      });
    }

-- lists of a candidate's parts, whose values stand in a store that grows
pub Equates-later : {b e : List Tree} {t u : Table} (a : List Tree) (vs : List NodeId) (qs : List Equation) → Goes b e t u → AllIn b vs → EquatesEach a b t vs qs → EquatesEach a e u vs qs
Equates-later {b} {e} {t} {u} a vs qs g w h =
    rw (map-kept b e vs w g.extends) (EachStays-later (EquationHolds (map (tree_at b) vs)) (map (equation_of a) qs) g h)

pub Constrains-later : {b e : List Tree} {t u : Table} (a : List Tree) (vs : List NodeId) (qs : List RegionConstraint) → Goes b e t u → AllIn b vs → Constrains a b t vs qs → Constrains a e u vs qs
Constrains-later {b} {e} {t} {u} a vs qs g w h =
    rw (map-kept b e vs w g.extends) (EachStays-later (ConstraintHolds (map (tree_at b) vs)) (map (constraint_of a) qs) g h)

-- .. and one part more
Equates-push : (a b : List Tree) (t : Table) (vs : List NodeId) (qs : List Equation) (q : Equation) → EquatesEach a b t vs qs → Stays (content_of b t.entries) (EquationHolds (map (tree_at b) vs) (equation_of a q)) → EquatesEach a b t vs (qs ++ q ∷ [])
Equates-push a b t vs [] q h k = (k, tt)
Equates-push a b t vs (x ∷ qs) q h k = (h.0, Equates-push a b t vs qs q h.1 k)

Constrains-push : (a b : List Tree) (t : Table) (vs : List NodeId) (qs : List RegionConstraint) (q : RegionConstraint) → Constrains a b t vs qs → Stays (content_of b t.entries) (ConstraintHolds (map (tree_at b) vs) (constraint_of a q)) → Constrains a b t vs (qs ++ q ∷ [])
Constrains-push a b t vs [] q h k = (k, tt)
Constrains-push a b t vs (x ∷ qs) q h k = (h.0, Constrains-push a b t vs qs q h.1 k)

-- both are sure where their join is
pub both_sure : (a b : Certainty) → both a b ≡ certainty.Yes → (a ≡ certainty.Yes) × (b ≡ certainty.Yes)
both_sure certainty.Yes b h = (refl, h)
both_sure (certainty.Maybe x) certainty.Yes h = cc
both_sure (certainty.Maybe x) (certainty.Maybe y) h = cc

-- the parts of a candidate in a store that has grown
pub equation-kept : {a b : List Tree} (q : Equation) → Extends a b → IsIn a q.lhs.node → IsIn a q.rhs.node → equation_of b q ≡ equation_of a q
equation-kept q e l r =
    let left = e.kept q.lhs.node l in
    let right = e.kept q.rhs.node r in
    λ i. equation_as q.kind (left i) (right i)

pub constraint-kept : {a b : List Tree} (x : RegionConstraint) → Extends a b → IsIn a x.left.node → IsIn a x.right.node → constraint_of b x ≡ constraint_of a x
constraint-kept x e l r =
    let left = e.kept x.left.node l in
    let right = e.kept x.right.node r in
    λ i. record { relation = x.relation; left = left i; right = right i }

pub premise-kept : {a b : List Tree} (h : CandidateGoal) → Extends a b → IsIn a h.goal.param_env.node → IsIn a h.goal.predicate.node → premise_of b h ≡ premise_of a h
premise-kept h e l r =
    let env = e.kept h.goal.param_env.node l in
    let predicate = e.kept h.goal.predicate.node r in
    λ i. record { source = source_of h.source; environment = env i; predicate = predicate i }

-- what is proved of read trees is proved of the trees
pub unread : {a b : List Tree} {t u : Table} {m : Meaning} {mode : Mode} {A : List Assumed} (x y p q : Tree) → Goes a b t u → p ≡ deeply_resolved (content_of a t.entries) x → q ≡ deeply_resolved (content_of a t.entries) y → Knows (content_of a t.entries) x → Knows (content_of a t.entries) y → Stays (content_of b u.entries) (λ d. IsProvedFrom m mode A d p q) → Stays (content_of b u.entries) (λ d. IsProvedFrom m mode A d x y)
unread {a} {b} {t} {u} {m} {mode} {A} x y p q g e f i j h =
    record {
      later = λ d s k.
          (let c = content_of a t.entries in
          let all = Continues-trans c (content_of b u.entries) d g.sound g.continues k in
          let first : deeply_resolved d p ≡ deeply_resolved d x = ap (deeply_resolved d) e ∙ all.values x i in
          let second : deeply_resolved d q ≡ deeply_resolved d y = ap (deeply_resolved d) f ∙ all.values y j in
          rw (← first, ← second) (h.later d s k));
    }

-- a goal of a candidate that is proved
pub premise_stays : {a b : List Tree} {t u : Table} {m : Meaning} {mode : Mode} (z : GoalKind) (A : List Assumed) {vs : List Tree} {q : Premise} → Goes a b t u → Knows (content_of a t.entries) (filled vs q.environment) → Knows (content_of a t.entries) (filled vs q.predicate) → IsFormed (filled vs q.environment) → IsFormed (filled vs q.predicate) → Stays (content_of b u.entries) (λ d. IsProvedFrom m mode (passed (step_kind z q.source) A) d (filled vs q.environment) (filled vs q.predicate)) → Stays (content_of b u.entries) (PremiseHolds m mode z A vs q)
premise_stays {a} {b} {t} {u} {m} {mode} z A {vs} {q} g i j f k h =
    record {
      later = λ d s n. record {
        environment = term_later (content_of b u.entries) d (filled vs q.environment) n (Knows-goes (filled vs q.environment) g i) f;
        predicate = term_later (content_of b u.entries) d (filled vs q.predicate) n (Knows-goes (filled vs q.predicate) g j) k;
        proved = h.later d s n;
      };
    }

-- a candidate in a store that has grown
equations-kept : (a b : List Tree) (fresh : List Sort) (g : Goal) (qs : List Equation) → Extends a b → AreEquations a fresh g qs → map (equation_of b) qs ≡ map (equation_of a) qs
equations-kept a b fresh g [] e h = refl
equations-kept a b fresh g (q ∷ qs) e h =
    let first = equation-kept {a = a} {b = b} q e h.0.lhs.within h.0.rhs.within in
    let rest = equations-kept a b fresh g qs e h.1 in
    λ i. first i ∷ rest i

pub constraints-kept : (a b : List Tree) (fresh : List Sort) (g : Goal) (xs : List RegionConstraint) → Extends a b → AreRegionConstraints a fresh g xs → map (constraint_of b) xs ≡ map (constraint_of a) xs
constraints-kept a b fresh g [] e h = refl
constraints-kept a b fresh g (x ∷ xs) e h =
    let first = constraint-kept {a = a} {b = b} x e h.0.left.within h.0.right.within in
    let rest = constraints-kept a b fresh g xs e h.1 in
    λ i. first i ∷ rest i

pub premises-kept : (a b : List Tree) (fresh : List Sort) (g : Goal) (hs : List CandidateGoal) → Extends a b → AreNested a fresh g hs → map (premise_of b) hs ≡ map (premise_of a) hs
premises-kept a b fresh g [] e h = refl
premises-kept a b fresh g (x ∷ xs) e h =
    let first = premise-kept {a = a} {b = b} x e h.0.env.within h.0.predicate.within in
    let rest = premises-kept a b fresh g xs e h.1 in
    λ i. first i ∷ rest i

-- until hidden types exist
pub candidate-kept : {a b : List Tree} {g : Goal} {d : CandidateData} → Extends a b → IsCandidate a g d → candidate_of b d ≡ candidate_of a d
candidate-kept {a} {b} {g} {d} e h =
    let equations = equations-kept a b d.fresh.items g d.equations.items e h.equations in
    let constraints = constraints-kept a b d.fresh.items g d.region_constraints.items e h.constraints in
    let hidden : map (hidden_of b) d.hidden_types.items ≡ map (hidden_of a) d.hidden_types.items = ap (map (hidden_of b)) h.hidden ∙ sym (ap (map (hidden_of a)) h.hidden) in
    let goals = premises-kept a b d.fresh.items g d.goals.items e h.goals in
    λ i. record { fresh = d.fresh.items; equations = equations i; constraints = constraints i; hidden = hidden i; goals = goals i; certainty = certainty_of d.certainty; accesses = access_of d.accesses }

pub candidates-kept : {a b : List Tree} (g : Goal) (ds : List CandidateData) → Extends a b → AreCandidates a g ds → candidates_of b ds ≡ candidates_of a ds
candidates-kept g [] e h = refl
candidates-kept {a} {b} g (d ∷ ds) e h =
    let first = candidate-kept {a = a} {b = b} {g = g} {d = d} e h.0 in
    let rest = candidates-kept {a = a} {b = b} g ds e h.1 in
    λ i. first i ∷ rest i

-- one of what is offered
among_at : (ts : List Tree) (ds : List CandidateData) (k : ℕ) (x : CandidateData) → k < length ds → Among (candidates_of ts ds) (candidate_of ts (get_or ds k x))
among_at ts [] k x l = absurd (omega arith)
among_at ts (d ∷ ds) zero x l = inl refl
among_at ts (d ∷ ds) (suc k) x l = inr (among_at ts ds k x (omega arith))

pub offered_there : {a b : List Tree} {y : CandidateData} (cs : List Candidate) (g : Goal) (x : CandidateData) (ds : List CandidateData) (k : ℕ) → y ≡ get_or ds k x → k < length ds → AreCandidates a g ds → Extends a b → ((z : Candidate) → Among (candidates_of a ds) z → Among cs z) → Among cs (candidate_of b y)
offered_there {a} {b} {y} cs g x ds k q l h e offered =
    let kept = candidate-kept {a = a} {b = b} {g = g} {d = get_or ds k x} e (candidate_at a g ds k x h l) in
    offered (candidate_of b y) (rw (q, kept) (among_at a ds k x l))

-- one part more of a list that is gone through
pub Equates-step : {b e : List Tree} {t u : Table} {ws : List NodeId} {rs : List Equation} (q : Equation) (a : List Tree) (vs : List NodeId) (qs : List Equation) (i : ℕ) → ws ≡ vs → rs ≡ qs → i < length qs → Goes b e t u → AllIn b vs → EquatesEach a b t vs (take i qs) → Extends a b → ((d : Equation) → IsIn a (get_or qs i d).lhs.node × IsIn a (get_or qs i d).rhs.node) → Stays (content_of e u.entries) (EquationHolds (map (tree_at b) ws) (equation_of b (get_or rs i q))) → EquatesEach a e u vs (take (i + 1) qs)
Equates-step {b} {e} {t} {u} {ws} {rs} q a vs qs i y z l g w h x o k =
    let item = get_or qs i q in
    let one : Stays (content_of e u.entries) (EquationHolds (map (tree_at e) vs) (equation_of a (get_or qs i q))) = rw (map-kept b e vs w g.extends, ← equation-kept {a = a} {b = b} item x (o q).0 (o q).1, ← y, ← z) k in
    rw (take_more qs i q l) (Equates-push a e u vs (take i qs) item (Equates-later a vs (take i qs) g w h) one)

pub Constrains-step : {b e : List Tree} {t u : Table} {ws : List NodeId} {rs : List RegionConstraint} (q : RegionConstraint) (a : List Tree) (vs : List NodeId) (qs : List RegionConstraint) (i : ℕ) → ws ≡ vs → rs ≡ qs → i < length qs → Goes b e t u → AllIn b vs → Constrains a b t vs (take i qs) → Extends a b → ((d : RegionConstraint) → IsIn a (get_or qs i d).left.node × IsIn a (get_or qs i d).right.node) → Stays (content_of e u.entries) (ConstraintHolds (map (tree_at b) ws) (constraint_of b (get_or rs i q))) → Constrains a e u vs (take (i + 1) qs)
Constrains-step {b} {e} {t} {u} {ws} {rs} q a vs qs i y z l g w h x o k =
    let item = get_or qs i q in
    let one : Stays (content_of e u.entries) (ConstraintHolds (map (tree_at e) vs) (constraint_of a (get_or qs i q))) = rw (map-kept b e vs w g.extends, ← constraint-kept {a = a} {b = b} item x (o q).0 (o q).1, ← y, ← z) k in
    rw (take_more qs i q l) (Constrains-push a e u vs (take i qs) item (Constrains-later a vs (take i qs) g w h) one)
