-- A goal is proved by one certain candidate that holds under the table.
use Rattle.std.proofs.Common.{◌≡◌, ◌⊎◌, inl, inr, ⊎_elim, ℕ, zero, suc, List, [], ◌∷◌, get_or, Option, Some, None, false, refl, sym, ap, ◌∙◌, subst}
use Rattle.std.specs.Prelude.{map}
use Rattle.nts_model.specs.declared.labels.Sort.{Sort}
use Rattle.nts_model.specs.declared.labels.Variance.{Variance}
use Rattle.nts_model.specs.declared.labels.Relation.{Relation}
use Rattle.nts_model.specs.declared.labels.Relation.TheVariants as relation
use Rattle.nts_model.specs.declared.labels.ClauseHead.TheVariants as clause
use Rattle.nts_model.specs.declared.labels.PredicateHead.TheVariants as predicate
use Rattle.nts_model.specs.declared.labels.Label.{Label}
use Rattle.nts_model.specs.declared.labels.Label.TheVariants as label
use Rattle.nts_model.specs.Terms.Trees.{Tree, empty, more, node, children, any_label, is_canonical, kind_of, any_argument, FitsPlace, IsClosed, IsFormed}
use Rattle.nts_model.specs.Tables.Contents.{Content, Recorded}
use Rattle.nts_model.specs.Tables.Resolving.{deeply_resolved, Knows, IsSound}
use Rattle.nts_model.specs.Tables.Holding.{HoldsConstraint}
use Rattle.nts_model.specs.Tables.Alike.{Alike, one_tree, two_regions, one_label, two_rows, HoldsEqual}
use Rattle.nts_model.specs.Terms.Substitutions.{put, Instance, instance_of, filled, filled_under, position_of, value_or}
use Rattle.nts_model.specs.Derivations.Related.{Constraint, unbound}
use Rattle.nts_model.specs.Lists.{Among}
use Rattle.nts_model.specs.Derivations.Sequents.{Premise, HasClosedStatement, HasClosedStatements, IsOfTerms, constraint_under, IsTrivial, Grants}
use Rattle.nts_model.specs.Derivations.Rules.{Mode, Equation, related, alike, HoldsEquation, GoalKind, IsTerm, Stands, IsHandlers}
use Rattle.nts_model.specs.Derivations.Handlers.{Handler, meaning, Candidate, equation_by, constraint_by, kind_of_sort, AreValuesOf, IsAsked}
use Rattle.nts_model.specs.Derivations.Proving.{HoldsTerms, IsTermOf, AreConstraintsOf, read_constraint, recorded_as, turned, read_constraints, sequent_at, AreEquated, IsHeldAt, HoldsButForGoals}
use Rattle.nts_model.specs.Terms.Scoping.{IsWellBound}
use Rattle.nts_model.proofs.Tables.Fitting.{IsClosed-under}
use Rattle.nts_model.proofs.Tables.Resolved.{deeply_resolved-node, deeply_resolved-deeply_resolved}
use Rattle.nts_model.proofs.Tables.Kept.{kind_of-deeply_resolved}
use Rattle.nts_theory.proofs.Derivations.Monotone.{related_more, equation_more, stands_more}
use Rattle.nts_model.proofs.Terms.Composing.{IsFormed-instance, IsClosed-instance, Fits-instance, itself, instance_of-itself}
use Rattle.nts_model.proofs.Tables.ResolvedTerms.{IsFormed-deeply_resolved, IsClosed-deeply_resolved}
use Rattle.nts_model.proofs.Tables.TableInstances.{reading_of, instance_of-reading, deeply_resolved-more}
use Rattle.nts_theory.proofs.Derivations.ProvedLater.{read_from, read_recorded, read_turned}
use Rattle.nts_model.proofs.Tables.Open.{Knows-deeply_resolved}
use Rattle.nts_model.proofs.Terms.Unpositioned.{known_no_positions, known_well_bound, pair_no_positions, IsFormedTerm, formed_term}
use Rattle.nts_theory.proofs.Derivations.ClosedStatements.{closed_unbound, closed_statements_instance}
use Rattle.nts_theory.proofs.Derivations.Served.{IsClosedEnvironment, Owes, Grows, owes_none, owes_then}
use Rattle.nts_theory.proofs.Derivations.Relating.{Relates, alike_related}

-- values under an instance
get_map : (ι : Instance) (vs : List Tree) (i : ℕ) → get_or (map (instance_of ι) vs) i empty ≡ instance_of ι (get_or vs i empty)
get_map ι [] i = refl
get_map ι (v ∷ vs) zero = refl
get_map ι (v ∷ vs) (suc i) = get_map ι vs i

value_under : (ι : Instance) (vs : List Tree) (o : Option ℕ) (l : Label) (x y : Tree) → x ≡ instance_of ι y → value_or o (map (instance_of ι) vs) (put ι.value l x) ≡ instance_of ι (value_or o vs (node l y))
value_under ι vs None l x y e = ap (put ι.value l) e
value_under ι vs (Some i) l x y e = get_map ι vs i

-- an instance of a filled tree is the tree filled under the instance
pub filled_instance : (ι : Instance) (vs : List Tree) (t : Tree) → filled_under ι.value (map (instance_of ι) vs) t ≡ instance_of ι (filled vs t)
filled_instance ι vs empty = refl
filled_instance ι vs (more a b) = cc (filled_instance ι vs a, filled_instance ι vs b)
filled_instance ι vs (node l c) =
    value_under ι vs (position_of l) l (filled_under ι.value (map (instance_of ι) vs) c) (filled vs c) (filled_instance ι vs c)

pub AreValuesOf-instance : (ι : Instance) (ss : List Sort) (vs : List Tree) → AreValuesOf ss vs → AreValuesOf ss (map (instance_of ι) vs)
AreValuesOf-instance ι [] [] h = tt
AreValuesOf-instance ι [] (v ∷ vs) h = absurd h
AreValuesOf-instance ι (s ∷ ss) [] h = absurd h
AreValuesOf-instance ι (s ∷ ss) (v ∷ vs) h =
    let x = h.0 in
    (record { fits = Fits-instance ι (kind_of_sort s) v x.fits; formed = IsFormed-instance ι v x.formed; closed = IsClosed-instance ι v x.closed }, AreValuesOf-instance ι ss vs h.1)

values_closed : (ss : List Sort) (vs : List Tree) (v : Tree) → AreValuesOf ss vs → Among vs v → IsFormed v × IsClosed v
values_closed [] [] v h i = absurd i
values_closed [] (w ∷ vs) v h i = absurd h
values_closed (s ∷ ss) [] v h i = absurd h
values_closed (s ∷ ss) (w ∷ vs) v h i = ⊎_elim (λ e. (let x = h.0 in (subst IsFormed (sym e) x.formed, subst IsClosed (sym e) x.closed))) (λ j. values_closed ss vs v h.1 j) i

-- what stands in a mapped list
pub among_mapped : {X Y : Type 0} (f : X → Y) (xs : List X) (y : Y) → Among (map f xs) y → (x : X) × Among xs x × (y ≡ f x)
among_mapped f [] y i = absurd i
among_mapped f (x ∷ xs) y i = ⊎_elim (λ e. (x, inl refl, e)) (λ j. let (z, a, b) = among_mapped f xs y j in (z, inr a, b)) i

pub handlers_instance : (ι : Instance) (s : Tree) → IsHandlers s → IsHandlers (instance_of ι s)
handlers_instance ι (node (label.Clause (clause.Trait i)) ts) h = tt
handlers_instance ι (node (label.Clause (clause.HostEffect i)) ts) h = tt
handlers_instance ι (node (label.Clause (clause.Projection i)) ts) h = tt
handlers_instance ι (node (label.Predicate (predicate.NormalizesTo i)) ts) h = tt
handlers_instance ι s h = absurd h

-- a constraint that the table holds is trivial or among those that are read off the table
recorded_granted : (c : Content) (o : Relation) (a b : Tree) (r : Recorded) → r.relation ≡ o → deeply_resolved c a ≡ deeply_resolved c r.left → deeply_resolved c b ≡ deeply_resolved c r.right
    → record { relation = o; left = deeply_resolved c a; right = deeply_resolved c b } ≡ read_constraint c r
recorded_granted c o a b r x y z = rw (x, y, z) refl

turned_granted : (c : Content) (o : Relation) (a b : Tree) (r : Recorded) → r.relation ≡ o → deeply_resolved c a ≡ deeply_resolved c r.right → deeply_resolved c b ≡ deeply_resolved c r.left
    → record { relation = o; left = deeply_resolved c a; right = deeply_resolved c b } ≡ turned (read_constraint c r)
turned_granted c o a b r x y z = rw (x, y, z) refl

abbrev pub read_sides : Content → Relation → Tree → Tree → Constraint
read_sides c o a b = record { relation = o; left = deeply_resolved c a; right = deeply_resolved c b }

abbrev pub IsGranted : Content → Constraint → Type 0
IsGranted c x = IsTrivial x ⊎ Among (read_constraints c c.constraints) x

recorded_is_granted : (c : Content) (o : Relation) (a b : Tree) (r : Recorded) → Among (read_constraints c c.constraints) (read_constraint c r) → r.relation ≡ o
    → deeply_resolved c a ≡ deeply_resolved c r.left → deeply_resolved c b ≡ deeply_resolved c r.right → IsGranted c (read_sides c o a b)
recorded_is_granted c o a b r found x y z = inr (subst (Among (read_constraints c c.constraints)) (sym (recorded_granted c o a b r x y z)) found)

pub granted : (c : Content) (o : Relation) (a b : Tree) → HoldsConstraint c (recorded_as (record { relation = o; left = a; right = b })) → IsGranted c (read_sides c o a b)
granted c relation.Equal a b (inl e) = inl e
granted c relation.RegionOutlives a b (inl e) = inl e
granted c relation.TypeOutlives a b (inl e) = absurd e
granted c relation.Equal a b (inr x) = ⊎_elim
    (λ e. recorded_is_granted c relation.Equal a b x.constraint (read_recorded c c.constraints x.constraint x.found) x.same_relation e.0 e.1)
    (λ e. inr (subst (Among (read_constraints c c.constraints)) (sym (turned_granted c relation.Equal a b x.constraint x.same_relation e.0 e.1)) (read_turned c c.constraints x.constraint x.found x.same_relation)))
    x.same_sides
granted c relation.RegionOutlives a b (inr x) =
    let e = x.same_sides in
    recorded_is_granted c relation.RegionOutlives a b x.constraint (read_recorded c c.constraints x.constraint x.found) x.same_relation e.0 e.1
granted c relation.TypeOutlives a b (inr x) =
    let e = x.same_sides in
    recorded_is_granted c relation.TypeOutlives a b x.constraint (read_recorded c c.constraints x.constraint x.found) x.same_relation e.0 e.1

-- .. so resolved trees that are alike under the table are alike by these constraints
abbrev pub GrantsEqual : Content → Tree → Tree → Type 0
GrantsEqual c x y = IsGranted c (record { relation = relation.Equal; left = x; right = y })

pub equal_granted : (c : Content) (x y : Tree) → deeply_resolved c x ≡ x → deeply_resolved c y ≡ y → HoldsEqual c x y → GrantsEqual c x y
equal_granted c x y e f h =
    let g : IsGranted c (read_sides c relation.Equal x y) = granted c relation.Equal x y h in
    subst (λ z. GrantsEqual c z y) e (subst (λ z. GrantsEqual c (deeply_resolved c x) z) f g)

pub alike_granted : (c : Content) (x y : Tree) → Alike (HoldsEqual c) x y → deeply_resolved c x ≡ x → deeply_resolved c y ≡ y → Alike (GrantsEqual c) x y
alike_granted c x y one_tree e f = one_tree
alike_granted c x y (two_regions i j r) e f = two_regions i j (equal_granted c x y e f r)
alike_granted c _ _ (one_label {l = l} {c = x} {d = y} n al) e f =
    one_label n (alike_granted c x y al (ap children (sym (deeply_resolved-node c l x n) ∙ e)) (ap children (sym (deeply_resolved-node c l y n) ∙ f)))
alike_granted c _ _ (two_rows {a = a} {b = b} {c = x} {d = y} al bl) e f =
    let left : more (deeply_resolved c a) (deeply_resolved c b) ≡ more a b = sym (deeply_resolved-more c a b) ∙ e in
    let right : more (deeply_resolved c x) (deeply_resolved c y) ≡ more x y = sym (deeply_resolved-more c x y) ∙ f in
    two_rows (alike_granted c a x al (cc left) (cc right)) (alike_granted c b y bl (cc left) (cc right))

-- what is read off a table are constraints between terms
pub read_itself : (c : Content) → IsSound c → HoldsTerms c → AreConstraintsOf c → (x : Constraint) → Among (read_constraints c c.constraints) x → constraint_under itself x ≡ x
read_itself c s t k x i =
    let (r, found, from) = read_from c c.constraints x i in
    let a = k.left r found in
    let b = k.right r found in
    let left : instance_of itself (deeply_resolved c r.left) ≡ deeply_resolved c r.left = instance_of-itself (deeply_resolved c r.left) (IsFormed-deeply_resolved c r.left s t a.knows a.formed) in
    let right : instance_of itself (deeply_resolved c r.right) ≡ deeply_resolved c r.right = instance_of-itself (deeply_resolved c r.right) (IsFormed-deeply_resolved c r.right s t b.knows b.formed) in
    let read : constraint_under itself (read_constraint c r) ≡ read_constraint c r = rw (left, right) refl in
    ⊎_elim
    (λ e. subst (λ y. constraint_under itself y ≡ y) (sym e) read)
    (λ e. subst (λ y. constraint_under itself y ≡ y) (sym e.1) (ap turned read))
    from.same

module _ (h : Handler) (V : ℕ → List Variance) (mode : Mode) (c : Content) (s : IsSound c) (t : HoldsTerms c) (k : AreConstraintsOf c) where
  -- a term under the table has no positions of canonical values
  resolved_no_positions : (u : Tree) → Knows c u → any_label is_canonical (deeply_resolved c u) ≡ false
  resolved_no_positions u q = known_no_positions c (deeply_resolved c u) (Knows-deeply_resolved c u s q)

  -- .. and lists what it binds
  resolved_well_bound : (u : Tree) → Knows c u → IsWellBound (deeply_resolved c u)
  resolved_well_bound u q = known_well_bound c (deeply_resolved c u) (Knows-deeply_resolved c u s q)

  -- for an environment, and values of the candidate's fresh variables
  module _ (e g : Tree) (asked : IsAsked e g) (ke : IsTermOf c e) (kg : IsTermOf c g) (d : Candidate) (x : HoldsButForGoals c d) where
    pub formed_here : IsFormed (deeply_resolved c e)
    formed_here = IsFormed-deeply_resolved c e s t ke.knows ke.formed

    pub closed_here : IsClosedEnvironment (deeply_resolved c e)
    closed_here =
        let z = asked.closed in
        record {
          closed = IsClosed-deeply_resolved c e t z.0;
          no_positions = resolved_no_positions e ke.knows;
          well_bound = resolved_well_bound e ke.knows;
          statements = subst HasClosedStatements (instance_of-reading c s t e ke.knows ke.formed) (closed_statements_instance (reading_of c s t) e ke.formed asked.statements);
        }

    abbrev pub Follows : ((Premise → Type 0) → Type 0) → Type 0
    Follows = Owes (meaning h V) mode (deeply_resolved c e) (read_constraints c c.constraints)

    abbrev pub read_by : Tree → Tree
    read_by = filled_under (reading_of c s t).value (map (instance_of (reading_of c s t)) x.chosen)

    pub read_filled : (u : Tree) → IsTermOf c (filled x.chosen u) → filled_under (reading_of c s t).value (map (instance_of (reading_of c s t)) x.chosen) u ≡ deeply_resolved c (filled x.chosen u)
    read_filled u q = filled_instance (reading_of c s t) x.chosen u ∙ instance_of-reading c s t (filled x.chosen u) q.knows q.formed

    -- its equations
    abbrev pub Equates : GoalKind → Equation → (Premise → Type 0) → Type 0
    Equates z q P = HoldsEquation (meaning h V) (λ y. Unit {0}) (Grants (sequent_at c e g)) (Stands (λ y. Unit {0}) P z) (deeply_resolved c e) (equation_by read_by q)

    pub equates_grows : (z : GoalKind) (q : Equation) → Grows (meaning h V) mode (deeply_resolved c e) (read_constraints c c.constraints) (Equates z q)
    equates_grows z q P Q f y = equation_more (meaning h V) (λ y. Unit {0}) (Grants (sequent_at c e g)) (stands_more f z) (deeply_resolved c e) (equation_by read_by q) y

    read_alike : (a b : Tree) → AreEquated c x.chosen a b → Alike (GrantsEqual c) (read_by a) (read_by b)
    read_alike a b q =
        let al : Alike (GrantsEqual c) (deeply_resolved c (filled x.chosen a)) (deeply_resolved c (filled x.chosen b)) =
        alike_granted c (deeply_resolved c (filled x.chosen a)) (deeply_resolved c (filled x.chosen b)) q.alike
        (deeply_resolved-deeply_resolved c (filled x.chosen a) s) (deeply_resolved-deeply_resolved c (filled x.chosen b) s) in
        subst (λ y. Alike (GrantsEqual c) y (read_by b)) (sym (read_filled a q.left))
        (subst (λ y. Alike (GrantsEqual c) (deeply_resolved c (filled x.chosen a)) y) (sym (read_filled b q.right)) al)

    pub read_formed : (u : Tree) → IsTermOf c (filled x.chosen u) → IsFormedTerm (read_by u)
    read_formed u q =
        let r = filled x.chosen u in
        subst IsFormedTerm (sym (read_filled u q)) (formed_term (deeply_resolved c r) (IsFormed-deeply_resolved c r s t q.knows q.formed) (resolved_no_positions r q.knows) (resolved_well_bound r q.knows))

    -- the values that are chosen are terms
    pub chosen_terms : (v : Tree) → Among (map (instance_of (reading_of c s t)) x.chosen) v → IsTerm v
    chosen_terms v i =
        let (p, j, same) = among_mapped (instance_of (reading_of c s t)) x.chosen v i in
        let (formed, closed) = values_closed d.fresh x.chosen p x.values j in
        let knows : Knows c p = x.known p j in
        subst IsTerm (sym (same ∙ instance_of-reading c s t p knows formed))
        (record {
          formed = IsFormed-deeply_resolved c p s t knows formed;
          closed = IsClosed-deeply_resolved c p t closed;
          no_positions = resolved_no_positions p knows;
          well_bound = resolved_well_bound p knows;
        })

    read_argument : (a b : Tree) → AreEquated c x.chosen a b → FitsPlace any_argument (kind_of (read_by a))
    read_argument a b q =
        let l = q.left in
        let same : kind_of (read_by a) ≡ kind_of (filled x.chosen a) = ap kind_of (read_filled a l) ∙ kind_of-deeply_resolved c (filled x.chosen a) s l.knows in
        subst (FitsPlace any_argument) (sym same) q.argument

    pub equation_follows : (z : GoalKind) (q : Equation) → Among d.equations q → Follows (Equates z q)
    equation_follows z (related a b) i =
        let q : AreEquated c x.chosen a b = x.equations (related a b) i in
        owes_then (meaning h V) mode (deeply_resolved c e) (read_constraints c c.constraints)
        (Relates (meaning h V) mode (deeply_resolved c e) (read_constraints c c.constraints) formed_here closed_here (read_itself c s t k) (read_by a) (read_by b))
        (Equates z (related a b)) (λ P y. related_more (λ w v. inl v) y)
        (alike_related (meaning h V) mode (deeply_resolved c e) (read_constraints c c.constraints) formed_here closed_here (read_itself c s t k) (GrantsEqual c) (λ y w v. v)
        (read_by a) (read_by b) (read_alike a b q) (read_formed a q.left) (read_formed b q.right) (read_argument a b q))
    equation_follows z (alike a b) i =
        let q : AreEquated c x.chosen a b = x.equations (alike a b) i in
        owes_none (meaning h V) mode (deeply_resolved c e) (read_constraints c c.constraints) (Equates z (alike a b)) (λ P. read_alike a b q)

    -- its constraints
    pub constraint_granted : (y : Constraint) → IsHeldAt c x.chosen y → Grants (sequent_at c e g) (constraint_by read_by y)
    constraint_granted y q =
        let same : constraint_by read_by y ≡ read_sides c y.relation (filled x.chosen y.left) (filled x.chosen y.right) = rw (read_filled y.left q.left, read_filled y.right q.right) refl in
        subst (Grants (sequent_at c e g)) (sym same) (granted c y.relation (filled x.chosen y.left) (filled x.chosen y.right) q.held)

    -- what the goal says under the table
    pub goal_says : deeply_resolved c g ≡ unbound (instance_of (reading_of c s t) asked.statement)
    goal_says = sym (instance_of-reading c s t g kg.knows kg.formed) ∙ ap (instance_of (reading_of c s t)) asked.binds_nothing

    pub goal_terms : IsOfTerms (sequent_at c e g)
    goal_terms =
        let z = asked.closed in
        let w = z.1 in
        let whole : IsClosed g = rw (asked.binds_nothing) (tt, ((tt, tt), (IsClosed-under 1 asked.statement w.0, tt))) in
        record {
          formed = (formed_here, (IsFormed-deeply_resolved c g s t kg.knows kg.formed, tt));
          closed = (closed_here.closed, (IsClosed-deeply_resolved c g t whole, tt));
          no_positions = pair_no_positions (deeply_resolved c e) (deeply_resolved c g) closed_here.no_positions (resolved_no_positions g kg.knows);
          well_bound = (closed_here.well_bound, (resolved_well_bound g kg.knows, tt));
          statement = subst HasClosedStatement (sym goal_says) (closed_unbound (instance_of (reading_of c s t) asked.statement) (IsClosed-instance (reading_of c s t) asked.statement w.0));
          statements = closed_here.statements;
        }
