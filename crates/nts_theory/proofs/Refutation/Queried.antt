-- The table of a query with its input's kinds, and what a response of such a table contains.
use Rattle.std.proofs.Common.{ℕ, ◌≡◌, inl, inr, ◌+◌, ◌≤◌, Bool, true, false, List, [], ◌∷◌, map, length, refl, sym, ap, subst, ◌∙◌, arith}
use Rattle.std.specs.Prelude.{Contains}
use Rattle.nts_model.specs.declared.labels.Leaf.{Leaf}
use Rattle.nts_model.specs.Terms.Trees.{Tree}
use Rattle.nts_model.specs.Tables.Contents.{Content, Recorded, in_universe}
use Rattle.nts_model.specs.Tables.Resolving.{Knows, deeply_resolved}
use Rattle.nts_model.specs.Tables.Levels.{AreCurrent}
use Rattle.nts_model.specs.Tables.Worlds.{World, inst}
use Rattle.nts_model.specs.Derivations.Related.{pair}
use Rattle.nts_model.specs.Lists.{Among}
use Rattle.nts_model.specs.Derivations.Sequents.{Premise}
use Rattle.nts_model.specs.Terms.Substitutions.{leaf_tree, filled}
use Rattle.nts_model.specs.Refutation.Opening.{binds, entered_table, opened_in}
use Rattle.nts_model.specs.Canonical.Inputs.{Input, CanonicalInput, PositionKind, canonical_of}
use Rattle.nts_model.specs.Answers.Responses.{Findings, AreFindings, own_leaves, row_of, value_row, constraint_row, is_fixed, Response, IsQueryTable}
use Rattle.nts_model.specs.Refutation.Containing.{IsAliasFree, IsPlainWorld, Truth, IsSolution, AreInputValues, ContainsSolution, KeepsSolutions}
use Rattle.nts_theory.specs.Refutation.Refutation.{IsPlainFor}
use Rattle.nts_model.proofs.Tables.Instances.{Agrees-refl}
use Rattle.nts_model.proofs.Tables.Open.{Knows-deeply_resolved}
use Rattle.nts_model.proofs.Tables.Slots.{KeepsKinds, KeepsKinds-refl}
use Rattle.nts_model.proofs.Tables.Solving.{Solves-in_universe}
use Rattle.nts_model.proofs.Canonical.Moving.{among-seen}
use Rattle.nts_theory.proofs.Derivations.ProvedLater.{contains_first, contains_later}
use Rattle.nts_theory.proofs.Refutation.Freshening.{knows_leaf}
use Rattle.nts_theory.proofs.Refutation.Answered.{GoesOn, solution_later}
use Rattle.nts_theory.proofs.Refutation.Entering.{IsBegun as Begins}
use Rattle.nts_theory.proofs.Refutation.Responding.{ArePlaced, answer_contains}
use Rattle.nts_model.specs.Tables.Passing.{AllLabels}
use Rattle.nts_model.specs.Answers.Responses.{IsLabelIn, positioned}
use Rattle.nts_theory.specs.Telling.{Queries, AreTermsOfKinds, IsInputFor, without_constraints, IsResponseOf, IsFound}
use Rattle.nts_theory.proofs.Refutation.Agreeing.{AreNumberedKinds}
use Rattle.nts_theory.proofs.Refutation.QueryLabels.{entered_query, opened_labels, query_goes_on}

-- the table that a query begins with, of which the terms qs stand for the positions; its goal is the input's there
pub record IsFirst (f : CanonicalInput) (q : Content) (qs : List Tree) : Type 0 where
  pub begins : Begins f q qs
  pub placed : ArePlaced f.kinds qs
  pub current : AreCurrent q
  pub knows : Knows q (pair (filled qs f.environment) (filled qs f.predicate))
  pub table : IsQueryTable f.kinds q qs
  pub kinds : AreTermsOfKinds f.kinds qs
  pub environment : AllLabels (IsLabelIn f.kinds) (filled qs f.environment)
  pub predicate : AllLabels (IsLabelIn f.kinds) (filled qs f.predicate)

-- a goal that its table knows is asked in the first table of a query
pub record BeginsEach (Q : Queries) : Type 0 where
  pub first : (c : Content) (e g : Tree) (i : Input) → IsInputFor c e g i → Knows c (pair e g) → IsFirst (canonical_of i) (Q.table (canonical_of i).kinds) (Q.values (canonical_of i).kinds)

-- what an asked goal leads to
pub record Leads (truth : Truth) (Proves : Tree → Tree → Type 0) (c d : Content) (e g : Tree) : Type 0 where
  pub longer : length c.slots ≤ length d.slots
  pub keeps : KeepsKinds c d
  pub each : (base : ℕ) (w : World) → IsSolution truth base c w → IsPlainFor w (pair e g) → Proves (inst w e) (inst w g) → GoesOn truth base c d w

pub record Reached (truth : Truth) (Proves : Tree → Tree → Type 0) (c d : Content) (gs : List Premise) : Type 0 where
  pub keeps : KeepsKinds c d
  pub solutions : KeepsSolutions truth 0 Proves c gs d gs

-- a solution of a query's table that proves its goal
pub record IsSolved (truth : Truth) (Proves : Tree → Tree → Type 0) (ks : List PositionKind) (c : Content) (e g : Tree) (qs vs : List Tree) (w : World) : Type 0 where
  pub values : AreInputValues ks vs
  pub plain : (v : Tree) → Among vs v → IsAliasFree v
  pub solution : IsSolution truth 0 c w
  pub free : IsPlainWorld c w
  pub images : map (inst w) qs ≡ vs
  pub proved : Proves (inst w e) (inst w g)

-- what is known of the table in which a query is answered
pub record IsQuery (ks : List PositionKind) (c : Content) (e g : Tree) (qs : List Tree) : Type 0 where
  pub numbered : AreNumberedKinds 0 ks
  pub placed : ArePlaced ks qs
  pub kinds : AreTermsOfKinds ks qs
  pub current : AreCurrent c
  pub knows : Knows c (pair e g)
  pub table : IsQueryTable ks c qs
  pub environment : AllLabels (IsLabelIn ks) e
  pub predicate : AllLabels (IsLabelIn ks) g

pub first_query : (f : CanonicalInput) (q : Content) (qs : List Tree) → IsFirst f q qs → IsQuery f.kinds q (filled qs f.environment) (filled qs f.predicate) qs
first_query f q qs h =
    record { numbered = (let b = h.begins in b.numbered); placed = h.placed; kinds = h.kinds; current = h.current; knows = h.knows; table = h.table; environment = h.environment; predicate = h.predicate }

-- the table in which its candidates are tried
pub record IsTried (ks : List PositionKind) (c : Content) (e g : Tree) (qs : List Tree) : Type 0 where
  pub placed : ArePlaced ks qs
  pub table : IsQueryTable ks c qs
  pub environment : AllLabels (IsLabelIn ks) e
  pub predicate : AllLabels (IsLabelIn ks) g

pub tried : (ks : List PositionKind) (c : Content) (e g : Tree) (qs : List Tree) → IsQuery ks c e g qs → IsTried ks (entered_table c g) e (opened_in c g) qs
tried ks c e g qs h =
    record { placed = h.placed; table = entered_query ks c g qs h.table; environment = h.environment; predicate = opened_labels ks c g h.predicate }

pub tried_knows : (ks : List PositionKind) (c : Content) (e g : Tree) (qs : List Tree) → IsTried ks c e g qs → (t : Tree) → Among qs t → Knows c t
tried_knows ks c e g qs h t i = (let w = h.table in let k = w.terms t i in let a = k.0 in a.knows)

-- what was found there is a table of the query
pub found_table : (ks : List PositionKind) (c found : Content) (e g : Tree) (qs : List Tree) → IsTried ks c e g qs → IsFound c e g found → KeepsKinds c found → IsQueryTable ks found qs
found_table ks c found e g qs h x keeps =
    let z = x.table in
    query_goes_on ks c found qs (e ∷ g ∷ []) h.table own x.labels z.sound z.values z.constraints keeps
  where
    own : (t : Tree) → Among (e ∷ g ∷ []) t → AllLabels (IsLabelIn ks) t
    own t (inl q) = rw q h.environment
    own t (inr (inl q)) = rw q h.predicate
    own t (inr (inr q)) = absurd q

-- tables that differ in constraints, or in the universe
pub solution_without : (truth : Truth) (base : ℕ) (c : Content) (w : World) → IsSolution truth base c w → IsSolution truth base (without_constraints c) w
solution_without truth base c w s =
    record {
      solves = (let z = s.solves in record { values = z.values; constraints = tt; nameable = record { each = (let n = z.nameable in n.each) }; fitting = record { each = (let f = z.fitting in f.each) } });
      named = record { each = (let n = s.named in n.each) };
      fixed = s.fixed;
      above = s.above;
      new = s.new;
      low = s.low;
      outlives = s.outlives;
    }

pub entered_plain : (c : Content) (g : Tree) (w : World) → IsPlainWorld c w → IsPlainWorld (entered_table c g) w
entered_plain c g w p = by_bool (binds g) refl
  where
    by_bool : (b : Bool) → binds g ≡ b → IsPlainWorld (entered_table c g) w
    by_bool false q = rw q p
    by_bool true q = rw q (record { each = λ n k e. p.each n k e })

pub plain_without : (c : Content) (w : World) → IsPlainWorld c w → IsPlainWorld (without_constraints c) w
plain_without c w p = record { each = λ n k e. p.each n k e }

pub entered_keeps : (c : Content) (g : Tree) → KeepsKinds c (entered_table c g)
entered_keeps c g = by_bool (binds g) refl
  where
    by_bool : (b : Bool) → binds g ≡ b → KeepsKinds c (entered_table c g)
    by_bool false q = rw q (KeepsKinds-refl c)
    by_bool true q = rw q (record { grows = omega arith; kinds = λ n k e. e })

pub entered_solution : (truth : Truth) (c : Content) (g : Tree) (w : World) → IsSolution truth 0 c w → IsSolution truth 0 (entered_table c g) w
entered_solution truth c g w s = by_bool (binds g) refl
  where
    by_bool : (b : Bool) → binds g ≡ b → IsSolution truth 0 (entered_table c g) w
    by_bool false q = rw q s
    by_bool true q =
        rw q (solution_later truth 0 c (in_universe c (c.universe + 1)) w w s (omega arith) (Agrees-refl (length c.slots) w) (Solves-in_universe c (c.universe + 1) w s.solves) (record { each = λ n. s.named.each n }))

-- the leaves of a response are of the table
knows_values : (q : Content) (ts : List Tree) (r : Tree) → ((t : Tree) → Among ts t → Knows q t) → Knows q r → Knows q (value_row ts r)
knows_values q [] r h k = k
knows_values q (t ∷ ts) r h k = (h t (inl refl), knows_values q ts r (λ x i. h x (inr i)) k)

knows_sides : (q : Content) (xs : List Recorded) (r : Tree) → ((x : Recorded) → Contains xs x → Knows q x.left × Knows q x.right) → Knows q r → Knows q (constraint_row xs r)
knows_sides q [] r h k = k
knows_sides q (x ∷ xs) r h k = (let a = h x (contains_first x xs) in (a.0, (a.1, knows_sides q xs r (λ y i. h y (contains_later x xs y i)) k)))

among_read : (f : Tree → Tree) (ts : List Tree) (t : Tree) → Among (map f ts) t → (s : Tree) × Among ts s × (t ≡ f s)
among_read f [] t i = absurd i
among_read f (x ∷ xs) t (inl e) = (x, inl refl, e)
among_read f (x ∷ xs) t (inr i) = (let r = among_read f xs t i in (r.0, inr r.1, r.2))

pub own_known : (ks : List PositionKind) (q : Content) (qs : List Tree) (x : Findings) → IsQueryTable ks q qs → AreFindings q qs x → x.hidden ≡ [] → x.open_goals ≡ [] → (l : Leaf) → Among (own_leaves x) l → Knows q (leaf_tree l)
own_known ks q qs x table found a b l i =
    let row : Knows q (row_of x) = knows_values q x.values (constraint_row x.constraints _) value_known (knows_sides q x.constraints _ side_known (rw (a, b) tt)) in
    elim (among-seen is_fixed [] (row_of x) l i) [ inl j ↦ absurd j | inr o ↦ knows_leaf q l (row_of x) o.1 row ]
  where
    value_known : (t : Tree) → Among x.values t → Knows q t
    value_known t j =
        let r = among_read (deeply_resolved q) qs t (subst (λ z. Among z t) found.values j) in
        let k = table.terms r.0 r.1 in
        subst (Knows q) (sym r.2) (Knows-deeply_resolved q r.0 table.sound k.0.knows)

    side_known : (y : Recorded) → Contains x.constraints y → Knows q y.left × Knows q y.right
    side_known y j =
        let r = found.found y j in
        let k = table.constraints in
        subst (λ z. Knows q z.left × Knows q z.right) (sym r.2) (
          Knows-deeply_resolved q r.0.left table.sound (k.left r.0 r.1).knows,
          Knows-deeply_resolved q r.0.right table.sound (k.right r.0 r.1).knows,
        )

pub says_contains : (truth : Truth) (ks : List PositionKind) (q : Content) (qs : List Tree) (r : Response) → ArePlaced ks qs → IsQueryTable ks q qs → IsResponseOf q qs r → (w : World) → IsSolution truth 0 q w → IsPlainWorld q w → ContainsSolution truth r (map (inst w) qs)
says_contains truth ks q qs r placed table h w s free =
    subst (λ z. ContainsSolution truth z (map (inst w) qs)) (sym h.is)
    (answer_contains truth ks q qs h.findings table h.reads h.no_hidden h.no_goals placed (own_known ks q qs h.findings table h.reads h.no_hidden h.no_goals) w s free h.roots)

-- its values are as many as the positions
map_long : {X Y : Type 0} (f : X → Y) (xs : List X) → length (map f xs) ≡ length xs
map_long f [] = refl
map_long f (x ∷ xs) = (let e = map_long f xs in omega (arith, e))

pub says_long : (q : Content) (qs : List Tree) (r : Response) → IsResponseOf q qs r → (let x = r.findings in length x.values ≡ length qs)
says_long q qs r h =
    let y = h.findings in
    let read = h.reads in
    let values : (let x = r.findings in x.values ≡ map (positioned (own_leaves y)) y.values) = ap (λ (z : Response). (let x = z.findings in x.values)) h.is in
    ap (length {A = Tree}) values ∙ map_long (positioned (own_leaves y)) y.values ∙ ap (length {A = Tree}) read.values ∙ map_long (deeply_resolved q) qs
