-- What a response tells: values under the table, and its constraints.
use Rattle.std.proofs.Common.{◌≡◌, ◌⊎◌, inl, inr, ⊎_elim, ℕ, zero, suc, ◌+◌, ◌<◌, List, [], ◌∷◌, ◌++◌, map, length, take, get_or, Option, Some, refl, sym, ap, subst, ◌∙◌, arith}
use Rattle.std.specs.Prelude.{All, Contains}
use Rattle.std.proofs.lemmas.List.{map_push, map_more}
use Rattle.std.proofs.lemmas.List.Elements.{All-cons, Contains-append_left, Contains-push, Contains-push_cases, Contains-get_or}
use Rattle.std.specs.List.{position_or_len}
use Rattle.nts_model.specs.declared.labels.Leaf.{Leaf}
use Rattle.nts_model.specs.declared.labels.Leaf.TheVariants as leaf
use Rattle.nts_model.specs.declared.labels.VariableKind.TheVariants as kind
use Rattle.nts_model.specs.declared.labels.Relation.{Relation}
use Rattle.nts_model.specs.declared.labels.Relation.TheVariants as relation
use Rattle.nts_model.specs.declared.labels.Sort.TheVariants as sort
use Rattle.nts_model.specs.Terms.Trees.{Tree, empty, NodeKind, any_argument, FitsPlace, kind_of, of_sort}
use Rattle.nts_model.specs.Tables.Contents.{Content, Recorded}
use Rattle.nts_model.specs.Tables.Resolving.{Knows, IsSound, deeply_resolved}
use Rattle.nts_model.specs.Derivations.Related.{Constraint as Relates}
use Rattle.nts_model.specs.Derivations.Sequents.{HasOneSide, IsTrivial}
use Rattle.nts_model.specs.Derivations.Proving.{read_constraint}
use Rattle.nts_model.specs.Canonical.Inputs.{share}
use Rattle.nts_model.specs.Answers.Responses.{Findings, Response as Form, recorded_by, said, value_row, constraint_row, hidden_row, goal_row, findings_by, own_leaves, positioned, answer_kind, answer_kinds, greatest, response_of}
use Rattle.nts_model.proofs.Tables.Sound.{SameStates}
use Rattle.nts_model.proofs.Tables.Classes.{deeply_resolved-same}
use Rattle.nts_model.proofs.Tables.Kept.{kind_of-deeply_resolved}
use Rattle.nts_model.proofs.Tables.Open.{Knows-deeply_resolved}
use Rattle.nts_store.specs.declared.nodes.NodeId.{NodeId}
use Rattle.nts_store.specs.Growth.{tree_at, Extends}
use Rattle.nts_store.proofs.Growing.{IsIn-extended, Extends-trans}
use Rattle.nts_terms.specs.declared.handles.GenericArg.{GenericArg}
use Rattle.nts_terms.specs.declared.modes.VisibleForLeakCheck.{VisibleForLeakCheck}
use Rattle.nts_terms.specs.Handles.{Holds, HoldsArg}
use Rattle.nts_unify.specs.declared.contents.Constraint.{Constraint}
use Rattle.nts_unify.specs.Entries.{Entries}
use Rattle.nts_model.specs.Tables.Recording.{left_kind}
use Rattle.nts_unify.specs.Reading.{content_of, recorded_of, IsConstraint, AreConstraints, IsLawful}
use Rattle.nts_unify.specs.Lawful.{content_of-extended}
use Rattle.nts_table.specs.Tables.{IsTable, IsTermIn, Table}
use Rattle.nts_model.specs.Tables.Recording.{resolved_constraint, resolved_constraints, RelatesSame, IsAmong, AreNews, none, passed, told}
use Rattle.nts_candidates.specs.declared.data.RegionConstraint.{RegionConstraint}
use Rattle.nts_candidates.specs.Offered.{hidden_of}
use Rattle.nts_canonical.specs.Forms.{trees_of}
use Rattle.nts_canonical.specs.Building.{IsArgOf}
use Rattle.nts_certainty.specs.declared.certainty.Certainty.{Certainty}
use Rattle.nts_certainty.specs.declared.certainty.Certainty.TheVariants as certainty
use Rattle.nts_response.specs.declared.types.Response.{Response}
use Rattle.nts_response.specs.Forms.{recorded_at, premise_at, findings_at, StoreHoldsConstraint, KnowsFindings, HoldsResponse}
use Rattle.nts_response.proofs.Each.{same_views, values_kept}
use Rattle.nts_response.specs.Replacing.{ReplacesEach, argument_value}
use Rattle.nts_theory.specs.Telling.{IsResponseOf, without_constraints, AreClassesOf}
use Rattle.nts_meaning.specs.Answering.{told_in, AreTold, KnowsSides, is_yes, verdict_at}
use Rattle.nts_canonical.specs.declared.types.Canonical.{Canonical}
use Rattle.nts_search.proofs.StackLater.{response_same}
use Rattle.nts_meaning.proofs.SubClasses.{classes_without}

-- an argument of a table is a term of it while the store grows
pub term_of_arg : {a b : List Tree} {t : Table} {x : GenericArg} → IsTable a t → Extends a b → IsArgOf a t.entries x → IsTermIn b t x.node
term_of_arg {a} {b} {t} {x} h e k =
    record { within = IsIn-extended e x.node k.holds.within; knows = rw (content_of-extended e h.now, e.kept x.node k.holds.within) k.known }

-- a term of that kind may stand where the argument does
pub holds_resolved : {a b c : List Tree} {t : Table} {x : GenericArg} {n : NodeId} → Extends a b → IsArgOf a t.entries x → IsTermIn c t n → kind_of (tree_at c n) ≡ kind_of (tree_at b x.node) → Holds any_argument c n
holds_resolved {a} {b} {c} {t} {x} {n} e k r q =
    let same : kind_of (tree_at c n) ≡ kind_of (tree_at a x.node) = q ∙ ap kind_of (e.kept x.node k.holds.within) in
    record { within = r.within; fits = rw same k.holds.fits }

-- resolved arguments are arguments of the table
pub args_resolved : (a b : List Tree) (e : Entries) (c : Content) (xs ys : List GenericArg) → content_of b e ≡ c → IsSound c → All (λ x. Knows c (tree_at a x.node)) xs
    → ReplacesEach HoldsArg argument_value (deeply_resolved c) a b xs ys → All (IsArgOf b e) ys
args_resolved a b e c xs ys same s k r = each xs ys k r.views r.held
  where
    each : (xs ys : List GenericArg) → All (λ x. Knows c (tree_at a x.node)) xs → map (argument_value b) ys ≡ map (deeply_resolved c) (map (argument_value a) xs) → All (HoldsArg b) ys → All (IsArgOf b e) ys
    each xs [] k v h = λ j d l. absurd (omega arith)
    each [] (y ∷ ys) k v h = cc
    each (x ∷ xs) (y ∷ ys) k v h =
        let first : tree_at b y.node ≡ deeply_resolved c (tree_at a x.node) = cc in
        let rest : map (argument_value b) ys ≡ map (deeply_resolved c) (map (argument_value a) xs) = cc in
        let arg : IsArgOf b e y = record { holds = h 0 y (omega arith); known = rw (same, first) (Knows-deeply_resolved c (tree_at a x.node) s (k 0 x (omega arith))) } in
        All-cons (IsArgOf b e) y ys arg (each xs ys (λ j d l. k (suc j) d (omega arith)) rest (λ j d l. h (suc j) d (omega arith)))

-- of each element of a mapped list, and of what stands in a list
mapped : {X Y : Type 0} (f : X → Y) (xs : List X) (y : Y) → Contains (map f xs) y → (x : X) × Contains xs x × (y ≡ f x)
mapped f [] y h = absurd (let l = h.1 in omega arith)
mapped f (x ∷ xs) y (zero, l, e) = (x, (0, omega arith, refl), sym e)
mapped f (x ∷ xs) y (suc k, l, e) =
    let r = mapped f xs y (k, omega arith, e) in
    let at = r.1 in
    let inside = at.1 in
    (r.0, (suc at.0, omega arith, at.2), r.2)

mapped_from : {X Y : Type 0} (f : X → Y) (xs : List X) (x : X) → Contains xs x → Contains (map f xs) (f x)
mapped_from f [] x h = absurd (let l = h.1 in omega arith)
mapped_from f (y ∷ xs) x (zero, l, e) = (0, omega arith, ap f e)
mapped_from f (y ∷ xs) x (suc k, l, e) =
    let r = mapped_from f xs x (k, omega arith, e) in
    let inside = r.1 in
    (suc r.0, omega arith, r.2)

is_constraint : (ts : List Tree) (c : Content) (xs : List Constraint) (x : Constraint) → AreConstraints ts c xs → Contains xs x → IsConstraint ts c x
is_constraint ts c [] x a h = absurd (let l = h.1 in omega arith)
is_constraint ts c (y ∷ xs) x a (zero, l, e) = subst (IsConstraint ts c) e a.0
is_constraint ts c (y ∷ xs) x a (suc k, l, e) = is_constraint ts c xs x a.1 (k, omega arith, e)

-- what is told was recorded; and what was recorded has one side on both, or one that says the same is told
told_recorded : {xs ys : List Recorded} → AreNews xs ys → (y : Recorded) → Contains ys y → Contains xs y
told_recorded none y h = h
told_recorded (passed {xs} {ys} x n k) y h = Contains-append_left xs (x ∷ []) y (told_recorded n y h)
told_recorded (told {xs} {ys} x n k) y h =
    ⊎_elim (λ w. Contains-append_left xs (x ∷ []) y (told_recorded n y w)) (λ e. subst (Contains (xs ++ x ∷ [])) e (Contains-push xs x)) (Contains-push_cases ys x y h)

among : (xs : List Recorded) (z : Recorded) → IsAmong xs z → (y : Recorded) × Contains xs y × RelatesSame y z
among [] z h = absurd h
among (x ∷ xs) z (inl e) = (x, (0, omega arith, refl), e)
among (x ∷ xs) z (inr h) =
    let r = among xs z h in
    let at = r.1 in
    let inside = at.1 in
    (r.0, (suc at.0, omega arith, at.2), r.2)

abbrev IsToldIn : List Recorded → Recorded → Type 0
IsToldIn ys z = (z.left ≡ z.right) ⊎ ((y : Recorded) × Contains ys y × RelatesSame y z)

same_told : (ys : List Recorded) (w z : Recorded) → RelatesSame w z → IsToldIn ys w → IsToldIn ys z
same_told ys w z e (inl q) = inl (sym e.left ∙ q ∙ e.right)
same_told ys w z e (inr (y, m, s)) = inr (y, m, record { relation = s.relation ∙ e.relation; left = s.left ∙ e.left; right = s.right ∙ e.right })

more_told : (ys : List Recorded) (x z : Recorded) → IsToldIn ys z → IsToldIn (ys ++ x ∷ []) z
more_told ys x z (inl q) = inl q
more_told ys x z (inr (y, m, s)) = inr (y, Contains-append_left ys (x ∷ []) y m, s)

recorded_told : {xs ys : List Recorded} → AreNews xs ys → (z : Recorded) → Contains xs z → IsToldIn ys z
recorded_told none z h = absurd (let l = h.1 in omega arith)
recorded_told (passed {xs} {ys} x n k) z h =
    ⊎_elim (recorded_told n z) (λ e. subst (IsToldIn ys) e (⊎_elim (λ q. inl q) (λ m. (let w = among xs x m in same_told ys w.0 x w.2 (recorded_told n w.0 w.1))) k)) (Contains-push_cases xs x z h)
recorded_told (told {xs} {ys} x n k) z h =
    ⊎_elim (λ w. more_told ys x z (recorded_told n z w)) (λ e. inr (x, Contains-push ys x, subst (RelatesSame x) e (record { relation = refl; left = refl; right = refl }))) (Contains-push_cases xs x z h)

-- sides that are one are of one sort
trivial : (q : Relation) (x : Relates) → kind_of x.left ≡ Some (left_kind q) → kind_of x.right ≡ Some (of_sort sort.Region) → x.left ≡ x.right → HasOneSide q x
trivial relation.Equal x l r e = e
trivial relation.RegionOutlives x l r e = e
trivial relation.TypeOutlives x l r e = (let z : Some (of_sort sort.Ty) ≡ Some (of_sort sort.Region) = sym l ∙ ap kind_of e ∙ r in cc)

-- the news of a table's constraints are told
pub news_told : (ts : List Tree) (e : Entries) (xs : List Recorded) → IsLawful ts e → AreNews (resolved_constraints (content_of ts e)) xs → AreTold (content_of ts e) xs
news_told ts e xs h n = record {
  news = n;
  found = λ y m. mapped (recorded_by (deeply_resolved c)) c.constraints y (told_recorded n y m);
  kept = kept;
}
  where
    c : Content
    c = content_of ts e

    trivial_at : (r : Recorded) → Contains c.constraints r → deeply_resolved c r.left ≡ deeply_resolved c r.right → IsTrivial (read_constraint c r)
    trivial_at r m q =
        let at = mapped (recorded_of ts) e.constraints r m in
        let x = at.0 in
        let k = is_constraint ts c e.constraints x h.constraints at.1 in
        let left : kind_of (deeply_resolved c r.left) ≡ Some (left_kind r.relation) =
        ap (λ z. kind_of (deeply_resolved c z.left)) at.2 ∙ kind_of-deeply_resolved c (tree_at ts x.left) h.sound k.left_known ∙ k.left_sort ∙ sym (ap (λ z. Some (left_kind z.relation)) at.2) in
        let right : kind_of (deeply_resolved c r.right) ≡ Some (of_sort sort.Region) =
        ap (λ z. kind_of (deeply_resolved c z.right)) at.2 ∙ kind_of-deeply_resolved c (tree_at ts x.right) h.sound k.right_known ∙ k.right_sort in
        trivial r.relation (read_constraint c r) left right q

    kept : (r : Recorded) → Contains c.constraints r → IsTrivial (read_constraint c r) ⊎ ((y : Recorded) × Contains xs y × (said y ≡ read_constraint c r))
    kept r m =
        ⊎_elim
        (λ q. inl (trivial_at r m q))
        (λ w. inr (w.0, w.1, λ i. record { relation = w.2.relation i; left = w.2.left i; right = w.2.right i }))
        (recorded_told n (resolved_constraint c r) (mapped_from (resolved_constraint c) c.constraints r m))

-- an answer in doubt tells none
pub none_told : (q : Certainty) (c : Content) (xs : List Recorded) → (q ≡ certainty.Yes → ⊥) → xs ≡ [] → AreTold (told_in q c) xs
none_told certainty.Yes c xs unsure e = absurd (unsure refl)
none_told (certainty.Maybe i) c xs unsure e =
    rw e (record { news = none; found = λ y m. absurd (let l = m.1 in omega arith); kept = λ r m. absurd (let l = m.1 in omega arith) })

-- their sides are of the table
pub sides_known : (ts : List Tree) (c : Content) (xs : List Constraint) → AreConstraints ts c xs → KnowsSides c (map (recorded_of ts) xs)
sides_known ts c xs a = record {
  left = λ x m. (let at = mapped (recorded_of ts) xs x m in subst (λ z. Knows c z.left) (sym at.2) (is_constraint ts c xs at.0 a at.1).left_known);
  right = λ x m. (let at = mapped (recorded_of ts) xs x m in subst (λ z. Knows c z.right) (sym at.2) (is_constraint ts c xs at.0 a at.1).right_known);
}

-- one more is told
left_fits : (q : Relation) (k : Option NodeKind) → k ≡ Some (left_kind q) → FitsPlace any_argument k
left_fits relation.Equal k e = rw e tt
left_fits relation.RegionOutlives k e = rw e tt
left_fits relation.TypeOutlives k e = rw e tt

pub holds_told : (ts : List Tree) (c : Content) (x : Constraint) (r : RegionConstraint × VisibleForLeakCheck) → IsConstraint ts c x → r.0.left.node ≡ x.left → r.0.right.node ≡ x.right → StoreHoldsConstraint ts r
holds_told ts c x r h l k = record {
  left = record { within = rw l h.left_in; fits = rw l (left_fits x.relation (kind_of (tree_at ts x.left)) h.left_sort) };
  right = record { within = rw k h.right_in; fits = rw k h.right_sort };
}

pub is_constraint_at : (ts : List Tree) (c : Content) (xs : List Constraint) (i : ℕ) (d : Constraint) → AreConstraints ts c xs → i < length xs → IsConstraint ts c (get_or xs i d)
is_constraint_at ts c xs i d a l = is_constraint ts c xs (get_or xs i d) a (Contains-get_or xs i d l)

pub more_recorded : (ts : List Tree) (xs : List Constraint) (i : ℕ) (d : Constraint) (rs new : List (RegionConstraint × VisibleForLeakCheck)) (r : RegionConstraint × VisibleForLeakCheck) → i < length xs
    → map (recorded_at ts) rs ≡ map (recorded_of ts) (take i xs) → recorded_at ts r ≡ recorded_of ts (get_or xs i d) → new ≡ rs ++ r ∷ [] → map (recorded_at ts) new ≡ map (recorded_of ts) (take (i + 1) xs)
more_recorded ts xs i d rs new r l h e q =
    ap (map (recorded_at ts)) q ∙ map_push (recorded_at ts) rs r ∙ ap (λ vs. vs ++ recorded_at ts r ∷ []) h ∙ ap (λ v. map (recorded_of ts) (take i xs) ++ v ∷ []) e ∙ sym (map_more (recorded_of ts) xs i d l)

-- the trees of what was found out are of the table
knows_values : (a b : List Tree) (e : Entries) (xs : List GenericArg) (r : Tree) → Extends a b → content_of b e ≡ content_of a e → All (IsArgOf a e) xs → Knows (content_of b e) r → Knows (content_of b e) (value_row (trees_of b xs) r)
knows_values a b e [] r up same h k = k
knows_values a b e (x ∷ xs) r up same h k =
    let arg = h 0 x (omega arith) in
    let known : Knows (content_of b e) (tree_at a x.node) = subst (λ c. Knows c (tree_at a x.node)) (sym same) arg.known in
    (rw (up.kept x.node arg.holds.within) known, knows_values a b e xs r up same (λ j d l. h (suc j) d (omega arith)) k)

knows_constraints : (c : Content) (xs : List Recorded) (r : Tree) → KnowsSides c xs → Knows c r → Knows c (constraint_row xs r)
knows_constraints c [] r h k = k
knows_constraints c (x ∷ xs) r h k =
    let later = λ (y : Recorded) (m : Contains xs y). (let below = m.1 in let z : Contains (x ∷ xs) y = (suc m.0, omega arith, m.2) in z) in
    (h.left x (0, omega arith, refl), (h.right x (0, omega arith, refl), knows_constraints c xs r (record { left = λ y m. h.left y (later y m); right = λ y m. h.right y (later y m) }) k))

pub knows_findings : (a b : List Tree) (e : Entries) (x : Response) → Extends a b → content_of b e ≡ content_of a e → All (IsArgOf a e) x.var_values.items → KnowsSides (content_of b e) (map (recorded_at b) x.external_constraints.region_constraints.items)
    → x.external_constraints.opaque_types.items ≡ [] → x.external_constraints.normalization_nested_goals.items ≡ [] → KnowsFindings (content_of b e) (findings_at b x)
knows_findings a b e x up same args sides hidden goals =
    let rest : Knows (content_of b e) (hidden_row (map (hidden_of b) x.external_constraints.opaque_types.items) (goal_row (map (premise_at b) x.external_constraints.normalization_nested_goals.items) empty)) = rw (hidden, goals) tt in
    record { trees = knows_values a b e x.var_values.items _ up same args (knows_constraints (content_of b e) (map (recorded_at b) x.external_constraints.region_constraints.items) _ sides rest) }

-- a table's region constraints have no part in what its variables are
kind_without : (c : Content) (m f : ℕ) (l : Leaf) → answer_kind (without_constraints c) m f l ≡ answer_kind c m f l
kind_without c m f (leaf.Variable kind.Ty n) = refl
kind_without c m f (leaf.Variable kind.Int n) = refl
kind_without c m f (leaf.Variable kind.Float n) = refl
kind_without c m f (leaf.Variable kind.Const n) = refl
kind_without c m f (leaf.Variable kind.Region n) = refl
kind_without c m f (leaf.Region r) = refl
kind_without c m f (leaf.TyConstant a) = refl
kind_without c m f (leaf.ConstConstant a) = refl

kinds_without : (c : Content) (root : ℕ → ℕ) (m : ℕ) (s : List Leaf) → answer_kinds (without_constraints c) root m s ≡ answer_kinds c root m s
kinds_without c root m s = λ i. map (λ l. kind_without c m (position_or_len (share root l) s) l i) s

response_without : (c : Content) (root : ℕ → ℕ) (m : ℕ) (x : Findings) → response_of (without_constraints c) root m x ≡ response_of c root m x
response_without c root m x =
    let same = kinds_without c root m (own_leaves x) in
    λ i. record { findings = findings_by (positioned (own_leaves x)) x; kinds = same i; max_universe = greatest (same i) }

pub states_without : (c : Content) → SameStates c (without_constraints c)
states_without c = record { states = λ n. refl; kinds = λ n. refl; order = refl; grows = omega arith; more = refl }

-- the response of the table says what it tells
pub response_told : (q : Certainty) (c : Content) (root : ℕ → ℕ) (qs : List Tree) (x : Findings) (r : Form) → AreClassesOf c root → x.values ≡ map (deeply_resolved c) qs → AreTold (told_in q c) x.constraints → x.hidden ≡ [] → x.open_goals ≡ [] → r ≡ response_of c root 0 x → IsResponseOf (told_in q c) qs r
response_told certainty.Yes c root qs x r classes v t hidden goals is = record {
  roots = root;
  classes = classes;
  findings = x;
  reads = record { values = v; found = t.found; kept = t.kept };
  news = t.news;
  no_hidden = hidden;
  no_goals = goals;
  is = is;
}
response_told (certainty.Maybe z) c root qs x r classes v t hidden goals is = record {
  roots = root;
  classes = classes_without c root classes;
  findings = x;
  reads = record { values = v ∙ (λ i. map (λ q. sym (deeply_resolved-same c (without_constraints c) q (states_without c)) i) qs); found = t.found; kept = t.kept };
  news = t.news;
  no_hidden = hidden;
  no_goals = goals;
  is = is ∙ sym (response_without c root 0 x);
}

-- .. where the values were found first, then the constraints, and the store grew
pub answers_told : (a b d : List Tree) (e : Entries) (q : Certainty) (root : ℕ → ℕ) (qs : List Tree) (x : Response) (r : Form) → AreClassesOf (content_of a e) root → IsLawful a e → Extends a b → Extends b d → All (IsArgOf b e) x.var_values.items
    → trees_of b x.var_values.items ≡ map (deeply_resolved (content_of a e)) qs → AreTold (told_in q (content_of b e)) (map (recorded_at d) x.external_constraints.region_constraints.items)
    → x.external_constraints.opaque_types.items ≡ [] → x.external_constraints.normalization_nested_goals.items ≡ [] → r ≡ response_of (content_of d e) root 0 (findings_at d x) → IsResponseOf (told_in q (content_of a e)) qs r
answers_told a b d e q root qs x r classes h up more args values t hidden goals is =
    let first = content_of-extended up h in
    let second = content_of-extended (Extends-trans up more) h in
    let views = same_views HoldsArg argument_value values_kept b d x.var_values.items (λ j y l. (args j y l).holds) more ∙ values in
    let all : AreTold (told_in q (content_of a e)) (map (recorded_at d) x.external_constraints.region_constraints.items) = subst (λ c. AreTold (told_in q c) (map (recorded_at d) x.external_constraints.region_constraints.items)) first t in
    response_told q (content_of a e) root qs (findings_at d x) r classes views all (ap (map (hidden_of d)) hidden) (ap (map (premise_at d)) goals) (is ∙ ap (λ c. response_of c root 0 (findings_at d x)) second)

-- a verdict of a store that has grown
pub verdict_same : (a b : List Tree) (r : Canonical Response) → Extends a b → HoldsResponse a r.value → verdict_at b r ≡ verdict_at a r
verdict_same a b r e h = ap (λ z. record { response = z; is_yes = is_yes r.value.certainty }) (response_same a b r e h)
