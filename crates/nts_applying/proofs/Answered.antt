-- The response of a query's table may be applied to the originals of its input.
use Rattle.std.proofs.Common.{◌≡◌, ⊎_elim, ℕ, zero, suc, ◌≤◌, false, List, [], ◌∷◌, map, length, get_or, Some, refl, sym, ap, subst, ◌∙◌, arith}
use Rattle.std.specs.Prelude.{◌-◌, All, Contains}
use Rattle.std.specs.List.{position_or_len}
use Rattle.std.proofs.lemmas.List.{length-map}
use Rattle.std.proofs.lemmas.List.Elements.{Contains-get_or}
use Rattle.nts_model.specs.declared.labels.Sort.{Sort}
use Rattle.nts_model.specs.declared.labels.Sort.TheVariants as sort
use Rattle.nts_model.specs.declared.labels.Relation.{Relation}
use Rattle.nts_model.specs.declared.labels.Relation.TheVariants as relation
use Rattle.nts_model.specs.declared.labels.VariableKind.TheVariants as kind
use Rattle.nts_model.specs.declared.labels.FreeRegion.TheVariants as region
use Rattle.nts_model.specs.declared.labels.Constant.TheVariants as constant
use Rattle.nts_model.specs.declared.labels.Leaf.{Leaf}
use Rattle.nts_model.specs.declared.labels.Leaf.TheVariants as leaf
use Rattle.nts_model.specs.declared.labels.Label.{Label}
use Rattle.nts_model.specs.declared.labels.Label.TheVariants as label
use Rattle.nts_model.specs.Terms.Trees.{Tree, empty, node, kind_of, of_sort, sort_of_leaf, FitsPlace, IsClosed}
use Rattle.nts_model.specs.Tables.Contents.{Content, Recorded}
use Rattle.nts_model.specs.Terms.Regions.{IsRegion}
use Rattle.nts_model.specs.Tables.Resolving.{deeply_resolved}
use Rattle.nts_model.specs.Terms.Substitutions.{leaf_tree}
use Rattle.nts_model.specs.Lists.{Among}
use Rattle.nts_model.specs.Derivations.Handlers.{hidden_by, premise_by}
use Rattle.nts_model.specs.Canonical.Inputs.{Input, PositionKind, placeholder, share, originals, canonical_of}
use Rattle.nts_model.specs.Searching.Driving.{sort_at}
use Rattle.nts_model.specs.Answers.Responses.{Findings, AreFindings, recorded_by, is_fixed, own_leaves, positioned, answer_kind, answer_kinds, universe_of_kind, response_of, Response as Form, IsLeafFor, IsLeafIn, IsQueryTable}
use Rattle.nts_model.proofs.Tables.Kept.{kind_of-deeply_resolved}
use Rattle.nts_model.proofs.Terms.Listed.{map-map}
use Rattle.nts_model.proofs.Tables.ResolvedTerms.{IsClosed-deeply_resolved}
use Rattle.nts_theory.proofs.Responses.Answering.{AllTrees, AllSides, AreSeen, IsPlainTerm, all_found_seen, own_loose}
use Rattle.nts_theory.proofs.Responses.PositionSorts.{IsTreeOver, positioned_is_over, positioned_kind, answer_sorts, below_greatest, contained_map, contained_from, contained_among}
use Rattle.nts_model.proofs.Lists.{contains_none, first_or_later}
use Rattle.nts_theory.proofs.Responses.Querying.{all_plain, own_in, leaf_in_for}
use Rattle.nts_store.specs.declared.nodes.NodeId.{NodeId}
use Rattle.nts_store.specs.Growth.{tree_at}
use Rattle.nts_unify.specs.declared.contents.Constraint.{Constraint}
use Rattle.nts_unify.specs.Changing.{HasClosedSides}
use Rattle.nts_model.specs.Tables.Recording.{left_kind}
use Rattle.nts_unify.specs.Reading.{content_of, recorded_of, AreConstraints}
use Rattle.nts_table.specs.Tables.{Table, IsTable}
use Rattle.nts_canonical.specs.declared.types.Canonical.{Canonical}
use Rattle.nts_canonical.specs.Forms.{kind_of_var}
use Rattle.nts_candidates.specs.Offered.{hidden_of}
use Rattle.nts_response.specs.declared.types.Response.{Response}
use Rattle.nts_response.specs.Forms.{HoldsResponse, recorded_at, premise_at, response_at}
use Rattle.nts_response.specs.Replacing.{argument_value}
use Rattle.nts_response.specs.Applied.{NamesOriginal}
use Rattle.nts_response.specs.Applicable.{IsOverSorts, left_place, IsHiddenOver, IsGoalOver, IsKindFor, response_sorts, IsApplicable}

-- the left side of a table's constraint may stand there
left_fits : (r : Relation) (t : Tree) → kind_of t ≡ Some (left_kind r) → FitsPlace (left_place r) (kind_of t)
left_fits relation.Equal t h = h
left_fits relation.RegionOutlives t h = h
left_fits relation.TypeOutlives t h = h

recorded_fits : (ts : List Tree) (c : Content) (xs : List Constraint) → AreConstraints ts c xs → (y : Recorded) → Contains (map (recorded_of ts) xs) y → FitsPlace (left_place y.relation) (kind_of y.left)
recorded_fits ts c [] h y i = absurd (contains_none y i)
recorded_fits ts c (x ∷ xs) h y i = ⊎_elim
    (λ e. subst (λ (z : Recorded). FitsPlace (left_place z.relation) (kind_of z.left)) e (let k = h.0 in left_fits x.relation (tree_at ts x.left) k.left_sort))
    (λ j. recorded_fits ts c xs h.1 y j) (first_or_later (recorded_of ts x) (map (recorded_of ts) xs) y i)

pub table_places : {ts : List Tree} {t : Table} → IsTable ts t → (y : Recorded) → Contains (content_of ts t.entries).constraints y → FitsPlace (left_place y.relation) (kind_of y.left)
table_places {ts} {t} h y i = recorded_fits ts (content_of ts t.entries) t.entries.constraints h.now.constraints y i

-- what holds of each view holds of each element
pub each_view : {X V : Type 0} (P : V → Type 0) (view : X → V) (xs : List X) (vs : List V) → map view xs ≡ vs → ((v : V) → Contains vs v → P v) → All (λ x. P (view x)) xs
each_view P view xs vs e h = λ i d l. h (view (get_or xs i d)) (subst (λ z. Contains z (view (get_or xs i d))) e (contained_map view xs (get_or xs i d) (Contains-get_or xs i d l)))

none_viewed : {X V : Type 0} (P : X → Type 0) (view : X → V) (xs : List X) → map view xs ≡ [] → All P xs
none_viewed P view [] e = λ i d l. absurd (omega (arith, l))
none_viewed P view (x ∷ xs) e = cc

tree_so : (P : Tree → Type 0) (ts : List Tree) (t : Tree) → AllTrees P ts → Contains ts t → P t
tree_so P [] t h i = absurd (contains_none t i)
tree_so P (u ∷ ts) t h i = ⊎_elim (λ e. subst P e h.0) (λ j. tree_so P ts t h.1 j) (first_or_later u ts t i)

sides_so : (P : Tree → Type 0) (xs : List Recorded) (x : Recorded) → AllSides P xs → Contains xs x → P x.left × P x.right
sides_so P [] x h i = absurd (contains_none x i)
sides_so P (y ∷ xs) x h i = ⊎_elim (λ e. subst (λ z. P z.left × P z.right) e (h.0, h.1)) (λ j. sides_so P xs x h.2 j) (first_or_later y xs x i)

-- a placeholder of the root names an original of its sort
pub region_sort : (t : Tree) → IsRegion t → kind_of t ≡ Some (of_sort sort.Region)
region_sort (node l empty) h = by_label l h
  where
    by_label : (l : Label) → IsRegion (node l empty) → kind_of (node l empty) ≡ Some (of_sort sort.Region)
    by_label (label.Leaf (leaf.Variable kind.Region n)) h = refl
    by_label (label.Leaf (leaf.Region r)) h = refl
    by_label l h = (let e = h.1 in cc)
region_sort t h = (let e = h.1 in cc)

same_universe : (u : ℕ) → u - 0 ≡ u
same_universe u = omega arith

placeholder_named : (os : List Tree) (s : Sort) (u n : ℕ) → NamesOriginal os (placeholder s u n) → NamesOriginal os (placeholder s (u - 0) n)
placeholder_named os s u n h = subst (λ v. NamesOriginal os (placeholder s v n)) (sym (same_universe u)) h

names_original : (os : List Tree) (c : Content) (f : ℕ) (l : Leaf) → IsLeafFor os l → is_fixed l ≡ false → NamesOriginal os (answer_kind c 0 f l)
names_original os c f (leaf.Variable kind.Ty n) h e = tt
names_original os c f (leaf.Variable kind.Int n) h e = tt
names_original os c f (leaf.Variable kind.Float n) h e = tt
names_original os c f (leaf.Variable kind.Const n) h e = tt
names_original os c f (leaf.Variable kind.Region n) h e = tt
names_original os c f (leaf.Region (region.Placeholder zero n)) h e = placeholder_named os sort.Region zero n (region_sort (get_or os n empty) h)
names_original os c f (leaf.Region (region.Placeholder (suc u) n)) h e = placeholder_named os sort.Region (suc u) n tt
names_original os c f (leaf.Region region.Static) h e = cc e
names_original os c f (leaf.Region region.Erased) h e = cc e
names_original os c f (leaf.Region region.Error) h e = cc e
names_original os c f (leaf.Region (region.EarlyParam n)) h e = absurd h
names_original os c f (leaf.Region (region.LateParam n)) h e = absurd h
names_original os c f (leaf.TyConstant (constant.Placeholder zero n)) h e = placeholder_named os sort.Ty zero n (ap kind_of h.1)
names_original os c f (leaf.TyConstant (constant.Placeholder (suc u) n)) h e = placeholder_named os sort.Ty (suc u) n tt
names_original os c f (leaf.TyConstant (constant.Param n)) h e = absurd h
names_original os c f (leaf.ConstConstant (constant.Placeholder zero n)) h e = placeholder_named os sort.Const zero n (ap kind_of h.1)
names_original os c f (leaf.ConstConstant (constant.Placeholder (suc u) n)) h e = placeholder_named os sort.Const (suc u) n tt
names_original os c f (leaf.ConstConstant (constant.Param n)) h e = absurd h

-- the response r stands for what the table q found out, x
module _ (ts : List Tree) (ks : List PositionKind) (os : List Tree) (q : Content) (qs : List Tree) (sub : ℕ → ℕ) (x : Findings) (r : Canonical Response)
    (table : IsQueryTable ks q qs) (found : AreFindings q qs x) (no_hidden : x.hidden ≡ []) (no_goals : x.open_goals ≡ []) (holds : HoldsResponse ts r.value) (is : response_at ts r ≡ response_of q sub 0 x)
    (closed : (t : Tree) → Among qs t → IsClosed t) (places : (y : Recorded) → Contains q.constraints y → FitsPlace (left_place y.relation) (kind_of y.left))
    (sides : HasClosedSides q) (leaves : (l : Leaf) → IsLeafIn ks l → IsLeafFor os l) (long : length qs ≡ length os) where
  abbrev own : List Leaf
  own = own_leaves x

  abbrev sorts : List Sort
  sorts = map sort_of_leaf own

  kinds_are : map kind_of_var r.var_kinds.items ≡ answer_kinds q sub 0 own
  kinds_are = ap (λ (z : Form). z.kinds) is

  sorts_are : sorts ≡ response_sorts r
  sorts_are = sym (sym (map-map sort_at kind_of_var r.var_kinds.items) ∙ ap (map sort_at) kinds_are ∙ answer_sorts q sub 0 own)

  -- each kind
  kind_for : (k : PositionKind) → Contains (answer_kinds q sub 0 own) k → IsKindFor r.max_universe os k
  kind_for k i =
      let (l, at, e) = contained_from (λ m. answer_kind q 0 (position_or_len (share sub m) own) m) own k i in
      let among = contained_among own l at in
      record {
        universe = subst (λ z. universe_of_kind k ≤ z) (sym (ap (λ (z : Form). z.max_universe) is)) (below_greatest (answer_kinds q sub 0 own) k i);
        original = subst (NamesOriginal os) (sym e) (names_original os q (position_or_len (share sub l) own) l (leaves l (own_in ks q qs x table found no_hidden [] no_goals (λ y j. absurd j) l among)) (own_loose x l among));
      }

  -- each value
  values_are : map (argument_value ts) r.value.var_values.items ≡ map (positioned own) x.values
  values_are = ap (λ (z : Form). z.findings.values) is

  value_closed : (t : Tree) → Contains x.values t → IsClosed t
  value_closed t i =
      let (u, at, e) = contained_from (deeply_resolved q) qs t (subst (λ z. Contains z t) found.values i) in
      subst IsClosed (sym e) (IsClosed-deeply_resolved q u table.values (closed u (contained_among qs u at)))

  value_over : (t : Tree) → Contains (map (positioned own) x.values) t → IsTreeOver sorts t
  value_over t i =
      let (u, at, e) = contained_from (positioned own) x.values t i in
      let plain = all_plain ks q qs x table found no_hidden [] no_goals (λ y j. absurd j) in
      let seen = all_found_seen x in
      subst (IsTreeOver sorts) (sym e) (positioned_is_over own u (tree_so IsPlainTerm x.values u plain.values at) (value_closed u at) (tree_so (AreSeen own) x.values u seen.values at))

  -- each constraint
  constraints_are : map (recorded_at ts) r.value.external_constraints.region_constraints.items ≡ map (recorded_by (positioned own)) x.constraints
  constraints_are = ap (λ (z : Form). z.findings.constraints) is

  side_closed : (y : Recorded) → Contains x.constraints y → IsClosed y.left × IsClosed y.right
  side_closed y i =
      let z = found.found y i in
      subst (λ v. IsClosed v.left × IsClosed v.right) (sym z.2) (IsClosed-deeply_resolved q z.0.left table.values (sides.left z.0 z.1), IsClosed-deeply_resolved q z.0.right table.values (sides.right z.0 z.1))

  side_fits : (y : Recorded) → Contains x.constraints y → FitsPlace (left_place y.relation) (kind_of y.left)
  side_fits y i =
      let z = found.found y i in
      let terms = table.constraints in
      let left = terms.left z.0 z.1 in
      subst (λ v. FitsPlace (left_place v.relation) (kind_of v.left)) (sym z.2) (subst (FitsPlace (left_place z.0.relation)) (sym (kind_of-deeply_resolved q z.0.left table.sound left.knows)) (places z.0 z.1))

  record IsOverThere (y : Recorded) : Type 0 where
    pub left : IsTreeOver sorts y.left
    pub right : IsTreeOver sorts y.right
    pub place : FitsPlace (left_place y.relation) (kind_of y.left)

  constraint_over : (y : Recorded) → Contains (map (recorded_by (positioned own)) x.constraints) y → IsOverThere y
  constraint_over y i =
      let (z, at, e) = contained_from (recorded_by (positioned own)) x.constraints y i in
      let plain = all_plain ks q qs x table found no_hidden [] no_goals (λ y j. absurd j) in
      let seen = all_found_seen x in
      let p = sides_so IsPlainTerm x.constraints z plain.constraints at in
      let h = sides_so (AreSeen own) x.constraints z seen.constraints at in
      let left = p.0 in
      let right = p.1 in
      let c = side_closed z at in
      subst IsOverThere (sym e) (record {
        left = positioned_is_over own z.left left c.0 h.0;
        right = positioned_is_over own z.right right c.1 h.1;
        place = subst (FitsPlace (left_place z.relation)) (sym (positioned_kind own z.left)) (side_fits z at);
      })

  node_over : (t : NodeId) → IsTreeOver sorts (tree_at ts t) → IsOverSorts ts (response_sorts r) t
  node_over t h = subst (λ ss. IsOverSorts ts ss t) sorts_are (record { names = h.names; leaves = h.leaves; closed = h.closed; well_bound = h.well_bound })

  many : length os ≡ length r.value.var_values.items
  many =
      sym long
      ∙ sym (length-map qs (deeply_resolved q))
      ∙ ap length (sym found.values)
      ∙ sym (length-map x.values (positioned own))
      ∙ ap length (sym values_are)
      ∙ length-map r.value.var_values.items (argument_value ts)

  found_applicable : IsApplicable ts os r
  found_applicable =
      let h = ap (λ (z : Form). z.findings.hidden) is ∙ ap (map (hidden_by (positioned own))) no_hidden in
      let g = ap (λ (z : Form). z.findings.open_goals) is ∙ ap (map (premise_by (positioned own))) no_goals in
      record {
        holds = holds;
        kinds = each_view (IsKindFor r.max_universe os) kind_of_var r.var_kinds.items (answer_kinds q sub 0 own) kinds_are kind_for;
        values = λ i d l. node_over (get_or r.value.var_values.items i d).node (each_view (IsTreeOver sorts) (argument_value ts) r.value.var_values.items (map (positioned own) x.values) values_are value_over i d l);
        constraints = λ i d l.
            (let o = each_view IsOverThere (recorded_at ts) r.value.external_constraints.region_constraints.items (map (recorded_by (positioned own)) x.constraints) constraints_are constraint_over i d l in
            let here = holds.constraints i d l in
            let side = here.left in
            record { left = node_over _ o.left; right = node_over _ o.right; place = record { within = side.within; fits = o.place } });
        hidden = none_viewed (IsHiddenOver ts (response_sorts r)) (hidden_of ts) r.value.external_constraints.opaque_types.items h;
        open_goals = none_viewed (IsGoalOver ts (response_sorts r)) (premise_at ts) r.value.external_constraints.normalization_nested_goals.items g;
        long = many;
      }

-- a query's values are closed, as leaves are, and so are the sides of its table's constraints
pub answered_applicable : (ts : List Tree) (i : Input) (q : Content) (qs : List Tree) (sub : ℕ → ℕ) (x : Findings) (r : Canonical Response)
    → IsQueryTable (canonical_of i).kinds q qs → AreFindings q qs x → x.hidden ≡ [] → x.open_goals ≡ []
    → ((t : Tree) → Among qs t → IsClosed t) → ((y : Recorded) → Contains q.constraints y → FitsPlace (left_place y.relation) (kind_of y.left))
    → HasClosedSides q
    → HoldsResponse ts r.value → response_at ts r ≡ response_of q sub 0 x → length qs ≡ length (originals i) → IsApplicable ts (map leaf_tree (originals i)) r
answered_applicable ts i q qs sub x r table found no_hidden no_goals closed places sides holds is long =
    found_applicable ts (canonical_of i).kinds (map leaf_tree (originals i)) q qs sub x r table found no_hidden no_goals holds is closed places sides (leaf_in_for i) (long ∙ sym (length-map (originals i) leaf_tree))
