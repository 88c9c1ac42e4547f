-- The response of a query's table may be applied to the originals, and says what the table proves.
use Rattle.std.proofs.Common.{◌≡◌, inl, inr, ⊎_elim, ℕ, zero, suc, false, List, [], ◌∷◌, map, get_or, Some, refl, sym, ◌∙◌, subst}
use Rattle.std.specs.Prelude.{slice_get, Contains}
use Rattle.nts_model.specs.declared.labels.Sort.TheVariants as sort
use Rattle.nts_model.specs.declared.labels.VariableKind.TheVariants as kind
use Rattle.nts_model.specs.declared.labels.FreeRegion.TheVariants as region
use Rattle.nts_model.specs.declared.labels.Constant.{Constant}
use Rattle.nts_model.specs.declared.labels.Constant.TheVariants as constant
use Rattle.nts_model.specs.declared.labels.Leaf.{Leaf}
use Rattle.nts_model.specs.declared.labels.Leaf.TheVariants as leaf
use Rattle.nts_model.specs.declared.labels.BoundVarIndexKind.TheVariants as index
use Rattle.nts_model.specs.declared.labels.Label.{Label}
use Rattle.nts_model.specs.declared.labels.Label.TheVariants as label
use Rattle.nts_model.specs.Terms.Trees.{Tree, empty, is_canonical}
use Rattle.nts_model.specs.Tables.Contents.{Content, Recorded}
use Rattle.nts_model.specs.Tables.Resolving.{deeply_resolved}
use Rattle.nts_model.specs.Terms.Regions.{of_variable, of_free, IsRegion}
use Rattle.nts_model.specs.Terms.Substitutions.{leaf_tree}
use Rattle.nts_model.specs.Lists.{Among}
use Rattle.nts_model.specs.Derivations.Sequents.{Premise}
use Rattle.nts_model.specs.Canonical.Inputs.{Input, PositionKind, placeholder, position_kind, originals, canonical_of}
use Rattle.nts_model.specs.Derivations.Proving.{IsTermOf, read_goals}
use Rattle.nts_model.specs.Tables.Passing.{AllLabels}
use Rattle.nts_model.specs.Answers.Responses.{Findings, AreFindings, value_row, constraint_row, hidden_row, goal_row, row_of, is_fixed, own_leaves, response_of, IsLeafFor, IsResponseFor, IsResponseTo, Response, IsLeafIn, IsLabelIn, IsQueryTable}
use Rattle.nts_model.proofs.Tables.ResolvedTerms.{IsFormed-deeply_resolved}
use Rattle.nts_theory.proofs.Derivations.ProvedLater.{contains_first, contains_later}
use Rattle.nts_theory.proofs.Responses.Answering.{AllTrees, AllSides, AllGoals, AllFound, IsPlainTerm}
use Rattle.nts_theory.proofs.Responses.Closing.{answer_fits}
use Rattle.nts_model.proofs.Terms.Unpositioned.{known_well_bound}
use Rattle.nts_model.proofs.Tables.Open.{Knows-deeply_resolved}
use Rattle.nts_model.proofs.Tables.Passing.{passes-deeply_resolved, passes-seen, passes-no_positions}

-- the original of a position that is a placeholder
record IsOriginal (r : ℕ → ℕ) (all os : List Leaf) (n : ℕ) (k : PositionKind) : Type 0 where
  pub of_leaf : Leaf
  pub at : get_or (map leaf_tree os) n empty ≡ leaf_tree of_leaf
  pub kind : position_kind r all of_leaf ≡ k

original_of : (r : ℕ → ℕ) (all os : List Leaf) (n : ℕ) (k : PositionKind) → slice_get (map (position_kind r all) os) n ≡ Some k → IsOriginal r all os n k
original_of r all [] n k e = cc e
original_of r all (o ∷ os) zero k e = record { of_leaf = o; at = refl; kind = (let z : Some (position_kind r all o) ≡ Some k = e in cc z) }
original_of r all (o ∷ os) (suc n) k e = let x = original_of r all os n k e in record { of_leaf = x.of_leaf; at = x.at; kind = x.kind }

type_original : (r : ℕ → ℕ) (all : List Leaf) (l : Leaf) (u n : ℕ) → position_kind r all l ≡ placeholder sort.Ty u n → (a : Constant) × (leaf_tree l ≡ leaf_tree (leaf.TyConstant a))
type_original r all (leaf.TyConstant a) u n e = (a, refl)
type_original r all (leaf.ConstConstant a) u n e = cc e
type_original r all (leaf.Region a) u n e = cc e
type_original r all (leaf.Variable kind.Ty m) u n e = cc e
type_original r all (leaf.Variable kind.Int m) u n e = cc e
type_original r all (leaf.Variable kind.Float m) u n e = cc e
type_original r all (leaf.Variable kind.Const m) u n e = cc e
type_original r all (leaf.Variable kind.Region m) u n e = cc e

const_original : (r : ℕ → ℕ) (all : List Leaf) (l : Leaf) (u n : ℕ) → position_kind r all l ≡ placeholder sort.Const u n → (a : Constant) × (leaf_tree l ≡ leaf_tree (leaf.ConstConstant a))
const_original r all (leaf.ConstConstant a) u n e = (a, refl)
const_original r all (leaf.TyConstant a) u n e = cc e
const_original r all (leaf.Region a) u n e = cc e
const_original r all (leaf.Variable kind.Ty m) u n e = cc e
const_original r all (leaf.Variable kind.Int m) u n e = cc e
const_original r all (leaf.Variable kind.Float m) u n e = cc e
const_original r all (leaf.Variable kind.Const m) u n e = cc e
const_original r all (leaf.Variable kind.Region m) u n e = cc e

region_original : (r : ℕ → ℕ) (all : List Leaf) (l : Leaf) (u n : ℕ) → position_kind r all l ≡ placeholder sort.Region u n → IsRegion (leaf_tree l)
region_original r all (leaf.Region a) u n e = (of_free a, refl)
region_original r all (leaf.Variable kind.Region m) u n e = (of_variable m, refl)
region_original r all (leaf.TyConstant a) u n e = cc e
region_original r all (leaf.ConstConstant a) u n e = cc e
region_original r all (leaf.Variable kind.Ty m) u n e = cc e
region_original r all (leaf.Variable kind.Int m) u n e = cc e
region_original r all (leaf.Variable kind.Float m) u n e = cc e
region_original r all (leaf.Variable kind.Const m) u n e = cc e

-- what a query may hold, it may hold for the originals
pub leaf_in_for : (i : Input) (l : Leaf) → IsLeafIn (canonical_of i).kinds l → IsLeafFor (map leaf_tree (originals i)) l
leaf_in_for i (leaf.Variable k n) h = tt
leaf_in_for i (leaf.Region (region.Placeholder zero n)) h =
    let x = original_of i.sub_root (originals i) (originals i) n (placeholder sort.Region 0 n) h in
    rw (x.at) (region_original i.sub_root (originals i) x.of_leaf 0 n x.kind)
leaf_in_for i (leaf.Region (region.Placeholder (suc u) n)) h = tt
leaf_in_for i (leaf.Region region.Static) h = tt
leaf_in_for i (leaf.Region region.Erased) h = tt
leaf_in_for i (leaf.Region region.Error) h = tt
leaf_in_for i (leaf.Region (region.EarlyParam n)) h = h
leaf_in_for i (leaf.Region (region.LateParam n)) h = h
leaf_in_for i (leaf.TyConstant (constant.Placeholder zero n)) h =
    let x = original_of i.sub_root (originals i) (originals i) n (placeholder sort.Ty 0 n) h in
    let t = type_original i.sub_root (originals i) x.of_leaf 0 n x.kind in (t.0, x.at ∙ t.1)
leaf_in_for i (leaf.TyConstant (constant.Placeholder (suc u) n)) h = tt
leaf_in_for i (leaf.TyConstant (constant.Param n)) h = h
leaf_in_for i (leaf.ConstConstant (constant.Placeholder zero n)) h =
    let x = original_of i.sub_root (originals i) (originals i) n (placeholder sort.Const 0 n) h in
    let t = const_original i.sub_root (originals i) x.of_leaf 0 n x.kind in (t.0, x.at ∙ t.1)
leaf_in_for i (leaf.ConstConstant (constant.Placeholder (suc u) n)) h = tt
leaf_in_for i (leaf.ConstConstant (constant.Param n)) h = h

label_no_position : (ks : List PositionKind) (l : Label) → IsLabelIn ks l → is_canonical l ≡ false
label_no_position ks (label.Leaf l) h = refl
label_no_position ks (label.Bound s index.Canonical n) h = absurd h
label_no_position ks (label.Bound s (index.Bound d) n) h = refl
label_no_position ks (label.Ty x) h = refl
label_no_position ks (label.Const x) h = refl
label_no_position ks (label.Clause x) h = refl
label_no_position ks (label.Predicate x) h = refl
label_no_position ks (label.List x) h = refl

-- goals of a query's table
abbrev pub AreQueryGoals : List PositionKind → Content → List Premise → Type 0
AreQueryGoals ks q gs = (g : Premise) → Among gs g → (IsTermOf q g.environment × AllLabels (IsLabelIn ks) g.environment) × (IsTermOf q g.predicate × AllLabels (IsLabelIn ks) g.predicate)

-- what a query's table found out of the trees qs, where the goals gs are left open
module _ (ks : List PositionKind) (q : Content) (qs : List Tree) (x : Findings) (table : IsQueryTable ks q qs) (found : AreFindings q qs x) (no_hidden : x.hidden ≡ [])
    (gs : List Premise) (are_goals : x.open_goals ≡ read_goals q gs) (goal_terms : AreQueryGoals ks q gs) where
  -- .. are plain terms with labels of the query
  record IsFound (t : Tree) : Type 0 where
    pub plain : IsPlainTerm t
    pub labels : AllLabels (IsLabelIn ks) t

  found_term : (t : Tree) → IsTermOf q t → AllLabels (IsLabelIn ks) t → IsFound (deeply_resolved q t)
  found_term t h l =
      let labels = passes-deeply_resolved (IsLabelIn ks) (λ k n. tt) q t table.labels l in
      record {
        plain = record { formed = IsFormed-deeply_resolved q t table.sound table.values h.knows h.formed; no_positions = passes-no_positions (IsLabelIn ks) (label_no_position ks) (deeply_resolved q t) labels; well_bound = known_well_bound q (deeply_resolved q t) (Knows-deeply_resolved q t table.sound h.knows) };
        labels = labels;
      }

  all_values : (ts : List Tree) → ((t : Tree) → Among ts t → IsTermOf q t × AllLabels (IsLabelIn ks) t) → AllTrees IsFound (map (deeply_resolved q) ts)
  all_values [] h = tt
  all_values (t ∷ ts) h = (let a = h t (inl refl) in found_term t a.0 a.1, all_values ts (λ z i. h z (inr i)))

  values_found : AllTrees IsFound x.values
  values_found = subst (AllTrees IsFound) (sym found.values) (all_values qs table.terms)

  side_found : (y : Recorded) → Contains x.constraints y → IsFound y.left × IsFound y.right
  side_found y i =
      let r = found.found y i in
      let terms = table.constraints in
      let pass = table.labels in
      subst (λ z. IsFound z.left × IsFound z.right) (sym r.2) (
        found_term r.0.left (terms.left r.0 r.1) (pass.left r.0 r.1),
        found_term r.0.right (terms.right r.0 r.1) (pass.right r.0 r.1),
      )

  all_sides : (xs : List Recorded) → ((y : Recorded) → Contains xs y → IsFound y.left × IsFound y.right) → AllSides IsFound xs
  all_sides [] h = tt
  all_sides (y ∷ ys) h = (let a = h y (contains_first y ys) in (a.0, a.1, all_sides ys (λ z i. h z (contains_later y ys z i))))

  sides_found : AllSides IsFound x.constraints
  sides_found = all_sides x.constraints side_found

  all_goals : (hs : List Premise) → AreQueryGoals ks q hs → AllGoals IsFound (read_goals q hs)
  all_goals [] h = tt
  all_goals (g ∷ hs) h = (let a = h g (inl refl) in (found_term g.environment a.0.0 a.0.1, found_term g.predicate a.1.0 a.1.1, all_goals hs (λ z i. h z (inr i))))

  goals_found : AllGoals IsFound x.open_goals
  goals_found = subst (AllGoals IsFound) (sym are_goals) (all_goals gs goal_terms)

  plain_goals : (hs : List Premise) → AllGoals IsFound hs → AllGoals IsPlainTerm hs
  plain_goals [] h = tt
  plain_goals (g ∷ hs) h = (let a = h.0 in a.plain, let b = h.1 in b.plain, plain_goals hs h.2)

  plain_trees : (ts : List Tree) → AllTrees IsFound ts → AllTrees IsPlainTerm ts
  plain_trees [] h = tt
  plain_trees (t ∷ ts) h = (let a = h.0 in a.plain, plain_trees ts h.1)

  plain_sides : (xs : List Recorded) → AllSides IsFound xs → AllSides IsPlainTerm xs
  plain_sides [] h = tt
  plain_sides (y ∷ ys) h = (let a = h.0 in a.plain, let b = h.1 in b.plain, plain_sides ys h.2)

  pub all_plain : AllFound IsPlainTerm x
  all_plain = record { values = plain_trees x.values values_found; constraints = plain_sides x.constraints sides_found; hidden = rw no_hidden tt; open_goals = plain_goals x.open_goals goals_found }

  row_goals : (hs : List Premise) → AllGoals IsFound hs → AllLabels (IsLabelIn ks) (goal_row hs empty)
  row_goals [] h = tt
  row_goals (g ∷ hs) h = (let a = h.0 in a.labels, (let b = h.1 in b.labels, row_goals hs h.2))

  row_values : (ts : List Tree) (r : Tree) → AllTrees IsFound ts → AllLabels (IsLabelIn ks) r → AllLabels (IsLabelIn ks) (value_row ts r)
  row_values [] r h k = k
  row_values (t ∷ ts) r h k = (let a = h.0 in a.labels, row_values ts r h.1 k)

  row_sides : (xs : List Recorded) (r : Tree) → AllSides IsFound xs → AllLabels (IsLabelIn ks) r → AllLabels (IsLabelIn ks) (constraint_row xs r)
  row_sides [] r h k = k
  row_sides (y ∷ ys) r h k = (let a = h.0 in a.labels, (let b = h.1 in b.labels, row_sides ys r h.2 k))

  row_labels : AllLabels (IsLabelIn ks) (row_of x)
  row_labels = row_values x.values (constraint_row x.constraints (hidden_row x.hidden (goal_row x.open_goals empty))) values_found
      (row_sides x.constraints (hidden_row x.hidden (goal_row x.open_goals empty)) sides_found (rw no_hidden (row_goals x.open_goals goals_found)))

  pub own_in : (l : Leaf) → Among (own_leaves x) l → IsLeafIn ks l
  own_in l i = ⊎_elim (λ j. absurd j) (λ h. h) (passes-seen (IsLabelIn ks) is_fixed (row_of x) [] l row_labels i)

-- the response
pub query_fits : (ks : List PositionKind) (q : Content) (qs : List Tree) (sub : ℕ → ℕ) (x : Findings) → IsQueryTable ks q qs → AreFindings q qs x → x.hidden ≡ [] → x.open_goals ≡ [] → IsResponseTo ks (response_of q sub 0 x)
query_fits ks q qs sub x t f h g = answer_fits q t.sound ks qs sub x f (all_plain ks q qs x t f h [] g (λ y i. absurd i)) (own_in ks q qs x t f h [] g (λ y i. absurd i))

-- .. may be applied to the originals
pub response_to_for : (i : Input) (r : Response) → IsResponseTo (canonical_of i).kinds r → IsResponseFor (map leaf_tree (originals i)) r
response_to_for i r h = record { values = h.values; left = h.left; right = h.right; goals = h.goals; distinct = h.distinct; leaves = λ l j. leaf_in_for i l (h.leaves l j) }
