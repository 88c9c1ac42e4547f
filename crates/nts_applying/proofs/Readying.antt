-- What a response holds can be filled, once values were chosen for its positions.
use Rattle.std.proofs.Common.{◌≡◌, ℕ, suc, List, [], ◌∷◌, map, get_or, arith}
use Rattle.std.specs.Prelude.{All}
use Rattle.nts_model.specs.declared.labels.Sort.{Sort}
use Rattle.nts_model.specs.Terms.Trees.{Tree, empty, more, node, IsClosed}
use Rattle.nts_model.specs.Terms.Scoping.{IsWellBound}
use Rattle.nts_model.specs.Derivations.Related.{alias_label}
use Rattle.nts_terms.specs.declared.handles.AliasDefId.{AliasDefId}
use Rattle.nts_model.specs.Tables.Contents.{Content}
use Rattle.nts_model.specs.Tables.Resolving.{Knows, KnowsLeaves}
use Rattle.nts_model.specs.Terms.Substitutions.{filled}
use Rattle.nts_model.specs.Derivations.Handlers.{premise_by, NamesFresh}
use Rattle.nts_model.specs.Searching.Driving.{sort_at}
use Rattle.nts_model.specs.Answers.Responses.{IsOverPositions}
use Rattle.nts_theory.proofs.Responses.Answering.{AllTrees, AllSides}
use Rattle.nts_theory.proofs.Responses.ChosenClosed.{closed-filled}
use Rattle.nts_theory.proofs.Responses.Applied.{AreKnownFilled, AreKnownSides}
use Rattle.nts_store.specs.declared.nodes.NodeId.{NodeId}
use Rattle.nts_store.specs.Growth.{tree_at, IsIn, Extends}
use Rattle.nts_store.specs.Formed.{AreFormed}
use Rattle.nts_store.specs.Filled.{HasValues}
use Rattle.nts_store.proofs.Growing.{IsIn-extended}
use Rattle.nts_terms.specs.declared.handles.AliasTerm.{AliasTerm}
use Rattle.nts_terms.specs.declared.handles.AliasDefId.TheVariants as alias_def
use Rattle.nts_terms.specs.declared.handles.GenericArg.{GenericArg}
use Rattle.nts_terms.specs.declared.handles.Ty.{Ty}
use Rattle.nts_terms.specs.declared.modes.VisibleForLeakCheck.{VisibleForLeakCheck}
use Rattle.nts_table.proofs.Filling.{knows-filled}
use Rattle.nts_candidates.specs.declared.data.RegionConstraint.{RegionConstraint}
use Rattle.nts_canonical.specs.declared.types.Canonical.{Canonical}
use Rattle.nts_canonical.specs.declared.types.CanonicalVarKind.{CanonicalVarKind}
use Rattle.nts_canonical.specs.Forms.{kind_of_var, trees_of, hidden_pairs, IsHidden, AreHidden}
use Rattle.nts_canonical.proofs.PairLists.{are_hidden-kept, hidden_row-kept}
use Rattle.nts_candidates.specs.nts_certainty.specs.declared.sources.GoalSource.{GoalSource}
use Rattle.nts_terms.specs.declared.handles.Goal.{Goal}
use Rattle.nts_terms.specs.Handles.{HoldsArg, alias_head}
use Rattle.nts_response.specs.declared.types.Response.{Response}
use Rattle.nts_response.specs.Opened.{IsOpenable}
use Rattle.nts_response.specs.Forms.{StoreHoldsConstraint, HoldsOpen, HoldsResponse, recorded_at, premise_at}
use Rattle.nts_response.specs.Applied.{PositionsHaveSorts, IsFillable}
use Rattle.nts_response.specs.Applicable.{IsOverSorts, IsConstraintOver, IsHiddenOver, IsGoalOver, IsApplicable, AreRegistrable, IsResponseReady, AreKnownPremises}
use Rattle.nts_response.specs.Recorded.{IsRecordable}
use Rattle.nts_response.proofs.Each.{goals_kept, same_views}
use Rattle.nts_applying.proofs.Over.{fixed_known, has_values}
use Rattle.nts_applying.proofs.Chosen.{AreRegionsAt, filled_region, left_filled}

-- hidden types of a store, one by one
are_hidden : (ts : List Tree) (hs : List (AliasTerm × Ty)) → All (IsHidden ts) hs → AreHidden ts hs
are_hidden ts [] h = tt
are_hidden ts (x ∷ xs) h = (h 0 x (omega arith), are_hidden ts xs (λ k d l. h (suc k) d (omega (arith, l))))

-- in one row
record IsRowOver (c : Content) (ss : List Sort) (t : Tree) : Type 0 where
  pub names : NamesFresh ss t
  pub known : KnowsLeaves c t
  pub well_bound : IsWellBound t

alias_over : (c : Content) (ss : List Sort) (d : AliasDefId) (t : Tree) → NamesFresh ss t → KnowsLeaves c t → IsWellBound t → IsRowOver c ss (node (alias_label (alias_head d)) (more t empty))
alias_over c ss (alias_def.Ty a) t n k w = record { names = (tt, (n, tt)); known = ((tt, tt), (k, tt)); well_bound = (tt, (w, tt)) }
alias_over c ss (alias_def.Const a) t n k w = record { names = (tt, (n, tt)); known = ((tt, tt), (k, tt)); well_bound = (tt, (w, tt)) }

row_over : (ts : List Tree) (c : Content) (ss : List Sort) (hs : List (AliasTerm × Ty)) → All (IsHiddenOver ts ss) hs → IsRowOver c ss (hidden_pairs ts hs)
row_over ts c ss [] h = record { names = tt; known = tt; well_bound = tt }
row_over ts c ss (x ∷ xs) h =
    let o = h 0 x (omega arith) in
    let args = o.args in
    let ty = o.hidden_type in
    let alias = alias_over c ss x.0.def_id (tree_at ts x.0.args.node) args.names (fixed_known c (tree_at ts x.0.args.node) args.leaves) args.well_bound in
    let rest = row_over ts c ss xs (λ k d l. h (suc k) d (omega (arith, l))) in
    record { names = (alias.names, (ty.names, rest.names)); known = (alias.known, (fixed_known c (tree_at ts x.1.node) ty.leaves, rest.known)); well_bound = (alias.well_bound, (ty.well_bound, rest.well_bound)) }

-- with these values of the sorts of the positions
module _ (a b : List Tree) (c : Content) (ks : List CanonicalVarKind) (xs : List Tree) (formed : AreFormed a) (up : Extends a b)
    (sorts : PositionsHaveSorts (map kind_of_var ks) xs) (regions : AreRegionsAt (map kind_of_var ks) xs) (known : (j : ℕ) → Knows c (get_or xs j empty)) (closed : (j : ℕ) → IsClosed (get_or xs j empty)) where
  abbrev ss : List Sort
  ss = map (λ k. sort_at (kind_of_var k)) ks

  there : (t : NodeId) → IsIn a t → tree_at b t ≡ tree_at a t
  there t w = up.kept t w

  has : (t : NodeId) → IsIn a t → IsOverSorts a ss t → HasValues xs (tree_at b t)
  has t w o = rw (there t w) (has_values ks xs (tree_at a t) sorts o.names)

  knows : (t : NodeId) → IsIn a t → IsOverSorts a ss t → Knows c (filled xs (tree_at a t))
  knows t w o = knows-filled c xs (tree_at a t) known closed (fixed_known c (tree_at a t) o.leaves) o.well_bound

  pub fillable : (t : NodeId) → IsIn a t → IsOverSorts a ss t → IsFillable b c xs t
  fillable t w o = record { within = IsIn-extended up t w; positions = has t w o; knows = rw (there t w) (knows t w o) }

  recordable : (x : RegionConstraint × VisibleForLeakCheck) → StoreHoldsConstraint a x → IsConstraintOver a ss x → IsRecordable b c xs x
  recordable x h o =
      let held_left = h.left in
      let held_right = h.right in
      let w = held_left.within in
      let v = held_right.within in
      let r = held_right.fits in
      let left = o.left in
      let right = o.right in
      let place = o.place in
      record {
        left = fillable x.0.left.node w left;
        right = fillable x.0.right.node v right;
        left_side = rw (there x.0.left.node w) (left_filled x.0.relation ks xs (tree_at a x.0.left.node) regions place.fits (formed x.0.left.node w) left.closed left.names (has_values ks xs (tree_at a x.0.left.node) sorts left.names));
        left_closed = rw (there x.0.left.node w) (closed-filled xs closed 0 (tree_at a x.0.left.node) left.closed);
        right_side = rw (there x.0.right.node v) (filled_region ks xs (tree_at a x.0.right.node) regions r (formed x.0.right.node v) right.closed right.names);
      }

  registrable : (hs : List (AliasTerm × Ty)) → All (IsHidden a) hs → All (IsHiddenOver a ss) hs → AreRegistrable b c xs hs
  registrable hs h o =
      let held = are_hidden a hs h in
      let row = row_over a c ss hs o in
      let same = hidden_row-kept a b hs held up in
      record {
        held = are_hidden-kept a b hs held up;
        positions = rw same (has_values ks xs (hidden_pairs a hs) sorts row.names);
        knows = rw same (knows-filled c xs (hidden_pairs a hs) known closed row.known row.well_bound);
      }

  openable : (g : GoalSource × Goal) → HoldsOpen a g → IsGoalOver a ss g → IsOpenable b xs g
  openable g h o =
      let k = goals_kept in
      let held = h.goal in
      let env = held.env in
      let predicate = held.predicate in
      record { holds = k.held a b g h up; environment = has g.1.param_env.node env.within o.environment; predicate = has g.1.predicate.node predicate.within o.predicate }

  -- seen from the store before
  pub values_known : (vs : List GenericArg) → All (HoldsArg a) vs → All (λ v. IsOverSorts a ss v.node) vs → AreKnownFilled c xs (trees_of a vs)
  values_known [] h o = tt
  values_known (v ∷ vs) h o = (
    (let held = h 0 v (omega arith) in knows v.node held.within (o 0 v (omega arith))),
    values_known vs (λ k d l. h (suc k) d (omega (arith, l))) (λ k d l. o (suc k) d (omega (arith, l))),
  )

  sides_known : (cs : List (RegionConstraint × VisibleForLeakCheck)) → All (StoreHoldsConstraint a) cs → All (IsConstraintOver a ss) cs → AreKnownSides c xs (map (recorded_at a) cs)
  sides_known [] h o = tt
  sides_known (x ∷ cs) h o =
      let held = h 0 x (omega arith) in
      let left = held.left in
      let right = held.right in
      let over = o 0 x (omega arith) in (
        knows x.0.left.node left.within over.left,
        knows x.0.right.node right.within over.right,
        sides_known cs (λ k d l. h (suc k) d (omega (arith, l))) (λ k d l. o (suc k) d (omega (arith, l))),
      )

  goals_known : (gs : List (GoalSource × Goal)) → All (HoldsOpen a) gs → All (IsGoalOver a ss) gs → AreKnownPremises c (map (premise_by (filled xs)) (map (premise_at a) gs))
  goals_known [] h o = tt
  goals_known (g ∷ gs) h o =
      let held = h 0 g (omega arith) in
      let goal = held.goal in
      let env = goal.env in
      let predicate = goal.predicate in
      let over = o 0 g (omega arith) in (
        knows g.1.param_env.node env.within over.environment,
        knows g.1.predicate.node predicate.within over.predicate,
        goals_known gs (λ k d l. h (suc k) d (omega (arith, l))) (λ k d l. o (suc k) d (omega (arith, l))),
      )

-- its trees are over positions
over_positions : (ts : List Tree) (ss : List Sort) (t : NodeId) → AreFormed ts → IsIn ts t → IsOverSorts ts ss t → IsOverPositions (tree_at ts t)
over_positions ts us t f w o = record { leaves = o.leaves; formed = f t w }

pub values_over : (ts : List Tree) (ss : List Sort) (vs : List GenericArg) → AreFormed ts → All (HoldsArg ts) vs → All (λ v. IsOverSorts ts ss v.node) vs → AllTrees IsOverPositions (trees_of ts vs)
values_over ts us [] f h o = tt
values_over ts us (v ∷ vs) f h o = (
  (let held = h 0 v (omega arith) in over_positions ts us v.node f held.within (o 0 v (omega arith))),
  values_over ts us vs f (λ k d l. h (suc k) d (omega (arith, l))) (λ k d l. o (suc k) d (omega (arith, l))),
)

pub sides_over : (ts : List Tree) (ss : List Sort) (cs : List (RegionConstraint × VisibleForLeakCheck)) → AreFormed ts → All (StoreHoldsConstraint ts) cs → All (IsConstraintOver ts ss) cs → AllSides IsOverPositions (map (recorded_at ts) cs)
sides_over ts us [] f h o = tt
sides_over ts us (x ∷ cs) f h o =
    let held = h 0 x (omega arith) in
    let left = held.left in
    let right = held.right in
    let over = o 0 x (omega arith) in (
      over_positions ts us x.0.left.node f left.within over.left,
      over_positions ts us x.0.right.node f right.within over.right,
      sides_over ts us cs f (λ k d l. h (suc k) d (omega (arith, l))) (λ k d l. o (suc k) d (omega (arith, l))),
    )

-- what is to be known to put a response into a table, and to say what that did
pub record CanPut (a b : List Tree) (c : Content) (xs : List Tree) (r : Canonical Response) : Type 0 where
  pub ready : IsResponseReady b c xs r.value
  pub values : AreKnownFilled c xs (trees_of a r.value.var_values.items)
  pub sides : AreKnownSides c xs (map (recorded_at a) r.value.external_constraints.region_constraints.items)

pub can_put : (a b : List Tree) (c : Content) (os xs : List Tree) (r : Canonical Response) → AreFormed a → Extends a b → IsApplicable a os r → PositionsHaveSorts (map kind_of_var r.var_kinds.items) xs → AreRegionsAt (map kind_of_var r.var_kinds.items) xs
    → ((j : ℕ) → Knows c (get_or xs j empty)) → ((j : ℕ) → IsClosed (get_or xs j empty)) → HoldsResponse b r.value → CanPut a b c xs r
can_put a b c os xs r f up p sorts regions known closed later =
    let h = p.holds in
    let ks = r.var_kinds.items in
    let x = r.value.external_constraints in
    record {
      ready = record {
        holds = later;
        values = λ k d l. (let held = h.values k d l in fillable a b c ks xs f up sorts regions known closed _ held.within (p.values k d l));
        constraints = λ k d l. recordable a b c ks xs f up sorts regions known closed _ (h.constraints k d l) (p.constraints k d l);
        hidden = registrable a b c ks xs f up sorts regions known closed x.opaque_types.items h.hidden p.hidden;
        open_goals = λ k d l. openable a b c ks xs f up sorts regions known closed _ (h.open_goals k d l) (p.open_goals k d l);
        known = rw (same_views HoldsOpen premise_at goals_kept a b x.normalization_nested_goals.items h.open_goals up) (goals_known a b c ks xs f up sorts regions known closed x.normalization_nested_goals.items h.open_goals p.open_goals);
      };
      values = values_known a b c ks xs f up sorts regions known closed r.value.var_values.items h.values p.values;
      sides = sides_known a b c ks xs f up sorts regions known closed x.region_constraints.items h.constraints p.constraints;
    }
