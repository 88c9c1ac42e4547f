-- What a query answers, over positions, and what applying the answer to a table does.
use Rattle.std.specs.Prelude.{◌≡◌, ◌⊎◌, ℕ, zero, suc, ◌+◌, ◌-◌, max, Bool, true, false, List, [], ◌∷◌, map, get_or, slice_get, Option, Some, None, Contains}
use Rattle.std.specs.List.{position_or_len}
use Rattle.nts_model.specs.declared.labels.Sort.{Sort}
use Rattle.nts_model.specs.declared.labels.Sort.TheVariants as sort
use Rattle.nts_model.specs.declared.labels.VariableKind.{VariableKind}
use Rattle.nts_model.specs.declared.labels.VariableKind.TheVariants as kind
use Rattle.nts_model.specs.declared.labels.FreeRegion.{FreeRegion}
use Rattle.nts_model.specs.declared.labels.FreeRegion.TheVariants as region
use Rattle.nts_model.specs.declared.labels.Constant.{Constant}
use Rattle.nts_model.specs.declared.labels.Constant.TheVariants as constant
use Rattle.nts_model.specs.declared.labels.Leaf.{Leaf}
use Rattle.nts_model.specs.declared.labels.Leaf.TheVariants as leaf
use Rattle.nts_model.specs.declared.labels.BoundVarIndexKind.TheVariants as index
use Rattle.nts_model.specs.declared.labels.Label.{Label}
use Rattle.nts_model.specs.declared.labels.Label.TheVariants as label
use Rattle.nts_model.specs.Terms.Trees.{Tree, empty, more, kind_of, of_sort, IsClosed, IsFormed}
use Rattle.nts_model.specs.Tables.Contents.{Content, Recorded, universe_of}
use Rattle.nts_model.specs.Tables.Resolving.{Knows, deeply_resolved, IsSound}
use Rattle.nts_model.specs.Tables.Levels.{NamesAll, term_level}
use Rattle.nts_model.specs.Terms.Regions.{IsRegion}
use Rattle.nts_model.specs.Terms.Fitting.{Fits}
use Rattle.nts_model.specs.Tables.Worlds.{World, inst, IsTrueOf, IsValue, Solves}
use Rattle.nts_model.specs.Tables.Holding.{HoldsConstraint, Continues}
use Rattle.nts_model.specs.Tables.Alike.{AreAlike}
use Rattle.nts_model.specs.Tables.Equations.{ExtensionIf}
use Rattle.nts_model.specs.Terms.Substitutions.{leaf_tree, replace, Occurs, filled, filled_under}
use Rattle.nts_model.specs.Derivations.Related.{Constraint}
use Rattle.nts_model.specs.Lists.{Among}
use Rattle.nts_model.specs.Derivations.Sequents.{Hidden, Premise, Sequent, IsTrivial}
use Rattle.nts_model.specs.Derivations.Proving.{HoldsTerms, IsTermOf, AreConstraintsOf, read_constraint, in_either_order}
use Rattle.nts_model.specs.Tables.Passing.{AllLabels, AllPass}
use Rattle.nts_model.specs.Derivations.Handlers.{hidden_by, premise_by, IsFixed}
use Rattle.nts_model.specs.Canonical.Numbered.{seen, position, numbered_leaf, AreDistinct}
use Rattle.nts_model.specs.Canonical.Inputs.{CanonicalInput, PositionKind, type_variable, integer_variable, float_variable, const_variable, region_variable, placeholder, share}

-- what a query found out: a value for each position of its input, region constraints, hidden types, and goals that are
-- left open
pub record Findings : Type 0 where
  pub values : List Tree
  pub constraints : List Recorded
  pub hidden : List Hidden
  pub open_goals : List Premise

-- what a recorded constraint says
abbrev pub said : Recorded → Constraint
said x = record { relation = x.relation; left = x.left; right = x.right }

-- the same in other trees
abbrev pub recorded_by : (Tree → Tree) → Recorded → Recorded
recorded_by f x = record { relation = x.relation; left = f x.left; right = f x.right; is_visible = x.is_visible }

abbrev pub findings_by : (Tree → Tree) → Findings → Findings
findings_by f x =
    record {
      values = map f x.values;
      constraints = map (recorded_by f) x.constraints;
      hidden = map (hidden_by f) x.hidden;
      open_goals = map (premise_by f) x.open_goals;
    }

-- .. of these trees and of the constraints of a table: all are read under its values and roots, and constraints that are
-- trivial may be left out
pub record AreFindings (c : Content) (qs : List Tree) (x : Findings) : Type 0 where
  pub values : x.values ≡ map (deeply_resolved c) qs
  pub found : (y : Recorded) → Contains x.constraints y → (r : Recorded) × Contains c.constraints r × (y ≡ recorded_by (deeply_resolved c) r)
  pub kept : (r : Recorded) → Contains c.constraints r → IsTrivial (read_constraint c r) ⊎ ((y : Recorded) × Contains x.constraints y × (said y ≡ read_constraint c r))

-- its trees in one row, in the order in which their leaves are numbered
abbrev pub value_row : List Tree → Tree → Tree
value_row [] r = r
value_row (t ∷ ts) r = more t (value_row ts r)

abbrev pub constraint_row : List Recorded → Tree → Tree
constraint_row [] r = r
constraint_row (x ∷ xs) r = more x.left (more x.right (constraint_row xs r))

abbrev pub hidden_row : List Hidden → Tree → Tree
hidden_row [] r = r
hidden_row (h ∷ hs) r = more h.key (more h.hidden_type (hidden_row hs r))

abbrev pub goal_row : List Premise → Tree → Tree
goal_row [] r = r
goal_row (g ∷ gs) r = more g.environment (more g.predicate (goal_row gs r))

abbrev pub row_of : Findings → Tree
row_of x = value_row x.values (constraint_row x.constraints (hidden_row x.hidden (goal_row x.open_goals empty)))

-- 'static, the erased and the error region stay
abbrev pub is_fixed_region : FreeRegion → Bool
is_fixed_region region.Static = true
is_fixed_region region.Erased = true
is_fixed_region region.Error = true
is_fixed_region r = false

abbrev pub is_fixed : Leaf → Bool
is_fixed (leaf.Region r) = is_fixed_region r
is_fixed l = false

-- the leaves in the order of first sight, and the tree with a position for each leaf
abbrev pub own_leaves : Findings → List Leaf
own_leaves x = seen is_fixed [] (row_of x)

abbrev pub positioned : List Leaf → Tree → Tree
positioned s = replace (numbered_leaf is_fixed s)

-- what a query answers: what it found out, over positions; what the positions stand for; and their greatest universe
pub record Response : Type 0 where
  pub findings : Findings
  pub kinds : List PositionKind
  pub max_universe : ℕ

-- a universe of the table is counted from the greatest of the input
abbrev pub universe_or : Option ℕ → ℕ
universe_or None = 0
universe_or (Some u) = u

abbrev pub constant_kind : ℕ → Sort → Constant → PositionKind
constant_kind m s (constant.Placeholder u n) = placeholder s (u - m) n
constant_kind m s (constant.Param n) = placeholder s 0 n

abbrev pub region_kind : ℕ → FreeRegion → PositionKind
region_kind m (region.Placeholder u n) = placeholder sort.Region (u - m) n
region_kind m r = placeholder sort.Region 0 0

-- what the position of a leaf stands for, where f is the number of the first type variable of its sub root
abbrev pub answer_kind : Content → ℕ → ℕ → Leaf → PositionKind
answer_kind c m f (leaf.Variable kind.Ty n) = type_variable (universe_or (universe_of c n) - m) f
answer_kind c m f (leaf.Variable kind.Int n) = integer_variable
answer_kind c m f (leaf.Variable kind.Float n) = float_variable
answer_kind c m f (leaf.Variable kind.Const n) = const_variable (universe_or (universe_of c n) - m)
answer_kind c m f (leaf.Variable kind.Region n) = region_variable (universe_or (universe_of c n) - m)
answer_kind c m f (leaf.Region r) = region_kind m r
answer_kind c m f (leaf.TyConstant a) = constant_kind m sort.Ty a
answer_kind c m f (leaf.ConstConstant a) = constant_kind m sort.Const a

abbrev pub answer_kinds : Content → (ℕ → ℕ) → ℕ → List Leaf → List PositionKind
answer_kinds c r m s = map (λ l. answer_kind c m (position_or_len (share r l) s) l) s

abbrev pub universe_of_kind : PositionKind → ℕ
universe_of_kind (type_variable u r) = u
universe_of_kind integer_variable = 0
universe_of_kind float_variable = 0
universe_of_kind (const_variable u) = u
universe_of_kind (region_variable u) = u
universe_of_kind (placeholder s u n) = u

abbrev pub greatest : List PositionKind → ℕ
greatest [] = 0
greatest (k ∷ ks) = max (universe_of_kind k) (greatest ks)

-- the response of a table with these sub roots to an input whose greatest universe is m
abbrev pub response_of : Content → (ℕ → ℕ) → ℕ → Findings → Response
response_of c r m x =
    record {
      findings = findings_by (positioned (own_leaves x)) x;
      kinds = answer_kinds c r m (own_leaves x);
      max_universe = greatest (answer_kinds c r m (own_leaves x));
    }

-- a term over positions: its leaves are regions that stay themselves
pub record IsOverPositions (t : Tree) : Type 0 where
  pub leaves : (l : Leaf) → Occurs l t → IsFixed l
  pub formed : IsFormed t

-- the tree of a placeholder in a universe
abbrev pub placeholder_tree : Sort → ℕ → ℕ → Tree
placeholder_tree sort.Ty u n = leaf_tree (leaf.TyConstant (constant.Placeholder u n))
placeholder_tree sort.Const u n = leaf_tree (leaf.ConstConstant (constant.Placeholder u n))
placeholder_tree sort.Region u n = leaf_tree (leaf.Region (region.Placeholder u n))

-- what a placeholder of a response is where it is applied: one of the root is the original at its position, another one
-- is a placeholder of the universe that was made for it. p is the universe before
abbrev pub placeholder_at : ℕ → List Tree → Sort → ℕ → ℕ → Tree
placeholder_at p os s zero n = get_or os n empty
placeholder_at p os s (suc u) n = placeholder_tree s (p + suc u) n

-- a tree that may stand for a position: of a variable, a term of the table that fits it
pub record IsTermFor (d : Content) (k : VariableKind) (t : Tree) : Type 0 where
  pub knows : Knows d t
  pub fits : Fits k (deeply_resolved d t)
  pub formed : IsFormed t
  pub closed : IsClosed t

abbrev pub StandsFor : Content → ℕ → List Tree → PositionKind → Tree → Type 0
StandsFor d p os (type_variable u r) t = IsTermFor d kind.Ty t
StandsFor d p os integer_variable t = IsTermFor d kind.Int t
StandsFor d p os float_variable t = IsTermFor d kind.Float t
StandsFor d p os (const_variable u) t = IsTermFor d kind.Const t
StandsFor d p os (region_variable u) t = IsTermFor d kind.Region t
StandsFor d p os (placeholder s u n) t = t ≡ placeholder_at p os s u n

abbrev pub StandForAll : Content → ℕ → List Tree → List PositionKind → List Tree → Type 0
StandForAll d p os [] [] = Unit {0}
StandForAll d p os (k ∷ ks) (t ∷ ts) = StandsFor d p os k t × StandForAll d p os ks ts
StandForAll d p os ks ts = ⊥

-- in a world: a tree that the variable may stand for, or the image of what the placeholder is
abbrev pub IsImageOf : World → ℕ → List Tree → PositionKind → Tree → Type 0
IsImageOf w p os (type_variable u r) t = IsValue kind.Ty t
IsImageOf w p os integer_variable t = IsValue kind.Int t
IsImageOf w p os float_variable t = IsValue kind.Float t
IsImageOf w p os (const_variable u) t = IsValue kind.Const t
IsImageOf w p os (region_variable u) t = IsValue kind.Region t
IsImageOf w p os (placeholder s u n) t = t ≡ inst w (placeholder_at p os s u n)

-- the universe of the variable that stands for a position, where p is the one before: integers and floats are of the root
abbrev pub bound_of : ℕ → PositionKind → ℕ
bound_of p integer_variable = 0
bound_of p float_variable = 0
bound_of p k = p + universe_of_kind k

-- that universe names the variable's tree, where f gives the universes of labels
abbrev pub IsNamedBy : (Label → Option ℕ) → ℕ → PositionKind → Tree → Type 0
IsNamedBy f p (placeholder s u n) t = Unit {0}
IsNamedBy f p k t = NamesAll f (bound_of p k) t

abbrev pub AreNamedBy : (Label → Option ℕ) → ℕ → List PositionKind → List Tree → Type 0
AreNamedBy f p [] [] = Unit {0}
AreNamedBy f p (k ∷ ks) (t ∷ ts) = IsNamedBy f p k t × AreNamedBy f p ks ts
AreNamedBy f p ks ts = ⊥

abbrev pub AreImagesOf : World → ℕ → List Tree → List PositionKind → List Tree → Type 0
AreImagesOf w p os [] [] = Unit {0}
AreImagesOf w p os (k ∷ ks) (t ∷ ts) = IsImageOf w p os k t × AreImagesOf w p os ks ts
AreImagesOf w p os ks ts = ⊥

-- a term over positions in a world, where the positions have these values
abbrev pub read_in : World → List Tree → Tree → Tree
read_in w vs = filled_under (λ l. inst w (leaf_tree l)) vs

-- each original is its value
abbrev pub AreEqualIn : World → List Tree → List Tree → List Tree → Type 0
AreEqualIn w vs [] [] = Unit {0}
AreEqualIn w vs (t ∷ ts) (o ∷ os) = (read_in w vs t ≡ inst w o) × AreEqualIn w vs ts os
AreEqualIn w vs ts os = ⊥

abbrev pub AreMetIn : World → List Tree → List Recorded → Type 0
AreMetIn w vs [] = Unit {0}
AreMetIn w vs (x ∷ xs) = IsTrueOf w x.relation (read_in w vs x.left) (read_in w vs x.right) × AreMetIn w vs xs

-- a world grants the response to the originals: for some values of its positions the originals are the values, and the
-- constraints are met
pub record GrantsFor (p : ℕ) (os : List Tree) (r : Response) (w : World) (vs : List Tree) : Type 0 where
  pub images : AreImagesOf w p os r.kinds vs
  pub named : AreNamedBy term_level p r.kinds vs
  pub equal : AreEqualIn w vs r.findings.values os
  pub met : AreMetIn w vs r.findings.constraints

-- each original is alike its value
abbrev pub AreAlikeValues : Content → List Tree → List Tree → List Tree → Type 0
AreAlikeValues d chosen [] [] = Unit {0}
AreAlikeValues d chosen (v ∷ vs) (o ∷ os) = AreAlike d (filled chosen v) o × AreAlikeValues d chosen vs os
AreAlikeValues d chosen vs os = ⊥

-- the response was applied to the originals. Trees were chosen for its positions; with them the originals are the
-- values, and the table holds the constraints. The solutions are those that grant the response
pub record Applies (c d : Content) (os : List Tree) (r : Response) : Type 0 where
  pub chosen : List Tree
  pub stand : StandForAll d c.universe os r.kinds chosen
  pub continues : Continues c d
  pub alike : AreAlikeValues d chosen r.findings.values os
  pub held : (x : Recorded) → Contains r.findings.constraints x → HoldsConstraint d (recorded_by (filled chosen) x)
  pub sound : (w : World) → Solves d w → Solves c w × ((vs : List Tree) × GrantsFor c.universe os r w vs)
  pub complete : (w : World) (vs : List Tree) → Solves c w → GrantsFor c.universe os r w vs → ExtensionIf c d w (λ f. AreNamedBy f c.universe r.kinds vs)

-- no solution of the table grants that the originals are the values
pub record RefusesResponse (c : Content) (os : List Tree) (r : Response) : Type 0 where
  pub none : (w : World) (vs : List Tree) → Solves c w → AreImagesOf w c.universe os r.kinds vs → AreNamedBy term_level c.universe r.kinds vs → AreEqualIn w vs r.findings.values os → ⊥

-- a leaf that a query for these originals may find: no parameter, and a placeholder of the root only for an original that
-- is a region, or a constant of its sort
abbrev pub IsRegionFor : List Tree → FreeRegion → Type 0
IsRegionFor os (region.Placeholder zero n) = IsRegion (get_or os n empty)
IsRegionFor os (region.EarlyParam n) = ⊥
IsRegionFor os (region.LateParam n) = ⊥
IsRegionFor os r = Unit {0}

abbrev pub IsConstantFor : List Tree → (Constant → Leaf) → Constant → Type 0
IsConstantFor os f (constant.Placeholder zero n) = (a : Constant) × (get_or os n empty ≡ leaf_tree (f a))
IsConstantFor os f (constant.Placeholder (suc u) n) = Unit {0}
IsConstantFor os f (constant.Param n) = ⊥

abbrev pub IsLeafFor : List Tree → Leaf → Type 0
IsLeafFor os (leaf.Variable k n) = Unit {0}
IsLeafFor os (leaf.Region r) = IsRegionFor os r
IsLeafFor os (leaf.TyConstant a) = IsConstantFor os leaf.TyConstant a
IsLeafFor os (leaf.ConstConstant a) = IsConstantFor os leaf.ConstConstant a

-- the values are the positions in order from k on. A region that is not the next position is passed over
pub data IsIdentity : ℕ → List Tree → Type 0 where
  ends : {k : ℕ} → IsIdentity k []
  next : {k : ℕ} {vs : List Tree} (s : Sort) → IsIdentity (suc k) vs → IsIdentity k (position s k ∷ vs)
  passed : {k : ℕ} {v : Tree} {vs : List Tree} → kind_of v ≡ Some (of_sort sort.Region) → (v ≡ position sort.Region k → ⊥) → IsIdentity k vs → IsIdentity k (v ∷ vs)

-- the originals whose values are the positions in order
abbrev pub picked : {k : ℕ} {vs : List Tree} → IsIdentity k vs → List Tree → List Tree
picked ends os = []
picked (next s h) [] = []
picked (next s h) (o ∷ os) = o ∷ picked h os
picked (passed e n h) [] = []
picked (passed e n h) (o ∷ os) = picked h os

-- the region originals that were passed over are their values
abbrev pub ArePassedEqual : World → List Tree → {k : ℕ} {vs : List Tree} → IsIdentity k vs → List Tree → Type 0
ArePassedEqual w xs ends [] = Unit {0}
ArePassedEqual w xs ends (o ∷ os) = ⊥
ArePassedEqual w xs (next s h) [] = ⊥
ArePassedEqual w xs (next s h) (o ∷ os) = ArePassedEqual w xs h os
ArePassedEqual w xs (passed e n h) [] = ⊥
ArePassedEqual w xs (passed {v = v} e n h) (o ∷ os) = (read_in w xs v ≡ inst w o) × ArePassedEqual w xs h os

-- each solution of the table makes these originals trees that the kinds allow
abbrev pub AreAllowed : Content → List Tree → List PositionKind → List Tree → Type 0
AreAllowed c os [] [] = Unit {0}
AreAllowed c os (k ∷ ks) (t ∷ ts) = ((w : World) → Solves c w → IsImageOf w c.universe os k (inst w t) × IsNamedBy term_level c.universe k (inst w t)) × AreAllowed c os ks ts
AreAllowed c os ks ts = ⊥

-- the leaf of a position: a variable with the position's number, or the placeholder
abbrev pub own_leaf : ℕ → PositionKind → Leaf
own_leaf b (type_variable u r) = leaf.Variable kind.Ty b
own_leaf b integer_variable = leaf.Variable kind.Int b
own_leaf b float_variable = leaf.Variable kind.Float b
own_leaf b (const_variable u) = leaf.Variable kind.Const b
own_leaf b (region_variable u) = leaf.Variable kind.Region b
own_leaf b (placeholder sort.Ty u n) = leaf.TyConstant (constant.Placeholder u n)
own_leaf b (placeholder sort.Const u n) = leaf.ConstConstant (constant.Placeholder u n)
own_leaf b (placeholder sort.Region u n) = leaf.Region (region.Placeholder u n)

abbrev pub leaves_of_kinds : ℕ → List PositionKind → List Leaf
leaves_of_kinds b [] = []
leaves_of_kinds b (k ∷ ks) = own_leaf b k ∷ leaves_of_kinds (suc b) ks

abbrev pub closed_by : Response → Tree → Tree
closed_by r = filled (map leaf_tree (leaves_of_kinds 0 r.kinds))

-- what constraints say, an equality in either order
abbrev pub said_constraints : List Recorded → List Constraint
said_constraints [] = []
said_constraints (x ∷ xs) = in_either_order x.relation (said x) (said_constraints xs)

-- what a response says of a canonical input: its goal, with the values in place of the input's positions, from the
-- constraints, and with its open goals. Each position of the response stands for its leaf
abbrev pub answer_sequent : CanonicalInput → Response → Sequent
answer_sequent i r =
    record {
      environment = filled (map (closed_by r) r.findings.values) i.environment;
      predicate = filled (map (closed_by r) r.findings.values) i.predicate;
      constraints = said_constraints (map (recorded_by (closed_by r)) r.findings.constraints);
      hidden = [];
      open_goals = map (premise_by (closed_by r)) r.findings.open_goals;
    }

-- a response that may be applied to these originals: it is over positions, these are distinct, and they may be found by
-- a query for the originals
pub record IsResponseFor (os : List Tree) (r : Response) : Type 0 where
  pub values : (t : Tree) → Among r.findings.values t → IsOverPositions t
  pub left : (x : Recorded) → Contains r.findings.constraints x → IsOverPositions x.left
  pub right : (x : Recorded) → Contains r.findings.constraints x → IsOverPositions x.right
  pub goals : (g : Premise) → Among r.findings.open_goals g → IsOverPositions g.environment × IsOverPositions g.predicate
  pub distinct : AreDistinct (leaves_of_kinds 0 r.kinds)
  pub leaves : (l : Leaf) → Among (leaves_of_kinds 0 r.kinds) l → IsLeafFor os l

-- a leaf that the table of a query may hold, where its input has these kinds: no parameter, and a placeholder of the root
-- only for a position that is one of its sort
abbrev pub IsRegionIn : List PositionKind → FreeRegion → Type 0
IsRegionIn ks (region.Placeholder zero n) = slice_get ks n ≡ Some (placeholder sort.Region 0 n)
IsRegionIn ks (region.EarlyParam n) = ⊥
IsRegionIn ks (region.LateParam n) = ⊥
IsRegionIn ks r = Unit {0}

abbrev pub IsConstantIn : List PositionKind → Sort → Constant → Type 0
IsConstantIn ks s (constant.Placeholder zero n) = slice_get ks n ≡ Some (placeholder s 0 n)
IsConstantIn ks s (constant.Placeholder (suc u) n) = Unit {0}
IsConstantIn ks s (constant.Param n) = ⊥

abbrev pub IsLeafIn : List PositionKind → Leaf → Type 0
IsLeafIn ks (leaf.Variable k n) = Unit {0}
IsLeafIn ks (leaf.Region r) = IsRegionIn ks r
IsLeafIn ks (leaf.TyConstant a) = IsConstantIn ks sort.Ty a
IsLeafIn ks (leaf.ConstConstant a) = IsConstantIn ks sort.Const a

-- .. and no positions
abbrev pub IsLabelIn : List PositionKind → Label → Type 0
IsLabelIn ks (label.Leaf l) = IsLeafIn ks l
IsLabelIn ks (label.Bound s index.Canonical n) = ⊥
IsLabelIn ks l = Unit {0}

-- a response to an input of these kinds
pub record IsResponseTo (ks : List PositionKind) (r : Response) : Type 0 where
  pub values : (t : Tree) → Among r.findings.values t → IsOverPositions t
  pub left : (x : Recorded) → Contains r.findings.constraints x → IsOverPositions x.left
  pub right : (x : Recorded) → Contains r.findings.constraints x → IsOverPositions x.right
  pub goals : (g : Premise) → Among r.findings.open_goals g → IsOverPositions g.environment × IsOverPositions g.predicate
  pub distinct : AreDistinct (leaves_of_kinds 0 r.kinds)
  pub leaves : (l : Leaf) → Among (leaves_of_kinds 0 r.kinds) l → IsLeafIn ks l

-- a table of a query, in which these trees stand for the input's positions
pub record IsQueryTable (ks : List PositionKind) (c : Content) (qs : List Tree) : Type 0 where
  pub sound : IsSound c
  pub values : HoldsTerms c
  pub constraints : AreConstraintsOf c
  pub labels : AllPass (IsLabelIn ks) c
  pub terms : (t : Tree) → Among qs t → IsTermOf c t × AllLabels (IsLabelIn ks) t
