-- Canonical states that can be instantiated for originals, and what instantiating one leaves.
use Rattle.std.specs.Prelude.{◌≡◌, ℕ, ◌≤◌, List, [], ◌∷◌, ◌++◌, map, length, drop, true, All, Some}
use Rattle.nts_model.specs.declared.labels.Sort.{Sort}
use Rattle.nts_model.specs.Terms.Trees.{Tree, kind_of, of_sort, IsClosed}
use Rattle.nts_model.specs.Tables.Contents.{Content}
use Rattle.nts_model.specs.Terms.Substitutions.{filled}
use Rattle.nts_model.specs.Derivations.Handlers.{kind_of_sort}
use Rattle.nts_model.specs.Searching.Driving.{sort_at}
use Rattle.nts_model.specs.Canonical.Inputs.{PositionKind}
use Rattle.nts_model.specs.Answers.Applying.{IsNew}
use Rattle.nts_model.specs.Answers.Responses.{Response as Form, Applies, RefusesResponse}
use Rattle.nts_store.specs.Growth.{tree_at}
use Rattle.nts_terms.specs.declared.cx.Cx.{Cx}
use Rattle.nts_terms.specs.declared.handles.GenericArg.{GenericArg}
use Rattle.nts_terms.specs.Handles.{HoldsArg}
use Rattle.nts_canonical.specs.nts_unify.specs.Entries.{Entries}
use Rattle.nts_canonical.specs.nts_unify.specs.Reading.{content_of}
use Rattle.nts_canonical.specs.nts_table.specs.Tables.{Table}
use Rattle.nts_canonical.specs.declared.types.Canonical.{Canonical}
use Rattle.nts_canonical.specs.declared.types.CanonicalVarKind.{CanonicalVarKind}
use Rattle.nts_canonical.specs.Building.{IsArgOf}
use Rattle.nts_canonical.specs.Forms.{kind_of_var, trees_of}
use Rattle.nts_response.specs.declared.types.State.{State}
use Rattle.nts_response.specs.Applicable.{IsOverSorts, IsKindFor, ShowsConstraints}
use Rattle.nts_response.specs.Placing.{JoinsBy, PlacedOrOne}
use Rattle.nts_response.specs.States.{StateForm}

-- a response that found out values alone, over positions of these kinds
abbrev pub values_alone : List Tree → List PositionKind → ℕ → Form
values_alone vs ks m =
    record {
      findings = record { values = vs; constraints = []; hidden = []; open_goals = [] };
      kinds = ks;
      max_universe = m;
    }

-- what a state says beside its payload
abbrev pub answer_of : StateForm → Form
answer_of s = values_alone s.values s.kinds s.max_universe

-- values that can be applied to as many originals: they are over positions of these kinds
pub record AreValuesFor (ts : List Tree) (os : List Tree) (m : ℕ) (ks : List CanonicalVarKind) (vs : List GenericArg) : Type 0 where
  pub held : All (HoldsArg ts) vs
  pub kinds : All (λ k. IsKindFor m os (kind_of_var k)) ks
  pub values : All (λ v. IsOverSorts ts (map (λ k. sort_at (kind_of_var k)) ks) v.node) vs
  pub long : length os ≡ length vs

-- .. were applied: this was chosen for the positions
pub record AreValuesEquated (c d : Content) (os : List Tree) (r : Form) (chosen : List Tree) : Type 0 where
  pub applies : Applies c d os r
  pub is : applies.chosen ≡ chosen
  pub shares : JoinsBy (PlacedOrOne c d r.kinds chosen) c d
  pub shows : ShowsConstraints c.constraints d.constraints r true

-- the values for which there are no originals
abbrev pub missing : List Tree → List Tree → List Tree
missing os vs = drop (length os) vs

abbrev pub state_sorts : {T : Type 0} → Canonical (State T) → List Sort
state_sorts s = map (λ k. sort_at (kind_of_var k)) s.var_kinds.items

-- a state whose values can be applied to these originals: they are over positions of its kinds, and there are at least as
-- many. Where originals are missing, a placeholder of the root may name a value in their place
pub record IsInstantiable {T : Type 0} (ts : List Tree) (os : List Tree) (s : Canonical (State T)) : Type 0 where
  pub held : All (HoldsArg ts) s.value.var_values.items
  pub kinds : All (λ k. IsKindFor s.max_universe (os ++ missing os (trees_of ts s.value.var_values.items)) (kind_of_var k)) s.var_kinds.items
  pub values : All (λ v. IsOverSorts ts (state_sorts s) v.node) s.value.var_values.items
  pub long : length os ≤ length s.value.var_values.items

-- one new variable of the sort of a value, in the current universe
pub record IsNewLike (c e : Content) (v t : Tree) : Type 0 where
  pub sort : Sort
  pub is : kind_of v ≡ Some (of_sort sort)
  pub new : IsNew c e (kind_of_sort sort) c.universe t

-- .. one for each value
abbrev pub MakesLike : List Tree → List Tree → Content → Content → Type 0
MakesLike [] [] c d = d ≡ c
MakesLike (v ∷ vs) (t ∷ ts) c d = (e : Content) × IsNewLike c e v t × MakesLike vs ts e d
MakesLike vs ts c d = ⊥

-- to these originals the new ones for the missing values were added
pub record AddsMissing (a b : Cx) (t u : Table) (os vs new : List GenericArg) : Type 0 where
  pub fresh : List GenericArg
  pub is : new ≡ os ++ fresh
  pub makes : MakesLike (trees_of a.nodes vs) (trees_of b.nodes fresh) (content_of a.nodes t.entries) (content_of b.nodes u.entries)
  pub args : All (IsArgOf b.nodes u.entries) new
  pub closed : All (λ o. IsClosed (tree_at b.nodes o.node)) new

-- a state was instantiated for originals, to this payload, and these are the originals afterwards: new variables are made
-- for the missing ones, and then its values are applied to all of them, as those of a response, with its sub roots
pub record IsInstantiated (a b : List Tree) (e f : Entries) (old new : List GenericArg) (s : StateForm) (payload : Tree) : Type 0 where
  pub fresh : List GenericArg
  pub originals : new ≡ old ++ fresh
  pub made : Content
  pub makes : MakesLike (missing (trees_of a old) s.values) (trees_of b fresh) (content_of a e) made
  pub applies : Applies made (content_of b f) (trees_of a old ++ trees_of b fresh) (answer_of s)
  pub filled_in : payload ≡ filled applies.chosen s.payload
  pub shares : JoinsBy (PlacedOrOne made (content_of b f) s.kinds applies.chosen) made (content_of b f)
  pub shows : ShowsConstraints made.constraints (content_of b f).constraints (answer_of s) true
  pub hidden : f.hidden ≡ e.hidden

-- no solution of the table makes the originals, with new variables for the missing ones, equal to the values
pub record RefusesState (c : Content) (os : List Tree) (s : StateForm) : Type 0 where
  pub fresh : List Tree
  pub made : Content
  pub makes : MakesLike (missing os s.values) fresh c made
  pub refuses : RefusesResponse made (os ++ fresh) (answer_of s)
