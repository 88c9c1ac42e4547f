-- States: values and a payload, as canonical values.
use Rattle.std.specs.Prelude.{ℕ, List, [], map}
use Rattle.nts_model.specs.declared.labels.Leaf.{Leaf}
use Rattle.nts_model.specs.Terms.Trees.{Tree}
use Rattle.nts_model.specs.Tables.Contents.{Content}
use Rattle.nts_model.specs.Tables.Resolving.{deeply_resolved}
use Rattle.nts_model.specs.Canonical.Numbered.{seen}
use Rattle.nts_model.specs.Canonical.Inputs.{PositionKind}
use Rattle.nts_model.specs.Answers.Responses.{is_fixed, positioned, answer_kinds, greatest}
use Rattle.nts_canonical.specs.declared.types.Canonical.{Canonical}
use Rattle.nts_canonical.specs.Forms.{kind_of_var, trees_of}
use Rattle.nts_response.specs.declared.types.State.{State}
use Rattle.nts_response.specs.StateTrees.{state_row}

-- a state over trees: values and a payload, what the positions stand for, and their greatest universe
pub record StateForm : Type 0 where
  pub values : List Tree
  pub payload : Tree
  pub kinds : List PositionKind
  pub max_universe : ℕ

-- the leaves of values and a payload in the order of first sight
abbrev pub state_leaves : List Tree → Tree → List Leaf
state_leaves vs p = seen is_fixed [] (state_row vs p)

-- the state of a table with these sub roots that has these values and this payload, whose universes are counted from m:
-- each leaf is a position, as in a response
abbrev pub state_form_of : Content → (ℕ → ℕ) → ℕ → List Tree → Tree → StateForm
state_form_of c r m vs p =
    record {
      values = map (positioned (state_leaves vs p)) vs;
      payload = positioned (state_leaves vs p) p;
      kinds = answer_kinds c r m (state_leaves vs p);
      max_universe = greatest (answer_kinds c r m (state_leaves vs p));
    }

-- .. once they are read under the values of the table
abbrev pub resolved_state_of : Content → (ℕ → ℕ) → ℕ → List Tree → Tree → StateForm
resolved_state_of c r m vs p = state_form_of c r m (map (deeply_resolved c) vs) (deeply_resolved c p)

-- what a canonical state stands for in a store, where this tells the tree of a payload
abbrev pub state_at : {T : Type 0} → (List Tree → T → Tree) → List Tree → Canonical (State T) → StateForm
state_at tree ts s =
    record {
      values = trees_of ts s.value.var_values.items;
      payload = tree ts s.value.payload;
      kinds = map kind_of_var s.var_kinds.items;
      max_universe = s.max_universe;
    }
