-- States as folders see them.
use Rattle.std.specs.Prelude.{◌≡◌, List, All}
use Rattle.nts_model.specs.Terms.Trees.{Tree}
use Rattle.nts_model.specs.Derivations.Related.{pair}
use Rattle.nts_store.specs.Growth.{Extends}
use Rattle.nts_terms.specs.declared.handles.GenericArg.{GenericArg}
use Rattle.nts_terms.specs.Handles.{HoldsArg}
use Rattle.nts_canonical.specs.nts_folding.specs.Folding.{tree_of_list}
use Rattle.nts_canonical.specs.Forms.{trees_of}
use Rattle.nts_canonical.specs.Folds.{trees_of-kept}
use Rattle.nts_response.specs.declared.types.State.{State}

-- values and a payload in one row, in the order in which their leaves are numbered
abbrev pub state_row : List Tree → Tree → Tree
state_row vs p = pair (tree_of_list vs) p

-- a state, where this tells the tree of its payload
abbrev pub tree_of_state : {T : Type 0} → (List Tree → T → Tree) → List Tree → State T → Tree
tree_of_state tree ts s = state_row (trees_of ts s.var_values.items) (tree ts s.payload)

pub values_same : (a b : List Tree) (xs : List GenericArg) → All (HoldsArg a) xs → Extends a b → tree_of_list (trees_of b xs) ≡ tree_of_list (trees_of a xs)
values_same a b xs h e = cc (trees_of-kept a b xs h e)
