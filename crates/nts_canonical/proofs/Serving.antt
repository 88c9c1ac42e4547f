-- Which labels have a value in place of a position, and terms all of whose labels do.
use Rattle.std.proofs.Common.{List}
use Rattle.std.specs.Prelude.{◌↔◌}
use Rattle.nts_model.specs.Terms.Trees.{Tree, empty, more, node}
use Rattle.nts_model.specs.Terms.Substitutions.{position_of}
use Rattle.nts_model.specs.Tables.Passing.{AllLabels}
use Rattle.nts_model.proofs.Terms.Unpositioned.{filled-none}
use Rattle.nts_store.specs.Filled.{HasValue, HasValues}

-- a term has values exactly if each of its labels has one
labels_have : (vs : List Tree) (t : Tree) → AllLabels (λ l. HasValue (position_of l) vs l) t → HasValues vs t
labels_have vs empty h = tt
labels_have vs (more a b) h = (labels_have vs a h.0, labels_have vs b h.1)
labels_have vs (node l c) h = (h.0, labels_have vs c h.1)

have_labels : (vs : List Tree) (t : Tree) → HasValues vs t → AllLabels (λ l. HasValue (position_of l) vs l) t
have_labels vs empty h = tt
have_labels vs (more a b) h = (have_labels vs a h.0, have_labels vs b h.1)
have_labels vs (node l c) h = (h.0, have_labels vs c h.1)

pub served : (vs : List Tree) (t : Tree) → AllLabels (λ l. HasValue (position_of l) vs l) t ↔ HasValues vs t
served vs t = (labels_have vs t, have_labels vs t)

pub ruleset serving = (served, filled-none)
