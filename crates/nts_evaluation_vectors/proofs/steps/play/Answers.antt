use Rattle.nts_store.proofs.Growing.{Extends-trans}
use Rattle.nts_table.specs.TableLaws.{IsTable-extended}
use Rattle.nts_evaluation_vectors.proofs.steps.play.Goals as goal

pub ask_all-requires-clause-table : goal.ask_all-requires-clause-table
ask_all-requires-clause-table g c = IsTable-extended c.tell_all.ensures.grows.extends c.requires

pub ask_all-requires-in-Assembly-clause-table : goal.ask_all-requires-in-Assembly-clause-table
ask_all-requires-in-Assembly-clause-table g c = IsTable-extended c.tell_all.ensures.grows.extends c.requires

pub ask_all-requires-in-Aliases-clause-table : goal.ask_all-requires-in-Aliases-clause-table
ask_all-requires-in-Aliases-clause-table g c = IsTable-extended (Extends-trans c.tell_all.ensures.grows.extends c.normalize_all.ensures.grows.extends) c.requires

pub ask_all-requires-in-LeakChecked-clause-table : goal.ask_all-requires-in-LeakChecked-clause-table
ask_all-requires-in-LeakChecked-clause-table g c = IsTable-extended c.tell_all.ensures.grows.extends c.requires

pub ask_all-requires-in-Marker-clause-table : goal.ask_all-requires-in-Marker-clause-table
ask_all-requires-in-Marker-clause-table g c = IsTable-extended c.tell_all.ensures.grows.extends c.requires

pub ask_all-requires-in-Circular-clause-table : goal.ask_all-requires-in-Circular-clause-table
ask_all-requires-in-Circular-clause-table g c = IsTable-extended c.tell_all.ensures.grows.extends c.requires

pub ask_all-requires-in-Judge-clause-table : goal.ask_all-requires-in-Judge-clause-table
ask_all-requires-in-Judge-clause-table g c = IsTable-extended c.tell_all.ensures.grows.extends c.requires

pub ask_all-requires-in-AtOnce-clause-table : goal.ask_all-requires-in-AtOnce-clause-table
ask_all-requires-in-AtOnce-clause-table g c = IsTable-extended c.tell_all.ensures.grows.extends c.requires

pub ask_all-requires-in-Rigid-clause-table : goal.ask_all-requires-in-Rigid-clause-table
ask_all-requires-in-Rigid-clause-table g c = IsTable-extended c.tell_all.ensures.grows.extends c.requires
