use Rattle.nts_store.proofs.Growing.{Extends-trans}
use Rattle.nts_table.specs.TableLaws.{IsTable-extended}
use Rattle.nts_vectors.proofs.inputs.there_and_back.Goals as goal

pub returns-in_err-originals : goal.returns-in_err-originals
returns-in_err-originals c = IsTable-extended c.canonicalize_goal.ensures.grows.extends c.requires

pub returns-in_err-query : goal.returns-in_err-query
returns-in_err-query c = IsTable-extended (Extends-trans c.canonicalize_goal.ensures.grows.extends c.filled_query.ensures.grows.extends) c.requires

pub returns : goal.returns
returns c = IsTable-extended (Extends-trans c.canonicalize_goal.ensures.grows.extends c.filled_query.ensures.grows.extends) c.requires
