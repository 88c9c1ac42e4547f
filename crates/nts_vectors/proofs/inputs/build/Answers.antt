use Rattle.nts_store.proofs.Growing.{Extends-trans}
use Rattle.nts_table.specs.TableLaws.{IsTable-extended}
use Rattle.nts_canonical.proofs.Built.{holds-kept}
use Rattle.nts_vectors.proofs.inputs.build.Goals as goal

pub returns-in_err-table : goal.returns-in_err-table
returns-in_err-table c = IsTable-extended c.build_with_canonical.ensures.grows.extends c.requires.table

pub returns-in_err-originals : goal.returns-in_err-originals
returns-in_err-originals c = IsTable-extended (Extends-trans c.build_with_canonical.ensures.grows.extends c.canonicalize_goal.ensures.grows.extends) c.requires.table

pub same_input-same-requires-clause-left : goal.same_input-same-requires-clause-left
same_input-same-requires-clause-left c =
    holds-kept c.args.fixture.now.cx.nodes c.canonicalize_goal.new.cx.nodes c.args.input.now.canonical.value c.requires.input.holds (Extends-trans c.build_with_canonical.ensures.grows.extends c.canonicalize_goal.ensures.grows.extends)

pub returns : goal.returns
returns c = IsTable-extended c.canonicalize_goal.ensures.grows.extends c.in_ok-table.ensures.table
