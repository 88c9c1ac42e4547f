use Rattle.std.proofs.Common.{sym, ◌∙◌}
use Rattle.nts_unify.specs.Lawful.{content_of-extended}
use Rattle.nts_table.specs.TableLaws.{IsTable-extended}
use Rattle.nts_trying.proofs.subtypes.variables_of.Goals as goal

pub shallow_resolve-requires-2-clause-table : goal.shallow_resolve-requires-2-clause-table
shallow_resolve-requires-2-clause-table c = IsTable-extended c.shallow_resolve.ensures.grows.extends c.requires.table

pub shallow_resolve-requires-2-clause-knows : goal.shallow_resolve-requires-2-clause-knows
shallow_resolve-requires-2-clause-knows c =
    let up = c.shallow_resolve.ensures.grows.extends in
    let types = c.requires.types in
    rw (content_of-extended up c.requires.table.now, up.kept c.args.types.sup.node types.sup.within) c.requires.sup

pub returns-in_default-variable_of-clause-variables : goal.returns-in_default-variable_of-clause-variables
returns-in_default-variable_of-clause-variables c = λ n m h.
    let up = c.shallow_resolve.ensures.grows.extends in
    let types = c.requires.types in
    let looked = rw (content_of-extended up c.requires.table.now, up.kept c.args.types.sup.node types.sup.within) at c.in_ok-sup.ensures.tree in
    c.in_default-variable_of.ensures m (looked ∙ h.1)

pub returns-clause-variables : goal.returns-clause-variables
returns-clause-variables c =
    let up = c.shallow_resolve.ensures.grows.extends in
    let types = c.requires.types in
    let more = c.shallow_resolve-2.ensures.grows.extends in
    let first = c.in_ok-sub.ensures in
    let looked = rw (content_of-extended up c.requires.table.now, up.kept c.args.types.sup.node types.sup.within) at c.in_ok-sup.ensures.tree in (
      sym first.tree ∙ sym (more.kept c.in_ok-sub.sub.node first.holds.within) ∙ c.in-Some.ensures,
      sym looked ∙ c.in-Some-variable_of.ensures,
    )
