use Rattle.std.proofs.Common.{refl}
use Rattle.nts_model.proofs.Tables.Slots.{slice_get_below}
use Rattle.nts_unify.specs.Reading.{content_of, IsLawful}
use Rattle.nts_relating.specs.Relating.{AreMadeOne}
use Rattle.nts_unify.specs.Lawful.{IsLawful-extended}
use Rattle.nts_unify.proofs.Leading.{kind_at-entry, universe_of-entry}
use Rattle.nts_relating.proofs.GenLemmas.{slots_later}
use Rattle.nts_relating.proofs.BindLemmas.{taken_open, taken}
use Rattle.nts_relating.proofs.relate.bind_variable.Goals as goal

pub name_variable-requires-clause-knows : goal.name_variable-requires-clause-knows
name_variable-requires-clause-knows c =
    rw c.in_ok-t.ensures.tree ((kind_at-entry c.make.new.self c.args.table.now.entries c.args.y c.variable-kind.result c.variable-kind.ensures, tt, refl), tt, tt)

pub name_variable-requires-clause-lawful : goal.name_variable-requires-clause-lawful
name_variable-requires-clause-lawful c = IsLawful-extended c.in_ok-t.ensures.extends c.requires.lawful

pub name_variable-requires-clause-open : goal.name_variable-requires-clause-open
name_variable-requires-clause-open c =
    taken_open c.make.new.self c.args.table.now.entries c.args.y c.variable-kind.result.kind c.in_ok-t.t c.variable-kind.result c.requires.can.second c.variable-kind.ensures refl c.in_ok-t.ensures.tree

pub name_variable-requires-clause-known : goal.name_variable-requires-clause-known
name_variable-requires-clause-known c = slice_get_below c.args.table.now.entries.variables c.args.x c.variable.result c.variable.ensures

pub variable-variable-requires : goal.variable-variable-requires
variable-variable-requires c =
    slots_later c.make.new.self c.name_variable.new.nodes c.args.table.now.entries c.name_variable.new.table.entries c.args.x c.in-Ok.ensures.generalized.keeps.later (slice_get_below c.args.table.now.entries.variables c.args.x c.variable.result c.variable.ensures)

pub bind-requires : goal.bind-requires
bind-requires c =
    slots_later c.make.new.self c.name_variable.new.nodes c.args.table.now.entries c.name_variable.new.table.entries c.args.x c.in-Ok.ensures.generalized.keeps.later (slice_get_below c.args.table.now.entries.variables c.args.x c.variable.result c.variable.ensures)

made : (c : goal.After-drop-moved-inside-5) → IsLawful c.name_variable.new.nodes c.bind.new.self.entries × AreMadeOne (content_of c.args.nodes.now c.args.table.now.entries) (content_of c.name_variable.new.nodes c.bind.new.self.entries) c.args.x c.args.y
made c =
    taken c.args.nodes.now c.make.new.self c.name_variable.new.nodes c.args.table.now.entries c.name_variable.new.table.entries c.bind.new.self.entries c.args.x c.args.y c.variable-kind.result.kind c.in_ok-t.t c.in-Ok.value c.variable.result c.variable-variable.result c.variable-kind.result c.requires.lawful c.in_ok-t.ensures.extends c.requires.can c.variable.ensures c.variable-kind.ensures refl c.in_ok-t.ensures.tree c.in-Ok.ensures.lawful c.in-Ok.ensures.within (c.terms_are_formed.ensures.formed c.in-Ok.value c.in-Ok.ensures.within) c.in-Ok.ensures.generalized c.variable-variable.ensures c.in_ok-bind-in-Ok.ensures.entries

pub returns-clause-lawful : goal.returns-clause-lawful
returns-clause-lawful c = (made c).0

pub returns-clause-made : goal.returns-clause-made
returns-clause-made c = (made c).1

pub name_variable-requires-clause-named : goal.name_variable-requires-clause-named
name_variable-requires-clause-named c =
    (let p = c.requires.lawful.proper.current in p.universes c.args.x _ (universe_of-entry c.args.nodes.now c.args.table.now.entries c.args.x c.variable.result c.variable.ensures))
