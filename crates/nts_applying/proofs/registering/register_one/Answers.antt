use Rattle.std.proofs.Common.{subst}
use Rattle.nts_unify.specs.Reading.{content_of, IsHiddenType}
use Rattle.nts_table.specs.Registering.{Registers}
use Rattle.nts_canonical.specs.Building.{stored_hidden}
use Rattle.nts_applying.proofs.HiddenSteps.{older_hidden}
use Rattle.nts_applying.proofs.registering.register_one.Goals as goal

-- the type that gave place, where it is to be a duplicate
older : (c : goal.After-add_duplicate_opaque_type-arg-1) → IsHiddenType c.register_hidden_type_in_storage.new.cx.nodes (content_of c.register_hidden_type_in_storage.new.cx.nodes c.register_hidden_type_in_storage.new.self.entries) (record (stored_hidden c.args.hidden) { ty = c.in-Some.older })
older c =
    let k = c.in_ok-older.ensures in
    older_hidden c.args.cx.now.nodes c.register_hidden_type_in_storage.new.cx.nodes c.args.table.now.entries c.register_hidden_type_in_storage.new.self.entries (stored_hidden c.args.hidden) c.in-Some.older c.requires.table.now k.grows.extends k.entries c.requires.hidden
    (subst (λ o. Registers c.args.cx.now.nodes (content_of c.args.cx.now.nodes c.args.table.now.entries) c.args.table.now.entries.hidden.lookup (stored_hidden c.args.hidden) c.register_hidden_type_in_storage.new.self.entries.hidden.lookup o) c.in-Some.is k.registered)

pub add_duplicate_opaque_type-requires-clause-args_known : goal.add_duplicate_opaque_type-requires-clause-args_known
add_duplicate_opaque_type-requires-clause-args_known c = (older c).args_known

pub add_duplicate_opaque_type-requires-clause-ty : goal.add_duplicate_opaque_type-requires-clause-ty
add_duplicate_opaque_type-requires-clause-ty c = (older c).ty

pub add_duplicate_opaque_type-requires-clause-ty_known : goal.add_duplicate_opaque_type-requires-clause-ty_known
add_duplicate_opaque_type-requires-clause-ty_known c = (older c).ty_known
