use Rattle.std.proofs.Common.{◌≡◌, ap}
use Rattle.std.specs.Prelude.{Some}
use Rattle.nts_model.specs.declared.labels.VariableKind.TheVariants as kind
use Rattle.nts_canonical.proofs.SubRooted.{sub_root_is}
use Rattle.nts_canonical.proofs.var_kinds.sub_root_of.Goals as goal

pub returns-in-Variable-Ty-default : goal.returns-in-Variable-Ty-default
returns-in-Variable-Ty-default c =
    let is = c.in-Variable-Ty-default.is in
    let of_type : c.in-Variable-Ty-default.field-0 ≡ kind.Ty = rw is at c.in-Variable-Ty-default.field-0-is in
    rw (is, of_type) (ap Some (sub_root_is c.args.table.now.entries c.requires.descends c.in-Variable-Ty-default.n c.sub_unification_table_root_var.result c.sub_unification_table_root_var.ensures))
