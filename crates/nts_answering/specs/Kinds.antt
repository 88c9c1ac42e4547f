-- What positions of variables stand for.
use Rattle.std.specs.Prelude.{ℕ}
use Rattle.nts_model.specs.declared.labels.VariableKind.{VariableKind}
use Rattle.nts_model.specs.declared.labels.VariableKind.TheVariants as kind
use Rattle.nts_model.specs.Canonical.Inputs.{PositionKind, type_variable, integer_variable, float_variable, const_variable, region_variable}

-- the position of a variable of this kind and universe, where the first of its sub root is at f
abbrev pub kind_in : VariableKind → ℕ → ℕ → PositionKind
kind_in kind.Ty u f = type_variable u f
kind_in kind.Int u f = integer_variable
kind_in kind.Float u f = float_variable
kind_in kind.Const u f = const_variable u
kind_in kind.Region u f = region_variable u
