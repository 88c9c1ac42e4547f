-- What a line names plays no part in what its command declares.
use Rattle.std.proofs.Common.{true, false}
use Rattle.nts_text.specs.declared.commands.Command.{Command}
use Rattle.nts_text.specs.declared.commands.Command.TheVariants as commands
use Rattle.nts_text.specs.declared.names.NameTable.{NameTable}
use Rattle.nts_text.specs.declared.names.Scope.{Scope}
use Rattle.nts_declaring.specs.declared.program.Program.{Program}
use Rattle.nts_declaring.specs.Declaring.{KeepsRules, HasDeclared}

-- the program once a line is read
abbrev pub once_read : Program → NameTable → Scope → Program
once_read p names scope = record p { names = names; scope = scope }

module _ (old new : Program) (names : NameTable) (scope : Scope) where
  pub rules_from : KeepsRules (once_read old names scope) new → KeepsRules old new
  rules_from h = record { clauses = h.clauses; mode = h.mode; env = h.env }

  -- names and variables of the line play no part
  pub declared_from : (command : Command) → HasDeclared (once_read old names scope) new command → HasDeclared old new command
  declared_from (commands.Mode m) h = h
  declared_from (commands.Depth d) h = (h.0, rules_from h.1)
  declared_from (commands.Type n params) h = (h.0, rules_from h.1)
  declared_from (commands.Trait n true) h = h
  declared_from (commands.Trait n false) h = (h.0, rules_from h.1)
  declared_from (commands.Alias n true) h = h
  declared_from (commands.Alias n false) h = (h.0, rules_from h.1)
  declared_from (commands.Impl head body) h = h
  declared_from (commands.Norm head body) h = h
  declared_from (commands.Goal nodes) h = (h.0, rules_from h.1)
  declared_from (commands.Env nodes) h = h
