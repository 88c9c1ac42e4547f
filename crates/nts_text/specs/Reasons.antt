-- Which reasons come of what in a line.
use Rattle.std.specs.Prelude.{ℕ, Bool, true, false, List, codes}
use Rattle.nts_text.specs.declared.refusals.Refusal.{Refusal}
use Rattle.nts_text.specs.declared.refusals.Refusal.TheVariants.{UnknownCommand, Syntax, NumberOutOfRange, UnknownName, NameDeclaredTwice, WrongArguments, ParameterInAClause, VariableInAnEnvironment, AliasIsRigid}
use Rattle.nts_text.specs.declared.refusals.TextError.{TextError}
use Rattle.nts_text.specs.declared.refusals.TextError.TheVariants.{Memory, Refused}

-- what may be wrong with the form of a line
abbrev pub is_form_reason : TextError → Bool
is_form_reason Memory = true
is_form_reason (Refused Syntax) = true
is_form_reason (Refused NumberOutOfRange) = true
is_form_reason (Refused UnknownCommand) = false
is_form_reason (Refused UnknownName) = false
is_form_reason (Refused NameDeclaredTwice) = false
is_form_reason (Refused WrongArguments) = false
is_form_reason (Refused ParameterInAClause) = false
is_form_reason (Refused VariableInAnEnvironment) = false
is_form_reason (Refused AliasIsRigid) = false

-- what may be wrong with the names of a line
abbrev pub is_name_reason : TextError → Bool
is_name_reason Memory = true
is_name_reason (Refused UnknownName) = true
is_name_reason (Refused NameDeclaredTwice) = true
is_name_reason (Refused WrongArguments) = true
is_name_reason (Refused ParameterInAClause) = true
is_name_reason (Refused VariableInAnEnvironment) = true
is_name_reason (Refused AliasIsRigid) = true
is_name_reason (Refused UnknownCommand) = false
is_name_reason (Refused Syntax) = false
is_name_reason (Refused NumberOutOfRange) = false

-- how a reason is printed
abbrev pub words_of : Refusal → List ℕ
words_of UnknownCommand = codes "unknown command"
words_of Syntax = codes "syntax"
words_of NumberOutOfRange = codes "number out of range"
words_of UnknownName = codes "unknown name"
words_of NameDeclaredTwice = codes "name declared twice"
words_of WrongArguments = codes "wrong arguments"
words_of ParameterInAClause = codes "parameter in a clause"
words_of VariableInAnEnvironment = codes "variable in an environment"
words_of AliasIsRigid = codes "alias is rigid"
