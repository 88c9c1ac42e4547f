-- What a node in the place of an argument is answered, at each of the ways out.
use Rattle.std.proofs.Common.{◌≡◌, ◌≢◌, true, Result, Ok, Err, IfOk, IfErr, IsErr, IsErrAnd, Some, ℕ, List, refl, sym, ap, ◌∙◌}
use Rattle.nts_model.specs.declared.labels.Sort.{Sort}
use Rattle.nts_text.specs.Binders.{BoundNames}
use Rattle.nts_text.specs.Reasons.{is_name_reason}
use Rattle.nts_text.specs.Resolution.{sort_of, role_of, IsDeclared, IsMeaningOf, IsNoVariable}
use Rattle.nts_text.specs.Spelled.{KeepsNames}
use Rattle.nts_text.specs.declared.names.Scope.{Scope}
use Rattle.nts_text.specs.declared.predicates.Node.{Node}
use Rattle.nts_text.specs.declared.predicates.Role.TheVariants.{Argument}
use Rattle.nts_text.specs.declared.refusals.Refusal.TheVariants.{AliasIsRigid, ParameterInAClause, VariableInAnEnvironment, UnknownName, NameDeclaredTwice, WrongArguments}
use Rattle.nts_text.specs.declared.refusals.TextError.{TextError}
use Rattle.nts_text.specs.declared.refusals.TextError.TheVariants.{Memory, Refused}
use Rattle.nts_text.specs.declared.resolver.Resolved.{Resolved}
use Rattle.nts_text.specs.declared.resolver.Resolved.TheVariants as nodes
use Rattle.nts_text.specs.declared.names.NameTable.{NameTable}
use Rattle.nts_text.specs.declared.lexer.TokenKind.TheVariants.{Name, TypeVariable, RegionVariable}
use Rattle.nts_text.specs.declared.resolver.Reading.{Reading}
use Rattle.nts_text.specs.declared.resolver.Site.TheVariants.{Clause, Environment}

-- The clauses of `type_node`, `region_name` and `region_node`, where `U` is what an unknown name says.
abbrev pub AnswersNode : Reading → BoundNames → Node → Sort → Type 0 → Scope → Scope → Result Resolved TextError → Type 0
AnswersNode reading b node wanted U old new r = record {
  sort : IfOk r (λ x. sort_of x ≡ Some wanted);
  role : IfOk r (λ x. role_of x ≡ Argument);
  declared : IfOk r (IsDeclared reading.names.now);
  means : IfOk r (IsMeaningOf reading.names.now new reading.line.now b node);
  kept : KeepsNames old new;
  reasons : IfErr r (λ e. is_name_reason e ≡ true);
  parameter : r ≡ Err (Refused ParameterInAClause) → reading.site ≡ Clause;
  variable : r ≡ Err (Refused VariableInAnEnvironment) → reading.site ≡ Environment;
  free : reading.site ≡ Environment → IfOk r IsNoVariable;
  unknown : r ≡ Err (Refused UnknownName) → U;
  twice : r ≡ Err (Refused NameDeclaredTwice) → ⊥;
  rigid : r ≡ Err (Refused AliasIsRigid) → ⊥;
}

-- a node that is taken
pub taken : (reading : Reading) (b : BoundNames) (node : Node) (wanted : Sort) (U : Type 0) (old new : Scope) (x : Resolved)
    → sort_of x ≡ Some wanted → role_of x ≡ Argument → IsDeclared reading.names.now x → IsMeaningOf reading.names.now new reading.line.now b node x → KeepsNames old new → (reading.site ≡ Environment → IsNoVariable x)
    → AnswersNode reading b node wanted U old new (Ok x)
taken reading b node wanted U old new x sort role declared means kept free = record {
  sort = sort;
  role = role;
  declared = declared;
  means = means;
  kept = kept;
  reasons = tt;
  parameter = λ is. cc;
  variable = λ is. cc;
  free = free;
  unknown = λ is. cc;
  twice = λ is. cc;
  rigid = λ is. cc;
}

-- memory ran out
pub no_memory : (reading : Reading) (b : BoundNames) (node : Node) (wanted : Sort) (U : Type 0) (old new : Scope) (r : Result Resolved TextError)
    → IsErrAnd r (λ e. e ≡ Memory) → KeepsNames old new → AnswersNode reading b node wanted U old new r
no_memory reading b node wanted U old new (Ok x) h kept = absurd h
no_memory reading b node wanted U old new (Err e) h kept = record {
  sort = tt;
  role = tt;
  declared = tt;
  means = tt;
  kept = kept;
  reasons = rw h refl;
  parameter = λ is. cc;
  variable = λ is. cc;
  free = λ is. tt;
  unknown = λ is. cc;
  twice = λ is. cc;
  rigid = λ is. cc;
}

-- a parameter where none may stand
pub no_parameter : (reading : Reading) (b : BoundNames) (node : Node) (wanted : Sort) (U : Type 0) (scope : Scope) (r : Result Resolved TextError) (e : TextError)
    → IsErrAnd r (λ x. x ≡ e) → (e ≡ Refused ParameterInAClause) × (reading.site ≡ Clause) → KeepsNames scope scope → AnswersNode reading b node wanted U scope scope r
no_parameter reading b node wanted U scope (Ok x) e h k kept = absurd h
no_parameter reading b node wanted U scope (Err x) e h k kept = record {
  sort = tt;
  role = tt;
  declared = tt;
  means = tt;
  kept = kept;
  reasons = rw (h, k.0) refl;
  parameter = λ is. k.1;
  variable = λ is. cc;
  free = λ is. tt;
  unknown = λ is. cc;
  twice = λ is. cc;
  rigid = λ is. cc;
}

-- a variable where none may stand
pub no_variable : (reading : Reading) (b : BoundNames) (node : Node) (wanted : Sort) (U : Type 0) (scope : Scope) (r : Result Resolved TextError) (e : TextError)
    → IsErrAnd r (λ x. x ≡ e) → (e ≡ Refused VariableInAnEnvironment) × (reading.site ≡ Environment) → KeepsNames scope scope → AnswersNode reading b node wanted U scope scope r
no_variable reading b node wanted U scope (Ok x) e h k kept = absurd h
no_variable reading b node wanted U scope (Err x) e h k kept = record {
  sort = tt;
  role = tt;
  declared = tt;
  means = tt;
  kept = kept;
  reasons = rw (h, k.0) refl;
  parameter = λ is. cc;
  variable = λ is. k.1;
  free = λ is. tt;
  unknown = λ is. cc;
  twice = λ is. cc;
  rigid = λ is. cc;
}

-- what is no argument is no variable, and a name is none
pub no_argument : (x : Resolved) → (role_of x ≡ Argument → ⊥) → IsNoVariable x
no_argument (nodes.TypeVariable n) h = absurd (h refl)
no_argument (nodes.RegionVariable n) h = absurd (h refl)
no_argument x h = refl

pub name_is_free : (names : NameTable) (scope : Scope) (line : List ℕ) (b : BoundNames) (node : Node) (x : Resolved) → node.token.kind ≡ Name → IsMeaningOf names scope line b node x → IsNoVariable x
name_is_free names scope line b node (nodes.TypeVariable n) k h = let f : Name ≡ TypeVariable = sym k ∙ h.0 in cc
name_is_free names scope line b node (nodes.RegionVariable n) k h = let f : Name ≡ RegionVariable = sym k ∙ h.0 in cc
name_is_free names scope line b node x k h = refl

-- a node of another form, or with the wrong number of arguments
pub wrong_node : (reading : Reading) (b : BoundNames) (node : Node) (wanted : Sort) (U : Type 0) (scope : Scope) (r : Result Resolved TextError)
    → r ≡ Err (Refused WrongArguments) → KeepsNames scope scope → AnswersNode reading b node wanted U scope scope r
wrong_node reading b node wanted U scope (Ok x) h kept = cc
wrong_node reading b node wanted U scope (Err e) h kept =
    let same : e ≡ Refused WrongArguments = cc in
    record {
      sort = tt;
      role = tt;
      declared = tt;
      means = tt;
      kept = kept;
      reasons = rw same refl;
      parameter = λ is. cc;
      variable = λ is. cc;
      free = λ is. tt;
      unknown = λ is. cc;
      twice = λ is. cc;
      rigid = λ is. cc;
    }

-- a name that may be unknown, and stands for no region
pub no_region : (reading : Reading) (b : BoundNames) (node : Node) (wanted : Sort) (U : Type 0) (scope : Scope) (r : Result Resolved TextError)
    → IsErr r → IfErr r (λ e. e ≢ Refused UnknownName → e ≡ Refused WrongArguments) → (r ≡ Err (Refused UnknownName) → U) → KeepsNames scope scope
    → AnswersNode reading b node wanted U scope scope r
no_region reading b node wanted U scope (Ok x) none wrong unknown kept = cc
no_region reading b node wanted U scope (Err (Refused UnknownName)) none wrong unknown kept = record {
  sort = tt;
  role = tt;
  declared = tt;
  means = tt;
  kept = kept;
  reasons = refl;
  parameter = λ is. cc;
  variable = λ is. cc;
  free = λ is. tt;
  unknown = unknown;
  twice = λ is. cc;
  rigid = λ is. cc;
}
no_region reading b node wanted U scope (Err e) none wrong unknown kept =
    wrong_node reading b node wanted U scope (Err e) (ap Err (wrong (λ is. cc))) kept

-- The clauses of `predicate` and `named_type`, where a name is unknown, or stands for something else
pub unknown_name : (S R D : Resolved → Type 0) (M : Scope → BoundNames → Resolved → Type 0) (U G : Type 0) (r : Result Resolved TextError) (e : TextError) → IsErrAnd r (λ x. x ≡ e) → (e ≡ Refused UnknownName) × U
    → record {
      sort : IfOk r S;
      role : IfOk r R;
      declared : IfOk r D;
      means : (scope : Scope) (b : BoundNames) → IfOk r (M scope b);
      reasons : IfErr r (λ e. is_name_reason e ≡ true);
      reason : r ≢ Err (Refused ParameterInAClause);
      variable : r ≢ Err (Refused VariableInAnEnvironment);
      unknown : r ≡ Err (Refused UnknownName) → U;
      declares : r ≢ Err (Refused NameDeclaredTwice);
      rigid : r ≡ Err (Refused AliasIsRigid) → G;
    }
unknown_name S R D M U G (Ok x) e h k = absurd h
unknown_name S R D M U G (Err x) e h k = record {
  sort = tt;
  role = tt;
  declared = tt;
  means = λ scope b. tt;
  reasons = rw (h, k.0) refl;
  reason = λ is. cc;
  variable = λ is. cc;
  unknown = λ is. k.1;
  declares = λ is. cc;
  rigid = λ is. cc;
}

pub wrong_name : (S R D : Resolved → Type 0) (M : Scope → BoundNames → Resolved → Type 0) (U G : Type 0) (r : Result Resolved TextError) → r ≡ Err (Refused WrongArguments)
    → record {
      sort : IfOk r S;
      role : IfOk r R;
      declared : IfOk r D;
      means : (scope : Scope) (b : BoundNames) → IfOk r (M scope b);
      reasons : IfErr r (λ e. is_name_reason e ≡ true);
      reason : r ≢ Err (Refused ParameterInAClause);
      variable : r ≢ Err (Refused VariableInAnEnvironment);
      unknown : r ≡ Err (Refused UnknownName) → U;
      declares : r ≢ Err (Refused NameDeclaredTwice);
      rigid : r ≡ Err (Refused AliasIsRigid) → G;
    }
wrong_name S R D M U G (Ok x) h = cc
wrong_name S R D M U G (Err e) h =
    let same : e ≡ Refused WrongArguments = cc in
    record {
      sort = tt;
      role = tt;
      declared = tt;
      means = λ scope b. tt;
      reasons = rw same refl;
      reason = λ is. cc;
      variable = λ is. cc;
      unknown = λ is. cc;
      declares = λ is. cc;
      rigid = λ is. cc;
    }

pub IfOk-map : {A E : Type 0} {P Q : A → Type 0} (r : Result A E) → ((x : A) → P x → Q x) → IfOk r P → IfOk r Q
IfOk-map (Ok x) f h = f x h
IfOk-map (Err e) f h = tt
