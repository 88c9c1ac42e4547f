use Rattle.std.proofs.Common.{refl}
use Rattle.nts_model.specs.declared.labels.Sort.TheVariants.{Ty}
use Rattle.nts_text.specs.Binders.{bound_names}
use Rattle.nts_text.proofs.ReadingLemmas.{taken, no_memory, no_parameter, no_variable, wrong_node, name_is_free, IfOk-map}
use Rattle.nts_text.proofs.SpellingLemmas.{KeepsNames-refl, keeps_types, keeps_variables, keeps_parameters}
use Rattle.nts_text.proofs.resolver.Reading.type_node.Goals as goal

-- a name
pub returns-in-Name : goal.returns-in-Name
returns-in-Name c =
    let e = c.type_name.ensures in
    record {
      sort = e.sort;
      role = e.role;
      declared = e.declared;
      means = e.means c.args.scope.now;
      kept = KeepsNames-refl;
      reasons = e.reasons;
      parameter = λ is. absurd (e.parameter is);
      variable = λ is. absurd (e.variable is);
      free = λ is. IfOk-map c.type_name.result (λ x m. name_is_free c.args.self.now.names.now c.args.scope.now c.args.self.now.line.now (bound_names c.args.bounds.now) c.args.node x c.in-Name.is m) (e.means c.args.scope.now);
      unknown = e.unknown;
      twice = e.twice;
      rigid = λ is. absurd (e.rigid is);
    }

-- a variable
pub returns-in_ok-type_number-in-TypeVariable : goal.returns-in_ok-type_number-in-TypeVariable
returns-in_ok-type_number-in-TypeVariable c =
    taken c.args.self.now (bound_names c.args.bounds.now) c.args.node Ty _ _ _ _ refl refl tt (c.in-TypeVariable.is, rw c.text-name.ensures at c.in_ok-type_number-in-TypeVariable.ensures.number)
    (keeps_variables c.args.scope.now c.type_number.new.self (keeps_types _ _ c.type_number.ensures.kept c.type_number.ensures.others)) (λ is. absurd (c.in_ok-allows_variable-in-TypeVariable.ensures is))

pub returns-in_err-type_number-in-TypeVariable : goal.returns-in_err-type_number-in-TypeVariable
returns-in_err-type_number-in-TypeVariable c =
    no_memory c.args.self.now (bound_names c.args.bounds.now) c.args.node Ty _ _ _ c.from_residual-in_err-type_number-in-TypeVariable.result c.from_residual-in_err-type_number-in-TypeVariable.ensures.1
    (keeps_variables c.args.scope.now c.type_number.new.self (keeps_types _ _ c.type_number.ensures.kept c.type_number.ensures.others))

pub returns-in_err-allows_variable-in-TypeVariable : goal.returns-in_err-allows_variable-in-TypeVariable
returns-in_err-allows_variable-in-TypeVariable c =
    no_variable c.args.self.now (bound_names c.args.bounds.now) c.args.node Ty _ _ c.from_residual.result _ c.from_residual.ensures.1 c.in_err-allows_variable-in-TypeVariable.ensures KeepsNames-refl

-- a parameter
pub returns-in_ok-type_number-in-TypeParam : goal.returns-in_ok-type_number-in-TypeParam
returns-in_ok-type_number-in-TypeParam c =
    let f = c.type_number-in-TypeParam in
    taken c.args.self.now (bound_names c.args.bounds.now) c.args.node Ty _ _ _ _ refl refl tt (c.in-TypeParam.is, rw c.text-name.ensures at c.in_ok-type_number-in-TypeParam.ensures.number)
    (keeps_parameters c.args.scope.now f.new.self (keeps_types _ _ f.ensures.kept f.ensures.others)) (λ is. refl)

pub returns-in_err-type_number-in-TypeParam : goal.returns-in_err-type_number-in-TypeParam
returns-in_err-type_number-in-TypeParam c =
    let f = c.type_number-in-TypeParam in
    let r = c.from_residual-in_err-type_number-in-TypeParam in
    no_memory c.args.self.now (bound_names c.args.bounds.now) c.args.node Ty _ _ _ r.result r.ensures.1
    (keeps_parameters c.args.scope.now f.new.self (keeps_types _ _ f.ensures.kept f.ensures.others))

pub returns-in_err-allows_parameter-in-TypeParam : goal.returns-in_err-allows_parameter-in-TypeParam
returns-in_err-allows_parameter-in-TypeParam c =
    let r = c.from_residual-in_err-allows_parameter-in-TypeParam in
    no_parameter c.args.self.now (bound_names c.args.bounds.now) c.args.node Ty _ _ r.result _ r.ensures.1 c.in_err-allows_parameter-in-TypeParam.ensures KeepsNames-refl

-- nothing that stands for a type
pub returns-in_default : goal.returns-in_default
returns-in_default c = wrong_node c.args.self.now (bound_names c.args.bounds.now) c.args.node Ty _ _ c.refused.result c.refused.ensures KeepsNames-refl
