use Rattle.std.proofs.Common.{refl, subst}
use Rattle.nts_model.specs.declared.labels.Sort.TheVariants.{Region}
use Rattle.nts_text.specs.Binders.{bound_names}
use Rattle.nts_text.specs.Spelled.{HasNoNumber}
use Rattle.nts_text.proofs.ReadingLemmas.{taken, no_memory, no_parameter}
use Rattle.nts_text.proofs.SpellingLemmas.{KeepsNames-refl, keeps_regions, keeps_parameters}
use Rattle.nts_text.proofs.resolver.Reading.region_name.Goals as goal

-- a parameter
pub returns : goal.returns
returns c =
    let free = subst (HasNoNumber (bound_names c.args.bounds.now).here) c.text-name.ensures (c.in_default.ensures.none refl) in
    taken c.args.self.now (bound_names c.args.bounds.now) c.args.node Region _ _ _ _ refl refl tt (c.requires.name, free, rw c.text-name.ensures at c.in_ok-region_number.ensures.number)
    (keeps_parameters c.args.scope.now c.region_number.new.self (keeps_regions _ _ c.region_number.ensures.kept c.region_number.ensures.others)) (λ is. refl)

pub returns-in_err-region_number : goal.returns-in_err-region_number
returns-in_err-region_number c =
    no_memory c.args.self.now (bound_names c.args.bounds.now) c.args.node Region _ _ _ c.from_residual-in_err-region_number.result c.from_residual-in_err-region_number.ensures.1
    (keeps_parameters c.args.scope.now c.region_number.new.self (keeps_regions _ _ c.region_number.ensures.kept c.region_number.ensures.others))

pub returns-in_err-allows_parameter : goal.returns-in_err-allows_parameter
returns-in_err-allows_parameter c =
    no_parameter c.args.self.now (bound_names c.args.bounds.now) c.args.node Region _ _ c.from_residual.result _ c.from_residual.ensures.1 c.in_err-allows_parameter.ensures KeepsNames-refl
