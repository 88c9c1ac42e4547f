use Rattle.std.proofs.Common.{refl, arith}
use Rattle.std.proofs.lemmas.Grind.{common_steps}
use Rattle.nts_model.specs.declared.labels.Sort.TheVariants as sort
use Rattle.nts_wording.proofs.Places.{own_sort, own_type}
use Rattle.nts_wording.proofs.variables.LineVariables.add_type.Goals as goal

pub returns-in_err-push-2-clause-own : goal.returns-in_err-push-2-clause-own
returns-in_err-push-2-clause-own c = own_sort _ _ sort.Ty c.in_ok-push.ensures.items c.in_err-push-2.ensures.items refl

pub returns-clause-own : goal.returns-clause-own
returns-clause-own c = own_type _ _ c.len-place.result (grind (arith, common_steps, c.len-place.ensures)) c.in_ok-push.ensures.items c.in_ok-push-2.ensures.items refl
