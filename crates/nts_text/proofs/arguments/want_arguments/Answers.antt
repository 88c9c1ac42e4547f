use Rattle.std.proofs.Common.{◌≡◌, ◌++◌, ◌∷◌, [], reverse, OnOk, sym, ap, subst, ◌∙◌}
use Rattle.nts_model.specs.declared.labels.Sort.TheVariants.{Ty}
use Rattle.nts_text.specs.Resolution.{argument_sorts}
use Rattle.nts_text.proofs.SortLemmas.{wanted_with}
use Rattle.nts_text.proofs.arguments.want_arguments.Goals as goal

-- the value of an alias is wanted behind its arguments
pub returns-in_ok-push-in-Normalizes : goal.returns-in_ok-push-in-Normalizes
returns-in_ok-push-in-Normalizes c =
    subst (λ xs. OnOk c.want_all-in-Normalizes.result (c.want_all-in-Normalizes.new.wanted.items ≡ c.args.wanted.now.items ++ reverse xs))
    (ap (λ xs. xs ++ Ty ∷ []) c.alias_sorts-in-Normalizes.ensures ∙ sym (ap (argument_sorts c.args.names.now) c.in-Normalizes.is))
    (wanted_with c.want_all-in-Normalizes.result c.args.wanted.now.items c.push.new.self.items c.want_all-in-Normalizes.new.wanted.items c.alias_sorts-in-Normalizes.result.now Ty c.in_ok-push-in-Normalizes.ensures.items c.want_all-in-Normalizes.ensures)
