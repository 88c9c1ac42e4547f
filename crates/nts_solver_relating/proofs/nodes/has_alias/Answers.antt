use Rattle.std.proofs.Common.{◌≡◌, false, sym, ap, ◌∙◌, rules}
use Rattle.nts_model.specs.Terms.Trees.{any_label, is_alias, is_infer}
use Rattle.nts_model.proofs.Tables.Kept.{resolved-no_infer}
use Rattle.nts_store.specs.Growth.{tree_at}
use Rattle.nts_store.specs.declared.type_flags.TypeFlags.{TypeFlags}
use Rattle.nts_unify.specs.Reading.{content_of}
use Rattle.nts_solver_relating.proofs.nodes.has_alias.Goals as goal

pub returns-then-not-flags-clause-answer : goal.returns-then-not-flags-clause-answer
returns-then-not-flags-clause-answer c =
    let ts = c.args.nodes.now in
    let t = tree_at ts c.args.t in
    let none : c.flags-flags.result.has_infer ≡ false = search rules in
    let no_infer : any_label is_infer t ≡ false = sym (ap (λ (f : TypeFlags). f.has_infer) c.flags-flags.ensures) ∙ none in
    ap (λ (f : TypeFlags). f.has_alias) c.flags-flags.ensures ∙ ap (any_label is_alias) (sym (resolved-no_infer (content_of ts c.args.table.now.entries) t no_infer))
