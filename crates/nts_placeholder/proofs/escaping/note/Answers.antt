use Rattle.std.proofs.Common.{◌≡◌, ◌∙◌, ◌||◌, ap, sym, arith}
use Rattle.nts_model.specs.declared.labels.BoundVarIndexKind.TheVariants as index
use Rattle.nts_model.specs.declared.labels.Label.TheVariants as label
use Rattle.nts_placeholder.specs.Escaping.{is_among, is_bound}
use Rattle.nts_placeholder.proofs.Finding.{noted}
use Rattle.nts_placeholder.proofs.escaping.note.Goals as goal

pub returns-in_ok-push-in-Bound-index : goal.returns-in_ok-push-in-Bound-index
returns-in_ok-push-in-Bound-index c =
    let at = c.in-Bound in
    let d = c.in-Bound-index.d in
    let e : c.args.label ≡ label.Bound at.sort (index.Bound d) at.var = at.is ∙ ap (λ k. label.Bound at.sort k at.var) c.in-Bound-index.is in
    record {
      noted = λ s b. noted at.sort d at.var c.args.level c.args.found.now.items c.push.new.self.items (omega (arith, c.if-d-level.true)) c.in_ok-push-in-Bound-index.ensures.items s b ∙ ap (λ l. is_among c.args.found.now.items s b || is_bound s b c.args.level l) (sym e);
    }
