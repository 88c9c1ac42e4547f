use Rattle.std.proofs.Common.{sym, ap, ◌∙◌}
use Rattle.nts_model.specs.Canonical.Numbered.{position}
use Rattle.nts_store.specs.Growth.{tree_at}
use Rattle.nts_store.proofs.Growing.{Extends-trans}
use Rattle.nts_terms.proofs.Moved.{KeepsRest-trans}
use Rattle.nts_wording.proofs.Places.{positions_push}
use Rattle.nts_wording.proofs.build.positions.Goals.{in-Ty+in_ok-mk_ty-in-Ty, in-Region+in_ok-mk_region-in-Region}
use Rattle.nts_wording.proofs.build.positions.Goals as goal

-- one position more, of a type or of a region
pub loop-var-preserved : goal.loop-var-preserved
loop-var-preserved c =
    let i = c.loop-var.invariant in
    elim c.match-sort.branch [
      | in-Ty+in_ok-mk_ty-in-Ty w ↦
          let e = w.in_ok-mk_ty-in-Ty.ensures in
          rw (w.cx-is, c.in_ok-push.ensures.items, w.value-is) (record {
            trees = λ us later.
                positions_push _ w.mk_ty.new.self.nodes us c.args.sorts.now c.loop-var.var _ c.loop-var.values.items _ c.loop-var-test.true i.trees e.grows.extends later
                (ap (tree_at us) w.into-value.ensures ∙ later.kept _ e.holds.within ∙ e.tree ∙ ap (λ s. position s c.loop-var.var) (sym w.in-Ty.is));
            extends = Extends-trans i.extends e.grows.extends;
            rest = KeepsRest-trans i.rest e.grows.rest;
          })
      | in-Region+in_ok-mk_region-in-Region w ↦
          let e = w.in_ok-mk_region-in-Region.ensures in
          rw (w.cx-is, c.in_ok-push.ensures.items, w.value-is) (record {
            trees = λ us later.
                positions_push _ w.mk_region.new.self.nodes us c.args.sorts.now c.loop-var.var _ c.loop-var.values.items _ c.loop-var-test.true i.trees e.grows.extends later
                (ap (tree_at us) w.into-value-in-Region.ensures ∙ later.kept _ e.holds.within ∙ e.tree ∙ ap (λ s. position s c.loop-var.var) (sym w.in-Region.is));
            extends = Extends-trans i.extends e.grows.extends;
            rest = KeepsRest-trans i.rest e.grows.rest;
          })
    ]
