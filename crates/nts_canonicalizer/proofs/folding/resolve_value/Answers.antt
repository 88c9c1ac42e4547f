use Rattle.std.proofs.Common.{◌≡◌, subst, sym}
use Rattle.nts_model.specs.Tables.Resolving.{Knows, deeply_resolved}
use Rattle.nts_model.proofs.Tables.Open.{Knows-deeply_resolved}
use Rattle.nts_unify.specs.Reading.{content_of}
use Rattle.nts_unify.specs.Lawful.{content_of-extended}
use Rattle.nts_store.specs.declared.fault.Fault.TheVariants.{Memory}
use Rattle.nts_canonical.specs.nts_folding.proofs.Folded.{on_same_err, stops_only}
use Rattle.nts_canonical.specs.Mapping.{same_state}
use Rattle.nts_canonical.proofs.Mapped.{resolving, walk_mapped}
use Rattle.nts_canonicalizer.proofs.folding.resolve_value.Goals as goal

pub returns-clause-tree : goal.returns-clause-tree
returns-clause-tree g c = (walk_mapped Knows deeply_resolved same_state resolving _ _ _ _ c.requires.knows c.in_ok-resolved.ensures.walk).0

pub returns-clause-knows : goal.returns-clause-knows
returns-clause-knows g c =
    let old = content_of c.args.cx.now.nodes c.args.table.now.entries in
    let x = g.T.TypeFoldable.tree c.args.cx.now.nodes c.args.value in
    let same = content_of-extended c.in_ok-resolved.ensures.grows.extends c.requires.table.now in
    let tree = (walk_mapped Knows deeply_resolved same_state resolving _ _ _ _ c.requires.knows c.in_ok-resolved.ensures.walk).0 in
    subst (λ z. Knows z (g.T.TypeFoldable.tree c.fold_with.new.cx.nodes c.in_ok-resolved.resolved)) (sym same) (subst (Knows old) (sym tree) (Knows-deeply_resolved old x c.requires.table.now.sound c.requires.knows))

pub returns-in_err-resolved-clause-memory : goal.returns-in_err-resolved-clause-memory
returns-in_err-resolved-clause-memory g c =
    on_same_err _ _ _ c.from_residual.ensures.1 (stops_only _ _ _ _ _ (λ e. e ≡ Memory) (λ s o e h. h) _ _ _ c.in_err-resolved.ensures.err)
