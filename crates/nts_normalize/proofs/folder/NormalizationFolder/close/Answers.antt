use Rattle.std.proofs.Common.{◌∙◌, ap}
use Rattle.nts_model.specs.Terms.Trees.{kind_of}
use Rattle.nts_model.proofs.Tables.Kept.{kind_of-deeply_resolved}
use Rattle.nts_placeholder.specs.Closing.{mapped}
use Rattle.nts_placeholder.specs.ClosingLaws.{closing_of-same_kind}
use Rattle.nts_normalize.proofs.Stepping.{on_ok}
use Rattle.nts_normalize.proofs.folder.NormalizationFolder.close.Goals as goal

pub returns-clause-tree : goal.returns-clause-tree
returns-clause-tree g c = rw c.deref.ensures.value at c.replace_placeholders.ensures.tree

pub returns-clause-kind : goal.returns-clause-kind
returns-clause-kind g c =
    let still = kind_of-deeply_resolved _ _ c.requires.ready.table.now.sound c.requires.known in
    on_ok _ _ (λ r e. ap kind_of e ∙ closing_of-same_kind (mapped c.args.maps.now) c.deref.result.now 0 _ ∙ still) c.replace_placeholders.result c.replace_placeholders.ensures.tree
