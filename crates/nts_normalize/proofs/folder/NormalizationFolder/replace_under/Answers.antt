use Rattle.std.proofs.Common.{ap}
use Rattle.nts_model.specs.Terms.Trees.{kind_of}
use Rattle.nts_folding.proofs.Folded.{on_same_err}
use Rattle.nts_normalize.proofs.Asked.{not_opened, errors_asked, replaced_opened, kinds_opened}
use Rattle.nts_normalize.proofs.Stepping.{FolderGoes-trans}
use Rattle.nts_normalize.proofs.folder.NormalizationFolder.replace_under.Goals as goal

pub returns-clause-goes : goal.returns-clause-goes
returns-clause-goes g c = FolderGoes-trans c.open.ensures.goes c.replace_opened.ensures.goes

pub returns-clause-kind : goal.returns-clause-kind
returns-clause-kind g c =
    kinds_opened c.replace_opened.result _ _ _ (ap kind_of (c.open.ensures.goes.grows.extends.kept c.args.t.node c.requires.holds.within)) c.replace_opened.ensures.kind

pub returns-clause-replaced : goal.returns-clause-replaced
returns-clause-replaced g c =
    replaced_opened g.F.FnMut _ _ _ _ _ _ c.replace_opened.result _ _ c.requires.open c.requires.listed c.in_ok-alias.ensures.opens
    (c.open.ensures.goes.grows.extends.kept c.args.t.node c.requires.holds.within) c.replace_opened.ensures.ends

pub returns-clause-err : goal.returns-clause-err
returns-clause-err g c = errors_asked g.F.FnMut _ _ _ _ _ c.replace_opened.result c.requires.open c.requires.listed c.in_ok-alias.ensures.opens c.replace_opened.ensures.err

pub returns-in_err-alias-clause-err : goal.returns-in_err-alias-clause-err
returns-in_err-alias-clause-err g c =
    on_same_err _ _ _ c.from_residual.ensures.1 (not_opened g.F.FnMut _ _ _ c.requires.open c.requires.listed c.in_err-alias.ensures.err)
