use Rattle.std.proofs.Common.{◌∙◌, Err, ap, refl, sym}
use Rattle.nts_table.specs.TableLaws.{IsTable-extended}
use Rattle.nts_folding.proofs.Folded.{on_err}
use Rattle.nts_normalize.proofs.Asked.{of_fault}
use Rattle.nts_normalize.proofs.Stepping.{FolderGoes-changed, fills}
use Rattle.nts_normalize.proofs.folder.NormalizationFolder.open.Goals as goal

pub returns-in_err-opened-clause-goes : goal.returns-in_err-opened-clause-goes
returns-in_err-opened-clause-goes g c =
    let did = c.replace_bound_vars.ensures in
    FolderGoes-changed c.requires.ready did.grows (did.table _ (IsTable-extended did.grows.extends c.requires.ready.table)) did.changes refl

pub returns-clause-goes : goal.returns-clause-goes
returns-clause-goes g c =
    let did = c.replace_bound_vars.ensures in
    FolderGoes-changed c.requires.ready did.grows (did.table _ (IsTable-extended did.grows.extends c.requires.ready.table)) did.changes refl

pub returns-clause-opens : goal.returns-clause-opens
returns-clause-opens g c =
    let did = c.in_ok-opened.ensures in
    record {
      fills = fills c.args.self.now (record c.args.self.now { table = c.replace_bound_vars.new.table; universes = c.replace_bound_vars.new.universe_indices }) _ c.requires.ready did.grows.extends did.universes refl refl;
      are_maps = did.maps;
      tree = sym c.in-Some.ensures.alias ∙ did.tree;
    }

pub returns-in_err-opened-clause-err : goal.returns-in_err-opened-clause-err
returns-in_err-opened-clause-err g c =
    on_err _ _ _ c.from_residual.ensures.1 (λ e q. of_fault _ _ e q (λ h. c.in_err-opened.ensures.full (ap Err h)))
