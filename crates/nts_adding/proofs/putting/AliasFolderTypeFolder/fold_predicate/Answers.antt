use Rattle.std.proofs.Common.{sym, ap, ◌∙◌}
use Rattle.nts_store.specs.declared.type_flags.TypeFlags.{TypeFlags}
use Rattle.nts_adding.specs.Putting.{plain, goes_on}
use Rattle.nts_adding.proofs.Loose.{no_predicate}
use Rattle.nts_adding.proofs.putting.AliasFolderTypeFolder.fold_predicate.Goals as goal

pub returns-then-flags-clause-answers : goal.returns-then-flags-clause-answers
returns-then-flags-clause-answers c = goes_on (no_predicate _ c.requires.holds.fits)

pub returns-clause-answers : goal.returns-clause-answers
returns-clause-answers c = plain (sym (ap (λ (f : TypeFlags). f.has_alias) c.flags.ensures) ∙ c.if-flags.false)
