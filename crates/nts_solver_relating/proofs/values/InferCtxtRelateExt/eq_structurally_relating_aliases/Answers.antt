use Rattle.std.proofs.Common.{refl, rules}
use Rattle.nts_unify.proofs.Keeping.{IsLater-refl}
use Rattle.nts_solver_relating.proofs.values.InferCtxtRelateExt.eq_structurally_relating_aliases.Goals as goal

-- nothing was done
pub returns-then-ne-clause-keeps : goal.returns-then-ne-clause-keeps
returns-then-ne-clause-keeps g c =
    record { grows = search rules; table = c.requires.table; later = IsLater-refl _; saved = refl; mode = refl; universe = refl; hidden = refl }
