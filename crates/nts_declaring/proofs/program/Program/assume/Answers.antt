use Rattle.std.proofs.Common.{refl}
use Rattle.nts_declaring.proofs.program.Program.assume.Goals as goal

pub returns-clause-assumed : goal.returns-clause-assumed
returns-clause-assumed c = (c.in_ok-env.env, refl, c.in_ok-env.ensures.says)
