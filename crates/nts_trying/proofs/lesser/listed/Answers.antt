use Rattle.std.proofs.Common.{◌∙◌}
use Rattle.std.proofs.lemmas.List.{append_assoc}
use Rattle.nts_trying.specs.Aliasing.{normals}
use Rattle.nts_trying.proofs.lesser.listed.Goals as goal

pub returns : goal.returns
returns c = c.in_ok-push.ensures.items ∙ rw (c.in_ok-push_normal-2.ensures, c.in_ok-push_normal.ensures, c.in_ok-goals.ensures.items) (append_assoc (normals c.args.sub) (normals c.args.sup) _)
