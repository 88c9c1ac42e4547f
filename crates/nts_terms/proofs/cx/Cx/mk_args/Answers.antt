use Rattle.nts_terms.proofs.Standing.{args_stand}
use Rattle.nts_terms.proofs.cx.Cx.mk_args.Goals as goal

pub make-requires-clause-within : goal.make-requires-clause-within
make-requires-clause-within c =
    rw (c.deref.ensures.value, c.in_ok-children.ensures) (args_stand c.args.self.now.nodes c.args.args.now c.requires).within
