use Rattle.nts_terms.proofs.Standing.{predicates_stand}
use Rattle.nts_terms.proofs.cx.Cx.mk_env.Goals as goal

pub make-requires-clause-within : goal.make-requires-clause-within
make-requires-clause-within c =
    rw (c.deref.ensures.value, c.in_ok-children.ensures) (predicates_stand c.args.self.now.nodes c.args.predicates.now c.requires).within
