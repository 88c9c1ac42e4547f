use Rattle.std.proofs.Common.{◌≡◌, true, rules}
use Rattle.nts_store.specs.Growth.{tree_at}
use Rattle.nts_evaluation_vectors.proofs.Declared.{is_below}
use Rattle.nts_evaluation_vectors.proofs.own.objects_of.Goals as goal

pub mk_predicate-requires-clause-declared : goal.mk_predicate-requires-clause-declared
mk_predicate-requires-clause-declared c = is_below c.mk_bound_vars.new.self.declarations.traits c.in_ok-of.of.def_id.number (tree_at c.mk_bound_vars.new.self.nodes c.in_ok-of.of.args.node) (c.fits.ensures.0 (let h : c.fits.result ≡ true = search rules in h))
