use Rattle.std.proofs.Common.{Err, inl, inr, ap}
use Rattle.nts_text.specs.Binders.{nothing_bound}
use Rattle.nts_text.proofs.FaultLemmas.{unknown_on, twice_on, rigid_on}
use Rattle.nts_text.proofs.SpellingLemmas.{meanings-later}
use Rattle.nts_text.proofs.commands.clause_meaning.Goals as goal

-- what the head means stays where the body names more variables
pub returns-clause-means : goal.returns-clause-means
returns-clause-means c = (
  meanings-later c.args.names.now c.resolve_nodes.new.scope c.resolve_nodes-2.new.scope c.args.line.now nothing_bound c.args.head.now c.in_ok-first.first.items c.in_ok-rest.ensures.kept c.in_ok-first.ensures.means,
  c.in_ok-rest.ensures.means,
)

-- a node of the head that is at fault
pub returns-in_err-first-clause-unknown : goal.returns-in_err-first-clause-unknown
returns-in_err-first-clause-unknown c = unknown_on c.from_residual.result c.in_err-first.field-0.0 _ c.from_residual.ensures.1 (λ is. inl (c.in_err-first.ensures.unknown (ap Err is)))

pub returns-in_err-first-clause-twice : goal.returns-in_err-first-clause-twice
returns-in_err-first-clause-twice c = twice_on c.from_residual.result c.in_err-first.field-0.0 _ c.from_residual.ensures.1 (λ is. inl (c.in_err-first.ensures.twice (ap Err is)))

pub returns-in_err-first-clause-rigid : goal.returns-in_err-first-clause-rigid
returns-in_err-first-clause-rigid c = rigid_on c.from_residual.result c.in_err-first.field-0.0 _ c.from_residual.ensures.1 (λ is. inl (c.in_err-first.ensures.rigid (ap Err is)))

-- .. or of the body
pub returns-in_err-rest-clause-unknown : goal.returns-in_err-rest-clause-unknown
returns-in_err-rest-clause-unknown c = unknown_on c.from_residual-in_err-rest.result c.in_err-rest.field-0.0 _ c.from_residual-in_err-rest.ensures.1 (λ is. inr (c.in_err-rest.ensures.unknown (ap Err is)))

pub returns-in_err-rest-clause-twice : goal.returns-in_err-rest-clause-twice
returns-in_err-rest-clause-twice c = twice_on c.from_residual-in_err-rest.result c.in_err-rest.field-0.0 _ c.from_residual-in_err-rest.ensures.1 (λ is. inr (c.in_err-rest.ensures.twice (ap Err is)))

pub returns-in_err-rest-clause-rigid : goal.returns-in_err-rest-clause-rigid
returns-in_err-rest-clause-rigid c = rigid_on c.from_residual-in_err-rest.result c.in_err-rest.field-0.0 _ c.from_residual-in_err-rest.ensures.1 (λ is. inr (c.in_err-rest.ensures.rigid (ap Err is)))
