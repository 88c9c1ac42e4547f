use Rattle.std.proofs.Common.{rules, ◌≡◌, arith}
use Rattle.std.proofs.lemmas.Grind.{common_steps}
use Rattle.nts_model.specs.Derivations.Related.{unbound}
use Rattle.nts_store.specs.Growth.{tree_at}
use Rattle.nts_store.proofs.Growing.{Extends-trans}
use Rattle.nts_unify.specs.Reading.{content_of}
use Rattle.nts_unify.specs.Lawful.{content_of-extended}
use Rattle.nts_trying.proofs.Entering.{knows_unbound}
use Rattle.nts_trying.proofs.binder.without_binder.Goals as goal

pub returns-clause-knows : goal.returns-clause-knows
returns-clause-knows c =
    let says : tree_at c.make.new.self c.in_ok-node.node ≡ unbound (tree_at c.args.cx.now.nodes c.args.statement.node) = first_of (search rules, grind (arith, common_steps)) in
    let same = content_of-extended (Extends-trans c.in_ok-vars.ensures.grows.extends c.in_ok-node.ensures.extends) c.requires.table.now in
    rw (same, says) (knows_unbound (content_of c.args.cx.now.nodes c.args.table.now.entries) (tree_at c.args.cx.now.nodes c.args.statement.node) c.requires.closed c.requires.knows)
