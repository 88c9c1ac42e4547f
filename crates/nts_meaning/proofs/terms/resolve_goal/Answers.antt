use Rattle.std.proofs.Common.{ap, ◌∙◌}
use Rattle.nts_model.specs.Tables.Resolving.{deeply_resolved}
use Rattle.nts_store.specs.Growth.{tree_at}
use Rattle.nts_unify.specs.Reading.{content_of}
use Rattle.nts_unify.specs.Lawful.{content_of-extended}
use Rattle.nts_table.specs.TableLaws.{IsTable-extended}
use Rattle.nts_meaning.proofs.Evaluating.{Goes-extends, IsTermIn-later, goal_made, predicate_term, env_term}
use Rattle.nts_meaning.proofs.terms.resolve_goal.Goals as goal

pub resolve_term-requires-clause-term : goal.resolve_term-requires-clause-term
resolve_term-requires-clause-term c = env_term c.requires

pub resolve_term-requires-2-clause-term : goal.resolve_term-requires-2-clause-term
resolve_term-requires-2-clause-term c =
    IsTermIn-later (Goes-extends c.requires.table c.in_ok-env.ensures.grows.extends) (predicate_term c.requires)

pub resolve_term-requires-2-clause-table : goal.resolve_term-requires-2-clause-table
resolve_term-requires-2-clause-table c = IsTable-extended c.in_ok-env.ensures.grows.extends c.requires.table

pub returns-clause-posed : goal.returns-clause-posed
returns-clause-posed c =
    let env = c.in_ok-env.ensures in
    let predicate = c.in_ok-predicate.ensures in
    goal_made c.requires.table c.requires.holds env.grows.extends predicate.grows.extends env.term env.kind predicate.term predicate.kind

pub returns-clause-env : goal.returns-clause-env
returns-clause-env c =
    c.in_ok-predicate.ensures.grows.extends.kept _ c.in_ok-env.ensures.term.within ∙ c.in_ok-env.ensures.tree

pub returns-clause-predicate : goal.returns-clause-predicate
returns-clause-predicate c =
    let same = content_of-extended c.in_ok-env.ensures.grows.extends c.requires.table.now in
    let kept = c.in_ok-env.ensures.grows.extends.kept c.args.goal.predicate.node c.requires.holds.predicate.within in
    c.in_ok-predicate.ensures.tree ∙ ap (λ d. deeply_resolved d (tree_at c.resolve_term.new.cx.nodes c.args.goal.predicate.node)) same ∙ ap (deeply_resolved (content_of c.args.cx.now.nodes c.args.table.now.entries)) kept
