use Rattle.nts_certainty.specs.declared.sources.GoalSource.TheVariants as source
use Rattle.nts_terms.proofs.Moved.{Holds-extended}
use Rattle.nts_meaning.specs.nts_search.specs.declared.kinds.CurrentGoalKind.TheVariants as kind
use Rattle.nts_meaning.proofs.Evaluating.{Knows-goes, Runs-trans}
use Rattle.nts_solver_relating.proofs.GoalsLeft.{if_ok, on_ok}
use Rattle.nts_adding.specs.Adding.{AddsEach}
use Rattle.nts_adding.specs.Rigid.{AddsRigidly}
use Rattle.nts_adding.proofs.Rigidly.{rigid_posed, new_later}
use Rattle.nts_adding.proofs.rigid.relate_rigid_alias.Goals as goal

pub goals_to_add-requires-clause-table : goal.goals_to_add-requires-clause-table
goals_to_add-requires-clause-table c = c.relate_rigid.ensures.runs.goes.table

pub goals_to_add-requires-clause-posed : goal.goals_to_add-requires-clause-posed
goals_to_add-requires-clause-posed c =
    let g = c.relate_rigid.ensures.runs.goes in
    let e = c.args.env.node in
    rw c.deref.ensures.value (rigid_posed c.args.cx.now.declarations c.args.cx.now.nodes c.args.table.now.entries c.args.alias c.args.term.node c.in_ok-goals.goals.items g.table (Holds-extended _ e g.extends c.requires.env) (rw (g.extends.kept e c.requires.env.within) (Knows-goes _ g c.requires.env_known)) c.in_ok-goals.ensures.related)

pub returns-clause-runs : goal.returns-clause-runs
returns-clause-runs c = Runs-trans c.relate_rigid.ensures.runs c.goals_to_add.ensures.runs

pub returns-clause-is : goal.returns-clause-is
returns-clause-is c =
    let r = c.in_ok-goals.ensures in
    let g = c.relate_rigid.ensures.runs.goes in
    on_ok c.goals_to_add.result (new_later c.args.cx.now.declarations c.args.cx.now.nodes c.args.table.now.entries c.args.alias c.args.term.node _ g.table c.goals_to_add.ensures.runs.goes (Knows-goes _ g c.requires.term.known) r.related r.is)

pub returns-clause-adds : goal.returns-clause-adds
returns-clause-adds c =
    let gs = c.in_ok-goals.goals.items in
    let adds = rw c.deref.ensures.value at c.goals_to_add.ensures.adds in
    if_ok c.goals_to_add.result (λ v. AddsEach c.relate_rigid.new.cx.nodes c.goals_to_add.new.cx.nodes c.relate_rigid.new.table.entries c.goals_to_add.new.table.entries kind.Misc source.TypeRelating gs v.items)
    (λ v. AddsRigidly c.args.cx.now c.goals_to_add.new.cx c.args.table.now.entries c.goals_to_add.new.table.entries c.args.env c.args.variance c.args.alias c.args.term.node v.items)
    (λ v h. record { goals = gs; store = c.relate_rigid.new.cx.nodes; entries = c.relate_rigid.new.table.entries; related = c.in_ok-goals.ensures.related; adds = h }) adds
