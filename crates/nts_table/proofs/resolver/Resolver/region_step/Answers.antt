use Rattle.std.proofs.Common.{sym, ap, ◌∙◌}
use Rattle.nts_model.specs.declared.labels.VariableKind.TheVariants as kind
use Rattle.nts_model.specs.Terms.Trees.{variable_tree}
use Rattle.nts_unify.specs.Reading.{content_of}
use Rattle.nts_table.specs.Resolution.{resolution, resolution_of}
use Rattle.nts_unify.proofs.Leading.{kind_within, IsRoot-content}
use Rattle.nts_table.proofs.Walking.{region_stays, region_root}
use Rattle.nts_table.proofs.resolver.Resolver.region_step.Goals as goal

pub returns-then-not-self-clause-step : goal.returns-then-not-self-clause-step
returns-then-not-self-clause-step c =
    let content = content_of c.args.nodes.now c.args.self.now.table.now.entries in (
      c.requires.within,
      c.requires.variable ∙ region_stays content c.args.self.now.regions c.args.n c.if-not-self.true
          ∙ ap (resolution_of (resolution c.args.nodes.now c.args.self.now.table.now c.args.self.now.regions)) (sym c.requires.variable),
    )

pub root-root-requires-clause-within : goal.root-root-requires-clause-within
root-root-requires-clause-within c =
    kind_within c.args.nodes.now c.args.self.now.table.now.entries c.args.n kind.Region c.requires.has

pub returns-clause-step : goal.returns-clause-step
returns-clause-step c =
    let table = c.args.self.now.table.now in
    let content = content_of c.args.nodes.now table.entries in
    let is = IsRoot-content c.args.nodes.now table.entries c.args.n c.root-root.result c.requires.table.now.sound.descends c.root-root.ensures in
    let image = region_root content c.args.self.now.regions c.args.n c.if-not-self.false in (
      c.in_ok-make.ensures.within,
      c.in_ok-make.ensures.tree ∙ ap (variable_tree kind.Region) (sym is) ∙ sym image
          ∙ ap (resolution_of (resolution c.args.nodes.now table c.args.self.now.regions)) (sym c.requires.variable),
    )
