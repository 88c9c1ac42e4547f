use Rattle.std.proofs.Common.{arith, refl, sym, ap, ◌∙◌}
use Rattle.nts_store.specs.Growth.{tree_at}
use Rattle.nts_unify.specs.Reading.{content_of}
use Rattle.std.specs.Prelude.{ℕ}
use Rattle.nts_table.specs.Resolution.{resolution, resolution_of}
use Rattle.nts_store.proofs.Growing.{Extends-refl}
use Rattle.nts_unify.proofs.NodeLemmas.{if_ok}
use Rattle.nts_table.proofs.Walking.{ValueVariable, value_in, value_image, value_variable, value_step, value_goes_down, root_image, resolution-left}
use Rattle.nts_table.proofs.resolver.Resolver.+variable_step.Goals as goal

pub leaves-requires : goal.leaves-requires
leaves-requires t c =
    value_in c.args.nodes.now c.args.self.now.table.now _ _ _ c.requires.table c.in-Ok.ensures.value.1

pub returns-then-leaves-clause-step : goal.returns-then-leaves-clause-step
returns-then-leaves-clause-step t c =
    let nodes = c.args.nodes.now in
    let table = c.args.self.now.table.now in
    let regions = c.args.self.now.regions in
    let image = value_image nodes table c.args.kind c.args.n _ _ c.requires.table c.requires.has c.requires.no_region c.in-Ok.ensures.value.1 c.in-Ok.value refl regions in
    let left = resolution-left (resolution nodes table regions) (tree_at nodes c.in-Ok.value) (c.if-leaves.ensures refl) in (
      value_in nodes table _ _ _ c.requires.table c.in-Ok.ensures.value.1,
      left ∙ sym image
          ∙ ap (resolution_of (resolution nodes table regions)) (sym c.requires.variable),
    )

known : (t : ℕ) (c : goal.After-variable_step-arg-1 t) → ValueVariable (content_of c.args.nodes.now c.args.self.now.table.now.entries) c.args.kind c.in-Some.of_kind c.in-Some.m (tree_at c.args.nodes.now c.in-Ok.value)
known t c =
    value_variable c.args.nodes.now c.args.self.now.table.now c.args.kind c.args.n _ _ c.requires.table c.requires.has c.requires.no_region c.in-Ok.ensures.value.1 c.in-Ok.value refl c.label.result c.in-Some.of_kind c.in-Some.m c.label.ensures.is c.label.ensures.formed c.in-Some.ensures

pub label-requires : goal.label-requires
label-requires t c =
    value_in c.args.nodes.now c.args.self.now.table.now _ _ _ c.requires.table c.in-Ok.ensures.value.1

pub variable_step-requires : goal.variable_step-requires
variable_step-requires t c =
    let k = known t c in
    (omega (arith, k.lower, c.decreases), (value_in c.args.nodes.now c.args.self.now.table.now _ _ _ c.requires.table c.in-Ok.ensures.value.1, (c.requires.table, (k.has, (k.is, k.no_region)))))

pub returns-in-Some : goal.returns-in-Some
returns-in-Some t c =
    let nodes = c.args.nodes.now in
    let table = c.args.self.now.table.now in
    let regions = c.args.self.now.regions in
    let after = value_step nodes table c.args.kind c.args.n _ _ c.requires.table c.requires.has c.requires.no_region c.in-Ok.ensures.value.1 c.in-Ok.value refl regions c.variable_step.new.nodes in
    record {
      extends = c.variable_step.ensures.extends;
      step = rw c.requires.variable (if_ok c.variable_step.result after c.variable_step.ensures.step);
    }

pub returns-in-None : goal.returns-in-None
returns-in-None t c =
    let nodes = c.args.nodes.now in
    let table = c.args.self.now.table.now in
    let down = value_goes_down nodes table c.args.kind c.args.n _ _ c.requires.table c.requires.has c.requires.no_region c.in-Ok.ensures.value.1 c.in-Ok.value refl c.args.self.now.regions c.label.result c.label.ensures.is c.in-None.ensures in
    record {
      extends = Extends-refl nodes;
      step = rw c.requires.variable (value_in nodes table _ _ _ c.requires.table c.in-Ok.ensures.value.1, down);
    }

pub returns-in-Err : goal.returns-in-Err
returns-in-Err t c =
    let nodes = c.args.nodes.now in
    let table = c.args.self.now.table.now in
    let regions = c.args.self.now.regions in
    let image = root_image nodes table c.args.kind c.args.n _ _ c.requires.table c.requires.has c.requires.no_region c.in-Err.ensures.root regions refl in
    record {
      extends = c.make.ensures.extends;
      step = (
        c.in_ok-make-in-Err.ensures.within,
        c.in_ok-make-in-Err.ensures.tree ∙ image
            ∙ ap (resolution_of (resolution nodes table regions)) (sym c.requires.variable),
      );
    }
