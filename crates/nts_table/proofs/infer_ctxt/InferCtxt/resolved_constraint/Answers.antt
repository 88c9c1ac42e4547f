use Rattle.std.proofs.Common.{◌≡◌, ap, ◌∙◌}
use Rattle.nts_store.proofs.Growing.{IsIn-extended}
use Rattle.nts_unify.specs.declared.contents.Constraint.{Constraint}
use Rattle.nts_unify.specs.Reading.{content_of, recorded_of}
use Rattle.nts_unify.specs.Lawful.{content_of-extended}
use Rattle.nts_table.specs.TableLaws.{IsTable-extended}
use Rattle.nts_model.specs.Tables.Recording.{resolved_constraint}
use Rattle.nts_table.proofs.Telling.{constraint_at, resolved_sides, ResolvedSides}
use Rattle.nts_table.proofs.infer_ctxt.InferCtxt.resolved_constraint.Goals as goal

pub resolve_nodes-requires-clause-within : goal.resolve_nodes-requires-clause-within
resolve_nodes-requires-clause-within c = (constraint_at _ _ _ _ _ c.requires.table.now.constraints c.constraint-constraint.ensures).left_in

pub resolve_nodes-requires-clause-knows : goal.resolve_nodes-requires-clause-knows
resolve_nodes-requires-clause-knows c = (constraint_at _ _ _ _ _ c.requires.table.now.constraints c.constraint-constraint.ensures).left_known

pub resolve_nodes-requires-2-clause-within : goal.resolve_nodes-requires-2-clause-within
resolve_nodes-requires-2-clause-within c =
    IsIn-extended c.resolve_nodes.ensures.extends c.constraint-constraint.result.right (constraint_at _ _ _ _ _ c.requires.table.now.constraints c.constraint-constraint.ensures).right_in

pub resolve_nodes-requires-2-clause-table : goal.resolve_nodes-requires-2-clause-table
resolve_nodes-requires-2-clause-table c = IsTable-extended c.resolve_nodes.ensures.extends c.requires.table

pub resolve_nodes-requires-2-clause-knows : goal.resolve_nodes-requires-2-clause-knows
resolve_nodes-requires-2-clause-knows c =
    let up = c.resolve_nodes.ensures.extends in
    let same = content_of-extended up c.requires.table.now in
    rw (same, up.kept c.constraint-constraint.result.right (constraint_at _ _ _ _ _ c.requires.table.now.constraints c.constraint-constraint.ensures).right_in) (constraint_at _ _ _ _ _ c.requires.table.now.constraints c.constraint-constraint.ensures).right_known

both : (c : goal.In_ok-right) → ResolvedSides c.args.cx.now.nodes c.resolve_nodes-2.new.nodes c.args.self.now.entries c.constraint-constraint.result (record c.constraint-constraint.result { left = c.in_ok-left.left; right = c.in_ok-right.right })
both c =
    resolved_sides c.args.cx.now.nodes c.resolve_nodes.new.nodes c.resolve_nodes-2.new.nodes c.args.self.now.entries c.constraint-constraint.result c.in_ok-left.left c.in_ok-right.right c.requires.table.now (constraint_at _ _ _ _ _ c.requires.table.now.constraints c.constraint-constraint.ensures) c.resolve_nodes.ensures.extends c.resolve_nodes-2.ensures.extends c.in_ok-left.ensures.within c.in_ok-left.ensures.tree c.in_ok-right.ensures.within c.in_ok-right.ensures.tree

pub returns-clause-resolved : goal.returns-clause-resolved
returns-clause-resolved c =
    λ x e. let same : c.constraint-constraint.result ≡ x = cc (e, c.constraint-constraint.ensures) in (both c).recorded ∙ ap (λ (y : Constraint). resolved_constraint (content_of c.args.cx.now.nodes c.args.self.now.entries) (recorded_of c.args.cx.now.nodes y)) same

pub returns-clause-sides : goal.returns-clause-sides
returns-clause-sides c = (both c).sides
