use Rattle.std.proofs.Common.{◌≡◌}
use Rattle.std.proofs.lemmas.Result.{IfOk-weaker}
use Rattle.nts_store.proofs.Growing.{Extends-trans}
use Rattle.nts_unify.specs.Reading.{content_of}
use Rattle.nts_unify.specs.Lawful.{content_of-extended}
use Rattle.nts_table.specs.TableLaws.{IsTable-extended}
use Rattle.nts_canonical.specs.Forms.{trees_of}
use Rattle.nts_canonical.specs.SubRoots.{sub_root_in}
use Rattle.nts_model.specs.Answers.Responses.{response_of}
use Rattle.nts_response.specs.Forms.{response_at, findings_at}
use Rattle.nts_response.specs.declared.types.Response.{Response}
use Rattle.nts_theory.specs.Telling.{IsResponseOf}
use Rattle.nts_meaning.specs.Answering.{told_in}
use Rattle.nts_meaning.proofs.Told.{knows_findings, answers_told}
use Rattle.nts_meaning.proofs.response.make_response.Goals as goal
use Rattle.nts_meaning.proofs.SubClasses.{root_classes}

pub told_constraints-requires : goal.told_constraints-requires
told_constraints-requires c = record { table = IsTable-extended c.in_ok-var_values.ensures.grows.extends c.requires.table }

pub canonicalize_response-requires-clause-table : goal.canonicalize_response-requires-clause-table
canonicalize_response-requires-clause-table c = IsTable-extended (Extends-trans c.in_ok-var_values.ensures.grows.extends c.in_ok-region_constraints.ensures.grows.extends) c.requires.table

pub canonicalize_response-requires-clause-knows : goal.canonicalize_response-requires-clause-knows
canonicalize_response-requires-clause-knows c =
    let values = c.in_ok-var_values.ensures in
    let found = c.in_ok-region_constraints.ensures in
    let table = IsTable-extended values.grows.extends c.requires.table in
    let x : Response = record { certainty = c.args.certainty; var_values = c.in_ok-var_values.var_values; external_constraints = record { region_constraints = c.in_ok-region_constraints.region_constraints; opaque_types = c.new.result; normalization_nested_goals = c.new-2.result } } in
    knows_findings c.resolved_values.new.cx.nodes c.told_constraints.new.cx.nodes c.args.table.now.entries x found.grows.extends (content_of-extended found.grows.extends table.now) values.args found.known c.new.ensures.items c.new-2.ensures.items

pub returns-clause-says : goal.returns-clause-says
returns-clause-says c =
    let values = c.in_ok-var_values.ensures in
    let found = c.in_ok-region_constraints.ensures in
    let e = c.args.table.now.entries in
    let a = c.args.cx.now.nodes in
    let d = c.told_constraints.new.cx.nodes in
    let x : Response = record { certainty = c.args.certainty; var_values = c.in_ok-var_values.var_values; external_constraints = record { region_constraints = c.in_ok-region_constraints.region_constraints; opaque_types = c.new.result; normalization_nested_goals = c.new-2.result } } in
    IfOk-weaker c.canonicalize_response.result
    (λ r. response_at c.canonicalize_response.new.cx.nodes r ≡ response_of (content_of d e) (sub_root_in e) 0 (findings_at d x))
    (λ r. IsResponseOf (told_in c.args.certainty (content_of a e)) (trees_of a c.args.values.now) (response_at c.canonicalize_response.new.cx.nodes r))
    (λ r is. answers_told a c.resolved_values.new.cx.nodes d e c.args.certainty (sub_root_in e) (trees_of a c.args.values.now) x (response_at c.canonicalize_response.new.cx.nodes r) (root_classes a e c.requires.table.now.descends) c.requires.table.now values.grows.extends found.grows.extends values.args values.trees found.told c.new.ensures.items c.new-2.ensures.items is)
    c.canonicalize_response.ensures.response
