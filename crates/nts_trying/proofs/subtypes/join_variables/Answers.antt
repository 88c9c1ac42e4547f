use Rattle.nts_unify.specs.Reading.{content_of}
use Rattle.nts_table.specs.TableLaws.{IsTable-extended}
use Rattle.nts_meaning.proofs.Evaluating.{Runs-extends, Runs-trans}
use Rattle.nts_terms.proofs.Moved.{KeepsRest-refl}
use Rattle.nts_trying.proofs.JoinedTypes.{join_goes, variable_within}
use Rattle.nts_trying.proofs.RelatedTypes.{known_types}
use Rattle.nts_trying.proofs.subtypes.join_variables.Goals as goal

pub returns-in_err-a-clause-runs : goal.returns-in_err-a-clause-runs
returns-in_err-a-clause-runs c = Runs-extends c.requires.posed.table c.variables_of.ensures.grows.extends c.variables_of.ensures.grows.rest

pub returns-in_default-clause-runs : goal.returns-in_default-clause-runs
returns-in_default-clause-runs c = Runs-extends c.requires.posed.table c.variables_of.ensures.grows.extends c.variables_of.ensures.grows.rest

pub sub_unify_ty_vids_raw-requires-clause-within_a : goal.sub_unify_ty_vids_raw-requires-clause-within_a
sub_unify_ty_vids_raw-requires-clause-within_a c =
    let i = c.requires.types.is in
    let known = known_types i.says (content_of c.args.cx.now.nodes c.args.table.now.entries) c.requires.posed.knows.predicate in
    variable_within c.args.cx.now.nodes c.args.table.now _ c.in-Some.a c.requires.posed.table known.0 (rw c.in-Some.is at c.in_ok-a.ensures.variables).0

pub sub_unify_ty_vids_raw-requires-clause-within_b : goal.sub_unify_ty_vids_raw-requires-clause-within_b
sub_unify_ty_vids_raw-requires-clause-within_b c =
    let i = c.requires.types.is in
    let known = known_types i.says (content_of c.args.cx.now.nodes c.args.table.now.entries) c.requires.posed.knows.predicate in
    variable_within c.args.cx.now.nodes c.args.table.now _ c.in-Some.b c.requires.posed.table known.1 (rw c.in-Some.is at c.in_ok-a.ensures.variables).1

pub returns-in_err-sub_unify_ty_vids_raw-clause-runs : goal.returns-in_err-sub_unify_ty_vids_raw-clause-runs
returns-in_err-sub_unify_ty_vids_raw-clause-runs c =
    rw c.in_err-sub_unify_ty_vids_raw.ensures.err (Runs-extends c.requires.posed.table c.variables_of.ensures.grows.extends c.variables_of.ensures.grows.rest)

pub returns-clause-runs : goal.returns-clause-runs
returns-clause-runs c =
    let up = c.variables_of.ensures.grows in
    let w = c.requires.posed.table in
    let there = IsTable-extended up.extends w in
    let us = c.variables_of.new.cx.nodes in
    let z = c.sub_unify_ty_vids_raw.ensures in
    Runs-trans (Runs-extends w up.extends up.rest)
    (record { goes = join_goes us c.args.table.now c.sub_unify_ty_vids_raw.new.self c.in-Some.a c.in-Some.b there (z.table us there) z.changes c.in_ok-sub_unify_ty_vids_raw.ensures.joined; rest = KeepsRest-refl _ })
