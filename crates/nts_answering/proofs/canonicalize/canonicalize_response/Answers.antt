use Rattle.std.proofs.Common.{◌∙◌, ap, [], rules}
use Rattle.nts_model.specs.Answers.Responses.{is_fixed, row_of, answer_kinds}
use Rattle.nts_unify.specs.Reading.{content_of}
use Rattle.nts_response.specs.nts_canonical.specs.SubRoots.{sub_root_in}
use Rattle.nts_canonicalizer.proofs.Canonizing.{owned-seen}
use Rattle.nts_response.specs.Forms.{findings_at}
use Rattle.nts_answering.proofs.Found.{made_response}
use Rattle.nts_answering.proofs.canonicalize.canonicalize_response.Goals as goal

pub answer_kinds-requires-clause-owned : goal.answer_kinds-requires-clause-owned
answer_kinds-requires-clause-owned c =
    let x = findings_at c.args.cx.now.nodes c.args.value in
    rw (c.as_slice.ensures, c.in_ok-leaves.ensures) (owned-seen c.args.cx.now.nodes c.args.table.now.entries is_fixed [] (row_of x) tt c.requires.knows.trees)

pub returns-clause-response : goal.returns-clause-response
returns-clause-response c =
    let ts = c.args.cx.now.nodes in
    let e = c.args.table.now.entries in
    let x = findings_at ts c.args.value in
    let kinds = c.in_ok-var_kinds.ensures ts ∙ ap (answer_kinds (content_of ts e) (sub_root_in e) c.args.max_input_universe) c.as_slice.ensures in
    made_response c.numbered_response.new.nodes (record { value = c.in_ok-value.value; max_universe = c.greatest-max_universe.result; var_kinds = c.in_ok-var_kinds.var_kinds }) (content_of ts e) (sub_root_in e) c.args.max_input_universe x c.in_ok-leaves.leaves c.in_ok-leaves.ensures c.in_ok-value.ensures.findings kinds (search rules)
