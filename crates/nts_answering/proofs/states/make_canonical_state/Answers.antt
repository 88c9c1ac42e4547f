use Rattle.std.proofs.Common.{◌≡◌, [], ◌∙◌, ap, rules}
use Rattle.nts_model.specs.Tables.Resolving.{deeply_resolved}
use Rattle.nts_model.specs.Answers.Responses.{is_fixed, positioned, answer_kinds}
use Rattle.nts_unify.specs.Reading.{content_of}
use Rattle.nts_response.specs.nts_canonical.specs.Forms.{trees_of}
use Rattle.nts_response.specs.nts_canonical.specs.SubRoots.{sub_root_in}
use Rattle.nts_canonicalizer.proofs.Canonizing.{owned-seen}
use Rattle.nts_response.specs.States.{state_at}
use Rattle.nts_response.specs.StateTrees.{state_row, tree_of_state}
use Rattle.nts_answering.proofs.StateSteps.{made_state}
use Rattle.nts_answering.proofs.states.make_canonical_state.Goals as goal

pub answer_kinds-requires-clause-owned : goal.answer_kinds-requires-clause-owned
answer_kinds-requires-clause-owned g c =
    let b = c.resolve_value.new.cx.nodes in
    rw (c.as_slice.ensures, c.in_ok-state-2.ensures.leaves) (owned-seen b c.args.table.now.entries is_fixed [] (tree_of_state g.T.TypeFoldable.tree b c.in_ok-state.state) tt c.in_ok-state.ensures.knows)

pub returns-clause-state : goal.returns-clause-state
returns-clause-state g c =
    let a = c.args.cx.now.nodes in
    let b = c.resolve_value.new.cx.nodes in
    let e = c.args.table.now.entries in
    let content = content_of a e in
    let tree = g.T.TypeFoldable.tree in
    let row = tree_of_state tree b c.in_ok-state.state in
    let s = c.in_ok-state-2.leaves in
    let copied : c.in_ok-var_values.var_values.items ≡ c.args.var_values.now = search rules in
    let is : row ≡ deeply_resolved content (state_row (trees_of a c.args.var_values.now) (tree a c.args.payload)) = c.in_ok-state.ensures.tree ∙ ap (λ z. deeply_resolved content (state_row (trees_of a z) (tree a c.args.payload))) copied in
    let placed = c.in_ok-value.ensures.tree ∙ ap (positioned s) c.in_ok-state-2.ensures.tree in
    let kinds = c.in_ok-var_kinds.ensures a ∙ ap (answer_kinds content (sub_root_in e) c.args.max_input_universe) c.as_slice.ensures in
    made_state content (sub_root_in e) c.args.max_input_universe (trees_of a c.args.var_values.now) (tree a c.args.payload) row s
    (state_at tree c.position_value.new.cx.nodes (record { value = c.in_ok-value.value; max_universe = c.greatest-max_universe.result; var_kinds = c.in_ok-var_kinds.var_kinds }))
    is c.in_ok-state-2.ensures.leaves placed kinds (search rules)
