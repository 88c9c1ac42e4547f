use Rattle.std.proofs.Common.{◌∙◌, sym, true}
use Rattle.nts_model.specs.Tables.Equations.{AreRelated}
use Rattle.nts_store.specs.Growth.{tree_at}
use Rattle.nts_unify.specs.Reading.{content_of}
use Rattle.nts_model.proofs.Tables.Bringing.{brings-turned}
use Rattle.nts_relating.proofs.MetPairs.{memo_done, memo_variables}
use Rattle.nts_relating.proofs.PairLemmas.{Stepped, last_pair, set_left, set_right, set_brings, set_plain, step_set, step_variables, err_of}
use Rattle.nts_unify.proofs.NodeLemmas.{if_ok}
use Rattle.nts_relating.proofs.RefusalLemmas.{refuse_pair}
use Rattle.nts_relating.proofs.relate.step.Goals as goal
use Rattle.nts_relating.proofs.relate.step.Goals.{In-Ok, In-Ok-bind}

pub head_of-left-requires-clause-within : goal.head_of-left-requires-clause-within
head_of-left-requires-clause-within c = (last_pair c.args.nodes.now c.args.table.now.entries c.args.pairs.now.items c.args.pair c.requires.valid).left_in

pub head_of-left-requires-clause-knows : goal.head_of-left-requires-clause-knows
head_of-left-requires-clause-knows c = (last_pair c.args.nodes.now c.args.table.now.entries c.args.pairs.now.items c.args.pair c.requires.valid).left_known

pub head_of-right-requires-clause-within : goal.head_of-right-requires-clause-within
head_of-right-requires-clause-within c = (last_pair c.args.nodes.now c.args.table.now.entries c.args.pairs.now.items c.args.pair c.requires.valid).right_in

pub head_of-right-requires-clause-knows : goal.head_of-right-requires-clause-knows
head_of-right-requires-clause-knows c = (last_pair c.args.nodes.now c.args.table.now.entries c.args.pairs.now.items c.args.pair c.requires.valid).right_known

pub returns-in-Open-right-clause-valid : goal.returns-in-Open-right-clause-valid
returns-in-Open-right-clause-valid c =
    if_ok c.relate_variables.result (λ bound r. (step_variables c.args.nodes.now c.relate_variables.new.nodes c.args.table.now.entries c.relate_variables.new.table.entries c.args.pairs.now.items c.args.pair c.in-Open.x c.in-Open-right.y bound c.requires.valid c.relate_variables.ensures.extends c.in-Open.ensures c.in-Open-right.ensures r).valid) c.relate_variables.ensures.related

pub returns-in-Open-right-clause-step : goal.returns-in-Open-right-clause-step
returns-in-Open-right-clause-step c =
    if_ok c.relate_variables.result (λ bound r. (step_variables c.args.nodes.now c.relate_variables.new.nodes c.args.table.now.entries c.relate_variables.new.table.entries c.args.pairs.now.items c.args.pair c.in-Open.x c.in-Open-right.y bound c.requires.valid c.relate_variables.ensures.extends c.in-Open.ensures c.in-Open-right.ensures r).step) c.relate_variables.ensures.related

pub returns-in-Open-right-clause-memo : goal.returns-in-Open-right-clause-memo
returns-in-Open-right-clause-memo c =
    if_ok c.relate_variables.result (λ bound r. memo_variables c.args.nodes.now c.relate_variables.new.nodes c.args.table.now.entries c.relate_variables.new.table.entries c.args.pairs.now.items c.args.met.now.keys c.args.pair c.in-Open.x c.in-Open-right.y bound c.requires.valid c.relate_variables.ensures.extends c.in-Open.ensures c.in-Open-right.ensures r c.requires.memo) c.relate_variables.ensures.related

-- a value for the left side
left_related : (c : In-Ok) → AreRelated (content_of c.args.nodes.now c.args.table.now.entries) (content_of c.bind.new.nodes c.bind.new.table.entries) (tree_at c.args.nodes.now c.args.pair.left) (tree_at c.args.nodes.now c.args.pair.right)
left_related c =
    let l = last_pair c.args.nodes.now c.args.table.now.entries c.args.pairs.now.items c.args.pair c.requires.valid in
    set_left c.args.nodes.now c.bind.new.nodes c.args.table.now.entries c.bind.new.table.entries c.args.pair c.in-Open.x _ c.requires.valid.lawful c.in-Ok.ensures.lawful l.left_known l.right_known c.in-Open.ensures c.in-Closed-right.ensures.1 c.in-Ok.ensures.set

left_set : (c : In-Ok) → Stepped c.args.nodes.now c.bind.new.nodes c.args.table.now.entries c.bind.new.table.entries c.args.pairs.now.items c.args.pairs.now.items c.args.pair true
left_set c =
    step_set c.args.nodes.now c.bind.new.nodes c.args.table.now.entries c.bind.new.table.entries c.args.pairs.now.items c.args.pair c.requires.valid c.in-Ok.ensures.extends c.in-Ok.ensures.lawful c.in-Ok.ensures.set.later c.in-Ok.ensures.set.fewer (left_related c) (set_brings c.in-Closed-right.ensures.1 c.in-Ok.ensures.set) (λ a b. set_plain c.in-Closed-right.ensures.1 c.in-Ok.ensures.set b) c.in-Ok.ensures.set.ties

pub returns-in-Ok-clause-valid : goal.returns-in-Ok-clause-valid
returns-in-Ok-clause-valid c = (left_set c).valid

pub returns-in-Ok-clause-step : goal.returns-in-Ok-clause-step
returns-in-Ok-clause-step c = (left_set c).step

pub returns-in-Ok-clause-memo : goal.returns-in-Ok-clause-memo
returns-in-Ok-clause-memo c =
    memo_done c.args.nodes.now c.bind.new.nodes c.args.table.now.entries c.bind.new.table.entries c.args.pairs.now.items c.args.met.now.keys c.args.pair c.requires.valid c.in-Ok.ensures.extends c.in-Ok.ensures.lawful c.in-Ok.ensures.set.later (left_related c) c.requires.memo

-- .. and for the right side
right_related : (c : In-Ok-bind) → AreRelated (content_of c.args.nodes.now c.args.table.now.entries) (content_of c.bind-in-Open-right-2.new.nodes c.bind-in-Open-right-2.new.table.entries) (tree_at c.args.nodes.now c.args.pair.left) (tree_at c.args.nodes.now c.args.pair.right)
right_related c =
    let l = last_pair c.args.nodes.now c.args.table.now.entries c.args.pairs.now.items c.args.pair c.requires.valid in
    set_right c.args.nodes.now c.bind-in-Open-right-2.new.nodes c.args.table.now.entries c.bind-in-Open-right-2.new.table.entries c.args.pair c.in-Open-right-2.y _ c.requires.valid.lawful c.in-Ok-bind.ensures.lawful l.left_known l.right_known c.in-Open-right-2.ensures c.in-Closed.ensures.1 c.in-Ok-bind.ensures.set

right_set : (c : In-Ok-bind) → Stepped c.args.nodes.now c.bind-in-Open-right-2.new.nodes c.args.table.now.entries c.bind-in-Open-right-2.new.table.entries c.args.pairs.now.items c.args.pairs.now.items c.args.pair true
right_set c =
    step_set c.args.nodes.now c.bind-in-Open-right-2.new.nodes c.args.table.now.entries c.bind-in-Open-right-2.new.table.entries c.args.pairs.now.items c.args.pair c.requires.valid c.in-Ok-bind.ensures.extends c.in-Ok-bind.ensures.lawful c.in-Ok-bind.ensures.set.later c.in-Ok-bind.ensures.set.fewer (right_related c) (brings-turned (set_brings c.in-Closed.ensures.1 c.in-Ok-bind.ensures.set)) (λ a b. set_plain c.in-Closed.ensures.1 c.in-Ok-bind.ensures.set a) c.in-Ok-bind.ensures.set.ties

pub returns-in-Ok-bind-clause-valid : goal.returns-in-Ok-bind-clause-valid
returns-in-Ok-bind-clause-valid c = (right_set c).valid

pub returns-in-Ok-bind-clause-step : goal.returns-in-Ok-bind-clause-step
returns-in-Ok-bind-clause-step c = (right_set c).step

pub returns-in-Ok-bind-clause-memo : goal.returns-in-Ok-bind-clause-memo
returns-in-Ok-bind-clause-memo c =
    memo_done c.args.nodes.now c.bind-in-Open-right-2.new.nodes c.args.table.now.entries c.bind-in-Open-right-2.new.table.entries c.args.pairs.now.items c.args.met.now.keys c.args.pair c.requires.valid c.in-Ok-bind.ensures.extends c.in-Ok-bind.ensures.lawful c.in-Ok-bind.ensures.set.later (right_related c) c.requires.memo

pub returns-in-Open-right-clause-no : goal.returns-in-Open-right-clause-no
returns-in-Open-right-clause-no c = λ q.
    refuse_pair c.args.nodes.now c.args.table.now.entries c.args.pairs.now.items c.args.pair (λ w z e. (c.relate_variables.ensures.no q).none w z (sym (c.in-Open.ensures.worlds w z) ∙ e ∙ c.in-Open-right.ensures.worlds w z))

pub returns-in-Err-clause-no : goal.returns-in-Err-clause-no
returns-in-Err-clause-no c = λ q.
    refuse_pair c.args.nodes.now c.args.table.now.entries c.args.pairs.now.items c.args.pair (λ w z e. (c.in-Err.ensures.no (err_of _ _ q)).none w z (sym (c.in-Open.ensures.worlds w z) ∙ e ∙ c.in-Closed-right.ensures.1.worlds w z))

pub returns-in-Err-bind-clause-no : goal.returns-in-Err-bind-clause-no
returns-in-Err-bind-clause-no c = λ q.
    refuse_pair c.args.nodes.now c.args.table.now.entries c.args.pairs.now.items c.args.pair (λ w z e. (c.in-Err-bind.ensures.no (err_of _ _ q)).none w z (sym (c.in-Open-right-2.ensures.worlds w z) ∙ sym e ∙ c.in-Closed.ensures.1.worlds w z))

pub returns-in-Err-relate_heads-clause-no : goal.returns-in-Err-relate_heads-clause-no
returns-in-Err-relate_heads-clause-no c = λ q. c.in-Err-relate_heads.ensures.no (err_of _ _ q)
