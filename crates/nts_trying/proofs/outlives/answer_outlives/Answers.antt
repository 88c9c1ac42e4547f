use Rattle.std.proofs.Common.{ap}
use Rattle.nts_model.proofs.Tables.Held.{Continues-refl}
use Rattle.nts_store.specs.Growth.{tree_at}
use Rattle.nts_unify.specs.Reading.{content_of}
use Rattle.nts_meaning.specs.Answering.{is_yes}
use Rattle.nts_meaning.proofs.AnsweredQueries.{args_later}
use Rattle.nts_meaning.proofs.Running.{term_table}
use Rattle.nts_trying.specs.Outliving.{constraint_at}
use Rattle.nts_trying.proofs.Outliving.{closed_sides, known_here, left_sort, right_region, outlives_no_equality, only_sides}
use Rattle.nts_trying.proofs.Probed.{found_in}
use Rattle.nts_trying.proofs.outlives.answer_outlives.Goals as goal

pub record_outlives-requires-clause-left : goal.record_outlives-requires-clause-left
record_outlives-requires-clause-left c = record { within = c.requires.outlives.left; knows = (let i = c.requires.outlives.is in let p = c.requires.posed.knows in let k = known_here (content_of c.args.cx.now.nodes c.args.table.now.entries) (tree_at c.args.cx.now.nodes c.args.goal.predicate.node) (constraint_at c.args.cx.now.nodes c.args.outlives) p.predicate i.says in k.left) }

pub record_outlives-requires-clause-right : goal.record_outlives-requires-clause-right
record_outlives-requires-clause-right c = record { within = c.requires.outlives.right; knows = (let i = c.requires.outlives.is in let p = c.requires.posed.knows in let k = known_here (content_of c.args.cx.now.nodes c.args.table.now.entries) (tree_at c.args.cx.now.nodes c.args.goal.predicate.node) (constraint_at c.args.cx.now.nodes c.args.outlives) p.predicate i.says in k.right) }

pub record_outlives-requires-clause-left_sort : goal.record_outlives-requires-clause-left_sort
record_outlives-requires-clause-left_sort c = (let i = c.requires.outlives.is in let s = i.says in left_sort (constraint_at c.args.cx.now.nodes c.args.outlives) s.statement s.says s.formed)

pub record_outlives-requires-clause-right_sort : goal.record_outlives-requires-clause-right_sort
record_outlives-requires-clause-right_sort c = (let i = c.requires.outlives.is in let s = i.says in right_region (constraint_at c.args.cx.now.nodes c.args.outlives) s.statement s.says s.formed)

pub record_outlives-requires-clause-outlives : goal.record_outlives-requires-clause-outlives
record_outlives-requires-clause-outlives c = λ e. (let i = c.requires.outlives.is in let s = i.says in outlives_no_equality (constraint_at c.args.cx.now.nodes c.args.outlives) s.statement s.says e)

pub record_outlives-requires-clause-left_closed : goal.record_outlives-requires-clause-left_closed
record_outlives-requires-clause-left_closed c = (let i = c.requires.outlives.is in let s = i.says in let z = closed_sides (constraint_at c.args.cx.now.nodes c.args.outlives) s.statement s.says s.closed in z.left)

pub record_outlives-requires-clause-right_closed : goal.record_outlives-requires-clause-right_closed
record_outlives-requires-clause-right_closed c = (let i = c.requires.outlives.is in let s = i.says in let z = closed_sides (constraint_at c.args.cx.now.nodes c.args.outlives) s.statement s.says s.closed in z.right)

pub boxed_response-requires-clause-values : goal.boxed_response-requires-clause-values
boxed_response-requires-clause-values c =
    let o = c.record_outlives.ensures in
    args_later c.args.cx.now.nodes c.args.cx.now.nodes c.args.table.now.entries c.record_outlives.new.table.entries c.args.values.now o.goes.extends o.goes.continues c.requires.values

pub returns-clause-found : goal.returns-clause-found
returns-clause-found c =
    let o = c.record_outlives.ensures in
    let r = c.in_ok-response.ensures in
    let i = c.requires.outlives.is in
    let ts = c.args.cx.now.nodes in
    let d = content_of ts c.record_outlives.new.table.entries in
    found_in c.in_ok-response.response.value _ o.goes c.terms_are_formed.ensures r.grows.extends
    (only_sides (tree_at ts c.args.goal.param_env.node) (tree_at ts c.args.goal.predicate.node) (constraint_at ts c.args.outlives) (content_of ts c.args.table.now.entries) d i.says c.in_ok-record_outlives.ensures.labels)
    c.requires.values r.certainty r.says r.holds (record { no_hidden = r.nothing.0; no_goals = r.nothing.1 })
    (λ y. (let h = c.in_ok-record_outlives.ensures.held in h.later d (term_table c.terms_are_formed.ensures o.goes.table) (Continues-refl d o.goes.table.now.sound)))

pub returns-clause-told : goal.returns-clause-told
returns-clause-told c =
    let o = c.record_outlives.ensures in
    let r = c.in_ok-response.ensures in
    let i = c.requires.outlives.is in
    let k = c.requires.posed.knows in
    let ts = c.args.cx.now.nodes in
    let d = content_of ts c.record_outlives.new.table.entries in
    record {
      knows = (k.env, (k.predicate, tt));
      found = d;
      adds = c.in_ok-record_outlives.ensures.added;
      is_found = record {
        table = term_table c.terms_are_formed.ensures o.goes.table;
        labels = only_sides (tree_at ts c.args.goal.param_env.node) (tree_at ts c.args.goal.predicate.node) (constraint_at ts c.args.outlives) (content_of ts c.args.table.now.entries) d i.says c.in_ok-record_outlives.ensures.labels;
      };
      sure = ap is_yes r.certainty;
      says = r.says;
    }
