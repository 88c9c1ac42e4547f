use Rattle.std.proofs.Common.{◌≡◌, ◌∙◌, refl, rules, inl}
use Rattle.std.specs.Prelude.{◌≢◌}
use Rattle.nts_model.specs.Derivations.Sequents.{coinductive}
use Rattle.nts_candidates.specs.Offered.{path_kind_of}
use Rattle.nts_certainty.specs.declared.sources.PathKind.{PathKind}
use Rattle.nts_certainty.specs.declared.sources.PathKind.TheVariants as path
use Rattle.nts_store.proofs.Growing.{Extends-refl}
use Rattle.nts_terms.proofs.Moved.{KeepsRest-refl}
use Rattle.nts_meaning.proofs.Searching.{Searches-refl}
use Rattle.nts_meaning.proofs.BackEdges.{searched_read, read_fits, read_answers, read_exactly, read_used, read_refuted, first_fits, first_answers, first_refuted}
use Rattle.nts_asking.proofs.cycles.answer_cycle.Goals as goal

pub returns-in_err-answer-clause-searches : goal.returns-in_err-answer-clause-searches
returns-in_err-answer-clause-searches c = Searches-refl c.requires.search.0 c.requires.search.1 (record { extends = Extends-refl _; rest = KeepsRest-refl _ })

pub returns-then-eq-clause-searches : goal.returns-then-eq-clause-searches
returns-then-eq-clause-searches c = searched_read c.requires.search.0 c.args.head c.requires.search.1 c.read.ensures.items c.read.ensures.kept c.read.ensures.rest

pub returns-then-eq-clause-fits : goal.returns-then-eq-clause-fits
returns-then-eq-clause-fits c = read_fits c.requires.search.0 c.args.head c.requires.search.1 c.requires.head c.args.input.now c.requires.same c.in_ok-answer.answer c.answer_of.result c.answer_of.ensures.some c.answer_of.ensures.none c.index.result.now c.index.ensures c.in_ok-answer.ensures.copied

pub returns-then-eq-clause-usable : goal.returns-then-eq-clause-usable
returns-then-eq-clause-usable c =
    let cycle : c.path_kind-kind.result ≡ path.Coinductive = search rules in
    read_used c.requires.search.0 c.args.head c.requires.search.1 c.requires.head c.args.input.now c.requires.same c.in_ok-answer.answer c.answer_of.result c.answer_of.ensures.some c.answer_of.ensures.none c.index.result.now c.index.ensures c.in_ok-answer.ensures.copied c.read.new.self c.path_kind-kind.result c.args.step (c.read.ensures.entries _) cycle (c.path_kind-kind.ensures _)

pub returns-then-eq-clause-some : goal.returns-then-eq-clause-some
returns-then-eq-clause-some c = read_answers c.requires.search.0 c.args.head c.requires.search.1 c.requires.head c.args.input.now c.requires.same c.in_ok-answer.answer c.answer_of.result c.answer_of.ensures.some c.answer_of.ensures.none c.index.result.now c.index.ensures c.in_ok-answer.ensures.copied

pub returns-then-eq-clause-read : goal.returns-then-eq-clause-read
returns-then-eq-clause-read c = λ _. read_exactly c.requires.search.0 c.args.head c.requires.search.1 c.requires.head c.args.input.now c.requires.same c.in_ok-answer.answer c.answer_of.result c.answer_of.ensures.some c.answer_of.ensures.none c.index.result.now c.index.ensures c.in_ok-answer.ensures.copied

pub returns-then-eq-clause-none : goal.returns-then-eq-clause-none
returns-then-eq-clause-none c = λ q. inl (read_refuted c.requires.search.0 c.args.head c.requires.search.1 c.requires.head c.args.input.now c.requires.same c.in_ok-answer.answer c.answer_of.result c.answer_of.ensures.some c.answer_of.ensures.none c.index.result.now c.index.ensures c.in_ok-answer.ensures.copied q)

pub returns-in_err-answer-2-clause-searches : goal.returns-in_err-answer-2-clause-searches
returns-in_err-answer-2-clause-searches c = Searches-refl c.requires.search.0 c.requires.search.1 c.initial_provisional_result.ensures.grows

pub returns-clause-searches : goal.returns-clause-searches
returns-clause-searches c = Searches-refl c.requires.search.0 c.requires.search.1 c.initial_provisional_result.ensures.grows

pub returns-clause-fits : goal.returns-clause-fits
returns-clause-fits c = first_fits c.args.cx.now.nodes c.initial_provisional_result.new.cx.nodes c.args.input.now c.requires.input c.path_kind-kind.result c.in_ok-answer-2.answer c.answer_of-2.result c.answer_of-2.ensures.some c.answer_of-2.ensures.none c.in_ok-answer-2.ensures.response c.in_ok-answer-2.ensures.holds

pub returns-clause-some : goal.returns-clause-some
returns-clause-some c = first_answers c.args.cx.now.nodes c.initial_provisional_result.new.cx.nodes c.args.input.now c.requires.input c.path_kind-kind.result c.in_ok-answer-2.answer c.answer_of-2.result c.answer_of-2.ensures.some c.answer_of-2.ensures.none c.in_ok-answer-2.ensures.response c.in_ok-answer-2.ensures.holds c.args.graph.now.stack.items c.args.head

pub returns-clause-none : goal.returns-clause-none
returns-clause-none c = first_refuted c.args.cx.now.nodes c.initial_provisional_result.new.cx.nodes c.args.input.now c.requires.input c.path_kind-kind.result c.in_ok-answer-2.answer c.answer_of-2.result c.answer_of-2.ensures.some c.answer_of-2.ensures.none c.in_ok-answer-2.ensures.response c.in_ok-answer-2.ensures.holds c.args.graph.now c.args.head c.requires.head c.requires.same c.args.step c.in_ok-answer-2.ensures.none (c.path_kind-kind.ensures c.args.cx.now.nodes)

-- the path is not coinductive
other_path : (k : PathKind) → k ≢ path.Coinductive → path_kind_of k ≡ coinductive → ⊥
other_path path.Inductive n e = cc e
other_path path.Unknown n e = cc e
other_path path.Coinductive n e = n refl
other_path path.ForcedAmbiguity n e = cc e

pub returns-clause-read : goal.returns-clause-read
returns-clause-read c = λ is. absurd (other_path c.path_kind-kind.result (search rules) (c.path_kind-kind.ensures c.args.cx.now.nodes ∙ is))
