use Rattle.std.proofs.Common.{◌∙◌, [], inl, inr, option_map, IsTrue, ap, sym, rules}
use Rattle.std.proofs.lemmas.List.{append-nil}
use Rattle.nts_store.specs.Growth.{tree_at}
use Rattle.nts_unify.specs.Reading.{content_of}
use Rattle.nts_model.specs.Terms.Trees.{kind_of}
use Rattle.nts_store.proofs.Growing.{Extends-trans}
use Rattle.nts_normalize.specs.Calling.{tree_of_goal}
use Rattle.nts_normalize.specs.Normalizing.{collected, IsLeftOut}
use Rattle.nts_unify.specs.Lawful.{content_of-extended}
use Rattle.nts_normalize.specs.Walking.{standing_of-kept}
use Rattle.nts_folding.proofs.Folded.{on_same_err}
use Rattle.nts_normalize.proofs.Stepping.{FolderGoes-trans, FolderGoes-grown, FolderGoes-collects, collected_held, collects, known_on, result_kind}
use Rattle.nts_normalize.proofs.folder.NormalizationFolder.replace_opened.Goals as goal

pub returns-in_err-is_left_out-clause-goes : goal.returns-in_err-is_left_out-clause-goes
returns-in_err-is_left_out-clause-goes g c = FolderGoes-grown c.ask.ensures.goes c.is_left_out.ensures.grows

pub returns-then-branch-clause-goes : goal.returns-then-branch-clause-goes
returns-then-branch-clause-goes g c = FolderGoes-grown c.ask.ensures.goes c.is_left_out.ensures.grows

pub returns-then-branch-clause-ends : goal.returns-then-branch-clause-ends
returns-then-branch-clause-ends g c =
    let all = FolderGoes-grown c.ask.ensures.goes c.is_left_out.ensures.grows in
    let yes : IsTrue c.in_ok-is_left_out.field-0 = c.if-branch.true in
    let left = c.in_ok-is_left_out.ensures.left_out.0 yes in
    record {
      term = _;
      goal = _;
      asked = _;
      asks = c.in_ok-term.ensures.asks;
      ends = inl (rw c.universe-universe.ensures at left, all.grows.extends.kept c.args.t.node c.requires.holds.within, standing_of-kept g.F.FnMut _ _ c.ask.new.self c.ask.ensures.goes.ready c.is_left_out.ensures.grows.extends);
    }

pub close-requires-clause-ready : goal.close-requires-clause-ready
close-requires-clause-ready g c = (FolderGoes-grown c.ask.ensures.goes c.is_left_out.ensures.grows).ready

pub close-requires-clause-known : goal.close-requires-clause-known
close-requires-clause-known g c =
    let answer = c.in_ok-term.ensures.answer in
    known_on _ _ c.is_left_out.ensures.grows.extends c.ask.ensures.goes.ready.table answer.holds.within answer.known

pub returns-in_err-closed-clause-goes : goal.returns-in_err-closed-clause-goes
returns-in_err-closed-clause-goes g c = FolderGoes-grown (FolderGoes-grown c.ask.ensures.goes c.is_left_out.ensures.grows) c.close.ensures.grows

pub returns-in_err-collect-clause-goes : goal.returns-in_err-collect-clause-goes
returns-in_err-collect-clause-goes g c =
    let all = FolderGoes-grown (FolderGoes-grown c.ask.ensures.goes c.is_left_out.ensures.grows) c.close.ensures.grows in
    FolderGoes-collects [] all c.collect.ensures.table (c.in_err-collect.ensures.goals_err ∙ sym (append-nil _)) (search rules)

pub returns-clause-goes : goal.returns-clause-goes
returns-clause-goes g c =
    let all = FolderGoes-grown (FolderGoes-grown c.ask.ensures.goes c.is_left_out.ensures.grows) c.close.ensures.grows in
    let on = Extends-trans c.is_left_out.ensures.grows.extends c.close.ensures.grows.extends in
    FolderGoes-collects (collected c.in_ok-term.goal) all c.collect.ensures.table c.in_ok-collect.ensures.goals (collected_held on c.in_ok-term.goal c.in_ok-term.ensures.answer.goal)

pub returns-clause-kind : goal.returns-clause-kind
returns-clause-kind g c =
    let answer = c.in_ok-term.ensures.answer in
    let term = result_kind c.args.cx.now.nodes _ c.args.alias c.in_ok-term.term answer.holds in
    let still = ap kind_of (c.is_left_out.ensures.grows.extends.kept c.in_ok-term.term.node answer.holds.within) in
    c.in_ok-closed.ensures.kind ∙ still ∙ term ∙ c.requires.sort

pub returns-clause-ends : goal.returns-clause-ends
returns-clause-ends g c =
    let answer = c.in_ok-term.ensures.answer in
    let left = c.in_ok-is_left_out.ensures.left_out in
    let on = Extends-trans c.is_left_out.ensures.grows.extends c.close.ensures.grows.extends in
    let no : IsLeftOut c.universe-universe.result (content_of c.ask.new.cx.nodes c.ask.new.self.table.entries) (tree_at c.ask.new.cx.nodes c.in_ok-term.term.node) (option_map (tree_of_goal c.ask.new.cx.nodes) c.in_ok-term.goal) → ⊥ =
    λ h. let y = left.1 h in let f = c.if-branch.false in cc in
    let known = c.is_left_out.ensures.grows.extends.kept c.in_ok-term.term.node answer.holds.within in
    let same = content_of-extended c.is_left_out.ensures.grows.extends c.ask.ensures.goes.ready.table.now in
    let tree = rw same at (rw known at c.in_ok-closed.ensures.tree) in
    record {
      term = _;
      goal = _;
      asked = _;
      asks = c.in_ok-term.ensures.asks;
      ends = inr (rw c.universe-universe.ensures at no, tree, collects c.ask.new.self c.collect.new.self c.in_ok-term.goal c.ask.ensures.goes.ready on answer.goal c.collect.ensures.table c.collect.ensures.universes c.collect.ensures.normalize c.in_ok-collect.ensures.goals);
    }

pub returns-in_err-term-clause-err : goal.returns-in_err-term-clause-err
returns-in_err-term-clause-err g c = on_same_err _ _ _ c.from_residual.ensures.1 c.in_err-term.ensures.err
