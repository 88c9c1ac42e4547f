use Rattle.std.proofs.lemmas.Option.{slice_get-get_or}
use Rattle.nts_text.proofs.FaultLemmas.{unknown_on, twice_on, rigid_on}
use Rattle.std.proofs.Common.{◌≡◌, Err, [], length, vec_len, reverse, drop, get_or, subst, sym, ap, arith, ◌∙◌}
use Rattle.std.proofs.lemmas.Grind.{common_steps}
use Rattle.std.proofs.lemmas.List.{append-nil, take_all}
use Rattle.std.proofs.lemmas.List.Elements.{All-nil, All-cons, All-append}
use Rattle.nts_text.specs.Resolution.{argument_sorts, AreSorted, IsDeclared, IsNoVariable}
use Rattle.nts_text.proofs.SortLemmas.{none_left, first_wanted, sorted_push, sorts_left}
use Rattle.nts_text.proofs.SpellingLemmas.{KeepsNames-trans, meanings_push, bound_push}
use Rattle.nts_text.specs.Binders.{bound_behind}
use Rattle.nts_text.specs.Faults.{IsBoundTwice}
use Rattle.nts_text.specs.declared.lexer.TokenKind.TheVariants.{Name}
use Rattle.nts_text.specs.declared.predicates.Node.{Node}
use Rattle.nts_text.specs.declared.predicates.Role.TheVariants.{Bound}
use Rattle.nts_text.proofs.resolver.Reading.all_nodes.Goals as goal

-- what an index gives past the end
abbrev no_node : Node
no_node = record { token = record { kind = Name; start = 0; end = 0 }; arguments = 0; role = Bound }

pub returns-in_err-resolved-clause-kept : goal.returns-in_err-resolved-clause-kept
returns-in_err-resolved-clause-kept c = KeepsNames-trans c.loop-node.invariant.kept c.node.ensures.kept

pub loop-node-preserved : goal.loop-node-preserved
loop-node-preserved c =
    let pushed = c.in_ok-keep.ensures.keeps in
    let popped = first_wanted _ _ _ c.pop.ensures.items (λ e. grind (arith, common_steps, e, c.pop.ensures.cases, c.pop.ensures.rest)) in
    let grown = sorted_push c.args.self.now.names.now _ _ _ c.loop-node.invariant.sorted (c.in_ok-resolved.ensures.sort ∙ sym popped.0) in
    let left = sorts_left c.keep.new.wanted.items c.pop.new.self.items (argument_sorts c.args.self.now.names.now c.in_ok-resolved.resolved) (drop 1 (reverse c.loop-node.wanted.items)) c.in_ok-keep.ensures.wants popped.1 in
    record {
      each = grind (arith, common_steps, pushed, c.loop-node.invariant.each);
      sorted = rw (pushed, left) grown;
      declared = rw pushed (All-append (IsDeclared c.args.self.now.names.now) _ _ c.loop-node.invariant.declared (All-cons (IsDeclared c.args.self.now.names.now) _ [] c.in_ok-resolved.ensures.declared (All-nil (IsDeclared c.args.self.now.names.now))));
      bound = c.in_ok-resolved.ensures.bounds ∙ ap (λ b. bound_behind c.args.self.now.line.now b (get_or c.args.nodes.now c.loop-node.node-index no_node)) c.loop-node.invariant.bound
          ∙ sym (bound_push c.args.self.now.line.now c.args.nodes.now c.loop-node.node-index no_node c.loop-node-test.true);
      means = rw pushed (meanings_push c.args.self.now.names.now _ _ c.args.self.now.line.now c.args.nodes.now c.loop-node.all.items c.loop-node.node-index no_node _ c.loop-node-test.true c.node.ensures.kept c.loop-node.invariant.means
          c.in_ok-resolved.ensures.role (rw c.loop-node.invariant.bound at c.in_ok-resolved.ensures.means));
      kept = KeepsNames-trans c.loop-node.invariant.kept c.node.ensures.kept;
      free = λ is. rw pushed (All-append IsNoVariable _ _ (c.loop-node.invariant.free is) (All-cons IsNoVariable _ [] (c.in_ok-resolved.ensures.free is) (All-nil IsNoVariable)));
    }

pub returns-in_err-keep-clause-kept : goal.returns-in_err-keep-clause-kept
returns-in_err-keep-clause-kept c = KeepsNames-trans c.loop-node.invariant.kept c.node.ensures.kept

-- the node whose name is free
pub returns-in_err-resolved-clause-unknown : goal.returns-in_err-resolved-clause-unknown
returns-in_err-resolved-clause-unknown c =
    unknown_on c.from_residual.result c.in_err-resolved.field-0.0 _ c.from_residual.ensures.1
    (λ e. (
      c.loop-node.node-index,
      get_or c.args.nodes.now c.loop-node.node-index no_node,
      slice_get-get_or c.args.nodes.now c.loop-node.node-index no_node c.loop-node-test.true,
      rw c.loop-node.invariant.bound at c.in_err-resolved.ensures.unknown (ap Err e),
    ))

-- the node that binds a name twice
pub returns-in_err-resolved-clause-twice : goal.returns-in_err-resolved-clause-twice
returns-in_err-resolved-clause-twice c =
    twice_on c.from_residual.result c.in_err-resolved.field-0.0 _ c.from_residual.ensures.1
    (λ e. (
      c.loop-node.node-index,
      get_or c.args.nodes.now c.loop-node.node-index no_node,
      slice_get-get_or c.args.nodes.now c.loop-node.node-index no_node c.loop-node-test.true,
      subst (λ b. IsBoundTwice c.args.self.now.names.now c.args.self.now.line.now b (get_or c.args.nodes.now c.loop-node.node-index no_node)) c.loop-node.invariant.bound (c.in_err-resolved.ensures.twice (ap Err e)),
    ))

-- the alias that is rigid
pub returns-in_err-resolved-clause-rigid : goal.returns-in_err-resolved-clause-rigid
returns-in_err-resolved-clause-rigid c =
    rigid_on c.from_residual.result c.in_err-resolved.field-0.0 _ c.from_residual.ensures.1
    (λ e. (
      c.loop-node.node-index,
      get_or c.args.nodes.now c.loop-node.node-index no_node,
      slice_get-get_or c.args.nodes.now c.loop-node.node-index no_node c.loop-node-test.true,
      c.in_err-resolved.ensures.rigid (ap Err e),
    ))

pub returns-then-is_empty-clause-means : goal.returns-then-is_empty-clause-means
returns-then-is_empty-clause-means c =
    rw (take_all c.loop-node.node-index c.args.nodes.now c.loop-node-test.false) at c.loop-node.invariant.means

-- nothing is wanted any more
pub returns-then-is_empty-clause-sorted : goal.returns-then-is_empty-clause-sorted
returns-then-is_empty-clause-sorted c =
    let counted : vec_len c.loop-node.wanted ≡ length c.loop-node.wanted.items = grind (arith, common_steps) in
    let nothing = none_left c.loop-node.wanted.items (vec_len c.loop-node.wanted) counted (sym c.is_empty.ensures ∙ c.if-is_empty.true) in
    subst (AreSorted c.args.self.now.names.now []) (append-nil c.loop-node.all.items) (c.loop-node.invariant.sorted [] (ap reverse nothing))
