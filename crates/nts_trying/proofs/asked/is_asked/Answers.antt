use Rattle.std.proofs.Common.{◌≡◌, ap, ◌∙◌, sym}
use Rattle.nts_model.specs.Derivations.Rules.{statement_of}
use Rattle.nts_store.specs.Growth.{tree_at}
use Rattle.nts_store.specs.declared.type_flags.TypeFlags.{TypeFlags}
use Rattle.nts_terms.specs.Kinds.{tree_of_statement}
use Rattle.nts_theory.specs.AskedGoals.{is_engines}
use Rattle.nts_trying.proofs.AskedData.{asked_engines, asked_unaliased}
use Rattle.nts_trying.proofs.asked.is_asked.Goals as goal

pub returns-then-is_engines : goal.returns-then-is_engines
returns-then-is_engines c =
    let ts = c.args.cx.now.nodes in
    let says : statement_of (tree_at ts c.args.goal.predicate.node) ≡ tree_of_statement ts c.kind-predicate.result.value = ap statement_of c.kind-predicate.ensures.tree in
    sym (asked_engines (tree_at ts c.args.goal.predicate.node) (ap is_engines says ∙ sym (c.is_engines.ensures ts) ∙ c.if-is_engines.true))

pub returns : goal.returns
returns c =
    let ts = c.args.cx.now.nodes in
    let says : statement_of (tree_at ts c.args.goal.predicate.node) ≡ tree_of_statement ts c.kind-predicate.result.value = ap statement_of c.kind-predicate.ensures.tree in
    asked_unaliased (tree_at ts c.args.goal.predicate.node) c.flags.result.has_alias (ap is_engines says ∙ sym (c.is_engines.ensures ts) ∙ c.if-is_engines.false) (ap (λ (f : TypeFlags). f.has_alias) c.flags.ensures)
