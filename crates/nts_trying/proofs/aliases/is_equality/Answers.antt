use Rattle.std.proofs.Common.{◌≡◌, sym, ap, subst, rules}
use Rattle.nts_model.specs.Derivations.Rules.{statement_of}
use Rattle.nts_store.specs.Growth.{tree_at}
use Rattle.nts_terms.specs.Kinds.{tree_of_statement}
use Rattle.nts_trying.specs.Aliasing.{IsEquality}
use Rattle.nts_trying.proofs.SaidEqual.{says_equal}
use Rattle.nts_trying.proofs.UnsaidEqual.{aliased_no, unequal_no}
use Rattle.nts_trying.proofs.aliases.is_equality.Goals as goal

pub returns-then-not-is_alias_or_plain-clause-no : goal.returns-then-not-is_alias_or_plain-clause-no
returns-then-not-is_alias_or_plain-clause-no c = λ _.
    let h = c.is_alias_or_plain.ensures.no (search rules) in
    aliased_no c.args.cx.now.nodes c.args.goal c.args.equated c.requires.equated h.0 h.1

pub returns-clause-yes : goal.returns-clause-yes
returns-clause-yes c =
    let ts = c.args.cx.now.nodes in
    let says : statement_of (tree_at ts c.args.goal.predicate.node) ≡ tree_of_statement ts c.kind-predicate.result.value = ap statement_of c.kind-predicate.ensures.tree in
    λ yes. says_equal ts c.args.goal c.args.equated (search rules) c.requires.equated (c.is_alias_or_plain.ensures.yes (search rules)) (subst IsEquality (sym says) (c.says_equal.ensures.yes yes ts))

pub returns-clause-no : goal.returns-clause-no
returns-clause-no c =
    let ts = c.args.cx.now.nodes in
    let says : statement_of (tree_at ts c.args.goal.predicate.node) ≡ tree_of_statement ts c.kind-predicate.result.value = ap statement_of c.kind-predicate.ensures.tree in
    λ no. unequal_no (tree_at ts c.args.goal.predicate.node) (λ h. c.says_equal.ensures.no no ts (subst IsEquality says h))
