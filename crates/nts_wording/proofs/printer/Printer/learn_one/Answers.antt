use Rattle.std.proofs.Common.{sym, ◌∙◌}
use Rattle.nts_wording.specs.Pieces.{names_in}
use Rattle.nts_wording.specs.Printing.{same_term}
use Rattle.nts_wording.proofs.Lines.{names_other, names_kept, names_inserted, some_names}
use Rattle.nts_wording.proofs.printer.Printer.learn_one.Goals as goal

pub returns-then-not-is_variable-clause-names : goal.returns-then-not-is_variable-clause-names
returns-then-not-is_variable-clause-names c =
    names_other c.args.self.now.nodes.now (names_in c.args.self.now.known.entries) c.args.name.now c.args.value (sym c.is_variable.ensures ∙ c.if-not-is_variable.true)

pub returns-then-contains_key-clause-names : goal.returns-then-contains_key-clause-names
returns-then-contains_key-clause-names c =
    names_kept c.args.self.now.nodes.now (names_in c.args.self.now.known.entries) c.args.name.now c.args.value
    (some_names (same_term c.args.value) c.args.self.now.known.entries ∙ sym c.contains_key.ensures ∙ c.if-contains_key.true)

pub returns-clause-names : goal.returns-clause-names
returns-clause-names c =
    let inserted = names_inserted c.args.self.now.nodes.now c.args.self.now.known.entries c.args.value c.in_ok-name.name
    (sym c.is_variable.ensures ∙ c.if-not-is_variable.false) (sym c.contains_key.ensures ∙ c.if-contains_key.false) in
    rw (c.in_ok-insert.ensures.entries, sym c.in_ok-name.ensures.items) inserted
