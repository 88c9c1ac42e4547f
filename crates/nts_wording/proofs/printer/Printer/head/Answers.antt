use Rattle.std.proofs.Common.{◌≤◌, [], length, reverse}
use Rattle.nts_wording.specs.Pieces.{lexicon_of, seen_by}
use Rattle.nts_model.specs.Terms.Trees.{children}
use Rattle.nts_store.specs.Growth.{tree_at}
use Rattle.nts_wording.proofs.Printed.{no_term, whole_term, unnamed_label}
use Rattle.nts_wording.proofs.Writing.{Writes-refl, on_ok, outside}
use Rattle.nts_wording.proofs.printer.Printer.head.Goals as goal

pub returns-then-not-contains : goal.returns-then-not-contains
returns-then-not-contains c =
    let nodes = c.args.self.now.nodes.now in
    let past : length nodes ≤ c.args.term.number = outside nodes c.args.term (λ h. cc (c.contains.ensures.1 h, c.if-not-contains.true)) in
    ([], Writes-refl c.args.self.now, no_term (lexicon_of c.args.self.now) (seen_by c.args.self.now) c.args.term (reverse c.args.pieces.now.items) past)

pub returns-in_default : goal.returns-in_default
returns-in_default c =
    let p = c.args.self.now in
    let q = c.unnamed_type.new.self in
    on_ok c.unnamed_type.result (λ o. (
      o.0,
      o.1,
      whole_term (lexicon_of p) (seen_by p) (seen_by q) c.args.term (reverse c.args.pieces.now.items) o.0
          (unnamed_label (lexicon_of p) (seen_by p) (seen_by q) c.args.term c.label.result (children (tree_at p.nodes.now c.args.term)) o.0 c.label.ensures.is
          c.in_default.not-Leaf c.in_default.not-Ty o.2),
    )) c.unnamed_type.ensures
