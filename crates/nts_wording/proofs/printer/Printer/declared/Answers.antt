use Rattle.std.proofs.Common.{◌++◌, reverse}
use Rattle.nts_wording.specs.Pieces.{seen_by}
use Rattle.nts_wording.proofs.Writing.{Writes-trans, on_ok, constructs_after}
use Rattle.nts_wording.proofs.printer.Printer.declared.Goals as goal

pub returns : goal.returns
returns c =
    let p = c.args.self.now in
    let q = c.write.new.self in
    let name = c.args.name.now in
    let first = c.in_ok-write.ensures in
    on_ok c.open.result (λ o. (
      name ++ o.0,
      Writes-trans p q c.open.new.self name o.0 first.writes o.1,
      constructs_after p q (seen_by c.open.new.self) c.args.term c.child-list.result c.args.head (reverse c.args.pieces.now.items) (reverse c.open.new.pieces.items) name o.0
          first.writes first.seen c.requires.label c.requires.formed c.child-list.ensures.tree c.requires.named o.2,
    )) c.open.ensures
