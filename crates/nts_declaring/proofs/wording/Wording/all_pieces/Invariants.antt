use Rattle.std.proofs.Common.{◌≡◌}
use Rattle.nts_wording.specs.Growing.{Begins}
use Rattle.nts_declaring.specs.Held.{Says, IsAny}
use Rattle.nts_declaring.proofs.wording.Wording.all_pieces.Given as goal

abbrev pub invariant-turns : goal.invariant-turns
invariant-turns g l = record {
  says : Says IsAny (g.W.Write.contents l.fn.output) (g.W.Write.contents l.output) l.fn.self.text.items l.self.text.items;
  rest : l.self ≡ record l.fn.self { text = l.self.text };
  begins : Begins (g.W.Write.contents l.fn.output) (g.W.Write.contents l.output);
}
