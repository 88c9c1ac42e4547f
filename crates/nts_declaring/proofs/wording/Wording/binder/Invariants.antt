use Rattle.std.proofs.Common.{◌≡◌}
use Rattle.nts_declaring.specs.Held.{Lengthens}
use Rattle.nts_declaring.proofs.wording.Wording.binder.Given as goal

abbrev pub invariant-loop-var : goal.invariant-loop-var
invariant-loop-var l = record {
  more : Lengthens l.fn.self.text.items l.self.text.items;
  rest : l.self ≡ record l.fn.self { text = l.self.text };
}
