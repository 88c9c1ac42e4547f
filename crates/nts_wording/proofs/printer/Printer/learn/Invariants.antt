use Rattle.std.proofs.Common.{◌≡◌, ◌++◌, take}
use Rattle.std.specs.List.{zip}
use Rattle.nts_text.specs.Spelled.{type_names, region_names}
use Rattle.nts_wording.specs.Answers.{bound_by, bound_types, AreNames}
use Rattle.nts_wording.specs.Pieces.{names_in}
use Rattle.nts_wording.proofs.printer.Printer.learn.Given as goal

abbrev pub invariant-loop-i : goal.invariant-loop-i
invariant-loop-i l = record {
  names : AreNames l.fn.self.nodes.now (names_in l.self.known.entries)
      (bound_by l.found.values.items (zip (take l.i (type_names l.fn.self.scope.now.variables)) (take l.i l.found.variables.types.items)));
  rest : l.self ≡ record l.fn.self { known = l.self.known };
}

abbrev pub invariant-loop-j : goal.invariant-loop-j
invariant-loop-j l = record {
  names : AreNames l.fn.self.nodes.now (names_in l.self.known.entries)
      (bound_types l.fn.self.scope.now l.found
      ++ bound_by l.found.values.items (zip (take l.j (region_names l.fn.self.scope.now.variables)) (take l.j l.found.variables.regions.items)));
  rest : l.self ≡ record l.fn.self { known = l.self.known };
}
