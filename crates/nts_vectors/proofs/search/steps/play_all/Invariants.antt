use Rattle.nts_search.specs.Searching.{IsStack}
use Rattle.nts_vectors.proofs.search.steps.play_all.Given as goal

abbrev pub invariant-loop-n : goal.invariant-loop-n
invariant-loop-n g l = IsStack l.fixture.cx.nodes l.fixture.graph
