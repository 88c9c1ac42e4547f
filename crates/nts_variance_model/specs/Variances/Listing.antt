-- A judging by lists: which aliases stand for themselves, and what aliases normalize to.
use Rattle.std.specs.Prelude.{List}
use Rattle.nts_model.specs.Terms.Trees.{Tree}
use Rattle.nts_model.specs.Lists.{Among}
use Rattle.nts_variance_model.specs.Variances.Judging.{Judging}

-- the aliases that stand for themselves, and pairs of an alias and its value
pub record Lists : Type 0 where
  pub stands : List Tree
  pub normal : List (Tree × Tree)

abbrev pub by_lists : Judging → Lists → Judging
by_lists J s = record { declared = J.declared; holds = J.holds; stands = Among s.stands; normal = λ a v. Among s.normal (a, v) }

-- what the lists say is so
pub record AreOf (J : Judging) (s : Lists) : Type 0 where
  pub stands : (a : Tree) → Among s.stands a → J.stands a
  pub normal : (a v : Tree) → Among s.normal (a, v) → J.normal a v
