-- Rounds that are counted.
use Rattle.std.proofs.Common.{◌≡◌, suc, refl, arith}
use Rattle.nts_meaning.specs.nts_search.specs.declared.stack.SearchGraph.{SearchGraph}
use Rattle.nts_meaning.specs.nts_search.specs.Searching.{counted_rounds, with_round}
use Rattle.nts_asking.specs.declared.round.Round.{Round}
use Rattle.nts_asking.specs.declared.round.Ended.{Ended}
use Rattle.nts_asking.specs.Rounds.{rounds_before, IsNextRound}

-- after a round that ended comes the one for which one more has ended; a body that counts one less, or one more, is none
one_more : (e : Ended) → IsNextRound e (record { input = let x = e.entry in x.input; provisional = e.answer; before = let x = e.entry in x.round })
one_more e = record { input = refl; answer = refl; before = refl }

one_too_many : (e : Ended) (x : Round) → rounds_before x ≡ suc (let y = e.entry in y.round) → IsNextRound e x → ⊥
one_too_many e x many n = (let before = n.before in omega (arith, many, before))

-- the third round of an input is counted where there were two, and nothing is where there were five
third_is_counted : (g : SearchGraph) → counted_rounds g ≡ 2 → counted_rounds (with_round g 3) ≡ 3
third_is_counted g two = omega (arith, two)

most_is_kept : (g : SearchGraph) → counted_rounds g ≡ 5 → counted_rounds (with_round g 3) ≡ 5
most_is_kept g five = omega (arith, five)
