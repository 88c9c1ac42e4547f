-- An input that is evaluated stands on the stack meanwhile, which is counted.
use Rattle.std.proofs.Common.{◌≡◌, ℕ, ◌<◌, ◌≤◌, List, [], ◌∷◌, ◌++◌, length, length-append, ap, arith}
use Rattle.nts_model.specs.Terms.Trees.{Tree}
use Rattle.nts_terms.specs.declared.cx.Cx.{Cx}
use Rattle.nts_search.specs.declared.stack.SearchGraph.{SearchGraph}
use Rattle.nts_search.specs.declared.stack.StackEntry.{StackEntry}
use Rattle.nts_search.specs.Searching.{IsStack, KeepsRestOfGraph, counted_inputs, with_round}
use Rattle.nts_meaning.specs.Searching.{IsSearch, Searches}
use Rattle.nts_terms.specs.Rest.{Grows}
use Rattle.nts_meaning.proofs.Searching.{later_long, search_counted, search_later, Searches-trans}
use Rattle.nts_meaning.proofs.Rounds.{search_same}

-- the entry y was put on the stack of g, where the search went on
pub is_entered : {b c : Cx} {h i : SearchGraph} (n : ℕ) (g j : SearchGraph) (y : StackEntry) → IsSearch b h n → h.stack.items ≡ g.stack.items ++ y ∷ [] → Searches b c h i → KeepsRestOfGraph i j → length g.stack.items < counted_inputs j
is_entered n g j y s pushed up down =
    let k = s.stack in
    let counted = k.counted in
    let long = ap (length {A = StackEntry}) pushed in
    let grown = length-append g.stack.items (y ∷ []) in
    let more = up.more_inputs in
    let rest = down.most_inputs in
    omega (arith, counted, long, grown, more, rest)

-- .. which had as many entries as an earlier one
pub entered_before : {a b : Cx} {h : SearchGraph} {n : ℕ} (g : SearchGraph) → Searches a b g h → length h.stack.items < n → length g.stack.items < n
entered_before {h = h} g s l = (let long = later_long g.stack.items h.stack.items s.later in omega (arith, long, l))

-- an entry for which there is no memory is not put on, but its round is counted
pub not_entered : {a b : Cx} {g h : SearchGraph} (n m : ℕ) → IsSearch a g n → m ≤ a.round_limit → Grows a b → h.stack.items ≡ g.stack.items → ((ts : List Tree) → IsStack ts g → IsStack ts h) → KeepsRestOfGraph (with_round g m) h → Searches a b g h
not_entered {a} {b} {g} {h} n m s within w same kept rest =
    let noted : Searches a a g (with_round g m) = search_counted n m s within in
    let there : IsSearch a (with_round g m) n = search_later n n (omega arith) s noted in
    Searches-trans noted (search_same n there w same (λ ts k. kept ts (record { held = k.held; index = k.index; counted = k.counted; nested = k.nested })) rest)
