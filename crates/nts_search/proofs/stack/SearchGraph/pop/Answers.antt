use Rattle.std.proofs.Common.{◌≡◌, [], ◌∷◌, ◌++◌, cond, refl, sym, subst}
use Rattle.std.specs.Prelude.{IsSome, reverse}
use Rattle.nts_search.specs.Indexed.{same_terms, led_to}
use Rattle.nts_search.proofs.Chains.{index_has}
use Rattle.nts_search.proofs.Stacked.{index_leads, IsStack-popped}
use Rattle.nts_search.proofs.stack.SearchGraph.pop.Goals as goal

pub returns-clause-kept : goal.returns-clause-kept
returns-clause-kept c = λ ts s.
    (let g = c.args.self.now in
    let x = c.in-Some.entry in
    let rest = c.pop.new.self.items in
    let split : g.stack.items ≡ rest ++ x ∷ [] = c.in-Some.ensures.items in
    let has : IsSome (led_to g.newest c.of.result) = subst (λ k. IsSome (led_to g.newest k)) (sym c.of.ensures) (index_has g.newest (reverse rest) x (index_leads ts g rest x s split)) in
    let back = c.lead_back.ensures has in
    IsStack-popped ts g (record g { stack = c.pop.new.self; newest = c.lead_back.new.newest }) x s split
    (λ k. subst (λ t. led_to c.lead_back.new.newest k ≡ cond (same_terms t k) x.earlier (led_to g.newest k)) c.of.ensures (back k)) refl refl)
