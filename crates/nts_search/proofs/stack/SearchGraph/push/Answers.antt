use Rattle.std.proofs.Common.{◌≡◌, false, cond, [], ◌∷◌, ◌++◌, length, max, Some, refl, ap, ◌∙◌, arith}
use Rattle.nts_search.specs.declared.stack.StackEntry.{StackEntry}
use Rattle.nts_search.specs.Indexed.{input_terms, same_terms, led_to}
use Rattle.nts_search.proofs.Stacked.{IsStack-pushed}
use Rattle.nts_search.proofs.stack.SearchGraph.push.Goals as goal

pub returns-clause-kept : goal.returns-clause-kept
returns-clause-kept c = λ ts s input answer.
    (let g = c.args.self.now in
    let earlier = c.copied-earlier.result in
    let x : StackEntry = record { input = c.args.input; step_kind = c.args.step_kind; provisional = c.args.provisional; round = c.args.round; is_read = false; earlier = earlier } in
    let stack = c.push.new.self in
    let newest = c.insert.new.self in
    let items : stack.items ≡ g.stack.items ++ x ∷ [] = c.in_ok-push.ensures.items ∙ ap (λ l. l ++ x ∷ []) c.reserve.ensures.items in
    let lead : earlier ≡ led_to g.newest (input_terms c.args.input) = c.copied-earlier.ensures ∙ c.get.ensures.value ∙ ap (led_to g.newest) c.of-terms.ensures in
    let a = c.len-at.ensures in
    let o = g.stack.ok.0 in
    let at : c.len-at.result ≡ length g.stack.items = omega (arith, a, o) in
    let b = c.len-inputs.ensures in
    let p = stack.ok.0 in
    let long : c.len-inputs.result ≡ length stack.items = omega (arith, b, p) in
    IsStack-pushed ts g (record g { stack = stack; newest = newest; most_inputs = c.max-self-2.result; most_rounds = c.max-self.result }) x s (record { input = input; provisional = answer }) items lead
    (λ k. c.in_ok-insert.ensures.updates.0 k ∙ ap (λ t. cond (same_terms t k) (Some c.len-at.result) (led_to g.newest k)) c.of-terms.ensures
    ∙ ap (λ n. cond (same_terms (input_terms c.args.input) k) (Some n) (led_to g.newest k)) at)
    c.requires.room refl (c.max-self-2.ensures ∙ ap (max g.most_inputs) long))
