use Rattle.std.proofs.Common.{◌≡◌, ◌+◌, ◌++◌, ◌∷◌, inr, suc, true, false, is_some, take, drop, get_or, refl, sym, ap, ◌∙◌, arith}
use Rattle.std.proofs.lemmas.Grind.{common_steps}
use Rattle.nts_text.specs.Predicates.{are_predicates, written_nodes}
use Rattle.nts_text.specs.declared.predicates.Wanted.TheVariants as wanted
use Rattle.nts_text.proofs.ArrowLemmas.{parts_at, no_fact, no_rule}
use Rattle.nts_text.proofs.WordLemmas.{of_nodes}
use Rattle.std.specs.Prelude.{Contains}
use Rattle.std.proofs.lemmas.List.{get_or_default}
use Rattle.std.proofs.lemmas.List.Elements.{All-take, All-drop}
use Rattle.nts_text.proofs.parser.clause_parts.Goals as goal

-- the tokens before the arrow and those behind it are tokens of all
pub returns-clause-head : goal.returns-clause-head
returns-clause-head c =
    let head : c.in-Some-3.head.items ≡ written_nodes (take c.in-Some.at c.args.tokens.now) = grind (arith, c.in_ok-head-2.ensures.nodes, c.in-Some-3.is) in
    rw head (of_nodes (Contains c.args.tokens.now) (take c.in-Some.at c.args.tokens.now) (All-take (Contains c.args.tokens.now) c.in-Some.at c.args.tokens.now (λ k d h. (k, h, get_or_default c.args.tokens.now k (get_or c.args.tokens.now k d) d h))))

pub returns-clause-body : goal.returns-clause-body
returns-clause-body c =
    let body : c.in-Some-4.body.items ≡ written_nodes (drop (c.in-Some.at + 1) c.args.tokens.now) = grind (arith, common_steps, c.in_ok-body.ensures.nodes, c.in-Some-4.is) in
    rw body (of_nodes (Contains c.args.tokens.now) (drop (c.in-Some.at + 1) c.args.tokens.now) (All-drop (Contains c.args.tokens.now) (c.in-Some.at + 1) c.args.tokens.now (λ k d h. (k, h, get_or_default c.args.tokens.now k (get_or c.args.tokens.now k d) d h))))

-- no arrow, and no predicate
pub returns-in-None-clause-none : goal.returns-in-None-clause-none
returns-in-None-clause-none c = λ _.
    no_fact c.args.wanted c.args.tokens.now (c.in_default.ensures.none refl) (sym c.in_ok-head.ensures.written ∙ ap is_some c.in-None.is)

-- no predicate before the arrow
pub returns-in_default-2-clause-none : goal.returns-in_default-2-clause-none
returns-in_default-2-clause-none c = λ _.
    let e = c.in-Some.ensures in
    let no : are_predicates c.args.wanted (take c.in-Some.at c.args.tokens.now) ≡ false = grind (arith, c.in_ok-head-2.ensures.written, c.in_default-2.is) in
    no_rule c.args.wanted c.args.tokens.now c.in-Some.at e.inside e.found e.first (λ is _. let f : true ≡ false = sym is ∙ no in cc)

-- no predicates behind it
pub returns-in_default-3-clause-none : goal.returns-in_default-3-clause-none
returns-in_default-3-clause-none c = λ _.
    let e = c.in-Some.ensures in
    let behind : suc c.in-Some.at ≡ c.in-Some.at + 1 = omega arith in
    let no : are_predicates wanted.Many (drop (c.in-Some.at + 1) c.args.tokens.now) ≡ false = grind (arith, common_steps, c.in_ok-body.ensures.written, c.in_default-3.is) in
    no_rule c.args.wanted c.args.tokens.now c.in-Some.at e.inside e.found e.first (λ _ are. let f : true ≡ false = sym are ∙ ap (λ n. are_predicates wanted.Many (drop n c.args.tokens.now)) behind ∙ no in cc)

-- a predicate, an arrow and predicates
pub returns-clause-clause : goal.returns-clause-clause
returns-clause-clause c =
    let ts = c.args.tokens.now in
    let at = c.in-Some.at in
    let e = c.in-Some.ensures in
    let parts = parts_at ts at e.inside e.found in
    let next : suc at ≡ at + 1 = omega arith in
    let is : are_predicates c.args.wanted (take at ts) ≡ true = grind (arith, c.in_ok-head-2.ensures.written, c.in-Some-3.is) in
    let head_is : c.in-Some-3.head.items ≡ written_nodes (take at ts) = grind (arith, c.in_ok-head-2.ensures.nodes, c.in-Some-3.is) in
    let are : are_predicates wanted.Many (drop (at + 1) ts) ≡ true = grind (arith, common_steps, c.in_ok-body.ensures.written, c.in-Some-4.is) in
    let body_is : c.in-Some-4.body.items ≡ written_nodes (drop (at + 1) ts) = grind (arith, common_steps, c.in_ok-body.ensures.nodes, c.in-Some-4.is) in
    inr (take at ts, drop (at + 1) ts, parts.0, (parts.1 ∙ ap (λ n. take at ts ++ parts.0 ∷ drop n ts) next), parts.2, is, head_is, are, body_is)
