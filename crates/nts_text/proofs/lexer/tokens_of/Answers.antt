use Rattle.std.proofs.Common.{◌≡◌, List, is_ok, ap, subst, sym, refl, arith, length}
use Rattle.std.proofs.ResultArms.{chosen}
use Rattle.nts_text.specs.declared.lexer.Token.{Token}
use Rattle.nts_text.proofs.TokenLemmas.{AreTokensBetween, tokens_between_push, tokens_between_end}
use Rattle.nts_text.proofs.lexer.tokens_of.Goals as goal

-- the token is pushed, and the blanks behind it are passed over
pub loop-at-preserved : goal.loop-at-preserved
loop-at-preserved c =
    let pushed = chosen _ _ _ _ c.push.ensures.items (ap is_ok c.in_ok-push.was) in
    let token = c.in-Some.ensures.token in
    let blanks = c.skip_blanks-at-in-loop-at.ensures in
    let start_is : c.in-Some.token.start ≡ c.loop-at.at = token.starts in
    let nonempty = token.within.nonempty in
    record {
      behind = omega (arith, c.loop-at.invariant.behind, start_is, nonempty, blanks.ordered);
      placed = blanks.inside;
      visible = blanks.longest;
      cut = let P : List Token → Type 0 = λ ts. AreTokensBetween c.args.line.now c.args.start ts c.skip_blanks-at-in-loop-at.result in
          subst P (sym pushed)
          (tokens_between_push _ _ _ _ _ _ c.loop-at.invariant.cut token blanks.ordered blanks.passes);
      inside = grind (arith, pushed, c.loop-at.invariant.inside, token.within);
    }

-- no token begins where the loop stops
pub returns-in_default-clause-refused : goal.returns-in_default-clause-refused
returns-in_default-clause-refused c = λ _. (
  refl,
  record {
    place = c.loop-at.at;
    behind = c.loop-at.invariant.behind;
    inside = c.loop-at-test.true;
    visible = c.loop-at.invariant.visible c.loop-at-test.true;
    stray = sym c.in_default.ensures.found;
  },
)

-- the loop has come to the end of the line
pub returns-clause-tokens : goal.returns-clause-tokens
returns-clause-tokens c =
    let at_end : c.loop-at.at ≡ length c.args.line.now = omega (arith, c.loop-at.invariant.placed, c.loop-at-test.false) in
    tokens_between_end _ _ _ (subst (AreTokensBetween c.args.line.now c.args.start c.loop-at.tokens.items) at_end c.loop-at.invariant.cut)
