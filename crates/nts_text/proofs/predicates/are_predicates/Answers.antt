use Rattle.std.proofs.Common.{◌≡◌, ◌≤◌, ◌+◌, ◌∷◌, ◌∙◌, suc, true, drop, get_or, sym, ap, arith}
use Rattle.std.proofs.Math.Seq.{drop-cons}
use Rattle.nts_text.specs.Predicates.{continues, is_many, may_stand, depth_behind}
use Rattle.nts_text.specs.declared.lexer.Token.{Token}
use Rattle.nts_text.specs.declared.lexer.TokenKind.TheVariants.{Name}
use Rattle.nts_text.proofs.CountLemmas.{continues-step, depth_behind-other}
use Rattle.nts_text.proofs.predicates.are_predicates.Goals.{in-Open, in-Close, in_default}
use Rattle.nts_text.proofs.predicates.are_predicates.Goals as goal

-- what an index gives past the end
abbrev no_token : Token
no_token = record { kind = Name; start = 0; end = 0 }

-- one token more
pub loop-token-preserved : goal.loop-token-preserved
loop-token-preserved c =
    let tokens = c.args.tokens.now in
    let at = c.loop-token.token-index in
    let t = get_or tokens at no_token in
    let rest = drop (at + 1) tokens in
    let split : drop at tokens ≡ t ∷ rest = drop-cons tokens at no_token c.loop-token-test.true ∙ ap (λ k. t ∷ drop k tokens) (let e : suc at ≡ at + 1 = omega arith in e) in
    let stands : may_stand (is_many c.args.wanted) c.loop-token.binding c.loop-token.side c.loop-token.depth c.loop-token.before t.kind ≡ true =
    grind (arith, c.may_stand.ensures, c.is_many-many.ensures, c.if-not-may_stand.false) in
    let depth : c.match-token.depth ≡ depth_behind c.loop-token.depth t.kind = elim c.match-token.branch [
      | in-Open w ↦ w.depth-is ∙ sym (ap (depth_behind c.loop-token.depth) w.in-Open.is)
      | in-Close w ↦ w.depth-is ∙ sym (ap (depth_behind c.loop-token.depth) w.in-Close.is)
      | in_default w ↦ w.depth-is ∙ sym (depth_behind-other c.loop-token.depth t.kind w.in_default.not-Open w.in_default.not-Close)
    ] in
    let shallow : c.match-token.depth ≤ at + 1 = elim c.match-token.branch [
      | in-Open w ↦ omega (arith, w.depth-is, c.loop-token.invariant.shallow)
      | in-Close w ↦ omega (arith, w.depth-is, c.loop-token.invariant.shallow)
      | in_default w ↦ omega (arith, w.depth-is, c.loop-token.invariant.shallow)
    ] in
    record {
      shallow = shallow;
      rest = continues-step c.args.wanted c.loop-token.binding c.loop-token.side c.loop-token.depth c.loop-token.before t rest
          c.binding_behind-binding.result c.side_behind-side.result c.match-token.depth stands c.binding_behind-binding.ensures c.side_behind-side.ensures depth
          ∙ sym (ap (continues c.args.wanted c.loop-token.binding c.loop-token.side c.loop-token.depth c.loop-token.before) split) ∙ c.loop-token.invariant.rest;
    }
