use Rattle.std.proofs.Common.{arith, ◌+◌, refl, ap, map, drop, get_or, is_some}
use Rattle.std.proofs.lemmas.Grind.{common_steps}
use Rattle.nts_text.specs.Declarations.{sign_of}
use Rattle.nts_text.proofs.ComeLemmas.{only_first, only_open, only_minus, only_equals, only_comma, only_close, only_plain, only_marked, only_all, at_next, no_token, none_left, stuck_bracket, stuck_param, stuck_sort, stuck_behind, stuck_end, stuck_marked, stuck_plain, stuck_short}
use Rattle.nts_text.proofs.ParamLemmas.{one_open, one_minus, one_equals, one_comma, one_close, one_plain, one_marked, signs_more}
use Rattle.nts_text.proofs.params.params_of.Goals.{in-Bracket-Open, in-Param-Minus, in-Param-Equals, in-Behind-Comma, in-Behind-Close, in-Param-Name+in-Some+in_ok-push-in-Param-Name, in-Sort-Name+in-Some-param_of+in_ok-push-in-Sort-Name}
use Rattle.nts_text.proofs.params.params_of.Goals.{in_default-via-in-Bracket+in_default, in_default-via-in-Param+in_default, in_default-via-in-Sort+in_default, in_default-via-in-Behind+in_default, in_default-via-in_default}
use Rattle.nts_text.proofs.params.params_of.Goals as goal

-- one more token is read
pub loop-token-preserved : goal.loop-token-preserved
loop-token-preserved c =
    let line = c.args.line.now in
    let more = signs_more line c.args.tokens.now c.loop-token.token-index _ c.loop-token-test.true in
    let before = c.loop-token.invariant.read in
    let tokens = c.args.tokens.now in
    let params = c.loop-token.params.items in
    let at = c.loop-token.token-index in
    let t = get_or tokens at no_token in
    let rest = map (sign_of line) (drop (at + 1) tokens) in
    let next = at_next line tokens c.loop-token.place params at no_token c.loop-token-test.true c.loop-token.invariant.only in
    elim c.match-place.branch [
      | in-Bracket-Open w ↦ rw (w.place-is, w.params-is) (record {
        read = one_open line _ _ _ _ more w.in-Bracket-Open.is-1 (rw w.in-Bracket-Open.is-0 at before);
        only = only_open line tokens params t rest w.in-Bracket-Open.is-1 (rw w.in-Bracket-Open.is-0 at next);
      })
      | in-Param-Minus w ↦ rw (w.place-is, w.params-is) (record {
        read = one_minus line _ _ _ _ more w.in-Param-Minus.is-1 (rw w.in-Param-Minus.is-0 at before);
        only = only_minus line tokens params t rest w.in-Param-Minus.is-1 (rw w.in-Param-Minus.is-0 at next);
      })
      | in-Param-Equals w ↦ rw (w.place-is, w.params-is) (record {
        read = one_equals line _ _ _ _ more w.in-Param-Equals.is-1 (rw w.in-Param-Equals.is-0 at before);
        only = only_equals line tokens params t rest w.in-Param-Equals.is-1 (rw w.in-Param-Equals.is-0 at next);
      })
      | in-Behind-Comma w ↦ rw (w.place-is, w.params-is) (record {
        read = one_comma line _ _ _ _ more w.in-Behind-Comma.is-1 (rw w.in-Behind-Comma.is-0 at before);
        only = only_comma line tokens params t rest w.in-Behind-Comma.is-1 (rw w.in-Behind-Comma.is-0 at next);
      })
      | in-Behind-Close w ↦ rw (w.place-is, w.params-is) (record {
        read = one_close line _ _ _ _ more w.in-Behind-Close.is-1 (rw w.in-Behind-Close.is-0 at before);
        only = only_close line tokens params t rest w.in-Behind-Close.is-1 (rw w.in-Behind-Close.is-0 at next);
      })
      | in-Param-Name+in-Some+in_ok-push-in-Param-Name w ↦
          let e = w.in-Some.ensures in
          rw (w.place-is, w.params-is, w.in_ok-push-in-Param-Name.ensures.items) (record {
            read = one_plain line _ _ _ _ more w.in-Some.param w.in-Param-Name.is-1 e.sort e.variance (rw w.in-Param-Name.is-0 at before);
            only = only_plain line tokens params t rest w.in-Some.param w.in-Param-Name.is-1 e.sort e.variance (rw w.in-Param-Name.is-0 at next);
          })
      | in-Sort-Name+in-Some-param_of+in_ok-push-in-Sort-Name w ↦
          let e = w.in-Some-param_of.ensures in
          rw (w.place-is, w.params-is, w.in_ok-push-in-Sort-Name.ensures.items) (record {
            read = one_marked line _ _ _ _ more _ w.in-Some-param_of.param w.in-Sort-Name.is-1 e.sort e.variance (rw w.in-Sort-Name.is-0 at before);
            only = only_marked line tokens params t rest _ w.in-Some-param_of.param w.in-Sort-Name.is-1 e.sort e.variance (rw w.in-Sort-Name.is-0 at next);
          })
    ]

-- before the first token
pub loop-token-init : goal.loop-token-init
loop-token-init c = record { read = (c.new-params.ensures.items, refl); only = rw c.new-params.ensures.items (only_first c.args.line.now c.args.tokens.now) }

-- a word that is no sort
pub returns-in_default-param_of-clause-only : goal.returns-in_default-param_of-clause-only
returns-in_default-param_of-clause-only c =
    let line = c.args.line.now in
    let tokens = c.args.tokens.now in
    let params = c.loop-token.params.items in
    let at = c.loop-token.token-index in
    let t = get_or tokens at no_token in
    let next = at_next line tokens c.loop-token.place params at no_token c.loop-token-test.true c.loop-token.invariant.only in
    stuck_plain line tokens params t (map (sign_of line) (drop (at + 1) tokens)) c.in-Param-Name.is-1 (c.param_of.ensures.none (ap is_some c.in_default-param_of.is)) (rw c.in-Param-Name.is-0 at next)

pub returns-in_default-param_of-2-clause-only : goal.returns-in_default-param_of-2-clause-only
returns-in_default-param_of-2-clause-only c =
    let line = c.args.line.now in
    let tokens = c.args.tokens.now in
    let params = c.loop-token.params.items in
    let at = c.loop-token.token-index in
    let t = get_or tokens at no_token in
    let next = at_next line tokens c.loop-token.place params at no_token c.loop-token-test.true c.loop-token.invariant.only in
    stuck_marked line tokens params t (map (sign_of line) (drop (at + 1) tokens)) _ c.in-Sort-Name.is-1 (c.param_of-in-Sort-Name.ensures.none (ap is_some c.in_default-param_of-2.is)) (rw c.in-Sort-Name.is-0 at next)

-- a token that can't be next
pub returns-in_default-clause-only : goal.returns-in_default-clause-only
returns-in_default-clause-only c =
    let line = c.args.line.now in
    let tokens = c.args.tokens.now in
    let params = c.loop-token.params.items in
    let at = c.loop-token.token-index in
    let t = get_or tokens at no_token in
    let rest = map (sign_of line) (drop (at + 1) tokens) in
    let next = at_next line tokens c.loop-token.place params at no_token c.loop-token-test.true c.loop-token.invariant.only in
    elim c.in_default.branch [
      | in_default-via-in-Bracket+in_default w ↦ stuck_bracket line tokens params t rest w.in_default.not-Open-1 (rw w.in_default.is-0 at next)
      | in_default-via-in-Param+in_default w ↦ stuck_param line tokens params t rest w.in_default.not-Name-1 w.in_default.not-Minus-1 w.in_default.not-Equals-1 (rw w.in_default.is-0 at next)
      | in_default-via-in-Sort+in_default w ↦ stuck_sort line tokens params t rest _ w.in_default.not-Name-1 (rw w.in_default.is-0 at next)
      | in_default-via-in-Behind+in_default w ↦ stuck_behind line tokens params t rest w.in_default.not-Close-1 w.in_default.not-Comma-1 (rw w.in_default.is-0 at next)
      | in_default-via-in_default w ↦ stuck_end line tokens params t rest (rw w.in_default.is-0 at next)
    ]

-- no token is left
pub returns-then-eq-clause-only : goal.returns-then-eq-clause-only
returns-then-eq-clause-only c = only_all c.args.line.now c.args.tokens.now c.loop-token.params.items c.loop-token.place (rw (none_left c.args.tokens.now c.loop-token.token-index c.loop-token-test.false) at c.loop-token.invariant.only)

pub returns-else-eq-clause-only : goal.returns-else-eq-clause-only
returns-else-eq-clause-only c = stuck_short c.args.line.now c.args.tokens.now c.loop-token.params.items c.loop-token.place (λ e. grind (arith, common_steps, c.eq.ensures, c.if-eq.false, e)) (rw (none_left c.args.tokens.now c.loop-token.token-index c.loop-token-test.false) at c.loop-token.invariant.only)
