use Rattle.std.proofs.Common.{◌≡◌, ◌-◌, [], ◌∷◌, ◌∙◌, ◌+◌, ◌<◌, ◌≤◌, length, sum, vec_len, suc, true, false, drop, get_or, reverse, sym, ap, subst, arith, unwrap_or}
use Rattle.std.proofs.lemmas.Grind.{common_steps}
use Rattle.std.proofs.lemmas.List.{length-append, length-reverse}
use Rattle.std.proofs.Math.Seq.{drop-cons}
use Rattle.nts_text.specs.Predicates.{is_open, is_close, is_word, is_binding, binding_before, behind_sign, next_sign, trees_before, open_brackets, kind_before, nodes_behind, written_nodes, arguments_behind}
use Rattle.nts_text.specs.declared.lexer.Token.{Token}
use Rattle.nts_text.specs.declared.predicates.Node.{Node}
use Rattle.nts_text.specs.declared.lexer.TokenKind.TheVariants.{Name}
use Rattle.nts_text.proofs.CountLemmas.{AreCounts, kind_before-behind, counts_open, counts_close, close_no_open, open_brackets-close, counts_token, nodes_behind-other, arguments_behind-open, arguments_behind-other, open_brackets-open, open_brackets-other, fewer_open, role_of-behind, is_open_false, is_close_false, taken-behind, sign-behind, nodes_before, forest_before, small_before, fewer_before, pending}
use Rattle.nts_text.proofs.WordLemmas.{words_of_nodes, tokens_of_nodes}
use Rattle.nts_text.proofs.predicates.nodes_of.Goals as goal

-- what an index gives past the end
abbrev no_token : Token
no_token = record { kind = Name; start = 0; end = 0 }

pub loop-at-preserved-in-Open : goal.loop-at-preserved-in-Open
loop-at-preserved-in-Open c =
    let tokens = c.args.tokens.now in
    let t = get_or tokens (c.loop-at.at - 1) no_token in
    let rest = drop c.loop-at.at tokens in
    let next : suc (c.loop-at.at - 1) ≡ c.loop-at.at = omega (arith, c.loop-at-test.true) in
    let split = drop-cons tokens (c.loop-at.at - 1) no_token (omega (arith, c.loop-at-test.true, c.loop-at.invariant.placed))
    ∙ ap (λ k. get_or tokens (c.loop-at.at - 1) no_token ∷ drop k tokens) next in
    let opens = ap is_open c.in-Open.is in
    let b = kind_before tokens (c.loop-at.at - 1) in
    let placed : c.loop-at.at - 1 < length tokens = omega (arith, c.loop-at-test.true, c.loop-at.invariant.placed) in
    let was = c.loop-at.invariant.nodes ∙ ap (λ k. nodes_behind k rest) (ap (kind_before tokens) (sym next) ∙ kind_before-behind tokens (c.loop-at.at - 1) no_token placed) in
    let depth : c.len-depth.result ≡ open_brackets rest = grind (arith, common_steps, c.len-depth.ensures, c.loop-at.invariant.unclosed) in
    record {
      placed = omega (arith, c.loop-at.invariant.placed);
      nodes = was ∙ sym (ap (nodes_behind b) split ∙ nodes_behind-other b t rest (ap is_word c.in-Open.is));
      counts = subst (λ count. AreCounts (count ∷ reverse c.pop.new.self.items) (drop (c.loop-at.at - 1) tokens)) (sym c.unwrap_or-count.ensures)
          (subst (AreCounts (unwrap_or c.pop.result 0 ∷ reverse c.pop.new.self.items)) (sym split)
          (counts_open _ _ _ _ t rest c.pop.ensures.items (λ h. grind (arith, common_steps, h, c.pop.ensures.cases)) opens c.loop-at.invariant.counts));
      behind = c.loop-at.invariant.counts 0 ∙ sym (ap arguments_behind split ∙ arguments_behind-open t rest opens);
      binding = c.binding_before-binding.ensures ∙ ap (binding_before t.kind) c.loop-at.invariant.binding ∙ sym (ap is_binding split);
      unclosed = fewer_open c.loop-at.outer.items c.pop.new.self.items c.pop.result (open_brackets rest) c.pop.ensures.items (λ h. grind (arith, common_steps, h, c.pop.ensures.cases)) c.loop-at.invariant.unclosed
          ∙ sym (ap open_brackets split ∙ open_brackets-open t rest opens);
      sign = sign-behind t _ _ _ _ rest c.sign_before-sign.ensures depth (c.loop-at.invariant.counts 0) c.loop-at.invariant.sign ∙ sym (ap next_sign split);
      forest = grind (arith, common_steps, c.loop-at.invariant.forest, c.sign_before-sign.ensures, c.in-Open.is, c.pop.ensures.items, c.unwrap_or-count.ensures);
      small = grind (arith, common_steps, c.loop-at.invariant.small, c.sign_before-sign.ensures, c.in-Open.is, c.pop.ensures.items, c.unwrap_or-count.ensures);
    }

pub loop-at-preserved-in-Close : goal.loop-at-preserved-in-Close
loop-at-preserved-in-Close c =
    let tokens = c.args.tokens.now in
    let t = get_or tokens (c.loop-at.at - 1) no_token in
    let rest = drop c.loop-at.at tokens in
    let next : suc (c.loop-at.at - 1) ≡ c.loop-at.at = omega (arith, c.loop-at-test.true) in
    let split = drop-cons tokens (c.loop-at.at - 1) no_token (omega (arith, c.loop-at-test.true, c.loop-at.invariant.placed))
    ∙ ap (λ k. get_or tokens (c.loop-at.at - 1) no_token ∷ drop k tokens) next in
    let b = kind_before tokens (c.loop-at.at - 1) in
    let placed : c.loop-at.at - 1 < length tokens = omega (arith, c.loop-at-test.true, c.loop-at.invariant.placed) in
    let was = c.loop-at.invariant.nodes ∙ ap (λ k. nodes_behind k rest) (ap (kind_before tokens) (sym next) ∙ kind_before-behind tokens (c.loop-at.at - 1) no_token placed) in
    let closes = ap is_close c.in-Close.is in
    let depth : c.len-depth.result ≡ open_brackets rest = grind (arith, common_steps, c.len-depth.ensures, c.loop-at.invariant.unclosed) in
    let pushed = c.in_ok-push-in-Close.ensures.items in
    record {
      placed = omega (arith, c.loop-at.invariant.placed);
      nodes = was ∙ sym (ap (nodes_behind b) split ∙ nodes_behind-other b t rest (ap is_word c.in-Close.is));
      counts = subst (AreCounts (0 ∷ reverse c.push.new.self.items)) (sym split) (counts_close c.loop-at.count c.loop-at.outer.items c.push.new.self.items t rest pushed closes c.loop-at.invariant.counts);
      behind = sym (ap arguments_behind split ∙ arguments_behind-other t rest (close_no_open t.kind closes));
      binding = c.binding_before-binding.ensures ∙ ap (binding_before t.kind) c.loop-at.invariant.binding ∙ sym (ap is_binding split);
      unclosed = grind (arith, common_steps, pushed, c.loop-at.invariant.unclosed, length-append c.loop-at.outer.items (c.loop-at.count ∷ []), open_brackets-close t rest closes, ap open_brackets split);
      sign = sign-behind t _ _ _ _ rest c.sign_before-sign.ensures depth (c.loop-at.invariant.counts 0) c.loop-at.invariant.sign ∙ sym (ap next_sign split);
      forest = grind (arith, common_steps, c.loop-at.invariant.forest, c.sign_before-sign.ensures, c.in-Close.is, pushed);
      small = grind (arith, common_steps, c.loop-at.invariant.small, c.sign_before-sign.ensures, c.in-Close.is, pushed);
    }

pub returns-clause-words : goal.returns-clause-words
returns-clause-words c = grind (arith, common_steps, words_of_nodes c.args.tokens.now, c.reverse.ensures.items, c.loop-at.invariant.nodes, c.loop-at-test.false)

pub returns-clause-tokens : goal.returns-clause-tokens
returns-clause-tokens c =
    let nodes : c.reverse.new.self.items ≡ written_nodes c.args.tokens.now = grind (arith, common_steps, c.reverse.ensures.items, c.loop-at.invariant.nodes, c.loop-at-test.false) in
    rw nodes (tokens_of_nodes c.args.tokens.now)

pub loop-at-preserved-in_ok-push_word-in_default : goal.loop-at-preserved-in_ok-push_word-in_default
loop-at-preserved-in_ok-push_word-in_default c =
    let tokens = c.args.tokens.now in
    let t = get_or tokens (c.loop-at.at - 1) no_token in
    let rest = drop c.loop-at.at tokens in
    let next : suc (c.loop-at.at - 1) ≡ c.loop-at.at = omega (arith, c.loop-at-test.true) in
    let split = drop-cons tokens (c.loop-at.at - 1) no_token (omega (arith, c.loop-at-test.true, c.loop-at.invariant.placed))
    ∙ ap (λ k. get_or tokens (c.loop-at.at - 1) no_token ∷ drop k tokens) next in
    let b = kind_before tokens (c.loop-at.at - 1) in
    let placed : c.loop-at.at - 1 < length tokens = omega (arith, c.loop-at-test.true, c.loop-at.invariant.placed) in
    let was = c.loop-at.invariant.nodes ∙ ap (λ k. nodes_behind k rest) (ap (kind_before tokens) (sym next) ∙ kind_before-behind tokens (c.loop-at.at - 1) no_token placed) in
    let opens : is_open t.kind ≡ false = is_open_false t.kind (λ h. c.in_default.not-Open (grind (arith, h, c.in_default.kind-is))) in
    let closes : is_close t.kind ≡ false = is_close_false t.kind (λ h. c.in_default.not-Close (grind (arith, h, c.in_default.kind-is))) in
    let word : is_word t.kind ≡ true = grind (arith, c.in_default.kind-is, c.is_word.ensures, c.if-is_word.true) in
    let depth : c.len-depth.result ≡ open_brackets rest = grind (arith, common_steps, c.len-depth.ensures, c.loop-at.invariant.unclosed) in
    let role = role_of-behind c.kind_before-before.result b t.kind c.loop-at.binding c.len-depth.result c.loop-at.sign rest c.role_of-role.result c.role_of-role.ensures c.kind_before-before.ensures c.loop-at.invariant.binding depth c.loop-at.invariant.sign in
    let taken = taken-behind c.len-depth.result c.loop-at.sign c.taken_sign-taken.result rest c.taken_sign-taken.ensures depth c.loop-at.invariant.sign in
    let pushed = c.in_ok-push_word-in_default.ensures in
    let trees = sum c.loop-at.outer.items in
    let n : Node = record { token = t; arguments = c.loop-at.arguments; role = c.role_of-role.result } in
    let counted : vec_len c.push_word.new.nodes ≡ vec_len c.loop-at.nodes + length (behind_sign n c.taken_sign-taken.result) =
    grind (arith, common_steps, pushed, length-append c.loop-at.nodes.items (reverse (behind_sign n c.taken_sign-taken.result)), length-reverse (behind_sign n c.taken_sign-taken.result)) in
    record {
      placed = omega (arith, c.loop-at.invariant.placed);
      nodes = nodes_before b t c.loop-at.arguments c.role_of-role.result c.taken_sign-taken.result c.loop-at.nodes.items c.push_word.new.nodes.items rest word c.loop-at.invariant.behind role taken was pushed
          ∙ sym (ap (nodes_behind b) split);
      counts = subst (λ k. AreCounts (k ∷ reverse c.loop-at.outer.items) (drop (c.loop-at.at - 1) tokens)) (sym c.trees_before-count.ensures)
          (subst (AreCounts (trees_before t.kind c.loop-at.count ∷ reverse c.loop-at.outer.items)) (sym split) (counts_token c.loop-at.count (reverse c.loop-at.outer.items) t rest opens closes c.loop-at.invariant.counts));
      behind = sym (ap arguments_behind split ∙ arguments_behind-other t rest opens);
      binding = c.binding_before-binding.ensures ∙ ap (binding_before t.kind) c.loop-at.invariant.binding ∙ sym (ap is_binding split);
      unclosed = c.loop-at.invariant.unclosed ∙ sym (ap open_brackets split ∙ open_brackets-other t rest opens closes);
      sign = sign-behind t _ _ _ _ rest c.sign_before-sign.ensures depth (c.loop-at.invariant.counts 0) c.loop-at.invariant.sign ∙ sym (ap next_sign split);
      forest = forest_before trees c.loop-at.count c.len-depth.result c.trees_before-count.result t n c.loop-at.sign c.taken_sign-taken.result c.sign_before-sign.result c.loop-at.nodes.items c.push_word.new.nodes.items
          word c.trees_before-count.ensures c.taken_sign-taken.ensures c.sign_before-sign.ensures pushed c.loop-at.invariant.forest;
      small = small_before trees c.loop-at.count c.loop-at.arguments c.len-depth.result c.trees_before-count.result t n c.loop-at.sign c.taken_sign-taken.result c.sign_before-sign.result (vec_len c.loop-at.nodes) (vec_len c.push_word.new.nodes)
          word c.trees_before-count.ensures c.taken_sign-taken.ensures c.sign_before-sign.ensures counted c.loop-at.invariant.small;
    }

pub loop-at-preserved : goal.loop-at-preserved
loop-at-preserved c =
    let tokens = c.args.tokens.now in
    let t = get_or tokens (c.loop-at.at - 1) no_token in
    let rest = drop c.loop-at.at tokens in
    let next : suc (c.loop-at.at - 1) ≡ c.loop-at.at = omega (arith, c.loop-at-test.true) in
    let split = drop-cons tokens (c.loop-at.at - 1) no_token (omega (arith, c.loop-at-test.true, c.loop-at.invariant.placed))
    ∙ ap (λ k. get_or tokens (c.loop-at.at - 1) no_token ∷ drop k tokens) next in
    let b = kind_before tokens (c.loop-at.at - 1) in
    let placed : c.loop-at.at - 1 < length tokens = omega (arith, c.loop-at-test.true, c.loop-at.invariant.placed) in
    let was = c.loop-at.invariant.nodes ∙ ap (λ k. nodes_behind k rest) (ap (kind_before tokens) (sym next) ∙ kind_before-behind tokens (c.loop-at.at - 1) no_token placed) in
    let opens : is_open t.kind ≡ false = is_open_false t.kind (λ h. c.in_default.not-Open (grind (arith, h, c.in_default.kind-is))) in
    let closes : is_close t.kind ≡ false = is_close_false t.kind (λ h. c.in_default.not-Close (grind (arith, h, c.in_default.kind-is))) in
    let word : is_word t.kind ≡ false = grind (arith, c.in_default.kind-is, c.is_word.ensures, c.if-is_word.false) in
    let depth : c.len-depth.result ≡ open_brackets rest = grind (arith, common_steps, c.len-depth.ensures, c.loop-at.invariant.unclosed) in
    let fewer : c.trees_before-count.result + pending c.sign_before-sign.result ≤ c.loop-at.count + pending c.loop-at.sign =
    fewer_before t c.len-depth.result c.loop-at.count c.trees_before-count.result c.loop-at.sign c.sign_before-sign.result word c.trees_before-count.ensures c.sign_before-sign.ensures in
    record {
      placed = omega (arith, c.loop-at.invariant.placed);
      nodes = was ∙ sym (ap (nodes_behind b) split ∙ nodes_behind-other b t rest word);
      counts = subst (λ k. AreCounts (k ∷ reverse c.loop-at.outer.items) (drop (c.loop-at.at - 1) tokens)) (sym c.trees_before-count.ensures)
          (subst (AreCounts (trees_before t.kind c.loop-at.count ∷ reverse c.loop-at.outer.items)) (sym split) (counts_token c.loop-at.count (reverse c.loop-at.outer.items) t rest opens closes c.loop-at.invariant.counts));
      behind = sym (ap arguments_behind split ∙ arguments_behind-other t rest opens);
      binding = c.binding_before-binding.ensures ∙ ap (binding_before t.kind) c.loop-at.invariant.binding ∙ sym (ap is_binding split);
      unclosed = c.loop-at.invariant.unclosed ∙ sym (ap open_brackets split ∙ open_brackets-other t rest opens closes);
      sign = sign-behind t _ _ _ _ rest c.sign_before-sign.ensures depth (c.loop-at.invariant.counts 0) c.loop-at.invariant.sign ∙ sym (ap next_sign split);
      forest = λ k h. c.loop-at.invariant.forest k (omega (arith, h, fewer));
      small = omega (arith, c.loop-at.invariant.small, fewer);
    }
