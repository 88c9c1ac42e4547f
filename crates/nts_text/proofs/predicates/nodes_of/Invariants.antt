use Rattle.std.proofs.Common.{◌≡◌, ◌+◌, ◌≤◌, ◌∷◌, length, drop, reverse, sum, vec_len}
use Rattle.nts_text.specs.Predicates.{arguments_behind, is_binding, next_sign, open_brackets, kind_before, nodes_behind}
use Rattle.nts_text.proofs.CountLemmas.{AreCounts, IsForestUpTo, pending}
use Rattle.nts_text.proofs.predicates.nodes_of.Given as goal

abbrev pub invariant-loop-at : goal.invariant-loop-at
invariant-loop-at l = record {
  placed : l.at ≤ length l.tokens;
  nodes : reverse l.nodes.items ≡ nodes_behind (kind_before l.tokens l.at) (drop l.at l.tokens);
  counts : AreCounts (l.count ∷ reverse l.outer.items) (drop l.at l.tokens);
  behind : l.arguments ≡ arguments_behind (drop l.at l.tokens);
  binding : l.binding ≡ is_binding (drop l.at l.tokens);
  unclosed : length l.outer.items ≡ open_brackets (drop l.at l.tokens);
  sign : l.sign ≡ next_sign (drop l.at l.tokens);
  forest : IsForestUpTo (sum l.outer.items + l.count + l.arguments + pending l.sign) (reverse l.nodes.items);
  small : sum l.outer.items + l.count + l.arguments + pending l.sign ≤ vec_len l.nodes;
}

abbrev pub decreases-loop-at : goal.decreases-loop-at
decreases-loop-at l = l.at
