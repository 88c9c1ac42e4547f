-- The nodes of tokens that are inside a line are inside it too.
use Rattle.std.proofs.Common.{◌≡◌, ℕ, List, [], All, sym, subst}
use Rattle.std.specs.Prelude.{Contains}
use Rattle.std.proofs.lemmas.List.Elements.{All-nil, All-weaker, All-contains}
use Rattle.nts_text.specs.Tokens.{IsInside}
use Rattle.nts_text.specs.declared.lexer.Token.{Token}
use Rattle.nts_text.specs.declared.predicates.Node.{Node}

pub inside_nodes : (line : List ℕ) (ns : List Node) (ts : List Token) → All (λ n. Contains ts n.token) ns → All (IsInside line) ts → All (λ n. IsInside line n.token) ns
inside_nodes line ns ts each all =
    All-weaker (λ n. Contains ts n.token) (λ n. IsInside line n.token) (λ n among. All-contains (IsInside line) ts n.token all among) ns each

pub none_inside : (line : List ℕ) (ns : List Node) → ns ≡ [] → All (λ n. IsInside line n.token) ns
none_inside line ns e = subst (All (λ n. IsInside line n.token)) (sym e) (All-nil (λ n. IsInside line n.token))
