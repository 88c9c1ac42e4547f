-- No rule of a handler is about subtypes.
use Rattle.std.proofs.Common.{subst}
use Rattle.nts_model.specs.Terms.Trees.{Tree}
use Rattle.nts_model.specs.Derivations.Rules.{statement_of, IsHandlers}
use Rattle.nts_theory.specs.Subtyping.{SaysSubtype, is_subtype, is_coerced, IsSubtyping}

subtype_no_handlers : (a b s : Tree) → SaysSubtype a b s → IsHandlers s → ⊥
subtype_no_handlers a b s (is_subtype x) h = h
subtype_no_handlers a b s is_coerced h = h

pub subtyping_no_handlers : (g a b : Tree) → IsSubtyping g a b → IsHandlers (statement_of g) → ⊥
subtyping_no_handlers g a b is h = subtype_no_handlers a b is.statement is.says (subst (λ z. IsHandlers (statement_of z)) is.binds_nothing h)
