use Rattle.std.proofs.Common.{sym, subst}
use Rattle.nts_store.specs.Growth.{tree_at}
use Rattle.nts_terms.specs.Kinds.{tree_of_statement}
use Rattle.nts_theory.specs.Subtyping.{SaysSubtype, is_subtype, is_coerced}
use Rattle.nts_trying.proofs.subtypes.types_of.Goals as goal

pub returns-in-Subtype-clause-found : goal.returns-in-Subtype-clause-found
returns-in-Subtype-clause-found c = λ ts. subst (λ z. SaysSubtype (tree_at ts c.in-Subtype.a.node) (tree_at ts c.in-Subtype.b.node) (tree_of_statement ts z)) (sym c.in-Subtype.is) (is_subtype c.in-Subtype.a_is_expected)

pub returns-in-Coerce-clause-found : goal.returns-in-Coerce-clause-found
returns-in-Coerce-clause-found c = λ ts. subst (λ z. SaysSubtype (tree_at ts c.in-Coerce.a.node) (tree_at ts c.in-Coerce.b.node) (tree_of_statement ts z)) (sym c.in-Coerce.is) is_coerced
