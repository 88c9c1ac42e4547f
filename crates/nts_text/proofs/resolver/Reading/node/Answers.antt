use Rattle.std.proofs.Common.{◌≡◌, sym, ◌∙◌}
use Rattle.nts_text.specs.declared.predicates.Role.TheVariants.{Bound, Trait, Normalizes, Argument}
use Rattle.nts_text.proofs.ReadingLemmas.{IfOk-map, no_argument}
use Rattle.nts_text.specs.Binders.{bound_names}
use Rattle.nts_text.proofs.resolver.Reading.node.Goals as goal

pub returns-in-Bound-None-clause-means : goal.returns-in-Bound-None-clause-means
returns-in-Bound-None-clause-means c = c.bound.ensures.means c.args.scope.now

pub returns-in-Trait-None-clause-means : goal.returns-in-Trait-None-clause-means
returns-in-Trait-None-clause-means c = c.trait_node.ensures.means c.args.scope.now (bound_names c.args.bounds.now)

-- what stands in front of arguments is no variable
pub returns-in-Bound-None-clause-free : goal.returns-in-Bound-None-clause-free
returns-in-Bound-None-clause-free c = λ is. IfOk-map c.bound.result (λ x m. no_argument x (λ a. let f : Bound ≡ Argument = sym m ∙ a in cc)) c.bound.ensures.role

pub returns-in-Trait-None-clause-free : goal.returns-in-Trait-None-clause-free
returns-in-Trait-None-clause-free c = λ is. IfOk-map c.trait_node.result (λ x m. no_argument x (λ a. let f : Trait ≡ Argument = sym m ∙ a in cc)) c.trait_node.ensures.role

pub returns-in-Normalizes-None-clause-means : goal.returns-in-Normalizes-None-clause-means
returns-in-Normalizes-None-clause-means c = c.alias_node.ensures.means c.args.scope.now (bound_names c.args.bounds.now)

pub returns-in-Normalizes-None-clause-free : goal.returns-in-Normalizes-None-clause-free
returns-in-Normalizes-None-clause-free c = λ is. IfOk-map c.alias_node.result (λ x m. no_argument x (λ a. let f : Normalizes ≡ Argument = sym m ∙ a in cc)) c.alias_node.ensures.role
