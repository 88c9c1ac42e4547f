-- A goal asked in a query of its own: what is proved there is proved here, once the query's response was applied.
use Rattle.std.proofs.Common.{◌≡◌, map}
use Rattle.nts_model.specs.Terms.Trees.{Tree, more}
use Rattle.nts_model.specs.Terms.Substitutions.{leaf_tree, filled}
use Rattle.nts_model.specs.Canonical.Inputs.{Input, IsInput, originals, canonical_of}
use Rattle.nts_model.proofs.Canonical.CanonicalForms.{originals_give_input}

pub first_part : (a b c d : Tree) → more a b ≡ more c d → a ≡ c
first_part a b c d e = cc e

pub rest_part : (a b c d : Tree) → more a b ≡ more c d → b ≡ d
rest_part a b c d e = cc e

pub given_environment : (i : Input) → IsInput i → filled (map leaf_tree (originals i)) (canonical_of i).environment ≡ i.environment
given_environment i h = first_part _ _ _ _ (originals_give_input i h)

pub given_predicate : (i : Input) → IsInput i → filled (map leaf_tree (originals i)) (canonical_of i).predicate ≡ i.predicate
given_predicate i h = first_part _ _ _ _ (rest_part _ _ _ _ (originals_give_input i h))
