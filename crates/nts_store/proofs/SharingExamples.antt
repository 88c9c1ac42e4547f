-- A store with two different trees, and lists in which one tree stands twice.
use Rattle.std.proofs.Common.{◌≡◌, ℕ, zero, suc, ◌<◌, List, [], ◌∷◌, length, get_or, refl, ap, arith}
use Rattle.nts_model.specs.declared.labels.ListHead.TheVariants as list
use Rattle.nts_model.specs.declared.labels.Label.TheVariants as label
use Rattle.nts_model.specs.Terms.Trees.{Tree, empty, node}
use Rattle.nts_store.specs.declared.nodes.NodeId.{NodeId}
use Rattle.nts_store.specs.Growth.{AreApart, IsTheOne}

-- a list of no arguments, and one of no predicates
abbrev arguments : Tree
arguments = node (label.List list.Args) empty

abbrev environment : Tree
environment = node (label.List list.Env) empty

abbrev both : List Tree
both = arguments ∷ environment ∷ []

abbrev twice : List Tree
twice = arguments ∷ arguments ∷ []

abbrev term : ℕ → NodeId
term n = record { number = n }

only_first : (n : ℕ) → n < length both → get_or both n empty ≡ arguments → n ≡ 0
only_first zero h e = refl
only_first (suc zero) h e = cc
only_first (suc (suc n)) h e = absurd (omega arith)

-- in a store of different trees each is the one with its tree
pub first_is_the_one : IsTheOne both (term 0)
first_is_the_one u h e = ap term (only_first u.number h e)

-- what a store that always appends would have: neither of the two is the one with its tree, and the list is no store
pub twice_is_not_the_one : IsTheOne twice (term 0) → ⊥
twice_is_not_the_one h = let e : 1 ≡ 0 = ap (λ t. t.number) (h (term 1) (omega arith) refl) in cc e

pub twice_is_no_store : AreApart twice → ⊥
twice_is_no_store h = let e : 0 ≡ 1 = h 0 1 (omega arith) (omega arith) refl in cc e
