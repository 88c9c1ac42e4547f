-- What the shape of a label says of the children.
use Rattle.std.proofs.Common.{◌≡◌, ◌↔◌, [], ◌∷◌, Some, refl, ap, arith}
use Rattle.nts_model.specs.Terms.Trees.{Tree, empty, more, node, row_length, row_at, HavePlaces, Place, NodeKind, of_sort, arguments, environment, bound_predicate, statement, sort_list, one_sort}
use Rattle.nts_model.specs.declared.labels.Sort.{Sort}
use Rattle.nts_store.specs.Sorts.{sort_of_kind}
use Rattle.nts_terms.specs.Kinds.{IsOne, AreTwo}
use Rattle.nts_model.proofs.Terms.Substituting.{no_children as no_places}

pub one_place : (p : Place) (c : Tree) → HavePlaces (p ∷ []) c → IsOne c
one_place p empty h = absurd h
one_place p (more a b) h = no_places b h.1
one_place p (node l c) h = absurd h

pub two_places : (p q : Place) (c : Tree) → HavePlaces (p ∷ q ∷ []) c → AreTwo c
two_places p q empty h = absurd h
two_places p q (more a b) h = one_place q b h.1
two_places p q (node l c) h = absurd h

pub length_of_one : (c : Tree) → IsOne c → row_length c ≡ 1
length_of_one empty h = absurd h
length_of_one (more a b) h = let e : row_length b ≡ 0 = ap row_length h in omega arith
length_of_one (node l c) h = absurd h

pub length_of_two : (c : Tree) → AreTwo c → row_length c ≡ 2
length_of_two empty h = absurd h
length_of_two (more a b) h = omega (arith, length_of_one b h)
length_of_two (node l c) h = absurd h

pub only_one : (c : Tree) → IsOne c → c ≡ more (row_at c 0) empty
only_one empty h = absurd h
only_one (more a b) h = ap (more a) h
only_one (node l c) h = absurd h

pub only_two : (c : Tree) → AreTwo c → c ≡ more (row_at c 0) (more (row_at c 1) empty)
only_two empty h = absurd h
only_two (more a b) h = ap (more a) (only_one b h)
only_two (node l c) h = absurd h

pub ruleset places = (one_place, two_places, no_places)

pub ruleset counts = (length_of_one, length_of_two, only_one, only_two)

-- a node of a sort
pub of_this_sort : (k : NodeKind) (s : Sort) → sort_of_kind k ≡ Some s → k ≡ of_sort s
of_this_sort (of_sort t) s e = cc
of_this_sort arguments s e = cc
of_this_sort environment s e = cc
of_this_sort bound_predicate s e = cc
of_this_sort statement s e = cc
of_this_sort sort_list s e = cc
of_this_sort one_sort s e = cc

pub ruleset sorts = (of_this_sort)

-- the tests of labels
pub sort_tells : (k : NodeKind) (s : Sort) → (sort_of_kind k ≡ Some s) ↔ (Some k ≡ Some (of_sort s))
sort_tells k s = ((λ e. ap Some (of_this_sort k s e)), λ e. let same : k ≡ of_sort s = cc in rw same refl)

pub ruleset sort_tests = (sort_tells)

pub ruleset list_tests = (sort_tells)
