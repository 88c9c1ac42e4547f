-- What is as a trait is declared, and what is not.
use Rattle.std.proofs.Common.{◌≡◌, ◌<◌, [], ◌∷◌, length, get_or, Some, refl, sym, subst, arith}
use Rattle.nts_model.specs.declared.labels.FreeRegion.TheVariants as free
use Rattle.nts_model.specs.declared.labels.Label.TheVariants as label
use Rattle.nts_model.specs.declared.labels.Leaf.TheVariants as leaf
use Rattle.nts_model.specs.declared.labels.Sort.TheVariants as sort
use Rattle.nts_model.specs.declared.labels.TyHead.TheVariants as ty
use Rattle.nts_model.specs.declared.labels.UintTy.TheVariants.{U8}
use Rattle.nts_model.specs.Terms.Trees.{Tree, empty, node, of_sort}
use Rattle.nts_terms.specs.Signatures.{Declared, nothing_declared, with_trait}
use Rattle.nts_delegate.specs.declared.clauses.Clause.{Clause}
use Rattle.nts_wording.specs.Fitting.{AreTraitArguments, HeadFits}
use Rattle.nts_wording.specs.Meaning.{argument_list}

-- `trait Clone(type)`
abbrev cloning : Declared
cloning = with_trait nothing_declared (sort.Ty ∷ [])

abbrev type_u8 : Tree
type_u8 = node (label.Ty (ty.Uint U8)) empty

abbrev static : Tree
static = node (label.Leaf (leaf.Region free.Static)) empty

-- `Clone(u8)`
one_type : AreTraitArguments cloning 0 (argument_list (type_u8 ∷ []))
one_type = record { list = refl; declared = (refl, tt) }

-- `Clone(u8, u8)` has an argument too many, and `Clone()` one too few
too_many : AreTraitArguments cloning 0 (argument_list (type_u8 ∷ type_u8 ∷ [])) → ⊥
too_many h = let d = h.declared in d.1

too_few : AreTraitArguments cloning 0 (argument_list []) → ⊥
too_few h = h.declared

-- `Clone('static)` has one of another sort
other_sort : AreTraitArguments cloning 0 (argument_list (static ∷ [])) → ⊥
other_sort h =
    let d = h.declared in
    let e : Some (of_sort sort.Region) ≡ Some (of_sort sort.Ty) = d.0 in
    cc

-- a trait that is not declared has none
undeclared : AreTraitArguments cloning 1 (argument_list (type_u8 ∷ [])) → ⊥
undeclared h = h.declared

-- the head of a clause, by the term that it is
head_of_one : (c : Clause) → c.head.node.number ≡ 0 → HeadFits cloning (argument_list (type_u8 ∷ []) ∷ []) 0 c
head_of_one c e = record {
  within = subst (λ k. k < length (argument_list (type_u8 ∷ []) ∷ [])) (sym e) (omega arith);
  given = subst (λ k. AreTraitArguments cloning 0 (get_or (argument_list (type_u8 ∷ []) ∷ []) k empty)) (sym e) one_type;
}

head_of_two : (c : Clause) → c.head.node.number ≡ 0 → HeadFits cloning (argument_list (type_u8 ∷ type_u8 ∷ []) ∷ []) 0 c → ⊥
head_of_two c e h = too_many (subst (λ k. AreTraitArguments cloning 0 (get_or (argument_list (type_u8 ∷ type_u8 ∷ []) ∷ []) k empty)) e h.given)
