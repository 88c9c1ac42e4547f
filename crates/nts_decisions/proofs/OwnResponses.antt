-- What any table of such a query answers: the positions in order, each its own original.
use Rattle.std.proofs.Common.{◌≡◌, inl, inr, ℕ, suc, ◌<◌, false, List, [], ◌∷◌, ◌++◌, map, length, refl, sym, ap, subst, ◌∙◌, arith}
use Rattle.std.specs.Prelude.{◌⊎◌}
use Rattle.std.specs.List.{position_or_len}
use Rattle.nts_model.specs.declared.labels.FreeRegion.TheVariants as region
use Rattle.nts_model.specs.declared.labels.Constant.TheVariants as constant
use Rattle.nts_model.specs.declared.labels.Leaf.{Leaf}
use Rattle.nts_model.specs.declared.labels.Leaf.TheVariants as leaf
use Rattle.nts_model.specs.declared.labels.Label.TheVariants as label
use Rattle.nts_model.specs.Terms.Trees.{Tree, empty}
use Rattle.nts_model.specs.Tables.Contents.{Content}
use Rattle.nts_model.specs.Tables.Resolving.{deeply_resolved}
use Rattle.nts_model.specs.Terms.Substitutions.{leaf_tree}
use Rattle.nts_model.specs.Lists.{Among}
use Rattle.nts_model.specs.Canonical.Numbered.{added, seen}
use Rattle.nts_model.specs.Canonical.Inputs.{share}
use Rattle.nts_model.specs.Answers.Responses.{Response, recorded_by, value_row, row_of, own_leaves, positioned, is_fixed, answer_kind, answer_kinds, IsIdentity}
use Rattle.nts_model.proofs.Terms.Listed.{same-no}
use Rattle.nts_model.proofs.Tables.Kept.{deeply_resolved-no_variables}
use Rattle.nts_theory.specs.Telling.{IsResponseOf, AreTermsOfKinds, IsTermOfKind}
use Rattle.nts_decisions.proofs.OwnAnswers.{IsRootPlaceholder, of_type, of_const, of_region, AreRootPlaceholders, own_answer}
use Rattle.nts_decisions.specs.Queries.{AreOwn}

-- placeholders are no variables
stays : (c : Content) (n : ℕ) (l : Leaf) → IsRootPlaceholder n l → deeply_resolved c (leaf_tree l) ≡ leaf_tree l
stays c n l of_type = deeply_resolved-no_variables c (leaf_tree l) refl refl
stays c n l of_const = deeply_resolved-no_variables c (leaf_tree l) refl refl
stays c n l of_region = deeply_resolved-no_variables c (leaf_tree l) refl refl

all_stay : (c : Content) (n : ℕ) (ls : List Leaf) → AreRootPlaceholders n ls → map (deeply_resolved c) (map leaf_tree ls) ≡ map leaf_tree ls
all_stay c n [] p = refl
all_stay c n (l ∷ ls) p = cc (stays c n l p.0, all_stay c (suc n) ls p.1)

pub own_response : (c : Content) (ls : List Leaf) (os : List Tree) (r : Response) → AreRootPlaceholders 0 ls → length os ≡ length ls → IsResponseOf c (map leaf_tree ls) r → (let f = r.findings in IsIdentity 0 f.values × AreOwn r.kinds 0 f.values os)
own_response c ls os r p e s =
    let reads = s.reads in
    let own = own_answer c s.roots s.findings ls os (reads.values ∙ all_stay c 0 ls p) p e in
    rw s.is own

-- where nothing else was found, there are no other positions
abbrev name_of : Leaf → ℕ
name_of (leaf.TyConstant (constant.Placeholder u n)) = n
name_of (leaf.ConstConstant (constant.Placeholder u n)) = n
name_of (leaf.Region (region.Placeholder u n)) = n
name_of l = 0

named_so : (n : ℕ) (l : Leaf) → IsRootPlaceholder n l → name_of l ≡ n
named_so n l of_type = refl
named_so n l of_const = refl
named_so n l of_region = refl

not_fixed : (n : ℕ) (l : Leaf) → IsRootPlaceholder n l → is_fixed l ≡ false
not_fixed n l of_type = refl
not_fixed n l of_const = refl
not_fixed n l of_region = refl

abbrev AreBelow : ℕ → List Leaf → Type 0
AreBelow k s = (x : Leaf) → Among s x → name_of x < k

at_end : (s : List Leaf) (l : Leaf) → (Among s l → ⊥) → added s l ≡ s ++ l ∷ []
at_end [] l n = refl
at_end (x ∷ xs) l n = rw (same-no l x (λ p. n (inl p))) (ap (λ z. x ∷ z) (at_end xs l (λ i. n (inr i))))

among_end : (s : List Leaf) (l x : Leaf) → Among (s ++ l ∷ []) x → Among s x ⊎ (x ≡ l)
among_end [] l x (inl e) = inr e
among_end [] l x (inr i) = absurd i
among_end (y ∷ ys) l x (inl e) = inl (inl e)
among_end (y ∷ ys) l x (inr i) = elim (among_end ys l x i) [ inl j ↦ inl (inr j) | inr e ↦ inr e ]

snoc : (s t : List Leaf) (l : Leaf) → (s ++ l ∷ []) ++ t ≡ s ++ l ∷ t
snoc [] t l = refl
snoc (x ∷ xs) t l = ap (λ z. x ∷ z) (snoc xs t l)

end : (s : List Leaf) → s ++ [] ≡ s
end [] = refl
end (x ∷ xs) = ap (λ z. x ∷ z) (end xs)

row_seen : (k : ℕ) (s ls : List Leaf) → AreRootPlaceholders k ls → AreBelow k s → seen is_fixed s (value_row (map leaf_tree ls) empty) ≡ s ++ ls
row_seen k s [] p b = sym (end s)
row_seen k s (l ∷ ls) p b =
    let named : name_of l ≡ k = named_so k l p.0 in
    let new : Among s l → ⊥ = λ i. (let q : name_of l < k = b l i in omega (arith, q, named)) in
    let here : seen is_fixed s (leaf_tree l) ≡ s ++ l ∷ [] = rw (not_fixed k l p.0) (at_end s l new) in
    let below : AreBelow (suc k) (s ++ l ∷ []) =
    λ y i. elim (among_end s l y i) [ inl j ↦ (let t : name_of y < k = b y j in omega (arith, t)) | inr q ↦ (let t : name_of y ≡ k = ap name_of q ∙ named in omega (arith, t)) ] in
    ap (λ z. seen is_fixed z (value_row (map leaf_tree ls) empty)) here ∙ row_seen (suc k) (s ++ l ∷ []) ls p.1 below ∙ snoc s ls l

own_kind : (c : Content) (f n : ℕ) (l : Leaf) → IsRootPlaceholder n l → IsTermOfKind (answer_kind c 0 f l) (leaf_tree l)
own_kind c f n l of_type = (label.Leaf l, refl, (l, refl, refl))
own_kind c f n l of_const = (label.Leaf l, refl, (l, refl, refl))
own_kind c f n l of_region = (label.Leaf l, refl, (l, refl, refl))

own_kinds : (c : Content) (r : ℕ → ℕ) (all ls : List Leaf) (n : ℕ) → AreRootPlaceholders n ls → AreTermsOfKinds (map (λ l. answer_kind c 0 (position_or_len (share r l) all) l) ls) (map leaf_tree ls)
own_kinds c r all [] n p = tt
own_kinds c r all (l ∷ ls) n p = (own_kind c (position_or_len (share r l) all) n l p.0, own_kinds c r all ls (suc n) p.1)

none_mapped : {A B : Type 0} (f : A → B) (xs : List A) → map f xs ≡ [] → xs ≡ []
none_mapped f [] e = refl
none_mapped f (x ∷ xs) e = absurd (cc e)

pub own_terms : (c : Content) (ls : List Leaf) (r : Response) → AreRootPlaceholders 0 ls → IsResponseOf c (map leaf_tree ls) r → (let f = r.findings in f.constraints ≡ []) → AreTermsOfKinds r.kinds (map leaf_tree ls)
own_terms c ls r p s none =
    let x = s.findings in
    let reads = s.reads in
    let values : x.values ≡ map leaf_tree ls = reads.values ∙ all_stay c 0 ls p in
    let constraints : x.constraints ≡ [] = none_mapped (recorded_by (positioned (own_leaves x))) x.constraints (rw s.is at none) in
    let row : row_of x ≡ value_row (map leaf_tree ls) empty = rw (values, constraints, s.no_hidden, s.no_goals) refl in
    let leaves : own_leaves x ≡ ls = ap (seen is_fixed []) row ∙ row_seen 0 [] ls p (λ y i. absurd i) in
    let kinds : r.kinds ≡ answer_kinds c s.roots 0 ls = ap (λ z. z.kinds) s.is ∙ ap (answer_kinds c s.roots 0) leaves in
    subst (λ z. AreTermsOfKinds z (map leaf_tree ls)) (sym kinds) (own_kinds c s.roots ls ls 0 p)
