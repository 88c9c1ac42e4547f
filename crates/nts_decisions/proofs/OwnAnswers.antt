-- A query all of whose positions are placeholders answers them with themselves, in order.
use Rattle.std.proofs.Common.{◌≡◌, inl, inr, ℕ, suc, ◌+◌, ◌<◌, false, List, [], ◌∷◌, map, length, slice_get, Some, refl, sym, ap, subst, ◌∙◌, arith}
use Rattle.std.specs.List.{position_or_len}
use Rattle.nts_model.specs.declared.labels.FreeRegion.TheVariants as region
use Rattle.nts_model.specs.declared.labels.Constant.TheVariants as constant
use Rattle.nts_model.specs.declared.labels.Leaf.{Leaf}
use Rattle.nts_model.specs.declared.labels.Leaf.TheVariants as leaf
use Rattle.nts_model.specs.Terms.Trees.{Tree, empty, sort_of_leaf}
use Rattle.nts_model.specs.Tables.Contents.{Content}
use Rattle.nts_model.specs.Terms.Substitutions.{leaf_tree}
use Rattle.nts_model.specs.Lists.{Among}
use Rattle.nts_model.specs.Canonical.Numbered.{number, added, seen, position}
use Rattle.nts_model.specs.Canonical.Inputs.{placeholder, share}
use Rattle.nts_model.specs.Answers.Responses.{Findings, response_of, value_row, constraint_row, hidden_row, goal_row, own_leaves, positioned, is_fixed, answer_kind, answer_kinds, IsIdentity, ends, next}
use Rattle.nts_model.proofs.Terms.Listed.{tell, same-no, same-yes, differ, among-added, added-has, number-added}
use Rattle.nts_model.proofs.Canonical.Numbering.{Extends, extends-self, extends-trans, extends-seen}
use Rattle.nts_decisions.specs.Queries.{AreOwn}

-- the placeholder of the root with this name
pub data IsRootPlaceholder : ℕ → Leaf → Type 0 where
  of_type : {n : ℕ} → IsRootPlaceholder n (leaf.TyConstant (constant.Placeholder 0 n))
  of_const : {n : ℕ} → IsRootPlaceholder n (leaf.ConstConstant (constant.Placeholder 0 n))
  of_region : {n : ℕ} → IsRootPlaceholder n (leaf.Region (region.Placeholder 0 n))

abbrev pub AreRootPlaceholders : ℕ → List Leaf → Type 0
AreRootPlaceholders n [] = Unit {0}
AreRootPlaceholders n (l ∷ ls) = IsRootPlaceholder n l × AreRootPlaceholders (suc n) ls

abbrev name_of : Leaf → ℕ
name_of (leaf.TyConstant (constant.Placeholder u n)) = n
name_of (leaf.ConstConstant (constant.Placeholder u n)) = n
name_of (leaf.Region (region.Placeholder u n)) = n
name_of l = 0

named_so : (n : ℕ) (l : Leaf) → IsRootPlaceholder n l → name_of l ≡ n
named_so n l of_type = refl
named_so n l of_const = refl
named_so n l of_region = refl

not_fixed : (n : ℕ) (l : Leaf) → IsRootPlaceholder n l → is_fixed l ≡ false
not_fixed n l of_type = refl
not_fixed n l of_const = refl
not_fixed n l of_region = refl

its_kind : (c : Content) (f n : ℕ) (l : Leaf) → IsRootPlaceholder n l → answer_kind c 0 f l ≡ placeholder (sort_of_leaf l) 0 n
its_kind c f n l of_type = refl
its_kind c f n l of_const = refl
its_kind c f n l of_region = refl

-- what stands at a leaf's number
next_one : {X : Type 0} (x : X) (xs : List X) (n : ℕ) → slice_get (x ∷ xs) (1 + n) ≡ slice_get xs n
next_one x xs n = (let e : 1 + n ≡ suc n = omega arith in rw e refl)

at_number : {X : Type 0} (f : Leaf → X) (s : List Leaf) (l : Leaf) → Among s l → slice_get (map f s) (number s l) ≡ Some (f l)
at_number f [] l i = absurd i
at_number f (x ∷ xs) l h = elim (tell l x) [
  | inl p ↦ rw (same-yes l x p) (ap (λ z. Some (f z)) (sym p))
  | inr e ↦ rw e (next_one (f x) (map f xs) (number xs l) ∙ at_number f xs l (elim h [ inl p ↦ absurd (differ l x e p) | inr q ↦ q ]))
]

new_number : (s : List Leaf) (l : Leaf) → (Among s l → ⊥) → number s l ≡ length s
new_number [] l n = refl
new_number (x ∷ xs) l n = rw (same-no l x (λ p. n (inl p))) (let e : number xs l ≡ length xs = new_number xs l (λ i. n (inr i)) in omega (arith, e))

longer : (s : List Leaf) (l : Leaf) → (Among s l → ⊥) → length (added s l) ≡ suc (length s)
longer [] l n = refl
longer (x ∷ xs) l n = rw (same-no l x (λ p. n (inl p))) (let e : length (added xs l) ≡ suc (length xs) = longer xs l (λ i. n (inr i)) in omega (arith, e))

-- the leaves that were seen have lower names
abbrev AreBelow : ℕ → List Leaf → Type 0
AreBelow k s = (x : Leaf) → Among s x → name_of x < k

-- leaf by leaf, the number is the name
abbrev AreNumbered : List Leaf → ℕ → List Leaf → Type 0
AreNumbered u k [] = Unit {0}
AreNumbered u k (l ∷ ls) = (number u l ≡ k) × Among u l × AreNumbered u (suc k) ls

in_order : (ls : List Leaf) (r : Tree) (k : ℕ) (s u : List Leaf) → AreRootPlaceholders k ls → length s ≡ k → AreBelow k s → Extends (seen is_fixed s (value_row (map leaf_tree ls) r)) u → AreNumbered u k ls
in_order [] r k s u p e b x = tt
in_order (l ∷ ls) r k s u p e b x =
    let named : name_of l ≡ k = named_so k l p.0 in
    let new : Among s l → ⊥ = λ i. (let q : name_of l < k = b l i in omega (arith, q, named)) in
    let here : seen is_fixed s (leaf_tree l) ≡ added s l = rw (not_fixed k l p.0) refl in
    let x1 : Extends (seen is_fixed (added s l) (value_row (map leaf_tree ls) r)) u = subst (λ z. Extends (seen is_fixed z (value_row (map leaf_tree ls) r)) u) here x in
    let all : Extends (added s l) u = extends-trans (extends-seen is_fixed (added s l) (value_row (map leaf_tree ls) r)) x1 in
    let long : length (added s l) ≡ suc k = longer s l new ∙ ap suc e in
    let below : AreBelow (suc k) (added s l) =
    λ y i. elim (among-added s l y i) [ inl q ↦ (let t : name_of y ≡ k = ap name_of q ∙ named in omega (arith, t)) | inr j ↦ (let t : name_of y < k = b y j in omega (arith, t)) ] in
    (all.kept l (added-has s l) ∙ number-added s l ∙ new_number s l new ∙ e, all.within l (added-has s l), in_order ls r (suc k) (added s l) u p.1 long below x1)

are_identity : (u : List Leaf) (k : ℕ) (ls : List Leaf) → AreRootPlaceholders k ls → AreNumbered u k ls → IsIdentity k (map (positioned u) (map leaf_tree ls))
are_identity u k [] p n = ends
are_identity u k (l ∷ ls) p n =
    let is : positioned u (leaf_tree l) ≡ position (sort_of_leaf l) k = rw (not_fixed k l p.0, n.0) refl in
    subst (λ z. IsIdentity k (z ∷ map (positioned u) (map leaf_tree ls))) (sym is) (next (sort_of_leaf l) (are_identity u (suc k) ls p.1 n.2))

are_own : (c : Content) (roots : ℕ → ℕ) (u : List Leaf) (k : ℕ) (ls : List Leaf) (os : List Tree) → AreRootPlaceholders k ls → AreNumbered u k ls → length os ≡ length ls
    → AreOwn (answer_kinds c roots 0 u) k (map (positioned u) (map leaf_tree ls)) os
are_own c roots u k [] [] p n e = tt
are_own c roots u k [] (o ∷ os) p n e = absurd (cc e)
are_own c roots u k (l ∷ ls) [] p n e = absurd (cc e)
are_own c roots u k (l ∷ ls) (o ∷ os) p n e = (
  record {
    sort = sort_of_leaf l;
    at = k;
    is = rw (not_fixed k l p.0, n.0) refl;
    kind =
        subst (λ z. slice_get (answer_kinds c roots 0 u) z ≡ Some (placeholder (sort_of_leaf l) 0 k)) n.0
        (at_number (λ x. answer_kind c 0 (position_or_len (share roots x) u) x) u l n.1 ∙ ap Some (its_kind c (position_or_len (share roots l) u) k l p.0));
  },
  are_own c roots u (suc k) ls os p.1 n.2 (omega (arith, e)),
)

-- the response of the table of such a query: its values are the positions in order, and each stands for its original
pub own_answer : (c : Content) (roots : ℕ → ℕ) (x : Findings) (ls : List Leaf) (os : List Tree) → x.values ≡ map leaf_tree ls → AreRootPlaceholders 0 ls → length os ≡ length ls
    → (let r = response_of c roots 0 x in let f = r.findings in IsIdentity 0 f.values × AreOwn r.kinds 0 f.values os)
own_answer c roots x ls os v p e =
    let u : List Leaf = own_leaves x in
    let row : Tree = constraint_row x.constraints (hidden_row x.hidden (goal_row x.open_goals empty)) in
    let all : Extends (seen is_fixed [] (value_row (map leaf_tree ls) row)) u = subst (λ z. Extends (seen is_fixed [] (value_row z row)) u) v (extends-self u) in
    let n : AreNumbered u 0 ls = in_order ls row 0 [] u p refl (λ y i. absurd i) all in
    let values : map (positioned u) x.values ≡ map (positioned u) (map leaf_tree ls) = ap (map (positioned u)) v in
    (subst (IsIdentity 0) (sym values) (are_identity u 0 ls p n), subst (λ z. AreOwn (answer_kinds c roots 0 u) 0 z os) (sym values) (are_own c roots u 0 ls os p n e))
