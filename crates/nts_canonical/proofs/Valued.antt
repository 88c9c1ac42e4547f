-- The values that are made so far, and that the table knows them.
use Rattle.std.proofs.Common.{◌≡◌, ◌⊎◌, inl, inr, ℕ, zero, suc, ◌+◌, ◌<◌, ◌≤◌, List, [], ◌∷◌, ◌++◌, map, length, take, get_or, Some, refl, sym, ap, subst, ◌∙◌, arith}
use Rattle.std.specs.Prelude.{slice_get, All}
use Rattle.std.proofs.lemmas.Option.{slice_get-get_or, slice_get_within}
use Rattle.std.proofs.lemmas.Bool.{cases_lt}
use Rattle.std.proofs.lemmas.List.{get_or-map, length-take-le, take_more}
use Rattle.nts_model.specs.declared.labels.Sort.TheVariants as sort
use Rattle.nts_model.specs.declared.labels.FreeRegion.TheVariants as region
use Rattle.nts_model.specs.declared.labels.Leaf.{Leaf}
use Rattle.nts_model.specs.declared.labels.Leaf.TheVariants as leaf
use Rattle.nts_model.specs.Terms.Trees.{Tree, empty}
use Rattle.nts_model.specs.Tables.Resolving.{Knows}
use Rattle.nts_model.specs.Terms.Substitutions.{leaf_tree}
use Rattle.nts_model.specs.Canonical.Inputs.{PositionKind, type_variable, integer_variable, float_variable, const_variable, region_variable, placeholder}
use Rattle.nts_terms.specs.declared.handles.GenericArg.{GenericArg}
use Rattle.nts_store.specs.Growth.{tree_at, Extends}
use Rattle.nts_terms.specs.Handles.{HoldsArg}
use Rattle.nts_unify.specs.Entries.{Entries}
use Rattle.nts_unify.specs.Reading.{content_of, LinksDescend}
use Rattle.nts_unify.proofs.Leading.{kind_at-entry}
use Rattle.nts_canonical.specs.Forms.{trees_of, kind_of_var}
use Rattle.nts_canonical.specs.Kinds.{IsInputKind, AreInputKinds, variables_before, value_leaf, value_leaves, made_variable, made_variables}
use Rattle.nts_model.specs.Answers.Responses.{universe_of_kind}
use Rattle.nts_canonical.specs.Building.{AddsValue, IsPositionValue, IsArgOf}
use Rattle.nts_canonical.specs.Replaced.{AreLeafArgs}
use Rattle.nts_canonical.proofs.PairLists.{AreLeafArgs-kept, AreLeafArgs-push, AreLeafArgs-hold, trees_of-leaves}
use Rattle.nts_canonical.proofs.Making.{some, value-at, length-values, length-made, made-at, made-push, values-push, taken-at}
use Rattle.nts_canonical.proofs.Adding.{IsNextKind, adds_made}
use Rattle.nts_unify.proofs.Changes.{slice_get-map}
use Rattle.nts_canonical.specs.declared.types.CanonicalVarKind.{CanonicalVarKind}

-- kinds of the root universe
abbrev pub AreRootKinds : List PositionKind → Type 0
AreRootKinds ks = (i : ℕ) (k : PositionKind) → slice_get ks i ≡ Some k → universe_of_kind k ≡ 0

input_kind : (ks : List PositionKind) (i : ℕ) (k : PositionKind) → IsInputKind ks i k → universe_of_kind k ≡ 0
input_kind ks i (type_variable u r) h = h.0
input_kind ks i integer_variable h = refl
input_kind ks i float_variable h = refl
input_kind ks i (const_variable u) h = h
input_kind ks i (region_variable u) h = absurd h
input_kind ks i (placeholder s u n) h = h.0

pub root_kinds : (ks : List PositionKind) → AreInputKinds ks → AreRootKinds ks
root_kinds ks h i k q = input_kind ks i k (h i k q)

pub root_universe : (ks : List CanonicalVarKind) (i : ℕ) (k : CanonicalVarKind) (u : ℕ) → AreInputKinds (map kind_of_var ks) → i < length ks → u ≡ universe_of_kind (kind_of_var (get_or ks i k)) → u ≡ 0
root_universe ks i k u h l e = e ∙ root_kinds (map kind_of_var ks) h i _ (slice_get-map kind_of_var ks i _ (slice_get-get_or ks i k l))

-- .. the first of them too
pub root_taken : (ks : List PositionKind) (n : ℕ) → AreRootKinds ks → AreRootKinds (take n ks)
root_taken ks n h i k q = h i k (sym (taken-at ks n i (below ks n i k q)) ∙ q)
  where
    below : (ks : List PositionKind) (n i : ℕ) (k : PositionKind) → slice_get (take n ks) i ≡ Some k → i < n
    below ks zero i k q = cc
    below [] (suc n) i k q = cc
    below (x ∷ ks) (suc n) zero k q = omega arith
    below (x ∷ ks) (suc n) (suc i) k q = let l = below ks n i k q in omega (arith, l)

-- the value of a kind is one of the table that is made
known-kind : (ts : List Tree) (e : Entries) (ks : List PositionKind) (j : ℕ) (k : PositionKind) → e.variables ≡ made_variables [] ks → universe_of_kind k ≡ 0 → slice_get ks j ≡ Some k → Knows (content_of ts e) (leaf_tree (value_leaf k (universe_of_kind k) (variables_before ks j)))
known-kind ts e ks j (type_variable u r) m z h = ((kind_at-entry ts e (variables_before ks j) _ (ap (λ vs. slice_get vs (variables_before ks j)) m ∙ (made-at [] ks j (type_variable u r) h).at), tt, refl), tt, tt)
known-kind ts e ks j integer_variable m z h = ((kind_at-entry ts e (variables_before ks j) _ (ap (λ vs. slice_get vs (variables_before ks j)) m ∙ (made-at [] ks j integer_variable h).at), tt, refl), tt, tt)
known-kind ts e ks j float_variable m z h = ((kind_at-entry ts e (variables_before ks j) _ (ap (λ vs. slice_get vs (variables_before ks j)) m ∙ (made-at [] ks j float_variable h).at), tt, refl), tt, tt)
known-kind ts e ks j (const_variable u) m z h = ((kind_at-entry ts e (variables_before ks j) _ (ap (λ vs. slice_get vs (variables_before ks j)) m ∙ (made-at [] ks j (const_variable u) h).at), tt, refl), tt, tt)
known-kind ts e ks j (region_variable u) m z h = ((kind_at-entry ts e (variables_before ks j) _ (ap (λ vs. slice_get vs (variables_before ks j)) m ∙ (made-at [] ks j (region_variable u) h).at), tt, refl), tt, tt)
known-kind ts e ks j (placeholder sort.Ty u a) m z h = ((tt, omega (arith, z), refl), tt, tt)
known-kind ts e ks j (placeholder sort.Region u a) m z h = ((tt, omega (arith, z), refl), tt, tt)
known-kind ts e ks j (placeholder sort.Const u a) m z h = ((tt, omega (arith, z), refl), tt, tt)

tree-past : {A : Type 0} (f : A → Tree) (xs : List A) (j : ℕ) → length xs ≤ j → get_or (map f xs) j empty ≡ empty
tree-past f [] j l = refl
tree-past f (x ∷ xs) zero l = absurd (omega (arith, l))
tree-past f (x ∷ xs) (suc j) l = tree-past f xs j (omega (arith, l))

value-given : (ks : List PositionKind) (j : ℕ) (d : Leaf) (k : PositionKind) → slice_get ks j ≡ Some k → get_or (value_leaves 0 ks) j d ≡ value_leaf k (universe_of_kind k) (variables_before ks j)
value-given ks j d k h =
    let at = value-at 0 ks j k h in
    let below = slice_get_within (value_leaves 0 ks) j _ at in
    let none : 0 + variables_before ks j ≡ variables_before ks j = omega arith in
    some (sym (slice_get-get_or (value_leaves 0 ks) j d below) ∙ at) ∙ ap (value_leaf k (universe_of_kind k)) none

pub values-known : (ts : List Tree) (e : Entries) (ks : List PositionKind) → e.variables ≡ made_variables [] ks → AreRootKinds ks → (j : ℕ) → Knows (content_of ts e) (get_or (map leaf_tree (value_leaves 0 ks)) j empty)
values-known ts e ks m z j = by_case (cases_lt j (length (value_leaves 0 ks)))
  where
    by_case : (j < length (value_leaves 0 ks)) ⊎ (length (value_leaves 0 ks) ≤ j) → Knows (content_of ts e) (get_or (map leaf_tree (value_leaves 0 ks)) j empty)
    by_case (inr past) = rw (tree-past leaf_tree (value_leaves 0 ks) j past) tt
    by_case (inl below) =
        let is = slice_get-get_or ks j integer_variable (let n = length-values 0 ks in omega (arith, n, below)) in
        let k = get_or ks j integer_variable in
        let d = leaf.Region region.Static in
        rw (get_or-map leaf_tree (value_leaves 0 ks) j d empty below, value-given ks j d k is) (known-kind ts e ks j k m (z j k is) is)

-- as arguments
pub args-known : (ts : List Tree) (e : Entries) (xs : List GenericArg) (ks : List PositionKind) → AreLeafArgs ts xs (value_leaves 0 ks) → e.variables ≡ made_variables [] ks → AreRootKinds ks → All (IsArgOf ts e) xs
args-known ts e xs ks h m z = λ j d l. record {
  holds = AreLeafArgs-hold ts xs (value_leaves 0 ks) h j d l;
  known = subst (Knows (content_of ts e)) (ap (λ us. get_or us j empty) (sym (trees_of-leaves ts xs (value_leaves 0 ks) h)) ∙ get_or-map (λ (x : GenericArg). tree_at ts x.node) xs j d empty l) (values-known ts e ks m z j);
}

-- the kind of a position goes with the kinds before it
kind-kept : (ks ls : List PositionKind) (i : ℕ) (k : PositionKind) → ((r : ℕ) → r ≤ i → slice_get ls r ≡ slice_get ks r) → IsInputKind ks i k → IsInputKind ls i k
kind-kept ks ls i (type_variable u r) h q = (q.0, q.1, h r q.1 ∙ q.2)
kind-kept ks ls i integer_variable h q = q
kind-kept ks ls i float_variable h q = q
kind-kept ks ls i (const_variable u) h q = q
kind-kept ks ls i (region_variable u) h q = q
kind-kept ks ls i (placeholder s u n) h q = q

take-next : (ks : List PositionKind) (i : ℕ) (k : PositionKind) → slice_get ks i ≡ Some k → take (i + 1) ks ≡ take i ks ++ k ∷ []
take-next ks i k h =
    let below = slice_get_within ks i k h in
    take_more ks i k below ∙ ap (λ x. take i ks ++ x ∷ []) (some (sym (slice_get-get_or ks i k below) ∙ h))

next-kind : (ks : List PositionKind) (i : ℕ) (k : PositionKind) → AreInputKinds ks → slice_get ks i ≡ Some k → IsNextKind (take i ks) k
next-kind ks i k q h =
    let long : length (take i ks) ≡ i = length-take-le i ks (let l = slice_get_within ks i k h in omega (arith, l)) in
    record { kind = rw (long, ← take-next ks i k h) (kind-kept ks (take (i + 1) ks) i k (λ r l. taken-at ks (i + 1) r (omega (arith, l))) (q i k h)) }

-- what is made after the first i kinds
pub record MadeSoFar (ts : List Tree) (values : List GenericArg) (e f : Entries) (ks : List PositionKind) : Type 0 where
  pub args : AreLeafArgs ts values (value_leaves 0 ks)
  pub entries : f ≡ record e { variables = made_variables [] ks }

-- .. and one more
pub made_more : (a b : List Tree) (xs zs : List GenericArg) (x : GenericArg) (e f g : Entries) (ks : List PositionKind) (i : ℕ) (k : PositionKind) (u : ℕ) (ys : List GenericArg) → MadeSoFar a xs e f (take i ks) → AreInputKinds ks → slice_get ks i ≡ Some k → LinksDescend f → Extends a b → HoldsArg b x → IsPositionValue k u (trees_of a ys) f g (tree_at b x.node) → u ≡ universe_of_kind k → ys ≡ xs → zs ≡ xs ++ x ∷ [] → MadeSoFar b zs e g (take (i + 1) ks)
made_more a b xs zs x e f g ks i k u ys h q at d up holds given un same z =
    let v : IsPositionValue k (universe_of_kind k) (trees_of a xs) f g (tree_at b x.node) = subst (λ n. IsPositionValue k n (trees_of a xs) f g (tree_at b x.node)) un (subst (λ us. IsPositionValue k u (trees_of a us) f g (tree_at b x.node)) same given) in
    let ps = take i ks in
    let variables : f.variables ≡ made_variables [] ps = ap (λ (y : Entries). y.variables) h.entries in
    let adds = subst (λ us. AddsValue k (universe_of_kind k) us f g) (trees_of-leaves a xs (value_leaves 0 ps) h.args) v.adds in
    let made = adds_made ps k f g d variables (next-kind ks i k q at) adds in
    let long : length f.variables ≡ variables_before ps (length ps) = ap length variables ∙ length-made [] ps in
    let none : 0 + variables_before ps (length ps) ≡ variables_before ps (length ps) = omega arith in
    let leaf_is : tree_at b x.node ≡ leaf_tree (value_leaf k (universe_of_kind k) (0 + variables_before ps (length ps))) = v.tree ∙ ap (λ n. leaf_tree (value_leaf k (universe_of_kind k) n)) (long ∙ sym none) in
    let args = AreLeafArgs-push b xs (value_leaves 0 ps) x _ (AreLeafArgs-kept a b xs (value_leaves 0 ps) h.args up) (record { within = holds.within; tree = leaf_is }) in
    record {
      args = rw (z, take-next ks i k at, values-push 0 ps k) args;
      entries = rw (take-next ks i k at, made-push [] ps k) (made ∙ (λ j. record (h.entries j) { variables = variables j ++ made_variable ps k }));
    }
