-- The response that says nothing can be applied where its input is asked.
use Rattle.std.proofs.Common.{◌≡◌, inl, inr, ⊎_elim, ℕ, zero, suc, ◌+◌, List, [], ◌∷◌, map, length, get_or, Some, refl, sym, ap, ◌∙◌, subst, arith}
use Rattle.std.specs.Prelude.{slice_get, Contains, All}
use Rattle.std.proofs.lemmas.List.{length-map}
use Rattle.nts_model.proofs.Terms.Listed.{map-map}
use Rattle.nts_candidates.specs.Offered.{hidden_of}
use Rattle.nts_response.specs.Replacing.{argument_value}
use Rattle.nts_model.specs.declared.labels.Sort.TheVariants as sort
use Rattle.nts_model.specs.declared.labels.Leaf.{Leaf}
use Rattle.nts_model.specs.Terms.Trees.{Tree, empty, kind_of}
use Rattle.nts_model.specs.Terms.Substitutions.{leaf_tree, Occurs}
use Rattle.nts_model.specs.Lists.{Among}
use Rattle.nts_model.specs.Canonical.Numbered.{position}
use Rattle.nts_model.specs.Canonical.Inputs.{Input, IsInput, PositionKind, type_variable, integer_variable, float_variable, const_variable, region_variable, placeholder, position_kind, canonical_of, originals}
use Rattle.nts_model.specs.Searching.Driving.{sort_at, positions_from, unconstrained}
use Rattle.nts_model.specs.Answers.Responses.{Response as Form, IsLeafFor, IsLeafIn, IsResponseTo, own_leaf, leaves_of_kinds}
use Rattle.nts_theory.proofs.Responses.Initial.{initial_fits, initial_bounded, no_leaf_there as no_leaf}
use Rattle.nts_theory.proofs.Responses.PositionSorts.{below_greatest, contained_among}
use Rattle.nts_theory.proofs.Responses.Querying.{leaf_in_for}
use Rattle.nts_store.specs.declared.nodes.NodeId.{NodeId}
use Rattle.nts_store.specs.Growth.{tree_at}
use Rattle.nts_canonical.specs.declared.types.Canonical.{Canonical}
use Rattle.nts_canonical.specs.Forms.{kind_of_var, trees_of}
use Rattle.nts_response.specs.declared.types.Response.{Response}
use Rattle.nts_response.specs.Applied.{NamesOriginal}
use Rattle.nts_response.specs.Applicable.{IsOverSorts, IsConstraintOver, IsHiddenOver, IsGoalOver, IsKindFor, IsApplicable, response_sorts}
use Rattle.nts_response.specs.Forms.{response_at, recorded_at, premise_at, HoldsResponse}
use Rattle.nts_model.specs.Canonical.Inputs.{CanonicalInput as Shape}
use Rattle.nts_canonical.specs.declared.types.CanonicalInput.{CanonicalInput}
use Rattle.nts_canonical.specs.Building.{kinds_of}
use Rattle.nts_meaning.specs.Answering.{IsQueryInput, IsAnswerTo, TellsNoMore}
use Rattle.nts_theory.specs.Telling.{SaysNothing}
use Rattle.nts_applying.proofs.Answered.{each_view, region_sort}

-- the answer that says nothing does so in each universe
pub nothing_said : (r : Form) (ks : List PositionKind) (u : ℕ) → r ≡ record (unconstrained ks) { max_universe = u } → SaysNothing ks r
nothing_said r ks u e = e ∙ ap (λ z. record (unconstrained ks) { max_universe = z }) (sym (ap (λ (z : Form). z.max_universe) e))

-- a position, of the sort of its kind
record IsPositionIn (ks : List PositionKind) (t : Tree) : Type 0 where
  pub number : ℕ
  pub kind : PositionKind
  pub found : slice_get ks number ≡ Some kind
  pub is : t ≡ position (sort_at kind) number

positions_in : (all : List PositionKind) (b : ℕ) (ks : List PositionKind) → ((j : ℕ) → slice_get all (b + j) ≡ slice_get ks j) → (t : Tree) → Among (positions_from b ks) t → IsPositionIn all t
positions_in all b [] g t i = absurd i
positions_in all b (k ∷ ks) g t (inl e) = (let z : b + 0 ≡ b = omega arith in record { number = b; kind = k; found = ap (slice_get all) (sym z) ∙ g 0; is = e })
positions_in all b (k ∷ ks) g t (inr i) = positions_in all (suc b) ks (λ j. let z : suc b + j ≡ b + suc j = omega arith in ap (slice_get all) z ∙ g (suc j)) t i

pub get_mapped : {X Y : Type 0} (f : X → Y) (xs : List X) (n : ℕ) (x : X) → slice_get xs n ≡ Some x → slice_get (map f xs) n ≡ Some (f x)
get_mapped f [] n x e = cc e
get_mapped f (y ∷ xs) zero x e = (let z : Some y ≡ Some x = e in let w : y ≡ x = cc z in ap (λ v. Some (f v)) w)
get_mapped f (y ∷ xs) (suc n) x e = get_mapped f xs n x e

pub none_of : {X : Type 0} (P : X → Type 0) (xs : List X) → xs ≡ [] → All P xs
none_of P [] e = λ i d l. absurd (omega (arith, l))
none_of P (x ∷ xs) e = cc

no_views : {X V : Type 0} (f : X → V) (xs : List X) → map f xs ≡ [] → xs ≡ []
no_views f [] e = refl
no_views f (x ∷ xs) e = cc e

many : (b : ℕ) (ks : List PositionKind) → length (positions_from b ks) ≡ length ks
many b [] = refl
many b (k ∷ ks) = ap suc (many (suc b) ks)

-- what a leaf of the input's kinds is, its kind names
module _ (os : List Tree) where
  named : (b : ℕ) (k : PositionKind) → IsLeafFor os (own_leaf b k) → NamesOriginal os k
  named b (type_variable u r) h = tt
  named b integer_variable h = tt
  named b float_variable h = tt
  named b (const_variable u) h = tt
  named b (region_variable u) h = tt
  named b (placeholder sort.Ty zero n) h = ap kind_of h.1
  named b (placeholder sort.Const zero n) h = ap kind_of h.1
  named b (placeholder sort.Region zero n) h = region_sort (get_or os n empty) h
  named b (placeholder s (suc u) n) h = tt

own_among : (b : ℕ) (ks : List PositionKind) (n : ℕ) (k : PositionKind) → slice_get ks n ≡ Some k → Among (leaves_of_kinds b ks) (own_leaf (b + n) k)
own_among b [] n k e = cc e
own_among b (x ∷ ks) zero k e = (let z : Some x ≡ Some k = e in let w : x ≡ k = cc z in let y : b + 0 ≡ b = omega arith in inl (ap (λ m. own_leaf m k) y ∙ ap (own_leaf b) (sym w)))
own_among b (x ∷ ks) (suc n) k e = (let y : b + suc n ≡ suc b + n = omega arith in inr (subst (λ m. Among (leaves_of_kinds (suc b) ks) (own_leaf m k)) (sym y) (own_among (suc b) ks n k e)))

own_at : (ks : List PositionKind) (n : ℕ) (k : PositionKind) → slice_get ks n ≡ Some k → Among (leaves_of_kinds 0 (unconstrained ks).kinds) (own_leaf n k)
own_at ks n k e = (let z : 0 + n ≡ n = omega arith in subst (λ m. Among (leaves_of_kinds 0 ks) (own_leaf m k)) z (own_among 0 ks n k e))

got : {X : Type 0} (xs : List X) (x : X) → Contains xs x → (n : ℕ) × (slice_get xs n ≡ Some x)
got [] x h = absurd (let l = h.1 in omega arith)
got (y ∷ xs) x (zero, l, e) = (0, ap Some e)
got (y ∷ xs) x (suc k, l, e) = (let r = got xs x (k, omega arith, e) in (suc r.0, r.1))

module _ (ts : List Tree) (i : Input) (proper : IsInput i) (r : Canonical Response) (holds : HoldsResponse ts r.value) (is : response_at ts r ≡ unconstrained (canonical_of i).kinds) where
  abbrev ks : List PositionKind
  ks = (canonical_of i).kinds

  kinds_are : map kind_of_var r.var_kinds.items ≡ ks
  kinds_are = ap (λ (z : Form). z.kinds) is

  values_are : trees_of ts r.value.var_values.items ≡ positions_from 0 ks
  values_are = ap (λ (z : Form). z.findings.values) is

  no_more : TellsNoMore r
  no_more =
      record {
        no_hidden = no_views (hidden_of ts) r.value.external_constraints.opaque_types.items (ap (λ (z : Form). z.findings.hidden) is);
        no_goals = no_views (premise_at ts) r.value.external_constraints.normalization_nested_goals.items (ap (λ (z : Form). z.findings.open_goals) is);
      }

  fits : IsResponseTo ks (unconstrained ks)
  fits = initial_fits i proper

  module _ (j : Input) (same : (canonical_of j).kinds ≡ ks) where
    abbrev os : List Tree
    os = map leaf_tree (originals j)

    leaf_for : (l : Leaf) → IsLeafIn ks l → IsLeafFor os l
    leaf_for l h = leaf_in_for j l (subst (λ z. IsLeafIn z l) (sym same) h)

    kind_for : (k : PositionKind) → Contains ks k → IsKindFor r.max_universe os k
    kind_for k c =
        let most : r.max_universe ≡ 0 = ap (λ (z : Form). z.max_universe) is in
        let below = below_greatest ks k c in
        let root = initial_bounded i proper in
        let at = got ks k c in
        record {
          universe = omega (arith, most, below, root);
          original = named os at.0 k (leaf_for (own_leaf at.0 k) (fits.leaves (own_leaf at.0 k) (own_at ks at.0 k at.1)));
        }

    over : (t : NodeId) → IsPositionIn ks (tree_at ts t) → IsOverSorts ts (response_sorts r) t
    over t p =
        let sorts : map sort_at ks ≡ response_sorts r = ap (map sort_at) (sym kinds_are) ∙ map-map sort_at kind_of_var r.var_kinds.items in
        let at : slice_get (response_sorts r) p.number ≡ Some (sort_at p.kind) = subst (λ z. slice_get z p.number ≡ Some (sort_at p.kind)) sorts (get_mapped sort_at ks p.number p.kind p.found) in
        record {
          names = rw p.is (rw at refl, tt);
          leaves = λ l o. absurd (⊎_elim (no_leaf l (sort_at p.kind) p.number) (λ z. z) (subst (Occurs l) p.is o));
          closed = rw p.is (tt, tt);
          well_bound = rw p.is (tt, tt);
        }

    apply : IsApplicable ts os r
    apply =
        record {
          holds = holds;
          kinds = each_view (IsKindFor r.max_universe os) kind_of_var r.var_kinds.items ks kinds_are kind_for;
          values = λ n d l. over (get_or r.value.var_values.items n d).node (each_view (IsPositionIn ks) (argument_value ts) r.value.var_values.items (positions_from 0 ks) values_are (λ t c. positions_in ks 0 ks (λ m. let z : 0 + m ≡ m = omega arith in ap (slice_get ks) z) t (contained_among (positions_from 0 ks) t c)) n d l);
          constraints = none_of (IsConstraintOver ts (response_sorts r)) _ (no_views (recorded_at ts) r.value.external_constraints.region_constraints.items (ap (λ (z : Form). z.findings.constraints) is));
          hidden = none_of (IsHiddenOver ts (response_sorts r)) _ no_more.no_hidden;
          open_goals = none_of (IsGoalOver ts (response_sorts r)) _ no_more.no_goals;
          long = length-map (originals j) leaf_tree
              ∙ sym (length-map (originals j) (position_kind j.sub_root (originals j)))
              ∙ ap length same
              ∙ sym (many 0 ks)
              ∙ ap length (sym values_are)
              ∙ length-map r.value.var_values.items (argument_value ts);
        }

  pub unchanged_answers : IsAnswerTo ts ks r
  unchanged_answers =
      record { holds = holds; to = subst (IsResponseTo ks) (sym is) fits; applicable = λ j p same. apply j same; no_more = no_more }

-- .. to an input that can be asked
pub unchanged_fits : (a b : List Tree) (input : CanonicalInput) (r : Canonical Response) → IsQueryInput a input → HoldsResponse b r.value → response_at b r ≡ record (unconstrained (kinds_of input)) { max_universe = input.canonical.max_universe } → IsAnswerTo b (kinds_of input) r
unchanged_fits a b input r asked holds is =
    let f = asked.asks in
    let i = asked.input in
    let same : kinds_of input ≡ (canonical_of f.asked).kinds = ap (λ (z : Shape). z.kinds) f.form in
    let root = i.universe in
    let here : response_at b r ≡ unconstrained (canonical_of f.asked).kinds = is ∙ cc (same, root) in
    subst (λ z. IsAnswerTo b z r) (sym same) (unchanged_answers b f.asked f.proper r holds here)
