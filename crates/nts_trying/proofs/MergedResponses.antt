-- The response that stands for those of all candidates.
use Rattle.std.proofs.Common.{◌≡◌, false, inl, inr, ⊎_elim, ℕ, zero, suc, ◌+◌, ◌<◌, List, [], ◌∷◌, map, length, get_or, Some, refl, sym, ap, ◌∙◌, subst, arith}
use Rattle.std.proofs.lemmas.List.{get_or_default}
use Rattle.nts_model.proofs.Tables.Under.{same_or_other}
use Rattle.nts_model.specs.declared.labels.Label.{Label}
use Rattle.nts_model.specs.Canonical.Inputs.{PositionKind}
use Rattle.nts_model.specs.Terms.Trees.{Tree, node, children, label_of}
use Rattle.nts_model.specs.Tables.Contents.{Content}
use Rattle.nts_model.specs.Lists.{Among}
use Rattle.nts_certainty.specs.declared.certainty.Certainty.{Certainty}
use Rattle.nts_certainty.specs.declared.certainty.Certainty.TheVariants as certainty
use Rattle.nts_certainty.specs.declared.certainty.MaybeInfo.{MaybeInfo}
use Rattle.nts_certainty.specs.Certainties.{either}
use Rattle.nts_terms.specs.declared.handles.GenericArg.{GenericArg}
use Rattle.nts_unify.specs.Reading.{content_of}
use Rattle.nts_table.specs.Tables.{Table}
use Rattle.nts_candidates.specs.Offered.{hidden_of}
use Rattle.nts_canonical.specs.Forms.{trees_of, kind_of_var}
use Rattle.nts_canonical.specs.declared.types.Canonical.{Canonical}
use Rattle.nts_response.specs.declared.types.Response.{Response}
use Rattle.nts_response.specs.Forms.{response_at, recorded_at, premise_at, HoldsResponse}
use Rattle.nts_meaning.specs.nts_search.specs.declared.merging.MergeCandidateInfo.{MergeCandidateInfo}
use Rattle.nts_meaning.specs.nts_search.specs.declared.merging.MergeCandidateInfo.TheVariants as info
use Rattle.nts_meaning.specs.nts_search.specs.Merging.{AppliesAlways, Merges, doubt_of}
use Rattle.nts_theory.specs.Telling.{without_constraints, IsResponseOf}
use Rattle.nts_meaning.specs.Answering.{told_in, is_yes, verdict_at}
use Rattle.nts_trying.specs.Found.{IsMerged, IsTaken, StandsForThem}
use Rattle.nts_theory.specs.Telling.{IsIdentityAnswer, IsLabelOfKind, IsTermOfKind, AreTermsOfKinds, StandsForAll}
use Rattle.nts_store.specs.Growth.{tree_at}
use Rattle.nts_canonical.specs.declared.types.CanonicalVarKind.{CanonicalVarKind}
use Rattle.nts_response.specs.Same.{AreOneResponse}

-- an answer that is not certain
abbrev IsInDoubt : Certainty → Type 0
IsInDoubt certainty.Yes = ⊥
IsInDoubt (certainty.Maybe i) = Unit {0}

-- either of two that are in doubt is
either_in_doubt : (i : MaybeInfo) (c : Certainty) → IsInDoubt c → IsInDoubt (either (certainty.Maybe i) c)
either_in_doubt i certainty.Yes h = h
either_in_doubt i (certainty.Maybe j) h = tt

doubt_in_doubt : (cs : List Certainty) → IsInDoubt (doubt_of cs)
doubt_in_doubt [] = tt
doubt_in_doubt (certainty.Yes ∷ cs) = doubt_in_doubt cs
doubt_in_doubt (certainty.Maybe i ∷ cs) = either_in_doubt i (doubt_of cs) (doubt_in_doubt cs)

-- joined doubts are never certain
pub doubt_unsure : (cs : List Certainty) → doubt_of cs ≡ certainty.Yes → ⊥
doubt_unsure cs h = subst IsInDoubt h (doubt_in_doubt cs)

-- an answer that is not certain tells no constraints
pub told_unsure : (a : Certainty) (c : Content) → (a ≡ certainty.Yes → ⊥) → told_in a c ≡ without_constraints c
told_unsure certainty.Yes c h = absurd (h refl)
told_unsure (certainty.Maybe i) c h = refl

-- what stands at a place of a list is among its elements, and each of those stands at a place
pub among_place : {X Y : Type 0} (f : X → Y) (xs : List X) (i : ℕ) (d : X) → i < length xs → Among (map f xs) (f (get_or xs i d))
among_place f [] i d l = absurd (omega (arith, l))
among_place f (x ∷ xs) zero d l = inl refl
among_place f (x ∷ xs) (suc i) d l = inr (among_place f xs i d (omega (arith, l)))

pub place_among : {X Y : Type 0} (f : X → Y) (xs : List X) (y : Y) (d : X) → Among (map f xs) y → (i : ℕ) × (i < length xs) × (y ≡ f (get_or xs i d))
place_among f [] y d h = absurd h
place_among f (x ∷ xs) y d (inl e) = (zero, omega arith, e)
place_among f (x ∷ xs) y d (inr h) =
    let p = place_among f xs y d h in
    (suc p.0, omega (arith, p.1), p.2)

-- an answer in doubt is no yes
pub unsure_yes : (x : Certainty) → (x ≡ certainty.Yes → ⊥) → is_yes x ≡ false
unsure_yes certainty.Yes h = absurd (h refl)
unsure_yes (certainty.Maybe i) h = refl

-- the merged response is one of the responses
pub merged_among : (a : List Tree) (rs : List (Canonical Response)) (r : Canonical Response) (m : MergeCandidateInfo) → Merges a rs (Some (r, m)) → (i : ℕ) × (i < length rs) × (get_or rs i r ≡ r)
merged_among a rs r (info.AlwaysApplicable i) h = (i, h.0.below, h.1)
merged_among a rs r info.EqualResponse h = (zero, h.1.some, h.2)

-- .. so its form is among theirs
pub merged_form_among : (a : List Tree) (rs : List (Canonical Response)) (r : Canonical Response) (m : MergeCandidateInfo) → Merges a rs (Some (r, m)) → Among (map (verdict_at a) rs) (verdict_at a r)
merged_form_among a rs r m h =
    let p = merged_among a rs r m h in
    subst (λ z. Among (map (verdict_at a) rs) (verdict_at a z)) p.2 (among_place (verdict_at a) rs p.0 r p.1)

-- what always applies is a yes that changes nothing
identity_answer : (a : List Tree) (r : Canonical Response) → AppliesAlways a r → IsIdentityAnswer (response_at a r)
identity_answer a r (sure, positions, nothing) =
    record {
      values = λ i l. positions i (omega (arith, l));
      constraints = ap (map (recorded_at a)) nothing.0;
      hidden = ap (map (hidden_of a)) nothing.1;
      open_goals = ap (map (premise_at a)) nothing.2;
    }

-- a term stands for a position of a kind exactly if its label does
some_label : (x y : Label) → Some x ≡ Some y → x ≡ y
some_label x y e = cc e

label_of_kind : (k : PositionKind) (t : Tree) (l : Label) → t ≡ node l (children t) → IsTermOfKind k t → IsLabelOfKind k l
label_of_kind k t l e h = subst (IsLabelOfKind k) (some_label h.0 l (sym h.1 ∙ ap label_of e)) h.2

module _ (ts : List Tree) (qs : List GenericArg) (ks : List CanonicalVarKind) (i : ℕ) (d : GenericArg) (x : CanonicalVarKind) (l : Label) (many : length qs ≡ length ks) (below : i < length qs) (kind : x ≡ get_or ks i x)
    (label : tree_at ts (get_or qs i d).node ≡ node l (children (tree_at ts (get_or qs i d).node))) where
  kind_at : (k : CanonicalVarKind) → x ≡ get_or ks i k
  kind_at k = kind ∙ get_or_default ks i x k (omega (arith, below, many))

  -- one more term stands for its position
  pub over_more : IsLabelOfKind (kind_of_var x) l → ((j : ℕ) (q : GenericArg) (k : CanonicalVarKind) → j < i → IsTermOfKind (kind_of_var (get_or ks j k)) (tree_at ts (get_or qs j q).node))
      → (j : ℕ) (q : GenericArg) (k : CanonicalVarKind) → j < i + 1 → IsTermOfKind (kind_of_var (get_or ks j k)) (tree_at ts (get_or qs j q).node)
  over_more h old j q k less = ⊎_elim (λ e. subst (λ n. IsTermOfKind (kind_of_var (get_or ks n k)) (tree_at ts (get_or qs n q).node)) (sym e) here) (λ n. old j q k (omega (arith, less, n))) (same_or_other j i)
    where
      here : IsTermOfKind (kind_of_var (get_or ks i k)) (tree_at ts (get_or qs i q).node)
      here =
          subst (λ z. IsTermOfKind (kind_of_var z) (tree_at ts (get_or qs i q).node)) (kind_at k)
          (subst (λ (z : GenericArg). IsTermOfKind (kind_of_var x) (tree_at ts z.node)) (get_or_default qs i d q below) (l, ap label_of label, h))

  -- .. and so does its label, where all do
  pub label_over : ((j : ℕ) (q : GenericArg) (k : CanonicalVarKind) → j < length qs → IsTermOfKind (kind_of_var (get_or ks j k)) (tree_at ts (get_or qs j q).node)) → IsLabelOfKind (kind_of_var x) l
  label_over all = label_of_kind (kind_of_var x) (tree_at ts (get_or qs i d).node) l label (subst (λ z. IsTermOfKind (kind_of_var z) (tree_at ts (get_or qs i d).node)) (sym (kind_at x)) (all i d x below))

-- terms that stand for positions, one by one
over_each : (ts : List Tree) (qs : List GenericArg) (ks : List CanonicalVarKind) → length qs ≡ length ks → ((i : ℕ) (q : GenericArg) (k : CanonicalVarKind) → i < length qs → IsTermOfKind (kind_of_var (get_or ks i k)) (tree_at ts (get_or qs i q).node))
    → AreTermsOfKinds (map kind_of_var ks) (trees_of ts qs)
over_each ts [] [] m h = tt
over_each ts [] (k ∷ ks) m h = absurd (omega (arith, m))
over_each ts (q ∷ qs) [] m h = absurd (omega (arith, m))
over_each ts (q ∷ qs) (k ∷ ks) m h = (h 0 q k (omega arith), over_each ts qs ks (omega (arith, m)) (λ i p j l. h (suc i) p j (omega (arith, l))))

-- the merged response stands for all
merged_by : (a : List Tree) (qs : List GenericArg) (rs : List (Canonical Response)) (r : Canonical Response) (m : MergeCandidateInfo) → Merges a rs (Some (r, m)) → IsTaken a qs m r → StandsForAll (trees_of a qs) (map (verdict_at a) rs) (verdict_at a r)
merged_by a qs rs r (info.AlwaysApplicable i) h over =
    let always = subst (AppliesAlways a) h.1 (h.0.is r) in (
      merged_form_among a rs r (info.AlwaysApplicable i) h,
      inl (record { certain = ap is_yes always.0; same = identity_answer a r always; kinds = over_each a qs r.var_kinds.items over.many over.each }),
    )
merged_by a qs rs r info.EqualResponse h over = (
  merged_form_among a rs r info.EqualResponse h,
  inr (λ q i.
      let p = place_among (verdict_at a) rs q r i in
      p.2 ∙ sym (one_verdict (get_or rs 0 r) (get_or rs p.0 r) (h.1.each p.0 r p.1)) ∙ ap (verdict_at a) h.2),
)
  where
    one_verdict : (x y : Canonical Response) → AreOneResponse a x y → verdict_at a x ≡ verdict_at a y
    one_verdict x y e = (let form = e.form in let sure = e.certainty in λ i. record { response = form i; is_yes = is_yes (sure i) })

pub merged_stands : (a : List Tree) (qs : List GenericArg) (rs : List (Canonical Response)) (r : Canonical Response) → StandsForThem a qs rs r → StandsForAll (trees_of a qs) (map (verdict_at a) rs) (verdict_at a r)
merged_stands a qs rs r h = merged_by a qs rs r h.why h.merges h.taken

-- a response that was taken out of its place
pub merged_kept : (a : List Tree) (qs : List GenericArg) (rs ss : List (Canonical Response)) (i : ℕ) (r : Canonical Response) → ss ≡ rs → StandsForThem a qs ss (get_or ss i r) → r ≡ get_or rs i r → StandsForThem a qs rs r
merged_kept a qs rs ss i r same h is =
    subst (StandsForThem a qs rs) (sym is) (subst (λ z. StandsForThem a qs z (get_or z i r)) same h)

-- what a table says that is in doubt, where no response stands for all
pub merged_doubt : (a b : List Tree) (t : Table) (qs : List GenericArg) (rs ss us : List (Canonical Response)) (r : Canonical Response) (q : Certainty) → ss ≡ rs → us ≡ rs → ((s : Canonical Response) → StandsForThem a qs ss s → ⊥) → q ≡ doubt_of (map (λ c. c.value.certainty) us) → r.value.certainty ≡ q
    → IsResponseOf (told_in q (content_of a t.entries)) (trees_of a qs) (response_at b r) → HoldsResponse b r.value → (r.value.external_constraints.opaque_types.items ≡ []) × (r.value.external_constraints.normalization_nested_goals.items ≡ []) → IsMerged a b t qs rs r
merged_doubt a b t qs rs ss us r q here there none doubt sure says holds nothing =
    let doubt_here : q ≡ doubt_of (map (λ c. c.value.certainty) rs) = subst (λ z. q ≡ doubt_of (map (λ c. c.value.certainty) z)) there doubt in
    let plain = told_unsure q (content_of a t.entries) (λ yes. doubt_unsure (map (λ c. c.value.certainty) rs) (sym doubt_here ∙ yes)) in
    inr (subst (λ z. (s : Canonical Response) → StandsForThem a qs z s → ⊥) here none, sure ∙ doubt_here, subst (λ z. IsResponseOf z (trees_of a qs) (response_at b r)) plain says, holds, record { no_hidden = nothing.0; no_goals = nothing.1 })
