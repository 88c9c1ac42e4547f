-- The first equations of a candidate, tried alone.
use Rattle.std.proofs.Common.{◌≡◌, ◌⊎◌, inl, inr, ℕ, zero, suc, ◌+◌, ◌-◌, ◌<◌, ◌≤◌, List, [], ◌∷◌, map, length, take, sym, ap, ◌∙◌, subst, arith}
use Rattle.std.proofs.lemmas.List.{take-map, take_all}
use Rattle.nts_model.specs.declared.labels.Sort.{Sort}
use Rattle.nts_model.specs.Terms.Trees.{Tree}
use Rattle.nts_model.specs.Tables.Contents.{Content}
use Rattle.nts_model.specs.Derivations.Handlers.{Candidate}
use Rattle.nts_model.specs.Refutation.Choosing.{IsCandidateMet, MeetsEquations}
use Rattle.nts_store.specs.Growth.{Extends}
use Rattle.nts_unify.specs.Reading.{content_of}
use Rattle.nts_unify.specs.Lawful.{content_of-extended}
use Rattle.nts_table.specs.Tables.{Table, IsTable}
use Rattle.nts_terms.specs.declared.handles.Goal.{Goal}
use Rattle.nts_candidates.specs.declared.data.Equation.{Equation}
use Rattle.nts_candidates.specs.declared.data.CandidateData.{CandidateData}
use Rattle.nts_delegate.specs.Candidates.{AreEquations, IsCandidate}
use Rattle.nts_candidates.specs.Offered.{equation_of, candidate_of}
use Rattle.nts_certainty.specs.declared.reruns.RerunCondition.TheVariants as rerun
use Rattle.nts_evaluation.specs.nts_meaning.proofs.Running.{candidate-kept}
use Rattle.nts_explaining.specs.Explaining.{MeetsFirst, StopsAtEquation}

-- the first equations are equations
pub are_first : (ts : List Tree) (fresh : List Sort) (g : Goal) (n : ℕ) (qs : List Equation) → AreEquations ts fresh g qs → AreEquations ts fresh g (take n qs)
are_first ts fresh g zero qs h = tt
are_first ts fresh g (suc n) [] h = tt
are_first ts fresh g (suc n) (q ∷ qs) h = (h.0, are_first ts fresh g n qs h.1)

-- .. so what asks for them alone is a candidate
pub part_fits : (ts : List Tree) (g : Goal) (n : ℕ) (x part : CandidateData) → part.fresh.items ≡ x.fresh.items → part.equations.items ≡ take n x.equations.items → part.region_constraints.items ≡ [] → part.hidden_types.items ≡ [] → part.goals.items ≡ [] → part.accesses ≡ rerun.Never → IsCandidate ts g x → IsCandidate ts g part
part_fits ts g n x part fresh equations constraints hidden goals accesses h =
    record {
      hidden = hidden;
      accesses = accesses;
      equations = rw (fresh, equations) (are_first ts x.fresh.items g n x.equations.items h.equations);
      constraints = rw constraints tt;
      goals = rw goals tt;
    }

-- the part is met exactly if the first equations are
pub part_meets : (ts : List Tree) (c : Content) (n : ℕ) (x part : CandidateData) → part.fresh.items ≡ x.fresh.items → part.equations.items ≡ take n x.equations.items → IsCandidateMet c (candidate_of ts part) ≡ MeetsFirst n c (candidate_of ts x)
part_meets ts c n x part fresh equations =
    let qs : map (equation_of ts) part.equations.items ≡ take n (map (equation_of ts) x.equations.items) = ap (map (equation_of ts)) equations ∙ sym (take-map (equation_of ts) n x.equations.items) in
    λ i. MeetsEquations c (fresh i) (qs i)

-- an equation is the first that is not met where the next one more are not
pub stops_at : (c : Content) (x : Candidate) (count : ℕ) → 1 ≤ count → count < length x.equations → (count ≡ 1) ⊎ MeetsFirst (count - 1) c x → (MeetsFirst count c x → ⊥) → StopsAtEquation (count - 1) c x
stops_at c x count some l before unmet =
    let next : count - 1 + 1 ≡ count = omega (arith, some) in
    record {
      within = λ k. omega (arith, some, l);
      before = first_or before;
      unmet = λ m. unmet (subst (λ n. MeetsFirst n c x) next m);
    }
  where
    first_or : (count ≡ 1) ⊎ MeetsFirst (count - 1) c x → (count - 1 ≡ 0) ⊎ MeetsFirst (count - 1) c x
    first_or (inl e) = inl (omega (arith, e))
    first_or (inr m) = inr m

-- .. and the last one is it, where all before are met, and all are not
pub stops_last : (c : Content) (x : Candidate) (all n : ℕ) → all ≡ length x.equations → n ≡ all - 1 → (all ≤ 1) ⊎ MeetsFirst (all - 1) c x → (IsCandidateMet c x → ⊥) → StopsAtEquation n c x
stops_last c x all n e is before unmet = record {
  within = λ k. omega (arith, e, is, k);
  before = first_or before;
  unmet = λ m. unmet (subst (MeetsEquations c x.fresh) (take_all (n + 1) x.equations (omega (arith, e, is))) m);
}
  where
    first_or : (all ≤ 1) ⊎ MeetsFirst (all - 1) c x → (n ≡ 0) ⊎ MeetsFirst n c x
    first_or (inl l) = inl (omega (arith, is, l))
    first_or (inr m) = inr (subst (λ k. MeetsFirst k c x) (sym is) m)

-- all before the last one are met, where the loop over them ends
pub last_before : (c : Content) (x : Candidate) (count all : ℕ) → (count < all → ⊥) → (count ≤ 1) ⊎ (count ≤ all) → (count ≡ 1) ⊎ MeetsFirst (count - 1) c x → (all ≤ 1) ⊎ MeetsFirst (all - 1) c x
last_before c x count all end (inl l) before = inl (omega (arith, end, l))
last_before c x count all end (inr l) (inl e) = inl (omega (arith, end, e))
last_before c x count all end (inr l) (inr m) =
    let same : count ≡ all = omega (arith, end, l) in
    inr (subst (λ n. MeetsFirst (n - 1) c x) same m)

-- whether they are met is the same in a store that has grown
pub first_same : {a b : List Tree} {t u : Table} {g : Goal} (x : CandidateData) (n : ℕ) → Extends a b → IsTable a t → IsCandidate a g x → u ≡ t → MeetsFirst n (content_of b u.entries) (candidate_of b x) ≡ MeetsFirst n (content_of a t.entries) (candidate_of a x)
first_same {a} {b} {t} {u} {g} x n e w h same =
    let here : content_of b u.entries ≡ content_of a t.entries = ap (λ (z : Table). content_of b z.entries) same ∙ content_of-extended e w.now in
    let kept : candidate_of b x ≡ candidate_of a x = candidate-kept {a = a} {b = b} {g = g} {d = x} e h in
    λ i. MeetsFirst n (here i) (kept i)

pub met_same : {a b : List Tree} {t u : Table} {g : Goal} (x : CandidateData) → Extends a b → IsTable a t → IsCandidate a g x → u ≡ t → IsCandidateMet (content_of b u.entries) (candidate_of b x) ≡ IsCandidateMet (content_of a t.entries) (candidate_of a x)
met_same {a} {b} {t} {u} {g} x e w h same =
    let here : content_of b u.entries ≡ content_of a t.entries = ap (λ (z : Table). content_of b z.entries) same ∙ content_of-extended e w.now in
    let kept : candidate_of b x ≡ candidate_of a x = candidate-kept {a = a} {b = b} {g = g} {d = x} e h in
    λ i. IsCandidateMet (here i) (kept i)

pub stops_same : {a b : List Tree} {t u : Table} {g : Goal} (x : CandidateData) (n : ℕ) → Extends a b → IsTable a t → IsCandidate a g x → u ≡ t → StopsAtEquation n (content_of b u.entries) (candidate_of b x) ≡ StopsAtEquation n (content_of a t.entries) (candidate_of a x)
stops_same {a} {b} {t} {u} {g} x n e w h same =
    let here : content_of b u.entries ≡ content_of a t.entries = ap (λ (z : Table). content_of b z.entries) same ∙ content_of-extended e w.now in
    let kept : candidate_of b x ≡ candidate_of a x = candidate-kept {a = a} {b = b} {g = g} {d = x} e h in
    λ i. StopsAtEquation n (here i) (kept i)
