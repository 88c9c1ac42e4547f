-- The first equations of a candidate, begun alone, where some relate aliases.
use Rattle.std.proofs.Common.{◌≡◌, ◌⊎◌, inl, inr, ℕ, ◌+◌, ◌-◌, ◌<◌, ◌≤◌, List, [], map, length, take, refl, sym, ap, ◌∙◌, subst, arith}
use Rattle.std.proofs.lemmas.List.{take-map, take_all}
use Rattle.nts_model.specs.declared.labels.Variance.{Variance}
use Rattle.nts_model.specs.Terms.Trees.{Tree}
use Rattle.nts_model.specs.Tables.Contents.{Content}
use Rattle.nts_model.specs.Derivations.Rules.{Mode, coherence}
use Rattle.nts_model.specs.Derivations.Handlers.{Candidate}
use Rattle.nts_model.specs.Refutation.Choosing.{IsCandidateMet}
use Rattle.nts_theory.specs.RelatingCandidates.{HasPlainEquations, IsUnrelated}
use Rattle.nts_theory.proofs.Refutation.PlainParts.{plain_is}
use Rattle.nts_store.specs.Growth.{tree_at}
use Rattle.nts_unify.specs.Reading.{content_of}
use Rattle.nts_unify.specs.Lawful.{content_of-extended}
use Rattle.nts_table.specs.Tables.{Table, IsTable}
use Rattle.nts_terms.specs.declared.cx.Cx.{Cx}
use Rattle.nts_terms.specs.declared.handles.Goal.{Goal}
use Rattle.nts_terms.specs.Rest.{Grows}
use Rattle.nts_terms.specs.Signatures.{variances_in}
use Rattle.nts_certainty.specs.Certainties.{ambiguous}
use Rattle.nts_certainty.specs.declared.certainty.Certainty.TheVariants as certainty
use Rattle.nts_certainty.specs.declared.reruns.RerunCondition.TheVariants as rerun
use Rattle.nts_candidates.specs.declared.data.CandidateData.{CandidateData}
use Rattle.nts_candidates.specs.declared.reasons.Reason.{Reason}
use Rattle.nts_candidates.specs.declared.reasons.Reason.TheVariants as reason
use Rattle.nts_candidates.specs.Offered.{equation_of, candidate_of}
use Rattle.nts_delegate.specs.Candidates.{IsCandidate}
use Rattle.nts_evaluation.specs.nts_meaning.specs.Evaluation.{IsPosed}
use Rattle.nts_evaluation.specs.nts_meaning.proofs.Running.{candidate-kept}
use Rattle.nts_explaining.specs.declared.conditions.Outcome.{Outcome}
use Rattle.nts_explaining.specs.declared.conditions.Outcome.TheVariants as outcome
use Rattle.nts_explaining.specs.Asking.{IsWithin, IsReasonOf}
use Rattle.nts_explaining.specs.Explaining.{CannotBegin, IsBegunSo, ExplainsRelated, StopsAtRelating, WasBegun, first_part}
use Rattle.nts_explaining.proofs.FirstEquations.{are_first}

-- the first equations, with the constraints, are a candidate
pub related_fits : (ts : List Tree) (g : Goal) (n : ℕ) (x part : CandidateData) → part.fresh.items ≡ x.fresh.items → part.equations.items ≡ take n x.equations.items → part.region_constraints.items ≡ x.region_constraints.items → part.hidden_types.items ≡ [] → part.goals.items ≡ [] → part.accesses ≡ rerun.Never
    → IsCandidate ts g x → IsCandidate ts g part
related_fits ts g n x part fresh equations constraints hidden goals accesses h =
    record {
      hidden = hidden;
      accesses = accesses;
      equations = rw (fresh, equations) (are_first ts x.fresh.items g n x.equations.items h.equations);
      constraints = rw (fresh, constraints) h.constraints;
      goals = rw goals tt;
    }

-- .. which is the first part of the candidate
pub part_is : (ts : List Tree) (g : Goal) (n : ℕ) (x part : CandidateData) → part.fresh.items ≡ x.fresh.items → part.equations.items ≡ take n x.equations.items → part.region_constraints.items ≡ x.region_constraints.items → part.hidden_types.items ≡ [] → part.goals.items ≡ [] → part.accesses ≡ rerun.Never → part.certainty ≡ certainty.Yes
    → IsCandidate ts g x → candidate_of ts part ≡ first_part n (candidate_of ts x)
part_is ts g n x part fresh equations constraints hidden goals accesses sure h =
    let qs : map (equation_of ts) part.equations.items ≡ take n (map (equation_of ts) x.equations.items) = ap (map (equation_of ts)) equations ∙ sym (take-map (equation_of ts) n x.equations.items) in
    let none = h.hidden in
    let never = h.accesses in
    rw (fresh, qs, constraints, hidden, none, goals, accesses, never, sure) refl

-- a candidate whose equations relate no aliases and are not met can't be begun
pub unmet_unbegun : (declared : ℕ → List Variance) (c : Content) (x : Candidate) → HasPlainEquations x → (IsCandidateMet c x → ⊥) → CannotBegin declared c x
unmet_unbegun declared c x plain unmet = inl (λ m. unmet (subst (IsCandidateMet c) (plain_is x plain) m))

-- one that can't be begun can't be begun without its goals
unrelated_alone : (declared : ℕ → List Variance) (c : Content) (x : Candidate) (n : ℕ) → take n x.equations ≡ x.equations → IsUnrelated declared c x → IsUnrelated declared c (first_part n x)
unrelated_alone declared c x n all u =
    let b = u.begun in
    rw all (record {
      some = u.some;
      values = u.values;
      before = u.before;
      begun = record { made = b.made; equal = b.equal; freshens = b.freshens; equates = b.equates; adds = b.adds };
      refused = u.refused;
    })

pub unbegun_whole : (declared : ℕ → List Variance) (c : Content) (x : Candidate) (n : ℕ) → length x.equations ≤ n → CannotBegin declared c x → CannotBegin declared c (first_part n x)
unbegun_whole declared c x n l (inl unmet) = (let all = take_all n x.equations l in inl (λ m. unmet (rw all at m)))
unbegun_whole declared c x n l (inr u) = inr (unrelated_alone declared c x n (take_all n x.equations l) u)

-- that it can't is the same in a store that has grown
pub unbegun_same : {a b : Cx} {t u : Table} {g : Goal} (x : CandidateData) (n : ℕ) → Grows a b → IsTable a.nodes t → IsCandidate a.nodes g x → u ≡ t
    → CannotBegin (variances_in b.declarations) (content_of b.nodes u.entries) (first_part n (candidate_of b.nodes x)) ≡ CannotBegin (variances_in a.declarations) (content_of a.nodes t.entries) (first_part n (candidate_of a.nodes x))
unbegun_same {a} {b} {t} {u} {g} x n e w h same =
    let here : content_of b.nodes u.entries ≡ content_of a.nodes t.entries = ap (λ (z : Table). content_of b.nodes z.entries) same ∙ content_of-extended e.extends w.now in
    let kept : candidate_of b.nodes x ≡ candidate_of a.nodes x = candidate-kept {a = a.nodes} {b = b.nodes} {g = g} {d = x} e.extends h in
    let declared : b.declarations ≡ a.declarations = (let r = e.rest in r.declarations) in
    λ i. CannotBegin (variances_in (declared i)) (here i) (first_part n (kept i))

pub whole_same : {a b : Cx} {t u : Table} {g : Goal} (x : CandidateData) → Grows a b → IsTable a.nodes t → IsCandidate a.nodes g x → u ≡ t
    → CannotBegin (variances_in b.declarations) (content_of b.nodes u.entries) (candidate_of b.nodes x) ≡ CannotBegin (variances_in a.declarations) (content_of a.nodes t.entries) (candidate_of a.nodes x)
whole_same {a} {b} {t} {u} {g} x e w h same =
    let here : content_of b.nodes u.entries ≡ content_of a.nodes t.entries = ap (λ (z : Table). content_of b.nodes z.entries) same ∙ content_of-extended e.extends w.now in
    let kept : candidate_of b.nodes x ≡ candidate_of a.nodes x = candidate-kept {a = a.nodes} {b = b.nodes} {g = g} {d = x} e.extends h in
    let declared : b.declarations ≡ a.declarations = (let r = e.rest in r.declarations) in
    λ i. CannotBegin (variances_in (declared i)) (here i) (kept i)

pub relating_same : {a b : Cx} {t u : Table} {g : Goal} (x : CandidateData) (n : ℕ) → Grows a b → IsPosed a.nodes t g → IsCandidate a.nodes g x → u ≡ t
    → StopsAtRelating (variances_in b.declarations) n (content_of b.nodes u.entries) (tree_at b.nodes g.param_env.node) (candidate_of b.nodes x) ≡ StopsAtRelating (variances_in a.declarations) n (content_of a.nodes t.entries) (tree_at a.nodes g.param_env.node) (candidate_of a.nodes x)
relating_same {a} {b} {t} {u} {g} x n e posed h same =
    let w = posed.table in
    let holds = posed.holds in
    let env : tree_at b.nodes g.param_env.node ≡ tree_at a.nodes g.param_env.node = (let up = e.extends in up.kept g.param_env.node holds.env.within) in
    let here : content_of b.nodes u.entries ≡ content_of a.nodes t.entries = ap (λ (z : Table). content_of b.nodes z.entries) same ∙ content_of-extended e.extends w.now in
    let kept : candidate_of b.nodes x ≡ candidate_of a.nodes x = candidate-kept {a = a.nodes} {b = b.nodes} {g = g} {d = x} e.extends h in
    let declared : b.declarations ≡ a.declarations = (let r = e.rest in r.declarations) in
    λ i. StopsAtRelating (variances_in (declared i)) n (here i) (env i) (kept i)

-- .. and that it is
pub begun_same : {a b : Cx} {t u : Table} {g : Goal} (x : CandidateData) (n : ℕ) → Grows a b → IsPosed a.nodes t g → IsCandidate a.nodes g x → u ≡ t
    → IsBegunSo (variances_in b.declarations) (content_of b.nodes u.entries) (tree_at b.nodes g.param_env.node) (first_part n (candidate_of b.nodes x)) ≡ IsBegunSo (variances_in a.declarations) (content_of a.nodes t.entries) (tree_at a.nodes g.param_env.node) (first_part n (candidate_of a.nodes x))
begun_same {a} {b} {t} {u} {g} x n e posed h same =
    let w = posed.table in
    let holds = posed.holds in
    let env : tree_at b.nodes g.param_env.node ≡ tree_at a.nodes g.param_env.node = (let up = e.extends in up.kept g.param_env.node holds.env.within) in
    let here : content_of b.nodes u.entries ≡ content_of a.nodes t.entries = ap (λ (z : Table). content_of b.nodes z.entries) same ∙ content_of-extended e.extends w.now in
    let kept : candidate_of b.nodes x ≡ candidate_of a.nodes x = candidate-kept {a = a.nodes} {b = b.nodes} {g = g} {d = x} e.extends h in
    let declared : b.declarations ≡ a.declarations = (let r = e.rest in r.declarations) in
    λ i. IsBegunSo (variances_in (declared i)) (here i) (env i) (first_part n (kept i))

-- the equation at which it stops
abbrev pub BegunBefore : (ℕ → List Variance) → Content → Tree → Candidate → ℕ → Type 0
BegunBefore declared c e x count = (count ≡ 1) ⊎ IsBegunSo declared c e (first_part (count - 1) x)

pub stops_relating : (declared : ℕ → List Variance) (c : Content) (e : Tree) (x : Candidate) (count : ℕ) → 1 ≤ count → count < length x.equations → BegunBefore declared c e x count → CannotBegin declared c (first_part count x) → StopsAtRelating declared (count - 1) c e x
stops_relating declared c e x count some l before h =
    let next : count - 1 + 1 ≡ count = omega (arith, some) in
    record {
      within = λ k. omega (arith, some, l);
      before = first_or before;
      unbegun = subst (λ n. CannotBegin declared c (first_part n x)) (sym next) h;
    }
  where
    first_or : BegunBefore declared c e x count → (count - 1 ≡ 0) ⊎ IsBegunSo declared c e (first_part (count - 1) x)
    first_or (inl q) = inl (omega (arith, q))
    first_or (inr m) = inr m

-- all before the last one are begun, where the loop over them ends
pub begun_last : (declared : ℕ → List Variance) (c : Content) (e : Tree) (x : Candidate) (count all : ℕ) → (count < all → ⊥) → (count ≤ 1) ⊎ (count ≤ all) → BegunBefore declared c e x count → (all ≤ 1) ⊎ IsBegunSo declared c e (first_part (all - 1) x)
begun_last declared c e x count all end (inl l) before = inl (omega (arith, end, l))
begun_last declared c e x count all end (inr l) (inl q) = inl (omega (arith, end, q))
begun_last declared c e x count all end (inr l) (inr m) =
    let same : count ≡ all = omega (arith, end, l) in
    inr (subst (λ n. IsBegunSo declared c e (first_part (n - 1) x)) same m)

pub stops_at_last : (declared : ℕ → List Variance) (c : Content) (e : Tree) (x : Candidate) (all n : ℕ) → all ≡ length x.equations → n ≡ all - 1 → (all ≤ 1) ⊎ IsBegunSo declared c e (first_part (all - 1) x) → CannotBegin declared c x → StopsAtRelating declared n c e x
stops_at_last declared c e x all n many is before h =
    record {
      within = λ k. omega (arith, many, is, k);
      before = first_or before;
      unbegun = unbegun_whole declared c x (n + 1) (omega (arith, many, is)) h;
    }
  where
    first_or : (all ≤ 1) ⊎ IsBegunSo declared c e (first_part (all - 1) x) → (n ≡ 0) ⊎ IsBegunSo declared c e (first_part n x)
    first_or (inl l) = inl (omega (arith, is, l))
    first_or (inr m) = inr (subst (λ k. IsBegunSo declared c e (first_part k x)) (sym is) m)

-- what asking the goals that are left came to, as a reason
pub related_explained : (declared : ℕ → List Variance) (mode : Mode) (a : List Tree) (c : Content) (e : Tree) (x : CandidateData) (w : WasBegun declared c e (candidate_of a x)) (n : ℕ) (o : Outcome) (r : Reason) → n ≡ length w.left → IsWithin n o → IsReasonOf x.certainty o r → ExplainsRelated declared mode c e (candidate_of a x) r
related_explained declared mode a c e x w n outcome.Certain r same l (inl is) = subst (ExplainsRelated declared mode c e (candidate_of a x)) (sym is) w
related_explained declared mode a c e x w n outcome.Certain r same l (inr is) = subst (ExplainsRelated declared mode c e (candidate_of a x)) (sym is) (inl (w, refl))
related_explained declared mode a c e x w n (outcome.Doubtful i y) r same l (inl is) = subst (ExplainsRelated declared mode c e (candidate_of a x)) (sym is) w
related_explained declared mode a c e x w n (outcome.Doubtful i y) r same l (inr (g, is)) = subst (ExplainsRelated declared mode c e (candidate_of a x)) (sym is) (w, omega (arith, l, same))
related_explained declared mode a c e x w n (outcome.Refused i) r same l (g, is) = subst (ExplainsRelated declared mode c e (candidate_of a x)) (sym is) (w, omega (arith, l, same))

-- in coherence it may be in doubt
pub doubt_explained : (declared : ℕ → List Variance) (mode : Mode) (c : Content) (e : Tree) (x : Candidate) (r : Reason) → mode ≡ coherence → r ≡ reason.Holds ambiguous → ExplainsRelated declared mode c e x r
doubt_explained declared mode c e x r inside is = subst (ExplainsRelated declared mode c e x) (sym is) (inr (inside, refl))
