-- What responses of one form have in common, entry by entry.
use Rattle.std.proofs.Common.{◌≡◌, ◌↔◌, ℕ, zero, suc, ◌<◌, List, [], ◌∷◌, map, length, get_or, refl, ap, arith}
use Rattle.nts_model.specs.Terms.Trees.{Tree}
use Rattle.nts_model.specs.Answers.Responses.{Findings}
use Rattle.nts_candidates.specs.Offered.{hidden_of}
use Rattle.nts_response.specs.declared.types.Response.{Response}
use Rattle.nts_response.specs.Forms.{recorded_at, premise_at, findings_at}
use Rattle.nts_response.specs.Replacing.{argument_value}
use Rattle.nts_response.specs.Same.{AreOneEach, FoundOne}

each_same : {X V : Type 0} (f : X → V) (xs ys : List X) → AreOneEach (λ x y. f x ≡ f y) xs ys → map f xs ≡ map f ys
each_same f [] [] h = refl
each_same f [] (y ∷ ys) h = (let l = h.long in absurd (omega arith))
each_same f (x ∷ xs) [] h = (let l = h.long in absurd (omega arith))
each_same f (x ∷ xs) (y ∷ ys) h =
    let l = h.long in
    cc (h.each 0 x (omega arith), each_same f xs ys (record { long = omega (arith, l); each = λ i d k. h.each (suc i) d (omega (arith, k)) }))

same_long : {X V : Type 0} (f : X → V) (xs ys : List X) → map f xs ≡ map f ys → length xs ≡ length ys
same_long f [] [] e = refl
same_long f [] (y ∷ ys) e = cc
same_long f (x ∷ xs) [] e = cc
same_long f (x ∷ xs) (y ∷ ys) e = (let l = same_long f xs ys (cc) in omega (arith, l))

same_at : {X V : Type 0} (f : X → V) (xs ys : List X) → map f xs ≡ map f ys → (i : ℕ) (d : X) → i < length xs → f (get_or xs i d) ≡ f (get_or ys i d)
same_at f [] ys e i d l = absurd (omega arith)
same_at f (x ∷ xs) [] e i d l = cc
same_at f (x ∷ xs) (y ∷ ys) e zero d l = cc
same_at f (x ∷ xs) (y ∷ ys) e (suc i) d l = same_at f xs ys (cc) i d (omega arith)

same_each : {X V : Type 0} (f : X → V) (xs ys : List X) → map f xs ≡ map f ys → AreOneEach (λ x y. f x ≡ f y) xs ys
same_each f xs ys e = record { long = same_long f xs ys e; each = same_at f xs ys e }

-- two responses have one form exactly where they are one entry by entry
pub found_one : (ts : List Tree) (a b : Response) → FoundOne ts a b ↔ (findings_at ts a ≡ findings_at ts b)
found_one ts a b =
    let x = a.external_constraints in
    let y = b.external_constraints in (
      λ h. cc (
        each_same (argument_value ts) a.var_values.items b.var_values.items h.values,
        each_same (recorded_at ts) x.region_constraints.items y.region_constraints.items h.constraints,
        each_same (hidden_of ts) x.opaque_types.items y.opaque_types.items h.hidden,
        each_same (premise_at ts) x.normalization_nested_goals.items y.normalization_nested_goals.items h.open_goals,
      ),
      λ e. record {
        values = same_each (argument_value ts) a.var_values.items b.var_values.items (ap (λ (z : Findings). z.values) e);
        constraints = same_each (recorded_at ts) x.region_constraints.items y.region_constraints.items (ap (λ (z : Findings). z.constraints) e);
        hidden = same_each (hidden_of ts) x.opaque_types.items y.opaque_types.items (ap (λ (z : Findings). z.hidden) e);
        open_goals = same_each (premise_at ts) x.normalization_nested_goals.items y.normalization_nested_goals.items (ap (λ (z : Findings). z.open_goals) e);
      },
    )
