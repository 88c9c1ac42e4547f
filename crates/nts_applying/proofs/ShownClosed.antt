-- No bound variable escapes from what is recorded when a response is applied.
use Rattle.std.proofs.Common.{⊎_elim, Bool, List, [], ◌∷◌, subst}
use Rattle.std.specs.Prelude.{Contains}
use Rattle.std.proofs.lemmas.List.Elements.{Contains-append_cases}
use Rattle.nts_model.specs.Terms.Trees.{IsClosed}
use Rattle.nts_model.specs.Tables.Contents.{Content, Recorded}
use Rattle.nts_model.specs.Answers.Responses.{Response as Form}
use Rattle.nts_model.proofs.Lists.{contains_none, first_or_later}
use Rattle.nts_unify.specs.Changing.{HasClosedSides}
use Rattle.nts_unify.proofs.Keeping.{sides-added}
use Rattle.nts_response.specs.Applicable.{ShowsConstraints}
use Rattle.nts_response.specs.Recorded.{IsShown, AddsSeen, AddsAllSeen, seen_if}

module _ (P : Recorded → Type 0) (shown : (v : Bool) (x : Recorded) → IsShown v x → P x) where
  one_shown : (v : Bool) (xs ys : List Recorded) → AddsSeen v xs ys → ((x : Recorded) → Contains xs x → P x) → (x : Recorded) → Contains ys x → P x
  one_shown v xs ys h old x i = ⊎_elim
      (λ e. old x (subst (λ zs. Contains zs x) e i))
      (λ n. ⊎_elim (λ j. old x j) (λ j. last n.0 n.2 j) (Contains-append_cases xs (n.0 ∷ []) x (subst (λ zs. Contains zs x) n.1 i))) h
    where
      last : (y : Recorded) → IsShown v y → Contains (y ∷ []) x → P x
      last y s j = ⊎_elim (λ e. subst P e (shown v y s)) (λ k. absurd (contains_none x k)) (first_or_later y [] x j)

  all_shown : (v : Bool) (rs xs zs : List Recorded) → AddsAllSeen v rs xs zs → ((x : Recorded) → Contains xs x → P x) → (x : Recorded) → Contains zs x → P x
  all_shown v [] xs zs h old x i = old x (subst (λ ys. Contains ys x) h i)
  all_shown v (r ∷ rs) xs zs h old x i = all_shown v rs h.0 zs h.2 (one_shown (seen_if v r) xs h.0 h.1 old) x i

pub closed_shown : {c d : Content} {r : Form} {v : Bool} → ShowsConstraints c.constraints d.constraints r v → HasClosedSides c → HasClosedSides d
closed_shown {c} {d} {r} {v} s h =
    let constraints = let x = r.findings in x.constraints in
    record {
      left = all_shown (λ x. IsClosed x.left) (λ w x k. k.left) v constraints s.equal d.constraints s.seen (sides-added (λ x. IsClosed x.left) (λ x k. k.left) s.related h.left);
      right = all_shown (λ x. IsClosed x.right) (λ w x k. k.right) v constraints s.equal d.constraints s.seen (sides-added (λ x. IsClosed x.right) (λ x k. k.right) s.related h.right);
    }
