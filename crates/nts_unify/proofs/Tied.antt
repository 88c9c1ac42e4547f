-- New variables that lead to variables that the table had.
use Rattle.std.proofs.Common.{◌≡◌, ◌≢◌, ⊎_elim, ℕ, zero, suc, ◌<◌, ◌≤◌, length, Some, refl, ap, ◌∙◌, arith}
use Rattle.std.proofs.lemmas.Bool.{cases_lt}
use Rattle.nts_model.specs.declared.labels.VariableKind.{VariableKind}
use Rattle.nts_model.specs.declared.labels.VariableKind.TheVariants as kind
use Rattle.nts_model.specs.declared.labels.Leaf.TheVariants as leaf
use Rattle.nts_model.specs.declared.labels.Label.TheVariants as label
use Rattle.nts_model.specs.Terms.Trees.{empty, variable_tree}
use Rattle.nts_model.specs.Tables.Contents.{Content, kind_at}
use Rattle.nts_model.specs.Tables.Resolving.{rooted, IsSound}
use Rattle.nts_model.specs.Tables.Holding.{AreOne}
use Rattle.nts_model.specs.Tables.Tying.{TiesNew}
use Rattle.nts_model.proofs.Tables.Resolved.{IsVariable, resolved-variable_link}
use Rattle.nts_model.proofs.Tables.Tying.{IsTied}
use Rattle.nts_unify.specs.Changing.{KeepsKnowing}

-- the links lead down to a variable that was there
pub ties_of_keeps : (c d : Content) → IsSound d → KeepsKnowing c d → TiesNew c d
ties_of_keeps c d s keeps = record { tied = λ n k l h r. below (suc n) n k (omega arith) l h r }
  where
    below : (b n : ℕ) (k : VariableKind) → n < b → length c.slots ≤ n → kind_at d n ≡ Some k → k ≢ kind.Region → IsTied c d n k
    below zero n k less l h r = absurd (omega (arith, less))
    below (suc b) n k less l h r =
        let t = keeps.news n k l h r in
        let m = t.0 in
        let down : m < n = s.descends n m t.1 in
        let has : kind_at d m ≡ Some k = s.one_kind n m t.1 ∙ h in
        let is : IsVariable d (label.Leaf (leaf.Variable k n)) k n = record { is = refl; no_region = r; has = h } in
        let one : AreOne d (variable_tree k n) (variable_tree k m) = ap (rooted d) (resolved-variable_link d (label.Leaf (leaf.Variable k n)) empty k n m s is t.1) in
        ⊎_elim
        (λ (old : m < length c.slots). (m, old, has, one))
        (λ (new : length c.slots ≤ m). let u = below b m k (omega (arith, down, less)) new has r in (u.0, u.1, u.2, one ∙ u.3)) (cases_lt m (length c.slots))
