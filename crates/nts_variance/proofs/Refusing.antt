-- A walk that no choice of a variable's tree goes on by refuses the pair of the variable and the term.
use Rattle.std.proofs.Common.{◌≡◌, ℕ, ◌<◌, Bool, false, List, [], ◌∷◌, length, Option, Some, subst}
use Rattle.nts_model.specs.declared.labels.Variance.{Variance}
use Rattle.nts_model.specs.declared.labels.VariableKind.{VariableKind}
use Rattle.nts_model.specs.declared.labels.Label.{Label}
use Rattle.nts_model.specs.Terms.Trees.{Tree, variable_tree}
use Rattle.nts_model.specs.Tables.Contents.{Content, universe_of, kind_at}
use Rattle.nts_model.specs.Tables.Levels.{NamesAll, IfNamesAll, term_level}
use Rattle.nts_model.specs.Tables.Worlds.{inst, IsNameable}
use Rattle.nts_variance_model.specs.Variances.Leaving.{judging_of, Refuses}
use Rattle.nts_model.proofs.Tables.Slots.{field_below}
use Rattle.nts_variance.specs.Steps.{enter, entered, ended}
use Rattle.nts_variance.specs.Walking.{IsChoice, sides}
use Rattle.nts_variance.specs.Varying.{WalkRefuses}
use Rattle.nts_variance.proofs.Pairs.{sides_settle}

pub walk_refuses_pair : (declared : ℕ → List Variance) (z : Bool) (u x : ℕ) (c : Content) (k : VariableKind) (v : Variance) (t : Tree) → WalkRefuses declared u x c (enter v false t ∷ []) [] [] → universe_of c x ≡ Some u → kind_at c x ≡ Some k
    → Refuses declared c (sides z v (variable_tree k x) t ∷ [])
walk_refuses_pair declared z u x c k v t refuses universe kind =
    record {
      none = λ j w solves judges settled h.
          (let J = judging_of declared j in
          let whole = w.tree x in
          let below : x < length c.slots = field_below (λ s. s.kind) c x k kind in
          let value = solves.fitting.each x k kind in
          let named : (f : Label → Option ℕ) → IsNameable f c w → NamesAll f u whole = λ f n. subst (λ o. IfNamesAll f o whole) universe (n.each x) in
          let choice : IsChoice J u whole v false (inst w t) whole = record { settled = settled.each x below; formed = value.formed; named = λ f n. n; settles = sides_settle z J j.lawful w v (variable_tree k x) t h.0 } in
          refuses.none j w solves judges settled tt (named term_level solves.nameable) (entered choice ended));
    }
