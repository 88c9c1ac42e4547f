-- Terms in whose positions values are put.
use Rattle.std.proofs.Common.{◌≡◌, ℕ, false, List, get_or, Option, Some, None, refl}
use Rattle.nts_model.specs.declared.labels.BoundVarIndexKind.TheVariants as index
use Rattle.nts_model.specs.declared.labels.Label.{Label}
use Rattle.nts_model.specs.declared.labels.Label.TheVariants as label
use Rattle.nts_model.specs.Terms.Trees.{Tree, empty, more, node, is_canonical, binders, IsClosed}
use Rattle.nts_model.specs.Terms.Scoping.{IsWellBound}
use Rattle.nts_model.proofs.Terms.Unpositioned.{known_well_bound}
use Rattle.nts_model.proofs.Terms.Scoping.{lists_patched, filled_patched}
use Rattle.nts_model.specs.Tables.Contents.{Content}
use Rattle.nts_model.specs.Terms.Substitutions.{filled, position_of, value_or}
use Rattle.nts_model.specs.Tables.Resolving.{KnowsLeaves, Knows}

known-value : (c : Content) (vs : List Tree) (o : Option ℕ) (t : Tree) → ((j : ℕ) → Knows c (get_or vs j empty)) → (o ≡ None → Knows c t) → Knows c (value_or o vs t)
known-value c vs None t h k = k refl
known-value c vs (Some i) t h k = h i

-- what names no position is none
no_position : (l : Label) → position_of l ≡ None → is_canonical l ≡ false
no_position (label.Bound s index.Canonical n) e = cc
no_position (label.Bound s (index.Bound d) n) e = refl
no_position (label.Leaf x) e = refl
no_position (label.Ty x) e = refl
no_position (label.Const x) e = refl
no_position (label.Clause x) e = refl
no_position (label.Predicate x) e = refl
no_position (label.List x) e = refl

-- where a table knows the term's leaves and the values, which are closed, and the term lists what it binds, it knows what they give
pub knows-filled : (c : Content) (vs : List Tree) (t : Tree) → ((j : ℕ) → Knows c (get_or vs j empty)) → ((j : ℕ) → IsClosed (get_or vs j empty)) → KnowsLeaves c t → IsWellBound t → Knows c (filled vs t)
knows-filled c vs empty h p k w = tt
knows-filled c vs (more a b) h p k w = (knows-filled c vs a h p k.0 w.0, knows-filled c vs b h p k.1 w.1)
knows-filled c vs (node l x) h p k w =
    let lists = lists_patched (binders l) x (filled vs x) (filled_patched vs (λ j. (p j, known_well_bound c (get_or vs j empty) (h j))) x) w.0 in
    known-value c vs (position_of l) (node l (filled vs x)) h (λ e. ((k.0.0, k.0.1, no_position l e), knows-filled c vs x h p k.1 w.1, lists))
