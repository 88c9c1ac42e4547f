-- Terms under the values of a table, one after the other, and while a store grows.
use Rattle.std.proofs.Common.{◌≡◌, List, [], ◌∷◌, ◌++◌, All, map, refl, sym, ap, ◌∙◌}
use Rattle.std.proofs.lemmas.List.Elements.{All-head, All-tail, All-push}
use Rattle.nts_model.specs.Terms.Trees.{Tree}
use Rattle.nts_model.specs.Tables.Contents.{Content}
use Rattle.nts_model.specs.Tables.Resolving.{deeply_resolved}
use Rattle.nts_terms.specs.declared.handles.GenericArg.{GenericArg}
use Rattle.nts_store.specs.Growth.{tree_at, IsIn, Extends}
use Rattle.nts_store.proofs.Growing.{IsIn-extended, Extends-trans, Extends-refl}
use Rattle.nts_terms.proofs.Moved.{KeepsRest-trans, KeepsRest-refl, Holds-extended}
use Rattle.nts_table.specs.Tables.{Table, IsTable}
use Rattle.nts_table.specs.TableLaws.{IsTable-extended}
use Rattle.nts_unify.specs.Lawful.{content_of-extended}
use Rattle.nts_wording.specs.Found.{AreResolved, IsKnownValue}

map_more : {A B : Type 0} (f : A → B) (xs : List A) (x : A) → map f (xs ++ x ∷ []) ≡ map f xs ++ f x ∷ []
map_more f [] x = refl
map_more f (y ∷ ys) x = ap (λ w. f y ∷ w) (map_more f ys x)

trees-later : {us vs : List Tree} → Extends us vs → (xs : List GenericArg) → All (λ a. IsIn us a.node) xs → map (λ a. tree_at vs a.node) xs ≡ map (λ a. tree_at us a.node) xs
trees-later e [] h = refl
trees-later {us} {vs} e (x ∷ xs) h =
    let here : tree_at vs x.node ≡ tree_at us x.node = e.kept x.node (All-head (λ a. IsIn us a.node) x xs h) in
    let others = trees-later e xs (All-tail (λ a. IsIn us a.node) x xs h) in
    λ i. here i ∷ others i

within-later : {us vs : List Tree} → Extends us vs → (xs : List GenericArg) → All (λ a. IsIn us a.node) xs → All (λ a. IsIn vs a.node) xs
within-later e xs h = λ k d l. IsIn-extended e _ (h k d l)

-- one more term
pub resolved_more : (ts us vs : List Tree) (c : Content) (old new : List GenericArg) (t r : GenericArg) → Extends us vs → AreResolved ts us c old new
    → IsIn vs r.node → tree_at vs r.node ≡ deeply_resolved c (tree_at ts t.node) → AreResolved ts vs c (old ++ t ∷ []) (new ++ r ∷ [])
resolved_more ts us vs c old new t r e h within tree =
    let before : map (λ a. tree_at vs a.node) new ≡ map (λ a. deeply_resolved c (tree_at ts a.node)) old = trees-later e new h.within ∙ h.trees in
    record {
      within = All-push (λ a. IsIn vs a.node) new r (within-later e new h.within) within;
      trees = map_more (λ a. tree_at vs a.node) new r ∙ ap (λ w. w ++ tree_at vs r.node ∷ []) before ∙ ap (λ w. map (λ a. deeply_resolved c (tree_at ts a.node)) old ++ w ∷ []) tree
          ∙ sym (map_more (λ a. deeply_resolved c (tree_at ts a.node)) old t);
    }

-- the same terms later on
pub resolved_later : (ts us vs : List Tree) (c : Content) (old new : List GenericArg) → Extends us vs → AreResolved ts us c old new → AreResolved ts vs c old new
resolved_later ts us vs c old new e h = record { within = within-later e new h.within; trees = trees-later e new h.within ∙ h.trees }

-- the values of a table, in a later store
known-extended : {a b : List Tree} {t : Table} {x : GenericArg} → IsTable a t → Extends a b → IsKnownValue a t x → IsKnownValue b t x
known-extended {a} {b} {t} {x} h e k =
    let kept = e.kept x.node k.holds.within in
    let same = content_of-extended e h.now in
    record { holds = record { within = IsIn-extended e x.node k.holds.within; fits = rw kept k.holds.fits }; knows = rw (kept, same) k.knows }

pub values-extended : {a b : List Tree} {t : Table} (vs : List GenericArg) → IsTable a t → Extends a b → All (λ v. IsKnownValue a t v) vs → All (λ v. IsKnownValue b t v) vs
values-extended vs h e k = λ i d l. known-extended h e (k i d l)

pub ruleset telling = (Extends-trans, Extends-refl, KeepsRest-trans, KeepsRest-refl, Holds-extended, IsTable-extended, values-extended)
