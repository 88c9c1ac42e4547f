-- What the variables of a goal keep while a store and a table grow.
use Rattle.std.proofs.Common.{◌≡◌, List, [], ◌∷◌, Some, All, map}
use Rattle.std.proofs.lemmas.List.Elements.{All-nil, All-cons}
use Rattle.nts_model.specs.declared.labels.Sort.{Sort}
use Rattle.nts_model.specs.declared.labels.Sort.TheVariants as sort
use Rattle.nts_model.specs.Terms.Trees.{Tree, of_sort, any_argument, FitsPlace}
use Rattle.nts_store.specs.declared.nodes.NodeId.{NodeId}
use Rattle.nts_terms.specs.declared.handles.GenericArg.{GenericArg}
use Rattle.nts_store.specs.Growth.{tree_at, AllIn}
use Rattle.nts_store.proofs.Growing.{IsIn-extended, Extends-trans, Extends-refl}
use Rattle.nts_terms.proofs.Moved.{KeepsRest-trans, KeepsRest-refl, Holds-extended}
use Rattle.nts_table.specs.Tables.{Table}
use Rattle.nts_unify.specs.Reading.{content_of}
use Rattle.nts_table.specs.TableLaws.{IsTable-extended}
use Rattle.nts_delegate.specs.ClausesKept.{AreClausesReady-kept}
use Rattle.nts_meaning.specs.Evaluation.{Goes, AreValues, AllKnown, AreOfSorts}
use Rattle.nts_wording.specs.Found.{IsKnownValue}
use Rattle.nts_wording.proofs.Telling.{values-extended}
use Rattle.nts_meaning.proofs.Evaluating.{Knows-goes}

-- the values later on
pub IsKnownValue-later : {a b : List Tree} {t u : Table} {x : GenericArg} → Goes a b t u → IsKnownValue a t x → IsKnownValue b u x
IsKnownValue-later {a} {b} {t} {u} {x} g h =
    let kept = g.extends.kept x.node h.holds.within in
    record { holds = record { within = IsIn-extended g.extends x.node h.holds.within; fits = rw kept h.holds.fits }; knows = rw kept (Knows-goes (tree_at a x.node) g h.knows) }

pub values-later : {a b : List Tree} {t u : Table} (vs : List GenericArg) → Goes a b t u → All (λ v. IsKnownValue a t v) vs → All (λ v. IsKnownValue b u v) vs
values-later vs g h = λ k d l. IsKnownValue-later g (h k d l)

fits_sort : (s : Sort) → FitsPlace any_argument (Some (of_sort s))
fits_sort sort.Ty = tt
fits_sort sort.Region = tt
fits_sort sort.Const = tt

values-each : (ts : List Tree) (t : Table) (ss : List Sort) (vs : List GenericArg) → AllIn ts (map (λ v. v.node) vs) → AreOfSorts ss (map (tree_at ts) (map (λ v. v.node) vs)) → AllKnown (content_of ts t.entries) (map (tree_at ts) (map (λ v. v.node) vs)) → All (λ v. IsKnownValue ts t v) vs
values-each ts t ss [] h s k = All-nil (λ v. IsKnownValue ts t v)
values-each ts t [] (v ∷ vs) h s k = absurd s
values-each ts t (x ∷ ss) (v ∷ vs) h s k =
    All-cons (λ w. IsKnownValue ts t w) v vs (record { holds = record { within = h.0; fits = rw s.0 (fits_sort x) }; knows = k.0 }) (values-each ts t ss vs h.1 s.1 k.1)

pub values-fresh : {ts : List Tree} {t : Table} (fresh : List Sort) (ns : List NodeId) (vs : List GenericArg) → map (λ v. v.node) vs ≡ ns → AreValues ts t fresh ns → All (λ v. IsKnownValue ts t v) vs
values-fresh {ts} {t} fresh ns vs e h =
    let k : AreValues ts t fresh (map (λ v. v.node) vs) = rw e h in
    values-each ts t fresh vs k.within k.sorts k.known

pub ruleset keeping = (Extends-trans, Extends-refl, AreClausesReady-kept)

pub ruleset posing = (Extends-trans, Extends-refl, KeepsRest-trans, KeepsRest-refl, Holds-extended, IsTable-extended, values-extended)
