-- A handler stays ready: its clauses are of the store, and their index leads to them.
use Rattle.std.proofs.Common.{◌≡◌, ℕ, zero, suc, ◌<◌, ◌≤◌, List, [], ◌∷◌, ◌++◌, length, get_or, map, Option, Some, None, refl, ap, sym, ◌∙◌, subst, arith}
use Rattle.std.specs.Prelude.{slice_get}
use Rattle.std.proofs.lemmas.List.{map_push}
use Rattle.nts_model.specs.declared.labels.TyHead.{TyHead}
use Rattle.nts_model.specs.Terms.Trees.{Tree}
use Rattle.nts_delegate.specs.declared.clauses.Clause.{Clause}
use Rattle.nts_delegate.specs.declared.clauses.TraitClauses.{TraitClauses}
use Rattle.nts_delegate.specs.declared.clauses.Clauses.{Clauses}
use Rattle.nts_delegate.specs.Places.{IsIndexOf}
use Rattle.nts_delegate.specs.Clauses.{HoldsClause, AreClauses, clauses_in, head_of_clause, IsIndexed, AreNormClauses, said_at, AreClausesReady}
use Rattle.nts_delegate.proofs.Offering.{clauses_push}
use Rattle.nts_delegate.proofs.Traits.{get_here}
use lib.ListN.{set}

-- the clauses of a trait, if it has any, are of the store, and found
record IsReadyAt (ts : List Tree) (o : Option TraitClauses) : Type 0 where
  clauses : AreClauses ts (clauses_in o)
  indexed : IsIndexed ts o

abbrev AllReady : List Tree → List TraitClauses → Type 0
AllReady ts xs = (i : ℕ) → IsReadyAt ts (slice_get xs i)

all_of : (ts : List Tree) (h : Clauses) → AreClausesReady ts h → AllReady ts h.traits.items
all_of ts h r = λ i. record { clauses = r.clauses i; indexed = r.indexed i }

-- the aliases of one that is ready are those of the other
ready_of : (ts : List Tree) (a b : Clauses) → AreClausesReady ts a → b.aliases ≡ a.aliases → AllReady ts b.traits.items → AreClausesReady ts b
ready_of ts a b k e r =
    record { clauses = λ i. (r i).clauses; indexed = λ i. (r i).indexed; aliases = λ x. subst (λ z. AreNormClauses ts (said_at z x).clauses) (sym e) (k.aliases x) }

push_ready : (ts : List Tree) (xs : List TraitClauses) (t : TraitClauses) → AllReady ts xs → IsReadyAt ts (Some t) → AllReady ts (xs ++ t ∷ [])
push_ready ts [] t r h zero = h
push_ready ts [] t r h (suc i) = record { clauses = tt; indexed = tt }
push_ready ts (x ∷ xs) t r h zero = r zero
push_ready ts (x ∷ xs) t r h (suc i) = push_ready ts xs t (λ j. r (suc j)) h i

-- a trait more, without clauses
pub ready_push : (ts : List Tree) (a b : Clauses) (t : TraitClauses) → b.aliases ≡ a.aliases → b.traits.items ≡ a.traits.items ++ t ∷ [] → t.clauses.items ≡ [] → IsIndexOf t.heads [] → AreClausesReady ts a → AreClausesReady ts b
ready_push ts a b t l e n x r =
    let new : IsReadyAt ts (Some t) = record { clauses = subst (AreClauses ts) (sym n) tt; indexed = subst (λ cs. IsIndexOf t.heads (map (head_of_clause ts) cs)) (sym n) x } in
    ready_of ts a b r l (subst (AllReady ts) (sym e) (push_ready ts a.traits.items t (all_of ts a r) new))

set_ready : (ts : List Tree) (xs : List TraitClauses) (e : ℕ) (d u : TraitClauses) → AllReady ts xs → e < length xs → d ≡ get_or xs e d → (IsReadyAt ts (Some d) → IsReadyAt ts (Some u)) → AllReady ts (set xs e u)
set_ready ts [] e d u r h is f i = absurd (omega (arith, h))
set_ready ts (x ∷ xs) zero d u r h is f zero = f (subst (λ z. IsReadyAt ts (Some z)) (sym is) (r zero))
set_ready ts (x ∷ xs) zero d u r h is f (suc i) = r (suc i)
set_ready ts (x ∷ xs) (suc e) d u r h is f zero = r zero
set_ready ts (x ∷ xs) (suc e) d u r h is f (suc i) = set_ready ts xs e d u (λ j. r (suc j)) (omega (arith, h)) is f i

-- what changes at one place
pub ready_set : (ts : List Tree) (a b : Clauses) (e : ℕ) (d u : TraitClauses) → b.aliases ≡ a.aliases → b.traits.items ≡ set a.traits.items e u → e < length a.traits.items → d ≡ get_or a.traits.items e d
    → (AreClauses ts d.clauses.items → IsIndexed ts (Some d) → AreClauses ts u.clauses.items × IsIndexed ts (Some u)) → AreClausesReady ts a → AreClausesReady ts b
ready_set ts a b e d u l s h is f r =
    ready_of ts a b r l (subst (AllReady ts) (sym s) (set_ready ts a.traits.items e d u (all_of ts a r) h is (λ k. let z = f k.clauses k.indexed in record { clauses = z.0; indexed = z.1 })))

length-heads : (ts : List Tree) (cs : List Clause) → length cs ≡ length (map (head_of_clause ts) cs)
length-heads ts [] = refl
length-heads ts (c ∷ cs) = ap suc (length-heads ts cs)

-- one clause more
pub one_more : (ts : List Tree) (d u : TraitClauses) (c : Clause) (h : Option TyHead) → HoldsClause ts c → h ≡ head_of_clause ts c → u.clauses.items ≡ d.clauses.items ++ c ∷ []
    → ((hs : List (Option TyHead)) → IsIndexOf d.heads hs → length d.clauses.items ≡ length hs → IsIndexOf u.heads (hs ++ h ∷ []))
    → AreClauses ts d.clauses.items → IsIndexed ts (Some d) → AreClauses ts u.clauses.items × IsIndexed ts (Some u)
one_more ts d u c h holds is e f all index =
    let cs = d.clauses.items in
    let found : IsIndexOf u.heads (map (head_of_clause ts) cs ++ h ∷ []) = f (map (head_of_clause ts) cs) index (length-heads ts cs) in
    let heads : map (head_of_clause ts) cs ++ h ∷ [] ≡ map (head_of_clause ts) u.clauses.items = ap (λ z. map (head_of_clause ts) cs ++ z ∷ []) is ∙ sym (map_push (head_of_clause ts) cs c) ∙ ap (map (head_of_clause ts)) (sym e) in
    (subst (AreClauses ts) (sym e) (clauses_push ts cs c all holds), subst (IsIndexOf u.heads) heads found)

pub ready_same : (ts : List Tree) (a b : Clauses) → b.aliases ≡ a.aliases → b.traits.items ≡ a.traits.items → AreClausesReady ts a → AreClausesReady ts b
ready_same ts a b l e r = ready_of ts a b r l (subst (AllReady ts) (sym e) (all_of ts a r))

-- a trait that has clauses, or has none
pub at_place : (ts xs : List TraitClauses) (i : ℕ) (t : TraitClauses) → xs ≡ ts → i < length xs → t ≡ get_or xs i t → slice_get ts i ≡ Some t
at_place ts xs i t e h is = ap (λ z. slice_get z i) (sym e) ∙ get_here xs i t h ∙ ap Some (sym is)

past_end : (xs : List TraitClauses) (i : ℕ) → length xs ≤ i → slice_get xs i ≡ None
past_end [] i h = refl
past_end (x ∷ xs) zero h = absurd (omega (arith, h))
past_end (x ∷ xs) (suc i) h = past_end xs i (omega (arith, h))

pub no_place : (ts xs : List TraitClauses) (i : ℕ) → xs ≡ ts → length xs ≤ i → slice_get ts i ≡ None
no_place ts xs i e h = ap (λ z. slice_get z i) (sym e) ∙ past_end xs i h
