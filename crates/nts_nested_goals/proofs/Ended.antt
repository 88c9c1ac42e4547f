-- How contexts end.
use Rattle.std.proofs.Common.{◌≡◌, ◌⊎◌, inl, inr, [], ◌∷◌, ◌++◌, Option, Some, None, refl, sym, ◌∙◌}
use Rattle.std.specs.Prelude.{IfSome, Result, Ok, Err, OnOk, OnErr}
use Rattle.nts_store.specs.declared.fault.Fault.{Fault}
use Rattle.nts_store.specs.declared.fault.Fault.TheVariants as fault
use Rattle.nts_store.specs.declared.fault.EvalError.{EvalError}
use Rattle.nts_store.specs.declared.fault.EvalError.TheVariants as error
use Rattle.nts_store.specs.Errors.{error_of}
use Rattle.nts_unify.specs.Entries.{Entries, front}
use Rattle.nts_table.specs.Tables.{Table, IsTable}
use Rattle.nts_terms.specs.declared.cx.Cx.{Cx}
use Rattle.nts_meaning.specs.Evaluation.{Goes, Runs}
use Rattle.nts_meaning.proofs.Evaluating.{ended, runs-back}
use Rattle.nts_nested_goals.specs.Faults.{fault_in, fault_after}
use Rattle.nts_nested_goals.specs.Probing.{IsOpened}

-- what is no fault is what was answered, without a fault before
pub answered : {R : Type 0} (o : Option Fault) (r a : Result R EvalError) → fault_in r ≡ None → (o ≡ None → r ≡ a) → IfSome o (λ f. r ≡ Err (error_of f)) → (o ≡ None) × (r ≡ a)
answered None r a n s f = (refl, s refl)
answered (Some fault.Memory) r a n s f = (let no : Some fault.Memory ≡ None = rw f at n in absurd cc)
answered (Some fault.Full) r a n s f = (let no : Some fault.Full ≡ None = rw f at n in absurd cc)

-- where the universes ran out, that was answered, or kept before
pub ran_out : {R : Type 0} (o : Option Fault) (r a : Result R EvalError) → r ≡ Err error.Full → (o ≡ None → r ≡ a) → IfSome o (λ f. r ≡ Err (error_of f)) → (a ≡ Err error.Full) ⊎ (o ≡ Some fault.Full)
ran_out None r a q s f = inl (sym (s refl) ∙ q)
ran_out (Some fault.Full) r a q s f = inr refl
ran_out (Some fault.Memory) r a q s f = (let no : Err error.Memory ≡ Err error.Full = sym f ∙ q in absurd cc)

-- .. and then the fault that is kept is the one that was
pub same_after : {R : Type 0} (o : Option Fault) (r : Result R EvalError) → fault_in r ≡ None → fault_after o r ≡ o
same_after None r n = n
same_after (Some f) r n = refl

pub kept_fault : {R : Type 0} (x z : Option Fault) (r : Result R EvalError) → fault_in r ≡ None → z ≡ fault_after x r → x ≡ z
kept_fault x z r n q = sym (q ∙ same_after x r n)

-- a run whose store is the one that was handed back
pub runs_at : {a b d : Cx} {t v : Table} → d ≡ b → Runs a b t v → Runs a d t v
runs_at e k = rw e k

-- a run that was undone
pub back_at : {a z b : Cx} {t s u v : Table} → z ≡ a → IsTable a.nodes t → Runs z b s u → v ≡ t → Runs a b t v
back_at {a} {z} {b} {t} {s} {u} e h k q =
    let here : Runs a b s u = rw e at k in
    let g = here.goes in
    runs-back h g.extends here.rest q

-- a run in a snapshot that ended by its answer
pub ended_runs : {a b : Cx} {t s u v w : Table} {R E : Type 0} (r : Result R E) → IsTable a.nodes t → IsOpened t s → Runs a b s u → w ≡ u → OnOk r (v.entries ≡ w.entries) → OnErr r (w.saved ≡ v.saved ++ v.entries ∷ []) → v.saved ≡ front w.saved → v.mode ≡ w.mode → Runs a b t v
ended_runs {a} {b} {t} {s} {u} {v} {w} r h o k q kept back closed m =
    let here : Goes a.nodes b.nodes s w = rw q k.goes in
    record { goes = ended r o.entries o.saved h here kept back closed o.mode m; rest = k.rest }

-- the entries that were left
pub left_at : {R E : Type 0} (x y z : Entries) (r : Result R E) → OnOk r (x ≡ y) → y ≡ z → OnOk r (x ≡ z)
left_at x y z (Ok a) e q = e ∙ q
left_at x y z (Err a) e q = tt
