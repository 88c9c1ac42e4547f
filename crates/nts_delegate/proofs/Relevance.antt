-- Candidates of which none is left out.
use Rattle.std.proofs.Common.{◌≡◌, List, [], ◌∷◌, ◌++◌, append_assoc, append-nil, sym, subst}
use Rattle.nts_model.specs.Derivations.Handlers.{Candidate}
use Rattle.nts_delegate.specs.Relevant.{LeavesOut}
use Rattle.nts_delegate.specs.Relevant.LeavesOut.{none, offered}

all_from : (done xs : List Candidate) → LeavesOut done done → LeavesOut (done ++ xs) (done ++ xs)
all_from done [] h = subst (λ l. LeavesOut l l) (sym (append-nil done)) h
all_from done (x ∷ xs) h = subst (λ l. LeavesOut l l) (append_assoc done (x ∷ []) xs) (all_from (done ++ x ∷ []) xs (offered x h))

pub all_offered : (xs : List Candidate) → LeavesOut xs xs
all_offered xs = all_from [] xs none

pub same_offered : (xs ys : List Candidate) → ys ≡ xs → LeavesOut xs ys
same_offered xs ys e = subst (LeavesOut xs) (sym e) (all_offered xs)
