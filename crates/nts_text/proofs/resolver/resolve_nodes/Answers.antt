use Rattle.std.proofs.Common.{◌≡◌, Result, Ok, Err, IfOk, IfErr, OnOk}
use Rattle.std.specs.Result.{result_and}
use Rattle.nts_text.proofs.resolver.resolve_nodes.Goals as goal

-- what holds of the list where the nodes are taken, holds of what is answered
ok_of : {U T E : Type 0} (d : Result U E) (x : T) (P : T → Type 0) → OnOk d (P x) → IfOk (result_and d (Ok x)) P
ok_of (Ok u) x P h = h
ok_of (Err e) x P h = tt

err_of : {U T E : Type 0} (d : Result U E) (x : T) (P : E → Type 0) → IfErr d P → IfErr (result_and d (Ok x)) P
err_of (Ok u) x P h = tt
err_of (Err e) x P h = h

-- a refusal is that of the nodes
same_err : {U T E : Type 0} (d : Result U E) (x : T) (e : E) → result_and d (Ok x) ≡ Err e → d ≡ Err e
same_err (Ok u) x e is = cc
same_err (Err f) x e is = cc

pub returns : goal.returns
returns c =
    let d = c.all_nodes-done.result in
    let all = c.all_nodes-done.new.all in
    let done = c.all_nodes-done.ensures in
    rw c.and.ensures (record {
      each = ok_of d all _ done.each;
      sorted = ok_of d all _ done.sorted;
      declared = ok_of d all _ done.declared;
      means = ok_of d all _ done.means;
      kept = done.kept;
      reasons = err_of d all _ done.reasons;
      parameter = λ is. done.parameter (same_err d all _ is);
      variable = λ is. done.variable (same_err d all _ is);
      free = λ is. ok_of d all _ (done.free is);
      unknown = λ is. done.unknown (same_err d all _ is);
      twice = λ is. done.twice (same_err d all _ is);
      rigid = λ is. done.rigid (same_err d all _ is);
    })
