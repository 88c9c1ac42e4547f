use Rattle.std.proofs.Common.{Result, Ok, Err, ◌∙◌, subst}
use Rattle.std.specs.Prelude.{OnOk}
use Rattle.std.specs.Io.KnownBytes.{Appends}
use Rattle.nts_wording.proofs.Growths.{Appends-trans, Begins-trans}
use Rattle.nts_wording.proofs.output.put_refusal.Goals as goal

on_ok : {X E A B : Type 0} (r : Result X E) → OnOk r A → (A → B) → OnOk r B
on_ok (Ok x) h f = f h
on_ok (Err e) h f = tt

pub returns-in_err-put-2-clause-begins : goal.returns-in_err-put-2-clause-begins
returns-in_err-put-2-clause-begins g c = Begins-trans c.put.ensures.begins c.put-2.ensures.begins

pub returns-in_err-put-3-clause-begins : goal.returns-in_err-put-3-clause-begins
returns-in_err-put-3-clause-begins g c = Begins-trans c.put.ensures.begins (Begins-trans c.put-2.ensures.begins c.put-3.ensures.begins)

pub returns-in_err-put-4-clause-begins : goal.returns-in_err-put-4-clause-begins
returns-in_err-put-4-clause-begins g c =
    Begins-trans c.put.ensures.begins (Begins-trans c.put-2.ensures.begins (Begins-trans c.put-3.ensures.begins c.put-4.ensures.begins))

pub returns-clause-said : goal.returns-clause-said
returns-clause-said g c =
    let digits = subst (λ bs. Appends (g.W.Write.contents c.put.new.output) (g.W.Write.contents c.put-2.new.output) bs) (c.as_bytes.ensures.value ∙ c.format.ensures.text) c.in_ok-put-2.ensures.all in
    let words = subst (λ bs. Appends (g.W.Write.contents c.put-3.new.output) (g.W.Write.contents c.put-4.new.output) bs) (c.as_bytes-2.ensures.value ∙ c.words.ensures) c.in_ok-put-4.ensures.all in
    let number = Appends-trans _ _ _ _ _ c.in_ok-put.ensures.all digits in
    let reason = Appends-trans _ _ _ _ _ (Appends-trans _ _ _ _ _ number c.in_ok-put-3.ensures.all) words in
    on_ok c.put-5.result c.put-5.ensures.all (λ last. Appends-trans _ _ _ _ _ reason last)

pub returns-clause-begins : goal.returns-clause-begins
returns-clause-begins g c =
    Begins-trans c.put.ensures.begins (Begins-trans c.put-2.ensures.begins (Begins-trans c.put-3.ensures.begins (Begins-trans c.put-4.ensures.begins c.put-5.ensures.begins)))
