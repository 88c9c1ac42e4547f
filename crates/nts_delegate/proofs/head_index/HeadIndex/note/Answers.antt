use Rattle.std.proofs.Common.{refl, sym, ◌++◌, ◌∷◌, [], subst}
use Rattle.nts_delegate.specs.declared.head_index.HeadIndex.{HeadIndex}
use Rattle.nts_delegate.specs.Places.{IsIndexOf}
use Rattle.nts_delegate.proofs.Indexing.{noted_built, noted_blanket}
use Rattle.nts_candidates.proofs.Results.{OnOk-map}
use Rattle.nts_delegate.proofs.head_index.HeadIndex.note.Goals as goal

pub returns-in-Some-clause-noted : goal.returns-in-Some-clause-noted
returns-in-Some-clause-noted c =
    OnOk-map c.note_built.result (λ h. λ hs i e. (let new : HeadIndex = record { by_head = c.note_built.new.by_head; blanket = c.args.self.now.blanket } in subst (λ z. IsIndexOf new (hs ++ z ∷ [])) (sym c.in-Some.is) (noted_built c.args.self.now new hs c.in-Some.head c.args.place i e refl h)))
    c.note_built.ensures.noted

pub returns-in_ok-push-in-None-clause-noted : goal.returns-in_ok-push-in-None-clause-noted
returns-in_ok-push-in-None-clause-noted c = λ hs i e.
    (let new : HeadIndex = record { by_head = c.args.self.now.by_head; blanket = c.push.new.self } in
    subst (λ z. IsIndexOf new (hs ++ z ∷ [])) (sym c.in-None.is) (noted_blanket c.args.self.now new hs c.args.place i e refl c.in_ok-push-in-None.ensures.items))
