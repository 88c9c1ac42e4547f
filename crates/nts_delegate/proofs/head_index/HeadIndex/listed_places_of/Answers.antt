use Rattle.std.proofs.Common.{◌≡◌, length, sym, ◌∙◌, arith, eqb-true}
use Rattle.std.proofs.lemmas.List.{nil_from_length}
use Rattle.nts_delegate.proofs.Merging.{no_blanket, no_built}
use Rattle.nts_delegate.proofs.head_index.HeadIndex.listed_places_of.Goals as goal

pub returns-then-is_empty : goal.returns-then-is_empty
returns-then-is_empty c = λ hs i.
    (let zero = eqb-true _ 0 (sym c.is_empty.ensures ∙ c.if-is_empty.true) in
    let long = c.args.self.now.blanket.ok.0 in
    let short : length c.args.self.now.blanket.items ≡ 0 = omega (arith, zero, long) in
    let none = nil_from_length c.args.self.now.blanket.items short in
    c.built_by-built.ensures ∙ i.built c.args.head ∙ sym (no_blanket c.args.head 0 hs (sym i.blanket ∙ none)))

pub returns-then-is_empty-2 : goal.returns-then-is_empty-2
returns-then-is_empty-2 c = λ hs i.
    (let zero = eqb-true _ 0 (sym c.is_empty-2.ensures ∙ c.if-is_empty-2.true) in
    let short : length c.built_by-built.result.now ≡ 0 = omega (arith, zero) in
    let none = nil_from_length c.built_by-built.result.now short in
    c.deref.ensures.value ∙ i.blanket ∙ sym (no_built c.args.head 0 hs (sym (i.built c.args.head) ∙ sym c.built_by-built.ensures ∙ none)))
