use Rattle.std.proofs.Common.{◌≡◌, inl, inr, ⊎_elim, true, false, Some, None, sym, ap, ◌∙◌}
use Rattle.nts_model.specs.Terms.Trees.{label_of}
use Rattle.nts_store.specs.Growth.{tree_at}
use Rattle.nts_store.specs.TypeFlags.{escaping}
use Rattle.nts_unify.specs.declared.contents.State.TheVariants.{Unset, Known}
use Rattle.nts_variance.specs.Parts.{closed_alias, number_of_type}
use Rattle.nts_variance.proofs.CountedPieces.{infer_alias}
use Rattle.nts_variance.proofs.DueCalls.{if_is_ok, if_is_err, class_one, number_variable}
use Rattle.nts_variance.proofs.Dues.{one_number}
use Rattle.nts_variance.proofs.Looks.{closed_alias_tree, type_infer}
use Rattle.nts_variance.proofs.Sides.{tight_alias}
use Rattle.nts_variance.proofs.taking.is_owed.Goals as goal

pub returns-clause-yes : goal.returns-clause-yes
returns-clause-yes c = λ q.
    let t = tree_at c.args.nodes.now c.args.t in
    let l = c.label-label.result in
    let loose : closed_alias l (escaping t) ≡ true = ap (λ f. closed_alias l f.escaping) (sym c.flags.ensures) ∙ sym c.is_closed_alias.ensures ∙ q in
    let a = closed_alias_tree t l c.label-label.ensures.is (c.terms_are_formed.ensures.formed c.args.t c.requires.side.within) loose in
    inl a.loose

pub returns-clause-no : goal.returns-clause-no
returns-clause-no c = λ q.
    let t = tree_at c.args.nodes.now c.args.t in
    let l = c.label-label.result in
    let tight : closed_alias l (escaping t) ≡ false = ap (λ f. closed_alias l f.escaping) (sym c.flags.ensures) ∙ sym c.is_closed_alias.ensures ∙ q in
    ⊎_elim (λ a. tight_alias t l c.label-label.ensures.is tight a)
    (λ v. (let labels = sym (ap label_of c.label-label.ensures.is) ∙ v.1 in
    let none : None ≡ number_of_type l = sym c.in_default.is ∙ c.type_number.ensures in
    absurd (let some : number_of_type l ≡ Some v.0 = cc in let both : None ≡ Some v.0 = none ∙ some in cc)))

pub returns-in-Some-clause-yes : goal.returns-in-Some-clause-yes
returns-in-Some-clause-yes c = λ q.
    let t = tree_at c.args.nodes.now c.args.t in
    let is = number_variable t c.label-label.result c.in-Some.n c.label-label.ensures.is (sym c.type_number.ensures ∙ c.in-Some.is) in
    let found = if_is_ok c.probe_variable.result (sym c.is_ok.ensures.value ∙ q) c.probe_variable.ensures.value in
    inr (c.in-Some.n, is, found.1.0, found.0, found.1.1)

pub returns-in-Some-clause-no : goal.returns-in-Some-clause-no
returns-in-Some-clause-no c = λ q.
    let t = tree_at c.args.nodes.now c.args.t in
    let is = number_variable t c.label-label.result c.in-Some.n c.label-label.ensures.is (sym c.type_number.ensures ∙ c.in-Some.is) in
    let unset = if_is_err c.probe_variable.result (sym c.is_ok.ensures.value ∙ q) c.probe_variable.ensures.root in
    ⊎_elim (λ a. infer_alias t (type_infer t c.in-Some.n is) a)
    (λ v. (let same = one_number t v.0 c.in-Some.n v.1 is in
    let there = rw same at v.4 in
    absurd (let states = class_one c.args.nodes.now c.args.table.now.entries c.in-Some.n unset.0 v.2 Unset (Known v.3) c.requires.lawful unset.1 there in cc)))
