use Rattle.std.proofs.Common.{◌≡◌, true, false, sym, ap, ◌∙◌}
use Rattle.nts_store.specs.Growth.{tree_at}
use Rattle.nts_store.specs.TypeFlags.{escaping}
use Rattle.nts_variance.specs.Parts.{closed_alias}
use Rattle.nts_variance.proofs.Looks.{closed_alias_tree}
use Rattle.nts_variance.proofs.Sides.{tight_alias}
use Rattle.nts_variance.proofs.heads_equal.is_loose.Goals as goal

pub returns-clause-yes : goal.returns-clause-yes
returns-clause-yes c = λ q.
    let t = tree_at c.args.nodes.now c.args.t in
    let l = c.label.result in
    let loose : closed_alias l (escaping t) ≡ true = ap (λ f. closed_alias l f.escaping) (sym c.flags.ensures) ∙ sym c.is_closed_alias.ensures ∙ q in
    (closed_alias_tree t l c.label.ensures.is (c.terms_are_formed.ensures.formed c.args.t c.requires.within) loose).loose

pub returns-clause-no : goal.returns-clause-no
returns-clause-no c = λ q.
    let t = tree_at c.args.nodes.now c.args.t in
    let l = c.label.result in
    let tight : closed_alias l (escaping t) ≡ false = ap (λ f. closed_alias l f.escaping) (sym c.flags.ensures) ∙ sym c.is_closed_alias.ensures ∙ q in
    tight_alias t l c.label.ensures.is tight
