use Rattle.std.proofs.Common.{◌≡◌, Some, None, refl, sym, ap, ◌∙◌}
use Rattle.std.proofs.lemmas.Bool.{ltb-true}
use Rattle.nts_store.specs.TypeFlags.{escaping}
use Rattle.nts_store.specs.Growth.{tree_at}
use Rattle.nts_store.proofs.Escaping.{closed_under}
use Rattle.nts_placeholder.proofs.OpeningLemmas.{below_true}
use Rattle.nts_placeholder.proofs.escaping.is_closed_under.Goals as goal

pub returns-in-None : goal.returns-in-None
returns-in-None c =
    let t = tree_at c.args.nodes.now c.args.t in
    let e : escaping t ≡ None = sym (ap (λ f. f.escaping) c.flags.ensures) ∙ c.in-None.is in
    ((λ h. (closed_under c.args.level t).0 (rw e tt)), λ h. refl)

pub returns-in-Some : goal.returns-in-Some
returns-in-Some c =
    let t = tree_at c.args.nodes.now c.args.t in
    let e : escaping t ≡ Some c.in-Some.d = sym (ap (λ f. f.escaping) c.flags.ensures) ∙ c.in-Some.is in
    ((λ h. (closed_under c.args.level t).0 (rw e (ltb-true c.in-Some.d c.args.level h))), λ h. below_true c.in-Some.d c.args.level (rw e at (closed_under c.args.level t).1 h))
