use Rattle.std.proofs.Common.{rules, refl, ◌≡◌, map, ap}
use Rattle.nts_model.specs.Answers.Responses.{Response as Form}
use Rattle.nts_canonical.specs.Forms.{kind_of_var}
use Rattle.nts_response.proofs.EntriesTold.{found_one}
use Rattle.nts_response.proofs.same.same_response.Goals as goal

pub returns-then-same_kinds : goal.returns-then-same_kinds
returns-then-same_kinds c =
    let found = found_one c.args.cx.now.nodes c.args.a.now.value c.args.b.now.value in
    let certain : c.args.a.now.value.certainty ≡ c.args.b.now.value.certainty = search rules in
    let universe : c.args.a.now.max_universe ≡ c.args.b.now.max_universe = search rules in
    let kinds : map kind_of_var c.args.a.now.var_kinds.items ≡ map kind_of_var c.args.b.now.var_kinds.items = (let k = rw (c.deref.ensures.value, c.deref-2.ensures.value) at c.if-same_kinds.ensures in k.0 refl) in (
      λ h. record { certainty = certain; form = (let same = found.0 (c.same_findings.ensures.0 h) in cc) },
      λ h. c.same_findings.ensures.1 (found.1 (ap (λ (z : Form). z.findings) h.form)),
    )
