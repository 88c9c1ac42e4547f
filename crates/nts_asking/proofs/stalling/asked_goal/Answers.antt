use Rattle.std.proofs.Common.{[], ap, sym, ◌∙◌, map}
use Rattle.nts_model.specs.Terms.Substitutions.{leaf_tree}
use Rattle.nts_meaning.proofs.Evaluating.{Goes-extends, IsPosed-later}
use Rattle.nts_asking.specs.Stalling.{stalling}
use Rattle.nts_canonical.specs.Forms.{input_of}
use Rattle.nts_asking.proofs.KeptStalled.{numbers_of_leaves, stalling_later}
use Rattle.nts_asking.proofs.stalling.asked_goal.Goals as goal

pub returns-clause-posed : goal.returns-clause-posed
returns-clause-posed c =
    let k = c.in_ok-asked.ensures in
    IsPosed-later (Goes-extends k.posed.table c.in_ok-vars.ensures.grows.extends) k.posed

pub returns-clause-stalls : goal.returns-clause-stalls
returns-clause-stalls c =
    let k = c.in_ok-asked.ensures in
    let v = c.in_ok-vars.ensures in
    let ts = c.stalling_vars.new.cx.nodes in
    let e = c.args.table.now.entries in
    let same = stalling_later v.grows.extends e e c.in_ok-asked.asked k.posed.holds in
    let vars = v.vars ∙ ap (map leaf_tree) (sym same) in
    record {
      vars = vars;
      held = v.held;
      types = rw c.deref.ensures.value at c.in_ok-types.ensures.numbers ∙ numbers_of_leaves ts c.in_ok-vars.vars.items (stalling (input_of ts e c.in_ok-asked.asked [])) vars;
    }
