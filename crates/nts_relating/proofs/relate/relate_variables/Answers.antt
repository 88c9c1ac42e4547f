use Rattle.std.proofs.Common.{◌≡◌, Bool, true, false, refl, sym, ◌∙◌}
use Rattle.nts_unify.specs.Reading.{content_of}
use Rattle.nts_unify.proofs.Leading.{kind_at-entry}
use Rattle.nts_relating.proofs.Naming.{kind_read}
use Rattle.nts_relating.proofs.BindLemmas.{can_take}
use Rattle.nts_relating.proofs.PairLemmas.{joined_one, AreMadeOne-turned}
use Rattle.nts_relating.proofs.RefusalLemmas.{variables_apart}
use Rattle.nts_relating.proofs.relate.relate_variables.Goals as goal

not_yes : (b : Bool) → b ≡ false → b ≡ true → ⊥
not_yes b f g = cc

pub returns-then-is_same_kind-clause-related : goal.returns-then-is_same_kind-clause-related
returns-then-is_same_kind-clause-related c =
    let ts = c.args.nodes.now in
    let e = c.args.table.now.entries in
    let a = c.requires.left in
    let b = c.requires.right in
    let first = kind_read e c.args.x a.of_kind c.variable-left.result a.free c.variable-left.ensures in
    let second = kind_read e c.args.y b.of_kind c.variable-right.result b.free c.variable-right.ensures in
    let kinds = sym first ∙ c.is_same_kind.ensures.yes c.if-is_same_kind.true ∙ second in
    record {
      made = λ q. joined_one ts ts e _ c.args.x c.args.y a.of_kind b.of_kind c.requires.lawful a.free b.free a.no_region kinds refl (c.in_ok-join.ensures.joined ts c.requires.lawful);
      same = λ (q : true ≡ false). cc;
    }

pub bind_variable-requires-clause-can : goal.bind_variable-requires-clause-can
bind_variable-requires-clause-can c =
    can_take c.args.table.now.entries c.args.x c.args.y c.variable-left.result c.variable-right.result c.requires.left c.requires.right c.variable-left.ensures c.variable-right.ensures (c.takes_variable.ensures.0 c.if-takes_variable.true)

pub bind_variable-requires-then-takes_variable-2-clause-can : goal.bind_variable-requires-then-takes_variable-2-clause-can
bind_variable-requires-then-takes_variable-2-clause-can c =
    can_take c.args.table.now.entries c.args.y c.args.x c.variable-right.result c.variable-left.result c.requires.right c.requires.left c.variable-right.ensures c.variable-left.ensures (c.takes_variable-2.ensures.0 c.if-takes_variable-2.true)

pub returns-then-takes_variable-2-clause-related : goal.returns-then-takes_variable-2-clause-related
returns-then-takes_variable-2-clause-related c =
    record {
      made = λ q. (c.in_ok-bind_variable-2.ensures.lawful, AreMadeOne-turned c.in_ok-bind_variable-2.ensures.made);
      same = λ (q : true ≡ false). cc;
    }

pub returns-clause-no : goal.returns-clause-no
returns-clause-no c = λ q.
    let ts = c.args.nodes.now in
    let e = c.args.table.now.entries in
    let left = kind_at-entry ts e c.args.x c.variable-left.result c.variable-left.ensures in
    let right = kind_at-entry ts e c.args.y c.variable-right.result c.variable-right.ensures in
    record {
      none = variables_apart (content_of ts e) c.args.x c.args.y c.variable-left.result.kind c.variable-right.result.kind left right (c.is_same_kind.ensures.no c.if-is_same_kind.false) (λ h. not_yes _ c.if-takes_variable.false (c.takes_variable.ensures.1 h)) (λ h. not_yes _ c.if-takes_variable-2.false (c.takes_variable-2.ensures.1 h));
    }
