use Rattle.std.proofs.Common.{◌≡◌, length, sym, ap, subst, ◌∙◌, arith}
use Rattle.nts_model.specs.Canonical.Numbered.{added, AreDistinct}
use Rattle.nts_model.proofs.Terms.Listed.{distinct-added}
use Rattle.nts_canonicalizer.specs.LeafLists.{leaves_found, AreFoundOnce}
use Rattle.nts_canonicalizer.proofs.AddingLeaves.{add-there, add-pushed, insert_key-added}
use Rattle.nts_canonicalizer.proofs.leaves.Leaves.add.Goals as goal

pub returns-then-place_in-len : goal.returns-then-place_in-len
returns-then-place_in-len c =
    let shown : c.in-Listed.list.items ≡ c.args.self.now = ap leaves_found (sym c.in-Listed.is) ∙ c.self.view_is in
    let long : c.len.result ≡ length c.in-Listed.list.items = omega arith in
    add-there c.in-Listed.list.items c.deref.result.now c.args.leaf c.place_in.result c.len.result c.deref.ensures.value c.place_in.ensures long c.if-place_in-len.true ∙ ap (λ s. added s c.args.leaf) shown

pushed : (c : goal.In_ok-push-in-Listed) → c.push.new.self.items ≡ added c.in-Listed.list.items c.args.leaf
pushed c =
    let long : c.len.result ≡ length c.in-Listed.list.items = omega arith in
    add-pushed c.in-Listed.list.items c.deref.result.now c.push.new.self.items c.args.leaf c.place_in.result c.len.result c.deref.ensures.value c.place_in.ensures long c.if-place_in-len.false c.in_ok-push-in-Listed.ensures.items

pub returns-then-len-lt-LISTED : goal.returns-then-len-lt-LISTED
returns-then-len-lt-LISTED c =
    let shown : c.in-Listed.list.items ≡ c.args.self.now = ap leaves_found (sym c.in-Listed.is) ∙ c.self.view_is in
    pushed c ∙ ap (λ s. added s c.args.leaf) shown

pub invariant_of-self-then-len-lt-LISTED : goal.invariant_of-self-then-len-lt-LISTED
invariant_of-self-then-len-lt-LISTED c =
    let before : AreDistinct c.in-Listed.list.items = subst AreFoundOnce c.in-Listed.is c.self.invariant in
    subst AreDistinct (sym (pushed c)) (distinct-added c.in-Listed.list.items c.args.leaf before)

pub returns-in_ok-insert-in-Hashed : goal.returns-in_ok-insert-in-Hashed
returns-in_ok-insert-in-Hashed c =
    let shown : c.in-Hashed.set.keys ≡ c.args.self.now = ap leaves_found (sym c.in-Hashed.is) ∙ c.self.view_is in
    c.in_ok-insert-in-Hashed.ensures.keys ∙ insert_key-added c.in-Hashed.set.keys c.args.leaf ∙ ap (λ s. added s c.args.leaf) shown
