use Rattle.std.proofs.Common.{rules, ◌≡◌, ◌∙◌, true, false, is_some, sym, ap}
use Rattle.nts_model.specs.Terms.Trees.{children, row_length}
use Rattle.nts_store.specs.Growth.{tree_at}
use Rattle.nts_store.proofs.Escaping.{closed_by_facts}
use Rattle.nts_trying.proofs.Unasked.{closed_none}
use Rattle.nts_trying.proofs.Outliving.{closed_here, outlives_here}
use Rattle.nts_trying.proofs.outlives.outlives_in.Goals as goal

pub flags-requires : goal.flags-requires
flags-requires c = (let s = c.in_ok-outlives.ensures.sides c.args.cx.now.nodes c.kind-predicate.ensures.fits.1 in s.left)

pub flags-requires-2 : goal.flags-requires-2
flags-requires-2 c = (let s = c.in_ok-outlives.ensures.sides c.args.cx.now.nodes c.kind-predicate.ensures.fits.1 in s.right)

pub returns-then-is_some : goal.returns-then-is_some
returns-then-is_some c = λ x h.
    let z = closed_here c.args.cx.now.nodes c.args.goal c.kind-predicate.result c.kind-predicate.ensures.tree c.in_ok-outlives.outlives x (c.in_ok-outlives.ensures.found c.args.cx.now.nodes) h in
    let escapes : is_some c.flags.result.escaping ≡ true = first_of (cc, search rules) in
    absurd (let e : true ≡ false = sym escapes ∙ closed_none _ c.flags.result c.flags.ensures z.left in cc e)

pub returns-then-is_some-2 : goal.returns-then-is_some-2
returns-then-is_some-2 c = λ x h.
    let z = closed_here c.args.cx.now.nodes c.args.goal c.kind-predicate.result c.kind-predicate.ensures.tree c.in_ok-outlives.outlives x (c.in_ok-outlives.ensures.found c.args.cx.now.nodes) h in
    let escapes : is_some c.flags-2.result.escaping ≡ true = first_of (cc, search rules) in
    absurd (let e : true ≡ false = sym escapes ∙ closed_none _ c.flags-2.result c.flags-2.ensures z.right in cc e)

pub returns : goal.returns
returns c =
    let ts = c.args.cx.now.nodes in
    let says = c.in_ok-outlives.ensures.found ts in
    let sides = c.in_ok-outlives.ensures.sides ts c.kind-predicate.ensures.fits.1 in
    let left_free : is_some c.flags.result.escaping ≡ false = first_of (cc, search rules) in
    let right_free : is_some c.flags-2.result.escaping ≡ false = first_of (cc, search rules) in
    let goal_plain : c.flags-says.result.has_alias ≡ false = first_of (cc, search rules) in
    let none : row_length (children (tree_at ts c.kind-predicate.result.vars.node)) ≡ 0 = first_of (cc, search rules) in
    record {
      left = sides.left;
      right = sides.right;
      is = record {
        says = outlives_here ts c.args.goal c.kind-predicate.result c.kind-predicate.ensures.tree c.terms_are_formed.ensures c.requires c.kind-predicate.ensures.fits c.len.ensures.row none _ says (closed_by_facts _ c.flags.result c.flags.ensures left_free) (closed_by_facts _ c.flags-2.result c.flags-2.ensures right_free);
        environment = c.is_closed_env.ensures.0 (first_of (cc, search rules));
        no_alias = sym (ap (λ f. f.has_alias) c.flags-says.ensures) ∙ goal_plain;
      };
    }
