use Rattle.std.proofs.Common.{◌≡◌, ◌-◌, ◌∷◌, suc, drop, get_or, refl, sym, ap, subst, ◌∙◌, arith}
use Rattle.std.proofs.Math.Seq.{drop-cons}
use Rattle.nts_store.proofs.Growing.{Extends-trans}
use Rattle.nts_terms.proofs.Moved.{KeepsRest-trans}
use Rattle.nts_model.specs.declared.labels.Sort.TheVariants as sort
use Rattle.nts_text.specs.declared.resolver.Resolved.TheVariants as resolved
use Rattle.nts_wording.proofs.Meant.{IsMade, made_argument, made_statement}
use Rattle.nts_wording.proofs.build.bound_clauses.Goals as goal

pub loop-at-preserved-in-Continue-branch-3 : goal.loop-at-preserved-in-Continue-branch-3
loop-at-preserved-in-Continue-branch-3 c =
    let nodes = c.args.nodes.now in
    let e = c.in_ok-clause-in-Trait.ensures in
    let n = get_or nodes (c.loop-at.at - 1) (resolved.Binds sort.Ty) in
    let next : suc (c.loop-at.at - 1) ≡ c.loop-at.at = omega (arith, c.loop-at-test.true) in
    let split = drop-cons nodes (c.loop-at.at - 1) (resolved.Binds sort.Ty) (omega (arith, c.loop-at-test.true, c.loop-at.invariant.placed)) in
    record {
      extends = Extends-trans c.loop-at.invariant.extends e.grows.extends;
      rest = KeepsRest-trans c.loop-at.invariant.rest e.grows.rest;
      placed = omega (arith, c.loop-at.invariant.placed);
      made = subst (λ rs. IsMade c.statement.new.cx.nodes c.args.terms.variables.now c.args.terms.values.now rs c.statement.new.made c.push.new.self.items)
          (sym (split ∙ ap (λ k. n ∷ drop k nodes) next))
          (made_statement c.loop-at.cx.nodes c.statement.new.cx.nodes c.args.terms.variables.now c.args.terms.values.now (drop c.loop-at.at nodes) c.loop-at.made c.statement.new.made c.loop-at.found.items
          n c.in_ok-clause-in-Trait.clause _ c.push.new.self.items c.loop-at.invariant.made e.grows.extends e.makes c.new.ensures.items refl c.in_ok-push-in-Trait.ensures.items);
    }

pub loop-at-preserved : goal.loop-at-preserved
loop-at-preserved c =
    let nodes = c.args.nodes.now in
    let e = c.in_ok-argument-in_default.ensures in
    let n = get_or nodes (c.loop-at.at - 1) (resolved.Binds sort.Ty) in
    let next : suc (c.loop-at.at - 1) ≡ c.loop-at.at = omega (arith, c.loop-at-test.true) in
    let split = drop-cons nodes (c.loop-at.at - 1) (resolved.Binds sort.Ty) (omega (arith, c.loop-at-test.true, c.loop-at.invariant.placed)) in
    record {
      extends = Extends-trans c.loop-at.invariant.extends e.grows.extends;
      rest = KeepsRest-trans c.loop-at.invariant.rest e.grows.rest;
      placed = omega (arith, c.loop-at.invariant.placed);
      made = subst (λ rs. IsMade c.argument.new.cx.nodes c.args.terms.variables.now c.args.terms.values.now rs c.push-in_default.new.self c.loop-at.found.items)
          (sym (split ∙ ap (λ k. n ∷ drop k nodes) next))
          (made_argument c.loop-at.cx.nodes c.argument.new.cx.nodes c.args.terms.variables.now c.args.terms.values.now (drop c.loop-at.at nodes) c.loop-at.made c.argument.new.made c.loop-at.found.items
          n c.push-in_default.new.self c.in_ok-argument-in_default.argument c.loop-at.invariant.made e.grows.extends e.makes c.in_ok-push-in_default.ensures.items);
    }
