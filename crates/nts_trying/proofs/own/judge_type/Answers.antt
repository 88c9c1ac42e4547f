use Rattle.nts_model.specs.Terms.Trees.{any_label, is_alias}
use Rattle.std.proofs.Common.{rules, ◌≡◌, true, false, [], ◌∷◌, sym, ◌∙◌, subst}
use Rattle.nts_store.specs.Growth.{tree_at}
use Rattle.nts_store.proofs.Growing.{Extends-refl}
use Rattle.nts_model.specs.Derivations.Related.{value}
use Rattle.nts_theory.specs.Affirming.{has_type, error_type, by_type}
use Rattle.nts_trying.specs.Owning.{IsPlainWay}
use Rattle.nts_trying.proofs.Owning.{States, states_in, affirmed_later, way_of, type_equation, type_candidate, type_plain}
use Rattle.nts_trying.proofs.Judging.{affirms, denies, one_statement, unbound_some, way_aliased}
use Rattle.nts_model.specs.Derivations.Rules.{const_error}
use Rattle.nts_trying.proofs.own.judge_type.Goals as goal

pub returns-in_ok-way-in-Value-clause-judged : goal.returns-in_ok-way-in-Value-clause-judged
returns-in_ok-way-in-Value-clause-judged c = λ j.
    let ts = c.args.cx.now.nodes in
    let none : any_label is_alias (tree_at ts c.args.goal.predicate.node) ≡ false = first_of (cc, search rules) in
    let of = c.in-Value.of in
    let ty = c.args.ty in
    let found = c.in_ok-way-in-Value.way.value in
    let qs : c.push.new.self.items ≡ type_equation of ty ∷ [] = first_of (cc, search rules) in
    let gs : c.new.result.items ≡ [] = first_of (cc, search rules) in
    let way : IsPlainWay found (type_equation of ty ∷ []) [] = subst (λ z. IsPlainWay found z []) qs (subst (λ z. IsPlainWay found c.push.new.self.items z) gs c.in_ok-way-in-Value.ensures.plain) in
    let states : States ts c.args.goal (has_type (value c.in-Value.bits (tree_at ts of.node)) (tree_at ts ty.node)) = subst (λ z. States ts c.args.goal (has_type z (tree_at ts ty.node))) c.in-Value.ensures.tree (states_in (Extends-refl ts) c.requires.holds c.requires.own) in (
      way_of j ts c.args.goal _ found (type_equation of ty ∷ []) [] c.terms_are_formed.ensures c.requires.holds.predicate.within states way by_type,
      type_candidate ts c.args.goal c.in-Value.bits of ty found c.in-Value.ensures.fits c.requires.own.fits.1 c.requires.plain states way,
      type_plain ts c.args.goal c.in-Value.bits of ty found none states way,
    )

pub returns-in-Error-clause-judged : goal.returns-in-Error-clause-judged
returns-in-Error-clause-judged c = λ j. affirmed_later j (Extends-refl c.args.cx.now.nodes) c.terms_are_formed.ensures c.requires.holds c.requires.own (rw c.in-Error.ensures.tree error_type)

pub returns-then-flags-clause-exact : goal.returns-then-flags-clause-exact
returns-then-flags-clause-exact c = λ j.
    let ts = c.args.cx.now.nodes in
    let of = c.in-Value.of in
    let ty = c.args.ty in
    let up = Extends-refl ts in
    let states : States ts c.args.goal (has_type (value c.in-Value.bits (tree_at ts of.node)) (tree_at ts ty.node)) = subst (λ z. States ts c.args.goal (has_type z (tree_at ts ty.node))) c.in-Value.ensures.tree (states_in up c.requires.holds c.requires.own) in
    let some : any_label is_alias (tree_at ts c.args.goal.predicate.node) ≡ true = first_of (cc, search rules) in
    record {
      affirmed = λ x. absurd (let e = affirms j up c.requires.holds c.requires.own x in let v : value c.in-Value.bits (tree_at ts of.node) ≡ const_error = sym c.in-Value.ensures.tree ∙ e in cc v);
      denied = λ x. absurd (denies j up c.requires.holds c.requires.own x);
      way = λ y w plain. absurd (way_aliased j (tree_at ts c.args.goal.param_env.node) w.statement y w.way c.in-Value.bits (tree_at ts of.node) (tree_at ts ty.node)
          (one_statement w.statement (has_type (value c.in-Value.bits (tree_at ts of.node)) (tree_at ts ty.node)) (sym w.binds_nothing ∙ states.binds_nothing)) c.requires.own.fits.1.fits
          (unbound_some w.statement (subst (λ z. any_label is_alias z ≡ true) w.binds_nothing some)) plain);
    }
