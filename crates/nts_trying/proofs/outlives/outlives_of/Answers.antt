use Rattle.std.proofs.Common.{◌∙◌, sym, ap, subst}
use Rattle.nts_model.specs.declared.labels.Relation.TheVariants as relation
use Rattle.nts_store.specs.Growth.{tree_at}
use Rattle.nts_terms.specs.Kinds.{tree_of_statement, StatementFits}
use Rattle.nts_terms.specs.declared.kinds.PredicateKind.TheVariants as predicate
use Rattle.nts_theory.specs.Outliving.{SaysOutlives, region_outlives, type_outlives}
use Rattle.nts_trying.proofs.outlives.outlives_of.Goals as goal

pub returns-in-TypeOutlives-clause-found : goal.returns-in-TypeOutlives-clause-found
returns-in-TypeOutlives-clause-found c = λ ts. subst (λ z. SaysOutlives (record { relation = relation.TypeOutlives; left = tree_at ts c.in-TypeOutlives.left.node; right = tree_at ts c.in-TypeOutlives.right.node }) (tree_of_statement ts z)) (sym (c.in-Clause.is ∙ ap predicate.Clause c.in-TypeOutlives.is)) type_outlives

pub returns-in-RegionOutlives-clause-found : goal.returns-in-RegionOutlives-clause-found
returns-in-RegionOutlives-clause-found c = λ ts. subst (λ z. SaysOutlives (record { relation = relation.RegionOutlives; left = tree_at ts c.in-RegionOutlives.left.node; right = tree_at ts c.in-RegionOutlives.right.node }) (tree_of_statement ts z)) (sym (c.in-Clause.is ∙ ap predicate.Clause c.in-RegionOutlives.is)) region_outlives

pub returns-in-TypeOutlives-clause-sides : goal.returns-in-TypeOutlives-clause-sides
returns-in-TypeOutlives-clause-sides c = λ ts fits.
    let f = subst (StatementFits ts) (c.in-Clause.is ∙ ap predicate.Clause c.in-TypeOutlives.is) fits in
    record { left = f.0.within; right = f.1.within }

pub returns-in-RegionOutlives-clause-sides : goal.returns-in-RegionOutlives-clause-sides
returns-in-RegionOutlives-clause-sides c = λ ts fits.
    let f = subst (StatementFits ts) (c.in-Clause.is ∙ ap predicate.Clause c.in-RegionOutlives.is) fits in
    record { left = f.0.within; right = f.1.within }
