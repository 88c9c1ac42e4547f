use Rattle.std.proofs.Common.{refl}
use Rattle.nts_model.specs.declared.labels.Sort.TheVariants.{Region}
use Rattle.nts_text.specs.Binders.{bound_names}
use Rattle.nts_text.proofs.ReadingLemmas.{taken, no_memory, no_region, no_variable, wrong_node}
use Rattle.nts_text.proofs.SpellingLemmas.{KeepsNames-refl, keeps_regions, keeps_variables}
use Rattle.nts_text.proofs.resolver.Reading.region_node.Goals as goal

pub returns-in-Static : goal.returns-in-Static
returns-in-Static c = taken c.args.self.now (bound_names c.args.bounds.now) c.args.node Region _ _ _ _ refl refl tt c.in-Static.is KeepsNames-refl (λ is. refl)

-- a variable
pub returns-in_ok-region_number-in-RegionVariable : goal.returns-in_ok-region_number-in-RegionVariable
returns-in_ok-region_number-in-RegionVariable c =
    taken c.args.self.now (bound_names c.args.bounds.now) c.args.node Region _ _ _ _ refl refl tt (c.in-RegionVariable.is, rw c.text-name.ensures at c.in_ok-region_number-in-RegionVariable.ensures.number)
    (keeps_variables c.args.scope.now c.region_number.new.self (keeps_regions _ _ c.region_number.ensures.kept c.region_number.ensures.others)) (λ is. absurd (c.in_ok-allows_variable-in-RegionVariable.ensures is))

pub returns-in_err-region_number-in-RegionVariable : goal.returns-in_err-region_number-in-RegionVariable
returns-in_err-region_number-in-RegionVariable c =
    no_memory c.args.self.now (bound_names c.args.bounds.now) c.args.node Region _ _ _ c.from_residual-in_err-region_number-in-RegionVariable.result c.from_residual-in_err-region_number-in-RegionVariable.ensures.1
    (keeps_variables c.args.scope.now c.region_number.new.self (keeps_regions _ _ c.region_number.ensures.kept c.region_number.ensures.others))

pub returns-in_err-allows_variable-in-RegionVariable : goal.returns-in_err-allows_variable-in-RegionVariable
returns-in_err-allows_variable-in-RegionVariable c =
    no_variable c.args.self.now (bound_names c.args.bounds.now) c.args.node Region _ _ c.from_residual.result _ c.from_residual.ensures.1 c.in_err-allows_variable-in-RegionVariable.ensures KeepsNames-refl

-- one that is written as a parameter is
pub returns-in-RegionParam : goal.returns-in-RegionParam
returns-in-RegionParam c =
    let e = c.region_name.ensures in
    record {
      sort = e.sort;
      role = e.role;
      declared = e.declared;
      means = e.means;
      kept = e.kept;
      reasons = e.reasons;
      parameter = e.parameter;
      variable = e.variable;
      free = e.free;
      unknown = λ is. absurd (e.unknown is);
      twice = e.twice;
      rigid = λ is. absurd (e.rigid is);
    }

-- a name
pub returns-in-Name : goal.returns-in-Name
returns-in-Name c =
    let e = c.no_region.ensures in
    no_region c.args.self.now (bound_names c.args.bounds.now) c.args.node Region _ _ c.no_region.result e.none e.refused e.unknown KeepsNames-refl

-- nothing that stands for a region
pub returns-in_default : goal.returns-in_default
returns-in_default c = wrong_node c.args.self.now (bound_names c.args.bounds.now) c.args.node Region _ _ c.refused.result c.refused.ensures KeepsNames-refl
