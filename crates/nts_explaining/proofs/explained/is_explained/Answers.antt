use Rattle.std.proofs.Common.{◌≡◌, true, false, refl, sym}
use Rattle.nts_explaining.proofs.ToldGoals.{asked_explained, alias_explained, outlives_unexplained, own_unexplained, subtype_unexplained, equated_unexplained, unanswered_unexplained}
use Rattle.nts_explaining.proofs.explained.is_explained.Goals as goal

pub returns-in-Candidates : goal.returns-in-Candidates
returns-in-Candidates c = (λ yes. asked_explained c.args.cx.now.nodes c.args.goal _ c.in-Candidates.ensures.0 c.in-Candidates.ensures.1, λ h. refl)

pub returns-in-Alias : goal.returns-in-Alias
returns-in-Alias c = (
  λ yes. alias_explained c.args.cx.now.nodes c.args.table.now c.args.goal _ c.terms_are_formed.ensures c.requires c.in-Alias.ensures.0 c.in-Alias.ensures.1 (c.says_of_trait.ensures.0 yes),
  λ h. c.says_of_trait.ensures.1 h.statement,
)

pub returns-in-Outlives : goal.returns-in-Outlives
returns-in-Outlives c = (λ e. absurd (let z : true ≡ false = sym e in cc), λ h. absurd (outlives_unexplained c.args.cx.now.nodes c.args.goal _ _ c.in-Outlives.ensures.0 c.in-Outlives.ensures.1 h))

pub returns-in-Own : goal.returns-in-Own
returns-in-Own c = (λ e. absurd (let z : true ≡ false = sym e in cc), λ h. absurd (own_unexplained c.args.cx.now.nodes c.args.goal _ _ c.in-Own.ensures.0 c.in-Own.ensures.1 h))

pub returns-in-Subtype : goal.returns-in-Subtype
returns-in-Subtype c = (λ e. absurd (let z : true ≡ false = sym e in cc), λ h. absurd (subtype_unexplained c.args.cx.now.nodes c.args.goal _ _ c.in-Subtype.ensures.0 c.in-Subtype.ensures.1 h))

pub returns-in-Equated : goal.returns-in-Equated
returns-in-Equated c = (λ e. absurd (let z : true ≡ false = sym e in cc), λ h. absurd (equated_unexplained c.args.cx.now.nodes c.args.goal _ _ c.in-Equated.ensures.0 c.in-Equated.ensures.1 h))

pub returns-in-Unanswered : goal.returns-in-Unanswered
returns-in-Unanswered c = (
  λ e. absurd (let z : true ≡ false = sym e in cc),
  λ h. absurd (let none = c.in-Unanswered.ensures.1 in unanswered_unexplained c.args.cx.now.nodes c.args.goal _ c.in-Unanswered.ensures.0 none.not_asked c.in-Unanswered.ensures.3 h),
)
