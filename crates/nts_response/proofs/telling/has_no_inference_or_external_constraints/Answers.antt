use Rattle.std.proofs.Common.{sym, subst}
use Rattle.nts_canonical.specs.Forms.{trees_of}
use Rattle.nts_response.specs.Forms.{ArePositions}
use Rattle.nts_response.proofs.telling.has_no_inference_or_external_constraints.Goals as goal

pub returns-then-is_identity : goal.returns-then-is_identity
returns-then-is_identity c = (
  (λ h. (subst (λ vs. ArePositions (trees_of c.args.cx.now.nodes vs)) c.deref.ensures.value (c.is_identity.ensures.0 c.if-is_identity.true), c.is_empty.ensures.0 h)),
  λ p. c.is_empty.ensures.1 p.1,
)

pub returns-else-is_identity : goal.returns-else-is_identity
returns-else-is_identity c = (
  (λ h. cc (h, c.if-is_identity.false)),
  λ p. c.is_identity.ensures.1 (subst (λ vs. ArePositions (trees_of c.args.cx.now.nodes vs)) (sym c.deref.ensures.value) p.0),
)
