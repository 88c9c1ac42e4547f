-- A goal that an alias is equal to a term, or that the one is a subtype of the other, is none of the handler's.
use Rattle.std.proofs.Common.{◌≡◌, List, inl, inr, ⊎_elim, subst}
use Rattle.nts_model.specs.declared.labels.AliasRelationDirection.{AliasRelationDirection}
use Rattle.nts_model.specs.declared.labels.AliasRelationDirection.TheVariants as direction
use Rattle.nts_model.specs.Terms.Trees.{Tree}
use Rattle.nts_model.specs.Tables.Contents.{Content}
use Rattle.nts_model.specs.Derivations.Sequents.{Premise}
use Rattle.nts_model.specs.Derivations.Rules.{Mode, statement_of, IsHandlers}
use Rattle.nts_model.specs.Derivations.Handlers.{Handler}
use Rattle.nts_theory.specs.Aliasing.{alias_relation, EquatesAlias, NormalizesSides, NormalizesLesser}
use Rattle.nts_theory.specs.Telling.{Queries, IsWay, by_lesser, by_one}

says_no_handlers : (d : AliasRelationDirection) (g a b : Tree) → g ≡ alias_relation d a b → IsHandlers (statement_of g) → ⊥
says_no_handlers d g a b e h = subst (λ z. IsHandlers (statement_of z)) e h

pub equated_no_handlers : (g a t : Tree) → EquatesAlias g a t → IsHandlers (statement_of g) → ⊥
equated_no_handlers g a t x h = ⊎_elim (λ e. says_no_handlers x.by g a t e h) (λ e. says_no_handlers x.by g t a e h) x.says

pub sides_no_handlers : (c d : Content) (e g : Tree) (ps : List Premise) → NormalizesSides c d e g ps → IsHandlers (statement_of g) → ⊥
sides_no_handlers c d e g ps (inl (p, x, same, are)) h = equated_no_handlers g x.left x.right x.is h
sides_no_handlers c d e g ps (inr x) h = (let is = x.is in says_no_handlers is.by g x.left x.right is.says h)

pub lesser_no_handlers : (c d : Content) (e g : Tree) (ps : List Premise) → NormalizesLesser c d e g ps → IsHandlers (statement_of g) → ⊥
lesser_no_handlers c d e g ps x h = (let is = x.is in says_no_handlers direction.Subtype g x.left x.right is.says h)

pub way_no_handlers : {Q : Queries} {h : Handler} {mode : Mode} (c d : Content) (e g : Tree) (ps : List Premise) → IsWay Q h mode c d e g ps → IsHandlers (statement_of g) → ⊥
way_no_handlers c d e g ps (by_lesser x) h = lesser_no_handlers c d e g ps x h
way_no_handlers c d e g ps (by_one x refused) h = sides_no_handlers c d e g ps x h
