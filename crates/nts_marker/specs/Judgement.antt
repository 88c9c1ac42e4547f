-- What a handler means that offers no rules, and judges.
use Rattle.std.specs.Prelude.{ℕ, ◌==◌, Bool, false, [], ◌∷◌, Some, None, if◌then◌else◌}
use Rattle.nts_model.specs.declared.labels.TyHead.TheVariants as ty
use Rattle.nts_model.specs.declared.labels.ConstHead.TheVariants as konst
use Rattle.nts_model.specs.declared.labels.ClauseHead.TheVariants as clause
use Rattle.nts_model.specs.declared.labels.Label.TheVariants as label
use Rattle.nts_model.specs.Terms.Trees.{Tree, empty, node}
use Rattle.nts_model.specs.Derivations.Related.{unbound}
use Rattle.nts_model.specs.Derivations.Rules.{const_error}
use Rattle.nts_model.specs.Derivations.Handlers.{Handler, Judgements, never_leaks, never_at_once}

-- whether a term is the const, and whether it is a type of the constructor
abbrev pub is_constant : ℕ → Tree → Bool
is_constant i (node (label.Const (konst.Unevaluated j)) ts) = j == i
is_constant i t = false

abbrev pub is_constructor : ℕ → Tree → Bool
is_constructor i (node (label.Ty (ty.Ctor j)) ts) = j == i
is_constructor i t = false

-- that a feature is allowed
abbrev pub allowed : ℕ → Tree
allowed f = unbound (node (label.Clause (clause.UnstableFeature f)) empty)

abbrev pub judgement : (objects feature constant formed needs : ℕ) → Judgements
judgement objects feature constant formed needs =
    record {
      is_dyn_compatible = λ i. i == objects;
      allows = λ e f. f == feature;
      evaluates = λ e c. if is_constant constant c then Some const_error else None;
      well_formed = λ e t. if is_constructor formed t then Some (allowed needs ∷ []) else None;
    }

abbrev pub judging : (objects feature constant formed needs : ℕ) → Handler
judging objects feature constant formed needs =
    record {
      applies = λ mode a. ⊥;
      offers = λ mode e g. [];
      is_coinductive = λ j. false;
      leaks = never_leaks;
      judges = judgement objects feature constant formed needs;
      at_once = never_at_once;
    }
