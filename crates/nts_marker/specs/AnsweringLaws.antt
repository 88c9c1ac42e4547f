-- A handler that answers goals of a trait at once, which holds of everything, keeps the laws if the other one does.
use Rattle.std.proofs.Common.{◌≡◌, ◌⊎◌, inl, inr, ℕ, [], true, refl}
use Rattle.nts_model.specs.declared.labels.Variance.{Variance}
use Rattle.std.specs.Prelude.{List}
use Rattle.nts_model.specs.Terms.Trees.{Tree, any_label, is_infer}
use Rattle.nts_model.specs.Terms.Substitutions.{Instance}
use Rattle.nts_model.specs.Derivations.Related.{pair}
use Rattle.nts_model.specs.Derivations.Rules.{Mode, coherence, Application}
use Rattle.nts_model.specs.Derivations.Proofs.{HasProof}
use Rattle.nts_model.specs.Derivations.Handlers.{Handler, Cause, certain, perhaps, meaning, alone, IsAsked, FastAnswersHold, IsLawfulHandler}
use Rattle.nts_model.specs.Refutation.Coherence.{Covers, RulesAreOffered}
use Rattle.nts_theory.proofs.Derivations.FastAnswers.{fact_alone}
use Rattle.nts_delegate.specs.Both.{either, IsLawfulHandler-either, RulesAreOffered-either, MeansSame-either}
use Rattle.nts_delegate.specs.SameHandlers.{MeansSame}
use Rattle.nts_marker.specs.Marking.{marking}
use Rattle.nts_marker.specs.MarkerLaws.{IsLawfulHandler-marking, RulesAreOffered-marking, MeansSame-itself}
use Rattle.nts_marker.specs.Answering.{IsKnownAtOnce, answering}

-- the use of the rule of the trait
abbrev use_for : Tree → Tree → Application
use_for e g = record { environment = e; conclusion = g; values = []; equations = []; goals = []; constraints = []; hidden = [] }

known_proved : (i : ℕ) (h : Handler) (mode : Mode) (v : ℕ → List Variance) (e g : Tree) → IsAsked e g → IsKnownAtOnce i e g certain → HasProof (meaning (answering i h) v) mode (alone e g)
known_proved i h mode v e g asked x =
    fact_alone (answering i h) v mode e g (use_for e g) asked
    (inl (record { sure = refl; conclusion = x.marked; equations = refl; goals = refl; constraints = refl; hidden = refl }))
    (record { environment = refl; conclusion = refl; values = refl; equations = refl; goals = refl; constraints = refl; hidden = refl })

in_doubt : (why : Cause) (b : _) (e g : Tree) → (perhaps why b ≡ certain) ⊎ (any_label is_infer (pair e g) ≡ true) → any_label is_infer (pair e g) ≡ true
in_doubt why b e g (inl x) = absurd (let clash : ⊥ = cc x in clash)
in_doubt why b e g (inr x) = x

fast : (i : ℕ) (h : Handler) → FastAnswersHold (answering i h)
fast i h =
    record {
      proved = λ mode v e g asked x. known_proved i h mode v e g asked x;
      doubted = λ e g why b asked x. in_doubt why b e g x.sure;
    }

pub IsLawfulHandler-answering : (i : ℕ) (h : Handler) → IsLawfulHandler h → IsLawfulHandler (answering i h)
IsLawfulHandler-answering i h law =
    let p = IsLawfulHandler-either (marking i certain) h (IsLawfulHandler-marking i certain) law in
    record {
      commute = (let x = p.commute in record { renaming = x.renaming });
      rules = (let x = p.rules in record { instances = x.instances; closed = x.closed });
      sources = (let x = p.sources in record { each = x.each });
      keep = (let x = p.keep in record { each = x.each });
      judges = (let x = p.judges in record { allows = x.allows; evaluates = x.evaluates; well_formed = x.well_formed; goals = x.goals });
      at_once = fast i h;
    }

covered : (i : ℕ) (h : Handler) (e g : Tree) (ι : Instance) (a : Application) → Covers (either (marking i certain) h) coherence e g ι a → Covers (answering i h) coherence e g ι a
covered i h e g ι a c =
    record {
      candidate = c.candidate;
      offered = c.offered;
      chosen = c.chosen;
      values = c.values;
      of_rule = c.of_rule;
      equations = c.equations;
      constraints = c.constraints;
      goals = c.goals;
    }

pub RulesAreOffered-answering : (i : ℕ) (h : Handler) → RulesAreOffered h → RulesAreOffered (answering i h)
RulesAreOffered-answering i h law =
    let p = RulesAreOffered-either (marking i certain) h (RulesAreOffered-marking i certain) law in
    record { covered = λ e g ι a asked r env con. covered i h e g ι a (p.covered e g ι a asked r env con) }

pub MeansSame-answering : {h k : Handler} (i : ℕ) → MeansSame h k → MeansSame (answering i h) (answering i k)
MeansSame-answering {h} {k} i same =
    let p = MeansSame-either (MeansSame-itself (marking i certain)) same in
    record { applies = p.applies; offers = p.offers; is_coinductive = p.is_coinductive; judges = p.judges; leaks = p.leaks; at_once = λ e g c x. x }
