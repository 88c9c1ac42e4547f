-- Terms in which nothing hides.
use Rattle.std.proofs.Common.{List, ◌≡◌, ℕ, Bool, true, false, Option, Some, None, refl, ap, ◌∙◌}
use Rattle.std.specs.Prelude.{slice_get, IsTrue, ◌↔◌, Result, Ok, Err, IfOk}
use Rattle.nts_model.specs.Terms.Trees.{Tree, empty, more, node, any_label, is_alias, infer_of}
use Rattle.nts_model.specs.Tables.Contents.{unset, state_of}
use Rattle.nts_model.specs.Tables.Resolving.{resolved, IsSound}
use Rattle.nts_model.proofs.Tables.Resolved.{resolved-empty, resolved-more, resolved-node, resolved-variable_unset}
use Rattle.nts_model.specs.Tables.Passing.{AllLabels}
use Rattle.nts_relating.proofs.Plain.{neither}
use Rattle.nts_unify.specs.declared.contents.State.{State}
use Rattle.nts_unify.specs.declared.contents.State.TheVariants as state
use Rattle.nts_unify.specs.declared.contents.Variable.{Variable}
use Rattle.nts_unify.specs.Entries.{Entries}
use Rattle.nts_unify.specs.Reading.{content_of, state_with}
use Rattle.nts_unify.proofs.Leading.{state_of-entry}
use Rattle.nts_variance.specs.Bare.{is_unset, has_no_value, is_bare}

is_open : (s : State) → is_unset s ≡ true → s ≡ state.Unset
is_open state.Unset h = refl
is_open (state.Link n) h = cc
is_open (state.Known t) h = cc

bare_unset : (ts : List Tree) (e : Entries) (n : ℕ) → has_no_value (slice_get e.variables n) ≡ true → state_of (content_of ts e) n ≡ Some unset
bare_unset ts e n h = by_entry (slice_get e.variables n) refl h
  where
    by_entry : (o : Option Variable) → slice_get e.variables n ≡ o → has_no_value o ≡ true → state_of (content_of ts e) n ≡ Some unset
    by_entry None q k = cc
    by_entry (Some v) q k = state_of-entry ts e n v q ∙ ap (λ s. Some (state_with ts s)) (is_open v.state k)

pub bare_plain : (ts : List Tree) (e : Entries) (t : Tree) → IsSound (content_of ts e) → AllLabels (λ l. is_bare e (infer_of l) ≡ true) t → any_label is_alias t ≡ false → any_label is_alias (resolved (content_of ts e) t) ≡ false
bare_plain ts e empty s h plain = ap (any_label is_alias) (resolved-empty (content_of ts e)) ∙ plain
bare_plain ts e (more a b) s h plain =
    let p = neither (any_label is_alias a) (any_label is_alias b) plain in
    ap (any_label is_alias) (resolved-more (content_of ts e) a b) ∙ rw (bare_plain ts e a s h.0 p.0, bare_plain ts e b s h.1 p.1) refl
bare_plain ts e (node l x) s h plain = by_number (infer_of l) refl h.0 (λ p. bare_plain ts e x s h.1 p)
  where
    by_number : (o : Option ℕ) → infer_of l ≡ o → is_bare e o ≡ true → (any_label is_alias x ≡ false → any_label is_alias (resolved (content_of ts e) x) ≡ false) → any_label is_alias (resolved (content_of ts e) (node l x)) ≡ false
    by_number None q k below =
        let p = neither (is_alias l) (any_label is_alias x) plain in
        ap (any_label is_alias) (resolved-node (content_of ts e) l x q) ∙ rw (p.0, below p.1) refl
    by_number (Some n) q k below = ap (any_label is_alias) (resolved-variable_unset (content_of ts e) l x n s q (bare_unset ts e n k)) ∙ plain

pub told : {E : Type 0} (r : Result Bool E) (P Q : Type 0) → IfOk r (λ b. IsTrue b ↔ P) → (P → Q) → IfOk r (λ b. b ≡ true → Q)
told (Ok b) P Q h f = λ q. f (h.0 q)
told (Err e) P Q h f = tt
