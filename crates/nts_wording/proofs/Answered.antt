-- The text of an answer, where its lines were written one after the other.
use Rattle.std.proofs.Common.{◌≡◌, ℕ, List, ◌++◌, Option, refl, sym, ap, subst, ◌∙◌, append_assoc}
use Rattle.std.specs.Prelude.{codes}
use Rattle.std.specs.Io.KnownBytes.{Appends}
use Rattle.nts_wording.specs.declared.answer.Found.{Found}
use Rattle.nts_wording.specs.declared.answer.Answer.TheVariants as answers
use Rattle.nts_wording.specs.declared.printer.Printer.{Printer}
use Rattle.nts_wording.specs.Answers.{AreNames, bound_types, bound_regions, IsValueLine, IsFactLine, AreLines, nothing_seen, lexicon_with, IsAnswerPut}
use Rattle.nts_wording.specs.Pieces.{lexicon_of, names_in, seen_by, PutsText}
use Rattle.nts_wording.specs.Printing.{Seen}
use Rattle.nts_wording.proofs.Writing.{Puts-trans, all_out}

pub found_written : {o u v : Option (List ℕ)} (z : Option (List ℕ)) (p q r s : Printer) (found : Found) → q ≡ record p { known = q.known } → p.text.items ≡ codes "yes\n" → seen_by p ≡ nothing_seen
    → AreNames p.nodes.now (names_in q.known.entries) (bound_types p.scope.now found ++ bound_regions p.scope.now found)
    → PutsText o u q r (λ old text new. AreLines (IsValueLine (lexicon_of q)) old (bound_types q.scope.now found) text new)
    → PutsText u v r s (λ old text new. AreLines (IsFactLine (lexicon_of r)) old found.facts.items text new)
    → Appends v z s.text.items → IsAnswerPut p.nodes.now p.names.now p.scope.now (answers.Yes found) o z
found_written {o} {u} {v} z p q r s found learnt first_text seen names values facts out =
    let x = values.0 in
    let y = facts.0 in
    let lexicon : lexicon_of q ≡ lexicon_with p.nodes.now p.names.now p.scope.now (names_in q.known.entries) = ap (λ (k : Printer). lexicon_with k.nodes.now k.names.now k.scope.now (names_in q.known.entries)) learnt in
    let first : seen_by q ≡ nothing_seen = ap seen_by learnt ∙ seen in
    let scope : q.scope.now ≡ p.scope.now = ap (λ (k : Printer). k.scope.now) learnt in
    let held : q.text.items ≡ codes "yes\n" = ap (λ (k : Printer). k.text.items) learnt ∙ first_text in
    let both = Puts-trans q r s x y values.1 facts.1 in
    let all = all_out o v z q s (x ++ y) both.grows out in
    let lines : AreLines (IsValueLine (lexicon_of q)) (seen_by q) (bound_types q.scope.now found) x (seen_by r) = values.2 in
    let told : AreLines (IsFactLine (lexicon_of r)) (seen_by r) found.facts.items y (seen_by s) = facts.2 in (
      codes "yes\n" ++ x ++ y,
      (
        names_in q.known.entries,
        record {
          names = names;
          values_text = x;
          facts_text = y;
          between = seen_by r;
          last = seen_by s;
          values = subst (λ k. AreLines (IsValueLine k) nothing_seen (bound_types p.scope.now found) x (seen_by r)) lexicon (subst (λ k. AreLines (IsValueLine (lexicon_of q)) nothing_seen (bound_types k found) x (seen_by r)) scope (subst (λ (k : Seen). AreLines (IsValueLine (lexicon_of q)) k (bound_types q.scope.now found) x (seen_by r)) first lines));
          facts = subst (λ k. AreLines (IsFactLine k) (seen_by r) found.facts.items y (seen_by s)) (values.1.same ∙ lexicon) told;
          is = refl;
        },
      ),
      subst (Appends o z) (ap (λ w. w ++ (x ++ y)) held ∙ sym (append_assoc (codes "yes\n") x y)) all,
    )
