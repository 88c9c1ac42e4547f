use Rattle.std.proofs.Common.{◌≡◌, [], ◌∷◌, reverse, sym, ap, subst, ◌∙◌, arith}
use Rattle.std.proofs.lemmas.Grind.{common_steps}
use Rattle.nts_wording.specs.declared.printer.Piece.TheVariants as pieces
use Rattle.nts_wording.specs.Pieces.{lexicon_of, seen_by, Completes}
use Rattle.nts_wording.proofs.Printed.{Completes-refl, finished, reverse_pushed}
use Rattle.nts_wording.proofs.Growths.{Begins-refl, Begins-trans}
use Rattle.nts_wording.proofs.Writing.{Writes-refl, held, went_out, turn}
use Rattle.nts_wording.proofs.printer.Printer.term.Goals as goal

pub turns-init : goal.turns-init
turns-init g c =
    let n = lexicon_of c.args.self.now in
    let s = seen_by c.args.self.now in
    let term = pieces.Term c.args.term in
    let one = reverse_pushed _ _ _ c.in_ok-push.ensures.items ∙ ap (λ qs. term ∷ reverse qs) c.new-pieces.ensures.items in
    let written = held (g.W.Write.contents c.args.output.now) (Writes-refl c.args.self.now) in
    record {
      printed = ([], written, subst (λ qs. Completes n s (term ∷ []) [] s qs) (sym one) (Completes-refl n s (term ∷ [])));
      begins = Begins-refl;
    }

pub turns-preserved : goal.turns-preserved
turns-preserved g c =
    let i = c.turns.invariant in
    let before = i.printed in
    let out = c.put_out.ensures in
    record {
      printed = turn c.args.self.now c.turns.self c.piece.new.self c.put_out.new.self c.args.term c.in-Some.piece (reverse c.turns.pieces.items) (reverse c.pop.new.self.items) (reverse c.piece.new.pieces.items)
          before.0 before.1 before.2 (reverse_pushed _ _ _ c.in-Some.ensures.items) c.in_ok-piece-in-Some.ensures
          (went_out c.in_ok-put_out.ensures.put c.in_ok-put_out.ensures.text out.rest) (ap seen_by out.rest);
      begins = Begins-trans i.begins out.begins;
    }

pub returns-in-None-clause-told : goal.returns-in-None-clause-told
returns-in-None-clause-told g c =
    let n = lexicon_of c.args.self.now in
    let s = seen_by c.args.self.now in
    let i = c.turns.invariant in
    let all = i.printed in
    let none : c.turns.pieces.items ≡ [] = grind (arith, common_steps, c.in-None.ensures.cases) in (
      all.0,
      all.1,
      finished n s (seen_by c.turns.self) c.args.term all.0
          (subst (λ qs. Completes n s (pieces.Term c.args.term ∷ []) all.0 (seen_by c.turns.self) qs) (ap reverse none) all.2),
    )

pub returns-in_err-put_out-clause-begins : goal.returns-in_err-put_out-clause-begins
returns-in_err-put_out-clause-begins g c = (let i = c.turns.invariant in Begins-trans i.begins c.put_out.ensures.begins)
