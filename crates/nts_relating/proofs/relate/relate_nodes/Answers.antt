use Rattle.std.proofs.Common.{◌≡◌, ◌++◌, ◌∷◌, [], ap, ◌∙◌}
use Rattle.nts_unify.proofs.SavedLemmas.{after_attempt}
use Rattle.nts_unify.specs.Lawful.{IsLawful-extended, content_of-extended}
use Rattle.nts_unify.specs.Reading.{content_of, IsLawful}
use Rattle.nts_unify.specs.Changing.{IsLater}
use Rattle.nts_unify.proofs.Keeping.{IsLater-refl}
use Rattle.nts_relating.proofs.PairLemmas.{if_related, if_brings, if_plain, if_ties}
use Rattle.nts_relating.proofs.relate.relate_nodes.Goals as goal

pub returns-clause-lawful : goal.returns-clause-lawful
returns-clause-lawful c =
    let run = c.run_all-related.ensures in
    let end = c.commit_if_ok.ensures in
    after_attempt c.args.table.now c.run_all-related.new.table c.commit_if_ok.new.self (IsLawful c.run_all-related.new.nodes) c.run_all-related.result (run.changes.saved ∙ c.in_ok-snapshot.ensures.saved) (rw end.same at end.ok) (rw end.same at end.err) run.lawful (IsLawful-extended run.extends c.requires.lawful)

pub returns-clause-later : goal.returns-clause-later
returns-clause-later c =
    let run = c.run_all-related.ensures in
    let end = c.commit_if_ok.ensures in
    let start = c.args.table.now.entries in
    let none : IsLater (content_of c.args.nodes.now start) (content_of c.run_all-related.new.nodes start) = rw (content_of-extended run.extends c.requires.lawful) (IsLater-refl (content_of c.args.nodes.now start)) in
    after_attempt c.args.table.now c.run_all-related.new.table c.commit_if_ok.new.self (λ e. IsLater (content_of c.args.nodes.now start) (content_of c.run_all-related.new.nodes e)) c.run_all-related.result (run.changes.saved ∙ c.in_ok-snapshot.ensures.saved) (rw end.same at end.ok) (rw end.same at end.err) (rw c.in_ok-snapshot.ensures.entries at run.later) none

pub returns-clause-related : goal.returns-clause-related
returns-clause-related c =
    let items : c.push.new.self.items ≡ record { left = c.args.a; right = c.args.b } ∷ [] = c.in_ok-push.ensures.items ∙ ap (λ xs. xs ++ record { left = c.args.a; right = c.args.b } ∷ []) c.new-pairs.ensures.items in
    let run = c.run_all-related.ensures in
    let end = c.commit_if_ok.ensures in
    rw end.same (if_related c.args.nodes.now c.run_all-related.new.nodes c.args.table.now.entries c.run_all-related.new.table.entries c.commit_if_ok.new.self.entries _ _ c.run_all-related.result (rw end.same at end.ok) run.lawful (rw (items, c.in_ok-snapshot.ensures.entries) at run.reduces))

pub returns-clause-labels : goal.returns-clause-labels
returns-clause-labels c =
    let items : c.push.new.self.items ≡ record { left = c.args.a; right = c.args.b } ∷ [] = c.in_ok-push.ensures.items ∙ ap (λ xs. xs ++ record { left = c.args.a; right = c.args.b } ∷ []) c.new-pairs.ensures.items in
    let run = c.run_all-related.ensures in
    let end = c.commit_if_ok.ensures in
    rw end.same (if_brings c.args.nodes.now c.run_all-related.new.nodes c.args.table.now.entries c.run_all-related.new.table.entries c.commit_if_ok.new.self.entries _ _ c.run_all-related.result (rw end.same at end.ok) (rw (items, c.in_ok-snapshot.ensures.entries) at run.brings))

pub returns-clause-plain : goal.returns-clause-plain
returns-clause-plain c =
    let items : c.push.new.self.items ≡ record { left = c.args.a; right = c.args.b } ∷ [] = c.in_ok-push.ensures.items ∙ ap (λ xs. xs ++ record { left = c.args.a; right = c.args.b } ∷ []) c.new-pairs.ensures.items in
    let run = c.run_all-related.ensures in
    let end = c.commit_if_ok.ensures in
    rw end.same (if_plain c.args.nodes.now c.run_all-related.new.nodes c.args.table.now.entries c.run_all-related.new.table.entries c.commit_if_ok.new.self.entries _ _ c.run_all-related.result (rw end.same at end.ok) (rw (items, c.in_ok-snapshot.ensures.entries) at run.brings))

pub returns-clause-ties : goal.returns-clause-ties
returns-clause-ties c =
    let run = c.run_all-related.ensures in
    let end = c.commit_if_ok.ensures in
    rw end.same (if_ties c.args.nodes.now c.run_all-related.new.nodes c.args.table.now.entries c.run_all-related.new.table.entries c.commit_if_ok.new.self.entries c.run_all-related.result (rw end.same at end.ok) (rw c.in_ok-snapshot.ensures.entries at run.ties))

pub returns-in_err-push-clause-later : goal.returns-in_err-push-clause-later
returns-in_err-push-clause-later c = IsLater-refl (content_of c.args.nodes.now c.args.table.now.entries)

pub returns-in_err-snapshot-clause-later : goal.returns-in_err-snapshot-clause-later
returns-in_err-snapshot-clause-later c = rw c.in_err-snapshot.ensures.err (IsLater-refl (content_of c.args.nodes.now c.args.table.now.entries))
