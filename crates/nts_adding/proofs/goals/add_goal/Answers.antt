use Rattle.std.proofs.Common.{◌≡◌, List, [], ◌∷◌, ◌++◌, map, refl, ap, ◌∙◌}
use Rattle.std.proofs.lemmas.List.{append_assoc}
use Rattle.std.proofs.lemmas.List.Elements.{All-append, All-map, All-nil, All-cons}
use Rattle.nts_terms.specs.declared.handles.Goal.{Goal}
use Rattle.nts_certainty.specs.declared.sources.GoalSource.{GoalSource}
use Rattle.nts_certainty.specs.declared.sources.GoalSource.TheVariants as source
use Rattle.nts_meaning.specs.Evaluation.{IsPosed}
use Rattle.nts_adding.proofs.goals.add_goal.Goals as goal

pub returns-clause-adds : goal.returns-clause-adds
returns-clause-adds c =
    let r = c.in_ok-relations.ensures in
    let gs = c.in_ok-relations.relations.items in
    let step = c.step_kind_for_source.result in
    let s : Goal → GoalSource × Goal = λ x. (source.NormalizeGoal step, x) in
    let end : List (GoalSource × Goal) = (c.args.source, c.in_ok-relations.last) ∷ [] in
    let P : GoalSource × Goal → Type 0 = λ z. IsPosed c.replace_aliases.new.cx.nodes c.replace_aliases.new.table z.1 in
    let first : c.in_ok-first.first.items ≡ map s gs = c.in_ok-first.ensures ∙ ap (map s) c.deref.ensures.value in
    let old = c.args.added.now.items in
    record {
      more = map s gs ++ end;
      adds = record { relations = gs; last = c.in_ok-relations.last; stand = r.stand; step = step; kind = c.step_kind_for_source.ensures; is = refl };
      posed = All-append P (map s gs) end (All-map P s gs r.posed) (All-cons P (c.args.source, c.in_ok-relations.last) [] r.last (All-nil P));
      behind = c.in_ok-push.ensures.items ∙ ap (λ z. z ++ end) c.in_ok-append.ensures.items ∙ append_assoc old c.in_ok-first.first.items end ∙ ap (λ z. old ++ (z ++ end)) first;
    }
