-- Goals that are added one after the other.
use Rattle.std.proofs.Common.{List, [], ◌∷◌, ◌++◌, refl, sym, ap, ◌∙◌, subst}
use Rattle.std.proofs.lemmas.List.{append-nil, append_assoc}
use Rattle.std.proofs.lemmas.List.Elements.{All-append}
use Rattle.nts_model.specs.Terms.Trees.{Tree}
use Rattle.nts_terms.specs.declared.handles.Goal.{Goal}
use Rattle.nts_certainty.specs.declared.sources.GoalSource.{GoalSource}
use Rattle.nts_meaning.specs.nts_search.specs.declared.kinds.CurrentGoalKind.{CurrentGoalKind}
use Rattle.nts_unify.specs.Entries.{Entries}
use Rattle.nts_table.specs.Tables.{Table}
use Rattle.nts_meaning.specs.Evaluation.{Goes, IsPosed}
use Rattle.nts_meaning.proofs.Evaluating.{IsPosed-later}
use Rattle.nts_adding.specs.Adding.{AddsFor, AddsEach, ArePosedIn}

-- one more goal
pub adds_more : (ts ms us : List Tree) (e m f : Entries) (k : CurrentGoalKind) (s : GoalSource) (gs : List Goal) (g : Goal) (xs ys : List (GoalSource × Goal)) → AddsEach ts ms e m k s gs xs → AddsFor ms us m f k s g ys → AddsEach ts us e f k s (gs ++ g ∷ []) (xs ++ ys)
adds_more ts ms us e m f k s [] g xs ys h a =
    let first : AddsFor ts us e f k s g ys = subst (λ z. AddsFor z us e f k s g ys) h.0 (subst (λ z. AddsFor ms us z f k s g ys) h.1 a) in
    (us, f, ys, [], first, (refl, refl, refl), ap (λ z. z ++ ys) h.2 ∙ sym (append-nil ys))
adds_more ts ms us e m f k s (x ∷ gs) g xs ys h a =
    (h.0, h.1, h.2, h.3 ++ ys, h.4, adds_more h.0 ms us h.1 m f k s gs g h.3 ys h.5 a, ap (λ z. z ++ ys) h.6 ∙ append_assoc h.2 h.3 ys)

pub posed_later : {ts us : List Tree} {t u : Table} (gs : List (GoalSource × Goal)) → Goes ts us t u → ArePosedIn ts t gs → ArePosedIn us u gs
posed_later gs g h = λ k d l. IsPosed-later g (h k d l)

pub posed_more : {ts us : List Tree} {t u : Table} (gs hs : List (GoalSource × Goal)) → Goes ts us t u → ArePosedIn ts t gs → ArePosedIn us u hs → ArePosedIn us u (gs ++ hs)
posed_more {us} {u} gs hs g h k = All-append (λ z. IsPosed us u z.1) gs hs (posed_later gs g h) k
