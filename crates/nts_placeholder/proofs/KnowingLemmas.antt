-- What is opened is known to the table afterwards.
use Rattle.std.proofs.Common.{◌≡◌, ℕ, zero, suc, ◌+◌, ◌≤◌, Bool, List, [], ◌∷◌, Option, Some, None, sym, ap, subst, ◌∙◌, arith}
use Rattle.nts_model.specs.declared.labels.Sort.{Sort}
use Rattle.nts_model.specs.Terms.Trees.{Tree}
use Rattle.nts_model.specs.Tables.Contents.{Content, kind_at}
use Rattle.nts_model.specs.Tables.Resolving.{Knows}
use Rattle.nts_store.specs.Growth.{Extends}
use Rattle.nts_unify.specs.Entries.{Entries}
use Rattle.nts_unify.specs.Reading.{content_of, IsLawful}
use Rattle.nts_unify.specs.Lawful.{content_of-extended}
use Rattle.nts_placeholder.specs.declared.maps.BoundVar.{BoundVar}
use Rattle.nts_placeholder.specs.Knowing.{NamesListed}
use Rattle.nts_placeholder.specs.Opening.{opened_by}
use Rattle.nts_placeholder.specs.Universes.{filled_universes, open_before, AreFilled}
use Rattle.nts_placeholder.proofs.Relabelling.{opening_keeps_known}

names_later : (u v : ℕ) (U : List (Option ℕ)) → u ≤ v → NamesListed u U → NamesListed v U
names_later u v [] l h = tt
names_later u v (None ∷ U) l h = names_later u v U l h
names_later u v (Some k ∷ U) l h = (omega (arith, l, h.0), names_later u v U l h.1)

names_filled : (w u n : ℕ) (U : List (Option ℕ)) → NamesListed w U → u + open_before n U ≤ w → NamesListed w (filled_universes u n U)
names_filled w u zero U h l = h
names_filled w u (suc n) [] h l = tt
names_filled w u (suc n) (None ∷ U) h l = (omega (arith, l), names_filled w (u + 1) n U h (omega (arith, l)))
names_filled w u (suc n) (Some v ∷ U) h l = (h.0, names_filled w u n U h.1 l)

pub opened_known : (a b : List Tree) (e f : Entries) (U V : List (Option ℕ)) (E : Sort → BoundVar → Bool) (t x : Tree) → Extends a b → IsLawful a e → NamesListed e.universe U → AreFilled E U V e f → x ≡ opened_by V 0 t → Knows (content_of a e) t → Knows (content_of b f) x
opened_known a b e f U V E t x up law named fill is h =
    let k = open_before fill.reach U in
    let universe : f.universe ≡ e.universe + k = ap (λ (z : Entries). z.universe) fill.entries in
    let low : e.universe ≤ f.universe = omega (arith, universe) in
    let old : NamesListed f.universe U = names_later e.universe f.universe U low named in
    let new : NamesListed f.universe V = subst (NamesListed f.universe) (sym fill.list) (names_filled f.universe e.universe fill.reach U old (omega (arith, universe))) in
    let kinds : (n : ℕ) → kind_at (content_of b f) n ≡ kind_at (content_of a e) n = λ n. ap (λ (z : Entries). kind_at (content_of b z) n) fill.entries ∙ ap (λ (c : Content). kind_at c n) (content_of-extended up law) in
    subst (Knows (content_of b f)) (sym is) (opening_keeps_known (content_of a e) (content_of b f) V t kinds low new h)
