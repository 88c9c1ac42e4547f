-- Hidden types that are compared.
use Rattle.nts_unify.proofs.Changes.{some_inj}
use Rattle.std.proofs.Common.{◌≡◌, ⊎_elim, ℕ, ◌+◌, ◌<◌, List, [], ◌∷◌, ◌++◌, length, map, take, get_or, Some, sym, ap, ◌∙◌, arith}
use Rattle.std.proofs.lemmas.List.{take_more, map-append}
use Rattle.std.specs.Prelude.{slice_get}
use Rattle.nts_model.specs.Terms.Trees.{Tree}
use Rattle.nts_model.specs.Tables.Contents.{Content}
use Rattle.nts_model.specs.Tables.Resolving.{deeply_resolved, Knows}
use Rattle.nts_model.proofs.Tables.Under.{same_or_other}
use Rattle.nts_store.specs.declared.nodes.NodeId.{NodeId}
use Rattle.nts_store.specs.Growth.{tree_at, Extends}
use Rattle.nts_unify.specs.declared.contents.HiddenType.{HiddenType}
use Rattle.nts_unify.specs.Entries.{Entries}
use Rattle.nts_unify.specs.Reading.{content_of, IsHiddenType, IsLawful}
use Rattle.nts_unify.specs.Lawful.{content_of-extended, AreHiddenTypes-at, AreHiddenTypes-extended}
use Rattle.nts_terms.specs.declared.handles.AliasTerm.{AliasTerm}
use Rattle.nts_terms.specs.declared.handles.Ty.{Ty}
use Rattle.nts_table.specs.Registering.{HasAliasOf, NoneBefore, pair_of}

pub hidden_at : (ts : List Tree) (e : Entries) (n : ℕ) (x : HiddenType) → IsLawful ts e → slice_get e.hidden.lookup n ≡ Some x → IsHiddenType ts (content_of ts e) x
hidden_at ts e n x h q = AreHiddenTypes-at ts (content_of ts e) e.hidden.lookup n x h.hidden.lookup q

-- the arguments of one of them, in a store that grew
pub known_later : (ts us : List Tree) (e : Entries) (x : HiddenType) → IsLawful ts e → Extends ts us → IsHiddenType ts (content_of ts e) x → Knows (content_of us e) (tree_at us x.args.node)
known_later ts us e x h a k = rw (content_of-extended a h, a.kept x.args.node k.args.within) k.args_known

-- what is compared are the arguments under the values
pub compared : (ts us vs : List Tree) (e : Entries) (x : HiddenType) (r : NodeId) → IsLawful ts e → Extends ts us → IsHiddenType ts (content_of ts e) x → tree_at vs r ≡ deeply_resolved (content_of us e) (tree_at us x.args.node) → tree_at vs r ≡ deeply_resolved (content_of ts e) (tree_at ts x.args.node)
compared ts us vs e x r h a k q = q ∙ (λ i. deeply_resolved (content_of-extended a h i) (a.kept x.args.node k.args.within i))

-- one more that is hidden behind another alias
pub none_more : (ts : List Tree) (c : Content) (n : ℕ) (xs : List HiddenType) (h old : HiddenType) → NoneBefore ts c n xs h → slice_get xs n ≡ Some old → (HasAliasOf ts c old h → ⊥) → NoneBefore ts c (n + 1) xs h
none_more ts c n xs h old before at other i x less q has = ⊎_elim
    (λ (e : i ≡ n). let same : old ≡ x = some_inj old x (sym at ∙ ap (slice_get xs) (sym e) ∙ q) in other (rw same has))
    (λ (d : i ≡ n → ⊥). before i x (omega (arith, less, d)) q has)
    (same_or_other i n)

pub IsHiddenType-extended : {a b : List Tree} {e : Entries} {x : HiddenType} → IsLawful a e → Extends a b → IsHiddenType a (content_of a e) x → IsHiddenType b (content_of b e) x
IsHiddenType-extended {a} {b} {e} {x} h g k = rw (content_of-extended g h) (AreHiddenTypes-extended a b (content_of a e) (x ∷ []) g (k, tt)).0

-- another type behind the alias
pub other_type : {ts : List Tree} {c : Content} {old h : HiddenType} → IsHiddenType ts c old → IsHiddenType ts c h → IsHiddenType ts c (record old { ty = h.ty })
other_type o h = record { of_types = o.of_types; args = o.args; args_known = o.args_known; ty = h.ty; ty_known = h.ty_known }

-- one more pair is told
pub pairs_more : (hs : List HiddenType) (i : ℕ) (d : HiddenType) {ps qs : List (AliasTerm × Ty)} → i < length hs → ps ≡ map pair_of (take i hs) → qs ≡ ps ++ pair_of (get_or hs i d) ∷ [] → qs ≡ map pair_of (take (i + 1) hs)
pairs_more hs i d {ps} {qs} l old new =
    new ∙ ap (λ xs. xs ++ pair_of (get_or hs i d) ∷ []) old ∙ sym (map-append pair_of (take i hs) (get_or hs i d ∷ [])) ∙ ap (map pair_of) (sym (take_more hs i d l))
