-- Hidden types of a response, one after another.
use Rattle.std.proofs.Common.{◌≡◌, ℕ, ◌+◌, ◌<◌, List, [], ◌++◌, length, take, get_or, Some, refl, sym, ap, ◌∙◌}
use Rattle.std.specs.Prelude.{All}
use Rattle.std.proofs.lemmas.List.{append-nil, append_assoc}
use Rattle.nts_model.specs.Terms.Trees.{Tree}
use Rattle.nts_model.specs.Tables.Contents.{Content}
use Rattle.nts_terms.specs.declared.handles.AliasTerm.{AliasTerm}
use Rattle.nts_terms.specs.declared.handles.Ty.{Ty}
use Rattle.nts_store.specs.Growth.{Extends}
use Rattle.nts_unify.specs.declared.contents.HiddenType.{HiddenType}
use Rattle.nts_unify.specs.Entries.{HiddenTypes, Entries}
use Rattle.nts_unify.specs.Reading.{content_of, IsHiddenType, IsLawful}
use Rattle.nts_unify.specs.Lawful.{AreHiddenTypes-at}
use Rattle.nts_table.specs.Registering.{Registers}
use Rattle.nts_canonical.specs.Building.{stored_hidden, replaced_by}
use Rattle.nts_canonical.proofs.Registered.{registered_more, hidden-now, hidden_alone}
use Rattle.nts_response.specs.Registered.{RegistersHidden, TakesAll}

-- what gave place, behind the alias of the one that took it
pub older_hidden : (a b : List Tree) (e f : Entries) (h : HiddenType) (ty : Ty) → IsLawful a e → Extends a b → f ≡ record e { hidden = record e.hidden { lookup = f.hidden.lookup } } → IsHiddenType a (content_of a e) h
    → Registers a (content_of a e) e.hidden.lookup h f.hidden.lookup (Some ty) → IsHiddenType b (content_of b f) (record h { ty = ty })
older_hidden a b e f h ty g up q k (n, old, first, is, ends) =
    let here = g.hidden in
    let x = AreHiddenTypes-at a (content_of a e) e.hidden.lookup n old here.lookup first.at in
    hidden-now a b e f (record h { ty = ty }) g (hidden_alone e f q) up (record { of_types = k.of_types; args = k.args; args_known = k.args_known; ty = rw is x.ty; ty_known = rw is x.ty_known })

-- one more
pub takes_more : (a b : List Tree) (e f : Entries) (y : HiddenTypes) (hs : List (AliasTerm × Ty)) (i : ℕ) (d : AliasTerm × Ty) → IsLawful a e → IsLawful a f → f ≡ record e { hidden = f.hidden } → Extends a b → All (λ h. IsHiddenType a (content_of a e) (stored_hidden h)) hs → i < length hs
    → TakesAll a (content_of a e) e.hidden (take i hs) f.hidden → RegistersHidden a (content_of a f) f.hidden (stored_hidden (get_or hs i d)) y → TakesAll b (content_of b e) e.hidden (take (i + 1) hs) y
takes_more a b e f y hs i d g h q up all l r k =
    record {
      older = r.older ++ replaced_by (stored_hidden (get_or hs i d)) k.older;
      registers = registered_more a b e f y.lookup hs r.older i d k.older g h q up all l r.registers k.registers;
      duplicates = k.duplicates ∙ ap (λ (z : List HiddenType). z ++ replaced_by (stored_hidden (get_or hs i d)) k.older) r.duplicates ∙ append_assoc e.hidden.duplicates r.older (replaced_by (stored_hidden (get_or hs i d)) k.older);
    }
