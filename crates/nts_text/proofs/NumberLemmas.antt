-- How the numbers of declared names stay in range.
use Rattle.std.proofs.Common.{◌≡◌, ℕ, ◌≤◌, Bool, true, false, List, [], ◌∷◌, refl, arith, subst, sym, Result, Ok, Err}
use Rattle.std.specs.Prelude.{OnOk, OnErr}
use Rattle.std.specs.List.{list_all}
use Rattle.std.specs.Map.{values_of}
use Rattle.std.proofs.lemmas.Grind.{common_steps}
use Rattle.indexmap.specs.IndexMap.{insert_entry}
use Rattle.nts_text.specs.Names.{is_numbered}
use Rattle.nts_text.specs.declared.names.Declared.{Declared}
use Rattle.nts_text.specs.declared.names.Declared.TheVariants as declared

pub is_numbered_later : (t t' u u' a a' : ℕ) (d : Declared) → t ≤ t' → u ≤ u' → a ≤ a' → is_numbered t u a d ≡ true → is_numbered t' u' a' d ≡ true
is_numbered_later t t' u u' a a' (declared.Int i) h k l e = refl
is_numbered_later t t' u u' a a' (declared.Uint i) h k l e = refl
is_numbered_later t t' u u' a a' (declared.Type n) h k l e = grind (arith, common_steps, h, e)
is_numbered_later t t' u u' a a' (declared.Trait n) h k l e = grind (arith, common_steps, k, e)
is_numbered_later t t' u u' a a' (declared.Alias n r) h k l e = grind (arith, common_steps, l, e)

-- more types, traits and aliases leave the numbers in range
pub numbered_later : (t t' u u' a a' : ℕ) (ds : List Declared) → t ≤ t' → u ≤ u' → a ≤ a' → list_all (is_numbered t u a) ds ≡ true → list_all (is_numbered t' u' a') ds ≡ true
numbered_later t t' u u' a a' [] h k l e = refl
numbered_later t t' u u' a a' (d ∷ ds) h k l e = grind (arith, common_steps, e, is_numbered_later t t' u u' a a' d h k l, numbered_later t t' u u' a a' ds h k l)

module _ {K V : Type 0} (eq : K → K → Bool) (test : V → Bool) (k : K) (v : V) where
  -- one more entry, in whose place or behind which the value goes
  inserted : (e : K × V) (es : List (K × V)) (b : Bool) → eq k e.0 ≡ b → list_all test (values_of (e ∷ es)) ≡ true
      → (list_all test (values_of es) ≡ true → test v ≡ true → list_all test (values_of (insert_entry eq es k v)) ≡ true)
      → test v ≡ true → list_all test (values_of (insert_entry eq (e ∷ es) k v)) ≡ true
  inserted e es true h all more here = grind (arith, common_steps, h, all, here)
  inserted e es false h all more here = grind (arith, common_steps, h, all, more, here)

  -- a value that passes is inserted among those that do
  pub list_all-insert_entry : (es : List (K × V)) → list_all test (values_of es) ≡ true → test v ≡ true → list_all test (values_of (insert_entry eq es k v)) ≡ true
  list_all-insert_entry [] all here = grind (arith, common_steps, here)
  list_all-insert_entry (e ∷ es) all here = inserted e es (eq k e.0) refl all (list_all-insert_entry es) here

-- a new type, trait or alias may take the next number
pub numbered_insert : {K A E : Type 0} (eq : K → K → Bool) (t t' u u' a a' : ℕ) (k : K) (d : Declared) (old new : List (K × Declared)) (r : Result A E)
    → OnOk r (new ≡ insert_entry eq old k d) → OnErr r (new ≡ old) → t ≤ t' → u ≤ u' → a ≤ a' → is_numbered t' u' a' d ≡ true
    → list_all (is_numbered t u a) (values_of old) ≡ true → list_all (is_numbered t' u' a') (values_of new) ≡ true
numbered_insert eq t t' u u' a a' k d old new (Ok x) ok err h h' h'' here all =
    subst (λ es. list_all (is_numbered t' u' a') (values_of es) ≡ true) (sym ok)
    (list_all-insert_entry eq (is_numbered t' u' a') k d old (numbered_later t t' u u' a a' (values_of old) h h' h'' all) here)
numbered_insert eq t t' u u' a a' k d old new (Err x) ok err h h' h'' here all =
    subst (λ es. list_all (is_numbered t' u' a') (values_of es) ≡ true) (sym err) (numbered_later t t' u u' a a' (values_of old) h h' h'' all)
