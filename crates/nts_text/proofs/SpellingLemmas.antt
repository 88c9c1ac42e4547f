-- How spellings grow.
use Rattle.std.proofs.Common.{◌≡◌, ℕ, zero, suc, ◌+◌, ◌<◌, length, take, get_or, Bool, true, false, List, [], ◌∷◌, ◌++◌, map, fold, Option, None, Some, IsNone, is_some, IfSome, slice_get, position, nat_eq, ◌||◌, true≢false, refl, sym, ap, subst, ◌∙◌, append_assoc}
use Rattle.std.specs.List.{list_any}
use Rattle.std.specs.Option.{option_map}
use Rattle.std.specs.Cmp.Lexicographic.{pointwise, same_text, bytes_decides}
use Rattle.std.proofs.lemmas.List.{append-nil, map-append, take_more}
use Rattle.std.proofs.lemmas.Option.{slice_get-map, slice_get-get_or}
use Rattle.std.proofs.lemmas.List.Quantifiers.{position-Some}
use Rattle.std.proofs.lemmas.Map.Keys.{any_passes_from_place}
use Rattle.indexmap.specs.IndexSet.{insert_key}
use Rattle.nts_text.specs.Binders.{BoundNames, nothing_bound, bound_behind, bound_after}
use Rattle.nts_text.specs.Resolution.{role_of, IsMeaningOf, AreMeanings}
use Rattle.nts_text.specs.Spelled.{type_names, region_names, IsNumberOf, HasNoNumber, Lengthens, KeepsNumbers, KeepsNames}
use Rattle.nts_text.specs.declared.names.NameTable.{NameTable}
use Rattle.nts_text.specs.declared.names.Scope.{Scope}
use Rattle.nts_text.specs.declared.names.Spellings.{Spellings}
use Rattle.nts_text.specs.declared.predicates.Node.{Node}
use Rattle.nts_text.specs.declared.resolver.Resolved.{Resolved}
use Rattle.nts_text.specs.declared.resolver.Resolved.TheVariants as nodes

module _ {K : Type 0} (f : K → List ℕ) where
  -- a stored key that is equal to a name has its number
  pub number_stored : (ks : List K) (n : ℕ) (k v : K) (name : List ℕ) → slice_get ks n ≡ Some k → pointwise nat_eq (f v) (f k) ≡ true → f v ≡ name → IsNumberOf (map f ks) n name
  number_stored ks n k v name stored equal e =
      slice_get-map f ks n ∙ ap (option_map f) stored ∙ ap Some (sym (same_text (f v) (f k) (sym equal)) ∙ e)

  pub lengthens_same : (old new : List K) → new ≡ old → Lengthens (map f old) (map f new)
  lengthens_same old new e = ([], ap (map f) e ∙ sym (append-nil (map f old)))

  lengthens_if : (b : Bool) (eq : K → K → Bool) (old : List K) (k : K) → list_any (eq k) old ≡ b → Lengthens (map f old) (map f (insert_key eq old k))
  lengthens_if true eq old k e = lengthens_same old (insert_key eq old k) (rw e refl)
  lengthens_if false eq old k e = (f k ∷ [], rw e (map-append f old (k ∷ [])))

  pub lengthens_insert : (eq : K → K → Bool) (old new : List K) (k : K) → new ≡ insert_key eq old k → Lengthens (map f old) (map f new)
  lengthens_insert eq old new k e = subst (λ ks. Lengthens (map f old) (map f ks)) (sym e) (lengthens_if (list_any (eq k) old) eq old k refl)

-- names are kept as keys, among which one is searched for
module _ {K : Type 0} (f : K → List ℕ) where
  -- a key that is equal to a name
  abbrev pub equals : List ℕ → K → Bool
  equals name k = pointwise nat_eq name (f k)

  unmapped : (ks : List K) (n : ℕ) (name : List ℕ) → IsNumberOf (map f ks) n name → (k : K) × (slice_get ks n ≡ Some k) × (f k ≡ name)
  unmapped [] n name h = cc
  unmapped (k ∷ ks) zero name h = (k, refl, cc)
  unmapped (k ∷ ks) (suc n) name h = unmapped ks n name h

  -- a name that is equal to no key has no number
  pub none_equal : (ks : List K) (name : List ℕ) → list_any (equals name) ks ≡ false → HasNoNumber (map f ks) name
  none_equal ks name none = λ n h.
      let u = unmapped ks n name h in
      let passes : equals name u.0 ≡ true = (bytes_decides name (f u.0)).1 (sym u.2) in
      true≢false (sym (any_passes_from_place (equals name) ks n u.0 u.1 passes) ∙ none)

  some_at : (k : K) (ks : List K) (name : List ℕ) (b : Bool) → equals name k ≡ b → ((list_any (equals name) ks ≡ true) → (n : ℕ) × IsNumberOf (map f ks) n name)
      → list_any (equals name) (k ∷ ks) ≡ true → (n : ℕ) × IsNumberOf (map f (k ∷ ks)) n name
  some_at k ks name true e rest h = (0, ap Some (sym (same_text name (f k) (sym e))))
  some_at k ks name false e rest h =
      let r = rest (sym (ap (λ c. c || list_any (equals name) ks) e) ∙ h) in
      (suc r.0, r.1)

  -- .. and one that is equal to a key has one
  pub some_equal : (ks : List K) (name : List ℕ) → list_any (equals name) ks ≡ true → (n : ℕ) × IsNumberOf (map f ks) n name
  some_equal [] name h = cc
  some_equal (k ∷ ks) name h = some_at k ks name (equals name k) refl (some_equal ks name) h

  number_at : (ks : List K) (name : List ℕ) (n : ℕ) → position (equals name) ks ≡ Some n → IsNumberOf (map f ks) n name
  number_at [] name n h = cc
  number_at (k ∷ ks) name n h =
      let e = position-Some (equals name) (k ∷ ks) n k h in
      slice_get-map f (k ∷ ks) n ∙ ap (option_map f) (slice_get-get_or (k ∷ ks) n k e.0)
      ∙ ap Some (sym (same_text name (f (get_or (k ∷ ks) n k)) (sym e.1)))

  -- .. which is the place where it is found
  pub number_found : (ks : List K) (name : List ℕ) (r : Option ℕ) → r ≡ position (equals name) ks → IfSome r (λ n. IsNumberOf (map f ks) n name)
  number_found ks name None h = tt
  number_found ks name (Some n) h = number_at ks name n (sym h)

  pub number_missed : (ks : List K) (name : List ℕ) (r : Option ℕ) → is_some r ≡ list_any (equals name) ks → IsNone r → HasNoNumber (map f ks) name
  number_missed ks name None h none = none_equal ks name (sym h)
  number_missed ks name (Some n) h none = absurd (true≢false none)

pub Lengthens-refl : (old : List (List ℕ)) → Lengthens old old
Lengthens-refl old = ([], sym (append-nil old))

pub Lengthens-trans : (a b c : List (List ℕ)) → Lengthens a b → Lengthens b c → Lengthens a c
Lengthens-trans a b c h k = (h.0 ++ k.0, k.1 ∙ ap (λ xs. xs ++ k.0) h.1 ∙ append_assoc a h.0 k.0)

get-front : (xs ys : List (List ℕ)) (n : ℕ) (name : List ℕ) → slice_get xs n ≡ Some name → slice_get (xs ++ ys) n ≡ Some name
get-front [] ys n name e = cc
get-front (x ∷ xs) ys zero name e = e
get-front (x ∷ xs) ys (suc n) name e = get-front xs ys n name e

pub number-later : (old new : List (List ℕ)) (n : ℕ) (name : List ℕ) → Lengthens old new → IsNumberOf old n name → IsNumberOf new n name
number-later old new n name h e = subst (λ ns. IsNumberOf ns n name) (sym h.1) (get-front old h.0 n name e)

pub KeepsNumbers-refl : (s : Spellings) → KeepsNumbers s s
KeepsNumbers-refl s = record { types = Lengthens-refl (type_names s); regions = Lengthens-refl (region_names s) }

pub KeepsNumbers-trans : (a b c : Spellings) → KeepsNumbers a b → KeepsNumbers b c → KeepsNumbers a c
KeepsNumbers-trans a b c h k = record {
  types = Lengthens-trans (type_names a) (type_names b) (type_names c) h.types k.types;
  regions = Lengthens-trans (region_names a) (region_names b) (region_names c) h.regions k.regions;
}

pub KeepsNames-refl : {s : Scope} → KeepsNames s s
KeepsNames-refl {s} = record { variables = KeepsNumbers-refl s.variables; parameters = KeepsNumbers-refl s.parameters }

pub KeepsNames-trans : {a b c : Scope} → KeepsNames a b → KeepsNames b c → KeepsNames a c
KeepsNames-trans {a} {b} {c} h k = record {
  variables = KeepsNumbers-trans a.variables b.variables c.variables h.variables k.variables;
  parameters = KeepsNumbers-trans a.parameters b.parameters c.parameters h.parameters k.parameters;
}

-- one more variable or parameter of a type
pub keeps_types : (old new : Spellings) → Lengthens (type_names old) (type_names new) → new.regions ≡ old.regions → KeepsNumbers old new
keeps_types old new h e = record { types = h; regions = subst (λ rs. Lengthens (region_names old) (map (λ v. v.items) rs.keys)) (sym e) (Lengthens-refl (region_names old)) }

-- .. or of a region
pub keeps_regions : (old new : Spellings) → Lengthens (region_names old) (region_names new) → new.types ≡ old.types → KeepsNumbers old new
keeps_regions old new h e = record { types = subst (λ ts. Lengthens (type_names old) (map (λ v. v.items) ts.keys)) (sym e) (Lengthens-refl (type_names old)); regions = h }

-- .. among the variables, or among the parameters
pub keeps_variables : (scope : Scope) (new : Spellings) → KeepsNumbers scope.variables new → KeepsNames scope (record { variables = new; parameters = scope.parameters })
keeps_variables scope new h = record { variables = h; parameters = KeepsNumbers-refl scope.parameters }

pub keeps_parameters : (scope : Scope) (new : Spellings) → KeepsNumbers scope.parameters new → KeepsNames scope (record { variables = scope.variables; parameters = new })
keeps_parameters scope new h = record { variables = KeepsNumbers-refl scope.variables; parameters = h }

-- a meaning stays where names are added
pub meaning-later : (names : NameTable) (old new : Scope) (line : List ℕ) (b : BoundNames) (n : Node) (r : Resolved) → KeepsNames old new → IsMeaningOf names old line b n r → IsMeaningOf names new line b n r
meaning-later names old new line b n (nodes.Binds s) k h = h
meaning-later names old new line b n (nodes.BoundType i) k h = h
meaning-later names old new line b n (nodes.BoundRegion i) k h = h
meaning-later names old new line b n (nodes.Trait i arguments) k h = h
meaning-later names old new line b n nodes.TypeOutlives k h = h
meaning-later names old new line b n nodes.RegionOutlives k h = h
meaning-later names old new line b n (nodes.Ctor i arguments) k h = h
meaning-later names old new line b n (nodes.Alias i arguments) k h = h
meaning-later names old new line b n (nodes.Normalizes i arguments) k h = h
meaning-later names old new line b n (nodes.Int t) k h = h
meaning-later names old new line b n (nodes.Uint t) k h = h
meaning-later names old new line b n (nodes.TypeVariable i) k h = (h.0, number-later _ _ i _ k.variables.types h.1)
meaning-later names old new line b n (nodes.TypeParam i) k h = (h.0, number-later _ _ i _ k.parameters.types h.1)
meaning-later names old new line b n (nodes.RegionVariable i) k h = (h.0, number-later _ _ i _ k.variables.regions h.1)
meaning-later names old new line b n (nodes.RegionParam i) k h = (h.0, h.1, number-later _ _ i _ k.parameters.regions h.2)
meaning-later names old new line b n nodes.Static k h = h

pub meanings-later : (names : NameTable) (old new : Scope) (line : List ℕ) (b : BoundNames) (ns : List Node) (rs : List Resolved) → KeepsNames old new → AreMeanings names old line b ns rs → AreMeanings names new line b ns rs
meanings-later names old new line b [] [] k h = tt
meanings-later names old new line b [] (r ∷ rs) k h = absurd h
meanings-later names old new line b (n ∷ ns) [] k h = absurd h
meanings-later names old new line b (n ∷ ns) (r ∷ rs) k h =
    (h.0, meaning-later names old new line b n r k h.1, meanings-later names old new line (bound_behind line b n) ns rs k h.2)

meanings_last : (names : NameTable) (scope : Scope) (line : List ℕ) (b : BoundNames) (ns : List Node) (rs : List Resolved) (n : Node) (r : Resolved)
    → AreMeanings names scope line b ns rs → n.role ≡ role_of r → IsMeaningOf names scope line (fold (bound_behind line) b ns) n r
    → AreMeanings names scope line b (ns ++ n ∷ []) (rs ++ r ∷ [])
meanings_last names scope line b [] [] n r h role here = (role, here, tt)
meanings_last names scope line b [] (q ∷ rs) n r h role here = absurd h
meanings_last names scope line b (m ∷ ns) [] n r h role here = absurd h
meanings_last names scope line b (m ∷ ns) (q ∷ rs) n r h role here =
    (h.0, h.1, meanings_last names scope line (bound_behind line b m) ns rs n r h.2 role here)

-- one more node and its meaning
pub meanings_push : (names : NameTable) (old new : Scope) (line : List ℕ) (ns : List Node) (rs : List Resolved) (i : ℕ) (d : Node) (r : Resolved)
    → i < length ns → KeepsNames old new → AreMeanings names old line nothing_bound (take i ns) rs → (get_or ns i d).role ≡ role_of r
    → IsMeaningOf names new line (bound_after line (take i ns)) (get_or ns i d) r
    → AreMeanings names new line nothing_bound (take (i + 1) ns) (rs ++ r ∷ [])
meanings_push names old new line ns rs i d r lt k h role here =
    subst (λ xs. AreMeanings names new line nothing_bound xs (rs ++ r ∷ [])) (sym (take_more ns i d lt))
    (meanings_last names new line nothing_bound (take i ns) rs (get_or ns i d) r (meanings-later names old new line nothing_bound (take i ns) rs k h) role here)

bound_last : (line : List ℕ) (b : BoundNames) (ns : List Node) (n : Node) → fold (bound_behind line) b (ns ++ n ∷ []) ≡ bound_behind line (fold (bound_behind line) b ns) n
bound_last line b [] n = refl
bound_last line b (m ∷ ns) n = bound_last line (bound_behind line b m) ns n

-- what is bound behind one more node
pub bound_push : (line : List ℕ) (ns : List Node) (i : ℕ) (d : Node) → i < length ns → bound_after line (take (i + 1) ns) ≡ bound_behind line (bound_after line (take i ns)) (get_or ns i d)
bound_push line ns i d lt = ap (bound_after line) (take_more ns i d lt) ∙ bound_last line nothing_bound (take i ns) (get_or ns i d)

pub ruleset spelling = (number_stored, lengthens_same, lengthens_insert)
