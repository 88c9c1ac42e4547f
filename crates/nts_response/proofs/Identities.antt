-- Whether values are the positions in order, value by value.
use Rattle.std.proofs.Common.{◌≡◌, ℕ, suc, ◌+◌, ◌<◌, ◌≤◌, List, [], ◌∷◌, length, get_or, Some, refl, sym, ap, ◌∙◌, subst}
use Rattle.std.specs.Prelude.{◌↔◌, drop}
use Rattle.std.proofs.lemmas.List.{drop_more, drop_all}
use Rattle.nts_model.specs.declared.labels.Sort.{Sort}
use Rattle.nts_model.specs.declared.labels.Sort.TheVariants as sort
use Rattle.nts_model.specs.Terms.Trees.{Tree, kind_of, of_sort}
use Rattle.nts_model.specs.Canonical.Numbered.{position}
use Rattle.nts_model.specs.Answers.Responses.{IsIdentity, next, passed}
use Rattle.nts_store.specs.Growth.{tree_at}
use Rattle.nts_terms.specs.declared.handles.GenericArg.{GenericArg}
use Rattle.nts_canonical.specs.Forms.{trees_of}
use Rattle.nts_response.specs.Applied.{IsPosition}

-- a position that is a region
region_position : (s : Sort) (k : ℕ) → kind_of (position s k) ≡ Some (of_sort sort.Region) → position s k ≡ position sort.Region k
region_position sort.Ty k e = cc e
region_position sort.Const k e = cc e
region_position sort.Region k e = refl

pub identity_next : (k : ℕ) (v : Tree) (vs : List Tree) → IsPosition v k → IsIdentity k (v ∷ vs) ↔ IsIdentity (suc k) vs
identity_next k v vs p = (forth v vs p.0 p.1, λ h. subst (λ z. IsIdentity k (z ∷ vs)) (sym p.1) (next p.0 h))
  where
    forth : (w : Tree) (ws : List Tree) (s : Sort) → w ≡ position s k → IsIdentity k (w ∷ ws) → IsIdentity (suc k) ws
    forth w ws s e (next r h) = h
    forth w ws s e (passed i apart h) = absurd (apart (e ∙ region_position s k (ap kind_of (sym e) ∙ i)))

pub identity_passed : (k : ℕ) (v : Tree) (vs : List Tree) → (IsPosition v k → ⊥) → kind_of v ≡ Some (of_sort sort.Region) → IsIdentity k (v ∷ vs) ↔ IsIdentity k vs
identity_passed k v vs apart i = (forth v vs apart, λ h. passed i (λ e. apart (sort.Region, e)) h)
  where
    forth : (w : Tree) (ws : List Tree) → (IsPosition w k → ⊥) → IsIdentity k (w ∷ ws) → IsIdentity k ws
    forth w ws apart (next r h) = absurd (apart (r, refl))
    forth w ws apart (passed j n h) = h

pub identity_none : (k : ℕ) (v : Tree) (vs : List Tree) → (IsPosition v k → ⊥) → (kind_of v ≡ Some (of_sort sort.Region) → ⊥) → IsIdentity k (v ∷ vs) → ⊥
identity_none k v vs apart other h = by_case v vs apart other h
  where
    by_case : (w : Tree) (ws : List Tree) → (IsPosition w k → ⊥) → (kind_of w ≡ Some (of_sort sort.Region) → ⊥) → IsIdentity k (w ∷ ws) → ⊥
    by_case w ws apart other (next r h) = apart (r, refl)
    by_case w ws apart other (passed j n h) = other j

-- what is left of values, one step on and at the end
pub left_more : (ts : List Tree) (vs : List GenericArg) (i : ℕ) (d : GenericArg) → i < length vs → trees_of ts (drop i vs) ≡ tree_at ts (get_or vs i d).node ∷ trees_of ts (drop (i + 1) vs)
left_more ts vs i d l = ap (trees_of ts) (drop_more vs i d l)

pub left_none : (ts : List Tree) (vs : List GenericArg) (i : ℕ) → length vs ≤ i → trees_of ts (drop i vs) ≡ []
left_none ts vs i l = ap (trees_of ts) (drop_all i vs l)
