-- The sub roots that a table's links lead to are those of its classes.
use Rattle.std.proofs.Common.{◌≡◌, ℕ, zero, suc, List, Option, Some, None, slice_get, refl, sym, ap, ◌∙◌, subst, [], ◌∷◌, map}
use Rattle.nts_model.specs.Terms.Trees.{Tree}
use Rattle.nts_model.specs.Tables.Contents.{Content, map_slot, sub_link_of, Slot}
use Rattle.nts_model.specs.Tables.SubUnifying.{SharesSubRoot, itself, linked, turned, through}
use Rattle.nts_theory.specs.Telling.{AreClassesOf, without_constraints}
use Rattle.nts_unify.specs.declared.contents.Variable.{Variable}
use Rattle.nts_unify.specs.Entries.{Entries}
use Rattle.nts_unify.specs.Reading.{LinksDescend, content_of, slot_of}
use Rattle.nts_unify.proofs.SubJoins.{sub_link_of-entry}
use Rattle.nts_canonical.specs.SubRoots.{sub_link_in, sub_follow, sub_root_in}
use Rattle.nts_canonical.proofs.SubRooted.{descends, root-link}

-- a link in the table is one of the entries, and the other way round
link_read : (ts : List Tree) (e : Entries) (n m : ℕ) (o : Option Variable) → slice_get e.variables n ≡ o → sub_link_in o ≡ Some m → sub_link_of (content_of ts e) n ≡ Some (Some m)
link_read ts e n m None is h = cc h
link_read ts e n m (Some v) is h = sub_link_of-entry ts e n v is ∙ ap Some h

no_slot : (f : Variable → Slot) (xs : List Variable) (n : ℕ) → slice_get xs n ≡ None → slice_get (map f xs) n ≡ None
no_slot f [] n h = refl
no_slot f (x ∷ xs) zero h = cc h
no_slot f (x ∷ xs) (suc n) h = no_slot f xs n h

link_written : (ts : List Tree) (e : Entries) (n m : ℕ) (o : Option Variable) → slice_get e.variables n ≡ o → sub_link_of (content_of ts e) n ≡ Some (Some m) → sub_link_in o ≡ Some m
link_written ts e n m None is h = (let none : sub_link_of (content_of ts e) n ≡ None = ap (map_slot (λ x. x.sub_link)) (no_slot (slot_of ts) e.variables n is) in let z : None ≡ Some (Some m) = sym none ∙ h in cc z)
link_written ts e n m (Some v) is h = (let z : Some v.sub_link ≡ Some (Some m) = sym (sub_link_of-entry ts e n v is) ∙ h in some_inj v.sub_link (Some m) z)
  where
    some_inj : (a b : Option ℕ) → Some a ≡ Some b → a ≡ b
    some_inj a b q = cc q

-- where links are followed to
shares_followed : (ts : List Tree) (e : Entries) (k n : ℕ) → SharesSubRoot (content_of ts e) n (sub_follow e k n)
shares_followed ts e zero n = itself
shares_followed ts e (suc k) n = by_link (sub_link_in (slice_get e.variables n)) refl (shares_followed ts e k)
  where
    by_link : (o : Option ℕ) → sub_link_in (slice_get e.variables n) ≡ o → ((m : ℕ) → SharesSubRoot (content_of ts e) m (sub_follow e k m)) → SharesSubRoot (content_of ts e) n (sub_follow e (suc k) n)
    by_link None q rest = rw q itself
    by_link (Some m) q rest = rw q (through (linked (link_read ts e n m (slice_get e.variables n) refl q)) (rest m))

shared_root : (ts : List Tree) (e : Entries) → LinksDescend e → {n m : ℕ} → SharesSubRoot (content_of ts e) n m → sub_root_in e n ≡ sub_root_in e m
shared_root ts e d itself = refl
shared_root ts e d (linked {n} {m} h) = root-link e (descends e d) n m (link_written ts e n m (slice_get e.variables n) refl h)
shared_root ts e d (turned s) = sym (shared_root ts e d s)
shared_root ts e d (through s t) = shared_root ts e d s ∙ shared_root ts e d t

pub root_classes : (ts : List Tree) (e : Entries) → LinksDescend e → AreClassesOf (content_of ts e) (sub_root_in e)
root_classes ts e d n m = (
  λ q. through (shares_followed ts e n n) (turned (subst (λ r. SharesSubRoot (content_of ts e) m r) (sym q) (shares_followed ts e m m))),
  λ s. shared_root ts e d s,
)

-- a table without its constraints has the same classes
shares_without : (c : Content) {n m : ℕ} → SharesSubRoot c n m → SharesSubRoot (without_constraints c) n m
shares_without c itself = itself
shares_without c (linked h) = linked h
shares_without c (turned s) = turned (shares_without c s)
shares_without c (through s t) = through (shares_without c s) (shares_without c t)

shares_with : (c : Content) {n m : ℕ} → SharesSubRoot (without_constraints c) n m → SharesSubRoot c n m
shares_with c itself = itself
shares_with c (linked h) = linked h
shares_with c (turned s) = turned (shares_with c s)
shares_with c (through s t) = through (shares_with c s) (shares_with c t)

pub classes_without : (c : Content) (root : ℕ → ℕ) → AreClassesOf c root → AreClassesOf (without_constraints c) root
classes_without c root h n m = (λ q. shares_without c ((h n m).0 q), λ s. (h n m).1 (shares_with c s))
