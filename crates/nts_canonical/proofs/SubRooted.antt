-- Sub roots by links are sub roots by the function.
use Rattle.std.proofs.Common.{◌≡◌, ℕ, zero, suc, ◌<◌, ◌≤◌, Option, Some, None, slice_get, refl, sym, ap, ◌∙◌, arith}
use Rattle.nts_unify.specs.declared.contents.Variable.{Variable}
use Rattle.nts_unify.specs.Entries.{Entries}
use Rattle.nts_unify.specs.Reading.{LinksDescend}
use Rattle.nts_unify.specs.Roots.{SubLeads, here, on, IsSubRoot}
use Rattle.nts_canonical.specs.SubRoots.{sub_link_in, sub_follow, sub_root_in}

abbrev link_at : Entries → ℕ → Option ℕ
link_at e n = sub_link_in (slice_get e.variables n)

abbrev Descends : Entries → Type 0
Descends e = (n m : ℕ) → link_at e n ≡ Some m → m < n

descends_at : (e : Entries) → LinksDescend e → (n m : ℕ) (o : Option Variable) → slice_get e.variables n ≡ o → sub_link_in o ≡ Some m → m < n
descends_at e d n m None is h = cc
descends_at e d n m (Some v) is h = d.sub_links n m v is h

pub descends : (e : Entries) → LinksDescend e → Descends e
descends e d n m h = descends_at e d n m (slice_get e.variables n) refl h

pub data IsEndOrLink (o : Option ℕ) : Type 0 where
  is_end : o ≡ None → IsEndOrLink o
  is_link : (m : ℕ) → o ≡ Some m → IsEndOrLink o

end_or_link : (o : Option ℕ) → IsEndOrLink o
end_or_link None = is_end refl
end_or_link (Some m) = is_link m refl

follow-end : (e : Entries) (k n : ℕ) → link_at e n ≡ None → sub_follow e k n ≡ n
follow-end e zero n h = refl
follow-end e (suc k) n h = rw h refl

-- n steps are enough
follow-enough : (e : Entries) → Descends e → (j k n : ℕ) → n ≤ j → n ≤ k → sub_follow e j n ≡ sub_follow e k n
follow-enough e d zero k n h g = by_case (end_or_link (link_at e n))
  where
    by_case : IsEndOrLink (link_at e n) → n ≡ sub_follow e k n
    by_case (is_end r) = sym (follow-end e k n r)
    by_case (is_link m q) = let l = d n m q in absurd (omega (arith, l, h))
follow-enough e d (suc j) zero n h g = by_case (end_or_link (link_at e n))
  where
    by_case : IsEndOrLink (link_at e n) → sub_follow e (suc j) n ≡ n
    by_case (is_end r) = follow-end e (suc j) n r
    by_case (is_link m q) = let l = d n m q in absurd (omega (arith, l, g))
follow-enough e d (suc j) (suc k) n h g = by_case (end_or_link (link_at e n)) (follow-enough e d j k)
  where
    by_case : IsEndOrLink (link_at e n) → ((i : ℕ) → i ≤ j → i ≤ k → sub_follow e j i ≡ sub_follow e k i) → sub_follow e (suc j) n ≡ sub_follow e (suc k) n
    by_case (is_end r) rec = follow-end e (suc j) n r ∙ sym (follow-end e (suc k) n r)
    by_case (is_link m q) rec = let l = d n m q in rw q (rec m (omega (arith, l, h)) (omega (arith, l, g)))

pub root-link : (e : Entries) → Descends e → (n m : ℕ) → link_at e n ≡ Some m → sub_root_in e n ≡ sub_root_in e m
root-link e d zero m q = let l = d zero m q in absurd (omega (arith, l))
root-link e d (suc n) m q = let l = d (suc n) m q in rw q (follow-enough e d n m m (omega (arith, l)) (omega arith))

leads-root : (e : Entries) → Descends e → (n r : ℕ) → SubLeads e n r → sub_root_in e n ≡ sub_root_in e r
leads-root e d n r here = refl
leads-root e d n r (on {m = m} v h at q) = leads-root e d n m h ∙ root-link e d m r (ap sub_link_in at ∙ q)

no_link : (e : Entries) (r : ℕ) (o : Option Variable) → slice_get e.variables r ≡ o → ((v : Variable) → slice_get e.variables r ≡ Some v → v.sub_link ≡ None) → sub_link_in o ≡ None
no_link e r None is h = refl
no_link e r (Some v) is h = h v is

pub sub_root_is : (e : Entries) → LinksDescend e → (n r : ℕ) → IsSubRoot e n r → r ≡ sub_root_in e n
sub_root_is e d n r h =
    sym (leads-root e (descends e d) n r h.leads ∙ follow-end e r r (no_link e r (slice_get e.variables r) refl h.ends))
