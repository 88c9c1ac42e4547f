-- Where links lead.
use Rattle.std.proofs.Common.{◌≡◌, ℕ, zero, suc, ◌<◌, ◌≤◌, Option, Some, None, refl, sym, ap, ◌∙◌, arith}
use Rattle.nts_model.specs.declared.labels.VariableKind.{VariableKind}
use Rattle.nts_model.specs.declared.labels.VariableKind.TheVariants as kind
use Rattle.nts_model.specs.declared.labels.Leaf.TheVariants as leaf
use Rattle.nts_model.specs.declared.labels.Label.{Label}
use Rattle.nts_model.specs.declared.labels.Label.TheVariants as label
use Rattle.nts_model.specs.Terms.Trees.{Tree, empty, more, node, size, infer_of, variable_of}
use Rattle.nts_model.specs.Tables.Contents.{Content, SlotState, unset, link, known, state_of, kind_at}
use Rattle.nts_model.specs.Tables.Resolving.{follow, follow_state, root_of, rooted, rooted_variable, Reaches, here, on, IsRootState, IsSound, Lacks, LacksAt}

-- links lead to lower numbers
abbrev pub Descends : Content → Type 0
Descends c = (n m : ℕ) → state_of c n ≡ Some (link m) → m < n

pub follow_state-root : (f : ℕ → ℕ) (n : ℕ) (o : Option SlotState) → IsRootState o → follow_state f n o ≡ n
follow_state-root f n None h = refl
follow_state-root f n (Some unset) h = refl
follow_state-root f n (Some (link m)) h = absurd h
follow_state-root f n (Some (known t)) h = refl

-- a root leads nowhere
pub follow-root : (c : Content) (k n : ℕ) → IsRootState (state_of c n) → follow c k n ≡ n
follow-root c zero n h = refl
follow-root c (suc k) n h = follow_state-root (follow c k) n (state_of c n) h

-- a variable is a root, or is linked to a variable
pub data IsRootOrLink (o : Option SlotState) : Type 0 where
  is_root : IsRootState o → IsRootOrLink o
  is_link : (m : ℕ) → o ≡ Some (link m) → IsRootOrLink o

pub root_or_link : (o : Option SlotState) → IsRootOrLink o
root_or_link None = is_root tt
root_or_link (Some unset) = is_root tt
root_or_link (Some (link m)) = is_link m refl
root_or_link (Some (known t)) = is_root tt

-- n steps are enough
follow-enough : (c : Content) → Descends c → (j k n : ℕ) → n ≤ j → n ≤ k → follow c j n ≡ follow c k n
follow-enough c d zero k n h g = by_case (root_or_link (state_of c n))
  where
    by_case : IsRootOrLink (state_of c n) → n ≡ follow c k n
    by_case (is_root r) = sym (follow-root c k n r)
    by_case (is_link m e) = let q = d n m e in absurd (omega (arith, q, h))
follow-enough c d (suc j) zero n h g = by_case (root_or_link (state_of c n))
  where
    by_case : IsRootOrLink (state_of c n) → follow c (suc j) n ≡ n
    by_case (is_root r) = follow-root c (suc j) n r
    by_case (is_link m e) = let q = d n m e in absurd (omega (arith, q, g))
follow-enough c d (suc j) (suc k) n h g = by_case (root_or_link (state_of c n)) (follow-enough c d j k)
  where
    by_case : IsRootOrLink (state_of c n) → ((i : ℕ) → i ≤ j → i ≤ k → follow c j i ≡ follow c k i) → follow c (suc j) n ≡ follow c (suc k) n
    by_case (is_root r) rec = follow-root c (suc j) n r ∙ sym (follow-root c (suc k) n r)
    by_case (is_link m e) rec = let q = d n m e in rw e (rec m (omega (arith, q, h)) (omega (arith, q, g)))

pub root_of-root : (c : Content) (n : ℕ) → IsRootState (state_of c n) → root_of c n ≡ n
root_of-root c n h = follow-root c n n h

pub root_of-link : (c : Content) (n m : ℕ) → Descends c → state_of c n ≡ Some (link m) → root_of c n ≡ root_of c m
root_of-link c zero m d e = let q = d zero m e in absurd (omega (arith, q))
root_of-link c (suc n) m d e = let q = d (suc n) m e in rw e (follow-enough c d n m m (omega (arith, q)) (omega arith))

pub root_of-along : (c : Content) (n r : ℕ) → Descends c → Reaches c n r → root_of c n ≡ root_of c r
root_of-along c n r d here = refl
root_of-along c n r d (on {m = m} before e) = root_of-along c n m d before ∙ root_of-link c m r d e

-- the root is where the links end
pub root_of-reaches : (c : Content) (n r : ℕ) → Descends c → Reaches c n r → IsRootState (state_of c r) → root_of c n ≡ r
root_of-reaches c n r d p h = root_of-along c n r d p ∙ root_of-root c r h

pub Reaches-first : (c : Content) (n m r : ℕ) → state_of c n ≡ Some (link m) → Reaches c m r → Reaches c n r
Reaches-first c n m r e here = on here e
Reaches-first c n m r e (on {m = x} before q) = on (Reaches-first c n m x e before) q

pub Reaches-follow : (c : Content) (k n : ℕ) → Reaches c n (follow c k n)
Reaches-follow c zero n = here
Reaches-follow c (suc k) n = by_case (state_of c n) refl (Reaches-follow c k)
  where
    by_case : (o : Option SlotState) → state_of c n ≡ o → ((i : ℕ) → Reaches c i (follow c k i)) → Reaches c n (follow_state (follow c k) n o)
    by_case None e rec = here
    by_case (Some unset) e rec = here
    by_case (Some (link m)) e rec = Reaches-first c n m (follow c k m) e (rec m)
    by_case (Some (known t)) e rec = here

pub Reaches-root_of : (c : Content) (n : ℕ) → Reaches c n (root_of c n)
Reaches-root_of c n = Reaches-follow c n n

IsRootState-follow : (c : Content) → Descends c → (k n : ℕ) → n ≤ k → IsRootState (state_of c (follow c k n))
IsRootState-follow c d zero n h = by_case (root_or_link (state_of c n))
  where
    by_case : IsRootOrLink (state_of c n) → IsRootState (state_of c n)
    by_case (is_root r) = r
    by_case (is_link m e) = let q = d n m e in absurd (omega (arith, q, h))
IsRootState-follow c d (suc k) n h = by_case (root_or_link (state_of c n)) (IsRootState-follow c d k)
  where
    by_case : IsRootOrLink (state_of c n) → ((i : ℕ) → i ≤ k → IsRootState (state_of c (follow c k i))) → IsRootState (state_of c (follow c (suc k) n))
    by_case (is_root r) rec = rw (follow-root c (suc k) n r) r
    by_case (is_link m e) rec = let q = d n m e in let z = rec m (omega (arith, q, h)) in rw e z

pub IsRootState-root_of : (c : Content) (n : ℕ) → Descends c → IsRootState (state_of c (root_of c n))
IsRootState-root_of c n d = IsRootState-follow c d n n (omega arith)

pub root_of-root_of : (c : Content) (n : ℕ) → Descends c → root_of c (root_of c n) ≡ root_of c n
root_of-root_of c n d = root_of-root c (root_of c n) (IsRootState-root_of c n d)

-- a class has one kind
pub kind_at-reaches : (c : Content) (n r : ℕ) → IsSound c → Reaches c n r → kind_at c r ≡ kind_at c n
kind_at-reaches c n r s here = refl
kind_at-reaches c n r s (on {m = m} before e) = s.one_kind m r e ∙ kind_at-reaches c n m s before

pub kind_at-root_of : (c : Content) (n : ℕ) → IsSound c → kind_at c (root_of c n) ≡ kind_at c n
kind_at-root_of c n s = kind_at-reaches c n (root_of c n) s (Reaches-root_of c n)

-- roots of region variables leave the other variables
variable_of-rooted : (c : Content) (o : Option (VariableKind × ℕ)) (l : Label) → variable_of l ≡ o → infer_of (rooted_variable c o l) ≡ infer_of l
variable_of-rooted c None l e = refl
variable_of-rooted c (Some (kind.Ty, n)) l e = refl
variable_of-rooted c (Some (kind.Int, n)) l e = refl
variable_of-rooted c (Some (kind.Float, n)) l e = refl
variable_of-rooted c (Some (kind.Const, n)) l e = refl
variable_of-rooted c (Some (kind.Region, n)) l e = rw e refl

pub infer_of-rooted : (c : Content) (l : Label) → infer_of (rooted_variable c (variable_of l) l) ≡ infer_of l
infer_of-rooted c l = variable_of-rooted c (variable_of l) l refl

LacksAt-map : (o : Option ℕ) (n : ℕ) (P Q : Type 0) → (P → Q) → LacksAt o n P → LacksAt o n Q
LacksAt-map None n P Q f h = f h
LacksAt-map (Some m) n P Q f h = h

pub Lacks-rooted : (c : Content) (n : ℕ) (t : Tree) → Lacks n t → Lacks n (rooted c t)
Lacks-rooted c n empty h = tt
Lacks-rooted c n (more a b) h = (Lacks-rooted c n a h.0, Lacks-rooted c n b h.1)
Lacks-rooted c n (node l t) h = rw (infer_of-rooted c l) (LacksAt-map (infer_of l) n (Lacks n t) (Lacks n (rooted c t)) (Lacks-rooted c n t) h)

rooted_variable-twice : (c : Content) (o : Option (VariableKind × ℕ)) (l : Label) → Descends c → variable_of l ≡ o → rooted_variable c (variable_of (rooted_variable c o l)) (rooted_variable c o l) ≡ rooted_variable c o l
rooted_variable-twice c None l d e = rw e refl
rooted_variable-twice c (Some (kind.Ty, n)) l d e = rw e refl
rooted_variable-twice c (Some (kind.Int, n)) l d e = rw e refl
rooted_variable-twice c (Some (kind.Float, n)) l d e = rw e refl
rooted_variable-twice c (Some (kind.Const, n)) l d e = rw e refl
rooted_variable-twice c (Some (kind.Region, n)) l d e = ap (λ m. label.Leaf (leaf.Variable kind.Region m)) (root_of-root_of c n d)

pub rooted-twice : (c : Content) (t : Tree) → Descends c → rooted c (rooted c t) ≡ rooted c t
rooted-twice c empty d = refl
rooted-twice c (more a b) d = cc (rooted-twice c a d, rooted-twice c b d)
rooted-twice c (node l t) d = cc (rooted_variable-twice c (variable_of l) l d refl, rooted-twice c t d)
